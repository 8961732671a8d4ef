use Rattle.std.proofs.Common.{◌≡◌, ◌++◌, ◌-◌, ◌≤◌, length, drop}
use Rattle.std.specs.Option.{option_map}
use Rattle.wl_recording.specs.Line.{bytes_in}
use Rattle.wl_recording.proofs.hex.decode.Given as goal

-- the bytes so far, and those that the rest spells, are those that the text spells
abbrev pub invariant-loop-at : goal.invariant-loop-at
invariant-loop-at g l = record {
  within : l.at ≤ length l.text;
  spelt : option_map (λ rest. l.bytes.items ++ rest) (bytes_in (drop l.at l.text)) ≡ bytes_in l.text;
}

abbrev pub decreases-loop-at : goal.decreases-loop-at
decreases-loop-at g l = length l.text - l.at

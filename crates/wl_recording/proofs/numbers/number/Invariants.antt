use Rattle.std.proofs.Common.{◌≡◌, ◌<◌, ◌^◌, true, take}
use Rattle.std.specs.List.{list_all}
use Rattle.wl_recording.specs.Line.{is_digit, value_of}
use Rattle.wl_recording.proofs.numbers.number.Given as goal

-- the bytes so far are digits, and spell this number
abbrev pub invariant-loop-b : goal.invariant-loop-b
invariant-loop-b l = record {
  digits : list_all is_digit (take l.b-index l.word) ≡ true;
  value : l.value ≡ value_of (take l.b-index l.word);
  small : l.value < 2 ^ 32;
}

use Rattle.std.proofs.Common.{◌≡◌, ◌++◌, ◌≤◌, length, drop}
use Rattle.wl_wire.specs.Wire.{args_bytes, IsPrefix}
use Rattle.wl_wire.proofs.writing.put_args.Given as goal

-- what is written, and what is left to write, spell them all
abbrev pub invariant-loop-arg : goal.invariant-loop-arg
invariant-loop-arg g l = record {
  told : l.out.items ++ args_bytes (drop l.arg-index l.args) ≡ l.fn.out.items ++ args_bytes l.args;
  left : length (args_bytes (drop l.arg-index l.args)) ≤ length (args_bytes l.args);
  more : IsPrefix l.fn.out.items l.out.items;
}

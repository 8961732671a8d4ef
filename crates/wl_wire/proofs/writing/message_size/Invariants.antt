use Rattle.std.proofs.Common.{◌≡◌, ◌+◌, ◌≤◌, length, drop}
use Rattle.wl_wire.specs.Wire.{args_bytes}
use Rattle.wl_wire.proofs.writing.message_size.Given as goal

abbrev pub invariant-loop-arg : goal.invariant-loop-arg
invariant-loop-arg l = record {
  told : l.size + length (args_bytes (drop l.arg-index l.args)) ≡ 8 + length (args_bytes l.args);
  small : l.size ≤ 65532;
}

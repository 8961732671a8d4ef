use Rattle.std.proofs.Common.{◌≡◌, ◌++◌}
use Rattle.wl_paint.specs.Frame.{filled}
use Rattle.wl_paint.proofs.framebuffer.fill.Given as goal

-- as many pixels as were counted were appended
abbrev pub invariant-loop : goal.invariant-loop
invariant-loop g l = l.bytes.items ≡ l.initial.bytes.items ++ filled l.counter l.fn.color

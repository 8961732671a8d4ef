use Rattle.std.proofs.Common.{take}
use Rattle.wl_scene.proofs.Spans.{IsPartlyMarked}
use Rattle.wl_scene.proofs.marking.mark_damage.Given as goal

abbrev pub invariant-loop-rect : goal.invariant-loop-rect
invariant-loop-rect g l = IsPartlyMarked l.window (take l.rect-index l.rects) l.fn.damage l.damage

use Rattle.law_desktop.proofs.InOrder.Sound.{in_order_is_sound}
use Rattle.law_desktop.proofs.invariants.in_order.in_order_is_sound.Goals as goal

pub returns : goal.returns
returns c = in_order_is_sound

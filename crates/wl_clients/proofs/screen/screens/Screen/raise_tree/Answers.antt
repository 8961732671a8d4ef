use Rattle.std.proofs.Common.{◌∙◌, Bool, Some, None, subst, sym}
use Rattle.std.specs.Prelude.{if◌then◌else◌}
use Rattle.wl_clients.specs.Marking.{MarksMostBy}
use Rattle.wl_clients.specs.Raising.{with_raised}
use Rattle.wl_clients.specs.View.{pile_of}
use Rattle.wl_clients.proofs.OnScreen.Rising.{inside-so, raised-least, raised-most, seated-raised, seated-still, topmost-same, unmarked-least}
use Rattle.wl_clients.proofs.screen.screens.Screen.raise_tree.Goals as goal

pub returns-then-not-is_topmost-clause-raises : goal.returns-then-not-is_topmost-clause-raises
returns-then-not-is_topmost-clause-raises g c = λ v others base d r surface before orderly named.
    seated-raised c.args.client others base d r v (pile_of c.args.self.now) before orderly surface c.args.toplevel named (pile_of c.bring_up.new.self) c.bring_up.ensures.standing
    c.bring_up.ensures.next c.bring_up.ensures.windows

pub returns-then-not-is_topmost-clause-marks : goal.returns-then-not-is_topmost-clause-marks
returns-then-not-is_topmost-clause-marks g c = λ v others base d r surface before orderly named.
    raised-least c.args.client others base d r v (pile_of c.args.self.now) before orderly surface c.args.toplevel named c.args.self.now.damage c.bring_up.new.self.damage
    c.bring_up.ensures.points

pub returns-then-not-is_topmost-clause-most : goal.returns-then-not-is_topmost-clause-most
returns-then-not-is_topmost-clause-most g c = λ v others base d r surface width height before orderly named.
    subst (λ (b : Bool). MarksMostBy (if b then None else Some (c.args.client, surface)) d (with_raised c.args.client surface d) c.args.self.now.damage c.bring_up.new.self.damage)
    (sym (sym (topmost-same c.args.client others base d r v (pile_of c.args.self.now) before orderly surface c.args.toplevel named)
    ∙ (sym c.is_topmost.ensures ∙ c.if-not-is_topmost.true)))
    (raised-most c.args.client others base d r v (pile_of c.args.self.now) before orderly surface c.args.toplevel named c.args.self.now.damage c.bring_up.new.self.damage
    c.bring_up.ensures.points (inside-so d c.args.self.now.damage width height))

pub returns-else-not-is_topmost-clause-raises : goal.returns-else-not-is_topmost-clause-raises
returns-else-not-is_topmost-clause-raises g c = λ v others base d r surface before orderly named.
    seated-still c.args.client others base d r v (pile_of c.args.self.now) before orderly surface c.args.toplevel named (sym c.is_topmost.ensures ∙ c.if-not-is_topmost.false)

pub returns-else-not-is_topmost-clause-marks : goal.returns-else-not-is_topmost-clause-marks
returns-else-not-is_topmost-clause-marks g c = λ v others base d r surface before orderly named.
    unmarked-least c.args.client others base d r v (pile_of c.args.self.now) before orderly surface c.args.toplevel named (sym c.is_topmost.ensures ∙ c.if-not-is_topmost.false)
    c.args.self.now.damage

use Rattle.wl_scene.specs.Focus.{target_of}
use Rattle.wl_desk.proofs.LetGo.{let-go, none-kept, standing-kept}
use Rattle.std.proofs.Common.{sym, ◌∙◌}
use Rattle.wl_desk.proofs.desks.Desk.let_go.Goals as goal

pub returns-in_default-clause-pointer : goal.returns-in_default-clause-pointer
returns-in_default-clause-pointer g c = λ e kept.
    rw (← c.self.view_is) (none-kept c.self.inside.pointer e.standing c.in_default.ensures)

pub returns-then-stands-clause-pointer : goal.returns-then-stands-clause-pointer
returns-then-stands-clause-pointer g c = λ e kept.
    rw (← c.self.view_is) (standing-kept c.self.inside.pointer e.standing (target_of c.in-Some.toplevel) c.in-Some.ensures (sym c.if-stands.true ∙ c.stands.ensures e kept))

pub returns-clause-pointer : goal.returns-clause-pointer
returns-clause-pointer g c = λ e kept.
    rw (← c.self.view_is) (c.end_move.ensures ∙ let-go c.self.inside.pointer e.standing (target_of c.in-Some.toplevel) c.in-Some.ensures (sym c.if-stands.false ∙ c.stands.ensures e kept))

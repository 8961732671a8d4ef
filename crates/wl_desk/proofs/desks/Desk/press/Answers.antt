use Rattle.std.proofs.Common.{◌≡◌, map, subst, sym, true, ◌∙◌}
use Rattle.wl_paint.specs.Damage.{Damaged}
use Rattle.wl_scene.specs.Marking.{IsAsLarge}
use Rattle.spec_desktop.specs.Pointer.{is_press}
use Rattle.wl_scene.specs.Focus.{action_of, target_or_none}
use Rattle.wl_desk.proofs.Calls.{large-on}
use Rattle.wl_desk.proofs.Presses.{presses, presses-not}
use Rattle.wl_desk.proofs.desks.Desk.press.Goals as goal

pub returns-then-not-is_press-clause-leads : goal.returns-then-not-is_press-clause-leads
returns-then-not-is_press-clause-leads g c =
    rw (← c.self.view_is) (λ new ends. presses-not c.args.time c.args.button c.self.inside.clients (map (λ s. s.items) c.self.inside.seats.items) c.self.inside.latest.items c.self.inside.pointer _
    (sym c.is_press.ensures ∙ c.if-not-is_press.true) new ends)

pub returns-clause-leads : goal.returns-clause-leads
returns-clause-leads g c =
    let counts : is_press c.args.button c.self.inside.pointer.buttons ≡ true = sym c.is_press.ensures ∙ c.if-not-is_press.false in
    rw (← c.self.view_is) (λ new ends. presses c.args.time c.args.button c.self.inside.clients (map (λ s. s.items) c.self.inside.seats.items) c.self.inside.latest.items c.self.inside.pointer
    c.press-actions.new.self c.begin_hold.new.self (target_or_none c.toplevel_hit-toplevel.result) c.grab_holder-holder.result c.hold_serial-serial.result
    (map action_of c.press-actions.result.items) c.raise.new.self c.release_grabs.new.self c.apply_all.new.self c.settle_now.new.self new counts (λ m telling. c.toplevel_hit-toplevel.ensures.hit m (rw (← c.self.view_is) telling))
    (rw (← c.self.view_is) at c.toplevel_hit-toplevel.ensures.number) (λ d a. c.hold_serial-serial.ensures d (rw (← c.self.view_is) a))
    c.grab_holder-holder.ensures
    (c.press-actions.ensures.acts counts) (c.press-actions.ensures.keeps counts) c.begin_hold.ensures c.raise.ensures.raises c.raise.ensures.marks c.raise.ensures.sides
    c.raise.ensures.pointer (rw c.released_by.ensures at c.release_grabs.ensures.releases) c.release_grabs.ensures.sides c.release_grabs.ensures.pointer c.apply_all.ensures.told c.apply_all.ensures.pointer c.apply_all.ensures.damage c.settle_now.ensures.settles c.settle_now.ensures.damage ends)

pub returns-clause-sides : goal.returns-clause-sides
returns-clause-sides g c =
    rw (← c.self.view_is) (subst (λ (w : Damaged). IsAsLarge c.self.inside.clients.damage w) (sym (c.settle_now.ensures.damage ∙ c.apply_all.ensures.damage))
    (large-on c.self.inside.clients.damage c.raise.new.self.damage c.release_grabs.new.self.damage c.raise.ensures.sides c.release_grabs.ensures.sides))

pub returns-clause-output : goal.returns-clause-output
returns-clause-output g c = rw (← c.self.view_is) (c.settle_now.ensures.output ∙ c.apply_all.ensures.output ∙ c.release_grabs.ensures.output ∙ c.raise.ensures.output)

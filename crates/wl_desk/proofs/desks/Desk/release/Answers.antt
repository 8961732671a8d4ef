use Rattle.std.proofs.Common.{◌≡◌, map, refl, subst, sym, true, ◌∙◌}
use Rattle.wl_paint.specs.Damage.{Damaged}
use Rattle.wl_scene.specs.Marking.{IsAsLarge}
use Rattle.spec_desktop.specs.Pointer.{is_down}
use Rattle.wl_scene.specs.Focus.{action_of}
use Rattle.wl_desk.proofs.Presses.{releases, releases-not}
use Rattle.wl_desk.proofs.desks.Desk.release.Goals as goal

pub returns-then-not-is_down-clause-leads : goal.returns-then-not-is_down-clause-leads
returns-then-not-is_down-clause-leads g c =
    rw (← c.self.view_is) (λ new ends. releases-not c.args.time c.args.button c.self.inside.clients (map (λ s. s.items) c.self.inside.seats.items) c.self.inside.latest.items c.self.inside.pointer _
    (sym c.is_down.ensures ∙ c.if-not-is_down.true) new ends)

pub returns-clause-leads : goal.returns-clause-leads
returns-clause-leads g c =
    let counts : is_down c.args.button c.self.inside.pointer.buttons ≡ true = sym c.is_down.ensures ∙ c.if-not-is_down.false in
    rw (← c.self.view_is) (λ new ends. releases c.args.time c.args.button c.self.inside.clients (map (λ s. s.items) c.self.inside.seats.items) c.self.inside.latest.items c.self.inside.pointer
    c.release-actions.new.self (map action_of c.release-actions.result.items) c.apply_all.new.self c.settle_now.new.self new counts (c.release-actions.ensures.acts counts)
    (c.release-actions.ensures.keeps counts) c.apply_all.ensures.told c.apply_all.ensures.pointer c.apply_all.ensures.damage c.settle_now.ensures.settles c.settle_now.ensures.damage ends)

pub returns-clause-sides : goal.returns-clause-sides
returns-clause-sides g c =
    rw (← c.self.view_is) (subst (λ (w : Damaged). IsAsLarge c.self.inside.clients.damage w) (sym (c.settle_now.ensures.damage ∙ c.apply_all.ensures.damage)) (record { width = refl; height = refl }))

pub returns-clause-output : goal.returns-clause-output
returns-clause-output g c = rw (← c.self.view_is) (c.settle_now.ensures.output ∙ c.apply_all.ensures.output)

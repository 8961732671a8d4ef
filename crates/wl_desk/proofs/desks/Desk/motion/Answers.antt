use Rattle.std.proofs.Common.{◌≡◌, [], Some, ap, ap₂, arith, map, of_z, subst, sym, to_z, w32, ◌∙◌}
use Rattle.std.proofs.lemmas.Int.{ints}
use Rattle.spec_desktop.specs.Happens.{within}
use Rattle.spec_desktop.specs.PointerActions.{move_of}
use Rattle.wl_paint.specs.Damage.{Damaged}
use Rattle.wl_scene.specs.Marking.{IsAsLarge}
use Rattle.wl_scene.specs.Focus.{action_of, target_or_none}
use Rattle.wl_desk.proofs.Calls.{desk_with}
use Rattle.wl_desk.proofs.Moving.{moves, place_at, point-held}
use Rattle.wl_desk.proofs.desks.Desk.motion.Goals as goal

pub returns-clause-leads : goal.returns-clause-leads
returns-clause-leads g c =
    let x-is : to_z w32 (of_z w32 c.args.x) ≡ c.args.x = omega (arith, ints) in
    let y-is : to_z w32 (of_z w32 c.args.y) ≡ c.args.y = omega (arith, ints) in
    let i-is : to_z w32 (of_z w32 c.within.result) ≡ c.within.result = omega (arith, ints) in
    let j-is : to_z w32 (of_z w32 c.within-2.result) ≡ c.within-2.result = omega (arith, ints) in
    rw (← c.self.view_is) (λ new ends. moves c.args.time c.args.x c.args.y c.self.inside.clients (map (λ s. s.items) c.self.inside.seats.items) c.self.inside.latest.items c.self.inside.pointer c.motion-moves.new.self
    c.went-actions.new.self (record { x = c.within.result; y = c.within-2.result }) (map action_of c.motion-moves.result.items) (target_or_none c.seen-hit.result.0) c.seen-hit.result.1
    (map action_of c.went-actions.result.items) (desk_with c.self-2.inside.clients (map (λ s. s.items) c.self-2.inside.seats.items) c.self-2.inside.latest.items c.self-2.inside.pointer) c.apply_all.new.self
    new
    (point-held c.self.inside.clients c.output-output.result c.args.x c.args.y c.within.result c.within-2.result c.output-output.ensures
    (c.within.ensures ∙ ap (within c.output-output.result.width) x-is) (c.within-2.ensures ∙ ap (within c.output-output.result.height) y-is))
    (c.motion-moves.ensures.keeps ∙ ap₂ (λ i j. record c.self.inside.pointer { place = Some (place_at i j) }) i-is j-is)
    (c.motion-moves.ensures.acts [] ∙ ap₂ (λ i j. move_of c.self.inside.pointer.place (place_at i j) c.self.inside.pointer.move) i-is j-is)
    (rw (← c.self-2.view_is) at c.drag.ensures.moves) (rw (← c.self-2.view_is) at c.drag.ensures.marks) (rw (← c.self-2.view_is) at c.drag.ensures.sides)
    (rw (← c.self-2.view_is) at c.drag.ensures.pointer) (rw (← c.self-2.view_is) at c.seen-hit.ensures) c.went-actions.ensures.acts c.went-actions.ensures.keeps
    c.apply_all.ensures.tells c.apply_all.ensures.pointer c.apply_all.ensures.damage ends)

pub returns-clause-sides : goal.returns-clause-sides
returns-clause-sides g c =
    rw (← c.self.view_is) (subst (λ (w : Damaged). IsAsLarge c.self.inside.clients.damage w) (sym c.apply_all.ensures.damage) (rw (← c.self-2.view_is) at c.drag.ensures.sides))

pub returns-clause-output : goal.returns-clause-output
returns-clause-output g c =
    rw (← c.self.view_is) (c.apply_all.ensures.output ∙ (rw (← c.self-2.view_is) at c.drag.ensures.output))

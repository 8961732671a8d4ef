use Rattle.std.proofs.Common.{ℕ, ◌≤◌, ◌<◌, ap, arith, map, ◌∙◌}
use Rattle.wl_scene.specs.Focus.{target_or_none}
use Rattle.spec_desktop.specs.Desktop.{unpointed}
use Rattle.wl_clients.specs.Feeding.{served_of}
use Rattle.wl_desk.proofs.Calls.{large-on}
use Rattle.wl_desk.proofs.Followed.{served-whole, status-at}
use Rattle.wl_desk.proofs.Taking.{desk_with}
use Rattle.wl_desk.proofs.desks.Desk.serve.Goals as goal

pub returns-clause-leads : goal.returns-clause-leads
returns-clause-leads g c = λ more ended new ends settles.
    served-whole c.args.client c.in-Some.taken.changes_hits c.is_still-self-inside.result c.status-fed.result c.in-Some.taken.pointer c.movable-movable.result (target_or_none c.to_move.result) c.args.self.now c.take.new.self
    (desk_with c.self-2.inside.clients (map (λ s. s.items) c.self-2.inside.seats.items) c.self-2.inside.latest.items c.self-2.inside.pointer c.self-2.inside.is_settled) ended new
    c.movable-movable.ensures c.to_move.ensures c.in-Some.ensures.took (rw (← c.self-2.view_is) at c.follow.ensures.follows) c.in-Some.ensures.hits
    (status-at c.args.client c.self.inside.clients _ _ c.self.inside.pointer _ c.take.new.self c.status-fed.result c.self.view_is c.status-fed.ensures) c.is_still-self-inside.ensures.still ends settles

pub returns-clause-told : goal.returns-clause-told
returns-clause-told g c = λ more d a.
    c.served_of.ensures ∙ ap served_of (c.status.ensures (unpointed d) a.kept)

pub returns-clause-sides : goal.returns-clause-sides
returns-clause-sides g c = rw (← c.self-2.view_is) at (large-on _ _ _ c.in-Some.ensures.sides c.follow.ensures.sides)

less-on : (k m n : ℕ) → k ≤ m → m < n → k < n
less-on k m n below above = omega (arith, below, above)

pub returns-clause-less : goal.returns-clause-less
returns-clause-less g c = λ more. rw (← c.self-2.view_is) at (less-on _ _ _ (c.follow.ensures.rests c.args.client) c.in-Some.ensures.less)

pub returns-clause-output : goal.returns-clause-output
returns-clause-output g c = rw (← c.self-2.view_is) at (c.follow.ensures.output ∙ c.in-Some.ensures.output)

use Rattle.std.proofs.Common.{◌≡◌, refl, subst, sym, w32}
use Rattle.std.proofs.lemmas.Int.{to_z-of_z}
use Rattle.wl_links.specs.Stacks.{moved}
use Rattle.wl_links.specs.Family.{at_parent, links_in, pending_as, stacks_in}
use Rattle.wl_surface.specs.Request.{SetPosition}
use Rattle.wl_surface.proofs.Placing.{moves-child}
use Rattle.wl_surface.proofs.Standing.{asked-stands}
use Rattle.wl_surface.proofs.Ending.{never-none}
use Rattle.wl_surface.proofs.surfaces.Surfaces.set_position.Goals as goal

pub returns-then-is_none-clause-ok : goal.returns-then-is_none-clause-ok
returns-then-is_none-clause-ok g c = λ all number link is stand.
    never-none c.args.self.now.states c.args.self.now.family all number c.args.child link c.link.result is stand c.link.ensures c.if-is_none.ensures

pub returns-clause-ok : goal.returns-clause-ok
returns-clause-ok g c = rw (← c.self.view_is) (λ all number link is stand.
    let v = c.self.inside in
    asked-stands v.states v.family c.set_position.new.self all link.parent (SetPosition number c.args.x c.args.y) refl c.set_position.ensures.places stand
    (moves-child v.family c.set_position.new.self all number link c.args.x c.args.y is.here is.lives c.set_position.ensures.links
    (subst (λ n. stacks_in c.set_position.new.self ≡ at_parent (λ parent. pending_as (moved n c.args.x c.args.y)) (links_in v.family n) (stacks_in v.family)) (sym is.of_child)
    (simp (to_z-of_z w32 c.args.x c.ranges.x, to_z-of_z w32 c.args.y c.ranges.y) at c.in_ok-set_position.ensures.stacks)) stand.hang))

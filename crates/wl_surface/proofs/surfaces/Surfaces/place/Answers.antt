use Rattle.std.proofs.Common.{◌∙◌}
use Rattle.wl_links.specs.Stacks.{beside, placed}
use Rattle.wl_links.specs.Family.{member_of}
use Rattle.wl_surface.specs.Stacks.{place_request}
use Rattle.wl_surface.proofs.Placing.{about-placing, places-child}
use Rattle.wl_surface.proofs.Standing.{asked-stands, sibling-placed}
use Rattle.wl_surface.proofs.Ending.{never-none}
use Rattle.wl_surface.proofs.surfaces.Surfaces.place.Goals as goal
use Rattle.wl_surface.proofs.surfaces.Surfaces.place.Goals.{in-Ok, in-Err}

pub returns-then-is_none-clause-ok : goal.returns-then-is_none-clause-ok
returns-then-is_none-clause-ok g c = λ all number link at is kept stand.
    never-none c.args.self.now.states c.args.self.now.family all number c.args.child link c.link.result is stand c.link.ensures c.if-is_none.ensures

pub returns-clause-ok : goal.returns-clause-ok
returns-clause-ok g c = elim c.match-place.branch [
  | in-Ok w ↦ rw (← c.self.view_is, w.result-is) (λ all number link at is kept stand.
      let v = c.self.inside in
      let side = c.args.side in
      asked-stands v.states v.family c.place.new.self all link.parent (place_request side number at) (about-placing side number at) c.place.ensures.places stand
      (places-child side v.family c.place.new.self all number link at (member_of link.parent c.args.sibling) is.here is.lives kept c.place.ensures.links stand.hang
      (w.in-Ok.ensures.stacks ∙ sibling-placed (placed (beside side)) v.family all number link c.args.child c.args.sibling is stand.hang)))
  | in-Err w ↦ rw w.result-is tt
]

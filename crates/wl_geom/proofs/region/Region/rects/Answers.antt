use Rattle.std.proofs.Common.{◌∙◌, ◌&&◌, ap, sym}
use Rattle.wl_geom.specs.Rect.{bit, is_point}
use Rattle.wl_geom.specs.Region.{holds}
use Rattle.wl_geom.proofs.Changes.{held-of}
use Rattle.wl_geom.proofs.Counts.{bit-small}
use Rattle.wl_geom.proofs.region.Region.rects.Goals as goal

pub returns-clause-cover : goal.returns-clause-cover
returns-clause-cover g c changes stands x y =
    let counted = simp c.deref.ensures.value at (c.in_ok-rects_of.ensures x y) in
    counted
    ∙ ap (λ b. bit (is_point x y && b)) (sym (held-of x y c.self.inside.edits.items))
    ∙ ap (λ cs. bit (holds x y cs)) (ap (λ v. v.made) c.self.view_is ∙ stands.listed)

pub returns-clause-disjoint : goal.returns-clause-disjoint
returns-clause-disjoint g c x y = rw (c.in_ok-rects_of.ensures x y) (bit-small _)

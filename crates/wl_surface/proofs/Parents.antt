-- The links of a client, and those that are kept of them.
use Rattle.std.proofs.Common.{◌≡◌, ℕ, zero, suc, ◌||◌, ◌==◌, false, Option, Some, None, refl, ap}
use Rattle.std.specs.Option.{option_map, option_map_or}
use Rattle.wl_links.specs.declared.link.Link.{Link as Kept}
use Rattle.wl_links.specs.Family.{behaves_synchronised as behaves_by, parents_of}
use Rattle.wl_surface.specs.Surfaces.{Link}
use Rattle.wl_surface.specs.Trees.{behaves_synchronised, depth, descends_from, link_of, of_parent}
use Rattle.wl_links.specs.Trees.{depth_by, is_under}
use Rattle.wl_surface.specs.TreeLaws.{HaveSameDepth, HaveSameDescent, HaveSameModes, links_of}

-- what is kept of a link
abbrev pub kept_of : Link → Kept
kept_of l = record { parent = l.parent; is_synchronised = l.synchronised }

-- What holds of the parent holds of it by what is kept.
by-parent : {X : Type 0} (none : X) (f g : ℕ → X) → ((parent : ℕ) → f parent ≡ g parent) → (o : Option Link)
    → of_parent none f o ≡ option_map_or g (option_map (λ (l : Kept). l.parent) (option_map kept_of o)) none
by-parent none f g same None = refl
by-parent none f g same (Some l) = same l.parent

pub same-depth : HaveSameDepth
unfolding depth depth_by
same-depth all zero surface = refl
same-depth all (suc n) surface =
    by-parent 0 (λ parent. suc (depth n all parent)) (λ parent. suc (depth_by n (parents_of (links_of all)) parent)) (λ parent. ap suc (same-depth all n parent)) (link_of surface all)

pub same-descent : HaveSameDescent
unfolding descends_from is_under
same-descent all zero top surface = refl
same-descent all (suc n) top surface =
    ap (λ b. surface == top || b)
    (by-parent false (λ parent. descends_from n all top parent) (λ parent. is_under n (parents_of (links_of all)) top parent) (λ parent. same-descent all n top parent) (link_of surface all))

pub same-modes : HaveSameModes
unfolding behaves_synchronised behaves_by
same-modes all zero surface = refl
same-modes all (suc n) surface = at (link_of surface all) refl (λ parent. same-modes all n parent)
  where
    at : (o : Option Link) → link_of surface all ≡ o → ((parent : ℕ) → behaves_synchronised n all parent ≡ behaves_by n (links_of all) parent)
        → behaves_synchronised (suc n) all surface
        ≡ option_map_or (λ (l : Kept). l.is_synchronised || behaves_by n (links_of all) l.parent) (option_map kept_of o) false
    at None e same = rw e refl
    at (Some l) e same = rw e (ap (λ b. l.synchronised || b) (same l.parent))

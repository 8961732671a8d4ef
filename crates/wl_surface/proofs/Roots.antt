-- The root of a surface's tree, by definition and of what is kept.
use Rattle.std.proofs.Common.{◌≡◌, ℕ, ◌≤◌, true, Option, Some, None, List, refl, ap, sym, ◌∙◌}
use Rattle.std.specs.Option.{option_map}
use Rattle.wl_links.specs.declared.link.Link.{Link as Kept}
use Rattle.wl_links.specs.Family.{parents_of, root_by}
use Rattle.wl_links.proofs.Roots.{no-parent, root-none, root-only, root-over}
use Rattle.wl_links.proofs.Depths.{same-below}
use Rattle.wl_surface.specs.Surfaces.{Link, Surfaces}
use Rattle.wl_surface.specs.Trees.{descends_from, levels, link_of}
use Rattle.wl_links.specs.declared.trees.Place.{Place}
use Rattle.wl_links.specs.Trees.{Parents, StandFor, level_at}
use Rattle.wl_surface.specs.TreeLaws.{HasOneRoot, links_of}
use Rattle.wl_surface.proofs.Parents.{kept_of, same-descent}

no-link : (all : Surfaces) (surface : ℕ) → links_of all surface ≡ None → link_of surface all ≡ None
no-link all surface none = at (link_of surface all) none
  where
    at : (o : Option Link) → option_map kept_of o ≡ None → o ≡ None
    at None e = refl
    at (Some l) e = absurd (cc)

no-parents : (all : Surfaces) (surface : ℕ) → link_of surface all ≡ None → parents_of (links_of all) surface ≡ None
no-parents all surface none = ap (λ (o : Option Link). option_map (λ (l : Kept). l.parent) (option_map kept_of o)) none

module _ (all : Surfaces) (places : List Place) (stand : StandFor places (parents_of (links_of all))) (within : (index : ℕ) → level_at index places ≤ 16) (surface : ℕ) where
  abbrev parents : Parents
  parents = parents_of (links_of all)

  abbrev root : ℕ
  root = root_by 16 parents surface

  is-root : link_of root all ≡ None
  is-root = no-link all root (no-parent (links_of all) root (root-none parents places stand within surface))

  is-above : descends_from levels all root surface ≡ true
  is-above = same-descent all levels root surface ∙ same-below parents places stand within root surface ∙ root-over parents places stand within 16 surface

  is-only : (n other : ℕ) → link_of other all ≡ None → descends_from n all other surface ≡ true → other ≡ root
  is-only n other none descends =
      root-only parents places stand within n other surface (no-parents all other none) (sym (same-descent all n other surface) ∙ descends)

pub has-one-root : HasOneRoot
has-one-root all places stand within surface = record {
  unlinked = is-root all places stand within surface;
  above = is-above all places stand within surface;
  only = is-only all places stand within surface;
}

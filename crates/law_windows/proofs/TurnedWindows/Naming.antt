-- The root of a surface's tree, by the numbers of the surfaces and by their ids (wayland.xml, wl_subsurface).
use Rattle.std.proofs.Common.{◌≡◌, ℕ, zero, suc, ◌==◌, true, Option, Some, None, refl, ap, sym, subst, ◌∙◌, inl, inr, ◌⊎◌, eqb-true, arith}
use Rattle.std.specs.Prelude.{is_some}
use Rattle.std.specs.Option.{option_map, option_map_or}
use Rattle.wl_links.specs.declared.link.Link.{Link as Kept}
use Rattle.wl_links.specs.Family.{Tied, links_in, parents_of, root_by}
use Rattle.spec_desktop.specs.Objects.{ById}
use Rattle.wl_surface.specs.Slots.{Slots}
use Rattle.wl_surface.specs.Surfaces.{Link, Surfaces}
use Rattle.wl_surface.specs.Trees.{descends_from, levels, link_of}
use Rattle.wl_links.specs.Trees.{Parents}
use Rattle.wl_surface.specs.Hanging.{AreNumbered}
use Rattle.wl_surface.specs.TreeLaws.{links_of}
use Rattle.law_desktop.specs.Soundness.{AreTrees}
use Rattle.law_desktop.specs.Renaming.{IsRenaming, has_surface, renamed, renamed_link}
use Rattle.law_desktop.proofs.ByNames.Names.Known.{keeps-descent, known-there, reads-surfaces}
use Rattle.law_desktop.proofs.ByNames.Names.Reading.{parent-known}
use Rattle.law_desktop.specs.TreeStepsLaws.{IsRootOf}
use Rattle.law_desktop.proofs.TreeSteps.Descents.{at-top, at-zero, by-parent, either-way, has-root, is-top, roots-apart, within}
use Rattle.law_desktop.specs.Owning.{AreKept, number_in}
use Rattle.law_desktop.proofs.Keeping.OwningTies.{named-there, number-of-name, renaming-of}

-- ---- the surface that is reached by going from child to parent

-- stands over the one that this begins with
root-over : (n : ℕ) (parents : Parents) (all : Surfaces) → ((s : ℕ) → parents s ≡ option_map (λ (l : Link). l.parent) (link_of s all)) → (s : ℕ)
    → descends_from n all (root_by n parents s) s ≡ true
unfolding root_by
root-over zero parents all same s = at-top zero all s s refl
root-over (suc n) parents all same s = at (link_of s all) refl (λ parent. root-over n parents all same parent)
  where
    at : (o : Option Link) → link_of s all ≡ o → ((parent : ℕ) → descends_from n all (root_by n parents parent) parent ≡ true)
        → descends_from (suc n) all (option_map_or (root_by n parents) (parents s) s) s ≡ true
    at None e next =
        subst (λ (p : Option ℕ). descends_from (suc n) all (option_map_or (root_by n parents) p s) s ≡ true)
        (sym (same s ∙ ap (λ (o : Option Link). option_map (λ (l : Link). l.parent) o) e)) (at-top (suc n) all s s refl)
    at (Some l) e next =
        subst (λ (p : Option ℕ). descends_from (suc n) all (option_map_or (root_by n parents) p s) s ≡ true)
        (sym (same s ∙ ap (λ (o : Option Link). option_map (λ (l : Link). l.parent) o) e))
        (by-parent n all (root_by n parents l.parent) s l e (next l.parent))

-- a surface over one that is there is there
above-there : (f : ℕ → ℕ) (all : Surfaces) → IsRenaming f all → (n top id : ℕ) → has_surface id all ≡ true → descends_from n all top id ≡ true → has_surface top all ≡ true
above-there f all is zero top id there under = subst (λ (x : ℕ). has_surface x all ≡ true) (at-zero all top id under) there
above-there f all is (suc n) top id there under = at (link_of id all) refl (λ parent known under. above-there f all is n top parent known under)
  where
    at : (o : Option Link) → link_of id all ≡ o → ((parent : ℕ) → has_surface parent all ≡ true → descends_from n all top parent ≡ true → has_surface top all ≡ true)
        → has_surface top all ≡ true
    at None e next = subst (λ (x : ℕ). has_surface x all ≡ true) (is-top (suc n) all top id e under) there
    at (Some l) e next = by (either-way n all top id l e under)
      where
        by : ((id == top) ≡ true) ⊎ (descends_from n all top l.parent ≡ true) → has_surface top all ≡ true
        by (inl same) = subst (λ (x : ℕ). has_surface x all ≡ true) (eqb-true id top same) there
        by (inr over) = next l.parent (parent-known (known-there f all is) id l e) over

no-link : (all : Surfaces) (surface : ℕ) → links_of all surface ≡ None → link_of surface all ≡ None
no-link all surface none = at (link_of surface all) none
  where
    at : (o : Option Link) → option_map (λ (l : Link). let k : Kept = record { parent = l.parent; is_synchronised = l.synchronised } in k) o ≡ None → o ≡ None
    at None e = refl
    at (Some l) e = absurd (cc)

same-parent : (o : Option Link) → option_map (λ (l : Kept). l.parent) (option_map (λ (l : Link). let k : Kept = record { parent = l.parent; is_synchronised = l.synchronised } in k) o)
    ≡ option_map (λ (l : Link). l.parent) o
same-parent None = refl
same-parent (Some l) = refl

-- ---- by its number and by its id

module _ (numbers : ById ℕ) (slots : Slots) (tied : Tied) (all : Surfaces) (is : AreKept numbers slots tied all) (trees : AreTrees all) (numbered : AreNumbered all.links) (id number : ℕ)
    (named : numbers id ≡ Some number) (none : links_in tied (root_by 16 (parents_of (links_in tied)) number) ≡ None) where
  abbrev f : ℕ → ℕ
  f x = number_in numbers x

  abbrev those : Surfaces
  those = renamed f all

  abbrev parents : Parents
  parents = parents_of (links_in tied)

  abbrev k : ℕ
  k = root_by 16 parents number

  renaming : IsRenaming f all
  renaming = renaming-of numbers slots tied all is

  there : has_surface id all ≡ true
  there = sym (is.numbered id) ∙ ap is_some named

  abbrev one : (root : ℕ) × IsRootOf all id root
  one = has-root all trees numbered id

  there-root : has_surface one.0 all ≡ true
  there-root = above-there f all renaming levels one.0 id there one.1.under

  by-links : (s : ℕ) → parents s ≡ option_map (λ (l : Link). l.parent) (link_of s those)
  by-links s = ap (option_map (λ (l : Kept). l.parent)) (is.hang.0.links s) ∙ same-parent (link_of s those)

  over : descends_from levels those k (f id) ≡ true
  over =
      within 16 levels those k (f id) (omega (arith))
      (subst (λ (x : ℕ). descends_from 16 those k x ≡ true) (sym (number-of-name numbers id number named)) (root-over 16 parents those by-links number))

  same : k ≡ f one.0
  same =
      roots-apart those k (f one.0) (f id) (no-link those k (sym (is.hang.0.links k) ∙ none))
      ((reads-surfaces f all renaming one.0 there-root).link ∙ ap (option_map (renamed_link f)) one.1.top) over
      (keeps-descent f all renaming levels one.0 id there-root there ∙ one.1.under)

  -- The root of a surface's tree that is reached by numbers is that of the surface, by its number.
  pub root-is-named : (root : ℕ) × IsRootOf all id root × (numbers root ≡ Some k)
  root-is-named = (one.0, one.1, named-there numbers all is.numbered is.once one.0 there-root ∙ ap Some (sym same))

-- The windows stacked with a toplevel are the same under other names of their surfaces.
use Rattle.std.proofs.Common.{◌≡◌, ℕ, true, Option, Some, None, List, [], ◌∷◌, ◌++◌, map, refl, ap, ap₂, sym, subst, ◌∙◌}
use Rattle.std.specs.Prelude.{find, flat_map}
use Rattle.std.specs.List.{list_any}
use Rattle.std.proofs.lemmas.List.{map-append}
use Rattle.wl_surface.specs.State.{History}
use Rattle.wl_surface.specs.Surfaces.{Surfaces, history_in}
use Rattle.spec_desktop.specs.Stacking.{Standing, is_of, shows_buffer}
use Rattle.spec_desktop.specs.Windows.{Owner, Root, Window, owner_of, tree}
use Rattle.law_desktop.proofs.Lists.Standings.{of-client, of-surface}
use Rattle.law_desktop.proofs.Marks.Stacks.{same-number}
use Rattle.law_desktop.proofs.Soundness.Trees.{all-there}
use Rattle.law_desktop.proofs.Soundness.Windows.{In, same_root}
use Rattle.law_desktop.proofs.TreeSteps.Reading.{flat-each}
use Rattle.law_desktop.specs.Renaming.{IsRenaming, has_surface, renamed}
use Rattle.wl_scene.specs.TreeWindows.{rooted, told_tree}
use Rattle.wl_scene.specs.declared.tree_window.TreeWindow.{TreeWindow}
use Rattle.law_desktop.specs.StackedWith.{stacked_roots}
use Rattle.law_desktop.specs.Toplevel.{windows_with_standing}
use Rattle.law_desktop.proofs.RootsOf.Kept.{IsRoot, are-roots, surfaces_in, tree_in}
use Rattle.law_desktop.proofs.RootsOf.Stacked.{found-any}
use Rattle.law_desktop.proofs.RootsOf.Staying.{all-each}
use Rattle.law_desktop.proofs.Truth.{differ}
use Rattle.law_desktop.proofs.Lists.Each.{Each, each-map}
use Rattle.law_desktop.proofs.Lists.Keys.{found-passes}
use Rattle.law_windows.specs.RenamedWindows.{IsNamedAlone, told_by}
use Rattle.law_windows.proofs.OneTree.Naming.{history-there}
use Rattle.law_windows.proofs.RenamedWindows.Trees.{tells-trees-by-name}
use Rattle.wl_scene.specs.Told.{told_trees}
use Rattle.law_windows.specs.Runs.Names.{PlacedRootsHaveRuns, RootsHeedNoNames, RunsHeedNoNames, root_placed, roots_placed, told_roots, told_run}
use Rattle.law_windows.proofs.OneToplevel.Found.{root-shows}

-- the windows of a tree where its root stands
abbrev tree_of : Surfaces → Root → List Window
tree_of all r = tree 17 (owner_of r) all r.surface r.place

each-named : (f : ℕ → ℕ) (all : Surfaces) (owner : Owner) → IsRenaming f all → (rs : List Root) → Each (λ r. IsNamedAlone f all r.surface) rs
    → told_roots f owner all rs ≡ map (told_by f) (flat_map (tree_of all) rs)
each-named f all owner is [] alone = refl
each-named f all owner is (r ∷ rs) alone =
    ap₂ (λ (us vs : List TreeWindow). us ++ vs) (tells-trees-by-name f all is (owner_of r) (rooted (f r.surface) owner) r.surface alone.0 refl 17 r.place)
    (each-named f all owner is rs alone.1)
    ∙ sym (map-append (told_by f) (tree_of all r) (flat_map (tree_of all) rs))

pub roots-heed-no-names : RootsHeedNoNames
roots-heed-no-names f all owner rs is alone = each-named f all owner is rs (all-each (λ r. IsNamedAlone f all r.surface) rs alone)

-- a surface that shows a buffer is there
shown-there : (id : ℕ) (all : Surfaces) → shows_buffer (history_in id all) ≡ true → has_surface id all ≡ true
shown-there id all shows = at (history_in id all) refl shows
  where
    at : (o : Option History) → history_in id all ≡ o → shows_buffer o ≡ true → has_surface id all ≡ true
    at None e has = absurd (differ has)
    at (Some h) e has = history-there id all h e

pub runs-heed-no-names : RunsHeedNoNames
runs-heed-no-names f owner c t d had is = at (find (is_of c t) d.standing) refl
  where
    of-one : (s : Standing) → find (is_of c t) d.standing ≡ Some s → told_run f owner c d (Some s) ≡ map (told_by f) (windows_with_standing d (Some s))
    of-one s found =
        let its : is_of c t s ≡ true = found-passes (is_of c t) d.standing s found in
        let client : s.client ≡ c = of-client c t s its in
        let stands : list_any (is_of s.client s.surface) d.standing ≡ true =
        ap₂ (λ a b. list_any (is_of a b) d.standing) client (of-surface c t s its) ∙ found-any (is_of c t) d.standing s found in
        let there : Each (λ r. In r.surface (stacked_roots d s) ≡ true) (stacked_roots d s) = all-there same_root (λ r. same-number r.surface) (stacked_roots d s) in
        each-named f (surfaces_in d c) owner is (stacked_roots d s)
        (each-map (λ r. In r.surface (stacked_roots d s) ≡ true) (λ r. IsNamedAlone f (surfaces_in d c) r.surface)
        (λ r has a one same.
        is.apart a r.surface one
        (shown-there r.surface (surfaces_in d c) (subst (λ n. shows_buffer (history_in r.surface (surfaces_in d n)) ≡ true) client (root-shows d had s stands r.surface has)))
        same)
        (stacked_roots d s) there)
        ∙ ap (map (told_by f))
        (flat-each (tree_of (surfaces_in d c)) (tree_in d) (stacked_roots d s)
        (each-map (IsRoot s) (λ r. tree_of (surfaces_in d c) r ≡ tree_in d r) (λ r of. ap (λ n. tree_of (surfaces_in d n) r) (sym (of.client ∙ client))) (stacked_roots d s)
        (are-roots d s)))

    at : (o : Option Standing) → find (is_of c t) d.standing ≡ o → told_run f owner c d o ≡ map (told_by f) (windows_with_standing d o)
    at None found = refl
    at (Some s) found = of-one s found

-- ---- as they are placed

placed-trees : (f : ℕ → ℕ) (owner : Owner) (all : Surfaces) (rs : List Root) → told_trees owner (renamed f all) (map (root_placed f) rs) ≡ told_roots f owner all rs
placed-trees f owner all [] = refl
placed-trees f owner all (r ∷ rs) =
    ap (λ ts. told_tree 17 (rooted (f r.surface) owner) (renamed f all) (f r.surface) r.place ++ ts) (placed-trees f owner all rs)

pub placed-roots-have-runs : PlacedRootsHaveRuns
placed-roots-have-runs f owner c t d had is = at (find (is_of c t) d.standing) ∙ runs-heed-no-names f owner c t d had is
  where
    at : (o : Option Standing) → told_trees owner (renamed f (surfaces_in d c)) (roots_placed f d o) ≡ told_run f owner c d o
    at None = refl
    at (Some s) = placed-trees f owner (surfaces_in d c) (stacked_roots d s)

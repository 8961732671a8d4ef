-- What is told of the windows of a toplevel by the numbers of surfaces, as they are kept, tells those that it has.
use Rattle.std.proofs.Common.{◌≡◌, ℕ, Bool, true, false, Option, Some, None, List, [], ◌∷◌, map, refl, ap, subst, ◌∙◌}
use Rattle.std.specs.Prelude.{find, ◌||◌, cond}
use Rattle.std.specs.List.{list_any}
use Rattle.law_desktop.proofs.Lists.Keys.{found-passes}
use Rattle.law_desktop.proofs.Lists.Standings.{of-client, of-surface}
use Rattle.spec_desktop.specs.Objects.{ById}
use Rattle.law_desktop.specs.Renaming.{has_surface, renamed}
use Rattle.law_desktop.specs.NamedPopups.{RenamesOwned, renamed_owned, renamed_root}
use Rattle.law_desktop.proofs.PopupsByNames.Rooted.{roots-named}
use Rattle.spec_desktop.specs.Desktop.{Desktop, owned_in}
use Rattle.wl_scene.specs.declared.roots.RootPlace.{RootPlace}
use Rattle.wl_scene.specs.Roots.{standing_at, told_root}
use Rattle.wl_scene.specs.Told.{told_trees}
use Rattle.spec_desktop.specs.Popups.{stacked_popups}
use Rattle.spec_desktop.specs.Stacking.{Owned, Standing, is_of, root_of}
use Rattle.spec_desktop.specs.Windows.{Owner, Place, Root, roots_of}
use Rattle.law_windows.specs.RenamedWindows.{told_by}
use Rattle.law_desktop.specs.Changes.{HasTrees}
use Rattle.law_desktop.specs.StackedWith.{stacked_roots}
use Rattle.law_desktop.specs.Toplevel.{windows_with}
use Rattle.law_windows.specs.Runs.Names.{root_placed, roots_placed}
use Rattle.law_windows.proofs.OneToplevel.Renamed.{placed-roots-have-runs}
use Rattle.wl_clients.specs.Agreement.{IsStack}
use Rattle.wl_clients.specs.Screens.{roots_at, run_on}
use Rattle.wl_clients.proofs.OnScreen.Finding.{IsFoundAs, found-as}
use Rattle.wl_clients.proofs.OnScreen.Scenes.{AreOnce}

-- ---- the roots of its trees

told-twice : (f : ℕ → ℕ) (rs : List Root) → map told_root (map (renamed_root f) rs) ≡ map (root_placed f) rs
told-twice f [] = refl
told-twice f (r ∷ rs) = ap (λ (more : List RootPlace). root_placed f r ∷ more) (told-twice f rs)

-- those of a toplevel that stands there
roots-there : (f : ℕ → ℕ) (c toplevel : ℕ) (place : Place) (o : Owned) → RenamesOwned f o → has_surface toplevel o.surfaces ≡ true
    → map told_root (roots_of (renamed f o.surfaces) (root_of (λ _. renamed_owned f o) (standing_at c (f toplevel) place.x place.y)) (stacked_popups (renamed_owned f o)))
    ≡ map (root_placed f) (roots_of o.surfaces (root_of (λ _. o) (standing_at c toplevel place.x place.y)) (stacked_popups o))
roots-there f c toplevel place o renames there =
    ap (map told_root) (roots-named f o (standing_at c toplevel place.x place.y) renames there)
    ∙ told-twice f (roots_of o.surfaces (root_of (λ _. o) (standing_at c toplevel place.x place.y)) (stacked_popups o))

-- those of one that stands on the desktop
roots-stacked : (f : ℕ → ℕ) (c toplevel : ℕ) (d : Desktop) (s : Standing) → s.client ≡ c → s.surface ≡ toplevel
    → map (root_placed f) (roots_of (owned_in d c).surfaces (root_of (λ _. owned_in d c) (standing_at c toplevel s.place.x s.place.y)) (stacked_popups (owned_in d c)))
    ≡ map (root_placed f) (stacked_roots d s)
roots-stacked f c toplevel d s of_client of_surface =
    subst (λ (n : ℕ). map (root_placed f) (roots_of (owned_in d n).surfaces (root_of (λ _. owned_in d n) (standing_at n toplevel s.place.x s.place.y)) (stacked_popups (owned_in d n)))
    ≡ map (root_placed f) (stacked_roots d s)) of_client
    (subst (λ (n : ℕ). map (root_placed f) (roots_of (owned_in d s.client).surfaces (root_of (λ _. owned_in d s.client) (standing_at s.client n s.place.x s.place.y)) (stacked_popups (owned_in d s.client)))
    ≡ map (root_placed f) (stacked_roots d s)) of_surface refl)

pub found-any : (c toplevel : ℕ) (ss : List Standing) (s : Standing) → find (is_of c toplevel) ss ≡ Some s → list_any (is_of c toplevel) ss ≡ true
found-any c toplevel [] s e = absurd (cc)
found-any c toplevel (x ∷ xs) s e = at (is_of c toplevel x) (λ later. found-any c toplevel xs s later) e
  where
    at : (b : Bool) → (find (is_of c toplevel) xs ≡ Some s → list_any (is_of c toplevel) xs ≡ true) → cond b (Some x) (find (is_of c toplevel) xs) ≡ Some s
        → (b || list_any (is_of c toplevel) xs) ≡ true
    at true rest e = refl
    at false rest e = rest e

-- its surface is there by its name, where it stands
module _ (f : ℕ → ℕ) (c toplevel k : ℕ) (d : Desktop) (renames : RenamesOwned f (owned_in d c))
    (there : list_any (is_of c toplevel) d.standing ≡ true → (has_surface toplevel (owned_in d c).surfaces ≡ true) × (k ≡ f toplevel)) where
  abbrev by_names : Owned
  by_names = renamed_owned f (owned_in d c)

  roots-found : (t s : Option Standing) → find (is_of c toplevel) d.standing ≡ s → IsFoundAs t s → roots_at c by_names k t ≡ roots_placed f d s
  roots-found None None e is = refl
  roots-found (Some t) (Some s) e is =
      let passes = found-passes (is_of c toplevel) d.standing s e in
      let has = there (found-any c toplevel d.standing s e) in
      ap (λ (n : ℕ). roots_at c by_names n (Some t)) has.1
      ∙ (ap (λ (p : Place). map told_root (roots_of by_names.surfaces (root_of (λ _. by_names) (standing_at c (f toplevel) p.x p.y)) (stacked_popups by_names))) is
      ∙ (roots-there f c toplevel s.place (owned_in d c) renames has.0 ∙ roots-stacked f c toplevel d s (of-client c toplevel s passes) (of-surface c toplevel s passes)))
  roots-found None (Some s) e is = absurd is
  roots-found (Some t) None e is = absurd is

  -- The windows that are told of it, where it stands, are those that it has.
  pub run-told : (nums : ℕ → ById ℕ) (ks : List Standing) (owner : Owner) → HasTrees d → AreOnce (nums c) → nums c toplevel ≡ Some k → IsStack nums ks d.standing
      → run_on c owner by_names (Some k) ks ≡ map (told_by f) (windows_with c toplevel d)
  run-told nums ks owner trees once numbered stack =
      ap (λ (rs : List RootPlace). told_trees owner by_names.surfaces rs)
      (roots-found (find (is_of c k) ks) (find (is_of c toplevel) d.standing) refl (found-as nums c toplevel k once numbered ks d.standing stack))
      ∙ placed-roots-have-runs f owner c toplevel d trees renames.surfaces

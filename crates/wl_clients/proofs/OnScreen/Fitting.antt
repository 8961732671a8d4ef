-- A toplevel has no more windows than its client has surfaces: each is of a surface that is there, and no surface has two.
use Rattle.std.proofs.Common.{◌≡◌, ◌≤◌, ℕ, Bool, true, false, cond, Some, List, [], ◌∷◌, ◌++◌, length, map, arith, refl, ap, ap₂, sym, ◌∙◌, eq-eqb, eqb-true}
use Rattle.std.specs.Prelude.{◌==◌, ◌&&◌, ◌||◌, find, is_some}
use Rattle.std.specs.Cmp.{nat_eq_equiv}
use Rattle.std.specs.List.{AllByRecursion, IsDistinct, list_all, list_any}
use Rattle.std.specs.Set.{is_member}
use Rattle.std.proofs.lemmas.Bool.{or_left, or_parts, or_right}
use Rattle.std.proofs.lemmas.List.{length-map}
use Rattle.std.proofs.lemmas.Map.Made.{length-le_from_is_member}
use Rattle.law_desktop.proofs.Truth.{and-left, and-right}
use Rattle.law_desktop.proofs.Lists.Each.{Each}
use Rattle.law_desktop.specs.Renaming.{has_surface}
use Rattle.spec_desktop.specs.Marks.{AreDistinct, is_same_surface}
use Rattle.law_windows.specs.Runs.Marks.{IsThereIn}
use Rattle.spec_desktop.specs.Windows.{Window}
use Rattle.wl_surface.specs.Surface.{Surface}
use Rattle.wl_surface.specs.Surfaces.{Surfaces}
use Rattle.law_desktop.specs.Toplevel.{has_toplevel}

-- ---- distinct windows

left-any : {X : Type 0} (p : X → Bool) (xs ys : List X) → list_any p (xs ++ ys) ≡ false → list_any p xs ≡ false
left-any p [] ys none = refl
left-any p (x ∷ xs) ys none =
    let parts = or_parts (p x) (list_any p (xs ++ ys)) none in ap₂ (λ a b. a || b) parts.0 (left-any p xs ys parts.1)

left-distinct : (xs ys : List Window) → AreDistinct (xs ++ ys) → AreDistinct xs
left-distinct [] ys apart = tt
left-distinct (x ∷ xs) ys apart = (left-any (is_same_surface x) xs ys apart.0, left-distinct xs ys apart.1)

right-distinct : (xs ys : List Window) → AreDistinct (xs ++ ys) → AreDistinct ys
right-distinct [] ys apart = apart
right-distinct (x ∷ xs) ys apart = right-distinct xs ys apart.1

-- ---- their surfaces

abbrev surfaces_of : List Window → List ℕ
surfaces_of ws = map (λ (w : Window). w.surface) ws

module _ (c t : ℕ) where
  other-surface : (w v : Window) → has_toplevel c t w ≡ true → has_toplevel c t v ≡ true → is_same_surface w v ≡ false → (w.surface == v.surface) ≡ false
  other-surface w v its_w its_v other =
      let client : (n m : Window) → has_toplevel c t n ≡ true → c ≡ n.owner.client =
      λ n m its. eqb-true c n.owner.client (and-left (c == n.owner.client) (t == n.owner.toplevel) its) in
      let same : (w.owner.client == v.owner.client) ≡ true = eq-eqb w.owner.client v.owner.client (sym (client w v its_w) ∙ client v w its_v) in
      sym (ap (λ b. b && (w.surface == v.surface)) same) ∙ other

  other-surfaces : (w : Window) (ws : List Window) → has_toplevel c t w ≡ true → list_all (has_toplevel c t) ws ≡ true → list_any (is_same_surface w) ws ≡ false
      → AllByRecursion (λ n. (w.surface == n) ≡ false) (surfaces_of ws)
  other-surfaces w [] its all none = tt
  other-surfaces w (v ∷ vs) its all none =
      let parts = or_parts (is_same_surface w v) (list_any (is_same_surface w) vs) none in (
        other-surface w v its (and-left (has_toplevel c t v) (list_all (has_toplevel c t) vs) all) parts.0,
        other-surfaces w vs its (and-right (has_toplevel c t v) (list_all (has_toplevel c t) vs) all) parts.1,
      )

  distinct-surfaces : (ws : List Window) → list_all (has_toplevel c t) ws ≡ true → AreDistinct ws → IsDistinct ◌==◌ (surfaces_of ws)
  unfolding IsDistinct
  distinct-surfaces [] all apart = tt
  distinct-surfaces (w ∷ ws) all apart =
      let its = and-left (has_toplevel c t w) (list_all (has_toplevel c t) ws) all in
      let later = and-right (has_toplevel c t w) (list_all (has_toplevel c t) ws) all in
      (other-surfaces w ws its later apart.0, distinct-surfaces ws later apart.1)

-- a surface that has one of the windows is there
shown-there : (all : Surfaces) (id : ℕ) (ws : List Window) → Each (IsThereIn all) ws → is_member ◌==◌ (surfaces_of ws) id ≡ true → has_surface id all ≡ true
shown-there all id [] each has = absurd (cc)
shown-there all id (w ∷ ws) each has = at (id == w.surface) refl has (shown-there all id ws each.1)
  where
    at : (b : Bool) → (id == w.surface) ≡ b → (b || is_member ◌==◌ (surfaces_of ws) id) ≡ true
        → (is_member ◌==◌ (surfaces_of ws) id ≡ true → has_surface id all ≡ true) → has_surface id all ≡ true
    at true is has rest = ap (λ n. has_surface n all) (eqb-true id w.surface is) ∙ each.0.0
    at false is has rest = rest has

-- a surface that is there has its id among the ids
id-there : (id : ℕ) (ss : List Surface) → is_some (find (λ (s : Surface). s.id == id) ss) ≡ true → is_member ◌==◌ (map (λ (s : Surface). s.id) ss) id ≡ true
id-there id [] there = absurd (cc)
id-there id (s ∷ ss) there = at (s.id == id) refl there (id-there id ss)
  where
    at : (b : Bool) → (s.id == id) ≡ b → is_some (cond b (Some s) (find (λ (s : Surface). s.id == id) ss)) ≡ true
        → (is_some (find (λ (s : Surface). s.id == id) ss) ≡ true → is_member ◌==◌ (map (λ (s : Surface). s.id) ss) id ≡ true)
        → ((id == s.id) || is_member ◌==◌ (map (λ (s : Surface). s.id) ss) id) ≡ true
    at true is there rest =
        or_left (id == s.id) (is_member ◌==◌ (map (λ (s : Surface). s.id) ss) id) (eq-eqb id s.id (sym (eqb-true s.id id is)))
    at false is there rest = or_right (id == s.id) (is_member ◌==◌ (map (λ (s : Surface). s.id) ss) id) (rest there)

-- ---- as many

-- Windows that are stacked with one toplevel, among others, are no more than the surfaces that theirs are among.
pub run-fits : (c t : ℕ) (all : Surfaces) (below ws above : List Window) → list_all (has_toplevel c t) ws ≡ true → AreDistinct (below ++ (ws ++ above)) → Each (IsThereIn all) ws
    → length ws ≤ length all.surfaces
run-fits c t all below ws above its apart each =
    let own = left-distinct ws above (right-distinct below (ws ++ above) apart) in
    let fits = length-le_from_is_member nat_eq_equiv (surfaces_of ws) (map (λ (s : Surface). s.id) all.surfaces) (distinct-surfaces c t ws its own)
    (λ id has. id-there id all.surfaces (shown-there all id ws each has)) in
    omega (arith, fits, length-map ws (λ (w : Window). w.surface), length-map all.surfaces (λ (s : Surface). s.id))

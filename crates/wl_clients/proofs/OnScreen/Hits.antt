-- What points hit stays where the windows of a toplevel stay in their places, and take input where they did.
use Rattle.std.proofs.Common.{◌≡◌, ℕ, pos, Bool, true, false, Option, Some, None, List, [], ◌∷◌, ◌++◌, refl, ap, ap₂, sym, subst, ◌∙◌, eqb-true}
use Rattle.std.specs.Prelude.{ℤ, ◌-ℤ◌, ◌==◌, ◌&&◌, ◌||◌, fold, if◌then◌else◌}
use Rattle.std.specs.List.{AllByRecursion, list_any}
use Rattle.wl_geom.specs.Rect.{in_rect}
use Rattle.wl_geom.specs.Region.{Change}
use Rattle.wl_surface.specs.Surfaces.{history_in}
use Rattle.spec_desktop.specs.Desktop.{Desktop, owned_in}
use Rattle.spec_desktop.specs.Pointer.{Target, is_stacked, target_of}
use Rattle.spec_desktop.specs.Stacked.{all_windows}
use Rattle.spec_desktop.specs.Windows.{Window, hit, hit_after, is_hit, takes_input}
use Rattle.law_desktop.proofs.Lists.Each.{Each}
use Rattle.law_desktop.proofs.Marks.Stacks.{AreSame, Fields, fields}
use Rattle.law_desktop.specs.Toplevel.{ChangesToplevel}
use Rattle.wl_scene.specs.Hit.{ShowsSurface}
use Rattle.wl_scene.proofs.Shown.{IsShown, all-shown}
use Rattle.wl_clients.specs.Touching.{HitsStay}
use Rattle.wl_clients.proofs.OnScreen.Inputs.{TakeSame}

-- ---- windows that are hit alike

-- two windows are of one surface, stand in one place, are as large, and take input at the same points
record Alike (w v : Window) : Type 0 where
  record_is : Fields w v
  input : v.input ≡ w.input

abbrev AreAlike : List Window → List Window → Type 0
AreAlike [] [] = Unit {0}
AreAlike (w ∷ ws) (v ∷ vs) = Alike w v × AreAlike ws vs
AreAlike [] (v ∷ vs) = ⊥
AreAlike (w ∷ ws) [] = ⊥

self-alike : (ws : List Window) → AreAlike ws ws
self-alike [] = tt
self-alike (w ∷ ws) = (
  record {
    record_is = record { client = refl; surface = refl; x = refl; y = refl; width = refl; height = refl; transform = refl; scale = refl };
    input = refl;
  },
  self-alike ws,
)

alike-append : (ws vs us ts : List Window) → AreAlike ws vs → AreAlike us ts → AreAlike (ws ++ us) (vs ++ ts)
alike-append [] [] us ts a b = b
alike-append (w ∷ ws) (v ∷ vs) us ts a b = (a.0, alike-append ws vs us ts a.1 b)
alike-append [] (v ∷ vs) us ts a b = absurd a
alike-append (w ∷ ws) [] us ts a b = absurd a

-- a window with this corner, this size and this input region is hit
abbrev is_hit_at : ℤ → ℤ → ℤ → ℤ → ℕ → ℕ → Option (List Change) → Bool
is_hit_at x y a b w h input = in_rect x y (record { x = a; y = b; w = pos w; h = pos h }) && takes_input input (x -ℤ a) (y -ℤ b)

same-hit : (x y : ℤ) (w v : Window) → Alike w v → is_hit x y v ≡ is_hit x y w
same-hit x y w v a =
    let f = a.record_is in
    ap (λ n. is_hit_at x y n v.corner.y v.width v.height v.input) (sym f.x)
    ∙ (ap (λ n. is_hit_at x y w.corner.x n v.width v.height v.input) (sym f.y)
    ∙ (ap (λ n. is_hit_at x y w.corner.x w.corner.y n v.height v.input) (sym f.width)
    ∙ (ap (λ n. is_hit_at x y w.corner.x w.corner.y w.width n v.input) (sym f.height)
    ∙ ap (λ i. is_hit_at x y w.corner.x w.corner.y w.width w.height i) a.input)))

abbrev target : ℕ → ℕ → Option Target
target client surface = Some (record { client = client; surface = surface })

same-target : (w v : Window) → Alike w v → target_of (Some v) ≡ target_of (Some w)
same-target w v a =
    ap (λ n. target n v.surface) (sym a.record_is.client) ∙ ap (λ n. target w.owner.client n) (sym a.record_is.surface)

hits-same : (x y : ℤ) (ws vs : List Window) → AreAlike ws vs → (f g : Option Window) → target_of g ≡ target_of f
    → target_of (fold (hit_after x y) g vs) ≡ target_of (fold (hit_after x y) f ws)
hits-same x y [] [] a f g same = same
hits-same x y [] (v ∷ vs) a f g same = absurd a
hits-same x y (w ∷ ws) [] a f g same = absurd a
hits-same x y (w ∷ ws) (v ∷ vs) a f g same =
    hits-same x y ws vs a.1 (hit_after x y f w) (hit_after x y g v)
    (ap (λ b. target_of (if b then Some v else g)) (same-hit x y w v a.0) ∙ at (is_hit x y w))
  where
    at : (b : Bool) → target_of (if b then Some v else g) ≡ target_of (if b then Some w else f)
    at true = same-target w v a.0
    at false = same

stacked-same : (t : Target) (ws vs : List Window) → AreAlike ws vs → is_stacked t vs ≡ is_stacked t ws
stacked-same t [] [] a = refl
stacked-same t [] (v ∷ vs) a = absurd a
stacked-same t (w ∷ ws) [] a = absurd a
stacked-same t (w ∷ ws) (v ∷ vs) a =
    ap₂ (λ (b c : Bool). b || c)
    (ap (λ n. (n == t.client) && (v.surface == t.surface)) (sym a.0.record_is.client)
    ∙ ap (λ n. (w.owner.client == t.client) && (n == t.surface)) (sym a.0.record_is.surface))
    (stacked-same t ws vs a.1)

hits-stay : (d e : Desktop) → AreAlike (all_windows d) (all_windows e) → HitsStay d e
hits-stay d e a = record {
  hit = λ x y. hits-same x y (all_windows d) (all_windows e) a None None refl;
  stacked = λ t. stacked-same t (all_windows d) (all_windows e) a;
}

-- So it is where no window changes.
pub windows-stay : (d e : Desktop) → all_windows e ≡ all_windows d → HitsStay d e
windows-stay d e same = record {
  hit = λ x y. ap (λ (ws : List Window). target_of (hit x y ws)) same;
  stacked = λ t. ap (λ (ws : List Window). is_stacked t ws) same;
}

-- ---- the windows of a toplevel

abbrev IsShownIn : Desktop → Window → Type 0
IsShownIn d w = IsShown (λ c. (owned_in d c).surfaces) w

first-of : (P : Window → Type 0) (ws vs : List Window) → AllByRecursion P (ws ++ vs) → AllByRecursion P ws
first-of P [] vs each = tt
first-of P (w ∷ ws) vs each = (each.0, first-of P ws vs each.1)

second-of : (P : Window → Type 0) (ws vs : List Window) → AllByRecursion P (ws ++ vs) → AllByRecursion P vs
second-of P [] vs each = each
second-of P (w ∷ ws) vs each = second-of P ws vs each.1

module _ (c : ℕ) (d e : Desktop) (takes : TakeSame (owned_in d c).surfaces (owned_in e c).surfaces) where
  one-alike : (w v : Window) → Fields w v → IsShownIn d w → IsShownIn e v → c ≡ w.owner.client → Alike w v
  one-alike w v f was is own =
      let before : ShowsSurface (owned_in d c).surfaces w = subst (λ n. ShowsSurface (owned_in d n).surfaces w) (sym own) was in
      let after : ShowsSurface (owned_in e c).surfaces v = subst (λ n. ShowsSurface (owned_in e n).surfaces v) (sym (own ∙ f.client)) is in
      record {
        record_is = f;
        input = ap (λ (u : Window). u.input) after.shows
            ∙ (takes w.surface before.history after.history before.found (ap (λ n. history_in n (owned_in e c).surfaces) f.surface ∙ after.found)
            ∙ sym (ap (λ (u : Window). u.input) before.shows));
      }

  run-alike : (ws vs : List Window) → AreSame ws vs → AllByRecursion (IsShownIn d) ws → AllByRecursion (IsShownIn e) vs
      → Each (λ w. (c == w.owner.client) ≡ true) ws → AreAlike ws vs
  run-alike [] [] same was is own = tt
  run-alike [] (v ∷ vs) same was is own = absurd same
  run-alike (w ∷ ws) [] same was is own = absurd same
  run-alike (w ∷ ws) (v ∷ vs) same was is own =
      (one-alike w v (fields w v same.0) was.0 is.0 (eqb-true c w.owner.client own.0), run-alike ws vs same.1 was.1 is.1 own.1)

  pub run-hits : (t : ℕ) (step : ChangesToplevel c t d e) → AreSame step.was step.is → Each (λ w. (c == w.owner.client) ≡ true) step.was → HitsStay d e
  run-hits t step same own =
      hits-stay d e
      (subst (λ (ws : List Window). AreAlike ws (all_windows e)) (sym step.before)
      (subst (λ (vs : List Window). AreAlike (step.below ++ (step.was ++ step.above)) vs) (sym step.after)
      (alike-append step.below step.below (step.was ++ step.above) (step.is ++ step.above) (self-alike step.below)
      (alike-append step.was step.is step.above step.above (run-alike step.was step.is same shown-was shown-is own) (self-alike step.above)))))
    where
      shown-was : AllByRecursion (IsShownIn d) step.was
      shown-was =
          first-of (IsShownIn d) step.was step.above
          (second-of (IsShownIn d) step.below (step.was ++ step.above) (subst (λ (ws : List Window). AllByRecursion (IsShownIn d) ws) step.before (all-shown d)))

      shown-is : AllByRecursion (IsShownIn e) step.is
      shown-is =
          first-of (IsShownIn e) step.is step.above
          (second-of (IsShownIn e) step.below (step.is ++ step.above) (subst (λ (ws : List Window). AllByRecursion (IsShownIn e) ws) step.after (all-shown e)))

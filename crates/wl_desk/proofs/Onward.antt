-- What is marked on the way to where the focus is settled, from where it isn't yet.
use Rattle.std.proofs.Common.{◌≡◌, ℕ, ◌<◌, List, [], ◌∷◌, ◌++◌, Bool, true, false, None, refl, ap, ap₂, subst, sym, ◌∙◌}
use Rattle.std.specs.Prelude.{ℤ, ◌||◌, pos}
use Rattle.wl_scene.specs.Marking.{IsAsLarge}
use Rattle.wl_paint.specs.Damage.{Damaged, has}
use Rattle.spec_desktop.specs.Desktop.{Desktop}
use Rattle.spec_desktop.specs.Moments.{marks_at_least_through, marks_at_most_through}
use Rattle.spec_desktop.specs.Stacked.{all_windows}
use Rattle.law_desktop.specs.Pointed.Marking.{last_of}
use Rattle.law_desktop.proofs.PointerAside.Marking.{marks-in-parts}
use Rattle.wl_clients.specs.Marking.{MarksThrough}

-- ---- truth values

or-second : (a b : Bool) → b ≡ true → (a || b) ≡ true
or-second true b e = refl
or-second false b e = e

or-through : (old mid a b : Bool) → (mid ≡ true → (old || a) ≡ true) → (mid || b) ≡ true → (old || (a || b)) ≡ true
or-through true mid a b first next = refl
or-through false true a b first next = ap (λ (x : Bool). x || b) (first refl)
or-through false false a b first next = or-second a b next

pub none-more : (a : Bool) → (a || false) ≡ a
none-more true = refl
none-more false = refl

-- ---- ways

pub last-at : (d e : Desktop) (xs : List Desktop) → last_of d (xs ++ e ∷ []) ≡ e
last-at d e [] = refl
last-at d e (x ∷ xs) = last-at x e xs

-- the same is marked on two ways
abbrev pub MarksSame : Desktop → List Desktop → Desktop → List Desktop → Type 0
MarksSame d path from way =
    (x y : ℤ)
    → (marks_at_least_through all_windows d path x y ≡ marks_at_least_through all_windows from way x y)
    × (marks_at_most_through all_windows None d path x y ≡ marks_at_most_through all_windows None from way x y)

pub marks-as : (d from : Desktop) (path way : List Desktop) (old new : Damaged) → MarksSame d path from way → MarksThrough from way old new → MarksThrough d path old new
marks-as d from path way old new same marks x y wide high =
    let is = same (pos x) (pos y) in
    let at = marks x y wide high in (
      λ none. let m = at.0 none in (m.0, is.0 ∙ m.1),
      λ some. ap (λ (b : Bool). has old x y || b) is.1 ∙ at.1 some,
    )

-- what is marked on one way and then on another is marked on both together
pub marks-then : (d start : Desktop) (before later : List Desktop) (old mid new : Damaged) → IsAsLarge old mid → last_of d before ≡ start → MarksThrough d before old mid
    → MarksThrough start later mid new → MarksThrough d (before ++ later) old new
marks-then d start before later old mid new large last first next x y wide high =
    let parts = marks-in-parts d before later (pos x) (pos y) in
    let least : marks_at_least_through all_windows d (before ++ later) (pos x) (pos y)
    ≡ (marks_at_least_through all_windows d before (pos x) (pos y) || marks_at_least_through all_windows start later (pos x) (pos y)) =
    parts.0 ∙ ap (λ (s : Desktop). marks_at_least_through all_windows d before (pos x) (pos y) || marks_at_least_through all_windows s later (pos x) (pos y)) last in
    let most : marks_at_most_through all_windows None d (before ++ later) (pos x) (pos y)
    ≡ (marks_at_most_through all_windows None d before (pos x) (pos y) || marks_at_most_through all_windows None start later (pos x) (pos y)) =
    parts.1 ∙ ap (λ (s : Desktop). marks_at_most_through all_windows None d before (pos x) (pos y) || marks_at_most_through all_windows None s later (pos x) (pos y)) last in
    let one = first x y wide high in
    let two = next x y (subst (λ (n : ℕ). x < n) (sym large.width) wide) (subst (λ (n : ℕ). y < n) (sym large.height) high) in (
      λ none.
          let m = two.0 none in
          let k = one.0 m.0 in
          (k.0, least ∙ ap₂ (λ (a b : Bool). a || b) k.1 m.1),
      λ some.
          ap (λ (b : Bool). has old x y || b) most
          ∙ or-through (has old x y) (has mid x y) (marks_at_most_through all_windows None d before (pos x) (pos y))
          (marks_at_most_through all_windows None start later (pos x) (pos y)) one.1 (two.1 some),
    )

-- with the same damage before it
pub marks-from : (d : Desktop) (path : List Desktop) (old was new : Damaged) → was ≡ old → MarksThrough d path was new → MarksThrough d path old new
marks-from d path old was new same marks = subst (λ (v : Damaged). MarksThrough d path v new) same marks

pub marks-to : (d : Desktop) (path : List Desktop) (old is new : Damaged) → new ≡ is → MarksThrough d path old is → MarksThrough d path old new
marks-to d path old is new same marks = subst (λ (v : Damaged). MarksThrough d path old v) (sym same) marks

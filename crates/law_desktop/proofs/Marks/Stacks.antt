-- Windows that share a point and of which nothing is marked there stand in the same order before and after.
use Rattle.std.proofs.Common.{◌≡◌, ℕ, Bool, true, false, List, [], ◌∷◌, refl, sym, subst, ◌∙◌, arith}
use Rattle.std.specs.Prelude.{ℤ, ◌==◌, ◌&&◌, ◌||◌, if◌then◌else◌}
use Rattle.std.specs.List.{list_any}
use Rattle.std.proofs.lemmas.Bool.{and_from, eqb-false, eqb-true, false_from_ne_true, or_right}
use Rattle.std.proofs.lemmas.Int.{ints}
use Rattle.spec_desktop.specs.Windows.{Window}
use Rattle.spec_desktop.specs.Marks.{AreDistinct, has_same_record, int_eq, is_before, is_same_surface}
use Rattle.law_desktop.proofs.Truth.{and-left, and-right, differ, or-second}
use Rattle.law_desktop.proofs.Lists.Each.{Each, each-both, each-map}
use Rattle.law_desktop.proofs.Lists.Tests.{any-each, any-more, each-false}

-- ---- windows of one surface, and with one record

pub same-number : (n : ℕ) → (n == n) ≡ true
same-number n = go (n == n) refl where
  go : (b : Bool) → (n == n) ≡ b → b ≡ true
  go true e = refl
  go false e = absurd (eqb-false n n e refl)

int-same : (a b : ℤ) → int_eq a b ≡ true → a ≡ b
int-same a b e = grind (arith, ints)

int-self : (a : ℤ) → int_eq a a ≡ true
int-self a = grind (arith, ints)

pub record Fields (w v : Window) : Type 0 where
  pub client : w.owner.client ≡ v.owner.client
  pub surface : w.surface ≡ v.surface
  pub x : w.corner.x ≡ v.corner.x
  pub y : w.corner.y ≡ v.corner.y
  pub width : w.width ≡ v.width
  pub height : w.height ≡ v.height
  pub transform : w.transform ≡ v.transform
  pub scale : w.scale ≡ v.scale

pub fields : (w v : Window) → has_same_record w v ≡ true → Fields w v
fields w v e =
    let s = and-left (is_same_surface w v) _ e in
    let r = and-right (is_same_surface w v) _ e in
    let c = and-left (int_eq w.corner.x v.corner.x && int_eq w.corner.y v.corner.y) _ r in
    let z = and-right (int_eq w.corner.x v.corner.x && int_eq w.corner.y v.corner.y) _ r in
    let sides = and-left (w.width == v.width && w.height == v.height) _ z in
    let buffers = and-right (w.width == v.width && w.height == v.height) _ z in record {
      client = eqb-true w.owner.client v.owner.client (and-left (w.owner.client == v.owner.client) _ s);
      surface = eqb-true w.surface v.surface (and-right (w.owner.client == v.owner.client) _ s);
      x = int-same w.corner.x v.corner.x (and-left (int_eq w.corner.x v.corner.x) _ c);
      y = int-same w.corner.y v.corner.y (and-right (int_eq w.corner.x v.corner.x) _ c);
      width = eqb-true w.width v.width (and-left (w.width == v.width) _ sides);
      height = eqb-true w.height v.height (and-right (w.width == v.width) _ sides);
      transform = eqb-true w.transform v.transform (and-left (w.transform == v.transform) _ buffers);
      scale = eqb-true w.scale v.scale (and-right (w.transform == v.transform) _ buffers);
    }

pub equal-numbers : (a b : ℕ) → a ≡ b → (a == b) ≡ true
equal-numbers a b e = subst (λ n. (a == n) ≡ true) e (same-number a)

equal-ints : (a b : ℤ) → a ≡ b → int_eq a b ≡ true
equal-ints a b e = subst (λ n. int_eq a n ≡ true) e (int-self a)

pub recorded : (w v : Window) → Fields w v → has_same_record w v ≡ true
recorded w v f =
    and_from (is_same_surface w v) _ (and_from (w.owner.client == v.owner.client) _ (equal-numbers w.owner.client v.owner.client f.client) (equal-numbers w.surface v.surface f.surface))
    (and_from (int_eq w.corner.x v.corner.x && int_eq w.corner.y v.corner.y) _
    (and_from (int_eq w.corner.x v.corner.x) _ (equal-ints w.corner.x v.corner.x f.x) (equal-ints w.corner.y v.corner.y f.y))
    (and_from (w.width == v.width && w.height == v.height) _
    (and_from (w.width == v.width) _ (equal-numbers w.width v.width f.width) (equal-numbers w.height v.height f.height))
    (and_from (w.transform == v.transform) _ (equal-numbers w.transform v.transform f.transform) (equal-numbers w.scale v.scale f.scale))))

pub record-surface : (w v : Window) → has_same_record w v ≡ true → is_same_surface w v ≡ true
record-surface w v e = and-left (is_same_surface w v) _ e

pub surface-self : (w : Window) → is_same_surface w w ≡ true
surface-self w = and_from (w.owner.client == w.owner.client) _ (same-number w.owner.client) (same-number w.surface)

-- as one of them is to a window, so is the other
pub surface-as : (w v x : Window) → is_same_surface w v ≡ true → is_same_surface w x ≡ true → is_same_surface v x ≡ true
surface-as w v x e f =
    let c = sym (eqb-true w.owner.client v.owner.client (and-left (w.owner.client == v.owner.client) _ e)) ∙ eqb-true w.owner.client x.owner.client (and-left (w.owner.client == x.owner.client) _ f) in
    let s = sym (eqb-true w.surface v.surface (and-right (w.owner.client == v.owner.client) _ e)) ∙ eqb-true w.surface x.surface (and-right (w.owner.client == x.owner.client) _ f) in
    and_from (v.owner.client == x.owner.client) _ (equal-numbers v.owner.client x.owner.client c) (equal-numbers v.surface x.surface s)

pub surface-turned : (w v : Window) → is_same_surface w v ≡ true → is_same_surface v w ≡ true
surface-turned w v e = surface-as w v w e (surface-self w)

pub any-surface : (w v : Window) (xs : List Window) → is_same_surface w v ≡ true → list_any (is_same_surface w) xs ≡ true → list_any (is_same_surface v) xs ≡ true
any-surface w v xs e f = any-more (is_same_surface w) (is_same_surface v) (λ x. surface-as w v x e) xs f

pub any-recorded : (w : Window) (xs : List Window) → list_any (has_same_record w) xs ≡ true → list_any (is_same_surface w) xs ≡ true
any-recorded w xs e = any-more (has_same_record w) (is_same_surface w) (record-surface w) xs e

-- the same windows by their records, in the same order
abbrev pub AreSame : List Window → List Window → Type 0
AreSame [] [] = Unit {0}
AreSame (w ∷ ws) (v ∷ vs) = (has_same_record w v ≡ true) × AreSame ws vs
AreSame [] (v ∷ vs) = ⊥
AreSame (w ∷ ws) [] = ⊥

-- ---- one before another

before-at : (same rest later : Bool) → same ≡ true → rest ≡ true → (if same then rest else later) ≡ true
before-at true rest later e f = f
before-at false rest later e f = absurd (differ e)

pub before-there : (w v : Window) (xs : List Window) → is_before w v xs ≡ true → list_any (is_same_surface v) xs ≡ true
before-there w v [] e = e
before-there w v (x ∷ xs) e = at (is_same_surface w x) e (before-there w v xs) where
  at : (same : Bool) → (if same then list_any (is_same_surface v) xs else is_before w v xs) ≡ true → (is_before w v xs ≡ true → list_any (is_same_surface v) xs ≡ true)
      → (is_same_surface v x || list_any (is_same_surface v) xs) ≡ true
  at true f later = or_right (is_same_surface v x) (list_any (is_same_surface v) xs) f
  at false f later = or_right (is_same_surface v x) (list_any (is_same_surface v) xs) (later f)

pub before-cons : (w v x : Window) (xs : List Window) → is_before w v xs ≡ true → is_before w v (x ∷ xs) ≡ true
before-cons w v x xs e = at (is_same_surface w x) where
  at : (same : Bool) → (if same then list_any (is_same_surface v) xs else is_before w v xs) ≡ true
  at true = before-there w v xs e
  at false = e

-- ---- the same order

abbrev Unmoved : List Window → List Window → Window → Window → Type 0
Unmoved old new a b = (is_before a b old && is_before b a new) ≡ false

unmoved-later : (w v a b : Window) (old new : List Window) → Unmoved (w ∷ old) (v ∷ new) a b → Unmoved old new a b
unmoved-later w v a b old new e =
    false_from_ne_true (is_before a b old && is_before b a new)
    (λ f. differ (sym e ∙ and_from (is_before a b (w ∷ old)) (is_before b a (v ∷ new)) (before-cons a b w old (and-left (is_before a b old) _ f))
    (before-cons b a v new (and-right (is_before a b old) _ f))))

-- what is kept is kept by the rest, where it isn't of the first window's surface
kept-later : (v w o : Window) (vs : List Window) → is_same_surface w v ≡ true → is_same_surface w o ≡ false → (has_same_record o v || list_any (has_same_record o) vs) ≡ true
    → list_any (has_same_record o) vs ≡ true
kept-later v w o vs same other e =
    or-second (has_same_record o v) (list_any (has_same_record o) vs) e
    (false_from_ne_true (has_same_record o v) (λ f. differ (sym other ∙ surface-as v w o (surface-turned w v same) (surface-turned o v (record-surface o v f)))))

pub first-same : (w v : Window) (vs : List Window) → is_same_surface w v ≡ true → list_any (is_same_surface v) vs ≡ false → (has_same_record w v || list_any (has_same_record w) vs) ≡ true
    → has_same_record w v ≡ true
first-same w v vs same apart e = at (has_same_record w v) e where
  at : (b : Bool) → (b || list_any (has_same_record w) vs) ≡ true → b ≡ true
  at true f = refl
  at false f = absurd (differ (sym apart ∙ any-surface w v vs same (any-recorded w vs f)))

-- two different windows first: each stands before the other
crossed : (w v : Window) (ws vs : List Window) → is_same_surface w v ≡ false → (has_same_record w v || list_any (has_same_record w) vs) ≡ true
    → (has_same_record v w || list_any (has_same_record v) ws) ≡ true
    → Each (λ b. Unmoved (w ∷ ws) (v ∷ vs) w b) ws → ⊥
crossed w v ws vs apart e f unmoved =
    let there = or-second (has_same_record w v) (list_any (has_same_record w) vs) e (false_from_ne_true (has_same_record w v) (λ g. differ (sym apart ∙ record-surface w v g))) in
    let here = or-second (has_same_record v w) (list_any (has_same_record v) ws) f (false_from_ne_true (has_same_record v w) (λ g. differ (sym apart ∙ surface-turned v w (record-surface v w g)))) in
    any-each (has_same_record v) (λ b. is_before w b (w ∷ ws) && is_before b w (v ∷ vs)) ws here unmoved
    (λ b g. and_from (is_before w b (w ∷ ws)) (is_before b w (v ∷ vs))
    (before-at (is_same_surface w w) (list_any (is_same_surface b) ws) (is_before w b ws) (surface-self w) (any-surface v b ws (record-surface v b g) (any-recorded v ws here)))
    (before-at (is_same_surface b v) (list_any (is_same_surface w) vs) (is_before b w vs) (surface-turned v b (record-surface v b g)) (any-recorded w vs there)))

-- Windows that are kept both ways, and of which none moved past another, are the same.
pub same-stack : (old new : List Window) → Each (λ o. list_any (has_same_record o) new ≡ true) old → Each (λ n. list_any (has_same_record n) old ≡ true) new
    → Each (λ a. Each (λ b. Unmoved old new a b) old) old → AreDistinct old → AreDistinct new → AreSame old new
same-stack [] [] kept found unmoved apart apart' = tt
same-stack [] (v ∷ vs) kept found unmoved apart apart' = absurd (differ found.0)
same-stack (w ∷ ws) [] kept found unmoved apart apart' = absurd (differ kept.0)
same-stack (w ∷ ws) (v ∷ vs) kept found unmoved apart apart' =
    go (is_same_surface w v) refl
    (λ k f u. same-stack ws vs k f u apart.1 apart'.1) where
      go : (same : Bool) → is_same_surface w v ≡ same
          → (Each (λ o. list_any (has_same_record o) vs ≡ true) ws → Each (λ n. list_any (has_same_record n) ws ≡ true) vs → Each (λ a. Each (λ b. Unmoved ws vs a b) ws) ws → AreSame ws vs)
          → (has_same_record w v ≡ true) × AreSame ws vs
      go false is next = absurd (crossed w v ws vs is kept.0 found.0 unmoved.0.1)
      go true is next = (
        first-same w v vs is apart'.0 kept.0,
        next
            (each-both (λ o. is_same_surface w o ≡ false) (λ o. (has_same_record o v || list_any (has_same_record o) vs) ≡ true) (λ o. list_any (has_same_record o) vs ≡ true)
            (λ o d e. kept-later v w o vs is d e) ws (each-false (is_same_surface w) ws apart.0) kept.1)
            (each-both (λ n. is_same_surface v n ≡ false) (λ n. (has_same_record n w || list_any (has_same_record n) ws) ≡ true) (λ n. list_any (has_same_record n) ws ≡ true)
            (λ n d e. kept-later w v n ws (surface-turned w v is) d e) vs (each-false (is_same_surface v) vs apart'.0) found.1)
            (each-map (λ a. Each (λ b. Unmoved (w ∷ ws) (v ∷ vs) a b) (w ∷ ws)) (λ a. Each (λ b. Unmoved ws vs a b) ws) (λ a e. each-map (λ b. Unmoved (w ∷ ws) (v ∷ vs) a b) (λ b. Unmoved ws vs a b)
            (λ b g. unmoved-later w v a b ws vs g) ws e.1) ws unmoved.1),
      )

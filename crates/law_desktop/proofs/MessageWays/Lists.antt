-- What is marked of a list of windows from which some are gone, and the others are the very same.
use Rattle.std.proofs.Common.{◌≡◌, ℕ, List, [], ◌∷◌, Bool, true, false, cond, refl, ap, sym, ◌∙◌}
use Rattle.std.specs.Prelude.{ℤ, ◌-ℤ◌, ◌&&◌, ◌||◌, filter, not}
use Rattle.std.specs.List.{list_any}
use Rattle.std.proofs.lemmas.Bool.{and_from, and_left, and_right, false_from_ne_true, or_left, or_right}
use Rattle.spec_desktop.specs.Windows.{Window, contains}
use Rattle.spec_desktop.specs.Marks.{Applied, AreDistinct, at_least, has_moved_past, has_same_record, is_before, is_changed_at, is_damaged_at, is_kept_in, is_restacked_at}
use Rattle.spec_desktop.specs.Marks.{in_output, shared_by}
use Rattle.law_desktop.proofs.Marks.Painted.{before-whole, each-kept}
use Rattle.law_desktop.proofs.Marks.Stacks.{recorded}
use Rattle.law_desktop.proofs.Truth.{and-left, and-right, differ}
use Rattle.law_desktop.proofs.Lists.Each.{Each, each-map}
use Rattle.law_desktop.proofs.Lists.Tests.{any-each-more, any-more, any-none}
use Rattle.law_desktop.proofs.TreeMarks.Records.{one-before}

-- ---- truth

-- one of four, of which the others don't hold
first-of : (a b c d : Bool) → ((a || b) || (c || d)) ≡ true → b ≡ false → c ≡ false → d ≡ false → a ≡ true
first-of true b c d e f g h = refl
first-of false true c d e f g h = absurd (differ (sym f))
first-of false false true d e f g h = absurd (differ (sym g))
first-of false false false d e f g h = absurd (differ (sym h ∙ e))

-- ---- lists

pub any-never : {X : Type 0} (p : X → Bool) → ((x : X) → p x ≡ false) → (xs : List X) → list_any p xs ≡ false
any-never p never [] = refl
any-never p never (x ∷ xs) = ap (λ b. b || list_any p xs) (never x) ∙ any-never p never xs

pub filter-every : {X : Type 0} (xs : List X) → filter (λ x. true) xs ≡ xs
filter-every [] = refl
filter-every (x ∷ xs) = ap (λ ys. x ∷ ys) (filter-every xs)

-- ---- windows that are kept

record-self : (w : Window) → has_same_record w w ≡ true
record-self w = recorded w w (record { client = refl; surface = refl; x = refl; y = refl; width = refl; height = refl; transform = refl; scale = refl })

each-in : (ws : List Window) → Each (λ w. is_kept_in ws w ≡ true) ws
each-in [] = tt
each-in (w ∷ ws) = (
  or_left (has_same_record w w) (list_any (has_same_record w) ws) (record-self w),
  each-map (λ v. is_kept_in ws v ≡ true) (λ v. is_kept_in (w ∷ ws) v ≡ true)
      (λ v e. or_right (has_same_record v w) (list_any (has_same_record v) ws) e) ws (each-in ws),
)

-- those that pass are among what is left
each-left : (keep : Window → Bool) (ws : List Window) → Each (λ w. keep w ≡ true → is_kept_in (filter keep ws) w ≡ true) ws
each-left keep [] = tt
each-left keep (w ∷ ws) = (
  λ kept.
      ap (λ b. is_kept_in (cond b (w ∷ filter keep ws) (filter keep ws)) w) kept
      ∙ or_left (has_same_record w w) (is_kept_in (filter keep ws) w) (record-self w),
  each-map (λ v. keep v ≡ true → is_kept_in (filter keep ws) v ≡ true) (λ v. keep v ≡ true → is_kept_in (filter keep (w ∷ ws)) v ≡ true)
      (λ v later kept. at v (keep w) (later kept)) ws (each-left keep ws),
)
  where
    at : (v : Window) (b : Bool) → is_kept_in (filter keep ws) v ≡ true → is_kept_in (cond b (w ∷ filter keep ws) (filter keep ws)) v ≡ true
    at v true e = or_right (has_same_record v w) (is_kept_in (filter keep ws) v) e
    at v false e = e

-- ---- what is marked

module _ (keep : Window → Bool) (old : List Window) (x y : ℤ) where
  abbrev left : List Window
  left = filter keep old

  -- it contains the point, and is gone
  abbrev pub is_gone_at : Window → Bool
  is_gone_at w = contains w x y && not (keep w)

  gone-changed : list_any (is_changed_at left x y) old ≡ true → list_any is_gone_at old ≡ true
  gone-changed e =
      any-each-more (is_changed_at left x y) is_gone_at (λ w. keep w ≡ true → is_kept_in left w ≡ true) (λ w kept changed. at w (keep w) refl kept changed) old
      (each-left keep old) e
    where
      at : (w : Window) (b : Bool) → keep w ≡ b → (keep w ≡ true → is_kept_in left w ≡ true) → is_changed_at left x y w ≡ true → is_gone_at w ≡ true
      at w true is kept changed =
          absurd (differ (sym (ap (λ b. not b) (kept is)) ∙ and-right (contains w x y) (not (is_kept_in left w)) changed))
      at w false is kept changed =
          and_from (contains w x y) (not (keep w)) (and-left (contains w x y) (not (is_kept_in left w)) changed) (ap (λ b. not b) is)

  none-came : list_any (is_changed_at old x y) left ≡ false
  none-came =
      any-none (is_changed_at old x y) left
      (each-map (λ w. (keep w ≡ true) × (is_kept_in old w ≡ true)) (λ w. is_changed_at old x y w ≡ false)
      (λ w is. and_right (contains w x y) (not (is_kept_in old w)) (ap (λ b. not b) is.1)) left
      (each-kept keep (λ w. is_kept_in old w ≡ true) old (each-in old)))

  module _ (applied : Applied) (apart : AreDistinct old)
      (undamaged : (w : Window) → keep w ≡ true → (p q : ℤ) → applied w.owner.client w.surface p q ≡ false) (width height : ℕ) where
    none-damaged : list_any (is_damaged_at applied old x y) left ≡ false
    none-damaged =
        any-none (is_damaged_at applied old x y) left
        (each-map (λ w. (keep w ≡ true) × (is_kept_in old w ≡ true)) (λ w. is_damaged_at applied old x y w ≡ false)
        (λ w is. and_right (is_kept_in old w) _
        (and_right (contains w x y) (applied w.owner.client w.surface (x -ℤ w.corner.x) (y -ℤ w.corner.y))
        (undamaged w is.0 (x -ℤ w.corner.x) (y -ℤ w.corner.y)))) left
        (each-kept keep (λ w. is_kept_in old w ≡ true) old (each-in old)))

    none-moved : (w v : Window) → has_moved_past old left w v ≡ false
    none-moved w v =
        false_from_ne_true (has_moved_past old left w v)
        (λ moved. one-before w v old apart (and-left (is_before w v old) (is_before v w left) moved)
        (before-whole keep v w old (and-right (is_before w v old) (is_before v w left) moved)))

    none-restacked : is_restacked_at old left x y ≡ false
    none-restacked =
        any-never (λ w. list_any (λ v. has_moved_past old left w v && (shared_by old w v x y || shared_by left w v x y)) old)
        (λ w. any-never (λ v. has_moved_past old left w v && (shared_by old w v x y || shared_by left w v x y))
        (λ v. and_left (has_moved_past old left w v) (shared_by old w v x y || shared_by left w v x y) (none-moved w v)) old) old

    -- What is marked at least lies in a window that is gone.
    pub least-gone : at_least width height applied old left x y ≡ true → list_any is_gone_at old ≡ true
    least-gone marked =
        gone-changed
        (first-of (list_any (is_changed_at left x y) old) (list_any (is_changed_at old x y) left) (list_any (is_damaged_at applied old x y) left)
        (is_restacked_at old left x y) (and-right (in_output width height x y) _ marked) none-came none-damaged none-restacked)

-- Where windows go that have no record of one that is left, each point in one of them is among what is marked at least.
pub gone-least : (keep : Window → Bool) (old : List Window) (x y : ℤ) → ((w v : Window) → has_same_record w v ≡ true → keep w ≡ keep v)
    → (applied : Applied) (width height : ℕ) → in_output width height x y ≡ true → list_any (λ w. contains w x y && not (keep w)) old ≡ true
    → at_least width height applied old (filter keep old) x y ≡ true
gone-least keep old x y same applied width height inside gone =
    and_from (in_output width height x y) _ inside
    (or_left _ _ (or_left (list_any (is_changed_at (filter keep old) x y) old) _ (any-more-gone gone)))
  where
    none-kept : (w : Window) → keep w ≡ false → is_kept_in (filter keep old) w ≡ false
    none-kept w goes =
        any-none (has_same_record w) (filter keep old)
        (each-map (λ v. (keep v ≡ true) × (is_kept_in old v ≡ true)) (λ v. has_same_record w v ≡ false)
        (λ v is. false_from_ne_true (has_same_record w v) (λ also. differ (sym goes ∙ same w v also ∙ is.0))) (filter keep old)
        (each-kept keep (λ v. is_kept_in old v ≡ true) old (each-in old)))

    any-more-gone : list_any (λ w. contains w x y && not (keep w)) old ≡ true → list_any (is_changed_at (filter keep old) x y) old ≡ true
    any-more-gone e =
        any-more (λ w. contains w x y && not (keep w)) (is_changed_at (filter keep old) x y)
        (λ w f. and_from (contains w x y) (not (is_kept_in (filter keep old) w)) (and-left (contains w x y) (not (keep w)) f)
        (ap (λ b. not b) (none-kept w (false_from_ne_true (keep w) (λ kept. differ (sym (ap (λ b. not b) kept) ∙ and-right (contains w x y) (not (keep w)) f)))))) old e

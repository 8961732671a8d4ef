-- Windows with the same records, surfaces that have one window each, and trees.
use Rattle.std.proofs.Common.{◌≡◌, Bool, true, false, List, [], ◌∷◌, ◌++◌, refl, ap, sym, ◌∙◌, arith}
use Rattle.std.specs.Prelude.{ℕ, ◌==◌, ◌&&◌, ◌||◌, if◌then◌else◌}
use Rattle.std.specs.List.{list_any}
use Rattle.std.proofs.lemmas.Bool.{false_from_ne_true, or_left, or_right}
use Rattle.std.proofs.lemmas.Bool.Decides.{nat_tests}
use Rattle.std.proofs.lemmas.List.Folds.{list_any-append}
use Rattle.spec_desktop.specs.Windows.{Window}
use Rattle.spec_desktop.specs.Marks.{AreDistinct, has_same_record, is_before, is_of_tree, is_same_surface, same_records}
use Rattle.law_desktop.proofs.Marks.Stacks.{AreSame, any-surface, before-cons, before-there, fields, recorded}
use Rattle.law_desktop.proofs.Lists.Tests.{any-first, none-second}
use Rattle.law_desktop.proofs.Truth.{and-left, and-right, differ, either-of, or-left, or-right}
use Rattle.law_desktop.proofs.Lists.Each.{Each, each-map}

-- ---- one window

pub record-self : (w : Window) → has_same_record w w ≡ true
record-self w = recorded w w (record { client = refl; surface = refl; x = refl; y = refl; width = refl; height = refl; transform = refl; scale = refl })

pub record-turned : (w v : Window) → has_same_record w v ≡ true → has_same_record v w ≡ true
record-turned w v e =
    let f = fields w v e in
    recorded v w
    (record {
      client = sym f.client;
      surface = sym f.surface;
      x = sym f.x;
      y = sym f.y;
      width = sym f.width;
      height = sym f.height;
      transform = sym f.transform;
      scale = sym f.scale;
    })

-- a window is of the surface of one as of that of the other
surface-same : (a w v : Window) → has_same_record w v ≡ true → is_same_surface a w ≡ is_same_surface a v
surface-same a w v e =
    let f = fields w v e in
    ap (λ n. (a.owner.client == n) && (a.surface == w.surface)) f.client ∙ ap (λ n. (a.owner.client == v.owner.client) && (a.surface == n)) f.surface

equal-turned : (a b : ℕ) → (a == b) ≡ (b == a)
equal-turned a b = grind (arith, nat_tests)

pub tree-turned : (w v : Window) → is_of_tree w v ≡ is_of_tree v w
tree-turned w v =
    ap (λ b. b && (w.owner.root == v.owner.root)) (equal-turned w.owner.client v.owner.client)
    ∙ ap (λ b. (v.owner.client == w.owner.client) && b) (equal-turned w.owner.root v.owner.root)

-- ---- windows that keep their records one by one

pub same-self : (ws : List Window) → AreSame ws ws
same-self [] = tt
same-self (w ∷ ws) = (record-self w, same-self ws)

pub same-turned : (ws vs : List Window) → AreSame ws vs → AreSame vs ws
same-turned [] [] e = tt
same-turned (w ∷ ws) (v ∷ vs) e = (record-turned w v e.0, same-turned ws vs e.1)
same-turned [] (v ∷ vs) e = absurd e
same-turned (w ∷ ws) [] e = absurd e

pub same-append : (ws vs us bs : List Window) → AreSame ws vs → AreSame us bs → AreSame (ws ++ us) (vs ++ bs)
same-append [] [] us bs e f = f
same-append (w ∷ ws) (v ∷ vs) us bs e f = (e.0, same-append ws vs us bs e.1 f)
same-append [] (v ∷ vs) us bs e f = absurd e
same-append (w ∷ ws) [] us bs e f = absurd e

-- so they do where the test says so
pub same-tested : (ws vs : List Window) → same_records ws vs ≡ true → AreSame ws vs
same-tested [] [] e = tt
same-tested (w ∷ ws) (v ∷ vs) e =
    (and-left (has_same_record w v) (same_records ws vs) e, same-tested ws vs (and-right (has_same_record w v) (same_records ws vs) e))
same-tested [] (v ∷ vs) e = absurd (differ e)
same-tested (w ∷ ws) [] e = absurd (differ e)

pub records-self : (ws : List Window) → same_records ws ws ≡ true
records-self [] = refl
records-self (w ∷ ws) = ap (λ b. b && same_records ws ws) (record-self w) ∙ records-self ws

-- each is among those with its record
pub each-kept : (ws vs : List Window) → AreSame ws vs → Each (λ w. list_any (has_same_record w) vs ≡ true) ws
each-kept [] [] e = tt
each-kept (w ∷ ws) (v ∷ vs) e = (
  or_left (has_same_record w v) (list_any (has_same_record w) vs) e.0,
  each-map (λ u. list_any (has_same_record u) vs ≡ true) (λ u. list_any (has_same_record u) (v ∷ vs) ≡ true)
      (λ u f. or_right (has_same_record u v) (list_any (has_same_record u) vs) f) ws (each-kept ws vs e.1),
)
each-kept [] (v ∷ vs) e = absurd e
each-kept (w ∷ ws) [] e = absurd e

any-same : (a : Window) (ws vs : List Window) → AreSame ws vs → list_any (is_same_surface a) ws ≡ list_any (is_same_surface a) vs
any-same a [] [] e = refl
any-same a (w ∷ ws) (v ∷ vs) e =
    ap (λ b. b || list_any (is_same_surface a) ws) (surface-same a w v e.0) ∙ ap (λ b. is_same_surface a v || b) (any-same a ws vs e.1)
any-same a [] (v ∷ vs) e = absurd e
any-same a (w ∷ ws) [] e = absurd e

-- one stands before another among these as among those
pub before-same : (a b : Window) (ws vs : List Window) → AreSame ws vs → is_before a b ws ≡ is_before a b vs
before-same a b [] [] e = refl
before-same a b (w ∷ ws) (v ∷ vs) e =
    ap (λ s. if s then list_any (is_same_surface b) ws else is_before a b ws) (surface-same a w v e.0)
    ∙ ap (λ t. if is_same_surface a v then t else is_before a b ws) (any-same b ws vs e.1)
    ∙ ap (λ t. if is_same_surface a v then list_any (is_same_surface b) vs else t) (before-same a b ws vs e.1)
before-same a b [] (v ∷ vs) e = absurd e
before-same a b (w ∷ ws) [] e = absurd e

-- ---- surfaces that have one window each

-- of the surface of the first window none of the others is
others-apart : (w x : Window) (xs : List Window) → list_any (is_same_surface x) xs ≡ false → is_same_surface w x ≡ true
    → list_any (is_same_surface w) xs ≡ false
others-apart w x xs apart same = false_from_ne_true (list_any (is_same_surface w) xs) (λ there. differ (sym apart ∙ any-surface w x xs same there))

-- of two windows that are told apart one stands before the other
pub one-before : (w v : Window) (xs : List Window) → AreDistinct xs → is_before w v xs ≡ true → is_before v w xs ≡ true → ⊥
one-before w v [] apart e f = differ e
one-before w v (x ∷ xs) apart e f = at (is_same_surface w x) (is_same_surface v x) refl refl e f (one-before w v xs apart.1)
  where
    at : (a b : Bool) → is_same_surface w x ≡ a → is_same_surface v x ≡ b → (if a then list_any (is_same_surface v) xs else is_before w v xs) ≡ true
        → (if b then list_any (is_same_surface w) xs else is_before v w xs) ≡ true
        → (is_before w v xs ≡ true → is_before v w xs ≡ true → ⊥) → ⊥
    at true true p q e f rest = differ (sym (others-apart w x xs apart.0 p) ∙ f)
    at true false p q e f rest = differ (sym (others-apart w x xs apart.0 p) ∙ before-there v w xs f)
    at false true p q e f rest = differ (sym (others-apart v x xs apart.0 q) ∙ before-there w v xs e)
    at false false p q e f rest = rest e f

pub distinct-second : (xs ys : List Window) → AreDistinct (xs ++ ys) → AreDistinct ys
distinct-second [] ys apart = apart
distinct-second (x ∷ xs) ys apart = distinct-second xs ys apart.1

-- a surface that has a window in the first of two lists has none in the second
pub apart-second : (w : Window) (xs ys : List Window) → AreDistinct (xs ++ ys) → list_any (is_same_surface w) xs ≡ true
    → list_any (is_same_surface w) ys ≡ false
apart-second w [] ys apart e = absurd (differ e)
apart-second w (x ∷ xs) ys apart e = at (is_same_surface w x) refl e (apart-second w xs ys apart.1)
  where
    at : (b : Bool) → is_same_surface w x ≡ b → (b || list_any (is_same_surface w) xs) ≡ true
        → (list_any (is_same_surface w) xs ≡ true → list_any (is_same_surface w) ys ≡ false) → list_any (is_same_surface w) ys ≡ false
    at true is f rest = none-second (is_same_surface w) xs ys (others-apart w x (xs ++ ys) apart.0 is)
    at false is f rest = rest f

pub apart-first : (w : Window) (xs ys : List Window) → AreDistinct (xs ++ ys) → list_any (is_same_surface w) ys ≡ true
    → list_any (is_same_surface w) xs ≡ false
apart-first w xs ys apart e = false_from_ne_true (list_any (is_same_surface w) xs) (λ f. differ (sym (apart-second w xs ys apart f) ∙ e))

-- ---- one before another, of two lists

pub before-first : (w v : Window) (xs ys : List Window) → is_before w v xs ≡ true → is_before w v (xs ++ ys) ≡ true
before-first w v [] ys e = absurd (differ e)
before-first w v (x ∷ xs) ys e = at (is_same_surface w x) e (before-first w v xs ys)
  where
    at : (b : Bool) → (if b then list_any (is_same_surface v) xs else is_before w v xs) ≡ true
        → (is_before w v xs ≡ true → is_before w v (xs ++ ys) ≡ true)
        → (if b then list_any (is_same_surface v) (xs ++ ys) else is_before w v (xs ++ ys)) ≡ true
    at true f rest = any-first (is_same_surface v) xs ys f
    at false f rest = rest f

pub before-second : (w v : Window) (xs ys : List Window) → is_before w v ys ≡ true → is_before w v (xs ++ ys) ≡ true
before-second w v [] ys e = e
before-second w v (x ∷ xs) ys e = before-cons w v x (xs ++ ys) (before-second w v xs ys e)

-- where the upper one isn't in the second list, both are in the first
pub before-in-first : (w v : Window) (xs ys : List Window) → list_any (is_same_surface v) ys ≡ false → is_before w v (xs ++ ys) ≡ true
    → is_before w v xs ≡ true
before-in-first w v [] ys none e = absurd (differ (sym none ∙ before-there w v ys e))
before-in-first w v (x ∷ xs) ys none e = at (is_same_surface w x) e (before-in-first w v xs ys none)
  where
    at : (b : Bool) → (if b then list_any (is_same_surface v) (xs ++ ys) else is_before w v (xs ++ ys)) ≡ true
        → (is_before w v (xs ++ ys) ≡ true → is_before w v xs ≡ true)
        → (if b then list_any (is_same_surface v) xs else is_before w v xs) ≡ true
    at true f rest =
        either-of (list_any (is_same_surface v) xs ≡ true) (list_any (is_same_surface v) xs) (list_any (is_same_surface v) ys)
        (sym (list_any-append (is_same_surface v) xs ys) ∙ f) (λ g. g) (λ g. absurd (differ (sym none ∙ g)))
    at false f rest = rest f

-- where the lower one isn't in the first list, both are in the second
pub before-in-second : (w v : Window) (xs ys : List Window) → list_any (is_same_surface w) xs ≡ false → is_before w v (xs ++ ys) ≡ true
    → is_before w v ys ≡ true
before-in-second w v [] ys none e = e
before-in-second w v (x ∷ xs) ys none e =
    before-in-second w v xs ys (or-right (is_same_surface w x) (list_any (is_same_surface w) xs) none)
    (ap (λ b. if b then list_any (is_same_surface v) (xs ++ ys) else is_before w v (xs ++ ys))
    (sym (or-left (is_same_surface w x) (list_any (is_same_surface w) xs) none)) ∙ e)

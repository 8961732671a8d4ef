-- What stays right at points that aren't marked.
use Rattle.std.proofs.Common.{◌≡◌, ℕ, zero, suc, Bool, true, false, List, [], ◌∷◌, Option, Some, None, refl, ap, sym, subst, ◌∙◌}
use Rattle.std.specs.Prelude.{ℤ, ◌-ℤ◌, ◌==◌, ◌&&◌, ◌||◌, not, filter, cond, slice_get}
use Rattle.std.specs.List.{list_any}
use Rattle.std.proofs.lemmas.Bool.{and_from, eqb-true, false_from_ne_true}
use Rattle.wl_store.specs.declared.color.Argb.{Argb}
use Rattle.spec_desktop.specs.Windows.{contains}
use Rattle.spec_desktop.specs.Desktop.{Desktop, Showing}
use Rattle.law_desktop.specs.Laws.{ColorsStay}
use Rattle.spec_desktop.specs.Marks.{has_same_record, is_changed_at, is_kept_in}
use Rattle.spec_desktop.specs.Moments.{applied_between, marks_at_least_of}
use Rattle.spec_desktop.specs.Scratch.{color_in}
use Rattle.law_desktop.proofs.Marks.Painted.{contains-same, marked-none, scratch_stays}
use Rattle.law_desktop.proofs.Marks.Stacks.{equal-numbers, fields, same-number}
use Rattle.law_desktop.proofs.Truth.{and-left, and-right, differ, or-left, or-right}
use Rattle.law_desktop.proofs.Lists.Tests.{any-each, any-more, each-false}
use Rattle.wl_session.specs.Promises.{is_hidden_in, is_same_color, windows_by}
use Rattle.wl_session.specs.Unmarked.{AllDamageBut, UnmarkedStays, covers_at, in_output_of, is_covered}

-- ---- lists

at-option : {X : Type 0} → (X → Bool) → Option X → Bool
at-option p None = false
at-option p (Some x) = p x

value-or : {X : Type 0} → X → Option X → X
value-or d None = d
value-or d (Some x) = x

pub none-at : {X : Type 0} (p : X → Bool) (xs : List X) (i : ℕ) (x : X) → slice_get xs i ≡ Some x → list_any p xs ≡ false → p x ≡ false
unfolding at-option
none-at p [] i x is e = absurd (cc)
none-at {X} p (z ∷ zs) zero x is e = subst (λ (o : Option X). at-option p o ≡ false) is (or-left (p z) (list_any p zs) e)
none-at p (z ∷ zs) (suc i) x is e = none-at p zs i x is (or-right (p z) (list_any p zs) e)

-- the same of those that pass a test
first-kept : {X : Type 0} (p : X → Bool) (z : X) (zs : List X) (b : Bool) → b ≡ true → list_any p (cond b (z ∷ zs) zs) ≡ false → p z ≡ false
first-kept p z zs true is e = or-left (p z) (list_any p zs) e
first-kept p z zs false is e = absurd (differ is)

rest-kept : {X : Type 0} (p : X → Bool) (z : X) (zs : List X) (b : Bool) → list_any p (cond b (z ∷ zs) zs) ≡ false → list_any p zs ≡ false
rest-kept p z zs true e = or-right (p z) (list_any p zs) e
rest-kept p z zs false e = e

pub none-kept : {X : Type 0} (c p : X → Bool) (xs : List X) (i : ℕ) (x : X) → slice_get xs i ≡ Some x → c x ≡ true → list_any p (filter c xs) ≡ false → p x ≡ false
unfolding value-or
none-kept c p [] i x is there e = absurd (cc)
none-kept {X} c p (z ∷ zs) zero x is there e =
    let same : z ≡ x = ap (λ (o : Option X). value-or z o) is in
    sym (ap p same) ∙ first-kept p z (filter c zs) (c z) (ap c same ∙ there) e
none-kept c p (z ∷ zs) (suc i) x is there e = none-kept c p zs i x is there (rest-kept p z (filter c zs) (c z) e)

-- ---- colours

abbrev argb : ℕ → ℕ → ℕ → ℕ → Argb
argb a r g b = record { a = a; r = r; g = g; b = b }

color-is : (a a' r r' g g' b b' : ℕ) → a ≡ a' → r ≡ r' → g ≡ g' → b ≡ b' → argb a r g b ≡ argb a' r' g' b'
color-is a a' r r' g g' b b' e f h i = rw (e, f, h, i) refl

same-color : (c d : Argb) → is_same_color c d ≡ true → c ≡ d
same-color c d e =
    let first = and-left ((c.a == d.a) && (c.r == d.r)) _ e in
    let second = and-right ((c.a == d.a) && (c.r == d.r)) _ e in
    color-is c.a d.a c.r d.r c.g d.g c.b d.b
    (eqb-true c.a d.a (and-left (c.a == d.a) _ first)) (eqb-true c.r d.r (and-right (c.a == d.a) _ first)) (eqb-true c.g d.g (and-left (c.g == d.g) _ second))
    (eqb-true c.b d.b (and-right (c.g == d.g) _ second))

not-hidden : (a b s n : Bool) → (a && (b && (not s && not n))) ≡ false → a ≡ true → b ≡ true → n ≡ false → s ≡ true
not-hidden true true true false e f g h = refl
not-hidden true true false false e f g h = absurd (differ (sym e))
not-hidden false b s n e f g h = absurd (differ f)
not-hidden true false s n e f g h = absurd (differ g)
not-hidden true true s true e f g h = absurd (differ (sym h))

colors-stay : (shown : Showing) (liars : ℕ → Bool) (old new : Desktop) (x y : ℤ) → AllDamageBut shown liars old new → is_covered shown liars new x y ≡ false → ColorsStay shown old new x y
colors-stay shown liars old new x y keep clear i j w v before after same here none =
    let honest = without (liars v.owner.client) (contains v x y) (none-at (covers_at liars x y) (shown new) j v after clear) here in
    let unhidden = none-kept (λ z. z.owner.client == v.owner.client) (λ z. list_any (λ b. is_hidden_in old new x y b z) (windows_by shown v.owner.client old)) (shown new) j v after
    (same-number v.owner.client) (keep v.owner.client honest x y) in
    let seen = none-kept (λ z. z.owner.client == v.owner.client) (λ b. is_hidden_in old new x y b v) (shown old) i w before (equal-numbers w.owner.client v.owner.client (fields w v same).client)
    unhidden in
    same-color (color_in old w x y) (color_in new v x y)
    (not-hidden (has_same_record w v) (contains v x y) (is_same_color (color_in old w x y) (color_in new v x y)) (applied_between old new v.owner.client v.surface (x -ℤ v.corner.x) (y -ℤ v.corner.y))
    seen same here none) where
      without : (a b : Bool) → (a && b) ≡ false → b ≡ true → a ≡ false
      without true b e f = absurd (differ (sym e ∙ f))
      without false b e f = refl

pub unmarked_stays : UnmarkedStays
unmarked_stays shown liars background old new x y apart keep inside unmarked clear clear' =
    scratch_stays shown background old new x y apart.0 apart.1 inside unmarked (colors-stay shown liars old new x y keep clear')

-- ---- what is covered

-- what such a window covered is covered still, or marked
pub covered-still : (shown : Showing) (liars : ℕ → Bool) (old new : Desktop) (x y : ℤ) → in_output_of old x y ≡ true → marks_at_least_of shown old new x y ≡ false
    → is_covered shown liars new x y ≡ false → is_covered shown liars old x y ≡ false
covered-still shown liars old new x y inside unmarked clear =
    let all = marked-none (in_output_of old x y) _ unmarked inside in
    let changed = or-left (list_any (is_changed_at (shown new) x y) (shown old) || list_any (is_changed_at (shown old) x y) (shown new)) _ all in
    let gone = or-left (list_any (is_changed_at (shown new) x y) (shown old)) _ changed in
    false_from_ne_true (is_covered shown liars old x y)
    (λ covered. any-each (covers_at liars x y) (is_changed_at (shown new) x y) (shown old) covered (each-false (is_changed_at (shown new) x y) (shown old) gone)
    (λ w e. and_from (contains w x y) (not (is_kept_in (shown new) w)) (and-right (liars w.owner.client) (contains w x y) e)
    (ap not (false_from_ne_true (is_kept_in (shown new) w) (λ kept. differ (sym clear ∙ any-more (has_same_record w) (covers_at liars x y)
    (λ v same. and_from (liars v.owner.client) (contains v x y) (sym (ap liars (fields w v same).client) ∙ and-left (liars w.owner.client) (contains w x y) e) (sym (contains-same x y w v same)
    ∙ and-right (liars w.owner.client) (contains w x y) e))
    (shown new) kept))))))

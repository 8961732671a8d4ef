-- Windows of which those that pass a test come on top of the others: what such a step marks lies in them.
use Rattle.std.proofs.Common.{◌≡◌, Bool, true, false, List, [], ◌∷◌, ◌++◌, cond, refl, ap, sym, ◌∙◌}
use Rattle.std.specs.Prelude.{ℕ, ℤ, ◌&&◌, ◌||◌, if◌then◌else◌, filter, not, Option}
use Rattle.std.specs.List.{list_any}
use Rattle.std.proofs.lemmas.Bool.{and_from, or_left, or_right}
use Rattle.std.proofs.lemmas.List.Folds.{list_any-append}
use Rattle.spec_desktop.specs.Windows.{Window, contains}
use Rattle.spec_desktop.specs.Marks.{Applied, AreDistinct, at_least, at_most, has_changed_tree, has_moved_past, has_same_record, in_output, is_allowed_at, is_before, is_changed_at, is_damaged_at}
use Rattle.spec_desktop.specs.Marks.{is_kept_in, is_raised, is_restacked_at, is_same_surface, shared_by}
use Rattle.law_desktop.proofs.Marks.Stacks.{any-surface}
use Rattle.law_desktop.specs.TreeMarksLaws.{AreUndamaged, is_in_any}
use Rattle.law_desktop.proofs.Lists.Tests.{any-each-more, any-more, any-of}
use Rattle.law_desktop.proofs.TreeMarks.Records.{before-in-first, each-kept, one-before, same-self}
use Rattle.law_desktop.proofs.TreeMarks.Damage.{none-changed, none-damaged}
use Rattle.law_desktop.proofs.Truth.{and-left, and-right, differ, either-of}
use Rattle.law_desktop.proofs.Lists.Each.{Each, each-map}
use Rattle.law_desktop.proofs.Lists.Left.{any-filtered}

-- ---- those that pass behind the others

or-between : (a b c : Bool) → (a || (b || c)) ≡ (b || (a || c))
or-between true true c = refl
or-between true false c = refl
or-between false true c = refl
or-between false false c = refl

or-grouped : (a b c : Bool) → ((a || b) || c) ≡ (a || (b || c))
or-grouped true b c = refl
or-grouped false b c = refl

either-part : {X : Type 0} (p q : X → Bool) (xs : List X) → (list_any p (filter (λ x. not (q x)) xs) || list_any p (filter q xs)) ≡ list_any p xs
either-part p q [] = refl
either-part p q (x ∷ xs) = at (q x) (either-part p q xs)
  where
    at : (b : Bool) → (list_any p (filter (λ x. not (q x)) xs) || list_any p (filter q xs)) ≡ list_any p xs
        → (list_any p (cond (not b) (x ∷ filter (λ x. not (q x)) xs) (filter (λ x. not (q x)) xs)) || list_any p (cond b (x ∷ filter q xs) (filter q xs))) ≡ (p x || list_any p xs)
    at true e = or-between (list_any p (filter (λ x. not (q x)) xs)) (p x) (list_any p (filter q xs)) ∙ ap (λ b. p x || b) e
    at false e = or-grouped (p x) (list_any p (filter (λ x. not (q x)) xs)) (list_any p (filter q xs)) ∙ ap (λ b. p x || b) e

-- one of them passes another test where one did
any-parts : {X : Type 0} (p q : X → Bool) (xs : List X) → list_any p (filter (λ x. not (q x)) xs ++ filter q xs) ≡ list_any p xs
any-parts p q xs = list_any-append p (filter (λ x. not (q x)) xs) (filter q xs) ∙ either-part p q xs

-- what is left was there
any-left : {X : Type 0} (keep p : X → Bool) (xs : List X) → list_any p (filter keep xs) ≡ true → list_any p xs ≡ true
any-left keep p xs e = any-more (λ x. keep x && p x) p (λ x f. and-right (keep x) (p x) f) xs (sym (any-filtered p keep xs) ∙ e)

-- ---- the order of windows

before-there : (w v : Window) (xs : List Window) → is_before w v xs ≡ true → list_any (is_same_surface v) xs ≡ true
before-there w v [] e = e
before-there w v (x ∷ xs) e = or_right (is_same_surface v x) (list_any (is_same_surface v) xs) (at (is_same_surface w x) (before-there w v xs) e)
  where
    at : (b : Bool) → (is_before w v xs ≡ true → list_any (is_same_surface v) xs ≡ true)
        → (if b then list_any (is_same_surface v) xs else is_before w v xs) ≡ true → list_any (is_same_surface v) xs ≡ true
    at true later e = e
    at false later e = later e

-- two that are left stand in the order in which they stood
before-left : (keep : Window → Bool) (w v : Window) (xs : List Window) → is_before w v (filter keep xs) ≡ true → is_before w v xs ≡ true
before-left keep w v [] e = e
before-left keep w v (x ∷ xs) e = at (keep x) (before-left keep w v xs) e
  where
    same : (b : Bool) → (is_before w v (filter keep xs) ≡ true → is_before w v xs ≡ true)
        → (if b then list_any (is_same_surface v) (filter keep xs) else is_before w v (filter keep xs)) ≡ true
        → (if b then list_any (is_same_surface v) xs else is_before w v xs) ≡ true
    same true later e = any-left keep (is_same_surface v) xs e
    same false later e = later e

    more : (b : Bool) → is_before w v xs ≡ true → (if b then list_any (is_same_surface v) xs else is_before w v xs) ≡ true
    more true e = before-there w v xs e
    more false e = e

    at : (b : Bool) → (is_before w v (filter keep xs) ≡ true → is_before w v xs ≡ true)
        → is_before w v (cond b (x ∷ filter keep xs) (filter keep xs)) ≡ true → is_before w v (x ∷ xs) ≡ true
    at true later e = same (is_same_surface w x) later e
    at false later e = more (is_same_surface w x) (later e)

-- Where one of a surface's windows passes a test, its only window does.
in-passing : (its : Window → Bool) (w : Window) (p : Window → Bool) (xs : List Window) → AreDistinct xs → list_any (is_same_surface w) (filter its xs) ≡ true
    → list_any (λ a. is_same_surface w a && p a) xs ≡ true → list_any p (filter its xs) ≡ true
in-passing its w p [] apart some here = some
in-passing its w p (x ∷ xs) apart some here = at (its x) (is_same_surface w x) refl (in-passing its w p xs apart.1) some here
  where
    alone : is_same_surface w x ≡ true → list_any (is_same_surface w) xs ≡ true → ⊥
    alone same there = differ (sym apart.0 ∙ any-surface w x xs same there)

    at : (b s : Bool) → is_same_surface w x ≡ s
        → (list_any (is_same_surface w) (filter its xs) ≡ true → list_any (λ a. is_same_surface w a && p a) xs ≡ true → list_any p (filter its xs) ≡ true)
        → list_any (is_same_surface w) (cond b (x ∷ filter its xs) (filter its xs)) ≡ true → ((s && p x) || list_any (λ a. is_same_surface w a && p a) xs) ≡ true
        → list_any p (cond b (x ∷ filter its xs) (filter its xs)) ≡ true
    at true true same next some here =
        either-of ((p x || list_any p (filter its xs)) ≡ true) (p x) (list_any (λ a. is_same_surface w a && p a) xs) here (λ e. or_left (p x) (list_any p (filter its xs)) e)
        (λ e. absurd (alone same (any-more (λ a. is_same_surface w a && p a) (is_same_surface w) (λ a f. and-left (is_same_surface w a) (p a) f) xs e)))
    at false true same next some here = absurd (alone same (any-left its (is_same_surface w) xs some))
    at true false other next some here =
        or_right (p x) (list_any p (filter its xs)) (next (sym (ap (λ c. c || list_any (is_same_surface w) (filter its xs)) other) ∙ some) here)
    at false false other next some here = next some here

-- ---- what is marked

last-of : (a b c d : Bool) → ((a || b) || (c || d)) ≡ true → a ≡ false → b ≡ false → c ≡ false → d ≡ true
last-of true b c d e p q r = absurd (differ (sym p))
last-of false true c d e p q r = absurd (differ (sym q))
last-of false false true d e p q r = absurd (differ (sym r))
last-of false false false d e p q r = e

module _ (its : Window → Bool) (old : List Window) (x y : ℤ) where
  abbrev new : List Window
  new = filter (λ w. not (its w)) old ++ filter its old

  abbrev Held : Type 0
  Held = is_in_any x y (filter its old) ≡ true

  none-gone : list_any (is_changed_at new x y) old ≡ false
  none-gone =
      none-changed x y new old
      (each-map (λ w. list_any (has_same_record w) old ≡ true) (λ w. is_kept_in new w ≡ true) (λ w e. any-parts (has_same_record w) its old ∙ e) old
      (each-kept old old (same-self old)))

  none-came : list_any (is_changed_at old x y) new ≡ false
  none-came = any-parts (is_changed_at old x y) its old ∙ none-changed x y old old (each-kept old old (same-self old))

  module _ (apart : AreDistinct old) where
    -- the one that moved past the other is one of them
    one-passes : (w v : Window) → is_before w v old ≡ true → is_before v w new ≡ true → list_any (is_same_surface w) (filter its old) ≡ true
    one-passes w v before after = at (list_any (is_same_surface w) (filter its old)) refl
      where
        at : (b : Bool) → list_any (is_same_surface w) (filter its old) ≡ b → b ≡ true
        at true e = refl
        at false none =
            absurd
            (one-before w v old apart before
            (before-left (λ u. not (its u)) v w old (before-in-first v w (filter (λ u. not (its u)) old) (filter its old) none after)))

    past-held : (w v : Window) → is_before w v old ≡ true → is_before v w new ≡ true → (shared_by old w v x y || shared_by new w v x y) ≡ true → Held
    past-held w v before after shares =
        in-passing its w (λ a. contains a x y) old apart (one-passes w v before after)
        (either-of (list_any (λ a. is_same_surface w a && contains a x y) old ≡ true) (shared_by old w v x y) (shared_by new w v x y) shares
        (λ e. and-left (list_any (λ a. is_same_surface w a && contains a x y) old) _ e)
        (λ e. sym (any-parts (λ a. is_same_surface w a && contains a x y) its old) ∙ and-left (list_any (λ a. is_same_surface w a && contains a x y) new) _ e))

    abbrev moves : Window → Window → Bool
    moves w v = has_moved_past old new w v && (shared_by old w v x y || shared_by new w v x y)

    restacked : is_restacked_at old new x y ≡ true → Held
    restacked e =
        any-of Held (λ w. list_any (moves w) old) old e
        (λ w f.
        any-of Held (moves w) old f
        (λ v g.
        let past = and-left (has_moved_past old new w v) (shared_by old w v x y || shared_by new w v x y) g in
        past-held w v (and-left (is_before w v old) (is_before v w new) past) (and-right (is_before w v old) (is_before v w new) past)
        (and-right (has_moved_past old new w v) (shared_by old w v x y || shared_by new w v x y) g)))

    -- What is marked at least lies in them, where no damage was applied.
    pub least-passing : (applied : Applied) → AreUndamaged applied old → (width height : ℕ) → at_least width height applied old new x y ≡ true → Held
    least-passing applied undamaged width height marked =
        restacked
        (last-of (list_any (is_changed_at new x y) old) (list_any (is_changed_at old x y) new) (list_any (is_damaged_at applied old x y) new) (is_restacked_at old new x y)
        (and-right (in_output width height x y) _ marked) none-gone none-came
        (any-parts (is_damaged_at applied old x y) its old ∙ none-damaged x y applied old old undamaged))

  -- All points of theirs may be marked, where a press raised their toplevel.
  pub most-passing : (raised : Option (ℕ × ℕ)) → Each (λ w. its w ≡ true → is_raised raised w ≡ true) old → (applied : Applied) (width height : ℕ)
      → in_output width height x y ≡ true → Held → at_most width height applied raised old new x y ≡ true
  most-passing raised so applied width height inside held =
      or_right (at_least width height applied old new x y) _
      (and_from (in_output width height x y) _ inside
      (or_left (list_any (is_allowed_at old new raised x y) old) (list_any (is_allowed_at old new raised x y) new)
      (any-each-more (λ w. its w && contains w x y) (is_allowed_at old new raised x y) (λ w. its w ≡ true → is_raised raised w ≡ true)
      (λ w is e.
      and_from (contains w x y) (has_changed_tree old new w || is_raised raised w) (and-right (its w) (contains w x y) e)
      (or_right (has_changed_tree old new w) (is_raised raised w) (is (and-left (its w) (contains w x y) e)))) old so
      (sym (any-filtered (λ w. contains w x y) its old) ∙ held))))

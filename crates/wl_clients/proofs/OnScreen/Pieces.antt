-- Windows before and after a step, in pieces: those of a piece stay as they are, one by one, or all of them may have changed.
use Rattle.std.proofs.Common.{◌≡◌, ℕ, ◌+◌, ◌≤◌, Bool, true, false, List, [], ◌∷◌, ◌++◌, refl, ap, ap₂, sym, ◌∙◌, arith, cond}
use Rattle.std.specs.Prelude.{ℤ, ◌==◌, ◌&&◌, ◌||◌, if◌then◌else◌, not}
use Rattle.std.specs.List.{list_any}
use Rattle.std.proofs.lemmas.Bool.{false_from_ne_true, or_left, or_right}
use Rattle.std.proofs.lemmas.List.Folds.{list_any-append}
use Rattle.spec_desktop.specs.Windows.{Window, contains}
use Rattle.spec_desktop.specs.Marks.{Applied, AreDistinct, has_moved_past, has_same_record, is_before, is_changed_at, is_damaged_at, is_kept_in, is_restacked_at, is_same_surface, shared_by}
use Rattle.law_desktop.specs.TreeMarksLaws.{is_in_any, is_struck_at}
use Rattle.law_desktop.proofs.Marks.Stacks.{AreSame, any-surface, before-there, fields, recorded}
use Rattle.law_desktop.proofs.Lists.Each.{Each, each-append, each-map}
use Rattle.law_desktop.proofs.Lists.Tests.{any-first, any-more, any-of, any-second}
use Rattle.law_desktop.proofs.Truth.{and-left, and-right, differ, either-of, or-left, or-right, or-swapped}

pub record Piece : Type 0 where
  pub was : List Window
  pub is : List Window
  pub stays : Bool

abbrev pub befores : List Piece → List Window
befores [] = []
befores (p ∷ ps) = p.was ++ befores ps

abbrev pub afters : List Piece → List Window
afters [] = []
afters (p ∷ ps) = p.is ++ afters ps

-- these windows, where it is so
abbrev pub only_if : Bool → List Window → List Window
only_if true ws = ws
only_if false ws = []

-- the windows of the pieces that stay, and those of the others
abbrev pub stay_was : List Piece → List Window
stay_was [] = []
stay_was (p ∷ ps) = only_if p.stays p.was ++ stay_was ps

abbrev pub stay_is : List Piece → List Window
stay_is [] = []
stay_is (p ∷ ps) = only_if p.stays p.is ++ stay_is ps

abbrev pub loose_was : List Piece → List Window
loose_was [] = []
loose_was (p ∷ ps) = only_if (not p.stays) p.was ++ loose_was ps

abbrev pub loose_is : List Piece → List Window
loose_is [] = []
loose_is (p ∷ ps) = only_if (not p.stays) p.is ++ loose_is ps

-- those that stay do so one by one
abbrev pub Stay : List Piece → Type 0
Stay [] = Unit {0}
Stay (p ∷ ps) = (p.stays ≡ true → AreSame p.was p.is) × Stay ps

-- ---- each window is one that stays, or not

any-pieces-was : (q : Window → Bool) (ps : List Piece) → list_any q (befores ps) ≡ (list_any q (stay_was ps) || list_any q (loose_was ps))
any-pieces-was q [] = refl
any-pieces-was q (p ∷ ps) = list_any-append q p.was (befores ps) ∙ ap (λ b. list_any q p.was || b) (any-pieces-was q ps) ∙ at p.stays
  where
    at : (b : Bool) → (list_any q p.was || (list_any q (stay_was ps) || list_any q (loose_was ps)))
        ≡ (list_any q (only_if b p.was ++ stay_was ps) || list_any q (only_if (not b) p.was ++ loose_was ps))
    at true = assoc (list_any q p.was) (list_any q (stay_was ps)) (list_any q (loose_was ps))
        ∙ ap (λ b. b || list_any q (loose_was ps)) (sym (list_any-append q p.was (stay_was ps)))
      where
        assoc : (a b c : Bool) → (a || (b || c)) ≡ ((a || b) || c)
        assoc true b c = refl
        assoc false b c = refl
    at false = or-swapped (list_any q p.was) (list_any q (stay_was ps)) (list_any q (loose_was ps))
        ∙ ap (λ b. list_any q (stay_was ps) || b) (sym (list_any-append q p.was (loose_was ps)))

any-pieces-is : (q : Window → Bool) (ps : List Piece) → list_any q (afters ps) ≡ (list_any q (stay_is ps) || list_any q (loose_is ps))
any-pieces-is q [] = refl
any-pieces-is q (p ∷ ps) = list_any-append q p.is (afters ps) ∙ ap (λ b. list_any q p.is || b) (any-pieces-is q ps) ∙ at p.stays
  where
    at : (b : Bool) → (list_any q p.is || (list_any q (stay_is ps) || list_any q (loose_is ps)))
        ≡ (list_any q (only_if b p.is ++ stay_is ps) || list_any q (only_if (not b) p.is ++ loose_is ps))
    at true = assoc (list_any q p.is) (list_any q (stay_is ps)) (list_any q (loose_is ps))
        ∙ ap (λ b. b || list_any q (loose_is ps)) (sym (list_any-append q p.is (stay_is ps)))
      where
        assoc : (a b c : Bool) → (a || (b || c)) ≡ ((a || b) || c)
        assoc true b c = refl
        assoc false b c = refl
    at false = or-swapped (list_any q p.is) (list_any q (stay_is ps)) (list_any q (loose_is ps))
        ∙ ap (λ b. list_any q (stay_is ps) || b) (sym (list_any-append q p.is (loose_is ps)))

-- ---- how many windows a surface has

abbrev times : (Window → Bool) → List Window → ℕ
times q [] = 0
times q (w ∷ ws) = cond (q w) 1 0 + times q ws

times-append : (q : Window → Bool) (ws vs : List Window) → times q (ws ++ vs) ≡ times q ws + times q vs
times-append q [] vs = omega (arith)
times-append q (w ∷ ws) vs = let more = times-append q ws vs in omega (arith)

times-any : (q : Window → Bool) (ws : List Window) → list_any q ws ≡ true → 1 ≤ times q ws
times-any q [] e = absurd (differ e)
times-any q (w ∷ ws) e = at (q w) e (times-any q ws)
  where
    at : (b : Bool) → (b || list_any q ws) ≡ true → (list_any q ws ≡ true → 1 ≤ times q ws) → 1 ≤ cond b 1 0 + times q ws
    at true f more = omega (arith)
    at false f more = let m = more f in omega (arith)

times-none : (q : Window → Bool) (ws : List Window) → list_any q ws ≡ false → times q ws ≡ 0
times-none q [] e = refl
times-none q (w ∷ ws) e = at (q w) (or-left (q w) (list_any q ws) e) (times-none q ws (or-right (q w) (list_any q ws) e))
  where
    at : (b : Bool) → b ≡ false → times q ws ≡ 0 → cond b 1 0 + times q ws ≡ 0
    at true e f = absurd (differ (sym e))
    at false e f = omega (arith)

times-pieces-was : (q : Window → Bool) (ps : List Piece) → times q (befores ps) ≡ times q (stay_was ps) + times q (loose_was ps)
times-pieces-was q [] = omega (arith)
times-pieces-was q (p ∷ ps) = at p.stays (times-append q p.was (befores ps)) (times-pieces-was q ps)
  where
    at : (b : Bool) → times q (p.was ++ befores ps) ≡ times q p.was + times q (befores ps) → times q (befores ps) ≡ times q (stay_was ps) + times q (loose_was ps)
        → times q (p.was ++ befores ps) ≡ times q (only_if b p.was ++ stay_was ps) + times q (only_if (not b) p.was ++ loose_was ps)
    at true e more = let f = times-append q p.was (stay_was ps) in omega (arith)
    at false e more = let f = times-append q p.was (loose_was ps) in omega (arith)

times-pieces-is : (q : Window → Bool) (ps : List Piece) → times q (afters ps) ≡ times q (stay_is ps) + times q (loose_is ps)
times-pieces-is q [] = omega (arith)
times-pieces-is q (p ∷ ps) = at p.stays (times-append q p.is (afters ps)) (times-pieces-is q ps)
  where
    at : (b : Bool) → times q (p.is ++ afters ps) ≡ times q p.is + times q (afters ps) → times q (afters ps) ≡ times q (stay_is ps) + times q (loose_is ps)
        → times q (p.is ++ afters ps) ≡ times q (only_if b p.is ++ stay_is ps) + times q (only_if (not b) p.is ++ loose_is ps)
    at true e more = let f = times-append q p.is (stay_is ps) in omega (arith)
    at false e more = let f = times-append q p.is (loose_is ps) in omega (arith)

-- no surface has two of them
times-once : (w : Window) (ws : List Window) → AreDistinct ws → times (is_same_surface w) ws ≤ 1
times-once w [] apart = omega (arith)
times-once w (a ∷ ws) apart = at (is_same_surface w a) refl (times-once w ws apart.1)
  where
    none : is_same_surface w a ≡ true → list_any (is_same_surface w) ws ≡ false
    none same = false_from_ne_true (list_any (is_same_surface w) ws)
        (λ f. differ (sym apart.0 ∙ any-surface w a ws same f))

    at : (b : Bool) → is_same_surface w a ≡ b → times (is_same_surface w) ws ≤ 1 → cond b 1 0 + times (is_same_surface w) ws ≤ 1
    at true same more = let f = times-none (is_same_surface w) ws (none same) in omega (arith)
    at false same more = omega (arith)

-- ---- windows that stay

-- one is of a surface where the other is
surface-like : (w a b : Window) → has_same_record a b ≡ true → is_same_surface w a ≡ is_same_surface w b
surface-like w a b e =
    let f = fields a b e in
    ap₂ (λ (c s : ℕ). (w.owner.client == c) && (w.surface == s)) f.client f.surface

any-like : (w : Window) (ws vs : List Window) → AreSame ws vs → list_any (is_same_surface w) ws ≡ list_any (is_same_surface w) vs
any-like w [] [] same = refl
any-like w [] (v ∷ vs) same = absurd same
any-like w (a ∷ ws) [] same = absurd same
any-like w (a ∷ ws) (b ∷ vs) same = ap₂ (λ c d. c || d) (surface-like w a b same.0) (any-like w ws vs same.1)

any-stay : (w : Window) (ps : List Piece) → Stay ps → list_any (is_same_surface w) (stay_was ps) ≡ list_any (is_same_surface w) (stay_is ps)
any-stay w [] stay = refl
any-stay w (p ∷ ps) stay = at p.stays stay.0 (any-stay w ps stay.1)
  where
    q : Window → Bool
    q = is_same_surface w

    at : (b : Bool) → (b ≡ true → AreSame p.was p.is) → list_any q (stay_was ps) ≡ list_any q (stay_is ps)
        → list_any q (only_if b p.was ++ stay_was ps) ≡ list_any q (only_if b p.is ++ stay_is ps)
    at true same more =
        list_any-append q p.was (stay_was ps) ∙ ap₂ (λ c d. c || d) (any-like w p.was p.is (same refl)) more ∙ sym (list_any-append q p.is (stay_is ps))
    at false same more = more

-- a surface with a window that may have changed has none that stays
loose-stays-not : (w : Window) (ps : List Piece) → Stay ps → AreDistinct (befores ps) → AreDistinct (afters ps)
    → (list_any (is_same_surface w) (loose_was ps) || list_any (is_same_surface w) (loose_is ps)) ≡ true
    → (list_any (is_same_surface w) (stay_was ps) ≡ false) × (list_any (is_same_surface w) (stay_is ps) ≡ false)
loose-stays-not w ps stay apart apart' loose =
    let none = either-of (list_any q (stay_was ps) ≡ false) (list_any q (loose_was ps)) (list_any q (loose_is ps)) loose
    (λ e. false_from_ne_true (list_any q (stay_was ps)) (λ f. once-was e f))
    (λ e. false_from_ne_true (list_any q (stay_was ps)) (λ f. once-is e (sym (any-stay w ps stay) ∙ f))) in
    (none, sym (any-stay w ps stay) ∙ none)
  where
    q : Window → Bool
    q = is_same_surface w

    once-was : list_any q (loose_was ps) ≡ true → list_any q (stay_was ps) ≡ true → ⊥
    once-was e f =
        let a = times-any q (loose_was ps) e in
        let b = times-any q (stay_was ps) f in
        let c = times-pieces-was q ps in
        let d = times-once w (befores ps) apart in absurd (omega (arith))

    once-is : list_any q (loose_is ps) ≡ true → list_any q (stay_is ps) ≡ true → ⊥
    once-is e f =
        let a = times-any q (loose_is ps) e in
        let b = times-any q (stay_is ps) f in
        let c = times-pieces-is q ps in
        let d = times-once w (afters ps) apart' in absurd (omega (arith))

-- ---- the order

-- What stands before what is the same of two lists, of the windows of two surfaces.
record Agree (w v : Window) (old new : List Window) : Type 0 where
  any : list_any (is_same_surface v) old ≡ list_any (is_same_surface v) new
  before : is_before w v old ≡ is_before w v new

agree-stay : (w v : Window) (ws vs old new : List Window) → AreSame ws vs → Agree w v old new → Agree w v (ws ++ old) (vs ++ new)
agree-stay w v [] [] old new same agree = agree
agree-stay w v [] (b ∷ vs) old new same agree = absurd same
agree-stay w v (a ∷ ws) [] old new same agree = absurd same
agree-stay w v (a ∷ ws) (b ∷ vs) old new same agree =
    let more = agree-stay w v ws vs old new same.1 agree in record {
      any = ap₂ (λ c d. c || d) (surface-like v a b same.0) more.any;
      before =
          ap (λ c. if c then list_any (is_same_surface v) (ws ++ old) else is_before w v (ws ++ old)) (surface-like w a b same.0)
          ∙ ap₂ (λ c d. if is_same_surface w b then c else d) more.any more.before;
    }

go-before : (w v : Window) (gs old : List Window) → list_any (is_same_surface w) gs ≡ false → is_before w v (gs ++ old) ≡ is_before w v old
go-before w v [] old none = refl
go-before w v (g ∷ gs) old none =
    ap (λ c. if c then list_any (is_same_surface v) (gs ++ old) else is_before w v (gs ++ old)) (or-left (is_same_surface w g) (list_any (is_same_surface w) gs) none)
    ∙ go-before w v gs old (or-right (is_same_surface w g) (list_any (is_same_surface w) gs) none)

go-any : (v : Window) (gs old : List Window) → list_any (is_same_surface v) gs ≡ false → list_any (is_same_surface v) (gs ++ old) ≡ list_any (is_same_surface v) old
go-any v gs old none = list_any-append (is_same_surface v) gs old ∙ ap (λ b. b || list_any (is_same_surface v) old) none

none-here : (q : Window → Bool) (ws vs : List Window) → list_any q (ws ++ vs) ≡ false → (list_any q ws ≡ false) × (list_any q vs ≡ false)
none-here q ws vs none =
    let e = sym (list_any-append q ws vs) ∙ none in
    (or-left (list_any q ws) (list_any q vs) e, or-right (list_any q ws) (list_any q vs) e)

-- none of the windows that may have changed is of the surface
record StaysIn (w : Window) (ps : List Piece) : Type 0 where
  was : list_any (is_same_surface w) (loose_was ps) ≡ false
  is : list_any (is_same_surface w) (loose_is ps) ≡ false

stays-later : (w : Window) (p : Piece) (ps : List Piece) → StaysIn w (p ∷ ps) → StaysIn w ps
stays-later w p ps stays = record {
  was = (none-here (is_same_surface w) (only_if (not p.stays) p.was) (loose_was ps) stays.was).1;
  is = (none-here (is_same_surface w) (only_if (not p.stays) p.is) (loose_is ps) stays.is).1;
}

agree-pieces : (w v : Window) (ps : List Piece) → Stay ps → StaysIn w ps → StaysIn v ps → Agree w v (befores ps) (afters ps)
agree-pieces w v [] stay one other = record { any = refl; before = refl }
agree-pieces w v (p ∷ ps) stay one other =
    at p.stays stay.0 (none-here (is_same_surface w) (only_if (not p.stays) p.was) (loose_was ps) one.was).0
    (none-here (is_same_surface w) (only_if (not p.stays) p.is) (loose_is ps) one.is).0
    (none-here (is_same_surface v) (only_if (not p.stays) p.was) (loose_was ps) other.was).0
    (none-here (is_same_surface v) (only_if (not p.stays) p.is) (loose_is ps) other.is).0
    (agree-pieces w v ps stay.1 (stays-later w p ps one) (stays-later v p ps other))
  where
    at : (b : Bool) → (b ≡ true → AreSame p.was p.is) → list_any (is_same_surface w) (only_if (not b) p.was) ≡ false
        → list_any (is_same_surface w) (only_if (not b) p.is) ≡ false → list_any (is_same_surface v) (only_if (not b) p.was) ≡ false
        → list_any (is_same_surface v) (only_if (not b) p.is) ≡ false → Agree w v (befores ps) (afters ps)
        → Agree w v (p.was ++ befores ps) (p.is ++ afters ps)
    at true same a b c d more = agree-stay w v p.was p.is (befores ps) (afters ps) (same refl) more
    at false same a b c d more = record {
      any = go-any v p.was (befores ps) c ∙ more.any ∙ sym (go-any v p.is (afters ps) d);
      before = go-before w v p.was (befores ps) a ∙ more.before ∙ sym (go-before w v p.is (afters ps) b);
    }

-- of two windows of which each stands before the other, one is there twice
never-both : (w v : Window) (ws : List Window) → AreDistinct ws → is_before w v ws ≡ true → is_before v w ws ≡ true → ⊥
never-both w v [] apart e f = differ e
never-both w v (a ∷ ws) apart e f = at (is_same_surface w a) refl (is_same_surface v a) refl e f (never-both w v ws apart.1)
  where
    none : (u : Window) → is_same_surface u a ≡ true → list_any (is_same_surface u) ws ≡ true → ⊥
    none u same g = differ (sym apart.0 ∙ any-surface u a ws same g)

    at : (b : Bool) → is_same_surface w a ≡ b → (c : Bool) → is_same_surface v a ≡ c
        → (if b then list_any (is_same_surface v) ws else is_before w v ws) ≡ true
        → (if c then list_any (is_same_surface w) ws else is_before v w ws) ≡ true
        → (is_before w v ws ≡ true → is_before v w ws ≡ true → ⊥) → ⊥
    at true s true t g h next = none w s h
    at true s false t g h next = none w s (before-there v w ws h)
    at false s true t g h next = none v t (before-there w v ws g)
    at false s false t g h next = next g h

-- ---- what is marked at least

-- a window that stays is kept, before and after
same-kept : (ws vs : List Window) → AreSame ws vs → Each (λ w. list_any (has_same_record w) vs ≡ true) ws
same-kept [] [] same = tt
same-kept [] (v ∷ vs) same = absurd same
same-kept (w ∷ ws) [] same = absurd same
same-kept (w ∷ ws) (v ∷ vs) same = (
  or_left (has_same_record w v) (list_any (has_same_record w) vs) same.0,
  each-map (λ u. list_any (has_same_record u) vs ≡ true) (λ u. list_any (has_same_record u) (v ∷ vs) ≡ true)
      (λ u e. or_right (has_same_record u v) (list_any (has_same_record u) vs) e) ws (same-kept ws vs same.1),
)

turned : (w v : Window) → has_same_record w v ≡ true → has_same_record v w ≡ true
turned w v e =
    let f = fields w v e in
    recorded v w
    (record {
      client = sym f.client;
      surface = sym f.surface;
      x = sym f.x;
      y = sym f.y;
      width = sym f.width;
      height = sym f.height;
      transform = sym f.transform;
      scale = sym f.scale;
    })

same-turned : (ws vs : List Window) → AreSame ws vs → AreSame vs ws
same-turned [] [] same = tt
same-turned [] (v ∷ vs) same = absurd same
same-turned (w ∷ ws) [] same = absurd same
same-turned (w ∷ ws) (v ∷ vs) same = (turned w v same.0, same-turned ws vs same.1)

stay-kept : (ps : List Piece) → Stay ps → Each (λ w. list_any (has_same_record w) (stay_is ps) ≡ true) (stay_was ps)
stay-kept [] stay = tt
stay-kept (p ∷ ps) stay = at p.stays stay.0 (stay-kept ps stay.1)
  where
    at : (b : Bool) → (b ≡ true → AreSame p.was p.is) → Each (λ w. list_any (has_same_record w) (stay_is ps) ≡ true) (stay_was ps)
        → Each (λ w. list_any (has_same_record w) (only_if b p.is ++ stay_is ps) ≡ true) (only_if b p.was ++ stay_was ps)
    at true same more =
        each-append (λ w. list_any (has_same_record w) (p.is ++ stay_is ps) ≡ true) p.was (stay_was ps)
        (each-map (λ w. list_any (has_same_record w) p.is ≡ true) (λ w. list_any (has_same_record w) (p.is ++ stay_is ps) ≡ true)
        (λ w e. any-first (has_same_record w) p.is (stay_is ps) e) p.was (same-kept p.was p.is (same refl)))
        (each-map (λ w. list_any (has_same_record w) (stay_is ps) ≡ true) (λ w. list_any (has_same_record w) (p.is ++ stay_is ps) ≡ true)
        (λ w e. any-second (has_same_record w) p.is (stay_is ps) e) (stay_was ps) more)
    at false same more = more

stay-found : (ps : List Piece) → Stay ps → Each (λ w. list_any (has_same_record w) (stay_was ps) ≡ true) (stay_is ps)
stay-found [] stay = tt
stay-found (p ∷ ps) stay = at p.stays stay.0 (stay-found ps stay.1)
  where
    at : (b : Bool) → (b ≡ true → AreSame p.was p.is) → Each (λ w. list_any (has_same_record w) (stay_was ps) ≡ true) (stay_is ps)
        → Each (λ w. list_any (has_same_record w) (only_if b p.was ++ stay_was ps) ≡ true) (only_if b p.is ++ stay_is ps)
    at true same more =
        each-append (λ w. list_any (has_same_record w) (p.was ++ stay_was ps) ≡ true) p.is (stay_is ps)
        (each-map (λ w. list_any (has_same_record w) p.was ≡ true) (λ w. list_any (has_same_record w) (p.was ++ stay_was ps) ≡ true)
        (λ w e. any-first (has_same_record w) p.was (stay_was ps) e) p.is (same-kept p.is p.was (same-turned p.was p.is (same refl))))
        (each-map (λ w. list_any (has_same_record w) (stay_was ps) ≡ true) (λ w. list_any (has_same_record w) (p.was ++ stay_was ps) ≡ true)
        (λ w e. any-second (has_same_record w) p.was (stay_was ps) e) (stay_is ps) more)
    at false same more = more

-- no window that is kept is one that changed
not-changed : (others ws : List Window) (x y : ℤ) → Each (λ w. is_kept_in others w ≡ true) ws → list_any (is_changed_at others x y) ws ≡ false
not-changed others [] x y kept = refl
not-changed others (w ∷ ws) x y kept =
    ap (λ b. (contains w x y && not b) || list_any (is_changed_at others x y) ws) kept.0 ∙ at (contains w x y) (not-changed others ws x y kept.1)
  where
    at : (b : Bool) → list_any (is_changed_at others x y) ws ≡ false → ((b && false) || list_any (is_changed_at others x y) ws) ≡ false
    at true e = e
    at false e = e

module _ (ps : List Piece) (stay : Stay ps) (apart : AreDistinct (befores ps)) (apart' : AreDistinct (afters ps)) (applied : Applied) (x y : ℤ) where
  old : List Window
  old = befores ps

  new : List Window
  new = afters ps

  abbrev pub loose : Bool
  loose = is_in_any x y (loose_was ps) || is_in_any x y (loose_is ps)

  in-was : is_in_any x y (loose_was ps) ≡ true → loose ≡ true
  in-was e = or_left (is_in_any x y (loose_was ps)) (is_in_any x y (loose_is ps)) e

  in-is : is_in_any x y (loose_is ps) ≡ true → loose ≡ true
  in-is e = or_right (is_in_any x y (loose_was ps)) (is_in_any x y (loose_is ps)) e

  kept-after : Each (λ w. is_kept_in (afters ps) w ≡ true) (stay_was ps)
  kept-after =
      each-map (λ w. list_any (has_same_record w) (stay_is ps) ≡ true) (λ w. is_kept_in (afters ps) w ≡ true)
      (λ w e. any-pieces-is (has_same_record w) ps ∙ or_left (list_any (has_same_record w) (stay_is ps)) _ e) (stay_was ps) (stay-kept ps stay)

  kept-before : Each (λ w. is_kept_in (befores ps) w ≡ true) (stay_is ps)
  kept-before =
      each-map (λ w. list_any (has_same_record w) (stay_was ps) ≡ true) (λ w. is_kept_in (befores ps) w ≡ true)
      (λ w e. any-pieces-was (has_same_record w) ps ∙ or_left (list_any (has_same_record w) (stay_was ps)) _ e) (stay_is ps) (stay-found ps stay)

  gone-marked : list_any (is_changed_at (afters ps) x y) (befores ps) ≡ true → loose ≡ true
  gone-marked e =
      either-of (loose ≡ true) (list_any (is_changed_at (afters ps) x y) (stay_was ps)) (list_any (is_changed_at (afters ps) x y) (loose_was ps))
      (sym (any-pieces-was (is_changed_at (afters ps) x y) ps) ∙ e)
      (λ f. absurd (differ (sym (not-changed (afters ps) (stay_was ps) x y kept-after) ∙ f)))
      (λ f. in-was (any-more (is_changed_at (afters ps) x y) (λ w. contains w x y) (λ w g. and-left (contains w x y) _ g) (loose_was ps) f))

  come-marked : list_any (is_changed_at (befores ps) x y) (afters ps) ≡ true → loose ≡ true
  come-marked e =
      either-of (loose ≡ true) (list_any (is_changed_at (befores ps) x y) (stay_is ps)) (list_any (is_changed_at (befores ps) x y) (loose_is ps))
      (sym (any-pieces-is (is_changed_at (befores ps) x y) ps) ∙ e)
      (λ f. absurd (differ (sym (not-changed (befores ps) (stay_is ps) x y kept-before) ∙ f)))
      (λ f. in-is (any-more (is_changed_at (befores ps) x y) (λ w. contains w x y) (λ w g. and-left (contains w x y) _ g) (loose_is ps) f))

  abbrev pub struck : Bool
  struck = list_any (is_struck_at applied x y) (stay_is ps)

  damage-marked : list_any (is_damaged_at applied (befores ps) x y) (afters ps) ≡ true → (struck || loose) ≡ true
  damage-marked e =
      either-of ((struck || loose) ≡ true) struck (list_any (is_struck_at applied x y) (loose_is ps))
      (sym (any-pieces-is (is_struck_at applied x y) ps)
      ∙ any-more (is_damaged_at applied (befores ps) x y) (is_struck_at applied x y) (λ w f. and-right (is_kept_in (befores ps) w) _ f) (afters ps) e)
      (λ f. or_left struck loose f)
      (λ f. or_right struck loose
      (in-is (any-more (is_struck_at applied x y) (λ w. contains w x y) (λ w g. and-left (contains w x y) _ g) (loose_is ps) f)))

  -- a window of a surface that may have changed is marked where it has the point
  shares-was : (w : Window) → (list_any (is_same_surface w) (stay_was ps) ≡ false)
      → list_any (λ a. is_same_surface w a && contains a x y) (befores ps) ≡ true → loose ≡ true
  shares-was w none e =
      either-of (loose ≡ true) (list_any (λ a. is_same_surface w a && contains a x y) (stay_was ps)) (list_any (λ a. is_same_surface w a && contains a x y) (loose_was ps))
      (sym (any-pieces-was (λ a. is_same_surface w a && contains a x y) ps) ∙ e)
      (λ f. absurd (differ (sym none
      ∙ any-more (λ a. is_same_surface w a && contains a x y) (is_same_surface w) (λ a g. and-left (is_same_surface w a) _ g) (stay_was ps) f)))
      (λ f. in-was (any-more (λ a. is_same_surface w a && contains a x y) (λ a. contains a x y) (λ a g. and-right (is_same_surface w a) _ g) (loose_was ps) f))

  shares-is : (w : Window) → (list_any (is_same_surface w) (stay_is ps) ≡ false)
      → list_any (λ a. is_same_surface w a && contains a x y) (afters ps) ≡ true → loose ≡ true
  shares-is w none e =
      either-of (loose ≡ true) (list_any (λ a. is_same_surface w a && contains a x y) (stay_is ps)) (list_any (λ a. is_same_surface w a && contains a x y) (loose_is ps))
      (sym (any-pieces-is (λ a. is_same_surface w a && contains a x y) ps) ∙ e)
      (λ f. absurd (differ (sym none
      ∙ any-more (λ a. is_same_surface w a && contains a x y) (is_same_surface w) (λ a g. and-left (is_same_surface w a) _ g) (stay_is ps) f)))
      (λ f. in-is (any-more (λ a. is_same_surface w a && contains a x y) (λ a. contains a x y) (λ a g. and-right (is_same_surface w a) _ g) (loose_is ps) f))

  is_loose : Window → Bool
  is_loose w = list_any (is_same_surface w) (loose_was ps) || list_any (is_same_surface w) (loose_is ps)

  shares : (w v : Window) → is_loose w ≡ true → (z : Bool)
      → ((list_any (λ a. is_same_surface w a && contains a x y) (befores ps) && z) ≡ true → loose ≡ true)
      × ((list_any (λ a. is_same_surface w a && contains a x y) (afters ps) && z) ≡ true → loose ≡ true)
  unfolding is_loose
  shares w v is z =
      let none = loose-stays-not w ps stay apart apart' is in (
        λ e. shares-was w none.0 (and-left (list_any (λ a. is_same_surface w a && contains a x y) (befores ps)) z e),
        λ e. shares-is w none.1 (and-left (list_any (λ a. is_same_surface w a && contains a x y) (afters ps)) z e),
      )

  stays-in : (w : Window) → is_loose w ≡ false → StaysIn w ps
  unfolding is_loose
  stays-in w e = record {
    was = or-left (list_any (is_same_surface w) (loose_was ps)) (list_any (is_same_surface w) (loose_is ps)) e;
    is = or-right (list_any (is_same_surface w) (loose_was ps)) (list_any (is_same_surface w) (loose_is ps)) e;
  }

  past-marked : (w v : Window) → (has_moved_past (befores ps) (afters ps) w v && (shared_by (befores ps) w v x y || shared_by (afters ps) w v x y)) ≡ true → loose ≡ true
  past-marked w v e = at (is_loose w) refl (is_loose v) refl
    where
      past : has_moved_past (befores ps) (afters ps) w v ≡ true
      past = and-left (has_moved_past (befores ps) (afters ps) w v) _ e

      share : (shared_by (befores ps) w v x y || shared_by (afters ps) w v x y) ≡ true
      share = and-right (has_moved_past (befores ps) (afters ps) w v) _ e

      swapped : (a b : Bool) → (a && b) ≡ true → (b && a) ≡ true
      swapped true true f = f
      swapped true false f = f
      swapped false true f = f
      swapped false false f = f

      at : (a : Bool) → is_loose w ≡ a → (b : Bool) → is_loose v ≡ b → loose ≡ true
      at true f b g =
          either-of (loose ≡ true) (shared_by (befores ps) w v x y) (shared_by (afters ps) w v x y) share
          (shares w v f (list_any (λ a. is_same_surface v a && contains a x y) (befores ps))).0 (shares w v f (list_any (λ a. is_same_surface v a && contains a x y) (afters ps))).1
      at false f true g =
          either-of (loose ≡ true) (shared_by (befores ps) w v x y) (shared_by (afters ps) w v x y) share
          (λ h. (shares v w g (list_any (λ a. is_same_surface w a && contains a x y) (befores ps))).0 (swapped (list_any (λ a. is_same_surface w a && contains a x y) (befores ps)) (list_any (λ a. is_same_surface v a && contains a x y) (befores ps)) h))
          (λ h. (shares v w g (list_any (λ a. is_same_surface w a && contains a x y) (afters ps))).1 (swapped (list_any (λ a. is_same_surface w a && contains a x y) (afters ps)) (list_any (λ a. is_same_surface v a && contains a x y) (afters ps)) h))
      at false f false g =
          absurd
          (never-both w v (befores ps) apart (and-left (is_before w v (befores ps)) _ past)
          ((agree-pieces v w ps stay (stays-in v g) (stays-in w f)).before ∙ and-right (is_before w v (befores ps)) _ past))

  restacked-marked : is_restacked_at (befores ps) (afters ps) x y ≡ true → loose ≡ true
  restacked-marked e =
      any-of (loose ≡ true)
      (λ w. list_any (λ v. has_moved_past (befores ps) (afters ps) w v && (shared_by (befores ps) w v x y || shared_by (afters ps) w v x y)) (befores ps)) (befores ps) e
      (λ w f. any-of (loose ≡ true)
      (λ v. has_moved_past (befores ps) (afters ps) w v && (shared_by (befores ps) w v x y || shared_by (afters ps) w v x y)) (befores ps) f
      (λ v g. past-marked w v g))

  -- Marked are the points of the windows that may have changed, before and after, and the damage of those that stay.
  pub pieces-marked :
      ((list_any (is_changed_at (afters ps) x y) (befores ps) || list_any (is_changed_at (befores ps) x y) (afters ps))
      || (list_any (is_damaged_at applied (befores ps) x y) (afters ps) || is_restacked_at (befores ps) (afters ps) x y)) ≡ true
      → (struck || loose) ≡ true
  pieces-marked e =
      either-of ((struck || loose) ≡ true) (list_any (is_changed_at (afters ps) x y) (befores ps) || list_any (is_changed_at (befores ps) x y) (afters ps))
      (list_any (is_damaged_at applied (befores ps) x y) (afters ps) || is_restacked_at (befores ps) (afters ps) x y) e
      (λ f. or_right struck loose
      (either-of (loose ≡ true) (list_any (is_changed_at (afters ps) x y) (befores ps)) (list_any (is_changed_at (befores ps) x y) (afters ps)) f gone-marked come-marked))
      (λ f. either-of ((struck || loose) ≡ true) (list_any (is_damaged_at applied (befores ps) x y) (afters ps)) (is_restacked_at (befores ps) (afters ps) x y) f damage-marked
      (λ g. or_right struck loose (restacked-marked g)))

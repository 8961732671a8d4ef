-- What neither of two steps marks, the two taken as one don't mark.
use Rattle.std.proofs.Common.{◌≡◌, ℕ, Bool, true, false, List, [], ◌∷◌, refl, sym, ◌∙◌}
use Rattle.std.proofs.lemmas.Bool.{and_from, false_from_ne_true, or_from}
use Rattle.std.specs.Prelude.{ℤ, ◌-ℤ◌, ◌&&◌, ◌||◌, not, if◌then◌else◌}
use Rattle.std.specs.List.{list_any}
use Rattle.spec_desktop.specs.Windows.{Window, contains}
use Rattle.spec_desktop.specs.Marks.{Applied, AreDistinct, at_least, has_moved_past, has_same_record, in_output, is_before, is_changed_at, is_damaged_at, is_kept_in, is_restacked_at, is_same_surface}
use Rattle.spec_desktop.specs.Marks.{shared_by}
use Rattle.law_desktop.proofs.Marks.Painted.{contains-same, marked-none}
use Rattle.law_desktop.proofs.Marks.Stacks.{any-surface, fields, record-surface, recorded}
use Rattle.law_desktop.proofs.Marks.Stacks.{surface-as, surface-turned}
use Rattle.law_desktop.proofs.Truth.{and-left, and-right, differ, or-left, or-right}
use Rattle.law_desktop.proofs.Lists.Each.{Each, each-both, each-map}
use Rattle.law_desktop.proofs.Lists.Tests.{any-more, any-none, each-false}
use Rattle.law_desktop.proofs.Lists.Left.{any-each-of}

-- ---- truth and lists

or-either : (a b c : Bool) → (a || b) ≡ true → (a ≡ true → c ≡ true) → (b ≡ true → c ≡ true) → c ≡ true
or-either true b c e f g = f refl
or-either false b c e f g = g e

-- ---- windows that keep their records

record-through : (w v z : Window) → has_same_record w v ≡ true → has_same_record v z ≡ true → has_same_record w z ≡ true
record-through w v z e e' =
    let f = fields w v e in
    let g = fields v z e' in
    recorded w z
    (record {
      client = f.client ∙ g.client;
      surface = f.surface ∙ g.surface;
      x = f.x ∙ g.x;
      y = f.y ∙ g.y;
      width = f.width ∙ g.width;
      height = f.height ∙ g.height;
      transform = f.transform ∙ g.transform;
      scale = f.scale ∙ g.scale;
    })

kept-as : (w v : Window) (others : List Window) → has_same_record w v ≡ true → is_kept_in others v ≡ true → is_kept_in others w ≡ true
kept-as w v others e kept = any-more (has_same_record v) (has_same_record w) (λ z f. record-through w v z e f) others kept

is-kept : (c k : Bool) → c ≡ true → (c && not k) ≡ false → k ≡ true
is-kept true true e f = refl
is-kept true false e f = absurd (differ (sym f))
is-kept false k e f = absurd (differ e)

is-unchanged : (c k l : Bool) → (c && not k) ≡ false → (c ≡ true → k ≡ true → l ≡ true) → (c && not l) ≡ false
is-unchanged true true true e f = refl
is-unchanged true true false e f = absurd (differ (f refl refl))
is-unchanged true false l e f = absurd (differ (sym e))
is-unchanged false k l e f = refl

is-undamaged : (k c d : Bool) → (c ≡ true → d ≡ false) → (k && (c && d)) ≡ false
is-undamaged true true d f = f refl
is-undamaged true false d f = refl
is-undamaged false c d f = refl

module _ (x y : ℤ) where
  contains-as : (w v : Window) → has_same_record w v ≡ true → contains w x y ≡ true → contains v x y ≡ true
  contains-as w v e here = sym (contains-same x y w v e) ∙ here

  -- what contains the point and is kept in one list, of which the next keeps all that contains the point, is kept in the next
  kept-through : (w : Window) (mid new : List Window) → contains w x y ≡ true → is_kept_in mid w ≡ true
      → list_any (is_changed_at new x y) mid ≡ false → is_kept_in new w ≡ true
  kept-through w mid new here kept none =
      any-each-of (is_kept_in new w ≡ true) (has_same_record w) (λ v. is_changed_at new x y v ≡ false) mid kept
      (each-false (is_changed_at new x y) mid none)
      (λ v e unchanged. kept-as w v new e (is-kept (contains v x y) (is_kept_in new v) (contains-as w v e here) unchanged))

  unchanged-together : (old mid new : List Window) → list_any (is_changed_at mid x y) old ≡ false → list_any (is_changed_at new x y) mid ≡ false
      → list_any (is_changed_at new x y) old ≡ false
  unchanged-together old mid new none next =
      any-none (is_changed_at new x y) old
      (each-map (λ w. is_changed_at mid x y w ≡ false) (λ w. is_changed_at new x y w ≡ false)
      (λ w e. is-unchanged (contains w x y) (is_kept_in mid w) (is_kept_in new w) e (λ here kept. kept-through w mid new here kept next)) old
      (each-false (is_changed_at mid x y) old none))

  -- ---- damage

  abbrev damage-at : Applied → Window → Bool
  damage-at applied w = applied w.owner.client w.surface (x -ℤ w.corner.x) (y -ℤ w.corner.y)

  abbrev Clear : Applied → List Window → Window → Type 0
  Clear applied old v = (is_changed_at old x y v ≡ false) × (is_damaged_at applied old x y v ≡ false)

  damage-same : (applied : Applied) (c c' s s' : ℕ) (p p' q q' : ℤ) → c ≡ c' → s ≡ s' → p ≡ p' → q ≡ q'
      → applied c s (x -ℤ p) (y -ℤ q) ≡ applied c' s' (x -ℤ p') (y -ℤ q')
  damage-same applied c c' s s' p p' q q' e f g h = rw (e, f, g, h) refl

  damage-as : (applied : Applied) (w v : Window) → has_same_record w v ≡ true → damage-at applied w ≡ damage-at applied v
  damage-as applied w v e =
      let f = fields w v e in
      damage-same applied w.owner.client v.owner.client w.surface v.surface w.corner.x v.corner.x w.corner.y v.corner.y f.client f.surface f.x f.y

  clear-at : (applied : Applied) (old : List Window) (v : Window) → contains v x y ≡ true → Clear applied old v → damage-at applied v ≡ false
  clear-at applied old v here clear =
      marked-none (contains v x y) (damage-at applied v)
      (marked-none (is_kept_in old v) (contains v x y && damage-at applied v) clear.1 (is-kept (contains v x y) (is_kept_in old v) here clear.0)) here

  -- a window that is kept in a list of which nothing is damaged there isn't damaged there
  clear-through : (applied : Applied) (old mid : List Window) (w : Window) → contains w x y ≡ true → is_kept_in mid w ≡ true
      → list_any (is_changed_at old x y) mid ≡ false → list_any (is_damaged_at applied old x y) mid ≡ false → damage-at applied w ≡ false
  clear-through applied old mid w here kept came damaged =
      any-each-of (damage-at applied w ≡ false) (has_same_record w) (Clear applied old) mid kept
      (each-both (λ v. is_changed_at old x y v ≡ false) (λ v. is_damaged_at applied old x y v ≡ false) (Clear applied old)
      (λ v e f. (e, f)) mid (each-false (is_changed_at old x y) mid came) (each-false (is_damaged_at applied old x y) mid damaged))
      (λ v e clear. damage-as applied w v e ∙ clear-at applied old v (contains-as w v e here) clear)

  undamaged-together : (first both : Applied) (old mid new : List Window) → Each (λ w. damage-at first w ≡ false → damage-at both w ≡ false) new
      → list_any (is_changed_at mid x y) new ≡ false → list_any (is_changed_at old x y) mid ≡ false
      → list_any (is_damaged_at first old x y) mid ≡ false → list_any (is_damaged_at both old x y) new ≡ false
  undamaged-together first both old mid new less came came' damaged =
      any-none (is_damaged_at both old x y) new
      (each-both (λ w. damage-at first w ≡ false → damage-at both w ≡ false)
      (λ w. is_changed_at mid x y w ≡ false) (λ w. is_damaged_at both old x y w ≡ false)
      (λ w f e. is-undamaged (is_kept_in old w) (contains w x y) (damage-at both w)
      (λ here. f (clear-through first old mid w here (is-kept (contains w x y) (is_kept_in mid w) here e) came' damaged)))
      new less (each-false (is_changed_at mid x y) new came))

-- ---- one before another

surface-through : (w v z : Window) → is_same_surface w v ≡ true → is_same_surface v z ≡ true → is_same_surface w z ≡ true
surface-through w v z e f = surface-as v w z (surface-turned w v e) f

-- of two windows of which each has one among these, one stands before the other, or they are of one surface
either-before : (w v : Window) (xs : List Window) → list_any (is_same_surface w) xs ≡ true → list_any (is_same_surface v) xs ≡ true
    → (is_before w v xs ≡ true → ⊥) → (is_before v w xs ≡ true → ⊥) → (is_same_surface w v ≡ true → ⊥) → ⊥
either-before w v [] i j f g h = differ i
either-before w v (x ∷ xs) i j f g h = at (is_same_surface w x) (is_same_surface v x) refl refl i j f g (λ k l m n. either-before w v xs k l m n h)
  where
    at : (a b : Bool) → is_same_surface w x ≡ a → is_same_surface v x ≡ b → (a || list_any (is_same_surface w) xs) ≡ true
        → (b || list_any (is_same_surface v) xs) ≡ true
        → ((if a then list_any (is_same_surface v) xs else is_before w v xs) ≡ true → ⊥)
        → ((if b then list_any (is_same_surface w) xs else is_before v w xs) ≡ true → ⊥)
        → (list_any (is_same_surface w) xs ≡ true → list_any (is_same_surface v) xs ≡ true
        → (is_before w v xs ≡ true → ⊥) → (is_before v w xs ≡ true → ⊥) → ⊥) → ⊥
    at true true p q k l m n next = h (surface-through w x v p (surface-turned v x q))
    at true false p q k l m n next = m l
    at false true p q k l m n next = n k
    at false false p q k l m n next = next k l m n

-- no window stands before one of its own surface, where no surface has two
distinct-before : (w v : Window) (xs : List Window) → AreDistinct xs → is_same_surface w v ≡ true → is_before w v xs ≡ true → ⊥
distinct-before w v [] apart same e = differ e
distinct-before w v (x ∷ xs) apart same e = at (is_same_surface w x) refl e (distinct-before w v xs apart.1 same) where
  at : (a : Bool) → is_same_surface w x ≡ a → (if a then list_any (is_same_surface v) xs else is_before w v xs) ≡ true
      → (is_before w v xs ≡ true → ⊥) → ⊥
  at true p f next = differ (sym apart.0 ∙ any-surface v x xs (surface-as w v x same p) f)
  at false p f next = next f

before-as : (w v a b : Window) (xs : List Window) → is_same_surface w a ≡ true → is_same_surface v b ≡ true → is_before w v xs ≡ true
    → is_before a b xs ≡ true
before-as w v a b [] s t e = e
before-as w v a b (x ∷ xs) s t e = at (is_same_surface w x) (is_same_surface a x) refl refl e (before-as w v a b xs s t) where
  at : (c d : Bool) → is_same_surface w x ≡ c → is_same_surface a x ≡ d → (if c then list_any (is_same_surface v) xs else is_before w v xs) ≡ true
      → (is_before w v xs ≡ true → is_before a b xs ≡ true)
      → (if d then list_any (is_same_surface b) xs else is_before a b xs) ≡ true
  at true true p q f next = any-surface v b xs t f
  at true false p q f next = absurd (differ (sym q ∙ surface-as w a x s p))
  at false true p q f next = absurd (differ (sym p ∙ surface-through w a x s q))
  at false false p q f next = next f

module _ (x y : ℤ) where
  abbrev is_at : Window → Window → Bool
  is_at w a = is_same_surface w a && contains a x y

  abbrev restacks : List Window → List Window → Window → Window → Bool
  restacks old new w v = has_moved_past old new w v && (shared_by old w v x y || shared_by new w v x y)

  -- the window of a surface that contains the point does so in the next list
  at-through : (w : Window) (old new : List Window) → list_any (is_changed_at new x y) old ≡ false → list_any (is_at w) old ≡ true
      → list_any (is_at w) new ≡ true
  at-through w old new none e =
      any-each-of (list_any (is_at w) new ≡ true) (is_at w) (λ a. is_changed_at new x y a ≡ false) old e (each-false (is_changed_at new x y) old none)
      (λ a f unchanged. any-more (has_same_record a) (is_at w)
      (λ b g. and_from (is_same_surface w b) (contains b x y)
      (surface-through w a b (and-left (is_same_surface w a) (contains a x y) f) (record-surface a b g))
      (contains-as x y a b g (and-right (is_same_surface w a) (contains a x y) f)))
      new (is-kept (contains a x y) (is_kept_in new a) (and-right (is_same_surface w a) (contains a x y) f) unchanged))

  shared-through : (w v : Window) (old new : List Window) → list_any (is_changed_at new x y) old ≡ false → shared_by old w v x y ≡ true
      → shared_by new w v x y ≡ true
  shared-through w v old new none e =
      and_from (list_any (is_at w) new) (list_any (is_at v) new)
      (at-through w old new none (and-left (list_any (is_at w) old) (list_any (is_at v) old) e))
      (at-through v old new none (and-right (list_any (is_at w) old) (list_any (is_at v) old) e))

  at-there : (w : Window) (xs : List Window) → list_any (is_at w) xs ≡ true → list_any (is_same_surface w) xs ≡ true
  at-there w xs e = any-more (is_at w) (is_same_surface w) (λ a f. and-left (is_same_surface w a) (contains a x y) f) xs e

  at-as : (w a : Window) (xs : List Window) → is_same_surface w a ≡ true → list_any (is_at w) xs ≡ true → list_any (is_at a) xs ≡ true
  at-as w a xs s e =
      any-more (is_at w) (is_at a)
      (λ z f. and_from (is_same_surface a z) (contains z x y)
      (surface-as w a z s (and-left (is_same_surface w z) (contains z x y) f)) (and-right (is_same_surface w z) (contains z x y) f)) xs e

  restacks-now : (old new : List Window) (w v : Window) → is_before w v old ≡ true → is_before v w new ≡ true
      → (shared_by old w v x y || shared_by new w v x y) ≡ true → restacks old new w v ≡ true
  restacks-now old new w v before after shares =
      and_from (has_moved_past old new w v) (shared_by old w v x y || shared_by new w v x y)
      (and_from (is_before w v old) (is_before v w new) before after) shares

  -- two windows, each of a surface that has one among those before, of which one moved past the other and which share the point before
  restacked-for : (w v : Window) (old new : List Window) → is_before w v old ≡ true → is_before v w new ≡ true → shared_by old w v x y ≡ true
      → is_restacked_at old new x y ≡ true
  restacked-for w v old new before after shares =
      let here = and-left (list_any (is_at w) old) (list_any (is_at v) old) shares in
      let there = and-right (list_any (is_at w) old) (list_any (is_at v) old) shares in
      any-more (is_same_surface w) (λ a. list_any (restacks old new a) old)
      (λ a s. any-more (is_same_surface v) (restacks old new a)
      (λ b t. restacks-now old new a b (before-as w v a b old s t before) (before-as v w b a new t s after)
      (either-first (shared_by old a b x y) (shared_by new a b x y)
      (and_from (list_any (is_at a) old) (list_any (is_at b) old) (at-as w a old s here) (at-as v b old t there))))
      old (at-there v old there)) old (at-there w old here) where
        either-first : (p q : Bool) → p ≡ true → (p || q) ≡ true
        either-first true q e = refl
        either-first false q e = absurd (differ e)

  second-of : (p q : Bool) → q ≡ true → (p || q) ≡ true
  second-of true q e = refl
  second-of false q e = e

  restacked-together : (old mid new : List Window) → AreDistinct old → list_any (is_changed_at mid x y) old ≡ false
      → list_any (is_changed_at mid x y) new ≡ false → is_restacked_at old mid x y ≡ false → is_restacked_at mid new x y ≡ false
      → is_restacked_at old new x y ≡ false
  restacked-together old mid new apart gone came moved moved' =
      any-none (λ w. list_any (restacks old new w) old) old
      (each-map (λ w. list_any (restacks old mid w) old ≡ false) (λ w. list_any (restacks old new w) old ≡ false)
      (λ w e. any-none (restacks old new w) old
      (each-map (λ v. restacks old mid w v ≡ false) (λ v. restacks old new w v ≡ false) (pair w) old (each-false (restacks old mid w) old e))) old
      (each-false (λ w. list_any (restacks old mid w) old) old moved)) where
        pair : (w v : Window) → restacks old mid w v ≡ false → restacks old new w v ≡ false
        pair w v none =
            false_from_ne_true (restacks old new w v)
            (λ e.
            let past = and-left (has_moved_past old new w v) (shared_by old w v x y || shared_by new w v x y) e in
            let before = and-left (is_before w v old) (is_before v w new) past in
            let after = and-right (is_before w v old) (is_before v w new) past in
            let shares =
            or-either (shared_by old w v x y) (shared_by new w v x y) (shared_by mid w v x y)
            (and-right (has_moved_past old new w v) (shared_by old w v x y || shared_by new w v x y) e)
            (shared-through w v old mid gone) (shared-through w v new mid came) in
            either-before w v mid
            (at-there w mid (and-left (list_any (is_at w) mid) (list_any (is_at v) mid) shares))
            (at-there v mid (and-right (list_any (is_at w) mid) (list_any (is_at v) mid) shares))
            (λ f. differ (sym moved' ∙ restacked-for w v mid new f after shares))
            (λ f. differ (sym none ∙ restacks-now old mid w v before f (second-of (shared_by old w v x y) (shared_by mid w v x y) shares)))
            (λ f. distinct-before w v old apart f before))

-- ---- both steps

inside-none : (c p q r : Bool) → (c && p) ≡ false → (c && q) ≡ false → (p ≡ false → q ≡ false → r ≡ false) → (c && r) ≡ false
inside-none true p q r e f g = g e f
inside-none false p q r e f g = refl

four-none : (a b c d : Bool) → a ≡ false → b ≡ false → c ≡ false → d ≡ false → ((a || b) || (c || d)) ≡ false
four-none a b c d e f g h = or_from (a || b) (c || d) (or_from a b e f) (or_from c d g h)

-- What neither of two steps marks, the two taken as one don't mark, where what is damaged in both together is damaged in the first.
pub unmarked-together :
    (width height : ℕ) (first second both : Applied) (old mid new : List Window) (x y : ℤ)
    → AreDistinct old
    → Each (λ w. first w.owner.client w.surface (x -ℤ w.corner.x) (y -ℤ w.corner.y) ≡ false
    → both w.owner.client w.surface (x -ℤ w.corner.x) (y -ℤ w.corner.y) ≡ false) new
    → at_least width height first old mid x y ≡ false
    → at_least width height second mid new x y ≡ false
    → at_least width height both old new x y ≡ false
unmarked-together width height first second both old mid new x y apart less none none' =
    inside-none (in_output width height x y)
    ((list_any (is_changed_at mid x y) old || list_any (is_changed_at old x y) mid)
    || (list_any (is_damaged_at first old x y) mid || is_restacked_at old mid x y))
    ((list_any (is_changed_at new x y) mid || list_any (is_changed_at mid x y) new)
    || (list_any (is_damaged_at second mid x y) new || is_restacked_at mid new x y))
    ((list_any (is_changed_at new x y) old || list_any (is_changed_at old x y) new)
    || (list_any (is_damaged_at both old x y) new || is_restacked_at old new x y))
    none none'
    (λ e f.
    let changed = or-left (list_any (is_changed_at mid x y) old || list_any (is_changed_at old x y) mid) _ e in
    let others = or-right (list_any (is_changed_at mid x y) old || list_any (is_changed_at old x y) mid) _ e in
    let changed' = or-left (list_any (is_changed_at new x y) mid || list_any (is_changed_at mid x y) new) _ f in
    let others' = or-right (list_any (is_changed_at new x y) mid || list_any (is_changed_at mid x y) new) _ f in
    let gone = or-left (list_any (is_changed_at mid x y) old) _ changed in
    let came = or-right (list_any (is_changed_at mid x y) old) _ changed in
    let gone' = or-left (list_any (is_changed_at new x y) mid) _ changed' in
    let came' = or-right (list_any (is_changed_at new x y) mid) _ changed' in
    let damaged = or-left (list_any (is_damaged_at first old x y) mid) _ others in
    let moved = or-right (list_any (is_damaged_at first old x y) mid) _ others in
    let moved' = or-right (list_any (is_damaged_at second mid x y) new) _ others' in
    four-none (list_any (is_changed_at new x y) old) (list_any (is_changed_at old x y) new) (list_any (is_damaged_at both old x y) new)
    (is_restacked_at old new x y)
    (unchanged-together x y old mid new gone gone')
    (unchanged-together x y new mid old came' came)
    (undamaged-together x y first both old mid new less came' came damaged)
    (restacked-together x y old mid new apart gone came' moved moved'))

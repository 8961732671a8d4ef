-- Surfaces are applied in turn: what that makes of all, and what is told.
use Rattle.std.proofs.Common.{◌≡◌, ℕ, zero, suc, ◌+◌, ◌<◌, ◌==◌, ◌||◌, cond, if◌then◌else◌, Bool, true, false, Option, Some, None}
use Rattle.std.proofs.Common.{List, [], ◌∷◌, ◌++◌, take, length, refl, ap, sym, subst, ◌∙◌, arith, eq-eqb, append_assoc, append-nil}
use Rattle.std.specs.Prelude.{slice_index_or}
use Rattle.std.specs.Option.{option_map}
use Rattle.std.proofs.Math.Path.{fun_ext}
use Rattle.std.proofs.lemmas.Bool.{eqb-true}
use Rattle.std.proofs.lemmas.List.{take_more}
use Rattle.std.proofs.lemmas.List.Folds.{list_any_more}
use Rattle.wl_links.specs.Stacks.{Stacks}
use Rattle.wl_links.specs.Family.{applied, changed_at as stacks_changed}
use Rattle.wl_surface.specs.Surface.{Surface, applying}
use Rattle.wl_surface.specs.declared.applied.Change.{Change}
use Rattle.wl_surface.specs.Applied.{AreApplied}
use Rattle.wl_surface.specs.Slots.{Numbered, Slots, StandForAll, changed_at}
use Rattle.wl_surface.specs.Waiting.{AreWaiting, Callback}
use Rattle.wl_surface.specs.declared.frames.Waiting.{Waiting}
use Rattle.wl_surface.specs.Tree.{AreOnce, AreTold, AreToldAfter, applied_among, is_among, listed, stacks_among}

-- Two numbers are the same in either order.
turned : (n m : ℕ) → (n == m) ≡ (m == n)
turned n m = at (n == m) refl
  where
    not-true : (b : Bool) → (b ≡ true → ⊥) → false ≡ b
    not-true false never = refl
    not-true true never = absurd (never refl)

    differ : false ≡ true → ⊥
    differ e = absurd (cc)

    at : (b : Bool) → (n == m) ≡ b → b ≡ (m == n)
    at true e = sym (eq-eqb m n (sym (eqb-true n m e)))
    at false e = not-true (m == n) (λ f. differ (sym e ∙ eq-eqb n m (sym (eqb-true m n f))))

-- Applying twice is applying once.
twice : (o : Option Surface) → option_map applying (option_map applying o) ≡ option_map applying o
twice None = refl
twice (Some s) = refl

-- the numbers, with one more place
among-more : (numbers : List ℕ) (i d other : ℕ) → i < length numbers → is_among (take (i + 1) numbers) other ≡ (is_among (take i numbers) other || (other == slice_index_or numbers i d))
among-more numbers i d other less =
    list_any_more (λ n. n == other) numbers i d less ∙ ap (λ b. is_among (take i numbers) other || b) (turned (slice_index_or numbers i d) other)

-- One more surface is applied.
applied-more : (numbers : List ℕ) (i d : ℕ) → i < length numbers → (all : Numbered)
    → changed_at (slice_index_or numbers i d) applying (applied_among (take i numbers) all) ≡ applied_among (take (i + 1) numbers) all
applied-more numbers i d less all =
    fun_ext (λ other. at other (is_among (take i numbers) other) (other == slice_index_or numbers i d)
    ∙ ap (λ (b : Bool). if b then option_map applying (all other) else all other) (sym (among-more numbers i d other less)))
  where
    at : (other : ℕ) (a b : Bool) → cond b (option_map applying (if a then option_map applying (all other) else all other)) (if a then option_map applying (all other) else all other)
        ≡ (if a || b then option_map applying (all other) else all other)
    at other true true = twice (all other)
    at other true false = refl
    at other false true = refl
    at other false false = refl

-- So is its stack.
stacks-more : (numbers : List ℕ) (i d : ℕ) → i < length numbers → (stacks : ℕ → Stacks)
    → stacks_changed (slice_index_or numbers i d) applied (stacks_among (take i numbers) stacks) ≡ stacks_among (take (i + 1) numbers) stacks
stacks-more numbers i d less stacks =
    fun_ext (λ other. at other (other == slice_index_or numbers i d) refl
    ∙ ap (λ (b : Bool). if b then applied (stacks other) else stacks other) (sym (among-more numbers i d other less)))
  where
    both : (other : ℕ) (a b : Bool) → (if b then applied (if a then applied (stacks other) else stacks other) else (if a then applied (stacks other) else stacks other))
        ≡ (if a || b then applied (stacks other) else stacks other)
    both other true true = refl
    both other true false = refl
    both other false true = refl
    both other false false = refl

    at : (other : ℕ) (b : Bool) → (other == slice_index_or numbers i d) ≡ b
        → (if b then applied (stacks_among (take i numbers) stacks (slice_index_or numbers i d)) else stacks_among (take i numbers) stacks other)
        ≡ (if is_among (take i numbers) other || b then applied (stacks other) else stacks other)
    at other true e = ap (λ n. applied (stacks_among (take i numbers) stacks n)) (sym (eqb-true other (slice_index_or numbers i d) e)) ∙ both other (is_among (take i numbers) other) true
    at other false e = both other (is_among (take i numbers) other) false

-- What is kept stands for that, and so do the callbacks that wait. So are the stacks.
pub stand-next : (numbers : List ℕ) (i d : ℕ) → i < length numbers → (all : Numbered) (new : Slots)
    → StandForAll new (changed_at (slice_index_or numbers i d) applying (applied_among (take i numbers) all)) → StandForAll new (applied_among (take (i + 1) numbers) all)
stand-next numbers i d less all new stand = subst (λ (now : Numbered). StandForAll new now) (applied-more numbers i d less all) stand

pub waits-next : (numbers : List ℕ) (i d : ℕ) → i < length numbers → (all : Numbered) (frames : List Waiting) (callbacks : List Callback)
    → AreWaiting frames (changed_at (slice_index_or numbers i d) applying (applied_among (take i numbers) all)) callbacks
    → AreWaiting frames (applied_among (take (i + 1) numbers) all) callbacks
waits-next numbers i d less all frames callbacks wait = subst (λ (now : Numbered). AreWaiting frames now callbacks) (applied-more numbers i d less all) wait

pub stacks-next : (numbers : List ℕ) (i d : ℕ) → i < length numbers → (first was now : ℕ → Stacks) → was ≡ stacks_among (take i numbers) first
    → now ≡ stacks_changed (slice_index_or numbers i d) applied was → now ≡ stacks_among (take (i + 1) numbers) first
stacks-next numbers i d less first was now before step =
    step
    ∙ (ap (λ (ss : ℕ → Stacks). stacks_changed (slice_index_or numbers i d) applied ss) before ∙ stacks-more numbers i d less first)

-- Each number is there once, so none is among those before it.
or-none : (a b : Bool) → (a || b) ≡ false → (a ≡ false) × (b ≡ false)
or-none false b e = (refl, e)
or-none true b e = absurd (cc)

-- A number is none of those among which it isn't.
none-is : (m : ℕ) (ns : List ℕ) (i d : ℕ) → i < length ns → is_among ns m ≡ false → (m == slice_index_or ns i d) ≡ false
none-is m [] i d less none = absurd (omega arith)
none-is m (n ∷ ns) zero d less none = turned m n ∙ (or-none (n == m) (is_among ns m) none).0
none-is m (n ∷ ns) (suc i) d less none = none-is m ns i d (omega (arith, less)) (or-none (n == m) (is_among ns m) none).1

once-before : (ns : List ℕ) (i d : ℕ) → i < length ns → AreOnce ns → is_among (take i ns) (slice_index_or ns i d) ≡ false
once-before [] i d less once = absurd (omega arith)
once-before (n ∷ ns) zero d less once = refl
once-before (n ∷ ns) (suc i) d less once =
    let fewer : i < length ns = omega (arith, less) in
    ap (λ b. b || is_among (take i ns) (slice_index_or ns i d)) (none-is n ns i d fewer once.0) ∙ once-before ns i d fewer once.1

-- One more surface is told of.
told-more : {A : Type 0} (ns : List ℕ) (n : ℕ) (all : Numbered) (changes : List (Change A)) (one : Option (Change A)) → AreTold ns all changes → AreApplied n (all n) one
    → AreTold (ns ++ n ∷ []) all (changes ++ listed one)
told-more [] n all changes one told applied = (one, [], applied, refl, ap (λ cs. cs ++ listed one) told ∙ sym (append-nil (listed one)))
told-more (m ∷ ms) n all changes one told applied = (
  told.0,
  told.1 ++ listed one,
  told.2,
  told-more ms n all told.1 one told.3 applied,
  ap (λ cs. cs ++ listed one) told.4 ∙ append_assoc (listed told.0) told.1 (listed one),
)

-- the same, from the changes before to those after
pub told-next : {A : Type 0} (numbers : List ℕ) (i d : ℕ) (all : Numbered) (was new : List (Change A)) (one : Option (Change A)) → i < length numbers → AreOnce numbers
    → AreTold (take i numbers) all was → AreApplied (slice_index_or numbers i d) (applied_among (take i numbers) all (slice_index_or numbers i d)) one → new ≡ was ++ listed one
    → AreTold (take (i + 1) numbers) all new
told-next {A} numbers i d all was new one less once told applied is =
    let n = slice_index_or numbers i d in
    let here : applied_among (take i numbers) all n ≡ all n =
    ap (λ (b : Bool). if b then option_map applying (all n) else all n) (once-before numbers i d less once) in
    let this : AreApplied n (all n) one = subst (λ (at : Option Surface). AreApplied n at one) here applied in
    subst (λ (cs : List (Change A)). AreTold (take (i + 1) numbers) all cs) (sym is)
    (subst (λ (ns : List ℕ). AreTold ns all (was ++ listed one)) (sym (take_more numbers i d less)) (told-more (take i numbers) n all was one told this))

-- the same, behind what was told before
pub told-behind : {A : Type 0} (numbers : List ℕ) (i d : ℕ) (all : Numbered) (before was new : List (Change A)) (one : Option (Change A)) → i < length numbers → AreOnce numbers
    → AreToldAfter before (take i numbers) all was → AreApplied (slice_index_or numbers i d) (applied_among (take i numbers) all (slice_index_or numbers i d)) one → new ≡ was ++ listed one
    → AreToldAfter before (take (i + 1) numbers) all new
told-behind numbers i d all before was new one less once told applied is = (
  told.0 ++ listed one,
  is ∙ ap (λ cs. cs ++ listed one) told.1 ∙ append_assoc before told.0 (listed one),
  told-next numbers i d all told.0 (told.0 ++ listed one) one less once told.2 applied refl,
)

-- the change that is told, or none
pub some-listed : {X : Type 0} (was new : List X) (one : Option X) (x : X) → one ≡ Some x → new ≡ was ++ x ∷ [] → new ≡ was ++ listed one
some-listed {X} was new one x e added = added ∙ ap (λ (o : Option X). was ++ listed o) (sym e)

pub none-listed : {X : Type 0} (was : List X) (one : Option X) → one ≡ None → was ≡ was ++ listed one
none-listed {X} was one e = sym (append-nil was) ∙ ap (λ (o : Option X). was ++ listed o) (sym e)

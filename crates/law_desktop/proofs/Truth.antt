-- What follows of tests that are joined, and of what may be there.
use Rattle.std.proofs.Common.{Bool, None, Option, Some, false, refl, sym, true, ◌≡◌}
use Rattle.std.proofs.lemmas.Bool.{or_left, or_right}
use Rattle.std.specs.Prelude.{is_some, ◌&&◌, ◌||◌}

pub differ : false ≡ true → ⊥
differ e = absurd (cc)

pub and-left : (a b : Bool) → (a && b) ≡ true → a ≡ true
and-left true b e = refl
and-left false b e = e

pub and-right : (a b : Bool) → (a && b) ≡ true → b ≡ true
and-right true b e = e
and-right false b e = absurd (cc)

pub or-left : (a b : Bool) → (a || b) ≡ false → a ≡ false
or-left true b e = e
or-left false b e = refl

pub or-right : (a b : Bool) → (a || b) ≡ false → b ≡ false
or-right true b e = absurd (cc)
or-right false b e = e

pub or-second : (a b : Bool) → (a || b) ≡ true → a ≡ false → b ≡ true
or-second true b e f = absurd (cc)
or-second false b e f = e

pub either-more : (a b c d : Bool) → (a || b) ≡ true → (a ≡ true → c ≡ true) → (b ≡ true → d ≡ true) → (c || d) ≡ true
either-more true b c d e f g = or_left c d (f refl)
either-more false b c d e f g = or_right c d (g e)

pub either-none : (a b : Bool) → (a || b) ≡ true → (a ≡ true → ⊥) → (b ≡ true → ⊥) → ⊥
either-none true b e f g = f refl
either-none false b e f g = g e

-- what follows from one of two and from the other
pub either-of : (P : Type 0) (a b : Bool) → (a || b) ≡ true → (a ≡ true → P) → (b ≡ true → P) → P
either-of P true b e f g = f refl
either-of P false b e f g = g e

-- tests of which each follows from the other
pub truth : (a b : Bool) → (a ≡ true → b ≡ true) → (b ≡ true → a ≡ true) → a ≡ b
truth true b f g = sym (f refl)
truth false true f g = g refl
truth false false f g = refl

pub or-false : (b : Bool) → (b || false) ≡ b
or-false true = refl
or-false false = refl

pub or-true : (b : Bool) → (b || true) ≡ true
or-true true = refl
or-true false = refl

pub or-assoc : (a b c : Bool) → (a || (b || c)) ≡ ((a || b) || c)
or-assoc true b c = refl
or-assoc false b c = refl

pub or-swapped : (a b c : Bool) → (a || (b || c)) ≡ (b || (a || c))
or-swapped true true c = refl
or-swapped true false c = refl
or-swapped false b c = refl

pub and-false : (b : Bool) → (b && false) ≡ false
and-false true = refl
and-false false = refl

-- ---- what may be there

pub none-there : {X : Type 0} (o : Option X) → is_some o ≡ false → o ≡ None
none-there None e = refl
none-there (Some x) e = absurd (cc)

pub there-some : {X : Type 0} (o : Option X) → is_some o ≡ true → (x : X) × (o ≡ Some x)
there-some None e = absurd (cc)
there-some (Some x) e = (x, refl)

-- Sums and nearest places as they are computed, over plain numbers.
use Rattle.std.proofs.Common.{◌≡◌, ◌^◌, ◌∙◌, ap, ℤ, ◌+ℤ◌, ◌-ℤ◌, neg_ℤ, Bool, true, false, sym, refl, subst}
use Rattle.std.specs.Prelude.{int_lt, cond, not, ◌&&◌}
use Rattle.std.proofs.Common.{arith}
use Rattle.std.proofs.lemmas.Int.{ints}
use Rattle.std.specs.Int.{int_min, int_max}
use Rattle.wl_shell.specs.Placing.{IsNear, IsUpTo}
use Rattle.wl_surface.specs.State.{within_bounds}
use Rattle.wl_shell.specs.Positioner.{Axis, Placed, placed_from, start_of, up_to_edge, nearest, part_within, flipped, is_constrained, placed_on, resized, slid}

pub start-is : (a : Axis) (p q r : ℤ) → p ≡ up_to_edge a.anchor a.length → q ≡ up_to_edge (neg_ℤ a.gravity) a.size →
    r ≡ ((a.start +ℤ p) -ℤ q) +ℤ a.offset → r ≡ start_of a
start-is a p q r e f g =
    g ∙ ap (λ u. ((a.start +ℤ u) -ℤ q) +ℤ a.offset) e ∙ ap (λ v. ((a.start +ℤ up_to_edge a.anchor a.length) -ℤ v) +ℤ a.offset) f

pub nearest-is : (first end start size last low high r : ℤ) → last ≡ end -ℤ size → low ≡ int_min first last → high ≡ int_min start (int_max first last) →
    r ≡ int_max low high → r ≡ nearest first end start size
nearest-is first end start size last low high r e f g h =
    h ∙ ap (λ u. int_max u high) f ∙ ap (λ u. int_max (int_min first last) u) g
    ∙ ap (λ l. int_max (int_min first l) (int_min start (int_max first l))) e

pub up-to-near : (z : ℤ) → IsUpTo (2 ^ 34) z → IsNear z
up-to-near z up = (omega (arith, ints), omega (arith, ints))

-- the lesser and the greater of two near places are near
pub near-min : (a b z : ℤ) → z ≡ int_min a b → IsNear a → IsNear b → IsNear z
near-min a b z e p q = subst IsNear (sym e) (grind (arith, ints))

pub near-max : (a b z : ℤ) → z ≡ int_max a b → IsNear a → IsNear b → IsNear z
near-max a b z e p q = subst IsNear (sym e) (grind (arith, ints))

-- what lies within the bounds, if something does
pub part-is : (first end start size from to part : ℤ) → from ≡ int_max first start → to ≡ int_min end (start +ℤ size) → int_lt from to ≡ true →
    part ≡ to -ℤ from → ◌≡◌ {A = ℤ × ℤ} (from, part) (part_within first end start size)
part-is first end start size from to part e f g h =
    let low = int_max first start in
    let high = int_min end (start +ℤ size) in
    let some : int_lt low high ≡ true = ap (λ u. int_lt u high) (sym e) ∙ ap (λ v. int_lt from v) (sym f) ∙ g in
    let long : part ≡ high -ℤ low = h ∙ ap (λ v. v -ℤ from) f ∙ ap (λ u. high -ℤ u) e in
    let pair : ◌≡◌ {A = ℤ × ℤ} (from, part) (low, high -ℤ low) = ap {B = ℤ × ℤ} (λ u. (u, part)) e ∙ ap {B = ℤ × ℤ} (λ v. (low, v)) long in
    pair ∙ sym (ap (λ b. cond {A = ℤ × ℤ} b (low, high -ℤ low) (start, size)) some)

-- a popup that passes the bounds is flipped where that is allowed and it fits then
pub flipped-is : (flip slide resize : Bool) (first end : ℤ) (a : Axis) (f n : ℤ) → n ≡ a.size → is_constrained first end (start_of a) a.size ≡ true →
    flip ≡ true → f ≡ start_of (flipped a) → is_constrained first end f a.size ≡ false → ◌≡◌ {A = ℤ × ℤ} (f, n) (placed_on flip slide resize first end a)
flipped-is flip slide resize first end a f n long out flips is fits =
    let inside : is_constrained first end (start_of (flipped a)) a.size ≡ false = ap (λ u. is_constrained first end u a.size) (sym is) ∙ fits in
    let other = resized resize first end (slid slide first end (start_of a) a.size) a.size in
    ap {B = ℤ × ℤ} (λ u. (u, n)) is ∙ ap {B = ℤ × ℤ} (λ u. (start_of (flipped a), u)) long
    ∙ sym (ap (λ b. cond {A = ℤ × ℤ} (not b) (start_of a, a.size)
    (cond (flip && not (is_constrained first end (start_of (flipped a)) a.size)) (start_of (flipped a), a.size) other)) out
    ∙ ap (λ b. cond {A = ℤ × ℤ} (b && not (is_constrained first end (start_of (flipped a)) a.size)) (start_of (flipped a), a.size) other) flips
    ∙ ap (λ b. cond {A = ℤ × ℤ} (not b) (start_of (flipped a), a.size) other) inside)

-- and else it slides and is cut, as is allowed
pub unflipped-is : (flip slide resize : Bool) (first end : ℤ) (a : Axis) (s : ℤ) (r : ℤ × ℤ) → is_constrained first end (start_of a) a.size ≡ true →
    (flip && not (is_constrained first end (start_of (flipped a)) a.size)) ≡ false → s ≡ slid slide first end (start_of a) a.size →
    r ≡ resized resize first end s a.size → r ≡ placed_on flip slide resize first end a
unflipped-is flip slide resize first end a s r out stays is e =
    let other = resized resize first end (slid slide first end (start_of a) a.size) a.size in
    e ∙ ap (λ u. resized resize first end u a.size) is
    ∙ sym (ap (λ b. cond {A = ℤ × ℤ} (not b) (start_of a, a.size)
    (cond (flip && not (is_constrained first end (start_of (flipped a)) a.size)) (start_of (flipped a), a.size) other)) out
    ∙ ap (λ b. cond {A = ℤ × ℤ} b (start_of (flipped a), a.size) other) stays)

-- it isn't flipped where it wouldn't fit, or where that isn't allowed
pub unfit-stays : (flip : Bool) (first end size f g : ℤ) → f ≡ g → is_constrained first end f size ≡ true → (flip && not (is_constrained first end g size)) ≡ false
unfit-stays true first end size f g e out = ap not (ap (λ u. is_constrained first end u size) (sym e) ∙ out)
unfit-stays false first end size f g e out = refl

pub unallowed-stays : (flip b : Bool) → flip ≡ false → (flip && b) ≡ false
unallowed-stays flip b e = ap (λ u. u && b) e

-- what is placed by equal means is placed alike
pub placed-as : (p : ℤ × ℤ) (f s r f' s' r' : Bool) (a b a' b' : ℤ) (x x' : Axis) → p ≡ placed_on f s r a b x → f ≡ f' → s ≡ s' → r ≡ r' →
    a ≡ a' → b ≡ b' → x ≡ x' → p ≡ placed_on f' s' r' a' b' x'
placed-as p f s r f' s' r' a b a' b' x x' e f-is s-is r-is a-is b-is x-is =
    e ∙ ap (λ u. placed_on u s r a b x) f-is ∙ ap (λ u. placed_on f' u r a b x) s-is ∙ ap (λ u. placed_on f' s' u a b x) r-is
    ∙ ap (λ u. placed_on f' s' r' u b x) a-is ∙ ap (λ u. placed_on f' s' r' a' u x) b-is ∙ ap (λ u. placed_on f' s' r' a' b' u) x-is

-- a place from what both axes give
pub sized-is : (x y w h : ℤ) (p q p' q' : ℤ × ℤ) → x ≡ within_bounds p.0 → y ≡ within_bounds q.0 → w ≡ p.1 → h ≡ q.1 → p ≡ p' → q ≡ q' →
    ◌≡◌ {A = Placed} (record { x = x; y = y; w = w; h = h }) (placed_from p' q')
sized-is x y w h p q p' q' x-is y-is w-is h-is p-is q-is =
    let placed : ℤ → ℤ → ℤ → ℤ → Placed = λ x y w h. record { x = x; y = y; w = w; h = h } in
    ap (λ u. placed u y w h) x-is ∙ ap (λ u. placed (within_bounds p.0) u w h) y-is ∙ ap (λ u. placed (within_bounds p.0) (within_bounds q.0) u h) w-is
    ∙ ap (λ u. placed (within_bounds p.0) (within_bounds q.0) p.1 u) h-is ∙ ap (λ u. placed_from u q) p-is ∙ ap (λ u. placed_from p' u) q-is

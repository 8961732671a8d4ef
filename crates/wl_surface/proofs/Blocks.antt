-- Blocks of so many numbers each, and the spans that meet them.
use Rattle.std.proofs.Common.{◌≡◌, ◌∙◌, ℕ, ◌+◌, ◌-◌, ◌*◌, ◌/◌, ◌<◌, ◌≤◌, ◌&&◌, Bool, true, false, cond, arith, pos, refl, subst, sym}
use Rattle.std.specs.Prelude.{ℤ, ◌≤ℤ◌, int_lt, nat_lt}
use Rattle.std.proofs.lemmas.Bool.Decides.{nat_tests, same_from_decides, Decides-like, Decides-ltb}
use Rattle.std.proofs.lemmas.Int.{ints, by_lt_z}
use Rattle.std.proofs.lemmas.Nat.{div_below, le-div, div-add-mod', mod_below, mul-le}
use Rattle.wl_geom.specs.Rect.{in_span}
use Rattle.wl_surface.specs.State.{overlap}
use Rattle.wl_store.specs.declared.transform.Transform.{Transform}
use Rattle.wl_store.specs.declared.transform.Transform.TheVariants.{Normal, Rotated90, Rotated180, Rotated270, Flipped, Flipped90}
use Rattle.wl_store.specs.declared.transform.Transform.TheVariants.{Flipped180, Flipped270}
use Rattle.wl_store.specs.Transform.{buffer_point, is_turned}

-- ---- quotients

-- A number is in its block, from the quotient's multiple to before the next one.
block-begins : (n k : ℕ) → (n / k) * k ≤ n
block-begins n k = omega (arith, div-add-mod' n k)

block-ends : (n k : ℕ) → 1 ≤ k → n < (n / k) * k + k
block-ends n k one = omega (arith, div-add-mod' n k, mod_below n k one)

pub quotients-ordered : (m n k : ℕ) → 1 ≤ k → m ≤ n → m / k ≤ n / k
quotients-ordered m n k one le = let begins = block-begins m k in le-div (m / k) n k one (omega arith)

same-tests : (a b c d : ℕ) → (a < b → c < d) → (c < d → a < b) → nat_lt a b ≡ nat_lt c d
same-tests a b c d f g = same_from_decides (nat_lt a b) (nat_lt c d) (Decides-ltb a b) (Decides-like (nat_lt c d) g f (Decides-ltb c d))

-- the block of z ends past n exactly where z isn't before the block of n
ends-past : (n k z : ℕ) → 1 ≤ k → nat_lt n (z * k + k) ≡ nat_lt (n / k) (z + 1)
ends-past n k z one =
    same-tests n (z * k + k) (n / k) (z + 1)
    (λ h. div_below n k (z + 1) one (omega arith))
    (λ h. let ends = block-ends n k one in let le : (n / k) * k ≤ z * k = mul-le (n / k) k z k (omega arith) (omega arith) in omega arith)

-- the block of z begins at n or before it exactly where z isn't past the block of n
begins-before : (n k z : ℕ) → 1 ≤ k → nat_lt (z * k) (n + 1) ≡ nat_lt z (n / k + 1)
begins-before n k z one =
    same-tests (z * k) (n + 1) z (n / k + 1)
    (λ h. let le : z ≤ n / k = le-div z n k one (omega arith) in omega arith)
    (λ h. let begins = block-begins n k in let le : z * k ≤ (n / k) * k = mul-le z k (n / k) k (omega arith) (omega arith) in omega arith)

-- the block of a number below the side ends within the limit
block-within : (z k side limit : ℕ) → limit ≡ side * k → z < side → z * k + k ≤ limit
block-within z k side limit e less = let le : (z + 1) * k ≤ side * k = mul-le (z + 1) k side k (omega arith) (omega arith) in omega arith

-- ---- places that are held from 0 to a limit

pub record IsHeld (limit : ℕ) (place : ℤ) (at : ℕ) : Type 0 where
  pub below : place ≤ℤ pos 0 → at ≡ 0
  pub within : pos 0 ≤ℤ place → place ≤ℤ pos limit → pos at ≡ place
  pub beyond : pos limit ≤ℤ place → at ≡ limit

-- A place is held by what is told of it.
pub held-as : {given : ℤ} (limit : ℕ) (place : ℤ) (at : ℕ) → (given ≤ℤ pos 0 → at ≡ 0) → (pos 0 ≤ℤ given → given ≤ℤ pos limit → pos at ≡ given) → (pos limit ≤ℤ given → at ≡ limit)
    → given ≡ place → IsHeld limit place at
held-as limit place at below within beyond e = subst (λ (z : ℤ). IsHeld limit z at) e (record { below = below; within = within; beyond = beyond })

-- the three cases: where the place is
by_place : {P : Type 0} (limit : ℕ) (place : ℤ) (at : ℕ) → IsHeld limit place at
    → (place ≤ℤ pos 0 → at ≡ 0 → P) → (pos at ≡ place → P) → (pos limit ≤ℤ place → at ≡ limit → P) → P
by_place limit place at held low between high =
    by_lt_z place (pos 0) (λ l. let le : place ≤ℤ pos 0 = omega (arith, ints) in low le (held.below le))
    (λ ge. by_lt_z (pos limit) place (λ l. let le : pos limit ≤ℤ place = omega (arith, ints) in high le (held.beyond le)) (λ le. between (held.within ge le)))

-- The held place comes before a number from 1 to the limit exactly if the place does.
held-before : (limit : ℕ) (place : ℤ) (at n : ℕ) → IsHeld limit place at → 0 < n → n ≤ limit → int_lt place (pos n) ≡ nat_lt at n
held-before limit place at n held some within =
    by_place limit place at held (λ le e. grind (arith, ints, nat_tests)) (λ e. grind (arith, ints, nat_tests)) (λ ge e. grind (arith, ints, nat_tests))

-- A number below the limit comes before the held place exactly if it comes before the place.
before-held : (limit : ℕ) (place : ℤ) (at n : ℕ) → IsHeld limit place at → n < limit → int_lt (pos n) place ≡ nat_lt n at
before-held limit place at n held within =
    by_place limit place at held (λ le e. grind (arith, ints, nat_tests)) (λ e. grind (arith, ints, nat_tests)) (λ ge e. grind (arith, ints, nat_tests))

-- Two held places are ordered as the places, if the first isn't at the limit and the second isn't
-- at 0.
both-held : (limit : ℕ) (start end : ℤ) (from to : ℕ) → IsHeld limit start from → IsHeld limit end to → from < limit → 0 < to → int_lt start end ≡ nat_lt from to
both-held limit start end from to first last less some =
    by_place limit start from first
    (λ le e. by_place limit end to last
    (λ le' e'. absurd (omega arith)) (λ e'. grind (arith, ints, nat_tests)) (λ ge' e'. grind (arith, ints, nat_tests)))
    (λ e. by_place limit end to last
    (λ le' e'. absurd (omega arith)) (λ e'. grind (arith, ints, nat_tests)) (λ ge' e'. grind (arith, ints, nat_tests)))
    (λ ge e. absurd (omega arith))

-- ---- spans and blocks

ordered-and : (s l f t g : Bool) → l ≡ true → (f ≡ true → t ≡ true → s ≡ g) → ((s && l) && (f && t)) ≡ ((g && f) && t)
ordered-and s l true true g e h = rw (e, h refl refl) (grind arith)
ordered-and s l true false g e h = rw e (grind arith)
ordered-and s l false true g e h = rw e (grind arith)
ordered-and s l false false g e h = rw e (grind arith)

-- A span overlaps a block exactly if the held one does.
overlap-held : (limit : ℕ) (start end : ℤ) (from to a b : ℕ) → IsHeld limit start from → IsHeld limit end to → a < b → b ≤ limit
    → overlap start end (pos a) (pos b) ≡ ((nat_lt from to && nat_lt from b) && nat_lt a to)
overlap-held limit start end from to a b first last less within =
    rw (held-before limit start from b first (omega arith) within, before-held limit end to a last (omega arith))
    (ordered-and (int_lt start end) (nat_lt a b) (nat_lt from b) (nat_lt a to) (nat_lt from to) (grind (arith, nat_tests))
    (λ f t. both-held limit start end from to first last (grind (arith, nat_tests)) (grind (arith, nat_tests))))

-- numbers of a span, by its first and its last one
between-tests : (first last z : ℕ) → first ≤ last → in_span (pos first) (pos (last - first + 1)) (pos z) ≡ (nat_lt first (z + 1) && nat_lt z (last + 1))
between-tests first last z le = grind (arith, ints, nat_tests)

-- The blocks that a span meets are those from its first number's to its last one's.
pub meets-blocks : (start end : ℤ) (limit from to k scale side z : ℕ) → 1 ≤ k → k ≡ scale → limit ≡ side * k → IsHeld limit start from → IsHeld limit end to → from < to → z < side
    → in_span (pos (from / k)) (pos ((to - 1) / k - from / k + 1)) (pos z) ≡ overlap start end (pos (z * scale)) (pos (z * scale + scale))
meets-blocks start end limit from to k scale side z one same wide first last some less =
    let P : ℕ → Type 0 = λ n. in_span (pos (from / k)) (pos ((to - 1) / k - from / k + 1)) (pos z) ≡ overlap start end (pos (z * n)) (pos (z * n + n)) in
    let next : to - 1 + 1 ≡ to = omega arith in
    let meets = overlap-held limit start end from to (z * k) (z * k + k) first last (omega arith) (block-within z k side limit wide less) in
    let passed : nat_lt from to ≡ true = grind (arith, nat_tests) in
    let begun = begins-before (to - 1) k z one in
    subst P same
    (between-tests (from / k) ((to - 1) / k) z (quotients-ordered from (to - 1) k one (omega arith))
    ∙ sym (meets ∙ rw (passed, ends-past from k z one, simp next at begun) refl))

-- A span without numbers meets no block.
pub meets-none : (start end : ℤ) (limit from to k scale side z : ℕ) → 1 ≤ k → k ≡ scale → limit ≡ side * k → IsHeld limit start from → IsHeld limit end to → to ≤ from → z < side
    → in_span (pos 0) (pos 0) (pos z) ≡ overlap start end (pos (z * scale)) (pos (z * scale + scale))
meets-none start end limit from to k scale side z one same wide first last none less =
    let P : ℕ → Type 0 = λ n. in_span (pos 0) (pos 0) (pos z) ≡ overlap start end (pos (z * n)) (pos (z * n + n)) in
    let meets = overlap-held limit start end from to (z * k) (z * k + k) first last (omega arith) (block-within z k side limit wide less) in
    let stopped : nat_lt from to ≡ false = grind (arith, nat_tests) in
    let nowhere : in_span (pos 0) (pos 0) (pos z) ≡ false = grind (arith, ints, nat_tests) in
    subst P same (nowhere ∙ sym (meets ∙ rw stopped refl))

-- ---- transforms

-- a point of a surface is one of the buffer's blocks
pub point-within : (t : Transform) (w h i j : ℕ) → i < w → j < h → ((buffer_point t w h i j).0 < cond (is_turned t) h w) × ((buffer_point t w h i j).1 < cond (is_turned t) w h)
point-within Normal w h i j a b = (a, b)
point-within Rotated90 w h i j a b = (b, omega arith)
point-within Rotated180 w h i j a b = (omega arith, omega arith)
point-within Rotated270 w h i j a b = (omega arith, a)
point-within Flipped w h i j a b = (omega arith, b)
point-within Flipped90 w h i j a b = (b, a)
point-within Flipped180 w h i j a b = (a, omega arith)
point-within Flipped270 w h i j a b = (omega arith, omega arith)

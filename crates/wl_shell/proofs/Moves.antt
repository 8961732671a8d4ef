-- Moves one after the other end at the nearest place.
use Rattle.std.proofs.Common.{◌≡◌, Bool, true, false, refl, ap, sym, ◌∙◌, arith}
use Rattle.std.specs.Prelude.{ℤ, pos, ◌+ℤ◌, ◌-ℤ◌, int_lt, ◌&&◌, not, if◌then◌else◌}
use Rattle.std.specs.Int.{int_min, int_max}
use Rattle.std.proofs.lemmas.Bool.{false≢true}
use Rattle.std.proofs.lemmas.Int.{ints}
use Rattle.wl_shell.specs.Moves.{Lying, cut, flip, lies_out, moved_to, slide, towards_end, towards_start, tried, turned}
use Rattle.wl_shell.specs.Positioner.{Axis, flipped, is_constrained, nearest, part_within, placed_on, slid, start_of}

abbrev lying : ℤ → ℤ → ℤ → Lying
lying start size gravity = record { start = start; size = size; gravity = gravity }

-- how far it moves towards the end
room-behind : (end start size : ℤ) → int_lt (end -ℤ size) start ≡ false → int_max (pos 0) ((end -ℤ start) -ℤ size) ≡ (end -ℤ start) -ℤ size
room-behind end start size fits = grind (arith, ints)

shifted-min : (a b c : ℤ) → (c +ℤ int_min (a -ℤ c) (b -ℤ c)) ≡ int_min a b
shifted-min a b c = grind (arith, ints)

other-order : (end start size : ℤ) → ((end -ℤ start) -ℤ size) ≡ ((end -ℤ size) -ℤ start)
other-order end start size = omega (arith, ints)

farther : (first end start size : ℤ) → int_lt (end -ℤ size) start ≡ false → (start +ℤ int_min (first -ℤ start) (int_max (pos 0) ((end -ℤ start) -ℤ size))) ≡ int_min first (end -ℤ size)
farther first end start size fits =
    ap (λ d. start +ℤ int_min (first -ℤ start) d) (room-behind end start size fits ∙ other-order end start size) ∙ shifted-min first (end -ℤ size) start

stuck-before : (first end start size : ℤ) → int_lt start first ≡ true → int_lt (end -ℤ size) start ≡ true → (start +ℤ int_min (first -ℤ start) (int_max (pos 0) ((end -ℤ start) -ℤ size))) ≡ start
stuck-before first end start size before beyond = grind (arith, ints)

-- and towards the start
room-before : (first start : ℤ) → int_lt start first ≡ false → int_max (pos 0) (start -ℤ first) ≡ start -ℤ first
room-before first start after = grind (arith, ints)

shifted-max : (a b c : ℤ) → (c -ℤ int_min (c -ℤ b) (c -ℤ a)) ≡ int_max a b
shifted-max a b c = grind (arith, ints)

another-order : (end start size : ℤ) → ((start +ℤ size) -ℤ end) ≡ (start -ℤ (end -ℤ size))
another-order end start size = omega (arith, ints)

back : (first end start size : ℤ) → int_lt start first ≡ false → (start -ℤ int_min ((start +ℤ size) -ℤ end) (int_max (pos 0) (start -ℤ first))) ≡ int_max first (end -ℤ size)
back first end start size after =
    ap (λ d. start -ℤ int_min ((start +ℤ size) -ℤ end) d) (room-before first start after)
    ∙ ap (λ d. start -ℤ int_min d (start -ℤ first)) (another-order end start size) ∙ shifted-max first (end -ℤ size) start

stuck-beyond : (first end start size : ℤ) → int_lt (end -ℤ size) start ≡ true → int_lt start first ≡ true → (start -ℤ int_min ((start +ℤ size) -ℤ end) (int_max (pos 0) (start -ℤ first))) ≡ start
stuck-beyond first end start size beyond before = grind (arith, ints)

-- the end lies beyond the bounds where the start lies beyond the last one that fits
same-end : (end start size : ℤ) (b : Bool) → int_lt (end -ℤ size) start ≡ b → int_lt end (start +ℤ size) ≡ b
same-end end start size b e = grind (arith, ints)

near-first : (first end start size : ℤ) → int_lt start first ≡ true → int_lt (end -ℤ size) start ≡ false → int_min first (end -ℤ size) ≡ nearest first end start size
near-first first end start size before fits = grind (arith, ints)

near-here : (first end start size : ℤ) → int_lt start first ≡ true → int_lt (end -ℤ size) start ≡ true → start ≡ nearest first end start size
near-here first end start size before beyond = grind (arith, ints)

near-within : (first end start size : ℤ) → int_lt start first ≡ false → int_lt (end -ℤ size) start ≡ false → start ≡ nearest first end start size
near-within first end start size after fits = grind (arith, ints)

near-last : (first end start size : ℤ) → int_lt start first ≡ false → int_lt (end -ℤ size) start ≡ true → int_max first (end -ℤ size) ≡ nearest first end start size
near-last first end start size after beyond = grind (arith, ints)

-- ---- the two moves on what lies so

end-is : (first end start size gravity : ℤ) (before fits : Bool) → int_lt start first ≡ before → int_lt (end -ℤ size) start ≡ fits
    → towards_end first end (lying start size gravity) ≡ lying (if before then (if fits then start else int_min first (end -ℤ size)) else start) size gravity
end-is first end start size gravity false b e f = rw e refl
end-is first end start size gravity true true e f = rw e (ap (λ x. lying x size gravity) (stuck-before first end start size e f))
end-is first end start size gravity true false e f = rw e (ap (λ x. lying x size gravity) (farther first end start size f))

start-is : (first end start size gravity : ℤ) (before beyond : Bool) → int_lt start first ≡ before → int_lt (end -ℤ size) start ≡ beyond
    → towards_start first end (lying start size gravity) ≡ lying (if beyond then (if before then start else int_max first (end -ℤ size)) else start) size gravity
start-is first end start size gravity b false e f = rw (same-end end start size false f) refl
start-is first end start size gravity true true e f = rw (same-end end start size true f) (ap (λ x. lying x size gravity) (stuck-beyond first end start size f e))
start-is first end start size gravity false true e f = rw (same-end end start size true f) (ap (λ x. lying x size gravity) (back first end start size e))

not-beyond-min : (a b : ℤ) → int_lt b (int_min a b) ≡ false
not-beyond-min a b = grind (arith, ints)

not-before-max : (a b : ℤ) → int_lt (int_max a b) a ≡ false
not-before-max a b = grind (arith, ints)

end-first : (first end start size gravity : ℤ) (before beyond : Bool) → int_lt start first ≡ before → int_lt (end -ℤ size) start ≡ beyond
    → towards_start first end (towards_end first end (lying start size gravity)) ≡ lying (nearest first end start size) size gravity
end-first first end start size gravity false false e f =
    ap (towards_start first end) (end-is first end start size gravity false false e f) ∙ start-is first end start size gravity false false e f
    ∙ ap (λ x. lying x size gravity) (near-within first end start size e f)
end-first first end start size gravity false true e f =
    ap (towards_start first end) (end-is first end start size gravity false true e f) ∙ start-is first end start size gravity false true e f
    ∙ ap (λ x. lying x size gravity) (near-last first end start size e f)
end-first first end start size gravity true true e f =
    ap (towards_start first end) (end-is first end start size gravity true true e f) ∙ start-is first end start size gravity true true e f
    ∙ ap (λ x. lying x size gravity) (near-here first end start size e f)
end-first first end start size gravity true false e f =
    let q = int_min first (end -ℤ size) in
    ap (towards_start first end) (end-is first end start size gravity true false e f) ∙ start-is first end q size gravity (int_lt q first) false refl (not-beyond-min first (end -ℤ size))
    ∙ ap (λ x. lying x size gravity) (near-first first end start size e f)

start-first : (first end start size gravity : ℤ) (before beyond : Bool) → int_lt start first ≡ before → int_lt (end -ℤ size) start ≡ beyond
    → towards_end first end (towards_start first end (lying start size gravity)) ≡ lying (nearest first end start size) size gravity
start-first first end start size gravity false false e f =
    ap (towards_end first end) (start-is first end start size gravity false false e f) ∙ end-is first end start size gravity false false e f
    ∙ ap (λ x. lying x size gravity) (near-within first end start size e f)
start-first first end start size gravity true false e f =
    ap (towards_end first end) (start-is first end start size gravity true false e f) ∙ end-is first end start size gravity true false e f
    ∙ ap (λ x. lying x size gravity) (near-first first end start size e f)
start-first first end start size gravity true true e f =
    ap (towards_end first end) (start-is first end start size gravity true true e f) ∙ end-is first end start size gravity true true e f
    ∙ ap (λ x. lying x size gravity) (near-here first end start size e f)
start-first first end start size gravity false true e f =
    let q = int_max first (end -ℤ size) in
    ap (towards_end first end) (start-is first end start size gravity false true e f) ∙ end-is first end q size gravity false (int_lt (end -ℤ size) q) (not-before-max first (end -ℤ size)) refl
    ∙ ap (λ x. lying x size gravity) (near-last first end start size e f)

either-first : (first end start size gravity : ℤ) (b : Bool) → int_lt gravity (pos 0) ≡ b → slide first end (lying start size gravity) ≡ lying (nearest first end start size) size gravity
either-first first end start size gravity true e = rw e (start-first first end start size gravity (int_lt start first) (int_lt (end -ℤ size) start) refl refl)
either-first first end start size gravity false e = rw e (end-first first end start size gravity (int_lt start first) (int_lt (end -ℤ size) start) refl refl)

-- ---- all three moves

not-tried : (allowed : Bool) (first end : ℤ) (move : Lying → Lying) (l : Lying) → lies_out first end l ≡ false → tried allowed first end move l ≡ l
not-tried false first end move l e = refl
not-tried true first end move l e = rw e refl

flip-is : (may_flip : Bool) (first end : ℤ) (a : Axis) (l : Lying) → lies_out first end l ≡ true → (may_flip && not (lies_out first end (turned a))) ≡ false
    → tried may_flip first end (flip first end a) l ≡ l
flip-is false first end a l e f = refl
flip-is true first end a l e f = rw e (kept (lies_out first end (turned a)) f) where
  kept : (out : Bool) → not out ≡ false → (if out then l else turned a) ≡ l
  kept true g = refl
  kept false g = absurd (false≢true (sym g))

slide-is : (may_slide : Bool) (first end start size gravity : ℤ) → is_constrained first end start size ≡ true
    → tried may_slide first end (slide first end) (lying start size gravity) ≡ lying (slid may_slide first end start size) size gravity
slide-is false first end start size gravity e = refl
slide-is true first end start size gravity e = rw e (either-first first end start size gravity (int_lt gravity (pos 0)) refl)

cut-is : (may_resize : Bool) (first end start size gravity : ℤ) (b : Bool) → (may_resize && is_constrained first end start size) ≡ b
    → ((if b then cut first end (lying start size gravity) else lying start size gravity).start, (if b then cut first end (lying start size gravity) else lying start size gravity).size)
    ≡ (if b then part_within first end start size else (start, size))
cut-is may_resize first end start size gravity true e = refl
cut-is may_resize first end start size gravity false e = refl

abbrev pair-of : Lying → ℤ × ℤ
pair-of l = (l.start, l.size)

-- where it fits already, or fits turned round, or neither
pub same-place : (may_flip may_slide may_resize : Bool) (first end : ℤ) (a : Axis) (out stays : Bool) → is_constrained first end (start_of a) a.size ≡ out
    → (may_flip && not (is_constrained first end (start_of (flipped a)) a.size)) ≡ stays
    → moved_to may_flip may_slide may_resize first end a ≡ placed_on may_flip may_slide may_resize first end a
same-place may_flip may_slide may_resize first end a false stays e f =
    let l = lying (start_of a) a.size a.gravity in
    let flipped-not = not-tried may_flip first end (flip first end a) l e in
    let slid-not = ap (λ (x : Lying). tried may_slide first end (slide first end) x) flipped-not ∙ not-tried may_slide first end (slide first end) l e in
    ap pair-of (ap (λ (x : Lying). tried may_resize first end (cut first end) x) slid-not ∙ not-tried may_resize first end (cut first end) l e) ∙ rw e refl
same-place true may_slide may_resize first end a true true e f =
    let l = lying (start_of a) a.size a.gravity in
    let fits = fits-turned (is_constrained first end (start_of (flipped a)) a.size) f in
    let there : tried true first end (flip first end a) l ≡ turned a = rw (e, fits) refl in
    let slid-not = ap (λ (x : Lying). tried may_slide first end (slide first end) x) there ∙ not-tried may_slide first end (slide first end) (turned a) fits in
    ap pair-of (ap (λ (x : Lying). tried may_resize first end (cut first end) x) slid-not ∙ not-tried may_resize first end (cut first end) (turned a) fits) ∙ rw (e, fits) refl where
      fits-turned : (out : Bool) → not out ≡ true → out ≡ false
      fits-turned true g = absurd (false≢true g)
      fits-turned false g = refl
same-place false may_slide may_resize first end a true true e f = absurd (false≢true f)
same-place may_flip may_slide may_resize first end a true false e f =
    let l = lying (start_of a) a.size a.gravity in
    let q = slid may_slide first end (start_of a) a.size in
    let slides = ap (λ (x : Lying). tried may_slide first end (slide first end) x) (flip-is may_flip first end a l e f) ∙ slide-is may_slide first end (start_of a) a.size a.gravity e in
    ap (λ (x : Lying). pair-of (tried may_resize first end (cut first end) x)) slides ∙ cut-is may_resize first end q a.size a.gravity (may_resize && is_constrained first end q a.size) refl
    ∙ rw (e, f) refl

-- Where the windows of a toplevel stand, by their places.
use Rattle.std.proofs.Common.{◌≡◌, ℕ, zero, suc, ◌+◌, ◌-◌, ◌<◌, ◌≤◌, List, ◌∷◌, ◌++◌, Bool, true, false, Some, None, refl, ap, ap₂, subst, sym, ◌∙◌, length, get_or, take, drop, arith, []}
use Rattle.std.specs.Prelude.{pos, ◌&&◌, filter, not}
use Rattle.std.specs.List.{list_all, list_any, position, position_or_len}
use Rattle.std.proofs.lemmas.Bool.{ltb-false, or_from}
use Rattle.std.proofs.lemmas.List.{append-nil, append_assoc, drop_at, length-append, take_at}
use Rattle.std.proofs.lemmas.List.Quantifiers.{position-Some}
use Rattle.std.proofs.lemmas.List.Sums.{fails_before_first}
use Rattle.wl_store.specs.declared.transform.Transform.TheVariants.{Normal}
use Rattle.wl_scene.specs.declared.stacked.Stacked.{Stacked}
use Rattle.wl_scene.specs.Stacked.{IsRun, are_a_run, are_in_front, first_last, in_place, last_first}
use Rattle.wl_scene.proofs.StackedTogether.{front-ends, front-rest, place-here, place-later, run-begun, run-behind}
use Rattle.wl_scene.proofs.Truth.{and-left, and-right, or-left, or-right}
use Rattle.wl_scene.proofs.Stacks.{not_there}

-- ---- filters

pub filter-none : {X : Type 0} (p : X → Bool) (xs : List X) → list_any p xs ≡ false → filter p xs ≡ []
filter-none p [] h = refl
filter-none p (x ∷ xs) h = rw (or-left (p x) (list_any p xs) h) (filter-none p xs (or-right (p x) (list_any p xs) h))

pub filter-kept : {X : Type 0} (p : X → Bool) (xs : List X) → list_any p xs ≡ false → filter (λ y. not (p y)) xs ≡ xs
filter-kept p [] h = refl
filter-kept p (x ∷ xs) h = rw (or-left (p x) (list_any p xs) h) (ap (λ ys. x ∷ ys) (filter-kept p xs (or-right (p x) (list_any p xs) h)))

pub kept-below : {X : Type 0} (p : X → Bool) (xs ys : List X) → list_any p xs ≡ false
    → filter (λ y. not (p y)) (xs ++ ys) ≡ xs ++ filter (λ y. not (p y)) ys
kept-below p [] ys h = refl
kept-below p (x ∷ xs) ys h = rw (or-left (p x) (list_any p xs) h) (ap (λ zs. x ∷ zs) (kept-below p xs ys (or-right (p x) (list_any p xs) h)))

-- those of which all pass, before those of which none does
filter-front : {X : Type 0} (p : X → Bool) (xs ys : List X) → list_all p xs ≡ true → list_any p ys ≡ false → filter p (xs ++ ys) ≡ xs
filter-front p [] ys h k = filter-none p ys k
filter-front p (x ∷ xs) ys h k =
    rw (and-left (p x) (list_all p xs) h) (ap (λ zs. x ∷ zs) (filter-front p xs ys (and-right (p x) (list_all p xs) h) k))

filter-behind : {X : Type 0} (p : X → Bool) (xs ys : List X) → list_all p xs ≡ true → list_any p ys ≡ false → filter (λ y. not (p y)) (xs ++ ys) ≡ ys
filter-behind p [] ys h k = filter-kept p ys k
filter-behind p (x ∷ xs) ys h k = rw (and-left (p x) (list_all p xs) h) (filter-behind p xs ys (and-right (p x) (list_all p xs) h) k)

filter-above : {X : Type 0} (p : X → Bool) (xs ys : List X) → list_any p xs ≡ false → filter p (xs ++ ys) ≡ filter p ys
filter-above p [] ys h = refl
filter-above p (x ∷ xs) ys h = rw (or-left (p x) (list_any p xs) h) (filter-above p xs ys (or-right (p x) (list_any p xs) h))

-- ---- a run by its place

-- those in front that pass, and the others
record Front {X : Type 0} (p : X → Bool) (xs : List X) : Type 0 where
  front : List X
  behind : List X
  whole : xs ≡ front ++ behind
  are_front : list_all p front ≡ true
  none_behind : list_any p behind ≡ false

front-split : {X : Type 0} (p : X → Bool) (xs : List X) → are_in_front p xs ≡ true → Front p xs
front-split p [] h = record { front = []; behind = []; whole = refl; are_front = refl; none_behind = refl }
front-split p (x ∷ xs) h = at (p x) refl (front-split p xs)
  where
    and-true : (a b : Bool) → a ≡ true → b ≡ true → (a && b) ≡ true
    and-true true b e k = k
    and-true false b e k = absurd (cc)

    at : (b : Bool) → p x ≡ b → (are_in_front p xs ≡ true → Front p xs) → Front p (x ∷ xs)
    at true here more =
        let s = more (front-rest p x xs here h) in
        record {
          front = x ∷ s.front;
          behind = s.behind;
          whole = ap (λ ys. x ∷ ys) s.whole;
          are_front = and-true (p x) (list_all p s.front) here s.are_front;
          none_behind = s.none_behind;
        }
    at false here more =
        record {
          front = [];
          behind = x ∷ xs;
          whole = refl;
          are_front = refl;
          none_behind = or_from (p x) (list_any p xs) here (front-ends p x xs here h);
        }

-- none passes where there is no place of the first
none-fails : {X : Type 0} (p : X → Bool) (d : X) (xs : List X) → ((j : ℕ) → j < length xs → p (get_or xs j d) ≡ false) → list_any p xs ≡ false
none-fails p d [] h = refl
none-fails p d (x ∷ xs) h = or_from (p x) (list_any p xs) (h 0 (omega arith)) (none-fails p d xs (λ j less. h (suc j) (omega (arith, less))))

pub absent : {X : Type 0} (p : X → Bool) (d : X) (xs : List X) → position p xs ≡ None → list_any p xs ≡ false
absent p d xs e = none-fails p d xs (λ j less. fails_before_first p xs j d (omega (arith, beyond, less)))
  where
    beyond : length xs ≤ position_or_len p xs
    beyond = ltb-false (position_or_len p xs) (length xs) (not_there _ _ e)

-- what stands at the place of the first that passes
record At {X : Type 0} (p : X → Bool) (k : ℕ) (xs : List X) : Type 0 where
  below : List X
  first : X
  others : List X
  above : List X
  whole : xs ≡ below ++ ((first ∷ others) ++ above)
  begins : length below ≡ k
  none_below : list_any p below ≡ false
  is_first : p first ≡ true
  are_others : list_all p others ≡ true
  none_above : list_any p above ≡ false

at-later : {X : Type 0} (p : X → Bool) (k : ℕ) (x : X) (xs : List X) → p x ≡ false → At p k xs → At p (suc k) (x ∷ xs)
at-later p k x xs here a = record {
  below = x ∷ a.below;
  first = a.first;
  others = a.others;
  above = a.above;
  whole = ap (λ ys. x ∷ ys) a.whole;
  begins = ap suc a.begins;
  none_below = or_from (p x) (list_any p a.below) here a.none_below;
  is_first = a.is_first;
  are_others = a.are_others;
  none_above = a.none_above;
}

at-here : {X : Type 0} (p : X → Bool) (x : X) (xs : List X) → p x ≡ true → Front p xs → At p zero (x ∷ xs)
at-here p x xs here f = record {
  below = [];
  first = x;
  others = f.front;
  above = f.behind;
  whole = ap (λ ys. x ∷ ys) f.whole;
  begins = refl;
  none_below = refl;
  is_first = here;
  are_others = f.are_front;
  none_above = f.none_behind;
}

run-at : {X : Type 0} (p : X → Bool) (d : X) (xs : List X) (k : ℕ) → k < length xs → p (get_or xs k d) ≡ true → ((j : ℕ) → j < k → p (get_or xs j d) ≡ false)
    → are_a_run p xs ≡ true → At p k xs
run-at p d [] k less here before h = absurd (omega (arith, less))
run-at p d (x ∷ xs) zero less here before h = at-here p x xs here (front-split p xs (run-begun p x xs here h))
run-at p d (x ∷ xs) (suc k) less here before h =
    let fails : p x ≡ false = before 0 (omega arith) in
    at-later p k x xs fails
    (run-at p d xs k (omega (arith, less)) here (λ j lower. before (suc j) (omega (arith, lower))) (run-behind p x xs fails h))

-- a window that is of no toplevel that counts
nobody : Stacked
nobody = record { client = 0; toplevel = 0; window = record { surface = 0; root = 0; x = pos 0; y = pos 0; w = 0; h = 0; transform = Normal; scale = 1 } }

pub none-there : (p : Stacked → Bool) (xs : List Stacked) → position p xs ≡ None → list_any p xs ≡ false
none-there p xs e = absent p nobody xs e

-- how many pass in one run
run-filtered : {X : Type 0} (p : X → Bool) (below : List X) (x : X) (others above : List X) → list_any p below ≡ false → p x ≡ true → list_all p others ≡ true
    → list_any p above ≡ false → filter p (below ++ ((x ∷ others) ++ above)) ≡ x ∷ others
run-filtered p below x others above n h o m =
    filter-above p below ((x ∷ others) ++ above) n ∙ rw h (ap (λ ys. x ∷ ys) (filter-front p others above o m))

pub run-there : (p : Stacked → Bool) (xs : List Stacked) (k n : ℕ) → position p xs ≡ Some k → are_a_run p xs ≡ true → n ≡ length (filter p xs) → IsRun p k n xs
run-there p xs k n e h c =
    let at = position-Some p xs k nobody e in
    let a = run-at p nobody xs k at.0 at.1 at.2 h in
    record {
      below = a.below;
      first = a.first;
      others = a.others;
      above = a.above;
      whole = a.whole;
      begins = a.begins;
      counted =
          sym (c ∙ ap (λ (ys : List Stacked). length (filter p ys)) a.whole
          ∙ ap length (run-filtered p a.below a.first a.others a.above a.none_below a.is_first a.are_others a.none_above));
      none_below = a.none_below;
      is_first = a.is_first;
      are_others = a.are_others;
      none_above = a.none_above;
    }

-- ---- what is read, taken out and put in at a run

pub run-read : (p : Stacked → Bool) (k n : ℕ) (xs : List Stacked) → IsRun p k n xs → take n (drop k xs) ≡ filter p xs
run-read p k n xs r =
    ap (λ (ys : List Stacked). take n (drop k ys)) r.whole
    ∙ (ap (λ (ys : List Stacked). take n ys) (drop_at r.below ((r.first ∷ r.others) ++ r.above) k r.begins)
    ∙ (take_at (r.first ∷ r.others) r.above n r.counted
    ∙ (sym (run-filtered p r.below r.first r.others r.above r.none_below r.is_first r.are_others r.none_above)
    ∙ ap (λ (ys : List Stacked). filter p ys) (sym r.whole))))

-- a run, and others in its place
pub placed-run : {X : Type 0} (p : X → Bool) (new below : List X) (x : X) (others above : List X) → list_any p below ≡ false → p x ≡ true → list_all p others ≡ true
    → list_any p above ≡ false → in_place p new (below ++ ((x ∷ others) ++ above)) ≡ below ++ (new ++ above)
placed-run p new [] x others above n h o m = place-here p new x (others ++ above) h ∙ ap (λ ys. new ++ ys) (filter-behind p others above o m)
placed-run p new (y ∷ below) x others above n h o m =
    place-later p new y (below ++ ((x ∷ others) ++ above)) (or-left (p y) (list_any p below) n)
    ∙ ap (λ ys. y ∷ ys) (placed-run p new below x others above (or-right (p y) (list_any p below) n) h o m)

-- the others come on top, the run goes, and they come to its place
taken-out : {X : Type 0} (k n : ℕ) (below run above new : List X) → length below ≡ k → length run ≡ n
    → take k ((below ++ (run ++ above)) ++ new) ++ drop (k + n) ((below ++ (run ++ above)) ++ new) ≡ below ++ (above ++ new)
taken-out k n below run above new b r =
    rw (first, then) refl
  where
    whole : (below ++ (run ++ above)) ++ new ≡ below ++ (run ++ (above ++ new))
    whole = append_assoc below (run ++ above) new ∙ ap (λ ys. below ++ ys) (append_assoc run above new)

    first : take k ((below ++ (run ++ above)) ++ new) ≡ below
    first = ap (λ ys. take k ys) whole ∙ take_at below (run ++ (above ++ new)) k b

    then : drop (k + n) ((below ++ (run ++ above)) ++ new) ≡ above ++ new
    then =
        ap (λ ys. drop (k + n) ys) (whole ∙ sym (append_assoc below run (above ++ new)))
        ∙ drop_at (below ++ run) (above ++ new) (k + n) (length-append below run ∙ omega (arith, b, r))

put-in : (k n : ℕ) (below above new : List Stacked) → length below ≡ k → length new ≡ n
    → take k (below ++ (above ++ new)) ++ last_first n (drop k (below ++ (above ++ new))) ≡ below ++ (new ++ above)
put-in k n below above new b l =
    rw (take_at below (above ++ new) k b, drop_at below (above ++ new) k b) (ap (λ (ys : List Stacked). below ++ ys) turned)
  where
    count : length above ≡ length (above ++ new) - n
    count = omega (arith, length-append above new, l)

    turned : last_first n (above ++ new) ≡ new ++ above
    turned = rw (drop_at above new (length (above ++ new) - n) count, take_at above new (length (above ++ new) - n) count) refl

pub run-replaced : (p : Stacked → Bool) (k n m : ℕ) (new xs grown less put : List Stacked) → IsRun p k n xs → length new ≡ m → grown ≡ xs ++ new
    → less ≡ take k grown ++ drop (k + n) grown → put ≡ take k less ++ last_first m (drop k less) → put ≡ in_place p new xs
run-replaced p k n m new xs grown less put r l g t e =
    let whole = g ∙ ap (λ (ys : List Stacked). ys ++ new) r.whole in
    let out : less ≡ r.below ++ (r.above ++ new) =
    t ∙ (ap (λ (ys : List Stacked). take k ys ++ drop (k + n) ys) whole
    ∙ taken-out k n r.below (r.first ∷ r.others) r.above new r.begins r.counted) in
    e ∙ (ap (λ (ys : List Stacked). take k ys ++ last_first m (drop k ys)) out
    ∙ (put-in k m r.below r.above new r.begins l
    ∙ (sym (placed-run p new r.below r.first r.others r.above r.none_below r.is_first r.are_others r.none_above)
    ∙ ap (λ (ys : List Stacked). in_place p new ys) (sym r.whole))))

-- the same, as it is written: over the whole of what was left
pub run-written : (p : Stacked → Bool) (k n m len : ℕ) (new xs read grown less part put : List Stacked) → IsRun p k n read → read ≡ xs → length new ≡ m
    → grown ≡ xs ++ new → less ≡ take k grown ++ drop (k + n) grown → part ≡ less → put ≡ take k part ++ last_first m (drop k part) → length put ≡ len
    → take len (put ++ drop (length put) less) ≡ in_place p new xs
run-written p k n m len new xs read grown less part put r same l g t is e long =
    take_at put (drop (length put) less) len long
    ∙ run-replaced p k n m new xs grown less put (subst (λ (ys : List Stacked). IsRun p k n ys) same r) l g t
    (e ∙ ap (λ (ys : List Stacked). take k ys ++ last_first m (drop k ys)) is)

-- ---- a run comes to the top

pub raised-none : (p : Stacked → Bool) (xs : List Stacked) → list_any p xs ≡ false → filter (λ s. not (p s)) xs ++ filter p xs ≡ xs
raised-none p xs h = rw (filter-kept p xs h, filter-none p xs h) (append-nil xs)

raised-whole : (p : Stacked → Bool) (below : List Stacked) (x : Stacked) (others above : List Stacked) → list_any p below ≡ false → p x ≡ true
    → list_all p others ≡ true → list_any p above ≡ false
    → filter (λ s. not (p s)) (below ++ ((x ∷ others) ++ above)) ++ filter p (below ++ ((x ∷ others) ++ above)) ≡ below ++ (above ++ (x ∷ others))
raised-whole p below x others above n h o m =
    ap₂ (λ (ys zs : List Stacked). ys ++ zs) left (run-filtered p below x others above n h o m) ∙ append_assoc below above (x ∷ others)
  where
    left : filter (λ s. not (p s)) (below ++ ((x ∷ others) ++ above)) ≡ below ++ above
    left = kept-below p below ((x ∷ others) ++ above) n ∙ ap (λ ys. below ++ ys) (rw h (filter-behind p others above o m))

turned-up : (k n : ℕ) (below run above : List Stacked) → length below ≡ k → length run ≡ n
    → take k (below ++ (run ++ above)) ++ first_last n (drop k (below ++ (run ++ above))) ≡ below ++ (above ++ run)
turned-up k n below run above b r =
    rw (take_at below (run ++ above) k b, drop_at below (run ++ above) k b) (ap (λ (ys : List Stacked). below ++ ys) turned)
  where
    turned : first_last n (run ++ above) ≡ above ++ run
    turned = rw (drop_at run above n r, take_at run above n r) refl

pub run-raised : (p : Stacked → Bool) (k n : ℕ) (xs put : List Stacked) → IsRun p k n xs → put ≡ take k xs ++ first_last n (drop k xs)
    → put ≡ filter (λ s. not (p s)) xs ++ filter p xs
run-raised p k n xs put r e =
    e ∙ (ap (λ (ys : List Stacked). take k ys ++ first_last n (drop k ys)) r.whole
    ∙ (turned-up k n r.below (r.first ∷ r.others) r.above r.begins r.counted
    ∙ (sym (raised-whole p r.below r.first r.others r.above r.none_below r.is_first r.are_others r.none_above)
    ∙ ap (λ (ys : List Stacked). filter (λ s. not (p s)) ys ++ filter p ys) (sym r.whole))))

-- A place is put beside one that was found.
use Rattle.std.proofs.Common.{◌≡◌, ℕ, suc, ◌+◌, ◌<◌, ◌≤◌, Bool, true, false, not, List, [], ◌∷◌, Some, None, cond, if◌then◌else◌, ◌||◌, refl, ap, sym, ◌∙◌, arith, length}
use Rattle.std.proofs.lemmas.Bool.{false≢true, ltb-false, ltb-true}
use Rattle.std.specs.List.{find, insert, position, position_or_len}
use Rattle.std.proofs.lemmas.Option.{cond_some}
use Rattle.std.specs.Prelude.{nat_lt}
use Rattle.wl_links.specs.declared.placed.Member.{Member}
use Rattle.wl_links.specs.declared.placed.Placed.{Placed}
use Rattle.wl_links.specs.declared.placed.Side.{Side}
use Rattle.wl_links.specs.declared.placed.Side.TheVariants.{Above, Below}
use Rattle.wl_links.specs.Stacks.{above, below, beside, has_member, is_of, without}

-- ---- what is left

fewer : (m : Member) (ps : List Placed) → length (without m ps) ≤ length ps
fewer m [] = omega arith
fewer m (x ∷ xs) = step (not (is_of m x)) (fewer m xs)
  where
    step : (b : Bool) → length (without m xs) ≤ length xs → length (cond b (x ∷ without m xs) (without m xs)) ≤ length (x ∷ xs)
    step true le = omega (arith, le)
    step false le = omega (arith, le)

-- where a member is found, there are fewer without it
pub fewer-without : (m : Member) (ps : List Placed) (p : Placed) → find (is_of m) ps ≡ Some p → length (without m ps) < length ps
fewer-without m [] p e = absurd (cc)
fewer-without m (x ∷ xs) p e = step (is_of m x) (fewer-without m xs p) e
  where
    step : (b : Bool) → (find (is_of m) xs ≡ Some p → length (without m xs) < length xs) → cond b (Some x) (find (is_of m) xs) ≡ Some p
        → length (cond (not b) (x ∷ without m xs) (without m xs)) < length (x ∷ xs)
    step true less found = omega (arith, fewer m xs)
    step false less found = omega (arith, less found)

-- ---- beside what is found

-- what comes right after the first place of a member, and what right before it
front : (at : Member) (p : Placed) (ps : List Placed) → position_or_len (is_of at) ps < length ps
    → (insert ps (position_or_len (is_of at) ps + 1) p ≡ above p at ps) × (insert ps (position_or_len (is_of at) ps) p ≡ below p at ps)
front at p [] less = absurd (omega (arith, less))
front at p (x ∷ xs) less = step (position_or_len (is_of at) xs) (is_of at x) (front at p xs) less
  where
    step : (n : ℕ) (b : Bool) → (n < length xs → (insert xs (n + 1) p ≡ above p at xs) × (insert xs n p ≡ below p at xs)) → cond (not b) (1 + n) 0 < length (x ∷ xs)
        → (insert (x ∷ xs) (cond (not b) (1 + n) 0 + 1) p ≡ cond b (x ∷ p ∷ xs) (x ∷ above p at xs))
        × (insert (x ∷ xs) (cond (not b) (1 + n) 0) p ≡ cond b (p ∷ x ∷ xs) (x ∷ below p at xs))
    step n true on less = (refl, refl)
    step n false on less =
        let rest = on (omega (arith, less)) in
        let next : 1 + n + 1 ≡ suc (n + 1) = omega arith in
        let here : 1 + n ≡ suc n = omega arith in (
          ap (λ k. insert (x ∷ xs) k p) next ∙ ap (λ (qs : List Placed). x ∷ qs) rest.0,
          ap (λ k. insert (x ∷ xs) k p) here ∙ ap (λ (qs : List Placed). x ∷ qs) rest.1,
        )

put-there : (at : Member) (p : Placed) (ps : List Placed) (index : ℕ) → position (is_of at) ps ≡ Some index
    → (insert ps (index + 1) p ≡ above p at ps) × (insert ps index p ≡ below p at ps)
put-there at p ps index e =
    let is = cond_some (nat_lt (position_or_len (is_of at) ps) (length ps)) (position_or_len (is_of at) ps) index e in
    let both = front at p ps (ltb-true _ _ is.0) in
    (ap (λ k. insert ps (k + 1) p) (sym is.1) ∙ both.0, ap (λ k. insert ps k p) (sym is.1) ∙ both.1)

-- what is put in, where there is room
pub put-in : (b : Bool) (new put old : List Placed) → new ≡ (if b then put else old) → b ≡ true → new ≡ put
put-in b new put old e is = e ∙ ap (λ a. if a then put else old) is

-- a place comes in on a side of the one that was found
pub put-above : (side : Side) (at : Member) (p : Placed) (ps new : List Placed) (found index : ℕ) → position (is_of at) ps ≡ Some found → side ≡ Above → index ≡ found + 1
    → new ≡ insert ps index p → new ≡ beside side p at ps
put-above side at p ps new found index e is next put =
    put ∙ (ap (λ k. insert ps k p) next ∙ ((put-there at p ps found e).0 ∙ sym (ap (λ s. beside s p at ps) is)))

pub put-below : (side : Side) (at : Member) (p : Placed) (ps new : List Placed) (found index : ℕ) → position (is_of at) ps ≡ Some found → side ≡ Below → index ≡ found
    → new ≡ insert ps index p → new ≡ beside side p at ps
put-below side at p ps new found index e is same put =
    put ∙ (ap (λ k. insert ps k p) same ∙ ((put-there at p ps found e).1 ∙ sym (ap (λ s. beside s p at ps) is)))

nowhere : (at : Member) (p : Placed) (ps : List Placed) → has_member at ps ≡ false → (above p at ps ≡ ps) × (below p at ps ≡ ps)
nowhere at p [] none = (refl, refl)
nowhere at p (x ∷ xs) none = step (is_of at x) (nowhere at p xs) none
  where
    step : (b : Bool) → (has_member at xs ≡ false → (above p at xs ≡ xs) × (below p at xs ≡ xs)) → (b || has_member at xs) ≡ false
        → (cond b (x ∷ p ∷ xs) (x ∷ above p at xs) ≡ x ∷ xs) × (cond b (p ∷ x ∷ xs) (x ∷ below p at xs) ≡ x ∷ xs)
    step true on e = absurd (false≢true (sym e))
    step false on e = let kept = on e in (ap (λ (qs : List Placed). x ∷ qs) kept.0, ap (λ (qs : List Placed). x ∷ qs) kept.1)

past-all : (at : Member) (ps : List Placed) → length ps ≤ position_or_len (is_of at) ps → has_member at ps ≡ false
past-all at [] le = refl
past-all at (x ∷ xs) le = step (is_of at x) (past-all at xs) le
  where
    step : (b : Bool) → (length xs ≤ position_or_len (is_of at) xs → has_member at xs ≡ false) → length (x ∷ xs) ≤ cond (not b) (1 + position_or_len (is_of at) xs) 0
        → (b || has_member at xs) ≡ false
    step true on le = absurd (omega (arith, le))
    step false on le = on (omega (arith, le))

not-some : (b : Bool) (n : ℕ) → cond b (Some n) None ≡ None → b ≡ false
not-some true n e = cc
not-some false n e = refl

pub put-nowhere : (side : Side) (at : Member) (p : Placed) (ps : List Placed) → position (is_of at) ps ≡ None → ps ≡ beside side p at ps
put-nowhere Above at p ps e = sym (nowhere at p ps (past-all at ps (ltb-false _ _ (not-some _ _ e)))).0
put-nowhere Below at p ps e = sym (nowhere at p ps (past-all at ps (ltb-false _ _ (not-some _ _ e)))).1

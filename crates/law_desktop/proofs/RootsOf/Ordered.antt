-- Popups in order of creation, of which some are left out: the others stand in the same order.
use Rattle.std.proofs.Common.{◌≡◌, ℕ, Bool, true, false, cond, List, [], ◌∷◌, refl, ap, sym, ◌∙◌, arith}
use Rattle.std.specs.Prelude.{filter, fold, nat_lt}
use Rattle.wl_shell.specs.Popups.{Popped, by_number}
use Rattle.law_desktop.proofs.Lists.Each.{Each, each-map}

-- none comes before one of a lower number
abbrev AreSorted : List Popped → Type 0
AreSorted [] = Unit {0}
AreSorted (p ∷ ps) = Each (λ q. nat_lt q.popup.number p.popup.number ≡ false) ps × AreSorted ps

-- what is below one is below all that aren't below that
below-all : (a b c : ℕ) → nat_lt a b ≡ true → nat_lt c b ≡ false → nat_lt a c ≡ true
below-all a b c e f = grind (arith, e, f)

not-below : (a b : ℕ) → nat_lt a b ≡ true → nat_lt b a ≡ false
not-below a b e = grind (arith, e)

pub each-put : (P : Popped → Type 0) (p : Popped) (ps : List Popped) → P p → Each P ps → Each P (by_number p ps)
each-put P p [] e f = (e, tt)
each-put P p (q ∷ qs) e f = at (nat_lt p.popup.number q.popup.number) (each-put P p qs e f.1)
  where
    at : (b : Bool) → Each P (by_number p qs) → Each P (cond b (p ∷ q ∷ qs) (q ∷ by_number p qs))
    at true rest = (e, f)
    at false rest = (f.0, rest)

sorted-put : (p : Popped) (ps : List Popped) → AreSorted ps → AreSorted (by_number p ps)
sorted-put p [] s = (tt, tt)
sorted-put p (q ∷ qs) s = at (nat_lt p.popup.number q.popup.number) refl (sorted-put p qs s.1)
  where
    at : (b : Bool) → nat_lt p.popup.number q.popup.number ≡ b → AreSorted (by_number p qs) → AreSorted (cond b (p ∷ q ∷ qs) (q ∷ by_number p qs))
    at true e rest = (
      (
        not-below p.popup.number q.popup.number e,
        each-map (λ r. nat_lt r.popup.number q.popup.number ≡ false) (λ r. nat_lt r.popup.number p.popup.number ≡ false)
            (λ r f. not-below p.popup.number r.popup.number (below-all p.popup.number q.popup.number r.popup.number e f)) qs s.0,
      ),
      s,
    )
    at false e rest = (each-put (λ r. nat_lt r.popup.number q.popup.number ≡ false) p qs e s.0, rest)

module _ (k : Popped → Bool) where
  each-left : (P : Popped → Type 0) (ps : List Popped) → Each P ps → Each P (filter k ps)
  each-left P [] e = tt
  each-left P (p ∷ ps) e = at (k p) (each-left P ps e.1)
    where
      at : (b : Bool) → Each P (filter k ps) → Each P (cond b (p ∷ filter k ps) (filter k ps))
      at true rest = (e.0, rest)
      at false rest = rest

  first-put : (p : Popped) (ps : List Popped) → Each (λ q. nat_lt p.popup.number q.popup.number ≡ true) ps → by_number p ps ≡ p ∷ ps
  first-put p [] e = refl
  first-put p (q ∷ qs) e = ap (λ b. cond b (p ∷ q ∷ qs) (q ∷ by_number p qs)) e.0

  -- one that is left out
  put-out : (p : Popped) (ps : List Popped) → k p ≡ false → filter k (by_number p ps) ≡ filter k ps
  put-out p [] out = ap (λ b. cond b (p ∷ []) []) out
  put-out p (q ∷ qs) out = at (nat_lt p.popup.number q.popup.number) (put-out p qs out)
    where
      at : (b : Bool) → filter k (by_number p qs) ≡ filter k qs → filter k (cond b (p ∷ q ∷ qs) (q ∷ by_number p qs)) ≡ filter k (q ∷ qs)
      at true rest = ap (λ b. cond b (p ∷ filter k (q ∷ qs)) (filter k (q ∷ qs))) out
      at false rest = ap (λ rs. cond (k q) (q ∷ rs) rs) rest

  -- one that stays
  put-in : (p : Popped) (ps : List Popped) → AreSorted ps → k p ≡ true → filter k (by_number p ps) ≡ by_number p (filter k ps)
  put-in p [] s in_it = ap (λ b. cond b (p ∷ []) []) in_it
  put-in p (q ∷ qs) s in_it = at (nat_lt p.popup.number q.popup.number) refl (put-in p qs s.1 in_it)
    where
      at : (b : Bool) → nat_lt p.popup.number q.popup.number ≡ b → filter k (by_number p qs) ≡ by_number p (filter k qs)
          → filter k (cond b (p ∷ q ∷ qs) (q ∷ by_number p qs)) ≡ by_number p (filter k (q ∷ qs))
      at true e rest =
          ap (λ b. cond b (p ∷ filter k (q ∷ qs)) (filter k (q ∷ qs))) in_it
          ∙ sym
          (first-put p (filter k (q ∷ qs))
          (each-left (λ r. nat_lt p.popup.number r.popup.number ≡ true) (q ∷ qs) (
            e,
            each-map (λ r. nat_lt r.popup.number q.popup.number ≡ false) (λ r. nat_lt p.popup.number r.popup.number ≡ true)
                (λ r f. below-all p.popup.number q.popup.number r.popup.number e f) qs s.0,
          )))
      at false e rest = by (k q)
        where
          by : (b : Bool) → cond b (q ∷ filter k (by_number p qs)) (filter k (by_number p qs)) ≡ by_number p (cond b (q ∷ filter k qs) (filter k qs))
          by true = ap (λ rs. q ∷ rs) rest ∙ sym (ap (λ b. cond b (p ∷ q ∷ filter k qs) (q ∷ by_number p (filter k qs))) e)
          by false = rest

  ordered-left : (acc ps : List Popped) → AreSorted acc → filter k (fold (λ ps p. by_number p ps) acc ps) ≡ fold (λ ps p. by_number p ps) (filter k acc) (filter k ps)
  ordered-left acc [] s = refl
  ordered-left acc (p ∷ ps) s = ordered-left (by_number p acc) ps (sorted-put p acc s) ∙ at (k p) refl
    where
      at : (b : Bool) → k p ≡ b → fold (λ ps p. by_number p ps) (filter k (by_number p acc)) (filter k ps) ≡ fold (λ ps p. by_number p ps) (filter k acc) (cond b (p ∷ filter k ps) (filter k ps))
      at true e = ap (λ qs. fold (λ ps p. by_number p ps) qs (filter k ps)) (put-in p acc s e)
      at false e = ap (λ qs. fold (λ ps p. by_number p ps) qs (filter k ps)) (put-out p acc e)

  -- those left of all in order are all that are left, in order
  pub all-left : (ps : List Popped) → filter k (fold (λ ps p. by_number p ps) [] ps) ≡ fold (λ ps p. by_number p ps) [] (filter k ps)
  all-left ps = ordered-left [] ps tt

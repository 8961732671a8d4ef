-- What passes a test and stands in one run: what is left of it, what comes on top, and others in its place.
use Rattle.std.proofs.Common.{◌≡◌, List, [], ◌∷◌, ◌++◌, Bool, true, false, refl, ap, map}
use Rattle.std.proofs.lemmas.Bool.{not-true, not_from_false, or_from}
use Rattle.std.specs.Prelude.{cond, filter, not}
use Rattle.std.specs.List.{list_any}
use Rattle.wl_scene.specs.Stacked.{are_a_run, are_in_front, in_place}
use Rattle.wl_scene.proofs.Truth.{or-left, or-right}

-- ---- none

-- a list of which none passes
pub none-append : {X : Type 0} (p : X → Bool) (xs ys : List X) → list_any p xs ≡ false → list_any p ys ≡ false → list_any p (xs ++ ys) ≡ false
none-append p [] ys h k = k
none-append p (x ∷ xs) ys h k = or_from (p x) (list_any p (xs ++ ys)) (or-left (p x) (list_any p xs) h) (none-append p xs ys (or-right (p x) (list_any p xs) h) k)

pub none-filter : {X : Type 0} (p f : X → Bool) (xs : List X) → list_any p xs ≡ false → list_any p (filter f xs) ≡ false
none-filter p f [] h = refl
none-filter p f (x ∷ xs) h = at (f x) (or-left (p x) (list_any p xs) h) (none-filter p f xs (or-right (p x) (list_any p xs) h))
  where
    at : (b : Bool) → p x ≡ false → list_any p (filter f xs) ≡ false → list_any p (cond b (x ∷ filter f xs) (filter f xs)) ≡ false
    at true here rest = or_from (p x) (list_any p (filter f xs)) here rest
    at false here rest = rest

-- none passes of those that don't
pub none-without : {X : Type 0} (p : X → Bool) (xs : List X) → list_any p (filter (λ y. not (p y)) xs) ≡ false
none-without p [] = refl
none-without p (x ∷ xs) = at (p x) refl (none-without p xs)
  where
    at : (b : Bool) → p x ≡ b → list_any p (filter (λ y. not (p y)) xs) ≡ false
        → list_any p (cond (not b) (x ∷ filter (λ y. not (p y)) xs) (filter (λ y. not (p y)) xs)) ≡ false
    at true here rest = rest
    at false here rest = or_from (p x) (list_any p (filter (λ y. not (p y)) xs)) here rest

-- none passes of those that pass a test apart from it
pub none-among : {X : Type 0} (p q : X → Bool) (xs : List X) → ((x : X) → p x ≡ true → q x ≡ false) → list_any q (filter p xs) ≡ false
none-among p q [] apart = refl
none-among p q (x ∷ xs) apart = at (p x) refl (none-among p q xs apart)
  where
    at : (b : Bool) → p x ≡ b → list_any q (filter p xs) ≡ false → list_any q (cond b (x ∷ filter p xs) (filter p xs)) ≡ false
    at true here rest = or_from (q x) (list_any q (filter p xs)) (apart x here) rest
    at false here rest = rest

pub none-map : {X Y : Type 0} (p : Y → Bool) (f : X → Y) (xs : List X) → ((x : X) → p (f x) ≡ false) → list_any p (map f xs) ≡ false
none-map p f [] h = refl
none-map p f (x ∷ xs) h = or_from (p (f x)) (list_any p (map f xs)) (h x) (none-map p f xs h)

-- ---- in front

pub front-none : {X : Type 0} (p : X → Bool) (xs : List X) → list_any p xs ≡ false → are_in_front p xs ≡ true
front-none p [] h = refl
front-none p (x ∷ xs) h = rw (or-left (p x) (list_any p xs) h) (not_from_false (list_any p xs) (or-right (p x) (list_any p xs) h))

-- one more stands in front, or one that doesn't pass before others that don't
pub front-more : {X : Type 0} (p : X → Bool) (x : X) (xs : List X) → p x ≡ true → are_in_front p xs ≡ true → are_in_front p (x ∷ xs) ≡ true
front-more p x xs here h = rw here h

pub front-other : {X : Type 0} (p : X → Bool) (x : X) (xs : List X) → p x ≡ false → list_any p xs ≡ false → are_in_front p (x ∷ xs) ≡ true
front-other p x xs here h = rw here (not_from_false (list_any p xs) h)

pub front-rest : {X : Type 0} (p : X → Bool) (x : X) (xs : List X) → p x ≡ true → are_in_front p (x ∷ xs) ≡ true → are_in_front p xs ≡ true
front-rest p x xs here h = rw here at h

pub front-ends : {X : Type 0} (p : X → Bool) (x : X) (xs : List X) → p x ≡ false → are_in_front p (x ∷ xs) ≡ true → list_any p xs ≡ false
front-ends p x xs here h = not-true (list_any p xs) (rw here at h)

pub front-append : {X : Type 0} (p : X → Bool) (xs ys : List X) → are_in_front p xs ≡ true → list_any p ys ≡ false → are_in_front p (xs ++ ys) ≡ true
front-append p [] ys h k = front-none p ys k
front-append p (x ∷ xs) ys h k = at (p x) refl (front-append p xs ys)
  where
    at : (b : Bool) → p x ≡ b → (are_in_front p xs ≡ true → list_any p ys ≡ false → are_in_front p (xs ++ ys) ≡ true) → are_in_front p (x ∷ (xs ++ ys)) ≡ true
    at true here more = front-more p x (xs ++ ys) here (more (front-rest p x xs here h) k)
    at false here more = front-other p x (xs ++ ys) here (none-append p xs ys (front-ends p x xs here h) k)

pub front-filter : {X : Type 0} (p f : X → Bool) (xs : List X) → are_in_front p xs ≡ true → are_in_front p (filter f xs) ≡ true
front-filter p f [] h = refl
front-filter p f (x ∷ xs) h = at (p x) (f x) refl (front-filter p f xs)
  where
    at : (b c : Bool) → p x ≡ b → (are_in_front p xs ≡ true → are_in_front p (filter f xs) ≡ true)
        → are_in_front p (cond c (x ∷ filter f xs) (filter f xs)) ≡ true
    at true true here more = front-more p x (filter f xs) here (more (front-rest p x xs here h))
    at true false here more = more (front-rest p x xs here h)
    at false true here more = front-other p x (filter f xs) here (none-filter p f xs (front-ends p x xs here h))
    at false false here more = front-none p (filter f xs) (none-filter p f xs (front-ends p x xs here h))

-- all of these stand before others that don't pass
pub front-map : {X Y : Type 0} (p : Y → Bool) (f : X → Y) (xs : List X) (ys : List Y) → ((x : X) → p (f x) ≡ true) → list_any p ys ≡ false
    → are_in_front p (map f xs ++ ys) ≡ true
front-map p f [] ys h k = front-none p ys k
front-map p f (x ∷ xs) ys h k = front-more p (f x) (map f xs ++ ys) (h x) (front-map p f xs ys h k)

-- ---- a run

pub run-none : {X : Type 0} (p : X → Bool) (xs : List X) → list_any p xs ≡ false → are_a_run p xs ≡ true
run-none p [] h = refl
run-none p (x ∷ xs) h = rw (or-left (p x) (list_any p xs) h) (run-none p xs (or-right (p x) (list_any p xs) h))

pub run-begins : {X : Type 0} (p : X → Bool) (x : X) (xs : List X) → p x ≡ true → are_in_front p xs ≡ true → are_a_run p (x ∷ xs) ≡ true
run-begins p x xs here h = rw here h

pub run-later : {X : Type 0} (p : X → Bool) (x : X) (xs : List X) → p x ≡ false → are_a_run p xs ≡ true → are_a_run p (x ∷ xs) ≡ true
run-later p x xs here h = rw here h

pub run-begun : {X : Type 0} (p : X → Bool) (x : X) (xs : List X) → p x ≡ true → are_a_run p (x ∷ xs) ≡ true → are_in_front p xs ≡ true
run-begun p x xs here h = rw here at h

pub run-behind : {X : Type 0} (p : X → Bool) (x : X) (xs : List X) → p x ≡ false → are_a_run p (x ∷ xs) ≡ true → are_a_run p xs ≡ true
run-behind p x xs here h = rw here at h

pub run-front : {X : Type 0} (p : X → Bool) (xs : List X) → are_in_front p xs ≡ true → are_a_run p xs ≡ true
run-front p [] h = refl
run-front p (x ∷ xs) h = at (p x) refl
  where
    at : (b : Bool) → p x ≡ b → are_a_run p (x ∷ xs) ≡ true
    at true here = run-begins p x xs here (front-rest p x xs here h)
    at false here = run-later p x xs here (run-none p xs (front-ends p x xs here h))

-- others on top, or below
pub run-append : {X : Type 0} (p : X → Bool) (xs ys : List X) → are_a_run p xs ≡ true → list_any p ys ≡ false → are_a_run p (xs ++ ys) ≡ true
run-append p [] ys h k = run-none p ys k
run-append p (x ∷ xs) ys h k = at (p x) refl (run-append p xs ys)
  where
    at : (b : Bool) → p x ≡ b → (are_a_run p xs ≡ true → list_any p ys ≡ false → are_a_run p (xs ++ ys) ≡ true) → are_a_run p (x ∷ (xs ++ ys)) ≡ true
    at true here more = run-begins p x (xs ++ ys) here (front-append p xs ys (run-begun p x xs here h) k)
    at false here more = run-later p x (xs ++ ys) here (more (run-behind p x xs here h) k)

pub run-above : {X : Type 0} (p : X → Bool) (xs ys : List X) → list_any p xs ≡ false → are_a_run p ys ≡ true → are_a_run p (xs ++ ys) ≡ true
run-above p [] ys h k = k
run-above p (x ∷ xs) ys h k = run-later p x (xs ++ ys) (or-left (p x) (list_any p xs) h) (run-above p xs ys (or-right (p x) (list_any p xs) h) k)

pub run-filter : {X : Type 0} (p f : X → Bool) (xs : List X) → are_a_run p xs ≡ true → are_a_run p (filter f xs) ≡ true
run-filter p f [] h = refl
run-filter p f (x ∷ xs) h = at (p x) (f x) refl (run-filter p f xs)
  where
    at : (b c : Bool) → p x ≡ b → (are_a_run p xs ≡ true → are_a_run p (filter f xs) ≡ true)
        → are_a_run p (cond c (x ∷ filter f xs) (filter f xs)) ≡ true
    at true true here more = run-begins p x (filter f xs) here (front-filter p f xs (run-begun p x xs here h))
    at true false here more = run-front p (filter f xs) (front-filter p f xs (run-begun p x xs here h))
    at false true here more = run-later p x (filter f xs) here (more (run-behind p x xs here h))
    at false false here more = more (run-behind p x xs here h)

-- ---- others in their place

pub place-none : {X : Type 0} (p : X → Bool) (new xs : List X) → list_any p xs ≡ false → in_place p new xs ≡ xs
place-none p new [] h = refl
place-none p new (x ∷ xs) h = rw (or-left (p x) (list_any p xs) h) (ap (λ ys. x ∷ ys) (place-none p new xs (or-right (p x) (list_any p xs) h)))

pub place-here : {X : Type 0} (p : X → Bool) (new : List X) (x : X) (xs : List X) → p x ≡ true
    → in_place p new (x ∷ xs) ≡ new ++ filter (λ y. not (p y)) xs
place-here p new x xs here = rw here refl

pub place-later : {X : Type 0} (p : X → Bool) (new : List X) (x : X) (xs : List X) → p x ≡ false
    → in_place p new (x ∷ xs) ≡ x ∷ in_place p new xs
place-later p new x xs here = rw here refl

-- those that pass stand together again
pub run-placed : {X Y : Type 0} (p : Y → Bool) (f : X → Y) (new : List X) (xs : List Y) → ((x : X) → p (f x) ≡ true) → are_a_run p (in_place p (map f new) xs) ≡ true
run-placed p f new [] h = refl
run-placed p f new (x ∷ xs) h = at (p x) refl (run-placed p f new xs h)
  where
    at : (b : Bool) → p x ≡ b → are_a_run p (in_place p (map f new) xs) ≡ true → are_a_run p (in_place p (map f new) (x ∷ xs)) ≡ true
    at true here more =
        rw (place-here p (map f new) x xs here)
        (run-front p (map f new ++ filter (λ y. not (p y)) xs) (front-map p f new (filter (λ y. not (p y)) xs) h (none-without p xs)))
    at false here more = rw (place-later p (map f new) x xs here) (run-later p x (in_place p (map f new) xs) here more)

-- ---- and so do those of another test, of which none passes this one

none-placed : {X : Type 0} (p q : X → Bool) (new xs : List X) → list_any q new ≡ false → list_any q xs ≡ false → list_any q (in_place p new xs) ≡ false
none-placed p q new [] none h = refl
none-placed p q new (x ∷ xs) none h = at (p x) refl (none-placed p q new xs none (or-right (q x) (list_any q xs) h))
  where
    at : (b : Bool) → p x ≡ b → list_any q (in_place p new xs) ≡ false → list_any q (in_place p new (x ∷ xs)) ≡ false
    at true here more =
        rw (place-here p new x xs here)
        (none-append q new (filter (λ y. not (p y)) xs) none (none-filter q (λ y. not (p y)) xs (or-right (q x) (list_any q xs) h)))
    at false here more = rw (place-later p new x xs here) (or_from (q x) (list_any q (in_place p new xs)) (or-left (q x) (list_any q xs) h) more)

front-placed : {X : Type 0} (p q : X → Bool) (new xs : List X) → ((x : X) → p x ≡ true → q x ≡ false) → list_any q new ≡ false
    → are_in_front q xs ≡ true → are_in_front q (in_place p new xs) ≡ true
front-placed p q new [] apart none h = refl
front-placed p q new (x ∷ xs) apart none h = at (p x) (q x) refl refl (front-placed p q new xs apart none)
  where
    at : (b c : Bool) → p x ≡ b → q x ≡ c → (are_in_front q xs ≡ true → are_in_front q (in_place p new xs) ≡ true)
        → are_in_front q (in_place p new (x ∷ xs)) ≡ true
    at true c here there more =
        rw (place-here p new x xs here)
        (front-none q (new ++ filter (λ y. not (p y)) xs)
        (none-append q new (filter (λ y. not (p y)) xs) none (none-filter q (λ y. not (p y)) xs (front-ends q x xs (apart x here) h))))
    at false true here there more = rw (place-later p new x xs here) (front-more q x (in_place p new xs) there (more (front-rest q x xs there h)))
    at false false here there more =
        rw (place-later p new x xs here) (front-other q x (in_place p new xs) there (none-placed p q new xs none (front-ends q x xs there h)))

pub others-placed : {X : Type 0} (p q : X → Bool) (new xs : List X) → ((x : X) → p x ≡ true → q x ≡ false) → list_any q new ≡ false
    → are_a_run q xs ≡ true → are_a_run q (in_place p new xs) ≡ true
others-placed p q new [] apart none h = refl
others-placed p q new (x ∷ xs) apart none h = at (p x) (q x) refl refl (others-placed p q new xs apart none)
  where
    at : (b c : Bool) → p x ≡ b → q x ≡ c → (are_a_run q xs ≡ true → are_a_run q (in_place p new xs) ≡ true)
        → are_a_run q (in_place p new (x ∷ xs)) ≡ true
    at true c here there more =
        rw (place-here p new x xs here)
        (run-above q new (filter (λ y. not (p y)) xs) none (run-filter q (λ y. not (p y)) xs (run-behind q x xs (apart x here) h)))
    at false true here there more =
        rw (place-later p new x xs here) (run-begins q x (in_place p new xs) there (front-placed p q new xs apart none (run-begun q x xs there h)))
    at false false here there more =
        rw (place-later p new x xs here) (run-later q x (in_place p new xs) there (more (run-behind q x xs there h)))

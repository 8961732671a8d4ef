-- Of two lists of buffers the same stores go where those that pass have the same numbers.
use Rattle.std.proofs.Common.{◌≡◌, ℕ, List, ◌∷◌, ◌++◌, Bool, true, false, cond, refl, ap, sym, ◌∙◌, []}
use Rattle.std.proofs.lemmas.Bool.{eqb-true}
use Rattle.std.proofs.lemmas.List.Elements.{Contains-append_left, Contains-append_right}
use Rattle.std.specs.Prelude.{◌==◌, ◌||◌, not, filter}
use Rattle.std.specs.List.{Contains}
use Rattle.spec_desktop.specs.Peer.{released}
use Rattle.wl_store.specs.Stores.{Stock}
use Rattle.wl_surface.specs.Request.{Buffer}
use Rattle.spec_desktop.specs.Step.{each_once, without_buffer}
use Rattle.law_desktop.proofs.Marks.Stacks.{same-number}
use Rattle.law_desktop.proofs.Soundness.ObjectsCalls.{any-filtered}
use Rattle.law_desktop.proofs.KeptRecords.Keeping.Letting.{each-once}
use Rattle.law_desktop.specs.TreeBuffersLaws.{AreOne, IsByNumber, has_number, has_passing}
use Rattle.law_desktop.proofs.TreeBuffers.Lists.{each-in, first-in, later-in}
use Rattle.law_desktop.proofs.TreeBuffers.Orders.{going}
use Rattle.law_desktop.proofs.TreeBuffers.Stores.{commute}
use Rattle.law_desktop.proofs.Truth.{differ, or-left, or-right}
use Rattle.law_desktop.proofs.Lists.Each.{Each, each-left, each-map}
use Rattle.law_desktop.proofs.Lists.Left.{filter-swap}

-- ---- numbers

pub without-has : (k : ℕ) (bs : List Buffer) → has_number k (without_buffer k bs) ≡ false
without-has k [] = refl
without-has k (b ∷ bs) = at (b.number == k) refl (without-has k bs)
  where
    at : (c : Bool) → (b.number == k) ≡ c → has_number k (without_buffer k bs) ≡ false
        → has_number k (cond (not c) (b ∷ without_buffer k bs) (without_buffer k bs)) ≡ false
    at true e none = none
    at false e none = ap (λ c. c || has_number k (without_buffer k bs)) e ∙ none

pub without-other : (k n : ℕ) (bs : List Buffer) → (k == n) ≡ false → has_number n (without_buffer k bs) ≡ has_number n bs
without-other k n [] other = refl
without-other k n (b ∷ bs) other = at (b.number == k) refl (without-other k n bs other)
  where
    at : (c : Bool) → (b.number == k) ≡ c → has_number n (without_buffer k bs) ≡ has_number n bs
        → has_number n (cond (not c) (b ∷ without_buffer k bs) (without_buffer k bs)) ≡ ((b.number == n) || has_number n bs)
    at true e same = same ∙ ap (λ c. c || has_number n bs) (sym (ap (λ m. m == n) (eqb-true b.number k e) ∙ other))
    at false e same = ap (λ c. (b.number == n) || c) same

without-none : (k : ℕ) (bs : List Buffer) → has_number k bs ≡ false → without_buffer k bs ≡ bs
without-none k [] none = refl
without-none k (b ∷ bs) none =
    ap (λ c. cond (not c) (b ∷ without_buffer k bs) (without_buffer k bs)) (or-left (b.number == k) (has_number k bs) none)
    ∙ ap (λ cs. b ∷ cs) (without-none k bs (or-right (b.number == k) (has_number k bs) none))

filter-none : (q : Buffer → Bool) (n : ℕ) (bs : List Buffer) → has_number n bs ≡ false → has_number n (filter q bs) ≡ false
filter-none q n [] none = none
filter-none q n (b ∷ bs) none =
    at (q b) (or-left (b.number == n) (has_number n bs) none) (filter-none q n bs (or-right (b.number == n) (has_number n bs) none))
  where
    at : (c : Bool) → (b.number == n) ≡ false → has_number n (filter q bs) ≡ false
        → has_number n (cond c (b ∷ filter q bs) (filter q bs)) ≡ false
    at true e none = ap (λ c. c || has_number n (filter q bs)) e ∙ none
    at false e none = none

-- those of a number are there once just where they are
pub once-has : (n : ℕ) (bs : List Buffer) → has_number n (each_once bs) ≡ has_number n bs
once-has n [] = refl
once-has n (b ∷ bs) = at (b.number == n) refl (once-has n bs)
  where
    at : (c : Bool) → (b.number == n) ≡ c → has_number n (each_once bs) ≡ has_number n bs
        → (c || has_number n (without_buffer b.number (each_once bs))) ≡ (c || has_number n bs)
    at true e same = refl
    at false e same = without-other b.number n (each_once bs) e ∙ same

-- ---- no two of them have one number

abbrev pub Apart : List Buffer → Type 0
Apart [] = Unit {0}
Apart (b ∷ bs) = (has_number b.number bs ≡ false) × Apart bs

pub apart-left : (q : Buffer → Bool) (bs : List Buffer) → Apart bs → Apart (filter q bs)
apart-left q [] a = a
apart-left q (b ∷ bs) a = at (q b) (filter-none q b.number bs a.0) (apart-left q bs a.1)
  where
    at : (c : Bool) → has_number b.number (filter q bs) ≡ false → Apart (filter q bs) → Apart (cond c (b ∷ filter q bs) (filter q bs))
    at true none rest = (none, rest)
    at false none rest = rest

pub apart-once : (bs : List Buffer) → Apart (each_once bs)
apart-once [] = tt
apart-once (b ∷ bs) =
    (without-has b.number (each_once bs), apart-left (λ c. not (c.number == b.number)) (each_once bs) (apart-once bs))

-- ---- those that pass, each once

-- those of one number pass, or none
abbrev pub Alike : (Buffer → Bool) → List Buffer → Type 0
Alike p [] = Unit {0}
Alike p (b ∷ bs) = Each (λ c. b.number ≡ c.number → p c ≡ p b) bs × Alike p bs

none-pass : (p : Buffer → Bool) (k : ℕ) (bs : List Buffer) → Each (λ c. k ≡ c.number → p c ≡ false) bs → has_number k (filter p bs) ≡ false
none-pass p k [] fail = refl
none-pass p k (b ∷ bs) fail = at (p b) refl (b.number == k) refl (none-pass p k bs fail.1)
  where
    at : (c : Bool) → p b ≡ c → (d : Bool) → (b.number == k) ≡ d → has_number k (filter p bs) ≡ false
        → has_number k (cond c (b ∷ filter p bs) (filter p bs)) ≡ false
    at true e true f none = absurd (differ (sym (fail.0 (sym (eqb-true b.number k f))) ∙ e))
    at true e false f none = ap (λ c. c || has_number k (filter p bs)) f ∙ none
    at false e d f none = none

pub once-pass : (p : Buffer → Bool) (bs : List Buffer) → Alike p bs → filter p (each_once bs) ≡ each_once (filter p bs)
once-pass p [] a = refl
once-pass p (b ∷ bs) a = at (p b) refl (filter-swap p (λ c. not (c.number == b.number)) (each_once bs) ∙ ap (without_buffer b.number) (once-pass p bs a.1))
  where
    at : (c : Bool) → p b ≡ c → filter p (without_buffer b.number (each_once bs)) ≡ without_buffer b.number (each_once (filter p bs))
        → cond c (b ∷ filter p (without_buffer b.number (each_once bs))) (filter p (without_buffer b.number (each_once bs)))
        ≡ each_once (cond c (b ∷ filter p bs) (filter p bs))
    at true e same = ap (λ cs. b ∷ cs) same
    at false e same =
        same
        ∙ without-none b.number (each_once (filter p bs))
        (once-has b.number (filter p bs)
        ∙ none-pass p b.number bs
        (each-map (λ c. b.number ≡ c.number → p c ≡ p b) (λ c. b.number ≡ c.number → p c ≡ false) (λ c f one. f one ∙ e) bs a.0))

-- ---- the stores of those that are apart

abbrev SameStore : Buffer → Buffer → Type 0
SameStore b c = b.number ≡ c.number → b.store ≡ c.store

one-first : (u : Buffer) (vs : List Buffer) (s : Stock) → Apart vs → has_number u.number vs ≡ true → Each (SameStore u) vs
    → going s vs ≡ going (released u.store s) (without_buffer u.number vs)
one-first u [] s apart any same = absurd (cc)
one-first u (v ∷ vs) s apart any same = at (v.number == u.number) refl any (λ more. one-first u vs (released v.store s) apart.1 more same.1)
  where
    at : (c : Bool) → (v.number == u.number) ≡ c → (c || has_number u.number vs) ≡ true
        → (has_number u.number vs ≡ true → going (released v.store s) vs ≡ going (released u.store (released v.store s)) (without_buffer u.number vs))
        → going (released v.store s) vs
        ≡ going (released u.store s) (cond (not c) (v ∷ without_buffer u.number vs) (without_buffer u.number vs))
    at true e any later =
        let one : v.number ≡ u.number = eqb-true v.number u.number e in
        ap (λ n. going (released n s) vs) (sym (same.0 (sym one)))
        ∙ ap (going (released u.store s)) (sym (without-none u.number vs (ap (λ n. has_number n vs) (sym one) ∙ apart.0)))
    at false e any later =
        later any ∙ ap (λ stores. going stores (without_buffer u.number vs)) (commute u.store v.store s)

pub go-alike : (us vs : List Buffer) (s : Stock) → Apart us → Apart vs → ((n : ℕ) → has_number n us ≡ has_number n vs)
    → Each (λ u. Each (SameStore u) vs) us → going s us ≡ going s vs
go-alike [] [] s a b same one = refl
go-alike [] (v ∷ vs) s a b same one =
    absurd (differ (same v.number ∙ ap (λ c. c || has_number v.number vs) (same-number v.number)))
go-alike (u ∷ us) vs s a b same one =
    go-alike us (without_buffer u.number vs) (released u.store s) a.1 (apart-left others vs b) left
    (each-map (λ w. Each (SameStore w) vs) (λ w. Each (SameStore w) (without_buffer u.number vs)) (λ w all. each-left (SameStore w) others vs all) us one.1)
    ∙ sym (one-first u vs s b there one.0)
  where
    others : Buffer → Bool
    others c = not (c.number == u.number)

    there : has_number u.number vs ≡ true
    there = sym (same u.number) ∙ ap (λ c. c || has_number u.number us) (same-number u.number)

    left : (n : ℕ) → has_number n us ≡ has_number n (without_buffer u.number vs)
    left n = at (u.number == n) refl
      where
        at : (c : Bool) → (u.number == n) ≡ c → has_number n us ≡ has_number n (without_buffer u.number vs)
        at true e =
            let here : u.number ≡ n = eqb-true u.number n e in
            ap (λ m. has_number m us) (sym here) ∙ a.0 ∙ sym (without-has u.number vs)
            ∙ ap (λ m. has_number m (without_buffer u.number vs)) here
        at false e =
            ap (λ c. c || has_number n us) (sym e) ∙ same n ∙ sym (without-other u.number n vs e)

-- ---- the law

pub alike-of : (p : Buffer → Bool) (bs : List Buffer) → IsByNumber p → AreOne bs → Alike p bs
alike-of p [] by one = tt
alike-of p (b ∷ bs) by one = (
  each-in (λ c. b.number ≡ c.number → p c ≡ p b) bs
      (λ c within e. sym (by b c e (one b c (first-in b bs) (later-in b bs c within) e).1)),
  alike-of p bs by (λ c d in_c in_d e. one c d (later-in b bs c in_c) (later-in b bs d in_d) e),
)

pub lets-alike : (p : Buffer → Bool) (xs ys : List Buffer) (s : Stock) → IsByNumber p → AreOne (xs ++ ys)
    → ((n : ℕ) → has_passing p n xs ≡ has_passing p n ys) → going s (filter p (each_once xs)) ≡ going s (filter p (each_once ys))
lets-alike p xs ys s by one same =
    ap (going s) (once-pass p xs (alike-of p xs by (λ b c in_b in_c e. one b c (in-left b in_b) (in-left c in_c) e)))
    ∙ go-alike (each_once (filter p xs)) (each_once (filter p ys)) s (apart-once (filter p xs)) (apart-once (filter p ys)) has-same stores
    ∙ sym (ap (going s) (once-pass p ys (alike-of p ys by (λ b c in_b in_c e. one b c (in-right b in_b) (in-right c in_c) e))))
  where
    in-left : (b : Buffer) → Contains xs b → Contains (xs ++ ys) b
    in-left b within = Contains-append_left xs ys b within

    in-right : (b : Buffer) → Contains ys b → Contains (xs ++ ys) b
    in-right b within = Contains-append_right xs ys b within

    has-same : (n : ℕ) → has_number n (each_once (filter p xs)) ≡ has_number n (each_once (filter p ys))
    has-same n =
        once-has n (filter p xs) ∙ any-filtered (λ (b : Buffer). b.number == n) p xs ∙ same n
        ∙ sym (any-filtered (λ (b : Buffer). b.number == n) p ys) ∙ sym (once-has n (filter p ys))

    stores : Each (λ u. Each (SameStore u) (each_once (filter p ys))) (each_once (filter p xs))
    stores =
        each-once (λ u. Each (SameStore u) (each_once (filter p ys))) (filter p xs)
        (each-left (λ u. Each (SameStore u) (each_once (filter p ys))) p xs
        (each-in (λ u. Each (SameStore u) (each_once (filter p ys))) xs
        (λ u in_u. each-once (SameStore u) (filter p ys)
        (each-left (SameStore u) p ys
        (each-in (SameStore u) ys (λ v in_v e. (one u v (in-left u in_u) (in-right v in_v) e).0))))))

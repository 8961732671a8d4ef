-- Ends of earlier clients and a change of a later one may come in either order.
use Rattle.std.proofs.Common.{◌≡◌, ◌≢◌, ℕ, zero, suc, ◌<◌, List, ◌∷◌, ◌++◌, Bool, true, false, Option, Some, None, cond, refl, ap, subst, sym, ◌∙◌, arith, ltb-true, []}
use Rattle.std.specs.Prelude.{◌==◌, ◌||◌, nat_lt}
use Rattle.std.proofs.lemmas.Bool.{eqb-true}
use Rattle.spec_desktop.specs.declared.cause.Cause.{Cause}
use Rattle.spec_desktop.specs.Peer.{ended}
use Rattle.spec_desktop.specs.Stacking.{without_client}
use Rattle.spec_desktop.specs.Desktop.{Desktop, Resident, client_at, resident_of, with_client, with_number, with_place}
use Rattle.spec_desktop.specs.Settling.{Strike, ended_all, ended_at, ended_by, in_order, is_struck, pointer_without, struck_by}
use Rattle.law_desktop.proofs.Runs.Forms.{after_why}
use Rattle.law_desktop.proofs.Runs.Places.{number-other}

-- all that are to end have lower numbers
abbrev pub AllBefore : ℕ → List Strike → Type 0
AllBefore c [] = Unit {0}
AllBefore c (s ∷ ss) = (s.client < c) × AllBefore c ss

apart : (m n : ℕ) → m < n → m ≢ n
apart m n less e = omega (arith, less, e)

-- ---- two clients

place-apart : (k c : ℕ) (x y : Option Resident) (rs : List (Option Resident)) → k ≢ c → with_place k x (with_place c y rs) ≡ with_place c y (with_place k x rs)
place-apart k c x y [] differ = refl
place-apart zero zero x y (r ∷ rs) differ = absurd (differ refl)
place-apart zero (suc c) x y (r ∷ rs) differ = refl
place-apart (suc k) zero x y (r ∷ rs) differ = refl
place-apart (suc k) (suc c) x y (r ∷ rs) differ = ap (λ ts. r ∷ ts) (place-apart k c x y rs (λ e. differ (ap (λ (n : ℕ). suc n) e)))

number-apart : (k c : ℕ) (x y : Option Resident) (rs : List (Option Resident)) → k ≢ c → with_number k x (with_number c y rs) ≡ with_number c y (with_number k x rs)
number-apart zero c x y rs differ = refl
number-apart (suc k) zero x y rs differ = refl
number-apart (suc k) (suc c) x y rs differ = place-apart k c x y rs (λ e. differ (ap (λ (n : ℕ). suc n) e))

-- ---- an end, and a change of another client

end-put : (k c : ℕ) (cause : Cause) (o x : Option Resident) (d : Desktop) → k ≢ c → ended_at k cause o (with_client c x d) ≡ with_client c x (ended_at k cause o d)
end-put k c cause None x d differ = refl
end-put k c cause (Some r) x d differ =
    ap (λ rs. record d { clients = rs; standing = without_client k d.standing; pointer = pointer_without k d.pointer }) (number-apart k c (Some (resident_of (ended cause r.peer))) x d.clients differ)

ended-put : (s : Strike) (c : ℕ) (x : Option Resident) (d : Desktop) → s.client ≢ c → ended_by s (with_client c x d) ≡ with_client c x (ended_by s d)
ended-put s c x d differ =
    ap (λ o. ended_at s.client s.cause o (with_client c x d)) (number-other d.clients c s.client x (λ e. differ (sym e))) ∙ end-put s.client c s.cause (client_at s.client d) x d differ

pub all-put : (c : ℕ) (x : Option Resident) (ss : List Strike) (d : Desktop) → AllBefore c ss → ended_all ss (with_client c x d) ≡ with_client c x (ended_all ss d)
all-put c x [] d before = refl
all-put c x (s ∷ ss) d before = ap (λ e. ended_all ss e) (ended-put s c x d (apart s.client c before.0)) ∙ all-put c x ss (ended_by s d) before.1

end-there : (k c : ℕ) (cause : Cause) (o : Option Resident) (d : Desktop) → k ≢ c → client_at c (ended_at k cause o d) ≡ client_at c d
end-there k c cause None d differ = refl
end-there k c cause (Some r) d differ = number-other d.clients k c (Some (resident_of (ended cause r.peer))) differ

pub all-there : (c : ℕ) (ss : List Strike) (d : Desktop) → AllBefore c ss → client_at c (ended_all ss d) ≡ client_at c d
all-there c [] d before = refl
all-there c (s ∷ ss) d before = all-there c ss (ended_by s d) before.1 ∙ end-there s.client c s.cause (client_at s.client d) d (apart s.client c before.0)

-- ---- the order of ends

never : (m n : ℕ) → m < n → (m == n) ≡ false
never m n less = at (m == n) refl
  where
    at : (b : Bool) → (m == n) ≡ b → b ≡ false
    at true e = absurd (apart m n less (eqb-true m n e))
    at false e = refl

pub all-unstruck : (c : ℕ) (ss : List Strike) → AllBefore c ss → is_struck c ss ≡ false
all-unstruck c [] before = refl
all-unstruck c (s ∷ ss) before = ap (λ b. b || is_struck c ss) (never s.client c before.0) ∙ all-unstruck c ss before.1

not-before : (m n : ℕ) → n < m → nat_lt m n ≡ false
not-before m n less = at (nat_lt m n) refl
  where
    at : (b : Bool) → nat_lt m n ≡ b → b ≡ false
    at true e = let more = ltb-true m n e in absurd (omega (arith, less, more))
    at false e = refl

order-last : (s : Strike) (ss : List Strike) → AllBefore s.client ss → in_order s ss ≡ ss ++ s ∷ []
order-last s [] before = refl
order-last s (t ∷ ts) before =
    ap (λ b. cond b (s ∷ t ∷ ts) (t ∷ in_order s ts)) (not-before s.client t.client before.0) ∙ ap (λ us. t ∷ us) (order-last s ts before.1)

ended-last : (s : Strike) (ss : List Strike) (d : Desktop) → ended_all (ss ++ s ∷ []) d ≡ ended_by s (ended_all ss d)
ended-last s [] d = refl
ended-last s (t ∷ ts) d = ended-last s ts (ended_by t d)

all-later : (c : ℕ) (ss : List Strike) → AllBefore c ss → AllBefore (suc c) ss
all-later c [] before = tt
all-later c (s ∷ ss) before = (omega (arith, before.0), all-later c ss before.1)

all-last : (c : ℕ) (s : Strike) (ss : List Strike) → s.client < suc c → AllBefore c ss → AllBefore (suc c) (ss ++ s ∷ [])
all-last c s [] here before = (here, tt)
all-last c s (t ∷ ts) here before = (omega (arith, before.0), all-last c s ts here before.1)

pub struck-before : (c : ℕ) (why : Option Cause) (ss : List Strike) → AllBefore c ss → AllBefore (suc c) (struck_by c why ss)
struck-before c None ss before = all-later c ss before
struck-before c (Some cause) ss before =
    let s : Strike = record { client = c; cause = cause } in
    subst (λ us. AllBefore (suc c) us) (sym (order-last s ss before)) (all-last c s ss (omega arith) before)

-- a client is changed, and ends after the others that are to
pub put-and-end : (c : ℕ) (why : Option Cause) (x : Option Resident) (ss : List Strike) (d : Desktop) → AllBefore c ss
    → ended_all (struck_by c why ss) (with_client c x d) ≡ after_why why c (with_client c x (ended_all ss d))
put-and-end c None x ss d before = all-put c x ss d before
put-and-end c (Some cause) x ss d before =
    let s : Strike = record { client = c; cause = cause } in
    ap (λ us. ended_all us (with_client c x d)) (order-last s ss before) ∙ ended-last s ss (with_client c x d) ∙ ap (λ e. ended_by s e) (all-put c x ss d before)

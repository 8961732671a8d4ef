-- What a change of one client leaves to the others.
use Rattle.std.proofs.Common.{◌≡◌, ◌≢◌, ℕ, List, ◌∷◌, Bool, true, false, Option, Some, None, refl, ap, sym, ◌∙◌, []}
use Rattle.std.specs.Prelude.{◌==◌, ◌&&◌, not, cond, filter}
use Rattle.std.proofs.lemmas.Bool.{eqb-true}
use Rattle.spec_desktop.specs.declared.cause.Cause.{Cause}
use Rattle.spec_desktop.specs.Peer.{Peer}
use Rattle.spec_desktop.specs.Stacking.{Standing, is_of, with_mapped}
use Rattle.spec_desktop.specs.Desktop.{Desktop, Resident, become, become_by, client_at, toplevels_of}
use Rattle.law_desktop.proofs.Runs.Places.{other-become}

abbrev of : ℕ → List Standing → List Standing
of c standing = filter (λ s. s.client == c) standing

-- what is another client's isn't this one's
apart : (a c other : ℕ) → c ≢ other → (a == other) ≡ true → (a == c) ≡ false
apart a c other differ h = at (a == c) refl
  where
    at : (b : Bool) → (a == c) ≡ b → (a == c) ≡ false
    at false e = e
    at true e = absurd (differ (sym (eqb-true a c e) ∙ eqb-true a other h))

left_out-at : (b o : Bool) (s : Standing) (xs ys : List Standing) (other : ℕ) → (s.client == other) ≡ o → (o ≡ true → b ≡ true) → of other xs ≡ of other ys
    → of other (cond b (s ∷ xs) xs) ≡ cond o (s ∷ of other ys) (of other ys)
left_out-at true true s xs ys other f keeps e = rw f (ap (λ (zs : List Standing). s ∷ zs) e)
left_out-at true false s xs ys other f keeps e = rw f e
left_out-at false false s xs ys other f keeps e = e
left_out-at false true s xs ys other f keeps e = let k = keeps refl in absurd (cc)

-- to leave out what isn't another client's leaves that client's as it is
pub left_out : (test : Standing → Bool) (other : ℕ) → ((s : Standing) → (s.client == other) ≡ true → test s ≡ true) → (standing : List Standing) → of other (filter test standing) ≡ of other standing
left_out test other keeps [] = refl
left_out test other keeps (s ∷ ss) = left_out-at (test s) (s.client == other) s (filter test ss) ss other refl (keeps s) (left_out test other keeps ss)

pub one_client : (c other : ℕ) → c ≢ other → (s : Standing) → (s.client == other) ≡ true → not (s.client == c) ≡ true
one_client c other differ s h = ap (λ (b : Bool). not b) (apart s.client c other differ h)

pub one_surface : (c other surface : ℕ) → c ≢ other → (s : Standing) → (s.client == other) ≡ true → not (is_of c surface s) ≡ true
one_surface c other surface differ s h = ap (λ (b : Bool). not (b && (s.surface == surface))) (apart s.client c other differ h)

pub on_top : (mappings c surface other : ℕ) → c ≢ other → (standing : List Standing) → of other (with_mapped mappings c surface standing) ≡ of other standing
on_top mappings c surface other differ [] =
    let e : (c == other) ≡ false = nowhere in rw e refl
  where
    nowhere : (c == other) ≡ false
    nowhere = at (c == other) refl
      where
        at : (b : Bool) → (c == other) ≡ b → (c == other) ≡ false
        at false e = e
        at true e = absurd (differ (eqb-true c other e))
on_top mappings c surface other differ (s ∷ ss) =
    ap (λ (xs : List Standing). cond (s.client == other) (s ∷ xs) xs) (on_top mappings c surface other differ ss)

become-others-by : (s : Option Cause) (c other : ℕ) (r : Resident) (q : Peer) (d : Desktop) → c ≢ other → toplevels_of other (become_by s c r q d) ≡ toplevels_of other d
become-others-by None c other r q d differ = refl
become-others-by (Some cause) c other r q d differ = left_out (λ s. not (s.client == c)) other (one_client c other differ) d.standing

-- a client is as it was, and so are its toplevels
abbrev pub IsLeft : ℕ → Desktop → Desktop → Type 0
IsLeft other old new = (client_at other new ≡ client_at other old) × (toplevels_of other new ≡ toplevels_of other old)

pub left-then : (other : ℕ) (old mid new : Desktop) → IsLeft other old mid → IsLeft other mid new → IsLeft other old new
left-then other old mid new h k = (k.0 ∙ h.0, k.1 ∙ h.1)

pub become-left : (c other : ℕ) (r : Resident) (q : Peer) (d : Desktop) → c ≢ other → IsLeft other d (become c r q d)
become-left c other r q d differ = (other-become c other r q d differ, become-others-by q.status c other r q d differ)

pub same-left : (other : ℕ) (d new : Desktop) → new ≡ d → IsLeft other d new
same-left other d new e = (ap (λ (x : Desktop). client_at other x) e, ap (λ (x : Desktop). toplevels_of other x) e)

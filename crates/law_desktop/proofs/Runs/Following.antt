-- After a step's own change, ends and settlings follow: they keep the output, and leave each client what it owns, or nothing.
use Rattle.std.proofs.Common.{◌≡◌, ◌≢◌, ℕ, zero, suc, List, [], ◌∷◌, ◌++◌, Bool, true, false, Option, Some, None, refl, ap, subst, sym, ◌∙◌, inl, inr}
use Rattle.std.specs.Prelude.{◌⊎◌}
use Rattle.spec_desktop.specs.declared.cause.Cause.{Cause}
use Rattle.spec_desktop.specs.Peer.{ended}
use Rattle.spec_desktop.specs.Told.{Said}
use Rattle.spec_desktop.specs.Pointer.{Target}
use Rattle.spec_desktop.specs.PointerActions.{Leave, Enter}
use Rattle.spec_desktop.specs.Stacking.{nothing_owned}
use Rattle.spec_desktop.specs.Windows.{Window}
use Rattle.spec_desktop.specs.Changing.{drawing}
use Rattle.spec_desktop.specs.Desktop.{Desktop, Resident, client_at, owned_in, owned_of, resident_of, with_client}
use Rattle.spec_desktop.specs.Settling.{Applies, Midstep, Settles, Strike, Tells, TellsAt, TellsUnless, ended_all, ended_at, ended_by, unstruck, with_focus}
use Rattle.spec_desktop.specs.Through.{EndsFirstThrough, SettlesAllThrough, ending_through, ends_through, settling_through}
use Rattle.law_desktop.proofs.Runs.Places.{number-other, number-same}
use Rattle.law_desktop.proofs.Runs.Fates.{same-or}
use Rattle.law_desktop.proofs.Runs.Focus.{settles-keeps}
use Rattle.law_desktop.proofs.Runs.Output.{ended-same, settles-still}

-- a client owns what it owned, or nothing any more
abbrev pub Owns : ℕ → Desktop → Desktop → Type 0
Owns c old new = (owned_in new c ≡ owned_in old c) ⊎ (owned_in new c ≡ nothing_owned)

-- what each client owns where one is changed
put-owned : (c k : ℕ) (r : Resident) (x : Resident) (d : Desktop) → client_at c d ≡ Some r → x.owned ≡ r.owned → owned_in (with_client c (Some x) d) k ≡ owned_in d k
put-owned c k r x d there same = at (same-or c k)
  where
    own : owned_in (with_client c (Some x) d) c ≡ owned_in d c
    own = ap owned_of (number-same d.clients c (Some x) r there) ∙ same ∙ sym (ap owned_of there)

    at : (c ≡ k) ⊎ (c ≢ k) → owned_in (with_client c (Some x) d) k ≡ owned_in d k
    at (inl e) = subst (λ (n : ℕ). owned_in (with_client c (Some x) d) n ≡ owned_in d n) e own
    at (inr differ) = ap owned_of (number-other d.clients c k (Some x) differ)

-- ---- the settling of the focus

pub drawing-owned : (b : Bool) (r : Resident) → (drawing b r).owned ≡ r.owned
drawing-owned true r = refl
drawing-owned false r = refl

-- each client owns after it what it owned before
abbrev AllOwn : Midstep → Midstep → Type 0
AllOwn old new = (k : ℕ) → owned_in new.desktop k ≡ owned_in old.desktop k

same-own : (old new : Midstep) → new ≡ old → AllOwn old new
same-own old new e k = ap (λ (m : Midstep). owned_in m.desktop k) e

tells-owned : (change : Resident → Resident) (events : Resident → List Said) → ((r : Resident) → (change r).owned ≡ r.owned) → (c : ℕ) (old new : Midstep) → Tells change events c old new
    → AllOwn old new
tells-owned change events same c old new h = at (client_at c old.desktop) refl h
  where
    unless : (b : Bool) (r : Resident) → client_at c old.desktop ≡ Some r → TellsUnless b change events c r old new → AllOwn old new
    unless true r there h = same-own old new h
    unless false r there h = λ k. ap (λ (m : Midstep). owned_in m.desktop k) h.3 ∙ put-owned c k r (record (change r) { peer = h.0 }) old.desktop there (same r)

    at : (o : Option Resident) → client_at c old.desktop ≡ o → TellsAt change events c o old new → AllOwn old new
    at None there h = same-own old new h
    at (Some r) there h = unless _ r there h

settles-owned : (old new : Midstep) → Settles old new → AllOwn old new
settles-owned old new h = settles-keeps (λ m. AllOwn old m) left entered old new (λ k. refl) h
  where
    told : (focus : Option Target) (m mid n : Midstep) → n ≡ with_focus focus mid → AllOwn m mid → AllOwn old m → AllOwn old n
    told focus m mid n e step known k = ap (λ (m : Midstep). owned_in m.desktop k) e ∙ step k ∙ known k

    left : (windows : List Window) (t : Target) (m n : Midstep) → AllOwn old m → Applies windows (Leave t) m n → AllOwn old n
    left windows t m n known h = told None m h.0 n h.2 (tells-owned _ _ (λ r. drawing-owned _ r) t.client m h.0 h.1) known

    entered : (windows : List Window) (t : Target) (m n : Midstep) → AllOwn old m → Applies windows (Enter t) m n → AllOwn old n
    entered windows t m n known h = told (Some t) m h.0 n h.2 (tells-owned _ _ (λ r. drawing-owned _ r) t.client m h.0 h.1) known

-- ---- ends

ended-owns : (c : ℕ) (cause : Cause) (o : Option Resident) (d : Desktop) (k : ℕ) → client_at c d ≡ o → Owns k d (ended_at c cause o d)
ended-owns c cause None d k there = inl refl
ended-owns c cause (Some r) d k there = at (same-or c k)
  where
    own : owned_in (ended_at c cause (Some r) d) c ≡ nothing_owned
    own = ap owned_of (number-same d.clients c (Some (resident_of (ended cause r.peer))) r there)

    at : (c ≡ k) ⊎ (c ≢ k) → Owns k d (ended_at c cause (Some r) d)
    at (inl e) = inr (subst (λ (n : ℕ). owned_in (ended_at c cause (Some r) d) n ≡ nothing_owned) e own)
    at (inr differ) = inl (ap owned_of (number-other d.clients c k (Some (resident_of (ended cause r.peer))) differ))

-- ---- the desktops on the way

-- from one desktop through these to the last the output stays, and each client owns what it owned, or nothing
abbrev pub Along : Desktop → List Desktop → Desktop → Type 0
Along d [] new = new ≡ d
Along d (e ∷ es) new = (e.output ≡ d.output) × ((c : ℕ) → Owns c d e) × Along e es new

along-ends : (ss : List Strike) (d : Desktop) (later : List Desktop) (new : Desktop) → Along (ended_all ss d) later new → Along d (ends_through ss d ++ later) new
along-ends [] d later new k = k
along-ends (s ∷ ss) d later new k = (
  ended-same s.client s.cause (client_at s.client d) d,
  λ c. ended-owns s.client s.cause (client_at s.client d) d c refl,
  along-ends ss (ended_by s d) later new k,
)

along-first : (Next : Midstep → List Desktop → Desktop → Type 0) → ((m : Midstep) (path : List Desktop) (new : Desktop) → Next m path new → Along m.desktop path new)
    → (ss : List Strike) (d : Desktop) (path : List Desktop) (new : Desktop) → EndsFirstThrough Next ss d path new → Along d path new
along-first Next next [] d path new h = subst (λ (p : List Desktop). Along d p new) (sym h.0) h.1
along-first Next next (s ∷ ss) d path new h =
    let it : Along d (ended_by s d ∷ h.0) new = (
      ended-same s.client s.cause (client_at s.client d) d,
      λ c. ended-owns s.client s.cause (client_at s.client d) d c refl,
      next (record { desktop = ended_by s d; struck = ss }) h.0 new h.2,
    ) in
    subst (λ (p : List Desktop). Along d p new) (sym h.1) it

along-settles : (n : ℕ) (old : Midstep) (path : List Desktop) (new : Desktop) → SettlesAllThrough n old path new → Along old.desktop path new
along-settles zero old path new h = subst (λ (p : List Desktop). Along old.desktop p new) (sym h.0) h.1
along-settles (suc n) old path new h =
    let it : Along old.desktop (h.0.desktop ∷ h.2) new = (
      settles-still old h.0 h.1,
      λ c. inl (settles-owned old h.0 h.1 c),
      along-first (SettlesAllThrough n) (along-settles n) h.0.struck h.0.desktop h.2 new h.4,
    ) in
    subst (λ (p : List Desktop). Along old.desktop p new) (sym h.3) it

-- These lead from a first one on to the last.
abbrev pub Follow : List Desktop → Desktop → Type 0
Follow path new = (first : Desktop) × (later : List Desktop) × (path ≡ first ∷ later) × Along first later new

pub settling-follows : (path : List Desktop) (new : Desktop) (mid : Midstep) → settling_through path new mid → Follow path new
settling-follows path new mid h = (
  mid.desktop,
  ends_through mid.struck mid.desktop ++ h.0,
  h.1,
  along-ends mid.struck mid.desktop h.0 new (along-settles 33 (unstruck (ended_all mid.struck mid.desktop)) h.0 new h.2),
)

pub ending-follows : (path : List Desktop) (new : Desktop) (mid : Midstep) → ending_through path new mid → Follow path new
ending-follows path new mid h = (mid.desktop, h.0, h.1, along-first (SettlesAllThrough 32) (along-settles 32) mid.struck mid.desktop h.0 new h.2)

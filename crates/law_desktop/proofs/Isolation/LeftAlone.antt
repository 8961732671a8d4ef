-- A step of one client leaves every other alone, where every request is served.
use Rattle.std.proofs.Common.{◌≡◌, ◌≢◌, ℕ, ◌+◌, List, Option, Some, None, refl, ap, sym, ◌∙◌, inl, inr}
use Rattle.std.proofs.lemmas.Option.{same_Some}
use Rattle.spec_desktop.specs.declared.cause.Cause.{Cause}
use Rattle.spec_desktop.specs.Peer.{ended}
use Rattle.spec_desktop.specs.Stacking.{Standing}
use Rattle.spec_desktop.specs.declared.answers.Done.{Done}
use Rattle.spec_desktop.specs.Desktop.{Desktop, Resident, arrival, client_at, resident_of, with_client, toplevels_of}
use Rattle.spec_desktop.specs.Act.{Connect, Feed, Store, Leave, Send, Close, lowest}
use Rattle.law_desktop.proofs.Runs.Forms.{ConnectsAt}
use Rattle.law_desktop.specs.Others.{HasEndedUntold, IsLeftAlone, IsLeftBy, IsLeftLiving, IsLeftSo, IsNotQueued, IsToldOfFocus, OthersAreLeftAlone, client_of}
use Rattle.law_desktop.proofs.Isolation.Others.{IsLeft, left-then, same-left}
use Rattle.law_desktop.proofs.Isolation.Messages.{changes-in, fed-in, leaves-in, with-left}
use Rattle.law_desktop.proofs.Isolation.Settling.{Stays}
use Rattle.law_desktop.proofs.Isolation.Told.{ToldSo, told-none, told-then}

-- ---- what stays of a client

-- nothing ends it
abbrev pub Never : Resident → Cause → Type 0
Never r cause = ⊥

-- where there is none, and where it ended before
abbrev pub Is : Option Resident → List Standing → Option Resident → List Standing → Type 0
Is o before now after = (now ≡ o) × (after ≡ before)

none-stays : (before : List Standing) → Stays ToldSo (Is None before) Never
none-stays before = record {
  told = λ r q tops why alive known so. absurd (not_none r known.0);
  untold = λ r q tops cause alive known so. not_none r known.0;
  ends = λ r tops cause known gone. absurd gone;
  again = λ r cause other gone gone_too. gone;
}
  where
    not_none : (r : Resident) → Some r ≡ None → ⊥
    not_none r e = absurd (cc)

pub gone-stays : (r : Resident) (cause : Cause) (before : List Standing) → r.peer.status ≡ Some cause → Stays ToldSo (Is (Some r) before) Never
gone-stays r cause before is_over = record {
  told = λ p q tops why alive known so. absurd (alive_too p alive known.0);
  untold = λ p q tops cause alive known so. alive_too p alive known.0;
  ends = λ p tops cause known gone. absurd gone;
  again = λ p cause other gone gone_too. gone;
}
  where
    alive_too : (p : Resident) → p.peer.status ≡ None → Some p ≡ Some r → ⊥
    alive_too p alive same =
        let one : p ≡ r = same_Some p r same in
        let e : p.peer.status ≡ Some cause = ap (λ (x : Resident). x.peer.status) one ∙ is_over in
        absurd (cc)

-- what is known of a client that is to end since it wasn't told
abbrev Untold : Resident → Resident → Cause → Type 0
Untold r q cause =
    (told : Resident) × IsToldOfFocus r told × IsNotQueued cause told × ((other : Cause) → resident_of (ended other q.peer) ≡ resident_of (ended other told.peer))

living-stays : (r : Resident) (before : List Standing) → Stays ToldSo (IsLeftLiving r before) (Untold r)
living-stays r before = record {
  told = told;
  untold = untold;
  ends = λ p tops cause known why. inr ((why.0, cause, why.1, why.2, why.3 cause), refl);
  again = λ p cause other why why_too. (why_too.0, why_too.1, why_too.2, λ x. why_too.3 x);
}
  where
    over : (p : Resident) → p.peer.status ≡ None → HasEndedUntold r p → ⊥
    over p alive h =
        let e : p.peer.status ≡ Some h.1 = ap (λ (x : Resident). x.peer.status) h.4 in
        absurd (cc)

    told : (p q : Resident) (tops : List Standing) (why : Option Cause) → p.peer.status ≡ None → IsLeftLiving r before (Some p) tops → ToldSo p q why → IsLeftLiving r before (Some q) tops
    told p q tops why alive (inl known) so = inl (told-then r p q known.0 so.0, known.1)
    told p q tops why alive (inr known) so = absurd (over p alive known.0)

    untold : (p q : Resident) (tops : List Standing) (cause : Cause) → p.peer.status ≡ None → IsLeftLiving r before (Some p) tops → ToldSo p q (Some cause) → Untold r q cause
    untold p q tops cause alive (inl known) so = (q, told-then r p q known.0 so.0, so.1, λ other. refl)
    untold p q tops cause alive (inr known) so = absurd (over p alive known.0)

-- what leaves to a client whatever stays of it leaves it alone
pub left_alone : (other : ℕ) (old new : Desktop) → ((A : Option Resident → List Standing → Type 0) (P : Resident → Cause → Type 0) → Stays ToldSo A P → A (client_at other old) (toplevels_of other old)
    → A (client_at other new) (toplevels_of other new)) → IsLeftAlone other old new
left_alone other old new carry = at (client_at other old) refl
  where
    by : (r : Resident) → client_at other old ≡ Some r → (s : Option Cause) → r.peer.status ≡ s → IsLeftBy s r (toplevels_of other old) (client_at other new) (toplevels_of other new)
    by r there (Some cause) e = carry (Is (Some r) (toplevels_of other old)) Never (gone-stays r cause (toplevels_of other old) e) (there, refl)
    by r there None e =
        let begins : IsLeftLiving r (toplevels_of other old) (Some r) (toplevels_of other old) = inl (told-none r, refl) in
        carry (IsLeftLiving r (toplevels_of other old)) (Untold r) (living-stays r (toplevels_of other old)) (rw there begins)

    at : (o : Option Resident) → client_at other old ≡ o → IsLeftSo o (toplevels_of other old) (client_at other new) (toplevels_of other new)
    at None there = carry (Is None (toplevels_of other old)) Never (none-stays (toplevels_of other old)) (there, refl)
    at (Some r) there = by r there r.peer.status refl

-- ---- a client connects

connects : (c other : ℕ) (k : Option ℕ) (d : Desktop) (done : Done) (new : Desktop) → client_of Connect done ≡ Some c → ConnectsAt k d done new → c ≢ other → IsLeft other d new
connects c other None d done new of h differ = same-left other d new h.1
connects c other (Some k) d done new of (inl h) differ = same-left other d new h.1
connects c other (Some k) d done new of (inr h) differ =
    let come : Option Resident = Some (arrival d.output) in
    let it : k + 1 ≡ c = same_Some (k + 1) c (sym (ap (λ (x : Done). client_of Connect x) h.0) ∙ of) in
    left-then other d (with_client (k + 1) come d) new (with-left (k + 1) other come d (λ e. differ (sym it ∙ e)))
    (same-left other (with_client (k + 1) come d) new h.1)

-- ---- all steps

carried : (other : ℕ) (old new : Desktop) → IsLeft other old new → (A : Option Resident → List Standing → Type 0) (P : Resident → Cause → Type 0) → Stays ToldSo A P
    → A (client_at other old) (toplevels_of other old) → A (client_at other new) (toplevels_of other new)
carried other old new left A P stays known = rw (left.0, left.1) known

-- another than the one is another than the other
else-than : (a c other : ℕ) → Some a ≡ Some c → c ≢ other → a ≢ other
else-than a c other same differ e = differ (sym (same_Some a c same) ∙ e)

pub others_are_left_alone : OthersAreLeftAlone
others_are_left_alone Connect done c other old new of h differ =
    left_alone other old new (carried other old new (connects c other (lowest old.clients) old done new of h differ))
others_are_left_alone (Feed a piece) done c other old new of h differ =
    left_alone other old new (λ A P stays known. fed-in a other (else-than a c other of differ) A P stays piece (client_at a old) old done new known h)
others_are_left_alone (Store a store at bytes) done c other old new of h differ =
    left_alone other old new (λ A P stays known. changes-in a other (else-than a c other of differ) A P stays _ _ (client_at a old) old done new known h)
others_are_left_alone (Leave a) done c other old new of h differ =
    left_alone other old new (λ A P stays known. leaves-in a other (else-than a c other of differ) A P stays (client_at a old) old done new known h)
others_are_left_alone (Send a n) done c other old new of h differ =
    left_alone other old new (λ A P stays known. changes-in a other (else-than a c other of differ) A P stays _ _ (client_at a old) old done new known h)
others_are_left_alone (Close a) done c other old new of h differ =
    left_alone other old new (λ A P stays known. changes-in a other (else-than a c other of differ) A P stays _ _ (client_at a old) old done new known h)
others_are_left_alone act done c other old new of h differ = absurd (cc)

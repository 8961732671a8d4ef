-- What the calls of a desk make of its clients and toplevels is what happens to the desktop, and leaves that in order.
use Rattle.std.proofs.Common.{◌≡◌, ℕ, List, ◌++◌, true, Option, Some, None, refl, ap, subst, sym, ◌∙◌, inl, inr}
use Rattle.std.specs.Prelude.{◌⊎◌, is_some}
use Rattle.spec_desktop.specs.Peer.{Peer, ended}
use Rattle.spec_desktop.specs.Told.{Output as Shown}
use Rattle.spec_desktop.specs.declared.cause.Cause.{Cause}
use Rattle.spec_desktop.specs.declared.cause.Cause.TheVariants.{Gone}
use Rattle.wl_paint.specs.Damage.{Damaged}
use Rattle.wl_clients.specs.Agreement.{Matches}
use Rattle.wl_clients.specs.Marking.{MarksThrough}
use Rattle.wl_clients.specs.Seats.{ended_by}
use Rattle.wl_clients.specs.View.{DeskView, MarkedDesk}
use Rattle.spec_desktop.specs.declared.answers.Done.{Done}
use Rattle.spec_desktop.specs.Act.{Act, Leave}
use Rattle.spec_desktop.specs.Desktop.{Desktop, Resident, become, client_at, empty, status_in, status_of, toplevels_of, with_client}
use Rattle.spec_desktop.specs.Happens.{Happens}
use Rattle.spec_desktop.specs.Settling.{EndsAndSettles, becomes, unstruck}
use Rattle.spec_desktop.specs.Through.{ServesThrough}
use Rattle.law_desktop.proofs.Runs.Forms.{LeavesAt}
use Rattle.law_desktop.proofs.Runs.Places.{client-kept, status-become}
use Rattle.law_desktop.proofs.Runs.Through.{messages_lead_through}
use Rattle.law_desktop.specs.Acts.{LeavesPointer}
use Rattle.law_desktop.proofs.KeptRecords.Toplevels.Back.{settled-back}
use Rattle.law_desktop.proofs.KeptRecords.Toplevels.Serves.{becomes-same, settles-to}
use Rattle.law_desktop.specs.InOrder.{InOrderAt}
use Rattle.law_desktop.specs.Ordered.{Ordered}
use Rattle.law_desktop.proofs.KeptInOrder.Laws.{empty_is_ordered, ends_keep_ordered, messages_keep_ordered, ordered_stays, pieces_keep_ordered}
use Rattle.law_desktop.specs.Ways.{IsGone}
use Rattle.law_desktop.proofs.MessageWays.Ends.{end_is_gone}
use Rattle.wl_clients.specs.Agreeing.{Agrees, TakesStep}
use Rattle.wl_clients.specs.Feeding.{Ends, EndsBy, EndsOf, IsIdleIn, kept_at, kept_by, kept_of}
use Rattle.wl_clients.proofs.Altering.{Alters, alters-whole, stays-by}
use Rattle.wl_clients.proofs.Away.{IsAway}
use Rattle.wl_clients.proofs.Calls.{Ended-none, Idle-none, Kept-none, ended_at, ended_of}
use Rattle.wl_clients.proofs.Seats.{IsMissing}
use Rattle.wl_clients.proofs.Still.{IsStill, rest-still, same-still}

-- ---- a step

pub steps-whole : (act : Act) → LeavesPointer act → (done : Done) (old new : DeskView) → ((d : Desktop) → Agrees old d → (e : Desktop) × Alters act done d e × Matches new e)
    → TakesStep act done old new
steps-whole act alone done old new small = λ d a.
    let h = small d a in
    let step = alters-whole act d h.0 done a.ordered h.1 in
    (h.0, step, record { matches = h.2; ordered = ordered_stays act done d h.0 alone a.ordered step })

-- ---- a message

-- along desktops
pub through-whole : (c : ℕ) (old new : DeskView) (before after : Damaged) (d : Desktop) → Agrees old d
    → (e : Desktop) × (path : List Desktop) × ServesThrough c d path e × Matches new e × MarksThrough d path before after
    → (e : Desktop) × (path : List Desktop) × ServesThrough c d path e × Agrees new e × MarksThrough d path before after
through-whole c old new before after d a h =
    let serves = (messages_lead_through c d h.0).0 h.1 h.2 in
    (h.0, h.1, h.2, record { matches = h.3; ordered = messages_keep_ordered c d h.0 a.ordered serves }, h.4)

pub idles-whole : (c : ℕ) (old new : DeskView) → ((d : Desktop) → Matches old d → Matches new d × IsIdleIn c d) → (d : Desktop) → Agrees old d → Agrees new d × IsIdleIn c d
idles-whole c old new small d a =
    let h = small d a.matches in
    (record { matches = h.0; ordered = a.ordered }, h.1)

-- ---- a piece is kept

pub kept-has : (c : ℕ) (piece : List ℕ) (d : Desktop) → Ordered d → Ordered (kept_at c piece d)
kept-has c piece d ordered = at (client_at c d) refl
  where
    by : (s : Option Cause) (r : Resident) → r.peer.status ≡ s → client_at c d ≡ Some r → Ordered (kept_by c piece s r d)
    by (Some cause) r e is = ordered
    by None r e is = pieces_keep_ordered c r (r.peer.rest ++ piece) d ordered is

    at : (o : Option Resident) → client_at c d ≡ o → Ordered (kept_of c piece o d)
    at None is = ordered
    at (Some r) is = by r.peer.status r refl is

pub kept-still : (c : ℕ) (piece : List ℕ) (d : Desktop) → IsStill d (kept_at c piece d)
kept-still c piece d = at (client_at c d) refl
  where
    by : (s : Option Cause) (r : Resident) → client_at c d ≡ Some r → IsStill d (kept_by c piece s r d)
    by (Some cause) r is = same-still d d refl
    by None r is = rest-still c r (r.peer.rest ++ piece) d is

    at : (o : Option Resident) → client_at c d ≡ o → IsStill d (kept_of c piece o d)
    at None is = same-still d d refl
    at (Some r) is = by r.peer.status r is

pub keeps-whole : (c : ℕ) (piece : List ℕ) (old new : DeskView) → ((d : Desktop) → Agrees old d → Matches new (kept_at c piece d)) → (d : Desktop) → Agrees old d → Agrees new (kept_at c piece d)
keeps-whole c piece old new small d a = record { matches = small d a; ordered = kept-has c piece d a.ordered }

pub stays-whole : (old new : DeskView) → ((d : Desktop) → Matches old d → Matches new d) → (d : Desktop) → Agrees old d → Agrees new d
stays-whole old new small d a = record { matches = small d a.matches; ordered = a.ordered }

-- ---- a client ends

module _ (c : ℕ) (cause : Cause) (d : Desktop) (ordered : Ordered d) where
  -- one that lives
  lived : (r : Resident) → r.peer.status ≡ None → ended_of c cause (Some r) d ≡ become c r (ended cause r.peer) d
  lived r e = ap (λ s. become c r (ended_by s cause r.peer) d) e

  settles-lived : (r : Resident) (e : Desktop) → e ≡ become c r (ended cause r.peer) d → EndsAndSettles (unstruck (becomes c r (ended cause r.peer) d)) e
  settles-lived r e same =
      settles-to (becomes c r (ended cause r.peer) d) (become c r (ended cause r.peer) d) e (becomes-same c r (ended cause r.peer) d ordered.in_order.pointer) same ordered.in_order.pointer

  pub settled-lived : (r : Resident) (e : Desktop) → EndsAndSettles (unstruck (becomes c r (ended cause r.peer) d)) e → e ≡ become c r (ended cause r.peer) d
  settled-lived r e settles =
      let same = becomes-same c r (ended cause r.peer) d ordered.in_order.pointer in
      settled-back (becomes c r (ended cause r.peer) d) e (ap (λ (x : Desktop). x.pointer) same ∙ ordered.in_order.pointer) settles ∙ same

  -- one that ended before
  was-over : (was : Cause) (r : Resident) → r.peer.status ≡ Some was → client_at c d ≡ Some r → ended_of c cause (Some r) d ≡ d
  was-over was r e is =
      ap (λ s. become c r (ended_by s cause r.peer) d) e
      ∙ stays-by c r d (subst (λ o. InOrderAt o (toplevels_of c d)) is (ordered.in_order.each c)) r.peer.status r.peer refl
      ∙ ap (λ o. with_client c o d) (sym is) ∙ client-kept c d

  ended-by : (s : Option Cause) (r : Resident) → r.peer.status ≡ s → client_at c d ≡ Some r → Ordered (ended_of c cause (Some r) d) × EndsBy c cause s r d (ended_of c cause (Some r) d)
  ended-by None r e is =
      let settles = settles-lived r (ended_of c cause (Some r) d) (lived r e) in
      (ends_keep_ordered c r cause d (ended_of c cause (Some r) d) ordered is settles, settles)
  ended-by (Some was) r e is = (subst Ordered (sym (was-over was r e is)) ordered, was-over was r e is)

  pub ended-has : Ordered (ended_at c cause d) × Ends c cause d (ended_at c cause d)
  ended-has = at (client_at c d) refl
    where
      at : (o : Option Resident) → client_at c d ≡ o → Ordered (ended_of c cause o d) × EndsOf c cause o d (ended_of c cause o d)
      at None is = (ordered, refl)
      at (Some r) is = ended-by r.peer.status r refl is

  once-by : (s : Option Cause) (r : Resident) (e : Desktop) → r.peer.status ≡ s → client_at c d ≡ Some r → EndsBy c cause s r d e → e ≡ ended_of c cause (Some r) d
  once-by None r e status is settles = settled-lived r e settles ∙ sym (lived r status)
  once-by (Some was) r e status is same = same ∙ sym (was-over was r status is)

  pub ended-once : (e : Desktop) → Ends c cause d e → e ≡ ended_at c cause d
  ended-once e h = at (client_at c d) refl h
    where
      at : (o : Option Resident) → client_at c d ≡ o → EndsOf c cause o d e → e ≡ ended_of c cause o d
      at None is same = same
      at (Some r) is ends = once-by r.peer.status r e refl is ends

  -- its windows are gone, or nothing changes
  pub ends-fate : (e : Desktop) → Ends c cause d e → IsStill d e ⊎ IsGone c d e
  ends-fate e h = at (client_at c d) refl h
    where
      by : (s : Option Cause) (r : Resident) → client_at c d ≡ Some r → EndsBy c cause s r d e → IsStill d e ⊎ IsGone c d e
      by (Some was) r is same = inl (same-still d e same)
      by None r is settles = inr (end_is_gone c r cause d e ordered.in_order is settles)

      at : (o : Option Resident) → client_at c d ≡ o → EndsOf c cause o d e → IsStill d e ⊎ IsGone c d e
      at None is same = inl (same-still d e same)
      at (Some r) is ends = by r.peer.status r is ends

-- one that is ended is away then
pub ends-away : (c : ℕ) (cause : Cause) (d e : Desktop) → Ordered d → Ends c cause d e → IsAway c e
ends-away c cause d e ordered ends = at (client_at c d) refl (ended-once c cause d ordered e ends)
  where
    over : (s : Option Cause) (p : Peer) → p.status ≡ s → is_some (ended_by s cause p).status ≡ true
    over None p e = refl
    over (Some was) p e = ap (λ (s : Option Cause). is_some s) e

    at : (o : Option Resident) → client_at c d ≡ o → e ≡ ended_of c cause o d → IsAway c e
    at None none h = inl (ap (λ (x : Desktop). client_at c x) h ∙ none)
    at (Some r) is h =
        inr (ap (λ (x : Desktop). is_some (status_in c x)) h
        ∙ ap (λ (s : Option Cause). is_some s) (status-become c r (ended_by r.peer.status cause r.peer) d r is) ∙ over r.peer.status r.peer refl)

-- so is one that leaves
pub leaves-away : (c : ℕ) (done : Done) (d e : Desktop) → Ordered d → Happens (Leave c) done d e → IsAway c e
leaves-away c done d e ordered step = at (client_at c d) refl step
  where
    by : (s : Option Cause) (r : Resident) → r.peer.status ≡ s → client_at c d ≡ Some r → LeavesAt c (Some r) d done e → IsAway c e
    by (Some cause) r status is h =
        let same : e ≡ d = rw status at h.1 in
        inr (ap (λ (x : Desktop). is_some (status_in c x)) same ∙ ap (λ (o : Option Resident). is_some (status_of o)) is ∙ ap (λ (s : Option Cause). is_some s) status)
    by None r status is h =
        let settles : EndsAndSettles (unstruck (becomes c r (ended Gone r.peer) d)) e = rw status at h.1 in
        inr (ap (λ (x : Desktop). is_some (status_in c x)) (settled-lived c Gone d ordered r e settles)
        ∙ ap (λ (s : Option Cause). is_some s) (status-become c r (ended Gone r.peer) d r is))

    at : (o : Option Resident) → client_at c d ≡ o → LeavesAt c o d done e → IsAway c e
    at None none h = inl (ap (λ (x : Desktop). client_at c x) h.1 ∙ none)
    at (Some r) is h = by r.peer.status r refl is h

pub ends-ordered : (c : ℕ) (cause : Cause) (d e : Desktop) → Ordered d → Ends c cause d e → Ordered e
ends-ordered c cause d e ordered h = subst Ordered (sym (ended-once c cause d ordered e h)) (ended-has c cause d ordered).0

pub ends-whole : (c : ℕ) (cause : Cause) (old new : DeskView) → ((d : Desktop) → Agrees old d → Matches new (ended_at c cause d)) → (d : Desktop) → Agrees old d →
    (e : Desktop) × Ends c cause d e
    × Agrees new e
ends-whole c cause old new small d a =
    let has = ended-has c cause d a.ordered in
    (ended_at c cause d, has.1, record { matches = small d a; ordered = has.0 })

-- ---- nobody is there

module _ (c : ℕ) (new old : MarkedDesk) (miss : IsMissing c old) (same : new ≡ old) where
  pub steps-nobody : (act : Act) → LeavesPointer act → (done : Done)
      → ((d : Desktop) → client_at c d ≡ None → Matches old.desk d → (e : Desktop) × Alters act done d e × Matches old.desk e) → TakesStep act done old.desk new.desk
  steps-nobody act alone done small =
      subst (λ (w : MarkedDesk). TakesStep act done old.desk w.desk) (sym same)
      (steps-whole act alone done old.desk old.desk (λ d a. small d (miss d a.matches) a.matches))

  pub idles-nobody : (d : Desktop) → Agrees old.desk d → Agrees new.desk d × IsIdleIn c d
  idles-nobody d a = (subst (λ (w : MarkedDesk). Agrees w.desk d) (sym same) a, (Idle-none old.desk d c (miss d a.matches) a.matches).1)

  pub keeps-nobody : (piece : List ℕ) (d : Desktop) → Agrees old.desk d → Agrees new.desk (kept_at c piece d)
  keeps-nobody piece d a =
      subst (λ (w : MarkedDesk). Agrees w.desk (kept_at c piece d)) (sym same)
      (keeps-whole c piece old.desk old.desk (λ d a. Kept-none piece old.desk d c (miss d a.matches) a.matches) d a)

  pub ends-nobody : (cause : Cause) (d : Desktop) → Agrees old.desk d → (e : Desktop) × Ends c cause d e × Agrees new.desk e
  ends-nobody cause d a =
      subst (λ (w : MarkedDesk). (e : Desktop) × Ends c cause d e × Agrees w.desk e) (sym same)
      (ends-whole c cause old.desk old.desk (λ d a. Ended-none cause old.desk d c (miss d a.matches) a.matches) d a)

-- ---- nobody is there at first

pub empty-agrees : (v : DeskView) (output : Shown) → Matches v (empty output) → Agrees v (empty output)
empty-agrees v output is = record { matches = is; ordered = empty_is_ordered output }

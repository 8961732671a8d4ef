-- A request is counted, and what it demands is then done, or not.
use Rattle.std.proofs.Common.{◌≡◌, ℕ, Option}
use Rattle.std.specs.Prelude.{is_some}
use Rattle.wl_client.specs.Agreement.{IsPeer}
use Rattle.spec_desktop.specs.Peer.{counted}
use Rattle.spec_desktop.specs.Demand.{Demand}
use Rattle.spec_desktop.specs.Desktop.{Desktop, Resident}
use Rattle.spec_desktop.specs.Step.{with_peer}
use Rattle.law_desktop.specs.Ordered.{OwnsOrdered}
use Rattle.wl_requests.specs.declared.residents.Resident.{Resident as Kept}
use Rattle.wl_requests.specs.Residents.{IsResident, MeetsAs, MeetsTold}
use Rattle.wl_requests.proofs.Shelling.{counted-on, meets-from, objects-counted}
use Rattle.wl_requests.proofs.Meeting.{counted-ordered}

pub counted-told : {A X : Type 0} (old mid new : Kept A) (result : Option X) (c : ℕ) (r : Resident) (d : Desktop) (demand : Resident → Demand) → IsResident old r → OwnsOrdered r
    → mid.client ≡ record old.client { requests = mid.client.requests } → mid.owned ≡ old.owned → mid.subsurfaces ≡ old.subsurfaces
    → IsPeer mid.client (counted r.peer) → MeetsTold demand result mid new → MeetsAs (is_some result) c (demand (with_peer (counted r.peer) r)) (with_peer (counted r.peer) r) d old new
counted-told old mid new result c r d demand is has only same kept peer meets =
    let one_more = with_peer (counted r.peer) r in
    meets-from (is_some result) (demand one_more) c one_more d old mid new (objects-counted old.client mid.client only)
    (meets c one_more d (counted-on old mid r is only same kept peer) (counted-ordered r has))

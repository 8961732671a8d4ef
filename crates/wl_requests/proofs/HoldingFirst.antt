-- What is kept stands so after the first message, by the numbers from before it.
use Rattle.std.proofs.Common.{◌≡◌, ℕ, Bool, true, drop, Result, ap, refl, subst, sym}
use Rattle.wl_client.specs.First.{Passes}
use Rattle.law_desktop.specs.Ordered.{OwnsOrdered}
use Rattle.spec_desktop.specs.Peer.{with_rest}
use Rattle.spec_desktop.specs.declared.refusals.Refusal.{Refusal}
use Rattle.spec_desktop.specs.Demand.{Demand}
use Rattle.spec_desktop.specs.Demanding.{demand_of}
use Rattle.spec_desktop.specs.Desktop.{Desktop, Resident}
use Rattle.spec_desktop.specs.Step.{with_peer}
use Rattle.wl_proto.specs.Messages.{Message, wl_surface_request}
use Rattle.wl_proto.specs.declared.wl_surface.WlSurfaceRequest.{WlSurfaceRequest}
use Rattle.wl_requests.specs.Holding.{HoldsAs, HoldsFirst, HoldsPlaced, HoldsSo}
use Rattle.wl_requests.specs.Placing.{IsPlacingFor}
use Rattle.wl_requests.specs.Residents.{IsResident}
use Rattle.wl_requests.specs.declared.messages.Kind.{Kind}
use Rattle.wl_requests.specs.declared.messages.Kind.TheVariants as kinds
use Rattle.wl_requests.specs.declared.residents.Placing.{Placing}
use Rattle.wl_requests.specs.declared.residents.Resident.{Resident as Kept}
use Rattle.wl_requests.proofs.Asking.{demanded-first, dropped, placed-behind, whole-first}
use Rattle.wl_requests.proofs.Holding.{held-so}
use Rattle.wl_requests.proofs.Meeting.{ordered-peer}
use Rattle.wl_requests.proofs.Framing.{no-more}
use Rattle.wl_wire.specs.Wire.{split_of}
use Rattle.wl_wire.specs.declared.header.Split.{Split}

-- the surface of a commit is what a popup is placed for
pub held-placed : {A : Type 0} (done : Bool) (old new : Kept A) (placing : Placing) (object version : ℕ) (k : Kind) (request : WlSurfaceRequest) (m : Message) → k ≡ kinds.Surface request
    → m ≡ wl_surface_request request
    → HoldsPlaced done placing (kinds.Surface request) object (λ r. demand_of r object version (wl_surface_request request)) old new
    → HoldsPlaced done placing k object (λ r. demand_of r object version m) old new
held-placed done old new placing object version k request m is told h = λ c r d its only placed so.
    subst (λ (x : Message). HoldsSo (demand_of r object version x) c r d old new) (sym told)
    (h c r d its only (subst (λ (j : Kind). IsPlacingFor placing object j c r d) is placed) so)

-- nothing else places a popup
pub held-message : {A : Type 0} (done : Bool) (old new : Kept A) (placing : Placing) (object version : ℕ) (k : Kind) (m n : Message) → m ≡ n
    → HoldsAs done (λ r. demand_of r object version n) old new → HoldsPlaced done placing k object (λ r. demand_of r object version m) old new
held-message done old new placing object version k m n told h = λ c r d its only placed so.
    subst (λ (x : Message). HoldsSo (demand_of r object version x) c r d old new) (sym told) (h c r d its only so)

-- it is taken first
pub first-held : {A : Type 0} (old : Kept A) (r : Resident) (object version size target : ℕ) (m : Message) (passes : Passes old.client object version size target m) (is : IsResident old r)
    (mid new : Kept A) (done : Bool) → mid ≡ record old { client = record old.client { rest = drop size old.client.rest } } → (placing : Placing) (k : Kind)
    → HoldsPlaced done placing k object (λ r. demand_of r object version m) mid new → (c : ℕ) (d : Desktop) → OwnsOrdered r → IsPlacingFor placing object k c r d → done ≡ true
    → HoldsFirst (split_of r.peer.rest) c r d old new
first-held {A} old r object version size target m passes is mid new done same placing k holds c d only placed so =
    let left = with_peer (with_rest (drop size r.peer.rest) r.peer) r in
    let there = dropped old mid r size same is in
    let objects : mid.client.objects ≡ old.client.objects = ap (λ (k : Kept A). k.client.objects) same in
    let has : OwnsOrdered left = ordered-peer r left.peer refl refl (no-more r.peer.requests) only in
    subst (λ (s : Split). HoldsFirst s c r d old new) (sym (whole-first old r object version size target m passes is))
    (subst (λ (j : Result Demand Refusal). HoldsSo j c left d old new) (sym (demanded-first old r object version size target m passes is))
    (held-so old mid new (demand_of left object version m) c left d objects (holds c left d there has (placed-behind placing object k c r left.peer d placed) so)))

-- The first message of a client is taken, where what popups are placed by is that of the desktop, and what a grab is allowed by is too.
use Rattle.std.specs.Prelude.{ℕ, Bool}
use Rattle.wl_wire.specs.Wire.{split_of}
use Rattle.law_desktop.specs.Ordered.{OwnsOrdered}
use Rattle.spec_desktop.specs.Desktop.{Desktop, Resident}
use Rattle.wl_requests.specs.declared.messages.Asked.{Asked}
use Rattle.wl_requests.specs.declared.residents.Grabbing.{Grabbing}
use Rattle.wl_requests.specs.declared.residents.Placing.{Placing}
use Rattle.wl_requests.specs.declared.residents.Resident.{Resident as Kept}
use Rattle.wl_requests.specs.declared.residents.Stacking.{Stacking}
use Rattle.wl_requests.specs.Grabbing.{IsGrabbingOf}
use Rattle.wl_requests.specs.Holding.{HoldsFirst, HoldsMessage}
use Rattle.wl_requests.specs.Placing.{IsPlacingOf}
use Rattle.wl_requests.specs.Residents.{IsResident, TakesAs, TakesMessage, TakesMessageAs, TakesSo}

-- so it is taken
abbrev pub TakesGiven : {A : Type 0} → Asked → Placing → ℕ → Resident → Desktop → Kept A → Kept A → Stacking → Type 0
TakesGiven asked placing c r d old new stacking =
    IsResident old r → OwnsOrdered r → IsPlacingOf placing asked c r d → TakesSo (split_of r.peer.rest) c r d old new stacking

-- so it is where it is known whether it was done
abbrev pub TakesGivenAs : {A : Type 0} → Bool → Asked → Placing → ℕ → Resident → Desktop → Kept A → Kept A → Type 0
TakesGivenAs done asked placing c r d old new =
    IsResident old r → OwnsOrdered r → IsPlacingOf placing asked c r d → TakesAs done (split_of r.peer.rest) c r d old new

-- and what is kept then stands for what it makes of the client
abbrev pub HoldsGiven : {A : Type 0} → Asked → Placing → ℕ → Resident → Desktop → Kept A → Kept A → Type 0
HoldsGiven asked placing c r d old new =
    IsResident old r → OwnsOrdered r → IsPlacingOf placing asked c r d → HoldsFirst (split_of r.peer.rest) c r d old new

-- ---- what a grab is allowed by is that of the desktop

module _ {A : Type 0} (asked : Asked) (placing : Placing) (grabbing : Grabbing) (c : ℕ) (r : Resident) (d : Desktop) (old new : Kept A) (allowed : IsGrabbingOf grabbing asked c r d) where
  pub takes-given : (stacking : Stacking) → TakesMessage asked placing grabbing old new stacking → TakesGiven asked placing c r d old new stacking
  takes-given stacking takes = λ resident owns placed. takes c r d resident owns placed allowed

  pub takes-given-as : (done : Bool) → TakesMessageAs done asked placing grabbing old new → TakesGivenAs done asked placing c r d old new
  takes-given-as done takes = λ resident owns placed. takes c r d resident owns placed allowed

  pub holds-given : HoldsMessage asked placing grabbing old new → HoldsGiven asked placing c r d old new
  holds-given holds = λ resident owns placed. holds c r d resident owns placed allowed

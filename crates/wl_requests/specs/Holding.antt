-- What is kept after a message that was done, also where an event that wasn't queued ended its client: by the numbers from before it, it
-- stands for what the message makes of the client.
use Rattle.std.specs.Prelude.{ℕ, ◌≡◌, ◌-◌, Bool, true, Result, Ok, Err, take, drop}
use Rattle.wl_proto.specs.declared.interface.Interface.TheVariants.{WlSurface}
use Rattle.wl_wire.specs.Wire.{split_of}
use Rattle.wl_wire.specs.declared.header.Split.{Split}
use Rattle.wl_wire.specs.declared.header.Split.TheVariants.{Message as Whole, More, Bad}
use Rattle.law_desktop.specs.NamedPopups.{RenamesOwned, renamed_owned}
use Rattle.law_desktop.specs.Ordered.{OwnsOrdered}
use Rattle.law_desktop.specs.Owning.{number_in, targets_in}
use Rattle.spec_desktop.specs.declared.refusals.Refusal.{Refusal}
use Rattle.spec_desktop.specs.Peer.{counted, with_rest}
use Rattle.spec_desktop.specs.Changing.{changed_for}
use Rattle.spec_desktop.specs.Demand.{Demand}
use Rattle.spec_desktop.specs.Demanding.{judge_all}
use Rattle.spec_desktop.specs.Desktop.{Desktop, Resident, unpointed}
use Rattle.spec_desktop.specs.Step.{with_peer}
use Rattle.wl_requests.specs.declared.messages.Asked.{Asked}
use Rattle.wl_requests.specs.declared.residents.Grabbing.{Grabbing}
use Rattle.wl_requests.specs.declared.residents.Placing.{Placing}
use Rattle.wl_requests.specs.declared.residents.Resident.{Resident as Kept}
use Rattle.wl_requests.specs.Grabbing.{IsGrabbingOf}
use Rattle.wl_requests.specs.Placing.{IsPlacingFor, IsPlacingOf}
use Rattle.wl_requests.specs.declared.messages.Kind.{Kind}
use Rattle.wl_requests.specs.Residents.{IsResident}
use Rattle.wl_scene.specs.Roots.{IsHeld}
use Rattle.spec_desktop.specs.Stacking.{Owned}

-- the names of the surfaces that were kept: their numbers
abbrev pub names_before : {A : Type 0} → Kept A → ℕ → ℕ
names_before v = number_in (targets_in WlSurface v.client.objects)

-- They rename what the client owns, and what is kept stands for it by them.
pub record HoldsBy {A : Type 0} (old new : Kept A) (o : Owned) : Type 0 where
  pub renames : RenamesOwned (names_before old) o
  pub held : IsHeld new.owned.surfaces.states new.owned.surfaces.family new.owned.shell (renamed_owned (names_before old) o)

-- So it does of what is demanded; of a refusal nothing is said.
abbrev pub HoldsSo : {A : Type 0} → Result Demand Refusal → ℕ → Resident → Desktop → Kept A → Kept A → Type 0
HoldsSo (Ok demand) c r d old new = HoldsBy old new (changed_for c demand (with_peer (counted r.peer) r) (unpointed d)).owned
HoldsSo (Err refusal) c r d old new = Unit {0}

abbrev pub HoldsFirst : {A : Type 0} → Split → ℕ → Resident → Desktop → Kept A → Kept A → Type 0
HoldsFirst (Whole object opcode size) c r d old new =
    HoldsSo (judge_all r object opcode (take (size - 8) (drop 8 r.peer.rest))) c
    (with_peer (with_rest (drop size r.peer.rest) r.peer) r) d old new
HoldsFirst Bad c r d old new = Unit {0}
HoldsFirst More c r d old new = Unit {0}

abbrev pub HoldsMessage : {A : Type 0} → Asked → Placing → Grabbing → Kept A → Kept A → Type 0
HoldsMessage asked placing grabbing old new =
    (c : ℕ) (r : Resident) (d : Desktop) → IsResident old r → OwnsOrdered r → IsPlacingOf placing asked c r d
    → IsGrabbingOf grabbing asked c r d → HoldsFirst (split_of r.peer.rest) c r d old new

-- what is judged so, where it was done
abbrev pub HoldsAs : {A : Type 0} → Bool → (Resident → Result Demand Refusal) → Kept A → Kept A → Type 0
HoldsAs done judged old new =
    (c : ℕ) (r : Resident) (d : Desktop) → IsResident old r → OwnsOrdered r → done ≡ true → HoldsSo (judged r) c r d old new

-- the same where what popups are placed by is that of the desktop
abbrev pub HoldsPlaced : {A : Type 0} → Bool → Placing → Kind → ℕ → (Resident → Result Demand Refusal) → Kept A → Kept A → Type 0
HoldsPlaced done placing kind object judged old new =
    (c : ℕ) (r : Resident) (d : Desktop) → IsResident old r → OwnsOrdered r → IsPlacingFor placing object kind c r d → done ≡ true
    → HoldsSo (judged r) c r d old new

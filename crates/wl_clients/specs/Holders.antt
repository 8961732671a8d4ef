-- Who holds a grab, by what is kept of the clients, and what is kept of one whose popups with a grab are dismissed (xdg-shell.xml,
-- xdg_popup.grab).
use Rattle.std.specs.Prelude.{ℕ, ◌≡◌, ◌<◌, Bool, true, false, Option, Some, None, List, slice_index_or}
use Rattle.std.specs.List.{list_any}
use Rattle.wl_paint.specs.Damage.{Damaged}
use Rattle.spec_desktop.specs.declared.cause.Cause.{Cause}
use Rattle.wl_shell.specs.Kept.{kept_of}
use Rattle.wl_shell.specs.Popups.{popups_of}
use Rattle.spec_desktop.specs.Stacking.{Owned}
use Rattle.law_desktop.specs.Owning.{IsOwned, Names}
use Rattle.wl_requests.specs.declared.residents.Resident.{Resident as Kept}
use Rattle.wl_clients.specs.Releasing.{IsReleased, MarksReleased}
use Rattle.wl_clients.specs.View.{Pile}

-- ---- who holds one

-- It is said whether the client at a place has a popup with a grab: whatever it stands for has one, or hasn't.
abbrev pub SaysGrab : {A : Type 0} → Bool → Option (Kept A) → Type 0
SaysGrab says None = says ≡ false
SaysGrab says (Some k) =
    (names : Names) (o : Owned) → IsOwned names k.owned.surfaces.states k.owned.surfaces.family (kept_of k.owned.shell) o
    → says ≡ list_any (λ p. p.popup.has_grab) (popups_of o.shell)

-- none has at so many places
abbrev pub NoneHolds : {A : Type 0} → ℕ → List (Option (Kept A)) → Type 0
NoneHolds count slots = (k : ℕ) → k < count → SaysGrab false (slice_index_or slots k None)

-- the one at this place has, and none before it
pub record IsFirstHolder {A : Type 0} (k : ℕ) (slots : List (Option (Kept A))) : Type 0 where
  pub holds : SaysGrab true (slice_index_or slots k None)
  pub before : NoneHolds k slots

-- ---- popups with a grab are dismissed

-- They are, and their windows went, of a client that lives and isn't to end; else all that is kept stays.
abbrev pub IsReleasedBy : {A : Type 0} → Option Cause → Option Cause → ℕ → Kept A → Kept A → Pile → Pile → Type 0
IsReleasedBy None None c old new was is = IsReleased c old new was is
IsReleasedBy ended refused c old new was is = (new ≡ old) × (is ≡ was)

-- what is marked then
abbrev pub MarksReleasedBy : {A : Type 0} → Option Cause → Option Cause → ℕ → Kept A → Pile → Damaged → Damaged → Type 0
MarksReleasedBy None None c old was before after = MarksReleased c old was before after
MarksReleasedBy ended refused c old was before after = after ≡ before

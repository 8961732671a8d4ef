-- The popups that go with an xdg_surface are dismissed one after another, and each is told that it is done (xdg-shell.xml,
-- xdg_popup.popup_done).
use Rattle.std.specs.Prelude.{ℕ, ◌≡◌, Bool, Option, Some, None, map}
use Rattle.std.specs.Option.{option_and_then, option_map}
use Rattle.wl_client.specs.Agreement.{IsPeer}
use Rattle.wl_client.specs.View.{opened}
use Rattle.spec_desktop.specs.Peer.{Peer, Queues, QueuesTo}
use Rattle.wl_shell.specs.Descent.{has_popup_at}
use Rattle.wl_shell.specs.InOrder.{HasOrder, goes_with, undismissed}
use Rattle.spec_desktop.specs.Stacking.{Owned}
use Rattle.wl_shell.specs.Kept.{Kept as KeptXdg, kept_of}
use Rattle.wl_shell.specs.Popups.{Popped, dismissing}
use Rattle.wl_shell.specs.Shell.{Shell}
use Rattle.law_desktop.specs.Owning.{IsOwned, Names}
use Rattle.law_desktop.specs.OwnedPopups.{done_told}
use Rattle.wl_requests.specs.declared.residents.Resident.{Resident as Kept}

-- the id of the role object of what is kept
abbrev pub role_id : Option KeptXdg → Option ℕ
role_id k = option_and_then (λ k. option_map (λ object. object.id) k.role) k

-- they go with it: its popup, or those on it where it has none, and whatever descends from them
abbrev pub go_with : ℕ → Shell → Popped → Bool
go_with xdg shell = goes_with (has_popup_at xdg shell) xdg

-- What is kept stands for the client with them dismissed, and it was told of each that wasn't before, the newest first, unless an event
-- wasn't queued.
pub record AreDismissed {A : Type 0} (names : Names) (xdg : ℕ) (o : Owned) (p q : Peer) (new : Kept A) : Type 0 where
  pub peer : IsPeer new.client q
  pub told : Queues (map done_told (undismissed (go_with xdg o.shell) o.shell)) p q
  pub owns :
      new.client.ended ≡ None
      → IsOwned names new.owned.surfaces.states new.owned.surfaces.family (kept_of new.owned.shell)
      (record o { shell = dismissing (go_with xdg o.shell) o.shell })

-- So it is of a client that lives, whose popups have the order that the shell asks for.
abbrev pub DismissesWith : {A : Type 0} → ℕ → Kept A → Kept A → Type 0
DismissesWith surface old new =
    (names : Names) (o : Owned) (xdg : ℕ) (p : Peer)
    → IsOwned names old.owned.surfaces.states old.owned.surfaces.family (kept_of old.owned.shell) o
    → HasOrder o.shell → names.shell xdg ≡ Some surface → IsPeer old.client p → p.status ≡ None
    → (q : Peer) × AreDismissed names xdg o p q new

-- ---- popups with a grab

-- What is kept of the client stands for it with its popups with a grab dismissed, and whatever descends from them; and it was told of each
-- that wasn't before, the newest first, until an event wasn't queued: then it is to end for that (xdg-shell.xml, xdg_popup.grab).
pub record GrabsAreReleased {A : Type 0} (names : Names) (o : Owned) (p q : Peer) (new : Kept A) : Type 0 where
  pub peer : IsPeer (opened new.client) q
  pub told : QueuesTo (map done_told (undismissed (λ p. p.popup.has_grab) o.shell)) p q new.client.refused
  pub owns :
      IsOwned names new.owned.surfaces.states new.owned.surfaces.family (kept_of new.owned.shell)
      (record o { shell = dismissing (λ p. p.popup.has_grab) o.shell })

-- So it is of a client that lives and isn't to end, whose popups have the order that the shell asks for.
abbrev pub ReleasesGrabs : {A : Type 0} → Kept A → Kept A → Type 0
ReleasesGrabs old new =
    (names : Names) (o : Owned) (p : Peer)
    → IsOwned names old.owned.surfaces.states old.owned.surfaces.family (kept_of old.owned.shell) o
    → HasOrder o.shell → IsPeer old.client p → p.status ≡ None → old.client.refused ≡ None
    → (q : Peer) × GrabsAreReleased names o p q new

-- The popups of a client with a grab are dismissed as a press hits no surface of it: what is kept follows, and what is marked (xdg-shell.xml,
-- xdg_popup.grab).
use Rattle.std.specs.Prelude.{ℕ, ◌≡◌, ◌<◌, ◌||◌, pos, Some, None}
use Rattle.wl_paint.specs.Damage.{Damaged, has}
use Rattle.spec_desktop.specs.Objects.{ById}
use Rattle.spec_desktop.specs.Peer.{Peer}
use Rattle.law_desktop.specs.Ordered.{Ordered}
use Rattle.spec_desktop.specs.Desktop.{Desktop, Resident, with_client}
use Rattle.spec_desktop.specs.Moments.{marks_at_least}
use Rattle.spec_desktop.specs.Replies.{popups_done}
use Rattle.spec_desktop.specs.Settling.{QueuesTo, without_grabs}
use Rattle.spec_desktop.specs.Step.{with_peer}
use Rattle.wl_requests.specs.declared.residents.Resident.{Resident as Kept}
use Rattle.wl_clients.specs.Seats.{IsSeated, opened_kept}
use Rattle.wl_clients.specs.View.{Pile}

-- the client without its popups with a grab, which is this peer then
abbrev pub released_as : Peer → Resident → Resident
released_as q r = with_peer q (without_grabs r)

-- the desktop with it
abbrev pub with_released : ℕ → Peer → Resident → Desktop → Desktop
with_released c q r d = with_client c (Some (released_as q r)) d

-- What is kept of a client that lives and isn't to end, and of the windows, agrees with that desktop: the client was told of each of those
-- popups that wasn't dismissed before, until an event wasn't queued.
abbrev pub IsReleased : {A : Type 0} → ℕ → Kept A → Kept A → Pile → Pile → Type 0
IsReleased c old new was is =
    (others : ℕ → ById ℕ) (base d : Desktop) (r : Resident) → old.client.ended ≡ None → old.client.refused ≡ None
    → IsSeated c others base old was d r → Ordered d
    → (q : Peer) × QueuesTo (popups_done r (without_grabs r)) (without_grabs r).peer q new.client.refused
    × IsSeated c others base (opened_kept new) is (with_released c q r d) (released_as q r)

-- What a step from one desktop to the other marks at least is to be painted too, and nothing more.
abbrev pub MarksJust : Desktop → Desktop → Damaged → Damaged → Type 0
MarksJust d e old new =
    (x y : ℕ) → x < old.width → y < old.height → has new x y ≡ (has old x y || marks_at_least d e (pos x) (pos y))

-- So it is of that one, whatever the client was told.
abbrev pub MarksReleased : {A : Type 0} → ℕ → Kept A → Pile → Damaged → Damaged → Type 0
MarksReleased c old was before after =
    (others : ℕ → ById ℕ) (base d : Desktop) (r : Resident) (q : Peer) → old.client.ended ≡ None → old.client.refused ≡ None
    → before.width ≡ d.output.width → before.height ≡ d.output.height → IsSeated c others base old was d r → Ordered d
    → MarksJust d (with_released c q r d) before after

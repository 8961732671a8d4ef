-- A press that hits no surface of the client that holds a grab dismisses its popups with a grab (xdg-shell.xml, xdg_popup.grab).
use Rattle.std.specs.Prelude.{ℕ, ◌≡◌, ◌==◌, if◌then◌else◌, Option, Some, None}
use Rattle.spec_desktop.specs.Pointer.{Target}
use Rattle.spec_desktop.specs.Replies.{popups_done}
use Rattle.spec_desktop.specs.Settling.{Midstep, Tells, without_grabs}

-- the client whose popups a press dismisses, where this one holds a grab, if one does, and the press hits this toplevel
abbrev pub released_by : Option ℕ → Option Target → Option ℕ
released_by None top = None
released_by (Some holder) None = Some holder
released_by (Some holder) (Some t) = if t.client == holder then None else Some holder

-- Its popups with a grab are dismissed, and it is told so, if there is one.
abbrev pub Releases : Option ℕ → Midstep → Midstep → Type 0
Releases None old new = new ≡ old
Releases (Some c) old new = Tells without_grabs (λ r. popups_done r (without_grabs r)) c old new

-- What a client is told of what it asks alone, and what becomes of the desktop where nobody points.
use Rattle.std.specs.Prelude.{ℕ, ◌≡◌, List}
use Rattle.spec_desktop.specs.Peer.{Peer}
use Rattle.spec_desktop.specs.Told.{Said}
use Rattle.spec_desktop.specs.Ask.{Ask, AskSurface}
use Rattle.spec_desktop.specs.Desktop.{Desktop, Resident, become}
use Rattle.spec_desktop.specs.Replies.{releases}
use Rattle.spec_desktop.specs.Step.{answers_to, changed_by}

-- only what is asked of a surface changes which buffers are busy
abbrev pub told_alone : Ask → Resident → List Said
told_alone (AskSurface id request) r = releases r (changed_by (AskSurface id request) r)
told_alone ask r = answers_to ask r

-- this is told to the client, and it becomes what that leaves of it
abbrev pub Becomes : (Peer → Type 0) → ℕ → Resident → Desktop → Desktop → Type 0
Becomes Q c r d new = (q : Peer) × Q q × (new ≡ become c r q d)

-- A frame where nobody points: the clients in rising number are told that the callbacks that are due are done (wayland.xml,
-- wl_surface.frame), and one whose event isn't queued ends at once.
use Rattle.std.specs.Prelude.{ℕ, zero, suc, ◌≡◌, ◌==◌, ◌<◌, true, Option, Some, None, List}
use Rattle.std.specs.List.{list_any}
use Rattle.spec_desktop.specs.declared.cause.Cause.{Cause}
use Rattle.spec_desktop.specs.Peer.{Peer, Queues}
use Rattle.wl_surface.specs.declared.frames.Waiting.{Waiting}
use Rattle.wl_surface.specs.Slots.{Numbered}
use Rattle.wl_surface.specs.Waiting.{AreWaiting, Callback, frames_at}
use Rattle.spec_desktop.specs.Changing.{without_callbacks}
use Rattle.spec_desktop.specs.Desktop.{Desktop, Resident, become, client_at}
use Rattle.spec_desktop.specs.Happens.{callbacks_due, frames_told}

-- the callbacks that are due are done, and their ids given back
abbrev pub done_due : Resident → Resident
done_due r = without_callbacks (callbacks_due r) r

-- a client that ended is told nothing
abbrev pub FramesToldBy : Option Cause → ℕ → ℕ → Resident → Desktop → Desktop → Type 0
FramesToldBy (Some cause) time c r d new = new ≡ d
FramesToldBy None time c r d new = (q : Peer) × Queues (frames_told time r) (done_due r).peer q × (new ≡ become c (done_due r) q d)

abbrev pub FramesToldAt : ℕ → ℕ → Option Resident → Desktop → Desktop → Type 0
FramesToldAt time c None d new = new ≡ d
FramesToldAt time c (Some r) d new = FramesToldBy r.peer.status time c r d new

-- n clients are told, from number c on
abbrev pub FramesTold : ℕ → ℕ → ℕ → Desktop → Desktop → Type 0
FramesTold time zero c d new = new ≡ d
FramesTold time (suc n) c d new = (mid : Desktop) × FramesToldAt time c (client_at c d) d mid × FramesTold time n (suc c) mid new

-- ---- the callbacks that wait

-- Those that a client keeps are its callbacks, each requested of the surface under its number; the numbers of frame requests are below this
-- one.
pub record AreFramed (frames : List Waiting) (all : Numbered) (bound : ℕ) (callbacks : List Callback) : Type 0 where
  pub waits : AreWaiting frames all callbacks
  pub early : (surface number : ℕ) → list_any (λ n. n == number) (frames_at (all surface)) ≡ true → number < bound

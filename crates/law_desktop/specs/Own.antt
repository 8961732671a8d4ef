-- What all that happens leaves of a client, but for its own steps.
use Rattle.std.specs.Prelude.{ℕ, ◌≡◌, ◌≢◌, ◌==◌, Bool, false, Option, Some, None, List, [], ◌∷◌, ◌++◌, ◌⊎◌}
use Rattle.std.specs.List.{list_any}
use Rattle.spec_desktop.specs.declared.cause.Cause.{Cause}
use Rattle.spec_desktop.specs.declared.cause.Cause.TheVariants.{Memory, Slow}
use Rattle.spec_desktop.specs.Peer.{Peer, ended}
use Rattle.wl_shell.specs.Popups.{dismiss, popup_changed}
use Rattle.wl_shell.specs.Shell.{Shell, XdgSurface}
use Rattle.spec_desktop.specs.Stacking.{Standing}
use Rattle.spec_desktop.specs.Desktop.{Desktop, Resident, client_at, resident_of, toplevels_of}
use Rattle.spec_desktop.specs.declared.answers.Done.{Done}
use Rattle.spec_desktop.specs.Act.{Act}
use Rattle.spec_desktop.specs.Happens.{Happens}
use Rattle.law_desktop.specs.Others.{client_of}

-- A client lives as it did, and of its messages and what they made all is the same, but for its objects; more may wait to be sent to it.
pub record LivesOn (p q : Peer) : Type 0 where
  pub status : q.status ≡ p.status
  pub requests : q.requests ≡ p.requests
  pub regions : q.regions ≡ p.regions
  pub pools : q.pools ≡ p.pools
  pub buffers : q.buffers ≡ p.buffers
  pub positioners : q.positioners ≡ p.positioners
  pub stores : q.stores ≡ p.stores
  pub unsent : (more : List ℕ) × (q.unsent ≡ p.unsent ++ more)
  pub rest : q.rest ≡ p.rest
  pub output : q.output ≡ p.output

-- an id is that of a frame callback
abbrev pub is_of_callback : ℕ → Resident → Bool
is_of_callback id r = list_any (λ callback. callback.id == id) r.callbacks

-- an xdg_surface is the same, but that its popup may have been dismissed
abbrev pub IsSameOrDismissed : XdgSurface → XdgSurface → Type 0
IsSameOrDismissed x y = (y ≡ x) ⊎ (y ≡ popup_changed dismiss x)

abbrev pub AreSameOrDismissed : Shell → Shell → Type 0
AreSameOrDismissed [] [] = Unit {0}
AreSameOrDismissed [] (y ∷ ys) = ⊥
AreSameOrDismissed (x ∷ xs) [] = ⊥
AreSameOrDismissed (x ∷ xs) (y ∷ ys) = IsSameOrDismissed x y × AreSameOrDismissed xs ys

-- A client has what it had: its surfaces with their requests and cuts, and all else that it owns; but frame callbacks may be done, and
-- popups dismissed.
pub record HasItsOwn (r q : Resident) : Type 0 where
  pub peer : LivesOn r.peer q.peer
  pub objects : (id : ℕ) → is_of_callback id r ≡ false → q.peer.objects id ≡ r.peer.objects id
  pub surfaces : q.owned.surfaces ≡ r.owned.surfaces
  pub shell : AreSameOrDismissed r.owned.shell q.owned.shell
  pub subsurfaces : q.subsurfaces ≡ r.subsurfaces
  pub callbacks : (id : ℕ) → is_of_callback id r ≡ false → is_of_callback id q ≡ false
  pub pointers : q.pointers ≡ r.pointers

-- a client had what it had until an event wasn't queued to it, and has ended for that
abbrev pub HasEndedLate : Resident → Resident → Type 0
HasEndedLate r q =
    (last : Resident) × (cause : Cause) × HasItsOwn r last × ((cause ≡ Slow) ⊎ (cause ≡ Memory)) × (q ≡ resident_of (ended cause last.peer))

-- the same toplevels of a client are mapped
abbrev pub StandTheSame : List Standing → List Standing → Type 0
StandTheSame before after = (surface : ℕ) → list_any (λ s. s.surface == surface) after ≡ list_any (λ s. s.surface == surface) before

-- a client that lived, with its toplevels before and after
abbrev pub LivesOrEnds : Resident → List Standing → Option Resident → List Standing → Type 0
LivesOrEnds r before None after = ⊥
LivesOrEnds r before (Some q) after = (HasItsOwn r q × StandTheSame before after) ⊎ (HasEndedLate r q × (after ≡ []))

-- one that ended before is as it was
abbrev pub KeepsItsOwnBy : Option Cause → Resident → List Standing → Option Resident → List Standing → Type 0
KeepsItsOwnBy (Some cause) r before now after = now ≡ Some r
KeepsItsOwnBy None r before now after = LivesOrEnds r before now after

-- where there is no client, there is none after
abbrev pub KeepsItsOwnSo : Option Resident → List Standing → Option Resident → List Standing → Type 0
KeepsItsOwnSo None before now after = now ≡ None
KeepsItsOwnSo (Some r) before now after = KeepsItsOwnBy r.peer.status r before now after

-- from one desktop to the next client c keeps what it had, or it has ended for an event that wasn't queued
abbrev pub KeepsItsOwn : ℕ → Desktop → Desktop → Type 0
KeepsItsOwn c old new = KeepsItsOwnSo (client_at c old) (toplevels_of c old) (client_at c new) (toplevels_of c new)

-- Whatever happens that isn't a step of a client's leaves it what it has, with the same toplevels standing, or ends it for an event that
-- wasn't queued.
abbrev pub OwnStays : Type 0
OwnStays =
    (act : Act) (done : Done) (c : ℕ) (old new : Desktop) → client_of act done ≢ Some c → Happens act done old new
    → KeepsItsOwn c old new

-- The middle of a step, where nobody points: events for clients that live weren't queued, and those clients are to end.
use Rattle.std.specs.Prelude.{ℕ, suc, Bool, false, is_some, slice_index_or, ◌≡◌, ◌≢◌, ◌++◌, List, [], ◌∷◌, Option, Some, None, map}
use Rattle.std.specs.Option.{option_map}
use Rattle.wl_client.specs.View.{ClientView, opened}
use Rattle.spec_desktop.specs.declared.cause.Cause.{Cause}
use Rattle.spec_desktop.specs.Desktop.{Desktop, Resident, client_at}
use Rattle.wl_requests.specs.declared.residents.Resident.{Resident as Kept}
use Rattle.wl_surface.specs.Surfaces.{history_in}
use Rattle.spec_desktop.specs.Settling.{Midstep, Strike, unstruck}
use Rattle.wl_clients.specs.Agreement.{numbers_in}
use Rattle.wl_clients.specs.View.{DeskView}
use Rattle.wl_scene.specs.StackedAgreement.{AreNumberedOnce}
use Rattle.wl_clients.specs.Agreeing.{Agrees}

-- the same, as if each event had been queued
abbrev pub opened_desk : DeskView → DeskView
opened_desk v = record v { clients = map (option_map opened) v.clients }

-- the client of this number is to end, if an event for it wasn't queued, and why
abbrev pub strike_for : ℕ → Option Cause → List Strike
strike_for c None = []
strike_for c (Some cause) = record { client = c; cause = cause } ∷ []

abbrev pub strike_of : ℕ → Option ClientView → List Strike
strike_of c None = []
strike_of c (Some v) = strike_for c v.refused

-- those that are to end, of clients that have the numbers from this one on
abbrev pub strikes_from : ℕ → List (Option ClientView) → List Strike
strikes_from c [] = []
strikes_from c (v ∷ vs) = strike_of c v ++ strikes_from (suc c) vs

-- a client for which an event wasn't queued lives
abbrev pub RefusedLives : Option ClientView → Type 0
RefusedLives None = Unit {0}
RefusedLives (Some v) = v.refused ≢ None → v.ended ≡ None

-- What is kept agrees with the desktop as if each event had been queued; those are to end for which one wasn't,
-- and live.
pub record IsMid (v : DeskView) (m : Midstep) : Type 0 where
  pub agrees : Agrees (opened_desk v) m.desktop
  pub struck : strikes_from 1 v.clients ≡ m.struck
  pub alive : (k : ℕ) → RefusedLives (slice_index_or v.clients k None)

-- the first that is to end
abbrev pub first_struck : List Strike → Option ℕ
first_struck [] = None
first_struck (s ∷ ss) = Some s.client

-- A step begins so with nobody to end, and ends so.
abbrev pub MidBeginsAndEnds : Type 0
MidBeginsAndEnds =
    (v : DeskView) (d : Desktop) → (Agrees v d → IsMid v (unstruck d)) × (IsMid v (unstruck d) → Agrees v d)

-- In the middle of a step too no number is that of two surfaces of a client.
abbrev pub MidIsNumberedOnce : Type 0
MidIsNumberedOnce = (v : DeskView) (m : Midstep) → IsMid v m → (c : ℕ) → AreNumberedOnce (numbers_in v.clients c)

-- In the middle of a step too a surface of a client that lives has a number as long as it is there.
abbrev pub MidNamesSurfaces : Type 0
MidNamesSurfaces =
    (v : DeskView) (m : Midstep) (c id : ℕ) (r : Resident) → IsMid v m → client_at c m.desktop ≡ Some r → r.peer.status ≡ None
    → is_some (numbers_in v.clients c id) ≡ is_some (history_in id r.owned.surfaces)

-- an event for the client at a place wasn't queued
abbrev pub is_refused : {A : Type 0} → Option (Kept A) → Bool
is_refused None = false
is_refused (Some r) = is_some r.client.refused

-- The serials of the latest press and release that one client was told of, among those of all.
use Rattle.std.specs.Prelude.{ℕ, zero, suc, ◌≡◌, ◌≢◌, Bool, true, false, Option, Some, None, List, [], ◌∷◌}
use Rattle.spec_desktop.specs.Desktop.{Resident}
use Rattle.wl_clients.specs.Pointing.{IsLatest}
use Rattle.wl_clients.specs.declared.grabs.Latest.{Latest}
use Rattle.wl_desk.specs.View.{latest_of}

-- those of the client with this number become others
abbrev pub changed_at : (Latest → Latest) → ℕ → List Latest → List Latest
changed_at change k [] = []
changed_at change zero (l ∷ latest) = change l ∷ latest
changed_at change (suc k) (l ∷ latest) = l ∷ changed_at change k latest

abbrev pub changed_of : (Latest → Latest) → ℕ → List Latest → List Latest
changed_of change zero latest = latest
changed_of change (suc k) latest = changed_at change k latest

-- a press was told with this serial, or a release
abbrev pub noted_by : Bool → ℕ → Latest → Latest
noted_by true serial latest = record latest { press = Some serial }
noted_by false serial latest = record latest { release = Some serial }

-- a change of a client leaves its serials
abbrev pub KeepsSerials : (Resident → Resident) → Type 0
KeepsSerials change = (r : Resident) → ((change r).press ≡ r.press) × ((change r).release ≡ r.release)

-- A client changes so, if it is there: these are the serials then that it has if it lives, and the others stay.
pub record AreNoted (was now : List Latest) (c : ℕ) (change : Resident → Resident) (o : Option Resident) : Type 0 where
  pub own :
      (r : Resident) → o ≡ Some r → r.peer.status ≡ None → IsLatest (latest_of was c) (Some r)
      → IsLatest (latest_of now c) (Some (change r))
  pub others : (k : ℕ) → k ≢ c → latest_of now k ≡ latest_of was k

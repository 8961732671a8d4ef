-- What a desk keeps, lent to be painted, stands for each desktop that agrees.
use Rattle.std.proofs.Common.{◌≡◌, ℕ, zero, suc, Option, Some, None, refl, ap}
use Rattle.std.specs.Prelude.{slice_index_or}
use Rattle.std.specs.Option.{option_map}
use Rattle.spec_desktop.specs.Objects.{nothing}
use Rattle.wl_client.specs.View.{ClientView}
use Rattle.wl_store.specs.Stores.{Stock}
use Rattle.wl_surface.specs.Slots.{Slots, no_slots}
use Rattle.wl_surface.specs.Surfaces.{no_surfaces}
use Rattle.spec_desktop.specs.Desktop.{Desktop, Resident, client_at, owned_in, owned_of, place}
use Rattle.wl_scene.specs.Hit.{AreKept}
use Rattle.wl_scene.specs.Hit.{slots_or_none}
use Rattle.wl_clients.specs.Painting.{AreLent}
use Rattle.wl_scene.specs.Hit.{IsStoodFor}
use Rattle.wl_clients.specs.Agreement.{Matches, IsPlace, numbers_in, numbers_of}
use Rattle.wl_clients.specs.View.{DeskView, OwnedView}
use Rattle.wl_clients.specs.Lent.{client_lent, slots_lent}

-- nothing is kept of a client that isn't there
nothing-stood : IsStoodFor nothing no_slots no_surfaces
nothing-stood = record { once = λ a b number named other. absurd (cc); stand = λ number. tt }

abbrev slots_seen : Option OwnedView → Slots
slots_seen o = slots_or_none (option_map (λ (v : OwnedView). v.surfaces) o)

abbrev stores_in : Option ClientView → Option Stock
stores_in x = option_map (λ v. v.stores) x

abbrev stores_of : Option Resident → Option Stock
stores_of r = option_map (λ r. r.peer.stores) r

place-lent : (x : Option ClientView) (o : Option OwnedView) (r : Option Resident) → IsPlace x o r → (stores_in x ≡ stores_of r) × IsStoodFor (numbers_of x) (slots_seen o) (owned_of r).surfaces
place-lent None None None here = (refl, nothing-stood)
place-lent (Some v) (Some o) (Some r) here = (ap Some here.peer.stores, record { once = here.owns.surfaces.once; stand = here.owns.surfaces.stand })
place-lent None None (Some r) here = absurd here
place-lent None (Some o) None here = absurd here
place-lent None (Some o) (Some r) here = absurd here
place-lent (Some v) None None here = absurd here
place-lent (Some v) None (Some r) here = absurd here
place-lent (Some v) (Some o) None here = absurd here

module _ (v : DeskView) (d : Desktop) (a : Matches v d) where
  here : (k : ℕ) → (stores_in (slice_index_or v.clients k None) ≡ stores_of (place d.clients k))
      × IsStoodFor (numbers_of (slice_index_or v.clients k None)) (slots_seen (slice_index_or v.owned k None)) (owned_of (place d.clients k)).surfaces
  here k = place-lent (slice_index_or v.clients k None) (slice_index_or v.owned k None) (place d.clients k) (a.clients k)

  stores-lent : (c : ℕ) → stores_in (client_lent v.clients c) ≡ stores_of (client_at c d)
  stores-lent zero = refl
  stores-lent (suc k) = (here k).0

  pub surfaces-lent : (c : ℕ) → IsStoodFor (numbers_in v.clients c) (slots_lent v.owned c) (owned_in d c).surfaces
  surfaces-lent zero = nothing-stood
  surfaces-lent (suc k) = (here k).1

  pub agrees-lent : AreLent (client_lent v.clients) (slots_lent v.owned) (numbers_in v.clients) v.pile.windows d
  agrees-lent = record { stores = stores-lent; surfaces = surfaces-lent; windows = a.windows }

  -- what is kept of the surfaces and of the windows stands for the desktop's
  pub agrees-kept : AreKept (slots_lent v.owned) (numbers_in v.clients) v.pile.windows d
  agrees-kept = record { surfaces = surfaces-lent; windows = a.windows }

-- What is kept of the clients, as it is lent to paint the windows of the output.
use Rattle.std.specs.Prelude.{ℕ, zero, suc, List, Option, None, slice_index_or}
use Rattle.std.specs.Option.{option_map}
use Rattle.wl_surface.specs.Slots.{Slots, no_slots}
use Rattle.wl_client.specs.View.{ClientView}
use Rattle.wl_scene.specs.Hit.{slots_or_none}
use Rattle.wl_clients.specs.View.{OwnedView}

-- What is kept of client c is lent at index c - 1. There is no client 0.
abbrev pub client_lent : List (Option ClientView) → ℕ → Option ClientView
client_lent clients zero = None
client_lent clients (suc index) = slice_index_or clients index None

-- So is what is kept of its surfaces.
abbrev pub slots_lent : List (Option OwnedView) → ℕ → Slots
slots_lent owned zero = no_slots
slots_lent owned (suc index) = slots_or_none (option_map (λ (o : OwnedView). o.surfaces) (slice_index_or owned index None))

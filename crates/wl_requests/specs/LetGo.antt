-- What a request that applied surfaces leaves of the buffers that were shown before.
use Rattle.std.specs.Prelude.{ℕ, ◌≡◌, ◌==◌, ◌&&◌, List, map}
use Rattle.std.specs.List.{list_any}
use Rattle.std.specs.List.Sorted.{IsStrictlyIncreasing}
use Rattle.wl_client.specs.Agreement.{IsPeer}
use Rattle.wl_surface.specs.declared.applied.Applied.{Applied}
use Rattle.wl_surface.specs.Tree.{AreOnce}
use Rattle.law_desktop.specs.Freed.{freed_of}
use Rattle.law_desktop.specs.Owning.{AreKept}
use Rattle.spec_desktop.specs.Objects.{ById}
use Rattle.spec_desktop.specs.Desktop.{Resident}
use Rattle.spec_desktop.specs.Replies.{has_object}
use Rattle.spec_desktop.specs.Step.{letting_go}
use Rattle.wl_requests.specs.declared.residents.Resident.{Resident as Kept}
use Rattle.wl_surface.specs.Kept.{buffer_of}
use Rattle.wl_surface.specs.Request.{Buffer}
use Rattle.wl_shell.specs.Popups.{is_among}

-- the buffers that are freed, as they were shown
abbrev pub freed_in : {A : Type 0} → Applied A → List Buffer
freed_in told = freed_of told.freed.items (map buffer_of told.shown.items)

-- The stores of those go that are over, and nothing else of the client changes; and these are the wl_buffers of those whose wl_buffers are
-- there, in rising id (wayland.xml, wl_buffer.release).
pub record IsLetGo {A : Type 0} (told : Applied A) (released : List ℕ) (old new : Kept A) : Type 0 where
  pub stores :
      (r : Resident) (numbers : ById ℕ) → IsPeer old.client r.peer
      → AreKept numbers old.owned.surfaces.states old.owned.surfaces.family r.owned.surfaces → AreOnce told.freed.items
      → IsPeer new.client (letting_go (freed_in told) r).peer
  pub only : new.client ≡ record old.client { stores = new.client.stores }
  pub rising : IsStrictlyIncreasing released
  pub those :
      (r : Resident) → IsPeer old.client r.peer → (object : ℕ)
      → is_among object released ≡ list_any (λ b. (b.object == object) && has_object r b) (freed_in told)

use Rattle.std.proofs.Common.{◌≡◌, ◌==◌, ◌&&◌, ℕ, map, take}
use Rattle.std.specs.List.{list_any}
use Rattle.std.specs.List.Sorted.{IsStrictlyIncreasing}
use Rattle.wl_client.specs.Agreement.{IsPeer}
use Rattle.law_desktop.specs.Freed.{freed_of}
use Rattle.spec_desktop.specs.Desktop.{Resident}
use Rattle.spec_desktop.specs.Replies.{has_object}
use Rattle.wl_shell.specs.Popups.{is_among}
use Rattle.wl_surface.specs.Kept.{buffer_of}
use Rattle.wl_requests.proofs.residents.Resident.released.Given as goal

-- those of them that were looked at
abbrev pub invariant-loop-number : goal.invariant-loop-number
invariant-loop-number g l = record {
  rising : IsStrictlyIncreasing l.ids.items;
  those : (r : Resident) → IsPeer l.self.client r.peer → (object : ℕ)
      → is_among object l.ids.items ≡ list_any (λ b. (b.object == object) && has_object r b) (freed_of (take l.number-index l.freed) (map buffer_of l.shown.items));
}

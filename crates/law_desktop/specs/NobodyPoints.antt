-- Desktops where nobody points; their clients may have subsurfaces, popups and wl_pointers.
use Rattle.std.specs.Prelude.{ℕ, ◌≡◌, Some, None}
use Rattle.spec_desktop.specs.Pointer.{first_pointer}
use Rattle.spec_desktop.specs.Changing.{grab_holder}
use Rattle.spec_desktop.specs.Desktop.{Desktop, Resident, client_at}

-- The pointer isn't anywhere, no client was told of a press or of a release of a button, and none holds a grab.
pub record NobodyPoints (d : Desktop) : Type 0 where
  pub pointer : d.pointer ≡ first_pointer
  pub told : (c : ℕ) (r : Resident) → client_at c d ≡ Some r → (r.press ≡ None) × (r.release ≡ None)
  pub grabs : grab_holder d ≡ None

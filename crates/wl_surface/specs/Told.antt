-- What a call tells if it applies nothing.
use Rattle.std.specs.Prelude.{◌≡◌, []}
use Rattle.wl_surface.specs.declared.applied.Applied.{Applied}

-- no change, no freed buffer, and none that was shown
abbrev pub TellsNothing : {A : Type 0} → Applied A → Type 0
TellsNothing told = (told.changes.items ≡ []) × (told.freed.items ≡ []) × (told.shown.items ≡ [])

-- Laws of the plain desktop: a step of one client leaves every other as it was, and the output stays.
use Rattle.std.specs.Prelude.{ℕ, ◌≡◌, ◌≢◌, ◌⊎◌, false, [], Option, Some, None}
use Rattle.spec_desktop.specs.Pointer.{first_pointer}
use Rattle.spec_desktop.specs.Changing.{grab_holder}
use Rattle.spec_desktop.specs.Desktop.{Desktop, Resident, client_at, toplevels_of}
use Rattle.spec_desktop.specs.declared.answers.Done.{Done}
use Rattle.spec_desktop.specs.Act.{Act, is_tick}
use Rattle.spec_desktop.specs.Happens.{Happens}
use Rattle.law_desktop.specs.Others.{client_of}
use Rattle.law_desktop.specs.Acts.{LeavesPointer}

-- a client that has no wl_pointers, or isn't there
abbrev pub HasNoPointers : Option Resident → Type 0
HasNoPointers None = Unit {0}
HasNoPointers (Some r) = r.pointers ≡ []

-- Whatever happens but a frame leaves each client that it isn't a step of as it was: its status, requests, objects, serials, unsent bytes
-- and rest, what it owns, with its popups, and the places and the order of its toplevels; where nobody points. So
-- it is whatever the client has where the pointer is left alone; and what a motion and a button leave of each client without wl_pointers,
-- where no client holds a grab.
abbrev pub OthersStay : Type 0
OthersStay =
    (act : Act) (done : Done) (old new : Desktop) (other : ℕ) → is_tick act ≡ false → old.pointer ≡ first_pointer
    → LeavesPointer act ⊎ (HasNoPointers (client_at other old) × (grab_holder old ≡ None)) → Happens act done old new
    → client_of act done ≢ Some other
    → (client_at other new ≡ client_at other old) × (toplevels_of other new ≡ toplevels_of other old)

-- Whatever happens leaves the output as it was.
abbrev pub OutputStays : Type 0
OutputStays = (act : Act) (done : Done) (old new : Desktop) → Happens act done old new → new.output ≡ old.output

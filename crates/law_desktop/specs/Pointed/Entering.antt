-- wl_seat.get_pointer of the client that has the focus: the new wl_pointer, and it alone, is told of the focus.
use Rattle.std.specs.Prelude.{ℕ, ◌≡◌, true, Some, List, [], ◌∷◌}
use Rattle.spec_desktop.specs.Told.{Said}
use Rattle.spec_desktop.specs.Changing.{drawing, has_focus}
use Rattle.spec_desktop.specs.Demand.{GetPointer}
use Rattle.spec_desktop.specs.Desktop.{Desktop, Resident, unpointed}
use Rattle.spec_desktop.specs.Happens.{Serves}
use Rattle.spec_desktop.specs.Replies.{entered_at, focus_window}
use Rattle.spec_desktop.specs.Settling.{EndsAndSettles, Midstep, Tells, unstruck}
use Rattle.spec_desktop.specs.Stacked.{all_windows}
use Rattle.spec_desktop.specs.Through.{ServesThrough, settling_through}
use Rattle.law_desktop.specs.Pointed.Pointed.{MovedStands, asked, put_back}

-- wl_pointer.enter of the surface that has the focus
abbrev pub new_entered : ℕ → Desktop → Resident → List Said
new_entered id d r = entered_at id r.peer.serial d.pointer.place (focus_window d.pointer.focus (all_windows d))

-- The client of a new wl_pointer draws a serial, and is told of the focus with it; a client that ended isn't.
abbrev pub TellsNew : ℕ → ℕ → Desktop → Midstep → Type 0
TellsNew id c d told = Tells (drawing true) (new_entered id d) c (unstruck d) told

-- Where what is moved stands, get_pointer of the client that has the focus is served with the pointer put aside; then the pointer is put
-- back, the new wl_pointer is told, its client ends where that isn't queued, and the focus is settled.
abbrev pub NewPointerApart : Type 0
NewPointerApart =
    (c id version : ℕ) (d e new : Desktop) (told : Midstep) → MovedStands d → asked c d ≡ Some (GetPointer id version)
    → has_focus c d.pointer.focus ≡ true → Serves c (unpointed d) e → TellsNew id c (put_back c d e) told
    → EndsAndSettles told new → Serves c d new

-- So it is with the desktops on the way: its own change is all that it leads through with the pointer put aside.
abbrev pub NewPointerApartThrough : Type 0
NewPointerApartThrough =
    (c id version : ℕ) (d : Desktop) (path : List Desktop) (e : Desktop) (told : Midstep) → MovedStands d
    → asked c d ≡ Some (GetPointer id version) → has_focus c d.pointer.focus ≡ true → ServesThrough c (unpointed d) path e
    → TellsNew id c (put_back c d e) told
    → (path ≡ e ∷ e ∷ [])
    × ((later : List Desktop) (new : Desktop) → settling_through later new told → ServesThrough c d later new)

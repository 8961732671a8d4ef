-- A message may be served with the pointer put aside: then the pointer is put back, and its focus is settled.
use Rattle.std.specs.Prelude.{ℕ, ◌≡◌, List, [], ◌∷◌, ◌++◌, map}
use Rattle.spec_desktop.specs.Desktop.{Desktop, unpointed}
use Rattle.spec_desktop.specs.Happens.{Serves}
use Rattle.spec_desktop.specs.Settling.{SettlesAll, unstruck}
use Rattle.spec_desktop.specs.Through.{ServesThrough, SettlesAllThrough}
use Rattle.law_desktop.specs.Pointed.Pointed.{AsksNoFocus, MovedStands, put_back}

-- Where what is moved stands, a message leads where it leads with the pointer put aside, and from there, with the pointer put back, where
-- the focus is settled: all but wl_seat.get_pointer of the client that has the focus.
abbrev pub PointerApart : Type 0
PointerApart =
    (c : ℕ) (d e new : Desktop) → MovedStands d → AsksNoFocus c d → Serves c (unpointed d) e
    → SettlesAll 33 (unstruck (put_back c d e)) new → Serves c d new

-- A step that leads through these desktops, with the pointer put aside, settles nothing at its end: the last of them stands there twice.
-- With the pointer put back it leads through the same, and then through those of the settling.
abbrev pub SettlesOn : (Desktop → Desktop) → (List Desktop → Desktop → Type 0) → List Desktop → Desktop → Type 0
SettlesOn put Step path e =
    (before : List Desktop) × (path ≡ before ++ e ∷ e ∷ [])
    × ((later : List Desktop) (new : Desktop) → SettlesAllThrough 33 (unstruck (put e)) later new
    → Step (map put before ++ put e ∷ later) new)

-- So it is with the desktops on the way.
abbrev pub PointerApartThrough : Type 0
PointerApartThrough =
    (c : ℕ) (d : Desktop) (path : List Desktop) (e : Desktop) → MovedStands d → AsksNoFocus c d
    → ServesThrough c (unpointed d) path e → SettlesOn (put_back c d) (ServesThrough c d) path e

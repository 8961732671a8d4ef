-- The seats of clients: which wl_pointers a client that lives has, that a new one shows nothing, and that a client that ended stays so.
use Rattle.std.specs.Prelude.{ℕ, ◌≡◌, ◌≢◌, ◌≤◌, ◌⊎◌, Bool, true, Some, None, Ok, List, [], length}
use Rattle.spec_desktop.specs.declared.cause.Cause.{Cause}
use Rattle.spec_desktop.specs.Pointer.{first_pointer}
use Rattle.spec_desktop.specs.declared.answers.Done.{Done}
use Rattle.spec_desktop.specs.declared.answers.Done.TheVariants as gave
use Rattle.spec_desktop.specs.Act.{Button, Close, Connect}
use Rattle.spec_desktop.specs.Changing.{in_rising_order}
use Rattle.spec_desktop.specs.Demand.{GetPointer}
use Rattle.spec_desktop.specs.Desktop.{Desktop, Resident, client_at, status_in}
use Rattle.spec_desktop.specs.Happenings.{Happening, Leads, Message, Single}
use Rattle.spec_desktop.specs.Settling.{Midstep}
use Rattle.spec_desktop.specs.Stacked.{all_windows}
use Rattle.spec_desktop.specs.Through.{ServesThrough}
use Rattle.law_desktop.specs.Pointed.Pointed.{asked}
use Rattle.law_desktop.specs.Pointed.Rounds.{AreRounds, AreToEnd}

-- ---- wl_pointers

-- a client had the wl_pointers that it has, and asked for none
abbrev pub HadPointers : Happening → Desktop → ℕ → Resident → Type 0
HadPointers h d c q =
    (r : Resident) × (client_at c d ≡ Some r) × (r.peer.status ≡ None) × (q.pointers ≡ r.pointers)
    × ((id version : ℕ) → h ≡ Message c → asked c d ≡ Some (GetPointer id version) → ⊥)

-- or it asked for one more (wayland.xml, wl_seat.get_pointer)
abbrev pub AskedForPointer : Happening → Desktop → ℕ → Resident → Type 0
AskedForPointer h d c q =
    (r : Resident) × (id : ℕ) × (version : ℕ) × (client_at c d ≡ Some r) × (r.peer.status ≡ None) × (h ≡ Message c)
    × (asked c d ≡ Some (GetPointer id version)) × (q.pointers ≡ in_rising_order id r.pointers)

-- or it came, and has none yet
abbrev pub CameWithoutPointers : Happening → ℕ → Resident → Type 0
CameWithoutPointers h c q = (h ≡ Single Connect (gave.Connect (Ok c))) × (q.pointers ≡ [])

abbrev pub HasPointersAfter : Happening → Desktop → ℕ → Resident → Type 0
HasPointersAfter h d c q = HadPointers h d c q ⊎ (AskedForPointer h d c q ⊎ CameWithoutPointers h c q)

-- Only wl_seat.get_pointer changes which wl_pointers a client that lives has.
abbrev pub PointersStay : Type 0
PointersStay =
    (h : Happening) (d : Desktop) (path : List Desktop) (e : Desktop) (c : ℕ) (q : Resident)
    → Leads h d path e → client_at c e ≡ Some q → q.peer.status ≡ None → HasPointersAfter h d c q

-- ---- serials

-- a client was told of no other press and release than before
abbrev pub HadSerials : Desktop → ℕ → Resident → Type 0
HadSerials d c q =
    (r : Resident) × (client_at c d ≡ Some r) × (r.peer.status ≡ None) × (q.press ≡ r.press) × (q.release ≡ r.release)

-- or it came, and was told of none yet
abbrev pub CameWithoutSerials : Happening → ℕ → Resident → Type 0
CameWithoutSerials h c q = (h ≡ Single Connect (gave.Connect (Ok c))) × (q.press ≡ None) × (q.release ≡ None)

-- no button is pressed or released
abbrev pub IsNoButton : Happening → Type 0
IsNoButton h = (time button : ℕ) (pressed : Bool) (done : Done) → h ≢ Single (Button time button pressed) done

-- Only a button changes of which press and of which release a client that lives was told last.
abbrev pub SerialsStay : Type 0
SerialsStay =
    (h : Happening) (d : Desktop) (path : List Desktop) (e : Desktop) (c : ℕ) (q : Resident) → IsNoButton h
    → Leads h d path e → client_at c e ≡ Some q → q.peer.status ≡ None → HadSerials d c q ⊎ CameWithoutSerials h c q

-- Where nobody points, a client that gets a wl_pointer and lives on leaves all windows as they are.
abbrev pub NewPointerShowsNothing : Type 0
NewPointerShowsNothing =
    (c id version : ℕ) (d : Desktop) (path : List Desktop) (e : Desktop) → d.pointer ≡ first_pointer
    → asked c d ≡ Some (GetPointer id version) → ServesThrough c d path e → status_in c e ≡ None
    → all_windows e ≡ all_windows d

-- ---- ends

-- A client that ended stays so, for the same cause, whatever happens but that its number is given back; and round by round.
abbrev pub EndedStay : Type 0
EndedStay =
    ((h : Happening) (d : Desktop) (path : List Desktop) (e : Desktop) (c : ℕ) (why : Cause) → length d.clients ≤ 32
    → Leads h d path e → h ≢ Single (Close c) (gave.Close true) → status_in c d ≡ Some why → status_in c e ≡ Some why)
    × ((n : ℕ) (old new : Midstep) (path : List Desktop) (c : ℕ) (why : Cause) → AreToEnd old.struck old.desktop
    → AreRounds n old path new → status_in c old.desktop ≡ Some why → status_in c new.desktop ≡ Some why)

-- Each round ends a client that lives: where none has ended that hadn't before, there was no round.
abbrev pub RoundsEndClients : Type 0
RoundsEndClients =
    (n : ℕ) (old new : Midstep) (path : List Desktop) → AreToEnd old.struck old.desktop → AreRounds n old path new
    → ((c : ℕ) → status_in c new.desktop ≡ status_in c old.desktop) → n ≡ 0

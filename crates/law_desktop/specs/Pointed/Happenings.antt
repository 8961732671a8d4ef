-- Whatever happens but a message, a motion and a button may happen with the pointer put aside too.
use Rattle.std.specs.Prelude.{ℕ, ◌≡◌, ◌⊎◌, ◌&&◌, not, is_none, is_some, if◌then◌else◌, Bool, true, false, Option, Some, None}
use Rattle.std.specs.Prelude.{List, [], ◌∷◌}
use Rattle.spec_desktop.specs.declared.cause.Cause.{Cause}
use Rattle.spec_desktop.specs.Peer.{ended}
use Rattle.spec_desktop.specs.Pointer.{Pointer, Target}
use Rattle.spec_desktop.specs.declared.answers.Done.{Done}
use Rattle.spec_desktop.specs.declared.answers.Done.TheVariants as gave
use Rattle.spec_desktop.specs.Act.{Act, Connect, Feed, Store, Leave, Tick, Send, Close, Motion, Button}
use Rattle.spec_desktop.specs.Desktop.{Desktop, Resident, status_in, unpointed}
use Rattle.spec_desktop.specs.Happenings.{Happening, Leads, Message, Receive, Single, Starve}
use Rattle.spec_desktop.specs.Settling.{EndsAndSettles, Midstep, SettlesAll, becomes, pointer_without, unstruck}
use Rattle.spec_desktop.specs.Through.{settling_through}
use Rattle.law_desktop.specs.Pointed.Apart.{SettlesOn}
use Rattle.law_desktop.specs.Pointed.Pointed.{pointed}

-- the middle of a step, with this pointer
abbrev pub with_pointer : Pointer → Midstep → Midstep
with_pointer p m = record m { desktop = pointed p m.desktop }

-- ---- where nobody is told and nobody ends

-- a client goes that wasn't there, or had ended before
abbrev pub is_gone_before : Done → Bool
is_gone_before (gave.Gone lived) = not lived
is_gone_before done = false

-- a client connects, is written to, sent to or closed, or is gone already
abbrev pub is_quiet_act : Act → Done → Bool
is_quiet_act Connect done = true
is_quiet_act (Feed client piece) done = false
is_quiet_act (Store client store at bytes) done = true
is_quiet_act (Leave client) done = is_gone_before done
is_quiet_act (Tick time) done = false
is_quiet_act (Send client count) done = true
is_quiet_act (Close client) done = true
is_quiet_act (Motion time x y) done = false
is_quiet_act (Button time button pressed) done = false

-- or its bytes come
abbrev pub is_quiet : Happening → Bool
is_quiet (Receive client piece) = true
is_quiet (Message client) = false
is_quiet (Starve client) = false
is_quiet (Single act done) = is_quiet_act act done

-- The pointer stays as it is.
abbrev pub QuietApart : Type 0
QuietApart =
    (h : Happening) (d : Desktop) (path : List Desktop) (e : Desktop)
    → is_quiet h ≡ true → Leads h (unpointed d) path e
    → Leads h d (pointed d.pointer e ∷ []) (pointed d.pointer e)

-- ---- where its client ends

-- memory runs out, or a client that lives goes
abbrev pub IsEndOf : ℕ → Happening → Type 0
IsEndOf c h = (h ≡ Starve c) ⊎ (h ≡ Single (Leave c) (gave.Gone true))

-- The pointer leaves the client, and its focus is settled.
abbrev pub EndsApart : Type 0
EndsApart =
    (c : ℕ) (h : Happening) (d : Desktop) (path : List Desktop) (e : Desktop)
    → IsEndOf c h → Leads h (unpointed d) path e
    → SettlesOn (pointed (pointer_without c d.pointer)) (Leads h d) path e

-- The same of the end of a client for whatever cause, with the desktops on the way and without.
abbrev pub EndedApart : Type 0
EndedApart =
    (c : ℕ) (why : Cause) (r : Resident) (d : Desktop) (e : Desktop)
    → ((path : List Desktop) → settling_through path e (unstruck (becomes c r (ended why r.peer) (unpointed d)))
    → SettlesOn (pointed (pointer_without c d.pointer))
    (λ later new. settling_through later new (unstruck (becomes c r (ended why r.peer) d))) path e)
    × ((new : Desktop) → EndsAndSettles (unstruck (becomes c r (ended why r.peer) (unpointed d))) e
    → SettlesAll 33 (unstruck (pointed (pointer_without c d.pointer) e)) new
    → EndsAndSettles (unstruck (becomes c r (ended why r.peer) d)) new)

-- ---- a frame is shown

-- a client ended from one desktop to the other
abbrev pub has_ended : ℕ → Desktop → Desktop → Bool
has_ended c d e = is_none (status_in c d) && is_some (status_in c e)

abbrev pub unless_ended : Desktop → Desktop → Option Target → Option Target
unless_ended d e None = None
unless_ended d e (Some t) = if has_ended t.client d e then None else Some t

-- the pointer of the one where it has left each client that ended
abbrev pub pointer_left : Desktop → Desktop → Pointer
pointer_left d e = record d.pointer { focus = unless_ended d e d.pointer.focus; move = unless_ended d e d.pointer.move }

-- The pointer leaves each client that ended since an event of its wasn't queued, and its focus is settled.
abbrev pub FramesApart : Type 0
FramesApart =
    (time : ℕ) (done : Done) (d : Desktop) (path : List Desktop) (e : Desktop)
    → Leads (Single (Tick time) done) (unpointed d) path e
    → SettlesOn (λ x. pointed (pointer_left d x) x) (Leads (Single (Tick time) done) d) path e

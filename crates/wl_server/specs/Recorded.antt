-- The recording of what was asked of a session: which lines stand in it.
use Rattle.std.specs.Prelude.{ℕ, zero, suc, ◌≡◌, ◌+◌, ◌-◌, ⊤, Bool, true, false, nat_le, if◌then◌else◌, List, [], ◌∷◌, ◌++◌, drop, length, replicate, take}
use Rattle.std.specs.Prelude.{Option, Some, None, Ok}
use Rattle.spec_desktop.specs.Act.{Act, Connect, Feed, Store, Leave, Tick, Send, Close, Motion, Button, peer_at, status_of}
use Rattle.spec_desktop.specs.Desktop.{Desktop, empty}
use Rattle.spec_desktop.specs.Happens.{Happens}
use Rattle.spec_desktop.specs.declared.answers.Done.{Done}
use Rattle.spec_desktop.specs.declared.answers.Done.TheVariants as gave
use Rattle.spec_desktop.specs.declared.answers.Fed.{Fed}
use Rattle.spec_desktop.specs.declared.answers.Fed.TheVariants.{Alive, Ended, NoClient}
use Rattle.spec_desktop.specs.declared.cause.Cause.{Cause}
use Rattle.spec_desktop.specs.declared.cause.Cause.TheVariants as cause
use Rattle.wl_recording.specs.Line as line
use Rattle.wl_recording.specs.Line.{Asked}
use Rattle.wl_recording.specs.Recording.{Differs, Feeds, HoldsTo, Recorded, goes, joined, left, number_of, stores}
use Rattle.wl_recording.specs.declared.place.Place.{Place}
use Rattle.wl_session.specs.Agreeing.{Agrees}
use Rattle.wl_session.specs.Course.{AreParts, happenings, moment}
use Rattle.wl_session.specs.Events.{AreEvents, Event, Moment}
use Rattle.wl_session.specs.StoreBytes.{store_bytes_of}
use Rattle.wl_session.specs.View.{SessionView}

-- what the lines so far ask, and which client of the session has which number there
pub record Notes : Type 0 where
  pub asked : List Asked
  pub clients : List (Option ℕ)

-- nothing is asked, and nobody has a number
abbrev pub no_notes : Notes
no_notes = record { asked = []; clients = replicate 32 None }

-- and these lines more
abbrev pub with_lines : List Asked → Notes → Notes
with_lines more notes = record notes { asked = notes.asked ++ more }

-- ---- a client ended

-- a replay, which takes all bytes that wait for a client after each line, and which has memory, doesn't end it
abbrev pub outlasts : Cause → Bool
outlasts cause.Slow = true
outlasts cause.Memory = true
outlasts other = false

-- So it goes.
abbrev pub goes_if : Bool → Option ℕ → List Asked
goes_if true client = goes client
goes_if false client = []

-- One that ended has no number there any more.
abbrev pub looked_at : ℕ → Fed → Notes → Notes
looked_at client Alive notes = notes
looked_at client (Ended cause) notes =
    record { asked = notes.asked ++ goes_if (outlasts cause) (number_of client notes.clients); clients = left client notes.clients }
looked_at client NoClient notes = record notes { clients = left client notes.clients }

-- the first n clients are looked at, one after another
unfoldable pub looked_up_to : ℕ → Desktop → Notes → Notes
looked_up_to zero d notes = notes
looked_up_to (suc n) d notes = looked_at (suc n) (status_of (peer_at (suc n) d)) (looked_up_to n d notes)

-- all are, so often; the second time changes nothing
unfoldable pub looked : ℕ → Desktop → Notes → Notes
looked zero d notes = notes
looked (suc n) d notes = looked_up_to 32 d (looked n d notes)

-- ---- an act

-- a client has a number once it connected
abbrev pub NotesConnected : Done → Notes → Notes → Type 0
NotesConnected (gave.Connect (Ok client)) from to = to ≡ record { asked = from.asked ++ line.Connect ∷ []; clients = joined client from.clients }
NotesConnected done from to = to ≡ from

-- what a store holds from its byte `at` on, so many bytes, if that is all within it
abbrev pub held_at : ℕ → ℕ → Option (List ℕ) → Option (List ℕ)
held_at at count None = None
held_at at count (Some held) = if nat_le (at + count) (length held) then Some (take count (drop at held)) else None

-- Of bytes that come into a store those are noted that differ from what it holds in their place, from
-- the first to the last. Nothing is noted where they pass its end, or where it isn't live.
abbrev pub NotesPut : Place → List ℕ → Option (List ℕ) → Notes → Notes → Type 0
NotesPut place bytes None from to = to ≡ from
NotesPut place bytes (Some held) from to =
    (first : ℕ) × (last : ℕ) × Differs bytes held first last
    × (to ≡ with_lines (stores (number_of place.client from.clients) place first (take (last - first) (drop first bytes))) from)

-- What is noted of an act, by the desktop that it finds and by its answer. Nothing is noted of bytes
-- that were sent, and of a number that is given back.
abbrev pub NotesAct : Desktop → Act → Done → Notes → Notes → Type 0
NotesAct d Connect done from to = NotesConnected done from to
NotesAct d (Feed client piece) done from to =
    (more : List Asked) × Feeds (number_of client from.clients) piece more × (to ≡ with_lines more from)
NotesAct d (Store client store at bytes) done from to =
    NotesPut (record { client = client; store = store; at = at }) bytes (held_at at (length bytes) (store_bytes_of store (peer_at client d))) from to
NotesAct d (Leave client) done from to = to ≡ with_lines (goes (number_of client from.clients)) from
NotesAct d (Tick time) done from to = to ≡ with_lines (line.Tick time ∷ []) from
NotesAct d (Send client count) done from to = to ≡ from
NotesAct d (Close client) done from to = to ≡ from
NotesAct d (Motion time x y) done from to = to ≡ with_lines (line.Motion time x y ∷ []) from
NotesAct d (Button time button pressed) done from to = to ≡ with_lines (line.Button time button pressed ∷ []) from

-- A session went on from a moment by these acts, each with its events, and the notes of them stand behind those before: each act is noted behind
-- those that ended before it.
pub data History (start : Moment) (before : Notes) : List Act → List Event → Notes → Moment → Type 0 where
  begins : History start before [] [] before start
  goes_on : {acts : List Act} {events : List Event} {notes next : Notes} {mid end : Moment} (act : Act) (done : Done) (first : List Event) (looks : ℕ)
      → History start before acts events notes mid
      → Happens act done mid.desktop end.desktop → AreParts act done (happenings first) → AreEvents mid first end
      → NotesAct mid.desktop act done (looked (suc looks) mid.desktop notes) next
      → History start before (acts ++ act ∷ []) (events ++ first) next end

-- Behind what its writer held at first a recording holds these notes, unless a write failed: a line for each thing that they ask, 1,000,000 at
-- most, and nothing else.
pub record HoldsNotes {W : Type 0} (contents : W → Option (List ℕ)) (first : Option (List ℕ)) (notes : Notes) (recording : Recorded W) : Type 0 where
  pub clients : recording.clients ≡ notes.clients
  pub holds : HoldsTo 1000000 contents first notes.asked recording

-- A session went on from one without clients, and a recording holds the notes of all that was asked of it, in order.
pub record IsRecordedBy {W : Type 0} (contents : W → Option (List ℕ)) (session : SessionView) (recording : Recorded W) : Type 0 where
  pub width : ℕ
  pub height : ℕ
  pub start : SessionView
  pub begun : Agrees start.desk (empty (record { width = width; height = height }))
  pub acts : List Act
  pub events : List Event
  pub notes : Notes
  pub desktop : Desktop
  pub history : History (moment (empty (record { width = width; height = height })) start) no_notes acts events notes (moment desktop session)
  pub agrees : Agrees session.desk desktop
  pub looks : ℕ
  pub first : Option (List ℕ)
  pub holds : HoldsNotes contents first (looked looks desktop notes) recording

-- the same where there is a recording
abbrev pub IsRecorded : {W : Type 0} → (W → Option (List ℕ)) → SessionView → Option (Recorded W) → Type 0
IsRecorded contents session None = ⊤
IsRecorded contents session (Some recording) = IsRecordedBy contents session recording

-- a session, and the recording of what was asked of it
pub record RecordedView (W : Type 0) : Type 0 where
  pub session : SessionView
  pub recording : Option (Recorded W)

-- ---- what is done to a recording, if there is one

-- the one there is goes on so
abbrev pub OnBoth : {W : Type 0} → (Recorded W → Recorded W → Type 0) → Option (Recorded W) → Option (Recorded W) → Type 0
OnBoth P None None = ⊤
OnBoth P None (Some new) = ⊥
OnBoth P (Some old) None = ⊥
OnBoth P (Some old) (Some new) = P old new

-- whoever ended in a session is looked at
abbrev pub Looks : {W : Type 0} → (W → Option (List ℕ)) → SessionView → Recorded W → Recorded W → Type 0
Looks contents session old new =
    (d : Desktop) → Agrees session.desk d → (first : Option (List ℕ)) (notes : Notes)
    → HoldsNotes contents first notes old → HoldsNotes contents first (looked_up_to 32 d notes) new

-- an act is noted that finds this desktop
abbrev pub NotesAt : {W : Type 0} → (W → Option (List ℕ)) → Desktop → Act → Done → Recorded W → Recorded W → Type 0
NotesAt contents d act done old new =
    (first : Option (List ℕ)) (notes : Notes) → HoldsNotes contents first notes old
    → (next : Notes) × NotesAct d act done notes next × HoldsNotes contents first next new

-- an act is noted, whatever desktop it finds
abbrev pub NotesOf : {W : Type 0} → (W → Option (List ℕ)) → Act → Done → Recorded W → Recorded W → Type 0
NotesOf contents act done old new = (d : Desktop) → NotesAt contents d act done old new

-- an act of a session is noted
abbrev pub NotesIn : {W : Type 0} → (W → Option (List ℕ)) → SessionView → Act → Done → Recorded W → Recorded W → Type 0
NotesIn contents session act done old new = (d : Desktop) → Agrees session.desk d → NotesAt contents d act done old new

-- an act of a session is noted behind those that ended before it
abbrev pub NotesNext : {W : Type 0} → (W → Option (List ℕ)) → SessionView → Act → Done → Recorded W → Recorded W → Type 0
NotesNext contents session act done old new =
    (d : Desktop) → Agrees session.desk d → (first : Option (List ℕ)) (notes : Notes) → HoldsNotes contents first notes old
    → (next : Notes) × NotesAct d act done (looked_up_to 32 d notes) next × HoldsNotes contents first next new

-- it is noted in the recording, if there is one
abbrev pub IsNoted : {W : Type 0} → (W → Option (List ℕ)) → Act → Done → RecordedView W → RecordedView W → Type 0
IsNoted contents act done old new = OnBoth (NotesNext contents old.session act done) old.recording new.recording

-- A recording held some notes behind what its writer held at first. It holds them still, and behind them the notes of these acts.
abbrev pub GoesOn : {W : Type 0} → (W → Option (List ℕ)) → Moment → List Act → List Event → Moment → Recorded W → Recorded W → Type 0
GoesOn contents start acts events end old new =
    (first : Option (List ℕ)) (notes : Notes) → HoldsNotes contents first notes old
    → (looks : ℕ) × (next : Notes) × History start notes acts events next end × HoldsNotes contents first (looked looks end.desktop next) new

-- what was written isn't held back
abbrev pub Flushes : {W : Type 0} → (W → Option (List ℕ)) → Recorded W → Recorded W → Type 0
Flushes contents old new =
    (first : Option (List ℕ)) (notes : Notes) → HoldsNotes contents first notes old → HoldsNotes contents first notes new

-- no write failed
abbrev pub IsWhole : {W : Type 0} → Option (Recorded W) → Type 0
IsWhole None = ⊤
IsWhole (Some recording) = recording.has_failed ≡ false

-- what was asked is recorded, and no write failed
abbrev pub IsAllRecorded : {W : Type 0} → (W → Option (List ℕ)) → SessionView → Option (Recorded W) → Type 0
IsAllRecorded contents session recording = IsRecorded contents session recording × IsWhole recording

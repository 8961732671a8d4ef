-- Which lines of a pointer file a turn takes, and what a session does with them.
use Rattle.std.specs.Prelude.{ℕ, ◌≡◌, nat_le, Bool, true, List, [], ◌∷◌, take, drop, Option, Some, None}
use Rattle.std.specs.List.{prefix_len}
use Rattle.spec_desktop.specs.Act as act
use Rattle.spec_desktop.specs.Act.{Act}
use Rattle.wl_recording.specs.declared.pointer.PointerLine.{PointerLine}
use Rattle.wl_recording.specs.declared.pointer.PointerLine.TheVariants.{Motion, Button, Skip, Bad}

-- its time has come, or it asks nothing
abbrev pub is_due : ℕ → PointerLine → Bool
is_due time (Motion due x y) = nat_le due time
is_due time (Button due code pressed) = nat_le due time
is_due time Skip = true
is_due time Bad = true

-- the lines that are taken: those before the first that isn't due
abbrev pub due_at : ℕ → List PointerLine → List PointerLine
due_at time lines = take (prefix_len (is_due time) lines) lines

-- the lines that are left: those from the first on that isn't due
abbrev pub left_at : ℕ → List PointerLine → List PointerLine
left_at time lines = drop (prefix_len (is_due time) lines) lines

-- The first line is due, and is taken; or it isn't, or there is none, and all stay.
abbrev pub TakesDue : ℕ → Option PointerLine → List PointerLine → List PointerLine → Type 0
TakesDue time (Some line) old new = (old ≡ line ∷ new) × (is_due time line ≡ true)
TakesDue time None old new = (new ≡ old) × (due_at time old ≡ [])

-- The motions and buttons among lines, in their order, each at its own time.
abbrev pub asked_of : List PointerLine → List Act
asked_of [] = []
asked_of (Motion time x y ∷ lines) = act.Motion time x y ∷ asked_of lines
asked_of (Button time code pressed ∷ lines) = act.Button time code pressed ∷ asked_of lines
asked_of (Skip ∷ lines) = asked_of lines
asked_of (Bad ∷ lines) = asked_of lines

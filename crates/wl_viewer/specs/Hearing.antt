-- How the lines of a viewer are taken: the bytes that come, one after another.
use Rattle.std.specs.Prelude.{ℕ, Bool, true, false, ◌||◌, ◌==◌, nat_lt, not, if◌then◌else◌, List, [], ◌∷◌, ◌++◌, Some, filter, length}
use Rattle.std.specs.List.{list_any}
use Rattle.wl_viewer.specs.Asked.{asked_by}
use Rattle.wl_viewer.specs.View.{Heard}
use Rattle.wl_viewer.specs.declared.asked.Asked.{Asked}
use Rattle.wl_viewer.specs.declared.asked.Asked.TheVariants.{Motion, Button, Sync, Windows, Nothing, Bad}

-- it pressed the button, and didn't release it
abbrev pub is_held : ℕ → List ℕ → Bool
is_held button buttons = list_any (λ other. other == button) buttons

-- it may hold the button: it does, or holds fewer than 16
abbrev pub may_hold : ℕ → List ℕ → Bool
may_hold button buttons = is_held button buttons || nat_lt (length buttons) 16

abbrev pub with_button : ℕ → List ℕ → List ℕ
with_button button buttons =
    if is_held button buttons then buttons else if nat_lt (length buttons) 16 then buttons ++ button ∷ [] else buttons

abbrev pub without_button : ℕ → List ℕ → List ℕ
without_button button buttons = filter (λ other. not (other == button)) buttons

-- the buttons that it holds after a press or a release
abbrev pub held_after : Bool → ℕ → List ℕ → List ℕ
held_after true button buttons = with_button button buttons
held_after false button buttons = without_button button buttons

-- it may do that: a release it always may
abbrev pub may_be : Bool → ℕ → List ℕ → Bool
may_be true button buttons = may_hold button buttons
may_be false button buttons = true

-- what is kept of what a line asks
abbrev pub kept : Asked → Heard → Heard
kept (Motion x y) heard = heard
kept (Button code pressed) heard = record heard { held = held_after pressed code heard.held }
kept (Sync number) heard = record heard { sync = Some number }
kept Windows heard = record heard { wants_windows = true }
kept Nothing heard = heard
kept Bad heard = record heard { is_bad = true }

-- A press where 16 other buttons are held asks nothing.
abbrev pub granted : Asked → Heard → Asked
granted (Motion x y) heard = Motion x y
granted (Button code pressed) heard = if may_be pressed code heard.held then Button code pressed else Nothing
granted (Sync number) heard = Sync number
granted Windows heard = Windows
granted Nothing heard = Nothing
granted Bad heard = Bad

-- The line that was begun is whole.
abbrev pub without_line : Heard → Heard
without_line heard = record heard { line = [] }

-- a byte comes: by whether a line was bad before, whether it is a line feed, and whether a line of at most 64 bytes may still end
abbrev pub heard_at : Bool → Bool → Bool → Heard → ℕ → Heard
heard_at true ends fits heard byte = heard
heard_at false true fits heard byte = kept (asked_by heard.line) (without_line heard)
heard_at false false true heard byte = record heard { line = heard.line ++ byte ∷ [] }
heard_at false false false heard byte = kept Bad heard

abbrev pub asked_at : Bool → Bool → Bool → Heard → ℕ → Asked
asked_at true ends fits heard byte = Nothing
asked_at false true fits heard byte = granted (asked_by heard.line) (without_line heard)
asked_at false false true heard byte = Nothing
asked_at false false false heard byte = Bad

-- what is kept once a byte came, and what it asks
abbrev pub heard_after : Heard → ℕ → Heard
heard_after heard byte = heard_at heard.is_bad (byte == 10) (nat_lt (length heard.line) 63) heard byte

abbrev pub asked_after : Heard → ℕ → Asked
asked_after heard byte = asked_at heard.is_bad (byte == 10) (nat_lt (length heard.line) 63) heard byte

-- the same of bytes one after another
abbrev pub hears : Heard → List ℕ → Heard
hears heard [] = heard
hears heard (byte ∷ bytes) = hears (heard_after heard byte) bytes

abbrev pub asks : Heard → List ℕ → List Asked
asks heard [] = []
asks heard (byte ∷ bytes) = asked_after heard byte ∷ asks (heard_after heard byte) bytes

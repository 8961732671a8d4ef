-- What a line of a viewer asks. Here a line stands without its line feed; words and numbers are those of a recording.
use Rattle.std.specs.Prelude.{ℕ, ◌==◌, if◌then◌else◌, unwrap_or, List, length, codes, Option, None}
use Rattle.std.specs.Option.{option_and_then, option_map}
use Rattle.std.specs.Str.{bytes_eq}
use Rattle.wl_recording.specs.Line.{after_word, first_word, is_blank, is_comment, only_number, number_of, pressed_of, signed_of}
use Rattle.wl_viewer.specs.declared.asked.Asked.{Asked}
use Rattle.wl_viewer.specs.declared.asked.Asked.TheVariants.{Motion, Button, Sync, Windows, Nothing, Bad}

-- a motion by its words: the two coordinates
abbrev pub motion_by : List ℕ → List ℕ → Option Asked
motion_by x y = option_and_then (λ a. option_map (λ b. Motion a b) (signed_of y)) (signed_of x)

-- a button by its words: its number, and whether it is pressed
abbrev pub button_by : List ℕ → List ℕ → Option Asked
button_by code pressed = option_and_then (λ c. option_map (λ p. Button c p) (pressed_of pressed)) (number_of code)

-- whose two words are the only ones of a text
abbrev pub motion_in : List ℕ → Option Asked
motion_in text =
    if is_blank (after_word (after_word text)) then motion_by (first_word text) (first_word (after_word text)) else None

abbrev pub button_in : List ℕ → Option Asked
button_in text =
    if is_blank (after_word (after_word text)) then button_by (first_word text) (first_word (after_word text)) else None

abbrev pub sync_in : List ℕ → Option Asked
sync_in text = option_map (λ n. Sync n) (only_number text)

abbrev pub windows_in : List ℕ → Asked
windows_in text = if is_blank text then Windows else Bad

-- a line by its first word and what follows it
abbrev pub asked_with : List ℕ → List ℕ → Asked
asked_with word rest =
    if length word == 0 then Nothing
    else if bytes_eq word (codes "motion") then unwrap_or (motion_in rest) Bad
    else if bytes_eq word (codes "button") then unwrap_or (button_in rest) Bad
    else if bytes_eq word (codes "sync") then unwrap_or (sync_in rest) Bad
    else if bytes_eq word (codes "windows") then windows_in rest
    else Bad

-- `motion X Y`, `button CODE 0`, `button CODE 1`, `sync N` and `windows` ask that. A comment or a line without words asks nothing, and every
-- other line is bad.
abbrev pub asked_by : List ℕ → Asked
asked_by text = if is_comment text then Nothing else asked_with (first_word text) (after_word text)

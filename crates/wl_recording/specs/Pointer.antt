-- What a line of a pointer file asks. A line is meant without its line feed. Its words and numbers
-- are as those of a recording.
use Rattle.std.specs.Prelude.{ℕ, ◌==◌, if◌then◌else◌, unwrap_or, List, length, codes, Option, None}
use Rattle.std.specs.Option.{option_and_then, option_map}
use Rattle.std.specs.Str.{bytes_eq}
use Rattle.wl_recording.specs.Line.{after_three, after_word, first_word, is_blank, is_comment, number_of, pressed_of, signed_of}
use Rattle.wl_recording.specs.declared.pointer.PointerLine.{PointerLine}
use Rattle.wl_recording.specs.declared.pointer.PointerLine.TheVariants.{Motion, Button, Skip, Bad}

-- a motion, by its words: the time, and the two coordinates
abbrev pub motion_by : List ℕ → List ℕ → List ℕ → Option PointerLine
motion_by time x y =
    option_and_then (λ t. option_and_then (λ a. option_map (λ b. Motion t a b) (signed_of y)) (signed_of x)) (number_of time)

-- a press or a release, by its words: the time, the button's number, and whether it is pressed
abbrev pub button_by : List ℕ → List ℕ → List ℕ → Option PointerLine
button_by time code pressed =
    option_and_then (λ t. option_and_then (λ c. option_map (λ p. Button t c p) (pressed_of pressed)) (number_of code)) (number_of time)

-- the motion whose three words are the only ones of a text
abbrev pub motion_in : List ℕ → Option PointerLine
motion_in text =
    if is_blank (after_three text) then motion_by (first_word text) (first_word (after_word text))
    (first_word (after_word (after_word text)))
    else None

abbrev pub button_in : List ℕ → Option PointerLine
button_in text =
    if is_blank (after_three text) then button_by (first_word text) (first_word (after_word text))
    (first_word (after_word (after_word text)))
    else None

-- what a line asks, by its first word and what follows it
abbrev pub pointer_with : List ℕ → List ℕ → PointerLine
pointer_with word rest =
    if length word == 0 then Skip
    else if bytes_eq word (codes "motion") then unwrap_or (motion_in rest) Bad
    else if bytes_eq word (codes "button") then unwrap_or (button_in rest) Bad
    else Bad

-- What a line asks: `motion T X Y`, `button T CODE 0` or `button T CODE 1`. A comment and a line
-- without words ask nothing. Any other line is bad.
abbrev pub pointer_by : List ℕ → PointerLine
pointer_by text = if is_comment text then Skip else pointer_with (first_word text) (after_word text)

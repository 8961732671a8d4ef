-- The windows of the output, told one after another.
use Rattle.std.proofs.Common.{◌≡◌, ◌≤◌, ◌+◌, ℕ, zero, ℤ, Bool, true, false, List, [], ◌∷◌, ◌++◌, Some, length, ap, ap₂, sym, ◌∙◌, add-one, append_assoc, append-nil}
use Rattle.std.specs.Prelude.{Option, flat_map, option_map, slice_get, take}
use Rattle.std.proofs.Math.Seq.{take-suc}
use Rattle.std.proofs.lemmas.List.{flat_map_more, length-map, take_all}
use Rattle.std.proofs.lemmas.Option.{get_or_from_slice_get, slice_get-map, slice_get_within}
use Rattle.spec_desktop.specs.Desktop.{Desktop}
use Rattle.spec_desktop.specs.Stacked.{all_windows}
use Rattle.wl_clients.specs.declared.shown.ShownWindow.{ShownWindow}
use Rattle.wl_session.specs.Shown.{shown_of, shown_windows}
use Rattle.wl_viewer.specs.Telling.{count_line, told_windows, window_line}
use Rattle.wl_viewer.specs.View.{Heard, ViewerView}
use Rattle.wl_viewer.specs.declared.texts.WindowLine.{WindowLine}
use Rattle.wl_server.specs.Watching.{line_of, lines_of, windows_text}

-- this text answers the question for the windows
abbrev with_text : List ℕ → ViewerView → ViewerView
with_text text viewer = record viewer { heard = told_windows viewer.heard; out = viewer.out ++ text }

-- how many there are was told, and then those below place k
abbrev pub ToldTo : List WindowLine → ℕ → ℕ → ViewerView → ViewerView → Type 0
ToldTo lines count k first now = now ≡ with_text (count_line count ++ flat_map window_line (take k lines)) first

pub told-none : (lines : List WindowLine) (count : ℕ) (first now : ViewerView) → now ≡ with_text (count_line count) first → ToldTo lines count zero first now
told-none lines count first now counted = counted ∙ ap (λ (l : List ℕ). with_text l first) (sym (append-nil (count_line count)))

take-next : (lines : List WindowLine) (k : ℕ) (line : WindowLine) → slice_get lines k ≡ Some line → take (k + 1) lines ≡ take k lines ++ line ∷ []
take-next lines k line there =
    ap (λ (n : ℕ). take n lines) (add-one k)
    ∙ (take-suc lines k line (slice_get_within lines k line there)
    ∙ ap (λ (l : WindowLine). take k lines ++ l ∷ []) (get_or_from_slice_get lines k line line there))

text-next : (lines : List WindowLine) (count k : ℕ) (line : WindowLine) (out : List ℕ) → slice_get lines k ≡ Some line
    → (out ++ (count_line count ++ flat_map window_line (take k lines))) ++ window_line line ≡ out ++ (count_line count ++ flat_map window_line (take (k + 1) lines))
text-next lines count k line out there =
    append_assoc out (count_line count ++ flat_map window_line (take k lines)) (window_line line)
    ∙ ap (λ (l : List ℕ). out ++ l)
    (flat_map_more window_line (count_line count) (take k lines) line
    ∙ ap (λ (ls : List WindowLine). count_line count ++ flat_map window_line ls) (sym (take-next lines k line there)))

pub told-more : (lines : List WindowLine) (count k : ℕ) (line : WindowLine) (first now next : ViewerView) → slice_get lines k ≡ Some line
    → next ≡ record now { out = now.out ++ window_line line } → ToldTo lines count k first now → ToldTo lines count (k + 1) first next
told-more lines count k line first now next there appended told =
    appended
    ∙ (ap (λ (v : ViewerView). record v { out = v.out ++ window_line line }) told
    ∙ ap (λ (l : List ℕ). record first { heard = told_windows first.heard; out = l }) (text-next lines count k line first.out there))

pub told-all : (lines : List WindowLine) (count k : ℕ) (first now : ViewerView) (wants : Bool) → wants ≡ first.heard.wants_windows → wants ≡ true → count ≡ length lines → length lines ≤ k
    → ToldTo lines count k first now → now ≡ with_text (windows_text first.heard.wants_windows lines) first
told-all lines count k first now wants is asked_for counted all told =
    told
    ∙ ap (λ (l : List ℕ). with_text l first)
    (ap₂ (λ (n : ℕ) (ls : List WindowLine). count_line n ++ flat_map window_line ls) counted (take_all k lines all)
    ∙ ap (λ (b : Bool). windows_text b lines) (sym (sym is ∙ asked_for)))

pub unasked : (lines : List WindowLine) (viewer : ViewerView) (wants : Bool) → wants ≡ viewer.heard.wants_windows → wants ≡ false
    → viewer ≡ with_text (windows_text viewer.heard.wants_windows lines) viewer
unasked lines viewer wants is none =
    let clear = sym is ∙ none in
    ap₂ (λ (h : Heard) (l : List ℕ). record viewer { heard = h; out = l }) (ap (λ (b : Bool). record viewer.heard { wants_windows = b }) clear)
    (sym (append-nil viewer.out) ∙ ap (λ (b : Bool). viewer.out ++ windows_text b lines) (sym clear))

-- ---- the windows of a desktop

pub lines-length : (d : Desktop) → length (lines_of d) ≡ length (all_windows d)
lines-length d = length-map (shown_windows d) line_of ∙ length-map (all_windows d) shown_of

pub line-there : (d : Desktop) (k : ℕ) (window : ShownWindow) → slice_get (shown_windows d) k ≡ Some window → slice_get (lines_of d) k ≡ Some (line_of window)
line-there d k window there = slice_get-map line_of (shown_windows d) k ∙ ap (λ (o : Option ShownWindow). option_map line_of o) there

-- where a line's place was read as signed numbers
pub window-told : (viewer next : ViewerView) (window : ShownWindow) (x y : ℤ) → x ≡ window.x → y ≡ window.y
    → next ≡ record viewer { out = viewer.out ++ window_line (record { client = window.client; surface = window.surface; x = x; y = y; w = window.width; h = window.height }) }
    → next ≡ record viewer { out = viewer.out ++ window_line (line_of window) }
window-told viewer next window x y same_x same_y told =
    told
    ∙ ap₂
    (λ (a b : ℤ). record viewer { out = viewer.out ++ window_line (record { client = window.client; surface = window.surface; x = a; y = b; w = window.width; h = window.height }) }) same_x
    same_y

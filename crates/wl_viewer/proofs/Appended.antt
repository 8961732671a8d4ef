-- Runs, appended one after another.
use Rattle.std.proofs.Common.{◌≡◌, List, [], ◌∷◌, ◌++◌, ℕ, suc, length, refl, ap, sym, ◌∙◌, subst, append_assoc, append-nil, map}
use Rattle.std.specs.Prelude.{flat_map}
use Rattle.wl_session.specs.Frame.{Image}
use Rattle.wl_session.specs.Run.{AllLieIn, LiesIn}
use Rattle.wl_session.specs.declared.shots.Run.{Run}
use Rattle.wl_recording.specs.Text.{frame_line}
use Rattle.wl_viewer.specs.Telling.{piece_of, piece_text, update_of, update_text}

-- the bytes of these runs
abbrev text_of : Image → List Run → List ℕ
text_of frame runs = flat_map piece_text (map (piece_of frame) runs)

-- those before these were appended, and these lie in the frame
pub record AppendedTo (frame : Image) (runs left : List Run) (first now : List ℕ) : Type 0 where
  pub text : now ++ text_of frame left ≡ first ++ text_of frame runs
  pub lie : AllLieIn frame.width frame.height left

pub appended-none : (frame : Image) (runs : List Run) (first : List ℕ) → AllLieIn frame.width frame.height runs → AppendedTo frame runs runs first first
appended-none frame runs first lie = record { text = refl; lie = lie }

next-of : (frame : Image) (runs left more : List Run) (run : Run) (first now : List ℕ) → left ≡ run ∷ more → AppendedTo frame runs left first now
    → AppendedTo frame runs (run ∷ more) first now
next-of frame runs left more run first now is to = subst (λ (l : List Run). AppendedTo frame runs l first now) is to

pub appended-lies : (frame : Image) (runs left more : List Run) (run : Run) (first now : List ℕ) → left ≡ run ∷ more → AppendedTo frame runs left first now
    → LiesIn frame.width frame.height run
appended-lies frame runs left more run first now is to = (next-of frame runs left more run first now is to).lie.0

pub appended-more : (frame : Image) (runs left more : List Run) (run : Run) (first now next : List ℕ) → left ≡ run ∷ more → next ≡ now ++ piece_text (piece_of frame run)
    → AppendedTo frame runs left first now → AppendedTo frame runs more first next
appended-more frame runs left more run first now next is grew to =
    let there = next-of frame runs left more run first now is to in
    record {
      text =
          ap (λ (l : List ℕ). l ++ text_of frame more) grew
          ∙ (append_assoc now (piece_text (piece_of frame run)) (text_of frame more) ∙ there.text);
      lie = there.lie.1;
    }

pub appended-all : (frame : Image) (runs left : List Run) (first now : List ℕ) → left ≡ [] → AppendedTo frame runs left first now → now ≡ first ++ text_of frame runs
appended-all frame runs left first now is to =
    let last : AppendedTo frame runs [] first now = subst (λ (l : List Run). AppendedTo frame runs l first now) is to in
    sym (append-nil now) ∙ last.text

length-map : {X Y : Type 0} (f : X → Y) (xs : List X) → length (map f xs) ≡ length xs
length-map f [] = refl
length-map f (x ∷ xs) = ap suc (length-map f xs)

-- behind the line that tells how many they are
pub update-appended : (frame : Image) (time : ℕ) (runs : List Run) (first mid last : List ℕ) → mid ≡ first ++ frame_line time (length runs) → last ≡ mid ++ text_of frame runs
    → last ≡ first ++ update_text (update_of frame time runs)
update-appended frame time runs first mid last head rest =
    rest
    ∙ (ap (λ (l : List ℕ). l ++ text_of frame runs) head
    ∙ (append_assoc first (frame_line time (length runs)) (text_of frame runs)
    ∙ ap (λ (n : ℕ). first ++ (frame_line time n ++ text_of frame runs)) (sym (length-map (piece_of frame) runs))))

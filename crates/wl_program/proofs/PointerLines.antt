-- Lines of the pointer's file as they are read.
use Rattle.std.proofs.Common.{◌≡◌, ◌≢◌, ◌≤◌, ◌+◌, ◌++◌, ◌∷◌, [], ◌∙◌, sym, subst, inr, ap, ℕ, List, length, Option}
use Rattle.wl_recording.specs.Lines.{TakesLine}
use Rattle.wl_recording.specs.Pointer.{pointer_by}
use Rattle.wl_recording.specs.declared.pointer.PointerLine.{PointerLine}
use Rattle.wl_recording.specs.declared.pointer.PointerLine.TheVariants.{Bad}
use Rattle.wl_program.specs.declared.fault.Fault.{Fault}
use Rattle.wl_program.specs.Pointing.{FailsLine, FailsLines, IsBadPointer, ReadsPointer, TakesPointer}
use Rattle.wl_program.specs.Pointing.ReadsPointer.{more}

-- A line that was taken is bad as its text is.
pub line-is-bad : (old new : Option (List ℕ)) (text lent : List ℕ) (line : PointerLine) → TakesLine old new text → lent ≡ text
    → line ≡ pointer_by lent → line ≡ Bad → IsBadPointer old
line-is-bad old new text lent line taken same by bad = inr (text, new, taken, subst (λ t. pointer_by t ≡ Bad) same (sym by ∙ bad))

pub line-is-taken : (old new : Option (List ℕ)) (text lent : List ℕ) (line : PointerLine) → TakesLine old new text → length text ≤ 140000 → lent ≡ text
    → line ≡ pointer_by lent → line ≢ Bad → TakesPointer old new line
line-is-taken old new text lent line taken short same by good = (text, taken, short, by ∙ ap pointer_by same, good)

-- Where a line fails, the lines before it were read.
pub lines-fail : (first left : Option (List ℕ)) (lines : List PointerLine) (count : ℕ) (fault : Fault) → ReadsPointer first lines left
    → length lines ≡ count → FailsLine (count + 1) left fault → FailsLines first fault
lines-fail first left lines count fault reads counted fails =
    (lines, left, reads, subst (λ n. FailsLine (n + 1) left fault) (sym counted) fails)

-- One line more was read.
pub lines-more : (first mid last : Option (List ℕ)) (lines all : List PointerLine) (line : PointerLine) → ReadsPointer first lines mid
    → TakesPointer mid last line → all ≡ lines ++ line ∷ [] → ReadsPointer first all last
lines-more first mid last lines all line reads takes same =
    subst (λ xs. ReadsPointer first xs last) (sym same) (more lines mid last line reads takes)

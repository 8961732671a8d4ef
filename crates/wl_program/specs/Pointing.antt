-- The pointer's file, line by line.
use Rattle.std.specs.Prelude.{◌≡◌, ◌≢◌, ◌≤◌, ◌⊎◌, ◌+◌, ◌++◌, ℕ, ⊤, List, [], ◌∷◌, length, Option, Some, None}
use Rattle.std.specs.Io.KnownBytes.{IsAtEnd}
use Rattle.wl_recording.specs.Lines.{IsTooLong, TakesLine}
use Rattle.wl_recording.specs.Pointer.{pointer_by}
use Rattle.wl_recording.specs.declared.pointer.PointerLine.{PointerLine}
use Rattle.wl_recording.specs.declared.pointer.PointerLine.TheVariants.{Bad}
use Rattle.wl_program.specs.declared.fault.Fault.{Fault}
use Rattle.wl_program.specs.declared.fault.Fault.TheVariants.{Read, Write, Side, Bind, Rate, Size, BadLine, Memory}

-- The known bytes begin with a line of at most 140,000 bytes that asks this of the pointer, or nothing, and lose it.
abbrev pub TakesPointer : Option (List ℕ) → Option (List ℕ) → PointerLine → Type 0
TakesPointer old new line = (text : List ℕ) × TakesLine old new text × (length text ≤ 140000) × (line ≡ pointer_by text) × (line ≢ Bad)

-- the next line is too long, or none of a pointer's file
abbrev pub IsBadPointer : Option (List ℕ) → Type 0
IsBadPointer left = IsTooLong 140000 left ⊎ ((text : List ℕ) × (rest : Option (List ℕ)) × TakesLine left rest text × (pointer_by text ≡ Bad))

-- The known bytes begin with these lines, and lose them. The newest line stands last.
pub data ReadsPointer (first : Option (List ℕ)) : List PointerLine → Option (List ℕ) → Type 0 where
  none : ReadsPointer first [] first
  more : (lines : List PointerLine) (mid last : Option (List ℕ)) (line : PointerLine) → ReadsPointer first lines mid → TakesPointer mid last line
      → ReadsPointer first (lines ++ line ∷ []) last

-- the known bytes are these lines, and no more
abbrev pub AreLines : Option (List ℕ) → List PointerLine → Type 0
AreLines first lines = (left : Option (List ℕ)) × ReadsPointer first lines left × IsAtEnd left

-- The next line is taken, where there is one.
abbrev pub IsNextLine : Option (List ℕ) → Option (List ℕ) → Option PointerLine → Type 0
IsNextLine old new None = IsAtEnd old
IsNextLine old new (Some line) = TakesPointer old new line

-- how the line of this number fails: only where it is bad, or where memory runs out, or where it can't be read
abbrev pub FailsLine : ℕ → Option (List ℕ) → Fault → Type 0
FailsLine number left Read = ⊤
FailsLine number left (BadLine line) = (line ≡ number) × IsBadPointer left
FailsLine number left Memory = ⊤
FailsLine number left Write = ⊥
FailsLine number left (Side line) = ⊥
FailsLine number left Bind = ⊥
FailsLine number left Rate = ⊥
FailsLine number left Size = ⊥

-- how reading all lines fails: the first that is bad is named by its number, the first having 1
abbrev pub FailsLines : Option (List ℕ) → Fault → Type 0
FailsLines first fault =
    (lines : List PointerLine) × (left : Option (List ℕ)) × ReadsPointer first lines left × FailsLine (length lines + 1) left fault

-- Laws of the plain desktop: only that memory may run out leaves a choice, and an end is for good.
use Rattle.std.specs.Prelude.{ℕ, ◌≡◌, ◌≢◌, ◌≤◌, List, [], ◌∷◌, length, Some, Err}
use Rattle.spec_desktop.specs.declared.cause.Cause.{Cause}
use Rattle.spec_desktop.specs.declared.cause.Cause.TheVariants as cause
use Rattle.spec_desktop.specs.declared.answers.ConnectError.TheVariants.{Memory}
use Rattle.spec_desktop.specs.declared.answers.Done.{Done}
use Rattle.spec_desktop.specs.declared.answers.Done.TheVariants as gave
use Rattle.law_desktop.specs.Ample.{happened}
use Rattle.spec_desktop.specs.Desktop.{Desktop, status_in}
use Rattle.spec_desktop.specs.Act.{Act, Close, Connect}
use Rattle.spec_desktop.specs.Happens.{Happens}

-- Memory didn't run out: no connect was refused for it, and a client that it ended had ended so before.
abbrev pub HadMemory : Act → Done → Desktop → Desktop → Type 0
HadMemory act done old new =
    (act ≡ Connect → done ≢ gave.Connect (Err Memory))
    × ((c : ℕ) → status_in c new ≡ Some cause.Memory → status_in c old ≡ Some cause.Memory)

-- Where memory doesn't run out, what happens is determined, and so is what is answered. There are 32 clients at most, so no client that
-- is to end is left when the focus was settled for the last time (past 32 one could be left, and whether its event was queued would be a
-- choice).
abbrev pub OneRun : Type 0
OneRun =
    (act : Act) (done other : Done) (old new end : Desktop) → length old.clients ≤ 32 → Happens act done old new
    → Happens act other old end
    → HadMemory act done old new → HadMemory act other old end → (done ≡ other) × (new ≡ end)

-- acts one after another, each with its answer
abbrev pub Lasts : List Act → List Done → Desktop → Desktop → Type 0
Lasts [] [] old new = new ≡ old
Lasts [] (done ∷ dones) old new = ⊥
Lasts (act ∷ acts) [] old new = ⊥
Lasts (act ∷ acts) (done ∷ dones) old new = (mid : Desktop) × Happens act done old mid × Lasts acts dones mid new

-- none of them ran out of memory
abbrev pub HadMemoryAll : (acts : List Act) → (dones : List Done) → (old new : Desktop) → Lasts acts dones old new
    → Type 0
HadMemoryAll [] [] old new run = Unit {0}
HadMemoryAll [] (done ∷ dones) old new run = ⊥
HadMemoryAll (act ∷ acts) [] old new run = ⊥
HadMemoryAll (act ∷ acts) (done ∷ dones) old new run = HadMemory act done old run.0 × HadMemoryAll acts dones run.0 new run.2

-- The same of a list of acts: it has at most one run that doesn't run out of memory, with its answers.
abbrev pub OnlyRun : Type 0
OnlyRun =
    (acts : List Act) (dones others : List Done) (old new end : Desktop) → length old.clients ≤ 32
    → (run : Lasts acts dones old new)
    → (other : Lasts acts others old end) → HadMemoryAll acts dones old new run → HadMemoryAll acts others old end other
    → (dones ≡ others) × (new ≡ end)

-- A client that ended stays so, for the same cause, until its number is given back.
abbrev pub EndsStay : Type 0
EndsStay =
    (act : Act) (done : Done) (old new : Desktop) (c : ℕ) (why : Cause) → length old.clients ≤ 32
    → Happens act done old new → act ≢ Close c
    → status_in c old ≡ Some why → status_in c new ≡ Some why

-- Whatever is asked of a desktop may happen: with memory it leads where the function says, with an answer.
abbrev pub MayHappen : Type 0
MayHappen = (act : Act) (d : Desktop) → (answer : Done) × Happens act answer d (happened act d)

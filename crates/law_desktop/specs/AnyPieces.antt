-- A client's stream may be cut anywhere.
use Rattle.std.specs.Prelude.{ℕ, List, ◌++◌}
use Rattle.spec_desktop.specs.declared.answers.Done.{Done}
use Rattle.spec_desktop.specs.Desktop.{Desktop}
use Rattle.spec_desktop.specs.Act.{Feed}
use Rattle.spec_desktop.specs.Happens.{Happens}

-- Two pieces of a client's stream, one after the other, lead where they lead as one.
abbrev pub AnyPieces : Type 0
AnyPieces =
    (c : ℕ) (a b : List ℕ) (first second : Done) (old mid new : Desktop)
    → Happens (Feed c a) first old mid
    → Happens (Feed c b) second mid new
    → Happens (Feed c (a ++ b)) second old new

-- What happens leads through the desktops of its own change, of each end and of each settling.
use Rattle.std.specs.Prelude.{ℕ, ◌≡◌, List}
use Rattle.spec_desktop.specs.Act.{Act, Feed}
use Rattle.spec_desktop.specs.Desktop.{Desktop}
use Rattle.spec_desktop.specs.Happens.{Happens, Serves}
use Rattle.spec_desktop.specs.Through.{HappensThrough, ServesThrough}
use Rattle.spec_desktop.specs.declared.answers.Done.{Done}

-- what happens isn't a piece
abbrev pub IsSingle : Act → Type 0
IsSingle act = (c : ℕ) (piece : List ℕ) → act ≡ Feed c piece → ⊥

-- A message leads where it leads with the desktops on the way, and these are there.
abbrev pub MessagesLeadThrough : Type 0
MessagesLeadThrough =
    (c : ℕ) (d new : Desktop)
    → ((path : List Desktop) → ServesThrough c d path new → Serves c d new)
    × (Serves c d new → (path : List Desktop) × ServesThrough c d path new)

-- So does whatever else happens.
abbrev pub HappensLeadsThrough : Type 0
HappensLeadsThrough =
    (act : Act) (done : Done) (d new : Desktop)
    → ((path : List Desktop) → HappensThrough act done d path new → Happens act done d new)
    × (IsSingle act → Happens act done d new → (path : List Desktop) × HappensThrough act done d path new)

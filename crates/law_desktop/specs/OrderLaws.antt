-- Laws of what is known of clients that are in order, and of what they demand (wayland.xml; xdg-shell.xml).
use Rattle.std.specs.Prelude.{ℕ, ◌≡◌, Ok, List}
use Rattle.spec_desktop.specs.Demand.{Demand}
use Rattle.spec_desktop.specs.Demanding.{judge_all}
use Rattle.spec_desktop.specs.Desktop.{Desktop, Resident}
use Rattle.law_desktop.specs.InOrder.{InOrder, OwnsInOrder}
use Rattle.law_desktop.specs.Shown.{ShownStand}
use Rattle.law_desktop.specs.Changes.{HasTrees}
use Rattle.law_desktop.specs.Done.{IsMeant}

-- Where what each client owns is in order, and just the mapped toplevels stand, toplevels, popups and subsurfaces make trees.
abbrev pub InOrderHasTrees : Type 0
InOrderHasTrees = (d : Desktop) → InOrder d → ShownStand d → HasTrees d

-- What an accepted message demands is made as the protocol has it.
abbrev pub JudgedIsMeant : Type 0
JudgedIsMeant =
    (r : Resident) (object opcode : ℕ) (body : List ℕ) (demand : Demand) → OwnsInOrder r
    → judge_all r object opcode body ≡ Ok demand → IsMeant demand r

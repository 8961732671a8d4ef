-- The toplevel that a tree is stacked with, found by the windows that are shown: no chain of parents is climbed (xdg-shell.xml, xdg_popup).
use Rattle.std.specs.Prelude.{ℕ, Option, Some, None, List, find}
use Rattle.std.specs.Option.{option_and_then, option_map, option_or}
use Rattle.spec_desktop.specs.Windows.{StackedPopup, Window}
use Rattle.spec_desktop.specs.Desktop.{Desktop}
use Rattle.spec_desktop.specs.Stacked.{all_windows}
use Rattle.law_desktop.specs.InOrder.{InOrder}
use Rattle.law_desktop.specs.Shown.{ShownStand}
use Rattle.law_desktop.specs.TreeMarksLaws.{has_root}
use Rattle.law_desktop.specs.Changes.{HasTrees}
use Rattle.law_desktop.specs.StackedWith.{IsStackedWith, popup_of}

-- the toplevel that the lowest of the windows with this root is stacked with, if there is one
abbrev pub toplevel_in : ℕ → ℕ → List Window → Option ℕ
toplevel_in c root ws = option_map (λ w. w.owner.toplevel) (find (has_root c root) ws)

-- A tree without windows: the toplevel of the tree of its popup's parent, if that has windows; and where its root is no popup, the root.
abbrev pub toplevel_by_parent : ℕ → ℕ → Option StackedPopup → List Window → Option ℕ
toplevel_by_parent c root None ws = Some root
toplevel_by_parent c root (Some p) ws = option_and_then (λ parent. toplevel_in c parent ws) p.parent

-- the toplevel that a tree is stacked with by its windows, and else by those of its parent
abbrev pub toplevel_found : ℕ → ℕ → Option StackedPopup → List Window → Option ℕ
toplevel_found c root popup ws = option_or (toplevel_in c root ws) (toplevel_by_parent c root popup ws)

-- What is found among the windows of a desktop is the toplevel that the tree is stacked with; where none is found, there is none.
abbrev pub FindsToplevels : Type 0
FindsToplevels =
    (c root : ℕ) (d : Desktop) → HasTrees d → IsStackedWith c root d (toplevel_found c root (popup_of c root d) (all_windows d))

-- So it is where what each client owns is in order, and just the mapped toplevels stand.
abbrev pub FindsToplevelsInOrder : Type 0
FindsToplevelsInOrder =
    (c root : ℕ) (d : Desktop) → InOrder d → ShownStand d
    → IsStackedWith c root d (toplevel_found c root (popup_of c root d) (all_windows d))

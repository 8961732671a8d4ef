-- As the focus is settled a surface is left, and one is entered, at most.
use Rattle.std.proofs.Common.{◌≡◌, List, [], ◌++◌, Bool, true, false, Option, Some, None, ap, subst, sym}
use Rattle.std.specs.Prelude.{if◌then◌else◌}
use Rattle.spec_desktop.specs.Pointer.{Pointer, Target, is_same, settled}
use Rattle.spec_desktop.specs.PointerActions.{Leave, Enter, enter_of, focus_or, leave_of}
use Rattle.spec_desktop.specs.Windows.{Window}
use Rattle.spec_desktop.specs.Settling.{Applies, AppliesAll, Midstep, Settles}
use Rattle.spec_desktop.specs.Stacked.{all_windows}

-- What stays as a surface is left, and as one is entered, stays as the focus is settled.
module _ (P : Midstep → Type 0) (leave : (windows : List Window) (t : Target) (old new : Midstep) → P old → Applies windows (Leave t) old new → P new)
    (enter : (windows : List Window) (t : Target) (old new : Midstep) → P old → Applies windows (Enter t) old new → P new) where
  so : (m n : Midstep) → n ≡ m → P m → P n
  so m n e known = subst P (sym e) known

  kept-by : (windows : List Window) (s t : Option Target) (old new : Midstep) → P old → AppliesAll windows (leave_of s ++ enter_of t) old new → P new
  kept-by windows None None old new known h = so old new h known
  kept-by windows None (Some t) old new known h = so h.0 new h.2 (enter windows t old h.0 known h.1)
  kept-by windows (Some s) None old new known h = so h.0 new h.2 (leave windows s old h.0 known h.1)
  kept-by windows (Some s) (Some t) old new known h = so h.2.0 new h.2.2 (enter windows t h.0 h.2.0 (leave windows s old h.0 known h.1) h.2.1)

  pub settles-keeps : (old new : Midstep) → P old → Settles old new → P new
  settles-keeps old new known h = at (is_same p.focus to) h
    where
      windows : List Window
      windows = all_windows old.desktop

      p : Pointer
      p = old.desktop.pointer

      to : Option Target
      to = settled p windows

      at : (b : Bool) → AppliesAll windows (if b then [] else leave_of p.focus ++ enter_of to) old new → P new
      at true h = so old new h known
      at false h = kept-by windows p.focus to old new known h

-- So is it with what turns one moment into another.
module _ (turned : Midstep → Midstep) (windows : List Window)
    (leave : (t : Target) (old new : Midstep) → Applies windows (Leave t) old new → Applies windows (Leave t) (turned old) (turned new))
    (enter : (t : Target) (old new : Midstep) → Applies windows (Enter t) old new → Applies windows (Enter t) (turned old) (turned new)) where
  turns-by : (s t : Option Target) (old new : Midstep) → AppliesAll windows (leave_of s ++ enter_of t) old new → AppliesAll windows (leave_of s ++ enter_of t) (turned old) (turned new)
  turns-by None None old new h = ap turned h
  turns-by None (Some t) old new h = (turned h.0, enter t old h.0 h.1, ap turned h.2)
  turns-by (Some s) None old new h = (turned h.0, leave s old h.0 h.1, ap turned h.2)
  turns-by (Some s) (Some t) old new h = (turned h.0, leave s old h.0 h.1, (turned h.2.0, enter t h.0 h.2.0 h.2.1, ap turned h.2.2))

  pub focus-turns : (p : Pointer) (old new : Midstep) → AppliesAll windows (focus_or [] p windows) old new → AppliesAll windows (focus_or [] p windows) (turned old) (turned new)
  focus-turns p old new h = at (is_same p.focus (settled p windows)) h
    where
      at : (b : Bool) → AppliesAll windows (if b then [] else leave_of p.focus ++ enter_of (settled p windows)) old new
          → AppliesAll windows (if b then [] else leave_of p.focus ++ enter_of (settled p windows)) (turned old) (turned new)
      at true h = ap turned h
      at false h = turns-by p.focus (settled p windows) old new h

-- What happens that leaves the pointer alone.
use Rattle.spec_desktop.specs.Act.{Act, Motion, Button}

-- an act that neither moves the pointer nor presses or releases a button of it
abbrev pub LeavesPointer : Act → Type 0
LeavesPointer (Motion time x y) = ⊥
LeavesPointer (Button time button pressed) = ⊥
LeavesPointer act = Unit {0}

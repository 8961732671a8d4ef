-- Steps as values are those of the plain desktop.
use Rattle.spec_desktop.specs.Act.{Act, Connect, Feed, Store, Leave, Tick, Send, Close, Motion, Button}
use Rattle.wl_session.specs.declared.steps.Step.{Step}
use Rattle.wl_session.specs.declared.steps.Step.TheVariants as step

-- the bytes of a piece as a list
abbrev pub act_of : Step → Act
act_of step.Connect = Connect
act_of (step.Feed client piece) = Feed client piece.now
act_of (step.Store client store at bytes) = Store client store at bytes.now
act_of (step.Gone client) = Leave client
act_of (step.Tick time) = Tick time
act_of (step.Sent client count) = Send client count
act_of (step.Close client) = Close client
act_of (step.Motion time x y) = Motion time x y
act_of (step.Button time button pressed) = Button time button pressed

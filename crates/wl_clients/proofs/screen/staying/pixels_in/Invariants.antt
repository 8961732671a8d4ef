use Rattle.std.proofs.Common.{◌≡◌, take}
use Rattle.wl_clients.specs.Staying.{pixels_in}
use Rattle.wl_clients.proofs.screen.staying.pixels_in.Given as goal

abbrev pub invariant-loop-window : goal.invariant-loop-window
invariant-loop-window l = l.pixels ≡ pixels_in (take l.window-index l.windows)

use Rattle.wl_scene.proofs.Listed.{told-there}
use Rattle.wl_scene.proofs.stacked_windows.StackedWindows.window.Goals as goal

pub returns : goal.returns
returns g c = λ numbers ws are.
    told-there numbers _ c.windows.result.now c.args.self.now.windows c.windows.ensures.windows c.args.k c.window_of.result c.window_of.ensures ws are c.requires

use Rattle.std.proofs.Common.{refl, ◌∙◌}
use Rattle.wl_clients.proofs.OnScreen.Released.{begins, ends-left, ends-marked, fewer, goes-next, none-told, one-told}
use Rattle.wl_clients.proofs.screen.screens.Screen.remove_dismissed.Goals as goal

pub loop-root-init : goal.loop-root-init
loop-root-init g c = (begins c.args.client c.args.shell.now c.args.self.now.stacked.windows c.args.self.now.damage, refl)

pub loop-root-preserved : goal.loop-root-preserved
loop-root-preserved g c =
    let now = c.loop-root.self in
    let all = now.stacked.windows in
    let told = one-told c.args.client c.args.shell.now c.windows.result.now all c.windows.ensures.windows c.dismissed_root.result c.dismissed_root.ensures
    c.in-Some.root c.in-Some.is in (
      goes-next c.args.client c.args.shell.now all told.0 told.1 c.in-Some.root told.2 c.args.self.now.stacked.windows c.remove_tree.new.self.stacked.windows c.args.self.now.damage now.damage
          c.remove_tree.new.self.damage c.loop-root.invariant.0 c.remove_tree.ensures.windows c.remove_tree.ensures.points c.remove_tree.ensures.sides,
      c.remove_tree.ensures.scene ∙ c.loop-root.invariant.1,
    )

pub loop-root-smaller : goal.loop-root-smaller
loop-root-smaller g c =
    let now = c.loop-root.self in
    let all = now.stacked.windows in
    let told = one-told c.args.client c.args.shell.now c.windows.result.now all c.windows.ensures.windows c.dismissed_root.result c.dismissed_root.ensures
    c.in-Some.root c.in-Some.is in
    fewer c.args.client c.args.shell.now all told.0 told.1 c.in-Some.root told.2 c.remove_tree.new.self.stacked.windows c.remove_tree.ensures.windows

pub returns : goal.returns
returns g c =
    let now = c.loop-root.self in
    let none = none-told c.args.client c.args.shell.now c.windows.result.now now.stacked.windows c.windows.ensures.windows c.dismissed_root.result c.dismissed_root.ensures
    c.in_default.is in record {
      windows = ends-left c.args.client c.args.shell.now c.args.self.now.stacked.windows now.stacked.windows c.args.self.now.damage now.damage c.loop-root.invariant.0 none;
      points = ends-marked c.args.client c.args.shell.now c.args.self.now.stacked.windows now.stacked.windows c.args.self.now.damage now.damage c.loop-root.invariant.0 none;
      sides = c.loop-root.invariant.0.sides;
      scene = c.loop-root.invariant.1;
    }

use Rattle.std.proofs.Common.{◌≡◌, ◌≤◌, ◌∙◌, List, ap, length, subst, sym}
use Rattle.wl_scene.specs.declared.stacked.Stacked.{Stacked}
use Rattle.wl_clients.specs.Runs.{run_told, windows_told}
use Rattle.wl_clients.specs.contracts.screen.screens.Screen.put_run as contract
use Rattle.wl_clients.proofs.OnScreen.Lengths.{marked-so}
use Rattle.wl_clients.proofs.screen.screens.Screen.put_run.Goals as goal

pub returns-clause-points : goal.returns-clause-points
returns-clause-points g c = λ few_was few_is.
    let was : c.windows.result.now ≡ run_told c.args.client c.args.toplevel c.args.self.now.stacked.windows =
    c.windows.ensures ∙ (c.keep.ensures (subst (λ (ss : List Stacked). length ss ≤ 256) (sym c.run.ensures) few_was) ∙ ap windows_told c.run.ensures) in
    let is : c.windows-2.result.now ≡ run_told c.args.client c.args.toplevel c.move_run.new.self.windows =
    c.windows-2.ensures ∙ (c.keep-2.ensures (subst (λ (ss : List Stacked). length ss ≤ 256) (sym c.run-2.ensures) few_is) ∙ ap windows_told c.run-2.ensures) in
    marked-so (contract.A-type g.row.A) c.args.self.now.damage c.mark_moved.new.damage c.windows.result.now _ c.windows-2.result.now _ was is c.mark_moved.ensures.points

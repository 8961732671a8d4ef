use Rattle.std.proofs.Common.{◌≡◌, of_z, rules, to_z, w32}
use Rattle.std.proofs.lemmas.Result.{on_ok_weaker}
use Rattle.wl_server.specs.Watching.{line_of}
use Rattle.wl_server.proofs.Windows.{line-there, window-told}
use Rattle.wl_server.proofs.viewed.put_window.Goals as goal

pub returns-clause-told : goal.returns-clause-told
returns-clause-told g c =
    let window = c.window-window.result in
    let x : to_z w32 (of_z w32 window.x) ≡ window.x = search rules in
    let y : to_z w32 (of_z w32 window.y) ≡ window.y = search rules in
    on_ok_weaker c.tell_window.result
    (λ told d agrees. (line_of window, line-there d c.args.k window (c.window-window.ensures d agrees), window-told c.args.viewer.now c.tell_window.new.self window _ _ x y told))
    c.tell_window.ensures.told

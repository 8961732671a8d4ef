use Rattle.std.proofs.Common.{◌≡◌, rules, to_z, of_z, w32}
use Rattle.wl_clients.proofs.Viewed.{shown-there}
use Rattle.wl_clients.proofs.clients.Clients.shown.Goals as goal

pub returns : goal.returns
returns g c = λ d a.
    let told = c.window-window.result in
    let across : to_z w32 (of_z w32 told.x) ≡ told.x = search rules in
    let down : to_z w32 (of_z w32 told.y) ≡ told.y = search rules in
    shown-there _ _ c.self.view_is d a c.args.k told c.window-window.ensures c.surface_id.result c.surface_id.ensures.some c.surface_id.ensures.none c.unwrap_or-surface.result
    c.unwrap_or-surface.ensures (to_z w32 (of_z w32 told.x)) (to_z w32 (of_z w32 told.y)) across down

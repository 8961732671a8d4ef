use Rattle.std.proofs.Common.{rules, w32}
use Rattle.std.proofs.lemmas.Int.{to_z-of_z}
use Rattle.std.specs.Prelude.{FitsSigned}
use Rattle.wl_clients.specs.Agreement.{numbers_in}
use Rattle.wl_clients.specs.View.{pile_of}
use Rattle.wl_clients.specs.Residents.{client_views}
use Rattle.wl_clients.proofs.Midway.{hit-kept}
use Rattle.wl_clients.proofs.clients.Clients.hit.Goals as goal

pub returns : goal.returns
returns g c = λ m mid.
    let pile = pile_of c.self.inside.screen in
    let x : FitsSigned w32 c.args.x = search rules in
    let y : FitsSigned w32 c.args.y = search rules in
    let found = c.hit.ensures (numbers_in (client_views c.self.inside.residents.items)) m.desktop
    (hit-kept c.self.inside.output c.self.inside.residents.items pile _ _ c.deref.ensures.value c.windows-windows.ensures.windows m (rw (← c.self.view_is) at mid)) in
    rw (← c.self.view_is) (rw (to_z-of_z w32 c.args.x x, to_z-of_z w32 c.args.y y) at found)

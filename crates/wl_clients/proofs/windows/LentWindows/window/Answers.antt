use Rattle.wl_clients.proofs.Lends.{lent-at}
use Rattle.wl_clients.proofs.windows.LentWindows.window.Goals as goal
use Rattle.wl_clients.specs.Lent.{client_lent, slots_lent}
use Rattle.wl_clients.specs.Residents.{client_views, owned_views}
use Rattle.wl_clients.specs.LentPictures.{window_lent}

pub returns : goal.returns
returns g c =
    let self = c.args.self.now in
    lent-at (window_lent (client_lent (client_views self.residents.now)) (slots_lent (owned_views self.residents.now)) self.nowhere.now) self.stacked.now c.args.k _ _ c.requires
    c.lend_of.ensures

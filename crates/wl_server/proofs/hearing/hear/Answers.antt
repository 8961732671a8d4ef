use Rattle.wl_server.specs.Ways.{ways}
use Rattle.wl_server.proofs.Watched.{hears}
use Rattle.wl_server.proofs.hearing.hear.Goals as goal

pub returns-clause-heard : goal.returns-clause-heard
returns-clause-heard g c =
    hears (ways g.V.Hub.accepts g.V.Hub.reads g.V.Hub.writes g.V.Hub.closes g.V.Hub.fault_count) c.args.time c.args.viewing.now.width c.args.viewing.now.height c.accept_viewer-is_new.result _ _ _ _ _ _ _ c.attend.ensures c.accept_viewer-is_new.ensures.accepted c.attend_new.ensures

use Rattle.std.proofs.Common.{refl, inl, inr, arith}
use Rattle.std.proofs.lemmas.List.{length-take-le}
use Rattle.wl_server.specs.Ways.{ways}
use Rattle.wl_server.proofs.FedPieces.{read-fed, read-gone, read-later}
use Rattle.wl_server.proofs.reading.read_once.Goals as goal

pub returns-in-Bytes : goal.returns-in-Bytes
returns-in-Bytes g c =
    let came = c.in-Bytes.ensures.came in
    let long = length-take-le c.in-Bytes.count c.receive.new.buf came.1 in
    read-fed (ways g.H.Hub.accepts g.H.Hub.reads g.H.Hub.writes g.H.Hub.closes g.H.Hub.fault_count) c.args.client _ _ _ _ _ _ (c.feed.ensures.course, c.feed.ensures.noted)
    (record {
      conn = c.receive.new.conn;
      long = (omega (arith, long, came.0), omega (arith, long, came.1, c.requires.few));
      reads = came.2;
      calm = c.in-Bytes.ensures.calm (λ e. cc);
      kept = refl;
    })

pub returns-in-Later : goal.returns-in-Later
returns-in-Later g c =
    read-later (ways g.H.Hub.accepts g.H.Hub.reads g.H.Hub.writes g.H.Hub.closes g.H.Hub.fault_count) c.args.client _ _ _ _ refl
    (record {
      conn = c.receive.new.conn;
      ends = inl (refl, c.in-Later.ensures.came, c.in-Later.ensures.calm (λ e. cc));
      kept = refl;
    })

pub returns-in-Gone : goal.returns-in-Gone
returns-in-Gone g c =
    read-gone (ways g.H.Hub.accepts g.H.Hub.reads g.H.Hub.writes g.H.Hub.closes g.H.Hub.fault_count) c.args.client _ _ _ _ _ (c.gone.ensures.course, c.gone.ensures.noted)
    (record { conn = c.receive.new.conn; ends = inr (refl, c.in-Gone.ensures.came); kept = refl })

use Rattle.std.proofs.Common.{true, false, refl}
use Rattle.wl_server.specs.Ways.{ways}
use Rattle.wl_server.proofs.SentBytes.{delivered-as, kept-gone, kept-on, write-gone, write-nothing, write-some}
use Rattle.wl_server.proofs.writing.write_client.Goals as goal

pub returns-in_default : goal.returns-in_default
returns-in_default g c =
    rw (← c.recorded.view_is) (write-nothing (ways g.H.Hub.accepts g.H.Hub.reads g.H.Hub.writes g.H.Hub.closes g.H.Hub.fault_count) c.args.client _ _ c.in_default.ensures)

pub returns-then-delivered : goal.returns-then-delivered
returns-then-delivered g c =
    rw (← c.recorded.view_is) (write-gone (ways g.H.Hub.accepts g.H.Hub.reads g.H.Hub.writes g.H.Hub.closes g.H.Hub.fault_count) c.args.client _ c.in-Some.bytes.now _ _ _ _ _ _ _ c.in-Some.ensures (rw (← c.recorded.view_is) at c.sent.ensures.course, rw (← c.recorded.view_is) at c.sent.ensures.noted) (c.gone.ensures.course, c.gone.ensures.noted)
    (record {
      sent = c.deliver-delivered.result.bytes;
      is_gone = true;
      conn = c.deliver-delivered.new.conn;
      delivers = delivered-as (ways g.H.Hub.accepts g.H.Hub.reads g.H.Hub.writes g.H.Hub.closes g.H.Hub.fault_count) _ _ _ _ _ _ c.deliver-delivered.result.is_gone true c.if-delivered.true c.deliver-delivered.ensures.written;
      counts = c.deliver-delivered.ensures.fault c.if-delivered.true;
      kept = kept-gone c.args.seat.now c.deliver-delivered.new.conn;
      acts_are = refl;
    }))

pub returns-else-delivered : goal.returns-else-delivered
returns-else-delivered g c =
    rw (← c.recorded.view_is) (write-some (ways g.H.Hub.accepts g.H.Hub.reads g.H.Hub.writes g.H.Hub.closes g.H.Hub.fault_count) c.args.client _ c.in-Some.bytes.now _ _ _ _ _ c.in-Some.ensures (rw (← c.recorded.view_is) at c.sent.ensures.course, rw (← c.recorded.view_is) at c.sent.ensures.noted)
    (record {
      sent = c.deliver-delivered.result.bytes;
      is_gone = false;
      conn = c.deliver-delivered.new.conn;
      delivers = delivered-as (ways g.H.Hub.accepts g.H.Hub.reads g.H.Hub.writes g.H.Hub.closes g.H.Hub.fault_count) _ _ _ _ _ _ c.deliver-delivered.result.is_gone false c.if-delivered.false c.deliver-delivered.ensures.written;
      counts = c.deliver-delivered.ensures.calm c.if-delivered.false;
      kept = kept-on c.args.seat.now c.deliver-delivered.new.conn;
      acts_are = refl;
    }))

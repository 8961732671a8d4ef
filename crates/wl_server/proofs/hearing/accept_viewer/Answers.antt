use Rattle.std.proofs.Common.{◌∙◌, None, Some, false, refl, sym, inl, inr}
use Rattle.wl_server.proofs.Joining.{accept-failed, accepted-as}
use Rattle.wl_server.proofs.Watched.{is-none}
use Rattle.wl_server.proofs.hearing.accept_viewer.Goals as goal

pub returns-in-Ok-None-clause-accepted : goal.returns-in-Ok-None-clause-accepted
returns-in-Ok-None-clause-accepted g c =
    let got = accepted-as g.V.Hub.accepts c.args.viewing.now.hub c.accept.new.self (g.V.Hub.fault_count c.args.viewing.now.hub) (g.V.Hub.fault_count c.accept.new.self) c.accept.result
    c.in-Ok-None.field-0 None c.in-Ok-None.is c.in-Ok-None.field-0-is c.accept.ensures.answers c.accept.ensures.faults in
    inl (inl got, refl)

pub returns-in-Err-clause-accepted : goal.returns-in-Err-clause-accepted
returns-in-Err-clause-accepted g c = inl (inr (accept-failed _ _ c.accept.result c.in-Err.field-0 c.in-Err.is c.accept.ensures.faults), refl)

pub returns-then-is_some-clause-accepted : goal.returns-then-is_some-clause-accepted
returns-then-is_some-clause-accepted g c =
    let got = accepted-as g.V.Hub.accepts c.args.viewing.now.hub c.accept.new.self (g.V.Hub.fault_count c.args.viewing.now.hub) (g.V.Hub.fault_count c.accept.new.self) c.accept.result
    c.in-Ok-Some.field-0 (Some c.in-Ok-Some.conn) c.in-Ok-Some.is c.in-Ok-Some.field-0-is c.accept.ensures.answers c.accept.ensures.faults in
    inr (c.in-Ok-Some.conn, c.accept.new.self, got.0, got.1, c.close.ensures.closed, c.close.ensures.faults, refl)

pub returns-in-Ok-clause-accepted : goal.returns-in-Ok-clause-accepted
returns-in-Ok-clause-accepted g c =
    let got = accepted-as g.V.Hub.accepts c.args.viewing.now.hub c.accept.new.self (g.V.Hub.fault_count c.args.viewing.now.hub) (g.V.Hub.fault_count c.accept.new.self) c.accept.result
    c.in-Ok-Some.field-0 (Some c.in-Ok-Some.conn) c.in-Ok-Some.is c.in-Ok-Some.field-0-is c.accept.ensures.answers c.accept.ensures.faults in
    let new = c.in-Ok.ensures in (
      c.in-Ok-Some.conn,
      record { conn = c.in-Ok-Some.conn; viewer = c.in-Ok.viewer; is_told = false; has_failed = false },
      got.0,
      got.1,
      is-none _ (sym c.is_some.ensures ∙ c.if-is_some.false),
      record { kept = refl; calm = refl; heard = new.heard; untold = new.untold; wide = new.width; high = new.height; out = new.out; going = new.fresh },
      refl,
    )

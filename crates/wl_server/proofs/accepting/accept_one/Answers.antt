use Rattle.std.proofs.Common.{◌≡◌, ◌+◌, ◌∙◌, None, Some, ap, refl, inl, inr, arith}
use Rattle.wl_server.specs.Phases.{new_seat}
use Rattle.wl_server.specs.Seats.{with_seat}
use Rattle.wl_server.specs.Ways.{ways}
use Rattle.wl_server.proofs.Joining.{Gave, accept-client, accept-failed, accept-full, accept-none, accept-unsaid, accepted-as, on-err}
use Rattle.wl_server.proofs.Telling.{ok-kept}
use Rattle.wl_server.proofs.accepting.accept_one.Goals as goal

pub returns-then-accepted-eq4294967295-clause-told : goal.returns-then-accepted-eq4294967295-clause-told
returns-then-accepted-eq4294967295-clause-told g c =
    accept-none (ways g.H.Hub.accepts g.H.Hub.reads g.H.Hub.writes g.H.Hub.closes g.H.Hub.fault_count) _ _ _ _ _ (inl (c.if-accepted-eq4294967295.true, refl))

pub returns-in-Ok-None-clause-told : goal.returns-in-Ok-None-clause-told
returns-in-Ok-None-clause-told g c =
    accept-none (ways g.H.Hub.accepts g.H.Hub.reads g.H.Hub.writes g.H.Hub.closes g.H.Hub.fault_count) c.args.hub.now c.accept.new.self _ _ _
    (inr (inl (accepted-as g.H.Hub.accepts c.args.hub.now c.accept.new.self (g.H.Hub.fault_count c.args.hub.now) (g.H.Hub.fault_count c.accept.new.self) c.accept.result
    c.in-Ok-None.field-0 None c.in-Ok-None.is c.in-Ok-None.field-0-is c.accept.ensures.answers c.accept.ensures.faults)))

pub returns-in-Err-clause-told : goal.returns-in-Err-clause-told
returns-in-Err-clause-told g c =
    accept-none (ways g.H.Hub.accepts g.H.Hub.reads g.H.Hub.writes g.H.Hub.closes g.H.Hub.fault_count) c.args.hub.now c.accept.new.self _ _ _
    (inr (inr (accept-failed _ _ c.accept.result c.in-Err.field-0 c.in-Err.is c.accept.ensures.faults)))

pub returns-in_err-map_err-in-Ok-clause-taken : goal.returns-in_err-map_err-in-Ok-clause-taken
returns-in_err-map_err-in-Ok-clause-taken g c =
    let got = accepted-as g.H.Hub.accepts c.args.hub.now c.accept.new.self (g.H.Hub.fault_count c.args.hub.now) (g.H.Hub.fault_count c.accept.new.self) c.accept.result
    c.in-Ok-Some.field-0 (Some c.in-Ok-Some.conn) c.in-Ok-Some.is c.in-Ok-Some.field-0-is c.accept.ensures.answers c.accept.ensures.faults in
    let gave : Gave (ways g.H.Hub.accepts g.H.Hub.reads g.H.Hub.writes g.H.Hub.closes g.H.Hub.fault_count) c.args.hub.now c.accept.new.self c.in-Ok-Some.conn c.args.accepted.now =
    record { room = omega arith; accepts = got.0; calm = got.1 } in
    let seated : c.sit.new.seats ≡ with_seat c.in-Ok.client (Some (new_seat c.in-Ok-Some.conn (c.args.accepted.now + 1))) c.args.seats.now =
    c.sit.ensures ∙ ap (λ s. with_seat c.in-Ok.client (Some s) c.args.seats.now) c.new.ensures in
    on-err c.from_residual.result
    (accept-unsaid (ways g.H.Hub.accepts g.H.Hub.reads g.H.Hub.writes g.H.Hub.closes g.H.Hub.fault_count) c.args.hub.now c.accept.new.self c.in-Ok-Some.conn c.args.accepted.now c.in-Ok.client c.args.seats.now c.sit.new.seats
    c.args.recorded.now c.connect.new.self gave seated (c.in-Ok.ensures.course, c.in-Ok.ensures.noted))

pub returns-in_ok-map_err-in-Ok-clause-told : goal.returns-in_ok-map_err-in-Ok-clause-told
returns-in_ok-map_err-in-Ok-clause-told g c =
    let wrote = ok-kept c.write_client.result c.map_err.result _ _ c.write_client.ensures c.map_err.ensures.variant c.in_ok-map_err-in-Ok.was in
    let got = accepted-as g.H.Hub.accepts c.args.hub.now c.accept.new.self (g.H.Hub.fault_count c.args.hub.now) (g.H.Hub.fault_count c.accept.new.self) c.accept.result
    c.in-Ok-Some.field-0 (Some c.in-Ok-Some.conn) c.in-Ok-Some.is c.in-Ok-Some.field-0-is c.accept.ensures.answers c.accept.ensures.faults in
    let gave : Gave (ways g.H.Hub.accepts g.H.Hub.reads g.H.Hub.writes g.H.Hub.closes g.H.Hub.fault_count) c.args.hub.now c.accept.new.self c.in-Ok-Some.conn c.args.accepted.now =
    record { room = omega arith; accepts = got.0; calm = got.1 } in
    let seated : c.sit.new.seats ≡ with_seat c.in-Ok.client (Some (new_seat c.in-Ok-Some.conn (c.args.accepted.now + 1))) c.args.seats.now =
    c.sit.ensures ∙ ap (λ s. with_seat c.in-Ok.client (Some s) c.args.seats.now) c.new.ensures in
    accept-client (ways g.H.Hub.accepts g.H.Hub.reads g.H.Hub.writes g.H.Hub.closes g.H.Hub.fault_count) c.args.hub.now c.accept.new.self c.in-Ok-Some.conn c.args.accepted.now c.in-Ok.client c.args.seats.now c.sit.new.seats
    c.args.recorded.now c.connect.new.self _ _ gave seated (c.in-Ok.ensures.course, c.in-Ok.ensures.noted) wrote

pub returns-in-Err-Full-clause-told : goal.returns-in-Err-Full-clause-told
returns-in-Err-Full-clause-told g c =
    let got = accepted-as g.H.Hub.accepts c.args.hub.now c.accept.new.self (g.H.Hub.fault_count c.args.hub.now) (g.H.Hub.fault_count c.accept.new.self) c.accept.result
    c.in-Ok-Some.field-0 (Some c.in-Ok-Some.conn) c.in-Ok-Some.is c.in-Ok-Some.field-0-is c.accept.ensures.answers c.accept.ensures.faults in
    let gave : Gave (ways g.H.Hub.accepts g.H.Hub.reads g.H.Hub.writes g.H.Hub.closes g.H.Hub.fault_count) c.args.hub.now c.accept.new.self c.in-Ok-Some.conn c.args.accepted.now =
    record { room = omega arith; accepts = got.0; calm = got.1 } in
    accept-full (ways g.H.Hub.accepts g.H.Hub.reads g.H.Hub.writes g.H.Hub.closes g.H.Hub.fault_count) c.args.hub.now c.accept.new.self c.close.new.self c.in-Ok-Some.conn c.args.accepted.now c.in-Err-Full.field-0
    c.args.seats.now c.args.recorded.now c.connect.new.self _ gave c.close.ensures.closed c.close.ensures.faults (c.in-Err-Full.ensures.course, c.in-Err-Full.ensures.noted)

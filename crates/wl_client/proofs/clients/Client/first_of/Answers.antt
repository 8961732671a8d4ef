use Rattle.std.proofs.Common.{rules}
use Rattle.wl_proto.specs.Messages.{request_message}
use Rattle.wl_client.proofs.Passing.{first-refused}
use Rattle.wl_client.proofs.clients.Client.first_of.Goals as goal

pub returns-in-Err : goal.returns-in-Err
returns-in-Err g c =
    let whole = rw (← c.self.view_is) at c.requires in
    rw (← c.self.view_is) (first-refused _ c.args.object c.args.opcode c.args.size c.in-Some.entry (request_message c.in-Ok.request) _ _ c.as_slice.result.now c.in-Err.refusal whole c.in-Some.ensures
    c.as_slice.ensures c.in-Ok.ensures.exact c.objects.ensures c.if-not-are_fit.ensures c.new_id.ensures c.in-Err.ensures)

pub returns-in_default : goal.returns-in_default
returns-in_default g c = search rules

pub returns-in_default-decode : goal.returns-in_default-decode
returns-in_default-decode g c = search rules

pub returns-then-not-are_fit : goal.returns-then-not-are_fit
returns-then-not-are_fit g c = search rules

pub returns-in-Ok-check_new_id : goal.returns-in-Ok-check_new_id
returns-in-Ok-check_new_id g c = search rules

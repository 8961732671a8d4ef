use Rattle.std.proofs.Common.{ap, sym, ◌∙◌}
use Rattle.std.specs.Prelude.{is_some}
use Rattle.wl_client.specs.View.{ClientView}
use Rattle.wl_clients.proofs.Calls.{lives-of}
use Rattle.wl_clients.proofs.Told.{told-ended, told-lives, told-refused}
use Rattle.wl_clients.proofs.pointing.tell_to.Goals as goal

pub returns-then-has_ended-clause-told : goal.returns-then-has_ended-clause-told
returns-then-has_ended-clause-told g c =
    told-ended c.args.event c.args.pointers.now c.args.resident.now.client.ended c.args.resident.now.client.refused c.args.resident.now.client (sym c.has_ended.ensures ∙ c.if-has_ended.true)

pub returns-then-is_some-clause-told : goal.returns-then-is_some-clause-told
returns-then-is_some-clause-told g c =
    told-refused c.args.event c.args.pointers.now c.args.resident.now.client.ended c.args.resident.now.client.refused c.args.resident.now.client
    (sym (c.is_some.ensures ∙ ap is_some c.to_end_for.ensures) ∙ c.if-is_some.true)

pub returns-clause-told : goal.returns-clause-told
returns-clause-told g c =
    told-lives c.args.event c.args.pointers.now c.args.resident.now.client.ended c.args.resident.now.client.refused c.args.resident.now.client c.tell_pointers-queued.new.self
    (lives-of c.args.resident.now.client.ended (sym c.has_ended.ensures ∙ c.if-has_ended.false))
    (lives-of c.args.resident.now.client.refused (sym (c.is_some.ensures ∙ ap is_some c.to_end_for.ensures) ∙ c.if-is_some.false))
    (c.tell_pointers-queued.ensures.tells, c.tell_pointers-queued.ensures.only)

pub returns-clause-table : goal.returns-clause-table
returns-clause-table g c = ap (λ (v : ClientView). v.objects) c.tell_pointers-queued.ensures.only

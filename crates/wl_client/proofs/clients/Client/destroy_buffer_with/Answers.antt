use Rattle.std.proofs.Common.{None, ap, refl, sym, ◌∙◌}
use Rattle.spec_desktop.specs.Buffers.{Buffer}
use Rattle.spec_desktop.specs.Objects.{ById}
use Rattle.spec_desktop.specs.Used.{has_used}
use Rattle.wl_client.proofs.Peers.{IsPeer-buffers}
use Rattle.wl_client.proofs.Taking.{ActsWith-used, ActsWith-unused}
use Rattle.wl_client.proofs.clients.Client.destroy_buffer_with.Goals as goal

pub returns-then-is_buffer_used-clause-acts : goal.returns-then-is_buffer_used-clause-acts
returns-then-is_buffer_used-clause-acts g c = λ used are p is.
    let seen = rw (← c.self.view_is) at is in
    let uses = ap (λ (held : ById Buffer). has_used used (held c.args.id)) (sym is.buffers) ∙ sym (c.is_buffer_used.ensures used are) ∙ c.if-is_buffer_used.true in
    let next = c.remove.ensures.removes _ (IsPeer-buffers _ p c.self.inside.buffers c.remove-used.new.self c.args.id None refl c.remove-used.ensures.updates seen) in
    (next.0, ActsWith-used used c.args.id c.args.store p next.0 uses next.1, next.2)

pub returns-else-is_buffer_used-clause-acts : goal.returns-else-is_buffer_used-clause-acts
returns-else-is_buffer_used-clause-acts g c = λ used are p is.
    let unused = ap (λ (held : ById Buffer). has_used used (held c.args.id)) (sym is.buffers) ∙ sym (c.is_buffer_used.ensures used are) ∙ c.if-is_buffer_used.false in
    let next = c.destroy_buffer.ensures.acts p is in
    (next.0, ActsWith-unused used c.args.id c.args.store p next.0 unused next.1, next.2)

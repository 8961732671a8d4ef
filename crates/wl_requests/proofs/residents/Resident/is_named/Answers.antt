use Rattle.std.proofs.Common.{ap, ◌∙◌, ◌==◌, ℕ, Option}
use Rattle.std.specs.Option.{option_map}
use Rattle.spec_desktop.specs.Buffers.{Buffer as Made}
use Rattle.spec_desktop.specs.Step.{is_number}
use Rattle.wl_requests.proofs.residents.Resident.is_named.Goals as goal

pub returns-in-Some : goal.returns-in-Some
returns-in-Some g c = λ p is.
    ap (λ (n : ℕ). n == c.args.buffer.number) c.number.ensures
    ∙ ap (λ (o : Option Made). is_number c.args.buffer.number (option_map (λ made. made.number) o)) (c.in-Some.ensures ∙ ap (λ (f : ℕ → Option Made). f c.args.buffer.object) is.buffers)

pub returns-in-None : goal.returns-in-None
returns-in-None g c = λ p is.
    ap (λ (o : Option Made). is_number c.args.buffer.number (option_map (λ made. made.number) o)) (c.in-None.ensures ∙ ap (λ (f : ℕ → Option Made). f c.args.buffer.object) is.buffers)

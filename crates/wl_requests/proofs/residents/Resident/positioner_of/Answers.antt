use Rattle.std.proofs.Common.{ℕ, Option, ap, ◌∙◌}
use Rattle.spec_desktop.specs.XdgPopup.{positioner_of}
use Rattle.wl_shell.specs.Positioner.{Positioner}
use Rattle.wl_requests.proofs.residents.Resident.positioner_of.Goals as goal

pub returns-in-Some : goal.returns-in-Some
returns-in-Some g c = λ p is. ap positioner_of (c.in-Some.ensures ∙ ap (λ (f : ℕ → Option Positioner). f c.args.id) is.positioners)

pub returns-in-None : goal.returns-in-None
returns-in-None g c = λ p is. c.new.ensures ∙ ap positioner_of (c.in-None.ensures ∙ ap (λ (f : ℕ → Option Positioner). f c.args.id) is.positioners)

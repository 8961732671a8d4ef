use Rattle.std.proofs.Common.{◌≡◌, Result, ap, refl, subst, sym, ◌∙◌}
use Rattle.std.specs.Prelude.{OnOk, is_some}
use Rattle.wl_shell.specs.declared.error.ShellError.{ShellError}
use Rattle.wl_shell.specs.Placing.{set_answer}
use Rattle.wl_shell.specs.Settings.{with_setting}
use Rattle.spec_desktop.specs.Peer.{set_positioner}
use Rattle.wl_client.proofs.Peers.{positioner-absent, positioner-set}
use Rattle.wl_client.proofs.clients.Client.set_positioner.Goals as goal

pub returns-in_default-clause-acts : goal.returns-in_default-clause-acts
returns-in_default-clause-acts g c = λ p is.
    let seen = rw (← c.self.view_is) at is in
    (set_positioner c.args.id c.args.setting.now p, refl, rw c.get_mut.follows.holds-at-none (positioner-absent _ p c.args.id c.args.setting.now (sym c.in_default.ensures.value) seen))

pub returns-clause-acts : goal.returns-clause-acts
returns-clause-acts g c = λ p is.
    let seen = rw (← c.self.view_is) at is in
    let values = c.set-answer.new.self in
    let there = c.in-Some.ensures.value in
    let updates = (c.get_mut.follows.holds values).3 (ap is_some (sym there)) in
    let is_set : values ≡ with_setting c.args.setting.now c.in-Some.positioner.now =
    subst (λ (answer : Result Unit ShellError). OnOk answer (values ≡ with_setting c.args.setting.now c.in-Some.positioner.now)) (c.set-answer.ensures.answer ∙ ap set_answer c.requires.allowed)
    c.set-answer.ensures.ok in (
      set_positioner c.args.id c.args.setting.now p,
      refl,
      positioner-set _ p c.self.inside.positioners (c.get_mut.follows.lender values) c.args.id c.in-Some.positioner.now values c.args.setting.now refl there updates is_set seen,
    )

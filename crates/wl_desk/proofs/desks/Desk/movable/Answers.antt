use Rattle.std.proofs.Common.{◌≡◌, ◌==◌, false, ap, refl, rules, sym, tests, ◌∙◌}
use Rattle.wl_scene.specs.Focus.{target_of, target_or_none}
use Rattle.spec_desktop.specs.Settling.{unstruck}
use Rattle.wl_desk.proofs.Movables.{one-whole, other-whole, rootless-whole, telling-at, unfocused-whole, unheld-whole, windowless-whole}
use Rattle.wl_desk.proofs.desks.Desk.movable.Goals as goal

pub returns-in_err-serial : goal.returns-in_err-serial
returns-in_err-serial g c = λ d a.
    rw c.from_residual.ensures (unheld-whole c.args.self.now.desk d a c.args.client (rw (← c.self.view_is) (sym c.in_err-serial.was ∙ c.hold.ensures)))

pub returns-in_err-focus : goal.returns-in_err-focus
returns-in_err-focus g c = λ d a.
    rw c.from_residual-in_err-focus.ensures
    (unfocused-whole c.args.self.now.desk d a c.args.client (rw (← c.self.view_is) (sym (ap target_or_none c.in_err-focus.was) ∙ c.focus.ensures)))

pub returns-then-focus-client : goal.returns-then-focus-client
returns-then-focus-client g c = λ d a.
    let other : (c.in_ok-focus.focus.client == c.args.client) ≡ false = search (rules, tests) in
    other-whole c.args.self.now.desk d a c.args.client (target_of c.in_ok-focus.focus) (rw (← c.self.view_is) (sym (ap target_or_none c.in_ok-focus.was) ∙ c.focus.ensures)) other

pub returns-in_err-number : goal.returns-in_err-number
returns-in_err-number g c = λ d a.
    let own : c.in_ok-focus.focus.client ≡ c.args.client = search (rules, tests) in
    let h = c.window_of.ensures (unstruck d) (telling-at c.args.self.now.desk d a) in
    rw c.from_residual-in_err-number.ensures
    (windowless-whole c.args.self.now.desk d a c.args.client (target_of c.in_ok-focus.focus) (rw (← c.self.view_is) (sym (ap target_or_none c.in_ok-focus.was) ∙ c.focus.ensures)) own
    (rw c.in_err-number.was at h))

pub returns-in_err-surface : goal.returns-in_err-surface
returns-in_err-surface g c = λ d a.
    let own : c.in_ok-focus.focus.client ≡ c.args.client = search (rules, tests) in
    let h = c.window_of.ensures (unstruck d) (telling-at c.args.self.now.desk d a) in
    rootless-whole c.args.self.now.desk d a c.args.client (target_of c.in_ok-focus.focus) (rw (← c.self.view_is) (sym (ap target_or_none c.in_ok-focus.was) ∙ c.focus.ensures)) own
    c.in_ok-number.field-0 (rw c.in_ok-number.was at h) (rw (← c.self.view_is) c.in_err-surface.ensures.none)

pub returns : goal.returns
returns g c = λ d a.
    let own : c.in_ok-focus.focus.client ≡ c.args.client = search (rules, tests) in
    let h = c.window_of.ensures (unstruck d) (telling-at c.args.self.now.desk d a) in
    one-whole c.args.self.now.desk d a c.args.client (target_of c.in_ok-focus.focus) (rw (← c.self.view_is) (sym (ap target_or_none c.in_ok-focus.was) ∙ c.focus.ensures)) own
    c.in_ok-number.field-0 (rw c.in_ok-number.was at h) _ c.in_ok-surface.surface (rw (← c.self.view_is) (sym c.in_ok-serial.was ∙ c.hold.ensures)) refl refl
    (rw (← c.self.view_is) c.in_ok-surface.ensures.some)

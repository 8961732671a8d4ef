use Rattle.std.proofs.Common.{◌≡◌, ◌+◌, suc, List, take, drop, false, refl, ap, sym, ◌∙◌, arith}
use Rattle.wl_shell.specs.Shell.{Configure, is_waiting, later_than, role_acknowledged, up_to}
use Rattle.wl_shell.proofs.Waiting.{waits, waits-not}
use Rattle.wl_shell.proofs.xdg_surface.XdgSurface.acknowledge.Goals as goal

pub returns-in_default-last_place_of-clause-answer :
    goal.returns-in_default-last_place_of-clause-answer
returns-in_default-last_place_of-clause-answer c =
    let none = waits-not c.args.serial c.deref.result.now c.in_default-last_place_of.ensures.none in
    let here : is_waiting c.args.serial c.self.inside.configures.items ≡ false = ap (is_waiting c.args.serial) (sym c.deref.ensures.0) ∙ none in
    rw (← c.self.view_is) (rw (c.in-Some.is, here) refl)

pub returns-clause-ok : goal.returns-clause-ok
returns-clause-ok c =
    let found = c.in-Some-last_place_of.ensures.some in
    let place = c.in-Some-last_place_of.place in
    let after = waits c.args.serial c.deref.result.now place found.0 found.1 found.2 in
    let next : place + 1 ≡ suc place = omega arith in
    let same : c.deref.result.now ≡ c.self.inside.configures.items = c.deref.ensures.0 in
    let left : c.forget_first.new.configures.items ≡ later_than c.args.serial c.self.inside.configures.items = c.forget_first.ensures ∙ ap (λ n. drop n c.self.inside.configures.items) next
    ∙ ap (drop (suc place)) (sym same) ∙ sym after.1 ∙ ap (later_than c.args.serial) same in
    let acknowledged : c.acknowledge.new.self ≡ role_acknowledged (up_to c.args.serial c.self.inside.configures.items) c.in-Some.role = c.acknowledge.ensures
    ∙ ap (λ (cs : List Configure). role_acknowledged cs c.in-Some.role) (ap (λ n. take n c.deref-2.result.now) next ∙ ap (take (suc place)) (c.deref-2.ensures.0 ∙ sym same) ∙ sym after.2 ∙ ap (up_to c.args.serial) same) in
    rw (← c.self.view_is) (rw (c.in-Some.is, left, acknowledged) refl)

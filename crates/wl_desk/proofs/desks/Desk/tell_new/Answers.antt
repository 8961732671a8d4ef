use Rattle.std.proofs.Common.{◌≡◌, ◌==◌, false, rules, tests}
use Rattle.wl_scene.specs.Focus.{target_of}
use Rattle.wl_desk.proofs.Followed.{away-whole, focus-at, none-away, other-away, told-whole}
use Rattle.wl_desk.proofs.desks.Desk.tell_new.Goals as goal

pub returns-in_default-clause-tells : goal.returns-in_default-clause-tells
returns-in_default-clause-tells g c =
    away-whole c.args.client c.args.id c.args.self.now (none-away c.args.client _ (focus-at c.self.inside.clients _ _ c.self.inside.pointer _ c.args.self.now _ c.self.view_is c.in_default.ensures))

pub returns-then-focus-client-clause-tells : goal.returns-then-focus-client-clause-tells
returns-then-focus-client-clause-tells g c =
    let apart : (c.in-Some.focus.client == c.args.client) ≡ false = search (rules, tests) in
    away-whole c.args.client c.args.id c.args.self.now
    (other-away c.args.client (target_of c.in-Some.focus) _ apart (focus-at c.self.inside.clients _ _ c.self.inside.pointer _ c.args.self.now _ c.self.view_is c.in-Some.ensures))

pub returns-clause-tells : goal.returns-clause-tells
returns-clause-tells g c = λ old d took alive.
    let own : c.in-Some.focus.client ≡ c.args.client = search (rules, tests) in
    told-whole c.args.client c.args.id c.args.self.now (target_of c.in-Some.focus) own
    (focus-at c.self.inside.clients _ _ c.self.inside.pointer _ c.args.self.now _ c.self.view_is c.in-Some.ensures)
    c.enter_alone.new.self c.enter_alone.ensures.pointer c.enter_alone.ensures.damage c.enter_alone.ensures.tells old d took alive

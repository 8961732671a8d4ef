use Rattle.std.proofs.Common.{◌≡◌, ◌≢◌, [], rules, tests}
use Rattle.wl_scene.specs.Focus.{target_of, target_or_none}
use Rattle.wl_clients.specs.Agreement.{numbers_in}
use Rattle.wl_desk.proofs.Seeing.{free-seen, held-seen, none-seen}
use Rattle.wl_desk.proofs.desks.Desk.seen.Goals as goal

pub returns-then-is_free : goal.returns-then-is_free
returns-then-is_free g c = λ m midway.
    let none : c.self.inside.pointer.buttons ≡ [] = search (rules, tests) in
    free-seen c.args.self.now.desk (target_or_none c.hit.result) (rw (← c.self.view_is) none) c.hit.ensures m midway

pub returns-in_default : goal.returns-in_default
returns-in_default g c = λ m midway.
    let down : c.self.inside.pointer.buttons ≢ [] = search (rules, tests) in
    none-seen c.args.self.now.desk (rw (← c.self.view_is) down) (rw (← c.self.view_is) c.in_default.ensures) m midway

pub returns : goal.returns
returns g c = λ m midway.
    let down : c.self.inside.pointer.buttons ≢ [] = search (rules, tests) in
    rw c.is_some.ensures (held-seen c.args.self.now.desk (target_of c.in-Some.focus) (numbers_in c.args.self.now.desk.kept.clients) c.window_of.result (rw (← c.self.view_is) down)
    (rw (← c.self.view_is) c.in-Some.ensures) c.window_of.ensures m midway)

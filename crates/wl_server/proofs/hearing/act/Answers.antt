use Rattle.std.proofs.Common.{◌≡◌, [], refl, rules, sym, w32}
use Rattle.std.proofs.lemmas.Int.{to_z-of_z}
use Rattle.std.specs.Prelude.{FitsSigned}
use Rattle.wl_server.proofs.PointedLines.{motion-noted}
use Rattle.wl_server.specs.Watching.{Does, act_of}
use Rattle.wl_server.proofs.Taking.{Takes-none}
use Rattle.wl_server.proofs.Watched.{does-button, does-motion}
use Rattle.wl_server.proofs.hearing.act.Goals as goal

pub returns-in-Motion : goal.returns-in-Motion
returns-in-Motion g c =
    let m = c.in-Motion in
    let x : FitsSigned w32 m.x = search rules in
    let y : FitsSigned w32 m.y = search rules in
    does-motion c.args.asked c.args.time m.x m.y c.args.recorded.now c.motion.new.self m.is
    (motion-noted g.R.Write.contents c.args.time m.x m.y _ _ (to_z-of_z w32 m.x x) (to_z-of_z w32 m.y y) _ _ (c.motion.ensures.course, c.motion.ensures.noted))

pub returns-in-Button : goal.returns-in-Button
returns-in-Button g c =
    let b = c.in-Button in
    does-button c.args.asked c.args.time b.code b.pressed c.args.recorded.now c.button.new.self b.is (c.button.ensures.course, c.button.ensures.noted)

pub returns-in-Sync : goal.returns-in-Sync
returns-in-Sync g c =
    let none : act_of c.args.time c.args.asked ≡ [] = search rules in
    Takes-none (Does (act_of c.args.time c.args.asked)) c.args.recorded.now c.args.recorded.now refl (λ d agrees. sym none)

use Rattle.std.proofs.Common.{◌≡◌, [], ◌∷◌, refl, rules, sym, w32}
use Rattle.std.proofs.lemmas.Int.{to_z-of_z}
use Rattle.std.specs.Prelude.{FitsSigned}
use Rattle.wl_server.specs.Due.{asked_of}
use Rattle.wl_server.specs.Phases.{Points}
use Rattle.wl_server.proofs.PointedLines.{motion-noted, point-button, point-motion}
use Rattle.wl_server.proofs.Taking.{Takes-none}
use Rattle.wl_server.proofs.pointing.point.Goals as goal

pub returns-in-Motion : goal.returns-in-Motion
returns-in-Motion g c =
    let m = c.in-Motion in
    let x : FitsSigned w32 m.x = search rules in
    let y : FitsSigned w32 m.y = search rules in
    point-motion c.args.line m.time m.x m.y c.args.recorded.now c.motion.new.self m.is
    (motion-noted g.R.Write.contents m.time m.x m.y _ _ (to_z-of_z w32 m.x x) (to_z-of_z w32 m.y y) _ _ (c.motion.ensures.course, c.motion.ensures.noted))

pub returns-in-Button : goal.returns-in-Button
returns-in-Button g c =
    let b = c.in-Button in
    point-button c.args.line b.time b.code b.pressed c.args.recorded.now c.button.new.self b.is (c.button.ensures.course, c.button.ensures.noted)

pub returns-in-Skip : goal.returns-in-Skip
returns-in-Skip g c =
    let none : asked_of (c.args.line ∷ []) ≡ [] = search rules in
    Takes-none (Points (c.args.line ∷ [])) c.args.recorded.now c.args.recorded.now refl (λ d agrees. sym none)

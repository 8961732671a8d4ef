use Rattle.std.proofs.Common.{◌≡◌, ap, ◌∙◌, ℤ, w32, to_z, of_z, arith, option_copied}
use Rattle.std.proofs.lemmas.Int.{ints}
use Rattle.spec_desktop.specs.Windows.{is_hit}
use Rattle.wl_scene.specs.Hit.{slots_or_none}
use Rattle.wl_scene.proofs.Hits.{hit-inside, inside-window, kept}
use Rattle.wl_scene.proofs.hitting.takes_input.Goals as goal

pub returns-then-contains : goal.returns-then-contains
returns-then-contains g c = λ numbers all w is stood shown.
    let x = to_z w32 (of_z w32 c.args.x) in
    let y = to_z w32 (of_z w32 c.args.y) in
    let same-x : x ≡ c.args.x = omega (arith, ints) in
    let same-y : y ≡ c.args.y = omega (arith, ints) in
    let slots = slots_or_none (option_copied c.args.surfaces) in
    let keeps = kept x y numbers c.args.stacked.now w is slots all stood shown in
    hit-inside x y numbers c.args.stacked.now w is slots all stood shown c.surface_takes.result
    (c.surface_takes.ensures keeps.slot shown.history keeps.there keeps.stands)
    (inside-window x y numbers c.args.stacked.now w is c.contains.result c.contains.ensures c.if-contains.true)
    ∙ ap (λ (z : ℤ). is_hit z y w) same-x
    ∙ ap (λ (z : ℤ). is_hit c.args.x z w) same-y

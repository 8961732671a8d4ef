use Rattle.std.proofs.Common.{◌≡◌, ap, sym, subst, ◌∙◌, ℤ, ◌-ℤ◌, Option, option_copied, w64, to_z, of_z, arith}
use Rattle.std.specs.Option.{option_map}
use Rattle.std.proofs.lemmas.Int.{ints}
use Rattle.wl_geom.specs.Region.{Area}
use Rattle.wl_surface.specs.Kept.{Counting, IsInput, counting_in, counting_of}
use Rattle.wl_surface.specs.State.{applied}
use Rattle.spec_desktop.specs.Windows.{takes_input as input_at}
use Rattle.wl_scene.proofs.Truth.{some-same}
use Rattle.wl_scene.proofs.hitting.surface_takes.Goals as goal

pub returns : goal.returns
returns g c = λ k h kept is.
    let counted = some-same (counting_in c.in-Some.current) (counting_of k) (c.in-Some.ensures ∙ ap (option_map counting_of) kept) in
    let input : option_copied c.in-Some.current.input ≡ k.current_input = ap (λ (v : Counting). v.input) counted in
    let right : to_z w64 (of_z w64 c.between-right.result) ≡ c.args.x -ℤ c.args.window.now.x = omega (arith, ints) in
    let down : to_z w64 (of_z w64 c.between-down.result) ≡ c.args.y -ℤ c.args.window.now.y = omega (arith, ints) in
    c.region_takes.ensures (applied h).input (subst (λ (a : Option Area). IsInput a (applied h).input) (sym input) is.current.input_is)
    ∙ ap (λ (z : ℤ). input_at (applied h).input z (to_z w64 (of_z w64 c.between-down.result))) right
    ∙ ap (input_at (applied h).input (c.args.x -ℤ c.args.window.now.x)) down

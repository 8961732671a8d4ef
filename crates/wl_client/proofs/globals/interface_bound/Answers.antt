use Rattle.std.proofs.Common.{◌≡◌, ◌<◌, length, ap, sym, ◌∙◌}
use Rattle.std.proofs.lemmas.List.{length-map}
use Rattle.std.specs.Option.{option_map}
use Rattle.spec_desktop.specs.Objects.{is_bound}
use Rattle.wl_client.specs.Said.{global_of}
use Rattle.wl_client.proofs.Finds.{find-here, find-on}
use Rattle.wl_client.proofs.globals.interface_bound.Goals as goal

pub returns-then-is_bound : goal.returns-then-is_bound
returns-then-is_bound c =
    let six : length c.globals.result ≡ 6 = sym (length-map c.globals.result global_of) ∙ ap (λ gs. length gs) c.globals.ensures in
    let within : c.loop-global.global-index < length c.globals.result = rw six c.loop-global-test.true in
    let found = find-here (is_bound c.args.name c.args.text.now c.args.version) global_of c.globals.result c.loop-global.global-index _ within c.loop-global.invariant (sym c.if-is_bound.ensures) in
    rw c.globals.ensures at (ap (λ o. option_map (λ g. g.interface) o) (sym found))

pub loop-global-preserved : goal.loop-global-preserved
loop-global-preserved c =
    let six : length c.globals.result ≡ 6 = sym (length-map c.globals.result global_of) ∙ ap (λ gs. length gs) c.globals.ensures in
    let within : c.loop-global.global-index < length c.globals.result = rw six c.loop-global-test.true in
    find-on (is_bound c.args.name c.args.text.now c.args.version) global_of c.globals.result c.loop-global.global-index _ within c.loop-global.invariant (sym c.if-is_bound.ensures)

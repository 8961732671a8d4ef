use Rattle.std.proofs.Common.{◌≡◌, None, ap, sym, rules, tests, ◌∙◌}
use Rattle.std.specs.List.{find}
use Rattle.std.specs.Option.{option_map}
use Rattle.std.proofs.lemmas.Iterator.{YieldsList-from_slice}
use Rattle.std.proofs.lemmas.Iterator.Search.{find_from_yields_List}
use Rattle.spec_desktop.specs.Stacking.{Standing, is_of}
use Rattle.wl_scene.specs.Kept.{standing_of}
use Rattle.wl_clients.proofs.OnScreen.Toplevels.{find-standing}
use Rattle.wl_clients.proofs.screen.screens.toplevel_of.Goals as goal

pub returns-in_err-toplevel : goal.returns-in_err-toplevel
returns-in_err-toplevel g c =
    let p = λ (s : Standing). is_of c.args.surface.client c.args.surface.surface s in
    let looked = find_from_yields_List (λ t. p (standing_of t)) _ _ c.find.result c.find.ensures.ran (YieldsList-from_slice c.toplevels.result.now cc) (λ x b q k. search (rules, tests)) in
    let none : c.from_residual.result ≡ None = search rules in
    ap (option_map standing_of) none ∙ ap (option_map standing_of) (sym (ap (option_map (λ x. x.now)) c.in_err-toplevel.was) ∙ looked) ∙ find-standing p c.toplevels.result.now
    ∙ ap (find p) c.toplevels.ensures

pub returns : goal.returns
returns g c =
    let p = λ (s : Standing). is_of c.args.surface.client c.args.surface.surface s in
    let looked = find_from_yields_List (λ t. p (standing_of t)) _ _ c.find.result c.find.ensures.ran (YieldsList-from_slice c.toplevels.result.now cc) (λ x b q k. search (rules, tests)) in
    ap (option_map standing_of) (sym (ap (option_map (λ x. x.now)) c.in_ok-toplevel.was) ∙ looked) ∙ find-standing p c.toplevels.result.now ∙ ap (find p) c.toplevels.ensures

use Rattle.std.proofs.Common.{◌≡◌, [], ◌∷◌, true, false, arith}
use Rattle.wl_scene.proofs.Rooted.{fold-longer}
use Rattle.wl_scene.proofs.roots.add_all.Goals as goal
use Rattle.spec_desktop.specs.Popups.{stacked_popups}

pub returns-in_err-push-clause-succeeds : goal.returns-in_err-push-clause-succeeds
returns-in_err-push-clause-succeeds g c = λ o r held rising at is fits.
    let one = fold-longer o.surfaces (r ∷ []) (stacked_popups o) in
    absurd (let no : false ≡ true = c.in_err-push.ensures.succeeds (omega (arith, one, fits)) in cc)

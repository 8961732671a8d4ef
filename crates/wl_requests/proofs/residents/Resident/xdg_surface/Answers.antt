use Rattle.std.proofs.Common.{rules, w32}
use Rattle.std.specs.Prelude.{FitsSigned}
use Rattle.std.proofs.lemmas.Int.{to_z-of_z}
use Rattle.wl_requests.proofs.residents.Resident.xdg_surface.Goals as goal

pub returns-in-GetPopup-clause-answers : goal.returns-in-GetPopup-clause-answers
returns-in-GetPopup-clause-answers g c = λ named free fit. rw c.in-GetPopup.is (c.get_popup.ensures.answers named (rw c.in-GetPopup.is at free) (rw c.in-GetPopup.is at fit))

pub returns-in-SetWindowGeometry-clause-answers : goal.returns-in-SetWindowGeometry-clause-answers
returns-in-SetWindowGeometry-clause-answers g c = λ named free fit.
    let x = c.in-SetWindowGeometry.x in
    let y = c.in-SetWindowGeometry.y in
    let width = c.in-SetWindowGeometry.width in
    let height = c.in-SetWindowGeometry.height in
    let x-fits : FitsSigned w32 x = search rules in
    let y-fits : FitsSigned w32 y = search rules in
    let width-fits : FitsSigned w32 width = search rules in
    let height-fits : FitsSigned w32 height = search rules in
    let answers = simp (to_z-of_z w32 x x-fits, to_z-of_z w32 y y-fits, to_z-of_z w32 width width-fits, to_z-of_z w32 height height-fits) at c.set_window_geometry.ensures.answers in
    rw c.in-SetWindowGeometry.is (answers c.args.version named)

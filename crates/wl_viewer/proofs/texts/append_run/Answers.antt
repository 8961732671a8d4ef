use Rattle.std.proofs.Common.{◌++◌, ◌∙◌, ap₂, List, ℕ, append_assoc}
use Rattle.wl_viewer.specs.Telling.{pixels_of, place_text}
use Rattle.wl_viewer.proofs.texts.append_run.Goals as goal

pub returns : goal.returns
returns g c =
    let run = c.args.run.now in
    c.in_ok-extend_from_slice.ensures.items
    ∙ (ap₂ (λ (a b : List ℕ). a ++ b) c.in_ok-append_place.ensures c.pixels_of.ensures
    ∙ append_assoc c.args.out.now.items (place_text run.x run.y run.w) (pixels_of c.args.frame.now run))

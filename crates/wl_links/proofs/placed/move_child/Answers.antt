use Rattle.std.proofs.Common.{◌<◌, ◌∙◌, ap, length, rules}
use Rattle.std.specs.Prelude.{slice_set}
use Rattle.std.proofs.lemmas.List.{get_or_default}
use Rattle.std.proofs.lemmas.List.Edits.{map_over_more}
use Rattle.wl_links.proofs.placed.move_child.Goals as goal

pub loop-place-preserved : goal.loop-place-preserved
loop-place-preserved c =
    let i = c.loop-place.place-index in
    let places = c.loop-place.places in
    let less : i < length c.args.places.now = search rules in
    let within : i < length places = search rules in
    ap (λ p. slice_set places i p) c.moved.ensures
    ∙ map_over_more _ c.args.places.now places i _ less c.loop-place.invariant (get_or_default places i _ _ within)

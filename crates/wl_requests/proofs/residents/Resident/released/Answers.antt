use Rattle.std.proofs.Common.{Bool, List, ap, map, slice_index_or, ◌==◌, ◌∙◌}
use Rattle.std.specs.List.{list_any}
use Rattle.std.specs.Option.{option_map}
use Rattle.std.specs.Prelude.{◌&&◌, ◌||◌, find}
use Rattle.spec_desktop.specs.Replies.{has_object}
use Rattle.wl_surface.specs.declared.content.Attached.{Attached}
use Rattle.wl_surface.specs.Kept.{buffer_of}
use Rattle.wl_surface.specs.Surface.{listed}
use Rattle.wl_requests.proofs.Letting.{any-more, has}
use Rattle.wl_requests.proofs.residents.Resident.released.Goals as goal

pub loop-number-preserved : goal.loop-number-preserved
loop-number-preserved g c = record {
  rising = c.put_released.ensures.rising;
  those = λ r is object.
      let freed = c.args.freed.now in
      let i = c.loop-number.number-index in
      let found = option_map buffer_of c.find.result in
      let shown = c.find.ensures ∙ ap (λ (bs : List Attached). find (has (slice_index_or freed i 0)) (map buffer_of bs)) c.deref.ensures.value in
      c.in_ok-put_released.ensures.ok r is object
      ∙ ap (λ (b : Bool). list_any (λ b. (b.object == object) && has_object r b) (listed found) || b) (c.loop-number.invariant.those r is object)
      ∙ any-more (λ b. (b.object == object) && has_object r b) freed i 0 (map buffer_of c.args.shown.now.items) found c.loop-number-test.true shown;
}

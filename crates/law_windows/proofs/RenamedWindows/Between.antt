-- What is marked of the one tree that a step changes, with its windows told by name, against what the step has to mark and what it may.
use Rattle.std.proofs.Common.{◌≡◌, Bool, true, false, map, refl, ap, sym, ◌∙◌}
use Rattle.std.specs.Prelude.{◌&&◌, ◌||◌, if◌then◌else◌}
use Rattle.std.specs.List.{list_any}
use Rattle.std.proofs.lemmas.Bool.{and_parts, or_left}
use Rattle.spec_desktop.specs.Marks.{at_least, at_most, in_output, same_records}
use Rattle.law_desktop.specs.TreeMarksLaws.{IsTreeOfRoot, MarksDamageAlone, MarksTreeAlone, MayMarkWholeTree, among, is_in_any, is_struck_at}
use Rattle.wl_scene.specs.Repaint.{marks}
use Rattle.law_windows.specs.RenamedMarks.{MarksAppliedByName, MarksBetweenByName}
use Rattle.law_windows.specs.RenamedWindows.{told_by}

pub marks-between-by-name : (A : Type 0) → MarksAppliedByName A → IsTreeOfRoot → MarksDamageAlone → MarksTreeAlone → MayMarkWholeTree → MarksBetweenByName A
marks-between-by-name A by-name is-tree damage-alone tree-alone whole f client root below above was is changes applied step apart each raised width height x y =
    at (same_records was is) refl
  where
    marked : Bool
    marked = marks (map (told_by f) was) (map (told_by f) is) changes x y

    strikes : Bool
    strikes = list_any (is_struck_at applied x y) is

    holds : Bool
    holds = is_in_any x y was || is_in_any x y is

    least : Bool
    least = at_least width height applied (among below above was) (among below above is) x y

    most : Bool
    most = at_most width height applied raised (among below above was) (among below above is) x y

    told : marked ≡ (if same_records was is then strikes else holds)
    told = by-name f client root was is step.of_tree apart changes applied each x y

    at : (same : Bool) → same_records was is ≡ same → (least ≡ true → marked ≡ true) × ((in_output width height x y && marked) ≡ true → most ≡ true)
    at true same =
        let alone = damage-alone below above was is applied step.before step.undamaged same width height x y in
        let as-told = told ∙ ap (λ b. if b then strikes else holds) same in (
          λ e. as-told ∙ (and_parts (in_output width height x y) strikes (sym alone ∙ e)).1,
          λ e. or_left least _ (alone ∙ ap (λ b. in_output width height x y && b) (sym as-told) ∙ e),
        )
    at false other =
        let as-told = told ∙ ap (λ b. if b then strikes else holds) other in (
          λ e. as-told
              ∙ (and_parts (in_output width height x y) holds
              (tree-alone below above was is applied step.before step.after step.undamaged width height x y e)).1,
          λ e. whole below above was is applied (is-tree below above was is client root step.of_tree.rooted step.apart) other raised width height x y
              (ap (λ b. in_output width height x y && b) (sym as-told) ∙ e),
        )

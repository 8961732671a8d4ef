use Rattle.std.proofs.Common.{◌≡◌, ◌-◌, ◌*◌, ◌/◌, ◌%◌, length, ap, ◌∙◌, sym, refl, arith}
use Rattle.std.specs.Prelude.{slice_index, slice_set}
use Rattle.std.proofs.lemmas.List.{get_or-set_same, get_or-set_other}
use Rattle.wl_paint.specs.Damage.{count_below}
use Rattle.wl_paint.specs.Words.{is_set}
use Rattle.wl_paint.proofs.Clips.{between_in_word}
use Rattle.wl_paint.proofs.MarkedWords.{count_below-marked}
use Rattle.wl_paint.proofs.words.mark_in_word.Goals as goal

pub returns-clause-counted : goal.returns-clause-counted
returns-clause-counted c =
    let words = c.args.words.now in
    let k = c.args.k in
    let word = c.mark_bits-marked.result.0 in
    count_below-marked words (slice_set words k word) k (length words) c.mark_bits-marked.result.1 c.requires.within (λ j n. get_or-set_other words k j word 0 n)
    (c.mark_bits-marked.ensures.counted ∙ ap (λ w. count_below 64 (is_set w)) (sym (get_or-set_same words k word 0 c.requires.within)))

pub returns-clause-points : goal.returns-clause-points
returns-clause-points c x h =
    let words = c.args.words.now in
    let k = c.args.k in
    let word = c.mark_bits-marked.result.0 in
    let here : slice_index (slice_set words k word) (x / 64) ≡ word = ap (λ j. slice_index (slice_set words k word) j) h ∙ get_or-set_same words k word 0 c.requires.within in
    let was : slice_index words (x / 64) ≡ slice_index words k = ap (λ j. slice_index words j) h in
    let part = between_in_word c.args.first c.args.end k x (c.max.result - 64 * k) (c.min.result - 64 * k) h (omega (arith, c.max.ensures)) (omega (arith, c.min.ensures)) in
    ap (λ w. is_set w (x % 64)) here ∙ (c.mark_bits-marked.ensures.bits (x % 64) ∙ rw (was, part) refl)

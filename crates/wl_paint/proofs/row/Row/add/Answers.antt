use Rattle.std.proofs.Common.{◌≡◌, ◌≤◌, ◌++◌, ◌+◌, ◌*◌, ◌∙◌, ◌||◌, Bool, ap, sym, length, take, drop, arith}
use Rattle.std.proofs.lemmas.List.{take_at}
use Rattle.wl_paint.specs.Damage.{count_below, is_between}
use Rattle.wl_paint.specs.Words.{IsRow, is_marked}
use Rattle.wl_paint.proofs.MarkedWords.{IsRow-add, count-le, length-marks_from, marked-row_words}
use Rattle.wl_paint.proofs.Wholes.{IsWhole-add}
use Rattle.wl_paint.proofs.row.Row.add.Given as given
use Rattle.wl_paint.proofs.row.Row.add.Goals as goal

pub mark_around-requires-clause-within : goal.mark_around-requires-clause-within
mark_around-requires-clause-within g c =
    let wide : length c.args.self.now ≡ c.self.inside.width = rw (← c.self.view_is) (length-marks_from c.self.inside.words.items 0 c.self.inside.width) in
    omega (arith, wide, ap length c.deref_mut.ensures.value, c.requires.within, c.self.invariant.0.sized)

pub mark_around-requires-clause-narrow : goal.mark_around-requires-clause-narrow
mark_around-requires-clause-narrow g c =
    let wide : length c.args.self.now ≡ c.self.inside.width = rw (← c.self.view_is) (length-marks_from c.self.inside.words.items 0 c.self.inside.width) in
    omega (arith, wide, ap length c.deref_mut.ensures.value, c.requires.narrow, c.self.invariant.0.tight)

pub overflow_add-self : goal.overflow_add-self
overflow_add-self g c =
    let words = c.deref_mut.result.now in
    let wide : length c.args.self.now ≡ c.self.inside.width = rw (← c.self.view_is) (length-marks_from c.self.inside.words.items 0 c.self.inside.width) in
    let narrow : length words ≤ 64 = omega (arith, wide, ap length c.deref_mut.ensures.value, c.requires.narrow, c.self.invariant.0.tight) in
    let was : c.self.inside.count ≡ count_below (64 * length words) (is_marked words) = rw c.deref_mut.ensures.value c.self.invariant.0.counted in
    omega (arith, count-le words c.mark_around.new.words c.self.inside.count c.mark_around.result narrow was c.mark_around.ensures.counted)

-- the words that were marked are those that are kept
written_back : (g : given.Over) (c : goal.After-self-3-1 g)
    → take c.self.inside.words.len (c.mark_around.new.words ++ drop (length c.mark_around.new.words) c.self.inside.words.items) ≡ c.mark_around.new.words
written_back g c =
    let long : length c.mark_around.new.words ≡ c.self.inside.words.len = omega (arith, c.deref_mut.ensures.len, c.mark_around.auto.words) in
    take_at c.mark_around.new.words _ _ long

row_after : (g : given.Over) (c : goal.After-self-3-1 g) → IsRow c.self.inside.width c.mark_around.new.words (c.self.inside.count + c.mark_around.result)
row_after g c =
    let value = c.deref_mut.ensures.value in
    let wide : length c.args.self.now ≡ c.self.inside.width = rw (← c.self.view_is) (length-marks_from c.self.inside.words.items 0 c.self.inside.width) in
    let before : IsRow c.self.inside.width c.deref_mut.result.now c.self.inside.count = rw value c.self.invariant.0 in
    IsRow-add c.deref_mut.result.now c.mark_around.new.words c.self.inside.width c.self.inside.count c.mark_around.result c.args.first c.args.end before
    c.mark_around.auto.words (omega (arith, wide, c.requires.within)) c.mark_around.ensures.points c.mark_around.ensures.counted

pub invariant_of-self : goal.invariant_of-self
invariant_of-self g c =
    rw (written_back g c) (
      row_after g c,
      IsWhole-add c.deref_mut.result.now c.mark_around.new.words c.args.first c.args.end c.self.inside.whole c.joined-self-inside.result c.mark_around.ensures.points
          (rw c.deref_mut.ensures.value c.self.invariant.1) c.joined-self-inside.ensures,
    )

pub mark_around-requires-clause-whole : goal.mark_around-requires-clause-whole
mark_around-requires-clause-whole g c = rw c.deref_mut.ensures.value c.self.invariant.1

pub returns-clause-points : goal.returns-clause-points
returns-clause-points g c =
    rw (← c.self.view_is, written_back g c) (λ x.
    marked-row_words c.mark_around.new.words c.self.inside.width x (row_after g c).clear
    ∙ (c.mark_around.ensures.points x
    ∙ ap (λ (b : Bool). b || is_between c.args.first c.args.end x)
    (ap (λ w. is_marked w x) c.deref_mut.ensures.value ∙ sym (marked-row_words c.self.inside.words.items c.self.inside.width x c.self.invariant.0.clear))))

pub returns-clause-width : goal.returns-clause-width
returns-clause-width g c =
    rw (← c.self.view_is, written_back g c) (length-marks_from c.mark_around.new.words 0 c.self.inside.width ∙ sym (length-marks_from c.self.inside.words.items 0 c.self.inside.width))

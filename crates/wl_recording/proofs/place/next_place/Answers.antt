use Rattle.std.proofs.Common.{ap, ◌∙◌}
use Rattle.wl_recording.specs.Line.{after_word, first_word, number_of}
use Rattle.wl_recording.proofs.Names.{all_three, no_byte, no_store}
use Rattle.wl_recording.proofs.place.next_place.Goals as goal

pub returns-in_default-number-clause-place : goal.returns-in_default-number-clause-place
returns-in_default-number-clause-place c =
    let first = ap number_of c.next_word.ensures.word in
    let second = ap number_of (c.next_word-2.ensures.word ∙ ap first_word c.next_word.ensures.rest) in
    no_store _ _ _ c.in-Some.client (c.in-Some.ensures ∙ first) (c.in_default-number.ensures ∙ second)

pub returns-in_default-number-2-clause-place : goal.returns-in_default-number-2-clause-place
returns-in_default-number-2-clause-place c =
    let first = ap number_of c.next_word.ensures.word in
    let second = ap number_of (c.next_word-2.ensures.word ∙ ap first_word c.next_word.ensures.rest) in
    let third = ap number_of (c.next_word-3.ensures.word ∙ ap first_word (c.next_word-2.ensures.rest ∙ ap after_word c.next_word.ensures.rest)) in
    no_byte _ _ _ c.in-Some.client c.in-Some-number.store (c.in-Some.ensures ∙ first) (c.in-Some-number.ensures ∙ second) (c.in_default-number-2.ensures ∙ third)

pub returns-clause-place : goal.returns-clause-place
returns-clause-place c =
    let first = ap number_of c.next_word.ensures.word in
    let second = ap number_of (c.next_word-2.ensures.word ∙ ap first_word c.next_word.ensures.rest) in
    let third = ap number_of (c.next_word-3.ensures.word ∙ ap first_word (c.next_word-2.ensures.rest ∙ ap after_word c.next_word.ensures.rest)) in
    all_three _ _ _ c.in-Some.client c.in-Some-number.store c.in-Some-number-2.at (c.in-Some.ensures ∙ first) (c.in-Some-number.ensures ∙ second) (c.in-Some-number-2.ensures ∙ third)

use Rattle.std.proofs.Common.{◌≡◌, true, ap, sym, ◌∙◌}
use Rattle.wl_recording.specs.Line.{after_three, after_word, asked_motion_by, first_word, is_blank}
use Rattle.wl_recording.proofs.Names.{all_words}
use Rattle.wl_recording.proofs.line.parse_motion.Goals as goal

pub returns-then-is_blank : goal.returns-then-is_blank
returns-then-is_blank c = λ piece.
    let text = c.args.rest.now in
    let second = c.next_word-2.ensures.word ∙ ap first_word c.next_word.ensures.rest in
    let behind = c.next_word-2.ensures.rest ∙ ap after_word c.next_word.ensures.rest in
    let third = c.next_word-3.ensures.word ∙ ap first_word behind in
    let blank : is_blank (after_three text) ≡ true = sym (ap is_blank (c.next_word-3.ensures.rest ∙ ap after_word behind)) ∙ sym c.if-is_blank.ensures in
    all_words asked_motion_by text _ _ _ _ c.next_word.ensures.word second third blank (c.motion_by.ensures piece)

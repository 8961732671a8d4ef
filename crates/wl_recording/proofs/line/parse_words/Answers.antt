use Rattle.std.proofs.Common.{rules, ◌≡◌, ◌∙◌}
use Rattle.wl_recording.specs.Line.{asked_button, asked_file, asked_motion, asked_with}
use Rattle.wl_recording.proofs.line.parse_words.Goals as goal

pub returns-then-eq-4 : goal.returns-then-eq-4
returns-then-eq-4 g c =
    let asks : asked_file c.args.rest.now ≡ asked_with c.args.word.now c.args.rest.now = search rules in
    c.parse_file.ensures c.args.piece.now.items ∙ asks

pub returns-then-eq-6 : goal.returns-then-eq-6
returns-then-eq-6 g c =
    let asks : asked_motion c.args.rest.now ≡ asked_with c.args.word.now c.args.rest.now = search rules in
    c.parse_motion.ensures c.args.piece.now.items ∙ asks

pub returns-then-eq-7 : goal.returns-then-eq-7
returns-then-eq-7 g c =
    let asks : asked_button c.args.rest.now ≡ asked_with c.args.word.now c.args.rest.now = search rules in
    c.parse_button.ensures c.args.piece.now.items ∙ asks

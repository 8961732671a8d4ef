use Rattle.std.proofs.Common.{◌≡◌, ℕ, true, List, Option, Bor, option_map, ap, sym, ◌∙◌}
use Rattle.wl_recording.specs.Line.{after_word, first_word, is_blank, is_name}
use Rattle.wl_recording.proofs.Names.{name_is_utf8, named, utf8_kept}
use Rattle.wl_recording.proofs.name.last_name.Goals as goal

pub returns-then-is_name : goal.returns-then-is_name
returns-then-is_name c =
    let word = c.next_word.result.0.now in
    let fit : is_name word ≡ true = sym c.if-is_name.ensures in
    let same : word ≡ first_word c.args.text.now = c.next_word.ensures.word in
    let blank : is_blank (after_word c.args.text.now) ≡ true = ap is_blank (sym c.next_word.ensures.rest) ∙ sym c.if-is_blank.ensures in
    ap (λ (o : Option (Bor (List ℕ))). option_map (λ (n : Bor (List ℕ)). n.now) o) c.ok.ensures.value ∙ utf8_kept _ c.from_utf8.result word c.from_utf8.ensures.cases (name_is_utf8 word fit)
    ∙ named c.args.text.now word same blank fit

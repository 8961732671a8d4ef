use Rattle.std.proofs.Common.{ℕ, List, Ok, Err, Some, inr, refl, sym, ap, ◌∙◌}
use Rattle.wl_recording.specs.Line.{asked_by, meaning}
use Rattle.wl_replay.proofs.player.Player.play_line.Goals as goal

pub returns-in-Ok-clause-played : goal.returns-in-Ok-clause-played
returns-in-Ok-clause-played g c =
    let asks = rw c.in-Some.is at c.in_ok-line.ensures in (
      c.read_text.new.text.items,
      meaning c.deref-2.result.now c.in-Some.line,
      c.in_ok-read_text.ensures.taken (ap Ok c.if-not-branch.false),
      c.in_ok-read_text.ensures.short,
      ap asked_by (sym c.deref.ensures.value) ∙ sym asks ∙ ap (λ (piece : List ℕ). Some (meaning piece c.in-Some.line)) (sym c.deref-2.ensures.value),
      c.in-Ok.ensures.told,
      c.in-Ok.ensures.calm,
    )

pub returns-in_default-clause-failed : goal.returns-in_default-clause-failed
returns-in_default-clause-failed g c =
    let none = rw c.in_default.is at c.in_ok-line.ensures in (
      refl,
      inr (
        c.read_text.new.text.items,
        g.R.Read.remaining c.read_text.new.reader,
        c.in_ok-read_text.ensures.taken (ap Ok c.if-not-branch.false),
        ap asked_by (sym c.deref.ensures.value) ∙ sym none,
      ),
      (refl, refl, refl),
    )

pub returns-in-Err-Side-clause-failed : goal.returns-in-Err-Side-clause-failed
returns-in-Err-Side-clause-failed g c =
    let asks = rw c.in-Some.is at c.in_ok-line.ensures in
    let lacks = c.in-Err-Side.ensures.lacking (ap Err c.in-Err-Side.field-0-is) in (
      refl,
      (
        lacks.0,
        lacks.1,
        λ d agrees. (
          c.read_text.new.text.items,
          meaning c.deref-2.result.now c.in-Some.line,
          g.R.Read.remaining c.read_text.new.reader,
          c.in_ok-read_text.ensures.taken (ap Ok c.if-not-branch.false),
          ap asked_by (sym c.deref.ensures.value) ∙ sym asks ∙ ap (λ (piece : List ℕ). Some (meaning piece c.in-Some.line)) (sym c.deref-2.ensures.value),
          lacks.2 d agrees,
        ),
      ),
    )

use Rattle.std.proofs.Common.{ap, sym, ◌∙◌}
use Rattle.wl_paint.specs.Words.{is_marked}
use Rattle.wl_paint.proofs.MarkedWords.{marked-row_words}
use Rattle.wl_paint.proofs.row.Row.has.Goals as goal

pub returns : goal.returns
returns g c =
    rw (← c.self.view_is) (c.has_mark.ensures ∙ (ap (λ w. is_marked w c.args.x) c.deref.ensures.value
    ∙ sym (marked-row_words c.self.inside.words.items c.self.inside.width c.args.x c.self.invariant.0.clear)))

use Rattle.std.proofs.Common.{sym}
use Rattle.wl_paint.proofs.MarkedWords.{count_below-row_words}
use Rattle.wl_paint.proofs.row.Row.count.Goals as goal

pub returns : goal.returns
returns g c = rw (← c.self.view_is) (sym (count_below-row_words c.self.inside.words.items c.self.inside.width c.self.inside.count c.self.invariant.0))

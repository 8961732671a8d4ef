use Rattle.std.proofs.Common.{sym, subst}
use Rattle.std.proofs.lemmas.Bool.{OnFalse_at, OnFalse_from}
use Rattle.wl_recording.specs.Recording.{HoldsTo}
use Rattle.wl_recording.proofs.recording.Recording.record.Goals as goal

pub returns-in-Ok-clause-asked : goal.returns-in-Ok-clause-asked
returns-in-Ok-clause-asked g c = λ first asked holds.
    let there = subst (HoldsTo 1000000 g.W.Write.contents first asked) (sym c.self.view_is) holds in
    OnFalse_from c.self.inside.has_failed _ (λ whole. c.in-Ok.ensures first asked (OnFalse_at whole there))

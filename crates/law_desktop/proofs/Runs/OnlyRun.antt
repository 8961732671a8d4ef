-- Where memory doesn't run out, a list of acts has one run.
use Rattle.std.proofs.Common.{[], ◌∷◌, refl, ap, subst, sym, ◌∙◌, arith}
use Rattle.law_desktop.specs.RunLaws.{HadMemoryAll, Lasts, OnlyRun}
use Rattle.law_desktop.proofs.Runs.OneRun.{happens-long, one_run}

pub only_run : OnlyRun
only_run [] [] [] old new end short run other fine well = (refl, run ∙ sym other)
only_run [] [] (done ∷ dones) old new end short run other fine well = absurd other
only_run [] (done ∷ dones) others old new end short run other fine well = absurd run
only_run (act ∷ acts) [] others old new end short run other fine well = absurd run
only_run (act ∷ acts) (done ∷ dones) [] old new end short run other fine well = absurd other
only_run (act ∷ acts) (done ∷ dones) (done' ∷ dones') old new end short (mid, step, run) (mid', step', run') fine well =
    let first = one_run act done done' old mid mid' short step step' fine.0 well.0 in
    let moved : (again : Lasts acts dones mid' new) × HadMemoryAll acts dones mid' new again =
    subst (λ d. (again : Lasts acts dones d new) × HadMemoryAll acts dones d new again) first.1 (run, fine.1) in
    let later = only_run acts dones dones' mid' new end (omega (arith, short, happens-long act done' old mid' short step')) moved.0 run' moved.1 well.1 in
    (ap (λ d. d ∷ dones) first.0 ∙ ap (λ ds. done' ∷ ds) later.0, later.1)

use Rattle.std.proofs.Common.{refl, ◌∙◌}
use Rattle.std.proofs.lemmas.Option.{none-some, same_Some}
use Rattle.wl_clients.proofs.pointing.end_for_refusal.Goals as goal

pub returns-in_default-clause-ends : goal.returns-in_default-clause-ends
returns-in_default-clause-ends g c = λ cause refused. absurd (none-some cause (c.in_default.ensures ∙ refused))

pub returns-in_default-clause-marks : goal.returns-in_default-clause-marks
returns-in_default-clause-marks g c = λ cause refused. absurd (none-some cause (c.in_default.ensures ∙ refused))

pub returns-in_default-clause-sides : goal.returns-in_default-clause-sides
returns-in_default-clause-sides g c = record { width = refl; height = refl }

pub returns-clause-ends : goal.returns-clause-ends
returns-clause-ends g c = λ cause refused lives.
    rw (← same_Some c.in-Some.cause cause (c.in-Some.ensures ∙ refused)) (c.end.ensures.refused lives)

pub returns-clause-marks : goal.returns-clause-marks
returns-clause-marks g c = λ cause refused lives. c.end.ensures.marks_refused lives

pub returns-clause-sides : goal.returns-clause-sides
returns-clause-sides g c = c.end.ensures.marks.0

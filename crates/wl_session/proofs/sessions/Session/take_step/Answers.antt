use Rattle.std.proofs.Common.{◌≡◌, false, refl, ap, sym, [], inl, inr}
use Rattle.std.proofs.lemmas.List.{append-nil}
use Rattle.spec_desktop.specs.declared.answers.Done.TheVariants as gave
use Rattle.spec_desktop.specs.Act.{Connect}
use Rattle.wl_session.specs.Step.{act_of}
use Rattle.wl_session.specs.Events.{is_tick}
use Rattle.wl_session.proofs.Runs.{quiet-leads}
use Rattle.wl_session.proofs.sessions.Session.take_step.Goals as goal

pub returns-in-Feed : goal.returns-in-Feed
returns-in-Feed g c =
    let quiet : is_tick (act_of c.args.step.now) ≡ false = elim c.in-Feed.is [
      | inl h ↦ ap (λ s. is_tick (act_of s)) h.2
      | inr (inl h) ↦ ap (λ s. is_tick (act_of s)) h.4
      | inr (inr (inl h)) ↦ ap (λ s. is_tick (act_of s)) h.1
      | inr (inr (inr (inl h))) ↦ ap (λ s. is_tick (act_of s)) h.2
      | inr (inr (inr (inr (inl h)))) ↦ ap (λ s. is_tick (act_of s)) h.1
      | inr (inr (inr (inr (inr (inl h))))) ↦ ap (λ s. is_tick (act_of s)) h.3
      | inr (inr (inr (inr (inr (inr h))))) ↦ ap (λ s. is_tick (act_of s)) h.3
    ] in record {
      taken = λ _. ([], sym (append-nil _), quiet-leads _ c.step.result c.args.self.now c.step.new.self quiet c.step.ensures.course);
      refused = λ h. absurd (cc);
      shots = λ h. absurd (cc);
    }

pub returns-in-Ok-clause-taken : goal.returns-in-Ok-clause-taken
returns-in-Ok-clause-taken g c =
    rw c.in-Connect.is (λ _. ([], sym (append-nil _), quiet-leads Connect (gave.Connect c.connect.result) c.args.self.now c.connect.new.self refl c.connect.ensures.course))

pub returns-in-Ok-2-clause-taken : goal.returns-in-Ok-2-clause-taken
returns-in-Ok-2-clause-taken g c =
    rw c.in-Connect.is (λ _. ([], sym (append-nil _), quiet-leads Connect (gave.Connect c.connect.result) c.args.self.now c.connect.new.self refl c.connect.ensures.course))

pub returns-in-Tick-clause-taken : goal.returns-in-Tick-clause-taken
returns-in-Tick-clause-taken g c = rw c.in-Tick.is c.take_tick.ensures.taken

pub returns-in-Tick-clause-refused : goal.returns-in-Tick-clause-refused
returns-in-Tick-clause-refused g c = λ h. (c.take_tick.ensures.refused h, rw c.in-Tick.is refl)

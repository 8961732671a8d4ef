use Rattle.std.proofs.Common.{ap, arith, sym, ◌∙◌}
use Rattle.std.specs.Prelude.{Err}
use Rattle.spec_desktop.specs.declared.refusals.Refusal.{Refusal}
use Rattle.wl_proto.specs.Messages.{wl_seat_request}
use Rattle.spec_desktop.specs.Demanding.{demand_of}
use Rattle.wl_requests.proofs.Asking.{seat-refused}
use Rattle.wl_requests.proofs.Shelling.{refused-whole}
use Rattle.wl_requests.proofs.residents.Resident.wl_seat.Goals as goal

pub returns-in-GetKeyboard : goal.returns-in-GetKeyboard
returns-in-GetKeyboard g c = record {
  answers = λ free client r on is only. refused-whole _ _ client r on (demand_of r c.args.object c.args.version (wl_seat_request c.args.request.now)) c.of.result
      (seat-refused r c.args.object c.args.version c.args.request.now c.in-GetKeyboard.is ∙ ap (λ (f : Refusal). Err f) (sym c.of.ensures)) c.refuse.ensures.ended
      (c.refuse.ensures.errs r.peer is.peer);
  rest = let none = c.refuse.ensures.rest in omega arith;
  room = λ id same without. c.refuse.ensures.ended;
}

pub returns-in-GetPointer-clause-answers : goal.returns-in-GetPointer-clause-answers
returns-in-GetPointer-clause-answers g c = λ free. rw c.in-GetPointer.is (c.get_pointer.ensures.answers (rw c.in-GetPointer.is at free))

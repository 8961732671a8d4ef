use Rattle.std.proofs.Common.{◌≡◌, false, Option, None, Some, ◌∙◌, refl, sym}
use Rattle.std.specs.Prelude.{is_some}
use Rattle.spec_desktop.specs.declared.cause.Cause.{Cause}
use Rattle.wl_requests.specs.declared.residents.Resident.{Resident as Kept}
use Rattle.wl_requests.proofs.Answered.{last-answered, last-over, next-answered}
use Rattle.wl_requests.proofs.Answering.{none-answered}
use Rattle.wl_requests.proofs.Doing.{gone}
use Rattle.wl_requests.proofs.residents.Resident.answer_frames.Goals as goal

lives-of : (o : Option Cause) → is_some o ≡ false → o ≡ None
lives-of None e = refl
lives-of (Some cause) e = absurd (cc)

pub loop-callback-init : goal.loop-callback-init
loop-callback-init g c = (λ lives r is only. (r, none-answered c.args.time r (sym is.peer.status ∙ lives) only.order.known.callbacks, is, refl), refl)

pub loop-callback-preserved : goal.loop-callback-preserved
loop-callback-preserved g c = (
  λ lives r is only.
      let now = c.loop-callback.self in
      let new : Kept _ = record now { client = c.finish.new.self; owned = record { surfaces = c.next_frame.new.self; shell = now.owned.shell } } in
      let so = c.loop-callback.invariant.0 lives r is only in
      let due = c.in-Some.ensures.due _ so.0.callbacks so.2.frames.waits in
      let told = c.finish.ensures.tells so.0.peer so.2.peer in
      let alive = lives-of c.finish.new.self.ended (sym c.has_ended.ensures ∙ c.if-has_ended.false) in
      let next = next-answered c.args.time c.args.self.now now new r so.0 so.1 so.2 c.in-Some.callback due c.in-Some.ensures.places c.in-Some.ensures.family refl refl told.0 told.1 told.2 alive
      (c.finish.ensures.table alive) in
      (next.0, next.1, next.2, next.3 ∙ so.3),
  c.in-Some.ensures.places ∙ c.loop-callback.invariant.1,
)

pub returns-then-has_ended : goal.returns-then-has_ended
returns-then-has_ended g c = record {
  tells = λ lives r is only.
      let now = c.loop-callback.self in
      let new : Kept _ = record now { client = c.finish.new.self; owned = record { surfaces = c.next_frame.new.self; shell = now.owned.shell } } in
      let so = c.loop-callback.invariant.0 lives r is only in
      let due = c.in-Some.ensures.due _ so.0.callbacks so.2.frames.waits in
      let told = c.finish.ensures.tells so.0.peer so.2.peer in
      let over = sym c.has_ended.ensures ∙ c.if-has_ended.true in
      let last = last-over c.args.time c.args.self.now now new r so.0 so.1 so.2 c.in-Some.callback due c.in-Some.ensures.places c.in-Some.ensures.family refl refl told.0 told.1 told.2 over in
      (last.0, last.1, last.2, λ alive. absurd (gone c.finish.new.self.ended over alive));
  places = c.in-Some.ensures.places ∙ c.loop-callback.invariant.1;
}

pub returns : goal.returns
returns g c = record {
  tells = λ lives r is only.
      let so = c.loop-callback.invariant.0 lives r is only in
      let last = last-answered c.args.time c.args.self.now c.loop-callback.self r so.0 so.1 so.2 so.3 (c.in_default.ensures.none.1 _ so.0.callbacks so.2.frames.waits) in
      (last.0, last.1, rw c.in_default.ensures.none.0 last.2, λ alive. so.3);
  places = c.in_default.ensures.places ∙ c.loop-callback.invariant.1;
}

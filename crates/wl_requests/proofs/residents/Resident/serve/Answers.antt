use Rattle.std.proofs.lemmas.Grind.{common_steps}
use Rattle.std.proofs.Common.{◌≡◌, ℕ, arith, ap, refl, ◌∙◌, rules}
use Rattle.std.specs.Prelude.{is_some}
use Rattle.wl_client.specs.View.{ClientView}
use Rattle.wl_surface.specs.Surfaces.{is_used}
use Rattle.wl_table.specs.Objects.{entry_of}
use Rattle.wl_proto.specs.declared.wl_subsurface.WlSubsurfaceRequest.TheVariants as subsurface
use Rattle.wl_proto.specs.declared.wl_surface.WlSurfaceRequest.TheVariants as surface
use Rattle.wl_proto.specs.declared.xdg_popup.XdgPopupRequest.TheVariants as popup
use Rattle.wl_requests.specs.declared.messages.Kind.{Kind}
use Rattle.wl_requests.specs.declared.messages.Kind.TheVariants as kind
use Rattle.wl_requests.specs.declared.residents.Resident.{Resident as Kept}
use Rattle.wl_requests.specs.Messages.{IsAsked, IsTouchOf}
use Rattle.wl_requests.specs.Touching.{Touch}
use Rattle.wl_requests.specs.declared.messages.Asked.TheVariants.{Own, Request}
use Rattle.wl_requests.proofs.Asking.{first-decided, first-refused, first-taken, fit-passed, new-passed}
use Rattle.wl_requests.proofs.OwnAsking.{own-served, passes-own, used-of}
use Rattle.wl_requests.proofs.HoldingFirst.{first-held}
use Rattle.wl_requests.proofs.residents.Resident.serve.Goals as goal

-- the same requests may change what several surfaces show, whatever came of the client's stream
touch-same : {A : Type 0} (k : Kind) (object target : ℕ) (v w : Kept A) (touch : Touch) → w.subsurfaces ≡ v.subsurfaces → w.owned ≡ v.owned → IsTouchOf k object target v touch
    → IsTouchOf k object target w touch
touch-same (kind.Subsurface subsurface.Destroy) object target v w touch subs owned h = rw (subs, owned) h
touch-same (kind.Subsurface subsurface.SetDesync) object target v w touch subs owned h = rw (subs, owned) h
touch-same (kind.Surface surface.Commit) object target v w touch subs owned h = h
touch-same (kind.Popup popup.Destroy) object target v w touch subs owned h = h
touch-same k object target v w touch subs owned h = h

pub returns-in-Refused-clause-takes : goal.returns-in-Refused-clause-takes
returns-in-Refused-clause-takes g c =
    rw c.of.ensures (λ client r on is only placed given. first-refused c.args.self.now _ client r on c.in-Refused.refusal (rw c.in-Refused.is at c.requires) is c.refuse.ensures.ended
    (c.refuse.ensures.errs r.peer is.peer))

pub returns-in-Request-clause-takes : goal.returns-in-Request-clause-takes
returns-in-Request-clause-takes g c = λ client r on is only placed given.
    let v = c.args.self.now in
    let asked : IsAsked v.client (Request c.in-Request.object c.in-Request.version c.in-Request.size c.in-Request.target c.in-Request.kind) = rw c.in-Request.is at c.requires in
    let m = asked.0 in
    let passes = asked.1 in
    let mid = record v { client = c.take_first.new.self } in
    let table = ap (λ (w : ClientView). entry_of w.objects c.in-Request.object) c.take_first.ensures ∙ passes.entry in
    let free = new-passed mid v m (ap (λ (w : ClientView). w.objects) c.take_first.ensures) passes.free in
    let fit = fit-passed mid v m (ap (λ (w : ClientView). w.objects) c.take_first.ensures) passes.fit in
    first-taken v r c.in-Request.object c.in-Request.version c.in-Request.size c.in-Request.target m passes is mid c.answer.new.self c.answer.result.stacking
    (ap (λ (w : ClientView). record v { client = w }) c.take_first.ensures) c.args.placing c.args.grabbing c.in-Request.kind
    (c.answer.ensures.answers m asked.2 table free fit)
    (c.answer.ensures.stacks m asked.2 table) client on only (rw c.in-Request.is at placed) (rw c.in-Request.is at given)

pub returns-in-Own-clause-takes : goal.returns-in-Own-clause-takes
returns-in-Own-clause-takes g c = rw c.of-in-Own.ensures (λ client r on is only placed given.
    let v = c.args.self.now in
    let asked : IsAsked v.client (Own c.in-Own.size c.in-Own.judged) = rw c.in-Own.is at c.requires in
    let served = (rw c.states.ensures at c.serve_own-served.ensures.serves) (λ number. is_used number r.owned.surfaces) (used-of v r is) r.peer is.peer in
    own-served v _ r served.0 is (passes-own v.client c.in-Own.size c.in-Own.judged asked) refl refl c.serve_own-served.ensures.table served.1 served.2 client on only)

pub returns-in-Refused-clause-lives : goal.returns-in-Refused-clause-lives
returns-in-Refused-clause-lives g c = search rules

pub returns-in-Refused-clause-less : goal.returns-in-Refused-clause-less
returns-in-Refused-clause-less g c = search rules

pub returns-in-Own-clause-lives : goal.returns-in-Own-clause-lives
returns-in-Own-clause-lives g c = search rules

pub returns-in-Own-clause-less : goal.returns-in-Own-clause-less
returns-in-Own-clause-less g c = search rules

pub returns-in-Request-clause-lives : goal.returns-in-Request-clause-lives
returns-in-Request-clause-lives g c = search rules

pub returns-in-Request-clause-less : goal.returns-in-Request-clause-less
returns-in-Request-clause-less g c = grind (arith, common_steps)

pub returns-in-More-clause-idle : goal.returns-in-More-clause-idle
returns-in-More-clause-idle g c = search rules

pub returns-then-has_ended-clause-idle : goal.returns-then-has_ended-clause-idle
returns-then-has_ended-clause-idle g c = search rules

pub returns-in-Refused-clause-decides : goal.returns-in-Refused-clause-decides
returns-in-Refused-clause-decides g c = λ touch touches. absurd (rw c.in-Refused.is at touches)

pub returns-in-Refused-clause-touched : goal.returns-in-Refused-clause-touched
returns-in-Refused-clause-touched g c = λ touch touches. absurd (rw c.in-Refused.is at touches)

pub returns-in-Refused-clause-nothing : goal.returns-in-Refused-clause-nothing
returns-in-Refused-clause-nothing g c = λ none numbers ss are. rw c.of.ensures

pub returns-in-Own-clause-decides : goal.returns-in-Own-clause-decides
returns-in-Own-clause-decides g c = λ touch touches. absurd (rw c.in-Own.is at touches)

pub returns-in-Own-clause-touched : goal.returns-in-Own-clause-touched
returns-in-Own-clause-touched g c = λ touch touches. absurd (rw c.in-Own.is at touches)

pub returns-in-Own-clause-nothing : goal.returns-in-Own-clause-nothing
returns-in-Own-clause-nothing g c = λ none numbers ss are. rw c.of-in-Own.ensures

pub returns-in-Request-clause-decides : goal.returns-in-Request-clause-decides
returns-in-Request-clause-decides g c = λ touch touches client r on is only placed given.
    let v = c.args.self.now in
    let asked : IsAsked v.client (Request c.in-Request.object c.in-Request.version c.in-Request.size c.in-Request.target c.in-Request.kind) = rw c.in-Request.is at c.requires in
    let m = asked.0 in
    let passes = asked.1 in
    let mid = record v { client = c.take_first.new.self } in
    let table = ap (λ (w : ClientView). entry_of w.objects c.in-Request.object) c.take_first.ensures ∙ passes.entry in
    first-decided v r c.in-Request.object c.in-Request.version c.in-Request.size c.in-Request.target m passes is mid c.answer.new.self (is_some c.answer.result.applied)
    (ap (λ (w : ClientView). record v { client = w }) c.take_first.ensures) c.args.placing c.in-Request.kind
    (c.answer.ensures.decides touch (touch-same c.in-Request.kind c.in-Request.object c.in-Request.target v mid touch refl refl
    (rw c.in-Request.is at touches)) m asked.2 table) client on only (rw c.in-Request.is at placed)

pub returns-in-Request-clause-touched : goal.returns-in-Request-clause-touched
returns-in-Request-clause-touched g c = λ touch touches.
    let v = c.args.self.now in
    let mid = record v { client = c.take_first.new.self } in
    c.answer.ensures.touched touch (touch-same c.in-Request.kind c.in-Request.object c.in-Request.target v mid touch refl refl (rw c.in-Request.is at touches))

pub returns-in-Request-clause-nothing : goal.returns-in-Request-clause-nothing
returns-in-Request-clause-nothing g c = λ none.
    let v = c.args.self.now in
    let mid = record v { client = c.take_first.new.self } in
    c.answer.ensures.nothing (λ touch touches.
    none touch (rw c.in-Request.is (touch-same c.in-Request.kind c.in-Request.object c.in-Request.target mid v touch refl refl touches)))

-- ---- a new wl_pointer where there is no room for it

pub returns-in-Refused-clause-seat : goal.returns-in-Refused-clause-seat
returns-in-Refused-clause-seat g c = λ id e without. c.refuse.ensures.ended

pub returns-in-Own-clause-seat : goal.returns-in-Own-clause-seat
returns-in-Own-clause-seat g c = λ id e without. let never = rw c.in-Own.is at e in absurd (cc)

pub returns-in-Request-clause-seat : goal.returns-in-Request-clause-seat
returns-in-Request-clause-seat g c = λ id e without. c.answer.ensures.seat id (rw c.in-Request.is at e) without

-- ---- what is kept stands by the numbers from before

pub returns-in-Refused-clause-holds : goal.returns-in-Refused-clause-holds
returns-in-Refused-clause-holds g c = λ touch touches. absurd (rw c.in-Refused.is at touches)

pub returns-in-Own-clause-holds : goal.returns-in-Own-clause-holds
returns-in-Own-clause-holds g c = λ touch touches. absurd (rw c.in-Own.is at touches)

pub returns-in-Request-clause-holds : goal.returns-in-Request-clause-holds
returns-in-Request-clause-holds g c = λ touch touches done client r on is only placed given.
    let v = c.args.self.now in
    let object = c.in-Request.object in
    let target = c.in-Request.target in
    let asked : IsAsked v.client (Request object c.in-Request.version c.in-Request.size target c.in-Request.kind) = rw c.in-Request.is at c.requires in
    let m = asked.0 in
    let passes = asked.1 in
    let mid = record v { client = c.take_first.new.self } in
    let table = ap (λ (w : ClientView). entry_of w.objects object) c.take_first.ensures ∙ passes.entry in
    let touching = touch-same c.in-Request.kind object target v mid touch refl refl (rw c.in-Request.is at touches) in
    first-held v r object c.in-Request.version c.in-Request.size target m passes is mid c.answer.new.self (is_some c.answer.result.applied)
    (ap (λ (w : ClientView). record v { client = w }) c.take_first.ensures) c.args.placing c.in-Request.kind
    (c.answer.ensures.holds touch touching m asked.2 table) client on only (rw c.in-Request.is at placed) done

use Rattle.std.proofs.Common.{Err, List, Result, ap, false, inr, refl, subst, sym, true, ◌≡◌, ◌∙◌}
use Rattle.std.specs.Prelude.{is_some}
use Rattle.law_desktop.proofs.KeptRecords.Toplevels.Releases.{role-released}
use Rattle.spec_desktop.specs.Changing.{changed_for}
use Rattle.spec_desktop.specs.Desktop.{unpointed}
use Rattle.law_desktop.proofs.Keeping.OwningAsks.{owned-cursor}
use Rattle.law_desktop.specs.Owning.{IsOwned, Names, by_number}
use Rattle.law_desktop.specs.RoleNames.{names_of}
use Rattle.spec_desktop.specs.Peer.{counted}
use Rattle.spec_desktop.specs.declared.refusals.Refusal.{Refusal}
use Rattle.spec_desktop.specs.Demand.{Demand, MakeCursor}
use Rattle.spec_desktop.specs.Step.{with_peer}
use Rattle.spec_desktop.specs.WlPointer.{cursor_set}
use Rattle.wl_surface.specs.declared.role.Role.TheVariants.{Cursor as AsCursor}
use Rattle.wl_surface.specs.declared.frames.Waiting.{Waiting}
use Rattle.wl_shell.specs.Kept.{kept_of}
use Rattle.wl_requests.specs.declared.residents.Resident.{Resident as Kept}
use Rattle.wl_requests.specs.Residents.{AnswersSo}
use Rattle.wl_requests.proofs.Framing.{IsFramed, framed-role, one-more}
use Rattle.wl_requests.proofs.Judging.{copied-there}
use Rattle.wl_requests.proofs.Naming.{subsurfaces-names}
use Rattle.wl_requests.proofs.Numbers.{keeps-names}
use Rattle.wl_requests.proofs.Pointing.{has-other, has-xdg, is-made}
use Rattle.wl_requests.proofs.Shelling.{names-counted, refused-whole, wants-told}
use Rattle.wl_requests.proofs.Meeting.{counted-ordered, meets-so}
use Rattle.wl_requests.proofs.residents.Resident.set_cursor.Goals as goal

pub returns-then-is_some-clause-answers : goal.returns-then-is_some-clause-answers
returns-then-is_some-clause-answers g c = λ id named client r d is orderly.
    let v = c.args.self.now in
    let has : is_some (kept_of v.owned.shell c.args.surface) ≡ true = sym (ap is_some c.get.ensures) ∙ copied-there c.get.result ∙ sym c.is_some.ensures ∙ c.if-is_some.true in
    refused-whole v _ client r d (cursor_set r c.args.object id) c.of.result
    (has-xdg v r is c.args.object id c.args.surface named has ∙ ap (λ (f : Refusal). Err f) (sym c.of.ensures)) c.refuse.ensures.ended (c.refuse.ensures.errs r.peer is.peer)

pub returns-in-Err-clause-answers : goal.returns-in-Err-clause-answers
returns-in-Err-clause-answers g c = λ id named client r d is orderly.
    let v = c.args.self.now in
    let all = by_number (names_of v.client.objects).surfaces r.owned.surfaces in
    let other = (c.give_role.ensures.refused all is.owns.surfaces.stand).0 (rw c.in-Err.is refl) in
    refused-whole v _ client r d (cursor_set r c.args.object id) c.of-in-Err.result
    (has-other v r is c.args.object id c.args.surface named other ∙ ap (λ (f : Refusal). Err f) (sym c.of-in-Err.ensures))
    c.refuse-in-Err.ensures.ended (c.refuse-in-Err.ensures.errs r.peer is.peer)

pub returns-in-Ok-clause-answers : goal.returns-in-Ok-clause-answers
returns-in-Ok-clause-answers g c = λ id named client r d is orderly.
    let v = c.args.self.now in
    let number = c.args.surface in
    let slots = v.owned.surfaces.states in
    let family = v.owned.surfaces.family in
    let new = c.give_role.new.self.states in
    let now = c.count.new.self.objects in
    let kept : Kept _ = record v { client = c.count.new.self; owned = record v.owned { surfaces = c.give_role.new.self } } in
    let then = with_peer (counted r.peer) r in
    let demand = MakeCursor id in
    let after = changed_for client demand then (unpointed d) in
    let names = names_of v.client.objects in
    let all = by_number names.surfaces r.owned.surfaces in
    let bare : is_some (kept_of v.owned.shell number) ≡ false = sym (ap is_some c.get.ensures) ∙ copied-there c.get.result ∙ sym c.is_some.ensures ∙ c.if-is_some.false in
    let judged = is-made v r is c.args.object id number named bare (λ other. absurd (let errs = (c.give_role.ensures.refused all is.owns.surfaces.stand).1 other in cc (rw c.in-Ok.is at errs))) in
    let table = names-counted v.client c.count.new.self c.count.ensures.only in
    let owns = (counted-ordered r orderly).order.known in
    subst (λ (j : Result Demand Refusal). AnswersSo j client r d v kept) (sym judged)
    (meets-so v kept client d demand then refl (
      counted r.peer,
      wants-told true _ _ (counted r.peer) after.peer (counted r.peer) (role-released id AsCursor then owns.apart) (inr refl),
      record {
        peer = c.count.ensures.counts r.peer is.peer;
        numbers = λ alive. keeps-names v.client.objects now table;
        frames = λ alive. subst (λ (ws : List Waiting). IsFramed ws now after) (sym c.give_role.ensures.frames)
            (framed-role slots.frames v.client.objects now r after refl (one-more r.peer.requests) is.frames slots family is.owns.surfaces id number AsCursor named
            (ap (λ (n : Names). n.surfaces) table) refl);
        subsurfaces = λ alive. subsurfaces-names v.subsurfaces r.subsurfaces v.client.objects now is.subsurfaces table;
        owns = λ alive. rw c.give_role.ensures.family (subst (λ (n : Names). IsOwned n new family (kept_of v.owned.shell) after.owned) (sym table)
            (owned-cursor names slots family (kept_of v.owned.shell) then is.owns id number new named c.in-Ok.ensures.ok));
      },
    ))

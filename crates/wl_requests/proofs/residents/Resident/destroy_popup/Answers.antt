use Rattle.wl_proto.specs.declared.xdg_popup.XdgPopupRequest.TheVariants as popup
use Rattle.std.proofs.Common.{◌≡◌, true, false, refl, ap, ◌∙◌}
use Rattle.std.specs.Prelude.{Err}
use Rattle.spec_desktop.specs.declared.refusals.Refusal.{Refusal}
use Rattle.spec_desktop.specs.Peer.{counted}
use Rattle.wl_shell.specs.Kept.{Book, kept_of}
use Rattle.spec_desktop.specs.Changing.{changed_for}
use Rattle.spec_desktop.specs.Demand.{EndPopup}
use Rattle.spec_desktop.specs.Desktop.{unpointed}
use Rattle.spec_desktop.specs.Step.{with_peer}
use Rattle.spec_desktop.specs.XdgPopup.{popup_asked, popup_destroyed}
use Rattle.law_desktop.specs.Owning.{kept_base, shell_refusal}
use Rattle.law_desktop.specs.RoleNames.{names_of}
use Rattle.law_desktop.proofs.OwnedPopups.Going.{popups-go}
use Rattle.wl_requests.proofs.Doing.{lacked}
use Rattle.wl_requests.proofs.PopupsAnswered.{answered-ok, as-judged, popup-answered, popup-ends, popup-gone, topmost, topmost-told}
use Rattle.wl_requests.proofs.Shelling.{refused-as, told-err}
use Rattle.wl_requests.proofs.HoldingPopups.{popup-held, popup-left}
use Rattle.wl_requests.proofs.residents.Resident.destroy_popup.Goals as goal

pub returns-then-not-has_room-clause-decides : goal.returns-then-not-has_room-clause-decides
returns-then-not-has_room-clause-decides g c = λ named client r d is ordered.
    let v = c.args.self.now in
    let object = c.args.object in
    let number = c.args.surface in
    let one_more = with_peer (counted r.peer) r in
    popup-answered false v _ object number (λ o. popup_asked r object o popup.Destroy) client d r is named
    (λ k x h one its.
    let demand = EndPopup object x.id in
    let judged = answered-ok (popup_destroyed r object x) (λ u. demand) (shell_refusal x.base x.id object) _ c.destroy_popup.result tt
    (popups-go.asked (names_of v.client.objects) v.owned.surfaces.states v.owned.surfaces.family v.owned.shell r number k x h object c.are_found.ensures is.owns one) c.destroy_popup.ensures.answer
    c.in-Ok.is in
    let lacks = lacked v _ (changed_for client demand one_more (unpointed d)) one_more (c.lack_memory.ensures.lacks (counted r.peer) (c.count.ensures.counts r.peer is.peer))
    c.lack_memory.ensures.ended in
    as-judged false (popup_destroyed r object x) demand client r d v _ judged (refl, lacks.0, lacks.1, lacks.2))

pub returns-else-not-has_room-clause-decides : goal.returns-else-not-has_room-clause-decides
returns-else-not-has_room-clause-decides g c = λ named client r d is ordered.
    let v = c.args.self.now in
    let object = c.args.object in
    let number = c.args.surface in
    popup-answered true v _ object number (λ o. popup_asked r object o popup.Destroy) client d r is named
    (λ k x h one its.
    let demand = EndPopup object x.id in
    let judged = answered-ok (popup_destroyed r object x) (λ u. demand) (shell_refusal x.base x.id object) _ c.destroy_popup.result tt
    (popups-go.asked (names_of v.client.objects) v.owned.surfaces.states v.owned.surfaces.family v.owned.shell r number k x h object c.are_found.ensures is.owns one) c.destroy_popup.ensures.answer
    c.in-Ok.is in
    as-judged true (popup_destroyed r object x) demand client r d v _ judged
    (popup-ends v _ client r d object number k x h is one its (c.remove.ensures.removes (counted r.peer) (c.count.ensures.counts r.peer is.peer))
    (λ alive. popup-gone v.client c.count.new.self c.remove.new.self object number c.count.ensures.only named (c.remove.ensures.table alive)) c.in-Ok.ensures.ok refl refl))

pub returns-in-Err-clause-decides : goal.returns-in-Err-clause-decides
returns-in-Err-clause-decides g c = λ named client r d is ordered.
    let v = c.args.self.now in
    let object = c.args.object in
    let number = c.args.surface in
    popup-answered false v _ object number (λ o. popup_asked r object o popup.Destroy) client d r is named
    (λ k x h one its.
    let demand = EndPopup object x.id in
    let judged = told-err (popup_destroyed r object x) (λ u. demand) (shell_refusal x.base x.id object) _ c.destroy_popup.result c.in-Err.error
    (popups-go.asked (names_of v.client.objects) v.owned.surfaces.states v.owned.surfaces.family v.owned.shell r number k x h object c.are_found.ensures is.owns one) c.destroy_popup.ensures.answer
    c.in-Err.is in
    let base : kept_base (kept_of c.destroy_popup.new.self number) ≡ x.base =
    ap (λ (b : Book). kept_base (kept_of b number)) c.in-Err.ensures.err ∙ ap kept_base one.here ∙ one.stands.base in
    let told = topmost-told x.base (kept_base (kept_of c.destroy_popup.new.self number)) x.id object c.in-Err.error
    (topmost _ c.destroy_popup.result c.in-Err.error c.destroy_popup.ensures.answer c.in-Err.is) base in
    refused-as v _ client r d (popup_destroyed r object x) (shell_refusal (kept_base (kept_of c.destroy_popup.new.self number)) object object c.in-Err.error)
    (judged ∙ ap (λ (f : Refusal). Err f) told)
    c.refuse_xdg_surface.ensures.ended
    (c.refuse_xdg_surface.ensures.errs r.peer is.peer))

pub returns-in-Err-clause-surfaces : goal.returns-in-Err-clause-surfaces
returns-in-Err-clause-surfaces g c = c.refuse_xdg_surface.ensures.surfaces

-- ---- what is kept stands by the numbers from before

pub returns-then-not-has_room-clause-holds : goal.returns-then-not-has_room-clause-holds
returns-then-not-has_room-clause-holds g c = λ named client r d is ordered done. absurd (cc)

pub returns-else-not-has_room-clause-holds : goal.returns-else-not-has_room-clause-holds
returns-else-not-has_room-clause-holds g c = λ named client r d is ordered done.
    let v = c.args.self.now in
    let object = c.args.object in
    let number = c.args.surface in
    popup-held v _ object number (λ o. popup_asked r object o popup.Destroy) client d r is named
    (λ k x h one its.
    let judged = answered-ok (popup_destroyed r object x) (λ u. EndPopup object x.id) (shell_refusal x.base x.id object) _ c.destroy_popup.result tt
    (popups-go.asked (names_of v.client.objects) v.owned.surfaces.states v.owned.surfaces.family v.owned.shell r number k x h object c.are_found.ensures is.owns one) c.destroy_popup.ensures.answer
    c.in-Ok.is in
    popup-left v _ (popup_destroyed r object x) client r d object number k x h is one its judged c.in-Ok.ensures.ok refl)

pub returns-in-Err-clause-holds : goal.returns-in-Err-clause-holds
returns-in-Err-clause-holds g c = λ named client r d is ordered done. absurd (cc)

use Rattle.std.proofs.Common.{◌≡◌, Bool, true, false, ap, refl, ◌∙◌}
use Rattle.std.specs.Prelude.{Ok, Err}
use Rattle.spec_desktop.specs.declared.refusals.Refusal.{Refusal}
use Rattle.spec_desktop.specs.Peer.{counted}
use Rattle.wl_shell.specs.Kept.{changing, kept_grabbing, kept_of}
use Rattle.wl_proto.specs.declared.xdg_popup.XdgPopupRequest.TheVariants as popup
use Rattle.spec_desktop.specs.Changing.{grab_allowed}
use Rattle.spec_desktop.specs.Desktop.{unpointed}
use Rattle.spec_desktop.specs.Step.{with_peer}
use Rattle.spec_desktop.specs.XdgPopup.{grab_of, popup_asked}
use Rattle.wl_shell.specs.Popups.{popup_at}
use Rattle.law_desktop.specs.Owning.{kept_base, shell_refusal}
use Rattle.law_desktop.specs.OwnedPopups.{grab_demand}
use Rattle.law_desktop.specs.RoleNames.{names_of}
use Rattle.law_desktop.proofs.OwnedPopups.Grabbing.{popups-grab}
use Rattle.wl_requests.proofs.PopupsAnswered.{answered-ok, so-judged}
use Rattle.wl_requests.proofs.PopupsGrabbed.{grab-refused, grab-taken, grab-told, mapped-told, only-mapped, popup-there}
use Rattle.wl_requests.proofs.Shelling.{names-counted, refused-whole, told-err}
use Rattle.wl_requests.proofs.residents.Resident.grab.Goals as goal

pub returns-in-Ok-true-clause-answers : goal.returns-in-Ok-true-clause-answers
returns-in-Ok-true-clause-answers g c = λ named seat client r d is ordered given.
    let v = c.args.self.now in
    let object = c.args.object in
    let number = c.args.surface in
    let serial = c.args.serial in
    let kept = kept_of v.owned.shell in
    popup-there v _ object number (λ o. popup_asked r object o (popup.Grab seat serial)) client d r is ordered named
    (λ k x h p one here.
    let allowed = grab_allowed client x.id serial (with_peer (counted r.peer) r) (unpointed d) in
    let demand = grab_demand serial x p in
    let ok : c.grab.result ≡ Ok true = c.in-Ok-true.is ∙ ap (λ (b : Bool). Ok b) c.in-Ok-true.field-0-test in
    let answer = grab-told v r number k x h c.args.grabbing serial client d c.allows.result c.grab.result c.are_found.ensures is one given c.allows.ensures c.grab.ensures.answer in
    let asked = popups-grab.asked (names_of v.client.objects) kept r.owned number k x h object serial p allowed one here in
    let judged = answered-ok (grab_of object serial x (popup_at x.id r.owned.shell)) (λ (taken : Bool). demand) (shell_refusal x.base x.id object) _ c.grab.result true asked answer ok in
    so-judged (grab_of object serial x (popup_at x.id r.owned.shell)) demand client r d v _ judged
    (grab-taken v _ client r d object number serial k x h p is ordered one here (c.count.ensures.counts r.peer is.peer) refl refl
    (names-counted v.client c.count.new.self c.count.ensures.only) c.grab.result answer ok
    (c.in-Ok-true.ensures.ok ∙ ap (λ (b : Bool). changing number (kept_grabbing b) kept) c.in-Ok-true.field-0-test)))

pub returns-in-Ok-false-clause-answers : goal.returns-in-Ok-false-clause-answers
returns-in-Ok-false-clause-answers g c = λ named seat client r d is ordered given.
    let v = c.args.self.now in
    let object = c.args.object in
    let number = c.args.surface in
    let serial = c.args.serial in
    let kept = kept_of v.owned.shell in
    let count = c.count-in-Ok-false in
    let mid = record v { client = count.new.self; owned = record v.owned { shell = c.grab.new.self } } in
    popup-there v _ object number (λ o. popup_asked r object o (popup.Grab seat serial)) client d r is ordered named
    (λ k x h p one here.
    let allowed = grab_allowed client x.id serial (with_peer (counted r.peer) r) (unpointed d) in
    let demand = grab_demand serial x p in
    let ok : c.grab.result ≡ Ok false = c.in-Ok-false.is ∙ ap (λ (b : Bool). Ok b) c.in-Ok-false.field-0-test in
    let answer = grab-told v r number k x h c.args.grabbing serial client d c.allows.result c.grab.result c.are_found.ensures is one given c.allows.ensures c.grab.ensures.answer in
    let asked = popups-grab.asked (names_of v.client.objects) kept r.owned number k x h object serial p allowed one here in
    let judged = answered-ok (grab_of object serial x (popup_at x.id r.owned.shell)) (λ (taken : Bool). demand) (shell_refusal x.base x.id object) _ c.grab.result false asked answer ok in
    so-judged (grab_of object serial x (popup_at x.id r.owned.shell)) demand client r d v _ judged
    (grab-refused v c.dismiss_popups.new.self client r d object number serial k x h p is ordered one here mid c.grab.result answer ok (count.ensures.counts r.peer is.peer) refl
    (c.in-Ok-false.ensures.ok ∙ ap (λ (b : Bool). changing number (kept_grabbing b) kept) c.in-Ok-false.field-0-test) c.dismiss_popups.ensures.dismisses
    c.dismiss_popups.ensures.surfaces c.dismiss_popups.ensures.subsurfaces
    (λ alive. ap names_of (c.dismiss_popups.ensures.table alive) ∙ names-counted v.client count.new.self count.ensures.only)))

pub returns-in-Err-clause-answers : goal.returns-in-Err-clause-answers
returns-in-Err-clause-answers g c = λ named seat client r d is ordered given.
    let v = c.args.self.now in
    let object = c.args.object in
    let number = c.args.surface in
    let serial = c.args.serial in
    let kept = kept_of v.owned.shell in
    popup-there v _ object number (λ o. popup_asked r object o (popup.Grab seat serial)) client d r is ordered named
    (λ k x h p one here.
    let allowed = grab_allowed client x.id serial (with_peer (counted r.peer) r) (unpointed d) in
    let error = c.in-Err.error in
    let base = kept_base (kept_of c.grab.new.self number) in
    let answer = grab-told v r number k x h c.args.grabbing serial client d c.allows.result c.grab.result c.are_found.ensures is one given c.allows.ensures c.grab.ensures.answer in
    let asked = popups-grab.asked (names_of v.client.objects) kept r.owned number k x h object serial p allowed one here in
    let judged = told-err (grab_of object serial x (popup_at x.id r.owned.shell)) (λ (taken : Bool). grab_demand serial x p) (shell_refusal x.base x.id object) _ c.grab.result error asked answer
    c.in-Err.is in
    let told = mapped-told x.base base x.id object error (only-mapped allowed (kept number) c.grab.result error answer c.in-Err.is) in
    refused-whole v _ client r d (grab_of object serial x (popup_at x.id r.owned.shell)) (shell_refusal base object object error) (judged ∙ ap (λ (f : Refusal). Err f) told)
    c.refuse_xdg_surface.ensures.ended
    (c.refuse_xdg_surface.ensures.errs r.peer is.peer))

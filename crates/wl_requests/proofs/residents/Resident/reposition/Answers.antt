use Rattle.std.proofs.Common.{◌≡◌, ℕ, List, Option, ap, subst, sym, ◌∙◌}
use Rattle.std.specs.Prelude.{is_some}
use Rattle.spec_desktop.specs.Peer.{Queues, counted}
use Rattle.spec_desktop.specs.Told.{Said}
use Rattle.wl_shell.specs.Kept.{changing, kept_of, kept_repositioning, reposition_answer}
use Rattle.wl_shell.specs.Popups.{popup_at}
use Rattle.wl_shell.specs.Positioner.{Placed, Positioner}
use Rattle.wl_proto.specs.declared.xdg_popup.XdgPopupRequest.TheVariants as popup
use Rattle.spec_desktop.specs.Demand.{Reposition}
use Rattle.spec_desktop.specs.XdgPopup.{popup_asked, positioner_of, repositioned_by}
use Rattle.wl_scene.specs.declared.owned.Owned.{Owned as Lent}
use Rattle.law_desktop.specs.Owning.{kept_id, shell_refusal}
use Rattle.law_desktop.specs.OwnedPopups.{anew_told}
use Rattle.law_desktop.specs.RoleNames.{names_of}
use Rattle.law_desktop.proofs.OwnedPopups.Repositioning.{popups-anew}
use Rattle.wl_requests.specs.Residents.{drawn_if}
use Rattle.wl_requests.proofs.PopupsAnew.{anew-done, anew-refused, placed-there}
use Rattle.wl_requests.proofs.PopupsAnswered.{answered-ok, so-judged}
use Rattle.wl_requests.proofs.Shelling.{names-counted, told-err}
use Rattle.wl_requests.proofs.residents.Resident.reposition.Goals as goal

pub returns-in-Ok-clause-answers : goal.returns-in-Ok-clause-answers
returns-in-Ok-clause-answers g c = λ named client r d is ordered places.
    let v = c.args.self.now in
    let object = c.args.object in
    let number = c.args.surface in
    let token = c.args.token in
    let bounds = c.args.placing.bounds in
    let corner = c.args.placing.parent_at in
    let kept = kept_of v.owned.shell in
    let values = positioner_of (r.peer.positioners c.args.positioner) in
    let placed = c.in-Ok.placed in
    let read : c.positioner_of-values.result ≡ values = c.positioner_of-values.ensures r.peer is.peer in
    placed-there v _ object number c.args.placing (λ o. popup_asked r object o (popup.Reposition c.args.positioner token)) client d r is ordered named places
    (λ k x h p one here same its.
    let answer : c.reposition.result ≡ reposition_answer values bounds corner (kept number) =
    c.reposition.ensures.answer ∙ ap (λ (q : Positioner). reposition_answer q bounds corner (kept number)) read in
    let asked = popups-anew.asked (names_of v.client.objects) kept r.owned number k x h object token p values bounds corner one here in
    let judged = answered-ok (repositioned_by x token values (popup_at x.id r.owned.shell)) (λ (o : Option Placed). Reposition x.id token values) (shell_refusal x.base x.id object) _
    c.reposition.result placed asked answer c.in-Ok.is in
    let serial : c.serial-serial.result ≡ r.peer.serial = c.serial-serial.ensures ∙ is.peer.serial in
    let xdg : c.xdg_surface_of-xdg_surface.result ≡ x.id = c.xdg_surface_of-xdg_surface.ensures ∙ ap kept_id one.here ∙ one.stands.id in
    let keeps = ap (λ (o : Lent _). kept_of o.shell) c.tell_anew.ensures.owned
    ∙ c.in-Ok.ensures.ok
    ∙ ap (λ (n : ℕ). changing number (kept_repositioning placed n c.positioner_of-values.result) kept) serial
    ∙ ap (λ (q : Positioner). changing number (kept_repositioning placed r.peer.serial q) kept) read in
    let told = c.tell_anew.ensures.told (counted r.peer) (c.count.ensures.counts r.peer is.peer) in
    let events : anew_told placed token c.serial-serial.result object c.xdg_surface_of-xdg_surface.result ≡ anew_told placed token r.peer.serial p.object.id x.id =
    ap (λ (n : ℕ). anew_told placed token n object c.xdg_surface_of-xdg_surface.result) serial
    ∙ ap (λ (i : ℕ). anew_told placed token r.peer.serial i c.xdg_surface_of-xdg_surface.result) (sym same)
    ∙ ap (λ (i : ℕ). anew_told placed token r.peer.serial p.object.id i) xdg in
    so-judged (repositioned_by x token values (popup_at x.id r.owned.shell)) (Reposition x.id token values) client r d v _ judged
    (anew-done v _ client r d number token values c.args.placing k x h p is one here its placed (sym answer ∙ c.in-Ok.is) keeps
    (ap (λ (o : Lent _). o.surfaces) c.tell_anew.ensures.owned) c.tell_anew.ensures.subsurfaces
    (λ alive. ap names_of (c.tell_anew.ensures.table alive) ∙ names-counted v.client c.count.new.self c.count.ensures.only)
    (told.0, subst (λ (es : List Said). Queues es (drawn_if (is_some placed) (counted r.peer)) told.0) events told.1, told.2)))

pub returns-in-Err-clause-answers : goal.returns-in-Err-clause-answers
returns-in-Err-clause-answers g c = λ named client r d is ordered places.
    let v = c.args.self.now in
    let object = c.args.object in
    let number = c.args.surface in
    let token = c.args.token in
    let bounds = c.args.placing.bounds in
    let corner = c.args.placing.parent_at in
    let kept = kept_of v.owned.shell in
    let values = positioner_of (r.peer.positioners c.args.positioner) in
    let read : c.positioner_of-values.result ≡ values = c.positioner_of-values.ensures r.peer is.peer in
    placed-there v _ object number c.args.placing (λ o. popup_asked r object o (popup.Reposition c.args.positioner token)) client d r is ordered named places
    (λ k x h p one here same its.
    let answer : c.reposition.result ≡ reposition_answer values bounds corner (kept number) =
    c.reposition.ensures.answer ∙ ap (λ (q : Positioner). reposition_answer q bounds corner (kept number)) read in
    let asked = popups-anew.asked (names_of v.client.objects) kept r.owned number k x h object token p values bounds corner one here in
    anew-refused v _ (kept_of c.reposition.new.self) client r d object number k x h values bounds corner c.in-Err.error (repositioned_by x token values (popup_at x.id r.owned.shell)) one
    (sym answer ∙ c.in-Err.is)
    (told-err (repositioned_by x token values (popup_at x.id r.owned.shell)) (λ (o : Option Placed). Reposition x.id token values) (shell_refusal x.base x.id object) _
    c.reposition.result c.in-Err.error asked answer c.in-Err.is)
    (ap kept_of c.in-Err.ensures.err)
    c.refuse_xdg_surface.ensures.ended
    (c.refuse_xdg_surface.ensures.errs r.peer is.peer))

pub returns-in-Ok-clause-rest : goal.returns-in-Ok-clause-rest
returns-in-Ok-clause-rest g c = rw (← c.count.ensures.rest) c.tell_anew.ensures.rest

pub returns-in-Err-clause-rest : goal.returns-in-Err-clause-rest
returns-in-Err-clause-rest g c = c.refuse_xdg_surface.ensures.rest

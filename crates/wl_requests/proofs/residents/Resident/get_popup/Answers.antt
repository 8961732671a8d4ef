use Rattle.wl_proto.specs.declared.xdg_surface.XdgSurfaceRequest.TheVariants as xdg
use Rattle.std.proofs.Common.{◌≡◌, ℕ, Some, refl, ap, sym, ◌∙◌, inl}
use Rattle.wl_proto.specs.declared.interface.Interface.TheVariants.{XdgPopup}
use Rattle.wl_table.specs.declared.entry.Entry.{Entry}
use Rattle.spec_desktop.specs.Peer.{counted}
use Rattle.wl_shell.specs.PopupsKept.{parent_id}
use Rattle.wl_shell.specs.Kept.{changing, kept_of, kept_popup}
use Rattle.wl_shell.specs.Positioner.{Positioner}
use Rattle.spec_desktop.specs.Changing.{changed_for}
use Rattle.spec_desktop.specs.Demand.{GetPopup}
use Rattle.spec_desktop.specs.Desktop.{unpointed}
use Rattle.spec_desktop.specs.Step.{with_peer}
use Rattle.spec_desktop.specs.XdgPopup.{is_no_popup, popup_made, positioner_of}
use Rattle.spec_desktop.specs.XdgShell.{role_of}
use Rattle.law_desktop.specs.Owning.{shell_refusal}
use Rattle.law_desktop.specs.RoleNames.{names_of}
use Rattle.law_desktop.proofs.Keeping.OwningReads.{role-read}
use Rattle.law_desktop.proofs.OwnedPopups.Coming.{popups-come}
use Rattle.law_desktop.proofs.OwnedPopups.Naming.{roles-named}
use Rattle.wl_requests.proofs.Doing.{lacked}
use Rattle.wl_requests.proofs.PopupsAnswered.{answered-ok, made-with, popup-comes, popup-read, popup-role, refused-with, request-number, so-judged}
use Rattle.wl_requests.proofs.Shelling.{holds-counted, told-err, xdg-answered}
use Rattle.wl_requests.proofs.residents.Resident.get_popup.Goals as goal

pub returns-then-number-clause-answers : goal.returns-then-number-clause-answers
returns-then-number-clause-answers g c = λ named free fit client r d is ordered.
    let v = c.args.self.now in
    let names = names_of v.client.objects in
    let slots = v.owned.surfaces.states in
    let tied = v.owned.surfaces.family in
    let kept = kept_of v.owned.shell in
    let object = c.args.object in
    let number = c.args.surface in
    let version = c.args.version in
    let asked = c.args.asked.now in
    let values = positioner_of (r.peer.positioners asked.positioner) in
    let one_more = with_peer (counted r.peer) r in
    xdg-answered v _ object number version (xdg.GetPopup asked.id asked.parent asked.positioner) client d r is named
    (λ k x h one same.
    let other : c.is_not_of_popup-has_other_role.result ≡ is_no_popup (role_of r x.surface) =
    c.is_not_of_popup-has_other_role.ensures ∙ ap is_no_popup (role-read names slots tied kept r is.owns x.surface number c.role.result one.surface c.role.ensures) in
    let answer = popup-read kept number _ (is_no_popup (role_of r x.surface)) _ (names.shell asked.parent) _ values c.get_popup.result c.get_popup.ensures.answer other c.surface_of_xdg.ensures
    (c.positioner_of-positioner.ensures r.peer is.peer) in
    let demand = GetPopup asked.id version x.id asked.parent values in
    let judged = answered-ok (popup_made r x version asked.id asked.parent values) (λ u. demand) (shell_refusal x.base x.id object) _ c.get_popup.result tt
    (popups-come.asked names slots tied kept r number k x h object version asked.id asked.parent values is.owns one) answer c.in-Ok.is in
    let lacks = lacked v _ (changed_for client demand one_more (unpointed d)) one_more (c.lack_memory.ensures.lacks (counted r.peer) (c.count.ensures.counts r.peer is.peer))
    c.lack_memory.ensures.ended in
    so-judged (popup_made r x version asked.id asked.parent values) demand client r d v _ judged (lacks.0, inl lacks.1, lacks.2))

pub returns-else-number-clause-answers : goal.returns-else-number-clause-answers
returns-else-number-clause-answers g c = λ named free fit client r d is ordered.
    let v = c.args.self.now in
    let names = names_of v.client.objects in
    let slots = v.owned.surfaces.states in
    let tied = v.owned.surfaces.family in
    let kept = kept_of v.owned.shell in
    let object = c.args.object in
    let number = c.args.surface in
    let version = c.args.version in
    let asked = c.args.asked.now in
    let values = positioner_of (r.peer.positioners asked.positioner) in
    let entry : Entry = record { interface = XdgPopup; version = version; target = number } in
    xdg-answered v _ object number version (xdg.GetPopup asked.id asked.parent asked.positioner) client d r is named
    (λ k x h one same.
    let other : c.is_not_of_popup-has_other_role.result ≡ is_no_popup (role_of r x.surface) =
    c.is_not_of_popup-has_other_role.ensures ∙ ap is_no_popup (role-read names slots tied kept r is.owns x.surface number c.role.result one.surface c.role.ensures) in
    let read : c.positioner_of-positioner.result ≡ values = c.positioner_of-positioner.ensures r.peer is.peer in
    let answer = popup-read kept number _ (is_no_popup (role_of r x.surface)) _ (names.shell asked.parent) _ values c.get_popup.result c.get_popup.ensures.answer other c.surface_of_xdg.ensures read in
    let demand = GetPopup asked.id version x.id asked.parent values in
    let judged = answered-ok (popup_made r x version asked.id asked.parent values) (λ u. demand) (shell_refusal x.base x.id object) _ c.get_popup.result tt
    (popups-come.asked names slots tied kept r number k x h object version asked.id asked.parent values is.owns one) answer c.in-Ok.is in
    let fits = popups-come.accepted names slots tied kept r.owned number k x h asked.parent (is_no_popup (role_of r x.surface)) values is.owns one (sym answer ∙ c.in-Ok.is) in
    let numbered = request-number c.request_number-number.result v.client.requests r.peer.requests c.request_number-number.ensures is.peer.requests c.if-number.false in
    let keeps =
    made-with (parent_id kept c.surface_of_xdg.result) asked.parent
    (λ (i : ℕ). kept_of c.get_popup.new.self ≡ changing number (kept_popup asked.id i c.positioner_of-positioner.result c.request_number-number.result) kept)
    (ap (parent_id kept) c.surface_of_xdg.ensures ∙ fits.2) c.in-Ok.ensures.ok
    ∙ ap (λ (p : Positioner). changing number (kept_popup asked.id asked.parent p c.request_number-number.result) kept) read
    ∙ ap (λ (n : ℕ). changing number (kept_popup asked.id asked.parent values n) kept) numbered in
    let made = c.add.ensures.makes (counted r.peer) (c.count.ensures.counts r.peer is.peer) in
    so-judged (popup_made r x version asked.id asked.parent values) demand client r d v _ judged
    (popup-comes v _ client r d asked.id version number asked.parent values k x h is ordered one fits.0 free made.0 made.1 made.2
    (popup-role names slots tied kept r is.owns x.surface number c.role.result c.give_role-given.result c.give_role-given.new.self.states one.surface fits.1 c.role.ensures c.give_role-given.ensures.refused
    c.give_role-given.ensures.ok)
    keeps c.give_role-given.ensures.family c.give_role-given.ensures.frames refl
    (λ alive. roles-named.made v.client.objects c.add.new.self.objects asked.id entry free refl
    (holds-counted v.client c.count.new.self c.add.new.self.objects asked.id (Some entry) c.count.ensures.only (c.add.ensures.table alive)))))

pub returns-in-Err-clause-answers : goal.returns-in-Err-clause-answers
returns-in-Err-clause-answers g c = λ named free fit client r d is ordered.
    let v = c.args.self.now in
    let names = names_of v.client.objects in
    let slots = v.owned.surfaces.states in
    let tied = v.owned.surfaces.family in
    let kept = kept_of v.owned.shell in
    let object = c.args.object in
    let number = c.args.surface in
    let version = c.args.version in
    let asked = c.args.asked.now in
    let values = positioner_of (r.peer.positioners asked.positioner) in
    xdg-answered v _ object number version (xdg.GetPopup asked.id asked.parent asked.positioner) client d r is named
    (λ k x h one same.
    let other : c.is_not_of_popup-has_other_role.result ≡ is_no_popup (role_of r x.surface) =
    c.is_not_of_popup-has_other_role.ensures ∙ ap is_no_popup (role-read names slots tied kept r is.owns x.surface number c.role.result one.surface c.role.ensures) in
    let answer = popup-read kept number _ (is_no_popup (role_of r x.surface)) _ (names.shell asked.parent) _ values c.get_popup.result c.get_popup.ensures.answer other c.surface_of_xdg.ensures
    (c.positioner_of-positioner.ensures r.peer is.peer) in
    let demand = GetPopup asked.id version x.id asked.parent values in
    refused-with v _ (kept_of c.get_popup.new.self) client r d object number k x h c.in-Err.error (popup_made r x version asked.id asked.parent values) one same
    (told-err _ (λ u. demand) (shell_refusal x.base x.id object) _ c.get_popup.result c.in-Err.error
    (popups-come.asked names slots tied kept r number k x h object version asked.id asked.parent values is.owns one) answer c.in-Err.is)
    (ap kept_of c.in-Err.ensures.err)
    c.refuse_xdg_surface.ensures.ended
    (c.refuse_xdg_surface.ensures.errs r.peer is.peer))

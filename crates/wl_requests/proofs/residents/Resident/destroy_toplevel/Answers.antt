use Rattle.std.proofs.Common.{◌≡◌, ℕ, Option, None, ap, ◌∙◌}
use Rattle.wl_shell.specs.Kept.{Kept as KeptXdg, changing, kept_without_role}
use Rattle.spec_desktop.specs.Peer.{counted}
use Rattle.law_desktop.specs.RoleNames.{names_of}
use Rattle.spec_desktop.specs.Demanding.{toplevel_destroyed}
use Rattle.wl_requests.proofs.PopupsAnswered.{toplevel-ends, toplevel-there}
use Rattle.wl_requests.proofs.Shelling.{toplevel-gone}
use Rattle.wl_requests.proofs.Trees.{lived}
use Rattle.wl_requests.proofs.residents.Resident.destroy_toplevel.Goals as goal

pub returns-clause-answers : goal.returns-clause-answers
returns-clause-answers g c = λ named client r d is ordered.
    let v = c.args.self.now in
    let object = c.args.object in
    let number = c.args.surface in
    let told = c.remove.ensures.removes (counted r.peer) (c.count.ensures.counts r.peer is.peer) in
    toplevel-there v _ object number (λ o. toplevel_destroyed object o) client d r is named
    (λ k x h one with_it its.
    toplevel-ends v c.dismiss_popups.new.self c.remove.new.self c.destroy_toplevel.new.self client r d object number k x h is ordered named one with_it told.0 told.1 told.2
    c.dismiss_popups.ensures.dismisses c.dismiss_popups.ensures.ended c.dismiss_popups.ensures.surfaces c.dismiss_popups.ensures.subsurfaces
    (c.destroy_toplevel.ensures ∙ ap (λ (ks : ℕ → Option KeptXdg). changing number kept_without_role ks) c.orphan.ensures)
    (λ alive.
    let lives : c.remove.new.self.ended ≡ None = lived c.remove.new.self c.dismiss_popups.new.self.client c.dismiss_popups.ensures.ended alive in
    ap names_of (c.dismiss_popups.ensures.table alive) ∙ toplevel-gone v.client c.count.new.self c.remove.new.self object number c.count.ensures.only named (c.remove.ensures.table lives)))

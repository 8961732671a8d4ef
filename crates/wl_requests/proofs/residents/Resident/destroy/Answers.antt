use Rattle.std.proofs.Common.{arith, Bool, Result, ap, subst, sym, refl, ◌∙◌}
use Rattle.std.specs.Prelude.{Ok, Err, if◌then◌else◌, is_some}
use Rattle.wl_shell.specs.Kept.{kept_of}
use Rattle.spec_desktop.specs.declared.refusals.ErrorCode.TheVariants.{SurfaceHasRoleObject}
use Rattle.spec_desktop.specs.declared.refusals.Refusal.{Refusal}
use Rattle.spec_desktop.specs.Demand.{Demand, EndSurface}
use Rattle.spec_desktop.specs.Demanding.{surface_destroyed}
use Rattle.wl_requests.specs.Residents.{AnswersAs}
use Rattle.spec_desktop.specs.Desktop.{Resident}
use Rattle.law_desktop.specs.RoleNames.{names_of}
use Rattle.spec_desktop.specs.WlSubsurface.{refuses}
use Rattle.law_desktop.proofs.Keeping.OwningReads.{destroyed-by}
use Rattle.law_desktop.proofs.Truth.{none-there}
use Rattle.wl_requests.proofs.Counting.{counted-told}
use Rattle.wl_requests.proofs.Shelling.{counted-on, objects-counted, refused-as, surface-counted}
use Rattle.spec_desktop.specs.Peer.{counted}
use Rattle.spec_desktop.specs.Step.{with_peer}
use Rattle.wl_requests.specs.Holding.{HoldsSo}
use Rattle.wl_requests.proofs.Holding.{held-so}
use Rattle.wl_requests.proofs.Meeting.{counted-ordered}
use Rattle.wl_requests.proofs.residents.Resident.destroy.Goals as goal

pub returns-then-has_xdg_surface-clause-answers : goal.returns-then-has_xdg_surface-clause-answers
returns-then-has_xdg_surface-clause-answers g c = rw c.of.ensures (λ named client r on is only.
    let v = c.args.self.now in
    let id = c.args.object in
    let there = sym c.has_xdg_surface.ensures ∙ c.if-has_xdg_surface.true in
    let judged = destroyed-by (names_of v.client.objects) v.owned.surfaces.states v.owned.surfaces.family (kept_of v.owned.shell) r is.owns id c.args.surface named
    ∙ ap (λ (b : Bool). if b then refuses id SurfaceHasRoleObject else Ok (EndSurface id)) there in
    refused-as _ _ client r on (surface_destroyed r id) _ (judged ∙ ap (λ (f : Refusal). Err f) (sym c.of-refusal.ensures)) c.refuse.ensures.ended (c.refuse.ensures.errs r.peer is.peer))

pub returns-clause-answers : goal.returns-clause-answers
returns-clause-answers g c = λ named client r on is only.
    let v = c.args.self.now in
    let id = c.args.object in
    let there = sym c.has_xdg_surface.ensures ∙ c.if-has_xdg_surface.false in
    let judged = destroyed-by (names_of v.client.objects) v.owned.surfaces.states v.owned.surfaces.family (kept_of v.owned.shell) r is.owns id c.args.surface named
    ∙ ap (λ (b : Bool). if b then refuses id SurfaceHasRoleObject else Ok (EndSurface id)) there in
    subst (λ (j : Result Demand Refusal). AnswersAs (is_some c.destroy_surface.result) j client r on v c.destroy_surface.new.self) (sym judged)
    (counted-told v (record v { client = c.count.new.self }) c.destroy_surface.new.self c.destroy_surface.result client r on (λ (q : Resident). EndSurface id) is only
    c.count.ensures.only refl refl (c.count.ensures.counts r.peer is.peer)
    (c.destroy_surface.ensures.does (surface-counted v.client c.count.new.self id c.args.surface c.count.ensures.only named) (none-there _ there)))

pub returns-then-has_xdg_surface-clause-touched : goal.returns-then-has_xdg_surface-clause-touched
returns-then-has_xdg_surface-clause-touched g c = rw c.of.ensures tt

pub returns-clause-touched : goal.returns-clause-touched
returns-clause-touched g c = c.destroy_surface.ensures.touched

pub returns-then-has_xdg_surface-clause-stays : goal.returns-then-has_xdg_surface-clause-stays
returns-then-has_xdg_surface-clause-stays g c = rw c.of.ensures refl

pub returns-clause-stays : goal.returns-clause-stays
returns-clause-stays g c = refl

pub returns-then-has_xdg_surface-clause-rest : goal.returns-then-has_xdg_surface-clause-rest
returns-then-has_xdg_surface-clause-rest g c = rw c.refuse.ensures.rest (omega arith)

pub returns-clause-rest : goal.returns-clause-rest
returns-clause-rest g c = rw (← c.count.ensures.rest) c.destroy_surface.ensures.rest

-- ---- what is kept stands by the numbers from before

pub returns-then-has_xdg_surface-clause-holds : goal.returns-then-has_xdg_surface-clause-holds
returns-then-has_xdg_surface-clause-holds g c = rw c.of.ensures (λ named client r on is only done. absurd (cc))

pub returns-clause-holds : goal.returns-clause-holds
returns-clause-holds g c = λ named client r on is only done.
    let v = c.args.self.now in
    let id = c.args.object in
    let mid = record v { client = c.count.new.self } in
    let there = sym c.has_xdg_surface.ensures ∙ c.if-has_xdg_surface.false in
    let judged = destroyed-by (names_of v.client.objects) v.owned.surfaces.states v.owned.surfaces.family (kept_of v.owned.shell) r is.owns id c.args.surface named
    ∙ ap (λ (b : Bool). if b then refuses id SurfaceHasRoleObject else Ok (EndSurface id)) there in
    subst (λ (j : Result Demand Refusal). HoldsSo j client r on v c.destroy_surface.new.self) (sym judged)
    (held-so v mid c.destroy_surface.new.self (Ok (EndSurface id)) client r on (objects-counted v.client c.count.new.self c.count.ensures.only)
    (c.destroy_surface.ensures.holds (surface-counted v.client c.count.new.self id c.args.surface c.count.ensures.only named) (none-there _ there) client (with_peer (counted r.peer) r) on
    (counted-on v mid r is c.count.ensures.only refl refl (c.count.ensures.counts r.peer is.peer)) (counted-ordered r only) done))

use Rattle.std.proofs.Common.{◌≡◌, ℕ, Bool, true, false, refl, subst, sym}
use Rattle.std.specs.Prelude.{Ok, is_some, if◌then◌else◌}
use Rattle.spec_desktop.specs.declared.refusals.ErrorCode.TheVariants.{SurfaceHasRoleObject}
use Rattle.spec_desktop.specs.Demand.{EndSurface}
use Rattle.spec_desktop.specs.Desktop.{Resident}
use Rattle.spec_desktop.specs.WlSubsurface.{refuses}
use Rattle.spec_desktop.specs.WlSurface.{scale_set, transform_set}
use Rattle.wl_shell.specs.Shell.{xdg_of}
use Rattle.wl_requests.specs.declared.residents.Resident.{Resident as Kept}
use Rattle.wl_requests.specs.declared.residents.Stacking.TheVariants.{Stays}
use Rattle.wl_requests.specs.Residents.{StacksSo}
use Rattle.wl_requests.specs.Touching.{Commits, Destroys, IsTouched, Touch}
use Rattle.wl_requests.proofs.Meeting.{answered-so, asks-stay}
use Rattle.spec_desktop.specs.Demanding.{demand_of}
use Rattle.wl_proto.specs.Messages.{wl_surface_request}
use Rattle.wl_proto.specs.declared.wl_surface.WlSurfaceRequest.{WlSurfaceRequest}
use Rattle.wl_proto.specs.declared.wl_surface.WlSurfaceRequest.TheVariants as surface
use Rattle.wl_requests.specs.declared.messages.Kind.TheVariants as kinds
use Rattle.wl_requests.specs.Messages.{IsTouchOf, asks_itself}
use Rattle.wl_requests.proofs.residents.Resident.wl_surface.Goals as goal

-- ---- a request that asks something of a surface by itself

itself : (request : WlSurfaceRequest) → (request ≡ surface.Commit → ⊥) → (request ≡ surface.Destroy → ⊥) → asks_itself request ≡ true
itself surface.Commit commits destroys = absurd (commits refl)
itself surface.Destroy commits destroys = absurd (destroys refl)
itself request commits destroys = refl

untouched : {A : Type 0} (v : Kept A) (object number : ℕ) (request : WlSurfaceRequest) → asks_itself request ≡ true → (touch : Touch) → IsTouchOf (kinds.Surface request) object number v touch → ⊥
untouched v object number surface.Commit asks touch touches = absurd (cc)
untouched v object number surface.Destroy asks touch touches = absurd (cc)
untouched v object number request asks touch touches = touches

itself-stays : {A : Type 0} (old : Kept A) (r : Resident) (object version : ℕ) (request : WlSurfaceRequest) → asks_itself request ≡ true
    → StacksSo old r (demand_of r object version (wl_surface_request request)) Stays
itself-stays old r object version surface.Commit asks = absurd (cc)
itself-stays old r object version surface.Destroy asks = absurd (cc)
itself-stays old r object version (surface.SetBufferTransform transform) asks = asks-stay old r (transform_set object transform)
itself-stays old r object version (surface.SetBufferScale scale) asks = asks-stay old r (scale_set object scale)
itself-stays old r object version request asks = refl

pub ask_surface-requires : goal.ask_surface-requires
ask_surface-requires g c = itself c.args.request.now c.in_default.not-Commit c.in_default.not-Destroy

pub returns-in_default-clause-answers : goal.returns-in_default-clause-answers
returns-in_default-clause-answers g c = λ named new client r on is only placed. c.ask_surface.ensures.answers named new client r on is only

pub returns-in_default-clause-stacks : goal.returns-in_default-clause-stacks
returns-in_default-clause-stacks g c = rw c.of.ensures (λ named r is only.
    itself-stays c.args.self.now r c.args.object c.args.version c.args.request.now (itself c.args.request.now c.in_default.not-Commit c.in_default.not-Destroy))

pub returns-in_default-clause-decides : goal.returns-in_default-clause-decides
returns-in_default-clause-decides g c = λ touch touches.
    absurd (untouched c.args.self.now c.args.object c.args.surface c.args.request.now (itself c.args.request.now c.in_default.not-Commit c.in_default.not-Destroy) touch touches)

pub returns-in_default-clause-touched : goal.returns-in_default-clause-touched
returns-in_default-clause-touched g c = λ touch touches.
    absurd (untouched c.args.self.now c.args.object c.args.surface c.args.request.now (itself c.args.request.now c.in_default.not-Commit c.in_default.not-Destroy) touch touches)

pub returns-in_default-clause-holds : goal.returns-in_default-clause-holds
returns-in_default-clause-holds g c = λ touch touches.
    absurd (untouched c.args.self.now c.args.object c.args.surface c.args.request.now (itself c.args.request.now c.in_default.not-Commit c.in_default.not-Destroy) touch touches)

pub returns-in_default-clause-nothing : goal.returns-in_default-clause-nothing
returns-in_default-clause-nothing g c = λ none. rw c.of.ensures

pub returns-in_default-clause-rest : goal.returns-in_default-clause-rest
returns-in_default-clause-rest g c = c.ask_surface.ensures.rest

-- ---- a commit, and the end of a surface

destroyed-stays : {A : Type 0} (old : Kept A) (r : Resident) (id : ℕ) (b : Bool) → StacksSo old r (if b then refuses id SurfaceHasRoleObject else Ok (EndSurface id)) Stays
destroyed-stays old r id true = tt
destroyed-stays old r id false = refl

pub returns-in-Commit-clause-answers : goal.returns-in-Commit-clause-answers
returns-in-Commit-clause-answers g c = λ named new client r on is only placed.
    rw c.in-Commit.is (answered-so (is_some c.commit.result.applied) _ client r on c.args.self.now c.commit.new.self (c.commit.ensures.answers named client r on is only (rw c.in-Commit.is at placed)))

pub returns-in-Commit-clause-stacks : goal.returns-in-Commit-clause-stacks
returns-in-Commit-clause-stacks g c = rw c.in-Commit.is c.commit.ensures.stacks

pub returns-in-Commit-clause-decides : goal.returns-in-Commit-clause-decides
returns-in-Commit-clause-decides g c = λ touch touches named client r on is only placed.
    rw c.in-Commit.is (c.commit.ensures.answers named client r on is only (rw c.in-Commit.is at placed))

pub returns-in-Commit-clause-touched : goal.returns-in-Commit-clause-touched
returns-in-Commit-clause-touched g c = λ touch touches.
    subst (λ (t : Touch). IsTouched t c.args.self.now.owned.surfaces c.commit.new.self.owned.surfaces c.commit.result.applied) (sym (rw c.in-Commit.is at touches)) c.commit.ensures.touched

pub returns-in-Commit-clause-nothing : goal.returns-in-Commit-clause-nothing
returns-in-Commit-clause-nothing g c = λ none. absurd (none (Commits c.args.surface) (rw c.in-Commit.is refl))

pub returns-in-Commit-clause-holds : goal.returns-in-Commit-clause-holds
returns-in-Commit-clause-holds g c = λ touch touches named client r on is only placed done.
    rw c.in-Commit.is (c.commit.ensures.holds named client r on is only (rw c.in-Commit.is at placed) done)

pub returns-in-Commit-clause-rest : goal.returns-in-Commit-clause-rest
returns-in-Commit-clause-rest g c = c.commit.ensures.rest

pub returns-in-Destroy-clause-answers : goal.returns-in-Destroy-clause-answers
returns-in-Destroy-clause-answers g c = λ named new client r on is only placed.
    rw c.in-Destroy.is (answered-so (is_some c.destroy.result.applied) _ client r on c.args.self.now c.destroy.new.self (c.destroy.ensures.answers named client r on is only))

pub returns-in-Destroy-clause-stacks : goal.returns-in-Destroy-clause-stacks
returns-in-Destroy-clause-stacks g c = rw (c.in-Destroy.is, c.destroy.ensures.stays) (λ named r is only.
    destroyed-stays c.args.self.now r c.args.object (is_some (xdg_of c.args.object r.owned.shell)))

pub returns-in-Destroy-clause-decides : goal.returns-in-Destroy-clause-decides
returns-in-Destroy-clause-decides g c = λ touch touches named client r on is only placed. rw c.in-Destroy.is (c.destroy.ensures.answers named client r on is only)

pub returns-in-Destroy-clause-touched : goal.returns-in-Destroy-clause-touched
returns-in-Destroy-clause-touched g c = λ touch touches.
    subst (λ (t : Touch). IsTouched t c.args.self.now.owned.surfaces c.destroy.new.self.owned.surfaces c.destroy.result.applied) (sym (rw c.in-Destroy.is at touches)) c.destroy.ensures.touched

pub returns-in-Destroy-clause-nothing : goal.returns-in-Destroy-clause-nothing
returns-in-Destroy-clause-nothing g c = λ none. absurd (none (Destroys c.args.surface) (rw c.in-Destroy.is refl))

pub returns-in-Destroy-clause-holds : goal.returns-in-Destroy-clause-holds
returns-in-Destroy-clause-holds g c = λ touch touches named client r on is only placed done. rw c.in-Destroy.is (c.destroy.ensures.holds named client r on is only done)

pub returns-in-Destroy-clause-rest : goal.returns-in-Destroy-clause-rest
returns-in-Destroy-clause-rest g c = c.destroy.ensures.rest

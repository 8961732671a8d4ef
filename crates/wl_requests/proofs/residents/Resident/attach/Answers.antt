use Rattle.std.proofs.Common.{refl, inr, w32, List, subst, sym}
use Rattle.std.proofs.lemmas.Int.{to_z-of_z}
use Rattle.wl_shell.specs.Kept.{kept_of}
use Rattle.wl_surface.specs.Request.{Attach}
use Rattle.wl_surface.specs.Surfaces.{surface_at}
use Rattle.wl_surface.specs.declared.frames.Waiting.{Waiting}
use Rattle.law_desktop.specs.RoleNames.{names_of}
use Rattle.spec_desktop.specs.Step.{after_surface, asked_of}
use Rattle.spec_desktop.specs.WlSurface.{buffer_named}
use Rattle.wl_requests.proofs.Doing.{had-by, let-go-so}
use Rattle.law_desktop.proofs.Keeping.OwningAsks.{owned-asked}
use Rattle.wl_requests.proofs.residents.Resident.attach.Goals as goal
use Rattle.wl_requests.proofs.Framing.{IsFramed, framed-asked, no-more}

pub returns-clause-does : goal.returns-clause-does
returns-clause-does g c = λ object named r is.
    let v = c.args.self.now in
    let names = names_of v.client.objects in
    let request = Attach (buffer_named r c.args.buffer) c.args.x c.args.y in
    let changes = rw (c.attached-attached.ensures r is.peer) at (simp (to_z-of_z w32 c.args.x c.ranges.x, to_z-of_z w32 c.args.y c.ranges.y) at c.attach.ensures.changes) in
    let owned = rw (← c.attach.ensures.family) at
    (owned-asked names v.owned.surfaces.states v.owned.surfaces.family (kept_of v.owned.shell) r is.owns object c.args.surface request c.attach.new.self.states named refl refl
    (λ asked. refl) changes) in
    let had = had-by names.surfaces v.owned.surfaces.states v.owned.surfaces.family r.owned.surfaces object c.args.surface c.buffers-had.result is.owns.surfaces named c.buffers-had.ensures in
    let then = asked_of object request r in
    let peer = c.let_go_of.ensures.stores then names.surfaces is.peer owned.surfaces (surface_at object r.owned.surfaces) had in
    let after = after_surface object r then in
    let framed =
    subst (λ (ws : List Waiting). IsFramed ws v.client.objects after) (sym c.attach.ensures.frames)
    (framed-asked v.owned.surfaces.states.frames v.client.objects v.client.objects r after refl (no-more r.peer.requests) is.frames v.owned.surfaces.states v.owned.surfaces.family is.owns.surfaces
    object c.args.surface request refl refl
    named refl refl) in (
      after.peer,
      inr refl,
      let-go-so v (record v { owned = record v.owned { surfaces = c.attach.new.self } }) c.let_go_of.new.self after refl owned framed is.subsurfaces
          c.let_go_of.ensures.only c.let_go_of.ensures.owned c.let_go_of.ensures.subsurfaces peer,
    )

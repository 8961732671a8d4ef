use Rattle.std.proofs.Common.{refl, rules, w32}
use Rattle.std.specs.Prelude.{FitsSigned, Ok}
use Rattle.std.proofs.lemmas.Int.{to_z-of_z}
use Rattle.wl_geom.specs.declared.rect.Rect.{Rect}
use Rattle.spec_desktop.specs.Peer.{counted}
use Rattle.wl_surface.specs.Request.{Attach, Damage, DamageBuffer, SetInputRegion, SetOpaqueRegion}
use Rattle.spec_desktop.specs.Ask.{AskSurface}
use Rattle.spec_desktop.specs.Desktop.{Resident}
use Rattle.law_desktop.specs.RoleNames.{names_of}
use Rattle.spec_desktop.specs.Step.{with_peer}
use Rattle.spec_desktop.specs.WlSurface.{buffer_named, region_named}
use Rattle.wl_requests.proofs.Shelling.{asked-releases, counted-does, surface-counted}
use Rattle.wl_requests.proofs.Meeting.{as-asked}
use Rattle.wl_requests.proofs.residents.Resident.ask_surface.Goals as goal

pub returns-in-Attach-clause-answers : goal.returns-in-Attach-clause-answers
returns-in-Attach-clause-answers g c = λ named new client r on is only.
    let v = c.args.self.now in
    let id = c.args.object in
    let x = c.in-Attach.x in
    let y = c.in-Attach.y in
    let x-fits : FitsSigned w32 x = search rules in
    let y-fits : FitsSigned w32 y = search rules in
    let does = simp (to_z-of_z w32 x x-fits, to_z-of_z w32 y y-fits) at c.attach.ensures.does in
    rw c.in-Attach.is
    (as-asked _ _ client on r only (Ok (AskSurface id (Attach (buffer_named r c.in-Attach.buffer) x y)))
    (counted-does v (record v { client = c.count.new.self }) c.attach.new.self r (λ (q : Resident). AskSurface id (Attach (buffer_named q c.in-Attach.buffer) x y)) is
    c.count.ensures.only refl refl (c.count.ensures.counts r.peer is.peer)
    (asked-releases (names_of v.client.objects).surfaces v.owned.surfaces.states v.owned.surfaces.family (with_peer (counted r.peer) r) id c.args.surface
    (Attach (buffer_named r c.in-Attach.buffer) x y) refl is.owns.surfaces named)
    (does id (surface-counted v.client c.count.new.self id c.args.surface c.count.ensures.only named))))

pub returns-in-Damage-clause-answers : goal.returns-in-Damage-clause-answers
returns-in-Damage-clause-answers g c = λ named new client r on is only.
    let v = c.args.self.now in
    let id = c.args.object in
    let rect : Rect = record { x = c.in-Damage.x; y = c.in-Damage.y; w = c.in-Damage.w; h = c.in-Damage.h } in
    let count = c.count-in-Damage in
    let x-fits : FitsSigned w32 c.in-Damage.x = search rules in
    let y-fits : FitsSigned w32 c.in-Damage.y = search rules in
    let w-fits : FitsSigned w32 c.in-Damage.w = search rules in
    let h-fits : FitsSigned w32 c.in-Damage.h = search rules in
    let does = simp (to_z-of_z w32 c.in-Damage.x x-fits, to_z-of_z w32 c.in-Damage.y y-fits, to_z-of_z w32 c.in-Damage.w w-fits, to_z-of_z w32 c.in-Damage.h h-fits) at c.damage.ensures.does in
    rw c.in-Damage.is
    (as-asked _ _ client on r only (Ok (AskSurface id (Damage rect)))
    (counted-does v (record v { client = count.new.self }) c.damage.new.self r (λ (q : Resident). AskSurface id (Damage rect)) is count.ensures.only refl refl
    (count.ensures.counts r.peer is.peer)
    (asked-releases (names_of v.client.objects).surfaces v.owned.surfaces.states v.owned.surfaces.family (with_peer (counted r.peer) r) id c.args.surface (Damage rect) refl is.owns.surfaces named)
    (does id (surface-counted v.client count.new.self id c.args.surface count.ensures.only named))))

pub returns-in-DamageBuffer-clause-answers : goal.returns-in-DamageBuffer-clause-answers
returns-in-DamageBuffer-clause-answers g c = λ named new client r on is only.
    let v = c.args.self.now in
    let id = c.args.object in
    let rect : Rect = record { x = c.in-DamageBuffer.x; y = c.in-DamageBuffer.y; w = c.in-DamageBuffer.w; h = c.in-DamageBuffer.h } in
    let count = c.count-in-DamageBuffer in
    let x-fits : FitsSigned w32 c.in-DamageBuffer.x = search rules in
    let y-fits : FitsSigned w32 c.in-DamageBuffer.y = search rules in
    let w-fits : FitsSigned w32 c.in-DamageBuffer.w = search rules in
    let h-fits : FitsSigned w32 c.in-DamageBuffer.h = search rules in
    let does = simp (to_z-of_z w32 c.in-DamageBuffer.x x-fits, to_z-of_z w32 c.in-DamageBuffer.y y-fits, to_z-of_z w32 c.in-DamageBuffer.w w-fits, to_z-of_z w32 c.in-DamageBuffer.h h-fits) at c.damage_buffer.ensures.does in
    rw c.in-DamageBuffer.is
    (as-asked _ _ client on r only (Ok (AskSurface id (DamageBuffer rect)))
    (counted-does v (record v { client = count.new.self }) c.damage_buffer.new.self r (λ (q : Resident). AskSurface id (DamageBuffer rect)) is count.ensures.only refl refl
    (count.ensures.counts r.peer is.peer)
    (asked-releases (names_of v.client.objects).surfaces v.owned.surfaces.states v.owned.surfaces.family (with_peer (counted r.peer) r) id c.args.surface (DamageBuffer rect) refl is.owns.surfaces named)
    (does id (surface-counted v.client count.new.self id c.args.surface count.ensures.only named))))

pub returns-in-Frame-clause-answers : goal.returns-in-Frame-clause-answers
returns-in-Frame-clause-answers g c = λ named new client r on is only. rw c.in-Frame.is (c.frame.ensures.answers c.args.object named (rw c.in-Frame.is at new) client r on is only)

pub returns-in-SetOpaqueRegion-clause-answers : goal.returns-in-SetOpaqueRegion-clause-answers
returns-in-SetOpaqueRegion-clause-answers g c = λ named new client r on is only.
    let v = c.args.self.now in
    let id = c.args.object in
    let region = c.in-SetOpaqueRegion.region in
    let count = c.count-in-SetOpaqueRegion in
    rw c.in-SetOpaqueRegion.is
    (as-asked _ _ client on r only (Ok (AskSurface id (SetOpaqueRegion (region_named r region))))
    (counted-does v (record v { client = count.new.self }) c.set_opaque_region.new.self r (λ (q : Resident). AskSurface id (SetOpaqueRegion (region_named q region))) is
    count.ensures.only refl refl (count.ensures.counts r.peer is.peer)
    (asked-releases (names_of v.client.objects).surfaces v.owned.surfaces.states v.owned.surfaces.family (with_peer (counted r.peer) r) id c.args.surface (SetOpaqueRegion (region_named r region))
    refl is.owns.surfaces named)
    (c.set_opaque_region.ensures.does id (surface-counted v.client count.new.self id c.args.surface count.ensures.only named))))

pub returns-in-SetInputRegion-clause-answers : goal.returns-in-SetInputRegion-clause-answers
returns-in-SetInputRegion-clause-answers g c = λ named new client r on is only.
    let v = c.args.self.now in
    let id = c.args.object in
    let region = c.in-SetInputRegion.region in
    let count = c.count-in-SetInputRegion in
    rw c.in-SetInputRegion.is
    (as-asked _ _ client on r only (Ok (AskSurface id (SetInputRegion (region_named r region))))
    (counted-does v (record v { client = count.new.self }) c.set_input_region.new.self r (λ (q : Resident). AskSurface id (SetInputRegion (region_named q region))) is count.ensures.only
    refl refl (count.ensures.counts r.peer is.peer)
    (asked-releases (names_of v.client.objects).surfaces v.owned.surfaces.states v.owned.surfaces.family (with_peer (counted r.peer) r) id c.args.surface (SetInputRegion (region_named r region))
    refl is.owns.surfaces named)
    (c.set_input_region.ensures.does id (surface-counted v.client count.new.self id c.args.surface count.ensures.only named))))

pub returns-in-SetBufferTransform-clause-answers : goal.returns-in-SetBufferTransform-clause-answers
returns-in-SetBufferTransform-clause-answers g c = λ named new.
    let z = c.in-SetBufferTransform.transform in
    let fits : FitsSigned w32 z = search rules in
    let answers = simp (to_z-of_z w32 z fits) at c.transform.ensures.answers in
    λ client r on is only. rw c.in-SetBufferTransform.is (answers named client r on is only)

pub returns-in-SetBufferScale-clause-answers : goal.returns-in-SetBufferScale-clause-answers
returns-in-SetBufferScale-clause-answers g c = λ named new.
    let z = c.in-SetBufferScale.scale in
    let fits : FitsSigned w32 z = search rules in
    let answers = simp (to_z-of_z w32 z fits) at c.scale.ensures.answers in
    λ client r on is only. rw c.in-SetBufferScale.is (answers named client r on is only)

pub returns-in-Attach-clause-rest : goal.returns-in-Attach-clause-rest
returns-in-Attach-clause-rest g c = rw (← c.count.ensures.rest) c.attach.ensures.rest

pub returns-in-Damage-clause-rest : goal.returns-in-Damage-clause-rest
returns-in-Damage-clause-rest g c = rw (← c.count-in-Damage.ensures.rest) c.damage.ensures.rest

pub returns-in-DamageBuffer-clause-rest : goal.returns-in-DamageBuffer-clause-rest
returns-in-DamageBuffer-clause-rest g c = rw (← c.count-in-DamageBuffer.ensures.rest) c.damage_buffer.ensures.rest

pub returns-in-Frame-clause-rest : goal.returns-in-Frame-clause-rest
returns-in-Frame-clause-rest g c = c.frame.ensures.rest

pub returns-in-SetOpaqueRegion-clause-rest : goal.returns-in-SetOpaqueRegion-clause-rest
returns-in-SetOpaqueRegion-clause-rest g c = rw (← c.count-in-SetOpaqueRegion.ensures.rest) c.set_opaque_region.ensures.rest

pub returns-in-SetInputRegion-clause-rest : goal.returns-in-SetInputRegion-clause-rest
returns-in-SetInputRegion-clause-rest g c = rw (← c.count-in-SetInputRegion.ensures.rest) c.set_input_region.ensures.rest

pub returns-in-SetBufferTransform-clause-rest : goal.returns-in-SetBufferTransform-clause-rest
returns-in-SetBufferTransform-clause-rest g c = c.transform.ensures.rest

pub returns-in-SetBufferScale-clause-rest : goal.returns-in-SetBufferScale-clause-rest
returns-in-SetBufferScale-clause-rest g c = c.scale.ensures.rest

use Rattle.std.proofs.Common.{Bool, ap, sym, refl, ◌∙◌, w32}
use Rattle.std.specs.Prelude.{Ok, if◌then◌else◌, unsigned_abs}
use Rattle.std.proofs.lemmas.Int.{to_z-of_z}
use Rattle.spec_desktop.specs.declared.refusals.ErrorCode.TheVariants.{InvalidScale}
use Rattle.spec_desktop.specs.Peer.{counted}
use Rattle.wl_surface.specs.Request.{SetBufferScale}
use Rattle.spec_desktop.specs.Ask.{AskSurface}
use Rattle.spec_desktop.specs.Desktop.{Resident}
use Rattle.law_desktop.specs.RoleNames.{names_of}
use Rattle.spec_desktop.specs.Step.{with_peer}
use Rattle.spec_desktop.specs.WlSurface.{refuse, scale_set}
use Rattle.wl_requests.proofs.Shelling.{accepted, asked-releases, counted-does, refused-so, surface-counted}
use Rattle.wl_requests.proofs.Meeting.{as-asked}
use Rattle.wl_requests.proofs.residents.Resident.scale.Goals as goal

pub returns-then-not-is_positive-clause-answers : goal.returns-then-not-is_positive-clause-answers
returns-then-not-is_positive-clause-answers g c = λ named client r on is only.
    as-asked _ _ client on r only (scale_set c.args.object c.args.scale) (
    let id = c.args.object in
    let z = c.args.scale in
    let valid = sym (simp (to_z-of_z w32 z c.ranges.scale) at c.is_positive.ensures) ∙ c.if-not-is_positive.true in
    let judged = ap (λ (b : Bool). if b then Ok (AskSurface id (SetBufferScale (unsigned_abs z))) else refuse id InvalidScale) valid in
    refused-so _ _ r (scale_set id z) _ _ judged c.of-refusal.ensures c.refuse.ensures.ended (c.refuse.ensures.errs r.peer is.peer))

pub returns-clause-answers : goal.returns-clause-answers
returns-clause-answers g c = λ named client r on is only.
    as-asked _ _ client on r only (scale_set c.args.object c.args.scale) (
    let v = c.args.self.now in
    let id = c.args.object in
    let z = c.args.scale in
    let ask = AskSurface id (SetBufferScale (unsigned_abs z)) in
    let valid = sym (simp (to_z-of_z w32 z c.ranges.scale) at c.is_positive.ensures) ∙ c.if-not-is_positive.false in
    let judged = ap (λ (b : Bool). if b then Ok ask else refuse id InvalidScale) valid in
    let does = simp (to_z-of_z w32 z c.ranges.scale) at c.set_buffer_scale.ensures.does in
    accepted _ r (scale_set id z) ask judged
    (counted-does v (record v { client = c.count.new.self }) c.set_buffer_scale.new.self r (λ (q : Resident). ask) is c.count.ensures.only refl refl
    (c.count.ensures.counts r.peer is.peer)
    (asked-releases (names_of v.client.objects).surfaces v.owned.surfaces.states v.owned.surfaces.family (with_peer (counted r.peer) r) id c.args.surface (SetBufferScale (unsigned_abs z)) refl
    is.owns.surfaces named)
    (does id valid (surface-counted v.client c.count.new.self id c.args.surface c.count.ensures.only named))))

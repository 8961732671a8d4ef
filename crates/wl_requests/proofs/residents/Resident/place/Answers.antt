use Rattle.std.proofs.Common.{ap, refl, ◌∙◌}
use Rattle.std.specs.Prelude.{false}
use Rattle.std.proofs.lemmas.Bool.{false_from_ne_true}
use Rattle.wl_links.specs.Family.{is_bad_sibling, links_in}
use Rattle.law_desktop.specs.RoleNames.{names_of}
use Rattle.law_desktop.proofs.Keeping.OwningLinks.{owned-placed}
use Rattle.spec_desktop.specs.WlSubsurface.{demand_by_link, placed_beside}
use Rattle.wl_shell.specs.Kept.{kept_of}
use Rattle.wl_surface.specs.Stacks.{place_request}
use Rattle.wl_requests.specs.Linking.{place_asked}
use Rattle.wl_requests.proofs.Beside.{placed-kept}
use Rattle.wl_requests.proofs.Linking.{link-of-child, no-link-of}
use Rattle.wl_requests.proofs.Positions.{ignored-so, place-inert, place-linked, placed-so, unplaced-so}
use Rattle.wl_requests.proofs.residents.Resident.place.Goals as goal

pub returns-in_default-clause-answers : goal.returns-in_default-clause-answers
returns-in_default-clause-answers g c = λ sibling here there client r d is orderly.
    let object = c.args.object in
    let side = c.args.side in
    ignored-so c.args.self.now _ client r d _ is orderly
    (ap (λ o. demand_by_link r object o (place_asked side sibling)) (no-link-of c.args.self.now r is orderly object c.in_default.ensures)
    ∙ place-inert side r object sibling)
    c.count.ensures.only refl refl (c.count.ensures.counts r.peer is.peer)

pub returns-in-Ok-clause-answers : goal.returns-in-Ok-clause-answers
returns-in-Ok-clause-answers g c = λ sibling here there client r d is orderly.
    let v = c.args.self.now in
    let object = c.args.object in
    let side = c.args.side in
    let child = c.in-Some.child in
    let its = link-of-child v r is orderly object child c.in-Some.ensures in
    let good = false_from_ne_true (is_bad_sibling child c.args.sibling (links_in v.owned.surfaces.family)) (λ bad. let refused = c.place.ensures.bad bad in let done = c.in-Ok.is in absurd (cc)) in
    let placed = placed-kept v r object child sibling c.args.sibling its is there false good in
    placed-so v _ client r d is orderly c.count-in-Ok.ensures.only (c.count-in-Ok.ensures.counts r.peer is.peer) refl refl c.place.ensures.surfaces side _ object child its placed.0
    (ap (λ o. demand_by_link r object o (place_asked side sibling)) its.of_object
    ∙ place-linked side r object sibling its.link
    ∙ ap (placed_beside object its.link.parent (place_request side its.link.number)) placed.1)
    (owned-placed (names_of v.client.objects) v.owned.surfaces.states v.owned.surfaces.family (kept_of v.owned.shell) r.owned is.owns its.link.number child its.link its.here its.lives its.named
    c.place.new.self.states c.place.new.self.family side its.above sibling c.args.sibling placed.0 its.parent there placed.2 c.in-Ok.ensures.ok)

pub returns-in-Err-clause-answers : goal.returns-in-Err-clause-answers
returns-in-Err-clause-answers g c = λ sibling here there client r d is orderly.
    let v = c.args.self.now in
    let object = c.args.object in
    let side = c.args.side in
    let child = c.in-Some.child in
    let its = link-of-child v r is orderly object child c.in-Some.ensures in
    let bad = is_bad_sibling child c.args.sibling (links_in v.owned.surfaces.family) in
    unplaced-so v _ client r d _ object child sibling its (place_request side its.link.number) orderly bad (placed-kept v r object child sibling c.args.sibling its is there bad refl)
    (ap (λ o. demand_by_link r object o (place_asked side sibling)) its.of_object
    ∙ place-linked side r object sibling its.link) c.refuse_place.ensures.ended
    (λ is_bad. c.refuse_place.ensures.errs (let refused = c.place.ensures.bad is_bad in let told = c.in-Err.is in cc) r.peer is.peer)
    (λ good. c.refuse_place.ensures.lacks (λ other. let memory = c.in-Err.ensures.cause good in absurd (cc)) r.peer is.peer)

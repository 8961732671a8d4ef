use Rattle.std.proofs.Common.{ap, sym, ◌∙◌}
use Rattle.std.proofs.lemmas.Option.{same_Some}
use Rattle.wl_links.specs.Family.{links_in}
use Rattle.wl_requests.proofs.residents.Resident.child_of.Goals as goal

pub returns-in-None : goal.returns-in-None
returns-in-None g c = λ numbers subsurfaces are child here.
    let first = are.known child c.args.object here in
    let second = are.known c.in_ok-child.child c.args.object c.in_ok-child.ensures.some in
    let same = same_Some first.0 second.0 (sym first.2 ∙ second.2) in
    let numbered = same_Some child c.in_ok-child.child (sym first.1 ∙ ap numbers same ∙ second.1) in
    ap (links_in c.args.self.now.owned.surfaces.family) numbered ∙ sym c.link.ensures ∙ c.in-None.is

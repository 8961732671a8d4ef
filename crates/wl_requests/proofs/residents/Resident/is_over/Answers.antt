use Rattle.std.proofs.Common.{ap, sym, ◌∙◌}
use Rattle.std.specs.Prelude.{not, ◌&&◌}
use Rattle.wl_surface.specs.Surfaces.{is_used}
use Rattle.law_desktop.specs.Owning.{by_number}
use Rattle.law_desktop.proofs.Keeping.OwningSurfaces.{used-read}
use Rattle.wl_requests.proofs.residents.Resident.is_over.Goals as goal

pub returns-then-not-is_named : goal.returns-then-not-is_named
returns-then-not-is_named g c = λ r numbers is kept.
    let named = c.if-not-is_named.ensures r.peer is in
    let used = used-read numbers c.args.self.now.owned.surfaces.states c.args.self.now.owned.surfaces.family r.owned.surfaces kept c.args.buffer.number c.is_used.result
    (c.is_used.ensures (by_number numbers r.owned.surfaces) kept.stand) in
    ap not (sym used) ∙ ap (λ n. not n && not (is_used c.args.buffer.number r.owned.surfaces)) named

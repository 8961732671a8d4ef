use Rattle.wl_surface.proofs.Records.{For-committed}
use Rattle.wl_surface.proofs.state.SurfaceState.hold.Goals as goal

pub returns-clause-ok : goal.returns-clause-ok
returns-clause-ok g c = λ s u.
    let offset = c.hold_content.ensures.offset in
    let moved = rw (c.hold_regions.ensures, c.in_ok-hold_damage.ensures.ok) at offset in
    rw (c.hold_content.ensures.content, c.hold_regions.ensures, c.in_ok-hold_damage.ensures.ok) (For-committed _ s _ u moved)

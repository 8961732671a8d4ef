use Rattle.std.proofs.Common.{ap₂, sym, ◌∙◌}
use Rattle.wl_scene.specs.Roots.{corner_or}
use Rattle.wl_scene.proofs.Geometry.{corner-roleless, corner-toplevel}
use Rattle.wl_shell.proofs.ShellsStanding.{both}
use Rattle.wl_scene.proofs.corners.toplevel_corner.Goals as goal
use Rattle.spec_desktop.specs.Popups.{standing_place}
use Rattle.spec_desktop.specs.Windows.{geometry_corner}
use Rattle.wl_surface.specs.Surfaces.{history_in}
use Rattle.wl_shell.specs.Kept.{kept_of}

pub returns-then-has_role : goal.returns-then-has_role
returns-then-has_role g c = λ o x next held here popup there.
    let t = both (kept_of c.args.owned.now.shell) (λ number. history_in number o.surfaces) o.shell held.shell c.args.surface c.args.xdg_surface.now x here there in
    c.geometry_at.ensures o.surfaces held.surfaces
    ∙ ap₂ (λ p g. geometry_corner (corner_or p (history_in c.args.surface o.surfaces)) g) c.toplevel_place-place.ensures c.window_geometry.ensures
    ∙ corner-toplevel o (standing_place c.args.scene.now.standing c.args.client) next c.args.surface c.args.xdg_surface.now x t.0 t.1 popup (sym c.has_role.ensures ∙ c.if-has_role.true)

pub returns : goal.returns
returns g c = λ o x next held here popup there.
    let t = both (kept_of c.args.owned.now.shell) (λ number. history_in number o.surfaces) o.shell held.shell c.args.surface c.args.xdg_surface.now x here there in
    c.origin.ensures
    ∙ corner-roleless o (standing_place c.args.scene.now.standing c.args.client) next c.args.surface c.args.xdg_surface.now x t.0 t.1 (sym c.has_role.ensures ∙ c.if-has_role.false)

use Rattle.std.proofs.Common.{refl}
use Rattle.wl_surface.specs.Request.{DamageBuffer}
use Rattle.wl_surface.proofs.Asking.{alone-stands}
use Rattle.wl_surface.proofs.Refusing.{on-ok}
use Rattle.wl_surface.proofs.surfaces.Surfaces.damage_buffer.Goals as goal

pub returns-clause-stand : goal.returns-clause-stand
returns-clause-stand g c =
    rw (← c.self.view_is)
    (on-ok c.damage_buffer.result c.damage_buffer.ensures.ok (λ changes all stand. alone-stands c.self.inside.states c.damage_buffer.new.self c.self.inside.family all c.args.surface (DamageBuffer c.args.rect) refl refl changes stand))

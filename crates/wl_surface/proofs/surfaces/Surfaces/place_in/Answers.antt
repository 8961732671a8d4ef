use Rattle.std.proofs.Common.{ap, ◌∙◌}
use Rattle.std.specs.Prelude.{find}
use Rattle.wl_links.specs.declared.placed.Member.TheVariants.{Child}
use Rattle.wl_links.specs.Stacks.{is_of}
use Rattle.wl_surface.proofs.Windows.{placed-whole}
use Rattle.wl_surface.proofs.surfaces.Surfaces.place_in.Goals as goal

pub returns : goal.returns
returns g c = c.find_child.ensures ∙ (placed-whole c.args.child c.stack.result.now ∙ ap (find (is_of (Child c.args.child))) c.stack.ensures.stack)

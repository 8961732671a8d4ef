use Rattle.std.proofs.Common.{ap, sym, ◌∙◌}
use Rattle.std.specs.Prelude.{find}
use Rattle.wl_scene.specs.Roots.{is_root_of, parent_surface}
use Rattle.wl_scene.proofs.Rooted.{find-never}
use Rattle.wl_scene.proofs.roots.parent_root.Goals as goal

pub returns-in_default : goal.returns-in_default
returns-in_default g c = λ o histories is. sym (find-never (parent_surface o c.args.popup.now) c.args.roots.now (sym (c.in_default.ensures o histories is)))

pub returns : goal.returns
returns g c = λ o histories is. c.find_root.ensures ∙ ap (λ s. find (is_root_of s) c.args.roots.now) (c.in-Some.ensures o histories is)

use Rattle.std.proofs.Common.{ℕ, subst}
use Rattle.wl_shell.specs.Kept.{kept_of}
use Rattle.wl_shell.specs.declared.popups.Wanted.TheVariants.{Under}
use Rattle.wl_shell.specs.PopupsKept.{IsNewest, dismissible}
use Rattle.wl_shell.proofs.Picking.{found-as, greatest-by, is-found}
use Rattle.wl_shell.proofs.shell.Shell.newest_under.Goals as goal

pub returns : goal.returns
returns g c =
    let entries = c.self.inside.surfaces.entries in
    let k = c.in_ok-get.field-0.now in
    let found : IsNewest (dismissible entries c.id-id.result) (kept_of entries) c.find_popup.result =
    found-as _ _ _ _ c.find_popup.result greatest-by (is-found entries (Under c.id-id.result) c.find_popup.result c.find_popup.ensures.each c.find_popup.ensures.found) in
    let same : IsNewest (dismissible entries k.id) (kept_of entries) c.find_popup.result =
    subst (λ (id : ℕ). IsNewest (dismissible entries id) (kept_of entries) c.find_popup.result) c.id-id.ensures found in
    rw (← c.in_ok-get.ensures, ← c.self.view_is) same

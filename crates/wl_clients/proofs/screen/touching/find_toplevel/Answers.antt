use Rattle.std.proofs.Common.{ℕ, Option, ap, ◌∙◌}
use Rattle.std.specs.Option.{option_or}
use Rattle.law_windows.specs.Runs.Kept.{kept_owner}
use Rattle.law_windows.specs.Runs.Numbers.{kept_by_parent}
use Rattle.wl_shell.specs.Shell.{Popup}
use Rattle.wl_clients.specs.Finding.{parent_by, popup_in_shell}
use Rattle.wl_clients.proofs.screen.touching.find_toplevel.Goals as goal

pub returns-in-Some-popup_of : goal.returns-in-Some-popup_of
returns-in-Some-popup_of g c = λ o histories is.
    let client = c.args.client in
    let root = c.args.root in
    let all = c.args.stacked.now.windows in
    let parent = parent_by o (popup_in_shell c.args.shell.now root) in
    c.toplevel_by_parent.ensures o histories is
    ∙ (ap (λ (p : Option Popup). kept_by_parent kept_owner client root (parent_by o p) all) c.in-Some-popup_of.ensures
    ∙ ap (λ (t : Option ℕ). option_or t (kept_by_parent kept_owner client root parent all)) c.in_default.ensures)

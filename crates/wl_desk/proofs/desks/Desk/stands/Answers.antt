use Rattle.std.proofs.Common.{sym}
use Rattle.spec_desktop.specs.Settling.{unstruck}
use Rattle.wl_clients.proofs.Midway.{mid_begins_and_ends}
use Rattle.wl_desk.proofs.LetGo.{unnumbered-stands}
use Rattle.wl_desk.proofs.desks.Desk.stands.Goals as goal

pub returns-in_default : goal.returns-in_default
returns-in_default g c = rw (← c.self.view_is) (λ e kept.
    unnumbered-stands c.self.inside.clients.desk e c.args.toplevel.client c.args.toplevel.surface kept c.in_default.ensures)

pub returns : goal.returns
returns g c = rw (← c.self.view_is) (λ e kept.
    c.stands.ensures (unstruck e) c.args.toplevel.surface ((mid_begins_and_ends c.self.inside.clients.desk e).0 kept) (sym c.in-Some.ensures))

use Rattle.std.proofs.Common.{◌∙◌, None, Some}
use Rattle.wl_clients.proofs.Lends.{window-of}
use Rattle.wl_clients.proofs.windows.lend_of.Goals as goal

pub returns-in-Some : goal.returns-in-Some
returns-in-Some g c =
    (rw c.states-surfaces.ensures at c.lend.ensures)
    ∙ window-of c.args.residents.now c.args.nowhere.now c.args.stacked.now (Some c.in-Some.resident.now) c.in-Some.ensures

pub returns-in-None : goal.returns-in-None
returns-in-None g c = c.lend-in-None.ensures ∙ window-of c.args.residents.now c.args.nowhere.now c.args.stacked.now None c.in-None.ensures

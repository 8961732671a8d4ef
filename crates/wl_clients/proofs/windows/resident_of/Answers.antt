use Rattle.std.proofs.Common.{◌∙◌}
use Rattle.wl_clients.proofs.Lends.{at-place, at-zero, past-end}
use Rattle.wl_clients.proofs.windows.resident_of.Goals as goal

pub returns-in_default : goal.returns-in_default
returns-in_default g c = at-zero c.args.residents.now c.args.client c.in_default.ensures

pub returns-in-Some-get : goal.returns-in-Some-get
returns-in-Some-get g c =
    c.as_ref.ensures.value
    ∙ at-place c.args.residents.now c.args.client c.in-Some.index c.in-Some-get.slot.now c.in-Some.ensures.0 c.in-Some.ensures.1 c.in-Some-get.ensures.lookup.0 c.in-Some-get.ensures.lookup.1

pub returns-in-None : goal.returns-in-None
returns-in-None g c = past-end c.args.residents.now c.args.client c.in-Some.index c.in-Some.ensures.0 c.in-Some.ensures.1 c.in-None.ensures.lookup.0

use Rattle.std.proofs.Common.{rules}
use Rattle.wl_requests.proofs.xdg_toplevel.asked_of.Goals as goal

pub returns-in-SetParent : goal.returns-in-SetParent
returns-in-SetParent c = search rules

pub returns-in-SetParent-2 : goal.returns-in-SetParent-2
returns-in-SetParent-2 c = search rules

pub returns-in-SetParent-3 : goal.returns-in-SetParent-3
returns-in-SetParent-3 c = search rules

pub returns-in-SetParent-4 : goal.returns-in-SetParent-4
returns-in-SetParent-4 c = search rules

pub returns-in-SetParent-5 : goal.returns-in-SetParent-5
returns-in-SetParent-5 c = search rules

pub returns-in-SetParent-6 : goal.returns-in-SetParent-6
returns-in-SetParent-6 c = search rules

pub returns-in-SetParent-7 : goal.returns-in-SetParent-7
returns-in-SetParent-7 c = search rules

pub returns-in-SetParent-8 : goal.returns-in-SetParent-8
returns-in-SetParent-8 c = search rules

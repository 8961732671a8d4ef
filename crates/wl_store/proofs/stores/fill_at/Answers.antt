use Rattle.std.proofs.Common.{ap}
use Rattle.wl_store.specs.Kept.{Kept}
use Rattle.wl_store.proofs.Kept.{seen-same}
use Rattle.wl_store.proofs.stores.fill_at.Goals as goal

pub returns-then-is_blank-clause-seen : goal.returns-then-is_blank-clause-seen
returns-then-is_blank-clause-seen g c =
    seen-same c.args.held.now c.args.place c.index-held-place-then-is_blank.result c.fill.new.self (ap (λ (s : Kept). s.held) c.fill.ensures.filled)

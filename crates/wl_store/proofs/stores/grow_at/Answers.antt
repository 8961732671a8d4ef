use Rattle.std.proofs.lemmas.Result.{on_ok_weaker}
use Rattle.wl_store.proofs.Kept.{grown-set}
use Rattle.wl_store.proofs.stores.grow_at.Goals as goal

pub returns-clause-ok : goal.returns-clause-ok
returns-clause-ok g c =
    on_ok_weaker c.grow.result (λ e d. grown-set c.args.size c.args.held.now c.args.place c.index-held-place.result c.grow.new.self d c.requires.within e) c.grow.ensures.ok

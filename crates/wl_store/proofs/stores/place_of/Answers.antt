use Rattle.wl_store.specs.Kept.{seen}
use Rattle.wl_store.proofs.Places.{place-found, place-absent}
use Rattle.wl_store.proofs.stores.place_of.Goals as goal

pub returns-clause-found : goal.returns-clause-found
returns-clause-found g c = place-found (seen c.args.held.now) c.args.number c.position_of.result c.position_of.ensures

pub returns-clause-absent : goal.returns-clause-absent
returns-clause-absent g c = place-absent (seen c.args.held.now) c.args.number c.position_of.result c.position_of.ensures

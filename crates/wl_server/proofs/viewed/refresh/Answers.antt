use Rattle.wl_server.proofs.Refreshed.{some-refreshes}
use Rattle.wl_server.proofs.viewed.refresh.Goals as goal

pub returns-in-Some : goal.returns-in-Some
returns-in-Some g c = some-refreshes c.args.damage.now c.args.frame.now c.args.time c.args.place.now c.in-Some.watcher c.refresh_watcher.new.watcher c.in-Some.is c.refresh_watcher.ensures

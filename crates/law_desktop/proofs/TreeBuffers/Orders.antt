-- The stores of buffers go, one after another.
use Rattle.std.proofs.Common.{List}
use Rattle.std.specs.Prelude.{fold}
use Rattle.spec_desktop.specs.Peer.{released}
use Rattle.wl_store.specs.Stores.{Stock}
use Rattle.wl_surface.specs.Request.{Buffer}

abbrev pub going : Stock → List Buffer → Stock
going s bs = fold (λ (stores : Stock) (b : Buffer). released b.store stores) s bs

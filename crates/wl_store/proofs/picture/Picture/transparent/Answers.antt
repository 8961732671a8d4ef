use Rattle.std.proofs.Common.{◌∷◌, [], ap}
use Rattle.wl_store.specs.Picture.{Shown}
use Rattle.wl_store.specs.declared.place.Layout.{Layout}
use Rattle.wl_store.specs.declared.transform.Transform.TheVariants.{Normal}
use Rattle.wl_store.proofs.Layouts.{one-pixel}
use Rattle.wl_store.proofs.picture.Picture.transparent.Goals as goal

pub returns : goal.returns
returns c =
    let shown : Layout → Shown = λ l. record { bytes = 0 ∷ 0 ∷ 0 ∷ 0 ∷ []; layout = l; transform = Normal; scale = 1 } in
    ap shown (one-pixel _ _ _ _ _ _)

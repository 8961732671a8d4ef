use Rattle.wl_paint.specs.Painting.{pixel_of}
use Rattle.wl_paint.proofs.PaintedRows.{clear-band}
use Rattle.wl_paint.proofs.painting.paint_band.Goals as goal

pub returns-then-is_clear : goal.returns-then-is_clear
returns-then-is_clear g c =
    clear-band _ _ _ _ (pixel_of c.args.pixels.now) (record { first = 0; end = c.args.damage.now.width }) c.args.rows (c.is_clear.ensures c.if-is_clear.true)

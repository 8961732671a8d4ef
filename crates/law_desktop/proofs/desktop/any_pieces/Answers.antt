use Rattle.law_desktop.proofs.Pieces.AnyPieces.{any_pieces}
use Rattle.law_desktop.proofs.desktop.any_pieces.Goals as goal

pub returns : goal.returns
returns c = any_pieces

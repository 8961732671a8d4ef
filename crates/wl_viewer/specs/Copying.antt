-- What somebody holds who copies the pixels of each update.
use Rattle.std.specs.Prelude.{◌-◌, ◌+◌, ◌&&◌, ◌==◌, nat_le, nat_lt, if◌then◌else◌, fold, List}
use Rattle.wl_blend.specs.Blend.{color_of}
use Rattle.wl_session.specs.Viewer.{Sight}
use Rattle.wl_viewer.specs.Telling.{Piece, Update}

-- the points of a piece get its colours, and the others stay
abbrev pub copied_piece : Sight → Piece → Sight
copied_piece sight piece x y =
    if (piece.y == y) && (nat_le piece.x x && nat_lt x (piece.x + piece.w)) then color_of piece.pixels (x - piece.x) else sight x y

abbrev pub copied_update : Sight → Update → Sight
copied_update sight update = fold copied_piece sight update.pieces

-- the same of updates one after another
abbrev pub copied : Sight → List Update → Sight
copied sight updates = fold copied_update sight updates

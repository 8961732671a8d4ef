-- The bounds of what is marked.
use Rattle.std.proofs.Common.{Bool, true, false}
use Rattle.std.specs.Prelude.{◌||◌, IsTrue}
use Rattle.spec_desktop.specs.Marks.{at_least}
use Rattle.law_desktop.specs.Laws.{LeastIsMost}

either : (a b : Bool) → IsTrue a → IsTrue (a || b)
either true b h = h
either false b h = absurd (cc)

pub least_is_most : LeastIsMost
least_is_most width height applied raised old new x y h = either (at_least width height applied old new x y) _ h

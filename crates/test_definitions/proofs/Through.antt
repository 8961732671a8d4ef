-- Worked recordings that tell a message from a piece, and a step's own change from its ends, computed on the definitions.
use Rattle.std.proofs.Common.{◌≡◌, ℕ, List, [], ◌∷◌, true, Option, Some, None, refl}
use Rattle.std.specs.Prelude.{pos, replicate}
use Rattle.wl_wire.specs.Wire.{Word, Number}
use Rattle.spec_desktop.specs.declared.cause.Cause.TheVariants.{Slow}
use Rattle.wl_surface.specs.Request.{Damage, Request}
use Rattle.wl_surface.specs.Trees.{applied_tree, behaves_synchronised, depth, descends_from, height}
use Rattle.spec_desktop.specs.Windows.{tree}
use Rattle.spec_desktop.specs.Changing.{changed_for}
use Rattle.spec_desktop.specs.Demand.{CommitTree}
use Rattle.spec_desktop.specs.Desktop.{Desktop, Resident, client_at}
use Rattle.spec_desktop.specs.Moments.{marks_at_least_through}
use Rattle.spec_desktop.specs.Settling.{Midstep, ended_all, unstruck}
use Rattle.spec_desktop.specs.Stacked.{all_windows}
use Rattle.spec_desktop.specs.Through.{ends_through}
use Rattle.spec_desktop.specs.Happens.{changed_so}
use Rattle.test_definitions.proofs.Counts.{in_rows, marked, marks}
use Rattle.test_definitions.proofs.Steps.{asked_more, asks, attach, commit, create_buffer, create_surface, damage, showing, sent, start}
use Rattle.test_definitions.proofs.Subsurfaces.{first}

-- ---- one piece that damages one point 600 times and commits, and does so again at another point

abbrev one : Desktop
one = sent 1 (showing 256 8 1 start)

abbrev dot : ℕ → Request
dot at = Damage (record { x = pos at; y = pos at; w = pos 1; h = pos 1 })

abbrev damaged_at : ℕ → Desktop → Desktop
damaged_at at d = asked_more (replicate 600 (dot at)) 6 d

abbrev once : Desktop
once = commit 1 6 (damaged_at 2 one)

abbrev twice : Desktop
twice = commit 1 6 (damaged_at 5 once)

-- each commit marks its own point
pub row_once : marked 9 (damaged_at 2 one) once ≡ 1
unfolding tree applied_tree behaves_synchronised depth descends_from height
row_once = refl

pub row_once-there : marks (damaged_at 2 one) once 2 2 ≡ true
unfolding tree applied_tree behaves_synchronised depth descends_from height
row_once-there = refl

pub row_twice : marked 9 (damaged_at 5 once) twice ≡ 1
unfolding tree applied_tree behaves_synchronised depth descends_from height
row_twice = refl

pub row_twice-there : marks (damaged_at 5 once) twice 5 5 ≡ true
unfolding tree applied_tree behaves_synchronised depth descends_from height
row_twice-there = refl

-- taken as one step, 1,200 rectangles would be more than are told apart, and the whole window be damaged
pub row_twice-at_once : marked 9 one twice ≡ 64
unfolding tree applied_tree behaves_synchronised depth descends_from height
row_twice-at_once = refl

-- ---- one piece that takes a subsurface of 4 by 4 away and makes it again under the same ids, with another buffer

abbrev pub without_link : Desktop
without_link = asks 1 16 0 [] (sent 1 first)

abbrev pub without_child : Desktop
without_child = asks 1 14 0 [] without_link

abbrev pub made_again : Desktop
made_again =
    commit 1 14 (damage 1 14 (pos 0) (pos 0) (pos 4) (pos 4) (attach 1 14 19 (asks 1 16 1 (Number (pos 4) ∷ Number (pos 4) ∷ [])
    (asks 1 15 1 (Word 16 ∷ Word 14 ∷ Word 6 ∷ []) (create_surface 1 14 without_child)))))

abbrev pub shown_again : Desktop
shown_again = commit 1 6 made_again

-- its window goes with its wl_subsurface, and comes back with its parent's commit
pub row_link_gone : marked 9 (sent 1 first) without_link ≡ 16
unfolding tree applied_tree behaves_synchronised depth descends_from height
row_link_gone = refl

pub row_link_gone-there : marks (sent 1 first) without_link 4 4 ≡ true
unfolding tree applied_tree behaves_synchronised depth descends_from height
row_link_gone-there = refl

pub row_child_gone : marked 9 without_link without_child ≡ 0
unfolding tree applied_tree behaves_synchronised depth descends_from height
row_child_gone = refl

pub row_made_again : marked 9 without_child made_again ≡ 0
unfolding tree applied_tree behaves_synchronised depth descends_from height
row_made_again = refl

pub row_shown_again : marked 9 made_again shown_again ≡ 16
unfolding tree applied_tree behaves_synchronised depth descends_from height
row_shown_again = refl

-- taken as one step, none of that is seen
pub row_shown_again-at_once : marked 9 (sent 1 first) shown_again ≡ 0
unfolding tree applied_tree behaves_synchronised depth descends_from height
row_shown_again-at_once = refl

-- ---- a commit that grows a window from 8 by 8 to 16 by 16, of which the release of the old buffer isn't queued

abbrev larger : Desktop
larger = attach 1 6 12 (create_buffer 1 9 12 1024 16 one)

abbrev grows : Option Resident → Desktop → Midstep
grows None d = unstruck d
grows (Some r) d = changed_so 1 (CommitTree 6) r d (changed_for 1 (CommitTree 6) r d).peer (Some Slow)

abbrev grown : Midstep
grown = grows (client_at 1 larger) larger

-- its own change marks what the larger window covers
pub row_grown : marked 18 larger grown.desktop ≡ 256
unfolding tree applied_tree behaves_synchronised depth descends_from height
row_grown = refl

-- and the end of the client the same again
pub row_grown-end : marked 18 grown.desktop (ended_all grown.struck grown.desktop) ≡ 256
unfolding tree applied_tree behaves_synchronised depth descends_from height
row_grown-end = refl

abbrev through : List Desktop
through = grown.desktop ∷ ends_through grown.struck grown.desktop

pub row_grown-through : in_rows (λ y x. marks_at_least_through all_windows larger through (pos x) (pos y)) 18 18 ≡ 256
unfolding tree applied_tree behaves_synchronised depth descends_from height
row_grown-through = refl

-- from its beginning to its end only the smaller window went
pub row_grown-at_once : marked 18 larger (ended_all grown.struck grown.desktop) ≡ 64
unfolding tree applied_tree behaves_synchronised depth descends_from height
row_grown-at_once = refl

-- Worked examples of viewers and of promises, computed on the definitions.
use Rattle.std.proofs.Common.{◌≡◌, [], ◌∷◌, true, false, refl}
use Rattle.std.specs.Prelude.{pos}
use Rattle.wl_wire.specs.Wire.{Word, Number}
use Rattle.spec_desktop.specs.Desktop.{Desktop}
use Rattle.spec_desktop.specs.Stacked.{all_windows}
use Rattle.test_definitions.proofs.Steps.{sent}
use Rattle.test_definitions.proofs.Subsurfaces.{first}
use Rattle.test_definitions.proofs.Through.{made_again, shown_again, without_child, without_link}
use Rattle.test_definitions.proofs.Scales.{reddened, scaled, shown_red}
use Rattle.test_definitions.proofs.Toplevels.{asks, attach, black, commit, damage, green, one, red, rewritten, stores, three, three_ready, two}
use Rattle.wl_surface.specs.Trees.{applied_tree, behaves_synchronised, depth, descends_from, height}
use Rattle.spec_desktop.specs.Windows.{tree}
use Rattle.wl_session.specs.Promises.{feigns_at, hides_at, spoils_at}
use Rattle.wl_session.specs.Run.{Film}
use Rattle.wl_session.specs.Viewer.{seen}

-- two frames of an output of 2 by 1: the first paints its second pixel red, and the second its first one green
abbrev red_frame : Film
red_frame = record { time = 1; runs = record { x = 1; y = 0; w = 1 } ∷ []; pixels = 9 ∷ 9 ∷ 9 ∷ 255 ∷ 0 ∷ 0 ∷ 255 ∷ 255 ∷ [] }

abbrev green_frame : Film
green_frame = record { time = 2; runs = record { x = 0; y = 0; w = 1 } ∷ []; pixels = 0 ∷ 255 ∷ 0 ∷ 255 ∷ 9 ∷ 9 ∷ 9 ∷ 255 ∷ [] }

-- a viewer copies what is damaged, and no more
pub row_seen-background : seen 2 black (red_frame ∷ []) 0 0 ≡ black
unfolding tree applied_tree behaves_synchronised depth descends_from height
row_seen-background = refl

pub row_seen-first : seen 2 black (red_frame ∷ []) 1 0 ≡ red
unfolding tree applied_tree behaves_synchronised depth descends_from height
row_seen-first = refl

pub row_seen-second : seen 2 black (red_frame ∷ green_frame ∷ []) 0 0 ≡ green
unfolding tree applied_tree behaves_synchronised depth descends_from height
row_seen-second = refl

pub row_seen-kept : seen 2 black (red_frame ∷ green_frame ∷ []) 1 0 ≡ red
unfolding tree applied_tree behaves_synchronised depth descends_from height
row_seen-kept = refl

-- the red pixels are damaged by the commit that shows them
pub row_damaged : hides_at all_windows three_ready three 1 (pos 31) (pos 33) ≡ false
unfolding tree applied_tree behaves_synchronised depth descends_from height
row_damaged = refl

-- the same commit without damage
abbrev undamaged : Desktop
undamaged = commit 1 (attach 11 (pos 0) 1 two)

pub row_undamaged : hides_at all_windows two undamaged 1 (pos 31) (pos 33) ≡ true
unfolding tree applied_tree behaves_synchronised depth descends_from height
row_undamaged = refl

-- it hides nothing where the colour stays, nor of another client
pub row_undamaged-beside : hides_at all_windows two undamaged 1 (pos 30) (pos 33) ≡ false
unfolding tree applied_tree behaves_synchronised depth descends_from height
row_undamaged-beside = refl

pub row_undamaged-other : hides_at all_windows two undamaged 2 (pos 33) (pos 33) ≡ false
unfolding tree applied_tree behaves_synchronised depth descends_from height
row_undamaged-other = refl

-- a subsurface is taken away and made again under the same ids, with another buffer: no message of that hides a change
pub row_link_gone : hides_at all_windows (sent 1 first) without_link 1 (pos 4) (pos 4) ≡ false
unfolding tree applied_tree behaves_synchronised depth descends_from height
row_link_gone = refl

pub row_child_gone : hides_at all_windows without_link without_child 1 (pos 4) (pos 4) ≡ false
unfolding tree applied_tree behaves_synchronised depth descends_from height
row_child_gone = refl

pub row_made_again : hides_at all_windows without_child made_again 1 (pos 4) (pos 4) ≡ false
unfolding tree applied_tree behaves_synchronised depth descends_from height
row_made_again = refl

pub row_shown_again : hides_at all_windows made_again shown_again 1 (pos 4) (pos 4) ≡ false
unfolding tree applied_tree behaves_synchronised depth descends_from height
row_shown_again = refl

-- taken as one step they would seem to
pub row_shown_again-at_once : hides_at all_windows (sent 1 first) shown_again 1 (pos 4) (pos 4) ≡ true
unfolding tree applied_tree behaves_synchronised depth descends_from height
row_shown_again-at_once = refl

-- at scale 2 the pixel (2, 2) of the buffer is damaged by a rectangle of the buffer, and so nothing is hidden at (1, 1)
pub row_scaled : hides_at all_windows reddened shown_red 1 (pos 1) (pos 1) ≡ false
unfolding tree applied_tree behaves_synchronised depth descends_from height
row_scaled = refl

-- the same rectangle of the surface lies elsewhere
abbrev misplaced : Desktop
misplaced = damage (pos 2) (pos 2) (pos 1) (pos 1) 1 (attach 11 (pos 0) 1 (stores 1 6728 (0 ∷ 0 ∷ 255 ∷ 0 ∷ []) 1 scaled))

pub row_scaled-misplaced : hides_at all_windows misplaced (commit 1 misplaced) 1 (pos 1) (pos 1) ≡ true
unfolding tree applied_tree behaves_synchronised depth descends_from height
row_scaled-misplaced = refl

-- a write to a buffer that is shown spoils it, where it changes a colour
pub row_spoilt : spoils_at two rewritten 2 0 0 ≡ true
unfolding tree applied_tree behaves_synchronised depth descends_from height
row_spoilt = refl

pub row_spoilt-beside : spoils_at two rewritten 2 1 0 ≡ false
unfolding tree applied_tree behaves_synchronised depth descends_from height
row_spoilt-beside = refl

-- the fourth byte of a pixel is no colour of this format, and the same bytes are no change
pub row_unspoilt : spoils_at two (stores 1 3 (7 ∷ []) 2 two) 2 0 0 ≡ false
unfolding tree applied_tree behaves_synchronised depth descends_from height
row_unspoilt = refl

-- a write to a buffer that isn't shown spoils nothing
pub row_unshown : spoils_at two (stores 1 256 (9 ∷ 9 ∷ 9 ∷ 9 ∷ []) 2 two) 2 0 0 ≡ false
unfolding tree applied_tree behaves_synchronised depth descends_from height
row_unshown = refl

-- a buffer 12 of 40 by 40 pixels with alpha, all of them clear; the region 13 of its upper left corner is set as opaque
abbrev feigned : Desktop
feigned =
    commit 1 (asks 1 6 4 (Word 13 ∷ [])
    (asks 1 13 1 (Number (pos 0) ∷ Number (pos 0) ∷ Number (pos 4) ∷ Number (pos 4) ∷ []) (asks 1 3 1 (Word 13 ∷ [])
    (attach 12 (pos 0) 1
    (asks 1 9 0 (Word 12 ∷ Number (pos 0) ∷ Number (pos 40) ∷ Number (pos 40) ∷ Number (pos 160) ∷ Word 0 ∷ []) one)))))

pub row_feigned : feigns_at all_windows feigned 1 (pos 3) (pos 3) ≡ true
unfolding tree applied_tree behaves_synchronised depth descends_from height
row_feigned = refl

pub row_feigned-beside : feigns_at all_windows feigned 1 (pos 4) (pos 3) ≡ false
unfolding tree applied_tree behaves_synchronised depth descends_from height
row_feigned-beside = refl

-- a format without alpha is opaque
pub row_opaque : feigns_at all_windows one 1 (pos 3) (pos 3) ≡ false
unfolding tree applied_tree behaves_synchronised depth descends_from height
row_opaque = refl

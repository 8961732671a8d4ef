-- Worked recordings with buffer scales and with damage in points of buffers, computed on the definitions.
use Rattle.std.proofs.Common.{◌≡◌, ℕ, List, [], ◌∷◌, ◌++◌, Some, None, true, false, refl, map}
use Rattle.std.specs.Prelude.{ℤ, pos, negsuc, codes, replicate}
use Rattle.wl_geom.specs.declared.rect.Rect.{Rect}
use Rattle.wl_wire.specs.Wire.{Word, Number}
use Rattle.spec_desktop.specs.declared.cause.Cause.TheVariants.{Protocol}
use Rattle.wl_surface.specs.Request.{Damage, DamageBuffer}
use Rattle.wl_surface.specs.Trees.{applied_tree, behaves_synchronised, depth, descends_from, height}
use Rattle.spec_desktop.specs.Popups.{geometry_corner_at}
use Rattle.spec_desktop.specs.Windows.{Place, Window, tree}
use Rattle.spec_desktop.specs.Desktop.{Desktop}
use Rattle.spec_desktop.specs.Stacked.{all_windows}
use Rattle.test_definitions.proofs.Counts.{allowed, marked, marks}
use Rattle.test_definitions.proofs.Popups.{popup_on}
use Rattle.test_definitions.proofs.Steps.{asked_more, asks, at, attach, black, buffer_release, color, commit, create_buffer, create_surface, damage, enter, event, motion, prepared, red, sent}
use Rattle.test_definitions.proofs.Steps.{shows_first, start, status, stores, u32, unsent, with_pointer, with_toplevel, with_versions}
use Rattle.test_definitions.proofs.Subsurfaces.{subsurface_on}

-- wl_surface.set_buffer_transform, set_buffer_scale and damage_buffer
abbrev set_transform : ℕ → ℤ → Desktop → Desktop
set_transform surface transform d = asks 1 surface 7 (Number transform ∷ []) d

abbrev set_scale : ℕ → ℤ → Desktop → Desktop
set_scale surface scale d = asks 1 surface 8 (Number scale ∷ []) d

abbrev damage_buffer : ℕ → ℤ → ℤ → ℤ → ℤ → Desktop → Desktop
damage_buffer surface x y w h d = asks 1 surface 9 (Number x ∷ Number y ∷ Number w ∷ Number h ∷ []) d

-- where the windows stand, how wide and how high they are, and their transforms and scales
abbrev records : Desktop → List (Place × ℕ × ℕ × ℕ × ℕ)
records d = map (λ (w : Window). (w.corner, w.width, w.height, w.transform, w.scale)) (all_windows d)

-- ---- a window at scale 2

-- of a client that has bound wl_compositor at version 4
abbrev bound : Desktop
bound = with_versions 4 1 1 start

-- its buffers of 40 by 40 pixels are shown at scale 2 from the next commit on
abbrev ready : Desktop
ready = sent 1 (set_scale 6 (pos 2) (prepared 6400 40 1 bound))

abbrev pub scaled : Desktop
scaled = shows_first 40 1 ready

-- it is half as wide and half as high as its buffer
pub row_scaled : records scaled ≡ (at (pos 0) (pos 0), 20, 20, 0, 2) ∷ []
unfolding tree applied_tree behaves_synchronised
row_scaled = refl

pub row_scaled-unanswered : unsent 1 scaled ≡ []
unfolding tree applied_tree behaves_synchronised
row_scaled-unanswered = refl

pub row_scaled-marks : marked 64 ready scaled ≡ 400
unfolding tree applied_tree behaves_synchronised
row_scaled-marks = refl

pub row_scaled-allowed : allowed 64 ready scaled ≡ 400
unfolding tree applied_tree behaves_synchronised
row_scaled-allowed = refl

-- a scale counts from the next commit on
pub row_pending : records (set_scale 6 (pos 1) scaled) ≡ (at (pos 0) (pos 0), 20, 20, 0, 2) ∷ []
unfolding tree applied_tree behaves_synchronised
row_pending = refl

pub row_unscaled : records (commit 1 6 (set_scale 6 (pos 1) scaled)) ≡ (at (pos 0) (pos 0), 40, 40, 0, 1) ∷ []
unfolding tree applied_tree behaves_synchronised
row_unscaled = refl

-- ---- damage in points of the buffer

-- the point (2, 2) of the second buffer is red
abbrev pub reddened : Desktop
reddened = damage_buffer 6 (pos 2) (pos 2) (pos 1) (pos 1) (attach 1 6 11 (stores 1 6728 (0 ∷ 0 ∷ 255 ∷ 0 ∷ []) 1 scaled))

abbrev pub shown_red : Desktop
shown_red = commit 1 6 reddened

pub row_red : unsent 1 shown_red ≡ buffer_release 10
unfolding tree applied_tree behaves_synchronised
row_red = refl

pub row_red-marks : marked 64 reddened shown_red ≡ 1
unfolding tree applied_tree behaves_synchronised
row_red-marks = refl

pub row_red-allowed : allowed 64 reddened shown_red ≡ 1
unfolding tree applied_tree behaves_synchronised
row_red-allowed = refl

pub row_red-there : marks reddened shown_red 1 1 ≡ true
unfolding tree applied_tree behaves_synchronised
row_red-there = refl

pub row_red-color : color shown_red (pos 1) (pos 1) ≡ red
unfolding tree applied_tree behaves_synchronised
row_red-color = refl

pub row_red-right : color shown_red (pos 2) (pos 1) ≡ black
unfolding tree applied_tree behaves_synchronised
row_red-right = refl

pub row_red-below : color shown_red (pos 1) (pos 2) ≡ black
unfolding tree applied_tree behaves_synchronised
row_red-below = refl

-- of a block of two by two pixels the first is seen, and damage of any marks its point
abbrev reddened_unseen : Desktop
reddened_unseen = damage_buffer 6 (pos 3) (pos 3) (pos 1) (pos 1) (stores 1 492 (0 ∷ 0 ∷ 255 ∷ 0 ∷ []) 1 scaled)

pub row_unseen : color (commit 1 6 reddened_unseen) (pos 1) (pos 1) ≡ black
unfolding tree applied_tree behaves_synchronised
row_unseen = refl

pub row_unseen-there : marks reddened_unseen (commit 1 6 reddened_unseen) 1 1 ≡ true
unfolding tree applied_tree behaves_synchronised
row_unseen-there = refl

-- each block with a damaged pixel is damaged
abbrev damaged : ℤ → ℤ → ℤ → ℤ → Desktop
damaged x y w h = damage_buffer 6 x y w h scaled

pub row_blocks : marked 64 (damaged (pos 1) (pos 1) (pos 2) (pos 2)) (commit 1 6 (damaged (pos 1) (pos 1) (pos 2) (pos 2))) ≡ 4
unfolding tree applied_tree behaves_synchronised
row_blocks = refl

-- before its commit nothing is
pub row_blocks-pending : allowed 64 scaled (damaged (pos 1) (pos 1) (pos 2) (pos 2)) ≡ 0
unfolding tree applied_tree behaves_synchronised
row_blocks-pending = refl

-- what lies outside the buffer damages nothing, and a row of it one of the surface
abbrev line : Desktop
line = damaged (pos 0) (pos 39) (pos 2147483647) (pos 2147483647)

pub row_line : marked 64 line (commit 1 6 line) ≡ 20
unfolding tree applied_tree behaves_synchronised
row_line = refl

pub row_line-last : marks line (commit 1 6 line) 19 19 ≡ true
unfolding tree applied_tree behaves_synchronised
row_line-last = refl

abbrev outside : Desktop
outside = damaged (negsuc 2147483647) (pos 0) (pos 2147483647) (pos 2147483647)

pub row_outside : marked 64 outside (commit 1 6 outside) ≡ 0
unfolding tree applied_tree behaves_synchronised
row_outside = refl

-- damage in points of the surface isn't scaled
abbrev damaged_surface : Desktop
damaged_surface = damage 1 6 (pos 2) (pos 2) (pos 1) (pos 1) scaled

pub row_surface : marked 64 damaged_surface (commit 1 6 damaged_surface) ≡ 1
unfolding tree applied_tree behaves_synchronised
row_surface = refl

pub row_surface-there : marks damaged_surface (commit 1 6 damaged_surface) 2 2 ≡ true
unfolding tree applied_tree behaves_synchronised
row_surface-there = refl

-- ---- turned by a quarter

abbrev turned : Desktop
turned = commit 1 6 (set_transform 6 (pos 1) scaled)

pub row_turned : records turned ≡ (at (pos 0) (pos 0), 20, 20, 1, 2) ∷ []
unfolding tree applied_tree behaves_synchronised
row_turned = refl

pub row_turned-marks : marked 64 (set_transform 6 (pos 1) scaled) turned ≡ 400
unfolding tree applied_tree behaves_synchronised
row_turned-marks = refl

-- the first pixel of the buffer is seen in the upper right corner
abbrev turned_damaged : Desktop
turned_damaged = damage_buffer 6 (pos 0) (pos 0) (pos 1) (pos 1) (stores 1 0 (0 ∷ 0 ∷ 255 ∷ 0 ∷ []) 1 turned)

abbrev turned_red : Desktop
turned_red = commit 1 6 turned_damaged

pub row_turned_red-marks : marked 64 turned_damaged turned_red ≡ 1
unfolding tree applied_tree behaves_synchronised
row_turned_red-marks = refl

pub row_turned_red-there : marks turned_damaged turned_red 19 0 ≡ true
unfolding tree applied_tree behaves_synchronised
row_turned_red-there = refl

pub row_turned_red-color : color turned_red (pos 19) (pos 0) ≡ red
unfolding tree applied_tree behaves_synchronised
row_turned_red-color = refl

-- of a buffer of 12 by 8 pixels the sides are divided and then exchanged
abbrev wide : Desktop
wide =
    attach 1 6 12 (asks 1 9 0 (Word 12 ∷ Number (pos 0) ∷ Number (pos 12) ∷ Number (pos 8) ∷ Number (pos 48) ∷ Word 1 ∷ []) scaled)

pub row_wide : records (commit 1 6 wide) ≡ (at (pos 0) (pos 0), 6, 4, 0, 2) ∷ []
unfolding tree applied_tree behaves_synchronised
row_wide = refl

pub row_wide-turned : records (commit 1 6 (set_transform 6 (pos 3) wide)) ≡ (at (pos 0) (pos 0), 4, 6, 3, 2) ∷ []
unfolding tree applied_tree behaves_synchronised
row_wide-turned = refl

-- ---- both kinds of damage count together: 1,024 rectangles are told apart, and one more damages everything

abbrev dot : Rect
dot = record { x = pos 0; y = pos 0; w = pos 1; h = pos 1 }

-- so many rectangles of the buffer after 512 of the surface
abbrev both : ℕ → Desktop
both n = asked_more (replicate 512 (Damage dot) ++ replicate n (DamageBuffer dot)) 6 scaled

pub row_both : marks (both 512) (commit 1 6 (both 512)) 0 0 ≡ true
unfolding tree applied_tree behaves_synchronised
row_both = refl

pub row_both-beside : marks (both 512) (commit 1 6 (both 512)) 19 19 ≡ false
unfolding tree applied_tree behaves_synchronised
row_both-beside = refl

pub row_both-more : marks (both 513) (commit 1 6 (both 513)) 19 19 ≡ true
unfolding tree applied_tree behaves_synchronised
row_both-more = refl

pub row_both-outside : marks (both 513) (commit 1 6 (both 513)) 20 20 ≡ false
unfolding tree applied_tree behaves_synchronised
row_both-outside = refl

-- ---- what is refused

-- wl_display.error(6, 0, "invalid_scale")
pub row_scale_0 : unsent 1 (set_scale 6 (pos 0) scaled) ≡ event 1 0 36 (u32 6 ++ u32 0 ++ u32 14 ++ codes "invalid_scale" ++ 0 ∷ 0 ∷ 0 ∷ [])
unfolding tree applied_tree behaves_synchronised
row_scale_0 = refl

pub row_scale_0-end : status 1 (set_scale 6 (pos 0) scaled) ≡ Some (Protocol 6 0)
unfolding tree applied_tree behaves_synchronised
row_scale_0-end = refl

pub row_scale_negative : status 1 (set_scale 6 (negsuc 1) scaled) ≡ Some (Protocol 6 0)
unfolding tree applied_tree behaves_synchronised
row_scale_negative = refl

-- 40 is no multiple of 3: wl_display.error(6, 2, "invalid_size") by the commit
abbrev in_thirds : Desktop
in_thirds = set_scale 6 (pos 3) scaled

pub row_in_thirds-pending : status 1 in_thirds ≡ None
unfolding tree applied_tree behaves_synchronised
row_in_thirds-pending = refl

pub row_in_thirds : unsent 1 (commit 1 6 in_thirds) ≡ event 1 0 36 (u32 6 ++ u32 2 ++ u32 13 ++ codes "invalid_size" ++ 0 ∷ 0 ∷ 0 ∷ 0 ∷ [])
unfolding tree applied_tree behaves_synchronised
row_in_thirds = refl

pub row_in_thirds-end : status 1 (commit 1 6 in_thirds) ≡ Some (Protocol 6 2)
unfolding tree applied_tree behaves_synchronised
row_in_thirds-end = refl

-- one side is a multiple of 3 and the other isn't
pub row_wide-in_thirds : status 1 (commit 1 6 (set_scale 6 (pos 3) wide)) ≡ Some (Protocol 6 2)
unfolding tree applied_tree behaves_synchronised
row_wide-in_thirds = refl

-- without a buffer any scale will do
pub row_in_thirds-empty : status 1 (commit 1 14 (set_scale 14 (pos 3) (create_surface 1 14 scaled))) ≡ None
unfolding tree applied_tree behaves_synchronised
row_in_thirds-empty = refl

-- a buffer before a configure was acknowledged is refused first
abbrev unacknowledged : Desktop
unacknowledged =
    set_scale 6 (pos 3) (attach 1 6 10 (create_buffer 1 9 10 0 40 (asks 1 4 0 (Word 9 ∷ Number (pos 6400) ∷ []) (with_toplevel 1 bound))))

pub row_unacknowledged : status 1 (commit 1 6 unacknowledged) ≡ Some (Protocol 7 3)
unfolding tree applied_tree behaves_synchronised
row_unacknowledged = refl

-- of a wl_compositor of version 2 no scale is set, and of one of version 3 no damage of buffers told
abbrev of_version : ℕ → Desktop
of_version version = prepared 6400 40 1 (with_versions version 1 1 start)

-- wl_display.error(1, 1, "invalid_method")
pub row_version_2 : unsent 1 (set_scale 6 (pos 2) (sent 1 (of_version 2))) ≡ event 1 0 36 (u32 1 ++ u32 1 ++ u32 15 ++ codes "invalid_method" ++ 0 ∷ 0 ∷ [])
unfolding tree applied_tree behaves_synchronised
row_version_2 = refl

pub row_version_3 : status 1 (set_scale 6 (pos 2) (of_version 3)) ≡ None
unfolding tree applied_tree behaves_synchronised
row_version_3 = refl

pub row_version_3-damage : status 1 (damage_buffer 6 (pos 0) (pos 0) (pos 1) (pos 1) (of_version 3)) ≡ Some (Protocol 1 1)
unfolding tree applied_tree behaves_synchronised
row_version_3-damage = refl

-- ---- held commits of a subsurface, which shows a buffer of 4 by 4 pixels

abbrev child : Desktop
child = attach 1 14 18 (create_buffer 1 9 18 0 4 (subsurface_on scaled))

abbrev held : Desktop
held = commit 1 14 (set_scale 14 (pos 2) child)

pub row_held : records held ≡ (at (pos 0) (pos 0), 20, 20, 0, 2) ∷ []
unfolding tree applied_tree behaves_synchronised depth descends_from height
row_held = refl

-- its scale counts once its parent is committed
abbrev first : Desktop
first = commit 1 6 held

pub row_first : records first ≡ (at (pos 0) (pos 0), 20, 20, 0, 2) ∷ (at (pos 4) (pos 4), 2, 2, 0, 2) ∷ []
unfolding tree applied_tree behaves_synchronised depth descends_from height
row_first = refl

pub row_first-marks : marked 64 held first ≡ 4
unfolding tree applied_tree behaves_synchronised depth descends_from height
row_first-marks = refl

-- 4 is no multiple of 3: the commit is refused, though it would be held
pub row_held-in_thirds : status 1 (commit 1 14 (set_scale 14 (pos 3) child)) ≡ Some (Protocol 14 2)
unfolding tree applied_tree behaves_synchronised depth descends_from height
row_held-in_thirds = refl

-- damage that is held is read at the scale that is applied in the end, and not at that of its own commit
abbrev rescaled : Desktop
rescaled =
    commit 1 14 (set_scale 14 (pos 2) (commit 1 14 (damage_buffer 14 (pos 2) (pos 2) (pos 1) (pos 1) (set_scale 14 (pos 1) first))))

pub row_rescaled : records (commit 1 6 rescaled) ≡ (at (pos 0) (pos 0), 20, 20, 0, 2) ∷ (at (pos 4) (pos 4), 2, 2, 0, 2) ∷ []
unfolding tree applied_tree behaves_synchronised depth descends_from height
row_rescaled = refl

pub row_rescaled-marks : marked 64 rescaled (commit 1 6 rescaled) ≡ 1
unfolding tree applied_tree behaves_synchronised depth descends_from height
row_rescaled-marks = refl

pub row_rescaled-there : marks rescaled (commit 1 6 rescaled) 5 5 ≡ true
unfolding tree applied_tree behaves_synchronised depth descends_from height
row_rescaled-there = refl

-- and so with the transform
abbrev turned_back : Desktop
turned_back =
    commit 1 14 (set_transform 14 (pos 0)
    (commit 1 14 (damage_buffer 14 (pos 0) (pos 0) (pos 1) (pos 1) (set_transform 14 (pos 1) first))))

pub row_turned_back-marks : marked 64 turned_back (commit 1 6 turned_back) ≡ 1
unfolding tree applied_tree behaves_synchronised depth descends_from height
row_turned_back-marks = refl

pub row_turned_back-there : marks turned_back (commit 1 6 turned_back) 4 4 ≡ true
unfolding tree applied_tree behaves_synchronised depth descends_from height
row_turned_back-there = refl

-- ---- a popup that is dismissed, with its toplevel, is looked at too

abbrev dismissed : Desktop
dismissed = attach 1 14 18 (create_buffer 1 9 18 0 8 (asks 1 8 0 [] (popup_on scaled)))

pub row_dismissed : status 1 (commit 1 14 (set_scale 14 (pos 2) dismissed)) ≡ None
unfolding tree applied_tree behaves_synchronised geometry_corner_at
row_dismissed = refl

pub row_dismissed-in_thirds : status 1 (commit 1 14 (set_scale 14 (pos 3) dismissed)) ≡ Some (Protocol 14 2)
unfolding tree applied_tree behaves_synchronised geometry_corner_at
row_dismissed-in_thirds = refl

-- ---- the pointer is on a window where that is shown

abbrev pointed_at : Desktop
pointed_at = sent 1 (with_pointer 1 scaled)

pub row_entered : unsent 1 (motion 1 (pos 19) (pos 19) pointed_at) ≡ enter 13 2 6 19 19
unfolding tree applied_tree behaves_synchronised
row_entered = refl

pub row_entered-beside : unsent 1 (motion 1 (pos 20) (pos 19) pointed_at) ≡ []
unfolding tree applied_tree behaves_synchronised
row_entered-beside = refl

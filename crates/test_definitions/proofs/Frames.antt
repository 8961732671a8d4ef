-- Worked recordings with releases of buffers and frame callbacks, computed on the definitions.
use Rattle.std.proofs.Common.{◌≡◌, ℕ, [], ◌∷◌, ◌++◌, Some, refl}
use Rattle.std.specs.Prelude.{ℤ, pos, negsuc, codes}
use Rattle.wl_wire.specs.Wire.{Word, Number}
use Rattle.spec_desktop.specs.declared.cause.Cause.TheVariants.{Protocol}
use Rattle.wl_surface.specs.Trees.{applied_tree, behaves_synchronised}
use Rattle.spec_desktop.specs.Windows.{tree}
use Rattle.spec_desktop.specs.Desktop.{Desktop}
use Rattle.test_definitions.proofs.Steps.{asks, at, attach, buffer_release, commit, corners, create_buffer, create_surface, delete_id, done, event, sent, shown, start, status, tick, toplevel_configure, u32}
use Rattle.test_definitions.proofs.Steps.{unsent, with_globals, with_pool, with_toplevel, xdg_configure}

-- one window of 40 by 40 pixels, in the corner
abbrev one : Desktop
one = shown 1 start

-- A buffer that two surfaces have is free when neither has it.
abbrev shared : Desktop
shared = commit 1 6 (attach 1 6 11 (commit 1 14 (attach 1 14 10 (create_surface 1 14 one))))

pub row_shared : unsent 1 shared ≡ []
unfolding tree applied_tree behaves_synchronised
row_shared = refl

pub row_released : unsent 1 (commit 1 14 (attach 1 14 0 shared)) ≡ 10 ∷ 0 ∷ 0 ∷ 0 ∷ 0 ∷ 0 ∷ 8 ∷ 0 ∷ []
unfolding tree applied_tree behaves_synchronised
row_released = refl

-- an attach with an offset moves the window
abbrev moved_by : ℕ → ℤ → Desktop → Desktop
moved_by buffer x d = commit 1 6 (asks 1 6 1 (Word buffer ∷ Number x ∷ Number (pos 0) ∷ []) d)

abbrev moved : Desktop
moved = moved_by 11 (pos 3) one

pub row_moved : unsent 1 moved ≡ buffer_release 10
unfolding tree applied_tree behaves_synchronised
row_moved = refl

pub row_moved-corner : corners moved ≡ at (pos 3) (pos 0) ∷ []
unfolding tree applied_tree behaves_synchronised
row_moved-corner = refl

-- and it is held within the bounds
abbrev far : Desktop
far = moved_by 11 (pos 2147483647) one

pub row_far : unsent 1 far ≡ buffer_release 10
unfolding tree applied_tree behaves_synchronised
row_far = refl

pub row_back : unsent 1 (moved_by 10 (negsuc 16777215) (sent 1 far)) ≡ buffer_release 11
unfolding tree applied_tree behaves_synchronised
row_back = refl

pub row_back-corner : corners (moved_by 10 (negsuc 16777215) far) ≡ at (pos 0) (pos 0) ∷ []
unfolding tree applied_tree behaves_synchronised
row_back-corner = refl

-- a frame callback is answered by the next tick after its commit
abbrev framed : Desktop
framed = asks 1 6 3 (Word 14 ∷ []) one

pub row_framed-pending : unsent 1 (tick 6 framed) ≡ []
unfolding tree applied_tree behaves_synchronised
row_framed-pending = refl

pub row_framed : unsent 1 (commit 1 6 framed) ≡ []
unfolding tree applied_tree behaves_synchronised
row_framed = refl

pub row_framed-tick : unsent 1 (tick 7 (commit 1 6 framed)) ≡ done 14 7 ++ delete_id 14
unfolding tree applied_tree behaves_synchronised
row_framed-tick = refl

-- a null buffer unmaps the surface, and the next commit is a first one again
abbrev unmapped : Desktop
unmapped = commit 1 6 (attach 1 6 0 one)

pub row_unmapped : unsent 1 unmapped ≡ buffer_release 10
unfolding tree applied_tree behaves_synchronised
row_unmapped = refl

pub row_unmapped-windows : corners unmapped ≡ []
unfolding tree applied_tree behaves_synchronised
row_unmapped-windows = refl

pub row_unmapped-configure : unsent 1 (commit 1 6 (sent 1 unmapped)) ≡ toplevel_configure 8 ++ xdg_configure 7 2
unfolding tree applied_tree behaves_synchronised
row_unmapped-configure = refl

-- A buffer before the configure was acknowledged is an error that ends the client, and the other's window stays.
abbrev unacknowledged : Desktop
unacknowledged =
    attach 1 6 10 (create_buffer 1 9 11 6400 40 (create_buffer 1 9 10 0 40 (with_pool 1 (sent 1 (with_toplevel 1 (with_globals 1 (shown 2 start)))))))

pub row_unconfigured : unsent 1 (commit 1 6 unacknowledged) ≡ event 1 0 40 (u32 7 ++ u32 3 ++ u32 20 ++ codes "unconfigured_buffer" ++ 0 ∷ [])
unfolding tree applied_tree behaves_synchronised
row_unconfigured = refl

pub row_unconfigured-end : status 1 (commit 1 6 unacknowledged) ≡ Some (Protocol 7 3)
unfolding tree applied_tree behaves_synchronised
row_unconfigured-end = refl

pub row_unconfigured-windows : corners (commit 1 6 unacknowledged) ≡ at (pos 0) (pos 0) ∷ []
unfolding tree applied_tree behaves_synchronised
row_unconfigured-windows = refl

pub row_unconfigured-other : unsent 2 (commit 1 6 unacknowledged) ≡ []
unfolding tree applied_tree behaves_synchronised
row_unconfigured-other = refl

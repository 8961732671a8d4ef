-- How deep subsurfaces may stand, computed on the definitions.
use Rattle.std.proofs.Common.{◌≡◌, ℕ, zero, suc, ◌+◌, [], ◌∷◌, ◌++◌, Some, None, refl}
use Rattle.std.specs.Prelude.{codes}
use Rattle.wl_wire.specs.Wire.{Word}
use Rattle.spec_desktop.specs.declared.cause.Cause.TheVariants.{Protocol}
use Rattle.wl_surface.specs.Trees.{applied_tree, behaves_synchronised, depth, descends_from, height}
use Rattle.spec_desktop.specs.Windows.{tree}
use Rattle.spec_desktop.specs.Desktop.{Desktop}
use Rattle.test_definitions.proofs.Steps.{asks, bind, create_surface, event, sent, start, status, u32, unsent, with_globals}

-- surfaces from 20 on
abbrev surfaces : ℕ → Desktop → Desktop
surfaces zero d = d
surfaces (suc n) d = create_surface 1 (20 + n) (surfaces n d)

abbrev linked : ℕ → ℕ → ℕ → Desktop → Desktop
linked id child parent d = asks 1 15 1 (Word id ∷ Word child ∷ Word parent ∷ []) d

-- a chain of n subsurfaces below the surface 20
abbrev chain : ℕ → Desktop → Desktop
chain zero d = d
chain (suc n) d = linked (60 + n) (21 + n) (20 + n) (chain n d)

abbrev ready : Desktop
ready = sent 1 (surfaces 19 (bind 1 2 (codes "wl_subcompositor") 1 15 (with_globals 1 start)))

pub row_depth_16 : status 1 (chain 16 ready) ≡ None
unfolding tree applied_tree behaves_synchronised depth descends_from height
row_depth_16 = refl

-- wl_display.error(1, 3, "implementation")
pub row_depth_17 : unsent 1 (chain 17 ready) ≡ event 1 0 36 (u32 1 ++ u32 3 ++ u32 15 ++ codes "implementation" ++ 0 ∷ 0 ∷ [])
unfolding tree applied_tree behaves_synchronised depth descends_from height
row_depth_17 = refl

pub row_depth_17-end : status 1 (chain 17 ready) ≡ Some (Protocol 1 3)
unfolding tree applied_tree behaves_synchronised depth descends_from height
row_depth_17-end = refl

-- where it would push the surface's own children there; and not if they are one level less
pub row_depth-children : status 1 (linked 90 20 38 (linked 91 38 37 (chain 15 ready))) ≡ Some (Protocol 1 3)
unfolding tree applied_tree behaves_synchronised depth descends_from height
row_depth-children = refl

pub row_depth-children-less : status 1 (linked 90 20 38 (chain 15 ready)) ≡ None
unfolding tree applied_tree behaves_synchronised depth descends_from height
row_depth-children-less = refl

-- a parent that descends from the surface is past the limit too
pub row_depth-loop : status 1 (linked 90 20 36 (chain 16 ready)) ≡ Some (Protocol 1 3)
unfolding tree applied_tree behaves_synchronised depth descends_from height
row_depth-loop = refl

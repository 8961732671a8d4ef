-- The windows of the trees of several roots, as they are told (xdg-shell.xml, xdg_popup; wayland.xml, wl_subsurface).
use Rattle.std.specs.Prelude.{List, flat_map}
use Rattle.spec_desktop.specs.Windows.{Owner, Place}
use Rattle.wl_surface.specs.Surfaces.{Surfaces}
use Rattle.wl_scene.specs.TreeWindows.{rooted, told_tree}
use Rattle.wl_scene.specs.declared.tree_window.TreeWindow.{TreeWindow}
use Rattle.wl_scene.specs.declared.roots.RootPlace.{RootPlace}

-- where the root is placed
abbrev pub place_of : RootPlace → Place
place_of r = record { x = r.x; y = r.y }

-- the windows of its tree: subsurfaces stand at most 16 levels below it
abbrev pub told_at : Owner → Surfaces → RootPlace → List TreeWindow
told_at owner all r = told_tree 17 (rooted r.surface owner) all r.surface (place_of r)

-- those of the trees of these roots, tree after tree
abbrev pub told_trees : Owner → Surfaces → List RootPlace → List TreeWindow
told_trees owner all roots = flat_map (told_at owner all) roots

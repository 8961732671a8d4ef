-- Worked examples, computed on the definitions.
use Rattle.std.proofs.Common.{◌≡◌, ℕ, ◌+◌, Bool, List, [], ◌∷◌, Some, None, true, false, map, refl, length}
use Rattle.std.specs.Prelude.{pos}
use Rattle.wl_store.specs.declared.color.Format.TheVariants.{Xrgb8888}
use Rattle.wl_store.specs.declared.transform.Transform.TheVariants.{Normal}
use Rattle.wl_surface.specs.Request.{AddChild, Attach, Buffer, Commit, Request, SetPosition}
use Rattle.wl_surface.specs.Surface.{Surface}
use Rattle.wl_surface.specs.Surfaces.{Surfaces}
use Rattle.spec_desktop.specs.Windows.{Owner, Place, Window, tree}
use Rattle.spec_desktop.specs.Marks.{same_records}
use Rattle.law_desktop.specs.Renaming.{renamed}
use Rattle.wl_scene.specs.Repaint.{same_windows}
use Rattle.wl_scene.specs.TreeWindows.{told_tree}
use Rattle.wl_scene.specs.declared.tree_window.TreeWindow.{TreeWindow}
use Rattle.law_windows.specs.RenamedWindows.{renamed_owner, renamed_window, told_by}

abbrev buffer : Buffer
buffer = record { number = 1; object = 1; store = 1; offset = 0; width = 8; height = 8; stride = 32; format = Xrgb8888 }

-- a surface of which these requests count, all of them
abbrev surface : ℕ → List Request → Surface
surface id requests = record { id = id; history = record { requests = requests; cut = length requests }; role = None }

-- The surface 1 has the child 2 at (4, 5), whose link may have ended.
abbrev tied : Bool → Surfaces
tied has_ended =
    record {
      surfaces =
          surface 1 (Attach (Some buffer) (pos 0) (pos 0) ∷ AddChild 1 ∷ SetPosition 1 (pos 4) (pos 5) ∷ Commit ∷ [])
          ∷ surface 2 (Attach (Some buffer) (pos 0) (pos 0) ∷ Commit ∷ []) ∷ [];
      links = record { number = 1; child = 2; parent = 1; synchronised = true; has_ended = has_ended } ∷ [];
    }

abbrev owner : Owner
owner = record { client = 1; root = 1; toplevel = 1 }

abbrev corner : Place
corner = record { x = pos 20; y = pos 30 }

abbrev ten_more : ℕ → ℕ
ten_more id = id + 10

-- all get one name
abbrev one_name : ℕ → ℕ
one_name id = 7

abbrev at : ℕ → ℕ → ℕ → TreeWindow
at name x y = record { surface = name; root = 11; x = pos x; y = pos y; w = 8; h = 8; transform = Normal; scale = 1 }

-- ---- trees

row-named : told_tree 17 (renamed_owner ten_more owner) (renamed ten_more (tied false)) 11 corner ≡ at 11 20 30 ∷ at 12 24 35 ∷ []
unfolding tree
row-named = refl

row-windows : tree 17 (renamed_owner ten_more owner) (renamed ten_more (tied false)) 11 corner ≡ map (renamed_window ten_more) (tree 17 owner (tied false) 1 corner)
unfolding tree
row-windows = refl

row-ended : told_tree 17 (renamed_owner ten_more owner) (renamed ten_more (tied true)) 11 corner ≡ at 11 20 30 ∷ []
unfolding tree
row-ended = refl

-- where an id that isn't there has the name of a surface that is, it would show that one
row-taken : told_tree 17 (record owner { root = 11 }) (renamed one_name (tied true)) 7 corner ≡ at 7 20 30 ∷ []
unfolding tree
row-taken = refl

row-not-there : map (told_by one_name) (tree 17 owner (tied true) 9 corner) ≡ []
unfolding tree
row-not-there = refl

-- ---- what is the same

abbrev window : ℕ → Window
window id =
    record {
      owner = owner;
      surface = id;
      corner = corner;
      width = 8;
      height = 8;
      transform = 0;
      scale = 1;
      buffer = buffer;
      opaque = [];
      input = None;
    }

-- windows of two surfaces of one name would seem the same
row-records : same_records (window 1 ∷ []) (window 2 ∷ []) ≡ false
row-records = refl

row-one-name : same_windows (map (told_by one_name) (window 1 ∷ [])) (map (told_by one_name) (window 2 ∷ [])) ≡ true
row-one-name = refl

row-apart : same_windows (map (told_by ten_more) (window 1 ∷ [])) (map (told_by ten_more) (window 2 ∷ [])) ≡ false
row-apart = refl

-- What is told of the surfaces of a client by their numbers, each the name of one, is the damage that is applied to the windows of its
-- trees (wayland.xml, wl_surface.damage and wl_subsurface).
use Rattle.std.specs.Prelude.{ℕ, ◌≡◌, true, false, Some, List, []}
use Rattle.std.specs.List.{All}
use Rattle.wl_surface.specs.Tree.{IsCommitTold, IsDesyncTold, IsEndTold, IsTold}
use Rattle.wl_surface.specs.declared.applied.Change.{Change}
use Rattle.wl_surface.specs.Surfaces.{Link, Surfaces, link_at}
use Rattle.wl_surface.specs.Trees.{committed_in, desynchronised_in, destroyed_in, ending, unlinked, with_link}
use Rattle.wl_surface.specs.Hanging.{AreNumbered}
use Rattle.wl_surface.specs.TreeLaws.{AreOnceLinked}
use Rattle.spec_desktop.specs.Windows.{Owner, Place, tree}
use Rattle.spec_desktop.specs.Marks.{Applied}
use Rattle.law_desktop.specs.Soundness.{AreTrees}
use Rattle.law_desktop.specs.Renaming.{IsRenaming, has_surface, renamed}
use Rattle.law_windows.specs.ToldWindows.{IsAppliedTo}
use Rattle.law_windows.specs.RenamedMarks.{IsAppliedByName}

-- The changes tell by name the damage that is applied to the windows of each tree of a client's surfaces as the old ones become the new
-- ones.
abbrev pub TellsTrees : {A : Type 0} → (ℕ → ℕ) → List (Change A) → Surfaces → Surfaces → Type 0
TellsTrees f changes old new =
    (applied : Applied) (owner : Owner) → IsAppliedTo applied owner.client old new → (root : ℕ) (place : Place)
    → All (IsAppliedByName f changes applied) (tree 17 owner new root place)

-- wl_surface.commit of a surface that is there
abbrev pub CommitToldByName : Type 0 → Type 0
CommitToldByName A =
    (f : ℕ → ℕ) (all : Surfaces) (id : ℕ) (changes : List (Change A)) → IsRenaming f all → AreOnceLinked all.links
    → has_surface id all ≡ true → IsCommitTold (f id) (renamed f all) changes → TellsTrees f changes all (committed_in id all)

-- wl_subsurface.set_desync of a link that lives
abbrev pub DesyncToldByName : Type 0 → Type 0
DesyncToldByName A =
    (f : ℕ → ℕ) (all : Surfaces) (number : ℕ) (link : Link) (changes : List (Change A)) → IsRenaming f all → AreOnceLinked all.links
    → link_at number all ≡ Some link → link.has_ended ≡ false → IsDesyncTold number (f link.child) (renamed f all) changes
    → TellsTrees f changes all (desynchronised_in number all)

-- wl_subsurface.destroy of one whose link lives
abbrev pub UnlinkToldByName : Type 0 → Type 0
UnlinkToldByName A =
    (f : ℕ → ℕ) (all : Surfaces) (number : ℕ) (link : Link) (changes : List (Change A)) → IsRenaming f all → AreOnceLinked all.links
    → AreNumbered all.links → link_at number all ≡ Some link → link.has_ended ≡ false
    → IsTold (f link.child) (with_link number ending (renamed f all)) changes → TellsTrees f changes all (unlinked number all)

-- wl_surface.destroy of a surface that is there
abbrev pub EndToldByName : Type 0 → Type 0
EndToldByName A =
    (f : ℕ → ℕ) (all : Surfaces) (id : ℕ) (changes : List (Change A)) → IsRenaming f all → AreTrees all → AreOnceLinked all.links
    → AreNumbered all.links → has_surface id all ≡ true → IsEndTold (f id) (renamed f all) changes
    → TellsTrees f changes all (destroyed_in id all)

-- Where the surfaces stay as they are, there is nothing to tell, as when a toplevel goes (xdg-shell.xml, xdg_toplevel.destroy).
abbrev pub NothingToldByName : Type 0 → Type 0
NothingToldByName A = (f : ℕ → ℕ) (all : Surfaces) (changes : List (Change A)) → changes ≡ [] → TellsTrees f changes all all

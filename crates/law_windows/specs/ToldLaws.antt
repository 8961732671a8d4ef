-- What a call tells of the surfaces that it applies is the damage that is applied to them (wayland.xml, wl_surface.damage and
-- wl_subsurface).
use Rattle.std.specs.Prelude.{ℕ, ◌≡◌, ◌≤◌, ◌==◌, ◌&&◌, Bool, false, Option, Some, None, List}
use Rattle.std.specs.List.{list_any}
use Rattle.wl_surface.specs.Linked.{IsLink}
use Rattle.wl_surface.specs.Tree.{IsCommitTold, IsDesyncTold, IsEndTold, IsTold}
use Rattle.spec_desktop.specs.Moments.{is_applied_by}
use Rattle.wl_surface.specs.State.{History, applied, height_of, is_damaged, width_of}
use Rattle.wl_surface.specs.declared.applied.Change.{Change}
use Rattle.wl_surface.specs.Surfaces.{Link, Surfaces, history_in}
use Rattle.wl_surface.specs.Trees.{committed_in, depth, desynchronised_in, destroyed_in, ended_in, ending, levels, unlinked, with_link}
use Rattle.wl_surface.specs.Hanging.{AreNumbered}
use Rattle.wl_surface.specs.TreeLaws.{AreOnceLinked}

-- The changes tell that this point is damaged of the surface, whose size this is.
abbrev pub is_told_at : {A : Type 0} → List (Change A) → ℕ → ℕ → ℕ → ℕ → ℕ → Bool
is_told_at changes surface width height x y =
    list_any (λ c. (c.surface == surface) && is_damaged width height c.rects.items x y) changes

-- Its size is that of what it shows; of a surface that isn't there nothing counts.
abbrev pub is_told_of : {A : Type 0} → List (Change A) → ℕ → Option History → ℕ → ℕ → Bool
is_told_of changes surface None x y = false
is_told_of changes surface (Some h) x y =
    let v = applied h in
    is_told_at changes surface (width_of v.buffer v.transform v.scale) (height_of v.buffer v.transform v.scale) x y

-- Of each surface the changes tell the very damage that was applied to it as the old surfaces became the new ones.
abbrev pub TellsApplied : {A : Type 0} → List (Change A) → Surfaces → Surfaces → Type 0
TellsApplied changes old new =
    (surface x y : ℕ)
    → is_applied_by (history_in surface old) (history_in surface new) x y ≡ is_told_of changes surface (history_in surface new) x y

-- wl_surface.commit
abbrev pub CommitTellsApplied : Type 0 → Type 0
CommitTellsApplied A =
    (surface : ℕ) (all : Surfaces) (changes : List (Change A)) → AreOnceLinked all.links → IsCommitTold surface all changes
    → TellsApplied changes all (committed_in surface all)

-- wl_subsurface.set_desync
abbrev pub DesyncTellsApplied : Type 0 → Type 0
DesyncTellsApplied A =
    (number child : ℕ) (link : Link) (all : Surfaces) (changes : List (Change A)) → AreOnceLinked all.links
    → IsLink all number child link → IsDesyncTold number child all changes → TellsApplied changes all (desynchronised_in number all)

-- wl_subsurface.destroy: the link ends.
abbrev pub LinkEndTellsApplied : Type 0 → Type 0
LinkEndTellsApplied A =
    (number child : ℕ) (link : Link) (all : Surfaces) (changes : List (Change A)) → AreOnceLinked all.links
    → IsLink all number child link → IsTold child (with_link number ending all) changes → TellsApplied changes all (ended_in all link)

-- The same by the link's number, which no other link has.
abbrev pub UnlinkTellsApplied : Type 0 → Type 0
UnlinkTellsApplied A =
    (number child : ℕ) (link : Link) (all : Surfaces) (changes : List (Change A)) → AreOnceLinked all.links → AreNumbered all.links
    → IsLink all number child link → IsTold child (with_link number ending all) changes → TellsApplied changes all (unlinked number all)

-- No surface stands deeper than 16 below its root (wayland.xml, wl_subcompositor.get_subsurface: more levels are refused).
abbrev pub AreShallow : Surfaces → Type 0
AreShallow all = (surface : ℕ) → depth levels all surface ≤ 16

-- wl_surface.destroy: what descended from the surface is applied. The surface itself is gone, and none of its damage counts.
abbrev pub EndTellsApplied : Type 0 → Type 0
EndTellsApplied A =
    (surface : ℕ) (all : Surfaces) (changes : List (Change A)) → AreOnceLinked all.links → AreNumbered all.links → AreShallow all
    → IsEndTold surface all changes → TellsApplied changes all (destroyed_in surface all)

-- Laws of what each request of the surfaces of a client keeps of the other surfaces, or of all (wayland.xml, wl_surface and wl_subsurface).
use Rattle.std.specs.Prelude.{ℕ, ◌≡◌, Bool, Some, None}
use Rattle.wl_surface.specs.Request.{Request}
use Rattle.wl_surface.specs.Surface.{asking, with_role}
use Rattle.wl_surface.specs.declared.role.Role.{Role}
use Rattle.wl_surface.specs.Surfaces.{Link, Surfaces, history_in, link_at, with_change}
use Rattle.wl_surface.specs.Trees.{committed_in, desynchronised_in, destroyed_in, ended_in, in_mode}
use Rattle.wl_surface.specs.Trees.{linked, unlinked, with_link}
use Rattle.wl_surface.specs.TreeLaws.{AreOnceLinked}
use Rattle.wl_surface.specs.Hanging.{AreNumbered, AreTied}
use Rattle.law_desktop.specs.TreeStepsLaws.{KeepsAll, KeepsOthers}

-- ---- one surface

-- Until it is applied it changes nothing that counts of any, whichever it is (wayland.xml, wl_surface.commit).
abbrev pub RequestKeepsAll : Type 0
RequestKeepsAll = (all : Surfaces) → AreTied all → (id : ℕ) (r : Request) → KeepsAll all (with_change id (asking r) all)

-- A role changes nothing of what was asked of any surface.
abbrev pub RoleKeepsAll : Type 0
RoleKeepsAll =
    (all : Surfaces) (id : ℕ) (role : Role)
    → ((surface : ℕ) → history_in surface (with_change id (with_role role) all) ≡ history_in surface all)
    × KeepsAll all (with_change id (with_role role) all)

-- ---- commits

-- wl_surface.commit keeps the surfaces that don't descend from the one that is committed.
abbrev pub CommitKeepsOthers : Type 0
CommitKeepsOthers = (all : Surfaces) → AreOnceLinked all.links → (id : ℕ) → KeepsOthers id all (committed_in id all)

-- ---- links

-- wl_subcompositor.get_subsurface changes nothing that counts: the child is shown once a commit of its parent is applied.
abbrev pub LinkKeepsAll : Type 0
LinkKeepsAll =
    (all : Surfaces) → AreTied all → (number child parent : ℕ) → link_at number all ≡ None
    → KeepsAll all (linked number child parent all)

-- wl_subsurface.set_sync changes nothing that counts, and neither does the mode of wl_subsurface.set_desync by itself.
abbrev pub ModeKeepsAll : Type 0
ModeKeepsAll = (all : Surfaces) (number : ℕ) (synchronised : Bool) → KeepsAll all (with_link number (in_mode synchronised) all)

-- wl_subsurface.set_desync keeps the surfaces that don't descend from the child of the link.
abbrev pub ModeKeepsOthers : Type 0
ModeKeepsOthers =
    (all : Surfaces) → AreOnceLinked all.links → (number : ℕ) (link : Link) → link_at number all ≡ Some link
    → KeepsOthers link.child all (desynchronised_in number all)

-- wl_subsurface.destroy keeps the surfaces that don't descend from the child of the link.
abbrev pub EndKeepsOthers : Type 0
EndKeepsOthers =
    (all : Surfaces) → AreOnceLinked all.links → AreNumbered all.links → (number : ℕ) (link : Link) → link_at number all ≡ Some link
    → KeepsOthers link.child all (unlinked number all) × KeepsOthers link.child all (ended_in all link)

-- wl_surface.destroy keeps the surfaces that don't descend from the one that is destroyed.
abbrev pub DestructionKeepsOthers : Type 0
DestructionKeepsOthers =
    (all : Surfaces) → AreOnceLinked all.links → AreNumbered all.links → (id : ℕ) → KeepsOthers id all (destroyed_in id all)

-- What is done to surfaces is done to them under other names, and they can be renamed still (wayland.xml, wl_surface, wl_subcompositor and
-- wl_subsurface).
use Rattle.std.specs.Prelude.{ℕ, ◌≡◌, true, false, Some, []}
use Rattle.wl_surface.specs.declared.role.Role.{Role}
use Rattle.wl_surface.specs.Request.{Request}
use Rattle.wl_surface.specs.Surface.{Surface, applying, asking, with_role}
use Rattle.wl_surface.specs.Surfaces.{Link, Surfaces, link_at, with_change, with_new, without_surface}
use Rattle.wl_surface.specs.Trees.{applied_tree, committed_in, desynchronised_in, destroyed_in, linked, links_with, synchronised_in}
use Rattle.wl_surface.specs.Trees.{unlinked}
use Rattle.law_desktop.specs.Renaming.{IsRenamedAs, IsRenaming, has_surface, renamed, renamed_surface}

-- ---- one surface

-- It changes something of a surface, but not its id, and goes by no id.
abbrev pub HeedsNoName : (ℕ → ℕ) → (Surface → Surface) → Type 0
HeedsNoName f change = (s : Surface) → ((change s).id ≡ s.id) × (renamed_surface f (change s) ≡ change (renamed_surface f s))

-- Such a change of a surface that is there
abbrev pub ChangesSurface : Type 0
ChangesSurface =
    (f : ℕ → ℕ) (all : Surfaces) → IsRenaming f all → (id : ℕ) (change : Surface → Surface) → HeedsNoName f change
    → has_surface id all ≡ true → IsRenamedAs f (with_change id change all) (with_change (f id) change (renamed f all))

-- Such changes are to ask a request of it, to apply it, and to give it a role.
abbrev pub HeedNoNames : Type 0
HeedNoNames =
    (f : ℕ → ℕ) (request : Request) (role : Role)
    → HeedsNoName f (asking request) × HeedsNoName f applying × HeedsNoName f (with_role role)

-- ---- trees

-- To apply a surface that is there with its children
abbrev pub AppliesTree : Type 0
AppliesTree =
    (f : ℕ → ℕ) (all : Surfaces) → IsRenaming f all → (n id : ℕ) → has_surface id all ≡ true
    → IsRenamedAs f (applied_tree n id all) (applied_tree n (f id) (renamed f all))

-- wl_surface.commit of a surface that is there
abbrev pub CommitsSurface : Type 0
CommitsSurface =
    (f : ℕ → ℕ) (all : Surfaces) → IsRenaming f all → (id : ℕ) → has_surface id all ≡ true
    → IsRenamedAs f (committed_in id all) (committed_in (f id) (renamed f all))

-- ---- links

-- wl_subcompositor.get_subsurface of a child and a parent that are there
abbrev pub LinksSurfaces : Type 0
LinksSurfaces =
    (f : ℕ → ℕ) (all : Surfaces) → IsRenaming f all → (number child parent : ℕ) → has_surface child all ≡ true
    → has_surface parent all ≡ true → IsRenamedAs f (linked number child parent all) (linked number (f child) (f parent) (renamed f all))

-- wl_subsurface.set_sync
abbrev pub Synchronises : Type 0
Synchronises =
    (f : ℕ → ℕ) (all : Surfaces) → IsRenaming f all → (number : ℕ)
    → IsRenamedAs f (synchronised_in number all) (synchronised_in number (renamed f all))

-- wl_subsurface.set_desync, of a link that hasn't ended
abbrev pub Desynchronises : Type 0
Desynchronises =
    (f : ℕ → ℕ) (all : Surfaces) → IsRenaming f all → (number : ℕ)
    → ((l : Link) → link_at number all ≡ Some l → l.has_ended ≡ false)
    → IsRenamedAs f (desynchronised_in number all) (desynchronised_in number (renamed f all))

-- wl_subsurface.destroy
abbrev pub Unlinks : Type 0
Unlinks =
    (f : ℕ → ℕ) (all : Surfaces) → IsRenaming f all → (number : ℕ)
    → IsRenamedAs f (unlinked number all) (unlinked number (renamed f all))

-- ---- surfaces come and go

-- wl_compositor.create_surface, where the new name is that of no other surface
abbrev pub CreatesSurface : Type 0
CreatesSurface =
    (f : ℕ → ℕ) (all : Surfaces) → IsRenaming f all → (id : ℕ) → ((a : ℕ) → has_surface a all ≡ true → f a ≡ f id → a ≡ id)
    → IsRenamedAs f (with_new id all) (with_new (f id) (renamed f all))

-- A surface that is there goes, and if none of its links lives, the others can be renamed still.
abbrev pub RemovesSurface : Type 0
RemovesSurface =
    (f : ℕ → ℕ) (all : Surfaces) → IsRenaming f all → (id : ℕ) → has_surface id all ≡ true
    → (renamed f (without_surface id all) ≡ without_surface (f id) (renamed f all))
    × (links_with id all ≡ [] → IsRenaming f (without_surface id all))

-- wl_surface.destroy of a surface that is there
abbrev pub DestroysSurface : Type 0
DestroysSurface =
    (f : ℕ → ℕ) (all : Surfaces) → IsRenaming f all → (id : ℕ) → has_surface id all ≡ true
    → IsRenamedAs f (destroyed_in id all) (destroyed_in (f id) (renamed f all))

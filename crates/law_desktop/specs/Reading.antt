-- What is read of surfaces under their numbers is so of them by their ids (wayland.xml, wl_surface, wl_subcompositor and wl_subsurface).
use Rattle.std.specs.Prelude.{ℕ, ◌≡◌, ◌≢◌, ◌==◌, ◌&&◌, not, Bool, true, cond, Some, None, List, All, count_by, map}
use Rattle.std.specs.Option.{option_map}
use Rattle.wl_links.specs.declared.placed.Member.{Member}
use Rattle.wl_links.specs.declared.placed.Member.TheVariants.{Itself, Child}
use Rattle.wl_links.specs.declared.placed.Placed.{Placed}
use Rattle.wl_links.specs.Stacks.{Stacks}
use Rattle.wl_links.specs.declared.link.Link.{Link as Kept}
use Rattle.wl_links.specs.Family.{Tied, is_bad_sibling, links_in, stacks_in}
use Rattle.wl_surface.specs.Surface.{Surface}
use Rattle.wl_surface.specs.Applied.{AreFreed}
use Rattle.wl_surface.specs.Slots.{IsAny, Slots, content_at, had_at, has_at, pending_at, role_at, shows_at}
use Rattle.wl_surface.specs.Surfaces.{Link, Surfaces, history_in, is_busy, is_used, surface_at}
use Rattle.wl_surface.specs.Trees.{link_of}
use Rattle.wl_surface.specs.Waiting.{applied_at, frames_at, held_at}
use Rattle.wl_surface.specs.Hanging.{kids_of, stacks_at}
use Rattle.wl_surface.specs.TreeLaws.{links_of}
use Rattle.wl_surface.specs.Linked.{IsLink, link_refusal, numbered}
use Rattle.law_desktop.specs.Renaming.{IsRenaming, has_surface, renamed, renamed_surface}
use Rattle.law_desktop.specs.Named.{StandBy}

-- ---- one surface

-- Under its number is read of a surface what is so of it by its id.
pub record IsReadBy (names : ℕ → ℕ) (all : Surfaces) (id : ℕ) : Type 0 where
  pub surface : numbered (renamed names all) (names id) ≡ option_map (renamed_surface names) (surface_at id all)
  pub role : role_at (numbered (renamed names all) (names id)) ≡ role_at (surface_at id all)
  pub pending : pending_at (numbered (renamed names all) (names id)) ≡ pending_at (surface_at id all)
  pub had : had_at (numbered (renamed names all) (names id)) ≡ had_at (surface_at id all)
  pub content : content_at (numbered (renamed names all) (names id)) ≡ content_at (surface_at id all)
  pub shows : (buffer : ℕ) → shows_at buffer (numbered (renamed names all) (names id)) ≡ shows_at buffer (surface_at id all)
  pub has : (buffer : ℕ) → has_at buffer (numbered (renamed names all) (names id)) ≡ has_at buffer (surface_at id all)
  pub frames : frames_at (numbered (renamed names all) (names id)) ≡ frames_at (surface_at id all)
  pub held : held_at (numbered (renamed names all) (names id)) ≡ held_at (surface_at id all)
  pub applied : applied_at (numbered (renamed names all) (names id)) ≡ applied_at (surface_at id all)

-- each surface that is there
abbrev pub ReadsNamed : Type 0
ReadsNamed = (names : ℕ → ℕ) (all : Surfaces) → IsRenaming names all → (id : ℕ) → has_surface id all ≡ true → IsReadBy names all id

-- Under a number is a surface that is there by its id, or none.
abbrev pub NumbersNamed : Type 0
NumbersNamed =
    (names : ℕ → ℕ) (all : Surfaces) → IsRenaming names all → (number : ℕ)
    → ((s : Surface) → numbered (renamed names all) number ≡ Some s → (id : ℕ) × (has_surface id all ≡ true) × (names id ≡ number))
    × (((id : ℕ) → has_surface id all ≡ true → names id ≢ number) → numbered (renamed names all) number ≡ None)

-- Other names that give the surfaces which are there the same numbers show the same under each number.
abbrev pub ShowsNamed : Type 0
ShowsNamed =
    (names others : ℕ → ℕ) (all : Surfaces) → IsRenaming names all → ((id : ℕ) → has_surface id all ≡ true → others id ≡ names id)
    → numbered (renamed others all) ≡ numbered (renamed names all)

-- ---- buffers

-- Whatever the surfaces are called, the same buffers are busy, and the same are used.
abbrev pub BuffersNamed : Type 0
BuffersNamed =
    (names : ℕ → ℕ) (all : Surfaces) (buffer : ℕ)
    → (is_busy buffer (renamed names all) ≡ is_busy buffer all) × (is_used buffer (renamed names all) ≡ is_used buffer all)

-- each surface is the one that is found by its id
abbrev pub AreFound : Surfaces → Type 0
AreFound all = All (λ s. surface_at s.id all ≡ Some s) all.surfaces

-- A buffer is busy, or used, where it is that of a surface under some number.
abbrev pub HoldsNamed : Type 0
HoldsNamed =
    (names : ℕ → ℕ) (all : Surfaces) → IsRenaming names all → AreFound all → (buffer : ℕ) (is : Bool)
    → (IsAny (shows_at buffer) (numbered (renamed names all)) is → is_busy buffer all ≡ is)
    × (IsAny (has_at buffer) (numbered (renamed names all)) is → is_used buffer all ≡ is)

-- Freed are the buffers that were busy and aren't any more, each once.
abbrev pub FreesNamed : Type 0
FreesNamed =
    (names : ℕ → ℕ) (all after : Surfaces) (freed : List ℕ) → IsRenaming names all → IsRenaming names after → AreFound all → AreFound after
    → AreFreed freed (numbered (renamed names all)) (numbered (renamed names after)) → (buffer : ℕ)
    → count_by (λ n. n == buffer) freed ≡ cond (is_busy buffer all && not (is_busy buffer after)) 1 0

-- ---- links

-- what is kept of a link, its parent under its number
abbrev pub kept_by : (ℕ → ℕ) → Link → Kept
kept_by names l = record { parent = names l.parent; is_synchronised = l.synchronised }

-- The link that is kept of a child is the one that lives.
abbrev pub TiesNamed : Type 0
TiesNamed =
    (names : ℕ → ℕ) (slots : Slots) (tied : Tied) (all : Surfaces) (id : ℕ) → has_surface id all ≡ true → StandBy names slots tied all
    → links_in tied (names id) ≡ option_map (kept_by names) (link_of id all)

-- The link of a child that lives is found by its number too.
abbrev pub FindsNamed : Type 0
FindsNamed =
    (names : ℕ → ℕ) (slots : Slots) (tied : Tied) (all : Surfaces) (id : ℕ) (link : Link) → StandBy names slots tied all
    → link_of id all ≡ Some link → IsLink all link.number id link × (kids_of all link.number ≡ Some id)

-- The same siblings are refused (wl_subsurface.place_above and place_below).
abbrev pub SiblingsNamed : Type 0
SiblingsNamed =
    (names : ℕ → ℕ) (slots : Slots) (tied : Tied) (all : Surfaces) (child sibling : ℕ) → has_surface child all ≡ true
    → has_surface sibling all ≡ true → StandBy names slots tied all
    → is_bad_sibling (names child) (names sibling) (links_in tied) ≡ is_bad_sibling child sibling (links_of all)

-- For the same reason a child is refused (wl_subcompositor.get_subsurface).
abbrev pub RefusesNamed : Type 0
RefusesNamed =
    (names : ℕ → ℕ) (all : Surfaces) → IsRenaming names all → (child parent : ℕ) → has_surface child all ≡ true
    → has_surface parent all ≡ true → link_refusal (renamed names all) (names child) (names parent) ≡ link_refusal all child parent

-- ---- stacks

-- who stands in a stack, under its number
abbrev pub member_by : (ℕ → ℕ) → Member → Member
member_by names Itself = Itself
member_by names (Child child) = Child (names child)

abbrev pub stack_by : (ℕ → ℕ) → List Placed → List Placed
stack_by names stack = map (λ (p : Placed). record p { member = member_by names p.member }) stack

abbrev pub stacks_by : (ℕ → ℕ) → Stacks → Stacks
stacks_by names s =
    record { pending = stack_by names s.pending; held = stack_by names s.held; applied = stack_by names s.applied }

-- The stacks that are kept of a surface are those that its requests make, each child under its number.
abbrev pub StacksNamed : Type 0
StacksNamed =
    (names : ℕ → ℕ) (slots : Slots) (tied : Tied) (all : Surfaces) (id : ℕ) → has_surface id all ≡ true → StandBy names slots tied all
    → stacks_in tied (names id) ≡ stacks_by names (stacks_at (kids_of all) (history_in id all))

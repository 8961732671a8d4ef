-- What is applied of a tree of surfaces, and what is told of it (wayland.xml, wl_subsurface).
use Rattle.std.specs.Prelude.{ℕ, ◌≡◌, ◌==◌, ◌&&◌, ◌||◌, not, Bool, true, false, if◌then◌else◌, Option, Some, None, List, [], ◌∷◌, ◌++◌, map}
use Rattle.std.specs.List.{Contains, list_any}
use Rattle.std.specs.Option.{option_map}
use Rattle.wl_links.specs.Family.{applied}
use Rattle.wl_links.specs.Stacks.{Stacks}
use Rattle.wl_surface.specs.declared.applied.Change.{Change}
use Rattle.wl_surface.specs.Applied.{AreApplied, AreGone}
use Rattle.wl_surface.specs.Slots.{Numbered, shows_at}
use Rattle.wl_surface.specs.Surfaces.{Surfaces, surface_at, with_change, without_surface}
use Rattle.wl_surface.specs.Trees.{behaves_synchronised, descends_from, in_mode, levels, with_link}
use Rattle.wl_surface.specs.Request.{Buffer, Commit}
use Rattle.wl_surface.specs.State.{applied as applied_of, held as held_of}
use Rattle.wl_surface.specs.Surface.{Surface, applying, asking}
use Rattle.wl_surface.specs.Linked.{numbered}

abbrev pub is_among : List ℕ → ℕ → Bool
is_among numbers number = list_any (λ n. n == number) numbers

-- no number is there twice
abbrev pub AreOnce : List ℕ → Type 0
AreOnce [] = Unit {0}
AreOnce (n ∷ ns) = (is_among ns n ≡ false) × AreOnce ns

-- the surfaces, with these applied
abbrev pub applied_among : List ℕ → Numbered → Numbered
applied_among numbers all number = if is_among numbers number then option_map applying (all number) else all number

-- the stacks, with those of these surfaces applied
abbrev pub stacks_among : List ℕ → (ℕ → Stacks) → ℕ → Stacks
stacks_among numbers stacks number = if is_among numbers number then applied (stacks number) else stacks number

-- one of these surfaces shows the buffer
abbrev pub shown_among : List ℕ → Numbered → ℕ → Bool
shown_among numbers all buffer = list_any (λ n. shows_at buffer (all n)) numbers

abbrev pub numbers_of : List Buffer → List ℕ
numbers_of buffers = map (λ (b : Buffer). b.number) buffers

abbrev pub listed : {X : Type 0} → Option X → List X
listed None = []
listed (Some x) = x ∷ []

-- the buffers that a surface has applied and held
abbrev pub shown_at : Option Surface → List Buffer
shown_at None = []
shown_at (Some s) = listed (applied_of s.history).buffer ++ listed (held_of s.history).buffer

-- the buffers that these surfaces have applied and held, one after another
abbrev pub shown_by : List ℕ → Numbered → List Buffer
shown_by [] all = []
shown_by (n ∷ ns) all = shown_at (all n) ++ shown_by ns all

-- each of the numbers is that of one of the buffers
abbrev pub AreAmong : List ℕ → List Buffer → Type 0
AreAmong numbers buffers = (number : ℕ) → is_among numbers number ≡ true → is_among (numbers_of buffers) number ≡ true

-- The buffers that surfaces of a kind show. Each buffer that one of them shows is among these. Each
-- of these is as one of them shows it.
pub record AreShown (is_such : ℕ → Bool) (all : Surfaces) (buffers : List Buffer) : Type 0 where
  pub each : (number buffer : ℕ) → is_such number ≡ true → shows_at buffer (surface_at number all) ≡ true
      → is_among (numbers_of buffers) buffer ≡ true
  pub those : (buffer : Buffer) → Contains buffers buffer
      → (number : ℕ) × (is_such number ≡ true) × Contains (shown_at (surface_at number all)) buffer

-- Of each of these surfaces in turn it is told what applying it changes.
abbrev pub AreTold : {A : Type 0} → List ℕ → Numbered → List (Change A) → Type 0
AreTold [] all changes = changes ≡ []
AreTold {A} (n ∷ ns) all changes =
    (one : Option (Change A)) × (others : List (Change A)) × AreApplied n (all n) one × AreTold ns all others
    × (changes ≡ listed one ++ others)

-- The same is told behind what was told before.
abbrev pub AreToldAfter : {A : Type 0} → List (Change A) → List ℕ → Numbered → List (Change A) → Type 0
AreToldAfter {A} before numbers all changes = (told : List (Change A)) × (changes ≡ before ++ told) × AreTold numbers all told

-- The surface and all that descend from it are applied, each once. Of each it is told what that
-- changes.
pub record IsTold {A : Type 0} (surface : ℕ) (all : Surfaces) (changes : List (Change A)) : Type 0 where
  pub numbers : List ℕ
  pub once : AreOnce numbers
  pub those : (number : ℕ) → is_among numbers number ≡ descends_from 16 all surface number
  pub told : AreTold numbers (numbered all) changes

-- nothing is told where the flag is set, as for a commit that is held
abbrev pub IsToldUnless : {A : Type 0} → Bool → ℕ → Surfaces → List (Change A) → Type 0
IsToldUnless true surface all changes = changes ≡ []
IsToldUnless false surface all changes = IsTold surface all changes

-- wl_surface.commit tells of the surface and its tree, unless it is held.
abbrev pub IsCommitTold : {A : Type 0} → ℕ → Surfaces → List (Change A) → Type 0
IsCommitTold surface all changes =
    IsToldUnless (behaves_synchronised levels all surface) surface (with_change surface (asking Commit) all) changes

-- the surfaces whose shown buffers a commit may change: those that it applies, or the surface alone
-- where it is held
abbrev pub is_committed : ℕ → Surfaces → ℕ → Bool
is_committed surface all number =
    if behaves_synchronised levels all surface then number == surface else descends_from 16 all surface number

-- wl_subsurface.set_desync tells something if the child behaved synchronised and doesn't any more.
abbrev pub IsDesyncTold : {A : Type 0} → ℕ → ℕ → Surfaces → List (Change A) → Type 0
IsDesyncTold number child all changes =
    IsToldUnless (not (behaves_synchronised levels all child) || behaves_synchronised levels (unheld number all) child) child
    (unheld number all) changes
  where
    unheld : ℕ → Surfaces → Surfaces
    unheld number all = with_link number (in_mode false) all

-- the surfaces that set_desync applies: the child with all that descend from it, or none
abbrev pub is_released : ℕ → ℕ → Surfaces → ℕ → Bool
is_released number child all other =
    behaves_synchronised levels all child
    && (not (behaves_synchronised levels (with_link number (in_mode false) all) child) && descends_from 16 all child other)

-- wl_surface.destroy tells of the surface, if it showed a buffer, and of those that descended from
-- it, which are applied.
pub record IsEndTold {A : Type 0} (surface : ℕ) (all : Surfaces) (changes : List (Change A)) : Type 0 where
  pub own : List (Change A)
  pub others : List (Change A)
  pub gone : AreGone surface (surface_at surface all) own
  pub numbers : List ℕ
  pub once : AreOnce numbers
  pub those : (number : ℕ) → is_among numbers number ≡ descends_from 16 all surface number
  pub told : AreTold numbers (numbered (without_surface surface all)) others
  pub together : changes ≡ own ++ others

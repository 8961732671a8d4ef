-- What is kept of the surfaces of a client, and when it stands for what was asked.
use Rattle.std.specs.Prelude.{ℕ, ℤ, pos, int_le, ◌&&◌, ◌≡◌, ◌==◌, Bool, true, false, cond, Option, Some, None, List, []}
use Rattle.std.specs.Prelude.{◌∷◌, count_by, is_some, slice_index_or}
use Rattle.slab.specs.Slab.{entries_from}
use Rattle.std.specs.List.{list_any}
use Rattle.std.specs.Option.{option_map}
use Rattle.wl_geom.specs.Region.{Area, Change, Stands as Covers}
use Rattle.wl_surface.specs.declared.frames.Waiting.{Waiting}
use Rattle.wl_surface.specs.Kept.{IsCurrent, Kept, StandsFor}
use Rattle.wl_surface.specs.Request.{Buffer}
use Rattle.wl_surface.specs.declared.role.Role.{Role}
use Rattle.wl_surface.specs.declared.state.Current.{Current}
use Rattle.wl_surface.specs.Surface.{Surface, has, has_content, shows}
use Rattle.wl_surface.specs.State.{applied, held, is_whole, pending}

-- Surfaces by numbers: there is one, or there is none.
abbrev pub Numbered : Type 0
Numbered = ℕ → Option Surface

abbrev pub nobody : Numbered
nobody number = None

-- the surfaces, with this one, or none, under the number
abbrev pub with_at : ℕ → Option Surface → Numbered → Numbered
with_at number surface all other = cond (other == number) surface (all other)

-- the surfaces, with the one of this number changed
abbrev pub changed_at : ℕ → (Surface → Surface) → Numbered → Numbered
changed_at number change all other = cond (other == number) (option_map change (all other)) (all other)

-- What is kept of the surfaces, by numbers from 0 on, and the frame requests that wait, in their
-- order (wayland.xml, wl_surface.frame).
pub record Slots : Type 0 where
  pub places : List (Option Kept)
  pub frames : List Waiting

-- nothing is kept
abbrev pub no_slots : Slots
no_slots = record { places = []; frames = [] }

abbrev pub place_at : List (Option Kept) → ℕ → Option Kept
place_at places number = slice_index_or places number None

abbrev pub kept_at : Slots → ℕ → Option Kept
kept_at slots number = place_at slots.places number

-- how many surfaces are kept
abbrev pub count : Slots → ℕ
count slots = count_by is_some slots.places

abbrev pub one_if_kept : Option Kept → ℕ
one_if_kept slot = cond (is_some slot) 1 0

abbrev pub StandsAt : Option Kept → Option Surface → Type 0
StandsAt None None = Unit {0}
StandsAt (Some k) (Some s) = StandsFor k s
StandsAt None (Some s) = ⊥
StandsAt (Some k) None = ⊥

-- what is kept under each number stands for its surface
abbrev pub StandForAll : Slots → Numbered → Type 0
StandForAll slots all = (number : ℕ) → StandsAt (kept_at slots number) (all number)

-- One surface changes from what is kept before to what is kept after. No other does, and none comes
-- or goes.
pub record Changes (old new : Slots) (number : ℕ) (change : Surface → Surface) : Type 0 where
  pub stand : (all : Numbered) → StandForAll old all → StandForAll new (changed_at number change all)
  pub count : count new ≡ count old

-- A copy of the region that was asked is set, or none.
abbrev pub IsCopied : Option Area → Option (List Change) → Type 0
IsCopied region None = region ≡ None
IsCopied None (Some changes) = ⊥
IsCopied (Some area) (Some changes) = Covers area changes

-- the number is one of the eight transforms, 0 to 7 (wayland.xml, wl_output.transform)
abbrev pub is_transform : ℤ → Bool
is_transform z = int_le (pos 0) z && int_le z (pos 7)

-- the buffer scale is positive (wayland.xml, wl_surface.set_buffer_scale)
abbrev pub is_scale : ℤ → Bool
is_scale z = int_le (pos 1) z

-- the role of a surface, if it is there and has one
abbrev pub role_at : Option Surface → Option Role
role_at None = None
role_at (Some s) = s.role

abbrev pub pending_at : Option Surface → Option Buffer
pending_at None = None
pending_at (Some s) = (pending s.history).buffer

-- the sides of the pending buffer are multiples of the pending scale (wayland.xml,
-- wl_surface.error, invalid_size)
abbrev pub is_whole_at : Option Surface → Bool
is_whole_at None = true
is_whole_at (Some s) = is_whole (pending s.history).buffer (pending s.history).scale

abbrev pub had_at : Option Surface → List (Option Buffer)
had_at None = None ∷ None ∷ None ∷ []
had_at (Some s) = (pending s.history).buffer ∷ (held s.history).buffer ∷ (applied s.history).buffer ∷ []

abbrev pub content_at : Option Surface → Bool
content_at None = false
content_at (Some s) = has_content s.history

-- the surface is there and shows the buffer
abbrev pub shows_at : ℕ → Option Surface → Bool
shows_at buffer None = false
shows_at buffer (Some s) = shows buffer s.history

abbrev pub has_at : ℕ → Option Surface → Bool
has_at buffer None = false
has_at buffer (Some s) = has buffer s.history

-- The input region that was set last is applied, if the surface is there.
abbrev pub HasInputApplied : Option Surface → Type 0
HasInputApplied None = Unit {0}
HasInputApplied (Some s) =
    ((pending s.history).input ≡ (applied s.history).input) × ((held s.history).input ≡ (applied s.history).input)

-- something is kept that has the property
abbrev pub any_kept : (Kept → Bool) → Slots → Bool
any_kept property slots = list_any (λ e. property e.1) (entries_from 0 slots.places)

-- The answer is whether some surface has the property.
abbrev pub IsAny : (Option Surface → Bool) → Numbered → Bool → Type 0
IsAny property all true = (number : ℕ) × (property (all number) ≡ true)
IsAny property all false = (number : ℕ) → property (all number) ≡ false

-- What is told is what counts of the surface; nothing is told without one.
abbrev pub IsCurrentAt : {A : Type 0} → Option (Current A) → Option Surface → Type 0
IsCurrentAt None None = Unit {0}
IsCurrentAt (Some c) (Some s) = IsCurrent c s.history
IsCurrentAt None (Some s) = ⊥
IsCurrentAt (Some c) None = ⊥

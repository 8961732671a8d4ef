-- The objects of a client: a finite map from ids, seen as the list of its entries with their ids, which rise.
use Rattle.std.specs.Prelude.{◌≡◌, ◌≢◌, ◌<◌, ℕ, Bool, ◌&&◌, not, nat_le, if◌then◌else◌, is_some, Option, Some, None, List, length}
use Rattle.std.specs.Ordering.{nat_cmp, is_eq}
use Rattle.std.specs.Map.{lookup}
use Rattle.wl_proto.specs.declared.interface.Interface.{Interface}
use Rattle.wl_table.specs.declared.entry.Entry.{Entry}
use Rattle.wl_table.specs.declared.entry.TableError.{TableError}
use Rattle.wl_table.specs.declared.entry.TableError.TheVariants.{BadId, InUse, TooMany}

abbrev pub Held : Type 0
Held = List (ℕ × Entry)

-- what is held under an id
abbrev pub entry_of : Held → ℕ → Option Entry
entry_of held id = lookup (λ key. is_eq (nat_cmp id key)) held

-- the ids that a client may give to its objects
abbrev pub is_client_id : ℕ → Bool
is_client_id id = nat_le 1 id && nat_le id 0xfeffffff

-- why an id can't be given to a new object; the first of these
abbrev pub refusal : Held → ℕ → Option TableError
refusal held id =
    if not (is_client_id id)
    then Some BadId
    else (if is_some (entry_of held id) then Some InUse else (if nat_le 8192 (length held) then Some TooMany else None))

abbrev pub with_target : ℕ → Entry → Entry
with_target target entry = record entry { target = target }

-- new holds this under the id, and under every other id what old holds
pub record HoldsAt (old new : Held) (id : ℕ) (entry : Option Entry) : Type 0 where
  pub here : entry_of new id ≡ entry
  pub others : (other : ℕ) → other ≢ id → entry_of new other ≡ entry_of old other

-- an object is there, of this interface, and stands for this place among those of its interface
abbrev pub StandsFor : Option Entry → Interface → ℕ → Type 0
StandsFor None interface target = ⊥
StandsFor (Some entry) interface target = (entry.interface ≡ interface) × (entry.target ≡ target)

-- the least id whose object stands so for it; none where there is no such object
abbrev pub Finds : Held → Interface → ℕ → Option ℕ → Type 0
Finds held interface target None = (id : ℕ) → ¬ StandsFor (entry_of held id) interface target
Finds held interface target (Some id) =
    StandsFor (entry_of held id) interface target × ((other : ℕ) → other < id → ¬ StandsFor (entry_of held other) interface target)

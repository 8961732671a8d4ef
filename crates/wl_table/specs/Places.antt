-- How a table keeps its objects: those of the ids from 1 each at a place of a row, and the others in a map.
use Rattle.std.specs.Prelude.{◌≡◌, ℕ, suc, ◌≤◌, Option, Some, None, List, [], ◌∷◌, ◌++◌, length}
use Rattle.std.specs.BTreeMap.{BTreeMap}
use Rattle.wl_table.specs.declared.entry.Entry.{Entry}
use Rattle.wl_table.specs.Objects.{Held, entry_of}

-- what stands at places, the first of which is that of this id
abbrev pub placed : ℕ → List (Option Entry) → Held
placed id [] = []
placed id (None ∷ places) = placed (suc id) places
placed id (Some entry ∷ places) = (id, entry) ∷ placed (suc id) places

-- a row with the places of the ids from 1, the objects of other ids, and how many objects there are
pub record IsTable (row : List (Option Entry)) (others : BTreeMap ℕ Entry) (count : ℕ) : Type 0 where
  pub counted : count ≡ length (placed 1 row ++ others.entries)
  pub few : count ≤ 8192
  pub short : length row ≤ 8192
  pub apart : (id : ℕ) → id ≤ 8192 → entry_of others.entries id ≡ None

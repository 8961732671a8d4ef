-- A client's stores: byte lists with uses, by their numbers.
use Rattle.std.specs.Prelude.{ℕ, ◌≡◌, ◌+◌, ◌-◌, ◌≤◌, ◌<◌, ◌∷◌, ◌++◌, [], ℤ, pos, ◌+ℤ◌, ◌-ℤ◌, int_le, int_lt, nat_lt, nat_le, ◌==◌, Bool}
use Rattle.std.specs.Prelude.{false, ◌||◌, not, cond, List, length, slice_get, slice_index_or, take, drop, replicate, map, filter, find}
use Rattle.std.specs.Prelude.{sum_by, Option, Some, None}
use Rattle.std.specs.Option.{option_map, option_and_then, option_map_or}
use Rattle.wl_store.specs.declared.place.Layout.{Layout}
use Rattle.wl_store.specs.declared.stores.StoreError.{StoreError}
use Rattle.wl_store.specs.declared.stores.StoreError.TheVariants.{BadSize, Shrinks, NoStore, OutOfRange, TooMany, TooLarge}
use Rattle.wl_store.specs.declared.transform.Transform.{Transform}
use Rattle.wl_store.specs.Picture.{Shown, lent}
use Rattle.wl_store.specs.Transform.{transform_of}

-- a live store
pub record Held : Type 0 where
  pub number : ℕ
  pub bytes : List ℕ
  pub uses : ℕ

-- the live stores in rising number, and how many were made in all
pub record Stock : Type 0 where
  pub held : List Held
  pub made : ℕ

-- the live store of this number, if there is one
abbrev pub store_at : ℕ → Stock → Option Held
store_at number stock = find (λ s. s.number == number) stock.held

-- the bytes of the live store of this number
abbrev pub bytes_of : ℕ → Stock → Option (List ℕ)
bytes_of number stock = option_map (λ s. s.bytes) (store_at number stock)

-- how many bytes the store of this number has; 0 where it isn't live
abbrev pub size_of : ℕ → Stock → ℕ
size_of number stock = option_map_or (λ s. length s.bytes) (store_at number stock) 0

-- the least number of a live store above this one, if there is one
abbrev pub next_after : ℕ → Stock → Option ℕ
next_after number stock = option_map (λ s. s.number) (find (λ s. nat_lt number s.number) stock.held)

-- how many bytes the live stores have together
abbrev pub total_size : Stock → ℕ
total_size stock = sum_by (λ s. length s.bytes) stock.held

-- the stores, with the one of this number changed
abbrev pub with_change : ℕ → (Held → Held) → Stock → Stock
with_change number change stock = record stock { held = map (λ s. cond (s.number == number) (change s) s) stock.held }

-- the stores without the one of this number
abbrev pub without_store : ℕ → Stock → Stock
without_store number stock = record stock { held = filter (λ s. not (s.number == number)) stock.held }

-- 64 stores are live, or there is no number left
abbrev pub is_full : Stock → Bool
is_full stock = length stock.held == 64 || stock.made == 4294967295

-- why no store of this size is made, if it isn't: the first reason that holds
abbrev pub create_refusal : ℤ → Stock → Option StoreError
create_refusal size stock =
    cond (is_full stock) (Some TooMany) (
    cond (int_lt (pos 268435456) (pos (total_size stock) +ℤ size)) (Some TooLarge) (
    cond (int_le size (pos 0)) (Some BadSize) None))

-- why no store of this size is made beside `total` bytes, if it isn't: the first reason that holds
abbrev pub new_refusal : ℕ → ℤ → Option StoreError
new_refusal total size =
    cond (int_lt (pos 268435456) (pos total +ℤ size)) (Some TooLarge) (
    cond (int_le size (pos 0)) (Some BadSize) None)

-- the stores with one more, of zeros, with one use
abbrev pub created : ℕ → Stock → Stock
created size stock = record {
  held = stock.held ++ record { number = stock.made + 1; bytes = replicate size 0; uses = 1 } ∷ [];
  made = stock.made + 1;
}

-- why a store of `present` bytes, one of `total` in all, doesn't get this size, if it doesn't: the
-- first reason that holds
abbrev pub size_refusal : ℕ → ℕ → ℤ → Option StoreError
size_refusal total present size =
    cond (int_lt (pos 268435456) ((pos total -ℤ pos present) +ℤ size)) (Some TooLarge) (
    cond (int_lt size (pos present)) (Some Shrinks) None)

-- the same of the store of a number, which has to be live
abbrev pub resize_refusal : ℕ → ℤ → Stock → Option StoreError
resize_refusal number size stock =
    option_map_or (λ s. size_refusal (total_size stock) (length s.bytes) size) (store_at number stock) (Some NoStore)

-- the stores, with zeros at the end of one, up to this size
abbrev pub resized : ℕ → ℕ → Stock → Stock
resized number size = with_change number (λ s. record s { bytes = s.bytes ++ replicate (size - length s.bytes) 0 })

-- why so many bytes aren't written from `at` on, if they aren't: the first reason that holds
abbrev pub write_refusal : ℕ → ℕ → ℕ → Stock → Option StoreError
write_refusal number at count stock =
    option_map_or (λ s. cond (nat_lt (length s.bytes) (at + count)) (Some OutOfRange) None) (store_at number stock) (Some NoStore)

-- the stores, with these bytes over as many from `at` on
abbrev pub written : ℕ → ℕ → List ℕ → Stock → Stock
written number at bytes = with_change number (λ s. record s { bytes = take at s.bytes ++ bytes ++ drop (at + length bytes) s.bytes })

-- the store is live and has room for one more use
abbrev pub can_hold : ℕ → Stock → Bool
can_hold number stock = option_map_or (λ s. nat_lt s.uses 4294967295) (store_at number stock) false

-- how many uses a store has; 0 where it isn't live
abbrev pub uses_of : ℕ → Stock → ℕ
uses_of number stock = option_map_or (λ s. s.uses) (store_at number stock) 0

-- the stores, with one use more of this one
abbrev pub used : ℕ → Stock → Stock
used number = with_change number (λ s. record s { uses = s.uses + 1 })

-- the stores, with one use less of this one; without uses it is gone
abbrev pub let_go : ℕ → Stock → Stock
let_go number stock =
    cond (nat_le (uses_of number stock) 1) (without_store number stock) (with_change number (λ s. record s { uses = s.uses - 1 }) stock)

-- the picture that a store lends, with this layout, transform and scale, where it is live and the
-- layout ends within it
abbrev pub picture_turned : ℕ → Layout → Transform → ℕ → Stock → Option Shown
picture_turned number l transform scale stock = option_and_then (λ bytes. lent bytes l transform scale) (bytes_of number stock)

-- the same, by the number of the transform
abbrev pub picture_of : ℕ → Layout → ℕ → ℕ → Stock → Option Shown
picture_of number l transform scale stock = picture_turned number l (transform_of transform) scale stock

-- the numbers rise from above `low` to at most `made`
abbrev pub IsNumbered : ℕ → ℕ → List Held → Type 0
IsNumbered low made [] = low ≤ made
IsNumbered low made (s ∷ ss) = (low < s.number) × IsNumbered s.number made ss

-- The stores are numbered, and within the limits.
pub record IsSound (held : List Held) (made total : ℕ) : Type 0 where
  pub numbered : IsNumbered 0 made held
  pub few : length held ≤ 64
  pub summed : total ≡ sum_by (λ s. length s.bytes) held
  pub small : total ≤ 268435456

-- The store of this number is at this place.
pub record IsPlace (held : List Held) (number place : ℕ) : Type 0 where
  pub within : place < length held
  pub found : find (λ s. s.number == number) held ≡ slice_get held place
  pub numbered : (d : Held) → (slice_index_or held place d).number ≡ number

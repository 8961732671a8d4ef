-- How side files come into stores.
use Rattle.std.specs.Prelude.{ℕ, ◌≡◌, ◌<◌, ◌≤◌, ◌+◌, ◌⊎◌, Bool, true, false, List, [], ◌∷◌, ◌++◌, length, decimal, codes}
use Rattle.spec_desktop.specs.Act.{Act, Store}
use Rattle.wl_recording.specs.Side.{Files}
use Rattle.wl_session.specs.Events.{Event, Moment}
use Rattle.wl_server.specs.Acting.{Idle, Stretch}
use Rattle.wl_server.specs.Faults.{Rose}

-- a read gives 1 to 4,096 bytes
abbrev pub IsPiece : List ℕ → Type 0
IsPiece piece = (0 < length piece) × (length piece ≤ 4096)

-- The name of a side file: the number of the client's connection, a point, and the store's number.
abbrev pub side_name : ℕ → ℕ → List ℕ
side_name number store = decimal number ++ codes "." ++ decimal store

-- how many bytes pieces are together
abbrev pub total : List (List ℕ) → ℕ
total [] = 0
total (piece ∷ pieces) = length piece + total pieces

-- reads of the open file gave these, one after another
pub data Gave {S : Type 0} (files : Files S) (from : S) : List (List ℕ) → S → Type 0 where
  none : Gave files from [] from
  more : {pieces : List (List ℕ)} {mid to : S} (piece : List ℕ) → Gave files from pieces mid → IsPiece piece → files.gives mid piece to
      → Gave files from (pieces ++ piece ∷ []) to

-- why no more is read: the file gave as many bytes as are wanted, it ends, or a read failed
abbrev pub EndsGiving : {S : Type 0} → Files S → ℕ → ℕ → S → S → Type 0
EndsGiving files most count from to =
    ((count ≡ most) × (to ≡ from)) ⊎ ((count < most) × (files.gives from [] to ⊎ Rose (files.faults from) (files.faults to)))

-- pieces are put into a store, each behind the one before
abbrev pub puts_from : ℕ → ℕ → ℕ → List (List ℕ) → List Act
puts_from client store at [] = []
puts_from client store at (piece ∷ pieces) = Store client store at piece ∷ puts_from client store (at + length piece) pieces

-- One read of the open file gave a piece of so many bytes, which is put there; or none, since the file ends or the read failed.
abbrev pub PutsOnce : {S : Type 0} → Files S → ℕ → ℕ → ℕ → ℕ → S → S → Stretch
PutsOnce files client store at count from to start acts events end =
    ((count ≡ 0) × (acts ≡ []) × (files.gives from [] to ⊎ Rose (files.faults from) (files.faults to)))
    ⊎ ((piece : List ℕ) × (length piece ≡ count) × IsPiece piece × files.gives from piece to × (acts ≡ Store client store at piece ∷ []))

-- At most so many of the open file's bytes are put into a store, from this byte on, up to the file's end.
pub record PutsFile {S : Type 0} (files : Files S) (client store at most : ℕ) (from to : S) (start : Moment) (acts : List Act) (events : List Event) (end : Moment) : Type 0 where
  pub pieces : List (List ℕ)
  pub mid : S
  pub gave : Gave files from pieces mid
  pub within : total pieces ≤ most
  pub ends : EndsGiving files most (total pieces) mid to
  pub acts_are : acts ≡ puts_from client store at pieces

-- A side file is opened, to read from this byte on; or there is none, or that fails.
abbrev pub Opens : {S : Type 0} → Files S → List ℕ → ℕ → Bool → S → S → Type 0
Opens files name first true from to = files.opens from name first true to
Opens files name first false from to = files.opens from name first false to ⊎ Rose (files.faults from) (files.faults to)

abbrev pub PutsIf : {S : Type 0} → Bool → Files S → ℕ → ℕ → ℕ → ℕ → S → S → Stretch
PutsIf true files client store at most from to start acts events end = PutsFile files client store at most from to start acts events end
PutsIf false files client store at most from to start acts events end = Idle from to start acts events end

-- At most so many bytes of a store's side file, from its byte `first` on, come into the store from its byte `at` on. Where there is no such file,
-- or it can't be opened, the store stays.
abbrev pub PutsPart : {S : Type 0} → Files S → ℕ → ℕ → ℕ → ℕ → ℕ → ℕ → S → S → Stretch
PutsPart {S} files client number store first at most from to start acts events end =
    (is_there : Bool) × (opened : S) × Opens files (side_name number store) first is_there from opened
    × PutsIf is_there files client store at most opened to start acts events end

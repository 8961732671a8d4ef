-- How the ranges of stores that a client's list names come out of side files.
use Rattle.std.specs.Prelude.{ℕ, ◌≡◌, ◌-◌, ◌⊎◌, List, [], ◌∷◌, ◌++◌, Option, Some, None, length, min, decimal, codes}
use Rattle.std.specs.List.{concat}
use Rattle.spec_desktop.specs.Act.{peer_at, store_size_of}
use Rattle.wl_recording.specs.Ranges.{ranges_of}
use Rattle.wl_recording.specs.Side.{Files}
use Rattle.wl_recording.specs.declared.range.StoreRange.{StoreRange}
use Rattle.wl_server.specs.Acting.{Idle, Stretch, Then}
use Rattle.wl_server.specs.Faults.{Rose}
use Rattle.wl_server.specs.Filling.{EndsGiving, Gave, IsPiece, PutsPart}

-- The name of a client's list: the number of its connection, a point, and an r.
abbrev pub list_name : ℕ → List ℕ
list_name number = decimal number ++ codes ".r"

-- One read of the open file gave these bytes; none, where the file ends or the read failed.
abbrev pub GivesOnce : {S : Type 0} → Files S → List ℕ → S → S → Type 0
GivesOnce files piece from to =
    ((piece ≡ []) × (files.gives from [] to ⊎ Rose (files.faults from) (files.faults to))) ⊎ (IsPiece piece × files.gives from piece to)

-- Reads of the open file gave this text, up to its end, to a read that failed, or to 147,456 bytes.
pub record GivesText {S : Type 0} (files : Files S) (text : List ℕ) (from to : S) : Type 0 where
  pub pieces : List (List ℕ)
  pub mid : S
  pub gave : Gave files from pieces mid
  pub text_is : text ≡ concat pieces
  pub ends : EndsGiving files 147456 (length text) mid to

-- A range comes into a store of this size, as far as it lies in it; without a store nothing does, and no file is opened.
abbrev pub PutsRangeIn : {S : Type 0} → Files S → ℕ → ℕ → StoreRange → Option ℕ → S → S → Stretch
PutsRangeIn files client number range None from to start acts events end = Idle from to start acts events end
PutsRangeIn files client number range (Some size) from to start acts events end =
    PutsPart files client number range.store range.from range.at (min range.len (size - range.at)) from to start acts events end

-- a range of one of the client's stores comes out of its side file
abbrev pub PutsRange : {S : Type 0} → Files S → ℕ → ℕ → StoreRange → S → S → Stretch
PutsRange files client number range from to start acts events end =
    PutsRangeIn files client number range (store_size_of range.store (peer_at client start.desktop)) from to start acts events end

-- these ranges do, one after another
abbrev pub PutsRanges : {S : Type 0} → Files S → ℕ → ℕ → List StoreRange → S → S → Stretch
PutsRanges files client number [] from to start acts events end = Idle from to start acts events end
PutsRanges files client number (range ∷ ranges) from to start acts events end =
    Then (PutsRange files client number range) (PutsRanges files client number ranges) from to start acts events end

-- The open list is read, and the ranges that it names come out of side files, in its order.
abbrev pub FillsListed : {S : Type 0} → Files S → ℕ → ℕ → S → S → Stretch
FillsListed {S} files client number from to start acts events end =
    (text : List ℕ) × (read : S) × GivesText files text from read
    × PutsRanges files client number (ranges_of text) read to start acts events end

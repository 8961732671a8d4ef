-- What lines put into stores.
use Rattle.std.specs.Prelude.{◌≡◌, ◌≢◌, ◌<◌, ◌≤◌, ◌+◌, ◌⊎◌, ℕ, true, nat_lt, if◌then◌else◌, List, [], ◌∷◌, length, Option, Some, None}
use Rattle.std.specs.Prelude.{Result, Ok, Err}
use Rattle.wl_session.specs.Course.{TakesCourse}
use Rattle.wl_session.specs.View.{SessionView}
use Rattle.spec_desktop.specs.Desktop.{Desktop}
use Rattle.spec_desktop.specs.Act as act
use Rattle.spec_desktop.specs.Act.{peer_at, status_of, store_size_of}
use Rattle.spec_desktop.specs.declared.answers.Done.{Done}
use Rattle.spec_desktop.specs.declared.answers.Done.TheVariants as gave
use Rattle.spec_desktop.specs.declared.answers.Fed.{Fed}
use Rattle.spec_desktop.specs.declared.answers.Fed.TheVariants.{Alive, Ended, NoClient}
use Rattle.spec_desktop.specs.declared.answers.Stored.{Stored}
use Rattle.spec_desktop.specs.declared.answers.Stored.TheVariants as stored
use Rattle.wl_recording.specs.declared.place.Place.{Place}
use Rattle.wl_recording.specs.Side.{Files, Lacks}
use Rattle.wl_recording.specs.Text.{none_line, nostore_line, outside_line}
use Rattle.wl_replay.specs.Told.{Stage, Steps, Told, words}

-- what is told of a store write
abbrev pub stored_text : Place → Stored → List ℕ
stored_text place stored.Done = []
stored_text place stored.NoClient = none_line place.client
stored_text place stored.NoStore = nostore_line place.client place.store
stored_text place stored.OutOfRange = outside_line place.client place.store

-- one store write
abbrev pub TellsStore : Place → List ℕ → Stage → Told → Stage → Type 0
TellsStore place bytes old told new =
    (answer : Stored) × Steps (act.Store place.client place.store place.at bytes) (gave.Store answer) old new
    × (told ≡ words (stored_text place answer))

-- A store's size, where a file may be put into it from this byte on; it may be from its end. Else why not.
abbrev pub room_at : Fed → Option ℕ → ℕ → Result ℕ Stored
room_at NoClient size at = Err stored.NoClient
room_at (Ended cause) size at = Err stored.NoClient
room_at Alive None at = Err stored.NoStore
room_at Alive (Some size) at = if nat_lt size at then Err stored.OutOfRange else Ok size

abbrev pub room_in : Desktop → Place → Result ℕ Stored
room_in d place =
    room_at (status_of (peer_at place.client d)) (store_size_of place.store (peer_at place.client d)) place.at

-- Reads of the open file up to a byte of the store. Each gives at most 4,096 bytes, and at most what is left of the store, and
-- they are written there by one step.
pub data Fills {S : Type 0} (files : Files S) (place : Place) (size : ℕ) (first : Stage) (opened : S) : ℕ → Stage → S → Type 0 where
  none : Fills files place size first opened place.at first opened
  more : (at : ℕ) (mid last : Stage) (from to : S) (bytes : List ℕ) (done : Done) → Fills files place size first opened at mid from
      → bytes ≢ [] → length bytes ≤ 4096 → at + length bytes ≤ size → files.gives from bytes to
      → Steps (act.Store place.client place.store at bytes) done mid last
      → Fills files place size first opened (at + length bytes) last to

-- bytes are written to a place, if there are any
abbrev pub Puts : Place → List ℕ → SessionView → SessionView → Type 0
Puts place [] old new = new ≡ old
Puts place (b ∷ bytes) old new = (done : Done) × TakesCourse (act.Store place.client place.store place.at (b ∷ bytes)) done old new

-- nothing is left: of the store, or of the file
abbrev pub EndsAt : {S : Type 0} → Files S → ℕ → ℕ → S → S → Type 0
EndsAt files size at from to = ((at ≡ size) × (to ≡ from)) ⊎ ((at < size) × files.gives from [] to)

-- the open file is read to its end, or until the store is full
abbrev pub FillsAll : {S : Type 0} → Files S → Place → ℕ → Stage → S → Stage → S → Type 0
FillsAll {S} files place size old opened new to =
    (at : ℕ) × (from : S) × Fills files place size old opened at new from × EndsAt files size at from to

-- A file is opened only where there is room for it.
abbrev pub TellsFileAs : {S : Type 0} → Files S → Place → List ℕ → Result ℕ Stored → S → S → Stage → Told → Stage → Type 0
TellsFileAs {S} files place name (Err answer) from to old told new = (told ≡ words (stored_text place answer)) × (new ≡ old) × (to ≡ from)
TellsFileAs {S} files place name (Ok size) from to old told new =
    (told ≡ words [])
    × ((opened : S) × files.opens from name 0 true opened × FillsAll files place size old opened new to)

-- the bytes of a side file come into a store
abbrev pub TellsFile : {S : Type 0} → Files S → Place → List ℕ → S → S → Stage → Told → Stage → Type 0
TellsFile files place name from to old told new = TellsFileAs files place name (room_in old.now.desktop place) from to old told new

-- a file was asked for where there is room for it, and there is none, or a call failed
abbrev pub LacksFile : {S : Type 0} → Files S → Place → List ℕ → Desktop → S → S → Type 0
LacksFile files place name d from to = ((size : ℕ) × (room_in d place ≡ Ok size)) × Lacks files name from to

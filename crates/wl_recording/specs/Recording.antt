-- A recording that is written, and which client has which number in it.
use Rattle.std.specs.Prelude.{ℕ, ◌≡◌, ◌≢◌, ◌<◌, ◌≤◌, ◌+◌, ◌-◌, ◌==◌, Bool, true, false, nat_lt, min, if◌then◌else◌, List, [], ◌∷◌, ◌++◌, drop, flat_map, map, slice_index, length, take, Option, Some, None, option_map, slice_set}
use Rattle.std.specs.Bool.{OnFalse}
use Rattle.std.specs.Io.KnownBytes.{Appends}
use Rattle.std.specs.List.{position_or_len}
use Rattle.wl_recording.specs.Line.{Asked, Bytes, Gone, Store}
use Rattle.wl_recording.specs.Written.{last_line, line_of}
use Rattle.wl_recording.specs.declared.place.Place.{Place}

-- ---- what a recording says

-- The recording of what was asked: a line for each thing. If these are `most` or more, the last of
-- so many lines says that the recording ends.
abbrev pub recording_of : ℕ → List Asked → List ℕ
recording_of most asked = flat_map line_of (take (most - 1) asked) ++ (if nat_lt (length asked) most then [] else last_line)

-- the writer of a recording, and how many lines were written
pub record Recording (W : Type 0) : Type 0 where
  pub writer : W
  pub lines : ℕ

-- What a writer held at first is followed by the recording of what was asked.
pub record Holds {W : Type 0} (most : ℕ) (contents : W → Option (List ℕ)) (first : Option (List ℕ)) (asked : List Asked) (now : Recording W) : Type 0 where
  pub lines : now.lines ≡ min most (length asked)
  pub text : Appends first (contents now.writer) (recording_of most asked)

-- ---- where bytes differ

-- Bytes and those held in their place, of one length, are alike before `first` and from `last` on.
-- If any differ, those at both ends of the range do.
pub record Differs (bytes held : List ℕ) (first last : ℕ) : Type 0 where
  pub order : first ≤ last
  pub within : last ≤ length bytes
  pub front : take first bytes ≡ take first held
  pub back : drop last bytes ≡ drop last held
  pub one : first < last → slice_index bytes first ≢ slice_index held first
  pub other : first < last → slice_index bytes (last - 1) ≢ slice_index held (last - 1)

-- ---- who is who: the numbers that clients have in the session, by those in the recording from 1

abbrev pub is_client : ℕ → Option ℕ → Bool
is_client client None = false
is_client client (Some there) = there == client

abbrev pub is_free : Option ℕ → Bool
is_free None = true
is_free (Some there) = false

-- the first place that passes, counted from 0
abbrev pub first_place : (Option ℕ → Bool) → List (Option ℕ) → Option ℕ
first_place passes clients = if nat_lt (position_or_len passes clients) (length clients) then Some (position_or_len passes clients) else None

-- the number from 1 that a client has in the recording
abbrev pub number_of : ℕ → List (Option ℕ) → Option ℕ
number_of client clients = option_map (λ place. place + 1) (first_place (is_client client) clients)

abbrev pub with_place : Option ℕ → Option ℕ → List (Option ℕ) → List (Option ℕ)
with_place None there clients = clients
with_place (Some place) there clients = slice_set clients place there

-- a client gets the lowest free number
abbrev pub joined : ℕ → List (Option ℕ) → List (Option ℕ)
joined client clients = with_place (first_place is_free clients) (Some client) clients

-- a client's number is free again
abbrev pub left : ℕ → List (Option ℕ) → List (Option ℕ)
left client clients = with_place (first_place (is_client client) clients) None clients

-- ---- a server's recording

-- a recording, who is who in it, and whether a write failed
pub record Recorded (W : Type 0) : Type 0 where
  pub written : Recording W
  pub clients : List (Option ℕ)
  pub has_failed : Bool

-- What the writer held at first is followed by the recording of what was asked, unless a write
-- failed.
abbrev pub HoldsTo : {W : Type 0} → ℕ → (W → Option (List ℕ)) → Option (List ℕ) → List Asked → Recorded W → Type 0
HoldsTo most contents first asked r = OnFalse r.has_failed (Holds most contents first asked r.written)

-- A client's bytes are cut somehow, and each piece has a line. A client that isn't there has none.
abbrev pub Feeds : Option ℕ → List ℕ → List Asked → Type 0
Feeds None piece asked = asked ≡ []
Feeds (Some client) piece asked =
    (pieces : List (List ℕ)) × (flat_map (λ p. p) pieces ≡ piece) × (asked ≡ map (λ p. Bytes client p) pieces)

-- a client goes
abbrev pub goes : Option ℕ → List Asked
goes None = []
goes (Some client) = Gone client ∷ []

-- Bytes are put into a client's store, if there are any. `from` says how many bytes behind the
-- place they begin.
abbrev pub stores : Option ℕ → Place → ℕ → List ℕ → List Asked
stores None place from bytes = []
stores (Some client) place from [] = []
stores (Some client) place from (b ∷ bytes) = Store (record { client = client; store = place.store; at = place.at + from }) (b ∷ bytes) ∷ []

-- What each client is sent after a line, and how it is closed.
use Rattle.std.specs.Prelude.{◌≡◌, ℕ, zero, suc, Option, Some, None, List, [], ◌∷◌, ◌++◌, length}
use Rattle.spec_desktop.specs.Act as act
use Rattle.spec_desktop.specs.Act.{peer_at, status_of, unsent_of}
use Rattle.spec_desktop.specs.declared.answers.Done.{Done}
use Rattle.spec_desktop.specs.declared.answers.Fed.{Fed}
use Rattle.spec_desktop.specs.declared.answers.Fed.TheVariants.{Alive, Ended, NoClient}
use Rattle.wl_recording.specs.Text.{end_line, to_line}
use Rattle.wl_replay.specs.Told.{Stage, Steps}

-- All of a client's unsent bytes are sent, where there are any.
abbrev pub Sends : ℕ → Option (List ℕ) → Stage → List ℕ → Stage → Type 0
Sends client None old text new = (text ≡ []) × (new ≡ old)
Sends client (Some []) old text new = (text ≡ []) × (new ≡ old)
Sends client (Some (b ∷ bytes)) old text new =
    (done : Done) × Steps (act.Send client (length (b ∷ bytes))) done old new × (text ≡ to_line client (b ∷ bytes))

-- A client that ended is closed.
abbrev pub Closes : ℕ → Fed → Stage → List ℕ → Stage → Type 0
Closes client (Ended cause) old text new = (done : Done) × Steps (act.Close client) done old new × (text ≡ end_line client cause)
Closes client Alive old text new = (text ≡ []) × (new ≡ old)
Closes client NoClient old text new = (text ≡ []) × (new ≡ old)

abbrev pub TellsClient : ℕ → Stage → List ℕ → Stage → Type 0
TellsClient client old text new =
    (mid : Stage) × (sent : List ℕ) × (closed : List ℕ) × Sends client (unsent_of (peer_at client old.now.desktop)) old sent mid
    × Closes client (status_of (peer_at client mid.now.desktop)) mid closed new × (text ≡ sent ++ closed)

-- the clients 1 to n, in rising number
unfoldable pub TellsFirst : ℕ → Stage → List ℕ → Stage → Type 0
TellsFirst zero old text new = (text ≡ []) × (new ≡ old)
TellsFirst (suc n) old text new =
    (mid : Stage) × (front : List ℕ) × (last : List ℕ) × TellsFirst n old front mid × TellsClient (suc n) mid last new
    × (text ≡ front ++ last)

-- The ends of a step as a loop: the focus is settled, the first client that is to end then does, and so on until none is.
use Rattle.std.specs.Prelude.{ℕ, zero, suc, ◌≡◌, ◌≤◌, ◌<◌, false, Some, None, List, [], ◌∷◌, ◌++◌, length}
use Rattle.spec_desktop.specs.PointerActions.{Went}
use Rattle.spec_desktop.specs.Desktop.{Desktop, Resident, client_at}
use Rattle.spec_desktop.specs.Settling.{Midstep, PointerActs, Settles, Strike, ended_by, is_struck, unstruck}
use Rattle.spec_desktop.specs.Through.{SettlesAllThrough, ending_through}
use Rattle.law_desktop.specs.Focus.{IsSettled}

-- the client with this number is there and lives
abbrev pub Lives : ℕ → Desktop → Type 0
Lives c d = (r : Resident) × (client_at c d ≡ Some r) × (r.peer.status ≡ None)

-- those that are to end live, and none is to end twice
abbrev pub AreToEnd : List Strike → Desktop → Type 0
AreToEnd [] d = Unit {0}
AreToEnd (s ∷ ss) d = Lives s.client d × (is_struck s.client ss ≡ false) × AreToEnd ss d

-- ---- rounds

-- One round: the focus is settled, and the first client that is to end then does.
abbrev pub IsRound : Midstep → List Desktop → Midstep → Type 0
IsRound old path new =
    (settled : Midstep) × (s : Strike) × (ss : List Strike) × Settles old settled × (settled.struck ≡ s ∷ ss)
    × (path ≡ settled.desktop ∷ ended_by s settled.desktop ∷ []) × (new ≡ record { desktop = ended_by s settled.desktop; struck = ss })

-- so many rounds, the last one last, with the desktops on the way
abbrev pub AreRounds : ℕ → Midstep → List Desktop → Midstep → Type 0
AreRounds zero old path new = (path ≡ []) × (new ≡ old)
AreRounds (suc n) old path new =
    (before : List Desktop) × (mid : Midstep) × (later : List Desktop) × AreRounds n old before mid × IsRound mid later new
    × (path ≡ before ++ later)

-- Where nobody is to end after one settling more, that is the whole of it, and the focus is settled: of rounds that are fewer than the
-- settlings that may be.
abbrev pub RoundsSettle : Type 0
RoundsSettle =
    (n most : ℕ) (old mid last : Midstep) (path : List Desktop) → n < most → AreRounds n old path mid → Settles mid last → last.struck ≡ []
    → SettlesAllThrough most old (path ++ last.desktop ∷ []) last.desktop × IsSettled last.desktop

-- Each round ends a client that lives, of 32 at most: so there are 32 rounds at most.
abbrev pub RoundsAreFew : Type 0
RoundsAreFew =
    (n : ℕ) (old new : Midstep) (path : List Desktop) → length old.desktop.clients ≤ 32 → AreToEnd old.struck old.desktop
    → AreRounds n old path new → (n ≤ 32) × AreToEnd new.struck new.desktop

-- The focus may always be settled so, and where there are fewer clients than settlings it is settled at last.
abbrev pub SettlesAtLast : Type 0
SettlesAtLast =
    (old : Midstep) → length old.desktop.clients ≤ 32 → AreToEnd old.struck old.desktop
    → ((path : List Desktop) × (new : Desktop) × SettlesAllThrough 33 old path new)
    × ((path : List Desktop) (new : Desktop) → SettlesAllThrough 33 old path new → IsSettled new)

-- ---- what comes after a motion and a button

-- To settle a focus that is settled does nothing.
abbrev pub SettlesIdly : Type 0
SettlesIdly = (old : Midstep) → IsSettled old.desktop → Settles old old × ((new : Midstep) → Settles old new → new ≡ old)

-- Where it is settled and nobody is to end, that is the whole of it.
abbrev pub SettledAtOnce : Type 0
SettledAtOnce = (d : Desktop) → IsSettled d → SettlesAllThrough 33 (unstruck d) (d ∷ []) d

-- After a motion the focus is settled, so ends may follow at once, as by rounds from there.
abbrev pub MotionsEnd : Type 0
MotionsEnd =
    (time : ℕ) (old told : Midstep) (path : List Desktop) (new : Desktop) → PointerActs (Went time) old told
    → SettlesAllThrough 33 told path new → IsSettled told.desktop × ending_through path new told

-- After a button the focus is settled first: that is the first of the rounds.
abbrev pub ButtonsEnd : Type 0
ButtonsEnd =
    (told : Midstep) (path : List Desktop) (new : Desktop) → SettlesAllThrough 33 told path new
    → (settled : Midstep) × Settles told settled × ending_through path new settled

-- The desktops that a step leads through: that of its own change, and one after each end and each settling of the focus, the last one last.
use Rattle.std.specs.Prelude.{ℕ, zero, suc, ◌≡◌, ◌&&◌, Bool, true, false, if◌then◌else◌, Option, Some, None, List, [], ◌∷◌, ◌++◌}
use Rattle.spec_desktop.specs.Pointer.{hit_now, is_press}
use Rattle.spec_desktop.specs.Stacking.{Standing, is_of}
use Rattle.spec_desktop.specs.Windows.{Window}
use Rattle.spec_desktop.specs.Desktop.{Desktop, client_at}
use Rattle.spec_desktop.specs.Settling.{Midstep, Settles, Strike, ended_all, ended_by, unstruck}
use Rattle.spec_desktop.specs.Stacked.{all_windows}
use Rattle.spec_desktop.specs.Happens.{HappensThen, ServesThen}
use Rattle.spec_desktop.specs.Act.{Act, Button}
use Rattle.spec_desktop.specs.declared.answers.Done.{Done}

-- one after each end of these, where they end one after another
abbrev pub ends_through : List Strike → Desktop → List Desktop
ends_through [] d = []
ends_through (s ∷ ss) d = ended_by s d ∷ ends_through ss (ended_by s d)

-- the first that is to end does, and what comes then
abbrev pub EndsFirstThrough : (Midstep → List Desktop → Desktop → Type 0) → List Strike → Desktop → List Desktop → Desktop → Type 0
EndsFirstThrough Next [] d path new = (path ≡ []) × (new ≡ d)
EndsFirstThrough Next (s ∷ ss) d path new =
    (later : List Desktop) × (path ≡ ended_by s d ∷ later) × Next (record { desktop = ended_by s d; struck = ss }) later new

-- after each end the focus is settled again, at most n times
abbrev pub SettlesAllThrough : ℕ → Midstep → List Desktop → Desktop → Type 0
SettlesAllThrough zero old path new = (path ≡ []) × (new ≡ old.desktop)
SettlesAllThrough (suc n) old path new =
    (mid : Midstep) × Settles old mid
    × (later : List Desktop) × (path ≡ mid.desktop ∷ later) × EndsFirstThrough (SettlesAllThrough n) mid.struck mid.desktop later new

-- what comes after a step's own change, which led to the first of these desktops: all that are to end do, and the focus is settled; or it
-- was settled already
abbrev pub settling_through : List Desktop → Desktop → Midstep → Type 0
settling_through path new mid =
    (later : List Desktop) × (path ≡ mid.desktop ∷ ends_through mid.struck mid.desktop ++ later)
    × SettlesAllThrough 33 (unstruck (ended_all mid.struck mid.desktop)) later new

abbrev pub ending_through : List Desktop → Desktop → Midstep → Type 0
ending_through path new mid =
    (later : List Desktop) × (path ≡ mid.desktop ∷ later) × EndsFirstThrough (SettlesAllThrough 32) mid.struck mid.desktop later new

-- One message of a client leads from a desktop through these to the last.
abbrev pub ServesThrough : ℕ → Desktop → List Desktop → Desktop → Type 0
ServesThrough c d path new = ServesThen c (client_at c d) d (settling_through path new)

-- So does whatever else happens but a piece, which is the messages that it completes.
abbrev pub HappensThrough : Act → Done → Desktop → List Desktop → Desktop → Type 0
HappensThrough act done d path new = HappensThen act done d (settling_through path new) (ending_through path new)

-- ---- what a press raises

-- a toplevel stands on top of the others
abbrev pub is_topmost : ℕ → ℕ → List Standing → Bool
is_topmost client surface [] = false
is_topmost client surface (s ∷ []) = is_of client surface s
is_topmost client surface (s ∷ (t ∷ ts)) = is_topmost client surface (t ∷ ts)

abbrev pub raised_from : List Standing → Option Window → Option (ℕ × ℕ)
raised_from standing None = None
raised_from standing (Some w) = if is_topmost w.owner.client w.owner.toplevel standing then None else Some
    (w.owner.client, w.owner.toplevel)

abbrev pub raised_if : Bool → Desktop → Option (ℕ × ℕ)
raised_if true d = raised_from d.standing (hit_now d.pointer.place (all_windows d))
raised_if false d = None

-- the toplevel that a press moved up: the one whose tree or popups hold the hit, where it wasn't topmost
abbrev pub raised_in : Act → Desktop → Option (ℕ × ℕ)
raised_in (Button time button pressed) d = raised_if (pressed && is_press button d.pointer.buttons) d
raised_in act d = None

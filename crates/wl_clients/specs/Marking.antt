-- What the desk marks to be painted again.
use Rattle.std.specs.Prelude.{ℕ, List, ◌≡◌, ◌<◌, ◌&&◌, ◌||◌, pos, Bool, false, true, Option, None, is_none}
use Rattle.spec_desktop.specs.declared.cause.Cause.{Cause}
use Rattle.spec_desktop.specs.Objects.{ById}
use Rattle.wl_paint.specs.Damage.{Damaged, has}
use Rattle.wl_scene.specs.Marking.{IsAsLarge}
use Rattle.law_desktop.specs.Ordered.{Ordered}
use Rattle.spec_desktop.specs.Desktop.{Desktop, Resident, status_in}
use Rattle.spec_desktop.specs.Moments.{marks_at_least, marks_at_least_through, marks_at_most, marks_at_most_through}
use Rattle.spec_desktop.specs.Stacked.{all_windows}
use Rattle.law_desktop.specs.Touching.{has_window_at}
use Rattle.wl_requests.specs.declared.residents.Resident.{Resident as Kept}
use Rattle.wl_clients.specs.Seats.{IsSeated}
use Rattle.wl_clients.specs.View.{Pile}

-- what is to be painted stays so, and what a step from one desktop to the other marks at least is to be painted too
abbrev pub MarksAtLeast : Desktop → Desktop → Damaged → Damaged → Type 0
MarksAtLeast d e old new =
    (x y : ℕ) → x < old.width → y < old.height → has new x y ≡ false → (has old x y ≡ false) × (marks_at_least d e (pos x) (pos y) ≡ false)

-- A step in which a press raised this toplevel marks no more than it may: what is to be painted was before, or is among what it marks at
-- most.
abbrev pub MarksMostBy : Option (ℕ × ℕ) → Desktop → Desktop → Damaged → Damaged → Type 0
MarksMostBy raised d e old new =
    (x y : ℕ) → x < old.width → y < old.height → has new x y ≡ true → (has old x y || marks_at_most d e raised (pos x) (pos y)) ≡ true

-- the same of one in which no press raised any
abbrev pub MarksMost : Desktop → Desktop → Damaged → Damaged → Type 0
MarksMost d e old new = MarksMostBy None d e old new

-- So it is where its client lives after it.
abbrev pub MarksAtMost : ℕ → Desktop → Desktop → Damaged → Damaged → Type 0
MarksAtMost c d e old new = status_in c e ≡ None → MarksMost d e old new

-- If so, a client's own windows are to be painted, and no more; else nothing more is.
abbrev pub MarksOwnIf : {A : Type 0} → Bool → ℕ → Kept A → Pile → Damaged → Damaged → Type 0
MarksOwnIf if_so c kept pile old new =
    IsAsLarge old new
    × ((others : ℕ → ById ℕ) (base d : Desktop) (r : Resident) → IsSeated c others base kept pile d r → Ordered d
    → (x y : ℕ) → x < old.width → y < old.height → has new x y ≡ (has old x y || (if_so && has_window_at c (pos x) (pos y) d)))

-- They are where a client that lived has ended, not where it had ended before.
abbrev pub MarksOwn : {A : Type 0} → Option Cause → ℕ → Kept A → Pile → Damaged → Damaged → Type 0
MarksOwn ended c kept pile old new = MarksOwnIf (is_none ended) c kept pile old new

-- What is to be painted stays so. What a step through these desktops, at whose beginning a press raised this toplevel, marks at least is to
-- be painted too, and nothing else than what it marks at most.
abbrev pub MarksThroughBy : Option (ℕ × ℕ) → Desktop → List Desktop → Damaged → Damaged → Type 0
MarksThroughBy raised d path old new =
    (x y : ℕ) → x < old.width → y < old.height
    → (has new x y ≡ false → (has old x y ≡ false) × (marks_at_least_through all_windows d path (pos x) (pos y) ≡ false))
    × (has new x y ≡ true → (has old x y || marks_at_most_through all_windows raised d path (pos x) (pos y)) ≡ true)

-- the same of one in which no press raised any
abbrev pub MarksThrough : Desktop → List Desktop → Damaged → Damaged → Type 0
MarksThrough d path old new = MarksThroughBy None d path old new

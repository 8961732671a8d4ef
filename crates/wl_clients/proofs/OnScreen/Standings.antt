-- A desktop on which the same toplevels stand in another order, or at other places.
use Rattle.std.proofs.Common.{◌≡◌, ℕ, false, List, refl, ap, sym, subst, ◌∙◌}
use Rattle.std.specs.Prelude.{ℤ, pos, ◌&&◌, int_le, unsigned_abs}
use Rattle.law_desktop.proofs.Soundness.Windows.{sound_is_distinct}
use Rattle.wl_paint.specs.Damage.{Damaged}
use Rattle.spec_desktop.specs.Objects.{ById}
use Rattle.spec_desktop.specs.Stacking.{Standing}
use Rattle.spec_desktop.specs.Windows.{Window}
use Rattle.spec_desktop.specs.Desktop.{Desktop, Resident}
use Rattle.spec_desktop.specs.Moments.{applied_between, history_of, marks_at_least}
use Rattle.spec_desktop.specs.Stacked.{all_windows}
use Rattle.law_desktop.specs.Shown.{ShownStand}
use Rattle.law_desktop.specs.TreeMarksLaws.{AreUndamaged}
use Rattle.law_desktop.proofs.Lists.Tests.{any-none}
use Rattle.law_desktop.proofs.TreeSteps.Damage.{applies-nothing}
use Rattle.law_desktop.specs.Ordered.{Ordered}
use Rattle.law_desktop.specs.Changes.{HasTrees}
use Rattle.law_desktop.proofs.RootsOf.Orders.{in-order-has-trees}
use Rattle.law_desktop.proofs.Truth.{and-false}
use Rattle.law_desktop.proofs.Lists.Each.{each-of}
use Rattle.law_windows.specs.Runs.Moves.{IsWhole}
use Rattle.law_windows.proofs.OneToplevel.Demanded.{nothing-is-marked}
use Rattle.wl_requests.specs.declared.residents.Resident.{Resident as Kept}
use Rattle.wl_clients.specs.Marking.{MarksAtLeast}
use Rattle.wl_clients.specs.Seats.{IsBased, IsSeated}
use Rattle.wl_clients.specs.View.{Pile}

-- the desktop on which these stand
abbrev pub standing_so : Desktop → List Standing → Desktop
standing_so d ss = record d { standing = ss }

-- On a desktop in order toplevels, popups and subsurfaces make trees.
pub whole-so : (d : Desktop) → Ordered d → ShownStand d → IsWhole d
whole-so d ordered shown = record { trees = in-order-has-trees d ordered.in_order shown; shown = shown }

pub based-still : (c : ℕ) (base d : Desktop) (r : Resident) (ss : List Standing) → IsBased c base d r → IsBased c base (standing_so d ss) r
based-still c base d r ss based = record { there = based.there; output = based.output; clients = based.clients }

-- no damage is applied
never-applied : (d : Desktop) (ss : List Standing) (client surface : ℕ) (x y : ℤ) → applied_between d (standing_so d ss) client surface x y ≡ false
never-applied d ss client surface x y =
    ap (λ b. (int_le (pos 0) x && int_le (pos 0) y) && b)
    (applies-nothing (history_of d client surface) (history_of (standing_so d ss) client surface) refl (unsigned_abs x) (unsigned_abs y))
    ∙ and-false (int_le (pos 0) x && int_le (pos 0) y)

pub undamaged-still : (d : Desktop) (ss : List Standing) (ws : List Window) → AreUndamaged (applied_between d (standing_so d ss)) ws
undamaged-still d ss ws x y =
    any-none (λ (w : Window). applied_between d (standing_so d ss) w.owner.client w.surface x y) ws
    (each-of (λ w. applied_between d (standing_so d ss) w.owner.client w.surface x y ≡ false) (λ w. never-applied d ss w.owner.client w.surface x y) ws)

-- where nothing changes, nothing is marked
pub still-unmarked : (d : Desktop) (x y : ℤ) → HasTrees d → marks_at_least d d x y ≡ false
still-unmarked d x y has =
    nothing-is-marked d d (record { windows = refl; undamaged = undamaged-still d d.standing (all_windows d); distinct = sound_is_distinct d has.sound }) x y

-- ---- where they stand as they did

-- what is kept agrees
pub seated-same : {A : Type 0} (c : ℕ) (others : ℕ → ById ℕ) (base d : Desktop) (r : Resident) (v : Kept A) (pile : Pile) (ss : List Standing) → ss ≡ d.standing
    → IsSeated c others base v pile d r → IsSeated c others base v pile (standing_so d ss) r
seated-same c others base d r v pile ss stays before = subst (λ (xs : List Standing). IsSeated c others base v pile (standing_so d xs) r) (sym stays) before

-- and nothing has to be marked
pub unmarked-same : (d : Desktop) (ss : List Standing) → ss ≡ d.standing → HasTrees d → (damage : Damaged) → MarksAtLeast d (standing_so d ss) damage damage
unmarked-same d ss stays has damage x y wide high clean = (
  clean,
  subst (λ (xs : List Standing). marks_at_least d (standing_so d xs) (pos x) (pos y) ≡ false) (sym stays) (still-unmarked d (pos x) (pos y) has),
)

-- What a press marks that raises a toplevel, and then dismisses the popups of a client that holds a grab.
use Rattle.std.proofs.Common.{◌≡◌, ℕ, ◌<◌, List, [], Bool, true, false, Option, Some, None, refl, ap, subst, sym, ◌∙◌, inl, inr}
use Rattle.std.specs.Prelude.{ℤ, ◌⊎◌, ◌||◌, if◌then◌else◌, pos}
use Rattle.std.proofs.lemmas.Bool.{false_from_ne_true, or_left, or_right}
use Rattle.wl_paint.specs.Damage.{Damaged, has}
use Rattle.wl_scene.specs.Marking.{IsAsLarge}
use Rattle.spec_desktop.specs.Pointer.{Target}
use Rattle.spec_desktop.specs.Stacking.{Standing, raised}
use Rattle.spec_desktop.specs.Desktop.{Desktop, unpointed}
use Rattle.spec_desktop.specs.Marks.{AreDistinct}
use Rattle.spec_desktop.specs.Moments.{marks_at_least, marks_at_most}
use Rattle.spec_desktop.specs.Replies.{popups_done}
use Rattle.spec_desktop.specs.Settling.{Midstep, Tells, without_grabs}
use Rattle.spec_desktop.specs.Stacked.{all_windows}
use Rattle.spec_desktop.specs.Through.{is_topmost}
use Rattle.law_desktop.proofs.Soundness.Windows.{sound_is_distinct}
use Rattle.law_desktop.proofs.Truth.{differ, either-of, or-left, or-right}
use Rattle.law_desktop.specs.Shown.{ShownStand}
use Rattle.law_desktop.specs.Ordered.{Ordered}
use Rattle.law_windows.specs.Runs.Moves.{IsWhole, lifted}
use Rattle.law_windows.proofs.OneToplevel.Shifted.{stays-whole}
use Rattle.law_windows.specs.Grabs.Dismissed.{Dismisses}
use Rattle.law_windows.proofs.PopupsDismissed.Pressed.{presses-dismiss}
use Rattle.law_windows.proofs.PopupsDismissed.Raised.{press-marks-at-least, press-marks-at-most}
use Rattle.wl_clients.proofs.OnScreen.Rising.{raised-topmost}
use Rattle.wl_clients.proofs.OnScreen.Standings.{whole-so}
use Rattle.wl_clients.specs.Raising.{MarksChange, moved_up, raised_to}
use Rattle.wl_clients.specs.Releasing.{MarksJust}
use Rattle.wl_clients.proofs.OnScreen.Lifted.{raised-within}

-- ---- what is dismissed

-- the popups of a client with a grab, or none
abbrev pub Dismissed : Desktop → Desktop → Type 0
Dismissed d e = (e ≡ d) ⊎ ((c : ℕ) × Dismisses (λ p. p.popup.has_grab) c d e)

-- whatever the pointer
pub dismissed-told : (c : ℕ) (m n : Midstep) → Tells without_grabs (λ r. popups_done r (without_grabs r)) c m n → Dismissed (unpointed m.desktop) (unpointed n.desktop)
dismissed-told c m n tells = at (presses-dismiss [] c m n tells)
  where
    at : (n ≡ m) ⊎ Dismisses (λ p. p.popup.has_grab) c m.desktop n.desktop → Dismissed (unpointed m.desktop) (unpointed n.desktop)
    at (inl same) = inl (ap (λ (x : Midstep). unpointed x.desktop) same)
    at (inr goes) = inr (c, record { surfaces = goes.surfaces; shell = goes.shell; others = goes.others; standing = goes.standing; output = goes.output })

-- ---- at a point

-- the desktop on which this toplevel, if one is given, is on top of the others
abbrev pub with_top : Option Target → Desktop → Desktop
with_top top d = record d { standing = raised_to top d.standing }

-- what is topmost is on top already
top-stays : (c surface : ℕ) (d : Desktop) → IsWhole d → is_topmost c surface d.standing ≡ true → lifted c surface d ≡ d
top-stays c surface d whole top = ap (λ (ss : List Standing). record d { standing = ss }) (raised-topmost c surface d.standing whole.shown.apart top)

or-none : (a b : Bool) → a ≡ false → b ≡ false → (a || b) ≡ false
or-none true b none none' = none
or-none false b none none' = none'

-- where nothing changes, nothing is marked
abbrev pub NothingMarked : Type 0
NothingMarked =
    (d : Desktop) (x y : ℤ) → AreDistinct (all_windows d) → (marks_at_least d d x y ≡ false) × (marks_at_most d d None x y ≡ false)

module _ (still : NothingMarked) (d e : Desktop) (whole : IsWhole d) (x y : ℤ) where
  apart : AreDistinct (all_windows d)
  apart = sound_is_distinct d whole.trees.sound

  -- what has to be marked has to be as it is raised, or as they are dismissed
  least : (top : Option Target) → Dismissed (with_top top d) e → marks_at_least d (with_top top d) x y ≡ false → marks_at_least (with_top top d) e x y ≡ false
      → marks_at_least d e x y ≡ false
  least None goes first second = second
  least (Some t) (inl same) first second = ap (λ (m : Desktop). marks_at_least d m x y) same ∙ first
  least (Some t) (inr (c, goes)) first second =
      false_from_ne_true (marks_at_least d e x y)
      (λ marked. differ
      (sym (or-none (marks_at_least d (lifted t.client t.surface d) x y) (marks_at_least (lifted t.client t.surface d) e x y) first second)
      ∙ press-marks-at-least (λ p. p.popup.has_grab) c t.client t.surface d e whole goes x y marked))

  -- what may be marked as it is raised
  most-raised : (top : Option Target) → Dismissed (with_top top d) e → marks_at_most d (with_top top d) (moved_up top d.standing) x y ≡ true
      → marks_at_most d e (moved_up top d.standing) x y ≡ true
  most-raised None goes marked = absurd (differ (sym (still d x y apart).1 ∙ marked))
  most-raised (Some t) (inl same) marked = ap (λ (m : Desktop). marks_at_most d m (moved_up (Some t) d.standing) x y) same ∙ marked
  most-raised (Some t) (inr (c, goes)) marked = at (is_topmost t.client t.surface d.standing) refl marked
    where
      at : (b : Bool) → is_topmost t.client t.surface d.standing ≡ b
          → marks_at_most d (lifted t.client t.surface d) (if b then None else Some (t.client, t.surface)) x y ≡ true
          → marks_at_most d e (if b then None else Some (t.client, t.surface)) x y ≡ true
      at true top marked =
          absurd (differ (sym (still d x y apart).1 ∙ ap (λ (m : Desktop). marks_at_most d m None x y) (sym (top-stays t.client t.surface d whole top)) ∙ marked))
      at false top marked =
          (press-marks-at-most (λ p. p.popup.has_grab) c t.client t.surface d e whole goes x y).0 (raised-within t.client t.surface d whole x y marked)

  -- and what has to be as they are dismissed
  most-released : (top : Option Target) → Dismissed (with_top top d) e → marks_at_least (with_top top d) e x y ≡ true
      → marks_at_most d e (moved_up top d.standing) x y ≡ true
  most-released None goes marked = or_left (marks_at_least d e x y) _ marked
  most-released (Some t) (inl same) marked =
      absurd (differ (sym (still (lifted t.client t.surface d) x y (sound_is_distinct (lifted t.client t.surface d) up.trees.sound)).0
      ∙ ap (λ (m : Desktop). marks_at_least (lifted t.client t.surface d) m x y) (sym same) ∙ marked))
    where
      up : IsWhole (lifted t.client t.surface d)
      up = (stays-whole t.client t.surface (record { x = pos 0; y = pos 0 }) d whole).0
  most-released (Some t) (inr (c, goes)) marked = at (is_topmost t.client t.surface d.standing) refl
    where
      at : (b : Bool) → is_topmost t.client t.surface d.standing ≡ b → marks_at_most d e (if b then None else Some (t.client, t.surface)) x y ≡ true
      at true top =
          or_left (marks_at_least d e x y) _ (ap (λ (m : Desktop). marks_at_least m e x y) (sym (top-stays t.client t.surface d whole top)) ∙ marked)
      at false top = (press-marks-at-most (λ p. p.popup.has_grab) c t.client t.surface d e whole goes x y).1 marked

-- ---- on what is to be painted

-- What was marked as the toplevel was raised, and as the popups were dismissed, is what the press has to mark, and no more than it may.
pub released-change : NothingMarked → (d e : Desktop) (top : Option Target) (old raised new : Damaged) → Ordered d → ShownStand d → Dismissed (with_top top d) e → IsAsLarge old raised
    → MarksChange (moved_up top d.standing) d (with_top top d) old raised → MarksJust (with_top top d) e raised new → MarksChange (moved_up top d.standing) d e old new
released-change still d e top old raised new ordered shown goes large change just = (
  λ x y wide high clean.
      let none = sym (points x y wide high) ∙ clean in
      let first = change.0 x y wide high (or-left (has raised x y) _ none) in
      (first.0, least still d e whole (pos x) (pos y) top goes first.1 (or-right (has raised x y) _ none)),
  λ x y wide high full.
      either-of ((has old x y || marks_at_most d e (moved_up top d.standing) (pos x) (pos y)) ≡ true) (has raised x y) (marks_at_least (with_top top d) e (pos x) (pos y))
      (sym (points x y wide high) ∙ full)
      (λ was.
      either-of ((has old x y || marks_at_most d e (moved_up top d.standing) (pos x) (pos y)) ≡ true) (has old x y)
      (marks_at_most d (with_top top d) (moved_up top d.standing) (pos x) (pos y)) (change.1 x y wide high was)
      (or_left (has old x y) _) (λ more. or_right (has old x y) _ (most-raised still d e whole (pos x) (pos y) top goes more)))
      (λ gone. or_right (has old x y) _ (most-released still d e whole (pos x) (pos y) top goes gone)),
)
  where
    whole : IsWhole d
    whole = whole-so d ordered shown

    points : (x y : ℕ) → x < old.width → y < old.height → has new x y ≡ (has raised x y || marks_at_least (with_top top d) e (pos x) (pos y))
    points x y wide high = just x y (subst (λ (n : ℕ). x < n) (sym large.width) wide) (subst (λ (n : ℕ). y < n) (sym large.height) high)

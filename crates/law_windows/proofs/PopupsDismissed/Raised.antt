-- What is marked where a press raises a toplevel and then dismisses popups of a client.
use Rattle.std.proofs.Common.{◌≡◌, ℕ, Bool, true, false, List, Some, refl, ap, sym, ◌∙◌}
use Rattle.std.specs.Prelude.{ℤ, ◌-ℤ◌, ◌==◌, ◌&&◌, ◌||◌, filter, not}
use Rattle.std.specs.List.{list_any}
use Rattle.std.proofs.lemmas.Bool.{and_from, eqb-true, or_left, or_right}
use Rattle.std.proofs.lemmas.List.Folds.{list_any-append}
use Rattle.wl_shell.specs.Popups.{Popped}
use Rattle.spec_desktop.specs.Popups.{origin}
use Rattle.spec_desktop.specs.Windows.{Window, contains}
use Rattle.spec_desktop.specs.Desktop.{Desktop}
use Rattle.spec_desktop.specs.Marks.{has_changed_tree, in_output, is_allowed_at, is_changed_at, is_raised}
use Rattle.spec_desktop.specs.Moments.{applied_between, marks_at_least, marks_at_most}
use Rattle.spec_desktop.specs.Stacked.{all_windows}
use Rattle.law_desktop.proofs.Marks.Stacks.{equal-numbers}
use Rattle.law_desktop.proofs.Marks.Together.{unmarked-together}
use Rattle.law_desktop.specs.Changes.{HasTrees}
use Rattle.law_desktop.specs.Toplevel.{has_toplevel}
use Rattle.law_windows.specs.Runs.Moves.{IsWhole, lifted}
use Rattle.law_windows.proofs.OneToplevel.Shifted.{raises-lift-runs, stays-whole}
use Rattle.law_desktop.proofs.MessageWays.Gone.{all-distinct}
use Rattle.law_desktop.proofs.Truth.{and-left, and-right, differ}
use Rattle.law_desktop.proofs.Lists.Tests.{any-more}
use Rattle.law_desktop.proofs.Lists.Left.{any-there}
use Rattle.law_desktop.proofs.Lists.Each.{each-of}
use Rattle.law_windows.specs.Grabs.Dismissed.{Dismisses}
use Rattle.law_windows.specs.Grabs.Presses.{PressMarksAtLeast, PressMarksAtMost}
use Rattle.law_windows.proofs.PopupsDismissed.Gone.{windows-go}
use Rattle.law_windows.proofs.PopupsDismissed.Marked.{dismissal-marks, gone-changed, nothing-applied}

module _ (is : Popped → Bool) (c other t : ℕ) (d e : Desktop) (whole : IsWhole d) (goes : Dismisses is c (lifted other t d) e) (x y : ℤ) where
  abbrev mid : Desktop
  mid = lifted other t d

  has : HasTrees (lifted other t d)
  has = (stays-whole other t origin d whole).0.trees

  at-least : marks_at_least d e x y ≡ true → (marks_at_least d mid x y || marks_at_least mid e x y) ≡ true
  at-least marked = at (marks_at_least d mid x y) refl (marks_at_least mid e x y) refl
    where
      at : (a : Bool) → marks_at_least d (lifted other t d) x y ≡ a → (b : Bool) → marks_at_least (lifted other t d) e x y ≡ b → (a || b) ≡ true
      at true f b g = refl
      at false f true g = refl
      at false f false g =
          absurd (differ
          (sym (unmarked-together d.output.width d.output.height (applied_between d (lifted other t d)) (applied_between (lifted other t d) e) (applied_between d e)
          (all_windows d) (all_windows (lifted other t d)) (all_windows e) x y (all-distinct d whole.trees)
          (each-of (λ w. applied_between d (lifted other t d) w.owner.client w.surface (x -ℤ w.corner.x) (y -ℤ w.corner.y) ≡ false
          → applied_between d e w.owner.client w.surface (x -ℤ w.corner.x) (y -ℤ w.corner.y) ≡ false)
          (λ w none. nothing-applied is c (lifted other t d) e has goes w (x -ℤ w.corner.x) (y -ℤ w.corner.y)) (all_windows e)) f g)
          ∙ marked))

  -- the same windows are there as it is raised
  from-mid : (p : Window → Bool) → list_any p (all_windows mid) ≡ true → list_any p (all_windows d) ≡ true
  from-mid p any =
      at (list_any p (filter (λ w. not (has_toplevel other t w)) (all_windows d))) refl
      (sym (ap (list_any p) (raises-lift-runs other t d whole.trees)
      ∙ list_any-append p (filter (λ w. not (has_toplevel other t w)) (all_windows d)) (filter (λ w. has_toplevel other t w) (all_windows d))) ∙ any)
    where
      at : (b : Bool) → list_any p (filter (λ w. not (has_toplevel other t w)) (all_windows d)) ≡ b
          → (b || list_any p (filter (λ w. has_toplevel other t w) (all_windows d))) ≡ true → list_any p (all_windows d) ≡ true
      at true f g = any-there p (λ w. not (has_toplevel other t w)) (all_windows d) f
      at false f g = any-there p (λ w. has_toplevel other t w) (all_windows d) g

  dismissed-at-most : marks_at_least mid e x y ≡ true → marks_at_most d e (Some (other, t)) x y ≡ true
  dismissed-at-most marked =
      let gone = sym (dismissal-marks is c mid e has goes x y) ∙ marked in
      or_left (marks_at_least d e x y) _
      (and_from (in_output d.output.width d.output.height x y) _ (and-left (in_output d.output.width d.output.height x y) _ gone)
      (or_left _ _ (or_left (list_any (is_changed_at (all_windows e) x y) (all_windows d)) _
      (from-mid (is_changed_at (all_windows e) x y)
      (ap (λ (ws : List Window). list_any (is_changed_at ws x y) (all_windows mid)) (windows-go is c mid e goes has)
      ∙ gone-changed is c mid e has goes x y (and-right (in_output d.output.width d.output.height x y) _ gone))))))

  raised-at-most : (in_output d.output.width d.output.height x y && list_any (λ w. contains w x y && has_toplevel other t w) (all_windows d)) ≡ true
      → marks_at_most d e (Some (other, t)) x y ≡ true
  raised-at-most raised =
      or_right (marks_at_least d e x y) _
      (and_from (in_output d.output.width d.output.height x y) _ (and-left (in_output d.output.width d.output.height x y) _ raised)
      (or_left (list_any (is_allowed_at (all_windows d) (all_windows e) (Some (other, t)) x y) (all_windows d)) _
      (any-more (λ w. contains w x y && has_toplevel other t w) (is_allowed_at (all_windows d) (all_windows e) (Some (other, t)) x y)
      (λ w f. and_from (contains w x y) _ (and-left (contains w x y) (has_toplevel other t w) f)
      (or_right (has_changed_tree (all_windows d) (all_windows e) w) _ (turned w (and-right (contains w x y) (has_toplevel other t w) f))))
      (all_windows d) (and-right (in_output d.output.width d.output.height x y) _ raised))))
    where
      turned : (w : Window) → has_toplevel other t w ≡ true → is_raised (Some (other, t)) w ≡ true
      turned w own =
          and_from (w.owner.client == other) (w.owner.toplevel == t)
          (equal-numbers w.owner.client other (sym (eqb-true other w.owner.client (and-left (other == w.owner.client) (t == w.owner.toplevel) own))))
          (equal-numbers w.owner.toplevel t (sym (eqb-true t w.owner.toplevel (and-right (other == w.owner.client) (t == w.owner.toplevel) own))))

pub press-marks-at-least : PressMarksAtLeast
press-marks-at-least is c other t d e whole goes x y marked = at-least is c other t d e whole goes x y marked

pub press-marks-at-most : PressMarksAtMost
press-marks-at-most is c other t d e whole goes x y =
    (raised-at-most is c other t d e whole goes x y, dismissed-at-most is c other t d e whole goes x y)

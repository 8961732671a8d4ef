-- What is marked where popups of a client are dismissed.
use Rattle.std.proofs.Common.{◌≡◌, ℕ, ℤ, Bool, true, false, cond, List, [], ◌∷◌, refl, ap, sym, subst, ◌∙◌, inl, inr}
use Rattle.std.specs.Prelude.{◌==◌, ◌&&◌, ◌||◌, filter, not}
use Rattle.std.specs.List.{list_any}
use Rattle.std.proofs.lemmas.Bool.{and_from, eqb-false, eqb-true, false_from_ne_true, or_left}
use Rattle.wl_surface.specs.Surfaces.{history_in}
use Rattle.wl_shell.specs.Popups.{Popped}
use Rattle.spec_desktop.specs.Windows.{Window, contains}
use Rattle.spec_desktop.specs.Desktop.{Desktop}
use Rattle.spec_desktop.specs.Marks.{AreDistinct, at_least, in_output, is_changed_at, is_kept_in, is_same_surface}
use Rattle.spec_desktop.specs.Moments.{applied_between, marks_at_least}
use Rattle.spec_desktop.specs.Stacked.{all_windows}
use Rattle.law_desktop.proofs.Marks.Stacks.{any-recorded, surface-turned}
use Rattle.law_desktop.specs.Changes.{HasTrees}
use Rattle.law_desktop.proofs.RootsOf.Away.{IsIn}
use Rattle.law_desktop.proofs.RootsOf.Kept.{same-undamaged, surfaces_in}
use Rattle.law_desktop.proofs.MessageWays.Gone.{all-distinct}
use Rattle.law_desktop.proofs.MessageWays.Lists.{is_gone_at, least-gone}
use Rattle.law_desktop.proofs.Truth.{and-left, and-right, differ, or-left, or-right, truth as same-tests}
use Rattle.law_desktop.proofs.Lists.Each.{Each}
use Rattle.law_desktop.proofs.Lists.Tests.{any-more}
use Rattle.law_desktop.proofs.Lists.Standings.{none-left}
use Rattle.law_windows.specs.Grabs.Dismissed.{Dismisses, is_of_dismissed, is_of_others}
use Rattle.law_windows.specs.Grabs.Marks.{DismissalMarks}
use Rattle.law_windows.proofs.PopupsDismissed.Gone.{windows-go}
use Rattle.law_windows.proofs.Lists.{any-in, one-that}

-- ---- truth

not-twice : (b : Bool) → not (not b) ≡ b
not-twice true = refl
not-twice false = refl

-- ---- lists

each-in : {X : Type 0} (P : X → Type 0) (xs : List X) → Each P xs → (x : X) → IsIn x xs → P x
each-in P [] each x among = absurd among
each-in P (y ∷ ys) each x (inl same) = subst P same each.0
each-in P (y ∷ ys) each x (inr among) = each-in P ys each.1 x among

-- ---- windows that go, where no surface has two

-- one that goes has no window of its surface among those that stay
gone-distinct : (keep : Window → Bool) (ws : List Window) → AreDistinct ws → Each (λ w. keep w ≡ false → list_any (is_same_surface w) (filter keep ws) ≡ false) ws
gone-distinct keep [] distinct = tt
gone-distinct keep (w ∷ ws) distinct = (
  λ goes.
      ap (λ b. list_any (is_same_surface w) (cond b (w ∷ filter keep ws) (filter keep ws))) goes ∙ none-left (is_same_surface w) keep ws distinct.0,
  later ws distinct.0 (gone-distinct keep ws distinct.1),
)
  where
    at : (v : Window) → is_same_surface w v ≡ false → list_any (is_same_surface v) (filter keep ws) ≡ false → (b : Bool)
        → list_any (is_same_surface v) (cond b (w ∷ filter keep ws) (filter keep ws)) ≡ false
    at v other none true = ap (λ b. b || list_any (is_same_surface v) (filter keep ws)) (false_from_ne_true (is_same_surface v w) (λ e. differ (sym other ∙ surface-turned v w e))) ∙ none
    at v other none false = none

    later : (vs : List Window) → list_any (is_same_surface w) vs ≡ false
        → Each (λ v. keep v ≡ false → list_any (is_same_surface v) (filter keep ws) ≡ false) vs
        → Each (λ v. keep v ≡ false → list_any (is_same_surface v) (filter keep (w ∷ ws)) ≡ false) vs
    later [] others each = tt
    later (v ∷ vs) others each = (
      λ goes. at v (or-left (is_same_surface w v) (list_any (is_same_surface w) vs) others) (each.0 goes) (keep w),
      later vs (or-right (is_same_surface w v) (list_any (is_same_surface w) vs) others) each.1,
    )

module _ (is : Popped → Bool) (c : ℕ) (d e : Desktop) (had : HasTrees d) (goes : Dismisses is c d e) where
  abbrev stays : Window → Bool
  stays w = is_of_others c e w

  -- nothing is applied
  same-surfaces : (n : ℕ) → surfaces_in e n ≡ surfaces_in d n
  same-surfaces n = at (n == c) refl
    where
      at : (b : Bool) → (n == c) ≡ b → surfaces_in e n ≡ surfaces_in d n
      at true f = subst (λ m. surfaces_in e m ≡ surfaces_in d m) (sym (eqb-true n c f)) goes.surfaces
      at false f = ap (λ o. o.surfaces) (goes.others n (eqb-false n c f))

  pub nothing-applied : (w : Window) (p q : ℤ) → applied_between d e w.owner.client w.surface p q ≡ false
  nothing-applied w p q = same-undamaged d e w.owner.client w.surface (ap (history_in w.surface) (same-surfaces w.owner.client)) p q

  -- ---- what has to be marked

  module _ (x y : ℤ) where
    abbrev out_at : Window → Bool
    out_at w = contains w x y && is_of_dismissed c e w

    abbrev width : ℕ
    width = d.output.width

    abbrev height : ℕ
    height = d.output.height

    left-marks : marks_at_least d e x y ≡ at_least d.output.width d.output.height (applied_between d e) (all_windows d) (filter stays (all_windows d)) x y
    left-marks = ap (λ (ws : List Window). at_least d.output.width d.output.height (applied_between d e) (all_windows d) ws x y) (windows-go is c d e goes had)

    from-marked : marks_at_least d e x y ≡ true → (in_output width height x y && list_any out_at (all_windows d)) ≡ true
    from-marked marked =
        and_from (in_output width height x y) (list_any out_at (all_windows d)) (and-left (in_output width height x y) _ marked)
        (any-more (is_gone_at stays (all_windows d) x y) out_at (λ w f. ap (λ b. contains w x y && b) (sym (not-twice (is_of_dismissed c e w))) ∙ f) (all_windows d)
        (least-gone stays (all_windows d) x y (applied_between d e) (all-distinct d had) (λ w kept p q. nothing-applied w p q) width height (sym left-marks ∙ marked)))

    pub gone-changed : list_any out_at (all_windows d) ≡ true → list_any (is_changed_at (filter stays (all_windows d)) x y) (all_windows d) ≡ true
    gone-changed any =
        one-that (list_any (is_changed_at (filter stays (all_windows d)) x y) (all_windows d) ≡ true) out_at (all_windows d) any
        (λ w among f.
        any-in (is_changed_at (filter stays (all_windows d)) x y) w (all_windows d) among
        (and_from (contains w x y) (not (is_kept_in (filter stays (all_windows d)) w)) (and-left (contains w x y) (is_of_dismissed c e w) f)
        (ap not (none-kept w among (and-right (contains w x y) (is_of_dismissed c e w) f)))))
      where
        none-kept : (w : Window) → IsIn w (all_windows d) → is_of_dismissed c e w ≡ true → is_kept_in (filter stays (all_windows d)) w ≡ false
        none-kept w among f =
            false_from_ne_true (is_kept_in (filter stays (all_windows d)) w)
            (λ kept. differ
            (sym (each-in (λ w. stays w ≡ false → list_any (is_same_surface w) (filter stays (all_windows d)) ≡ false) (all_windows d)
            (gone-distinct stays (all_windows d) (all-distinct d had)) w among (ap not f))
            ∙ any-recorded w (filter stays (all_windows d)) kept))

    to-marked : (in_output width height x y && list_any out_at (all_windows d)) ≡ true → marks_at_least d e x y ≡ true
    to-marked gone =
        left-marks
        ∙ and_from (in_output width height x y) _ (and-left (in_output width height x y) (list_any out_at (all_windows d)) gone)
        (or_left _ _ (or_left (list_any (is_changed_at (filter stays (all_windows d)) x y) (all_windows d)) _
        (gone-changed (and-right (in_output width height x y) (list_any out_at (all_windows d)) gone))))

    pub all-marks : marks_at_least d e x y ≡ (in_output d.output.width d.output.height x y && list_any (λ w. contains w x y && is_of_dismissed c e w) (all_windows d))
    all-marks = same-tests (marks_at_least d e x y) (in_output width height x y && list_any out_at (all_windows d)) from-marked to-marked

pub dismissal-marks : DismissalMarks
dismissal-marks is c d e had goes x y = all-marks is c d e had goes x y

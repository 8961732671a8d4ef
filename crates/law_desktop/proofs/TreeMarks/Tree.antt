-- What is marked lies in the windows of the tree, where the others are the very same.
use Rattle.std.proofs.Common.{◌≡◌, Bool, true, List, ◌++◌, sym, ◌∙◌}
use Rattle.std.specs.Prelude.{ℤ, ◌&&◌, ◌||◌, not}
use Rattle.std.specs.List.{list_any}
use Rattle.std.proofs.lemmas.Bool.{and_from, or_left, or_right}
use Rattle.spec_desktop.specs.Windows.{Window, contains}
use Rattle.spec_desktop.specs.Marks.{Applied, AreDistinct, has_moved_past, has_same_record, in_output, is_before, is_changed_at, is_damaged_at, is_kept_in, is_restacked_at, is_same_surface, shared_by}
use Rattle.law_desktop.specs.TreeMarksLaws.{AreUndamaged, MarksTreeAlone, among, is_in_any, is_struck_at}
use Rattle.law_desktop.proofs.Lists.Tests.{any-first, any-more, any-of, any-second, any-three}
use Rattle.law_desktop.proofs.TreeMarks.Records.{apart-first, apart-second, before-first, before-in-first, before-in-second, before-second, distinct-second, each-kept, one-before, same-self}
use Rattle.law_desktop.proofs.TreeMarks.Damage.{first-undamaged, none-changed, none-damaged, second-undamaged}
use Rattle.law_desktop.proofs.Truth.{and-left, and-right, differ, either-of}
use Rattle.law_desktop.proofs.Lists.Each.{Each, each-map}

-- ---- a window that another moved past, or that moved past another, is one of the tree

module _ (below above was is : List Window) (apart : AreDistinct (among below above was)) (apart' : AreDistinct (among below above is)) (w v : Window)
    (before : is_before w v (among below above was) ≡ true) (after : is_before v w (among below above is) ≡ true) where
  -- what stands before one of those below is below, in the same order in both lists
  not-below : list_any (is_same_surface w) below ≡ true → ⊥
  not-below there =
      one-before w v (among below above was) apart before
      (before-first v w below (was ++ above) (before-in-first v w below (is ++ above) (apart-second w below (is ++ above) apart' there) after))

  -- what stands after one of those above is above, in the same order in both lists
  not-above : list_any (is_same_surface w) above ≡ true → ⊥
  not-above there =
      let upper = any-second (is_same_surface w) was above there in
      let second = before-in-second w v below (was ++ above) (apart-first w below (was ++ above) apart upper) before in
      let third = before-in-second w v was above (apart-first w was above (distinct-second below (was ++ above) apart) there) second in
      one-before w v (among below above is) apart' (before-second w v below (is ++ above) (before-second w v is above third)) after

  module _ (x y : ℤ) where
    abbrev is_at : Window → Bool
    is_at a = is_same_surface w a && contains a x y

    -- where its window holds the point, one of the tree's does
    in-tree : (ws : List Window) → list_any is_at (among below above ws) ≡ true → is_in_any x y ws ≡ true
    in-tree ws here =
        any-three (is_in_any x y ws ≡ true) is_at below ws above here
        (λ e. absurd (not-below (surface-there below e)))
        (λ e. any-more is_at (λ a. contains a x y) (λ a f. and-right (is_same_surface w a) (contains a x y) f) ws e)
        (λ e. absurd (not-above (surface-there above e)))
      where
        surface-there : (xs : List Window) → list_any is_at xs ≡ true → list_any (is_same_surface w) xs ≡ true
        surface-there xs e = any-more is_at (is_same_surface w) (λ a f. and-left (is_same_surface w a) (contains a x y) f) xs e

    shared-in-tree : (shared_by (among below above was) w v x y || shared_by (among below above is) w v x y) ≡ true
        → (is_in_any x y was || is_in_any x y is) ≡ true
    shared-in-tree shares =
        either-of ((is_in_any x y was || is_in_any x y is) ≡ true) (shared_by (among below above was) w v x y)
        (shared_by (among below above is) w v x y) shares
        (λ e. or_left (is_in_any x y was) (is_in_any x y is) (in-tree was (and-left (list_any is_at (among below above was)) _ e)))
        (λ e. or_right (is_in_any x y was) (is_in_any x y is) (in-tree is (and-left (list_any is_at (among below above is)) _ e)))

-- ---- what is marked

module _ (below above was is : List Window) (x y : ℤ) where
  abbrev old : List Window
  old = among below above was

  abbrev new : List Window
  new = among below above is

  abbrev moves : Window → Window → Bool
  moves w v = has_moved_past old new w v && (shared_by old w v x y || shared_by new w v x y)

  restacked-in-tree : AreDistinct old → AreDistinct new → is_restacked_at old new x y ≡ true → (is_in_any x y was || is_in_any x y is) ≡ true
  restacked-in-tree apart apart' e =
      any-of ((is_in_any x y was || is_in_any x y is) ≡ true) (λ w. list_any (moves w) old) old e
      (λ w f.
      any-of ((is_in_any x y was || is_in_any x y is) ≡ true) (moves w) old f
      (λ v g.
      let past = and-left (has_moved_past old new w v) (shared_by old w v x y || shared_by new w v x y) g in
      shared-in-tree below above was is apart apart' w v (and-left (is_before w v old) (is_before v w new) past)
      (and-right (is_before w v old) (is_before v w new) past) x y
      (and-right (has_moved_past old new w v) (shared_by old w v x y || shared_by new w v x y) g)))

  -- the windows below and above are kept among those, whatever the tree is
  kept-below : (ws : List Window) → Each (λ w. is_kept_in (among below above ws) w ≡ true) below
  kept-below ws =
      each-map (λ w. is_kept_in below w ≡ true) (λ w. is_kept_in (among below above ws) w ≡ true)
      (λ w e. any-first (has_same_record w) below (ws ++ above) e) below (each-kept below below (same-self below))

  kept-above : (ws : List Window) → Each (λ w. is_kept_in (among below above ws) w ≡ true) above
  kept-above ws =
      each-map (λ w. is_kept_in above w ≡ true) (λ w. is_kept_in (among below above ws) w ≡ true)
      (λ w e. any-second (has_same_record w) below (ws ++ above) (any-second (has_same_record w) ws above e)) above
      (each-kept above above (same-self above))

  -- a window of those that changed is one of the tree
  changed-in-tree : (others ws : List Window) → list_any (is_changed_at (among below above others) x y) (among below above ws) ≡ true → is_in_any x y ws ≡ true
  changed-in-tree others ws e =
      any-three (is_in_any x y ws ≡ true) (is_changed_at (among below above others) x y) below ws above e
      (λ f. absurd (differ (sym (none-changed x y (among below above others) below (kept-below others)) ∙ f)))
      (λ f. any-more (is_changed_at (among below above others) x y) (λ w. contains w x y)
      (λ w g. and-left (contains w x y) (not (is_kept_in (among below above others) w)) g) ws f)
      (λ f. absurd (differ (sym (none-changed x y (among below above others) above (kept-above others)) ∙ f)))

  -- and so is one of those that are damaged
  damaged-in-tree : (applied : Applied) → AreUndamaged applied (below ++ above) → list_any (is_damaged_at applied old x y) new ≡ true → is_in_any x y is ≡ true
  damaged-in-tree applied undamaged e =
      any-three (is_in_any x y is ≡ true) (is_damaged_at applied old x y) below is above e
      (λ f. absurd (differ (sym (none-damaged x y applied old below (first-undamaged applied below above undamaged)) ∙ f)))
      (λ f. any-more (is_damaged_at applied old x y) (λ w. contains w x y)
      (λ w g. and-left (contains w x y) _ (and-right (is_kept_in old w) (is_struck_at applied x y w) g)) is f)
      (λ f. absurd (differ (sym (none-damaged x y applied old above (second-undamaged applied below above undamaged)) ∙ f)))

  abbrev In : Type 0
  In = (is_in_any x y was || is_in_any x y is) ≡ true

  marked-in-tree : (applied : Applied) → AreDistinct old → AreDistinct new → AreUndamaged applied (below ++ above)
      → ((list_any (is_changed_at new x y) old || list_any (is_changed_at old x y) new) || (list_any (is_damaged_at applied old x y) new || is_restacked_at old new x y)) ≡ true → In
  marked-in-tree applied apart apart' undamaged marked =
      either-of In (list_any (is_changed_at new x y) old || list_any (is_changed_at old x y) new)
      (list_any (is_damaged_at applied old x y) new || is_restacked_at old new x y) marked
      (λ e. either-of In (list_any (is_changed_at new x y) old) (list_any (is_changed_at old x y) new) e
      (λ f. or_left (is_in_any x y was) (is_in_any x y is) (changed-in-tree is was f))
      (λ f. or_right (is_in_any x y was) (is_in_any x y is) (changed-in-tree was is f)))
      (λ e. either-of In (list_any (is_damaged_at applied old x y) new) (is_restacked_at old new x y) e
      (λ f. or_right (is_in_any x y was) (is_in_any x y is) (damaged-in-tree applied undamaged f)) (restacked-in-tree apart apart'))

pub marks-tree-alone : MarksTreeAlone
marks-tree-alone below above was is applied apart apart' undamaged width height x y marked =
    and_from (in_output width height x y) (is_in_any x y was || is_in_any x y is) (and-left (in_output width height x y) _ marked)
    (marked-in-tree below above was is x y applied apart apart' undamaged (and-right (in_output width height x y) _ marked))

-- Where the windows of a tree keep their records, and the others are the very same, damage alone is marked.
use Rattle.std.proofs.Common.{◌≡◌, ℕ, Bool, true, false, List, [], ◌∷◌, ◌++◌, ap, ◌∙◌}
use Rattle.std.specs.Prelude.{ℤ, ◌-ℤ◌, ◌&&◌, ◌||◌, not}
use Rattle.std.specs.List.{list_any}
use Rattle.std.proofs.lemmas.Bool.{and_right, false_from_ne_true}
use Rattle.spec_desktop.specs.Windows.{Window, contains}
use Rattle.spec_desktop.specs.Marks.{Applied, AreDistinct, at_least, has_moved_past, in_output, is_before, is_changed_at, is_damaged_at, is_kept_in, is_restacked_at, shared_by}
use Rattle.law_desktop.proofs.Marks.Stacks.{AreSame}
use Rattle.law_desktop.specs.TreeMarksLaws.{AreUndamaged, MarksDamageAlone, among, is_struck_at}
use Rattle.law_desktop.proofs.Lists.Tests.{any-as, any-middle, any-none, any-of, each-false, none-first, none-second}
use Rattle.law_desktop.proofs.TreeMarks.Records.{before-same, each-kept, one-before, same-append, same-self, same-tested, same-turned}
use Rattle.law_desktop.proofs.Truth.{and-left, and-right}
use Rattle.law_desktop.proofs.Lists.Each.{Each, each-first, each-map, each-second}

module _ (x y : ℤ) where
  -- windows that others keep are unchanged
  pub none-changed : (others ws : List Window) → Each (λ w. is_kept_in others w ≡ true) ws → list_any (is_changed_at others x y) ws ≡ false
  none-changed others ws kept =
      any-none (is_changed_at others x y) ws
      (each-map (λ w. is_kept_in others w ≡ true) (λ w. is_changed_at others x y w ≡ false)
      (λ w e. and_right (contains w x y) (not (is_kept_in others w)) (ap (λ b. not b) e)) ws kept)

  -- no damage, no mark
  pub none-damaged : (applied : Applied) (others ws : List Window) → AreUndamaged applied ws → list_any (is_damaged_at applied others x y) ws ≡ false
  none-damaged applied others ws undamaged = any-none (is_damaged_at applied others x y) ws (clear ws undamaged)
    where
      clear : (ws : List Window) → AreUndamaged applied ws → Each (λ w. is_damaged_at applied others x y w ≡ false) ws
      clear [] undamaged = tt
      clear (w ∷ ws) undamaged = (
        and_right (is_kept_in others w) (is_struck_at applied x y w)
            (and_right (contains w x y) (applied w.owner.client w.surface (x -ℤ w.corner.x) (y -ℤ w.corner.y))
            (each-false (λ v. applied v.owner.client v.surface (x -ℤ w.corner.x) (y -ℤ w.corner.y)) (w ∷ ws) (undamaged (x -ℤ w.corner.x) (y -ℤ w.corner.y))).0),
        clear ws (λ u v. (none-second (λ z. applied z.owner.client z.surface u v) (w ∷ []) ws (undamaged u v))),
      )

  -- of windows that others keep, the damage is marked
  struck : (applied : Applied) (others ws : List Window) → Each (λ w. is_kept_in others w ≡ true) ws
      → list_any (is_damaged_at applied others x y) ws ≡ list_any (is_struck_at applied x y) ws
  struck applied others ws kept =
      any-as (is_damaged_at applied others x y) (is_struck_at applied x y) ws
      (each-map (λ w. is_kept_in others w ≡ true) (λ w. is_damaged_at applied others x y w ≡ is_struck_at applied x y w)
      (λ w e. ap (λ b. b && is_struck_at applied x y w) e) ws kept)

  -- one moved past the other, and both hold the point
  abbrev moves : List Window → List Window → Window → Window → Bool
  moves old new w v = has_moved_past old new w v && (shared_by old w v x y || shared_by new w v x y)

  -- of windows that stand in the same order none moved past another
  none-restacked : (old new : List Window) → AreSame old new → AreDistinct old → is_restacked_at old new x y ≡ false
  none-restacked old new same apart =
      false_from_ne_true (is_restacked_at old new x y)
      (λ e.
      any-of ⊥ (λ w. list_any (moves old new w) old) old e
      (λ w f.
      any-of ⊥ (moves old new w) old f
      (λ v g.
      let past = and-left (has_moved_past old new w v) (shared_by old w v x y || shared_by new w v x y) g in
      one-before w v old apart (and-left (is_before w v old) (is_before v w new) past)
      (before-same v w old new same ∙ and-right (is_before w v old) (is_before v w new) past))))

pub first-undamaged : (applied : Applied) (xs ys : List Window) → AreUndamaged applied (xs ++ ys) → AreUndamaged applied xs
first-undamaged applied xs ys undamaged = λ x y. none-first (λ w. applied w.owner.client w.surface x y) xs ys (undamaged x y)

pub second-undamaged : (applied : Applied) (xs ys : List Window) → AreUndamaged applied (xs ++ ys) → AreUndamaged applied ys
second-undamaged applied xs ys undamaged = λ x y. none-second (λ w. applied w.owner.client w.surface x y) xs ys (undamaged x y)

damage-left : (out changed came damaged moved hit : Bool) → changed ≡ false → came ≡ false → moved ≡ false → damaged ≡ hit
    → (out && ((changed || came) || (damaged || moved))) ≡ (out && hit)
damage-left out false false true false hit e f g h = ap (λ b. out && b) h
damage-left out false false false false hit e f g h = ap (λ b. out && b) h
damage-left out true came damaged moved hit e f g h = absurd (cc)
damage-left out false true damaged moved hit e f g h = absurd (cc)
damage-left out false false damaged true hit e f g h = absurd (cc)

module _ (below above was is : List Window) (same : AreSame was is) where
  abbrev old : List Window
  old = among below above was

  abbrev new : List Window
  new = among below above is

  alike : AreSame old new
  alike = same-append below below (was ++ above) (is ++ above) (same-self below) (same-append was is above above same (same-self above))

  kept : Each (λ w. is_kept_in old w ≡ true) new
  kept = each-kept new old (same-turned old new alike)

  kept-tree : Each (λ w. is_kept_in old w ≡ true) is
  kept-tree = each-first (λ w. is_kept_in old w ≡ true) is above (each-second (λ w. is_kept_in old w ≡ true) below (is ++ above) kept)

  damage-alone : (applied : Applied) → AreDistinct old → AreUndamaged applied (below ++ above) → (width height : ℕ) (x y : ℤ)
      → at_least width height applied old new x y ≡ (in_output width height x y && list_any (is_struck_at applied x y) is)
  damage-alone applied apart undamaged width height x y =
      damage-left (in_output width height x y) (list_any (is_changed_at new x y) old) (list_any (is_changed_at old x y) new)
      (list_any (is_damaged_at applied old x y) new) (is_restacked_at old new x y) (list_any (is_struck_at applied x y) is)
      (none-changed x y new old (each-kept old new alike)) (none-changed x y old new kept) (none-restacked x y old new alike apart)
      (any-middle (is_damaged_at applied old x y) below is above
      (none-damaged x y applied old below (first-undamaged applied below above undamaged))
      (none-damaged x y applied old above (second-undamaged applied below above undamaged))
      ∙ struck x y applied old is kept-tree)

pub marks-damage-alone : MarksDamageAlone
marks-damage-alone below above was is applied apart undamaged same width height x y =
    damage-alone below above was is (same-tested was is same) applied apart undamaged width height x y

-- What is marked on the ways of a message.
use Rattle.std.proofs.Common.{◌≡◌, List, [], ◌∷◌, Bool, true, false, None, refl, ap, sym, subst, ◌∙◌, inl, inr}
use Rattle.std.specs.Prelude.{ℤ, ◌⊎◌, ◌&&◌, ◌||◌}
use Rattle.std.proofs.lemmas.Bool.{false_from_ne_true, or_left, or_right}
use Rattle.spec_desktop.specs.Told.{Output}
use Rattle.spec_desktop.specs.Windows.{Window, contains}
use Rattle.spec_desktop.specs.Desktop.{Desktop}
use Rattle.spec_desktop.specs.Marks.{at_least, in_output}
use Rattle.spec_desktop.specs.Moments.{applied_between, marks_at_least, marks_at_least_through, marks_at_most, marks_at_most_through}
use Rattle.spec_desktop.specs.Stacked.{all_windows}
use Rattle.law_desktop.specs.Touching.{has_window_at}
use Rattle.law_desktop.specs.Changes.{HasTrees}
use Rattle.law_desktop.specs.WaysLaws.{StruckMarks, TwiceMarks}
use Rattle.law_desktop.proofs.MessageWays.Gone.{all-distinct, gone_marks_least, gone_marks_most, same-applied}
use Rattle.law_desktop.proofs.MessageWays.Lists.{any-never, filter-every, is_gone_at, least-gone}
use Rattle.law_desktop.proofs.Truth.{differ}

-- ---- one desktop that leads to itself

-- where nothing changes, nothing is marked
pub still-unmarked : (e : Desktop) (x y : ℤ) → HasTrees e → marks_at_least e e x y ≡ false
still-unmarked e x y has =
    false_from_ne_true (marks_at_least e e x y)
    (λ marked. differ (sym (any-never (is_gone_at (λ w. true) (all_windows e) x y) (λ w. none (contains w x y)) (all_windows e))
    ∙ least-gone (λ w. true) (all_windows e) x y (applied_between e e) (all-distinct e has)
    (λ w kept p q. same-applied e e w.owner.client w.surface p q refl) e.output.width e.output.height
    (subst (λ (ws : List Window). at_least e.output.width e.output.height (applied_between e e) (all_windows e) ws x y ≡ true)
    (sym (filter-every (all_windows e))) marked)))
  where
    none : (b : Bool) → (b && false) ≡ false
    none true = refl
    none false = refl

-- one of two, of which the second doesn't hold
first-alone : (a b : Bool) → (a || (b || false)) ≡ true → b ≡ false → a ≡ true
first-alone true b e f = refl
first-alone false true e f = absurd (differ (sym f))
first-alone false false e f = e

pub twice_marks : TwiceMarks
twice_marks d e path twice has x y = (
  λ marked.
      first-alone (marks_at_least d e x y) (marks_at_least e e x y)
      (subst (λ (p : List Desktop). marks_at_least_through all_windows d p x y ≡ true) twice marked) (still-unmarked e x y has),
  λ marked. subst (λ (p : List Desktop). marks_at_most_through all_windows None d p x y ≡ true) (sym twice) (or_left (marks_at_most d e None x y) _ marked),
)

-- ---- a client that was struck

-- one of three, of which the third doesn't hold
one-of : (a b c : Bool) → (a || (b || (c || false))) ≡ true → c ≡ false → (a ≡ true) ⊎ (b ≡ true)
one-of true b c e f = inl refl
one-of false true c e f = inr refl
one-of false false true e f = absurd (differ (sym f))
one-of false false false e f = absurd (differ e)

pub struck_marks : StruckMarks
struck_marks c r d path e s has x y = (least, most)
  where
    by : (marks_at_least d s.own x y ≡ true) ⊎ (marks_at_least s.own e x y ≡ true) → (marks_at_least d s.own x y ≡ true) ⊎ (has_window_at c x y s.own ≡ true)
    by (inl own) = inl own
    by (inr end) = inr (gone_marks_least c s.own e s.trees s.gone x y end)

    least : marks_at_least_through all_windows d path x y ≡ true → (marks_at_least d s.own x y ≡ true) ⊎ (has_window_at c x y s.own ≡ true)
    least marked =
        by (one-of (marks_at_least d s.own x y) (marks_at_least s.own e x y) (marks_at_least e e x y)
        (subst (λ (p : List Desktop). marks_at_least_through all_windows d p x y ≡ true) s.path_is marked) (still-unmarked e x y has))

    inside-own : in_output d.output.width d.output.height x y ≡ true → in_output s.own.output.width s.own.output.height x y ≡ true
    inside-own inside = ap (λ (o : Output). in_output o.width o.height x y) s.output ∙ inside

    at : in_output d.output.width d.output.height x y ≡ true → (marks_at_most d s.own None x y ≡ true) ⊎ (has_window_at c x y s.own ≡ true)
        → marks_at_most_through all_windows None d (s.own ∷ e ∷ e ∷ []) x y ≡ true
    at inside (inl own) = or_left (marks_at_most d s.own None x y) _ own
    at inside (inr there) =
        or_right (marks_at_most d s.own None x y) _
        (or_left (marks_at_most s.own e None x y) _ (gone_marks_most c s.own e s.gone x y (inside-own inside) there))

    most : in_output d.output.width d.output.height x y ≡ true → (marks_at_most d s.own None x y ≡ true) ⊎ (has_window_at c x y s.own ≡ true)
        → marks_at_most_through all_windows None d path x y ≡ true
    most inside either = subst (λ (p : List Desktop). marks_at_most_through all_windows None d p x y ≡ true) (sym s.path_is) (at inside either)

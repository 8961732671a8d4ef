-- A motion of the pointer and a button as a whole, round by round.
use Rattle.std.proofs.Common.{◌≡◌, ℕ, List, [], ◌∷◌, ◌++◌, Bool, true, false, Option, None, refl, ap, subst, sym, ◌∙◌}
use Rattle.std.specs.Prelude.{ℤ, ◌||◌}
use Rattle.spec_desktop.specs.Pointer.{is_down, is_press}
use Rattle.spec_desktop.specs.PointerActions.{Press, Release}
use Rattle.spec_desktop.specs.declared.answers.Done.TheVariants as gave
use Rattle.spec_desktop.specs.Act.{Button, Motion}
use Rattle.spec_desktop.specs.Changing.{grab_holder}
use Rattle.spec_desktop.specs.Desktop.{Desktop}
use Rattle.spec_desktop.specs.Happenings.{Happening, Leads, Single}
use Rattle.spec_desktop.specs.Happens.{PressedThen, PressesThen, ReleasedThen, ReleasesThen, placed, point_in, with_press, with_release}
use Rattle.spec_desktop.specs.Marks.{AreDistinct}
use Rattle.spec_desktop.specs.Moments.{marks_at_least_of, marks_at_least_through, marks_at_most_of, marks_at_most_through}
use Rattle.spec_desktop.specs.Settling.{Midstep, PointerActs, unstruck}
use Rattle.spec_desktop.specs.Stacked.{all_windows}
use Rattle.spec_desktop.specs.Through.{SettlesAllThrough, ending_through, raised_if}
use Rattle.law_desktop.specs.Focus.{IsSettled}
use Rattle.law_desktop.specs.Pointed.ByRounds.{ButtonsByRounds, ButtonsMayBeIdle, ButtonsRaise, LeadsByRounds, MarksOwnAndEnds, MotionsByRounds}
use Rattle.law_desktop.specs.Pointed.Whole.{AreAllRounds}
use Rattle.law_desktop.proofs.PointerAside.Marking.{last-marks-nothing, marks-own-then-rounds, same-least, same-most}
use Rattle.law_desktop.proofs.PointerAside.Rounds.{buttons-end, motions-end, rounds-settle}

module _ (d : Desktop) (told : Midstep) (rounds : List Desktop) (mid last : Midstep) (all : AreAllRounds told rounds mid last) where
  abbrev path : List Desktop
  path = rounds ++ last.desktop ∷ []

  settles : SettlesAllThrough 33 told path last.desktop × IsSettled last.desktop
  settles = rounds-settle all.count 33 told mid last rounds all.few all.each all.settles all.over

  own-and-ends : (raised : Option (ℕ × ℕ)) → AreDistinct (all_windows told.desktop) → AreDistinct (all_windows mid.desktop) → MarksOwnAndEnds raised d told.desktop rounds path
  own-and-ends raised apart mid-apart x y =
      let first = settles.0 in
      let own = marks-own-then-rounds raised d told first.0 first.2 x y apart first.1 in
      let none = last-marks-nothing all.count told mid last rounds x y mid-apart all.each all.settles in
      let least : Bool = marks_at_least_of all_windows d told.desktop x y in
      let most : Bool = marks_at_most_of all_windows d told.desktop raised x y in (
        ap (λ (ds : List Desktop). marks_at_least_through all_windows d ds x y) first.3 ∙ own.0
            ∙ ap (λ (ds : List Desktop). least || marks_at_least_through all_windows told.desktop ds x y) (sym first.3)
            ∙ ap (λ (b : Bool). least || b) none.0,
        ap (λ (ds : List Desktop). marks_at_most_through all_windows raised d ds x y) first.3 ∙ own.1
            ∙ ap (λ (ds : List Desktop). most || marks_at_most_through all_windows None told.desktop ds x y) (sym first.3)
            ∙ ap (λ (b : Bool). most || b) none.1,
      )

  by-rounds : (h : Happening) → Leads h d path last.desktop → LeadsByRounds h d told rounds mid last
  by-rounds h leads = (path, leads, settles.1, own-and-ends)

  pressed-leads : (time button : ℕ) → is_press button d.pointer.buttons ≡ true → PointerActs (Press time button (grab_holder d)) (unstruck (with_press button d)) told
      → Leads (Single (Button time button true) gave.Button) d path last.desktop
  pressed-leads time button is acts =
      let ends = buttons-end told path last.desktop settles.0 in
      let so : PressedThen time button d (ending_through path last.desktop) = (told, acts, ends.0, ends.1, ends.2) in
      (refl, subst (λ (b : Bool). PressesThen b time button d (ending_through path last.desktop)) (sym is) so)

  released-leads : (time button : ℕ) → is_down button d.pointer.buttons ≡ true → PointerActs (Release time button) (unstruck (with_release button d)) told
      → Leads (Single (Button time button false) gave.Button) d path last.desktop
  released-leads time button is acts =
      let ends = buttons-end told path last.desktop settles.0 in
      let so : ReleasedThen time button d (ending_through path last.desktop) = (told, acts, ends.0, ends.1, ends.2) in
      (refl, subst (λ (b : Bool). ReleasesThen b time button d (ending_through path last.desktop)) (sym is) so)

pub motions-by-rounds : MotionsByRounds
motions-by-rounds time x y d gone told rounds mid last goes went all =
    let there = placed (point_in d.output x y) gone in
    let ends = (motions-end time there told (rounds ++ last.desktop ∷ []) last.desktop went (settles d told rounds mid last all).0).1 in
    by-rounds d told rounds mid last all (Single (Motion time x y) gave.Motion) (refl, (gone, goes, told, went, ends))

pub buttons-by-rounds : ButtonsByRounds
buttons-by-rounds = (
  λ time button d told rounds mid last is acts all.
      by-rounds d told rounds mid last all (Single (Button time button true) gave.Button) (pressed-leads d told rounds mid last all time button is acts),
  λ time button d told rounds mid last is acts all.
      by-rounds d told rounds mid last all (Single (Button time button false) gave.Button) (released-leads d told rounds mid last all time button is acts),
)

-- ---- a button that does nothing

-- a step that ends where it began
ends-at-once : (d : Desktop) → ending_through (d ∷ []) d (unstruck d)
ends-at-once d = ([], refl, (refl, refl))

none-or : (a : Bool) → a ≡ false → (a || false) ≡ false
none-or a none = ap (λ (b : Bool). b || false) none

marks-none : (d : Desktop) → AreDistinct (all_windows d) → (x y : ℤ)
    → (marks_at_least_through all_windows d (d ∷ []) x y ≡ false) × (marks_at_most_through all_windows None d (d ∷ []) x y ≡ false)
marks-none d apart x y = (
  none-or (marks_at_least_of all_windows d d x y) (same-least d apart x y),
  none-or (marks_at_most_of all_windows d d None x y) (same-most d apart x y),
)

pub buttons-may-be-idle : ButtonsMayBeIdle
buttons-may-be-idle time button true d is = (
  (refl, subst (λ (b : Bool). PressesThen b time button d (ending_through (d ∷ []) d)) (sym is) (ends-at-once d)),
  ap (λ (b : Bool). raised_if b d) is,
  marks-none d,
)
buttons-may-be-idle time button false d is = (
  (refl, subst (λ (b : Bool). ReleasesThen b time button d (ending_through (d ∷ []) d)) (sym is) (ends-at-once d)),
  refl,
  marks-none d,
)

pub buttons-raise : ButtonsRaise
buttons-raise = (λ time button d is. ap (λ (b : Bool). raised_if b d) is, λ time button d. refl)

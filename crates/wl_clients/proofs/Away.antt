-- A client that isn't there or has ended has no window, and where it had one at a point that is marked.
use Rattle.std.proofs.Common.{◌≡◌, ◌<◌, ℕ, arith, pos, List, [], ◌∷◌, Bool, true, false, Option, Some, None, cond, refl, ap, sym, subst, ◌∙◌, inl, inr}
use Rattle.std.specs.Prelude.{ℤ, ◌⊎◌, ◌==◌, ◌&&◌, filter, is_some, not}
use Rattle.std.specs.List.{list_any}
use Rattle.std.proofs.lemmas.Bool.{and_from, eqb-true, false_from_ne_true, or_left}
use Rattle.std.proofs.lemmas.Int.{ints}
use Rattle.spec_desktop.specs.declared.cause.Cause.{Cause}
use Rattle.spec_desktop.specs.Stacking.{nothing_owned}
use Rattle.spec_desktop.specs.Windows.{Window, contains}
use Rattle.spec_desktop.specs.Desktop.{Desktop, Resident, client_at, owned_in, owned_of, status_in, status_of, toplevels_of}
use Rattle.spec_desktop.specs.Marks.{has_same_record, in_output, is_changed_at, is_kept_in}
use Rattle.spec_desktop.specs.Moments.{marks_at_least, marks_at_most}
use Rattle.spec_desktop.specs.Stacked.{all_windows}
use Rattle.law_desktop.proofs.Lists.Standings.{any-gone}
use Rattle.law_desktop.proofs.Marks.Stacks.{equal-numbers, fields}
use Rattle.law_desktop.specs.Touching.{has_window_at}
use Rattle.law_desktop.specs.InOrder.{InOrderAt}
use Rattle.law_desktop.specs.Ordered.{Ordered}
use Rattle.law_desktop.specs.Ways.{IsGone}
use Rattle.law_desktop.proofs.MessageWays.Gone.{gone_windows}
use Rattle.law_desktop.proofs.Truth.{and-left, and-right, differ, or-left, or-right}
use Rattle.law_desktop.proofs.Lists.Tests.{any-more}
use Rattle.wl_clients.proofs.Altering.{ended-bare, none-taken}

-- it isn't there, or has ended
abbrev pub IsAway : ℕ → Desktop → Type 0
IsAway c d = (client_at c d ≡ None) ⊎ (is_some (status_in c d) ≡ true)

-- ---- what it owns

-- it owns nothing, and none of its toplevels stands
away-owns : (c : ℕ) (d : Desktop) → Ordered d → IsAway c d → (owned_in d c ≡ nothing_owned) × (toplevels_of c d ≡ [])
away-owns c d ordered (inl none) = (ap owned_of none, subst (λ o. InOrderAt o (toplevels_of c d)) none (ordered.in_order.each c))
away-owns c d ordered (inr over) = at (client_at c d) refl over
  where
    by : (s : Option Cause) (r : Resident) → r.peer.status ≡ s → client_at c d ≡ Some r → is_some s ≡ true → (owned_in d c ≡ nothing_owned) × (toplevels_of c d ≡ [])
    by None r status is over = absurd (differ over)
    by (Some cause) r status is over =
        let nothing = ended-bare d c r cause ordered is status in
        (ap owned_of is ∙ ap (λ (x : Resident). x.owned) nothing.0, nothing.1)

    at : (o : Option Resident) → client_at c d ≡ o → is_some (status_of o) ≡ true → (owned_in d c ≡ nothing_owned) × (toplevels_of c d ≡ [])
    at None is over = absurd (differ over)
    at (Some r) is over = by r.peer.status r refl is over

pub away-gone : (c : ℕ) (d : Desktop) → Ordered d → IsAway c d → IsGone c d d
away-gone c d ordered away =
    let nothing = away-owns c d ordered away in
    record { nothing = nothing.0; others = λ other differ. refl; standing = sym (none-taken c d.standing nothing.1); output = refl }

-- ---- its windows

-- where none passes, all are left of those that don't
pub others-left : {X : Type 0} (p : X → Bool) (xs : List X) → list_any p xs ≡ false → filter (λ x. not (p x)) xs ≡ xs
others-left p [] none = refl
others-left p (x ∷ xs) none =
    ap (λ (b : Bool). cond (not b) (x ∷ filter (λ x. not (p x)) xs) (filter (λ x. not (p x)) xs)) (or-left (p x) (list_any p xs) none)
    ∙ ap (λ ys. x ∷ ys) (others-left p xs (or-right (p x) (list_any p xs) none))

-- where it is gone, no window is of it
pub gone-windowless : (c : ℕ) (d e : Desktop) → IsGone c d e → list_any (λ (w : Window). w.owner.client == c) (all_windows e) ≡ false
gone-windowless c d e gone =
    ap (λ ws. list_any (λ (w : Window). w.owner.client == c) ws) (gone_windows c d e gone)
    ∙ any-gone (λ (w : Window). w.owner.client == c) (λ w. not (w.owner.client == c)) (λ w f. ap (λ b. not b) f) (all_windows d)

pub away-windowless : (c : ℕ) (d : Desktop) → Ordered d → IsAway c d → list_any (λ (w : Window). w.owner.client == c) (all_windows d) ≡ false
away-windowless c d ordered away = gone-windowless c d d (away-gone c d ordered away)

pub away-nowhere : (c : ℕ) (d : Desktop) → Ordered d → IsAway c d → (x y : ℤ) → has_window_at c x y d ≡ false
away-nowhere c d ordered away x y =
    false_from_ne_true (has_window_at c x y d)
    (λ there. differ (sym (away-windowless c d ordered away)
    ∙ any-more (λ (w : Window). (w.owner.client == c) && contains w x y) (λ w. w.owner.client == c) (λ w f. and-left (w.owner.client == c) (contains w x y) f) (all_windows d) there))

-- ---- what is marked where it had some

-- where no window is of it there, none is kept
lost-changed : (c : ℕ) (x y : ℤ) (was is : List Window) → list_any (λ (w : Window). w.owner.client == c) is ≡ false
    → list_any (λ (w : Window). (w.owner.client == c) && contains w x y) was ≡ true → list_any (is_changed_at is x y) was ≡ true
lost-changed c x y was is none there =
    any-more (λ (w : Window). (w.owner.client == c) && contains w x y) (is_changed_at is x y)
    (λ w f. and_from (contains w x y) (not (is_kept_in is w)) (and-right (w.owner.client == c) (contains w x y) f)
    (ap (λ b. not b) (lost w (and-left (w.owner.client == c) (contains w x y) f)))) was there
  where
    lost : (w : Window) → (w.owner.client == c) ≡ true → is_kept_in is w ≡ false
    lost w its =
        false_from_ne_true (is_kept_in is w)
        (λ kept. differ (sym none
        ∙ any-more (has_same_record w) (λ (v : Window). v.owner.client == c)
        (λ v same. equal-numbers v.owner.client c (sym (fields w v same).client ∙ eqb-true w.owner.client c its)) is kept))

-- A point of the output at which a client had a window that is away afterwards is among what is marked at most.
pub lost-most : (c : ℕ) (d e : Desktop) (x y : ℤ) → Ordered e → IsAway c e → in_output d.output.width d.output.height x y ≡ true
    → has_window_at c x y d ≡ true → marks_at_most d e None x y ≡ true
lost-most c d e x y ordered away inside there =
    or_left (marks_at_least d e x y) _
    (and_from (in_output d.output.width d.output.height x y) _ inside
    (or_left _ _ (or_left _ _
    (lost-changed c x y (all_windows d) (all_windows e) (away-windowless c e ordered away) there))))

-- each point of an output's sides is in it
pub within-output : (width height x y : ℕ) → x < width → y < height → in_output width height (pos x) (pos y) ≡ true
within-output width height x y wide high = grind (arith, ints)

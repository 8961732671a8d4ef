-- What the calls of a desk mark.
use Rattle.std.proofs.Common.{◌≡◌, ◌<◌, ℕ, List, Bool, true, false, Option, Some, None, refl, ap, subst, sym, ◌∙◌, inl, inr}
use Rattle.std.proofs.lemmas.Bool.{false_from_ne_true, or_left, or_right}
use Rattle.std.specs.Prelude.{◌⊎◌, ◌&&◌, ◌||◌, is_none, is_some, pos}
use Rattle.spec_desktop.specs.Told.{Output as Sides}
use Rattle.spec_desktop.specs.declared.cause.Cause.{Cause}
use Rattle.wl_client.specs.declared.outputs.Output.{Output}
use Rattle.wl_paint.specs.Damage.{Damaged, has}
use Rattle.spec_desktop.specs.declared.answers.Done.{Done}
use Rattle.spec_desktop.specs.Act.{Act, Leave}
use Rattle.spec_desktop.specs.Desktop.{Desktop, Resident, client_at, status_of}
use Rattle.spec_desktop.specs.Happens.{Happens}
use Rattle.spec_desktop.specs.Moments.{marks_at_least, marks_at_most}
use Rattle.law_desktop.specs.Shown.{ShownStand}
use Rattle.law_desktop.specs.Touching.{has_window_at}
use Rattle.law_desktop.specs.Ordered.{Ordered}
use Rattle.law_desktop.proofs.RootsOf.Orders.{in-order-has-trees}
use Rattle.law_desktop.specs.Ways.{IsGone}
use Rattle.law_desktop.proofs.MessageWays.Ends.{left_is_gone}
use Rattle.law_desktop.proofs.MessageWays.Gone.{gone_marks_least}
use Rattle.law_desktop.proofs.Truth.{differ, or-left, or-right}
use Rattle.wl_requests.specs.declared.residents.Resident.{Resident as Kept}
use Rattle.wl_clients.specs.Agreement.{numbers_in}
use Rattle.wl_clients.specs.Marking.{MarksAtLeast, MarksMost, MarksOwn}
use Rattle.wl_clients.specs.Seats.{IsSeated}
use Rattle.wl_clients.specs.View.{DeskView, MarkedDesk, Pile}
use Rattle.wl_clients.specs.Agreeing.{Agrees}
use Rattle.wl_clients.specs.Feeding.{Ends}
use Rattle.wl_clients.specs.Residents.{client_views}
use Rattle.wl_clients.proofs.Away.{IsAway, away-nowhere, lost-most, within-output}
use Rattle.wl_clients.proofs.Calls.{out}
use Rattle.wl_clients.proofs.Seats.{IsHere, IsMissing, view_of}
use Rattle.wl_clients.proofs.Steps.{ends-fate}
use Rattle.wl_clients.proofs.Still.{IsStill, still-unmarked}

pub or-none : (a : Bool) → a ≡ (a || false)
or-none true = refl
or-none false = refl

-- ---- the windows stay

-- Where the windows stay, nothing has to be marked.
pub still-marks : (v : DeskView) (d e : Desktop) (damage : Damaged) → Agrees v d → IsStill d e → MarksAtLeast d e damage damage
still-marks v d e damage a still = λ x y wide high clean. (clean, still-unmarked d e a.ordered still (pos x) (pos y))

pub steps-still : (v : DeskView) (before after : Damaged) → after ≡ before → (act : Act) (done : Done) → ((d e : Desktop) → Ordered d → Happens act done d e → IsStill d e)
    → (d e : Desktop) → Agrees v d → Happens act done d e → MarksAtLeast d e before after
steps-still v before after same act done still d e a step =
    subst (λ (damage : Damaged). MarksAtLeast d e before damage) (sym same) (still-marks v d e before a (still d e a.ordered step))

-- ---- a client's windows go

-- What a client's own windows hold is to be painted, and no more.
abbrev pub AddsOwn : ℕ → Desktop → Damaged → Damaged → Type 0
AddsOwn c d old new = (x y : ℕ) → x < old.width → y < old.height → has new x y ≡ (has old x y || has_window_at c (pos x) (pos y) d)

-- That is enough where they go.
pub gone-marks : (c : ℕ) (d e : Desktop) (old new : Damaged) → Ordered d → ShownStand d → IsGone c d e → AddsOwn c d old new → MarksAtLeast d e old new
gone-marks c d e old new ordered stand gone adds = λ x y wide high clean.
    let none = sym (adds x y wide high) ∙ clean in (
      or-left (has old x y) (has_window_at c (pos x) (pos y) d) none,
      false_from_ne_true (marks_at_least d e (pos x) (pos y))
          (λ marked. differ (sym (or-right (has old x y) (has_window_at c (pos x) (pos y) d) none)
          ∙ gone_marks_least c d e (in-order-has-trees d ordered.in_order stand) gone (pos x) (pos y) marked)),
    )

-- And where nothing changes.
pub fate-marks : (c : ℕ) (v : DeskView) (d e : Desktop) (old new : Damaged) → Agrees v d → IsStill d e ⊎ IsGone c d e → AddsOwn c d old new → MarksAtLeast d e old new
fate-marks c v d e old new a (inr gone) adds = gone-marks c d e old new a.ordered a.matches.mapped gone adds
fate-marks c v d e old new a (inl still) adds = λ x y wide high clean. (
  or-left (has old x y) (has_window_at c (pos x) (pos y) d) (sym (adds x y wide high) ∙ clean),
  still-unmarked d e a.ordered still (pos x) (pos y),
)

-- one that isn't there or had ended has none
pub away-adds : (c : ℕ) (d : Desktop) (old new : Damaged) → Ordered d → IsAway c d → new ≡ old → AddsOwn c d old new
away-adds c d old new ordered away same x y wide high =
    ap (λ (damage : Damaged). has damage x y) same
    ∙ (or-none (has old x y) ∙ ap (λ b. has old x y || b) (sym (away-nowhere c d ordered away (pos x) (pos y))))

-- a client leaves
pub leaves-marked : (c : ℕ) (done : Done) (v : DeskView) (before after : Damaged) → ((d : Desktop) → Agrees v d → AddsOwn c d before after)
    → (d e : Desktop) → Agrees v d → Happens (Leave c) done d e → MarksAtLeast d e before after
leaves-marked c done v before after adds d e a step =
    gone-marks c d e before after a.ordered a.matches.mapped (left_is_gone c done d e a.ordered.in_order step) (adds d a)

-- one ends
pub ends-marked : (c : ℕ) (cause : Cause) (v : DeskView) (before after : Damaged) → ((d : Desktop) → Agrees v d → AddsOwn c d before after)
    → (d e : Desktop) → Agrees v d → Ends c cause d e → MarksAtLeast d e before after
ends-marked c cause v before after adds d e a ends =
    fate-marks c v d e before after a (ends-fate c cause d a.ordered e ends) (adds d a)

-- nobody does
pub nobody-adds : (c : ℕ) (v : MarkedDesk) → IsMissing c v → (after : Damaged) → after ≡ v.damage → (d : Desktop) → Agrees v.desk d → AddsOwn c d v.damage after
nobody-adds c v miss after same d a = away-adds c d v.damage after a.ordered (inl (miss d a.matches)) same

module _ {A : Type 0} (output : Output) (rs : List (Option (Kept A))) (pile : Pile) (c k : ℕ) (v : Kept A) (is : IsHere rs c k v) (d : Desktop)
    (a : Agrees (view_of output rs pile) d) where
  here : (s : Resident) × (client_at c d ≡ Some s) × IsSeated c (numbers_in (client_views rs)) d v pile d s
  here = out output rs pile c k v is d a.matches

  -- its own windows are marked, whether it lived or not: one that ended has none
  pub own-adds : (before after : Damaged) → MarksOwn v.client.ended c v pile before after → AddsOwn c d before after
  own-adds before after marks x y wide high =
      marks.1 (numbers_in (client_views rs)) d d here.0 here.2 a.ordered x y wide high ∙ ap (λ b. has before x y || b) (own v.client.ended here.2.seat.peer.status)
    where
      own : (o : Option Cause) → o ≡ here.0.peer.status → (is_none o && has_window_at c (pos x) (pos y) d) ≡ has_window_at c (pos x) (pos y) d
      own None e = refl
      own (Some cause) e =
          sym (away-nowhere c d a.ordered (inr (ap (λ (o : Option Resident). is_some (status_of o)) here.1 ∙ ap (λ (o : Option Cause). is_some o) (sym e))) (pos x) (pos y))

-- no more than those is marked
pub adds-within : (c : ℕ) (d : Desktop) (old new : Damaged) → AddsOwn c d old new
    → (x y : ℕ) → x < old.width → y < old.height → has new x y ≡ true → (has old x y || has_window_at c (pos x) (pos y) d) ≡ true
adds-within c d old new adds x y wide high marked = sym (adds x y wide high) ∙ marked

-- ---- what is marked at most

-- what is to be painted is of an output of the desktop's sides
abbrev pub IsSized : MarkedDesk → Desktop → Type 0
IsSized v d = (v.damage.width ≡ d.output.width) × (v.damage.height ≡ d.output.height)

pub sized : (v w : MarkedDesk) (d : Desktop) → v ≡ w → (v.damage.width ≡ v.desk.output.width) × (v.damage.height ≡ v.desk.output.height) → Agrees w.desk d → IsSized w d
sized v w d same sides a = (
  sym (ap (λ (m : MarkedDesk). m.damage.width) same) ∙ sides.0 ∙ ap (λ (m : MarkedDesk). m.desk.output.width) same ∙ ap (λ (o : Sides). o.width) a.matches.output,
  sym (ap (λ (m : MarkedDesk). m.damage.height) same) ∙ sides.1 ∙ ap (λ (m : MarkedDesk). m.desk.output.height) same ∙ ap (λ (o : Sides). o.height) a.matches.output,
)

-- A point in a window that a client had which is away afterwards is among what is marked at most.
pub away-most : (c : ℕ) (old : MarkedDesk) (d e : Desktop) → Ordered e → IsSized old d → IsAway c e
    → (x y : ℕ) → x < old.damage.width → y < old.damage.height → has_window_at c (pos x) (pos y) d ≡ true → (has old.damage x y || marks_at_most d e None (pos x) (pos y)) ≡ true
away-most c old d e later sides away x y wide high there =
    or_right (has old.damage x y) _
    (lost-most c d e (pos x) (pos y) later away
    (within-output d.output.width d.output.height x y (subst (λ w. x < w) sides.0 wide) (subst (λ h. y < h) sides.1 high)) there)

-- What is to be painted was before, or lies in a window of a client that is away then: that is no more than may be marked.
pub own-most : (c : ℕ) (old : MarkedDesk) (v : DeskView) (d e : Desktop) (new : Damaged) → Agrees old.desk d → Agrees v e → IsSized old d → IsAway c e
    → ((x y : ℕ) → x < old.damage.width → y < old.damage.height → has new x y ≡ true → (has old.damage x y || has_window_at c (pos x) (pos y) d) ≡ true) → MarksMost d e old.damage new
own-most c old v d e new a b sides away within = λ x y wide high marked.
    at x y wide high (has old.damage x y) refl (within x y wide high marked)
  where
    at : (x y : ℕ) → x < old.damage.width → y < old.damage.height → (t : Bool) → has old.damage x y ≡ t → (t || has_window_at c (pos x) (pos y) d) ≡ true
        → (has old.damage x y || marks_at_most d e None (pos x) (pos y)) ≡ true
    at x y wide high true was there = or_left (has old.damage x y) _ was
    at x y wide high false was there = away-most c old d e b.ordered sides away x y wide high there

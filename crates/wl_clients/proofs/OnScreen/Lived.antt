-- A message of a client that lives on, from the desktop to which it leads.
use Rattle.std.proofs.Common.{◌≡◌, ℕ, Bool, true, false, Option, None, List, [], ◌∷◌, refl, ap, sym, ◌∙◌, inl, inr}
use Rattle.std.specs.Prelude.{is_some, pos, ◌||◌}
use Rattle.std.proofs.lemmas.Bool.{false_from_ne_true, or_left, or_right}
use Rattle.law_desktop.proofs.Runs.Through.{messages_lead_through}
use Rattle.wl_scene.specs.StackedAgreement.{AreStacked}
use Rattle.wl_paint.specs.Damage.{Damaged, has}
use Rattle.spec_desktop.specs.declared.cause.Cause.{Cause}
use Rattle.spec_desktop.specs.Objects.{ById}
use Rattle.spec_desktop.specs.Desktop.{Desktop, Resident, status_in, status_of}
use Rattle.spec_desktop.specs.Happens.{Serves}
use Rattle.spec_desktop.specs.Moments.{marks_at_least_through, marks_at_most, marks_at_most_through}
use Rattle.spec_desktop.specs.Stacked.{all_windows}
use Rattle.spec_desktop.specs.Through.{ServesThrough}
use Rattle.law_desktop.specs.Shown.{ShownStand}
use Rattle.law_desktop.proofs.InOrder.Laws.{messages_keep_in_order}
use Rattle.law_desktop.proofs.ShownSurfaces.Laws.{messages_keep_shown}
use Rattle.law_desktop.specs.Ordered.{Ordered}
use Rattle.law_desktop.specs.Changes.{HasTrees}
use Rattle.law_desktop.proofs.RootsOf.Orders.{in-order-has-trees}
use Rattle.law_desktop.proofs.Truth.{differ}
use Rattle.law_desktop.specs.Ways.{RouteBy}
use Rattle.law_desktop.specs.WaysLaws.{TwiceMarks}
use Rattle.wl_requests.specs.declared.residents.Resident.{Resident as Kept}
use Rattle.wl_clients.specs.declared.screen.screens.Screen.{Screen}
use Rattle.wl_clients.specs.Agreement.{with_numbers}
use Rattle.wl_clients.specs.Marking.{MarksAtLeast, MarksMost, MarksThrough}
use Rattle.wl_clients.specs.Seats.{IsSeated}
use Rattle.wl_clients.specs.View.{pile_of}
use Rattle.wl_clients.proofs.OnScreen.Ended.{Taken}
use Rattle.wl_clients.proofs.OnScreen.Gone.{WayLaws}
use Rattle.wl_clients.proofs.OnScreen.Seating.{sits-seated}
use Rattle.wl_clients.proofs.OnScreen.Sitting.{numbers}

-- what is marked once is marked along a way that leads there at once
twice-through : TwiceMarks → (d e : Desktop) (path : List Desktop) (d0 d2 : Damaged) → path ≡ e ∷ e ∷ [] → HasTrees e → MarksAtLeast d e d0 d2 → MarksMost d e d0 d2 → MarksThrough d path d0 d2
twice-through twice d e path d0 d2 is trees least most x y wide high = (
  λ clean.
      let both = least x y wide high clean in (
        both.0,
        false_from_ne_true (marks_at_least_through all_windows d path (pos x) (pos y)) (λ marked. differ (sym both.1 ∙ (twice d e path is trees (pos x) (pos y)).0 marked)),
      ),
  λ marked. at (has d0 x y) refl (most x y wide high marked),
)
  where
    at : (b : Bool) → has d0 x y ≡ b → (has d0 x y || marks_at_most d e None (pos x) (pos y)) ≡ true → (has d0 x y || marks_at_most_through all_windows None d path (pos x) (pos y)) ≡ true
    at true was h = or_left (has d0 x y) _ was
    at false clean h =
        or_right (has d0 x y) _ ((twice d e path is trees (pos x) (pos y)).1 (sym (ap (λ b. b || marks_at_most d e None (pos x) (pos y)) clean) ∙ h))

module _ {A : Type 0} (laws : WayLaws) (c : ℕ) (others : ℕ → ById ℕ) (base d : Desktop) (r : Resident) (old mid : Kept A) (was new : Screen A) (before : IsSeated c others base old (pile_of was) d r)
    (ordered : Ordered d) (alive : r.peer.status ≡ None) (lives : mid.client.ended ≡ None) where
  pub shown-after : (e : Desktop) → Serves c d e → ShownStand e
  shown-after e serves = messages_keep_shown c d e ordered.in_order before.mapped serves

  pub trees-after : (e : Desktop) → Serves c d e → HasTrees e
  trees-after e serves = in-order-has-trees e (messages_keep_in_order c d e ordered.in_order serves) (shown-after e serves)

  -- it lives on each desktop on which it is this one
  pub status-after : (e : Desktop) (q : Resident) → IsSeated c others base mid (pile_of new) e q → status_in c e ≡ None
  status-after e q after = ap (λ (o : Option Resident). status_of o) after.based.there ∙ (sym after.seat.peer.status ∙ lives)

  -- ---- one to which it leads

  module _ (m : Taken c others base d r mid new) where
    abbrev pub e : Desktop
    e = m.after

    lead : (path : List Desktop) × ServesThrough c d path e × RouteBy m.was_done c r d path e
    lead = laws.lead m.was_done c r d e ordered.in_order before.mapped before.based.there alive m.takes

    pub led-serves : Serves c d e
    led-serves = (messages_lead_through c d e).0 lead.0 lead.1

    pub led-status : status_in c e ≡ None
    led-status = ap (λ (o : Option Resident). status_of o) m.sits.based.there ∙ (sym m.sits.seat.peer.status ∙ lives)

    at-once : lead.0 ≡ e ∷ e ∷ []
    at-once = at m.was_done lead.2
      where
        lost : is_some (status_in c e) ≡ true → ⊥
        lost over = differ (sym (ap (λ (o : Option Cause). is_some o) led-status) ∙ over)

        at : (b : Bool) → RouteBy b c r d lead.0 e → lead.0 ≡ e ∷ e ∷ []
        at false way = absurd (lost way.1)
        at true (inl way) = way.0
        at true (inr s) = absurd (lost s.over)

    -- The windows of that desktop are those that are kept.
    module _ (windows : AreStacked (with_numbers c (numbers mid) others) new.stacked.windows (all_windows e)) where
      seated : IsSeated c others base mid (pile_of new) e m.resident
      seated = sits-seated c others base mid new.scene new.stacked.windows e m.resident m.sits (shown-after e led-serves) windows

      -- What is kept stands for a desktop to which the message leads.
      pub led-seated : (e : Desktop) × (q : Resident) × Serves c d e × IsSeated c others base mid (pile_of new) e q
      led-seated = (e, m.resident, led-serves, seated)

      -- And along the way what is marked is what has to be and may be.
      pub led-through : MarksAtLeast d e was.damage new.damage → MarksMost d e was.damage new.damage
          → (e : Desktop) × (q : Resident) × (path : List Desktop) × ServesThrough c d path e × IsSeated c others base mid (pile_of new) e q
          × MarksThrough d path was.damage new.damage
      led-through least most =
          (e, m.resident, lead.0, lead.1, seated, twice-through laws.twice d e lead.0 was.damage new.damage at-once (trees-after e led-serves) least most)

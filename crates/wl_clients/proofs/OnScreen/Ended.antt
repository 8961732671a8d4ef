-- A message that is served, from what its parts say: the client ended by it.
use Rattle.std.proofs.Common.{◌≡◌, ℕ, ◌<◌, Bool, true, false, Option, Some, None, List, [], refl, ap, sym, subst, ◌∙◌, inl, inr}
use Rattle.std.proofs.lemmas.Bool.{true≢false}
use Rattle.std.specs.Prelude.{is_some, pos, ◌||◌, ◌==◌, filter, not}
use Rattle.std.specs.List.{list_any}
use Rattle.wl_wire.specs.Wire.{split_of}
use Rattle.wl_paint.specs.Damage.{has}
use Rattle.spec_desktop.specs.declared.cause.Cause.{Cause}
use Rattle.spec_desktop.specs.Objects.{ById}
use Rattle.wl_scene.specs.Kept.{Stack}
use Rattle.spec_desktop.specs.Windows.{Window}
use Rattle.spec_desktop.specs.Desktop.{Desktop, Resident, status_in, status_of}
use Rattle.spec_desktop.specs.Happens.{Serves}
use Rattle.spec_desktop.specs.Stacked.{all_windows}
use Rattle.spec_desktop.specs.Through.{ServesThrough}
use Rattle.law_desktop.proofs.Runs.Through.{messages_lead_through}
use Rattle.wl_scene.specs.StackedAgreement.{AreStacked}
use Rattle.law_desktop.proofs.InOrder.Laws.{messages_keep_in_order}
use Rattle.law_desktop.proofs.ShownSurfaces.Laws.{messages_keep_shown}
use Rattle.law_desktop.specs.Ordered.{Ordered}
use Rattle.wl_scene.specs.Repaint.{window_has}
use Rattle.wl_requests.specs.declared.residents.Resident.{Resident as Kept}
use Rattle.wl_scene.specs.declared.stacked.Stacked.{Stacked}
use Rattle.law_desktop.specs.Changes.{HasTrees}
use Rattle.law_desktop.proofs.RootsOf.Orders.{in-order-has-trees}
use Rattle.wl_scene.specs.declared.tree_window.TreeWindow.{TreeWindow}
use Rattle.law_desktop.specs.Ways.{IsGone, RouteBy, Struck, TakesAs}
use Rattle.wl_clients.specs.declared.screen.screens.Screen.{Screen}
use Rattle.wl_clients.specs.Agreement.{with_numbers}
use Rattle.wl_clients.specs.Marking.{MarksAtLeast, MarksThrough}
use Rattle.wl_clients.specs.Screens.{has_own}
use Rattle.wl_clients.specs.Seats.{IsClearedBy, IsSeated}
use Rattle.wl_clients.specs.View.{pile_of}
use Rattle.wl_clients.proofs.OnScreen.Gone.{IsTurned, WayLaws, gone-least, struck-through, twice-through}
use Rattle.wl_clients.proofs.OnScreen.Leaving.{left-stacked}
use Rattle.wl_clients.proofs.OnScreen.Rising.{inside-so}
use Rattle.wl_clients.proofs.OnScreen.Seating.{sits-seated}
use Rattle.wl_clients.proofs.OnScreen.Sitting.{Sits, numbers}

-- What is left and marked, where these windows were told for a moment, and the toplevels stood so.
pub record Ending {A : Type 0} (c : ℕ) (mid left : Kept A) (was new : Screen A) : Type 0 where
  pub between : Stack
  pub is : List TreeWindow
  pub clears : IsClearedBy mid.client.ended c mid left (record { scene = between; windows = was.stacked.windows }) (pile_of new)
  pub points :
      (x y : ℕ) → x < was.damage.width → y < was.damage.height
      → has new.damage x y ≡ ((has was.damage x y || has_own c (pos x) (pos y) was.stacked.windows) || list_any (window_has (pos x) (pos y)) is)

-- A message leads to a desktop on which the client sits so, done or not.
pub record Taken {A : Type 0} (c : ℕ) (others : ℕ → ById ℕ) (base d : Desktop) (r : Resident) (left : Kept A) (new : Screen A) : Type 0 where
  pub after : Desktop
  pub resident : Resident
  pub was_done : Bool
  pub takes : TakesAs was_done (split_of r.peer.rest) c r d after
  pub sits : Sits c others base left new.scene after resident

-- What is told of windows then: none where it wasn't done; else those that the toplevel has on the desktop on which the client lived still.
pub record TellsEnd (c : ℕ) (r : Resident) (d e : Desktop) (f : ℕ → ℕ) (is : List TreeWindow) (was_done : Bool) : Type 0 where
  pub undone : was_done ≡ false → is ≡ []
  pub turned : was_done ≡ true → (path : List Desktop) (s : Struck c r d path e) → IsTurned c d f is s.own

module _ {A : Type 0} (laws : WayLaws) (c : ℕ) (others : ℕ → ById ℕ) (base d : Desktop) (r : Resident) (old mid left : Kept A) (was new : Screen A)
    (before : IsSeated c others base old (pile_of was) d r)
    (ordered : Ordered d) (alive : r.peer.status ≡ None) (cause : Cause) (ended : mid.client.ended ≡ Some cause) (p : Ending c mid left was new) where
  cleared : IsClearedBy (Some cause) c mid left (record { scene = p.between; windows = was.stacked.windows }) (pile_of new)
  cleared = subst (λ (o : Option Cause). IsClearedBy o c mid left (record { scene = p.between; windows = was.stacked.windows }) (pile_of new)) ended p.clears

  trees : HasTrees d
  trees = in-order-has-trees d ordered.in_order before.mapped

  -- it ended on each desktop on which it is this one
  over-by : (e : Desktop) (q : Resident) → Sits c others base left new.scene e q → is_some (status_in c e) ≡ true
  over-by e q sits =
      ap (λ (o : Option Resident). is_some (status_of o)) sits.based.there
      ∙ (ap (λ (o : Option Cause). is_some o) (sym sits.seat.peer.status)
      ∙ (ap (λ v. is_some v.ended) cleared.0 ∙ ap (λ (o : Option Cause). is_some o) ended))

  over-at : (e : Desktop) (q : Resident) → IsSeated c others base left (pile_of new) e q → is_some (status_in c e) ≡ true
  over-at e q after = over-by e q (record { based = after.based; seat = after.seat; scene = λ known. after.scene })

  trees-at : (e : Desktop) → Serves c d e → HasTrees e
  trees-at e serves =
      in-order-has-trees e (messages_keep_in_order c d e ordered.in_order serves) (messages_keep_shown c d e ordered.in_order before.mapped serves)

  gone-at : (e : Desktop) → Serves c d e → is_some (status_in c e) ≡ true → IsGone c d e
  gone-at e serves over = laws.ended c r d e ordered.in_order before.based.there serves over

  -- ---- any desktop to which it leads

  pub ended-least : (e : Desktop) (q : Resident) → Serves c d e → IsSeated c others base left (pile_of new) e q → MarksAtLeast d e was.damage new.damage
  ended-least e q serves after =
      gone-least laws c (with_numbers c (numbers old) others) was.stacked.windows d e before.windows trees (trees-at e serves) p.is was.damage new.damage p.points
      (gone-at e serves (over-at e q after))

  pub ended-on : (e : Desktop) (q : Resident) → IsSeated c others base left (pile_of new) e q → status_in c e ≡ None → ⊥
  ended-on e q after lives = true≢false (sym (over-at e q after) ∙ ap (λ (o : Option Cause). is_some o) lives)

  -- ---- one to which it leads

  module _ (m : Taken c others base d r left new) where
    abbrev e : Desktop
    e = m.after

    lead : (path : List Desktop) × ServesThrough c d path e × RouteBy m.was_done c r d path e
    lead = laws.lead m.was_done c r d e ordered.in_order before.mapped before.based.there alive m.takes

    serves : Serves c d e
    serves = (messages_lead_through c d e).0 lead.0 lead.1

    over : is_some (status_in c e) ≡ true
    over = over-by e m.resident m.sits

    windows : AreStacked (with_numbers c (numbers left) others) new.stacked.windows (all_windows e)
    windows =
        subst (λ (ws : List Window). AreStacked (with_numbers c (numbers left) others) new.stacked.windows ws)
        (sym (laws.windows c d e (gone-at e serves over)))
        (subst (λ (ss : List Stacked). AreStacked (with_numbers c (numbers left) others) ss (filter (λ w. not (w.owner.client == c)) (all_windows d)))
        (sym cleared.5)
        (left-stacked c (numbers old) (numbers left) others was.stacked.windows (all_windows d) before.windows))

    seated : IsSeated c others base left (pile_of new) e m.resident
    seated =
        sits-seated c others base left new.scene new.stacked.windows e m.resident m.sits (messages_keep_shown c d e ordered.in_order before.mapped serves) windows

    -- What is kept stands for a desktop to which the message leads.
    pub ended-seated : (e : Desktop) × (q : Resident) × Serves c d e × IsSeated c others base left (pile_of new) e q
    ended-seated = (e, m.resident, serves, seated)

    marks : (f : ℕ → ℕ) → TellsEnd c r d e f p.is m.was_done → was.damage.width ≡ d.output.width → was.damage.height ≡ d.output.height → MarksThrough d lead.0 was.damage new.damage
    marks f tells width height = at m.was_done tells.undone tells.turned lead.2
      where
        at : (b : Bool) → (b ≡ false → p.is ≡ []) → (b ≡ true → (path : List Desktop) (s : Struck c r d path e) → IsTurned c d f p.is s.own)
            → RouteBy b c r d lead.0 e → MarksThrough d lead.0 was.damage new.damage
        at false undone turned way =
            twice-through laws c (with_numbers c (numbers old) others) was.stacked.windows d e before.windows trees (trees-at e serves) p.is was.damage new.damage p.points
            lead.0 way.0 (gone-at e serves over) (undone refl) (inside-so d was.damage width height)
        at true undone turned (inl way) = absurd (true≢false (sym over ∙ ap (λ (s : Option Cause). is_some s) way.1))
        at true undone turned (inr s) =
            struck-through laws c (with_numbers c (numbers old) others) was.stacked.windows d e before.windows trees (trees-at e serves) p.is was.damage new.damage p.points
            r f lead.0 s (turned refl lead.0 s) (inside-so d was.damage width height)

    -- And along the way what is marked is what has to be and may be.
    pub ended-through : (f : ℕ → ℕ) → TellsEnd c r d e f p.is m.was_done → was.damage.width ≡ d.output.width → was.damage.height ≡ d.output.height
        → (e : Desktop) × (q : Resident) × (path : List Desktop) × ServesThrough c d path e × IsSeated c others base left (pile_of new) e q
        × MarksThrough d path was.damage new.damage
    ended-through f tells width height = (e, m.resident, lead.0, lead.1, seated, marks f tells width height)

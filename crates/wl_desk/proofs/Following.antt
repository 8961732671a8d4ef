-- From a message that was taken with the pointer put aside to where the focus is settled.
use Rattle.std.proofs.Common.{◌≡◌, ◌≢◌, ℕ, List, [], ◌∷◌, ◌++◌, map, Bool, true, false, Option, Some, None, refl, ap, subst, sym, ◌∙◌, append_assoc, ◌⊎◌, inl, inr, eq-eqb}
use Rattle.std.proofs.lemmas.Bool.{true≢false}
use Rattle.std.specs.Prelude.{is_some}
use Rattle.wl_scene.specs.Marking.{IsAsLarge}
use Rattle.wl_paint.specs.Damage.{Damaged}
use Rattle.spec_desktop.specs.declared.cause.Cause.{Cause}
use Rattle.spec_desktop.specs.Pointer.{Pointer, Target, is_stacked}
use Rattle.spec_desktop.specs.Windows.{Window}
use Rattle.spec_desktop.specs.Changing.{drawing, has_focus}
use Rattle.spec_desktop.specs.Demand.{GetPointer}
use Rattle.spec_desktop.specs.Desktop.{Desktop, Resident, status_in, unpointed}
use Rattle.spec_desktop.specs.Happenings.{Leads, Message}
use Rattle.spec_desktop.specs.Marks.{AreDistinct}
use Rattle.spec_desktop.specs.Moments.{marks_at_least_through, marks_at_most_through}
use Rattle.spec_desktop.specs.Replies.{entered_at, focus_window}
use Rattle.spec_desktop.specs.Settling.{Midstep, Tells, unstruck}
use Rattle.spec_desktop.specs.Stacked.{all_windows}
use Rattle.spec_desktop.specs.Through.{ServesThrough}
use Rattle.law_desktop.specs.Focus.{IsSettled}
use Rattle.law_desktop.proofs.Runs.Settled.{same-windows}
use Rattle.law_desktop.specs.Pointed.Apart.{SettlesOn}
use Rattle.law_desktop.specs.Pointed.Entering.{TellsNew, new_entered}
use Rattle.law_desktop.specs.Pointed.Pointed.{asked, pointed, pointer_after, put_back}
use Rattle.law_desktop.proofs.PointerAside.Marking.{marks-apart}
use Rattle.law_desktop.proofs.PointerAside.Unshown.{new-pointer-shows-nothing}
use Rattle.wl_requests.specs.declared.pointer_asked.PointerAsked.{PointerAsked}
use Rattle.wl_requests.specs.declared.pointer_asked.PointerAsked.TheVariants.{NewPointer}
use Rattle.wl_clients.specs.Agreeing.{Agrees as KeptAgrees}
use Rattle.wl_clients.specs.Agreement.{numbers_in}
use Rattle.wl_clients.specs.Marking.{MarksThrough}
use Rattle.wl_clients.specs.Touching.{HitsStay}
use Rattle.wl_clients.specs.declared.grabs.Latest.{Latest}
use Rattle.wl_clients.specs.View.{DeskView as ClientsView}
use Rattle.wl_clients.proofs.Agreed.{agrees-apart}
use Rattle.wl_clients.proofs.Midway.{mid_begins_and_ends}
use Rattle.wl_desk.specs.Agreeing.{AreLatest, AreSeats, IsPlaced}
use Rattle.wl_desk.specs.Following.{IsFollowed, Took}
use Rattle.wl_desk.specs.Midway.{IsMidway, IsTelling}
use Rattle.wl_desk.specs.View.{DeskView, MarkedDesk}
use Rattle.wl_desk.proofs.Asking.{on-new, refused-ends, told-marks, told-still}
use Rattle.wl_desk.proofs.Begun.{after-get, after-settled, back-placed}
use Rattle.wl_desk.proofs.Focused.{focus-placed, focus-stacked, hits-on, settled-still}
use Rattle.wl_desk.proofs.Leading.{kept-aside}
use Rattle.wl_desk.proofs.Onward.{last-at, marks-as, marks-to, none-more}
use Rattle.wl_desk.proofs.Placed.{placed-as}
use Rattle.wl_desk.proofs.Seated.{asks-by}
use Rattle.wl_desk.proofs.Tells.{tells-shows}

-- ---- the pointer is put back

pub midway-at : (v : DeskView) (e : Desktop) (p : Pointer) → KeptAgrees v.kept e → AreSeats v.seats e → AreLatest v.latest (unstruck e) → v.pointer ≡ p
    → IsPlaced (pointed p e) → IsMidway v (unstruck (pointed p e))
midway-at v e p kept seats latest is placed =
    record {
      telling = record {
        kept = (mid_begins_and_ends v.kept (unpointed (pointed p e))).0 (kept-aside v.kept p e kept);
        place = ap (λ (q : Pointer). q.place) is;
        seats = seats;
        latest = latest;
      };
      pointer = is;
      placed = placed;
    }

pub from-aside : (c : ℕ) (p : Desktop → Pointer) (d e : Desktop) (aside : List Desktop) (old new : MarkedDesk)
    → SettlesOn (λ a. pointed (p a) a) (Leads (Message c) d) aside e → AreDistinct (all_windows e) → MarksThrough (unpointed d) aside old.damage new.damage
    → IsAsLarge old.damage new.damage → IsMidway new.desk (unstruck (pointed (p e) e))
    → (status_in c e ≡ None → HitsStay (unpointed d) e → IsSettled (pointed (p e) e)) → IsFollowed c e old new d
from-aside c p d e aside old new on apart marks sides midway unmoved =
    let before : List Desktop = map (λ a. pointed (p a) a) on.0 in
    let start : Desktop = pointed (p e) e in
    record {
      led = record {
        path = before ++ start ∷ [];
        mid = unstruck start;
        last = last-at d start before;
        leads = λ later last settles.
            subst (λ (way : List Desktop). Leads (Message c) d way last) (sym (append_assoc before (start ∷ []) later)) (on.2 later last settles);
        midway = midway;
        sides = sides;
        marks = marks-as d (unpointed d) (before ++ start ∷ []) aside old.damage new.damage
            (λ x y.
            let both = marks-apart p None d e on.0 [] x y apart in (
              both.0 ∙ none-more (marks_at_least_through all_windows (unpointed d) (on.0 ++ e ∷ e ∷ []) x y)
                  ∙ ap (λ (xs : List Desktop). marks_at_least_through all_windows (unpointed d) xs x y) (sym on.1),
              both.1 ∙ none-more (marks_at_most_through all_windows None (unpointed d) (on.0 ++ e ∷ e ∷ []) x y)
                  ∙ ap (λ (xs : List Desktop). marks_at_most_through all_windows None (unpointed d) xs x y) (sym on.1),
            )) marks;
      };
      unmoved = unmoved;
    }

-- ---- nobody is told

pub followed : (c : ℕ) (request : PointerAsked) (old mid new : MarkedDesk) (d : Desktop) (took : Took c request old mid d)
    → SettlesOn (put_back c d) (ServesThrough c d) took.path took.desktop → new.desk.kept ≡ mid.desk.kept → new.desk.seats ≡ mid.desk.seats
    → new.desk.latest ≡ mid.desk.latest → new.desk.pointer ≡ pointer_after c d took.desktop → new.damage ≡ mid.damage → IsFollowed c took.desktop old new d
followed c request old mid new d took on kept seats latest pointer damage =
    let e : Desktop = took.desktop in
    from-aside c (pointer_after c d) d e took.path old new on (agrees-apart mid.desk.kept e took.kept)
    (marks-to (unpointed d) took.path old.damage mid.damage new.damage damage took.marks)
    (subst (λ (v : Damaged). IsAsLarge old.damage v) (sym damage) took.sides)
    (midway-at new.desk e (pointer_after c d e) (subst (λ (k : ClientsView). KeptAgrees k e) (sym kept) took.kept)
    (subst (λ (s : List (List ℕ)). AreSeats s e) (sym seats) took.seats)
    (subst (λ (l : List Latest). AreLatest l (unstruck e)) (sym latest) took.latest) pointer (back-placed c d e took.placed))
    (λ alive stay. after-settled c d e alive took.settled stay)

-- ---- a new wl_pointer is told

module _ (c id : ℕ) (old mid : MarkedDesk) (d : Desktop) (took : Took c (NewPointer id) old mid d) (alive : status_in c took.desktop ≡ None)
    (t : Target) (has : d.pointer.focus ≡ Some t) (own : t.client ≡ c) where
  abbrev pub put : Desktop
  put = pointed d.pointer took.desktop

  get : (version : ℕ) × (asked c d ≡ Some (GetPointer id version))
  get = by (asks-by (asked c d) (NewPointer id) (numbers_in old.desk.kept.clients c) id took.asks refl)
    where
      by : ((asked c d ≡ None) ⊎ ((version : ℕ) × (asked c d ≡ Some (GetPointer id version)))) → (version : ℕ) × (asked c d ≡ Some (GetPointer id version))
      by (inl none) =
          absurd (true≢false (sym (refused-ends c d took.path took.desktop none took.leads) ∙ ap (λ (s : Option Cause). is_some s) alive))
      by (inr is) = is

  has-focus : has_focus c d.pointer.focus ≡ true
  has-focus = ap (has_focus c) has ∙ eq-eqb t.client c own

  put-is : put_back c d took.desktop ≡ put
  put-is =
      ap (λ (p : Pointer). pointed p took.desktop) (after-get c id get.0 d took.path took.desktop took.placed.moved get.1 took.leads alive)

  pub put-midway : IsMidway mid.desk (unstruck put)
  put-midway =
      midway-at mid.desk took.desktop d.pointer took.kept took.seats took.latest took.pointer
      (subst (λ (x : Desktop). IsPlaced x) put-is (back-placed c d took.desktop took.placed))

  pub put-stacked : is_stacked t (all_windows put) ≡ true
  put-stacked =
      subst (λ (ws : List Window). is_stacked t ws ≡ true) (sym (new-pointer-shows-nothing c id get.0 (unpointed d) took.path took.desktop refl get.1 took.leads alive))
      (focus-stacked d.pointer (all_windows d) t took.settled has)

  pub put-placed : put.pointer.place ≢ None
  put-placed = focus-placed d.pointer t took.placed.nowhere has

  module _ (n : Midstep)
      (tells : Tells (drawing true) (λ (r : Resident). entered_at id r.peer.serial put.pointer.place (focus_window (Some t) (all_windows put))) t.client (unstruck put) n)
      (told : MarkedDesk) (telling : IsTelling told.desk n) (pointer : told.desk.pointer ≡ mid.desk.pointer) (damage : told.damage ≡ mid.damage) where
    tells-new : TellsNew id c (put_back c d took.desktop) n
    tells-new =
        subst (λ (x : Desktop). TellsNew id c x n) (sym put-is)
        (subst (λ (k : ℕ). Tells (drawing true) (new_entered id put) k (unstruck put) n) own
        (subst (λ (f : Option Target). Tells (drawing true) (λ (r : Resident). entered_at id r.peer.serial put.pointer.place (focus_window f (all_windows put))) t.client (unstruck put) n) (sym has) tells))

    still : n.desktop.pointer ≡ d.pointer
    still = told-still (drawing true) (λ (r : Resident). entered_at id r.peer.serial put.pointer.place (focus_window (Some t) (all_windows put))) t.client put n tells

    pub told-midway : IsMidway told.desk n
    told-midway = record {
      telling = telling;
      pointer = pointer ∙ took.pointer ∙ sym still;
      placed = placed-as put n.desktop still
          (tells-shows (drawing true) (λ (r : Resident). entered_at id r.peer.serial put.pointer.place (focus_window (Some t) (all_windows put))) (λ r. refl) t.client (unstruck put) n tells).standing
          put-midway.placed;
    }

    first : MarksThrough d (n.desktop ∷ []) old.damage told.damage
    first =
        marks-to d (n.desktop ∷ []) old.damage mid.damage told.damage damage
        (marks-as d (unpointed d) (n.desktop ∷ []) took.path old.damage mid.damage
        (told-marks c id get.0 d took.path took.desktop n took.placed.moved get.1 has-focus took.leads tells-new (agrees-apart mid.desk.kept took.desktop took.kept)) took.marks)

    sides : IsAsLarge old.damage told.damage
    sides = subst (λ (v : Damaged). IsAsLarge old.damage v) (sym damage) took.sides

    pub followed-told : IsFollowed c took.desktop old told d
    followed-told = record {
      led = record {
        path = n.desktop ∷ [];
        mid = n;
        last = refl;
        leads = λ later last settles.
            on-new c id get.0 d took.path took.desktop n took.placed.moved get.1 has-focus took.leads tells-new later last settles;
        midway = told-midway;
        marks = first;
        sides = sides;
      };
      unmoved = λ yes stay.
          settled-still d.pointer n.desktop.pointer (unpointed d) n.desktop
          (record { place = ap (λ (p : Pointer). p.place) still; buttons = ap (λ (p : Pointer). p.buttons) still; focus = ap (λ (p : Pointer). p.focus) still })
          (hits-on (unpointed d) took.desktop n.desktop stay
          (same-windows put n.desktop
          (tells-shows (drawing true) (λ (r : Resident). entered_at id r.peer.serial put.pointer.place (focus_window (Some t) (all_windows put))) (λ r. refl) t.client (unstruck put) n tells)))
          took.settled;
    }

-- Which wl_pointers a client that lives has: only wl_seat.get_pointer changes that.
use Rattle.std.proofs.Common.{◌≡◌, ℕ, List, Bool, true, false, Option, Some, None, refl, ap, sym, ◌∙◌, inl, inr}
use Rattle.std.proofs.lemmas.Option.{none-some, same_Some}
use Rattle.wl_proto.specs.declared.interface.Interface.TheVariants.{WlPointer}
use Rattle.wl_shell.specs.Positioner.{Positioner}
use Rattle.wl_shell.specs.Shell.{Effect, Stays, XdgSurface, xdg_at, xdg_of}
use Rattle.wl_shell.specs.Popups.{Popped, copying, is_configured, popup_at, repositioning}
use Rattle.spec_desktop.specs.Ask.{Ask, GetToplevel}
use Rattle.spec_desktop.specs.Changing.{Placing, changed_for, drawing, effect_placing, grab_allowed, grabbed, popup_repositioned}
use Rattle.spec_desktop.specs.Changing.{has_focus, in_rising_order, mode_set, placement_now, popup_given_to, tree_committed}
use Rattle.spec_desktop.specs.Demand.{Demand, Asks, CommitTree, SetMode, GetPointer, Reposition}
use Rattle.spec_desktop.specs.Demand.{GetPopup, Grab}
use Rattle.spec_desktop.specs.Demanding.{effect_of_commit}
use Rattle.spec_desktop.specs.Desktop.{Desktop, Resident, client_at}
use Rattle.spec_desktop.specs.Happenings.{Happening, Message}
use Rattle.spec_desktop.specs.Pointing.{has_pointers}
use Rattle.spec_desktop.specs.Settling.{noted as serials_noted}
use Rattle.spec_desktop.specs.Step.{changed_by, making, toplevel_given, xdg_changed}
use Rattle.law_desktop.specs.Pointed.Pointed.{asked}
use Rattle.law_desktop.specs.Pointed.Seats.{HasPointersAfter, PointersStay}
use Rattle.law_desktop.proofs.PointerAside.Happened.{Changes, IsNotedAfter, happened}
use Rattle.law_desktop.proofs.PointerAside.Noted.{HeedsNoButton, HeedsNothing, noted-client}

-- the wl_pointers of a client, and the serials of the latest press and of the latest release that it was told of
pub record Seat : Type 0 where
  pub pointers : List ℕ
  pub press : Option ℕ
  pub release : Option ℕ

abbrev pub seat_of : Resident → Seat
seat_of r = record { pointers = r.pointers; press = r.press; release = r.release }

-- ---- what a demand makes of its client's seat

-- the id of a new wl_pointer
abbrev new_id : Demand → Option ℕ
new_id (GetPointer id version) = Some id
new_id demand = None

abbrev with_new : Option ℕ → List ℕ → List ℕ
with_new None ps = ps
with_new (Some id) ps = in_rising_order id ps

abbrev pub seat_after : Demand → Seat → Seat
seat_after demand s = record s { pointers = with_new (new_id demand) s.pointers }

toplevel-seat : (id xdg : ℕ) (x : Option XdgSurface) (r : Resident) → seat_of (toplevel_given id xdg x r) ≡ seat_of r
toplevel-seat id xdg None r = refl
toplevel-seat id xdg (Some x) r = refl

asked-seat : (ask : Ask) (r : Resident) → seat_of (changed_by ask r) ≡ seat_of r
asked-seat (GetToplevel id version xdg) r = toplevel-seat id xdg (xdg_at xdg r.owned.shell) r
asked-seat ask r = refl

effect-seat : (where_to : Placing) (surface : ℕ) (effect : Effect) (x : Option XdgSurface) (r : Resident) → seat_of (effect_placing where_to surface effect x r) ≡ seat_of r
effect-seat where_to surface effect None r = refl
effect-seat where_to surface Stays (Some x) r = refl
effect-seat where_to surface effect x r = refl

mode-seat : (link : ℕ) (b : Bool) (r : Resident) → seat_of (mode_set link b r) ≡ seat_of r
mode-seat link true r = refl
mode-seat link false r = refl

popup-seat : (id xdg parent : ℕ) (p : Positioner) (x : Option XdgSurface) (r : Resident) → seat_of (popup_given_to id xdg parent p x r) ≡ seat_of r
popup-seat id xdg parent p None r = refl
popup-seat id xdg parent p (Some x) r = refl

drawing-seat : (b : Bool) (r : Resident) → seat_of (drawing b r) ≡ seat_of r
drawing-seat true r = refl
drawing-seat false r = refl

reposition-seat : (where_to : Placing) (p : Positioner) (o : Option Popped) (r : Resident) → seat_of (popup_repositioned where_to p o r) ≡ seat_of r
reposition-seat where_to p None r = refl
reposition-seat where_to p (Some q) r =
    drawing-seat (is_configured q) (xdg_changed q.xdg.id (repositioning (is_configured q) r.peer.serial (where_to (copying p q.popup)) p) r)

grab-seat : (b : Bool) (xdg : ℕ) (r : Resident) → seat_of (grabbed b xdg r) ≡ seat_of r
grab-seat true xdg r = refl
grab-seat false xdg r = refl

drawn-seat : (b : Bool) (id version : ℕ) (r : Resident) → seat_of (making WlPointer id version (drawing b r)) ≡ seat_of r
drawn-seat true id version r = refl
drawn-seat false id version r = refl

pub changed-seat : (c : ℕ) (demand : Demand) (d : Desktop) (r : Resident) → seat_of (changed_for c demand r d) ≡ seat_after demand (seat_of r)
changed-seat c (Asks ask) d r = asked-seat ask r
changed-seat c (CommitTree surface) d r = effect-seat (placement_now c r d) surface (effect_of_commit r surface) (xdg_of surface r.owned.shell) (tree_committed surface r)
changed-seat c (SetMode link synchronised) d r = mode-seat link synchronised r
changed-seat c (GetPointer id version) d r = drawn-seat (has_focus c d.pointer.focus) id version (record r { pointers = in_rising_order id r.pointers })
changed-seat c (GetPopup id version xdg parent p) d r = popup-seat id xdg parent p (xdg_at xdg r.owned.shell) r
changed-seat c (Reposition xdg token p) d r = reposition-seat (placement_now c r d) p (popup_at xdg r.owned.shell) r
changed-seat c (Grab xdg serial) d r = grab-seat (grab_allowed c xdg serial r d) xdg r
changed-seat c demand d r = refl

-- ---- the wl_pointers

abbrev pointers_of : Resident → List ℕ
pointers_of r = r.pointers

abbrev pointers_after : Demand → List ℕ → List ℕ
pointers_after demand ps = with_new (new_id demand) ps

pointers-heed : HeedsNothing pointers_of
pointers-heed = record { peer = λ p r. refl; grabs = λ r. refl; callbacks = λ gone r. refl }

pointers-heed-no-button : HeedsNoButton pointers_of
pointers-heed-no-button true pressed r = ap (λ (s : Seat). s.pointers) (drawing-seat (has_pointers (serials_noted pressed r)) (serials_noted pressed r)) ∙ told pressed
  where
    told : (pressed : Bool) → (serials_noted pressed r).pointers ≡ r.pointers
    told true = refl
    told false = refl
pointers-heed-no-button false pressed r = refl

pointers-change : Changes pointers_of pointers_after
pointers-change c demand d r = ap (λ (s : Seat). s.pointers) (changed-seat c demand d r)

module _ (h : Happening) (d : Desktop) (a : ℕ) (q : Resident) where
  had : (r : Resident) → client_at a d ≡ Some r → r.peer.status ≡ None → q.pointers ≡ r.pointers
      → ((id version : ℕ) → h ≡ Message a → asked a d ≡ Some (GetPointer id version) → ⊥) → HasPointersAfter h d a q
  had r is lived same never = inl (r, is, lived, same, never)

  -- what a message asked of its own client
  own : (demand : Demand) (r : Resident) → h ≡ Message a → client_at a d ≡ Some r → r.peer.status ≡ None → asked a d ≡ Some demand → q.pointers ≡ pointers_after demand r.pointers
      → HasPointersAfter h d a q
  own (GetPointer id version) r its is lived asks have = inr (inl (r, id, version, is, lived, its, asks, have))
  own demand r its is lived asks have = other (new_id demand) refl
    where
      other : (o : Option ℕ) → new_id demand ≡ o → HasPointersAfter h d a q
      other None none =
          had r is lived (have ∙ ap (λ (o : Option ℕ). with_new o r.pointers) none)
          (λ id version same gets. none-some id (sym none ∙ ap new_id (same_Some demand (GetPointer id version) (sym asks ∙ gets))))
      other (Some id) some = absurd (none-some id some)

  has-pointers : IsNotedAfter pointers_of pointers_after h d a q.pointers → HasPointersAfter h d a q
  has-pointers (inl k) =
      let it = noted-client pointers_of (client_at a d) q.pointers k.0 in had it.0 it.1 it.2 it.3 (λ id version same asks. k.1 same)
  has-pointers (inr (inl k)) = own k.2 k.1 k.0 k.3 k.4 k.5 k.6
  has-pointers (inr (inr k)) = inr (inr k)

pub pointers-stay : PointersStay
pointers-stay h d path e c q leads is alive =
    has-pointers h d c q (happened pointers_of pointers-heed pointers_after pointers-change d path e c q is alive h (λ time button pressed done same. pointers-heed-no-button) leads)

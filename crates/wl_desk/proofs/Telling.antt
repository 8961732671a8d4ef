-- Clients are told of the pointer where what is kept agrees with the middle of a step.
use Rattle.std.proofs.Common.{◌≡◌, ℕ, List, [], ◌∷◌, Bool, true, false, Option, Some, None, refl, ap, ap₂, subst, sym, ◌∙◌}
use Rattle.std.specs.Prelude.{ℤ, is_some}
use Rattle.wl_client.specs.Pointers.{pointers_told, serial_after}
use Rattle.wl_client.specs.declared.pointers.PointerEvent.{PointerEvent}
use Rattle.wl_client.specs.declared.pointers.PointerEvent.TheVariants.{Enter, Leave, Motion}
use Rattle.spec_desktop.specs.declared.cause.Cause.{Cause}
use Rattle.spec_desktop.specs.Told.{Said}
use Rattle.spec_desktop.specs.Pointer.{Pointer, Target, first_pointer}
use Rattle.spec_desktop.specs.Windows.{Place, Window}
use Rattle.wl_surface.specs.Surfaces.{history_in}
use Rattle.spec_desktop.specs.Changing.{drawing}
use Rattle.spec_desktop.specs.Desktop.{Resident, client_at}
use Rattle.spec_desktop.specs.Pointing.{entered_surface, left_surface, motion_told}
use Rattle.spec_desktop.specs.Replies.{entered_at, focus_window}
use Rattle.spec_desktop.specs.Stacked.{all_windows}
use Rattle.spec_desktop.specs.PointerActions.{Leave as Left, Enter as Entered}
use Rattle.spec_desktop.specs.Settling.{Applies, Midstep, Tells, leave_drawn, told_drawn, with_focus}
use Rattle.wl_clients.specs.Agreement.{numbers_in}
use Rattle.wl_clients.specs.View.{DeskView as KeptView}
use Rattle.wl_clients.specs.Midway.{IsMid}
use Rattle.wl_clients.specs.Pointing.{IsTold, IsToldAt}
use Rattle.wl_clients.specs.declared.grabs.Latest.{Latest}
use Rattle.wl_desk.specs.Agreeing.{AreLatest, AreSeats}
use Rattle.wl_desk.specs.Midway.{IsTelling, IsToldOf, unpointed_mid}
use Rattle.wl_desk.specs.Serials.{AreNoted}
use Rattle.wl_desk.specs.View.{DeskView, seat_of}
use Rattle.wl_desk.proofs.Events.{enters-new, entered-draws, entered-says, gone-draws, gone-says, left-draws, left-says, motion-draws, motion-says, new-draws, with_serial}
use Rattle.wl_desk.specs.Points.{point_told}
use Rattle.wl_desk.proofs.Points.{IsAt, point-at}
use Rattle.wl_desk.proofs.LatestStay.{tells-latest}
use Rattle.wl_desk.proofs.Windows.{mid-names}
use Rattle.wl_desk.proofs.Tells.{put, put-back, tells-apart, tells-nothing, tells-other, tells-pointer, tells-seats}

-- the focus is another, or the pointer
pub telling-focus : (v : DeskView) (t : Option Target) (m : Midstep) → IsTelling v m → IsTelling v (with_focus t m)
telling-focus v t m is = record { kept = is.kept; place = is.place; seats = is.seats; latest = is.latest }

-- what is kept is the same but for the focus
pub telling-same : (v w : DeskView) (m : Midstep) → w.kept ≡ v.kept → w.pointer.place ≡ v.pointer.place → w.seats ≡ v.seats → w.latest ≡ v.latest → IsTelling v m
    → IsTelling w m
telling-same v w m kept place seats latest is =
    record {
      kept = subst (λ k. IsMid k (unpointed_mid m)) (sym kept) is.kept;
      place = place ∙ is.place;
      seats = subst (λ (ss : List (List ℕ)). AreSeats ss m.desktop) (sym seats) is.seats;
      latest = subst (λ (l : List Latest). AreLatest l m) (sym latest) is.latest;
    }

-- what a desk keeps
abbrev pub seen : KeptView → List (List ℕ) → List Latest → Pointer → DeskView
seen kept seats latest pointer = record { kept = kept; seats = seats; latest = latest; pointer = pointer }

-- ---- one client is told

-- what the clients promise of these wl_pointers of one that are told an event
abbrev pub TellsThese : PointerEvent → List ℕ → ℕ → DeskView → DeskView → Type 0
TellsThese event ps c old new =
    (change : Resident → Resident) (events : Resident → List Said) (m : Midstep) → IsMid old.kept m → IsToldAt event ps change events (client_at c m.desktop)
    → (n : Midstep) × Tells change events c m n × IsMid new.kept n

module _ (event : PointerEvent) (ps : List ℕ) (c : ℕ) (old new : DeskView) (told : TellsThese event ps c old new) (seats : new.seats ≡ old.seats) (pointer : new.pointer ≡ old.pointer)
    (change : Resident → Resident) (events : Resident → List Said) (m : Midstep) (telling : IsTelling old m)
    (noted : AreNoted old.latest new.latest c change (client_at c m.desktop))
    (so : (r : Resident) → client_at c m.desktop ≡ Some r → r.peer.status ≡ None → IsTold event ps r (change r) (events r)) where
  abbrev Found : Type 0
  Found = (n : Midstep) × Tells change events c (unpointed_mid m) n × IsMid new.kept n

  abbrev changed : Resident → Resident
  changed r = with_serial (serial_after event ps r.peer.serial) r

  abbrev said_so : Resident → List Said
  said_so r = pointers_told event r.peer.serial ps

  -- one that ended is told nothing, whatever it were told
  by-status : (r : Resident) → client_at c m.desktop ≡ Some r → (s : Option Cause) → r.peer.status ≡ s → Found
  by-status r there None lives =
      told change events (unpointed_mid m) telling.kept (subst (λ (o : Option Resident). IsToldAt event ps change events o) (sym there) (so r there lives))
  by-status r there (Some cause) over =
      let any : IsTold event ps r (changed r) (said_so r) = record { press = r.press; release = r.release; changes = refl; told = refl } in
      let h = told changed said_so (unpointed_mid m) telling.kept (subst (λ (o : Option Resident). IsToldAt event ps changed said_so o) (sym there) any) in
      (h.0, tells-other changed change said_so events c (unpointed_mid m) h.0 r there (ap (λ (s : Option Cause). is_some s) over) h.1, h.2)

  by-client : (o : Option Resident) → client_at c m.desktop ≡ o → Found
  by-client None there = told change events (unpointed_mid m) telling.kept (subst (λ (o : Option Resident). IsToldAt event ps change events o) (sym there) tt)
  by-client (Some r) there = by-status r there r.peer.status refl

  with-pointer : Found → (n : Midstep) × Tells change events c m n × IsTelling new n
  with-pointer h =
      let n : Midstep = put m.desktop.pointer h.0 in
      let tells : Tells change events c m n = tells-apart change events c m h.0 h.1 in
      let apart : put first_pointer n ≡ h.0 = put-back m.desktop.pointer first_pointer h.0 (tells-pointer change events c (unpointed_mid m) h.0 h.1) in (
        n,
        tells,
        record {
          kept = subst (λ (x : Midstep). IsMid new.kept x) (sym apart) h.2;
          place = ap (λ (p : Pointer). p.place) pointer ∙ telling.place;
          seats = subst (λ (ss : List (List ℕ)). AreSeats ss n.desktop) (sym seats)
              (tells-seats (seat_of old.seats) change events c m n (λ r there lives. ap (λ (x : Resident). x.pointers) (so r there lives).changes) telling.seats tells);
          latest = tells-latest old.latest new.latest change events c m n noted telling.latest tells;
        },
      )

  pub tells-telling : (n : Midstep) × Tells change events c m n × IsTelling new n
  tells-telling = with-pointer (by-client (client_at c m.desktop) refl)

-- its own wl_pointers are told
pub told-own : (event : PointerEvent) (ps : List ℕ) (c : ℕ) (old : DeskView) → ps ≡ seat_of old.seats c → (change : Resident → Resident) (events : Resident → List Said) (m : Midstep)
    → IsTelling old m → IsToldOf event change events (client_at c m.desktop)
    → (r : Resident) → client_at c m.desktop ≡ Some r → r.peer.status ≡ None → IsTold event ps r (change r) (events r)
told-own event ps c old own change events m telling so r there lives =
    subst (λ (qs : List ℕ). IsTold event qs r (change r) (events r)) (sym (own ∙ telling.seats c r there lives))
    (subst (λ (o : Option Resident). IsToldOf event change events o) there so lives)

-- it is told so, whoever it is
pub told-each : (event : PointerEvent) (change : Resident → Resident) (events : Resident → List Said) → ((r : Resident) → IsTold event r.pointers r (change r) (events r))
    → (o : Option Resident) → IsToldOf event change events o
told-each event change events so None = tt
told-each event change events so (Some r) = λ lives. so r

-- ---- what it is told

pub told-entered : (surface : ℕ) (x y : ℤ) (at : Option Place) (w : Option Window) → IsAt surface x y at w → (r : Resident)
    → IsTold (Enter surface x y) r.pointers r (told_drawn r) (entered_surface at w r)
told-entered surface x y at w is r = record { press = r.press; release = r.release; changes = entered-draws surface x y r; told = entered-says surface x y at w is r }

pub told-new : (surface : ℕ) (x y : ℤ) (at : Option Place) (w : Option Window) → IsAt surface x y at w → (pointer : ℕ) (r : Resident)
    → IsTold (Enter surface x y) (pointer ∷ []) r (drawing true r) (entered_at pointer r.peer.serial at w)
told-new surface x y at w is pointer r =
    record { press = r.press; release = r.release; changes = new-draws surface x y pointer r; told = enters-new surface x y at w is r.peer.serial pointer }

pub told-moved : (surface time : ℕ) (x y : ℤ) (at : Option Place) (w : Option Window) → IsAt surface x y at w → (r : Resident)
    → IsTold (Motion time x y) r.pointers r r (motion_told time at w r)
told-moved surface time x y at w is r = record { press = r.press; release = r.release; changes = motion-draws time x y r; told = motion-says surface time x y at w is r }

-- a surface has a number as long as it is there
module _ (v : DeskView) (c surface : ℕ) (m : Midstep) (telling : IsTelling v m) (there : Bool)
    (is : is_some (numbers_in v.kept.clients c surface) ≡ there) where
  history : (r : Resident) → client_at c m.desktop ≡ Some r → r.peer.status ≡ None → is_some (history_in surface r.owned.surfaces) ≡ there
  history r here lives = sym (mid-names v.kept (unpointed_mid m) c surface r telling.kept here) ∙ is

  left-client : there ≡ true → (o : Option Resident) → client_at c m.desktop ≡ o → IsToldOf (Leave surface) (leave_drawn surface) (left_surface surface) o
  left-client so None here = tt
  left-client so (Some r) here = λ lives. record {
    press = r.press;
    release = r.release;
    changes = left-draws surface r (history r here lives ∙ so);
    told = left-says surface r (history r here lives ∙ so);
  }

  pub told-left : there ≡ true → IsToldOf (Leave surface) (leave_drawn surface) (left_surface surface) (client_at c m.desktop)
  told-left so = left-client so (client_at c m.desktop) refl

  pub not-left : there ≡ false → Tells (leave_drawn surface) (left_surface surface) c m m
  not-left so =
      tells-nothing (leave_drawn surface) (left_surface surface) c m
      (λ r here lives. (gone-draws surface r (history r here lives ∙ so), gone-says surface r (history r here lives ∙ so)))

-- ---- by the point in a surface

pub point-as : (v w x y : ℤ) (o : Option (ℤ × ℤ)) → v ≡ x → w ≡ y → Some (x, y) ≡ o → Some (v, w) ≡ o
point-as v w x y o across down point = ap₂ (λ (a b : ℤ). Some (a, b)) across down ∙ point

module _ (t : Target) (ws : List Window) (m : Midstep) (x y : ℤ) (same : ws ≡ all_windows m.desktop)
    (point : Some (x, y) ≡ point_told m.desktop.pointer.place (focus_window (Some t) (all_windows m.desktop))) where
  abbrev window : Option Window
  window = focus_window (Some t) ws

  at-point : IsAt t.surface x y m.desktop.pointer.place window
  at-point = point-at t ws m.desktop.pointer.place x y
      (subst (λ (vs : List Window). Some (x, y) ≡ point_told m.desktop.pointer.place (focus_window (Some t) vs)) (sym same) point)

  pub enters-at : IsToldOf (Enter t.surface x y) told_drawn (entered_surface m.desktop.pointer.place window) (client_at t.client m.desktop)
  enters-at =
      told-each (Enter t.surface x y) told_drawn (entered_surface m.desktop.pointer.place window) (λ r. told-entered t.surface x y m.desktop.pointer.place window at-point r)
      (client_at t.client m.desktop)

  pub moves-at : (time : ℕ) → IsToldOf (Motion time x y) (λ r. r) (motion_told time m.desktop.pointer.place window) (client_at t.client m.desktop)
  moves-at time =
      told-each (Motion time x y) (λ r. r) (motion_told time m.desktop.pointer.place window) (λ r. told-moved t.surface time x y m.desktop.pointer.place window at-point r)
      (client_at t.client m.desktop)

  pub enters-new-at : (pointer : ℕ) (r : Resident) → IsTold (Enter t.surface x y) (pointer ∷ []) r (drawing true r) (entered_at pointer r.peer.serial m.desktop.pointer.place window)
  enters-new-at pointer r = told-new t.surface x y m.desktop.pointer.place window at-point pointer r

-- ---- one action

pub left-applied : (ws : List Window) (t : Target) (new : DeskView) (m : Midstep) → ((n : Midstep) × Tells (leave_drawn t.surface) (left_surface t.surface) t.client m n × IsTelling new n)
    → (n : Midstep) × Applies ws (Left t) m n × IsTelling new n
left-applied ws t new m h = (with_focus None h.0, (h.0, h.1, refl), telling-focus new None h.0 h.2)

pub entered-applied : (ws : List Window) (t : Target) (new : DeskView) (m : Midstep)
    → ((n : Midstep) × Tells told_drawn (entered_surface m.desktop.pointer.place (focus_window (Some t) ws)) t.client m n × IsTelling new n)
    → (n : Midstep) × Applies ws (Entered t) m n × IsTelling new n
entered-applied ws t new m h = (with_focus (Some t) h.0, (h.0, h.1, refl), telling-focus new (Some t) h.0 h.2)

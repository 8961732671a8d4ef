-- The popups of a client that holds a grab are dismissed, where what is kept agrees with the middle of a step.
use Rattle.std.proofs.Common.{◌≡◌, ℕ, List, Bool, true, false, Some, None, refl, ap, subst, sym, ◌∙◌}
use Rattle.std.specs.Prelude.{◌||◌, pos}
use Rattle.wl_paint.specs.Damage.{Damaged, has}
use Rattle.spec_desktop.specs.Told.{Said}
use Rattle.spec_desktop.specs.Pointer.{Pointer, first_pointer}
use Rattle.spec_desktop.specs.Desktop.{Resident, client_at}
use Rattle.spec_desktop.specs.Replies.{popups_done}
use Rattle.spec_desktop.specs.Settling.{Midstep, Tells, without_grabs}
use Rattle.wl_clients.specs.Midway.{IsMid}
use Rattle.wl_clients.specs.Releasing.{MarksJust}
use Rattle.wl_desk.specs.Agreeing.{AreSeats}
use Rattle.wl_desk.specs.Midway.{IsTelling, unpointed_mid}
use Rattle.wl_desk.specs.Releasing.{Releases}
use Rattle.wl_desk.specs.View.{DeskView, seat_of}
use Rattle.wl_desk.proofs.LatestStay.{keeps-noted, tells-latest}
use Rattle.wl_desk.proofs.Restacking.{still-marks, telling-apart}
use Rattle.wl_desk.proofs.Tells.{put, put-back, tells-apart, tells-pointer, tells-seats}

-- ---- nobody's

or-none : (a b : Bool) → b ≡ false → (a || b) ≡ a
or-none true b none = refl
or-none false b none = none

-- nothing is marked
pub none-released : (v : DeskView) (old : Damaged) (m : Midstep) → IsTelling v m
    → (n : Midstep) × Releases None m n × IsTelling v n × MarksJust m.desktop n.desktop old old
none-released v old m telling =
    (m, refl, telling, λ x y wide high. sym (or-none (has old x y) _ (still-marks m.desktop (pos x) (pos y) (telling-apart v m telling)).0))

-- ---- those of a client

abbrev Done : Resident → List Said
Done r = popups_done r (without_grabs r)

-- it keeps its wl_pointers and its serials, and so does the pointer
pub some-released : (c : ℕ) (old new : DeskView) (was is : Damaged)
    → ((m : Midstep) → IsMid old.kept m → (n : Midstep) × Tells without_grabs (λ r. popups_done r (without_grabs r)) c m n × IsMid new.kept n × MarksJust m.desktop n.desktop was is)
    → new.seats ≡ old.seats → new.latest ≡ old.latest → new.pointer ≡ old.pointer → (m : Midstep) → IsTelling old m
    → (n : Midstep) × Releases (Some c) m n × IsTelling new n × MarksJust m.desktop n.desktop was is
some-released c old new was is releases seats latest pointer m telling =
    let h = releases (unpointed_mid m) telling.kept in
    let n : Midstep = put m.desktop.pointer h.0 in
    let tells : Tells without_grabs (λ r. popups_done r (without_grabs r)) c m n = tells-apart without_grabs Done c m h.0 h.1 in
    let apart : put first_pointer n ≡ h.0 = put-back m.desktop.pointer first_pointer h.0 (tells-pointer without_grabs Done c (unpointed_mid m) h.0 h.1) in (
      n,
      tells,
      record {
        kept = subst (λ (x : Midstep). IsMid new.kept x) (sym apart) h.2;
        place = ap (λ (p : Pointer). p.place) pointer ∙ telling.place;
        seats = subst (λ (ss : List (List ℕ)). AreSeats ss n.desktop) (sym seats)
            (tells-seats (seat_of old.seats) without_grabs Done c m n (λ r there lives. refl) telling.seats tells);
        latest = tells-latest old.latest new.latest without_grabs Done c m n
            (keeps-noted old.latest new.latest c without_grabs (client_at c m.desktop) (λ r. (refl, refl)) latest) telling.latest tells;
      },
      h.3,
    )

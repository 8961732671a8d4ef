-- What the pointer does where it goes to a point and where a button is pressed or released.
use Rattle.std.proofs.Common.{◌≡◌, ℕ, List, [], ◌∷◌, ◌++◌, Bool, true, false, Option, Some, None, refl, ap, subst, sym, ◌∙◌}
use Rattle.std.specs.Prelude.{if◌then◌else◌}
use Rattle.spec_desktop.specs.Told.{Said}
use Rattle.spec_desktop.specs.Pointer.{Pointer, Target, hit_now, is_same, settled, without_button}
use Rattle.spec_desktop.specs.PointerActions.{Press, Went, button_of, dismiss_of, enter_of, leave_of, motion_of, move_of, raise_of}
use Rattle.spec_desktop.specs.Stacking.{Standing}
use Rattle.spec_desktop.specs.Windows.{Place, Window}
use Rattle.spec_desktop.specs.Desktop.{Desktop, Resident}
use Rattle.spec_desktop.specs.Happens.{placed, released_to, with_press, with_release}
use Rattle.spec_desktop.specs.Pointing.{button_told, has_pointers, motion_told}
use Rattle.spec_desktop.specs.Replies.{focus_window}
use Rattle.spec_desktop.specs.Settling.{AppliesAll, Midstep, PointerActs, Settles, Tells, noted, noted_if, number_of, unstruck, with_standing}
use Rattle.spec_desktop.specs.Stacked.{all_windows}
use Rattle.law_desktop.proofs.Runs.Output.{settles-still, tells-still}
use Rattle.law_desktop.proofs.Runs.Settled.{HasFocus, ShowsSame, has-settled, same-target, same-windows, shows-itself}
use Rattle.law_desktop.specs.Pointed.Acting.{GoesAlong, IsActed, MotionsAct, PressesAct, ReleasesAct, pointer_went, raised_at, standing_along, standing_pressed, stood, went_along}
use Rattle.law_desktop.proofs.PointerAside.Marking.{same-marks}
use Rattle.law_desktop.proofs.PointerAside.Rounds.{told-shows}
use Rattle.law_desktop.proofs.Runs.Following.{drawing-owned}

-- ---- what is shown

-- what is shown is what was shown before, but that the pointer is this and these toplevels stand
acted : (p : Pointer) (standing : List Standing) (d e : Desktop) → e.pointer ≡ p → ShowsSame (stood standing d) e → e.output ≡ d.output → IsActed p standing d e
acted p standing d e pointer shows output = record {
  pointer = pointer;
  stands = shows.standing;
  owned = shows.owned;
  output = output;
  windows = same-windows (stood standing d) e shows;
  marks = λ raised x y. same-marks raised d (stood standing d) e x y shows;
}

-- ---- a client is told

-- the pointer stays, and so does what is shown
record Stays (old new : Midstep) : Type 0 where
  pointer : new.desktop.pointer ≡ old.desktop.pointer
  shows : ShowsSame old.desktop new.desktop
  output : new.desktop.output ≡ old.desktop.output

stays-itself : (old new : Midstep) → new ≡ old → Stays old new
stays-itself old new same = record {
  pointer = ap (λ (m : Midstep). m.desktop.pointer) same;
  shows = shows-itself old.desktop new.desktop (ap (λ (m : Midstep). m.desktop) same);
  output = ap (λ (m : Midstep). m.desktop.output) same;
}

told-stays : (change : Resident → Resident) (events : Resident → List Said) → ((r : Resident) → (change r).owned ≡ r.owned) → (c : ℕ) (old new : Midstep) → Tells change events c old new
    → Stays old new
told-stays change events keeps c old new h =
    let told = told-shows change events keeps c old new h in
    record { pointer = told.0; shows = told.1; output = tells-still change events c old new h }

noted-owned : (b pressed : Bool) (r : Resident) → (noted_if b pressed r).owned ≡ r.owned
noted-owned false pressed r = refl
noted-owned true true r = drawing-owned (has_pointers (noted true r)) (noted true r)
noted-owned true false r = drawing-owned (has_pointers (noted false r)) (noted false r)

button-stays : (time button : ℕ) (pressed : Bool) (focus : Option Target) (ws : List Window) (old new : Midstep) → AppliesAll ws (button_of time button pressed focus) old new → Stays old new
button-stays time button pressed None ws old new h = stays-itself old new h
button-stays time button pressed (Some t) ws old new h =
    subst (λ (m : Midstep). Stays old m) (sym h.2)
    (told-stays (λ r. noted_if (has_pointers r) pressed r) (button_told time button (number_of pressed)) (λ r. noted-owned (has_pointers r) pressed r) t.client old h.0 h.1)

-- ---- a press

-- it raises a toplevel, if it hits one, and then the focus is told
raises-first : (time button : ℕ) (w : Option Window) (focus : Option Target) (ws : List Window) (old new : Midstep)
    → AppliesAll ws (button_of time button true focus) (with_standing (raised_at w old.desktop.standing) old) new
    → AppliesAll ws (raise_of w ++ dismiss_of None w ++ button_of time button true focus) old new
raises-first time button None focus ws old new h = h
raises-first time button (Some w) focus ws old new h = (with_standing (raised_at (Some w) old.desktop.standing) old, refl, h)

then-told : (time button : ℕ) (w : Option Window) (focus : Option Target) (ws : List Window) (old new : Midstep)
    → AppliesAll ws (raise_of w ++ dismiss_of None w ++ button_of time button true focus) old new
    → AppliesAll ws (button_of time button true focus) (with_standing (raised_at w old.desktop.standing) old) new
then-told time button None focus ws old new h = h
then-told time button (Some w) focus ws old new h = subst (λ (m : Midstep). AppliesAll ws (button_of time button true focus) m new) h.1 h.2

pub presses-act : PressesAct
presses-act = (
  λ time button d told none h.
      subst (λ (holder : Option ℕ). PointerActs (Press time button holder) (unstruck (with_press button d)) told) (sym none)
      (raises-first time button (hit_now d.pointer.place (all_windows d)) d.pointer.focus (all_windows d) (unstruck (with_press button d)) told h),
  λ time button d told none acts.
      let mid : Midstep = with_standing (standing_pressed d) (unstruck (with_press button d)) in
      let so = subst (λ (holder : Option ℕ). PointerActs (Press time button holder) (unstruck (with_press button d)) told) none acts in
      let h = then-told time button (hit_now d.pointer.place (all_windows d)) d.pointer.focus (all_windows d) (unstruck (with_press button d)) told so in
      let stays = button-stays time button true d.pointer.focus (all_windows d) mid told h in
      acted (with_press button d).pointer (standing_pressed d) d told.desktop stays.pointer (record { standing = stays.shows.standing; owned = stays.shows.owned }) stays.output,
)

-- ---- a release

-- it leaves the focus as it is
focus-stays : (button : ℕ) (d : Desktop) → (with_release button d).pointer.focus ≡ d.pointer.focus
focus-stays button d = at (without_button button d.pointer.buttons)
  where
    at : (buttons : List ℕ) → (released_to buttons d.pointer).focus ≡ d.pointer.focus
    at [] = refl
    at (b ∷ bs) = refl

pub releases-act : ReleasesAct
releases-act = (
  λ time button d told h.
      subst (λ (focus : Option Target). AppliesAll (all_windows d) (button_of time button false focus) (unstruck (with_release button d)) told) (sym (focus-stays button d)) h,
  λ time button d told acts.
      let stays = button-stays time button false (with_release button d).pointer.focus (all_windows d) (unstruck (with_release button d)) told acts in
      acted (with_release button d).pointer d.standing d told.desktop stays.pointer (record { standing = stays.shows.standing; owned = stays.shows.owned }) stays.output,
)

-- ---- the pointer goes to a point

along : (from : Option Place) (to : Place) (moved : Option Target) (ws : List Window) (old : Midstep)
    → AppliesAll ws (move_of from to moved) old (with_standing (went_along from to moved old.desktop.standing) old)
along None to moved ws old = refl
along (Some from) to None ws old = refl
along (Some from) to (Some t) ws old = (with_standing (went_along (Some from) to (Some t) old.desktop.standing) old, refl, refl)

along-only : (from : Option Place) (to : Place) (moved : Option Target) (ws : List Window) (old new : Midstep) → AppliesAll ws (move_of from to moved) old new
    → new ≡ with_standing (went_along from to moved old.desktop.standing) old
along-only None to moved ws old new h = h
along-only (Some from) to None ws old new h = h
along-only (Some from) to (Some t) ws old new h = h.2 ∙ h.1

pub goes-along : GoesAlong
goes-along at d = (
  along d.pointer.place at d.pointer.move (all_windows d) (unstruck d),
  λ gone h. along-only d.pointer.place at d.pointer.move (all_windows d) (unstruck d) gone h,
)

-- ---- it went there

-- the pointer has this focus now, and is otherwise what it was; what is shown stays
abbrev Gets : Option Target → Midstep → Midstep → Type 0
Gets focus old new = HasFocus focus old new × (new.desktop.output ≡ old.desktop.output)

pub went-so : (time : ℕ) (old new : Midstep) → PointerActs (Went time) old new
    → HasFocus (settled old.desktop.pointer (all_windows old.desktop)) old new × (new.desktop.output ≡ old.desktop.output)
went-so time old new h = at (is_same p.focus to) refl h
  where
    ws : List Window
    ws = all_windows old.desktop

    p : Pointer
    p = old.desktop.pointer

    to : Option Target
    to = settled p ws

    stays : Stays old new → Gets p.focus old new
    stays s = (record { pointer = s.pointer; shows = s.shows }, s.output)

    kept : (moved focus : Option Target) → AppliesAll ws (motion_of time moved focus) old new → Gets p.focus old new
    kept moved None h = stays (stays-itself old new h)
    kept (Some moved) (Some t) h = stays (stays-itself old new h)
    kept None (Some t) h =
        stays (subst (λ (m : Midstep). Stays old m) (sym h.2)
        (told-stays (λ r. r) (motion_told time p.place (focus_window (Some t) ws)) (λ r. refl) t.client old h.0 h.1))

    at : (b : Bool) → is_same p.focus to ≡ b → AppliesAll ws (if b then motion_of time p.move p.focus else leave_of p.focus ++ enter_of to) old new → Gets to old new
    at true e h = subst (λ (t : Option Target). Gets t old new) (same-target p.focus to e) (kept p.move p.focus h)
    at false e h =
        let settles : Settles old new = subst (λ (b : Bool). AppliesAll ws (if b then [] else leave_of p.focus ++ enter_of to) old new) (sym e) h in
        (has-settled old new settles, settles-still old new settles)

pub motions-act : MotionsAct
motions-act time at d told went =
    let mid : Midstep = placed at (with_standing (standing_along at d) (unstruck d)) in
    let so = went-so time mid told went in
    acted (pointer_went at d) (standing_along at d) d told.desktop so.0.pointer (record { standing = so.0.shows.standing; owned = so.0.shows.owned }) so.1

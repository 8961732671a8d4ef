-- Whatever happens leaves a client what it has, but for its own steps.
use Rattle.std.proofs.Common.{◌≡◌, ◌≢◌, ℕ, zero, suc, ◌+◌, List, [], ◌∷◌, ◌++◌, Bool, true, false, Option, Some, None, refl, ap, sym, ◌∙◌, inl, inr}
use Rattle.std.proofs.lemmas.Option.{same_Some}
use Rattle.std.specs.Prelude.{◌==◌, ◌&&◌, ◌||◌, ◌⊎◌, ℤ, filter, flat_map, if◌then◌else◌}
use Rattle.std.specs.List.{list_any}
use Rattle.spec_desktop.specs.declared.cause.Cause.{Cause}
use Rattle.spec_desktop.specs.declared.cause.Cause.TheVariants.{Memory, Slow}
use Rattle.spec_desktop.specs.Peer.{ended, has_room}
use Rattle.spec_desktop.specs.Told.{Said, said_bytes}
use Rattle.spec_desktop.specs.Pointer.{Pointer, Target, hit_now, is_down, is_press, is_same, settled}
use Rattle.spec_desktop.specs.PointerActions.{PointerAction, PointerInput, actions, button_of, dismiss_of, enter_of, focus_or, is_hit_of, leave_of, motion_of, move_of, raise_of}
use Rattle.spec_desktop.specs.PointerActions as pointer
use Rattle.spec_desktop.specs.Stacking.{Standing, is_of, moved_to, raised}
use Rattle.spec_desktop.specs.Windows.{Place, Window}
use Rattle.spec_desktop.specs.declared.answers.Done.{Done}
use Rattle.spec_desktop.specs.Changing.{drawing, grab_holder, without_callbacks}
use Rattle.spec_desktop.specs.Desktop.{Desktop, Resident, client_at, resident_of, toplevels_of}
use Rattle.spec_desktop.specs.Pointing.{button_told, has_pointers, motion_told, moved_standing}
use Rattle.spec_desktop.specs.Replies.{focus_window, popups_done}
use Rattle.spec_desktop.specs.Settling.{Applies, AppliesAll, Midstep, PointerActs, SettlesEnds, Settles, noted_if, number_of, unstruck, with_standing, without_grabs}
use Rattle.spec_desktop.specs.Stacked.{all_windows}
use Rattle.spec_desktop.specs.Act.{Act, Connect, Feed, Store, Leave, Tick, Send, Close, Motion, Button, lowest}
use Rattle.law_desktop.proofs.Runs.Forms.{ConnectsAt, MovesTo, PressesIf, ReleasesIf, Shows}
use Rattle.spec_desktop.specs.Happens.{Happens, MovesThen, PressedThen, ReleasedThen, ShowsThen, TellsFrames, callbacks_due, ending, frames_told, placed, point_in, settling, with_press, with_release}
use Rattle.law_desktop.specs.Others.{IsLeftAlone, IsLeftBy, IsLeftSo, IsNotQueued, IsToldTimes, client_of, told_once}
use Rattle.law_desktop.specs.Own.{HasEndedLate, HasItsOwn, KeepsItsOwn, KeepsItsOwnBy, KeepsItsOwnSo, LivesOrEnds, StandTheSame, OwnStays}
use Rattle.law_desktop.proofs.Isolation.LeftAlone.{others_are_left_alone}
use Rattle.law_desktop.proofs.Isolation.Kept.{StaysOwn, TellsDone, TellsPointer, own-all, own-drawn, own-frames, own-more, own-same, own-then}
use Rattle.law_desktop.proofs.Isolation.Settling.{IsIn, IsWithin, Stays, ending-in, enters-in, leaves-in, settles-in, settling-in, tells-in, within-same}
use Rattle.law_desktop.proofs.Marks.Stacks.{equal-numbers}
use Rattle.law_desktop.proofs.Truth.{differ}
use Rattle.law_desktop.proofs.Lists.Left.{any-filtered}
use Rattle.law_desktop.proofs.PointerAside.Moved.{any-raised}

-- ---- what stays of a client

abbrev Never : Resident → Cause → Type 0
Never r cause = ⊥

-- where there is none, and where it ended before
abbrev Is : Option Resident → Option Resident → List Standing → Type 0
Is o now after = now ≡ o

none-stays : Stays StaysOwn (Is None) Never
none-stays = record {
  told = λ r q tops why alive known so. absurd (not_none r known);
  untold = λ r q tops cause alive known so. not_none r known;
  ends = λ r tops cause known gone. absurd gone;
  again = λ r cause other gone gone_too. gone;
}
  where
    not_none : (r : Resident) → Some r ≡ None → ⊥
    not_none r e = absurd (cc)

gone-stays : (r : Resident) (cause : Cause) → r.peer.status ≡ Some cause → Stays StaysOwn (Is (Some r)) Never
gone-stays r cause is_over = record {
  told = λ p q tops why alive known so. absurd (alive_too p alive known);
  untold = λ p q tops cause alive known so. alive_too p alive known;
  ends = λ p tops cause known gone. absurd gone;
  again = λ p cause other gone gone_too. gone;
}
  where
    alive_too : (p : Resident) → p.peer.status ≡ None → Some p ≡ Some r → ⊥
    alive_too p alive same =
        let one : p ≡ r = same_Some p r same in
        let e : p.peer.status ≡ Some cause = ap (λ (x : Resident). x.peer.status) one ∙ is_over in
        absurd (cc)

-- what is known of a client that is to end since it wasn't told
abbrev Late : Resident → Resident → Cause → Type 0
Late r q cause =
    (last : Resident) × HasItsOwn r last × ((cause ≡ Slow) ⊎ (cause ≡ Memory)) × ((other : Cause) → resident_of (ended other q.peer) ≡ resident_of (ended other last.peer))

living-stays : (r : Resident) (before : List Standing) → Stays StaysOwn (LivesOrEnds r before) (Late r)
living-stays r before = record {
  told = told;
  untold = untold;
  ends = λ p tops cause known why. inr ((why.0, cause, why.1, why.2, why.3 cause), refl);
  again = λ p cause other why why_too. (why_too.0, why_too.1, why_too.2, λ x. why_too.3 x);
}
  where
    over : (p : Resident) → p.peer.status ≡ None → HasEndedLate r p → ⊥
    over p alive h =
        let e : p.peer.status ≡ Some h.1 = ap (λ (x : Resident). x.peer.status) h.4 in
        absurd (cc)

    told : (p q : Resident) (tops : List Standing) (why : Option Cause) → p.peer.status ≡ None → LivesOrEnds r before (Some p) tops → StaysOwn p q why → LivesOrEnds r before (Some q) tops
    told p q tops why alive (inl known) so = inl (own-then r p q known.0 so.0, known.1)
    told p q tops why alive (inr known) so = absurd (over p alive known.0)

    untold : (p q : Resident) (tops : List Standing) (cause : Cause) → p.peer.status ≡ None → LivesOrEnds r before (Some p) tops → StaysOwn p q (Some cause) → Late r q cause
    untold p q tops cause alive (inl known) so = (q, own-then r p q known.0 so.0, so.1, λ other. refl)
    untold p q tops cause alive (inr known) so = absurd (over p alive known.0)

-- ---- which toplevels stand

pub any-moved : (p : Standing → Bool) → ((s : Standing) (place : Place) → p (record s { place = place }) ≡ p s) → (c surface : ℕ) (place : Place) (ss : List Standing)
    → list_any p (moved_to c surface place ss) ≡ list_any p ss
any-moved p same c surface place [] = refl
any-moved p same c surface place (s ∷ ss) = at (is_of c surface s) (any-moved p same c surface place ss)
  where
    at : (b : Bool) → list_any p (moved_to c surface place ss) ≡ list_any p ss → list_any p (if b then record s { place = place } ∷ ss else s ∷ moved_to c surface place ss) ≡ (p s || list_any p ss)
    at true e = ap (λ (b : Bool). b || list_any p ss) (same s place)
    at false e = ap (λ (b : Bool). p s || b) e

-- a toplevel of a client with this surface
abbrev its : ℕ → ℕ → Standing → Bool
its c surface s = (s.client == c) && (s.surface == surface)

-- those of a client
abbrev pub of : ℕ → List Standing → List Standing
of c ss = filter (λ s. s.client == c) ss

stand-same : (c : ℕ) (before after : List Standing) → ((surface : ℕ) → list_any (its c surface) after ≡ list_any (its c surface) before) → StandTheSame (of c before) (of c after)
stand-same c before after same surface =
    any-filtered (λ s. s.surface == surface) (λ s. s.client == c) after ∙ same surface ∙ sym (any-filtered (λ s. s.surface == surface) (λ s. s.client == c) before)

pub stand-raised : (c k surface : ℕ) (ss : List Standing) → StandTheSame (of c ss) (of c (raised k surface ss))
stand-raised c k surface ss = stand-same c ss (raised k surface ss) (λ other. any-raised (its c other) k surface ss)

pub stand-moved : (c k surface : ℕ) (place : Place) (ss : List Standing) → StandTheSame (of c ss) (of c (moved_to k surface place ss))
stand-moved c k surface place ss = stand-same c ss (moved_to k surface place ss) (λ other. any-moved (its c other) (λ s place. refl) k surface place ss)

pub none-stand : (before after : List Standing) → StandTheSame before after → before ≡ [] → after ≡ []
none-stand before [] same none = refl
none-stand before (s ∷ ss) same none =
    absurd (differ (sym (ap (λ (tops : List Standing). list_any (λ t. t.surface == s.surface) tops) none) ∙ sym (same s.surface)
    ∙ ap (λ (b : Bool). b || list_any (λ t. t.surface == s.surface) ss) (equal-numbers s.surface s.surface refl)))

-- ---- what stays of a client as toplevels are raised and moved

module _ (c : ℕ) (A : Option Resident → List Standing → Type 0) where
  abbrev pub Shifts : PointerAction → Type 0
  Shifts (pointer.Raise t) = (o : Option Resident) (ss : List Standing) → A o (of c ss) → A o (of c (raised t.client t.surface ss))
  Shifts (pointer.MoveWindow t x y) = (o : Option Resident) (ss : List Standing) → A o (of c ss) → A o (of c (moved_standing t x y ss))
  Shifts action = Unit {0}

  abbrev pub AllShift : List PointerAction → Type 0
  AllShift [] = Unit {0}
  AllShift (action ∷ later) = Shifts action × AllShift later

  -- whichever is raised or moved
  pub record Shifting : Type 0 where
    pub raises : (t : Target) → Shifts (pointer.Raise t)
    pub moves : (t : Target) (x y : ℤ) → Shifts (pointer.MoveWindow t x y)

  pub raise-shifts : Shifting → (w : Option Window) → AllShift (raise_of w)
  raise-shifts shifting None = tt
  raise-shifts shifting (Some w) = (shifting.raises _, tt)

  pub move-shifts : Shifting → (from : Option Place) (to : Place) (t : Option Target) → AllShift (move_of from to t)
  move-shifts shifting None to t = tt
  move-shifts shifting (Some from) to None = tt
  move-shifts shifting (Some from) to (Some t) = (shifting.moves t _ _, tt)

  append-shifts : (first later : List PointerAction) → AllShift first → AllShift later → AllShift (first ++ later)
  append-shifts [] later one other = other
  append-shifts (action ∷ first) later one other = (one.0, append-shifts first later one.1 other)

  -- nothing else of what the pointer does raises or moves one
  focus-shifts : (staying : List PointerAction) (p : Pointer) (windows : List Window) → AllShift staying → AllShift (focus_or staying p windows)
  focus-shifts staying p windows shift = at (is_same p.focus (settled p windows))
    where
      both : (s t : Option Target) → AllShift (leave_of s ++ enter_of t)
      both None None = tt
      both None (Some t) = (tt, tt)
      both (Some s) None = (tt, tt)
      both (Some s) (Some t) = (tt, (tt, tt))

      at : (b : Bool) → AllShift (if b then staying else leave_of p.focus ++ enter_of (settled p windows))
      at true = shift
      at false = both p.focus (settled p windows)

  motion-shifts : (time : ℕ) (moved focus : Option Target) → AllShift (motion_of time moved focus)
  motion-shifts time moved None = tt
  motion-shifts time None (Some t) = (tt, tt)
  motion-shifts time (Some moved) (Some t) = tt

  dismiss-shifts : (holder : Option ℕ) (w : Option Window) → AllShift (dismiss_of holder w)
  dismiss-shifts None w = tt
  dismiss-shifts (Some holder) w = at (is_hit_of holder w)
    where
      at : (b : Bool) → AllShift (if b then [] else pointer.Dismiss holder ∷ [])
      at true = tt
      at false = (tt, tt)

  button-shifts : (time button : ℕ) (pressed : Bool) (focus : Option Target) → AllShift (button_of time button pressed focus)
  button-shifts time button pressed None = tt
  button-shifts time button pressed (Some t) = (tt, tt)

  went-shifts : (time : ℕ) (p : Pointer) (windows : List Window) → AllShift (actions (pointer.Went time) p windows)
  went-shifts time p windows = focus-shifts (motion_of time p.move p.focus) p windows (motion-shifts time p.move p.focus)

  press-shifts : (time button : ℕ) (holder : Option ℕ) (p : Pointer) (windows : List Window) → AllShift (raise_of (hit_now p.place windows))
      → AllShift (actions (pointer.Press time button holder) p windows)
  press-shifts time button holder p windows shift =
      let w = hit_now p.place windows in
      append-shifts (raise_of w ++ dismiss_of holder w) (button_of time button true p.focus) (append-shifts (raise_of w) (dismiss_of holder w) shift (dismiss-shifts holder w))
      (button-shifts time button true p.focus)

-- where nothing is said of what stands
Is-shifting : (c : ℕ) (o : Option Resident) → Shifting c (Is o)
Is-shifting c o = record { raises = λ t p ss known. known; moves = λ t x y p ss known. known }

-- where the same toplevels stand
living-shifting : (c : ℕ) (r : Resident) (before : List Standing) → Shifting c (LivesOrEnds r before)
living-shifting c r before = record {
  raises = λ t o ss known. so o (of c ss) _ (stand-raised c t.client t.surface ss) known;
  moves = λ t x y o ss known. so o (of c ss) _ (stand-moved c t.client t.surface _ ss) known;
}
  where
    so : (o : Option Resident) (ss now : List Standing) → StandTheSame ss now → LivesOrEnds r before o ss → LivesOrEnds r before o now
    so None ss now same known = absurd known
    so (Some q) ss now same (inl known) = inl (known.0, λ surface. same surface ∙ known.1 surface)
    so (Some q) ss now same (inr known) = inr (known.0, none-stand ss now same known.1)

-- What leaves to a client whatever stays leaves it what it has.
kept : (c : ℕ) (old new : Desktop)
    → ((A : Option Resident → List Standing → Type 0) (P : Resident → Cause → Type 0) → Stays StaysOwn A P → Shifting c A → A (client_at c old) (toplevels_of c old)
    → A (client_at c new) (toplevels_of c new))
    → KeepsItsOwn c old new
kept c old new carry = at (client_at c old) refl
  where
    by : (r : Resident) → client_at c old ≡ Some r → (s : Option Cause) → r.peer.status ≡ s → KeepsItsOwnBy s r (toplevels_of c old) (client_at c new) (toplevels_of c new)
    by r there (Some cause) e = carry (Is (Some r)) Never (gone-stays r cause e) (Is-shifting c (Some r)) there
    by r there None e =
        let before : List Standing = toplevels_of c old in
        let begins : LivesOrEnds r before (Some r) before = inl (own-same r, λ surface. refl) in
        carry (LivesOrEnds r before) (Late r) (living-stays r before) (living-shifting c r before) (rw there begins)

    at : (o : Option Resident) → client_at c old ≡ o → KeepsItsOwnSo o (toplevels_of c old) (client_at c new) (toplevels_of c new)
    at None there = carry (Is None) Never none-stays (Is-shifting c None) there
    at (Some r) there = by r there r.peer.status refl

kept-same : (c : ℕ) (old new : Desktop) → new ≡ old → KeepsItsOwn c old new
kept-same c old new e =
    kept c old new
    (λ A P stays shifting known.
    let clients : client_at c new ≡ client_at c old = ap (λ (x : Desktop). client_at c x) e in
    let tops : toplevels_of c new ≡ toplevels_of c old = ap (λ (x : Desktop). toplevels_of c x) e in
    rw (clients, tops) known)

-- ---- a frame is shown, the pointer moves, a button is pressed or released

module _ (c : ℕ) (T : Resident → Resident → Option Cause → Type 0) (all : TellsPointer T) (A : Option Resident → List Standing → Type 0) (P : Resident → Cause → Type 0) (stays : Stays T A P) where
  abbrev pub Known : Desktop → Type 0
  Known d = IsIn c T all.focus A P stays d

  abbrev Within : Midstep → Type 0
  Within m = IsWithin c T all.focus A P stays m

  begun : (d : Desktop) → Known d → Within (unstruck d)
  begun d known = (known, tt)

  same : (m n : Midstep) → n ≡ m → Within m → Within n
  same m n e known = within-same c T all.focus A P stays m n e known

  settles : (old new : Midstep) → Within old → Settles old new → Within new
  settles old new known h = settles-in c T all.focus A P stays old new known h

  ends : (mid : Midstep) (new : Desktop) → Within mid → SettlesEnds mid new → Known new
  ends mid new known h = ending-in c T all.focus A P stays mid new known h

  frames : TellsDone T → (time n k : ℕ) (old new : Midstep) → Within old → TellsFrames time n k old new → Within new
  frames done time zero k old new known h = same old new h known
  frames done time (suc n) k old new known h =
      let mid : Within h.0 = tells-in c T all.focus A P stays (λ r. without_callbacks (callbacks_due r) r) (frames_told time) (done time) k old h.0 known h.1 in
      frames done time n (suc k) h.0 new mid h.2

  applies : (windows : List Window) (action : PointerAction) → Shifts c A action → (old new : Midstep) → Within old → Applies windows action old new → Within new
  applies windows (pointer.Leave t) shift old new known h = leaves-in c T all.focus A P stays windows t old new known h
  applies windows (pointer.Enter t) shift old new known h = enters-in c T all.focus A P stays windows t old new known h
  applies windows (pointer.Motion time t) shift old new known h =
      let told = motion_told time old.desktop.pointer.place (focus_window (Some t) windows) in
      tells-in c T all.focus A P stays (λ r. r) told (all.motion time old.desktop.pointer.place (focus_window (Some t) windows)) t.client old new known h
  applies windows (pointer.Button time button pressed t) shift old new known h =
      let change = λ (r : Resident). noted_if (has_pointers r) pressed r in
      tells-in c T all.focus A P stays change (button_told time button (number_of pressed)) (all.pressed time button pressed) t.client old new known h
  applies windows (pointer.Raise t) shift old new known h =
      let standing : List Standing = raised t.client t.surface old.desktop.standing in
      let now : Within (with_standing standing old) = (shift (client_at c old.desktop) old.desktop.standing known.0, known.1) in
      same (with_standing standing old) new h now
  applies windows (pointer.MoveWindow t x y) shift old new known h =
      let standing : List Standing = moved_standing t x y old.desktop.standing in
      let now : Within (with_standing standing old) = (shift (client_at c old.desktop) old.desktop.standing known.0, known.1) in
      same (with_standing standing old) new h now
  applies windows (pointer.Dismiss k) shift old new known h =
      tells-in c T all.focus A P stays without_grabs (λ r. popups_done r (without_grabs r)) all.dismissed k old new known h

  applies-all : (windows : List Window) (actions : List PointerAction) → AllShift c A actions → (old new : Midstep) → Within old → AppliesAll windows actions old new → Within new
  applies-all windows [] shift old new known h = same old new h known
  applies-all windows (action ∷ later) shift old new known h = applies-all windows later shift.1 h.0 new (applies windows action shift.0 old h.0 known h.1) h.2

  acts : (input : PointerInput) (old new : Midstep) → AllShift c A (actions input old.desktop.pointer (all_windows old.desktop)) → Within old → PointerActs input old new → Within new
  acts input old new shift known h = applies-all (all_windows old.desktop) (actions input old.desktop.pointer (all_windows old.desktop)) shift old new known h

  -- what follows from the middle of a step, with what comes then, follows from the step
  module _ (X : Type 0) (Next : Midstep → Type 0) (next : (mid : Midstep) → Within mid → Next mid → X) where
    -- a frame is shown
    pub shown-then : TellsDone T → (time : ℕ) (d : Desktop) → Known d → ShowsThen time d Next → X
    shown-then done time d known h = next h.0 (frames done time 32 1 (unstruck d) h.0 (begun d known) h.1) h.2

    -- the pointer moves
    pub moves-then : (time : ℕ) (at : Place) (d : Desktop) → AllShift c A (move_of d.pointer.place at d.pointer.move) → Known d → MovesThen time at d Next → X
    moves-then time at d shift known h =
        let gone : Within h.0 = acts (pointer.GoTo at) (unstruck d) h.0 shift (begun d known) h.1 in
        let start : Midstep = placed at h.0 in
        next h.2 (acts (pointer.Went time) start h.2 (went-shifts c A time start.desktop.pointer (all_windows start.desktop)) gone h.3) h.4

    -- a button is pressed
    pub pressed-then : (time button : ℕ) (d : Desktop) → AllShift c A (raise_of (hit_now d.pointer.place (all_windows d))) → Known d → PressedThen time button d Next → X
    pressed-then time button d shift known h =
        let start : Desktop = with_press button d in
        let input : PointerInput = pointer.Press time button (grab_holder d) in
        let told : Within h.0 = acts input (unstruck start) h.0 (press-shifts c A time button (grab_holder d) start.pointer (all_windows start) shift) (begun start known) h.1 in
        next h.2 (settles h.0 h.2 told h.3) h.4

    -- a button is released
    pub released-then : (time button : ℕ) (d : Desktop) → Known d → ReleasedThen time button d Next → X
    released-then time button d known h =
        let start : Desktop = with_release button d in
        let told : Within h.0 = acts (pointer.Release time button) (unstruck start) h.0 (button-shifts c A time button false start.pointer.focus) (begun start known) h.1 in
        next h.2 (settles h.0 h.2 told h.3) h.4

  pub shown : TellsDone T → (time : ℕ) (d new : Desktop) → Known d → Shows time d new → Known new
  shown done time d new known h = shown-then (Known new) (settling new) (λ mid known. settling-in c T all.focus A P stays mid new known) done time d known h

  pub moves : (time : ℕ) (at : Place) (d new : Desktop) → AllShift c A (move_of d.pointer.place at d.pointer.move) → Known d → MovesTo time at d new → Known new
  moves time at d new shift known h = moves-then (Known new) (ending new) (λ mid known. ends mid new known) time at d shift known h

  pub pressed-so : (time button : ℕ) (d new : Desktop) → AllShift c A (raise_of (hit_now d.pointer.place (all_windows d))) → Known d → PressesIf true time button d new → Known new
  pressed-so time button d new shift known h = pressed-then (Known new) (ending new) (λ mid known. ends mid new known) time button d shift known h

  pub released-so : (time button : ℕ) (d new : Desktop) → Known d → ReleasesIf true time button d new → Known new
  released-so time button d new known h = released-then (Known new) (ending new) (λ mid known. ends mid new known) time button d known h

presses : (b : Bool) (time button c : ℕ) (d new : Desktop) → PressesIf b time button d new → KeepsItsOwn c d new
presses false time button c d new h = kept-same c d new h
presses true time button c d new h =
    kept c d new
    (λ A P stays shifting known. pressed-so c StaysOwn own-all A P stays time button d new (raise-shifts c A shifting (hit_now d.pointer.place (all_windows d))) known h)

releases : (b : Bool) (time button c : ℕ) (d new : Desktop) → ReleasesIf b time button d new → KeepsItsOwn c d new
releases false time button c d new h = kept-same c d new h
releases true time button c d new h = kept c d new (λ A P stays shifting known. released-so c StaysOwn own-all A P stays time button d new known h)

-- ---- another client's step

told-once : (events : List Said) (r : Resident) → HasItsOwn r (told_once events r)
told-once events r = own-then r (drawing true r) (told_once events r) (own-drawn true r) (own-more (drawing true r) (flat_map said_bytes events))

told-times : (times : List (List Said)) (r q : Resident) → IsToldTimes times r q → HasItsOwn r q
told-times [] r q h = rw h (own-same r)
told-times (events ∷ times) r q h = own-then r (told_once events r) q (told-once events r) (told-times times (told_once events r) q h.2)

limit-of : (cause : Cause) (r : Resident) → IsNotQueued cause r → (cause ≡ Slow) ⊎ (cause ≡ Memory)
limit-of cause r h = at (has_room r.peer.unsent h.1) h.3
  where
    at : (b : Bool) → cause ≡ (if b then Memory else Slow) → (cause ≡ Slow) ⊎ (cause ≡ Memory)
    at true e = inr e
    at false e = inl e

kept-alone : (c : ℕ) (old new : Desktop) → IsLeftAlone c old new → KeepsItsOwn c old new
kept-alone c old new h = at (client_at c old) h
  where
    living : (r : Resident) (now : Option Resident) → IsLeftBy None r (toplevels_of c old) now (toplevels_of c new) → KeepsItsOwnBy None r (toplevels_of c old) now (toplevels_of c new)
    living r None h = absurd h
    living r (Some q) (inl h) = inl (told-times h.0.0 r q h.0.1, λ surface. ap (λ (ss : List Standing). list_any (λ s. s.surface == surface) ss) h.1)
    living r (Some q) (inr h) = inr ((h.0.0, h.0.1, told-times h.0.2.0 r h.0.0 h.0.2.1, limit-of h.0.1 h.0.0 h.0.3, h.0.4), h.1)

    by : (r : Resident) (s : Option Cause) → IsLeftBy s r (toplevels_of c old) (client_at c new) (toplevels_of c new) → KeepsItsOwnBy s r (toplevels_of c old) (client_at c new) (toplevels_of c new)
    by r (Some cause) h = h.0
    by r None h = living r (client_at c new) h

    at : (o : Option Resident) → IsLeftSo o (toplevels_of c old) (client_at c new) (toplevels_of c new) → KeepsItsOwnSo o (toplevels_of c old) (client_at c new) (toplevels_of c new)
    at None h = h.0
    at (Some r) h = by r r.peer.status h

connects : (c : ℕ) (k : Option ℕ) (done : Done) (old new : Desktop) → lowest old.clients ≡ k → client_of Connect done ≢ Some c → ConnectsAt k old done new → KeepsItsOwn c old new
connects c None done old new is not_it h = kept-same c old new h.1
connects c (Some k) done old new is not_it (inl h) = kept-same c old new h.1
connects c (Some k) done old new is not_it (inr h) =
    let of : client_of Connect done ≡ Some (k + 1) = ap (λ (x : Done). client_of Connect x) h.0 in
    let all : ConnectsAt (lowest old.clients) old done new = rw is (inr h) in
    kept-alone c old new (others_are_left_alone Connect done (k + 1) c old new of all (λ e. not_it (of ∙ ap (λ (n : ℕ). Some n) e)))

-- a step of another's, whose number is known
another : (act : Act) (done : Done) (a c : ℕ) (old new : Desktop) → client_of act done ≡ Some a → client_of act done ≢ Some c → Happens act done old new → KeepsItsOwn c old new
another act done a c old new of not_it h =
    kept-alone c old new (others_are_left_alone act done a c old new of h (λ e. not_it (of ∙ ap (λ (n : ℕ). Some n) e)))

pub own_stays : OwnStays
own_stays Connect done c old new not_it h = connects c (lowest old.clients) done old new refl not_it h
own_stays (Feed a piece) done c old new not_it h = another (Feed a piece) done a c old new refl not_it h
own_stays (Store a store at bytes) done c old new not_it h = another (Store a store at bytes) done a c old new refl not_it h
own_stays (Leave a) done c old new not_it h = another (Leave a) done a c old new refl not_it h
own_stays (Tick time) done c old new not_it h =
    kept c old new (λ A P stays shifting known. shown c StaysOwn own-all A P stays own-frames time old new known h.1)
own_stays (Send a n) done c old new not_it h = another (Send a n) done a c old new refl not_it h
own_stays (Close a) done c old new not_it h = another (Close a) done a c old new refl not_it h
own_stays (Motion time x y) done c old new not_it h =
    let at : Place = point_in old.output x y in
    kept c old new
    (λ A P stays shifting known. moves c StaysOwn own-all A P stays time at old new (move-shifts c A shifting old.pointer.place at old.pointer.move) known h.1)
own_stays (Button time button true) done c old new not_it h = presses (is_press button old.pointer.buttons) time button c old new h.1
own_stays (Button time button false) done c old new not_it h = releases (is_down button old.pointer.buttons) time button c old new h.1

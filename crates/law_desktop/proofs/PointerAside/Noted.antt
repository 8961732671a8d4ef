-- Whether clients live and what is noted of each, as its wl_pointers, where they are told something and where clients end: both stay as they
-- are where what is noted heeds nothing that a client is told.
use Rattle.std.proofs.Common.{◌≡◌, ◌≢◌, ℕ, zero, suc, List, [], ◌∷◌, Bool, true, false, Option, Some, None, refl, ap, ap₂, subst, sym, ◌∙◌, inl, inr}
use Rattle.std.proofs.lemmas.Option.{none-some, same_Some}
use Rattle.std.specs.Prelude.{◌⊎◌, ◌&&◌, ◌||◌, ◌++◌, if◌then◌else◌, is_some}
use Rattle.spec_desktop.specs.declared.cause.Cause.{Cause}
use Rattle.spec_desktop.specs.Peer.{Peer, ended}
use Rattle.spec_desktop.specs.Told.{Said}
use Rattle.wl_surface.specs.Surfaces.{history_in}
use Rattle.wl_surface.specs.Waiting.{Callback}
use Rattle.spec_desktop.specs.Pointer.{Pointer, Target, is_same, settled}
use Rattle.spec_desktop.specs.PointerActions.{PointerAction, Leave, Enter, Motion, Button, Dismiss}
use Rattle.spec_desktop.specs.PointerActions.{PointerInput, Settle, GoTo, Went, Press, Release, actions, enter_of, leave_of, motion_of, move_of}
use Rattle.spec_desktop.specs.Windows.{Place, Window}
use Rattle.spec_desktop.specs.Changing.{drawing, without_callbacks}
use Rattle.spec_desktop.specs.Desktop.{Desktop, Resident, client_at, client_in, resident_of, status_in, status_of, with_number}
use Rattle.spec_desktop.specs.Happens.{TellsFrames, callbacks_due, frames_told}
use Rattle.spec_desktop.specs.Pointing.{button_told, entered_surface, has_pointers, left_surface, motion_told}
use Rattle.spec_desktop.specs.Replies.{focus_window, popups_done}
use Rattle.spec_desktop.specs.Settling.{Applies, AppliesAll, Midstep, PointerActs, Strike, Tells, TellsAt, TellsUnless, ended_all}
use Rattle.spec_desktop.specs.Settling.{ended_at, ended_by, is_struck, leave_drawn, noted as serials_noted, noted_if, number_of, told_drawn, unstruck, without_grabs}
use Rattle.spec_desktop.specs.Stacked.{all_windows}
use Rattle.spec_desktop.specs.Step.{with_peer}
use Rattle.spec_desktop.specs.Through.{EndsFirstThrough, SettlesAllThrough, ending_through, settling_through}
use Rattle.law_desktop.proofs.Runs.Ends.{drawn-status, queues-status}
use Rattle.law_desktop.proofs.Runs.Fates.{same-or}
use Rattle.law_desktop.proofs.Runs.Moves.{callbacks-status}
use Rattle.law_desktop.proofs.Runs.Places.{number-other, number-same}
use Rattle.law_desktop.proofs.Lists.Each.{Each}

-- why a client ended, if it did, and what is noted of it
pub record Noted (X : Type 0) : Type 0 where
  pub status : Option Cause
  pub noted : X

abbrev pub noted : {X : Type 0} → Option Cause → X → Option (Noted X)
noted s x = Some (record { status = s; noted = x })

abbrev pub status_noted : {X : Type 0} → Option (Noted X) → Option Cause
status_noted None = None
status_noted (Some n) = n.status

pub noted-same : {X : Type 0} (s t : Option Cause) (x y : X) → s ≡ t → x ≡ y → noted s x ≡ noted t y
noted-same s t x y e f = ap₂ noted e f

pub same-noted : {X : Type 0} (s t : Option Cause) (x y : X) → noted s x ≡ noted t y → x ≡ y
same-noted {X} s t x y e = ap (λ (n : Noted X). n.noted) (same_Some (record { status = s; noted = x }) (record { status = t; noted = y }) e)

-- What is noted of a client heeds nothing that it is told, nor that its popups lose their grabs.
pub record HeedsNothing {X : Type 0} (of : Resident → X) : Type 0 where
  pub peer : (p : Peer) (r : Resident) → of (with_peer p r) ≡ of r
  pub grabs : (r : Resident) → of (without_grabs r) ≡ of r
  pub callbacks : (gone : List Callback) (r : Resident) → of (without_callbacks gone r) ≡ of r

-- Nor does it heed a button.
abbrev pub HeedsNoButton : {X : Type 0} → (Resident → X) → Type 0
HeedsNoButton of = (b pressed : Bool) (r : Resident) → of (noted_if b pressed r) ≡ of r

module _ {X : Type 0} (of : Resident → X) where
  abbrev pub noted_of : Option Resident → Option (Noted X)
  noted_of None = None
  noted_of (Some r) = noted r.peer.status (of r)

  abbrev pub noted_in : ℕ → Desktop → Option (Noted X)
  noted_in c d = noted_of (client_at c d)

  pub status-noted : (o : Option Resident) → status_of o ≡ status_noted (noted_of o)
  status-noted None = refl
  status-noted (Some r) = refl

  -- of whom it is noted
  pub noted-client : (o : Option Resident) (x : X) → noted_of o ≡ noted None x → (r : Resident) × (o ≡ Some r) × (r.peer.status ≡ None) × (x ≡ of r)
  noted-client None x e = absurd (none-some _ e)
  noted-client (Some r) x e = (r, refl, ap status_noted e, sym (same-noted r.peer.status None (of r) x e))

  -- ---- all clients stay as they are

  abbrev pub KeepsNoted : Desktop → Desktop → Type 0
  KeepsNoted d e = (c : ℕ) → noted_in c e ≡ noted_in c d

  pub kept-status : (d e : Desktop) (c : ℕ) → KeepsNoted d e → status_in c e ≡ status_in c d
  kept-status d e c keeps = status-noted (client_at c e) ∙ ap status_noted (keeps c) ∙ sym (status-noted (client_at c d))

  -- one becomes another of whom the same is noted
  pub put-noted : (c : ℕ) (x : Option Resident) (r : Resident) (d : Desktop) → client_at c d ≡ Some r → noted_of x ≡ noted_of (Some r) → (a : ℕ)
      → noted_of (client_in (with_number c x d.clients) a) ≡ noted_in a d
  put-noted c x r d is same a = at (same-or c a)
    where
      at : (c ≡ a) ⊎ (c ≢ a) → noted_of (client_in (with_number c x d.clients) a) ≡ noted_in a d
      at (inl here) =
          subst (λ (n : ℕ). noted_of (client_in (with_number c x d.clients) n) ≡ noted_in n d) here
          (ap noted_of (number-same d.clients c x r is) ∙ same ∙ sym (ap noted_of is))
      at (inr away) = ap noted_of (number-other d.clients c a x away)

  -- ---- clients that live lived, and the same was noted of them

  abbrev pub Had : Desktop → Desktop → Type 0
  Had d e = (c : ℕ) (x : X) → noted_in c e ≡ noted None x → noted_in c d ≡ noted None x

  pub kept-had : (d e : Desktop) → KeepsNoted d e → Had d e
  kept-had d e keeps c x h = sym (keeps c) ∙ h

  pub same-had : (d e : Desktop) → e ≡ d → Had d e
  same-had d e same c x h = sym (ap (noted_in c) same) ∙ h

  pub had-on : (d e f : Desktop) → Had d e → Had e f → Had d f
  had-on d e f first second c x h = first c x (second c x h)

  -- one becomes another that doesn't live, or goes
  pub put-had : (c : ℕ) (o : Option Resident) (r : Resident) (d : Desktop) → client_at c d ≡ Some r → ((x : X) → noted_of o ≡ noted None x → ⊥) → (a : ℕ) (x : X)
      → noted_of (client_in (with_number c o d.clients) a) ≡ noted None x → noted_in a d ≡ noted None x
  put-had c o r d is never a x h = at (same-or c a)
    where
      at : (c ≡ a) ⊎ (c ≢ a) → noted_in a d ≡ noted None x
      at (inl here) =
          absurd (never x (sym (ap noted_of (number-same d.clients c o r is)) ∙ subst (λ (n : ℕ). noted_of (client_in (with_number c o d.clients) n) ≡ noted None x) (sym here) h))
      at (inr away) = sym (ap noted_of (number-other d.clients c a o away)) ∙ h

  ended-had : (s : Strike) (d : Desktop) → Had d (ended_by s d)
  ended-had s d c x h = at (client_at s.client d) refl h
    where
      at : (o : Option Resident) → client_at s.client d ≡ o → noted_in c (ended_at s.client s.cause o d) ≡ noted None x → noted_in c d ≡ noted None x
      at None is h = h
      at (Some r) is h = put-had s.client (Some (resident_of (ended s.cause r.peer))) r d is (λ y e. none-some s.cause (sym (ap status_noted e))) c x h

  all-had : (ss : List Strike) (d : Desktop) → Had d (ended_all ss d)
  all-had [] d c x h = h
  all-had (s ∷ ss) d c x h = ended-had s d c x (all-had ss (ended_by s d) c x h)

  first-had : (Next : Midstep → List Desktop → Desktop → Type 0) → ((m : Midstep) (path : List Desktop) (new : Desktop) → Next m path new → Had m.desktop new) → (ss : List Strike)
      (d : Desktop) (path : List Desktop) (new : Desktop) → EndsFirstThrough Next ss d path new → Had d new
  first-had Next next [] d path new h = same-had d new h.1
  first-had Next next (s ∷ ss) d path new h = had-on d (ended_by s d) new (ended-had s d) (next (record { desktop = ended_by s d; struck = ss }) h.0 new h.2)

  -- ---- what the pointer does

  abbrev Keeps : PointerAction → Type 0
  Keeps (Button time button pressed t) = HeedsNoButton of
  Keeps action = Unit {0}

  one-keeps : HeedsNoButton of → (action : PointerAction) → Keeps action
  one-keeps heeds (Button time button pressed t) = heeds
  one-keeps heeds action = tt

  each-keeps : HeedsNoButton of → (acts : List PointerAction) → Each Keeps acts
  each-keeps heeds [] = tt
  each-keeps heeds (act ∷ acts) = (one-keeps heeds act, each-keeps heeds acts)

  -- only for a press and a release it is asked that no button is heeded
  abbrev pub IsKeptBy : PointerInput → Type 0
  IsKeptBy (Press time button holder) = HeedsNoButton of
  IsKeptBy (Release time button) = HeedsNoButton of
  IsKeptBy input = Unit {0}

  module _ (ws : List Window) (p : Pointer) where
    turns-keep : (s t : Option Target) → Each Keeps (leave_of s ++ enter_of t)
    turns-keep None None = tt
    turns-keep None (Some t) = (tt, tt)
    turns-keep (Some s) None = (tt, tt)
    turns-keep (Some s) (Some t) = (tt, (tt, tt))

    motion-keeps : (time : ℕ) (moved focus : Option Target) → Each Keeps (motion_of time moved focus)
    motion-keeps time moved None = tt
    motion-keeps time None (Some t) = (tt, tt)
    motion-keeps time (Some moved) (Some t) = tt

    move-keeps : (from : Option Place) (to : Place) (moved : Option Target) → Each Keeps (move_of from to moved)
    move-keeps None to moved = tt
    move-keeps (Some from) to None = tt
    move-keeps (Some from) to (Some t) = (tt, tt)

    focus-keeps : (staying : List PointerAction) → Each Keeps staying → (b : Bool) → Each Keeps (if b then staying else leave_of p.focus ++ enter_of (settled p ws))
    focus-keeps staying keeps true = keeps
    focus-keeps staying keeps false = turns-keep p.focus (settled p ws)

    actions-keep : (input : PointerInput) → IsKeptBy input → Each Keeps (actions input p ws)
    actions-keep Settle is = focus-keeps [] tt (is_same p.focus (settled p ws))
    actions-keep (GoTo to) is = move-keeps p.place to p.move
    actions-keep (Went time) is = focus-keeps (motion_of time p.move p.focus) (motion-keeps time p.move p.focus) (is_same p.focus (settled p ws))
    actions-keep (Press time button holder) is = each-keeps is (actions (Press time button holder) p ws)
    actions-keep (Release time button) is = each-keeps is (actions (Release time button) p ws)

  module _ (heeds : HeedsNothing of) where
    drawn-keeps : (b : Bool) (r : Resident) → of (drawing b r) ≡ of r
    drawn-keeps true r = heeds.peer _ r
    drawn-keeps false r = refl

    serials-status : (pressed : Bool) (r : Resident) → (serials_noted pressed r).peer.status ≡ r.peer.status
    serials-status true r = refl
    serials-status false r = refl

    button-status : (b pressed : Bool) (r : Resident) → (noted_if b pressed r).peer.status ≡ r.peer.status
    button-status true pressed r = drawn-status (has_pointers (serials_noted pressed r)) (serials_noted pressed r) ∙ serials-status pressed r
    button-status false pressed r = refl

    tells-keep : (change : Resident → Resident) (events : Resident → List Said) → ((r : Resident) → (change r).peer.status ≡ r.peer.status) → ((r : Resident) → of (change r) ≡ of r)
        → (c : ℕ) (old new : Midstep) → Tells change events c old new → KeepsNoted old.desktop new.desktop
    tells-keep change events lives keeps c old new h a = at (client_at c old.desktop) refl h
      where
        stays : new ≡ old → noted_in a new.desktop ≡ noted_in a old.desktop
        stays e = ap (λ (m : Midstep). noted_in a m.desktop) e

        unless : (b : Bool) (r : Resident) → client_at c old.desktop ≡ Some r → TellsUnless b change events c r old new → noted_in a new.desktop ≡ noted_in a old.desktop
        unless true r there h = stays h
        unless false r there h =
            ap (λ (m : Midstep). noted_in a m.desktop) h.3
            ∙ put-noted c (Some (with_peer h.0 (change r))) r old.desktop there
            (noted-same h.0.status r.peer.status (of (with_peer h.0 (change r))) (of r) (queues-status (events r) (change r).peer h.0 h.1 h.2 ∙ lives r) (heeds.peer h.0 (change r) ∙ keeps r)) a

        at : (o : Option Resident) → client_at c old.desktop ≡ o → TellsAt change events c o old new → noted_in a new.desktop ≡ noted_in a old.desktop
        at None there h = stays h
        at (Some r) there h = unless (is_some r.peer.status || is_struck c old.struck) r there h

    left-keep : (surface c : ℕ) (old new : Midstep) → Tells (leave_drawn surface) (left_surface surface) c old new → KeepsNoted old.desktop new.desktop
    left-keep surface c old new h =
        tells-keep (leave_drawn surface) (left_surface surface) (λ r. drawn-status (is_some (history_in surface r.owned.surfaces) && has_pointers r) r)
        (λ r. drawn-keeps (is_some (history_in surface r.owned.surfaces) && has_pointers r) r) c old new h

    applies-keep : (windows : List Window) (action : PointerAction) (old new : Midstep) → Keeps action → Applies windows action old new → KeepsNoted old.desktop new.desktop
    applies-keep windows (Leave t) old new keeps h c = ap (λ (m : Midstep). noted_in c m.desktop) h.2 ∙ left-keep t.surface t.client old h.0 h.1 c
    applies-keep windows (Enter t) old new keeps h c =
        ap (λ (m : Midstep). noted_in c m.desktop) h.2
        ∙ tells-keep told_drawn (entered_surface old.desktop.pointer.place (focus_window (Some t) windows)) (λ r. drawn-status (has_pointers r) r) (λ r. drawn-keeps (has_pointers r) r)
        t.client old h.0 h.1 c
    applies-keep windows (Motion time t) old new keeps h c =
        tells-keep (λ r. r) (motion_told time old.desktop.pointer.place (focus_window (Some t) windows)) (λ r. refl) (λ r. refl) t.client old new h c
    applies-keep windows (Button time button pressed t) old new keeps h c =
        tells-keep (λ r. noted_if (has_pointers r) pressed r) (button_told time button (number_of pressed)) (λ r. button-status (has_pointers r) pressed r)
        (λ r. keeps (has_pointers r) pressed r) t.client old new h c
    applies-keep windows (Dismiss a) old new keeps h c = tells-keep without_grabs (λ r. popups_done r (without_grabs r)) (λ r. refl) (λ r. heeds.grabs r) a old new h c
    applies-keep windows action old new keeps h c = ap (λ (m : Midstep). noted_in c m.desktop) h

    all-keep : (windows : List Window) (acts : List PointerAction) (old new : Midstep) → Each Keeps acts → AppliesAll windows acts old new → KeepsNoted old.desktop new.desktop
    all-keep windows [] old new keep h c = ap (λ (m : Midstep). noted_in c m.desktop) h
    all-keep windows (act ∷ acts) old new keep h c = all-keep windows acts h.0 new keep.1 h.2 c ∙ applies-keep windows act old h.0 keep.0 h.1 c

    pub acts-keep : (input : PointerInput) (old new : Midstep) → IsKeptBy input → PointerActs input old new → KeepsNoted old.desktop new.desktop
    acts-keep input old new is h =
        all-keep (all_windows old.desktop) (actions input old.desktop.pointer (all_windows old.desktop)) old new (actions-keep (all_windows old.desktop) old.desktop.pointer input is) h

    pub frames-keep : (time n c : ℕ) (old new : Midstep) → TellsFrames time n c old new → KeepsNoted old.desktop new.desktop
    frames-keep time zero c old new h a = ap (λ (m : Midstep). noted_in a m.desktop) h
    frames-keep time (suc n) c old new h a =
        frames-keep time n (suc c) h.0 new h.2 a
        ∙ tells-keep (λ r. without_callbacks (callbacks_due r) r) (frames_told time) (λ r. callbacks-status (callbacks_due r) r) (λ r. heeds.callbacks (callbacks_due r) r) c old h.0 h.1 a

    settles-had : (n : ℕ) (old : Midstep) (path : List Desktop) (new : Desktop) → SettlesAllThrough n old path new → Had old.desktop new
    settles-had zero old path new h = same-had old.desktop new h.1
    settles-had (suc n) old path new h =
        had-on old.desktop h.0.desktop new (kept-had old.desktop h.0.desktop (acts-keep Settle old h.0 tt h.1))
        (first-had (SettlesAllThrough n) (settles-had n) h.0.struck h.0.desktop h.2 new h.4)

    pub settling-had : (path : List Desktop) (new : Desktop) (mid : Midstep) → settling_through path new mid → Had mid.desktop new
    settling-had path new mid h =
        had-on mid.desktop (ended_all mid.struck mid.desktop) new (all-had mid.struck mid.desktop) (settles-had 33 (unstruck (ended_all mid.struck mid.desktop)) h.0 new h.2)

    pub ending-had : (path : List Desktop) (new : Desktop) (mid : Midstep) → ending_through path new mid → Had mid.desktop new
    ending-had path new mid h = first-had (SettlesAllThrough 32) (settles-had 32) mid.struck mid.desktop h.0 new h.2

-- A frame with the pointer put aside, and put back.
use Rattle.std.proofs.Common.{◌≡◌, ◌≢◌, ℕ, zero, suc, List, [], ◌∷◌, map, Bool, true, false, Option, Some, None, refl, ap, ap₂, subst, sym, ◌∙◌, inl, inr}
use Rattle.std.proofs.lemmas.Bool.{eqb-false, eqb-true}
use Rattle.std.specs.Prelude.{◌==◌, ◌&&◌, ◌||◌, ◌⊎◌, is_none, is_some, if◌then◌else◌}
use Rattle.spec_desktop.specs.declared.cause.Cause.{Cause}
use Rattle.spec_desktop.specs.Peer.{ended}
use Rattle.spec_desktop.specs.Told.{Said}
use Rattle.spec_desktop.specs.Pointer.{Pointer, Target, first_pointer}
use Rattle.spec_desktop.specs.Changing.{without_callbacks}
use Rattle.spec_desktop.specs.Desktop.{Desktop, Resident, client_at, resident_of, status_in, status_of, unpointed, with_client}
use Rattle.spec_desktop.specs.Happens.{TellsFrames, callbacks_due, frames_told}
use Rattle.spec_desktop.specs.Settling.{Midstep, Strike, Tells, TellsAt, TellsUnless, ended_all, ended_at, ended_by, is_struck, unless_of, unstruck}
use Rattle.spec_desktop.specs.Through.{ends_through}
use Rattle.law_desktop.proofs.Runs.Ends.{ended-after, queues-status}
use Rattle.law_desktop.proofs.Runs.Fates.{AreStruck, Lives, same-or}
use Rattle.law_desktop.proofs.Runs.Moves.{callbacks-status, frames-leads}
use Rattle.law_desktop.proofs.Runs.Places.{number-other, number-same}
use Rattle.law_desktop.specs.Pointed.Happenings.{FramesApart, has_ended, pointer_left, unless_ended, with_pointer}
use Rattle.law_desktop.specs.Pointed.Pointed.{pointed}
use Rattle.law_desktop.proofs.PointerAside.Pointers.{all-nowhere, ended-put, settles-on}

-- ---- what is told leaves the pointer aside

tells-back : (change : Resident → Resident) (events : Resident → List Said) (c : ℕ) (p : Pointer) (old new : Midstep) → Tells change events c old new
    → Tells change events c (with_pointer p old) (with_pointer p new)
tells-back change events c p old new h = at (client_at c old.desktop) h
  where
    unless : (b : Bool) (r : Resident) → TellsUnless b change events c r old new → TellsUnless b change events c r (with_pointer p old) (with_pointer p new)
    unless true r h = ap (with_pointer p) h
    unless false r h = (h.0, h.1, h.2, ap (with_pointer p) h.3)

    at : (o : Option Resident) → TellsAt change events c o old new → TellsAt change events c o (with_pointer p old) (with_pointer p new)
    at None h = ap (with_pointer p) h
    at (Some r) h = unless (is_some r.peer.status || is_struck c old.struck) r h

frames-back : (time n c : ℕ) (p : Pointer) (old new : Midstep) → TellsFrames time n c old new → TellsFrames time n c (with_pointer p old) (with_pointer p new)
frames-back time zero c p old new h = ap (with_pointer p) h
frames-back time (suc n) c p old new h =
    (with_pointer p h.0, tells-back (λ r. without_callbacks (callbacks_due r) r) (frames_told time) c p old h.0 h.1, frames-back time n (suc c) p h.0 new h.2)

-- ---- nobody ends as frames are told

abbrev StatusesStay : Desktop → Desktop → Type 0
StatusesStay d e = (k : ℕ) → status_in k e ≡ status_in k d

put-status : (c : ℕ) (r x : Resident) (d : Desktop) → client_at c d ≡ Some r → x.peer.status ≡ r.peer.status → StatusesStay d (with_client c (Some x) d)
put-status c r x d there same k = at (same-or c k)
  where
    at : (c ≡ k) ⊎ (c ≢ k) → status_in k (with_client c (Some x) d) ≡ status_in k d
    at (inl e) =
        subst (λ (n : ℕ). status_in n (with_client c (Some x) d) ≡ status_in n d) e
        (ap status_of (number-same d.clients c (Some x) r there) ∙ same ∙ sym (ap status_of there))
    at (inr differ) = ap status_of (number-other d.clients c k (Some x) differ)

tells-status : (change : Resident → Resident) (events : Resident → List Said) → ((r : Resident) → (change r).peer.status ≡ r.peer.status) → (c : ℕ) (old new : Midstep) → Tells change events c old new
    → StatusesStay old.desktop new.desktop
tells-status change events keeps c old new h = at (client_at c old.desktop) refl h
  where
    stays : new ≡ old → StatusesStay old.desktop new.desktop
    stays e k = ap (λ (m : Midstep). status_in k m.desktop) e

    unless : (b : Bool) (r : Resident) → client_at c old.desktop ≡ Some r → TellsUnless b change events c r old new → StatusesStay old.desktop new.desktop
    unless true r there h k = stays h k
    unless false r there h k =
        ap (λ (m : Midstep). status_in k m.desktop) h.3
        ∙ put-status c r (record (change r) { peer = h.0 }) old.desktop there (queues-status (events r) (change r).peer h.0 h.1 h.2 ∙ keeps r) k

    at : (o : Option Resident) → client_at c old.desktop ≡ o → TellsAt change events c o old new → StatusesStay old.desktop new.desktop
    at None there h = stays h
    at (Some r) there h = unless (is_some r.peer.status || is_struck c old.struck) r there h

frames-status : (time n c : ℕ) (old new : Midstep) → TellsFrames time n c old new → StatusesStay old.desktop new.desktop
frames-status time zero c old new h k = ap (λ (m : Midstep). status_in k m.desktop) h
frames-status time (suc n) c old new h k =
    frames-status time n (suc c) h.0 new h.2 k
    ∙ tells-status (λ r. without_callbacks (callbacks_due r) r) (frames_told time) (λ r. callbacks-status (callbacks_due r) r) c old h.0 h.1 k

-- ---- the pointer leaves those that end

module _ (d : Desktop) where
  abbrev put : Desktop → Desktop
  put x = pointed (pointer_left d x) x

  -- who lives there lived before
  abbrev Lived : Desktop → Type 0
  Lived x = (k : ℕ) → status_in k x ≡ None → status_in k d ≡ None

  none-ended : (x : Desktop) → StatusesStay d x → pointer_left d x ≡ d.pointer
  none-ended x stays = ap₂ (λ (f m : Option Target). record d.pointer { focus = f; move = m }) (kept d.pointer.focus) (kept d.pointer.move)
    where
      not-both : (s : Option Cause) → (is_none s && is_some s) ≡ false
      not-both None = refl
      not-both (Some why) = refl

      kept : (t : Option Target) → unless_ended d x t ≡ t
      kept None = refl
      kept (Some t) =
          ap (λ (b : Bool). if b then None else Some t) (ap (λ (s : Option Cause). is_none (status_in t.client d) && is_some s) (stays t.client) ∙ not-both (status_in t.client d))

  module _ (s : Strike) (x : Desktop) (lives : Lives s.client x.clients) (lived : Lived x) where
    status-over : status_in s.client (ended_by s x) ≡ Some s.cause
    status-over =
        ap (λ (o : Option Resident). status_in s.client (ended_at s.client s.cause o x)) lives.is
        ∙ ap status_of (number-same x.clients s.client (Some (resident_of (ended s.cause lives.there.peer))) lives.there lives.is)

    status-else : (k : ℕ) → s.client ≢ k → status_in k (ended_by s x) ≡ status_in k x
    status-else k differ =
        ap (λ (o : Option Resident). status_in k (ended_at s.client s.cause o x)) lives.is
        ∙ ap status_of (number-other x.clients s.client k (Some (resident_of (ended s.cause lives.there.peer))) differ)

    was-alive : status_in s.client d ≡ None
    was-alive = lived s.client (ap status_of lives.is ∙ lives.alive)

    left-by : (t : Option Target) → unless_of s.client (unless_ended d x t) ≡ unless_ended d (ended_by s x) t
    left-by None = refl
    left-by (Some t) = at (t.client == s.client) refl
      where
        gone : (t.client == s.client) ≡ true → (b : Bool) → unless_of s.client (if b then None else Some t) ≡ None
        gone e true = refl
        gone e false = ap (λ (b : Bool). if b then None else Some t) e

        stays : (t.client == s.client) ≡ false → (b : Bool) → unless_of s.client (if b then None else Some t) ≡ (if b then None else Some t)
        stays e true = refl
        stays e false = ap (λ (b : Bool). if b then None else Some t) e

        ended-so : t.client ≡ s.client → has_ended t.client d (ended_by s x) ≡ true
        ended-so same =
            ap (λ (n : ℕ). has_ended n d (ended_by s x)) same
            ∙ ap₂ (λ (was now : Option Cause). is_none was && is_some now) was-alive status-over

        at : (b : Bool) → (t.client == s.client) ≡ b → unless_of s.client (unless_ended d x (Some t)) ≡ unless_ended d (ended_by s x) (Some t)
        at true e = gone e (has_ended t.client d x) ∙ sym (ap (λ (b : Bool). if b then None else Some t) (ended-so (eqb-true t.client s.client e)))
        at false e =
            stays e (has_ended t.client d x)
            ∙ sym (ap (λ (now : Option Cause). if is_none (status_in t.client d) && is_some now then None else Some t)
            (status-else t.client (λ same. eqb-false t.client s.client e (sym same))))

    pub ended-left : ended_by s (put x) ≡ put (ended_by s x)
    ended-left =
        ended-put s.client s.cause (pointer_left d x) x lives.there lives.is
        ∙ ap₂ (λ (f m : Option Target). pointed (record d.pointer { focus = f; move = m }) (ended_by s x)) (left-by d.pointer.focus) (left-by d.pointer.move)

    pub lived-on : Lived (ended_by s x)
    lived-on k alive = at (same-or s.client k)
      where
        at : (s.client ≡ k) ⊎ (s.client ≢ k) → status_in k d ≡ None
        at (inl e) = subst (λ (n : ℕ). status_in n d ≡ None) e was-alive
        at (inr differ) = lived k (sym (status-else k differ) ∙ alive)

  through-left : (ss : List Strike) (x : Desktop) → AreStruck ss x.clients → Lived x → ends_through ss (put x) ≡ map put (ends_through ss x)
  through-left [] x struck lived = refl
  through-left (s ∷ ss) x struck lived =
      let here : ended_by s (put x) ≡ put (ended_by s x) = ended-left s x struck.0 lived in
      ap₂ (λ (y : Desktop) (ys : List Desktop). y ∷ ys) here
      (ap (ends_through ss) here ∙ through-left ss (ended_by s x) (ended-after s ss x struck).sound (lived-on s x struck.0 lived))

  all-left : (ss : List Strike) (x : Desktop) → AreStruck ss x.clients → Lived x → ended_all ss (put x) ≡ put (ended_all ss x)
  all-left [] x struck lived = refl
  all-left (s ∷ ss) x struck lived =
      ap (ended_all ss) (ended-left s x struck.0 lived) ∙ all-left ss (ended_by s x) (ended-after s ss x struck).sound (lived-on s x struck.0 lived)

told-nowhere : (time n c : ℕ) (old new : Midstep) → TellsFrames time n c old new → old.desktop.pointer ≡ first_pointer → new.desktop.pointer ≡ first_pointer
told-nowhere time zero c old new h still = ap (λ (m : Midstep). m.desktop.pointer) h ∙ still
told-nowhere time (suc n) c old new h still = told-nowhere time n (suc c) h.0 new h.2 (at (client_at c old.desktop) h.1)
  where
    unless : (b : Bool) (r : Resident) → TellsUnless b (λ r. without_callbacks (callbacks_due r) r) (frames_told time) c r old h.0 → h.0.desktop.pointer ≡ first_pointer
    unless true r h = ap (λ (m : Midstep). m.desktop.pointer) h ∙ still
    unless false r h = ap (λ (m : Midstep). m.desktop.pointer) h.3 ∙ still

    at : (o : Option Resident) → TellsAt (λ r. without_callbacks (callbacks_due r) r) (frames_told time) c o old h.0 → h.0.desktop.pointer ≡ first_pointer
    at None h = ap (λ (m : Midstep). m.desktop.pointer) h ∙ still
    at (Some r) h = unless (is_some r.peer.status || is_struck c old.struck) r h

pub frames-apart : FramesApart
frames-apart time done d path e h =
    let aside : Midstep = h.1.0 in
    let told : TellsFrames time 32 1 (unstruck (unpointed d)) aside = h.1.1 in
    let back : Midstep = with_pointer d.pointer aside in
    let stays : StatusesStay d aside.desktop = frames-status time 32 1 (unstruck (unpointed d)) aside told in
    let struck : AreStruck aside.struck aside.desktop.clients = ((frames-leads time 32 1 (unstruck (unpointed d)) tt).follows aside told).sound in
    let lived : Lived d aside.desktop = λ k alive. sym (stays k) ∙ alive in
    let first : back.desktop ≡ put d aside.desktop = ap (λ (p : Pointer). pointed p aside.desktop) (sym (none-ended d aside.desktop stays)) in
    let on = settles-on (put d) aside back (all-nowhere aside.struck aside.desktop (told-nowhere time 32 1 (unstruck (unpointed d)) aside told refl)) first
    (ap (ends_through aside.struck) first ∙ through-left d aside.struck aside.desktop struck lived) (ap (ended_all aside.struck) first ∙ all-left d aside.struck aside.desktop struck lived)
    path e h.1.2 in
    (on.0, on.1, λ later new k. (h.0, (back, frames-back time 32 1 d.pointer (unstruck (unpointed d)) aside told, on.2 later new k)))

-- A frame is shown: the pointer leaves each client that ended by it, and its focus is settled. Where none ended nothing more is marked.
use Rattle.std.proofs.Common.{◌≡◌, ◌≢◌, ℕ, zero, suc, List, [], ◌∷◌, ◌++◌, Bool, true, false, Option, Some, None, refl, ap, subst, sym, ◌∙◌, inl, inr}
use Rattle.std.proofs.lemmas.Bool.{true≢false}
use Rattle.std.specs.Prelude.{◌||◌, ◌⊎◌, ◌<◌, if◌then◌else◌, is_some}
use Rattle.spec_desktop.specs.declared.cause.Cause.{Cause}
use Rattle.spec_desktop.specs.Told.{Said}
use Rattle.wl_scene.specs.Marking.{IsAsLarge}
use Rattle.wl_paint.specs.Damage.{Damaged, has}
use Rattle.spec_desktop.specs.Pointer.{Pointer, Target, first_pointer, is_same, settled}
use Rattle.spec_desktop.specs.PointerActions.{Leave, Enter, enter_of, leave_of}
use Rattle.spec_desktop.specs.Windows.{Window}
use Rattle.spec_desktop.specs.declared.answers.Done.{Done}
use Rattle.spec_desktop.specs.declared.answers.Done.TheVariants as gave
use Rattle.spec_desktop.specs.Act.{Tick}
use Rattle.spec_desktop.specs.Changing.{without_callbacks}
use Rattle.spec_desktop.specs.Desktop.{Desktop, Resident, client_at, status_in, status_of, unpointed, with_client}
use Rattle.spec_desktop.specs.Happenings.{Happening, Leads, Single}
use Rattle.spec_desktop.specs.Happens.{TellsFrames, callbacks_due, frames_told}
use Rattle.spec_desktop.specs.Settling.{Applies, AppliesAll, Midstep, Settles, Strike, Tells, TellsAt, TellsUnless, ended_all, ended_by, is_struck, unstruck}
use Rattle.spec_desktop.specs.Stacked.{all_windows}
use Rattle.spec_desktop.specs.Through.{EndsFirstThrough, HappensThrough, SettlesAllThrough}
use Rattle.law_desktop.proofs.Runs.Ends.{drawn-status, ended-after, queues-status}
use Rattle.law_desktop.proofs.Runs.Fates.{AreStruck, Follows, fate, same-or}
use Rattle.law_desktop.proofs.Runs.Moves.{frames-leads}
use Rattle.law_desktop.proofs.Runs.Places.{number-other, number-same}
use Rattle.law_desktop.specs.Pointed.Happenings.{pointer_left}
use Rattle.law_desktop.specs.Pointed.Pointed.{pointed}
use Rattle.law_desktop.specs.Pointed.Rounds.{AreRounds, AreToEnd}
use Rattle.law_desktop.proofs.PointerAside.Frames.{frames-apart}
use Rattle.law_desktop.proofs.PointerAside.Pointers.{all-nowhere}
use Rattle.law_desktop.proofs.PointerAside.Rounds.{settles-idly}
use Rattle.law_desktop.proofs.PointerAside.Ended.{ended-stay, rounds-end-clients}
use Rattle.wl_clients.specs.Agreeing.{Agrees as KeptAgrees}
use Rattle.wl_clients.specs.Framing.{HasSame, MarksIfEnds}
use Rattle.wl_clients.specs.Leading.{Led}
use Rattle.wl_clients.specs.Marking.{MarksThrough}
use Rattle.wl_clients.specs.declared.grabs.Latest.{Latest}
use Rattle.wl_desk.specs.Agreeing.{Agrees, AreLatest, AreSeats}
use Rattle.wl_desk.specs.Midway.{IsMidway, SettlesDown}
use Rattle.wl_desk.specs.View.{MarkedDesk}
use Rattle.wl_desk.specs.Ways.{AreEnded, EndsAllFrom, SettlesFrom}
use Rattle.wl_desk.proofs.Ending.{begins}
use Rattle.wl_desk.proofs.LatestStay.{latest-stay, tick-keeps}
use Rattle.wl_desk.proofs.Leading.{leads-on, leads-to}
use Rattle.wl_desk.proofs.Placed.{frame-placed}
use Rattle.wl_desk.proofs.SeatsStay.{KeepsSeats, seats-stay}

-- ---- to settle the focus ends nobody

abbrev pub StatusesStay : Desktop → Desktop → Type 0
StatusesStay d e = (k : ℕ) → status_in k e ≡ status_in k d

put-status : (c : ℕ) (r x : Resident) (d : Desktop) → client_at c d ≡ Some r → x.peer.status ≡ r.peer.status → StatusesStay d (with_client c (Some x) d)
put-status c r x d there same k = at (same-or c k)
  where
    at : (c ≡ k) ⊎ (c ≢ k) → status_in k (with_client c (Some x) d) ≡ status_in k d
    at (inl e) =
        subst (λ (n : ℕ). status_in n (with_client c (Some x) d) ≡ status_in n d) e
        (ap status_of (number-same d.clients c (Some x) r there) ∙ same ∙ sym (ap status_of there))
    at (inr differ) = ap status_of (number-other d.clients c k (Some x) differ)

tells-status : (change : Resident → Resident) (events : Resident → List Said) → ((r : Resident) → (change r).peer.status ≡ r.peer.status) → (c : ℕ) (old new : Midstep) → Tells change events c old new
    → StatusesStay old.desktop new.desktop
tells-status change events keeps c old new h = at (client_at c old.desktop) refl h
  where
    stays : new ≡ old → StatusesStay old.desktop new.desktop
    stays e k = ap (λ (m : Midstep). status_in k m.desktop) e

    unless : (b : Bool) (r : Resident) → client_at c old.desktop ≡ Some r → TellsUnless b change events c r old new → StatusesStay old.desktop new.desktop
    unless true r there h k = stays h k
    unless false r there h k =
        ap (λ (m : Midstep). status_in k m.desktop) h.3
        ∙ put-status c r (record (change r) { peer = h.0 }) old.desktop there (queues-status (events r) (change r).peer h.0 h.1 h.2 ∙ keeps r) k

    at : (o : Option Resident) → client_at c old.desktop ≡ o → TellsAt change events c o old new → StatusesStay old.desktop new.desktop
    at None there h = stays h
    at (Some r) there h = unless (is_some r.peer.status || is_struck c old.struck) r there h

left-status : (ws : List Window) (t : Target) (old new : Midstep) → Applies ws (Leave t) old new → StatusesStay old.desktop new.desktop
left-status ws t old new h k = ap (λ (m : Midstep). status_in k m.desktop) h.2 ∙ tells-status _ _ (λ r. drawn-status _ r) t.client old h.0 h.1 k

entered-status : (ws : List Window) (t : Target) (old new : Midstep) → Applies ws (Enter t) old new → StatusesStay old.desktop new.desktop
entered-status ws t old new h k = ap (λ (m : Midstep). status_in k m.desktop) h.2 ∙ tells-status _ _ (λ r. drawn-status _ r) t.client old h.0 h.1 k

turns-status : (ws : List Window) (s t : Option Target) (old new : Midstep) → AppliesAll ws (leave_of s ++ enter_of t) old new → StatusesStay old.desktop new.desktop
turns-status ws None None old new h k = ap (λ (m : Midstep). status_in k m.desktop) h
turns-status ws None (Some t) old new h k = ap (λ (m : Midstep). status_in k m.desktop) h.2 ∙ entered-status ws t old h.0 h.1 k
turns-status ws (Some s) None old new h k = ap (λ (m : Midstep). status_in k m.desktop) h.2 ∙ left-status ws s old h.0 h.1 k
turns-status ws (Some s) (Some t) old new h k =
    ap (λ (m : Midstep). status_in k m.desktop) h.2.2 ∙ entered-status ws t h.0 h.2.0 h.2.1 k ∙ left-status ws s old h.0 h.1 k

pub settles-status : (old new : Midstep) → Settles old new → StatusesStay old.desktop new.desktop
settles-status old new h = at (is_same old.desktop.pointer.focus to) h
  where
    to : Option Target
    to = settled old.desktop.pointer (all_windows old.desktop)

    at : (b : Bool) → AppliesAll (all_windows old.desktop) (if b then [] else leave_of old.desktop.pointer.focus ++ enter_of to) old new → StatusesStay old.desktop new.desktop
    at true h k = ap (λ (m : Midstep). status_in k m.desktop) h
    at false h k = turns-status (all_windows old.desktop) old.desktop.pointer.focus to old new h k

-- ---- who ended before a frame ended after it

told-nowhere : (time n c : ℕ) (old new : Midstep) → TellsFrames time n c old new → old.desktop.pointer ≡ first_pointer → new.desktop.pointer ≡ first_pointer
told-nowhere time zero c old new h still = ap (λ (m : Midstep). m.desktop.pointer) h ∙ still
told-nowhere time (suc n) c old new h still = told-nowhere time n (suc c) h.0 new h.2 (at (client_at c old.desktop) h.1)
  where
    unless : (b : Bool) (r : Resident) → TellsUnless b (λ r. without_callbacks (callbacks_due r) r) (frames_told time) c r old h.0 → h.0.desktop.pointer ≡ first_pointer
    unless true r h = ap (λ (m : Midstep). m.desktop.pointer) h ∙ still
    unless false r h = ap (λ (m : Midstep). m.desktop.pointer) h.3 ∙ still

    at : (o : Option Resident) → TellsAt (λ r. without_callbacks (callbacks_due r) r) (frames_told time) c o old h.0 → h.0.desktop.pointer ≡ first_pointer
    at None h = ap (λ (m : Midstep). m.desktop.pointer) h ∙ still
    at (Some r) h = unless (is_some r.peer.status || is_struck c old.struck) r h

all-end : (ss : List Strike) (d : Desktop) → AreStruck ss d.clients → (c : ℕ) (why : Cause) → fate c ss d.clients ≡ Some why → status_in c (ended_all ss d) ≡ Some why
all-end [] d struck c why is = is
all-end (s ∷ ss) d struck c why is =
    let after : Follows (s ∷ ss) d.clients ss (ended_by s d).clients = ended-after s ss d struck in
    all-end ss (ended_by s d) after.sound c why (after.keeps c why is)

pub frame-ended : (time : ℕ) (done : Done) (d : Desktop) (path : List Desktop) (e : Desktop) → d.pointer ≡ first_pointer → HappensThrough (Tick time) done d path e
    → (c : ℕ) (why : Cause) → status_in c d ≡ Some why → status_in c e ≡ Some why
frame-ended time done d path e still h c why is =
    let told : Midstep = h.1.0 in
    let tells : TellsFrames time 32 1 (unstruck d) told = h.1.1 in
    let follows : Follows [] d.clients told.struck told.desktop.clients = (frames-leads time 32 1 (unstruck d) tt).follows told tells in
    let last : Desktop = ended_all told.struck told.desktop in
    let nowhere : last.pointer ≡ first_pointer = all-nowhere told.struck told.desktop (told-nowhere time 32 1 (unstruck d) told tells still) in
    let settles : SettlesAllThrough 33 (unstruck last) h.1.2.0 e = h.1.2.2 in
    let idle : settles.0 ≡ unstruck last =
    (settles-idly (unstruck last) (subst (λ (p : Pointer). p.focus ≡ settled p (all_windows last)) (sym nowhere) refl)).1 settles.0 settles.1 in
    let over : EndsFirstThrough (SettlesAllThrough 32) [] last settles.2 e =
    subst (λ (m : Midstep). EndsFirstThrough (SettlesAllThrough 32) m.struck m.desktop settles.2 e) idle settles.4 in
    ap (status_in c) over.1 ∙ all-end told.struck told.desktop follows.sound c why (follows.keeps c why is)

-- ---- a frame

frame-keeps-seats : (time : ℕ) → KeepsSeats (Single (Tick time) gave.Tick)
frame-keeps-seats time k = (λ e. absurd (cc), λ e. absurd (cc))

-- What marks nothing leaves what is to be painted.
same-from : (d : Desktop) (old new : Damaged) → MarksThrough d [] old new → HasSame old new
same-from d old new marks x y wide high = at (has new x y) refl (marks x y wide high)
  where
    none-or : (a : Bool) → (a || false) ≡ true → a ≡ true
    none-or true e = refl
    none-or false e = e

    at : (b : Bool) → has new x y ≡ b
        → (has new x y ≡ false → (has old x y ≡ false) × (false ≡ false)) × (has new x y ≡ true → (has old x y || false) ≡ true)
        → b ≡ has old x y
    at true is h = sym (none-or (has old x y) (h.1 is))
    at false is h = sym (h.0 is).0

-- where nobody ended in the whole step, nobody did by the frame
module _ (time : ℕ) (d : Desktop) (aside : List Desktop) (e : Desktop) (leads : Leads (Single (Tick time) gave.Tick) (unpointed d) aside e) (n : ℕ) (start mid last : Midstep)
    (rounds : List Desktop) (each : AreRounds n start rounds mid) (settles : Settles mid last) (none : start.struck ≡ []) (first : StatusesStay e start.desktop)
    (same : StatusesStay d last.desktop) where
  mid-same : (c : ℕ) → status_in c mid.desktop ≡ status_in c d
  mid-same c = sym (settles-status mid last settles c) ∙ same c

  stays-ended : (c : ℕ) (why : Cause) → status_in c e ≡ Some why → status_in c d ≡ Some why
  stays-ended c why is =
      sym (mid-same c) ∙ ended-stay.1 n start mid rounds c why (subst (λ (ss : List Strike). AreToEnd ss start.desktop) (sym none) tt) each (first c ∙ is)

  pub none-ended : (c : ℕ) → status_in c e ≡ status_in c d
  none-ended c = at (status_in c e) refl (status_in c d) refl
    where
      at : (s : Option Cause) → status_in c e ≡ s → (t : Option Cause) → status_in c d ≡ t → s ≡ t
      at (Some why) is t was = sym (stays-ended c why is) ∙ was
      at None is None was = refl
      at None is (Some why) was = sym is ∙ frame-ended time gave.Tick (unpointed d) aside e refl leads c why was

  pub no-rounds : n ≡ 0
  no-rounds = rounds-end-clients n start mid rounds (subst (λ (ss : List Strike). AreToEnd ss start.desktop) (sym none) tt) each (λ c. mid-same c ∙ sym (none-ended c) ∙ sym (first c))

  pub rounds-mark-nothing : (old new : Damaged) → MarksThrough start.desktop rounds old new → HasSame old new
  rounds-mark-nothing old new marks = same-from start.desktop old new (subst (λ (path : List Desktop). MarksThrough start.desktop path old new) empty marks)
    where
      empty : rounds ≡ []
      empty = (subst (λ (k : ℕ). AreRounds k start rounds mid) no-rounds each).0

same-marks : (d : Desktop) (path : List Desktop) (old mid new : Damaged) → IsAsLarge old mid → HasSame mid new → MarksThrough d path old mid → MarksThrough d path old new
same-marks d path old mid new large same marks x y wide high =
    let h = marks x y wide high in
    let is : has new x y ≡ has mid x y = same x y (subst (λ (n : ℕ). x < n) (sym large.width) wide) (subst (λ (n : ℕ). y < n) (sym large.height) high) in
    (λ none. h.0 (sym is ∙ none), λ some. h.1 (sym is ∙ some))

-- The clients are told of the frame; the pointer leaves those that ended, and its focus is settled.
pub frames-lead : (time : ℕ) (d : Desktop) (old mid ended new : MarkedDesk) → Agrees old.desk d
    → (led : Led (KeptAgrees mid.desk.kept) (Single (Tick time) gave.Tick) old.damage mid.damage (unpointed d)) → MarksIfEnds (unpointed d) led.desktop old.damage mid.damage
    → IsAsLarge old.damage mid.damage → mid.desk.seats ≡ old.desk.seats → mid.desk.latest ≡ old.desk.latest → mid.desk.pointer ≡ pointer_left d led.desktop
    → mid.settled ≡ false → EndsAllFrom mid ended → SettlesFrom ended new
    → (led : Led (Agrees new.desk) (Single (Tick time) gave.Tick) old.damage new.damage d) × MarksIfEnds d led.desktop old.damage new.damage
frames-lead time d old mid ended new a led quiet large seats latest pointer unknown ends settles =
    let p : Pointer = pointer_left d led.desktop in
    let start : Midstep = unstruck (pointed p led.desktop) in
    let midway : IsMidway mid.desk start =
    begins mid.desk p led.desktop led.agrees pointer (frame-placed time gave.Tick d led.path led.desktop led.leads a.placed)
    (subst (λ (s : List (List ℕ)). AreSeats s led.desktop) (sym seats)
    (seats-stay old.desk.seats (Single (Tick time) gave.Tick) d led.path led.desktop (frame-keeps-seats time) a.seats led.leads))
    (subst (λ (l : List Latest). AreLatest l (unstruck led.desktop)) (sym latest)
    (latest-stay old.desk.latest (Single (Tick time) gave.Tick) d led.path led.desktop (tick-keeps time) a.latest led.leads)) in
    let over : AreEnded mid ended start = ends start (record { midway = midway; known = λ yes. absurd (true≢false (sym yes ∙ unknown)) }) in
    let down : SettlesDown ended new start = settles start over.amid in
    let idle : HasSame mid.damage ended.damage = same-from start.desktop mid.damage ended.damage over.marks in
    let size : IsAsLarge old.damage ended.damage = record { width = over.sides.width ∙ large.width; height = over.sides.height ∙ large.height } in
    let before : MarksThrough (unpointed d) led.path old.damage ended.damage = same-marks (unpointed d) led.path old.damage mid.damage ended.damage large idle led.marks in
    let tick : Happening = Single (Tick time) gave.Tick in
    let on = frames-apart time gave.Tick d led.path led.desktop led.leads in (
      leads-on tick (λ e. pointer_left d e) d led.path led.desktop old.damage ended new on size before over.amid.midway down refl,
      λ same x y wide high.
          let last = leads-to tick (λ e. pointer_left d e) d led.path led.desktop old.damage ended new on size before over.amid.midway down refl in
          let there : StatusesStay d down.last.desktop = λ c. sym (ap (status_in c) last) ∙ same c in
          let ended-none = none-ended time d led.path led.desktop led.leads down.count start down.mid down.last down.rounds down.each down.settles refl (λ k. refl) there in
          let later = rounds-mark-nothing time d led.path led.desktop led.leads down.count start down.mid down.last down.rounds down.each down.settles refl (λ k. refl) there
          ended.damage new.damage down.marks in
          later x y (subst (λ (n : ℕ). x < n) (sym size.width) wide) (subst (λ (n : ℕ). y < n) (sym size.height) high)
          ∙ idle x y (subst (λ (n : ℕ). x < n) (sym large.width) wide) (subst (λ (n : ℕ). y < n) (sym large.height) high)
          ∙ quiet ended-none x y wide high,
    )

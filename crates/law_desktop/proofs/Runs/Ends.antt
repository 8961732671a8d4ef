-- Where memory is there, events, ends and the settling of the focus lead to one desktop.
use Rattle.std.proofs.Common.{◌≡◌, ◌≢◌, ℕ, zero, suc, ◌≤◌, ◌<◌, List, [], ◌∷◌, Bool, true, false, Option, Some, None, refl, ap, subst, sym, ◌∙◌, arith, inl, inr}
use Rattle.std.proofs.lemmas.Option.{none-some}
use Rattle.std.specs.Prelude.{◌||◌, is_some}
use Rattle.spec_desktop.specs.declared.cause.Cause.{Cause}
use Rattle.spec_desktop.specs.declared.cause.Cause.TheVariants.{Memory}
use Rattle.spec_desktop.specs.Peer.{Peer, ended, has_room, queued}
use Rattle.spec_desktop.specs.Told.{Said}
use Rattle.spec_desktop.specs.Pointer.{Target}
use Rattle.spec_desktop.specs.PointerActions.{PointerAction, Leave, Enter, Motion, Button, Raise, MoveWindow, Dismiss, PointerInput, Settle, actions}
use Rattle.spec_desktop.specs.Stacking.{raised}
use Rattle.spec_desktop.specs.Windows.{Window}
use Rattle.spec_desktop.specs.Changing.{drawing}
use Rattle.spec_desktop.specs.Desktop.{Desktop, Resident, client_at, resident_of, with_client, with_number}
use Rattle.spec_desktop.specs.Pointing.{button_told, entered_surface, has_pointers, left_surface, motion_told, moved_standing}
use Rattle.spec_desktop.specs.Replies.{focus_window, popups_done}
use Rattle.spec_desktop.specs.Settling.{Applies, AppliesAll, EndsAndSettles, EndsFirst, Midstep, PointerActs, QueuesFirst, QueuesTo, Settles, SettlesAll, SettlesEnds, Strike, Tells, TellsAt, TellsUnless}
use Rattle.spec_desktop.specs.Settling.{ended_all, ended_at, ended_by, is_struck, leave_drawn, noted, noted_if, number_of, struck_by, told_drawn, unstruck, with_focus, with_standing, without_grabs}
use Rattle.spec_desktop.specs.Stacked.{all_windows}
use Rattle.law_desktop.proofs.Runs.Fates.{AreStruck, Follows, Lives, ended-follows, fate, fate-unstruck, follows-on, lasting, number-ends, status-lives, still, told-fate, told-follows}
use Rattle.law_desktop.proofs.Runs.Leads.{After, Leads, Sound, Spares, chained, from, moving, only, worded}
use Rattle.law_desktop.proofs.Truth.{or-right}

-- ---- events

-- what is queued leaves a client's status
pub queues-status : (events : List Said) (p q : Peer) (why : Option Cause) → QueuesTo events p q why → q.status ≡ p.status
queues-status [] p q why h = ap (λ x. x.status) h.0
queues-status (event ∷ events) p q why h = at (has_room p.unsent event) (queues-status events (queued event p) q why) h
  where
    at : (b : Bool) → (QueuesTo events (queued event p) q why → q.status ≡ p.status) → QueuesFirst b (QueuesTo events (queued event p) q why) p q why → q.status ≡ p.status
    at false later h = ap (λ x. x.status) h.0
    at true later (inl h) = ap (λ x. x.status) h.0
    at true later (inr h) = later h

-- where memory is there, events are queued in one way
pub queues-once : (events : List Said) (p q r : Peer) (why other : Option Cause) → QueuesTo events p q why → QueuesTo events p r other → why ≢ Some Memory → other ≢ Some Memory → (q ≡ r)
    × (why ≡ other)
queues-once [] p q r why other h k fine well = (h.0 ∙ sym k.0, h.1 ∙ sym k.1)
queues-once (event ∷ events) p q r why other h k fine well = at (has_room p.unsent event) (λ h k. queues-once events (queued event p) q r why other h k fine well) h k
  where
    Later : Peer → Option Cause → Type 0
    Later q why = QueuesTo events (queued event p) q why

    at : (b : Bool) → (Later q why → Later r other → (q ≡ r) × (why ≡ other)) → QueuesFirst b (Later q why) p q why → QueuesFirst b (Later r other) p r other → (q ≡ r) × (why ≡ other)
    at false later h k = (h.0 ∙ sym k.0, h.1 ∙ sym k.1)
    at true later (inl h) k = absurd (fine h.1)
    at true later (inr h) (inl k) = absurd (well k.1)
    at true later (inr h) (inr k) = later h k

pub same-pair : (y z : Peer × Option Cause) → y.0 ≡ z.0 → y.1 ≡ z.1 → y ≡ z
same-pair y z e f =
    let first : ◌≡◌ {A = Peer × Option Cause} (y.0, y.1) (z.0, y.1) = ap (λ q. let x : Peer × Option Cause = (q, y.1) in x) e in
    let second : ◌≡◌ {A = Peer × Option Cause} (z.0, y.1) (z.0, z.1) = ap (λ why. let x : Peer × Option Cause = (z.0, why) in x) f in
    first ∙ second

-- a client as it changed, and was told of that
abbrev told_to : Resident → ℕ → Midstep → Peer × Option Cause → Midstep
told_to now c old y = record { desktop = with_client c (Some (record now { peer = y.0 })) old.desktop; struck = struck_by c y.1 old.struck }

module _ (c : ℕ) (now : Resident) (events : List Said) (old : Midstep) (sound : Sound old) (lives : Lives c old.desktop.clients) (alive : now.peer.status ≡ None)
    (fresh : is_struck c old.struck ≡ false) where
  Told : Peer × Option Cause → Type 0
  Told y = QueuesTo events now.peer y.0 y.1

  told-after : (y : Peer × Option Cause) → Told y → After old (told_to now c old y)
  unfolding Told
  told-after y h =
      told-follows old.desktop.clients c lives (record now { peer = y.0 }) (queues-status events now.peer y.0 y.1 h ∙ alive) old.struck y.1 sound fresh

  told-spared : (y : Peer × Option Cause) → Told y → Spares old (told_to now c old y) → y.1 ≢ Some Memory
  unfolding Told
  told-spared y h fine e =
      let fate-was : fate c old.struck old.desktop.clients ≡ None =
      fate-unstruck c old.struck _ fresh ∙ status-lives old.desktop.clients c lives None in
      let fate-is : fate c (struck_by c y.1 old.struck) (told_to now c old y).desktop.clients ≡ Some Memory =
      ap (λ why. fate c (struck_by c why old.struck) (told_to now c old y).desktop.clients) e
      ∙ told-fate old.desktop.clients c lives (record now { peer = y.0 }) (queues-status events now.peer y.0 y.1 h ∙ alive) old.struck Memory fresh in
      none-some Memory (sym fate-was ∙ fine c fate-is)

  told-leads : Leads (Peer × Option Cause) (told_to now c old) old Told
  unfolding Told
  told-leads =
      record {
        follows = told-after;
        once = λ y z h k fine well.
            let same = queues-once events now.peer y.0 z.0 y.1 z.1 h k (told-spared y h fine) (told-spared z k well) in
            same-pair y z same.0 same.1;
      }

  resident-leads : Leads Midstep moving old (λ new. (q : Peer) × (why : Option Cause) × QueuesTo events now.peer q why × (new ≡ told_to now c old (q, why)))
  unfolding Told
  resident-leads =
      worded Midstep moving old (λ new. (y : Peer × Option Cause) × Told y × (new ≡ told_to now c old y)) _ (λ new h. ((h.0, h.1), h.2, h.3))
      (chained (Peer × Option Cause) Midstep (told_to now c old) moving old Told (λ y new. new ≡ told_to now c old y) told-leads
      (λ y h. only Midstep moving (told_to now c old y) (told_to now c old y) (still _ _ (told-after y h).sound)))

none-of : (s : Option Cause) (b : Bool) → (is_some s || b) ≡ false → s ≡ None
none-of None b e = refl
none-of (Some cause) b e = absurd (cc)

-- a client is told something, unless it ended or is to end
pub tells-leads : (change : Resident → Resident) (events : Resident → List Said) → ((r : Resident) → (change r).peer.status ≡ r.peer.status) → (c : ℕ) (old : Midstep) → Sound old
    → Leads Midstep moving old (Tells change events c old)
tells-leads change events keeps c old sound = at (client_at c old.desktop) refl
  where
    unless : (r : Resident) (b : Bool) → client_at c old.desktop ≡ Some r → (is_some r.peer.status || is_struck c old.struck) ≡ b → Leads Midstep moving old (TellsUnless b change events c r old)
    unless r true is e = only Midstep moving old old (still _ _ sound)
    unless r false is e =
        let alive = none-of r.peer.status (is_struck c old.struck) e in
        resident-leads c (change r) (events r) old sound (record { there = r; is = is; alive = alive }) (keeps r ∙ alive) (or-right (is_some r.peer.status) (is_struck c old.struck) e)

    at : (o : Option Resident) → client_at c old.desktop ≡ o → Leads Midstep moving old (TellsAt change events c o old)
    at None is = only Midstep moving old old (still _ _ sound)
    at (Some r) is = unless r (is_some r.peer.status || is_struck c old.struck) is refl

-- ---- what the pointer does

pub drawn-status : (b : Bool) (r : Resident) → (drawing b r).peer.status ≡ r.peer.status
drawn-status true r = refl
drawn-status false r = refl

noted-status : (pressed : Bool) (r : Resident) → (noted pressed r).peer.status ≡ r.peer.status
noted-status true r = refl
noted-status false r = refl

noted_if-status : (b pressed : Bool) (r : Resident) → (noted_if b pressed r).peer.status ≡ r.peer.status
noted_if-status true pressed r = drawn-status (has_pointers (noted pressed r)) (noted pressed r) ∙ noted-status pressed r
noted_if-status false pressed r = refl

-- and then another has the focus
focus-leads : (t : Option Target) (old : Midstep) (P : Midstep → Type 0) → Leads Midstep moving old P → Leads Midstep moving old (λ new. (told : Midstep) × P told × (new ≡ with_focus t told))
focus-leads t old P leads =
    chained Midstep Midstep moving moving old P (λ told new. new ≡ with_focus t told) leads
    (λ told h. only Midstep moving told (with_focus t told) (still _ _ (leads.follows told h).sound))

applies-leads : (windows : List Window) (action : PointerAction) (old : Midstep) → Sound old → Leads Midstep moving old (Applies windows action old)
applies-leads windows (Leave t) old sound =
    focus-leads None old (Tells (leave_drawn t.surface) (left_surface t.surface) t.client old)
    (tells-leads (leave_drawn t.surface) (left_surface t.surface) (λ r. drawn-status _ r) t.client old sound)
applies-leads windows (Enter t) old sound =
    let entered = entered_surface old.desktop.pointer.place (focus_window (Some t) windows) in
    focus-leads (Some t) old (Tells told_drawn entered t.client old) (tells-leads told_drawn entered (λ r. drawn-status (has_pointers r) r) t.client old sound)
applies-leads windows (Motion time t) old sound =
    tells-leads (λ r. r) (motion_told time old.desktop.pointer.place (focus_window (Some t) windows)) (λ r. refl) t.client old sound
applies-leads windows (Button time button pressed t) old sound =
    tells-leads (λ r. noted_if (has_pointers r) pressed r) (button_told time button (number_of pressed)) (λ r. noted_if-status (has_pointers r) pressed r) t.client old sound
applies-leads windows (Raise t) old sound = only Midstep moving old (with_standing (raised t.client t.surface old.desktop.standing) old) (still _ _ sound)
applies-leads windows (MoveWindow t x y) old sound = only Midstep moving old (with_standing (moved_standing t x y old.desktop.standing) old) (still _ _ sound)
applies-leads windows (Dismiss c) old sound = tells-leads without_grabs (λ r. popups_done r (without_grabs r)) (λ r. refl) c old sound

all-lead : (windows : List Window) (actions : List PointerAction) (old : Midstep) → Sound old → Leads Midstep moving old (AppliesAll windows actions old)
all-lead windows [] old sound = only Midstep moving old old (still _ _ sound)
all-lead windows (action ∷ later) old sound =
    let first = applies-leads windows action old sound in
    chained Midstep Midstep moving moving old (Applies windows action old) (λ mid new. AppliesAll windows later mid new) first
    (λ mid h. all-lead windows later mid (first.follows mid h).sound)

pub acts-lead : (input : PointerInput) (old : Midstep) → Sound old → Leads Midstep moving old (PointerActs input old)
acts-lead input old sound = all-lead (all_windows old.desktop) (actions input old.desktop.pointer (all_windows old.desktop)) old sound

settles-leads : (old : Midstep) → Sound old → Leads Midstep moving old (Settles old)
settles-leads old sound = acts-lead Settle old sound

-- ---- ends

ended-clients : (s : Strike) (d : Desktop) (r : Resident) → client_at s.client d ≡ Some r → (ended_by s d).clients ≡ with_number s.client (Some (resident_of (ended s.cause r.peer))) d.clients
ended-clients s d r is = ap (λ o. (ended_at s.client s.cause o d).clients) is

pub ended-after : (s : Strike) (ss : List Strike) (d : Desktop) → AreStruck (s ∷ ss) d.clients → Follows (s ∷ ss) d.clients ss (ended_by s d).clients
ended-after s ss d sound =
    subst (λ rs. Follows (s ∷ ss) d.clients ss rs) (sym (ended-clients s d sound.0.there sound.0.is))
    (ended-follows s ss d.clients (Some (resident_of (ended s.cause sound.0.there.peer))) sound refl)

pub ended-one : (s : Strike) (ss : List Strike) (d : Desktop) → AreStruck (s ∷ ss) d.clients → suc (lasting (ended_by s d).clients) ≡ lasting d.clients
ended-one s ss d sound =
    ap (λ rs. suc (lasting rs)) (ended-clients s d sound.0.there sound.0.is)
    ∙ number-ends d.clients s.client (Some (resident_of (ended s.cause sound.0.there.peer))) s.cause sound.0 refl

first-leads : (n : ℕ) (Next : Midstep → Desktop → Type 0) → ((m : Midstep) → Sound m → lasting m.desktop.clients < n → Leads Desktop unstruck m (Next m)) → (ss : List Strike) (d : Desktop)
    → AreStruck ss d.clients → lasting d.clients ≤ n → Leads Desktop unstruck (record { desktop = d; struck = ss }) (EndsFirst Next ss d)
first-leads n Next next [] d sound few = only Desktop unstruck (record { desktop = d; struck = [] }) d (still [] d.clients tt)
first-leads n Next next (s ∷ ss) d sound few =
    let after = ended-after s ss d sound in
    let mid : Midstep = record { desktop = ended_by s d; struck = ss } in
    from Desktop unstruck (record { desktop = d; struck = s ∷ ss }) mid (Next mid) after (next mid after.sound (omega (arith, ended-one s ss d sound, few)))

-- Each end takes a client away, so the focus is settled often enough where it may be settled once more than there are clients.
settles_all-leads : (n : ℕ) (old : Midstep) → Sound old → lasting old.desktop.clients < n → Leads Desktop unstruck old (SettlesAll n old)
settles_all-leads zero old sound few = let never : ⊥ = omega (arith, few) in absurd never
settles_all-leads (suc n) old sound few =
    let settles = settles-leads old sound in
    chained Midstep Desktop moving unstruck old (Settles old) (λ mid new. EndsFirst (SettlesAll n) mid.struck mid.desktop new) settles
    (λ mid h. let after = settles.follows mid h in first-leads n (SettlesAll n) (settles_all-leads n) mid.struck mid.desktop after.sound (omega (arith, after.fewer, few)))

pub ends-leads : (mid : Midstep) → Sound mid → lasting mid.desktop.clients ≤ 32 → Leads Desktop unstruck mid (SettlesEnds mid)
ends-leads mid sound few = first-leads 32 (SettlesAll 32) (settles_all-leads 32) mid.struck mid.desktop sound few

all-ended : (ss : List Strike) (d : Desktop) → AreStruck ss d.clients → Follows ss d.clients [] (ended_all ss d).clients
all-ended [] d sound = still [] d.clients tt
all-ended (s ∷ ss) d sound = let after = ended-after s ss d sound in follows-on after (all-ended ss (ended_by s d) after.sound)

pub end_all-leads : (mid : Midstep) → Sound mid → lasting mid.desktop.clients ≤ 32 → Leads Desktop unstruck mid (EndsAndSettles mid)
end_all-leads mid sound few =
    let after = all-ended mid.struck mid.desktop sound in
    from Desktop unstruck mid (unstruck (ended_all mid.struck mid.desktop)) (EndsAndSettles mid) after
    (settles_all-leads 33 (unstruck (ended_all mid.struck mid.desktop)) tt (omega (arith, after.fewer, few)))

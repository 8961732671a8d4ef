-- More bytes of a client's stream behind the others change nothing of what clients are told, of their ends, and of the settling of the focus.
use Rattle.std.proofs.Common.{◌≡◌, ℕ, zero, suc, List, [], ◌∷◌, Bool, true, false, Option, Some, None, refl, ap, subst, sym, ◌∙◌, inl, inr}
use Rattle.std.specs.Prelude.{◌==◌, ◌&&◌, ◌||◌, is_some}
use Rattle.spec_desktop.specs.declared.cause.Cause.{Cause}
use Rattle.spec_desktop.specs.Peer.{Peer, ended, has_room, queued, with_rest}
use Rattle.spec_desktop.specs.Told.{Said}
use Rattle.wl_surface.specs.Surfaces.{history_in}
use Rattle.spec_desktop.specs.Pointer.{Target}
use Rattle.spec_desktop.specs.PointerActions.{Leave, Enter, focus_or}
use Rattle.spec_desktop.specs.Stacking.{without_client}
use Rattle.spec_desktop.specs.Windows.{Place, Window}
use Rattle.spec_desktop.specs.Desktop.{Desktop, Resident, client_at, resident_of, with_client}
use Rattle.spec_desktop.specs.Pointing.{entered_surface, has_pointers, left_surface}
use Rattle.spec_desktop.specs.Replies.{focus_window}
use Rattle.spec_desktop.specs.Settling.{Applies, AppliesAll, EndsAndSettles, EndsFirst, Midstep, QueuesFirst, QueuesTo, Settles, SettlesAll, Strike, Tells, TellsAt, TellsResident, TellsUnless}
use Rattle.spec_desktop.specs.Settling.{ended_at, ended_by, is_struck, leave_drawn, pointer_without, struck_by, told_drawn, unstruck}
use Rattle.spec_desktop.specs.Stacked.{all_windows}
use Rattle.spec_desktop.specs.Step.{with_peer}
use Rattle.law_desktop.proofs.Pieces.Behind.{with_behind}
use Rattle.law_desktop.proofs.Pieces.Changing.{drawing-behind}
use Rattle.law_desktop.proofs.Runs.Focus.{focus-turns}
use Rattle.law_desktop.proofs.Pieces.Places.{at-longer, behind, longer, longer_client, longer_in, longer_moving, put-longer, windows-longer}
use Rattle.law_desktop.proofs.Runs.Ends.{drawn-status}

-- ---- events are queued

-- whatever came of a client
pub queues-behind : (events : List Said) (p q : Peer) (why : Option Cause) (rest : List ℕ) → QueuesTo events p q why → QueuesTo events (with_rest rest p) (with_rest rest q) why
queues-behind [] p q why rest h = (ap (λ (x : Peer). with_rest rest x) h.0, h.1)
queues-behind (event ∷ events) p q why rest h = at (has_room p.unsent event) (λ k. queues-behind events (queued event p) q why rest k) h
  where
    at : (b : Bool) → (QueuesTo events (queued event p) q why → QueuesTo events (with_rest rest (queued event p)) (with_rest rest q) why)
        → QueuesFirst b (QueuesTo events (queued event p) q why) p q why
        → QueuesFirst b (QueuesTo events (with_rest rest (queued event p)) (with_rest rest q) why) (with_rest rest p) (with_rest rest q) why
    at false next k = (ap (λ (x : Peer). with_rest rest x) k.0, k.1)
    at true next (inl k) = inl (ap (λ (x : Peer). with_rest rest x) k.0, k.1)
    at true next (inr k) = inr (next k)

-- and neither whether it lives nor what came of it changes
abbrev IsKept : Peer → Peer → Type 0
IsKept p q = (q.status ≡ p.status) × (q.rest ≡ p.rest)

kept-same : (p q : Peer) → q ≡ p → IsKept p q
kept-same p q e = (ap (λ (x : Peer). x.status) e, ap (λ (x : Peer). x.rest) e)

pub queues-kept : (events : List Said) (p q : Peer) (why : Option Cause) → QueuesTo events p q why → IsKept p q
queues-kept [] p q why h = kept-same p q h.0
queues-kept (event ∷ events) p q why h = at (has_room p.unsent event) (λ k. queues-kept events (queued event p) q why k) h
  where
    at : (b : Bool) → (QueuesTo events (queued event p) q why → IsKept p q) → QueuesFirst b (QueuesTo events (queued event p) q why) p q why → IsKept p q
    at false next k = kept-same p q k.0
    at true next (inl k) = kept-same p q k.0
    at true next (inr k) = next k

-- ---- a client is told

-- a change of a client to which what came of it doesn't matter, with what it is told
pub record IsApart (change : Resident → Resident) (events : Resident → List Said) : Type 0 where
  pub changes : (r : Resident) (rest : List ℕ) → change (with_behind rest r) ≡ with_behind rest (change r)
  pub tells : (r : Resident) (rest : List ℕ) → events (with_behind rest r) ≡ events r
  pub lives : (r : Resident) → (change r).peer.status ≡ r.peer.status

leaves-apart : (surface : ℕ) → IsApart (leave_drawn surface) (left_surface surface)
leaves-apart surface = record {
  changes = λ r rest. drawing-behind (is_some (history_in surface r.owned.surfaces) && has_pointers r) r rest;
  tells = λ r rest. refl;
  lives = λ r. drawn-status (is_some (history_in surface r.owned.surfaces) && has_pointers r) r;
}

enters-apart : (at : Option Place) (w : Option Window) → IsApart told_drawn (entered_surface at w)
enters-apart at w = record {
  changes = λ r rest. drawing-behind (has_pointers r) r rest;
  tells = λ r rest. refl;
  lives = λ r. drawn-status (has_pointers r) r;
}

pub behind-same : (b : Bool) (more : List ℕ) (p q : Peer) → IsKept p q → behind b q.status q.rest more ≡ behind b p.status p.rest more
behind-same b more p q kept =
    ap (λ (s : Option Cause). behind b s q.rest more) kept.0 ∙ ap (λ (rest : List ℕ). behind b p.status rest more) kept.1

module _ (c : ℕ) (more : List ℕ) where
  told-longer : (change : Resident → Resident) (events : Resident → List Said) → IsApart change events → (k : ℕ) (r : Resident) (old new : Midstep) → client_at k old.desktop ≡ Some r
      → TellsResident change events k r old new → TellsResident change events k (with_peer (longer (k == c) more r.peer) r) (longer_moving c more old) (longer_moving c more new)
  told-longer change events apart k r old new is h =
      let rest : List ℕ = behind (k == c) r.peer.status r.peer.rest more in
      let made : Resident = change r in
      let told : Resident = record made { peer = h.0 } in
      let came : made.peer.rest ≡ r.peer.rest = ap (λ (q : Resident). q.peer.rest) (apart.changes r r.peer.rest) in
      let kept = queues-kept (events r) made.peer h.0 h.1 h.2 in
      let same : behind (k == c) h.0.status h.0.rest more ≡ rest = behind-same (k == c) more r.peer h.0 (kept.0 ∙ apart.lives r, kept.1 ∙ came) in
      let after : Option Cause → Resident → Peer → Midstep = λ why m q.
      record { desktop = with_client k (Some (record m { peer = q })) (longer_in c more old.desktop); struck = struck_by k why old.struck } in
      let leads : longer_moving c more new ≡ after h.1 made (with_rest rest h.0) =
      ap (λ (m : Midstep). longer_moving c more m) h.3
      ∙ ap (λ (e : Desktop). record { desktop = e; struck = struck_by k h.1 old.struck }) (put-longer c more k told r old.desktop is)
      ∙ ap (λ (all : List ℕ). after h.1 made (with_rest all h.0)) same in
      let goal = λ (said : List Said) (m : Resident). (q : Peer) × (why : Option Cause) × QueuesTo said m.peer q why × (longer_moving c more new ≡ after why m q) in
      let tells : goal (events r) (with_behind rest made) = (with_rest rest h.0, h.1, queues-behind (events r) made.peer h.0 h.1 rest h.2, leads) in
      subst (λ (m : Resident). goal (events (with_behind rest r)) m) (sym (apart.changes r rest))
      (subst (λ (said : List Said). goal said (with_behind rest made)) (sym (apart.tells r rest)) tells)

  pub tells-longer : (change : Resident → Resident) (events : Resident → List Said) → IsApart change events → (k : ℕ) (old new : Midstep) → Tells change events k old new
      → Tells change events k (longer_moving c more old) (longer_moving c more new)
  tells-longer change events apart k old new h =
      subst (λ (o : Option Resident). TellsAt change events k o (longer_moving c more old) (longer_moving c more new)) (sym (at-longer c more k old.desktop)) (at (client_at k old.desktop) refl h)
    where
      unless : (b : Bool) (r : Resident) → client_at k old.desktop ≡ Some r → TellsUnless b change events k r old new
          → TellsUnless b change events k (with_peer (longer (k == c) more r.peer) r) (longer_moving c more old) (longer_moving c more new)
      unless true r is h = ap (λ (m : Midstep). longer_moving c more m) h
      unless false r is h = told-longer change events apart k r old new is h

      at : (o : Option Resident) → client_at k old.desktop ≡ o → TellsAt change events k o old new
          → TellsAt change events k (longer_client (k == c) more o) (longer_moving c more old) (longer_moving c more new)
      at None is h = ap (λ (m : Midstep). longer_moving c more m) h
      at (Some r) is h = unless (is_some r.peer.status || is_struck k old.struck) r is h

  -- ---- the focus moves

  leaves-longer : (windows : List Window) (t : Target) (old new : Midstep) → Applies windows (Leave t) old new → Applies windows (Leave t) (longer_moving c more old) (longer_moving c more new)
  leaves-longer windows t old new h =
      (longer_moving c more h.0, tells-longer _ _ (leaves-apart t.surface) t.client old h.0 h.1, ap (λ (m : Midstep). longer_moving c more m) h.2)

  enters-longer : (windows : List Window) (t : Target) (old new : Midstep) → Applies windows (Enter t) old new → Applies windows (Enter t) (longer_moving c more old) (longer_moving c more new)
  enters-longer windows t old new h = (
    longer_moving c more h.0,
    tells-longer _ _ (enters-apart old.desktop.pointer.place (focus_window (Some t) windows)) t.client old h.0 h.1,
    ap (λ (m : Midstep). longer_moving c more m) h.2,
  )

  pub settles-longer : (old new : Midstep) → Settles old new → Settles (longer_moving c more old) (longer_moving c more new)
  settles-longer old new h =
      let on = old.desktop.pointer in
      let windows = all_windows old.desktop in
      subst (λ (windows : List Window). AppliesAll windows (focus_or [] on windows) (longer_moving c more old) (longer_moving c more new)) (sym (windows-longer c more old.desktop))
      (focus-turns (longer_moving c more) windows (leaves-longer windows) (enters-longer windows) on old new h)

  -- ---- clients end

  gone-longer : (b : Bool) (cause : Cause) (p : Peer) → longer_client b more (Some (resident_of (ended cause p))) ≡ Some (resident_of (ended cause p))
  gone-longer true cause p = refl
  gone-longer false cause p = refl

  -- bytes that come behind an end are dropped
  pub ended-longer : (k : ℕ) (cause : Cause) (d : Desktop) → longer_in c more (ended_at k cause (client_at k d) d) ≡ ended_at k cause (client_at k (longer_in c more d)) (longer_in c more d)
  ended-longer k cause d =
      at (client_at k d) refl ∙ ap (λ (o : Option Resident). ended_at k cause o (longer_in c more d)) (sym (at-longer c more k d))
    where
      at : (o : Option Resident) → client_at k d ≡ o → longer_in c more (ended_at k cause o d) ≡ ended_at k cause (longer_client (k == c) more o) (longer_in c more d)
      at None is = refl
      at (Some r) is =
          ap (λ (e : Desktop). record e { standing = without_client k d.standing; pointer = pointer_without k d.pointer })
          (put-longer c more k (resident_of (ended cause r.peer)) r d is
          ∙ ap (λ (o : Option Resident). with_client k o (longer_in c more d)) (gone-longer (k == c) cause r.peer))

  ends-longer : (Next : Midstep → Desktop → Type 0) → ((m : Midstep) (new : Desktop) → Next m new → Next (longer_moving c more m) (longer_in c more new)) → (ss : List Strike) (d new : Desktop)
      → EndsFirst Next ss d new → EndsFirst Next ss (longer_in c more d) (longer_in c more new)
  ends-longer Next next [] d new h = ap (λ (e : Desktop). longer_in c more e) h
  ends-longer Next next (s ∷ ss) d new h =
      subst (λ (e : Desktop). Next (record { desktop = e; struck = ss }) (longer_in c more new)) (ended-longer s.client s.cause d)
      (next (record { desktop = ended_by s d; struck = ss }) new h)

  settles-all : (n : ℕ) (old : Midstep) (new : Desktop) → SettlesAll n old new → SettlesAll n (longer_moving c more old) (longer_in c more new)
  settles-all zero old new h = ap (λ (e : Desktop). longer_in c more e) h
  settles-all (suc n) old new h = (
    longer_moving c more h.0,
    settles-longer old h.0 h.1,
    ends-longer (SettlesAll n) (λ m e k. settles-all n m e k) h.0.struck h.0.desktop new h.2,
  )

  -- what a step struck nobody of is settled
  pub settled-longer : (d new : Desktop) → EndsAndSettles (unstruck d) new → EndsAndSettles (unstruck (longer_in c more d)) (longer_in c more new)
  settled-longer d new h = settles-all 33 (unstruck d) new h

-- A frame where nobody points, as one pass over the clients: each is told, and ends at once where it can't be.
use Rattle.std.proofs.Common.{◌≡◌, ℕ, zero, suc, ◌+◌, Option, Some, None, refl, ap, subst, sym, ◌∙◌, arith}
use Rattle.std.specs.Prelude.{◌||◌, is_some}
use Rattle.spec_desktop.specs.declared.cause.Cause.{Cause}
use Rattle.spec_desktop.specs.Peer.{Peer}
use Rattle.spec_desktop.specs.Pointer.{first_pointer}
use Rattle.spec_desktop.specs.Desktop.{Desktop, Resident, become, client_at, with_client}
use Rattle.spec_desktop.specs.Framing.{FramesTold, FramesToldAt, FramesToldBy, done_due}
use Rattle.spec_desktop.specs.Happens.{TellsFrames, callbacks_due, frames_told}
use Rattle.spec_desktop.specs.Settling.{Midstep, QueuesTo, Tells, TellsAt, TellsUnless, ended_all, is_struck, struck_by, unstruck}
use Rattle.spec_desktop.specs.Step.{with_peer}
use Rattle.law_desktop.proofs.KeptRecords.Toplevels.Back.{settled-back, told-back}
use Rattle.law_desktop.proofs.KeptRecords.Toplevels.Serves.{after-same, by-pointer, ended_why, settles-to, told-to}
use Rattle.law_desktop.proofs.Runs.Forms.{Shows}
use Rattle.law_desktop.proofs.KeptRecords.Marks.FramingEnds.{AllBefore, all-there, all-unstruck, put-and-end, struck-before}
use Rattle.law_desktop.proofs.Runs.Moves.{callbacks-status}

-- the desktop where those that are to end have ended
abbrev ending_in : Midstep → Desktop
ending_in m = ended_all m.struck m.desktop

abbrev TellsOne : ℕ → ℕ → Option Resident → Midstep → Midstep → Type 0
TellsOne time c o old new = TellsAt (λ r. done_due r) (frames_told time) c o old new

module _ (time c : ℕ) (m : Midstep) (still : (ending_in m).pointer ≡ first_pointer) (before : AllBefore c m.struck) where
  -- what it becomes, and that it ends where an event isn't queued
  became : (r : Resident) → client_at c m.desktop ≡ Some r → r.peer.status ≡ None → (q : Peer) (why : Option Cause) → QueuesTo (frames_told time r) (done_due r).peer q why
      → ended_all (struck_by c why m.struck) (with_client c (Some (with_peer q (done_due r))) m.desktop) ≡ become c (done_due r) (ended_why why q) (ending_in m)
  became r is alive q why told =
      put-and-end c why (Some (with_peer q (done_due r))) m.struck m.desktop before
      ∙ after-same (frames_told time r) c (done_due r) r (ending_in m) (all-there c m.struck m.desktop before ∙ is) still (callbacks-status (callbacks_due r) r ∙ alive) q why told

  told-so : (r : Resident) (new : Midstep) → client_at c m.desktop ≡ Some r → (s : Option Cause) → r.peer.status ≡ s
      → TellsUnless (is_some s || is_struck c m.struck) (λ r. done_due r) (frames_told time) c r m new
      → FramesToldBy s time c r (ending_in m) (ending_in new) × AllBefore (suc c) new.struck
  told-so r new is (Some cause) e h =
      (ap ending_in h, subst (λ (x : Midstep). AllBefore (suc c) x.struck) (sym h) (struck-before c None m.struck before))
  told-so r new is None e h =
      let k = subst (λ b. TellsUnless b (λ r. done_due r) (frames_told time) c r m new) (all-unstruck c m.struck before) h in (
        (ended_why k.1 k.0, told-back (frames_told time r) (done_due r).peer k.0 k.1 k.2, ap ending_in k.3 ∙ became r is e k.0 k.1 k.2),
        subst (λ (x : Midstep). AllBefore (suc c) x.struck) (sym k.3) (struck-before c k.1 m.struck before),
      )

  told-at : (o : Option Resident) (new : Midstep) → client_at c m.desktop ≡ o → TellsOne time c o m new → FramesToldAt time c o (ending_in m) (ending_in new) × AllBefore (suc c) new.struck
  told-at None new is h = (ap ending_in h, subst (λ (x : Midstep). AllBefore (suc c) x.struck) (sym h) (struck-before c None m.struck before))
  told-at (Some r) new is h = told-so r new is r.peer.status refl h

  tells-told : (new : Midstep) → Tells (λ r. done_due r) (frames_told time) c m new
      → FramesToldAt time c (client_at c (ending_in m)) (ending_in m) (ending_in new) × AllBefore (suc c) new.struck
  tells-told new h =
      let k = told-at (client_at c m.desktop) new refl h in
      (subst (λ o. FramesToldAt time c o (ending_in m) (ending_in new)) (sym (all-there c m.struck m.desktop before)) k.0, k.1)

  -- and the other way round
  abbrev TellsTo : Option Resident → Desktop → Type 0
  TellsTo o mid = (new : Midstep) × TellsOne time c o m new × (ending_in new ≡ mid) × AllBefore (suc c) new.struck

  nothing-to : (o : Option Resident) (mid : Desktop) → mid ≡ ending_in m → TellsOne time c o m m → TellsTo o mid
  nothing-to o mid e h = (m, h, sym e, struck-before c None m.struck before)

  so-told : (r : Resident) (mid : Desktop) → client_at c m.desktop ≡ Some r → (s : Option Cause) → r.peer.status ≡ s → FramesToldBy s time c r (ending_in m) mid
      → (new : Midstep) × TellsUnless (is_some s || is_struck c m.struck) (λ r. done_due r) (frames_told time) c r m new × (ending_in new ≡ mid) × AllBefore (suc c) new.struck
  so-told r mid is (Some cause) e h = (m, refl, sym h, struck-before c None m.struck before)
  so-told r mid is None e h =
      let k = told-to (frames_told time r) (done_due r).peer h.0 h.1 in
      let new : Midstep = record { desktop = with_client c (Some (with_peer k.0 (done_due r))) m.desktop; struck = struck_by c k.1 m.struck } in (
        new,
        subst (λ b. TellsUnless b (λ r. done_due r) (frames_told time) c r m new) (sym (all-unstruck c m.struck before)) (k.0, k.1, k.2, refl),
        became r is e k.0 k.1 k.2 ∙ ap (λ q. become c (done_due r) q (ending_in m)) (sym k.3) ∙ sym h.2,
        struck-before c k.1 m.struck before,
      )

  at-told : (o : Option Resident) (mid : Desktop) → client_at c m.desktop ≡ o → FramesToldAt time c o (ending_in m) mid → TellsTo o mid
  at-told None mid is h = nothing-to None mid h refl
  at-told (Some r) mid is h = so-told r mid is r.peer.status refl h

  told-tells : (mid : Desktop) → FramesToldAt time c (client_at c (ending_in m)) (ending_in m) mid → TellsTo (client_at c m.desktop) mid
  told-tells mid h = at-told (client_at c m.desktop) mid refl (subst (λ o. FramesToldAt time c o (ending_in m) mid) (all-there c m.struck m.desktop before) h)

-- ---- several

told-still : (time c : ℕ) (o : Option Resident) (d new : Desktop) → d.pointer ≡ first_pointer → FramesToldAt time c o d new → new.pointer ≡ first_pointer
told-still time c None d new still h = ap (λ (x : Desktop). x.pointer) h ∙ still
told-still time c (Some r) d new still h = by r.peer.status h
  where
    by : (s : Option Cause) → FramesToldBy s time c r d new → new.pointer ≡ first_pointer
    by (Some cause) h = ap (λ (x : Desktop). x.pointer) h ∙ still
    by None h = ap (λ (x : Desktop). x.pointer) h.2 ∙ by-pointer h.0.status c (done_due r) h.0 d ∙ still

pub frames-still : (time n c : ℕ) (d new : Desktop) → d.pointer ≡ first_pointer → FramesTold time n c d new → new.pointer ≡ first_pointer
frames-still time zero c d new still h = ap (λ (x : Desktop). x.pointer) h ∙ still
frames-still time (suc n) c d new still h = frames-still time n (suc c) h.0 new (told-still time c (client_at c d) d h.0 still h.1) h.2

frames-told : (time n c : ℕ) (m new : Midstep) → (ending_in m).pointer ≡ first_pointer → AllBefore c m.struck → TellsFrames time n c m new → FramesTold time n c (ending_in m) (ending_in new)
frames-told time zero c m new still before h = ap ending_in h
frames-told time (suc n) c m new still before h =
    let k = tells-told time c m still before h.0 h.1 in
    let now = told-still time c (client_at c (ending_in m)) (ending_in m) (ending_in h.0) still k.0 in
    (ending_in h.0, k.0, frames-told time n (suc c) h.0 new now k.1 h.2)

frames-tell : (time n c : ℕ) (m : Midstep) (last : Desktop) → (ending_in m).pointer ≡ first_pointer → AllBefore c m.struck → FramesTold time n c (ending_in m) last
    → (new : Midstep) × TellsFrames time n c m new × (ending_in new ≡ last)
frames-tell time zero c m last still before h = (m, refl, sym h)
frames-tell time (suc n) c m last still before h =
    let k = told-tells time c m still before h.0 h.1 in
    let now = ap (λ (x : Desktop). x.pointer) k.2 ∙ told-still time c (client_at c (ending_in m)) (ending_in m) h.0 still h.1 in
    let rest = frames-tell time n (suc c) k.0 last now k.3 (subst (λ (x : Desktop). FramesTold time n (suc c) x last) (sym k.2) h.2) in
    (rest.0, (k.0, k.1, rest.1), rest.2)

-- ---- a frame

pub shows-told : (time : ℕ) (d new : Desktop) → d.pointer ≡ first_pointer → FramesTold time 32 1 d new → Shows time d new
shows-told time d new still h =
    let k = frames-tell time 32 1 (unstruck d) new still tt h in
    (k.0, k.1, settles-to (ending_in k.0) new new k.2 refl (frames-still time 32 1 d new still h))

pub told-shows : (time : ℕ) (d new : Desktop) → d.pointer ≡ first_pointer → Shows time d new → FramesTold time 32 1 d new
told-shows time d new still h =
    let k = frames-told time 32 1 (unstruck d) h.0 still tt h.1 in
    let last : new ≡ ending_in h.0 = settled-back (ending_in h.0) new (frames-still time 32 1 d (ending_in h.0) still k) h.2 in
    subst (λ (x : Desktop). FramesTold time 32 1 d x) (sym last) k

-- one client more
pub told-more : (time n c : ℕ) (d mid new : Desktop) → FramesTold time n c d mid → FramesToldAt time (c + n) (client_at (c + n) mid) mid new → FramesTold time (suc n) c d new
told-more time zero c d mid new h k =
    let here : c + 0 ≡ c = omega arith in
    let now = subst (λ (x : Desktop). FramesToldAt time (c + 0) (client_at (c + 0) x) x new) h k in
    (new, subst (λ n. FramesToldAt time n (client_at n d) d new) here now, refl)
told-more time (suc n) c d mid new h k =
    let here : c + suc n ≡ suc c + n = omega arith in
    (h.0, h.1, told-more time n (suc c) h.0 mid new h.2 (subst (λ (i : ℕ). FramesToldAt time i (client_at i mid) mid new) here k))

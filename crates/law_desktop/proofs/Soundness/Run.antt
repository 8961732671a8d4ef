-- Whatever happens from a desktop without clients on leaves orderly desktops.
use Rattle.std.proofs.Common.{◌≡◌, ◌≢◌, ℕ, ◌+◌, List, [], length, Bool, true, false, Option, Some, None, refl, sym, subst, inl, inr}
use Rattle.std.specs.Prelude.{◌==◌, ◌⊎◌, drop, if◌then◌else◌, nat_le}
use Rattle.wl_store.specs.Stores.{write_refusal}
use Rattle.wl_store.specs.declared.stores.StoreError.{StoreError}
use Rattle.wl_proto.specs.declared.interface.Interface.TheVariants.{WlDisplay, WlSurface}
use Rattle.spec_desktop.specs.declared.cause.Cause.{Cause}
use Rattle.spec_desktop.specs.declared.cause.Cause.TheVariants.{Gone}
use Rattle.spec_desktop.specs.Objects.{is_of}
use Rattle.spec_desktop.specs.Peer.{Peer, ended, newcomer, object_at_version, sent_by, stored_at, stored_by}
use Rattle.spec_desktop.specs.Told.{Output}
use Rattle.spec_desktop.specs.Pointer.{hit_now, is_down, is_press}
use Rattle.spec_desktop.specs.Stacking.{Standing}
use Rattle.spec_desktop.specs.Windows.{Place}
use Rattle.spec_desktop.specs.declared.answers.Done.{Done}
use Rattle.spec_desktop.specs.Desktop.{Desktop, Resident, arrival, client_at, empty, with_client, toplevels_of}
use Rattle.spec_desktop.specs.Settling.{Midstep, becomes, ended_at, unstruck}
use Rattle.spec_desktop.specs.Stacked.{all_windows}
use Rattle.spec_desktop.specs.Step.{with_peer}
use Rattle.spec_desktop.specs.Act.{Act, Connect, Feed, Store, Leave, Tick, Send, Close, Motion, Button, IsClosed, IsSent, IsStored, closed_by, lowest}
use Rattle.spec_desktop.specs.Happens.{ChangesThen, ConnectsThen, Happens, HappensThen, LeavesThen, PressesThen, ReleasesThen, ending, point_in, settling}
use Rattle.law_desktop.proofs.Soundness.Orderly.{AreOrderly, IsOrderlyAt, IsOrderlyBy}
use Rattle.law_desktop.proofs.Soundness.RunMessages.{MessageKeeps, fed-known}
use Rattle.law_desktop.proofs.Soundness.RunTold.{Anyhow, Frames, IsAlike, Known, ToldOrderly, alike, ended-by-known, ending-known, known-so, left-orderly, nothing-orderly, orderly-all, orderly-frames}
use Rattle.law_desktop.proofs.Soundness.RunTold.{orderly-stays, settling-known}
use Rattle.law_desktop.proofs.Soundness.RunTops.{orderly-shifting}
use Rattle.law_desktop.proofs.Runs.Places.{number-other, number-same}
use Rattle.law_desktop.proofs.Runs.Through.{connects-with}
use Rattle.law_desktop.proofs.Runs.Fates.{same-or}
use Rattle.law_desktop.proofs.Isolation.LeftAlone.{others_are_left_alone}
use Rattle.law_desktop.proofs.Isolation.Own.{move-shifts, moves-then, pressed-then, raise-shifts, released-then, shown-then}
use Rattle.law_desktop.proofs.EachClient.Clients.{comes-at}
use Rattle.law_desktop.proofs.Soundness.First.{no-client}

-- ---- a client connects

-- a newcomer has no surfaces
pub no-surface : (output : Output) (id : ℕ) → is_of WlSurface ((newcomer output).objects id) ≡ false
no-surface output id = at (id == 1)
  where
    at : (b : Bool) → is_of WlSurface (if b then Some (object_at_version WlDisplay 1) else None) ≡ false
    at true = refl
    at false = refl

-- each client is orderly where one has come
comes-known : (c k : ℕ) (d : Desktop) → lowest d.clients ≡ Some k → Known c d → Known c (with_client (k + 1) (Some (arrival d.output)) d)
comes-known c k d free known = at (same-or (k + 1) c)
  where
    now : Desktop
    now = with_client (k + 1) (Some (arrival d.output)) d

    come : Known (k + 1) d → Known (k + 1) now
    come known =
        let it = comes-at d.clients k (Some (arrival d.output)) free in
        let none : toplevels_of (k + 1) d ≡ [] = subst (λ (o : Option Resident). IsOrderlyAt o (toplevels_of (k + 1) d)) it.0 known in
        known-so (k + 1) now (Some (arrival d.output)) [] it.1 none (nothing-orderly 1 (newcomer d.output) (no-surface d.output))

    at : ((k + 1) ≡ c) ⊎ ((k + 1) ≢ c) → Known c now
    at (inl same) = subst (λ (n : ℕ). Known n now) same (come (subst (λ (n : ℕ). Known n d) (sym same) known))
    at (inr differ) = known-so c now (client_at c d) (toplevels_of c d) (number-other d.clients (k + 1) c (Some (arrival d.output)) differ) refl known

-- ---- a client is written to, sent to or closed

-- who is left there
abbrev held_by : Option Peer → Resident → Option Resident
held_by None r = None
held_by (Some q) r = Some (with_peer q r)

abbrev KeepsHeld : (Peer → Done → Option Peer → Type 0) → Done → Type 0
KeepsHeld R done = (r : Resident) (q : Option Peer) (tops : List Standing) → R r.peer done q → IsOrderlyAt (Some r) tops → IsOrderlyAt (held_by q r) tops

-- Each client is orderly where one is changed to what is orderly where that was.
pub put-known : (c a : ℕ) (x : Option Resident) (r : Resident) (d : Desktop) → client_at a d ≡ Some r
    → ((tops : List Standing) → IsOrderlyAt (Some r) tops → IsOrderlyAt x tops) → Known c d → Known c (with_client a x d)
put-known c a x r d found keeps known = at (same-or a c)
  where
    own : Known a d → Known a (with_client a x d)
    own known =
        let it : IsOrderlyAt (Some r) (toplevels_of a d) = subst (λ (o : Option Resident). IsOrderlyAt o (toplevels_of a d)) found known in
        known-so a (with_client a x d) x (toplevels_of a d) (number-same d.clients a x r found) refl (keeps (toplevels_of a d) it)

    at : (a ≡ c) ⊎ (a ≢ c) → Known c (with_client a x d)
    at (inl same) = subst (λ (n : ℕ). Known n (with_client a x d)) same (own (subst (λ (n : ℕ). Known n d) (sym same) known))
    at (inr differ) = known-so c (with_client a x d) (client_at c d) (toplevels_of c d) (number-other d.clients a c x differ) refl known

stored-alike : (r : Resident) (s : Option Cause) (store at : ℕ) (bytes : List ℕ) → IsAlike r (with_peer (stored_at s store at bytes r.peer) r)
stored-alike r (Some cause) store at bytes = record { status = refl; requests = refl; objects = refl; owned = refl; subsurfaces = refl; callbacks = refl }
stored-alike r None store at bytes = by (write_refusal store at (length bytes) r.peer.stores)
  where
    by : (refusal : Option StoreError) → IsAlike r (with_peer (stored_by store at bytes refusal r.peer) r)
    by None = record { status = refl; requests = refl; objects = refl; owned = refl; subsurfaces = refl; callbacks = refl }
    by (Some error) = record { status = refl; requests = refl; objects = refl; owned = refl; subsurfaces = refl; callbacks = refl }

sent-alike : (r : Resident) (n : ℕ) → IsAlike r (with_peer (sent_by n r.peer) r)
sent-alike r n = at (nat_le n (length r.peer.unsent))
  where
    at : (b : Bool) → IsAlike r (with_peer (if b then record r.peer { unsent = drop n r.peer.unsent } else r.peer) r)
    at true = record { status = refl; requests = refl; objects = refl; owned = refl; subsurfaces = refl; callbacks = refl }
    at false = record { status = refl; requests = refl; objects = refl; owned = refl; subsurfaces = refl; callbacks = refl }

-- the one that is left there, where it is known
held-so : (r : Resident) (q other : Option Peer) (tops : List Standing) → q ≡ other → IsOrderlyAt (held_by other r) tops → IsOrderlyAt (held_by q r) tops
held-so r q other tops e known = subst (λ (x : Option Peer). IsOrderlyAt (held_by x r) tops) (sym e) known

closed-keeps : (done : Done) → KeepsHeld IsClosed done
closed-keeps done r q tops h known = held-so r q (closed_by r.peer.status r.peer) tops h.0 (at r.peer.status known)
  where
    at : (s : Option Cause) → IsOrderlyBy s r tops → IsOrderlyAt (held_by (closed_by s r.peer) r) tops
    at None k = known
    at (Some cause) k = k.1

module _ (frames : Frames) where
  stored-keeps : (store at : ℕ) (bytes : List ℕ) (done : Done) → KeepsHeld (IsStored store at bytes) done
  stored-keeps store at bytes done r q tops h known =
      held-so r q (Some (stored_at r.peer.status store at bytes r.peer)) tops h.0
      (alike frames r (with_peer (stored_at r.peer.status store at bytes r.peer) r) (stored-alike r r.peer.status store at bytes) tops known)

  sent-keeps : (n : ℕ) (done : Done) → KeepsHeld (IsSent n) done
  sent-keeps n done r q tops h known = held-so r q (Some (sent_by n r.peer)) tops h.0 (alike frames r (with_peer (sent_by n r.peer) r) (sent-alike r n) tops known)

  -- ---- all that happens, but for the messages of a client

  -- each client is orderly where one ended
  pub gone-known : (c a : ℕ) (cause : Cause) (r : Resident) (d : Desktop)
      → client_at a d ≡ Some r → Known c d → Known c (becomes a r (ended cause r.peer) d)
  gone-known c a cause r d found known =
      subst (λ (o : Option Resident). Known c (ended_at a cause o d)) found (ended-by-known frames c (record { client = a; cause = cause }) d known)

  -- What follows for a client from the middle of a step, where it is orderly, with what comes then, follows from the step.
  module _ (c : ℕ) (X : Type 0) (Next Settled : Midstep → Type 0)
      (next : (mid : Midstep) → Known c mid.desktop → Next mid → X) (last : (mid : Midstep) → Known c mid.desktop → Settled mid → X) where
    -- a client connects
    connects-known : (k : Option ℕ) (d : Desktop) (done : Done) → lowest d.clients ≡ k → Known c d → ConnectsThen k d done Settled → X
    connects-known None d done free known h = last (unstruck d) known h.1
    connects-known (Some k) d done free known (inl h) = last (unstruck d) known h.1
    connects-known (Some k) d done free known (inr h) =
        last (unstruck (with_client (k + 1) (Some (arrival d.output)) d)) (comes-known c k d free known) h.1

    -- a client is written to, sent to or closed
    changes-known : (R : Peer → Done → Option Peer → Type 0) (absent : Done) (a : ℕ) (o : Option Resident) (d : Desktop) (done : Done)
        → KeepsHeld R done → client_at a d ≡ o → Known c d → ChangesThen R absent a o d done Settled → X
    changes-known R absent a None d done keeps found known h = last (unstruck d) known h.1
    changes-known R absent a (Some r) d done keeps found known (None, h, e) =
        last (unstruck (with_client a None d)) (put-known c a None r d found (λ tops. keeps r None tops h) known) e
    changes-known R absent a (Some r) d done keeps found known (Some q, h, e) =
        let x : Option Resident = Some (with_peer q r) in
        last (unstruck (with_client a x d)) (put-known c a x r d found (λ tops. keeps r (Some q) tops h) known) e

    -- a client goes
    leaves-known : (a : ℕ) (o : Option Resident) (d : Desktop) (done : Done) → client_at a d ≡ o → Known c d → LeavesThen a o d done Next Settled → X
    leaves-known a None d done found known h = last (unstruck d) known h.1
    leaves-known a (Some r) d done found known h = at r.peer.status refl
      where
        at : (s : Option Cause) → r.peer.status ≡ s → X
        at (Some cause) e = let k : Settled (unstruck d) = rw e at h.1 in last (unstruck d) known k
        at None e =
            let gone : Midstep = unstruck (becomes a r (ended Gone r.peer) d) in
            let k : Next gone = rw e at h.1 in
            next gone (gone-known c a Gone r d found known) k

    -- a button is pressed, or released
    presses-known : (b : Bool) (time button : ℕ) (d : Desktop) → Known c d → PressesThen b time button d Settled → X
    presses-known false time button d known h = last (unstruck d) known h
    presses-known true time button d known h =
        pressed-then c ToldOrderly (orderly-all frames) IsOrderlyAt Anyhow (orderly-stays frames) X Settled (λ mid within. last mid within.0)
        time button d (raise-shifts c IsOrderlyAt (orderly-shifting c) (hit_now d.pointer.place (all_windows d))) known h

    releases-known : (b : Bool) (time button : ℕ) (d : Desktop) → Known c d → ReleasesThen b time button d Settled → X
    releases-known false time button d known h = last (unstruck d) known h
    releases-known true time button d known h =
        released-then c ToldOrderly (orderly-all frames) IsOrderlyAt Anyhow (orderly-stays frames) X Settled (λ mid within. last mid within.0)
        time button d known h

    pub happens-known : (act : Act) (done : Done) (d : Desktop) → Known c d → HappensThen act done d Next Settled → X
    happens-known Connect done d known h = connects-known (lowest d.clients) d done refl known h
    happens-known (Feed a piece) done d known h = absurd h
    happens-known (Store a store at bytes) done d known h =
        changes-known (IsStored store at bytes) _ a (client_at a d) d done (stored-keeps store at bytes done) refl known h
    happens-known (Leave a) done d known h = leaves-known a (client_at a d) d done refl known h
    happens-known (Tick time) done d known h =
        shown-then c ToldOrderly (orderly-all frames) IsOrderlyAt Anyhow (orderly-stays frames) X Next (λ mid within. next mid within.0)
        (orderly-frames frames) time d known h.1
    happens-known (Send a n) done d known h = changes-known (IsSent n) _ a (client_at a d) d done (sent-keeps n done) refl known h
    happens-known (Close a) done d known h = changes-known IsClosed _ a (client_at a d) d done (closed-keeps done) refl known h
    happens-known (Motion time x y) done d known h =
        let at : Place = point_in d.output x y in
        moves-then c ToldOrderly (orderly-all frames) IsOrderlyAt Anyhow (orderly-stays frames) X Settled (λ mid within. last mid within.0)
        time at d (move-shifts c IsOrderlyAt (orderly-shifting c) d.pointer.place at d.pointer.move) known h.1
    happens-known (Button time button true) done d known h = presses-known (is_press button d.pointer.buttons) time button d known h.1
    happens-known (Button time button false) done d known h = releases-known (is_down button d.pointer.buttons) time button d known h.1

  -- ---- all that happens

  -- but for a piece of a client's stream it leaves each client orderly
  single : (c : ℕ) (act : Act) (done : Done) (d e : Desktop) → Known c d → HappensThen act done d (settling e) (ending e) → Known c e
  single c act done d e known h =
      happens-known c (Known c e) (settling e) (ending e) (settling-known frames c e) (ending-known frames c e) act done d known h

  module _ (message : MessageKeeps) where
    -- the messages of one client leave each orderly
    feeds : (a : ℕ) (piece : List ℕ) (done : Done) (d e : Desktop) → AreOrderly d → Happens (Feed a piece) done d e → AreOrderly e
    feeds a piece done d e orderly h c = at (same-or a c)
      where
        at : (a ≡ c) ⊎ (a ≢ c) → Known c e
        at (inl same) = subst (λ (n : ℕ). Known n e) same (fed-known frames message a piece (client_at a d) d done e refl (orderly a) h)
        at (inr differ) = left-orderly frames c d e (others_are_left_alone (Feed a piece) done a c d e refl h differ) (orderly c)

    pub happens-orderly : (act : Act) (done : Done) (d e : Desktop) → AreOrderly d → Happens act done d e → AreOrderly e
    happens-orderly Connect done d e orderly h c =
        single c Connect done d e (orderly c) (connects-with (lowest d.clients) d done e h)
    happens-orderly (Feed a piece) done d e orderly h c = feeds a piece done d e orderly h c
    happens-orderly (Store a store at bytes) done d e orderly h c = single c (Store a store at bytes) done d e (orderly c) h
    happens-orderly (Leave a) done d e orderly h c = single c (Leave a) done d e (orderly c) h
    happens-orderly (Tick time) done d e orderly h c = single c (Tick time) done d e (orderly c) h
    happens-orderly (Send a n) done d e orderly h c = single c (Send a n) done d e (orderly c) h
    happens-orderly (Close a) done d e orderly h c = single c (Close a) done d e (orderly c) h
    happens-orderly (Motion time x y) done d e orderly h c = single c (Motion time x y) done d e (orderly c) h
    happens-orderly (Button time button pressed) done d e orderly h c = single c (Button time button pressed) done d e (orderly c) h

-- a desktop without clients is orderly
pub empty-orderly : (output : Output) → AreOrderly (empty output)
empty-orderly output c = known-so c (empty output) None [] (no-client output c) refl refl

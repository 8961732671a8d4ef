-- A piece is kept of a client of the desk, one of its messages is taken, and it ends.
use Rattle.std.proofs.Common.{◌≡◌, ℕ, ◌<◌, ◌++◌, List, length, Option, Some, None, Result, set, refl, subst, sym, ◌∙◌, ap}
use Rattle.std.proofs.lemmas.Bool.{true≢false}
use Rattle.std.specs.Prelude.{Ok, Err, IfNone, IfSome, OnErr, OnOk, is_some, false, true}
use Rattle.wl_proto.specs.declared.interface.Interface.TheVariants.{WlSurface}
use Rattle.law_desktop.specs.Owning.{targets_in}
use Rattle.spec_desktop.specs.Objects.{ById}
use Rattle.spec_desktop.specs.Peer.{IsIdleAt, with_rest}
use Rattle.spec_desktop.specs.Told.{Output as Shown}
use Rattle.wl_client.specs.Agreement.{IsPeer}
use Rattle.wl_client.specs.View.{ClientView}
use Rattle.spec_desktop.specs.declared.cause.Cause.{Cause}
use Rattle.wl_client.specs.declared.outputs.Output.{Output}
use Rattle.wl_paint.specs.Damage.{Damaged}
use Rattle.spec_desktop.specs.Windows.{Window}
use Rattle.wl_scene.specs.StackedAgreement.{AreStacked}
use Rattle.spec_desktop.specs.Act.{fed_of, peer_at, status_of}
use Rattle.spec_desktop.specs.Desktop.{Desktop, Resident, become, client_at, with_client, with_number}
use Rattle.spec_desktop.specs.Stacked.{all_windows}
use Rattle.spec_desktop.specs.Step.{with_peer}
use Rattle.spec_desktop.specs.Through.{ServesThrough}
use Rattle.spec_desktop.specs.declared.answers.Fed.TheVariants as fed
use Rattle.law_desktop.proofs.Runs.Places.{number-same, number-twice}
use Rattle.law_desktop.specs.Ordered.{Ordered}
use Rattle.wl_requests.specs.declared.residents.Resident.{Resident as Kept}
use Rattle.wl_clients.specs.Agreement.{Matches, numbers_in, with_numbers}
use Rattle.wl_clients.specs.Marking.{MarksThrough}
use Rattle.wl_clients.specs.Seats.{IsSeated, ended_by}
use Rattle.wl_clients.specs.View.{DeskView, Pile}
use Rattle.wl_clients.specs.Feeding.{IsIdleIn, IsIdleOf, kept_at, kept_by, kept_of, kept_while, rest_in}
use Rattle.wl_clients.specs.Residents.{client_views}
use Rattle.wl_clients.proofs.Calls.{back, ended_at, ended_of, out, peer-here}
use Rattle.wl_clients.proofs.Seats.{IsHere, client-here, client-put, view_of}
use Rattle.wl_clients.proofs.Still.{IsStill, rest-still, still-stands, still-windows}

pub ok-then : {A E P Q : Type 0} (r : Result A E) → (P → Q) → OnOk r P → OnOk r Q
ok-then (Ok v) f p = f p
ok-then (Err e) f p = tt

pub err-then : {A E P Q : Type 0} (r : Result A E) → (P → Q) → OnErr r P → OnErr r Q
err-then (Ok v) f p = tt
err-then (Err e) f p = f p

pub some-then : {X : Type 0} (o : Option X) {P Q : X → Type 0} → IfSome o P → (is_some o ≡ true → (x : X) → P x → Q x) → IfSome o Q
some-then None p f = tt
some-then (Some x) p f = f refl x p

pub both-then : {X : Type 0} (o : Option X) {P R Q : X → Type 0} → IfSome o P → IfSome o R → ((x : X) → P x → R x → Q x) → IfSome o Q
both-then None p r f = tt
both-then (Some x) p r f = f x p r

pub none-then : {X Q : Type 0} (o : Option X) → (is_some o ≡ false → Q) → IfNone o Q
none-then None f = f refl
none-then (Some x) f = tt

-- ---- a piece is kept of a client that lives

-- what is kept of it then
abbrev come_on : {A : Type 0} → List ℕ → Kept A → Kept A
come_on piece v = record v { client = record v.client { rest = v.client.rest ++ piece } }

-- the client with the piece
abbrev come_to : List ℕ → Resident → Resident
come_to piece r = with_peer (with_rest (r.peer.rest ++ piece) r.peer) r

come-seated : {A : Type 0} (c : ℕ) (others : ℕ → ById ℕ) (base d : Desktop) (r : Resident) (piece : List ℕ) (v : Kept A) (pile : Pile) → IsSeated c others base v pile d r → r.peer.status ≡ None
    → IsSeated c others base (come_on piece v) pile (with_client c (Some (come_to piece r)) d) (come_to piece r)
come-seated c others base d r piece v pile is lives =
    let came = with_client c (Some (come_to piece r)) d in
    let still : IsStill d came = rest-still c r (r.peer.rest ++ piece) d is.based.there in
    let shown : all_windows came ≡ all_windows d = still-windows d came still in
    record {
      based = record {
        there = number-same d.clients c (Some (come_to piece r)) r is.based.there;
        output = is.based.output;
        clients = ap (λ clients. with_number c (Some (come_to piece r)) clients) is.based.clients ∙ number-twice base.clients c (Some (come_to piece r)) (Some r);
      };
      seat = record {
        peer = peer;
        owns = is.seat.owns;
        frames = is.seat.frames;
        subsurfaces = is.seat.subsurfaces;
        ended = λ over. absurd (true≢false (sym over ∙ ap (λ (s : Option Cause). is_some s) lives));
      };
      scene = record { standing = is.scene.standing; next = is.scene.next };
      windows = subst (λ (ws : List Window). AreStacked (with_numbers c (targets_in WlSurface v.client.objects) others) pile.windows ws) (sym shown) is.windows;
      mapped = still-stands d came still is.mapped;
    }
  where
    peer : IsPeer (come_on piece v).client (come_to piece r).peer
    peer =
        let p = is.seat.peer in
        record {
          status = p.status;
          «open» = p.open;
          requests = p.requests;
          objects = p.objects;
          held = p.held;
          regions = p.regions;
          pools = p.pools;
          buffers = p.buffers;
          positioners = p.positioners;
          stores = p.stores;
          serial = p.serial;
          unsent = p.unsent;
          rest = ap (λ (bytes : List ℕ). bytes ++ piece) p.rest;
          output = p.output;
        }

module _ {A : Type 0} (output : Output) (rs : List (Option (Kept A))) (pile : Pile) (c k : ℕ) (v : Kept A) (is : IsHere rs c k v) (d : Desktop)
    (a : Matches (view_of output rs pile) d) where
  abbrev us : List (Option ClientView)
  us = client_views rs

  abbrev put-back : Kept A → Pile → DeskView
  put-back new now = view_of output (set rs k (Some new)) now

  here : (s : Resident) × (client_at c d ≡ Some s) × IsSeated c (numbers_in us) d v pile d s
  here = out output rs pile c k v is d a

  put : (new : Kept A) (now : Pile) (e : Desktop) (s : Resident) → IsSeated c (numbers_in us) d new now e s → Matches (put-back new now) e
  put new now e s seated = back output rs pile c k v is d a new now e s seated

  -- ---- a message

  -- it leads through desktops along which what is marked is what may be marked
  pub serves-through : (new : Kept A) (now : Pile) (before after : Damaged) → Ordered d
      → ((r : Resident) → before.width ≡ d.output.width → before.height ≡ d.output.height → IsSeated c (numbers_in us) d v pile d r → Ordered d
      → (e : Desktop) × (q : Resident) × (path : List Desktop) × ServesThrough c d path e × IsSeated c (numbers_in us) d new now e q × MarksThrough d path before after)
      → (before.width ≡ output.width) × (before.height ≡ output.height)
      → (e : Desktop) × (path : List Desktop) × ServesThrough c d path e × Matches (put-back new now) e × MarksThrough d path before after
  serves-through new now before after ordered through sides =
      let n = through here.0 (sides.0 ∙ ap (λ (o : Shown). o.width) a.output) (sides.1 ∙ ap (λ (o : Shown). o.height) a.output) here.2 ordered in
      (n.0, n.2, n.3, put new now n.0 n.1 n.4, n.5)

  -- what is there is left so
  left : Matches (put-back v pile) d
  left = put v pile d here.0 here.2

  pub stays : (new : Kept A) (now : Pile) → new ≡ v → now ≡ pile → Matches (put-back new now) d
  stays new now same still = subst (λ (w : Kept A). Matches (put-back w now) d) (sym same) (subst (λ (t : Pile). Matches (put-back v t) d) (sym still) left)

  -- there was no message
  pub idles : (new : Kept A) (now : Pile) → new ≡ v → now ≡ pile → IsIdleAt v.client.ended v.client.rest → Matches (put-back new now) d × IsIdleIn c d
  idles new now same still idle =
      let peer = here.2.seat.peer in (
        stays new now same still,
        subst IsIdleOf (sym here.1) (subst (λ ended. IsIdleAt ended here.0.peer.rest) peer.status (subst (λ rest. IsIdleAt v.client.ended rest) peer.rest idle)),
      )

  -- ---- the end

  pub ends : (cause : Cause) (new : Kept A) (now : Pile)
      → ((r : Resident) → IsSeated c (numbers_in us) d v pile d r → (q : Resident) × IsSeated c (numbers_in us) d new now (become c r (ended_by r.peer.status cause r.peer) d) q)
      → Matches (put-back new now) (ended_at c cause d)
  ends cause new now end =
      let n = end here.0 here.2 in
      let after = become c here.0 (ended_by here.0.peer.status cause here.0.peer) d in
      subst (λ o. Matches (put-back new now) (ended_of c cause o d)) (sym here.1) (put new now after n.0 n.1)

  -- ---- a piece

  come : (piece : List ℕ) → v.client.ended ≡ None → Matches (put-back (come_on piece v) pile) (kept_at c piece d)
  come piece lives =
      let s = here in
      let none : s.0.peer.status ≡ None = sym s.2.seat.peer.status ∙ lives in
      let came = with_client c (Some (come_to piece s.0)) d in
      subst (λ r. Matches (put-back (come_on piece v) pile) (kept_of c piece r d)) (sym s.1)
      (subst (λ t. Matches (put-back (come_on piece v) pile) (kept_by c piece t s.0 d)) (sym none)
      (put (come_on piece v) pile came (come_to piece s.0) (come-seated c (numbers_in us) d d s.0 piece v pile s.2 none)))

  over : (piece : List ℕ) (cause : Cause) → v.client.ended ≡ Some cause → Matches (put-back v pile) (kept_at c piece d)
  over piece cause e =
      let s = here in
      let status : s.0.peer.status ≡ Some cause = sym s.2.seat.peer.status ∙ e in
      subst (λ r. Matches (put-back v pile) (kept_of c piece r d)) (sym s.1)
      (subst (λ t. Matches (put-back v pile) (kept_by c piece t s.0 d)) (sym status) left)

  pub keeps : (piece : List ℕ) (new : Kept A) → new ≡ record v { client = kept_while piece v.client.ended v.client } → Matches (put-back new pile) (kept_at c piece d)
  keeps piece new same = subst (λ (w : Kept A). Matches (put-back w pile) (kept_at c piece d)) (sym same) (by v.client.ended refl)
    where
      by : (e : Option Cause) → v.client.ended ≡ e → Matches (put-back (record v { client = kept_while piece e v.client }) pile) (kept_at c piece d)
      by None lives = come piece lives
      by (Some cause) e = over piece cause e

  pub lives-there : v.client.ended ≡ None → status_of (peer_at c d) ≡ fed.Alive
  lives-there lives =
      let p = peer-here output rs pile c k v is d a in
      ap status_of p.1 ∙ ap fed_of (sym p.2.status ∙ lives)

-- ---- what is left to be taken is less

pub rest-less : {A : Type 0} (output : Output) (rs : List (Option (Kept A))) (pile now : Pile) (c k : ℕ) (v : Kept A) → IsHere rs c k v → (new : Kept A)
    → length new.client.rest < length v.client.rest → length (rest_in c (view_of output (set rs k (Some new)) now)) < length (rest_in c (view_of output rs pile))
rest-less output rs pile now c k v is new less = rw (is.number, (client-put rs k (Some new) is.within).here, client-here rs k v is.here) less

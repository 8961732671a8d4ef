-- What is noted of a client that lives, whatever happened: it is what was noted before, but for what its own message asked.
use Rattle.std.proofs.Common.{◌≡◌, ◌≢◌, ℕ, ◌+◌, List, drop, take, Bool, true, false, Option, Some, None, Result, refl, ap, subst, sym, ◌∙◌, inl, inr}
use Rattle.std.proofs.lemmas.Option.{none-some, same_Some}
use Rattle.std.specs.Prelude.{◌-◌, ◌⊎◌, ◌++◌, Ok, Err}
use Rattle.wl_wire.specs.Wire.{split_of}
use Rattle.wl_wire.specs.declared.header.Split.{Split}
use Rattle.wl_wire.specs.declared.header.Split.TheVariants.{Message as Whole, More, Bad}
use Rattle.spec_desktop.specs.declared.cause.Cause.{Cause}
use Rattle.spec_desktop.specs.declared.cause.Cause.TheVariants as cause
use Rattle.spec_desktop.specs.declared.refusals.ErrorCode.TheVariants.{InvalidMethod}
use Rattle.spec_desktop.specs.declared.refusals.Refusal.{Refusal}
use Rattle.spec_desktop.specs.Peer.{Errs, LacksMemory, Peer, counted, ended, sent_by, stored_at, with_rest}
use Rattle.spec_desktop.specs.Told.{display_error}
use Rattle.spec_desktop.specs.Pointer.{is_down, is_press}
use Rattle.spec_desktop.specs.PointerActions.{PointerInput, GoTo, Press, Release, Settle, Went}
use Rattle.spec_desktop.specs.Windows.{Place}
use Rattle.spec_desktop.specs.declared.answers.Done.{Done}
use Rattle.spec_desktop.specs.declared.answers.Done.TheVariants as gave
use Rattle.spec_desktop.specs.Act.{Connect, Feed, Store, Leave, Tick, Send, Close, Motion, Button, IsClosed, IsSent, IsStored, closed_by, lowest}
use Rattle.spec_desktop.specs.Changing.{changed_for, grab_holder}
use Rattle.spec_desktop.specs.Demand.{Demand}
use Rattle.spec_desktop.specs.Demanding.{judge_all}
use Rattle.spec_desktop.specs.Desktop.{Desktop, Resident, arrival, become_by, client_at, client_in, resident_of, status_in, with_client, with_number}
use Rattle.spec_desktop.specs.Happenings.{Happening, Leads, Message, Receive, ReceivesAt, Single, Starve, StarvesAt}
use Rattle.spec_desktop.specs.Happens.{AnswersThen, BecomesThen, ChangesThen, ConnectsThen, DoesThen, LeavesThen, PressesThen, ReleasesThen, ServesThen, TakesThen, WantsOrThen}
use Rattle.spec_desktop.specs.Happens.{changed_so, placed, point_in, wants_memory, with_press, with_release}
use Rattle.spec_desktop.specs.Settling.{Midstep, PointerActs, Settles, after_status, becomes, unstruck}
use Rattle.spec_desktop.specs.Step.{with_peer}
use Rattle.spec_desktop.specs.Through.{ending_through, settling_through}
use Rattle.law_desktop.proofs.Runs.Fates.{same-or}
use Rattle.law_desktop.proofs.Runs.Places.{number-other, number-same, status-become}
use Rattle.law_desktop.proofs.Runs.Serves.{done-clients_stay}
use Rattle.law_desktop.proofs.Runs.Stays.{sent-status, stored-status}
use Rattle.law_desktop.proofs.EachClient.Clients.{comes-at}
use Rattle.law_desktop.proofs.KeptRecords.Toplevels.Back.{erred, lacking}
use Rattle.law_desktop.specs.Pointed.Pointed.{asked, asked_by, asked_first, asked_of}
use Rattle.law_desktop.proofs.PointerAside.Messages.{after-status}
use Rattle.law_desktop.proofs.PointerAside.Noted.{Had, HeedsNoButton, HeedsNothing, IsKeptBy, acts-keep, ending-had, frames-keep, had-on, kept-had, noted, noted-same, noted_in, noted_of}
use Rattle.law_desktop.proofs.PointerAside.Noted.{put-had, put-noted, same-had, same-noted, settling-had, status-noted, status_noted}

-- ---- a message

-- another client is as it was, and of the message's own is noted what its demand makes of it
abbrev IsHeard : {X : Type 0} → (Resident → X) → (Demand → X → X) → ℕ → Desktop → Resident → ℕ → X → Type 0
IsHeard of after c d there a x =
    ((c ≢ a) × (noted_in of a d ≡ noted None x)) ⊎ ((c ≡ a) × (demand : Demand) × (asked c d ≡ Some demand) × (x ≡ after demand (of there)))

other-noted : {X : Type 0} (of : Resident → X) (s : Option Cause) (c a : ℕ) (r : Resident) (q : Peer) (d : Desktop) → c ≢ a
    → noted_in of a (after_status s c (become_by s c r q d)) ≡ noted_in of a d
other-noted of None c a r q d away = ap (noted_of of) (number-other d.clients c a (Some (with_peer q r)) away)
other-noted of (Some why) c a r q d away = ap (noted_of of) (number-other d.clients c a (Some (resident_of q)) away)

-- what each demand makes of it
abbrev pub Changes : {X : Type 0} → (Resident → X) → (Demand → X → X) → Type 0
Changes of after = (c : ℕ) (demand : Demand) (d : Desktop) (r : Resident) → of (changed_for c demand r d) ≡ after demand (of r)

module _ {X : Type 0} (of : Resident → X) (heeds : HeedsNothing of) (after : Demand → X → X) (changes : Changes of after)
    (c : ℕ) (d : Desktop) (path : List Desktop) (new : Desktop) (there : Resident)
    (is : client_at c d ≡ Some there) (a : ℕ) (x : X) (sits : noted_in of a new ≡ noted None x) where
  abbrev Heard : Type 0
  Heard = IsHeard of after c d there a x

  -- its client ended
  became : (Q : Peer → Type 0) → ((q : Peer) → Q q → q.status ≡ None → ⊥) → (r : Resident) → BecomesThen Q c r d (settling_through path new) → Heard
  became Q never r h = at (same-or c a)
    where
      sat : noted_in of a (becomes c r h.0 d) ≡ noted None x
      sat = settling-had of heeds path new (unstruck (becomes c r h.0 d)) h.2 a x sits

      at : (c ≡ a) ⊎ (c ≢ a) → Heard
      at (inl here) =
          let own : noted_in of c (becomes c r h.0 d) ≡ noted None x = subst (λ (n : ℕ). noted_in of n (becomes c r h.0 d) ≡ noted None x) (sym here) sat in
          let status : status_in c (becomes c r h.0 d) ≡ h.0.status = after-status h.0.status c (become_by h.0.status c r h.0 d) ∙ status-become c r h.0 d there is in
          absurd (never h.0 h.1 (sym status ∙ status-noted of (client_at c (becomes c r h.0 d)) ∙ ap status_noted own))
      at (inr away) = inl (away, sym (other-noted of h.0.status c a r h.0 d away) ∙ sat)

  did : (demand : Demand) (r : Resident) → asked c d ≡ Some demand → of r ≡ of there → DoesThen c demand r d (settling_through path new) → Heard
  did demand r asks same h = at (same-or c a)
    where
      sat : noted_of of (client_in (with_number c (Some (with_peer h.0 (changed_for c demand r d))) d.clients) a) ≡ noted None x
      sat =
          sym (ap (λ (rs : List (Option Resident)). noted_of of (client_in (with_number c (Some (with_peer h.0 (changed_for c demand r d))) rs) a)) (done-clients_stay c demand r d))
          ∙ settling-had of heeds path new (changed_so c demand r d h.0 h.1) h.3 a x sits

      at : (c ≡ a) ⊎ (c ≢ a) → Heard
      at (inl here) =
          let told : Resident = with_peer h.0 (changed_for c demand r d) in
          let own : noted told.peer.status (of told) ≡ noted None x =
          sym (ap (noted_of of) (number-same d.clients c (Some told) there is))
          ∙ subst (λ (n : ℕ). noted_of of (client_in (with_number c (Some told) d.clients) n) ≡ noted None x) (sym here) sat in
          inr (
            here,
            demand,
            asks,
            sym (same-noted told.peer.status None (of told) x own) ∙ heeds.peer h.0 (changed_for c demand r d) ∙ changes c demand d r ∙ ap (after demand) same,
          )
      at (inr away) = inl (away, sym (ap (noted_of of) (number-other d.clients c a (Some (with_peer h.0 (changed_for c demand r d))) away)) ∙ sat)

  wanted : (b : Bool) (demand : Demand) (r : Resident) → asked c d ≡ Some demand → of r ≡ of there
      → WantsOrThen b (DoesThen c demand r d (settling_through path new)) c r d (settling_through path new) → Heard
  wanted false demand r asks same h = did demand r asks same h
  wanted true demand r asks same (inl h) = became (LacksMemory r.peer) (lacking r.peer) r h
  wanted true demand r asks same (inr h) = did demand r asks same h

  answered : (judged : Result Demand Refusal) (r : Resident) → asked c d ≡ asked_of judged → of r ≡ of there
      → AnswersThen judged c r d (settling_through path new) → Heard
  answered (Ok demand) r asks same h = wanted (wants_memory demand) demand (with_peer (counted r.peer) r) asks (heeds.peer (counted r.peer) r ∙ same) h
  answered (Err refusal) r asks same h = became (Errs refusal r.peer) (erred refusal r.peer) r h

  took : (split : Split) (r : Resident) → asked c d ≡ asked_first split r → of r ≡ of there → TakesThen split c r d (settling_through path new) → Heard
  took (Whole object opcode size) r asks same h =
      let rest : Peer = with_rest (drop size r.peer.rest) r.peer in
      answered (judge_all r object opcode (take (size - 8) (drop 8 r.peer.rest))) (with_peer rest r) asks (heeds.peer rest r ∙ same) h
  took Bad r asks same h = became (Errs (display_error InvalidMethod) r.peer) (erred (display_error InvalidMethod) r.peer) r h
  took More r asks same h = absurd h

-- ---- whatever else happens

closed-same : (s : Option Cause) (p q : Peer) → Some q ≡ closed_by s p → q ≡ p
closed-same None p q e = same_Some q p e
closed-same (Some why) p q e = absurd (none-some q (sym e))

-- a client's peer becomes one that lives or not as it did
abbrev StaysSo : (Peer → Done → Option Peer → Type 0) → Type 0
StaysSo R = (p : Peer) (done : Done) (q : Peer) → R p done (Some q) → q.status ≡ p.status

module _ {X : Type 0} (of : Resident → X) (heeds : HeedsNothing of) (d : Desktop) (path : List Desktop) (new : Desktop) where
  changed : (R : Peer → Done → Option Peer → Type 0) → StaysSo R → (absent : Done) (c : ℕ) (o : Option Resident) (done : Done) → client_at c d ≡ o
      → ChangesThen R absent c o d done (ending_through path new) → Had of d new
  changed R stays absent c None done is h = ending-had of heeds path new (unstruck d) h.1
  changed R stays absent c (Some r) done is (None, h, last) =
      had-on of d (with_client c None d) new (put-had of c None r d is (λ x e. none-some _ e)) (ending-had of heeds path new (unstruck (with_client c None d)) last)
  changed R stays absent c (Some r) done is (Some q, h, last) =
      had-on of d (with_client c (Some (with_peer q r)) d) new
      (kept-had of d (with_client c (Some (with_peer q r)) d)
      (put-noted of c (Some (with_peer q r)) r d is (noted-same q.status r.peer.status (of (with_peer q r)) (of r) (stays r.peer done q h) (heeds.peer q r))))
      (ending-had of heeds path new (unstruck (with_client c (Some (with_peer q r)) d)) last)

  ends : (why : Cause) (c : ℕ) (r : Resident) → client_at c d ≡ Some r → settling_through path new (unstruck (becomes c r (ended why r.peer) d)) → Had of d new
  ends why c r is h =
      had-on of d (becomes c r (ended why r.peer) d) new (put-had of c (Some (resident_of (ended why r.peer))) r d is (λ x e. none-some why (sym (ap status_noted e))))
      (settling-had of heeds path new (unstruck (becomes c r (ended why r.peer) d)) h)

  went : (c : ℕ) (s : Option Cause) (r : Resident) (done : Done) → client_at c d ≡ Some (record r { peer = record r.peer { status = s } })
      → LeavesThen c (Some (record r { peer = record r.peer { status = s } })) d done (settling_through path new) (ending_through path new) → Had of d new
  went c (Some why) r done is h = ending-had of heeds path new (unstruck d) h.1
  went c None r done is h = ends cause.Gone c (record r { peer = record r.peer { status = None } }) is h.1

  gone : (c : ℕ) (o : Option Resident) (done : Done) → client_at c d ≡ o → LeavesThen c o d done (settling_through path new) (ending_through path new) → Had of d new
  gone c None done is h = ending-had of heeds path new (unstruck d) h.1
  gone c (Some r) done is h = went c r.peer.status r done is h

  received : (c : ℕ) (piece : List ℕ) (o : Option Resident) → client_at c d ≡ o → ReceivesAt c piece o d path new → Had of d new
  received c piece None is h = absurd h
  received c piece (Some r) is h =
      let rest : Peer = with_rest (r.peer.rest ++ piece) r.peer in
      let come : Resident = with_peer rest r in
      had-on of d (with_client c (Some come) d) new
      (kept-had of d (with_client c (Some come) d)
      (put-noted of c (Some come) r d is (noted-same r.peer.status r.peer.status (of come) (of r) refl (heeds.peer rest r)))) (same-had of (with_client c (Some come) d) new h.1)

  starved : (c : ℕ) (o : Option Resident) → client_at c d ≡ o → StarvesAt c o d path new → Had of d new
  starved c None is h = absurd h
  starved c (Some r) is h = ends cause.Memory c r is h.1

  -- the pointer does something, and then the focus is settled
  acted : (input : PointerInput) (start : Desktop) → IsKeptBy of input → start.clients ≡ d.clients
      → ((told : Midstep) × PointerActs input (unstruck start) told × (settled : Midstep) × Settles told settled × ending_through path new settled) → Had of d new
  acted input start is same h =
      let begun : Had of d start = kept-had of d start (λ c. ap (λ (rs : List (Option Resident)). noted_of of (client_in rs c)) same) in
      let told : Had of start h.0.desktop = kept-had of start h.0.desktop (acts-keep of heeds input (unstruck start) h.0 is h.1) in
      let settled : Had of h.0.desktop h.2.desktop = kept-had of h.0.desktop h.2.desktop (acts-keep of heeds Settle h.0 h.2 tt h.3) in
      had-on of d start new begun (had-on of start h.0.desktop new told (had-on of h.0.desktop h.2.desktop new settled (ending-had of heeds path new h.2 h.4)))

  pressed : HeedsNoButton of → (b : Bool) (time button : ℕ) → PressesThen b time button d (ending_through path new) → Had of d new
  pressed none true time button h = acted (Press time button (grab_holder d)) (with_press button d) none refl h
  pressed none false time button h = ending-had of heeds path new (unstruck d) h

  released : HeedsNoButton of → (b : Bool) (time button : ℕ) → ReleasesThen b time button d (ending_through path new) → Had of d new
  released none true time button h = acted (Release time button) (with_release button d) none refl h
  released none false time button h = ending-had of heeds path new (unstruck d) h

-- ---- all of them

-- the client whose message is taken
abbrev taken_of : Happening → Option ℕ
taken_of (Message c) = Some c
taken_of happening = None

module _ {X : Type 0} (of : Resident → X) (after : Demand → X → X) (h : Happening) (d : Desktop) (a : ℕ) (x : X) where
  -- the same was noted of a client, and it is no message of its own
  abbrev pub WasNoted : Type 0
  WasNoted = (noted_in of a d ≡ noted None x) × (h ≢ Message a)

  -- or it asked for something, which makes this of what was noted
  abbrev pub Asked : Type 0
  Asked = (h ≡ Message a) × (r : Resident) × (demand : Demand) × (client_at a d ≡ Some r) × (r.peer.status ≡ None) × (asked a d ≡ Some demand) × (x ≡ after demand (of r))

  -- or it came
  abbrev pub Came : Type 0
  Came = (h ≡ Single Connect (gave.Connect (Ok a))) × (x ≡ of (arrival d.output))

  abbrev pub IsNotedAfter : Type 0
  IsNotedAfter = WasNoted ⊎ (Asked ⊎ Came)

-- a button is heeded by nothing that is noted, if it is one
abbrev pub HeedsNoButtonOf : {X : Type 0} → (Resident → X) → Happening → Type 0
HeedsNoButtonOf of h = (time button : ℕ) (pressed : Bool) (done : Done) → h ≡ Single (Button time button pressed) done → HeedsNoButton of

module _ {X : Type 0} (of : Resident → X) (heeds : HeedsNothing of) (after : Demand → X → X) (changes : Changes of after)
    (d : Desktop) (path : List Desktop) (e : Desktop) (a : ℕ) (q : Resident) (is : client_at a e ≡ Some q) (alive : q.peer.status ≡ None) where
  sits : noted_in of a e ≡ noted None (of q)
  sits = ap (noted_of of) is ∙ noted-same q.peer.status None (of q) (of q) alive refl

  abbrev After : Happening → Type 0
  After h = IsNotedAfter of after h d a (of q)

  -- nobody's message is taken
  quiet : (h : Happening) → taken_of h ≡ None → Had of d e → After h
  quiet h none had = inl (had a (of q) sits, λ same. none-some a (sym none ∙ ap taken_of same))

  served : (c : ℕ) (o : Option Resident) → client_at c d ≡ o → ServesThen c o d (settling_through path e) → After (Message c)
  served c None there h = absurd h
  served c (Some r) there h =
      heard (took of heeds after changes c d path e r there a (of q) sits (split_of r.peer.rest) r (ap asked_by there) refl h.1)
    where
      heard : IsHeard of after c d r a (of q) → After (Message c)
      heard (inl k) = inl (k.1, λ same. k.0 (same_Some c a (ap taken_of same)))
      heard (inr k) =
          inr (inl (ap Message k.0, r, k.1, subst (λ (n : ℕ). client_at n d ≡ Some r) k.0 there, h.0, subst (λ (n : ℕ). asked n d ≡ Some k.1) k.0 k.2, k.3))

  connected : (k : Option ℕ) (done : Done) → lowest d.clients ≡ k → ConnectsThen k d done (ending_through path e) → After (Single Connect done)
  connected None done free h = quiet (Single Connect done) refl (ending-had of heeds path e (unstruck d) h.1)
  connected (Some n) done free (inl h) = quiet (Single Connect done) refl (ending-had of heeds path e (unstruck d) h.1)
  connected (Some n) done free (inr h) = at (same-or (n + 1) a)
    where
      new : Resident
      new = arrival d.output

      sat : noted_in of a (with_client (n + 1) (Some new) d) ≡ noted None (of q)
      sat = ending-had of heeds path e (unstruck (with_client (n + 1) (Some new) d)) h.1 a (of q) sits

      at : (n + 1 ≡ a) ⊎ (n + 1 ≢ a) → After (Single Connect done)
      at (inl here) =
          let arrived : noted_of of (Some new) ≡ noted None (of q) =
          sym (ap (noted_of of) (comes-at d.clients n (Some new) free).1) ∙ subst (λ (m : ℕ). noted_in of m (with_client (n + 1) (Some new) d) ≡ noted None (of q)) (sym here) sat in
          inr (inr (ap (Single Connect) (h.0 ∙ ap (λ (m : ℕ). gave.Connect (Ok m)) here), sym (same-noted new.peer.status None (of new) (of q) arrived)))
      at (inr away) =
          inl (sym (ap (noted_of of) (number-other d.clients (n + 1) a (Some new) away)) ∙ sat, λ same. none-some a (ap taken_of same))

  pub happened : (h : Happening) → HeedsNoButtonOf of h → Leads h d path e → After h
  happened (Receive c piece) none leads = quiet (Receive c piece) refl (received of heeds d path e c piece (client_at c d) refl leads)
  happened (Message c) none leads = served c (client_at c d) refl leads
  happened (Starve c) none leads = quiet (Starve c) refl (starved of heeds d path e c (client_at c d) refl leads)
  happened (Single Connect done) none leads = connected (lowest d.clients) done refl leads
  happened (Single (Feed c piece) done) none leads = absurd leads
  happened (Single (Store c store at bytes) done) none leads =
      quiet (Single (Store c store at bytes) done) refl
      (changed of heeds d path e (IsStored store at bytes)
      (λ p done q h. ap (λ (x : Peer). x.status) (same_Some q (stored_at p.status store at bytes p) h.0) ∙ stored-status p.status store at bytes p) _ c (client_at c d) done refl leads)
  happened (Single (Leave c) done) none leads = quiet (Single (Leave c) done) refl (gone of heeds d path e c (client_at c d) done refl leads)
  happened (Single (Tick time) done) none leads =
      quiet (Single (Tick time) done) refl
      (had-on of d leads.1.0.desktop e (kept-had of d leads.1.0.desktop (frames-keep of heeds time 32 1 (unstruck d) leads.1.0 leads.1.1)) (settling-had of heeds path e leads.1.0 leads.1.2))
  happened (Single (Send c n) done) none leads =
      quiet (Single (Send c n) done) refl
      (changed of heeds d path e (IsSent n) (λ p done q h. ap (λ (x : Peer). x.status) (same_Some q (sent_by n p) h.0) ∙ sent-status n p) _ c (client_at c d) done refl leads)
  happened (Single (Close c) done) none leads =
      quiet (Single (Close c) done) refl
      (changed of heeds d path e IsClosed (λ p done q h. ap (λ (x : Peer). x.status) (closed-same p.status p q h.0)) _ c (client_at c d) done refl leads)
  happened (Single (Motion time x y) done) none leads =
      let at : Place = point_in d.output x y in
      let moved : Had of d leads.1.0.desktop = kept-had of d leads.1.0.desktop (acts-keep of heeds (GoTo at) (unstruck d) leads.1.0 tt leads.1.1) in
      let next : Had of leads.1.0.desktop leads.1.2.desktop =
      kept-had of leads.1.0.desktop leads.1.2.desktop (acts-keep of heeds (Went time) (placed at leads.1.0) leads.1.2 tt leads.1.3) in
      quiet (Single (Motion time x y) done) refl
      (had-on of d leads.1.0.desktop e moved (had-on of leads.1.0.desktop leads.1.2.desktop e next (ending-had of heeds path e leads.1.2 leads.1.4)))
  happened (Single (Button time button true) done) none leads =
      quiet (Single (Button time button true) done) refl
      (pressed of heeds d path e (none time button true done refl) (is_press button d.pointer.buttons) time button leads.1)
  happened (Single (Button time button false) done) none leads =
      quiet (Single (Button time button false) done) refl
      (released of heeds d path e (none time button false done refl) (is_down button d.pointer.buttons) time button leads.1)

-- A message of a client with its answer: where it leads, through which desktops, and how its client ended, if it did.
use Rattle.std.proofs.Common.{◌≡◌, ℕ, ◌-◌, List, [], ◌∷◌, Bool, true, false, Option, Some, None, Result, drop, take, refl, ap, subst, sym, ◌∙◌, inl, inr}
use Rattle.std.specs.Prelude.{Ok, Err, ◌⊎◌, is_some}
use Rattle.wl_wire.specs.Wire.{split_of}
use Rattle.wl_wire.specs.declared.header.Split.{Split}
use Rattle.wl_wire.specs.declared.header.Split.TheVariants.{Message as Whole, More, Bad}
use Rattle.spec_desktop.specs.declared.cause.Cause.{Cause}
use Rattle.spec_desktop.specs.declared.refusals.ErrorCode.TheVariants.{InvalidMethod}
use Rattle.spec_desktop.specs.declared.refusals.Refusal.{Refusal}
use Rattle.spec_desktop.specs.Peer.{Errs, LacksMemory, Peer, Queues, counted, ended, with_rest}
use Rattle.spec_desktop.specs.Told.{Said, display_error}
use Rattle.spec_desktop.specs.Pointer.{first_pointer}
use Rattle.spec_desktop.specs.Changing.{changed_for, stacked_for}
use Rattle.spec_desktop.specs.Demand.{Demand}
use Rattle.spec_desktop.specs.Demanding.{judge_all}
use Rattle.spec_desktop.specs.Desktop.{Desktop, Resident, become, become_by, client_at, client_in, owned_in, owned_of, status_in, with_client}
use Rattle.spec_desktop.specs.Happens.{AnswersThen, BecomesThen, DoesThen, ServesThen, TakesThen, WantsOrThen, done_for, wants_memory}
use Rattle.spec_desktop.specs.Replies.{replies}
use Rattle.spec_desktop.specs.Settling.{QueuesTo, Strike, becomes, ended_by, struck_by, unstruck}
use Rattle.spec_desktop.specs.Stacked.{all_windows}
use Rattle.spec_desktop.specs.Step.{with_peer}
use Rattle.spec_desktop.specs.Through.{SettlesAllThrough, settling_through}
use Rattle.law_desktop.proofs.Runs.Ends.{queues-status}
use Rattle.law_desktop.proofs.Runs.Forms.{Answers, Becomes as StepBecomes, Does, ServesAt, Takes, WantsOr}
use Rattle.law_desktop.proofs.Runs.Places.{client-become, other-become, status-become}
use Rattle.law_desktop.proofs.Soundness.RunSteady.{changed-steady}
use Rattle.law_desktop.specs.InOrder.{InOrder}
use Rattle.law_desktop.specs.Shown.{ShownStand}
use Rattle.law_desktop.proofs.EachClient.Clients.{IsPeerOf}
use Rattle.law_desktop.proofs.EachClient.Steps.{counted_of, done-still}
use Rattle.law_desktop.proofs.InOrder.Laws.{clients_are_in_order}
use Rattle.law_desktop.proofs.KeptRecords.Toplevels.Back.{erred, lacking}
use Rattle.law_desktop.proofs.KeptRecords.Toplevels.Serves.{IsDone as IsTold, after-same, becomes-same, becomes-whole, by-pointer, ended_why, is-done, told-to}
use Rattle.law_desktop.specs.Messages.{IsDemanded}
use Rattle.law_desktop.proofs.RootsOf.Meant.{judged-is-meant}
use Rattle.law_desktop.proofs.RootsOf.Orders.{in-order-has-trees}
use Rattle.law_desktop.specs.WaysLaws.{MessagesAreServed, MessagesLeadSo}
use Rattle.law_desktop.specs.Ways.{AnswersAs, Becomes, DoesAlone, IsGone, RouteBy, Struck, TakesAs}
use Rattle.law_desktop.proofs.MessageWays.Ends.{LeavesOthers, become-gone, gone-since, stacked-leaves}
use Rattle.law_desktop.proofs.MessageWays.Keeping.{made-in-order, made-shown}
use Rattle.law_desktop.proofs.MessageWays.Told.{stacked-still, told-peer}

-- ---- the pointer isn't anywhere, so nothing is settled

through-plain : (d : Desktop) → SettlesAllThrough 33 (unstruck (record d { pointer = first_pointer })) (record d { pointer = first_pointer } ∷ [])
    (record d { pointer = first_pointer })
through-plain d = (unstruck (record d { pointer = first_pointer }), refl, [], refl, (refl, refl))

settled-through : (x : Desktop) → x.pointer ≡ first_pointer → SettlesAllThrough 33 (unstruck x) (x ∷ []) x
settled-through x still =
    subst (λ p. SettlesAllThrough 33 (unstruck (record x { pointer = p })) (record x { pointer = p } ∷ []) (record x { pointer = p })) (sym still) (through-plain x)

-- nobody is to end
still-through : (x new : Desktop) → new ≡ x → x.pointer ≡ first_pointer → settling_through (new ∷ new ∷ []) new (unstruck x)
still-through x new last still =
    let there : settling_through (x ∷ x ∷ []) x (unstruck x) = (x ∷ [], refl, settled-through x still) in
    subst (λ e. settling_through (e ∷ e ∷ []) e (unstruck x)) (sym last) there

-- one is to end
struck-through : (m e : Desktop) (s : Strike) → e ≡ ended_by s m → e.pointer ≡ first_pointer
    → settling_through (m ∷ e ∷ e ∷ []) e (record { desktop = m; struck = s ∷ [] })
struck-through m e s last still =
    subst (λ x. x.pointer ≡ first_pointer → settling_through (m ∷ x ∷ x ∷ []) x (record { desktop = m; struck = s ∷ [] })) (sym last)
    (λ still. (ended_by s m ∷ [], refl, settled-through (ended_by s m) still)) still

-- ---- what a client is told

-- the client that lives is told, and is to end where that isn't queued
abbrev IsLed : List Said → ℕ → Resident → Desktop → List Desktop → Desktop → Type 0
IsLed events c made d path new =
    (q : Peer) × (why : Option Cause) × QueuesTo events made.peer q why
    × settling_through path new (record { desktop = with_client c (Some (with_peer q made)) d; struck = struck_by c why [] })

-- it still lives where that wasn't queued, and then it ends
record IsStruck (events : List Said) (c : ℕ) (made : Resident) (d : Desktop) (path : List Desktop) (e : Desktop) : Type 0 where
  told : Peer
  cause : Cause
  lives : told.status ≡ None
  unqueued : QueuesTo events made.peer told (Some cause)
  own : Desktop
  own_is : own ≡ become c made told d
  path_is : path ≡ own ∷ e ∷ e ∷ []
  gone : IsGone c own e
  over : is_some (status_in c e) ≡ true

abbrev IsRouted : List Said → ℕ → Resident → Desktop → List Desktop → Desktop → Type 0
IsRouted events c made d path e = ((path ≡ e ∷ e ∷ []) × (status_in c e ≡ None)) ⊎ IsStruck events c made d path e

module _ (events : List Said) (c : ℕ) (made there : Resident) (d new : Desktop) (is : client_at c d ≡ Some there) (still : d.pointer ≡ first_pointer)
    (alive : made.peer.status ≡ None) where
  abbrev Led : Type 0
  Led = (path : List Desktop) × IsLed events c made d path new × IsRouted events c made d path new

  -- all was queued
  led-on : (told q : Peer) → QueuesTo events made.peer told None → q ≡ told → new ≡ become c made q d → Led
  led-on told q queues same last =
      let x : Desktop = with_client c (Some (with_peer told made)) d in
      let now : x ≡ become c made told d = after-same events c made there d is still alive told None queues in
      let to : new ≡ x = last ∙ ap (λ p. become c made p d) same ∙ sym now in
      let lives : told.status ≡ None = queues-status events made.peer told None queues ∙ alive in (
        new ∷ new ∷ [],
        (told, None, queues, still-through x new to still),
        inl (refl, ap (λ (e : Desktop). status_in c e) last ∙ status-become c made q d there is ∙ ap (λ (p : Peer). p.status) same ∙ lives),
      )

  -- an event wasn't
  led-struck : (told q : Peer) (cause : Cause) → QueuesTo events made.peer told (Some cause) → q ≡ ended cause told → new ≡ become c made q d → Led
  led-struck told q cause queues same last =
      let m : Desktop = with_client c (Some (with_peer told made)) d in
      let s : Strike = record { client = c; cause = cause } in
      let lives : told.status ≡ None = queues-status events made.peer told (Some cause) queues ∙ alive in
      let gone : new ≡ become c made (ended cause told) d = last ∙ ap (λ p. become c made p d) same in
      let to : new ≡ ended_by s m = gone ∙ sym (after-same events c made there d is still alive told (Some cause) queues) in
      let rests : new.pointer ≡ first_pointer = ap (λ (e : Desktop). e.pointer) gone ∙ still in
      let ends : IsGone c m (become c made (ended cause told) d) =
      gone-since c (Some (with_peer told made)) d (become c made (ended cause told) d) (become-gone c made there (ended cause told) d is refl) in (
        m ∷ new ∷ new ∷ [],
        (told, Some cause, queues, struck-through m new s to rests),
        inr
            (record {
              told = told;
              cause = cause;
              lives = lives;
              unqueued = queues;
              own = m;
              own_is = sym (ap (λ o. become_by o c made told d) lives);
              path_is = refl;
              gone = subst (IsGone c m) (sym gone) ends;
              over = ap (λ (e : Desktop). is_some (status_in c e)) gone ∙ ap (λ s. is_some s) (status-become c made (ended cause told) d there is);
            }),
      )

  led : Becomes (Queues events made.peer) c made d new → Led
  led h =
      let k = told-to events made.peer h.0 h.1 in
      by k.0 k.1 k.2 k.3
    where
      by : (told : Peer) (why : Option Cause) → QueuesTo events made.peer told why → h.0 ≡ ended_why why told → Led
      by told None queues same = led-on told h.0 queues same h.2
      by told (Some cause) queues same = led-struck told h.0 cause queues same h.2

-- ---- what is demanded

-- one that doesn't live on has ended
over-some : (s : Option Cause) → (s ≡ None → ⊥) → is_some s ≡ true
over-some None never = absurd (never refl)
over-some (Some cause) never = refl

-- one message has one size
same-size : (object opcode size a b n : ℕ) → Whole object opcode size ≡ Whole a b n → size ≡ n
same-size object opcode size a b n e = ap (λ (split : Split). size_of split) e
  where
    size_of : Split → ℕ
    size_of (Whole object opcode n) = n
    size_of Bad = 0
    size_of More = 0

module _ (c : ℕ) (r : Resident) (d e : Desktop) (is : client_at c d ≡ Some r) (alive : r.peer.status ≡ None) (order : InOrder d) where
  module _ (rest : List ℕ) (object opcode : ℕ) (body : List ℕ) (demand : Demand) (judged : judge_all r object opcode body ≡ Ok demand) where
    abbrev Now : Resident
    Now = counted_of r rest

    abbrev Made : Resident
    Made = changed_for c demand (counted_of r rest) d

    abbrev On : Desktop
    On = stacked_for c demand (counted_of r rest) (all_windows d) d

    abbrev Events : List Said
    Events = replies c demand (counted_of r rest) (changed_for c demand (counted_of r rest) d) (all_windows d) d

    leaves : LeavesOthers c d On
    leaves = stacked-leaves c demand Now (all_windows d) d

    found : client_at c On ≡ Some r
    found = ap (λ (clients : List (Option Resident)). client_in clients c) leaves.clients ∙ is

    on-still : On.pointer ≡ first_pointer
    on-still = stacked-still c demand Now (all_windows d) d order.pointer

    -- no move goes on of which it would let go
    done-is : done_for c demand Now d ≡ On
    done-is = done-still c demand Now d order.pointer

    living : Made.peer.status ≡ None
    living = (changed-steady c demand d Now).0 ∙ alive

    -- it is done, and settled
    does-whole : DoesAlone demand c (counted_of r rest) d e → Does c demand (counted_of r rest) d e
    does-whole h =
        subst (λ (x : Desktop). IsTold Events c Made x e) (sym done-is) (is-done Events c Made r On e found on-still living h)

    -- the client was struck as that was told
    -- the message is taken off its bytes
    abbrev IsBehind : Type 0
    IsBehind = (object opcode size : ℕ) → split_of r.peer.rest ≡ Whole object opcode size → rest ≡ drop size r.peer.rest

    struck-so : ShownStand d → IsBehind → IsDemanded (split_of r.peer.rest) r demand → (path : List Desktop) → IsStruck Events c Made On path e → Struck c r d path e
    struck-so stand behind demanded path h =
        let lived : h.own ≡ become_by None c Made h.told On = h.own_is ∙ ap (λ s. become_by s c Made h.told On) h.lives in
        let same : IsPeerOf Made h.told = told-peer Events Made h.told (Some h.cause) h.unqueued in
        let ordered : InOrder h.own =
        subst InOrder (sym h.own_is) (made-in-order c r d is alive order rest object opcode body demand judged h.told (λ lives. same)) in
        let shown : ShownStand h.own =
        subst ShownStand (sym h.own_is) (made-shown c r d is alive order rest object opcode body demand judged stand h.told h.lives (λ lives. same)) in
        record {
          demand = demand;
          demanded = demanded;
          meant = judged-is-meant r object opcode body demand (clients_are_in_order d c r order is alive) judged;
          before = Now.peer;
          taken = λ object opcode size came. ap (λ (bytes : List ℕ). counted (with_rest bytes r.peer)) (behind object opcode size came);
          own = h.own;
          path_is = h.path_is;
          done = record {
            own = ap (λ (x : Desktop). owned_in x c) lived ∙ ap owned_of (client-become None c Made h.told On r found);
            others = λ other another.
                ap (λ (x : Desktop). owned_in x other) h.own_is
                ∙ ap owned_of (other-become c other Made h.told On (λ same. another (sym same))
                ∙ ap (λ (clients : List (Option Resident)). client_in clients other) leaves.clients);
            stack = ap (λ (x : Desktop). x.standing) lived;
          };
          trees = in-order-has-trees h.own ordered shown;
          shown = shown;
          mappings = ap (λ (x : Desktop). x.mappings) lived;
          lives = ap (status_in c) h.own_is ∙ status-become c Made h.told On r found ∙ h.lives;
          output = ap (λ (x : Desktop). x.output) lived ∙ leaves.output;
          gone = h.gone;
          over = h.over;
        }

    -- it is done, and told
    does-through : ShownStand d → IsBehind → IsDemanded (split_of r.peer.rest) r demand → DoesAlone demand c (counted_of r rest) d e
        → (path : List Desktop) × DoesThen c demand (counted_of r rest) d (settling_through path e) × RouteBy true c r d path e
    does-through stand behind demanded h =
        let led-so = led Events c Made r On e found on-still living h in
        let path : List Desktop = led-so.0 in
        (path, subst (λ (x : Desktop). IsLed Events c Made x path e) (sym done-is) led-so.1, routed path led-so.2)
      where
        routed : (path : List Desktop) → IsRouted Events c Made On path e → RouteBy true c r d path e
        routed path (inl h) = inl h
        routed path (inr h) = inr (struck-so stand behind demanded path h)

  -- ---- a message is served

  becomes-settled : (Q : Peer → Type 0) (now : Resident) → Becomes Q c now d e → StepBecomes Q c now d e
  becomes-settled Q now h = becomes-whole Q c now d e order.pointer h

  -- what may run out of memory is done where there was enough
  wants-done : (b : Bool) (Later : Type 0) (now : Resident) → Later → WantsOr b Later c now d e
  wants-done false Later now h = h
  wants-done true Later now h = inr h

  -- or there wasn't
  wants-more : (b : Bool) (Later : Type 0) (now : Resident) → b ≡ true → StepBecomes (LacksMemory now.peer) c now d e → WantsOr b Later c now d e
  wants-more true Later now wants h = inl h
  wants-more false Later now wants h = absurd (cc)

  answers-whole : (b : Bool) (rest : List ℕ) (object opcode : ℕ) (body : List ℕ) (answer : Result Demand Refusal) → judge_all r object opcode body ≡ answer
      → AnswersAs b answer c (with_peer (with_rest rest r.peer) r) d e → Answers answer c (with_peer (with_rest rest r.peer) r) d e
  answers-whole true rest object opcode body (Ok demand) judged h =
      wants-done (wants_memory demand) _ (counted_of r rest) (does-whole rest object opcode body demand judged h)
  answers-whole false rest object opcode body (Ok demand) judged h =
      wants-more (wants_memory demand) _ (counted_of r rest) h.0 (becomes-settled _ (counted_of r rest) h.1)
  answers-whole true rest object opcode body (Err refusal) judged h = absurd h
  answers-whole false rest object opcode body (Err refusal) judged h = becomes-settled _ (with_peer (with_rest rest r.peer) r) h

  takes-whole : (b : Bool) (split : Split) → TakesAs b split c r d e → Takes split c r d e
  takes-whole b (Whole object opcode size) h =
      let body = take (size - 8) (drop 8 r.peer.rest) in
      answers-whole b (drop size r.peer.rest) object opcode body (judge_all r object opcode body) refl h
  takes-whole false Bad h = becomes-settled _ r h
  takes-whole true More h = absurd h
  takes-whole b split h = absurd h

  -- ---- where it leads

  module _ (stand : ShownStand d) where
    -- its client ends at once
    becomes-through : (Q : Peer → Type 0) → ((q : Peer) → Q q → q.status ≡ None → ⊥) → (now : Resident) → Becomes Q c now d e
        → (path : List Desktop) × BecomesThen Q c now d (settling_through path e) × RouteBy false c r d path e
    becomes-through Q never now h =
        let same : becomes c now h.0 d ≡ become c now h.0 d = becomes-same c now h.0 d order.pointer in
        let still : (becomes c now h.0 d).pointer ≡ first_pointer =
        ap (λ (x : Desktop). x.pointer) same ∙ by-pointer h.0.status c now h.0 d ∙ order.pointer in
        let over : is_some (status_in c e) ≡ true =
        ap (λ (x : Desktop). is_some (status_in c x)) h.2 ∙ ap (λ s. is_some s) (status-become c now h.0 d r is) ∙ over-some h.0.status (never h.0 h.1) in
        (e ∷ e ∷ [], (h.0, h.1, still-through (becomes c now h.0 d) e (h.2 ∙ sym same) still), (refl, over))

    -- what may run out of memory is done where there was enough
    wants-through : (b : Bool) (Then : Type 0) (now : Resident) (path : List Desktop) → Then → WantsOrThen b Then c now d (settling_through path e)
    wants-through false Then now path h = h
    wants-through true Then now path h = inr h

    -- or there wasn't
    lacks-through : (b : Bool) (Then : Type 0) (now : Resident) (path : List Desktop) → b ≡ true
        → BecomesThen (LacksMemory now.peer) c now d (settling_through path e) → WantsOrThen b Then c now d (settling_through path e)
    lacks-through true Then now path wants h = inl h
    lacks-through false Then now path wants h = absurd (cc)

    -- it is answered
    answers-through : (b : Bool) (rest : List ℕ) (object opcode : ℕ) (body : List ℕ) (answer : Result Demand Refusal) → judge_all r object opcode body ≡ answer
        → ((object opcode size : ℕ) → split_of r.peer.rest ≡ Whole object opcode size → rest ≡ drop size r.peer.rest)
        → ((demand : Demand) → answer ≡ Ok demand → IsDemanded (split_of r.peer.rest) r demand) → AnswersAs b answer c (with_peer (with_rest rest r.peer) r) d e
        → (path : List Desktop) × AnswersThen answer c (with_peer (with_rest rest r.peer) r) d (settling_through path e) × RouteBy b c r d path e
    answers-through true rest object opcode body (Ok demand) judged behind demanded h =
        let k = does-through rest object opcode body demand judged stand behind (demanded demand refl) h in
        (k.0, wants-through (wants_memory demand) _ (counted_of r rest) k.0 k.1, k.2)
    answers-through false rest object opcode body (Ok demand) judged behind demanded h =
        let p : Peer = counted (with_rest rest r.peer) in
        let k = becomes-through (LacksMemory p) (lacking p) (with_peer p r) h.1 in
        (k.0, lacks-through (wants_memory demand) _ (with_peer p r) k.0 h.0 k.1, k.2)
    answers-through true rest object opcode body (Err refusal) judged behind demanded h = absurd h
    answers-through false rest object opcode body (Err refusal) judged behind demanded h =
        becomes-through (Errs refusal (with_rest rest r.peer)) (erred refusal (with_rest rest r.peer)) (with_peer (with_rest rest r.peer) r) h

    -- it is taken
    takes-through : (b : Bool) (split : Split) → split_of r.peer.rest ≡ split → TakesAs b split c r d e
        → (path : List Desktop) × TakesThen split c r d (settling_through path e) × RouteBy b c r d path e
    takes-through b (Whole object opcode size) came h =
        let body = take (size - 8) (drop 8 r.peer.rest) in
        answers-through b (drop size r.peer.rest) object opcode body (judge_all r object opcode body) refl
        (λ o p s e. ap (λ (n : ℕ). drop n r.peer.rest) (same-size object opcode size o p s (sym came ∙ e)))
        (λ demand judged. subst (λ split. IsDemanded split r demand) (sym came) judged) h
    takes-through false Bad came h = becomes-through (Errs (display_error InvalidMethod) r.peer) (erred (display_error InvalidMethod) r.peer) r h
    takes-through true More came h = absurd h
    takes-through b split came h = absurd h

pub messages_lead_so : MessagesLeadSo
messages_lead_so b c r d e order stand is alive h =
    let k = takes-through c r d e is alive order stand b (split_of r.peer.rest) refl h in
    (k.0, subst (λ o. ServesThen c o d (settling_through k.0 e)) (sym is) (alive, k.1), k.2)

pub messages_are_served : MessagesAreServed
messages_are_served b c r d e order is alive h =
    subst (λ (o : Option Resident). ServesAt c o d e) (sym is) (alive, takes-whole c r d e is alive order b (split_of r.peer.rest) h)

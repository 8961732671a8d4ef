-- Connections come and go.
use Rattle.std.proofs.Common.{◌≡◌, ◌<◌, ◌≤◌, ◌+◌, ◌-◌, ◌^◌, ◌⊎◌, ◌&&◌, ℕ, Bool, true, false, List, [], ◌∷◌, Option, Some, None, Ok, Err, refl, ap, sym, subst, inl, inr, ◌∙◌, arith, get_or, set}
use Rattle.std.proofs.lemmas.List.{set-get_or}
use Rattle.std.specs.Io.KnownBytes.{Appends}
use Rattle.std.specs.Prelude.{IfOk, OnErr, OnOk, Result}
use Rattle.std.proofs.KnownBytes.{Appends-nil}
use Rattle.wl_server.specs.Faults.{CountsFault, Rose}
use Rattle.spec_desktop.specs.Act.{Close, Connect, peer_at, status_of, unsent_of}
use Rattle.spec_desktop.specs.Desktop.{Desktop}
use Rattle.spec_desktop.specs.declared.answers.ConnectError.{ConnectError}
use Rattle.spec_desktop.specs.declared.answers.Done.TheVariants as gave
use Rattle.spec_desktop.specs.declared.answers.Fed.{Fed}
use Rattle.spec_desktop.specs.declared.answers.Fed.TheVariants.{Alive, Ended, NoClient}
use Rattle.wl_recording.specs.Text.{client_line}
use Rattle.wl_session.specs.Agreeing.{Agrees}
use Rattle.wl_session.specs.Course.{moment}
use Rattle.wl_session.specs.View.{SessionView}
use Rattle.wl_server.specs.declared.seat.Seat.{Seat}
use Rattle.wl_server.specs.Acting.{InTurn, Stretch, Takes, Then}
use Rattle.wl_server.specs.Recorded.{RecordedView}
use Rattle.wl_server.specs.Phases.{Accepts, AcceptsAll, AcceptsNone, AcceptsOne, AcceptsSome, AtSeat, BeginsAccepting, Closes, ClosesIf, Hangs, Line, Place, has_ended, is_finished, new_seat}
use Rattle.wl_server.specs.Seats.{Seated, seat_of, with_seat}
use Rattle.wl_server.specs.Telling.{Reports, ended_line}
use Rattle.wl_server.specs.Ways.{Ways}
use Rattle.wl_server.proofs.Places.{same-place}
use Rattle.wl_server.proofs.Taking.{TakesNoted, InTurn-more, Takes-one, Takes-turn, Takes-weaker, both, idle}
use Rattle.wl_server.proofs.Telling.{Reports-none, Reports-one, Reports-then, Reports-weaker, Takes-told}

-- ---- connections are accepted

pub accept-none : {H C : Type 0} {Writer : Type 0} {contents : Writer → Option (List ℕ)} (w : Ways H C) (hub to : H) (seated : Seated (Seat C)) (v : RecordedView Writer) (report : Option (List ℕ))
    → ((seated.accepted ≡ 2 ^ 32 - 1) × (to ≡ hub)) ⊎ ((w.accepts hub None to × (w.faults to ≡ w.faults hub)) ⊎ Rose (w.faults hub) (w.faults to))
    → Reports contents (AcceptsOne w false (hub, seated) (to, seated)) v v report report
accept-none w hub to seated v report why =
    Reports-none (AcceptsOne w false (hub, seated) (to, seated)) v v report refl (λ d agrees. record { why = why; idle = idle seated (moment d v.session) })

-- what a hub's accept gave, by what it answered
pub accepted-as : {H C E : Type 0} (accepts : H → Option C → H → Type 0) (hub to : H) (old new : ℕ) (r : Result (Option C) E) (got is : Option C) → r ≡ Ok got → got ≡ is
    → IfOk r (λ conn. accepts hub conn to) → CountsFault old new r → accepts hub is to × (new ≡ old)
accepted-as {H} {C} {E} accepts hub to old new r got is ok same gave counts =
    let given : accepts hub got to = subst (λ (s : Result (Option C) E). IfOk s (λ conn. accepts hub conn to)) ok gave in
    (subst (λ (g : Option C). accepts hub g to) same given, subst (λ (s : Result (Option C) E). CountsFault old new s) ok counts)

-- and how it failed
pub accept-failed : {X E : Type 0} (old new : ℕ) (r : Result X E) (e : E) → r ≡ Err e → CountsFault old new r → Rose old new
accept-failed {X} {E} old new r e failed counts = subst (λ (s : Result X E). CountsFault old new s) failed counts

-- what holds holds at an Err
pub on-err : {T E P : Type 0} (r : Result T E) → P → OnErr r P
on-err (Ok x) p = tt
on-err (Err e) p = p

pub on-err-weaker : {T E P Q : Type 0} (r : Result T E) → (P → Q) → OnErr r P → OnErr r Q
on-err-weaker (Ok x) weaker p = tt
on-err-weaker (Err e) weaker p = weaker p

-- what is known of an accept that gave a connection
pub record Gave {H C : Type 0} (w : Ways H C) (hub to : H) (conn : C) (accepted : ℕ) : Type 0 where
  pub room : accepted < 2 ^ 32 - 1
  pub accepts : w.accepts hub (Some conn) to
  pub calm : w.faults to ≡ w.faults hub

pub accept-client : {H C : Type 0} {Writer : Type 0} {contents : Writer → Option (List ℕ)} (w : Ways H C) (hub to : H) (conn : C) (accepted client : ℕ) (seats next : List (Option (Seat C))) (old new : RecordedView Writer) (x y : Option (List ℕ))
    → Gave w hub to conn accepted → next ≡ with_seat client (Some (new_seat conn (accepted + 1))) seats → TakesNoted contents Connect (gave.Connect (Ok client)) old new
    → Appends x y (client_line client)
    → Reports contents (AcceptsOne w true (hub, record { accepted = accepted; seats = seats }) (to, record { accepted = accepted + 1; seats = next })) old new x y
accept-client w hub to conn accepted client seats next old new x y got is course line =
    Reports-one (AcceptsOne w true (hub, record { accepted = accepted; seats = seats }) (to, record { accepted = accepted + 1; seats = next }))
    Connect (gave.Connect (Ok client)) old new x y (λ hs one. one) course
    (λ d e es agrees one. record {
      conn = conn;
      hub = to;
      answer = Ok client;
      room = got.room;
      accepts = got.accepts;
      calm = got.calm;
      seats = (refl, ap (λ (s : List (Option (Seat _))). record { accepted = accepted + 1; seats = s }) is);
      acts_are = refl;
      answers = one;
    })
    (λ d e agrees. line)

pub accept-unsaid : {H C : Type 0} {Writer : Type 0} {contents : Writer → Option (List ℕ)} (w : Ways H C) (hub to : H) (conn : C) (accepted client : ℕ) (seats next : List (Option (Seat C))) (old new : RecordedView Writer)
    → Gave w hub to conn accepted → next ≡ with_seat client (Some (new_seat conn (accepted + 1))) seats → TakesNoted contents Connect (gave.Connect (Ok client)) old new
    → Takes contents (Accepts w (hub, record { accepted = accepted; seats = seats }) (to, record { accepted = accepted + 1; seats = next })) old new
accept-unsaid w hub to conn accepted client seats next old new got is course =
    Takes-one (Accepts w (hub, record { accepted = accepted; seats = seats }) (to, record { accepted = accepted + 1; seats = next }))
    Connect (gave.Connect (Ok client)) old new course
    (λ d e es agrees one. record {
      conn = conn;
      hub = to;
      answer = Ok client;
      room = got.room;
      accepts = got.accepts;
      calm = got.calm;
      seats = (refl, ap (λ (s : List (Option (Seat _))). record { accepted = accepted + 1; seats = s }) is);
      acts_are = refl;
      answers = one;
    })

pub accept-full : {H C : Type 0} {Writer : Type 0} {contents : Writer → Option (List ℕ)} (w : Ways H C) (hub mid to : H) (conn : C) (accepted : ℕ) (error : ConnectError) (seats : List (Option (Seat C))) (old new : RecordedView Writer) (x : Option (List ℕ))
    → Gave w hub mid conn accepted → w.closes mid conn to → w.faults to ≡ w.faults mid → TakesNoted contents Connect (gave.Connect (Err error)) old new
    → Reports contents (AcceptsOne w true (hub, record { accepted = accepted; seats = seats }) (to, record { accepted = accepted + 1; seats = seats })) old new x x
accept-full w hub mid to conn accepted error seats old new x got closes calm course =
    Reports-one (AcceptsOne w true (hub, record { accepted = accepted; seats = seats }) (to, record { accepted = accepted + 1; seats = seats }))
    Connect (gave.Connect (Err error)) old new x x (λ hs one. one) course
    (λ d e es agrees one. record {
      conn = conn;
      hub = mid;
      answer = Err error;
      room = got.room;
      accepts = got.accepts;
      calm = got.calm;
      seats = (closes, calm, refl);
      acts_are = refl;
      answers = one;
    })
    (λ d e agrees. Appends-nil x)

-- one after another

pub Reports-turn : {W : Type 0} {Writer : Type 0} {contents : Writer → Option (List ℕ)} (Own : ℕ → W → W → Stretch) (n : ℕ) (from between to : W) (old mid new : RecordedView Writer) (x y z : Option (List ℕ))
    → Reports contents (InTurn Own n from between) old mid x y → Reports contents (Own (n + 1) between to) mid new y z → Reports contents (InTurn Own (n + 1) from to) old new x z
Reports-turn Own n from between to old mid new x y z first next =
    Reports-weaker (Then (InTurn Own n) (Own (n + 1)) from to) (InTurn Own (n + 1) from to) old new x z
    (Reports-then (InTurn Own n from between) (Own (n + 1) between to) (Then (InTurn Own n) (Own (n + 1)) from to) old mid new x y z first next
    (λ start d e a b es fs ad ae leads goes p q. both (InTurn Own n) (Own (n + 1)) from between to start (moment d mid.session) (moment e new.session) a b es fs leads goes p q))
    (λ d e a es ad ae runs then. InTurn-more Own n from to (moment d old.session) a es (moment e new.session) then)

pub Reports-zero : {W : Type 0} {Writer : Type 0} {contents : Writer → Option (List ℕ)} (Own : ℕ → W → W → Stretch) (from : W) (v : RecordedView Writer) (x : Option (List ℕ)) → ((d : Desktop) → InTurn Own 0 from from (moment d v.session) [] [] (moment d v.session))
    → Reports contents (InTurn Own 0 from from) v v x x
Reports-zero Own from v x none = Reports-none (InTurn Own 0 from from) v v x refl (λ d agrees. none d)

pub accept-more : {H C : Type 0} {Writer : Type 0} {contents : Writer → Option (List ℕ)} (w : Ways H C) (n : ℕ) (from between to : Line H C) (old mid new : RecordedView Writer) (x y z : Option (List ℕ)) → Reports contents (AcceptsSome w n from between) old mid x y
    → Reports contents (AcceptsOne w true between to) mid new y z → Reports contents (AcceptsSome w (n + 1) from to) old new x z
accept-more w n from between to old mid new x y z first next = Reports-turn (λ k. Accepts w) n from between to old mid new x y z first next

pub accept-stop : {H C : Type 0} {Writer : Type 0} {contents : Writer → Option (List ℕ)} (w : Ways H C) (n : ℕ) (from between to : Line H C) (old mid new : RecordedView Writer) (x y z : Option (List ℕ)) → n < 32
    → Reports contents (AcceptsSome w n from between) old mid x y → Reports contents (AcceptsOne w false between to) mid new y z → Reports contents (AcceptsAll w from to) old new x z
accept-stop w n from between to old mid new x y z few first next =
    Reports-then (AcceptsSome w n from between) (AcceptsOne w false between to) (AcceptsAll w from to) old mid new x y z first next
    (λ start d e a b es fs ad ae leads goes p q.
    inr (n, few, both (AcceptsSome w n) (AcceptsNone w) from between to start (moment d mid.session) (moment e new.session) a b es fs leads goes p q))

pub accept-all : {H C : Type 0} {Writer : Type 0} {contents : Writer → Option (List ℕ)} (w : Ways H C) (n : ℕ) (from to : Line H C) (old new : RecordedView Writer) (x y : Option (List ℕ)) → n ≡ 32
    → Reports contents (AcceptsSome w n from to) old new x y → Reports contents (AcceptsAll w from to) old new x y
accept-all w n from to old new x y all some =
    Reports-weaker (AcceptsSome w n from to) (AcceptsAll w from to) old new x y some
    (λ d e a es ad ae runs p. inl (subst (λ (k : ℕ). AcceptsSome w k from to (moment d old.session) a es (moment e new.session)) all p))

pub accept-begun : {H C : Type 0} {Writer : Type 0} {contents : Writer → Option (List ℕ)} (w : Ways H C) (n : ℕ) (from between to : Line H C) (old mid new : RecordedView Writer) (x y : Option (List ℕ)) → n < 32
    → Reports contents (AcceptsSome w n from between) old mid x y → Takes contents (Accepts w between to) mid new → Takes contents (BeginsAccepting w from to) old new
accept-begun w n from between to old mid new x y few first next =
    Takes-weaker (AcceptsSome w (n + 1) from to) (BeginsAccepting w from to) old new
    (Takes-turn (λ k. Accepts w) n from between to old mid new (Takes-told (AcceptsSome w n from between) old mid x y first) next)
    (λ d e a es ad ae runs p. (n + 1, omega (arith, few), p))

-- ---- clients are closed

abbrev pub IsOver : {C : Type 0} → Bool → ℕ → Option (Seat C) → SessionView → Type 0
IsOver over client seat v =
    (d : Desktop) → Agrees v.desk d → (has_ended (status_of (peer_at client d)) && is_finished seat (unsent_of (peer_at client d))) ≡ over

pub close-none : {H C : Type 0} {Writer : Type 0} {contents : Writer → Option (List ℕ)} (w : Ways H C) (client : ℕ) (hub : H) (seat : Option (Seat C)) (v : RecordedView Writer) (x : Option (List ℕ)) → IsOver false client seat v.session
    → Reports contents (Closes w client (hub, seat) (hub, seat)) v v x x
close-none w client hub seat v x over =
    Reports-none (Closes w client (hub, seat) (hub, seat)) v v x refl
    (λ d agrees. subst (λ (b : Bool). ClosesIf b w client (hub, seat) (hub, seat) (moment d v.session) [] [] (moment d v.session)) (sym (over d agrees)) (idle (hub, seat) (moment d v.session)))

pub close-one : {H C : Type 0} {Writer : Type 0} {contents : Writer → Option (List ℕ)} (w : Ways H C) (client : ℕ) (closed : Bool) (hub to : H) (seat : Option (Seat C)) (old new : RecordedView Writer) (x y : Option (List ℕ)) → IsOver true client seat old.session
    → Hangs w (hub, seat) to → TakesNoted contents (Close client) (gave.Close closed) old new
    → ((d : Desktop) → Agrees old.session.desk d → Appends x y (ended_line client (status_of (peer_at client d))))
    → Reports contents (Closes w client (hub, seat) (to, None)) old new x y
close-one w client closed hub to seat old new x y over hangs course line =
    Reports-one (Closes w client (hub, seat) (to, None)) (Close client) (gave.Close closed) old new x y (λ hs one. one) course
    (λ d e es agrees one. subst (λ (b : Bool). ClosesIf b w client (hub, seat) (to, None) (moment d old.session) (Close client ∷ []) es (moment e new.session)) (sym (over d agrees)) (refl, refl, hangs))
    (λ d e agrees. line d agrees)

and-false : (b : Bool) → (b && false) ≡ false
and-false true = refl
and-false false = refl

-- a client that didn't end isn't closed
pub not-ended : {C : Type 0} (client : ℕ) (fed : Fed) (seat : Option (Seat C)) (v : SessionView) → ((cause : _) → fed ≡ Ended cause → ⊥)
    → ((d : Desktop) → Agrees v.desk d → fed ≡ status_of (peer_at client d)) → IsOver false client seat v
not-ended client Alive seat v lives is = λ d agrees. ap (λ (f : Fed). has_ended f && is_finished seat (unsent_of (peer_at client d))) (sym (is d agrees))
not-ended client NoClient seat v lives is = λ d agrees. ap (λ (f : Fed). has_ended f && is_finished seat (unsent_of (peer_at client d))) (sym (is d agrees))
not-ended client (Ended cause) seat v lives is = absurd (lives cause refl)

-- nor one for which bytes wait
pub not-finished : {C : Type 0} (client : ℕ) (finished : Bool) (seat : Option (Seat C)) (v : SessionView) → finished ≡ false
    → ((d : Desktop) → Agrees v.desk d → finished ≡ is_finished seat (unsent_of (peer_at client d))) → IsOver false client seat v
not-finished client finished seat v waits is = λ d agrees.
    ap (λ (b : Bool). has_ended (status_of (peer_at client d)) && b) (sym (is d agrees) ∙ waits) ∙ and-false (has_ended (status_of (peer_at client d)))

pub is-over : {C : Type 0} (client : ℕ) (fed : Fed) (cause : _) (finished : Bool) (seat : Option (Seat C)) (v : SessionView) → fed ≡ Ended cause
    → ((d : Desktop) → Agrees v.desk d → fed ≡ status_of (peer_at client d)) → finished ≡ true
    → ((d : Desktop) → Agrees v.desk d → finished ≡ is_finished seat (unsent_of (peer_at client d))) → IsOver true client seat v
is-over client fed cause finished seat v ended is done are = λ d agrees.
    ap (λ (f : Fed). has_ended f && is_finished seat (unsent_of (peer_at client d))) (sym (is d agrees) ∙ ended) ∙ (sym (are d agrees) ∙ done)

pub close-taken : {H C : Type 0} {Writer : Type 0} {contents : Writer → Option (List ℕ)} (w : Ways H C) (client : ℕ) (closed : Bool) (hub to : H) (seat taken next : Option (Seat C)) (old new : RecordedView Writer) (x y : Option (List ℕ))
    → taken ≡ seat → next ≡ None → IsOver true client seat old.session → Hangs w (hub, taken) to → TakesNoted contents (Close client) (gave.Close closed) old new
    → ((d : Desktop) → Agrees old.session.desk d → Appends x y (ended_line client (status_of (peer_at client d))))
    → Reports contents (Closes w client (hub, seat) (to, next)) old new x y
close-taken {H} {C} {Writer} {contents} w client closed hub to seat taken next old new x y same none over hangs course line =
    let hung : Hangs w (hub, seat) to = subst (λ (s : Option (Seat C)). Hangs w (hub, s) to) same hangs in
    subst (λ (s : Option (Seat C)). Reports contents (Closes w client (hub, seat) (to, s)) old new x y) (sym none)
    (close-one w client closed hub to seat old new x y over hung course line)

at-seat-told : {H C : Type 0} {Writer : Type 0} {contents : Writer → Option (List ℕ)} (Own : ℕ → Place H C → Place H C → Stretch) (k : ℕ) (hub to : H) (seats : List (Option (Seat C))) (seat next : Option (Seat C)) (old new : RecordedView Writer)
    (x y : Option (List ℕ)) → seat ≡ get_or seats k None → Reports contents (Own (k + 1) (hub, seat) (to, next)) old new x y
    → Reports contents (AtSeat Own (k + 1) (hub, seats) (to, set seats k next)) old new x y
at-seat-told {H} {C} Own k hub to seats seat next old new x y is takes =
    let here : seat ≡ seat_of (k + 1) seats = is ∙ ap (λ (j : ℕ). get_or seats j None) (same-place k) in
    Reports-weaker (Own (k + 1) (hub, seat) (to, next)) (AtSeat Own (k + 1) (hub, seats) (to, set seats k next)) old new x y takes
    (λ d e a es ad ae runs p. (
      next,
      subst (λ (s : Option (Seat C)). Own (k + 1) (hub, s) (to, next) (moment d old.session) a es (moment e new.session)) here p,
      ap (λ (j : ℕ). set seats j next) (same-place k),
    ))

pub close-next : {H C : Type 0} {Writer : Type 0} {contents : Writer → Option (List ℕ)} (w : Ways H C) (k : ℕ) (first hub to : H) (begun seats : List (Option (Seat C))) (seat next : Option (Seat C)) (old mid new : RecordedView Writer) (x y z : Option (List ℕ))
    → seat ≡ get_or seats k None → Reports contents (InTurn (AtSeat (Closes w)) k (first, begun) (hub, seats)) old mid x y → Reports contents (Closes w (k + 1) (hub, seat) (to, next)) mid new y z
    → Reports contents (InTurn (AtSeat (Closes w)) (k + 1) (first, begun) (to, set seats k next)) old new x z
close-next w k first hub to begun seats seat next old mid new x y z is before own =
    Reports-turn (AtSeat (Closes w)) k (first, begun) (hub, seats) (to, set seats k next) old mid new x y z before (at-seat-told (Closes w) k hub to seats seat next mid new y z is own)

-- a client that wasn't closed, since the report couldn't be written, has what it had
pub close-kept : {H C : Type 0} {Writer : Type 0} {contents : Writer → Option (List ℕ)} (w : Ways H C) (k : ℕ) (first hub to : H) (begun seats : List (Option (Seat C))) (seat next : Option (Seat C)) (old mid new : RecordedView Writer) (x y : Option (List ℕ))
    → seat ≡ get_or seats k None → new ≡ mid → to ≡ hub → next ≡ seat → Reports contents (InTurn (AtSeat (Closes w)) k (first, begun) (hub, seats)) old mid x y
    → Takes contents (InTurn (AtSeat (Closes w)) k (first, begun) (to, set seats k next)) old new
close-kept {H} {C} {Writer} {contents} w k first hub to begun seats seat next old mid new x y is stays same kept before =
    let whole : set seats k next ≡ seats = ap (λ (s : Option (Seat C)). set seats k s) (kept ∙ is) ∙ set-get_or seats k None in
    let there = Takes-told (InTurn (AtSeat (Closes w)) k (first, begun) (hub, seats)) old mid x y before in
    let at_hub = subst (λ (h : H). Takes contents (InTurn (AtSeat (Closes w)) k (first, begun) (h, seats)) old mid) (sym same) there in
    let at_seats = subst (λ (s : List (Option (Seat C))). Takes contents (InTurn (AtSeat (Closes w)) k (first, begun) (to, s)) old mid) (sym whole) at_hub in
    subst (λ (v : RecordedView Writer). Takes contents (InTurn (AtSeat (Closes w)) k (first, begun) (to, set seats k next)) old v) (sym stays) at_seats

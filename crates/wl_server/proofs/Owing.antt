-- Clients share the server's time.
use Rattle.std.proofs.Common.{◌≡◌, ◌<◌, ◌≤◌, ◌+◌, ◌*◌, ◌-◌, ℕ, Bool, true, false, List, [], Option, Some, None, refl, ap, sym, subst, arith}
use Rattle.wl_recording.specs.Side.{Files}
use Rattle.wl_recording.specs.declared.pointer.PointerLine.{PointerLine}
use Rattle.wl_session.specs.Course.{moment}
use Rattle.wl_server.specs.declared.seat.Seat.{Seat}
use Rattle.wl_server.specs.Acting.{InTurn, Takes, Then}
use Rattle.wl_server.specs.Recorded.{RecordedView}
use Rattle.wl_server.specs.Phases.{Accepting, AcceptsAll, AtSeat, FillsSeat, Link, Place, ReadsUntil}
use Rattle.wl_server.specs.Seats.{Seated}
use Rattle.wl_server.specs.Sharing.{AreCharged, Both, FillsShared, IsShareOver, NobodyIsPassedOver, OnHub, OnSide, PassedOver, ReadsShare, ReadsShared, ReadsUnless, SharesIn, SharesSeat, Sharing, owes, passed_over}
use Rattle.wl_server.specs.Telling.{Reports}
use Rattle.wl_server.specs.Ways.{Serving, Ways, serving}
use Rattle.wl_server.proofs.Passing.{then-pass}
use Rattle.wl_server.proofs.Taking.{Takes-both, Takes-none, Takes-weaker}
use Rattle.wl_server.proofs.Telling.{PassesAll, Reports-weaker, accepts-pass, at-seat-pass, both-pass, fills-seat-pass, has_no_line, has_no_picture, if-seated-pass, in-turn-pass, none-pass, reads-pass, unseen}
use Rattle.wl_server.proofs.Turning.{Reports-both, Reports-quiet}

-- ---- a client is read

-- who owes more than it is paid isn't
pub passes : {H C : Type 0} {Writer : Type 0} {contents : Writer → Option (List ℕ)} (w : Ways H C) (paid client debt : ℕ) (hub : H) (seat : Seat C) (v : RecordedView Writer) → owes paid seat ≡ true → debt ≡ seat.debt - paid
    → Takes contents (ReadsShare w paid client (hub, seat) (hub, record seat { has_sent = false; debt = debt })) v v
passes {H} {C} w paid client debt hub seat v more is =
    let to : Link H C = (hub, record seat { has_sent = false; debt = debt }) in
    Takes-none (ReadsShare w paid client (hub, seat) to) v v refl
    (λ d agrees. subst (λ (b : Bool). ReadsUnless b w paid client (hub, seat) to (moment d v.session) [] [] (moment d v.session)) (sym more)
    ((refl, refl, refl), ap (λ (n : ℕ). (hub, record seat { has_sent = false; debt = n })) is))

pub reads-on : {H C : Type 0} {Writer : Type 0} {contents : Writer → Option (List ℕ)} (w : Ways H C) (paid client : ℕ) (hub : H) (seat : Seat C) (to : Link H C) (old new : RecordedView Writer) → owes paid seat ≡ false
    → Takes contents (ReadsUntil IsShareOver w client (hub, record seat { debt = 0 }) to) old new → Takes contents (ReadsShare w paid client (hub, seat) to) old new
reads-on w paid client hub seat to old new enough takes =
    Takes-weaker (ReadsUntil IsShareOver w client (hub, record seat { debt = 0 }) to) (ReadsShare w paid client (hub, seat) to) old new takes
    (λ d e a es ad ae runs p. subst (λ (b : Bool). ReadsUnless b w paid client (hub, seat) to (moment d old.session) a es (moment e new.session)) (sym enough) p)

-- ---- it is read, and its stores get their side files

pub shares-seat : {H C S : Type 0} {Writer : Type 0} {contents : Writer → Option (List ℕ)} (w : Ways H C) (files : Files S) (paid client : ℕ) (h0 h1 : H) (f0 f1 : S) (s0 s1 s2 : Option (Seat C)) (v0 v1 v2 : RecordedView Writer)
    → Takes contents (ReadsShared w paid client (h0, s0) (h1, s1)) v0 v1 → Takes contents (FillsSeat files client s1 f0 f1) v1 v2 → AreCharged s1 s2
    → Takes contents (SharesSeat w files paid client ((h0, f0), s0) ((h1, f1), s2)) v0 v2
shares-seat {H} {C} {S} w files paid client h0 h1 f0 f1 s0 s1 s2 v0 v1 v2 reads fills charged =
    let from : Both H C S = ((h0, f0), s0) in
    let mid : Both H C S = ((h1, f0), s1) in
    let to : Both H C S = ((h1, f1), s2) in
    Takes-both (OnHub (ReadsShared w paid client)) (OnSide (FillsShared files client)) from mid to v0 v1 v2
    (Takes-weaker (ReadsShared w paid client (h0, s0) (h1, s1)) (OnHub (ReadsShared w paid client) from mid) v0 v1 reads (λ d e a es ad ae runs p. (p, refl)))
    (Takes-weaker (FillsSeat files client s1 f0 f1) (OnSide (FillsShared files client) mid to) v1 v2 fills (λ d e a es ad ae runs p. ((p, charged), refl)))

-- ---- nothing is told of it

unless-pass : {H C : Type 0} (b : Bool) (w : Ways H C) (paid client : ℕ) (from to : Link H C) → PassesAll has_no_line (ReadsUnless b w paid client from to)
unless-pass true w paid client from to start end acts events p = none-pass has_no_line acts p.0.0
unless-pass false w paid client from to start end acts events p = reads-pass IsShareOver w client (from.0, record from.1 { debt = 0 }) to start end acts events p

share-pass : {H C : Type 0} (w : Ways H C) (paid client : ℕ) (from to : Link H C) → PassesAll has_no_line (ReadsShare w paid client from to)
share-pass w paid client from to start end acts events p = unless-pass (owes paid from.1) w paid client from to start end acts events p

shared-pass : {H C : Type 0} (w : Ways H C) (paid client : ℕ) (from to : Place H C) → PassesAll has_no_line (ReadsShared w paid client from to)
shared-pass w paid client from to start end acts events p = if-seated-pass has_no_line (ReadsShare w paid client) (share-pass w paid client) from to start end acts events p

seat-pass : {H C S : Type 0} (w : Ways H C) (files : Files S) (paid client : ℕ) (from to : Both H C S) → PassesAll has_no_line (SharesSeat w files paid client from to)
seat-pass w files paid client =
    then-pass has_no_line (OnHub (ReadsShared w paid client)) (OnSide (FillsShared files client))
    (λ a b start end acts events p. shared-pass w paid client (a.0.0, a.1) (b.0.0, b.1) start end acts events p.0)
    (λ a b start end acts events p. fills-seat-pass files client a.1 a.0.1 b.0.1 start end acts events p.0.0)

all-shares-pass : {H C S : Type 0} (w : Ways H C) (files : Files S) (paid n : ℕ) (from to : (H × S) × List (Option (Seat C))) → PassesAll has_no_line (InTurn (AtSeat (SharesSeat w files paid)) n from to)
all-shares-pass w files paid n from to =
    in-turn-pass has_no_line (AtSeat (SharesSeat w files paid)) (at-seat-pass has_no_line (SharesSeat w files paid) (seat-pass w files paid)) n from to

-- no frame is shown meanwhile
pub shares-in-pass : {H C S : Type 0} (w : Ways H C) (files : Files S) (from to : Serving H C S) → PassesAll has_no_picture (SharesIn w files from to)
shares-in-pass w files from to start end acts events p =
    both-pass has_no_picture acts p.first p.next p.acts_are (accepts-pass w _ _ start p.moment p.first p.early p.does.0)
    (unseen _ (all-shares-pass w files p.follows.0 32 _ _) p.moment end p.next p.late p.follows.2)

-- ---- the clients are taken in

at : {H C S : Type 0} → H → ℕ → List (Option (Seat C)) → S → List PointerLine → Serving H C S
at hub accepted seats side lines = serving hub (record { accepted = accepted; seats = seats }) side lines

pub shared-in : {H C S : Type 0} {Writer : Type 0} {contents : Writer → Option (List ℕ)} (w : Ways H C) (files : Files S) (paid : ℕ) (h0 h1 h2 : H) (a0 a1 : ℕ) (s0 s1 s2 : List (Option (Seat C))) (f0 f1 : S) (lines : List PointerLine)
    (v0 v1 v2 : RecordedView Writer) (x y : Option (List ℕ)) → 50000 ≤ paid
    → Reports contents (AcceptsAll w (h0, record { accepted = a0; seats = s0 }) (h1, record { accepted = a1; seats = s1 })) v0 v1 x y
    → Takes contents (InTurn (AtSeat (SharesSeat w files paid)) 32 ((h1, f0), s1) ((h2, f1), s2)) v1 v2
    → Reports contents (SharesIn w files (serving h0 (record { accepted = a0; seats = s0 }) f0 lines) (serving h2 (record { accepted = a1; seats = s2 }) f1 lines)) v0 v2 x y
unfolding at
shared-in w files paid h0 h1 h2 a0 a1 s0 s1 s2 f0 f1 lines v0 v1 v2 x y least accepts shares =
    let m0 = at h0 a0 s0 f0 lines in
    let m1 = at h1 a1 s1 f0 lines in
    let m2 = at h2 a1 s2 f1 lines in
    let told = Reports-quiet (InTurn (AtSeat (SharesSeat w files paid)) 32 ((h1, f0), s1) ((h2, f1), s2)) v1 v2 y (all-shares-pass w files paid 32 _ _) shares in
    let accepting = Reports-weaker (AcceptsAll w (h0, record { accepted = a0; seats = s0 }) (h1, record { accepted = a1; seats = s1 })) (Accepting w m0 m1) v0 v1 x y
    accepts (λ d e a es ad ae runs p. (p, refl, refl)) in
    let sharing = Reports-weaker (InTurn (AtSeat (SharesSeat w files paid)) 32 ((h1, f0), s1) ((h2, f1), s2)) (Sharing w files m1 m2) v1 v2 y y told
    (λ d e a es ad ae runs p. (paid, least, p, refl, refl)) in
    Reports-both (Accepting w) (Sharing w files) m0 m1 m2 v0 v1 v2 x y y accepting sharing

-- ---- nobody is passed over for ever

-- what is left of a debt that was passed over so many times
owed-left : (from n to : ℕ) → PassedOver from n to → n * 50000 + to ≤ from
owed-left from _ _ PassedOver.none = omega arith
owed-left from _ _ (PassedOver.more {n} {debt} paid before least less) =
    let left = owed-left from n debt before in omega (arith, left, least, less)

pub passed-few : NobodyIsPassedOver
passed-few from _ _ most PassedOver.none = omega arith
passed-few from _ _ most (PassedOver.more {n} {debt} paid before least less) =
    let left = owed-left from n debt before in omega (arith, most, left, least, less)

-- A turn, joined of its phases.
use Rattle.std.proofs.Common.{◌≤◌, ℕ, Option, List, None, Result, Ok, Err, refl, inl, inr, arith}
use Rattle.std.specs.Prelude.{OnErr, OnOk}
use Rattle.wl_recording.specs.Side.{Files}
use Rattle.wl_recording.specs.declared.pointer.PointerLine.{PointerLine}
use Rattle.wl_session.specs.Course.{moment}
use Rattle.wl_server.specs.declared.seat.Seat.{Seat}
use Rattle.wl_server.specs.Acting.{InTurn, Stretch, Takes, Then}
use Rattle.wl_server.specs.Recorded.{RecordedView}
use Rattle.wl_server.specs.Due.{due_at, left_at}
use Rattle.wl_server.specs.Phases.{Accepting, AcceptsAll, AtSeat, BeginsAccepting, Closes, Fills, Filling, ForEach, FromFrame, Intake, IsTurnBy}
use Rattle.wl_server.specs.Phases.{Pointing, Points, Reads, Serves, Showing, Shows, StartsIn, StartsServing, StartsTurnBy, TakesIn, UpToFrame, Writes}
use Rattle.wl_server.specs.Seats.{Seated}
use Rattle.wl_server.specs.ShortTurns.{ServesBetween, StartsBetween}
use Rattle.wl_server.specs.Telling.{Reports, Tells}
use Rattle.wl_server.specs.Ways.{Serving, Ways, serving}
use Rattle.wl_server.proofs.Taking.{Takes-both, Takes-weaker, both}
use Rattle.wl_server.proofs.Telling.{PassesAll, Reports-then, Reports-weaker, Takes-told, Tells-quiet, Tells-then, Tells-unseen, Tells-weaker, accepts-pass, all-closes-pass, all-fills-pass, all-reads-pass, all-writes-pass, both-pass, has_no_line, has_no_picture, points-pass, unseen}

-- ---- phases of all that the server works on

at : {H C S : Type 0} → H → ℕ → List (Option (Seat C)) → S → List PointerLine → Serving H C S
at hub accepted seats side lines = serving hub (record { accepted = accepted; seats = seats }) side lines

pub Tells-both : {W : Type 0} {Writer : Type 0} {contents : Writer → Option (List ℕ)} (P Q : W → W → Stretch) (from between to : W) (old mid new : RecordedView Writer) (x y z i j k : Option (List ℕ)) → Tells contents (P from between) old mid x y i j
    → Tells contents (Q between to) mid new y z j k → Tells contents (Then P Q from to) old new x z i k
Tells-both P Q from between to old mid new x y z i j k first next =
    Tells-then (P from between) (Q between to) (Then P Q from to) old mid new x y z i j k first next
    (λ start d e a b es fs ad ae leads goes p q. both P Q from between to start (moment d mid.session) (moment e new.session) a b es fs leads goes p q)

pub Reports-both : {W : Type 0} {Writer : Type 0} {contents : Writer → Option (List ℕ)} (P Q : W → W → Stretch) (from between to : W) (old mid new : RecordedView Writer) (x y z : Option (List ℕ)) → Reports contents (P from between) old mid x y
    → Reports contents (Q between to) mid new y z → Reports contents (Then P Q from to) old new x z
Reports-both P Q from between to old mid new x y z first next =
    Reports-then (P from between) (Q between to) (Then P Q from to) old mid new x y z first next
    (λ start d e a b es fs ad ae leads goes p q. both P Q from between to start (moment d mid.session) (moment e new.session) a b es fs leads goes p q)

-- nothing is told on the report
pub Reports-quiet : {Writer : Type 0} {contents : Writer → Option (List ℕ)} (P : Stretch) (old new : RecordedView Writer) (report : Option (List ℕ)) → PassesAll has_no_line P → Takes contents P old new → Reports contents P old new report report
Reports-quiet P old new report pass takes = λ d agrees.
    let a = Tells-quiet P old new report None pass takes d agrees in (a.0, a.1, a.2, a.3.0)

-- ---- the clients are taken in

pub read-filled : {H C S : Type 0} {Writer : Type 0} {contents : Writer → Option (List ℕ)} (w : Ways H C) (files : Files S) (h0 h1 : H) (a0 : ℕ) (s0 s1 : List (Option (Seat C))) (f0 f1 : S) (lines : List PointerLine) (v0 v1 v2 : RecordedView Writer)
    → Takes contents (InTurn (AtSeat (Reads w)) 32 (h0, s0) (h1, s1)) v0 v1 → Takes contents (InTurn (Fills files s1) 32 f0 f1) v1 v2
    → Takes contents (Then (ForEach (Reads w) 32) (Filling files) (serving h0 (record { accepted = a0; seats = s0 }) f0 lines) (serving h1 (record { accepted = a0; seats = s1 }) f1 lines)) v0 v2
unfolding at
read-filled w files h0 h1 a0 s0 s1 f0 f1 lines v0 v1 v2 reads fills =
    let m0 = at h0 a0 s0 f0 lines in
    let m1 = at h1 a0 s1 f0 lines in
    let m2 = at h1 a0 s1 f1 lines in
    let reading = Takes-weaker (InTurn (AtSeat (Reads w)) 32 (h0, s0) (h1, s1)) (ForEach (Reads w) 32 m0 m1) v0 v1 reads (λ d e a es ad ae runs p. (p, refl, refl, refl)) in
    let filling = Takes-weaker (InTurn (Fills files s1) 32 f0 f1) (Filling files m1 m2) v1 v2 fills (λ d e a es ad ae runs p. (p, refl)) in
    Takes-both (ForEach (Reads w) 32) (Filling files) m0 m1 m2 v0 v1 v2 reading filling

read-filled-pass : {H C S : Type 0} (w : Ways H C) (files : Files S) (from to : Serving H C S) → PassesAll has_no_line (Then (ForEach (Reads w) 32) (Filling files) from to)
read-filled-pass w files from to start end acts events p =
    both-pass has_no_line acts p.first p.next p.acts_are (all-reads-pass w 32 _ _ start p.moment p.first p.early p.does.0)
    (all-fills-pass files _ 32 _ _ p.moment end p.next p.late p.follows.0)

pub taken-in : {H C S : Type 0} {Writer : Type 0} {contents : Writer → Option (List ℕ)} (w : Ways H C) (files : Files S) (h0 h1 h2 : H) (a0 a1 : ℕ) (s0 s1 s2 : List (Option (Seat C))) (f0 f1 : S) (lines : List PointerLine)
    (v0 v1 v2 : RecordedView Writer) (x y : Option (List ℕ))
    → Reports contents (AcceptsAll w (h0, record { accepted = a0; seats = s0 }) (h1, record { accepted = a1; seats = s1 })) v0 v1 x y
    → Takes contents (Then (ForEach (Reads w) 32) (Filling files) (serving h1 (record { accepted = a1; seats = s1 }) f0 lines) (serving h2 (record { accepted = a1; seats = s2 }) f1 lines)) v1 v2
    → Reports contents (TakesIn w files (serving h0 (record { accepted = a0; seats = s0 }) f0 lines) (serving h2 (record { accepted = a1; seats = s2 }) f1 lines)) v0 v2 x y
unfolding at
taken-in w files h0 h1 h2 a0 a1 s0 s1 s2 f0 f1 lines v0 v1 v2 x y accepts takes =
    let m0 = at h0 a0 s0 f0 lines in
    let m1 = at h1 a1 s1 f0 lines in
    let m2 = at h2 a1 s2 f1 lines in
    let accepting = Reports-weaker (AcceptsAll w (h0, record { accepted = a0; seats = s0 }) (h1, record { accepted = a1; seats = s1 })) (Accepting w m0 m1) v0 v1 x y
    accepts (λ d e a es ad ae runs p. (p, refl, refl)) in
    let told = Reports-quiet (Then (ForEach (Reads w) 32) (Filling files) m1 m2) v1 v2 y (read-filled-pass w files m1 m2) takes in
    Reports-both (Accepting w) (Then (ForEach (Reads w) 32) (Filling files)) m0 m1 m2 v0 v1 v2 x y y accepting told

pub begun-in : {H C S : Type 0} {Writer : Type 0} {contents : Writer → Option (List ℕ)} (w : Ways H C) (h0 h1 : H) (a0 a1 : ℕ) (s0 s1 : List (Option (Seat C))) (f0 : S) (lines : List PointerLine) (v0 v1 : RecordedView Writer)
    → Takes contents (BeginsAccepting w (h0, record { accepted = a0; seats = s0 }) (h1, record { accepted = a1; seats = s1 })) v0 v1
    → Takes contents (StartsIn w (serving h0 (record { accepted = a0; seats = s0 }) f0 lines) (serving h1 (record { accepted = a1; seats = s1 }) f0 lines)) v0 v1
unfolding at
begun-in w h0 h1 a0 a1 s0 s1 f0 lines v0 v1 takes =
    Takes-weaker (BeginsAccepting w (h0, record { accepted = a0; seats = s0 }) (h1, record { accepted = a1; seats = s1 })) (StartsIn w (at h0 a0 s0 f0 lines) (at h1 a1 s1 f0 lines)) v0 v1
    takes (λ d e a es ad ae runs p. (p, refl, refl))

-- no frame is shown meanwhile
pub takes-in-pass : {H C S : Type 0} (w : Ways H C) (files : Files S) (from to : Serving H C S) → PassesAll has_no_picture (TakesIn w files from to)
takes-in-pass w files from to start end acts events p =
    let rest = p.follows in
    both-pass has_no_picture acts p.first p.next p.acts_are (accepts-pass w _ _ start p.moment p.first p.early p.does.0)
    (both-pass has_no_picture p.next rest.first rest.next rest.acts_are
    (unseen _ (all-reads-pass w 32 _ _) p.moment rest.moment rest.first rest.early rest.does.0)
    (unseen _ (all-fills-pass files _ 32 _ _) rest.moment end rest.next rest.late rest.follows.0))

-- ---- what waits for them goes out

pub given-out : {H C S : Type 0} {Writer : Type 0} {contents : Writer → Option (List ℕ)} (w : Ways H C) (n : ℕ) (h0 h1 h2 : H) (a0 : ℕ) (s0 s1 s2 : List (Option (Seat C))) (f0 : S) (lines : List PointerLine)
    (v0 v1 v2 : RecordedView Writer)
    → Takes contents (InTurn (AtSeat (Writes w)) 32 (h0, s0) (h1, s1)) v0 v1 → Takes contents (InTurn (AtSeat (Closes w)) n (h1, s1) (h2, s2)) v1 v2
    → Takes contents (FromFrame w n (serving h0 (record { accepted = a0; seats = s0 }) f0 lines) (serving h2 (record { accepted = a0; seats = s2 }) f0 lines)) v0 v2
unfolding at
given-out w n h0 h1 h2 a0 s0 s1 s2 f0 lines v0 v1 v2 writes closes =
    let m0 = at h0 a0 s0 f0 lines in
    let m1 = at h1 a0 s1 f0 lines in
    let m2 = at h2 a0 s2 f0 lines in
    let writing = Takes-weaker (InTurn (AtSeat (Writes w)) 32 (h0, s0) (h1, s1)) (ForEach (Writes w) 32 m0 m1) v0 v1 writes (λ d e a es ad ae runs p. (p, refl, refl, refl)) in
    let closing = Takes-weaker (InTurn (AtSeat (Closes w)) n (h1, s1) (h2, s2)) (ForEach (Closes w) n m1 m2) v1 v2 closes (λ d e a es ad ae runs p. (p, refl, refl, refl)) in
    Takes-both (ForEach (Writes w) 32) (ForEach (Closes w) n) m0 m1 m2 v0 v1 v2 writing closing

pub given-out-told : {H C S : Type 0} {Writer : Type 0} {contents : Writer → Option (List ℕ)} (w : Ways H C) (h0 h1 h2 : H) (a0 : ℕ) (s0 s1 s2 : List (Option (Seat C))) (f0 : S) (lines : List PointerLine)
    (v0 v1 v2 : RecordedView Writer) (x y : Option (List ℕ))
    → Takes contents (InTurn (AtSeat (Writes w)) 32 (h0, s0) (h1, s1)) v0 v1 → Reports contents (InTurn (AtSeat (Closes w)) 32 (h1, s1) (h2, s2)) v1 v2 x y
    → Reports contents (FromFrame w 32 (serving h0 (record { accepted = a0; seats = s0 }) f0 lines) (serving h2 (record { accepted = a0; seats = s2 }) f0 lines)) v0 v2 x y
unfolding at
given-out-told w h0 h1 h2 a0 s0 s1 s2 f0 lines v0 v1 v2 x y writes closes =
    let m0 = at h0 a0 s0 f0 lines in
    let m1 = at h1 a0 s1 f0 lines in
    let m2 = at h2 a0 s2 f0 lines in
    let told_written = Reports-quiet (InTurn (AtSeat (Writes w)) 32 (h0, s0) (h1, s1)) v0 v1 x (all-writes-pass w 32 _ _) writes in
    let writing = Reports-weaker (InTurn (AtSeat (Writes w)) 32 (h0, s0) (h1, s1)) (ForEach (Writes w) 32 m0 m1) v0 v1 x x told_written (λ d e a es ad ae runs p. (p, refl, refl, refl)) in
    let closing = Reports-weaker (InTurn (AtSeat (Closes w)) 32 (h1, s1) (h2, s2)) (ForEach (Closes w) 32 m1 m2) v1 v2 x y closes (λ d e a es ad ae runs p. (p, refl, refl, refl)) in
    Reports-both (ForEach (Writes w) 32) (ForEach (Closes w) 32) m0 m1 m2 v0 v1 v2 x x y writing closing

-- no frame is shown meanwhile
pub from-frame-pass : {H C S : Type 0} (w : Ways H C) (n : ℕ) (from to : Serving H C S) → PassesAll has_no_picture (FromFrame w n from to)
from-frame-pass w n from to start end acts events p =
    both-pass has_no_picture acts p.first p.next p.acts_are
    (unseen _ (all-writes-pass w 32 _ _) start p.moment p.first p.early p.does.0)
    (all-closes-pass w n _ _ p.moment end p.next p.late p.follows.0)

-- how far that came, told of or not
pub gives-begun : {T E H C S : Type 0} {Writer : Type 0} {contents : Writer → Option (List ℕ)} (w : Ways H C) (r : Result T E) (from to : Serving H C S) (old new : RecordedView Writer) (x y : Option (List ℕ))
    → OnOk r (Reports contents (FromFrame w 32 from to) old new x y) → OnErr r ((n : ℕ) × (n ≤ 32) × Takes contents (FromFrame w n from to) old new)
    → (n : ℕ) × (n ≤ 32) × Takes contents (FromFrame w n from to) old new
gives-begun w (Ok x) from to old new _ _ told begun = (32, omega arith, Takes-told (FromFrame w 32 from to) old new _ _ told)
gives-begun w (Err e) from to old new _ _ told begun = begun

-- ---- the clients are served, with a frame

pub shown-to : {H C S : Type 0} {Writer : Type 0} {contents : Writer → Option (List ℕ)} (In : Intake H C S) (time : ℕ) (from mid : Serving H C S) (v0 v1 v2 : RecordedView Writer)
    → Takes contents (In from mid) v0 v1 → Takes contents (Shows time) v1 v2 → Takes contents (UpToFrame In time from mid) v0 v2
shown-to In time from mid v0 v1 v2 takes shows =
    Takes-both In (Showing time) from mid mid v0 v1 v2 takes (Takes-weaker (Shows time) (Showing time mid mid) v1 v2 shows (λ d e a es ad ae runs p. (p, refl)))

pub served-told : {H C S : Type 0} {Writer : Type 0} {contents : Writer → Option (List ℕ)} (In : Intake H C S) (w : Ways H C) (time : ℕ) (from mid to : Serving H C S) (v0 v1 v2 v3 : RecordedView Writer) (x y z u i j : Option (List ℕ))
    → PassesAll has_no_picture (In from mid) → Reports contents (In from mid) v0 v1 x y → Tells contents (Shows time) v1 v2 y z i j → Reports contents (FromFrame w 32 mid to) v2 v3 z u
    → Tells contents (Serves In w time 32 from to) v0 v3 x u i j
served-told In w time from mid to v0 v1 v2 v3 x y z u i j pass takes shows gives =
    let taking = Tells-unseen (In from mid) v0 v1 x y i pass takes in
    let showing = Tells-weaker (Shows time) (Showing time mid mid) v1 v2 y z i j shows (λ d e a es ad ae runs p. (p, refl)) in
    let giving = Tells-unseen (FromFrame w 32 mid to) v2 v3 z u j (from-frame-pass w 32 mid to) gives in
    Tells-both (UpToFrame In time) (FromFrame w 32) from mid to v0 v2 v3 x z u i j j (Tells-both In (Showing time) from mid mid v0 v1 v2 x y z i i j taking showing) giving

-- ---- the clients begin to be served so

pub begun-early : {H C S : Type 0} {Writer : Type 0} {contents : Writer → Option (List ℕ)} (In : Intake H C S) (w : Ways H C) (time : ℕ) (from to : Serving H C S) (v0 v1 : RecordedView Writer)
    → Takes contents (StartsIn w from to) v0 v1 → Takes contents (StartsServing In w time from to) v0 v1
begun-early In w time from to v0 v1 takes =
    Takes-weaker (StartsIn w from to) (StartsServing In w time from to) v0 v1 takes (λ d e a es ad ae runs p. inl p)

pub begun-frame : {H C S : Type 0} {Writer : Type 0} {contents : Writer → Option (List ℕ)} (In : Intake H C S) (w : Ways H C) (time : ℕ) (from to : Serving H C S) (v0 v1 : RecordedView Writer)
    → Takes contents (UpToFrame In time from to) v0 v1 → Takes contents (StartsServing In w time from to) v0 v1
begun-frame In w time from to v0 v1 takes =
    Takes-weaker (UpToFrame In time from to) (StartsServing In w time from to) v0 v1 takes (λ d e a es ad ae runs p. inr (inl p))

pub begun-closing : {H C S : Type 0} {Writer : Type 0} {contents : Writer → Option (List ℕ)} (In : Intake H C S) (w : Ways H C) (time n : ℕ) (from mid to : Serving H C S) (v0 v1 v2 : RecordedView Writer) → n ≤ 32
    → Takes contents (UpToFrame In time from mid) v0 v1 → Takes contents (FromFrame w n mid to) v1 v2 → Takes contents (StartsServing In w time from to) v0 v2
begun-closing In w time n from mid to v0 v1 v2 within shown gives =
    Takes-weaker (Serves In w time n from to) (StartsServing In w time from to) v0 v2 (Takes-both (UpToFrame In time) (FromFrame w n) from mid to v0 v1 v2 shown gives)
    (λ d e a es ad ae runs p. inr (inr (n, within, p)))

pub between-early : {H C S : Type 0} {Writer : Type 0} {contents : Writer → Option (List ℕ)} (In : Intake H C S) (w : Ways H C) (from to : Serving H C S) (v0 v1 : RecordedView Writer)
    → Takes contents (StartsIn w from to) v0 v1 → Takes contents (StartsBetween In w from to) v0 v1
between-early In w from to v0 v1 takes = Takes-weaker (StartsIn w from to) (StartsBetween In w from to) v0 v1 takes (λ d e a es ad ae runs p. inl p)

pub between-begun : {H C S : Type 0} {Writer : Type 0} {contents : Writer → Option (List ℕ)} (In : Intake H C S) (w : Ways H C) (from mid to : Serving H C S) (v0 v1 v2 : RecordedView Writer)
    → Takes contents (In from mid) v0 v1 → (n : ℕ) × (n ≤ 32) × Takes contents (FromFrame w n mid to) v1 v2 → Takes contents (StartsBetween In w from to) v0 v2
between-begun In w from mid to v0 v1 v2 takes (n, within, gives) =
    Takes-weaker (ServesBetween In w n from to) (StartsBetween In w from to) v0 v2 (Takes-both In (FromFrame w n) from mid to v0 v1 v2 takes gives)
    (λ d e a es ad ae runs p. inr (n, within, p))

-- ---- first the pointer goes where it is to

pub turn-begun : {H C S : Type 0} {Writer : Type 0} {contents : Writer → Option (List ℕ)} (In : Intake H C S) (w : Ways H C) (time : ℕ) (hub : H) (seated : Seated (Seat C)) (side : S) (lines : List PointerLine) (to : Serving H C S) (v0 v1 v2 : RecordedView Writer)
    → Takes contents (Points (due_at time lines)) v0 v1 → Takes contents (StartsServing In w time (serving hub seated side (left_at time lines)) to) v1 v2
    → Takes contents (StartsTurnBy In w time (serving hub seated side lines) to) v0 v2
turn-begun In w time hub seated side lines to v0 v1 v2 points starts =
    let from = serving hub seated side lines in
    let mid = serving hub seated side (left_at time lines) in
    let pointing = Takes-weaker (Points (due_at time lines)) (Pointing time from mid) v0 v1 points (λ d e a es ad ae runs p. (p, refl)) in
    Takes-both (Pointing time) (StartsServing In w time) from mid to v0 v1 v2 pointing starts

pub turn-told : {H C S : Type 0} {Writer : Type 0} {contents : Writer → Option (List ℕ)} (In : Intake H C S) (w : Ways H C) (time : ℕ) (hub : H) (seated : Seated (Seat C)) (side : S) (lines : List PointerLine) (to : Serving H C S) (v0 v1 v2 : RecordedView Writer)
    (x y i j : Option (List ℕ)) → Takes contents (Points (due_at time lines)) v0 v1 → Tells contents (Serves In w time 32 (serving hub seated side (left_at time lines)) to) v1 v2 x y i j
    → Tells contents (IsTurnBy In w time (serving hub seated side lines) to) v0 v2 x y i j
turn-told In w time hub seated side lines to v0 v1 v2 x y i j points serves =
    let from = serving hub seated side lines in
    let mid = serving hub seated side (left_at time lines) in
    let told_points = Tells-quiet (Points (due_at time lines)) v0 v1 x i (points-pass (due_at time lines)) points in
    let pointing = Tells-weaker (Points (due_at time lines)) (Pointing time from mid) v0 v1 x x i i told_points (λ d e a es ad ae runs p. (p, refl)) in
    Tells-both (Pointing time) (Serves In w time 32) from mid to v0 v1 v2 x x y i i j pointing serves

-- A turn with a viewer, joined of its phases.
use Rattle.std.proofs.Common.{ℕ, Bool, Option, List, refl}
use Rattle.wl_recording.specs.declared.pointer.PointerLine.{PointerLine}
use Rattle.wl_session.specs.Course.{moment}
use Rattle.wl_viewer.specs.Telling.{Update}
use Rattle.wl_server.specs.declared.seat.Seat.{Seat}
use Rattle.wl_server.specs.Acting.{Takes, Then}
use Rattle.wl_server.specs.Recorded.{RecordedView}
use Rattle.wl_server.specs.Due.{due_at, left_at}
use Rattle.wl_server.specs.Phases.{FromFrame, Intake, Pointing, Points}
use Rattle.wl_server.specs.Seats.{Seated}
use Rattle.wl_server.specs.Telling.{Reports, Tells}
use Rattle.wl_server.specs.ShortTurns.{HearsBetween, IsShortViewedTurnBy, ServesBetween}
use Rattle.wl_server.specs.Viewed.{Hears, IsViewedTurnBy, OnPlace, OnServing, ServesViewed, TakesTurn, UpToViewed}
use Rattle.wl_server.specs.Watching.{Place, Shows, ShowsTo, TellsOf, Watching}
use Rattle.wl_server.specs.Ways.{Serving, Ways, serving}
use Rattle.wl_server.proofs.Passing.{hears-pass, tells-pass}
use Rattle.wl_server.proofs.Promise.{short-viewed, turn-viewed}
use Rattle.wl_server.proofs.Telling.{PassesAll, Tells-quiet, Tells-unseen, Tells-weaker, both-pass, has_no_picture, points-pass}
use Rattle.wl_server.proofs.Turning.{Tells-both, from-frame-pass}

-- up to the frame, and from it on
pub served-viewed : {H C S V D : Type 0} {Writer : Type 0} {contents : Writer → Option (List ℕ)} (In : Intake H C S) (w : Ways H C) (time : ℕ) (update : Option Update) (viewers : V) (p0 p1 : Option (Watching D)) (from mid to : Serving H C S)
    (v0 v1 v2 v3 : RecordedView Writer) (x y z u i j : Option (List ℕ))
    → PassesAll has_no_picture (In from mid) → Reports contents (In from mid) v0 v1 x y → Tells contents (Shows time update p0 p1) v1 v2 y z i j → Reports contents (FromFrame w 32 mid to) v2 v3 z u
    → Tells contents (ServesViewed In w time 32 update (from, (viewers, p0)) (to, (viewers, p1))) v0 v3 x u i j
served-viewed {H} {C} {S} {V} {D} In w time update viewers p0 p1 from mid to v0 v1 v2 v3 x y z u i j pass takes shows gives =
    let q0 : Place V D = (viewers, p0) in
    let q1 : Place V D = (viewers, p1) in
    let taking = Tells-weaker (In from mid) (OnServing In (from, q0) (mid, q0)) v0 v1 x y i i (Tells-unseen (In from mid) v0 v1 x y i pass takes) (λ d e a es ad ae runs p. (p, refl)) in
    let showing = Tells-weaker (Shows time update p0 p1) (OnPlace (ShowsTo time update) (mid, q0) (mid, q1)) v1 v2 y z i j shows (λ d e a es ad ae runs p. ((p, refl), refl)) in
    let giving = Tells-weaker (FromFrame w 32 mid to) (OnServing (FromFrame w 32) (mid, q1) (to, q1)) v2 v3 z u j j (Tells-unseen (FromFrame w 32 mid to) v2 v3 z u j (from-frame-pass w 32 mid to) gives) (λ d e a es ad ae runs p. (p, refl)) in
    Tells-both (UpToViewed In time update) (OnServing (FromFrame w 32)) (from, q0) (mid, q1) (to, q1) v0 v2 v3 x z u i j j
    (Tells-both (OnServing In) (OnPlace (ShowsTo time update)) (from, q0) (mid, q0) (mid, q1) v0 v1 v2 x y z i i j taking showing) giving

-- the whole turn
pub turn-told-viewed : {H C S V D : Type 0} {Writer : Type 0} {contents : Writer → Option (List ℕ)} (In : Intake H C S) (pass : (a b : Serving H C S) → PassesAll has_no_picture (In a b)) (w : Ways H C) (v : Ways V D) (time width height : ℕ) (is_new : Bool) (update : Option Update) (hub : H) (seated : Seated (Seat C)) (side : S) (lines : List PointerLine)
    (later : Serving H C S) (q0 q1 q2 q3 : Place V D) (v0 v1 v2 v3 v4 : RecordedView Writer) (x y i j : Option (List ℕ))
    → Takes contents (Points (due_at time lines)) v0 v1 → Takes contents (Hears v time width height is_new q0 q1) v1 v2
    → Tells contents (ServesViewed In w time 32 update (serving hub seated side (left_at time lines), q1) (later, q2)) v2 v3 x y i j
    → Takes contents (TellsOf v time q2 q3) v3 v4
    → Tells contents (IsViewedTurnBy In w v time width height (serving hub seated side lines, q0) (later, q3)) v0 v4 x y i j
turn-told-viewed {H} {C} {S} {V} {D} In pass w v time width height is_new update hub seated side lines later q0 q1 q2 q3 v0 v1 v2 v3 v4 x y i j points hears serves tells =
    let from : Serving H C S = serving hub seated side lines in
    let mid : Serving H C S = serving hub seated side (left_at time lines) in
    let told_points = Tells-quiet (Points (due_at time lines)) v0 v1 x i (points-pass (due_at time lines)) points in
    let told_heard = Tells-quiet (Hears v time width height is_new q0 q1) v1 v2 x i (hears-pass v time width height is_new q0 q1) hears in
    let told_last = Tells-quiet (TellsOf v time q2 q3) v3 v4 y j (tells-pass v time q2 q3) tells in
    let pointing = Tells-weaker (Points (due_at time lines)) (OnServing (Pointing time) (from, q0) (mid, q0)) v0 v1 x x i i told_points (λ d e a es ad ae runs p. ((p, refl), refl)) in
    let hearing = Tells-weaker (Hears v time width height is_new q0 q1) (OnPlace (Hears v time width height is_new) (mid, q0) (mid, q1)) v1 v2 x x i i told_heard (λ d e a es ad ae runs p. (p, refl)) in
    let telling = Tells-weaker (TellsOf v time q2 q3) (OnPlace (TellsOf v time) (later, q2) (later, q3)) v3 v4 y y j j told_last (λ d e a es ad ae runs p. (p, refl)) in
    let from_served = Tells-both (ServesViewed In w time 32 update) (OnPlace (TellsOf v time)) (mid, q1) (later, q2) (later, q3) v2 v3 v4 x y y i j j serves telling in
    let from_heard = Tells-both (OnPlace (Hears v time width height is_new)) (Then (ServesViewed In w time 32 update) (OnPlace (TellsOf v time))) (mid, q0) (mid, q1) (later, q3) v1 v2 v4 x x y i i j hearing from_served in
    let all = Tells-both (OnServing (Pointing time)) (Then (OnPlace (Hears v time width height is_new)) (Then (ServesViewed In w time 32 update) (OnPlace (TellsOf v time)))) (from, q0) (mid, q0) (later, q3) v0 v1 v4 x x y i i j pointing from_heard in
    Tells-weaker (TakesTurn In w v time width height is_new update (from, q0) (later, q3)) (IsViewedTurnBy In w v time width height (from, q0) (later, q3)) v0 v4 x y i j all
    (λ d e a es ad ae runs p. (is_new, update, p, turn-viewed In pass w v time width height is_new update (from, q0) (later, q3) (moment d v0.session) (moment e v4.session) a es p))

-- ---- short turns

pub between-pass : {H C S : Type 0} (In : Intake H C S) (pass : (a b : Serving H C S) → PassesAll has_no_picture (In a b)) (w : Ways H C) (from to : Serving H C S) → PassesAll has_no_picture (ServesBetween In w 32 from to)
between-pass In pass w from to start end acts events p =
    both-pass has_no_picture acts p.first p.next p.acts_are (pass from p.mid start p.moment p.first p.early p.does) (from-frame-pass w 32 p.mid to p.moment end p.next p.late p.follows)

pub short-told-viewed : {H C S V D : Type 0} {Writer : Type 0} {contents : Writer → Option (List ℕ)} (In : Intake H C S) (pass : (a b : Serving H C S) → PassesAll has_no_picture (In a b)) (w : Ways H C) (v : Ways V D) (time width height : ℕ) (is_new : Bool) (from to : Serving H C S) (q0 q1 : Place V D)
    (v0 v1 v2 : RecordedView Writer) (x y i : Option (List ℕ))
    → Takes contents (Hears v time width height is_new q0 q1) v0 v1 → Reports contents (ServesBetween In w 32 from to) v1 v2 x y
    → Tells contents (IsShortViewedTurnBy In w v time width height (from, q0) (to, q1)) v0 v2 x y i i
short-told-viewed {H} {C} {S} {V} {D} In pass w v time width height is_new from to q0 q1 v0 v1 v2 x y i hears serves =
    let told_heard = Tells-quiet (Hears v time width height is_new q0 q1) v0 v1 x i (hears-pass v time width height is_new q0 q1) hears in
    let told_served = Tells-unseen (ServesBetween In w 32 from to) v1 v2 x y i (between-pass In pass w from to) serves in
    let hearing = Tells-weaker (Hears v time width height is_new q0 q1) (OnPlace (Hears v time width height is_new) (from, q0) (from, q1)) v0 v1 x x i i told_heard (λ d e a es ad ae runs p. (p, refl)) in
    let serving_them = Tells-weaker (ServesBetween In w 32 from to) (OnServing (ServesBetween In w 32) (from, q1) (to, q1)) v1 v2 x y i i told_served (λ d e a es ad ae runs p. (p, refl)) in
    let all = Tells-both (OnPlace (Hears v time width height is_new)) (OnServing (ServesBetween In w 32)) (from, q0) (from, q1) (to, q1) v0 v1 v2 x x y i i i hearing serving_them in
    Tells-weaker (HearsBetween In w v time width height is_new (from, q0) (to, q1)) (IsShortViewedTurnBy In w v time width height (from, q0) (to, q1)) v0 v2 x y i i all
    (λ d e a es ad ae runs p. (is_new, p, short-viewed In pass w v time width height is_new (from, q0) (to, q1) (moment d v0.session) (moment e v2.session) a es p))

-- What clients do with what they have, one after another.
use Rattle.std.proofs.Common.{◌≡◌, ◌+◌, ◌-◌, ℕ, List, Option, Some, None, refl, ap, sym, subst, ◌∙◌, arith, get_or, set}
use Rattle.wl_server.specs.declared.seat.Seat.{Seat}
use Rattle.wl_server.specs.Acting.{InTurn, Stretch, Takes}
use Rattle.wl_server.specs.Recorded.{RecordedView}
use Rattle.wl_server.specs.Phases.{AtSeat, IfSeated, Link, Place}
use Rattle.wl_server.specs.Seats.{seat_of}
use Rattle.wl_server.proofs.Taking.{Takes-none, Takes-turn, Takes-weaker, idle}
use Rattle.wl_session.specs.Course.{moment}

pub seated : {H C : Type 0} {Writer : Type 0} {contents : Writer → Option (List ℕ)} (P : Link H C → Link H C → Stretch) (hub next : H) (slot : Option (Seat C)) (seat later : Seat C) (old new : RecordedView Writer) → slot ≡ Some seat
    → Takes contents (P (hub, seat) (next, later)) old new → Takes contents (IfSeated P (hub, slot) (next, Some later)) old new
seated {H} {C} {Writer} {contents} P hub next slot seat later old new is takes =
    subst (λ (s : Option (Seat C)). Takes contents (IfSeated P (hub, s) (next, Some later)) old new) (sym is)
    (Takes-weaker (P (hub, seat) (next, later)) (IfSeated P (hub, Some seat) (next, Some later)) old new takes
    (λ d e a es ad ae runs p. (later, p, refl)))

pub unseated : {H C : Type 0} {Writer : Type 0} {contents : Writer → Option (List ℕ)} (P : Link H C → Link H C → Stretch) (hub : H) (slot : Option (Seat C)) (v : RecordedView Writer) → slot ≡ None → Takes contents (IfSeated P (hub, slot) (hub, slot)) v v
unseated {H} {C} {Writer} {contents} P hub slot v is =
    subst (λ (s : Option (Seat C)). Takes contents (IfSeated P (hub, s) (hub, s)) v v) (sym is)
    (Takes-none (IfSeated P (hub, None) (hub, None)) v v refl (λ d agrees. idle (hub, None) (moment d v.session)))

pub same-place : (k : ℕ) → k ≡ (k + 1) - 1
same-place k = omega arith

-- the client behind k others does what it does with what lies at place k
pub at-seat : {H C : Type 0} {Writer : Type 0} {contents : Writer → Option (List ℕ)} (Own : ℕ → Place H C → Place H C → Stretch) (k : ℕ) (hub to : H) (seats : List (Option (Seat C))) (seat next : Option (Seat C)) (old new : RecordedView Writer)
    → seat ≡ get_or seats k None → Takes contents (Own (k + 1) (hub, seat) (to, next)) old new
    → Takes contents (AtSeat Own (k + 1) (hub, seats) (to, set seats k next)) old new
at-seat {H} {C} Own k hub to seats seat next old new is takes =
    let here : seat ≡ seat_of (k + 1) seats = is ∙ ap (λ (j : ℕ). get_or seats j None) (same-place k) in
    Takes-weaker (Own (k + 1) (hub, seat) (to, next)) (AtSeat Own (k + 1) (hub, seats) (to, set seats k next)) old new takes
    (λ d e a es ad ae runs p. (
      next,
      subst (λ (s : Option (Seat C)). Own (k + 1) (hub, s) (to, next) (moment d old.session) a es (moment e new.session)) here p,
      ap (λ (j : ℕ). set seats j next) (same-place k),
    ))

pub next-seat : {H C : Type 0} {Writer : Type 0} {contents : Writer → Option (List ℕ)} (Own : ℕ → Place H C → Place H C → Stretch) (k : ℕ) (first hub to : H) (begun seats : List (Option (Seat C))) (seat next : Option (Seat C)) (old mid new : RecordedView Writer)
    → seat ≡ get_or seats k None → Takes contents (InTurn (AtSeat Own) k (first, begun) (hub, seats)) old mid → Takes contents (Own (k + 1) (hub, seat) (to, next)) mid new
    → Takes contents (InTurn (AtSeat Own) (k + 1) (first, begun) (to, set seats k next)) old new
next-seat Own k first hub to begun seats seat next old mid new is before own =
    Takes-turn (AtSeat Own) k (first, begun) (hub, seats) (to, set seats k next) old mid new before (at-seat Own k hub to seats seat next mid new is own)

-- Which serials of a press and of a release a client that lives was told last: only a button changes that.
use Rattle.std.proofs.Common.{ℕ, refl, ap, inl, inr}
use Rattle.std.specs.Prelude.{◌⊎◌}
use Rattle.spec_desktop.specs.Desktop.{Desktop, Resident, client_at}
use Rattle.spec_desktop.specs.Happenings.{Happening}
use Rattle.law_desktop.specs.Pointed.Seats.{CameWithoutSerials, HadSerials, SerialsStay}
use Rattle.law_desktop.proofs.PointerAside.Happened.{IsNotedAfter, happened}
use Rattle.law_desktop.proofs.PointerAside.Noted.{HeedsNothing, noted-client}
use Rattle.law_desktop.proofs.PointerAside.Pointing.{Seat, changed-seat, seat_after, seat_of}

seats-heed : HeedsNothing seat_of
seats-heed = record { peer = λ p r. refl; grabs = λ r. refl; callbacks = λ gone r. refl }

has-serials : (h : Happening) (d : Desktop) (a : ℕ) (q : Resident) → IsNotedAfter seat_of seat_after h d a (seat_of q) → HadSerials d a q ⊎ CameWithoutSerials h a q
has-serials h d a q (inl k) =
    let it = noted-client seat_of (client_at a d) (seat_of q) k.0 in inl (it.0, it.1, it.2, ap (λ (s : Seat). s.press) it.3, ap (λ (s : Seat). s.release) it.3)
has-serials h d a q (inr (inl k)) = inl (k.1, k.3, k.4, ap (λ (s : Seat). s.press) k.6, ap (λ (s : Seat). s.release) k.6)
has-serials h d a q (inr (inr k)) = inr (k.0, ap (λ (s : Seat). s.press) k.1, ap (λ (s : Seat). s.release) k.1)

pub serials-stay : SerialsStay
serials-stay h d path e c q idle leads is alive =
    has-serials h d c q
    (happened seat_of seats-heed seat_after changed-seat d path e c q is alive h (λ time button pressed done same. absurd (idle time button pressed done same)) leads)

-- A piece of a client's stream is kept, and the desktop with which what is kept agrees.
use Rattle.std.proofs.Common.{◌≡◌, ◌≢◌, ℕ, List, ◌++◌, Option, Some, None, refl, ap, subst, sym, ◌∙◌, inl, inr}
use Rattle.std.specs.Prelude.{◌⊎◌}
use Rattle.spec_desktop.specs.declared.cause.Cause.{Cause}
use Rattle.spec_desktop.specs.Peer.{with_rest}
use Rattle.spec_desktop.specs.Pointer.{settled}
use Rattle.spec_desktop.specs.Desktop.{Desktop, Resident, client_at, unpointed, with_client}
use Rattle.spec_desktop.specs.Settling.{unstruck}
use Rattle.spec_desktop.specs.Step.{with_peer}
use Rattle.law_desktop.proofs.Runs.Fates.{same-or}
use Rattle.law_desktop.proofs.Runs.Places.{number-other, number-same}
use Rattle.law_desktop.proofs.Runs.Settled.{put-shows, same-windows}
use Rattle.wl_clients.specs.Agreeing.{Agrees as KeptAgrees}
use Rattle.wl_clients.specs.Feeding.{kept_at, kept_by, kept_of}
use Rattle.wl_clients.specs.declared.grabs.Latest.{Latest}
use Rattle.wl_desk.specs.Agreeing.{Agrees, AreLatest, AreSeats}
use Rattle.wl_desk.specs.View.{DeskView, seat_of}
use Rattle.wl_desk.proofs.LatestStay.{latest-put}

some-same : {X : Type 0} (a b : X) → Some a ≡ Some b → a ≡ b
some-same a b e = cc

-- what else is kept is the same
pub agrees-still : (old new : DeskView) (d : Desktop) → Agrees old d → new.pointer ≡ old.pointer → new.seats ≡ old.seats → new.latest ≡ old.latest
    → KeptAgrees new.kept (unpointed d) → Agrees new d
agrees-still old new d a pointer seats latest kept = record {
  kept = kept;
  pointer = pointer ∙ a.pointer;
  placed = a.placed;
  seats = subst (λ (s : List (List ℕ)). AreSeats s d) (sym seats) a.seats;
  latest = subst (λ (l : List Latest). AreLatest l (unstruck d)) (sym latest) a.latest;
  settled = a.settled;
}

-- a client that lives becomes one that has the same wl_pointers
seats-put : (seats : List (List ℕ)) (c : ℕ) (r x : Resident) (d : Desktop) → client_at c d ≡ Some r → x.peer.status ≡ r.peer.status → x.pointers ≡ r.pointers → AreSeats seats d
    → AreSeats seats (with_client c (Some x) d)
seats-put seats c r x d there status same are k q is lives = at (same-or c k)
  where
    here : c ≡ k → x ≡ q
    here e = some-same x q (sym (subst (λ (n : ℕ). client_at n (with_client c (Some x) d) ≡ Some x) e (number-same d.clients c (Some x) r there)) ∙ is)

    at : (c ≡ k) ⊎ (c ≢ k) → seat_of seats k ≡ q.pointers
    at (inl e) =
        are k r (subst (λ (n : ℕ). client_at n d ≡ Some r) e there) (sym status ∙ ap (λ (y : Resident). y.peer.status) (here e) ∙ lives) ∙ sym same
        ∙ ap (λ (y : Resident). y.pointers) (here e)
    at (inr differ) = are k q (sym (number-other d.clients c k (Some x) differ) ∙ is) lives

pub keeps : (c : ℕ) (piece : List ℕ) (old new : DeskView) (d : Desktop) → Agrees old d → new.pointer ≡ old.pointer → new.seats ≡ old.seats → new.latest ≡ old.latest
    → KeptAgrees new.kept (kept_at c piece (unpointed d)) → Agrees new (kept_at c piece d)
keeps c piece old new d a pointer seats latest kept = of (client_at c d) refl kept
  where
    by : (s : Option Cause) (r : Resident) → client_at c d ≡ Some r → KeptAgrees new.kept (kept_by c piece s r (unpointed d)) → Agrees new (kept_by c piece s r d)
    by (Some cause) r there k = agrees-still old new d a pointer seats latest k
    by None r there k =
        let come : Resident = with_peer (with_rest (r.peer.rest ++ piece) r.peer) r in
        let e : Desktop = with_client c (Some come) d in
        record {
          kept = k;
          pointer = pointer ∙ a.pointer;
          placed = record { nowhere = a.placed.nowhere; moved = a.placed.moved };
          seats = subst (λ (s : List (List ℕ)). AreSeats s e) (sym seats) (seats-put old.seats c r come d there refl refl a.seats);
          latest = subst (λ (l : List Latest). AreLatest l (unstruck e)) (sym latest) (latest-put old.latest c r come d there refl refl refl a.latest);
          settled = a.settled ∙ ap (settled d.pointer) (sym (same-windows d e (put-shows c r (Some come) d there refl)));
        }

    of : (o : Option Resident) → client_at c d ≡ o → KeptAgrees new.kept (kept_of c piece o (unpointed d)) → Agrees new (kept_of c piece o d)
    of None there k = agrees-still old new d a pointer seats latest k
    of (Some r) there k = by r.peer.status r there k

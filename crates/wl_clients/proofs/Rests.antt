-- What is left to be taken of each client is no more, where what is kept of one is put anew.
use Rattle.std.proofs.Common.{◌≡◌, ◌≤◌, ℕ, zero, suc, List, Bool, true, false, length, Option, Some, None, set, refl, subst, sym, arith}
use Rattle.std.specs.Prelude.{◌==◌}
use Rattle.std.proofs.lemmas.Bool.{eqb-false, eqb-true}
use Rattle.wl_client.specs.View.{ClientView}
use Rattle.wl_client.specs.declared.outputs.Output.{Output}
use Rattle.wl_client.specs.declared.pointers.PointerEvent.{PointerEvent}
use Rattle.spec_desktop.specs.declared.cause.Cause.{Cause}
use Rattle.wl_requests.specs.declared.residents.Resident.{Resident as Kept}
use Rattle.wl_clients.specs.View.{MarkedDesk, Pile}
use Rattle.wl_clients.specs.Feeding.{rest_in, rest_of}
use Rattle.wl_clients.specs.Pointing.{IsToldBy}
use Rattle.wl_clients.specs.Residents.{client_views}
use Rattle.wl_clients.proofs.Desktops.{at}
use Rattle.wl_clients.proofs.Seats.{IsHere, client-here, client-put, view_of}

pub rest-no-more : {A : Type 0} (output : Output) (rs : List (Option (Kept A))) (pile now : Pile) (c k : ℕ) (v : Kept A) → IsHere rs c k v → (new : Kept A)
    → length new.client.rest ≤ length v.client.rest
    → (other : ℕ) → length (rest_in other (view_of output (set rs k (Some new)) now)) ≤ length (rest_in other (view_of output rs pile))
rest-no-more output rs pile now c k v is new less zero = omega arith
rest-no-more output rs pile now c k v is new less (suc j) = by (j == k) refl
  where
    by : (b : Bool) → (j == k) ≡ b
        → length (rest_in (suc j) (view_of output (set rs k (Some new)) now)) ≤ length (rest_in (suc j) (view_of output rs pile))
    by true e = rw (eqb-true j k e, (client-put rs k (Some new) is.within).here, client-here rs k v is.here) less
    by false e =
        subst (λ (o : Option ClientView). length (rest_of o) ≤ length (rest_of (at (client_views rs) j)))
        (sym ((client-put rs k (Some new) is.within).others j (eqb-false j k e))) (omega arith)

-- nothing is put
pub rest-unput : (old new : MarkedDesk) → new ≡ old → (c : ℕ) → length (rest_in c new.desk) ≤ length (rest_in c old.desk)
rest-unput old new same c = subst (λ (m : MarkedDesk). length (rest_in c m.desk) ≤ length (rest_in c old.desk)) (sym same) (omega arith)

-- a client that is told something
pub told-no-more : (event : PointerEvent) (pointers : List ℕ) (e f : Option Cause) (v w : ClientView) → IsToldBy event pointers e f v w
    → length w.rest ≤ length v.rest
told-no-more event pointers None None v w h = rw h.1 (omega arith)
told-no-more event pointers None (Some cause) v w h = rw h (omega arith)
told-no-more event pointers (Some cause) f v w h = rw h (omega arith)

-- What points hit stays wherever a message of a client led, by what is kept of that.
use Rattle.std.proofs.Common.{◌≡◌, ℕ, List, Option, None, Some, set, ap, sym, ◌∙◌}
use Rattle.wl_client.specs.declared.outputs.Output.{Output}
use Rattle.wl_paint.specs.Damage.{Damaged}
use Rattle.law_desktop.proofs.Runs.Through.{messages_lead_through}
use Rattle.law_desktop.specs.Ordered.{Ordered}
use Rattle.spec_desktop.specs.Desktop.{Desktop, Resident, client_at, status_in, status_of}
use Rattle.spec_desktop.specs.Happenings.{Leads, Message}
use Rattle.spec_desktop.specs.Happens.{Serves}
use Rattle.spec_desktop.specs.Told.{Output as Shown}
use Rattle.wl_requests.specs.declared.residents.Resident.{Resident as Kept}
use Rattle.wl_clients.specs.Agreement.{IsSeat, Matches, numbers_in}
use Rattle.wl_clients.specs.Agreeing.{Agrees}
use Rattle.wl_clients.specs.Seats.{IsSeated}
use Rattle.wl_clients.specs.View.{DeskView, Pile, owned_view}
use Rattle.wl_clients.specs.Residents.{client_views}
use Rattle.wl_clients.specs.Touching.{ChangesNoHit, HitsStay}
use Rattle.wl_clients.proofs.Calls.{out}
use Rattle.wl_clients.proofs.Seats.{IsHere, put-here, view_of}

module _ {A : Type 0} (output : Output) (rs : List (Option (Kept A))) (pile : Pile) (c k : ℕ) (v : Kept A) (is : IsHere rs c k v) (d : Desktop)
    (a : Matches (view_of output rs pile) d) where
  here : (s : Resident) × (client_at c d ≡ Some s) × IsSeated c (numbers_in (client_views rs)) d v pile d s
  here = out output rs pile c k v is d a

  pub hits-whole : (new : Kept A) (now : Pile) (before : Damaged) → Ordered d → (before.width ≡ output.width) × (before.height ≡ output.height)
      → ((r : Resident) → before.width ≡ d.output.width → before.height ≡ d.output.height → IsSeated c (numbers_in (client_views rs)) d v pile d r → Ordered d
      → (e : Desktop) (q : Resident) → Serves c d e → client_at c e ≡ Some q → IsSeat new.client (owned_view new) q → q.peer.status ≡ None → HitsStay d e)
      → ChangesNoHit c (view_of output (set rs k (Some new)) now) d
  hits-whole new now before ordered sides stay path e leads b alive =
      let s = out output (set rs k (Some new)) now c k new (put-here rs c k v new is) e b.matches in
      stay here.0 (sides.0 ∙ ap (λ (o : Shown). o.width) a.output) (sides.1 ∙ ap (λ (o : Shown). o.height) a.output) here.2 ordered e s.0
      ((messages_lead_through c d e).0 path leads) s.1 s.2.seat (sym (ap (λ (o : Option Resident). status_of o) s.1) ∙ alive)

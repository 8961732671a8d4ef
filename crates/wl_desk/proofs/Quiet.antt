-- A step in which nobody is told anything and nobody ends leaves the pointer as it is.
use Rattle.std.proofs.Common.{◌≡◌, ℕ, ◌+◌, List, [], ◌∷◌, ◌++◌, Bool, true, false, Option, Some, None, refl, ap, ap₂, subst, sym, ◌∙◌, inl, inr}
use Rattle.std.proofs.lemmas.Bool.{true≢false}
use Rattle.std.specs.Prelude.{is_some}
use Rattle.spec_desktop.specs.declared.cause.Cause.{Cause}
use Rattle.spec_desktop.specs.Peer.{Peer, with_rest}
use Rattle.spec_desktop.specs.Pointer.{settled}
use Rattle.spec_desktop.specs.Stacking.{nothing_owned}
use Rattle.spec_desktop.specs.declared.answers.Done.{Done}
use Rattle.spec_desktop.specs.declared.answers.Done.TheVariants as gave
use Rattle.spec_desktop.specs.Act.{Connect, Feed, Store, Leave, Tick, Send, Close, Motion, Button, IsClosed, IsSent, IsStored, lowest}
use Rattle.spec_desktop.specs.Desktop.{Desktop, Resident, arrival, client_at, toplevels_of, unpointed, with_client}
use Rattle.spec_desktop.specs.Happenings.{Happening, Leads, Message, Receive, ReceivesAt, Single, Starve}
use Rattle.spec_desktop.specs.Happens.{ChangesThen, ConnectsThen, LeavesThen}
use Rattle.spec_desktop.specs.Settling.{Midstep, unstruck}
use Rattle.spec_desktop.specs.Step.{with_peer}
use Rattle.spec_desktop.specs.Through.{ending_through, settling_through}
use Rattle.law_desktop.specs.Focus.{EndedAreBare, IsSettled}
use Rattle.law_desktop.proofs.Runs.Settled.{ShowsSame, closed-none, come-shows, never-none, put-shows, same-windows, shows-itself}
use Rattle.law_desktop.specs.InOrder.{InOrderAt, InOrderBy}
use Rattle.law_desktop.specs.Ordered.{Ordered}
use Rattle.law_desktop.specs.Pointed.Happenings.{is_quiet}
use Rattle.law_desktop.specs.Pointed.Pointed.{pointed}
use Rattle.law_desktop.proofs.PointerAside.Happenings.{quiet-apart}
use Rattle.law_desktop.proofs.PointerAside.Moved.{moved-stands-on}
use Rattle.wl_clients.specs.Agreeing.{Agrees as KeptAgrees}
use Rattle.wl_clients.specs.Leading.{Led, raised_by}
use Rattle.wl_clients.specs.Marking.{MarksThrough}
use Rattle.wl_desk.specs.Agreeing.{Agrees, AreLatest, AreSeats}
use Rattle.wl_desk.specs.View.{MarkedDesk}
use Rattle.wl_desk.proofs.Leading.{kept-aside}
use Rattle.wl_desk.proofs.Unraised.{marks-raised, marks-unraised, quiet-unraised}

-- a client that ended owns nothing
pub ended-bare : (d : Desktop) → Ordered d → EndedAreBare d
ended-bare d ordered c r there over = at r.peer.status over (subst (λ (o : Option Resident). InOrderAt o (toplevels_of c d)) there (ordered.in_order.each c))
  where
    at : (s : Option Cause) → is_some s ≡ true → InOrderBy s r (toplevels_of c d) → r.owned ≡ nothing_owned
    at None over h = absurd (true≢false (sym over))
    at (Some cause) over h = ap (λ (x : Resident). x.owned) h.0

-- ---- it leads to one desktop, where the same is shown

module _ (d : Desktop) (path : List Desktop) (e : Desktop) where
  abbrev Shows : Type 0
  Shows = (path ≡ e ∷ []) × ShowsSame d e

  abbrev Over : Midstep → Type 0
  Over m = ending_through path e m

  over : (x : Desktop) → ShowsSame d x → Over (unstruck x) → Shows
  over x same h = (h.1 ∙ ap₂ (λ (y : Desktop) (ys : List Desktop). y ∷ ys) (sym h.2.1) h.2.0, subst (λ (y : Desktop). ShowsSame d y) (sym h.2.1) same)

  over-here : Over (unstruck d) → Shows
  over-here h = over d (shows-itself d d refl) h

  connected : (k : Option ℕ) (done : Done) → lowest d.clients ≡ k → ConnectsThen k d done Over → Shows
  connected None done first h = over-here h.1
  connected (Some n) done first (inl h) = over-here h.1
  connected (Some n) done first (inr h) = over (with_client (n + 1) (Some (arrival d.output)) d) (come-shows n (Some (arrival d.output)) d first refl) h.1

  changed : (R : Peer → Done → Option Peer → Type 0) (absent : Done) (c : ℕ) (o : Option Resident) (done : Done) → client_at c d ≡ o
      → ((r : Resident) (q : Option Peer) → client_at c d ≡ Some r → R r.peer done q → q ≡ None → r.owned ≡ nothing_owned) → ChangesThen R absent c o d done Over → Shows
  changed R absent c None done there none h = over-here h.1
  changed R absent c (Some r) done there none (None, is, h) = over (with_client c None d) (put-shows c r None d there (sym (none r None there is refl))) h
  changed R absent c (Some r) done there none (Some q, is, h) = over (with_client c (Some (with_peer q r)) d) (put-shows c r (Some (with_peer q r)) d there refl) h

  -- the client with this status
  abbrev so : Option Cause → Resident → Resident
  so s r = record r { peer = record r.peer { status = s } }

  abbrev lived : Done → Bool
  lived (gave.Gone b) = b
  lived done = true

  was_gone : (c : ℕ) (s : Option Cause) (r : Resident) → LeavesThen c (Some (so s r)) d (gave.Gone false) (settling_through path e) Over → Shows
  was_gone c (Some why) r h = over-here h.1
  was_gone c None r h = absurd (true≢false (sym (ap lived h.0)))

  gone : (c : ℕ) (o : Option Resident) → LeavesThen c o d (gave.Gone false) (settling_through path e) Over → Shows
  gone c None h = over-here h.1
  gone c (Some r) h = was_gone c r.peer.status r h

  received : (c : ℕ) (piece : List ℕ) (o : Option Resident) → client_at c d ≡ o → ReceivesAt c piece o d path e → Shows
  received c piece None there h = absurd h
  received c piece (Some r) there h =
      let come : Resident = with_peer (with_rest (r.peer.rest ++ piece) r.peer) r in
      (h.2, subst (λ (y : Desktop). ShowsSame d y) (sym h.1) (put-shows c r (Some come) d there refl))

pub quiet-shows : (h : Happening) (d : Desktop) (path : List Desktop) (e : Desktop) → is_quiet h ≡ true → EndedAreBare d → Leads h d path e → (path ≡ e ∷ []) × ShowsSame d e
quiet-shows (Receive c piece) d path e quiet bare h = received d path e c piece (client_at c d) refl h
quiet-shows (Single Connect done) d path e quiet bare h = connected d path e (lowest d.clients) done refl h
quiet-shows (Single (Feed c piece) done) d path e quiet bare h = absurd h
quiet-shows (Single (Store c store at bytes) done) d path e quiet bare h =
    changed d path e (IsStored store at bytes) _ c (client_at c d) done refl (λ r q there stored gone. never-none q _ stored.0 gone) h
quiet-shows (Single (Leave c) (gave.Gone false)) d path e quiet bare h = gone d path e c (client_at c d) h
quiet-shows (Single (Send c n) done) d path e quiet bare h =
    changed d path e (IsSent n) _ c (client_at c d) done refl (λ r q there sent gone. never-none q _ sent.0 gone) h
quiet-shows (Single (Close c) done) d path e quiet bare h =
    changed d path e IsClosed _ c (client_at c d) done refl (λ r q there closed gone. bare c r there (closed-none r.peer.status r.peer (sym closed.0 ∙ gone))) h
quiet-shows happening d path e quiet bare h = absurd (true≢false (sym quiet))

-- ---- the pointer is put back

-- where the same is shown, the focus is settled as it was
pub same-settled : (d e : Desktop) → ShowsSame d e → IsSettled d → IsSettled (pointed d.pointer e)
same-settled d e same is = is ∙ ap (settled d.pointer) (sym (same-windows d e same))

-- What is kept of the clients is led on to, and the pointer stays.
pub quiet-leads : (h : Happening) (d : Desktop) (old new : MarkedDesk) → is_quiet h ≡ true → Agrees old.desk d → (led : Led (KeptAgrees new.desk.kept) h old.damage new.damage (unpointed d))
    → new.desk.pointer ≡ old.desk.pointer → AreSeats new.desk.seats led.desktop → AreLatest new.desk.latest (unstruck led.desktop)
    → Led (Agrees new.desk) h old.damage new.damage d
quiet-leads h d old new quiet a led stays seats latest =
    let e : Desktop = led.desktop in
    let shows = quiet-shows h (unpointed d) led.path e quiet (ended-bare (unpointed d) a.kept.ordered) led.leads in
    let same : ShowsSame d e = record { standing = shows.1.standing; owned = shows.1.owned } in
    let on : Leads h d (pointed d.pointer e ∷ []) (pointed d.pointer e) = quiet-apart h d led.path e quiet led.leads in
    record {
      path = pointed d.pointer e ∷ [];
      desktop = pointed d.pointer e;
      leads = on;
      agrees = record {
        kept = kept-aside new.desk.kept d.pointer e led.agrees;
        pointer = stays ∙ a.pointer;
        placed = record { nowhere = a.placed.nowhere; moved = moved-stands-on.1 h d (pointed d.pointer e ∷ []) (pointed d.pointer e) a.placed.moved on };
        seats = seats;
        latest = latest;
        settled = same-settled d e same a.settled;
      };
      marks = marks-raised (raised_by h d) d (pointed d.pointer e ∷ []) old.damage new.damage (quiet-unraised h d quiet)
          (subst (λ (path : List Desktop). MarksThrough (unpointed d) path old.damage new.damage) shows.0
          (marks-unraised (raised_by h (unpointed d)) (unpointed d) led.path old.damage new.damage (quiet-unraised h (unpointed d) quiet) led.marks));
    }

-- What happens beside messages, motions and buttons, with the pointer put aside, and put back.
use Rattle.std.proofs.Common.{ℕ, ◌+◌, List, [], ◌∷◌, ◌++◌, Bool, true, false, Option, Some, None, refl, ap, subst, sym, inl, inr, map}
use Rattle.std.proofs.lemmas.Bool.{true≢false}
use Rattle.spec_desktop.specs.declared.cause.Cause.{Cause}
use Rattle.spec_desktop.specs.declared.cause.Cause.TheVariants as cause
use Rattle.spec_desktop.specs.Peer.{Peer, ended}
use Rattle.spec_desktop.specs.declared.answers.Done.{Done}
use Rattle.spec_desktop.specs.declared.answers.Done.TheVariants as gave
use Rattle.spec_desktop.specs.Act.{Connect, Feed, Store, Leave, Send, Close, IsClosed, IsSent, IsStored, lowest}
use Rattle.spec_desktop.specs.Desktop.{Desktop, Resident, arrival, client_at, unpointed, with_client}
use Rattle.spec_desktop.specs.Happenings.{Happening, Leads, Receive, ReceivesAt, Single, StarvesAt}
use Rattle.spec_desktop.specs.Happens.{ChangesThen, ConnectsThen, LeavesThen}
use Rattle.spec_desktop.specs.Settling.{Midstep, becomes, pointer_without, unstruck}
use Rattle.spec_desktop.specs.Step.{with_peer}
use Rattle.spec_desktop.specs.Through.{ending_through, settling_through}
use Rattle.law_desktop.proofs.Runs.Through.{settling-with, settling-without}
use Rattle.law_desktop.specs.Pointed.Apart.{SettlesOn}
use Rattle.law_desktop.specs.Pointed.Happenings.{EndedApart, EndsApart, QuietApart}
use Rattle.law_desktop.specs.Pointed.Pointed.{pointed}
use Rattle.law_desktop.proofs.PointerAside.Pointers.{settles-on}

-- ---- nobody is told, and nobody ends

module _ (d : Desktop) (path : List Desktop) (e : Desktop) where
  abbrev Aside : Midstep → Type 0
  Aside m = ending_through path e m

  abbrev Back : Midstep → Type 0
  Back m = ending_through (pointed d.pointer e ∷ []) (pointed d.pointer e) m

  over : (x : Desktop) → Aside (unstruck x) → Back (unstruck (pointed d.pointer x))
  over x h = ([], ap (λ (y : Desktop). pointed d.pointer y ∷ []) h.2.1, (refl, ap (pointed d.pointer) h.2.1))

  connected : (k : Option ℕ) (done : Done) → ConnectsThen k (unpointed d) done Aside → ConnectsThen k d done Back
  connected None done h = (h.0, over (unpointed d) h.1)
  connected (Some n) done (inl h) = inl (h.0, over (unpointed d) h.1)
  connected (Some n) done (inr h) = inr (h.0, over (with_client (n + 1) (Some (arrival d.output)) (unpointed d)) h.1)

  changed : (R : Peer → Done → Option Peer → Type 0) (absent : Done) (c : ℕ) (o : Option Resident) (done : Done) → ChangesThen R absent c o (unpointed d) done Aside
      → ChangesThen R absent c o d done Back
  changed R absent c None done h = (h.0, over (unpointed d) h.1)
  changed R absent c (Some r) done (None, is, h) = (None, is, over (with_client c None (unpointed d)) h)
  changed R absent c (Some r) done (Some q, is, h) = (Some q, is, over (with_client c (Some (with_peer q r)) (unpointed d)) h)

  -- the client with this status
  abbrev so : Option Cause → Resident → Resident
  so s r = record r { peer = record r.peer { status = s } }

  lived : Done → Bool
  lived (gave.Gone b) = b
  lived done = true

  was_gone : (c : ℕ) (s : Option Cause) (r : Resident) → LeavesThen c (Some (so s r)) (unpointed d) (gave.Gone false) (settling_through path e) Aside
      → LeavesThen c (Some (so s r)) d (gave.Gone false) (settling_through (pointed d.pointer e ∷ []) (pointed d.pointer e)) Back
  unfolding lived
  was_gone c (Some why) r h = (h.0, over (unpointed d) h.1)
  was_gone c None r h = absurd (true≢false (sym (ap lived h.0)))

  gone : (c : ℕ) (o : Option Resident) → LeavesThen c o (unpointed d) (gave.Gone false) (settling_through path e) Aside
      → LeavesThen c o d (gave.Gone false) (settling_through (pointed d.pointer e ∷ []) (pointed d.pointer e)) Back
  gone c None h = (h.0, over (unpointed d) h.1)
  gone c (Some r) h = was_gone c r.peer.status r h

  received : (c : ℕ) (piece : List ℕ) (o : Option Resident) → ReceivesAt c piece o (unpointed d) path e → ReceivesAt c piece o d (pointed d.pointer e ∷ []) (pointed d.pointer e)
  received c piece None h = absurd h
  received c piece (Some r) h = (h.0, ap (pointed d.pointer) h.1, refl)

pub quiet-apart : QuietApart
quiet-apart (Receive c piece) d path e quiet h = received d path e c piece (client_at c d) h
quiet-apart (Single Connect done) d path e quiet h = connected d path e (lowest d.clients) done h
quiet-apart (Single (Feed c piece) done) d path e quiet h = absurd h
quiet-apart (Single (Store c store at bytes) done) d path e quiet h = changed d path e (IsStored store at bytes) _ c (client_at c d) done h
quiet-apart (Single (Leave c) (gave.Gone false)) d path e quiet h = gone d path e c (client_at c d) h
quiet-apart (Single (Send c n) done) d path e quiet h = changed d path e (IsSent n) _ c (client_at c d) done h
quiet-apart (Single (Close c) done) d path e quiet h = changed d path e IsClosed _ c (client_at c d) done h
quiet-apart happening d path e quiet h = absurd (true≢false (sym quiet))

-- ---- a client ends

module _ (c : ℕ) (d : Desktop) (path : List Desktop) (e : Desktop) where
  abbrev put : Desktop → Desktop
  put x = pointed (pointer_without c d.pointer) x

  ends : (why : Cause) (r : Resident) → settling_through path e (unstruck (becomes c r (ended why r.peer) (unpointed d)))
      → SettlesOn put (λ path new. settling_through path new (unstruck (becomes c r (ended why r.peer) d))) path e
  ends why r h = settles-on put (unstruck (becomes c r (ended why r.peer) (unpointed d))) (unstruck (becomes c r (ended why r.peer) d)) refl refl refl refl path e h

  starved : (o : Option Resident) → StarvesAt c o (unpointed d) path e → SettlesOn put (λ path new. StarvesAt c o d path new) path e
  starved None h = absurd h
  starved (Some r) h = let on = ends cause.Memory r h.1 in (on.0, on.1, λ later new k. (h.0, on.2 later new k))

  abbrev Leaving : Desktop → Option Resident → List Desktop → Desktop → Type 0
  Leaving d o path new = LeavesThen c o d (gave.Gone true) (settling_through path new) (ending_through path new)

  left_so : (s : Option Cause) (r : Resident) → Leaving (unpointed d) (Some (so d path e s r)) path e → SettlesOn put (Leaving d (Some (so d path e s r))) path e
  unfolding lived
  left_so (Some why) r h = absurd (true≢false (ap (lived d path e) h.0))
  left_so None r h = let on = ends cause.Gone (so d path e None r) h.1 in (on.0, on.1, λ later new k. (h.0, on.2 later new k))

  leaves : (o : Option Resident) → Leaving (unpointed d) o path e → SettlesOn put (Leaving d o) path e
  unfolding lived
  leaves None h = absurd (true≢false (ap (lived d path e) h.0))
  leaves (Some r) h = left_so r.peer.status r h

pub ended-apart : EndedApart
ended-apart c why r d e = (
  λ path h. ends c d path e why r h,
  λ new h settles.
      let way = settling-with e (unstruck (becomes c r (ended why r.peer) (unpointed d))) h in
      let on = ends c d way.0 e why r way.1 in
      let rest = settling-with new (unstruck (pointed (pointer_without c d.pointer) e)) settles in
      let back : Desktop → Desktop = pointed (pointer_without c d.pointer) in
      settling-without (map back on.0 ++ back e ∷ rest.1.0) new (unstruck (becomes c r (ended why r.peer) d)) (on.2 rest.1.0 new rest.1.2),
)

pub ends-apart : EndsApart
ends-apart c h d path e (inl is) leads =
    subst (λ (x : Happening). Leads x (unpointed d) path e → SettlesOn (pointed (pointer_without c d.pointer)) (Leads x d) path e) (sym is) (starved c d path e (client_at c d)) leads
ends-apart c h d path e (inr is) leads =
    subst (λ (x : Happening). Leads x (unpointed d) path e → SettlesOn (pointed (pointer_without c d.pointer)) (Leads x d) path e) (sym is) (leaves c d path e (client_at c d)) leads

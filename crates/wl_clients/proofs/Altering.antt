-- What a call of a desk that takes no message and shows no frame does to the plain desktop, and that it happens so.
use Rattle.std.proofs.Common.{◌≡◌, ℕ, List, [], ◌∷◌, Bool, true, false, Option, Some, None, cond, refl, ap, subst, sym, ◌∙◌}
use Rattle.std.proofs.lemmas.Option.{none-some, same_Some}
use Rattle.std.specs.Prelude.{◌==◌, filter, is_none, is_some, not}
use Rattle.spec_desktop.specs.declared.cause.Cause.{Cause}
use Rattle.spec_desktop.specs.declared.cause.Cause.TheVariants.{Gone}
use Rattle.spec_desktop.specs.Peer.{Peer, ended, left_by}
use Rattle.spec_desktop.specs.Pointer.{first_pointer}
use Rattle.spec_desktop.specs.Stacking.{Standing, without_client}
use Rattle.spec_desktop.specs.declared.answers.Done.{Done}
use Rattle.spec_desktop.specs.declared.answers.Done.TheVariants as gave
use Rattle.spec_desktop.specs.declared.answers.Stored.TheVariants as stored
use Rattle.spec_desktop.specs.Act.{Act, Connect, Store, Leave, Send, Close, IsClosed, IsLeft, IsSent, IsStored, closed_by, lowest}
use Rattle.spec_desktop.specs.Desktop.{Desktop, Resident, become, become_by, client_at, resident_of, toplevels_of, with_client, with_number}
use Rattle.spec_desktop.specs.Happens.{Happens}
use Rattle.spec_desktop.specs.Settling.{becomes}
use Rattle.spec_desktop.specs.Step.{with_peer}
use Rattle.law_desktop.proofs.Runs.Forms.{ChangesAt as StepChangesAt, ConnectsAt, LeavesAt}
use Rattle.law_desktop.proofs.Runs.OneRun.{held}
use Rattle.law_desktop.proofs.Runs.Places.{client-kept}
use Rattle.law_desktop.proofs.Runs.Stays.{sent-status, stored-status}
use Rattle.law_desktop.proofs.KeptRecords.Toplevels.Serves.{becomes-same, settles-to}
use Rattle.law_desktop.specs.InOrder.{InOrderAt, InOrderBy}
use Rattle.law_desktop.specs.Ordered.{Ordered}

-- ---- what is done

-- what becomes of a client: it is left so, or its number is free
abbrev pub left_so : ℕ → Resident → Option Peer → Desktop → Desktop
left_so c r None d = record d { clients = with_number c None d.clients; standing = without_client c d.standing }
left_so c r (Some q) d = become c r q d

-- the client that is there changes by R, or there is none
abbrev pub ChangesAt : (Peer → Done → Option Peer → Type 0) → Done → ℕ → Option Resident → Desktop → Done → Desktop → Type 0
ChangesAt R absent c None d done new = (done ≡ absent) × (new ≡ d)
ChangesAt R absent c (Some r) d done new = (q : Option Peer) × R r.peer done q × (new ≡ left_so c r q d)

-- The client with this number changes by R, and no other.
abbrev pub Changes : ℕ → (Peer → Done → Option Peer → Type 0) → Done → Desktop → Done → Desktop → Type 0
Changes c R absent d done new = ChangesAt R absent c (client_at c d) d done new

-- one of these calls
abbrev pub Alters : Act → Done → Desktop → Desktop → Type 0
Alters Connect done d new = ConnectsAt (lowest d.clients) d done new
Alters (Store c store at bytes) done d new = Changes c (IsStored store at bytes) (gave.Store stored.NoClient) d done new
Alters (Leave c) done d new = Changes c IsLeft (gave.Gone false) d done new
Alters (Send c n) done d new = Changes c (IsSent n) (gave.Sent false) d done new
Alters (Close c) done d new = Changes c IsClosed (gave.Close false) d done new
Alters act done d new = ⊥

-- ---- a client that ended

-- where none of its toplevels stands, none is taken away
pub none-taken : (c : ℕ) (ss : List Standing) → filter (λ s. s.client == c) ss ≡ [] → without_client c ss ≡ ss
none-taken c [] none = refl
none-taken c (s ∷ ss) none = at (s.client == c) none (none-taken c ss)
  where
    at : (b : Bool) → cond b (s ∷ filter (λ s. s.client == c) ss) (filter (λ s. s.client == c) ss) ≡ [] → (filter (λ s. s.client == c) ss ≡ [] → without_client c ss ≡ ss)
        → cond (not b) (s ∷ without_client c ss) (without_client c ss) ≡ s ∷ ss
    at true none later = absurd (cc)
    at false none later = ap (λ ts. s ∷ ts) (later none)

ended-owns : (s : Option Cause) (cause : Cause) (r : Resident) (standing : List Standing) → s ≡ Some cause → InOrderBy s r standing → (r ≡ resident_of r.peer) × (standing ≡ [])
ended-owns None cause r standing e owns = absurd (cc)
ended-owns (Some other) cause r standing e owns = owns

-- one that ended owns nothing, and none of its toplevels stands
pub ended-bare : (d : Desktop) (c : ℕ) (r : Resident) (cause : Cause) → Ordered d → client_at c d ≡ Some r → r.peer.status ≡ Some cause → (r ≡ resident_of r.peer) × (toplevels_of c d ≡ [])
ended-bare d c r cause ordered is over =
    ended-owns r.peer.status cause r (toplevels_of c d) over (subst (λ (o : Option Resident). InOrderAt o (toplevels_of c d)) is (ordered.in_order.each c))

-- what becomes of a client that has the status that it had
module _ (c : ℕ) (r : Resident) (d : Desktop) (owns : InOrderBy r.peer.status r (toplevels_of c d)) where
  pub stays-by : (s : Option Cause) (x : Peer) → r.peer.status ≡ s → become_by s c r x d ≡ with_client c (Some (with_peer x r)) d
  stays-by None x e = refl
  stays-by (Some cause) x e =
      let over = ended-owns r.peer.status cause r (toplevels_of c d) e owns in
      ap (λ ss. record d { clients = with_number c (Some (resident_of x)) d.clients; standing = ss }) (none-taken c d.standing over.1)
      ∙ sym (ap (λ q. with_client c (Some (with_peer x q)) d) over.0)

  left-held : (q : Option Peer) → ((x : Peer) → q ≡ Some x → x.status ≡ r.peer.status) → (q ≡ None → (cause : Cause) × (r.peer.status ≡ Some cause)) → left_so c r q d ≡ held q c r d
  left-held None keeps gone =
      let why = gone refl in
      ap (λ ss. record d { clients = with_number c None d.clients; standing = ss })
      (none-taken c d.standing (ended-owns r.peer.status why.0 r (toplevels_of c d) why.1 owns).1)
  left-held (Some x) keeps gone = ap (λ s. become_by s c r x d) (keeps x refl) ∙ stays-by r.peer.status x refl

held-changed : (R : Peer → Done → Option Peer → Type 0) (absent done : Done) (c : ℕ) (r : Resident) (d new : Desktop) (q : Option Peer) → R r.peer done q → new ≡ held q c r d
    → StepChangesAt R absent c (Some r) d done new
held-changed R absent done c r d new None h e = (None, h, e)
held-changed R absent done c r d new (Some q) h e = (Some q, h, e)

-- A change leaves a client its status, or takes one that ended.
unfoldable pub Leaves : (Peer → Done → Option Peer → Type 0) → Type 0
Leaves R =
    (p : Peer) (done : Done) (q : Option Peer) → R p done q
    → ((x : Peer) → q ≡ Some x → x.status ≡ p.status) × (q ≡ None → (cause : Cause) × (p.status ≡ Some cause))

pub changes-whole : (R : Peer → Done → Option Peer → Type 0) → Leaves R → (absent done : Done) (c : ℕ) (o : Option Resident) (d new : Desktop) → InOrderAt o (toplevels_of c d)
    → ChangesAt R absent c o d done new → StepChangesAt R absent c o d done new
unfolding Leaves
changes-whole R leaves absent done c None d new owns h = h
changes-whole R leaves absent done c (Some r) d new owns h =
    let k = leaves r.peer done h.0 h.1 in
    held-changed R absent done c r d new h.0 h.1 (h.2 ∙ left-held c r d owns h.0 k.0 k.1)

pub stored-leaves : (store at : ℕ) (bytes : List ℕ) → Leaves (IsStored store at bytes)
unfolding Leaves
stored-leaves store at bytes p done q h = (
  λ x e. ap (λ (y : Peer). y.status) (same_Some x _ (sym e ∙ h.0)) ∙ stored-status p.status store at bytes p,
  λ e. absurd (none-some _ (sym e ∙ h.0)),
)

pub sent-leaves : (n : ℕ) → Leaves (IsSent n)
unfolding Leaves
sent-leaves n p done q h = (
  λ x e. ap (λ (y : Peer). y.status) (same_Some x _ (sym e ∙ h.0)) ∙ sent-status n p,
  λ e. absurd (none-some _ (sym e ∙ h.0)),
)

pub closed-leaves : Leaves IsClosed
unfolding Leaves
closed-leaves p done q h = at p.status refl h.0
  where
    at : (s : Option Cause) → p.status ≡ s → q ≡ closed_by s p → ((x : Peer) → q ≡ Some x → x.status ≡ p.status) × (q ≡ None → (cause : Cause) × (p.status ≡ Some cause))
    at None e is = (λ x there. ap (λ (y : Peer). y.status) (same_Some x p (sym there ∙ is)), λ none. absurd (none-some p (sym none ∙ is)))
    at (Some cause) e is = (λ x there. absurd (none-some x (sym is ∙ there)), λ none. (cause, e))

-- one that is taken had ended
pub leaves-over : (R : Peer → Done → Option Peer → Type 0) → Leaves R → (p : Peer) (done : Done) → R p done None → is_some p.status ≡ true
unfolding Leaves
leaves-over R leaves p done h = let gone = (leaves p done None h).1 refl in ap is_some gone.1

-- ---- a client goes

so : Option Cause → Resident → Resident
so s r = record r { peer = record r.peer { status = s } }

left-so : (s : Option Cause) (c : ℕ) (r : Resident) (d new : Desktop) (done : Done) (q : Option Peer) → d.pointer ≡ first_pointer → InOrderBy s (so s r) (toplevels_of c d)
    → client_at c d ≡ Some (so s r)
    → q ≡ Some (left_by s (so s r).peer) → done ≡ gave.Gone (is_none s) → new ≡ left_so c (so s r) q d → LeavesAt c (Some (so s r)) d done new
unfolding so
left-so (Some cause) c r d new done q still owns is e answer last = (
  answer,
  last ∙ ap (λ p. left_so c (so (Some cause) r) p d) e ∙ stays-by c (so (Some cause) r) d owns (Some cause) (so (Some cause) r).peer refl
      ∙ ap (λ o. with_client c o d) (sym is) ∙ client-kept c d,
)
left-so None c r d new done q still owns is e answer last =
    let gone : Peer = ended Gone (so None r).peer in
    (answer, settles-to (becomes c (so None r) gone d) (become c (so None r) gone d) new (becomes-same c (so None r) gone d still) (last ∙ ap (λ p. left_so c (so None r) p d) e) still)

leaves-whole : (c : ℕ) (o : Option Resident) (d new : Desktop) (done : Done) → d.pointer ≡ first_pointer → client_at c d ≡ o → InOrderAt o (toplevels_of c d)
    → ChangesAt IsLeft (gave.Gone false) c o d done new → LeavesAt c o d done new
unfolding so
leaves-whole c None d new done still is owns h = h
leaves-whole c (Some r) d new done still is owns h = left-so r.peer.status c r d new done h.0 still owns is h.1.0 h.1.1 h.2

-- ---- a call

-- It happens to a desktop on which what each client owns is in order.
pub alters-whole : (act : Act) (d e : Desktop) (done : Done) → Ordered d → Alters act done d e → Happens act done d e
alters-whole Connect d e done ordered h = h
alters-whole (Store c store at bytes) d e done ordered h =
    changes-whole (IsStored store at bytes) (stored-leaves store at bytes) _ done c (client_at c d) d e (ordered.in_order.each c) h
alters-whole (Leave c) d e done ordered h = leaves-whole c (client_at c d) d e done ordered.in_order.pointer refl (ordered.in_order.each c) h
alters-whole (Send c n) d e done ordered h = changes-whole (IsSent n) (sent-leaves n) _ done c (client_at c d) d e (ordered.in_order.each c) h
alters-whole (Close c) d e done ordered h = changes-whole IsClosed closed-leaves _ done c (client_at c d) d e (ordered.in_order.each c) h
alters-whole act d e done ordered h = absurd h

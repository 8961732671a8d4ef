-- Whoever keeps its promises hides no change: in a store write, and in what the user does and as bytes come, where nothing is asked of anyone.
use Rattle.std.proofs.Common.{◌≡◌, ◌≢◌, ◌++◌, ℕ, Bool, true, false, List, [], ◌∷◌, Option, Some, None, refl, ap, sym, subst, ◌∙◌, inl, inr}
use Rattle.std.proofs.lemmas.Bool.{and_from}
use Rattle.std.proofs.lemmas.Option.{none-some}
use Rattle.std.specs.Prelude.{◌==◌, ◌&&◌, ◌⊎◌, nat_lt, not}
use Rattle.wl_store.specs.declared.color.Argb.{Argb}
use Rattle.spec_desktop.specs.declared.cause.Cause.{Cause}
use Rattle.spec_desktop.specs.Peer.{with_rest}
use Rattle.wl_surface.specs.Request.{Buffer}
use Rattle.spec_desktop.specs.declared.answers.Done.{Done}
use Rattle.spec_desktop.specs.Desktop.{Desktop, Resident, client_at, owned_of, with_client, toplevels_of}
use Rattle.spec_desktop.specs.Happenings.{Message, Receive, ReceivesAt, Single, Starve}
use Rattle.spec_desktop.specs.Scratch.{pixel_at}
use Rattle.spec_desktop.specs.Stacked.{all_windows}
use Rattle.spec_desktop.specs.Step.{with_peer}
use Rattle.spec_desktop.specs.Act.{Act, Connect, Feed, Leave, Send, Close, Store, Tick, Motion, Button}
use Rattle.spec_desktop.specs.Happens.{Happens}
use Rattle.law_desktop.specs.Others.{client_of}
use Rattle.law_desktop.specs.Own.{KeepsItsOwn, KeepsItsOwnBy, KeepsItsOwnSo, LivesOrEnds}
use Rattle.law_desktop.proofs.Marks.Stacks.{same-number}
use Rattle.law_desktop.proofs.Runs.Places.{number-other, number-same}
use Rattle.law_desktop.proofs.Marks.ShownWindows.{all-shown}
use Rattle.law_desktop.proofs.Runs.Through.{happens_leads_through}
use Rattle.law_desktop.proofs.Runs.Fates.{same-or}
use Rattle.law_desktop.proofs.Isolation.Own.{own_stays}
use Rattle.law_desktop.proofs.Lists.Each.{Each}
use Rattle.wl_session.specs.Promises.{KeepBut, KeepsBuffers, KeepsDamage, busy_in, bytes_by, bytes_in, is_rewritten_at, is_same_color}
use Rattle.wl_session.specs.StoreWrites.{PromisesAreEnough}
use Rattle.wl_session.specs.Unmarked.{AllDamageBut}
use Rattle.wl_session.proofs.StoreWrites.{IsKept, any-none, hides-nothing, kept-by, put, write_hides_nothing}

-- ---- stores that stay

color-self : (c : Argb) → is_same_color c c ≡ true
color-self c =
    and_from ((c.a == c.a) && (c.r == c.r)) ((c.g == c.g) && (c.b == c.b))
    (and_from (c.a == c.a) (c.r == c.r) (same-number c.a) (same-number c.r)) (and_from (c.g == c.g) (c.b == c.b) (same-number c.g) (same-number c.b))

not-and : (a b : Bool) → b ≡ true → (a && not b) ≡ false
not-and true true e = refl
not-and false true e = refl
not-and a false e = absurd (none e)
  where
    none : false ≡ true → ⊥
    none e = absurd (cc)

unrewritten : (old new : Desktop) (c x y : ℕ) (b : Buffer) → bytes_in new c b.store ≡ bytes_in old c b.store → is_rewritten_at old new c x y b ≡ false
unrewritten old new c x y b same =
    not-and (nat_lt x b.width && nat_lt y b.height) _
    (subst (λ (bytes : List ℕ). is_same_color (pixel_at (bytes_in old c b.store) b (x, y)) (pixel_at bytes b (x, y)) ≡ true) (sym same)
    (color-self (pixel_at (bytes_in old c b.store) b (x, y))))

each-of : {X : Type 0} (P : X → Type 0) → ((x : X) → P x) → (xs : List X) → Each P xs
each-of P all [] = tt
each-of P all (x ∷ xs) = (all x, each-of P all xs)

keeps-buffers : (old new : Desktop) (c : ℕ) → ((store : ℕ) → bytes_in new c store ≡ bytes_in old c store) → KeepsBuffers old new c
keeps-buffers old new c same = λ x y.
    any-none (is_rewritten_at old new c x y) (busy_in old c)
    (each-of (λ b. is_rewritten_at old new c x y b ≡ false) (λ b. unrewritten old new c x y b (same b.store)) (busy_in old c))

-- ---- what the user does

own-kept : (c : ℕ) (old new : Desktop) → KeepsItsOwn c old new → IsKept c old new
own-kept c old new h = at (client_at c old) refl h
  where
    both : (r q : Resident) → client_at c old ≡ Some r → client_at c new ≡ Some q → q.owned.surfaces ≡ r.owned.surfaces → q.peer.stores ≡ r.peer.stores → IsKept c old new
    both r q was now surfaces stores = inl (
      ap (λ (o : Option Resident). (owned_of o).surfaces) now ∙ surfaces ∙ sym (ap (λ (o : Option Resident). (owned_of o).surfaces) was),
      keeps-buffers old new c (λ store. ap (bytes_by store) now ∙ stored store ∙ sym (ap (bytes_by store) was)),
    )
      where
        stored : (store : ℕ) → bytes_by store (Some q) ≡ bytes_by store (Some r)
        stored store = rw stores refl

    living : (r : Resident) → client_at c old ≡ Some r → (o : Option Resident) → client_at c new ≡ o → LivesOrEnds r (toplevels_of c old) o (toplevels_of c new) → IsKept c old new
    living r was None now k = absurd k
    living r was (Some q) now (inl k) = both r q was now k.0.surfaces k.0.peer.stores
    living r was (Some q) now (inr k) = inr (ap owned_of now ∙ ap (λ (x : Resident). x.owned) k.0.4)

    by : (r : Resident) → client_at c old ≡ Some r → (s : Option Cause) → KeepsItsOwnBy s r (toplevels_of c old) (client_at c new) (toplevels_of c new) → IsKept c old new
    by r was (Some cause) k = both r r was k refl refl
    by r was None k = living r was (client_at c new) refl k

    at : (o : Option Resident) → client_at c old ≡ o → KeepsItsOwnSo o (toplevels_of c old) (client_at c new) (toplevels_of c new) → IsKept c old new
    at None was k = inr (ap owned_of k)
    at (Some r) was k = by r was r.peer.status k

-- Neither a motion of the pointer nor a button shows a change that isn't damaged.
user-hides-nothing : (act : Act) (done : Done) (old new : Desktop) (c : ℕ) → client_of act done ≡ None → Happens act done old new → KeepsDamage all_windows old new c
user-hides-nothing act done old new c user h =
    hides-nothing all_windows old new c (all-shown old) (all-shown new)
    (own-kept c old new (own_stays act done c old new (λ e. none-some c (sym user ∙ e)) h))

-- what is asked of the others is what is wanted
enough : (liars : ℕ → Bool) (act : Act) (done : Done) (old new : Desktop) → Happens act done old new → KeepBut all_windows liars (Single act done) old new
    → AllDamageBut all_windows liars old new
enough liars (Store client store at bytes) done old new happens keep = λ c honest. write_hides_nothing old new client store at c bytes done happens (keep c honest)
enough liars (Tick time) done old new happens keep = λ c honest. (keep c honest).0
enough liars Connect done old new happens keep = keep
enough liars (Feed c piece) done old new happens keep = keep
enough liars (Leave c) done old new happens keep = keep
enough liars (Send c n) done old new happens keep = keep
enough liars (Close c) done old new happens keep = keep
enough liars (Motion time x y) done old new happens keep = λ c honest. user-hides-nothing (Motion time x y) done old new c refl happens
enough liars (Button time button pressed) done old new happens keep = λ c honest. user-hides-nothing (Button time button pressed) done old new c refl happens

-- Nor do bytes that come and are kept.
receive-hides-nothing : (client : ℕ) (piece : List ℕ) (o : Option Resident) (old : Desktop) (path : List Desktop) (new : Desktop) (c : ℕ) → client_at client old ≡ o
    → ReceivesAt client piece o old path new → KeepsDamage all_windows old new c
receive-hides-nothing client piece None old path new c there h = absurd h
receive-hides-nothing client piece (Some r) old path new c there h =
    let come : Resident = with_peer (with_rest (r.peer.rest ++ piece) r.peer) r in
    let now : Desktop = with_client client (Some come) old in
    let kept : IsKept c old now = kept-by c old now (put client c r (with_rest (r.peer.rest ++ piece) r.peer) old (client == c) refl there) (keeps-buffers old now c (stored (same-or client c))) in
    hides-nothing all_windows old new c (all-shown old) (all-shown new) (subst (λ (d : Desktop). IsKept c old d) (sym h.1) kept)
  where
    stored : (client ≡ c) ⊎ (client ≢ c) → (store : ℕ) → bytes_in (with_client client (Some (with_peer (with_rest (r.peer.rest ++ piece) r.peer) r)) old) c store ≡ bytes_in old c store
    stored (inl same) store =
        let come : Resident = with_peer (with_rest (r.peer.rest ++ piece) r.peer) r in
        let own : bytes_in (with_client client (Some come) old) client store ≡ bytes_in old client store =
        ap (bytes_by store) (number-same old.clients client (Some come) r there) ∙ sym (ap (bytes_by store) there) in
        subst (λ (n : ℕ). bytes_in (with_client client (Some come) old) n store ≡ bytes_in old n store) same own
    stored (inr differ) store = ap (bytes_by store) (number-other old.clients client c (Some (with_peer (with_rest (r.peer.rest ++ piece) r.peer) r)) differ)

pub promises_are_enough : PromisesAreEnough
promises_are_enough liars (Receive client piece) old path new leads keep = λ c honest. receive-hides-nothing client piece (client_at client old) old path new c refl leads
promises_are_enough liars (Message client) old path new leads keep = keep
promises_are_enough liars (Starve client) old path new leads keep = keep
promises_are_enough liars (Single act done) old path new leads keep = enough liars act done old new ((happens_leads_through act done old new).0 path leads) keep

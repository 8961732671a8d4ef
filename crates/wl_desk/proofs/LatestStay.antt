-- The serials of the latest press and release that each client was told of, where something happens that is no button, where clients are told,
-- and where they end.
use Rattle.std.proofs.Common.{◌≡◌, ◌≢◌, ℕ, List, [], ◌∷◌, Bool, true, false, Option, Some, None, refl, ap, subst, sym, ◌∙◌, inl, inr}
use Rattle.std.proofs.lemmas.Bool.{eqb-true, true≢false}
use Rattle.std.proofs.lemmas.Option.{none-some, same_Some}
use Rattle.std.specs.Prelude.{◌⊎◌, ◌||◌, ◌==◌, nat_lt, if◌then◌else◌, is_some, Ok, Err}
use Rattle.spec_desktop.specs.declared.cause.Cause.{Cause}
use Rattle.spec_desktop.specs.Peer.{Peer, ended}
use Rattle.spec_desktop.specs.Told.{Said}
use Rattle.spec_desktop.specs.declared.answers.ConnectError.{ConnectError}
use Rattle.spec_desktop.specs.declared.answers.Done.{Done}
use Rattle.spec_desktop.specs.declared.answers.Done.TheVariants as gave
use Rattle.spec_desktop.specs.Act.{Act, Button, Connect, Leave, Tick}
use Rattle.spec_desktop.specs.Desktop.{Desktop, Resident, client_at, resident_of, unpointed, with_client}
use Rattle.spec_desktop.specs.Happenings.{Happening, Leads, Message, Single, Starve}
use Rattle.spec_desktop.specs.Settling.{Midstep, Strike, Tells, TellsAt, TellsUnless, ended_at, ended_by, in_order, is_struck, struck_by, unstruck}
use Rattle.law_desktop.proofs.Runs.Fates.{same-or}
use Rattle.law_desktop.proofs.Runs.Places.{number-other, number-same}
use Rattle.law_desktop.specs.Pointed.Happenings.{IsEndOf, is_quiet}
use Rattle.law_desktop.specs.Pointed.Seats.{CameWithoutSerials, HadSerials, IsNoButton}
use Rattle.law_desktop.proofs.PointerAside.Serials.{serials-stay}
use Rattle.wl_clients.specs.Pointing.{IsLatest}
use Rattle.wl_clients.specs.declared.grabs.Latest.{Latest}
use Rattle.wl_desk.specs.Agreeing.{AreLatest}
use Rattle.wl_desk.specs.Serials.{AreNoted, KeepsSerials}
use Rattle.wl_desk.specs.View.{latest_of}

-- these are as before
pub latest-as : (l k : Latest) (r q : Resident) → k ≡ l → q.press ≡ r.press → q.release ≡ r.release → IsLatest l (Some r) → IsLatest k (Some q)
latest-as l k r q same press release is =
    (ap (λ (x : Latest). x.press) same ∙ is.0 ∙ sym press, ap (λ (x : Latest). x.release) same ∙ is.1 ∙ sym release)

-- ---- something happens

-- no button is pressed or released, and nobody comes
abbrev pub KeepsLatest : Happening → Type 0
KeepsLatest h = IsNoButton h × ((c : ℕ) → h ≢ Single Connect (gave.Connect (Ok c)))

pub latest-stay : (latest : List Latest) (h : Happening) (d : Desktop) (path : List Desktop) (e : Desktop) → KeepsLatest h → AreLatest latest (unstruck d)
    → Leads h (unpointed d) path e → AreLatest latest (unstruck e)
latest-stay latest h d path e keeps are leads c q there lives free = at (serials-stay h (unpointed d) path e c q keeps.0 leads there lives)
  where
    at : HadSerials (unpointed d) c q ⊎ CameWithoutSerials h c q → IsLatest (latest_of latest c) (Some q)
    at (inl had) = latest-as (latest_of latest c) (latest_of latest c) had.0 q refl had.3 had.4 (are c had.0 had.1 had.2 refl)
    at (inr came) = absurd (keeps.1 c came.0)

pub message-keeps : (c : ℕ) → KeepsLatest (Message c)
message-keeps c = (λ time button pressed done e. absurd (cc), λ k e. absurd (cc))

pub tick-keeps : (time : ℕ) → KeepsLatest (Single (Tick time) gave.Tick)
tick-keeps time = (λ t button pressed done e. absurd (cc), λ k e. absurd (cc))

pub fails-keep : (why : ConnectError) → KeepsLatest (Single Connect (gave.Connect (Err why)))
fails-keep why = (λ t button pressed done e. absurd (cc), λ k e. absurd (cc))

pub quiet-keeps : (act : Act) (done : Done) → is_quiet (Single act done) ≡ true → act ≢ Connect → KeepsLatest (Single act done)
quiet-keeps act done quiet apart = (λ time button pressed gives e. buttons time button pressed gives e, λ k e. apart (acts k e))
  where
    buttons : (time button : ℕ) (pressed : Bool) (gives : Done) → Single act done ≡ Single (Button time button pressed) gives → ⊥
    buttons time button pressed gives e = true≢false (sym quiet ∙ ap is_quiet e)

    acts : (k : ℕ) → Single act done ≡ Single Connect (gave.Connect (Ok k)) → act ≡ Connect
    acts k e = cc

pub end-keeps : (c : ℕ) (h : Happening) → IsEndOf c h → KeepsLatest h
end-keeps c h (inl starves) =
    (λ time button pressed done e. button-starve time button pressed done (sym e ∙ starves), λ k e. come-starve k (sym e ∙ starves))
  where
    button-starve : (time button : ℕ) (pressed : Bool) (done : Done) → Single (Button time button pressed) done ≡ Starve c → ⊥
    button-starve time button pressed done e = absurd (cc)

    come-starve : (k : ℕ) → Single Connect (gave.Connect (Ok k)) ≡ Starve c → ⊥
    come-starve k e = absurd (cc)
end-keeps c h (inr leaves) =
    (λ time button pressed done e. button-leave time button pressed done (sym e ∙ leaves), λ k e. come-leave k (sym e ∙ leaves))
  where
    button-leave : (time button : ℕ) (pressed : Bool) (done : Done) → Single (Button time button pressed) done ≡ Single (Leave c) (gave.Gone true) → ⊥
    button-leave time button pressed done e = absurd (cc)

    come-leave : (k : ℕ) → Single Connect (gave.Connect (Ok k)) ≡ Single (Leave c) (gave.Gone true) → ⊥
    come-leave k e = absurd (cc)

-- ---- one client is another

pub latest-put : (latest : List Latest) (c : ℕ) (r x : Resident) (d : Desktop) → client_at c d ≡ Some r → x.peer.status ≡ r.peer.status → x.press ≡ r.press → x.release ≡ r.release
    → AreLatest latest (unstruck d) → AreLatest latest (unstruck (with_client c (Some x) d))
latest-put latest c r x d there status press release are k q is lives free = at (same-or c k)
  where
    here : c ≡ k → x ≡ q
    here e = same_Some x q (sym (subst (λ (n : ℕ). client_at n (with_client c (Some x) d) ≡ Some x) e (number-same d.clients c (Some x) r there)) ∙ is)

    at : (c ≡ k) ⊎ (c ≢ k) → IsLatest (latest_of latest k) (Some q)
    at (inl e) =
        latest-as (latest_of latest k) (latest_of latest k) r q refl (sym (ap (λ (y : Resident). y.press) (here e)) ∙ press)
        (sym (ap (λ (y : Resident). y.release) (here e)) ∙ release)
        (are k r (subst (λ (n : ℕ). client_at n d ≡ Some r) e there) (sym status ∙ ap (λ (y : Resident). y.peer.status) (here e) ∙ lives) refl)
    at (inr true≢false) = are k q (sym (number-other d.clients c k (Some x) true≢false) ∙ is) lives refl

-- ---- who is to end

either-true : (a b : Bool) → b ≡ true → (a || b) ≡ true
either-true true b e = refl
either-true false b e = e

later-true : (a b c : Bool) → (b ≡ true → c ≡ true) → (a || b) ≡ true → (a || c) ≡ true
later-true true b c h e = refl
later-true false b c h e = h e

ordered-struck : (k : ℕ) (s : Strike) (ss : List Strike) → is_struck k ss ≡ true → is_struck k (in_order s ss) ≡ true
ordered-struck k s [] h = absurd (true≢false (sym h))
ordered-struck k s (t ∷ ts) h = at (ordered-struck k s ts) (nat_lt s.client t.client)
  where
    at : (is_struck k ts ≡ true → is_struck k (in_order s ts) ≡ true) → (b : Bool) → is_struck k (if b then s ∷ t ∷ ts else t ∷ in_order s ts) ≡ true
    at later true = either-true (s.client == k) (is_struck k (t ∷ ts)) h
    at later false = later-true (t.client == k) (is_struck k ts) (is_struck k (in_order s ts)) later h

-- one that isn't to end now wasn't before one more was
free-before : (k c : ℕ) (why : Option Cause) (ss : List Strike) → is_struck k (struck_by c why ss) ≡ false → is_struck k ss ≡ false
free-before k c None ss free = free
free-before k c (Some cause) ss free = at (is_struck k ss) refl
  where
    at : (b : Bool) → is_struck k ss ≡ b → b ≡ false
    at false e = refl
    at true e = absurd (true≢false (sym (ordered-struck k (record { client = c; cause = cause }) ss e) ∙ free))

either-free : (a b : Bool) → (a || b) ≡ false → (a ≡ false) × (b ≡ false)
either-free false false e = (refl, refl)
either-free false true e = absurd (true≢false e)
either-free true b e = absurd (true≢false e)

lives-not : (s : Option Cause) → is_some s ≡ false → s ≡ None
lives-not None e = refl
lives-not (Some cause) e = absurd (true≢false e)

-- ---- one client is told

-- who isn't told keeps its serials, and of who is these are noted
module _ (was now : List Latest) (change : Resident → Resident) (events : Resident → List Said) (c : ℕ) (m n : Midstep)
    (noted : AreNoted was now c change (client_at c m.desktop)) (are : AreLatest was m) where
  -- another client
  other : (k : ℕ) (r : Resident) → k ≢ c → client_at k m.desktop ≡ Some r → r.peer.status ≡ None → is_struck k m.struck ≡ false → IsLatest (latest_of now k) (Some r)
  other k r apart there lives free =
      latest-as (latest_of was k) (latest_of now k) r r (noted.others k apart) refl refl (are k r there lives free)

  -- nobody is told
  stays : n ≡ m → ((r : Resident) → client_at c m.desktop ≡ Some r → r.peer.status ≡ None → is_struck c m.struck ≡ false → ⊥) → AreLatest now n
  stays same never = subst (λ (x : Midstep). AreLatest now x) (sym same) here
    where
      here : AreLatest now m
      here k r there lives free = at (same-or c k)
        where
          at : (c ≡ k) ⊎ (c ≢ k) → IsLatest (latest_of now k) (Some r)
          at (inl e) =
              absurd (never r (subst (λ (j : ℕ). client_at j m.desktop ≡ Some r) (sym e) there) lives (subst (λ (j : ℕ). is_struck j m.struck ≡ false) (sym e) free))
          at (inr apart) = other k r (λ e. apart (sym e)) there lives free

  put : (r : Resident) (q : Peer) (why : Option Cause) → client_at c m.desktop ≡ Some r → r.peer.status ≡ None → is_struck c m.struck ≡ false
      → AreLatest now (record { desktop = with_client c (Some (record (change r) { peer = q })) m.desktop; struck = struck_by c why m.struck })
  put r q why there lives spared k x found alive free = by (same-or c k)
    where
      by : (c ≡ k) ⊎ (c ≢ k) → IsLatest (latest_of now k) (Some x)
      by (inl e) =
          let told : Resident = record (change r) { peer = q } in
          let own : Some told ≡ Some x =
          sym (number-same m.desktop.clients c (Some told) r there) ∙ subst (λ (j : ℕ). client_at j (with_client c (Some told) m.desktop) ≡ Some x) (sym e) found in
          subst (λ (y : Resident). IsLatest (latest_of now k) (Some y)) (same_Some told x own)
          (subst (λ (j : ℕ). IsLatest (latest_of now j) (Some (change r))) e (noted.own r there lives (are c r there lives spared)))
      by (inr apart) =
          other k x (λ e. apart (sym e)) (sym (number-other m.desktop.clients c k (Some (record (change r) { peer = q })) apart) ∙ found) alive
          (free-before k c why m.struck free)

  unless : (b : Bool) (r : Resident) → client_at c m.desktop ≡ Some r → (is_some r.peer.status || is_struck c m.struck) ≡ b → TellsUnless b change events c r m n → AreLatest now n
  unless true r there e h = stays h (λ q is lives free. never q is lives free)
    where
      never : (q : Resident) → client_at c m.desktop ≡ Some q → q.peer.status ≡ None → is_struck c m.struck ≡ false → ⊥
      never q is lives free =
          let same : r ≡ q = same_Some r q (sym there ∙ is) in
          let status : r.peer.status ≡ None = ap (λ (y : Resident). y.peer.status) same ∙ lives in
          true≢false (sym e ∙ ap (λ (s : Option Cause). is_some s || is_struck c m.struck) status ∙ free)
  unless false r there e h =
      let both = either-free (is_some r.peer.status) (is_struck c m.struck) e in
      subst (λ (x : Midstep). AreLatest now x) (sym h.3) (put r h.0 h.1 there (lives-not r.peer.status both.0) both.1)

  tells-at : (o : Option Resident) → client_at c m.desktop ≡ o → TellsAt change events c o m n → AreLatest now n
  tells-at None there h = stays h (λ r is lives free. none-some r (sym there ∙ is))
  tells-at (Some r) there h = unless (is_some r.peer.status || is_struck c m.struck) r there refl h

  pub tells-latest : Tells change events c m n → AreLatest now n
  tells-latest h = tells-at (client_at c m.desktop) refl h

-- a change that leaves the serials leaves those that are kept
pub keeps-noted : (was now : List Latest) (c : ℕ) (change : Resident → Resident) (o : Option Resident) → KeepsSerials change → now ≡ was → AreNoted was now c change o
keeps-noted was now c change o keeps same = record {
  own = λ r there lives is. latest-as (latest_of was c) (latest_of now c) r (change r) (ap (λ (l : List Latest). latest_of l c) same) (keeps r).0 (keeps r).1 is;
  others = λ k apart. ap (λ (l : List Latest). latest_of l k) same;
}

-- ---- one client ends

eqb-apart : (i j : ℕ) → i ≢ j → (i == j) ≡ false
eqb-apart i j apart = at (i == j) refl
  where
    at : (b : Bool) → (i == j) ≡ b → b ≡ false
    at false e = refl
    at true e = absurd (apart (eqb-true i j e))

module _ (latest : List Latest) (s : Strike) (ss : List Strike) (m : Midstep) (r : Resident) (struck : m.struck ≡ s ∷ ss) (there : client_at s.client m.desktop ≡ Some r)
    (are : AreLatest latest m) where
  abbrev gone : Resident
  gone = resident_of (ended s.cause r.peer)

  free-still : (k : ℕ) → s.client ≢ k → is_struck k ss ≡ false → is_struck k m.struck ≡ false
  free-still k apart free =
      ap (is_struck k) struck ∙ ap (λ (b : Bool). b || is_struck k ss) (eqb-apart s.client k apart) ∙ free

  pub ended-latest : AreLatest latest (record { desktop = ended_by s m.desktop; struck = ss })
  ended-latest = subst (λ (o : Option Resident). AreLatest latest (record { desktop = ended_at s.client s.cause o m.desktop; struck = ss })) (sym there) others
    where
      others : AreLatest latest (record { desktop = ended_at s.client s.cause (Some r) m.desktop; struck = ss })
      others k x found alive free = by (same-or s.client k)
        where
          by : (s.client ≡ k) ⊎ (s.client ≢ k) → IsLatest (latest_of latest k) (Some x)
          by (inl e) =
              let own : client_at s.client (ended_at s.client s.cause (Some r) m.desktop) ≡ Some x =
              subst (λ (j : ℕ). client_at j (ended_at s.client s.cause (Some r) m.desktop) ≡ Some x) (sym e) found in
              let same : gone ≡ x = same_Some gone x (sym (number-same m.desktop.clients s.client (Some gone) r there) ∙ own) in
              absurd (none-some s.cause (sym (ap (λ (y : Resident). y.peer.status) same ∙ alive)))
          by (inr apart) =
              are k x (sym (number-other m.desktop.clients s.client k (Some gone) apart) ∙ found) alive (free-still k apart free)

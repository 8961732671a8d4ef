-- Clients that ended stay so, and each round ends one that lives.
use Rattle.std.proofs.Common.{◌≡◌, ◌≢◌, ℕ, zero, suc, ◌≤◌, List, [], ◌∷◌, ◌++◌, length, false, true, Option, Some, None, refl, ap, ap₂, subst, sym, ◌∙◌, arith, inl, inr}
use Rattle.std.proofs.lemmas.Option.{none-some, same_Some}
use Rattle.std.specs.Prelude.{◌⊎◌, is_some}
use Rattle.spec_desktop.specs.declared.cause.Cause.{Cause}
use Rattle.spec_desktop.specs.declared.cause.Cause.TheVariants as cause
use Rattle.spec_desktop.specs.Peer.{Peer, ended, with_rest}
use Rattle.spec_desktop.specs.PointerActions.{Settle}
use Rattle.spec_desktop.specs.declared.answers.Done.{Done}
use Rattle.spec_desktop.specs.declared.answers.Done.TheVariants as gave
use Rattle.spec_desktop.specs.Act.{Act, Connect, Feed, Store, Leave, Tick, Send, Close, Motion, Button, IsClosed}
use Rattle.spec_desktop.specs.Desktop.{Desktop, Resident, client_at, place, resident_of, status_in, status_of}
use Rattle.spec_desktop.specs.Happenings.{Happening, Leads, Message, Receive, ReceivesAt, Single, Starve, StarvesAt}
use Rattle.spec_desktop.specs.Happens.{ChangesThen}
use Rattle.spec_desktop.specs.Settling.{Midstep, Strike, becomes, ended_at, ended_by, unstruck}
use Rattle.spec_desktop.specs.Step.{with_peer}
use Rattle.spec_desktop.specs.Through.{ending_through}
use Rattle.law_desktop.proofs.Runs.Ends.{acts-lead, ended-after}
use Rattle.law_desktop.proofs.Runs.Fates.{AreStruck, Follows, Lives, follows-on, lasting, one_more, same-or, still}
use Rattle.law_desktop.proofs.Runs.OneRun.{few-of}
use Rattle.law_desktop.proofs.Runs.Places.{number-other}
use Rattle.law_desktop.proofs.Runs.Serves.{becomes-after, serves-leads, settled-leads}
use Rattle.law_desktop.proofs.Runs.Stays.{ends_stay}
use Rattle.law_desktop.proofs.Runs.Through.{happens_leads_through, messages_lead_through, settling-without}
use Rattle.law_desktop.specs.Pointed.Rounds.{AreRounds, IsRound}
use Rattle.law_desktop.specs.Pointed.Seats.{EndedStay, RoundsEndClients}
use Rattle.law_desktop.proofs.PointerAside.Noted.{HeedsNothing, acts-keep, kept-status, noted_in, put-noted}
use Rattle.law_desktop.proofs.PointerAside.Rounds.{of-end, rounds-fewer}

-- ---- round by round

-- what a round leads to, with those that are to end then
round-follows : (old new : Midstep) (path : List Desktop) → AreStruck old.struck old.desktop.clients → IsRound old path new
    → Follows old.struck old.desktop.clients new.struck new.desktop.clients
round-follows old new path struck round =
    let s : Strike = round.1 in
    let now : Desktop = round.0.desktop in
    let settles = (acts-lead Settle old struck).follows round.0 round.3 in
    let there : Follows old.struck old.desktop.clients (s ∷ round.2) now.clients = subst (λ (ss : List Strike). Follows old.struck old.desktop.clients ss now.clients) round.4 settles in
    subst (λ (m : Midstep). Follows old.struck old.desktop.clients m.struck m.desktop.clients) (sym round.6) (follows-on there (ended-after s round.2 now there.sound))

rounds-follow : (n : ℕ) (old new : Midstep) (path : List Desktop) → AreStruck old.struck old.desktop.clients → AreRounds n old path new
    → Follows old.struck old.desktop.clients new.struck new.desktop.clients
rounds-follow zero old new path struck rounds =
    subst (λ (m : Midstep). Follows old.struck old.desktop.clients m.struck m.desktop.clients) (sym rounds.1) (still old.struck old.desktop.clients struck)
rounds-follow (suc n) old new path struck rounds =
    let before = rounds-follow n old rounds.1 rounds.0 struck rounds.3 in follows-on before (round-follows rounds.1 new rounds.2 before.sound rounds.4)

-- as many last where the same have ended
lasting-same : (rs us : List (Option Resident)) → length us ≡ length rs → ((k : ℕ) → status_of (place us k) ≡ status_of (place rs k)) → lasting us ≡ lasting rs
lasting-same [] [] long same = refl
lasting-same [] (u ∷ us) long same = absurd (cc)
lasting-same (r ∷ rs) [] long same = absurd (cc)
lasting-same (r ∷ rs) (u ∷ us) long same =
    let shorter : length us ≡ length rs = omega (arith, long) in
    ap₂ (λ (s : Option Cause) (n : ℕ). one_more s n) (same zero) (lasting-same rs us shorter (λ k. same (suc k)))

pub rounds-end-clients : RoundsEndClients
rounds-end-clients n old new path struck rounds same =
    let sound = of-end old.struck old.desktop struck in
    let long = (rounds-follow n old new path sound rounds).long in
    let lasts : lasting new.desktop.clients ≡ lasting old.desktop.clients = lasting-same old.desktop.clients new.desktop.clients long (λ k. same (suc k)) in
    let fewer = (rounds-fewer n old new path sound rounds).1 in
    omega (arith, lasts, fewer)

-- who ended isn't who ends
ended-stays : (s : Strike) (d : Desktop) (c : ℕ) (why : Cause) → Lives s.client d.clients → status_in c d ≡ Some why → status_in c (ended_by s d) ≡ Some why
ended-stays s d c why lives is = at (same-or s.client c)
  where
    at : (s.client ≡ c) ⊎ (s.client ≢ c) → status_in c (ended_by s d) ≡ Some why
    at (inl here) = absurd (none-some why (sym (ap status_of lives.is ∙ lives.alive) ∙ subst (λ (n : ℕ). status_in n d ≡ Some why) (sym here) is))
    at (inr away) =
        ap (λ (o : Option Resident). status_in c (ended_at s.client s.cause o d)) lives.is
        ∙ ap status_of (number-other d.clients s.client c (Some (resident_of (ended s.cause lives.there.peer))) away) ∙ is

-- of a client that ended nothing else is noted
abbrev nothing : Resident → Unit {0}
nothing r = tt

nothing-heeds : HeedsNothing nothing
nothing-heeds = record { peer = λ p r. refl; grabs = λ r. refl; callbacks = λ gone r. refl }

round-stays : (old new : Midstep) (path : List Desktop) (c : ℕ) (why : Cause) → AreStruck old.struck old.desktop.clients → IsRound old path new
    → status_in c old.desktop ≡ Some why → status_in c new.desktop ≡ Some why
round-stays old new path c why struck round is =
    let s : Strike = round.1 in
    let now : Desktop = round.0.desktop in
    let there : AreStruck (s ∷ round.2) now.clients = subst (λ (ss : List Strike). AreStruck ss now.clients) round.4 ((acts-lead Settle old struck).follows round.0 round.3).sound in
    let settled : status_in c now ≡ Some why = kept-status nothing old.desktop now c (acts-keep nothing nothing-heeds Settle old round.0 tt round.3) ∙ is in
    ap (λ (m : Midstep). status_in c m.desktop) round.6 ∙ ended-stays s now c why there.0 settled

rounds-stay : (n : ℕ) (old new : Midstep) (path : List Desktop) (c : ℕ) (why : Cause) → AreStruck old.struck old.desktop.clients → AreRounds n old path new
    → status_in c old.desktop ≡ Some why → status_in c new.desktop ≡ Some why
rounds-stay zero old new path c why struck rounds is = ap (λ (m : Midstep). status_in c m.desktop) rounds.1 ∙ is
rounds-stay (suc n) old new path c why struck rounds is =
    round-stays rounds.1 new rounds.2 c why (rounds-follow n old rounds.1 rounds.0 struck rounds.3).sound rounds.4 (rounds-stay n old rounds.1 rounds.0 c why struck rounds.3 is)

-- ---- whatever happens

-- the number that is given back
abbrev closed : Act → Option ℕ
closed (Close c) = Some c
closed act = None

module _ (d : Desktop) (path : List Desktop) (e : Desktop) (c : ℕ) (why : Cause) (short : length d.clients ≤ 32) (is : status_in c d ≡ Some why) where
  received : (a : ℕ) (piece : List ℕ) (o : Option Resident) → client_at a d ≡ o → ReceivesAt a piece o d path e → status_in c e ≡ Some why
  received a piece None there h = absurd h
  received a piece (Some r) there h =
      let come : Resident = with_peer (with_rest (r.peer.rest ++ piece) r.peer) r in
      kept-status nothing d e c (λ n. ap (λ (x : Desktop). noted_in nothing n x) h.1 ∙ put-noted nothing a (Some come) r d there refl n) ∙ is

  starved : (a : ℕ) (o : Option Resident) → client_at a d ≡ o → StarvesAt a o d path e → status_in c e ≡ Some why
  starved a None there h = absurd h
  starved a (Some r) there h =
      let lives : Lives a d.clients = record { there = r; is = there; alive = h.0 } in
      let over : Peer = ended cause.Memory r.peer in
      let settles = (settled-leads a d lives (few-of d short) r over).follows e (settling-without path e (unstruck (becomes a r over d)) h.1) in
      (follows-on (becomes-after a d lives r over) settles).keeps c why is

  single : (act : Act) (done : Done) → act ≢ Close c → Leads (Single act done) d path e → status_in c e ≡ Some why
  single act done apart h = ends_stay act done d e c why short ((happens_leads_through act done d e).0 path h) apart is

  other-act : (act : Act) (done : Done) → closed act ≡ None → Leads (Single act done) d path e → status_in c e ≡ Some why
  other-act act done none h = single act done (λ same. none-some c (sym none ∙ ap closed same)) h

  -- to give back its own number is granted
  granted : (done : Done) (o : Option Resident) → status_of o ≡ Some why → ChangesThen IsClosed (gave.Close false) c o d done (ending_through path e) → done ≡ gave.Close true
  granted done None status h = absurd (none-some why status)
  granted done (Some r) status (None, h, last) = h.1 ∙ ap (λ (s : Option Cause). gave.Close (is_some s)) status
  granted done (Some r) status (Some q, h, last) = h.1 ∙ ap (λ (s : Option Cause). gave.Close (is_some s)) status

  closes : (a : ℕ) (done : Done) → Single (Close a) done ≢ Single (Close c) (gave.Close true) → Leads (Single (Close a) done) d path e → status_in c e ≡ Some why
  closes a done apart h = at (same-or a c)
    where
      at : (a ≡ c) ⊎ (a ≢ c) → status_in c e ≡ Some why
      at (inr away) = single (Close a) done (λ same. away (same_Some a c (ap closed same))) h
      at (inl here) =
          let own : Leads (Single (Close c) done) d path e = subst (λ (n : ℕ). Leads (Single (Close n) done) d path e) here h in
          absurd (apart (ap₂ (λ (n : ℕ) (x : Done). Single (Close n) x) here (granted done (client_at c d) is own)))

  happened : (h : Happening) → Leads h d path e → h ≢ Single (Close c) (gave.Close true) → status_in c e ≡ Some why
  happened (Receive a piece) leads apart = received a piece (client_at a d) refl leads
  happened (Message a) leads apart = ((serves-leads a d (few-of d short)).follows e ((messages_lead_through a d e).0 path leads)).keeps c why is
  happened (Starve a) leads apart = starved a (client_at a d) refl leads
  happened (Single Connect done) leads apart = other-act Connect done refl leads
  happened (Single (Feed a piece) done) leads apart = absurd leads
  happened (Single (Store a store at bytes) done) leads apart = other-act (Store a store at bytes) done refl leads
  happened (Single (Leave a) done) leads apart = other-act (Leave a) done refl leads
  happened (Single (Tick time) done) leads apart = other-act (Tick time) done refl leads
  happened (Single (Send a n) done) leads apart = other-act (Send a n) done refl leads
  happened (Single (Close a) done) leads apart = closes a done apart leads
  happened (Single (Motion time x y) done) leads apart = other-act (Motion time x y) done refl leads
  happened (Single (Button time button pressed) done) leads apart = other-act (Button time button pressed) done refl leads

pub ended-stay : EndedStay
ended-stay = (
  λ h d path e c why short leads apart is. happened d path e c why short is h leads apart,
  λ n old new path c why struck rounds is. rounds-stay n old new path c why (of-end old.struck old.desktop struck) rounds is,
)

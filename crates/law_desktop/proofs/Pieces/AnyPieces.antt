-- Two pieces of a client's stream lead where they lead as one.
use Rattle.std.proofs.Common.{◌≡◌, ℕ, zero, suc, List, ◌++◌, true, Option, Some, None, refl, ap, subst, sym, ◌∙◌, inl, inr, append_assoc}
use Rattle.spec_desktop.specs.declared.cause.Cause.{Cause}
use Rattle.spec_desktop.specs.declared.cause.Cause.TheVariants.{Memory}
use Rattle.spec_desktop.specs.Peer.{IsIdle, ended}
use Rattle.spec_desktop.specs.Stacking.{without_client}
use Rattle.spec_desktop.specs.declared.answers.Done.{Done}
use Rattle.law_desktop.specs.AnyPieces.{AnyPieces}
use Rattle.spec_desktop.specs.Desktop.{Desktop, Resident, client_at, resident_of, with_client}
use Rattle.spec_desktop.specs.Settling.{EndsAndSettles, becomes, pointer_without, unstruck}
use Rattle.spec_desktop.specs.Happens.{FeedsAt, IsFedAt, Reaches, StopsAt}
use Rattle.law_desktop.proofs.Pieces.Behind.{with_behind}
use Rattle.law_desktop.proofs.Runs.Places.{client-kept, client-twice, number-same}
use Rattle.law_desktop.proofs.Isolation.Settling.{Stays, settled-in}
use Rattle.law_desktop.proofs.Isolation.Told.{TellsFocus}
use Rattle.law_desktop.proofs.Pieces.Places.{behind, longer_client, longer_in, put-here}
use Rattle.law_desktop.proofs.Pieces.Serving.{behind-there, more_behind, reaches-longer}

-- ---- a client that ended

abbrev HasEnded : Option Resident → Type 0
HasEnded None = ⊥
HasEnded (Some r) = (cause : Cause) × (r.peer.status ≡ Some cause)

-- whatever clients are told
abbrev IsToldAny : Resident → Resident → Option Cause → Type 0
IsToldAny r q why = Unit {0}

any-focus : TellsFocus IsToldAny
any-focus = record { leave = λ surface r q why h. tt; enter = λ at w r q why h. tt }

lives-not : (s : Option Cause) (cause : Cause) → s ≡ None → s ≡ Some cause → ⊥
lives-not s cause e f = absurd (cc)

ended-stays : Stays IsToldAny (λ o tops. HasEnded o) (λ r cause. Unit {0})
ended-stays = record {
  told = λ r q tops why alive has so. absurd (lives-not r.peer.status has.0 alive has.1);
  untold = λ r q tops cause alive has so. tt;
  ends = λ r tops cause has so. (cause, refl);
  again = λ r cause other so more. tt;
}

-- it stays so while the focus is settled
lacks-ended : (c : ℕ) (r : Resident) (d new : Desktop) → client_at c d ≡ Some r → EndsAndSettles (unstruck (becomes c r (ended Memory r.peer) d)) new → HasEnded (client_at c new)
lacks-ended c r d new is h =
    let gone : Resident = resident_of (ended Memory r.peer) in
    let there : HasEnded (client_at c (becomes c r (ended Memory r.peer) d)) = subst (λ (o : Option Resident). HasEnded o) (sym (number-same d.clients c (Some gone) r is)) (Memory, refl) in
    settled-in c IsToldAny any-focus (λ o tops. HasEnded o) (λ r cause. Unit {0}) ended-stays (becomes c r (ended Memory r.peer) d) new there h

one_client : (o : Option Resident) (r m : Resident) → o ≡ Some r → o ≡ Some m → m ≡ r
one_client o r m e f = cc

module _ (c : ℕ) where
  reaches-join : (n k : ℕ) (d mid new : Desktop) → Reaches c n d mid → Reaches c k mid new → (j : ℕ) × Reaches c j d new
  reaches-join n zero d mid new r s = (n, subst (λ (e : Desktop). Reaches c n d e) (sym s) r)
  reaches-join n (suc k) d mid new r s =
      let j = reaches-join n k d mid s.0 r s.1 in
      (suc j.0, (s.0, j.1, s.2))

  -- a client is fed
  abbrev Feeds : List ℕ → Resident → Desktop → Desktop → Type 0
  Feeds piece r d new = FeedsAt c piece r.peer.status r d new

  after_end : (piece : List ℕ) (r : Resident) (d new : Desktop) (cause : Cause) → r.peer.status ≡ Some cause → Feeds piece r d new → new ≡ d
  after_end piece r d new cause e h = subst (λ (s : Option Cause). FeedsAt c piece s r d new) e h

  -- ---- it is there after a piece

  abbrev IsThere : Desktop → Type 0
  IsThere d = (m : Resident) × (client_at c d ≡ Some m)

  ended-there : (d : Desktop) → HasEnded (client_at c d) → (m : Resident) × (client_at c d ≡ Some m) × HasEnded (Some m)
  ended-there d h = at (client_at c d) refl h
    where
      at : (o : Option Resident) → client_at c d ≡ o → HasEnded o → (m : Resident) × (client_at c d ≡ Some m) × HasEnded (Some m)
      at None is k = absurd k
      at (Some m) is k = (m, is, k)

  stops-there : (o : Option Resident) (d new : Desktop) → client_at c d ≡ o → StopsAt c o d new → IsThere new
  stops-there None d new is h = absurd h
  stops-there (Some r) d new is (inl h) = (r, ap (λ (e : Desktop). client_at c e) h.0 ∙ is)
  stops-there (Some r) d new is (inr h) = let there = ended-there new (lacks-ended c r d new is h.1) in (there.0, there.1)

  feeds-there : (piece : List ℕ) (s : Option Cause) (r : Resident) (d new : Desktop) → client_at c d ≡ Some r → FeedsAt c piece s r d new → IsThere new
  feeds-there piece (Some cause) r d new is h = (r, ap (λ (e : Desktop). client_at c e) h ∙ is)
  feeds-there piece None r d new is h = stops-there (client_at c h.1) h.1 new refl h.3

  -- ---- two pieces

  -- where as many messages lead, and what is done there
  abbrev Ends : Desktop → Desktop → Type 0
  Ends start new = (n : ℕ) × (last : Desktop) × Reaches c n start last × StopsAt c (client_at c last) last new

  -- more bytes behind those that had come
  comes : (a b : List ℕ) (r : Resident) (d : Desktop) → client_at c d ≡ Some r → r.peer.status ≡ None
      → longer_in c b (with_client c (Some (more_behind a r)) d) ≡ with_client c (Some (more_behind (a ++ b) r)) d
  comes a b r d is alive =
      put-here c b (more_behind a r) r d is ∙ client-twice c (longer_client true b (Some (more_behind a r))) (longer_client true b (client_at c d)) d
      ∙ ap (λ (s : Option Cause). with_client c (Some (with_behind (behind true s (r.peer.rest ++ a) b) r)) d) alive
      ∙ ap (λ (rest : List ℕ). with_client c (Some (with_behind rest r)) d) (append_assoc r.peer.rest a b)

  -- a client that stopped, since nothing was left to take
  go_on : (b : List ℕ) (start mid new : Desktop) (n : ℕ) (r : Resident) (s : Option Cause) → r.peer.status ≡ s → client_at c mid ≡ Some r → Reaches c n start (longer_in c b mid)
      → IsIdle r.peer → Feeds b r mid new → Ends start new
  go_on b start mid new n r (Some cause) e is reaches idle k =
      let dropped : longer_client true b (client_at c mid) ≡ client_at c mid =
      ap (λ (o : Option Resident). longer_client true b o) is ∙ ap (λ (s : Option Cause). Some (with_behind (behind true s r.peer.rest b) r)) e ∙ sym is in
      let same : longer_in c b mid ≡ mid = ap (λ (o : Option Resident). with_client c o mid) dropped ∙ client-kept c mid in (
        n,
        mid,
        subst (λ (d : Desktop). Reaches c n start d) same reaches,
        subst (λ (o : Option Resident). StopsAt c o mid new) (sym is) (inl (after_end b r mid new cause e k, idle)),
      )
  go_on b start mid new n r None e is reaches idle k =
      let later : FeedsAt c b None r mid new = subst (λ (s : Option Cause). FeedsAt c b s r mid new) e k in
      let same : longer_in c b mid ≡ with_client c (Some (more_behind b r)) mid =
      ap (λ (o : Option Resident). with_client c (longer_client true b o) mid) is
      ∙ ap (λ (s : Option Cause). with_client c (Some (with_behind (behind true s r.peer.rest b) r)) mid) e in
      let joined = reaches-join n later.0 start (with_client c (Some (more_behind b r)) mid) later.1 (subst (λ (d : Desktop). Reaches c n start d) same reaches) later.2 in
      (joined.0, later.1, joined.1, later.3)

  -- a client that ended, since memory was wanted
  go_down : (b : List ℕ) (start mid new : Desktop) (n : ℕ) (r : Resident) → r.peer.status ≡ None → client_at c mid ≡ Some r → Reaches c n start (longer_in c b mid)
      → EndsAndSettles (unstruck (becomes c r (ended Memory r.peer) mid)) new → Ends start new
  go_down b start mid new n r alive is reaches gone =
      let last : Desktop = longer_in c b mid in
      let same : becomes c r (ended Memory r.peer) mid ≡ becomes c (more_behind b r) (ended Memory r.peer) last =
      ap (λ (d : Desktop). record d { standing = without_client c mid.standing; pointer = pointer_without c mid.pointer })
      (sym (client-twice c (Some (resident_of (ended Memory r.peer))) (longer_client true b (client_at c mid)) mid)) in (
        n,
        last,
        reaches,
        subst (λ (o : Option Resident). StopsAt c o last new) (sym (behind-there c b r mid is alive))
            (inr (alive, subst (λ (d : Desktop). EndsAndSettles (unstruck d) new) same gone)),
      )

  stopped : (b : List ℕ) (start last mid new : Desktop) (n : ℕ) (o : Option Resident) (m : Resident) → client_at c last ≡ o → client_at c mid ≡ Some m → Reaches c n start (longer_in c b last)
      → StopsAt c o last mid → Feeds b m mid new → Ends start new
  stopped b start last mid new n None m is now reaches stop k = absurd stop
  stopped b start last mid new n (Some r) m is now reaches (inl stop) k =
      let same : m ≡ r = one_client (client_at c last) r m is (ap (λ (d : Desktop). client_at c d) (sym stop.0) ∙ now) in
      let moved = subst (λ (d : Desktop). Feeds b m d new) stop.0 k in
      go_on b start last new n r r.peer.status refl is reaches stop.1 (subst (λ (x : Resident). Feeds b x last new) same moved)
  stopped b start last mid new n (Some r) m is now reaches (inr stop) k =
      let there = ended-there mid (lacks-ended c r last mid is stop.1) in
      let same : m ≡ there.0 = one_client (client_at c mid) there.0 m there.1 now in
      let none : new ≡ mid = after_end b m mid new there.2.0 (ap (λ (x : Resident). x.peer.status) same ∙ there.2.1) k in
      go_down b start last new n r stop.0 is reaches
      (subst (λ (e : Desktop). EndsAndSettles (unstruck (becomes c r (ended Memory r.peer) last)) e) (sym none) stop.1)

  join : (a b : List ℕ) (s : Option Cause) (r m : Resident) (old mid new : Desktop) → r.peer.status ≡ s → client_at c old ≡ Some r → client_at c mid ≡ Some m → FeedsAt c a s r old mid
      → Feeds b m mid new → FeedsAt c (a ++ b) s r old new
  join a b (Some cause) r m old mid new e is now h k =
      let same : m ≡ r = one_client (client_at c old) r m is (ap (λ (d : Desktop). client_at c d) (sym h) ∙ now) in
      after_end b m mid new cause (ap (λ (x : Resident). x.peer.status) same ∙ e) k ∙ h
  join a b None r m old mid new e is now h k =
      let start : Desktop = with_client c (Some (more_behind (a ++ b) r)) old in
      let reaches = subst (λ (d : Desktop). Reaches c h.0 d (longer_in c b h.1)) (comes a b r old is e)
      (reaches-longer c b h.0 (with_client c (Some (more_behind a r)) old) h.1 h.2) in
      stopped b start h.1 mid new h.0 (client_at c h.1) m refl now reaches h.3 k

  fed-both : (a b : List ℕ) (o : Option Resident) (old mid new : Desktop) (first second : Done) → client_at c old ≡ o → IsFedAt c a o old first mid
      → IsFedAt c b (client_at c mid) mid second new → IsFedAt c (a ++ b) o old second new
  fed-both a b None old mid new first second is h k =
      let none : client_at c mid ≡ None = ap (λ (d : Desktop). client_at c d) h.1 ∙ is in
      let gone = subst (λ (o : Option Resident). IsFedAt c b o mid second new) none k in
      (gone.0, gone.1 ∙ h.1)
  fed-both a b (Some r) old mid new first second is h k =
      let there = feeds-there a r.peer.status r old mid is h.0 in
      let more = subst (λ (o : Option Resident). IsFedAt c b o mid second new) there.1 k in
      (join a b r.peer.status r there.0 old mid new refl is there.1 h.0 more.0, more.1)

pub any_pieces : AnyPieces
any_pieces c a b first second old mid new h k = fed-both c a b (client_at c old) old mid new first second refl h k

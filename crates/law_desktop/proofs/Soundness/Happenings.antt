-- What happens one message at a time leads through orderly desktops, which are sound; and a piece is the messages that it completes.
use Rattle.std.proofs.Common.{◌≡◌, ◌⊎◌, ℕ, zero, suc, List, [], ◌∷◌, ◌++◌, Option, Some, None, ap, refl, subst, sym, inl, inr}
use Rattle.std.specs.Prelude.{replicate}
use Rattle.spec_desktop.specs.declared.cause.Cause.{Cause}
use Rattle.spec_desktop.specs.declared.cause.Cause.TheVariants.{Memory}
use Rattle.spec_desktop.specs.Peer.{ended, with_rest}
use Rattle.spec_desktop.specs.declared.answers.Done.{Done}
use Rattle.spec_desktop.specs.declared.answers.Done.TheVariants as gave
use Rattle.spec_desktop.specs.declared.answers.Fed.TheVariants.{NoClient}
use Rattle.spec_desktop.specs.Act.{fed_of}
use Rattle.spec_desktop.specs.Desktop.{Desktop, Resident, client_at, empty, status_in, with_client}
use Rattle.spec_desktop.specs.Happenings.{ArePieceAt, ArePieceBy, Happening, HasTakenAll, HasTakenAllAt, LeadsAll, Message, Receive, ReceivesAt, Starve, StarvesAt, bytes_then_messages}
use Rattle.law_desktop.specs.Happenings.{HappeningsAreSound, PieceIsMessages}
use Rattle.spec_desktop.specs.Settling.{becomes, unstruck}
use Rattle.spec_desktop.specs.Step.{with_peer}
use Rattle.spec_desktop.specs.Happens.{FeedsAt, IsFedAt, Reaches, Serves, StopsAt}
use Rattle.law_desktop.proofs.Soundness.Orderly.{AreOrderly}
use Rattle.law_desktop.proofs.Soundness.Run.{empty-orderly}
use Rattle.law_desktop.proofs.Soundness.RunIsSound.{orderly-is-sound}
use Rattle.law_desktop.proofs.Soundness.Within.{all-sound, leads-known, leads-orderly}
use Rattle.law_desktop.proofs.Runs.Through.{messages_lead_through, settling-with, settling-without}

-- ---- each leads through sound desktops to an orderly one

leads-all-orderly : (hs : List Happening) (d e : Desktop) → AreOrderly d → LeadsAll hs d e → AreOrderly e
leads-all-orderly [] d e orderly h = rw h orderly
leads-all-orderly (one ∷ hs) d e orderly h =
    leads-all-orderly hs h.1 e (leads-orderly one d h.0 h.1 orderly h.2) h.3

pub happenings_are_sound : HappeningsAreSound
happenings_are_sound output hs d h =
    let orderly : AreOrderly d = leads-all-orderly hs (empty output) d (empty-orderly output) h in
    (orderly-is-sound d orderly, λ one path new k. all-sound path new (λ c. leads-known c one d path new (orderly c) k))

-- the end of a client that is out of memory, without the desktops on the way
pub stops : (c : ℕ) (o : Option Resident) (d : Desktop) (path : List Desktop) (e : Desktop) → StarvesAt c o d path e → StopsAt c o d e
stops c None d path e h = absurd h
stops c (Some r) d path e h = inr (h.0, settling-without path e (unstruck (becomes c r (ended Memory r.peer) d)) h.1)

-- ---- a piece

all-then : (hs gs : List Happening) (d mid e : Desktop) → LeadsAll hs d mid → LeadsAll gs mid e → LeadsAll (hs ++ gs) d e
all-then [] gs d mid e h k = subst (λ (x : Desktop). LeadsAll gs x e) h k
all-then (one ∷ hs) gs d mid e h k = (h.0, h.1, h.2, all-then hs gs h.1 mid e h.3 k)

-- one more at the end is one more
replicated : (n : ℕ) (h : Happening) → replicate n h ++ h ∷ [] ≡ replicate (suc n) h
replicated zero h = refl
replicated (suc n) h = ap (λ (hs : List Happening). h ∷ hs) (replicated n h)

-- what leads along two lists leads along the one and then the other
all-parted : (hs gs : List Happening) (d e : Desktop) → LeadsAll (hs ++ gs) d e → (mid : Desktop) × LeadsAll hs d mid × LeadsAll gs mid e
all-parted [] gs d e h = (d, refl, h)
all-parted (one ∷ hs) gs d e h =
    let later = all-parted hs gs h.1 e h.3 in
    (later.0, (h.0, h.1, h.2, later.1), later.2)

module _ (c : ℕ) where
  reached : (n : ℕ) (d e : Desktop) → Reaches c n d e → LeadsAll (replicate n (Message c)) d e
  reached zero d e h = h
  reached (suc n) d e h =
      let last = (messages_lead_through c h.0 e).1 h.2 in
      subst (λ (hs : List Happening). LeadsAll hs d e) (replicated n (Message c))
      (all-then (replicate n (Message c)) (Message c ∷ []) d h.0 e (reached n d h.0 h.1) (last.0, e, last.1, refl))

  -- one message before these
  before : (n : ℕ) (d mid e : Desktop) → Serves c d mid → Reaches c n mid e → Reaches c (suc n) d e
  before zero d mid e one h = (d, refl, subst (λ (x : Desktop). Serves c d x) (sym h) one)
  before (suc n) d mid e one h = (h.0, before n d mid h.0 one h.1, h.2)

  reaches : (n : ℕ) (d e : Desktop) → LeadsAll (replicate n (Message c)) d e → Reaches c n d e
  reaches zero d e h = h
  reaches (suc n) d e h = before n d h.1 e ((messages_lead_through c d h.1).0 h.0 h.2) (reaches n h.1 e h.3)

  -- no message is left to be taken, or memory runs out
  stopped : (o : Option Resident) (d e : Desktop) → client_at c d ≡ o → StopsAt c o d e → ((e ≡ d) × HasTakenAll c e) ⊎ LeadsAll (Starve c ∷ []) d e
  stopped None d e found h = absurd h
  stopped (Some r) d e found (inl h) =
      let all : HasTakenAll c d = subst (λ (o : Option Resident). HasTakenAllAt o) (sym found) h.1 in
      inl (h.0, subst (λ (x : Desktop). HasTakenAll c x) (sym h.0) all)
  stopped (Some r) d e found (inr h) =
      let k = settling-with e (unstruck (becomes c r (ended Memory r.peer) d)) h.1 in
      let it : StarvesAt c (Some r) d k.0 e = (h.0, k.1) in
      inr (k.0, e, subst (λ (o : Option Resident). StarvesAt c o d k.0 e) (sym found) it, refl)

  idles : (o : Option Resident) (d : Desktop) → HasTakenAllAt o → StopsAt c o d d
  idles None d all = absurd all
  idles (Some r) d all = inl (refl, all)

  fed : (piece : List ℕ) (s : Option Cause) (r : Resident) (d e : Desktop) → r.peer.status ≡ s → client_at c d ≡ Some r → FeedsAt c piece s r d e
      → (hs : List Happening) × ArePieceBy c piece s hs e × LeadsAll hs d e
  fed piece (Some cause) r d e is found h = ([], refl, h)
  fed piece None r d e is found h =
      let now : Desktop = with_client c (Some (with_peer (with_rest (r.peer.rest ++ piece) r.peer) r)) d in
      let come : ReceivesAt c piece (Some r) d (now ∷ []) now = (is, refl, refl) in
      by h.0 now h.1 (subst (λ (o : Option Resident). ReceivesAt c piece o d (now ∷ []) now) (sym found) come) (reached h.0 now h.1 h.2) (stopped (client_at c h.1) h.1 e refl h.3)
    where
      by : (n : ℕ) (now mid : Desktop) → ReceivesAt c piece (client_at c d) d (now ∷ []) now → LeadsAll (replicate n (Message c)) now mid
          → ((e ≡ mid) × HasTakenAll c e) ⊎ LeadsAll (Starve c ∷ []) mid e → (hs : List Happening) × ArePieceBy c piece None hs e × LeadsAll hs d e
      by n now mid came messages (inl last) = (
        bytes_then_messages c piece n,
        (n, inl (refl, last.1)),
        (now ∷ [], now, came, subst (λ (x : Desktop). LeadsAll (replicate n (Message c)) now x) (sym last.0) messages),
      )
      by n now mid came messages (inr last) = (
        bytes_then_messages c piece n ++ Starve c ∷ [],
        (n, inr refl),
        (now ∷ [], now, came, all-then (replicate n (Message c)) (Starve c ∷ []) now mid e messages last),
      )

  -- its bytes come, and then these lead on
  comes : (piece : List ℕ) (r : Resident) (d e : Desktop) (hs : List Happening) → client_at c d ≡ Some r → LeadsAll (Receive c piece ∷ hs) d e
      → LeadsAll hs (with_client c (Some (with_peer (with_rest (r.peer.rest ++ piece) r.peer) r)) d) e
  comes piece r d e hs found h =
      let come : ReceivesAt c piece (Some r) d h.0 h.1 = subst (λ (o : Option Resident). ReceivesAt c piece o d h.0 h.1) found h.2 in
      subst (λ (x : Desktop). LeadsAll hs x e) come.1 h.3

  feeds : (piece : List ℕ) (s : Option Cause) (r : Resident) (d e : Desktop) (hs : List Happening) → client_at c d ≡ Some r → ArePieceBy c piece s hs e → LeadsAll hs d e
      → FeedsAt c piece s r d e
  feeds piece (Some cause) r d e hs found are h = subst (λ (gs : List Happening). LeadsAll gs d e) are h
  feeds piece None r d e hs found (n, inl are) h =
      let there = subst (λ (gs : List Happening). LeadsAll gs d e) are.0 h in
      (n, e, reaches n _ e (comes piece r d e (replicate n (Message c)) found there), idles (client_at c e) e are.1)
  feeds piece None r d e hs found (n, inr are) h =
      let there = subst (λ (gs : List Happening). LeadsAll gs d e) are h in
      let parted = all-parted (replicate n (Message c)) (Starve c ∷ []) _ e (comes piece r d e (replicate n (Message c) ++ Starve c ∷ []) found there) in
      let last : StarvesAt c (client_at c parted.0) parted.0 parted.2.0 e = subst (λ (x : Desktop). StarvesAt c (client_at c parted.0) parted.0 parted.2.0 x) (sym parted.2.3) parted.2.2 in
      (n, parted.0, reaches n _ parted.0 parted.1, stops c (client_at c parted.0) parted.0 parted.2.0 e last)

  is-fed : (piece : List ℕ) (o : Option Resident) (d : Desktop) (done : Done) (e : Desktop) → client_at c d ≡ o → IsFedAt c piece o d done e
      → (hs : List Happening) × ArePieceAt c piece o hs e × LeadsAll hs d e
  is-fed piece None d done e found h = ([], refl, h.1)
  is-fed piece (Some r) d done e found h = fed piece r.peer.status r d e refl found h.0

  feeds-so : (piece : List ℕ) (o : Option Resident) (d e : Desktop) (hs : List Happening) → client_at c d ≡ o → ArePieceAt c piece o hs e → LeadsAll hs d e
      → (done : Done) × IsFedAt c piece o d done e
  feeds-so piece None d e hs found are h = (gave.Feed NoClient, (refl, subst (λ (gs : List Happening). LeadsAll gs d e) are h))
  feeds-so piece (Some r) d e hs found are h = (gave.Feed (fed_of (status_in c e)), (feeds piece r.peer.status r d e hs found are h, refl))

pub piece_is_messages : PieceIsMessages
piece_is_messages c piece d new = (
  λ done h. is-fed c piece (client_at c d) d done new refl h,
  λ hs are h. feeds-so c piece (client_at c d) d new hs refl are h,
)

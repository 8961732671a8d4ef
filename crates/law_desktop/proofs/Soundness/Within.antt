-- Each desktop that a happening leads through from an orderly one is orderly.
use Rattle.std.proofs.Common.{◌≡◌, ◌≢◌, ℕ, zero, suc, List, [], ◌∷◌, ◌++◌, Option, Some, None, refl, subst, sym, inl, inr}
use Rattle.std.specs.Prelude.{◌⊎◌}
use Rattle.spec_desktop.specs.declared.cause.Cause.TheVariants.{Memory}
use Rattle.spec_desktop.specs.Peer.{ended, with_rest}
use Rattle.spec_desktop.specs.Desktop.{Desktop, Resident, client_at, with_client}
use Rattle.spec_desktop.specs.Happenings.{Happening, Leads, Message, Receive, ReceivesAt, Single, Starve, StarvesAt}
use Rattle.law_desktop.specs.Happenings.{AreSound}
use Rattle.spec_desktop.specs.Settling.{Midstep, Strike, becomes, ended_all, ended_by, unstruck}
use Rattle.spec_desktop.specs.Step.{with_peer}
use Rattle.spec_desktop.specs.Through.{EndsFirstThrough, ServesThrough, SettlesAllThrough, ending_through, ends_through, settling_through}
use Rattle.law_desktop.proofs.Soundness.Orderly.{AreOrderly, IsOrderlyAt}
use Rattle.law_desktop.proofs.Soundness.Message.{message-keeps}
use Rattle.law_desktop.proofs.Soundness.Run.{gone-known, happens-known, put-known}
use Rattle.law_desktop.proofs.Soundness.RunMessages.{serves-so}
use Rattle.law_desktop.proofs.Soundness.RunTold.{Anyhow, IsAlike, Known, alike, ended-by-known, focus-stays, known-same, settles-known}
use Rattle.law_desktop.proofs.Soundness.RunIsSound.{frames, orderly-is-sound}
use Rattle.law_desktop.proofs.Runs.Fates.{same-or}
use Rattle.law_desktop.proofs.Isolation.Messages.{serves-then}

-- a client is orderly in each of these, and in the last
abbrev pub AllKnown : ℕ → List Desktop → Desktop → Type 0
AllKnown c [] new = Known c new
AllKnown c (d ∷ ds) new = Known c d × AllKnown c ds new

module _ (c : ℕ) where
  -- ---- what comes after a step's own change

  -- after each end
  all-ends : (ss : List Strike) (d : Desktop) (later : List Desktop) (new : Desktop) → Known c d
      → (Known c (ended_all ss d) → AllKnown c later new) → AllKnown c (ends_through ss d ++ later) new
  all-ends [] d later new known go = go known
  all-ends (s ∷ ss) d later new known go =
      let it : Known c (ended_by s d) = ended-by-known frames c s d known in
      (it, all-ends ss (ended_by s d) later new it go)

  -- after the first that is to end did, and what comes then
  all-first : (Next : Midstep → List Desktop → Desktop → Type 0)
      → ((m : Midstep) (path : List Desktop) (new : Desktop) → Known c m.desktop → Next m path new → AllKnown c path new)
      → (ss : List Strike) (d : Desktop) (path : List Desktop) (new : Desktop) → Known c d → EndsFirstThrough Next ss d path new
      → AllKnown c path new
  all-first Next next [] d path new known h = subst (λ (p : List Desktop). AllKnown c p new) (sym h.0) (known-same c d new h.1 known)
  all-first Next next (s ∷ ss) d path new known h =
      let it : Known c (ended_by s d) = ended-by-known frames c s d known in
      let all : AllKnown c (ended_by s d ∷ h.0) new = (it, next (record { desktop = ended_by s d; struck = ss }) h.0 new it h.2) in
      subst (λ (p : List Desktop). AllKnown c p new) (sym h.1) all

  -- after each settling of the focus
  all-settles : (n : ℕ) (old : Midstep) (path : List Desktop) (new : Desktop)
      → Known c old.desktop → SettlesAllThrough n old path new → AllKnown c path new
  all-settles zero old path new known h = subst (λ (p : List Desktop). AllKnown c p new) (sym h.0) (known-same c old.desktop new h.1 known)
  all-settles (suc n) old path new known h =
      let it : Known c h.0.desktop = settles-known frames c old h.0 known h.1 in
      let all : AllKnown c (h.0.desktop ∷ h.2) new = (it, all-first (SettlesAllThrough n) (all-settles n) h.0.struck h.0.desktop h.2 new it h.4) in
      subst (λ (p : List Desktop). AllKnown c p new) (sym h.3) all

  -- from the desktop of a step's own change on
  all-settling : (path : List Desktop) (new : Desktop) (mid : Midstep) → Known c mid.desktop → settling_through path new mid → AllKnown c path new
  all-settling path new mid known h =
      let go = λ (it : Known c (ended_all mid.struck mid.desktop)). all-settles 33 (unstruck (ended_all mid.struck mid.desktop)) h.0 new it h.2 in
      let later : AllKnown c (ends_through mid.struck mid.desktop ++ h.0) new = all-ends mid.struck mid.desktop h.0 new known go in
      let all : AllKnown c (mid.desktop ∷ ends_through mid.struck mid.desktop ++ h.0) new = (known, later) in
      subst (λ (p : List Desktop). AllKnown c p new) (sym h.1) all

  -- where the focus was settled already
  all-ending : (path : List Desktop) (new : Desktop) (mid : Midstep) → Known c mid.desktop → ending_through path new mid → AllKnown c path new
  all-ending path new mid known h =
      let later : AllKnown c h.0 new = all-first (SettlesAllThrough 32) (all-settles 32) mid.struck mid.desktop h.0 new known h.2 in
      let all : AllKnown c (mid.desktop ∷ h.0) new = (known, later) in
      subst (λ (p : List Desktop). AllKnown c p new) (sym h.1) all

  -- ---- a happening

  -- bytes of a client come
  receives-known : (a : ℕ) (piece : List ℕ) (o : Option Resident) (d : Desktop) (path : List Desktop) (new : Desktop)
      → client_at a d ≡ o → Known c d → ReceivesAt a piece o d path new → AllKnown c path new
  receives-known a piece None d path new found known h = absurd h
  receives-known a piece (Some r) d path new found known h =
      let come : Resident = with_peer (with_rest (r.peer.rest ++ piece) r.peer) r in
      let but : IsAlike r come = record { status = refl; requests = refl; objects = refl; owned = refl; subsurfaces = refl; callbacks = refl } in
      let now : Known c (with_client a (Some come) d) = put-known c a (Some come) r d found (alike frames r come but) known in
      let it : Known c new = known-same c (with_client a (Some come) d) new h.1 now in
      let all : AllKnown c (new ∷ []) new = (it, it) in
      subst (λ (p : List Desktop). AllKnown c p new) (sym h.2) all

  -- a message of this client, or of another
  serves-known : (a : ℕ) (d : Desktop) (path : List Desktop) (new : Desktop)
      → Known c d → ServesThrough a d path new → AllKnown c path new
  serves-known a d path new known h = at (same-or a c)
    where
      at : (a ≡ c) ⊎ (a ≢ c) → AllKnown c path new
      at (inl same) =
          let own : ServesThrough c d path new = subst (λ (n : ℕ). ServesThrough n d path new) same h in
          serves-so frames message-keeps c (AllKnown c path new) (settling_through path new) (all-settling path new)
          (client_at c d) d refl known own
      at (inr differ) =
          serves-then a c differ IsOrderlyAt Anyhow (focus-stays frames) (AllKnown c path new) (settling_through path new)
          (λ mid within. all-settling path new mid within.0) (client_at a d) d known h

  -- memory runs out for a client
  starves-known : (a : ℕ) (o : Option Resident) (d : Desktop) (path : List Desktop) (new : Desktop)
      → client_at a d ≡ o → Known c d → StarvesAt a o d path new → AllKnown c path new
  starves-known a None d path new found known h = absurd h
  starves-known a (Some r) d path new found known h =
      all-settling path new (unstruck (becomes a r (ended Memory r.peer) d)) (gone-known frames c a Memory r d found known) h.1

  -- A client that is orderly is so in each desktop that a happening leads through, and in the last.
  pub leads-known : (h : Happening) (d : Desktop) (path : List Desktop) (new : Desktop)
      → Known c d → Leads h d path new → AllKnown c path new
  leads-known (Receive a piece) d path new known h = receives-known a piece (client_at a d) d path new refl known h
  leads-known (Message a) d path new known h = serves-known a d path new known h
  leads-known (Starve a) d path new known h = starves-known a (client_at a d) d path new refl known h
  leads-known (Single act done) d path new known h =
      happens-known frames c (AllKnown c path new) (settling_through path new) (ending_through path new)
      (all-settling path new) (all-ending path new) act done d known h

-- where all clients are orderly in each of these, each is sound
pub all-sound : (path : List Desktop) (new : Desktop) → ((c : ℕ) → AllKnown c path new) → AreSound path
all-sound [] new all = tt
all-sound (d ∷ ds) new all = (orderly-is-sound d (λ c. (all c).0), all-sound ds new (λ c. (all c).1))

-- and so is the last orderly
last-orderly : (path : List Desktop) (new : Desktop) → ((c : ℕ) → AllKnown c path new) → AreOrderly new
last-orderly [] new all = all
last-orderly (d ∷ ds) new all = last-orderly ds new (λ c. (all c).1)

-- What happens leaves an orderly desktop.
pub leads-orderly : (h : Happening) (d : Desktop) (path : List Desktop) (new : Desktop) → AreOrderly d → Leads h d path new → AreOrderly new
leads-orderly h d path new orderly leads = last-orderly path new (λ c. leads-known c h d path new (orderly c) leads)

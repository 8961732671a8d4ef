-- A client is read.
use Rattle.std.proofs.Common.{Option, ◌≡◌, ◌<◌, ◌+◌, ℕ, true, false, List, [], ◌∷◌, ◌++◌, map, length, refl, ap, sym, subst, inl, inr, ◌∙◌, append-nil, length-append}
use Rattle.std.proofs.lemmas.List.{map-append}
use Rattle.spec_desktop.specs.Act.{Act, Feed, Leave}
use Rattle.spec_desktop.specs.declared.answers.Done.{Done}
use Rattle.wl_server.specs.Acting.{Stretch, Takes}
use Rattle.wl_server.specs.Recorded.{RecordedView}
use Rattle.wl_server.specs.Phases.{Gets, GetsAll, GetsNone, Link, ReadsOnce, ReadsUntil}
use Rattle.wl_server.specs.Ways.{Ways}
use Rattle.wl_server.proofs.Taking.{TakesNoted, Takes-none, Takes-one, Takes-then, Takes-weaker}

-- ---- one read

pub read-fed : {H C : Type 0} {Writer : Type 0} {contents : Writer → Option (List ℕ)} (w : Ways H C) (client : ℕ) (piece : List ℕ) (done : Done) (from to : Link H C) (old new : RecordedView Writer) → TakesNoted contents (Feed client piece) done old new
    → Gets w piece from to → Takes contents (ReadsOnce w client true from to) old new
read-fed w client piece done from to old new course gets =
    Takes-one (ReadsOnce w client true from to) (Feed client piece) done old new course (λ d e es agrees parts. (piece, gets, refl))

pub read-later : {H C : Type 0} {Writer : Type 0} {contents : Writer → Option (List ℕ)} (w : Ways H C) (client : ℕ) (from to : Link H C) (old new : RecordedView Writer) → new ≡ old → GetsNone w client [] from to
    → Takes contents (ReadsOnce w client false from to) old new
read-later w client from to old new same gets = Takes-none (ReadsOnce w client false from to) old new same (λ d agrees. gets)

pub read-gone : {H C : Type 0} {Writer : Type 0} {contents : Writer → Option (List ℕ)} (w : Ways H C) (client : ℕ) (done : Done) (from to : Link H C) (old new : RecordedView Writer) → TakesNoted contents (Leave client) done old new
    → GetsNone w client (Leave client ∷ []) from to → Takes contents (ReadsOnce w client false from to) old new
read-gone w client done from to old new course gets =
    Takes-one (ReadsOnce w client false from to) (Leave client) done old new course (λ d e es agrees parts. gets)

-- ---- read after read

-- so many reads fed a piece each
abbrev pub FedSoFar : {H C : Type 0} → Ways H C → ℕ → ℕ → Link H C → Link H C → Stretch
FedSoFar w client n from to start acts events end =
    (pieces : List (List ℕ)) × GetsAll w from pieces to × (length pieces ≡ n) × (acts ≡ map (Feed client) pieces)

pub fed-none : {H C : Type 0} {Writer : Type 0} {contents : Writer → Option (List ℕ)} (w : Ways H C) (client : ℕ) (from : Link H C) (v : RecordedView Writer) → Takes contents (FedSoFar w client 0 from from) v v
fed-none w client from v = Takes-none (FedSoFar w client 0 from from) v v refl (λ d agrees. ([], GetsAll.none, refl, refl))

pub fed-more : {H C : Type 0} {Writer : Type 0} {contents : Writer → Option (List ℕ)} (w : Ways H C) (client n : ℕ) (from mid to : Link H C) (old between new : RecordedView Writer) → Takes contents (FedSoFar w client n from mid) old between
    → Takes contents (ReadsOnce w client true mid to) between new → Takes contents (FedSoFar w client (n + 1) from to) old new
fed-more w client n from mid to old between new fed once =
    Takes-then (FedSoFar w client n from mid) (ReadsOnce w client true mid to) (FedSoFar w client (n + 1) from to) old between new fed once
    (λ start d e a b es fs ad ae leads goes p q.
    let pieces = p.0 ++ q.0 ∷ [] in
    let acts : a ++ b ≡ map (Feed client) pieces = rw (p.3, q.2) (sym (map-append (Feed client) p.0 (q.0 ∷ []))) in
    let count : length pieces ≡ n + 1 = length-append p.0 (q.0 ∷ []) ∙ ap (λ (k : ℕ). k + 1) p.2 in
    (pieces, GetsAll.more q.0 p.1 q.1, count, acts))

pub fed-last : {H C : Type 0} {Writer : Type 0} {contents : Writer → Option (List ℕ)} (IsOver : ℕ → Type 0) (w : Ways H C) (client n : ℕ) (from mid to : Link H C) (old between new : RecordedView Writer) → n < 16
    → Takes contents (FedSoFar w client n (from.0, record from.1 { has_sent = false }) mid) old between → Takes contents (ReadsOnce w client false mid to) between new
    → Takes contents (ReadsUntil IsOver w client from to) old new
fed-last IsOver w client n from mid to old between new few fed once =
    Takes-then (FedSoFar w client n (from.0, record from.1 { has_sent = false }) mid) (ReadsOnce w client false mid to) (ReadsUntil IsOver w client from to) old between new fed once
    (λ start d e a b es fs ad ae leads goes p q. record {
      pieces = p.0;
      last = b;
      mid = mid;
      gets = p.1;
      stops = inr (subst (λ (k : ℕ). k < 16) (sym p.2) few, q);
      acts_are = ap (λ (front : List Act). front ++ b) p.3;
    })

pub fed-all : {H C : Type 0} {Writer : Type 0} {contents : Writer → Option (List ℕ)} (IsOver : ℕ → Type 0) (w : Ways H C) (client n : ℕ) (from to : Link H C) (old new : RecordedView Writer) → IsOver n
    → Takes contents (FedSoFar w client n (from.0, record from.1 { has_sent = false }) to) old new → Takes contents (ReadsUntil IsOver w client from to) old new
fed-all IsOver w client n from to old new all fed =
    Takes-weaker (FedSoFar w client n (from.0, record from.1 { has_sent = false }) to) (ReadsUntil IsOver w client from to) old new fed
    (λ d e a es ad ae runs p. record {
      pieces = p.0;
      last = [];
      mid = to;
      gets = p.1;
      stops = inl (subst IsOver (sym p.2) all, refl, refl);
      acts_are = p.3 ∙ sym (append-nil (map (Feed client) p.0));
    })

-- What is demanded is done and told, as where nobody points.
use Rattle.std.proofs.Common.{Bool, List, Result, ap, append-nil, false, inl, inr, refl, subst, sym, true, ℕ, ◌++◌, ◌∙◌, ◌≡◌, ◌≤◌}
use Rattle.std.specs.Prelude.{Ok, Err}
use Rattle.spec_desktop.specs.Peer.{Errs, LacksMemory, Peer, Queues, WantsOr, counted}
use Rattle.spec_desktop.specs.Told.{Said}
use Rattle.spec_desktop.specs.declared.refusals.Refusal.{Refusal}
use Rattle.spec_desktop.specs.Ask.{Ask}
use Rattle.spec_desktop.specs.Demand.{Demand, Asks}
use Rattle.spec_desktop.specs.Demanding.{demands}
use Rattle.spec_desktop.specs.Changing.{changed_for}
use Rattle.spec_desktop.specs.Desktop.{Desktop, Resident, unpointed}
use Rattle.spec_desktop.specs.Happens.{wants_memory}
use Rattle.spec_desktop.specs.Replies.{own_answers, releases, replies}
use Rattle.spec_desktop.specs.Stacked.{all_windows}
use Rattle.spec_desktop.specs.Step.{changed_by, takes_memory, with_peer}
use Rattle.law_desktop.specs.InOrder.{may_dismiss}
use Rattle.law_desktop.proofs.InOrder.Dismissed.{others_dismiss_none}
use Rattle.law_desktop.proofs.KeptRecords.Toplevels.Releases.{asked-told}
use Rattle.law_desktop.proofs.KeptRecords.Toplevels.Simply.{told_alone}
use Rattle.law_desktop.specs.Ordered.{OwnsOrdered}
use Rattle.law_desktop.proofs.KeptInOrder.Laws.{peers_keep_ordered}
use Rattle.wl_requests.specs.declared.residents.Resident.{Resident as Kept}
use Rattle.wl_requests.specs.declared.residents.Stacking.TheVariants.{Stays}
use Rattle.wl_requests.specs.Residents.{AnswersAs, AnswersSo as AnswersWhole, IsLeft, MeetsAs, MeetsSo, StacksSo as StacksWhole}
use Rattle.wl_requests.proofs.Framing.{one-more}

-- ---- what dismisses no popup

-- its own answer, and then the releases of buffers
abbrev pub told_for : ℕ → Demand → Resident → Desktop → List Said
told_for c demand r d = own_answers c demand r (all_windows d) (unpointed d) ++ releases r (changed_for c demand r (unpointed d))

abbrev pub ActsSo : {A : Type 0} → ℕ → Demand → Resident → Desktop → Kept A → Kept A → Type 0
ActsSo c demand r d old new =
    (q : Peer) × WantsOr (wants_memory demand) (Queues (told_for c demand r d) (changed_for c demand r (unpointed d)).peer q) r.peer q × IsLeft old new (changed_for c demand r (unpointed d)) q

-- what is asked alone releases nothing unless it is of a surface
abbrev pub ActsAlone : {A : Type 0} → Ask → Resident → Kept A → Kept A → Type 0
ActsAlone ask r old new =
    (q : Peer) × WantsOr (takes_memory ask) (Queues (told_alone ask r) (changed_by ask r).peer q) r.peer q × IsLeft old new (changed_by ask r) q

abbrev pub AnswersSo : {A : Type 0} → Result Ask Refusal → Resident → Kept A → Kept A → Type 0
AnswersSo (Ok ask) r old new = ActsAlone ask (with_peer (counted r.peer) r) old new
AnswersSo (Err refusal) r old new = (q : Peer) × Errs refusal r.peer q × IsLeft old new r q

-- the same where it is known whether it was done: else there was no memory for it, or it is refused
abbrev pub ActsAs : {A : Type 0} → Bool → ℕ → Demand → Resident → Desktop → Kept A → Kept A → Type 0
ActsAs true c demand r d old new =
    (q : Peer) × Queues (told_for c demand r d) (changed_for c demand r (unpointed d)).peer q × IsLeft old new (changed_for c demand r (unpointed d)) q
ActsAs false c demand r d old new = (wants_memory demand ≡ true) × (q : Peer) × LacksMemory r.peer q × IsLeft old new (changed_for c demand r (unpointed d)) q

-- another peer with the same objects and buffers, and no fewer requests, leaves a client in order
pub ordered-peer : (r : Resident) (p : Peer) → p.objects ≡ r.peer.objects → p.buffers ≡ r.peer.buffers → r.peer.requests ≤ p.requests → OwnsOrdered r → OwnsOrdered (with_peer p r)
ordered-peer r p objects buffers requests ordered = peers_keep_ordered r p objects buffers requests ordered

-- a client whose request is counted is in order as it was
pub counted-ordered : (r : Resident) → OwnsOrdered r → OwnsOrdered (with_peer (counted r.peer) r)
counted-ordered r ordered = ordered-peer r (counted r.peer) refl refl (one-more r.peer.requests) ordered

-- ---- on the desktop

module _ {A : Type 0} (old new : Kept A) (c : ℕ) (d : Desktop) where
  module _ (demand : Demand) (r : Resident) (none : may_dismiss demand ≡ false) where
    events-same : replies c demand r (changed_for c demand r (unpointed d)) (all_windows d) (unpointed d) ≡ told_for c demand r d
    events-same =
        ap (λ more. own_answers c demand r (all_windows d) (unpointed d) ++ releases r (changed_for c demand r (unpointed d)) ++ more) (others_dismiss_none c demand r (unpointed d) none)
        ∙ append-nil (told_for c demand r d)

    queues-same : (q : Peer) → Queues (told_for c demand r d) (changed_for c demand r (unpointed d)).peer q
        → Queues (replies c demand r (changed_for c demand r (unpointed d)) (all_windows d) (unpointed d)) (changed_for c demand r (unpointed d)).peer q
    queues-same q h = subst (λ (events : List Said). Queues events (changed_for c demand r (unpointed d)).peer q) (sym events-same) h

    pub meets-so : ActsSo c demand r d old new → MeetsSo c demand r d old new
    meets-so h = (h.0, at (wants_memory demand) h.1, h.2)
      where
        at : (b : Bool) → WantsOr b (Queues (told_for c demand r d) (changed_for c demand r (unpointed d)).peer h.0) r.peer h.0
            → WantsOr b (Queues (replies c demand r (changed_for c demand r (unpointed d)) (all_windows d) (unpointed d)) (changed_for c demand r (unpointed d)).peer h.0) r.peer h.0
        at true (inl lacks) = inl lacks
        at true (inr told) = inr (queues-same h.0 told)
        at false told = queues-same h.0 told

    pub meets-as : (done : Bool) → ActsAs done c demand r d old new → MeetsAs done c demand r d old new
    meets-as true h = (h.0, queues-same h.0 h.1, h.2)
    meets-as false h = h

  -- what is asked as it is demanded
  pub as-asked : (r : Resident) → OwnsOrdered r → (judged : Result Ask Refusal) → AnswersSo judged r old new → AnswersWhole (demands judged) c r d old new
  as-asked r ordered (Ok ask) h =
      let one_more = with_peer (counted r.peer) r in
      let has = (counted-ordered r ordered).order.known.apart in
      meets-so (Asks ask) one_more refl
      (h.0, subst (λ (events : List Said). WantsOr (takes_memory ask) (Queues events (changed_by ask one_more).peer h.0) one_more.peer h.0) (sym (asked-told ask one_more has)) h.1, h.2)
  as-asked r ordered (Err refusal) h = h

-- ---- whether it is done

wants-later : (b : Bool) (Later : Type 0) (p q : Peer) → Later → WantsOr b Later p q
wants-later false Later p q h = h
wants-later true Later p q h = inr h

wants-lacks : (b : Bool) (Later : Type 0) (p q : Peer) → b ≡ true → LacksMemory p q → WantsOr b Later p q
wants-lacks true Later p q e h = inl h
wants-lacks false Later p q e h = absurd (cc)

-- What is done, or not, is answered.
pub answered-so : {A : Type 0} (done : Bool) (demanded : Result Demand Refusal) (c : ℕ) (r : Resident) (d : Desktop) (old new : Kept A) → AnswersAs done demanded c r d old new
    → AnswersWhole demanded c r d old new
answered-so true (Ok demand) c r d old new h = (h.0, wants-later (wants_memory demand) _ _ h.0 h.1, h.2)
answered-so false (Ok demand) c r d old new h = (h.1, wants-lacks (wants_memory demand) _ _ h.1 h.0 h.2, h.3)
answered-so true (Err refusal) c r d old new h = absurd h
answered-so false (Err refusal) c r d old new h = h

-- what is asked of a client alone leaves the stack as it is
pub asks-stay : {A : Type 0} (old : Kept A) (r : Resident) (judged : Result Ask Refusal) → StacksWhole old r (demands judged) Stays
asks-stay old r (Ok ask) = refl
asks-stay old r (Err refusal) = tt

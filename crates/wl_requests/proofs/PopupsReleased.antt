-- The popups with a grab are dismissed one after another, and each is told that it is done, until an event isn't queued.
use Rattle.std.proofs.Common.{◌≡◌, ℕ, ◌+◌, ◌≤◌, List, [], ◌∷◌, ◌++◌, Bool, true, false, Option, Some, None, inl, inr, map, length, arith, refl, ap, subst, sym, ◌∙◌}
use Rattle.std.specs.Prelude.{Result, Ok, Err, IfErr, IsTrue, MatchBool, OnOk, is_some}
use Rattle.std.proofs.lemmas.List.{length-append}
use Rattle.wl_client.proofs.Peers.{IsPeer-queued, unqueued-now}
use Rattle.wl_client.proofs.Telling.{IsPeer-opened, IsPeer-to_end, to_end-for}
use Rattle.wl_client.specs.Agreement.{IsPeer}
use Rattle.wl_client.specs.View.{ClientView, opened}
use Rattle.wl_proto.specs.declared.interface.Interface.TheVariants.{XdgPopup}
use Rattle.wl_proto.specs.Messages.{says}
use Rattle.spec_desktop.specs.declared.cause.Cause.{Cause}
use Rattle.spec_desktop.specs.declared.cause.Cause.TheVariants.{Memory, Slow}
use Rattle.spec_desktop.specs.Peer.{IsUnqueuedFor, Peer, QueuesFirst, QueuesTo, has_room, queued}
use Rattle.spec_desktop.specs.Told.{Said, said, said_bytes}
use Rattle.wl_surface.specs.Linked.{SurfacesView}
use Rattle.wl_shell.specs.Found.{AreFound}
use Rattle.wl_shell.specs.InOrder.{HasOrder, undismissed, with_dismissed}
use Rattle.wl_shell.specs.PopupsKept.{IsNewest, dismissible_grabbing}
use Rattle.spec_desktop.specs.Stacking.{Owned}
use Rattle.wl_shell.specs.Kept.{Book, Kept as KeptXdg, changing, kept_changed, kept_of}
use Rattle.wl_shell.specs.Popups.{Popped, dismiss}
use Rattle.wl_shell.specs.Shell.{Shell}
use Rattle.law_desktop.specs.Owning.{IsOwned, Names}
use Rattle.law_desktop.specs.OwnedPopups.{NextIs, WereDismissed, done_told}
use Rattle.law_desktop.proofs.OwnedPopups.Dismissing.{popups-dismissed}
use Rattle.law_desktop.proofs.OwnedPopups.Finding.{has_grab, next-grabbing}
use Rattle.wl_requests.specs.declared.residents.Resident.{Resident as Kept}
use Rattle.wl_requests.specs.Dismissing.{GrabsAreReleased, role_id}
use Rattle.wl_requests.proofs.PopupsDismissed.{changed-here, few-go, id-stays}

none-and-some : {X : Type 0} (why : Option Cause) → why ≡ None → is_some why ≡ true → X
none-and-some None none some = absurd (cc)
none-and-some (Some cause) none some = absurd (cc)

-- ---- one event

-- what a call of `queue` comes to
abbrev IsQueued : Result Unit Cause → ClientView → ClientView → Said → Type 0
IsQueued result v w event = OnOk result ((v.refused ≡ None) × IsTrue (has_room v.unsent event) × (w ≡ record v { unsent = v.unsent ++ said_bytes event }))

abbrev IsRefused : Result Unit Cause → ClientView → ClientView → Type 0
IsRefused result v w = IfErr result (λ e. w ≡ record v { refused = Some e })

abbrev IsRefusedFor : Result Unit Cause → ClientView → Said → Type 0
IsRefusedFor result v event = IfErr result (λ e. IsUnqueuedFor v.refused (has_room v.unsent event) e)

first-queued : (b : Bool) (Later : Type 0) (p q : Peer) (why : Option Cause) → IsTrue b → Later → QueuesFirst b Later p q why
first-queued true Later p q why room later = inr later
first-queued false Later p q why room later = absurd (cc)

first-refused : (b : Bool) (Later : Type 0) (p : Peer) (cause : Cause) → MatchBool b (cause ≡ Memory) (cause ≡ Slow) → QueuesFirst b Later p p (Some cause)
first-refused true Later p cause reason = inl (refl, ap (λ c. Some c) reason)
first-refused false Later p cause reason = (refl, ap (λ c. Some c) reason)

module _ (v w : ClientView) (event : Said) where
  pub queued-or-not : (result : Result Unit Cause) → IsQueued result v w event → IsRefused result v w → IsRefusedFor result v event → (p : Peer) → IsPeer v p
      → (q : Peer) × QueuesTo (event ∷ []) p q w.refused × IsPeer (opened w) q
  queued-or-not (Ok u) ok err why p is =
      let q = queued event p in
      let open-now : w.refused ≡ None = ap (λ (x : ClientView). x.refused) ok.2 ∙ ok.0 in (
        q,
        first-queued (has_room p.unsent event) ((q ≡ q) × (w.refused ≡ None)) p q w.refused (subst (λ (u : List ℕ). IsTrue (has_room u event)) is.unsent ok.1) (refl, open-now),
        IsPeer-opened w q (subst (λ (x : ClientView). IsPeer x q) (sym ok.2) (IsPeer-queued v p event is)),
      )
  queued-or-not (Err cause) ok err why p is =
      let reason = subst (λ (u : List ℕ). MatchBool (has_room u event) (cause ≡ Memory) (cause ≡ Slow)) is.unsent (unqueued-now v p event cause is why) in
      let refused = first-refused (has_room p.unsent event) ((p ≡ queued event p) × (Some cause ≡ None)) p cause reason in (
        p,
        subst (λ (o : Option Cause). QueuesTo (event ∷ []) p p o) (sym (to_end-for v w cause err)) refused,
        IsPeer-to_end v w p cause err is,
      )

  -- once one was refused nothing changes
  pub still-refused : (result : Result Unit Cause) → IsQueued result v w event → IsRefused result v w → IsRefusedFor result v event → is_some v.refused ≡ true → w ≡ v
  still-refused (Ok u) ok err why some = none-and-some v.refused ok.0 some
  still-refused (Err cause) ok err why some = at v.refused refl why some
    where
      at : (o : Option Cause) → v.refused ≡ o → IsUnqueuedFor o (has_room v.unsent event) cause → is_some o ≡ true → w ≡ v
      at None e why some = absurd (cc)
      at (Some was) e why some =
          err ∙ ap (λ (c : Cause). record v { refused = Some c }) why ∙ ap (λ (o : Option Cause). record v { refused = o }) (sym e)

  pub only-told : (result : Result Unit Cause) → IsQueued result v w event → IsRefused result v w → w ≡ record v { unsent = w.unsent; refused = w.refused }
  only-told (Ok u) ok err = subst (λ (x : ClientView). x ≡ record v { unsent = x.unsent; refused = x.refused }) (sym ok.2) refl
  only-told (Err cause) ok err = subst (λ (x : ClientView). x ≡ record v { unsent = x.unsent; refused = x.refused }) (sym err) refl

pub only-then : (v m w : ClientView) → m ≡ record v { unsent = m.unsent; refused = m.refused } → w ≡ record m { unsent = w.unsent; refused = w.refused }
    → w ≡ record v { unsent = w.unsent; refused = w.refused }
only-then v m w before now = now ∙ ap (λ (x : ClientView). record x { unsent = w.unsent; refused = w.refused }) before

-- where none was refused, nothing is opened
unopened : (v : ClientView) (p : Peer) → v.refused ≡ None → IsPeer (opened v) p → IsPeer v p
unopened v p none is = subst (λ (x : ClientView). IsPeer x p) (ap (λ (o : Option Cause). record v { refused = o }) (sym none)) is

-- ---- events that are queued in turn

-- A client was told of all but these: what is told of these follows, unless an event wasn't queued, and then none of these matters.
pub record IsToldTo (all left : List Said) (p mid : Peer) (why : Option Cause) : Type 0 where
  pub more : why ≡ None → (q : Peer) (end : Option Cause) → QueuesTo left mid q end → QueuesTo all p q end
  pub over : is_some why ≡ true → QueuesTo all p mid why

then-queues : (event : Said) (more : List Said) (p mid q : Peer) (why end : Option Cause) → why ≡ None → QueuesTo (event ∷ []) p mid why → QueuesTo more mid q end
    → QueuesTo (event ∷ more) p q end
then-queues event more p mid q why end none first rest = at (has_room p.unsent event) first
  where
    at : (b : Bool) → QueuesFirst b ((mid ≡ queued event p) × (why ≡ None)) p mid why → QueuesFirst b (QueuesTo more (queued event p) q end) p q end
    at false h = none-and-some why none (ap is_some h.1)
    at true (inl h) = none-and-some why none (ap is_some h.1)
    at true (inr h) = inr (subst (λ (m : Peer). QueuesTo more m q end) h.0 rest)

then-over : (event : Said) (more : List Said) (p mid : Peer) (why : Option Cause) → is_some why ≡ true → QueuesTo (event ∷ []) p mid why → QueuesTo (event ∷ more) p mid why
then-over event more p mid why some first = at (has_room p.unsent event) first
  where
    at : (b : Bool) → QueuesFirst b ((mid ≡ queued event p) × (why ≡ None)) p mid why → QueuesFirst b (QueuesTo more (queued event p) mid why) p mid why
    at false h = h
    at true (inl h) = inl h
    at true (inr h) = none-and-some why h.1 some

told-next : (all more : List Said) (event : Said) (p mid q : Peer) (was why : Option Cause) → IsToldTo all (event ∷ more) p mid was → was ≡ None → QueuesTo (event ∷ []) mid q why
    → IsToldTo all more p q why
told-next all more event p mid q was why so none told = record {
  more = λ queues last end h. so.more none last end (then-queues event more mid q last why end queues told h);
  over = λ some. so.more none q why (then-over event more mid q why some told);
}

told-over : (all left more : List Said) (p mid : Peer) (why : Option Cause) → IsToldTo all left p mid why → is_some why ≡ true → IsToldTo all more p mid why
told-over all left more p mid why so some = record { more = λ none. none-and-some why none some; over = so.over }

-- ---- one after another

-- These went so far, and these xdg_surfaces are left.
pub record IsReleasingSo {A : Type 0} (names : Names) (o : Owned) (count : ℕ) (p q : Peer) (gone : List Popped) (left : Shell) (now : Kept A) : Type 0 where
  pub peer : IsPeer (opened now.client) q
  pub many : length gone ≡ count
  pub were : WereDismissed has_grab o.shell gone left
  pub told : IsToldTo (map done_told (undismissed has_grab o.shell)) (map done_told (undismissed has_grab left)) p q now.client.refused
  pub owns : IsOwned names now.owned.surfaces.states now.owned.surfaces.family (kept_of now.owned.shell) (record o { shell = left })

-- those that went up to this one
abbrev pub IsReleasedTo : {A : Type 0} → Names → Owned → ℕ → Peer → Kept A → Type 0
IsReleasedTo names o count p now = (q : Peer) × (gone : List Popped) × (left : Shell) × IsReleasingSo names o count p q gone left now

pub none-released : {A : Type 0} (names : Names) (o : Owned) (p : Peer) (now : Kept A)
    → IsOwned names now.owned.surfaces.states now.owned.surfaces.family (kept_of now.owned.shell) o → HasOrder o.shell → IsPeer now.client p → IsReleasedTo names o 0 p now
none-released names o p now owns order peer = (
  p,
  [],
  o.shell,
  record {
    peer = IsPeer-opened now.client p peer;
    many = refl;
    were = popups-dismissed.on.begin has_grab o.shell order;
    told = record { more = λ queues q end h. h; over = λ some. none-and-some now.client.refused peer.open some };
    owns = owns;
  },
)

module _ {A : Type 0} (names : Names) (o : Owned) (count : ℕ) (p q : Peer) (gone : List Popped) (left : Shell) (now : Kept A) (so : IsReleasingSo names o count p q gone left now) where
  abbrev book : Book
  book = now.owned.shell

  abbrev owned : Owned
  owned = record o { shell = left }

  goes-next : AreFound book → (result : Option ℕ) → IsNewest (dismissible_grabbing book) (kept_of book) result → NextIs names (kept_of book) has_grab left result
  goes-next found result newest =
      next-grabbing names now.owned.surfaces.states now.owned.surfaces.family book owned found so.owns result so.were.has_order newest

  pub released-on : AreFound book → (new : Kept A) (went : ℕ) (after : ℕ → Option KeptXdg)
      → IsNewest (dismissible_grabbing book) (kept_of book) (Some went)
      → after ≡ changing went (kept_changed dismiss) (kept_of book) → kept_of new.owned.shell ≡ after → new.owned.surfaces ≡ now.owned.surfaces
      → ((popup : ℕ) → role_id (after went) ≡ Some popup → (m : Peer) → IsPeer now.client m
      → (n : Peer) × QueuesTo (said popup (says XdgPopup 1 []) ∷ []) m n new.client.refused × IsPeer (opened new.client) n)
      → (is_some now.client.refused ≡ true → new.client ≡ now.client)
      → IsReleasedTo names o (count + 1) p new
  released-on found new went after newest changes keeps linked tells still = at now.client.refused refl
    where
      next : NextIs names (kept_of book) has_grab left (Some went)
      next = goes-next found (Some went) newest

      it : Popped
      it = next.0

      rest : Shell
      rest = with_dismissed it.xdg.id left

      all : List Said
      all = map done_told (undismissed has_grab o.shell)

      more : IsToldTo all (done_told it ∷ map done_told (undismissed has_grab rest)) p q now.client.refused
      more = subst (λ (ps : List Popped). IsToldTo all (map done_told ps) p q now.client.refused) next.1.next.order so.told

      id : role_id (after went) ≡ Some it.object.id
      id =
          ap (λ (ks : ℕ → Option KeptXdg). role_id (ks went)) changes ∙ ap role_id (changed-here went (kept_changed dismiss) (kept_of book))
          ∙ id-stays (kept_of book went)
          ∙ next.1.object

      many : length (gone ++ it ∷ []) ≡ count + 1
      many = let both = length-append gone (it ∷ []) in let was = so.many in omega (arith, both, was)

      owns : IsOwned names new.owned.surfaces.states new.owned.surfaces.family (kept_of new.owned.shell) (record o { shell = rest })
      owns =
          subst (λ (l : SurfacesView). IsOwned names l.states l.family (kept_of new.owned.shell) (record o { shell = rest })) (sym linked)
          (popups-dismissed.dismissed names now.owned.surfaces.states now.owned.surfaces.family (kept_of book) owned went it (kept_of new.owned.shell) so.owns next.1.next.only next.1.surface
          (keeps ∙ changes))

      by : (n : Peer) → IsPeer (opened new.client) n → IsToldTo all (map done_told (undismissed has_grab rest)) p n new.client.refused → IsReleasedTo names o (count + 1) p new
      by n peer told = (
        n,
        gone ++ it ∷ [],
        rest,
        record { peer = peer; many = many; were = popups-dismissed.on.next has_grab o.shell left gone it.xdg.surface it so.were next.1.next; told = told; owns = owns },
      )

      at : (why : Option Cause) → now.client.refused ≡ why → IsReleasedTo names o (count + 1) p new
      at None none =
          let told = tells it.object.id id q (unopened now.client q none so.peer) in
          by told.0 told.2
          (told-next all (map done_told (undismissed has_grab rest)) (done_told it) p q told.0 now.client.refused new.client.refused more none told.1)
      at (Some cause) some =
          let over : is_some now.client.refused ≡ true = ap is_some some in
          let same : new.client ≡ now.client = still over in
          by q (subst (λ (v : ClientView). IsPeer (opened v) q) (sym same) so.peer)
          (subst (λ (v : ClientView). IsToldTo all (map done_told (undismissed has_grab rest)) p q v.refused) (sym same)
          (told-over all (done_told it ∷ map done_told (undismissed has_grab rest)) (map done_told (undismissed has_grab rest)) p q now.client.refused more over))

  -- all went
  pub all-released : AreFound book → (new : Kept A) → IsNewest (dismissible_grabbing book) (kept_of book) None → new.client ≡ now.client → new.owned.surfaces ≡ now.owned.surfaces
      → new.owned.shell ≡ book → GrabsAreReleased names o p q new
  all-released found new newest client linked shell =
      let none = goes-next found None newest in
      let ends = popups-dismissed.on.end has_grab o.shell left gone so.were none.0 none.1 in
      let all = map done_told (undismissed has_grab o.shell) in
      let rest = subst (λ (ps : List Popped). IsToldTo all (map done_told ps) p q now.client.refused) none.0 so.told in
      record {
        peer = rw client so.peer;
        told = rw client (at all rest now.client.refused refl);
        owns = rw (linked, shell, ends.1) so.owns;
      }
    where
      at : (all : List Said) → IsToldTo all [] p q now.client.refused → (why : Option Cause) → now.client.refused ≡ why → QueuesTo all p q now.client.refused
      at all rest None none = rest.more none q now.client.refused (refl, none)
      at all rest (Some cause) some = rest.over (ap is_some some)

  -- there are no more
  pub no-more-go : length o.shell ≤ 256 → 257 ≤ count → ⊥
  no-more-go few past =
      let many = so.many in
      let go = few-go has_grab o.shell in
      let order : length (undismissed has_grab o.shell) ≡ length (gone ++ undismissed has_grab left) = ap length so.were.order in
      let both = length-append gone (undismissed has_grab left) in
      omega (arith, many, go, order, both, few, past)

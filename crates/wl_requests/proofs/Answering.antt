-- The frame callbacks that are due, answered one after another.
use Rattle.std.proofs.Common.{◌≡◌, ℕ, List, [], ◌∷◌, ◌++◌, Bool, true, false, Some, None, cond, map, refl, ap, subst, sym, ◌∙◌}
use Rattle.std.specs.Prelude.{◌==◌, ◌||◌, filter, find, flat_map, fold, is_some, not}
use Rattle.std.specs.List.{list_any}
use Rattle.std.proofs.lemmas.List.Elements.{filter-append}
use Rattle.std.proofs.lemmas.List.Folds.{list_any-append}
use Rattle.std.proofs.lemmas.Bool.{true≢false}
use Rattle.std.proofs.lemmas.Option.{none-some}
use Rattle.spec_desktop.specs.Objects.{ById, Objects, with_id}
use Rattle.spec_desktop.specs.Peer.{Peer, Queues, all_removed, removed}
use Rattle.spec_desktop.specs.Told.{Said}
use Rattle.wl_client.proofs.Queueing.{queues-then, removed-over, removed-past}
use Rattle.wl_proto.specs.declared.interface.Interface.TheVariants.{WlCallback}
use Rattle.wl_surface.specs.FrameRequests.{frames_of}
use Rattle.wl_links.specs.Family.{Tied}
use Rattle.wl_surface.specs.Frames.{frames_counting}
use Rattle.wl_surface.specs.Slots.{IsAny, Slots}
use Rattle.wl_surface.specs.State.{counting}
use Rattle.wl_surface.specs.Surface.{Surface}
use Rattle.wl_surface.specs.Surfaces.{Surfaces}
use Rattle.wl_surface.specs.Waiting.{AreUndue, Callback, IsUndue, applied_at, is_in}
use Rattle.spec_desktop.specs.Desktop.{Resident}
use Rattle.spec_desktop.specs.Framing.{done_due}
use Rattle.spec_desktop.specs.Happens.{callbacks_due, frame_told, frames_told}
use Rattle.law_desktop.specs.Owning.{AreKept, by_number}
use Rattle.law_desktop.specs.Apart.{AreApartBy}
use Rattle.law_desktop.proofs.KeptRecords.Toplevels.Heard.{AreHeard}
use Rattle.law_desktop.proofs.KeptRecords.Toplevels.Messages.{told-objects}
use Rattle.law_desktop.proofs.Soundness.ObjectsHas.{has_callback}
use Rattle.law_desktop.proofs.Soundness.ObjectsKeys.{objects-gone}
use Rattle.law_desktop.proofs.Keeping.OwningSurfaces.{any-is}
use Rattle.law_desktop.proofs.Truth.{or-right}
use Rattle.law_desktop.proofs.Marks.Stacks.{same-number}
use Rattle.wl_requests.proofs.Framing.{left-by, told-requests}

-- ---- which count

any-flat : (p : ℕ → Bool) (f : Surface → List ℕ) (xs : List Surface) → list_any p (flat_map f xs) ≡ list_any (λ x. list_any p (f x)) xs
any-flat p f [] = refl
any-flat p f (x ∷ xs) = list_any-append p (f x) (flat_map f xs) ∙ ap (λ b. list_any p (f x) || b) (any-flat p f xs)

module _ (numbers : ById ℕ) (slots : Slots) (tied : Tied) (all : Surfaces) (is : AreKept numbers slots tied all) where
  abbrev counts_here : Callback → Surface → Bool
  counts_here c s = is_in (frames_of (counting s.history)) c

  counts-any : (c : Callback) → IsAny (λ at. is_in (applied_at at) c) (by_number numbers all) (list_any (counts_here c) all.surfaces)
  counts-any c = any-is numbers slots tied all is (counts_here c) (λ at. is_in (applied_at at) c) refl (λ s. refl)

  read : (c : Callback) → is_in (frames_counting all) c ≡ list_any (counts_here c) all.surfaces
  read c = any-flat (λ n. n == c.number) (λ s. frames_of (counting s.history)) all.surfaces

  pub counting-due : (c : Callback) (number : ℕ) → is_in (applied_at (by_number numbers all number)) c ≡ true → is_in (frames_counting all) c ≡ true
  counting-due c number due = read c ∙ at (list_any (counts_here c) all.surfaces) (counts-any c)
    where
      at : (b : Bool) → IsAny (λ at. is_in (applied_at at) c) (by_number numbers all) b → b ≡ true
      at true any = refl
      at false none = absurd (true≢false (sym due ∙ none number))

  counting-undue : (c : Callback) → IsUndue (by_number numbers all) c → is_in (frames_counting all) c ≡ false
  counting-undue c undue = read c ∙ at (list_any (counts_here c) all.surfaces) (counts-any c)
    where
      at : (b : Bool) → IsAny (λ at. is_in (applied_at at) c) (by_number numbers all) b → b ≡ false
      at true any = absurd (true≢false (sym any.1 ∙ undue any.0))
      at false none = refl

  pub none-due : (cs : List Callback) → AreUndue (by_number numbers all) cs → filter (is_in (frames_counting all)) cs ≡ []
  none-due [] undue = refl
  none-due (c ∷ cs) undue =
      ap (λ b. cond b (c ∷ filter (is_in (frames_counting all)) cs) (filter (is_in (frames_counting all)) cs)) (counting-undue c undue.0) ∙ none-due cs undue.1

-- ---- one of several goes

pub any-middle : (p : Callback → Bool) (before after : List Callback) (c : Callback) → list_any p (before ++ c ∷ after) ≡ (p c || list_any p (before ++ after))
any-middle p [] after c = refl
any-middle p (b ∷ bs) after c = ap (λ x. p b || x) (any-middle p bs after c) ∙ turned (p b) (p c) (list_any p (bs ++ after))
  where
    turned : (x y z : Bool) → (x || (y || z)) ≡ (y || (x || z))
    turned true true z = refl
    turned true false z = refl
    turned false true z = refl
    turned false false z = refl

none-any : (p : Callback → Bool) (xs : List Callback) → find p xs ≡ None → list_any p xs ≡ false
none-any p [] e = refl
none-any p (x ∷ xs) e = at (p x) e (none-any p xs)
  where
    at : (b : Bool) → cond b (Some x) (find p xs) ≡ None → (find p xs ≡ None → list_any p xs ≡ false) → (b || list_any p xs) ≡ false
    at true e later = absurd (none-some x (sym e))
    at false e later = later e

any-none : (p : Callback → Bool) (xs : List Callback) → list_any p xs ≡ false → find p xs ≡ None
any-none p [] e = refl
any-none p (x ∷ xs) e = at (p x) e (any-none p xs)
  where
    at : (b : Bool) → (b || list_any p xs) ≡ false → (list_any p xs ≡ false → find p xs ≡ None) → cond b (Some x) (find p xs) ≡ None
    at true e later = absurd (true≢false e)
    at false e later = later e

apart-middle : (before after : List Callback) (c : Callback) → AreApartBy has_callback (before ++ c ∷ after) → AreApartBy has_callback (before ++ after)
apart-middle [] after c apart = apart.1
apart-middle (b ∷ bs) after c apart = (
  λ key has. any-none (has_callback key) (bs ++ after) (or-right (has_callback key c) (list_any (has_callback key) (bs ++ after)) (sym (any-middle (has_callback key) bs after c)
      ∙ none-any (has_callback key) (bs ++ c ∷ after) (apart.0 key has))),
  apart-middle bs after c apart.1,
)

none-middle : (before after : List Callback) (c : Callback) → AreApartBy has_callback (before ++ c ∷ after) → (key : ℕ) → has_callback key c ≡ true
    → list_any (has_callback key) (before ++ after) ≡ false
none-middle [] after c apart key has = none-any (has_callback key) after (apart.0 key has)
none-middle (b ∷ bs) after c apart key has = at (has_callback key b) refl (none-middle bs after c apart.1 key has)
  where
    at : (x : Bool) → has_callback key b ≡ x → list_any (has_callback key) (bs ++ after) ≡ false → (x || list_any (has_callback key) (bs ++ after)) ≡ false
    at true e later =
        let any : list_any (has_callback key) (bs ++ c ∷ after) ≡ true = any-middle (has_callback key) bs after c ∙ ap (λ x. x || list_any (has_callback key) (bs ++ after)) has in
        absurd (true≢false (sym any ∙ none-any (has_callback key) (bs ++ c ∷ after) (apart.0 key e)))
    at false e later = later

-- the others are still there
heard-middle : (before after : List Callback) (c : Callback) (objects : Objects) → AreHeard (before ++ c ∷ after) objects → AreHeard (before ++ after) (with_id c.id None objects)
heard-middle before after c objects heard =
    objects-gone WlCallback has_callback objects c.id (before ++ after) (none-middle before after c heard.0 c.id (same-number c.id)) (
      apart-middle before after c heard.0,
      λ key any. heard.1 key (any-middle (has_callback key) before after c ∙ ap (λ b. has_callback key c || b) any ∙ or-true (has_callback key c)),
    )
  where
    or-true : (b : Bool) → (b || true) ≡ true
    or-true true = refl
    or-true false = refl

-- ---- what was told so far

-- A client that was told of some of its callbacks is this: what is told of those that are left follows.
pub record IsAnswered (time : ℕ) (r mid : Resident) : Type 0 where
  pub owned : mid.owned ≡ r.owned
  pub subsurfaces : mid.subsurfaces ≡ r.subsurfaces
  pub status : mid.peer.status ≡ None
  pub requests : mid.peer.requests ≡ r.peer.requests
  pub callbacks : (done_due mid).callbacks ≡ (done_due r).callbacks
  pub heard : AreHeard mid.callbacks mid.peer.objects
  pub follows : (q : Peer) → Queues (frames_told time mid) (done_due mid).peer q → Queues (frames_told time r) (done_due r).peer q

pub none-answered : (time : ℕ) (r : Resident) → r.peer.status ≡ None → AreHeard r.callbacks r.peer.objects → IsAnswered time r r
none-answered time r alive heard = record { owned = refl; subsurfaces = refl; status = alive; requests = refl; callbacks = refl; heard = heard; follows = λ q h. h }

abbrev ids_of : List Callback → List ℕ
ids_of cs = map (λ (c : Callback). c.id) cs

fold-ids : (cs : List Callback) (p : Peer) → all_removed (ids_of cs) p ≡ fold (λ p callback. removed callback.id p) p cs
fold-ids [] p = refl
fold-ids (c ∷ cs) p = fold-ids cs (removed c.id p)

removed-status : (ids : List ℕ) (p : Peer) → (all_removed ids p).status ≡ p.status
removed-status [] p = refl
removed-status (id ∷ ids) p = removed-status ids (removed id p)

module _ (time : ℕ) (mid : Resident) (before after : List Callback) (c : Callback) (m : Peer) (alive : mid.peer.status ≡ None) (all_are : mid.callbacks ≡ before ++ c ∷ after)
    (undue : filter (is_in (frames_counting mid.owned.surfaces)) before ≡ []) (due : is_in (frames_counting mid.owned.surfaces) c ≡ true)
    (told : Queues (frame_told time c.id) (removed c.id mid.peer) m) where
  abbrev counts : Callback → Bool
  counts = is_in (frames_counting mid.owned.surfaces)

  abbrev rest : List Callback
  rest = filter counts after

  abbrev rest_told : List Said
  rest_told = flat_map (λ (callback : Callback). frame_told time callback.id) rest

  -- the client without it, as it was told of it
  abbrev pub without_it : Resident
  without_it = record mid { peer = m; callbacks = before ++ after }

  due-are : callbacks_due mid ≡ c ∷ rest
  due-are = ap (filter counts) all_are ∙ filter-append counts before (c ∷ after) ∙ ap (λ xs. xs ++ cond (counts c) (c ∷ rest) rest) undue ∙ ap (λ b. cond b (c ∷ rest) rest) due

  due-now : callbacks_due without_it ≡ rest
  due-now = filter-append counts before after ∙ ap (λ xs. xs ++ rest) undue

  -- the first isn't queued, or all that are left follow it
  from-first : (q : Peer) → Queues (frame_told time c.id ++ rest_told) (all_removed (ids_of rest) (removed c.id mid.peer)) q → Queues (frames_told time mid) (done_due mid).peer q
  from-first q h =
      subst (λ cs. Queues (flat_map (λ (callback : Callback). frame_told time callback.id) cs) (fold (λ p callback. removed callback.id p) mid.peer cs) q) (sym due-are)
      (subst (λ (p : Peer). Queues (frame_told time c.id ++ rest_told) p q) (fold-ids rest (removed c.id mid.peer)) h)

  pub over-told : is_some m.status ≡ true → Queues (frames_told time mid) (done_due mid).peer m
  over-told over = from-first m (removed-over (ids_of rest) (frame_told time c.id) rest_told (removed c.id mid.peer) m alive told over)

  then-told : m.status ≡ None → (q : Peer) → Queues (frames_told time without_it) (done_due without_it).peer q → Queues (frames_told time mid) (done_due mid).peer q
  then-told lives q h =
      let now : Queues rest_told (fold (λ p callback. removed callback.id p) m rest) q =
      subst (λ cs. Queues (flat_map (λ (callback : Callback). frame_told time callback.id) cs) (fold (λ p callback. removed callback.id p) m cs) q) due-now h in
      from-first q
      (queues-then (frame_told time c.id) rest_told (all_removed (ids_of rest) (removed c.id mid.peer)) (all_removed (ids_of rest) m) q
      (removed-past (ids_of rest) (frame_told time c.id) (removed c.id mid.peer) m told lives)
      (removed-status (ids_of rest) m ∙ lives) (subst (λ (p : Peer). Queues rest_told p q) (sym (fold-ids rest m)) now))

  abbrev left : Callback → Bool
  left x = not (counts x)

  left-now : filter left (before ++ after) ≡ filter left mid.callbacks
  left-now =
      filter-append left before after ∙ ap (λ b. filter left before ++ cond (not b) (c ∷ filter left after) (filter left after)) (sym due) ∙ sym (filter-append left before (c ∷ after))
      ∙ ap (filter left) (sym all_are)

  pub answered-on : (r : Resident) → m.status ≡ None → IsAnswered time r mid → IsAnswered time r without_it
  answered-on r lives is =
      record {
        owned = is.owned;
        subsurfaces = is.subsurfaces;
        status = lives;
        requests = told-requests (frame_told time c.id) (removed c.id mid.peer) m told lives ∙ is.requests;
        callbacks = left-by (frames_counting mid.owned.surfaces) (before ++ after) ∙ left-now ∙ sym (left-by (frames_counting mid.owned.surfaces) mid.callbacks) ∙ is.callbacks;
        heard = subst (λ (objects : Objects). AreHeard (before ++ after) objects) (sym (told-objects (frame_told time c.id) (removed c.id mid.peer) m told lives))
            (heard-middle before after c mid.peer.objects (subst (λ cs. AreHeard cs mid.peer.objects) all_are is.heard));
        follows = λ q h. is.follows q (then-told lives q h);
      }

-- where none is due any more, all was told
pub all-answered : (time : ℕ) (r mid : Resident) → IsAnswered time r mid → callbacks_due mid ≡ [] → Queues (frames_told time r) (done_due r).peer mid.peer
all-answered time r mid is none =
    is.follows mid.peer (subst (λ cs. Queues (flat_map (λ (callback : Callback). frame_told time callback.id) cs) (fold (λ p callback. removed callback.id p) mid.peer cs) mid.peer) (sym none) refl)

all-left : (cs : List Callback) → filter (λ (c : Callback). true) cs ≡ cs
all-left [] = refl
all-left (c ∷ cs) = ap (λ xs. c ∷ xs) (all-left cs)

pub all-callbacks : (time : ℕ) (r mid : Resident) → IsAnswered time r mid → callbacks_due mid ≡ [] → (done_due r).callbacks ≡ mid.callbacks
all-callbacks time r mid is none =
    sym is.callbacks ∙ ap (λ (gone : List Callback). filter (λ callback. not (list_any (λ other. other.number == callback.number) gone)) mid.callbacks) none ∙ all-left mid.callbacks

-- The frame callbacks that are kept of a client, as it is asked for this and that.
use Rattle.std.proofs.Common.{◌≡◌, ℕ, ◌+◌, ◌≤◌, List, [], ◌∷◌, ◌++◌, Bool, true, false, cond, Some, None, refl, ap, subst, sym, ◌∙◌, arith, eq-eqb, inl, inr}
use Rattle.std.specs.Prelude.{◌==◌, ◌&&◌, ◌||◌, filter, is_some, not}
use Rattle.std.specs.List.{list_any}
use Rattle.std.specs.Option.{option_map}
use Rattle.std.proofs.Math.Path.{fun_ext}
use Rattle.std.proofs.lemmas.Bool.{eqb-true}
use Rattle.wl_proto.specs.declared.interface.Interface.TheVariants.{WlSurface}
use Rattle.spec_desktop.specs.Objects.{with_id}
use Rattle.spec_desktop.specs.Peer.{Peer, Queues, QueuesOr, has_room, queued}
use Rattle.spec_desktop.specs.Told.{Said}
use Rattle.wl_links.specs.Family.{Tied}
use Rattle.wl_surface.specs.declared.frames.Waiting.{Waiting}
use Rattle.wl_surface.specs.FrameRequests.{frames_of}
use Rattle.wl_surface.specs.Slots.{Numbered, Slots, StandForAll, changed_at, kept_at, with_at}
use Rattle.wl_surface.specs.Request.{Frame, Request}
use Rattle.wl_surface.specs.State.{is_commit}
use Rattle.wl_surface.specs.Surface.{Surface, asking, new_surface, with_role}
use Rattle.wl_surface.specs.Surfaces.{with_change, with_new}
use Rattle.wl_surface.specs.Waiting.{AreWaiting, Callback, IsNewNumber, counted_at, frames_at, is_in}
use Rattle.wl_surface.specs.declared.role.Role.{Role}
use Rattle.wl_surface.proofs.Counting.{asked-in-role, asked-still, at-new, at-one, counts-in-role, counts-still}
use Rattle.wl_table.specs.Objects.{Held}
use Rattle.spec_desktop.specs.Desktop.{Resident}
use Rattle.spec_desktop.specs.Framing.{AreFramed}
use Rattle.law_desktop.specs.Owning.{AreKept, Names, by_number, targets_in}
use Rattle.law_desktop.specs.RoleNames.{names_of}
use Rattle.law_desktop.proofs.Keeping.FramingWaits.{framed-more, framed-same, is-new}
use Rattle.law_desktop.proofs.Soundness.ObjectsCalls.{any-filtered, is_left}
use Rattle.law_desktop.proofs.Keeping.OwningSurfaces.{surface-read, surfaces-changed, surfaces-made}
use Rattle.law_desktop.proofs.EachClient.Told.{over}

-- the surfaces of a client, by the numbers that its table names
abbrev pub numbered : Held → Resident → Numbered
numbered held r = by_number (targets_in WlSurface held) r.owned.surfaces

-- the callbacks that are kept are its
abbrev pub IsFramed : List Waiting → Held → Resident → Type 0
IsFramed frames held r = AreFramed frames (numbered held r) (r.peer.requests + 1) r.callbacks

pub one-more : (n : ℕ) → n ≤ n + 1
one-more n = omega arith

pub no-more : (n : ℕ) → n ≤ n
no-more n = omega arith

module _ (frames : List Waiting) (old new : Held) (r after : Resident) (callbacks : after.callbacks ≡ r.callbacks) (more : r.peer.requests ≤ after.peer.requests) (f : IsFramed frames old r) where
  -- neither what was asked for nor what is held or counts changes
  pub framed-left : ((number : ℕ) → frames_at (numbered new after number) ≡ frames_at (numbered old r number))
      → ((number : ℕ) → counted_at (numbered new after number) ≡ counted_at (numbered old r number))
      → IsFramed frames new after
  framed-left asked counts =
      let le : r.peer.requests + 1 ≤ after.peer.requests + 1 = omega (arith, more) in
      subst (λ (cs : List Callback). AreFramed frames (numbered new after) (after.peer.requests + 1) cs) (sym callbacks)
      (framed-same frames (numbered old r) (numbered new after) (r.peer.requests + 1) (after.peer.requests + 1) r.callbacks asked counts le f)

  -- the surfaces are the same, and so is what names them
  pub framed-kept : targets_in WlSurface new ≡ targets_in WlSurface old → after.owned.surfaces ≡ r.owned.surfaces → IsFramed frames new after
  framed-kept names surfaces =
      let same : numbered new after ≡ numbered old r = ap (λ n. by_number n after.owned.surfaces) names ∙ ap (λ all. by_number (targets_in WlSurface old) all) surfaces in
      framed-left (λ number. ap (λ (all : Numbered). frames_at (all number)) same) (λ number. ap (λ (all : Numbered). counted_at (all number)) same)

  pub framed-names : names_of new ≡ names_of old → after.owned.surfaces ≡ r.owned.surfaces → IsFramed frames new after
  framed-names names surfaces = framed-kept (ap (λ (n : Names). n.surfaces) names) surfaces

  module _ (slots : Slots) (tied : Tied) (is : AreKept (targets_in WlSurface old) slots tied r.owned.surfaces) (id number : ℕ) where
    -- one surface changes
    framed-changed : (change : Surface → Surface) → ((s : Surface) → (change s).id ≡ s.id) → frames_at (option_map change (numbered old r number)) ≡ frames_at (numbered old r number)
        → counted_at (option_map change (numbered old r number)) ≡ counted_at (numbered old r number) → targets_in WlSurface old id ≡ Some number → targets_in WlSurface new ≡ targets_in WlSurface old
        → after.owned.surfaces ≡ with_change id change r.owned.surfaces → IsFramed frames new after
    framed-changed change keeps asked counts named names surfaces =
        let same : numbered new after ≡ changed_at number change (numbered old r) =
        ap (λ n. by_number n after.owned.surfaces) names ∙ ap (λ all. by_number (targets_in WlSurface old) all) surfaces
        ∙ fun_ext (surfaces-changed (targets_in WlSurface old) slots tied r.owned.surfaces is id number named change keeps) in
        framed-left
        (λ n. ap (λ (all : Numbered). frames_at (all n)) same ∙ at-one frames_at number change (numbered old r) asked n)
        (λ n. ap (λ (all : Numbered). counted_at (all n)) same ∙ at-one counted_at number change (numbered old r) counts n)

    -- this is asked of one, which asks for no frame
    pub framed-asked : (request : Request) → frames_of (request ∷ []) ≡ [] → is_commit request ≡ false → targets_in WlSurface old id ≡ Some number → names_of new ≡ names_of old
        → after.owned.surfaces ≡ with_change id (asking request) r.owned.surfaces → IsFramed frames new after
    framed-asked request none no_commit named names surfaces =
        framed-changed (asking request) (λ s. refl) (asked-still request none (numbered old r number))
        (counts-still request no_commit (kept_at slots number) (numbered old r number) (is.stand number)) named
        (ap (λ (n : Names). n.surfaces) names) surfaces

    pub framed-role : (role : Role) → targets_in WlSurface old id ≡ Some number → targets_in WlSurface new ≡ targets_in WlSurface old
        → after.owned.surfaces ≡ with_change id (with_role role) r.owned.surfaces → IsFramed frames new after
    framed-role role named names surfaces =
        framed-changed (with_role role) (λ s. refl) (asked-in-role role (numbered old r number)) (counts-in-role role (numbered old r number)) named names surfaces

    -- one comes
    pub framed-made : (made : Slots) → ((named : Numbered) (id : ℕ) → StandForAll slots named → (named number ≡ None) × StandForAll made (with_at number (Some (new_surface id)) named))
        → targets_in WlSurface old id ≡ None
        → targets_in WlSurface new ≡ with_id id (Some number) (targets_in WlSurface old) → after.owned.surfaces ≡ with_new id r.owned.surfaces → IsFramed frames new after
    framed-made made created free names surfaces =
        let same : numbered new after ≡ with_at number (Some (new_surface id)) (numbered old r) =
        ap (λ n. by_number n after.owned.surfaces) names ∙ ap (λ all. by_number (with_id id (Some number) (targets_in WlSurface old)) all) surfaces
        ∙ fun_ext (surfaces-made (targets_in WlSurface old) slots tied r.owned.surfaces is id number free made created) in
        let none = (created (numbered old r) id is.stand).0 in
        framed-left
        (λ n. ap (λ (all : Numbered). frames_at (all n)) same ∙ at-new frames_at number id (numbered old r) none refl n)
        (λ n. ap (λ (all : Numbered). counted_at (all n)) same ∙ at-new counted_at number id (numbered old r) none refl n)

-- ---- the callbacks that are left

abbrev same_as : Callback → Callback → Bool
same_as c other = other.number == c.number

by-number : (numbers : List ℕ) (c other : Callback) → (same_as c other && is_in numbers other) ≡ (same_as c other && is_in numbers c)
by-number numbers c other = at (same_as c other) refl
  where
    at : (b : Bool) → same_as c other ≡ b → (b && is_in numbers other) ≡ (b && is_in numbers c)
    at true e = ap (λ n. list_any (λ m. m == n) numbers) (eqb-true other.number c.number e)
    at false e = refl

or-and : (a b c : Bool) → ((a && c) || (b && c)) ≡ ((a || b) && c)
or-and true true true = refl
or-and true false true = refl
or-and a b c = refl

all-by : (numbers : List ℕ) (c : Callback) (cs : List Callback) → list_any (λ x. same_as c x && is_in numbers x) cs ≡ (list_any (same_as c) cs && is_in numbers c)
all-by numbers c [] = refl
all-by numbers c (x ∷ xs) =
    ap (λ b. b || list_any (λ y. same_as c y && is_in numbers y) xs) (by-number numbers c x) ∙ ap (λ b. (same_as c x && is_in numbers c) || b) (all-by numbers c xs)
    ∙ or-and (same_as c x) (list_any (same_as c) xs) (is_in numbers c)

-- one of them is left that isn't asked for by one of these numbers
left-one : (numbers : List ℕ) (c : Callback) (cs : List Callback) → list_any (same_as c) cs ≡ true → is_left (filter (is_in numbers) cs) c ≡ not (is_in numbers c)
left-one numbers c cs there = ap not (any-filtered (same_as c) (is_in numbers) cs ∙ all-by numbers c cs ∙ ap (λ b. b && is_in numbers c) there)

left-among : (numbers : List ℕ) (all xs : List Callback) → ((c : Callback) → list_any (same_as c) xs ≡ true → list_any (same_as c) all ≡ true)
    → filter (is_left (filter (is_in numbers) all)) xs ≡ filter (λ c. not (is_in numbers c)) xs
left-among numbers all [] within = refl
left-among numbers all (x ∷ xs) within =
    ap (λ b. cond b (x ∷ filter (is_left (filter (is_in numbers) all)) xs) (filter (is_left (filter (is_in numbers) all)) xs)) (left-one numbers x all (within x (here x.number)))
    ∙ ap (λ ys. cond (not (is_in numbers x)) (x ∷ ys) ys) (left-among numbers all xs (λ c any. within c (later (x.number == c.number) (list_any (same_as c) xs) any)))
  where
    here : (n : ℕ) → ((n == n) || list_any (same_as x) xs) ≡ true
    here n = ap (λ b. b || list_any (same_as x) xs) (eq-eqb n n refl)

    later : (a b : Bool) → b ≡ true → (a || b) ≡ true
    later true b e = refl
    later false b e = e

pub left-by : (numbers : List ℕ) (cs : List Callback) → filter (is_left (filter (is_in numbers) cs)) cs ≡ filter (λ c. not (is_in numbers c)) cs
left-by numbers cs = left-among numbers cs cs (λ c any. any)

-- ---- a frame callback is asked for, a commit applies all of its surface, and a surface goes

module _ (old new : Held) (r after : Resident) (slots : Slots) (tied : Tied) (is : AreKept (targets_in WlSurface old) slots tied r.owned.surfaces) (f : IsFramed slots.frames old r) (id number : ℕ)
    (named : targets_in WlSurface old id ≡ Some number) where
  there : is_some (numbered old r number) ≡ true
  there = ap is_some (surface-read (targets_in WlSurface old) slots tied r.owned.surfaces is id number named) ∙ sym (is.numbered id) ∙ ap is_some named

  changed-so : (change : Surface → Surface) → ((s : Surface) → (change s).id ≡ s.id) → targets_in WlSurface new ≡ targets_in WlSurface old
      → after.owned.surfaces ≡ with_change id change r.owned.surfaces
      → numbered new after ≡ changed_at number change (numbered old r)
  changed-so change keeps names surfaces =
      ap (λ n. by_number n after.owned.surfaces) names ∙ ap (λ all. by_number (targets_in WlSurface old) all) surfaces
      ∙ fun_ext (surfaces-changed (targets_in WlSurface old) slots tied r.owned.surfaces is id number named change keeps)

  -- The number of the request is that of the client's last one.
  pub framed-frame : (frames : List Waiting) (n callback : ℕ) → n ≡ r.peer.requests + 1 → after.peer.requests ≡ n
      → ((all : Numbered) (cs : List Callback) → StandForAll slots all → AreWaiting slots.frames all cs → is_some (all number) ≡ true → (n : ℕ) → IsNewNumber n all cs
      → AreWaiting frames (changed_at number (asking (Frame n)) all) (cs ++ record { number = n; id = callback } ∷ []))
      → after.callbacks ≡ r.callbacks ++ record { number = n; id = callback } ∷ [] → names_of new ≡ names_of old → after.owned.surfaces ≡ with_change id (asking (Frame n)) r.owned.surfaces
      → IsFramed frames new after
  framed-frame frames n callback numbered_so counted waits calls names surfaces =
      let all = numbered old r in
      let le : r.peer.requests + 1 ≤ n = omega (arith, numbered_so) in
      let more = framed-more slots.frames frames all number n (r.peer.requests + 1) r.callbacks (r.callbacks ++ record { number = n; id = callback } ∷ []) le f
      (waits all r.callbacks is.stand f.waits there n (is-new slots.frames all (r.peer.requests + 1) n r.callbacks le f)) in
      rw (changed-so (asking (Frame n)) (λ s. refl) (ap (λ (x : Names). x.surfaces) names) surfaces, calls, counted) more

-- ---- what is told

-- what is told to one that lives on counts no request
pub told-requests : (events : List Said) (p q : Peer) → Queues events p q → q.status ≡ None → q.requests ≡ p.requests
told-requests [] p q h alive = ap (λ (x : Peer). x.requests) h
told-requests (event ∷ events) p q h alive = at (has_room p.unsent event) (λ k. told-requests events (queued event p) q k alive) h
  where
    at : (b : Bool) → (Queues events (queued event p) q → q.requests ≡ p.requests) → QueuesOr b (Queues events (queued event p) q) p q → q.requests ≡ p.requests
    at false later e = absurd (over _ p q e alive)
    at true later (inl e) = absurd (over _ p q e alive)
    at true later (inr k) = later k

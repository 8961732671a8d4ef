-- Which frame requests count after a commit and after other requests, and which the next frame
-- answers.
use Rattle.std.proofs.Common.{◌≡◌, ℕ, ◌==◌, ◌||◌, List, [], ◌∷◌, ◌++◌, Bool, true, false, cond, Option, Some, None, map, refl, ap, sym, subst, ◌∙◌, arith}
use Rattle.std.specs.Prelude.{find}
use Rattle.std.specs.Option.{option_map}
use Rattle.std.proofs.lemmas.Bool.{eqb-true}
use Rattle.std.proofs.lemmas.Grind.{flat_map-append}
use Rattle.std.proofs.lemmas.List.{append-nil}
use Rattle.wl_surface.specs.declared.frames.Waiting.{Waiting}
use Rattle.wl_surface.specs.FrameRequests.{frames_of}
use Rattle.wl_surface.specs.Kept.{Kept}
use Rattle.wl_surface.specs.Slots.{Numbered, StandsAt, changed_at, with_at}
use Rattle.wl_surface.specs.declared.role.Role.{Role}
use Rattle.wl_surface.specs.Request.{Commit, Request}
use Rattle.wl_surface.specs.Surface.{Surface, applying, asking, new_surface, with_role}
use Rattle.wl_surface.specs.Waiting.{AreUndue, AreWaiting, Callback, IsNextDue, IsUndue, IsWaiting, applied_at, applied_by}
use Rattle.wl_surface.specs.Waiting.{counted_at, frames_at, held_at, held_by, is_in, next_of, without_next}
use Rattle.wl_surface.proofs.Framed.{uncounted}
use Rattle.wl_surface.proofs.Records.{applied-kept, held-committed, held-kept}
use Rattle.wl_surface.specs.State.{is_commit}

same-number : (n : ℕ) → (n == n) ≡ true
same-number n = grind (arith)

or-true : (b : Bool) → (b || true) ≡ true
or-true true = refl
or-true false = refl

or-false : (b : Bool) → (b || false) ≡ b
or-false true = refl
or-false false = refl

-- ---- what was asked and what counts stay

module _ (all now : Numbered) (asked : (number : ℕ) → frames_at (now number) ≡ frames_at (all number)) (counts : (number : ℕ) → counted_at (now number) ≡ counted_at (all number)) where
  waits-same : (w : Waiting) (c : Callback) → IsWaiting w all c → IsWaiting w now c
  waits-same w c t = record {
    id = t.id;
    asked = λ number. ap (λ ns. is_in ns c) (asked number) ∙ t.asked number;
    held = ap (λ (ns : List ℕ × List ℕ). is_in ns.0 c) (counts w.surface) ∙ t.held;
    applied = ap (λ (ns : List ℕ × List ℕ). is_in ns.1 c) (counts w.surface) ∙ t.applied;
  }

  pub waiting-same : (ws : List Waiting) (cs : List Callback) → AreWaiting ws all cs → AreWaiting ws now cs
  waiting-same [] [] t = tt
  waiting-same [] (c ∷ cs) t = absurd t
  waiting-same (w ∷ ws) [] t = absurd t
  waiting-same (w ∷ ws) (c ∷ cs) t = (waits-same w c t.0, waiting-same ws cs t.1)

-- a request other than a frame request
frames-last : (rs : List Request) (r : Request) → frames_of (r ∷ []) ≡ [] → frames_of (rs ++ r ∷ []) ≡ frames_of rs
frames-last rs r e = flat_map-append _ rs (r ∷ []) ∙ ap (λ ns. frames_of rs ++ ns) e ∙ append-nil (frames_of rs)

pub asked-still : (r : Request) → frames_of (r ∷ []) ≡ [] → (at : Option Surface) → frames_at (option_map (asking r) at) ≡ frames_at at
asked-still r e None = refl
asked-still r e (Some s) = frames-last s.history.requests r e

applied-still : (r : Request) (slot : Option Kept) (at : Option Surface) → StandsAt slot at → applied_at (option_map (asking r) at) ≡ applied_at at
applied-still r slot None t = refl
applied-still r None (Some s) t = absurd t
applied-still r (Some k) (Some s) t = ap frames_of (applied-kept s.history r t.history.cut_within t.history.commits_within)

held-still : (r : Request) → is_commit r ≡ false → (slot : Option Kept) (at : Option Surface) → StandsAt slot at → held_at (option_map (asking r) at) ≡ held_at at
held-still r e slot None t = refl
held-still r e None (Some s) t = absurd t
held-still r e (Some k) (Some s) t = ap frames_of (held-kept s.history.requests r e t.history.commits_within)

abbrev pair : List ℕ → List ℕ → List ℕ × List ℕ
pair held applied = (held, applied)

pub counts-still : (r : Request) → is_commit r ≡ false → (slot : Option Kept) (at : Option Surface) → StandsAt slot at → counted_at (option_map (asking r) at) ≡ counted_at at
counts-still r e slot at t = both (held-still r e slot at t) (applied-still r slot at t)
  where
    both : {a b c d : List ℕ} → a ≡ b → c ≡ d → ◌≡◌ {A = List ℕ × List ℕ} (a, c) (b, d)
    both {b} {c} e f = ap (λ (x : List ℕ). pair x c) e ∙ ap (λ (y : List ℕ). pair b y) f

-- One surface changes, but not what is read of it.
pub at-one : {X : Type 0} (read : Option Surface → X) (surface : ℕ) (change : Surface → Surface) (all : Numbered) → read (option_map change (all surface)) ≡ read (all surface)
    → (number : ℕ) → read (changed_at surface change all number) ≡ read (all number)
at-one read surface change all e number = by (number == surface) refl
  where
    by : (b : Bool) → (number == surface) ≡ b → read (cond b (option_map change (all number)) (all number)) ≡ read (all number)
    by true is = subst (λ k. read (option_map change (all k)) ≡ read (all k)) (sym (eqb-true number surface is)) e
    by false is = refl

-- A surface comes of which nothing was asked.
pub at-new : {X : Type 0} (read : Option Surface → X) (surface id : ℕ) (all : Numbered) → all surface ≡ None → read (Some (new_surface id)) ≡ read None
    → (number : ℕ) → read (with_at surface (Some (new_surface id)) all number) ≡ read (all number)
at-new read surface id all none e number = by (number == surface) refl
  where
    by : (b : Bool) → (number == surface) ≡ b → read (cond b (Some (new_surface id)) (all number)) ≡ read (all number)
    by true is = e ∙ ap read (sym none) ∙ ap (λ k. read (all k)) (sym (eqb-true number surface is))
    by false is = refl

-- A surface gets its role.
pub asked-in-role : (role : Role) (at : Option Surface) → frames_at (option_map (with_role role) at) ≡ frames_at at
asked-in-role role None = refl
asked-in-role role (Some s) = refl

pub counts-in-role : (role : Role) (at : Option Surface) → counted_at (option_map (with_role role) at) ≡ counted_at at
counts-in-role role None = refl
counts-in-role role (Some s) = refl

-- ---- a commit that is held, and a surface that is applied

commit-asks : (at : Option Surface) → frames_at (option_map (asking Commit) at) ≡ frames_at at
commit-asks None = refl
commit-asks (Some s) = frames-last s.history.requests Commit refl

commit-holds : (at : Option Surface) → held_at (option_map (asking Commit) at) ≡ frames_at at
commit-holds None = refl
commit-holds (Some s) = ap frames_of (held-committed s.history.requests) ∙ frames-last s.history.requests Commit refl

apply-asks : (at : Option Surface) → frames_at (option_map applying at) ≡ frames_at at
apply-asks None = refl
apply-asks (Some s) = refl

apply-holds : (at : Option Surface) → held_at (option_map applying at) ≡ held_at at
apply-holds None = refl
apply-holds (Some s) = refl

apply-applies : (at : Option Surface) → applied_at (option_map applying at) ≡ held_at at
apply-applies None = refl
apply-applies (Some s) = refl

module _ (surface : ℕ) (all : Numbered) where
  asked-so : (change : Surface → Surface) → ((at : Option Surface) → frames_at (option_map change at) ≡ frames_at at) → (number : ℕ)
      → frames_at (changed_at surface change all number) ≡ frames_at (all number)
  asked-so change e number = by (number == surface)
    where
      by : (b : Bool) → frames_at (cond b (option_map change (all number)) (all number)) ≡ frames_at (all number)
      by true = e (all number)
      by false = refl

  module _ (stands : (number : ℕ) → (slot : Option Kept) × StandsAt slot (all number)) where
    waits-held : (w : Waiting) (c : Callback) → IsWaiting w all c → IsWaiting (held_by surface w) (changed_at surface (asking Commit) all) c
    waits-held w c t = record {
      id = t.id;
      asked = λ number. ap (λ ns. is_in ns c) (asked-so (asking Commit) commit-asks number) ∙ t.asked number;
      held = holds (w.surface == surface);
      applied = counts (w.surface == surface);
    } where
      holds : (b : Bool) → is_in (held_at (cond b (option_map (asking Commit) (all w.surface)) (all w.surface))) c ≡ (w.is_held || b)
      holds true = ap (λ ns. is_in ns c) (commit-holds (all w.surface)) ∙ t.asked w.surface ∙ same-number w.surface ∙ sym (or-true w.is_held)
      holds false = t.held ∙ sym (or-false w.is_held)

      counts : (b : Bool) → is_in (applied_at (cond b (option_map (asking Commit) (all w.surface)) (all w.surface))) c ≡ w.is_applied
      counts true = ap (λ ns. is_in ns c) (applied-still Commit (stands w.surface).0 (all w.surface) (stands w.surface).1) ∙ t.applied
      counts false = t.applied

    pub waiting-held : (ws : List Waiting) (cs : List Callback) → AreWaiting ws all cs → AreWaiting (map (held_by surface) ws) (changed_at surface (asking Commit) all) cs
    waiting-held [] [] t = tt
    waiting-held [] (c ∷ cs) t = absurd t
    waiting-held (w ∷ ws) [] t = absurd t
    waiting-held (w ∷ ws) (c ∷ cs) t = (waits-held w c t.0, waiting-held ws cs t.1)

  waits-applied : (w : Waiting) (c : Callback) → IsWaiting w all c → IsWaiting (applied_by surface w) (changed_at surface applying all) c
  waits-applied w c t = record {
    id = t.id;
    asked = λ number. ap (λ ns. is_in ns c) (asked-so applying apply-asks number) ∙ t.asked number;
    held = holds (w.surface == surface);
    applied = counts (w.surface == surface);
  } where
    holds : (b : Bool) → is_in (held_at (cond b (option_map applying (all w.surface)) (all w.surface))) c ≡ w.is_held
    holds true = ap (λ ns. is_in ns c) (apply-holds (all w.surface)) ∙ t.held
    holds false = t.held

    counts : (b : Bool) → is_in (applied_at (cond b (option_map applying (all w.surface)) (all w.surface))) c ≡ cond b w.is_held w.is_applied
    counts true = ap (λ ns. is_in ns c) (apply-applies (all w.surface)) ∙ t.held
    counts false = t.applied

  pub waiting-applied : (ws : List Waiting) (cs : List Callback) → AreWaiting ws all cs → AreWaiting (map (applied_by surface) ws) (changed_at surface applying all) cs
  waiting-applied [] [] t = tt
  waiting-applied [] (c ∷ cs) t = absurd t
  waiting-applied (w ∷ ws) [] t = absurd t
  waiting-applied (w ∷ ws) (c ∷ cs) t = (waits-applied w c t.0, waiting-applied ws cs t.1)

-- ---- the next frame

module _ (all : Numbered) where
  undue : (w : Waiting) (c : Callback) → IsWaiting w all c → w.is_applied ≡ false → IsUndue all c
  undue w c t e number = by (number == w.surface) refl
    where
      by : (b : Bool) → (number == w.surface) ≡ b → is_in (applied_at (all number)) c ≡ false
      by true is = subst (λ k. is_in (applied_at (all k)) c ≡ false) (sym (eqb-true number w.surface is)) (t.applied ∙ e)
      by false is = uncounted c (all number) (t.asked number ∙ is)

  pub waiting-next : (ws : List Waiting) (cs : List Callback) (id : ℕ) → AreWaiting ws all cs → next_of ws ≡ Some id → IsNextDue id all cs (without_next ws)
  waiting-next [] cs id t e = absurd (cc)
  waiting-next (w ∷ ws) [] id t e = absurd t
  waiting-next (w ∷ ws) (c ∷ cs) id t e = by w.is_applied refl (waiting-next ws cs id t.1) e
    where
      or_none : Option ℕ → ℕ
      or_none None = 0
      or_none (Some n) = n

      by : (b : Bool) → w.is_applied ≡ b → (next_of ws ≡ Some id → IsNextDue id all cs (without_next ws))
          → option_map (λ (v : Waiting). v.callback) (cond b (Some w) (find (λ (v : Waiting). v.is_applied) ws)) ≡ Some id
          → IsNextDue id all (c ∷ cs) (cond b ws (w ∷ without_next ws))
      by true is rest e = record { before = []; callback = c; after = cs; all_are = refl; has_id = sym t.0.id ∙ ap or_none e; undue = tt; surface = w.surface; due = t.0.applied ∙ is; others = t.1 }
      by false is rest e = let found = rest e in record {
        before = c ∷ found.before;
        callback = found.callback;
        after = found.after;
        all_are = ap (λ xs. c ∷ xs) found.all_are;
        has_id = found.has_id;
        undue = (undue w c t.0 is, found.undue);
        surface = found.surface;
        due = found.due;
        others = (t.0, found.others);
      }

  pub waiting-none : (ws : List Waiting) (cs : List Callback) → AreWaiting ws all cs → next_of ws ≡ None → AreUndue all cs
  waiting-none [] [] t e = tt
  waiting-none [] (c ∷ cs) t e = absurd t
  waiting-none (w ∷ ws) [] t e = absurd t
  waiting-none (w ∷ ws) (c ∷ cs) t e = by w.is_applied refl (waiting-none ws cs t.1) e
    where
      by : (b : Bool) → w.is_applied ≡ b → (next_of ws ≡ None → AreUndue all cs) → option_map (λ (v : Waiting). v.callback) (cond b (Some w) (find (λ (v : Waiting). v.is_applied) ws)) ≡ None
          → AreUndue all (c ∷ cs)
      by true is rest e = absurd (cc)
      by false is rest e = (undue w c t.0 is, rest e)

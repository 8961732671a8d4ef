-- What is done to surfaces attaches no buffer but that of a request.
use Rattle.std.proofs.Common.{◌≡◌, ℕ, zero, suc, List, [], ◌∷◌, ◌++◌, Bool, true, false, cond, fold, Option, Some, None, refl, ap, sym, subst, inl, inr}
use Rattle.std.specs.Prelude.{◌==◌, ◌&&◌, ◌||◌, ◌⊎◌, filter, map, not, take}
use Rattle.wl_surface.specs.Request.{Buffer, Request, Attach, Commit, AddChild}
use Rattle.wl_surface.specs.declared.role.Role.TheVariants.{Subsurface}
use Rattle.wl_surface.specs.State.{History, Values, asked, first_values, values, committed}
use Rattle.wl_surface.specs.Surface.{Surface, applying, asking, buffers_of, listed, new_surface, with_role}
use Rattle.wl_surface.specs.Surfaces.{Link, Surfaces, link_at, with_change, with_new, without_surface}
use Rattle.wl_surface.specs.Trees.{applied_tree, applied_unless, behaves_synchronised, children_of, committed_in, desynchronised_in, destroyed_in, ended_in, ending, in_mode}
use Rattle.wl_surface.specs.Trees.{levels, linked, links_with, released_in, with_link}
use Rattle.spec_desktop.specs.Changing.{unlinked_at}
use Rattle.law_desktop.specs.OneBuffer.{Attaches, IsAmong, IsAttached, IsAttachedBy, IsAttachedTo}

-- what is attached now was so before, or is one of these
abbrev pub FewerOr : (Buffer → Type 0) → Surfaces → Surfaces → Type 0
FewerOr New old new = (b : Buffer) → IsAttached b new → IsAttached b old ⊎ New b

-- what is attached now was so before
abbrev pub Fewer : Surfaces → Surfaces → Type 0
Fewer old new = (b : Buffer) → IsAttached b new → IsAttached b old

abbrev Nothing : Buffer → Type 0
Nothing b = ⊥

left-on : {A B C : Type 0} → (A → B) → A ⊎ C → B ⊎ C
left-on f (inl a) = inl (f a)
left-on f (inr c) = inr c

only : {A : Type 0} → A ⊎ ⊥ → A
only (inl a) = a
only (inr e) = absurd e

-- ---- a surface changes

-- a request more
pub asked-by : (b : Buffer) (rs : List Request) (request : Request) → IsAttachedBy b (rs ++ request ∷ []) → IsAttachedBy b rs ⊎ Attaches b request
asked-by b [] request (inl h) = inr h
asked-by b [] request (inr h) = absurd h
asked-by b (r ∷ rs) request (inl h) = inl (inl h)
asked-by b (r ∷ rs) request (inr h) = left-on (λ k. inr k) (asked-by b rs request h)

module _ (New : Buffer → Type 0) (id : ℕ) (change : Surface → Surface)
    (each : (b : Buffer) (s : Surface) → IsAttachedBy b (change s).history.requests → IsAttachedBy b s.history.requests ⊎ New b) where
  changed-to : (ss : List Surface) (b : Buffer) → IsAttachedTo b (map (λ s. cond (s.id == id) (change s) s) ss) → IsAttachedTo b ss ⊎ New b
  changed-to [] b h = absurd h
  changed-to (s ∷ ss) b (inl h) = at (s.id == id) h
    where
      at : (c : Bool) → IsAttachedBy b (cond c (change s) s).history.requests → IsAttachedTo b (s ∷ ss) ⊎ New b
      at true h = left-on (λ k. inl k) (each b s h)
      at false h = inl (inl h)
  changed-to (s ∷ ss) b (inr h) = left-on (λ k. inr k) (changed-to ss b h)

-- what is asked of a surface attaches no other buffer
pub or-asked : (id : ℕ) (request : Request) (all : Surfaces) → FewerOr (λ b. Attaches b request) all (with_change id (asking request) all)
or-asked id request all b h =
    changed-to (λ b. Attaches b request) id (asking request) (λ b s k. asked-by b s.history.requests request k) all.surfaces b h

pub fewer-asked : (id : ℕ) (request : Request) (all : Surfaces) → ((b : Buffer) → Attaches b request → ⊥) → Fewer all (with_change id (asking request) all)
fewer-asked id request all never b h = at (or-asked id request all b h)
  where
    at : IsAttached b all ⊎ Attaches b request → IsAttached b all
    at (inl k) = k
    at (inr k) = absurd (never b k)

-- a change that asks nothing attaches nothing
pub fewer-changed : (id : ℕ) (change : Surface → Surface) → ((s : Surface) → (change s).history.requests ≡ s.history.requests) → (all : Surfaces)
    → Fewer all (with_change id change all)
fewer-changed id change same all b h =
    only (changed-to Nothing id change (λ b s k. inl (subst (λ (rs : List Request). IsAttachedBy b rs) (same s) k)) all.surfaces b h)

-- ---- surfaces come and go

new-to : (b : Buffer) (id : ℕ) (ss : List Surface) → IsAttachedTo b (ss ++ new_surface id ∷ []) → IsAttachedTo b ss
new-to b id [] (inl h) = absurd h
new-to b id [] (inr h) = absurd h
new-to b id (s ∷ ss) (inl h) = inl h
new-to b id (s ∷ ss) (inr h) = inr (new-to b id ss h)

pub fewer-new : (id : ℕ) (all : Surfaces) → Fewer all (with_new id all)
fewer-new id all b h = new-to b id all.surfaces h

left-to : (b : Buffer) (p : Surface → Bool) (ss : List Surface) → IsAttachedTo b (filter p ss) → IsAttachedTo b ss
left-to b p [] h = absurd h
left-to b p (s ∷ ss) h = at (p s) (left-to b p ss) h
  where
    at : (c : Bool) → (IsAttachedTo b (filter p ss) → IsAttachedTo b ss) → IsAttachedTo b (cond c (s ∷ filter p ss) (filter p ss)) → IsAttachedTo b (s ∷ ss)
    at true later (inl k) = inl k
    at true later (inr k) = inr (later k)
    at false later k = inr (later k)

pub fewer-without : (id : ℕ) (all : Surfaces) → Fewer all (without_surface id all)
fewer-without id all b h = left-to b (λ s. not (s.id == id)) all.surfaces h

-- ---- trees are applied

fewer-fold : {X : Type 0} (f : Surfaces → X → Surfaces) → ((done : Surfaces) (x : X) → Fewer done (f done x)) → (xs : List X) (all : Surfaces) → Fewer all (fold f all xs)
fewer-fold f each [] all b h = h
fewer-fold f each (x ∷ xs) all b h = each all x b (fewer-fold f each xs (f all x) b h)

pub fewer-applied : (n surface : ℕ) (all : Surfaces) → Fewer all (applied_tree n surface all)
unfolding applied_tree
fewer-applied zero surface all b h = h
fewer-applied (suc n) surface all b h =
    fewer-changed surface applying (λ s. refl) all b
    (fewer-fold (λ done child. applied_tree n child done) (λ done child. fewer-applied n child done) (children_of surface all) (with_change surface applying all) b h)

fewer-unless : (c : Bool) (surface : ℕ) (all : Surfaces) → Fewer all (applied_unless c surface all)
fewer-unless true surface all b h = h
fewer-unless false surface all b h = fewer-applied levels surface all b h

pub fewer-committed : (surface : ℕ) (all : Surfaces) → Fewer all (committed_in surface all)
fewer-committed surface all b h =
    fewer-asked surface Commit all (λ b e. e) b (fewer-unless (behaves_synchronised levels all surface) surface (with_change surface (asking Commit) all) b h)

fewer-released : (o : Option Link) (old new : Surfaces) → Fewer new (released_in o old new)
fewer-released None old new b h = h
fewer-released (Some l) old new b h =
    fewer-unless (not (behaves_synchronised levels old l.child) || behaves_synchronised levels new l.child) l.child new b h

pub fewer-desynchronised : (number : ℕ) (all : Surfaces) → Fewer all (desynchronised_in number all)
fewer-desynchronised number all b h = fewer-released (link_at number all) all (with_link number (in_mode false) all) b h

fewer-ended : (all : Surfaces) (l : Link) → Fewer all (ended_in all l)
fewer-ended all l b h = fewer-applied levels l.child (with_link l.number ending all) b h

pub fewer-unlinked : (link : Option ℕ) (all : Surfaces) → Fewer all (unlinked_at link all)
fewer-unlinked None all b h = h
fewer-unlinked (Some number) all b h = fewer-fold ended_in fewer-ended (filter (λ l. not l.has_ended && l.number == number) all.links) all b h

pub fewer-destroyed : (surface : ℕ) (all : Surfaces) → Fewer all (destroyed_in surface all)
fewer-destroyed surface all b h =
    fewer-fold ended_in fewer-ended (links_with surface all) all b (fewer-without surface (fold ended_in all (links_with surface all)) b h)

pub fewer-linked : (number child parent : ℕ) (all : Surfaces) → Fewer all (linked number child parent all)
fewer-linked number child parent all b h =
    let with_one : Surfaces =
    record all { links = all.links ++ record { number = number; child = child; parent = parent; synchronised = true; has_ended = false } ∷ [] } in
    fewer-changed child (with_role Subsurface) (λ s. refl) with_one b
    (fewer-asked parent (AddChild number) (with_change child (with_role Subsurface) with_one) (λ b e. e) b h)

-- ---- what a surface has

-- the last buffer that these requests attach is one of them
buffer-by : (rs : List Request) (v : Values) (b : Buffer) → (fold asked v rs).buffer ≡ Some b → (v.buffer ≡ Some b) ⊎ IsAttachedBy b rs
buffer-by [] v b e = inl e
buffer-by (r ∷ rs) v b e = at (buffer-by rs (asked v r) b e)
  where
    step : (request : Request) → (asked v request).buffer ≡ Some b → (v.buffer ≡ Some b) ⊎ Attaches b request
    step (Attach buffer x y) e = inr e
    step request e = inl e

    first : (v.buffer ≡ Some b) ⊎ Attaches b r → (v.buffer ≡ Some b) ⊎ IsAttachedBy b (r ∷ rs)
    first (inl k) = inl k
    first (inr k) = inr (inl k)

    at : ((asked v r).buffer ≡ Some b) ⊎ IsAttachedBy b rs → (v.buffer ≡ Some b) ⊎ IsAttachedBy b (r ∷ rs)
    at (inl k) = first (step r k)
    at (inr k) = inr (inr k)

values-by : (rs : List Request) (b : Buffer) → (values rs).buffer ≡ Some b → IsAttachedBy b rs
values-by rs b e = at (buffer-by rs first_values b e)
  where
    at : (first_values.buffer ≡ Some b) ⊎ IsAttachedBy b rs → IsAttachedBy b rs
    at (inl k) = absurd (cc)
    at (inr k) = k

take-by : (n : ℕ) (rs : List Request) (b : Buffer) → IsAttachedBy b (take n rs) → IsAttachedBy b rs
take-by zero rs b h = absurd h
take-by (suc n) [] b h = absurd h
take-by (suc n) (r ∷ rs) b (inl h) = inl h
take-by (suc n) (r ∷ rs) b (inr h) = inr (take-by n rs b h)

among-append : (b : Buffer) (xs ys : List Buffer) → IsAmong b (xs ++ ys) → IsAmong b xs ⊎ IsAmong b ys
among-append b [] ys h = inr h
among-append b (x ∷ xs) ys (inl h) = inl (inl h)
among-append b (x ∷ xs) ys (inr h) = left-on (λ k. inr k) (among-append b xs ys h)

among-listed : (b : Buffer) (o : Option Buffer) → IsAmong b (listed o) → o ≡ Some b
among-listed b None h = absurd h
among-listed b (Some other) (inl h) = ap (λ (x : Buffer). Some x) (sym h)
among-listed b (Some other) (inr h) = absurd h

module _ (h : History) (b : Buffer) where
  abbrev Listed : List Request → List Buffer
  Listed requests = listed (values requests).buffer

  abbrev Held : List Request
  Held = take (committed h.requests) h.requests

  abbrev Applied : List Request
  Applied = take h.cut h.requests

  taken : (n : ℕ) → IsAmong b (Listed (take n h.requests)) → IsAttachedBy b h.requests
  taken n k = take-by n h.requests b (values-by (take n h.requests) b (among-listed b _ k))

  had-first : IsAmong b (Listed h.requests) ⊎ IsAmong b (Listed Held) → IsAttachedBy b h.requests
  had-first (inl k) = values-by h.requests b (among-listed b _ k)
  had-first (inr k) = taken (committed h.requests) k

  had-last : IsAmong b (Listed h.requests ++ Listed Held) ⊎ IsAmong b (Listed Applied) → IsAttachedBy b h.requests
  had-last (inl k) = had-first (among-append b (Listed h.requests) (Listed Held) k)
  had-last (inr k) = taken h.cut k

  pub had-by : IsAmong b (buffers_of h) → IsAttachedBy b h.requests
  had-by k = had-last (among-append b (Listed h.requests ++ Listed Held) (Listed Applied) k)

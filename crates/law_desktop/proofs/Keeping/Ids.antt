-- Whatever is done to a client's surfaces and to their links, their ids stay, but for one that comes or goes.
use Rattle.std.proofs.Common.{◌≡◌, ℕ, zero, suc, Bool, true, false, List, [], ◌∷◌, Option, Some, None, cond, length, map, refl, ap, sym, ◌∙◌}
use Rattle.std.specs.Prelude.{◌==◌, ◌&&◌, ◌||◌, find, is_some, not, filter, fold}
use Rattle.std.proofs.lemmas.Grind.{flat_map-append}
use Rattle.std.proofs.lemmas.List.{append-nil}
use Rattle.std.proofs.lemmas.Option.{same_Some}
use Rattle.wl_surface.specs.declared.role.Role.TheVariants.{Subsurface}
use Rattle.wl_surface.specs.Request.{AddChild, Buffer, Commit}
use Rattle.wl_surface.specs.FrameRequests.{frames_of}
use Rattle.wl_surface.specs.State.{Values, pending}
use Rattle.wl_surface.specs.Surface.{Surface, applying, asking, with_role}
use Rattle.wl_surface.specs.Surfaces.{Link, Surfaces, link_at, surface_at, with_change}
use Rattle.wl_surface.specs.Trees.{applied_tree, applied_unless, behaves_synchronised, children_of, committed_in, desynchronised_in, ended_in, in_mode, levels, linked, links_with}
use Rattle.wl_surface.specs.Trees.{released_in, with_link}
use Rattle.wl_surface.proofs.Records.{values-asked}
use Rattle.law_desktop.specs.Apart.{AreApartBy}
use Rattle.law_desktop.proofs.Lists.Surfaces.{has_id}
use Rattle.law_desktop.proofs.Truth.{none-there}
use Rattle.spec_desktop.specs.Changing.{unlinked_at}

-- ---- ids

abbrev pub ids_of : List Surface → List ℕ
ids_of ss = map (λ (s : Surface). s.id) ss

-- these surfaces have the ids of those, in the same order
abbrev pub HasSameIds : Surfaces → Surfaces → Type 0
HasSameIds all new = ids_of new.surfaces ≡ ids_of all.surfaces

abbrev is_among : ℕ → List ℕ → Bool
is_among id [] = false
is_among id (i ∷ is) = cond (i == id) true (is_among id is)

there-among : (id : ℕ) (ss : List Surface) → is_some (find (has_id id) ss) ≡ is_among id (ids_of ss)
there-among id [] = refl
there-among id (s ∷ ss) = at (s.id == id) (there-among id ss)
  where
    at : (b : Bool) → is_some (find (has_id id) ss) ≡ is_among id (ids_of ss) → is_some (cond b (Some s) (find (has_id id) ss)) ≡ cond b true (is_among id (ids_of ss))
    at true rest = refl
    at false rest = rest

-- so the same are there
pub same-there : (all new : Surfaces) → HasSameIds all new → (id : ℕ) → is_some (surface_at id new) ≡ is_some (surface_at id all)
same-there all new same id = there-among id new.surfaces ∙ ap (is_among id) same ∙ sym (there-among id all.surfaces)

-- told apart by them as well
apart-by : (xs ys : List Surface) → ids_of ys ≡ ids_of xs → AreApartBy has_id xs → AreApartBy has_id ys
apart-by xs [] same apart = tt
apart-by [] (y ∷ ys) same apart = absurd (cc)
apart-by (x ∷ xs) (y ∷ ys) same apart =
    let first : y.id ≡ x.id = cc in
    let rest : ids_of ys ≡ ids_of xs = cc in (
      λ key is. none-there (find (has_id key) ys) (there-among key ys ∙ ap (is_among key) rest ∙ sym (there-among key xs) ∙ ap is_some (apart.0 key (ap (λ i. i == key) (sym first) ∙ is))),
      apart-by xs ys rest apart.1,
    )

pub same-apart : (all new : Surfaces) → HasSameIds all new → AreApartBy has_id all.surfaces → AreApartBy has_id new.surfaces
same-apart all new same apart = apart-by all.surfaces new.surfaces same apart

length-ids : (ss : List Surface) → length (ids_of ss) ≡ length ss
length-ids [] = refl
length-ids (s ∷ ss) = ap (λ n. suc n) (length-ids ss)

-- and as many
pub same-length : (all new : Surfaces) → HasSameIds all new → length new.surfaces ≡ length all.surfaces
same-length all new same = sym (length-ids new.surfaces) ∙ ap (λ (is : List ℕ). length is) same ∙ length-ids all.surfaces

-- ---- what is done to them

-- what is read of each surface, where to take its state up to its last commit leaves that
module _ {X : Type 0} (key : Surface → X) (applies : (s : Surface) → key (applying s) ≡ key s) where
  abbrev HasSameKeys : Surfaces → Surfaces → Type 0
  HasSameKeys all new = map key new.surfaces ≡ map key all.surfaces

  changed-keys : (id : ℕ) (change : Surface → Surface) → ((s : Surface) → key (change s) ≡ key s) → (ss : List Surface) → map key (map (λ s. cond (s.id == id) (change s) s) ss) ≡ map key ss
  changed-keys id change keeps [] = refl
  changed-keys id change keeps (s ∷ ss) =
      ap (λ k. k ∷ map key (map (λ s. cond (s.id == id) (change s) s) ss)) (at (s.id == id)) ∙ ap (λ ks. key s ∷ ks) (changed-keys id change keeps ss)
    where
      at : (b : Bool) → key (cond b (change s) s) ≡ key s
      at true = keeps s
      at false = refl

  pub keys-changed : (id : ℕ) (change : Surface → Surface) → ((s : Surface) → key (change s) ≡ key s) → (all : Surfaces) → HasSameKeys all (with_change id change all)
  keys-changed id change keeps all = changed-keys id change keeps all.surfaces

  keys-each : {Y : Type 0} (step : Surfaces → Y → Surfaces) → ((all : Surfaces) (y : Y) → HasSameKeys all (step all y)) → (ys : List Y) (all : Surfaces) → HasSameKeys all (fold step all ys)
  keys-each step each [] all = refl
  keys-each step each (y ∷ ys) all = keys-each step each ys (step all y) ∙ each all y

  keys-applied : (n surface : ℕ) (all : Surfaces) → HasSameKeys all (applied_tree n surface all)
  unfolding applied_tree
  keys-applied zero surface all = refl
  keys-applied (suc n) surface all =
      keys-each (λ done child. applied_tree n child done) (λ done child. keys-applied n child done) (children_of surface all) (with_change surface applying all)
      ∙ keys-changed surface applying applies all

  keys-unless : (b : Bool) (surface : ℕ) (all : Surfaces) → HasSameKeys all (applied_unless b surface all)
  keys-unless true surface all = refl
  keys-unless false surface all = keys-applied levels surface all

  pub keys-committed : ((s : Surface) → key (asking Commit s) ≡ key s) → (surface : ℕ) (all : Surfaces) → HasSameKeys all (committed_in surface all)
  keys-committed asks surface all =
      keys-unless (behaves_synchronised levels all surface) surface (with_change surface (asking Commit) all) ∙ keys-changed surface (asking Commit) asks all

  keys-released : (l : Option Link) (old new : Surfaces) → HasSameKeys new (released_in l old new)
  keys-released None old new = refl
  keys-released (Some l) old new = keys-unless (not (behaves_synchronised levels old l.child) || behaves_synchronised levels new l.child) l.child new

  pub keys-desynchronised : (number : ℕ) (all : Surfaces) → HasSameKeys all (desynchronised_in number all)
  keys-desynchronised number all = keys-released (link_at number all) all (with_link number (in_mode false) all)

  keys-ended : (all : Surfaces) (l : Link) → HasSameKeys all (ended_in all l)
  keys-ended all l = keys-applied levels l.child _

  pub keys-unlinked : (link : Option ℕ) (all : Surfaces) → HasSameKeys all (unlinked_at link all)
  keys-unlinked None all = refl
  keys-unlinked (Some number) all = keys-each ended_in keys-ended (filter (λ l. not l.has_ended && l.number == number) all.links) all

  -- before a surface goes, its links end
  pub keys-without-links : (surface : ℕ) (all : Surfaces) → HasSameKeys all (fold ended_in all (links_with surface all))
  keys-without-links surface all = keys-each ended_in keys-ended (links_with surface all) all

-- ---- ids

abbrev id_of : Surface → ℕ
id_of s = s.id

pub ids-committed : (surface : ℕ) (all : Surfaces) → HasSameIds all (committed_in surface all)
ids-committed surface all = keys-committed id_of (λ s. refl) (λ s. refl) surface all

pub ids-changed : (id : ℕ) (change : Surface → Surface) → ((s : Surface) → (change s).id ≡ s.id) → (all : Surfaces) → HasSameIds all (with_change id change all)
ids-changed id change keeps all = keys-changed id_of (λ s. refl) id change keeps all

pub ids-linked : (number child parent : ℕ) (all : Surfaces) → HasSameIds all (linked number child parent all)
ids-linked number child parent all =
    ids-changed parent (asking (AddChild number)) (λ s. refl) (with_change child (with_role Subsurface) all) ∙ ids-changed child (with_role Subsurface) (λ s. refl) all

pub ids-desynchronised : (number : ℕ) (all : Surfaces) → HasSameIds all (desynchronised_in number all)
ids-desynchronised number all = keys-desynchronised id_of (λ s. refl) number all

pub ids-unlinked : (link : Option ℕ) (all : Surfaces) → HasSameIds all (unlinked_at link all)
ids-unlinked link all = keys-unlinked id_of (λ s. refl) link all

pub ids-without-links : (surface : ℕ) (all : Surfaces) → HasSameIds all (fold ended_in all (links_with surface all))
ids-without-links surface all = keys-without-links id_of (λ s. refl) surface all

-- what is read of the one of an id
found-key : {X : Type 0} (key : Surface → X) (named : X → ℕ) → ((s : Surface) → named (key s) ≡ s.id) → (id : ℕ) (xs ys : List Surface) → map key ys ≡ map key xs → (s : Surface)
    → find (has_id id) xs ≡ Some s → (t : Surface) × (find (has_id id) ys ≡ Some t) × (key t ≡ key s)
found-key key named reads id [] ys same s found = absurd (cc)
found-key key named reads id (x ∷ xs) [] same s found = absurd (cc)
found-key {X} key named reads id (x ∷ xs) (y ∷ ys) same s found =
    let first : key y ≡ key x = cc in
    let rest : map key ys ≡ map key xs = cc in
    at (x.id == id) refl found first (found-key key named reads id xs ys rest s)
  where
    at : (b : Bool) → (x.id == id) ≡ b → cond b (Some x) (find (has_id id) xs) ≡ Some s → key y ≡ key x
        → (find (has_id id) xs ≡ Some s → (t : Surface) × (find (has_id id) ys ≡ Some t) × (key t ≡ key s))
        → (t : Surface) × (cond (y.id == id) (Some y) (find (has_id id) ys) ≡ Some t) × (key t ≡ key s)
    at true here e first later =
        (y, ap (λ b. cond b (Some y) (find (has_id id) ys)) (ap (λ i. i == id) (sym (reads y) ∙ ap named first ∙ reads x) ∙ here), first ∙ ap key (same_Some x s e))
    at false here e first later =
        let it = later e in
        (it.0, ap (λ b. cond b (Some y) (find (has_id id) ys)) (ap (λ i. i == id) (sym (reads y) ∙ ap named first ∙ reads x) ∙ here) ∙ it.1, it.2)

-- ---- pending buffers

-- the id of a surface and its pending buffer
abbrev pub waiting : Surface → ℕ × Option Buffer
waiting s = (s.id, (pending s.history).buffer)

abbrev pub KeepsWaiting : Surfaces → Surfaces → Type 0
KeepsWaiting all new = map waiting new.surfaces ≡ map waiting all.surfaces

commit-waits : (s : Surface) → waiting (asking Commit s) ≡ waiting s
commit-waits s = ap (λ (v : Values). (s.id, v.buffer)) (values-asked s.history.requests Commit)

pub waits-committed : (surface : ℕ) (all : Surfaces) → KeepsWaiting all (committed_in surface all)
waits-committed surface all = keys-committed waiting (λ s. refl) commit-waits surface all

pub waits-desynchronised : (number : ℕ) (all : Surfaces) → KeepsWaiting all (desynchronised_in number all)
waits-desynchronised number all = keys-desynchronised waiting (λ s. refl) number all

pub waits-unlinked : (link : Option ℕ) (all : Surfaces) → KeepsWaiting all (unlinked_at link all)
waits-unlinked link all = keys-unlinked waiting (λ s. refl) link all

pub waits-without-links : (surface : ℕ) (all : Surfaces) → KeepsWaiting all (fold ended_in all (links_with surface all))
waits-without-links surface all = keys-without-links waiting (λ s. refl) surface all

-- ---- frames

-- the id of a surface and the frames that were asked of it
abbrev pub framing : Surface → ℕ × List ℕ
framing s = (s.id, frames_of s.history.requests)

abbrev pub KeepsFraming : Surfaces → Surfaces → Type 0
KeepsFraming all new = map framing new.surfaces ≡ map framing all.surfaces

commit-frames : (s : Surface) → framing (asking Commit s) ≡ framing s
commit-frames s = ap (λ ns. (s.id, ns)) (flat_map-append _ s.history.requests (Commit ∷ []) ∙ append-nil (frames_of s.history.requests))

pub frames-committed : (surface : ℕ) (all : Surfaces) → KeepsFraming all (committed_in surface all)
frames-committed surface all = keys-committed framing (λ s. refl) commit-frames surface all

pub frames-desynchronised : (number : ℕ) (all : Surfaces) → KeepsFraming all (desynchronised_in number all)
frames-desynchronised number all = keys-desynchronised framing (λ s. refl) number all

pub frames-unlinked : (link : Option ℕ) (all : Surfaces) → KeepsFraming all (unlinked_at link all)
frames-unlinked link all = keys-unlinked framing (λ s. refl) link all

pub frames-without-links : (surface : ℕ) (all : Surfaces) → KeepsFraming all (fold ended_in all (links_with surface all))
frames-without-links surface all = keys-without-links framing (λ s. refl) surface all

-- so the one of an id was asked for the frames that it was asked for
pub same-framing : (all new : Surfaces) → KeepsFraming all new → (id : ℕ) (t : Surface) → surface_at id new ≡ Some t
    → (s : Surface) × (surface_at id all ≡ Some s) × (frames_of s.history.requests ≡ frames_of t.history.requests)
same-framing all new same id t found =
    let it = found-key framing (λ w. w.0) (λ s. refl) id new.surfaces all.surfaces (sym same) t found in
    (it.0, it.1, ap (λ (w : ℕ × List ℕ). w.1) it.2)

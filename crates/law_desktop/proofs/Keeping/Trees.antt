-- What a call changes that applies several surfaces of a client, or ends a link or a surface: which frame callbacks wait after it, and which
-- buffers it frees.
use Rattle.std.proofs.Common.{◌≡◌, ℕ, ◌<◌, ◌≤◌, suc, List, [], ◌∷◌, ◌++◌, Bool, true, false, Option, Some, None, cond, length, refl, ap, sym, ◌∙◌, eq-eqb, arith, inl, inr}
use Rattle.std.specs.Prelude.{◌==◌, ◌&&◌, ◌||◌, ◌⊎◌, count_by, filter, not}
use Rattle.std.proofs.lemmas.List.Sums.{length-filter}
use Rattle.std.proofs.lemmas.Bool.{true≢false}
use Rattle.std.specs.List.{Contains, list_any}
use Rattle.spec_desktop.specs.Objects.{ById}
use Rattle.wl_links.specs.Family.{Tied}
use Rattle.wl_surface.specs.FrameRequests.{frames_of}
use Rattle.wl_surface.specs.Request.{Buffer}
use Rattle.wl_surface.specs.State.{applied, held}
use Rattle.wl_surface.specs.Surface.{Surface, listed}
use Rattle.wl_surface.specs.Applied.{AreFreed}
use Rattle.wl_surface.specs.Slots.{Slots}
use Rattle.wl_surface.specs.Surfaces.{Surfaces, is_busy, surface_at}
use Rattle.wl_surface.specs.Waiting.{AreWaiting, Callback, frames_at}
use Rattle.wl_surface.specs.Linked.{numbered}
use Rattle.wl_surface.specs.Tree.{AreAmong, AreOnce, AreShown, is_among, numbers_of}
use Rattle.law_desktop.specs.Renaming.{renamed}
use Rattle.spec_desktop.specs.Framing.{AreFramed}
use Rattle.spec_desktop.specs.Replies.{buffers_shown}
use Rattle.law_desktop.specs.TreeBuffersLaws.{has_number, shown_in}
use Rattle.law_desktop.proofs.Lists.Surfaces.{has_id}
use Rattle.law_desktop.specs.Freed.{AreFreedOf}
use Rattle.law_desktop.specs.Owning.{AreKept, by_number, number_in}
use Rattle.law_desktop.proofs.Keeping.Freeing.{either-in, found-in, in-flat, left-in, right-in}
use Rattle.law_desktop.proofs.Keeping.OwningSurfaces.{surface-numbered, surface-read}
use Rattle.law_desktop.proofs.Keeping.OwningTrees.{freed-then, shown-here, waits-here, waits-then}

-- ---- numbers that are counted once

count-of : (p : ℕ → Bool) (n : ℕ) (ns : List ℕ) → count_by p (n ∷ ns) ≡ cond (p n) (suc (count_by p ns)) (count_by p ns)
count-of p n ns = sym (length-filter p (n ∷ ns)) ∙ at (p n) ∙ ap (λ k. cond (p n) (suc k) k) (length-filter p ns)
  where
    at : (b : Bool) → length (cond b (n ∷ filter p ns) (filter p ns)) ≡ cond b (suc (length (filter p ns))) (length (filter p ns))
    at true = refl
    at false = refl

none-counted : (p : ℕ → Bool) (ns : List ℕ) → count_by p ns ≤ 0 → list_any p ns ≡ false
none-counted p [] le = refl
none-counted p (n ∷ ns) le = at (p n) refl (λ less. none-counted p ns less)
  where
    at : (b : Bool) → p n ≡ b → (count_by p ns ≤ 0 → list_any p ns ≡ false) → (p n || list_any p ns) ≡ false
    at true e later = absurd (let counted = count-of p n ns ∙ ap (λ b. cond b (suc (count_by p ns)) (count_by p ns)) e in omega (arith, le, counted))
    at false e later =
        ap (λ b. b || list_any p ns) e
        ∙ later (let counted = count-of p n ns ∙ ap (λ b. cond b (suc (count_by p ns)) (count_by p ns)) e in omega (arith, le, counted))

-- none stands twice where each is counted once at most
pub once-counted : (ns : List ℕ) → ((number : ℕ) → count_by (λ n. n == number) ns ≤ 1) → AreOnce ns
once-counted [] most = tt
once-counted (n ∷ ns) most = (none-counted (λ m. m == n) ns first, once-counted ns rest)
  where
    first : count_by (λ m. m == n) ns ≤ 0
    first =
        let counted = count-of (λ m. m == n) n ns ∙ ap (λ b. cond b (suc (count_by (λ m. m == n) ns)) (count_by (λ m. m == n) ns)) (eq-eqb n n refl) in
        let less = most n in
        omega (arith, counted, less)

    rest : (number : ℕ) → count_by (λ m. m == number) ns ≤ 1
    rest number = at (n == number) refl
      where
        at : (b : Bool) → (n == number) ≡ b → count_by (λ m. m == number) ns ≤ 1
        at b e =
            let counted = count-of (λ m. m == number) n ns ∙ ap (λ b. cond b (suc (count_by (λ m. m == number) ns)) (count_by (λ m. m == number) ns)) e in
            let less = most number in
            by b counted less
          where
            by : (b : Bool) → count_by (λ m. m == number) (n ∷ ns) ≡ cond b (suc (count_by (λ m. m == number) ns)) (count_by (λ m. m == number) ns)
                → count_by (λ m. m == number) (n ∷ ns) ≤ 1 → count_by (λ m. m == number) ns ≤ 1
            by true counted less = omega (arith, counted, less)
            by false counted less = omega (arith, counted, less)

-- what is freed is counted so
pub once-freed : (freed : List ℕ) (shown : List Buffer) (old new : Surfaces) → AreFreedOf freed shown old new → AreOnce freed
once-freed freed shown old new are = once-counted freed (λ number. at (is_busy number old && not (is_busy number new)) (count_by (λ n. n == number) freed) (are.counted number))
  where
    at : (b : Bool) (k : ℕ) → k ≡ cond b 1 0 → k ≤ 1
    at true k e = omega (arith, e)
    at false k e = omega (arith, e)

-- ---- by ids

any-map : (number : ℕ) (bs : List Buffer) → is_among (numbers_of bs) number ≡ has_number number bs
any-map number [] = refl
any-map number (b ∷ bs) = ap (λ c. (b.number == number) || c) (any-map number bs)

module _ (numbers then_numbers : ById ℕ) (slots new : Slots) (tied after : Tied) (all then : Surfaces) (is : AreKept numbers slots tied all) (then_is : AreKept then_numbers new after then)
    (made : Surfaces) (same : (renamed (number_in then_numbers) then).surfaces ≡ made.surfaces) where
  abbrev those : Surfaces
  those = renamed (number_in numbers) all

  -- the buffers that are freed, with those that were shown
  pub freed-so : (freed : List ℕ) (shown : List Buffer) (is_such : ℕ → Bool) → AreFreed freed (numbered those) (numbered made) → AreShown is_such those shown → AreAmong freed shown
      → AreFreedOf freed shown all then
  freed-so freed shown is_such freed_are shown_are among =
      record {
        counted = freed-then numbers slots tied all is then_numbers new after then then_is made same freed freed_are;
        showed = showed;
        among = λ number any. sym (any-map number shown) ∙ among number any;
      }
    where
      turned : (s : Surface) (b : Buffer) → Contains (listed (applied s.history).buffer ++ listed (held s.history).buffer) b → Contains (buffers_shown s.history) b
      turned s b c = by (either-in (listed (applied s.history).buffer) (listed (held s.history).buffer) b c)
        where
          by : Contains (listed (applied s.history).buffer) b ⊎ Contains (listed (held s.history).buffer) b → Contains (buffers_shown s.history) b
          by (inl first) = right-in (listed (held s.history).buffer) (listed (applied s.history).buffer) b first
          by (inr second) = left-in (listed (held s.history).buffer) (listed (applied s.history).buffer) b second

      showed : (b : Buffer) → Contains shown b → Contains (shown_in all) b
      showed b c =
          let at = shown_are.those b c in
          let it = shown-here numbers slots tied all is at.0 b at.2 in
          in-flat (λ (s : Surface). buffers_shown s.history) all.surfaces it.0 b (found-in (has_id it.0.id) all.surfaces it.0 it.1) (turned it.0 b it.2)

  -- The callbacks that wait after it are those that are framed.
  pub framed-many : (bound : ℕ) (cs less : List Callback)
      → ((id number : ℕ) (t : Surface) → then_numbers id ≡ Some number → surface_at id then ≡ Some t
      → (s : Surface) × (numbers id ≡ Some number) × (surface_at id all ≡ Some s) × (frames_of s.history.requests ≡ frames_of t.history.requests))
      → (AreWaiting slots.frames (numbered those) cs → AreWaiting new.frames (numbered made) less)
      → AreFramed slots.frames (by_number numbers all) bound cs → AreFramed new.frames (by_number then_numbers then) bound less
  framed-many bound cs less asked waits f =
      record {
        waits = waits-then numbers slots tied all is then_numbers new after then then_is made same new.frames less (waits (waits-here numbers slots tied all is slots.frames cs f.waits));
        early = λ surface number any. at surface number (by_number then_numbers then surface) refl any;
      }
    where
      at : (surface number : ℕ) (o : Option Surface) → by_number then_numbers then surface ≡ o → list_any (λ n. n == number) (frames_at o) ≡ true → number < bound
      at surface number None found any = absurd (true≢false (sym any))
      at surface number (Some t) found any =
          let it = surface-numbered then_numbers new after then then_is surface t found in
          let was = asked t.id surface t it.0 it.1 in
          let read = surface-read numbers slots tied all is t.id surface was.1 ∙ was.2 in
          f.early surface number (ap (λ o. list_any (λ n. n == number) (frames_at o)) read ∙ ap (λ ns. list_any (λ n. n == number) ns) was.3 ∙ any)

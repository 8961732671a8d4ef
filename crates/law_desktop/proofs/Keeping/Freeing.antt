-- Of the buffers that a client's surfaces had, those that are over after a call let their stores go, and those that aren't busy any more are
-- released: it is enough to look at those that the call tells to be freed, and at a pending buffer that went with its surface.
use Rattle.std.proofs.Common.{◌≡◌, ℕ, ◌<◌, zero, suc, List, ◌∷◌, ◌++◌, Bool, true, false, Option, Some, None, cond, length, map, refl, ap, sym, subst, ◌∙◌, eq-eqb, arith, inl, inr, []}
use Rattle.std.proofs.lemmas.Bool.{eqb-true, or_left, or_right, true≢false}
use Rattle.std.proofs.lemmas.List.Sums.{length-filter}
use Rattle.std.specs.Prelude.{◌==◌, ◌&&◌, ◌||◌, ◌⊎◌, not, count_by, filter, find, flat_map, slice_index_or}
use Rattle.std.specs.List.{Contains, list_any}
use Rattle.std.specs.List.Sorted.{IsStrictlyIncreasing}
use Rattle.wl_proto.specs.declared.interface.Interface.TheVariants.{WlBuffer}
use Rattle.wl_proto.specs.Messages.{says}
use Rattle.spec_desktop.specs.Told.{said}
use Rattle.wl_shell.specs.Popups.{is_among}
use Rattle.wl_surface.specs.Request.{Buffer}
use Rattle.wl_surface.specs.State.{applied, held, pending}
use Rattle.wl_surface.specs.Surface.{Surface, buffers_of, listed, names, shows}
use Rattle.wl_surface.specs.Surfaces.{Surfaces, is_busy, is_used}
use Rattle.spec_desktop.specs.Changing.{after_all}
use Rattle.spec_desktop.specs.Desktop.{Resident}
use Rattle.spec_desktop.specs.Releases.{is_released}
use Rattle.spec_desktop.specs.Replies.{buffers_shown, has_object, releases}
use Rattle.spec_desktop.specs.Step.{is_over, letting_go}
use Rattle.law_desktop.specs.TreeBuffersLaws.{AreOne, had_in, has_number, shown_in}
use Rattle.law_desktop.proofs.TreeBuffers.After.{after-these}
use Rattle.law_desktop.proofs.TreeBuffers.Lists.{any-in, first-in, in-any, later-in}
use Rattle.law_desktop.proofs.TreeBuffers.Releasing.{rise}
use Rattle.law_desktop.proofs.Lists.Keys.{found-passes}
use Rattle.law_desktop.specs.Freed.{AreFreedOf, freed_of}

-- ---- lists

any-kept : {X : Type 0} (p : X → Bool) (xs : List X) (b : Bool) → length (filter p xs) ≡ cond b 1 0 → list_any p xs ≡ b
any-kept p [] true e = absurd (cc)
any-kept p [] false e = refl
any-kept p (x ∷ xs) b e = at (p x) b e (any-kept p xs b)
  where
    at : (here b : Bool) → length (cond here (x ∷ filter p xs) (filter p xs)) ≡ cond b 1 0 → (length (filter p xs) ≡ cond b 1 0 → list_any p xs ≡ b) → (here || list_any p xs) ≡ b
    at true true e rest = refl
    at true false e rest = absurd (cc)
    at false b e rest = rest e

-- where one or none passes, whether some does
pub any-counted : {X : Type 0} (p : X → Bool) (xs : List X) (b : Bool) → count_by p xs ≡ cond b 1 0 → list_any p xs ≡ b
any-counted p xs b e = any-kept p xs b (length-filter p xs ∙ e)

-- an element of one of two lists
pub left-in : {X : Type 0} (xs ys : List X) (x : X) → Contains xs x → Contains (xs ++ ys) x
left-in [] ys x c = let none : c.0 < 0 = c.1 in absurd (omega arith)
left-in {X} (z ∷ xs) ys x c = at c.0 c.1 c.2 (λ inner. left-in xs ys x inner)
  where
    at : (k : ℕ) → k < suc (length xs) → slice_index_or (z ∷ xs) k x ≡ x → (Contains xs x → Contains (xs ++ ys) x) → Contains (z ∷ (xs ++ ys)) x
    at zero less here rest = subst (λ (y : X). Contains (z ∷ (xs ++ ys)) y) here (first-in z (xs ++ ys))
    at (suc k) less here rest = later-in z (xs ++ ys) x (rest (k, omega (arith, less), here))

pub right-in : {X : Type 0} (xs ys : List X) (x : X) → Contains ys x → Contains (xs ++ ys) x
right-in [] ys x c = c
right-in (z ∷ xs) ys x c = later-in z (xs ++ ys) x (right-in xs ys x c)

pub either-in : {X : Type 0} (xs ys : List X) (x : X) → Contains (xs ++ ys) x → Contains xs x ⊎ Contains ys x
either-in [] ys x c = inr c
either-in {X} (z ∷ xs) ys x c = at c.0 c.1 c.2 (λ inner. either-in xs ys x inner)
  where
    by : Contains xs x ⊎ Contains ys x → Contains (z ∷ xs) x ⊎ Contains ys x
    by (inl there) = inl (later-in z xs x there)
    by (inr there) = inr there

    at : (k : ℕ) → k < suc (length (xs ++ ys)) → slice_index_or (z ∷ (xs ++ ys)) k x ≡ x → (Contains (xs ++ ys) x → Contains xs x ⊎ Contains ys x) → Contains (z ∷ xs) x ⊎ Contains ys x
    at zero less here rest = inl (subst (λ (y : X). Contains (z ∷ xs) y) here (first-in z xs))
    at (suc k) less here rest = by (rest (k, omega (arith, less), here))

-- an element of a flattened list is one of an element's
pub flat-in : {X Y : Type 0} (f : X → List Y) (xs : List X) (y : Y) → Contains (flat_map f xs) y → (x : X) × Contains xs x × Contains (f x) y
flat-in f [] y c = let none : c.0 < 0 = c.1 in absurd (omega arith)
flat-in {X} {Y} f (x ∷ xs) y c = by (either-in (f x) (flat_map f xs) y c) (λ inner. flat-in f xs y inner)
  where
    by : Contains (f x) y ⊎ Contains (flat_map f xs) y → (Contains (flat_map f xs) y → (z : X) × Contains xs z × Contains (f z) y) → (z : X) × Contains (x ∷ xs) z × Contains (f z) y
    by (inl here) rest = (x, first-in x xs, here)
    by (inr there) rest = let it = rest there in (it.0, later-in x xs it.0 it.1, it.2)

pub in-flat : {X Y : Type 0} (f : X → List Y) (xs : List X) (x : X) (y : Y) → Contains xs x → Contains (f x) y → Contains (flat_map f xs) y
in-flat f [] x y c d = let none : c.0 < 0 = c.1 in absurd (omega arith)
in-flat {X} {Y} f (z ∷ xs) x y c d = at c.0 c.1 c.2 (λ inner. in-flat f xs x y inner d)
  where
    at : (k : ℕ) → k < suc (length xs) → slice_index_or (z ∷ xs) k x ≡ x → (Contains xs x → Contains (flat_map f xs) y) → Contains (flat_map f (z ∷ xs)) y
    at zero less here rest = left-in (f z) (flat_map f xs) y (subst (λ w. Contains (f w) y) (sym here) d)
    at (suc k) less here rest = right-in (f z) (flat_map f xs) y (rest (k, omega (arith, less), here))

listed-in : (o : Option Buffer) (b : Buffer) → Contains (listed o) b → o ≡ Some b
listed-in None b c = let none : c.0 < 0 = c.1 in absurd (omega arith)
listed-in (Some x) b c = at c.0 c.1 c.2
  where
    at : (k : ℕ) → k < 1 → slice_index_or (x ∷ []) k b ≡ b → Some x ≡ Some b
    at zero less here = ap Some here
    at (suc k) less here = absurd (omega (arith, less))

pub found-in : {X : Type 0} (p : X → Bool) (xs : List X) (x : X) → find p xs ≡ Some x → Contains xs x
found-in p [] x e = absurd (cc)
found-in p (y ∷ ys) x e = at (p y) e (λ later. found-in p ys x later)
  where
    at : (b : Bool) → cond b (Some y) (find p ys) ≡ Some x → (find p ys ≡ Some x → Contains ys x) → Contains (y ∷ ys) x
    at true e rest = let same : y ≡ x = cc in subst (λ z. Contains (y ∷ ys) z) same (first-in y ys)
    at false e rest = later-in y ys x (rest e)

any-find : {X : Type 0} (p : X → Bool) (xs : List X) → list_any p xs ≡ true → (x : X) × (find p xs ≡ Some x)
any-find p [] any = absurd (cc)
any-find {X} p (x ∷ xs) any = at (p x) any (λ later. any-find p xs later)
  where
    at : (b : Bool) → (b || list_any p xs) ≡ true → (list_any p xs ≡ true → (y : X) × (find p xs ≡ Some y)) → (y : X) × (cond b (Some x) (find p xs) ≡ Some y)
    at true any rest = (x, refl)
    at false any rest = rest any

-- ---- the buffers that are looked at

-- each of them was shown
pub freed-in : (numbers : List ℕ) (shown : List Buffer) (b : Buffer) → Contains (freed_of numbers shown) b → Contains shown b × (list_any (λ n. n == b.number) numbers ≡ true)
freed-in [] shown b c = let none : c.0 < 0 = c.1 in absurd (omega arith)
freed-in (n ∷ ns) shown b c = by (either-in (listed (find (λ b. b.number == n) shown)) (freed_of ns shown) b c) (λ inner. freed-in ns shown b inner)
  where
    by : Contains (listed (find (λ b. b.number == n) shown)) b ⊎ Contains (freed_of ns shown) b
        → (Contains (freed_of ns shown) b → Contains shown b × (list_any (λ m. m == b.number) ns ≡ true)) → Contains shown b × (list_any (λ m. m == b.number) (n ∷ ns) ≡ true)
    by (inl here) rest =
        let found = listed-in (find (λ b. b.number == n) shown) b here in (
          found-in (λ b. b.number == n) shown b found,
          or_left (n == b.number) (list_any (λ m. m == b.number) ns) (eq-eqb n b.number (sym (eqb-true b.number n (found-passes (λ b. b.number == n) shown b found)))),
        )
    by (inr there) rest = let it = rest there in (it.0, or_right (n == b.number) (list_any (λ m. m == b.number) ns) it.1)

-- and one of each number that was shown is among them
pub freed-has : (numbers : List ℕ) (shown : List Buffer) (number : ℕ) → list_any (λ n. n == number) numbers ≡ true → has_number number shown ≡ true → has_number number (freed_of numbers shown) ≡ true
freed-has [] shown number any has = absurd (cc)
freed-has (n ∷ ns) shown number any has = at (n == number) refl any (λ later. freed-has ns shown number later has)
  where
    in-front : (xs ys : List Buffer) → has_number number xs ≡ true → has_number number (xs ++ ys) ≡ true
    in-front xs ys e = let it = any-in (λ b. b.number == number) xs e in in-any (λ b. b.number == number) (xs ++ ys) it.item (left-in xs ys it.item it.within) it.passes

    behind : (xs ys : List Buffer) → has_number number ys ≡ true → has_number number (xs ++ ys) ≡ true
    behind xs ys e = let it = any-in (λ b. b.number == number) ys e in in-any (λ b. b.number == number) (xs ++ ys) it.item (right-in xs ys it.item it.within) it.passes

    at : (b : Bool) → (n == number) ≡ b → (b || list_any (λ m. m == number) ns) ≡ true → (list_any (λ m. m == number) ns ≡ true → has_number number (freed_of ns shown) ≡ true)
        → has_number number (freed_of (n ∷ ns) shown) ≡ true
    at true here any rest =
        let one = any-find (λ b. b.number == n) shown (ap (λ k. has_number k shown) (eqb-true n number here) ∙ has) in
        in-front (listed (find (λ b. b.number == n) shown)) (freed_of ns shown)
        (ap (λ o. has_number number (listed o)) one.1
        ∙ or_left (one.0.number == number) false (eq-eqb one.0.number number (eqb-true one.0.number n (found-passes (λ b. b.number == n) shown one.0 one.1) ∙ eqb-true n number here)))
    at false here any rest = behind (listed (find (λ b. b.number == n) shown)) (freed_of ns shown) (rest any)

-- ---- what surfaces have

-- a buffer that surfaces had is shown by one of them, or is the pending one of one
shown-or-waiting : (all : Surfaces) (b : Buffer) → Contains (had_in all) b
    → (is_busy b.number all ≡ true) ⊎ ((s : Surface) × Contains all.surfaces s × ((pending s.history).buffer ≡ Some b))
shown-or-waiting all b c =
    let one = flat-in (λ (s : Surface). buffers_of s.history) all.surfaces b c in
    by one.0 one.1 (either-in (listed (pending one.0.history).buffer ++ listed (held one.0.history).buffer) (listed (applied one.0.history).buffer) b one.2)
  where
    busy-by : (s : Surface) → Contains all.surfaces s → shows b.number s.history ≡ true → is_busy b.number all ≡ true
    busy-by s within shows_it = in-any (λ (s : Surface). shows b.number s.history) all.surfaces s within shows_it

    named : (o : Option Buffer) → o ≡ Some b → names b.number o ≡ true
    named o e = ap (names b.number) e ∙ eq-eqb b.number b.number refl

    by : (s : Surface) → Contains all.surfaces s → Contains (listed (pending s.history).buffer ++ listed (held s.history).buffer) b ⊎ Contains (listed (applied s.history).buffer) b
        → (is_busy b.number all ≡ true) ⊎ ((s : Surface) × Contains all.surfaces s × ((pending s.history).buffer ≡ Some b))
    by s within (inr third) =
        inl (busy-by s within (or_left (names b.number (applied s.history).buffer) (names b.number (held s.history).buffer)
        (named (applied s.history).buffer (listed-in (applied s.history).buffer b third))))
    by s within (inl earlier) = at (either-in (listed (pending s.history).buffer) (listed (held s.history).buffer) b earlier)
      where
        at : Contains (listed (pending s.history).buffer) b ⊎ Contains (listed (held s.history).buffer) b
            → (is_busy b.number all ≡ true) ⊎ ((s : Surface) × Contains all.surfaces s × ((pending s.history).buffer ≡ Some b))
        at (inl first) = inr (s, within, listed-in (pending s.history).buffer b first)
        at (inr second) =
            inl (busy-by s within (or_right (names b.number (applied s.history).buffer) (names b.number (held s.history).buffer)
            (named (held s.history).buffer (listed-in (held s.history).buffer b second))))

-- what is shown is had
shown-had : (all : Surfaces) (b : Buffer) → Contains (shown_in all) b → Contains (had_in all) b
shown-had all b c =
    let one = flat-in (λ (s : Surface). buffers_shown s.history) all.surfaces b c in
    in-flat (λ (s : Surface). buffers_of s.history) all.surfaces one.0 b one.1
    (by one.0 (either-in (listed (held one.0.history).buffer) (listed (applied one.0.history).buffer) b one.2))
  where
    by : (s : Surface) → Contains (listed (held s.history).buffer) b ⊎ Contains (listed (applied s.history).buffer) b → Contains (buffers_of s.history) b
    by s (inl first) =
        left-in (listed (pending s.history).buffer ++ listed (held s.history).buffer) (listed (applied s.history).buffer) b
        (right-in (listed (pending s.history).buffer) (listed (held s.history).buffer) b first)
    by s (inr second) = right-in (listed (pending s.history).buffer ++ listed (held s.history).buffer) (listed (applied s.history).buffer) b second

shown-busy : (all : Surfaces) (b : Buffer) → Contains (shown_in all) b → is_busy b.number all ≡ true
shown-busy all b c =
    let one = flat-in (λ (s : Surface). buffers_shown s.history) all.surfaces b c in
    in-any (λ (s : Surface). shows b.number s.history) all.surfaces one.0 one.1 (by one.0 (either-in (listed (held one.0.history).buffer) (listed (applied one.0.history).buffer) b one.2))
  where
    named : (o : Option Buffer) → o ≡ Some b → names b.number o ≡ true
    named o e = ap (names b.number) e ∙ eq-eqb b.number b.number refl

    by : (s : Surface) → Contains (listed (held s.history).buffer) b ⊎ Contains (listed (applied s.history).buffer) b → shows b.number s.history ≡ true
    by s (inl first) = or_right (names b.number (applied s.history).buffer) (names b.number (held s.history).buffer) (named (held s.history).buffer (listed-in (held s.history).buffer b first))
    by s (inr second) =
        or_left (names b.number (applied s.history).buffer) (names b.number (held s.history).buffer) (named (applied s.history).buffer (listed-in (applied s.history).buffer b second))

-- ---- stores go, and buffers are released

module _ (old new : Resident) (numbers : List ℕ) (shown : List Buffer) (one : AreOne (had_in old.owned.surfaces)) (are : AreFreedOf numbers shown old.owned.surfaces new.owned.surfaces) where
  -- a buffer that was busy and isn't any more is looked at
  looked-at : (b : Buffer) → is_busy b.number old.owned.surfaces ≡ true → is_busy b.number new.owned.surfaces ≡ false → has_number b.number (freed_of numbers shown) ≡ true
  looked-at b was is =
      let counted = are.counted b.number ∙ ap (λ (c : Bool). cond c 1 0) (ap (λ c. c && not (is_busy b.number new.owned.surfaces)) was ∙ ap not is) in
      let any = any-counted (λ n. n == b.number) numbers true counted in
      freed-has numbers shown b.number any (are.among b.number any)

  -- and none that still is
  freed-idle : (b : Buffer) → Contains (freed_of numbers shown) b → is_busy b.number new.owned.surfaces ≡ false
  freed-idle b c =
      at (is_busy b.number old.owned.surfaces) (is_busy b.number new.owned.surfaces) refl
      (sym (any-counted (λ n. n == b.number) numbers (is_busy b.number old.owned.surfaces && not (is_busy b.number new.owned.surfaces)) (are.counted b.number))
      ∙ (freed-in numbers shown b c).1)
    where
      at : (a d : Bool) → is_busy b.number new.owned.surfaces ≡ d → (a && not d) ≡ true → is_busy b.number new.owned.surfaces ≡ false
      at a false same e = same
      at true true same e = absurd (true≢false (sym e))
      at false true same e = absurd (true≢false (sym e))

  -- Where each surface that had a pending buffer has it still, but one whose pending buffer is looked at too.
  pub lets-go-freed : (extra : Option Buffer) → ((b : Buffer) → extra ≡ Some b → Contains (had_in old.owned.surfaces) b)
      → ((s : Surface) (b : Buffer) → Contains old.owned.surfaces.surfaces s → (pending s.history).buffer ≡ Some b
      → (is_used b.number new.owned.surfaces ≡ true) ⊎ (has_number b.number (listed extra) ≡ true))
      → after_all old new ≡ letting_go (freed_of numbers shown ++ listed extra) new
  lets-go-freed extra extra_had waits =
      after-these old new (freed_of numbers shown ++ listed extra) one among covered
    where
      among : (b : Buffer) → Contains (freed_of numbers shown ++ listed extra) b → Contains (had_in old.owned.surfaces) b
      among b c = by (either-in (freed_of numbers shown) (listed extra) b c)
        where
          by : Contains (freed_of numbers shown) b ⊎ Contains (listed extra) b → Contains (had_in old.owned.surfaces) b
          by (inl first) = shown-had old.owned.surfaces b (are.showed b (freed-in numbers shown b first).0)
          by (inr second) = extra_had b (listed-in extra b second)

      in-front : (number : ℕ) → has_number number (freed_of numbers shown) ≡ true → has_number number (freed_of numbers shown ++ listed extra) ≡ true
      in-front number e =
          let it = any-in (λ b. b.number == number) (freed_of numbers shown) e in
          in-any (λ b. b.number == number) (freed_of numbers shown ++ listed extra) it.item (left-in (freed_of numbers shown) (listed extra) it.item it.within) it.passes

      behind : (number : ℕ) → has_number number (listed extra) ≡ true → has_number number (freed_of numbers shown ++ listed extra) ≡ true
      behind number e =
          let it = any-in (λ b. b.number == number) (listed extra) e in
          in-any (λ b. b.number == number) (freed_of numbers shown ++ listed extra) it.item (right-in (freed_of numbers shown) (listed extra) it.item it.within) it.passes

      unused : (a c : Bool) → (a && not c) ≡ true → c ≡ false
      unused true true e = absurd (true≢false (sym e))
      unused true false e = refl
      unused false c e = absurd (true≢false (sym e))

      covered : (b : Buffer) → Contains (had_in old.owned.surfaces) b → is_over new b ≡ true → has_number b.number (freed_of numbers shown ++ listed extra) ≡ true
      covered b had over = by (shown-or-waiting old.owned.surfaces b had)
        where
          gone : is_used b.number new.owned.surfaces ≡ false
          gone = unused _ (is_used b.number new.owned.surfaces) over

          idle : is_busy b.number new.owned.surfaces ≡ false
          idle = at (is_busy b.number new.owned.surfaces) refl
            where
              at : (c : Bool) → is_busy b.number new.owned.surfaces ≡ c → is_busy b.number new.owned.surfaces ≡ false
              at false e = e
              at true e =
                  let it = any-in (λ (s : Surface). shows b.number s.history) new.owned.surfaces.surfaces e in
                  absurd (true≢false (sym (in-any (λ (s : Surface). names b.number (pending s.history).buffer || shows b.number s.history) new.owned.surfaces.surfaces it.item it.within
                  (or_right (names b.number (pending it.item.history).buffer) (shows b.number it.item.history) it.passes)) ∙ gone))

          by : (is_busy b.number old.owned.surfaces ≡ true) ⊎ ((s : Surface) × Contains old.owned.surfaces.surfaces s × ((pending s.history).buffer ≡ Some b))
              → has_number b.number (freed_of numbers shown ++ listed extra) ≡ true
          by (inl was) = in-front b.number (looked-at b was idle)
          by (inr it) = either (waits it.0 b it.1 it.2)
            where
              either : (is_used b.number new.owned.surfaces ≡ true) ⊎ (has_number b.number (listed extra) ≡ true) → has_number b.number (freed_of numbers shown ++ listed extra) ≡ true
              either (inl used) = absurd (true≢false (sym used ∙ gone))
              either (inr extra_has) = behind b.number extra_has

  -- Those are released whose wl_buffers live.
  pub releases-freed : (objects : List ℕ) → IsStrictlyIncreasing objects
      → ((object : ℕ) → is_among object objects ≡ list_any (λ b. (b.object == object) && has_object new b) (freed_of numbers shown))
      → releases old new ≡ map (λ object. said object (says WlBuffer 0 [])) objects
  releases-freed objects rising those =
      rise old new (freed_of numbers shown) objects
      (λ b c in_b in_c same. one b c (shown-had old.owned.surfaces b in_b) (shown-had old.owned.surfaces c in_c) same)
      (λ b c. are.showed b (freed-in numbers shown b c).0)
      (λ b shown_b idle. looked-at b (shown-busy old.owned.surfaces b shown_b) idle)
      rising
      (λ object. those object ∙ same-any object (freed_of numbers shown) (λ b c. freed-idle b c))
    where
      same-any : (object : ℕ) (bs : List Buffer) → ((b : Buffer) → Contains bs b → is_busy b.number new.owned.surfaces ≡ false)
          → list_any (λ b. (b.object == object) && has_object new b) bs ≡ list_any (λ b. (b.object == object) && is_released new b) bs
      same-any object [] idle = refl
      same-any object (b ∷ bs) idle =
          ap (λ c. ((b.object == object) && c) || list_any (λ b. (b.object == object) && has_object new b) bs)
          (sym (ap (λ (d : Bool). not d && has_object new b) (idle b (first-in b bs))))
          ∙ ap (λ c. ((b.object == object) && is_released new b) || c) (same-any object bs (λ c there. idle c (later-in b bs c there)))

-- The wl_buffers that are released, by their objects in rising order.
use Rattle.std.proofs.Common.{◌≡◌, ℕ, List, [], ◌∷◌, Bool, true, false, Option, Some, None, cond, refl, ap, sym, ◌∙◌, map}
use Rattle.std.proofs.lemmas.Bool.{eqb-true, not-true}
use Rattle.std.specs.List.Sorted.{IsStrictlyIncreasing}
use Rattle.std.specs.List.{Contains, list_any}
use Rattle.std.specs.Option.{option_map}
use Rattle.std.specs.Prelude.{◌==◌, ◌&&◌, ◌||◌, filter, fold, nat_lt, not}
use Rattle.wl_proto.specs.declared.interface.Interface.TheVariants.{WlBuffer}
use Rattle.wl_proto.specs.Messages.{says}
use Rattle.spec_desktop.specs.Buffers.{Buffer as Made}
use Rattle.spec_desktop.specs.Told.{Said, said}
use Rattle.wl_surface.specs.Request.{Buffer}
use Rattle.wl_surface.specs.Surfaces.{is_busy}
use Rattle.wl_shell.specs.Popups.{is_among}
use Rattle.spec_desktop.specs.Changing.{in_rising_order}
use Rattle.spec_desktop.specs.Desktop.{Resident}
use Rattle.spec_desktop.specs.Releases.{is_released}
use Rattle.spec_desktop.specs.Replies.{by_object, has_object, is_same_buffer, releases}
use Rattle.spec_desktop.specs.Step.{each_once, without_buffer}
use Rattle.law_desktop.proofs.Marks.Stacks.{same-number}
use Rattle.law_desktop.proofs.Soundness.ObjectsCalls.{any-filtered}
use Rattle.law_desktop.proofs.KeptRecords.Keeping.Letting.{each-once}
use Rattle.law_desktop.specs.TreeBuffersLaws.{AreAmong, AreOne, IsByNumber, has_number, shown_in}
use Rattle.law_desktop.proofs.TreeBuffers.After.{covers}
use Rattle.law_desktop.proofs.TreeBuffers.Alike.{Alike, Apart, alike-of, apart-left, apart-once}
use Rattle.law_desktop.proofs.TreeBuffers.Rising.{Differ, Rising, all-among, all-rising, all_put, rising-of, same-rising}
use Rattle.law_desktop.proofs.Truth.{and-left, and-right, differ}
use Rattle.law_desktop.proofs.Lists.Each.{Each, each-both, each-map}
use Rattle.law_desktop.proofs.Lists.Tests.{each-false}

-- ---- objects

abbrev objects_of : List Buffer → List ℕ
objects_of bs = map (λ b. b.object) bs

put-object : (b : Buffer) (bs : List Buffer) → objects_of (by_object b bs) ≡ in_rising_order b.object (objects_of bs)
put-object b [] = refl
put-object b (c ∷ cs) = at (nat_lt b.object c.object) (put-object b cs)
  where
    at : (d : Bool) → objects_of (by_object b cs) ≡ in_rising_order b.object (objects_of cs)
        → objects_of (cond d (b ∷ c ∷ cs) (c ∷ by_object b cs))
        ≡ cond d (b.object ∷ c.object ∷ objects_of cs) (c.object ∷ in_rising_order b.object (objects_of cs))
    at true same = refl
    at false same = ap (λ ns. c.object ∷ ns) same

abbrev ordered : List Buffer → List Buffer → List Buffer
ordered into bs = fold (λ cs b. by_object b cs) into bs

put-objects : (bs into : List Buffer) → objects_of (ordered into bs) ≡ all_put (objects_of into) (objects_of bs)
put-objects [] into = refl
put-objects (b ∷ bs) into = put-objects bs (by_object b into) ∙ ap (λ ns. all_put ns (objects_of bs)) (put-object b into)

abbrev told : ℕ → Said
told o = said o (says WlBuffer 0 [])

told-objects : (bs : List Buffer) → map (λ b. told b.object) bs ≡ map told (objects_of bs)
told-objects [] = refl
told-objects (b ∷ bs) = ap (λ es. told b.object ∷ es) (told-objects bs)

among-objects : (o : ℕ) (bs : List Buffer) → is_among o (objects_of bs) ≡ list_any (λ b. b.object == o) bs
among-objects o [] = refl
among-objects o (b ∷ bs) = ap (λ c. (b.object == o) || c) (among-objects o bs)

-- ---- one object is one buffer's

one-made : (n m : ℕ) (o : Option ℕ) → is_same_buffer n o ≡ true → is_same_buffer m o ≡ true → n ≡ m
one-made n m None e f = absurd (differ e)
one-made n m (Some k) e f = sym (eqb-true k n e) ∙ eqb-true k m f

one-object : (r : Resident) (b c : Buffer) → has_object r b ≡ true → has_object r c ≡ true → b.object ≡ c.object → b.number ≡ c.number
one-object r b c e f same =
    one-made b.number c.number (option_map (λ (made : Made). made.number) (r.peer.buffers c.object))
    (ap (λ o. is_same_buffer b.number (option_map (λ (made : Made). made.number) (r.peer.buffers o))) (sym same) ∙ e) f

objects-differ : (r : Resident) (bs : List Buffer) → Apart bs → Each (λ b. has_object r b ≡ true) bs → Differ (objects_of bs)
objects-differ r [] apart live = tt
objects-differ r (b ∷ bs) apart live = (
  over-objects bs
      (each-both (λ c. (c.number == b.number) ≡ false) (λ c. has_object r c ≡ true) (λ c. (b.object == c.object) ≡ false) other bs
      (each-false (λ c. c.number == b.number) bs apart.0) live.1),
  objects-differ r bs apart.1 live.1,
)
  where
    other : (c : Buffer) → (c.number == b.number) ≡ false → has_object r c ≡ true → (b.object == c.object) ≡ false
    other c e f = at (b.object == c.object) refl
      where
        at : (d : Bool) → (b.object == c.object) ≡ d → d ≡ false
        at true g =
            let same : b.number ≡ c.number = one-object r b c live.0 f (eqb-true b.object c.object g) in
            absurd (differ (sym e ∙ ap (λ n. c.number == n) same ∙ same-number c.number))
        at false g = refl

    over-objects : (cs : List Buffer) → Each (λ c. (b.object == c.object) ≡ false) cs → Each (λ m. (b.object == m) ≡ false) (objects_of cs)
    over-objects [] each = tt
    over-objects (c ∷ cs) each = (each.0, over-objects cs each.1)

-- ---- which of those that were busy are released

without-any : (q : Buffer → Bool) (k : ℕ) (bs : List Buffer) → Each (λ c. k ≡ c.number → q c ≡ false) bs
    → list_any q (without_buffer k bs) ≡ list_any q bs
without-any q k [] fail = refl
without-any q k (b ∷ bs) fail = at (b.number == k) refl (without-any q k bs fail.1)
  where
    at : (c : Bool) → (b.number == k) ≡ c → list_any q (without_buffer k bs) ≡ list_any q bs
        → list_any q (cond (not c) (b ∷ without_buffer k bs) (without_buffer k bs)) ≡ (q b || list_any q bs)
    at true e same = same ∙ ap (λ c. c || list_any q bs) (sym (fail.0 (sym (eqb-true b.number k e))))
    at false e same = ap (λ c. q b || c) same

once-any : (q : Buffer → Bool) (bs : List Buffer) → Alike q bs → list_any q (each_once bs) ≡ list_any q bs
once-any q [] alike = refl
once-any q (b ∷ bs) alike = at (q b) refl (once-any q bs alike.1)
  where
    at : (c : Bool) → q b ≡ c → list_any q (each_once bs) ≡ list_any q bs
        → (c || list_any q (without_buffer b.number (each_once bs))) ≡ (c || list_any q bs)
    at true e same = refl
    at false e same =
        without-any q b.number (each_once bs)
        (each-once (λ c. b.number ≡ c.number → q c ≡ false) bs
        (each-map (λ c. b.number ≡ c.number → q c ≡ q b) (λ c. b.number ≡ c.number → q c ≡ false) (λ c f one. f one ∙ e) bs alike.0))
        ∙ same

released-by : (r : Resident) → IsByNumber (is_released r)
released-by r b c number object = ap (λ n. released_at n b.object) number ∙ ap (released_at c.number) object
  where
    released_at : ℕ → ℕ → Bool
    released_at n o =
        not (is_busy n r.owned.surfaces) && is_same_buffer n (option_map (λ (made : Made). made.number) (r.peer.buffers o))

passing-live : (r : Resident) (bs : List Buffer) → Each (λ b. has_object r b ≡ true) (filter (is_released r) bs)
passing-live r [] = tt
passing-live r (b ∷ bs) = at (is_released r b) refl (passing-live r bs)
  where
    at : (c : Bool) → is_released r b ≡ c → Each (λ b. has_object r b ≡ true) (filter (is_released r) bs)
        → Each (λ b. has_object r b ≡ true) (cond c (b ∷ filter (is_released r) bs) (filter (is_released r) bs))
    at true e rest = (and-right (not (is_busy b.number r.owned.surfaces)) (has_object r b) e, rest)
    at false e rest = rest

-- ---- the law

-- those that are released, each once
abbrev passing : Resident → Resident → List Buffer
passing old new = filter (is_released new) (each_once (shown_in old.owned.surfaces))

none-among : (ns : List ℕ) → Each (λ n. is_among n [] ≡ false) ns
none-among [] = tt
none-among (n ∷ ns) = (refl, none-among ns)

passing-rises : (old new : Resident) → Rising (all_put [] (objects_of (passing old new)))
passing-rises old new =
    let shown : List Buffer = shown_in old.owned.surfaces in
    let none : Rising [] = tt in
    all-rising (objects_of (passing old new)) [] none (none-among (objects_of (passing old new)))
    (objects-differ new (passing old new) (apart-left (is_released new) (each_once shown) (apart-once shown))
    (passing-live new (each_once shown)))

pub rise : (old new : Resident) (these : List Buffer) (objects : List ℕ) → AreOne (shown_in old.owned.surfaces)
    → AreAmong these (shown_in old.owned.surfaces)
    → ((b : Buffer) → Contains (shown_in old.owned.surfaces) b → is_busy b.number new.owned.surfaces ≡ false
    → has_number b.number these ≡ true)
    → IsStrictlyIncreasing objects
    → ((o : ℕ) → is_among o objects ≡ list_any (λ b. (b.object == o) && is_released new b) these)
    → releases old new ≡ map (λ o. said o (says WlBuffer 0 [])) objects
rise old new these objects one among each rises just =
    told-objects (ordered [] (passing old new))
    ∙ ap (map told)
    (put-objects (passing old new) []
    ∙ same-rising (all_put [] (objects_of (passing old new))) objects (passing-rises old new) (rising-of objects rises) same)
  where
    of-by : (o : ℕ) → IsByNumber (λ b. b.object == o)
    of-by o b c number object = ap (λ n. n == o) object

    both-by : (o : ℕ) → IsByNumber (λ b. (b.object == o) && is_released new b)
    both-by o b c number object =
        ap (λ n. (n == o) && is_released new b) object ∙ ap (λ d. (c.object == o) && d) (released-by new b c number object)

    there : (b : Buffer) → Contains (shown_in old.owned.surfaces) b → is_released new b ≡ true → has_number b.number these ≡ true
    there b within e = each b within (not-true (is_busy b.number new.owned.surfaces) (and-left (not (is_busy b.number new.owned.surfaces)) (has_object new b) e))

    same : (o : ℕ) → is_among o (all_put [] (objects_of (passing old new))) ≡ is_among o objects
    same o =
        all-among o (objects_of (passing old new)) []
        ∙ among-objects o (passing old new)
        ∙ any-filtered (λ (b : Buffer). b.object == o) (is_released new) (each_once (shown_in old.owned.surfaces))
        ∙ once-any (λ b. (b.object == o) && is_released new b) (shown_in old.owned.surfaces)
        (alike-of (λ b. (b.object == o) && is_released new b) (shown_in old.owned.surfaces) (both-by o) one)
        ∙ covers (λ b. b.object == o) (is_released new) (shown_in old.owned.surfaces) these (of-by o) (released-by new) one among there
        ∙ sym (just o)

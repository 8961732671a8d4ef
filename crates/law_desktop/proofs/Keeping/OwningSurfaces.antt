-- What is kept of a client's surfaces goes on standing for them.
use Rattle.std.proofs.Common.{◌≡◌, ◌≢◌, ℕ, ◌+◌, List, ◌∷◌, Bool, true, false, Option, Some, None, cond, length, refl, ap, sym, subst, ◌∙◌, arith, eq-eqb, []}
use Rattle.std.specs.Prelude.{◌==◌, find, is_some, not}
use Rattle.std.specs.List.{list_any}
use Rattle.std.specs.Option.{option_map}
use Rattle.std.proofs.lemmas.Bool.{eqb-false, eqb-true, false_from_ne_true, ne_eqb, true≢false}
use Rattle.std.proofs.lemmas.Option.{none-some, same_Some}
use Rattle.wl_geom.specs.declared.rect.Rect.{Rect}
use Rattle.spec_desktop.specs.Objects.{ById, with_id}
use Rattle.wl_links.specs.Family.{Tied}
use Rattle.wl_surface.specs.Kept.{Kept}
use Rattle.wl_surface.specs.Slots.{Numbered, Slots, StandForAll, StandsAt, Changes, IsAny, changed_at, has_at, kept_at, shows_at, with_at, count as count_kept}
use Rattle.wl_surface.specs.Request.{SetWindowGeometry}
use Rattle.wl_surface.specs.Surface.{Surface, asking, has, new_surface, shows}
use Rattle.wl_surface.specs.Surfaces.{Surfaces, is_busy, is_used, surface_at, with_change, with_new, without_surface}
use Rattle.wl_surface.proofs.Records.{For-unseen}
use Rattle.law_desktop.specs.Named.{StandBy}
use Rattle.law_desktop.specs.Owning.{AreKept, by_number, number_in}
use Rattle.law_desktop.specs.Apart.{AreApartBy}
use Rattle.spec_desktop.specs.Step.{is_number}
use Rattle.law_desktop.proofs.Lists.Keys.{any-found, apart-left, found-any, found-by, found-fails, found-map, found-none, found-passes, left-elsewhere, length-left}
use Rattle.law_desktop.proofs.Lists.Keys.{length-new, new-apart, new-elsewhere, new-here, none-first, none-later, gone}
use Rattle.law_desktop.proofs.Keeping.Ids.{HasSameIds, same-apart, same-length, same-there}
use Rattle.law_desktop.proofs.Keeping.OwningNames.{with_id-here, with_id-other}
use Rattle.law_desktop.proofs.Keeping.OwningTies.{count-left, count-same, is-kept, made-by, stand-kept, there-kept}
use Rattle.law_desktop.proofs.Lists.Surfaces.{has_id}
use Rattle.law_desktop.proofs.Truth.{there-some, truth}

-- ---- numbers

pub is-number : (number : ℕ) (o : Option ℕ) → o ≡ Some number → is_number number o ≡ true
is-number number o e = ap (is_number number) e ∙ eq-eqb number number refl

pub number-is : (number : ℕ) (o : Option ℕ) → is_number number o ≡ true → o ≡ Some number
number-is number None e = absurd (cc)
number-is number (Some other) e = ap Some (eqb-true other number e)

-- the tests by id and by number
abbrev pub has_number : ById ℕ → ℕ → Surface → Bool
has_number numbers number s = is_number number (numbers s.id)

-- surfaces with ids of their own have numbers of their own
pub numbers-apart : (numbers : ById ℕ) (xs : List Surface) → ((a b number : ℕ) → numbers a ≡ Some number → numbers b ≡ Some number → a ≡ b) → AreApartBy has_id xs → AreApartBy (has_number numbers) xs
numbers-apart numbers [] once apart = tt
numbers-apart numbers (x ∷ xs) once apart = (λ number is. found-none (has_number numbers number) xs (never number is), numbers-apart numbers xs once apart.1)
  where
    never : (number : ℕ) → has_number numbers number x ≡ true → (y : Surface) → find (has_number numbers number) xs ≡ Some y → ⊥
    never number is y found =
        let same : y.id ≡ x.id = once y.id x.id number (number-is number (numbers y.id) (found-passes (has_number numbers number) xs y found)) (number-is number (numbers x.id) is) in
        true≢false (sym (eq-eqb y.id x.id same) ∙ found-fails (has_id x.id) (has_number numbers number) xs y found (apart.0 x.id (eq-eqb x.id x.id refl)))

-- something is kept under the numbers of surfaces, and under no others
kept-at : (slots : Slots) (all : Numbered) → StandForAll slots all → (number : ℕ) → is_some (kept_at slots number) ≡ is_some (all number)
kept-at slots all stand number = is-kept (kept_at slots number) (all number) (stand number)

module _ (numbers : ById ℕ) (slots : Slots) (tied : Tied) (all : Surfaces) (is : AreKept numbers slots tied all) where
  pub told-apart : AreApartBy (has_number numbers) all.surfaces
  told-apart = numbers-apart numbers all.surfaces is.once is.apart

  -- a number names a surface that is there
  pub surface-named : (id number : ℕ) → numbers id ≡ Some number → (s : Surface) × (surface_at id all ≡ Some s) × (s.id ≡ id)
  surface-named id number named =
      let there = there-some (surface_at id all) (sym (is.numbered id) ∙ ap is_some named) in
      (there.0, there.1, eqb-true there.0.id id (found-passes (has_id id) all.surfaces there.0 there.1))

  -- it is the one that is kept under this number
  pub surface-read : (id number : ℕ) → numbers id ≡ Some number → by_number numbers all number ≡ surface_at id all
  surface-read id number named =
      let there = surface-named id number named in
      found-by (has_number numbers) (has_id id) number all.surfaces there.0 told-apart there.1 (is-number number (numbers there.0.id) (ap numbers there.2 ∙ named)) ∙ sym there.1

  -- what is kept under a number is that of the surface with the number
  pub surface-numbered : (number : ℕ) (s : Surface) → by_number numbers all number ≡ Some s → (numbers s.id ≡ Some number) × (surface_at s.id all ≡ Some s)
  surface-numbered number s found = (
    number-is number (numbers s.id) (found-passes (has_number numbers number) all.surfaces s found),
    found-by has_id (has_number numbers number) s.id all.surfaces s is.apart found (eq-eqb s.id s.id refl),
  )

  -- no number is named where there is no surface
  pub surface-absent : (id : ℕ) → numbers id ≡ None → surface_at id all ≡ None
  surface-absent id none = at (surface_at id all) (sym (is.numbered id) ∙ ap is_some none)
    where
      at : (o : Option Surface) → is_some o ≡ false → o ≡ None
      at None e = refl
      at (Some s) e = absurd (true≢false e)

  -- whether one of them has a property is whether one under some number does
  pub any-read : (property : Surface → Bool) (at : Option Surface → Bool) (b : Bool) → at None ≡ false → ((s : Surface) → at (Some s) ≡ property s) → IsAny at (by_number numbers all) b
      → list_any property all.surfaces ≡ b
  any-read property at true none some any = one (by_number numbers all any.0) refl any.1
    where
      one : (o : Option Surface) → by_number numbers all any.0 ≡ o → at o ≡ true → list_any property all.surfaces ≡ true
      one None e has = absurd (true≢false (sym has ∙ none))
      one (Some s) e has = found-any (has_number numbers any.0) property all.surfaces s e (sym (some s) ∙ has)
  any-read property at false none some any = false_from_ne_true (list_any property all.surfaces) never
    where
      never : list_any property all.surfaces ≡ true → ⊥
      never e =
          let one = any-found has_id property all.surfaces is.apart e in
          let there = there-some (numbers one.0.id) (is.numbered one.0.id ∙ ap is_some (one.2 one.0.id (eq-eqb one.0.id one.0.id refl))) in
          let found : by_number numbers all there.0 ≡ Some one.0 = surface-read one.0.id there.0 there.1 ∙ one.2 one.0.id (eq-eqb one.0.id one.0.id refl) in
          true≢false (sym one.1 ∙ sym (some one.0) ∙ sym (ap at found) ∙ any there.0)

  pub used-read : (buffer : ℕ) (b : Bool) → IsAny (has_at buffer) (by_number numbers all) b → is_used buffer all ≡ b
  used-read buffer b any = any-read (λ s. has buffer s.history) (has_at buffer) b refl (λ s. refl) any

  -- whether one of them has it is so of what is kept
  pub any-is : (property : Surface → Bool) (at : Option Surface → Bool) → at None ≡ false → ((s : Surface) → at (Some s) ≡ property s)
      → IsAny at (by_number numbers all) (list_any property all.surfaces)
  any-is property at none some = either (list_any property all.surfaces) refl
    where
      either : (b : Bool) → list_any property all.surfaces ≡ b → IsAny at (by_number numbers all) b
      either true e =
          let one = any-found has_id property all.surfaces is.apart e in
          let found = one.2 one.0.id (eq-eqb one.0.id one.0.id refl) in
          let there = there-some (numbers one.0.id) (is.numbered one.0.id ∙ ap is_some found) in
          (there.0, ap at (surface-read one.0.id there.0 there.1 ∙ found) ∙ some one.0 ∙ one.1)
      either false e = λ number. lacks number (by_number numbers all number) refl
        where
          lacks : (number : ℕ) (o : Option Surface) → by_number numbers all number ≡ o → at o ≡ false
          lacks number None found = none
          lacks number (Some s) found = some s ∙ false_from_ne_true (property s) (λ has. true≢false (sym (found-any (has_number numbers number) property all.surfaces s found has) ∙ e))

  pub busy-is : (buffer : ℕ) → IsAny (shows_at buffer) (by_number numbers all) (is_busy buffer all)
  busy-is buffer = any-is (λ s. shows buffer s.history) (shows_at buffer) refl (λ s. refl)

  -- ---- one changes

  module _ (id number : ℕ) (named : numbers id ≡ Some number) (change : Surface → Surface) (keeps : (s : Surface) → (change s).id ≡ s.id) where
    abbrev one : Surface → Surface
    one s = cond (s.id == id) (change s) s

    one-id : (s : Surface) → (one s).id ≡ s.id
    one-id s = at (s.id == id)
      where
        at : (b : Bool) → (cond b (change s) s).id ≡ s.id
        at true = keeps s
        at false = refl

    pub surfaces-changed : (other : ℕ) → by_number numbers (with_change id change all) other ≡ changed_at number change (by_number numbers all) other
    surfaces-changed other =
        found-map (has_number numbers other) one all.surfaces (λ s. ap (λ i. is_number other (numbers i)) (one-id s)) ∙ at (by_number numbers all other) (other == number) refl refl
      where
        at : (o : Option Surface) (b : Bool) → by_number numbers all other ≡ o → (other == number) ≡ b → option_map one o ≡ cond b (option_map change o) o
        at None true found same = refl
        at None false found same = refl
        at (Some s) true found same =
            let it : s.id ≡ id = is.once s.id id number ((surface-numbered other s found).0 ∙ ap Some (eqb-true other number same)) named in
            ap (λ b. Some (cond b (change s) s)) (eq-eqb s.id id it)
        at (Some s) false found same =
            let another : s.id ≢ id = λ it. eqb-false other number same (same_Some other number (sym (surface-numbered other s found).0 ∙ ap numbers it ∙ named)) in
            ap (λ b. Some (cond b (change s) s)) (ne_eqb s.id id another)

  -- ---- what becomes of them keeps their ids

  module _ (new : Slots) (after : Tied) (all_new : Surfaces) (same_ids : HasSameIds all all_new) (by : StandBy (number_in numbers) new after all_new) where
    numbered-then : (other : ℕ) → is_some (numbers other) ≡ is_some (surface_at other all_new)
    numbered-then other = is.numbered other ∙ sym (same-there all all_new same_ids other)

    apart-new : AreApartBy has_id all_new.surfaces
    apart-new = same-apart all all_new same_ids is.apart

    -- under the same numbers one is there
    same-numbered : (other : ℕ) → is_some (by_number numbers all_new other) ≡ is_some (by_number numbers all other)
    same-numbered other = truth (is_some (by_number numbers all_new other)) (is_some (by_number numbers all other)) (one-there all_new all apart-new is.apart numbered-then is.numbered)
        (one-there all all_new is.apart apart-new is.numbered numbered-then)
      where
        one-there : (these those : Surfaces) → AreApartBy has_id these.surfaces → AreApartBy has_id those.surfaces
            → ((id : ℕ) → is_some (numbers id) ≡ is_some (surface_at id these)) → ((id : ℕ) → is_some (numbers id) ≡ is_some (surface_at id those))
            → is_some (by_number numbers these other) ≡ true → is_some (by_number numbers those other) ≡ true
        one-there these those apart_these apart_those named_these named_those e =
            let one = there-some (by_number numbers these other) e in
            let number = number-is other (numbers one.0.id) (found-passes (has_number numbers other) these.surfaces one.0 one.1) in
            let there = there-some (surface_at one.0.id those) (sym (named_those one.0.id) ∙ ap is_some number) in
            ap is_some (found-by (has_number numbers) (has_id one.0.id) other those.surfaces there.0 (numbers-apart numbers those.surfaces is.once apart_those) there.1
            (is-number other (numbers there.0.id) (ap numbers (eqb-true there.0.id one.0.id (found-passes (has_id one.0.id) those.surfaces there.0 there.1)) ∙ number)))

    pub AreKept-then : AreKept numbers new after all_new
    AreKept-then =
        let stands = stand-kept numbers new after all_new numbered-then is.once by in
        record {
          ends = by.renaming.ends;
          numbered = numbered-then;
          once = is.once;
          apart = apart-new;
          stand = stands;
          count =
              count-same new.places slots.places (λ other. is-kept (kept_at new other) (by_number numbers all_new other) (stands other) ∙ same-numbered other
              ∙ sym (is-kept (kept_at slots other) (by_number numbers all other) (is.stand other)))
              ∙ is.count ∙ sym (same-length all all_new same_ids);
          hang = by.stands.hang;
          there = there-kept numbers new after all_new numbered-then is.once by;
        }

  -- ---- one comes

  module _ (id number : ℕ) (free : numbers id ≡ None) (new : Slots) (created : (named : Numbered) (id : ℕ) → StandForAll slots named → (named number ≡ None)
      × StandForAll new (with_at number (Some (new_surface id)) named)) where
    abbrev now : ById ℕ
    now = with_id id (Some number) numbers

    -- its number was nobody's
    pub unnumbered : (other : ℕ) → numbers other ≢ Some number
    unnumbered other named =
        let there = surface-named other number named in
        none-some there.0 (sym (created (by_number numbers all) id is.stand).0 ∙ surface-read other number named ∙ there.1)

    once-now : (a b other : ℕ) → now a ≡ Some other → now b ≡ Some other → a ≡ b
    once-now a b other x y = at (a == id) (b == id) refl refl x y
      where
        at : (p q : Bool) → (a == id) ≡ p → (b == id) ≡ q → cond p (Some number) (numbers a) ≡ Some other → cond q (Some number) (numbers b) ≡ Some other → a ≡ b
        at true true here there x y = eqb-true a id here ∙ sym (eqb-true b id there)
        at true false here there x y = absurd (unnumbered b (y ∙ sym x))
        at false true here there x y = absurd (unnumbered a (x ∙ sym y))
        at false false here there x y = is.once a b other x y

    numbered-now : (other : ℕ) → is_some (now other) ≡ is_some (surface_at other (with_new id all))
    numbered-now other = at (other == id) refl
      where
        at : (b : Bool) → (other == id) ≡ b → is_some (cond b (Some number) (numbers other)) ≡ is_some (surface_at other (with_new id all))
        at true here =
            let same = eqb-true other id here in
            sym (ap is_some (new-here (has_id other) all.surfaces (new_surface id) (surface-absent other (ap numbers same ∙ free)) (eq-eqb id other (sym same))))
        at false here =
            is.numbered other ∙ sym (ap is_some (new-elsewhere (has_id other) all.surfaces (new_surface id) (ne_eqb id other (λ same. eqb-false other id here (sym same)))))

    -- the others have the numbers that they had
    same-numbers : (xs : List Surface) (other : ℕ) → find (has_id id) xs ≡ None → find (has_number now other) xs ≡ find (has_number numbers other) xs
    same-numbers [] other none = refl
    same-numbers (x ∷ xs) other none =
        let apart = none-first (x.id == id) x (find (has_id id) xs) none in
        ap (λ o. cond (is_number other o) (Some x) (find (has_number now other) xs)) (with_id-other id x.id (Some number) numbers apart)
        ∙ ap (cond (has_number numbers other x) (Some x)) (same-numbers xs other (none-later (x.id == id) x (find (has_id id) xs) none))

    pub surfaces-made : (other : ℕ) → by_number now (with_new id all) other ≡ with_at number (Some (new_surface id)) (by_number numbers all) other
    surfaces-made other = at (other == number) refl
      where
        at : (b : Bool) → (other == number) ≡ b → by_number now (with_new id all) other ≡ cond b (Some (new_surface id)) (by_number numbers all other)
        at true here =
            let same = eqb-true other number here in
            let none = same-numbers all.surfaces other (surface-absent id free) ∙ ap (by_number numbers all) same ∙ (created (by_number numbers all) id is.stand).0 in
            new-here (has_number now other) all.surfaces (new_surface id) none (is-number other (now id) (with_id-here id (Some number) numbers ∙ ap Some (sym same)))
        at false here =
            new-elsewhere (has_number now other) all.surfaces (new_surface id) (ap (is_number other) (with_id-here id (Some number) numbers)
            ∙ ne_eqb number other (λ same. eqb-false other number here (sym same)))
            ∙ same-numbers all.surfaces other (surface-absent id free)

    pub AreKept-made : count_kept new ≡ count_kept slots + 1 → AreKept now new tied (with_new id all)
    AreKept-made counted =
        let by = made-by numbers slots tied all is id number new free (surface-absent id free) created in
        record {
          ends = by.renaming.ends;
          numbered = numbered-now;
          once = once-now;
          apart = new-apart has_id all.surfaces (new_surface id) (λ other same. ap (λ i. surface_at i all) (sym (eqb-true id other same)) ∙ surface-absent id free) is.apart;
          stand = λ other. subst (λ (o : Option Surface). StandsAt (kept_at new other) o) (sym (surfaces-made other)) ((created (by_number numbers all) id is.stand).1 other);
          count = counted ∙ ap (λ n. n + 1) is.count ∙ sym (length-new all.surfaces (new_surface id));
          hang = by.stands.hang;
          there = there-kept now new tied (with_new id all) numbered-now once-now by;
        }

  -- ---- one goes

  module _ (id number : ℕ) (named : numbers id ≡ Some number) (new : Slots) (all_left : Surfaces) (same_ids : HasSameIds all all_left) where
    abbrev after : ById ℕ
    after = with_id id None numbers

    was : (other other_number : ℕ) → after other ≡ Some other_number → (numbers other ≡ Some other_number) × ((other == id) ≡ false)
    was other other_number e = at (other == id) refl e
      where
        at : (b : Bool) → (other == id) ≡ b → cond b None (numbers other) ≡ Some other_number → (numbers other ≡ Some other_number) × ((other == id) ≡ false)
        at true here e = absurd (none-some other_number e)
        at false here e = (e, here)

    apart-then : AreApartBy has_id all_left.surfaces
    apart-then = same-apart all all_left same_ids is.apart

    -- the one that goes
    going : (s : Surface) × (surface_at id all_left ≡ Some s) × (s.id ≡ id)
    going =
        let there = there-some (surface_at id all_left) (same-there all all_left same_ids id ∙ sym (is.numbered id) ∙ ap is_some named) in
        (there.0, there.1, eqb-true there.0.id id (found-passes (has_id id) all_left.surfaces there.0 there.1))

    numbered-after : (other : ℕ) → is_some (after other) ≡ is_some (surface_at other (without_surface id all_left))
    numbered-after other = at (other == id) refl
      where
        at : (b : Bool) → (other == id) ≡ b → is_some (cond b None (numbers other)) ≡ is_some (surface_at other (without_surface id all_left))
        at true here =
            sym (ap (λ i. is_some (surface_at i (without_surface id all_left))) (eqb-true other id here) ∙ ap is_some (gone (has_id id) all_left.surfaces))
        at false here =
            is.numbered other ∙ sym (same-there all all_left same_ids other)
            ∙ sym (ap is_some (left-elsewhere has_id id going.0 (has_id other) all_left.surfaces apart-then going.1 (ne_eqb going.0.id other (λ same. eqb-false other id here (sym same ∙ going.2)))))

    once-after : (a b other : ℕ) → after a ≡ Some other → after b ≡ Some other → a ≡ b
    once-after a b other x y = is.once a b other (was a other x).0 (was b other y).0

    pub AreKept-left : (without : Tied) → StandBy (number_in after) new without (without_surface id all_left) → AreKept after new without (without_surface id all_left)
    AreKept-left without by =
        let stands = stand-kept after new without (without_surface id all_left) numbered-after once-after by in
        record {
          ends = by.renaming.ends;
          numbered = numbered-after;
          once = once-after;
          apart = apart-left has_id (λ s. not (s.id == id)) all_left.surfaces apart-then;
          stand = stands;
          count = fewer stands;
          hang = by.stands.hang;
          there = there-kept after new without (without_surface id all_left) numbered-after once-after by;
        }
      where
        fewer : StandForAll new (by_number after (without_surface id all_left)) → count_kept new ≡ length (without_surface id all_left).surfaces
        fewer stands =
            let shorter = length-left has_id id going.0 all_left.surfaces apart-then going.1 in
            let before = surface-named id number named in
            let one = count-left slots.places new.places number (kept-at slots (by_number numbers all) is.stand number ∙ ap is_some (surface-read id number named ∙ before.1))
            (kept-at new (by_number after (without_surface id all_left)) stands number ∙ nobody)
            (λ other away. kept-at slots (by_number numbers all) is.stand other ∙ elsewhere other away ∙ sym (kept-at new (by_number after (without_surface id all_left)) stands other)) in
            let same = is.count in
            let long = same-length all all_left same_ids in
            omega (arith, one, shorter, same, long)
          where
            all_after : Surfaces
            all_after = without_surface id all_left

            apart-after : AreApartBy has_id all_after.surfaces
            apart-after = apart-left has_id (λ s. not (s.id == id)) all_left.surfaces apart-then

            nobody : is_some (by_number after all_after number) ≡ false
            nobody = false_from_ne_true (is_some (by_number after all_after number)) (λ e.
                let one = there-some (by_number after all_after number) e in
                let its = was one.0.id number (number-is number (after one.0.id) (found-passes (has_number after number) all_after.surfaces one.0 one.1)) in
                true≢false (sym (eq-eqb one.0.id id (is.once one.0.id id number its.0 named)) ∙ its.1))

            elsewhere : (other : ℕ) → (other == number) ≡ false → is_some (by_number numbers all other) ≡ is_some (by_number after all_after other)
            elsewhere other away =
                truth (is_some (by_number numbers all other)) (is_some (by_number after all_after other)) to from
              where
                to : is_some (by_number numbers all other) ≡ true → is_some (by_number after all_after other) ≡ true
                to e =
                    let one = there-some (by_number numbers all other) e in
                    let its = surface-numbered other one.0 one.1 in
                    let apart : (one.0.id == id) ≡ false = ne_eqb one.0.id id (λ same. eqb-false other number away (same_Some other number (sym its.0 ∙ ap numbers same ∙ named))) in
                    let now : after one.0.id ≡ Some other = with_id-other id one.0.id None numbers apart ∙ its.0 in
                    let there = there-some (surface_at one.0.id all_after) (sym (numbered-after one.0.id) ∙ ap is_some now) in
                    ap is_some (found-by (has_number after) (has_id one.0.id) other all_after.surfaces there.0 (numbers-apart after all_after.surfaces once-after apart-after) there.1
                    (is-number other (after there.0.id) (ap after (eqb-true there.0.id one.0.id (found-passes (has_id one.0.id) all_after.surfaces there.0 there.1)) ∙ now)))

                from : is_some (by_number after all_after other) ≡ true → is_some (by_number numbers all other) ≡ true
                from e =
                    let one = there-some (by_number after all_after other) e in
                    let its = was one.0.id other (number-is other (after one.0.id) (found-passes (has_number after other) all_after.surfaces one.0 one.1)) in
                    let there = surface-named one.0.id other its.0 in
                    ap is_some (surface-read one.0.id other its.0 ∙ there.1)

-- ---- a window geometry is asked of a surface: of that nothing is kept here

geometry-stands : (rect : Rect) (slot : Option Kept) (at : Option Surface) → StandsAt slot at → StandsAt slot (option_map (asking (SetWindowGeometry rect)) at)
geometry-stands rect None None t = tt
geometry-stands rect (Some k) None t = absurd t
geometry-stands rect None (Some s) t = absurd t
geometry-stands rect (Some k) (Some s) t = For-unseen k s (SetWindowGeometry rect) refl refl refl refl refl t

pub geometry-asked : (slots : Slots) (number : ℕ) (rect : Rect) → Changes slots slots number (asking (SetWindowGeometry rect))
geometry-asked slots number rect = record { stand = λ all stand other. at all other (other == number) (stand other); count = refl }
  where
    at : (all : Numbered) (other : ℕ) (b : Bool) → StandsAt (kept_at slots other) (all other)
        → StandsAt (kept_at slots other) (cond b (option_map (asking (SetWindowGeometry rect)) (all other)) (all other))
    at all other true t = geometry-stands rect (kept_at slots other) (all other) t
    at all other false t = t

-- How the surfaces of a client hang together goes on being kept.
use Rattle.std.proofs.Common.{◌≡◌, ℕ, zero, suc, ◌+◌, List, [], ◌∷◌, Bool, true, false, Option, Some, None, cond, refl, ap, sym, subst, ◌∙◌, arith}
use Rattle.std.specs.Prelude.{◌==◌, count_by, find, fold, is_some, map}
use Rattle.std.specs.List.{AllByRecursion as Each}
use Rattle.std.specs.Option.{option_map, option_map_or}
use Rattle.std.proofs.Math.Path.{fun_ext}
use Rattle.std.proofs.lemmas.Bool.{eqb-false, eqb-true, false_from_ne_true, ne_eqb, true≢false}
use Rattle.std.proofs.lemmas.List.Sums.{sum_by-cons}
use Rattle.spec_desktop.specs.Objects.{ById, with_id}
use Rattle.wl_links.specs.Family.{Tied, is_there}
use Rattle.wl_surface.specs.Kept.{Kept}
use Rattle.wl_surface.specs.Request.{Request}
use Rattle.wl_surface.specs.State.{is_commit}
use Rattle.wl_surface.specs.Surface.{Surface, asking, new_surface, with_role}
use Rattle.wl_surface.specs.declared.role.Role.{Role}
use Rattle.wl_surface.specs.Slots.{Changes, Numbered, Slots, StandForAll, StandsAt, kept_at, one_if_kept, place_at, with_at}
use Rattle.wl_surface.specs.Surfaces.{Surfaces, surface_at, with_change, with_new}
use Rattle.wl_surface.specs.Trees.{committed_in, destroyed_in, ended_in, links_with}
use Rattle.wl_surface.specs.Stacks.{is_about_children}
use Rattle.wl_surface.specs.Linked.{numbered}
use Rattle.law_desktop.specs.Renaming.{IsRenaming, has_surface, renamed, renamed_surface}
use Rattle.law_desktop.proofs.ByNames.Names.Known.{known-there}
use Rattle.law_desktop.specs.Named.{Makes, StandBy}
use Rattle.law_desktop.proofs.ByNames.Linking.{destroys-named}
use Rattle.law_desktop.proofs.ByNames.Named.{asks-named, commits-named, roles-named, there-named}
use Rattle.law_desktop.proofs.ByNames.Reading.{numbers-named}
use Rattle.law_desktop.proofs.ByNames.Renaming.{creates-named, renames-named}
use Rattle.spec_desktop.specs.Step.{is_number}
use Rattle.law_desktop.proofs.Lists.Keys.{gone}
use Rattle.law_desktop.proofs.Lists.Surfaces.{has_id}
use Rattle.law_desktop.specs.Owning.{AreKept, by_number, number_in}
use Rattle.law_desktop.proofs.Keeping.OwningNames.{with_id-other}
use Rattle.law_desktop.proofs.Truth.{there-some}

-- ---- how many are kept

pub nothing-at : (n : ℕ) → place_at [] n ≡ None
nothing-at zero = refl
nothing-at (suc n) = refl

count-more : (x : Option Kept) (xs : List (Option Kept)) → count_by is_some (x ∷ xs) ≡ one_if_kept x + count_by is_some xs
count-more x xs = sum_by-cons one_if_kept x xs

count-none : (x : Option Kept) (xs : List (Option Kept)) → is_some x ≡ false → count_by is_some (x ∷ xs) ≡ count_by is_some xs
count-none x xs none = let more = count-more x xs ∙ ap (λ b. cond b 1 0 + count_by is_some xs) none in omega (arith, more)

-- as many, where something is kept under the same numbers
pub count-same : (xs ys : List (Option Kept)) → ((n : ℕ) → is_some (place_at xs n) ≡ is_some (place_at ys n)) → count_by is_some xs ≡ count_by is_some ys
count-same [] [] same = refl
count-same [] (y ∷ ys) same =
    let first : is_some y ≡ false = sym (same zero) in
    let rest = count-same [] ys (λ n. ap is_some (nothing-at n) ∙ same (suc n)) in
    rest ∙ sym (count-none y ys first)
count-same (x ∷ xs) [] same =
    let first : is_some x ≡ false = same zero in
    let rest = count-same xs [] (λ n. same (suc n) ∙ sym (ap is_some (nothing-at n))) in
    count-none x xs first ∙ rest
count-same (x ∷ xs) (y ∷ ys) same =
    let first : is_some x ≡ is_some y = same zero in
    let rest = count-same xs ys (λ n. same (suc n)) in
    count-more x xs ∙ ap (λ b. cond b 1 0 + count_by is_some xs) first ∙ ap (λ k. one_if_kept y + k) rest ∙ sym (count-more y ys)

no-zero : (n : ℕ) → (suc n == zero) ≡ false
no-zero n = ne_eqb (suc n) zero (λ e. absurd (omega (arith, e)))

zero-no : (n : ℕ) → (zero == suc n) ≡ false
zero-no n = ne_eqb zero (suc n) (λ e. absurd (omega (arith, e)))

next-apart : (n k : ℕ) → (n == k) ≡ false → (suc n == suc k) ≡ false
next-apart n k away = ne_eqb (suc n) (suc k) (λ e. eqb-false n k away (omega (arith, e)))

-- one fewer, where one goes
pub count-left : (xs ys : List (Option Kept)) (number : ℕ) → is_some (place_at xs number) ≡ true → is_some (place_at ys number) ≡ false
    → ((n : ℕ) → (n == number) ≡ false → is_some (place_at xs n) ≡ is_some (place_at ys n)) → count_by is_some ys + 1 ≡ count_by is_some xs
count-left [] ys number here went same = absurd (true≢false (sym here ∙ ap is_some (nothing-at number)))
count-left (x ∷ xs) [] zero here went same =
    let rest = count-same xs [] (λ n. same (suc n) (no-zero n) ∙ sym (ap is_some (nothing-at n))) in
    let more = count-more x xs ∙ ap (λ b. cond b 1 0 + count_by is_some xs) here in
    let none : count_by is_some (nobody-kept) ≡ 0 = refl in
    omega (arith, rest, more, none)
  where
    nobody-kept : List (Option Kept)
    nobody-kept = []
count-left (x ∷ xs) (y ∷ ys) zero here went same =
    let rest = count-same xs ys (λ n. same (suc n) (no-zero n)) in
    let more = count-more x xs ∙ ap (λ b. cond b 1 0 + count_by is_some xs) here in
    let less = count-more y ys ∙ ap (λ b. cond b 1 0 + count_by is_some ys) went in
    omega (arith, rest, more, less)
count-left (x ∷ xs) [] (suc k) here went same =
    let first : is_some x ≡ false = same zero (zero-no k) in
    let rest = count-left xs [] k here (ap is_some (nothing-at k)) (λ n away. same (suc n) (next-apart n k away) ∙ sym (ap is_some (nothing-at n))) in
    rest ∙ sym (count-none x xs first)
count-left (x ∷ xs) (y ∷ ys) (suc k) here went same =
    let rest = count-left xs ys k here went (λ n away. same (suc n) (next-apart n k away)) in
    let more = count-more x xs ∙ ap (λ b. cond b 1 0 + count_by is_some xs) (same zero (zero-no k)) in
    let less = count-more y ys in
    omega (arith, rest, more, less)

-- something is kept just where there is a surface
pub is-kept : (slot : Option Kept) (at : Option Surface) → StandsAt slot at → is_some slot ≡ is_some at
is-kept None None t = refl
is-kept (Some k) None t = absurd t
is-kept None (Some s) t = absurd t
is-kept (Some k) (Some s) t = refl

-- ---- a surface under another name

stands-renamed : (f : ℕ → ℕ) (slot : Option Kept) (at : Option Surface) → StandsAt slot at → StandsAt slot (option_map (renamed_surface f) at)
stands-renamed f None None t = tt
stands-renamed f (Some k) None t = absurd t
stands-renamed f None (Some s) t = absurd t
stands-renamed f (Some k) (Some s) t = record { history = t.history; role = t.role }

pub stands-renamed-back : (f : ℕ → ℕ) (slot : Option Kept) (at : Option Surface) → StandsAt slot (option_map (renamed_surface f) at) → StandsAt slot at
stands-renamed-back f None None t = tt
stands-renamed-back f (Some k) None t = absurd t
stands-renamed-back f None (Some s) t = absurd t
stands-renamed-back f (Some k) (Some s) t = record { history = t.history; role = t.role }

pub number-of-name : (numbers : ById ℕ) (id number : ℕ) → numbers id ≡ Some number → number_in numbers id ≡ number
number-of-name numbers id number e = ap (λ (o : Option ℕ). option_map_or (λ n. n) o 0) e

-- ---- where the ids that have numbers are those of the surfaces

module _ (numbers : ById ℕ) (all : Surfaces) (numbered_by : (id : ℕ) → is_some (numbers id) ≡ is_some (surface_at id all))
    (once : (a b number : ℕ) → numbers a ≡ Some number → numbers b ≡ Some number → a ≡ b) where
  abbrev name : ℕ → ℕ
  name id = number_in numbers id

  -- a surface that is there has a number
  pub named-there : (id : ℕ) → has_surface id all ≡ true → numbers id ≡ Some (name id)
  named-there id there =
      let one = there-some (numbers id) (numbered_by id ∙ there) in
      one.1 ∙ ap Some (sym (number-of-name numbers id one.0 one.1))

  pub names-apart : (a b : ℕ) → has_surface a all ≡ true → has_surface b all ≡ true → name a ≡ name b → a ≡ b
  names-apart a b there_a there_b same = once a b (name a) (named-there a there_a) (named-there b there_b ∙ ap Some (sym same))

  same-test : (number : ℕ) (s : Surface) → has_surface s.id all ≡ true → (name s.id == number) ≡ is_number number (numbers s.id)
  same-test number s there = sym (ap (is_number number) (named-there s.id there))

  found-renamed : (number : ℕ) (xs : List Surface) → Each (λ (s : Surface). has_surface s.id all ≡ true) xs
      → find (λ (s : Surface). s.id == number) (map (renamed_surface name) xs) ≡ option_map (renamed_surface name) (find (λ (s : Surface). is_number number (numbers s.id)) xs)
  found-renamed number [] each = refl
  found-renamed number (x ∷ xs) each =
      ap (λ b. cond b (Some (renamed_surface name x)) (find (λ (s : Surface). s.id == number) (map (renamed_surface name) xs))) (same-test number x each.0)
      ∙ at (is_number number (numbers x.id)) (found-renamed number xs each.1)
    where
      at : (b : Bool) → find (λ (s : Surface). s.id == number) (map (renamed_surface name) xs) ≡ option_map (renamed_surface name) (find (λ (s : Surface). is_number number (numbers s.id)) xs)
          → cond b (Some (renamed_surface name x)) (find (λ (s : Surface). s.id == number) (map (renamed_surface name) xs))
          ≡ option_map (renamed_surface name) (cond b (Some x) (find (λ (s : Surface). is_number number (numbers s.id)) xs))
      at true e = refl
      at false e = e

  module _ (is : IsRenaming name all) where
    -- under its number each is the one of its id, but for its name
    pub read-renamed : (number : ℕ) → numbered (renamed name all) number ≡ option_map (renamed_surface name) (by_number numbers all number)
    read-renamed number = found-renamed number all.surfaces (known-there name all is).named

    pub stand-renamed : (slots : Slots) → StandForAll slots (by_number numbers all) → StandForAll slots (numbered (renamed name all))
    stand-renamed slots stand number =
        subst (λ (o : Option Surface). StandsAt (kept_at slots number) o) (sym (read-renamed number)) (stands-renamed name (kept_at slots number) (by_number numbers all number) (stand number))

    pub stand-back : (slots : Slots) → StandForAll slots (numbered (renamed name all)) → StandForAll slots (by_number numbers all)
    stand-back slots stand number =
        stands-renamed-back name (kept_at slots number) (by_number numbers all number)
        (subst (λ (o : Option Surface). StandsAt (kept_at slots number) o) (read-renamed number) (stand number))

    -- a number under which a surface is there is that of an id
    pub id-of : (number : ℕ) → is_some (surface_at number (renamed name all)) ≡ true → (id : ℕ) × (numbers id ≡ Some number)
    id-of number there =
        let one = there-some (surface_at number (renamed name all)) there in
        let it = (numbers-named name all is number).0 one.0 one.1 in
        (it.0, named-there it.0 it.1 ∙ ap Some it.2)

-- ---- of what is kept

module _ (numbers : ById ℕ) (slots : Slots) (tied : Tied) (all : Surfaces) (is : AreKept numbers slots tied all) where
  pub renaming-of : IsRenaming (number_in numbers) all
  renaming-of = record { apart = names-apart numbers all is.numbered is.once; ends = is.ends }

  pub stand-by : StandBy (number_in numbers) slots tied all
  stand-by = record {
    stands = record {
      surfaces = stand-renamed numbers all is.numbered is.once renaming-of slots is.stand;
      hang = is.hang;
      there = λ number there. here number (is.there number there);
    };
    renaming = renaming-of;
  }
    where
      here : (number : ℕ) → (id : ℕ) × (numbers id ≡ Some number) → is_some (surface_at number (renamed (number_in numbers) all)) ≡ true
      here number one =
          let here_too = sym (is.numbered one.0) ∙ ap is_some one.1 in
          subst (λ n. is_some (surface_at n (renamed (number_in numbers) all)) ≡ true) (number-of-name numbers one.0 number one.1)
          (there-named (number_in numbers) all renaming-of one.0 here_too)

  -- ---- one changes

  module _ (id number : ℕ) (named : numbers id ≡ Some number) where
    pub own : number_in numbers id ≡ number
    own = number-of-name numbers id number named

    pub present : has_surface id all ≡ true
    present = sym (is.numbered id) ∙ ap is_some named

    pub asked-by : (request : Request) (new : Slots) → is_about_children request ≡ false → is_commit request ≡ false → Changes slots new number (asking request)
        → StandBy (number_in numbers) new tied (with_change id (asking request) all)
    asked-by request new about plain changes =
        asks-named (number_in numbers) slots new tied all id request about plain present stand-by (subst (λ n. Changes slots new n (asking request)) (sym own) changes)

    pub role-by : (role : Role) (new : Slots) → Changes slots new number (with_role role) → StandBy (number_in numbers) new tied (with_change id (with_role role) all)
    role-by role new changes =
        roles-named (number_in numbers) slots new tied all id role present stand-by (subst (λ n. Changes slots new n (with_role role)) (sym own) changes)

    pub committed-by : (new : Slots) (after : Tied) → Makes slots tied new after (committed_in number) → StandBy (number_in numbers) new after (committed_in id all)
    committed-by new after makes =
        commits-named (number_in numbers) slots new tied after all id present stand-by (subst (λ n. Makes slots tied new after (committed_in n)) (sym own) makes)

    -- one goes
    pub left-by : (new : Slots) (after : Tied) → Makes slots tied new after (destroyed_in number) → StandBy (number_in (with_id id None numbers)) new after (destroyed_in id all)
    left-by new after makes =
        renames-named (number_in numbers) (number_in (with_id id None numbers)) new after (destroyed_in id all)
        (λ other there. ap (λ (o : Option ℕ). option_map_or (λ n. n) o 0) (with_id-other id other None numbers (elsewhere other there)))
        (destroys-named (number_in numbers) slots new tied after all id present stand-by (subst (λ n. Makes slots tied new after (destroyed_in n)) (sym own) makes))
      where
        elsewhere : (other : ℕ) → has_surface other (destroyed_in id all) ≡ true → (other == id) ≡ false
        elsewhere other there = false_from_ne_true (other == id)
            (λ e. true≢false (sym there ∙ ap is_some (ap (λ i. surface_at i (destroyed_in id all)) (eqb-true other id e) ∙ gone (has_id id) (fold ended_in all (links_with id all)).surfaces)))

  -- ---- one comes

  pub made-by : (id number : ℕ) (new : Slots) → numbers id ≡ None → surface_at id all ≡ None
      → ((named : Numbered) (id : ℕ) → StandForAll slots named → (named number ≡ None) × StandForAll new (with_at number (Some (new_surface id)) named))
      → StandBy (number_in (with_id id (Some number) numbers)) new tied (with_new id all)
  made-by id number new free none created =
      subst (λ (f : ℕ → ℕ). StandBy f new tied (with_new id all)) (fun_ext (λ other. same other (other == id) refl))
      (creates-named (number_in numbers) slots new tied all id number none stand-by created)
    where
      same : (other : ℕ) (b : Bool) → (other == id) ≡ b → cond b number (number_in numbers other) ≡ option_map_or (λ n. n) (cond b (Some number) (numbers other)) 0
      same other true e = refl
      same other false e = refl

-- ---- what stands by their numbers is kept

module _ (numbers : ById ℕ) (new : Slots) (after : Tied) (all : Surfaces) (numbered_by : (id : ℕ) → is_some (numbers id) ≡ is_some (surface_at id all))
    (once : (a b number : ℕ) → numbers a ≡ Some number → numbers b ≡ Some number → a ≡ b) (by : StandBy (number_in numbers) new after all) where
  pub stand-kept : StandForAll new (by_number numbers all)
  stand-kept = stand-back numbers all numbered_by once by.renaming new by.stands.surfaces

  pub there-kept : (number : ℕ) → is_there number after ≡ true → (id : ℕ) × (numbers id ≡ Some number)
  there-kept number there = id-of numbers all numbered_by once by.renaming number (by.stands.there number there)

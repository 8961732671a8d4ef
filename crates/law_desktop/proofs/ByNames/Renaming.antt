-- What is kept stands for surfaces by any names that give those which are there their numbers.
use Rattle.std.proofs.Common.{◌≡◌, ℕ, ◌==◌, ◌||◌, Bool, true, false, cond, Option, Some, None, List, [], ◌∷◌, map, is_some, refl, ap, ap₂, sym, subst, ◌∙◌, eq-eqb, arith}
use Rattle.std.proofs.Math.Path.{fun_ext}
use Rattle.std.specs.Prelude.{find}
use Rattle.std.specs.List.{AllByRecursion as Each, list_any}
use Rattle.std.specs.Option.{option_map, option_or}
use Rattle.std.proofs.lemmas.Bool.{eqb-true}
use Rattle.std.proofs.lemmas.List.Elements.{All-nil, recursion_from_All}
use Rattle.std.proofs.lemmas.List.Folds.{find-append}
use Rattle.wl_links.specs.Family.{Tied}
use Rattle.wl_surface.specs.Surface.{Surface, new_surface}
use Rattle.wl_surface.specs.Slots.{Numbered, Slots, StandForAll, StandsAt, kept_at, with_at}
use Rattle.wl_surface.specs.Surfaces.{Link, Surfaces, history_in, link_at, no_surfaces, surface_at, with_new}
use Rattle.wl_surface.specs.Hanging.{AreNumbered, AreTied, kid_of, kids_of, stacks_at}
use Rattle.wl_surface.specs.TreeLaws.{AreOnceLinked, is_live_of}
use Rattle.wl_surface.specs.Stacks.{Kids}
use Rattle.wl_surface.proofs.Coming.{creates-surface as creates-hanging}
use Rattle.wl_surface.proofs.Placing.{kept_of}
use Rattle.wl_surface.specs.Linked.{Stand, numbered}
use Rattle.law_desktop.specs.Renaming.{HasEnds, has_surface, renamed, renamed_link}
use Rattle.law_desktop.proofs.ByNames.Names.Done.{creates-surface}
use Rattle.law_desktop.proofs.ByNames.Names.Known.{names-those-there}
use Rattle.law_desktop.proofs.ByNames.Names.Lists.{each-weaker, found}
use Rattle.law_desktop.proofs.ByNames.Names.Reading.{if-lives, link-renamed, lives-of}
use Rattle.law_desktop.specs.Reading.{ShowsNamed}
use Rattle.law_desktop.specs.Named.{BeginsNamed, CreatesNamed, RenamesNamed, StandBy, with_name}
use Rattle.law_desktop.proofs.ByNames.Named.{named-as, there-named}

module _ (f g : ℕ → ℕ) where
  -- a link that lives is between the same by both names
  abbrev pub IsAlike : Link → Type 0
  IsAlike l = l.has_ended ≡ false → renamed_link g l ≡ renamed_link f l

  -- ---- links by their numbers

  living-found : (o : Option Link) → ((l : Link) → o ≡ Some l → IsAlike l) → (link : Link) → option_map (renamed_link g) o ≡ Some link → link.has_ended ≡ false
      → option_map (renamed_link f) o ≡ Some link
  living-found None alike link e lives = absurd (cc)
  living-found (Some l) alike link e lives =
      let same : renamed_link g l ≡ link = cc in
      ap (λ (k : Link). Some k) (sym (alike l refl (ap (λ (k : Link). k.has_ended) same ∙ lives)) ∙ same)

  none-found : (o : Option Link) → option_map (renamed_link g) o ≡ None → option_map (renamed_link f) o ≡ None
  none-found None e = refl
  none-found (Some l) e = absurd (cc)

  kid-same : (o : Option Link) → ((l : Link) → o ≡ Some l → IsAlike l) → kid_of (option_map (renamed_link f) o) ≡ kid_of (option_map (renamed_link g) o)
  kid-same None alike = refl
  kid-same (Some l) alike = at l.has_ended (alike l refl)
    where
      at : (b : Bool) → (b ≡ false → renamed_link g l ≡ renamed_link f l) → cond b None (Some (f l.child)) ≡ cond b None (Some (g l.child))
      at true alike = refl
      at false alike = ap (λ (k : Link). Some k.child) (sym (alike refl))

  numbers-same : (n : ℕ) (ls : List Link) → list_any (λ k. k.number == n) (map (renamed_link g) ls) ≡ list_any (λ k. k.number == n) (map (renamed_link f) ls)
  numbers-same n [] = refl
  numbers-same n (l ∷ ls) = ap (λ b. l.number == n || b) (numbers-same n ls)

  numbered-still : (ls : List Link) → AreNumbered (map (renamed_link f) ls) → AreNumbered (map (renamed_link g) ls)
  numbered-still [] apart = tt
  numbered-still (l ∷ ls) apart = (numbers-same l.number ls ∙ apart.0, numbered-still ls apart.1)

  -- ---- links by their children

  live-either : (c : ℕ) (l : Link) → IsAlike l → is_live_of c (renamed_link g l) ≡ is_live_of c (renamed_link f l)
  live-either c l alike = if-lives l.has_ended (g l.child == c) (f l.child == c) (λ lives. ap (λ (k : Link). k.child == c) (alike lives))

  any-live : (c : ℕ) (ls : List Link) → Each IsAlike ls → list_any (is_live_of c) (map (renamed_link g) ls) ≡ list_any (is_live_of c) (map (renamed_link f) ls)
  any-live c [] each = refl
  any-live c (l ∷ ls) each = ap₂ (λ (a b : Bool). a || b) (live-either c l each.0) (any-live c ls each.1)

  once-still : (ls : List Link) → Each IsAlike ls → AreOnceLinked (map (renamed_link f) ls) → AreOnceLinked (map (renamed_link g) ls)
  once-still [] each once = tt
  once-still (l ∷ ls) each once = (
    λ lives.
        ap (λ c. list_any (is_live_of c) (map (renamed_link g) ls)) (ap (λ (k : Link). k.child) (each.0 lives)) ∙ (any-live (f l.child) ls each.1 ∙ once.0 lives),
    once-still ls each.1 once.1,
  )

  live-same : (c : ℕ) (ls : List Link) → Each IsAlike ls → find (is_live_of c) (map (renamed_link f) ls) ≡ find (is_live_of c) (map (renamed_link g) ls)
  live-same c [] each = refl
  live-same c (l ∷ ls) each = at (is_live_of c (renamed_link f l)) refl (live-either c l each.0) (live-same c ls each.1)
    where
      at : (b : Bool) → is_live_of c (renamed_link f l) ≡ b → is_live_of c (renamed_link g l) ≡ is_live_of c (renamed_link f l)
          → find (is_live_of c) (map (renamed_link f) ls) ≡ find (is_live_of c) (map (renamed_link g) ls)
          → find (is_live_of c) (map (renamed_link f) (l ∷ ls)) ≡ find (is_live_of c) (map (renamed_link g) (l ∷ ls))
      at true e same next =
          let there = same ∙ e in
          rw (e, there) (ap (λ (k : Link). Some k) (sym (each.0 (lives-of l.has_ended (f l.child == c) e))))
      at false e same next = let there = same ∙ e in rw (e, there) next

  -- ---- what is kept stands by both names

  module _ (xs : List Surface) (ls : List Link) (each : Each IsAlike ls) where
    abbrev here : Surfaces
    here = record { surfaces = xs; links = map (renamed_link f) ls }

    abbrev there : Surfaces
    there = record { surfaces = xs; links = map (renamed_link g) ls }

    alike-at : (n : ℕ) (l : Link) → find (λ (k : Link). k.number == n) ls ≡ Some l → IsAlike l
    alike-at n l e = (found (λ (k : Link). k.number == n) IsAlike ls each l e).0

    link-here : (n : ℕ) (link : Link) → link_at n there ≡ Some link → link.has_ended ≡ false → link_at n here ≡ Some link
    link-here n link e lives =
        link-renamed f (record { surfaces = xs; links = ls }) n
        ∙ living-found (find (λ (k : Link). k.number == n) ls) (alike-at n) link (sym (link-renamed g (record { surfaces = xs; links = ls }) n) ∙ e) lives

    none-here : (n : ℕ) → link_at n there ≡ None → link_at n here ≡ None
    none-here n e =
        link-renamed f (record { surfaces = xs; links = ls }) n
        ∙ none-found (find (λ (k : Link). k.number == n) ls) (sym (link-renamed g (record { surfaces = xs; links = ls }) n) ∙ e)

    kids-same : kids_of here ≡ kids_of there
    kids-same =
        fun_ext (λ n. ap kid_of (link-renamed f (record { surfaces = xs; links = ls }) n)
        ∙ (kid-same (find (λ (k : Link). k.number == n) ls) (alike-at n) ∙ ap kid_of (sym (link-renamed g (record { surfaces = xs; links = ls }) n))))

    tied-still : AreTied here → AreTied there
    tied-still tied = record {
      once = once-still ls each tied.once;
      apart = numbered-still ls tied.apart;
      cuts = tied.cuts;
      named = λ n l h is none. tied.named n l h is (none-here l none);
      placed = λ n l h is none. tied.placed n l h is (none-here l none);
      parents = λ n l h link is at lives has. tied.parents n l h link is (link-here l link at lives) lives has;
      listed = λ l link at lives. tied.listed l link (link-here l link at lives) lives;
    }

    pub stands-still : (slots : Slots) (tied : Tied) → Stand slots tied here → Stand slots tied there
    stands-still slots tied stand = record {
      surfaces = stand.surfaces;
      hang = (
        record {
          links = λ c. stand.hang.0.links c ∙ ap (option_map kept_of) (live-same c ls each);
          stacks = λ n. stand.hang.0.stacks n ∙ ap (λ (kids : Kids). stacks_at kids (history_in n here)) kids-same;
        },
        tied-still stand.hang.1,
      );
      there = stand.there;
    }

pub renames-named : RenamesNamed
renames-named names others slots tied all same by =
    let is = names-those-there names others all by.renaming same in
    record {
      stands =
          stands-still names others (renamed others all).surfaces all.links each slots tied
          (subst (λ (xs : List Surface). Stand slots tied (record (renamed names all) { surfaces = xs })) (sym is.surfaces) by.stands);
      renaming = is.renaming;
    }
  where
    each : Each (IsAlike names others) all.links
    each =
        each-weaker (HasEnds all) (IsAlike names others)
        (λ l ends lives. let are = ends lives in ap₂ (λ (c p : ℕ). record l { child = c; parent = p }) (same l.child are.0) (same l.parent are.1)) all.links
        (recursion_from_All (HasEnds all) all.links by.renaming.ends)

pub shows-named : ShowsNamed
shows-named names others all is same =
    ap (λ (xs : List Surface). numbered (record (renamed names all) { surfaces = xs })) (names-those-there names others all is same).surfaces

-- ---- no surfaces, and a new one

pub begins-named : BeginsNamed
begins-named names slots tied stands =
    record { stands = stands; renaming = record { apart = λ a b here there same. absurd (cc); ends = All-nil (HasEnds no_surfaces) } }

-- a number that no surface has is given to it
new-stands : (slots new : Slots) (tied : Tied) (those : Surfaces) (number : ℕ)
    → ((those : Numbered) (id : ℕ) → StandForAll slots those → (those number ≡ None) × StandForAll new (with_at number (Some (new_surface id)) those))
    → Stand slots tied those → Stand new tied (with_new number those)
new-stands slots new tied those number makes stand = record {
  surfaces = λ n. subst (λ (at : Option Surface). StandsAt (kept_at new n) at) (sym (more n ∙ at n (n == number) refl (surface_at n those) refl)) (made.1 n);
  hang = creates-hanging tied those number made.0 stand.hang;
  there = λ n is. ap is_some (more n) ∙ some-or (surface_at n those) (cond (number == n) (Some (new_surface number)) None) (stand.there n is);
}
  where
    made : (surface_at number those ≡ None) × StandForAll new (with_at number (Some (new_surface number)) (numbered those))
    made = makes (numbered those) number stand.surfaces

    more : (n : ℕ) → surface_at n (with_new number those) ≡ option_or (surface_at n those) (cond (number == n) (Some (new_surface number)) None)
    more n = find-append (λ (s : Surface). s.id == n) those.surfaces (new_surface number ∷ [])

    some-or : (o more : Option Surface) → is_some o ≡ true → is_some (option_or o more) ≡ true
    some-or None more e = absurd (cc)
    some-or (Some s) more e = refl

    or-none : (o : Option Surface) → option_or o None ≡ o
    or-none None = refl
    or-none (Some s) = refl

    at : (n : ℕ) (b : Bool) → (n == number) ≡ b → (o : Option Surface) → surface_at n those ≡ o
        → option_or o (cond (number == n) (Some (new_surface number)) None) ≡ cond b (Some (new_surface number)) o
    at n true e (Some s) is = absurd (let both = sym is ∙ (ap (λ m. surface_at m those) (eqb-true n number e) ∙ made.0) in cc)
    at n true e None is = let turned : (number == n) ≡ true = grind (arith, e) in rw turned refl
    at n false e o is = let turned : (number == n) ≡ false = grind (arith, e) in rw turned (or-none o)

pub creates-named : CreatesNamed
creates-named names slots new tied all id number none by makes =
    named-as g new tied (creates-surface g all again.renaming id apart)
    (subst (λ (n : ℕ). Stand new tied (with_new n (renamed g all))) (sym own) (new-stands slots new tied (renamed g all) number makes again.stands))
  where
    g : ℕ → ℕ
    g = with_name id number names

    own : with_name id number names id ≡ number
    own = ap (λ b. cond b number (names id)) (eq-eqb id id refl)

    others : (a : ℕ) (b : Bool) → (a == id) ≡ b → has_surface a all ≡ true → cond b number (names a) ≡ names a
    others a true e there = absurd (let both = sym there ∙ ap is_some (ap (λ n. surface_at n all) (eqb-true a id e) ∙ none) in cc)
    others a false e there = refl

    again : StandBy (with_name id number names) slots tied all
    again = renames-named names (with_name id number names) slots tied all (λ a there. others a (a == id) refl there) by

    apart : (a : ℕ) → has_surface a all ≡ true → with_name id number names a ≡ with_name id number names id → a ≡ id
    apart a there same =
        absurd (let here = there-named (with_name id number names) all again.renaming a there in
        let free = (makes (numbered (renamed (with_name id number names) all)) number again.stands.surfaces).0 in
        let both = sym here ∙ ap is_some (ap (λ n. surface_at n (renamed (with_name id number names) all)) (same ∙ own) ∙ free) in cc)

-- What is kept of surfaces under numbers stands for them by their ids after what is asked of a link that lives, and once a surface is gone.
use Rattle.std.proofs.Common.{◌≡◌, ℕ, ◌==◌, ◌&&◌, ◌||◌, Bool, true, false, cond, not, Option, Some, None, List, [], ◌∷◌, map, refl, ap, sym, subst, ◌∙◌}
use Rattle.std.specs.Prelude.{filter, find, fold, if◌then◌else◌}
use Rattle.std.specs.List.{list_any}
use Rattle.std.specs.Option.{option_map}
use Rattle.std.proofs.lemmas.Bool.{eqb-true}
use Rattle.std.proofs.lemmas.List.Elements.{recursion_from_All}
use Rattle.wl_links.specs.declared.placed.Member.TheVariants as kept
use Rattle.wl_links.specs.Family.{member_of}
use Rattle.wl_surface.specs.declared.role.Role.TheVariants.{Subsurface}
use Rattle.wl_surface.specs.Request.{Child, Itself, Member, Request, SetPosition}
use Rattle.wl_surface.specs.Surface.{asking}
use Rattle.wl_surface.specs.Surfaces.{Link, Surfaces, link_at}
use Rattle.wl_surface.specs.Trees.{ended_in, unlinked}
use Rattle.wl_surface.specs.Hanging.{AreNumbered, kid_of, kids_of}
use Rattle.wl_surface.specs.Stacks.{IsKept, place_request}
use Rattle.wl_surface.proofs.Changing.{or-false}
use Rattle.wl_surface.specs.Linked.{IsLink, Stand}
use Rattle.law_desktop.specs.Renaming.{HasEnds, IsRenaming, has_surface, renamed, renamed_link}
use Rattle.law_desktop.proofs.ByNames.Names.Done.{changes-surface, desynchronises, destroys-surface, heed-no-names, synchronises, unlinks}
use Rattle.law_desktop.proofs.ByNames.Names.Known.{finds-links, known-there}
use Rattle.law_desktop.proofs.ByNames.Names.Lists.{found}
use Rattle.law_desktop.proofs.ByNames.Names.Reading.{same-name}
use Rattle.law_desktop.specs.Named.{DesynchronisesNamed, DestroysNamed, MovesNamed, PlacesBy, PlacesNamed, SynchronisesNamed, StandBy, UnlinksNamed}
use Rattle.law_desktop.proofs.ByNames.Named.{named-as}

-- ---- a link that lives

-- its child and its parent are there
pub ends-there : (names : ℕ → ℕ) (all : Surfaces) → IsRenaming names all → (number : ℕ) (link : Link) → link_at number all ≡ Some link → link.has_ended ≡ false
    → (has_surface link.child all ≡ true) × (has_surface link.parent all ≡ true)
ends-there names all is number link e lives =
    (found (λ (l : Link). l.number == number) (HasEnds all) all.links (recursion_from_All (HasEnds all) all.links is.ends) link e).0 lives

pub link-named : (names : ℕ → ℕ) (all : Surfaces) (number : ℕ) (link : Link) → link_at number all ≡ Some link → link.has_ended ≡ false
    → IsLink (renamed names all) number (names link.child) (renamed_link names link)
link-named names all number link e lives = record { here = finds-links names all number ∙ ap (option_map (renamed_link names)) e; lives = lives; of_child = refl }

pub moves-named : MovesNamed
moves-named names slots new tied after all number link x y e lives by makes =
    named-as names new after
    (changes-surface names all by.renaming link.parent (asking (SetPosition number x y)) (heed-no-names names (SetPosition number x y) Subsurface).0
    (ends-there names all by.renaming number link e lives).1)
    (makes (renamed names all) number (renamed_link names link) (link-named names all number link e lives) by.stands)

-- ---- who stands beside whom

pub kids-named : (names : ℕ → ℕ) (all : Surfaces) (number : ℕ) → kids_of (renamed names all) number ≡ option_map names (kids_of all number)
kids-named names all number = ap kid_of (finds-links names all number) ∙ at (link_at number all)
  where
    living : (l : Link) (b : Bool) → cond b None (Some (names l.child)) ≡ option_map names (cond b None (Some l.child))
    living l true = refl
    living l false = refl

    at : (o : Option Link) → kid_of (option_map (renamed_link names) o) ≡ option_map names (kid_of o)
    at None = refl
    at (Some l) = living l l.has_ended

kept-named : (names : ℕ → ℕ) (all : Surfaces) → IsRenaming names all → (parent sibling : ℕ) → has_surface parent all ≡ true → has_surface sibling all ≡ true → (at : Member)
    → IsKept (kids_of all) at (member_of parent sibling) → IsKept (kids_of (renamed names all)) at (member_of (names parent) (names sibling))
kept-named names all is parent sibling above beside at k =
    subst (λ (b : Bool). IsKept (kids_of (renamed names all)) at (if b then kept.Itself else kept.Child (names sibling)))
    (sym (same-name (known-there names all is) sibling parent beside above)) (by at (sibling == parent) k)
  where
    by : (at : Member) (b : Bool) → IsKept (kids_of all) at (if b then kept.Itself else kept.Child sibling)
        → IsKept (kids_of (renamed names all)) at (if b then kept.Itself else kept.Child (names sibling))
    by Itself true k = tt
    by Itself false k = absurd k
    by (Child l) true k = absurd k
    by (Child l) false k = kids-named names all l ∙ ap (option_map names) k

places-by : (request : ℕ → Member → Request) → PlacesBy request
places-by request names slots new tied after all number sibling link at e lives there is by makes =
    let ends = ends-there names all by.renaming number link e lives in
    named-as names new after
    (changes-surface names all by.renaming link.parent (asking (request number at)) (heed-no-names names (request number at) Subsurface).0 ends.1)
    (makes (renamed names all) number (renamed_link names link) at (link-named names all number link e lives)
    (kept-named names all by.renaming link.parent sibling ends.1 there at is) by.stands)

pub places-named : PlacesNamed
places-named side = places-by (place_request side)

-- ---- modes

pub synchronises-named : SynchronisesNamed
synchronises-named names slots new tied after all number link e lives by makes =
    named-as names new after (synchronises names all by.renaming number)
    (makes (renamed names all) number (renamed_link names link) (link-named names all number link e lives) by.stands)

pub desynchronises-named : DesynchronisesNamed
desynchronises-named names slots new tied after all number link e lives by makes =
    named-as names new after
    (desynchronises names all by.renaming number (λ l f. let both : Option.Some link ≡ Some l = sym e ∙ f in let same : link ≡ l = cc in ap (λ (l : Link). l.has_ended) (sym same) ∙ lives))
    (makes (renamed names all) number (renamed_link names link) (link-named names all number link e lives) by.stands)

-- ---- the end of a link

numbers-named : (names : ℕ → ℕ) (n : ℕ) (ls : List Link) → list_any (λ l. l.number == n) ls ≡ list_any (λ l. l.number == n) (map (renamed_link names) ls)
numbers-named names n [] = refl
numbers-named names n (l ∷ ls) = ap (λ b. l.number == n || b) (numbers-named names n ls)

pub numbered-named : (names : ℕ → ℕ) (ls : List Link) → AreNumbered (map (renamed_link names) ls) → AreNumbered ls
numbered-named names [] apart = tt
numbered-named names (l ∷ ls) apart = (numbers-named names l.number ls ∙ apart.0, numbered-named names ls apart.1)

-- no link has the number, so none that lives has it
pub none-living : (number : ℕ) (ls : List Link) → list_any (λ l. l.number == number) ls ≡ false → filter (λ l. not l.has_ended && l.number == number) ls ≡ []
none-living number [] none = refl
none-living number (l ∷ ls) none =
    let parts = or-false (l.number == number) (list_any (λ l. l.number == number) ls) none in
    rw parts.0 (at l.has_ended (none-living number ls parts.1))
  where
    at : (b : Bool) → filter (λ l. not l.has_ended && l.number == number) ls ≡ []
        → cond (not b && false) (l ∷ filter (λ l. not l.has_ended && l.number == number) ls) (filter (λ l. not l.has_ended && l.number == number) ls) ≡ []
    at true next = next
    at false next = next

one-living : (number : ℕ) (ls : List Link) (link : Link) → AreNumbered ls → find (λ (l : Link). l.number == number) ls ≡ Some link → link.has_ended ≡ false
    → filter (λ l. not l.has_ended && l.number == number) ls ≡ link ∷ []
one-living number [] link apart e lives = absurd (cc)
one-living number (l ∷ ls) link apart e lives = at (l.number == number) refl e (λ f. one-living number ls link apart.1 f lives)
  where
    first : (b : Bool) → b ≡ false → filter (λ l. not l.has_ended && l.number == number) ls ≡ []
        → cond (not b && true) (l ∷ filter (λ l. not l.has_ended && l.number == number) ls) (filter (λ l. not l.has_ended && l.number == number) ls) ≡ l ∷ []
    first true e none = absurd (cc)
    first false e none = ap (λ (ls : List Link). l ∷ ls) none

    behind : (b : Bool) → filter (λ l. not l.has_ended && l.number == number) ls ≡ link ∷ []
        → cond (not b && false) (l ∷ filter (λ l. not l.has_ended && l.number == number) ls) (filter (λ l. not l.has_ended && l.number == number) ls) ≡ link ∷ []
    behind true next = next
    behind false next = next

    at : (b : Bool) → (l.number == number) ≡ b → cond b (Some l) (find (λ (l : Link). l.number == number) ls) ≡ Some link
        → (find (λ (l : Link). l.number == number) ls ≡ Some link → filter (λ l. not l.has_ended && l.number == number) ls ≡ link ∷ [])
        → filter (λ l. not l.has_ended && l.number == number) (l ∷ ls) ≡ link ∷ []
    at true here e next =
        let it : l ≡ link = cc in
        let lives_too : l.has_ended ≡ false = ap (λ (l : Link). l.has_ended) it ∙ lives in
        let none = none-living number ls (ap (λ n. list_any (λ l. l.number == n) ls) (sym (eqb-true l.number number here)) ∙ apart.0) in
        rw here (first l.has_ended lives_too none ∙ ap (λ (l : Link). l ∷ []) it)
    at false here e next = rw here (behind l.has_ended (next e))

-- so the end of those that have it is the end of the one
pub ends-one : (all : Surfaces) (number : ℕ) (link : Link) → AreNumbered all.links → link_at number all ≡ Some link → link.has_ended ≡ false → unlinked number all ≡ ended_in all link
ends-one all number link apart e lives = ap (fold ended_in all) (one-living number all.links link apart e lives)

pub unlinks-named : UnlinksNamed
unlinks-named names slots new tied after all number link e lives by makes =
    let here = link-named names all number link e lives in
    let apart = by.stands.hang.1.apart in
    let own = ends-one all number link (numbered-named names all.links apart) e lives in
    let other = ends-one (renamed names all) number (renamed_link names link) apart here.here lives in (
      subst (λ (x : Surfaces). StandBy names new after x) own
          (named-as names new after (unlinks names all by.renaming number)
          (subst (λ (x : Surfaces). Stand new after x) (sym other) (makes (renamed names all) number (renamed_link names link) here by.stands))),
      own,
    )

-- ---- a surface goes

pub destroys-named : DestroysNamed
destroys-named names slots new tied after all id there by makes =
    named-as names new after (destroys-surface names all by.renaming id there) (makes (renamed names all) by.stands)

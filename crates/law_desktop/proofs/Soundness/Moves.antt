-- What is done to the surfaces of a client revives no link, and leaves each surface that stays with its role.
use Rattle.std.proofs.Common.{◌≡◌, ◌≢◌, ℕ, zero, suc, List, [], ◌∷◌, Bool, true, false, Option, Some, None, cond, fold, refl, ap, sym, ◌∙◌}
use Rattle.std.specs.Prelude.{◌==◌, ◌&&◌, ◌||◌, is_some, find, filter, not}
use Rattle.std.specs.List.{list_any}
use Rattle.std.specs.Option.{option_and_then, option_map}
use Rattle.std.proofs.lemmas.Bool.{and_from, eqb-true, ne_eqb, or_from, or_left, or_right, true≢false}
use Rattle.std.proofs.lemmas.Option.{same_Some}
use Rattle.wl_surface.specs.Request.{Request, Commit}
use Rattle.wl_surface.specs.State.{History}
use Rattle.wl_surface.specs.Surface.{Surface, applying, asking}
use Rattle.wl_surface.specs.Surfaces.{Link, Surfaces, history_in, link_at, surface_at, with_change, without_surface}
use Rattle.wl_surface.specs.Trees.{applied_tree, applied_unless, behaves_synchronised, children_of, committed_in, desynchronised_in, destroyed_in, ended_in, ending, in_mode, levels, links_with}
use Rattle.wl_surface.specs.Trees.{released_in, synchronised_in, with_link}
use Rattle.spec_desktop.specs.Changing.{unlinked_at}
use Rattle.law_desktop.specs.Apart.{AreApartBy}
use Rattle.law_desktop.specs.Soundness.{IsLive}
use Rattle.law_desktop.proofs.Lists.Keys.{apart-map, found-map, found-passes}
use Rattle.law_desktop.proofs.Soundness.Orderly.{KeepsLinks, KeepsTrees, role_in}
use Rattle.law_desktop.proofs.Marks.Stacks.{equal-numbers}
use Rattle.law_desktop.proofs.Lists.Surfaces.{has_id}
use Rattle.law_desktop.proofs.Lists.Surfaces.{changed-found}

-- ---- one surface

kept-there : (f : Surface → Surface) (o : Option Surface) → is_some (option_map f o) ≡ is_some o
kept-there f None = refl
kept-there f (Some s) = refl

kept-role : (f : Surface → Surface) → ((s : Surface) → (f s).role ≡ s.role) → (o : Option Surface)
    → option_and_then (λ (s : Surface). s.role) (option_map f o) ≡ option_and_then (λ (s : Surface). s.role) o
kept-role f keeps None = refl
kept-role f keeps (Some s) = keeps s

kept-requests : (f : Surface → Surface) → ((s : Surface) → (f s).history.requests ≡ s.history.requests) → (o : Option Surface) (h : History)
    → option_map (λ (s : Surface). s.history) (option_map f o) ≡ Some h → (g : History) × (option_map (λ (s : Surface). s.history) o ≡ Some g) × (g.requests ≡ h.requests)
kept-requests f keeps None h e = absurd (cc)
kept-requests f keeps (Some s) h e = (s.history, refl, sym (keeps s) ∙ ap (λ (k : History). k.requests) (same_Some (f s).history h e))

abbrev one : ℕ → (Surface → Surface) → Surface → Surface
one id change s = cond (s.id == id) (change s) s

one-role : (id : ℕ) (change : Surface → Surface) → ((s : Surface) → (change s).role ≡ s.role) → (s : Surface) → (one id change s).role ≡ s.role
one-role id change keeps s = at (s.id == id)
  where
    at : (b : Bool) → (cond b (change s) s).role ≡ s.role
    at true = keeps s
    at false = refl

one-requests : (id : ℕ) (change : Surface → Surface) → ((s : Surface) → (change s).history.requests ≡ s.history.requests) → (s : Surface) → (one id change s).history.requests ≡ s.history.requests
one-requests id change keeps s = at (s.id == id)
  where
    at : (b : Bool) → (cond b (change s) s).history.requests ≡ s.history.requests
    at true = keeps s
    at false = refl

-- ---- all of them

abbrev pub has_number : ℕ → Link → Bool
has_number number l = l.number == number

-- The links that live lived before, each number was one before, and each surface is there as before, with its role, and was asked the same.
pub record Moves (old new : Surfaces) : Type 0 where
  pub links : KeepsLinks old new
  pub there : (id : ℕ) → is_some (surface_at id new) ≡ is_some (surface_at id old)
  pub roles : (id : ℕ) → role_in id new ≡ role_in id old
  pub apart : AreApartBy has_number old.links → AreApartBy has_number new.links
  pub numbers : (number : ℕ) (link : Link) → link_at number new ≡ Some link → (l : Link) × (link_at number old ≡ Some l)
  pub requests : (surface : ℕ) (h : History) → history_in surface new ≡ Some h → (g : History) × (history_in surface old ≡ Some g) × (g.requests ≡ h.requests)

pub moves-trees : (old new : Surfaces) → Moves old new → KeepsTrees old new
moves-trees old new m = record { links = m.links; surfaces = record { there = m.there; roles = m.roles } }

pub moves-none : (all : Surfaces) → Moves all all
moves-none all = record {
  links = λ number link live. (link, live, refl, refl);
  there = λ id. refl;
  roles = λ id. refl;
  apart = λ a. a;
  numbers = λ number link e. (link, e);
  requests = λ surface h e. (h, e, refl);
}

pub links-more : (a b c : Surfaces) → KeepsLinks a b → KeepsLinks b c → KeepsLinks a c
links-more a b c m n number link live =
    let y = n number link live in
    let x = m number y.0 y.1 in
    (x.0, x.1, x.2 ∙ y.2, x.3 ∙ y.3)

pub trees-more : (a b c : Surfaces) → KeepsTrees a b → KeepsTrees b c → KeepsTrees a c
trees-more a b c m n = record {
  links = links-more a b c m.links n.links;
  surfaces = record { there = λ id. n.surfaces.there id ∙ m.surfaces.there id; roles = λ id. n.surfaces.roles id ∙ m.surfaces.roles id };
}

pub moves-more : (a b c : Surfaces) → Moves a b → Moves b c → Moves a c
moves-more a b c m n = record {
  links = links-more a b c m.links n.links;
  there = λ id. n.there id ∙ m.there id;
  roles = λ id. n.roles id ∙ m.roles id;
  apart = λ e. n.apart (m.apart e);
  numbers = λ number link e. let y = n.numbers number link e in m.numbers number y.0 y.1;
  requests = λ surface h e. let y = n.requests surface h e in let x = m.requests surface y.0 y.1 in (x.0, x.1, x.2 ∙ y.2);
}

pub moves-fold : {X : Type 0} (f : Surfaces → X → Surfaces) → ((done : Surfaces) (x : X) → Moves done (f done x)) → (xs : List X) (all : Surfaces) → Moves all (fold f all xs)
moves-fold f each [] all = moves-none all
moves-fold f each (x ∷ xs) all = moves-more all (f all x) (fold f (f all x) xs) (each all x) (moves-fold f each xs (f all x))

-- ---- a surface changes

pub same-links : (all new : Surfaces) → new.links ≡ all.links → KeepsLinks all new
same-links all new same number link live = (link, record { here = sym (ap (find (has_number number)) same) ∙ live.here; lives = live.lives }, refl, refl)

module _ (id : ℕ) (change : Surface → Surface) (ids : (s : Surface) → (change s).id ≡ s.id) (all : Surfaces) where
  -- where it is asked the same
  pub requests-changed : ((s : Surface) → (change s).history.requests ≡ s.history.requests) → (surface : ℕ) (h : History) → history_in surface (with_change id change all) ≡ Some h → (g : History)
      × (history_in surface all ≡ Some g) × (g.requests ≡ h.requests)
  requests-changed keeps surface h e =
      kept-requests (one id change) (one-requests id change keeps) (surface_at surface all) h (sym (ap (option_map (λ (s : Surface). s.history)) (changed-found id change ids all surface)) ∙ e)

module _ (id : ℕ) (change : Surface → Surface) (ids : (s : Surface) → (change s).id ≡ s.id) (roles : (s : Surface) → (change s).role ≡ s.role) (all : Surfaces) where
  change-there : (other : ℕ) → is_some (surface_at other (with_change id change all)) ≡ is_some (surface_at other all)
  change-there other = ap is_some (changed-found id change ids all other) ∙ kept-there (one id change) (surface_at other all)

  change-roles : (other : ℕ) → role_in other (with_change id change all) ≡ role_in other all
  change-roles other = ap (option_and_then (λ (s : Surface). s.role)) (changed-found id change ids all other) ∙ kept-role (one id change) (one-role id change roles) (surface_at other all)

  pub trees-changed : KeepsTrees all (with_change id change all)
  trees-changed = record { links = same-links all (with_change id change all) refl; surfaces = record { there = change-there; roles = change-roles } }

  pub moves-changed : ((s : Surface) → (change s).history.requests ≡ s.history.requests) → Moves all (with_change id change all)
  moves-changed keeps = record {
    links = same-links all (with_change id change all) refl;
    there = change-there;
    roles = change-roles;
    apart = λ a. a;
    numbers = λ number link e. (link, e);
    requests = requests-changed id change ids all keeps;
  }

pub trees-asked : (surface : ℕ) (request : Request) (all : Surfaces) → KeepsTrees all (with_change surface (asking request) all)
trees-asked surface request all = trees-changed surface (asking request) (λ s. refl) (λ s. refl) all

-- ---- a link changes

abbrev one_link : ℕ → (Link → Link) → Link → Link
one_link number change l = cond (l.number == number) (change l) l

-- a change of a link that leaves its number and its ends, and revives none
pub record Leaves (change : Link → Link) : Type 0 where
  pub number : (l : Link) → (change l).number ≡ l.number
  pub child : (l : Link) → (change l).child ≡ l.child
  pub parent : (l : Link) → (change l).parent ≡ l.parent
  pub lives : (l : Link) → (change l).has_ended ≡ false → l.has_ended ≡ false

pub leaves-one : (number : ℕ) (change : Link → Link) → Leaves change → Leaves (one_link number change)
leaves-one number change is = record {
  number = λ l. numbered l (l.number == number);
  child = λ l. of-child l (l.number == number);
  parent = λ l. of-parent l (l.number == number);
  lives = λ l. lived l (l.number == number);
}
  where
    numbered : (l : Link) (b : Bool) → (cond b (change l) l).number ≡ l.number
    numbered l true = is.number l
    numbered l false = refl

    of-child : (l : Link) (b : Bool) → (cond b (change l) l).child ≡ l.child
    of-child l true = is.child l
    of-child l false = refl

    of-parent : (l : Link) (b : Bool) → (cond b (change l) l).parent ≡ l.parent
    of-parent l true = is.parent l
    of-parent l false = refl

    lived : (l : Link) (b : Bool) → (cond b (change l) l).has_ended ≡ false → l.has_ended ≡ false
    lived l true e = is.lives l e
    lived l false e = e

link-kept : (f : Link → Link) → Leaves f → (number : ℕ) (link : Link) (all : Surfaces) (o : Option Link) → link_at number all ≡ o → option_map f o ≡ Some link → link.has_ended ≡ false → (l : Link)
    × IsLive number l all × (l.child ≡ link.child) × (l.parent ≡ link.parent)
link-kept f is number link all None found e lives = absurd (cc)
link-kept f is number link all (Some l) found e lives =
    let same = same_Some (f l) link e in (
      l,
      record { here = found; lives = is.lives l (ap (λ (k : Link). k.has_ended) same ∙ lives) },
      sym (is.child l) ∙ ap (λ (k : Link). k.child) same,
      sym (is.parent l) ∙ ap (λ (k : Link). k.parent) same,
    )

link-there : (f : Link → Link) (link : Link) (o : Option Link) → option_map f o ≡ Some link → (l : Link) × (o ≡ Some l)
link-there f link None e = absurd (cc)
link-there f link (Some l) e = (l, refl)

module _ (number : ℕ) (change : Link → Link) (is : Leaves change) (all : Surfaces) where
  pub link-found : (other : ℕ) → link_at other (with_link number change all) ≡ option_map (one_link number change) (link_at other all)
  link-found other = found-map (has_number other) (one_link number change) all.links (λ l. ap (λ n. n == other) ((leaves-one number change is).number l))

  pub moves-linked : Moves all (with_link number change all)
  moves-linked = record {
    links = λ other link live. link-kept (one_link number change) (leaves-one number change is) other link all (link_at other all) refl (sym (link-found other) ∙ live.here) live.lives;
    there = λ id. refl;
    roles = λ id. refl;
    apart = apart-map has_number (one_link number change) all.links (λ key l. ap (λ n. n == key) ((leaves-one number change is).number l));
    numbers = λ other link e. link-there (one_link number change) link (link_at other all) (sym (link-found other) ∙ e);
    requests = λ surface h e. (h, e, refl);
  }

leaves-mode : (synchronised : Bool) → Leaves (in_mode synchronised)
leaves-mode synchronised = record { number = λ l. refl; child = λ l. refl; parent = λ l. refl; lives = λ l e. e }

leaves-ending : Leaves ending
leaves-ending = record { number = λ l. refl; child = λ l. refl; parent = λ l. refl; lives = λ l e. absurd (true≢false e) }

-- ---- a tree is applied

pub moves-applied : (n surface : ℕ) (all : Surfaces) → Moves all (applied_tree n surface all)
unfolding applied_tree
moves-applied zero surface all = moves-none all
moves-applied (suc n) surface all =
    moves-more all (with_change surface applying all) (applied_tree (suc n) surface all)
    (moves-changed surface applying (λ s. refl) (λ s. refl) all (λ s. refl))
    (moves-fold (λ done child. applied_tree n child done) (λ done child. moves-applied n child done) (children_of surface all) (with_change surface applying all))

pub moves-unless : (b : Bool) (surface : ℕ) (all : Surfaces) → Moves all (applied_unless b surface all)
moves-unless true surface all = moves-none all
moves-unless false surface all = moves-applied levels surface all

abbrev pub is_held : ℕ → Surfaces → Bool
is_held surface all = behaves_synchronised levels all surface

-- what is asked by a commit, and then applied
pub moves-committed : (surface : ℕ) (all : Surfaces) → Moves (with_change surface (asking Commit) all) (committed_in surface all)
moves-committed surface all = moves-unless (is_held surface all) surface (with_change surface (asking Commit) all)

pub trees-committed : (surface : ℕ) (all : Surfaces) → KeepsTrees all (committed_in surface all)
trees-committed surface all =
    let mid = with_change surface (asking Commit) all in
    trees-more all mid (committed_in surface all) (trees-asked surface Commit all) (moves-trees mid (committed_in surface all) (moves-committed surface all))

pub moves-synchronised : (number : ℕ) (all : Surfaces) → Moves all (synchronised_in number all)
moves-synchronised number all = moves-linked number (in_mode true) (leaves-mode true) all

pub trees-synchronised : (number : ℕ) (all : Surfaces) → KeepsTrees all (synchronised_in number all)
trees-synchronised number all = moves-trees all (synchronised_in number all) (moves-synchronised number all)

moves-released : (o : Option Link) (old new : Surfaces) → Moves new (released_in o old new)
moves-released None old new = moves-none new
moves-released (Some l) old new = moves-unless (not (is_held l.child old) || is_held l.child new) l.child new

pub moves-desynchronised : (number : ℕ) (all : Surfaces) → Moves all (desynchronised_in number all)
moves-desynchronised number all =
    let mid = with_link number (in_mode false) all in
    moves-more all mid (desynchronised_in number all) (moves-linked number (in_mode false) (leaves-mode false) all) (moves-released (link_at number all) all mid)

pub trees-desynchronised : (number : ℕ) (all : Surfaces) → KeepsTrees all (desynchronised_in number all)
trees-desynchronised number all = moves-trees all (desynchronised_in number all) (moves-desynchronised number all)

-- ---- links end

pub moves-ended : (all : Surfaces) (l : Link) → Moves all (ended_in all l)
moves-ended all l =
    let mid = with_link l.number ending all in
    moves-more all mid (ended_in all l) (moves-linked l.number ending leaves-ending all) (moves-applied levels l.child mid)

pub moves-all-ended : (ls : List Link) (all : Surfaces) → Moves all (fold ended_in all ls)
moves-all-ended ls all = moves-fold ended_in moves-ended ls all

pub moves-unlinked : (link : Option ℕ) (all : Surfaces) → Moves all (unlinked_at link all)
moves-unlinked None all = moves-none all
moves-unlinked (Some number) all = moves-all-ended (filter (λ l. not l.has_ended && l.number == number) all.links) all

pub trees-unlinked : (link : Option ℕ) (all : Surfaces) → KeepsTrees all (unlinked_at link all)
trees-unlinked link all = moves-trees all (unlinked_at link all) (moves-unlinked link all)

-- ---- which links live then

ended-apart : (x : Link) (n : ℕ) (link : Link) (all : Surfaces) → IsLive n link (with_link x.number ending all) → (x.number == n) ≡ false
ended-apart x n link all live = at (x.number == n) refl
  where
    never : x.number ≡ n → (o : Option Link) → link_at n all ≡ o → option_map (one_link x.number ending) o ≡ Some link → ⊥
    never same None found e = absurd (cc)
    never same (Some l) found e =
        let is : l.number ≡ n = eqb-true l.number n (found-passes (has_number n) all.links l found) in
        let ended : (one_link x.number ending l).has_ended ≡ true = ap (λ b. (cond b (ending l) l).has_ended) (equal-numbers l.number x.number (is ∙ sym same)) in
        true≢false (sym ended ∙ ap (λ (k : Link). k.has_ended) (same_Some (one_link x.number ending l) link e) ∙ live.lives)

    at : (b : Bool) → (x.number == n) ≡ b → b ≡ false
    at true e = absurd (never (eqb-true x.number n e) (link_at n all) refl (sym (link-found x.number ending leaves-ending all n) ∙ live.here))
    at false e = refl

-- what lives after some ended is none of these
pub ended-live : (xs : List Link) (n : ℕ) (link : Link) (all : Surfaces) → IsLive n link (fold ended_in all xs) → list_any (λ x. x.number == n) xs ≡ false
ended-live [] n link all live = refl
ended-live (x ∷ xs) n link all live =
    let next = ended_in all x in
    let mid = with_link x.number ending all in
    let later = (moves-all-ended xs next).links n link live in
    let first = (moves-applied levels x.child mid).links n later.0 later.1 in
    or_from (x.number == n) (list_any (λ x. x.number == n) xs) (ended-apart x n first.0 all first.1) (ended-live xs n link next live)

-- what passes is left
filter-other : {X : Type 0} (p q : X → Bool) → ((x : X) → p x ≡ true → q x ≡ true) → (xs : List X) → find p (filter q xs) ≡ find p xs
filter-other p q keeps [] = refl
filter-other p q keeps (x ∷ xs) = at (p x) (q x) refl refl (filter-other p q keeps xs)
  where
    at : (a b : Bool) → p x ≡ a → q x ≡ b → find p (filter q xs) ≡ find p xs → find p (cond b (x ∷ filter q xs) (filter q xs)) ≡ cond a (Some x) (find p xs)
    at true true e f rest = ap (λ c. cond c (Some x) (find p (filter q xs))) e
    at false true e f rest = ap (λ c. cond c (Some x) (find p (filter q xs))) e ∙ rest
    at true false e f rest = absurd (true≢false (sym (keeps x e) ∙ f))
    at false false e f rest = rest

left-there : {X : Type 0} (p q : X → Bool) (xs : List X) (x : X) → find p xs ≡ Some x → q x ≡ true → list_any p (filter q xs) ≡ true
left-there p q [] x found is = absurd (cc)
left-there p q (y ∷ ys) x found is = at (p y) (q y) refl refl found (λ e. left-there p q ys x e is)
  where
    at : (a b : Bool) → p y ≡ a → q y ≡ b → cond a (Some y) (find p ys) ≡ Some x → (find p ys ≡ Some x → list_any p (filter q ys) ≡ true) → list_any p (cond b (y ∷ filter q ys) (filter q ys)) ≡ true
    at true true e f g rest = or_left (p y) (list_any p (filter q ys)) e
    at true false e f g rest = absurd (true≢false (sym is ∙ ap q (sym (same_Some y x g)) ∙ f))
    at false true e f g rest = or_right (p y) (list_any p (filter q ys)) (rest g)
    at false false e f g rest = rest g

-- none lives that was to end
never-ended : (q : Link → Bool) (n : ℕ) (link l : Link) (all : Surfaces) → IsLive n link (fold ended_in all (filter q all.links)) → link_at n all ≡ Some l → q l ≡ true → ⊥
never-ended q n link l all live found is = true≢false (sym (left-there (has_number n) q all.links l found is) ∙ ended-live (filter q all.links) n link all live)

lives-and : (a b : Bool) → a ≡ false → b ≡ true → (not a && b) ≡ true
lives-and a b e f = and_from (not a) b (ap (λ c. not c) e) f

pub unlinked-live : (gone : Option ℕ) (n : ℕ) (link : Link) (all : Surfaces) → AreApartBy (λ number l. l.number == number) all.links → IsLive n link (unlinked_at gone all) → Some n ≢ gone
unlinked-live None n link all apart live same = absurd (cc)
unlinked-live (Some number) n link all apart live same =
    let old = (moves-unlinked (Some number) all).links n link live in
    let is : old.0.number ≡ n = eqb-true old.0.number n (found-passes (has_number n) all.links old.0 old.1.here) in
    never-ended (λ l. not l.has_ended && l.number == number) n link old.0 all live old.1.here
    (lives-and old.0.has_ended (old.0.number == number) old.1.lives (equal-numbers old.0.number number (is ∙ same_Some n number same)))

-- ---- a surface goes

pub moves-those : (surface : ℕ) (all : Surfaces) → Moves all (fold ended_in all (links_with surface all))
moves-those surface all = moves-all-ended (links_with surface all) all

pub links-destroyed : (surface : ℕ) (all : Surfaces) → KeepsLinks all (destroyed_in surface all)
links-destroyed surface all number link live = (moves-those surface all).links number link (record { here = live.here; lives = live.lives })

pub destroyed-live : (surface n : ℕ) (link : Link) (all : Surfaces) → AreApartBy (λ number l. l.number == number) all.links → IsLive n link (destroyed_in surface all) → (link.child ≢ surface)
    × (link.parent ≢ surface)
destroyed-live surface n link all apart live = (
  λ e. never (or_left (old.0.child == surface) (old.0.parent == surface) (equal-numbers old.0.child surface (old.2 ∙ e))),
  λ e. never (or_right (old.0.child == surface) (old.0.parent == surface) (equal-numbers old.0.parent surface (old.3 ∙ e))),
)
  where
    now : IsLive n link (fold ended_in all (links_with surface all))
    now = record { here = live.here; lives = live.lives }

    old : (l : Link) × IsLive n l all × (l.child ≡ link.child) × (l.parent ≡ link.parent)
    old = (moves-those surface all).links n link now

    never : (old.0.child == surface || old.0.parent == surface) ≡ true → ⊥
    never is =
        never-ended (λ l. not l.has_ended && (l.child == surface || l.parent == surface)) n link old.0 all now old.1.here
        (lives-and old.0.has_ended (old.0.child == surface || old.0.parent == surface) old.1.lives is)

-- another surface is left
pub found-left : (surface id : ℕ) (all : Surfaces) → id ≢ surface → surface_at id (without_surface surface all) ≡ surface_at id all
found-left surface id all other =
    filter-other (has_id id) (λ s. not (s.id == surface)) (λ s is. ap (λ b. not b) (ne_eqb s.id surface (λ e. other (sym (eqb-true s.id id is) ∙ e)))) all.surfaces

pub destroyed-role : (surface id : ℕ) (all : Surfaces) → id ≢ surface → role_in id (destroyed_in surface all) ≡ role_in id all
destroyed-role surface id all other =
    ap (option_and_then (λ (s : Surface). s.role)) (found-left surface id (fold ended_in all (links_with surface all)) other) ∙ (moves-those surface all).roles id

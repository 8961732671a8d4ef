-- What is kept of how surfaces hang together, after links come, end or change their mode.
use Rattle.std.proofs.Common.{◌≡◌, ℕ, ◌||◌, ◌&&◌, ◌==◌, Bool, true, false, cond, Option, Some, None, List, [], ◌∷◌, map, take, drop, refl, ap, sym, ◌∙◌, arith, eq-eqb}
use Rattle.std.specs.Prelude.{find, fold, not, if◌then◌else◌}
use Rattle.std.specs.List.{list_any}
use Rattle.std.specs.Option.{option_map}
use Rattle.std.proofs.lemmas.Bool.{eqb-true}
use Rattle.std.proofs.lemmas.List.{take-append-drop}
use Rattle.std.proofs.lemmas.List.Folds.{list_any-append}
use Rattle.std.proofs.lemmas.List.Sums.{fold-append}
use Rattle.std.proofs.Math.Path.{fun_ext}
use Rattle.wl_links.specs.Stacks.{removed}
use Rattle.wl_links.specs.Family.{in_mode, links_in, stacks_in}
use Rattle.wl_surface.specs.Request.{AddChild, Child, Itself, Member, PlaceAbove, PlaceBelow, Request}
use Rattle.wl_surface.specs.State.{History, above, below, committed as committed_at, is_member, order, ordered, placed, without}
use Rattle.wl_surface.specs.Surfaces.{Link, Surfaces, history_in, link_at}
use Rattle.wl_surface.specs.Trees.{ending, in_mode as with_mode, link_of, with_link}
use Rattle.wl_surface.specs.Hanging.{AreNumbered, AreTied, EndsLink, SetsMode, kid_of, kids_of, stacks_at, stacks_by}
use Rattle.wl_surface.specs.TreeLaws.{AreOnceLinked, is_live_of, links_of}
use Rattle.wl_surface.specs.Stacks.{Kids, has_child, with_kid}
use Rattle.wl_surface.proofs.Changing.{KeepsLink, both-false, changed-child, changed-number, each-tied, keeps-where, none-live, or-false}
use Rattle.wl_surface.proofs.Hanging.{same-stacks}
use Rattle.wl_surface.proofs.Placing.{any-above, any-below, any-without, apart-kids, kept-link, kept_of, kid-is, live-found, no-live, numbered, parent-pointwise}
use Rattle.wl_surface.proofs.Stacking.{follow-lose, follow-others}

-- ---- one link changes

-- by their numbers
at-changed : (n k : ℕ) (f : Link → Link) → ((l : Link) → (f l).number ≡ l.number) → (ls : List Link)
    → find (λ (l : Link). l.number == n) (map (λ l. cond (l.number == k) (f l) l) ls) ≡ option_map (λ l. cond (n == k) (f l) l) (find (λ (l : Link). l.number == n) ls)
at-changed n k f same [] = refl
at-changed n k f same (x ∷ xs) = at (x.number == n) refl (at-changed n k f same xs)
  where
    at : (b : Bool) → (x.number == n) ≡ b
        → find (λ (l : Link). l.number == n) (map (λ l. cond (l.number == k) (f l) l) xs) ≡ option_map (λ l. cond (n == k) (f l) l) (find (λ (l : Link). l.number == n) xs)
        → find (λ (l : Link). l.number == n) (map (λ l. cond (l.number == k) (f l) l) (x ∷ xs)) ≡ option_map (λ l. cond (n == k) (f l) l) (find (λ (l : Link). l.number == n) (x ∷ xs))
    at true e next =
        let here = ap (λ m. m == n) (changed-number (x.number == k) f x (same x)) ∙ e in
        rw (here, e) (ap (λ m. Some (cond (m == k) (f x) x)) (eqb-true x.number n e))
    at false e next =
        let here = ap (λ m. m == n) (changed-number (x.number == k) f x (same x)) ∙ e in
        rw (here, e) next

link-tied : (all : Surfaces) (k : ℕ) (f : Link → Link) → KeepsLink f → AreTied all → AreTied (with_link k f all)
link-tied all k f keeps tied = each-tied (λ l. cond (l.number == k) (f l) l) (keeps-where (λ l. l.number == k) f keeps) all tied

-- ---- the links that live, where one changes

-- An ended link stays ended, and a living one alive.
live-changed : (c k : ℕ) (f : Link → Link) → KeepsLink f → ((l : Link) → (f l).has_ended ≡ l.has_ended) → (ls : List Link)
    → find (is_live_of c) (map (λ l. cond (l.number == k) (f l) l) ls) ≡ option_map (λ l. cond (l.number == k) (f l) l) (find (is_live_of c) ls)
live-changed c k f keeps lives [] = refl
live-changed c k f keeps lives (x ∷ xs) = at (is_live_of c x) refl (live-changed c k f keeps lives xs)
  where
    ended-same : (b : Bool) → (cond b (f x) x).has_ended ≡ x.has_ended
    ended-same true = lives x
    ended-same false = refl

    is-same : (a b : Bool) (m n : ℕ) → a ≡ b → m ≡ n → (not a && m == c) ≡ (not b && n == c)
    is-same a b m n e g = rw (e, g) refl

    now : is_live_of c (cond (x.number == k) (f x) x) ≡ is_live_of c x
    now = is-same _ _ _ _ (ended-same (x.number == k)) (changed-child (x.number == k) f x keeps)

    at : (b : Bool) → is_live_of c x ≡ b
        → find (is_live_of c) (map (λ l. cond (l.number == k) (f l) l) xs) ≡ option_map (λ l. cond (l.number == k) (f l) l) (find (is_live_of c) xs)
        → find (is_live_of c) (map (λ l. cond (l.number == k) (f l) l) (x ∷ xs)) ≡ option_map (λ l. cond (l.number == k) (f l) l) (find (is_live_of c) (x ∷ xs))
    at true e next = let here = now ∙ e in rw (here, e) refl
    at false e next = let here = now ∙ e in rw (here, e) next

no-number : (k : ℕ) (ls : List Link) (p : Link → Bool) (l : Link) → list_any (λ l. l.number == k) ls ≡ false → find p ls ≡ Some l → (l.number == k) ≡ false
no-number k [] p l none e = absurd (cc)
no-number k (x ∷ xs) p l none e = at (p x) e (or-false (x.number == k) _ none) (no-number k xs p l)
  where
    at : (b : Bool) → cond b (Some x) (find p xs) ≡ Some l → ((x.number == k) ≡ false) × (list_any (λ l. l.number == k) xs ≡ false)
        → (list_any (λ l. l.number == k) xs ≡ false → find p xs ≡ Some l → (l.number == k) ≡ false) → (l.number == k) ≡ false
    at true e parts next = let it : x ≡ l = cc in ap (λ (l : Link). l.number == k) (sym it) ∙ parts.0
    at false e parts next = next parts.1 e

-- A link that is found in another way is found by its number.
number-found : (p : Link → Bool) (ls : List Link) (l : Link) → AreNumbered ls → find p ls ≡ Some l → find (λ (k : Link). k.number == l.number) ls ≡ Some l
number-found p [] l apart e = absurd (cc)
number-found p (x ∷ xs) l apart e = at (p x) e (number-found p xs l apart.1)
  where
    at : (b : Bool) → cond b (Some x) (find p xs) ≡ Some l → (find p xs ≡ Some l → find (λ (k : Link). k.number == l.number) xs ≡ Some l)
        → find (λ (k : Link). k.number == l.number) (x ∷ xs) ≡ Some l
    at true e next = let it : x ≡ l = cc in let same : (x.number == l.number) ≡ true = eq-eqb x.number l.number (ap (λ (l : Link). l.number) it) in rw same (ap (λ (l : Link). Some l) it)
    at false e next =
        let other = no-number x.number xs p l apart.0 e in
        let turned : (x.number == l.number) ≡ false = grind (arith, other) in
        rw turned (next e)

-- A living link is of the child by which it is found.
pub live-child : (c : ℕ) (ls : List Link) (l : Link) → find (is_live_of c) ls ≡ Some l → (l.child == c) ≡ true
live-child c [] l e = absurd (cc)
live-child c (x ∷ xs) l e = at (is_live_of c x) refl e (live-child c xs l)
  where
    second : (ended same : Bool) → (not ended && same) ≡ true → same ≡ true
    second false same e = e
    second true same e = absurd (cc)

    at : (b : Bool) → is_live_of c x ≡ b → cond b (Some x) (find (is_live_of c) xs) ≡ Some l → (find (is_live_of c) xs ≡ Some l → (l.child == c) ≡ true) → (l.child == c) ≡ true
    at true f e next = let it : x ≡ l = cc in ap (λ (l : Link). l.child == c) (sym it) ∙ second x.has_ended (x.child == c) f
    at false f e next = next e

-- ---- modes

keeps-mode : (synchronised : Bool) → KeepsLink (with_mode synchronised)
keeps-mode synchronised = record { number = λ l. refl; child = λ l. refl; parent = λ l. refl; ended = λ l e. e }

same-kids-mode : (synchronised b : Bool) (o : Option Link) → kid_of (option_map (λ l. cond b (with_mode synchronised l) l) o) ≡ kid_of o
same-kids-mode synchronised b None = refl
same-kids-mode synchronised true (Some l) = refl
same-kids-mode synchronised false (Some l) = refl

kids-mode : (all : Surfaces) (number : ℕ) (synchronised : Bool) → kids_of (with_link number (with_mode synchronised) all) ≡ kids_of all
kids-mode all number synchronised =
    fun_ext (λ l. ap kid_of (at-changed l number (with_mode synchronised) (λ l. refl) all.links) ∙ same-kids-mode synchronised (l == number) (link_at l all))

pub sets-mode : SetsMode
sets-mode old new all number link synchronised there lives links stacks hang = (
  record {
    links = λ c. ap (λ book. book c) links ∙ (at c (c == link.child) refl ∙ ap (option_map kept_of) (sym (live-changed c number f (keeps-mode synchronised) (λ l. refl) all.links)));
    stacks = λ n. ap (λ all. all n) stacks ∙ (hang.0.stacks n ∙ ap (λ kids. stacks_at kids (history_in n all)) (sym (kids-mode all number synchronised)));
  },
  link-tied all number f (keeps-mode synchronised) hang.1,
)
  where
    f : Link → Link
    f = with_mode synchronised

    other : (c : ℕ) (o : Option Link) → link_of c all ≡ o → (c == link.child) ≡ false
        → option_map kept_of o ≡ option_map kept_of (option_map (λ l. cond (l.number == number) (with_mode synchronised l) l) o)
    other c None e apart = refl
    other c (Some l) e apart = here (l.number == number) refl
      where
        here : (b : Bool) → (l.number == number) ≡ b → Option.Some (kept_of l) ≡ Some (kept_of (cond b (with_mode synchronised l) l))
        here false g = refl
        here true g =
            absurd (let found = number-found (is_live_of c) all.links l hang.1.apart e in
            let first : link_at number all ≡ Some l = ap (λ n. link_at n all) (sym (eqb-true l.number number g)) ∙ found in
            let both : Option.Some link ≡ Some l = sym there ∙ first in
            let same : link ≡ l = cc in
            let is = live-child c all.links l e in
            let child : c ≡ link.child = sym (ap (λ (l : Link). l.child) same ∙ eqb-true l.child c is) in
            let yes = eq-eqb c link.child child in
            let clash = sym yes ∙ apart in cc)

    at : (c : ℕ) (b : Bool) → (c == link.child) ≡ b
        → (if b then option_map (in_mode synchronised) (links_in old link.child) else links_in old c)
        ≡ option_map kept_of (option_map (λ l. cond (l.number == number) (with_mode synchronised l) l) (link_of c all))
    at c true e =
        let child = eqb-true c link.child e in
        let found : link_of c all ≡ Some link = ap (λ c. link_of c all) child ∙ live-found number all.links link hang.1.once there lives in
        let is_it : (link.number == number) ≡ true = eq-eqb link.number number (numbered number all.links link there) in
        rw (found, is_it) (ap (option_map (in_mode synchronised)) (kept-link old all number link hang there lives))
    at c false e = hang.0.links c ∙ other c (link_of c all) refl e

-- ---- orders never lose who stands in them

grows-beside : (l k : ℕ) (at : Member) (ms : List Member) (beside : Member → Member → List Member → List Member)
    → ((q : Member → Bool) (c at : Member) (ms : List Member) → list_any (is_member at) ms ≡ true → list_any q (beside c at ms) ≡ (q c || list_any q ms))
    → list_any (is_member (Child l)) (placed beside k at ms) ≡ false → list_any (is_member (Child l)) ms ≡ false
grows-beside l k at ms beside besides none = here (list_any (is_member at) (without (Child k) ms)) refl none
  where
    here : (b : Bool) → list_any (is_member at) (without (Child k) ms) ≡ b
        → list_any (is_member (Child l)) (if b then beside (Child k) at (without (Child k) ms) else ms) ≡ false → list_any (is_member (Child l)) ms ≡ false
    here true e none =
        let both = sym (besides (is_member (Child l)) (Child k) at (without (Child k) ms) e ∙ any-without (is_member (Child l)) (Child k) ms) ∙ none in
        (or-false (is_member (Child l) (Child k)) (list_any (is_member (Child l)) ms) both).1
    here false e none = none

grows : (l : ℕ) (ms : List Member) (r : Request) → list_any (is_member (Child l)) (ordered ms r) ≡ false → list_any (is_member (Child l)) ms ≡ false
grows l ms (AddChild k) none =
    (or-false (list_any (is_member (Child l)) ms) _ (sym (list_any-append (is_member (Child l)) ms (Child k ∷ [])) ∙ none)).0
grows l ms (PlaceAbove k at) none = grows-beside l k at ms above any-above none
grows l ms (PlaceBelow k at) none = grows-beside l k at ms below any-below none
grows l ms r none = none

grows-all : (l : ℕ) (ms : List Member) (rs : List Request) → list_any (is_member (Child l)) (fold ordered ms rs) ≡ false → list_any (is_member (Child l)) ms ≡ false
grows-all l ms [] none = none
grows-all l ms (r ∷ rs) none = grows l ms r (grows-all l (ordered ms r) rs none)

-- A child that isn't there at the end never was.
pub never-there : (l n : ℕ) (rs : List Request) → has_child l rs ≡ false → has_child l (take n rs) ≡ false
never-there l n rs none =
    let whole : fold ordered (order (take n rs)) (drop n rs) ≡ order rs = sym (fold-append ordered (Itself ∷ []) (take n rs) (drop n rs)) ∙ ap order (take-append-drop n rs) in
    grows-all l (order (take n rs)) (drop n rs) (ap (list_any (is_member (Child l))) whole ∙ none)

-- ---- the stacks of surfaces that a link is nothing to

pub stacks-others : (kids : Kids) (h : History) (l : ℕ) (child : Option ℕ) → has_child l h.requests ≡ false → stacks_by (with_kid l child kids) h ≡ stacks_by kids h
stacks-others kids h l child none =
    same-stacks (follow-others kids h.requests l child none)
    (follow-others kids (take (committed_at h.requests) h.requests) l child (never-there l (committed_at h.requests) h.requests none))
    (follow-others kids (take h.cut h.requests) l child (never-there l h.cut h.requests none))

-- ---- the end of a link

pub keeps-ending : KeepsLink ending
keeps-ending = record { number = λ l. refl; child = λ l. refl; parent = λ l. refl; ended = λ l e. refl }

kids-ending : (all : Surfaces) (number : ℕ) → kids_of (with_link number ending all) ≡ with_kid number None (kids_of all)
kids-ending all number = fun_ext (λ l. ap kid_of (at-changed l number ending (λ l. refl) all.links) ∙ at (l == number) (link_at l all))
  where
    at : (b : Bool) (o : Option Link) → kid_of (option_map (λ l. cond b (ending l) l) o) ≡ cond b None (kid_of o)
    at true None = refl
    at true (Some l) = refl
    at false None = refl
    at false (Some l) = refl

pub none-found : (p : Link → Bool) (ls : List Link) → list_any p ls ≡ false → find p ls ≡ None
none-found p [] none = refl
none-found p (x ∷ xs) none = let parts = or-false (p x) (list_any p xs) none in rw parts.0 (none-found p xs parts.1)

-- Nothing changes if no link has the number.
pub none-changed : (k : ℕ) (f : Link → Link) (ls : List Link) → list_any (λ l. l.number == k) ls ≡ false → map (λ l. cond (l.number == k) (f l) l) ls ≡ ls
none-changed k f [] none = refl
none-changed k f (x ∷ xs) none =
    let parts = or-false (x.number == k) (list_any (λ l. l.number == k) xs) none in rw parts.0 (ap (λ ls. x ∷ ls) (none-changed k f xs parts.1))

ended-none : (number : ℕ) (ls : List Link) (link : Link) → AreOnceLinked ls → find (λ (l : Link). l.number == number) ls ≡ Some link → link.has_ended ≡ false
    → list_any (is_live_of link.child) (map (λ l. cond (l.number == number) (ending l) l) ls) ≡ false
ended-none number [] link once there lives = absurd (cc)
ended-none number (x ∷ xs) link once there lives = at (x.number == number) refl there (ended-none number xs link once.1)
  where
    is-live : (ended same : Bool) → x.has_ended ≡ ended → (x.child == link.child) ≡ same → find (λ (l : Link). l.number == number) xs ≡ Some link
        → is_live_of link.child x ≡ false
    is-live true same e f found = rw e refl
    is-live false false e f found = rw (e, f) refl
    is-live false true e f found =
        absurd (no-live link.child xs link (ap (λ c. list_any (is_live_of c) xs) (sym (eqb-true x.child link.child f)) ∙ once.0 e)
        (live-found number xs link once.1 found lives))

    at : (b : Bool) → (x.number == number) ≡ b → cond b (Some x) (find (λ (l : Link). l.number == number) xs) ≡ Some link
        → (find (λ (l : Link). l.number == number) xs ≡ Some link → link.has_ended ≡ false
        → list_any (is_live_of link.child) (map (λ l. cond (l.number == number) (ending l) l) xs) ≡ false)
        → list_any (is_live_of link.child) (map (λ l. cond (l.number == number) (ending l) l) (x ∷ xs)) ≡ false
    at true e found next =
        let it : x ≡ link = cc in
        let lives_too : x.has_ended ≡ false = ap (λ (l : Link). l.has_ended) it ∙ lives in
        let rest = none-live (λ l. cond (l.number == number) (ending l) l) (keeps-where (λ l. l.number == number) ending keeps-ending) x.child xs (once.0 lives_too) in
        rw e (ap (λ c. list_any (is_live_of c) (map (λ l. cond (l.number == number) (ending l) l) xs)) (ap (λ (l : Link). l.child) (sym it)) ∙ rest)
    at false e found next = rw e (both-false _ _ (is-live x.has_ended (x.child == link.child) refl refl found) (next found lives))

ended-others : (number c : ℕ) (ls : List Link) (link : Link) → AreNumbered ls → find (λ (l : Link). l.number == number) ls ≡ Some link → (link.child == c) ≡ false
    → find (is_live_of c) (map (λ l. cond (l.number == number) (ending l) l) ls) ≡ find (is_live_of c) ls
ended-others number c [] link apart there other = refl
ended-others number c (x ∷ xs) link apart there other = at (x.number == number) refl there (ended-others number c xs link apart.1)
  where
    not-it : (ended : Bool) → (not ended && false) ≡ false
    not-it true = refl
    not-it false = refl

    at : (b : Bool) → (x.number == number) ≡ b → cond b (Some x) (find (λ (l : Link). l.number == number) xs) ≡ Some link
        → (find (λ (l : Link). l.number == number) xs ≡ Some link → (link.child == c) ≡ false
        → find (is_live_of c) (map (λ l. cond (l.number == number) (ending l) l) xs) ≡ find (is_live_of c) xs)
        → find (is_live_of c) (map (λ l. cond (l.number == number) (ending l) l) (x ∷ xs)) ≡ find (is_live_of c) (x ∷ xs)
    at true e found next =
        let it : x ≡ link = cc in
        let apart_from : (x.child == c) ≡ false = ap (λ (l : Link). l.child == c) it ∙ other in
        let dead : is_live_of c x ≡ false = ap (λ b. not x.has_ended && b) apart_from ∙ not-it x.has_ended in
        let rest = none-changed number ending xs (ap (λ n. list_any (λ l. l.number == n) xs) (sym (eqb-true x.number number e)) ∙ apart.0) in
        rw e (rw dead (ap (find (is_live_of c)) rest))
    at false e found next = rw e (ap (λ o. cond (is_live_of c x) (Some x) o) (next found other))

pub ends-link : EndsLink
ends-link old new all number link there lives links stacks hang = (
  record {
    links = λ c. ap (λ book. book c) links ∙ at c (c == link.child) refl;
    stacks = λ n.
        parent-pointwise old all number link (removed link.child) (stacks_in new) hang there lives stacks n
        ∙ ap (λ s. cond (n == link.parent) (removed link.child s) s) (hang.0.stacks n) ∙ stack n (n == link.parent) refl (history_in n all) refl
        ∙ ap (λ kids. stacks_at kids (history_in n all)) (sym (kids-ending all number));
  },
  link-tied all number ending keeps-ending hang.1,
)
  where
    kid : kids_of all number ≡ Some link.child
    kid = kid-is all number link there lives

    at : (c : ℕ) (b : Bool) → (c == link.child) ≡ b → (if b then None else links_in old c) ≡ links_of (with_link number ending all) c
    at c true e =
        let child = eqb-true c link.child e in
        sym (ap (option_map kept_of) (ap (λ c. find (is_live_of c) (map (λ l. cond (l.number == number) (ending l) l) all.links)) child
        ∙ none-found (is_live_of link.child) (map (λ (l : Link). cond (l.number == number) (ending l) l) all.links) (ended-none number all.links link hang.1.once there lives)))
    at c false e =
        let turned : (link.child == c) ≡ false = grind (arith, e) in
        hang.0.links c ∙ ap (option_map kept_of) (sym (ended-others number c all.links link hang.1.apart there turned))

    gone : (h : History) → stacks_by (with_kid number None (kids_of all)) h ≡ removed link.child (stacks_by (kids_of all) h)
    gone h =
        same-stacks (follow-lose (kids_of all) h.requests number link.child (apart-kids all hang.1) kid)
        (follow-lose (kids_of all) (take (committed_at h.requests) h.requests) number link.child (apart-kids all hang.1) kid)
        (follow-lose (kids_of all) (take h.cut h.requests) number link.child (apart-kids all hang.1) kid)

    nothing-to : (n : ℕ) (h : History) → history_in n all ≡ Some h → (n == link.parent) ≡ false → (b : Bool) → has_child number h.requests ≡ b → has_child number h.requests ≡ false
    nothing-to n h is apart false e = e
    nothing-to n h is apart true e = absurd (let same = hang.1.parents n number h link is there lives e in let both = sym (eq-eqb n link.parent (sym same)) ∙ apart in cc)

    stack : (n : ℕ) (b : Bool) → (n == link.parent) ≡ b → (o : Option History) → history_in n all ≡ o
        → cond b (removed link.child (stacks_at (kids_of all) o)) (stacks_at (kids_of all) o) ≡ stacks_at (with_kid number None (kids_of all)) o
    stack n true e None is = refl
    stack n false e None is = refl
    stack n true e (Some h) is = sym (gone h)
    stack n false e (Some h) is = sym (stacks-others (kids_of all) h number None (nothing-to n h is e (has_child number h.requests) refl))

-- What is kept of how surfaces hang together, after a child is placed.
use Rattle.std.proofs.Common.{◌≡◌, ℕ, ◌≤◌, ◌||◌, ◌==◌, Bool, true, false, cond, Option, Some, None, List, ◌∷◌, ◌++◌, take, refl, ap, sym, subst, ◌∙◌, arith, eq-eqb, []}
use Rattle.std.specs.Prelude.{ℤ, find, if◌then◌else◌}
use Rattle.std.specs.List.{list_any}
use Rattle.std.specs.Option.{option_map}
use Rattle.std.proofs.lemmas.Bool.{eqb-true}
use Rattle.wl_links.specs.declared.placed.Member.{Member as Kept}
use Rattle.wl_links.specs.declared.placed.Placed.{Placed}
use Rattle.wl_links.specs.declared.placed.Side.{Side}
use Rattle.wl_links.specs.declared.placed.Side.TheVariants.{Above, Below}
use Rattle.wl_links.specs.Stacks.{Stacks, beside, moved, placed as placed_kept}
use Rattle.wl_links.specs.declared.link.Link.{Link as KeptLink}
use Rattle.wl_links.specs.Family.{Tied, at_parent, childless, links_in, pending_as, stacks_in}
use Rattle.wl_surface.specs.Request.{Child, Itself, Member, Request, SetPosition}
use Rattle.wl_surface.specs.State.{History, above, below, committed as committed_at, is_commit, is_member, order, placed, position, position_asked, without}
use Rattle.wl_surface.specs.Surface.{asking}
use Rattle.wl_surface.specs.Surfaces.{Link, Surfaces, history_in, link_at, with_change}
use Rattle.wl_surface.specs.Hanging.{AreTied, Hang, MovesChild, PlacesChild, kid_of, kids_of, stacks_by}
use Rattle.wl_surface.specs.TreeLaws.{AreOnceLinked, is_live_of}
use Rattle.wl_surface.specs.Stacks.{AreApart, IsKept, Kids, has_child, is_about_children, place_request, stack_by}
use Rattle.wl_surface.proofs.Hanging.{changed-pointwise, committed-same, committed-within, hangs-changed, same-stacks, take-more, tied-changed, with_asked}
use Rattle.wl_surface.proofs.Stacking.{beside_asked, follow-move, follow-place, order-last, order-placed, position-last, position-placed}

-- ---- links by their numbers and by their children

-- a link has the number that it is found by
pub numbered : (k : ℕ) (ls : List Link) (l : Link) → find (λ (l : Link). l.number == k) ls ≡ Some l → l.number ≡ k
numbered k [] l e = absurd (cc)
numbered k (x ∷ xs) l e = at (x.number == k) refl e (numbered k xs l)
  where
    at : (b : Bool) → (x.number == k) ≡ b → cond b (Some x) (find (λ (l : Link). l.number == k) xs) ≡ Some l
        → (find (λ (l : Link). l.number == k) xs ≡ Some l → l.number ≡ k) → l.number ≡ k
    at true f e next = let it : x ≡ l = cc in ap (λ (l : Link). l.number) (sym it) ∙ eqb-true x.number k f
    at false f e next = next e

pub no-live : (child : ℕ) (ls : List Link) (l : Link) → list_any (is_live_of child) ls ≡ false → find (is_live_of child) ls ≡ Some l → ⊥
no-live child [] l none e = absurd (cc)
no-live child (x ∷ xs) l none e = at (is_live_of child x) refl none e (no-live child xs l)
  where
    at : (b : Bool) → is_live_of child x ≡ b → (b || list_any (is_live_of child) xs) ≡ false → cond b (Some x) (find (is_live_of child) xs) ≡ Some l
        → (list_any (is_live_of child) xs ≡ false → find (is_live_of child) xs ≡ Some l → ⊥) → ⊥
    at true f none e next = absurd (cc)
    at false f none e next = next none e

-- A living link is the one of its child.
pub live-found : (k : ℕ) (ls : List Link) (l : Link) → AreOnceLinked ls → find (λ (l : Link). l.number == k) ls ≡ Some l → l.has_ended ≡ false → find (is_live_of l.child) ls ≡ Some l
live-found k [] l once e lives = absurd (cc)
live-found k (x ∷ xs) l once e lives = at (x.number == k) refl e (live-found k xs l once.1)
  where
    here : x ≡ l → find (is_live_of l.child) (x ∷ xs) ≡ Some l
    here it =
        let lives_too : is_live_of l.child x ≡ true = ap (is_live_of l.child) it ∙ rw lives (eq-eqb l.child l.child refl) in
        rw lives_too (ap (λ (l : Link). Some l) it)

    behind : (ended same : Bool) → x.has_ended ≡ ended → (x.child == l.child) ≡ same → find (is_live_of l.child) xs ≡ Some l → find (is_live_of l.child) (x ∷ xs) ≡ Some l
    behind true same f g found = rw f found
    behind false false f g found = rw (f, g) found
    behind false true f g found =
        absurd (no-live l.child xs l (ap (λ c. list_any (is_live_of c) xs) (sym (eqb-true x.child l.child g)) ∙ once.0 f) found)

    at : (b : Bool) → (x.number == k) ≡ b → cond b (Some x) (find (λ (l : Link). l.number == k) xs) ≡ Some l
        → (find (λ (l : Link). l.number == k) xs ≡ Some l → l.has_ended ≡ false → find (is_live_of l.child) xs ≡ Some l) → find (is_live_of l.child) (x ∷ xs) ≡ Some l
    at true f e next = here (cc)
    at false f e next = behind x.has_ended (x.child == l.child) refl refl (next e lives)

-- what is kept of the link of a child
abbrev pub kept_of : Link → KeptLink
kept_of l = record { parent = l.parent; is_synchronised = l.synchronised }

pub kept-link : (tied : Tied) (all : Surfaces) (number : ℕ) (link : Link) → Hang tied all → link_at number all ≡ Some link → link.has_ended ≡ false
    → links_in tied link.child ≡ Some (kept_of link)
kept-link tied all number link hang there lives = hang.0.links link.child ∙ ap (option_map kept_of) (live-found number all.links link hang.1.once there lives)

kid-found : (o : Option Link) (child : ℕ) → kid_of o ≡ Some child → (l : Link) × (o ≡ Some l) × (l.has_ended ≡ false) × (l.child ≡ child)
kid-found None child e = absurd (cc)
kid-found (Some l) child e = at l.has_ended refl e
  where
    at : (b : Bool) → l.has_ended ≡ b → cond b None (Some l.child) ≡ Some child → (k : Link) × (Option.Some l ≡ Some k) × (k.has_ended ≡ false) × (k.child ≡ child)
    at true f e = absurd (cc)
    at false f e = (l, refl, f, cc)

-- No two living links have the same child.
pub apart-kids : (all : Surfaces) → AreTied all → AreApart (kids_of all)
apart-kids all tied k l child e f =
    let a = kid-found (link_at k all) child e in
    let b = kid-found (link_at l all) child f in
    let first = ap (λ c. find (is_live_of c) all.links) (sym a.3) ∙ live-found k all.links a.0 tied.once a.1 a.2 in
    let second = ap (λ c. find (is_live_of c) all.links) (sym b.3) ∙ live-found l all.links b.0 tied.once b.1 b.2 in
    let both : Option.Some a.0 ≡ Some b.0 = sym first ∙ second in
    let same : a.0 ≡ b.0 = cc in
    sym (numbered k all.links a.0 a.1) ∙ (ap (λ (l : Link). l.number) same ∙ numbered l all.links b.0 b.1)

pub kid-is : (all : Surfaces) (number : ℕ) (link : Link) → link_at number all ≡ Some link → link.has_ended ≡ false → kids_of all number ≡ Some link.child
kid-is all number link there lives = ap kid_of there ∙ ap (λ b. cond b None (Some link.child)) lives

-- The stacks of the parent change, if the link is kept.
pub parent-pointwise : (tied : Tied) (all : Surfaces) (number : ℕ) (link : Link) (change : Stacks → Stacks) (new : ℕ → Stacks) → Hang tied all → link_at number all ≡ Some link
    → link.has_ended ≡ false → new ≡ at_parent (λ parent. change) (links_in tied link.child) (stacks_in tied) → (n : ℕ)
    → new n ≡ cond (n == link.parent) (change (stacks_in tied n)) (stacks_in tied n)
parent-pointwise tied all number link change new hang there lives e =
    changed-pointwise link.parent change (stacks_in tied) new
    (e ∙ ap (λ o. at_parent (λ parent. change) o (stacks_in tied)) (kept-link tied all number link hang there lives))

-- ---- positions

stacks-pending : (kids : Kids) (h : History) (r : Request) (change : List Placed → List Placed) → is_commit r ≡ false → h.cut ≤ committed_at h.requests
    → stack_by kids (h.requests ++ r ∷ []) ≡ change (stack_by kids h.requests) → stacks_by kids (with_asked r h) ≡ pending_as change (stacks_by kids h)
stacks-pending kids h r change none le e =
    let within = committed-within h.requests in
    same-stacks e
    (ap (λ n. stack_by kids (take n (h.requests ++ r ∷ []))) (committed-same h.requests r none) ∙ ap (stack_by kids) (take-more (committed_at h.requests) h.requests r within))
    (ap (stack_by kids) (take-more h.cut h.requests r (omega (arith, le, within))))

other-position : (number l : ℕ) (x y : ℤ) (all : Surfaces) (link : Link) → link_at number all ≡ Some link → link_at l all ≡ None → (at : ℤ × ℤ)
    → position_asked l at (SetPosition number x y) ≡ at
other-position number l x y all link there gone at = here (number == l) refl
  where
    here : (b : Bool) → (number == l) ≡ b → cond b (x, y) at ≡ at
    here true e = absurd (let both = sym there ∙ (ap (λ k. link_at k all) (eqb-true number l e) ∙ gone) in cc)
    here false e = refl

pub moves-child : MovesChild
moves-child old new all number link x y there lives links stacks hang =
    let r : Request = SetPosition number x y in
    let kid = kid-is all number link there lives in
    let parent = hang.1.listed number link there lives in (
      hangs-changed all link.parent (asking r) (with_asked r) (λ s. refl) (λ s. refl) old new (pending_as (moved link.child x y)) links
          (parent-pointwise old all number link (pending_as (moved link.child x y)) (stacks_in new) hang there lives stacks) (alone-moved link.child)
          (λ h here. stacks-pending (kids_of all) h r (moved link.child x y) refl (hang.1.cuts link.parent h here)
          (follow-move (kids_of all) h.requests number link.child x y (apart-kids all hang.1) kid)) hang.0,
      tied-changed all link.parent (asking r) (with_asked r) (λ s. refl) (λ s. refl) (λ h le. let is = committed-same h.requests r refl in omega (arith, le, is))
          (λ l h here. ap (list_any (is_member (Child l))) (order-last h.requests r))
          (λ l h gone. position-last l h.requests r ∙ other-position number l x y all link there gone (position l h.requests)) hang.1,
    )
  where
    alone-moved : (child : ℕ) → pending_as (moved child x y) childless ≡ childless
    alone-moved child = refl

-- ---- who stands in an order after a child is placed

or-swapped : (a b c : Bool) → (a || (b || c)) ≡ (b || (a || c))
or-swapped true true c = refl
or-swapped true false c = refl
or-swapped false b c = refl

or-again : (a b : Bool) → (a || (a || b)) ≡ (a || b)
or-again true b = refl
or-again false b = refl

is-itself : (at m : Member) → is_member at m ≡ true → at ≡ m
is-itself Itself Itself e = refl
is-itself Itself (Child k) e = absurd (cc)
is-itself (Child l) Itself e = absurd (cc)
is-itself (Child l) (Child k) e = ap (λ n. Child n) (eqb-true l k e)

pub any-above : (q : Member → Bool) (c at : Member) (ms : List Member) → list_any (is_member at) ms ≡ true → list_any q (above c at ms) ≡ (q c || list_any q ms)
any-above q c at [] there = absurd (cc)
any-above q c at (m ∷ ms) there = here (is_member at m) refl there (any-above q c at ms)
  where
    here : (b : Bool) → is_member at m ≡ b → (b || list_any (is_member at) ms) ≡ true
        → (list_any (is_member at) ms ≡ true → list_any q (above c at ms) ≡ (q c || list_any q ms)) → list_any q (above c at (m ∷ ms)) ≡ (q c || (q m || list_any q ms))
    here true e there next = rw e (or-swapped (q m) (q c) (list_any q ms))
    here false e there next = rw e (ap (λ b. q m || b) (next there) ∙ or-swapped (q m) (q c) (list_any q ms))

pub any-below : (q : Member → Bool) (c at : Member) (ms : List Member) → list_any (is_member at) ms ≡ true → list_any q (below c at ms) ≡ (q c || list_any q ms)
any-below q c at [] there = absurd (cc)
any-below q c at (m ∷ ms) there = here (is_member at m) refl there (any-below q c at ms)
  where
    here : (b : Bool) → is_member at m ≡ b → (b || list_any (is_member at) ms) ≡ true
        → (list_any (is_member at) ms ≡ true → list_any q (below c at ms) ≡ (q c || list_any q ms)) → list_any q (below c at (m ∷ ms)) ≡ (q c || (q m || list_any q ms))
    here true e there next = rw e refl
    here false e there next = rw e (ap (λ b. q m || b) (next there) ∙ or-swapped (q m) (q c) (list_any q ms))

pub any-without : (q : Member → Bool) (c : Member) (ms : List Member) → (q c || list_any q (without c ms)) ≡ (q c || list_any q ms)
any-without q c [] = refl
any-without q c (m ∷ ms) = here (is_member c m) refl (any-without q c ms)
  where
    here : (b : Bool) → is_member c m ≡ b → (q c || list_any q (without c ms)) ≡ (q c || list_any q ms) → (q c || list_any q (without c (m ∷ ms))) ≡ (q c || (q m || list_any q ms))
    here true e next = rw e (next ∙ (sym (or-again (q c) (list_any q ms)) ∙ ap (λ n. q c || (q n || list_any q ms)) (is-itself c m e)))
    here false e next = rw e (or-swapped (q c) (q m) (list_any q (without c ms)) ∙ (ap (λ b. q m || b) next ∙ or-swapped (q m) (q c) (list_any q ms)))

-- A member that is there already adds nobody.
any-there : (l : ℕ) (c : Member) (ms : List Member) → list_any (is_member c) ms ≡ true → (is_member (Child l) c || list_any (is_member (Child l)) ms) ≡ list_any (is_member (Child l)) ms
any-there l c ms there = at (is_member (Child l) c) refl
  where
    at : (b : Bool) → is_member (Child l) c ≡ b → (b || list_any (is_member (Child l)) ms) ≡ list_any (is_member (Child l)) ms
    at true e = sym (ap (λ m. list_any (is_member m) ms) (is-itself (Child l) c e) ∙ there)
    at false e = refl

any-beside : (side : Side) (q : Member → Bool) (c at : Member) (ms : List Member) → list_any (is_member at) ms ≡ true
    → list_any q (beside_asked side c at ms) ≡ (q c || list_any q ms)
any-beside Above q c at ms there = any-above q c at ms there
any-beside Below q c at ms there = any-below q c at ms there

any-placed : (beside : Member → Member → List Member → List Member)
    → ((q : Member → Bool) (c at : Member) (ms : List Member) → list_any (is_member at) ms ≡ true → list_any q (beside c at ms) ≡ (q c || list_any q ms)) → (l k : ℕ) (at : Member)
    → (ms : List Member) → list_any (is_member (Child k)) ms ≡ true → list_any (is_member (Child l)) (placed beside k at ms) ≡ list_any (is_member (Child l)) ms
any-placed beside besides l k at ms there = here (list_any (is_member at) (without (Child k) ms)) refl
  where
    here : (b : Bool) → list_any (is_member at) (without (Child k) ms) ≡ b
        → list_any (is_member (Child l)) (if b then beside (Child k) at (without (Child k) ms) else ms) ≡ list_any (is_member (Child l)) ms
    here true e =
        besides (is_member (Child l)) (Child k) at (without (Child k) ms) e ∙ (any-without (is_member (Child l)) (Child k) ms ∙ any-there l (Child k) ms there)
    here false e = refl

-- ---- placing

pub about-placing : (side : Side) (l : ℕ) (at : Member) → is_about_children (place_request side l at) ≡ true
about-placing Above l at = refl
about-placing Below l at = refl

module _ (old new : Tied) (all : Surfaces) (number : ℕ) (link : Link) (at : Member) (sibling : Kept) (there : link_at number all ≡ Some link) (lives : link.has_ended ≡ false)
    (is : IsKept (kids_of all) at sibling) (links : links_in new ≡ links_in old) (hang : Hang old all) where
  named-there : (h : History) → history_in link.parent all ≡ Some h → has_child number h.requests ≡ true
  named-there h here =
      let parent = hang.1.listed number link there lives in
      let both : Option.Some parent.0 ≡ Some h = sym parent.1 ∙ here in
      let same : parent.0 ≡ h = cc in
      subst (λ (h : History). has_child number h.requests ≡ true) same parent.2

  places : (side : Side) → stacks_in new ≡ at_parent (λ parent. pending_as (placed_kept (beside side) link.child sibling)) (links_in old link.child) (stacks_in old)
      → Hang new (with_change link.parent (asking (place_request side number at)) all)
  places side stacks =
      let r = place_request side number at in
      let change : List Placed → List Placed = placed_kept (beside side) link.child sibling in (
        hangs-changed all link.parent (asking r) (with_asked r) (λ s. refl) (λ s. refl) old new (pending_as change) links
            (parent-pointwise old all number link (pending_as change) (stacks_in new) hang there lives stacks)
            refl
            (λ h here. stacks-pending (kids_of all) h r change (no-commit side) (hang.1.cuts link.parent h here)
            (follow-place side (kids_of all) h.requests number link.child at sibling (apart-kids all hang.1) (kid-is all number link there lives) (named-there h here) is)) hang.0,
        tied-changed all link.parent (asking r) (with_asked r) (λ s. refl) (λ s. refl)
            (λ h le. let same = committed-same h.requests r (no-commit side) in omega (arith, le, same))
            (λ l h here. ap (list_any (is_member (Child l))) (order-placed side number at h.requests)
            ∙ any-placed (beside_asked side) (any-beside side) l number at (order h.requests) (named-there h here))
            (λ l h gone. position-placed side l number at h.requests) hang.1,
      )
    where
      no-commit : (side : Side) → is_commit (place_request side number at) ≡ false
      no-commit Above = refl
      no-commit Below = refl

pub places-child : PlacesChild
places-child side old new all number link at sibling there lives is links hang stacks = places old new all number link at sibling there lives is links hang side stacks

-- What is done to the surfaces of a client keeps their links a forest.
use Rattle.std.proofs.Common.{◌≡◌, ℕ, zero, suc, ◌<◌, ◌≤◌, ◌⊎◌, inl, inr, List, [], ◌∷◌, ◌++◌, Bool, true, false, Option, Some, None, cond, fold, take, refl, ap, sym, subst, ◌∙◌, arith}
use Rattle.std.specs.Prelude.{◌==◌, ◌||◌, find, filter, not}
use Rattle.std.specs.List.{list_any}
use Rattle.std.specs.Option.{option_map}
use Rattle.std.proofs.lemmas.Bool.{eqb-false, eqb-true, false_from_ne_true, or_from, true≢false}
use Rattle.std.proofs.lemmas.Option.{none-some, same_Some}
use Rattle.wl_surface.specs.Request.{Request, Member, Itself, Child, Commit, AddChild, PlaceAbove, PlaceBelow}
use Rattle.wl_surface.specs.State.{History, above, below, is_member, order, ordered, without}
use Rattle.wl_surface.specs.Surface.{Surface, asking, new_surface, with_role}
use Rattle.wl_surface.specs.Surfaces.{Link, Surfaces, history_in, link_at, surface_at, with_change, with_new, without_surface}
use Rattle.wl_surface.specs.Trees.{committed_in, desynchronised_in, destroyed_in, ended_in, links_with, synchronised_in}
use Rattle.wl_surface.specs.declared.role.Role.{Role}
use Rattle.spec_desktop.specs.Changing.{unlinked_at}
use Rattle.law_desktop.specs.Apart.{AreApartBy}
use Rattle.law_desktop.specs.Soundness.{AreOnce, IsLive}
use Rattle.law_desktop.proofs.Soundness.Orderly.{IsAskable, IsForest, IsOfParent, KeepsLinks}
use Rattle.law_desktop.proofs.Soundness.Moves.{Moves, found-left, has_number, moves-committed, moves-desynchronised, moves-synchronised, moves-those, moves-unlinked, requests-changed}
use Rattle.law_desktop.proofs.Lists.Keys.{found-passes, gone}
use Rattle.law_desktop.proofs.Lists.Surfaces.{has_id}
use Rattle.law_desktop.proofs.Lists.Standings.{any-gone, none-left}
use Rattle.law_desktop.proofs.Lists.Surfaces.{changed-found}
use Rattle.law_desktop.proofs.Truth.{or-left, or-right}

-- ---- an order

-- no member is in it twice, and its children have numbers below the bound and are children of this surface
pub record IsOrder (bound surface : ℕ) (all : Surfaces) (members : List Member) : Type 0 where
  pub once : AreOnce is_member members
  pub early : (number : ℕ) → list_any (is_member (Child number)) members ≡ true → number < bound
  pub parents : (number : ℕ) (link : Link) → list_any (is_member (Child number)) members ≡ true → IsLive number link all → link.parent ≡ surface

abbrev pub HasOrders : ℕ → Surfaces → Surfaces → Type 0
HasOrders bound old new = (surface counting : ℕ) (h : History) → history_in surface new ≡ Some h → IsOrder bound surface old (order (take counting h.requests))

pub has-orders : (bound : ℕ) (all : Surfaces) → IsForest bound all → HasOrders bound all all
has-orders bound all f surface counting h here = record {
  once = f.ordered surface counting h here;
  early = λ number there. f.members surface counting number h here there;
  parents = λ number link there live. f.parents surface counting number h link here there live;
}

abbrev KeepsNumbers : Surfaces → Surfaces → Type 0
KeepsNumbers old new = (number : ℕ) (link : Link) → link_at number new ≡ Some link → (l : Link) × (link_at number old ≡ Some l)

later-bound : (n b c : ℕ) → b ≤ c → n < b → n < c
later-bound n b c le lt = omega (arith, le, lt)

-- the links lived before, and the orders are such
pub forest-by : (bound : ℕ) (old new : Surfaces) → KeepsLinks old new → AreApartBy has_number new.links → KeepsNumbers old new → HasOrders bound old new → IsForest bound old → IsForest bound new
forest-by bound old new links apart numbers orders f = record {
  apart = apart;
  early = λ number link e. let was = numbers number link e in f.early number was.0 was.1;
  once = λ k l a b x y e.
      let p = links k a x in
      let q = links l b y in
      f.once k l p.0 q.0 p.1 q.1 (p.2 ∙ e ∙ sym q.2);
  ordered = λ surface counting h here. (orders surface counting h here).once;
  members = λ surface counting number h here there. (orders surface counting h here).early number there;
  parents = λ surface counting number h link here there live.
      let was = links number link live in
      sym was.3 ∙ (orders surface counting h here).parents number was.0 there was.1;
  rank = f.rank;
  rises = λ number link live.
      let was = links number link live in
      subst (λ n. f.rank link.parent < f.rank n) was.2 (subst (λ n. f.rank n < f.rank was.0.child) was.3 (f.rises number was.0 was.1));
  low = f.low;
}

pub forest-later : (b c : ℕ) (all : Surfaces) → b ≤ c → IsForest b all → IsForest c all
forest-later b c all le f = record {
  apart = f.apart;
  early = λ number link e. later-bound number b c le (f.early number link e);
  once = f.once;
  ordered = f.ordered;
  members = λ surface counting number h here there. later-bound number b c le (f.members surface counting number h here there);
  parents = f.parents;
  rank = f.rank;
  rises = f.rises;
  low = f.low;
}

-- ---- all is asked as before

abbrev KeepsRequests : Surfaces → Surfaces → Type 0
KeepsRequests old new = (surface : ℕ) (h : History) → history_in surface new ≡ Some h → (g : History) × (history_in surface old ≡ Some g) × (g.requests ≡ h.requests)

orders-kept : (bound : ℕ) (old new : Surfaces) → KeepsRequests old new → IsForest bound old → HasOrders bound old new
orders-kept bound old new same f surface counting h here =
    let was = same surface h here in
    subst (λ rs. IsOrder bound surface old (order (take counting rs))) was.2 (has-orders bound old f surface counting was.0 was.1)

pub forest-moved : (bound : ℕ) (old new : Surfaces) → Moves old new → IsForest bound old → IsForest bound new
forest-moved bound old new m f = forest-by bound old new m.links (m.apart f.apart) m.numbers (orders-kept bound old new m.requests f) f

pub forest-synchronised : (b number : ℕ) (all : Surfaces) → IsForest b all → IsForest b (synchronised_in number all)
forest-synchronised b number all = forest-moved b all (synchronised_in number all) (moves-synchronised number all)

pub forest-desynchronised : (b number : ℕ) (all : Surfaces) → IsForest b all → IsForest b (desynchronised_in number all)
forest-desynchronised b number all = forest-moved b all (desynchronised_in number all) (moves-desynchronised number all)

pub forest-unlinked : (b : ℕ) (link : Option ℕ) (all : Surfaces) → IsForest b all → IsForest b (unlinked_at link all)
forest-unlinked b link all = forest-moved b all (unlinked_at link all) (moves-unlinked link all)

-- the links stay, and the surfaces are others
forest-surfaces : (bound : ℕ) (xs : List Surface) (all : Surfaces) → HasOrders bound all (record all { surfaces = xs }) → IsForest bound all → IsForest bound (record all { surfaces = xs })
forest-surfaces bound xs all orders f =
    forest-by bound all (record all { surfaces = xs }) (λ number link live. (link, record { here = live.here; lives = live.lives }, refl, refl)) f.apart (λ number link e. (link, e)) orders f

pub forest-role : (b id : ℕ) (role : Role) (all : Surfaces) → IsForest b all → IsForest b (with_change id (with_role role) all)
forest-role b id role all f =
    let new = with_change id (with_role role) all in
    forest-surfaces b new.surfaces all (orders-kept b all new (requests-changed id (with_role role) (λ s. refl) all (λ s. refl)) f) f

-- ---- a surface goes

left-requests : (surface : ℕ) (all : Surfaces) → KeepsRequests all (without_surface surface all)
left-requests surface all other h here = at (other == surface) refl
  where
    none : other ≡ surface → surface_at other (without_surface surface all) ≡ None
    none same = ap (λ n. surface_at n (without_surface surface all)) same ∙ gone (has_id surface) all.surfaces

    at : (b : Bool) → (other == surface) ≡ b → (g : History) × (history_in other all ≡ Some g) × (g.requests ≡ h.requests)
    at true e = absurd (none-some h (sym (ap (option_map (λ (s : Surface). s.history)) (none (eqb-true other surface e))) ∙ here))
    at false e = (h, sym (ap (option_map (λ (s : Surface). s.history)) (found-left surface other all (eqb-false other surface e))) ∙ here, refl)

pub forest-left : (b surface : ℕ) (all : Surfaces) → IsForest b all → IsForest b (without_surface surface all)
forest-left b surface all f = forest-surfaces b (without_surface surface all).surfaces all (orders-kept b all (without_surface surface all) (left-requests surface all) f) f

pub forest-destroyed : (b surface : ℕ) (all : Surfaces) → IsForest b all → IsForest b (destroyed_in surface all)
forest-destroyed b surface all f =
    let mid = fold ended_in all (links_with surface all) in
    forest-left b surface mid (forest-moved b all mid (moves-those surface all) f)

-- ---- a surface comes

found-last : {X : Type 0} (p : X → Bool) (xs : List X) (x y : X) → find p (xs ++ x ∷ []) ≡ Some y → (find p xs ≡ Some y) ⊎ (x ≡ y)
found-last p [] x y found = at (p x) found
  where
    at : (b : Bool) → cond b (Some x) None ≡ Some y → (None ≡ Some y) ⊎ (x ≡ y)
    at true e = inr (same_Some x y e)
    at false e = inl e
found-last p (z ∷ zs) x y found = at (p z) found (found-last p zs x y)
  where
    at : (b : Bool) → cond b (Some z) (find p (zs ++ x ∷ [])) ≡ Some y → (find p (zs ++ x ∷ []) ≡ Some y → (find p zs ≡ Some y) ⊎ (x ≡ y)) → (cond b (Some z) (find p zs) ≡ Some y) ⊎ (x ≡ y)
    at true e rest = inl e
    at false e rest = rest e

-- the order of a surface of which nothing was asked
order-none : (bound surface counting : ℕ) (all : Surfaces) → IsOrder bound surface all (order (take counting []))
order-none bound surface zero all = record { once = (refl, tt); early = λ number there. absurd (true≢false (sym there)); parents = λ number link there live. absurd (true≢false (sym there)) }
order-none bound surface (suc n) all = record { once = (refl, tt); early = λ number there. absurd (true≢false (sym there)); parents = λ number link there live. absurd (true≢false (sym there)) }

orders-new : (bound id : ℕ) (all : Surfaces) → IsForest bound all → HasOrders bound all (with_new id all)
orders-new bound id all f surface counting h here = at (surface_at surface (with_new id all)) refl here
  where
    by : (s : Surface) → (surface_at surface all ≡ Some s) ⊎ (new_surface id ≡ s) → IsOrder bound surface all (order (take counting s.history.requests))
    by s (inl found) = has-orders bound all f surface counting s.history (ap (option_map (λ (s : Surface). s.history)) found)
    by s (inr same) = subst (λ (t : Surface). IsOrder bound surface all (order (take counting t.history.requests))) same (order-none bound surface counting all)

    at : (o : Option Surface) → surface_at surface (with_new id all) ≡ o → option_map (λ (s : Surface). s.history) o ≡ Some h → IsOrder bound surface all (order (take counting h.requests))
    at None found e = absurd (none-some h e)
    at (Some s) found e =
        subst (λ (g : History). IsOrder bound surface all (order (take counting g.requests))) (same_Some s.history h e) (by s (found-last (has_id surface) all.surfaces (new_surface id) s found))

pub forest-new : (b id : ℕ) (all : Surfaces) → IsForest b all → IsForest b (with_new id all)
forest-new b id all f = forest-surfaces b (with_new id all).surfaces all (orders-new b id all f) f

-- ---- one more is asked

fold-last : {A B : Type 0} (f : B → A → B) (a : B) (xs : List A) (x : A) → fold f a (xs ++ x ∷ []) ≡ f (fold f a xs) x
fold-last f a [] x = refl
fold-last f a (y ∷ ys) x = fold-last f (f a y) ys x

-- the last one is left out, or all are taken
take-last : {A : Type 0} (n : ℕ) (xs : List A) (x : A) → (take n (xs ++ x ∷ []) ≡ take n xs) ⊎ (take n (xs ++ x ∷ []) ≡ take n xs ++ x ∷ [])
take-last zero xs x = inl refl
take-last (suc n) [] x = inr (at n)
  where
    at : (n : ℕ) → x ∷ take n [] ≡ x ∷ []
    at zero = refl
    at (suc n) = refl
take-last (suc n) (y ∷ ys) x = at (take-last n ys x)
  where
    at : (take n (ys ++ x ∷ []) ≡ take n ys) ⊎ (take n (ys ++ x ∷ []) ≡ take n ys ++ x ∷ []) → (y ∷ take n (ys ++ x ∷ []) ≡ y ∷ take n ys) ⊎ (y ∷ take n (ys ++ x ∷ []) ≡ y ∷ (take n ys ++ x ∷ []))
    at (inl e) = inl (ap (λ zs. y ∷ zs) e)
    at (inr e) = inr (ap (λ zs. y ∷ zs) e)

-- those that are left are once
once-left : {X : Type 0} (same : X → X → Bool) (q : X → Bool) (xs : List X) → AreOnce same xs → AreOnce same (filter q xs)
once-left same q [] once = tt
once-left same q (x ∷ xs) once = at (q x) (once-left same q xs once.1)
  where
    at : (b : Bool) → AreOnce same (filter q xs) → AreOnce same (cond b (x ∷ filter q xs) (filter q xs))
    at true rest = (none-left (same x) q xs once.0, rest)
    at false rest = rest

member-turned : (a b : Member) → is_member a b ≡ false → is_member b a ≡ false
member-turned Itself Itself e = e
member-turned (Child k) (Child l) e = false_from_ne_true (l == k) (λ same. eqb-false k l e (sym (eqb-true l k same)))
member-turned a b e = refl

-- where nothing passes, and the member that comes doesn't, nothing does then
none-above : (p : Member → Bool) (m at : Member) (xs : List Member) → p m ≡ false → list_any p xs ≡ false → list_any p (above m at xs) ≡ false
none-above p m place [] fails none = refl
none-above p m place (x ∷ xs) fails none = at (is_member place x) (none-above p m place xs fails (or-right (p x) (list_any p xs) none))
  where
    at : (b : Bool) → list_any p (above m place xs) ≡ false → list_any p (cond b (x ∷ m ∷ xs) (x ∷ above m place xs)) ≡ false
    at true rest = or_from (p x) (p m || list_any p xs) (or-left (p x) (list_any p xs) none) (or_from (p m) (list_any p xs) fails (or-right (p x) (list_any p xs) none))
    at false rest = or_from (p x) (list_any p (above m place xs)) (or-left (p x) (list_any p xs) none) rest

none-below : (p : Member → Bool) (m at : Member) (xs : List Member) → p m ≡ false → list_any p xs ≡ false → list_any p (below m at xs) ≡ false
none-below p m place [] fails none = refl
none-below p m place (x ∷ xs) fails none = at (is_member place x) (none-below p m place xs fails (or-right (p x) (list_any p xs) none))
  where
    at : (b : Bool) → list_any p (below m place xs) ≡ false → list_any p (cond b (m ∷ x ∷ xs) (x ∷ below m place xs)) ≡ false
    at true rest = or_from (p m) (p x || list_any p xs) fails none
    at false rest = or_from (p x) (list_any p (below m place xs)) (or-left (p x) (list_any p xs) none) rest

once-above : (m at : Member) (xs : List Member) → list_any (is_member m) xs ≡ false → AreOnce is_member xs → AreOnce is_member (above m at xs)
once-above m place [] none once = tt
once-above m place (x ∷ xs) none once = at (is_member place x) (once-above m place xs (or-right (is_member m x) (list_any (is_member m) xs) none) once.1)
  where
    apart : is_member x m ≡ false
    apart = member-turned m x (or-left (is_member m x) (list_any (is_member m) xs) none)

    at : (b : Bool) → AreOnce is_member (above m place xs) → AreOnce is_member (cond b (x ∷ m ∷ xs) (x ∷ above m place xs))
    at true rest = (or_from (is_member x m) (list_any (is_member x) xs) apart once.0, (or-right (is_member m x) (list_any (is_member m) xs) none, once.1))
    at false rest = (none-above (is_member x) m place xs apart once.0, rest)

once-below : (m at : Member) (xs : List Member) → list_any (is_member m) xs ≡ false → AreOnce is_member xs → AreOnce is_member (below m at xs)
once-below m place [] none once = tt
once-below m place (x ∷ xs) none once = at (is_member place x) (once-below m place xs (or-right (is_member m x) (list_any (is_member m) xs) none) once.1)
  where
    apart : is_member x m ≡ false
    apart = member-turned m x (or-left (is_member m x) (list_any (is_member m) xs) none)

    at : (b : Bool) → AreOnce is_member (below m place xs) → AreOnce is_member (cond b (m ∷ x ∷ xs) (x ∷ below m place xs))
    at true rest = (none, once)
    at false rest = (none-below (is_member x) m place xs apart once.0, rest)

-- all but this member were there
abbrev Comes : Member → List Member → List Member → Type 0
Comes m old new = (p : Member → Bool) → p m ≡ false → list_any p old ≡ false → list_any p new ≡ false

was-there : (l number : ℕ) (old new : List Member) → Comes (Child l) old new → list_any (is_member (Child number)) new ≡ true → (number ≡ l) ⊎ (list_any (is_member (Child number)) old ≡ true)
was-there l number old new comes there = at (number == l) (list_any (is_member (Child number)) old) refl refl
  where
    at : (a b : Bool) → (number == l) ≡ a → list_any (is_member (Child number)) old ≡ b → (number ≡ l) ⊎ (b ≡ true)
    at true b e f = inl (eqb-true number l e)
    at false true e f = inr refl
    at false false e f = absurd (true≢false (sym there ∙ comes (is_member (Child number)) e f))

one-link : (number k : ℕ) (a b : Link) (all : Surfaces) → number ≡ k → IsLive number a all → IsLive k b all → b ≡ a
one-link number k a b all same x y = same_Some b a (sym y.here ∙ ap (λ n. link_at n all) (sym same) ∙ x.here)

order-placed : (bound surface l : ℕ) (all : Surfaces) (old new : List Member) → IsForest bound all → IsOfParent l surface all → Comes (Child l) old new → AreOnce is_member new
    → IsOrder bound surface all old → IsOrder bound surface all new
order-placed bound surface l all old new f of comes once o = record {
  once = once;
  early = λ number there. low number (was-there l number old new comes there);
  parents = λ number link there live. of-it number link live (was-there l number old new comes there);
}
  where
    low : (number : ℕ) → (number ≡ l) ⊎ (list_any (is_member (Child number)) old ≡ true) → number < bound
    low number (inl same) = subst (λ n. n < bound) (sym same) (f.early l of.0 of.1.here)
    low number (inr was) = o.early number was

    of-it : (number : ℕ) (link : Link) → IsLive number link all → (number ≡ l) ⊎ (list_any (is_member (Child number)) old ≡ true) → link.parent ≡ surface
    of-it number link live (inl same) = sym (ap (λ (k : Link). k.parent) (one-link number l link of.0 all same live of.1)) ∙ of.2
    of-it number link live (inr was) = o.parents number link was live

not-left : (m : Member) (xs : List Member) → list_any (is_member m) (without m xs) ≡ false
not-left m xs = any-gone (is_member m) (λ other. not (is_member m other)) (λ other is. ap (λ b. not b) is) xs

order-either : (bound surface : ℕ) (all : Surfaces) (old new : List Member) (b : Bool) → IsOrder bound surface all old → IsOrder bound surface all new → IsOrder bound surface all (cond b new old)
order-either bound surface all old new true before after = after
order-either bound surface all old new false before after = before

order-asked : (bound surface : ℕ) (request : Request) (all : Surfaces) (members : List Member) → IsForest bound all → IsAskable surface all request → IsOrder bound surface all members
    → IsOrder bound surface all (ordered members request)
order-asked bound surface (AddChild l) all members f is o = absurd is
order-asked bound surface (PlaceAbove l place) all members f is o =
    let rest = without (Child l) members in
    order-either bound surface all members (above (Child l) place rest) (list_any (is_member place) rest) o
    (order-placed bound surface l all members (above (Child l) place rest) f is
    (λ p fails none. none-above p (Child l) place rest fails (none-left p (λ other. not (is_member (Child l) other)) members none))
    (once-above (Child l) place rest (not-left (Child l) members) (once-left is_member (λ other. not (is_member (Child l) other)) members o.once)) o)
order-asked bound surface (PlaceBelow l place) all members f is o =
    let rest = without (Child l) members in
    order-either bound surface all members (below (Child l) place rest) (list_any (is_member place) rest) o
    (order-placed bound surface l all members (below (Child l) place rest) f is
    (λ p fails none. none-below p (Child l) place rest fails (none-left p (λ other. not (is_member (Child l) other)) members none))
    (once-below (Child l) place rest (not-left (Child l) members) (once-left is_member (λ other. not (is_member (Child l) other)) members o.once)) o)
order-asked bound surface request all members f is o = o

-- the order of one surface where one more request may be among those that count
order-more : (bound surface counting : ℕ) (request : Request) (all : Surfaces) (rs : List Request) → IsForest bound all → IsAskable surface all request
    → IsOrder bound surface all (order (take counting rs)) → IsOrder bound surface all (order (take counting (rs ++ request ∷ [])))
order-more bound surface counting request all rs f is o = at (take-last counting rs request)
  where
    at : (take counting (rs ++ request ∷ []) ≡ take counting rs) ⊎ (take counting (rs ++ request ∷ []) ≡ take counting rs ++ request ∷ [])
        → IsOrder bound surface all (order (take counting (rs ++ request ∷ [])))
    at (inl e) = subst (λ qs. IsOrder bound surface all (order qs)) (sym e) o
    at (inr e) =
        subst (λ qs. IsOrder bound surface all (order qs)) (sym e)
        (subst (IsOrder bound surface all) (sym (fold-last ordered (Itself ∷ []) (take counting rs) request)) (order-asked bound surface request all (order (take counting rs)) f is o))

orders-asked : (bound surface : ℕ) (request : Request) (all : Surfaces) → IsAskable surface all request → IsForest bound all → HasOrders bound all (with_change surface (asking request) all)
orders-asked bound surface request all is f other counting h here =
    at (surface_at other all) refl (sym (ap (option_map (λ (s : Surface). s.history)) (changed-found surface (asking request) (λ s. refl) all other)) ∙ here)
  where
    of-it : (s : Surface) → surface_at other all ≡ Some s → (b : Bool) → (s.id == surface) ≡ b → IsOrder bound other all (order (take counting (cond b (asking request s) s).history.requests))
    of-it s found true e =
        let same : surface ≡ other = sym (eqb-true s.id surface e) ∙ eqb-true s.id other (found-passes (has_id other) all.surfaces s found) in
        order-more bound other counting request all s.history.requests f (subst (λ n. IsAskable n all request) same is)
        (has-orders bound all f other counting s.history (ap (option_map (λ (s : Surface). s.history)) found))
    of-it s found false e = has-orders bound all f other counting s.history (ap (option_map (λ (s : Surface). s.history)) found)

    at : (o : Option Surface) → surface_at other all ≡ o → option_map (λ (s : Surface). s.history) (option_map (λ s. cond (s.id == surface) (asking request s) s) o) ≡ Some h
        → IsOrder bound other all (order (take counting h.requests))
    at None found e = absurd (none-some h e)
    at (Some s) found e =
        subst (λ (g : History). IsOrder bound other all (order (take counting g.requests))) (same_Some (cond (s.id == surface) (asking request s) s).history h e) (of-it s found (s.id == surface) refl)

pub forest-asked : (b surface : ℕ) (request : Request) (all : Surfaces) → IsAskable surface all request → IsForest b all → IsForest b (with_change surface (asking request) all)
forest-asked b surface request all is f = forest-surfaces b (with_change surface (asking request) all).surfaces all (orders-asked b surface request all is f) f

pub forest-committed : (b surface : ℕ) (all : Surfaces) → IsForest b all → IsForest b (committed_in surface all)
forest-committed b surface all f =
    let mid = with_change surface (asking Commit) all in
    forest-moved b mid (committed_in surface all) (moves-committed surface all) (forest-asked b surface Commit all tt f)

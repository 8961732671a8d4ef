-- Who is known once a surface has come or gone.
use Rattle.std.proofs.Common.{◌≡◌, ℕ, zero, suc, ◌⊎◌, inl, inr, ◌==◌, ◌&&◌, ◌||◌, Bool, true, false, cond, not, Option, Some, None, List, [], ◌∷◌, is_some, refl, ap, sym, subst, ◌∙◌, arith}
use Rattle.std.proofs.Common.{eqb-true, eq-eqb}
use Rattle.std.specs.Prelude.{filter, fold}
use Rattle.std.specs.List.{AllByRecursion as Each, list_any}
use Rattle.std.specs.Option.{option_or}
use Rattle.std.proofs.lemmas.Bool.{and_from, and_parts, or_cases, or_left, or_right}
use Rattle.std.proofs.lemmas.List.Folds.{find-append}
use Rattle.wl_surface.specs.Surface.{Surface, applying, new_surface}
use Rattle.wl_surface.specs.Surfaces.{Link, Surfaces, surface_at, with_change, with_new, without_surface}
use Rattle.wl_surface.specs.Trees.{applied_tree, children_of, destroyed_in, ended_in, ending, levels, links_with, with_link}
use Rattle.law_desktop.proofs.ByNames.Names.Changing.{links-with-renamed}
use Rattle.law_desktop.proofs.ByNames.Names.Lists.{each-append, each-both, each-filtered, each-mapped, each-weaker, find-kept}
use Rattle.law_desktop.proofs.ByNames.Names.Reading.{IsBetween, Knows}

-- ---- a surface comes

some-or : (o more : Option Surface) → is_some o ≡ true → is_some (option_or o more) ≡ true
some-or None more is = absurd (cc)
some-or (Some s) more is = refl

last-there : (o : Option Surface) (b : Bool) (s : Surface) → b ≡ true → is_some (option_or o (cond b (Some s) None)) ≡ true
last-there None b s is = rw is refl
last-there (Some t) b s is = refl

pub new-known : {f : ℕ → ℕ} {known : ℕ → Bool} {all : Surfaces} → Knows f known all → (id : ℕ) → ((a : ℕ) → known a ≡ true → f a ≡ f id → a ≡ id)
    → Knows f (λ a. known a || a == id) (with_new id all)
new-known {f} {known} {all} k id apart = record {
  apart = λ a b here there same. told a b same (or_cases (known a) (a == id) here) (or_cases (known b) (b == id) there);
  named =
      each-append (λ (s : Surface). (known s.id || s.id == id) ≡ true) all.surfaces (new_surface id ∷ [])
      (each-weaker (λ (s : Surface). known s.id ≡ true) (λ (s : Surface). (known s.id || s.id == id) ≡ true) (λ s is. or_left (known s.id) (s.id == id) is) all.surfaces k.named)
      (or_right (known id) (id == id) (eq-eqb id id refl), tt);
  there = λ a is. ap is_some (find-append (λ (s : Surface). s.id == a) all.surfaces (new_surface id ∷ [])) ∙ is-there a (or_cases (known a) (a == id) is);
  ends =
      each-weaker (IsBetween known) (IsBetween (λ a. known a || a == id))
      (λ l between lives. let are = between lives in (or_left (known l.child) (l.child == id) are.0, or_left (known l.parent) (l.parent == id) are.1)) all.links k.ends;
}
  where
    told : (a b : ℕ) → f a ≡ f b → (known a ≡ true) ⊎ ((a == id) ≡ true) → (known b ≡ true) ⊎ ((b == id) ≡ true) → a ≡ b
    told a b same (inl here) (inl there) = k.apart a b here there same
    told a b same (inl here) (inr there) = let is = eqb-true b id there in apart a here (same ∙ ap f is) ∙ sym is
    told a b same (inr here) (inl there) = let is = eqb-true a id here in is ∙ sym (apart b there (sym same ∙ ap f is))
    told a b same (inr here) (inr there) = eqb-true a id here ∙ sym (eqb-true b id there)

    is-there : (a : ℕ) → (known a ≡ true) ⊎ ((a == id) ≡ true) → is_some (option_or (surface_at a all) (cond (id == a) (Some (new_surface id)) None)) ≡ true
    is-there a (inl is) = some-or (surface_at a all) (cond (id == a) (Some (new_surface id)) None) (k.there a is)
    is-there a (inr is) = last-there (surface_at a all) (id == a) (new_surface id) (eq-eqb id a (sym (eqb-true a id is)))

-- ---- links end

-- what is applied changes no link
tree-links : (n id : ℕ) (all : Surfaces) → (applied_tree n id all).links ≡ all.links
unfolding applied_tree
tree-links zero id all = refl
tree-links (suc n) id all = along (λ child x. tree-links n child x) (children_of id all) (with_change id applying all)
  where
    along : ((child : ℕ) (x : Surfaces) → (applied_tree n child x).links ≡ x.links) → (cs : List ℕ) (x : Surfaces)
        → (fold (λ (done : Surfaces) (child : ℕ). applied_tree n child done) x cs).links ≡ x.links
    along one [] x = refl
    along one (c ∷ cs) x = along one cs (applied_tree n c x) ∙ one c x

-- a link of this surface, as its child or its parent
abbrev is_with : ℕ → Link → Bool
is_with id l = l.child == id || l.parent == id

-- a link of this surface that lives is one of these, by its number
abbrev IsLeft : ℕ → List Link → Link → Type 0
IsLeft id rs l = l.has_ended ≡ false → is_with id l ≡ true → list_any (λ (r : Link). r.number == l.number) rs ≡ true

ended-left : (id : ℕ) (x : Surfaces) (r : Link) (rs : List Link) → Each (IsLeft id (r ∷ rs)) x.links → Each (IsLeft id rs) (with_link r.number ending x).links
ended-left id x r rs left =
    each-mapped (IsLeft id rs) (λ (l : Link). cond (l.number == r.number) (ending l) l) x.links
    (each-weaker (IsLeft id (r ∷ rs)) (λ (l : Link). IsLeft id rs (cond (l.number == r.number) (ending l) l)) (λ l is. at l (l.number == r.number) refl is) x.links left)
  where
    later : (a b : Bool) → a ≡ false → (a || b) ≡ true → b ≡ true
    later true b none is = absurd (cc)
    later false b none is = is

    at : (l : Link) (b : Bool) → (l.number == r.number) ≡ b → IsLeft id (r ∷ rs) l → IsLeft id rs (cond b (ending l) l)
    at l true e is lives = absurd (cc)
    at l false e is lives = λ those.
        let other : (r.number == l.number) ≡ false = grind (arith, e) in
        later (r.number == l.number) (list_any (λ (m : Link). m.number == l.number) rs) other (is lives those)

fold-left : (id : ℕ) (rs : List Link) (x : Surfaces) → Each (IsLeft id rs) x.links → Each (IsLeft id []) (fold ended_in x rs).links
fold-left id [] x left = left
fold-left id (r ∷ rs) x left =
    fold-left id rs (ended_in x r) (rw (tree-links levels r.child (with_link r.number ending x)) (ended-left id x r rs left))

-- what a filter keeps is among what it keeps
kept-any : (p : Link → Bool) (ls : List Link) → Each (λ (l : Link). p l ≡ true → list_any (λ (r : Link). r.number == l.number) (filter p ls) ≡ true) ls
kept-any p [] = tt
kept-any p (x ∷ xs) = (
  λ is. rw is (or_left (x.number == x.number) (list_any (λ (r : Link). r.number == x.number) (filter p xs)) (eq-eqb x.number x.number refl)),
  each-weaker (λ (l : Link). p l ≡ true → list_any (λ (r : Link). r.number == l.number) (filter p xs) ≡ true)
      (λ (l : Link). p l ≡ true → list_any (λ (r : Link). r.number == l.number) (filter p (x ∷ xs)) ≡ true)
      (λ l is passes. more l (p x) (is passes)) xs (kept-any p xs),
)
  where
    more : (l : Link) (b : Bool) → list_any (λ (r : Link). r.number == l.number) (filter p xs) ≡ true
        → list_any (λ (r : Link). r.number == l.number) (cond b (x ∷ filter p xs) (filter p xs)) ≡ true
    more l true is = or_right (x.number == l.number) (list_any (λ (r : Link). r.number == l.number) (filter p xs)) is
    more l false is = is

-- each link of a surface that lives is among its links
all-left : (id : ℕ) (all : Surfaces) → Each (IsLeft id (links_with id all)) all.links
all-left id all =
    each-weaker (λ (l : Link). (not l.has_ended && is_with id l) ≡ true → list_any (λ (r : Link). r.number == l.number) (links_with id all) ≡ true) (IsLeft id (links_with id all))
    (λ l is lives those. is (and_from (not l.has_ended) (is_with id l) (ap not lives) those)) all.links (kept-any (λ (l : Link). not l.has_ended && is_with id l) all.links)

-- once they have ended, none that lives is of it
none-left : (id : ℕ) (all : Surfaces) → Each (IsLeft id []) (fold ended_in all (links_with id all)).links
none-left id all = fold-left id (links_with id all) all (all-left id all)

-- ---- a surface goes

pub without-known : {f : ℕ → ℕ} {known : ℕ → Bool} {all : Surfaces} → Knows f known all → (id : ℕ) → Each (IsLeft id []) all.links
    → Knows f (λ a. known a && not (a == id)) (without_surface id all)
without-known {f} {known} {all} k id none = record {
  apart = λ a b here there same. k.apart a b (and_parts (known a) (not (a == id)) here).0 (and_parts (known b) (not (b == id)) there).0 same;
  named =
      each-weaker (λ (s : Surface). (known s.id ≡ true) × (not (s.id == id) ≡ true)) (λ (s : Surface). (known s.id && not (s.id == id)) ≡ true)
      (λ s both. and_from (known s.id) (not (s.id == id)) both.0 both.1) (filter (λ (s : Surface). not (s.id == id)) all.surfaces)
      (each-filtered (λ (s : Surface). not (s.id == id)) (λ (s : Surface). known s.id ≡ true) all.surfaces k.named);
  there = λ a is.
      let parts = and_parts (known a) (not (a == id)) is in
      ap is_some (find-kept (λ (s : Surface). s.id == a) (λ (s : Surface). not (s.id == id)) (λ s same. ap (λ n. not (n == id)) (eqb-true s.id a same) ∙ parts.1) all.surfaces)
      ∙ k.there a parts.0;
  ends =
      each-weaker (λ (l : Link). IsBetween known l × IsLeft id [] l) (IsBetween (λ a. known a && not (a == id))) (λ l both lives. ends l (both.0 lives) (both.1 lives)) all.links
      (each-both (IsBetween known) (IsLeft id []) all.links k.ends none);
}
  where
    neither : (a b : Bool) → ((a || b) ≡ true → false ≡ true) → (not a ≡ true) × (not b ≡ true)
    neither true b no-one = absurd (let no = no-one refl in cc)
    neither false true no-one = absurd (let no = no-one refl in cc)
    neither false false no-one = (refl, refl)

    ends : (l : Link) → (known l.child ≡ true) × (known l.parent ≡ true) → (is_with id l ≡ true → false ≡ true)
        → ((known l.child && not (l.child == id)) ≡ true) × ((known l.parent && not (l.parent == id)) ≡ true)
    ends l are apart =
        let others = neither (l.child == id) (l.parent == id) apart in
        (and_from (known l.child) (not (l.child == id)) are.0 others.0, and_from (known l.parent) (not (l.parent == id)) are.1 others.1)

pub gone-known : {f : ℕ → ℕ} {known : ℕ → Bool} {all : Surfaces} → Knows f known all → (id : ℕ) → links_with id all ≡ []
    → Knows f (λ a. known a && not (a == id)) (without_surface id all)
gone-known {f} {known} {all} k id none = without-known k id (subst (λ (rs : List Link). Each (IsLeft id rs) all.links) none (all-left id all))

pub destroyed-known : {f : ℕ → ℕ} {known : ℕ → Bool} {all : Surfaces} → Knows f known all → (id : ℕ) → known id ≡ true
    → Knows f (λ a. known a && not (a == id)) (destroyed_in id all)
destroyed-known {f} {known} {all} k id there = without-known (links-with-renamed k id there).0 id (none-left id all)

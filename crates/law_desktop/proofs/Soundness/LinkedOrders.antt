-- What a new link does to the orders of surfaces and their children.
use Rattle.std.proofs.Common.{◌≡◌, ℕ, zero, suc, Bool, true, false, List, [], ◌∷◌, ◌++◌, Option, Some, None, cond, take, map, inl, inr, refl, ap, sym, subst, ◌∙◌, arith}
use Rattle.std.specs.Prelude.{◌==◌, ◌⊎◌, fold}
use Rattle.std.specs.List.{list_any}
use Rattle.std.specs.Option.{option_map}
use Rattle.std.proofs.lemmas.Bool.{eqb-true, false_from_ne_true, or_cases, or_from}
use Rattle.std.proofs.lemmas.List.{take_all}
use Rattle.std.proofs.lemmas.Option.{same_Some}
use Rattle.wl_surface.specs.Request.{AddChild, Child, Itself, Member, Request}
use Rattle.wl_surface.specs.State.{History, is_member, order, ordered}
use Rattle.wl_surface.specs.Surface.{Surface, asking, with_role}
use Rattle.wl_surface.specs.Surfaces.{Surfaces, history_in, surface_at}
use Rattle.wl_surface.specs.Trees.{linked}
use Rattle.wl_surface.specs.declared.role.Role.TheVariants.{Subsurface}
use Rattle.law_desktop.specs.Soundness.{AreOnce}
use Rattle.law_desktop.proofs.Soundness.Orderly.{has_child}
use Rattle.law_desktop.proofs.Lists.Keys.{found-map, found-passes}
use Rattle.law_desktop.proofs.Marks.Stacks.{equal-numbers}
use Rattle.law_desktop.proofs.Lists.Standings.{any-last}
use Rattle.law_desktop.proofs.Truth.{differ, or-left, or-right}
use Rattle.law_desktop.proofs.Lists.Tests.{any-more}

-- ---- what was asked

-- the one list, or the other with a new child
abbrev pub IsGrown : {X : Type 0} → Type 0 → X → List X → List X → Type 0
IsGrown here x old new = (new ≡ old) ⊎ (here × (new ≡ old ++ x ∷ []))

-- the history is of those before, or of one of them with the new child
abbrev pub IsHistoryIn : ℕ → ℕ → ℕ → Surfaces → History → Type 0
IsHistoryIn number parent surface all h = (g : History) × (history_in surface all ≡ Some g) × IsGrown (surface ≡ parent) (AddChild number) g.requests h.requests

-- and so is the order, whatever counts
abbrev pub IsOrderIn : ℕ → ℕ → ℕ → ℕ → Surfaces → History → Type 0
IsOrderIn number parent surface counting all h =
    (g : History) × (m : ℕ) × (history_in surface all ≡ Some g)
    × IsGrown (surface ≡ parent) (Child number) (order (take m g.requests)) (order (take counting h.requests))

-- a child that was in an order, or the new one
abbrev pub IsChildIn : ℕ → ℕ → ℕ → ℕ → Surfaces → Type 0
IsChildIn number parent surface n all = (g : History) × (m : ℕ) × (history_in surface all ≡ Some g) × ((has_child n m g ≡ true) ⊎ ((surface ≡ parent) × (n ≡ number)))

abbrev with_child : ℕ → Surface → Surface
with_child child s = cond (s.id == child) (with_role Subsurface s) s

abbrev with_asked : ℕ → ℕ → Surface → Surface
with_asked number parent s = cond (s.id == parent) (asking (AddChild number) s) s

child-id : (child : ℕ) (s : Surface) → (with_child child s).id ≡ s.id
child-id child s = at (s.id == child)
  where
    at : (b : Bool) → (cond b (with_role Subsurface s) s).id ≡ s.id
    at true = refl
    at false = refl

child-history : (child : ℕ) (s : Surface) → (with_child child s).history ≡ s.history
child-history child s = at (s.id == child)
  where
    at : (b : Bool) → (cond b (with_role Subsurface s) s).history ≡ s.history
    at true = refl
    at false = refl

asked-id : (number parent id : ℕ) (s : Surface) → ((with_asked number parent s).id == id) ≡ (s.id == id)
asked-id number parent id s = at (s.id == parent)
  where
    at : (b : Bool) → ((cond b (asking (AddChild number) s) s).id == id) ≡ (s.id == id)
    at true = refl
    at false = refl

asked-history : (number parent : ℕ) (s : Surface) → IsGrown (s.id ≡ parent) (AddChild number) s.history.requests (with_asked number parent s).history.requests
asked-history number parent s = at (s.id == parent) refl
  where
    at : (b : Bool) → (s.id == parent) ≡ b → IsGrown (s.id ≡ parent) (AddChild number) s.history.requests (cond b (asking (AddChild number) s) s).history.requests
    at true e = inr (eqb-true s.id parent e, refl)
    at false e = inl refl

grown-as : {X A B : Type 0} (x : X) (old old' new new' : List X) → (A → B) → old ≡ old' → new ≡ new' → IsGrown A x old new → IsGrown B x old' new'
grown-as x old old' new new' f e g (inl same) = inl (sym g ∙ (same ∙ e))
grown-as x old old' new new' f e g (inr more) = inr (f more.0, sym g ∙ (more.1 ∙ ap (λ xs. xs ++ x ∷ []) e))

surface-linked : (number child parent surface : ℕ) (all : Surfaces) → surface_at surface (linked number child parent all) ≡ option_map (with_asked number parent)
    (option_map (with_child child) (surface_at surface all))
surface-linked number child parent surface all =
    found-map (λ s. s.id == surface) (with_asked number parent) (map (with_child child) all.surfaces) (asked-id number parent surface)
    ∙ ap (option_map (with_asked number parent)) (found-map (λ s. s.id == surface) (with_child child) all.surfaces (λ s. ap (λ id. id == surface) (child-id child s)))

pub history-linked : (number child parent surface : ℕ) (all : Surfaces) (h : History) → history_in surface (linked number child parent all) ≡ Some h
    → IsHistoryIn number parent surface all h
history-linked number child parent surface all h e =
    at (surface_at surface all) refl (ap (option_map (λ (s : Surface). s.history)) (sym (surface-linked number child parent surface all)) ∙ e)
  where
    at : (o : Option Surface) → surface_at surface all ≡ o → option_map (λ s. s.history) (option_map (with_asked number parent) (option_map (with_child child) o)) ≡ Some h
        → IsHistoryIn number parent surface all h
    at None found is = absurd (cc)
    at (Some s) found is =
        let id = eqb-true s.id surface (found-passes (λ s. s.id == surface) all.surfaces s found) in
        let new = same_Some (with_asked number parent (with_child child s)).history h is in (
          s.history,
          ap (option_map (λ (s : Surface). s.history)) found,
          grown-as (AddChild number) (with_child child s).history.requests s.history.requests (with_asked number parent (with_child child s)).history.requests h.requests
              (λ top. sym id ∙ (sym (child-id child s) ∙ top)) (ap (λ (g : History). g.requests) (child-history child s)) (ap (λ (g : History). g.requests) new)
              (asked-history number parent (with_child child s)),
        )

-- ---- orders

-- the first of one more are the first of those before, or all
take-last : {X : Type 0} (n : ℕ) (xs : List X) (x : X) → (m : ℕ) × ((take n (xs ++ x ∷ []) ≡ take m xs) ⊎ (take n (xs ++ x ∷ []) ≡ take m xs ++ x ∷ []))
take-last zero xs x = (zero, inl refl)
take-last (suc n) [] x = (zero, inr (take_all (suc n) (x ∷ []) (omega arith)))
take-last (suc n) (y ∷ ys) x = at (take-last n ys x)
  where
    at : (m : ℕ) × ((take n (ys ++ x ∷ []) ≡ take m ys) ⊎ (take n (ys ++ x ∷ []) ≡ take m ys ++ x ∷ []))
        → (m : ℕ) × ((y ∷ take n (ys ++ x ∷ []) ≡ take m (y ∷ ys)) ⊎ (y ∷ take n (ys ++ x ∷ []) ≡ take m (y ∷ ys) ++ x ∷ []))
    at (m, inl e) = (suc m, inl (ap (λ zs. y ∷ zs) e))
    at (m, inr e) = (suc m, inr (ap (λ zs. y ∷ zs) e))

fold-last : {A B : Type 0} (f : B → A → B) (b : B) (xs : List A) (x : A) → fold f b (xs ++ x ∷ []) ≡ f (fold f b xs) x
fold-last f b [] x = refl
fold-last f b (y ∷ ys) x = fold-last f (f b y) ys x

order-last : (number : ℕ) (rs : List Request) → order (rs ++ AddChild number ∷ []) ≡ order rs ++ Child number ∷ []
order-last number rs = fold-last ordered (Itself ∷ []) rs (AddChild number)

-- The order of a surface is one that was, or one with the new child on top.
pub order-linked : (number child parent surface counting : ℕ) (all : Surfaces) (h : History) → history_in surface (linked number child parent all) ≡ Some h
    → IsOrderIn number parent surface counting all h
order-linked number child parent surface counting all h e = at (history-linked number child parent surface all h e)
  where
    more : (rs : List Request) → surface ≡ parent → (m : ℕ)
        × ((take counting (rs ++ AddChild number ∷ []) ≡ take m rs) ⊎ (take counting (rs ++ AddChild number ∷ []) ≡ take m rs ++ AddChild number ∷ []))
        → (m : ℕ) × IsGrown (surface ≡ parent) (Child number) (order (take m rs)) (order (take counting (rs ++ AddChild number ∷ [])))
    more rs is (m, inl e) = (m, inl (ap order e))
    more rs is (m, inr e) = (m, inr (is, ap order e ∙ order-last number (take m rs)))

    at : IsHistoryIn number parent surface all h
        → IsOrderIn number parent surface counting all h
    at (g, found, inl same) = (g, counting, found, inl (ap (λ rs. order (take counting rs)) same))
    at (g, found, inr grown) =
        let last = more g.requests grown.0 (take-last counting g.requests (AddChild number)) in
        (g, last.0, found, subst (λ rs. IsGrown (surface ≡ parent) (Child number) (order (take last.0 g.requests)) (order (take counting rs))) (sym grown.1) last.1)

-- ---- members

-- a child of an order is one that was, or the new one
pub child-linked : (number child parent surface counting n : ℕ) (all : Surfaces) (h : History) → history_in surface (linked number child parent all) ≡ Some h → has_child n counting h ≡ true
    → IsChildIn number parent surface n all
child-linked number child parent surface counting n all h e there = at (order-linked number child parent surface counting all h e)
  where
    at : IsOrderIn number parent surface counting all h
        → IsChildIn number parent surface n all
    at (g, m, found, inl same) = (g, m, found, inl (sym (ap (list_any (is_member (Child n))) same) ∙ there))
    at (g, m, found, inr grown) =
        let old = order (take m g.requests) in
        let any = sym (any-last (is_member (Child n)) old (Child number)) ∙ (sym (ap (list_any (is_member (Child n))) grown.1) ∙ there) in
        (g, m, found, either (or_cases (list_any (is_member (Child n)) old) (n == number) any))
      where
        either : ((has_child n m g ≡ true) ⊎ ((n == number) ≡ true)) → (has_child n m g ≡ true) ⊎ ((surface ≡ parent) × (n ≡ number))
        either (inl e) = inl e
        either (inr e) = inr (grown.0, eqb-true n number e)

turned : (m o : Member) → is_member m o ≡ true → is_member o m ≡ true
turned Itself Itself e = e
turned (Child k) (Child l) e = equal-numbers l k (sym (eqb-true k l e))
turned m o e = absurd (cc)

-- one more that is not there yet
once-last : {X : Type 0} (same : X → X → Bool) (xs : List X) (x : X) → AreOnce same xs → list_any (λ y. same y x) xs ≡ false → AreOnce same (xs ++ x ∷ [])
once-last same [] x once none = (refl, tt)
once-last same (y ∷ ys) x once none = (
  any-last (same y) ys x ∙ or_from (list_any (same y) ys) (same y x) once.0 (or-left (same y x) (list_any (λ y. same y x) ys) none),
  once-last same ys x once.1 (or-right (same y x) (list_any (λ y. same y x) ys) none),
)

-- an order with a new child has no member twice
pub new-once : (number : ℕ) (members : List Member) → AreOnce is_member members → list_any (is_member (Child number)) members ≡ false → AreOnce is_member (members ++ Child number ∷ [])
new-once number members once none =
    once-last is_member members (Child number) once
    (false_from_ne_true (list_any (λ m. is_member m (Child number)) members)
    (λ e. differ (sym none ∙ any-more (λ m. is_member m (Child number)) (is_member (Child number)) (λ m. turned m (Child number)) members e)))

-- The trees of a toplevel stand one after another in the order of its popups, whichever of these are stacked.
use Rattle.std.proofs.Common.{◌≡◌, ℕ, Bool, true, false, cond, List, [], ◌∷◌, ◌++◌, map, refl, ap, ap₂, sym, subst, ◌∙◌, inl, inr, append_assoc}
use Rattle.std.specs.Prelude.{◌==◌, ◌⊎◌, filter, flat_map, fold}
use Rattle.std.specs.List.{list_any}
use Rattle.std.proofs.lemmas.Bool.{eqb-true, false_from_ne_true, or_from}
use Rattle.std.proofs.lemmas.List.{append-nil}
use Rattle.wl_surface.specs.Surfaces.{Surfaces}
use Rattle.spec_desktop.specs.Windows.{Root, StackedPopup, Window, roots_of, stacked, stacked_on}
use Rattle.law_desktop.specs.Soundness.{AreOnce}
use Rattle.law_desktop.proofs.Marks.Stacks.{equal-numbers}
use Rattle.law_desktop.specs.Toplevel.{AreInTurn, of_root}
use Rattle.law_desktop.proofs.RootsOf.Away.{Adds, adds-on}
use Rattle.law_desktop.proofs.Truth.{differ, or-left, or-right}
use Rattle.law_desktop.proofs.Lists.Each.{Each, each-append, each-map}

-- ---- lists that are in another, in its order

abbrev pub AreFrom : List ℕ → List ℕ → Type 0
AreFrom xs [] = xs ≡ []
AreFrom xs (y ∷ ys) = AreFrom xs ys ⊎ ((rest : List ℕ) × (xs ≡ y ∷ rest) × AreFrom rest ys)

pub all-from : (ys : List ℕ) → AreFrom ys ys
all-from [] = refl
all-from (y ∷ ys) = inr (ys, refl, all-from ys)

pub from-first : (x : ℕ) (xs ys : List ℕ) → AreFrom xs ys → AreFrom (x ∷ xs) (x ∷ ys)
from-first x xs ys f = inr (xs, refl, f)

pub through : (xs ys zs : List ℕ) → AreFrom xs ys → AreFrom ys zs → AreFrom xs zs
through xs ys [] f g = subst (λ (ws : List ℕ). AreFrom xs ws) g f
through xs ys (z ∷ zs) f (inl g) = inl (through xs ys zs f g)
through xs ys (z ∷ zs) f (inr (rest, e, g)) = at (subst (λ (ws : List ℕ). AreFrom xs ws) e f) (λ xs f. through xs rest zs f g)
  where
    at : AreFrom xs rest ⊎ ((ws : List ℕ) × (xs ≡ z ∷ ws) × AreFrom ws rest) → ((xs : List ℕ) → AreFrom xs rest → AreFrom xs zs)
        → AreFrom xs zs ⊎ ((ws : List ℕ) × (xs ≡ z ∷ ws) × AreFrom ws zs)
    at (inl h) later = inl (later xs h)
    at (inr (ws, same, h)) later = inr (ws, same, later ws h)

pub from-append : (xs ys us vs : List ℕ) → AreFrom xs ys → AreFrom us vs → AreFrom (xs ++ us) (ys ++ vs)
from-append xs [] us vs f g = subst (λ (ws : List ℕ). AreFrom (ws ++ us) vs) (sym f) g
from-append xs (y ∷ ys) us vs (inl f) g = inl (from-append xs ys us vs f g)
from-append xs (y ∷ ys) us vs (inr (rest, e, f)) g = inr (rest ++ us, ap (λ ws. ws ++ us) e, from-append rest ys us vs f g)

pub from-filter : (p : ℕ → Bool) (ys : List ℕ) → AreFrom (filter p ys) ys
from-filter p [] = refl
from-filter p (y ∷ ys) = at (p y) (from-filter p ys)
  where
    at : (b : Bool) → AreFrom (filter p ys) ys → AreFrom (cond b (y ∷ filter p ys) (filter p ys)) (y ∷ ys)
    at true f = inr (filter p ys, refl, f)
    at false f = inl f

-- what isn't in the other isn't in it
pub none-of : (x : ℕ) (xs ys : List ℕ) → AreFrom xs ys → list_any (λ y. x == y) ys ≡ false → list_any (λ y. x == y) xs ≡ false
none-of x xs [] f none = ap (list_any (λ y. x == y)) f
none-of x xs (y ∷ ys) (inl f) none = none-of x xs ys f (or-right (x == y) (list_any (λ z. x == z) ys) none)
none-of x xs (y ∷ ys) (inr (rest, e, f)) none =
    ap (list_any (λ z. x == z)) e
    ∙ or_from (x == y) (list_any (λ z. x == z) rest) (or-left (x == y) (list_any (λ z. x == z) ys) none) (none-of x rest ys f (or-right (x == y) (list_any (λ z. x == z) ys) none))

-- ---- the roots of a toplevel are from it and its popups

abbrev pub surfaces_of : List Root → List ℕ
surfaces_of rs = map (λ r. r.surface) rs

abbrev pub popup_surfaces : List StackedPopup → List ℕ
popup_surfaces ps = map (λ p. p.surface) ps

surfaces-append : (rs qs : List Root) → surfaces_of (rs ++ qs) ≡ surfaces_of rs ++ surfaces_of qs
surfaces-append [] qs = refl
surfaces-append (r ∷ rs) qs = ap (λ xs. r.surface ∷ xs) (surfaces-append rs qs)

adds-from : (p : StackedPopup) (rs on : List Root) → Adds p rs on → AreFrom (surfaces_of on) (p.surface ∷ [])
adds-from p rs [] e = inl refl
adds-from p rs (r ∷ []) e = inr ([], ap (λ n. n ∷ []) e.0, refl)
adds-from p rs (r ∷ q ∷ qs) e = absurd e

stacked-from : (all : Surfaces) (rs : List Root) (xs : List ℕ) (ps : List StackedPopup) → AreFrom (surfaces_of rs) xs → AreFrom (surfaces_of (fold (stacked all) rs ps)) (xs ++ popup_surfaces ps)
stacked-from all rs xs [] f = subst (λ ys. AreFrom (surfaces_of rs) ys) (sym (append-nil xs)) f
stacked-from all rs xs (p ∷ ps) f =
    subst (λ ys. AreFrom (surfaces_of (fold (stacked all) (stacked all rs p) ps)) ys) (append_assoc xs (p.surface ∷ []) (popup_surfaces ps))
    (stacked-from all (stacked all rs p) (xs ++ p.surface ∷ []) ps
    (subst (λ ys. AreFrom ys (xs ++ p.surface ∷ [])) (sym (surfaces-append rs (stacked_on all p rs)))
    (from-append (surfaces_of rs) xs (surfaces_of (stacked_on all p rs)) (p.surface ∷ []) f (adds-from p rs (stacked_on all p rs) (adds-on all p rs)))))

pub roots-from : (all : Surfaces) (t : Root) (ps : List StackedPopup) → AreFrom (surfaces_of (roots_of all t ps)) (t.surface ∷ popup_surfaces ps)
roots-from all t ps = stacked-from all (t ∷ []) (t.surface ∷ []) ps (all-from (t.surface ∷ []))

-- ---- windows of trees

abbrev pub IsOfRoot : ℕ → Window → Type 0
IsOfRoot root w = w.owner.root ≡ root

of-append : (root : ℕ) (ws vs : List Window) → of_root root (ws ++ vs) ≡ of_root root ws ++ of_root root vs
of-append root [] vs = refl
of-append root (w ∷ ws) vs = at (root == w.owner.root) (of-append root ws vs)
  where
    at : (b : Bool) → of_root root (ws ++ vs) ≡ of_root root ws ++ of_root root vs
        → cond b (w ∷ of_root root (ws ++ vs)) (of_root root (ws ++ vs)) ≡ cond b (w ∷ of_root root ws) (of_root root ws) ++ of_root root vs
    at true e = ap (λ ys. w ∷ ys) e
    at false e = e

of-none : (root : ℕ) (ws : List Window) → Each (λ w. (root == w.owner.root) ≡ false) ws → of_root root ws ≡ []
of-none root [] e = refl
of-none root (w ∷ ws) e = ap (λ b. cond b (w ∷ of_root root ws) (of_root root ws)) e.0 ∙ of-none root ws e.1

of-all : (root : ℕ) (ws : List Window) → Each (IsOfRoot root) ws → of_root root ws ≡ ws
of-all root [] e = refl
of-all root (w ∷ ws) e =
    ap (λ b. cond b (w ∷ of_root root ws) (of_root root ws)) (equal-numbers root w.owner.root (sym e.0)) ∙ ap (λ ys. w ∷ ys) (of-all root ws e.1)

abbrev pub AreApart : List ℕ → Type 0
AreApart xs = AreOnce (λ x y. x == y) xs

module _ (tree : Root → List Window) (own : (r : Root) → Each (IsOfRoot r.surface) (tree r)) where
  abbrev shown : List Root → List Window
  shown rs = flat_map tree rs

  tree-elsewhere : (x : ℕ) (r : Root) → (x == r.surface) ≡ false → Each (λ w. (x == w.owner.root) ≡ false) (tree r)
  tree-elsewhere x r other = each-map (IsOfRoot r.surface) (λ w. (x == w.owner.root) ≡ false) (λ w e. ap (λ n. x == n) e ∙ other) (tree r) (own r)

  none-shown : (x : ℕ) (rs : List Root) → list_any (λ y. x == y) (surfaces_of rs) ≡ false → Each (λ w. (x == w.owner.root) ≡ false) (shown rs)
  none-shown x [] none = tt
  none-shown x (r ∷ rs) none =
      each-append (λ w. (x == w.owner.root) ≡ false) (tree r) (shown rs) (tree-elsewhere x r (or-left (x == r.surface) (list_any (λ y. x == y) (surfaces_of rs)) none))
      (none-shown x rs (or-right (x == r.surface) (list_any (λ y. x == y) (surfaces_of rs)) none))

  abbrev AreNoneOf : List ℕ → List Window → Type 0
  AreNoneOf [] ws = Unit {0}
  AreNoneOf (x ∷ xs) ws = Each (λ w. (x == w.owner.root) ≡ false) ws × AreNoneOf xs ws

  none-tree : (xs : List ℕ) (r : Root) → list_any (λ y. r.surface == y) xs ≡ false → AreNoneOf xs (tree r)
  none-tree [] r none = tt
  none-tree (x ∷ xs) r none = (
    tree-elsewhere x r (false_from_ne_true (x == r.surface) (λ e. differ (sym (or-left (r.surface == x) (list_any (λ y. r.surface == y) xs) none) ∙ equal-numbers r.surface x (sym (eqb-true x r.surface e))))),
    none-tree xs r (or-right (r.surface == x) (list_any (λ y. r.surface == y) xs) none),
  )

  none-both : (xs : List ℕ) (ws vs : List Window) → AreNoneOf xs ws → AreNoneOf xs vs → AreNoneOf xs (ws ++ vs)
  none-both [] ws vs e f = tt
  none-both (x ∷ xs) ws vs e f = (each-append (λ w. (x == w.owner.root) ≡ false) ws vs e.0 f.0, none-both xs ws vs e.1 f.1)

  no-windows : (xs : List ℕ) → AreNoneOf xs []
  no-windows [] = tt
  no-windows (x ∷ xs) = (tt, no-windows xs)

  -- after windows of none of these roots
  turns : (before : List Window) (rs : List Root) (xs : List ℕ) → AreNoneOf xs before → AreFrom (surfaces_of rs) xs → AreApart xs
      → flat_map (λ x. of_root x (before ++ shown rs)) xs ≡ shown rs
  turns before [] [] none f once = refl
  turns before (r ∷ rs) [] none f once = absurd (cc)
  turns before rs (x ∷ xs) none (inl f) once =
      ap (λ ws. ws ++ flat_map (λ x. of_root x (before ++ shown rs)) xs)
      (of-none x (before ++ shown rs)
      (each-append (λ w. (x == w.owner.root) ≡ false) before (shown rs) none.0 (none-shown x rs (none-of x (surfaces_of rs) xs f once.0))))
      ∙ turns before rs xs none.1 f once.1
  turns before [] (x ∷ xs) none (inr (rest, e, f)) once = absurd (cc)
  turns before (r ∷ rs) (x ∷ xs) none (inr (rest, e, f)) once =
      let is : r.surface ≡ x = ap first e in
      let rest-is : surfaces_of rs ≡ rest = ap later e in
      let from : AreFrom (surfaces_of rs) xs = subst (λ ys. AreFrom ys xs) (sym rest-is) f in
      ap₂ (λ (ws vs : List Window). ws ++ vs)
      (of-append x before (tree r ++ shown rs)
      ∙ (ap (λ ws. ws ++ of_root x (tree r ++ shown rs)) (of-none x before none.0)
      ∙ (of-append x (tree r) (shown rs)
      ∙ (ap₂ (λ (ws vs : List Window). ws ++ vs) (of-all x (tree r) (each-map (IsOfRoot r.surface) (IsOfRoot x) (λ w f. f ∙ is) (tree r) (own r)))
      (of-none x (shown rs) (none-shown x rs (none-of x (surfaces_of rs) xs from once.0))) ∙ append-nil (tree r)))))
      (ap (λ ws. flat_map (λ y. of_root y ws) xs) (sym (append_assoc before (tree r) (shown rs)))
      ∙ turns (before ++ tree r) rs xs
      (none-both xs before (tree r) none.1 (none-tree xs r (subst (λ n. list_any (λ y. n == y) xs ≡ false) (sym is) once.0))) from once.1)
    where
      first : List ℕ → ℕ
      first [] = 0
      first (n ∷ ns) = n

      later : List ℕ → List ℕ
      later [] = []
      later (n ∷ ns) = ns

  pub in-turn : (rs : List Root) (xs : List ℕ) → AreFrom (surfaces_of rs) xs → AreApart xs → AreInTurn xs (shown rs)
  in-turn rs xs from once = sym (turns [] rs xs (no-windows xs) from once)

-- nothing is in any order
pub none-in-turn : (xs : List ℕ) → AreInTurn xs []
none-in-turn [] = refl
none-in-turn (x ∷ xs) = none-in-turn xs

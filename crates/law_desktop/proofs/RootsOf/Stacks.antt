-- Toplevels that stand: one of them among the others.
use Rattle.std.proofs.Common.{◌≡◌, ℕ, Bool, true, false, cond, Option, Some, None, List, [], ◌∷◌, ◌++◌, refl, ap, ap₂, sym, ◌∙◌, inl, inr}
use Rattle.std.specs.Prelude.{◌⊎◌, find, not}
use Rattle.std.specs.List.{list_any}
use Rattle.std.proofs.lemmas.List.{append-nil}
use Rattle.std.proofs.lemmas.Bool.{false_from_ne_true, or_from}
use Rattle.spec_desktop.specs.Stacking.{Standing, is_of, without_surface_of}
use Rattle.law_desktop.specs.Laws.{AreApart}
use Rattle.law_desktop.proofs.Lists.Standings.{of-client, of-it, of-surface}
use Rattle.law_desktop.proofs.Truth.{differ, or-left, or-right}
use Rattle.law_desktop.proofs.Lists.Tests.{find-none}

-- ---- lists

find-later : {X : Type 0} (p : X → Bool) (xs ys : List X) → list_any p xs ≡ false → find p (xs ++ ys) ≡ find p ys
find-later p [] ys none = refl
find-later p (x ∷ xs) ys none =
    ap (λ b. cond b (Some x) (find p (xs ++ ys))) (or-left (p x) (list_any p xs) none) ∙ find-later p xs ys (or-right (p x) (list_any p xs) none)

-- ---- one toplevel, if it stands

-- the toplevel below the others
abbrev pub stand : Option Standing → List Standing → List Standing
stand None above = above
stand (Some s) above = s ∷ above

-- it is of this surface of the client
abbrev pub IsItsOwn : ℕ → ℕ → Option Standing → Type 0
IsItsOwn c root None = Unit {0}
IsItsOwn c root (Some s) = is_of c root s ≡ true

pub found-among : (c root : ℕ) (below above : List Standing) (o : Option Standing) → IsItsOwn c root o → list_any (is_of c root) below ≡ false → list_any (is_of c root) above ≡ false
    → find (is_of c root) (below ++ stand o above) ≡ o
found-among c root below above None its no_lower no_higher = find-later (is_of c root) below above no_lower ∙ find-none (is_of c root) above no_higher
found-among c root below above (Some s) its no_lower no_higher =
    find-later (is_of c root) below (s ∷ above) no_lower ∙ ap (λ b. cond b (Some s) (find (is_of c root) above)) its

-- ---- where it stands

-- A toplevel stands among others, none of which is of its surface.
pub record IsFound (c root : ℕ) (ss : List Standing) : Type 0 where
  pub below : List Standing
  pub it : Standing
  pub above : List Standing
  pub parts : ss ≡ below ++ it ∷ above
  pub its : is_of c root it ≡ true
  pub no_lower : list_any (is_of c root) below ≡ false
  pub no_higher : list_any (is_of c root) above ≡ false

pub none-or-found : (c root : ℕ) (ss : List Standing) → AreApart ss → (list_any (is_of c root) ss ≡ false) ⊎ IsFound c root ss
none-or-found c root [] apart = inl refl
none-or-found c root (x ∷ xs) apart = at (is_of c root x) refl (none-or-found c root xs apart.1)
  where
    at : (b : Bool) → is_of c root x ≡ b → (list_any (is_of c root) xs ≡ false) ⊎ IsFound c root xs → (list_any (is_of c root) (x ∷ xs) ≡ false) ⊎ IsFound c root (x ∷ xs)
    at true e rest =
        inr
        (record {
          below = [];
          it = x;
          above = xs;
          parts = refl;
          its = e;
          no_lower = refl;
          no_higher = ap₂ (λ (a b : ℕ). list_any (is_of a b) xs) (sym (of-client c root x e)) (sym (of-surface c root x e)) ∙ apart.0;
        })
    at false e (inl none) = inl (or_from (is_of c root x) (list_any (is_of c root) xs) e none)
    at false e (inr f) =
        inr
        (record {
          below = x ∷ f.below;
          it = f.it;
          above = f.above;
          parts = ap (λ ys. x ∷ ys) f.parts;
          its = f.its;
          no_lower = or_from (is_of c root x) (list_any (is_of c root) f.below) e f.no_lower;
          no_higher = f.no_higher;
        })

-- ---- one is taken out

pub without-lower : (c root : ℕ) (below rest : List Standing) → list_any (is_of c root) below ≡ false → without_surface_of c root (below ++ rest) ≡ below ++ without_surface_of c root rest
without-lower c root [] rest none = refl
without-lower c root (x ∷ xs) rest none =
    ap (λ b. cond (not b) (x ∷ without_surface_of c root (xs ++ rest)) (without_surface_of c root (xs ++ rest))) (or-left (is_of c root x) (list_any (is_of c root) xs) none)
    ∙ ap (λ ys. x ∷ ys) (without-lower c root xs rest (or-right (is_of c root x) (list_any (is_of c root) xs) none))

pub without-none : (c root : ℕ) (ss : List Standing) → list_any (is_of c root) ss ≡ false → without_surface_of c root ss ≡ ss
without-none c root ss none =
    ap (without_surface_of c root) (sym (append-nil ss)) ∙ (without-lower c root ss [] none ∙ append-nil ss)

pub without-it : (c root : ℕ) (ss : List Standing) (f : IsFound c root ss) → without_surface_of c root ss ≡ f.below ++ f.above
without-it c root ss f =
    ap (without_surface_of c root) f.parts
    ∙ (without-lower c root f.below (f.it ∷ f.above) f.no_lower
    ∙ ap (λ ys. f.below ++ ys)
    (ap (λ b. cond (not b) (f.it ∷ without_surface_of c root f.above) (without_surface_of c root f.above)) f.its ∙ without-none c root f.above f.no_higher))

-- ---- one is put on top

-- where none stands twice, the topmost doesn't stand below
pub none-lower : (ss : List Standing) (t : Standing) → AreApart (ss ++ t ∷ []) → list_any (is_of t.client t.surface) ss ≡ false
none-lower [] t apart = refl
none-lower (s ∷ ss) t apart =
    or_from (is_of t.client t.surface s) (list_any (is_of t.client t.surface) ss)
    (false_from_ne_true (is_of t.client t.surface s) (λ is. differ (sym (last ss apart.0) ∙ of-it s.client s.surface t (sym (of-client t.client t.surface s is)) (sym (of-surface t.client t.surface s is)))))
    (none-lower ss t apart.1)
  where
    last : (rs : List Standing) → list_any (is_of s.client s.surface) (rs ++ t ∷ []) ≡ false → is_of s.client s.surface t ≡ false
    last [] none = or-left (is_of s.client s.surface t) false none
    last (r ∷ rs) none = last rs (or-right (is_of s.client s.surface r) (list_any (is_of s.client s.surface) (rs ++ t ∷ [])) none)

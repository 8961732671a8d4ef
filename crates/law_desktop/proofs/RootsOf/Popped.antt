-- The popups of a client's xdg_surfaces, and what becomes of them where each xdg_surface changes by itself.
use Rattle.std.proofs.Common.{◌≡◌, ℕ, Bool, true, false, cond, Option, Some, None, List, [], ◌∷◌, ◌++◌, map, refl, ap, ap₂, sym, subst, ◌∙◌}
use Rattle.std.proofs.lemmas.Bool.{false_from_ne_true}
use Rattle.std.specs.Prelude.{◌==◌, find, flat_map, fold, nat_lt}
use Rattle.std.specs.Option.{option_map}
use Rattle.wl_shell.specs.Popups.{Popped, by_number, popped_kind, popped_of, popped_role, popups_of}
use Rattle.wl_shell.specs.Shell.{IsPopup, Kind, RoleObject, Shell, Toplevel, XdgSurface, xdg_at, xdg_of}
use Rattle.spec_desktop.specs.Popups.{surface_at_xdg}
use Rattle.law_desktop.specs.Apart.{AreApartBy}
use Rattle.law_desktop.proofs.Lists.Keys.{found-map}
use Rattle.law_desktop.proofs.Marks.Stacks.{equal-numbers}
use Rattle.law_desktop.proofs.Soundness.Trees.{each-flat}
use Rattle.law_desktop.proofs.Lists.Each.{Each, each-both, each-map}
use Rattle.law_desktop.proofs.RootsOf.Ordered.{each-put}

-- ---- the popup of an xdg_surface

-- it is of that
pub popped-its : (x : XdgSurface) → Each (λ p. (p.xdg ≡ x) × (popped_of p.xdg ≡ p ∷ [])) (popped_of x)
popped-its x = at x.role refl
  where
    kind : (object : RoleObject) → x.role ≡ Some object → (k : Kind) → object.kind ≡ k → Each (λ p. (p.xdg ≡ x) × (popped_of p.xdg ≡ p ∷ [])) (popped_kind x object k)
    kind object e Toplevel f = tt
    kind object e (IsPopup popup) f = ((refl, ap (popped_role x) e ∙ ap (popped_kind x object) f), tt)

    at : (o : Option RoleObject) → x.role ≡ o → Each (λ p. (p.xdg ≡ x) × (popped_of p.xdg ≡ p ∷ [])) (popped_role x o)
    at None e = tt
    at (Some object) e = kind object e object.kind refl

-- An xdg_surface of these is found by its id and by its surface.
pub record IsThere (shell : Shell) (x : XdgSurface) : Type 0 where
  pub by_id : xdg_at x.id shell ≡ Some x
  pub by_surface : xdg_of x.surface shell ≡ Some x

-- A popup of these xdg_surfaces is that of its own.
pub record IsPopped (shell : Shell) (p : Popped) : Type 0 where
  pub there : IsThere shell p.xdg
  pub its : popped_of p.xdg ≡ p ∷ []

all-by : (has : ℕ → XdgSurface → Bool) (key : XdgSurface → ℕ) → ((x : XdgSurface) → has (key x) x ≡ true) → (shell : Shell) → AreApartBy has shell
    → Each (λ x. find (has (key x)) shell ≡ Some x) shell
all-by has key self [] apart = tt
all-by has key self (x ∷ xs) apart = (
  ap (λ b. cond b (Some x) (find (has (key x)) xs)) (self x),
  each-map (λ y. find (has (key y)) xs ≡ Some y) (λ y. find (has (key y)) (x ∷ xs) ≡ Some y)
      (λ y found. ap (λ b. cond b (Some x) (find (has (key y)) xs)) (false_from_ne_true (has (key y) x) (λ e. never (sym (apart.0 (key y) e) ∙ found))) ∙ found) xs
      (all-by has key self xs apart.1),
)
  where
    never : {y : XdgSurface} → None ≡ Some y → ⊥
    never e = absurd (cc)

pub all-there : (shell : Shell) → AreApartBy (λ id x. x.id == id) shell → AreApartBy (λ surface x. x.surface == surface) shell → Each (IsThere shell) shell
all-there shell ids surfaces =
    each-both (λ x. xdg_at x.id shell ≡ Some x) (λ x. xdg_of x.surface shell ≡ Some x) (IsThere shell) (λ x a b. record { by_id = a; by_surface = b }) shell
    (all-by (λ id x. x.id == id) (λ x. x.id) (λ x. equal-numbers x.id x.id refl) shell ids)
    (all-by (λ surface x. x.surface == surface) (λ x. x.surface) (λ x. equal-numbers x.surface x.surface refl) shell surfaces)

-- ---- in order of creation

each-ordered : (P : Popped → Type 0) (acc ps : List Popped) → Each P acc → Each P ps → Each P (fold (λ ps p. by_number p ps) acc ps)
each-ordered P acc [] e f = e
each-ordered P acc (p ∷ ps) e f = each-ordered P (by_number p acc) ps (each-put P p acc f.0 e) f.1

pub each-popup : (P : Popped → Type 0) (shell : Shell) → Each (λ x. Each P (popped_of x)) shell → Each P (popups_of shell)
each-popup P shell e = each-ordered P [] (flat_map popped_of shell) tt (each-flat P popped_of shell e)

pub all-popped : (shell : Shell) → AreApartBy (λ id x. x.id == id) shell → AreApartBy (λ surface x. x.surface == surface) shell → Each (IsPopped shell) (popups_of shell)
all-popped shell ids surfaces =
    each-popup (IsPopped shell) shell
    (each-map (IsThere shell) (λ x. Each (IsPopped shell) (popped_of x))
    (λ x there. each-map (λ p. (p.xdg ≡ x) × (popped_of p.xdg ≡ p ∷ [])) (IsPopped shell) (λ p its. record { there = subst (IsThere shell) (sym its.0) there; its = its.1 })
    (popped_of x) (popped-its x)) shell (all-there shell ids surfaces))

-- ---- each xdg_surface changes by itself

-- no popup, before and after; or one of the same number, with the same parent
abbrev pub AreAlike : List Popped → List Popped → Type 0
AreAlike [] [] = Unit {0}
AreAlike [] (q ∷ qs) = ⊥
AreAlike (p ∷ ps) [] = ⊥
AreAlike (p ∷ ps) (q ∷ []) = (q.popup.number ≡ p.popup.number) × (q.popup.parent ≡ p.popup.parent) × (ps ≡ [])
AreAlike (p ∷ ps) (q ∷ r ∷ qs) = ⊥

-- so it is, whatever becomes of the parent
abbrev pub AreNumberedAlike : List Popped → List Popped → Type 0
AreNumberedAlike [] [] = Unit {0}
AreNumberedAlike [] (q ∷ qs) = ⊥
AreNumberedAlike (p ∷ ps) [] = ⊥
AreNumberedAlike (p ∷ ps) (q ∷ []) = (q.popup.number ≡ p.popup.number) × (ps ≡ [])
AreNumberedAlike (p ∷ ps) (q ∷ r ∷ qs) = ⊥

-- the change keeps ids, surfaces, and which popups there are, with their parents
pub record KeepsPopups (f : XdgSurface → XdgSurface) : Type 0 where
  pub ids : (x : XdgSurface) → (f x).id ≡ x.id
  pub surfaces : (x : XdgSurface) → (f x).surface ≡ x.surface
  pub alike : (x : XdgSurface) → AreAlike (popped_of x) (popped_of (f x))

-- of these xdg_surfaces, whatever becomes of the parents
pub record KeepsNumbers (f : XdgSurface → XdgSurface) (shell : Shell) : Type 0 where
  pub ids : (x : XdgSurface) → (f x).id ≡ x.id
  pub surfaces : (x : XdgSurface) → (f x).surface ≡ x.surface
  pub alike : Each (λ x. AreNumberedAlike (popped_of x) (popped_of (f x))) shell

alike-numbered : (ps qs : List Popped) → AreAlike ps qs → AreNumberedAlike ps qs
alike-numbered [] [] e = tt
alike-numbered (p ∷ ps) (q ∷ []) e = (e.0, e.2)
alike-numbered ps qs e = e

pub numbered : (f : XdgSurface → XdgSurface) → KeepsPopups f → (shell : Shell) → KeepsNumbers f shell
numbered f keeps shell = record {
  ids = keeps.ids;
  surfaces = keeps.surfaces;
  alike = each shell;
}
  where
    each : (xs : Shell) → Each (λ x. AreNumberedAlike (popped_of x) (popped_of (f x))) xs
    each [] = tt
    each (x ∷ xs) = (alike-numbered (popped_of x) (popped_of (f x)) (keeps.alike x), each xs)

abbrev pub first_or : Popped → List Popped → Popped
first_or p [] = p
first_or p (q ∷ qs) = q

-- what becomes of a popup
abbrev pub through : (XdgSurface → XdgSurface) → Popped → Popped
through f p = first_or p (popped_of (f p.xdg))

pub record IsThrough (f : XdgSurface → XdgSurface) (p : Popped) : Type 0 where
  pub xdg : (through f p).xdg ≡ f p.xdg
  pub number : (through f p).popup.number ≡ p.popup.number
  pub all : popped_of (f p.xdg) ≡ through f p ∷ []

-- the parent stays
pub parent-through : (f : XdgSurface → XdgSurface) → KeepsPopups f → (p : Popped) → popped_of p.xdg ≡ p ∷ [] → (through f p).popup.parent ≡ p.popup.parent
parent-through f keeps p its = at (popped_of (f p.xdg)) (subst (λ (ps : List Popped). AreAlike ps (popped_of (f p.xdg))) its (keeps.alike p.xdg))
  where
    at : (qs : List Popped) → AreAlike (p ∷ []) qs → (first_or p qs).popup.parent ≡ p.popup.parent
    at [] e = absurd e
    at (q ∷ []) e = e.1
    at (q ∷ r ∷ qs) e = absurd e

module _ (f : XdgSurface → XdgSurface) where
  goes-through : (p : Popped) → popped_of p.xdg ≡ p ∷ [] → AreNumberedAlike (popped_of p.xdg) (popped_of (f p.xdg)) → IsThrough f p
  goes-through p its alike = at (popped_of (f p.xdg)) refl (subst (λ (ps : List Popped). AreNumberedAlike ps (popped_of (f p.xdg))) its alike) (popped-its (f p.xdg))
    where
      at : (qs : List Popped) → popped_of (f p.xdg) ≡ qs → AreNumberedAlike (p ∷ []) qs → Each (λ q. (q.xdg ≡ f p.xdg) × (popped_of q.xdg ≡ q ∷ [])) qs → IsThrough f p
      at [] e a b = absurd a
      at (q ∷ []) e a b =
          let is : through f p ≡ q = ap (first_or p) e in
          record {
            xdg = ap (λ (r : Popped). r.xdg) is ∙ b.0.0;
            number = ap (λ (r : Popped). r.popup.number) is ∙ a.0;
            all = e ∙ ap (λ (r : Popped). r ∷ []) (sym is);
          }
      at (q ∷ r ∷ qs) e a b = absurd a

  popped-through : (x : XdgSurface) → AreNumberedAlike (popped_of x) (popped_of (f x)) → popped_of (f x) ≡ map (through f) (popped_of x)
  popped-through x alike = at (popped_of x) refl (popped_of (f x)) refl alike (popped-its x)
    where
      at : (ps : List Popped) → popped_of x ≡ ps → (qs : List Popped) → popped_of (f x) ≡ qs → AreNumberedAlike ps qs → Each (λ p. (p.xdg ≡ x) × (popped_of p.xdg ≡ p ∷ [])) ps
          → qs ≡ map (through f) ps
      at [] e [] g a b = refl
      at [] e (q ∷ qs) g a b = absurd a
      at (p ∷ ps) e [] g a b = absurd a
      at (p ∷ ps) e (q ∷ []) g a b =
          ap₂ (λ (r : Popped) (rs : List Popped). r ∷ rs) (ap (first_or p) (sym g ∙ ap (λ y. popped_of (f y)) (sym b.0.0))) (ap (map (through f)) (sym a.1))
      at (p ∷ ps) e (q ∷ r ∷ qs) g a b = absurd a

  by-number-through : (p : Popped) (ps : List Popped) → IsThrough f p → Each (IsThrough f) ps → by_number (through f p) (map (through f) ps) ≡ map (through f) (by_number p ps)
  by-number-through p [] e g = refl
  by-number-through p (q ∷ qs) e g = ap₂ (λ (m n : ℕ). cond (nat_lt m n) (through f p ∷ through f q ∷ map (through f) qs) (through f q ∷ by_number (through f p) (map (through f) qs))) e.number g.0.number
      ∙ at (nat_lt p.popup.number q.popup.number) (by-number-through p qs e g.1)
    where
      at : (b : Bool) → by_number (through f p) (map (through f) qs) ≡ map (through f) (by_number p qs)
          → cond b (through f p ∷ through f q ∷ map (through f) qs) (through f q ∷ by_number (through f p) (map (through f) qs)) ≡ map (through f) (cond b (p ∷ q ∷ qs) (q ∷ by_number p qs))
      at true rest = refl
      at false rest = ap (λ rs. through f q ∷ rs) rest

  ordered-through : (acc ps : List Popped) → Each (IsThrough f) acc → Each (IsThrough f) ps
      → fold (λ ps p. by_number p ps) (map (through f) acc) (map (through f) ps) ≡ map (through f) (fold (λ ps p. by_number p ps) acc ps)
  ordered-through acc [] e g = refl
  ordered-through acc (p ∷ ps) e g =
      ap (λ qs. fold (λ ps p. by_number p ps) qs (map (through f) ps)) (by-number-through p acc g.0 e)
      ∙ ordered-through (by_number p acc) ps (each-put (IsThrough f) p acc g.0 e) g.1

  abbrev AreKept : Shell → Type 0
  AreKept shell = Each (λ x. AreNumberedAlike (popped_of x) (popped_of (f x))) shell

  flat-through : (shell : Shell) → AreKept shell → flat_map popped_of (map f shell) ≡ map (through f) (flat_map popped_of shell)
  flat-through [] kept = refl
  flat-through (x ∷ xs) kept =
      ap₂ (λ (ps qs : List Popped). ps ++ qs) (popped-through x kept.0) (flat-through xs kept.1) ∙ sym (map-append (popped_of x) (flat_map popped_of xs))
    where
      map-append : (ps qs : List Popped) → map (through f) (ps ++ qs) ≡ map (through f) ps ++ map (through f) qs
      map-append [] qs = refl
      map-append (p ∷ ps) qs = ap (λ rs. through f p ∷ rs) (map-append ps qs)

  all-flat : (shell : Shell) → AreKept shell → Each (IsThrough f) (flat_map popped_of shell)
  all-flat shell kept =
      each-flat (IsThrough f) popped_of shell
      (each-map (λ x. AreNumberedAlike (popped_of x) (popped_of (f x))) (λ x. Each (IsThrough f) (popped_of x))
      (λ x alike.
      each-map (λ p. (p.xdg ≡ x) × (popped_of p.xdg ≡ p ∷ [])) (IsThrough f)
      (λ p its. goes-through p its.1 (subst (λ y. AreNumberedAlike (popped_of y) (popped_of (f y))) (sym its.0) alike)) (popped_of x) (popped-its x)) shell kept)

  module _ (shell : Shell) (keeps : KeepsNumbers f shell) where
    -- the popups are those before, each through the change
    pub popups-through : popups_of (map f shell) ≡ map (through f) (popups_of shell)
    popups-through =
        ap (fold (λ ps p. by_number p ps) []) (flat-through shell keeps.alike) ∙ ordered-through [] (flat_map popped_of shell) tt (all-flat shell keeps.alike)

    pub all-through : Each (IsThrough f) (popups_of shell)
    all-through = each-ordered (IsThrough f) [] (flat_map popped_of shell) tt (all-flat shell keeps.alike)

    -- an id names the xdg_surface of the same surface
    pub surface-through : (id : ℕ) → surface_at_xdg id (map f shell) ≡ surface_at_xdg id shell
    surface-through id =
        ap (option_map (λ (x : XdgSurface). x.surface)) (found-map (λ x. x.id == id) f shell (λ x. ap (λ n. n == id) (keeps.ids x))) ∙ same (xdg_at id shell)
      where
        same : (o : Option XdgSurface) → option_map (λ (x : XdgSurface). x.surface) (option_map f o) ≡ option_map (λ (x : XdgSurface). x.surface) o
        same None = refl
        same (Some x) = ap (λ n. Some n) (keeps.surfaces x)

    pub xdg-through : (surface : ℕ) → xdg_of surface (map f shell) ≡ option_map f (xdg_of surface shell)
    xdg-through surface = found-map (λ x. x.surface == surface) f shell (λ x. ap (λ n. n == surface) (keeps.surfaces x))

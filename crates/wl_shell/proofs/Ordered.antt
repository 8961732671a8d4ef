-- The popups of a client in order of creation, and what is kept of each.
use Rattle.std.proofs.Common.{◌≡◌, ◌<◌, ℕ, List, [], ◌∷◌, ◌++◌, Bool, true, false, Option, Some, None, inl, inr, refl, ap, subst, sym, ◌∙◌, arith}
use Rattle.std.specs.Prelude.{◌==◌, ◌||◌, ◌⊎◌, cond, filter, flat_map, fold, if◌then◌else◌, nat_lt}
use Rattle.std.specs.List.{list_any}
use Rattle.std.specs.Option.{option_map_or}
use Rattle.std.proofs.lemmas.Bool.{eqb-true}
use Rattle.std.proofs.lemmas.Bool.Decides.{nat_tests}
use Rattle.wl_shell.specs.Agreement.{AreApart, IsShell}
use Rattle.wl_shell.specs.InOrder.{AreRising, IsOnly}
use Rattle.wl_shell.specs.PopupsKept.{has_popup, number_of}
use Rattle.wl_shell.proofs.ShellsStanding.{kept-for}
use Rattle.wl_surface.specs.State.{History}
use Rattle.wl_shell.specs.Kept.{Kept}
use Rattle.wl_shell.specs.Popups.{Popped, by_number, kind_popup, popped_kind, popped_of, popped_role, popup_in, popups_of}
use Rattle.wl_shell.specs.Shell.{IsPopup, Kind, Popup, RoleObject, Shell, Toplevel, XdgSurface, xdg_of}

-- ---- lists

abbrev pub Each : {X : Type 0} → (X → Type 0) → List X → Type 0
Each P [] = Unit {0}
Each P (x ∷ xs) = P x × Each P xs

abbrev pub IsAmong : Popped → List Popped → Type 0
IsAmong q [] = ⊥
IsAmong q (p ∷ ps) = (p ≡ q) ⊎ IsAmong q ps

pub each-map : {X : Type 0} (P Q : X → Type 0) → ((x : X) → P x → Q x) → (xs : List X) → Each P xs → Each Q xs
each-map P Q to [] e = tt
each-map P Q to (x ∷ xs) e = (to x e.0, each-map P Q to xs e.1)

each-append : {X : Type 0} (P : X → Type 0) (xs ys : List X) → Each P xs → Each P ys → Each P (xs ++ ys)
each-append P [] ys e f = f
each-append P (x ∷ xs) ys e f = (e.0, each-append P xs ys e.1 f)

each-flat : {X Y : Type 0} (Q : X → Type 0) (P : Y → Type 0) (f : X → List Y) → ((x : X) → Q x → Each P (f x)) → (xs : List X) → Each Q xs → Each P (flat_map f xs)
each-flat Q P f to [] e = tt
each-flat Q P f to (x ∷ xs) e = each-append P (f x) (flat_map f xs) (to x e.0) (each-flat Q P f to xs e.1)

pub each-filter : {X : Type 0} (P : X → Type 0) (test : X → Bool) (xs : List X) → Each P xs → Each P (filter test xs)
each-filter P test [] e = tt
each-filter P test (x ∷ xs) e = at (test x) (each-filter P test xs e.1)
  where
    at : (b : Bool) → Each P (filter test xs) → Each P (cond b (x ∷ filter test xs) (filter test xs))
    at true rest = (e.0, rest)
    at false rest = rest

among-left : (q : Popped) (ps qs : List Popped) → IsAmong q ps → IsAmong q (ps ++ qs)
among-left q [] qs e = absurd e
among-left q (p ∷ ps) qs (inl e) = inl e
among-left q (p ∷ ps) qs (inr e) = inr (among-left q ps qs e)

among-right : (q : Popped) (ps qs : List Popped) → IsAmong q qs → IsAmong q (ps ++ qs)
among-right q [] qs e = e
among-right q (p ∷ ps) qs e = inr (among-right q ps qs e)

pub at-among : (P : Popped → Type 0) (q : Popped) (ps : List Popped) → IsAmong q ps → Each P ps → P q
at-among P q [] e f = absurd e
at-among P q (p ∷ ps) (inl e) f = subst P e f.0
at-among P q (p ∷ ps) (inr e) f = at-among P q ps e f.1

-- ---- in order of creation

each-by-number : (P : Popped → Type 0) (p : Popped) (ps : List Popped) → P p → Each P ps → Each P (by_number p ps)
each-by-number P p [] e f = (e, tt)
each-by-number P p (q ∷ qs) e f = at (nat_lt p.popup.number q.popup.number) (each-by-number P p qs e f.1)
  where
    at : (b : Bool) → Each P (by_number p qs) → Each P (if b then p ∷ q ∷ qs else q ∷ by_number p qs)
    at true rest = (e, f)
    at false rest = (f.0, rest)

each-ordered : (P : Popped → Type 0) (acc ps : List Popped) → Each P acc → Each P ps → Each P (fold (λ ps p. by_number p ps) acc ps)
each-ordered P acc [] e f = e
each-ordered P acc (p ∷ ps) e f = each-ordered P (by_number p acc) ps (each-by-number P p acc f.0 e) f.1

among-new : (p : Popped) (ps : List Popped) → IsAmong p (by_number p ps)
among-new p [] = inl refl
among-new p (q ∷ qs) = at (nat_lt p.popup.number q.popup.number) (among-new p qs)
  where
    at : (b : Bool) → IsAmong p (by_number p qs) → IsAmong p (if b then p ∷ q ∷ qs else q ∷ by_number p qs)
    at true rest = inl refl
    at false rest = inr rest

among-old : (r p : Popped) (ps : List Popped) → IsAmong r ps → IsAmong r (by_number p ps)
among-old r p [] e = absurd e
among-old r p (q ∷ qs) e = at (nat_lt p.popup.number q.popup.number) e (among-old r p qs)
  where
    at : (b : Bool) → (q ≡ r) ⊎ IsAmong r qs → (IsAmong r qs → IsAmong r (by_number p qs)) → IsAmong r (if b then p ∷ q ∷ qs else q ∷ by_number p qs)
    at true e later = inr e
    at false (inl e) later = inl e
    at false (inr e) later = inr (later e)

among-acc : (q : Popped) (acc ps : List Popped) → IsAmong q acc → IsAmong q (fold (λ ps p. by_number p ps) acc ps)
among-acc q acc [] e = e
among-acc q acc (p ∷ ps) e = among-acc q (by_number p acc) ps (among-old q p acc e)

among-ordered : (q : Popped) (acc ps : List Popped) → IsAmong q ps → IsAmong q (fold (λ ps p. by_number p ps) acc ps)
among-ordered q acc [] e = absurd e
among-ordered q acc (p ∷ ps) (inl e) = among-acc q (by_number p acc) ps (subst (λ (r : Popped). IsAmong r (by_number p acc)) e (among-new p acc))
among-ordered q acc (p ∷ ps) (inr e) = among-ordered q (by_number p acc) ps e

-- ---- popups and their xdg_surfaces

-- it is that of its xdg_surface
abbrev pub IsIts : Shell → Popped → Type 0
IsIts shell p = IsOnly shell p.xdg.surface p

same-number : (n : ℕ) → (n == n) ≡ true
same-number n = grind (arith, nat_tests)

all-there : (shell : Shell) → AreApart shell → Each (λ x. xdg_of x.surface shell ≡ Some x) shell
all-there [] apart = tt
all-there (x ∷ xs) apart = (
  ap (λ b. if b then Some x else xdg_of x.surface xs) (same-number x.surface),
  each-map (λ y. xdg_of y.surface xs ≡ Some y) (λ y. xdg_of y.surface (x ∷ xs) ≡ Some y) beside xs (all-there xs apart.2),
)
  where
    beside : (y : XdgSurface) → xdg_of y.surface xs ≡ Some y → (if x.surface == y.surface then Some x else xdg_of y.surface xs) ≡ Some y
    beside y found = side (x.surface == y.surface) refl
      where
        side : (b : Bool) → (x.surface == y.surface) ≡ b → (if b then Some x else xdg_of y.surface xs) ≡ Some y
        side true e =
            let gone : xdg_of y.surface xs ≡ None = ap (λ (s : ℕ). xdg_of s xs) (sym (eqb-true x.surface y.surface e)) ∙ apart.1 in
            absurd (let clash : None ≡ Some y = sym gone ∙ found in cc)
        side false e = found

popped-its : (x : XdgSurface) → Each (λ p. (p.xdg ≡ x) × (popped_of p.xdg ≡ p ∷ [])) (popped_of x)
popped-its x = at x.role refl
  where
    kind : (object : RoleObject) → x.role ≡ Some object → (k : Kind) → object.kind ≡ k → Each (λ p. (p.xdg ≡ x) × (popped_of p.xdg ≡ p ∷ [])) (popped_kind x object k)
    kind object e Toplevel f = tt
    kind object e (IsPopup popup) f = ((refl, ap (popped_role x) e ∙ ap (popped_kind x object) f), tt)

    at : (o : Option RoleObject) → x.role ≡ o → Each (λ p. (p.xdg ≡ x) × (popped_of p.xdg ≡ p ∷ [])) (popped_role x o)
    at None e = tt
    at (Some object) e = kind object e object.kind refl

pub all-its : (shell : Shell) → AreApart shell → Each (IsIts shell) (popups_of shell)
all-its shell apart =
    each-ordered (IsIts shell) [] (flat_map popped_of shell) tt
    (each-flat (λ x. xdg_of x.surface shell ≡ Some x) (IsIts shell) popped_of
    (λ x found. each-map (λ p. (p.xdg ≡ x) × (popped_of p.xdg ≡ p ∷ [])) (IsIts shell)
    (λ p its. record { found = ap (λ (y : XdgSurface). xdg_of y.surface shell) its.0 ∙ found ∙ ap (λ (y : XdgSurface). Some y) (sym its.0); its = its.1 }) (popped_of x) (popped-its x))
    shell (all-there shell apart))

among-flat : (shell : Shell) (surface : ℕ) (q : Popped) → IsOnly shell surface q → IsAmong q (flat_map popped_of shell)
among-flat [] surface q is = absurd (let clash : None ≡ Some q.xdg = is.found in cc)
among-flat (y ∷ ys) surface q is = at (y.surface == surface) is.found (λ found. among-flat ys surface q (record { found = found; its = is.its }))
  where
    at : (b : Bool) → (if b then Some y else xdg_of surface ys) ≡ Some q.xdg → (xdg_of surface ys ≡ Some q.xdg → IsAmong q (flat_map popped_of ys))
        → IsAmong q (popped_of y ++ flat_map popped_of ys)
    at true e later =
        let same : q.xdg ≡ y = cc in
        among-left q (popped_of y) (flat_map popped_of ys) (subst (λ (ps : List Popped). IsAmong q ps) (sym is.its ∙ ap popped_of same) (inl refl))
    at false e later = among-right q (popped_of y) (flat_map popped_of ys) (later e)

pub among-popups : (shell : Shell) (surface : ℕ) (q : Popped) → IsOnly shell surface q → IsAmong q (popups_of shell)
among-popups shell surface q is = among-ordered q [] (flat_map popped_of shell) (among-flat shell surface q is)

-- its popup is that of the role object
record IsIn (x : XdgSurface) (p : Popped) : Type 0 where
  role : x.role ≡ Some p.object
  popup : popup_in x.role ≡ Some p.popup

in-role : (x : XdgSurface) (p : Popped) → popped_of x ≡ p ∷ [] → IsIn x p
in-role x p e = at x.role refl e
  where
    kind : (object : RoleObject) → x.role ≡ Some object → (k : Kind) → object.kind ≡ k → popped_kind x object k ≡ p ∷ [] → IsIn x p
    kind object a Toplevel b e = absurd (cc)
    kind object a (IsPopup popup) b e =
        let same : record { xdg = x; object = object; popup = popup } ≡ p = cc in
        record { role = a ∙ ap (λ (q : Popped). Some q.object) same; popup = ap popup_in a ∙ ap kind_popup b ∙ ap (λ (q : Popped). Some q.popup) same }

    at : (r : Option RoleObject) → x.role ≡ r → popped_role x r ≡ p ∷ [] → IsIn x p
    at None a e = absurd (cc)
    at (Some object) a e = kind object a object.kind refl e

pub popup-of : (x : XdgSurface) (p : Popped) → popped_of x ≡ p ∷ [] → popup_in x.role ≡ Some p.popup
popup-of x p e = (in-role x p e).popup

pub role-of : (x : XdgSurface) (p : Popped) → popped_of x ≡ p ∷ [] → x.role ≡ Some p.object
role-of x p e = (in-role x p e).role

-- the popup of an xdg_surface, as it is among the popups
pub record IsPoppedAs (x : XdgSurface) (popup : Popup) (p : Popped) : Type 0 where
  pub its : popped_of x ≡ p ∷ []
  pub xdg : p.xdg ≡ x
  pub its_popup : p.popup ≡ popup
  pub role : x.role ≡ Some p.object

some-popup : (p q : Popup) → Some p ≡ Some q → p ≡ q
some-popup p q e = cc

pub popped-as : (x : XdgSurface) (popup : Popup) → popup_in x.role ≡ Some popup → (p : Popped) × IsPoppedAs x popup p
popped-as x popup e = at x.role refl e
  where
    kind : (object : RoleObject) → x.role ≡ Some object → (k : Kind) → object.kind ≡ k → kind_popup k ≡ Some popup → (p : Popped) × IsPoppedAs x popup p
    kind object a Toplevel b e = absurd (cc)
    kind object a (IsPopup q) b e = (
      record { xdg = x; object = object; popup = q },
      record { its = ap (popped_role x) a ∙ ap (popped_kind x object) b; xdg = refl; its_popup = some-popup q popup e; role = a },
    )

    at : (r : Option RoleObject) → x.role ≡ r → popup_in r ≡ Some popup → (p : Popped) × IsPoppedAs x popup p
    at None a e = absurd (cc)
    at (Some object) a e = kind object a object.kind refl e

-- ---- numbers

pub rises : (p r : Popped) (rs : List Popped) → AreRising (p ∷ r ∷ rs) → p.popup.number < r.popup.number
rises p r rs rising = rising.0 r.popup.number (ap (λ b. b || list_any (λ q. q.popup.number == r.popup.number) rs) (same-number r.popup.number))

-- those after it have higher numbers
pub above : (p q : Popped) (ps : List Popped) → AreRising (p ∷ ps) → IsAmong q ps → p.popup.number < q.popup.number
above p q [] rising e = absurd e
above p q (r ∷ rs) rising (inl e) = subst (λ (s : Popped). p.popup.number < s.popup.number) e (rises p r rs rising)
above p q (r ∷ rs) rising (inr e) = let first = rises p r rs rising in let more = above r q rs rising.1 e in omega (arith, first, more)

-- ---- by what is kept

-- what is kept of a popup
pub record IsKeptAs (kept : ℕ → Option Kept) (test : Popup → Bool) (surface : ℕ) (p : Popped) (k : Kept) : Type 0 where
  pub here : kept surface ≡ Some k
  pub role : popup_in k.role ≡ Some p.popup
  pub tested : has_popup test k ≡ test p.popup
  pub number : number_of k ≡ p.popup.number

pub kept-by : (kept : ℕ → Option Kept) (test : Popup → Bool) (surface : ℕ) (p : Popped) (k : Kept) → kept surface ≡ Some k → popup_in k.role ≡ Some p.popup → IsKeptAs kept test surface p k
kept-by kept test surface p k here e = record {
  here = here;
  role = e;
  tested = ap (λ (o : Option Popup). option_map_or test o false) e;
  number = ap (λ (o : Option Popup). option_map_or (λ popup. popup.number) o 0) e;
}

module _ (kept : ℕ → Option Kept) (histories : ℕ → Option History) (shell : Shell) (is : IsShell kept histories shell) where
  pub kept-as : (test : Popup → Bool) (surface : ℕ) (p : Popped) → IsOnly shell surface p → (k : Kept) × IsKeptAs kept test surface p k
  kept-as test surface p only =
      let t = kept-for kept histories shell is surface p.xdg only.found in
      (t.0, kept-by kept test surface p t.0 t.2 (ap popup_in t.3.stands.role ∙ popup-of p.xdg p only.its))

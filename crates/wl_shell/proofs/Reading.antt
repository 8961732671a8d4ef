-- What is found among what is kept is what is found among the xdg_surfaces that it stands for.
use Rattle.std.proofs.Common.{◌≡◌, ℕ, suc, List, [], ◌∷◌, ◌++◌, Bool, true, false, Option, Some, None, refl, ap, subst, sym, ◌∙◌, arith}
use Rattle.std.specs.Prelude.{All, IfSome, IsSomeAnd, cond, if◌then◌else◌, is_some, nat_lt, fold, flat_map, ◌==◌, ◌||◌, ◌&&◌}
use Rattle.std.specs.List.{list_any}
use Rattle.std.specs.Option.{option_and_then, option_map_or}
use Rattle.std.specs.Ordering.{nat_cmp, is_eq}
use Rattle.std.proofs.lemmas.Bool.{eqb-true}
use Rattle.std.proofs.lemmas.Bool.Decides.{nat_tests}
use Rattle.wl_surface.specs.State.{History}
use Rattle.wl_shell.specs.Kept.{Book, Kept, kept_of}
use Rattle.wl_shell.specs.Popups.{Popped, by_number, first_of, is_parent, is_parent_of, kind_popup, popped_kind, popped_of, popped_role, popup_in, popups_of}
use Rattle.wl_shell.specs.Popups.{allows_grab as has_allowed, parent_allows as is_grab_allowed, parent_of as parent_at_popup}
use Rattle.wl_shell.specs.Shell.{IsPopup, Kind, Popup, RoleObject, Shell, Toplevel, XdgSurface, xdg_at, xdg_of}
use Rattle.wl_shell.specs.Agreement.{AreApart, IsKept, IsShell}
use Rattle.wl_shell.specs.Found.{AreFound, ChildrenFound, GrabbersFound, GrabsFound, ParentsFound, ShellsFind, parent_in, xdg_with_role}
use Rattle.wl_shell.specs.PopupsKept.{allows_grab, any_allows, has_child, parent_allows}
use Rattle.wl_shell.proofs.Agreeing.{found-at}

or-false : (b : Bool) → (b || false) ≡ b
or-false true = refl
or-false false = refl

-- ---- what is told of an xdg_surface by its id and its role object

module _ (T : ℕ → Option RoleObject → Bool) where
  abbrev by-kept : ℕ × Kept → Bool
  by-kept e = T e.1.id e.1.role

  abbrev by-xdg : XdgSurface → Bool
  by-xdg x = T x.id x.role

  any-kept : (book es : Book) → All (λ e. kept_of book e.0 ≡ Some e.1) es → list_any by-kept es ≡ true → (surface : ℕ) × IsSomeAnd (kept_of book surface) (λ k. T k.id k.role ≡ true)
  any-kept book [] found is = absurd (cc)
  any-kept book (e ∷ es) found is = at (by-kept e) refl is (any-kept book es (λ k d less. found (suc k) d (omega arith)))
    where
      at : (b : Bool) → by-kept e ≡ b → (b || list_any by-kept es) ≡ true → (list_any by-kept es ≡ true → (surface : ℕ) × IsSomeAnd (kept_of book surface) (λ k. T k.id k.role ≡ true))
          → (surface : ℕ) × IsSomeAnd (kept_of book surface) (λ k. T k.id k.role ≡ true)
      at true here is rest = (e.0, subst (λ (o : Option Kept). IsSomeAnd o (λ k. T k.id k.role ≡ true)) (sym (found 0 e (omega arith))) here)
      at false here is rest = rest is

  none-kept : (es : Book) (surface : ℕ) → list_any by-kept es ≡ false → IfSome (kept_of es surface) (λ k. T k.id k.role ≡ false)
  none-kept [] surface none = tt
  none-kept (e ∷ es) surface none = at (by-kept e) (is_eq (nat_cmp surface e.0)) refl none (none-kept es surface)
    where
      at : (b c : Bool) → by-kept e ≡ b → (b || list_any by-kept es) ≡ false → (list_any by-kept es ≡ false → IfSome (kept_of es surface) (λ k. T k.id k.role ≡ false))
          → IfSome (cond c (Some e.1) (kept_of es surface)) (λ k. T k.id k.role ≡ false)
      at true c here none rest = absurd (cc)
      at false true here none rest = here
      at false false here none rest = rest none

  any-xdg : (surface : ℕ) (xs : Shell) → IsSomeAnd (xdg_of surface xs) (λ x. T x.id x.role ≡ true) → list_any by-xdg xs ≡ true
  any-xdg surface [] found = absurd found
  any-xdg surface (x ∷ xs) found = at (x.surface == surface) (by-xdg x) refl found (any-xdg surface xs)
    where
      at : (b c : Bool) → by-xdg x ≡ c → IsSomeAnd (if b then Some x else xdg_of surface xs) (λ y. T y.id y.role ≡ true)
          → (IsSomeAnd (xdg_of surface xs) (λ y. T y.id y.role ≡ true) → list_any by-xdg xs ≡ true) → (c || list_any by-xdg xs) ≡ true
      at b true e found rest = refl
      at true false e found rest = absurd (let clash : false ≡ true = sym e ∙ found in cc)
      at false false e found rest = rest found

  none-xdg : (xs : Shell) → AreApart xs → ((x : XdgSurface) → xdg_of x.surface xs ≡ Some x → by-xdg x ≡ false) → list_any by-xdg xs ≡ false
  none-xdg [] apart none = refl
  none-xdg (x ∷ xs) apart none = at (by-xdg x) refl (none-xdg xs apart.2 (λ y found. none y (beside y found)))
    where
      beside : (y : XdgSurface) → xdg_of y.surface xs ≡ Some y → (if x.surface == y.surface then Some x else xdg_of y.surface xs) ≡ Some y
      beside y found = side (x.surface == y.surface) refl
        where
          side : (b : Bool) → (x.surface == y.surface) ≡ b → (if b then Some x else xdg_of y.surface xs) ≡ Some y
          side true e =
              let gone : xdg_of y.surface xs ≡ None = ap (λ (s : ℕ). xdg_of s xs) (sym (eqb-true x.surface y.surface e)) ∙ apart.1 in
              absurd (let clash : None ≡ Some y = sym gone ∙ found in cc)
          side false e = found

      first : (if x.surface == x.surface then Some x else xdg_of x.surface xs) ≡ Some x
      first = let same : (x.surface == x.surface) ≡ true = grind (arith, nat_tests) in ap (λ b. if b then Some x else xdg_of x.surface xs) same

      at : (b : Bool) → by-xdg x ≡ b → list_any by-xdg xs ≡ false → (b || list_any by-xdg xs) ≡ false
      at true e rest = absurd (let clash : true ≡ false = sym e ∙ none x first in cc)
      at false e rest = rest

  kept-true : (k : Option Kept) (x : Option XdgSurface) (h : Option History) → IsKept k x h → IsSomeAnd k (λ k. T k.id k.role ≡ true) → IsSomeAnd x (λ x. T x.id x.role ≡ true)
  kept-true (Some k) (Some x) (Some h) is true-of = subst (λ (o : Option RoleObject). T x.id o ≡ true) is.role (subst (λ (i : ℕ). T i k.role ≡ true) is.id true-of)
  kept-true (Some k) (Some x) None is true-of = absurd is
  kept-true (Some k) None h is true-of = absurd is
  kept-true None x h is true-of = absurd true-of

  kept-false : (k : Option Kept) (x : XdgSurface) (h : Option History) → IsKept k (Some x) h → IfSome k (λ k. T k.id k.role ≡ false) → T x.id x.role ≡ false
  kept-false (Some k) x (Some h) is false-of = subst (λ (o : Option RoleObject). T x.id o ≡ false) is.role (subst (λ (i : ℕ). T i k.role ≡ false) is.id false-of)
  kept-false (Some k) x None is false-of = absurd is
  kept-false None x h is false-of = absurd is

  pub read-any : (book : Book) (histories : ℕ → Option History) (shell : Shell) → AreFound book → IsShell (kept_of book) histories shell → list_any by-kept book ≡ list_any by-xdg shell
  read-any book histories shell each is = at (list_any by-kept book) refl
    where
      at : (b : Bool) → list_any by-kept book ≡ b → b ≡ list_any by-xdg shell
      at true found =
          let one = any-kept book book each found in
          sym (any-xdg one.0 shell (kept-true (kept_of book one.0) (xdg_of one.0 shell) (histories one.0) (is.each one.0) one.1))
      at false none =
          sym (none-xdg shell is.apart (λ x found. kept-false (kept_of book x.surface) x (histories x.surface)
          (subst (λ (o : Option XdgSurface). IsKept (kept_of book x.surface) o (histories x.surface)) found (is.each x.surface)) (none-kept book x.surface none)))

-- ---- what is told of popups

turned : (a b c : Bool) → (a || (b || c)) ≡ (b || (a || c))
turned true true c = refl
turned true false c = refl
turned false true c = refl
turned false false c = refl

regrouped : (a b c : Bool) → ((a || b) || c) ≡ (b || (a || c))
regrouped true true c = refl
regrouped true false c = refl
regrouped false true c = refl
regrouped false false c = refl

module _ (test : Popped → Bool) where
  any-number : (p : Popped) (ps : List Popped) → list_any test (by_number p ps) ≡ (test p || list_any test ps)
  any-number p [] = refl
  any-number p (q ∷ qs) = at (nat_lt p.popup.number q.popup.number) (any-number p qs)
    where
      at : (b : Bool) → list_any test (by_number p qs) ≡ (test p || list_any test qs)
          → list_any test (if b then p ∷ q ∷ qs else q ∷ by_number p qs) ≡ (test p || (test q || list_any test qs))
      at true later = refl
      at false later = ap (λ (b : Bool). test q || b) later ∙ turned (test q) (test p) (list_any test qs)

  any-ordered : (acc ps : List Popped) → list_any test (fold (λ qs p. by_number p qs) acc ps) ≡ (list_any test acc || list_any test ps)
  any-ordered acc [] = sym (or-false (list_any test acc))
  any-ordered acc (p ∷ ps) =
      any-ordered (by_number p acc) ps ∙ ap (λ (b : Bool). b || list_any test ps) (any-number p acc)
      ∙ regrouped (test p) (list_any test acc) (list_any test ps)

  -- in order of creation or not
  pub any-in-order : (shell : Shell) → list_any test (popups_of shell) ≡ list_any test (flat_map popped_of shell)
  any-in-order shell = any-ordered [] (flat_map popped_of shell)

module _ (test : Popup → Bool) where
  abbrev in-popped : Popped → Bool
  in-popped p = test p.popup

  abbrev in-xdg : XdgSurface → Bool
  in-xdg x = option_map_or test (popup_in x.role) false

  any-before : (x : XdgSurface) (o : Option RoleObject) (ps : List Popped) → list_any in-popped (popped_role x o ++ ps) ≡ (option_map_or test (popup_in o) false || list_any in-popped ps)
  any-before x None ps = refl
  any-before x (Some object) ps = kind object.kind
    where
      kind : (k : Kind) → list_any in-popped (popped_kind x object k ++ ps) ≡ (option_map_or test (kind_popup k) false || list_any in-popped ps)
      kind Toplevel = refl
      kind (IsPopup popup) = refl

  any-popped : (xs : Shell) → list_any in-popped (flat_map popped_of xs) ≡ list_any in-xdg xs
  any-popped [] = refl
  any-popped (x ∷ xs) = any-before x x.role (flat_map popped_of xs) ∙ ap (λ (b : Bool). in-xdg x || b) (any-popped xs)

  pub any-popup : (shell : Shell) → list_any in-popped (popups_of shell) ≡ list_any in-xdg shell
  any-popup shell = any-in-order in-popped shell ∙ any-popped shell

children_found : ChildrenFound
children_found surface book histories shell each is = at (kept_of book surface) (xdg_of surface shell) (histories surface) (is.each surface)
  where
    at : (k : Option Kept) (x : Option XdgSurface) (h : Option History) → IsKept k x h → has_child book k ≡ option_map_or (λ x. is_parent x.id shell) x false
    at None None h kept = refl
    at None (Some x) h kept = absurd kept
    at (Some k) None h kept = absurd kept
    at (Some k) (Some x) None kept = absurd kept
    at (Some k) (Some x) (Some h) kept =
        read-any (λ id role. option_map_or (is_parent_of k.id) (popup_in role) false) book histories shell each is
        ∙ sym (any-popup (is_parent_of k.id) shell)
        ∙ ap (λ (id : ℕ). is_parent id shell) kept.id

-- ---- parents

parents_found : ParentsFound
parents_found None kept histories shell is = refl
parents_found (Some surface) kept histories shell is = at (kept surface) (xdg_of surface shell) (histories surface) (is.each surface)
  where
    at : (k : Option Kept) (x : Option XdgSurface) (h : Option History) → IsKept k x h
        → option_and_then (λ k. if is_some k.role then Some k.id else None) k ≡ option_and_then xdg_with_role x
    at None None h is = refl
    at None (Some x) h is = absurd is
    at (Some k) None h is = absurd is
    at (Some k) (Some x) None is = absurd is
    at (Some k) (Some x) (Some h) is =
        ap (λ (id : ℕ). if is_some k.role then Some id else None) is.id ∙ ap (λ (o : Option RoleObject). if is_some o then Some x.id else None) is.role

one-allows : (x : XdgSurface) (o : Option RoleObject) → allows_grab o ≡ has_allowed (popped_role x o) (is_some o)
one-allows x None = refl
one-allows x (Some object) = kind object.kind
  where
    kind : (k : Kind) → option_map_or (λ (popup : Popup). popup.has_grab) (kind_popup k) true ≡ has_allowed (popped_kind x object k) true
    kind Toplevel = refl
    kind (IsPopup popup) = refl

abbrev allows-at : ℕ → XdgSurface → Bool
allows-at parent x = (x.id == parent) && allows_grab x.role

none-with : (parent : ℕ) (xs : Shell) → xdg_at parent xs ≡ None → list_any (allows-at parent) xs ≡ false
none-with parent [] none = refl
none-with parent (x ∷ xs) none = at (x.id == parent) none (none-with parent xs)
  where
    at : (b : Bool) → (if b then Some x else xdg_at parent xs) ≡ None → (xdg_at parent xs ≡ None → list_any (allows-at parent) xs ≡ false)
        → ((b && allows_grab x.role) || list_any (allows-at parent) xs) ≡ false
    at true e rest = absurd (cc)
    at false e rest = rest e

allowing : (parent : ℕ) (xs : Shell) → AreApart xs → list_any (allows-at parent) xs ≡ is_grab_allowed (xdg_at parent xs)
allowing parent [] apart = refl
allowing parent (x ∷ xs) apart = at (x.id == parent) refl (allowing parent xs apart.2)
  where
    at : (b : Bool) → (x.id == parent) ≡ b → list_any (allows-at parent) xs ≡ is_grab_allowed (xdg_at parent xs)
        → ((b && allows_grab x.role) || list_any (allows-at parent) xs) ≡ is_grab_allowed (if b then Some x else xdg_at parent xs)
    at true here rest =
        let none : xdg_at parent xs ≡ None = ap (λ (id : ℕ). xdg_at id xs) (sym (eqb-true x.id parent here)) ∙ apart.0 in
        ap (λ (b : Bool). allows_grab x.role || b) (none-with parent xs none) ∙ or-false (allows_grab x.role) ∙ one-allows x x.role
    at false here rest = rest

module _ (book : Book) (histories : ℕ → Option History) (shell : Shell) (each : AreFound book) (is : IsShell (kept_of book) histories shell) where
  any-allowed : (parent : Option ℕ) → any_allows book parent ≡ is_grab_allowed (option_and_then (λ id. xdg_at id shell) parent)
  any-allowed None = refl
  any-allowed (Some id) = read-any (λ i role. (i == id) && allows_grab role) book histories shell each is ∙ allowing id shell is.apart

  role-allowed : (x : XdgSurface) (o : Option RoleObject)
      → any_allows book (option_and_then (λ (popup : Popup). popup.parent) (popup_in o)) ≡ is_grab_allowed (option_and_then (parent_at_popup shell) (first_of (popped_role x o)))
  role-allowed x None = refl
  role-allowed x (Some object) = kind object.kind
    where
      kind : (k : Kind)
          → any_allows book (option_and_then (λ (popup : Popup). popup.parent) (kind_popup k)) ≡ is_grab_allowed (option_and_then (parent_at_popup shell) (first_of (popped_kind x object k)))
      kind Toplevel = refl
      kind (IsPopup popup) = any-allowed popup.parent

grabbers_found : GrabbersFound
grabbers_found surface book histories shell each is = at (kept_of book surface) (xdg_of surface shell) (histories surface) refl (is.each surface)
  where
    at : (k : Option Kept) (x : Option XdgSurface) (h : Option History) → xdg_of surface shell ≡ x → IsKept k x h
        → parent_allows book k ≡ is_grab_allowed (option_and_then (parent_in shell) x)
    at None None h found kept = refl
    at None (Some x) h found kept = absurd kept
    at (Some k) None h found kept = absurd kept
    at (Some k) (Some x) None found kept = absurd kept
    at (Some k) (Some x) (Some h) found kept =
        ap (λ (o : Option RoleObject). any_allows book (option_and_then (λ (popup : Popup). popup.parent) (popup_in o))) kept.role
        ∙ role-allowed book histories shell each is x x.role
        ∙ ap (λ (o : Option XdgSurface). is_grab_allowed (option_and_then (parent_at_popup shell) (option_and_then (λ x. first_of (popped_of x)) o))) (sym (found-at surface shell x is.apart found))

grabs_found : GrabsFound
grabs_found book histories shell each is =
    read-any (λ id role. option_map_or (λ popup. popup.has_grab) (popup_in role) false) book histories shell each is ∙ sym (any-popup (λ popup. popup.has_grab) shell)

pub shells_find : ShellsFind
shells_find = record {
  parents = parents_found;
  children = children_found;
  grabbers = grabbers_found;
  grabs = grabs_found;
}

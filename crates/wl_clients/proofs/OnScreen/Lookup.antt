-- The toplevel that is found for the root of a tree, by numbers, and what is known of its popup.
use Rattle.std.proofs.Common.{◌≡◌, ℕ, Bool, true, false, cond, Option, Some, None, List, [], ◌∷◌, ◌++◌, map, refl, ap, sym, subst, ◌∙◌}
use Rattle.std.specs.Prelude.{◌==◌, ◌||◌, find, flat_map, fold, nat_lt}
use Rattle.std.specs.List.{list_any}
use Rattle.std.specs.Option.{option_and_then, option_map}
use Rattle.std.proofs.lemmas.Bool.{eqb-true, or_left, or_right, true≢false}
use Rattle.law_desktop.proofs.Lists.Keys.{found-passes}
use Rattle.law_desktop.specs.Soundness.{has_surface as is_of_surface}
use Rattle.spec_desktop.specs.Objects.{ById}
use Rattle.law_desktop.specs.Renaming.{has_surface}
use Rattle.law_desktop.proofs.PopupsByNames.Popped.{each-there, parent-renamed}
use Rattle.spec_desktop.specs.Desktop.{Desktop, Resident, owned_in}
use Rattle.spec_desktop.specs.Stacked.{all_windows}
use Rattle.wl_requests.specs.declared.residents.Resident.{Resident as Kept}
use Rattle.law_windows.specs.Runs.Kept.{kept_owner}
use Rattle.law_windows.specs.Runs.Lookup.{toplevel_found}
use Rattle.law_windows.specs.Runs.Numbers.{IsNumberOf, IsPopupBy}
use Rattle.law_windows.proofs.OneToplevel.Numbered.{finds-by-numbers}
use Rattle.law_windows.proofs.OneToplevel.Turned.{stacked-are-kept}
use Rattle.wl_shell.specs.Agreement.{IsKept}
use Rattle.wl_scene.specs.declared.stacked.Stacked.{Stacked}
use Rattle.spec_desktop.specs.Popups.{stacked_popup, surface_at_xdg}
use Rattle.spec_desktop.specs.Stacking.{Owned}
use Rattle.spec_desktop.specs.Windows.{StackedPopup}
use Rattle.wl_surface.specs.State.{History}
use Rattle.wl_surface.specs.Surfaces.{Surfaces, history_in}
use Rattle.law_desktop.specs.Changes.{HasTrees}
use Rattle.law_desktop.specs.StackedWith.{popup_of}
use Rattle.law_desktop.proofs.RootsOf.Popped.{IsPopped}
use Rattle.law_desktop.proofs.RootsOf.Shells.{all-popped-of}
use Rattle.law_desktop.proofs.Lists.Each.{Each}
use Rattle.wl_shell.specs.Kept.{Kept as KeptXdg, kept_of}
use Rattle.wl_shell.specs.Popups.{Popped, by_number, kind_popup, popped_kind, popped_of, popped_role, popup_in, popups_of}
use Rattle.wl_shell.specs.Shell.{IsPopup, Kind, Popup, RoleObject, Shell, Toplevel, XdgSurface, xdg_at, xdg_of}
use Rattle.wl_clients.specs.Finding.{found_by, parent_by, popup_in_shell}
use Rattle.wl_clients.specs.Seats.{IsSeated}
use Rattle.wl_clients.specs.View.{Pile}
use Rattle.wl_clients.proofs.OnScreen.Numbers as seat
use Rattle.wl_clients.proofs.OnScreen.Sitting.{numbers}

-- ---- the popup of a surface, by its xdg_surface

some-is : {X : Type 0} (x y : X) → Some x ≡ Some y → x ≡ y
some-is {X = X} x y e = ap (λ (o : Option X). at o) e
  where
    at : Option X → X
    at None = x
    at (Some z) = z

first-is : (p q : Popped) → p ∷ [] ≡ q ∷ [] → p ≡ q
first-is p q e = ap (λ (ps : List Popped). at ps) e
  where
    at : List Popped → Popped
    at [] = p
    at (x ∷ xs) = x

-- that of its role object
abbrev pub popup_with : Option XdgSurface → Option Popup
popup_with x = option_and_then (λ x. popup_in x.role) x

-- an xdg_surface with a popup has it
in-popped : (x : XdgSurface) (p : Popped) → popped_of x ≡ p ∷ [] → popup_in x.role ≡ Some p.popup
in-popped x p is = at x.role is
  where
    kind : (object : RoleObject) (k : Kind) → popped_kind x object k ≡ p ∷ [] → kind_popup k ≡ Some p.popup
    kind object Toplevel e = absurd (cc)
    kind object (IsPopup popup) e = ap (λ (q : Popped). Some q.popup) (first-is _ p e)

    at : (o : Option RoleObject) → popped_role x o ≡ p ∷ [] → popup_in o ≡ Some p.popup
    at None e = absurd (cc)
    at (Some object) e = kind object object.kind e

-- and one that has a popup is known by it
has-popped : (x : XdgSurface) (popup : Popup) → popup_in x.role ≡ Some popup → (p : Popped) × (popped_of x ≡ p ∷ []) × (p.xdg ≡ x)
has-popped x popup is = at x.role is
  where
    kind : (object : RoleObject) (k : Kind) → kind_popup k ≡ Some popup → (p : Popped) × (popped_kind x object k ≡ p ∷ []) × (p.xdg ≡ x)
    kind object Toplevel e = absurd (cc)
    kind object (IsPopup it) e = (record { xdg = x; object = object; popup = it }, refl, refl)

    at : (o : Option RoleObject) → popup_in o ≡ Some popup → (p : Popped) × (popped_role x o ≡ p ∷ []) × (p.xdg ≡ x)
    at None e = absurd (cc)
    at (Some object) e = kind object object.kind e

-- ---- among the popups in order of creation

abbrev popped_on : ℕ → Popped → Bool
popped_on surface p = p.xdg.surface == surface

swapped : (a b c : Bool) → (a || (b || c)) ≡ (b || (a || c))
swapped true true c = refl
swapped true false c = refl
swapped false true c = refl
swapped false false c = refl

any-by-number : (test : Popped → Bool) (p : Popped) (ps : List Popped) → list_any test (by_number p ps) ≡ (test p || list_any test ps)
any-by-number test p [] = refl
any-by-number test p (q ∷ qs) = at (nat_lt p.popup.number q.popup.number) (any-by-number test p qs)
  where
    at : (b : Bool) → list_any test (by_number p qs) ≡ (test p || list_any test qs)
        → list_any test (cond b (p ∷ q ∷ qs) (q ∷ by_number p qs)) ≡ (test p || (test q || list_any test qs))
    at true e = refl
    at false e = ap (λ (b : Bool). test q || b) e ∙ swapped (test q) (test p) (list_any test qs)

in-ordered : (test : Popped → Bool) (acc ps : List Popped) → (list_any test ps || list_any test acc) ≡ true → list_any test (fold (λ ps p. by_number p ps) acc ps) ≡ true
in-ordered test acc [] e = e
in-ordered test acc (p ∷ ps) e =
    in-ordered test (by_number p acc) ps (ap (λ (b : Bool). list_any test ps || b) (any-by-number test p acc) ∙ (assoc (list_any test ps) (test p) (list_any test acc) ∙ e))
  where
    assoc : (a b c : Bool) → (a || (b || c)) ≡ ((b || a) || c)
    assoc true true c = refl
    assoc true false c = refl
    assoc false true c = refl
    assoc false false c = refl

any-appended : (test : Popped → Bool) (ps qs : List Popped) → (list_any test ps || list_any test qs) ≡ true → list_any test (ps ++ qs) ≡ true
any-appended test [] qs e = e
any-appended test (p ∷ ps) qs e = at (test p) (λ rest. any-appended test ps qs rest) e
  where
    at : (b : Bool) → ((list_any test ps || list_any test qs) ≡ true → list_any test (ps ++ qs) ≡ true) → ((b || list_any test ps) || list_any test qs) ≡ true
        → (b || list_any test (ps ++ qs)) ≡ true
    at true rest e = refl
    at false rest e = rest e

in-flat : (shell : Shell) (surface : ℕ) (x : XdgSurface) (p : Popped) → xdg_of surface shell ≡ Some x → popped_of x ≡ p ∷ [] → popped_on surface p ≡ true
    → list_any (popped_on surface) (flat_map popped_of shell) ≡ true
in-flat [] surface x p there its on = absurd (cc)
in-flat (y ∷ ys) surface x p there its on = at (y.surface == surface) (λ e. in-flat ys surface x p e its on) there
  where
    at : (b : Bool) → (xdg_of surface ys ≡ Some x → list_any (popped_on surface) (flat_map popped_of ys) ≡ true) → cond b (Some y) (xdg_of surface ys) ≡ Some x
        → list_any (popped_on surface) (popped_of y ++ flat_map popped_of ys) ≡ true
    at true rest e =
        any-appended (popped_on surface) (popped_of y) (flat_map popped_of ys)
        (or_left (list_any (popped_on surface) (popped_of y)) _
        (ap (list_any (popped_on surface)) (ap popped_of (some-is y x e) ∙ its) ∙ or_left (popped_on surface p) false on))
    at false rest e =
        any-appended (popped_on surface) (popped_of y) (flat_map popped_of ys) (or_right (list_any (popped_on surface) (popped_of y)) _ (rest e))

-- ---- as it is stacked

-- The popup of an xdg_surface is stacked so, if it has one.
abbrev pub IsStackedOf : Owned → Option Popup → Option StackedPopup → Type 0
IsStackedOf o None None = Unit {0}
IsStackedOf o (Some popup) (Some p) = (q : Popped) × (p ≡ stacked_popup o q) × (popup ≡ q.popup)
IsStackedOf o None (Some p) = ⊥
IsStackedOf o (Some popup) None = ⊥

-- it is of the surface that it is found by
found-of : (surface : ℕ) (ys : Shell) (x : XdgSurface) → xdg_of surface ys ≡ Some x → (x.surface == surface) ≡ true
found-of surface ys x e = found-passes (λ (y : XdgSurface). y.surface == surface) ys x e

module _ (o : Owned) (surface : ℕ) where
  -- the first of the surface is that of its xdg_surface
  first-found : (ps : List Popped) → Each (IsPopped o.shell) ps → (popup : Option Popup) → popup_with (xdg_of surface o.shell) ≡ popup
      → ((it : Popup) → popup ≡ Some it → list_any (popped_on surface) ps ≡ true)
      → IsStackedOf o popup (find (is_of_surface surface) (map (stacked_popup o) ps))
  first-found [] each None is known = tt
  first-found [] each (Some it) is known = true≢false (sym (known it refl))
  first-found (p ∷ ps) each popup is known = at (popped_on surface p) refl popup is known (first-found ps each.1 popup is)
    where
      at : (b : Bool) → popped_on surface p ≡ b → (popup : Option Popup) → popup_with (xdg_of surface o.shell) ≡ popup
          → ((it : Popup) → popup ≡ Some it → (b || list_any (popped_on surface) ps) ≡ true)
          → (((it : Popup) → popup ≡ Some it → list_any (popped_on surface) ps ≡ true) → IsStackedOf o popup (find (is_of_surface surface) (map (stacked_popup o) ps)))
          → IsStackedOf o popup (cond b (Some (stacked_popup o p)) (find (is_of_surface surface) (map (stacked_popup o) ps)))
      at true on popup is known rest =
          let here : xdg_of surface o.shell ≡ Some p.xdg = ap (λ (n : ℕ). xdg_of n o.shell) (sym (eqb-true p.xdg.surface surface on)) ∙ each.0.there.by_surface in
          by popup (sym is ∙ (ap popup_with here ∙ in-popped p.xdg p each.0.its))
        where
          by : (popup : Option Popup) → popup ≡ Some p.popup → IsStackedOf o popup (Some (stacked_popup o p))
          by None e = absurd (cc)
          by (Some it) e = (p, refl, some-is it p.popup e)
      at false on popup is known rest = rest known

  popup-there : (it : Popup) → popup_with (xdg_of surface o.shell) ≡ Some it → list_any (popped_on surface) (popups_of o.shell) ≡ true
  popup-there it is = at (xdg_of surface o.shell) refl is
    where
      at : (x : Option XdgSurface) → xdg_of surface o.shell ≡ x → popup_with x ≡ Some it → list_any (popped_on surface) (popups_of o.shell) ≡ true
      at None e is = absurd (cc)
      at (Some x) e is =
          let p = has-popped x it is in
          in-ordered (popped_on surface) [] (flat_map popped_of o.shell)
          (or_left (list_any (popped_on surface) (flat_map popped_of o.shell)) false
          (in-flat o.shell surface x p.0 e p.1
          (ap (λ (y : XdgSurface). y.surface == surface) p.2 ∙ found-of surface o.shell x e)))

pub popup-stacked : (c surface : ℕ) (d : Desktop) → HasTrees d → IsStackedOf (owned_in d c) (popup_with (xdg_of surface (owned_in d c).shell)) (popup_of c surface d)
popup-stacked c surface d trees =
    first-found (owned_in d c) surface (popups_of (owned_in d c).shell) (all-popped-of c d trees) (popup_with (xdg_of surface (owned_in d c).shell)) refl
    (λ it is. popup-there (owned_in d c) surface it is)

-- ---- by what is kept

-- the popup that is kept for a surface
popup-kept : (k : Option KeptXdg) (x : Option XdgSurface) (h : Option History) → IsKept k x h → option_and_then (λ (k : KeptXdg). popup_in k.role) k ≡ popup_with x
popup-kept None None h is = refl
popup-kept (Some k) (Some x) (Some h) is = ap popup_in is.role
popup-kept None (Some x) h is = absurd is
popup-kept (Some k) None h is = absurd is
popup-kept (Some k) (Some x) None is = absurd is

-- a parent's surface by its number
parent-numbered : (numbers : ById ℕ) (f : ℕ → ℕ) (parent : Option ℕ) → ((surface : ℕ) → parent ≡ Some surface → numbers surface ≡ Some (f surface))
    → IsNumberOf numbers (option_map f parent) parent
parent-numbered numbers f None named = tt
parent-numbered numbers f (Some surface) named = named surface refl

at-there : (all : Surfaces) (xs : Shell) (xdg surface : ℕ) → Each (λ (x : XdgSurface). has_surface x.surface all ≡ true) xs → surface_at_xdg xdg xs ≡ Some surface
    → has_surface surface all ≡ true
at-there all [] xdg surface each e = absurd (cc)
at-there all (x ∷ xs) xdg surface each e = by (x.id == xdg) (λ later. at-there all xs xdg surface each.1 later) e
  where
    by : (b : Bool) → (surface_at_xdg xdg xs ≡ Some surface → has_surface surface all ≡ true)
        → option_map (λ (x : XdgSurface). x.surface) (cond b (Some x) (xdg_at xdg xs)) ≡ Some surface → has_surface surface all ≡ true
    by true rest e = subst (λ (n : ℕ). has_surface n all ≡ true) (some-is x.surface surface e) each.0
    by false rest e = rest e

module _ {A : Type 0} (c : ℕ) (others : ℕ → ById ℕ) (base d : Desktop) (r : Resident) (old : Kept A) (pile : Pile) (before : IsSeated c others base old pile d r) (trees : HasTrees d)
    (root k : ℕ) (named : seat.nums c others base d r old pile before c root ≡ Some k) where
  abbrev f : ℕ → ℕ
  f = seat.named_by old

  abbrev nums : ℕ → ById ℕ
  nums = seat.nums c others base d r old pile before

  abbrev its : Owned
  its = seat.its c others base d r old pile before

  own-named : numbers old root ≡ Some k
  own-named = ap (λ (n : ById ℕ). n root) (sym (seat.nums-own c others base d r old pile before)) ∙ named

  -- what is kept of its popup
  pub kept-popup : popup_in_shell old.owned.shell k ≡ popup_with (xdg_of root r.owned.shell)
  kept-popup =
      popup-kept (kept_of old.owned.shell k) (xdg_of root r.owned.shell) (history_in root r.owned.surfaces)
      (subst (λ (x : Option KeptXdg). IsKept x (xdg_of root r.owned.shell) (history_in root r.owned.surfaces)) (ap (option_and_then (kept_of old.owned.shell)) own-named)
      (before.seat.owns.shell.each root))

  surface-there : (xdg surface : ℕ) → surface_at_xdg xdg r.owned.shell ≡ Some surface → has_surface surface r.owned.surfaces ≡ true
  surface-there xdg surface e = at-there r.owned.surfaces r.owned.shell xdg surface (each-there f r.owned (seat.renames c others base d r old pile before)) e

  parent-named : (parent : Option ℕ) (surface : ℕ) → option_and_then (λ xdg. surface_at_xdg xdg r.owned.shell) parent ≡ Some surface → nums c surface ≡ Some (f surface)
  parent-named None surface e = absurd (cc)
  parent-named (Some xdg) surface e =
      ap (λ (n : ById ℕ). n surface) (seat.nums-own c others base d r old pile before) ∙ seat.has-number c others base d r old pile before surface (surface-there xdg surface e)

  popup-by : (popup : Option Popup) (p : Option StackedPopup) → IsStackedOf r.owned popup p → IsPopupBy (nums c) (parent_by its popup) p
  popup-by None None is = tt
  popup-by (Some popup) (Some p) is =
      let parent = option_and_then (λ xdg. surface_at_xdg xdg r.owned.shell) popup.parent in
      subst (λ (o : Option ℕ). IsNumberOf (nums c) o p.parent) (sym (parent-renamed f r.owned.shell popup.parent))
      (subst (λ (o : Option ℕ). IsNumberOf (nums c) (option_map f parent) o)
      (sym (ap (λ (s : StackedPopup). s.parent) is.1 ∙ ap (λ (q : Popup). option_and_then (λ xdg. surface_at_xdg xdg r.owned.shell) q.parent) (sym is.2)))
      (parent-numbered (nums c) f parent (parent-named popup.parent)))
  popup-by None (Some p) is = absurd is
  popup-by (Some popup) None is = absurd is

  pub its-popup : IsPopupBy (nums c) (parent_by its (popup_in_shell old.owned.shell k)) (popup_of c root d)
  its-popup =
      subst (λ (o : Option Popup). IsPopupBy (nums c) (parent_by its o) (popup_of c root d)) (sym kept-popup)
      (popup-by (popup_with (xdg_of root r.owned.shell)) (popup_of c root d)
      (subst (λ (o : Owned). IsStackedOf o (popup_with (xdg_of root o.shell)) (popup_of c root d)) (seat.owned-here c others base d r old pile before) (popup-stacked c root d trees)))

  -- The number that is found for it is that of the toplevel that is found for it on the desktop.
  pub found-number : (found : Option ℕ) → found ≡ found_by c k (parent_by its (popup_in_shell old.owned.shell k)) pile.windows
      → IsNumberOf (nums c) found (toplevel_found c root (popup_of c root d) (all_windows d))
  found-number found is =
      subst (λ (o : Option ℕ). IsNumberOf (nums c) o (toplevel_found c root (popup_of c root d) (all_windows d))) (sym is)
      (finds-by-numbers Stacked kept_owner (nums) pile.windows c root k (parent_by its (popup_in_shell old.owned.shell k)) d (stacked-are-kept nums pile.windows d before.windows).0
      (seat.once-own c others base d r old pile before) named its-popup)

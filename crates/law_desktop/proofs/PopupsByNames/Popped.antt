-- The popups of a client under other names of its surfaces, and how they are stacked.
use Rattle.std.proofs.Common.{◌≡◌, ℕ, ◌==◌, Bool, true, false, cond, Option, Some, None, List, [], ◌∷◌, ◌++◌, map, refl, ap, ap₂, ◌∙◌}
use Rattle.std.specs.Prelude.{flat_map, fold, nat_lt}
use Rattle.std.specs.List.{AllByRecursion as Each}
use Rattle.std.specs.Option.{option_and_then, option_map}
use Rattle.std.proofs.lemmas.List.Elements.{recursion_from_All}
use Rattle.wl_geom.specs.declared.rect.Rect.{Rect}
use Rattle.wl_surface.specs.State.{History}
use Rattle.wl_surface.specs.Surfaces.{history_in}
use Rattle.law_desktop.specs.Renaming.{has_surface, renamed}
use Rattle.law_desktop.proofs.ByNames.Names.Known.{reads-surfaces}
use Rattle.law_desktop.proofs.ByNames.Names.Lists.{each-append, each-from, each-weaker, find-mapped, map-both}
use Rattle.spec_desktop.specs.Popups.{geometry_at, placement_of, stacked_popup, surface_at_xdg}
use Rattle.spec_desktop.specs.Stacking.{Owned, geometry_since}
use Rattle.wl_shell.specs.Popups.{Popped, by_number, is_popup_mapped, popped_kind, popped_of, popped_role, popups_of}
use Rattle.wl_shell.specs.Shell.{IsPopup, Kind, RoleObject, Shell, Toplevel, XdgSurface, xdg_at}
use Rattle.law_desktop.specs.NamedPopups.{PopupsNamed, RenamesOwned, StackedNamed, renamed_owned, renamed_popped, renamed_popup, renamed_shell, renamed_xdg}

-- ---- in order of creation

module _ (f : ℕ → ℕ) where
  pub popped-renamed : (x : XdgSurface) → popped_of (renamed_xdg f x) ≡ map (renamed_popped f) (popped_of x)
  popped-renamed x = at x.role
    where
      kinds : (object : RoleObject) (kind : Kind) → popped_kind (renamed_xdg f x) object kind ≡ map (renamed_popped f) (popped_kind x object kind)
      kinds object Toplevel = refl
      kinds object (IsPopup popup) = refl

      at : (role : Option RoleObject) → popped_role (renamed_xdg f x) role ≡ map (renamed_popped f) (popped_role x role)
      at None = refl
      at (Some object) = kinds object object.kind

  joined : (xs ys : List Popped) → map (renamed_popped f) xs ++ map (renamed_popped f) ys ≡ map (renamed_popped f) (xs ++ ys)
  joined [] ys = refl
  joined (x ∷ xs) ys = ap (λ (ps : List Popped). renamed_popped f x ∷ ps) (joined xs ys)

  all-popped : (xs : Shell) → flat_map popped_of (map (renamed_xdg f) xs) ≡ map (renamed_popped f) (flat_map popped_of xs)
  all-popped [] = refl
  all-popped (x ∷ xs) =
      ap₂ (λ (ps qs : List Popped). ps ++ qs) (popped-renamed x) (all-popped xs) ∙ joined (popped_of x) (flat_map popped_of xs)

  one-more : (p : Popped) (ps : List Popped) → by_number (renamed_popped f p) (map (renamed_popped f) ps) ≡ map (renamed_popped f) (by_number p ps)
  one-more p [] = refl
  one-more p (q ∷ qs) = at (nat_lt p.popup.number q.popup.number) (one-more p qs)
    where
      at : (b : Bool) → by_number (renamed_popped f p) (map (renamed_popped f) qs) ≡ map (renamed_popped f) (by_number p qs)
          → cond b (renamed_popped f p ∷ map (renamed_popped f) (q ∷ qs)) (renamed_popped f q ∷ by_number (renamed_popped f p) (map (renamed_popped f) qs))
          ≡ map (renamed_popped f) (cond b (p ∷ q ∷ qs) (q ∷ by_number p qs))
      at true next = refl
      at false next = ap (λ (ps : List Popped). renamed_popped f q ∷ ps) next

  in-order : (ps found : List Popped) → fold (λ qs p. by_number p qs) (map (renamed_popped f) found) (map (renamed_popped f) ps)
      ≡ map (renamed_popped f) (fold (λ qs p. by_number p qs) found ps)
  in-order [] found = refl
  in-order (p ∷ ps) found =
      ap (λ (start : List Popped). fold (λ qs p. by_number p qs) start (map (renamed_popped f) ps)) (one-more p found) ∙ in-order ps (by_number p found)

pub popups-named : PopupsNamed
popups-named f shell = ap (fold (λ qs p. by_number p qs) []) (all-popped f shell) ∙ in-order f (flat_map popped_of shell) []

-- ---- what is true of each xdg_surface is so of those of popups

module _ (P : XdgSurface → Type 0) where
  abbrev pub OfXdg : Popped → Type 0
  OfXdg p = P p.xdg

  pub each-popped : (x : XdgSurface) → P x → Each OfXdg (popped_of x)
  each-popped x is = at x.role
    where
      kinds : (object : RoleObject) (kind : Kind) → Each OfXdg (popped_kind x object kind)
      kinds object Toplevel = tt
      kinds object (IsPopup popup) = (is, tt)

      at : (role : Option RoleObject) → Each OfXdg (popped_role x role)
      at None = tt
      at (Some object) = kinds object object.kind

  all-of : (xs : Shell) → Each P xs → Each OfXdg (flat_map popped_of xs)
  all-of [] each = tt
  all-of (x ∷ xs) each = each-append OfXdg (popped_of x) (flat_map popped_of xs) (each-popped x each.0) (all-of xs each.1)

  more-of : (p : Popped) (ps : List Popped) → OfXdg p → Each OfXdg ps → Each OfXdg (by_number p ps)
  more-of p [] is each = (is, tt)
  more-of p (q ∷ qs) is each = at (nat_lt p.popup.number q.popup.number) (more-of p qs is each.1)
    where
      at : (b : Bool) → Each OfXdg (by_number p qs) → Each OfXdg (cond b (p ∷ q ∷ qs) (q ∷ by_number p qs))
      at true rest = (is, each)
      at false rest = (each.0, rest)

  ordered-of : (ps found : List Popped) → Each OfXdg ps → Each OfXdg found → Each OfXdg (fold (λ qs p. by_number p qs) found ps)
  ordered-of [] found each had = had
  ordered-of (p ∷ ps) found each had = ordered-of ps (by_number p found) each.1 (more-of p found each.0 had)

  pub each-popup : (shell : Shell) → Each P shell → Each OfXdg (popups_of shell)
  each-popup shell each = ordered-of (flat_map popped_of shell) [] (all-of shell each) tt

-- ---- what is found by the id of an xdg_surface

pub xdg-renamed : (f : ℕ → ℕ) (id : ℕ) (shell : Shell) → xdg_at id (renamed_shell f shell) ≡ option_map (renamed_xdg f) (xdg_at id shell)
xdg-renamed f id shell =
    find-mapped (λ (x : XdgSurface). x.id == id) (λ (x : XdgSurface). x.id == id) (renamed_xdg f) shell
    (each-from (λ (x : XdgSurface). (x.id == id) ≡ (x.id == id)) (λ x. refl) shell)

pub surface-at-renamed : (f : ℕ → ℕ) (id : ℕ) (shell : Shell) → surface_at_xdg id (renamed_shell f shell) ≡ option_map f (surface_at_xdg id shell)
surface-at-renamed f id shell = ap (option_map (λ (x : XdgSurface). x.surface)) (xdg-renamed f id shell) ∙ at (xdg_at id shell)
  where
    at : (o : Option XdgSurface) → option_map (λ (x : XdgSurface). x.surface) (option_map (renamed_xdg f) o) ≡ option_map f (option_map (λ (x : XdgSurface). x.surface) o)
    at None = refl
    at (Some x) = refl

pub parent-renamed : (f : ℕ → ℕ) (shell : Shell) (parent : Option ℕ)
    → option_and_then (λ xdg. surface_at_xdg xdg (renamed_shell f shell)) parent ≡ option_map f (option_and_then (λ xdg. surface_at_xdg xdg shell) parent)
parent-renamed f shell None = refl
parent-renamed f shell (Some id) = surface-at-renamed f id shell

-- ---- how they are stacked

module _ (f : ℕ → ℕ) (o : Owned) (is : RenamesOwned f o) where
  -- its surface is there
  abbrev pub IsThere : XdgSurface → Type 0
  IsThere x = has_surface x.surface o.surfaces ≡ true

  pub each-there : Each IsThere o.shell
  each-there = recursion_from_All IsThere o.shell is.shell

  pub history-same : (surface : ℕ) → has_surface surface o.surfaces ≡ true → history_in (f surface) (renamed f o.surfaces) ≡ history_in surface o.surfaces
  history-same surface there = (reads-surfaces f o.surfaces is.surfaces surface there).history

  pub geometry-same : (x : XdgSurface) → IsThere x → geometry_at (renamed_owned f o) (renamed_xdg f x) ≡ geometry_at o x
  geometry-same x there = ap (option_and_then (λ (h : History). geometry_since h x)) (history-same x.surface there)

  pub stacked-same : (p : Popped) → IsThere p.xdg → stacked_popup (renamed_owned f o) (renamed_popped f p) ≡ renamed_popup f (stacked_popup o p)
  stacked-same p there =
      ap₂ (λ (parent : Option ℕ) (g : Option Rect). record {
        surface = f p.xdg.surface;
        parent = parent;
        placement = placement_of p.popup.placement;
        geometry = g;
        is_mapped = is_popup_mapped p;
      }) (parent-renamed f o.shell p.popup.parent) (geometry-same p.xdg there)

  pub all-stacked : (ps : List Popped) → Each (λ (p : Popped). IsThere p.xdg) ps
      → map (stacked_popup (renamed_owned f o)) (map (renamed_popped f) ps) ≡ map (renamed_popup f) (map (stacked_popup o) ps)
  all-stacked ps each =
      map-both (renamed_popped f) (stacked_popup (renamed_owned f o)) (stacked_popup o) (renamed_popup f) ps
      (each-weaker (λ (p : Popped). IsThere p.xdg) (λ (p : Popped). stacked_popup (renamed_owned f o) (renamed_popped f p) ≡ renamed_popup f (stacked_popup o p)) stacked-same ps each)

pub stacked-named : StackedNamed
stacked-named f o is =
    ap (map (stacked_popup (renamed_owned f o))) (popups-named f o.shell)
    ∙ all-stacked f o is (popups_of o.shell) (each-popup (IsThere f o is) o.shell (each-there f o is))

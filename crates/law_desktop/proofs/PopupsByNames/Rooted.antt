-- Corners and roots under other names of a client's surfaces.
use Rattle.std.proofs.Common.{◌≡◌, ℕ, zero, suc, ◌==◌, ◌&&◌, Bool, true, false, cond, Option, Some, None, List, [], ◌∷◌, ◌++◌, map, refl, ap, ap₂, ◌∙◌}
use Rattle.std.proofs.Math.Path.{fun_ext}
use Rattle.std.proofs.lemmas.Bool.{eqb-true}
use Rattle.std.specs.Prelude.{IfSome, find}
use Rattle.std.specs.List.{AllByRecursion as Each}
use Rattle.std.specs.Option.{option_and_then, option_map, option_map_or}
use Rattle.wl_geom.specs.declared.rect.Rect.{Rect}
use Rattle.wl_surface.specs.State.{History}
use Rattle.wl_surface.specs.Surfaces.{history_in}
use Rattle.law_desktop.specs.Renaming.{has_surface, renamed}
use Rattle.law_desktop.proofs.ByNames.Names.Known.{known-there}
use Rattle.law_desktop.proofs.ByNames.Names.Lists.{each-append, each-mapped, each-weaker, find-mapped, fold-mapped, found}
use Rattle.law_desktop.proofs.ByNames.Names.Reading.{same-name}
use Rattle.spec_desktop.specs.Popups.{corner_at_parent, corner_by_role, corner_of_xdg, geometry_corner_at, geometry_from, geometry_of_place}
use Rattle.spec_desktop.specs.Popups.{stacked_popup, place_or_origin, stacked_popups, standing_place, surface_at_xdg}
use Rattle.spec_desktop.specs.Stacking.{Owned, Standing, geometry_in, geometry_since, is_of, root_of}
use Rattle.spec_desktop.specs.Windows.{Place, Root, StackedPopup, corner_at, corner_in, geometry_corner, has_parent, popup_place, root_on, roots_of, stacked, stacked_on}
use Rattle.wl_shell.specs.Popups.{Popped, popped_of, popups_of}
use Rattle.wl_shell.specs.Shell.{RoleObject, Shell, XdgSurface, xdg_at, xdg_of}
use Rattle.law_desktop.specs.NamedPopups.{CornersNamed, RenamesOwned, RootsNamed, StandingNamed, renamed_owned, renamed_popped, renamed_popup, renamed_root, renamed_shell, renamed_standing, renamed_xdg, AreStandingAs, IsStandingAs}
use Rattle.law_desktop.proofs.PopupsByNames.Popped.{IsThere, each-popped, each-popup, each-there, geometry-same, history-same, popped-renamed, stacked-named, stacked-same, xdg-renamed}

module _ (f : ℕ → ℕ) (o : Owned) (is : RenamesOwned f o) where
  -- what is found is there
  at-there : (id : ℕ) (x : XdgSurface) → xdg_at id o.shell ≡ Some x → has_surface x.surface o.surfaces ≡ true
  at-there id x e = (found (λ (x : XdgSurface). x.id == id) (IsThere f o is) o.shell (each-there f o is) x e).0

  -- ---- corners

  from-same : (x : XdgSurface) (place : Place) → has_surface x.surface o.surfaces ≡ true → geometry_from (renamed_owned f o) (renamed_xdg f x) place ≡ geometry_from o x place
  from-same x place there =
      ap (geometry_of_place (renamed_owned f o) (renamed_xdg f x) place) (history-same f o is x.surface there) ∙ at (history_in x.surface o.surfaces)
    where
      at : (h : Option History) → geometry_of_place (renamed_owned f o) (renamed_xdg f x) place h ≡ geometry_of_place o x place h
      at None = refl
      at (Some h) = ap (geometry_corner (corner_at place h)) (geometry-same f o is x there)

  by-role : (next place others : ℕ → Place) (x : XdgSurface) → has_surface x.surface o.surfaces ≡ true → others (f x.surface) ≡ place x.surface → (ps : List Popped)
      → Each (λ (p : Popped). has_surface p.xdg.surface o.surfaces ≡ true) ps → (role : Option RoleObject)
      → corner_by_role next others (renamed_owned f o) (renamed_xdg f x) (map (renamed_popped f) ps) role ≡ corner_by_role next place o x ps role
  by-role next place others x there same ps each None = refl
  by-role next place others x there same [] each (Some object) =
      ap (λ (p : Place). geometry_from (renamed_owned f o) (renamed_xdg f x) p) same ∙ from-same x (place x.surface) there
  by-role next place others x there same (p ∷ ps) each (Some object) =
      ap (λ (q : StackedPopup). geometry_from (renamed_owned f o) (renamed_xdg f x) (popup_place (corner_at_parent next p.popup.parent) q)) (stacked-same f o is p each.0)
      ∙ from-same x (popup_place (corner_at_parent next p.popup.parent) (stacked_popup o p)) there

  of-xdg : (next place others : ℕ → Place) → ((surface : ℕ) → has_surface surface o.surfaces ≡ true → others (f surface) ≡ place surface) → (id : ℕ)
      → corner_of_xdg next others (renamed_owned f o) (xdg_at id (renamed_shell f o.shell)) ≡ corner_of_xdg next place o (xdg_at id o.shell)
  of-xdg next place others same id = ap (corner_of_xdg next others (renamed_owned f o)) (xdg-renamed f id o.shell) ∙ at (xdg_at id o.shell) refl
    where
      at : (x : Option XdgSurface) → xdg_at id o.shell ≡ x → corner_of_xdg next others (renamed_owned f o) (option_map (renamed_xdg f) x) ≡ corner_of_xdg next place o x
      at None e = refl
      at (Some x) e =
          let there = at-there id x e in
          ap (λ (ps : List Popped). corner_by_role next others (renamed_owned f o) (renamed_xdg f x) ps x.role) (popped-renamed f x)
          ∙ by-role next place others x there (same x.surface there) (popped_of x) (each-popped (IsThere f o is) x there) x.role

  corner-at : (place others : ℕ → Place) → ((surface : ℕ) → has_surface surface o.surfaces ≡ true → others (f surface) ≡ place surface) → (n id : ℕ)
      → geometry_corner_at n others (renamed_owned f o) id ≡ geometry_corner_at n place o id
  unfolding geometry_corner_at
  corner-at place others same zero id = refl
  corner-at place others same (suc n) id =
      ap (λ (next : ℕ → Place). corner_of_xdg next others (renamed_owned f o) (xdg_at id (renamed_shell f o.shell))) (fun_ext (λ parent. corner-at place others same n parent))
      ∙ of-xdg (λ parent. geometry_corner_at n place o parent) place others same id

  corner-parent : (place others : ℕ → Place) → ((surface : ℕ) → has_surface surface o.surfaces ≡ true → others (f surface) ≡ place surface) → (n : ℕ) (parent : Option ℕ)
      → corner_at_parent (geometry_corner_at n others (renamed_owned f o)) parent ≡ corner_at_parent (geometry_corner_at n place o) parent
  corner-parent place others same n None = refl
  corner-parent place others same n (Some parent) = corner-at place others same n parent

  -- ---- roots

  abbrev IsRooted : Root → Type 0
  IsRooted r = has_surface r.surface o.surfaces ≡ true

  -- the surfaces of a stacked popup and of its parent are there
  abbrev IsStacked : StackedPopup → Type 0
  IsStacked p = (has_surface p.surface o.surfaces ≡ true) × IfSome p.parent (λ parent. has_surface parent o.surfaces ≡ true)

  parent-same : (surface : ℕ) → has_surface surface o.surfaces ≡ true → (parent : Option ℕ) → IfSome parent (λ parent. has_surface parent o.surfaces ≡ true)
      → option_map_or (λ parent. f surface == parent) (option_map f parent) false ≡ option_map_or (λ parent. surface == parent) parent false
  parent-same surface there None known = refl
  parent-same surface there (Some parent) known = same-name (known-there f o.surfaces is.surfaces) surface parent there known

  corner-same : (r : Root) → IsRooted r → corner_in (renamed f o.surfaces) (renamed_root f r) ≡ corner_in o.surfaces r
  corner-same r there = let e = history-same f o is r.surface there in rw e refl

  root-same : (r : Root) (p : StackedPopup) → IsRooted r → root_on (renamed f o.surfaces) (renamed_root f r) (renamed_popup f p) ≡ renamed_root f (root_on o.surfaces r p)
  root-same r p there =
      ap (λ (at : Place). record {
        client = r.client;
        surface = f p.surface;
        toplevel = f r.toplevel;
        geometry = p.geometry;
        place = popup_place (geometry_corner at r.geometry) p;
      }) (corner-same r there)

  on-same : (p : StackedPopup) → IsStacked p → (rs : List Root) → Each IsRooted rs
      → stacked_on (renamed f o.surfaces) (renamed_popup f p) (map (renamed_root f) rs) ≡ map (renamed_root f) (stacked_on o.surfaces p rs)
  on-same p known [] each = refl
  on-same p known (r ∷ rs) each =
      ap (λ b. cond (p.is_mapped && b) (root_on (renamed f o.surfaces) (renamed_root f r) (renamed_popup f p) ∷ [])
      (stacked_on (renamed f o.surfaces) (renamed_popup f p) (map (renamed_root f) rs))) (parent-same r.surface each.0 p.parent known.1)
      ∙ at (p.is_mapped && has_parent r.surface p) (on-same p known rs each.1)
    where
      at : (b : Bool) → stacked_on (renamed f o.surfaces) (renamed_popup f p) (map (renamed_root f) rs) ≡ map (renamed_root f) (stacked_on o.surfaces p rs)
          → cond b (root_on (renamed f o.surfaces) (renamed_root f r) (renamed_popup f p) ∷ []) (stacked_on (renamed f o.surfaces) (renamed_popup f p) (map (renamed_root f) rs))
          ≡ map (renamed_root f) (cond b (root_on o.surfaces r p ∷ []) (stacked_on o.surfaces p rs))
      at true next = ap (λ (root : Root). root ∷ []) (root-same r p each.0)
      at false next = next

  on-there : (p : StackedPopup) → IsStacked p → (rs : List Root) → Each IsRooted (stacked_on o.surfaces p rs)
  on-there p known [] = tt
  on-there p known (r ∷ rs) = at (p.is_mapped && has_parent r.surface p) (on-there p known rs)
    where
      at : (b : Bool) → Each IsRooted (stacked_on o.surfaces p rs) → Each IsRooted (cond b (root_on o.surfaces r p ∷ []) (stacked_on o.surfaces p rs))
      at true next = (known.0, tt)
      at false next = next

  joined : (xs ys : List Root) → map (renamed_root f) xs ++ map (renamed_root f) ys ≡ map (renamed_root f) (xs ++ ys)
  joined [] ys = refl
  joined (x ∷ xs) ys = ap (λ (rs : List Root). renamed_root f x ∷ rs) (joined xs ys)

  one-stacked : (rs : List Root) (p : StackedPopup) → Each IsRooted rs → IsStacked p
      → Each IsRooted (stacked o.surfaces rs p) × (stacked (renamed f o.surfaces) (map (renamed_root f) rs) (renamed_popup f p) ≡ map (renamed_root f) (stacked o.surfaces rs p))
  one-stacked rs p each known = (
    each-append IsRooted rs (stacked_on o.surfaces p rs) each (on-there p known rs),
    ap (λ (more : List Root). map (renamed_root f) rs ++ more) (on-same p known rs each) ∙ joined rs (stacked_on o.surfaces p rs),
  )

  roots-same : (toplevel : Root) → IsRooted toplevel → (ps : List StackedPopup) → Each IsStacked ps
      → roots_of (renamed f o.surfaces) (renamed_root f toplevel) (map (renamed_popup f) ps) ≡ map (renamed_root f) (roots_of o.surfaces toplevel ps)
  roots-same toplevel there ps each =
      (fold-mapped (stacked o.surfaces) (stacked (renamed f o.surfaces)) (map (renamed_root f)) (renamed_popup f) (Each IsRooted) IsStacked one-stacked ps each (toplevel ∷ []) (there, tt)).1

  -- the popups of the client are such
  parent-there : (parent : Option ℕ) → IfSome (option_and_then (λ xdg. surface_at_xdg xdg o.shell) parent) (λ surface. has_surface surface o.surfaces ≡ true)
  parent-there None = tt
  parent-there (Some id) = at (xdg_at id o.shell) refl
    where
      at : (x : Option XdgSurface) → xdg_at id o.shell ≡ x → IfSome (option_map (λ (x : XdgSurface). x.surface) x) (λ surface. has_surface surface o.surfaces ≡ true)
      at None e = tt
      at (Some x) e = at-there id x e

  all-stacked-there : Each IsStacked (stacked_popups o)
  all-stacked-there =
      each-mapped IsStacked (stacked_popup o) (popups_of o.shell)
      (each-weaker (λ (p : Popped). has_surface p.xdg.surface o.surfaces ≡ true) (λ (p : Popped). IsStacked (stacked_popup o p)) (λ p there. (there, parent-there p.popup.parent))
      (popups_of o.shell) (each-popup (IsThere f o is) o.shell (each-there f o is)))

  -- the window geometry of a surface that counts
  pub of-renamed : (shell : Shell) → Each (IsThere f o is) shell → (surface : ℕ) → has_surface surface o.surfaces ≡ true
      → xdg_of (f surface) (renamed_shell f shell) ≡ option_map (renamed_xdg f) (xdg_of surface shell)
  of-renamed shell each surface there =
      find-mapped (λ (x : XdgSurface). x.surface == surface) (λ (x : XdgSurface). x.surface == f surface) (renamed_xdg f) shell
      (each-weaker (IsThere f o is) (λ (x : XdgSurface). (f x.surface == f surface) ≡ (x.surface == surface))
      (λ x here. same-name (known-there f o.surfaces is.surfaces) x.surface surface here there) shell each)

  geometry-in-same : (surface : ℕ) → has_surface surface o.surfaces ≡ true → geometry_in (renamed_owned f o) (f surface) ≡ geometry_in o surface
  geometry-in-same surface there =
      ap₂ (λ (x : Option XdgSurface) (h : Option History). option_and_then (λ (h : History). option_and_then (geometry_since h) x) h) (of-renamed o.shell (each-there f o is) surface there)
      (history-same f o is surface there)
      ∙ ap (λ (by : History → Option Rect). option_and_then by (history_in surface o.surfaces)) (fun_ext (λ h. at h (xdg_of surface o.shell)))
    where
      at : (h : History) (x : Option XdgSurface) → option_and_then (geometry_since h) (option_map (renamed_xdg f) x) ≡ option_and_then (geometry_since h) x
      at h None = refl
      at h (Some x) = refl

  root-renamed : (s : Standing) → has_surface s.surface o.surfaces ≡ true → root_of (λ _. renamed_owned f o) (renamed_standing f s) ≡ renamed_root f (root_of (λ _. o) s)
  root-renamed s there =
      ap (λ (g : Option Rect). record { client = s.client; surface = f s.surface; toplevel = f s.surface; geometry = g; place = s.place })
      (geometry-in-same s.surface there)

  -- ---- toplevels that stand

  same-standing : (surface : ℕ) → has_surface surface o.surfaces ≡ true → (c : ℕ) (s other : Standing) → IsStandingAs f c o s other → is_of c (f surface) other ≡ is_of c surface s
  same-standing surface there c s other alike = ap (λ (client : ℕ). (client == c) && (other.surface == f surface)) alike.client ∙ at (s.client == c) refl
    where
      at : (b : Bool) → (s.client == c) ≡ b → (b && (other.surface == f surface)) ≡ (b && (s.surface == surface))
      at false e = refl
      at true e =
          let named = alike.surface (eqb-true s.client c e) in
          ap (λ (n : ℕ). n == f surface) named.0 ∙ same-name (known-there f o.surfaces is.surfaces) s.surface surface named.1 there

  same-places : (surface : ℕ) → has_surface surface o.surfaces ≡ true → (c : ℕ) (standing others : List Standing) → AreStandingAs f c o standing others
      → standing_place others c (f surface) ≡ standing_place standing c surface
  same-places surface there c [] [] alike = refl
  same-places surface there c [] (k ∷ ks) alike = absurd alike
  same-places surface there c (s ∷ ss) [] alike = absurd alike
  same-places surface there c (s ∷ ss) (k ∷ ks) alike =
      ap (λ b. place_or_origin (cond b (Some k) (find (is_of c (f surface)) ks))) (same-standing surface there c s k alike.0)
      ∙ at (is_of c surface s) (same-places surface there c ss ks alike.1)
    where
      at : (b : Bool) → standing_place ks c (f surface) ≡ standing_place ss c surface
          → place_or_origin (cond b (Some k) (find (is_of c (f surface)) ks)) ≡ place_or_origin (cond b (Some s) (find (is_of c surface) ss))
      at true next = alike.0.place
      at false next = next

pub standing-named : StandingNamed
standing-named f c o standing others is alike surface there = same-places f o is surface there c standing others alike

pub corners-named : CornersNamed
corners-named f c o standing others is same parent = corner-parent f o is (standing_place standing c) (standing_place others c) same 256 parent

pub roots-named : RootsNamed
roots-named f o s is there =
    ap₂ (λ (toplevel : Root) (ps : List StackedPopup). roots_of (renamed f o.surfaces) toplevel ps) (root-renamed f o is s there) (stacked-named f o is)
    ∙ roots-same f o is (root_of (λ _. o) s) there (stacked_popups o) (all-stacked-there f o is)

-- Where the popups of a client stand, and on whose surface they are stacked (xdg-shell.xml, xdg_popup).
use Rattle.std.specs.Prelude.{ℕ, zero, suc, pos, Option, Some, None, List, [], ◌∷◌, find, map}
use Rattle.std.specs.Option.{option_and_then, option_map, option_map_or}
use Rattle.wl_geom.specs.declared.rect.Rect.{Rect}
use Rattle.wl_surface.specs.State.{History}
use Rattle.wl_surface.specs.Surfaces.{history_in}
use Rattle.wl_shell.specs.Positioner.{Placed}
use Rattle.wl_shell.specs.Popups.{Popped, is_popup_mapped, popped_of, popups_of}
use Rattle.wl_shell.specs.Shell.{RoleObject, Shell, XdgSurface, xdg_at}
use Rattle.spec_desktop.specs.Stacking.{Owned, Standing, geometry_since, is_of}
use Rattle.spec_desktop.specs.Windows.{Place, StackedPopup, corner_at, geometry_corner, popup_place}

abbrev pub origin : Place
origin = record { x = pos 0; y = pos 0 }

abbrev pub placement_of : Option Placed → Place
placement_of None = origin
placement_of (Some p) = record { x = p.x; y = p.y }

-- the surface of an xdg_surface
abbrev pub surface_at_xdg : ℕ → Shell → Option ℕ
surface_at_xdg xdg shell = option_map (λ x. x.surface) (xdg_at xdg shell)

abbrev pub geometry_at : Owned → XdgSurface → Option Rect
geometry_at owned x = option_and_then (λ h. geometry_since h x) (history_in x.surface owned.surfaces)

-- a popup as it is stacked on the surface of its parent
abbrev pub stacked_popup : Owned → Popped → StackedPopup
stacked_popup owned p =
    record {
      surface = p.xdg.surface;
      parent = option_and_then (λ xdg. surface_at_xdg xdg owned.shell) p.popup.parent;
      placement = placement_of p.popup.placement;
      geometry = geometry_at owned p.xdg;
      is_mapped = is_popup_mapped p;
    }

abbrev pub stacked_popups : Owned → List StackedPopup
stacked_popups owned = map (stacked_popup owned) (popups_of owned.shell)

-- the corner of the window geometry of a surface that stands at a place
abbrev pub geometry_of_place : Owned → XdgSurface → Place → Option History → Place
geometry_of_place owned x place None = place
geometry_of_place owned x place (Some h) = geometry_corner (corner_at place h) (geometry_at owned x)

abbrev pub geometry_from : Owned → XdgSurface → Place → Place
geometry_from owned x place = geometry_of_place owned x place (history_in x.surface owned.surfaces)

-- where the window geometry of a popup's parent stands: at (0, 0) where it has none
abbrev pub corner_at_parent : (ℕ → Place) → Option ℕ → Place
corner_at_parent next parent = option_map_or next parent origin

-- The corner of an xdg_surface's window geometry, mapped or not: that of a toplevel at its place, which is (0, 0) where it isn't mapped;
-- that of a popup where its placement puts it on its parent; and (0, 0) where the role object is gone.
abbrev pub corner_by_role : (ℕ → Place) → (ℕ → Place) → Owned → XdgSurface → List Popped → Option RoleObject → Place
corner_by_role next place owned x popped None = origin
corner_by_role next place owned x [] (Some object) = geometry_from owned x (place x.surface)
corner_by_role next place owned x (p ∷ ps) (Some object) =
    geometry_from owned x (popup_place (corner_at_parent next p.popup.parent) (stacked_popup owned p))

abbrev pub corner_of_xdg : (ℕ → Place) → (ℕ → Place) → Owned → Option XdgSurface → Place
corner_of_xdg next place owned None = origin
corner_of_xdg next place owned (Some x) = corner_by_role next place owned x (popped_of x) x.role

unfoldable pub geometry_corner_at : ℕ → (ℕ → Place) → Owned → ℕ → Place
geometry_corner_at zero place owned xdg = origin
geometry_corner_at (suc n) place owned xdg = corner_of_xdg (λ parent. geometry_corner_at n place owned parent) place owned
    (xdg_at xdg owned.shell)

-- the place of a client's toplevel that stands
abbrev pub place_or_origin : Option Standing → Place
place_or_origin None = origin
place_or_origin (Some s) = s.place

abbrev pub standing_place : List Standing → ℕ → ℕ → Place
standing_place standing c surface = place_or_origin (find (is_of c surface) standing)

-- Where the window geometry of a popup's parent stands. A client has at most 256 surfaces, and so a chain of parents is no longer.
abbrev pub parent_corner : List Standing → ℕ → Owned → Option ℕ → Place
parent_corner standing c owned parent = corner_at_parent (geometry_corner_at 256 (standing_place standing c) owned) parent

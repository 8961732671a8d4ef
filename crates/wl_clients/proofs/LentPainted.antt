-- What is lent of the windows of the output is painted as the desktop is, and as opaque as said where it is.
use Rattle.wl_scene.proofs.Stood.{Keeps, keeps}
use Rattle.std.proofs.Common.{◌≡◌, ℕ, List, [], ◌∷◌, Option, Some, refl, ap, sym, subst, ◌∙◌, ℤ}
use Rattle.std.specs.Prelude.{fold}
use Rattle.std.specs.List.{AllByRecursion as Each}
use Rattle.std.specs.Option.{option_map}
use Rattle.std.proofs.lemmas.List.Elements.{All-from_recursion, recursion_from_All}
use Rattle.wl_geom.specs.Region.{Area, Stands as Covers}
use Rattle.wl_blend.specs.declared.color.Rgb.{Rgb}
use Rattle.wl_surface.specs.Kept.{Kept, counting_of}
use Rattle.wl_surface.specs.Slots.{Slots, kept_at}
use Rattle.wl_surface.specs.Surfaces.{surface_at}
use Rattle.spec_desktop.specs.Objects.{ById}
use Rattle.wl_client.specs.View.{ClientView}
use Rattle.wl_paint.specs.Window.{Window as Lent, over as over-one}
use Rattle.spec_desktop.specs.Windows.{Window}
use Rattle.wl_scene.specs.declared.stacked.Stacked.{Stacked}
use Rattle.wl_scene.specs.declared.tree_window.TreeWindow.{TreeWindow}
use Rattle.spec_desktop.specs.Desktop.{Desktop, owned_in}
use Rattle.spec_desktop.specs.Scratch.{over}
use Rattle.spec_desktop.specs.Stacked.{all_windows}
use Rattle.wl_clients.specs.LentPictures.{window_kept, window_lent, windows_lent}
use Rattle.wl_clients.specs.Painting.{AreLent, IsColor, LendsOpaqueAsSaid, PaintsTheDesktop}
use Rattle.wl_scene.specs.StackedAgreement.{AreStacked, IsStacked}
use Rattle.wl_clients.proofs.Colors.{color-over}
use Rattle.wl_clients.proofs.Over.{over-kept}
use Rattle.wl_clients.proofs.Said.{IsLentSo, IsSo, said-kept}
use Rattle.wl_scene.proofs.Shown.{IsShown, all-shown}
use Rattle.wl_scene.proofs.Stood.{surface-stands}

module _ (x y : ℤ) (nowhere : Area) (clients : ℕ → Option ClientView) (slots : ℕ → Slots) (numbers : ℕ → ById ℕ) (stacked : List Stacked) (d : Desktop)
    (lent : AreLent clients slots numbers stacked d) where
  abbrev lent_of : Stacked → Lent
  lent_of s = window_lent clients slots nowhere s

  abbrev IsOfDesktop : Window → Type 0
  IsOfDesktop w = IsShown (λ c. (owned_in d c).surfaces) w

  module _ (s : Stacked) (w : Window) (is : IsStacked numbers s w) (shown : IsOfDesktop w) where
    abbrev c : ℕ
    c = w.owner.client

    kept : Keeps (kept_at (slots c) s.window.surface) shown.history
    kept =
        keeps (kept_at (slots c) s.window.surface) (surface_at w.surface (owned_in d c).surfaces) shown.history
        (surface-stands (numbers c) (slots c) (owned_in d c).surfaces (lent.surfaces c) w.surface s.window.surface
        (ap (λ (n : ℕ). numbers n w.surface) (sym is.client) ∙ is.surface)) shown.found

    -- as it is lent
    lent-kept : lent_of s ≡ window_kept (clients c) nowhere s.window (Some (counting_of kept.slot))
    lent-kept =
        ap (λ (n : ℕ). window_kept (clients n) nowhere s.window (option_map counting_of (kept_at (slots n) s.window.surface))) is.client
        ∙ ap (λ (o : Option Kept). window_kept (clients c) nowhere s.window (option_map counting_of o)) kept.there

    at-x : s.window.x ≡ w.corner.x
    at-x = ap (λ (t : TreeWindow). t.x) is.told

    at-y : s.window.y ≡ w.corner.y
    at-y = ap (λ (t : TreeWindow). t.y) is.told

    over-window : (under : Rgb) → IsColor under → over-one x y under (lent_of s) ≡ over d x y under w
    over-window under color =
        ap (λ (l : Lent). over-one x y under l) lent-kept
        ∙ over-kept x y nowhere d (clients c) w.owner w.surface (lent.stores c) s.window w.corner kept.slot shown.history w.buffer under at-x at-y kept.stands shown.buffer color
        ∙ ap (λ (v : Window). over d x y under v) (sym shown.shows)

    so-window : Covers nowhere [] → IsSo d x y w → IsLentSo x y (lent_of s)
    so-window empty so =
        subst (λ (l : Lent). IsLentSo x y l) (sym lent-kept)
        (said-kept x y nowhere empty d (clients c) w.owner w.surface (lent.stores c) s.window w.corner kept.slot shown.history w.buffer at-x at-y kept.stands shown.buffer
        (subst (λ (v : Window). IsSo d x y v) shown.shows so))

  all-painted : (ss : List Stacked) (ws : List Window) → AreStacked numbers ss ws → Each IsOfDesktop ws → (under : Rgb) → IsColor under
      → fold (over-one x y) under (windows_lent clients slots nowhere ss) ≡ fold (over d x y) under ws
  all-painted [] [] are shown under color = refl
  all-painted [] (w ∷ ws) are shown under color = absurd are
  all-painted (s ∷ ss) [] are shown under color = absurd are
  all-painted (s ∷ ss) (w ∷ ws) are shown under color =
      all-painted ss ws are.1 shown.1 (over-one x y under (lent_of s)) (color-over _ under _ color)
      ∙ ap (λ (u : Rgb). fold (over d x y) u ws) (over-window s w are.0 shown.0 under color)

  all-said : Covers nowhere [] → (ss : List Stacked) (ws : List Window) → AreStacked numbers ss ws → Each IsOfDesktop ws → Each (IsSo d x y) ws → Each (IsLentSo x y) (windows_lent clients slots nowhere ss)
  all-said empty [] [] are shown so = tt
  all-said empty [] (w ∷ ws) are shown so = absurd are
  all-said empty (s ∷ ss) [] are shown so = absurd are
  all-said empty (s ∷ ss) (w ∷ ws) are shown so = (so-window s w are.0 shown.0 empty so.0, all-said empty ss ws are.1 shown.1 so.1)

pub paints_the_desktop : PaintsTheDesktop
paints_the_desktop background nowhere clients slots numbers stacked d x y color lent =
    all-painted x y nowhere clients slots numbers stacked d lent stacked (all_windows d) lent.windows (all-shown d) background color

pub lends_opaque_as_said : LendsOpaqueAsSaid
lends_opaque_as_said nowhere clients slots numbers stacked d x y empty lent so =
    All-from_recursion (IsLentSo x y) (windows_lent clients slots nowhere stacked)
    (all-said x y nowhere clients slots numbers stacked d lent empty stacked (all_windows d) lent.windows (all-shown d)
    (recursion_from_All (IsSo d x y) (all_windows d) so))

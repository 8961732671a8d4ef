-- Painting what is lent of the windows of the output is painting the desktop from nothing.
use Rattle.wl_scene.specs.Hit.{IsStoodFor}
use Rattle.std.specs.Prelude.{ℕ, ◌≡◌, ◌≤◌, ℤ, ◌-ℤ◌, ◌&&◌, true, List, [], Option}
use Rattle.std.specs.List.{All}
use Rattle.std.specs.Option.{option_map}
use Rattle.wl_geom.specs.Region.{Area, Stands as Covers, holds}
use Rattle.wl_blend.specs.declared.color.Rgb.{Rgb}
use Rattle.wl_surface.specs.Slots.{Slots}
use Rattle.spec_desktop.specs.Objects.{ById}
use Rattle.wl_client.specs.View.{ClientView}
use Rattle.wl_paint.specs.Window.{AreOpaqueAsSaid, scratch as painted}
use Rattle.spec_desktop.specs.Windows.{contains}
use Rattle.wl_scene.specs.declared.stacked.Stacked.{Stacked}
use Rattle.spec_desktop.specs.Desktop.{Desktop, client_at, owned_in}
use Rattle.spec_desktop.specs.Scratch.{color_in, scratch}
use Rattle.spec_desktop.specs.Stacked.{all_windows}
use Rattle.wl_clients.specs.LentPictures.{windows_lent}
use Rattle.wl_scene.specs.StackedAgreement.{AreStacked}

-- What is lent stands for the desktop: the stores and the surfaces of each client, and the windows in their order.
pub record AreLent (clients : ℕ → Option ClientView) (slots : ℕ → Slots) (numbers : ℕ → ById ℕ) (stacked : List Stacked)
    (d : Desktop) : Type 0 where
  pub stores : (c : ℕ) → option_map (λ v. v.stores) (clients c) ≡ option_map (λ r. r.peer.stores) (client_at c d)
  pub surfaces : (c : ℕ) → IsStoodFor (numbers c) (slots c) (owned_in d c).surfaces
  pub windows : AreStacked numbers stacked (all_windows d)

-- a colour whose channels are bytes
pub record IsColor (color : Rgb) : Type 0 where
  pub r : color.r ≤ 255
  pub g : color.g ≤ 255
  pub b : color.b ≤ 255

-- Painted from nothing, what is lent gives each point the colour that the desktop does.
abbrev pub PaintsTheDesktop : Type 0
PaintsTheDesktop =
    (background : Rgb) (nowhere : Area) (clients : ℕ → Option ClientView) (slots : ℕ → Slots) (numbers : ℕ → ById ℕ)
    (stacked : List Stacked) (d : Desktop) (x y : ℤ)
    → IsColor background → AreLent clients slots numbers stacked d
    → painted background (windows_lent clients slots nowhere stacked) x y ≡ scratch background d x y

-- each window that contains the point and whose applied opaque region holds it has the alpha 255 there
abbrev pub IsOpaqueAsSaid : Desktop → ℤ → ℤ → Type 0
IsOpaqueAsSaid d x y =
    All (λ w. (contains w x y && holds (x -ℤ w.corner.x) (y -ℤ w.corner.y) w.opaque) ≡ true → (color_in d w x y).a ≡ 255) (all_windows d)

-- What is said opaque of the desktop's windows and is, is so of those that are lent, with the empty region where there is no picture.
abbrev pub LendsOpaqueAsSaid : Type 0
LendsOpaqueAsSaid =
    (nowhere : Area) (clients : ℕ → Option ClientView) (slots : ℕ → Slots) (numbers : ℕ → ById ℕ) (stacked : List Stacked) (d : Desktop)
    (x y : ℤ)
    → Covers nowhere [] → AreLent clients slots numbers stacked d → IsOpaqueAsSaid d x y → AreOpaqueAsSaid x y (windows_lent clients slots nowhere stacked)

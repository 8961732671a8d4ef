-- What a desk keeps is painted as each desktop that agrees.
use Rattle.std.proofs.Common.{◌≡◌, List, [], Option, subst, sym}
use Rattle.std.specs.Prelude.{ℤ}
use Rattle.wl_blend.specs.declared.color.Rgb.{Rgb}
use Rattle.wl_geom.specs.Region.{Area, Stands as Covers}
use Rattle.wl_client.specs.declared.outputs.Output.{Output}
use Rattle.wl_paint.specs.Window.{AreOpaqueAsSaid, scratch as painted}
use Rattle.wl_scene.specs.declared.stacked.Stacked.{Stacked}
use Rattle.spec_desktop.specs.Desktop.{Desktop}
use Rattle.spec_desktop.specs.Scratch.{scratch}
use Rattle.wl_clients.specs.LentPictures.{windows_lent}
use Rattle.wl_clients.specs.Painting.{AreLent, IsColor, IsOpaqueAsSaid}
use Rattle.wl_clients.proofs.LentPainted.{lends_opaque_as_said, paints_the_desktop}
use Rattle.wl_requests.specs.declared.residents.Resident.{Resident as Kept}
use Rattle.wl_clients.specs.Agreement.{numbers_in}
use Rattle.wl_clients.specs.View.{Pile}
use Rattle.wl_clients.specs.Agreeing.{Agrees}
use Rattle.wl_clients.specs.Lent.{client_lent, slots_lent}
use Rattle.wl_clients.specs.Residents.{client_views, owned_views}
use Rattle.wl_clients.proofs.Lending.{agrees-lent}
use Rattle.wl_clients.proofs.Seats.{view_of}

module _ {A : Type 0} (output : Output) (rs ws : List (Option (Kept A))) (pile : Pile) (stacked : List Stacked) (nowhere : Area) (same : ws ≡ rs) (all : stacked ≡ pile.windows)
    (d : Desktop) (a : Agrees (view_of output rs pile) d) (x y : ℤ) where
  abbrev IsLent : List (Option (Kept A)) → List Stacked → Type 0
  IsLent vs ss = AreLent (client_lent (client_views vs)) (slots_lent (owned_views vs)) (numbers_in (client_views rs)) ss d

  all-lent : IsLent ws stacked
  all-lent =
      subst (λ (vs : List (Option (Kept A))). IsLent vs stacked) (sym same)
      (subst (λ (ss : List Stacked). IsLent rs ss) (sym all) (agrees-lent (view_of output rs pile) d a.matches))

  pub desk-painted : (background : Rgb) → IsColor background
      → painted background (windows_lent (client_lent (client_views ws)) (slots_lent (owned_views ws)) nowhere stacked) x y ≡ scratch background d x y
  desk-painted background color =
      paints_the_desktop background nowhere (client_lent (client_views ws)) (slots_lent (owned_views ws)) (numbers_in (client_views rs)) stacked d x y color all-lent

  pub desk-said : Covers nowhere [] → IsOpaqueAsSaid d x y → AreOpaqueAsSaid x y (windows_lent (client_lent (client_views ws)) (slots_lent (owned_views ws)) nowhere stacked)
  desk-said empty said =
      lends_opaque_as_said nowhere (client_lent (client_views ws)) (slots_lent (owned_views ws)) (numbers_in (client_views rs)) stacked d x y empty all-lent said

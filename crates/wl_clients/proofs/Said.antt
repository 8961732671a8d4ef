-- What is said opaque of a window of a client's surface and is, is so of the window as it is lent.
use Rattle.std.proofs.Common.{◌≡◌, ℕ, ◌+◌, ◌*◌, List, [], Bool, true, false, Option, Some, None, cond, refl, ap, sym, subst, ◌∙◌, length, ℤ, ◌-ℤ◌}
use Rattle.std.proofs.lemmas.Bool.{and_from}
use Rattle.std.specs.Prelude.{◌&&◌, nat_le}
use Rattle.std.specs.Option.{option_map}
use Rattle.wl_geom.specs.Rect.{is_point}
use Rattle.wl_geom.specs.Region.{Area, Change, Stands as IsRegion, holds}
use Rattle.wl_store.specs.Layout.{buffer_color}
use Rattle.wl_store.specs.declared.color.Argb.{Argb}
use Rattle.wl_store.specs.Picture.{Shown}
use Rattle.wl_store.specs.Stores.{Stock}
use Rattle.wl_store.specs.Transform.{transform_of}
use Rattle.wl_surface.specs.Kept.{Kept, Stands, buffer_of, counting_of}
use Rattle.wl_surface.specs.Request.{Buffer}
use Rattle.wl_surface.specs.State.{History, Values, applied}
use Rattle.wl_surface.specs.declared.content.Attached.{Attached}
use Rattle.wl_client.specs.View.{ClientView}
use Rattle.wl_paint.specs.Window.{Window as Lent, color_in as color-lent, in_window, is_said_opaque}
use Rattle.spec_desktop.specs.Windows.{Owner, Place, Window, contains, window_showing}
use Rattle.wl_scene.specs.declared.tree_window.TreeWindow.{TreeWindow}
use Rattle.spec_desktop.specs.Desktop.{Desktop, Resident, client_at}
use Rattle.spec_desktop.specs.Scratch.{color_in, pixel_at}
use Rattle.wl_clients.specs.LentPictures.{picture_shown, window_kept}
use Rattle.wl_clients.proofs.Colors.{no_color}
use Rattle.wl_clients.proofs.Over.{buffer-in, bytes_from, bytes_or, lent_as, lent_window, now-from, point, shown-from, window}
use Rattle.wl_scene.proofs.Truth.{and-left, and-right, differ}

abbrev pub IsSo : Desktop → ℤ → ℤ → Window → Type 0
IsSo d x y w = (contains w x y && holds (x -ℤ w.corner.x) (y -ℤ w.corner.y) w.opaque) ≡ true → (color_in d w x y).a ≡ 255

abbrev pub IsLentSo : ℤ → ℤ → Lent → Type 0
IsLentSo x y w = (in_window x y w && is_said_opaque x y w) ≡ true → (color-lent x y w).a ≡ 255

-- the empty region holds no point
no-point-of : (b : Bool) → (b && false) ≡ false
no-point-of true = refl
no-point-of false = refl

no-point : (nowhere : Area) → IsRegion nowhere [] → (x y : ℤ) → holds x y nowhere.made ≡ false
no-point nowhere empty x y = ap (holds x y) empty.listed ∙ no-point-of (is_point x y)

module _ (x y : ℤ) (nowhere : Area) (empty : IsRegion nowhere []) (owner : Owner) (surface : ℕ) (corner : Place) (t scale : ℕ) (a : Attached) (area : Area) (opaque : List Change) (input : Option (List Change))
    (listed : area.made ≡ opaque) where
  abbrev here : Window
  here = window x y nowhere owner surface corner t scale a area opaque input

  abbrev held : Bool
  held = holds (x -ℤ corner.x) (y -ℤ corner.y) opaque

  abbrev lent_with : Option (List ℕ) → Lent
  lent_with o = lent_as x y nowhere owner surface corner t scale a area opaque input o

  abbrev IsSoOf : Argb → Type 0
  IsSoOf c = (contains here x y && held) ≡ true → c.a ≡ 255

  abbrev pixel_of : Option (List ℕ) → Argb
  pixel_of o = pixel_at (bytes_or o) (buffer_of a) (point x y nowhere owner surface corner t scale a area opaque input)

  abbrev said : Bool → Type 0
  said inside = (inside && holds (x -ℤ corner.x) (y -ℤ corner.y) area.made) ≡ true

  said-held : (inside : Bool) → said inside → held ≡ true
  said-held inside e = sym (ap (holds (x -ℤ corner.x) (y -ℤ corner.y)) listed) ∙ and-right inside _ e

  -- without a picture nothing is said
  unseen : IsLentSo x y (lent_window nowhere corner area None)
  unseen e =
      let said-there = and-right (in_window x y (lent_window nowhere corner area None)) _ e in
      absurd (differ (sym (no-point nowhere empty (x -ℤ corner.x) (y -ℤ corner.y)) ∙ said-there))

  said-lent : (o : Option (List ℕ)) → IsSoOf (pixel_of o) → IsLentSo x y (lent_with o)
  said-lent None so = unseen
  said-lent (Some bytes) so = by (nat_le (a.layout.offset + a.layout.stride * a.layout.h) (length bytes)) so
    where
      by : (b : Bool) → IsSoOf (cond b (buffer_color bytes a.layout (point x y nowhere owner surface corner t scale a area opaque input)) no_color)
          → IsLentSo x y (lent_window nowhere corner area (cond b (Some (record { bytes = bytes; layout = a.layout; transform = transform_of t; scale = scale })) None))
      by true so e = so (and_from (contains here x y) held (and-left (contains here x y) _ e) (said-held _ e))
      by false so e = unseen e

module _ (x y : ℤ) (nowhere : Area) (empty : IsRegion nowhere []) (d : Desktop) (client : Option ClientView) (owner : Owner) (surface : ℕ) (same : option_map (λ (v : ClientView). v.stores) client ≡ option_map (λ (r : Resident). r.peer.stores)
    (client_at owner.client d)) where
  said-there : (corner : Place) (v : Values) (area : Area) (o : Option Attached) (b : Buffer) → option_map buffer_of o ≡ Some b → area.made ≡ v.opaque
      → IsSo d x y (window_showing owner surface corner v b) → IsLentSo x y (lent_window nowhere corner area (picture_shown client (transform_of v.transform) v.scale o))
  said-there corner v area None b e listed so = absurd (cc)
  said-there corner v area (Some a) b e listed so =
      let one : buffer_of a ≡ b = ap (buffer-in b) e in
      let of-a : IsSo d x y (window_showing owner surface corner v (buffer_of a)) = subst (λ (c : Buffer). IsSo d x y (window_showing owner surface corner v c)) (sym one) so in
      let read = now-from (window x y nowhere owner surface corner v.transform v.scale a area v.opaque v.input) (client_at owner.client d) ∙ ap (λ (o : Option Stock). bytes_or (bytes_from a.store o))
      (sym same) in
      let so-read = subst (λ (bytes : List ℕ). IsSoOf x y nowhere empty owner surface corner v.transform v.scale a area v.opaque v.input listed
      (pixel_at bytes (buffer_of a) (point x y nowhere owner surface corner v.transform v.scale a area v.opaque v.input))) read of-a in
      subst (λ (p : Option Shown). IsLentSo x y (lent_window nowhere corner area p)) (sym (shown-from client (transform_of v.transform) v.scale a))
      (said-lent x y nowhere empty owner surface corner v.transform v.scale a area v.opaque v.input listed (bytes_from a.store (option_map (λ (v : ClientView). v.stores) client)) so-read)

  pub said-kept : (told : TreeWindow) (corner : Place) (k : Kept) (h : History) (b : Buffer) → told.x ≡ corner.x → told.y ≡ corner.y → Stands k h → (applied h).buffer ≡ Some b
      → IsSo d x y (window_showing owner surface corner (applied h) b) → IsLentSo x y (window_kept client nowhere told (Some (counting_of k)))
  said-kept told corner k h b at-x at-y is there so =
      rw (is.current.transform_is, is.current.scale_is, at-x, at-y)
      (said-there corner (applied h) k.current_opaque k.current_buffer b (is.current.buffer_is ∙ there) is.current.opaque_is.listed so)

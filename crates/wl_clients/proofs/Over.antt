-- A window of a client's surface, as it is lent, is laid over others as the desktop's is.
use Rattle.std.proofs.Common.{◌≡◌, ℕ, ◌+◌, ◌*◌, List, [], Bool, true, false, Option, Some, None, cond, refl, ap, sym, subst, ◌∙◌, length, ℤ, ◌-ℤ◌}
use Rattle.std.specs.Prelude.{nat_le, unsigned_abs}
use Rattle.std.specs.Option.{option_and_then, option_map, option_map_or}
use Rattle.wl_geom.specs.Region.{Area, Change}
use Rattle.wl_store.specs.Picture.{Shown, lent, transparent}
use Rattle.wl_store.specs.Stores.{Stock, bytes_of}
use Rattle.wl_store.specs.Transform.{buffer_point, scaled, transform_of}
use Rattle.wl_store.specs.declared.transform.Transform.{Transform}
use Rattle.wl_blend.specs.Blend.{blended}
use Rattle.wl_blend.specs.declared.color.Rgb.{Rgb}
use Rattle.wl_surface.specs.Kept.{Kept, Stands, buffer_of, counting_of}
use Rattle.wl_surface.specs.Request.{Buffer}
use Rattle.wl_surface.specs.State.{History, Values, applied, height_of, width_of}
use Rattle.wl_surface.specs.declared.content.Attached.{Attached}
use Rattle.wl_client.specs.View.{ClientView}
use Rattle.wl_paint.specs.Window.{Window as Lent, in_window, over as over-one}
use Rattle.spec_desktop.specs.Windows.{Owner, Place, Window, contains, window_showing}
use Rattle.wl_scene.specs.declared.tree_window.TreeWindow.{TreeWindow}
use Rattle.spec_desktop.specs.Desktop.{Desktop, Resident, client_at}
use Rattle.spec_desktop.specs.Scratch.{bytes_now, over, pixel_at}
use Rattle.wl_clients.specs.LentPictures.{picture_shown, window_kept}
use Rattle.wl_clients.specs.Painting.{IsColor}
use Rattle.wl_clients.proofs.Colors.{clear-over, has-bytes, transparent-color}

-- a surface of a client that shows a buffer
abbrev pub shown_window : Owner → ℕ → Place → ℕ → ℕ → Attached → List Change → Option (List Change) → Window
shown_window owner surface corner transform scale a opaque input =
    record {
      owner = owner;
      surface = surface;
      corner = corner;
      width = width_of (Some (buffer_of a)) transform scale;
      height = height_of (Some (buffer_of a)) transform scale;
      transform = transform;
      scale = scale;
      buffer = buffer_of a;
      opaque = opaque;
      input = input;
    }

-- and as it is lent
abbrev pub lent_window : Area → Place → Area → Option Shown → Lent
lent_window nowhere corner opaque None = record { x = corner.x; y = corner.y; picture = transparent; opaque = nowhere }
lent_window nowhere corner opaque (Some picture) = record { x = corner.x; y = corner.y; picture = picture; opaque = opaque }

-- a store's bytes, or none
abbrev pub bytes_or : Option (List ℕ) → List ℕ
bytes_or o = option_map_or (λ bytes. bytes) o []

module _ (x y : ℤ) (nowhere : Area) (owner : Owner) (surface : ℕ) (corner : Place) (t scale : ℕ) (a : Attached) (area : Area) (opaque : List Change) (input : Option (List Change)) where
  abbrev pub window : Window
  window = shown_window owner surface corner t scale a opaque input

  abbrev pub point : ℕ × ℕ
  point = scaled scale (buffer_point (transform_of t) window.width window.height (unsigned_abs (x -ℤ corner.x)) (unsigned_abs (y -ℤ corner.y)))

  abbrev pub lent_as : Option (List ℕ) → Lent
  lent_as o = lent_window nowhere corner area (option_and_then (λ bytes. lent bytes a.layout (transform_of t) scale) o)

  over-lent : (under : Rgb) (o : Option (List ℕ)) → IsColor under → over-one x y under (lent_as o) ≡ cond (contains window x y) (blended under (pixel_at (bytes_or o) (buffer_of a) point)) under
  over-lent under None is =
      clear-over (in_window x y (lent_as None)) under _ (transparent-color _ _) is
      ∙ sym (clear-over (contains window x y) under _ (rw (has-bytes a.layout) refl) is)
  over-lent under (Some bytes) is = by (nat_le (a.layout.offset + a.layout.stride * a.layout.h) (length bytes)) refl
    where
      by : (b : Bool) → nat_le (a.layout.offset + a.layout.stride * a.layout.h) (length bytes) ≡ b
          → over-one x y under (lent_as (Some bytes)) ≡ cond (contains window x y) (blended under (pixel_at bytes (buffer_of a) point)) under
      by true fits = rw fits refl
      by false past = rw past (clear-over (in_window x y (lent_window nowhere corner area None)) under _ (transparent-color _ _) is ∙ sym (clear-over (contains window x y) under _ refl is))

-- ---- stores

-- the bytes of a store, if it is there
abbrev pub bytes_from : ℕ → Option Stock → Option (List ℕ)
bytes_from store None = None
bytes_from store (Some stores) = bytes_of store stores

pub shown-from : (client : Option ClientView) (t : Transform) (scale : ℕ) (a : Attached) → picture_shown client t scale (Some a) ≡ option_and_then (λ bytes. lent bytes a.layout t scale)
    (bytes_from a.store (option_map (λ (v : ClientView). v.stores) client))
shown-from None t scale a = refl
shown-from (Some v) t scale a = refl

pub now-from : (w : Window) (r : Option Resident) → bytes_now w r ≡ bytes_or (bytes_from w.buffer.store (option_map (λ (r : Resident). r.peer.stores) r))
now-from w None = refl
now-from w (Some r) = refl

abbrev pub buffer-in : Buffer → Option Buffer → Buffer
buffer-in d None = d
buffer-in d (Some b) = b

-- ---- a client's window

module _ (x y : ℤ) (nowhere : Area) (d : Desktop) (client : Option ClientView) (owner : Owner) (surface : ℕ) (same : option_map (λ (v : ClientView). v.stores) client ≡ option_map (λ (r : Resident). r.peer.stores)
    (client_at owner.client d)) where
  -- at its corner, with its transform and its scale
  over-there : (corner : Place) (v : Values) (area : Area) (o : Option Attached) (b : Buffer) (under : Rgb) → option_map buffer_of o ≡ Some b → IsColor under
      → over-one x y under (lent_window nowhere corner area (picture_shown client (transform_of v.transform) v.scale o)) ≡ over d x y under (window_showing owner surface corner v b)
  over-there corner v area None b under e is = absurd (cc)
  over-there corner v area (Some a) b under e is =
      let one : buffer_of a ≡ b = ap (buffer-in b) e in
      subst (λ (c : Buffer). over-one x y under (lent_window nowhere corner area (picture_shown client (transform_of v.transform) v.scale (Some a))) ≡ over d x y under
      (window_showing owner surface corner v c)) one
      (ap (λ (p : Option Shown). over-one x y under (lent_window nowhere corner area p)) (shown-from client (transform_of v.transform) v.scale a)
      ∙ over-lent x y nowhere owner surface corner v.transform v.scale a area v.opaque v.input under (bytes_from a.store (option_map (λ (v : ClientView). v.stores) client)) is
      ∙ ap (λ (bytes : List ℕ). cond (contains (window x y nowhere owner surface corner v.transform v.scale a area v.opaque v.input) x y)
      (blended under (pixel_at bytes (buffer_of a) (point x y nowhere owner surface corner v.transform v.scale a area v.opaque v.input))) under)
      (ap (λ (o : Option Stock). bytes_or (bytes_from a.store o)) same ∙ sym (now-from (window x y nowhere owner surface corner v.transform v.scale a area v.opaque v.input) (client_at owner.client d))))

  -- as it is kept
  pub over-kept : (told : TreeWindow) (corner : Place) (k : Kept) (h : History) (b : Buffer) (under : Rgb) → told.x ≡ corner.x → told.y ≡ corner.y → Stands k h
      → (applied h).buffer ≡ Some b → IsColor under
      → over-one x y under (window_kept client nowhere told (Some (counting_of k))) ≡ over d x y under (window_showing owner surface corner (applied h) b)
  over-kept told corner k h b under at-x at-y is there color =
      rw (is.current.transform_is, is.current.scale_is, at-x, at-y)
      (over-there corner (applied h) k.current_opaque k.current_buffer b under (is.current.buffer_is ∙ there) color)

-- The window of a surface, from what is told of it.
use Rattle.std.proofs.Common.{◌≡◌, ℕ, ℤ, ◌+ℤ◌, Option, Some, None, ap, sym, ◌∙◌, subst}
use Rattle.std.specs.Prelude.{option_and_then}
use Rattle.std.specs.Option.{option_map}
use Rattle.spec_desktop.specs.Windows.{Place, corner_at}
use Rattle.wl_surface.specs.declared.content.Attached.{Attached}
use Rattle.wl_surface.specs.declared.state.Current.{Current}
use Rattle.wl_surface.specs.Kept.{IsCurrent, buffer_of}
use Rattle.wl_surface.specs.Request.{Buffer}
use Rattle.wl_surface.specs.State.{History, Values, applied, height_of, width_of, within_bounds}
use Rattle.wl_surface.specs.Surface.{Surface}
use Rattle.wl_store.specs.Transform.{transform_of}
use Rattle.wl_store.specs.declared.transform.Transform.{Transform}
use Rattle.wl_surface.specs.Slots.{IsCurrentAt}
use Rattle.wl_scene.specs.TreeWindows.{window_in, window_with}

-- a window with these values
with-shown : (root surface : ℕ) (corner : Place) (v : Values) (o : Option Buffer) (b : Buffer) (x y : ℤ) (w h : ℕ) (transform : Transform) (scale : ℕ) → o ≡ Some b → x ≡ corner.x
    → y ≡ corner.y → w ≡ width_of o v.transform v.scale → h ≡ height_of o v.transform v.scale → transform ≡ transform_of v.transform → scale ≡ v.scale
    → Some (record { surface = surface; root = root; x = x; y = y; w = w; h = h; transform = transform; scale = scale }) ≡ window_with root surface corner v o
with-shown root surface corner v None b x y w h transform scale e ex ey ew eh et es = absurd (cc)
with-shown root surface corner v (Some a) b x y w h transform scale e ex ey ew eh et es = cc

-- that of what was asked of a surface
in-shown : {A : Type 0} (current : Current A) (attached : Attached) (root surface : ℕ) (place : Place) (x y : ℤ) (h : History) → IsCurrent current h
    → current.buffer ≡ Some attached → x ≡ within_bounds (place.x +ℤ current.offset.x) → y ≡ within_bounds (place.y +ℤ current.offset.y)
    → Some (record { surface = surface; root = root; x = x; y = y; w = current.w; h = current.h; transform = current.transform; scale = current.scale.number }) ≡ window_in root surface place h
in-shown current attached root surface place x y h is shows ex ey =
    with-shown root surface (corner_at place h) (applied h) (applied h).buffer (buffer_of attached) x y current.w current.h current.transform current.scale.number
    (sym is.buffer ∙ ap (option_map buffer_of) shows)
    (ex ∙ ap (λ z. within_bounds (place.x +ℤ z)) is.offset.0)
    (ey ∙ ap (λ z. within_bounds (place.y +ℤ z)) is.offset.1)
    is.width is.height is.transform is.scale

pub window-shown : {A : Type 0} (current : Current A) (told : Option (Current A)) (attached : Attached) (root surface : ℕ) (place : Place) (x y : ℤ) (s : Option Surface)
    → IsCurrentAt told s → told ≡ Some current → current.buffer ≡ Some attached → x ≡ within_bounds (place.x +ℤ current.offset.x)
    → y ≡ within_bounds (place.y +ℤ current.offset.y)
    → Some (record { surface = surface; root = root; x = x; y = y; w = current.w; h = current.h; transform = current.transform; scale = current.scale.number })
    ≡ option_and_then (window_in root surface place) (option_map (λ (s : Surface). s.history) s)
window-shown {A} current told attached root surface place x y s is there shows ex ey = by s (subst (λ (o : Option (Current A)). IsCurrentAt o s) there is)
  where
    by : (s : Option Surface) → IsCurrentAt (Some current) s
        → Some (record { surface = surface; root = root; x = x; y = y; w = current.w; h = current.h; transform = current.transform; scale = current.scale.number })
        ≡ option_and_then (window_in root surface place) (option_map (λ (s : Surface). s.history) s)
    by None is = absurd is
    by (Some s) is = in-shown current attached root surface place x y s.history is shows ex ey

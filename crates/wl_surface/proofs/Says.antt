-- The held damage, told by rectangles of the surface.
use Rattle.std.proofs.Common.{◌≡◌, ℕ, ◌+◌, ◌<◌, List, Option, Some, None, length, refl, ap, subst, ◌∙◌}
use Rattle.std.specs.Prelude.{pos, ◌||◌}
use Rattle.std.specs.List.{list_any}
use Rattle.std.specs.Option.{option_map}
use Rattle.wl_geom.specs.declared.rect.Rect.{Rect}
use Rattle.wl_geom.specs.Rect.{in_rect}
use Rattle.wl_store.specs.declared.transform.Transform.{Transform}
use Rattle.wl_store.specs.Transform.{buffer_point, transform_of}
use Rattle.wl_surface.specs.Request.{Buffer}
use Rattle.wl_surface.specs.State.{History, SaysDamage, Values, between, committed, damaged_buffer_rects, damaged_rects, height_of, held, meets, width_of}
use Rattle.wl_surface.specs.Kept.{Kept, Stands, buffer_of, turned_height, turned_width}
use Rattle.wl_surface.proofs.Damages.{at-point, told-both}

-- by the number of the transform, or by the transform itself
width-turned : (b : Option Buffer) (number scale : ℕ) → turned_width b (transform_of number) scale ≡ width_of b number scale
width-turned None number scale = refl
width-turned (Some b) number scale = refl

height-turned : (b : Option Buffer) (number scale : ℕ) → turned_height b (transform_of number) scale ≡ height_of b number scale
height-turned None number scale = refl
height-turned (Some b) number scale = refl

-- These rectangles tell the points of the surface's own, and those that show a point of its
-- buffer's.
abbrev pub TellsPoints : List Rect → List Rect → List Rect → Transform → ℕ → ℕ → ℕ → Type 0
TellsPoints told own of_buffer transform scale w h =
    (x y : ℕ) → x < w → y < h
    → list_any (in_rect (pos x) (pos y)) told ≡ (list_any (in_rect (pos x) (pos y)) own || list_any (meets scale (buffer_point transform w h x y)) of_buffer)

module _ (k : Kept) (h : History) (s : Stands k h) (told : List Rect) (w high : ℕ) where
  abbrev shown : Values
  shown = held h

  wide : w ≡ turned_width (option_map buffer_of k.held_buffer) k.held_transform k.held_scale.number → w ≡ width_of shown.buffer shown.transform shown.scale
  wide e =
      e ∙ ap (λ (b : Option Buffer). turned_width b k.held_transform k.held_scale.number) s.held.buffer_is
      ∙ ap (λ (t : Transform). turned_width shown.buffer t k.held_scale.number) s.held.transform_is
      ∙ ap (λ (n : ℕ). turned_width shown.buffer (transform_of shown.transform) n) s.held.scale_is ∙ width-turned shown.buffer shown.transform shown.scale

  tall : high ≡ turned_height (option_map buffer_of k.held_buffer) k.held_transform k.held_scale.number → high ≡ height_of shown.buffer shown.transform shown.scale
  tall e =
      e ∙ ap (λ (b : Option Buffer). turned_height b k.held_transform k.held_scale.number) s.held.buffer_is
      ∙ ap (λ (t : Transform). turned_height shown.buffer t k.held_scale.number) s.held.transform_is
      ∙ ap (λ (n : ℕ). turned_height shown.buffer (transform_of shown.transform) n) s.held.scale_is ∙ height-turned shown.buffer shown.transform shown.scale

  -- The held damage, told by rectangles, is the one that was asked.
  pub says-held : w ≡ turned_width (option_map buffer_of k.held_buffer) k.held_transform k.held_scale.number
      → high ≡ turned_height (option_map buffer_of k.held_buffer) k.held_transform k.held_scale.number
      → length told ≡ length k.held_damage + length k.held_buffer_damage
      → TellsPoints told k.held_damage k.held_buffer_damage k.held_transform k.held_scale.number w high
      → SaysDamage told (held h) (between h.cut (committed h.requests) h.requests)
  says-held width height count points x y =
      let requests = between h.cut (committed h.requests) h.requests in
      let at_width = subst (λ (n : ℕ). TellsPoints told k.held_damage k.held_buffer_damage k.held_transform k.held_scale.number n high) (wide width) points in
      let at_size = subst (λ (n : ℕ). TellsPoints told k.held_damage k.held_buffer_damage k.held_transform k.held_scale.number (width_of shown.buffer shown.transform shown.scale) n)
      (tall height) at_width in
      let turned = subst (λ (t : Transform). TellsPoints told k.held_damage k.held_buffer_damage t k.held_scale.number (width_of shown.buffer shown.transform shown.scale)
      (height_of shown.buffer shown.transform shown.scale)) s.held.transform_is at_size in
      let scaled = subst (λ (n : ℕ). TellsPoints told k.held_damage k.held_buffer_damage (transform_of shown.transform) n (width_of shown.buffer shown.transform shown.scale)
      (height_of shown.buffer shown.transform shown.scale)) s.held.scale_is turned in
      at-point x y (width_of shown.buffer shown.transform shown.scale) (height_of shown.buffer shown.transform shown.scale) _ _
      (λ across down. told-both (in_rect (pos x) (pos y))
      (meets shown.scale (buffer_point (transform_of shown.transform) (width_of shown.buffer shown.transform shown.scale) (height_of shown.buffer shown.transform shown.scale) x y))
      (damaged_rects requests) (damaged_buffer_rects requests) k.held_damage k.held_buffer_damage told s.held_damaged s.held_buffer_damaged count (scaled x y across down))

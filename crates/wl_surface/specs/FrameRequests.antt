-- The frame requests of a surface, by the numbers that they carry (wayland.xml, wl_surface.frame).
use Rattle.std.specs.Prelude.{ℕ, Option, Some, None, List, [], ◌∷◌, flat_map}
use Rattle.wl_surface.specs.Request.{Request, Frame}
use Rattle.wl_surface.specs.State.{History}

-- the frame requests in a surface's list, in their order
abbrev pub frames_of : List Request → List ℕ
frames_of requests = flat_map (λ request. frame_of request) requests
  where
    frame_of : Request → List ℕ
    frame_of (Frame number) = number ∷ []
    frame_of request = []

abbrev pub frames_asked : Option History → List ℕ
frames_asked None = []
frames_asked (Some h) = frames_of h.requests

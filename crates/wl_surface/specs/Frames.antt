-- The frame requests of surfaces, by the numbers that they carry (wayland.xml, wl_surface.frame).
use Rattle.std.specs.Prelude.{ℕ, List, flat_map}
use Rattle.wl_surface.specs.FrameRequests.{frames_of}
use Rattle.wl_surface.specs.State.{counting}
use Rattle.wl_surface.specs.Surfaces.{Surfaces}

-- the frame requests of a client's surfaces that count
abbrev pub frames_counting : Surfaces → List ℕ
frames_counting all = flat_map (λ s. frames_of (counting s.history)) all.surfaces

-- A viewer that copies only what each frame reports as damaged.
use Rattle.std.specs.Prelude.{ℕ, ◌+◌, ◌*◌, List, fold, if◌then◌else◌}
use Rattle.wl_blend.specs.Blend.{color_of}
use Rattle.wl_blend.specs.declared.color.Rgb.{Rgb}
use Rattle.wl_session.specs.Run.{Film, in_runs}

-- what a viewer holds: a colour for each point
abbrev pub Sight : Type 0
Sight = ℕ → ℕ → Rgb

-- it starts with the background
abbrev pub blank : Rgb → Sight
blank background x y = background

-- It copies the points of the frame's damage, and no others.
abbrev pub copied : ℕ → Sight → Film → Sight
copied width sight film x y = if in_runs film.runs x y then color_of film.pixels (y * width + x) else sight x y

-- what it holds after these frames of an output so wide
abbrev pub seen : ℕ → Rgb → List Film → Sight
seen width background films = fold (copied width) (blank background) films

-- The images of frames, one after another.
use Rattle.std.specs.Prelude.{ℕ, Option, List}
use Rattle.std.specs.Option.{option_and_then}

-- the bytes that a writer of images holds, if there is one and they are known
abbrev pub images_in : {P : Type 0} → (P → Option (List ℕ)) → Option P → Option (List ℕ)
images_in contents writer = option_and_then contents writer

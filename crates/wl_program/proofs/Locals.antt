-- A command that is plain has no global options, and the first of each pair.
use Rattle.std.proofs.Common.{◌≡◌, Bool, true, false, not, refl, Option, Some, None, option_map}
use Rattle.std.specs.Prelude.{◌&&◌}

pub front : (x y : Bool) → (x && y) ≡ true → x ≡ true
front true y is = refl
front false y is = absurd cc

pub back : (x y : Bool) → (x && y) ≡ true → y ≡ true
back true y is = is
back false y is = absurd cc

pub isnt : (x : Bool) → not x ≡ true → x ≡ false
isnt true is = absurd cc
isnt false is = refl

pub map-first : {X Y Z : Type 0} (f : X → Y) (g : X → Z) (o : Option X) → option_map (λ (p : Y × Z). p.0) (option_map (λ x. (f x, g x)) o) ≡ option_map f o
map-first f g None = refl
map-first f g (Some x) = refl

-- What a writer holds after two writes.
use Rattle.std.proofs.Common.{◌≡◌, ℕ, List, ◌++◌, Option, Some, None, ap, sym, ◌∙◌, append_assoc}
use Rattle.std.specs.Io.KnownBytes.{Appends}

pub Appends-join : (a b c : Option (List ℕ)) (x y z : List ℕ) → Appends a b x → Appends b c y → z ≡ x ++ y → Appends a c z
Appends-join None b c x y z first second is = tt
Appends-join (Some xs) None c x y z first second is = absurd first
Appends-join (Some xs) (Some ys) None x y z first second is = absurd second
Appends-join (Some xs) (Some ys) (Some zs) x y z first second is =
    second ∙ ap (λ (t : List ℕ). t ++ y) first ∙ append_assoc xs x y ∙ ap (λ (t : List ℕ). xs ++ t) (sym is)

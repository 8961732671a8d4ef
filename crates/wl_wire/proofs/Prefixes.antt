-- What lies after a prefix of a prefix.
use Rattle.std.proofs.Common.{ℕ, List, ◌++◌, append_assoc}
use Rattle.wl_wire.specs.Wire.{IsPrefix}

pub prefix_of_prefix : (a b c : List ℕ) → IsPrefix a b → IsPrefix b c → IsPrefix a c
prefix_of_prefix a b c p q = (p.0 ++ q.0, rw (q.1, p.1, append_assoc))

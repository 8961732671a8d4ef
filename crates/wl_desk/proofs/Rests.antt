-- No more is left of what came from a client than there was.
use Rattle.std.proofs.Common.{ℕ, ◌≤◌, arith}
use Rattle.std.specs.Prelude.{length}
use Rattle.wl_clients.specs.View.{DeskView}
use Rattle.wl_clients.specs.Feeding.{rest_in}

within-itself : (n : ℕ) → n ≤ n
within-itself n = omega arith

within-on : (k m n : ℕ) → k ≤ m → m ≤ n → k ≤ n
within-on k m n below above = omega (arith, below, above)

-- of each client no more is left than there was
abbrev pub IsLeft : DeskView → DeskView → Type 0
IsLeft old new = (c : ℕ) → length (rest_in c new) ≤ length (rest_in c old)

pub left-all : (v : DeskView) → IsLeft v v
left-all v c = within-itself (length (rest_in c v))

pub left-on : (old mid new : DeskView) → IsLeft old mid → IsLeft mid new → IsLeft old new
left-on old mid new first then c = within-on (length (rest_in c new)) (length (rest_in c mid)) (length (rest_in c old)) (then c) (first c)

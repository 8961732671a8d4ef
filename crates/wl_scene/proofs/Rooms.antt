-- A list of windows that becomes another where there is memory, and stays without.
use Rattle.std.proofs.Common.{◌≡◌, ℕ, ◌≤◌, Bool, true, false, List, Result, Ok, Err, OnErr, OnOk, ap, arith, length}
use Rattle.wl_scene.specs.declared.stacked.Stacked.{Stacked}

-- with memory there are these then, and without it nothing changes
pub either-shorter : {R E : Type 0} (r : Result R E) (old more new : List Stacked) (most : ℕ) → length old ≤ most → length more ≤ most
    → OnOk r (new ≡ more) → OnErr r (new ≡ old) → length new ≤ most
either-shorter (Ok x) old more new most e f ok err = omega (arith, ap length ok, f)
either-shorter (Err x) old more new most e f ok err = omega (arith, ap length err, e)

pub never-both : (b : Bool) → false ≡ b → b ≡ true → ⊥
never-both true e f = absurd (cc)
never-both false e f = absurd (cc)

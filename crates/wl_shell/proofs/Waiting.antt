-- An acknowledgement by the last place of its serial.
use Rattle.std.proofs.Common.{◌≡◌, ◌≢◌, ℕ, zero, suc, ◌<◌, List, [], ◌∷◌, Bool, true, false, length, take, drop, refl, ap, arith}
use Rattle.std.specs.Prelude.{◌==◌, ◌||◌}
use Rattle.std.proofs.lemmas.Bool.Decides.{nat_tests}
use Rattle.wl_shell.specs.Shell.{Configure, is_waiting, later_than, up_to}
use Rattle.wl_shell.specs.Waits.{serial_at}

-- no place has it
pub waits-not : (serial : ℕ) (cs : List Configure) → ((k : ℕ) → k < length cs → serial_at cs k ≢ serial) → is_waiting serial cs ≡ false
waits-not serial [] none = refl
waits-not serial (c ∷ cs) none =
    let differ : c.serial ≢ serial = none 0 (omega arith) in
    let here : (c.serial == serial) ≡ false = grind (arith, nat_tests) in
    rw (here, waits-not serial cs (λ k less. none (suc k) (omega arith))) refl

-- this place has it, and no later one
pub waits : (serial : ℕ) (cs : List Configure) (place : ℕ) → place < length cs → serial_at cs place ≡ serial → ((k : ℕ) → place < k → k < length cs → serial_at cs k ≢ serial) → (is_waiting serial cs ≡ true)
    × (later_than serial cs ≡ drop (suc place) cs) × (up_to serial cs ≡ take (suc place) cs)
waits serial [] place less here after = absurd (omega arith)
waits serial (c ∷ cs) zero less here after =
    let same : c.serial ≡ serial = here in
    let this : (c.serial == serial) ≡ true = grind (arith, nat_tests) in
    let rest = waits-not serial cs (λ k less. after (suc k) (omega arith) (omega arith)) in
    (rw this refl, rw (rest, this) refl, rw (rest, this) refl)
waits serial (c ∷ cs) (suc place) less here after =
    let rest = waits serial cs place (omega arith) here (λ k above less. after (suc k) (omega arith) (omega arith)) in
    (either (c.serial == serial) (is_waiting serial cs) rest.0, rw rest.0 rest.1, rw rest.0 (ap (λ (later : List Configure). c ∷ later) rest.2))
  where
    either : (a b : Bool) → b ≡ true → (a || b) ≡ true
    either true b h = refl
    either false b h = h

-- What an acknowledgement leaves of the configures that wait.
use Rattle.std.proofs.Common.{◌≡◌, suc, ◌<◌, List, [], ◌∷◌, Bool, true, false, length, arith, refl}
use Rattle.std.specs.Prelude.{◌==◌, ◌||◌, if◌then◌else◌}
use Rattle.wl_shell.specs.Shell.{Configure, is_waiting, later_than}
use Rattle.wl_shell.specs.Laws.{AcknowledgementForgets}

fewer : (b c : Bool) (first : Configure) (later rest : List Configure) → (b || c) ≡ true → (c ≡ true → length later < length rest)
    → length (if c then later else (if b then rest else first ∷ later)) < suc (length rest)
fewer b true first later rest h k = let less = k refl in omega arith
fewer true false first later rest h k = omega arith
fewer false false first later rest h k = absurd (cc)

pub acknowledgement_forgets : AcknowledgementForgets
acknowledgement_forgets serial [] h = absurd (cc)
acknowledgement_forgets serial (c ∷ cs) h = fewer (c.serial == serial) (is_waiting serial cs) c (later_than serial cs) cs h (acknowledgement_forgets serial cs)

use Rattle.std.proofs.Common.{◌≡◌, refl}
use Rattle.std.specs.Prelude.{◌↔◌, Result, Ok, Err, IsErrOf}
use Rattle.wl_desk.proofs.Coming.{begins-empty}
use Rattle.wl_desk.proofs.desks.Desk.new.Goals as goal

pub returns-clause-desk : goal.returns-clause-desk
returns-clause-desk g c = begins-empty _ (record { width = c.args.config.width; height = c.args.config.height }) c.in_ok-clients.ensures.desk c.new-2.ensures

ok-err : {X E : Type 0} (r : Result X E) (x : X) (e : E) → r ≡ Ok x → r ≡ Err e → ⊥
ok-err r x e is bad = absurd (cc)

-- what gives something isn't bad
not-bad : {X Y E P : Type 0} (x : X) (y : Y) (e : E) (r : Result X E) (s : Result Y E) → r ≡ Ok x → s ≡ Ok y → IsErrOf r e ↔ P → IsErrOf s e ↔ P
not-bad x y e r s is same h = (λ bad. absurd (ok-err s y e same bad), λ p. absurd (ok-err r x e is (h.1 p)))

pub returns-clause-bad : goal.returns-clause-bad
returns-clause-bad g c = not-bad c.in_ok-clients.clients _ _ _ _ refl refl c.in_ok-clients.ensures.bad

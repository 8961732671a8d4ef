use Rattle.std.proofs.Common.{◌≡◌, ◌∙◌, None, ap, arith, refl}
use Rattle.std.proofs.lemmas.List.{replicate-append-replicate}
use Rattle.wl_paint.specs.Damage.{Damaged, has}
use Rattle.wl_clients.proofs.Calls.{Agrees-empty}
use Rattle.wl_clients.proofs.Steps.{empty-agrees}
use Rattle.wl_clients.proofs.clients.Clients.of_side.Goals as goal

pub returns-clause-desk : goal.returns-clause-desk
returns-clause-desk g c =
    let full : c.loop.counter ≡ 32 = omega arith in
    empty-agrees _ _ (Agrees-empty _ _ _ (rw full at c.loop.invariant) c.in_ok-screen.ensures.scene c.in_ok-screen.ensures.windows)

pub returns-clause-damage : goal.returns-clause-damage
returns-clause-damage g c = λ x y. ap (λ (d : Damaged). has d x y) c.in_ok-screen.ensures.damage ∙ c.in_ok-damage.ensures.empty x y

pub invariant_of-result : goal.invariant_of-result
invariant_of-result g c =
    let full : c.loop.counter ≡ 32 = omega arith in (
      rw (c.loop.invariant, full) refl,
      (
        ap (λ (d : Damaged). d.width) c.in_ok-screen.ensures.damage ∙ c.in_ok-damage.ensures.width,
        ap (λ (d : Damaged). d.height) c.in_ok-screen.ensures.damage ∙ c.in_ok-damage.ensures.height,
      ),
    )

pub loop-preserved : goal.loop-preserved
loop-preserved g c = rw (c.in_ok-push.ensures.items, c.loop.invariant) (replicate-append-replicate c.loop.counter 1 None)

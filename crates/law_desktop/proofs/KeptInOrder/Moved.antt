-- The toplevels of a client that stand are mapped, each once, as one is raised or moved.
use Rattle.std.proofs.Common.{◌≡◌, ℕ, ◌+◌, List, Option, Some, None, refl, sym, subst, ◌∙◌}
use Rattle.spec_desktop.specs.declared.cause.Cause.{Cause}
use Rattle.spec_desktop.specs.Stacking.{Standing, moved_to, raised}
use Rattle.spec_desktop.specs.Windows.{Place}
use Rattle.spec_desktop.specs.Desktop.{Desktop, Resident, client_at}
use Rattle.law_desktop.specs.Laws.{AreApart}
use Rattle.law_desktop.specs.Own.{StandTheSame}
use Rattle.law_desktop.proofs.Isolation.Own.{none-stand, of, stand-moved, stand-raised}
use Rattle.law_desktop.proofs.Soundness.Orderly.{IsOrderly, IsOrderlyBy}
use Rattle.law_desktop.proofs.Soundness.RunTops.{apart-moved, orderly-shifting}
use Rattle.law_desktop.specs.InOrder.{InOrder, InOrderAt, InOrderBy, OwnsInOrder}
use Rattle.law_desktop.specs.Standing.{AreMappedOnce}
use Rattle.law_desktop.proofs.InOrder.Whole.{bare-orderly, to-stands, to-whole}

-- ---- raised

apart-raised : (c k surface : ℕ) (r : Resident) (ss : List Standing) → r.peer.status ≡ None → OwnsInOrder r → AreMappedOnce r.owned.shell (of c ss) → AreApart (of c (raised k surface ss))
apart-raised c k surface r ss alive owns mapped =
    let bare = bare-orderly r (to-whole r owns) in
    let before : IsOrderly (r.peer.requests + 1) r (of c ss) = record { objects = bare.objects; forest = bare.forest; roles = bare.roles; standing = to-stands r.owned.shell (of c ss) mapped } in
    let after =
    (orderly-shifting c).raises (record { client = k; surface = surface }) (Some r) ss (subst (λ (s : Option Cause). IsOrderlyBy s r (of c ss)) (sym alive) before) in
    let now : IsOrderly (r.peer.requests + 1) r (of c (raised k surface ss)) = subst (λ (s : Option Cause). IsOrderlyBy s r (of c (raised k surface ss))) alive after in
    now.standing.apart

-- ---- all clients

-- where the same toplevels of each client stand, none of them twice
stand-in-order : (d : Desktop) (standing : List Standing) → ((c : ℕ) → StandTheSame (of c d.standing) (of c standing))
    → ((c : ℕ) (r : Resident) → r.peer.status ≡ None → OwnsInOrder r → AreMappedOnce r.owned.shell (of c d.standing) → AreApart (of c standing)) → InOrder d
    → InOrder (record d { standing = standing })
stand-in-order d standing same apart order = record { pointer = order.pointer; each = λ c. at c (client_at c d) (order.each c) }
  where
    by : (c : ℕ) (s : Option Cause) (r : Resident) → r.peer.status ≡ s → InOrderBy s r (of c d.standing) → InOrderBy s r (of c standing)
    by c None r alive lives = (lives.0, record { apart = apart c r alive lives.0 lives.1; mapped = λ surface there. lives.1.mapped surface (sym (same c surface) ∙ there) })
    by c (Some cause) r ended over = (over.0, none-stand (of c d.standing) (of c standing) (same c) over.1)

    at : (c : ℕ) (o : Option Resident) → InOrderAt o (of c d.standing) → InOrderAt o (of c standing)
    at c None none = none-stand (of c d.standing) (of c standing) (same c) none
    at c (Some r) is = by c r.peer.status r refl is

pub raised-in-order : (c surface : ℕ) (d : Desktop) → InOrder d → InOrder (record d { standing = raised c surface d.standing })
raised-in-order c surface d order =
    stand-in-order d (raised c surface d.standing) (λ k. stand-raised k c surface d.standing)
    (λ k r alive owns mapped. apart-raised k c surface r d.standing alive owns mapped) order

pub moved-in-order : (c surface : ℕ) (place : Place) (d : Desktop) → InOrder d → InOrder (record d { standing = moved_to c surface place d.standing })
moved-in-order c surface place d order =
    stand-in-order d (moved_to c surface place d.standing) (λ k. stand-moved k c surface place d.standing)
    (λ k r alive owns mapped. apart-moved k c surface place d.standing mapped.apart) order

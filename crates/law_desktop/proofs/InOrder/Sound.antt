-- A desktop in order is sound.
use Rattle.std.proofs.Common.{◌≡◌, ℕ, zero, suc, ◌+◌, List, [], ◌∷◌, Option, Some, None, map, refl, ap, sym, subst, ◌∙◌}
use Rattle.std.specs.Prelude.{true, false}
use Rattle.std.specs.List.{list_any}
use Rattle.spec_desktop.specs.declared.cause.Cause.{Cause}
use Rattle.spec_desktop.specs.Stacking.{Owned, Standing}
use Rattle.spec_desktop.specs.Desktop.{Desktop, Resident, client_at, owned_in, owned_of, place, toplevels_of}
use Rattle.spec_desktop.specs.Popups.{stacked_popups}
use Rattle.law_desktop.specs.Soundness.{AreOnce, AreTrees, IsNoChild, IsSound, has_surface}
use Rattle.law_desktop.proofs.Soundness.Linked.{forest-trees}
use Rattle.law_desktop.proofs.Soundness.Orderly.{AreOrderly, IsOrderly, IsOrderlyAt, IsOrderlyBy}
use Rattle.law_desktop.proofs.Soundness.Sound.{orderly-sound}
use Rattle.law_desktop.specs.InOrder.{InOrder, InOrderAt, InOrderBy}
use Rattle.law_desktop.specs.InOrderLaws.{InOrderIsSound}
use Rattle.law_desktop.proofs.InOrder.Whole.{IsWhole, to-stands, to-whole}

-- ---- the clients that live

-- one that ended is as one that isn't there
abbrev alive_by : Option Cause → Resident → Option Resident
alive_by None r = Some r
alive_by (Some cause) r = None

abbrev alive : Option Resident → Option Resident
alive None = None
alive (Some r) = alive_by r.peer.status r

abbrev living : Desktop → Desktop
living d = record d { clients = map alive d.clients }

alive-placed : (rs : List (Option Resident)) (k : ℕ) → place (map alive rs) k ≡ alive (place rs k)
alive-placed [] k = refl
alive-placed (r ∷ rs) zero = refl
alive-placed (r ∷ rs) (suc k) = alive-placed rs k

alive-at : (c : ℕ) (d : Desktop) → client_at c (living d) ≡ alive (client_at c d)
alive-at zero d = refl
alive-at (suc k) d = alive-placed d.clients k

-- it owns the same
same-by : (s : Option Cause) (r : Resident) (tops : List Standing) → InOrderBy s r tops → owned_of (alive_by s r) ≡ r.owned
same-by None r tops lives = refl
same-by (Some cause) r tops over = sym (ap (λ (q : Resident). q.owned) over.0)

same-at : (o : Option Resident) (tops : List Standing) → InOrderAt o tops → owned_of (alive o) ≡ owned_of o
same-at None tops none = refl
same-at (Some r) tops owns = same-by r.peer.status r tops owns

-- ---- they are orderly

orderly-by : (s : Option Cause) (r : Resident) (tops : List Standing) → r.peer.status ≡ s → InOrderBy s r tops → IsOrderlyAt (alive_by s r) tops
orderly-by None r tops is lives =
    let w : IsWhole r = to-whole r lives.0 in
    let orderly : IsOrderly (r.peer.requests + 1) r tops =
    record { objects = w.objects; forest = w.forest; roles = w.hanging; standing = to-stands r.owned.shell tops lives.1 } in
    subst (λ s. IsOrderlyBy s r tops) (sym is) orderly
orderly-by (Some cause) r tops is over = over.1

orderly-at : (o : Option Resident) (tops : List Standing) → InOrderAt o tops → IsOrderlyAt (alive o) tops
orderly-at None tops none = none
orderly-at (Some r) tops owns = orderly-by r.peer.status r tops refl owns

are-orderly : (d : Desktop) → InOrder d → AreOrderly (living d)
are-orderly d order c = subst (λ o. IsOrderlyAt o (toplevels_of c d)) (sym (alive-at c d)) (orderly-at (client_at c d) (toplevels_of c d) (order.each c))

pub in_order_is_sound : InOrderIsSound
in_order_is_sound d order = record {
  apart = sound.apart;
  trees = λ c. subst (λ (o : Owned). AreTrees o.surfaces) (same c) (sound.trees c);
  popups = λ c. subst (λ (o : Owned). AreOnce (λ p. has_surface p.surface) (stacked_popups o)) (same c) (sound.popups c);
  levels = λ c surface there. subst (λ (o : Owned). list_any (has_surface surface) (stacked_popups o) ≡ false) (same c) (sound.levels c surface there);
  toplevel_roots = λ c surface there. subst (λ (o : Owned). IsNoChild surface o.surfaces) (same c) (sound.toplevel_roots c surface there);
  popup_roots =
      λ c surface. subst (λ (o : Owned). list_any (has_surface surface) (stacked_popups o) ≡ true → IsNoChild surface o.surfaces) (same c) (sound.popup_roots c surface);
}
  where
    sound : IsSound (living d)
    sound = orderly-sound forest-trees (living d) (are-orderly d order)

    same : (c : ℕ) → owned_in (living d) c ≡ owned_in d c
    same c = ap owned_of (alive-at c d) ∙ same-at (client_at c d) (toplevels_of c d) (order.each c)

-- The clients as if each event for them had been queued.
use Rattle.std.proofs.Common.{◌≡◌, ℕ, suc, zero, List, [], ◌∷◌, map, set, Option, Some, None, refl, ap, sym, ◌∙◌}
use Rattle.std.specs.Option.{option_map}
use Rattle.wl_client.specs.View.{ClientView, opened}
use Rattle.wl_client.specs.declared.outputs.Output.{Output}
use Rattle.spec_desktop.specs.declared.cause.Cause.{Cause}
use Rattle.wl_requests.specs.declared.residents.Resident.{Resident as Kept}
use Rattle.wl_clients.specs.Agreement.{numbers_in, numbers_of}
use Rattle.wl_clients.specs.Seats.{opened_kept}
use Rattle.wl_clients.specs.View.{OwnedView, Pile, owned_view}
use Rattle.std.proofs.Math.Path.{fun_ext}
use Rattle.wl_clients.specs.Midway.{opened_desk}
use Rattle.wl_clients.specs.Residents.{client_views, owned_views}
use Rattle.wl_clients.proofs.Desktops.{at, at-map, map-length}
use Rattle.wl_clients.proofs.Seats.{IsHere, view_of}

-- who was refused nothing is the same
pub opened-same : (v : ClientView) → v.refused ≡ None → opened v ≡ v
opened-same v e = ap (λ (o : Option Cause). record v { refused = o }) (sym e)

module _ {A : Type 0} where
  abbrev pub open_all : List (Option (Kept A)) → List (Option (Kept A))
  open_all rs = map (option_map (λ (r : Kept A). opened_kept r)) rs

  one-client : (o : Option (Kept A)) → option_map (λ (r : Kept A). r.client) (option_map (λ (r : Kept A). opened_kept r) o) ≡ option_map opened (option_map (λ (r : Kept A). r.client) o)
  one-client None = refl
  one-client (Some r) = refl

  one-owned : (o : Option (Kept A)) → option_map (λ (r : Kept A). owned_view r) (option_map (λ (r : Kept A). opened_kept r) o) ≡ option_map (λ (r : Kept A). owned_view r) o
  one-owned None = refl
  one-owned (Some r) = refl

  clients-open : (rs : List (Option (Kept A))) → client_views (open_all rs) ≡ map (option_map opened) (client_views rs)
  clients-open [] = refl
  clients-open (r ∷ rs) = ap (λ x. x ∷ client_views (open_all rs)) (one-client r) ∙ ap (λ xs. option_map opened (option_map (λ (r : Kept A). r.client) r) ∷ xs) (clients-open rs)

  owned-open : (rs : List (Option (Kept A))) → owned_views (open_all rs) ≡ owned_views rs
  owned-open [] = refl
  owned-open (r ∷ rs) = ap (λ x. x ∷ owned_views (open_all rs)) (one-owned r) ∙ ap (λ xs. option_map (λ (r : Kept A). owned_view r) r ∷ xs) (owned-open rs)

  -- the desk as if each event had been queued keeps the clients so
  pub desk-open : (output : Output) (rs : List (Option (Kept A))) (pile : Pile) → view_of output (open_all rs) pile ≡ opened_desk (view_of output rs pile)
  desk-open output rs pile =
      ap (λ (xs : List (Option ClientView)). record { output = output; clients = xs; owned = owned_views (open_all rs); pile = pile }) (clients-open rs)
      ∙ ap (λ (xs : List (Option OwnedView)). record { output = output; clients = map (option_map opened) (client_views rs); owned = xs; pile = pile }) (owned-open rs)

  pub open-set : (rs : List (Option (Kept A))) (k : ℕ) (x : Option (Kept A)) → open_all (set rs k x) ≡ set (open_all rs) k (option_map (λ (r : Kept A). opened_kept r) x)
  open-set [] k x = refl
  open-set (r ∷ rs) zero x = refl
  open-set (r ∷ rs) (suc k) x = ap (λ xs. option_map (λ (r : Kept A). opened_kept r) r ∷ xs) (open-set rs k x)

  pub here-open : (rs : List (Option (Kept A))) (c k : ℕ) (v : Kept A) → IsHere rs c k v → IsHere (open_all rs) c k (opened_kept v)
  here-open rs c k v is = record {
    number = is.number;
    within = rw (map-length (option_map (λ (r : Kept A). opened_kept r)) rs) is.within;
    here = at-map (λ (r : Kept A). opened_kept r) rs k ∙ ap (λ (o : Option (Kept A)). option_map (λ (r : Kept A). opened_kept r) o) is.here;
  }

-- the numbers of the surfaces are the same
one-numbers : (o : Option ClientView) → numbers_of (option_map opened o) ≡ numbers_of o
one-numbers None = refl
one-numbers (Some v) = refl

pub numbers-open : (vs : List (Option ClientView)) → numbers_in (map (option_map opened) vs) ≡ numbers_in vs
numbers-open vs = fun_ext by
  where
    by : (c : ℕ) → numbers_in (map (option_map opened) vs) c ≡ numbers_in vs c
    by zero = refl
    by (suc k) = ap numbers_of (at-map opened vs k) ∙ one-numbers (at vs k)

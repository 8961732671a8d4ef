-- A toplevel comes to the top, or goes along with the pointer, in the middle of a step.
use Rattle.std.proofs.Common.{◌≡◌, ℕ, zero, suc, List, Option, Some, None, set, refl, ap, subst, sym, ◌∙◌}
use Rattle.std.specs.Option.{option_map}
use Rattle.std.specs.Prelude.{ℤ}
use Rattle.std.proofs.lemmas.List.{set-get_or}
use Rattle.wl_proto.specs.declared.interface.Interface.TheVariants.{WlSurface}
use Rattle.wl_client.specs.View.{ClientView}
use Rattle.wl_client.specs.declared.outputs.Output.{Output}
use Rattle.law_desktop.specs.Owning.{targets_in}
use Rattle.wl_paint.specs.Damage.{Damaged}
use Rattle.spec_desktop.specs.Objects.{ById}
use Rattle.spec_desktop.specs.Told.{Output as Shown}
use Rattle.spec_desktop.specs.declared.cause.Cause.{Cause}
use Rattle.spec_desktop.specs.Stacking.{Standing, raised}
use Rattle.spec_desktop.specs.Desktop.{Desktop, Resident, client_at, toplevels_of}
use Rattle.spec_desktop.specs.Pointing.{moved_standing}
use Rattle.spec_desktop.specs.Settling.{Midstep, with_standing}
use Rattle.law_desktop.specs.Laws.{AreApart}
use Rattle.law_desktop.specs.Own.{StandTheSame}
use Rattle.law_desktop.proofs.Isolation.Own.{none-stand, of, stand-moved, stand-raised}
use Rattle.law_desktop.proofs.Lists.Standings.{apart-left}
use Rattle.law_desktop.specs.InOrder.{InOrderAt, InOrderBy}
use Rattle.law_desktop.specs.Ordered.{Ordered}
use Rattle.wl_requests.specs.declared.residents.Resident.{Resident as Kept}
use Rattle.wl_clients.specs.Agreement.{numbers_in, numbers_of}
use Rattle.wl_clients.specs.Moving.{with_moved}
use Rattle.wl_clients.specs.Raising.{with_raised}
use Rattle.wl_clients.specs.Seats.{IsSeated, opened_kept}
use Rattle.wl_clients.specs.View.{MarkedDesk, Pile}
use Rattle.wl_clients.specs.Midway.{IsMid, RefusedLives, strikes_from}
use Rattle.wl_clients.specs.Residents.{client_views, resident_at}
use Rattle.wl_clients.proofs.Desktops.{at, at-map}
use Rattle.wl_clients.proofs.Midway.{mid-put, put-same, seat}
use Rattle.wl_clients.proofs.Opened.{open_all}
use Rattle.wl_clients.proofs.Seats.{IsHere, client-here, here-of, marked, view_of}

-- ---- the clients are in order

-- where the same toplevels of a client stand, and none of them twice
restood : (o : Option Resident) (before after : List Standing) → StandTheSame before after → AreApart after → InOrderAt o before → InOrderAt o after
restood None before after same apart none = none-stand before after same none
restood (Some r) before after same apart known = by r.peer.status known
  where
    by : (s : Option Cause) → InOrderBy s r before → InOrderBy s r after
    by None known = (known.0, record { apart = apart; mapped = λ surface there. known.1.mapped surface (sym (same surface) ∙ there) })
    by (Some cause) known = (known.0, none-stand before after same known.1)

restacked-ordered : (d : Desktop) (standing : List Standing) → ((k : ℕ) → StandTheSame (of k d.standing) (of k standing)) → AreApart standing → Ordered d
    → Ordered (record d { standing = standing })
restacked-ordered d standing same apart ordered = record {
  in_order = record {
    pointer = ordered.in_order.pointer;
    each = λ k. restood (client_at k d) (toplevels_of k d) (of k standing) (same k) (apart-left _ standing apart) (ordered.in_order.each k);
  };
  each = ordered.each;
}

raised-ordered : (c surface : ℕ) (d : Desktop) → AreApart (raised c surface d.standing) → Ordered d → Ordered (with_raised c surface d)
raised-ordered c surface d apart ordered = restacked-ordered d (raised c surface d.standing) (λ k. stand-raised k c surface d.standing) apart ordered

moved-ordered : (c surface : ℕ) (x y : ℤ) (d : Desktop) → AreApart (moved_standing (record { client = c; surface = surface }) x y d.standing) → Ordered d
    → Ordered (with_moved c surface x y d)
moved-ordered c surface x y d apart ordered =
    restacked-ordered d (moved_standing (record { client = c; surface = surface }) x y d.standing) (λ k. stand-moved k c surface _ d.standing) apart ordered

-- ---- whose surface it is

-- nobody has surfaces who isn't there
pub nobody-named : {A : Type 0} (output : Output) (rs : List (Option (Kept A))) (pile : Pile) (damage : Damaged) (ws : List (Option (Kept A))) (w : MarkedDesk) (c top n : ℕ) → ws ≡ rs
    → resident_at ws c ≡ None → marked (view_of output rs pile) damage ≡ w → numbers_in w.desk.clients c top ≡ Some n → ⊥
nobody-named {A} output rs pile damage ws w c top n same none view named =
    by c (rw (← same) none) (subst (λ (x : MarkedDesk). numbers_in x.desk.clients c top ≡ Some n) (sym view) named)
  where
    by : (c : ℕ) → resident_at rs c ≡ None → numbers_in (client_views rs) c top ≡ Some n → ⊥
    by zero none named = absurd (cc)
    by (suc k) none named =
        let nothing : at (client_views rs) k ≡ None =
        at-map (λ (r : Kept A). r.client) rs k ∙ ap (λ (o : Option (Kept A)). option_map (λ (r : Kept A). r.client) o) none in
        let clash : None ≡ Some n = sym (ap (λ (o : Option ClientView). numbers_of o top) nothing) ∙ named in
        absurd (cc)

-- who has the surface is there
pub named-here : {A : Type 0} (rs : List (Option (Kept A))) (c top n : ℕ) → numbers_in (client_views rs) c top ≡ Some n → (k : ℕ) × (v : Kept A) × IsHere rs c k v
named-here rs zero top n named = absurd (cc)
named-here {A} rs (suc k) top n named = by (at rs k) refl
  where
    by : (o : Option (Kept A)) → at rs k ≡ o → (j : ℕ) × (v : Kept A) × IsHere rs (suc k) j v
    by (Some v) here = let h = here-of rs (suc k) v (sym here) in (h.0, v, h.1)
    by None none =
        let nothing : at (client_views rs) k ≡ None =
        at-map (λ (r : Kept A). r.client) rs k ∙ ap (λ (o : Option (Kept A)). option_map (λ (r : Kept A). r.client) o) none in
        let clash : None ≡ Some n = sym (ap (λ (o : Option ClientView). numbers_of o top) nothing) ∙ named in
        absurd (cc)

-- what is to be painted is of an output of the desktop's sides
pub mid-sized : {A : Type 0} (output : Output) (rs : List (Option (Kept A))) (pile : Pile) (m : Midstep) → IsMid (view_of output rs pile) m → (damage : Damaged)
    → (damage.width ≡ output.width) × (damage.height ≡ output.height) → (damage.width ≡ m.desktop.output.width) × (damage.height ≡ m.desktop.output.height)
mid-sized output rs pile m mid damage sides = (
  sides.0 ∙ ap (λ (o : Shown). o.width) mid.agrees.matches.output,
  sides.1 ∙ ap (λ (o : Shown). o.height) mid.agrees.matches.output,
)

-- ---- what stands changes, and nothing else

module _ {A : Type 0} (output : Output) (rs : List (Option (Kept A))) (pile : Pile) (c k : ℕ) (v : Kept A) (is : IsHere rs c k v) (m : Midstep)
    (mid : IsMid (view_of output rs pile) m) where
  abbrev numbers : ℕ → ById ℕ
  numbers = numbers_in (client_views (open_all rs))

  -- the client's surface by its id
  own-named : (top n : ℕ) → numbers_in (client_views rs) c top ≡ Some n → targets_in WlSurface v.client.objects top ≡ Some n
  own-named top n named =
      sym (ap (λ (o : Option ClientView). numbers_of o top) (client-here rs k v is.here)) ∙ (ap (λ (i : ℕ). numbers_in (client_views rs) i top) (sym is.number) ∙ named)

  mid-restacked : (now : Pile) (standing : List Standing) (r : Resident) → IsSeated c numbers m.desktop (opened_kept v) now (record m.desktop { standing = standing }) r
      → Ordered (record m.desktop { standing = standing }) → IsMid (view_of output rs now) (with_standing standing m)
  mid-restacked now standing r seated ordered =
      subst (λ (xs : List (Option (Kept A))). IsMid (view_of output xs now) (with_standing standing m)) (put-same output rs pile c k v is m mid)
      (mid-put output rs pile c k v is m mid v now (record m.desktop { standing = standing }) r m.struck seated ordered
      (ap (λ (vs : List (Option ClientView)). strikes_from 1 vs) same ∙ mid.struck)
      (subst RefusedLives (client-here rs k v is.here) (mid.alive k)))
    where
      same : set (client_views rs) k (Some v.client) ≡ client_views rs
      same = ap (λ (o : Option ClientView). set (client_views rs) k o) (sym (client-here rs k v is.here)) ∙ set-get_or (client_views rs) k None

  -- what is known of the client, as if each event for it had been queued
  pub of-here : (P : Type 0) (top n : ℕ) → numbers_in (client_views rs) c top ≡ Some n
      → ((r : Resident) → IsSeated c numbers m.desktop (opened_kept v) pile m.desktop r → Ordered m.desktop → targets_in WlSurface v.client.objects top ≡ Some n → P) → P
  of-here P top n named f =
      let s = seat output rs pile c k v is m mid in
      f s.0 s.2 mid.agrees.ordered (own-named top n named)

  -- a toplevel of it is raised
  here-raised : (now : Pile) (top n : ℕ) → numbers_in (client_views rs) c top ≡ Some n
      → ((r : Resident) → IsSeated c numbers m.desktop (opened_kept v) pile m.desktop r → Ordered m.desktop → targets_in WlSurface v.client.objects top ≡ Some n
      → IsSeated c numbers m.desktop (opened_kept v) now (with_raised c top m.desktop) r)
      → IsMid (view_of output rs now) (with_standing (raised c top m.desktop.standing) m)
  here-raised now top n named raises =
      let s = seat output rs pile c k v is m mid in
      let new = raises s.0 s.2 mid.agrees.ordered (own-named top n named) in
      mid-restacked now (raised c top m.desktop.standing) s.0 new (raised-ordered c top m.desktop new.mapped.apart mid.agrees.ordered)

  -- it moves
  pub here-moved : (now : Pile) (top n : ℕ) (x y : ℤ) → numbers_in (client_views rs) c top ≡ Some n
      → ((r : Resident) → IsSeated c numbers m.desktop (opened_kept v) pile m.desktop r → Ordered m.desktop → targets_in WlSurface v.client.objects top ≡ Some n
      → IsSeated c numbers m.desktop (opened_kept v) now (with_moved c top x y m.desktop) r)
      → IsMid (view_of output rs now) (with_standing (moved_standing (record { client = c; surface = top }) x y m.desktop.standing) m)
  here-moved now top n x y named moves =
      let s = seat output rs pile c k v is m mid in
      let new = moves s.0 s.2 mid.agrees.ordered (own-named top n named) in
      mid-restacked now (moved_standing (record { client = c; surface = top }) x y m.desktop.standing) s.0 new (moved-ordered c top x y m.desktop new.mapped.apart mid.agrees.ordered)

-- ---- by the surface's number

module _ {A : Type 0} (output : Output) (rs : List (Option (Kept A))) (pile : Pile) (c top n : ℕ) (m : Midstep) (mid : IsMid (view_of output rs pile) m)
    (named : numbers_in (client_views rs) c top ≡ Some n) where
  abbrev all_numbers : ℕ → ById ℕ
  all_numbers = numbers_in (client_views (open_all rs))

  -- what holds of whichever client has the surface
  pub of-named : (P : Type 0)
      → ((v : Kept A) (r : Resident) → IsSeated c all_numbers m.desktop v pile m.desktop r → Ordered m.desktop → targets_in WlSurface v.client.objects top ≡ Some n → P) → P
  of-named P f =
      let h = named-here rs c top n named in
      of-here output rs pile c h.0 h.1 h.2 m mid P top n named (λ r seated ordered its. f (opened_kept h.1) r seated ordered its)

  pub mid-raised : (now : Pile)
      → ((v : Kept A) (r : Resident) → IsSeated c all_numbers m.desktop v pile m.desktop r → Ordered m.desktop → targets_in WlSurface v.client.objects top ≡ Some n
      → IsSeated c all_numbers m.desktop v now (with_raised c top m.desktop) r)
      → IsMid (view_of output rs now) (with_standing (raised c top m.desktop.standing) m)
  mid-raised now raises =
      let h = named-here rs c top n named in
      here-raised output rs pile c h.0 h.1 h.2 m mid now top n named (λ r seated ordered its. raises (opened_kept h.1) r seated ordered its)

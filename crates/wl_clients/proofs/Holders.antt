-- Which client holds a grab, by what is kept of the clients.
use Rattle.std.proofs.Common.{◌≡◌, ℕ, ◌+◌, suc, zero, ◌<◌, ◌≤◌, List, [], ◌∷◌, Bool, true, false, Option, Some, None, length, get_or, refl, ap, subst, sym, ◌∙◌, arith}
use Rattle.std.specs.List.{list_any}
use Rattle.std.specs.Option.{option_map}
use Rattle.std.specs.Prelude.{◌==◌, if◌then◌else◌}
use Rattle.std.proofs.lemmas.Bool.{eqb-false, eqb-true, true≢false}
use Rattle.wl_surface.specs.Surfaces.{history_in}
use Rattle.wl_shell.specs.Found.{AreFound}
use Rattle.wl_shell.specs.PopupsKept.{is_grabbing}
use Rattle.wl_shell.proofs.Reading.{shells_find}
use Rattle.wl_shell.specs.Kept.{kept_of}
use Rattle.wl_shell.specs.Popups.{Popped, popups_of}
use Rattle.spec_desktop.specs.Stacking.{Owned}
use Rattle.law_desktop.proofs.PopupsByNames.Popped.{popups-named}
use Rattle.law_desktop.specs.Owning.{IsOwned, Names, number_in}
use Rattle.law_desktop.specs.RoleNames.{names_of}
use Rattle.law_desktop.specs.Twins.{by_numbers}
use Rattle.law_desktop.proofs.OwnedPopups.Renamed.{any-renamed}
use Rattle.law_desktop.proofs.Twins.{kept-by-numbers}
use Rattle.wl_client.specs.View.{ClientView}
use Rattle.wl_client.specs.declared.outputs.Output.{Output}
use Rattle.spec_desktop.specs.Changing.{grab_holder, holder_from, holds_grab}
use Rattle.spec_desktop.specs.Desktop.{Resident, client_at, place}
use Rattle.spec_desktop.specs.Settling.{Midstep}
use Rattle.wl_requests.specs.declared.residents.Resident.{Resident as Kept}
use Rattle.wl_clients.specs.Agreement.{IsPlace}
use Rattle.wl_clients.specs.Seats.{opened_kept}
use Rattle.wl_clients.specs.View.{DeskView, OwnedView, Pile, owned_view}
use Rattle.wl_clients.specs.Agreeing.{Agrees}
use Rattle.wl_clients.specs.Holders.{IsFirstHolder, NoneHolds, SaysGrab}
use Rattle.wl_clients.specs.Midway.{IsMid}
use Rattle.wl_clients.proofs.Desktops.{at, at-map, at-within, map-length, place-at}
use Rattle.wl_clients.proofs.Opened.{desk-open, open_all}
use Rattle.wl_clients.proofs.Seats.{view_of}

-- ---- one client

module _ {A : Type 0} where
  -- what the shell finds of popups with a grab is what there is by ids
  grab-found : (k : Kept A) (names : Names) (o : Owned) → AreFound k.owned.shell
      → IsOwned names k.owned.surfaces.states k.owned.surfaces.family (kept_of k.owned.shell) o
      → list_any (λ e. is_grabbing e.1) k.owned.shell ≡ list_any (λ p. p.popup.has_grab) (popups_of o.shell)
  grab-found k names o found is =
      let f = number_in names.surfaces in
      shells_find.grabs k.owned.shell (λ number. history_in number (by_numbers names o).surfaces) (by_numbers names o).shell found
      (kept-by-numbers names k.owned.surfaces.states k.owned.surfaces.family (kept_of k.owned.shell) o is).shell
      ∙ ap (list_any (λ (p : Popped). p.popup.has_grab)) (popups-named f o.shell)
      ∙ any-renamed f (λ p. p.popup.has_grab) (λ p. refl) (popups_of o.shell)

  pub nobody-says : (slot : Option (Kept A)) → slot ≡ None → SaysGrab false slot
  nobody-says slot none = subst (SaysGrab false) (sym none) refl

  pub somebody-says : (slot : Option (Kept A)) (k : Kept A) (says : Bool) → slot ≡ Some k → AreFound k.owned.shell → says ≡ list_any (λ e. is_grabbing e.1) k.owned.shell → SaysGrab says slot
  somebody-says slot k says is found look =
      subst (SaysGrab says) (sym is)
      (λ names o owned. look ∙ grab-found k names o found owned)

  -- ---- the first place

  looked : (slots : List (Option (Kept A))) (k : ℕ) (u : Option (Kept A)) (says : Bool) → k < length slots → u ≡ get_or slots k u → SaysGrab says u → SaysGrab says (at slots k)
  looked slots k u says less look here = subst (SaysGrab says) (look ∙ at-within slots k u less) here

  pub holds-first : (slots : List (Option (Kept A))) (k : ℕ) (u : Option (Kept A)) (says : Bool) → k < length slots → NoneHolds k slots → u ≡ get_or slots k u → SaysGrab says u → says ≡ true
      → IsFirstHolder k slots
  holds-first slots k u says less none look here holds =
      record { holds = looked slots k u true less look (subst (λ (b : Bool). SaysGrab b u) holds here); before = none }

  pub holds-not : (slots : List (Option (Kept A))) (k : ℕ) (u : Option (Kept A)) (says : Bool) → k < length slots → NoneHolds k slots → u ≡ get_or slots k u → SaysGrab says u → says ≡ false
      → NoneHolds (k + 1) slots
  holds-not slots k u says less none look here holds j within = by (j == k) refl
    where
      by : (b : Bool) → (j == k) ≡ b → SaysGrab false (at slots j)
      by true e =
          subst (λ (i : ℕ). SaysGrab false (at slots i)) (sym (eqb-true j k e)) (looked slots k u false less look (subst (λ (b : Bool). SaysGrab b u) holds here))
      by false e = let apart = eqb-false j k e in none j (omega (arith, within, apart))

  pub none-holds : (slots : List (Option (Kept A))) (k : ℕ) → NoneHolds k slots → length slots ≤ k → NoneHolds (length slots) slots
  none-holds slots k none past j within = none j (omega (arith, within, past))

-- ---- the desktop

holder-none : (c : ℕ) (rs : List (Option Resident)) → ((k : ℕ) → k < length rs → holds_grab (place rs k) ≡ false) → holder_from c rs ≡ None
holder-none c [] none = refl
holder-none c (r ∷ rs) none =
    ap (λ (b : Bool). if b then Some c else holder_from (suc c) rs) (none zero (omega arith)) ∙ holder-none (suc c) rs (λ k less. none (suc k) (omega (arith, less)))

holder-first : (c k : ℕ) (rs : List (Option Resident)) → ((j : ℕ) → j < k → holds_grab (place rs j) ≡ false) → holds_grab (place rs k) ≡ true → holder_from c rs ≡ Some (c + k)
holder-first c k [] before holds = absurd (true≢false (sym holds))
holder-first c zero (r ∷ rs) before holds =
    ap (λ (b : Bool). if b then Some c else holder_from (suc c) rs) holds ∙ ap Some (let e : c ≡ c + zero = omega arith in e)
holder-first c (suc k) (r ∷ rs) before holds =
    ap (λ (b : Bool). if b then Some c else holder_from (suc c) rs) (before zero (omega arith))
    ∙ holder-first (suc c) k rs (λ j less. before (suc j) (omega (arith, less))) holds ∙ ap Some (let e : suc c + k ≡ c + suc k = omega arith in e)

-- ---- the client that holds one

module _ {A : Type 0} where
  -- what is kept at a place of a client, as if each event had been queued
  abbrev kept_client : Option (Kept A) → Option ClientView
  kept_client o = option_map (λ (r : Kept A). r.client) o

  abbrev kept_owned : Option (Kept A) → Option OwnedView
  kept_owned o = option_map (λ (r : Kept A). owned_view r) o

  abbrev opened_slot : Option (Kept A) → Option (Kept A)
  opened_slot o = option_map (λ (r : Kept A). opened_kept r) o

  says-so : (says : Bool) (o : Option (Kept A)) (r : Option Resident) → SaysGrab says o → IsPlace (kept_client (opened_slot o)) (kept_owned (opened_slot o)) r → holds_grab r ≡ says
  says-so says None None said here = sym said
  says-so says None (Some r) said here = absurd here
  says-so says (Some k) None said here = absurd here
  says-so says (Some k) (Some r) said here = sym (said (names_of k.client.objects) r.owned here.owns)

  module _ (output : Output) (slots : List (Option (Kept A))) (pile : Pile) (m : Midstep) (mid : IsMid (view_of output slots pile) m) where
    agreed : Agrees (view_of output (open_all slots) pile) m.desktop
    agreed = subst (λ (w : DeskView). Agrees w m.desktop) (sym (desk-open output slots pile)) mid.agrees

    says-at : (says : Bool) (k : ℕ) → SaysGrab says (at slots k) → holds_grab (client_at (suc k) m.desktop) ≡ says
    says-at says k said =
        let w = view_of output (open_all slots) pile in
        let r = client_at (suc k) m.desktop in
        says-so says (at slots k) r said
        (subst (λ (o : Option (Kept A)). IsPlace (kept_client o) (kept_owned o) r) (at-map (λ (r : Kept A). opened_kept r) slots k)
        (subst (λ (o : Option OwnedView). IsPlace (kept_client (at (open_all slots) k)) o r) (at-map (λ (r : Kept A). owned_view r) (open_all slots) k)
        (subst (λ (o : Option ClientView). IsPlace o (at w.owned k) r) (at-map (λ (r : Kept A). r.client) (open_all slots) k) (place-at w m.desktop k agreed.matches))))

    as-many : length slots ≡ length m.desktop.clients
    as-many =
        sym (map-length (option_map (λ (r : Kept A). r.client)) (open_all slots) ∙ map-length (option_map (λ (r : Kept A). opened_kept r)) slots) ∙ agreed.matches.count

    -- by a look at the places
    pub mid-none-holds : (ws : List (Option (Kept A))) → ws ≡ slots → NoneHolds (length ws) ws → None ≡ grab_holder m.desktop
    mid-none-holds ws same said =
        let none : NoneHolds (length slots) slots = subst (λ (xs : List (Option (Kept A))). NoneHolds (length xs) xs) same said in
        sym (holder-none 1 m.desktop.clients (λ k less. says-at false k (none k (let e = as-many in omega (arith, less, e)))))

    pub mid-holds : (ws : List (Option (Kept A))) → ws ≡ slots → (k : ℕ) → IsFirstHolder k ws → Some (k + 1) ≡ grab_holder m.desktop
    mid-holds ws same k said =
        let first = subst (λ (xs : List (Option (Kept A))). IsFirstHolder k xs) same said in
        ap Some (let e : k + 1 ≡ 1 + k = omega arith in e)
        ∙ sym (holder-first 1 k m.desktop.clients (λ j less. says-at false j (first.before j less)) (says-at true k first.holds))

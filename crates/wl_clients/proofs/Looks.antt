-- What is asked of the windows, of the toplevels and of who is to end, in the middle of a step.
use Rattle.std.proofs.Common.{◌≡◌, ℕ, ◌+◌, suc, zero, ◌<◌, ◌≤◌, List, [], ◌∷◌, ◌++◌, Bool, true, false, Option, Some, None, length, map, cond, get_or, eq-eqb, refl, ap, subst, sym, ◌∙◌, arith}
use Rattle.std.specs.List.{list_any}
use Rattle.std.specs.Option.{option_map}
use Rattle.std.specs.Prelude.{◌==◌, ◌||◌, find, is_some, nat_lt, position}
use Rattle.std.proofs.lemmas.Bool.{eqb-false, eqb-true, le-ltb, lt-ltb, true≢false}
use Rattle.std.proofs.lemmas.List.Quantifiers.{position-Some}
use Rattle.std.proofs.lemmas.List.Sums.{position_or_len_is}
use Rattle.wl_client.specs.View.{ClientView}
use Rattle.wl_client.specs.declared.outputs.Output.{Output}
use Rattle.wl_paint.specs.Damage.{Damaged}
use Rattle.spec_desktop.specs.Objects.{ById}
use Rattle.spec_desktop.specs.declared.cause.Cause.{Cause}
use Rattle.spec_desktop.specs.Desktop.{Desktop, Resident, client_at}
use Rattle.spec_desktop.specs.Replies.{focus_window}
use Rattle.spec_desktop.specs.Settling.{Midstep, Strike, is_struck}
use Rattle.spec_desktop.specs.Stacked.{all_windows}
use Rattle.wl_scene.specs.Kept.{standing_of}
use Rattle.wl_scene.specs.declared.scene.Toplevel.{Toplevel}
use Rattle.spec_desktop.specs.Pointer.{is_stacked}
use Rattle.spec_desktop.specs.Stacking.{is_of}
use Rattle.wl_scene.specs.declared.stacked.Stacked.{Stacked}
use Rattle.wl_scene.proofs.Places.{absent}
use Rattle.wl_scene.specs.Hit.{IsStackedOrNone, is_window_of}
use Rattle.wl_scene.specs.StackedAgreement.{AreStacked}
use Rattle.wl_requests.specs.declared.residents.Resident.{Resident as Kept}
use Rattle.wl_clients.specs.Agreement.{IsStack, numbers_in}
use Rattle.wl_clients.specs.View.{DeskView, MarkedDesk, Pile}
use Rattle.wl_clients.specs.Midway.{IsMid, first_struck, is_refused, strike_for, strikes_from}
use Rattle.wl_clients.specs.Pointing.{windows_numbered}
use Rattle.wl_clients.specs.Residents.{client_views, resident_at}
use Rattle.wl_clients.proofs.Desktops.{at, at-map, at-within}
use Rattle.wl_clients.proofs.Midway.{mid-kept, mid-nobody, mid_is_numbered_once, seat}
use Rattle.wl_clients.proofs.Numbers.{any-mapped, stands-so, window-found, window-numbered}
use Rattle.wl_clients.proofs.Opened.{numbers-open}
use Rattle.wl_clients.proofs.Seats.{here-of, marked, view_of}
use Rattle.wl_clients.proofs.Strikes.{none-struck, of-refused, refused_in, struck-at}

module _ (v : DeskView) (m : Midstep) (mid : IsMid v m) (c : ℕ) where
  abbrev numbers : ℕ → ById ℕ
  numbers = numbers_in v.clients

  windows : AreStacked numbers v.pile.windows (all_windows m.desktop)
  windows = (mid-kept v m mid).windows

  standing : IsStack numbers v.pile.scene.standing m.desktop.standing
  standing = subst (λ (ns : ℕ → ById ℕ). IsStack ns v.pile.scene.standing m.desktop.standing) (numbers-open v.clients) mid.agrees.matches.scene.standing

  -- the window of a surface
  pub mid-window : (ws : List Stacked) → ws ≡ v.pile.windows → (o : Option Stacked) (n id : ℕ) → o ≡ find (is_window_of c n) ws → numbers c id ≡ Some n
      → IsStackedOrNone numbers o (focus_window (Some (record { client = c; surface = id })) (all_windows m.desktop))
  mid-window ws same o n id found named =
      subst (λ (x : Option Stacked). IsStackedOrNone numbers x (focus_window (Some (record { client = c; surface = id })) (all_windows m.desktop)))
      (sym (found ∙ ap (find (is_window_of c n)) same))
      (window-found numbers c n id (mid_is_numbered_once v m mid c) named v.pile.windows (all_windows m.desktop) windows)

  pub mid-numbered : (ws : List Stacked) → ws ≡ v.pile.windows → (o : Option Stacked) (n : ℕ) → o ≡ find (is_window_of c n) ws
      → is_some o ≡ is_stacked (record { client = c; surface = n }) (windows_numbered v m.desktop)
  mid-numbered ws same o n found =
      ap is_some (found ∙ ap (find (is_window_of c n)) same) ∙ window-numbered numbers c n v.pile.windows (all_windows m.desktop) windows

  -- a toplevel that stands
  pub mid-stands : (ts : List Toplevel) → map standing_of ts ≡ v.pile.scene.standing → (k top : ℕ) → numbers c top ≡ Some k
      → list_any (λ t. is_of c k (standing_of t)) ts ≡ list_any (is_of c top) m.desktop.standing
  mid-stands ts same k top named =
      any-mapped standing_of (is_of c k) ts ∙ ap (list_any (is_of c k)) same
      ∙ stands-so numbers c k top (mid_is_numbered_once v m mid c) named v.pile.scene.standing m.desktop.standing standing

-- ---- who is to end first

skips : (start : ℕ) (o : Option Cause) (ts : List Strike) → is_some o ≡ false → first_struck (strike_for start o ++ ts) ≡ first_struck ts
skips start None ts e = refl
skips start (Some cause) ts e = absurd (cc)

begins : (start : ℕ) (o : Option Cause) (ts : List Strike) → is_some o ≡ true → first_struck (strike_for start o ++ ts) ≡ Some start
begins start None ts e = absurd (cc)
begins start (Some cause) ts e = refl

none-of : (t : Strike) (ts : List Strike) (c : ℕ) → t.client ≡ c → is_struck c (t ∷ ts) ≡ false → ⊥
none-of t ts c own none = true≢false (sym (ap (λ (b : Bool). b || is_struck c ts) (eq-eqb t.client c own)) ∙ none)

module _ {A : Type 0} where
  abbrev kept_client : Option (Kept A) → Option ClientView
  kept_client o = option_map (λ (r : Kept A). r.client) o

  refused-so : (o : Option (Kept A)) → is_refused o ≡ is_some (refused_in (kept_client o))
  refused-so None = refl
  refused-so (Some r) = refl

  by-head : (start : ℕ) (r : Option (Kept A)) (rs : List (Option (Kept A)))
      → strikes_from start (client_views (r ∷ rs)) ≡ strike_for start (refused_in (kept_client r)) ++ strikes_from (suc start) (client_views rs)
  by-head start r rs = ap (λ (ts : List Strike). ts ++ strikes_from (suc start) (client_views rs)) (of-refused start (kept_client r))

  none-first : (start : ℕ) (rs : List (Option (Kept A))) → list_any is_refused rs ≡ false → first_struck (strikes_from start (client_views rs)) ≡ None
  none-first start [] e = refl
  none-first start (r ∷ rs) e =
      ap first_struck (by-head start r rs)
      ∙ skips start (refused_in (kept_client r)) (strikes_from (suc start) (client_views rs)) (sym (refused-so r) ∙ or-first (is_refused r) (list_any is_refused rs) e)
      ∙ none-first (suc start) rs (or-second (is_refused r) (list_any is_refused rs) e)
    where
      or-first : (a b : Bool) → (a || b) ≡ false → a ≡ false
      or-first true b e = e
      or-first false b e = refl

      or-second : (a b : Bool) → (a || b) ≡ false → b ≡ false
      or-second true b e = absurd (cc)
      or-second false b e = e

  first-at : (start i : ℕ) (rs : List (Option (Kept A))) → i < length rs → is_refused (at rs i) ≡ true → ((k : ℕ) → k < i → is_refused (at rs k) ≡ false)
      → first_struck (strikes_from start (client_views rs)) ≡ Some (start + i)
  first-at start i [] within here none = absurd (omega (arith, within))
  first-at start zero (r ∷ rs) within here none =
      ap first_struck (by-head start r rs) ∙ begins start (refused_in (kept_client r)) (strikes_from (suc start) (client_views rs)) (sym (refused-so r) ∙ here)
      ∙ ap Some (let e : start ≡ start + zero = omega arith in e)
  first-at start (suc i) (r ∷ rs) within here none =
      ap first_struck (by-head start r rs)
      ∙ skips start (refused_in (kept_client r)) (strikes_from (suc start) (client_views rs)) (sym (refused-so r) ∙ none zero (omega arith))
      ∙ first-at (suc start) i rs (omega (arith, within)) here (λ k less. none (suc k) (omega (arith, less)))
      ∙ ap Some (let e : suc start + i ≡ start + suc i = omega arith in e)

  -- the first place at which one is refused
  abbrev place_if : ℕ → List (Option (Kept A)) → Option ℕ
  place_if i rs = cond (nat_lt i (length rs)) (Some i) None

  looked : (rs : List (Option (Kept A))) (k : ℕ) (u : Option (Kept A)) → k < length rs → u ≡ get_or rs k u → is_refused (at rs k) ≡ is_refused u
  looked rs k u less look = ap is_refused (sym (at-within rs k u less)) ∙ ap is_refused (sym look)

  pub refuses-first : (rs : List (Option (Kept A))) (k : ℕ) (u : Option (Kept A)) → k < length rs → ((j : ℕ) → j < k → is_refused (at rs j) ≡ false) → u ≡ get_or rs k u
      → is_refused u ≡ true → Some k ≡ position is_refused rs
  refuses-first rs k u less none look here =
      let first = position_or_len_is is_refused rs k None (omega (arith, less)) none (λ within. looked rs k u less look ∙ here) in
      sym (ap (λ (i : ℕ). place_if i rs) first ∙ ap (λ (b : Bool). cond b (Some k) None) (lt-ltb k (length rs) less))

  pub refuses-not : (rs : List (Option (Kept A))) (k : ℕ) (u : Option (Kept A)) → k < length rs → ((j : ℕ) → j < k → is_refused (at rs j) ≡ false) → u ≡ get_or rs k u
      → is_refused u ≡ false → (j : ℕ) → j < k + 1 → is_refused (at rs j) ≡ false
  refuses-not rs k u less none look here j within = by (j == k) refl
    where
      by : (b : Bool) → (j == k) ≡ b → is_refused (at rs j) ≡ false
      by true e = ap (λ (i : ℕ). is_refused (at rs i)) (eqb-true j k e) ∙ looked rs k u less look ∙ here
      by false e = let apart = eqb-false j k e in none j (omega (arith, within, apart))

  pub none-refuses : (rs : List (Option (Kept A))) (k : ℕ) → ((j : ℕ) → j < k → is_refused (at rs j) ≡ false) → length rs ≤ k → None ≡ position is_refused rs
  none-refuses rs k none past =
      let first = position_or_len_is is_refused rs (length rs) None (omega arith) (λ j less. none j (omega (arith, less, past))) (λ within. absurd (omega (arith, within))) in
      sym (ap (λ (i : ℕ). place_if i rs) first ∙ ap (λ (b : Bool). cond b (Some (length rs)) None) (le-ltb (length rs) (length rs) (omega arith)))

  -- by the first place
  pub mid-first : (output : Output) (rs : List (Option (Kept A))) (pile : Pile) (m : Midstep) → IsMid (view_of output rs pile) m → (i : ℕ) → position is_refused rs ≡ Some i
      → Some (i + 1) ≡ first_struck m.struck
  mid-first output rs pile m mid i place =
      let found = position-Some is_refused rs i None place in
      ap Some (let e : i + 1 ≡ 1 + i = omega arith in e) ∙ sym (first-at 1 i rs found.0 found.1 found.2) ∙ ap first_struck mid.struck

  pub mid-no-first : (output : Output) (rs : List (Option (Kept A))) (pile : Pile) (m : Midstep) → IsMid (view_of output rs pile) m → position is_refused rs ≡ None
      → None ≡ first_struck m.struck
  mid-no-first output rs pile m mid place = sym (none-first 1 rs (absent is_refused None rs place)) ∙ ap first_struck mid.struck

  -- ---- who isn't to end

  -- one that isn't there
  pub mid-absent : (output : Output) (rs : List (Option (Kept A))) (pile : Pile) (damage : Damaged) (ws : List (Option (Kept A))) (w : MarkedDesk) (c : ℕ) → ws ≡ rs → resident_at ws c ≡ None
      → marked (view_of output rs pile) damage ≡ w → (t : Strike) (ts : List Strike) (d : Desktop) → t.client ≡ c → IsMid w.desk (record { desktop = d; struck = t ∷ ts }) → ⊥
  mid-absent output rs pile damage ws w c same none view t ts d own mid =
      let here = subst (λ (x : MarkedDesk). IsMid x.desk (record { desktop = d; struck = t ∷ ts })) (sym view) mid in
      none-of t ts c own (ap (is_struck c) (sym here.struck) ∙ by c (rw (← same) none))
    where
      by : (c : ℕ) → resident_at rs c ≡ None → is_struck c (strikes_from 1 (client_views rs)) ≡ false
      by zero none = none-struck zero 1 (client_views rs) (omega arith)
      by (suc k) none =
          struck-at (suc k) 1 k (client_views rs) (omega arith)
          ∙ ap (λ (o : Option ClientView). is_some (refused_in o)) (at-map (λ (r : Kept A). r.client) rs k ∙ ap kept_client none)

-- ---- the next serial of a client

pub no-serial : {A : Type 0} (output : Output) (rs : List (Option (Kept A))) (pile : Pile) (damage : Damaged) (ws : List (Option (Kept A))) (w : MarkedDesk) (c : ℕ) (m : Midstep) → ws ≡ rs
    → resident_at ws c ≡ None → marked (view_of output rs pile) damage ≡ w → IsMid w.desk m → None ≡ option_map (λ (r : Resident). r.peer.serial) (client_at c m.desktop)
no-serial output rs pile damage ws w c m same none view mid =
    sym (ap (λ (o : Option Resident). option_map (λ (r : Resident). r.peer.serial) o)
    (mid-nobody output rs pile c m (rw (← same) none) (subst (λ (x : MarkedDesk). IsMid x.desk m) (sym view) mid)))

pub serial-read : {A : Type 0} (output : Output) (rs : List (Option (Kept A))) (pile : Pile) (damage : Damaged) (ws : List (Option (Kept A))) (w : MarkedDesk) (c : ℕ) (v : Kept A) (m : Midstep)
    → ws ≡ rs → Some v ≡ resident_at ws c → marked (view_of output rs pile) damage ≡ w → IsMid w.desk m
    → Some v.client.serial ≡ option_map (λ (r : Resident). r.peer.serial) (client_at c m.desktop)
serial-read {A} output rs pile damage ws w c v m same is view mid =
    let here = here-of rs c v (is ∙ ap (λ (xs : List (Option (Kept A))). resident_at xs c) same) in
    let s = seat output rs pile c here.0 v here.1 m (subst (λ (x : MarkedDesk). IsMid x.desk m) (sym view) mid) in
    ap Some s.2.seat.peer.serial ∙ sym (ap (λ (o : Option Resident). option_map (λ (r : Resident). r.peer.serial) o) s.1)

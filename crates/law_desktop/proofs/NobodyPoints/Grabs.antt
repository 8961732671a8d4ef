-- No popup has a grab where no client was told of a button.
use Rattle.std.proofs.Common.{◌≡◌, ℕ, zero, suc, List, [], ◌∷◌, ◌++◌, Bool, true, false, Option, Some, None, refl, ap, sym, ◌∙◌}
use Rattle.std.proofs.lemmas.Bool.{or_from, true≢false}
use Rattle.std.proofs.lemmas.Option.{none-some}
use Rattle.std.specs.Prelude.{◌&&◌, nat_lt, if◌then◌else◌, flat_map, fold}
use Rattle.std.specs.List.{list_any}
use Rattle.wl_shell.specs.Popups.{Popped, by_number, is_parent_of, popped_kind, popped_of, popped_role}
use Rattle.wl_shell.specs.Shell.{Kind, Toplevel, IsPopup, Popup, RoleObject, Shell, XdgSurface as Xdg}
use Rattle.spec_desktop.specs.Changing.{changed_for, grab_allowed, grab_holder, holder_from, holds_grab, is_latest, is_serial}
use Rattle.spec_desktop.specs.Demand.{Demand}
use Rattle.spec_desktop.specs.Desktop.{Desktop, Resident, client_at, place}
use Rattle.law_desktop.proofs.EachPopup.{IsSteadyOf, OfEach, OfKind, OfRole, each-stays}
use Rattle.law_desktop.proofs.Truth.{or-left, or-right}

-- a popup without a grab
abbrev pub HasNone : ℕ → Popup → Type 0
HasNone id popup = popup.has_grab ≡ false

none-steady : IsSteadyOf HasNone
none-steady = record {
  placed = λ positioner placement waiting id p none. none;
  ungrabbed = λ id p none. refl;
  orphaned = λ xdg id p none. at (is_parent_of xdg p) p none;
}
  where
    at : (b : Bool) (p : Popup) → p.has_grab ≡ false → (if b then record p { parent = None } else p).has_grab ≡ false
    at true p none = none
    at false p none = none

-- ---- as the definition asks for it

abbrev grab : Popped → Bool
grab p = p.popup.has_grab

-- among those in order, one more
none-among : (p : Popped) (ps : List Popped) → grab p ≡ false → list_any grab ps ≡ false → list_any grab (by_number p ps) ≡ false
none-among p [] none all = or_from (grab p) false none refl
none-among p (q ∷ qs) none all = at (nat_lt p.popup.number q.popup.number) (none-among p qs none (or-right (grab q) (list_any grab qs) all))
  where
    at : (b : Bool) → list_any grab (by_number p qs) ≡ false → list_any grab (if b then p ∷ q ∷ qs else q ∷ by_number p qs) ≡ false
    at true rest = or_from (grab p) (list_any grab (q ∷ qs)) none all
    at false rest = or_from (grab q) (list_any grab (by_number p qs)) (or-left (grab q) (list_any grab qs) all) rest

among-none : (p : Popped) (ps : List Popped) → list_any grab (by_number p ps) ≡ false → (grab p ≡ false) × (list_any grab ps ≡ false)
among-none p [] none = (or-left (grab p) false none, refl)
among-none p (q ∷ qs) none = at (nat_lt p.popup.number q.popup.number) (among-none p qs) none
  where
    at : (b : Bool) → (list_any grab (by_number p qs) ≡ false → (grab p ≡ false) × (list_any grab qs ≡ false)) → list_any grab (if b then p ∷ q ∷ qs else q ∷ by_number p qs) ≡ false
        → (grab p ≡ false) × (list_any grab (q ∷ qs) ≡ false)
    at true rest e = (or-left (grab p) (list_any grab (q ∷ qs)) e, or-right (grab p) (list_any grab (q ∷ qs)) e)
    at false rest e =
        let k = rest (or-right (grab q) (list_any grab (by_number p qs)) e) in
        (k.0, or_from (grab q) (list_any grab qs) (or-left (grab q) (list_any grab (by_number p qs)) e) k.1)

none-ordered : (acc ps : List Popped) → list_any grab acc ≡ false → list_any grab ps ≡ false → list_any grab (fold (λ qs p. by_number p qs) acc ps) ≡ false
none-ordered acc [] first all = first
none-ordered acc (p ∷ ps) first all =
    none-ordered (by_number p acc) ps (none-among p acc (or-left (grab p) (list_any grab ps) all) first) (or-right (grab p) (list_any grab ps) all)

ordered-none : (acc ps : List Popped) → list_any grab (fold (λ qs p. by_number p qs) acc ps) ≡ false → (list_any grab acc ≡ false) × (list_any grab ps ≡ false)
ordered-none acc [] none = (none, refl)
ordered-none acc (p ∷ ps) none =
    let k = ordered-none (by_number p acc) ps none in
    let first = among-none p acc k.0 in
    (first.1, or_from (grab p) (list_any grab ps) first.0 k.1)

none-before : (x : Xdg) (ps : List Popped) → OfRole HasNone x.role → list_any grab ps ≡ false → list_any grab (popped_of x ++ ps) ≡ false
none-before x ps none all = at x.role none
  where
    kind : (object : RoleObject) (k : Kind) → OfKind HasNone object.id k → list_any grab (popped_kind x object k ++ ps) ≡ false
    kind object Toplevel none = all
    kind object (IsPopup popup) none = or_from popup.has_grab (list_any grab ps) none all

    at : (o : Option RoleObject) → OfRole HasNone o → list_any grab (popped_role x o ++ ps) ≡ false
    at None none = all
    at (Some object) none = kind object object.kind none

before-none : (x : Xdg) (ps : List Popped) → list_any grab (popped_of x ++ ps) ≡ false → OfRole HasNone x.role × (list_any grab ps ≡ false)
before-none x ps none = at x.role none
  where
    kind : (object : RoleObject) (k : Kind) → list_any grab (popped_kind x object k ++ ps) ≡ false → OfKind HasNone object.id k × (list_any grab ps ≡ false)
    kind object Toplevel none = (tt, none)
    kind object (IsPopup popup) none = (or-left popup.has_grab (list_any grab ps) none, or-right popup.has_grab (list_any grab ps) none)

    at : (o : Option RoleObject) → list_any grab (popped_role x o ++ ps) ≡ false → OfRole HasNone o × (list_any grab ps ≡ false)
    at None none = (tt, none)
    at (Some object) none = kind object object.kind none

none-of : (shell : Shell) → OfEach HasNone shell → list_any grab (flat_map popped_of shell) ≡ false
none-of [] none = refl
none-of (x ∷ xs) none = none-before x (flat_map popped_of xs) none.0 (none-of xs none.1)

of-none : (shell : Shell) → list_any grab (flat_map popped_of shell) ≡ false → OfEach HasNone shell
of-none [] none = tt
of-none (x ∷ xs) none =
    let k = before-none x (flat_map popped_of xs) none in
    (k.0, of-none xs k.1)

pub none-holds : (r : Resident) → OfEach HasNone r.owned.shell → holds_grab (Some r) ≡ false
none-holds r none = none-ordered [] (flat_map popped_of r.owned.shell) refl (none-of r.owned.shell none)

pub holds-none : (r : Resident) → holds_grab (Some r) ≡ false → OfEach HasNone r.owned.shell
holds-none r none = of-none r.owned.shell (ordered-none [] (flat_map popped_of r.owned.shell) none).1

-- ---- the client that holds one

none-held : (rs : List (Option Resident)) (n : ℕ) → ((k : ℕ) → holds_grab (place rs k) ≡ false) → holder_from n rs ≡ None
none-held [] n none = refl
none-held (r ∷ rs) n none = at (holds_grab r) (none zero) (none-held rs (suc n) (λ k. none (suc k)))
  where
    at : (b : Bool) → b ≡ false → holder_from (suc n) rs ≡ None → (if b then Some n else holder_from (suc n) rs) ≡ None
    at true e rest = absurd (true≢false e)
    at false e rest = rest

held-none : (rs : List (Option Resident)) (n : ℕ) → holder_from n rs ≡ None → (k : ℕ) → holds_grab (place rs k) ≡ false
held-none [] n none k = refl
held-none (r ∷ rs) n none k = at (holds_grab r) refl none k (λ e j. held-none rs (suc n) e j)
  where
    at : (b : Bool) → holds_grab r ≡ b → (if b then Some n else holder_from (suc n) rs) ≡ None → (k : ℕ) → (holder_from (suc n) rs ≡ None → (j : ℕ) → holds_grab (place rs j) ≡ false)
        → holds_grab (place (r ∷ rs) k) ≡ false
    at true e none k later = absurd (none-some n (sym none))
    at false e none zero later = e
    at false e none (suc k) later = later none k

pub nobody-holds : (d : Desktop) → ((c : ℕ) → holds_grab (client_at c d) ≡ false) → grab_holder d ≡ None
nobody-holds d none = none-held d.clients 1 (λ k. none (suc k))

pub holds-nobody : (d : Desktop) → grab_holder d ≡ None → (c : ℕ) → holds_grab (client_at c d) ≡ false
holds-nobody d none zero = refl
holds-nobody d none (suc k) = held-none d.clients 1 none k

-- ---- no grab is allowed

serial-none : (serial : ℕ) (o : Option ℕ) → o ≡ None → is_serial serial o ≡ false
serial-none serial o none = ap (is_serial serial) none

pub none-allowed : (c xdg serial : ℕ) (r : Resident) (d : Desktop) → r.press ≡ None → r.release ≡ None → grab_allowed c xdg serial r d ≡ false
none-allowed c xdg serial r d press release = at (is_latest serial r)
    (or_from (is_serial serial r.press) (is_serial serial r.release) (serial-none serial r.press press) (serial-none serial r.release release)) _
  where
    at : (b : Bool) → b ≡ false → (more : Bool) → (b && more) ≡ false
    at true e more = absurd (true≢false e)
    at false e more = refl

-- so what is demanded leaves the client's popups without grabs
pub none-gained : (c : ℕ) (demand : Demand) (r : Resident) (d : Desktop) → r.press ≡ None → r.release ≡ None → OfEach HasNone r.owned.shell
    → OfEach HasNone (changed_for c demand r d).owned.shell
none-gained c demand r d press release none =
    each-stays HasNone none-steady c demand r d (λ id parent positioner. refl)
    (λ xdg serial allowed. absurd (true≢false (sym allowed ∙ none-allowed c xdg serial r d press release))) (λ may id p any. refl) none

-- The windows that are kept, in the middle of a step, and what of them is told and hit.
use Rattle.std.proofs.Common.{◌≡◌, ◌≢◌, ℕ, zero, suc, List, [], ◌∷◌, Bool, true, false, Option, Some, None, refl, ap, ap₂, subst, sym, ◌∙◌}
use Rattle.std.specs.Option.{option_map}
use Rattle.std.specs.Prelude.{ℤ, ◌==◌, cond, is_some}
use Rattle.std.proofs.lemmas.Bool.{eqb-true}
use Rattle.std.proofs.lemmas.Option.{none-some}
use Rattle.spec_desktop.specs.Objects.{ById}
use Rattle.wl_surface.specs.Surfaces.{history_in, surface_at}
use Rattle.wl_surface.specs.Surface.{Surface}
use Rattle.wl_client.specs.View.{ClientView}
use Rattle.spec_desktop.specs.Pointer.{Target, fixed_from, hit_by, target_of}
use Rattle.spec_desktop.specs.Windows.{Place, Window, hit}
use Rattle.wl_scene.specs.declared.stacked.Stacked.{Stacked}
use Rattle.wl_scene.specs.Focus.{place_of}
use Rattle.wl_scene.specs.declared.focus.Point.{Point}
use Rattle.wl_scene.specs.Hit.{IsStackedOrNone}
use Rattle.wl_scene.specs.StackedAgreement.{AreNumberedOnce, AreStacked}
use Rattle.spec_desktop.specs.Desktop.{Resident, client_at}
use Rattle.spec_desktop.specs.Replies.{focus_window}
use Rattle.spec_desktop.specs.Settling.{Midstep}
use Rattle.spec_desktop.specs.Stacked.{all_windows}
use Rattle.law_desktop.proofs.Truth.{and-left, and-right}
use Rattle.wl_clients.specs.Agreement.{IsPlace, numbers_in, numbers_of}
use Rattle.wl_clients.specs.View.{DeskView, OwnedView}
use Rattle.wl_clients.specs.Midway.{IsMid, opened_desk}
use Rattle.wl_clients.proofs.Desktops.{at, place-at}
use Rattle.wl_clients.proofs.Opened.{numbers-open}
use Rattle.wl_desk.specs.Points.{point_told}
use Rattle.wl_desk.proofs.Points.{is_window}

-- ---- what is kept

pub mid-windows : (v : DeskView) (m : Midstep) → IsMid v m → AreStacked (numbers_in v.clients) v.pile.windows (all_windows m.desktop)
mid-windows v m mid =
    subst (λ (numbers : ℕ → ById ℕ). AreStacked numbers v.pile.windows (all_windows m.desktop)) (numbers-open v.clients) mid.agrees.matches.windows

-- a surface without a number has no window
pub no-window : (numbers : ℕ → ById ℕ) (t : Target) (ss : List Stacked) (ws : List Window) → AreStacked numbers ss ws → numbers t.client t.surface ≡ None → focus_window (Some t) ws ≡ None
no-window numbers t [] [] are none = refl
no-window numbers t [] (w ∷ ws) are none = absurd are
no-window numbers t (s ∷ ss) [] are none = absurd are
no-window numbers t (s ∷ ss) (w ∷ ws) are none = at (is_window t w) refl (no-window numbers t ss ws are.1 none)
  where
    at : (b : Bool) → is_window t w ≡ b → focus_window (Some t) ws ≡ None → cond b (Some w) (focus_window (Some t) ws) ≡ None
    at false e rest = rest
    at true e rest =
        let owner : s.client ≡ t.client = are.0.client ∙ eqb-true w.owner.client t.client (and-left (w.owner.client == t.client) (w.surface == t.surface) e) in
        let surface : w.surface ≡ t.surface = eqb-true w.surface t.surface (and-right (w.owner.client == t.client) (w.surface == t.surface) e) in
        absurd (none-some s.window.surface (sym none ∙ sym (ap₂ (λ (c id : ℕ). numbers c id) owner surface) ∙ are.0.surface))

pub none-stacked : (numbers : ℕ → ById ℕ) (w : Option Window) → w ≡ None → IsStackedOrNone numbers None w
none-stacked numbers w e = subst (λ (o : Option Window). IsStackedOrNone numbers None o) (sym e) tt

pub unnumbered : (v : DeskView) (m : Midstep) (t : Target) → IsMid v m → None ≡ numbers_in v.clients t.client t.surface
    → IsStackedOrNone (numbers_in v.clients) None (focus_window (Some t) (all_windows m.desktop))
unnumbered v m t mid none =
    none-stacked (numbers_in v.clients) (focus_window (Some t) (all_windows m.desktop))
    (no-window (numbers_in v.clients) t v.pile.windows (all_windows m.desktop) (mid-windows v m mid) (sym none))

-- ---- where the pointer is in it

pub none-of : (numbers : ℕ → ById ℕ) (w : Option Window) → IsStackedOrNone numbers None w → w ≡ None
none-of numbers None is = refl
none-of numbers (Some w) is = absurd is

pub nowhere-told : (at : Option Place) (w : Option Window) → None ≡ at → None ≡ point_told at w
nowhere-told at w e = ap (λ (a : Option Place). point_told a w) e

not-told : (at : Option Place) → None ≡ point_told at None
not-told None = refl
not-told (Some p) = refl

pub windowless-told : (numbers : ℕ → ById ℕ) (at : Option Place) (w : Option Window) → IsStackedOrNone numbers None w → None ≡ point_told at w
windowless-told numbers at w is = not-told at ∙ ap (point_told at) (sym (none-of numbers w is))

pub point-so : (numbers : ℕ → ById ℕ) (p : Point) (s : Stacked) (at : Option Place) (w : Option Window) (x y : ℤ) → Some (place_of p) ≡ at → IsStackedOrNone numbers (Some s) w
    → x ≡ fixed_from p.x s.window.x → y ≡ fixed_from p.y s.window.y → Some (x, y) ≡ point_told at w
point-so numbers p s at None x y there is across down = absurd is
point-so numbers p s at (Some v) x y there is across down =
    let left : s.window.x ≡ v.corner.x = rw is.told refl in
    let above : s.window.y ≡ v.corner.y = rw is.told refl in
    ap₂ (λ (a b : ℤ). Some (a, b)) (across ∙ ap (fixed_from p.x) left) (down ∙ ap (fixed_from p.y) above) ∙ ap (λ (a : Option Place). point_told a (Some v)) there

-- ---- what it hits

pub nowhere-hit : (at : Option Place) (ws : List Window) → None ≡ at → None ≡ hit_by at ws
nowhere-hit at ws e = ap (λ (a : Option Place). hit_by a ws) e

hit-at : (x y : ℤ) (p : Point) (at : Option Place) (ws : List Window) → x ≡ p.x → y ≡ p.y → Some (place_of p) ≡ at → target_of (hit x y ws) ≡ hit_by at ws
hit-at x y p at ws across down there = ap₂ (λ (a b : ℤ). target_of (hit a b ws)) across down ∙ ap (λ (a : Option Place). hit_by a ws) there

pub none-hit : (numbers : ℕ → ById ℕ) (x y : ℤ) (p : Point) (at : Option Place) (ws : List Window) → x ≡ p.x → y ≡ p.y → Some (place_of p) ≡ at
    → IsStackedOrNone numbers None (hit x y ws) → None ≡ hit_by at ws
none-hit numbers x y p at ws across down there is = ap target_of (sym (none-of numbers (hit x y ws) is)) ∙ hit-at x y p at ws across down there

hit-named : (numbers : ℕ → ById ℕ) (once : (c : ℕ) → AreNumberedOnce (numbers c)) (s : Stacked) (w : Option Window) (t : Target) → IsStackedOrNone numbers (Some s) w
    → s.client ≡ t.client → numbers t.client t.surface ≡ Some s.window.surface → Some t ≡ target_of w
hit-named numbers once s None t is owner named = absurd is
hit-named numbers once s (Some w) t is owner named =
    let client : t.client ≡ w.owner.client = sym owner ∙ is.client in
    let own : numbers t.client w.surface ≡ Some s.window.surface = subst (λ (c : ℕ). numbers c w.surface ≡ Some s.window.surface) owner is.surface in
    let surface : t.surface ≡ w.surface = once t.client t.surface w.surface s.window.surface named own in
    ap₂ (λ (c id : ℕ). Some (record { client = c; surface = id })) client surface

-- a surface by the number of the window that is hit
pub named-hit : (numbers : ℕ → ById ℕ) (once : (c : ℕ) → AreNumberedOnce (numbers c)) (x y : ℤ) (p : Point) (at : Option Place) (ws : List Window) (s : Stacked) (t : Target) → x ≡ p.x → y ≡ p.y
    → Some (place_of p) ≡ at → IsStackedOrNone numbers (Some s) (hit x y ws) → s.client ≡ t.client → numbers t.client t.surface ≡ Some s.window.surface → Some t ≡ hit_by at ws
named-hit numbers once x y p at ws s t across down there is owner named = hit-named numbers once s (hit x y ws) t is owner named ∙ hit-at x y p at ws across down there

stacked-named : (numbers : ℕ → ById ℕ) (s : Stacked) (w : Option Window) → IsStackedOrNone numbers (Some s) w → ((id : ℕ) → numbers s.client id ≢ Some s.window.surface) → ⊥
stacked-named numbers s None is none = is
stacked-named numbers s (Some w) is none = none w.surface is.surface

-- there is one
pub hit-has : {X : Type 0} (numbers : ℕ → ById ℕ) (s : Stacked) (w : Option Window) → IsStackedOrNone numbers (Some s) w → ((id : ℕ) → numbers s.client id ≢ Some s.window.surface) → X
hit-has numbers s w is none = absurd (stacked-named numbers s w is none)

-- ---- the surfaces of a client have numbers

abbrev NamesAt : Option ClientView → Option Resident → ℕ → Type 0
NamesAt x None id = Unit {0}
NamesAt x (Some r) id = is_some (numbers_of x id) ≡ is_some (history_in id r.owned.surfaces)

some-mapped : {X Y : Type 0} (f : X → Y) (o : Option X) → is_some o ≡ is_some (option_map f o)
some-mapped f None = refl
some-mapped f (Some x) = refl

place-names : (x : Option ClientView) (o : Option OwnedView) (r : Option Resident) → IsPlace x o r → (id : ℕ) → NamesAt x r id
place-names None None None here id = tt
place-names (Some v) (Some o) (Some r) here id = here.owns.surfaces.numbered id ∙ some-mapped (λ (s : Surface). s.history) (surface_at id r.owned.surfaces)
place-names None None (Some r) here id = absurd here
place-names None (Some o) r here id = absurd here
place-names (Some v) None r here id = absurd here
place-names (Some v) (Some o) None here id = absurd here

pub mid-names : (v : DeskView) (m : Midstep) (c id : ℕ) (r : Resident) → IsMid v m → client_at c m.desktop ≡ Some r → is_some (numbers_in v.clients c id) ≡ is_some (history_in id r.owned.surfaces)
mid-names v m zero id r mid there = absurd (cc)
mid-names v m (suc k) id r mid there =
    let w = opened_desk v in
    subst (λ (numbers : ℕ → ById ℕ). is_some (numbers (suc k) id) ≡ is_some (history_in id r.owned.surfaces)) (numbers-open v.clients)
    (subst (λ (o : Option Resident). NamesAt (at w.clients k) o id) there
    (place-names (at w.clients k) (at w.owned k) (client_at (suc k) m.desktop) (place-at w m.desktop k mid.agrees.matches) id))

-- What a point hits of the windows that are kept is what it hits of those that they stand for.
use Rattle.std.proofs.Common.{◌≡◌, ℕ, suc, zero, ◌<◌, Bool, true, false, List, [], ◌∷◌, ◌++◌, Option, Some, None, refl, ap, sym, subst, ◌∙◌, length, take, cond, arith, eqb-true, ℤ, pos, ◌-ℤ◌}
use Rattle.std.specs.Prelude.{◌==◌, ◌&&◌, slice_index_or}
use Rattle.std.specs.List.{list_any, AllByRecursion as Each}
use Rattle.std.proofs.lemmas.List.{take_all}
use Rattle.std.proofs.lemmas.List.Sums.{fold-append}
use Rattle.wl_geom.specs.Rect.{in_span}
use Rattle.wl_surface.specs.State.{applied}
use Rattle.wl_surface.specs.Slots.{Slots, kept_at}
use Rattle.wl_surface.specs.Surfaces.{Surfaces, surface_at}
use Rattle.spec_desktop.specs.Objects.{ById}
use Rattle.spec_desktop.specs.Pointer.{is_stacked}
use Rattle.spec_desktop.specs.Windows.{Window, contains, hit, hit_after, is_hit, takes_input}
use Rattle.wl_scene.specs.declared.stacked.Stacked.{Stacked}
use Rattle.wl_scene.specs.declared.tree_window.TreeWindow.{TreeWindow}
use Rattle.spec_desktop.specs.Desktop.{Desktop, owned_in}
use Rattle.spec_desktop.specs.Stacked.{all_windows}
use Rattle.wl_scene.specs.Hit.{AreKept, IsStackedOrNone, ShowsSurface, is_window_of}
use Rattle.wl_scene.specs.Hit.{IsStoodFor}
use Rattle.wl_scene.specs.StackedAgreement.{AreNumberedOnce, AreStacked, IsStacked}
use Rattle.wl_scene.proofs.Stood.{Keeps, keeps}
use Rattle.wl_scene.proofs.Shown.{IsShown, all-shown}
use Rattle.wl_scene.proofs.Standing.{any-same}
use Rattle.wl_scene.proofs.Truth.{same-equal, some-same}
use Rattle.wl_scene.proofs.Stood.{surface-stands}

-- ---- one window

module _ (x y : ℤ) (numbers : ℕ → ById ℕ) (s : Stacked) (w : Window) (is : IsStacked numbers s w) where
  contained : (in_span s.window.x (pos s.window.w) x && in_span s.window.y (pos s.window.h) y) ≡ contains w x y
  contained = ap (λ (t : TreeWindow). in_span t.x (pos t.w) x && in_span t.y (pos t.h) y) is.told

  pub inside-window : (b : Bool) → b ≡ (in_span s.window.x (pos s.window.w) x && in_span s.window.y (pos s.window.h) y) → b ≡ true → contains w x y ≡ true
  inside-window b told e = sym contained ∙ sym told ∙ e

  module _ (slots : Slots) (all : Surfaces) (stood : IsStoodFor (numbers s.client) slots all) (shown : ShowsSurface all w) where
    pub kept : Keeps (kept_at slots s.window.surface) shown.history
    kept =
        keeps (kept_at slots s.window.surface) (surface_at w.surface all) shown.history
        (surface-stands (numbers s.client) slots all stood w.surface s.window.surface is.surface) shown.found

    pub taken : takes_input (applied shown.history).input (x -ℤ s.window.x) (y -ℤ s.window.y) ≡ takes_input w.input (x -ℤ w.corner.x) (y -ℤ w.corner.y)
    taken =
        ap (λ (t : TreeWindow). takes_input (applied shown.history).input (x -ℤ t.x) (y -ℤ t.y)) is.told
        ∙ ap (λ (v : Window). takes_input v.input (x -ℤ w.corner.x) (y -ℤ w.corner.y)) (sym shown.shows)

    pub hit-inside : (b : Bool) → b ≡ takes_input (applied shown.history).input (x -ℤ s.window.x) (y -ℤ s.window.y) → contains w x y ≡ true → b ≡ is_hit x y w
    hit-inside b takes inside = takes ∙ taken ∙ ap (λ (i : Bool). i && takes_input w.input (x -ℤ w.corner.x) (y -ℤ w.corner.y)) (sym inside)

-- ---- all of them

-- the window at a place, and those up to it
record IsAt (numbers : ℕ → ById ℕ) (P : Window → Type 0) (ws : List Window) (k : ℕ) (s : Stacked) : Type 0 where
  window : Window
  stacked : IsStacked numbers s window
  has : P window
  upto : take (suc k) ws ≡ take k ws ++ window ∷ []

module _ (numbers : ℕ → ById ℕ) (P : Window → Type 0) (default : Stacked) where
  at-place : (ss : List Stacked) (ws : List Window) → AreStacked numbers ss ws → Each P ws → (k : ℕ) → k < length ss → IsAt numbers P ws k (slice_index_or ss k default)
  at-place [] ws are each k less = absurd (omega arith)
  at-place (t ∷ ss) [] are each k less = absurd are
  at-place (t ∷ ss) (w ∷ ws) are each zero less = record { window = w; stacked = are.0; has = each.0; upto = refl }
  at-place (t ∷ ss) (w ∷ ws) are each (suc k) less =
      let later = at-place ss ws are.1 each.1 k (omega arith) in
      record { window = later.window; stacked = later.stacked; has = later.has; upto = ap (λ (vs : List Window). w ∷ vs) later.upto }

pub as-many : (numbers : ℕ → ById ℕ) (ss : List Stacked) (ws : List Window) → AreStacked numbers ss ws → length ss ≡ length ws
as-many numbers [] [] are = refl
as-many numbers [] (w ∷ ws) are = absurd are
as-many numbers (s ∷ ss) [] are = absurd are
as-many numbers (s ∷ ss) (w ∷ ws) are = ap suc (as-many numbers ss ws are.1)

module _ (x y : ℤ) (slots : ℕ → Slots) (numbers : ℕ → ById ℕ) (ss : List Stacked) (d : Desktop) (are : AreKept slots numbers ss d) where
  abbrev ws : List Window
  ws = all_windows d

  pub hit-all : hit x y ws ≡ hit x y (take (length ss) ws)
  hit-all = ap (hit x y) (sym (take_all (length ss) ws (omega (arith, as-many numbers ss ws are.windows))))

  -- what is told of the window at a place, of which the topmost so far is this
  module _ (default : Stacked) (k : ℕ) (less : k < length ss) (place : ℕ) (next : place ≡ suc k) (so_far : hit x y ws ≡ hit x y (take place ws)) where
    abbrev s : Stacked
    s = slice_index_or ss k default

    abbrev Tells : Slots → Bool → Type 0
    Tells lent b = (names : ℕ → ById ℕ) (all : Surfaces) (w : Window) → IsStacked names s w → IsStoodFor (names s.client) lent all → ShowsSurface all w → b ≡ is_hit x y w

    at : IsAt numbers (IsShown (λ c. (owned_in d c).surfaces)) ws k s
    at = at-place numbers (IsShown (λ c. (owned_in d c).surfaces)) default ss ws are.windows (all-shown d) k less

    upto : hit x y ws ≡ hit_after x y (hit x y (take k ws)) at.window
    upto = so_far ∙ ap (λ (n : ℕ). hit x y (take n ws)) next ∙ ap (hit x y) at.upto ∙ fold-append (hit_after x y) None (take k ws) (at.window ∷ [])

    is-told : (lent : Slots) (b : Bool) → lent ≡ slots s.client → Tells lent b → is_hit x y at.window ≡ b
    is-told lent b same tells =
        sym
        (tells numbers (owned_in d s.client).surfaces at.window at.stacked
        (subst (λ (l : Slots). IsStoodFor (numbers s.client) l (owned_in d s.client).surfaces) (sym same) (are.surfaces s.client))
        (subst (λ (c : ℕ). ShowsSurface (owned_in d c).surfaces at.window) (sym at.stacked.client) at.has))

    pub topmost : (lent : Slots) (b : Bool) → lent ≡ slots s.client → Tells lent b → b ≡ true → (v z : ℤ) → x ≡ v → y ≡ z → IsStackedOrNone numbers (Some s) (hit v z ws)
    topmost lent b same tells e v z same-x same-y =
        let here : hit x y ws ≡ Some at.window = upto ∙ ap (λ (i : Bool). cond i (Some at.window) (hit x y (take k ws))) (is-told lent b same tells ∙ e) in
        let there : hit v z ws ≡ hit x y ws = ap (λ (n : ℤ). hit n z ws) (sym same-x) ∙ ap (λ (n : ℤ). hit x n ws) (sym same-y) in
        subst (λ (o : Option Window). IsStackedOrNone numbers (Some s) o) (sym (there ∙ here)) at.stacked

    pub below : (lent : Slots) (b : Bool) → lent ≡ slots s.client → Tells lent b → b ≡ false → hit x y ws ≡ hit x y (take k ws)
    below lent b same tells e = upto ∙ ap (λ (i : Bool). cond i (Some at.window) (hit x y (take k ws))) (is-told lent b same tells ∙ e)

-- ---- a surface among the windows

module _ (numbers : ℕ → ById ℕ) (client id n : ℕ) (once : AreNumberedOnce (numbers client)) (named : numbers client id ≡ Some n) where
  of-surface : (s : Stacked) (w : Window) → IsStacked numbers s w → is_window_of client n s ≡ ((w.owner.client == client) && (w.surface == id))
  of-surface s w is = at (s.client == client) refl
    where
      at : (b : Bool) → (s.client == client) ≡ b → (b && (s.window.surface == n)) ≡ ((w.owner.client == client) && (w.surface == id))
      at false apart = ap (λ (b : Bool). b && (w.surface == id)) (sym (sym (ap (λ (m : ℕ). m == client) is.client) ∙ apart))
      at true here =
          let own : s.client ≡ client = eqb-true s.client client here in
          let surface : numbers client w.surface ≡ Some s.window.surface = ap (λ (m : ℕ). numbers m w.surface) (sym own) ∙ is.surface in
          same-equal s.window.surface n w.surface id (λ e. once w.surface id n (surface ∙ ap Some e) named)
          (λ e. some-same s.window.surface n (sym surface ∙ ap (numbers client) e ∙ named))
          ∙ ap (λ (b : Bool). b && (w.surface == id)) (sym (sym (ap (λ (m : ℕ). m == client) is.client) ∙ here))

  pub among : (ss : List Stacked) (ws : List Window) → AreStacked numbers ss ws
      → list_any (is_window_of client n) ss ≡ is_stacked (record { client = client; surface = id }) ws
  among = any-same numbers (is_window_of client n) (λ w. (w.owner.client == client) && (w.surface == id)) of-surface

-- What a viewer is told of the windows that are kept is what those of the desktop have.
use Rattle.std.proofs.Common.{◌≡◌, ℕ, ℤ, List, Option, Some, None, ap, ap₂, sym, subst, ◌∙◌, unwrap_or}
use Rattle.std.specs.Prelude.{IfNone, IfSome, IsSomeAnd, ◌≢◌, slice_get}
use Rattle.std.specs.Option.{option_map}
use Rattle.std.proofs.lemmas.Option.{slice_get-map}
use Rattle.spec_desktop.specs.Desktop.{Desktop}
use Rattle.spec_desktop.specs.Objects.{ById}
use Rattle.spec_desktop.specs.Stacked.{all_windows}
use Rattle.spec_desktop.specs.Windows.{Window}
use Rattle.wl_scene.specs.StackedAgreement.{AreNumberedOnce, AreStacked}
use Rattle.wl_scene.specs.Window.{IsTold}
use Rattle.wl_scene.specs.declared.window.Window.{Window as Told}
use Rattle.wl_clients.specs.Agreeing.{Agrees}
use Rattle.wl_clients.specs.Agreement.{Matches, numbers_in}
use Rattle.wl_clients.specs.Shown.{shown_of, shown_windows}
use Rattle.wl_clients.specs.View.{DeskView, MarkedDesk}
use Rattle.wl_clients.specs.declared.shown.ShownWindow.{ShownWindow}
use Rattle.wl_clients.proofs.Lending.{surfaces-lent}

-- what is told of a window, by the id of its surface
abbrev pub with_id : Told → ℕ → ShownWindow
with_id told id = record { client = told.surface.client; surface = id; x = told.x; y = told.y; width = told.w; height = told.h }

abbrev the-shown : Told → ℕ → ℤ → ℤ → ShownWindow
the-shown told id x y = record { client = told.surface.client; surface = id; x = x; y = y; width = told.w; height = told.h }

-- the same of a window
shown-told : (told : Told) (w : Window) (id : ℕ) → told.surface.client ≡ w.owner.client → id ≡ w.surface → told.x ≡ w.corner.x → told.y ≡ w.corner.y → told.w ≡ w.width → told.h ≡ w.height
    → shown_of w ≡ with_id told id
shown-told told w id client surface x y width height = cc

module _ (numbers : ℕ → ById ℕ) (once : (c : ℕ) → AreNumberedOnce (numbers c)) (told : Told) where
  -- the id of the surface of a window that is told of
  named-id : (w : Window) → IsTold numbers told w → (id : Option ℕ)
      → IfSome id (λ i. numbers told.surface.client i ≡ Some told.surface.surface)
      → IfNone id ((i : ℕ) → numbers told.surface.client i ≢ Some told.surface.surface)
      → unwrap_or id 0 ≡ w.surface
  named-id w is (Some i) some none =
      once told.surface.client i w.surface told.surface.surface some (ap (λ (c : ℕ). numbers c w.surface) is.client ∙ is.surface)
  named-id w is None some none = absurd (none w.surface (ap (λ (c : ℕ). numbers c w.surface) is.client ∙ is.surface))

  shown-some : (o : Option Window) → IsSomeAnd o (λ w. IsTold numbers told w) → (id : Option ℕ)
      → IfSome id (λ i. numbers told.surface.client i ≡ Some told.surface.surface)
      → IfNone id ((i : ℕ) → numbers told.surface.client i ≢ Some told.surface.surface)
      → option_map shown_of o ≡ Some (with_id told (unwrap_or id 0))
  shown-some None is id some none = absurd is
  shown-some (Some w) is id some none =
      ap Some (shown-told told w (unwrap_or id 0) is.client (named-id w is id some none) is.x is.y is.width is.height)

-- the window at a place, by the id of its surface
pub shown-at : (v : DeskView) (d : Desktop) → Matches v d → (k : ℕ) (told : Told) → IsSomeAnd (slice_get (all_windows d) k) (λ w. IsTold (numbers_in v.clients) told w)
    → (id : Option ℕ) → IfSome id (λ i. numbers_in v.clients told.surface.client i ≡ Some told.surface.surface)
    → IfNone id ((i : ℕ) → numbers_in v.clients told.surface.client i ≢ Some told.surface.surface)
    → slice_get (shown_windows d) k ≡ Some (with_id told (unwrap_or id 0))
shown-at v d a k told is id some none =
    slice_get-map shown_of (all_windows d) k
    ∙ shown-some (numbers_in v.clients) (λ c. (surfaces-lent v d a c).once) told (slice_get (all_windows d) k) is id some none

-- the same by what is kept, seen from within
pub shown-there : (inside v : MarkedDesk) → inside ≡ v → (d : Desktop) → Agrees v.desk d → (k : ℕ) (told : Told)
    → ((numbers : ℕ → ById ℕ) (ws : List Window) → AreStacked numbers inside.desk.pile.windows ws → IsSomeAnd (slice_get ws k) (λ w. IsTold numbers told w))
    → (id : Option ℕ) → IfSome id (λ i. numbers_in v.desk.clients told.surface.client i ≡ Some told.surface.surface)
    → IfNone id ((i : ℕ) → numbers_in v.desk.clients told.surface.client i ≢ Some told.surface.surface)
    → (surface : ℕ) → surface ≡ unwrap_or id 0 → (x y : ℤ) → x ≡ told.x → y ≡ told.y
    → slice_get (shown_windows d) k ≡ Some (record { client = told.surface.client; surface = surface; x = x; y = y; width = told.w; height = told.h })
shown-there inside v same d a k told is id some none surface gives x y across down =
    let there = is (numbers_in v.desk.clients) (all_windows d)
    (subst (λ (m : MarkedDesk). AreStacked (numbers_in v.desk.clients) m.desk.pile.windows (all_windows d)) (sym same) a.matches.windows) in
    shown-at v.desk d a.matches k told there id some none
    ∙ ap Some (ap (λ (i : ℕ). with_id told i) (sym gives)
    ∙ ap₂ (λ (v z : ℤ). the-shown told surface v z) (sym across) (sym down))

-- What the events of the pointer say, and the serials that they draw.
use Rattle.std.proofs.Common.{◌≡◌, ℕ, List, [], ◌∷◌, Bool, true, false, Option, Some, refl, ap, sym, ◌∙◌}
use Rattle.std.specs.Prelude.{ℤ, ◌&&◌, flat_map, if◌then◌else◌, is_some}
use Rattle.wl_client.specs.Pointers.{has_any, pointers_told, serial_after}
use Rattle.wl_client.specs.declared.pointers.PointerEvent.TheVariants.{Enter, Leave, Motion}
use Rattle.spec_desktop.specs.Pointer.{fixed_from}
use Rattle.spec_desktop.specs.Windows.{Place, Window}
use Rattle.wl_surface.specs.Surfaces.{history_in}
use Rattle.spec_desktop.specs.Changing.{drawing}
use Rattle.spec_desktop.specs.Desktop.{Resident}
use Rattle.spec_desktop.specs.Pointing.{entered_surface, has_pointers, left_surface, motion_at, motion_told}
use Rattle.spec_desktop.specs.Replies.{entered_at}
use Rattle.spec_desktop.specs.Settling.{leave_drawn, told_drawn}
use Rattle.wl_desk.proofs.Points.{IsAt}

-- ---- serials

-- the client with this serial
abbrev pub with_serial : ℕ → Resident → Resident
with_serial serial r = record r { peer = record r.peer { serial = serial } }

drawn-if : (b : Bool) (r : Resident) → drawing b r ≡ with_serial (if b then (drawing true r).peer.serial else r.peer.serial) r
drawn-if true r = refl
drawn-if false r = refl

any-pointers : (r : Resident) (ps : List ℕ) → has_pointers (record r { pointers = ps }) ≡ has_any ps
any-pointers r [] = refl
any-pointers r (p ∷ ps) = refl

drawn-so : (b : Bool) (r : Resident) → b ≡ has_any r.pointers → drawing b r ≡ with_serial (if has_any r.pointers then (drawing true r).peer.serial else r.peer.serial) r
drawn-so b r e = drawn-if b r ∙ ap (λ (c : Bool). with_serial (if c then (drawing true r).peer.serial else r.peer.serial) r) e

pub entered-draws : (surface : ℕ) (x y : ℤ) (r : Resident) → told_drawn r ≡ with_serial (serial_after (Enter surface x y) r.pointers r.peer.serial) r
entered-draws surface x y r = drawn-so (has_pointers r) r (any-pointers r r.pointers)

pub left-draws : (surface : ℕ) (r : Resident) → is_some (history_in surface r.owned.surfaces) ≡ true
    → leave_drawn surface r ≡ with_serial (serial_after (Leave surface) r.pointers r.peer.serial) r
left-draws surface r there =
    drawn-so (is_some (history_in surface r.owned.surfaces) && has_pointers r) r (ap (λ (b : Bool). b && has_pointers r) there ∙ any-pointers r r.pointers)

pub new-draws : (surface : ℕ) (x y : ℤ) (pointer : ℕ) (r : Resident) → drawing true r ≡ with_serial (serial_after (Enter surface x y) (pointer ∷ []) r.peer.serial) r
new-draws surface x y pointer r = refl

pub motion-draws : (time : ℕ) (x y : ℤ) (r : Resident) → r ≡ with_serial (serial_after (Motion time x y) r.pointers r.peer.serial) r
motion-draws time x y r = refl

-- a surface that isn't there isn't told
pub gone-draws : (surface : ℕ) (r : Resident) → is_some (history_in surface r.owned.surfaces) ≡ false → leave_drawn surface r ≡ r
gone-draws surface r gone = ap (λ (b : Bool). drawing (b && has_pointers r) r) gone

pub gone-says : (surface : ℕ) (r : Resident) → is_some (history_in surface r.owned.surfaces) ≡ false → left_surface surface r ≡ []
gone-says surface r gone = ap (λ (b : Bool). if b then pointers_told (Leave surface) r.peer.serial r.pointers else []) gone

-- ---- events

pub left-says : (surface : ℕ) (r : Resident) → is_some (history_in surface r.owned.surfaces) ≡ true → left_surface surface r ≡ pointers_told (Leave surface) r.peer.serial r.pointers
left-says surface r there = ap (λ (b : Bool). if b then pointers_told (Leave surface) r.peer.serial r.pointers else []) there

module _ (surface : ℕ) (x y : ℤ) (at : Option Place) (w : Option Window) (is : IsAt surface x y at w) (serial : ℕ) where
  abbrev corner_x : ℤ
  corner_x = fixed_from is.place.x is.window.corner.x

  abbrev corner_y : ℤ
  corner_y = fixed_from is.place.y is.window.corner.y

  enters : (ps : List ℕ) → flat_map (λ pointer. entered_at pointer serial at w) ps ≡ pointers_told (Enter surface x y) serial ps
  enters ps =
      ap (λ (a : Option Place). flat_map (λ pointer. entered_at pointer serial a w) ps) is.is_place
      ∙ ap (λ (o : Option Window). flat_map (λ pointer. entered_at pointer serial (Some is.place) o) ps) is.is_window
      ∙ ap (λ (n : ℕ). pointers_told (Enter n corner_x corner_y) serial ps) is.surface
      ∙ ap (λ (z : ℤ). pointers_told (Enter surface z corner_y) serial ps) (sym is.across)
      ∙ ap (λ (z : ℤ). pointers_told (Enter surface x z) serial ps) (sym is.down)

  -- one that is new is told alone
  pub enters-new : (pointer : ℕ) → entered_at pointer serial at w ≡ pointers_told (Enter surface x y) serial (pointer ∷ [])
  enters-new pointer =
      ap (λ (a : Option Place). entered_at pointer serial a w) is.is_place
      ∙ ap (λ (o : Option Window). entered_at pointer serial (Some is.place) o) is.is_window
      ∙ ap (λ (n : ℕ). pointers_told (Enter n corner_x corner_y) serial (pointer ∷ [])) is.surface
      ∙ ap (λ (z : ℤ). pointers_told (Enter surface z corner_y) serial (pointer ∷ [])) (sym is.across)
      ∙ ap (λ (z : ℤ). pointers_told (Enter surface x z) serial (pointer ∷ [])) (sym is.down)

  moves : (time : ℕ) (ps : List ℕ) → flat_map (motion_at time at w) ps ≡ pointers_told (Motion time x y) serial ps
  moves time ps =
      ap (λ (a : Option Place). flat_map (motion_at time a w) ps) is.is_place
      ∙ ap (λ (o : Option Window). flat_map (motion_at time (Some is.place) o) ps) is.is_window
      ∙ ap (λ (z : ℤ). pointers_told (Motion time z corner_y) serial ps) (sym is.across)
      ∙ ap (λ (z : ℤ). pointers_told (Motion time x z) serial ps) (sym is.down)

pub entered-says : (surface : ℕ) (x y : ℤ) (at : Option Place) (w : Option Window) → IsAt surface x y at w → (r : Resident)
    → entered_surface at w r ≡ pointers_told (Enter surface x y) r.peer.serial r.pointers
entered-says surface x y at w is r = enters surface x y at w is r.peer.serial r.pointers

pub motion-says : (surface time : ℕ) (x y : ℤ) (at : Option Place) (w : Option Window) → IsAt surface x y at w → (r : Resident)
    → motion_told time at w r ≡ pointers_told (Motion time x y) r.peer.serial r.pointers
motion-says surface time x y at w is r = moves surface x y at w is r.peer.serial time r.pointers

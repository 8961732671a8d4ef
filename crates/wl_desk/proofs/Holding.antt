-- The serial of the press that begins the present hold.
use Rattle.std.proofs.Common.{◌≡◌, ◌≢◌, ℕ, List, [], ◌∷◌, Bool, true, false, Option, Some, None, refl, ap, sym, ◌∙◌, arith}
use Rattle.std.proofs.lemmas.Bool.{eqb-true}
use Rattle.std.specs.Option.{option_map}
use Rattle.std.specs.Prelude.{◌==◌, if◌then◌else◌, length}
use Rattle.wl_client.specs.Pointers.{has_any}
use Rattle.spec_desktop.specs.Pointer.{Pointer, Target}
use Rattle.spec_desktop.specs.Desktop.{Desktop, Resident, client_at, status_of, unpointed}
use Rattle.spec_desktop.specs.Happens.{hold_from, press_serial, serial_for}
use Rattle.wl_desk.specs.Agreeing.{Agrees}
use Rattle.wl_desk.specs.View.{DeskView, seat_of}
use Rattle.wl_desk.proofs.Buttons.{has-any}
use Rattle.wl_desk.proofs.Forgetting.{focus-lives}
use Rattle.wl_desk.proofs.Quiet.{ended-bare}
use Rattle.law_desktop.proofs.Truth.{differ}

abbrev serial_if : Bool → Option Resident → Option ℕ
serial_if any r = if any then option_map (λ r. r.peer.serial) r else None

none-if : (any : Bool) → None ≡ serial_if any None
none-if true = refl
none-if false = refl

some-if : (any : Bool) (r : Resident) → (if any then Some r.peer.serial else None) ≡ serial_if any (Some r)
some-if true r = refl
some-if false r = refl

module _ (v : DeskView) (d : Desktop) (a : Agrees v d) (t : Target) (has : Some t ≡ v.pointer.focus) where
  focused : d.pointer.focus ≡ Some t
  focused = sym (has ∙ ap (λ (p : Pointer). p.focus) a.pointer)

  serial-at : (o : Option Resident) → client_at t.client d ≡ o → status_of o ≡ None → serial_for o ≡ serial_if (has_any (seat_of v.seats t.client)) o
  serial-at None there lives = none-if (has_any (seat_of v.seats t.client))
  serial-at (Some r) there lives =
      ap (λ (b : Bool). if b then Some r.peer.serial else None) (has-any r ∙ ap has_any (sym (a.seats t.client r there lives)))
      ∙ some-if (has_any (seat_of v.seats t.client)) r

  serial-so : press_serial d.pointer.focus d ≡ serial_if (has_any (seat_of v.seats t.client)) (client_at t.client d)
  serial-so =
      ap (λ (f : Option Target). press_serial f d) focused
      ∙ serial-at (client_at t.client d) refl (focus-lives d a.settled (ended-bare (unpointed d) a.kept.ordered) t focused)

  -- a client without wl_pointers isn't sent a press
  pub serial-none : (ps : List ℕ) → ps ≡ seat_of v.seats t.client → (empty : Bool) → empty ≡ (length ps == 0) → empty ≡ true → None ≡ press_serial d.pointer.focus d
  serial-none ps own empty is none = at ps (sym is ∙ none) (ap (λ (qs : List ℕ). serial_if (has_any qs) (client_at t.client d)) own ∙ sym serial-so)
    where
      at : (ps : List ℕ) → (length ps == 0) ≡ true → serial_if (has_any ps) (client_at t.client d) ≡ press_serial d.pointer.focus d → None ≡ press_serial d.pointer.focus d
      at [] e h = h
      at (p ∷ ps) e h =
          let same : length (p ∷ ps) ≡ 0 = eqb-true (length (p ∷ ps)) 0 e in
          let never : ⊥ = omega (arith, same) in
          absurd never

  pub serial-some : (ps : List ℕ) → ps ≡ seat_of v.seats t.client → ps ≢ [] → (serial : Option ℕ) → serial ≡ option_map (λ r. r.peer.serial) (client_at t.client d)
      → serial ≡ press_serial d.pointer.focus d
  serial-some ps own some serial is = at ps some (ap (λ (qs : List ℕ). serial_if (has_any qs) (client_at t.client d)) own ∙ sym serial-so)
    where
      at : (ps : List ℕ) → ps ≢ [] → serial_if (has_any ps) (client_at t.client d) ≡ press_serial d.pointer.focus d → serial ≡ press_serial d.pointer.focus d
      at [] some h = absurd (some refl)
      at (p ∷ ps) some h = is ∙ h

-- where nothing has the focus, nothing is sent
pub nobody-sent : (v : DeskView) (d : Desktop) → Agrees v d → None ≡ v.pointer.focus → None ≡ press_serial d.pointer.focus d
nobody-sent v d a none = ap (λ (f : Option Target). press_serial f d) (none ∙ ap (λ (p : Pointer). p.focus) a.pointer)

-- the first press begins the hold, and another one comes within it
pub first-holds : (v : DeskView) (d : Desktop) → Agrees v d → v.pointer.buttons ≡ [] → (serial : Option ℕ) → serial ≡ press_serial d.pointer.focus d
    → serial ≡ hold_from d.pointer.buttons d.pointer d
first-holds v d a none serial so =
    let free : d.pointer.buttons ≡ [] = sym (ap (λ (p : Pointer). p.buttons) a.pointer) ∙ none in
    so ∙ ap (λ (bs : List ℕ). hold_from bs d.pointer d) (sym free)

pub later-holds : (v : DeskView) (d : Desktop) → Agrees v d → v.pointer.buttons ≢ [] → v.pointer.hold ≡ hold_from d.pointer.buttons d.pointer d
later-holds v d a some =
    ap (λ (p : Pointer). p.hold) a.pointer ∙ at d.pointer.buttons (λ none. some (ap (λ (p : Pointer). p.buttons) a.pointer ∙ none))
  where
    at : (bs : List ℕ) → bs ≢ [] → d.pointer.hold ≡ hold_from bs d.pointer d
    at [] some = absurd (some refl)
    at (b ∷ bs) some = refl

pub not-empty : (ps : List ℕ) (empty : Bool) → empty ≡ (length ps == 0) → empty ≡ false → ps ≢ []
not-empty ps empty is full none = differ (sym full ∙ is ∙ ap (λ (qs : List ℕ). length qs == 0) none)

-- What a client is told of a button, and which serial it keeps.
use Rattle.std.proofs.Common.{◌≡◌, ℕ, List, [], ◌∷◌, Bool, true, false, Option, Some, refl, ap, ◌∙◌}
use Rattle.std.specs.Prelude.{if◌then◌else◌}
use Rattle.wl_client.specs.Pointers.{has_any, pointers_told}
use Rattle.wl_client.specs.declared.pointers.PointerEvent.TheVariants.{Button}
use Rattle.spec_desktop.specs.Changing.{drawing}
use Rattle.spec_desktop.specs.Desktop.{Resident, client_at}
use Rattle.spec_desktop.specs.Pointing.{button_told, has_pointers}
use Rattle.spec_desktop.specs.Settling.{Midstep, noted, noted_if, number_of}
use Rattle.wl_clients.specs.Pointing.{IsTold}
use Rattle.wl_desk.specs.Midway.{IsToldOf}
use Rattle.wl_desk.proofs.Telling.{told-each}

any-pointers : (r : Resident) (ps : List ℕ) → has_pointers (record r { pointers = ps }) ≡ has_any ps
any-pointers r [] = refl
any-pointers r (p ∷ ps) = refl

-- a client has wl_pointers
pub has-any : (r : Resident) → has_pointers r ≡ has_any r.pointers
has-any r = any-pointers r r.pointers

-- the client with the next serial, where one was drawn, and with these serials of its latest press and release
abbrev drawn_with : Bool → Option ℕ → Option ℕ → Resident → Resident
drawn_with b press release r =
    record r {
      peer = record r.peer { serial = if b then (drawing true r).peer.serial else r.peer.serial };
      press = press;
      release = release;
    }

abbrev Changes : Bool → Resident → Type 0
Changes pressed r = (press : Option ℕ) × (release : Option ℕ) × (noted_if (has_pointers r) pressed r ≡ drawn_with (has_any r.pointers) press release r)

module _ (r : Resident) where
  noted-any : (pressed : Bool) → has_pointers (noted pressed r) ≡ has_any r.pointers
  noted-any true = has-any (noted true r)
  noted-any false = has-any (noted false r)

  draws : (pressed b : Bool) → has_any r.pointers ≡ b → noted_if b pressed r ≡ (if b then drawing true (noted pressed r) else r)
  draws pressed false e = refl
  draws pressed true e = ap (λ (c : Bool). drawing c (noted pressed r)) (noted-any pressed ∙ e)

  changes-by : (pressed b : Bool) → has_any r.pointers ≡ b
      → (press : Option ℕ) × (release : Option ℕ) × ((if b then drawing true (noted pressed r) else r) ≡ drawn_with b press release r)
  changes-by pressed false e = (r.press, r.release, refl)
  changes-by true true e = (Some r.peer.serial, r.release, refl)
  changes-by false true e = (r.press, Some r.peer.serial, refl)

  changes : (pressed : Bool) → Changes pressed r
  changes pressed =
      let by = changes-by pressed (has_any r.pointers) refl in
      (by.0, by.1, ap (λ (b : Bool). noted_if b pressed r) (has-any r) ∙ draws pressed (has_any r.pointers) refl ∙ by.2)

says : (time button : ℕ) (pressed : Bool) (r : Resident) → button_told time button (number_of pressed) r ≡ pointers_told (Button time button pressed) r.peer.serial r.pointers
says time button true r = refl
says time button false r = refl

pub told-button : (time button : ℕ) (pressed : Bool) (r : Resident)
    → IsTold (Button time button pressed) r.pointers r (noted_if (has_pointers r) pressed r) (button_told time button (number_of pressed) r)
told-button time button pressed r =
    let c = changes r pressed in
    record { press = c.0; release = c.1; changes = c.2; told = says time button pressed r }

pub button-of : (time button c : ℕ) (pressed : Bool) (m : Midstep)
    → IsToldOf (Button time button pressed) (λ r. noted_if (has_pointers r) pressed r) (button_told time button (number_of pressed)) (client_at c m.desktop)
button-of time button c pressed m =
    told-each (Button time button pressed) (λ r. noted_if (has_pointers r) pressed r) (button_told time button (number_of pressed)) (told-button time button pressed)
    (client_at c m.desktop)

-- The pointer: where it is, what is pressed, and which surface has its focus (wayland.xml, wl_pointer).
use Rattle.std.specs.Prelude.{ℕ, ℤ, pos, negsuc, ◌-ℤ◌, ◌*ℤ◌, ◌==◌, ◌&&◌, int_lt, nat_le, Bool, true, false, if◌then◌else◌, Option, Some}
use Rattle.std.specs.Prelude.{None, List, [], ◌∷◌, length, filter, not}
use Rattle.std.specs.List.{list_any}
use Rattle.spec_desktop.specs.Windows.{Place, Window, hit}

-- a surface of a client
pub record Target : Type 0 where
  pub client : ℕ
  pub surface : ℕ

-- The pointer: its place, once it has one; the buttons that are down; the serial of the press that began the present hold, where it was
-- sent; the surface that has the focus; and the toplevel that is moved.
pub record Pointer : Type 0 where
  pub place : Option Place
  pub buttons : List ℕ
  pub hold : Option ℕ
  pub focus : Option Target
  pub move : Option Target

-- it isn't anywhere
abbrev pub first_pointer : Pointer
first_pointer = record { place = None; buttons = []; hold = None; focus = None; move = None }

abbrev pub is_down : ℕ → List ℕ → Bool
is_down button buttons = list_any (λ other. other == button) buttons

-- A press counts unless the button is down already or 16 are; a release unless it isn't down.
abbrev pub is_press : ℕ → List ℕ → Bool
is_press button buttons = not (is_down button buttons) && not (nat_le 16 (length buttons))

abbrev pub without_button : ℕ → List ℕ → List ℕ
without_button button buttons = filter (λ other. not (other == button)) buttons

abbrev pub target_of : Option Window → Option Target
target_of None = None
target_of (Some w) = Some (record { client = w.owner.client; surface = w.surface })

-- what the pointer hits, once it has a place
abbrev pub hit_now : Option Place → List Window → Option Window
hit_now None ws = None
hit_now (Some place) ws = hit place.x place.y ws

abbrev pub hit_by : Option Place → List Window → Option Target
hit_by place ws = target_of (hit_now place ws)

abbrev pub is_stacked : Target → List Window → Bool
is_stacked t ws = list_any (λ w. (w.owner.client == t.client) && (w.surface == t.surface)) ws

abbrev pub kept_focus : Option Target → List Window → Option Target
kept_focus None ws = None
kept_focus (Some t) ws = if is_stacked t ws then Some t else None

-- The focus after a step: what the pointer hits, unless a button is down; then it stays, while its surface is among the windows.
abbrev pub settled_focus : List ℕ → Pointer → List Window → Option Target
settled_focus [] p ws = hit_by p.place ws
settled_focus (button ∷ buttons) p ws = kept_focus p.focus ws

abbrev pub settled : Pointer → List Window → Option Target
settled p ws = settled_focus p.buttons p ws

-- two surfaces are the same
abbrev pub is_same : Option Target → Option Target → Bool
is_same None None = true
is_same None (Some t) = false
is_same (Some s) None = false
is_same (Some s) (Some t) = (s.client == t.client) && (s.surface == t.surface)

-- A coordinate as it is told to a surface, a 24.8 fixed number: the point less the surface's corner, held to what such a number can say.
abbrev pub fixed_from : ℤ → ℤ → ℤ
fixed_from at corner = held (at -ℤ corner) *ℤ pos 256
  where
    held : ℤ → ℤ
    held z = if int_lt z (negsuc 8388607) then negsuc 8388607 else (if int_lt (pos 8388607) z then pos 8388607 else z)

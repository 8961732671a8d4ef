-- How a popup is found among what is kept.
use Rattle.std.specs.Prelude.{ℕ, nat_lt, Bool, true, if◌then◌else◌, Option, Some, None, [], ◌∷◌}
use Rattle.wl_shell.specs.Kept.{Book, Kept}
use Rattle.wl_shell.specs.declared.popups.Wanted.{Wanted}
use Rattle.wl_shell.specs.declared.popups.Wanted.TheVariants.{After, First, Grabbing, Under}
use Rattle.wl_shell.specs.PopupsKept.{dismissible, dismissible_grabbing, has_popup, number_of}

abbrev pub passes : Book → Wanted → Kept → Bool
passes book (After number) k = has_popup (λ popup. nat_lt number popup.number) k
passes book (Under id) k = dismissible book id k
passes book Grabbing k = dismissible_grabbing book k
passes book First k = has_popup (λ popup. true) k

-- the one number is better than the other
abbrev pub is_better : Wanted → ℕ → ℕ → Bool
is_better (After number) one other = nat_lt one other
is_better (Under id) one other = nat_lt other one
is_better Grabbing one other = nat_lt other one
is_better First one other = nat_lt one other

abbrev pub better_of : Wanted → Option (ℕ × ℕ) → ℕ × ℕ → Option (ℕ × ℕ)
better_of wanted None one = Some one
better_of wanted (Some found) one = if is_better wanted one.0 found.0 then Some one else Some found

abbrev pub next_found : Book → Wanted → Option (ℕ × ℕ) → ℕ × Kept → Option (ℕ × ℕ)
next_found book wanted found e = if passes book wanted e.1 then better_of wanted found (number_of e.1, e.0) else found

-- with this one found, and these to be looked at
abbrev pub picked : Book → Wanted → Option (ℕ × ℕ) → Book → Option (ℕ × ℕ)
picked book wanted found [] = found
picked book wanted found (e ∷ es) = picked book wanted (next_found book wanted found e) es

-- The numbers of popups under other names of a client's surfaces.
use Rattle.std.proofs.Common.{◌≡◌, ℕ, ◌==◌, ◌||◌, List, [], ◌∷◌, map, refl, ap, subst, sym, ◌∙◌}
use Rattle.std.specs.List.{list_any}
use Rattle.wl_shell.specs.InOrder.{AreRising}
use Rattle.wl_shell.specs.Popups.{Popped, popups_of}
use Rattle.law_desktop.specs.NamedPopups.{RisingNamed, renamed_popped}
use Rattle.law_desktop.proofs.PopupsByNames.Popped.{popups-named}

any-same : (f : ℕ → ℕ) (number : ℕ) (ps : List Popped) → list_any (λ (q : Popped). q.popup.number == number) (map (renamed_popped f) ps) ≡ list_any (λ (q : Popped). q.popup.number == number) ps
any-same f number [] = refl
any-same f number (p ∷ ps) = ap (λ b. (p.popup.number == number) || b) (any-same f number ps)

rising-still : (f : ℕ → ℕ) (ps : List Popped) → AreRising ps → AreRising (map (renamed_popped f) ps)
rising-still f [] rising = tt
rising-still f (p ∷ ps) rising = (λ number is. rising.0 number (sym (any-same f number ps) ∙ is), rising-still f ps rising.1)

pub rising-named : RisingNamed
rising-named f shell rising = subst AreRising (sym (popups-named f shell)) (rising-still f (popups_of shell) rising)

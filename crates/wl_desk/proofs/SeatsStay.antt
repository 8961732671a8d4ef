-- A step that isn't a message, and in which nobody comes, leaves the wl_pointers as they are.
use Rattle.std.proofs.Common.{◌≡◌, ◌≢◌, ℕ, List, true, sym, ◌∙◌, inl, inr}
use Rattle.std.specs.Prelude.{Ok}
use Rattle.spec_desktop.specs.declared.answers.Done.TheVariants as gave
use Rattle.spec_desktop.specs.Act.{Connect, Leave}
use Rattle.spec_desktop.specs.Desktop.{Desktop, unpointed}
use Rattle.spec_desktop.specs.Happenings.{Happening, Leads, Message, Single, Starve}
use Rattle.law_desktop.specs.Pointed.Happenings.{IsEndOf}
use Rattle.law_desktop.specs.Pointed.Seats.{HasPointersAfter}
use Rattle.law_desktop.proofs.PointerAside.Pointing.{pointers-stay}
use Rattle.wl_desk.specs.Agreeing.{AreSeats}
use Rattle.wl_desk.specs.View.{seat_of}

-- it isn't a message, and nobody comes
abbrev pub KeepsSeats : Happening → Type 0
KeepsSeats h = (c : ℕ) → (h ≢ Message c) × (h ≢ Single Connect (gave.Connect (Ok c)))

pub seats-stay : (seats : List (List ℕ)) (h : Happening) (d : Desktop) (path : List Desktop) (e : Desktop) → KeepsSeats h → AreSeats seats d → Leads h (unpointed d) path e → AreSeats seats e
seats-stay seats h d path e keeps are leads c q there lives = at (pointers-stay h (unpointed d) path e c q leads there lives)
  where
    at : HasPointersAfter h (unpointed d) c q → seat_of seats c ≡ q.pointers
    at (inl had) = are c had.0 had.1 had.2 ∙ sym had.3
    at (inr (inl asked)) = absurd ((keeps c).0 asked.5)
    at (inr (inr came)) = absurd ((keeps c).1 came.0)

pub end-keeps-seats : (c : ℕ) (h : Happening) → IsEndOf c h → KeepsSeats h
end-keeps-seats c h (inl starves) k = (λ e. message-starve (sym e ∙ starves), λ e. single-starve (sym e ∙ starves))
  where
    message-starve : Message k ≡ Starve c → ⊥
    message-starve e = absurd (cc)

    single-starve : Single Connect (gave.Connect (Ok k)) ≡ Starve c → ⊥
    single-starve e = absurd (cc)
end-keeps-seats c h (inr leaves) k = (λ e. message-leave (sym e ∙ leaves), λ e. connect-leave (sym e ∙ leaves))
  where
    message-leave : Message k ≡ Single (Leave c) (gave.Gone true) → ⊥
    message-leave e = absurd (cc)

    connect-leave : Single Connect (gave.Connect (Ok k)) ≡ Single (Leave c) (gave.Gone true) → ⊥
    connect-leave e = absurd (cc)

-- A toplevel is moved with the pointer: what is kept follows, and what is marked.
use Rattle.std.specs.Prelude.{ℕ, ℤ, ◌≡◌, Some}
use Rattle.wl_proto.specs.declared.interface.Interface.TheVariants.{WlSurface}
use Rattle.spec_desktop.specs.Objects.{ById}
use Rattle.law_desktop.specs.Ordered.{Ordered}
use Rattle.law_desktop.specs.Owning.{targets_in}
use Rattle.spec_desktop.specs.Desktop.{Desktop, Resident}
use Rattle.spec_desktop.specs.Pointing.{moved_standing}
use Rattle.wl_requests.specs.declared.residents.Resident.{Resident as Kept}
use Rattle.wl_clients.specs.declared.screen.screens.Screen.{Screen}
use Rattle.wl_clients.specs.Marking.{MarksAtLeast, MarksMost}
use Rattle.wl_clients.specs.Seats.{IsSeated}
use Rattle.wl_clients.specs.View.{pile_of}

-- the desktop on which the toplevel of this surface stands so far from where it did
abbrev pub with_moved : ℕ → ℕ → ℤ → ℤ → Desktop → Desktop
with_moved client surface x y d =
    record d { standing = moved_standing (record { client = client; surface = surface }) x y d.standing }

-- What is kept, and what is kept of the client, agree with the desktop on which the toplevel is moved of whose surface this is the number.
abbrev pub IsMoved : {A : Type 0} → ℕ → ℕ → ℤ → ℤ → Kept A → Screen A → Screen A → Type 0
IsMoved c number x y v old new =
    (others : ℕ → ById ℕ) (base d : Desktop) (r : Resident) (surface : ℕ) → IsSeated c others base v (pile_of old) d r
    → Ordered d → targets_in WlSurface v.client.objects surface ≡ Some number
    → IsSeated c others base v (pile_of new) (with_moved c surface x y d) r

-- What this step marks at least is to be painted too.
abbrev pub MarksMoved : {A : Type 0} → ℕ → ℕ → ℤ → ℤ → Kept A → Screen A → Screen A → Type 0
MarksMoved c number x y v old new =
    (others : ℕ → ById ℕ) (base d : Desktop) (r : Resident) (surface : ℕ) → IsSeated c others base v (pile_of old) d r
    → Ordered d → targets_in WlSurface v.client.objects surface ≡ Some number
    → MarksAtLeast d (with_moved c surface x y d) old.damage new.damage

-- No more is than it marks at most.
abbrev pub MarksMovedMost : {A : Type 0} → ℕ → ℕ → ℤ → ℤ → Kept A → Screen A → Screen A → Type 0
MarksMovedMost c number x y v old new =
    (others : ℕ → ById ℕ) (base d : Desktop) (r : Resident) (surface : ℕ)
    → old.damage.width ≡ d.output.width → old.damage.height ≡ d.output.height → IsSeated c others base v (pile_of old) d r
    → Ordered d → targets_in WlSurface v.client.objects surface ≡ Some number
    → MarksMost d (with_moved c surface x y d) old.damage new.damage

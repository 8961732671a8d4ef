-- A press raises a toplevel: what is kept follows, and what is marked.
use Rattle.std.specs.Prelude.{ℕ, ◌≡◌, if◌then◌else◌, Option, Some, None, List}
use Rattle.wl_proto.specs.declared.interface.Interface.TheVariants.{WlSurface}
use Rattle.spec_desktop.specs.Objects.{ById}
use Rattle.wl_paint.specs.Damage.{Damaged}
use Rattle.spec_desktop.specs.Pointer.{Target}
use Rattle.spec_desktop.specs.Stacking.{Standing, raised}
use Rattle.law_desktop.specs.Ordered.{Ordered}
use Rattle.law_desktop.specs.Owning.{targets_in}
use Rattle.spec_desktop.specs.Desktop.{Desktop, Resident}
use Rattle.spec_desktop.specs.Through.{is_topmost}
use Rattle.wl_requests.specs.declared.residents.Resident.{Resident as Kept}
use Rattle.wl_clients.specs.declared.screen.screens.Screen.{Screen}
use Rattle.wl_clients.specs.Marking.{MarksAtLeast, MarksMostBy}
use Rattle.wl_clients.specs.Seats.{IsSeated}
use Rattle.wl_clients.specs.View.{pile_of}

-- the desktop on which the toplevel of this surface is raised
abbrev pub with_raised : ℕ → ℕ → Desktop → Desktop
with_raised client surface d = record d { standing = raised client surface d.standing }

-- What is kept agrees with the desktop on which the toplevel is raised of whose surface this is the number.
abbrev pub IsRaised : {A : Type 0} → ℕ → ℕ → Screen A → Screen A → Type 0
IsRaised {A} c number old new =
    (v : Kept A) (others : ℕ → ById ℕ) (base d : Desktop) (r : Resident) (surface : ℕ) → IsSeated c others base v (pile_of old) d r
    → Ordered d → targets_in WlSurface v.client.objects surface ≡ Some number
    → IsSeated c others base v (pile_of new) (with_raised c surface d) r

-- What this step marks at least is to be painted too.
abbrev pub MarksRaised : {A : Type 0} → ℕ → ℕ → Screen A → Screen A → Type 0
MarksRaised {A} c number old new =
    (v : Kept A) (others : ℕ → ById ℕ) (base d : Desktop) (r : Resident) (surface : ℕ) → IsSeated c others base v (pile_of old) d r
    → Ordered d → targets_in WlSurface v.client.objects surface ≡ Some number
    → MarksAtLeast d (with_raised c surface d) old.damage new.damage

-- No more is than it marks at most: as one in which a press raised that toplevel, where it wasn't topmost; else as one in which no press
-- raised any.
abbrev pub MarksRaisedMost : {A : Type 0} → ℕ → ℕ → Screen A → Screen A → Type 0
MarksRaisedMost {A} c number old new =
    (v : Kept A) (others : ℕ → ById ℕ) (base d : Desktop) (r : Resident) (surface : ℕ)
    → old.damage.width ≡ d.output.width → old.damage.height ≡ d.output.height → IsSeated c others base v (pile_of old) d r
    → Ordered d → targets_in WlSurface v.client.objects surface ≡ Some number
    → MarksMostBy (if is_topmost c surface d.standing then None else Some (c, surface)) d (with_raised c surface d) old.damage new.damage

-- ---- a toplevel, if one is given

-- the stack with it on top of the others
abbrev pub raised_to : Option Target → List Standing → List Standing
raised_to None standing = standing
raised_to (Some t) standing = raised t.client t.surface standing

-- the toplevel that moved up then: one that wasn't topmost
abbrev pub moved_up : Option Target → List Standing → Option (ℕ × ℕ)
moved_up None standing = None
moved_up (Some t) standing = if is_topmost t.client t.surface standing then None else Some (t.client, t.surface)

-- A change from one desktop to another marks what it has to, and no more than it may where a press raised this toplevel.
abbrev pub MarksChange : Option (ℕ × ℕ) → Desktop → Desktop → Damaged → Damaged → Type 0
MarksChange raised d e old new = MarksAtLeast d e old new × MarksMostBy raised d e old new

-- What is told of a surface that is applied.
use Rattle.std.proofs.Common.{ℕ, Option, Some, None, refl}
use Rattle.wl_surface.specs.declared.applied.Change.{Change}
use Rattle.wl_surface.specs.Applied.{AreApplied, IsApplied}
use Rattle.wl_surface.specs.Kept.{Kept, StandsFor}
use Rattle.wl_surface.specs.Slots.{StandsAt}
use Rattle.wl_surface.specs.Surface.{Surface}

-- What stands for a surface tells of it. Without a surface nothing is told.
pub applied-some : {A : Type 0} (number : ℕ) (k : Kept) (at : Option Surface) (c : Change A) → StandsAt (Some k) at → ((s : Surface) → StandsFor k s → IsApplied number s.history c)
    → AreApplied number at (Some c)
applied-some number k None c t tells = absurd (t)
applied-some number k (Some s) c t tells = (c, refl, tells s t)

pub applied-none : (A : Type 0) (number : ℕ) (at : Option Surface) → StandsAt None at → AreApplied {A = A} number at None
applied-none A number None t = refl
applied-none A number (Some s) t = absurd (t)

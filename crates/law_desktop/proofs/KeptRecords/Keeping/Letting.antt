-- What holds of each buffer of lists holds of each of them together, and of each once.
use Rattle.std.proofs.Common.{◌≡◌, List, ◌∷◌, true, Option, Some, None, refl, eq-eqb, []}
use Rattle.std.specs.Prelude.{◌==◌, not}
use Rattle.wl_surface.specs.Request.{Buffer}
use Rattle.wl_surface.specs.Surface.{listed, names}
use Rattle.spec_desktop.specs.Step.{each_once}
use Rattle.law_desktop.proofs.Lists.Each.{Each, each-left}

pub each-once : (P : Buffer → Type 0) (bs : List Buffer) → Each P bs → Each P (each_once bs)
each-once P [] a = a
each-once P (b ∷ bs) a = (a.0, each-left P (λ c. not (c.number == b.number)) (each_once bs) (each-once P bs a.1))

-- ---- the buffers of a surface

pub named-so : (b : Buffer) → names b.number (Some b) ≡ true
named-so b = eq-eqb b.number b.number refl

pub listed-each : (P : Buffer → Type 0) (o : Option Buffer) → ((b : Buffer) → o ≡ Some b → P b) → Each P (listed o)
listed-each P None p = tt
listed-each P (Some b) p = (p b refl, tt)

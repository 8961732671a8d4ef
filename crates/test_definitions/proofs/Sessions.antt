-- Worked examples of which liars are forgotten, of the runs of a report and of what a viewer copies, computed on the definitions.
use Rattle.std.proofs.Common.{◌≡◌, ◌<◌, ℕ, List, [], ◌∷◌, true, false, refl, subst, sym, inl, inr, arith}
use Rattle.std.specs.Prelude.{◌==◌}
use Rattle.std.proofs.lemmas.Bool.{eqb-true}
use Rattle.spec_desktop.specs.Told.{Output}
use Rattle.wl_paint.specs.Damage.{Damaged}
use Rattle.wl_paint.specs.Frame.{Image}
use Rattle.spec_desktop.specs.Act.{Close}
use Rattle.spec_desktop.specs.Desktop.{empty}
use Rattle.spec_desktop.specs.Happenings.{Happening, Single}
use Rattle.spec_desktop.specs.declared.answers.Done.TheVariants as gave
use Rattle.spec_desktop.specs.Windows.{tree}
use Rattle.wl_session.specs.Events.{Event, Moment}
use Rattle.wl_session.specs.Liars.{HoldsLiars, gives_back, nobody}
use Rattle.wl_session.specs.Run.{AreInOrder, Film, IsBefore, in_runs}
use Rattle.wl_session.specs.Viewer.{Sight, copied}
use Rattle.wl_session.specs.declared.shots.Run.{Run}

-- ---- which liars are forgotten

-- client 1 had ended, and its number is given back
abbrev closed : Happening
closed = Single (Close 1) (gave.Close true)

-- a liar is forgotten with its number
pub row_forgotten : gives_back closed 1 ≡ true
row_forgotten = refl

-- not while it lives
pub row_forgotten-living : gives_back (Single (Close 1) (gave.Close false)) 1 ≡ false
row_forgotten-living = refl

-- nor is any other
pub row_forgotten-other : gives_back closed 2 ≡ false
row_forgotten-other = refl

-- a desktop without clients stays as it is
abbrev still : Output → Damaged → Image → Event
still output damage frame =
    let m : Moment = record { desktop = empty output; damage = damage; frame = frame } in
    record { happening = closed; before = m; path = []; after = m }

-- Where client 1 was the only liar, nobody is one after its number was given back.
pub row_honest : (output : Output) (damage : Damaged) (frame : Image) → HoldsLiars (still output damage frame) (λ c. c == 1) nobody
unfolding tree
row_honest output damage frame c free = ((λ x y. refl), (λ e. subst (λ n. gives_back closed n ≡ true) (sym (eqb-true c 1 e)) refl))

-- ---- runs

abbrev run : ℕ → ℕ → ℕ → Run
run x y w = record { x = x; y = y; w = w }

-- of row 0 the columns 1, 2 and 4
abbrev runs : List Run
runs = run 1 0 2 ∷ run 4 0 1 ∷ []

-- a run's last column is in it
pub row_run : in_runs runs 2 0 ≡ true
row_run = refl

-- the next one isn't
pub row_run-past : in_runs runs 3 0 ≡ false
row_run-past = refl

-- nor is the row below
pub row_run-below : in_runs runs 2 1 ≡ false
row_run-below = refl

-- with a gap between them they are in order
pub row_order : AreInOrder runs
row_order = ((inr (refl, omega arith), tt), (tt, tt))

-- runs that touch would be one, so they aren't in order
pub row_order-touching : IsBefore (run 1 0 2) (run 3 0 1) → ⊥
row_order-touching (inl above) = let e : 0 < 0 = above in omega arith
row_order-touching (inr beside) = let e : 3 < 3 = beside.1 in omega arith

-- ---- viewers

-- a frame of 2 by 1 whose report has the second pixel alone, which is red; its first one is green
abbrev film : Film
film = record { time = 7; runs = run 1 0 1 ∷ []; pixels = 0 ∷ 255 ∷ 0 ∷ 255 ∷ 0 ∷ 0 ∷ 255 ∷ 255 ∷ [] }

-- what a run holds is copied
pub row_copied : (sight : Sight) → copied 2 sight film 1 0 ≡ record { r = 255; g = 0; b = 0 }
row_copied sight = refl

-- whatever else a viewer held it keeps, though the frame has another colour there
pub row_copied-beside : (sight : Sight) → copied 2 sight film 0 0 ≡ sight 0 0
row_copied-beside sight = refl

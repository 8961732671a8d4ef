-- A store that is filled from a file, read by read.
use Rattle.std.proofs.Common.{◌≡◌, ◌<◌, ◌≤◌, ◌+◌, ℕ, List, [], ◌∷◌, length, sym, subst, inr, arith}
use Rattle.wl_session.specs.Course.{TakesCourse}
use Rattle.wl_session.specs.View.{SessionView}
use Rattle.spec_desktop.specs.Act.{Act}
use Rattle.spec_desktop.specs.Act as act
use Rattle.spec_desktop.specs.declared.answers.Done.{Done}
use Rattle.wl_recording.specs.declared.place.Place.{Place}
use Rattle.wl_recording.specs.Side.{Files}
use Rattle.wl_replay.specs.Storing.{Fills, FillsAll, Puts, more}
use Rattle.wl_replay.specs.Told.{Stage, Stands}
use Rattle.wl_replay.proofs.Stages.{stands-on, steps-on, after as after-step}

abbrev pub at_byte : Place → ℕ → Place
at_byte place at = record { client = place.client; store = place.store; at = at }

-- one read more, which gave something
pub Fills-more : {S : Type 0} (files : Files S) (place : Place) (size : ℕ) (first : Stage) (opened : S) (at count : ℕ) (mid : Stage) (from to : S) (bytes : List ℕ)
    (before after : SessionView) → Fills files place size first opened at mid from → Stands before mid → length bytes ≡ count → (count ≡ 0 → ⊥) → count ≤ 4096 → at + count ≤ size
    → files.gives from bytes to → Puts (at_byte place at) bytes before after
    → (e : Stage) × Fills files place size first opened (at + count) e to × Stands after e
Fills-more files place size first opened at count mid from to [] before after fills agrees is some few room gives puts = absurd (some (sym is))
Fills-more files place size first opened at count mid from to (b ∷ bytes) before after fills agrees is some few room gives puts =
    let write : Act = act.Store place.client place.store at (b ∷ bytes) in
    let course = puts.1 mid.now.desktop agrees.desk in
    let next : Stage = after-step write puts.0 before after mid course in (
      next,
      subst (λ (n : ℕ). Fills files place size first opened (at + n) next to) is
          (more at mid next from to (b ∷ bytes) puts.0 fills (λ e. cc) (rw is few) (rw is room) gives (steps-on write puts.0 before after mid agrees course)),
      stands-on write puts.0 before after mid agrees course,
    )

-- a read that gave nothing
pub FillsAll-end : {S : Type 0} (files : Files S) (place : Place) (size : ℕ) (first : Stage) (opened : S) (at count : ℕ) (mid : Stage) (from to : S) (bytes : List ℕ)
    (before after : SessionView) → Fills files place size first opened at mid from → Stands before mid → length bytes ≡ count → count ≡ 0 → at < size
    → files.gives from bytes to → Puts (at_byte place at) bytes before after → (e : Stage) × FillsAll files place size first opened e to × Stands after e
FillsAll-end files place size first opened at count mid from to [] before after fills agrees is none room gives puts =
    (mid, (at, from, fills, inr (room, gives)), subst (λ (v : SessionView). Stands v mid) (sym puts) agrees)
FillsAll-end files place size first opened at count mid from to (b ∷ bytes) before after fills agrees is none room gives puts = absurd (omega (arith, is, none))

pub Puts-some : (place : Place) (bytes : List ℕ) (old new : SessionView) (done : Done) → 0 < length bytes
    → TakesCourse (act.Store place.client place.store place.at bytes) done old new → Puts place bytes old new
Puts-some place [] old new done some takes = absurd (omega (arith, some))
Puts-some place (b ∷ bytes) old new done some takes = (done, takes)

pub Puts-none : (place : Place) (bytes : List ℕ) (old new : SessionView) → length bytes ≡ 0 → new ≡ old → Puts place bytes old new
Puts-none place [] old new none same = same
Puts-none place (b ∷ bytes) old new none same = absurd (omega (arith, none))

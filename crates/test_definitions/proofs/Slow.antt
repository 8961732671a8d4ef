-- Clients that end since an event for them wasn't queued, computed on the definitions.
use Rattle.std.proofs.Common.{◌≡◌, [], ◌∷◌, Option, Some, None, refl}
use Rattle.std.specs.Prelude.{pos}
use Rattle.spec_desktop.specs.declared.cause.Cause.TheVariants.{Memory, Slow}
use Rattle.wl_surface.specs.Trees.{applied_tree, behaves_synchronised}
use Rattle.spec_desktop.specs.Windows.{tree}
use Rattle.law_desktop.specs.Ample.{done_so, ends_and_settles, gone_to, settles, settles_ends}
use Rattle.spec_desktop.specs.Ask.{Ignore}
use Rattle.spec_desktop.specs.Demand.{Asks}
use Rattle.spec_desktop.specs.Desktop.{Desktop, Resident, client_at}
use Rattle.test_definitions.proofs.Steps.{at, corners, enter, motion, status, unsent}
use Rattle.test_definitions.proofs.Pointer.{both}

-- the pointer comes where the second client's window stands above that of the first
abbrev over_both : Desktop
over_both = (gone_to (at (pos 35) (pos 35)) both).desktop

-- the second client is to end: it is told nothing more, it ends, and the window below is entered
abbrev one_slow : Desktop
one_slow = settles_ends (settles (record { desktop = over_both; struck = record { client = 2; cause = Slow } ∷ [] }))

pub row_one_slow : status 2 one_slow ≡ Some Slow
unfolding tree applied_tree behaves_synchronised
row_one_slow = refl

pub row_one_slow-told : unsent 2 one_slow ≡ []
unfolding tree applied_tree behaves_synchronised
row_one_slow-told = refl

pub row_one_slow-other : unsent 1 one_slow ≡ enter 13 2 6 35 35
unfolding tree applied_tree behaves_synchronised
row_one_slow-other = refl

pub row_one_slow-windows : corners one_slow ≡ at (pos 0) (pos 0) ∷ []
unfolding tree applied_tree behaves_synchronised
row_one_slow-windows = refl

-- those that a step's own change struck end before the focus is settled
abbrev both_end : Desktop
both_end =
    ends_and_settles (record { desktop = over_both; struck = record { client = 1; cause = Memory } ∷ record { client = 2; cause = Slow } ∷ [] })

pub row_both_end : status 1 both_end ≡ Some Memory
unfolding tree applied_tree behaves_synchronised
row_both_end = refl

pub row_both_end-second : status 2 both_end ≡ Some Slow
unfolding tree applied_tree behaves_synchronised
row_both_end-second = refl

pub row_both_end-told : unsent 1 both_end ≡ []
unfolding tree applied_tree behaves_synchronised
row_both_end-told = refl

-- a client that has the focus and isn't told the whole answer of its own request
abbrev half_told : Option Resident → Desktop → Desktop
half_told None d = d
half_told (Some r) d = done_so (r.peer, Some Slow) 2 (Asks Ignore) r d

abbrev both_entered : Desktop
both_entered = motion 1 (pos 35) (pos 35) both

abbrev own_slow : Desktop
own_slow = half_told (client_at 2 both_entered) both_entered

pub row_own_slow : status 2 own_slow ≡ Some Slow
unfolding tree applied_tree behaves_synchronised
row_own_slow = refl

pub row_own_slow-told : unsent 2 own_slow ≡ enter 13 2 6 3 3
unfolding tree applied_tree behaves_synchronised
row_own_slow-told = refl

pub row_own_slow-other : unsent 1 own_slow ≡ enter 13 2 6 35 35
unfolding tree applied_tree behaves_synchronised
row_own_slow-other = refl

-- What the promises of a step are worth.
use Rattle.std.specs.Prelude.{ℕ, Bool, List}
use Rattle.spec_desktop.specs.Desktop.{Desktop}
use Rattle.spec_desktop.specs.Happenings.{Happening, Leads}
use Rattle.spec_desktop.specs.Stacked.{all_windows}
use Rattle.spec_desktop.specs.Act.{Store}
use Rattle.spec_desktop.specs.Happens.{Happens}
use Rattle.spec_desktop.specs.declared.answers.Done.{Done}
use Rattle.wl_session.specs.Promises.{KeepBut, KeepsBuffers, KeepsDamage}
use Rattle.wl_session.specs.Unmarked.{AllDamageBut}

-- A client whose busy buffers keep their colours in a store write hides no change in it (wayland.xml, wl_buffer.release).
abbrev pub WriteHidesNothing : Type 0
WriteHidesNothing =
    (old new : Desktop) (client store at c : ℕ) (bytes : List ℕ) (done : Done)
    → Happens (Store client store at bytes) done old new
    → KeepsBuffers old new c
    → KeepsDamage all_windows old new c

-- In whatever may happen, one message at a time, whoever keeps its promises hides no change.
abbrev pub PromisesAreEnough : Type 0
PromisesAreEnough =
    (liars : ℕ → Bool) (happening : Happening) (old : Desktop) (path : List Desktop) (new : Desktop)
    → Leads happening old path new
    → KeepBut all_windows liars happening old new
    → AllDamageBut all_windows liars old new

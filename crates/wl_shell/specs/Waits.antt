-- Configures that wait, as they are kept.
use Rattle.std.specs.Prelude.{ℕ, Bool, true, false, List, Result, Ok, Err, None, slice_index_or}
use Rattle.wl_shell.specs.declared.error.ShellError.{ShellError}
use Rattle.wl_shell.specs.declared.error.ShellError.TheVariants.{TooMany}
use Rattle.wl_shell.specs.Shell.{Configure}

-- the serial of the configure at a place
abbrev pub serial_at : List Configure → ℕ → ℕ
serial_at configures place = (slice_index_or configures place (record { serial = 0; placement = None })).serial

-- one more may wait, unless as many wait as may
abbrev pub room_answer : Bool → Result Unit ShellError
room_answer true = Err TooMany
room_answer false = Ok tt

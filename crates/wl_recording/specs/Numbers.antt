-- The numbers of the errors of a replay.
use Rattle.std.specs.Prelude.{ℕ}
use Rattle.wl_recording.specs.declared.error.ReplayError.{ReplayError}
use Rattle.wl_recording.specs.declared.error.ReplayError.TheVariants.{Read, Write, BadLine, Side, Memory}

abbrev pub error_number : ReplayError → ℕ
error_number Read = 1
error_number Write = 2
error_number (BadLine line) = 3
error_number (Side line) = 4
error_number Memory = 5

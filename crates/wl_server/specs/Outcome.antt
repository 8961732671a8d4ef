-- What a call of the system came to.
use Rattle.std.specs.Prelude.{◌≡◌, ◌⊎◌, Result, Ok, Err, None, Some, Option, IsErr}
use Rattle.std.specs.IoError.{error_kind}
use Rattle.std.specs.declared.io.Error.{Error}
use Rattle.std.specs.declared.io.ErrorKind.{ErrorKind}
use Rattle.std.specs.declared.io.ErrorKind.TheVariants.{Interrupted, WouldBlock}

-- a call that failed so did nothing, since it would have waited or was cut off, and may be made again
abbrev pub IsPutOff : ErrorKind → Type 0
IsPutOff kind = (kind ≡ WouldBlock) ⊎ (kind ≡ Interrupted)

-- how a call is answered: what it gave, nothing where it was put off, and else a fault
abbrev pub Answers : {T E : Type 0} → Result T Error → Result (Option T) E → Type 0
Answers (Ok x) answer = answer ≡ Ok (Some x)
Answers (Err e) answer = (IsPutOff (error_kind e) → answer ≡ Ok None) × ((IsPutOff (error_kind e) → ⊥) → IsErr answer)

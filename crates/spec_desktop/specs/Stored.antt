-- What a write of a store answers.
use Rattle.std.specs.Prelude.{Option, Some, None, Result, Ok, Err}
use Rattle.wl_store.specs.declared.stores.StoreError.{StoreError}

-- what a write of a store answers
abbrev pub stored : Option StoreError → Result Unit StoreError
stored None = Ok tt
stored (Some error) = Err error

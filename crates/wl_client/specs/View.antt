-- What is kept of a client, as plain values.
use Rattle.std.specs.Prelude.{ℕ, List, [], Option, Some, None}
use Rattle.wl_geom.specs.Region.{Area}
use Rattle.wl_store.specs.Stores.{Stock}
use Rattle.wl_table.specs.Objects.{Held}
use Rattle.spec_desktop.specs.declared.cause.Cause.{Cause}
use Rattle.wl_client.specs.declared.outputs.Output.{Output}
use Rattle.spec_desktop.specs.Buffers.{Buffer}
use Rattle.wl_shell.specs.Positioner.{Positioner}

-- why it ended; why an event wasn't queued; how many requests were counted; the bytes that wait to be read and to be sent; the table of its
-- live objects; by their ids the regions, the stores of the pools, the buffers, and the values of the positioners; the stores; the next
-- serial; and the output that it is shown on
pub record ClientView : Type 0 where
  pub ended : Option Cause
  pub refused : Option Cause
  pub requests : ℕ
  pub rest : List ℕ
  pub unsent : List ℕ
  pub objects : Held
  pub regions : List (ℕ × Area)
  pub pools : List (ℕ × ℕ)
  pub buffers : List (ℕ × Buffer)
  pub positioners : List (ℕ × Positioner)
  pub stores : Stock
  pub serial : ℕ
  pub output : Output

-- nothing but what waits to be sent is kept of a client that ended
abbrev pub cleared : Cause → ClientView → ClientView
cleared cause v =
    record v {
      ended = Some cause;
      refused = None;
      rest = [];
      objects = [];
      regions = [];
      pools = [];
      buffers = [];
      positioners = [];
      stores = record { held = []; made = 0 };
    }

-- the same, as if no event had been refused
abbrev pub opened : ClientView → ClientView
opened v = record v { refused = None }

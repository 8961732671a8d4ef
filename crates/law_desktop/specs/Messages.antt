-- What a message of a client does to the windows: it changes those that are stacked with one toplevel, or none.
use Rattle.std.specs.Prelude.{ℕ, ◌-◌, ◌≡◌, Some, None, Ok, drop, take}
use Rattle.wl_wire.specs.Wire.{split_of}
use Rattle.wl_wire.specs.declared.header.Split.{Split}
use Rattle.wl_wire.specs.declared.header.Split.TheVariants.{Message as Whole, More, Bad}
use Rattle.spec_desktop.specs.Peer.{Peer}
use Rattle.spec_desktop.specs.Demand.{Demand}
use Rattle.spec_desktop.specs.Demanding.{judge_all}
use Rattle.spec_desktop.specs.Desktop.{Desktop, Resident, client_at, status_in}
use Rattle.spec_desktop.specs.Happens.{Serves}
use Rattle.spec_desktop.specs.Step.{with_peer}
use Rattle.law_desktop.specs.InOrder.{InOrder}
use Rattle.law_desktop.specs.Shown.{ShownStand}
use Rattle.law_desktop.specs.Done.{IsDone, touched_by}
use Rattle.law_desktop.specs.StackedWith.{ChangesAt}

-- the message at the front of what came is whole, and demands this
abbrev pub IsDemanded : Split → Resident → Demand → Type 0
IsDemanded (Whole object opcode size) r demand = judge_all r object opcode (take (size - 8) (drop 8 r.peer.rest)) ≡ Ok demand
IsDemanded Bad r demand = ⊥
IsDemanded More r demand = ⊥

-- A message of a client that lives on has changed the windows so: what it demands was done, whatever its client was told of it, and the
-- windows stacked with the toplevel of the tree that this touches are all that changed.
pub record MessageChanges (c : ℕ) (r : Resident) (d e : Desktop) : Type 0 where
  pub demand : Demand
  pub peer : Peer
  pub demanded : IsDemanded (split_of r.peer.rest) r demand
  pub done : IsDone c demand (with_peer peer r) d e
  pub changes : ChangesAt (touched_by demand r) c d e

-- So does each message wherever nobody points.
abbrev pub MessagesChangeOneToplevel : Type 0
MessagesChangeOneToplevel =
    (c : ℕ) (r : Resident) (d e : Desktop) → InOrder d → ShownStand d → client_at c d ≡ Some r → Serves c d e
    → status_in c e ≡ None → MessageChanges c r d e

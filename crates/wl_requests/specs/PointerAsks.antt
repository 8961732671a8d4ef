-- What the first message of a client asks of the pointer, by the numbers of its surfaces.
use Rattle.std.specs.Prelude.{ℕ, ◌≡◌, ◌-◌, Some, Result, Ok, Err, take, drop}
use Rattle.wl_wire.specs.Wire.{split_of}
use Rattle.wl_wire.specs.declared.header.Split.{Split}
use Rattle.wl_wire.specs.declared.header.Split.TheVariants.{Message as Whole, More, Bad}
use Rattle.wl_proto.specs.declared.interface.Interface.TheVariants.{WlSurface}
use Rattle.spec_desktop.specs.Objects.{ById}
use Rattle.spec_desktop.specs.declared.refusals.Refusal.{Refusal}
use Rattle.law_desktop.specs.Owning.{targets_in}
use Rattle.spec_desktop.specs.Demand.{Demand, GetPointer, Move}
use Rattle.spec_desktop.specs.Demanding.{judge_all}
use Rattle.spec_desktop.specs.Desktop.{Resident}
use Rattle.wl_requests.specs.declared.messages.Asked.{Asked}
use Rattle.wl_requests.specs.declared.messages.Asked.TheVariants as asks
use Rattle.wl_requests.specs.declared.messages.Kind.{Kind}
use Rattle.wl_requests.specs.declared.messages.Kind.TheVariants as kind
use Rattle.wl_requests.specs.declared.pointer_asked.PointerAsked.{PointerAsked}
use Rattle.wl_requests.specs.declared.pointer_asked.PointerAsked.TheVariants as pointer
use Rattle.wl_requests.specs.declared.residents.Resident.{Resident as Kept}
use Rattle.wl_requests.specs.declared.xdg_toplevel.ToplevelAsked.TheVariants as toplevel
use Rattle.wl_requests.specs.Residents.{IsResident}
use Rattle.wl_proto.specs.declared.wl_seat.WlSeatRequest.TheVariants as seat

-- wl_seat.get_pointer asks for a new wl_pointer with its id, and xdg_toplevel.move, by the serial of a press, to move the toplevel of a
-- surface; nothing else asks anything of the pointer.
abbrev pub AsksPointer : ById ℕ → Demand → PointerAsked → Type 0
AsksPointer numbers (GetPointer id version) asked = asked ≡ pointer.NewPointer id
AsksPointer numbers (Move surface serial) asked =
    (number : ℕ) × (numbers surface ≡ Some number) × (asked ≡ pointer.Move number serial)
AsksPointer numbers demand asked = asked ≡ pointer.Nothing

-- of what is refused nothing is said, since it ends the client
abbrev pub AsksPointerSo : ById ℕ → Result Demand Refusal → PointerAsked → Type 0
AsksPointerSo numbers (Ok demand) asked = AsksPointer numbers demand asked
AsksPointerSo numbers (Err refusal) asked = Unit {0}

abbrev pub AsksPointerFirst : ById ℕ → Split → Resident → PointerAsked → Type 0
AsksPointerFirst numbers (Whole object opcode size) r asked =
    AsksPointerSo numbers (judge_all r object opcode (take (size - 8) (drop 8 r.peer.rest))) asked
AsksPointerFirst numbers Bad r asked = Unit {0}
AsksPointerFirst numbers More r asked = Unit {0}

-- So does the first message of what came of a client that lives, whichever is stood for.
abbrev pub MessageAsksPointer : {A : Type 0} → Kept A → PointerAsked → Type 0
MessageAsksPointer v asked =
    (r : Resident) → IsResident v r → AsksPointerFirst (targets_in WlSurface v.client.objects) (split_of r.peer.rest) r asked

-- by the request, to an object with this target
abbrev pub pointer_asked_by : ℕ → Kind → PointerAsked
pointer_asked_by target (kind.Seat (seat.GetPointer id)) = pointer.NewPointer id
pointer_asked_by target (kind.Toplevel (toplevel.Move serial)) = pointer.Move target serial
pointer_asked_by target kind = pointer.Nothing

-- by what a message asks
abbrev pub pointer_in : Asked → PointerAsked
pointer_in (asks.Request object version size target kind) = pointer_asked_by target kind
pointer_in asked = pointer.Nothing

-- Requests and events are found in a stream.
use Rattle.std.proofs.Common.{◌≡◌, ℕ, ◌+◌, ◌-◌, List, ◌++◌, take, drop, length, get_or, sym, ◌∙◌, ap, arith}
use Rattle.std.proofs.Math.Seq.{take-append_seam}
use Rattle.std.proofs.lemmas.List.{get_or-drop}
use Rattle.wl_wire.specs.Wire.{Field, SpellsMessage}
use Rattle.wl_wire.specs.Laws.{AreBytes}
use Rattle.wl_wire.proofs.Found.{found, no_proper_prefix}
use Rattle.wl_proto.specs.Spelling.{decoded}
use Rattle.wl_proto.specs.Laws.{RequestsAreFound, EventsAreFound, NoRequestBeginsAnother, NoEventBeginsAnother}
use Rattle.wl_proto.proofs.Decoding.{spelled_decoded}

-- the body behind the header, whatever follows
body_of : (object opcode : ℕ) (fields : List Field) (bytes more : List ℕ) → (m : SpellsMessage object opcode fields bytes) → take (length bytes - 8) (drop 8 (bytes ++ more)) ≡ m.body
body_of object opcode fields bytes more m =
    let size : length bytes - 8 ≡ length m.body = omega (arith, ap length m.spelling) in
    ap (λ (u : ℕ). take u (drop 8 (bytes ++ more))) size
    ∙ ap (λ (u : List ℕ). take (length m.body) (drop 8 (u ++ more))) m.spelling
    ∙ take-append_seam m.body more

are_bytes : (object opcode : ℕ) (fields : List Field) (bytes : List ℕ) → AreBytes bytes → (m : SpellsMessage object opcode fields bytes) → AreBytes m.body
are_bytes object opcode fields bytes are m i =
    let e : get_or bytes (8 + i) 0 ≡ get_or m.body i 0 = sym (get_or-drop 8 bytes i 0) ∙ ap (λ (u : List ℕ). get_or (drop 8 u) i 0) m.spelling in
    omega (arith, e, are (8 + i))

pub requests_found : RequestsAreFound
requests_found object interface version opcode fields bytes more are is = record {
  header = found object opcode fields bytes more is.message;
  body =
      ap (decoded interface version opcode) (body_of object opcode fields bytes more is.message)
      ∙ spelled_decoded interface version opcode fields is.message.body (are_bytes object opcode fields bytes are is.message)
      (record { signature = is.signature; known = is.known; kinds = is.kinds; in_range = is.in_range; spelling = is.message.arguments });
}

pub events_found : EventsAreFound
events_found object event bytes more is = found object event.opcode event.fields bytes more is.message

pub no_request_again : NoRequestBeginsAnother
no_request_again object object' interface interface' version version' opcode opcode' fields fields' bytes more is is' =
    no_proper_prefix object opcode object' opcode' fields fields' bytes more is.message is'.message

pub no_event_again : NoEventBeginsAnother
no_event_again object object' event event' bytes more is is' =
    no_proper_prefix object event.opcode object' event'.opcode event.fields event'.fields bytes more is.message is'.message

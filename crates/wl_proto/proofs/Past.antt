-- An opcode past the last has no request.
use Rattle.std.proofs.Common.{◌≡◌, ℕ, ◌≤◌, List, length, Err, ap}
use Rattle.std.proofs.lemmas.Option.{slice_get_past}
use Rattle.wl_proto.specs.declared.interface.Interface.{Interface}
use Rattle.wl_proto.specs.declared.error.ProtoError.TheVariants.{NoMethod}
use Rattle.wl_proto.specs.Table.{requests_of, if_in_version}
use Rattle.wl_proto.specs.Spelling.{message_in, decoded}

pub past : (interface : Interface) (version opcode : ℕ) (body : List ℕ) → length (requests_of interface) ≤ opcode → decoded interface version opcode body ≡ Err NoMethod
past interface version opcode body h = ap (λ s. message_in interface opcode body (if_in_version version s)) (slice_get_past (requests_of interface) opcode h)

-- What a body says is what it spells.
use Rattle.std.proofs.Common.{◌≡◌, ℕ, List, Option, Some, None, Result, Ok, Err, IfOk, IsOkAnd, IsErrOf, refl, subst, ◌∙◌, ap, ◌↔◌}
use Rattle.wl_wire.specs.declared.error.ArgError.{ArgError}
use Rattle.wl_wire.specs.Wire.{Field, fields_at}
use Rattle.wl_wire.specs.Laws.{AreBytes}
use Rattle.wl_wire.proofs.ReadAgain.{read_as_spelled}
use Rattle.wl_proto.specs.declared.interface.Interface.{Interface}
use Rattle.wl_proto.specs.declared.error.ProtoError.{ProtoError}
use Rattle.wl_proto.specs.declared.error.ProtoError.TheVariants.{NoMethod}
use Rattle.wl_proto.specs.Table.{Signature, kinds_of, request_at}
use Rattle.wl_proto.specs.Messages.{Message, says}
use Rattle.wl_proto.specs.Spelling.{SpellsRequest, Gives, as_arguments, arguments_in, as_message, message_in, decoded}

-- what is read by the kinds of a signature
arguments_ok : (interface : Interface) (opcode : ℕ) (read : Result (List Field) ArgError) (m : Message) → as_message interface opcode (as_arguments read) ≡ Ok m → (fields : List Field)
    × (read ≡ Ok fields) × (says interface opcode fields ≡ m)
arguments_ok interface opcode (Ok fields) m e = (fields, refl, cc)
arguments_ok interface opcode (Err fault) m e = absurd (cc)

message_ok : (interface : Interface) (opcode : ℕ) (body : List ℕ) (known : Option Signature) (m : Message) → message_in interface opcode body known ≡ Ok m → (signature : Signature)
    × (known ≡ Some signature) × (as_message interface opcode (arguments_in (kinds_of signature.arguments) body) ≡ Ok m)
message_ok interface opcode body None m e = absurd (cc)
message_ok interface opcode body (Some signature) m e = (signature, refl, e)

-- the message is of the interface and the opcode, and the body spells it
abbrev pub IsDecoded : Interface → ℕ → ℕ → List ℕ → Message → Type 0
IsDecoded interface version opcode body m = (m.interface ≡ interface) × (m.opcode ≡ opcode) × SpellsRequest interface version opcode m.fields body

pub decoded_spelled : (interface : Interface) (version opcode : ℕ) (body : List ℕ) (m : Message) → AreBytes body → decoded interface version opcode body ≡ Ok m
    → IsDecoded interface version opcode body m
decoded_spelled interface version opcode body m are e =
    let a = message_ok interface opcode body (request_at interface version opcode) m e in
    let b = arguments_ok interface opcode (fields_at (kinds_of a.0.arguments) body) m a.2 in
    let spelled = (read_as_spelled (kinds_of a.0.arguments) b.0 body are).0 b.1 in
    subst (λ (u : Message). IsDecoded interface version opcode body u) b.2
    (refl, refl, record { signature = a.0; known = a.1; kinds = spelled.0; in_range = spelled.1; spelling = spelled.2 })

pub spelled_decoded : (interface : Interface) (version opcode : ℕ) (fields : List Field) (body : List ℕ) → AreBytes body → SpellsRequest interface version opcode fields body
    → decoded interface version opcode body ≡ Ok (says interface opcode fields)
spelled_decoded interface version opcode fields body are is =
    let read : fields_at (kinds_of is.signature.arguments) body ≡ Ok fields = (read_as_spelled (kinds_of is.signature.arguments) fields body are).1 (is.kinds, is.in_range, is.spelling) in
    ap (message_in interface opcode body) is.known
    ∙ ap (λ (u : Result (List Field) ArgError). as_message interface opcode (as_arguments u)) read

-- no method is answered exactly where the table has no request
arguments_bad : (interface : Interface) (opcode : ℕ) (read : Result (List Field) ArgError) → as_message interface opcode (as_arguments read) ≡ Err NoMethod → ⊥
arguments_bad interface opcode (Ok fields) e = cc
arguments_bad interface opcode (Err fault) e = cc

message_none : (interface : Interface) (opcode : ℕ) (body : List ℕ) (known : Option Signature) → message_in interface opcode body known ≡ Err NoMethod → known ≡ None
message_none interface opcode body None e = refl
message_none interface opcode body (Some signature) e = absurd (arguments_bad interface opcode (fields_at (kinds_of signature.arguments) body) e)

pub no_method : (interface : Interface) (version opcode : ℕ) (body : List ℕ) → (decoded interface version opcode body ≡ Err NoMethod) ↔ (request_at interface version opcode ≡ None)
no_method interface version opcode body = (
  λ e. message_none interface opcode body (request_at interface version opcode) e,
  λ e. ap (message_in interface opcode body) e,
)

-- ---- from what a call gives

pub given_ok : {T : Type 0} (view : T → Message) (result : Result T ProtoError) (answer : Result Message ProtoError) (P : Message → Type 0) → ((m : Message) → answer ≡ Ok m → P m)
    → Gives view result answer → IfOk result (λ r. P (view r))
given_ok view (Ok r) answer P all is = all (view r) is
given_ok view (Err fault) answer P all is = tt

pub given_each : {T : Type 0} (view : T → Message) (result : Result T ProtoError) (answer : Result Message ProtoError) (m : Message) → answer ≡ Ok m → Gives view result answer
    → IsOkAnd result (λ r. view r ≡ m)
given_each view (Ok r) answer m e is = cc
given_each view (Err fault) answer m e is = absurd (cc)

pub given_fault : {T : Type 0} (view : T → Message) (result : Result T ProtoError) (answer : Result Message ProtoError) (P : Type 0) → (answer ≡ Err NoMethod) ↔ P → Gives view result answer
    → IsErrOf result NoMethod ↔ P
given_fault view (Ok r) answer P iff is = (λ e. absurd (cc), λ p. let e : answer ≡ Err NoMethod = iff.1 p in absurd (cc))
given_fault view (Err fault) answer P iff is = (λ e. iff.0 (cc), λ p. let e : answer ≡ Err NoMethod = iff.1 p in cc)

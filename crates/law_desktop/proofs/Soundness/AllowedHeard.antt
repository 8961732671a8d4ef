-- What is known of a message that is judged: its object is of its interface, its arguments are of their kinds, they name live objects, and its
-- new id is free.
use Rattle.std.proofs.Common.{◌≡◌, ℕ, List, ◌∷◌, Bool, true, false, Option, Some, None, Result, refl, ap, sym, subst, map, []}
use Rattle.std.specs.Prelude.{Ok, Err, ◌==◌, if◌then◌else◌, nat_le, slice_get}
use Rattle.std.specs.List.{list_all}
use Rattle.wl_wire.specs.declared.error.ArgError.{ArgError}
use Rattle.wl_wire.specs.Wire.{Field, Word, Text, Kind, AWord, AText, fields_at, kind_of}
use Rattle.wl_proto.specs.declared.argument.NewId.{NewId}
use Rattle.wl_proto.specs.declared.error.ProtoError.{ProtoError}
use Rattle.wl_proto.specs.declared.interface.Interface.{Interface}
use Rattle.wl_proto.specs.Messages.{Message}
use Rattle.wl_proto.specs.Objects.{new_id_by, new_id_in, new_id_of, objects_by, objects_of, objects_in as objects_named}
use Rattle.wl_proto.specs.Spelling.{arguments_in, as_arguments, as_message, decoded, message_in}
use Rattle.wl_proto.specs.Table.{Argument, AUint, AnObject, ANewId, ANewObject, Signature, is_in_version, if_in_version, kinds_of, requests_of}
use Rattle.spec_desktop.specs.declared.refusals.ErrorCode.TheVariants.{Implementation, InvalidObject}
use Rattle.spec_desktop.specs.declared.refusals.Refusal.{Refusal}
use Rattle.spec_desktop.specs.Judgement.{after_new_id, is_free, judged, judged_at}
use Rattle.spec_desktop.specs.Requests.{word_in}
use Rattle.spec_desktop.specs.Objects.{Object, Objects, fits, interface_number, is_of}
use Rattle.spec_desktop.specs.Told.{display_error}
use Rattle.law_desktop.proofs.Soundness.Fields.{fields-kinds}
use Rattle.law_desktop.proofs.Marks.Stacks.{same-number}
use Rattle.law_desktop.proofs.Truth.{and-left}

-- the fields are of the kinds of a message's arguments
abbrev pub AreOfKinds : Option Signature → List Field → Type 0
AreOfKinds None fields = ⊥
AreOfKinds (Some signature) fields = map kind_of fields ≡ kinds_of signature.arguments

abbrev pub IsFresh : Objects → Option NewId → Type 0
IsFresh objects None = Unit {0}
IsFresh objects (Some new) = is_free objects new.id ≡ true

-- what is known of a message to an object
pub record IsHeard (objects : Objects) (object : ℕ) (interface : Interface) (opcode : ℕ) (fields : List Field) : Type 0 where
  pub live : is_of interface (objects object) ≡ true
  pub kinds : AreOfKinds (slice_get (requests_of interface) opcode) fields
  pub named : list_all (fits objects) (objects_by (slice_get (requests_of interface) opcode) fields) ≡ true
  pub fresh : IsFresh objects (new_id_by (slice_get (requests_of interface) opcode) fields)

-- ---- what a body says

same-ok : {X Y : Type 0} (x y : X) → (let r : Result X Y = Ok x in r) ≡ Ok y → x ≡ y
same-ok x y e = cc

arguments-kinds : (kinds : List Kind) (read : Result (List Field) ArgError) (fields : List Field) → ((ks : List Field) → read ≡ Ok ks → map kind_of ks ≡ kinds) → as_arguments read ≡ Ok fields
    → map kind_of fields ≡ kinds
arguments-kinds kinds (Ok ks) fields are e = are fields (ap (λ (ys : List Field). Ok ys) (same-ok ks fields e))
arguments-kinds kinds (Err fault) fields are e = absurd (cc)

message-interface : (interface : Interface) (opcode : ℕ) (read : Result (List Field) ProtoError) (m : Message) → as_message interface opcode read ≡ Ok m
    → (fields : List Field) × (read ≡ Ok fields) × (m ≡ record { interface = interface; opcode = opcode; fields = fields })
message-interface interface opcode (Ok fields) m e = (fields, refl, sym (same-ok _ m e))
message-interface interface opcode (Err fault) m e = absurd (cc)

-- the fields of a message of this interface and opcode
abbrev pub Says : Interface → ℕ → Message → Type 0
Says interface opcode m =
    (fields : List Field) × (m ≡ record { interface = interface; opcode = opcode; fields = fields }) × AreOfKinds (slice_get (requests_of interface) opcode) fields

signed-says : (interface : Interface) (opcode : ℕ) (body : List ℕ) (signature : Signature) (m : Message) → slice_get (requests_of interface) opcode ≡ Some signature
    → message_in interface opcode body (Some signature) ≡ Ok m → Says interface opcode m
signed-says interface opcode body signature m known e =
    let said = message-interface interface opcode (arguments_in (kinds_of signature.arguments) body) m e in
    let kinds = arguments-kinds (kinds_of signature.arguments) (fields_at (kinds_of signature.arguments) body) said.0 (λ ks f. fields-kinds (kinds_of signature.arguments) body ks f) said.1 in
    (said.0, said.2, subst (λ o. AreOfKinds o said.0) (sym known) kinds)

pub decoded-says : (interface : Interface) (version opcode : ℕ) (body : List ℕ) (m : Message) → decoded interface version opcode body ≡ Ok m → Says interface opcode m
decoded-says interface version opcode body m e = at (slice_get (requests_of interface) opcode) refl e
  where
    by : (b : Bool) (signature : Signature) → slice_get (requests_of interface) opcode ≡ Some signature → message_in interface opcode body (if b then Some signature else None) ≡ Ok m
        → Says interface opcode m
    by true signature known e = signed-says interface opcode body signature m known e
    by false signature known e = absurd (cc)

    at : (o : Option Signature) → slice_get (requests_of interface) opcode ≡ o → message_in interface opcode body (if_in_version version o) ≡ Ok m → Says interface opcode m
    at None known e = absurd (cc)
    at (Some signature) known e = by (is_in_version version signature.since) signature known e

-- ---- the judgement

-- what an accepted message asks, what it says, and what is known of it
abbrev pub Hears : {X : Type 0} → Objects → ℕ → ℕ → (ℕ → Message → Result X Refusal) → X → Type 0
Hears objects object opcode asks x =
    (o : Object) × (fields : List Field) × IsHeard objects object o.interface opcode fields
    × (asks o.version (record { interface = o.interface; opcode = opcode; fields = fields }) ≡ Ok x)

limit-fresh : {X : Type 0} (b : Bool) (refusal : Refusal) (asked : Result X Refusal) (x : X) → (if b then Err refusal else asked) ≡ Ok x → asked ≡ Ok x
limit-fresh true refusal asked x e = absurd (cc)
limit-fresh false refusal asked x e = e

new-fresh : {X : Type 0} (objects : Objects) (held : ℕ) (new : Option NewId) (asked : Result X Refusal) (x : X) → after_new_id objects held new asked ≡ Ok x → IsFresh objects new × (asked ≡ Ok x)
new-fresh objects held None asked x e = (tt, e)
new-fresh {X = X} objects held (Some new) asked x e = at (is_free objects new.id) refl e
  where
    at : (b : Bool) → is_free objects new.id ≡ b → (if b then (if nat_le 8192 held then Err (display_error Implementation) else asked) else Err (display_error InvalidObject)) ≡ Ok x
        → IsFresh objects (Some new) × (asked ≡ Ok x)
    at true free e = (free, limit-fresh (nat_le 8192 held) _ asked x e)
    at false free e = absurd (cc)

fit-named : {X : Type 0} (b : Bool) (asked : Result X Refusal) (refusal : Refusal) (x : X) → (if b then asked else Err refusal) ≡ Ok x → (b ≡ true) × (asked ≡ Ok x)
fit-named true asked refusal x e = (refl, e)
fit-named false asked refusal x e = absurd (cc)

-- the object of a live one's interface
live-of : (o : Object) → is_of o.interface (Some o) ≡ true
live-of o = same-number (interface_number o.interface)

said-heard : {X : Type 0} (objects : Objects) (held object opcode : ℕ) (asks : ℕ → Message → Result X Refusal) (x : X) (o : Object) (m : Message) → objects object ≡ Some o → Says o.interface opcode m
    → judged objects held (asks o.version) (Ok m) ≡ Ok x → Hears objects object opcode asks x
said-heard {X = X} objects held object opcode asks x o m there says e =
    let so = subst (λ (n : Message). judged objects held (asks o.version) (Ok n) ≡ Ok x) says.1 e in
    let said : Message = record { interface = o.interface; opcode = opcode; fields = says.0 } in
    let fit = fit-named (list_all (fits objects) (objects_named said)) _ _ x so in
    let new = new-fresh objects held (new_id_in said) (asks o.version said) x fit.1 in
    (o, says.0, record { live = subst (λ p. is_of o.interface p ≡ true) (sym there) (live-of o); kinds = says.2; named = fit.0; fresh = new.0 }, new.1)

-- what is known of an accepted message
pub judged-hears : {X : Type 0} (objects : Objects) (held object opcode : ℕ) (asks : ℕ → Message → Result X Refusal) (body : List ℕ) (x : X)
    → judged_at objects held asks opcode body (objects object) ≡ Ok x → Hears objects object opcode asks x
judged-hears {X = X} objects held object opcode asks body x e = at (objects object) refl e
  where
    by : (o : Object) (request : Result Message ProtoError) → objects object ≡ Some o → decoded o.interface o.version opcode body ≡ request → judged objects held (asks o.version) request ≡ Ok x
        → Hears objects object opcode asks x
    by o (Ok m) there is e = said-heard objects held object opcode asks x o m there (decoded-says o.interface o.version opcode body m is) e
    by o (Err fault) there is e = absurd (cc)

    at : (o : Option Object) → objects object ≡ o → judged_at objects held asks opcode body o ≡ Ok x → Hears objects object opcode asks x
    at None there e = absurd (cc)
    at (Some o) there e = by o (decoded o.interface o.version opcode body) there refl e

-- ---- what is known of single arguments

-- a new id in front
pub fresh-first : (objects : Objects) (interface : Option Interface) (arguments : List Argument) (kinds : List Kind) (fields : List Field) → map kind_of fields ≡ AWord ∷ kinds
    → IsFresh objects (new_id_of (ANewId interface ∷ arguments) fields) → is_free objects (word_in 0 fields) ≡ true
fresh-first objects interface arguments kinds (Word n ∷ fields) e fresh = fresh
fresh-first objects interface arguments kinds fields e fresh = absurd (cc)

-- the new id of wl_registry.bind
pub fresh-bound : (objects : Objects) (fields : List Field) → map kind_of fields ≡ AWord ∷ AText ∷ AWord ∷ AWord ∷ [] → IsFresh objects (new_id_of (AUint ∷ ANewObject ∷ []) fields)
    → is_free objects (word_in 3 fields) ≡ true
fresh-bound objects (first ∷ Text t ∷ Word v ∷ Word n ∷ fields) e fresh = fresh
fresh-bound objects fields e fresh = absurd (cc)

pub fit-here : (b : Bool) (x : Bool) → (if b then false else x) ≡ true → x ≡ true
fit-here true x e = absurd (cc)
fit-here false x e = e

-- an object that may not be null, behind a new id
pub named-second : (objects : Objects) (new : Option Interface) (interface : Interface) (arguments : List Argument) (kinds : List Kind) (fields : List Field)
    → map kind_of fields ≡ AWord ∷ AWord ∷ kinds → list_all (fits objects) (objects_of (ANewId new ∷ AnObject interface false ∷ arguments) fields) ≡ true
    → is_of interface (objects (word_in 1 fields)) ≡ true
named-second objects new interface arguments kinds (Word n ∷ Word id ∷ fields) e named =
    fit-here (id == 0) (is_of interface (objects id)) (and-left _ (list_all (fits objects) (objects_of arguments fields)) named)
named-second objects new interface arguments kinds fields e named = absurd (cc)

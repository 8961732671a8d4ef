-- A message that passes is judged by its own errors, whatever those are; one that doesn't is refused, whatever those are.
use Rattle.std.proofs.Common.{◌≡◌, ℕ, ◌-◌, List, length, take, drop, Bool, true, false, Option, Some, None, Result, refl, ap, sym, ◌∙◌}
use Rattle.std.specs.Option.{option_map}
use Rattle.std.specs.List.{list_all}
use Rattle.std.specs.Prelude.{Ok, Err, nat_le, if◌then◌else◌}
use Rattle.wl_proto.specs.declared.error.ProtoError.{ProtoError}
use Rattle.wl_proto.specs.declared.argument.NewId.{NewId}
use Rattle.wl_proto.specs.declared.argument.ObjectArg.{ObjectArg}
use Rattle.wl_proto.specs.Messages.{Message}
use Rattle.wl_proto.specs.Objects.{objects_in as objects_named, new_id_in}
use Rattle.wl_proto.specs.Spelling.{decoded}
use Rattle.spec_desktop.specs.declared.refusals.ErrorCode.TheVariants.{InvalidObject, InvalidMethod, Implementation}
use Rattle.spec_desktop.specs.declared.refusals.Refusal.{Refusal}
use Rattle.wl_wire.specs.Wire.{split_of}
use Rattle.wl_wire.specs.declared.header.Split.TheVariants.{Message as Whole}
use Rattle.wl_table.specs.Objects.{entry_of}
use Rattle.wl_table.specs.declared.entry.Entry.{Entry}
use Rattle.wl_client.specs.First.{IsRefused, passing}
use Rattle.wl_client.specs.View.{ClientView}
use Rattle.spec_desktop.specs.Judgement.{after_new_id, is_free, judged, judged_at}
use Rattle.spec_desktop.specs.Objects.{Object, Objects, fits, objects_in, object_of}
use Rattle.spec_desktop.specs.Told.{display_error}

-- ---- a new id

either-ok : {X Y : Type 0} (free full : Bool) (y z : Y) (asked : Result X Refusal)
    → (if free then (if full then Err (display_error Implementation) else Ok y) else Err (display_error InvalidObject)) ≡ Ok z
    → (if free then (if full then Err (display_error Implementation) else asked) else Err (display_error InvalidObject)) ≡ asked
either-ok true false y z asked h = refl
either-ok true true y z asked h = absurd (cc)
either-ok false full y z asked h = absurd (cc)

either-err : {X Y : Type 0} (free full : Bool) (y : Y) (refusal : Refusal) (asked : Result X Refusal)
    → (if free then (if full then Err (display_error Implementation) else Ok y) else Err (display_error InvalidObject)) ≡ Err refusal
    → (if free then (if full then Err (display_error Implementation) else asked) else Err (display_error InvalidObject)) ≡ Err refusal
either-err true false y refusal asked h = absurd (cc)
either-err true true y refusal asked h = ap Err (cc)
either-err false full y refusal asked h = ap Err (cc)

-- what another request asks comes where this one's does
pub new_id-passes : {X Y : Type 0} (objects : Objects) (held : ℕ) (new : Option NewId) (y z : Y) (asked : Result X Refusal) → after_new_id objects held new (Ok y) ≡ Ok z
    → after_new_id objects held new asked ≡ asked
new_id-passes objects held None y z asked h = refl
new_id-passes objects held (Some new) y z asked h = either-ok (is_free objects new.id) (nat_le 8192 held) y z asked h

pub new_id-refused : {X Y : Type 0} (objects : Objects) (held : ℕ) (new : Option NewId) (y : Y) (refusal : Refusal) (asked : Result X Refusal) → after_new_id objects held new (Ok y) ≡ Err refusal
    → after_new_id objects held new asked ≡ Err refusal
new_id-refused objects held None y refusal asked h = absurd (cc)
new_id-refused objects held (Some new) y refusal asked h = either-err (is_free objects new.id) (nat_le 8192 held) y refusal asked h

-- ---- the objects that it names

objects-pass : {X Y : Type 0} (fit : Bool) (objects : Objects) (held : ℕ) (new : Option NewId) (y z : Y) (asked : Result X Refusal)
    → (if fit then after_new_id objects held new (Ok y) else Err (display_error InvalidMethod)) ≡ Ok z
    → (if fit then after_new_id objects held new asked else Err (display_error InvalidMethod)) ≡ asked
objects-pass true objects held new y z asked h = new_id-passes objects held new y z asked h
objects-pass false objects held new y z asked h = absurd (cc)

objects-refused : {X Y : Type 0} (fit : Bool) (objects : Objects) (held : ℕ) (new : Option NewId) (y : Y) (refusal : Refusal) (asked : Result X Refusal)
    → (if fit then after_new_id objects held new (Ok y) else Err (display_error InvalidMethod)) ≡ Err refusal
    → (if fit then after_new_id objects held new asked else Err (display_error InvalidMethod)) ≡ Err refusal
objects-refused true objects held new y refusal asked h = new_id-refused objects held new y refusal asked h
objects-refused false objects held new y refusal asked h = ap Err (cc)

-- what passes is the message
objects-same : (fit : Bool) (objects : Objects) (held : ℕ) (new : Option NewId) (request m : Message)
    → (if fit then after_new_id objects held new (Ok request) else Err (display_error InvalidMethod)) ≡ Ok m → request ≡ m
objects-same fit objects held new request m h = let e : Result.Ok request ≡ Ok m = sym (objects-pass fit objects held new request m (Ok request) h) ∙ h in cc

-- ---- the message

decoded-passes : {X : Type 0} (objects : Objects) (held : ℕ) (asks : Message → Result X Refusal) (read : Result Message ProtoError) (m : Message)
    → judged objects held (λ request. Ok request) read ≡ Ok m → judged objects held asks read ≡ asks m
decoded-passes objects held asks (Err error) m h = absurd (cc)
decoded-passes objects held asks (Ok request) m h =
    objects-pass (list_all (fits objects) (objects_named request)) objects held (new_id_in request) request m (asks request) h
    ∙ ap asks (objects-same (list_all (fits objects) (objects_named request)) objects held (new_id_in request) request m h)

decoded-refused : {X : Type 0} (objects : Objects) (held : ℕ) (asks : Message → Result X Refusal) (read : Result Message ProtoError) (refusal : Refusal)
    → judged objects held (λ request. Ok request) read ≡ Err refusal → judged objects held asks read ≡ Err refusal
decoded-refused objects held asks (Err error) refusal h = ap Err (cc)
decoded-refused objects held asks (Ok request) refusal h =
    objects-refused (list_all (fits objects) (objects_named request)) objects held (new_id_in request) request refusal (asks request) h

-- a message that passes is judged by its own errors
pub judged-passing : {X : Type 0} (objects : Objects) (held : ℕ) (asks : ℕ → Message → Result X Refusal) (opcode : ℕ) (body : List ℕ) (o : Object) (m : Message)
    → passing objects held opcode body (Some o) ≡ Ok m → judged_at objects held asks opcode body (Some o) ≡ asks o.version m
judged-passing objects held asks opcode body o m h = decoded-passes objects held (asks o.version) (decoded o.interface o.version opcode body) m h

-- one that is refused before is refused so
pub judged-refused : {X : Type 0} (objects : Objects) (held : ℕ) (asks : ℕ → Message → Result X Refusal) (opcode : ℕ) (body : List ℕ) (o : Option Object) (refusal : Refusal)
    → passing objects held opcode body o ≡ Err refusal → judged_at objects held asks opcode body o ≡ Err refusal
judged-refused objects held asks opcode body None refusal h = ap Err (cc)
judged-refused objects held asks opcode body (Some o) refusal h = decoded-refused objects held (asks o.version) (decoded o.interface o.version opcode body) refusal h

-- it is refused by its new id
pub passing-refused : {Y : Type 0} (objects : Objects) (held opcode : ℕ) (body : List ℕ) (o : Object) (m : Message) (y : Y) (refusal : Refusal) → decoded o.interface o.version opcode body ≡ Ok m
    → list_all (fits objects) (objects_named m) ≡ true → after_new_id objects held (new_id_in m) (Ok y) ≡ Err refusal → passing objects held opcode body (Some o) ≡ Err refusal
passing-refused objects held opcode body o m y refusal read fit h = rw (read, fit) (new_id-refused objects held (new_id_in m) y refusal (Ok m) h)

-- the first message is refused by its new id
pub first-refused : (v : ClientView) (object opcode size : ℕ) (entry : Entry) (m : Message) (named : List ObjectArg) (new : Option NewId) (bytes : List ℕ) (refusal : Refusal)
    → split_of v.rest ≡ Whole object opcode size → Some entry ≡ entry_of v.objects object → bytes ≡ v.rest → decoded entry.interface entry.version opcode (take (size - 8) (drop 8 bytes)) ≡ Ok m
    → named ≡ objects_named m → true ≡ list_all (fits (objects_in v.objects)) named → new ≡ new_id_in m → Err refusal ≡ after_new_id (objects_in v.objects) (length v.objects) new (Ok (tt {0}))
    → IsRefused (split_of v.rest) v refusal
first-refused v object opcode size entry m named new bytes refusal whole found all read names fit makes h =
    let objects = objects_in v.objects in
    let o : objects object ≡ Some (object_of entry) = ap (λ (e : Option Entry). option_map object_of e) (sym found) in
    let here : decoded entry.interface entry.version opcode (take (size - 8) (drop 8 v.rest)) ≡ Ok m =
    sym (ap (λ (r : List ℕ). decoded entry.interface entry.version opcode (take (size - 8) (drop 8 r))) all) ∙ read in
    let fits_all : list_all (fits objects) (objects_named m) ≡ true = sym (ap (λ ns. list_all (fits objects) ns) names) ∙ sym fit in
    let late : after_new_id objects (length v.objects) (new_id_in m) (Ok (tt {0})) ≡ Err refusal = sym (ap (λ n. after_new_id objects (length v.objects) n (Ok (tt {0}))) makes) ∙ sym h in
    let refused = passing-refused objects (length v.objects) opcode (take (size - 8) (drop 8 v.rest)) (object_of entry) m (tt {0}) refusal here fits_all late in
    rw whole (rw o refused)

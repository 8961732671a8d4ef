-- Which objects a request names, and which it makes.
use Rattle.std.specs.Prelude.{Option, Some, None, List, [], ◌∷◌, slice_get}
use Rattle.wl_wire.specs.Wire.{Field, Word, Text}
use Rattle.wl_proto.specs.declared.argument.ObjectArg.{ObjectArg}
use Rattle.wl_proto.specs.declared.argument.NewId.{NewId}
use Rattle.wl_proto.specs.Table.{Argument, AnObject, ANewId, ANewObject, Signature, requests_of}
use Rattle.wl_proto.specs.Messages.{Message}

-- The arguments that name objects, with the interface that each has to be of, and whether it may be null.
abbrev pub objects_of : List Argument → List Field → List ObjectArg
objects_of [] fields = []
objects_of (argument ∷ arguments) [] = []
objects_of (AnObject interface nullable ∷ arguments) (Word id ∷ fields) =
    record { id = id; interface = interface; nullable = nullable } ∷ objects_of arguments fields
objects_of (argument ∷ arguments) (field ∷ fields) = objects_of arguments fields

-- The new id, with the interface of the object that it is for. That of bind stands behind an interface's name and a
-- version.
abbrev pub new_id_of : List Argument → List Field → Option NewId
new_id_of [] fields = None
new_id_of (argument ∷ arguments) [] = None
new_id_of (ANewId interface ∷ arguments) (Word id ∷ fields) = Some (record { id = id; interface = interface })
new_id_of (ANewObject ∷ arguments) (Text name ∷ Word version ∷ Word id ∷ fields) = Some (record { id = id; interface = None })
new_id_of (argument ∷ arguments) (field ∷ fields) = new_id_of arguments fields

abbrev pub objects_by : Option Signature → List Field → List ObjectArg
objects_by None fields = []
objects_by (Some signature) fields = objects_of signature.arguments fields

abbrev pub objects_in : Message → List ObjectArg
objects_in request = objects_by (slice_get (requests_of request.interface) request.opcode) request.fields

abbrev pub new_id_by : Option Signature → List Field → Option NewId
new_id_by None fields = None
new_id_by (Some signature) fields = new_id_of signature.arguments fields

abbrev pub new_id_in : Message → Option NewId
new_id_in request = new_id_by (slice_get (requests_of request.interface) request.opcode) request.fields

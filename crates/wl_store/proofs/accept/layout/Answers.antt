use Rattle.std.proofs.Common.{rules}
use Rattle.wl_store.proofs.accept.layout.Goals as goal

pub returns-in_default-clause-refused : goal.returns-in_default-clause-refused
returns-in_default-clause-refused c = search rules

pub returns-in_default-clause-accepted : goal.returns-in_default-clause-accepted
returns-in_default-clause-accepted c = search rules

pub returns-in_default-clause-place : goal.returns-in_default-clause-place
returns-in_default-clause-place c = search rules

pub returns-in_default-clause-sides : goal.returns-in_default-clause-sides
returns-in_default-clause-sides c = search rules

pub returns-in_default-clause-format : goal.returns-in_default-clause-format
returns-in_default-clause-format c = search rules

pub returns-in_default-clause-within : goal.returns-in_default-clause-within
returns-in_default-clause-within c = search rules

pub natural-requires : goal.natural-requires
natural-requires c = search rules

pub natural-requires-2 : goal.natural-requires-2
natural-requires-2 c = search rules

pub natural-requires-3 : goal.natural-requires-3
natural-requires-3 c = search rules

pub natural-requires-4 : goal.natural-requires-4
natural-requires-4 c = search rules

pub returns-in_default-2-clause-refused : goal.returns-in_default-2-clause-refused
returns-in_default-2-clause-refused c = search rules

pub returns-in_default-2-clause-accepted : goal.returns-in_default-2-clause-accepted
returns-in_default-2-clause-accepted c = search rules

pub returns-in_default-2-clause-place : goal.returns-in_default-2-clause-place
returns-in_default-2-clause-place c = search rules

pub returns-in_default-2-clause-sides : goal.returns-in_default-2-clause-sides
returns-in_default-2-clause-sides c = search rules

pub returns-in_default-2-clause-format : goal.returns-in_default-2-clause-format
returns-in_default-2-clause-format c = search rules

pub returns-in_default-2-clause-within : goal.returns-in_default-2-clause-within
returns-in_default-2-clause-within c = search rules

pub returns-in_default-2-2-clause-refused : goal.returns-in_default-2-2-clause-refused
returns-in_default-2-2-clause-refused c = search rules

pub returns-in_default-2-2-clause-accepted : goal.returns-in_default-2-2-clause-accepted
returns-in_default-2-2-clause-accepted c = search rules

pub returns-in_default-2-2-clause-place : goal.returns-in_default-2-2-clause-place
returns-in_default-2-2-clause-place c = search rules

pub returns-in_default-2-2-clause-sides : goal.returns-in_default-2-2-clause-sides
returns-in_default-2-2-clause-sides c = search rules

pub returns-in_default-2-2-clause-format : goal.returns-in_default-2-2-clause-format
returns-in_default-2-2-clause-format c = search rules

pub returns-in_default-2-2-clause-within : goal.returns-in_default-2-2-clause-within
returns-in_default-2-2-clause-within c = search rules

pub returns-in_default-2-3-clause-refused : goal.returns-in_default-2-3-clause-refused
returns-in_default-2-3-clause-refused c = search rules

pub returns-in_default-2-3-clause-accepted : goal.returns-in_default-2-3-clause-accepted
returns-in_default-2-3-clause-accepted c = search rules

pub returns-in_default-2-3-clause-place : goal.returns-in_default-2-3-clause-place
returns-in_default-2-3-clause-place c = search rules

pub returns-in_default-2-3-clause-sides : goal.returns-in_default-2-3-clause-sides
returns-in_default-2-3-clause-sides c = search rules

pub returns-in_default-2-3-clause-format : goal.returns-in_default-2-3-clause-format
returns-in_default-2-3-clause-format c = search rules

pub returns-in_default-2-3-clause-within : goal.returns-in_default-2-3-clause-within
returns-in_default-2-3-clause-within c = search rules

pub returns-in_default-2-4-clause-refused : goal.returns-in_default-2-4-clause-refused
returns-in_default-2-4-clause-refused c = search rules

pub returns-in_default-2-4-clause-accepted : goal.returns-in_default-2-4-clause-accepted
returns-in_default-2-4-clause-accepted c = search rules

pub returns-in_default-2-4-clause-place : goal.returns-in_default-2-4-clause-place
returns-in_default-2-4-clause-place c = search rules

pub returns-in_default-2-4-clause-sides : goal.returns-in_default-2-4-clause-sides
returns-in_default-2-4-clause-sides c = search rules

pub returns-in_default-2-4-clause-format : goal.returns-in_default-2-4-clause-format
returns-in_default-2-4-clause-format c = search rules

pub returns-in_default-2-4-clause-within : goal.returns-in_default-2-4-clause-within
returns-in_default-2-4-clause-within c = search rules

pub is_room-requires : goal.is_room-requires
is_room-requires c = search rules

pub returns-then-not-is_room-clause-refused : goal.returns-then-not-is_room-clause-refused
returns-then-not-is_room-clause-refused c = search rules

pub returns-then-not-is_room-clause-accepted : goal.returns-then-not-is_room-clause-accepted
returns-then-not-is_room-clause-accepted c = search rules

pub returns-then-not-is_room-clause-place : goal.returns-then-not-is_room-clause-place
returns-then-not-is_room-clause-place c = search rules

pub returns-then-not-is_room-clause-sides : goal.returns-then-not-is_room-clause-sides
returns-then-not-is_room-clause-sides c = search rules

pub returns-then-not-is_room-clause-format : goal.returns-then-not-is_room-clause-format
returns-then-not-is_room-clause-format c = search rules

pub returns-then-not-is_room-clause-within : goal.returns-then-not-is_room-clause-within
returns-then-not-is_room-clause-within c = search rules

pub invariant_of-result : goal.invariant_of-result
invariant_of-result c = search rules

pub returns-clause-refused : goal.returns-clause-refused
returns-clause-refused c = search rules

pub returns-clause-accepted : goal.returns-clause-accepted
returns-clause-accepted c = search rules

pub returns-clause-place : goal.returns-clause-place
returns-clause-place c = search rules

pub returns-clause-sides : goal.returns-clause-sides
returns-clause-sides c = search rules

pub returns-clause-format : goal.returns-clause-format
returns-clause-format c = search rules

pub returns-clause-within : goal.returns-clause-within
returns-clause-within c = search rules

-- The first message of what came from a client: what of it is refused before its own errors are looked at.
use Rattle.std.specs.List.{list_all}
use Rattle.std.specs.Prelude.{ℕ, ◌≡◌, ◌-◌, List, length, take, drop, true, IfSome, Option, Some, Result, Ok, Err}
use Rattle.wl_wire.specs.Wire.{split_of}
use Rattle.wl_wire.specs.declared.header.Split.{Split}
use Rattle.wl_wire.specs.declared.header.Split.TheVariants as splits
use Rattle.wl_proto.specs.Messages.{Message, request_message}
use Rattle.wl_proto.specs.Objects.{objects_in as objects_named, new_id_in}
use Rattle.wl_table.specs.Objects.{entry_of}
use Rattle.wl_client.specs.declared.first_message.First.{First}
use Rattle.wl_client.specs.declared.first_message.First.TheVariants as firsts
use Rattle.spec_desktop.specs.declared.refusals.ErrorCode.TheVariants.{InvalidMethod}
use Rattle.spec_desktop.specs.declared.refusals.Refusal.{Refusal}
use Rattle.spec_desktop.specs.Judgement.{is_free, judged_at}
use Rattle.spec_desktop.specs.Objects.{Object, Objects, fits, objects_in}
use Rattle.spec_desktop.specs.Told.{display_error}
use Rattle.wl_client.specs.View.{ClientView}

-- the message itself, where its own errors are the next that are looked at
abbrev pub passing : Objects → ℕ → ℕ → List ℕ → Option Object → Result Message Refusal
passing objects held opcode body o = judged_at objects held (λ version m. Ok m) opcode body o

-- of the message of this size at the front of what came
abbrev pub passing_in : ClientView → ℕ → ℕ → ℕ → Result Message Refusal
passing_in v object opcode size =
    passing (objects_in v.objects) (length v.objects) opcode (take (size - 8) (drop 8 v.rest)) (objects_in v.objects object)

-- the first message passes: it is of this size, to this object, which has this version and target
pub record Passes (v : ClientView) (object version size target : ℕ) (m : Message) : Type 0 where
  pub first : split_of v.rest ≡ splits.Message object m.opcode size
  pub passes : passing_in v object m.opcode size ≡ Ok m
  pub entry : entry_of v.objects object ≡ Some (record { interface = m.interface; version = version; target = target })
  pub fit : list_all (fits (objects_in v.objects)) (objects_named m) ≡ true
  pub free : IfSome (new_id_in m) (λ new. is_free (objects_in v.objects) new.id ≡ true)

-- the first message is refused so, whatever its own errors are
abbrev pub IsRefused : Split → ClientView → Refusal → Type 0
IsRefused (splits.Message object opcode size) v refusal = passing_in v object opcode size ≡ Err refusal
IsRefused splits.Bad v refusal = refusal ≡ display_error InvalidMethod
IsRefused splits.More v refusal = ⊥

abbrev pub IsFirst : ClientView → First → Type 0
IsFirst v firsts.More = split_of v.rest ≡ splits.More
IsFirst v (firsts.Refused refusal) = IsRefused (split_of v.rest) v refusal
IsFirst v (firsts.Request object version size target request) = Passes v object version size target (request_message request)

-- How the numbers that a table names change with it.
use Rattle.std.proofs.Common.{◌≡◌, ℕ, Bool, true, false, Option, Some, None, cond, refl, ap, sym, ◌∙◌, eq-eqb}
use Rattle.std.specs.Prelude.{◌==◌}
use Rattle.std.specs.Option.{option_and_then}
use Rattle.std.proofs.Math.Path.{fun_ext}
use Rattle.std.proofs.lemmas.Bool.{eqb-false, eqb-true}
use Rattle.wl_proto.specs.declared.interface.Interface.{Interface}
use Rattle.wl_table.specs.Objects.{Held, HoldsAt, entry_of}
use Rattle.wl_table.specs.declared.entry.Entry.{Entry}
use Rattle.spec_desktop.specs.Objects.{ById, interface_number, with_id}
use Rattle.law_desktop.specs.Owning.{target_as, targets_in}

-- ---- what there is by ids

pub with_id-same : {X : Type 0} (id : ℕ) (x : Option X) (all : ById X) → all id ≡ x → with_id id x all ≡ all
with_id-same id x all is = fun_ext (λ other. at other (other == id) refl)
  where
    at : (other : ℕ) (b : Bool) → (other == id) ≡ b → cond b x (all other) ≡ all other
    at other true e = sym is ∙ ap all (sym (eqb-true other id e))
    at other false e = refl

pub with_id-here : {X : Type 0} (id : ℕ) (x : Option X) (all : ById X) → with_id id x all id ≡ x
with_id-here id x all = ap (λ b. cond b x (all id)) (eq-eqb id id refl)

pub with_id-other : {X : Type 0} (id other : ℕ) (x : Option X) (all : ById X) → (other == id) ≡ false → with_id id x all other ≡ all other
with_id-other id other x all e = ap (λ b. cond b x (all other)) e

-- ---- the numbers of one interface

pub targets-with : (interface : Interface) (old new : Held) (id : ℕ) (entry : Option Entry) → HoldsAt old new id entry
    → targets_in interface new ≡ with_id id (option_and_then (target_as interface) entry) (targets_in interface old)
targets-with interface old new id entry holds = fun_ext (λ other. at other (other == id) refl)
  where
    at : (other : ℕ) (b : Bool) → (other == id) ≡ b → targets_in interface new other ≡ cond b (option_and_then (target_as interface) entry) (targets_in interface old other)
    at other true e = ap (option_and_then (target_as interface)) (ap (entry_of new) (eqb-true other id e) ∙ holds.here)
    at other false e = ap (option_and_then (target_as interface)) (holds.others other (eqb-false other id e))

target-of : (interface : Interface) (entry : Entry) → entry.interface ≡ interface → target_as interface entry ≡ Some entry.target
target-of interface entry is =
    ap (λ b. cond b (Some entry.target) None) (eq-eqb (interface_number entry.interface) (interface_number interface) (ap interface_number is))

-- an object of the interface names its target, and a free id nothing
pub targets-at : (interface : Interface) (held : Held) (id : ℕ) (entry : Entry) → entry_of held id ≡ Some entry → entry.interface ≡ interface → targets_in interface held id ≡ Some entry.target
targets-at interface held id entry found is = ap (option_and_then (target_as interface)) found ∙ target-of interface entry is

pub targets-free : (interface : Interface) (held : Held) (id : ℕ) → entry_of held id ≡ None → targets_in interface held id ≡ None
targets-free interface held id free = ap (option_and_then (target_as interface)) free

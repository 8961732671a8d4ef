-- An option that is made by its name, step by step.
use Rattle.std.proofs.Common.{◌≡◌, ◌∙◌, ap, ℕ, List, Some, Bor, false}
use Rattle.clap.specs.Words.{Rule, new_rule, rule_of}
use Rattle.clap.specs.declared.builder.arg.Arg.{Arg}
use Rattle.clap.specs.declared.builder.texts.Texts.TheVariants.{One}
use Rattle.wl_program.specs.Command.{option_named}

-- with its long name, what help calls its value, and its help
pub named-rule : (name value help : Bor (List ℕ)) (made long called told : Arg) → rule_of made ≡ new_rule name.now → long ≡ record made { long = Some name }
    → called ≡ record long { val_names = One value } → told ≡ record called { help = Some help } → rule_of told ≡ option_named name.now
named-rule name value help made long called told is is_long is_called is_told =
    rw (is_told, is_called, is_long) (ap (λ (r : Rule). record r { long = Some name.now; value_names = 1 }) is)

pub named-own : (name value help : Bor (List ℕ)) (made long called told : Arg) → made.global ≡ false → long ≡ record made { long = Some name }
    → called ≡ record long { val_names = One value } → told ≡ record called { help = Some help } → told.global ≡ false
named-own name value help made long called told is is_long is_called is_told =
    ap (λ (a : Arg). a.global) is_told ∙ ap (λ (a : Arg). a.global) is_called ∙ ap (λ (a : Arg). a.global) is_long ∙ is

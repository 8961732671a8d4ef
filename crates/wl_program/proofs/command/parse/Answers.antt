-- clap's clauses hold at the program's command.
use Rattle.std.proofs.Common.{◌≡◌, ◌∙◌, sym, ap, option_map}
use Rattle.clap.specs.Words.{found_of, subcommand_name_of, subcommand_rows_of}
use Rattle.std.proofs.lemmas.Result.{err_from_is_err_and}
use Rattle.wl_program.specs.Command.{program}
use Rattle.wl_program.proofs.Accepted.{accepted-of, asked-by, entered-of, named-found, not-entered, refused-of, told-refused}
use Rattle.wl_program.proofs.Locals.{map-first}
use Rattle.wl_program.proofs.command.parse.Goals as goal

pub returns-in_err-matches : goal.returns-in_err-matches
returns-in_err-matches c =
    let told = err_from_is_err_and c.from_residual-in_err-matches.result c.from_residual-in_err-matches.ensures.1 in
    let has = refused-of _ _ c.in_err-matches.field-0.0 (c.in_ok-command.ensures ∙ ap program c.is_paced.ensures) c.in_err-matches.ensures.kinds in
    rw told.1 (told-refused _ c.in_err-matches.field-0.0 told.0 told.2 has)

pub returns-in-Some : goal.returns-in-Some
returns-in-Some c =
    let accepted = accepted-of _ _ c.in_ok-matches.matches (c.in_ok-command.ensures ∙ ap program c.is_paced.ensures) c.in_ok-matches.ensures.kinds in
    let entered = entered-of _ _ c.in_ok-matches.matches (c.in_ok-command.ensures ∙ ap program c.is_paced.ensures) c.in_ok-matches.ensures.matches in
    let first : option_map (λ p. p.0) (subcommand_rows_of c.in_ok-matches.matches) ≡ subcommand_name_of c.in_ok-matches.matches = map-first _ _ _ in
    let name = named-found _ c.in-Some.name.now (ap (option_map (λ p. p.0)) (sym entered) ∙ first ∙ sym c.in-Some.ensures.name) in
    asked-by _ c.in-Some.name.now (found_of c.in-Some.matches.now) c.asked_of.result accepted name (ap (option_map (λ p. p.1)) (sym entered) ∙ sym c.in-Some.ensures.rows) c.asked_of.ensures.asked
    c.asked_of.ensures.faulty

pub returns : goal.returns
returns c =
    let accepted = accepted-of _ _ c.in_ok-matches.matches (c.in_ok-command.ensures ∙ ap program c.is_paced.ensures) c.in_ok-matches.ensures.kinds in
    let entered = entered-of _ _ c.in_ok-matches.matches (c.in_ok-command.ensures ∙ ap program c.is_paced.ensures) c.in_ok-matches.ensures.matches in
    (accepted, not-entered _ (c.in-None.ensures.rows ∙ ap (option_map (λ p. p.1)) entered))

use Rattle.std.proofs.Common.{rules}
use Rattle.std.proofs.lemmas.Fn.{filter_same}
use Rattle.std.specs.Prelude.{not}
use Rattle.wl_links.specs.Stacks.{is_of}
use Rattle.wl_links.proofs.stack.take_out.Goals as goal

pub returns-clause-items : goal.returns-clause-items
returns-clause-items g c = filter_same _ (λ p. not (is_of c.args.member p)) _ (λ x b f' k. search rules) _ _ c.retain.ensures.filtered

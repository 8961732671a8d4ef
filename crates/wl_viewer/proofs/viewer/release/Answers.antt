use Rattle.std.proofs.Common.{rules, ◌==◌}
use Rattle.std.specs.Prelude.{not}
use Rattle.arrayvec.proofs.ArrayVecLemmas.{filter-from_retain}
use Rattle.wl_viewer.proofs.viewer.release.Goals as goal

pub returns : goal.returns
returns c = filter-from_retain _ (λ other. not (other == c.args.code)) _ (λ x b f' y k. search rules) _ _ c.retain.ensures.filtered

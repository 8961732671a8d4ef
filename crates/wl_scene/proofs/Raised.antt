-- What is kept of the windows of the output goes on standing for those of the desktop where a toplevel is raised.
use Rattle.std.specs.Prelude.{filter, not}
use Rattle.wl_scene.specs.Stacked.{raised}
use Rattle.wl_scene.specs.StackedAgreement.{has_toplevel}
use Rattle.wl_scene.specs.StackedLaws.{StackedRunRaised}
use Rattle.wl_scene.proofs.Standing.{both-are-stacked, stacked-removed, run-is-stacked}

pub stacked-run-raised : StackedRunRaised
stacked-run-raised numbers ss ws client toplevel k are known once =
    both-are-stacked numbers _ _ (filter (λ w. not (has_toplevel client toplevel w)) ws) (filter (λ w. has_toplevel client toplevel w) ws)
    (stacked-removed numbers ss ws client toplevel k are known once) (run-is-stacked numbers ss ws client toplevel k are known once)

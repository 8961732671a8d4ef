use Rattle.std.proofs.Common.{◌≡◌, false, rules}
use Rattle.std.specs.Prelude.{◌&&◌, not}
use Rattle.wl_shell.proofs.Places.{flipped-is, unflipped-is, unfit-stays, unallowed-stays}
use Rattle.wl_shell.specs.Placing.{axis_of, first_within, end_within}
use Rattle.wl_shell.specs.Positioner.{flipped, is_constrained, start_of}
use Rattle.wl_shell.proofs.placing.Bounds.place.Goals as goal
use Rattle.wl_shell.proofs.placing.Bounds.place.Goals.{else-allowed-via-then-allowed+else-not-constrain-2, else-allowed-via-else-allowed}

pub returns-then-not-constrain-2 : goal.returns-then-not-constrain-2
returns-then-not-constrain-2 c =
    flipped-is c.args.allowed.flip c.args.allowed.slide c.args.allowed.resize (first_within c.args.self.now) (end_within c.args.self.now)
    (axis_of c.args.axis.now) _ _ (search rules) (search rules) (search rules) (search rules) (search rules)

pub returns : goal.returns
returns c =
    let first = first_within c.args.self.now in
    let end = end_within c.args.self.now in
    let axis = axis_of c.args.axis.now in
    let stays : (c.args.allowed.flip && not (is_constrained first end (start_of (flipped axis)) axis.size)) ≡ false =
    elim c.else-allowed.branch [
      | else-allowed-via-then-allowed+else-not-constrain-2 w ↦
          unfit-stays c.args.allowed.flip first end axis.size c.popup_start-flipped.result (start_of (flipped axis)) (search rules) (search rules)
      | else-allowed-via-else-allowed w ↦ unallowed-stays c.args.allowed.flip (not (is_constrained first end (start_of (flipped axis)) axis.size)) (search rules)
    ]
    in unflipped-is c.args.allowed.flip c.args.allowed.slide c.args.allowed.resize first end axis c.slid-start.result c.resized.result
    (search rules) stays (search rules) (search rules)

use Rattle.std.proofs.Common.{refl}
use Rattle.wl_shell.proofs.Moves.{same-place}
use Rattle.wl_shell.proofs.moves_agree.Goals as goal

pub returns : goal.returns
returns c = λ may_flip may_slide may_resize first end a. same-place may_flip may_slide may_resize first end a _ _ refl refl

use Rattle.std.proofs.Common.{◌∷◌, [], take, ap}
use Rattle.wl_wire.proofs.Appended.{appended_ok, appended_err}
use Rattle.wl_wire.proofs.writing.put_padding.Goals as goal

pub returns-clause-ok : goal.returns-clause-ok
returns-clause-ok g c = appended_ok c.extend_from_slice.result _ _ _ _ c.extend_from_slice.ensures.items (ap (λ n. take n (0 ∷ 0 ∷ 0 ∷ [])) c.padding.ensures)

pub returns-clause-err : goal.returns-clause-err
returns-clause-err g c = appended_err c.extend_from_slice.result _ _ _ c.extend_from_slice.ensures.items

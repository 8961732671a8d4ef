use Rattle.std.proofs.Common.{refl}
use Rattle.wl_wire.proofs.Appended.{begun, left_after, counted_ok}
use Rattle.wl_wire.proofs.writing.put_array.Goals as goal

pub returns-in_err-extend_from_slice-2-clause-err : goal.returns-in_err-extend_from_slice-2-clause-err
returns-in_err-extend_from_slice-2-clause-err g c =
    begun c.from_residual-in_err-extend_from_slice-2.result _ _ _ _ c.in_ok-extend_from_slice.ensures.items c.in_err-extend_from_slice-2.ensures.items

pub returns-clause-ok : goal.returns-clause-ok
returns-clause-ok g c =
    counted_ok c.put_padding.result _ _ _ _ _ c.args.block.now _ refl c.to_le_bytes.ensures c.in_ok-extend_from_slice.ensures.items c.in_ok-extend_from_slice-2.ensures.items c.put_padding.ensures.ok

pub returns-clause-err : goal.returns-clause-err
returns-clause-err g c =
    left_after c.put_padding.result _ _ _ _ _ _ c.in_ok-extend_from_slice.ensures.items c.in_ok-extend_from_slice-2.ensures.items c.put_padding.ensures.err

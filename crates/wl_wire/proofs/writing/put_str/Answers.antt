use Rattle.std.proofs.Common.{◌∷◌, [], ◌++◌, sym, length-append}
use Rattle.wl_wire.proofs.Appended.{appended_twice, begun, begun_twice, left_after, counted_ok}
use Rattle.wl_wire.proofs.writing.put_str.Goals as goal

pub returns-in_err-extend_from_slice-2-clause-err : goal.returns-in_err-extend_from_slice-2-clause-err
returns-in_err-extend_from_slice-2-clause-err g c =
    begun c.from_residual-in_err-extend_from_slice-2.result _ _ _ _ c.in_ok-extend_from_slice.ensures.items c.in_err-extend_from_slice-2.ensures.items

pub returns-in_err-push-clause-err : goal.returns-in_err-push-clause-err
returns-in_err-push-clause-err g c =
    begun_twice c.from_residual-in_err-push.result _ _ _ _ _ _ c.in_ok-extend_from_slice.ensures.items c.in_ok-extend_from_slice-2.ensures.items c.in_err-push.ensures.items

pub returns-clause-ok : goal.returns-clause-ok
returns-clause-ok g c =
    let text = c.args.text.now in
    let one = c.extend_from_slice.new.self.items in
    let ended = appended_twice one c.extend_from_slice-2.new.self.items c.push.new.self.items text (0 ∷ []) c.in_ok-extend_from_slice-2.ensures.items c.in_ok-push.ensures.items in
    counted_ok c.put_padding.result _ one _ _ _ (text ++ 0 ∷ []) _ (sym (length-append text (0 ∷ []))) c.to_le_bytes.ensures c.in_ok-extend_from_slice.ensures.items ended c.put_padding.ensures.ok

pub returns-clause-err : goal.returns-clause-err
returns-clause-err g c =
    let text = c.args.text.now in
    let one = c.extend_from_slice.new.self.items in
    let ended = appended_twice one c.extend_from_slice-2.new.self.items c.push.new.self.items text (0 ∷ []) c.in_ok-extend_from_slice-2.ensures.items c.in_ok-push.ensures.items in
    left_after c.put_padding.result _ _ one _ _ _ c.in_ok-extend_from_slice.ensures.items ended c.put_padding.ensures.err

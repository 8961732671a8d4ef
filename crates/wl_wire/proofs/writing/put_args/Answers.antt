use Rattle.std.proofs.Common.{arith, length}
use Rattle.std.proofs.lemmas.Result.{err_from_is_err_and}
use Rattle.wl_wire.specs.Wire.{args_bytes}
use Rattle.wl_wire.specs.declared.argument.Arg.TheVariants.{Uint}
use Rattle.wl_wire.proofs.Appended.{args_end, args_left, args_more, args_told}
use Rattle.wl_wire.proofs.Prefixes.{prefix_of_prefix}
use Rattle.wl_wire.proofs.writing.put_args.Goals as goal

pub returns-in_err-put_arg-clause-err : goal.returns-in_err-put_arg-clause-err
returns-in_err-put_arg-clause-err g c = let p = err_from_is_err_and c.from_residual.result c.from_residual.ensures.1 in
    rw p.1 (prefix_of_prefix _ _ _ c.loop-arg.invariant.more c.in_err-put_arg.ensures.err)

pub put_arg-requires : goal.put_arg-requires
put_arg-requires g c =
    let each = args_left c.args.args.now c.loop-arg.arg-index (length (args_bytes c.args.args.now)) (Uint 0) c.loop-arg-test.true c.loop-arg.invariant.left in
    omega (arith, each.0)

pub loop-arg-preserved : goal.loop-arg-preserved
loop-arg-preserved g c =
    let args = c.args.args.now in
    let all = args_bytes args in
    let i = c.loop-arg.arg-index in
    let out = c.loop-arg.out.items in
    let now = c.put_arg.new.out.items in
    let was = c.args.out.now.items in
    record {
      told = args_told out now was args i (Uint 0) all c.loop-arg-test.true c.in_ok-put_arg.ensures.ok c.loop-arg.invariant.told;
      left = (args_left args i (length all) (Uint 0) c.loop-arg-test.true c.loop-arg.invariant.left).1;
      more = args_more out now was args i (Uint 0) c.in_ok-put_arg.ensures.ok c.loop-arg.invariant.more;
    }

pub returns-clause-ok : goal.returns-clause-ok
returns-clause-ok g c = args_end c.loop-arg.out.items c.args.out.now.items c.args.args.now c.loop-arg.arg-index (args_bytes c.args.args.now) c.loop-arg-test.false c.loop-arg.invariant.told

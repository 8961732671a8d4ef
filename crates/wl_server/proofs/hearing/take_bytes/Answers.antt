use Rattle.std.proofs.Common.{arith}
use Rattle.std.proofs.lemmas.List.{drop_all, drop_more}
use Rattle.wl_server.proofs.Watched.{heard-all, taken-all, taken-more, taken-none}
use Rattle.wl_server.proofs.hearing.take_bytes.Goals as goal

pub loop-byte-init : goal.loop-byte-init
loop-byte-init g c = taken-none c.args.time c.args.bytes.now c.args.viewer.now c.args.recorded.now

pub loop-byte-preserved : goal.loop-byte-preserved
loop-byte-preserved g c =
    taken-more c.args.time c.args.bytes.now _ _ _ c.take-asked.result c.args.viewer.now c.loop-byte.viewer c.take-asked.new.self c.args.recorded.now c.loop-byte.recorded c.act.new.recorded
    (drop_more c.args.bytes.now c.loop-byte.byte-index 0 (omega arith)) c.take-asked.ensures.asked c.take-asked.ensures.heard c.act.ensures c.loop-byte.invariant

pub returns-clause-taken : goal.returns-clause-taken
returns-clause-taken g c =
    taken-all c.args.time c.args.bytes.now _ c.args.viewer.now c.loop-byte.viewer c.args.recorded.now c.loop-byte.recorded (drop_all c.loop-byte.byte-index c.args.bytes.now (omega arith)) c.loop-byte.invariant

pub returns-clause-heard : goal.returns-clause-heard
returns-clause-heard g c =
    heard-all c.args.time c.args.bytes.now _ c.args.viewer.now c.loop-byte.viewer c.args.recorded.now c.loop-byte.recorded (drop_all c.loop-byte.byte-index c.args.bytes.now (omega arith)) c.loop-byte.invariant

-- The program ends as what the words ask ends.
use Rattle.std.proofs.Common.{inl, inr}
use Rattle.wl_program.proofs.Ending.{fails-ends, refused-ends, serving-ends, shown-ends}
use Rattle.wl_program.proofs.run.run_program.Goals as goal

pub returns-in-Ok : goal.returns-in-Ok
returns-in-Ok g c =
    let asks = rw c.in-Ok-Replay.field-0-is at c.in-Ok-Replay.ensures in
    inl (c.in-Ok-Replay.replay, asks, c.in-Ok.ensures.played)

pub returns-in-Err : goal.returns-in-Err
returns-in-Err g c =
    let asks = rw c.in-Ok-Replay.field-0-is at c.in-Ok-Replay.ensures in
    rw c.report.ensures (fails-ends _ c.in-Ok-Replay.replay c.in-Err.fault _ _ _ asks c.in-Err.ensures.failed)

pub returns-in-Ok-serve : goal.returns-in-Ok-serve
returns-in-Ok-serve g c =
    let asks = rw c.in-Ok-Serve.field-0-is at c.in-Ok-Serve.ensures in
    inr (inr (c.in-Ok-Serve.asked, asks, c.in-Ok-serve.ensures.served))

pub returns-in-Err-serve : goal.returns-in-Err-serve
returns-in-Err-serve g c =
    let asks = rw c.in-Ok-Serve.field-0-is at c.in-Ok-Serve.ensures in
    rw c.report-in-Err-serve.ensures (serving-ends _ c.in-Ok-Serve.asked c.in-Err-serve.fault _ _ _ asks c.in-Err-serve.ensures.failed)

pub returns-in-Err-Usage : goal.returns-in-Err-Usage
returns-in-Err-Usage g c =
    let among = rw c.in-Err-Usage.field-0-is at c.in-Err-Usage.ensures in
    shown-ends _ _ c.show.result _ _ among (rw c.in-Err-Usage.error-is at c.show.ensures)

pub returns-in-Err-Fault : goal.returns-in-Err-Fault
returns-in-Err-Fault g c =
    let has = rw c.in-Err-Fault.field-0-is at c.in-Err-Fault.ensures in
    rw (c.report-in-Err-Fault.ensures, c.in-Err-Fault.fault-is) (refused-ends _ c.in-Err-Fault.fault _ _ has)

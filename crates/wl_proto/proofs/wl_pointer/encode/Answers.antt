use Rattle.wl_proto.proofs.wl_pointer.encode.Goals as goal

pub returns-in-Enter : goal.returns-in-Enter
returns-in-Enter g c = rw c.in-Enter.is (record { ok = c.put.ensures.ok; too_long = c.put.ensures.too_long; err = c.put.ensures.err })

pub returns-in-Leave : goal.returns-in-Leave
returns-in-Leave g c = rw c.in-Leave.is (record { ok = c.put-in-Leave.ensures.ok; too_long = c.put-in-Leave.ensures.too_long; err = c.put-in-Leave.ensures.err })

pub returns-in-Motion : goal.returns-in-Motion
returns-in-Motion g c = rw c.in-Motion.is (record { ok = c.put-in-Motion.ensures.ok; too_long = c.put-in-Motion.ensures.too_long; err = c.put-in-Motion.ensures.err })

pub returns-in-Button : goal.returns-in-Button
returns-in-Button g c = rw c.in-Button.is (record { ok = c.put-in-Button.ensures.ok; too_long = c.put-in-Button.ensures.too_long; err = c.put-in-Button.ensures.err })

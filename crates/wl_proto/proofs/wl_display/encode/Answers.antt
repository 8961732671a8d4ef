use Rattle.wl_proto.proofs.wl_display.encode.Goals as goal

pub returns-in-Error : goal.returns-in-Error
returns-in-Error g c = rw c.in-Error.is (record { ok = c.put.ensures.ok; too_long = c.put.ensures.too_long; err = c.put.ensures.err })

pub returns-in-DeleteId : goal.returns-in-DeleteId
returns-in-DeleteId g c = rw c.in-DeleteId.is (record { ok = c.put-in-DeleteId.ensures.ok; too_long = c.put-in-DeleteId.ensures.too_long; err = c.put-in-DeleteId.ensures.err })

use Rattle.std.proofs.Common.{◌<◌, vec_len, vec_capacity}
use Rattle.wl_desk.proofs.Seated.{held-put, kept-put}
use Rattle.wl_desk.proofs.seating.make_room.Goals as goal

pub returns-clause-room : goal.returns-clause-room
returns-clause-room g c = λ room. held-put (λ v. vec_len v < vec_capacity v) c.args.client c.in-Some.k c.args.seats.now c.reserve.new.pointers c.in-Some.ensures.some (c.reserve.ensures.room room)

pub returns-clause-same : goal.returns-clause-same
returns-clause-same g c = kept-put (λ v. v.items) c.in-Some.k c.args.seats.now c.index-seats-k.result c.reserve.new.pointers c.in-Some.ensures.some.1 c.reserve.ensures.same

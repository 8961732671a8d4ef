use Rattle.std.proofs.Common.{◌<◌, vec_len, vec_capacity}
use Rattle.wl_desk.proofs.Seated.{added-put, held-here, held-nowhere}
use Rattle.wl_desk.proofs.seating.keep_asked.Goals as goal

pub returns-in_default-place_in : goal.returns-in_default-place_in
returns-in_default-place_in g c =
    absurd (held-nowhere (λ v. vec_len v < vec_capacity v) c.args.client c.args.seats.now (c.requires c.if-not-has_room.false) c.in_default-place_in.ensures.none)

pub add-requires : goal.add-requires
add-requires g c =
    held-here (λ v. vec_len v < vec_capacity v) c.args.client c.in-Some.k c.args.seats.now c.index-seats-k.result c.in-Some.ensures.some.0 (c.requires c.if-not-has_room.false)

pub returns : goal.returns
returns g c =
    added-put (λ v. v.items) c.args.has_room c.args.asked c.in-NewPointer.id c.args.client c.in-Some.k c.args.seats.now c.index-seats-k.result c.add.new.pointers c.if-not-has_room.false
    c.in-NewPointer.is c.in-Some.ensures.some c.add.ensures

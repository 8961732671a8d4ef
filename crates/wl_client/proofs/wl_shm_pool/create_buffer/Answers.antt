use Rattle.std.proofs.Common.{◌≡◌, sym, ◌∙◌, rules, w32}
use Rattle.std.specs.Prelude.{FitsSigned}
use Rattle.std.proofs.lemmas.Int.{to_z-of_z}
use Rattle.wl_store.specs.Stores.{size_of}
use Rattle.wl_client.proofs.Peers.{buffer-refused, refused-by, size-read}
use Rattle.wl_client.proofs.wl_shm_pool.create_buffer.Goals as goal

pub returns-in-Err : goal.returns-in-Err
returns-in-Err g c =
    let offset-fits : FitsSigned w32 c.args.asked.now.offset = search rules in
    let offset = to_z-of_z w32 c.args.asked.now.offset offset-fits in
    let width-fits : FitsSigned w32 c.args.asked.now.width = search rules in
    let width = to_z-of_z w32 c.args.asked.now.width width-fits in
    let height-fits : FitsSigned w32 c.args.asked.now.height = search rules in
    let height = to_z-of_z w32 c.args.asked.now.height height-fits in
    let stride-fits : FitsSigned w32 c.args.asked.now.stride = search rules in
    let stride = to_z-of_z w32 c.args.asked.now.stride stride-fits in
    let size : size_of c.args.asked.now.store c.args.stores.now ≡ c.unwrap_or-size.result = size-read c.args.asked.now.store c.args.stores.now c.size.result c.unwrap_or-size.result c.size.ensures
    c.unwrap_or-size.ensures in
    let why = refused-by _ c.layout.result c.in-Err.error c.in-Err.is c.layout.ensures.refused c.layout.ensures.accepted in
    let error = simp (offset, width, height, stride) at why in
    rw c.layout_refusal.ensures (buffer-refused c.args.object c.args.version c.args.asked.now.store c.args.stores.now c.args.id c.args.asked.now.offset c.args.asked.now.width c.args.asked.now.height
    c.args.asked.now.stride c.args.asked.now.format c.unwrap_or-size.result c.in-Err.error (sym c.can_hold.ensures ∙ c.if-not-can_hold.false) size error)

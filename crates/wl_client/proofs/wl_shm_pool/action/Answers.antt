use Rattle.std.proofs.Common.{ap, ◌∙◌, rules, w32}
use Rattle.std.specs.Prelude.{FitsSigned}
use Rattle.std.proofs.lemmas.Int.{to_z-of_z}
use Rattle.wl_proto.specs.declared.wl_shm_pool.WlShmPoolRequest.TheVariants.{CreateBuffer}
use Rattle.spec_desktop.specs.Judgement.{pool_action}
use Rattle.wl_client.proofs.wl_shm_pool.action.Goals as goal

pub returns-in-CreateBuffer : goal.returns-in-CreateBuffer
returns-in-CreateBuffer g c =
    let asked = c.in-CreateBuffer in
    let offset-fits : FitsSigned w32 c.in-CreateBuffer.offset = search rules in
    let offset = to_z-of_z w32 c.in-CreateBuffer.offset offset-fits in
    let width-fits : FitsSigned w32 c.in-CreateBuffer.width = search rules in
    let width = to_z-of_z w32 c.in-CreateBuffer.width width-fits in
    let height-fits : FitsSigned w32 c.in-CreateBuffer.height = search rules in
    let height = to_z-of_z w32 c.in-CreateBuffer.height height-fits in
    let stride-fits : FitsSigned w32 c.in-CreateBuffer.stride = search rules in
    let stride = to_z-of_z w32 c.in-CreateBuffer.stride stride-fits in
    let request = CreateBuffer asked.id asked.offset asked.width asked.height asked.stride asked.format in
    let created = simp (offset, width, height, stride) at c.create_buffer.ensures in
    rw c.in-CreateBuffer.is (created ∙ ap (λ o. pool_action c.args.object c.args.version c.args.stores.now o request) c.in-Some.ensures.value)

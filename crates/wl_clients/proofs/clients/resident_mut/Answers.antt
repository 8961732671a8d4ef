use borrow.Follows.Closed.{read_of}
use Rattle.std.proofs.Common.{Some, ap, ◌∙◌}
use Rattle.std.specs.Option.{ghost_name_of}
use Rattle.std.specs.Vec.{with_item}
use Rattle.wl_clients.proofs.Lends.{at-place, put-same}
use Rattle.wl_clients.proofs.clients.resident_mut.Goals as goal

pub returns : goal.returns
returns g c =
    let v = c.args.residents.now in
    let name = ghost_name_of c.as_mut.result in
    let slot = c.in-Some-get_mut.slot.now in (
      ap (λ u. read_of name (λ w. with_item v c.in-Some.index (Some w)) u) (put-same v c.in-Some.index slot c.in-Some-get_mut.ensures.value)
          ∙ ap (λ n. read_of name (λ w. with_item v n (Some w)) v) c.in-Some.ensures.1,
      record { lends = tt; value = c.as_mut.ensures.value ∙ at-place v.items c.args.client c.in-Some.index slot c.in-Some.ensures.0 c.in-Some.ensures.1 c.in-Some-get_mut.ensures.item.0 c.in-Some-get_mut.ensures.value },
    )

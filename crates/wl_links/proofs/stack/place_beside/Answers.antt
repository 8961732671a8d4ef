use Rattle.std.proofs.Common.{◌≡◌, ◌∙◌, List, Some, ap, arith, length, sym, vec_len}
use Rattle.std.specs.List.{find}
use Rattle.wl_links.specs.declared.placed.Member.TheVariants.{Child}
use Rattle.wl_links.specs.declared.placed.Placed.{Placed}
use Rattle.wl_links.specs.Stacks.{is_of, without}
use Rattle.wl_links.proofs.Beside.{fewer-without}
use Rattle.wl_links.proofs.stack.place_beside.Goals as goal

pub put_beside-requires : goal.put_beside-requires
put_beside-requires g c =
    let ps = c.args.places.now.items in
    let found : find (is_of (Child c.args.child)) ps ≡ Some c.in-Some.place =
    ap (λ (qs : List Placed). find (is_of (Child c.args.child)) qs) (sym c.deref.ensures.value) ∙ sym c.in-Some.ensures in
    let long : vec_len c.take_out.new.places ≡ length (without (Child c.args.child) ps) =
    c.take_out.new.places.ok.0 ∙ ap (λ (qs : List Placed). length qs) c.take_out.ensures.items in
    omega (arith, fewer-without (Child c.args.child) ps c.in-Some.place found, long, c.args.places.now.ok.0, c.args.places.now.ok.1, c.take_out.ensures.capacity)

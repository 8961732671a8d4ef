use Rattle.std.proofs.Common.{◌≡◌, ◌∙◌, List, Some, ap, sym}
use Rattle.std.specs.List.{insert, position}
use Rattle.wl_links.specs.declared.placed.Placed.{Placed}
use Rattle.wl_links.specs.Stacks.{is_of}
use Rattle.wl_links.proofs.Beside.{put-above, put-below, put-in, put-nowhere}
use Rattle.wl_links.proofs.stack.put_beside.Goals.{in-Above, in-Below}
use Rattle.wl_links.proofs.stack.put_beside.Goals as goal

pub returns-in_default : goal.returns-in_default
returns-in_default g c =
    put-nowhere c.args.side c.args.at c.args.place c.args.places.now.items
    (ap (λ (ps : List Placed). position (is_of c.args.at) ps) (sym c.deref.ensures.value) ∙ sym c.in_default.ensures)

pub returns : goal.returns
returns g c =
    let ps = c.args.places.now.items in
    let index = c.match-side.index in
    let found : position (is_of c.args.at) ps ≡ Some c.in-Some.index =
    ap (λ (qs : List Placed). position (is_of c.args.at) qs) (sym c.deref.ensures.value) ∙ sym c.in-Some.ensures in
    let put : c.insert.new.self.items ≡ insert ps index c.args.place =
    put-in _ c.insert.new.self.items (insert ps index c.args.place) ps c.insert.ensures.items (c.insert.ensures.succeeds c.requires) in
    elim c.match-side.branch [
      | in-Above w ↦ put-above c.args.side c.args.at c.args.place ps c.insert.new.self.items c.in-Some.index index found w.in-Above.is w.index-is put
      | in-Below w ↦ put-below c.args.side c.args.at c.args.place ps c.insert.new.self.items c.in-Some.index index found w.in-Below.is w.index-is put
    ]

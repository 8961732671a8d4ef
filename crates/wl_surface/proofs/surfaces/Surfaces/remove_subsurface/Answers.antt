use Rattle.std.proofs.Common.{ap, map, sym, subst, ◌∙◌}
use Rattle.wl_surface.specs.Kept.{buffer_of}
use Rattle.wl_surface.specs.Applied.{AreFreed}
use Rattle.wl_surface.specs.Slots.{Numbered}
use Rattle.wl_surface.specs.Surfaces.{Surfaces}
use Rattle.wl_surface.specs.Trees.{descends_from, ending, with_link}
use Rattle.wl_surface.specs.Waiting.{AreWaiting}
use Rattle.wl_surface.specs.Linked.{Stand, SurfacesView, numbered}
use Rattle.wl_surface.specs.Tree.{numbers_of}
use Rattle.wl_surface.proofs.Applying.{descend, numbered-so, tree-freed, tree-stands, tree-told}
use Rattle.wl_surface.proofs.Ending.{ended-is, ended-stands, ended-those, never-none}
use Rattle.wl_surface.proofs.Showing.{are-shown}
use Rattle.wl_surface.proofs.TreeShown.{among-shown}
use Rattle.wl_surface.specs.Seen.{AreOf}
use Rattle.wl_surface.proofs.surfaces.Surfaces.remove_subsurface.Goals as goal

pub returns-then-is_none-clause-ok : goal.returns-then-is_none-clause-ok
returns-then-is_none-clause-ok g c = λ all number link is stand.
    never-none c.args.self.now.states c.args.self.now.family all number c.args.child link c.link.result is stand c.link.ensures c.if-is_none.ensures

pub returns-then-is_none-clause-waits : goal.returns-then-is_none-clause-waits
returns-then-is_none-clause-waits g c = λ all number link cs is stand are.
    never-none c.args.self.now.states c.args.self.now.family all number c.args.child link c.link.result is stand c.link.ensures c.if-is_none.ensures

pub returns-then-is_none-clause-changes : goal.returns-then-is_none-clause-changes
returns-then-is_none-clause-changes g c = λ all number link is stand.
    never-none c.args.self.now.states c.args.self.now.family all number c.args.child link c.link.result is stand c.link.ensures c.if-is_none.ensures

pub returns-then-is_none-clause-freed : goal.returns-then-is_none-clause-freed
returns-then-is_none-clause-freed g c = λ all number link is stand.
    never-none c.args.self.now.states c.args.self.now.family all number c.args.child link c.link.result is stand c.link.ensures c.if-is_none.ensures

pub returns-clause-ok : goal.returns-clause-ok
returns-clause-ok g c = λ all number link is stand.
    let v = c.args.self.now in
    let family = ap (λ (v : SurfacesView). v.family) c.self.view_is in
    let links = rw family at c.leave.ensures.links in
    let there = rw family at c.leave.ensures.there in
    let stacks = rw family at c.leave.ensures.stacks in
    let states = ap (λ (v : SurfacesView). v.states) c.self.view_is in
    let stands = rw states at c.apply_tree.ensures.stand in
    let new = c.apply_tree.new.self in
    let e = c.apply_tree.ensures in
    subst (λ (a : Surfaces). Stand new.states new.family a)
    (sym (ended-is v.states v.family c.leave.new.self all number c.args.child link c.in_ok-room.room.below.items is stand links there
    stacks c.in_ok-room.ensures.those))
    (tree-stands v.states new.states c.leave.new.self new.family (with_link number ending all) c.args.child c.in_ok-room.room.below.items
    (ended-stands v.states v.family c.leave.new.self all number c.args.child link c.in_ok-room.room.below.items is stand links there
    stacks c.in_ok-room.ensures.those)
    (ended-those v.states v.family c.leave.new.self all number c.args.child link c.in_ok-room.room.below.items is stand links there
    stacks c.in_ok-room.ensures.those)
    stands e.links e.places e.stacks)

pub returns-clause-waits : goal.returns-clause-waits
returns-clause-waits g c = λ all number link cs is stand are.
    let v = c.args.self.now in
    let family = ap (λ (v : SurfacesView). v.family) c.self.view_is in
    let links = rw family at c.leave.ensures.links in
    let there = rw family at c.leave.ensures.there in
    let stacks = rw family at c.leave.ensures.stacks in
    let states = ap (λ (v : SurfacesView). v.states) c.self.view_is in
    let waits_all = rw states at c.apply_tree.ensures.waits in
    let new = c.apply_tree.new.self in
    subst (λ (a : Surfaces). AreWaiting new.states.frames (numbered a) cs)
    (sym (ended-is v.states v.family c.leave.new.self all number c.args.child link c.in_ok-room.room.below.items is stand links there
    stacks c.in_ok-room.ensures.those))
    (subst (λ (named : Numbered). AreWaiting new.states.frames named cs)
    (sym (numbered-so v.states new.states c.leave.new.self new.family (with_link number ending all) c.args.child c.in_ok-room.room.below.items
    (ended-stands v.states v.family c.leave.new.self all number c.args.child link c.in_ok-room.room.below.items is stand links there
    stacks c.in_ok-room.ensures.those)
    (ended-those v.states v.family c.leave.new.self all number c.args.child link c.in_ok-room.room.below.items is stand links there
    stacks c.in_ok-room.ensures.those)))
    (waits_all (numbered all) cs are))

pub returns-clause-changes : goal.returns-clause-changes
returns-clause-changes g c = λ all number link is stand.
    let v = c.args.self.now in
    let family = ap (λ (v : SurfacesView). v.family) c.self.view_is in
    let links = rw family at c.leave.ensures.links in
    let there = rw family at c.leave.ensures.there in
    let stacks = rw family at c.leave.ensures.stacks in
    let states = ap (λ (v : SurfacesView). v.states) c.self.view_is in
    let told = rw states at c.apply_tree.ensures.told in
    let new = c.apply_tree.new.self in
    tree-told v.states new.states c.leave.new.self new.family (with_link number ending all) c.args.child c.in_ok-room.room.below.items
    (ended-stands v.states v.family c.leave.new.self all number c.args.child link c.in_ok-room.room.below.items is stand links there
    stacks c.in_ok-room.ensures.those)
    (ended-those v.states v.family c.leave.new.self all number c.args.child link c.in_ok-room.room.below.items is stand links there
    stacks c.in_ok-room.ensures.those)
    c.in_ok-room.room.changes.items c.apply_tree.result.changes.items (c.in_ok-room.ensures.told ∙ c.new.ensures.items) c.in_ok-room.ensures.once
    (told (numbered all) stand.surfaces c.in_ok-room.ensures.once)

pub returns-clause-freed : goal.returns-clause-freed
returns-clause-freed g c = λ all number link is stand.
    let v = c.args.self.now in
    let family = ap (λ (v : SurfacesView). v.family) c.self.view_is in
    let links = rw family at c.leave.ensures.links in
    let there = rw family at c.leave.ensures.there in
    let stacks = rw family at c.leave.ensures.stacks in
    let new = c.apply_tree.new.self in
    let ended = ended-is v.states v.family c.leave.new.self all number c.args.child link c.in_ok-room.room.below.items is stand links
    there stacks c.in_ok-room.ensures.those in
    let after = subst (λ (a : Surfaces). Stand new.states new.family a) ended (returns-clause-ok g c all number link is stand) in
    subst (λ (a : Surfaces). AreFreed c.apply_tree.result.freed.items (numbered all) (numbered a)) (sym ended)
    (tree-freed v.states new.states c.leave.new.self new.family (with_link number ending all) c.args.child c.in_ok-room.room.below.items
    (ended-stands v.states v.family c.leave.new.self all number c.args.child link c.in_ok-room.room.below.items is stand links there
    stacks c.in_ok-room.ensures.those)
    (ended-those v.states v.family c.leave.new.self all number c.args.child link c.in_ok-room.room.below.items is stand links there
    stacks c.in_ok-room.ensures.those)
    (numbers_of (map buffer_of c.in_ok-room.room.shown.items)) c.apply_tree.result.freed.items
    (among-shown c.in_ok-room.room.below.items (numbered all) c.in_ok-room.room.shown.items (c.in_ok-room.ensures.shown (numbered all) stand.surfaces))
    (c.apply_tree.ensures.freed _ after.surfaces))

pub returns-clause-shown : goal.returns-clause-shown
returns-clause-shown g c = λ all number link is stand.
    let v = c.args.self.now in
    rw c.apply_tree.ensures.shown
    (are-shown c.in_ok-room.room.below.items (descends_from 16 all c.args.child) all c.in_ok-room.room.shown.items
    (descend v.states v.states v.family v.family all c.args.child c.in_ok-room.room.below.items stand c.in_ok-room.ensures.those) (c.in_ok-room.ensures.shown (numbered all) stand.surfaces))

pub returns-then-is_none-clause-shown : goal.returns-then-is_none-clause-shown
returns-then-is_none-clause-shown g c = λ all number link is stand.
    never-none c.args.self.now.states c.args.self.now.family all number c.args.child link c.link.result is stand c.link.ensures c.if-is_none.ensures

pub returns-clause-whole : goal.returns-clause-whole
returns-clause-whole g c = λ all number link is stand.
    let states = ap (λ (v : SurfacesView). v.states) c.self.view_is in
    let whole = rw states at c.apply_tree.ensures.whole in
    whole all _ (numbered all) stand.surfaces c.in_ok-room.ensures.once
    (subst (AreOf c.in_ok-room.room.below.items) (sym (c.in_ok-room.ensures.told ∙ c.new.ensures.items)) tt)
    (c.in_ok-room.ensures.seen all stand) (returns-clause-ok g c all number link is stand)

pub returns-then-is_none-clause-whole : goal.returns-then-is_none-clause-whole
returns-then-is_none-clause-whole g c = λ all number link is stand.
    never-none c.args.self.now.states c.args.self.now.family all number c.args.child link c.link.result is stand c.link.ensures c.if-is_none.ensures

use Rattle.std.proofs.Common.{ap, map, sym, subst, ◌∙◌}
use Rattle.wl_surface.specs.Kept.{buffer_of}
use Rattle.wl_surface.specs.Slots.{Numbered}
use Rattle.wl_surface.specs.Trees.{descends_from}
use Rattle.wl_surface.specs.Waiting.{AreWaiting}
use Rattle.wl_surface.specs.Linked.{SurfacesView, numbered}
use Rattle.wl_surface.specs.Tree.{numbers_of}
use Rattle.wl_surface.proofs.Applying.{descend, tree-told}
use Rattle.wl_surface.proofs.Committing.{held, mid-stands, mid-those, now-freed, now-numbered, now-stands, numbered-held}
use Rattle.wl_surface.proofs.Showing.{are-shown}
use Rattle.wl_surface.proofs.TreeShown.{among-shown}
use Rattle.wl_surface.specs.Seen.{AreOf}
use Rattle.wl_surface.proofs.surfaces.Surfaces.commit_now.Goals as goal

pub returns-clause-ok : goal.returns-clause-ok
returns-clause-ok g c = λ all stand.
    let v = c.args.self.now in
    let family = ap (λ (v : SurfacesView). v.family) c.self.view_is in
    let stacks = rw family at c.hold-2.ensures.stacks in
    let places = rw family at c.hold-2.ensures.places in
    let links = rw family at c.hold-2.ensures.links in
    let states = ap (λ (v : SurfacesView). v.states) c.self.view_is in
    let changes = rw states at c.in_ok-hold.ensures.ok in
    let e = c.apply_tree.ensures in
    now-stands v.states c.hold.new.self c.apply_tree.new.self.states v.family c.hold-2.new.self c.apply_tree.new.self.family all c.args.surface c.in_ok-room.room.below.items
    changes stacks places links c.in_ok-room.ensures.those stand e.stand e.links e.places e.stacks

pub returns-clause-waits : goal.returns-clause-waits
returns-clause-waits g c = λ all cs stand are.
    let v = c.args.self.now in
    let family = ap (λ (v : SurfacesView). v.family) c.self.view_is in
    let stacks = rw family at c.hold-2.ensures.stacks in
    let places = rw family at c.hold-2.ensures.places in
    let links = rw family at c.hold-2.ensures.links in
    let states = ap (λ (v : SurfacesView). v.states) c.self.view_is in
    let changes = rw states at c.in_ok-hold.ensures.ok in
    let waits = rw states at c.in_ok-hold.ensures.waits in
    let new = c.apply_tree.new.self in
    let mid = subst (λ (named : Numbered). AreWaiting c.hold.new.self.frames named cs) (sym (numbered-held c.args.surface all)) (waits (numbered all) cs stand.surfaces are) in
    subst (λ (named : Numbered). AreWaiting new.states.frames named cs)
    (sym (now-numbered v.states c.hold.new.self new.states v.family c.hold-2.new.self new.family all c.args.surface c.in_ok-room.room.below.items
    changes stacks places links c.in_ok-room.ensures.those stand))
    (c.apply_tree.ensures.waits (numbered (held c.args.surface all)) cs mid)

pub returns-clause-changes : goal.returns-clause-changes
returns-clause-changes g c = λ all stand.
    let v = c.args.self.now in
    let family = ap (λ (v : SurfacesView). v.family) c.self.view_is in
    let stacks = rw family at c.hold-2.ensures.stacks in
    let places = rw family at c.hold-2.ensures.places in
    let links = rw family at c.hold-2.ensures.links in
    let states = ap (λ (v : SurfacesView). v.states) c.self.view_is in
    let changes = rw states at c.in_ok-hold.ensures.ok in
    let new = c.apply_tree.new.self in
    let mid = mid-stands v.states c.hold.new.self new.states v.family c.hold-2.new.self new.family all c.args.surface c.in_ok-room.room.below.items
    changes stacks places links c.in_ok-room.ensures.those stand in
    let those = mid-those v.states c.hold.new.self new.states v.family c.hold-2.new.self new.family all c.args.surface c.in_ok-room.room.below.items
    changes stacks places links c.in_ok-room.ensures.those stand in
    tree-told c.hold.new.self new.states c.hold-2.new.self new.family (held c.args.surface all) c.args.surface c.in_ok-room.room.below.items mid those
    c.in_ok-room.room.changes.items c.apply_tree.result.changes.items
    (c.in_ok-room.ensures.told ∙ c.new.ensures.items) c.in_ok-room.ensures.once (c.apply_tree.ensures.told (numbered (held c.args.surface all)) mid.surfaces c.in_ok-room.ensures.once)

pub returns-clause-freed : goal.returns-clause-freed
returns-clause-freed g c = λ all stand.
    let v = c.args.self.now in
    let family = ap (λ (v : SurfacesView). v.family) c.self.view_is in
    let stacks = rw family at c.hold-2.ensures.stacks in
    let places = rw family at c.hold-2.ensures.places in
    let links = rw family at c.hold-2.ensures.links in
    let states = ap (λ (v : SurfacesView). v.states) c.self.view_is in
    let changes = rw states at c.in_ok-hold.ensures.ok in
    let new = c.apply_tree.new.self in
    let after = (returns-clause-ok g c all stand).surfaces in
    now-freed v.states c.hold.new.self new.states v.family c.hold-2.new.self new.family all c.args.surface c.in_ok-room.room.below.items
    changes stacks places links c.in_ok-room.ensures.those stand
    (numbers_of (map buffer_of c.in_ok-room.room.shown.items)) c.apply_tree.result.freed.items
    (among-shown c.in_ok-room.room.below.items (numbered all) c.in_ok-room.room.shown.items (c.in_ok-room.ensures.shown (numbered all) stand.surfaces))
    (c.apply_tree.ensures.freed _ after)

pub returns-clause-shown : goal.returns-clause-shown
returns-clause-shown g c = λ all stand.
    let v = c.args.self.now in
    rw c.apply_tree.ensures.shown
    (are-shown c.in_ok-room.room.below.items (descends_from 16 all c.args.surface) all c.in_ok-room.room.shown.items
    (descend v.states v.states v.family v.family all c.args.surface c.in_ok-room.room.below.items stand c.in_ok-room.ensures.those) (c.in_ok-room.ensures.shown (numbered all) stand.surfaces))

pub returns-clause-whole : goal.returns-clause-whole
returns-clause-whole g c = λ all stand.
    let v = c.args.self.now in
    let family = ap (λ (v : SurfacesView). v.family) c.self.view_is in
    let stacks = rw family at c.hold-2.ensures.stacks in
    let places = rw family at c.hold-2.ensures.places in
    let links = rw family at c.hold-2.ensures.links in
    let states = ap (λ (v : SurfacesView). v.states) c.self.view_is in
    let changes = rw states at c.in_ok-hold.ensures.ok in
    let new = c.apply_tree.new.self in
    let mid = mid-stands v.states c.hold.new.self new.states v.family c.hold-2.new.self new.family all c.args.surface c.in_ok-room.room.below.items
    changes stacks places links c.in_ok-room.ensures.those stand in
    c.apply_tree.ensures.whole all _ (numbered (held c.args.surface all)) mid.surfaces c.in_ok-room.ensures.once
    (subst (AreOf c.in_ok-room.room.below.items) (sym (c.in_ok-room.ensures.told ∙ c.new.ensures.items)) tt)
    (c.in_ok-room.ensures.seen all stand) (returns-clause-ok g c all stand)

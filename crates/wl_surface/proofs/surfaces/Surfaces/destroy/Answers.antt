use Rattle.std.proofs.Common.{ap, None, map, sym, subst}
use Rattle.wl_surface.specs.Kept.{buffer_of}
use Rattle.wl_surface.specs.Slots.{Numbered, with_at}
use Rattle.std.specs.Prelude.{filter, not}
use Rattle.wl_surface.specs.Trees.{descends_from}
use Rattle.wl_surface.specs.Waiting.{AreWaiting, Callback, frames_at, is_in}
use Rattle.wl_surface.specs.Linked.{SurfacesView, numbered}
use Rattle.wl_surface.specs.Tree.{numbers_of}
use Rattle.wl_surface.proofs.Applying.{descend}
use Rattle.wl_surface.proofs.Destroying.{destroyed-freed, destroyed-stands, destroyed-told, numbered-destroyed}
use Rattle.wl_surface.proofs.Showing.{are-shown}
use Rattle.wl_surface.proofs.TreeShown.{among-shown}
use Rattle.wl_surface.specs.Seen.{AreOf}
use Rattle.wl_surface.specs.Surfaces.{surface_at}
use Rattle.wl_surface.proofs.Applying.{itself-below}
use Rattle.wl_surface.proofs.Marked.{of-gone}
use Rattle.wl_surface.proofs.surfaces.Surfaces.destroy.Goals as goal

pub returns-clause-ok : goal.returns-clause-ok
returns-clause-ok g c = λ all stand.
    let v = c.args.self.now in
    let family = ap (λ (v : SurfacesView). v.family) c.self.view_is in
    let links = rw family at c.remove.ensures.links in
    let stacks = rw family at c.remove.ensures.stacks in
    let there = rw family at c.remove.ensures.there in
    let states = ap (λ (v : SurfacesView). v.states) c.self.view_is in
    let gone = rw states at c.in_ok-callbacks.ensures.ok in
    let new = c.apply_tree-applied.new.self in
    let e = c.apply_tree-applied.ensures in
    destroyed-stands v.states c.destroy.new.self new.states v.family c.remove.new.self new.family all c.args.surface c.in_ok-room.room.below.items
    c.in_ok-room.ensures.hang stand c.in_ok-room.ensures.those
    (gone (numbered all) stand.surfaces) e.stand links stacks there e.links e.places e.stacks

pub returns-clause-waits : goal.returns-clause-waits
returns-clause-waits g c = λ all cs stand are.
    let v = c.args.self.now in
    let states = ap (λ (v : SurfacesView). v.states) c.self.view_is in
    let waits = rw states at c.in_ok-callbacks.ensures.waits in
    let new = c.apply_tree-applied.new.self in
    let others = filter (λ (x : Callback). not (is_in (frames_at (numbered all c.args.surface)) x)) cs in
    subst (λ (named : Numbered). AreWaiting new.states.frames named others)
    (sym (numbered-destroyed v.states c.destroy.new.self new.states v.family c.remove.new.self new.family all c.args.surface c.in_ok-room.room.below.items
    c.in_ok-room.ensures.hang stand c.in_ok-room.ensures.those))
    (c.apply_tree-applied.ensures.waits (with_at c.args.surface None (numbered all)) others (waits (numbered all) cs are))

pub returns-clause-changes : goal.returns-clause-changes
returns-clause-changes g c = λ all stand.
    let v = c.args.self.now in
    let states = ap (λ (v : SurfacesView). v.states) c.self.view_is in
    let gone = rw states at c.in_ok-callbacks.ensures.ok in
    let new = c.apply_tree-applied.new.self in
    destroyed-told v.states c.destroy.new.self new.states v.family c.remove.new.self new.family all c.args.surface c.in_ok-room.room.below.items
    c.in_ok-room.ensures.hang stand c.in_ok-room.ensures.those
    c.in_ok-own.own.items c.apply_tree-applied.result.changes.items c.in_ok-room.room.changes.items (c.in_ok-own.ensures (numbered all) stand.surfaces) c.in_ok-room.ensures.told
    c.in_ok-room.ensures.once
    (c.apply_tree-applied.ensures.told (with_at c.args.surface None (numbered all)) (gone (numbered all) stand.surfaces) c.in_ok-room.ensures.once)

pub returns-clause-freed : goal.returns-clause-freed
returns-clause-freed g c = λ all stand.
    let v = c.args.self.now in
    let new = c.apply_tree-applied.new.self in
    let after = (returns-clause-ok g c all stand).surfaces in
    destroyed-freed v.states c.destroy.new.self new.states v.family c.remove.new.self new.family all c.args.surface c.in_ok-room.room.below.items
    c.in_ok-room.ensures.hang stand c.in_ok-room.ensures.those
    (numbers_of (map buffer_of c.in_ok-room.room.shown.items)) c.apply_tree-applied.result.freed.items
    (among-shown c.in_ok-room.room.below.items (numbered all) c.in_ok-room.room.shown.items (c.in_ok-room.ensures.shown (numbered all) stand.surfaces))
    (c.apply_tree-applied.ensures.freed _ after)

pub returns-clause-callbacks : goal.returns-clause-callbacks
returns-clause-callbacks g c = λ all cs are. (rw (ap (λ (v : SurfacesView). v.states) c.self.view_is) at c.in_ok-callbacks.ensures.ids) (numbered all) cs are

pub returns-clause-shown : goal.returns-clause-shown
returns-clause-shown g c = λ all stand.
    let v = c.args.self.now in
    rw c.apply_tree-applied.ensures.shown
    (are-shown c.in_ok-room.room.below.items (descends_from 16 all c.args.surface) all c.in_ok-room.room.shown.items
    (descend v.states v.states v.family v.family all c.args.surface c.in_ok-room.room.below.items stand c.in_ok-room.ensures.those) (c.in_ok-room.ensures.shown (numbered all) stand.surfaces))

pub returns-clause-whole : goal.returns-clause-whole
returns-clause-whole g c = λ all stand.
    let v = c.args.self.now in
    let states = ap (λ (v : SurfacesView). v.states) c.self.view_is in
    let gone = rw states at c.in_ok-callbacks.ensures.ok in
    let below = c.in_ok-room.room.below.items in
    c.apply_tree-applied.ensures.whole all _ (with_at c.args.surface None (numbered all)) (gone (numbered all) stand.surfaces) c.in_ok-room.ensures.once
    (subst (AreOf below) (sym c.in_ok-room.ensures.told)
    (of-gone below c.args.surface (surface_at c.args.surface all) c.in_ok-own.own.items
    (itself-below v.states v.states v.family v.family all c.args.surface below stand c.in_ok-room.ensures.those) (c.in_ok-own.ensures (numbered all) stand.surfaces)))
    (c.in_ok-room.ensures.seen all stand) (returns-clause-ok g c all stand)

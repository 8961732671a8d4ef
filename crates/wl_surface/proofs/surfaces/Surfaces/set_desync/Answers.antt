use Rattle.std.proofs.Common.{ap, ◌≡◌, false, true, map, sym, subst, ◌∙◌}
use Rattle.wl_surface.specs.Kept.{buffer_of}
use Rattle.std.specs.Prelude.{◌||◌, not}
use Rattle.wl_surface.specs.Applied.{AreFreed}
use Rattle.wl_surface.specs.Slots.{Numbered}
use Rattle.wl_surface.specs.Surfaces.{Surfaces}
use Rattle.wl_surface.specs.Trees.{in_mode, with_link}
use Rattle.wl_surface.specs.Waiting.{AreWaiting}
use Rattle.wl_surface.specs.Linked.{Stand, SurfacesView, numbered}
use Rattle.wl_surface.specs.Tree.{IsToldUnless, is_released, numbers_of}
use Rattle.wl_surface.proofs.Applying.{descend, nothing-freed, numbered-so, tree-freed, tree-stands, tree-told}
use Rattle.wl_surface.proofs.Ending.{desynchronised-is, goes, never-none, released-so, stays-before, stays-now, stays-so, unheld-stands, unheld-those, unreleased-so}
use Rattle.wl_surface.proofs.Showing.{are-shown, none-shown}
use Rattle.wl_surface.proofs.TreeShown.{among-shown}
use Rattle.wl_surface.specs.Seen.{AreOf}
use Rattle.wl_surface.specs.Whole.{AreWhole}
use Rattle.wl_surface.proofs.surfaces.Surfaces.set_desync.Goals as goal
use Rattle.wl_surface.proofs.surfaces.Surfaces.set_desync.Goals.{else-was_synchronised-via-then-was_synchronised+else-not-is_synchronised, else-was_synchronised-via-else-was_synchronised}

pub returns-then-is_none-clause-ok : goal.returns-then-is_none-clause-ok
returns-then-is_none-clause-ok g c = λ all number link is stand.
    never-none c.args.self.now.states c.args.self.now.family all number c.args.child link c.link.result is stand c.link.ensures c.if-is_none.ensures

pub returns-then-is_none-clause-waits : goal.returns-then-is_none-clause-waits
returns-then-is_none-clause-waits g c = λ all number link cs is stand are.
    never-none c.args.self.now.states c.args.self.now.family all number c.args.child link c.link.result is stand c.link.ensures c.if-is_none.ensures

pub returns-then-is_none-clause-changes : goal.returns-then-is_none-clause-changes
returns-then-is_none-clause-changes g c = λ all number link is stand.
    never-none c.args.self.now.states c.args.self.now.family all number c.args.child link c.link.result is stand c.link.ensures c.if-is_none.ensures

pub returns-then-is_none-clause-freed : goal.returns-then-is_none-clause-freed
returns-then-is_none-clause-freed g c = λ all number link is stand.
    never-none c.args.self.now.states c.args.self.now.family all number c.args.child link c.link.result is stand c.link.ensures c.if-is_none.ensures

pub returns-then-not-is_synchronised-clause-ok : goal.returns-then-not-is_synchronised-clause-ok
returns-then-not-is_synchronised-clause-ok g c = λ all number link is stand.
    let v = c.args.self.now in
    let family = ap (λ (v : SurfacesView). v.family) c.self.view_is in
    let links = rw family at c.set_synchronised.ensures.links in
    let places = rw family at c.set_synchronised.ensures.places in
    let stacks = rw family at c.set_synchronised.ensures.stacks in
    let states = ap (λ (v : SurfacesView). v.states) c.self.view_is in
    let stands = rw states at c.apply_tree.ensures.stand in
    let new = c.apply_tree.new.self in
    let e = c.apply_tree.ensures in
    subst (λ (a : Surfaces). Stand new.states new.family a)
    (sym (desynchronised-is v.states v.family c.set_synchronised.new.self all number c.args.child link c.in_ok-room.room.below.items is stand
    links places stacks c.in_ok-room.ensures.those
    c.behaves_synchronised-was_synchronised.result c.behaves_synchronised-is_synchronised.result c.behaves_synchronised-was_synchronised.ensures c.behaves_synchronised-is_synchronised.ensures false
    (goes c.behaves_synchronised-was_synchronised.result c.behaves_synchronised-is_synchronised.result c.if-was_synchronised.true c.if-not-is_synchronised.true)))
    (tree-stands v.states new.states c.set_synchronised.new.self new.family (with_link number (in_mode false) all) c.args.child c.in_ok-room.room.below.items
    (unheld-stands v.states v.family c.set_synchronised.new.self all number c.args.child link c.in_ok-room.room.below.items is stand
    links places stacks c.in_ok-room.ensures.those)
    (unheld-those v.states v.family c.set_synchronised.new.self all number c.args.child link c.in_ok-room.room.below.items is stand
    links places stacks c.in_ok-room.ensures.those)
    stands e.links e.places e.stacks)

pub returns-then-not-is_synchronised-clause-waits : goal.returns-then-not-is_synchronised-clause-waits
returns-then-not-is_synchronised-clause-waits g c = λ all number link cs is stand are.
    let v = c.args.self.now in
    let family = ap (λ (v : SurfacesView). v.family) c.self.view_is in
    let links = rw family at c.set_synchronised.ensures.links in
    let places = rw family at c.set_synchronised.ensures.places in
    let stacks = rw family at c.set_synchronised.ensures.stacks in
    let states = ap (λ (v : SurfacesView). v.states) c.self.view_is in
    let waits_all = rw states at c.apply_tree.ensures.waits in
    let new = c.apply_tree.new.self in
    let e = c.apply_tree.ensures in
    subst (λ (a : Surfaces). AreWaiting new.states.frames (numbered a) cs)
    (sym (desynchronised-is v.states v.family c.set_synchronised.new.self all number c.args.child link c.in_ok-room.room.below.items is stand
    links places stacks c.in_ok-room.ensures.those
    c.behaves_synchronised-was_synchronised.result c.behaves_synchronised-is_synchronised.result c.behaves_synchronised-was_synchronised.ensures c.behaves_synchronised-is_synchronised.ensures false
    (goes c.behaves_synchronised-was_synchronised.result c.behaves_synchronised-is_synchronised.result c.if-was_synchronised.true c.if-not-is_synchronised.true)))
    (subst (λ (named : Numbered). AreWaiting new.states.frames named cs)
    (sym (numbered-so v.states new.states c.set_synchronised.new.self new.family (with_link number (in_mode false) all) c.args.child c.in_ok-room.room.below.items
    (unheld-stands v.states v.family c.set_synchronised.new.self all number c.args.child link c.in_ok-room.room.below.items is stand
    links places stacks c.in_ok-room.ensures.those)
    (unheld-those v.states v.family c.set_synchronised.new.self all number c.args.child link c.in_ok-room.room.below.items is stand
    links places stacks c.in_ok-room.ensures.those)))
    (waits_all (numbered all) cs are))

pub returns-then-not-is_synchronised-clause-changes : goal.returns-then-not-is_synchronised-clause-changes
returns-then-not-is_synchronised-clause-changes g c = λ all number link is stand.
    let v = c.args.self.now in
    let family = ap (λ (v : SurfacesView). v.family) c.self.view_is in
    let links = rw family at c.set_synchronised.ensures.links in
    let places = rw family at c.set_synchronised.ensures.places in
    let stacks = rw family at c.set_synchronised.ensures.stacks in
    let states = ap (λ (v : SurfacesView). v.states) c.self.view_is in
    let told = rw states at c.apply_tree.ensures.told in
    let new = c.apply_tree.new.self in
    let e = c.apply_tree.ensures in
    subst (λ b. IsToldUnless b c.args.child (with_link number (in_mode false) all) c.apply_tree.result.changes.items)
    (sym (stays-so v.states v.family c.set_synchronised.new.self all number c.args.child link c.in_ok-room.room.below.items is stand
    links places stacks c.in_ok-room.ensures.those
    c.behaves_synchronised-was_synchronised.result c.behaves_synchronised-is_synchronised.result c.behaves_synchronised-was_synchronised.ensures c.behaves_synchronised-is_synchronised.ensures false
    (goes c.behaves_synchronised-was_synchronised.result c.behaves_synchronised-is_synchronised.result c.if-was_synchronised.true c.if-not-is_synchronised.true)))
    (tree-told v.states new.states c.set_synchronised.new.self new.family (with_link number (in_mode false) all) c.args.child c.in_ok-room.room.below.items
    (unheld-stands v.states v.family c.set_synchronised.new.self all number c.args.child link c.in_ok-room.room.below.items is stand
    links places stacks c.in_ok-room.ensures.those)
    (unheld-those v.states v.family c.set_synchronised.new.self all number c.args.child link c.in_ok-room.room.below.items is stand
    links places stacks c.in_ok-room.ensures.those)
    c.in_ok-room.room.changes.items c.apply_tree.result.changes.items (c.in_ok-room.ensures.told ∙ c.new.ensures.items) c.in_ok-room.ensures.once (told (numbered all)
    stand.surfaces c.in_ok-room.ensures.once))

pub returns-then-not-is_synchronised-clause-freed : goal.returns-then-not-is_synchronised-clause-freed
returns-then-not-is_synchronised-clause-freed g c = λ all number link is stand.
    let v = c.args.self.now in
    let family = ap (λ (v : SurfacesView). v.family) c.self.view_is in
    let links = rw family at c.set_synchronised.ensures.links in
    let places = rw family at c.set_synchronised.ensures.places in
    let stacks = rw family at c.set_synchronised.ensures.stacks in
    let new = c.apply_tree.new.self in
    let e = c.apply_tree.ensures in
    let desync = desynchronised-is v.states v.family c.set_synchronised.new.self all number c.args.child link c.in_ok-room.room.below.items is stand
    links places stacks c.in_ok-room.ensures.those
    c.behaves_synchronised-was_synchronised.result c.behaves_synchronised-is_synchronised.result c.behaves_synchronised-was_synchronised.ensures c.behaves_synchronised-is_synchronised.ensures false
    (goes c.behaves_synchronised-was_synchronised.result c.behaves_synchronised-is_synchronised.result c.if-was_synchronised.true c.if-not-is_synchronised.true) in
    let after = subst (λ (a : Surfaces). Stand new.states new.family a) desync (returns-then-not-is_synchronised-clause-ok g c all number link is stand) in
    subst (λ (a : Surfaces). AreFreed c.apply_tree.result.freed.items (numbered all) (numbered a)) (sym desync)
    (tree-freed v.states new.states c.set_synchronised.new.self new.family (with_link number (in_mode false) all) c.args.child c.in_ok-room.room.below.items
    (unheld-stands v.states v.family c.set_synchronised.new.self all number c.args.child link c.in_ok-room.room.below.items is stand
    links places stacks c.in_ok-room.ensures.those)
    (unheld-those v.states v.family c.set_synchronised.new.self all number c.args.child link c.in_ok-room.room.below.items is stand
    links places stacks c.in_ok-room.ensures.those)
    (numbers_of (map buffer_of c.in_ok-room.room.shown.items)) c.apply_tree.result.freed.items
    (among-shown c.in_ok-room.room.below.items (numbered all) c.in_ok-room.room.shown.items (c.in_ok-room.ensures.shown (numbered all) stand.surfaces))
    (e.freed _ after.surfaces))

pub returns-clause-ok : goal.returns-clause-ok
returns-clause-ok g c = λ all number link is stand.
    let v = c.args.self.now in
    let family = ap (λ (v : SurfacesView). v.family) c.self.view_is in
    let links = rw family at c.set_synchronised.ensures.links in
    let places = rw family at c.set_synchronised.ensures.places in
    let stacks = rw family at c.set_synchronised.ensures.stacks in
    let stays : (not c.behaves_synchronised-was_synchronised.result || c.behaves_synchronised-is_synchronised.result) ≡ true = elim c.else-was_synchronised.branch [
      | else-was_synchronised-via-then-was_synchronised+else-not-is_synchronised w ↦ stays-now c.behaves_synchronised-was_synchronised.result
          c.behaves_synchronised-is_synchronised.result w.if-not-is_synchronised.false
      | else-was_synchronised-via-else-was_synchronised w ↦ stays-before c.behaves_synchronised-was_synchronised.result c.behaves_synchronised-is_synchronised.result w.if-was_synchronised.false
    ] in
    let kept : c.else-was_synchronised.self ≡ record { states = c.self.inside.states; family = c.set_synchronised.new.self } = elim c.else-was_synchronised.branch [
      | else-was_synchronised-via-then-was_synchronised+else-not-is_synchronised w ↦ w.self-is
      | else-was_synchronised-via-else-was_synchronised w ↦ w.self-is
    ] in
    rw (kept, ap (λ (v : SurfacesView). v.states) c.self.view_is)
    (subst (λ (a : Surfaces). Stand v.states c.set_synchronised.new.self a)
    (sym (desynchronised-is v.states v.family c.set_synchronised.new.self all number c.args.child link c.in_ok-room.room.below.items is stand
    links places stacks c.in_ok-room.ensures.those
    c.behaves_synchronised-was_synchronised.result c.behaves_synchronised-is_synchronised.result c.behaves_synchronised-was_synchronised.ensures
    c.behaves_synchronised-is_synchronised.ensures true stays))
    (unheld-stands v.states v.family c.set_synchronised.new.self all number c.args.child link c.in_ok-room.room.below.items is stand
    links places stacks c.in_ok-room.ensures.those))

pub returns-clause-waits : goal.returns-clause-waits
returns-clause-waits g c = λ all number link cs is stand are.
    let v = c.args.self.now in
    let family = ap (λ (v : SurfacesView). v.family) c.self.view_is in
    let links = rw family at c.set_synchronised.ensures.links in
    let places = rw family at c.set_synchronised.ensures.places in
    let stacks = rw family at c.set_synchronised.ensures.stacks in
    let stays : (not c.behaves_synchronised-was_synchronised.result || c.behaves_synchronised-is_synchronised.result) ≡ true = elim c.else-was_synchronised.branch [
      | else-was_synchronised-via-then-was_synchronised+else-not-is_synchronised w ↦ stays-now c.behaves_synchronised-was_synchronised.result
          c.behaves_synchronised-is_synchronised.result w.if-not-is_synchronised.false
      | else-was_synchronised-via-else-was_synchronised w ↦ stays-before c.behaves_synchronised-was_synchronised.result c.behaves_synchronised-is_synchronised.result w.if-was_synchronised.false
    ] in
    let kept : c.else-was_synchronised.self ≡ record { states = c.self.inside.states; family = c.set_synchronised.new.self } = elim c.else-was_synchronised.branch [
      | else-was_synchronised-via-then-was_synchronised+else-not-is_synchronised w ↦ w.self-is
      | else-was_synchronised-via-else-was_synchronised w ↦ w.self-is
    ] in
    rw (kept, ap (λ (v : SurfacesView). v.states) c.self.view_is)
    (subst (λ (a : Surfaces). AreWaiting v.states.frames (numbered a) cs)
    (sym (desynchronised-is v.states v.family c.set_synchronised.new.self all number c.args.child link c.in_ok-room.room.below.items is stand
    links places stacks c.in_ok-room.ensures.those
    c.behaves_synchronised-was_synchronised.result c.behaves_synchronised-is_synchronised.result c.behaves_synchronised-was_synchronised.ensures
    c.behaves_synchronised-is_synchronised.ensures true stays))
    are)

pub returns-clause-changes : goal.returns-clause-changes
returns-clause-changes g c = λ all number link is stand.
    let v = c.args.self.now in
    let family = ap (λ (v : SurfacesView). v.family) c.self.view_is in
    let links = rw family at c.set_synchronised.ensures.links in
    let places = rw family at c.set_synchronised.ensures.places in
    let stacks = rw family at c.set_synchronised.ensures.stacks in
    let stays : (not c.behaves_synchronised-was_synchronised.result || c.behaves_synchronised-is_synchronised.result) ≡ true = elim c.else-was_synchronised.branch [
      | else-was_synchronised-via-then-was_synchronised+else-not-is_synchronised w ↦ stays-now c.behaves_synchronised-was_synchronised.result
          c.behaves_synchronised-is_synchronised.result w.if-not-is_synchronised.false
      | else-was_synchronised-via-else-was_synchronised w ↦ stays-before c.behaves_synchronised-was_synchronised.result c.behaves_synchronised-is_synchronised.result w.if-was_synchronised.false
    ] in
    subst (λ b. IsToldUnless b c.args.child (with_link number (in_mode false) all) c.nothing-2.result.changes.items)
    (sym (stays-so v.states v.family c.set_synchronised.new.self all number c.args.child link c.in_ok-room.room.below.items is stand
    links places stacks c.in_ok-room.ensures.those
    c.behaves_synchronised-was_synchronised.result c.behaves_synchronised-is_synchronised.result c.behaves_synchronised-was_synchronised.ensures
    c.behaves_synchronised-is_synchronised.ensures true stays))
    c.nothing-2.ensures.changes

pub returns-clause-freed : goal.returns-clause-freed
returns-clause-freed g c = λ all number link is stand.
    let v = c.args.self.now in
    let family = ap (λ (v : SurfacesView). v.family) c.self.view_is in
    let links = rw family at c.set_synchronised.ensures.links in
    let places = rw family at c.set_synchronised.ensures.places in
    let stacks = rw family at c.set_synchronised.ensures.stacks in
    let stays : (not c.behaves_synchronised-was_synchronised.result || c.behaves_synchronised-is_synchronised.result) ≡ true = elim c.else-was_synchronised.branch [
      | else-was_synchronised-via-then-was_synchronised+else-not-is_synchronised w ↦ stays-now c.behaves_synchronised-was_synchronised.result
          c.behaves_synchronised-is_synchronised.result w.if-not-is_synchronised.false
      | else-was_synchronised-via-else-was_synchronised w ↦ stays-before c.behaves_synchronised-was_synchronised.result c.behaves_synchronised-is_synchronised.result w.if-was_synchronised.false
    ] in
    subst (λ (a : Surfaces). AreFreed c.nothing-2.result.freed.items (numbered all) (numbered a))
    (sym (desynchronised-is v.states v.family c.set_synchronised.new.self all number c.args.child link c.in_ok-room.room.below.items is stand
    links places stacks c.in_ok-room.ensures.those
    c.behaves_synchronised-was_synchronised.result c.behaves_synchronised-is_synchronised.result c.behaves_synchronised-was_synchronised.ensures
    c.behaves_synchronised-is_synchronised.ensures true stays))
    (rw c.nothing-2.ensures.freed (nothing-freed (numbered all)))

pub returns-then-is_none-clause-shown : goal.returns-then-is_none-clause-shown
returns-then-is_none-clause-shown g c = λ all number link is stand.
    never-none c.args.self.now.states c.args.self.now.family all number c.args.child link c.link.result is stand c.link.ensures c.if-is_none.ensures

pub returns-then-not-is_synchronised-clause-shown : goal.returns-then-not-is_synchronised-clause-shown
returns-then-not-is_synchronised-clause-shown g c = λ all number link is stand.
    let v = c.args.self.now in
    let family = ap (λ (v : SurfacesView). v.family) c.self.view_is in
    let links = rw family at c.set_synchronised.ensures.links in
    let places = rw family at c.set_synchronised.ensures.places in
    let stacks = rw family at c.set_synchronised.ensures.stacks in
    rw c.apply_tree.ensures.shown
    (are-shown c.in_ok-room.room.below.items (is_released number c.args.child all) all c.in_ok-room.room.shown.items
    (λ n. descend v.states v.states v.family v.family all c.args.child c.in_ok-room.room.below.items stand c.in_ok-room.ensures.those n
    ∙ sym (released-so v.states v.family c.set_synchronised.new.self all number c.args.child link c.in_ok-room.room.below.items is stand
    links places stacks c.in_ok-room.ensures.those
    c.behaves_synchronised-was_synchronised.result c.behaves_synchronised-is_synchronised.result c.behaves_synchronised-was_synchronised.ensures c.behaves_synchronised-is_synchronised.ensures
    c.if-was_synchronised.true c.if-not-is_synchronised.true n)) (c.in_ok-room.ensures.shown (numbered all) stand.surfaces))

pub returns-clause-shown : goal.returns-clause-shown
returns-clause-shown g c = λ all number link is stand.
    let v = c.args.self.now in
    let family = ap (λ (v : SurfacesView). v.family) c.self.view_is in
    let links = rw family at c.set_synchronised.ensures.links in
    let places = rw family at c.set_synchronised.ensures.places in
    let stacks = rw family at c.set_synchronised.ensures.stacks in
    let stays : (not c.behaves_synchronised-was_synchronised.result || c.behaves_synchronised-is_synchronised.result) ≡ true = elim c.else-was_synchronised.branch [
      | else-was_synchronised-via-then-was_synchronised+else-not-is_synchronised w ↦ stays-now c.behaves_synchronised-was_synchronised.result
          c.behaves_synchronised-is_synchronised.result w.if-not-is_synchronised.false
      | else-was_synchronised-via-else-was_synchronised w ↦ stays-before c.behaves_synchronised-was_synchronised.result c.behaves_synchronised-is_synchronised.result w.if-was_synchronised.false
    ] in
    none-shown (is_released number c.args.child all) all c.nothing-2.result.shown.items
    (unreleased-so v.states v.family c.set_synchronised.new.self all number c.args.child link c.in_ok-room.room.below.items is stand
    links places stacks c.in_ok-room.ensures.those
    c.behaves_synchronised-was_synchronised.result c.behaves_synchronised-is_synchronised.result c.behaves_synchronised-was_synchronised.ensures c.behaves_synchronised-is_synchronised.ensures
    stays) c.nothing-2.ensures.shown

pub returns-then-is_none-clause-whole : goal.returns-then-is_none-clause-whole
returns-then-is_none-clause-whole g c = λ all number link is stand.
    never-none c.args.self.now.states c.args.self.now.family all number c.args.child link c.link.result is stand c.link.ensures c.if-is_none.ensures

pub returns-then-not-is_synchronised-clause-whole : goal.returns-then-not-is_synchronised-clause-whole
returns-then-not-is_synchronised-clause-whole g c = λ all number link is stand.
    let states = ap (λ (v : SurfacesView). v.states) c.self.view_is in
    let whole = rw states at c.apply_tree.ensures.whole in
    whole all _ (numbered all) stand.surfaces c.in_ok-room.ensures.once
    (subst (AreOf c.in_ok-room.room.below.items) (sym (c.in_ok-room.ensures.told ∙ c.new.ensures.items)) tt)
    (c.in_ok-room.ensures.seen all stand) (returns-then-not-is_synchronised-clause-ok g c all number link is stand)

pub returns-clause-whole : goal.returns-clause-whole
returns-clause-whole g c = λ all number link is stand. subst (AreWhole all _) (sym c.nothing-2.ensures.changes) tt

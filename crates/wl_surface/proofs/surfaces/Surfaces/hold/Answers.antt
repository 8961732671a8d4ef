use Rattle.std.proofs.Common.{◌==◌, [], ◌∷◌, map, sym, subst}
use Rattle.wl_surface.specs.Kept.{buffer_of}
use Rattle.wl_surface.specs.Slots.{Numbered}
use Rattle.wl_surface.specs.Waiting.{AreWaiting}
use Rattle.wl_surface.specs.Linked.{numbered}
use Rattle.wl_surface.specs.Tree.{numbers_of}
use Rattle.wl_surface.proofs.Committing.{held-freed, held-stands, numbered-held}
use Rattle.wl_surface.proofs.Showing.{among-alone, are-shown}
use Rattle.wl_surface.proofs.TreeShown.{among-shown}
use Rattle.wl_surface.proofs.surfaces.Surfaces.hold.Goals as goal

pub returns-clause-ok : goal.returns-clause-ok
returns-clause-ok g c = rw (← c.self.view_is) (λ all stand.
    let v = c.self.inside in
    held-stands v.states c.hold.new.self v.family c.hold-2.new.self all c.args.surface c.in_ok-hold.ensures.ok c.hold-2.ensures.stacks c.hold-2.ensures.places c.hold-2.ensures.links stand)

pub returns-clause-waits : goal.returns-clause-waits
returns-clause-waits g c = rw (← c.self.view_is) (λ all cs stand are.
    subst (λ (named : Numbered). AreWaiting c.hold.new.self.frames named cs) (sym (numbered-held c.args.surface all)) (c.in_ok-hold.ensures.waits (numbered all) cs stand.surfaces are))

pub returns-clause-freed : goal.returns-clause-freed
returns-clause-freed g c = λ all stand.
    let seen = rw (← c.self.view_is) at stand in
    let after = (returns-clause-ok g c all stand).surfaces in
    held-freed all c.args.surface (numbers_of (map buffer_of c.in_ok-shown.shown.items)) c.add_freed.new.freed.items
    (among-shown (c.args.surface ∷ []) (numbered all) c.in_ok-shown.shown.items (c.in_ok-shown.ensures (numbered all) seen.surfaces))
    (λ b is any. rw c.deref.ensures.value at c.add_freed.ensures.counted _ after b is any)

pub returns-clause-shown : goal.returns-clause-shown
returns-clause-shown g c = rw (← c.self.view_is) (λ all stand.
    are-shown (c.args.surface ∷ []) (λ n. n == c.args.surface) all c.in_ok-shown.shown.items (among-alone c.args.surface) (c.in_ok-shown.ensures (numbered all) stand.surfaces))

pub returns-clause-among : goal.returns-clause-among
returns-clause-among g c = λ number e. rw c.deref.ensures.value at c.add_freed.ensures.among number e

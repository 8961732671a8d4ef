use Rattle.std.proofs.Common.{Fits, ◌≡◌, ◌≤◌, ◌+◌, ◌<◌, ◌∙◌, List, ap, arith, length, rules, subst, sym, w32}
use Rattle.std.proofs.lemmas.List.{length-replicate}
use Rattle.wl_store.specs.Kept.{IsKept, seen}
use Rattle.wl_store.specs.Stores.{Held, IsSound, Stock, is_full, total_size}
use Rattle.wl_store.proofs.Kept.{lends-more, lends_push, seen_push}
use Rattle.wl_store.proofs.Refusals.{made-is, number-left}
use Rattle.wl_store.proofs.Sound.{next-fresh, sound-made}
use Rattle.wl_store.proofs.stores.Stores.make.Goals as goal

pub invariant_of-self-2 : goal.invariant_of-self-2
invariant_of-self-2 g c =
    let stores = c.self.inside.held.items in
    let store = c.in_ok-store.store in
    let sized : length store.held.bytes ≡ c.args.size = ap (λ (s : Held). length s.bytes) c.in_ok-store.ensures ∙ length-replicate c.args.size 0 in
    let more : c.self.inside.zeros ≤ c.grow_to.new.self = omega (arith, c.in_ok-grow_to.ensures.ok) in
    let enough : length store.held.bytes ≤ c.grow_to.new.self = omega (arith, sized, c.in_ok-grow_to.ensures.ok) in
    let sound = sound-made (seen stores) c.self.inside.made c.self.inside.total c.args.size c.args.self.now store.held c.self.view_is c.self.invariant.sound c.requires.few c.requires.room c.in_ok-store.ensures in
    rw c.in_ok-push.ensures.items (record {
      sound = subst (λ (h : List Held). IsSound h (c.self.inside.made + 1) (c.self.inside.total + c.args.size)) (sym (seen_push stores store)) sound;
      lends = lends_push c.grow_to.new.self stores store (lends-more c.self.inside.zeros c.grow_to.new.self stores more c.self.invariant.lends) enough;
    })

pub invariant_of-self-in_err-push : goal.invariant_of-self-in_err-push
invariant_of-self-in_err-push g c =
    let more : c.self.inside.zeros ≤ c.grow_to.new.self = omega (arith, c.in_ok-grow_to.ensures.ok) in
    rw c.in_err-push.ensures.items (record {
      sound = c.self.invariant.sound;
      lends = lends-more c.self.inside.zeros c.grow_to.new.self c.self.inside.held.items more c.self.invariant.lends;
    })

pub invariant_of-self : goal.invariant_of-self
invariant_of-self g c = subst (IsKept c.self.inside.held.items c.self.inside.made c.self.inside.total) (sym c.in_err-grow_to.ensures.err) c.self.invariant

pub returns-clause-fresh : goal.returns-clause-fresh
returns-clause-fresh g c = next-fresh (seen c.self.inside.held.items) c.self.inside.made c.self.inside.total c.args.self.now c.self.view_is c.self.invariant.sound

pub overflow_add-made : goal.overflow_add-made
overflow_add-made g c =
    let fits : Fits w32 c.self.inside.made = search rules in
    let low : c.self.inside.made < 4294967296 = omega (arith, fits) in
    let left = number-left (length (seen c.self.inside.held.items)) c.self.inside.made (ap is_full c.self.view_is ∙ c.requires.few) low in
    omega (arith, left)

pub overflow_add-self : goal.overflow_add-self
overflow_add-self g c = omega (arith, c.self.invariant.sound.summed, ap total_size c.self.view_is, c.requires.room)

pub returns-clause-number : goal.returns-clause-number
returns-clause-number g c = ap (λ (s : Stock). s.made + 1) c.self.view_is

pub returns-clause-ok : goal.returns-clause-ok
returns-clause-ok g c =
    let stores = c.self.inside.held.items in
    let store = c.in_ok-store.store in
    made-is (seen stores) (seen c.push.new.self.items) c.self.inside.made c.args.size c.args.self.now store.held (ap seen c.in_ok-push.ensures.items ∙ seen_push stores store) c.in_ok-store.ensures c.self.view_is

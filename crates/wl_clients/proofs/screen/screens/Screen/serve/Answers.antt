use Rattle.std.proofs.Common.{◌≡◌, List, Option, Vec, true, ap, sym, subst, ◌∙◌}
use Rattle.std.proofs.lemmas.Option.{none-some}
use Rattle.std.specs.Prelude.{is_some}
use Rattle.spec_desktop.specs.Desktop.{Resident, status_of}
use Rattle.wl_client.specs.View.{ClientView}
use Rattle.wl_scene.specs.Repaint.{same_windows}
use Rattle.wl_scene.specs.declared.tree_window.TreeWindow.{TreeWindow}
use Rattle.wl_clients.specs.Agreement.{IsSeat}
use Rattle.wl_requests.specs.declared.residents.Resident.{Resident as Kept}
use Rattle.wl_clients.specs.declared.screen.screens.Screen.{Screen}
use Rattle.wl_clients.specs.Seats.{IsSeated}
use Rattle.wl_clients.specs.View.{owned_view, pile_of}
use Rattle.wl_clients.proofs.OnScreen.Alone.{alone-hits, alone-least, alone-most, alone-seated, alone-through, unapplied}
use Rattle.wl_clients.proofs.OnScreen.Assembling.{live-hits, live-least, live-most, live-seated, live-through}
use Rattle.wl_clients.proofs.OnScreen.Given.{holds-given, takes-given, takes-given-as}
use Rattle.wl_clients.proofs.OnScreen.Parting.{over-least, over-on, over-seated, over-through}
use Rattle.wl_clients.proofs.OnScreen.Served.{asks-so, ended-so, lives-so, no-pointer}
use Rattle.wl_clients.proofs.screen.screens.Screen.serve.Goals as goal
use Rattle.wl_clients.proofs.screen.screens.Screen.serve.Goals.{then-has_ended-2, else-has_ended-2}

-- the windows of before, as they are kept
told-so : {V : Type 0} (was now : Vec TreeWindow V) (is : List TreeWindow) → now ≡ was → same_windows now.items is ≡ true → same_windows was.items is ≡ true
told-so {V} was now is kept same = subst (λ (v : Vec TreeWindow V). same_windows v.items is ≡ true) kept same

-- ---- no tree is touched

pub returns-in_default-clause-serves : goal.returns-in_default-clause-serves
returns-in_default-clause-serves g c = λ some others base d r width height is ordered allowed.
    let v = c.args.resident.now in
    let mid = c.serve.new.self in
    let was = c.args.self.now in
    let o = c.in-Some-serve._outcome in
    let said = c.in-Some-serve.ensures in
    alone-seated c.message_laws.ensures c.args.client others base d r v mid c.part_alone.new.resident was c.part_alone.new.self is ordered c.args.asked
    c.placing-placing.result o.stacking o.applied
    (record {
      lives = said.lives;
      asks = c.requires;
      by = c.in_default.ensures;
      placed = c.placing-placing.ensures;
      takes = takes-given c.args.asked c.placing-placing.result c.args.grabbing c.args.client r d v mid allowed o.stacking said.takes;
      decides = λ touch it. takes-given-as c.args.asked c.placing-placing.result c.args.grabbing c.args.client r d v mid allowed (is_some o.applied) (said.decides touch it);
      none = unapplied v c.args.asked o.applied c.in_default.ensures said.nothing _ _ is.seat.subsurfaces;
      clears = c.part_alone.ensures.clears;
      points = c.part_alone.ensures.points;
      same = c.part_alone.ensures.lives;
    }) width height

pub returns-in_default-clause-marks : goal.returns-in_default-clause-marks
returns-in_default-clause-marks g c = λ some others base d r width height is ordered allowed e q serves after.
    let v = c.args.resident.now in
    let mid = c.serve.new.self in
    let was = c.args.self.now in
    let o = c.in-Some-serve._outcome in
    let said = c.in-Some-serve.ensures in
    alone-least c.message_laws.ensures c.args.client others base d r v mid c.part_alone.new.resident was c.part_alone.new.self is ordered c.args.asked
    c.placing-placing.result o.stacking o.applied
    (record {
      lives = said.lives;
      asks = c.requires;
      by = c.in_default.ensures;
      placed = c.placing-placing.ensures;
      takes = takes-given c.args.asked c.placing-placing.result c.args.grabbing c.args.client r d v mid allowed o.stacking said.takes;
      decides = λ touch it. takes-given-as c.args.asked c.placing-placing.result c.args.grabbing c.args.client r d v mid allowed (is_some o.applied) (said.decides touch it);
      none = unapplied v c.args.asked o.applied c.in_default.ensures said.nothing _ _ is.seat.subsurfaces;
      clears = c.part_alone.ensures.clears;
      points = c.part_alone.ensures.points;
      same = c.part_alone.ensures.lives;
    }) width height e q serves after

pub returns-in_default-clause-within : goal.returns-in_default-clause-within
returns-in_default-clause-within g c = λ some others base d r width height is ordered allowed e q serves after lives.
    let v = c.args.resident.now in
    let mid = c.serve.new.self in
    let was = c.args.self.now in
    let o = c.in-Some-serve._outcome in
    let said = c.in-Some-serve.ensures in
    alone-most c.message_laws.ensures c.args.client others base d r v mid c.part_alone.new.resident was c.part_alone.new.self is ordered c.args.asked
    c.placing-placing.result o.stacking o.applied
    (record {
      lives = said.lives;
      asks = c.requires;
      by = c.in_default.ensures;
      placed = c.placing-placing.ensures;
      takes = takes-given c.args.asked c.placing-placing.result c.args.grabbing c.args.client r d v mid allowed o.stacking said.takes;
      decides = λ touch it. takes-given-as c.args.asked c.placing-placing.result c.args.grabbing c.args.client r d v mid allowed (is_some o.applied) (said.decides touch it);
      none = unapplied v c.args.asked o.applied c.in_default.ensures said.nothing _ _ is.seat.subsurfaces;
      clears = c.part_alone.ensures.clears;
      points = c.part_alone.ensures.points;
      same = c.part_alone.ensures.lives;
    }) width height e q serves after lives

pub returns-in_default-clause-through : goal.returns-in_default-clause-through
returns-in_default-clause-through g c = λ some others base d r width height is ordered allowed.
    let v = c.args.resident.now in
    let mid = c.serve.new.self in
    let was = c.args.self.now in
    let o = c.in-Some-serve._outcome in
    let said = c.in-Some-serve.ensures in
    alone-through c.message_laws.ensures c.args.client others base d r v mid c.part_alone.new.resident was c.part_alone.new.self is ordered c.args.asked
    c.placing-placing.result o.stacking o.applied
    (record {
      lives = said.lives;
      asks = c.requires;
      by = c.in_default.ensures;
      placed = c.placing-placing.ensures;
      takes = takes-given c.args.asked c.placing-placing.result c.args.grabbing c.args.client r d v mid allowed o.stacking said.takes;
      decides = λ touch it. takes-given-as c.args.asked c.placing-placing.result c.args.grabbing c.args.client r d v mid allowed (is_some o.applied) (said.decides touch it);
      none = unapplied v c.args.asked o.applied c.in_default.ensures said.nothing _ _ is.seat.subsurfaces;
      clears = c.part_alone.ensures.clears;
      points = c.part_alone.ensures.points;
      same = c.part_alone.ensures.lives;
    }) width height

pub returns-in_default-clause-hits : goal.returns-in_default-clause-hits
returns-in_default-clause-hits g c = λ no others base d r width height is ordered allowed e q serves there seated status.
    let v = c.args.resident.now in
    let mid = c.serve.new.self in
    let was = c.args.self.now in
    let o = c.in-Some-serve._outcome in
    let said = c.in-Some-serve.ensures in
    alone-hits c.message_laws.ensures c.args.client others base d r v mid c.part_alone.new.resident was c.part_alone.new.self is ordered c.args.asked
    c.placing-placing.result o.stacking o.applied
    (record {
      lives = said.lives;
      asks = c.requires;
      by = c.in_default.ensures;
      placed = c.placing-placing.ensures;
      takes = takes-given c.args.asked c.placing-placing.result c.args.grabbing c.args.client r d v mid allowed o.stacking said.takes;
      decides = λ touch it. takes-given-as c.args.asked c.placing-placing.result c.args.grabbing c.args.client r d v mid allowed (is_some o.applied) (said.decides touch it);
      none = unapplied v c.args.asked o.applied c.in_default.ensures said.nothing _ _ is.seat.subsurfaces;
      clears = c.part_alone.ensures.clears;
      points = c.part_alone.ensures.points;
      same = c.part_alone.ensures.lives;
    }) width height e serves (ap (λ (x : Option Resident). status_of x) there ∙ status)

-- ---- a surface is touched

pub returns-clause-serves : goal.returns-clause-serves
returns-clause-serves g c = λ some others base d r width height is ordered allowed.
    let v = c.args.resident.now in
    let mid = c.serve-2.new.self in
    let was = c.args.self.now in
    let ready = c.prepare.new.self in
    let o = c.in-Some-serve-2.outcome in
    let said = c.in-Some-serve-2.ensures in
    let asked = c.args.asked in
    let placing = c.placing-placing.result in
    let surface = c.in-Some.surface in
    let root = c.root_of-root.result in
    let found = c.find_toplevel-toplevel.result in
    let laws = c.message_laws.ensures in
    let asks =
    asks-so c.args.client r d v mid c.is_ok-has_room.result was ready asked placing surface root found o.stacking o.applied c.prepare.result c.len-surfaces.result said.lives
    c.requires c.in-Some.ensures c.root_of-root.ensures.root c.root_of-root.ensures.none c.find_toplevel-toplevel.ensures c.placing-placing.ensures
    (takes-given asked placing c.args.grabbing c.args.client r d v mid allowed o.stacking said.takes)
    (λ touch it. takes-given-as asked placing c.args.grabbing c.args.client r d v mid allowed (is_some o.applied) (said.decides touch it)) said.touched
    (λ touch it some. holds-given asked placing c.args.grabbing c.args.client r d v mid allowed (said.holds touch it some)) said.nothing said.room
    c.is_ok-has_room.ensures.value c.len-surfaces.ensures c.prepare.ensures.same c.prepare.ensures.was c.prepare.ensures.room c.prepare.ensures.is _ _
    is.seat.subsurfaces in
    elim c.if-has_ended-2.branch [
      | then-has_ended-2 w ↦
          let over = ended-so mid.client.ended (sym c.has_ended-2.ensures ∙ w.if-has_ended-2.true) in
          rw (w.self-is, w.resident-is)
          (over-seated laws c.args.client others base d r v mid w.part.new.resident was ready w.part.new.self is ordered asked placing surface root found o.stacking o.applied asks width height
          over.0 over.1
          w.part.ensures.parts)
      | else-has_ended-2 w ↦
          rw (w.self-is, w.resident-is)
          (live-seated laws c.args.client others base d r v mid was ready is ordered asked placing surface root found o.stacking o.applied asks width height
          (lives-so mid.client.ended (sym c.has_ended-2.ensures ∙ w.if-has_ended-2.false)) w.follow.new.self w.follow.ensures.follows)
    ]

pub returns-clause-marks : goal.returns-clause-marks
returns-clause-marks g c = λ some others base d r width height is ordered allowed e q serves after.
    let v = c.args.resident.now in
    let mid = c.serve-2.new.self in
    let was = c.args.self.now in
    let ready = c.prepare.new.self in
    let o = c.in-Some-serve-2.outcome in
    let said = c.in-Some-serve-2.ensures in
    let asked = c.args.asked in
    let placing = c.placing-placing.result in
    let surface = c.in-Some.surface in
    let root = c.root_of-root.result in
    let found = c.find_toplevel-toplevel.result in
    let laws = c.message_laws.ensures in
    let asks =
    asks-so c.args.client r d v mid c.is_ok-has_room.result was ready asked placing surface root found o.stacking o.applied c.prepare.result c.len-surfaces.result said.lives
    c.requires c.in-Some.ensures c.root_of-root.ensures.root c.root_of-root.ensures.none c.find_toplevel-toplevel.ensures c.placing-placing.ensures
    (takes-given asked placing c.args.grabbing c.args.client r d v mid allowed o.stacking said.takes)
    (λ touch it. takes-given-as asked placing c.args.grabbing c.args.client r d v mid allowed (is_some o.applied) (said.decides touch it)) said.touched
    (λ touch it some. holds-given asked placing c.args.grabbing c.args.client r d v mid allowed (said.holds touch it some)) said.nothing said.room
    c.is_ok-has_room.ensures.value c.len-surfaces.ensures c.prepare.ensures.same c.prepare.ensures.was c.prepare.ensures.room c.prepare.ensures.is _ _
    is.seat.subsurfaces in
    elim c.if-has_ended-2.branch [
      | then-has_ended-2 w ↦
          let over = ended-so mid.client.ended (sym c.has_ended-2.ensures ∙ w.if-has_ended-2.true) in
          rw (w.self-is)
          (over-least laws c.args.client others base d r v mid w.part.new.resident was ready w.part.new.self is ordered asked placing surface root found o.stacking o.applied asks width height
          over.0 over.1
          w.part.ensures.parts e q serves
          (subst (λ (k : Kept _). IsSeated c.args.client others base k (pile_of w.part.new.self) e q) w.resident-is
          (subst (λ (s : Screen _). IsSeated c.args.client others base c.if-has_ended-2.resident (pile_of s) e q) w.self-is after)))
      | else-has_ended-2 w ↦
          rw (w.self-is)
          (live-least laws c.args.client others base d r v mid was ready is ordered asked placing surface root found o.stacking o.applied asks width height
          (lives-so mid.client.ended (sym c.has_ended-2.ensures ∙ w.if-has_ended-2.false)) w.follow.new.self w.follow.ensures.follows e q serves
          (subst (λ (k : Kept _). IsSeated c.args.client others base k (pile_of w.follow.new.self) e q) w.resident-is
          (subst (λ (s : Screen _). IsSeated c.args.client others base c.if-has_ended-2.resident (pile_of s) e q) w.self-is after)))
    ]

pub returns-clause-within : goal.returns-clause-within
returns-clause-within g c = λ some others base d r width height is ordered allowed e q serves after status.
    let v = c.args.resident.now in
    let mid = c.serve-2.new.self in
    let was = c.args.self.now in
    let ready = c.prepare.new.self in
    let o = c.in-Some-serve-2.outcome in
    let said = c.in-Some-serve-2.ensures in
    let asked = c.args.asked in
    let placing = c.placing-placing.result in
    let surface = c.in-Some.surface in
    let root = c.root_of-root.result in
    let found = c.find_toplevel-toplevel.result in
    let laws = c.message_laws.ensures in
    let asks =
    asks-so c.args.client r d v mid c.is_ok-has_room.result was ready asked placing surface root found o.stacking o.applied c.prepare.result c.len-surfaces.result said.lives
    c.requires c.in-Some.ensures c.root_of-root.ensures.root c.root_of-root.ensures.none c.find_toplevel-toplevel.ensures c.placing-placing.ensures
    (takes-given asked placing c.args.grabbing c.args.client r d v mid allowed o.stacking said.takes)
    (λ touch it. takes-given-as asked placing c.args.grabbing c.args.client r d v mid allowed (is_some o.applied) (said.decides touch it)) said.touched
    (λ touch it some. holds-given asked placing c.args.grabbing c.args.client r d v mid allowed (said.holds touch it some)) said.nothing said.room
    c.is_ok-has_room.ensures.value c.len-surfaces.ensures c.prepare.ensures.same c.prepare.ensures.was c.prepare.ensures.room c.prepare.ensures.is _ _
    is.seat.subsurfaces in
    elim c.if-has_ended-2.branch [
      | then-has_ended-2 w ↦
          let over = ended-so mid.client.ended (sym c.has_ended-2.ensures ∙ w.if-has_ended-2.true) in
          absurd
          (over-on laws c.args.client others base d r v mid w.part.new.resident was ready w.part.new.self is ordered asked placing surface root found o.stacking o.applied asks width height
          over.0 over.1
          w.part.ensures.parts e q
          (subst (λ (k : Kept _). IsSeated c.args.client others base k (pile_of w.part.new.self) e q) w.resident-is
          (subst (λ (s : Screen _). IsSeated c.args.client others base c.if-has_ended-2.resident (pile_of s) e q) w.self-is after)) status)
      | else-has_ended-2 w ↦
          rw (w.self-is)
          (live-most laws c.args.client others base d r v mid was ready is ordered asked placing surface root found o.stacking o.applied asks width height
          (lives-so mid.client.ended (sym c.has_ended-2.ensures ∙ w.if-has_ended-2.false)) w.follow.new.self w.follow.ensures.follows e q serves
          (subst (λ (k : Kept _). IsSeated c.args.client others base k (pile_of w.follow.new.self) e q) w.resident-is
          (subst (λ (s : Screen _). IsSeated c.args.client others base c.if-has_ended-2.resident (pile_of s) e q) w.self-is after)))
    ]

pub returns-clause-hits : goal.returns-clause-hits
returns-clause-hits g c = λ no others base d r width height is ordered allowed e q serves there seated status.
    let v = c.args.resident.now in
    let mid = c.serve-2.new.self in
    let was = c.args.self.now in
    let ready = c.prepare.new.self in
    let o = c.in-Some-serve-2.outcome in
    let said = c.in-Some-serve-2.ensures in
    let asked = c.args.asked in
    let placing = c.placing-placing.result in
    let surface = c.in-Some.surface in
    let root = c.root_of-root.result in
    let found = c.find_toplevel-toplevel.result in
    let laws = c.message_laws.ensures in
    let kept = c.may_change_hits-changes_hits.ensures no in
    let asks =
    asks-so c.args.client r d v mid c.is_ok-has_room.result was ready asked placing surface root found o.stacking o.applied c.prepare.result c.len-surfaces.result said.lives
    c.requires c.in-Some.ensures c.root_of-root.ensures.root c.root_of-root.ensures.none c.find_toplevel-toplevel.ensures c.placing-placing.ensures
    (takes-given asked placing c.args.grabbing c.args.client r d v mid allowed o.stacking said.takes)
    (λ touch it. takes-given-as asked placing c.args.grabbing c.args.client r d v mid allowed (is_some o.applied) (said.decides touch it)) said.touched
    (λ touch it some. holds-given asked placing c.args.grabbing c.args.client r d v mid allowed (said.holds touch it some)) said.nothing said.room
    c.is_ok-has_room.ensures.value c.len-surfaces.ensures c.prepare.ensures.same c.prepare.ensures.was c.prepare.ensures.room c.prepare.ensures.is _ _
    is.seat.subsurfaces in
    elim c.if-has_ended-2.branch [
      | then-has_ended-2 w ↦
          let over = ended-so mid.client.ended (sym c.has_ended-2.ensures ∙ w.if-has_ended-2.true) in
          absurd (none-some over.0
          (sym status ∙ sym (subst (λ (k : Kept _). IsSeat k.client (owned_view k) q) w.resident-is seated).peer.status
          ∙ ap (λ (x : ClientView). x.ended) w.part.ensures.client ∙ over.1))
      | else-has_ended-2 w ↦
          live-hits laws c.args.client others base d r v mid was ready is ordered asked placing surface root found o.stacking o.applied asks width height
          (lives-so mid.client.ended (sym c.has_ended-2.ensures ∙ w.if-has_ended-2.false)) w.follow.new.self w.follow.ensures.follows kept.1
          (told-so ready.spare.was w.follow.new.self.spare.was w.follow.new.self.spare.is.items w.follow.ensures.follows.was
          (subst (λ (s : Screen _). same_windows s.spare.was.items s.spare.is.items ≡ true) w.self-is kept.2))
          (c.has_new_input-has_new_input.ensures kept.0) e q serves there
          (subst (λ (k : Kept _). IsSeat k.client (owned_view k) q) w.resident-is seated)
    ]

pub returns-clause-through : goal.returns-clause-through
returns-clause-through g c = λ some others base d r width height is ordered allowed.
    let v = c.args.resident.now in
    let mid = c.serve-2.new.self in
    let was = c.args.self.now in
    let ready = c.prepare.new.self in
    let o = c.in-Some-serve-2.outcome in
    let said = c.in-Some-serve-2.ensures in
    let asked = c.args.asked in
    let placing = c.placing-placing.result in
    let surface = c.in-Some.surface in
    let root = c.root_of-root.result in
    let found = c.find_toplevel-toplevel.result in
    let laws = c.message_laws.ensures in
    let asks =
    asks-so c.args.client r d v mid c.is_ok-has_room.result was ready asked placing surface root found o.stacking o.applied c.prepare.result c.len-surfaces.result said.lives
    c.requires c.in-Some.ensures c.root_of-root.ensures.root c.root_of-root.ensures.none c.find_toplevel-toplevel.ensures c.placing-placing.ensures
    (takes-given asked placing c.args.grabbing c.args.client r d v mid allowed o.stacking said.takes)
    (λ touch it. takes-given-as asked placing c.args.grabbing c.args.client r d v mid allowed (is_some o.applied) (said.decides touch it)) said.touched
    (λ touch it some. holds-given asked placing c.args.grabbing c.args.client r d v mid allowed (said.holds touch it some)) said.nothing said.room
    c.is_ok-has_room.ensures.value c.len-surfaces.ensures c.prepare.ensures.same c.prepare.ensures.was c.prepare.ensures.room c.prepare.ensures.is _ _
    is.seat.subsurfaces in
    elim c.if-has_ended-2.branch [
      | then-has_ended-2 w ↦
          let over = ended-so mid.client.ended (sym c.has_ended-2.ensures ∙ w.if-has_ended-2.true) in
          rw (w.self-is, w.resident-is)
          (over-through laws c.args.client others base d r v mid w.part.new.resident was ready w.part.new.self is ordered asked placing surface root found o.stacking o.applied asks width height
          over.0 over.1
          w.part.ensures.parts)
      | else-has_ended-2 w ↦
          rw (w.self-is, w.resident-is)
          (live-through laws c.args.client others base d r v mid was ready is ordered asked placing surface root found o.stacking o.applied asks width height
          (lives-so mid.client.ended (sym c.has_ended-2.ensures ∙ w.if-has_ended-2.false)) w.follow.new.self w.follow.ensures.follows)
    ]

-- ---- what is asked of the pointer

pub returns-in_default-clause-asks : goal.returns-in_default-clause-asks
returns-in_default-clause-asks g c = (c.in-Some-serve.ensures.lives, c.pointer_asked-pointer.ensures.asks)

pub returns-clause-asks : goal.returns-clause-asks
returns-clause-asks g c = (c.in-Some-serve-2.ensures.lives, c.pointer_asked-pointer.ensures.asks)

-- ---- a wl_pointer is asked for where there is no seat for it

pub returns-in_default-clause-seat : goal.returns-in_default-clause-seat
returns-in_default-clause-seat g c = λ id asked without.
    ap (λ (w : ClientView). is_some w.ended) c.part_alone.ensures.client ∙ c.in-Some-serve.ensures.seat id (sym c.pointer_asked-pointer.ensures.is ∙ asked) without

pub returns-clause-seat : goal.returns-clause-seat
returns-clause-seat g c = λ id asked without.
    absurd (no-pointer c.args.resident.now c.args.asked c.in-Some.surface id c.in-Some.ensures (sym c.pointer_asked-pointer.ensures.is ∙ asked))

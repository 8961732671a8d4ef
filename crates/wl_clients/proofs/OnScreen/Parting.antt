-- A message that touches a surface, and by which its client ends: what is left, and which windows are told of a toplevel for a moment.
use Rattle.std.proofs.Common.{arith, ◌≡◌, ℕ, ◌<◌, ◌≤◌, true, false, Option, Some, None, List, [], ◌++◌, refl, ap, sym, subst, ◌∙◌, inl, inr, ◌⊎◌}
use Rattle.std.proofs.lemmas.Bool.{true≢false}
use Rattle.std.specs.Prelude.{is_some, length, pos, ◌||◌, vec_capacity}
use Rattle.std.specs.List.{list_any}
use Rattle.wl_wire.specs.Wire.{split_of}
use Rattle.wl_wire.specs.declared.header.Split.{Split}
use Rattle.wl_wire.specs.declared.header.Split.TheVariants.{Message as Whole, More, Bad}
use Rattle.law_desktop.specs.Ordered.{Ordered, OwnsOrdered}
use Rattle.wl_paint.specs.Damage.{Damaged, has}
use Rattle.spec_desktop.specs.declared.cause.Cause.{Cause}
use Rattle.spec_desktop.specs.Objects.{ById}
use Rattle.spec_desktop.specs.Desktop.{Desktop, Resident, owned_in, status_in}
use Rattle.spec_desktop.specs.Happens.{Serves}
use Rattle.spec_desktop.specs.Through.{ServesThrough}
use Rattle.wl_scene.specs.Repaint.{window_has}
use Rattle.wl_requests.specs.declared.messages.Asked.{Asked}
use Rattle.wl_requests.specs.declared.residents.Placing.{Placing}
use Rattle.wl_requests.specs.declared.residents.Resident.{Resident as Kept}
use Rattle.wl_requests.specs.declared.residents.Stacking.{Stacking}
use Rattle.wl_requests.specs.declared.residents.Stacking.TheVariants as on
use Rattle.wl_requests.specs.Holding.{HoldsFirst}
use Rattle.wl_requests.specs.Messages.{IsTouchOfAsked}
use Rattle.wl_requests.specs.Placing.{IsPlacingOf}
use Rattle.wl_requests.specs.Residents.{IsResident, StacksFor}
use Rattle.wl_requests.specs.Touching.{Touch}
use Rattle.wl_scene.specs.Kept.{Stack}
use Rattle.wl_scene.specs.declared.stacked.Stacked.{Stacked}
use Rattle.spec_desktop.specs.Stacking.{Owned}
use Rattle.spec_desktop.specs.Windows.{Owner}
use Rattle.wl_surface.specs.Slots.{count}
use Rattle.wl_surface.specs.declared.applied.Applied.{Applied}
use Rattle.law_desktop.specs.Changes.{HasTrees}
use Rattle.law_desktop.specs.Messages.{IsDemanded}
use Rattle.law_desktop.specs.Ways.{Struck}
use Rattle.wl_scene.specs.declared.tree_window.TreeWindow.{TreeWindow}
use Rattle.wl_clients.specs.declared.screen.screens.Screen.{Screen}
use Rattle.wl_clients.specs.Laws.{MessageLaws}
use Rattle.wl_clients.specs.Marking.{MarksAtLeast, MarksThrough}
use Rattle.wl_clients.specs.Screens.{HasPlace, IsParted, IsRestackedIf, IsRunHeldIf, IsToldIf, has_own, run_on}
use Rattle.wl_clients.specs.Seats.{IsClearedBy, IsRestacked, IsSeated}
use Rattle.wl_clients.specs.View.{Pile, pile_of}
use Rattle.wl_clients.proofs.OnScreen.After.{HoldsAs}
use Rattle.wl_clients.proofs.OnScreen.Asked.{told-of}
use Rattle.wl_clients.proofs.OnScreen.Assembling.{Asks, alive, answers, fits-so, is-found, orders, owns, placed, resident, taken, touches, trees, ways}
use Rattle.wl_clients.proofs.OnScreen.Ended.{Ending, Taken, TellsEnd, ended-least, ended-on, ended-seated, ended-through}
use Rattle.wl_clients.proofs.OnScreen.Gone.{IsTurned}
use Rattle.wl_clients.proofs.OnScreen.Holding.{IsTakenBy, holds-then}
use Rattle.wl_clients.proofs.OnScreen.Numbers as seat
use Rattle.wl_clients.proofs.OnScreen.Serving.{meant-of, stacks-of}
use Rattle.wl_clients.proofs.OnScreen.Serving as serving
use Rattle.wl_clients.proofs.OnScreen.Sitting.{IsSettled}
use Rattle.wl_clients.proofs.OnScreen.Sitting as sitting

none-fit : (n : ℕ) → 0 ≤ n
none-fit n = omega (arith)

module _ {A : Type 0} (laws : MessageLaws) (c : ℕ) (others : ℕ → ById ℕ) (base d : Desktop) (r : Resident) (old mid left : Kept A) (was ready new : Screen A)
    (before : IsSeated c others base old (pile_of was) d r) (ordered : Ordered d) (asked : Asked) (placing : Placing) (surface root : ℕ) (found : Option ℕ) (stacking : Stacking)
    (applied : Option (Applied A)) (a : Asks c r d old mid was ready asked placing surface root found stacking applied) (width : was.damage.width ≡ d.output.width)
    (height : was.damage.height ≡ d.output.height) (cause : Cause) (over : mid.client.ended ≡ Some cause) (p : IsParted c found mid left stacking applied ready new) where
  abbrev pile : Pile
  pile = pile_of was

  -- What is left and marked.
  pub ending : Ending c mid left was new
  ending = record {
    between = p.between;
    is = p.is;
    clears =
        subst (λ (ws : List Stacked). IsClearedBy mid.client.ended c mid left (record { scene = p.between; windows = ws }) (pile_of new)) a.same.windows p.clears;
    points =
        subst (λ (m : Damaged). (x y : ℕ) → x < m.width → y < m.height
        → has new.damage x y ≡ ((has m x y || has_own c (pos x) (pos y) was.stacked.windows) || list_any (window_has (pos x) (pos y)) p.is)) a.same.damage
        (subst (λ (ws : List Stacked). (x y : ℕ) → x < ready.damage.width → y < ready.damage.height
        → has new.damage x y ≡ ((has ready.damage x y || has_own c (pos x) (pos y) ws) || list_any (window_has (pos x) (pos y)) p.is)) a.same.windows p.points);
  }

  -- ---- the stack

  has-place : is_some applied ≡ true → HasPlace stacking ready.scene (vec_capacity ready.spare.toplevels)
  has-place some = at stacking
    where
      at : (s : Stacking) → HasPlace s ready.scene (vec_capacity ready.spare.toplevels)
      at on.Stays = tt
      at (on.Out n) = tt
      at (on.ToTop n) = (a.room some).place

  restacked-if : (o : Option (Applied A)) → (is_some o ≡ true → HasPlace stacking ready.scene (vec_capacity ready.spare.toplevels))
      → IsRestackedIf o c stacking ready.scene p.between (vec_capacity ready.spare.toplevels) → sitting.IsRestackedIf o c stacking ready.scene p.between
  restacked-if None room h = h
  restacked-if (Some applied) room h = h (room refl)

  stack : sitting.IsRestackedIf applied c stacking was.scene p.between
  stack = subst (λ (s : Stack). sitting.IsRestackedIf applied c stacking s p.between) a.same.scene (restacked-if applied has-place p.scene)

  done : is_some applied ≡ true → IsRestacked c stacking was.scene p.between
  done some = at applied some stack
    where
      at : (o : Option (Applied A)) → is_some o ≡ true → sitting.IsRestackedIf o c stacking was.scene p.between → IsRestacked c stacking was.scene p.between
      at None some h = absurd (true≢false (sym some))
      at (Some applied) some h = h

  settled : IsSettled mid.client.ended applied c stacking mid left was.scene new.scene
  settled =
      let cleared = subst (λ (o : Option Cause). IsClearedBy o c mid left (record { scene = p.between; windows = ready.stacked.windows }) (pile_of new)) over p.clears in
      subst (λ (o : Option Cause). IsSettled o applied c stacking mid left was.scene new.scene) (sym over) (p.between, stack, cleared.0, cleared.1, cleared.2, cleared.3, cleared.4)

  m : (m : Taken c others base d r left new) × ((touch : Touch) → IsTouchOfAsked asked old touch → m.was_done ≡ is_some applied)
  m = taken laws c others base d r old mid was ready before ordered asked placing surface root found stacking applied a width height left new settled

  -- ---- what is told of windows

  none-told : is_some applied ≡ false → p.is ≡ []
  none-told none = at applied none p.told ∙ a.empty
    where
      at : (o : Option (Applied A)) → is_some o ≡ false → IsToldIf o c found mid p.between.standing ready p.is → p.is ≡ ready.spare.is.items
      at None none h = h
      at (Some applied) none h = absurd (true≢false none)

  filled : is_some applied ≡ true → (o : Owned) (owner : Owner) → IsRunHeldIf c mid found p.between.standing o
      → length (run_on c owner o found p.between.standing) ≤ count old.owned.surfaces.states → p.is ≡ run_on c owner o found p.between.standing
  filled some o owner held fits =
      at applied some p.told ∙ ap (λ (ws : List TreeWindow). ws ++ run_on c owner o found p.between.standing) a.empty
    where
      at : (x : Option (Applied A)) → is_some x ≡ true → IsToldIf x c found mid p.between.standing ready p.is
          → p.is ≡ ready.spare.is.items ++ run_on c owner o found p.between.standing
      at None some h = absurd (true≢false (sym some))
      at (Some applied) is h = h o owner held (fits-so _ _ _ _ (a.room some).run fits)

  -- where no toplevel was found none is
  no-run : found ≡ None → p.is ≡ []
  no-run none = at applied refl
    where
      owner : Owner
      owner = record { client = c; root = c; toplevel = c }

      at : (x : Option (Applied A)) → applied ≡ x → p.is ≡ []
      at None is = none-told (ap (λ (o : Option (Applied A)). is_some o) is)
      at (Some applied) is =
          subst (λ (o : Option ℕ). (owned : Owned) (owner : Owner) → IsRunHeldIf c mid o p.between.standing owned
          → length (run_on c owner owned o p.between.standing) ≤ count old.owned.surfaces.states → p.is ≡ run_on c owner owned o p.between.standing) none
          (filled (ap (λ (o : Option (Applied A)). is_some o) is)) r.owned owner tt (none-fit (count old.owned.surfaces.states))

  abbrev its-owns : OwnsOrdered r
  its-owns = owns laws c others base d r old mid was ready before ordered asked placing surface root found stacking applied a width height

  abbrev its-resident : IsResident old r
  its-resident = resident laws c others base d r old mid was ready before ordered asked placing surface root found stacking applied a width height

  abbrev its-trees : HasTrees d
  its-trees = trees laws c others base d r old mid was ready before ordered asked placing surface root found stacking applied a width height

  its-placing : IsPlacingOf placing asked c r d
  its-placing = placed laws c others base d r old mid was ready before ordered asked placing surface root found stacking applied a width height

  touches-it : ((touch : Touch) × IsTouchOfAsked asked old touch) ⊎ ((touch : Touch) → IsTouchOfAsked asked old touch → ⊥)
  touches-it = touches laws c others base d r old mid was ready before ordered asked placing surface root found stacking applied a width height

  -- by a desktop on which the client lived
  module _ (e : Desktop) (path : List Desktop) (s : Struck c r d path e) (by_peer : IsTakenBy (split_of r.peer.rest) r s.before)
      (some_applied : (touch : Touch) → IsTouchOfAsked asked old touch → is_some applied ≡ true) where
    stacks : StacksFor old r s.demand stacking
    stacks =
        stacks-of (split_of r.peer.rest) c r d old mid stacking s.demand
        (answers laws c others base d r old mid was ready before ordered asked placing surface root found stacking applied a width height) s.demanded

    holds : is_some applied ≡ true → HoldsAs (seat.named_by old) mid (owned_in s.own c)
    holds some =
        subst (λ (o : Owned). HoldsAs (seat.named_by old) mid o) (sym s.done.own)
        (holds-then (orders laws) (split_of r.peer.rest) c r d old mid s.demand s.before its-owns s.demanded by_peer ordered.in_order.pointer (first (touches-it)))
      where
        first : ((touch : Touch) × IsTouchOfAsked asked old touch) ⊎ ((touch : Touch) → IsTouchOfAsked asked old touch → ⊥) → HoldsFirst (split_of r.peer.rest) c r d old mid
        first (inl t) = a.holds t.0 t.1 some its-resident its-owns its-placing
        first (inr never) = absurd (true≢false (sym some ∙ ap (λ (o : Option (Applied A)). is_some o) (a.nothing never)))

    -- those that the toplevel has there
    pub tells-then : IsTurned c d (seat.named_by old) p.is s.own
    tells-then =
        serving.turned-so laws.between c others base d r old mid pile before its-trees its-owns s.demand s.before s.own
        (meant-of (split_of r.peer.rest) r s.demand its-owns s.demanded) s.done s.trees s.shown stacking stacks applied surface root
        (told-of old mid r s.before c d its-resident its-owns asked a.asks surface a.by s.demand s.demanded stacking stacks applied a.touched_so some_applied)
        a.root_is a.top (seat.named_by old) holds (λ id is. refl) found
        (is-found laws c others base d r old mid was ready before ordered asked placing surface root found stacking applied a width height)
        p.between done p.is filled none-told no-run

  -- ---- what the clauses say

  -- the peer of which the message demands something, on a way on which the client is struck
  knows : (e : Desktop) (path : List Desktop) (s : Struck c r d path e) → IsTakenBy (split_of r.peer.rest) r s.before
  knows e path s = at (split_of r.peer.rest) refl s.demanded
    where
      at : (split : Split) → split_of r.peer.rest ≡ split → IsDemanded split r s.demand → IsTakenBy split r s.before
      at (Whole object opcode size) is told = s.taken object opcode size is
      at Bad is told = told
      at More is told = told

  tells-end : TellsEnd c r d m.0.after (seat.named_by old) p.is m.0.was_done
  tells-end = record {
    undone = λ none. none-told (undone none touches-it);
    turned = λ did path s. tells-then m.0.after path s (knows m.0.after path s) (λ touch it. sym (m.1 touch it) ∙ did);
  }
    where
      undone : m.0.was_done ≡ false → ((touch : Touch) × IsTouchOfAsked asked old touch) ⊎ ((touch : Touch) → IsTouchOfAsked asked old touch → ⊥) → is_some applied ≡ false
      undone none (inl t) = sym (m.1 t.0 t.1) ∙ none
      undone none (inr never) = ap (λ (o : Option (Applied A)). is_some o) (a.nothing never)

  its-alive : r.peer.status ≡ None
  its-alive = alive laws c others base d r old mid was ready before ordered asked placing surface root found stacking applied a width height

  pub over-least : (e : Desktop) (q : Resident) → Serves c d e → IsSeated c others base left (pile_of new) e q → MarksAtLeast d e was.damage new.damage
  over-least = ended-least (ways laws) c others base d r old mid left was new before ordered its-alive cause over ending

  pub over-on : (e : Desktop) (q : Resident) → IsSeated c others base left (pile_of new) e q → status_in c e ≡ None → ⊥
  over-on = ended-on (ways laws) c others base d r old mid left was new before ordered its-alive cause over ending

  pub over-seated : (e : Desktop) × (q : Resident) × Serves c d e × IsSeated c others base left (pile_of new) e q
  over-seated = ended-seated (ways laws) c others base d r old mid left was new before ordered its-alive cause over ending m.0

  pub over-through : (e : Desktop) × (q : Resident) × (path : List Desktop) × ServesThrough c d path e × IsSeated c others base left (pile_of new) e q
      × MarksThrough d path was.damage new.damage
  unfolding ending
  over-through =
      ended-through (ways laws) c others base d r old mid left was new before ordered its-alive cause over ending m.0 (seat.named_by old) tells-end width height

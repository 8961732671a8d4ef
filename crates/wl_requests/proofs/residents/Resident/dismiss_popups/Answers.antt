use Rattle.std.proofs.Common.{refl, ap, sym, ◌∙◌, arith}
use Rattle.std.specs.Prelude.{is_some}
use Rattle.wl_client.specs.View.{ClientView}
use Rattle.wl_scene.specs.declared.owned.Owned.{Owned as Lent}
use Rattle.wl_shell.specs.Kept.{kept_of}
use Rattle.wl_requests.proofs.Doing.{gone}
use Rattle.wl_requests.proofs.Letting.{lives-of}
use Rattle.wl_requests.proofs.PopupsDismissed.{all-dismissed, dismissed-on, dismissed-over, no-more-go, none-dismissed}
use Rattle.wl_requests.proofs.residents.Resident.dismiss_popups.Goals as goal

pub loop-init : goal.loop-init
loop-init g c = record {
  told = λ names o xdg p is order named peer lives. none-dismissed names xdg o p c.args.self.now is order peer lives;
  table = λ alive. refl;
  ended = λ over. refl;
  surfaces = refl;
  subsurfaces = refl;
  rest = omega arith;
}

pub returns-then-has_ended-clause-dismisses : goal.returns-then-has_ended-clause-dismisses
returns-then-has_ended-clause-dismisses g c = λ names o xdg p is order named peer lives.
    let so = c.loop.invariant.told names o xdg p is order named peer lives in
    (so.0, dismissed-over names xdg o c.loop.counter p so.0 so.1 so.2 c.loop.self c.args.surface so.3 named (sym c.has_ended.ensures ∙ c.if-has_ended.true))

pub returns-then-has_ended-clause-ended : goal.returns-then-has_ended-clause-ended
returns-then-has_ended-clause-ended g c = c.loop.invariant.ended

pub returns-then-has_ended-clause-surfaces : goal.returns-then-has_ended-clause-surfaces
returns-then-has_ended-clause-surfaces g c = c.loop.invariant.surfaces

pub returns-then-has_ended-clause-subsurfaces : goal.returns-then-has_ended-clause-subsurfaces
returns-then-has_ended-clause-subsurfaces g c = c.loop.invariant.subsurfaces

pub returns-then-has_ended-clause-rest : goal.returns-then-has_ended-clause-rest
returns-then-has_ended-clause-rest g c = c.loop.invariant.rest

pub returns-in_default-clause-dismisses : goal.returns-in_default-clause-dismisses
returns-in_default-clause-dismisses g c = λ names o xdg p is order named peer lives.
    let so = c.loop.invariant.told names o xdg p is order named peer lives in
    let now = c.loop.self in (
      so.0,
      all-dismissed names xdg o c.loop.counter p so.0 so.1 so.2 now c.args.surface so.3 named c.are_found.ensures
          (record now { owned = record now.owned { shell = c.dismiss.new.self } }) c.in_default.ensures.newest refl refl c.in_default.ensures.none,
    )

pub returns-in_default-clause-table : goal.returns-in_default-clause-table
returns-in_default-clause-table g c = c.loop.invariant.table

pub returns-in_default-clause-ended : goal.returns-in_default-clause-ended
returns-in_default-clause-ended g c = c.loop.invariant.ended

pub returns-in_default-clause-surfaces : goal.returns-in_default-clause-surfaces
returns-in_default-clause-surfaces g c = c.loop.invariant.surfaces

pub returns-in_default-clause-subsurfaces : goal.returns-in_default-clause-subsurfaces
returns-in_default-clause-subsurfaces g c = c.loop.invariant.subsurfaces

pub returns-in_default-clause-rest : goal.returns-in_default-clause-rest
returns-in_default-clause-rest g c = c.loop.invariant.rest

pub loop-preserved : goal.loop-preserved
loop-preserved g c =
    let now = c.loop.invariant in
    let alive = lives-of c.loop.self.client.ended (sym c.has_ended.ensures ∙ c.if-has_ended.false) in
    record {
      told = λ names o xdg p is order named peer lives.
          let so = now.told names o xdg p is order named peer lives in
          dismissed-on names xdg o c.loop.counter p so.0 so.1 so.2 c.loop.self c.args.surface so.3 named c.are_found.ensures c.tell_done.new.self c.in-Some.gone (kept_of c.dismiss.new.self) alive
          c.in-Some.ensures.newest c.in-Some.ensures.some (ap (λ (o : Lent _). kept_of o.shell) c.tell_done.ensures.owned) (ap (λ (o : Lent _). o.surfaces) c.tell_done.ensures.owned)
          c.tell_done.ensures.told;
      table = λ lives. c.tell_done.ensures.table lives ∙ now.table alive;
      ended = λ over. absurd (gone c.loop.self.client.ended (ap (λ (v : ClientView). is_some v.ended) (now.ended over) ∙ over) alive);
      surfaces = ap (λ (o : Lent _). o.surfaces) c.tell_done.ensures.owned ∙ now.surfaces;
      subsurfaces = c.tell_done.ensures.subsurfaces ∙ now.subsurfaces;
      rest = omega (arith, c.tell_done.ensures.rest, now.rest);
    }

pub returns-clause-dismisses : goal.returns-clause-dismisses
returns-clause-dismisses g c = λ names o xdg p is order named peer lives.
    let so = c.loop.invariant.told names o xdg p is order named peer lives in
    absurd (no-more-go names xdg o c.loop.counter p so.0 so.1 so.2 c.loop.self c.args.surface so.3 named order.few c.loop-test.false)

pub returns-clause-table : goal.returns-clause-table
returns-clause-table g c = c.loop.invariant.table

pub returns-clause-ended : goal.returns-clause-ended
returns-clause-ended g c = c.loop.invariant.ended

pub returns-clause-surfaces : goal.returns-clause-surfaces
returns-clause-surfaces g c = c.loop.invariant.surfaces

pub returns-clause-subsurfaces : goal.returns-clause-subsurfaces
returns-clause-subsurfaces g c = c.loop.invariant.subsurfaces

pub returns-clause-rest : goal.returns-clause-rest
returns-clause-rest g c = c.loop.invariant.rest

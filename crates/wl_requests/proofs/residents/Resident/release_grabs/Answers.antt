use Rattle.std.proofs.Common.{refl, ap, ◌∙◌}
use Rattle.wl_scene.specs.declared.owned.Owned.{Owned as Lent}
use Rattle.wl_shell.specs.Kept.{kept_of}
use Rattle.wl_requests.proofs.PopupsReleased.{all-released, no-more-go, none-released, only-then, released-on}
use Rattle.wl_requests.proofs.residents.Resident.release_grabs.Goals as goal

pub loop-init : goal.loop-init
loop-init g c = record {
  told = λ names o p is order peer. none-released names o p c.args.self.now is order peer;
  client = refl;
  surfaces = refl;
  subsurfaces = refl;
}

pub returns-in_default-clause-releases : goal.returns-in_default-clause-releases
returns-in_default-clause-releases g c = λ names o p is order peer lives unrefused.
    let so = c.loop.invariant.told names o p is order peer in
    let now = c.loop.self in (
      so.0,
      all-released names o c.loop.counter p so.0 so.1 so.2 now so.3 c.are_found.ensures
          (record now { owned = record now.owned { shell = c.dismiss_grabbing.new.self } }) c.in_default.ensures.newest refl refl c.in_default.ensures.none,
    )

pub returns-in_default-clause-client : goal.returns-in_default-clause-client
returns-in_default-clause-client g c = c.loop.invariant.client

pub returns-in_default-clause-surfaces : goal.returns-in_default-clause-surfaces
returns-in_default-clause-surfaces g c = c.loop.invariant.surfaces

pub returns-in_default-clause-subsurfaces : goal.returns-in_default-clause-subsurfaces
returns-in_default-clause-subsurfaces g c = c.loop.invariant.subsurfaces

pub loop-preserved : goal.loop-preserved
loop-preserved g c =
    let now = c.loop.invariant in
    record {
      told = λ names o p is order peer.
          let so = now.told names o p is order peer in
          released-on names o c.loop.counter p so.0 so.1 so.2 c.loop.self so.3 c.are_found.ensures c.tell_released.new.self c.in-Some.gone (kept_of c.dismiss_grabbing.new.self)
          c.in-Some.ensures.newest c.in-Some.ensures.some (ap (λ (o : Lent _). kept_of o.shell) c.tell_released.ensures.owned) (ap (λ (o : Lent _). o.surfaces) c.tell_released.ensures.owned)
          c.tell_released.ensures.told c.tell_released.ensures.refused;
      client = only-then c.args.self.now.client c.loop.self.client c.tell_released.new.self.client now.client c.tell_released.ensures.client;
      surfaces = ap (λ (o : Lent _). o.surfaces) c.tell_released.ensures.owned ∙ now.surfaces;
      subsurfaces = c.tell_released.ensures.subsurfaces ∙ now.subsurfaces;
    }

pub returns-clause-releases : goal.returns-clause-releases
returns-clause-releases g c = λ names o p is order peer lives unrefused.
    let so = c.loop.invariant.told names o p is order peer in
    absurd (no-more-go names o c.loop.counter p so.0 so.1 so.2 c.loop.self so.3 order.few c.loop-test.false)

pub returns-clause-client : goal.returns-clause-client
returns-clause-client g c = c.loop.invariant.client

pub returns-clause-surfaces : goal.returns-clause-surfaces
returns-clause-surfaces g c = c.loop.invariant.surfaces

pub returns-clause-subsurfaces : goal.returns-clause-subsurfaces
returns-clause-subsurfaces g c = c.loop.invariant.subsurfaces

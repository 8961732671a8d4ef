use Rattle.std.proofs.Common.{List, refl, subst, sym, ◌∙◌}
use Rattle.spec_desktop.specs.Peer.{Queues}
use Rattle.spec_desktop.specs.Told.{Said}
use Rattle.wl_shell.specs.Kept.{kept_of}
use Rattle.wl_shell.specs.Shell.{next_serial}
use Rattle.wl_requests.specs.Residents.{drawn_by}
use Rattle.wl_requests.proofs.Committing.{told-none, told-popup, told-still, told-toplevel}
use Rattle.wl_requests.proofs.Shelling.{drawn}
use Rattle.wl_requests.proofs.residents.Resident.tell_act.Goals as goal

pub returns-then-has_toplevel-clause-told : goal.returns-then-has_toplevel-clause-told
returns-then-has_toplevel-clause-told g c = λ p is.
    let peer = drawn _ _ p is c.draw_serial.ensures in
    let drawn_peer = record p { serial = next_serial p.serial } in
    let told = c.tell_configure.ensures.queues drawn_peer peer in
    let kept = kept_of c.args.self.now.owned.shell c.args.surface in
    let events = told-toplevel c.in-Configure.placed c.args.serial c.in-Some.object c.xdg_surface_of-xdg_surface.result kept (sym c.in-Some.is ∙ c.role_object_of.ensures)
    c.xdg_surface_of-xdg_surface.ensures (sym c.has_toplevel.ensures ∙ c.if-has_toplevel.true) in
    rw c.in-Configure.is (told.0, subst (λ (es : List Said). Queues es drawn_peer told.0) (sym events) told.1, told.2)

pub returns-else-has_toplevel-clause-told : goal.returns-else-has_toplevel-clause-told
returns-else-has_toplevel-clause-told g c = λ p is.
    let peer = drawn _ _ p is c.draw_serial.ensures in
    let drawn_peer = record p { serial = next_serial p.serial } in
    let told = c.tell_placement.ensures.queues drawn_peer peer in
    let kept = kept_of c.args.self.now.owned.shell c.args.surface in
    let events = told-popup c.in-Configure.placed c.args.serial c.in-Some.object c.xdg_surface_of-xdg_surface.result kept (sym c.in-Some.is ∙ c.role_object_of.ensures)
    c.xdg_surface_of-xdg_surface.ensures (sym c.has_toplevel.ensures ∙ c.if-has_toplevel.false) in
    rw c.in-Configure.is (told.0, subst (λ (es : List Said). Queues es drawn_peer told.0) (sym events) told.1, told.2)

pub returns-in_default-clause-told : goal.returns-in_default-clause-told
returns-in_default-clause-told g c = λ p is.
    let kept = kept_of c.args.self.now.owned.shell c.args.surface in
    let still = told-still c.args.act c.args.serial kept p c.in_default.not-Configure in (
      p,
      subst (λ (es : List Said). Queues es (drawn_by c.args.act p) p) (sym still.0) (sym still.1),
      is,
    )

pub returns-in_default-role_object_of-clause-told : goal.returns-in_default-role_object_of-clause-told
returns-in_default-role_object_of-clause-told g c = λ p is.
    let peer = drawn _ _ p is c.draw_serial.ensures in
    let drawn_peer = record p { serial = next_serial p.serial } in
    let kept = kept_of c.args.self.now.owned.shell c.args.surface in
    let events = told-none c.in-Configure.placed c.args.serial kept (sym c.in_default-role_object_of.is ∙ c.role_object_of.ensures) in
    rw c.in-Configure.is (drawn_peer, subst (λ (es : List Said). Queues es drawn_peer drawn_peer) (sym events) refl, peer)

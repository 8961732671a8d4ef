use Rattle.spec_desktop.specs.XdgShell.{state_asked}
use Rattle.std.proofs.Common.{◌≡◌, List, ap, inr, refl, subst, sym, ◌∙◌}
use Rattle.std.specs.Prelude.{Some, true, false, ℕ, Option, Result}
use Rattle.spec_desktop.specs.Peer.{Queues, counted}
use Rattle.spec_desktop.specs.Told.{Said}
use Rattle.wl_client.specs.View.{ClientView}
use Rattle.wl_shell.specs.Kept.{Kept as KeptXdg, changing, configure_answer, kept_configured, kept_configuring, kept_of}
use Rattle.wl_shell.specs.Shell.{XdgSurface as Xdg, is_role, next_serial, xdg_with}
use Rattle.wl_proto.specs.declared.interface.Interface.TheVariants.{WlSurface}
use Rattle.law_desktop.specs.Owning.{IsOwned, IsXdg, Names, kept_id, shell_refusal, targets_in}
use Rattle.law_desktop.specs.RoleNames.{names_of}
use Rattle.law_desktop.specs.Subsurfaces.{AreOfSurfaces}
use Rattle.spec_desktop.specs.declared.refusals.Refusal.{Refusal}
use Rattle.spec_desktop.specs.Ask.{Ask, ConfigureAgain, Ignore}
use Rattle.spec_desktop.specs.Desktop.{Resident}
use Rattle.spec_desktop.specs.Step.{changed_by, with_peer}
use Rattle.law_desktop.proofs.Keeping.OwningAsks.{owned-configured}
use Rattle.law_desktop.proofs.Keeping.OwningReads.{configured-by}
use Rattle.law_desktop.proofs.Keeping.OwningXdg.{toplevel-named}
use Rattle.wl_requests.specs.declared.residents.Resident.{Resident as Kept}
use Rattle.wl_requests.specs.Residents.{IsResident, IsToplevel}
use Rattle.wl_surface.specs.State.{History}
use Rattle.wl_requests.proofs.Shelling.{accepted, changing-same, drawn, events-told, names-counted, owns-told, refused-again, told-again, xdg-refused}
use Rattle.wl_requests.proofs.Numbers.{keeps-names}
use Rattle.wl_requests.proofs.Naming.{subsurfaces-names}
use Rattle.wl_requests.proofs.Meeting.{AnswersSo, as-asked}
use Rattle.law_desktop.proofs.OwnedPopups.Naming.{roles-named}
use Rattle.wl_requests.proofs.residents.Resident.configure_again.Goals as goal
use Rattle.wl_requests.proofs.Framing.{IsFramed, framed-names, one-more}
use Rattle.wl_scene.specs.declared.owned.Owned.{Owned as Lent}

-- the object is a toplevel
toplevel-asked : {A : Type 0} (old new : Kept A) (object number : ℕ) (judged : Option Xdg → Result Ask Refusal) (r : Resident) → IsResident old r → IsToplevel old object number
    → ((k : KeptXdg) (x : Xdg) (h : History) → IsXdg (names_of old.client.objects) (kept_of old.owned.shell) r.owned number k x h → is_role object x.role ≡ true
    → AnswersSo (judged (Some x)) r old new)
    → AnswersSo (judged (xdg_with object r.owned.shell)) r old new
toplevel-asked old new object number judged r is named answers =
    let one = toplevel-named (names_of old.client.objects) old.owned.surfaces.states old.owned.surfaces.family (kept_of old.owned.shell) r.owned is.owns object number
    (roles-named.toplevel old.client.objects object number named) in
    subst (λ (o : Option Xdg). AnswersSo (judged o) r old new) (sym one.4) (answers one.0 one.1 one.2 one.3 one.5)

pub returns-in-Ok-true-clause-answers : goal.returns-in-Ok-true-clause-answers
returns-in-Ok-true-clause-answers g c = λ named client r on is only.
    as-asked _ _ client on r only (state_asked (xdg_with c.args.object r.owned.shell)) (
    let v = c.args.self.now in
    let names = names_of v.client.objects in
    let kept = kept_of v.owned.shell in
    let object = c.args.object in
    let number = c.args.surface in
    let new = c.tell_configure.new.self in
    toplevel-asked v _ object number state_asked r is named
    (λ k x h one its.
    let id : c.xdg_surface_of-xdg_surface.result ≡ x.id = c.xdg_surface_of-xdg_surface.ensures ∙ ap kept_id one.here ∙ one.stands.id in
    let serial : c.serial-serial.result ≡ r.peer.serial = c.serial-serial.ensures ∙ is.peer.serial in
    let peer = drawn c.count.new.self c.draw_serial.new.self (counted r.peer) (c.count.ensures.counts r.peer is.peer) c.draw_serial.ensures in
    let told = c.tell_configure.ensures.queues (record (counted r.peer) { serial = next_serial r.peer.serial }) peer in
    accepted new r (state_asked (Some x)) (ConfigureAgain x.id)
    (told-again x (shell_refusal x.base x.id x.id) (configure_answer (kept number)) c.configure.result c.in-Ok-true.field-0 true (configured-by names kept r number k x h one x.id)
    c.configure.ensures.answer c.in-Ok-true.is c.in-Ok-true.field-0-test) (
      told.0,
      inr (subst (λ (es : List Said). Queues es (record (counted r.peer) { serial = next_serial r.peer.serial }) told.0) (events-told object r.peer.serial _ _ x r.owned.shell one.at_id its id serial)
          told.1),
      record {
        peer = told.2;
        numbers = λ alive. keeps-names v.client.objects new.client.objects (ap names_of (c.tell_configure.ensures.table alive ∙ ap (λ (w : ClientView). w.objects) c.draw_serial.ensures)
            ∙ names-counted v.client c.count.new.self c.count.ensures.only);
        frames = λ alive.
            let table = ap names_of (c.tell_configure.ensures.table alive ∙ ap (λ (w : ClientView). w.objects) c.draw_serial.ensures) ∙ names-counted v.client c.count.new.self c.count.ensures.only in
            let after = changed_by (ConfigureAgain x.id) (with_peer (counted r.peer) r) in
            subst (λ (o : Lent _). IsFramed o.surfaces.states.frames new.client.objects after) (sym c.tell_configure.ensures.owned)
            (framed-names v.owned.surfaces.states.frames v.client.objects new.client.objects r after refl (one-more r.peer.requests) is.frames table refl);
        subsurfaces = λ alive.
            let table = ap names_of (c.tell_configure.ensures.table alive ∙ ap (λ (w : ClientView). w.objects) c.draw_serial.ensures) ∙ names-counted v.client c.count.new.self c.count.ensures.only in
            subst (λ ids. AreOfSurfaces ids (targets_in WlSurface new.client.objects) r.subsurfaces) (sym c.tell_configure.ensures.subsurfaces)
            (subsurfaces-names v.subsurfaces r.subsurfaces v.client.objects new.client.objects is.subsurfaces table);
        owns = λ alive. owns-told new _ names _ (ap names_of (c.tell_configure.ensures.table alive ∙ ap (λ (w : ClientView). w.objects) c.draw_serial.ensures)
            ∙ names-counted v.client c.count.new.self c.count.ensures.only) c.tell_configure.ensures.owned
            (owned-configured names v.owned.surfaces.states v.owned.surfaces.family kept r is.owns number k x h one (kept_of c.configure.new.self)
            (c.in-Ok-true.ensures.ok ∙ ap (λ b. changing number (kept_configured b c.serial-serial.result) kept) c.in-Ok-true.field-0-test
            ∙ ap (λ n. changing number (kept_configuring n) kept) serial));
      },
    )))

pub returns-in-Ok-false-clause-answers : goal.returns-in-Ok-false-clause-answers
returns-in-Ok-false-clause-answers g c = λ named client r on is only.
    as-asked _ _ client on r only (state_asked (xdg_with c.args.object r.owned.shell)) (
    let v = c.args.self.now in
    let names = names_of v.client.objects in
    let kept = kept_of v.owned.shell in
    let object = c.args.object in
    let number = c.args.surface in
    let count = c.count-in-Ok-false in
    toplevel-asked v _ object number state_asked r is named
    (λ k x h one its.
    accepted _ r (state_asked (Some x)) Ignore
    (told-again x (shell_refusal x.base x.id x.id) (configure_answer (kept number)) c.configure.result c.in-Ok-false.field-0 false (configured-by names kept r number k x h one x.id)
    c.configure.ensures.answer c.in-Ok-false.is c.in-Ok-false.field-0-test) (
      counted r.peer,
      refl,
      record {
        peer = count.ensures.counts r.peer is.peer;
        numbers = λ alive. keeps-names v.client.objects count.new.self.objects (names-counted v.client count.new.self count.ensures.only);
        frames = λ alive. framed-names v.owned.surfaces.states.frames v.client.objects count.new.self.objects r (with_peer (counted r.peer) r) refl (one-more r.peer.requests) is.frames
            (names-counted v.client count.new.self count.ensures.only) refl;
        subsurfaces = λ alive. subsurfaces-names v.subsurfaces r.subsurfaces v.client.objects count.new.self.objects is.subsurfaces (names-counted v.client count.new.self count.ensures.only);
        owns = λ alive. subst (λ (n : Names). IsOwned n v.owned.surfaces.states v.owned.surfaces.family (kept_of c.configure.new.self) r.owned)
            (sym (names-counted v.client count.new.self count.ensures.only))
            (subst (λ (ks : ℕ → Option KeptXdg). IsOwned names v.owned.surfaces.states v.owned.surfaces.family ks r.owned)
            (sym (c.in-Ok-false.ensures.ok ∙ ap (λ b. changing number (kept_configured b c.serial-serial.result) kept) c.in-Ok-false.field-0-test ∙ changing-same number kept)) is.owns);
      },
    )))

pub returns-in-Err-clause-answers : goal.returns-in-Err-clause-answers
returns-in-Err-clause-answers g c = λ named client r on is only.
    as-asked _ _ client on r only (state_asked (xdg_with c.args.object r.owned.shell)) (
    let v = c.args.self.now in
    let names = names_of v.client.objects in
    let kept = kept_of v.owned.shell in
    let object = c.args.object in
    let number = c.args.surface in
    toplevel-asked v _ object number state_asked r is named
    (λ k x h one its.
    let id : c.xdg_surface_of-xdg_surface.result ≡ x.id = c.xdg_surface_of-xdg_surface.ensures ∙ ap kept_id one.here ∙ one.stands.id in
    xdg-refused v _ (kept_of c.configure.new.self) r c.xdg_surface_of-xdg_surface.result number k x h c.in-Err.error (state_asked (Some x)) one (sym id)
    (refused-again x (shell_refusal x.base x.id c.xdg_surface_of-xdg_surface.result) (configure_answer (kept number)) c.configure.result c.in-Err.error
    (configured-by names kept r number k x h one c.xdg_surface_of-xdg_surface.result) c.configure.ensures.answer c.in-Err.is)
    (ap kept_of c.in-Err.ensures.err)
    c.refuse_xdg_surface.ensures.ended
    (c.refuse_xdg_surface.ensures.errs r.peer is.peer)))

use Rattle.std.proofs.Common.{arith, ◌≡◌, ℕ, Bool, Result, refl, ap, subst, sym, ◌∙◌}
use Rattle.std.specs.Prelude.{Ok, Err, is_some}
use Rattle.spec_desktop.specs.Peer.{counted}
use Rattle.wl_shell.specs.Kept.{changing, commit_answer, kept_after, kept_of}
use Rattle.wl_shell.specs.declared.acts.ShellAct.{ShellAct}
use Rattle.spec_desktop.specs.declared.refusals.Refusal.{Refusal}
use Rattle.law_desktop.specs.Owning.{asks_by, kept_base, kept_id, shell_refusal}
use Rattle.law_desktop.specs.RoleNames.{names_of}
use Rattle.spec_desktop.specs.Step.{with_peer}
use Rattle.spec_desktop.specs.WlSurface.{will_be_whole, will_show}
use Rattle.law_desktop.proofs.Keeping.OwningAsks.{answered-effect}
use Rattle.law_desktop.proofs.Keeping.OwningReads.{committed-by, pending-read, whole-read}
use Rattle.spec_desktop.specs.Demand.{Demand, CommitTree}
use Rattle.spec_desktop.specs.Demanding.{commit_demand}
use Rattle.wl_requests.specs.Residents.{AnswersAs, StacksSo}
use Rattle.wl_requests.proofs.Meeting.{counted-ordered}
use Rattle.wl_requests.proofs.Committing.{shell-judged, toplevel-read, unwhole-judged, whole-judged}
use Rattle.wl_requests.proofs.Stackings.{commit-stacks}
use Rattle.wl_requests.proofs.Shelling.{meets-from, names-counted, objects-counted, refused-as, told-err}
use Rattle.wl_requests.specs.Holding.{HoldsSo}
use Rattle.wl_requests.proofs.Holding.{held-so}
use Rattle.wl_requests.proofs.residents.Resident.commit.Goals as goal
use Rattle.wl_requests.proofs.Framing.{framed-names, one-more}

pub returns-else-not-is_whole-clause-answers : goal.returns-else-not-is_whole-clause-answers
returns-else-not-is_whole-clause-answers g c = λ named client r on is only placed.
    let v = c.args.self.now in
    let object = c.args.object in
    let bounds = c.args.given.placing.bounds in
    let corner = c.args.given.placing.parent_at in
    let number = c.args.surface in
    let act = c.in-Ok.act in
    let names = names_of v.client.objects in
    let kept = kept_of v.owned.shell in
    let shows = c.is_some-has_buffer.result in
    let will : shows ≡ will_show r object = c.is_some-has_buffer.ensures ∙ pending-read names v.owned.surfaces.states v.owned.surfaces.family kept r is.owns object number c.pending_buffer.result
    named c.pending_buffer.ensures in
    let answer = sym c.on_commit.ensures.answer ∙ c.in-Ok.is in
    let whole : c.is_whole.result ≡ will_be_whole r object = whole-read names v.owned.surfaces.states v.owned.surfaces.family kept r is.owns object number c.is_whole.result named c.is_whole.ensures in
    let judged = whole-judged (will_be_whole r object) object (commit_demand r object) _
    (committed-by names v.owned.surfaces.states v.owned.surfaces.family kept r is.owns bounds corner object number 0 0 named) (sym whole ∙ c.if-not-is_whole.false)
    ∙ ap (λ (b : Bool). asks_by (λ (a : ShellAct). CommitTree object) (shell_refusal 0 (kept_id (kept number)) 0) (commit_answer b bounds corner (kept number))) (sym will)
    ∙ ap (asks_by (λ (a : ShellAct). CommitTree object) (shell_refusal 0 (kept_id (kept number)) 0)) answer in
    let serial : c.serial-serial.result ≡ r.peer.serial = c.serial-serial.ensures ∙ is.peer.serial in
    let shell = c.in-Ok.ensures.ok ∙ ap (λ (n : ℕ). changing number (kept_after n act) kept) serial in
    let comes = answered-effect names v.owned.surfaces.states v.owned.surfaces.family kept r is.owns object number (will_show r object) bounds corner act named
    (ap (λ (b : Bool). commit_answer b bounds corner (kept number)) (sym will) ∙ answer) in
    let applied = c.apply-applied.ensures.applies client (with_peer (counted r.peer) r) on names object kept bounds corner (counted-ordered r only) comes
    (sym is.peer.status ∙ is.lives) (c.count.ensures.counts r.peer is.peer) is.owns
    (framed-names v.owned.surfaces.states.frames v.client.objects v.client.objects r (with_peer (counted r.peer) r) refl (one-more r.peer.requests) is.frames refl refl)
    is.subsurfaces (names-counted v.client c.count.new.self c.count.ensures.only) named placed.bounds placed.parent
    (ap (λ (b : Bool). commit_answer b bounds corner (kept number)) (sym will) ∙ answer) serial shell in
    let done = is_some c.apply-applied.result in
    subst (λ (j : Result Demand Refusal). AnswersAs done j client r on v c.apply-applied.new.self) (sym judged)
    (meets-from done (CommitTree object) client (with_peer (counted r.peer) r) on v (record v { client = c.count.new.self; owned = record v.owned { shell = c.on_commit.new.self } })
    c.apply-applied.new.self
    (objects-counted v.client c.count.new.self c.count.ensures.only) applied)

pub returns-then-not-is_whole-clause-answers : goal.returns-then-not-is_whole-clause-answers
returns-then-not-is_whole-clause-answers g c = rw c.of.ensures (λ named client r on is only placed.
    let v = c.args.self.now in
    let object = c.args.object in
    let bounds = c.args.given.placing.bounds in
    let corner = c.args.given.placing.parent_at in
    let number = c.args.surface in
    let names = names_of v.client.objects in
    let kept = kept_of v.owned.shell in
    let will : c.is_some-has_buffer.result ≡ will_show r object = c.is_some-has_buffer.ensures
    ∙ pending-read names v.owned.surfaces.states v.owned.surfaces.family kept r is.owns object number c.pending_buffer.result named c.pending_buffer.ensures in
    let whole : c.is_whole.result ≡ will_be_whole r object = whole-read names v.owned.surfaces.states v.owned.surfaces.family kept r is.owns object number c.is_whole.result named c.is_whole.ensures in
    let answer = ap (λ (b : Bool). commit_answer b bounds corner (kept number)) (sym will) ∙ sym c.on_commit.ensures.answer ∙ c.in-Ok.is in
    let judged = unwhole-judged (will_be_whole r object) object (commit_demand r object) _ (CommitTree object)
    (committed-by names v.owned.surfaces.states v.owned.surfaces.family kept r is.owns bounds corner object number 0 0 named) (sym whole ∙ c.if-not-is_whole.true)
    (ap (asks_by (λ (a : ShellAct). CommitTree object) (shell_refusal 0 (kept_id (kept number)) 0)) answer) in
    refused-as _ _ client r on (commit_demand r object) _ (judged ∙ ap (λ (f : Refusal). Err f) (sym c.of-refusal.ensures)) c.refuse.ensures.ended (c.refuse.ensures.errs r.peer is.peer))

pub returns-in-Err-clause-answers : goal.returns-in-Err-clause-answers
returns-in-Err-clause-answers g c = rw c.of-in-Err.ensures (λ named client r on is only placed.
    let v = c.args.self.now in
    let object = c.args.object in
    let bounds = c.args.given.placing.bounds in
    let corner = c.args.given.placing.parent_at in
    let number = c.args.surface in
    let error = c.in-Err.error in
    let names = names_of v.client.objects in
    let kept = kept_of v.owned.shell in
    let xdg = c.xdg_surface_of-xdg_surface.result in
    let base = kept_base (kept_of c.on_commit.new.self number) in
    let will : c.is_some-has_buffer.result ≡ will_show r object = c.is_some-has_buffer.ensures
    ∙ pending-read names v.owned.surfaces.states v.owned.surfaces.family kept r is.owns object number c.pending_buffer.result named c.pending_buffer.ensures in
    let same : kept_id (kept number) ≡ xdg = sym (c.xdg_surface_of-xdg_surface.ensures ∙ ap (λ b. kept_id (kept_of b number)) c.in-Err.ensures.err) in
    let asked = asks_by (λ (a : ShellAct). CommitTree object) (shell_refusal base (kept_id (kept number)) xdg) (commit_answer (will_show r object) bounds corner (kept number)) in
    let judged = shell-judged (will_be_whole r object) object (commit_demand r object) asked (shell_refusal base (kept_id (kept number)) xdg error)
    (committed-by names v.owned.surfaces.states v.owned.surfaces.family kept r is.owns bounds corner object number base xdg named)
    (told-err asked (λ (a : ShellAct). CommitTree object) (shell_refusal base (kept_id (kept number)) xdg) (commit_answer (will_show r object) bounds corner (kept number))
    c.on_commit.result error refl
    (c.on_commit.ensures.answer ∙ ap (λ (b : Bool). commit_answer b bounds corner (kept number)) will) c.in-Err.is) in
    refused-as _ _ client r on (commit_demand r object) (shell_refusal base xdg xdg error) (judged ∙ ap (λ i. Err (shell_refusal base i xdg error)) same)
    c.refuse_xdg_surface.ensures.ended
    (c.refuse_xdg_surface.ensures.errs r.peer is.peer))

pub returns-else-not-is_whole-clause-stacks : goal.returns-else-not-is_whole-clause-stacks
returns-else-not-is_whole-clause-stacks g c = λ named r is only.
    let v = c.args.self.now in
    let object = c.args.object in
    let bounds = c.args.given.placing.bounds in
    let corner = c.args.given.placing.parent_at in
    let number = c.args.surface in
    let names = names_of v.client.objects in
    let kept = kept_of v.owned.shell in
    let will : c.is_some-has_buffer.result ≡ will_show r object = c.is_some-has_buffer.ensures
    ∙ pending-read names v.owned.surfaces.states v.owned.surfaces.family kept r is.owns object number c.pending_buffer.result named c.pending_buffer.ensures in
    let whole : c.is_whole.result ≡ will_be_whole r object = whole-read names v.owned.surfaces.states v.owned.surfaces.family kept r is.owns object number c.is_whole.result named c.is_whole.ensures in
    let judged = whole-judged (will_be_whole r object) object (commit_demand r object) _
    (committed-by names v.owned.surfaces.states v.owned.surfaces.family kept r is.owns bounds corner object number 0 0 named) (sym whole ∙ c.if-not-is_whole.false)
    ∙ ap (λ (b : Bool). asks_by (λ (a : ShellAct). CommitTree object) (shell_refusal 0 (kept_id (kept number)) 0) (commit_answer b bounds corner (kept number))) (sym will)
    ∙ ap (asks_by (λ (a : ShellAct). CommitTree object) (shell_refusal 0 (kept_id (kept number)) 0)) (sym c.on_commit.ensures.answer ∙ c.in-Ok.is) in
    let comes = answered-effect names v.owned.surfaces.states v.owned.surfaces.family kept r is.owns object number (will_show r object) bounds corner c.in-Ok.act named
    (ap (λ (b : Bool). commit_answer b bounds corner (kept number)) (sym will)
    ∙ sym c.on_commit.ensures.answer ∙ c.in-Ok.is) in
    commit-stacks v r object number c.in-Ok.act c.has_toplevel-is_toplevel.result (commit_demand r object) c.stacking_of.result named judged comes
    (c.has_toplevel-is_toplevel.ensures ∙ toplevel-read names v.owned.surfaces.states v.owned.surfaces.family kept r is.owns object number named) c.stacking_of.ensures

pub returns-then-not-is_whole-clause-stacks : goal.returns-then-not-is_whole-clause-stacks
returns-then-not-is_whole-clause-stacks g c = λ named r is only.
    let v = c.args.self.now in
    let object = c.args.object in
    let bounds = c.args.given.placing.bounds in
    let corner = c.args.given.placing.parent_at in
    let number = c.args.surface in
    let names = names_of v.client.objects in
    let kept = kept_of v.owned.shell in
    let will : c.is_some-has_buffer.result ≡ will_show r object = c.is_some-has_buffer.ensures
    ∙ pending-read names v.owned.surfaces.states v.owned.surfaces.family kept r is.owns object number c.pending_buffer.result named c.pending_buffer.ensures in
    let whole : c.is_whole.result ≡ will_be_whole r object = whole-read names v.owned.surfaces.states v.owned.surfaces.family kept r is.owns object number c.is_whole.result named c.is_whole.ensures in
    let answer = ap (λ (b : Bool). commit_answer b bounds corner (kept number)) (sym will) ∙ sym c.on_commit.ensures.answer ∙ c.in-Ok.is in
    let judged = unwhole-judged (will_be_whole r object) object (commit_demand r object) _ (CommitTree object)
    (committed-by names v.owned.surfaces.states v.owned.surfaces.family kept r is.owns bounds corner object number 0 0 named) (sym whole ∙ c.if-not-is_whole.true)
    (ap (asks_by (λ (a : ShellAct). CommitTree object) (shell_refusal 0 (kept_id (kept number)) 0)) answer) in
    subst (λ (j : Result Demand Refusal). StacksSo v r j c.of.result.stacking) (sym judged) tt

pub returns-then-not-is_whole-clause-rest : goal.returns-then-not-is_whole-clause-rest
returns-then-not-is_whole-clause-rest g c = rw c.refuse.ensures.rest (omega arith)

pub returns-then-not-is_whole-clause-touched : goal.returns-then-not-is_whole-clause-touched
returns-then-not-is_whole-clause-touched g c = rw c.of.ensures tt

pub returns-then-not-is_whole-clause-holds : goal.returns-then-not-is_whole-clause-holds
returns-then-not-is_whole-clause-holds g c = rw c.of.ensures (λ named client r on is only placed done. absurd (cc))

pub returns-else-not-is_whole-clause-rest : goal.returns-else-not-is_whole-clause-rest
returns-else-not-is_whole-clause-rest g c = rw (← c.count.ensures.rest) c.apply-applied.ensures.rest

pub returns-in-Err-clause-rest : goal.returns-in-Err-clause-rest
returns-in-Err-clause-rest g c = c.refuse_xdg_surface.ensures.rest

pub returns-in-Err-clause-stacks : goal.returns-in-Err-clause-stacks
returns-in-Err-clause-stacks g c = λ named r is only.
    let v = c.args.self.now in
    let object = c.args.object in
    let bounds = c.args.given.placing.bounds in
    let corner = c.args.given.placing.parent_at in
    let number = c.args.surface in
    let error = c.in-Err.error in
    let names = names_of v.client.objects in
    let kept = kept_of v.owned.shell in
    let xdg = c.xdg_surface_of-xdg_surface.result in
    let base = kept_base (kept_of c.on_commit.new.self number) in
    let will : c.is_some-has_buffer.result ≡ will_show r object = c.is_some-has_buffer.ensures
    ∙ pending-read names v.owned.surfaces.states v.owned.surfaces.family kept r is.owns object number c.pending_buffer.result named c.pending_buffer.ensures in
    let same : kept_id (kept number) ≡ xdg = sym (c.xdg_surface_of-xdg_surface.ensures ∙ ap (λ b. kept_id (kept_of b number)) c.in-Err.ensures.err) in
    let asked = asks_by (λ (a : ShellAct). CommitTree object) (shell_refusal base (kept_id (kept number)) xdg) (commit_answer (will_show r object) bounds corner (kept number)) in
    let judged = shell-judged (will_be_whole r object) object (commit_demand r object) asked (shell_refusal base (kept_id (kept number)) xdg error)
    (committed-by names v.owned.surfaces.states v.owned.surfaces.family kept r is.owns bounds corner object number base xdg named)
    (told-err asked (λ (a : ShellAct). CommitTree object) (shell_refusal base (kept_id (kept number)) xdg) (commit_answer (will_show r object) bounds corner (kept number))
    c.on_commit.result error refl
    (c.on_commit.ensures.answer ∙ ap (λ (b : Bool). commit_answer b bounds corner (kept number)) will) c.in-Err.is) in
    subst (λ (j : Result Demand Refusal). StacksSo v r j c.of-in-Err.result.stacking) (sym judged) tt

pub returns-else-not-is_whole-clause-touched : goal.returns-else-not-is_whole-clause-touched
returns-else-not-is_whole-clause-touched g c = c.apply-applied.ensures.touched

pub returns-in-Err-clause-touched : goal.returns-in-Err-clause-touched
returns-in-Err-clause-touched g c = rw c.of-in-Err.ensures tt

-- ---- what is kept stands by the numbers from before

pub returns-else-not-is_whole-clause-holds : goal.returns-else-not-is_whole-clause-holds
returns-else-not-is_whole-clause-holds g c = λ named client r on is only placed done.
    let v = c.args.self.now in
    let object = c.args.object in
    let bounds = c.args.given.placing.bounds in
    let corner = c.args.given.placing.parent_at in
    let number = c.args.surface in
    let act = c.in-Ok.act in
    let names = names_of v.client.objects in
    let kept = kept_of v.owned.shell in
    let will : c.is_some-has_buffer.result ≡ will_show r object = c.is_some-has_buffer.ensures
    ∙ pending-read names v.owned.surfaces.states v.owned.surfaces.family kept r is.owns object number c.pending_buffer.result named c.pending_buffer.ensures in
    let answer = ap (λ (b : Bool). commit_answer b bounds corner (kept number)) (sym will) ∙ sym c.on_commit.ensures.answer ∙ c.in-Ok.is in
    let whole : c.is_whole.result ≡ will_be_whole r object = whole-read names v.owned.surfaces.states v.owned.surfaces.family kept r is.owns object number c.is_whole.result named c.is_whole.ensures in
    let judged = whole-judged (will_be_whole r object) object (commit_demand r object) _
    (committed-by names v.owned.surfaces.states v.owned.surfaces.family kept r is.owns bounds corner object number 0 0 named) (sym whole ∙ c.if-not-is_whole.false)
    ∙ ap (asks_by (λ (a : ShellAct). CommitTree object) (shell_refusal 0 (kept_id (kept number)) 0)) answer in
    let serial : c.serial-serial.result ≡ r.peer.serial = c.serial-serial.ensures ∙ is.peer.serial in
    let shell = c.in-Ok.ensures.ok ∙ ap (λ (n : ℕ). changing number (kept_after n act) kept) serial in
    subst (λ (j : Result Demand Refusal). HoldsSo j client r on v c.apply-applied.new.self) (sym judged)
    (held-so v (record v { client = c.count.new.self; owned = record v.owned { shell = c.on_commit.new.self } }) c.apply-applied.new.self (Ok (CommitTree object)) client r on
    (objects-counted v.client c.count.new.self c.count.ensures.only)
    (c.apply-applied.ensures.holds client (with_peer (counted r.peer) r) on names object kept bounds corner (counted-ordered r only) is.owns
    (names-counted v.client c.count.new.self c.count.ensures.only) named placed.bounds placed.parent answer shell done))

pub returns-in-Err-clause-holds : goal.returns-in-Err-clause-holds
returns-in-Err-clause-holds g c = rw c.of-in-Err.ensures (λ named client r on is only placed done. absurd (cc))

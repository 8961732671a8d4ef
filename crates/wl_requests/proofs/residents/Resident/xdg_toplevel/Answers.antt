use Rattle.std.proofs.Common.{refl, ◌≡◌, ℕ, Option, Some, subst, sym, ◌∙◌, ap}
use Rattle.std.specs.Prelude.{Ok, Result}
use Rattle.spec_desktop.specs.declared.refusals.Refusal.{Refusal}
use Rattle.wl_shell.specs.Kept.{kept_of}
use Rattle.wl_shell.specs.Shell.{XdgSurface as Xdg, xdg_with}
use Rattle.wl_requests.specs.declared.residents.Stacking.TheVariants.{Out, Stays}
use Rattle.spec_desktop.specs.Ask.{Ignore}
use Rattle.spec_desktop.specs.Demanding.{toplevel_asked, toplevel_demand}
use Rattle.spec_desktop.specs.Requests.{toplevel_request}
use Rattle.spec_desktop.specs.ToplevelRequest.{ToplevelRequest}
use Rattle.spec_desktop.specs.ToplevelRequest as toplevel
use Rattle.spec_desktop.specs.Desktop.{Desktop, Resident}
use Rattle.law_desktop.proofs.OwnedPopups.Naming.{roles-named}
use Rattle.law_desktop.specs.RoleNames.{names_of}
use Rattle.law_desktop.proofs.Keeping.OwningXdg.{toplevel-named}
use Rattle.spec_desktop.specs.Demand.{Demand, Asks}
use Rattle.wl_requests.specs.declared.residents.Resident.{Resident as Kept}
use Rattle.wl_requests.specs.declared.xdg_toplevel.ToplevelAsked.TheVariants.{Destruction, Configure as AskedConfigure}
use Rattle.wl_requests.specs.Residents.{AnswersSo, StacksSo, asked_by}
use Rattle.wl_requests.proofs.Stackings.{toplevel-destroy, toplevel-of, toplevel-out, toplevel-state, toplevel-stays}
use Rattle.wl_requests.proofs.residents.Resident.xdg_toplevel.Goals as goal

pub returns-in-Destruction-clause-answers : goal.returns-in-Destruction-clause-answers
returns-in-Destruction-clause-answers g c = λ named version m interface asked client r on is only.
    let object = c.args.object in
    let destroys = toplevel-destroy (toplevel_request m.opcode m.fields) (sym asked ∙ c.in-Destruction.is) in
    subst (λ (j : Result Demand Refusal). AnswersSo j client r on c.args.self.now c.destroy_toplevel.new.self)
    (sym (toplevel-of r object version m interface ∙ ap (λ (request : ToplevelRequest). toplevel_demand r object request) destroys))
    (c.destroy_toplevel.ensures.answers named client r on is only)

pub returns-in-Configure-clause-answers : goal.returns-in-Configure-clause-answers
returns-in-Configure-clause-answers g c = λ named version m interface asked client r on is only.
    let object = c.args.object in
    let state = toplevel-state object (xdg_with object r.owned.shell) (toplevel_request m.opcode m.fields) (sym asked ∙ c.in-Configure.is) in
    subst (λ (j : Result Demand Refusal). AnswersSo j client r on c.args.self.now c.configure_again.new.self)
    (sym (toplevel-of r object version m interface ∙ state))
    (c.configure_again.ensures.answers named client r on is only)

-- one that isn't destroyed and asks for no other state changes nothing of the client
ignored : {A : Type 0} (old new : Kept A) (c : ℕ) (r : Resident) (d : Desktop) (object : ℕ) (x : Xdg) (request : ToplevelRequest) → (asked_by request ≡ Destruction → ⊥)
    → (asked_by request ≡ AskedConfigure → ⊥) → AnswersSo (Ok (Asks Ignore)) c r d old new → AnswersSo (toplevel_asked object (Some x) request) c r d old new
ignored old new c r d object x toplevel.Destroy stays still h = absurd (stays refl)
ignored old new c r d object x toplevel.SetMaximized stays still h = absurd (still refl)
ignored old new c r d object x toplevel.UnsetMaximized stays still h = absurd (still refl)
ignored old new c r d object x (toplevel.SetFullscreen output) stays still h = absurd (still refl)
ignored old new c r d object x toplevel.UnsetFullscreen stays still h = absurd (still refl)
ignored old new c r d object x request stays still h = h

pub returns-in-Nothing-clause-answers : goal.returns-in-Nothing-clause-answers
returns-in-Nothing-clause-answers g c = λ named version m interface asked client r on is only.
    let v = c.args.self.now in
    let object = c.args.object in
    let request = toplevel_request m.opcode m.fields in
    let one = toplevel-named (names_of v.client.objects) v.owned.surfaces.states v.owned.surfaces.family (kept_of v.owned.shell) r.owned is.owns object c.args.surface
    (roles-named.toplevel v.client.objects object c.args.surface named) in
    subst (λ (j : Result Demand Refusal). AnswersSo j client r on v c.ignore.new.self) (sym (toplevel-of r object version m interface))
    (subst (λ (o : Option Xdg). AnswersSo (toplevel_asked object o request) client r on v c.ignore.new.self) (sym one.4)
    (ignored v c.ignore.new.self client r on object one.1 request (λ is. let both = sym is ∙ sym asked ∙ c.in-Nothing.is in absurd (cc))
    (λ is. let both = sym is ∙ sym asked ∙ c.in-Nothing.is in absurd (cc)) (c.ignore.ensures.answers client r on is only)))

pub returns-in-Move-clause-answers : goal.returns-in-Move-clause-answers
returns-in-Move-clause-answers g c = λ named version m interface asked client r on is only.
    let v = c.args.self.now in
    let object = c.args.object in
    let request = toplevel_request m.opcode m.fields in
    let one = toplevel-named (names_of v.client.objects) v.owned.surfaces.states v.owned.surfaces.family (kept_of v.owned.shell) r.owned is.owns object c.args.surface
    (roles-named.toplevel v.client.objects object c.args.surface named) in
    subst (λ (j : Result Demand Refusal). AnswersSo j client r on v c.ignore-in-Move.new.self) (sym (toplevel-of r object version m interface))
    (subst (λ (o : Option Xdg). AnswersSo (toplevel_asked object o request) client r on v c.ignore-in-Move.new.self) (sym one.4)
    (ignored v c.ignore-in-Move.new.self client r on object one.1 request (λ is. let both = sym is ∙ sym asked ∙ c.in-Move.is in absurd (cc))
    (λ is. let both = sym is ∙ sym asked ∙ c.in-Move.is in absurd (cc)) (c.ignore-in-Move.ensures.answers client r on is only)))

pub returns-in-Destruction-clause-stacks : goal.returns-in-Destruction-clause-stacks
returns-in-Destruction-clause-stacks g c = λ named version m interface asked r is only.
    let v = c.args.self.now in
    let object = c.args.object in
    let destroys = toplevel-destroy (toplevel_request m.opcode m.fields) (sym asked ∙ c.in-Destruction.is) in
    subst (λ (j : Result Demand Refusal). StacksSo v r j (Out c.args.surface))
    (sym (toplevel-of r object version m interface ∙ ap (λ (request : ToplevelRequest). toplevel_demand r object request) destroys))
    (toplevel-out v r object c.args.surface is named)

pub returns-in-Configure-clause-stacks : goal.returns-in-Configure-clause-stacks
returns-in-Configure-clause-stacks g c = λ named version m interface asked r is only.
    let v = c.args.self.now in
    let object = c.args.object in
    subst (λ (j : Result Demand Refusal). StacksSo v r j Stays) (sym (toplevel-of r object version m interface))
    (toplevel-stays v r object (xdg_with object r.owned.shell) (toplevel_request m.opcode m.fields) (λ is. let both = sym is ∙ sym asked ∙ c.in-Configure.is in absurd (cc)))

pub returns-in-Nothing-clause-stacks : goal.returns-in-Nothing-clause-stacks
returns-in-Nothing-clause-stacks g c = λ named version m interface asked r is only.
    let v = c.args.self.now in
    let object = c.args.object in
    subst (λ (j : Result Demand Refusal). StacksSo v r j Stays) (sym (toplevel-of r object version m interface))
    (toplevel-stays v r object (xdg_with object r.owned.shell) (toplevel_request m.opcode m.fields) (λ is. let both = sym is ∙ sym asked ∙ c.in-Nothing.is in absurd (cc)))

pub returns-in-Move-clause-stacks : goal.returns-in-Move-clause-stacks
returns-in-Move-clause-stacks g c = λ named version m interface asked r is only.
    let v = c.args.self.now in
    let object = c.args.object in
    subst (λ (j : Result Demand Refusal). StacksSo v r j Stays) (sym (toplevel-of r object version m interface))
    (toplevel-stays v r object (xdg_with object r.owned.shell) (toplevel_request m.opcode m.fields) (λ is. let both = sym is ∙ sym asked ∙ c.in-Move.is in absurd (cc)))

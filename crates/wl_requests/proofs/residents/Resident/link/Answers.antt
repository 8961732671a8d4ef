use Rattle.std.proofs.Common.{ap, sym, subst, ◌∙◌}
use Rattle.std.specs.Prelude.{Result, is_some}
use Rattle.spec_desktop.specs.Demand.{GetSubsurface}
use Rattle.spec_desktop.specs.WlSubsurface.{subsurface_made}
use Rattle.wl_surface.specs.declared.error.SurfaceError.{SurfaceError}
use Rattle.wl_requests.specs.Linking.{IsJudgedBy}
use Rattle.wl_requests.proofs.Judging.{copied-there, deep-is, deep-judged, lacks-judged, linked-judged, made-so, one-judged, passed, xdg-judged}
use Rattle.wl_requests.proofs.residents.Resident.link.Goals as goal
use Rattle.wl_requests.proofs.residents.Resident.link.Goals.{then-is_some-via-then-is_some, then-is_some-via-else-is_some+then-is_some-2}

pub returns-then-is_too_deep-clause-judged : goal.returns-then-is_too_deep-clause-judged
returns-then-is_too_deep-clause-judged g c = λ names r child parent object version id two.
    let v = c.args.self.now in
    let deep = deep-is v names r child c.args.child parent c.args.parent two c.is_too_deep.result c.is_too_deep.ensures.deep c.is_too_deep.ensures.stand in
    deep-judged v names r child c.args.child parent c.args.parent two object version id (deep ∙ c.if-is_too_deep.true)

pub returns-then-is_some-clause-judged : goal.returns-then-is_some-clause-judged
returns-then-is_some-clause-judged g c = λ names r child parent object version id two.
    let v = c.args.self.now in
    let shallow = deep-is v names r child c.args.child parent c.args.parent two c.is_too_deep.result c.is_too_deep.ensures.deep c.is_too_deep.ensures.stand ∙ c.if-is_too_deep.false in
    elim c.then-is_some.branch [
      | then-is_some-via-then-is_some w ↦
          one-judged v names r child c.args.child parent c.args.parent two object version id shallow (sym (ap is_some c.get.ensures) ∙ sym c.is_some.ensures ∙ w.if-is_some.true)
      | then-is_some-via-else-is_some+then-is_some-2 w ↦
          xdg-judged v names r child c.args.child parent c.args.parent two object version id shallow
          (sym (ap is_some w.get-else-is_some.ensures) ∙ copied-there w.get-else-is_some.result ∙ sym w.is_some-else-is_some.ensures ∙ w.if-is_some-2.true)
    ]

pub returns-in_err-subsurface-clause-judged : goal.returns-in_err-subsurface-clause-judged
returns-in_err-subsurface-clause-judged g c = λ names r child parent object version id two.
    let v = c.args.self.now in
    let so = linked-judged v names r child c.args.child parent c.args.parent two object version id (sym (ap is_some c.get.ensures) ∙ sym c.is_some.ensures ∙ c.if-is_some.false)
    (sym (ap is_some c.get-else-is_some.ensures) ∙ copied-there c.get-else-is_some.result ∙ sym c.is_some-else-is_some.ensures ∙ c.if-is_some-2.false) _ c.in_err-subsurface.ensures.refused in
    subst (λ (t : Result (Unit {0}) SurfaceError). IsJudgedBy object t (GetSubsurface id version child parent) (subsurface_made r object version id child parent))
    (sym (passed c.from_residual.result c.in_err-subsurface.field-0.0 c.from_residual.ensures.1)) so

pub returns-in_err-set-clause-judged : goal.returns-in_err-set-clause-judged
returns-in_err-set-clause-judged g c = λ names r child parent object version id two.
    let v = c.args.self.now in
    let so = linked-judged v names r child c.args.child parent c.args.parent two object version id (sym (ap is_some c.get.ensures) ∙ sym c.is_some.ensures ∙ c.if-is_some.false)
    (sym (ap is_some c.get-else-is_some.ensures) ∙ copied-there c.get-else-is_some.result ∙ sym c.is_some-else-is_some.ensures ∙ c.if-is_some-2.false) _ c.in_ok-subsurface.ensures.refused in
    lacks-judged object (GetSubsurface id version child parent) (subsurface_made r object version id child parent) c.from_residual-in_err-set.result so c.from_residual-in_err-set.ensures.1

pub returns-clause-judged : goal.returns-clause-judged
returns-clause-judged g c = λ names r child parent object version id two.
    linked-judged c.args.self.now names r child c.args.child parent c.args.parent two object version id (sym (ap is_some c.get.ensures) ∙ sym c.is_some.ensures ∙ c.if-is_some.false)
    (sym (ap is_some c.get-else-is_some.ensures) ∙ copied-there c.get-else-is_some.result ∙ sym c.is_some-else-is_some.ensures ∙ c.if-is_some-2.false) _ c.in_ok-subsurface.ensures.refused

pub returns-clause-made : goal.returns-clause-made
returns-clause-made g c = λ names r child parent number two none new.
    made-so c.args.self.now names r child c.args.child parent c.args.parent two number c.args.id c.subsurface.new.self.states c.subsurface.new.self.family c.set.new.self none new
    (sym (ap is_some c.get.ensures) ∙ sym c.is_some.ensures ∙ c.if-is_some.false) c.in_ok-subsurface.ensures.ok c.in_ok-set.ensures.ok

use Rattle.std.proofs.Common.{ℕ, arith, refl, ◌∙◌, ◌≡◌, ◌≢◌, ◌<◌, ◌≤◌, sym, ap, rules}
use Rattle.wl_client.specs.declared.served.Served.TheVariants as served
use Rattle.wl_client.specs.declared.outputs.Output.{Output}
use Rattle.wl_paint.specs.Damage.{Damaged}
use Rattle.wl_paint.specs.Frame.{Image}
use Rattle.wl_desk.proofs.Calls.{large-on}
use Rattle.wl_desk.proofs.Rests.{left-on}
use Rattle.wl_session.proofs.Courses.{served-more, served-none, took-then}
use Rattle.wl_session.proofs.sessions.Session.serve_all.Goals as goal

pub loop-self-preserved : goal.loop-self-preserved
loop-self-preserved g c =
    let other : c.serve.result ≢ served.More = search rules in
    record {
      taken = λ d a.
          let m = c.loop-self.invariant.taken d a in
          served-more c.args.client _ _ _ d m refl (large-on _ _ _ (large-on _ _ _ c.serve.ensures.sides c.end_each.ensures.sides) c.settle_all.ensures.sides)
          (c.serve.ensures.leads other _ _ c.end_each.ensures.ends c.settle_all.ensures.settles m.desktop m.agrees);
      frame = c.loop-self.invariant.frame;
      output = c.settle_all.ensures.output ∙ c.end_each.ensures.output ∙ c.serve.ensures.output ∙ c.loop-self.invariant.output;
      painted = c.loop-self.invariant.painted;
    }

less-on : (k m n : ℕ) → k ≤ m → m < n → k < n
less-on k m n below above = omega (arith, below, above)

pub loop-self-smaller : goal.loop-self-smaller
loop-self-smaller g c =
    let other : c.serve.result ≢ served.More = search rules in
    less-on _ _ _ (left-on _ _ _ c.end_each.ensures.rests c.settle_all.ensures.rests c.args.client) (c.serve.ensures.less other)

pub loop-self-init : goal.loop-self-init
loop-self-init g c = record { taken = λ d a. rw (← c.self.view_is) (served-none c.args.client _ d (rw (← c.self.view_is) at a)); frame = refl; output = refl; painted = refl }

pub returns-clause-serves : goal.returns-clause-serves
returns-clause-serves g c = λ d a.
    let done : c.serve.result ≡ served.More = search rules in
    let m = c.loop-self.invariant.taken d a in
    let last = c.serve.ensures.more done m.desktop m.agrees in
    let t = took-then c.args.client _ _ _ d m (c.serve.ensures.rests done) refl last.0 in
    (t.0, rw t.1 last.1)

pub invariant_of-self : goal.invariant_of-self
invariant_of-self g c =
    let out = sym (c.serve.ensures.output ∙ c.loop-self.invariant.output) in
    let frame = c.loop-self.invariant.frame in
    let painted = c.loop-self.invariant.painted in (
      ap (λ (i : Image). i.width) frame ∙ (c.self.invariant.0 ∙ ap (λ (o : Output). o.width) out),
      ap (λ (i : Image). i.height) frame ∙ (c.self.invariant.1 ∙ ap (λ (o : Output). o.height) out),
      ap (λ (i : Damaged). i.width) painted ∙ (c.self.invariant.2 ∙ ap (λ (o : Output). o.width) out),
      ap (λ (i : Damaged). i.height) painted ∙ (c.self.invariant.3 ∙ ap (λ (o : Output). o.height) out),
    )

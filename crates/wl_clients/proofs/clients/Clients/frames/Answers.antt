use Rattle.std.proofs.Common.{◌≡◌, refl, subst, ℕ, ◌∙◌, arith}
use Rattle.law_desktop.proofs.KeptRecords.Marks.Framing.{shows-told}
use Rattle.wl_clients.proofs.Framing.{HasTold, more-told, none-told, told-most}
use Rattle.wl_clients.proofs.Leading.{frames-led}
use Rattle.wl_clients.proofs.clients.Clients.frames.Goals as goal

pub loop-before-init : goal.loop-before-init
loop-before-init g c = record { told = λ d a. (d, none-told c.args.time c.args.self.now d a); sides = record { width = refl; height = refl }; output = refl }

pub loop-before-preserved : goal.loop-before-preserved
loop-before-preserved g c =
    let inv = c.loop-before.invariant in
    let sides = c.tell_frames.ensures.sides in
    record {
      told = λ d a.
          let before = inv.told d a in
          let next = c.tell_frames.ensures.tells before.0 before.1.agrees in
          (next.0, more-told c.args.time c.loop-before.before c.args.self.now c.loop-before.self c.tell_frames.new.self d before.0 next.0 inv.sides a before.1 next.1);
      sides = record { width = sides.width ∙ inv.sides.width; height = sides.height ∙ inv.sides.height };
      output = c.tell_frames.ensures.output ∙ inv.output;
    }

pub returns-clause-shows : goal.returns-clause-shows
returns-clause-shows g c = λ d a.
    let all : c.loop-before.before ≡ 32 = omega (arith, c.loop-before-test.false) in
    let last = c.loop-before.invariant.told d a in
    let told = subst (λ (n : ℕ). HasTold c.args.time n c.args.self.now c.loop-before.self d last.0) all last.1 in
    (last.0, (refl, shows-told c.args.time d last.0 a.ordered.in_order.pointer told.told), told.agrees, told.marks, told-most c.args.time 31 c.args.self.now c.loop-before.self d last.0 a told, told.quiet)

pub returns-clause-leads : goal.returns-clause-leads
returns-clause-leads g c = frames-led c.args.time _ _ _ _ (returns-clause-shows g c)

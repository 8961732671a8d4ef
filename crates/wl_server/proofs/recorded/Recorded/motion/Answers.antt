use Rattle.std.proofs.Common.{◌≡◌, List, Option, ℕ, ℤ, rules, subst, w32}
use Rattle.std.proofs.lemmas.Int.{to_z-of_z}
use Rattle.std.specs.Prelude.{FitsSigned}
use Rattle.spec_desktop.specs.Act.{Motion}
use Rattle.spec_desktop.specs.declared.answers.Done.TheVariants as gave
use Rattle.wl_recording.specs.Recording.{Recorded}
use Rattle.wl_session.specs.View.{SessionView}
use Rattle.wl_server.specs.Recorded.{Looks, NotesNext, NotesOf, OnBoth}
use Rattle.wl_server.proofs.Histories.{noted-behind, recorded-on}
use Rattle.wl_server.proofs.recorded.Recorded.motion.Goals as goal

pub invariant_of-self : goal.invariant_of-self
invariant_of-self g c =
    recorded-on g.R.Write.contents _ gave.Motion c.self.inside.session c.motion.new.self c.self.inside.recording c.settle.new.recording c.note_motion.new.recording
    c.self.invariant c.settle.ensures c.note_motion.ensures c.motion.ensures.course

-- the coordinates are those that were kept
noted-as : {W : Type 0} (contents : W → Option (List ℕ)) (time : ℕ) (x y kept_x kept_y : ℤ) (v : SessionView) (r s t : Option (Recorded W)) → kept_x ≡ x → kept_y ≡ y
    → OnBoth (Looks contents v) r s → OnBoth (NotesOf contents (Motion time kept_x kept_y) gave.Motion) s t → OnBoth (NotesNext contents v (Motion time x y) gave.Motion) r t
noted-as contents time x y kept_x kept_y v r s t is_x is_y looks notes =
    subst (λ (m : ℤ). OnBoth (NotesNext contents v (Motion time m y) gave.Motion) r t) is_x
    (subst (λ (n : ℤ). OnBoth (NotesNext contents v (Motion time kept_x n) gave.Motion) r t) is_y
    (noted-behind contents v (Motion time kept_x kept_y) gave.Motion r s t looks notes))

pub returns-clause-noted : goal.returns-clause-noted
returns-clause-noted g c =
    let x : FitsSigned w32 c.args.x = search rules in
    let y : FitsSigned w32 c.args.y = search rules in
    rw (← c.self.view_is) (noted-as g.R.Write.contents c.args.time c.args.x c.args.y _ _ c.self.inside.session c.self.inside.recording c.settle.new.recording c.note_motion.new.recording
    (to_z-of_z w32 c.args.x x) (to_z-of_z w32 c.args.y y) c.settle.ensures c.note_motion.ensures)

use Rattle.std.proofs.Common.{ap, refl, sym, ◌∙◌}
use Rattle.std.specs.Prelude.{is_some}
use Rattle.wl_clients.specs.View.{pile_of}
use Rattle.wl_clients.proofs.Calls.{lives-of}
use Rattle.wl_clients.proofs.Released.{ended-stays, lives-marks, lives-released, refused-stays}
use Rattle.wl_clients.proofs.grabs.release_of.Goals as goal

-- it ended
pub returns-then-has_ended-clause-releases : goal.returns-then-has_ended-clause-releases
returns-then-has_ended-clause-releases g c =
    let v = c.args.resident.now in
    (ended-stays c.args.client v (pile_of c.args.screen.now) c.args.screen.now.damage v.client.ended v.client.refused (sym c.has_ended.ensures ∙ c.if-has_ended.true)).0

pub returns-then-has_ended-clause-marks : goal.returns-then-has_ended-clause-marks
returns-then-has_ended-clause-marks g c =
    let v = c.args.resident.now in
    (ended-stays c.args.client v (pile_of c.args.screen.now) c.args.screen.now.damage v.client.ended v.client.refused (sym c.has_ended.ensures ∙ c.if-has_ended.true)).1

pub returns-then-has_ended-clause-sides : goal.returns-then-has_ended-clause-sides
returns-then-has_ended-clause-sides g c = record { width = refl; height = refl }

-- it is to end
pub returns-then-is_some-clause-releases : goal.returns-then-is_some-clause-releases
returns-then-is_some-clause-releases g c =
    let v = c.args.resident.now in
    (refused-stays c.args.client v (pile_of c.args.screen.now) c.args.screen.now.damage v.client.ended v.client.refused
    (sym (c.is_some.ensures ∙ ap is_some c.to_end_for.ensures) ∙ c.if-is_some.true)).0

pub returns-then-is_some-clause-marks : goal.returns-then-is_some-clause-marks
returns-then-is_some-clause-marks g c =
    let v = c.args.resident.now in
    (refused-stays c.args.client v (pile_of c.args.screen.now) c.args.screen.now.damage v.client.ended v.client.refused
    (sym (c.is_some.ensures ∙ ap is_some c.to_end_for.ensures) ∙ c.if-is_some.true)).1

pub returns-then-is_some-clause-sides : goal.returns-then-is_some-clause-sides
returns-then-is_some-clause-sides g c = record { width = refl; height = refl }

-- it lives
pub returns-clause-releases : goal.returns-clause-releases
returns-clause-releases g c =
    let v = c.args.resident.now in
    lives-released c.args.client v c.release_grabs.new.resident (pile_of c.args.screen.now) (pile_of c.release_grabs.new.self) c.args.screen.now.damage c.release_grabs.new.self.damage
    v.client.ended v.client.refused (lives-of v.client.ended (sym c.has_ended.ensures ∙ c.if-has_ended.false))
    (lives-of v.client.refused (sym (c.is_some.ensures ∙ ap is_some c.to_end_for.ensures) ∙ c.if-is_some.false)) c.release_grabs.ensures.releases

pub returns-clause-marks : goal.returns-clause-marks
returns-clause-marks g c =
    let v = c.args.resident.now in
    lives-marks c.args.client v c.release_grabs.new.resident (pile_of c.args.screen.now) (pile_of c.release_grabs.new.self) c.args.screen.now.damage c.release_grabs.new.self.damage
    v.client.ended v.client.refused (lives-of v.client.ended (sym c.has_ended.ensures ∙ c.if-has_ended.false))
    (lives-of v.client.refused (sym (c.is_some.ensures ∙ ap is_some c.to_end_for.ensures) ∙ c.if-is_some.false)) c.release_grabs.ensures.marks

pub returns-clause-sides : goal.returns-clause-sides
returns-clause-sides g c = c.release_grabs.ensures.sides

pub returns-clause-client : goal.returns-clause-client
returns-clause-client g c = c.release_grabs.ensures.client

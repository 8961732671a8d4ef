use Rattle.wl_clients.specs.View.{pile_of}
use Rattle.wl_clients.proofs.OnScreen.ReleasedSeats.{released-marks, released-seated}
use Rattle.wl_clients.proofs.screen.screens.Screen.release_grabs.Goals as goal

pub returns-clause-releases : goal.returns-clause-releases
returns-clause-releases g c = λ others base d r lives unrefused before ordered.
    released-seated c.release_laws.ensures c.args.client others base d r c.args.resident.now c.release_grabs.new.self (pile_of c.args.self.now) before ordered lives
    c.release_grabs.ensures.releases c.release_grabs.ensures.client c.release_grabs.ensures.surfaces c.release_grabs.ensures.subsurfaces c.remove_dismissed.new.self.scene
    c.remove_dismissed.new.self.stacked.windows c.remove_dismissed.ensures.scene c.remove_dismissed.ensures.windows

pub returns-clause-marks : goal.returns-clause-marks
returns-clause-marks g c = λ others base d r q lives unrefused width height before ordered.
    released-marks c.release_laws.ensures c.args.client others base d r c.args.resident.now c.release_grabs.new.self (pile_of c.args.self.now) before ordered lives
    c.release_grabs.ensures.releases q c.args.self.now.damage c.remove_dismissed.new.self.damage width height c.remove_dismissed.ensures.points

use Rattle.wl_proto.specs.declared.xdg_popup.XdgPopupRequest.TheVariants as popup
use Rattle.std.proofs.Common.{refl}
use Rattle.std.specs.Prelude.{is_some}
use Rattle.spec_desktop.specs.XdgPopup.{popup_demand}
use Rattle.wl_requests.specs.Touching.{Closes}
use Rattle.wl_requests.proofs.Meeting.{answered-so}
use Rattle.wl_requests.proofs.PopupsAnswered.{touched-so}
use Rattle.wl_requests.proofs.residents.Resident.xdg_popup.Goals as goal

pub returns-in-Destroy-clause-answers : goal.returns-in-Destroy-clause-answers
returns-in-Destroy-clause-answers g c = λ version named.
    rw c.in-Destroy.is (
    λ client r d is ordered placed given.
    answered-so (is_some c.destroy_popup.result) (popup_demand r c.args.object popup.Destroy) client r d c.args.self.now _ (c.destroy_popup.ensures.decides named client r d is ordered))

pub returns-in-Destroy-clause-decides : goal.returns-in-Destroy-clause-decides
returns-in-Destroy-clause-decides g c = λ version touch of named. rw c.in-Destroy.is (c.destroy_popup.ensures.decides named)

pub returns-in-Destroy-clause-touched : goal.returns-in-Destroy-clause-touched
returns-in-Destroy-clause-touched g c = λ touch of.
    touched-so touch c.args.surface c.args.self.now.owned.surfaces c.destroy_popup.new.self.owned.surfaces c.destroy_popup.result (rw c.in-Destroy.is at of) c.destroy_popup.ensures.surfaces
    c.destroy_popup.ensures.told

pub returns-in-Destroy-clause-nothing : goal.returns-in-Destroy-clause-nothing
returns-in-Destroy-clause-nothing g c = λ never. absurd (never (Closes c.args.surface) (rw c.in-Destroy.is refl))

pub returns-in-Grab-clause-answers : goal.returns-in-Grab-clause-answers
returns-in-Grab-clause-answers g c = λ version named.
    rw c.in-Grab.is (λ client r d is ordered placed given. c.grab.ensures.answers named c.in-Grab.seat client r d is ordered given)

pub returns-in-Reposition-clause-answers : goal.returns-in-Reposition-clause-answers
returns-in-Reposition-clause-answers g c = λ version named.
    rw c.in-Reposition.is (λ client r d is ordered placed given. c.reposition.ensures.answers named client r d is ordered placed)

-- ---- what is kept stands by the numbers from before

pub returns-in-Destroy-clause-holds : goal.returns-in-Destroy-clause-holds
returns-in-Destroy-clause-holds g c = λ version touch of named. rw c.in-Destroy.is (c.destroy_popup.ensures.holds named)

pub returns-in-Grab-clause-holds : goal.returns-in-Grab-clause-holds
returns-in-Grab-clause-holds g c = λ version touch of named. absurd (rw c.in-Grab.is at of)

pub returns-in-Reposition-clause-holds : goal.returns-in-Reposition-clause-holds
returns-in-Reposition-clause-holds g c = λ version touch of named. absurd (rw c.in-Reposition.is at of)

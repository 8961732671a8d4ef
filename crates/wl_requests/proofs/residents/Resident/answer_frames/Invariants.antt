use Rattle.std.proofs.Common.{◌≡◌, None, length}
use Rattle.spec_desktop.specs.Desktop.{Resident}
use Rattle.law_desktop.specs.Ordered.{OwnsOrdered}
use Rattle.law_desktop.specs.RoleNames.{names_of}
use Rattle.wl_requests.specs.Residents.{IsResident}
use Rattle.wl_requests.proofs.Answering.{IsAnswered}
use Rattle.wl_requests.proofs.residents.Resident.answer_frames.Given as goal

-- the client lives, and was told of some of its callbacks
abbrev pub invariant-loop-callback : goal.invariant-loop-callback
invariant-loop-callback g l =
    (l.fn.self.client.ended ≡ None → (r : Resident) → IsResident l.fn.self r → OwnsOrdered r
    → (mid : Resident) × IsAnswered l.time r mid × IsResident l.self mid × (names_of l.self.client.objects ≡ names_of l.fn.self.client.objects))
    × (l.self.owned.surfaces.states.places ≡ l.fn.self.owned.surfaces.states.places)

abbrev pub decreases-loop-callback : goal.decreases-loop-callback
decreases-loop-callback g l = length l.self.owned.surfaces.states.frames

use Rattle.std.proofs.Common.{◌≡◌, ℕ, Bool, ap, refl, subst, sym, ◌∙◌}
use Rattle.std.specs.Prelude.{is_some}
use Rattle.wl_proto.specs.declared.interface.Interface.TheVariants.{WlSubcompositor, WlSubsurface, XdgPopup as AnXdgPopup, XdgSurface as AnXdgSurface, XdgToplevel, XdgWmBase}
use Rattle.wl_proto.specs.Messages.{Message, wl_compositor_request, wl_pointer_request, wl_seat_request, wl_subcompositor_request, wl_subsurface_request, wl_surface_request, xdg_surface_request}
use Rattle.wl_proto.specs.Messages.{xdg_popup_request, xdg_wm_base_request}
use Rattle.wl_proto.specs.declared.wl_surface.WlSurfaceRequest.{WlSurfaceRequest}
use Rattle.wl_proto.specs.declared.wl_compositor.WlCompositorRequest.{WlCompositorRequest}
use Rattle.wl_proto.specs.declared.wl_compositor.WlCompositorRequest.TheVariants as compositor
use Rattle.wl_proto.specs.declared.wl_seat.WlSeatRequest.{WlSeatRequest}
use Rattle.wl_proto.specs.declared.wl_seat.WlSeatRequest.TheVariants as seat
use Rattle.wl_proto.specs.declared.xdg_popup.XdgPopupRequest.{XdgPopupRequest}
use Rattle.spec_desktop.specs.Demanding.{demand_of}
use Rattle.spec_desktop.specs.Desktop.{Resident}
use Rattle.spec_desktop.specs.WlSurface.{surface_created}
use Rattle.law_desktop.proofs.Keeping.OwningNames.{targets-at}
use Rattle.wl_requests.specs.Messages.{IsKind}
use Rattle.wl_requests.specs.Grabbing.{IsGrabbingFor}
use Rattle.wl_requests.specs.Placing.{IsPlacingFor}
use Rattle.wl_requests.specs.declared.messages.Kind.{Kind}
use Rattle.wl_requests.specs.declared.messages.Kind.TheVariants as kinds
use Rattle.wl_requests.specs.declared.residents.Grabbing.{Grabbing}
use Rattle.wl_requests.specs.declared.residents.Placing.{Placing}
use Rattle.wl_requests.specs.declared.residents.Resident.{Resident as Kept}
use Rattle.wl_requests.specs.declared.residents.Stacking.{Stacking}
use Rattle.wl_requests.specs.declared.residents.Stacking.TheVariants.{Stays}
use Rattle.wl_requests.specs.Residents.{AnswersAs, AnswersDemand, AnswersDemandAs, AnswersGiven, AnswersPlaced, AnswersPlacedAs, AnswersSo, NewIsFree, ObjectsFit, Stacks, StacksSo}
use Rattle.wl_requests.proofs.Doing.{named-by}
use Rattle.wl_requests.proofs.Interfaces.{object-is, of-base, of-popup, of-subcompositor, of-subsurface, of-surface, of-xdg-surface}
use Rattle.wl_requests.proofs.Meeting.{asks-stay}
use Rattle.wl_requests.proofs.PointerAsks.{seat-asked}
use Rattle.wl_requests.proofs.Stackings.{base-stays, pointer-stays, popup-stays, subcompositor-stays, subsurface-stays, xdg-stays}
use Rattle.wl_requests.proofs.HoldingFirst.{held-message, held-placed}
use Rattle.wl_requests.proofs.residents.Resident.answer.Goals as goal

-- ---- the message is that of the request

answered : {A : Type 0} (old new : Kept A) (object version : ℕ) (m n : Message) → m ≡ n → AnswersDemand (λ r. demand_of r object version n) old new
    → AnswersDemand (λ r. demand_of r object version m) old new
answered old new object version m n told h = subst (λ (x : Message). AnswersDemand (λ r. demand_of r object version x) old new) (sym told) h

decided : {A : Type 0} (done : Bool) (old new : Kept A) (object version : ℕ) (m n : Message) → m ≡ n → AnswersDemandAs done (λ r. demand_of r object version n) old new
    → AnswersDemandAs done (λ r. demand_of r object version m) old new
decided done old new object version m n told h = subst (λ (x : Message). AnswersDemandAs done (λ r. demand_of r object version x) old new) (sym told) h

stacked : {A : Type 0} (old : Kept A) (stacking : Stacking) (object version : ℕ) (m n : Message) → m ≡ n → Stacks (λ r. demand_of r object version n) old stacking
    → Stacks (λ r. demand_of r object version m) old stacking
stacked old stacking object version m n told h = subst (λ (x : Message). Stacks (λ r. demand_of r object version x) old stacking) (sym told) h

-- the surface of a commit is what a popup is placed for
placed-so : {A : Type 0} (old new : Kept A) (placing : Placing) (grabbing : Grabbing) (object version : ℕ) (k : Kind) (request : WlSurfaceRequest) (m : Message) → k ≡ kinds.Surface request
    → m ≡ wl_surface_request request
    → AnswersPlaced placing (kinds.Surface request) object (λ r. demand_of r object version (wl_surface_request request)) old new
    → AnswersGiven placing grabbing k object (λ r. demand_of r object version m) old new
placed-so old new placing grabbing object version k request m is told h = λ c r d its only placed given.
    subst (λ (x : Message). AnswersSo (demand_of r object version x) c r d old new) (sym told)
    (h c r d its only (subst (λ (j : Kind). IsPlacingFor placing object j c r d) is placed))

-- and the popup of a request for a grab, or to be placed anew, is what these are handed in for
given-so : {A : Type 0} (old new : Kept A) (placing : Placing) (grabbing : Grabbing) (object version : ℕ) (k : Kind) (request : XdgPopupRequest) (m : Message) → k ≡ kinds.Popup request
    → m ≡ xdg_popup_request request
    → AnswersGiven placing grabbing (kinds.Popup request) object (λ r. demand_of r object version (xdg_popup_request request)) old new
    → AnswersGiven placing grabbing k object (λ r. demand_of r object version m) old new
given-so old new placing grabbing object version k request m is told h = λ c r d its only placed given.
    subst (λ (x : Message). AnswersSo (demand_of r object version x) c r d old new) (sym told)
    (h c r d its only (subst (λ (j : Kind). IsPlacingFor placing object j c r d) is placed) (subst (λ (j : Kind). IsGrabbingFor grabbing j c r d) is given))

placed-as : {A : Type 0} (done : Bool) (old new : Kept A) (placing : Placing) (object version : ℕ) (k : Kind) (request : WlSurfaceRequest) (m : Message) → k ≡ kinds.Surface request
    → m ≡ wl_surface_request request
    → AnswersPlacedAs done placing (kinds.Surface request) object (λ r. demand_of r object version (wl_surface_request request)) old new
    → AnswersPlacedAs done placing k object (λ r. demand_of r object version m) old new
placed-as done old new placing object version k request m is told h = λ c r d its only placed.
    subst (λ (x : Message). AnswersAs done (demand_of r object version x) c r d old new) (sym told)
    (h c r d its only (subst (λ (j : Kind). IsPlacingFor placing object j c r d) is placed))

-- ---- what leaves the stack as it is

compositor-stays : {A : Type 0} (old : Kept A) (r : Resident) (object version : ℕ) (request : WlCompositorRequest)
    → StacksSo old r (demand_of r object version (wl_compositor_request request)) Stays
compositor-stays old r object version (compositor.CreateSurface id) = asks-stay old r (surface_created r id version)
compositor-stays old r object version (compositor.CreateRegion id) = refl

seat-stays : {A : Type 0} (old : Kept A) (r : Resident) (object version : ℕ) (request : WlSeatRequest)
    → StacksSo old r (demand_of r object version (wl_seat_request request)) Stays
seat-stays old r object version (seat.GetPointer id) = refl
seat-stays old r object version request = tt

-- ---- what is answered

pub returns-in-Surface-clause-answers : goal.returns-in-Surface-clause-answers
returns-in-Surface-clause-answers g c = λ m kind entry free fit.
    let v = c.args.self.now in
    let told : m ≡ wl_surface_request c.in-Surface.request = rw c.in-Surface.is at kind in
    let named = named-by v.client.objects c.args.object c.args.target _ entry (ap (λ (n : Message). n.interface) told ∙ of-surface c.in-Surface.request) refl in
    placed-so v c.wl_surface.new.self c.args.given.placing c.args.given.grabbing c.args.object c.args.version c.args.kind c.in-Surface.request m c.in-Surface.is told
    (c.wl_surface.ensures.answers named (subst (λ (n : Message). NewIsFree v n) told free))

pub returns-in-Toplevel-clause-answers : goal.returns-in-Toplevel-clause-answers
returns-in-Toplevel-clause-answers g c = λ m kind entry free fit client r on its only placed given.
    let v = c.args.self.now in
    let asked : IsKind (kinds.Toplevel c.in-Toplevel.asked) m = rw c.in-Toplevel.is at kind in
    c.xdg_toplevel.ensures.answers (targets-at XdgToplevel v.client.objects c.args.object _ entry asked.0) c.args.version m asked.0 asked.1 client r on its only

pub returns-in-Compositor-clause-answers : goal.returns-in-Compositor-clause-answers
returns-in-Compositor-clause-answers g c = λ m kind entry free fit client r on its only placed given.
    let v = c.args.self.now in
    let told : m ≡ wl_compositor_request c.in-Compositor.request = rw c.in-Compositor.is at kind in
    answered v c.wl_compositor.new.self c.args.object c.args.version m _ told
    (c.wl_compositor.ensures.answers c.args.object (subst (λ (n : Message). NewIsFree v n) told free)) client r on its only

pub returns-in-Subcompositor-clause-answers : goal.returns-in-Subcompositor-clause-answers
returns-in-Subcompositor-clause-answers g c = λ m kind entry free fit client r on its only placed given.
    let v = c.args.self.now in
    let told : m ≡ wl_subcompositor_request c.in-Subcompositor.request = rw c.in-Subcompositor.is at kind in
    let is = object-is WlSubcompositor v.client.objects c.args.object _ entry (ap (λ (n : Message). n.interface) told ∙ of-subcompositor c.in-Subcompositor.request) in
    answered v c.wl_subcompositor.new.self c.args.object c.args.version m _ told
    (c.wl_subcompositor.ensures.answers is (subst (λ (n : Message). NewIsFree v n) told free) (subst (λ (n : Message). ObjectsFit v n) told fit)) client r on its only

pub returns-in-Subsurface-clause-answers : goal.returns-in-Subsurface-clause-answers
returns-in-Subsurface-clause-answers g c = λ m kind entry free fit client r on its only placed given.
    let v = c.args.self.now in
    let told : m ≡ wl_subsurface_request c.in-Subsurface.request = rw c.in-Subsurface.is at kind in
    let is = object-is WlSubsurface v.client.objects c.args.object _ entry (ap (λ (n : Message). n.interface) told ∙ of-subsurface c.in-Subsurface.request) in
    answered v c.wl_subsurface.new.self c.args.object c.args.version m _ told
    (c.wl_subsurface.ensures.answers c.args.version is (subst (λ (n : Message). ObjectsFit v n) told fit)) client r on its only

pub returns-in-Seat-clause-answers : goal.returns-in-Seat-clause-answers
returns-in-Seat-clause-answers g c = λ m kind entry free fit client r on its only placed given.
    let v = c.args.self.now in
    let told : m ≡ wl_seat_request c.in-Seat.request = rw c.in-Seat.is at kind in
    answered v c.wl_seat.new.self c.args.object c.args.version m _ told
    (c.wl_seat.ensures.answers (subst (λ (n : Message). NewIsFree v n) told free)) client r on its only

pub returns-in-Pointer-clause-answers : goal.returns-in-Pointer-clause-answers
returns-in-Pointer-clause-answers g c = λ m kind entry free fit client r on its only placed given.
    let v = c.args.self.now in
    let told : m ≡ wl_pointer_request c.in-Pointer.request = rw c.in-Pointer.is at kind in
    answered v c.wl_pointer.new.self c.args.object c.args.version m _ told
    (c.wl_pointer.ensures.answers c.args.version (subst (λ (n : Message). ObjectsFit v n) told fit)) client r on its only

pub returns-in-Base-clause-answers : goal.returns-in-Base-clause-answers
returns-in-Base-clause-answers g c = λ m kind entry free fit client r on its only placed given.
    let v = c.args.self.now in
    let told : m ≡ xdg_wm_base_request c.in-Base.request = rw c.in-Base.is at kind in
    let is = object-is XdgWmBase v.client.objects c.args.object _ entry (ap (λ (n : Message). n.interface) told ∙ of-base c.in-Base.request) in
    answered v c.xdg_wm_base.new.self c.args.object c.args.version m _ told
    (c.xdg_wm_base.ensures.answers is (subst (λ (n : Message). NewIsFree v n) told free) (subst (λ (n : Message). ObjectsFit v n) told fit)) client r on its only

pub returns-in-XdgSurface-clause-answers : goal.returns-in-XdgSurface-clause-answers
returns-in-XdgSurface-clause-answers g c = λ m kind entry free fit client r on its only placed given.
    let v = c.args.self.now in
    let told : m ≡ xdg_surface_request c.in-XdgSurface.request = rw c.in-XdgSurface.is at kind in
    let named = targets-at AnXdgSurface v.client.objects c.args.object _ entry (ap (λ (n : Message). n.interface) told ∙ of-xdg-surface c.in-XdgSurface.request) in
    answered v c.xdg_surface.new.self c.args.object c.args.version m _ told
    (c.xdg_surface.ensures.answers named (subst (λ (n : Message). NewIsFree v n) told free) (subst (λ (n : Message). ObjectsFit v n) told fit)) client r on its only

pub returns-in-Popup-clause-answers : goal.returns-in-Popup-clause-answers
returns-in-Popup-clause-answers g c = λ m kind entry free fit.
    let v = c.args.self.now in
    let told : m ≡ xdg_popup_request c.in-Popup.request = rw c.in-Popup.is at kind in
    let named = targets-at AnXdgPopup v.client.objects c.args.object _ entry (ap (λ (n : Message). n.interface) told ∙ of-popup c.in-Popup.request) in
    given-so v c.xdg_popup.new.self c.args.given.placing c.args.given.grabbing c.args.object c.args.version c.args.kind c.in-Popup.request m c.in-Popup.is told (c.xdg_popup.ensures.answers c.args.version named)

-- ---- what becomes of the stack

pub returns-in-Surface-clause-stacks : goal.returns-in-Surface-clause-stacks
returns-in-Surface-clause-stacks g c = λ m kind entry.
    let v = c.args.self.now in
    let told : m ≡ wl_surface_request c.in-Surface.request = rw c.in-Surface.is at kind in
    let named = named-by v.client.objects c.args.object c.args.target _ entry (ap (λ (n : Message). n.interface) told ∙ of-surface c.in-Surface.request) refl in
    stacked v c.wl_surface.result.stacking c.args.object c.args.version m _ told (c.wl_surface.ensures.stacks named)

pub returns-in-Toplevel-clause-stacks : goal.returns-in-Toplevel-clause-stacks
returns-in-Toplevel-clause-stacks g c = rw c.of.ensures (λ m kind entry.
    let asked : IsKind (kinds.Toplevel c.in-Toplevel.asked) m = rw c.in-Toplevel.is at kind in
    c.xdg_toplevel.ensures.stacks (targets-at XdgToplevel c.args.self.now.client.objects c.args.object _ entry asked.0) c.args.version m asked.0 asked.1)

pub returns-in-Compositor-clause-stacks : goal.returns-in-Compositor-clause-stacks
returns-in-Compositor-clause-stacks g c = rw c.of-in-Compositor.ensures (λ m kind entry.
    let v = c.args.self.now in
    let told : m ≡ wl_compositor_request c.in-Compositor.request = rw c.in-Compositor.is at kind in
    stacked v Stays c.args.object c.args.version m _ told (λ r is only. compositor-stays v r c.args.object c.args.version c.in-Compositor.request))

pub returns-in-Subcompositor-clause-stacks : goal.returns-in-Subcompositor-clause-stacks
returns-in-Subcompositor-clause-stacks g c = rw c.of-in-Subcompositor.ensures (λ m kind entry.
    let v = c.args.self.now in
    let told : m ≡ wl_subcompositor_request c.in-Subcompositor.request = rw c.in-Subcompositor.is at kind in
    stacked v Stays c.args.object c.args.version m _ told (λ r is only. subcompositor-stays v r c.args.object c.args.version c.in-Subcompositor.request))

pub returns-in-Subsurface-clause-stacks : goal.returns-in-Subsurface-clause-stacks
returns-in-Subsurface-clause-stacks g c = rw c.wl_subsurface.ensures.stays (λ m kind entry.
    let v = c.args.self.now in
    let told : m ≡ wl_subsurface_request c.in-Subsurface.request = rw c.in-Subsurface.is at kind in
    stacked v Stays c.args.object c.args.version m _ told (λ r is only. subsurface-stays v r c.args.object c.args.version c.in-Subsurface.request))

pub returns-in-Seat-clause-stacks : goal.returns-in-Seat-clause-stacks
returns-in-Seat-clause-stacks g c = rw c.of-in-Seat.ensures (λ m kind entry.
    let v = c.args.self.now in
    let told : m ≡ wl_seat_request c.in-Seat.request = rw c.in-Seat.is at kind in
    stacked v Stays c.args.object c.args.version m _ told (λ r is only. seat-stays v r c.args.object c.args.version c.in-Seat.request))

pub returns-in-Pointer-clause-stacks : goal.returns-in-Pointer-clause-stacks
returns-in-Pointer-clause-stacks g c = rw c.of-in-Pointer.ensures (λ m kind entry.
    let v = c.args.self.now in
    let told : m ≡ wl_pointer_request c.in-Pointer.request = rw c.in-Pointer.is at kind in
    stacked v Stays c.args.object c.args.version m _ told (λ r is only. pointer-stays v r c.args.object c.args.version c.in-Pointer.request))

pub returns-in-Base-clause-stacks : goal.returns-in-Base-clause-stacks
returns-in-Base-clause-stacks g c = rw c.of-in-Base.ensures (λ m kind entry.
    let v = c.args.self.now in
    let told : m ≡ xdg_wm_base_request c.in-Base.request = rw c.in-Base.is at kind in
    stacked v Stays c.args.object c.args.version m _ told (λ r is only. base-stays v r c.args.object c.args.version c.in-Base.request))

pub returns-in-XdgSurface-clause-stacks : goal.returns-in-XdgSurface-clause-stacks
returns-in-XdgSurface-clause-stacks g c = rw c.of-in-XdgSurface.ensures (λ m kind entry.
    let v = c.args.self.now in
    let told : m ≡ xdg_surface_request c.in-XdgSurface.request = rw c.in-XdgSurface.is at kind in
    stacked v Stays c.args.object c.args.version m _ told (λ r is only. xdg-stays v r c.args.object c.args.version c.in-XdgSurface.request))

pub returns-in-Popup-clause-stacks : goal.returns-in-Popup-clause-stacks
returns-in-Popup-clause-stacks g c = rw c.xdg_popup.ensures.stays (λ m kind entry.
    let v = c.args.self.now in
    let told : m ≡ xdg_popup_request c.in-Popup.request = rw c.in-Popup.is at kind in
    stacked v Stays c.args.object c.args.version m _ told (λ r is only. popup-stays v r c.args.object c.args.version c.in-Popup.request))

-- ---- what touches several surfaces, and what does not

pub returns-in-Surface-clause-decides : goal.returns-in-Surface-clause-decides
returns-in-Surface-clause-decides g c = λ touch touches m kind entry.
    let v = c.args.self.now in
    let told : m ≡ wl_surface_request c.in-Surface.request = rw c.in-Surface.is at kind in
    let named = named-by v.client.objects c.args.object c.args.target _ entry (ap (λ (n : Message). n.interface) told ∙ of-surface c.in-Surface.request) refl in
    placed-as (is_some c.wl_surface.result.applied) v c.wl_surface.new.self c.args.given.placing c.args.object c.args.version c.args.kind c.in-Surface.request m c.in-Surface.is told
    (c.wl_surface.ensures.decides touch (rw c.in-Surface.is at touches) named)

pub returns-in-Surface-clause-touched : goal.returns-in-Surface-clause-touched
returns-in-Surface-clause-touched g c = λ touch touches. c.wl_surface.ensures.touched touch (rw c.in-Surface.is at touches)

pub returns-in-Surface-clause-nothing : goal.returns-in-Surface-clause-nothing
returns-in-Surface-clause-nothing g c = λ none numbers ss are. c.wl_surface.ensures.nothing (λ touch touches. none touch (rw c.in-Surface.is touches))

pub returns-in-Toplevel-clause-decides : goal.returns-in-Toplevel-clause-decides
returns-in-Toplevel-clause-decides g c = λ touch touches. absurd (rw c.in-Toplevel.is at touches)

pub returns-in-Toplevel-clause-touched : goal.returns-in-Toplevel-clause-touched
returns-in-Toplevel-clause-touched g c = λ touch touches. absurd (rw c.in-Toplevel.is at touches)

pub returns-in-Toplevel-clause-nothing : goal.returns-in-Toplevel-clause-nothing
returns-in-Toplevel-clause-nothing g c = λ none numbers ss are. rw c.of.ensures

pub returns-in-Compositor-clause-decides : goal.returns-in-Compositor-clause-decides
returns-in-Compositor-clause-decides g c = λ touch touches. absurd (rw c.in-Compositor.is at touches)

pub returns-in-Compositor-clause-touched : goal.returns-in-Compositor-clause-touched
returns-in-Compositor-clause-touched g c = λ touch touches. absurd (rw c.in-Compositor.is at touches)

pub returns-in-Compositor-clause-nothing : goal.returns-in-Compositor-clause-nothing
returns-in-Compositor-clause-nothing g c = λ none numbers ss are. rw c.of-in-Compositor.ensures

pub returns-in-Subcompositor-clause-decides : goal.returns-in-Subcompositor-clause-decides
returns-in-Subcompositor-clause-decides g c = λ touch touches. absurd (rw c.in-Subcompositor.is at touches)

pub returns-in-Subcompositor-clause-touched : goal.returns-in-Subcompositor-clause-touched
returns-in-Subcompositor-clause-touched g c = λ touch touches. absurd (rw c.in-Subcompositor.is at touches)

pub returns-in-Subcompositor-clause-nothing : goal.returns-in-Subcompositor-clause-nothing
returns-in-Subcompositor-clause-nothing g c = λ none numbers ss are. rw c.of-in-Subcompositor.ensures

pub returns-in-Subsurface-clause-decides : goal.returns-in-Subsurface-clause-decides
returns-in-Subsurface-clause-decides g c = λ touch touches m kind entry client r on its only placed.
    let v = c.args.self.now in
    let told : m ≡ wl_subsurface_request c.in-Subsurface.request = rw c.in-Subsurface.is at kind in
    let is = object-is WlSubsurface v.client.objects c.args.object _ entry (ap (λ (n : Message). n.interface) told ∙ of-subsurface c.in-Subsurface.request) in
    decided (is_some c.wl_subsurface.result.applied) v c.wl_subsurface.new.self c.args.object c.args.version m _ told
    (c.wl_subsurface.ensures.decides c.args.version c.args.target touch (rw c.in-Subsurface.is at touches) is) client r on its only

pub returns-in-Subsurface-clause-touched : goal.returns-in-Subsurface-clause-touched
returns-in-Subsurface-clause-touched g c = λ touch touches. c.wl_subsurface.ensures.touched c.args.target touch (rw c.in-Subsurface.is at touches)

pub returns-in-Subsurface-clause-nothing : goal.returns-in-Subsurface-clause-nothing
returns-in-Subsurface-clause-nothing g c = λ none numbers ss are. c.wl_subsurface.ensures.nothing c.args.target (λ touch touches. none touch (rw c.in-Subsurface.is touches)) numbers ss are

pub returns-in-Seat-clause-decides : goal.returns-in-Seat-clause-decides
returns-in-Seat-clause-decides g c = λ touch touches. absurd (rw c.in-Seat.is at touches)

pub returns-in-Seat-clause-touched : goal.returns-in-Seat-clause-touched
returns-in-Seat-clause-touched g c = λ touch touches. absurd (rw c.in-Seat.is at touches)

pub returns-in-Seat-clause-nothing : goal.returns-in-Seat-clause-nothing
returns-in-Seat-clause-nothing g c = λ none numbers ss are. rw c.of-in-Seat.ensures

pub returns-in-Pointer-clause-decides : goal.returns-in-Pointer-clause-decides
returns-in-Pointer-clause-decides g c = λ touch touches. absurd (rw c.in-Pointer.is at touches)

pub returns-in-Pointer-clause-touched : goal.returns-in-Pointer-clause-touched
returns-in-Pointer-clause-touched g c = λ touch touches. absurd (rw c.in-Pointer.is at touches)

pub returns-in-Pointer-clause-nothing : goal.returns-in-Pointer-clause-nothing
returns-in-Pointer-clause-nothing g c = λ none numbers ss are. rw c.of-in-Pointer.ensures

pub returns-in-Base-clause-decides : goal.returns-in-Base-clause-decides
returns-in-Base-clause-decides g c = λ touch touches. absurd (rw c.in-Base.is at touches)

pub returns-in-Base-clause-touched : goal.returns-in-Base-clause-touched
returns-in-Base-clause-touched g c = λ touch touches. absurd (rw c.in-Base.is at touches)

pub returns-in-Base-clause-nothing : goal.returns-in-Base-clause-nothing
returns-in-Base-clause-nothing g c = λ none numbers ss are. rw c.of-in-Base.ensures

pub returns-in-XdgSurface-clause-decides : goal.returns-in-XdgSurface-clause-decides
returns-in-XdgSurface-clause-decides g c = λ touch touches. absurd (rw c.in-XdgSurface.is at touches)

pub returns-in-XdgSurface-clause-touched : goal.returns-in-XdgSurface-clause-touched
returns-in-XdgSurface-clause-touched g c = λ touch touches. absurd (rw c.in-XdgSurface.is at touches)

pub returns-in-XdgSurface-clause-nothing : goal.returns-in-XdgSurface-clause-nothing
returns-in-XdgSurface-clause-nothing g c = λ none numbers ss are. rw c.of-in-XdgSurface.ensures

pub returns-in-Popup-clause-decides : goal.returns-in-Popup-clause-decides
returns-in-Popup-clause-decides g c = λ touch touches m kind entry client r on its only placed.
    let v = c.args.self.now in
    let told : m ≡ xdg_popup_request c.in-Popup.request = rw c.in-Popup.is at kind in
    let named = targets-at AnXdgPopup v.client.objects c.args.object _ entry (ap (λ (n : Message). n.interface) told ∙ of-popup c.in-Popup.request) in
    decided (is_some c.xdg_popup.result.applied) v c.xdg_popup.new.self c.args.object c.args.version m _ told
    (c.xdg_popup.ensures.decides c.args.version touch (rw c.in-Popup.is at touches) named) client r on its only

pub returns-in-Popup-clause-touched : goal.returns-in-Popup-clause-touched
returns-in-Popup-clause-touched g c = λ touch touches. c.xdg_popup.ensures.touched touch (rw c.in-Popup.is at touches)

pub returns-in-Popup-clause-nothing : goal.returns-in-Popup-clause-nothing
returns-in-Popup-clause-nothing g c = λ none numbers ss are. c.xdg_popup.ensures.nothing (λ touch touches. none touch (rw c.in-Popup.is touches))

-- ---- what has come gets no longer

pub returns-in-Surface-clause-rest : goal.returns-in-Surface-clause-rest
returns-in-Surface-clause-rest g c = c.wl_surface.ensures.rest

pub returns-in-Toplevel-clause-rest : goal.returns-in-Toplevel-clause-rest
returns-in-Toplevel-clause-rest g c = c.xdg_toplevel.ensures.rest

pub returns-in-Compositor-clause-rest : goal.returns-in-Compositor-clause-rest
returns-in-Compositor-clause-rest g c = c.wl_compositor.ensures.rest

pub returns-in-Subcompositor-clause-rest : goal.returns-in-Subcompositor-clause-rest
returns-in-Subcompositor-clause-rest g c = c.wl_subcompositor.ensures.rest

pub returns-in-Subsurface-clause-rest : goal.returns-in-Subsurface-clause-rest
returns-in-Subsurface-clause-rest g c = c.wl_subsurface.ensures.rest

pub returns-in-Seat-clause-rest : goal.returns-in-Seat-clause-rest
returns-in-Seat-clause-rest g c = c.wl_seat.ensures.rest

pub returns-in-Pointer-clause-rest : goal.returns-in-Pointer-clause-rest
returns-in-Pointer-clause-rest g c = c.wl_pointer.ensures.rest

pub returns-in-Base-clause-rest : goal.returns-in-Base-clause-rest
returns-in-Base-clause-rest g c = c.xdg_wm_base.ensures.rest

pub returns-in-XdgSurface-clause-rest : goal.returns-in-XdgSurface-clause-rest
returns-in-XdgSurface-clause-rest g c = c.xdg_surface.ensures.rest

pub returns-in-Popup-clause-rest : goal.returns-in-Popup-clause-rest
returns-in-Popup-clause-rest g c = c.xdg_popup.ensures.rest

-- ---- a new wl_pointer where there is no room for it

pub returns-in-Surface-clause-seat : goal.returns-in-Surface-clause-seat
returns-in-Surface-clause-seat g c = λ id e without. let same = sym c.in-Surface.is ∙ seat-asked c.args.target c.args.kind id e in absurd (cc)

pub returns-in-Toplevel-clause-seat : goal.returns-in-Toplevel-clause-seat
returns-in-Toplevel-clause-seat g c = λ id e without. let same = sym c.in-Toplevel.is ∙ seat-asked c.args.target c.args.kind id e in absurd (cc)

pub returns-in-Compositor-clause-seat : goal.returns-in-Compositor-clause-seat
returns-in-Compositor-clause-seat g c = λ id e without. let same = sym c.in-Compositor.is ∙ seat-asked c.args.target c.args.kind id e in absurd (cc)

pub returns-in-Subcompositor-clause-seat : goal.returns-in-Subcompositor-clause-seat
returns-in-Subcompositor-clause-seat g c = λ id e without. let same = sym c.in-Subcompositor.is ∙ seat-asked c.args.target c.args.kind id e in absurd (cc)

pub returns-in-Subsurface-clause-seat : goal.returns-in-Subsurface-clause-seat
returns-in-Subsurface-clause-seat g c = λ id e without. let same = sym c.in-Subsurface.is ∙ seat-asked c.args.target c.args.kind id e in absurd (cc)

pub returns-in-Pointer-clause-seat : goal.returns-in-Pointer-clause-seat
returns-in-Pointer-clause-seat g c = λ id e without. let same = sym c.in-Pointer.is ∙ seat-asked c.args.target c.args.kind id e in absurd (cc)

pub returns-in-Base-clause-seat : goal.returns-in-Base-clause-seat
returns-in-Base-clause-seat g c = λ id e without. let same = sym c.in-Base.is ∙ seat-asked c.args.target c.args.kind id e in absurd (cc)

pub returns-in-XdgSurface-clause-seat : goal.returns-in-XdgSurface-clause-seat
returns-in-XdgSurface-clause-seat g c = λ id e without. let same = sym c.in-XdgSurface.is ∙ seat-asked c.args.target c.args.kind id e in absurd (cc)

pub returns-in-Popup-clause-seat : goal.returns-in-Popup-clause-seat
returns-in-Popup-clause-seat g c = λ id e without. let same = sym c.in-Popup.is ∙ seat-asked c.args.target c.args.kind id e in absurd (cc)

pub returns-in-Seat-clause-seat : goal.returns-in-Seat-clause-seat
returns-in-Seat-clause-seat g c = λ id e without.
    let same = sym c.in-Seat.is ∙ seat-asked c.args.target c.args.kind id e in
    c.wl_seat.ensures.room id (cc) without

-- ---- what is kept stands by the numbers from before

pub returns-in-Surface-clause-holds : goal.returns-in-Surface-clause-holds
returns-in-Surface-clause-holds g c = λ touch touches m kind entry.
    let v = c.args.self.now in
    let told : m ≡ wl_surface_request c.in-Surface.request = rw c.in-Surface.is at kind in
    let named = named-by v.client.objects c.args.object c.args.target _ entry (ap (λ (n : Message). n.interface) told ∙ of-surface c.in-Surface.request) refl in
    held-placed (is_some c.wl_surface.result.applied) v c.wl_surface.new.self c.args.given.placing c.args.object c.args.version c.args.kind c.in-Surface.request m c.in-Surface.is told
    (c.wl_surface.ensures.holds touch (rw c.in-Surface.is at touches) named)

pub returns-in-Subsurface-clause-holds : goal.returns-in-Subsurface-clause-holds
returns-in-Subsurface-clause-holds g c = λ touch touches m kind entry.
    let v = c.args.self.now in
    let told : m ≡ wl_subsurface_request c.in-Subsurface.request = rw c.in-Subsurface.is at kind in
    let is = object-is WlSubsurface v.client.objects c.args.object _ entry (ap (λ (n : Message). n.interface) told ∙ of-subsurface c.in-Subsurface.request) in
    held-message (is_some c.wl_subsurface.result.applied) v c.wl_subsurface.new.self c.args.given.placing c.args.object c.args.version c.args.kind m _ told
    (c.wl_subsurface.ensures.holds c.args.version c.args.target touch (rw c.in-Subsurface.is at touches) is)

pub returns-in-Popup-clause-holds : goal.returns-in-Popup-clause-holds
returns-in-Popup-clause-holds g c = λ touch touches m kind entry.
    let v = c.args.self.now in
    let told : m ≡ xdg_popup_request c.in-Popup.request = rw c.in-Popup.is at kind in
    let named = targets-at AnXdgPopup v.client.objects c.args.object _ entry (ap (λ (n : Message). n.interface) told ∙ of-popup c.in-Popup.request) in
    held-message (is_some c.xdg_popup.result.applied) v c.xdg_popup.new.self c.args.given.placing c.args.object c.args.version c.args.kind m _ told
    (c.xdg_popup.ensures.holds c.args.version touch (rw c.in-Popup.is at touches) named)

pub returns-in-Toplevel-clause-holds : goal.returns-in-Toplevel-clause-holds
returns-in-Toplevel-clause-holds g c = λ touch touches. absurd (rw c.in-Toplevel.is at touches)

pub returns-in-Compositor-clause-holds : goal.returns-in-Compositor-clause-holds
returns-in-Compositor-clause-holds g c = λ touch touches. absurd (rw c.in-Compositor.is at touches)

pub returns-in-Subcompositor-clause-holds : goal.returns-in-Subcompositor-clause-holds
returns-in-Subcompositor-clause-holds g c = λ touch touches. absurd (rw c.in-Subcompositor.is at touches)

pub returns-in-Seat-clause-holds : goal.returns-in-Seat-clause-holds
returns-in-Seat-clause-holds g c = λ touch touches. absurd (rw c.in-Seat.is at touches)

pub returns-in-Pointer-clause-holds : goal.returns-in-Pointer-clause-holds
returns-in-Pointer-clause-holds g c = λ touch touches. absurd (rw c.in-Pointer.is at touches)

pub returns-in-Base-clause-holds : goal.returns-in-Base-clause-holds
returns-in-Base-clause-holds g c = λ touch touches. absurd (rw c.in-Base.is at touches)

pub returns-in-XdgSurface-clause-holds : goal.returns-in-XdgSurface-clause-holds
returns-in-XdgSurface-clause-holds g c = λ touch touches. absurd (rw c.in-XdgSurface.is at touches)

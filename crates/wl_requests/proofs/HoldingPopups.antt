-- What is kept stands, by the numbers from before, for what a client owns after xdg_popup.destroy.
use Rattle.std.proofs.Common.{◌≡◌, ℕ, true, Option, Some, None, Result, refl, subst, sym}
use Rattle.std.specs.Prelude.{Ok}
use Rattle.wl_surface.specs.Linked.{SurfacesView}
use Rattle.law_desktop.specs.Owning.{IsOwned, IsXdg, with_toplevel}
use Rattle.law_desktop.specs.RoleNames.{names_of}
use Rattle.law_desktop.proofs.Keeping.OwningXdg.{toplevel-named}
use Rattle.law_desktop.proofs.OwnedPopups.Going.{popups-go}
use Rattle.law_desktop.proofs.OwnedPopups.Naming.{roles-named}
use Rattle.spec_desktop.specs.Peer.{counted}
use Rattle.spec_desktop.specs.declared.refusals.Refusal.{Refusal}
use Rattle.spec_desktop.specs.Changing.{changed_for}
use Rattle.spec_desktop.specs.Demand.{Demand, EndPopup}
use Rattle.spec_desktop.specs.Desktop.{Desktop, Resident, unpointed}
use Rattle.spec_desktop.specs.Step.{with_peer}
use Rattle.wl_surface.specs.State.{History}
use Rattle.wl_shell.specs.Kept.{Kept as KeptXdg, changing, kept_of, kept_without_role}
use Rattle.wl_shell.specs.Shell.{XdgSurface as Xdg, is_role, xdg_with}
use Rattle.wl_requests.specs.Holding.{HoldsSo}
use Rattle.wl_requests.specs.Residents.{IsPopup, IsResident}
use Rattle.wl_requests.specs.declared.residents.Resident.{Resident as Kept}
use Rattle.wl_requests.proofs.Holding.{holds-same}

-- the object is a popup
pub popup-held : {A : Type 0} (old new : Kept A) (object number : ℕ) (judged : Option Xdg → Result Demand Refusal) (c : ℕ) (d : Desktop) (r : Resident) → IsResident old r
    → IsPopup old object number
    → ((k : KeptXdg) (x : Xdg) (h : History) → IsXdg (names_of old.client.objects) (kept_of old.owned.shell) r.owned number k x h → is_role object x.role ≡ true
    → HoldsSo (judged (Some x)) c r d old new)
    → HoldsSo (judged (xdg_with object r.owned.shell)) c r d old new
popup-held old new object number judged c d r is named holds =
    let one = toplevel-named (names_of old.client.objects) old.owned.surfaces.states old.owned.surfaces.family (kept_of old.owned.shell) r.owned is.owns object number
    (roles-named.popup old.client.objects object number named) in
    subst (λ (o : Option Xdg). HoldsSo (judged o) c r d old new) (sym one.4) (holds one.0 one.1 one.2 one.3 one.5)

-- it goes
pub popup-left : {A : Type 0} (old new : Kept A) (judged : Result Demand Refusal) (c : ℕ) (r : Resident) (d : Desktop) (object number : ℕ) (k : KeptXdg) (x : Xdg) (h : History) → IsResident old r
    → IsXdg (names_of old.client.objects) (kept_of old.owned.shell) r.owned number k x h → is_role object x.role ≡ true → judged ≡ Ok (EndPopup object x.id)
    → kept_of new.owned.shell ≡ changing number kept_without_role (kept_of old.owned.shell) → new.owned.surfaces ≡ old.owned.surfaces → HoldsSo judged c r d old new
popup-left {A} old new judged c r d object number k x h is one its asked keeps linked =
    let names = names_of old.client.objects in
    let left = with_toplevel object None names in
    let then : Resident = with_peer (counted r.peer) r in
    let made = (changed_for c (EndPopup object x.id) then (unpointed d)).owned in
    subst (λ (j : Result Demand Refusal). HoldsSo j c r d old new) (sym asked)
    (holds-same old new left made refl
    (subst (λ (l : SurfacesView). IsOwned left l.states l.family (kept_of new.owned.shell) made) (sym linked)
    (popups-go.gone names old.owned.surfaces.states old.owned.surfaces.family (kept_of old.owned.shell) then number k x h c object (unpointed d)
    (kept_of new.owned.shell) left is.owns one its keeps refl)))

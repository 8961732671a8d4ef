-- What is known of an accepted message.
use Rattle.std.proofs.Common.{◌≡◌, ℕ, zero, suc, List, [], ◌∷◌, Bool, true, false, Option, Some, None, refl, ap, sym, subst, ◌∙◌, inr}
use Rattle.std.specs.Prelude.{Ok, pos, ◌==◌, ◌&&◌, ◌||◌, int_le, if◌then◌else◌, is_some}
use Rattle.std.specs.Option.{option_and_then}
use Rattle.std.proofs.lemmas.Bool.{eqb-true}
use Rattle.std.proofs.lemmas.Option.{same_Some}
use Rattle.wl_wire.specs.Wire.{Field}
use Rattle.wl_proto.specs.declared.interface.Interface.{Interface}
use Rattle.wl_proto.specs.declared.interface.Interface.TheVariants.{WlDisplay, WlRegistry, WlCallback, WlCompositor, WlRegion, WlSurface, WlShm, WlShmPool, WlBuffer, WlSubcompositor, WlSubsurface}
use Rattle.wl_proto.specs.declared.interface.Interface.TheVariants.{WlOutput, WlSeat, WlPointer, XdgWmBase, XdgPositioner, XdgSurface, XdgToplevel, XdgPopup}
use Rattle.wl_proto.specs.Table.{AnObject}
use Rattle.wl_proto.specs.declared.xdg_popup.XdgPopupRequest.{XdgPopupRequest}
use Rattle.wl_proto.specs.declared.xdg_popup.XdgPopupRequest.TheVariants as popup
use Rattle.spec_desktop.specs.Requests.{number_in, word_in, pointer_request, popup_request, request_in, seat_request, subcompositor_request, subsurface_request, surface_request}
use Rattle.spec_desktop.specs.Requests.{toplevel_request}
use Rattle.wl_surface.specs.Request.{Member, PlaceAbove, PlaceBelow}
use Rattle.wl_surface.specs.Surfaces.{Link, link_at}
use Rattle.wl_surface.specs.Trees.{is_bad_parent, is_too_deep}
use Rattle.wl_shell.specs.Popups.{Popped, is_parent, is_popup_mapped, popup_at}
use Rattle.wl_shell.specs.Shell.{Effect, Configures, XdgSurface as Xdg, is_full, xdg_at, xdg_of, xdg_with}
use Rattle.spec_desktop.specs.Demand.{Demand}
use Rattle.spec_desktop.specs.Demanding.{committed_by, demand_by, demand_of, effect_of_commit, judge_all, moved_by_pointer, surface_demand, toplevel_asked, toplevel_destroyed}
use Rattle.spec_desktop.specs.Desktop.{Resident, Subsurface}
use Rattle.spec_desktop.specs.ToplevelRequest.{ToplevelRequest}
use Rattle.spec_desktop.specs.ToplevelRequest as toplevel
use Rattle.spec_desktop.specs.WlPointer.{is_no_cursor, pointer_demand, seat_demand}
use Rattle.spec_desktop.specs.WlSubsurface.{beside, demand_by_link, has_subsurface, is_no_subsurface, link_of_subsurface, living, placed_beside, subcompositor_demand, subsurface_at, subsurface_made}
use Rattle.spec_desktop.specs.XdgPopup.{grab_of, popup_asked}
use Rattle.spec_desktop.specs.XdgShell.{role_of}
use Rattle.law_desktop.proofs.Soundness.Orderly.{HasId, IsAllowed, IsOn, IsObject, IsOfParent}
use Rattle.law_desktop.proofs.Soundness.AllowedAsks.{Allows, ask-either, base-allowed, compositor-allowed, either, own-allowed-so, state-allowed, xdg-allowed}
use Rattle.law_desktop.proofs.Soundness.AllowedHeard.{fresh-first, judged-hears, named-second}
use Rattle.law_desktop.proofs.Soundness.AllowedOwn.{IsHeardBy}
use Rattle.law_desktop.proofs.Lists.Keys.{found-passes}
use Rattle.law_desktop.proofs.Truth.{none-there, or-left, or-right}
use Rattle.wl_shell.specs.Popups.{is_configured}
use Rattle.wl_shell.specs.Positioner.{Positioner, is_complete}
use Rattle.spec_desktop.specs.Demanding.{if_whole}
use Rattle.spec_desktop.specs.WlSurface.{will_be_whole}
use Rattle.spec_desktop.specs.XdgPopup.{positioner_of, repositioned_by}
use Rattle.std.specs.Prelude.{Err, Result}
use Rattle.spec_desktop.specs.declared.refusals.Refusal.{Refusal}

-- ---- surfaces

committed-allowed : (r : Resident) (o : Option Xdg) (object : ℕ) (effect : Effect) → Allows r (committed_by o object effect)
committed-allowed r (Some x) object Configures = either r (is_full x.configures) _ _ (λ e. tt) (λ e. tt)
committed-allowed r o object effect = tt

whole-allowed : (r : Resident) (b : Bool) (object : ℕ) (demand : Result Demand Refusal) → Allows r demand → Allows r (if_whole b object demand)
whole-allowed r true object demand is = is
whole-allowed r false object (Ok demand) is = tt
whole-allowed r false object (Err refusal) is = tt

surface-allowed : (r : Resident) (object version opcode : ℕ) (fields : List Field) → IsHeardBy WlSurface r object opcode fields
    → Allows r (surface_demand r object version (surface_request opcode fields))
surface-allowed r object version zero fields heard =
    either r (is_some (xdg_of object r.owned.shell)) _ _ (λ f. tt) (λ f. (heard.live, none-there (xdg_of object r.owned.shell) f))
surface-allowed r object version (suc (suc (suc zero))) fields heard = fresh-first r.peer.objects _ [] _ fields heard.kinds heard.fresh
surface-allowed r object version (suc (suc (suc (suc (suc (suc zero)))))) fields heard =
    whole-allowed r (will_be_whole r object) object _ (committed-allowed r (xdg_of object r.owned.shell) object (effect_of_commit r object))
surface-allowed r object version (suc (suc (suc (suc (suc (suc (suc zero))))))) fields heard =
    ask-either r (int_le (pos 0) (number_in 0 fields) && int_le (number_in 0 fields) (pos 7)) _ _ (λ l. tt) (λ l. tt)
surface-allowed r object version (suc (suc (suc (suc (suc (suc (suc (suc zero)))))))) fields heard = ask-either r (int_le (pos 1) (number_in 0 fields)) _ _ (λ l. tt) (λ l. tt)
surface-allowed r object version (suc (suc (suc (suc (suc (suc (suc (suc (suc (suc opcode)))))))))) fields heard = absurd heard.kinds
surface-allowed r object version opcode fields heard = tt

-- ---- subsurfaces

made-allowed : (r : Resident) (object version : ℕ) (fields : List Field) → IsHeardBy WlSubcompositor r object 1 fields
    → Allows r (subsurface_made r object version (word_in 0 fields) (word_in 1 fields) (word_in 2 fields))
made-allowed r object version fields heard =
    let child = word_in 1 fields in
    let parent = word_in 2 fields in
    either r (is_too_deep r.owned.surfaces child parent) _ _ (λ e. tt)
    (λ e. either r (is_no_subsurface (role_of r child) || (has_subsurface child r || is_some (xdg_of child r.owned.shell))) _ _ (λ f. tt)
    (λ f.
    let others = or-right (is_no_subsurface (role_of r child)) (has_subsurface child r || is_some (xdg_of child r.owned.shell)) f in
    either r (is_bad_parent r.owned.surfaces child parent) _ _ (λ g. tt)
    (λ g. (
      fresh-first r.peer.objects _ (AnObject WlSurface false ∷ AnObject WlSurface false ∷ []) _ fields heard.kinds heard.fresh,
      named-second r.peer.objects (Some WlSubsurface) WlSurface (AnObject WlSurface false ∷ []) _ fields heard.kinds heard.named,
      or-left (is_no_subsurface (role_of r child)) (has_subsurface child r || is_some (xdg_of child r.owned.shell)) f,
      or-left (has_subsurface child r) (is_some (xdg_of child r.owned.shell)) others,
      none-there (xdg_of child r.owned.shell) (or-right (has_subsurface child r) (is_some (xdg_of child r.owned.shell)) others),
      e,
      g,
    ))))

subcompositor-allowed : (r : Resident) (object version opcode : ℕ) (fields : List Field) → IsHeardBy WlSubcompositor r object opcode fields
    → Allows r (subcompositor_demand r object version (subcompositor_request opcode fields))
subcompositor-allowed r object version zero fields heard = inr heard.live
subcompositor-allowed r object version (suc zero) fields heard = made-allowed r object version fields heard
subcompositor-allowed r object version (suc (suc opcode)) fields heard = absurd heard.kinds

-- the link of a wl_subsurface lives, by its own number
lives-on : (r : Resident) (l m : Link) (number : ℕ) → link_at number r.owned.surfaces ≡ Some l → living l ≡ Some m → IsOfParent m.number m.parent r.owned.surfaces
lives-on r l m number there e = at l.has_ended refl e
  where
    own-number : l.number ≡ number
    own-number = eqb-true l.number number (found-passes (λ (k : Link). k.number == number) r.owned.surfaces.links l there)

    at : (b : Bool) → l.has_ended ≡ b → (if b then None else Some l) ≡ Some m → IsOfParent m.number m.parent r.owned.surfaces
    at true ended e = absurd (cc)
    at false ended e =
        subst (λ (k : Link). IsOfParent k.number k.parent r.owned.surfaces) (same_Some l m e)
        (l, record { here = ap (λ n. link_at n r.owned.surfaces) own-number ∙ there; lives = ended }, refl)

pub link-lives : (r : Resident) (id : ℕ) (l : Link) → link_of_subsurface id r ≡ Some l → IsOfParent l.number l.parent r.owned.surfaces
link-lives r id l e = at (subsurface_at id r) e
  where
    by : (number : ℕ) (o : Option Link) → link_at number r.owned.surfaces ≡ o → option_and_then living o ≡ Some l → IsOfParent l.number l.parent r.owned.surfaces
    by number None there e = absurd (cc)
    by number (Some k) there e = lives-on r k l number there e

    at : (o : Option Subsurface) → option_and_then (λ (s : Subsurface). option_and_then living (link_at s.link r.owned.surfaces)) o ≡ Some l → IsOfParent l.number l.parent r.owned.surfaces
    at None e = absurd (cc)
    at (Some s) e = by s.link (link_at s.link r.owned.surfaces) refl e

above-allowed : (r : Resident) (object : ℕ) (l : Link) (o : Option Member) → IsOfParent l.number l.parent r.owned.surfaces → Allows r (placed_beside object l.parent (PlaceAbove l.number) o)
above-allowed r object l None lives = tt
above-allowed r object l (Some member) lives = lives

below-allowed : (r : Resident) (object : ℕ) (l : Link) (o : Option Member) → IsOfParent l.number l.parent r.owned.surfaces → Allows r (placed_beside object l.parent (PlaceBelow l.number) o)
below-allowed r object l None lives = tt
below-allowed r object l (Some member) lives = lives

subsurface-allowed : (r : Resident) (object opcode : ℕ) (fields : List Field) (o : Option Link) → link_of_subsurface object r ≡ o → IsHeardBy WlSubsurface r object opcode fields
    → Allows r (demand_by_link r object o (subsurface_request opcode fields))
subsurface-allowed r object zero fields o is heard = heard.live
subsurface-allowed r object (suc zero) fields None is heard = tt
subsurface-allowed r object (suc (suc zero)) fields (Some l) is heard = above-allowed r object l (beside r.owned.surfaces l (word_in 0 fields)) (link-lives r object l is)
subsurface-allowed r object (suc (suc (suc zero))) fields (Some l) is heard = below-allowed r object l (beside r.owned.surfaces l (word_in 0 fields)) (link-lives r object l is)
subsurface-allowed r object (suc (suc (suc (suc zero)))) fields None is heard = tt
subsurface-allowed r object (suc (suc (suc (suc (suc zero))))) fields None is heard = tt
subsurface-allowed r object (suc (suc (suc (suc (suc (suc opcode)))))) fields o is heard = absurd heard.kinds
subsurface-allowed r object opcode fields o is heard = tt

-- ---- the seat

seat-allowed : (r : Resident) (object version opcode : ℕ) (fields : List Field) → IsHeardBy WlSeat r object opcode fields → Allows r (seat_demand object version (seat_request opcode fields))
seat-allowed r object version zero fields heard = fresh-first r.peer.objects _ [] _ fields heard.kinds heard.fresh
seat-allowed r object version (suc zero) fields heard = tt
seat-allowed r object version (suc (suc zero)) fields heard = tt
seat-allowed r object version (suc (suc (suc opcode))) fields heard = absurd heard.kinds

pointer-allowed : (r : Resident) (object opcode : ℕ) (fields : List Field) → Allows r (pointer_demand r object (pointer_request opcode fields))
pointer-allowed r object opcode fields =
    let surface = word_in 1 fields in
    either r (surface == 0) _ _ (λ e. tt)
    (λ e. either r (is_no_cursor (role_of r surface) || is_some (xdg_of surface r.owned.shell)) _ _ (λ f. tt)
    (λ f. (
      or-left (is_no_cursor (role_of r surface)) (is_some (xdg_of surface r.owned.shell)) f,
      none-there (xdg_of surface r.owned.shell) (or-right (is_no_cursor (role_of r surface)) (is_some (xdg_of surface r.owned.shell)) f),
    )))

-- ---- the shell

moved-allowed : (r : Resident) (serial : ℕ) (o : Option Xdg) → Allows r (moved_by_pointer serial o)
moved-allowed r serial None = tt
moved-allowed r serial (Some x) = tt

gone-allowed : (r : Resident) (object : ℕ) (o : Option Xdg) → xdg_with object r.owned.shell ≡ o → IsObject XdgToplevel object r → Allows r (toplevel_destroyed object o)
gone-allowed r object None is live = tt
gone-allowed r object (Some x) is live = (live, subst (λ o. HasId x.id o) (sym is) refl, subst (λ o. IsOn x.surface o) (sym is) refl)

toplevel-allowed : (r : Resident) (object : ℕ) (o : Option Xdg) → xdg_with object r.owned.shell ≡ o → IsObject XdgToplevel object r → (request : ToplevelRequest)
    → Allows r (toplevel_asked object o request)
toplevel-allowed r object o is live toplevel.Destroy = gone-allowed r object o is live
toplevel-allowed r object o is live (toplevel.Move seat serial) = moved-allowed r serial o
toplevel-allowed r object o is live toplevel.SetMaximized = state-allowed r o
toplevel-allowed r object o is live toplevel.UnsetMaximized = state-allowed r o
toplevel-allowed r object o is live (toplevel.SetFullscreen output) = state-allowed r o
toplevel-allowed r object o is live toplevel.UnsetFullscreen = state-allowed r o
toplevel-allowed r object None is live request = tt
toplevel-allowed r object (Some x) is live request = tt

grab-allowed : (r : Resident) (object serial : ℕ) (x : Xdg) (o : Option Popped) → Allows r (grab_of object serial x o)
grab-allowed r object serial x None = tt
grab-allowed r object serial x (Some p) = either r p.popup.is_dismissed _ _ (λ e. tt) (λ e. either r (is_popup_mapped p) _ _ (λ f. tt) (λ f. tt))

repositioned-allowed : (r : Resident) (x : Xdg) (token : ℕ) (p : Positioner) (o : Option Popped) → Allows r (repositioned_by x token p o)
repositioned-allowed r x token p None = tt
repositioned-allowed r x token p (Some q) =
    either r (is_configured q && is_full x.configures) _ _ (λ e. tt) (λ e. either r (is_complete p) _ _ (λ f. tt) (λ f. tt))

popup-allowed : (r : Resident) (object : ℕ) (o : Option Xdg) → xdg_with object r.owned.shell ≡ o → IsObject XdgPopup object r → (request : XdgPopupRequest) → Allows r (popup_asked r object o request)
popup-allowed r object None is live request = tt
popup-allowed r object (Some x) is live popup.Destroy = either r (is_parent x.id r.owned.shell) _ _ (λ f. tt) (λ f. (live, subst (λ o. HasId x.id o) (sym is) refl))
popup-allowed r object (Some x) is live (popup.Grab seat serial) = grab-allowed r object serial x (popup_at x.id r.owned.shell)
popup-allowed r object (Some x) is live (popup.Reposition positioner token) =
    repositioned-allowed r x token (positioner_of (r.peer.positioners positioner)) (popup_at x.id r.owned.shell)

-- ---- every interface

demanded-allowed : (interface : Interface) (r : Resident) (object version opcode : ℕ) (fields : List Field) → IsHeardBy interface r object opcode fields
    → Allows r (demand_by (request_in interface opcode fields) r object version)
demanded-allowed WlCompositor r object version opcode fields heard = compositor-allowed r object version opcode fields heard
demanded-allowed WlSurface r object version opcode fields heard = surface-allowed r object version opcode fields heard
demanded-allowed WlSubcompositor r object version opcode fields heard = subcompositor-allowed r object version opcode fields heard
demanded-allowed WlSubsurface r object version opcode fields heard = subsurface-allowed r object opcode fields (link_of_subsurface object r) refl heard
demanded-allowed WlSeat r object version opcode fields heard = seat-allowed r object version opcode fields heard
demanded-allowed WlPointer r object version opcode fields heard = pointer-allowed r object opcode fields
demanded-allowed XdgWmBase r object version opcode fields heard = base-allowed r object version opcode fields heard
demanded-allowed XdgPositioner r object version opcode fields heard = own-allowed-so XdgPositioner r object version opcode fields heard
demanded-allowed XdgSurface r object version opcode fields heard = xdg-allowed r object version opcode fields (xdg_at object r.owned.shell) refl heard
demanded-allowed XdgToplevel r object version opcode fields heard = toplevel-allowed r object (xdg_with object r.owned.shell) refl heard.live (toplevel_request opcode fields)
demanded-allowed XdgPopup r object version opcode fields heard = popup-allowed r object (xdg_with object r.owned.shell) refl heard.live (popup_request opcode fields)
demanded-allowed WlDisplay r object version opcode fields heard = own-allowed-so WlDisplay r object version opcode fields heard
demanded-allowed WlRegistry r object version opcode fields heard = own-allowed-so WlRegistry r object version opcode fields heard
demanded-allowed WlCallback r object version opcode fields heard = own-allowed-so WlCallback r object version opcode fields heard
demanded-allowed WlRegion r object version opcode fields heard = own-allowed-so WlRegion r object version opcode fields heard
demanded-allowed WlShm r object version opcode fields heard = own-allowed-so WlShm r object version opcode fields heard
demanded-allowed WlShmPool r object version opcode fields heard = own-allowed-so WlShmPool r object version opcode fields heard
demanded-allowed WlBuffer r object version opcode fields heard = own-allowed-so WlBuffer r object version opcode fields heard
demanded-allowed WlOutput r object version opcode fields heard = own-allowed-so WlOutput r object version opcode fields heard

-- what is known of an accepted message
pub allowed : (r : Resident) (object opcode : ℕ) (body : List ℕ) (demand : Demand) → judge_all r object opcode body ≡ Ok demand → IsAllowed r demand
allowed r object opcode body demand e =
    let heard = judged-hears r.peer.objects r.peer.held object opcode (λ version m. demand_of r object version m) body demand e in
    let interface = heard.0.interface in
    subst (λ o. Allows r o) heard.3 (demanded-allowed interface r object heard.0.version opcode heard.1 heard.2)

-- What is demanded leaves what a client owns known by its ids.
use Rattle.std.proofs.Common.{◌≡◌, ℕ, Bool, true, false, List, [], ◌∷◌, ◌++◌, Option, Some, None, cond, refl, ap, sym, ◌∙◌, map, inl, inr}
use Rattle.std.specs.Prelude.{◌==◌, not, is_some, filter}
use Rattle.std.specs.Option.{option_map_or}
use Rattle.std.proofs.lemmas.Bool.{eqb-true, true≢false}
use Rattle.wl_proto.specs.declared.interface.Interface.{Interface}
use Rattle.wl_proto.specs.declared.interface.Interface.TheVariants.{WlCallback, WlPointer, WlSubcompositor, WlSubsurface, WlSurface, XdgPopup, XdgSurface, XdgToplevel, XdgWmBase}
use Rattle.spec_desktop.specs.Objects.{Objects, is_of, with_id}
use Rattle.spec_desktop.specs.Peer.{Peer, object_at_version}
use Rattle.wl_surface.specs.FrameRequests.{frames_asked}
use Rattle.wl_surface.specs.Request.{Frame}
use Rattle.wl_surface.specs.Surface.{Surface, asking, with_role}
use Rattle.wl_surface.specs.Surfaces.{Surfaces, history_in, is_used, surface_at, with_change}
use Rattle.wl_surface.specs.Trees.{committed_in, desynchronised_in, destroyed_in, linked, synchronised_in}
use Rattle.wl_surface.specs.declared.role.Role.{Role}
use Rattle.wl_surface.specs.declared.role.Role.TheVariants.{Cursor as AsCursor, Popup as AsPopup, Toplevel as AsToplevel}
use Rattle.wl_surface.specs.Waiting.{Callback}
use Rattle.wl_shell.specs.Positioner.{Positioner}
use Rattle.wl_shell.specs.Shell.{Effect, Stays, Unconfigured, Configures, Maps, Unmaps, Shell, XdgSurface as Xdg, xdg_at, xdg_of}
use Rattle.wl_shell.specs.Popups.{Popped, copying, is_configured, popup_at, repositioning}
use Rattle.spec_desktop.specs.Ask.{Ask, Own, CreateSurface, AskSurface, EndObject, GetXdgSurface, DestroyXdgSurface, GetToplevel, Acknowledge, ConfigureAgain, Ignore}
use Rattle.spec_desktop.specs.Changing.{Placing, after_all, changed_for, commit_done, drawing, effect_placing, frame_asked, grab_allowed, grabbed, has_focus, in_rising_order, is_asked, link_with_id}
use Rattle.spec_desktop.specs.Changing.{mode_set, placement_now, popup_given_to, subsurface_ended, subsurface_given, surface_ended, tree_committed, unlinked_at, without_callbacks, without_child}
use Rattle.spec_desktop.specs.Changing.{popup_repositioned}
use Rattle.spec_desktop.specs.Demand.{Demand, Asks, EndSurface, AskFrame, CommitTree, GetSubsurface, EndSubsurface, SetMode, Reposition}
use Rattle.spec_desktop.specs.Demand.{EndPopup, EndToplevel, GetPointer, GetPopup, Grab, MakeCursor, Move}
use Rattle.spec_desktop.specs.Demanding.{effect_of_commit}
use Rattle.spec_desktop.specs.Desktop.{Desktop, Resident, Subsurface}
use Rattle.spec_desktop.specs.Step.{changed_by, making, toplevel_given, with_peer, with_shell, with_surfaces, xdg_changed}
use Rattle.spec_desktop.specs.WlSubsurface.{has_subsurface, is_of_child}
use Rattle.law_desktop.specs.Apart.{AreApartBy}
use Rattle.law_desktop.proofs.Lists.Keys.{apart-left, new-apart}
use Rattle.law_desktop.proofs.Soundness.ObjectsKeys.{apart-less}
use Rattle.law_desktop.proofs.Soundness.ObjectsThere.{there-changed, there-committed, there-desynchronised, there-linked, there-unlinked}
use Rattle.law_desktop.proofs.Soundness.Orderly.{IsAllowed, IsAsked}
use Rattle.law_desktop.specs.InOrder.{OwnsKnown}
use Rattle.law_desktop.proofs.InOrder.Held.{AreHeld, IsBare, Left, Rest, bare-new, bare-of, held-at, held-callback}
use Rattle.law_desktop.proofs.InOrder.Held.{held-destroyed, held-left, held-subsurface, held-surface, held-there, held-without, other-left}
use Rattle.law_desktop.proofs.InOrder.Held.{own-held}
use Rattle.law_desktop.proofs.InOrder.Ids.{AreApart, apart-changed, apart-committed, apart-desynchronised, apart-destroyed, apart-linked, apart-new, apart-unlinked}
use Rattle.law_desktop.proofs.Lists.Tests.{find-none}

abbrev AreOnce : List Subsurface → Type 0
AreOnce subs = AreApartBy (λ surface s. is_of_child surface s.surface) subs

abbrev HeldBy : Resident → Type 0
HeldBy r = AreHeld r.owned.surfaces r.subsurfaces r.callbacks r.peer.objects

pub held-of : (r : Resident) → OwnsKnown r → HeldBy r
held-of r owns = record { known = owns.known; children = owns.subsurfaces; callbacks = owns.callbacks }

pub owns-by : (r : Resident) → AreApart r.owned.surfaces → AreOnce r.subsurfaces → HeldBy r → OwnsKnown r
owns-by r apart once held =
    record { apart = apart; known = held.known; subsurfaces = held.children; children = once; callbacks = held.callbacks }

-- ---- wl_subsurfaces

-- what was of no surface or of another isn't of one that goes
pub inert-less : (surface key : ℕ) (s : Subsurface) → is_of_child key (without_child surface s).surface ≡ true → is_of_child key s.surface ≡ true
inert-less surface key s is = at (option_map_or (λ child. child == surface) s.surface false) is
  where
    at : (b : Bool) → is_of_child key (cond b (record s { surface = None }) s).surface ≡ true → is_of_child key s.surface ≡ true
    at true is = absurd (true≢false (sym is))
    at false is = is

once-inert : (surface : ℕ) (subs : List Subsurface) → AreOnce subs → AreOnce (map (without_child surface) subs)
once-inert surface subs once = apart-less (λ key s. is_of_child key s.surface) (without_child surface) subs (λ key s is. inert-less surface key s is) once

once-more : (id link child : ℕ) (r : Resident) → has_subsurface child r ≡ false → AreOnce r.subsurfaces
    → AreOnce (r.subsurfaces ++ record { id = id; link = link; surface = Some child } ∷ [])
once-more id link child r none once =
    new-apart (λ key s. is_of_child key s.surface) r.subsurfaces (record { id = id; link = link; surface = Some child })
    (λ key is. find-none (λ s. is_of_child key s.surface) r.subsurfaces (ap (λ n. has_subsurface n r) (sym (eqb-true child key is)) ∙ none)) once

-- ---- what is asked

-- where no surface has the id of an object that isn't a wl_surface
absent : (o : Option Surface) → (is_some o ≡ true → ⊥) → o ≡ None
absent None never = refl
absent (Some s) never = absurd (never refl)

-- a surface gets a role, and an object comes that is none of these
given-owns : (id version surface : ℕ) (role : Role) (interface : Interface) (shell : Shell) (r : Resident) → IsBare r.peer.objects id → OwnsKnown r
    → OwnsKnown (making interface id version (with_shell shell (with_surfaces (with_change surface (with_role role) r.owned.surfaces) r)))
given-owns id version surface role interface shell r bare owns =
    owns-by (making interface id version (with_shell shell (with_surfaces (with_change surface (with_role role) r.owned.surfaces) r)))
    (apart-changed surface (with_role role) (λ s. refl) r.owned.surfaces owns.apart) owns.children
    (held-there r.owned.surfaces r.subsurfaces r.callbacks (with_id id (Some (object_at_version interface version)) r.peer.objects)
    (held-at r.owned.surfaces r.subsurfaces r.callbacks r.peer.objects (held-of r owns) id (Some (object_at_version interface version)) bare)
    (with_change surface (with_role role) r.owned.surfaces) (there-changed surface (with_role role) r.owned.surfaces (λ s. refl)))

-- an object comes that is none of these
made-owns : (id version : ℕ) (interface : Interface) (r : Resident) → IsBare r.peer.objects id → OwnsKnown r → OwnsKnown (making interface id version r)
made-owns id version interface r bare owns =
    owns-by (making interface id version r) owns.apart owns.children
    (held-at r.owned.surfaces r.subsurfaces r.callbacks r.peer.objects (held-of r owns) id (Some (object_at_version interface version)) bare)

toplevel-owns : (id version xdg : ℕ) (o : Option Xdg) (r : Resident) → IsBare r.peer.objects id → OwnsKnown r → OwnsKnown (making XdgToplevel id version (toplevel_given id xdg o r))
toplevel-owns id version xdg None r bare owns = made-owns id version XdgToplevel r bare owns
toplevel-owns id version xdg (Some x) r bare owns = given-owns id version x.surface AsToplevel XdgToplevel _ r bare owns

popup-owns : (id version xdg parent : ℕ) (p : Positioner) (o : Option Xdg) (r : Resident) → IsBare r.peer.objects id → OwnsKnown r
    → OwnsKnown (making XdgPopup id version (popup_given_to id xdg parent p o r))
popup-owns id version xdg parent p None r bare owns = made-owns id version XdgPopup r bare owns
popup-owns id version xdg parent p (Some x) r bare owns = given-owns id version x.surface AsPopup XdgPopup _ r bare owns

pointer-owns : (id version : ℕ) (b : Bool) (r : Resident) → IsBare r.peer.objects id → OwnsKnown r
    → OwnsKnown (making WlPointer id version (drawing b (record r { pointers = in_rising_order id r.pointers })))
pointer-owns id version true r bare owns =
    owns-by (making WlPointer id version (drawing true (record r { pointers = in_rising_order id r.pointers }))) owns.apart owns.children
    (held-at r.owned.surfaces r.subsurfaces r.callbacks r.peer.objects (held-of r owns) id _ bare)
pointer-owns id version false r bare owns =
    owns-by (making WlPointer id version (drawing false (record r { pointers = in_rising_order id r.pointers }))) owns.apart owns.children
    (held-at r.owned.surfaces r.subsurfaces r.callbacks r.peer.objects (held-of r owns) id _ bare)

drawn-owns : (b : Bool) (r : Resident) → OwnsKnown r → OwnsKnown (drawing b r)
drawn-owns true r owns = owns-by (drawing true r) owns.apart owns.children (held-of r owns)
drawn-owns false r owns = owns

repositioned-owns : (where_to : Placing) (p : Positioner) (o : Option Popped) (r : Resident) → OwnsKnown r → OwnsKnown (popup_repositioned where_to p o r)
repositioned-owns where_to p None r owns = owns
repositioned-owns where_to p (Some q) r owns =
    let now : Resident = xdg_changed q.xdg.id (repositioning (is_configured q) r.peer.serial (where_to (copying p q.popup)) p) r in
    drawn-owns (is_configured q) now (owns-by now owns.apart owns.children (held-of r owns))

grabbed-owns : (b : Bool) (xdg : ℕ) (r : Resident) → OwnsKnown r → OwnsKnown (grabbed b xdg r)
grabbed-owns true xdg r owns = owns-by (grabbed true xdg r) owns.apart owns.children (held-of r owns)
grabbed-owns false xdg r owns = owns-by (grabbed false xdg r) owns.apart owns.children (held-of r owns)

asks-owns : (ask : Ask) (r : Resident) → IsAsked r ask → OwnsKnown r → OwnsKnown (changed_by ask r)
asks-owns (Own action) r ok owns =
    owns-by (changed_by (Own action) r) owns.apart owns.children
    (own-held r.owned.surfaces r.subsurfaces r.callbacks (λ number. is_used number r.owned.surfaces) action r ok (held-of r owns))
asks-owns (CreateSurface id version) r ok owns =
    let bare = bare-new r.peer.objects id ok in
    let none : surface_at id r.owned.surfaces ≡ None = absent (surface_at id r.owned.surfaces) (λ there. true≢false (sym (owns.known id there) ∙ bare.surface)) in
    owns-by (changed_by (CreateSurface id version) r) (apart-new id r.owned.surfaces none owns.apart) owns.children
    (held-surface r.owned.surfaces r.subsurfaces r.callbacks r.peer.objects (held-of r owns) id version bare)
asks-owns (AskSurface id request) r ok owns =
    owns-by (changed_by (AskSurface id request) r) (apart-changed id (asking request) (λ s. refl) r.owned.surfaces owns.apart) owns.children
    (held-there r.owned.surfaces r.subsurfaces r.callbacks r.peer.objects (held-of r owns) (with_change id (asking request) r.owned.surfaces)
    (there-changed id (asking request) r.owned.surfaces (λ s. refl)))
asks-owns (EndObject id) r (inl ok) owns =
    owns-by (changed_by (EndObject id) r) owns.apart owns.children
    (held-at r.owned.surfaces r.subsurfaces r.callbacks r.peer.objects (held-of r owns) id None (bare-of XdgWmBase refl refl refl r.peer.objects id ok))
asks-owns (EndObject id) r (inr ok) owns =
    owns-by (changed_by (EndObject id) r) owns.apart owns.children
    (held-at r.owned.surfaces r.subsurfaces r.callbacks r.peer.objects (held-of r owns) id None (bare-of WlSubcompositor refl refl refl r.peer.objects id ok))
asks-owns (GetXdgSurface id version base surface) r ok owns =
    owns-by (changed_by (GetXdgSurface id version base surface) r) owns.apart owns.children
    (held-at r.owned.surfaces r.subsurfaces r.callbacks r.peer.objects (held-of r owns) id _ (bare-new r.peer.objects id ok.0))
asks-owns (DestroyXdgSurface id) r ok owns =
    owns-by (changed_by (DestroyXdgSurface id) r) owns.apart owns.children
    (held-at r.owned.surfaces r.subsurfaces r.callbacks r.peer.objects (held-of r owns) id None (bare-of XdgSurface refl refl refl r.peer.objects id ok.0))
asks-owns (GetToplevel id version xdg) r ok owns = toplevel-owns id version xdg (xdg_at xdg r.owned.shell) r (bare-new r.peer.objects id ok.0) owns
asks-owns (Acknowledge xdg serial) r ok owns =
    owns-by (changed_by (Acknowledge xdg serial) r) owns.apart owns.children (held-of r owns)
asks-owns (ConfigureAgain xdg) r ok owns =
    owns-by (changed_by (ConfigureAgain xdg) r) owns.apart owns.children (held-of r owns)
asks-owns Ignore r ok owns = owns

-- ---- what is demanded

-- where the surfaces change that are there, and no object
there-owns : (all : Surfaces) (r : Resident) → ((id : ℕ) → is_some (surface_at id all) ≡ is_some (surface_at id r.owned.surfaces)) → AreApart all → OwnsKnown r
    → OwnsKnown (after_all r (with_surfaces all r))
there-owns all r there apart owns =
    owns-by (after_all r (with_surfaces all r)) apart owns.children
    (held-there r.owned.surfaces r.subsurfaces r.callbacks r.peer.objects (held-of r owns) all there)

effect-owns : (where_to : Placing) (id : ℕ) (effect : Effect) (o : Option Xdg) (r : Resident) → OwnsKnown r → OwnsKnown (effect_placing where_to id effect o r)
effect-owns where_to id effect None r owns = owns
effect-owns where_to id Stays (Some x) r owns = owns-by (effect_placing where_to id Stays (Some x) r) owns.apart owns.children (held-of r owns)
effect-owns where_to id Unconfigured (Some x) r owns = owns-by (effect_placing where_to id Unconfigured (Some x) r) owns.apart owns.children (held-of r owns)
effect-owns where_to id Configures (Some x) r owns = owns-by (effect_placing where_to id Configures (Some x) r) owns.apart owns.children (held-of r owns)
effect-owns where_to id Maps (Some x) r owns = owns-by (effect_placing where_to id Maps (Some x) r) owns.apart owns.children (held-of r owns)
effect-owns where_to id Unmaps (Some x) r owns = owns-by (effect_placing where_to id Unmaps (Some x) r) owns.apart owns.children (held-of r owns)

mode-owns : (link : ℕ) (b : Bool) (r : Resident) → OwnsKnown r → OwnsKnown (mode_set link b r)
mode-owns link true r owns =
    owns-by (mode_set link true r) owns.apart owns.children
    (held-there r.owned.surfaces r.subsurfaces r.callbacks r.peer.objects (held-of r owns) (synchronised_in link r.owned.surfaces) (λ id. refl))
mode-owns link false r owns =
    there-owns (desynchronised_in link r.owned.surfaces) r (there-desynchronised link r.owned.surfaces) (apart-desynchronised link r.owned.surfaces owns.apart) owns

-- callbacks go
pub without-known : (which : Callback → Bool) (r : Resident) → OwnsKnown r → OwnsKnown (without_callbacks (filter which r.callbacks) r)
without-known which r owns =
    owns-by (without_callbacks (filter which r.callbacks) r) owns.apart owns.children
    (held-left r.owned.surfaces r.subsurfaces r.callbacks r.peer which (held-of r owns))

ended-owns : (id : ℕ) (r : Resident) → is_of WlSurface (r.peer.objects id) ≡ true → OwnsKnown r → OwnsKnown (surface_ended id r)
ended-owns id r is owns =
    let inert : Resident = after_all r (with_surfaces (destroyed_in id r.owned.surfaces) (record r { subsurfaces = map (without_child id) r.subsurfaces })) in
    let which : Callback → Bool = is_asked (frames_asked (history_in id r.owned.surfaces)) in
    let held : AreHeld r.owned.surfaces r.subsurfaces r.callbacks inert.peer.objects = held-of r owns in
    let left : Objects = Left r.owned.surfaces r.subsurfaces r.callbacks inert.peer which held in
    let rest : List Callback = Rest r.owned.surfaces r.subsurfaces r.callbacks inert.peer which held in
    owns-by (surface_ended id r) (apart-destroyed id r.owned.surfaces owns.apart) (once-inert id r.subsurfaces owns.children)
    (held-destroyed id r.owned.surfaces r.subsurfaces rest left (other-left r.owned.surfaces r.subsurfaces r.callbacks inert.peer which held WlSurface refl id is)
    (held-left r.owned.surfaces r.subsurfaces r.callbacks inert.peer which held))

frame-owns : (id version surface : ℕ) (r : Resident) → IsAllowed r (AskFrame id version surface) → OwnsKnown r → OwnsKnown (frame_asked id version surface r)
frame-owns id version surface r ok owns =
    let all : Surfaces = with_change surface (asking (Frame r.peer.requests)) r.owned.surfaces in
    owns-by (frame_asked id version surface r) (apart-changed surface (asking (Frame r.peer.requests)) (λ s. refl) r.owned.surfaces owns.apart) owns.children
    (held-callback all r.subsurfaces r.callbacks r.peer.objects
    (held-there r.owned.surfaces r.subsurfaces r.callbacks r.peer.objects (held-of r owns) all (there-changed surface (asking (Frame r.peer.requests)) r.owned.surfaces (λ s. refl)))
    id version r.peer.requests (bare-new r.peer.objects id ok))

given-subsurface-owns : (id version child parent : ℕ) (r : Resident) → IsAllowed r (GetSubsurface id version child parent) → OwnsKnown r
    → OwnsKnown (subsurface_given id version child parent r)
given-subsurface-owns id version child parent r ok owns =
    let all : Surfaces = linked r.peer.requests child parent r.owned.surfaces in
    owns-by (subsurface_given id version child parent r) (apart-linked r.peer.requests child parent r.owned.surfaces owns.apart)
    (once-more id r.peer.requests child r ok.3 owns.children)
    (held-subsurface all r.subsurfaces r.callbacks r.peer.objects
    (held-there r.owned.surfaces r.subsurfaces r.callbacks r.peer.objects (held-of r owns) all (there-linked r.peer.requests child parent r.owned.surfaces))
    id version (record { id = id; link = r.peer.requests; surface = Some child }) refl (bare-new r.peer.objects id ok.0))

ended-subsurface-owns : (id : ℕ) (r : Resident) → IsAllowed r (EndSubsurface id) → OwnsKnown r → OwnsKnown (subsurface_ended id r)
ended-subsurface-owns id r ok owns =
    let all : Surfaces = unlinked_at (link_with_id id r) r.owned.surfaces in
    owns-by (subsurface_ended id r) (apart-unlinked (link_with_id id r) r.owned.surfaces owns.apart)
    (apart-left (λ key s. is_of_child key s.surface) (λ s. not (s.id == id)) r.subsurfaces owns.children)
    (held-without all r.subsurfaces r.callbacks r.peer.objects
    (held-there r.owned.surfaces r.subsurfaces r.callbacks r.peer.objects (held-of r owns) all (there-unlinked (link_with_id id r) r.owned.surfaces)) id ok)

commit-owns : (c id : ℕ) (r : Resident) (d : Desktop) → OwnsKnown r → OwnsKnown (commit_done c id r d)
commit-owns c id r d owns =
    effect-owns (placement_now c r d) id (effect_of_commit r id) (xdg_of id r.owned.shell) (tree_committed id r)
    (there-owns (committed_in id r.owned.surfaces) r (there-committed id r.owned.surfaces) (apart-committed id r.owned.surfaces owns.apart) owns)

pub demanded-known : (c : ℕ) (demand : Demand) (r : Resident) (d : Desktop) → IsAllowed r demand → OwnsKnown r → OwnsKnown (changed_for c demand r d)
demanded-known c (Asks ask) r d ok owns = asks-owns ask r ok owns
demanded-known c (EndSurface id) r d ok owns = ended-owns id r ok.0 owns
demanded-known c (AskFrame id version surface) r d ok owns = frame-owns id version surface r ok owns
demanded-known c (CommitTree id) r d ok owns = commit-owns c id r d owns
demanded-known c (GetSubsurface id version child parent) r d ok owns = given-subsurface-owns id version child parent r ok owns
demanded-known c (EndSubsurface id) r d ok owns = ended-subsurface-owns id r ok owns
demanded-known c (SetMode link synchronised) r d ok owns = mode-owns link synchronised r owns
demanded-known c (GetPointer id version) r d ok owns = pointer-owns id version (has_focus c d.pointer.focus) r (bare-new r.peer.objects id ok) owns
demanded-known c (MakeCursor surface) r d ok owns =
    owns-by (with_surfaces (with_change surface (with_role AsCursor) r.owned.surfaces) r) (apart-changed surface (with_role AsCursor) (λ s. refl) r.owned.surfaces owns.apart) owns.children
    (held-there r.owned.surfaces r.subsurfaces r.callbacks r.peer.objects (held-of r owns) (with_change surface (with_role AsCursor) r.owned.surfaces)
    (there-changed surface (with_role AsCursor) r.owned.surfaces (λ s. refl)))
demanded-known c (GetPopup id version xdg parent p) r d ok owns = popup-owns id version xdg parent p (xdg_at xdg r.owned.shell) r (bare-new r.peer.objects id ok.0) owns
demanded-known c (Reposition xdg token p) r d ok owns = repositioned-owns (placement_now c r d) p (popup_at xdg r.owned.shell) r owns
demanded-known c (Grab xdg serial) r d ok owns = grabbed-owns (grab_allowed c xdg serial r d) xdg r owns
demanded-known c (EndPopup id xdg) r d ok owns =
    owns-by (changed_for c (EndPopup id xdg) r d) owns.apart owns.children
    (held-at r.owned.surfaces r.subsurfaces r.callbacks r.peer.objects (held-of r owns) id None (bare-of XdgPopup refl refl refl r.peer.objects id ok.0))
demanded-known c (EndToplevel id xdg top) r d ok owns =
    owns-by (changed_for c (EndToplevel id xdg top) r d) owns.apart owns.children
    (held-at r.owned.surfaces r.subsurfaces r.callbacks r.peer.objects (held-of r owns) id None (bare-of XdgToplevel refl refl refl r.peer.objects id ok.0))
demanded-known c (Move surface serial) r d ok owns = owns

-- ---- its peer changes

pub peer-known : (r : Resident) (p : Peer) → p.objects ≡ r.peer.objects → OwnsKnown r → OwnsKnown (with_peer p r)
peer-known r p same owns =
    record {
      apart = owns.apart;
      known = λ id there. ap (λ (objects : Objects). is_of WlSurface (objects id)) same ∙ owns.known id there;
      subsurfaces = (owns.subsurfaces.0, λ id there. ap (λ (objects : Objects). is_of WlSubsurface (objects id)) same ∙ owns.subsurfaces.1 id there);
      children = owns.children;
      callbacks = (owns.callbacks.0, λ id there. ap (λ (objects : Objects). is_of WlCallback (objects id)) same ∙ owns.callbacks.1 id there);
    }

-- A surface that has a wl_subsurface keeps the role subsurface, and gets no xdg_surface.
use Rattle.std.proofs.Common.{◌≡◌, ◌≢◌, ℕ, List, [], ◌∷◌, ◌++◌, Bool, true, false, Option, Some, None, cond, map, refl, ap, sym, ◌∙◌, inl, inr}
use Rattle.std.specs.Prelude.{◌==◌, ◌⊎◌, ◌||◌, is_some, not}
use Rattle.std.specs.List.{list_any}
use Rattle.std.specs.Option.{option_and_then, option_map_or}
use Rattle.std.proofs.lemmas.Bool.{eqb-true, ne_eqb, or_cases, true≢false}
use Rattle.std.proofs.lemmas.Option.{none-some}
use Rattle.wl_proto.specs.declared.interface.Interface.TheVariants.{WlPointer, WlSurface, XdgPopup}
use Rattle.spec_desktop.specs.Objects.{is_of}
use Rattle.wl_surface.specs.declared.role.Role.{Role}
use Rattle.wl_surface.specs.declared.role.Role.TheVariants.{Cursor as AsCursor, Popup as AsPopup, Subsurface as AsSubsurface, Toplevel as AsToplevel}
use Rattle.wl_surface.specs.Request.{Frame}
use Rattle.wl_surface.specs.Surface.{Surface, new_surface, with_role}
use Rattle.wl_surface.specs.Surfaces.{Surfaces, surface_at, with_change, with_new}
use Rattle.wl_surface.specs.Trees.{linked}
use Rattle.wl_shell.specs.Popups.{dismissing, is_parent_of, new_popup, orphaning, popup_changed, with_effect, with_grab, Popped, copying, is_configured, popup_at, repositioning, waiting_in}
use Rattle.wl_shell.specs.Positioner.{Placed, Positioner}
use Rattle.wl_shell.specs.Shell.{Effect, Maps, Stays, Popup, Shell, XdgSurface as Xdg, acknowledging, configuring, new_toplevel}
use Rattle.wl_shell.specs.Shell.{with_change as with_xdg_change, without_role, xdg_at, xdg_of}
use Rattle.spec_desktop.specs.Ask.{Ask, Own, CreateSurface, AskSurface, EndObject, GetXdgSurface, DestroyXdgSurface, GetToplevel, Acknowledge, ConfigureAgain, Ignore}
use Rattle.spec_desktop.specs.Changing.{Placing, changed_for, drawing, effect_placing, frame_asked, grab_allowed, grabbed, has_focus, in_rising_order, is_configure, link_with_id, mode_set}
use Rattle.spec_desktop.specs.Changing.{placement_now, popup_given_to, subsurface_ended, subsurface_given, surface_ended, toplevel_ended, tree_committed, without_child, popup_repositioned}
use Rattle.spec_desktop.specs.Demand.{Demand, Asks, EndSurface, AskFrame, CommitTree, GetSubsurface, EndSubsurface, SetMode, GetPointer, MakeCursor, Reposition}
use Rattle.spec_desktop.specs.Demand.{GetPopup, Grab, EndPopup, EndToplevel, Move}
use Rattle.spec_desktop.specs.Demanding.{effect_of_commit}
use Rattle.spec_desktop.specs.Desktop.{Desktop, Resident, Subsurface}
use Rattle.spec_desktop.specs.Step.{asked_so_far, changed_by, making, toplevel_given, with_surfaces, xdg_changed}
use Rattle.spec_desktop.specs.WlPointer.{is_no_cursor}
use Rattle.spec_desktop.specs.WlSubsurface.{has_subsurface, is_of_child}
use Rattle.spec_desktop.specs.XdgShell.{role_of}
use Rattle.law_desktop.proofs.Lists.Keys.{new-elsewhere}
use Rattle.law_desktop.proofs.Lists.Standings.{any-last}
use Rattle.law_desktop.proofs.Soundness.Moves.{destroyed-role, trees-asked, trees-committed, trees-desynchronised, trees-synchronised, trees-unlinked}
use Rattle.law_desktop.proofs.Soundness.ObjectsKeys.{any-less, any-map}
use Rattle.law_desktop.proofs.Soundness.Orderly.{IsAllowed, IsAsked, role_in}
use Rattle.law_desktop.proofs.Soundness.Roles.{KeepsShell, StaysChild, cursor-not, foreign-not, has_surface, linked-child, linked-role, no-child, role-else, shell-changed, shell-dismissed, shell-more, shell-orphaned}
use Rattle.law_desktop.proofs.Soundness.Roles.{shell-same, shell-without}
use Rattle.law_desktop.proofs.Soundness.Standing.{arriving-surface, found-first, repositioned-surface}
use Rattle.law_desktop.proofs.Lists.Left.{any-there}
use Rattle.law_desktop.proofs.InOrder.Known.{inert-less}

pub record AreSubsurfaces (r : Resident) : Type 0 where
  pub roles : (surface : ℕ) → has_subsurface surface r ≡ true → role_of r surface ≡ Some AsSubsurface
  pub bare : (surface : ℕ) → has_subsurface surface r ≡ true → xdg_of surface r.owned.shell ≡ None

step : (r q : Resident) → ((surface : ℕ) → has_subsurface surface q ≡ true → (has_subsurface surface r ≡ true) × StaysChild r q surface) → AreSubsurfaces r → AreSubsurfaces q
step r q stays are = record { roles = λ surface has. (both surface has).0; bare = λ surface has. (both surface has).1 }
  where
    both : (surface : ℕ) → has_subsurface surface q ≡ true → (role_of q surface ≡ Some AsSubsurface) × (xdg_of surface q.owned.shell ≡ None)
    both surface has = let was = stays surface has in was.1 (are.roles surface was.0) (are.bare surface was.0)

-- each surface keeps its role, and none gets an xdg_surface
kept : (r q : Resident) → ((id : ℕ) → role_of q id ≡ role_of r id) → KeepsShell r.owned.shell q.owned.shell → q.subsurfaces ≡ r.subsurfaces → AreSubsurfaces r → AreSubsurfaces q
kept r q roles shell same =
    step r q (λ surface has. (sym (ap (list_any (λ (s : Subsurface). is_of_child surface s.surface)) same) ∙ has, λ role bare. (roles surface ∙ role, shell.none surface bare)))

-- ---- a surface gets a role

some-role : (P : Type 0) (role : Role) (o : Option Surface) → option_and_then (λ s. s.role) o ≡ Some role → ((s : Surface) → o ≡ Some s → s.role ≡ Some role → P) → P
some-role P role None e go = absurd (none-some role e)
some-role P role (Some s) e go = go s refl e

created : (id surface : ℕ) (all : Surfaces) → role_in surface all ≡ Some AsSubsurface → role_in surface (with_new id all) ≡ Some AsSubsurface
created id surface all e =
    some-role (role_in surface (with_new id all) ≡ Some AsSubsurface) AsSubsurface (surface_at surface all) e
    (λ s found role. ap (option_and_then (λ (s : Surface). s.role)) (found-first (λ (s : Surface). s.id == surface) all.surfaces (new_surface id) s found) ∙ role)

popup-given : (id xdg parent : ℕ) (p : Positioner) (o : Option Xdg) (r : Resident) → xdg_at xdg r.owned.shell ≡ o → AreSubsurfaces r → AreSubsurfaces (popup_given_to id xdg parent p o r)
popup-given id xdg parent p None r found are = are
popup-given id xdg parent p (Some x) r found are =
    let change = new_popup id parent p r.peer.requests (asked_so_far x.surface r) in
    let shell : KeepsShell r.owned.shell (with_xdg_change xdg change r.owned.shell) = shell-changed xdg change r.owned.shell (λ y. refl) in
    step r (popup_given_to id xdg parent p (Some x) r)
    (λ surface has. (
      has,
      λ role bare. (
        role-else x.surface AsPopup r.owned.surfaces surface AsSubsurface (no-child xdg surface r.owned.shell x found bare) role,
        shell.none surface bare,
      ),
    )) are

given : (id xdg : ℕ) (o : Option Xdg) (r : Resident) → xdg_at xdg r.owned.shell ≡ o → AreSubsurfaces r → AreSubsurfaces (toplevel_given id xdg o r)
given id xdg None r found are = are
given id xdg (Some x) r found are =
    let shell : KeepsShell r.owned.shell (with_xdg_change xdg (new_toplevel id (asked_so_far x.surface r)) r.owned.shell) =
    shell-changed xdg (new_toplevel id (asked_so_far x.surface r)) r.owned.shell (λ y. refl) in
    step r (toplevel_given id xdg (Some x) r)
    (λ surface has. (
      has,
      λ role bare. (
        role-else x.surface AsToplevel r.owned.surfaces surface AsSubsurface (no-child xdg surface r.owned.shell x found bare) role,
        shell.none surface bare,
      ),
    )) are

asked : (ask : Ask) (r : Resident) → IsAsked r ask → AreSubsurfaces r → AreSubsurfaces (changed_by ask r)
asked (Own action) r ok are = kept r (changed_by (Own action) r) (λ id. refl) (shell-same r.owned.shell) refl are
asked (CreateSurface id version) r ok are =
    step r (changed_by (CreateSurface id version) r) (λ surface has. (has, λ role bare. (created id surface r.owned.surfaces role, bare))) are
asked (AskSurface id request) r ok are =
    kept r (changed_by (AskSurface id request) r) (trees-asked id request r.owned.surfaces).surfaces.roles (shell-same r.owned.shell) refl are
asked (EndObject id) r ok are = kept r (changed_by (EndObject id) r) (λ id. refl) (shell-same r.owned.shell) refl are
asked (GetXdgSurface id version base surface) r ok are =
    step r (changed_by (GetXdgSurface id version base surface) r)
    (λ other has. (
      has,
      λ role bare. (
        role,
        new-elsewhere (has_surface other) r.owned.shell (record { id = id; base = base; surface = surface; role = None; configures = []; since = 0 })
            (ne_eqb surface other (λ same. foreign-not (role_of r surface) ok.1 (ap (role_of r) same ∙ role))) ∙ bare,
      ),
    )) are
asked (DestroyXdgSurface id) r ok are = kept r (changed_by (DestroyXdgSurface id) r) (λ id. refl) (shell-without id r.owned.shell) refl are
asked (GetToplevel id version xdg) r ok are =
    let made = given id xdg (xdg_at xdg r.owned.shell) r refl are in
    kept (toplevel_given id xdg (xdg_at xdg r.owned.shell) r) (changed_by (GetToplevel id version xdg) r) (λ id. refl) (shell-same _) refl made
asked (Acknowledge xdg serial) r ok are =
    kept r (changed_by (Acknowledge xdg serial) r) (λ id. refl) (shell-changed xdg (acknowledging serial) r.owned.shell (λ x. refl)) refl are
asked (ConfigureAgain xdg) r ok are =
    kept r (changed_by (ConfigureAgain xdg) r) (λ id. refl) (shell-changed xdg (configuring r.peer.serial) r.owned.shell (λ x. refl)) refl are
asked Ignore r ok are = are

-- one that becomes a cursor has no wl_subsurface
cursor : (surface : ℕ) (r : Resident) → is_no_cursor (role_of r surface) ≡ false → AreSubsurfaces r → AreSubsurfaces (with_surfaces (with_change surface (with_role AsCursor) r.owned.surfaces) r)
cursor surface r none are =
    step r (with_surfaces (with_change surface (with_role AsCursor) r.owned.surfaces) r)
    (λ other has. (
      has,
      λ role bare. (role-else surface AsCursor r.owned.surfaces other AsSubsurface (λ same. cursor-not (role_of r surface) none (ap (role_of r) same ∙ role)) role, bare),
    )) are

-- ---- a surface goes

inert-none : (surface : ℕ) (s : Subsurface) → is_of_child surface (without_child surface s).surface ≡ false
inert-none surface s = at (option_map_or (λ child. child == surface) s.surface false) refl
  where
    never : (o : Option ℕ) → option_map_or (λ child. child == surface) o false ≡ false → is_of_child surface o ≡ false
    never None e = refl
    never (Some child) e = e

    at : (b : Bool) → option_map_or (λ child. child == surface) s.surface false ≡ b → is_of_child surface (cond b (record s { surface = None }) s).surface ≡ false
    at true e = refl
    at false e = never s.surface e

pub none-of : (p : Subsurface → Bool) (ss : List Subsurface) → ((s : Subsurface) → p s ≡ false) → list_any p ss ≡ false
none-of p [] none = refl
none-of p (s ∷ ss) none = ap (λ b. b || list_any p ss) (none s) ∙ none-of p ss none

abbrev of : ℕ → Subsurface → Bool
of surface s = is_of_child surface s.surface

-- a surface that still has a wl_subsurface is another one
inert-else : (surface : ℕ) (ss : List Subsurface) → list_any (of surface) (map (without_child surface) ss) ≡ false
inert-else surface ss = any-map (of surface) (without_child surface) ss ∙ none-of (λ s. of surface (without_child surface s)) ss (inert-none surface)

destroyed : (id : ℕ) (r : Resident) → AreSubsurfaces r → AreSubsurfaces (surface_ended id r)
destroyed id r are =
    step r (surface_ended id r)
    (λ surface has. (
      any-less (of surface) (without_child id) r.subsurfaces (λ s is. inert-less id surface s is) has,
      λ role bare. (destroyed-role id surface r.owned.surfaces (other surface has) ∙ role, bare),
    )) are
  where
    other : (surface : ℕ) → list_any (of surface) (map (without_child id) r.subsurfaces) ≡ true → surface ≢ id
    other surface has same =
        true≢false (sym has ∙ ap (λ n. list_any (of n) (map (without_child id) r.subsurfaces)) same ∙ inert-else id r.subsurfaces)

-- ---- a wl_subsurface comes

joined : (id version child parent : ℕ) (r : Resident) → is_some (surface_at child r.owned.surfaces) ≡ true → xdg_of child r.owned.shell ≡ None → AreSubsurfaces r
    → AreSubsurfaces (subsurface_given id version child parent r)
joined id version child parent r there none are =
    record { roles = λ surface has. role surface (or surface has); bare = λ surface has. bare surface (or surface has) }
  where
    new : Subsurface
    new = record { id = id; link = r.peer.requests; surface = Some child }

    or : (surface : ℕ) → list_any (of surface) (r.subsurfaces ++ new ∷ []) ≡ true → (list_any (of surface) r.subsurfaces ≡ true) ⊎ ((child == surface) ≡ true)
    or surface has = or_cases (list_any (of surface) r.subsurfaces) (child == surface) (sym (any-last (of surface) r.subsurfaces new) ∙ has)

    role : (surface : ℕ) → (list_any (of surface) r.subsurfaces ≡ true) ⊎ ((child == surface) ≡ true)
        → role_in surface (linked r.peer.requests child parent r.owned.surfaces) ≡ Some AsSubsurface
    role surface (inl has) = linked-role r.peer.requests child parent surface r.owned.surfaces (are.roles surface has)
    role surface (inr same) =
        ap (λ n. role_in n (linked r.peer.requests child parent r.owned.surfaces)) (sym (eqb-true child surface same)) ∙ linked-child r.peer.requests child parent r.owned.surfaces there

    bare : (surface : ℕ) → (list_any (of surface) r.subsurfaces ≡ true) ⊎ ((child == surface) ≡ true) → xdg_of surface r.owned.shell ≡ None
    bare surface (inl has) = are.bare surface has
    bare surface (inr same) = ap (λ n. xdg_of n r.owned.shell) (sym (eqb-true child surface same)) ∙ none

-- ---- a commit, and the rest

effect-surface : (serial since : ℕ) (where_to : Popup → Option Placed) (effect : Effect) (x : Xdg) → (with_effect serial since where_to effect x).surface ≡ x.surface
effect-surface serial since where_to Stays x = arriving-surface (waiting_in x.role) x
effect-surface serial since where_to Maps x = arriving-surface (waiting_in x.role) x
effect-surface serial since where_to effect x = refl

effect-kept : (where_to : Placing) (id : ℕ) (effect : Effect) (o : Option Xdg) (r : Resident) → AreSubsurfaces r → AreSubsurfaces (effect_placing where_to id effect o r)
effect-kept where_to id effect None r are = are
effect-kept where_to id effect (Some x) r are = at (is_configure effect)
  where
    changed : Resident
    changed = xdg_changed x.id (with_effect r.peer.serial (asked_so_far id r) where_to effect) r

    keeps : KeepsShell r.owned.shell changed.owned.shell
    keeps = shell-changed x.id (with_effect r.peer.serial (asked_so_far id r) where_to effect) r.owned.shell (λ y. effect-surface r.peer.serial (asked_so_far id r) where_to effect y)

    at : (b : Bool) → AreSubsurfaces (drawing b changed)
    at true = kept r (drawing true changed) (λ id. refl) keeps refl are
    at false = kept r (drawing false changed) (λ id. refl) keeps refl are

mode-kept : (link : ℕ) (b : Bool) (r : Resident) → AreSubsurfaces r → AreSubsurfaces (mode_set link b r)
mode-kept link true r are = kept r (mode_set link true r) (trees-synchronised link r.owned.surfaces).surfaces.roles (shell-same r.owned.shell) refl are
mode-kept link false r are = kept r (mode_set link false r) (trees-desynchronised link r.owned.surfaces).surfaces.roles (shell-same r.owned.shell) refl are

drawn-kept : (b : Bool) (r : Resident) → AreSubsurfaces r → AreSubsurfaces (drawing b r)
drawn-kept true r are = kept r (drawing true r) (λ id. refl) (shell-same r.owned.shell) refl are
drawn-kept false r are = are

repositioned-kept : (where_to : Placing) (p : Positioner) (o : Option Popped) (r : Resident) → AreSubsurfaces r → AreSubsurfaces (popup_repositioned where_to p o r)
repositioned-kept where_to p None r are = are
repositioned-kept where_to p (Some q) r are =
    let step : Xdg → Xdg = repositioning (is_configured q) r.peer.serial (where_to (copying p q.popup)) p in
    let now : Resident = xdg_changed q.xdg.id step r in
    drawn-kept (is_configured q) now
    (kept r now (λ id. refl) (shell-changed q.xdg.id step r.owned.shell (repositioned-surface (is_configured q) r.peer.serial (where_to (copying p q.popup)) p)) refl are)

grabbed-kept : (b : Bool) (xdg : ℕ) (r : Resident) → AreSubsurfaces r → AreSubsurfaces (grabbed b xdg r)
grabbed-kept true xdg r are = kept r (grabbed true xdg r) (λ id. refl) (shell-changed xdg (popup_changed with_grab) r.owned.shell (λ x. refl)) refl are
grabbed-kept false xdg r are = kept r (grabbed false xdg r) (λ id. refl) (shell-dismissed (λ p. p.xdg.id == xdg) r.owned.shell) refl are

-- what is demanded leaves each surface that has a wl_subsurface so
pub demanded-subsurfaces : (c : ℕ) (demand : Demand) (r : Resident) (d : Desktop) → ((id : ℕ) → is_of WlSurface (r.peer.objects id) ≡ true → is_some (surface_at id r.owned.surfaces) ≡ true)
    → IsAllowed r demand → AreSubsurfaces r → AreSubsurfaces (changed_for c demand r d)
demanded-subsurfaces c (Asks ask) r d there ok are = asked ask r ok are
demanded-subsurfaces c (EndSurface id) r d there ok are = destroyed id r are
demanded-subsurfaces c (AskFrame id version surface) r d there ok are =
    kept r (frame_asked id version surface r) (trees-asked surface (Frame r.peer.requests) r.owned.surfaces).surfaces.roles (shell-same r.owned.shell) refl are
demanded-subsurfaces c (CommitTree surface) r d there ok are =
    effect-kept (placement_now c r d) surface (effect_of_commit r surface) (xdg_of surface r.owned.shell) (tree_committed surface r)
    (kept r (tree_committed surface r) (trees-committed surface r.owned.surfaces).surfaces.roles (shell-same r.owned.shell) refl are)
demanded-subsurfaces c (GetSubsurface id version child parent) r d there ok are = joined id version child parent r (there child ok.1) ok.4 are
demanded-subsurfaces c (EndSubsurface id) r d there ok are =
    step r (subsurface_ended id r)
    (λ surface has. (
      any-there (of surface) (λ s. not (s.id == id)) r.subsurfaces has,
      λ role bare. ((trees-unlinked (link_with_id id r) r.owned.surfaces).surfaces.roles surface ∙ role, bare),
    )) are
demanded-subsurfaces c (SetMode link synchronised) r d there ok are = mode-kept link synchronised r are
demanded-subsurfaces c (GetPointer id version) r d there ok are =
    let now : Resident = record r { pointers = in_rising_order id r.pointers } in
    let drawn : Resident = drawing (has_focus c d.pointer.focus) now in
    kept drawn (making WlPointer id version drawn) (λ id. refl) (shell-same drawn.owned.shell) refl
    (drawn-kept (has_focus c d.pointer.focus) now (kept r now (λ id. refl) (shell-same r.owned.shell) refl are))
demanded-subsurfaces c (MakeCursor surface) r d there ok are = cursor surface r ok.0 are
demanded-subsurfaces c (GetPopup id version xdg parent p) r d there ok are =
    let given_so : Resident = popup_given_to id xdg parent p (xdg_at xdg r.owned.shell) r in
    kept given_so (making XdgPopup id version given_so) (λ id. refl) (shell-same given_so.owned.shell) refl (popup-given id xdg parent p (xdg_at xdg r.owned.shell) r refl are)
demanded-subsurfaces c (Reposition xdg token p) r d there ok are = repositioned-kept (placement_now c r d) p (popup_at xdg r.owned.shell) r are
demanded-subsurfaces c (Grab xdg serial) r d there ok are = grabbed-kept (grab_allowed c xdg serial r d) xdg r are
demanded-subsurfaces c (EndPopup id xdg) r d there ok are =
    kept r (changed_for c (EndPopup id xdg) r d) (λ id. refl) (shell-changed xdg without_role r.owned.shell (λ x. refl)) refl are
demanded-subsurfaces c (EndToplevel id xdg top) r d there ok are =
    let dismissed : Shell = dismissing (λ p. is_parent_of xdg p.popup) r.owned.shell in
    kept r (toplevel_ended id xdg r) (λ id. refl)
    (shell-more r.owned.shell (orphaning xdg dismissed) (with_xdg_change xdg without_role (orphaning xdg dismissed))
    (shell-more r.owned.shell dismissed (orphaning xdg dismissed) (shell-dismissed (λ p. is_parent_of xdg p.popup) r.owned.shell) (shell-orphaned xdg dismissed))
    (shell-changed xdg without_role (orphaning xdg dismissed) (λ x. refl))) refl are
demanded-subsurfaces c (Move surface serial) r d there ok are = are

-- What each change of surfaces and wl_subsurfaces keeps, each accepted message keeps.
use Rattle.std.proofs.Common.{◌≡◌, ℕ, ◌+◌, List, [], ◌∷◌, ◌++◌, Bool, true, false, Option, Some, None, map, ap, sym, ◌∙◌}
use Rattle.std.specs.Prelude.{◌==◌, ◌&&◌, filter, find, is_some, not}
use Rattle.std.specs.List.{list_any}
use Rattle.std.specs.Option.{option_map}
use Rattle.spec_desktop.specs.Peer.{Peer, counted, with_rest}
use Rattle.wl_surface.specs.Request.{Frame, Request}
use Rattle.wl_surface.specs.Surface.{asking, with_role}
use Rattle.wl_surface.specs.declared.role.Role.{Role}
use Rattle.wl_surface.specs.declared.role.Role.TheVariants.{Cursor as AsCursor, Popup as AsPopup, Toplevel as AsToplevel}
use Rattle.wl_surface.specs.Surfaces.{Link, Surfaces, surface_at, with_change, with_new}
use Rattle.wl_surface.specs.Trees.{committed_in, desynchronised_in, destroyed_in, linked, synchronised_in}
use Rattle.wl_shell.specs.Positioner.{Positioner}
use Rattle.wl_shell.specs.Shell.{Effect, Stays, XdgSurface, xdg_at, xdg_of}
use Rattle.wl_shell.specs.Popups.{Popped, copying, is_configured, popup_at, repositioning}
use Rattle.spec_desktop.specs.Stacking.{Standing}
use Rattle.spec_desktop.specs.Ask.{Ask, CreateSurface, AskSurface, GetToplevel}
use Rattle.spec_desktop.specs.Changing.{Placing, changed_for, drawing, effect_placing, placement_now, grab_allowed, grabbed, has_focus, in_rising_order, popup_given_to, tree_committed, unlinked_at, without_child}
use Rattle.spec_desktop.specs.Changing.{popup_repositioned}
use Rattle.spec_desktop.specs.Demand.{Demand, Asks, EndSurface, AskFrame, CommitTree, GetSubsurface, EndSubsurface, SetMode, GetPointer, MakeCursor, Reposition}
use Rattle.spec_desktop.specs.Demand.{GetPopup, Grab}
use Rattle.spec_desktop.specs.Demanding.{effect_of_commit}
use Rattle.spec_desktop.specs.Desktop.{Desktop, Resident, Subsurface}
use Rattle.spec_desktop.specs.Step.{changed_by, toplevel_given, with_peer, xdg_changed}
use Rattle.spec_desktop.specs.WlSubsurface.{has_subsurface, is_of_child}
use Rattle.law_desktop.specs.Soundness.{IsLive}
use Rattle.law_desktop.proofs.Soundness.Allowed.{allowed}
use Rattle.law_desktop.proofs.Soundness.Orderly.{HasRoles, IsAllowed, IsAskable, IsAsked, IsForest, IsOrderly}
use Rattle.law_desktop.proofs.XdgRoots.Named.{IsSettable, Names, named}
use Rattle.law_desktop.proofs.XdgRoots.Runs.{MessageHolds}
use Rattle.law_desktop.proofs.Truth.{and-right, differ}
use Rattle.law_desktop.proofs.Lists.Tests.{any-more}

-- nobody's child by a link that lives
abbrev pub IsFree : ℕ → Surfaces → Type 0
IsFree child all = (number : ℕ) (link : Link) → IsLive number link all → link.child ≡ child → ⊥

-- It is kept by what is done to surfaces, to links and to wl_subsurfaces; each request has a number of its own, the bound.
pub record Keeps (Holds : ℕ → Surfaces → List Subsurface → Type 0) : Type 0 where
  pub later : (b : ℕ) (all : Surfaces) (ss : List Subsurface) → Holds b all ss → Holds (b + 1) all ss
  pub created : (b id : ℕ) (all : Surfaces) (ss : List Subsurface) → Holds b all ss → Holds b (with_new id all) ss
  pub asked :
      (b surface : ℕ) (request : Request) (all : Surfaces) (ss : List Subsurface) → IsAskable surface all request → IsSettable surface all request → Holds b all ss
      → Holds b (with_change surface (asking request) all) ss
  pub role : (b id : ℕ) (role : Role) (all : Surfaces) (ss : List Subsurface) → Holds b all ss → Holds b (with_change id (with_role role) all) ss
  pub committed : (b surface : ℕ) (all : Surfaces) (ss : List Subsurface) → Holds b all ss → Holds b (committed_in surface all) ss
  pub linked_more :
      (b id child parent : ℕ) (all : Surfaces) (ss : List Subsurface) → IsForest b all → is_some (surface_at child all) ≡ true → is_some (surface_at parent all) ≡ true
      → list_any (λ s. is_of_child child s.surface) ss ≡ false → IsFree child all → Holds b all ss
      → Holds (b + 1) (linked b child parent all) (ss ++ record { id = id; link = b; surface = Some child } ∷ [])
  pub unlinked :
      (b id : ℕ) (gone : Option ℕ) (all : Surfaces) (ss : List Subsurface) → Holds b all ss → Holds b (unlinked_at gone all) (filter (λ s. not (s.id == id)) ss)
  pub synchronised : (b link : ℕ) (all : Surfaces) (ss : List Subsurface) → Holds b all ss → Holds b (synchronised_in link all) ss
  pub desynchronised : (b link : ℕ) (all : Surfaces) (ss : List Subsurface) → Holds b all ss → Holds b (desynchronised_in link all) ss
  pub destroyed : (b surface : ℕ) (all : Surfaces) (ss : List Subsurface) → IsForest b all → Holds b all ss → Holds b (destroyed_in surface all) (map (without_child surface) ss)

-- a surface that has no wl_subsurface is nobody's child
free-child : (r : Resident) (child : ℕ) → HasRoles r → has_subsurface child r ≡ false → IsFree child r.owned.surfaces
free-child r child roles none n link live same =
    let there : has_subsurface link.child r ≡ true =
    any-more (λ s. (s.link == n) && is_of_child link.child s.surface) (λ s. is_of_child link.child s.surface)
    (λ s e. and-right (s.link == n) (is_of_child link.child s.surface) e) r.subsurfaces (roles.named n link live) in
    differ (sym none ∙ sym (ap (λ (x : ℕ). has_subsurface x r) same) ∙ there)

module _ (Holds : ℕ → Surfaces → List Subsurface → Type 0) (keeps : Keeps Holds) where
  abbrev By : ℕ → Resident → Type 0
  By b r = Holds b r.owned.surfaces r.subsurfaces

  effect-kept : (b : ℕ) (where_to : Placing) (surface : ℕ) (effect : Effect) (x : Option XdgSurface) (r : Resident) → By b r → By b (effect_placing where_to surface effect x r)
  effect-kept b where_to surface effect None r known = known
  effect-kept b where_to surface Stays (Some x) r known = known
  effect-kept b where_to surface effect x r known = known

  grab-kept : (b : ℕ) (taken : Bool) (xdg : ℕ) (r : Resident) → By b r → By b (grabbed taken xdg r)
  grab-kept b true xdg r known = known
  grab-kept b false xdg r known = known

  drawn-kept : (b : ℕ) (drawn : Bool) (r : Resident) → By b r → By b (drawing drawn r)
  drawn-kept b true r known = known
  drawn-kept b false r known = known

  repositioned-kept : (b : ℕ) (where_to : Placing) (p : Positioner) (o : Option Popped) (r : Resident) → By b r → By b (popup_repositioned where_to p o r)
  repositioned-kept b where_to p None r known = known
  repositioned-kept b where_to p (Some q) r known =
      drawn-kept b (is_configured q) (xdg_changed q.xdg.id (repositioning (is_configured q) r.peer.serial (where_to (copying p q.popup)) p) r) known

  toplevel-kept : (b id xdg : ℕ) (x : Option XdgSurface) (r : Resident) → By b r → By b (toplevel_given id xdg x r)
  toplevel-kept b id xdg None r known = known
  toplevel-kept b id xdg (Some x) r known = keeps.role b x.surface AsToplevel r.owned.surfaces r.subsurfaces known

  popup-kept : (b id xdg parent : ℕ) (p : Positioner) (x : Option XdgSurface) (r : Resident) → By b r → By b (popup_given_to id xdg parent p x r)
  popup-kept b id xdg parent p None r known = known
  popup-kept b id xdg parent p (Some x) r known = keeps.role b x.surface AsPopup r.owned.surfaces r.subsurfaces known

  module _ (r : Resident) (p : Peer) where
    abbrev Now : Resident
    Now = with_peer p r

    asks-kept : (b : ℕ) (ask : Ask) → IsAsked r ask → Names r (Asks ask) → By b r → By b (changed_by ask Now)
    asks-kept b (CreateSurface id version) ok names known = keeps.created b id r.owned.surfaces r.subsurfaces known
    asks-kept b (AskSurface id request) ok names known = keeps.asked b id request r.owned.surfaces r.subsurfaces ok names known
    asks-kept b (GetToplevel id version xdg) ok names known = toplevel-kept b id xdg (xdg_at xdg r.owned.shell) Now known
    asks-kept b ask ok names known = known

    demand-kept : (c : ℕ) (demand : Demand) (tops : List Standing) (d : Desktop) → IsAllowed r demand → Names r demand → IsOrderly p.requests r tops → By p.requests r
        → By (p.requests + 1) (changed_for c demand Now d)
    demand-kept c (Asks ask) tops d ok names it known = keeps.later p.requests _ _ (asks-kept p.requests ask ok names known)
    demand-kept c (EndSurface id) tops d ok names it known = keeps.later p.requests _ _ (keeps.destroyed p.requests id r.owned.surfaces r.subsurfaces it.forest known)
    demand-kept c (AskFrame id version surface) tops d ok names it known =
        keeps.later p.requests _ _ (keeps.asked p.requests surface (Frame p.requests) r.owned.surfaces r.subsurfaces tt tt known)
    demand-kept c (CommitTree surface) tops d ok names it known =
        keeps.later p.requests _ _
        (effect-kept p.requests (placement_now c Now d) surface (effect_of_commit Now surface) (xdg_of surface r.owned.shell) (tree_committed surface Now)
        (keeps.committed p.requests surface r.owned.surfaces r.subsurfaces known))
    demand-kept c (GetSubsurface id version child parent) tops d ok names it known =
        keeps.linked_more p.requests id child parent r.owned.surfaces r.subsurfaces it.forest (it.objects.surfaces child ok.1) (it.objects.surfaces parent names) ok.3
        (free-child r child it.roles ok.3) known
    demand-kept c (EndSubsurface id) tops d ok names it known =
        keeps.later p.requests _ _ (keeps.unlinked p.requests id (option_map (λ s. s.link) (find (λ s. s.id == id) r.subsurfaces)) r.owned.surfaces r.subsurfaces known)
    demand-kept c (SetMode link true) tops d ok names it known = keeps.later p.requests _ _ (keeps.synchronised p.requests link r.owned.surfaces r.subsurfaces known)
    demand-kept c (SetMode link false) tops d ok names it known = keeps.later p.requests _ _ (keeps.desynchronised p.requests link r.owned.surfaces r.subsurfaces known)
    demand-kept c (GetPointer id version) tops d ok names it known =
        keeps.later p.requests _ _ (drawn-kept p.requests (has_focus c d.pointer.focus) (record Now { pointers = in_rising_order id r.pointers }) known)
    demand-kept c (MakeCursor surface) tops d ok names it known = keeps.later p.requests _ _ (keeps.role p.requests surface AsCursor r.owned.surfaces r.subsurfaces known)
    demand-kept c (GetPopup id version xdg parent q) tops d ok names it known =
        keeps.later p.requests _ _ (popup-kept p.requests id xdg parent q (xdg_at xdg r.owned.shell) Now known)
    demand-kept c (Reposition xdg token q) tops d ok names it known =
        keeps.later p.requests _ _ (repositioned-kept p.requests (placement_now c Now d) q (popup_at xdg r.owned.shell) Now known)
    demand-kept c (Grab xdg serial) tops d ok names it known = keeps.later p.requests _ _ (grab-kept p.requests (grab_allowed c xdg serial Now d) xdg Now known)
    demand-kept c demand tops d ok names it known = keeps.later p.requests _ _ known

  pub messages-hold : MessageHolds Holds
  messages-hold c r rest object opcode body demand tops d judged orderly known =
      demand-kept r (counted (with_rest rest r.peer)) c demand tops d (allowed r object opcode body demand judged) (named r object opcode body demand judged) orderly known

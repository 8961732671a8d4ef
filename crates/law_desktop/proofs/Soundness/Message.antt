-- An accepted message leaves what a client owns in order.
use Rattle.std.proofs.Common.{◌≡◌, ℕ, ◌+◌, List, Bool, true, false, Option, Some, None, refl, ap, sym, subst, ◌∙◌, arith}
use Rattle.std.specs.Prelude.{◌==◌, ◌&&◌}
use Rattle.spec_desktop.specs.declared.actions.Action.{Action}
use Rattle.spec_desktop.specs.declared.actions.Action.TheVariants.{Sync}
use Rattle.spec_desktop.specs.Peer.{counted, with_rest}
use Rattle.wl_surface.specs.Request.{Frame}
use Rattle.wl_surface.specs.Surfaces.{Link, Surfaces}
use Rattle.wl_shell.specs.Positioner.{Positioner}
use Rattle.wl_shell.specs.Shell.{XdgSurface as Xdg, xdg_at, xdg_of}
use Rattle.spec_desktop.specs.Ask.{Ask, Own, CreateSurface, AskSurface, GetToplevel}
use Rattle.spec_desktop.specs.Changing.{Placing, placement_now, changed_for, drawing, grab_allowed, grabbed, has_focus, in_rising_order, link_with_id, popup_given_to, tree_committed}
use Rattle.spec_desktop.specs.Demand.{Demand, Asks, EndSurface, AskFrame, CommitTree, GetSubsurface, EndSubsurface, SetMode, GetPointer, MakeCursor}
use Rattle.spec_desktop.specs.Demand.{GetPopup, Grab}
use Rattle.spec_desktop.specs.Demanding.{effect_of_commit}
use Rattle.spec_desktop.specs.Desktop.{Desktop, Resident}
use Rattle.law_desktop.specs.Soundness.{IsLive}
use Rattle.spec_desktop.specs.Step.{changed_by, toplevel_given, with_peer}
use Rattle.spec_desktop.specs.WlSubsurface.{has_subsurface, is_of_child}
use Rattle.law_desktop.proofs.Soundness.Orderly.{HasObjects, HasRoles, IsAllowed, IsAsked, IsForest, IsOwn}
use Rattle.law_desktop.proofs.Soundness.Allowed.{allowed}
use Rattle.law_desktop.proofs.Soundness.Forest.{forest-asked, forest-committed, forest-desynchronised, forest-destroyed, forest-later, forest-new, forest-role, forest-synchronised, forest-unlinked}
use Rattle.law_desktop.proofs.Soundness.Linked.{forest-linked}
use Rattle.law_desktop.proofs.Soundness.Objects.{objects-kept, objects-same}
use Rattle.law_desktop.proofs.Soundness.Roles.{roles-kept, roles-same}
use Rattle.law_desktop.proofs.Soundness.RunMessages.{MessageKeeps}
use Rattle.law_desktop.proofs.Soundness.Standing.{standing-kept}
use Rattle.law_desktop.proofs.Truth.{and-right, differ}
use Rattle.law_desktop.proofs.Lists.Tests.{any-more}
use Rattle.law_desktop.proofs.RootsOf.Commits.{effect-surfaces}
use Rattle.wl_shell.specs.Popups.{Popped, copying, is_configured, popup_at, repositioning}
use Rattle.spec_desktop.specs.Changing.{popup_repositioned}
use Rattle.spec_desktop.specs.Demand.{Reposition}
use Rattle.spec_desktop.specs.Step.{xdg_changed}

-- ---- what is allowed is so once the message is counted

module _ (r : Resident) (rest : List ℕ) where
  abbrev Counted : Resident
  Counted = with_peer (counted (with_rest rest r.peer)) r

  own-counted : (action : Action) → IsOwn r action → IsOwn Counted action
  own-counted (Sync id) h = h
  own-counted action h = h

  asked-counted : (ask : Ask) → IsAsked r ask → IsAsked Counted ask
  asked-counted (Own action) h = own-counted action h
  asked-counted ask h = h

  pub allowed-counted : (demand : Demand) → IsAllowed r demand → IsAllowed Counted demand
  allowed-counted (Asks ask) h = asked-counted ask h
  allowed-counted demand h = h

-- ---- the links make trees

grab-surfaces : (b : Bool) (xdg : ℕ) (r : Resident) → (grabbed b xdg r).owned.surfaces ≡ r.owned.surfaces
grab-surfaces true xdg r = refl
grab-surfaces false xdg r = refl

drawn-surfaces : (b : Bool) (r : Resident) → (drawing b r).owned.surfaces ≡ r.owned.surfaces
drawn-surfaces true r = refl
drawn-surfaces false r = refl

repositioned-surfaces : (where_to : Placing) (p : Positioner) (o : Option Popped) (r : Resident) → (popup_repositioned where_to p o r).owned.surfaces ≡ r.owned.surfaces
repositioned-surfaces where_to p None r = refl
repositioned-surfaces where_to p (Some q) r =
    drawn-surfaces (is_configured q) (xdg_changed q.xdg.id (repositioning (is_configured q) r.peer.serial (where_to (copying p q.popup)) p) r)

-- a surface that has no wl_subsurface is nobody's child
no-child : (r : Resident) (child : ℕ) → HasRoles r → has_subsurface child r ≡ false → (n : ℕ) (link : Link) → IsLive n link r.owned.surfaces → link.child ≡ child → ⊥
no-child r child roles none n link live same =
    let there : has_subsurface link.child r ≡ true =
    any-more (λ s. (s.link == n) && is_of_child link.child s.surface) (λ s. is_of_child link.child s.surface)
    (λ s e. and-right (s.link == n) (is_of_child link.child s.surface) e) r.subsurfaces (roles.named n link live) in
    differ (sym none ∙ sym (ap (λ (x : ℕ). has_subsurface x r) same) ∙ there)

-- the number of the request is the next
module _ (b : ℕ) where
  next : (all : Surfaces) → IsForest b all → IsForest (b + 1) all
  next all forest = forest-later b (b + 1) all (omega (arith)) forest

  by-same : (all now : Surfaces) → now ≡ all → IsForest b all → IsForest (b + 1) now
  by-same all now e forest = next now (subst (IsForest b) (sym e) forest)

  toplevel-forest : (id xdg : ℕ) (x : Option Xdg) (r : Resident) → IsForest b r.owned.surfaces → IsForest (b + 1) (toplevel_given id xdg x r).owned.surfaces
  toplevel-forest id xdg None r forest = next r.owned.surfaces forest
  toplevel-forest id xdg (Some x) r forest = next _ (forest-role b x.surface _ r.owned.surfaces forest)

  popup-forest : (id xdg parent : ℕ) (p : Positioner) (x : Option Xdg) (r : Resident) → IsForest b r.owned.surfaces → IsForest (b + 1) (popup_given_to id xdg parent p x r).owned.surfaces
  popup-forest id xdg parent p None r forest = next r.owned.surfaces forest
  popup-forest id xdg parent p (Some x) r forest = next _ (forest-role b x.surface _ r.owned.surfaces forest)

  asked-forest : (ask : Ask) (r : Resident) → IsAsked r ask → IsForest b r.owned.surfaces → IsForest (b + 1) (changed_by ask r).owned.surfaces
  asked-forest (CreateSurface id version) r ok forest = next _ (forest-new b id r.owned.surfaces forest)
  asked-forest (AskSurface id request) r ok forest = next _ (forest-asked b id request r.owned.surfaces ok forest)
  asked-forest (GetToplevel id version xdg) r ok forest = toplevel-forest id xdg (xdg_at xdg r.owned.shell) r forest
  asked-forest ask r ok forest = next r.owned.surfaces forest

pub forest-kept : (c : ℕ) (demand : Demand) (r : Resident) (d : Desktop) → IsAllowed r demand → HasRoles r → IsForest r.peer.requests r.owned.surfaces
    → IsForest (r.peer.requests + 1) (changed_for c demand r d).owned.surfaces
forest-kept c (Asks ask) r d ok roles forest = asked-forest r.peer.requests ask r ok forest
forest-kept c (EndSurface id) r d ok roles forest = next r.peer.requests _ (forest-destroyed r.peer.requests id r.owned.surfaces forest)
forest-kept c (AskFrame id version surface) r d ok roles forest =
    next r.peer.requests _ (forest-asked r.peer.requests surface (Frame r.peer.requests) r.owned.surfaces tt forest)
forest-kept c (CommitTree surface) r d ok roles forest =
    by-same r.peer.requests (tree_committed surface r).owned.surfaces _
    (effect-surfaces (placement_now c r d) surface (effect_of_commit r surface) (xdg_of surface r.owned.shell) (tree_committed surface r))
    (forest-committed r.peer.requests surface r.owned.surfaces forest)
forest-kept c (GetSubsurface id version child parent) r d ok roles forest =
    forest-linked r.peer.requests child parent r.owned.surfaces forest (no-child r child roles ok.3) ok.5 ok.6
forest-kept c (EndSubsurface id) r d ok roles forest = next r.peer.requests _ (forest-unlinked r.peer.requests (link_with_id id r) r.owned.surfaces forest)
forest-kept c (SetMode link true) r d ok roles forest = next r.peer.requests _ (forest-synchronised r.peer.requests link r.owned.surfaces forest)
forest-kept c (SetMode link false) r d ok roles forest = next r.peer.requests _ (forest-desynchronised r.peer.requests link r.owned.surfaces forest)
forest-kept c (GetPointer id version) r d ok roles forest =
    by-same r.peer.requests r.owned.surfaces _ (drawn-surfaces (has_focus c d.pointer.focus) (record r { pointers = in_rising_order id r.pointers })) forest
forest-kept c (MakeCursor surface) r d ok roles forest = next r.peer.requests _ (forest-role r.peer.requests surface _ r.owned.surfaces forest)
forest-kept c (GetPopup id version xdg parent p) r d ok roles forest = popup-forest r.peer.requests id xdg parent p (xdg_at xdg r.owned.shell) r forest
forest-kept c (Reposition xdg token p) r d ok roles forest =
    by-same r.peer.requests r.owned.surfaces _ (repositioned-surfaces (placement_now c r d) p (popup_at xdg r.owned.shell) r) forest
forest-kept c (Grab xdg serial) r d ok roles forest =
    by-same r.peer.requests r.owned.surfaces _ (grab-surfaces (grab_allowed c xdg serial r d) xdg r) forest
forest-kept c demand r d ok roles forest = next r.peer.requests r.owned.surfaces forest

-- ---- all of it

pub message-keeps : MessageKeeps
message-keeps c r rest object opcode body demand windows d judged known =
    let s : Resident = with_peer (counted (with_rest rest r.peer)) r in
    let ok : IsAllowed s demand = allowed-counted r rest demand (allowed r object opcode body demand judged) in
    let objects : HasObjects s = objects-same r s refl refl refl refl known.objects in
    let roles : HasRoles s = roles-same r s refl refl known.roles in
    record {
      objects = objects-kept c demand s d ok objects;
      forest = forest-kept c demand s d ok roles known.forest;
      roles = roles-kept c demand s d ok objects known.forest roles;
      standing = standing-kept c demand s windows d ok objects roles known.standing;
    }

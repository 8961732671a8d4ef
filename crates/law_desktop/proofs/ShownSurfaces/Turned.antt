-- Each transform that was asked of a surface is one of the eight, through what is demanded of its client.
use Rattle.std.proofs.Common.{◌≡◌, ℕ, List, [], ◌∷◌, ◌++◌, Bool, true, false, Option, Some, None, cond, fold, refl, ap, sym, subst, ◌∙◌}
use Rattle.std.specs.Prelude.{◌==◌, ◌&&◌, find}
use Rattle.std.specs.List.{list_all}
use Rattle.std.specs.Option.{option_map}
use Rattle.std.proofs.lemmas.Bool.{and_from}
use Rattle.std.proofs.lemmas.List.Folds.{list_all-append}
use Rattle.std.proofs.lemmas.Option.{none-some, same_Some}
use Rattle.wl_surface.specs.declared.role.Role.TheVariants.{Cursor as AsCursor, Popup as AsPopup, Subsurface as AsSubsurface, Toplevel as AsToplevel}
use Rattle.wl_surface.specs.Request.{AddChild, Commit, Frame, Request}
use Rattle.wl_surface.specs.State.{History}
use Rattle.wl_surface.specs.Surface.{Surface, asking, new_surface, with_role}
use Rattle.wl_surface.specs.Surfaces.{Surfaces, history_in, with_change, without_surface}
use Rattle.wl_surface.specs.Trees.{committed_in, desynchronised_in, destroyed_in, ended_in, linked, links_with}
use Rattle.wl_surface.proofs.Coming.{history-without}
use Rattle.law_desktop.proofs.TreeSteps.Commits.{asked_more, history-asked, role-keeps-all}
use Rattle.wl_shell.specs.Positioner.{Positioner}
use Rattle.wl_shell.specs.Shell.{Effect, Stays, XdgSurface, xdg_at, xdg_of}
use Rattle.wl_shell.specs.Popups.{Popped, copying, is_configured, popup_at, repositioning}
use Rattle.spec_desktop.specs.Ask.{Ask, AskSurface, CreateSurface, GetToplevel}
use Rattle.spec_desktop.specs.Changing.{Placing, changed_for, drawing, effect_placing, grab_allowed, grabbed, has_focus, in_rising_order, link_with_id, mode_set, placement_now, popup_given_to}
use Rattle.spec_desktop.specs.Changing.{tree_committed, unlinked_at, popup_repositioned}
use Rattle.spec_desktop.specs.Demand.{AskFrame, Asks, CommitTree, Demand, EndSubsurface, EndSurface, GetPointer, GetPopup, GetSubsurface, Grab, MakeCursor, SetMode}
use Rattle.spec_desktop.specs.Demand.{Reposition}
use Rattle.spec_desktop.specs.Demanding.{effect_of_commit}
use Rattle.spec_desktop.specs.Desktop.{Desktop, Resident}
use Rattle.spec_desktop.specs.Step.{changed_by, toplevel_given, xdg_changed}
use Rattle.law_desktop.proofs.Lists.Surfaces.{has_id}
use Rattle.law_desktop.proofs.Soundness.Moves.{Moves, moves-committed, moves-desynchronised, moves-those, moves-unlinked}
use Rattle.law_desktop.specs.Standing.{AreTurned, turns_well}
use Rattle.law_desktop.proofs.ShownSurfaces.Well.{IsWell}

-- ---- one surface

-- each transform that was asked of the surface is one of the eight, if it is there
abbrev IsTurned : Option History → Type 0
IsTurned o = (h : History) → o ≡ Some h → list_all turns_well h.requests ≡ true

turned-none : IsTurned None
turned-none = λ h there. absurd (none-some h there)

turned-some : (h : History) → list_all turns_well h.requests ≡ true → IsTurned (Some h)
turned-some h well = λ g there. ap (λ (k : History). list_all turns_well k.requests) (sym (same_Some h g there)) ∙ well

-- one request more
well-more : (requests : List Request) (request : Request) → list_all turns_well requests ≡ true → turns_well request ≡ true → list_all turns_well (requests ++ request ∷ []) ≡ true
well-more requests request well more =
    list_all-append turns_well requests (request ∷ [])
    ∙ and_from (list_all turns_well requests) (turns_well request && true) well (and_from (turns_well request) true more refl)

asked-turned : (request : Request) (b : Bool) (o : Option History) → turns_well request ≡ true → IsTurned o → IsTurned (option_map (λ h. cond b (asked_more request h) h) o)
asked-turned request b None well is = turned-none
asked-turned request true (Some h) well is = turned-some (asked_more request h) (well-more h.requests request (is h refl) well)
asked-turned request false (Some h) well is = is

-- ---- a client's surfaces

-- one is asked something more
asked-all : (id : ℕ) (request : Request) (all : Surfaces) → turns_well request ≡ true → AreTurned all → AreTurned (with_change id (asking request) all)
asked-all id request all well is surface =
    subst IsTurned (sym (history-asked surface id request all)) (asked-turned request (surface == id) (history_in surface all) well (is surface))

-- where the same was asked of each
moved-all : (all new : Surfaces) → Moves all new → AreTurned all → AreTurned new
moved-all all new moves is surface h there =
    let was = moves.requests surface h there in
    ap (list_all turns_well) (sym was.2) ∙ is surface was.0 was.1

committed-all : (id : ℕ) (all : Surfaces) → AreTurned all → AreTurned (committed_in id all)
committed-all id all is = moved-all (with_change id (asking Commit) all) (committed_in id all) (moves-committed id all) (asked-all id Commit all refl is)

-- one comes
made-all : (id surface : ℕ) (ss : List Surface) → IsTurned (option_map (λ (s : Surface). s.history) (find (has_id surface) ss))
    → IsTurned (option_map (λ (s : Surface). s.history) (find (has_id surface) (ss ++ new_surface id ∷ [])))
made-all id surface [] is = at (id == surface)
  where
    at : (b : Bool) → IsTurned (option_map (λ (s : Surface). s.history) (cond b (Some (new_surface id)) None))
    at true = turned-some (new_surface id).history refl
    at false = turned-none
made-all id surface (s ∷ ss) is = at (s.id == surface) is (made-all id surface ss)
  where
    later : Option Surface
    later = find (has_id surface) (ss ++ new_surface id ∷ [])

    at : (b : Bool) → IsTurned (option_map (λ (s : Surface). s.history) (cond b (Some s) (find (has_id surface) ss)))
        → (IsTurned (option_map (λ (s : Surface). s.history) (find (has_id surface) ss)) → IsTurned (option_map (λ (s : Surface). s.history) later))
        → IsTurned (option_map (λ (s : Surface). s.history) (cond b (Some s) later))
    at true is rest = is
    at false is rest = rest is

-- one goes
left-all : (id : ℕ) (all : Surfaces) → AreTurned all → AreTurned (without_surface id all)
left-all id all is surface = subst IsTurned (sym (history-without surface id all)) (at (surface == id))
  where
    at : (b : Bool) → IsTurned (cond b None (history_in surface all))
    at true = turned-none
    at false = is surface

destroyed-all : (id : ℕ) (all : Surfaces) → AreTurned all → AreTurned (destroyed_in id all)
destroyed-all id all is =
    let mid : Surfaces = fold ended_in all (links_with id all) in
    left-all id mid (moved-all all mid (moves-those id all) is)

-- a role is nothing to what was asked
linked-all : (number child parent : ℕ) (all : Surfaces) → AreTurned all → AreTurned (linked number child parent all)
linked-all number child parent all is = asked-all parent (AddChild number) mid refl (λ surface. subst IsTurned (sym ((role-keeps-all more child AsSubsurface).0 surface)) (is surface))
  where
    more : Surfaces
    more = record all { links = all.links ++ record { number = number; child = child; parent = parent; synchronised = true; has_ended = false } ∷ [] }

    mid : Surfaces
    mid = with_change child (with_role AsSubsurface) more

-- ---- what is demanded of a client

-- what a commit comes to for the shell changes no surface
effect-turned : (where_to : Placing) (id : ℕ) (effect : Effect) (x : Option XdgSurface) (r : Resident) → AreTurned r.owned.surfaces
    → AreTurned (effect_placing where_to id effect x r).owned.surfaces
effect-turned where_to id effect None r is = is
effect-turned where_to id Stays (Some x) r is = is
effect-turned where_to id effect x r is = is

popup-turned : (id xdg parent : ℕ) (p : Positioner) (x : Option XdgSurface) (r : Resident) → AreTurned r.owned.surfaces → AreTurned (popup_given_to id xdg parent p x r).owned.surfaces
popup-turned id xdg parent p None r is = is
popup-turned id xdg parent p (Some x) r is = λ surface. subst IsTurned (sym ((role-keeps-all r.owned.surfaces x.surface AsPopup).0 surface)) (is surface)

drawn-turned : (b : Bool) (r : Resident) → AreTurned r.owned.surfaces → AreTurned (drawing b r).owned.surfaces
drawn-turned true r is = is
drawn-turned false r is = is

repositioned-turned : (where_to : Placing) (p : Positioner) (o : Option Popped) (r : Resident) → AreTurned r.owned.surfaces → AreTurned (popup_repositioned where_to p o r).owned.surfaces
repositioned-turned where_to p None r is = is
repositioned-turned where_to p (Some q) r is =
    drawn-turned (is_configured q) (xdg_changed q.xdg.id (repositioning (is_configured q) r.peer.serial (where_to (copying p q.popup)) p) r) is

grabbed-turned : (b : Bool) (xdg : ℕ) (r : Resident) → AreTurned r.owned.surfaces → AreTurned (grabbed b xdg r).owned.surfaces
grabbed-turned true xdg r is = is
grabbed-turned false xdg r is = is

given-turned : (id xdg : ℕ) (x : Option XdgSurface) (r : Resident) → AreTurned r.owned.surfaces → AreTurned (toplevel_given id xdg x r).owned.surfaces
given-turned id xdg None r is = is
given-turned id xdg (Some x) r is = λ surface. subst IsTurned (sym ((role-keeps-all r.owned.surfaces x.surface AsToplevel).0 surface)) (is surface)

ask-turned : (ask : Ask) (r : Resident) → AreTurned r.owned.surfaces → IsWell r (Asks ask) → AreTurned (changed_by ask r).owned.surfaces
ask-turned (CreateSurface id version) r is well = λ surface. made-all id surface r.owned.surfaces.surfaces (is surface)
ask-turned (AskSurface id request) r is well = asked-all id request r.owned.surfaces well is
ask-turned (GetToplevel id version xdg) r is well = given-turned id xdg (xdg_at xdg r.owned.shell) r is
ask-turned ask r is well = is

mode-turned : (link : ℕ) (b : Bool) (r : Resident) → AreTurned r.owned.surfaces → AreTurned (mode_set link b r).owned.surfaces
mode-turned link true r is = is
mode-turned link false r is = moved-all r.owned.surfaces (desynchronised_in link r.owned.surfaces) (moves-desynchronised link r.owned.surfaces) is

-- What is demanded leaves them so.
pub demand-turned : (c : ℕ) (demand : Demand) (r : Resident) (d : Desktop) → AreTurned r.owned.surfaces → IsWell r demand → AreTurned (changed_for c demand r d).owned.surfaces
demand-turned c (Asks ask) r d is well = ask-turned ask r is well
demand-turned c (EndSurface id) r d is well = destroyed-all id r.owned.surfaces is
demand-turned c (AskFrame id version surface) r d is well = asked-all surface (Frame r.peer.requests) r.owned.surfaces refl is
demand-turned c (CommitTree id) r d is well =
    effect-turned (placement_now c r d) id (effect_of_commit r id) (xdg_of id r.owned.shell) (tree_committed id r) (committed-all id r.owned.surfaces is)
demand-turned c (GetSubsurface id version child parent) r d is well = linked-all r.peer.requests child parent r.owned.surfaces is
demand-turned c (EndSubsurface id) r d is well =
    moved-all r.owned.surfaces (unlinked_at (link_with_id id r) r.owned.surfaces) (moves-unlinked (link_with_id id r) r.owned.surfaces) is
demand-turned c (SetMode link b) r d is well = mode-turned link b r is
demand-turned c (GetPointer id version) r d is well = drawn-turned (has_focus c d.pointer.focus) (record r { pointers = in_rising_order id r.pointers }) is
demand-turned c (MakeCursor surface) r d is well = λ other. subst IsTurned (sym ((role-keeps-all r.owned.surfaces surface AsCursor).0 other)) (is other)
demand-turned c (GetPopup id version xdg parent p) r d is well = popup-turned id xdg parent p (xdg_at xdg r.owned.shell) r is
demand-turned c (Reposition xdg token p) r d is well = repositioned-turned (placement_now c r d) p (popup_at xdg r.owned.shell) r is
demand-turned c (Grab xdg serial) r d is well = grabbed-turned (grab_allowed c xdg serial r d) xdg r is
demand-turned c demand r d is well = is

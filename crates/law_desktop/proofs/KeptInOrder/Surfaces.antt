-- Which surfaces of a client are there after what is demanded.
use Rattle.std.proofs.Common.{◌≡◌, ℕ, Bool, true, false, Option, Some, None, refl}
use Rattle.wl_surface.specs.Surface.{asking, with_role}
use Rattle.wl_surface.specs.Request.{Frame}
use Rattle.wl_surface.specs.declared.role.Role.TheVariants.{Cursor as AsCursor, Popup as AsPopup, Toplevel as AsToplevel}
use Rattle.wl_surface.specs.Surfaces.{Surfaces, with_new}
use Rattle.wl_surface.specs.Trees.{destroyed_in}
use Rattle.wl_shell.specs.Positioner.{Positioner}
use Rattle.wl_shell.specs.Shell.{Effect, XdgSurface as Xdg, xdg_at, xdg_of}
use Rattle.wl_shell.specs.Popups.{Popped, is_configured, popup_at}
use Rattle.spec_desktop.specs.Ask.{Ask, CreateSurface, AskSurface, GetToplevel}
use Rattle.spec_desktop.specs.Changing.{Placing, changed_for, drawing, effect_placing, grab_allowed, grabbed, has_focus, in_rising_order, is_configure, link_with_id, mode_set, placement_now}
use Rattle.spec_desktop.specs.Changing.{popup_given_to, tree_committed, popup_repositioned}
use Rattle.spec_desktop.specs.Demand.{Demand, Asks, EndSurface, AskFrame, CommitTree, GetSubsurface, EndSubsurface, SetMode, GetPointer, MakeCursor, Reposition}
use Rattle.spec_desktop.specs.Demand.{GetPopup, Grab}
use Rattle.spec_desktop.specs.Demanding.{effect_of_commit}
use Rattle.spec_desktop.specs.Desktop.{Desktop, Resident}
use Rattle.spec_desktop.specs.Step.{changed_by, toplevel_given}
use Rattle.law_desktop.proofs.Soundness.ObjectsThere.{There, there-changed, there-committed, there-desynchronised, there-linked, there-unlinked}

-- one is made, one goes, or the same are there
abbrev pub AskThere : Ask → Surfaces → Surfaces → Type 0
AskThere (CreateSurface id version) old new = new ≡ with_new id old
AskThere ask old new = There old new

abbrev pub DemandThere : Demand → Surfaces → Surfaces → Type 0
DemandThere (Asks ask) old new = AskThere ask old new
DemandThere (EndSurface id) old new = new ≡ destroyed_in id old
DemandThere demand old new = There old new

drawn-there : (b : Bool) (old : Surfaces) (r : Resident) → There old r.owned.surfaces → There old (drawing b r).owned.surfaces
drawn-there true old r there = there
drawn-there false old r there = there

effect-there : (where_to : Placing) (id : ℕ) (effect : Effect) (o : Option Xdg) (old : Surfaces) (r : Resident) → There old r.owned.surfaces
    → There old (effect_placing where_to id effect o r).owned.surfaces
effect-there where_to id effect None old r there = there
effect-there where_to id effect (Some x) old r there = drawn-there (is_configure effect) old _ there

toplevel-there : (id xdg : ℕ) (o : Option Xdg) (r : Resident) → There r.owned.surfaces (toplevel_given id xdg o r).owned.surfaces
toplevel-there id xdg None r = λ key. refl
toplevel-there id xdg (Some x) r = there-changed x.surface (with_role AsToplevel) r.owned.surfaces (λ s. refl)

popup-there : (id xdg parent : ℕ) (p : Positioner) (o : Option Xdg) (r : Resident) → There r.owned.surfaces (popup_given_to id xdg parent p o r).owned.surfaces
popup-there id xdg parent p None r = λ key. refl
popup-there id xdg parent p (Some x) r = there-changed x.surface (with_role AsPopup) r.owned.surfaces (λ s. refl)

reposition-there : (where_to : Placing) (p : Positioner) (o : Option Popped) (r : Resident) → There r.owned.surfaces (popup_repositioned where_to p o r).owned.surfaces
reposition-there where_to p None r = λ key. refl
reposition-there where_to p (Some q) r = drawn-there (is_configured q) r.owned.surfaces _ (λ key. refl)

grabbed-there : (b : Bool) (xdg : ℕ) (r : Resident) → There r.owned.surfaces (grabbed b xdg r).owned.surfaces
grabbed-there true xdg r = λ key. refl
grabbed-there false xdg r = λ key. refl

mode-there : (link : ℕ) (b : Bool) (r : Resident) → There r.owned.surfaces (mode_set link b r).owned.surfaces
mode-there link true r = λ key. refl
mode-there link false r = there-desynchronised link r.owned.surfaces

asked-there : (ask : Ask) (r : Resident) → AskThere ask r.owned.surfaces (changed_by ask r).owned.surfaces
asked-there (CreateSurface id version) r = refl
asked-there (AskSurface id request) r = there-changed id (asking request) r.owned.surfaces (λ s. refl)
asked-there (GetToplevel id version xdg) r = toplevel-there id xdg (xdg_at xdg r.owned.shell) r
asked-there ask r = λ key. refl

pub demand-there : (c : ℕ) (demand : Demand) (r : Resident) (d : Desktop) → DemandThere demand r.owned.surfaces (changed_for c demand r d).owned.surfaces
demand-there c (Asks ask) r d = asked-there ask r
demand-there c (EndSurface id) r d = refl
demand-there c (AskFrame id version surface) r d = there-changed surface (asking (Frame r.peer.requests)) r.owned.surfaces (λ s. refl)
demand-there c (CommitTree surface) r d =
    effect-there (placement_now c r d) surface (effect_of_commit r surface) (xdg_of surface r.owned.shell) r.owned.surfaces (tree_committed surface r)
    (there-committed surface r.owned.surfaces)
demand-there c (GetSubsurface id version child parent) r d = there-linked r.peer.requests child parent r.owned.surfaces
demand-there c (EndSubsurface id) r d = there-unlinked (link_with_id id r) r.owned.surfaces
demand-there c (SetMode link synchronised) r d = mode-there link synchronised r
demand-there c (GetPointer id version) r d =
    drawn-there (has_focus c d.pointer.focus) r.owned.surfaces (record r { pointers = in_rising_order id r.pointers }) (λ key. refl)
demand-there c (MakeCursor surface) r d = there-changed surface (with_role AsCursor) r.owned.surfaces (λ s. refl)
demand-there c (GetPopup id version xdg parent p) r d = popup-there id xdg parent p (xdg_at xdg r.owned.shell) r
demand-there c (Reposition xdg token p) r d = reposition-there (placement_now c r d) p (popup_at xdg r.owned.shell) r
demand-there c (Grab xdg serial) r d = grabbed-there (grab_allowed c xdg serial r d) xdg r
demand-there c demand r d = λ key. refl

-- What a message does to the windows that are kept of the output.
use Rattle.std.specs.Prelude.{ℕ, ℤ, ◌≡◌, ◌==◌, ◌&&◌, ◌||◌, ◌+◌, ◌≤◌, ◌<◌, pos, Bool, true, false, is_some}
use Rattle.std.specs.Prelude.{if◌then◌else◌, List, [], ◌++◌, Option, Some, None, map, find, length}
use Rattle.std.specs.Prelude.{vec_capacity, vec_len}
use Rattle.std.specs.List.{list_any}
use Rattle.std.specs.Option.{option_map}
use Rattle.wl_scene.specs.Marking.{AddsPoints}
use Rattle.wl_paint.specs.Damage.{has}
use Rattle.wl_links.specs.Family.{links_in, parents_of, root_by}
use Rattle.wl_proto.specs.declared.wl_subsurface.WlSubsurfaceRequest.TheVariants as subsurface
use Rattle.wl_proto.specs.declared.wl_surface.WlSurfaceRequest.TheVariants as surface
use Rattle.wl_proto.specs.declared.xdg_popup.XdgPopupRequest.TheVariants as popup
use Rattle.wl_scene.specs.Repaint.{AreTogether, window_has}
use Rattle.wl_requests.specs.declared.messages.Asked.{Asked}
use Rattle.wl_requests.specs.declared.messages.Asked.TheVariants as asked
use Rattle.wl_requests.specs.declared.messages.Kind.{Kind}
use Rattle.wl_requests.specs.declared.messages.Kind.TheVariants as kind
use Rattle.wl_requests.specs.declared.residents.Resident.{Resident as Kept}
use Rattle.wl_requests.specs.declared.residents.Stacking.{Stacking}
use Rattle.wl_requests.specs.declared.residents.Stacking.TheVariants.{Stays, ToTop, Out}
use Rattle.wl_requests.specs.declared.xdg_toplevel.ToplevelAsked.TheVariants.{Destruction}
use Rattle.wl_requests.specs.Linking.{IsChildOf}
use Rattle.wl_shell.specs.InOrder.{AreRising}
use Rattle.spec_desktop.specs.Popups.{stacked_popups}
use Rattle.spec_desktop.specs.Stacking.{Owned, Standing, is_of as is_standing, root_of}
use Rattle.wl_scene.specs.Kept.{Stack}
use Rattle.wl_scene.specs.Roots.{HasRole, IsHeld, standing_at, told_root}
use Rattle.wl_scene.specs.declared.roots.RootPlace.{RootPlace}
use Rattle.wl_scene.specs.Told.{told_trees}
use Rattle.spec_desktop.specs.Windows.{Owner, roots_of}
use Rattle.wl_scene.specs.declared.stacked.Stacked.{Stacked}
use Rattle.wl_scene.specs.Stacked.{is_of, replaced, run_of, stacked, without_run}
use Rattle.wl_surface.specs.declared.applied.Applied.{Applied}
use Rattle.wl_surface.specs.declared.applied.Change.{Change}
use Rattle.wl_shell.specs.Popups.{popups_of}
use Rattle.wl_scene.specs.declared.tree_window.TreeWindow.{TreeWindow}
use Rattle.wl_clients.specs.declared.screen.screens.Screen.{Screen}
use Rattle.wl_clients.specs.Seats.{IsClearedBy, IsRestacked}
use Rattle.wl_clients.specs.Staying.{marks_moved}
use Rattle.wl_clients.specs.View.{pile_of}

-- ---- which tree

-- What is asked may change the windows of the tree that this surface is in, by its number: one that is committed or goes, the child of a
-- wl_subsurface that goes or is desynchronised while its link lives, and the surface of a toplevel or of a popup that goes (wayland.xml,
-- wl_surface and wl_subsurface; xdg-shell.xml, xdg_toplevel.destroy and xdg_popup.destroy).
abbrev pub IsTouchedIn : {A : Type 0} → Kept A → ℕ → ℕ → Kind → Option ℕ → Type 0
IsTouchedIn v object target (kind.Surface surface.Commit) touched = touched ≡ Some target
IsTouchedIn v object target (kind.Surface surface.Destroy) touched = touched ≡ Some target
IsTouchedIn v object target (kind.Toplevel Destruction) touched = touched ≡ Some target
IsTouchedIn v object target (kind.Popup popup.Destroy) touched = touched ≡ Some target
IsTouchedIn v object target (kind.Subsurface subsurface.Destroy) touched = IsChildOf v object touched
IsTouchedIn v object target (kind.Subsurface subsurface.SetDesync) touched = IsChildOf v object touched
IsTouchedIn v object target kind touched = touched ≡ None

abbrev pub IsTouchedBy : {A : Type 0} → Kept A → Asked → Option ℕ → Type 0
IsTouchedBy v (asked.Request object version size target kind) touched = IsTouchedIn v object target kind touched
IsTouchedBy v asked touched = touched ≡ None

-- the root of its tree
abbrev pub root_in : {A : Type 0} → Kept A → Option ℕ → Option ℕ
root_in v touched = option_map (λ surface. root_by 16 (parents_of (links_in v.owned.surfaces.family)) surface) touched

-- ---- windows

-- those stacked with a toplevel, as they are kept
abbrev pub run_kept : ℕ → Option ℕ → List Stacked → List TreeWindow
run_kept c None all = []
run_kept c (Some toplevel) all = map (λ s. s.window) (run_of c toplevel all)

-- the roots of the windows of a toplevel that stands, by what the client owns
abbrev pub roots_at : ℕ → Owned → ℕ → Option Standing → List RootPlace
roots_at c o toplevel None = []
roots_at c o toplevel (Some s) =
    map told_root (roots_of o.surfaces (root_of (λ _. o) (standing_at c toplevel s.place.x s.place.y)) (stacked_popups o))

abbrev pub roots_on : ℕ → Owned → Option ℕ → List Standing → List RootPlace
roots_on c o None standing = []
roots_on c o (Some toplevel) standing = roots_at c o toplevel (find (is_standing c toplevel) standing)

-- those windows, as they are told
abbrev pub run_on : ℕ → Owner → Owned → Option ℕ → List Standing → List TreeWindow
run_on c owner o toplevel standing = told_trees owner o.surfaces (roots_on c o toplevel standing)

-- These are the windows of a toplevel now: where it stands as it did they come to the place of those that it had, where it was mapped they
-- come on top, and where it doesn't stand any more it has none.
abbrev pub restacked : ℕ → ℕ → Stacking → List TreeWindow → List Stacked → List Stacked
restacked c toplevel Stays is all = replaced c toplevel is all
restacked c toplevel (ToTop number) is all =
    if list_any (is_of c toplevel) all then replaced c toplevel is all else all ++ map (stacked c toplevel) is
restacked c toplevel (Out number) is all = without_run c toplevel all

abbrev pub restacked_if : ℕ → Option ℕ → Stacking → List TreeWindow → List Stacked → List Stacked
restacked_if c None stacking is all = all
restacked_if c (Some toplevel) stacking is all = restacked c toplevel stacking is all

-- the window is of the client, and contains the point
abbrev pub is_own_at : ℕ → ℤ → ℤ → Stacked → Bool
is_own_at c x y s = (s.client == c) && window_has x y s.window

-- one of them does
abbrev pub has_own : ℕ → ℤ → ℤ → List Stacked → Bool
has_own c x y all = list_any (is_own_at c x y) all

-- what was applied to surfaces, if something was
abbrev pub changes_in : {A : Type 0} → Option (Applied A) → List (Change A)
changes_in None = []
changes_in (Some applied) = applied.changes.items

-- The points that are marked where these windows of a toplevel are kept, and those it had before and has after a message were told: all of
-- those that are kept, where it goes; else what the change of the windows marks.
abbrev pub turned_has : {A : Type 0} → Stacking → List TreeWindow → List TreeWindow → List TreeWindow → List (Change A) → ℤ → ℤ → Bool
turned_has (Out number) kept was is changes x y = list_any (window_has x y) kept
turned_has stacking kept was is changes x y = marks_moved was is changes x y

-- Where there is no such toplevel, none are.
abbrev pub turned_if :
    {A : Type 0} → Option ℕ → Stacking → List TreeWindow → List TreeWindow → List TreeWindow → List (Change A) → ℤ → ℤ → Bool
turned_if None stacking kept was is changes x y = false
turned_if (Some toplevel) stacking kept was is changes x y = turned_has stacking kept was is changes x y

-- Where it stays, or is mapped, the windows of each tree stand together.
abbrev pub AreToldIf : Option ℕ → Stacking → List TreeWindow → List TreeWindow → Type 0
AreToldIf None stacking was is = Unit {0}
AreToldIf (Some toplevel) (Out number) was is = Unit {0}
AreToldIf (Some toplevel) stacking was is = AreTogether was × AreTogether is

-- ---- room

-- a toplevel more has room in the spare memory, where one is mapped
abbrev pub HasPlace : Stacking → Stack → ℕ → Type 0
HasPlace (ToTop number) stack capacity = length stack.standing < capacity
HasPlace stacking stack capacity = Unit {0}

-- so many windows have room, unless the toplevel goes
abbrev pub Fit : Stacking → ℕ → ℕ → Type 0
Fit (Out number) windows room = Unit {0}
Fit stacking windows room = windows ≤ room

-- of a toplevel that there is
abbrev pub FitIf : Option ℕ → Stacking → ℕ → ℕ → Type 0
FitIf None stacking windows room = Unit {0}
FitIf (Some toplevel) stacking windows room = Fit stacking windows room

-- There is room for a toplevel more, and for so many windows more of one.
pub record HasRoom {A : Type 0} (count : ℕ) (s : Screen A) : Type 0 where
  pub place : length s.scene.standing < vec_capacity s.spare.toplevels
  pub stack : count ≤ s.stacked.room
  pub run : vec_len s.spare.is + count ≤ vec_capacity s.spare.is

-- All but the spare memory stays.
pub record IsSameScreen {A : Type 0} (old new : Screen A) : Type 0 where
  pub scene : new.scene ≡ old.scene
  pub windows : new.stacked.windows ≡ old.stacked.windows
  pub damage : new.damage ≡ old.damage

-- ---- what a message leads to

-- What is kept stands for what a client owns, whose popups come in the order of their creation; and where the toplevel stands, the
-- xdg_surface of its surface, if there is one, has a role object.
pub record IsRunHeld {A : Type 0} (c : ℕ) (v : Kept A) (toplevel : ℕ) (standing : List Standing) (o : Owned) : Type 0 where
  pub held : IsHeld v.owned.surfaces.states v.owned.surfaces.family v.owned.shell o
  pub rising : AreRising (popups_of o.shell)
  pub role : is_some (find (is_standing c toplevel) standing) ≡ true → HasRole v.owned.shell toplevel
  pub few : length o.shell ≤ 256

abbrev pub IsRunHeldIf : {A : Type 0} → ℕ → Kept A → Option ℕ → List Standing → Owned → Type 0
IsRunHeldIf c v None standing o = Unit {0}
IsRunHeldIf c v (Some toplevel) standing o = IsRunHeld c v toplevel standing o

-- These windows are told of a toplevel by what is kept, beside those that were told before, where there is room.
abbrev pub IsToldOn : {A : Type 0} → ℕ → Option ℕ → Kept A → List Standing → Screen A → List TreeWindow → Type 0
IsToldOn c toplevel v standing s is =
    (o : Owned) (owner : Owner) → IsRunHeldIf c v toplevel standing o
    → vec_len s.spare.is + length (run_on c owner o toplevel standing) ≤ vec_capacity s.spare.is
    → is ≡ s.spare.is.items ++ run_on c owner o toplevel standing

-- Where the client lives, the toplevels and the windows of this one are as the message leaves them, and what it changes of them is marked,
-- where those of each tree stand together.
pub record IsFollowed {A : Type 0} (c : ℕ) (toplevel : Option ℕ) (v : Kept A) (stacking : Stacking) (applied : Option (Applied A))
    (old new : Screen A) : Type 0 where
  pub told : IsToldOn c toplevel v new.scene.standing old new.spare.is.items
  pub scene : HasPlace stacking old.scene (vec_capacity old.spare.toplevels) → IsRestacked c stacking old.scene new.scene
  pub windows :
      FitIf toplevel stacking (length new.spare.is.items) old.stacked.room
      → new.stacked.windows ≡ restacked_if c toplevel stacking new.spare.is.items old.stacked.windows
  pub points :
      AreToldIf toplevel stacking old.spare.was.items new.spare.is.items
      → AddsPoints
      (turned_if toplevel stacking (run_kept c toplevel old.stacked.windows) old.spare.was.items new.spare.is.items
      (changes_in applied)) old.damage new.damage
  -- those that were told before are kept
  pub was : new.spare.was ≡ old.spare.was

-- what is done to the stack where something was applied
abbrev pub IsRestackedIf : {A : Type 0} → Option (Applied A) → ℕ → Stacking → Stack → Stack → ℕ → Type 0
IsRestackedIf None c stacking was is capacity = is ≡ was
IsRestackedIf (Some applied) c stacking was is capacity = HasPlace stacking was capacity → IsRestacked c stacking was is

-- and which windows are told
abbrev pub IsToldIf : {A : Type 0} → Option (Applied A) → ℕ → Option ℕ → Kept A → List Standing → Screen A → List TreeWindow → Type 0
IsToldIf None c toplevel v standing s is = is ≡ s.spare.is.items
IsToldIf (Some applied) c toplevel v standing s is = IsToldOn c toplevel v standing s is

-- Where the client ended by the message, nothing is left of it, and its windows are marked, with those that the toplevel had for a moment.
pub record IsParted {A : Type 0} (c : ℕ) (toplevel : Option ℕ) (v w : Kept A) (stacking : Stacking) (applied : Option (Applied A))
    (old new : Screen A) : Type 0 where
  pub is : List TreeWindow
  pub between : Stack
  pub scene : IsRestackedIf applied c stacking old.scene between (vec_capacity old.spare.toplevels)
  pub told : IsToldIf applied c toplevel v between.standing old is
  pub clears : IsClearedBy v.client.ended c v w (record { scene = between; windows = old.stacked.windows }) (pile_of new)
  pub points :
      (x y : ℕ) → x < old.damage.width → y < old.damage.height
      → has new.damage x y
      ≡ ((has old.damage x y || has_own c (pos x) (pos y) old.stacked.windows) || list_any (window_has (pos x) (pos y)) is)

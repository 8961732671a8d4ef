-- What is kept of a client's popups goes on standing for them as they come, change and go, and what the shell finds of them is what the
-- definitions find (xdg-shell.xml, xdg_surface.get_popup and xdg_popup). Among the names those of toplevels are those of role objects.
use Rattle.std.specs.Prelude.{ℕ, ℤ, ◌≡◌, ◌&&◌, Bool, true, false, not, if◌then◌else◌, is_some, IfSome, Option, Some, None, Ok}
use Rattle.std.specs.Prelude.{List, [], ◌∷◌, ◌++◌, ◌≤◌, length, map}
use Rattle.std.specs.Option.{option_and_then, option_map}
use Rattle.wl_geom.specs.declared.rect.Rect.{Rect}
use Rattle.wl_proto.specs.declared.interface.Interface.TheVariants.{XdgPopup, XdgToplevel}
use Rattle.wl_wire.specs.Wire.{Word}
use Rattle.wl_proto.specs.Messages.{says}
use Rattle.spec_desktop.specs.Objects.{is_of}
use Rattle.spec_desktop.specs.Told.{Said, said}
use Rattle.wl_links.specs.Family.{Tied}
use Rattle.wl_surface.specs.State.{History}
use Rattle.wl_surface.specs.Surface.{with_role}
use Rattle.wl_surface.specs.declared.role.Role.TheVariants.{Popup as AsPopup}
use Rattle.wl_surface.specs.Slots.{Changes, Slots}
use Rattle.wl_surface.specs.Trees.{committed_in}
use Rattle.wl_surface.specs.Hanging.{AreNumbered}
use Rattle.wl_surface.specs.TreeLaws.{AreOnceLinked}
use Rattle.law_desktop.specs.Named.{Makes}
use Rattle.wl_shell.specs.Descent.{AreYounger, has_popup_at}
use Rattle.wl_shell.specs.Found.{AreFound}
use Rattle.wl_shell.specs.InOrder.{AreReleased, HasOrder, IsNextToGo, IsOnly, goes_with, undismissed, with_dismissed}
use Rattle.wl_shell.specs.ShellLaws.{orphaned}
use Rattle.wl_shell.specs.PopupsKept.{IsNewest, dismissible_under, has_child, parent_allows, parent_id, popup_destruction}
use Rattle.wl_shell.specs.declared.acts.ShellAct.{ShellAct}
use Rattle.wl_shell.specs.declared.acts.ShellAct.TheVariants.{Configure}
use Rattle.wl_shell.specs.Kept.{Book, Kept, changing, commit_answer, grab_answer, kept_after, kept_changed, kept_grabbing, kept_of}
use Rattle.wl_shell.specs.Kept.{kept_popup, kept_repositioning, kept_without_role, popup_answer, reposition_answer}
use Rattle.wl_shell.specs.Popups.{Popped, dismiss, dismissing, is_parent_of, orphaning, popup_at, popup_in, popups_of}
use Rattle.wl_shell.specs.Positioner.{Placed, Positioner}
use Rattle.wl_shell.specs.Shell.{IsPopup, Kind, Popup, RoleObject, Shell, Toplevel, XdgSurface, is_role, xdg_at, xdg_of, xdg_with}
use Rattle.spec_desktop.specs.Popups.{parent_corner}
use Rattle.spec_desktop.specs.Stacking.{Owned}
use Rattle.spec_desktop.specs.Windows.{Place, Window}
use Rattle.spec_desktop.specs.Ask.{Ignore}
use Rattle.spec_desktop.specs.Changing.{changed_for, drawing, grab_allowed, grab_holder, is_held_elsewhere, is_latest, output_rect}
use Rattle.spec_desktop.specs.Demand.{Demand, Asks, CommitTree, GetPopup, Reposition, Grab, EndPopup, EndToplevel}
use Rattle.spec_desktop.specs.Desktop.{Desktop, Resident}
use Rattle.spec_desktop.specs.Replies.{own_answers, popup_configured, popup_told, popups_done}
use Rattle.spec_desktop.specs.Step.{toplevel_configured, xdg_configured}
use Rattle.spec_desktop.specs.WlSurface.{will_show}
use Rattle.spec_desktop.specs.XdgPopup.{grab_of, is_no_popup, may_be_parent, popup_destroyed, popup_made, repositioned_by}
use Rattle.spec_desktop.specs.XdgShell.{role_of}
use Rattle.law_desktop.specs.Soundness.{IsNoChild}
use Rattle.law_desktop.specs.InOrder.{OwnsInOrder}
use Rattle.law_desktop.specs.Owning.{IsOwned, IsXdg, Names, asks_by, shell_refusal, with_toplevel}

-- ---- role objects

-- The xdg_surface of an xdg_popup has that popup, and that of an xdg_toplevel has none.
abbrev pub PopupKnown : Type 0
PopupKnown =
    (r : Resident) (id : ℕ) (x : XdgSurface)
    → OwnsInOrder r
    → is_of XdgPopup (r.peer.objects id) ≡ true
    → xdg_with id r.owned.shell ≡ Some x
    → (p : Popped) × (popup_at x.id r.owned.shell ≡ Some p) × (p.object.id ≡ id)

abbrev pub ToplevelKnown : Type 0
ToplevelKnown =
    (r : Resident) (id : ℕ) (x : XdgSurface)
    → OwnsInOrder r
    → is_of XdgToplevel (r.peer.objects id) ≡ true
    → xdg_with id r.owned.shell ≡ Some x
    → has_popup_at x.id r.owned.shell ≡ false

-- The popups of a client in order have the order that the shell asks for, where each is younger than its parent, none that was dismissed
-- has a grab, and there are no more xdg_surfaces than surfaces.
abbrev pub OrderKnown : Type 0
OrderKnown =
    (r : Resident) → OwnsInOrder r → AreYounger (popups_of r.owned.shell) → AreReleased r.owned.shell → length r.owned.shell ≤ 256
    → HasOrder r.owned.shell

pub record RolesAreKnown : Type 0 where
  pub popup : PopupKnown
  pub toplevel : ToplevelKnown
  pub order : OrderKnown

-- ---- xdg_surface.get_popup

-- An xdg_surface may be a parent where one with a role object is kept.
abbrev pub ParentRead : Type 0
ParentRead =
    (names : Names) (slots : Slots) (tied : Tied) (kept : ℕ → Option Kept) (o : Owned) (parent : ℕ)
    → IsOwned names slots tied kept o
    → parent_id kept (names.shell parent) ≡ (if may_be_parent (xdg_at parent o.shell) then Some parent else None)

-- What is asked, or the first error, is what the shell answers.
abbrev pub PopupAsked : Type 0
PopupAsked =
    (names : Names) (slots : Slots) (tied : Tied) (kept : ℕ → Option Kept) (r : Resident) (number : ℕ) (k : Kept) (x : XdgSurface)
    (h : History) (object version id parent : ℕ) (positioner : Positioner)
    → IsOwned names slots tied kept r.owned
    → IsXdg names kept r.owned number k x h
    → popup_made r x version id parent positioner
    ≡ asks_by {X = Unit {0}} (λ u. GetPopup id version x.id parent positioner) (shell_refusal x.base x.id object)
    (popup_answer (is_no_popup (role_of r x.surface)) (is_some (parent_id kept (names.shell parent))) positioner (kept number))

-- Where it isn't refused there is no role object yet, the surface has no other role, and the parent is one.
abbrev pub PopupAccepted : Type 0
PopupAccepted =
    (names : Names) (slots : Slots) (tied : Tied) (kept : ℕ → Option Kept) (o : Owned) (number : ℕ) (k : Kept) (x : XdgSurface)
    (h : History) (parent : ℕ) (other : Bool) (positioner : Positioner)
    → IsOwned names slots tied kept o
    → IsXdg names kept o number k x h
    → popup_answer other (is_some (parent_id kept (names.shell parent))) positioner (kept number) ≡ Ok tt
    → (x.role ≡ None) × (other ≡ false) × (parent_id kept (names.shell parent) ≡ Some parent)

-- The new popup has the count of the client's requests as its number.
abbrev pub PopupMade : Type 0
PopupMade =
    (names : Names) (slots : Slots) (tied : Tied) (kept : ℕ → Option Kept) (r : Resident) (number : ℕ) (k : Kept) (x : XdgSurface)
    (h : History) (c id version parent : ℕ) (positioner : Positioner) (d : Desktop) (new : Slots) (after : ℕ → Option Kept) (now : Names)
    → IsOwned names slots tied kept r.owned
    → IsXdg names kept r.owned number k x h
    → x.role ≡ None
    → names.toplevels id ≡ None
    → Changes slots new number (with_role AsPopup)
    → after ≡ changing number (kept_popup id parent positioner r.peer.requests) kept
    → now ≡ with_toplevel id (Some number) names
    → IsOwned now new tied after (changed_for c (GetPopup id version x.id parent positioner) r d).owned

pub record PopupsCome : Type 0 where
  pub parent : ParentRead
  pub asked : PopupAsked
  pub accepted : PopupAccepted
  pub made : PopupMade

-- ---- xdg_popup.destroy

abbrev pub EndAsked : Type 0
EndAsked =
    (names : Names) (slots : Slots) (tied : Tied) (book : Book) (r : Resident) (number : ℕ) (k : Kept) (x : XdgSurface) (h : History)
    (object : ℕ)
    → AreFound book
    → IsOwned names slots tied (kept_of book) r.owned
    → IsXdg names (kept_of book) r.owned number k x h
    → popup_destroyed r object x
    ≡ asks_by {X = Unit {0}} (λ u. EndPopup object x.id) (shell_refusal x.base x.id object)
    (popup_destruction (has_child book (kept_of book number)))

abbrev pub PopupGone : Type 0
PopupGone =
    (names : Names) (slots : Slots) (tied : Tied) (kept : ℕ → Option Kept) (r : Resident) (number : ℕ) (k : Kept) (x : XdgSurface)
    (h : History) (c id : ℕ) (d : Desktop) (after : ℕ → Option Kept) (now : Names)
    → IsOwned names slots tied kept r.owned
    → IsXdg names kept r.owned number k x h
    → is_role id x.role ≡ true
    → after ≡ changing number kept_without_role kept
    → now ≡ with_toplevel id None names
    → IsOwned now slots tied after (changed_for c (EndPopup id x.id) r d).owned

pub record PopupsGo : Type 0 where
  pub asked : EndAsked
  pub gone : PopupGone

-- ---- popups are dismissed, one after another

-- The popup whose surface has this number goes next, and its object is that of what is kept.
pub record IsNext (names : Names) (kept : ℕ → Option Kept) (is : Popped → Bool) (shell : Shell) (gone : ℕ) (p : Popped) : Type 0 where
  pub surface : names.surfaces p.xdg.surface ≡ Some gone
  pub object : option_and_then (λ k. option_map (λ object. object.id) k.role) (kept gone) ≡ Some p.object.id
  pub next : IsNextToGo is shell p.xdg.surface p

-- or all of them went
abbrev pub NextIs : Names → (ℕ → Option Kept) → (Popped → Bool) → Shell → Option ℕ → Type 0
NextIs names kept is shell None = (undismissed is shell ≡ []) × (dismissing is shell ≡ shell)
NextIs names kept is shell (Some gone) = (p : Popped) × IsNext names kept is shell gone p

-- What the shell dismisses next with an xdg_surface is what goes next with it.
abbrev pub NextDismissed : Type 0
NextDismissed =
    (names : Names) (slots : Slots) (tied : Tied) (book : Book) (o : Owned) (xdg number : ℕ) (result : Option ℕ)
    → AreFound book
    → IsOwned names slots tied (kept_of book) o
    → HasOrder o.shell
    → names.shell xdg ≡ Some number
    → IsNewest (dismissible_under book (kept_of book number)) (kept_of book) result
    → NextIs names (kept_of book) (goes_with (has_popup_at xdg o.shell) xdg) o.shell result

-- What is kept stands for what is left then.
abbrev pub PopupDismissed : Type 0
PopupDismissed =
    (names : Names) (slots : Slots) (tied : Tied) (kept : ℕ → Option Kept) (o : Owned) (gone : ℕ) (p : Popped) (after : ℕ → Option Kept)
    → IsOwned names slots tied kept o
    → IsOnly o.shell p.xdg.surface p
    → names.surfaces p.xdg.surface ≡ Some gone
    → after ≡ changing gone (kept_changed dismiss) kept
    → IsOwned names slots tied after (record o { shell = with_dismissed p.xdg.id o.shell })

-- Of a client's popups these were dismissed one after another, and these xdg_surfaces are left.
pub record WereDismissed (is : Popped → Bool) (shell : Shell) (gone : List Popped) (left : Shell) : Type 0 where
  pub order : undismissed is shell ≡ gone ++ undismissed is left
  pub rest : dismissing is left ≡ dismissing is shell
  pub has_order : HasOrder left
  pub popups : (xdg : ℕ) → has_popup_at xdg left ≡ has_popup_at xdg shell

pub record DismissalsGoOn : Type 0 where
  pub begin : (is : Popped → Bool) (shell : Shell) → HasOrder shell → WereDismissed is shell [] shell
  pub next :
      (is : Popped → Bool) (shell left : Shell) (gone : List Popped) (surface : ℕ) (p : Popped) → WereDismissed is shell gone left
      → IsNextToGo is left surface p → WereDismissed is shell (gone ++ p ∷ []) (with_dismissed p.xdg.id left)
  pub end :
      (is : Popped → Bool) (shell left : Shell) (gone : List Popped) → WereDismissed is shell gone left → undismissed is left ≡ []
      → dismissing is left ≡ left → (undismissed is shell ≡ gone) × (dismissing is shell ≡ left)

-- xdg_popup.popup_done
abbrev pub done_told : Popped → Said
done_told p = said p.object.id (says XdgPopup 1 [])

-- A grab that is refused tells each of those that go with its popup, and one that is taken none.
abbrev pub grab_done : Bool → ℕ → Shell → List Said
grab_done true xdg shell = []
grab_done false xdg shell = map done_told (undismissed (goes_with true xdg) shell)

abbrev pub GrabTellsDone : Type 0
GrabTellsDone =
    (names : Names) (slots : Slots) (tied : Tied) (kept : ℕ → Option Kept) (r : Resident) (c xdg serial : ℕ) (d : Desktop)
    → IsOwned names slots tied kept r.owned
    → popups_done r (changed_for c (Grab xdg serial) r d) ≡ grab_done (grab_allowed c xdg serial r d) xdg r.owned.shell

-- The end of a toplevel tells each of those on it, and those that descend from them.
abbrev pub EndTellsDone : Type 0
EndTellsDone =
    (names : Names) (slots : Slots) (tied : Tied) (kept : ℕ → Option Kept) (r : Resident) (c id xdg surface : ℕ) (d : Desktop)
    → IsOwned names slots tied kept r.owned
    → has_popup_at xdg r.owned.shell ≡ false
    → popups_done r (changed_for c (EndToplevel id xdg surface) r d) ≡ map done_told (undismissed (goes_with false xdg) r.owned.shell)

-- So what was dismissed one after another is what is demanded at once, and they are told in that order.
abbrev pub GrabDismisses : Type 0
GrabDismisses =
    (names : Names) (slots : Slots) (tied : Tied) (kept : ℕ → Option Kept) (r : Resident) (c xdg serial : ℕ) (d : Desktop)
    (gone : List Popped) (left : Shell)
    → IsOwned names slots tied kept r.owned
    → grab_allowed c xdg serial r d ≡ false
    → WereDismissed (goes_with true xdg) r.owned.shell gone left
    → undismissed (goes_with true xdg) left ≡ []
    → dismissing (goes_with true xdg) left ≡ left
    → ((changed_for c (Grab xdg serial) r d).owned ≡ record r.owned { shell = left })
    × (popups_done r (changed_for c (Grab xdg serial) r d) ≡ map done_told gone)

abbrev pub EndDismisses : Type 0
EndDismisses =
    (names : Names) (slots : Slots) (tied : Tied) (kept : ℕ → Option Kept) (r : Resident) (c id xdg surface : ℕ) (d : Desktop)
    (gone : List Popped) (left : Shell)
    → IsOwned names slots tied kept r.owned
    → has_popup_at xdg r.owned.shell ≡ false
    → WereDismissed (goes_with false xdg) r.owned.shell gone left
    → undismissed (goes_with false xdg) left ≡ []
    → dismissing (goes_with false xdg) left ≡ left
    → (dismissing (λ p. is_parent_of xdg p.popup) r.owned.shell ≡ left)
    × (popups_done r (changed_for c (EndToplevel id xdg surface) r d) ≡ map done_told gone)

pub record PopupsAreDismissed : Type 0 where
  pub next : NextDismissed
  pub dismissed : PopupDismissed
  pub on : DismissalsGoOn
  pub grab : GrabTellsDone
  pub end : EndTellsDone
  pub grab_dismisses : GrabDismisses
  pub end_dismisses : EndDismisses

-- ---- xdg_toplevel.destroy

-- The popups on a toplevel that goes have no parent any more.
abbrev pub PopupsOrphaned : Type 0
PopupsOrphaned =
    (names : Names) (slots : Slots) (tied : Tied) (kept : ℕ → Option Kept) (o : Owned) (xdg number : ℕ) (after : ℕ → Option Kept)
    → IsOwned names slots tied kept o
    → names.shell xdg ≡ Some number
    → after ≡ orphaned (kept number) kept
    → IsOwned names slots tied after (record o { shell = orphaning xdg o.shell })

-- It goes once they were dismissed and have no parent.
abbrev pub ToplevelGone : Type 0
ToplevelGone =
    (names : Names) (slots : Slots) (tied : Tied) (kept : ℕ → Option Kept) (r : Resident) (c id xdg surface number : ℕ) (d : Desktop)
    (after : ℕ → Option Kept) (now : Names)
    → IsOwned names slots tied kept
    (record r.owned { shell = orphaning xdg (dismissing (λ p. is_parent_of xdg p.popup) r.owned.shell) })
    → names.shell xdg ≡ Some number
    → names.toplevels id ≡ Some number
    → after ≡ changing number kept_without_role kept
    → now ≡ with_toplevel id None names
    → IsOwned now slots tied after (changed_for c (EndToplevel id xdg surface) r d).owned

pub record ToplevelsGo : Type 0 where
  pub orphaned : PopupsOrphaned
  pub gone : ToplevelGone

-- ---- wl_surface.commit

abbrev pub corner_of : Place → ℤ × ℤ
corner_of place = (place.x, place.y)

-- the popup of a surface, if it has one
abbrev pub popup_of_surface : ℕ → Shell → Option Popup
popup_of_surface surface shell = option_and_then (λ x. popup_in x.role) (xdg_of surface shell)

-- the popup with this id, if there is one
abbrev pub popup_with : ℕ → Shell → Option Popup
popup_with id shell = option_and_then (λ x. popup_in x.role) (xdg_with id shell)

-- the window geometry of the parent of a popup stands there
abbrev pub IsAtParentOf : Option Popup → ℤ × ℤ → ℕ → Resident → Desktop → Type 0
IsAtParentOf popup at c r d = IfSome popup (λ popup. at ≡ corner_of (parent_corner d.standing c r.owned popup.parent))

abbrev pub IsAtParent : ℤ × ℤ → ℕ → ℕ → Resident → Desktop → Type 0
IsAtParent at c surface r d = IsAtParentOf (popup_of_surface surface r.owned.shell) at c r d

abbrev pub Committed : Type 0
Committed =
    (names : Names) (slots : Slots) (tied : Tied) (kept : ℕ → Option Kept) (r : Resident) (c id number : ℕ) (bounds : Rect) (at : ℤ × ℤ)
    (act : ShellAct) (d : Desktop) (new : Slots) (tying : Tied) (after : ℕ → Option Kept)
    → IsOwned names slots tied kept r.owned
    → AreOnceLinked r.owned.surfaces.links
    → AreNumbered r.owned.surfaces.links
    → ((surface : ℕ) → is_some (xdg_of surface r.owned.shell) ≡ true → IsNoChild surface r.owned.surfaces)
    → names.surfaces id ≡ Some number
    → Makes slots tied new tying (committed_in number)
    → bounds ≡ output_rect d.output
    → IsAtParent at c id r d
    → commit_answer (will_show r id) bounds at (kept number) ≡ Ok act
    → after ≡ changing number (kept_after r.peer.serial act) kept
    → IsOwned names new tying after (changed_for c (CommitTree id) r d).owned

-- A role object is configured, a popup with its place, and then its xdg_surface.
abbrev pub role_told : Option Placed → ℕ → Kind → List Said
role_told placed id Toplevel = toplevel_configured id ∷ []
role_told placed id (IsPopup popup) = popup_told id placed

abbrev pub object_told : Option Placed → ℕ → ℕ → Option RoleObject → List Said
object_told placed serial xdg None = []
object_told placed serial xdg (Some object) = role_told placed object.id object.kind ++ xdg_configured xdg serial ∷ []

abbrev pub act_told : ShellAct → ℕ → Option Kept → List Said
act_told (Configure placed) serial (Some k) = object_told placed serial k.id k.role
act_told act serial k = []

abbrev pub CommitTold : Type 0
CommitTold =
    (names : Names) (slots : Slots) (tied : Tied) (kept : ℕ → Option Kept) (r : Resident) (c id number : ℕ) (bounds : Rect) (at : ℤ × ℤ)
    (act : ShellAct) (d : Desktop) (windows : List Window) (after : ℕ → Option Kept)
    → IsOwned names slots tied kept r.owned
    → names.surfaces id ≡ Some number
    → bounds ≡ output_rect d.output
    → IsAtParent at c id r d
    → commit_answer (will_show r id) bounds at (kept number) ≡ Ok act
    → after ≡ changing number (kept_after r.peer.serial act) kept
    → own_answers c (CommitTree id) r windows d ≡ act_told act r.peer.serial (after number)

pub record PopupsCommit : Type 0 where
  pub committed : Committed
  pub told : CommitTold

-- ---- xdg_popup.reposition

-- What is asked, or the first error, is what the shell answers.
abbrev pub RepositionAsked : Type 0
RepositionAsked =
    (names : Names) (kept : ℕ → Option Kept) (o : Owned) (number : ℕ) (k : Kept) (x : XdgSurface) (h : History) (object token : ℕ)
    (p : Popped) (positioner : Positioner) (bounds : Rect) (at : ℤ × ℤ)
    → IsXdg names kept o number k x h
    → popup_at x.id o.shell ≡ Some p
    → repositioned_by x token positioner (popup_at x.id o.shell)
    ≡ asks_by (λ (placed : Option Placed). Reposition x.id token positioner) (shell_refusal x.base x.id object)
    (reposition_answer positioner bounds at (kept number))

-- Its popup has the copy. One that was configured before waits to be placed where the shell answers.
abbrev pub Repositioned : Type 0
Repositioned =
    (names : Names) (slots : Slots) (tied : Tied) (kept : ℕ → Option Kept) (r : Resident) (number : ℕ) (k : Kept) (x : XdgSurface)
    (h : History) (c token : ℕ) (p : Popped) (positioner : Positioner) (bounds : Rect) (at : ℤ × ℤ) (placed : Option Placed) (d : Desktop)
    (after : ℕ → Option Kept)
    → IsOwned names slots tied kept r.owned
    → IsXdg names kept r.owned number k x h
    → popup_at x.id r.owned.shell ≡ Some p
    → bounds ≡ output_rect d.output
    → IsAtParentOf (Some p.popup) at c r d
    → reposition_answer positioner bounds at (kept number) ≡ Ok placed
    → after ≡ changing number (kept_repositioning placed r.peer.serial positioner) kept
    → IsOwned names slots tied after (changed_for c (Reposition x.id token positioner) r d).owned

-- It is told of that with the token, and then its xdg_surface is configured; of one that isn't placed anew nothing is told.
abbrev pub anew_told : Option Placed → ℕ → ℕ → ℕ → ℕ → List Said
anew_told None token serial popup xdg = []
anew_told (Some placed) token serial popup xdg =
    said popup (says XdgPopup 2 (Word token ∷ [])) ∷ popup_configured popup placed ∷ xdg_configured xdg serial ∷ []

-- Where it is told the next serial is drawn.
abbrev pub RepositionTold : Type 0
RepositionTold =
    (names : Names) (kept : ℕ → Option Kept) (r : Resident) (number : ℕ) (k : Kept) (x : XdgSurface) (h : History) (c token : ℕ)
    (p : Popped) (positioner : Positioner) (bounds : Rect) (at : ℤ × ℤ) (placed : Option Placed) (d : Desktop) (windows : List Window)
    → IsXdg names kept r.owned number k x h
    → popup_at x.id r.owned.shell ≡ Some p
    → bounds ≡ output_rect d.output
    → IsAtParentOf (Some p.popup) at c r d
    → reposition_answer positioner bounds at (kept number) ≡ Ok placed
    → (own_answers c (Reposition x.id token positioner) r windows d ≡ anew_told placed token r.peer.serial p.object.id x.id)
    × ((changed_for c (Reposition x.id token positioner) r d).peer ≡ (drawing (is_some placed) r).peer)

pub record PopupsAnew : Type 0 where
  pub asked : RepositionAsked
  pub repositioned : Repositioned
  pub told : RepositionTold

-- ---- xdg_popup.grab

-- One that was dismissed does nothing.
abbrev pub grab_demand : ℕ → XdgSurface → Popped → Demand
grab_demand serial x p = if p.popup.is_dismissed then Asks Ignore else Grab x.id serial

abbrev pub GrabAsked : Type 0
GrabAsked =
    (names : Names) (kept : ℕ → Option Kept) (o : Owned) (number : ℕ) (k : Kept) (x : XdgSurface) (h : History) (object serial : ℕ)
    (p : Popped) (allowed : Bool)
    → IsXdg names kept o number k x h
    → popup_at x.id o.shell ≡ Some p
    → grab_of object serial x (popup_at x.id o.shell)
    ≡ asks_by (λ taken. grab_demand serial x p) (shell_refusal x.base x.id object) (grab_answer allowed (kept number))

-- It is allowed where the parent allows it, by the serial, and no other client holds one.
abbrev pub GrabAllowed : Type 0
GrabAllowed =
    (names : Names) (slots : Slots) (tied : Tied) (book : Book) (r : Resident) (number : ℕ) (k : Kept) (x : XdgSurface) (h : History)
    (c serial : ℕ) (d : Desktop)
    → AreFound book
    → IsOwned names slots tied (kept_of book) r.owned
    → IsXdg names (kept_of book) r.owned number k x h
    → (parent_allows book (kept_of book number) && (is_latest serial r && not (is_held_elsewhere c (grab_holder d))))
    ≡ grab_allowed c x.id serial r d

-- taken, or nothing is done
abbrev pub GrabTaken : Type 0
GrabTaken =
    (names : Names) (slots : Slots) (tied : Tied) (kept : ℕ → Option Kept) (r : Resident) (number : ℕ) (k : Kept) (x : XdgSurface)
    (h : History) (c serial : ℕ) (p : Popped) (d : Desktop) (after : ℕ → Option Kept)
    → IsOwned names slots tied kept r.owned
    → IsXdg names kept r.owned number k x h
    → popup_at x.id r.owned.shell ≡ Some p
    → grab_answer (grab_allowed c x.id serial r d) (kept number) ≡ Ok true
    → after ≡ changing number (kept_grabbing true) kept
    → IsOwned names slots tied after (changed_for c (grab_demand serial x p) r d).owned

-- refused: it is to be dismissed
abbrev pub GrabRefused : Type 0
GrabRefused =
    (names : Names) (kept : ℕ → Option Kept) (o : Owned) (number : ℕ) (k : Kept) (x : XdgSurface) (h : History) (serial : ℕ) (p : Popped)
    (allowed : Bool)
    → IsXdg names kept o number k x h
    → popup_at x.id o.shell ≡ Some p
    → grab_answer allowed (kept number) ≡ Ok false
    → (grab_demand serial x p ≡ Grab x.id serial) × (allowed ≡ false) × (has_popup_at x.id o.shell ≡ true)

pub record PopupsGrab : Type 0 where
  pub asked : GrabAsked
  pub allowed : GrabAllowed
  pub taken : GrabTaken
  pub refused : GrabRefused

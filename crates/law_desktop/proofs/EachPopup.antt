-- What is said of each popup of a client stays said of them, whatever is demanded.
use Rattle.std.proofs.Common.{◌≡◌, ℕ, Bool, true, false, List, [], ◌∷◌, Option, Some, None, cond, refl, map}
use Rattle.std.specs.Prelude.{◌==◌, not}
use Rattle.std.specs.Option.{option_map}
use Rattle.wl_shell.specs.Popups.{Popped, dismiss, dismissed_among, dismissed_with, dismissing, is_among, is_parent_of, orphan, orphaning, placing, popup_changed, with_effect, with_grab}
use Rattle.wl_shell.specs.Popups.{with_popup, with_popup_role, arrive, arriving, copying, is_configured, popup_at, repositioning, unmapped, waiting_in}
use Rattle.wl_shell.specs.Positioner.{Placed, Positioner}
use Rattle.wl_shell.specs.declared.stage.Stage.{Stage}
use Rattle.wl_shell.specs.Shell.{Effect, Stays, Unconfigured, Configures, Maps, Unmaps, Fresh, Waiting, Mapped, Kind, Toplevel, IsPopup, Popup, RoleObject, Shell, XdgSurface as Xdg}
use Rattle.wl_shell.specs.Shell.{acknowledging, at_stage, configuring, in_stage, new_toplevel, role_acknowledged, unmapping, with_change, with_new, without_role, without_xdg, xdg_at, xdg_of}
use Rattle.wl_shell.specs.Shell.{Configure, awaiting, latest_placement, up_to}
use Rattle.spec_desktop.specs.Ask.{Ask, GetXdgSurface, DestroyXdgSurface, GetToplevel, Acknowledge, ConfigureAgain}
use Rattle.spec_desktop.specs.Changing.{Placing, changed_for, drawing, effect_placing, grab_allowed, grabbed, has_focus, in_rising_order, is_configure, mode_set, placement_now, popup_given_to, tree_committed}
use Rattle.spec_desktop.specs.Changing.{popup_repositioned}
use Rattle.spec_desktop.specs.Demand.{Demand, Asks, CommitTree, SetMode, GetPointer, Reposition}
use Rattle.spec_desktop.specs.Demand.{GetPopup, Grab, EndPopup, EndToplevel}
use Rattle.spec_desktop.specs.Demanding.{effect_of_commit}
use Rattle.spec_desktop.specs.Desktop.{Desktop, Resident}
use Rattle.law_desktop.specs.InOrder.{may_dismiss}
use Rattle.spec_desktop.specs.Step.{asked_so_far, changed_by, toplevel_given, xdg_changed}

-- `P` is said of a popup and of the id of its role object; of one that is a toplevel nothing is
abbrev pub OfKind : (ℕ → Popup → Type 0) → ℕ → Kind → Type 0
OfKind P id Toplevel = Unit {0}
OfKind P id (IsPopup popup) = P id popup

abbrev pub OfRole : (ℕ → Popup → Type 0) → Option RoleObject → Type 0
OfRole P None = Unit {0}
OfRole P (Some object) = OfKind P object.id object.kind

-- it is said of each popup of these
abbrev pub OfEach : (ℕ → Popup → Type 0) → Shell → Type 0
OfEach P [] = Unit {0}
OfEach P (x ∷ xs) = OfRole P x.role × OfEach P xs

-- it goes by nothing that changes of a popup, but for a grab that it is given, and that it is dismissed
pub record IsSteadyOf (P : ℕ → Popup → Type 0) : Type 0 where
  pub placed : (positioner : Positioner) (placement waiting : Option Placed) (id : ℕ) (p : Popup) → P id p
      → P id (record p { positioner = positioner; placement = placement; waiting = waiting })
  pub ungrabbed : (id : ℕ) (p : Popup) → P id p → P id (record p { has_grab = false })
  pub orphaned : (xdg id : ℕ) (p : Popup) → P id p → P id (orphan xdg p)

-- the popup that is made
abbrev pub popup_of : ℕ → Positioner → ℕ → Popup
popup_of parent positioner number =
    record { parent = Some parent; positioner = positioner; placement = None; waiting = None; is_dismissed = false; has_grab = false; number = number }

module _ (P : ℕ → Popup → Type 0) where
  -- ---- one xdg_surface

  role-popup : (change : Popup → Popup) → ((id : ℕ) (p : Popup) → P id p → P id (change p)) → (o : Option RoleObject) → OfRole P o → OfRole P (option_map (with_popup_role change) o)
  role-popup change keeps None of = tt
  role-popup change keeps (Some object) of = at object.kind of
    where
      at : (k : Kind) → OfKind P object.id k → OfKind P object.id (with_popup change k)
      at Toplevel of = tt
      at (IsPopup popup) of = keeps object.id popup of

  role-stage : (stage : Stage) (o : Option RoleObject) → OfRole P o → OfRole P (option_map (at_stage stage) o)
  role-stage stage None of = tt
  role-stage stage (Some object) of = of

  -- the latest placement of these configures waits
  role-acknowledged : ((waiting : Option Placed) (id : ℕ) (p : Popup) → P id p → P id (record p { waiting = waiting })) → (configures : List Configure) (o : Option RoleObject)
      → OfRole P o → OfRole P (option_map (role_acknowledged configures) o)
  role-acknowledged keeps configures None of = tt
  role-acknowledged keeps configures (Some object) of = at object.kind of
    where
      at : (k : Kind) → OfKind P object.id k → OfKind P object.id (awaiting configures k)
      at Toplevel of = tt
      at (IsPopup popup) of = keeps (latest_placement popup.waiting configures) object.id popup of

  abbrev Keeps : (Xdg → Xdg) → Type 0
  Keeps f = (x : Xdg) → OfRole P x.role → OfRole P (f x).role

  -- ---- all of them

  of-map : (f : Xdg → Xdg) → Keeps f → (xs : Shell) → OfEach P xs → OfEach P (map f xs)
  of-map f keeps [] of = tt
  of-map f keeps (x ∷ xs) of = (keeps x of.0, of-map f keeps xs of.1)

  cond-keeps : (b : Bool) (f : Xdg → Xdg) → Keeps f → Keeps (λ x. cond b (f x) x)
  cond-keeps true f keeps x of = keeps x of
  cond-keeps false f keeps x of = of

  of-change : (id : ℕ) (f : Xdg → Xdg) → Keeps f → (xs : Shell) → OfEach P xs → OfEach P (with_change id f xs)
  of-change id f keeps xs of = of-map (λ x. cond (x.id == id) (f x) x) (λ x k. cond-keeps (x.id == id) f keeps x k) xs of

  of-new : (id base surface : ℕ) (xs : Shell) → OfEach P xs → OfEach P (with_new id base surface xs)
  of-new id base surface [] of = (tt, tt)
  of-new id base surface (x ∷ xs) of = (of.0, of-new id base surface xs of.1)

  of-without : (id : ℕ) (xs : Shell) → OfEach P xs → OfEach P (without_xdg id xs)
  of-without id [] of = tt
  of-without id (x ∷ xs) of = at (x.id == id) (of-without id xs of.1)
    where
      at : (b : Bool) → OfEach P (without_xdg id xs) → OfEach P (cond (not b) (x ∷ without_xdg id xs) (without_xdg id xs))
      at true later = later
      at false later = (of.0, later)

  -- ---- what is demanded

  module _ (steady : IsSteadyOf P) where
    waits : (waiting : Option Placed) (id : ℕ) (p : Popup) → P id p → P id (record p { waiting = waiting })
    waits waiting id p of = steady.placed p.positioner p.placement waiting id p of

    -- a placement that waits comes into force
    arrived-keeps : Keeps (λ x. arriving (waiting_in x.role) x)
    arrived-keeps x of = at (waiting_in x.role)
      where
        at : (o : Option Placed) → OfRole P (arriving o x).role
        at None = of
        at (Some placed) = role-popup (arrive placed) (λ id p k. steady.placed p.positioner (Some placed) None id p k) x.role of

    unmapped-keeps : (id : ℕ) (p : Popup) → P id p → P id (unmapped p)
    unmapped-keeps id p of = waits None id (record p { has_grab = false }) (steady.ungrabbed id p of)

    repositioned-keeps : (b : Bool) (serial : ℕ) (placement : Option Placed) (positioner : Positioner) → Keeps (repositioning b serial placement positioner)
    repositioned-keeps true serial placement positioner x of = role-popup (copying positioner) (λ id p k. steady.placed positioner p.placement p.waiting id p k) x.role of
    repositioned-keeps false serial placement positioner x of = role-popup (copying positioner) (λ id p k. steady.placed positioner p.placement p.waiting id p k) x.role of

    effect-keeps : (serial since : ℕ) (where_to : Popup → Option Placed) (effect : Effect) → Keeps (with_effect serial since where_to effect)
    effect-keeps serial since where_to Stays x of = arrived-keeps x of
    effect-keeps serial since where_to Unconfigured x of = of
    effect-keeps serial since where_to Configures x of = role-popup (placing where_to) (λ id p k. steady.placed p.positioner (where_to p) p.waiting id p k) (in_stage Waiting x).role (role-stage Waiting x.role of)
    effect-keeps serial since where_to Maps x of = role-stage Mapped (arriving (waiting_in x.role) x).role (arrived-keeps x of)
    effect-keeps serial since where_to Unmaps x of = role-popup unmapped unmapped-keeps (unmapping since x).role (role-stage Fresh x.role of)

    abbrev KeptDismissed : Type 0
    KeptDismissed = (id : ℕ) (p : Popup) → P id p → P id (dismiss p)

    dismissed-keeps : KeptDismissed → (ids : List ℕ) → Keeps (dismissed_among ids)
    dismissed-keeps keeps ids x of = cond-keeps (is_among x.id ids) (popup_changed dismiss) (λ y k. role-popup dismiss keeps y.role k) x of

    of-dismissing : KeptDismissed → (is : Popped → Bool) (xs : Shell) → OfEach P xs → OfEach P (dismissing is xs)
    of-dismissing keeps is xs of = of-map (dismissed_among (dismissed_with is xs)) (dismissed-keeps keeps (dismissed_with is xs)) xs of

    of-orphaning : (xdg : ℕ) (xs : Shell) → OfEach P xs → OfEach P (orphaning xdg xs)
    of-orphaning xdg xs of = of-map (popup_changed (orphan xdg)) (λ x k. role-popup (orphan xdg) (steady.orphaned xdg) x.role k) xs of

    of-drawn : (b : Bool) (r : Resident) → OfEach P r.owned.shell → OfEach P (drawing b r).owned.shell
    of-drawn true r of = of
    of-drawn false r of = of

    of-effect : (where_to : Placing) (id : ℕ) (effect : Effect) (o : Option Xdg) (r : Resident) → OfEach P r.owned.shell → OfEach P (effect_placing where_to id effect o r).owned.shell
    of-effect where_to id effect None r of = of
    of-effect where_to id effect (Some x) r of =
        let step = with_effect r.peer.serial (asked_so_far id r) where_to effect in
        of-drawn (is_configure effect) (xdg_changed x.id step r) (of-change x.id step (effect-keeps r.peer.serial (asked_so_far id r) where_to effect) r.owned.shell of)

    of-toplevel : (id xdg : ℕ) (o : Option Xdg) (r : Resident) → OfEach P r.owned.shell → OfEach P (toplevel_given id xdg o r).owned.shell
    of-toplevel id xdg None r of = of
    of-toplevel id xdg (Some x) r of = of-change xdg (new_toplevel id _) (λ y k. tt) r.owned.shell of

    of-asked : (ask : Ask) (r : Resident) → OfEach P r.owned.shell → OfEach P (changed_by ask r).owned.shell
    of-asked (GetXdgSurface id version base surface) r of = of-new id base surface r.owned.shell of
    of-asked (DestroyXdgSurface id) r of = of-without id r.owned.shell of
    of-asked (GetToplevel id version xdg) r of = of-toplevel id xdg (xdg_at xdg r.owned.shell) r of
    of-asked (Acknowledge xdg serial) r of = of-change xdg (acknowledging serial) (λ x k. role-acknowledged waits (up_to serial x.configures) x.role k) r.owned.shell of
    of-asked (ConfigureAgain xdg) r of = of-change xdg (configuring r.peer.serial) (λ x k. k) r.owned.shell of
    of-asked ask r of = of

    of-mode : (link : ℕ) (b : Bool) (r : Resident) → OfEach P r.owned.shell → OfEach P (mode_set link b r).owned.shell
    of-mode link true r of = of
    of-mode link false r of = of

    of-popup : (id xdg parent : ℕ) (positioner : Positioner) (o : Option Xdg) (r : Resident) → P id (popup_of parent positioner r.peer.requests) → OfEach P r.owned.shell
        → OfEach P (popup_given_to id xdg parent positioner o r).owned.shell
    of-popup id xdg parent positioner None r new of = of
    of-popup id xdg parent positioner (Some x) r new of = of-change xdg _ (λ y k. new) r.owned.shell of

    of-repositioned : (where_to : Placing) (p : Positioner) (o : Option Popped) (r : Resident) → OfEach P r.owned.shell → OfEach P (popup_repositioned where_to p o r).owned.shell
    of-repositioned where_to p None r of = of
    of-repositioned where_to p (Some q) r of =
        let step = repositioning (is_configured q) r.peer.serial (where_to (copying p q.popup)) p in
        of-drawn (is_configured q) (xdg_changed q.xdg.id step r)
        (of-change q.xdg.id step (repositioned-keeps (is_configured q) r.peer.serial (where_to (copying p q.popup)) p) r.owned.shell of)

    of-grabbed : KeptDismissed → (b : Bool) (xdg : ℕ) (r : Resident) → (b ≡ true → (id : ℕ) (p : Popup) → P id p → P id (with_grab p)) → OfEach P r.owned.shell
        → OfEach P (grabbed b xdg r).owned.shell
    of-grabbed keeps true xdg r grabs of = of-change xdg (popup_changed with_grab) (λ x k. role-popup with_grab (grabs refl) x.role k) r.owned.shell of
    of-grabbed keeps false xdg r grabs of = of-dismissing keeps (λ p. p.xdg.id == xdg) r.owned.shell of

    -- whatever is demanded, where it is said of a new popup, of one that is given a grab, and of one that is dismissed, if any may be
    pub each-stays :
        (c : ℕ) (demand : Demand) (r : Resident) (d : Desktop) → ((id parent : ℕ) (positioner : Positioner) → P id (popup_of parent positioner r.peer.requests))
        → ((xdg serial : ℕ) → grab_allowed c xdg serial r d ≡ true → (id : ℕ) (p : Popup) → P id p → P id (with_grab p))
        → (may_dismiss demand ≡ true → KeptDismissed) → OfEach P r.owned.shell → OfEach P (changed_for c demand r d).owned.shell
    each-stays c (Asks ask) r d new grabs gone of = of-asked ask r of
    each-stays c (CommitTree surface) r d new grabs gone of =
        of-effect (placement_now c r d) surface (effect_of_commit r surface) (xdg_of surface r.owned.shell) (tree_committed surface r) of
    each-stays c (SetMode link synchronised) r d new grabs gone of = of-mode link synchronised r of
    each-stays c (GetPointer id version) r d new grabs gone of =
        of-drawn (has_focus c d.pointer.focus) (record r { pointers = in_rising_order id r.pointers }) of
    each-stays c (GetPopup id version xdg parent p) r d new grabs gone of = of-popup id xdg parent p (xdg_at xdg r.owned.shell) r (new id parent p) of
    each-stays c (Reposition xdg token p) r d new grabs gone of = of-repositioned (placement_now c r d) p (popup_at xdg r.owned.shell) r of
    each-stays c (Grab xdg serial) r d new grabs gone of = of-grabbed (gone refl) (grab_allowed c xdg serial r d) xdg r (grabs xdg serial) of
    each-stays c (EndPopup id xdg) r d new grabs gone of = of-change xdg without_role (λ x k. tt) r.owned.shell of
    each-stays c (EndToplevel id xdg top) r d new grabs gone of =
        of-change xdg without_role (λ x k. tt) (orphaning xdg (dismissing (λ p. is_parent_of xdg p.popup) r.owned.shell))
        (of-orphaning xdg (dismissing (λ p. is_parent_of xdg p.popup) r.owned.shell) (of-dismissing (gone refl) (λ p. is_parent_of xdg p.popup) r.owned.shell of))
    each-stays c demand r d new grabs gone of = of

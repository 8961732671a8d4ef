-- No two popups of a client have one number, and none has one past that of the last request.
use Rattle.std.proofs.Common.{◌≡◌, ◌≤◌, ℕ, ◌+◌, Bool, true, false, List, [], ◌∷◌, Option, Some, None, cond, refl, ap, sym, subst, ◌∙◌, map, arith}
use Rattle.std.specs.Prelude.{◌==◌, ◌||◌, if◌then◌else◌, not}
use Rattle.std.specs.List.{list_any}
use Rattle.std.specs.Option.{option_map}
use Rattle.std.proofs.lemmas.Bool.{eqb-true, false_from_ne_true, or_left, or_right, true≢false}
use Rattle.wl_shell.specs.Popups.{Popped, dismiss, dismissed_among, dismissed_with, dismissing, is_among, is_parent_of, new_popup, orphan, orphaning, placing, popup_changed, with_effect}
use Rattle.wl_shell.specs.Popups.{with_grab, with_popup, with_popup_role, arrive, arriving, copying, is_configured, popup_at, repositioning, unmapped, waiting_in}
use Rattle.wl_shell.specs.Positioner.{Placed, Positioner}
use Rattle.wl_shell.specs.declared.stage.Stage.{Stage}
use Rattle.wl_shell.specs.Shell.{Effect, Stays, Unconfigured, Configures, Maps, Unmaps, Fresh, Waiting, Mapped, Kind, Toplevel, IsPopup, Popup, RoleObject, Shell, XdgSurface as Xdg}
use Rattle.wl_shell.specs.Shell.{acknowledging, at_stage, configuring, in_stage, new_toplevel, role_acknowledged, unmapping, with_change, without_role, xdg_at, xdg_of}
use Rattle.wl_shell.specs.Shell.{Configure, awaiting, up_to}
use Rattle.spec_desktop.specs.Ask.{Ask, GetXdgSurface, DestroyXdgSurface, GetToplevel, Acknowledge, ConfigureAgain}
use Rattle.spec_desktop.specs.Changing.{Placing, changed_for, drawing, effect_placing, grab_allowed, grabbed, has_focus, in_rising_order, is_configure, mode_set, placement_now, popup_given_to, tree_committed}
use Rattle.spec_desktop.specs.Changing.{popup_repositioned}
use Rattle.spec_desktop.specs.Demand.{Demand, Asks, CommitTree, SetMode, GetPointer, Reposition}
use Rattle.spec_desktop.specs.Demand.{GetPopup, Grab, EndPopup, EndToplevel}
use Rattle.spec_desktop.specs.Demanding.{effect_of_commit}
use Rattle.spec_desktop.specs.Desktop.{Desktop, Resident}
use Rattle.spec_desktop.specs.Step.{asked_so_far, changed_by, toplevel_given, xdg_changed}
use Rattle.law_desktop.specs.Apart.{AreApartBy}
use Rattle.law_desktop.proofs.Lists.Keys.{apart-left, changed-apart, new-apart}
use Rattle.law_desktop.proofs.Marks.Stacks.{equal-numbers}
use Rattle.law_desktop.proofs.Soundness.ObjectsKeys.{apart-less}
use Rattle.law_desktop.specs.InOrder.{is_kind_numbered, is_popup_numbered}
use Rattle.law_desktop.proofs.EachPopup.{IsSteadyOf, OfEach, OfKind, OfRole, each-stays}
use Rattle.law_desktop.proofs.Lists.Tests.{find-none}

-- the popup of this number is that of the xdg_surface
abbrev pub has_number : ℕ → Xdg → Bool
has_number number x = is_popup_numbered number x.role

abbrev pub AreNumbered : Shell → Type 0
AreNumbered shell = AreApartBy has_number shell

-- ---- no change brings a number, but that of a new popup

abbrev BringsNone : (Xdg → Xdg) → Type 0
BringsNone f = (key : ℕ) (x : Xdg) → has_number key (f x) ≡ true → has_number key x ≡ true

none-stage : (stage : Stage) (key : ℕ) (o : Option RoleObject) → is_popup_numbered key (option_map (at_stage stage) o) ≡ is_popup_numbered key o
none-stage stage key None = refl
none-stage stage key (Some object) = refl

none-acknowledged : (configures : List Configure) (key : ℕ) (o : Option RoleObject) → is_popup_numbered key (option_map (role_acknowledged configures) o) ≡ is_popup_numbered key o
none-acknowledged configures key None = refl
none-acknowledged configures key (Some object) = at object.kind
  where
    at : (k : Kind) → is_kind_numbered key (awaiting configures k) ≡ is_kind_numbered key k
    at Toplevel = refl
    at (IsPopup popup) = refl

none-popup : (change : Popup → Popup) → ((p : Popup) → (change p).number ≡ p.number) → (key : ℕ) (o : Option RoleObject)
    → is_popup_numbered key (option_map (with_popup_role change) o) ≡ is_popup_numbered key o
none-popup change keeps key None = refl
none-popup change keeps key (Some object) = at object.kind
  where
    at : (k : Kind) → is_kind_numbered key (with_popup change k) ≡ is_kind_numbered key k
    at Toplevel = refl
    at (IsPopup popup) = ap (λ n. n == key) (keeps popup)

orphan-number : (xdg : ℕ) (p : Popup) → (orphan xdg p).number ≡ p.number
orphan-number xdg p = at (is_parent_of xdg p) p
  where
    at : (b : Bool) (p : Popup) → (if b then record p { parent = None } else p).number ≡ p.number
    at true p = refl
    at false p = refl

none-without : BringsNone without_role
none-without key x is = absurd (true≢false (sym is))

none-toplevel : (id since : ℕ) → BringsNone (new_toplevel id since)
none-toplevel id since key x is = absurd (true≢false (sym is))

-- a placement that waits comes into force
none-arriving : (o : Option Placed) (key : ℕ) (x : Xdg) → is_popup_numbered key (arriving o x).role ≡ is_popup_numbered key x.role
none-arriving None key x = refl
none-arriving (Some placed) key x = none-popup (arrive placed) (λ p. refl) key x.role

none-repositioned : (b : Bool) (serial : ℕ) (placement : Option Placed) (positioner : Positioner) → BringsNone (repositioning b serial placement positioner)
none-repositioned true serial placement positioner key x is = sym (none-popup (copying positioner) (λ p. refl) key x.role) ∙ is
none-repositioned false serial placement positioner key x is = sym (none-popup (copying positioner) (λ p. refl) key x.role) ∙ is

none-effect : (serial since : ℕ) (where_to : Popup → Option Placed) (effect : Effect) → BringsNone (with_effect serial since where_to effect)
none-effect serial since where_to Stays key x is = sym (none-arriving (waiting_in x.role) key x) ∙ is
none-effect serial since where_to Unconfigured key x is = is
none-effect serial since where_to Configures key x is =
    sym (none-popup (placing where_to) (λ p. refl) key (in_stage Waiting x).role ∙ none-stage Waiting key x.role) ∙ is
none-effect serial since where_to Maps key x is =
    sym (none-stage Mapped key (arriving (waiting_in x.role) x).role ∙ none-arriving (waiting_in x.role) key x) ∙ is
none-effect serial since where_to Unmaps key x is = sym (none-popup unmapped (λ p. refl) key (unmapping since x).role ∙ none-stage Fresh key x.role) ∙ is

none-if : (b : Bool) (f : Xdg → Xdg) → BringsNone f → BringsNone (λ x. cond b (f x) x)
none-if true f none key x is = none key x is
none-if false f none key x is = is

-- ---- no two have one

apart-mapped : (f : Xdg → Xdg) → BringsNone f → (shell : Shell) → AreNumbered shell → AreNumbered (map f shell)
apart-mapped f none shell apart = apart-less has_number f shell none apart

apart-changed : (id : ℕ) (f : Xdg → Xdg) → BringsNone f → (shell : Shell) → AreNumbered shell → AreNumbered (with_change id f shell)
apart-changed id f none shell apart = apart-mapped (λ x. cond (x.id == id) (f x) x) (λ key x is. none-if (x.id == id) f none key x is) shell apart

apart-dismissed : (is : Popped → Bool) (shell : Shell) → AreNumbered shell → AreNumbered (dismissing is shell)
apart-dismissed is shell apart =
    apart-mapped (dismissed_among ids) (λ key x k. none-if (is_among x.id ids) (popup_changed dismiss) (λ key y k. sym (none-popup dismiss (λ p. refl) key y.role) ∙ k) key x k) shell apart
  where
    ids : List ℕ
    ids = dismissed_with is shell

apart-orphaned : (xdg : ℕ) (shell : Shell) → AreNumbered shell → AreNumbered (orphaning xdg shell)
apart-orphaned xdg shell apart =
    apart-mapped (popup_changed (orphan xdg)) (λ key x k. sym (none-popup (orphan xdg) (orphan-number xdg) key x.role) ∙ k) shell apart

apart-drawn : (b : Bool) (r : Resident) → AreNumbered r.owned.shell → AreNumbered (drawing b r).owned.shell
apart-drawn true r apart = apart
apart-drawn false r apart = apart

apart-effect : (where_to : Placing) (id : ℕ) (effect : Effect) (o : Option Xdg) (r : Resident) → AreNumbered r.owned.shell → AreNumbered (effect_placing where_to id effect o r).owned.shell
apart-effect where_to id effect None r apart = apart
apart-effect where_to id effect (Some x) r apart =
    let step = with_effect r.peer.serial (asked_so_far id r) where_to effect in
    apart-drawn (is_configure effect) (xdg_changed x.id step r) (apart-changed x.id step (none-effect r.peer.serial (asked_so_far id r) where_to effect) r.owned.shell apart)

apart-toplevel : (id xdg : ℕ) (o : Option Xdg) (r : Resident) → AreNumbered r.owned.shell → AreNumbered (toplevel_given id xdg o r).owned.shell
apart-toplevel id xdg None r apart = apart
apart-toplevel id xdg (Some x) r apart = apart-changed xdg (new_toplevel id (asked_so_far x.surface r)) (none-toplevel id (asked_so_far x.surface r)) r.owned.shell apart

apart-asked : (ask : Ask) (r : Resident) → AreNumbered r.owned.shell → AreNumbered (changed_by ask r).owned.shell
apart-asked (GetXdgSurface id version base surface) r apart = new-apart has_number r.owned.shell _ (λ key is. absurd (true≢false (sym is))) apart
apart-asked (DestroyXdgSurface id) r apart = apart-left has_number (λ x. not (x.id == id)) r.owned.shell apart
apart-asked (GetToplevel id version xdg) r apart = apart-toplevel id xdg (xdg_at xdg r.owned.shell) r apart
apart-asked (Acknowledge xdg serial) r apart = apart-changed xdg (acknowledging serial) (λ key x is. sym (none-acknowledged (up_to serial x.configures) key x.role) ∙ is) r.owned.shell apart
apart-asked (ConfigureAgain xdg) r apart = apart-changed xdg (configuring r.peer.serial) (λ key x is. is) r.owned.shell apart
apart-asked ask r apart = apart

apart-mode : (link : ℕ) (b : Bool) (r : Resident) → AreNumbered r.owned.shell → AreNumbered (mode_set link b r).owned.shell
apart-mode link true r apart = apart
apart-mode link false r apart = apart

-- a new popup has a number that none has yet
apart-popup : (id xdg parent : ℕ) (p : Positioner) (o : Option Xdg) (r : Resident) → AreApartBy (λ id x. x.id == id) r.owned.shell → list_any (has_number r.peer.requests) r.owned.shell ≡ false
    → xdg_at xdg r.owned.shell ≡ o → AreNumbered r.owned.shell → AreNumbered (popup_given_to id xdg parent p o r).owned.shell
apart-popup id xdg parent p None r ids none found apart = apart
apart-popup id xdg parent p (Some x) r ids none found apart =
    changed-apart (λ id x. x.id == id) xdg x (new_popup id parent p r.peer.requests _) has_number r.owned.shell ids found apart
    (λ key is. find-none (has_number key) r.owned.shell (ap (λ (n : ℕ). list_any (has_number n) r.owned.shell) (sym (eqb-true r.peer.requests key is)) ∙ none))

apart-repositioned : (where_to : Placing) (p : Positioner) (o : Option Popped) (r : Resident) → AreNumbered r.owned.shell → AreNumbered (popup_repositioned where_to p o r).owned.shell
apart-repositioned where_to p None r apart = apart
apart-repositioned where_to p (Some q) r apart =
    let step = repositioning (is_configured q) r.peer.serial (where_to (copying p q.popup)) p in
    apart-drawn (is_configured q) (xdg_changed q.xdg.id step r)
    (apart-changed q.xdg.id step (none-repositioned (is_configured q) r.peer.serial (where_to (copying p q.popup)) p) r.owned.shell apart)

apart-grabbed : (b : Bool) (xdg : ℕ) (r : Resident) → AreNumbered r.owned.shell → AreNumbered (grabbed b xdg r).owned.shell
apart-grabbed true xdg r apart = apart-changed xdg (popup_changed with_grab) (λ key x is. sym (none-popup with_grab (λ p. refl) key x.role) ∙ is) r.owned.shell apart
apart-grabbed false xdg r apart = apart-dismissed (λ p. p.xdg.id == xdg) r.owned.shell apart

pub demanded-numbers :
    (c : ℕ) (demand : Demand) (r : Resident) (d : Desktop) → AreApartBy (λ id x. x.id == id) r.owned.shell → list_any (has_number r.peer.requests) r.owned.shell ≡ false
    → AreNumbered r.owned.shell → AreNumbered (changed_for c demand r d).owned.shell
demanded-numbers c (Asks ask) r d ids none apart = apart-asked ask r apart
demanded-numbers c (CommitTree surface) r d ids none apart =
    apart-effect (placement_now c r d) surface (effect_of_commit r surface) (xdg_of surface r.owned.shell) (tree_committed surface r) apart
demanded-numbers c (SetMode link synchronised) r d ids none apart = apart-mode link synchronised r apart
demanded-numbers c (GetPointer id version) r d ids none apart = apart-drawn (has_focus c d.pointer.focus) (record r { pointers = in_rising_order id r.pointers }) apart
demanded-numbers c (GetPopup id version xdg parent p) r d ids none apart = apart-popup id xdg parent p (xdg_at xdg r.owned.shell) r ids none refl apart
demanded-numbers c (Reposition xdg token p) r d ids none apart = apart-repositioned (placement_now c r d) p (popup_at xdg r.owned.shell) r apart
demanded-numbers c (Grab xdg serial) r d ids none apart = apart-grabbed (grab_allowed c xdg serial r d) xdg r apart
demanded-numbers c (EndPopup id xdg) r d ids none apart = apart-changed xdg without_role none-without r.owned.shell apart
demanded-numbers c (EndToplevel id xdg top) r d ids none apart =
    apart-changed xdg without_role none-without (orphaning xdg (dismissing (λ p. is_parent_of xdg p.popup) r.owned.shell))
    (apart-orphaned xdg (dismissing (λ p. is_parent_of xdg p.popup) r.owned.shell) (apart-dismissed (λ p. is_parent_of xdg p.popup) r.owned.shell apart))
demanded-numbers c demand r d ids none apart = apart

-- ---- none is past the last request

-- a number up to this one
abbrev IsUpTo : ℕ → ℕ → Popup → Type 0
IsUpTo n id popup = popup.number ≤ n

up-to-steady : (n : ℕ) → IsSteadyOf (IsUpTo n)
up-to-steady n = record {
  placed = λ positioner placement waiting id p low. low;
  ungrabbed = λ id p low. low;
  orphaned = λ xdg id p low. subst (λ (k : ℕ). k ≤ n) (sym (orphan-number xdg p)) low;
}

-- the same as the definition says it
abbrev pub AreEarly : ℕ → Shell → Type 0
AreEarly n shell = (number : ℕ) → list_any (has_number number) shell ≡ true → number ≤ n

each-early : (n : ℕ) (shell : Shell) → OfEach (IsUpTo n) shell → AreEarly n shell
each-early n [] all number any = absurd (true≢false (sym any))
each-early n (x ∷ xs) all number any = at (has_number number x) refl any (each-early n xs all.1 number)
  where
    kind : (id : ℕ) (k : Kind) → OfKind (IsUpTo n) id k → is_kind_numbered number k ≡ true → number ≤ n
    kind id Toplevel low is = absurd (true≢false (sym is))
    kind id (IsPopup popup) low is = subst (λ (m : ℕ). m ≤ n) (eqb-true popup.number number is) low

    role : (o : Option RoleObject) → OfRole (IsUpTo n) o → is_popup_numbered number o ≡ true → number ≤ n
    role None low is = absurd (true≢false (sym is))
    role (Some object) low is = kind object.id object.kind low is

    at : (b : Bool) → has_number number x ≡ b → (b || list_any (has_number number) xs) ≡ true → (list_any (has_number number) xs ≡ true → number ≤ n) → number ≤ n
    at true is any later = role x.role all.0 is
    at false is any later = later any

early-each : (n : ℕ) (shell : Shell) → AreEarly n shell → OfEach (IsUpTo n) shell
early-each n [] early = tt
early-each n (x ∷ xs) early = (
  role x.role (λ number is. early number (or_left (has_number number x) (list_any (has_number number) xs) is)),
  early-each n xs (λ number any. early number (or_right (has_number number x) (list_any (has_number number) xs) any)),
)
  where
    same : (k : ℕ) → (k == k) ≡ true
    same k = equal-numbers k k refl

    kind : (id : ℕ) (k : Kind) → ((number : ℕ) → is_kind_numbered number k ≡ true → number ≤ n) → OfKind (IsUpTo n) id k
    kind id Toplevel low = tt
    kind id (IsPopup popup) low = low popup.number (same popup.number)

    role : (o : Option RoleObject) → ((number : ℕ) → is_popup_numbered number o ≡ true → number ≤ n) → OfRole (IsUpTo n) o
    role None low = tt
    role (Some object) low = kind object.id object.kind low

past : (n k : ℕ) → n ≡ k + 1 → n ≤ k → ⊥
past n k e le = absurd (omega (arith, e, le))

-- so the number of a request that is counted is no popup's yet
pub none-numbered : (n k : ℕ) (shell : Shell) → n ≡ k + 1 → AreEarly k shell → list_any (has_number n) shell ≡ false
none-numbered n k shell next early = false_from_ne_true (list_any (has_number n) shell) (λ any. past n k next (early n any))

le-next : (a n k : ℕ) → n ≡ k + 1 → a ≤ k → a ≤ n
le-next a n k next le = omega (arith, next, le)

le-same : (n k : ℕ) → n ≡ k → k ≤ n
le-same n k e = omega (arith, e)

-- what is demanded brings none past that of its own request
pub demanded-early : (c k : ℕ) (demand : Demand) (r : Resident) (d : Desktop) → r.peer.requests ≡ k + 1 → AreEarly k r.owned.shell
    → AreEarly (k + 1) (changed_for c demand r d).owned.shell
demanded-early c k demand r d next early =
    each-early (k + 1) (changed_for c demand r d).owned.shell
    (each-stays (IsUpTo (k + 1)) (up-to-steady (k + 1)) c demand r d (λ id parent positioner. le-same (k + 1) r.peer.requests (sym next)) (λ xdg serial allowed id p low. low) (λ may id p low. low)
    (early-each (k + 1) r.owned.shell (λ number any. le-next number (k + 1) k refl (early number any))))

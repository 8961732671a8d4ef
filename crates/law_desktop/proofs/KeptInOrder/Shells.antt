-- What is demanded leaves the xdg_surfaces of a client in order.
use Rattle.std.proofs.Common.{◌≡◌, ℕ, ◌+◌, [], ◌∷◌, Bool, true, false, Option, Some, None, cond, refl, sym, subst, ◌∙◌, map}
use Rattle.std.specs.Prelude.{◌==◌, not, IfSome}
use Rattle.std.specs.Option.{option_map_or}
use Rattle.std.specs.List.{list_any}
use Rattle.wl_shell.specs.Popups.{Popped, dismissed_among, dismissed_with, dismissing, is_parent, is_parent_of, new_popup, orphan, orphaning, popup_changed, popup_in, with_effect}
use Rattle.wl_shell.specs.Popups.{copying, is_configured, popup_at, repositioning}
use Rattle.wl_shell.specs.Positioner.{Positioner}
use Rattle.wl_shell.specs.Shell.{Effect, Popup, Shell, XdgSurface as Xdg, acknowledging, configuring, new_toplevel, with_change, with_new, without_role, without_xdg, xdg_at, xdg_of}
use Rattle.wl_shell.proofs.Reading.{any-popup}
use Rattle.spec_desktop.specs.Ask.{Ask, GetXdgSurface, DestroyXdgSurface, GetToplevel, Acknowledge, ConfigureAgain}
use Rattle.spec_desktop.specs.Changing.{Placing, changed_for, drawing, effect_placing, grab_allowed, grabbed, has_focus, in_rising_order, is_configure, mode_set, placement_now, popup_given_to, tree_committed}
use Rattle.spec_desktop.specs.Changing.{popup_repositioned}
use Rattle.spec_desktop.specs.Demand.{Demand, Asks, CommitTree, SetMode, GetPointer, Reposition}
use Rattle.spec_desktop.specs.Demand.{GetPopup, Grab, EndPopup, EndToplevel}
use Rattle.spec_desktop.specs.Demanding.{effect_of_commit}
use Rattle.spec_desktop.specs.Desktop.{Desktop, Resident}
use Rattle.spec_desktop.specs.Step.{asked_so_far, changed_by, toplevel_given, xdg_changed}
use Rattle.spec_desktop.specs.XdgPopup.{may_be_parent}
use Rattle.law_desktop.specs.Apart.{AreApartBy}
use Rattle.law_desktop.proofs.Soundness.Orderly.{HasNoRole, IsAllowed, IsAsked}
use Rattle.law_desktop.specs.Ordered.{HaveElders, OfEach}
use Rattle.law_desktop.proofs.KeptInOrder.Each.{IsReleased, OfPopup, each-left, each-map, each-more}
use Rattle.law_desktop.proofs.KeptInOrder.Elders.{HasLiving, IsGentle, IsNoParent, IsUpTo, acknowledged-gentle, configured-gentle, dismissing-gentle, effect-gentle, elders-bare, elders-left, elders-map, elders-more}
use Rattle.law_desktop.proofs.KeptInOrder.Elders.{elders-popup, elders-toplevel, bare-age, bare-no-parent, one-gentle, orphaned-no-parent, orphaning-gentle, popup-gentle, taken, taking, taking-gentle}
use Rattle.law_desktop.proofs.KeptInOrder.Elders.{repositioned-gentle}
use Rattle.law_desktop.proofs.KeptInOrder.Heard.{IsFit}
use Rattle.law_desktop.proofs.Truth.{or-left, or-right}

-- `P` is said of the surface of each xdg_surface
abbrev pub OfSurfaces : (ℕ → Type 0) → Shell → Type 0
OfSurfaces P shell = OfEach (λ x. P x.surface) shell

-- the parents of popups, the grabs, and what is said of surfaces
pub record AreFine (P : ℕ → Type 0) (shell : Shell) : Type 0 where
  pub elders : HaveElders shell
  pub released : OfEach (OfPopup IsReleased) shell
  pub surfaces : OfSurfaces P shell

-- the surface of a new xdg_surface is of those
abbrev pub MeetsAsk : (ℕ → Type 0) → Ask → Type 0
MeetsAsk P (GetXdgSurface id version base surface) = P surface
MeetsAsk P ask = Unit {0}

abbrev pub Meets : (ℕ → Type 0) → Demand → Type 0
Meets P (Asks ask) = MeetsAsk P ask
Meets P demand = Unit {0}

-- no popup has a parent that none of them has
no-parent : (xdg : ℕ) (shell : Shell) → is_parent xdg shell ≡ false → IsNoParent xdg shell
no-parent xdg shell none = each shell (sym (any-popup (is_parent_of xdg) shell) ∙ none)
  where
    role : (o : Option Popup) → option_map_or (is_parent_of xdg) o false ≡ false → IfSome o (λ p. is_parent_of xdg p ≡ false)
    role None none = tt
    role (Some p) none = none

    each : (xs : Shell) → list_any (λ x. option_map_or (is_parent_of xdg) (popup_in x.role) false) xs ≡ false → IsNoParent xdg xs
    each [] none = tt
    each (x ∷ xs) none = (
      role (popup_in x.role) (or-left (option_map_or (is_parent_of xdg) (popup_in x.role) false) _ none),
      each xs (or-right (option_map_or (is_parent_of xdg) (popup_in x.role) false) _ none),
    )

module _ (P : ℕ → Type 0) where
  abbrev Fine : Shell → Type 0
  Fine shell = AreFine P shell

  -- ---- all of them

  fine-map : (f : Xdg → Xdg) → IsGentle f → (shell : Shell) → Fine shell → Fine (map f shell)
  fine-map f a shell fine = record {
    elders = elders-map f a shell fine.elders;
    released = each-map (OfPopup IsReleased) (OfPopup IsReleased) f (λ x is. a.released x is) shell fine.released;
    surfaces = each-map (λ x. P x.surface) (λ x. P x.surface) f (λ x is. subst P (sym (a.surface x)) is) shell fine.surfaces;
  }

  fine-change : (id : ℕ) (f : Xdg → Xdg) → IsGentle f → (shell : Shell) → Fine shell → Fine (with_change id f shell)
  fine-change id f a shell fine = fine-map (λ x. cond (x.id == id) (f x) x) (one-gentle id f a) shell fine

  -- one of them has another role object
  fine-role : (id : ℕ) (f : Xdg → Xdg) → ((x : Xdg) → (f x).surface ≡ x.surface) → ((x : Xdg) → OfPopup IsReleased (f x)) → (shell : Shell) → HaveElders (with_change id f shell) → Fine shell
      → Fine (with_change id f shell)
  fine-role id f surfaces none shell elders fine = record {
    elders = elders;
    released = each-map (OfPopup IsReleased) (OfPopup IsReleased) (λ x. cond (x.id == id) (f x) x) (λ x is. grab x (x.id == id) is) shell fine.released;
    surfaces = each-map (λ x. P x.surface) (λ x. P x.surface) (λ x. cond (x.id == id) (f x) x) (λ x is. its x (x.id == id) is) shell fine.surfaces;
  }
    where
      grab : (x : Xdg) (b : Bool) → OfPopup IsReleased x → OfPopup IsReleased (cond b (f x) x)
      grab x true is = none x
      grab x false is = is

      its : (x : Xdg) (b : Bool) → P x.surface → P (cond b (f x) x).surface
      its x true is = subst P (sym (surfaces x)) is
      its x false is = is

  fine-bare : (id : ℕ) (shell : Shell) → IsNoParent id shell → Fine shell → Fine (with_change id without_role shell)
  fine-bare id shell none fine = fine-role id without_role (λ x. refl) (λ x. tt) shell (elders-bare id shell none fine.elders) fine

  fine-new : (id base surface : ℕ) (shell : Shell) → P surface → Fine shell → Fine (with_new id base surface shell)
  fine-new id base surface shell new fine = record {
    elders = elders-more id base surface shell fine.elders;
    released = each-more (OfPopup IsReleased) shell _ tt fine.released;
    surfaces = each-more (λ x. P x.surface) shell _ new fine.surfaces;
  }

  fine-left : (id : ℕ) (shell : Shell) → HasNoRole (xdg_at id shell) → Fine shell → Fine (without_xdg id shell)
  fine-left id shell bare fine = record {
    elders = elders-left id shell (bare-no-parent id shell (bare-age id shell bare) fine.elders) fine.elders;
    released = each-left (OfPopup IsReleased) (λ x. not (x.id == id)) shell fine.released;
    surfaces = each-left (λ x. P x.surface) (λ x. not (x.id == id)) shell fine.surfaces;
  }

  -- popups are dismissed
  pub fine-dismissed : (is : Popped → Bool) (shell : Shell) → AreFine P shell → AreFine P (dismissing is shell)
  fine-dismissed is shell fine = fine-map (dismissed_among (dismissed_with is shell)) (dismissing-gentle is shell) shell fine

  -- the popups of a toplevel that goes are dismissed, and have no parent then
  fine-ended : (xdg : ℕ) (shell : Shell) → Fine shell → Fine (with_change xdg without_role (orphaning xdg (dismissing (λ p. is_parent_of xdg p.popup) shell)))
  fine-ended xdg shell fine =
      let gone : Shell = dismissing (λ p. is_parent_of xdg p.popup) shell in
      fine-bare xdg (orphaning xdg gone) (orphaned-no-parent xdg gone)
      (fine-map (popup_changed (orphan xdg)) (orphaning-gentle xdg) gone (fine-dismissed (λ p. is_parent_of xdg p.popup) shell fine))

  -- ---- what is demanded

  fine-drawn : (b : Bool) (r : Resident) → Fine r.owned.shell → Fine (drawing b r).owned.shell
  fine-drawn true r fine = fine
  fine-drawn false r fine = fine

  fine-effect : (where_to : Placing) (id : ℕ) (effect : Effect) (o : Option Xdg) (r : Resident) → Fine r.owned.shell → Fine (effect_placing where_to id effect o r).owned.shell
  fine-effect where_to id effect None r fine = fine
  fine-effect where_to id effect (Some x) r fine =
      let step = with_effect r.peer.serial (asked_so_far id r) where_to effect in
      fine-drawn (is_configure effect) (xdg_changed x.id step r) (fine-change x.id step (effect-gentle r.peer.serial (asked_so_far id r) where_to effect) r.owned.shell fine)

  fine-toplevel : (id xdg : ℕ) (o : Option Xdg) (r : Resident) → xdg_at xdg r.owned.shell ≡ o → HasNoRole o → Fine r.owned.shell → Fine (toplevel_given id xdg o r).owned.shell
  fine-toplevel id xdg None r e bare fine = fine
  fine-toplevel id xdg (Some x) r e bare fine =
      let since : ℕ = asked_so_far x.surface r in
      fine-role xdg (new_toplevel id since) (λ y. refl) (λ y. tt) r.owned.shell
      (elders-toplevel id xdg since r.owned.shell (subst HasNoRole (sym e) bare) fine.elders) fine

  fine-asked : (ask : Ask) (r : Resident) → IsAsked r ask → MeetsAsk P ask → Fine r.owned.shell → Fine (changed_by ask r).owned.shell
  fine-asked (GetXdgSurface id version base surface) r ok new fine = fine-new id base surface r.owned.shell new fine
  fine-asked (DestroyXdgSurface id) r ok new fine = fine-left id r.owned.shell ok.1 fine
  fine-asked (GetToplevel id version xdg) r ok new fine = fine-toplevel id xdg (xdg_at xdg r.owned.shell) r refl ok.1 fine
  fine-asked (Acknowledge xdg serial) r ok new fine = fine-change xdg (acknowledging serial) (acknowledged-gentle serial) r.owned.shell fine
  fine-asked (ConfigureAgain xdg) r ok new fine = fine-change xdg (configuring r.peer.serial) (configured-gentle r.peer.serial) r.owned.shell fine
  fine-asked ask r ok new fine = fine

  fine-mode : (link : ℕ) (b : Bool) (r : Resident) → Fine r.owned.shell → Fine (mode_set link b r).owned.shell
  fine-mode link true r fine = fine
  fine-mode link false r fine = fine

  -- a new popup has a number that none has yet
  fine-popup : (id xdg parent k : ℕ) (p : Positioner) (o : Option Xdg) (r : Resident) → r.peer.requests ≡ k + 1 → OfEach (OfPopup (IsUpTo k)) r.owned.shell → xdg_at xdg r.owned.shell ≡ o
      → HasNoRole o → may_be_parent (xdg_at parent r.owned.shell) ≡ true → Fine r.owned.shell → Fine (popup_given_to id xdg parent p o r).owned.shell
  fine-popup id xdg parent k p None r next up e bare may fine = fine
  fine-popup id xdg parent k p (Some x) r next up e bare may fine =
      let since : ℕ = asked_so_far x.surface r in
      subst (λ (n : ℕ). Fine (with_change xdg (new_popup id parent p n since) r.owned.shell)) (sym next)
      (fine-role xdg (new_popup id parent p (k + 1) since) (λ y. refl) (λ y gone. refl) r.owned.shell
      (elders-popup id xdg parent k since p r.owned.shell up (subst HasNoRole (sym e) bare) may fine.elders) fine)

  fine-repositioned : (where_to : Placing) (p : Positioner) (o : Option Popped) (r : Resident) → Fine r.owned.shell → Fine (popup_repositioned where_to p o r).owned.shell
  fine-repositioned where_to p None r fine = fine
  fine-repositioned where_to p (Some q) r fine =
      let step = repositioning (is_configured q) r.peer.serial (where_to (copying p q.popup)) p in
      fine-drawn (is_configured q) (xdg_changed q.xdg.id step r)
      (fine-change q.xdg.id step (repositioned-gentle (is_configured q) r.peer.serial (where_to (copying p q.popup)) p) r.owned.shell fine)

  -- a grab is taken by a popup that isn't dismissed, or it is dismissed then
  fine-grabbed : (b : Bool) (xdg : ℕ) (r : Resident) → AreApartBy (λ key x. x.id == key) r.owned.shell → HasLiving xdg r.owned.shell → Fine r.owned.shell → Fine (grabbed b xdg r).owned.shell
  fine-grabbed true xdg r apart living fine =
      subst Fine (sym (taken xdg r.owned.shell apart living)) (fine-change xdg (popup_changed taking) (popup-gentle taking taking-gentle) r.owned.shell fine)
  fine-grabbed false xdg r apart living fine = fine-dismissed (λ p. p.xdg.id == xdg) r.owned.shell fine

  pub demanded-fine :
      (c k : ℕ) (demand : Demand) (r : Resident) (d : Desktop) → AreApartBy (λ key x. x.id == key) r.owned.shell → IsAllowed r demand → IsFit r demand → Meets P demand → r.peer.requests ≡ k + 1 → OfEach (OfPopup (IsUpTo k)) r.owned.shell
      → AreFine P r.owned.shell → AreFine P (changed_for c demand r d).owned.shell
  demanded-fine c k (Asks ask) r d apart ok fit new next up fine = fine-asked ask r ok new fine
  demanded-fine c k (CommitTree surface) r d apart ok fit new next up fine =
      fine-effect (placement_now c r d) surface (effect_of_commit r surface) (xdg_of surface r.owned.shell) (tree_committed surface r) fine
  demanded-fine c k (SetMode link synchronised) r d apart ok fit new next up fine = fine-mode link synchronised r fine
  demanded-fine c k (GetPointer id version) r d apart ok fit new next up fine = fine-drawn (has_focus c d.pointer.focus) (record r { pointers = in_rising_order id r.pointers }) fine
  demanded-fine c k (GetPopup id version xdg parent p) r d apart ok fit new next up fine = fine-popup id xdg parent k p (xdg_at xdg r.owned.shell) r next up refl ok.1 fit fine
  demanded-fine c k (Reposition xdg token p) r d apart ok fit new next up fine = fine-repositioned (placement_now c r d) p (popup_at xdg r.owned.shell) r fine
  demanded-fine c k (Grab xdg serial) r d apart ok fit new next up fine = fine-grabbed (grab_allowed c xdg serial r d) xdg r apart fit fine
  demanded-fine c k (EndPopup id xdg) r d apart ok fit new next up fine = fine-bare xdg r.owned.shell (no-parent xdg r.owned.shell fit) fine
  demanded-fine c k (EndToplevel id xdg top) r d apart ok fit new next up fine = fine-ended xdg r.owned.shell fine
  demanded-fine c k demand r d apart ok fit new next up fine = fine

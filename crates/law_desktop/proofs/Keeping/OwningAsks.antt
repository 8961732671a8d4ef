-- What each thing that is asked changes of what a client owns, and of what is kept of it.
use Rattle.std.proofs.Common.{◌≡◌, ℕ, ◌+◌, List, Bool, true, false, Option, Some, None, cond, length, refl, ap, sym, subst, ◌∙◌, eq-eqb}
use Rattle.std.specs.Prelude.{ℤ, IfSome, Ok, Result, fold, is_some}
use Rattle.std.specs.Option.{option_and_then, option_map, option_map_or}
use Rattle.wl_geom.specs.declared.rect.Rect.{Rect}
use Rattle.wl_links.specs.Family.{Tied}
use Rattle.wl_surface.specs.Slots.{Changes, Numbered, Slots, StandForAll, with_at, count as count_kept}
use Rattle.wl_surface.specs.Request.{Request, Commit, SetWindowGeometry}
use Rattle.wl_surface.specs.State.{History, apply, geometry_asked, is_commit}
use Rattle.wl_surface.specs.Surface.{Surface, asking, new_surface, with_role}
use Rattle.wl_surface.specs.Surfaces.{history_in, with_change as with_surface_change}
use Rattle.wl_surface.specs.declared.role.Role.TheVariants.{Cursor as AsCursor, Toplevel as AsToplevel}
use Rattle.wl_shell.specs.Agreement.{with_history}
use Rattle.wl_shell.specs.Kept.{Kept, Stands, changing, commit_answer, effect_answer, first_kept, kept_acknowledging, kept_after, kept_asking, kept_configuring, kept_toplevel}
use Rattle.wl_shell.specs.Kept.{arrival, placement_in, with_kept}
use Rattle.wl_shell.specs.Laws.{one_more}
use Rattle.wl_shell.specs.Shell.{Effect, Stays, Unconfigured, Configures, Maps, Unmaps, Fresh, Waiting, Mapped, Popup, Shell, XdgSurface, acknowledging, at_stage, configuring}
use Rattle.wl_shell.specs.Shell.{Configure as Waits, in_stage, is_full}
use Rattle.wl_shell.specs.Shell.{is_role, new_toplevel, role_acknowledged, unmapping, up_to, with_change, xdg_of}
use Rattle.wl_shell.specs.Popups.{arrive, arriving, effect_in, placing, popup_in, unmapped, waiting_in, with_effect}
use Rattle.wl_shell.specs.Positioner.{Placed, place}
use Rattle.wl_shell.specs.declared.acts.ShellAct.{ShellAct}
use Rattle.wl_shell.specs.declared.acts.ShellAct.TheVariants.{Configure, Map, Unmap, Place, Nothing}
use Rattle.wl_shell.specs.declared.error.ShellError.{ShellError}
use Rattle.wl_shell.specs.declared.stage.Stage.{Stage}
use Rattle.wl_shell.proofs.Agreeing.{changed-same}
use Rattle.wl_shell.proofs.Standing.{changes_stand}
use Rattle.law_desktop.specs.Named.{Makes}
use Rattle.wl_surface.specs.Trees.{committed_in, destroyed_in, ended_in, links_with}
use Rattle.wl_surface.specs.Hanging.{AreNumbered}
use Rattle.wl_surface.specs.TreeLaws.{AreOnceLinked}
use Rattle.law_desktop.proofs.TreeSteps.Commits.{commit-keeps-others}
use Rattle.law_desktop.proofs.TreeSteps.Ends.{destruction-keeps-others}
use Rattle.law_desktop.specs.Soundness.{IsNoChild}
use Rattle.wl_surface.specs.Stacks.{is_about_children}
use Rattle.spec_desktop.specs.Stacking.{Owned}
use Rattle.spec_desktop.specs.Ask.{CreateSurface, AskSurface, GetXdgSurface, DestroyXdgSurface, GetToplevel, Acknowledge, ConfigureAgain}
use Rattle.spec_desktop.specs.Desktop.{Resident}
use Rattle.law_desktop.specs.OwnedPopups.{popup_of_surface}
use Rattle.law_desktop.specs.Owning.{IsOwned, IsXdg, KeepsRole, Names, effect_by, with_surface, with_toplevel, with_xdg}
use Rattle.spec_desktop.specs.Step.{asked_so_far, toplevel_given, xdg_changed}
use Rattle.law_desktop.proofs.Keeping.OwningChanges.{IsOwned-history, IsOwned-left, IsOwned-made, IsOwned-shelled}
use Rattle.law_desktop.proofs.Keeping.OwningChanges.{IsOwned-stepped, IsOwned-toplevel, IsOwned-unshelled, agree-same, changing-none}
use Rattle.law_desktop.proofs.Keeping.OwningChanges.{renumbered}
use Rattle.law_desktop.proofs.Keeping.Ids.{ids-changed, ids-committed, ids-without-links}
use Rattle.law_desktop.proofs.Keeping.OwningSurfaces.{AreKept-left, AreKept-then, geometry-asked, surface-named}
use Rattle.law_desktop.proofs.Keeping.OwningTies.{asked-by, committed-by, left-by, role-by}
use Rattle.law_desktop.proofs.Keeping.Roots.{agree-child, agree-committed}
use Rattle.law_desktop.proofs.Keeping.OwningXdg.{histories-same, xdg-of, xdg-of-none}
use Rattle.spec_desktop.specs.Changing.{effect_placing, is_configure, tree_committed}
use Rattle.spec_desktop.specs.Demand.{Asks, EndSurface, MakeCursor}
use Rattle.spec_desktop.specs.Demanding.{effect_on_xdg}
use Rattle.law_desktop.specs.Simple.{changed_simply}
use Rattle.law_desktop.proofs.Keeping.OwningReads.{effect-by-role}
use Rattle.law_desktop.proofs.OwnedPopups.Stepping.{histories-to, popup-keeps, same-role}
use Rattle.law_desktop.proofs.Soundness.Standing.{arriving-surface}
use Rattle.law_desktop.proofs.Runs.Following.{drawing-owned}

-- ---- changes of an xdg_surface

itself-keeps : KeepsRole (λ x. x)
itself-keeps = record { id = λ x. refl; surface = λ x. refl; role = λ object x. refl }

stage-keeps : (stage : Stage) → KeepsRole (in_stage stage)
stage-keeps stage = record { id = λ x. refl; surface = λ x. refl; role = λ object x. same-role (at_stage stage) object x.role (λ r. refl) }

acknowledging-keeps : (serial : ℕ) → KeepsRole (acknowledging serial)
acknowledging-keeps serial = record { id = λ x. refl; surface = λ x. refl; role = λ object x. same-role (role_acknowledged (up_to serial x.configures)) object x.role (λ r. refl) }

configuring-keeps : (serial : ℕ) → KeepsRole (configuring serial)
configuring-keeps serial = record { id = λ x. refl; surface = λ x. refl; role = λ object x. refl }

-- a placement that waits comes into force
arriving-id : (waiting : Option Placed) (x : XdgSurface) → (arriving waiting x).id ≡ x.id
arriving-id None x = refl
arriving-id (Some placed) x = refl

arriving-role : (waiting : Option Placed) (object : ℕ) (x : XdgSurface) → is_role object (arriving waiting x).role ≡ is_role object x.role
arriving-role None object x = refl
arriving-role (Some placed) object x = (popup-keeps (arrive placed)).role object x

arriving-keeps : KeepsRole (λ x. arriving (waiting_in x.role) x)
arriving-keeps = record {
  id = λ x. arriving-id (waiting_in x.role) x;
  surface = λ x. arriving-surface (waiting_in x.role) x;
  role = λ object x. arriving-role (waiting_in x.role) object x;
}

effect-keeps : (serial since : ℕ) (where_to : Popup → Option Placed) (effect : Effect) → KeepsRole (with_effect serial since where_to effect)
effect-keeps serial since where_to Stays = arriving-keeps
effect-keeps serial since where_to Unconfigured = itself-keeps
effect-keeps serial since where_to Configures = record {
  id = λ x. refl;
  surface = λ x. refl;
  role = λ object x. (popup-keeps (placing where_to)).role object (in_stage Waiting x) ∙ (stage-keeps Waiting).role object x;
}
effect-keeps serial since where_to Maps = record {
  id = λ x. arriving-id (waiting_in x.role) x;
  surface = λ x. arriving-surface (waiting_in x.role) x;
  role = λ object x. (stage-keeps Mapped).role object (arriving (waiting_in x.role) x) ∙ arriving-role (waiting_in x.role) object x;
}
effect-keeps serial since where_to Unmaps = record {
  id = λ x. refl;
  surface = λ x. refl;
  role = λ object x. (popup-keeps unmapped).role object (unmapping since x) ∙ (stage-keeps Fresh).role object x;
}

-- what a commit comes to, as one change
effect-owned : (where_to : Popup → Option Placed) (id : ℕ) (effect : Effect) (x : XdgSurface) (r : Resident)
    → (effect_placing where_to id effect (Some x) r).owned ≡ record r.owned { shell = with_change x.id (with_effect r.peer.serial (asked_so_far id r) where_to effect) r.owned.shell }
effect-owned where_to id effect x r = drawing-owned (is_configure effect) (xdg_changed x.id (with_effect r.peer.serial (asked_so_far id r) where_to effect) r)

-- ---- what is asked

module _ (names : Names) (slots : Slots) (tied : Tied) (kept : ℕ → Option Kept) (r : Resident) (is : IsOwned names slots tied kept r.owned) where
  pub owned-created : (id version number : ℕ) (new : Slots) (now : Names) → names.surfaces id ≡ None
      → ((named : Numbered) (id : ℕ) → StandForAll slots named → (named number ≡ None) × StandForAll new (with_at number (Some (new_surface id)) named)) → count_kept new ≡ count_kept slots + 1
      → now ≡ with_surface id (Some number) names → IsOwned now new tied kept (changed_simply (Asks (CreateSurface id version)) r).owned
  owned-created id version number new now free created counted same =
      subst (λ (n : Names). IsOwned n new tied kept (changed_simply (Asks (CreateSurface id version)) r).owned) (sym same)
      (IsOwned-made names slots tied kept r.owned is id number new free created counted)

  pub owned-destroyed : (id number : ℕ) (new : Slots) (without : Tied) (now : Names) → AreOnceLinked r.owned.surfaces.links → AreNumbered r.owned.surfaces.links
      → ((surface : ℕ) → is_some (xdg_of surface r.owned.shell) ≡ true → IsNoChild surface r.owned.surfaces) → names.surfaces id ≡ Some number → xdg_of id r.owned.shell ≡ None
      → Makes slots tied new without (destroyed_in number) → now ≡ with_surface id None names → IsOwned now new without kept (changed_simply (EndSurface id) r).owned
  owned-destroyed id number new without now once apart roots named none makes same =
      let all = r.owned.surfaces in
      subst (λ (n : Names). IsOwned n new without kept (changed_simply (EndSurface id) r).owned) (sym same)
      (IsOwned-left names slots tied kept r.owned is id number new without (destroyed_in id all) named none
      (AreKept-left names.surfaces slots tied all is.surfaces id number named new (fold ended_in all (links_with id all)) (ids-without-links id all) without
      (left-by names.surfaces slots tied all is.surfaces id number named new without makes))
      (agree-child all r.owned.shell once apart roots id (destroyed_in id all) (destruction-keeps-others all once apart id) none))

  -- a surface that is there has a history
  there : (id number : ℕ) → names.surfaces id ≡ Some number → (h : History) × (history_in id r.owned.surfaces ≡ Some h)
  there id number named =
      let one = surface-named names.surfaces slots tied r.owned.surfaces is.surfaces id number named in
      (one.0.history, ap (option_map (λ (s : Surface). s.history)) one.1)

  -- of a surface all but a window geometry
  pub owned-asked : (id number : ℕ) (request : Request) (new : Slots) → names.surfaces id ≡ Some number → is_about_children request ≡ false → is_commit request ≡ false →
      ((asked : Option Rect) → geometry_asked asked request ≡ asked)
      → Changes slots new number (asking request)
      → IsOwned names new tied kept (changed_simply (Asks (AskSurface id request)) r).owned
  owned-asked id number request new named about plain other changes =
      let one = there id number named in
      IsOwned-history names slots tied kept r.owned is id one.0 (one_more request one.0) new tied (with_surface_change id (asking request) r.owned.surfaces)
      (AreKept-then names.surfaces slots tied r.owned.surfaces is.surfaces new tied (with_surface_change id (asking request) r.owned.surfaces)
      (ids-changed id (asking request) (λ s. refl) r.owned.surfaces)
      (asked-by names.surfaces slots tied r.owned.surfaces is.surfaces id number named request new about plain changes))
      one.1
      (agree-same r.owned.shell (with_history id (Some (one_more request one.0)) (λ other. history_in other r.owned.surfaces))
      (λ other. history_in other (with_surface_change id (asking request) r.owned.surfaces))
      (histories-to id (asking request) (one_more request) r.owned.surfaces one.0 (λ s. refl) (λ s. refl) one.1))
      (λ k x stands. changes_stand.other request k x one.0 other stands)

  -- of a surface its role, which no xdg_surface looks at
  pub owned-cursor : (id number : ℕ) (new : Slots) → names.surfaces id ≡ Some number → Changes slots new number (with_role AsCursor)
      → IsOwned names new tied kept (changed_simply (MakeCursor id) r).owned
  owned-cursor id number new named changes =
      let one = there id number named in
      IsOwned-history names slots tied kept r.owned is id one.0 one.0 new tied (with_surface_change id (with_role AsCursor) r.owned.surfaces)
      (AreKept-then names.surfaces slots tied r.owned.surfaces is.surfaces new tied (with_surface_change id (with_role AsCursor) r.owned.surfaces)
      (ids-changed id (with_role AsCursor) (λ s. refl) r.owned.surfaces)
      (role-by names.surfaces slots tied r.owned.surfaces is.surfaces id number named AsCursor new changes))
      one.1
      (agree-same r.owned.shell (with_history id (Some one.0) (λ other. history_in other r.owned.surfaces))
      (λ other. history_in other (with_surface_change id (with_role AsCursor) r.owned.surfaces))
      (histories-to id (with_role AsCursor) (λ g. g) r.owned.surfaces one.0 (λ s. refl) (λ s. refl) one.1))
      (λ k x stands. stands)

  pub owned-xdg-made : (id version base surface number : ℕ) (after : ℕ → Option Kept) (now : Names) → names.surfaces surface ≡ Some number → kept number ≡ None → names.shell id ≡ None
      → after ≡ with_kept number (Some (first_kept id base)) kept → now ≡ with_xdg id (Some number) names
      → IsOwned now slots tied after (changed_simply (Asks (GetXdgSurface id version base surface)) r).owned
  owned-xdg-made id version base surface number after now named free unnamed keeps same =
      subst (λ (n : Names). IsOwned n slots tied after (changed_simply (Asks (GetXdgSurface id version base surface)) r).owned) (sym same)
      (subst (λ (ks : ℕ → Option Kept). IsOwned (with_xdg id (Some number) names) slots tied ks (changed_simply (Asks (GetXdgSurface id version base surface)) r).owned) (sym keeps)
      (IsOwned-shelled names slots tied kept r.owned is id base surface number named free unnamed))

  module _ (number : ℕ) (k : Kept) (x : XdgSurface) (h : History) (one : IsXdg names kept r.owned number k x h) where
    -- its surface stays
    stepped-still : (change : Kept → Kept) (step : XdgSurface → XdgSurface) → KeepsRole step → Stands (change k) (step x) h
        → IsOwned names slots tied (changing number change kept) (record r.owned { shell = with_change x.id step r.owned.shell })
    stepped-still change step keeps stands =
        IsOwned-stepped names slots tied kept r.owned is number k x h one change step h slots tied r.owned.surfaces keeps is.surfaces
        (agree-same r.owned.shell (with_history x.surface (Some h) (λ other. history_in other r.owned.surfaces)) (λ other. history_in other r.owned.surfaces)
        (sym (histories-same x.surface (Some h) (λ other. history_in other r.owned.surfaces) one.history))) stands

    pub owned-geometry : (rect : Rect) (after : ℕ → Option Kept) → after ≡ changing number (kept_asking rect) kept
        → IsOwned names slots tied after (changed_simply (Asks (AskSurface x.surface (SetWindowGeometry rect))) r).owned
    owned-geometry rect after keeps =
        let request = SetWindowGeometry rect in
        let all = with_surface_change x.surface (asking request) r.owned.surfaces in
        let stepped : IsOwned names slots tied (changing number (kept_asking rect) kept) (record { surfaces = all; shell = with_change x.id (λ y. y) r.owned.shell }) =
        IsOwned-stepped names slots tied kept r.owned is number k x h one (kept_asking rect) (λ y. y) (one_more request h) slots tied all itself-keeps
        (AreKept-then names.surfaces slots tied r.owned.surfaces is.surfaces slots tied all (ids-changed x.surface (asking request) (λ s. refl) r.owned.surfaces)
        (asked-by names.surfaces slots tied r.owned.surfaces is.surfaces x.surface number one.surface request slots refl refl (geometry-asked slots number rect)))
        (agree-same r.owned.shell (with_history x.surface (Some (one_more request h)) (λ other. history_in other r.owned.surfaces)) (λ other. history_in other all)
        (histories-to x.surface (asking request) (one_more request) r.owned.surfaces h (λ s. refl) (λ s. refl) one.history))
        (changes_stand.geometry rect k x h one.stands) in
        subst (λ (ks : ℕ → Option Kept). IsOwned names slots tied ks (changed_simply (Asks (AskSurface x.surface request)) r).owned) (sym keeps)
        (subst (λ (s : Shell). IsOwned names slots tied (changing number (kept_asking rect) kept) (record { surfaces = all; shell = s })) (changed-same x.id r.owned.shell) stepped)

    pub owned-xdg-gone : (after : ℕ → Option Kept) (now : Names) → x.role ≡ None → after ≡ with_kept number None kept → now ≡ with_xdg x.id None names
        → IsOwned now slots tied after (changed_simply (Asks (DestroyXdgSurface x.id)) r).owned
    owned-xdg-gone after now bare keeps same =
        subst (λ (n : Names). IsOwned n slots tied after (changed_simply (Asks (DestroyXdgSurface x.id)) r).owned) (sym same)
        (subst (λ (ks : ℕ → Option Kept). IsOwned (with_xdg x.id None names) slots tied ks (changed_simply (Asks (DestroyXdgSurface x.id)) r).owned) (sym keeps)
        (IsOwned-unshelled names slots tied kept r.owned is number k x h one bare))

    pub owned-toplevel-made : (id version : ℕ) (new : Slots) (after : ℕ → Option Kept) (now : Names) → x.role ≡ None → names.toplevels id ≡ None → Changes slots new number (with_role AsToplevel)
        → after ≡ changing number (kept_toplevel id) kept → now ≡ with_toplevel id (Some number) names → IsOwned now new tied after (changed_simply (Asks (GetToplevel id version x.id)) r).owned
    owned-toplevel-made id version new after now bare free changes keeps same =
        let all = with_surface_change x.surface (with_role AsToplevel) r.owned.surfaces in
        let since : asked_so_far x.surface r ≡ length h.requests = ap (λ (g : Option History). option_map_or (λ (h : History). length h.requests) g 0) one.history in
        let step = new_toplevel id (asked_so_far x.surface r) in
        let stands : Stands (kept_toplevel id k) (step x) h = subst (λ n. Stands (kept_toplevel id k) (new_toplevel id n x) h) (sym since) (changes_stand.toplevel id k x h one.stands) in
        subst (λ (n : Names). IsOwned n new tied after (changed_simply (Asks (GetToplevel id version x.id)) r).owned) (sym same)
        (subst (λ (ks : ℕ → Option Kept). IsOwned (with_toplevel id (Some number) names) new tied ks (changed_simply (Asks (GetToplevel id version x.id)) r).owned) (sym keeps)
        (subst (λ (o : Option XdgSurface). IsOwned (with_toplevel id (Some number) names) new tied (changing number (kept_toplevel id) kept) (toplevel_given id x.id o r).owned) (sym one.at_id)
        (IsOwned-toplevel names slots tied kept r.owned is number k x h one id (kept_toplevel id) step (record { id = id; kind = _; stage = Fresh }) h new all (λ y. refl) (λ y. refl) bare refl
        refl free
        (AreKept-then names.surfaces slots tied r.owned.surfaces is.surfaces new tied all (ids-changed x.surface (with_role AsToplevel) (λ s. refl) r.owned.surfaces)
        (role-by names.surfaces slots tied r.owned.surfaces is.surfaces x.surface number one.surface AsToplevel new changes))
        (agree-same r.owned.shell (with_history x.surface (Some h) (λ other. history_in other r.owned.surfaces)) (λ other. history_in other all)
        (histories-to x.surface (with_role AsToplevel) (λ g. g) r.owned.surfaces h (λ s. refl) (λ s. refl) one.history))
        stands)))

    pub owned-acknowledged : (serial : ℕ) (after : ℕ → Option Kept) → after ≡ changing number (kept_acknowledging serial) kept
        → IsOwned names slots tied after (changed_simply (Asks (Acknowledge x.id serial)) r).owned
    owned-acknowledged serial after keeps =
        subst (λ (ks : ℕ → Option Kept). IsOwned names slots tied ks (changed_simply (Asks (Acknowledge x.id serial)) r).owned) (sym keeps)
        (stepped-still (kept_acknowledging serial) (acknowledging serial) (acknowledging-keeps serial) (changes_stand.acknowledgement serial k x h one.stands))

    pub owned-configured : (after : ℕ → Option Kept) → after ≡ changing number (kept_configuring r.peer.serial) kept → IsOwned names slots tied after
        (changed_simply (Asks (ConfigureAgain x.id)) r).owned
    owned-configured after keeps =
        subst (λ (ks : ℕ → Option Kept). IsOwned names slots tied ks (changed_simply (Asks (ConfigureAgain x.id)) r).owned) (sym keeps)
        (stepped-still (kept_configuring r.peer.serial) (configuring r.peer.serial) (configuring-keeps r.peer.serial) (changes_stand.configure r.peer.serial k x h one.stands))

    -- a commit of its surface
    committed-with : (where_to : Popup → Option Placed) (shows : Bool) (bounds : Rect) (parent_at : ℤ × ℤ) (act : ShellAct) (new : Slots) (tying : Tied)
        → AreOnceLinked r.owned.surfaces.links → AreNumbered r.owned.surfaces.links
        → ((surface : ℕ) → is_some (xdg_of surface r.owned.shell) ≡ true → IsNoChild surface r.owned.surfaces)
        → IfSome (popup_in x.role) (λ popup. where_to popup ≡ place popup.positioner bounds parent_at) → Makes slots tied new tying (committed_in number)
        → commit_answer shows bounds parent_at (Some k) ≡ Ok act
        → IsOwned names new tying (changing number (kept_after r.peer.serial act) kept)
        (effect_placing where_to x.surface (effect_in shows x.role) (Some x) (tree_committed x.surface r)).owned
    committed-with where_to shows bounds parent_at act new tying once apart roots placed makes answer =
        let all = committed_in x.surface r.owned.surfaces in
        let then = tree_committed x.surface r in
        let effect = effect_in shows x.role in
        let now = apply (one_more Commit h) in
        let has : is_some (xdg_of x.surface r.owned.shell) ≡ true = ap is_some one.of_surface in
        let histories = agree-committed r.owned.surfaces r.owned.shell once apart roots x.surface h one.history has in
        let since : asked_so_far x.surface then ≡ length (one_more Commit h).requests =
        ap (λ (g : Option History). option_map_or (λ (h : History). length h.requests) g 0) (sym (histories x.surface has))
        ∙ ap (λ b. option_map_or (λ (h : History). length h.requests) (cond b (Some now) (history_in x.surface r.owned.surfaces)) 0) (eq-eqb x.surface x.surface refl) in
        let stands : Stands (kept_after r.peer.serial act k) (with_effect r.peer.serial (asked_so_far x.surface then) where_to effect x) now =
        subst (λ n. Stands (kept_after r.peer.serial act k) (with_effect r.peer.serial n where_to effect x) now) (sym since)
        (changes_stand.commit shows bounds parent_at r.peer.serial where_to act k x h answer placed one.stands) in
        subst (λ (o : Owned). IsOwned names new tying (changing number (kept_after r.peer.serial act) kept) o) (sym (effect-owned where_to x.surface effect x then))
        (IsOwned-stepped names slots tied kept r.owned is number k x h one (kept_after r.peer.serial act)
        (with_effect r.peer.serial (asked_so_far x.surface then) where_to effect) now new tying all
        (effect-keeps r.peer.serial (asked_so_far x.surface then) where_to effect)
        (AreKept-then names.surfaces slots tied r.owned.surfaces is.surfaces new tying all (ids-committed x.surface r.owned.surfaces)
        (committed-by names.surfaces slots tied r.owned.surfaces is.surfaces x.surface number one.surface new tying makes))
        histories stands)

  -- a popup is placed so
  pub owned-placed : (where_to : Popup → Option Placed) (id number : ℕ) (shows : Bool) (bounds : Rect) (parent_at : ℤ × ℤ) (act : ShellAct) (new : Slots) (tying : Tied) (after : ℕ → Option Kept)
      → IfSome (popup_of_surface id r.owned.shell) (λ popup. where_to popup ≡ place popup.positioner bounds parent_at) → AreOnceLinked r.owned.surfaces.links
      → AreNumbered r.owned.surfaces.links → ((surface : ℕ) → is_some (xdg_of surface r.owned.shell) ≡ true → IsNoChild surface r.owned.surfaces)
      → names.surfaces id ≡ Some number → Makes slots tied new tying (committed_in number)
      → commit_answer shows bounds parent_at (kept number) ≡ Ok act → after ≡ changing number (kept_after r.peer.serial act) kept
      → IsOwned names new tying after (effect_placing where_to id (effect_on_xdg shows (xdg_of id r.owned.shell)) (xdg_of id r.owned.shell) (tree_committed id r)).owned
  owned-placed where_to id number shows bounds parent_at act new tying after places once apart roots named makes answer keeps =
      subst (λ (ks : ℕ → Option Kept). IsOwned names new tying ks (effect_placing where_to id (effect_on_xdg shows (xdg_of id r.owned.shell)) (xdg_of id r.owned.shell) (tree_committed id r)).owned)
      (sym keeps)
      (at (kept number) refl)
    where
      Done : Option XdgSurface → ℕ → Type 0
      Done o i = IsOwned names new tying (changing number (kept_after r.peer.serial act) kept) (effect_placing where_to i (effect_on_xdg shows o) o (tree_committed i r)).owned

      at : (o : Option Kept) → kept number ≡ o → Done (xdg_of id r.owned.shell) id
      at None here =
          let all = committed_in id r.owned.surfaces in
          let none = xdg-of-none names slots tied kept r.owned is id number named here in
          subst (λ (o : Option XdgSurface). Done o id) (sym none)
          (subst (λ (ks : ℕ → Option Kept). IsOwned names new tying ks (record r.owned { surfaces = all }))
          (sym (changing-none number (kept_after r.peer.serial act) kept here))
          (renumbered names slots tied kept r.owned is names.surfaces new tying all
          (AreKept-then names.surfaces slots tied r.owned.surfaces is.surfaces new tying all (ids-committed id r.owned.surfaces)
          (committed-by names.surfaces slots tied r.owned.surfaces is.surfaces id number named new tying makes))
          (agree-child r.owned.surfaces r.owned.shell once apart roots id all (commit-keeps-others r.owned.surfaces once id) none)
          refl (λ x some found. refl) is.known))
      at (Some k) here =
          let xdg = xdg-of names slots tied kept r.owned is id number k named here in
          let placed = subst (λ (o : Option XdgSurface). IfSome (option_and_then (λ x. popup_in x.role) o) (λ popup. where_to popup ≡ place popup.positioner bounds parent_at)) xdg.3 places in
          let done = committed-with number k xdg.0 xdg.1 xdg.2 where_to shows bounds parent_at act new tying once apart roots placed makes
          (ap (commit_answer shows bounds parent_at) (sym here) ∙ answer) in
          subst (λ (o : Option XdgSurface). Done o id) (sym xdg.3)
          (subst (λ i. Done (Some xdg.0) i) xdg.4
          (subst (λ effect. IsOwned names new tying (changing number (kept_after r.peer.serial act) kept)
          (effect_placing where_to xdg.0.surface effect (Some xdg.0) (tree_committed xdg.0.surface r)).owned)
          (sym (effect-by-role shows xdg.0)) done))

  -- what a commit comes to for the shell is what the shell answered
  pub answered-effect : (id number : ℕ) (shows : Bool) (bounds : Rect) (parent_at : ℤ × ℤ) (act : ShellAct) → names.surfaces id ≡ Some number → commit_answer shows bounds parent_at (kept number) ≡ Ok act
      → effect_on_xdg shows (xdg_of id r.owned.shell) ≡ effect_by act
  answered-effect id number shows bounds parent_at act named answer = at (kept number) refl
    where
      of-act : (a : ShellAct) → ◌≡◌ {A = Result ShellAct ShellError} (Ok a) (Ok act) → effect_by a ≡ effect_by act
      of-act a e = let same : a ≡ act = cc in ap effect_by same

      arrived : (waiting : Option Placed) → ◌≡◌ {A = Result ShellAct ShellError} (Ok (arrival waiting)) (Ok act) → Stays ≡ effect_by act
      arrived None e = of-act Nothing e
      arrived (Some placed) e = of-act (Place placed) e

      by-effect : (placed waiting : Option Placed) (effect : Effect) (configures : List Waits) (full : Bool) → is_full configures ≡ full → effect_answer placed waiting effect configures ≡ Ok act
          → effect ≡ effect_by act
      by-effect placed waiting Stays configures full e answer = arrived waiting answer
      by-effect placed waiting Unconfigured configures full e answer = absurd (cc)
      by-effect placed waiting Configures configures true e answer = absurd (let told = rw e at answer in cc)
      by-effect placed waiting Configures configures false e answer = of-act (Configure placed) (rw e at answer)
      by-effect placed waiting Maps configures full e answer = of-act Map answer
      by-effect placed waiting Unmaps configures full e answer = of-act Unmap answer

      at : (o : Option Kept) → kept number ≡ o → effect_on_xdg shows (xdg_of id r.owned.shell) ≡ effect_by act
      at None here = ap (effect_on_xdg shows) (xdg-of-none names slots tied kept r.owned is id number named here) ∙ of-act Nothing (ap (commit_answer shows bounds parent_at) (sym here) ∙ answer)
      at (Some k) here =
          let xdg = xdg-of names slots tied kept r.owned is id number k named here in
          ap (effect_on_xdg shows) xdg.3
          ∙ effect-by-role shows xdg.0
          ∙ ap (effect_in shows) (sym xdg.2.stands.role)
          ∙ by-effect (placement_in bounds parent_at k.role) (waiting_in k.role) (effect_in shows k.role) k.configures (is_full k.configures) refl (ap (commit_answer shows bounds parent_at) (sym here) ∙ answer)

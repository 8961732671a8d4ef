-- After an accepted request the mapped toplevels of its client stand, and each surface shows a buffer or none as its role object says.
use Rattle.std.proofs.Common.{◌≡◌, ◌≢◌, ℕ, List, [], Bool, true, false, cond, Option, Some, None, map, refl, ap, sym, subst, ◌∙◌}
use Rattle.std.specs.Prelude.{◌==◌, is_some}
use Rattle.std.specs.List.{list_any}
use Rattle.std.specs.Option.{option_map}
use Rattle.std.proofs.lemmas.Bool.{and_from, eqb-true, true≢false}
use Rattle.wl_proto.specs.declared.interface.Interface.TheVariants.{XdgPopup, XdgToplevel}
use Rattle.spec_desktop.specs.declared.actions.Action.{Action}
use Rattle.spec_desktop.specs.declared.actions.Action.TheVariants.{DestroyBuffer}
use Rattle.spec_desktop.specs.Objects.{is_of as is_object_of}
use Rattle.wl_surface.specs.declared.role.Role.{Role}
use Rattle.wl_surface.specs.declared.role.Role.TheVariants.{Cursor as AsCursor, Popup as AsPopup, Toplevel as AsToplevel}
use Rattle.wl_surface.specs.Request.{Frame, Request}
use Rattle.wl_surface.specs.Surface.{asking, with_role}
use Rattle.wl_surface.specs.Surfaces.{Surfaces, history_in, link_at, with_change, with_new}
use Rattle.wl_surface.specs.Trees.{committed_in, desynchronised_in, destroyed_in, linked, synchronised_in}
use Rattle.wl_surface.specs.Hanging.{AreNumbered, AreTied}
use Rattle.wl_surface.specs.TreeLaws.{AreOnceLinked}
use Rattle.wl_shell.specs.Agreement.{AreApart as AreToldApart}
use Rattle.wl_shell.specs.Popups.{dismissed_among, dismissed_with, dismissing, is_parent_of, is_toplevel, is_toplevel_kind, new_popup, orphan, orphaning, placing, popped_kind, popped_role, popup_changed}
use Rattle.wl_shell.specs.Popups.{Popped, with_effect, with_grab, arrive, arriving, copying, is_configured, popup_at, repositioning, unmapped as unmapped_popup, waiting_in}
use Rattle.wl_shell.specs.Positioner.{Positioner, Placed}
use Rattle.wl_shell.specs.Shell.{Configures, Effect, IsPopup, Kind, Maps, RoleObject, Shell, Stays, Toplevel, Unconfigured, Unmaps, XdgSurface, acknowledging, configuring, in_stage, is_role}
use Rattle.wl_shell.specs.Shell.{new_toplevel, on_commit, unmapping, with_change as with_xdg_change, with_new as with_new_xdg, without_role, without_xdg, xdg_at, xdg_of, xdg_with, at_stage}
use Rattle.wl_shell.specs.declared.stage.Stage.{Stage}
use Rattle.wl_shell.specs.declared.stage.Stage.TheVariants as stage
use Rattle.spec_desktop.specs.Stacking.{Owned, Standing, is_of, shows_buffer, with_mapped, without_surface_of}
use Rattle.spec_desktop.specs.Windows.{Window}
use Rattle.spec_desktop.specs.Ask.{Acknowledge, Ask, AskSurface, ConfigureAgain, CreateSurface, DestroyXdgSurface, GetToplevel, GetXdgSurface, Own}
use Rattle.spec_desktop.specs.Changing.{Placing, changed_for, drawing, effect_placing, grab_allowed, grabbed, has_focus, in_rising_order, link_with_id, placement_now, popup_given_to, stacked_by, stacked_for}
use Rattle.spec_desktop.specs.Changing.{toplevel_ended, tree_committed, unlinked_at, popup_repositioned}
use Rattle.spec_desktop.specs.Demand.{AskFrame, Asks, CommitTree, Demand, EndPopup, EndSubsurface, EndSurface, EndToplevel, GetPointer, GetPopup, GetSubsurface, Grab, MakeCursor, Move, SetMode}
use Rattle.spec_desktop.specs.Demand.{Reposition}
use Rattle.spec_desktop.specs.Demanding.{effect_of_commit, effect_on_xdg, is_dismissed}
use Rattle.spec_desktop.specs.Desktop.{Desktop, Resident}
use Rattle.spec_desktop.specs.Step.{asked_so_far, own_changed, toplevel_given, xdg_changed}
use Rattle.spec_desktop.specs.WlSurface.{will_show}
use Rattle.law_desktop.specs.Apart.{AreObjects}
use Rattle.law_desktop.specs.Soundness.{IsNoChild}
use Rattle.law_desktop.proofs.Lists.Keys.{apart-map, found-any, found-map, found-passes}
use Rattle.law_desktop.proofs.Lists.Standings.{mapped-another, mapped-here, without-another, without-here}
use Rattle.law_desktop.proofs.Soundness.ObjectsKeys.{of-one}
use Rattle.law_desktop.proofs.Soundness.Orderly.{HasId, IsAllowed}
use Rattle.law_desktop.specs.InOrder.{is_toplevel_with}
use Rattle.law_desktop.specs.Shown.{heeded_stage, is_dismissed_kind}
use Rattle.law_desktop.proofs.KeptRecords.Keeping.OwningXdg.{has_surface, ids-apart, surfaces-apart}
use Rattle.law_desktop.proofs.KeptRecords.Keeping.StandingClients.{IsFound, left-else, left-none, stepped-else, stepped-here}
use Rattle.law_desktop.proofs.ShownSurfaces.Found.{bare-at, found-so, told-apart, top-with}
use Rattle.law_desktop.proofs.ShownSurfaces.Roots.{ShowAsBefore, all-show, committed-else, committed-here, destroyed-show, made-show, mode-shows, role-shows, unlinked-shows}
use Rattle.law_desktop.proofs.ShownSurfaces.Well.{IsWell}
use Rattle.law_desktop.proofs.ShownSurfaces.Fitting.{AllFit, Fits, FitsAt, IsLess, KeepsSurfaces, acknowledging-less, all-but, all-still, dismissing-id, dismissing-less, dismissing-surface, fits-so}
use Rattle.law_desktop.proofs.ShownSurfaces.Fitting.{is_top, known, less-changed, less-mapped, less-same, new-as, orphaned-less, popup-known, role_known, staged, table}
use Rattle.law_desktop.proofs.ShownSurfaces.Fitting.{arriving-known, popup-staged, repositioning-less}
use Rattle.law_desktop.proofs.TreeSteps.Coming.{link-keeps-all}
use Rattle.law_desktop.proofs.TreeSteps.Commits.{request-keeps-all}
use Rattle.law_desktop.proofs.TreeSteps.Modes.{mode-keeps-all}
use Rattle.law_desktop.proofs.Soundness.Standing.{arriving-surface, repositioned-surface}

-- What counts here of what a client that lives owns, whose request was counted: the number of that is no link's yet.
pub record IsRooted (r : Resident) : Type 0 where
  pub once : AreOnceLinked r.owned.surfaces.links
  pub numbered : AreNumbered r.owned.surfaces.links
  pub tied : AreTied r.owned.surfaces
  pub roots : (surface : ℕ) → is_some (xdg_of surface r.owned.shell) ≡ true → IsNoChild surface r.owned.surfaces
  pub fresh : link_at r.peer.requests r.owned.surfaces ≡ None
  pub apart : AreToldApart r.owned.shell
  pub toplevels : AreObjects XdgToplevel r.peer.objects (λ id x. is_toplevel_with id x.role) r.owned.shell

-- ---- the shell of a client

-- an xdg_surface is found after a change of each
found-mapped : (f : XdgSurface → XdgSurface) (x : XdgSurface) (shell : Shell) → ((y : XdgSurface) → (f y).id ≡ y.id) → KeepsSurfaces f → IsFound x shell → IsFound (f x) (map f shell)
found-mapped f x shell ids surfaces found = record {
  apart =
      told-apart (map f shell) (apart-map (λ id y. y.id == id) f shell (λ key y. ap (λ n. n == key) (ids y)) (ids-apart shell found.apart))
      (apart-map (λ surface y. y.surface == surface) f shell (λ key y. ap (λ n. n == key) (surfaces y)) (surfaces-apart shell found.apart));
  at_id = found-map (λ y. y.id == (f x).id) f shell (λ y. ap (λ n. n == (f x).id) (ids y)) ∙ ap (option_map f) (ap (λ n. xdg_at n shell) (ids x) ∙ found.at_id);
  of_surface =
      found-map (λ y. y.surface == (f x).surface) f shell (λ y. ap (λ n. n == (f x).surface) (surfaces y))
      ∙ ap (option_map f) (ap (λ n. xdg_of n shell) (surfaces x) ∙ found.of_surface);
}

module _ (c : ℕ) (o : Owned) (standing : List Standing) (fit : AllFit c o standing) where
  abbrev with_xdgs : Shell → Owned
  with_xdgs shell = record { surfaces = o.surfaces; shell = shell }

  -- where none more is mapped or waits
  with-shell : (shell : Shell) → ((surface : ℕ) → IsLess (known (xdg_of surface shell)) (known (xdg_of surface o.shell))) → AllFit c (with_xdgs shell) standing
  with-shell shell less = all-still c o (with_xdgs shell) standing standing fit (λ surface. record { stands = refl; known = less surface; shows = λ has. refl })

  stands-as : (x : XdgSurface) → IsFound x o.shell → list_any (is_of c x.surface) standing ≡ (known (Some x)).0
  stands-as x found = (fit x.surface).0 ∙ ap (λ (y : Option XdgSurface). (known y).0) found.of_surface

  -- one that is neither mapped nor waits, and doesn't stand
  idle-at : (surface : ℕ) (p : Owned) (new : List Standing) → list_any (is_of c surface) new ≡ false → known (xdg_of surface p.shell) ≡ (false, false, false) → FitsAt c surface p new
  idle-at surface p new none idle =
      fits-so (list_any (is_of c surface) new) (shows_buffer (history_in surface p.surfaces)) _ (false, false, false) idle
      (none, λ mapped. absurd (true≢false (sym mapped)), λ waiting. absurd (true≢false (sym waiting)))

  -- ---- role objects go

  -- one that doesn't stand
  role-gone : (x : XdgSurface) → IsFound x o.shell → (known (Some x)).0 ≡ false → AllFit c (with_xdgs (with_xdg_change x.id without_role o.shell)) standing
  role-gone x found none =
      let shell = with_xdg_change x.id without_role o.shell in
      all-but c x.surface o (with_xdgs shell) standing standing fit
      (idle-at x.surface (with_xdgs shell) standing (stands-as x found ∙ none) (ap known (stepped-here x without_role o.shell found (λ y. refl))))
      (λ surface other. record {
        stands = refl;
        known = less-same _ _ (ap known (stepped-else x surface without_role o.shell found (λ y. refl) other));
        shows = λ has. refl;
      })

  -- one that is taken out of the stack
  toplevel-gone : (x : XdgSurface) → IsFound x o.shell → AllFit c (with_xdgs (with_xdg_change x.id without_role o.shell)) (without_surface_of c x.surface standing)
  toplevel-gone x found =
      let shell = with_xdg_change x.id without_role o.shell in
      let new = without_surface_of c x.surface standing in
      all-but c x.surface o (with_xdgs shell) standing new fit
      (idle-at x.surface (with_xdgs shell) new (without-here c x.surface standing) (ap known (stepped-here x without_role o.shell found (λ y. refl))))
      (λ surface other. record {
        stands = without-another c x.surface surface standing other;
        known = less-same _ _ (ap known (stepped-else x surface without_role o.shell found (λ y. refl) other));
        shows = λ has. refl;
      })

  -- an xdg_surface goes, which has no role object
  xdg-gone : (x : XdgSurface) → IsFound x o.shell → x.role ≡ None → AllFit c (with_xdgs (without_xdg x.id o.shell)) standing
  xdg-gone x found bare =
      let shell = without_xdg x.id o.shell in
      all-but c x.surface o (with_xdgs shell) standing standing fit
      (idle-at x.surface (with_xdgs shell) standing (stands-as x found ∙ ap (λ (role : Option RoleObject). (role_known role).0) bare) (ap known (left-none x o.shell found)))
      (λ surface other. record { stands = refl; known = less-same _ _ (ap known (left-else x surface o.shell found other)); shows = λ has. refl })

  -- one comes that was never configured, and its surface gets a role
  role-made : (x : XdgSurface) (step : XdgSurface → XdgSurface) (role : Role) → IsFound x o.shell → x.role ≡ None → KeepsSurfaces step → known (Some (step x)) ≡ (false, false, false)
      → AllFit c (record { surfaces = with_change x.surface (with_role role) o.surfaces; shell = with_xdg_change x.id step o.shell }) standing
  role-made x step role found bare keeps idle =
      let now : Owned = record { surfaces = with_change x.surface (with_role role) o.surfaces; shell = with_xdg_change x.id step o.shell } in
      all-but c x.surface o now standing standing fit
      (idle-at x.surface now standing (stands-as x found ∙ ap (λ (role : Option RoleObject). (role_known role).0) bare) (ap known (stepped-here x step o.shell found keeps) ∙ idle))
      (λ surface other. record {
        stands = refl;
        known = less-same _ _ (ap known (stepped-else x surface step o.shell found keeps other));
        shows = role-shows o.shell x.surface role o.surfaces surface;
      })

  -- ---- popups are dismissed, and lose their parent

  dismissed-fit : (test : Popped → Bool) → AllFit c (with_xdgs (dismissing test o.shell)) standing
  dismissed-fit test =
      with-shell (dismissing test o.shell)
      (λ surface. less-mapped surface (dismissed_among (dismissed_with test o.shell)) o.shell (dismissing-surface (dismissed_with test o.shell)) (dismissing-less (dismissed_with test o.shell)))

  orphaned-fit : (xdg : ℕ) → AllFit c (with_xdgs (orphaning xdg o.shell)) standing
  orphaned-fit xdg = with-shell (orphaning xdg o.shell) (λ surface. less-mapped surface (popup_changed (orphan xdg)) o.shell (λ y. refl) (orphaned-less xdg))

-- ---- what is demanded

-- it is that of a popup where its object is one
popup-stands : (id : ℕ) (r : Resident) (x : XdgSurface) → AreObjects XdgToplevel r.peer.objects (λ id x. is_toplevel_with id x.role) r.owned.shell
    → is_object_of XdgPopup (r.peer.objects id) ≡ true → xdg_with id r.owned.shell ≡ Some x → (known (Some x)).0 ≡ false
popup-stands id r x toplevels live found = role x.role refl
  where
    has_role : XdgSurface → Bool
    has_role y = is_role id y.role

    never : is_toplevel_with id x.role ≡ true → ⊥
    never is =
        true≢false (sym (toplevels.1 id (found-any (λ y. is_role id y.role) (λ y. is_toplevel_with id y.role) r.owned.shell x found is))
        ∙ of-one XdgPopup XdgToplevel (r.peer.objects id) refl live)

    role : (o : Option RoleObject) → x.role ≡ o → (role_known x.role).0 ≡ false
    role None e = ap (λ (o : Option RoleObject). (role_known o).0) e
    role (Some object) e = at (is_toplevel_kind object.kind) refl
      where
        its : is_role id (Some object) ≡ true
        its = sym (ap (is_role id) e) ∙ found-passes (λ y. is_role id y.role) r.owned.shell x found

        at : (b : Bool) → is_toplevel_kind object.kind ≡ b → (role_known x.role).0 ≡ false
        at true top = absurd (never (ap (is_toplevel_with id) e ∙ and_from (object.id == id) (is_toplevel_kind object.kind) its top))
        at false top = ap (λ (o : Option RoleObject). (role_known o).0) e ∙ ap (λ (b : Bool). (table b (heeded_stage (Some object))).0) top

module _ (c : ℕ) (r : Resident) (d : Desktop) (is : IsRooted r) (fit : AllFit c r.owned d.standing) where
  -- where each surface of an xdg_surface shows a buffer as before
  with-surfaces : (all : Surfaces) → ShowAsBefore r.owned.shell r.owned.surfaces all → AllFit c (record { surfaces = all; shell = r.owned.shell }) d.standing
  with-surfaces all shows =
      all-still c r.owned (record { surfaces = all; shell = r.owned.shell }) d.standing d.standing fit
      (λ surface. record { stands = refl; known = less-same _ _ refl; shows = shows surface })

  -- ---- a commit

  module _ (where_to : Placing) (x : XdgSurface) (found : IsFound x r.owned.shell) where
    abbrev done : Shell → Owned
    done shell = record { surfaces = committed_in x.surface r.owned.surfaces; shell = shell }

    abbrev stood : Bool
    stood = list_any (is_of c x.surface) d.standing

    abbrev shows_now : Bool
    shows_now = shows_buffer (history_in x.surface (committed_in x.surface r.owned.surfaces))

    abbrev stepped : (XdgSurface → XdgSurface) → Shell
    stepped step = with_xdg_change x.id step r.owned.shell

    stood-as : stood ≡ (known (Some x)).0
    stood-as = stands-as c r.owned d.standing fit x found

    shown : (b : Bool) → will_show r x.surface ≡ b → shows_now ≡ b
    shown b shows = committed-here r.owned.surfaces r.owned.shell is.once is.numbered is.roots x.surface (ap is_some found.of_surface) ∙ shows

    -- the others stay
    finished : (step : XdgSurface → XdgSurface) → KeepsSurfaces step → (new : List Standing) → Fits (list_any (is_of c x.surface) new) (known (Some (step x))) shows_now
        → ((surface : ℕ) → x.surface ≢ surface → list_any (is_of c surface) new ≡ list_any (is_of c surface) d.standing) → AllFit c (done (stepped step)) new
    finished step keeps new here stands =
        all-but c x.surface r.owned (done (stepped step)) d.standing new fit
        (fits-so (list_any (is_of c x.surface) new) shows_now _ (known (Some (step x))) (ap known (stepped-here x step r.owned.shell found keeps)) here)
        (λ surface other. record {
          stands = stands surface other;
          known = less-same _ _ (ap known (stepped-else x surface step r.owned.shell found keeps other));
          shows = λ has. committed-else r.owned.surfaces r.owned.shell is.once is.numbered is.roots x.surface surface other has;
        })

    abbrev Commits : Effect → Type 0
    Commits effect = AllFit c (effect_placing where_to x.surface effect (Some x) (tree_committed x.surface r)).owned (stacked_by effect (is_toplevel (Some x)) c x.surface d).standing

    -- it stays as it is
    still : (k : Bool × Bool × Bool) → known (Some x) ≡ k → Fits stood k shows_now → Commits Stays
    still k e here =
        let step : XdgSurface → XdgSurface = λ y. arriving (waiting_in y.role) y in
        finished step (λ y. arriving-surface (waiting_in y.role) y) d.standing
        (fits-so stood shows_now (known (Some (step x))) k (arriving-known (waiting_in x.role) x ∙ e) here) (λ surface other. refl)

    -- its role object is in this stage, which is heeded
    module _ (s : Stage) (live : heeded_stage x.role ≡ Some s) where
      abbrev top : Bool
      top = is_toplevel (Some x)

      at-stage : known (Some x) ≡ table top (Some s)
      at-stage = ap (table top) live

      stood-at : stood ≡ (table top (Some s)).0
      stood-at = stood-as ∙ ap (λ (k : Bool × Bool × Bool). k.0) at-stage

      -- it is configured first
      configured : s ≡ stage.Fresh → shows_now ≡ false → Commits Configures
      configured fresh none =
          let step : XdgSurface → XdgSurface = with_effect r.peer.serial (asked_so_far x.surface (tree_committed x.surface r)) where_to Configures in
          finished step (λ y. refl) d.standing
          (fits-so stood shows_now (known (Some (step x))) (table top (Some stage.Waiting))
          (popup-known (placing where_to) (λ p. refl) (in_stage stage.Waiting x).role ∙ staged s stage.Waiting x.role live)
          (stood-at ∙ ap (λ (t : Stage). (table top (Some t)).0) fresh, λ mapped. absurd (true≢false (sym mapped)), λ waiting. none))
          (λ surface other. refl)

      mapped : s ≡ stage.Ready → shows_now ≡ true → Commits Maps
      mapped ready shows = at top refl
        where
          step : XdgSurface → XdgSurface
          step y = in_stage stage.Mapped (arriving (waiting_in y.role) y)

          same : KeepsSurfaces step
          same y = arriving-surface (waiting_in y.role) y

          arrived : (o : Option Placed) → role_known (option_map (at_stage stage.Mapped) (arriving o x).role) ≡ table top (Some stage.Mapped)
          arrived None = staged s stage.Mapped x.role live
          arrived (Some placed) =
              ap role_known (popup-staged (arrive placed) stage.Mapped x.role)
              ∙ (popup-known (arrive placed) (λ p. refl) (option_map (at_stage stage.Mapped) x.role) ∙ staged s stage.Mapped x.role live)

          now : known (Some (step x)) ≡ table top (Some stage.Mapped)
          now = arrived (waiting_in x.role)

          at : (b : Bool) → top ≡ b → AllFit c (done (stepped step)) (stacked_by Maps b c x.surface d).standing
          at true is_top =
              finished step same (with_mapped d.mappings c x.surface d.standing)
              (fits-so _ shows_now (known (Some (step x))) (true, true, false) (now ∙ ap (λ (b : Bool). table b (Some stage.Mapped)) is_top)
              (mapped-here d.mappings c x.surface d.standing, λ mapped. shows, λ waiting. absurd (true≢false (sym waiting))))
              (λ surface other. mapped-another d.mappings c x.surface surface d.standing other)
          at false is_top =
              finished step same d.standing
              (fits-so stood shows_now (known (Some (step x))) (false, true, false) (now ∙ ap (λ (b : Bool). table b (Some stage.Mapped)) is_top)
              (stood-at ∙ ap (λ (b : Bool). (table b (Some s)).0) is_top, λ mapped. shows, λ waiting. absurd (true≢false (sym waiting))))
              (λ surface other. refl)

      unmapped : Commits Unmaps
      unmapped = at top refl
        where
          step : XdgSurface → XdgSurface
          step y = with_effect r.peer.serial (asked_so_far x.surface (tree_committed x.surface r)) where_to Unmaps y

          now : known (Some (step x)) ≡ table top (Some stage.Fresh)
          now = popup-known unmapped_popup (λ p. refl) (unmapping (asked_so_far x.surface (tree_committed x.surface r)) x).role ∙ staged s stage.Fresh x.role live

          at : (b : Bool) → top ≡ b → AllFit c (done (stepped step)) (stacked_by Unmaps b c x.surface d).standing
          at true is_top =
              finished step (λ y. refl) (without_surface_of c x.surface d.standing)
              (fits-so _ shows_now (known (Some (step x))) (false, false, false) (now ∙ ap (λ (b : Bool). table b (Some stage.Fresh)) is_top)
              (without-here c x.surface d.standing, λ mapped. absurd (true≢false (sym mapped)), λ waiting. absurd (true≢false (sym waiting))))
              (λ surface other. without-another c x.surface surface d.standing other)
          at false is_top =
              finished step (λ y. refl) d.standing
              (fits-so stood shows_now (known (Some (step x))) (false, false, false) (now ∙ ap (λ (b : Bool). table b (Some stage.Fresh)) is_top)
              (stood-at ∙ ap (λ (b : Bool). (table b (Some s)).0) is_top, λ mapped. absurd (true≢false (sym mapped)), λ waiting. absurd (true≢false (sym waiting))))
              (λ surface other. refl)

    by-stage : (s : Stage) → heeded_stage x.role ≡ Some s → (b : Bool) → will_show r x.surface ≡ b → (on_commit (Some s) b ≡ Unconfigured → ⊥) → Commits (on_commit (Some s) b)
    by-stage stage.Fresh live false shows other = configured stage.Fresh live refl (shown false shows)
    by-stage stage.Waiting live false shows other =
        still (table (is_toplevel (Some x)) (Some stage.Waiting)) (at-stage stage.Waiting live)
        (stood-at stage.Waiting live, λ mapped. absurd (true≢false (sym mapped)), λ waiting. shown false shows)
    by-stage stage.Ready live false shows other =
        still (table (is_toplevel (Some x)) (Some stage.Ready)) (at-stage stage.Ready live)
        (stood-at stage.Ready live, λ mapped. absurd (true≢false (sym mapped)), λ waiting. shown false shows)
    by-stage stage.Ready live true shows other = mapped stage.Ready live refl (shown true shows)
    by-stage stage.Mapped live false shows other = unmapped stage.Mapped live
    by-stage stage.Mapped live true shows other =
        still (table (is_toplevel (Some x)) (Some stage.Mapped)) (at-stage stage.Mapped live)
        (stood-at stage.Mapped live, λ mapped. shown true shows, λ waiting. absurd (true≢false (sym waiting)))
    by-stage s live true shows other = absurd (other refl)

    -- one that isn't heeded
    idle : heeded_stage x.role ≡ None → Commits Stays
    idle none =
        still (table (is_toplevel (Some x)) None) (ap (table (is_toplevel (Some x))) none)
        (stood-as ∙ ap (λ (s : Option Stage). (table (is_toplevel (Some x)) s).0) none, λ mapped. absurd (true≢false (sym mapped)), λ waiting. absurd (true≢false (sym waiting)))

    abbrev effect_at : Bool → Option RoleObject → Effect
    effect_at b o = cond (is_dismissed (popped_role x o)) Stays (on_commit (option_map (λ (object : RoleObject). object.stage) o) b)

    dismissed-kind : (object : RoleObject) (k : Kind) → is_dismissed (popped_kind x object k) ≡ is_dismissed_kind k
    dismissed-kind object Toplevel = refl
    dismissed-kind object (IsPopup popup) = refl

    abbrev CommitsUnless : Stage → Bool → Bool → Type 0
    CommitsUnless s b dismissed = (cond dismissed Stays (on_commit (Some s) b) ≡ Unconfigured → ⊥) → Commits (cond dismissed Stays (on_commit (Some s) b))

    by-role : (o : Option RoleObject) → x.role ≡ o → (b : Bool) → will_show r x.surface ≡ b → (effect_at b o ≡ Unconfigured → ⊥) → Commits (effect_at b o)
    by-role None e false shows other = idle (ap heeded_stage e)
    by-role None e true shows other = absurd (other refl)
    by-role (Some object) e b shows other = at (is_dismissed_kind object.kind) refl
      where
        here : (dismissed : Bool) → is_dismissed_kind object.kind ≡ dismissed → CommitsUnless object.stage b dismissed
        here true is never = idle (ap heeded_stage e ∙ ap (λ (k : Bool). cond k None (Some object.stage)) is)
        here false is never = by-stage object.stage (ap heeded_stage e ∙ ap (λ (k : Bool). cond k None (Some object.stage)) is) b shows never

        at : (dismissed : Bool) → is_dismissed_kind object.kind ≡ dismissed → Commits (effect_at b (Some object))
        at dismissed is = subst (CommitsUnless object.stage b) (sym (dismissed-kind object object.kind ∙ is)) (here dismissed is) other

  abbrev After : Placing → ℕ → Option XdgSurface → Type 0
  After where_to id o =
      let effect = effect_on_xdg (will_show r id) o in
      AllFit c (effect_placing where_to id effect o (tree_committed id r)).owned (stacked_by effect (is_toplevel o) c id d).standing

  -- a surface without xdg_surface doesn't stand
  committed-none : (where_to : Placing) (id : ℕ) → xdg_of id r.owned.shell ≡ None → After where_to id None
  committed-none where_to id none =
      let new : Owned = record { surfaces = committed_in id r.owned.surfaces; shell = r.owned.shell } in
      all-but c id r.owned new d.standing d.standing fit
      (idle-at c r.owned d.standing fit id new d.standing ((fit id).0 ∙ ap (λ (o : Option XdgSurface). (known o).0) none) (ap known none))
      (λ surface other. record {
        stands = refl;
        known = less-same _ _ refl;
        shows = λ has. committed-else r.owned.surfaces r.owned.shell is.once is.numbered is.roots id surface other has;
      })

  committed : (where_to : Placing) (id : ℕ) → (effect_of_commit r id ≡ Unconfigured → ⊥) → After where_to id (xdg_of id r.owned.shell)
  committed where_to id well = at (xdg_of id r.owned.shell) refl
    where
      at : (o : Option XdgSurface) → xdg_of id r.owned.shell ≡ o → After where_to id o
      at None here = committed-none where_to id here
      at (Some x) here =
          let same : x.surface ≡ id = eqb-true x.surface id (found-passes (has_surface id) r.owned.shell x here) in
          subst (λ n. (effect_on_xdg (will_show r n) (Some x) ≡ Unconfigured → ⊥) → After where_to n (Some x)) same
          (λ never. by-role where_to x (found-so r.owned.shell is.apart (has_surface id) x here) x.role refl (will_show r x.surface) refl never)
          (λ u. well (ap (effect_on_xdg (will_show r id)) here ∙ u))

  -- ---- the shell

  bare-gone : (id : ℕ) → (x : XdgSurface) × (xdg_at id r.owned.shell ≡ Some x) × IsFound x r.owned.shell × (x.role ≡ None)
      → AllFit c (record { surfaces = r.owned.surfaces; shell = without_xdg id r.owned.shell }) d.standing
  bare-gone id (x, here, found, bare) =
      subst (λ n. AllFit c (record { surfaces = r.owned.surfaces; shell = without_xdg n r.owned.shell }) d.standing)
      (eqb-true x.id id (found-passes (λ y. y.id == id) r.owned.shell x here)) (xdg-gone c r.owned d.standing fit x found bare)

  toplevel-made : (id xdg : ℕ) → (x : XdgSurface) × (xdg_at xdg r.owned.shell ≡ Some x) × IsFound x r.owned.shell × (x.role ≡ None)
      → AllFit c (toplevel_given id xdg (xdg_at xdg r.owned.shell) r).owned d.standing
  toplevel-made id xdg (x, here, found, bare) =
      subst (λ o. AllFit c (toplevel_given id xdg o r).owned d.standing) (sym here)
      (subst (λ n. AllFit c (toplevel_given id n (Some x) r).owned d.standing) (eqb-true x.id xdg (found-passes (λ y. y.id == xdg) r.owned.shell x here))
      (role-made c r.owned d.standing fit x (new_toplevel id (asked_so_far x.surface r)) AsToplevel found bare (λ y. refl) refl))

  popup-made : (id xdg parent : ℕ) (p : Positioner) → (x : XdgSurface) × (xdg_at xdg r.owned.shell ≡ Some x) × IsFound x r.owned.shell × (x.role ≡ None)
      → AllFit c (popup_given_to id xdg parent p (xdg_at xdg r.owned.shell) r).owned d.standing
  popup-made id xdg parent p (x, here, found, bare) =
      subst (λ o. AllFit c (popup_given_to id xdg parent p o r).owned d.standing) (sym here)
      (subst (λ n. AllFit c (popup_given_to id n parent p (Some x) r).owned d.standing) (eqb-true x.id xdg (found-passes (λ y. y.id == xdg) r.owned.shell x here))
      (role-made c r.owned d.standing fit x (new_popup id parent p r.peer.requests (asked_so_far x.surface r)) AsPopup found bare (λ y. refl) refl))

  -- a popup goes
  popup-gone : (id xdg : ℕ) → is_object_of XdgPopup (r.peer.objects id) ≡ true → HasId xdg (xdg_with id r.owned.shell)
      → AllFit c (record { surfaces = r.owned.surfaces; shell = with_xdg_change xdg without_role r.owned.shell }) d.standing
  popup-gone id xdg live has = at (xdg_with id r.owned.shell) refl has
    where
      at : (o : Option XdgSurface) → xdg_with id r.owned.shell ≡ o → HasId xdg o → AllFit c (record { surfaces = r.owned.surfaces; shell = with_xdg_change xdg without_role r.owned.shell }) d.standing
      at None here has = absurd has
      at (Some x) here has =
          subst (λ n. AllFit c (record { surfaces = r.owned.surfaces; shell = with_xdg_change n without_role r.owned.shell }) d.standing) has
          (role-gone c r.owned d.standing fit x (found-so r.owned.shell is.apart (λ y. is_role id y.role) x here) (popup-stands id r x is.toplevels live here))

  -- a toplevel goes, and its popups are dismissed and have no parent any more
  toplevel-ended : (id xdg top : ℕ) → (x : XdgSurface) × (x.id ≡ xdg) × IsFound x r.owned.shell × (x.surface ≡ top)
      → AllFit c (toplevel_ended id xdg r).owned (without_surface_of c top d.standing)
  toplevel-ended id xdg top (x, named, found, on) =
      subst (λ n. AllFit c (toplevel_ended id n r).owned (without_surface_of c top d.standing)) named
      (subst (λ s. AllFit c (toplevel_ended id x.id r).owned (without_surface_of c s d.standing)) on
      (let test : Popped → Bool = λ p. is_parent_of x.id p.popup in
      let ids : List ℕ = dismissed_with test r.owned.shell in
      let first : Owned = record { surfaces = r.owned.surfaces; shell = dismissing test r.owned.shell } in
      let second : Owned = record { surfaces = r.owned.surfaces; shell = orphaning x.id first.shell } in
      let one : IsFound (dismissed_among ids x) first.shell = found-mapped (dismissed_among ids) x r.owned.shell (dismissing-id ids) (dismissing-surface ids) found in
      let two : IsFound (popup_changed (orphan x.id) (dismissed_among ids x)) second.shell =
      found-mapped (popup_changed (orphan x.id)) (dismissed_among ids x) first.shell (λ y. refl) (λ y. refl) one in
      let fits : AllFit c second d.standing = orphaned-fit c first d.standing (dismissed-fit c r.owned d.standing fit test) x.id in
      subst (λ n. AllFit c (record { surfaces = r.owned.surfaces; shell = with_xdg_change n without_role second.shell }) (without_surface_of c x.surface d.standing)) (dismissing-id ids x)
      (subst (λ s. AllFit c (record { surfaces = r.owned.surfaces; shell = with_xdg_change (dismissed_among ids x).id without_role second.shell }) (without_surface_of c s d.standing))
      (dismissing-surface ids x)
      (toplevel-gone c second d.standing fits (popup_changed (orphan x.id) (dismissed_among ids x)) two))))

  -- ---- all that is demanded

  own-fits : (action : Action) → AllFit c (own_changed action r).owned d.standing
  own-fits (DestroyBuffer id store) = fit
  own-fits action = fit

  asked-fits : (id : ℕ) (request : Request) → AllFit c (record { surfaces = with_change id (asking request) r.owned.surfaces; shell = r.owned.shell }) d.standing
  asked-fits id request =
      with-surfaces (with_change id (asking request) r.owned.surfaces)
      (all-show r.owned.shell r.owned.surfaces (with_change id (asking request) r.owned.surfaces) (request-keeps-all r.owned.surfaces is.tied id request))

  abbrev AfterDemand : Demand → List Window → Type 0
  AfterDemand demand windows = AllFit c (changed_for c demand r d).owned (stacked_for c demand r windows d).standing

  ask-fits : (ask : Ask) (windows : List Window) → IsAllowed r (Asks ask) → AfterDemand (Asks ask) windows
  ask-fits (Own action) windows allowed = own-fits action
  ask-fits (CreateSurface id version) windows allowed = with-surfaces (with_new id r.owned.surfaces) (made-show r.owned.shell id r.owned.surfaces)
  ask-fits (AskSurface id request) windows allowed = asked-fits id request
  ask-fits (GetXdgSurface id version base surface) windows allowed =
      with-shell c r.owned d.standing fit (with_new_xdg id base surface r.owned.shell)
      (λ other. less-same _ _ (new-as (record { id = id; base = base; surface = surface; role = None; configures = []; since = 0 }) other r.owned.shell refl))
  ask-fits (DestroyXdgSurface id) windows allowed = bare-gone id (bare-at r.owned.shell is.apart id allowed.1)
  ask-fits (GetToplevel id version xdg) windows allowed = toplevel-made id xdg (bare-at r.owned.shell is.apart xdg allowed.1)
  ask-fits (Acknowledge xdg serial) windows allowed =
      with-shell c r.owned d.standing fit (with_xdg_change xdg (acknowledging serial) r.owned.shell)
      (λ surface. less-changed xdg surface (acknowledging serial) r.owned.shell (λ y. refl) (acknowledging-less serial))
  ask-fits (ConfigureAgain xdg) windows allowed =
      with-shell c r.owned d.standing fit (with_xdg_change xdg (configuring r.peer.serial) r.owned.shell)
      (λ surface. less-changed xdg surface (configuring r.peer.serial) r.owned.shell (λ y. refl) (λ y. less-same _ _ refl))
  ask-fits ask windows allowed = fit

  mode-fits : (link : ℕ) (b : Bool) (windows : List Window) → AfterDemand (SetMode link b) windows
  mode-fits link true windows =
      with-surfaces (synchronised_in link r.owned.surfaces)
      (all-show r.owned.shell r.owned.surfaces (synchronised_in link r.owned.surfaces) (mode-keeps-all r.owned.surfaces link true))
  mode-fits link false windows = with-surfaces (desynchronised_in link r.owned.surfaces) (mode-shows r.owned.surfaces r.owned.shell is.once is.numbered is.roots link)

  drawn-fits : (b : Bool) (q : Resident) → AllFit c q.owned d.standing → AllFit c (drawing b q).owned d.standing
  drawn-fits true q fits = fits
  drawn-fits false q fits = fits

  repositioned-fits : (where_to : Placing) (p : Positioner) (o : Option Popped) → AllFit c (popup_repositioned where_to p o r).owned d.standing
  repositioned-fits where_to p None = fit
  repositioned-fits where_to p (Some q) =
      let step : XdgSurface → XdgSurface = repositioning (is_configured q) r.peer.serial (where_to (copying p q.popup)) p in
      drawn-fits (is_configured q) (xdg_changed q.xdg.id step r)
      (with-shell c r.owned d.standing fit (with_xdg_change q.xdg.id step r.owned.shell)
      (λ surface. less-changed q.xdg.id surface step r.owned.shell (repositioned-surface (is_configured q) r.peer.serial (where_to (copying p q.popup)) p)
      (repositioning-less (is_configured q) r.peer.serial (where_to (copying p q.popup)) p)))

  grabbed-fits : (b : Bool) (xdg : ℕ) → AllFit c (grabbed b xdg r).owned d.standing
  grabbed-fits true xdg =
      with-shell c r.owned d.standing fit (with_xdg_change xdg (popup_changed with_grab) r.owned.shell)
      (λ surface. less-changed xdg surface (popup_changed with_grab) r.owned.shell (λ y. refl) (λ y. less-same _ _ (popup-known with_grab (λ p. refl) y.role)))
  grabbed-fits false xdg = dismissed-fit c r.owned d.standing fit (λ p. p.xdg.id == xdg)

  pub demand-fits : (demand : Demand) (windows : List Window) → IsAllowed r demand → IsWell r demand → AfterDemand demand windows
  demand-fits (Asks ask) windows allowed well = ask-fits ask windows allowed
  demand-fits (EndSurface id) windows allowed well =
      with-surfaces (destroyed_in id r.owned.surfaces) (destroyed-show r.owned.surfaces r.owned.shell is.once is.numbered is.roots id allowed.1)
  demand-fits (AskFrame id version surface) windows allowed well = asked-fits surface (Frame r.peer.requests)
  demand-fits (CommitTree id) windows allowed well = committed (placement_now c r d) id well
  demand-fits (GetSubsurface id version child parent) windows allowed well =
      with-surfaces (linked r.peer.requests child parent r.owned.surfaces)
      (all-show r.owned.shell r.owned.surfaces (linked r.peer.requests child parent r.owned.surfaces)
      (link-keeps-all r.owned.surfaces is.tied r.peer.requests child parent is.fresh))
  demand-fits (EndSubsurface id) windows allowed well =
      with-surfaces (unlinked_at (link_with_id id r) r.owned.surfaces) (unlinked-shows r.owned.surfaces r.owned.shell is.once is.numbered is.roots (link_with_id id r))
  demand-fits (SetMode link synchronised) windows allowed well = mode-fits link synchronised windows
  demand-fits (GetPointer id version) windows allowed well = drawn-fits (has_focus c d.pointer.focus) (record r { pointers = in_rising_order id r.pointers }) fit
  demand-fits (MakeCursor surface) windows allowed well =
      with-surfaces (with_change surface (with_role AsCursor) r.owned.surfaces) (role-shows r.owned.shell surface AsCursor r.owned.surfaces)
  demand-fits (GetPopup id version xdg parent p) windows allowed well = popup-made id xdg parent p (bare-at r.owned.shell is.apart xdg allowed.1)
  demand-fits (Reposition xdg token p) windows allowed well = repositioned-fits (placement_now c r d) p (popup_at xdg r.owned.shell)
  demand-fits (Grab xdg serial) windows allowed well = grabbed-fits (grab_allowed c xdg serial r d) xdg
  demand-fits (EndPopup id xdg) windows allowed well = popup-gone id xdg allowed.0 allowed.1
  demand-fits (EndToplevel id xdg top) windows allowed well = toplevel-ended id xdg top (top-with r.owned.shell is.apart id xdg top allowed.1 allowed.2)
  demand-fits (Move surface serial) windows allowed well = fit

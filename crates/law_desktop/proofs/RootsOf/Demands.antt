-- What each demand changes of the windows.
use Rattle.std.specs.Prelude.{◌==◌, filter}
use Rattle.std.proofs.Common.{None, Option, ◌≡◌, ℕ, Bool, true, false, cond, Some, [], ◌∷◌, ◌++◌, map, refl, ap, sym, subst, ◌∙◌}
use Rattle.std.specs.Option.{option_and_then, option_map}
use Rattle.std.proofs.lemmas.Bool.{eqb-true}
use Rattle.spec_desktop.specs.Peer.{Peer}
use Rattle.wl_surface.specs.Request.{Frame}
use Rattle.wl_surface.specs.declared.role.Role.TheVariants.{Cursor as AsCursor, Popup as AsPopup, Toplevel as AsToplevel}
use Rattle.wl_surface.specs.Surfaces.{Surfaces, link_at, with_new}
use Rattle.wl_shell.specs.Popups.{Popped, dismissing, first_of, is_parent_of, is_popup_mapped, new_popup, orphaning, popped_of, popup_at, popup_changed, with_grab}
use Rattle.wl_shell.specs.Popups.{copying, is_configured, repositioning}
use Rattle.wl_shell.specs.Shell.{Shell, XdgSurface, acknowledging, configuring, new_toplevel, with_change as with_xdg, without_role, without_xdg, xdg_at}
use Rattle.spec_desktop.specs.Stacking.{Owned}
use Rattle.spec_desktop.specs.Ask.{Acknowledge, AskSurface, ConfigureAgain, CreateSurface, DestroyXdgSurface, EndObject, GetToplevel, GetXdgSurface, Ignore, Own}
use Rattle.spec_desktop.specs.Changing.{grab_allowed, grabbed, has_focus, popup_given_to, Placing, placement_now, popup_repositioned}
use Rattle.spec_desktop.specs.Demand.{AskFrame, Asks, Demand, EndPopup, EndSubsurface, EndSurface, GetPointer, GetPopup, GetSubsurface, Grab, MakeCursor, Move, SetMode, Reposition}
use Rattle.spec_desktop.specs.Desktop.{Desktop, Resident, client_at, owned_in, owned_of}
use Rattle.spec_desktop.specs.Step.{asked_so_far, toplevel_given, with_peer, xdg_changed}
use Rattle.spec_desktop.specs.WlSubsurface.{subsurface_at}
use Rattle.wl_surface.specs.Hanging.{AreNumbered, AreTied}
use Rattle.wl_surface.specs.TreeLaws.{AreOnceLinked}
use Rattle.law_desktop.specs.TreeStepsLaws.{KeepsAll, KeepsOthers}
use Rattle.law_desktop.proofs.TreeSteps.Commits.{request-keeps-all, role-keeps-all}
use Rattle.law_desktop.proofs.TreeSteps.Ends.{destruction-keeps-others}
use Rattle.law_desktop.proofs.TreeSteps.Modes.{mode-keeps-all}
use Rattle.law_desktop.specs.Changes.{HasTrees, StaysPainted}
use Rattle.law_desktop.specs.Done.{HasNoRole, IsDone, IsMeant}
use Rattle.law_desktop.specs.DemandLaws.{CommitsChangeOneToplevel, GrabsChangeNoWindow, ModesChangeOneToplevel, PopupEndsChangeOneToplevel, RequestsChangeNoWindow, RolesChangeNoWindow}
use Rattle.law_desktop.specs.DemandLaws.{StatesChangeNoWindow, SubsurfaceEndsChangeOneToplevel, SurfaceEndsChangeOneToplevel, ToplevelEndsChangeOneToplevel, RepositionsChangeNoWindow}
use Rattle.law_desktop.specs.StackedWith.{ChangesAt, ChangesWith, IsStackedAs, popup_of}
use Rattle.law_desktop.specs.Toplevel.{ChangesToplevel}
use Rattle.law_desktop.proofs.RootsOf.Toplevels.{toplevel-end-changes}
use Rattle.law_desktop.proofs.RootsOf.Kept.{surfaces_in}
use Rattle.law_desktop.proofs.RootsOf.Shells.{there-top}
use Rattle.law_desktop.proofs.Lists.Keys.{found-by, found-passes, unmapped}
use Rattle.law_desktop.proofs.Marks.Stacks.{equal-numbers}
use Rattle.law_desktop.specs.Soundness.{IsNoChild}
use Rattle.spec_desktop.specs.Windows.{StackedPopup}
use Rattle.law_desktop.proofs.RootsOf.Alike.{changed-keeps}
use Rattle.law_desktop.proofs.RootsOf.Commits.{commit-changes, own-root, toplevel-unpopped}
use Rattle.law_desktop.proofs.RootsOf.Created.{created-painted}
use Rattle.law_desktop.proofs.RootsOf.Dismissed.{dismissed-painted}
use Rattle.law_desktop.proofs.RootsOf.Painted.{KeepsStacked}
use Rattle.law_desktop.proofs.RootsOf.PopupEnds.{popup-end-changes}
use Rattle.law_desktop.proofs.RootsOf.Popped.{IsPopped, IsThere, KeepsPopups}
use Rattle.law_desktop.proofs.RootsOf.Requests.{acknowledging-keeps, acknowledging-stacked, changed-stacked, configuring-keeps, configuring-stacked, desynchronised, ended, given, grab-keeps}
use Rattle.law_desktop.proofs.RootsOf.Requests.{grab-stacked, kept, kept-by, same-keeps, tree-kept, repositioning-keeps, repositioning-stacked}
use Rattle.law_desktop.proofs.RootsOf.Unroled.{changed-painted, gone-painted, new-painted}
use Rattle.law_desktop.proofs.Runs.Following.{drawing-owned}
use Rattle.wl_shell.specs.Positioner.{Positioner}

module _ (c : ℕ) (r : Resident) (p : Peer) (d e : Desktop) (had : HasTrees d) (has : HasTrees e) (here : client_at c d ≡ Some r) where
  abbrev all : Surfaces
  all = r.owned.surfaces

  pub was-owned : owned_in d c ≡ r.owned
  was-owned = ap owned_of here

  was : (owned_in d c).surfaces ≡ all
  was = ap (λ (o : Owned). o.surfaces) was-owned

  once : AreOnceLinked all.links
  once = subst (λ (x : Surfaces). AreOnceLinked x.links) was (had.once c)

  numbered : AreNumbered all.links
  numbered = subst (λ (x : Surfaces). AreNumbered x.links) was (had.numbered c)

  tied : AreTied all
  tied = subst (λ (x : Surfaces). AreTied x) was (had.tied c)

  module _ (demand : Demand) (done : IsDone c demand (with_peer p r) d e) (stack : e.standing ≡ d.standing) where
    -- nothing that counts changes, and nothing of the shell
    still : (o : Owned) → owned_in e c ≡ o → o.shell ≡ r.owned.shell → KeepsAll all o.surfaces → StaysPainted d e
    still o own shell keeps =
        kept c d e had has done.others stack all was o.surfaces (ap (λ (o : Owned). o.surfaces) own) keeps
        (ap (λ (o : Owned). o.shell) own ∙ (shell ∙ ap (λ (o : Owned). o.shell) (sym was-owned)))

    -- or one xdg_surface
    still-by : (o : Owned) → owned_in e c ≡ o → o.surfaces ≡ all → (f : XdgSurface → XdgSurface) → KeepsPopups f → KeepsStacked f → o.shell ≡ map f r.owned.shell → StaysPainted d e
    still-by o own surfaces f keeps stacks shell =
        kept-by c d e had has done.others stack all was all (ap (λ (o : Owned). o.surfaces) own ∙ surfaces) (same-keeps all) f keeps stacks
        (ap (λ (o : Owned). o.shell) own ∙ (shell ∙ ap (λ (o : Owned). map f o.shell) (sym was-owned)))

    one-tree : (id : ℕ) (o : Owned) → owned_in e c ≡ o → o.shell ≡ r.owned.shell → KeepsOthers id all o.surfaces → ChangesAt (Some id) c d e
    one-tree id o own shell keeps =
        tree-kept c d e had has done.others stack all was id o.surfaces (ap (λ (o : Owned). o.surfaces) own) keeps
        (ap (λ (o : Owned). o.shell) own ∙ (shell ∙ ap (λ (o : Owned). o.shell) (sym was-owned)))

    same-shell : (o : Owned) → owned_in e c ≡ o → o.shell ≡ r.owned.shell → (owned_in e c).shell ≡ (owned_in d c).shell
    same-shell o own shell = ap (λ (o : Owned). o.shell) own ∙ (shell ∙ ap (λ (o : Owned). o.shell) (sym was-owned))

pub commits-change : CommitsChangeOneToplevel
commits-change surface c r p d e had has here meant done = commit-changes c surface (with_peer p r) d e had has (was-owned c r p d e had has here) done

pub surface-ends-change : SurfaceEndsChangeOneToplevel
surface-ends-change id c r p d e had has here meant done =
    one-tree c r p d e had has here (EndSurface id) done done.stack id _ done.own refl
    (destruction-keeps-others r.owned.surfaces (once c r p d e had has here) (numbered c r p d e had has here) id)

pub subsurface-ends-change : SubsurfaceEndsChangeOneToplevel
subsurface-ends-change id c r p d e had has here meant done =
    ended c d e had has done.others done.stack r.owned.surfaces (was c r p d e had has here)
    (same-shell c r p d e had has here (EndSubsurface id) done done.stack _ done.own refl) (subsurface_at id r) (ap (λ (o : Owned). o.surfaces) done.own)

pub modes-change : ModesChangeOneToplevel
modes-change link true c r p d e had has here meant done =
    still c r p d e had has here (SetMode link true) done done.stack _ done.own refl (mode-keeps-all r.owned.surfaces link true)
modes-change link false c r p d e had has here meant done =
    desynchronised c d e had has done.others done.stack r.owned.surfaces (was c r p d e had has here)
    (same-shell c r p d e had has here (SetMode link false) done done.stack _ done.own refl) link (link_at link r.owned.surfaces) refl (ap (λ (o : Owned). o.surfaces) done.own)

pub requests-change : RequestsChangeNoWindow
requests-change = record {
  create_surface = λ id version c r p d e had has here meant done.
      created-painted c id d e had done.others done.stack
      (ap (λ (o : Owned). o.surfaces) done.own ∙ ap (λ (all : Surfaces). with_new id all) (sym (was c r p d e had has here)))
      (same-shell c r p d e had has here (Asks (CreateSurface id version)) done done.stack _ done.own refl);
  ask_surface = λ id request c r p d e had has here meant done.
      still c r p d e had has here (Asks (AskSurface id request)) done done.stack _ done.own refl (request-keeps-all r.owned.surfaces (tied c r p d e had has here) id request);
  ask_frame = λ id version surface c r p d e had has here meant done.
      still c r p d e had has here (AskFrame id version surface) done done.stack _ done.own refl
      (request-keeps-all r.owned.surfaces (tied c r p d e had has here) surface (Frame p.requests));
  get_subsurface = λ id version child parent c r p d e had has here meant done.
      given c d e had has done.others done.stack r.owned.surfaces (was c r p d e had has here)
      (same-shell c r p d e had has here (GetSubsurface id version child parent) done done.stack _ done.own refl) p.requests child parent (ap (λ (o : Owned). o.surfaces) done.own);
  get_pointer = λ id version c r p d e had has here meant done.
      still c r p d e had has here (GetPointer id version) done done.stack r.owned (done.own ∙ drawing-owned (has_focus c d.pointer.focus) _) refl (same-keeps r.owned.surfaces);
  make_cursor = λ surface c r p d e had has here meant done.
      still c r p d e had has here (MakeCursor surface) done done.stack _ done.own refl (role-keeps-all r.owned.surfaces surface AsCursor).1;
  move = λ surface serial c r p d e had has here meant done.
      still c r p d e had has here (Move surface serial) done done.stack _ done.own refl (same-keeps r.owned.surfaces);
}

-- a grab is taken, or refused: then a popup that isn't mapped is dismissed, and what is stacked on it
grab-changes-by : (xdg serial c : ℕ) (r : Resident) (p : Peer) (d e : Desktop) → HasTrees d → HasTrees e → client_at c d ≡ Some r → IsMeant (Grab xdg serial) r
    → IsDone c (Grab xdg serial) (with_peer p r) d e → (allowed : Bool) → owned_in e c ≡ (grabbed allowed xdg (with_peer p r)).owned → StaysPainted d e
grab-changes-by xdg serial c r p d e had has here meant done true own =
    still-by c r p d e had has here (Grab xdg serial) done done.stack _ own refl (λ x. cond (x.id == xdg) (popup_changed with_grab x) x)
    (changed-keeps xdg (popup_changed with_grab) grab-keeps) (changed-stacked xdg (popup_changed with_grab) grab-stacked) refl
grab-changes-by xdg serial c r p d e had has here meant done false own =
    dismissed-painted c d e had done.others done.stack (ap (λ (o : Owned). o.surfaces) own ∙ sym (was c r p d e had has here)) (λ p. p.xdg.id == xdg)
    (ap (λ (o : Owned). o.shell) own ∙ ap (λ (o : Owned). dismissing (λ p. p.xdg.id == xdg) o.shell) (sym (was-owned c r p d e had has here))) unmapped
  where
    unmapped : (q : Popped) → IsPopped (owned_in d c).shell q → (q.xdg.id == xdg) ≡ true → is_popup_mapped q ≡ false
    unmapped q popped is =
        meant q
        (ap (λ (o : Owned). popup_at xdg o.shell) (sym (was-owned c r p d e had has here))
        ∙ (ap (λ n. popup_at n (owned_in d c).shell) (sym (eqb-true q.xdg.id xdg is))
        ∙ (ap (λ (o : Option XdgSurface). option_and_then (λ x. first_of (popped_of x)) o) popped.there.by_id ∙ ap first_of popped.its)))

pub grabs-change : GrabsChangeNoWindow
grabs-change xdg serial c r p d e had has here meant done =
    grab-changes-by xdg serial c r p d e had has here meant done (grab_allowed c xdg serial (with_peer p r) d) done.own

-- a popup is placed anew
repositions-by : (xdg token : ℕ) (q : Positioner) (c : ℕ) (r : Resident) (p : Peer) (d e : Desktop) → HasTrees d → HasTrees e → client_at c d ≡ Some r
    → IsDone c (Reposition xdg token q) (with_peer p r) d e → (where_to : Placing) (o : Option Popped) → owned_in e c ≡ (popup_repositioned where_to q o (with_peer p r)).owned → StaysPainted d e
repositions-by xdg token q c r p d e had has here done where_to None own =
    still c r p d e had has here (Reposition xdg token q) done done.stack _ own refl (same-keeps r.owned.surfaces)
repositions-by xdg token q c r p d e had has here done where_to (Some popped) own =
    let change : XdgSurface → XdgSurface = repositioning (is_configured popped) p.serial (where_to (copying q popped.popup)) q in
    still-by c r p d e had has here (Reposition xdg token q) done done.stack _ (own ∙ drawing-owned (is_configured popped) (xdg_changed popped.xdg.id change (with_peer p r))) refl
    (λ x. cond (x.id == popped.xdg.id) (change x) x)
    (changed-keeps popped.xdg.id change (repositioning-keeps (is_configured popped) p.serial (where_to (copying q popped.popup)) q))
    (changed-stacked popped.xdg.id change (repositioning-stacked (is_configured popped) p.serial (where_to (copying q popped.popup)) q)) refl

pub repositions-change : RepositionsChangeNoWindow
repositions-change xdg token q c r p d e had has here meant done =
    repositions-by xdg token q c r p d e had has here done (placement_now c (with_peer p r) d) (popup_at xdg r.owned.shell) done.own

-- a tree whose root is no popup is stacked with its own toplevel
its-own : (c root : ℕ) (d : Desktop) (o : Option ℕ) (q : Option StackedPopup) → q ≡ None → IsStackedAs c root d q o → o ≡ Some root
its-own c root d None None e is = absurd is
its-own c root d (Some t) None e is = ap (λ n. Some n) is
its-own c root d o (Some q) e is = absurd (cc)

pub toplevel-ends-change : ToplevelEndsChangeOneToplevel
toplevel-ends-change id xdg surface c r p d e had has here meant done root t its with =
    subst (λ o. ChangesWith o c d e) (sym (its-own c root d t (popup_of c root d) (subst (λ n. popup_of c n d ≡ None) (sym root-is) unpopped) with))
    (subst (λ n. ChangesToplevel c n d e) (sym root-is)
    (toplevel-end-changes c xdg surface d e had has done.others meant.it there
    (eqb-true meant.it.id xdg (found-passes (λ x. x.id == xdg) r.owned.shell meant.it meant.here)) meant.own meant.role
    (ap (λ (o : Owned). o.surfaces) done.own ∙ sym (was c r p d e had has here))
    (ap (λ (o : Owned). o.shell) done.own
    ∙ ap (λ (o : Owned). with_xdg xdg without_role (orphaning xdg (dismissing (λ p. is_parent_of xdg p.popup) o.shell))) (sym (was-owned c r p d e had has here)))
    done.stack))
  where
    found : xdg_at xdg (owned_in d c).shell ≡ Some meant.it
    found = ap (λ (o : Owned). xdg_at xdg o.shell) (was-owned c r p d e had has here) ∙ meant.here

    there : IsThere (owned_in d c).shell meant.it
    there = record {
      by_id =
          ap (λ n. xdg_at n (owned_in d c).shell) (eqb-true meant.it.id xdg (found-passes (λ x. x.id == xdg) (owned_in d c).shell meant.it found)) ∙ found;
      by_surface =
          found-by (λ surface x. x.surface == surface) (λ x. x.id == xdg) meant.it.surface (owned_in d c).shell meant.it (had.xdg_apart c) found
          (equal-numbers meant.it.surface meant.it.surface refl);
    }

    root-is : root ≡ surface
    root-is = own-root c d had surface root (subst (λ n. IsNoChild n (surfaces_in d c)) meant.own (there-top c d had meant.it there)) its

    unpopped : popup_of c surface d ≡ None
    unpopped = subst (λ n. popup_of c n d ≡ None) meant.own (toplevel-unpopped c d had meant.it there meant.role)

pub popup-ends-change : PopupEndsChangeOneToplevel
popup-ends-change id xdg c r p d e had has here meant done = at (xdg_at xdg r.owned.shell) refl
  where
    at : (o : Option XdgSurface) → xdg_at xdg r.owned.shell ≡ o → ChangesAt (option_map (λ (x : XdgSurface). x.surface) o) c d e
    at None none =
        still c r p d e had has here (EndPopup id xdg) done done.stack _ done.own (unmapped (λ x. x.id == xdg) without_role r.owned.shell none) (same-keeps r.owned.surfaces)
    at (Some x) some =
        let found : xdg_at xdg (owned_in d c).shell ≡ Some x = ap (λ (o : Owned). xdg_at xdg o.shell) (was-owned c r p d e had has here) ∙ some in
        let id-is : x.id ≡ xdg = eqb-true x.id xdg (found-passes (λ x. x.id == xdg) (owned_in d c).shell x found) in
        popup-end-changes c xdg d e had has done.others x
        (record {
          by_id = ap (λ n. xdg_at n (owned_in d c).shell) id-is ∙ found;
          by_surface =
              found-by (λ surface x. x.surface == surface) (λ x. x.id == xdg) x.surface (owned_in d c).shell x (had.xdg_apart c) found
              (equal-numbers x.surface x.surface refl);
        })
        id-is (ap (λ (o : Owned). o.surfaces) done.own ∙ sym (was c r p d e had has here))
        (ap (λ (o : Owned). o.shell) done.own ∙ ap (λ (o : Owned). with_xdg xdg without_role o.shell) (sym (was-owned c r p d e had has here))) done.stack

pub states-change : StatesChangeNoWindow
states-change = record {
  own = λ action c r p d e had has here meant done.
      still c r p d e had has here (Asks (Own action)) done done.stack _ done.own refl (same-keeps r.owned.surfaces);
  end_object = λ id c r p d e had has here meant done.
      still c r p d e had has here (Asks (EndObject id)) done done.stack _ done.own refl (same-keeps r.owned.surfaces);
  acknowledge = λ xdg serial c r p d e had has here meant done.
      still-by c r p d e had has here (Asks (Acknowledge xdg serial)) done done.stack _ done.own refl (λ x. cond (x.id == xdg) (acknowledging serial x) x)
      (changed-keeps xdg (acknowledging serial) (acknowledging-keeps serial)) (changed-stacked xdg (acknowledging serial) (acknowledging-stacked serial)) refl;
  configure_again = λ xdg c r p d e had has here meant done.
      still-by c r p d e had has here (Asks (ConfigureAgain xdg)) done done.stack _ done.own refl (λ x. cond (x.id == xdg) (configuring p.serial x) x)
      (changed-keeps xdg (configuring p.serial) (configuring-keeps p.serial)) (changed-stacked xdg (configuring p.serial) (configuring-stacked p.serial)) refl;
  ignore = λ c r p d e had has here meant done.
      still c r p d e had has here (Asks Ignore) done done.stack _ done.own refl (same-keeps r.owned.surfaces);
}

-- ---- xdg_surfaces without role objects

module _ (c : ℕ) (r : Resident) (p : Peer) (d e : Desktop) (had : HasTrees d) (has : HasTrees e) (here : client_at c d ≡ Some r) (demand : Demand)
    (done : IsDone c demand (with_peer p r) d e) (stack : e.standing ≡ d.standing) (o : Owned) (own : owned_in e c ≡ o) (keeps : KeepsAll r.owned.surfaces o.surfaces) where
  keeps-left : KeepsAll (surfaces_in d c) (surfaces_in e c)
  keeps-left =
      subst (λ (x : Surfaces). KeepsAll (surfaces_in d c) x) (ap (λ (o : Owned). o.surfaces) (sym own))
      (subst (λ (x : Surfaces). KeepsAll x o.surfaces) (sym (was c r p d e had has here)) keeps)

  left-shell : (f : Shell → Shell) → o.shell ≡ f r.owned.shell → (owned_in e c).shell ≡ f (owned_in d c).shell
  left-shell f shell = ap (λ (o : Owned). o.shell) own ∙ (shell ∙ ap (λ (o : Owned). f o.shell) (sym (was-owned c r p d e had has here)))

  -- one comes
  comes : (x : XdgSurface) → x.role ≡ None → o.shell ≡ r.owned.shell ++ x ∷ [] → StaysPainted d e
  comes x bare shell = new-painted c x d e had has done.others stack keeps-left bare (left-shell (λ s. s ++ x ∷ []) shell)

  module _ (xdg : ℕ) (bare : HasNoRole xdg r.owned.shell) where
    bare-there : (x : XdgSurface) → xdg_at xdg (owned_in d c).shell ≡ Some x → x.role ≡ None
    bare-there x found = bare x (ap (λ (o : Owned). xdg_at xdg o.shell) (sym (was-owned c r p d e had has here)) ∙ found)

    -- or goes
    goes : o.shell ≡ without_xdg xdg r.owned.shell → StaysPainted d e
    goes shell = gone-painted c xdg d e had done.others stack keeps-left bare-there (left-shell (without_xdg xdg) shell)

    -- or gets a role object that isn't mapped
    given-role : (change : XdgSurface → XdgSurface) → ((x : XdgSurface) → (change x).id ≡ x.id) → ((x : XdgSurface) → (change x).surface ≡ x.surface)
        → ((x : XdgSurface) → filter is_popup_mapped (popped_of (change x)) ≡ []) → o.shell ≡ with_xdg xdg change r.owned.shell → StaysPainted d e
    given-role change ids surfaces none shell =
        changed-painted c xdg d e had done.others stack keeps-left bare-there change ids surfaces none (left-shell (with_xdg xdg change) shell)

toplevel-given : (id version xdg c : ℕ) (r : Resident) (p : Peer) (d e : Desktop) → HasTrees d → HasTrees e → client_at c d ≡ Some r → IsMeant (Asks (GetToplevel id version xdg)) r
    → IsDone c (Asks (GetToplevel id version xdg)) (with_peer p r) d e → (o : Option XdgSurface) → owned_in e c ≡ (toplevel_given id xdg o (with_peer p r)).owned → StaysPainted d e
toplevel-given id version xdg c r p d e had has here meant done None own =
    still c r p d e had has here (Asks (GetToplevel id version xdg)) done done.stack _ own refl (same-keeps r.owned.surfaces)
toplevel-given id version xdg c r p d e had has here meant done (Some x) own =
    given-role c r p d e had has here (Asks (GetToplevel id version xdg)) done done.stack _ own (role-keeps-all r.owned.surfaces x.surface AsToplevel).1 xdg meant
    (new_toplevel id (asked_so_far x.surface (with_peer p r))) (λ y. refl) (λ y. refl) (λ y. refl) refl

popup-given : (id version xdg parent : ℕ) (q : Positioner) (c : ℕ) (r : Resident) (p : Peer) (d e : Desktop) → HasTrees d → HasTrees e → client_at c d ≡ Some r
    → IsMeant (GetPopup id version xdg parent q) r → IsDone c (GetPopup id version xdg parent q) (with_peer p r) d e → (o : Option XdgSurface)
    → owned_in e c ≡ (popup_given_to id xdg parent q o (with_peer p r)).owned → StaysPainted d e
popup-given id version xdg parent q c r p d e had has here meant done None own =
    still c r p d e had has here (GetPopup id version xdg parent q) done done.stack _ own refl (same-keeps r.owned.surfaces)
popup-given id version xdg parent q c r p d e had has here meant done (Some x) own =
    given-role c r p d e had has here (GetPopup id version xdg parent q) done done.stack _ own (role-keeps-all r.owned.surfaces x.surface AsPopup).1 xdg meant
    (new_popup id parent q p.requests (asked_so_far x.surface (with_peer p r))) (λ y. refl) (λ y. refl) (λ y. refl) refl

pub roles-change : RolesChangeNoWindow
roles-change = record {
  get_xdg_surface = λ id version base surface c r p d e had has here meant done.
      comes c r p d e had has here (Asks (GetXdgSurface id version base surface)) done done.stack _ done.own (same-keeps r.owned.surfaces)
      (record { id = id; base = base; surface = surface; role = None; configures = []; since = 0 }) refl refl;
  destroy_xdg_surface = λ id c r p d e had has here meant done.
      goes c r p d e had has here (Asks (DestroyXdgSurface id)) done done.stack _ done.own (same-keeps r.owned.surfaces) id meant refl;
  get_toplevel = λ id version xdg c r p d e had has here meant done. toplevel-given id version xdg c r p d e had has here meant done (xdg_at xdg r.owned.shell) done.own;
  get_popup = λ id version xdg parent q c r p d e had has here meant done. popup-given id version xdg parent q c r p d e had has here meant done (xdg_at xdg r.owned.shell) done.own;
}

-- A demand that was done changes the windows of the toplevel that is found for the surface that it touches, or none, and what is marked of that
-- is between what has to be marked and what may be.
use Rattle.std.proofs.Common.{◌≡◌, ℕ, true, false, Option, Some, None, List, [], refl, ap, sym, subst, ◌∙◌}
use Rattle.std.proofs.lemmas.List.{append-nil}
use Rattle.std.proofs.lemmas.Option.{none-some}
use Rattle.spec_desktop.specs.Peer.{Peer}
use Rattle.wl_surface.specs.Surfaces.{Surfaces}
use Rattle.wl_shell.specs.Shell.{xdg_of}
use Rattle.spec_desktop.specs.Stacking.{Owned}
use Rattle.spec_desktop.specs.Windows.{Window}
use Rattle.spec_desktop.specs.Changing.{changed_for, link_with_id, placement_now, tree_committed, unlinked_at}
use Rattle.spec_desktop.specs.Demand.{Demand, CommitTree, EndPopup, EndSubsurface, EndSurface, EndToplevel, SetMode}
use Rattle.spec_desktop.specs.Demanding.{effect_of_commit}
use Rattle.spec_desktop.specs.Desktop.{Desktop, Resident, owned_in, owned_of}
use Rattle.spec_desktop.specs.Marks.{AreDistinct, at_least, in_output}
use Rattle.spec_desktop.specs.Moments.{applied_between}
use Rattle.spec_desktop.specs.Stacked.{all_windows}
use Rattle.spec_desktop.specs.Step.{with_peer}
use Rattle.law_desktop.specs.TreeMarksLaws.{AreUndamaged}
use Rattle.law_desktop.specs.TreeStepsLaws.{IsRootOf}
use Rattle.law_desktop.proofs.TreeMarks.Damage.{marks-damage-alone}
use Rattle.law_desktop.specs.Renaming.{AreToldApart, has_surface}
use Rattle.law_desktop.specs.Done.{touched_by}
use Rattle.law_desktop.specs.Marked.{MarksByTreesBetween}
use Rattle.law_desktop.specs.StackedWith.{ChangesAt, ChangesWith, popup_of}
use Rattle.law_desktop.proofs.RootsOf.Each.{demands-change}
use Rattle.law_desktop.proofs.Truth.{and-false}
use Rattle.law_desktop.proofs.RootsOf.Commits.{effect-surfaces}
use Rattle.law_windows.specs.Telling.{TellsTrees}
use Rattle.law_windows.proofs.OneTree.Naming.{commit-there, desync-there, end-there, unlink-there}
use Rattle.law_windows.specs.Runs.Demands.{ChangesFound, NoSurfaceComes, NothingIsMarked, TouchesFound, TouchesNothing}
use Rattle.law_windows.specs.Runs.Lookup.{toplevel_found}
use Rattle.law_windows.specs.Runs.Marks.{IsTold, NoneComes}
use Rattle.law_windows.proofs.OneToplevel.Found.{finds-toplevels}
use Rattle.law_windows.proofs.OneToplevel.Marked.{runs-are-marked}

-- ---- which surfaces are there

unlinked-comes : (o : Option ℕ) (all : Surfaces) → NoneComes all (unlinked_at o all)
unlinked-comes None all surface there = there
unlinked-comes (Some number) all surface there = sym (unlink-there number surface all) ∙ there

touched-comes : (c : ℕ) (demand : Demand) (r : Resident) (d : Desktop) (id : ℕ) → touched_by demand r ≡ Some id → NoneComes r.owned.surfaces (changed_for c demand r d).owned.surfaces
touched-comes c (CommitTree id) r d touched e surface there =
    sym (commit-there id surface r.owned.surfaces)
    ∙ (sym (ap (has_surface surface) (effect-surfaces (placement_now c r d) id (effect_of_commit r id) (xdg_of id r.owned.shell) (tree_committed id r))) ∙ there)
touched-comes c (EndSurface id) r d touched e surface there = end-there id surface r.owned.surfaces there
touched-comes c (EndSubsurface id) r d touched e surface there = unlinked-comes (link_with_id id r) r.owned.surfaces surface there
touched-comes c (SetMode link true) r d touched e surface there = absurd (none-some touched e)
touched-comes c (SetMode link false) r d touched e surface there = sym (desync-there link surface r.owned.surfaces) ∙ there
touched-comes c (EndToplevel id xdg top) r d touched e surface there = there
touched-comes c (EndPopup id xdg) r d touched e surface there = there
touched-comes c demand r d touched e surface there = absurd (none-some touched e)

touched-same : (demand : Demand) (p : Peer) (r : Resident) → touched_by demand (with_peer p r) ≡ touched_by demand r
touched-same (CommitTree id) p r = refl
touched-same (EndSurface id) p r = refl
touched-same (EndSubsurface id) p r = refl
touched-same (SetMode link true) p r = refl
touched-same (SetMode link false) p r = refl
touched-same (EndToplevel id xdg top) p r = refl
touched-same (EndPopup id xdg) p r = refl
touched-same demand p r = refl

pub no-surface-comes : NoSurfaceComes
no-surface-comes c id r p demand d e here done touched surface there =
    ap (λ (o : Option Resident). has_surface surface (owned_of o).surfaces) here
    ∙ touched-comes c demand (with_peer p r) d id (touched-same demand p r ∙ touched) surface (sym (ap (λ (o : Owned). has_surface surface o.surfaces) done.own) ∙ there)

-- ---- where nothing changes

pub nothing-is-marked : NothingIsMarked
nothing-is-marked d e stays x y =
    let whole = sym (append-nil (all_windows d)) in
    ap (λ (ws : List Window). at_least d.output.width d.output.height (applied_between d e) (all_windows d) ws x y) stays.windows
    ∙ (ap (λ (ws : List Window). at_least d.output.width d.output.height (applied_between d e) ws ws x y) whole
    ∙ (marks-damage-alone (all_windows d) [] [] [] (applied_between d e) (subst AreDistinct whole stays.distinct)
    (subst (λ (ws : List Window). AreUndamaged (applied_between d e) ws) whole stays.undamaged) refl d.output.width d.output.height x y
    ∙ and-false (in_output d.output.width d.output.height x y)))

pub touches-nothing : TouchesNothing
touches-nothing c r p demand d e was none =
    let stays = subst (λ (o : Option ℕ). ChangesAt o c d e) none (demands-change demand c r p d e was.trees_before was.trees_after was.here was.meant was.done) in
    record { stays = stays; unmarked = nothing-is-marked d e stays }

-- ---- where a surface is touched

pub touches-found : (A : Type 0) → MarksByTreesBetween → TouchesFound A
touches-found A between c id root r p demand d e was touched its f changes renaming tells =
    at (toplevel_found c root (popup_of c root d) (all_windows d))
    (changes-at root (toplevel_found c root (popup_of c root d) (all_windows d)) (subst (λ (o : Owned). IsRootOf o.surfaces id root) (sym owned) its)
    (finds-toplevels c root d was.trees_before))
  where
    owned : owned_in d c ≡ r.owned
    owned = ap owned_of was.here

    changes-at : ChangesAt (Some id) c d e
    changes-at = subst (λ (o : Option ℕ). ChangesAt o c d e) touched (demands-change demand c r p d e was.trees_before was.trees_after was.here was.meant was.done)

    told : IsTold c d e f changes
    told = record {
      shown_before = was.shown_before;
      shown_after = was.shown_after;
      apart = subst (λ (o : Owned). AreToldApart f o.surfaces) (sym owned) renaming.apart;
      stay = no-surface-comes c id r p demand d e was.here was.done touched;
      tells = subst (λ (o : Owned). TellsTrees f changes o.surfaces (owned_in e c).surfaces) (sym owned)
          (subst (λ (o : Owned). TellsTrees f changes r.owned.surfaces o.surfaces) (sym was.done.own) tells);
    }

    at : (o : Option ℕ) → ChangesWith o c d e → ChangesFound o c d e f changes
    at None stays = record { stays = stays; unmarked = nothing-is-marked d e stays }
    at (Some t) step = record { step = step; marks = runs-are-marked A between c t d e step f changes told }

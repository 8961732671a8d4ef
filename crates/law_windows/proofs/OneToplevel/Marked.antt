-- What is marked of the windows stacked with one toplevel that a step changes, told by other names, is between what the step has to mark and
-- what it may.
use Rattle.std.proofs.Common.{◌≡◌, ℕ, ◌==◌, Bool, true, false, Option, Some, None, List, [], ◌∷◌, ◌++◌, map, refl, ap, sym, subst, ◌∙◌}
use Rattle.std.specs.Prelude.{ℤ, ◌&&◌, ◌||◌, find, nat_lt, pos}
use Rattle.std.specs.List.{All, list_all}
use Rattle.std.specs.Option.{option_map}
use Rattle.std.proofs.lemmas.Bool.{and_from, false_from_ne_true, or_left, or_parts, or_right}
use Rattle.wl_paint.specs.Damage.{has}
use Rattle.wl_surface.specs.Surface.{Surface}
use Rattle.wl_surface.specs.Surfaces.{Surfaces, surface_at}
use Rattle.spec_desktop.specs.Stacking.{Standing, is_of}
use Rattle.spec_desktop.specs.Windows.{Owner, Place, Window, owner_of, surface_windows, tree}
use Rattle.spec_desktop.specs.Desktop.{Desktop}
use Rattle.spec_desktop.specs.Marks.{in_output}
use Rattle.spec_desktop.specs.Moments.{applied_between, marks_at_least, marks_at_most}
use Rattle.law_desktop.proofs.Lists.Standings.{of-client}
use Rattle.law_desktop.proofs.Soundness.Trees.{each-flat}
use Rattle.law_desktop.specs.Standing.{AreTurned}
use Rattle.law_desktop.proofs.KeptRecords.Keeping.StandingTurned.{applied-turned}
use Rattle.law_desktop.proofs.TreeSteps.Owners.{tree-owned}
use Rattle.law_desktop.specs.Renaming.{has_surface}
use Rattle.law_desktop.specs.Marked.{MarksByTreesBetween, marks_by_trees}
use Rattle.law_desktop.specs.StackedWith.{stacked_roots}
use Rattle.law_desktop.specs.Toplevel.{has_toplevel, windows_with, windows_with_standing}
use Rattle.law_desktop.proofs.RootsOf.Kept.{IsRoot, are-roots, surfaces_in, tree_in}
use Rattle.law_desktop.proofs.RootsOf.Staying.{all-each, each-all}
use Rattle.law_desktop.proofs.Truth.{and-left, differ}
use Rattle.law_desktop.proofs.Lists.Each.{Each, each-append, each-both, each-map}
use Rattle.law_desktop.proofs.Lists.Keys.{found-passes}
use Rattle.law_desktop.proofs.Lists.Tests.{all-each as all-so, each-all as so-each}
use Rattle.wl_scene.specs.Repaint.{marks_trees}
use Rattle.law_windows.specs.RenamedMarks.{IsAppliedByName}
use Rattle.law_windows.specs.RenamedWindows.{told_by}
use Rattle.law_windows.specs.ToldWindows.{IsAppliedTo}
use Rattle.law_windows.proofs.OneTree.Shown.{IsShown, tree-shown}
use Rattle.law_windows.proofs.RenamedWindows.Shown.{shows-those-there}
use Rattle.law_windows.proofs.ToldDamage.Shown.{between-is-applied}
use Rattle.law_windows.proofs.TurnedWindows.Told.{each-surface}
use Rattle.law_windows.specs.Runs.Marks.{AddsAtLeast, AddsAtMost, IsThereIn, RunIsTold, RunsAreMarked, RunsAreOfClient, RunsAreThere}
use Rattle.law_windows.proofs.OneToplevel.Told.{marks-trees-by-name, told-together-by-name}

-- ---- each window that is stacked with a toplevel

-- what all windows of trees of the client have
with-each : (P : Window → Type 0) (c t : ℕ) (d : Desktop)
    → ((owner : Owner) (place : Place) → owner.client ≡ c → Each P (tree 17 owner (surfaces_in d c) owner.root place)) → Each P (windows_with c t d)
with-each P c t d trees = at (find (is_of c t) d.standing) refl
  where
    at : (o : Option Standing) → find (is_of c t) d.standing ≡ o → Each P (windows_with_standing d o)
    at None found = tt
    at (Some s) found =
        each-flat P (tree_in d) (stacked_roots d s)
        (each-map (IsRoot s) (λ r. Each P (tree_in d r))
        (λ r is.
        let own : r.client ≡ c = is.client ∙ of-client c t s (found-passes (is_of c t) d.standing s found) in
        subst (λ n. Each P (tree 17 (owner_of r) (surfaces_in d n) r.surface r.place)) (sym own) (trees (owner_of r) r.place own))
        (stacked_roots d s) (are-roots d s))

-- ---- surfaces that are there

-- a surface that isn't there has no tree
hidden-none : (owner : Owner) (all : Surfaces) (surface : ℕ) (place : Place) → surface_at surface all ≡ None → tree 17 owner all surface place ≡ []
unfolding tree
hidden-none owner all surface place e =
    ap (λ (o : Option Surface). surface_windows (λ child at. tree 16 owner all child at) owner all surface place (option_map (λ (s : Surface). s.history) o)) e

root-there : (owner : Owner) (all : Surfaces) (surface : ℕ) (place : Place) → Each (λ w. has_surface surface all ≡ true) (tree 17 owner all surface place)
root-there owner all surface place = at (surface_at surface all) refl
  where
    always : (ws : List Window) → has_surface surface all ≡ true → Each (λ w. has_surface surface all ≡ true) ws
    always [] there = tt
    always (w ∷ ws) there = (there, always ws there)

    at : (o : Option Surface) → surface_at surface all ≡ o → Each (λ w. has_surface surface all ≡ true) (tree 17 owner all surface place)
    at None e = subst (λ (ws : List Window). Each (λ w. has_surface surface all ≡ true) ws) (sym (hidden-none owner all surface place e)) tt
    at (Some s) e = always (tree 17 owner all surface place) (ap (λ (o : Option Surface). is_there o) e)
      where
        is_there : Option Surface → Bool
        is_there None = false
        is_there (Some s) = true

pub there-each : (c t : ℕ) (d : Desktop) → Each (IsThereIn (surfaces_in d c)) (windows_with c t d)
there-each c t d =
    with-each (IsThereIn (surfaces_in d c)) c t d
    (λ owner place own.
    each-both (λ w. has_surface w.surface (surfaces_in d c) ≡ true) (λ w. has_surface w.owner.root (surfaces_in d c) ≡ true) (IsThereIn (surfaces_in d c)) (λ w a b. (a, b))
    (tree 17 owner (surfaces_in d c) owner.root place)
    (each-surface (λ id. has_surface id (surfaces_in d c) ≡ true) (tree 17 owner (surfaces_in d c) owner.root place)
    (λ id has. shows-those-there (surfaces_in d c) 17 owner owner.root place id has))
    (each-both (λ w. w.owner ≡ owner) (λ w. has_surface owner.root (surfaces_in d c) ≡ true) (λ w. has_surface w.owner.root (surfaces_in d c) ≡ true)
    (λ w of there. subst (λ (o : Owner). has_surface o.root (surfaces_in d c) ≡ true) (sym of) there) (tree 17 owner (surfaces_in d c) owner.root place)
    (tree-owned 17 owner (surfaces_in d c) owner.root place) (root-there owner (surfaces_in d c) owner.root place)))

pub runs-are-there : RunsAreThere
runs-are-there c t d = each-all (IsThereIn (surfaces_in d c)) (windows_with c t d) (there-each c t d)

-- ---- transforms

turned-each : (c t : ℕ) (d : Desktop) → AreTurned (surfaces_in d c) → Each (λ w. nat_lt w.transform 8 ≡ true) (windows_with c t d)
turned-each c t d turned =
    with-each (λ w. nat_lt w.transform 8 ≡ true) c t d
    (λ owner place own.
    each-map (IsShown owner (surfaces_in d c)) (λ w. nat_lt w.transform 8 ≡ true)
    (λ w is. ap (λ n. nat_lt n 8) is.transform ∙ applied-turned is.history (turned w.surface is.history is.here))
    (tree 17 owner (surfaces_in d c) owner.root place) (tree-shown owner (surfaces_in d c) 17 owner.root place))

pub runs-are-of-client : RunsAreOfClient
runs-are-of-client c t d e step shown shown' = record {
  owned = all-so (λ w. c == w.owner.client) (step.was ++ step.is)
      (each-map (λ w. has_toplevel c t w ≡ true) (λ w. (c == w.owner.client) ≡ true) (λ w its. and-left (c == w.owner.client) (t == w.owner.toplevel) its) (step.was ++ step.is)
      (so-each (has_toplevel c t) (step.was ++ step.is) step.together));
  numbered = both (λ w. nat_lt w.transform 8) (turned-each c t d (shown.each c).turned) (turned-each c t e (shown'.each c).turned);
}
  where
    both : (p : Window → Bool) → Each (λ w. p w ≡ true) (windows_with c t d) → Each (λ w. p w ≡ true) (windows_with c t e) → list_all p (step.was ++ step.is) ≡ true
    both p one other =
        all-so p (step.was ++ step.is)
        (each-append (λ w. p w ≡ true) step.was step.is (subst (λ (ws : List Window). Each (λ w. p w ≡ true) ws) (sym step.was_of) one)
        (subst (λ (ws : List Window). Each (λ w. p w ≡ true) ws) (sym step.is_of) other))

-- ---- what is told

pub run-is-told : (A : Type 0) → RunIsTold A
run-is-told A c t d e step f changes tells =
    subst (All (IsAppliedByName f changes (applied_between d e))) (sym step.is_of)
    (each-all (IsAppliedByName f changes (applied_between d e)) (windows_with c t e)
    (with-each (IsAppliedByName f changes (applied_between d e)) c t e
    (λ owner place own.
    all-each (IsAppliedByName f changes (applied_between d e)) (tree 17 owner (surfaces_in e c) owner.root place)
    (tells (applied_between d e) owner
    (subst (λ n. IsAppliedTo (applied_between d e) n (surfaces_in d c) (surfaces_in e c)) (sym own) (between-is-applied d e c)) owner.root place))))

-- ---- what is marked

pub runs-are-marked : (A : Type 0) → MarksByTreesBetween → RunsAreMarked A
runs-are-marked A between c t d e step f changes told = record {
  together_before = told-together-by-name f (surfaces_in d c) step.roots step.was told.apart (each-all (IsThereIn (surfaces_in d c)) step.was before) step.was_in_turn;
  together_after = told-together-by-name f (surfaces_in d c) step.roots step.is told.apart (each-all (IsThereIn (surfaces_in d c)) step.is after) step.is_in_turn;
  least = λ x y marked. same x y ∙ (between c t d e step None d.output.width d.output.height x y).0 marked;
  most = λ raised x y marked.
      (between c t d e step raised d.output.width d.output.height x y).1
      (ap (λ b. in_output d.output.width d.output.height x y && b) (sym (same x y)) ∙ marked);
}
  where
    before : Each (IsThereIn (surfaces_in d c)) step.was
    before = subst (λ (ws : List Window). Each (IsThereIn (surfaces_in d c)) ws) (sym step.was_of) (there-each c t d)

    after : Each (IsThereIn (surfaces_in d c)) step.is
    after =
        subst (λ (ws : List Window). Each (IsThereIn (surfaces_in d c)) ws) (sym step.is_of)
        (each-map (IsThereIn (surfaces_in e c)) (IsThereIn (surfaces_in d c)) (λ w there. (told.stay w.surface there.0, told.stay w.owner.root there.1)) (windows_with c t e)
        (there-each c t e))

    same : (x y : ℤ) → marks_trees (map (told_by f) step.was) (map (told_by f) step.is) changes x y ≡ marks_by_trees (applied_between d e) step.was step.is x y
    same x y =
        marks-trees-by-name A f (surfaces_in d c) c step.was step.is told.apart
        (each-all (IsThereIn (surfaces_in d c)) (step.was ++ step.is) (each-append (IsThereIn (surfaces_in d c)) step.was step.is before after))
        (runs-are-of-client c t d e step told.shown_before told.shown_after) changes (applied_between d e) (run-is-told A c t d e step f changes told.tells) x y

-- ---- on what is to be painted

pub adds-at-least : (A : Type 0) → AddsAtLeast A
adds-at-least A d e f changes was is marks old new adds x y wide high clean =
    let both = or_parts (has old x y) _ (sym (adds marks.together_before marks.together_after x y wide high) ∙ clean) in
    (both.0, false_from_ne_true (marks_at_least d e (pos x) (pos y)) (λ marked. differ (sym both.1 ∙ marks.least (pos x) (pos y) marked)))

pub adds-at-most : (A : Type 0) → AddsAtMost A
adds-at-most A d e f changes was is marks old new inside adds raised x y wide high marked = at (has old x y) refl
  where
    at : (b : Bool) → has old x y ≡ b → (has old x y || marks_at_most d e raised (pos x) (pos y)) ≡ true
    at true was_so = or_left (has old x y) _ was_so
    at false clean =
        or_right (has old x y) _
        (marks.most raised (pos x) (pos y)
        (and_from _ _ (inside x y wide high)
        (sym (ap (λ b. b || marks_trees (map (told_by f) was) (map (told_by f) is) changes (pos x) (pos y)) clean)
        ∙ (sym (adds marks.together_before marks.together_after x y wide high) ∙ marked))))

-- What is kept of the windows of the output stands for them whatever numbers the surfaces have that aren't there any more.
use Rattle.std.proofs.Common.{◌≡◌, ℕ, Bool, true, false, Option, Some, None, List, [], ◌∷◌, refl, ap, sym, subst}
use Rattle.std.specs.Prelude.{◌==◌}
use Rattle.std.specs.List.{list_any}
use Rattle.std.specs.Option.{option_map}
use Rattle.std.proofs.lemmas.Bool.{and_from, or_left, or_right}
use Rattle.std.proofs.lemmas.List.Elements.{All-from_recursion}
use Rattle.law_desktop.proofs.Marks.Stacks.{same-number}
use Rattle.law_desktop.proofs.Soundness.Trees.{each-flat}
use Rattle.spec_desktop.specs.Objects.{ById}
use Rattle.wl_surface.specs.State.{History}
use Rattle.wl_surface.specs.Surface.{Surface}
use Rattle.wl_surface.specs.Surfaces.{Surfaces, history_in, surface_at}
use Rattle.spec_desktop.specs.Stacking.{Standing, is_of, shows_buffer}
use Rattle.spec_desktop.specs.Windows.{Owner, Place, Root, Window, owner_of, surface_windows, tree}
use Rattle.spec_desktop.specs.Desktop.{Desktop, owned_in}
use Rattle.spec_desktop.specs.Stacked.{all_windows}
use Rattle.law_desktop.proofs.TreeSteps.Owners.{tree-owned}
use Rattle.law_desktop.specs.Renaming.{has_surface}
use Rattle.law_windows.proofs.OneTree.Naming.{history-there}
use Rattle.law_windows.proofs.RenamedWindows.Shown.{shows-those-there}
use Rattle.law_windows.proofs.TurnedWindows.Told.{each-surface}
use Rattle.wl_scene.specs.declared.stacked.Stacked.{Stacked}
use Rattle.wl_scene.specs.StackedAgreement.{AreStacked}
use Rattle.wl_scene.proofs.Standing.{stacked-renumbered}
use Rattle.law_desktop.specs.Changes.{HasTrees}
use Rattle.law_desktop.specs.StackedWith.{stacked_roots}
use Rattle.law_desktop.proofs.RootsOf.Kept.{IsRoot, are-roots, shown, shown_of, surfaces_in, tree_in}
use Rattle.law_desktop.proofs.Truth.{differ}
use Rattle.law_desktop.proofs.Lists.Each.{Each, each-append, each-both, each-map}

-- ---- the surfaces of windows

-- The toplevel, the root and the surface of each window are there.
abbrev AreThere : Desktop → Window → Type 0
AreThere d w =
    (has_surface w.owner.toplevel (owned_in d w.owner.client).surfaces ≡ true) × (has_surface w.owner.root (owned_in d w.owner.client).surfaces ≡ true)
    × (has_surface w.surface (owned_in d w.owner.client).surfaces ≡ true)

-- a surface that isn't there has no tree
hidden-none : (owner : Owner) (all : Surfaces) (surface : ℕ) (place : Place) → surface_at surface all ≡ None → tree 17 owner all surface place ≡ []
unfolding tree
hidden-none owner all surface place e =
    ap (λ (o : Option Surface). surface_windows (λ child at. tree 16 owner all child at) owner all surface place (option_map (λ (s : Surface). s.history) o)) e

root-there : (owner : Owner) (all : Surfaces) (surface : ℕ) (place : Place) → Each (λ w. has_surface surface all ≡ true) (tree 17 owner all surface place)
root-there owner all surface place = at (surface_at surface all) refl
  where
    always : (ws : List Window) → has_surface surface all ≡ true → Each (λ w. has_surface surface all ≡ true) ws
    always [] there = tt
    always (w ∷ ws) there = (there, always ws there)

    at : (o : Option Surface) → surface_at surface all ≡ o → Each (λ w. has_surface surface all ≡ true) (tree 17 owner all surface place)
    at None e = subst (λ (ws : List Window). Each (λ w. has_surface surface all ≡ true) ws) (sym (hidden-none owner all surface place e)) tt
    at (Some s) e = always (tree 17 owner all surface place) (ap (λ (o : Option Surface). is_there o) e)
      where
        is_there : Option Surface → Bool
        is_there None = false
        is_there (Some s) = true

-- those of a root of a toplevel whose surface is there
tree-there : (d : Desktop) (s : Standing) (r : Root) → IsRoot s r → has_surface s.surface (surfaces_in d s.client) ≡ true → Each (AreThere d) (tree_in d r)
tree-there d s r is top =
    each-both (λ w. w.owner ≡ owner_of r) (λ w. (has_surface r.surface all ≡ true) × (has_surface w.surface all ≡ true)) (AreThere d) turned (tree_in d r)
    (tree-owned 17 (owner_of r) all r.surface r.place)
    (each-both (λ w. has_surface r.surface all ≡ true) (λ w. has_surface w.surface all ≡ true) (λ w. (has_surface r.surface all ≡ true) × (has_surface w.surface all ≡ true))
    (λ w a b. (a, b)) (tree_in d r) (root-there (owner_of r) all r.surface r.place)
    (each-surface (λ id. has_surface id all ≡ true) (tree_in d r) (λ id has. shows-those-there all 17 (owner_of r) r.surface r.place id has)))
  where
    all : Surfaces
    all = surfaces_in d r.client

    own : has_surface r.toplevel (surfaces_in d r.client) ≡ true
    own =
        subst (λ (n : ℕ). has_surface r.toplevel (surfaces_in d n) ≡ true) (sym is.client)
        (subst (λ (n : ℕ). has_surface n (surfaces_in d s.client) ≡ true) (sym is.toplevel) top)

    turned : (w : Window) → w.owner ≡ owner_of r → (has_surface r.surface (surfaces_in d r.client) ≡ true) × (has_surface w.surface (surfaces_in d r.client) ≡ true) → AreThere d w
    turned w of there = (
      subst (λ (o : Owner). has_surface o.toplevel (owned_in d o.client).surfaces ≡ true) (sym of) own,
      subst (λ (o : Owner). has_surface o.root (owned_in d o.client).surfaces ≡ true) (sym of) there.0,
      subst (λ (o : Owner). has_surface w.surface (owned_in d o.client).surfaces ≡ true) (sym of) there.1,
    )

-- the surface of a toplevel that stands
top-there : (d : Desktop) → HasTrees d → (s : Standing) → list_any (is_of s.client s.surface) d.standing ≡ true → has_surface s.surface (surfaces_in d s.client) ≡ true
top-there d trees s stands = at (history_in s.surface (surfaces_in d s.client)) refl (trees.toplevels_show s.client s.surface stands)
  where
    at : (o : Option History) → history_in s.surface (surfaces_in d s.client) ≡ o → shows_buffer o ≡ true → has_surface s.surface (surfaces_in d s.client) ≡ true
    at None e shows = absurd (differ shows)
    at (Some h) e shows = history-there s.surface (surfaces_in d s.client) h e

windows-there : (d : Desktop) → HasTrees d → Each (AreThere d) (all_windows d)
windows-there d trees = each d.standing (λ a b here. here)
  where
    each : (ss : List Standing) → ((a b : ℕ) → list_any (is_of a b) ss ≡ true → list_any (is_of a b) d.standing ≡ true) → Each (AreThere d) (shown_of d ss)
    each [] stand = tt
    each (s ∷ ss) stand =
        each-append (AreThere d) (shown d s) (shown_of d ss)
        (each-flat (AreThere d) (tree_in d) (stacked_roots d s)
        (each-map (IsRoot s) (λ r. Each (AreThere d) (tree_in d r))
        (λ r is. tree-there d s r is
        (top-there d trees s
        (stand s.client s.surface
        (or_left (is_of s.client s.surface s) (list_any (is_of s.client s.surface) ss)
        (and_from (s.client == s.client) (s.surface == s.surface) (same-number s.client) (same-number s.surface))))))
        (stacked_roots d s) (are-roots d s)))
        (each ss (λ a b here. stand a b (or_right (is_of a b s) (list_any (is_of a b) ss) here)))

-- ---- what is kept

-- Where the surfaces that are there keep their numbers, what is kept of the windows goes on standing for them.
pub renumbered : (old new : ℕ → ById ℕ) (all : List Stacked) (d : Desktop) → HasTrees d
    → ((c id : ℕ) → has_surface id (owned_in d c).surfaces ≡ true → new c id ≡ old c id) → AreStacked old all (all_windows d) → AreStacked new all (all_windows d)
renumbered old new all d trees keeps are =
    stacked-renumbered old new all (all_windows d)
    (All-from_recursion (λ w. new w.owner.client w.owner.toplevel ≡ old w.owner.client w.owner.toplevel) (all_windows d)
    (each-map (AreThere d) (λ w. new w.owner.client w.owner.toplevel ≡ old w.owner.client w.owner.toplevel) (λ w there. keeps w.owner.client w.owner.toplevel there.0)
    (all_windows d) (windows-there d trees)))
    (All-from_recursion (λ w. new w.owner.client w.owner.root ≡ old w.owner.client w.owner.root) (all_windows d)
    (each-map (AreThere d) (λ w. new w.owner.client w.owner.root ≡ old w.owner.client w.owner.root) (λ w there. keeps w.owner.client w.owner.root there.1)
    (all_windows d) (windows-there d trees)))
    (All-from_recursion (λ w. new w.owner.client w.surface ≡ old w.owner.client w.surface) (all_windows d)
    (each-map (AreThere d) (λ w. new w.owner.client w.surface ≡ old w.owner.client w.surface) (λ w there. keeps w.owner.client w.surface there.2)
    (all_windows d) (windows-there d trees)))
    are

-- The same where no window changes: those that are there before and after keep theirs.
pub renumbered-since : (old new : ℕ → ById ℕ) (all : List Stacked) (d e : Desktop) → HasTrees d → HasTrees e → all_windows e ≡ all_windows d
    → ((c id : ℕ) → has_surface id (owned_in d c).surfaces ≡ true → has_surface id (owned_in e c).surfaces ≡ true → new c id ≡ old c id)
    → AreStacked old all (all_windows d) → AreStacked new all (all_windows e)
renumbered-since old new all d e trees_d trees_e same keeps are =
    subst (λ (ws : List Window). AreStacked new all ws) (sym same)
    (stacked-renumbered old new all (all_windows d)
    (All-from_recursion (λ w. new w.owner.client w.owner.toplevel ≡ old w.owner.client w.owner.toplevel) (all_windows d)
    (each-both (AreThere d) (AreThere e) (λ w. new w.owner.client w.owner.toplevel ≡ old w.owner.client w.owner.toplevel)
    (λ w a b. keeps w.owner.client w.owner.toplevel a.0 b.0) (all_windows d) (windows-there d trees_d) after))
    (All-from_recursion (λ w. new w.owner.client w.owner.root ≡ old w.owner.client w.owner.root) (all_windows d)
    (each-both (AreThere d) (AreThere e) (λ w. new w.owner.client w.owner.root ≡ old w.owner.client w.owner.root)
    (λ w a b. keeps w.owner.client w.owner.root a.1 b.1) (all_windows d) (windows-there d trees_d) after))
    (All-from_recursion (λ w. new w.owner.client w.surface ≡ old w.owner.client w.surface) (all_windows d)
    (each-both (AreThere d) (AreThere e) (λ w. new w.owner.client w.surface ≡ old w.owner.client w.surface)
    (λ w a b. keeps w.owner.client w.surface a.2 b.2) (all_windows d) (windows-there d trees_d) after))
    are)
  where
    after : Each (AreThere e) (all_windows d)
    after = subst (λ (ws : List Window). Each (AreThere e) ws) same (windows-there e trees_e)

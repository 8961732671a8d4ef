-- A toplevel comes to another place with its popups: what is kept of its windows stands for them there, and what is marked of them tree by
-- tree is what has to be and may be.
use Rattle.std.proofs.Common.{◌≡◌, ◌≤◌, ◌<◌, ℕ, true, false, Option, Some, None, List, [], ◌∷◌, length, map, refl, ap, ap₂, arith, sym, subst, ◌∙◌}
use Rattle.std.specs.Prelude.{◌==◌, ◌||◌, find, is_some, pos, IfSome}
use Rattle.std.specs.List.{list_any}
use Rattle.std.specs.Option.{option_and_then, option_map}
use Rattle.std.proofs.lemmas.List.{length-map}
use Rattle.wl_links.specs.Family.{Tied}
use Rattle.law_desktop.specs.Standing.{HasMappedToplevel, IsMappedToplevel}
use Rattle.law_desktop.proofs.Lists.Keys.{found-any, found-passes}
use Rattle.law_desktop.proofs.Lists.Standings.{of-client, of-surface}
use Rattle.wl_scene.specs.StackedAgreement.{AreNumberedBy, AreNumberedOnce, AreStacked, told_by}
use Rattle.wl_scene.proofs.Standing.{run-is-stacked, stacked-are-told}
use Rattle.law_desktop.specs.Renaming.{IsRenaming, has_surface, renamed}
use Rattle.law_desktop.specs.NamedPopups.{renamed_owned, renamed_root}
use Rattle.law_desktop.proofs.PopupsByNames.Rooted.{roots-named}
use Rattle.law_desktop.specs.Owning.{IsOwned, Names, number_in}
use Rattle.law_desktop.specs.Twins.{IsKeptByNumbers}
use Rattle.law_desktop.proofs.OwnedPopups.Renamed.{order-renamed}
use Rattle.law_desktop.proofs.Keeping.OwningTies.{named-there, number-of-name, renaming-of}
use Rattle.law_desktop.proofs.Twins.{kept-by-numbers}
use Rattle.law_desktop.proofs.Truth.{and-left, differ}
use Rattle.law_desktop.proofs.Lists.Each.{Each, each-map}
use Rattle.law_desktop.proofs.Lists.Tests.{all-each, each-all}
use Rattle.wl_paint.specs.Damage.{Damaged, has}
use Rattle.spec_desktop.specs.Objects.{ById}
use Rattle.spec_desktop.specs.Desktop.{Desktop, Resident, owned_in}
use Rattle.spec_desktop.specs.Marks.{in_output}
use Rattle.spec_desktop.specs.Moments.{marks_at_least, marks_at_most}
use Rattle.spec_desktop.specs.Stacked.{all_windows}
use Rattle.law_windows.proofs.Lists.{all-first, all-second}
use Rattle.law_windows.specs.Runs.Demands.{ChangesRun}
use Rattle.law_windows.specs.Runs.Kept.{IsNumbered}
use Rattle.law_windows.specs.Runs.Marks.{AddsRun, IsThereIn}
use Rattle.law_windows.specs.Runs.Moves.{IsWhole, MovesAreMarked, shifted}
use Rattle.law_windows.specs.Runs.Names.{root_placed, roots_placed}
use Rattle.law_windows.proofs.OneToplevel.Marked.{adds-at-least, adds-at-most, there-each}
use Rattle.law_windows.proofs.OneToplevel.Renamed.{placed-roots-have-runs}
use Rattle.law_windows.proofs.OneToplevel.Shifted.{run-is-of-all, stays-whole}
use Rattle.law_windows.proofs.OneToplevel.Turned.{run-stays, run-was-told}
use Rattle.wl_scene.specs.Roots.{HasRole, IsHeld, standing_at, told_root}
use Rattle.wl_shell.specs.Agreement.{IsKept}
use Rattle.wl_shell.specs.InOrder.{AreRising, HasOrder}
use Rattle.wl_scene.specs.Stacked.{replaced, run_of}
use Rattle.wl_scene.specs.Told.{told_trees}
use Rattle.wl_scene.specs.declared.stacked.Stacked.{Stacked}
use Rattle.spec_desktop.specs.Popups.{stacked_popups}
use Rattle.spec_desktop.specs.Stacking.{Owned, Standing, is_of, root_of}
use Rattle.spec_desktop.specs.Windows.{Owner, Place, Root, Window, roots_of}
use Rattle.wl_surface.specs.State.{History}
use Rattle.wl_surface.specs.Slots.{Slots}
use Rattle.wl_surface.specs.Surfaces.{history_in}
use Rattle.law_desktop.specs.Toplevel.{ChangesToplevel, has_toplevel}
use Rattle.wl_scene.specs.declared.tree_window.TreeWindow.{TreeWindow}
use Rattle.wl_shell.specs.Kept.{Book, Kept, kept_of}
use Rattle.wl_shell.specs.Popups.{popups_of}
use Rattle.wl_shell.specs.Shell.{RoleObject, XdgSurface, xdg_of}
use Rattle.wl_clients.specs.Runs.{MarksRuns, run_told, trees_at}
use Rattle.wl_clients.proofs.OnScreen.Fitting.{run-fits}
use Rattle.wl_clients.proofs.OnScreen.Lengths.{found-shifted, run-as-long}

-- ---- the role of its surface

has-object : (role : Option RoleObject) → IsMappedToplevel role → is_some role ≡ true
has-object None mapped = absurd mapped
has-object (Some object) mapped = refl

-- what is kept of a mapped toplevel has its role object
kept-object : (k : Option Kept) (x : Option XdgSurface) (h : Option History) → IsKept k x h → HasMappedToplevel x → IfSome k (λ k. is_some k.role ≡ true)
kept-object None x h is mapped = tt
kept-object (Some k) None h is mapped = absurd mapped
kept-object (Some k) (Some x) None is mapped = absurd is
kept-object (Some k) (Some x) (Some h) is mapped = ap is_some is.role ∙ has-object x.role mapped

-- what is told of roots by other names
placed-renamed : (f : ℕ → ℕ) (rs : List Root) → map told_root (map (renamed_root f) rs) ≡ map (root_placed f) rs
placed-renamed f [] = refl
placed-renamed f (r ∷ rs) = ap (λ qs. root_placed f r ∷ qs) (placed-renamed f rs)

-- ---- a toplevel that stands

-- A client's surfaces are named by their numbers, and what is kept of the windows stands for those of the desktop.
module _ (A : Type 0) (marked : MovesAreMarked A) (names : Names) (slots : Slots) (tied : Tied) (book : Book) (kept : List Stacked) (nums : ℕ → ById ℕ)
    (c surface k : ℕ) (place : Place) (d : Desktop) (r : Resident) (here : owned_in d c ≡ r.owned) (owns : IsOwned names slots tied (kept_of book) r.owned)
    (own : nums c ≡ names.surfaces) (named : names.surfaces surface ≡ Some k) (are : AreStacked nums kept (all_windows d)) (whole : IsWhole d)
    (order : HasOrder r.owned.shell) (few : length r.owned.surfaces.surfaces ≤ 256) (s : Standing) (found : find (is_of c surface) d.standing ≡ Some s) where
  abbrev f : ℕ → ℕ
  f = number_in names.surfaces

  abbrev e : Desktop
  e = shifted c surface place d

  its : is_of c surface s ≡ true
  its = found-passes (is_of c surface) d.standing s found

  stands : list_any (is_of c surface) d.standing ≡ true
  stands = found-any (is_of c surface) (is_of c surface) d.standing s found its

  after : IsWhole (shifted c surface place d)
  after = (stays-whole c surface place d whole).1

  -- ---- names

  there : has_surface surface r.owned.surfaces ≡ true
  there = sym (owns.surfaces.numbered surface) ∙ ap is_some named

  numbered-by : (id : ℕ) → has_surface id (owned_in d c).surfaces ≡ true → nums c id ≡ Some (number_in names.surfaces id)
  numbered-by id has =
      ap (λ (n : ById ℕ). n id) own
      ∙ named-there names.surfaces r.owned.surfaces owns.surfaces.numbered owns.surfaces.once id (subst (λ (o : Owned). has_surface id o.surfaces ≡ true) here has)

  renaming : IsRenaming (number_in names.surfaces) (owned_in d c).surfaces
  renaming =
      subst (λ (o : Owned). IsRenaming (number_in names.surfaces) o.surfaces) (sym here)
      (renaming-of names.surfaces slots tied r.owned.surfaces owns.surfaces)

  changes : ChangesRun {A = A} c surface d (shifted c surface place d) (number_in names.surfaces) []
  changes = marked c surface place d (number_in names.surfaces) [] refl whole stands renaming.apart

  abbrev step : ChangesToplevel c surface d (shifted c surface place d)
  step = changes.step

  numbered : IsNumbered nums kept c surface k (number_in names.surfaces) d (shifted c surface place d)
  numbered = record {
    are = are;
    named = ap (λ (n : ById ℕ). n surface) own ∙ named;
    once = subst AreNumberedOnce (sym own) owns.surfaces.once;
    by = numbered-by;
    stay = λ id has. has;
  }

  told-before : run_told c k kept ≡ map (told_by (number_in names.surfaces)) changes.step.was
  told-before = (run-was-told nums kept c surface k f d e step numbered).0

  named-after : AreNumberedBy (nums c) (number_in names.surfaces) changes.step.is
  named-after = (run-was-told nums kept c surface k f d e step numbered).1

  -- ---- what is kept of its popups

  twin : IsKeptByNumbers names slots tied (kept_of book) r.owned
  twin = kept-by-numbers names slots tied (kept_of book) r.owned owns

  abbrev o : Owned
  o = renamed_owned f r.owned

  held : IsHeld slots tied book (renamed_owned (number_in names.surfaces) r.owned)
  held = record { surfaces = twin.surfaces; shell = twin.shell }

  order-held : HasOrder (renamed_owned (number_in names.surfaces) r.owned).shell
  order-held = order-renamed f r.owned.shell order

  has-role : HasRole book k
  has-role =
      kept-object (kept_of book k) (xdg_of surface r.owned.shell) (history_in surface r.owned.surfaces)
      (subst (λ (q : Option Kept). IsKept q (xdg_of surface r.owned.shell) (history_in surface r.owned.surfaces)) (ap (option_and_then (kept_of book)) named)
      (owns.shell.each surface))
      (subst (λ (o : Owned). HasMappedToplevel (xdg_of surface o.shell)) here (whole.trees.mapped c surface stands))

  -- ---- its roots at their new places

  found-after : find (is_of c surface) (shifted c surface place d).standing ≡ Some (standing_at c surface place.x place.y)
  found-after =
      found-shifted c surface place d.standing
      ∙ (ap (option_map (λ (s : Standing). record s { place = place })) found
      ∙ ap₂ (λ m n. Some (standing_at m n place.x place.y)) (of-client c surface s its) (of-surface c surface s its))

  abbrev roots_by : Owned → List Root
  roots_by o = roots_of o.surfaces (root_of (λ _. o) (standing_at c surface place.x place.y)) (stacked_popups o)

  roots-told : map told_root
      (roots_of (renamed_owned (number_in names.surfaces) r.owned).surfaces (root_of (λ _. renamed_owned (number_in names.surfaces) r.owned) (standing_at c k place.x place.y))
      (stacked_popups (renamed_owned (number_in names.surfaces) r.owned)))
      ≡ roots_placed (number_in names.surfaces) (shifted c surface place d) (find (is_of c surface) (shifted c surface place d).standing)
  roots-told =
      ap (λ n. map told_root (roots_of o.surfaces (root_of (λ _. o) (standing_at c n place.x place.y)) (stacked_popups o))) (sym (number-of-name names.surfaces surface k named))
      ∙ (ap (map told_root) (roots-named f r.owned (standing_at c surface place.x place.y) twin.renames there)
      ∙ (placed-renamed f (roots_by r.owned)
      ∙ (ap (λ (w : Owned). map (root_placed f) (roots_by w)) (sym here) ∙ ap (roots_placed f e) (sym found-after))))

  -- the windows of their trees
  trees : (owner : Owner) → trees_at (renamed_owned (number_in names.surfaces) r.owned) owner c k place.x place.y ≡ map (told_by (number_in names.surfaces)) changes.step.is
  trees owner =
      ap (told_trees owner (renamed f r.owned.surfaces)) roots-told
      ∙ (ap (λ (w : Owned). told_trees owner (renamed f w.surfaces) (roots_placed f e (find (is_of c surface) e.standing))) (sym here)
      ∙ (placed-roots-have-runs f owner c surface e after.trees renaming ∙ ap (map (told_by f)) (sym step.is_of)))

  -- ---- how many they are

  long-before : length (run_of c k kept) ≡ length changes.step.was
  long-before =
      sym (length-map (run_of c k kept) (λ (s : Stacked). s.window)) ∙ (ap (λ (ws : List TreeWindow). length ws) told-before ∙ length-map step.was (told_by f))

  as-long : length changes.step.is ≡ length changes.step.was
  as-long =
      ap (λ (ws : List Window). length ws) step.is_of ∙ (run-as-long c surface place d ∙ ap (λ (ws : List Window). length ws) (sym step.was_of))

  long : (owner : Owner) → length (trees_at (renamed_owned (number_in names.surfaces) r.owned) owner c k place.x place.y) ≡ length (run_of c k kept)
  long owner = ap (λ (ws : List TreeWindow). length ws) (trees owner) ∙ (length-map step.is (told_by f) ∙ (as-long ∙ sym long-before))

  few-before : length changes.step.was ≤ 256
  few-before =
      let fits = run-fits c surface (owned_in d c).surfaces step.below step.was step.above (all-first (has_toplevel c surface) step.was step.is step.together) step.distinct_before
      (subst (λ (ws : List Window). Each (IsThereIn (owned_in d c).surfaces) ws) (sym step.was_of) (there-each c surface d)) in
      let most : length (owned_in d c).surfaces.surfaces ≤ 256 = subst (λ (w : Owned). length w.surfaces.surfaces ≤ 256) (sym here) few in
      omega (arith, fits, most)

  -- ---- once they are put there

  module _ (now : List Stacked) (puts : (o : Owned) (owner : Owner) → IsHeld slots tied book o → AreRising (popups_of o.shell) → HasRole book k → length o.shell ≤ 256
      → length (trees_at o owner c k place.x place.y) ≡ length (run_of c k kept) → now ≡ replaced c k (trees_at o owner c k place.x place.y) kept) where
    put : now ≡ replaced c k (map (told_by (number_in names.surfaces)) changes.step.is) kept
    put =
        let owner : Owner = record { client = c; root = k; toplevel = k } in
        puts o owner held order-held.rising has-role order-held.few (long owner) ∙ ap (λ (ws : List TreeWindow). replaced c k ws kept) (trees owner)

    pub stacked-put : AreStacked nums now (all_windows (shifted c surface place d))
    stacked-put =
        subst (λ (ks : List Stacked). AreStacked nums ks (all_windows e)) (sym put)
        (run-stays nums kept c surface k f d e step numbered whole.trees (λ none. absurd (differ (sym none ∙ stands))))

    told-after : run_told c k now ≡ map (told_by (number_in names.surfaces)) changes.step.is
    told-after =
        stacked-are-told nums (run_of c k now) step.is c f
        (subst (λ (ws : List Window). AreStacked nums (run_of c k now) ws) (run-is-of-all c surface e after.trees ∙ sym step.is_of)
        (run-is-stacked nums now (all_windows e) c surface k stacked-put numbered.named numbered.once))
        (all-each (λ w. c == w.owner.client) step.is
        (each-map (λ w. has_toplevel c surface w ≡ true) (λ w. (c == w.owner.client) ≡ true) (λ w with_it. and-left (c == w.owner.client) (surface == w.owner.toplevel) with_it) step.is
        (each-all (has_toplevel c surface) step.is (all-second (has_toplevel c surface) step.was step.is step.together)))) named-after

    few-after : length (run_of c k now) ≤ 256
    few-after =
        let told = sym (length-map (run_of c k now) (λ (s : Stacked). s.window)) ∙ (ap (λ (ws : List TreeWindow). length ws) told-after ∙ length-map step.is (told_by f)) in
        subst (λ n. n ≤ 256) (sym (told ∙ as-long)) few-before

    -- what is marked of them is what has to be, and may be
    module _ (old new : Damaged) (points : length (run_of c k kept) ≤ 256 → length (run_of c k now) ≤ 256 → MarksRuns A (run_told c k kept) (run_told c k now) old new) where
      adds : AddsRun {A = A} (number_in names.surfaces) [] changes.step.was changes.step.is old new
      adds =
          subst (λ (ws : List TreeWindow). MarksRuns A ws (map (told_by f) step.is) old new) told-before
          (subst (λ (ws : List TreeWindow). MarksRuns A (run_told c k kept) ws old new) told-after (points (subst (λ n. n ≤ 256) (sym long-before) few-before) few-after))

      pub least-put : (x y : ℕ) → x < old.width → y < old.height → has new x y ≡ false
          → (has old x y ≡ false) × (marks_at_least d (shifted c surface place d) (pos x) (pos y) ≡ false)
      least-put = adds-at-least A d e f [] step.was step.is changes.marks old new adds

      pub most-put : ((x y : ℕ) → x < old.width → y < old.height → in_output d.output.width d.output.height (pos x) (pos y) ≡ true)
          → (x y : ℕ) → x < old.width → y < old.height → has new x y ≡ true → (has old x y || marks_at_most d (shifted c surface place d) None (pos x) (pos y)) ≡ true
      most-put inside = adds-at-most A d e f [] step.was step.is changes.marks old new inside adds None

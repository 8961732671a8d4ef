-- Which windows have a tree that changed: where the records of one tree's windows differ, all of them, and where they don't, none.
use Rattle.std.proofs.Common.{◌≡◌, ℕ, Bool, true, false, List, ◌++◌, refl, ap, ◌∙◌}
use Rattle.std.specs.Prelude.{ℤ, ◌&&◌, ◌||◌, None, Option, not, filter}
use Rattle.std.specs.List.{list_all, list_any}
use Rattle.std.proofs.lemmas.Bool.{and_from, and_right, or_from, or_left, or_right}
use Rattle.std.proofs.lemmas.List.Elements.{filter-append}
use Rattle.std.proofs.lemmas.List.{append-nil}
use Rattle.spec_desktop.specs.Windows.{Window, contains}
use Rattle.spec_desktop.specs.Marks.{at_least, has_changed_tree, in_output, is_allowed_at, is_of_tree, is_raised, same_records}
use Rattle.law_desktop.specs.TreeMarksLaws.{IsOneTree, MarksNothingMore, MayMarkWholeTree, among, is_in_any}
use Rattle.law_desktop.proofs.Lists.Tests.{any-as, any-each-more, any-first, any-none, any-second, each-false}
use Rattle.law_desktop.proofs.Lists.Tests.{each-all, filter-all, filter-none, none-first, none-second, none-turned}
use Rattle.law_desktop.proofs.TreeMarks.Records.{records-self, tree-turned}
use Rattle.law_desktop.proofs.Truth.{and-left, and-right, either-of}
use Rattle.law_desktop.proofs.Lists.Each.{Each, each-append, each-both, each-first, each-map, each-of, each-second}

-- ---- the tree of a window among the others

-- of the tree's windows, those of the tree are left, all of them
tree-left : (below above ws : List Window) (w : Window) → Each (λ v. is_of_tree w v ≡ true) ws → list_any (is_of_tree w) (below ++ above) ≡ false
    → filter (is_of_tree w) (among below above ws) ≡ ws
tree-left below above ws w all none =
    filter-append (is_of_tree w) below (ws ++ above)
    ∙ ap (λ xs. xs ++ filter (is_of_tree w) (ws ++ above)) (filter-none (is_of_tree w) below (none-first (is_of_tree w) below above none))
    ∙ filter-append (is_of_tree w) ws above
    ∙ ap (λ xs. xs ++ filter (is_of_tree w) above) (filter-all (is_of_tree w) ws all)
    ∙ ap (λ xs. ws ++ xs) (filter-none (is_of_tree w) above (none-second (is_of_tree w) below above none))
    ∙ append-nil ws

-- of another window's tree none of the tree's windows is left
others-left : (below above ws : List Window) (w : Window) → list_any (is_of_tree w) ws ≡ false
    → filter (is_of_tree w) (among below above ws) ≡ filter (is_of_tree w) below ++ filter (is_of_tree w) above
others-left below above ws w none =
    filter-append (is_of_tree w) below (ws ++ above)
    ∙ ap (λ xs. filter (is_of_tree w) below ++ xs)
    (filter-append (is_of_tree w) ws above ∙ ap (λ xs. xs ++ filter (is_of_tree w) above) (filter-none (is_of_tree w) ws none))

module _ (below above was is : List Window) (one : IsOneTree below above was is) where
  abbrev old : List Window
  old = among below above was

  abbrev new : List Window
  new = among below above is

  -- the tree of each of its windows differs as the records do
  tree-changed : Each (λ w. has_changed_tree old new w ≡ not (same_records was is)) (was ++ is)
  tree-changed =
      each-both (λ w. list_all (is_of_tree w) (was ++ is) ≡ true) (λ w. list_any (is_of_tree w) (below ++ above) ≡ false)
      (λ w. has_changed_tree old new w ≡ not (same_records was is))
      (λ w all none.
      let each = each-all (is_of_tree w) (was ++ is) all in
      ap (λ xs. not (same_records xs (filter (is_of_tree w) new)))
      (tree-left below above was w (each-first (λ v. is_of_tree w v ≡ true) was is each) none)
      ∙ ap (λ xs. not (same_records was xs)) (tree-left below above is w (each-second (λ v. is_of_tree w v ≡ true) was is each) none))
      (was ++ is) (each-all (λ w. list_all (is_of_tree w) (was ++ is)) (was ++ is) one.together)
      (each-false (λ w. list_any (is_of_tree w) (below ++ above)) (was ++ is) one.apart)

  -- the others are of no tree of its windows, nor those of theirs
  apart-turned : Each (λ w. list_any (is_of_tree w) (was ++ is) ≡ false) (below ++ above)
  apart-turned =
      each-map (λ w. list_any (λ v. is_of_tree v w) (was ++ is) ≡ false) (λ w. list_any (is_of_tree w) (was ++ is) ≡ false)
      (λ w e. any-as (is_of_tree w) (λ v. is_of_tree v w) (was ++ is) (each-of (λ v. is_of_tree w v ≡ is_of_tree v w) (tree-turned w) (was ++ is)) ∙ e) (below ++ above)
      (none-turned is_of_tree (was ++ is) (below ++ above) (each-false (λ w. list_any (is_of_tree w) (below ++ above)) (was ++ is) one.apart))

  -- the trees of the others don't differ
  others-unchanged : Each (λ w. has_changed_tree old new w ≡ false) (below ++ above)
  others-unchanged =
      each-map (λ w. list_any (is_of_tree w) (was ++ is) ≡ false) (λ w. has_changed_tree old new w ≡ false)
      (λ w none.
      let others : List Window = filter (is_of_tree w) below ++ filter (is_of_tree w) above in
      ap (λ xs. not (same_records xs (filter (is_of_tree w) new))) (others-left below above was w (none-first (is_of_tree w) was is none))
      ∙ ap (λ xs. not (same_records others xs)) (others-left below above is w (none-second (is_of_tree w) was is none))
      ∙ ap (λ b. not b) (records-self others)) (below ++ above) apart-turned

  -- where the records differ, the points of the tree's windows are allowed to be marked
  allowed : (x y : ℤ) (raised : Option (ℕ × ℕ)) (ws : List Window) → Each (λ w. has_changed_tree old new w ≡ true) ws → is_in_any x y ws ≡ true
      → list_any (is_allowed_at old new raised x y) (among below above ws) ≡ true
  allowed x y raised ws changed here =
      any-second (is_allowed_at old new raised x y) below (ws ++ above)
      (any-first (is_allowed_at old new raised x y) ws above
      (any-each-more (λ w. contains w x y) (is_allowed_at old new raised x y) (λ w. has_changed_tree old new w ≡ true)
      (λ w e in_it. and_from (contains w x y) (has_changed_tree old new w || is_raised raised w) in_it
      (or_left (has_changed_tree old new w) (is_raised raised w) e)) ws changed here))

  -- where they don't, no point is
  none-allowed : (x y : ℤ) (ws : List Window) → Each (λ w. has_changed_tree old new w ≡ false) ws → list_any (is_allowed_at old new None x y) ws ≡ false
  none-allowed x y ws unchanged =
      any-none (is_allowed_at old new None x y) ws
      (each-map (λ w. has_changed_tree old new w ≡ false) (λ w. is_allowed_at old new None x y w ≡ false)
      (λ w e. and_right (contains w x y) (has_changed_tree old new w || is_raised None w) (ap (λ b. b || false) e)) ws unchanged)

  tree-differs : (b : Bool) → same_records was is ≡ b → Each (λ w. has_changed_tree old new w ≡ not b) (was ++ is)
  tree-differs b e =
      each-map (λ w. has_changed_tree old new w ≡ not (same_records was is)) (λ w. has_changed_tree old new w ≡ not b)
      (λ w f. f ∙ ap (λ c. not c) e) (was ++ is) tree-changed

  abbrev allows : Option (ℕ × ℕ) → ℤ → ℤ → Bool
  allows raised x y = list_any (is_allowed_at old new raised x y) old || list_any (is_allowed_at old new raised x y) new

  whole-tree : same_records was is ≡ false → (raised : Option (ℕ × ℕ)) (x y : ℤ) → (is_in_any x y was || is_in_any x y is) ≡ true → allows raised x y ≡ true
  whole-tree differs raised x y here =
      let changed = tree-differs false differs in
      either-of (allows raised x y ≡ true) (is_in_any x y was) (is_in_any x y is) here
      (λ e. or_left (list_any (is_allowed_at old new raised x y) old) (list_any (is_allowed_at old new raised x y) new)
      (allowed x y raised was (each-first (λ w. has_changed_tree old new w ≡ true) was is changed) e))
      (λ e. or_right (list_any (is_allowed_at old new raised x y) old) (list_any (is_allowed_at old new raised x y) new)
      (allowed x y raised is (each-second (λ w. has_changed_tree old new w ≡ true) was is changed) e))

  all-unchanged : (ws : List Window) → Each (λ w. has_changed_tree old new w ≡ false) ws → Each (λ w. has_changed_tree old new w ≡ false) (among below above ws)
  all-unchanged ws each =
      each-append (λ w. has_changed_tree old new w ≡ false) below (ws ++ above) (each-first (λ w. has_changed_tree old new w ≡ false) below above others-unchanged)
      (each-append (λ w. has_changed_tree old new w ≡ false) ws above each (each-second (λ w. has_changed_tree old new w ≡ false) below above others-unchanged))

  nothing-allowed : same_records was is ≡ true → (x y : ℤ) → allows None x y ≡ false
  nothing-allowed same x y =
      let unchanged = tree-differs true same in
      or_from (list_any (is_allowed_at old new None x y) old) (list_any (is_allowed_at old new None x y) new)
      (none-allowed x y old (all-unchanged was (each-first (λ w. has_changed_tree old new w ≡ false) was is unchanged)))
      (none-allowed x y new (all-unchanged is (each-second (λ w. has_changed_tree old new w ≡ false) was is unchanged)))

-- ---- the laws

pub may-mark-whole-tree : MayMarkWholeTree
may-mark-whole-tree below above was is applied one differs raised width height x y here =
    or_right (at_least width height applied (among below above was) (among below above is) x y) _
    (and_from (in_output width height x y) (allows below above was is one raised x y) (and-left (in_output width height x y) _ here)
    (whole-tree below above was is one differs raised x y (and-right (in_output width height x y) _ here)))

no-more : (least out more : Bool) → more ≡ false → (least || (out && more)) ≡ least
no-more true out more e = refl
no-more false out more e = and_right out more e

pub marks-nothing-more : MarksNothingMore
marks-nothing-more below above was is applied one same width height x y =
    no-more (at_least width height applied (among below above was) (among below above is) x y) (in_output width height x y)
    (allows below above was is one None x y) (nothing-allowed below above was is one same x y)

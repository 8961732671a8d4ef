-- What is marked tree by tree of the windows stacked with one toplevel is between what the step has to mark and what it may.
use Rattle.std.proofs.Common.{◌≡◌, ℕ, Bool, true, false, List, [], ◌∷◌, ◌++◌, suc, length, refl, ap, sym, ◌∙◌, arith}
use Rattle.std.specs.Prelude.{ℤ, ◌==◌, ◌&&◌, ◌||◌, if◌then◌else◌, filter, not, Option}
use Rattle.std.specs.List.{All, list_all, list_any}
use Rattle.std.proofs.lemmas.Bool.{and_from, eqb-true, false_from_ne_true, or_left, or_right}
use Rattle.std.proofs.lemmas.List.Elements.{filter-append}
use Rattle.std.proofs.lemmas.List.Folds.{list_any-append}
use Rattle.std.proofs.lemmas.List.{length-append}
use Rattle.spec_desktop.specs.Windows.{Window, contains}
use Rattle.spec_desktop.specs.Marks.{Applied, AreDistinct, at_least, at_most, has_changed_tree, has_moved_past, has_same_record, in_output}
use Rattle.spec_desktop.specs.Marks.{is_allowed_at, is_before, is_changed_at, is_damaged_at, is_kept_in, is_raised, is_restacked_at, same_records, shared_by}
use Rattle.law_desktop.proofs.Marks.Stacks.{AreSame, same-number}
use Rattle.spec_desktop.specs.Moments.{applied_between}
use Rattle.spec_desktop.specs.Stacked.{all_windows}
use Rattle.law_desktop.specs.TreeMarksLaws.{AreUndamaged, among, has_root, is_in_any, is_struck_at}
use Rattle.law_desktop.proofs.Lists.Tests.{any-each-more, any-first, any-more, any-of, any-second, any-three, each-all, filter-none}
use Rattle.law_desktop.proofs.TreeMarks.Records.{each-kept, same-self, same-tested, same-turned}
use Rattle.law_desktop.proofs.TreeMarks.Damage.{first-undamaged, none-changed, none-damaged, second-undamaged}
use Rattle.law_desktop.specs.Toplevel.{AreInTurn, SameRoot, has_toplevel, of_root}
use Rattle.law_desktop.specs.Marked.{MarksByTreesBetween, marks_by_trees, marks_of_tree}
use Rattle.law_desktop.proofs.Lists.Left.{any-filtered, any-one, any-there, each-left, filter-as}
use Rattle.law_desktop.proofs.MarkedStack.{restacked-differs}
use Rattle.law_desktop.proofs.Truth.{and-left, and-right, differ, either-of, or-left, or-right}
use Rattle.law_desktop.proofs.Lists.Each.{Each, each-first, each-map, each-second}

-- ---- one tree among others

-- what is marked of the tree of a root is marked
module _ (applied : Applied) (was is : List Window) (x y : ℤ) where
  abbrev marked-at : ℕ → Bool
  marked-at root = marks_of_tree applied (of_root root was) (of_root root is) x y

  nothing-there : (root : ℕ) → list_any (λ u. root == u.owner.root) (was ++ is) ≡ false → marked-at root ≡ false
  nothing-there root none =
      let parts = sym (list_any-append (λ u. root == u.owner.root) was is) ∙ none in
      ap (λ ws. marks_of_tree applied ws (of_root root is) x y) (filter-none (λ u. root == u.owner.root) was (or-left (list_any (λ u. root == u.owner.root) was) _ parts))
      ∙ ap (λ ws. marks_of_tree applied [] ws x y) (filter-none (λ u. root == u.owner.root) is (or-right (list_any (λ u. root == u.owner.root) was) _ parts))

  pub by-root : (root : ℕ) → marked-at root ≡ true → marks_by_trees applied was is x y ≡ true
  by-root root marked = at (list_any (λ u. root == u.owner.root) (was ++ is)) refl
    where
      at : (b : Bool) → list_any (λ u. root == u.owner.root) (was ++ is) ≡ b → marks_by_trees applied was is x y ≡ true
      at false none = absurd (differ (sym (nothing-there root none) ∙ marked))
      at true some =
          any-more (λ u. root == u.owner.root) (λ u. marked-at u.owner.root) (λ u e. ap marked-at (sym (eqb-true root u.owner.root e)) ∙ marked) (was ++ is) some

  pub by-differing : (root : ℕ) → same_records (of_root root was) (of_root root is) ≡ false
      → (is_in_any x y (of_root root was) || is_in_any x y (of_root root is)) ≡ true → marks_by_trees applied was is x y ≡ true
  by-differing root other held =
      by-root root
      (ap (λ b. if b then list_any (is_struck_at applied x y) (of_root root is) else is_in_any x y (of_root root was) || is_in_any x y (of_root root is)) other ∙ held)

  pub by-damage : (root : ℕ) → same_records (of_root root was) (of_root root is) ≡ true → list_any (is_struck_at applied x y) (of_root root is) ≡ true
      → marks_by_trees applied was is x y ≡ true
  by-damage root same struck =
      by-root root
      (ap (λ b. if b then list_any (is_struck_at applied x y) (of_root root is) else is_in_any x y (of_root root was) || is_in_any x y (of_root root is)) same ∙ struck)

-- one that passes is of some tree
in-some-tree : (P : Type 0) (p : Window → Bool) (ws : List Window) → list_any p ws ≡ true → ((root : ℕ) → list_any p (of_root root ws) ≡ true → P) → P
in-some-tree P p ws e f =
    any-one P p ws e
    (λ w here more.
    f w.owner.root
    (any-filtered p (λ u. w.owner.root == u.owner.root) ws
    ∙ more (λ u. (w.owner.root == u.owner.root) && p u) (and_from (w.owner.root == w.owner.root) (p w) (same-number w.owner.root) here)))

-- ---- records among others

same-length : (ws vs : List Window) → AreSame ws vs → length ws ≡ length vs
same-length [] [] same = refl
same-length (w ∷ ws) (v ∷ vs) same = ap suc (same-length ws vs same.1)
same-length [] (v ∷ vs) same = absurd same
same-length (w ∷ ws) [] same = absurd same

same-front : (ws vs us bs : List Window) → length ws ≡ length vs → AreSame (ws ++ us) (vs ++ bs) → AreSame ws vs
same-front [] [] us bs e same = tt
same-front (w ∷ ws) (v ∷ vs) us bs e same = (same.0, same-front ws vs us bs (omega (arith, e)) same.1)
same-front [] (v ∷ vs) us bs e same = absurd (omega (arith, e))
same-front (w ∷ ws) [] us bs e same = absurd (omega (arith, e))

same-behind : (below ws vs : List Window) → AreSame (below ++ ws) (below ++ vs) → AreSame ws vs
same-behind [] ws vs same = same
same-behind (b ∷ below) ws vs same = same-behind below ws vs same.1

records-same : (ws vs : List Window) → AreSame ws vs → same_records ws vs ≡ true
records-same [] [] same = refl
records-same (w ∷ ws) (v ∷ vs) same = and_from (has_same_record w v) (same_records ws vs) same.0 (records-same ws vs same.1)
records-same [] (v ∷ vs) same = absurd same
records-same (w ∷ ws) [] same = absurd same

-- those between the same windows differ where the lists do
differ-among : (below above ws vs : List Window) → same_records ws vs ≡ false → same_records (among below above ws) (among below above vs) ≡ false
differ-among below above ws vs other =
    false_from_ne_true (same_records (among below above ws) (among below above vs))
    (λ e.
    let rest = same-behind below (ws ++ above) (vs ++ above) (same-tested (among below above ws) (among below above vs) e) in
    let long : length ws ≡ length vs =
    omega (arith, sym (length-append ws above) ∙ (same-length (ws ++ above) (vs ++ above) rest ∙ length-append vs above)) in
    differ (sym other ∙ records-same ws vs (same-front ws vs above above long rest)))

filter-among : (p : Window → Bool) (below above ws : List Window) → filter p (among below above ws) ≡ among (filter p below) (filter p above) (filter p ws)
filter-among p below above ws =
    filter-append p below (ws ++ above) ∙ ap (λ xs. filter p below ++ xs) (filter-append p ws above)

-- ---- the bounds

module _ (client toplevel : ℕ) (below above was is : List Window) (applied : Applied) (x y : ℤ) where
  abbrev old : List Window
  old = among below above was

  abbrev new : List Window
  new = among below above is

  abbrev Marked : Type 0
  Marked = marks_by_trees applied was is x y ≡ true

  -- where a tree keeps its records, its windows are kept
  kept : (ws vs : List Window) (root : ℕ) → AreSame (of_root root ws) (of_root root vs) → Each (λ w. is_kept_in (among below above vs) w ≡ true) (of_root root ws)
  kept ws vs root same =
      each-map (λ w. list_any (has_same_record w) (of_root root vs) ≡ true) (λ w. is_kept_in (among below above vs) w ≡ true)
      (λ w e.
      any-second (has_same_record w) below (vs ++ above)
      (any-first (has_same_record w) vs above (any-there (has_same_record w) (λ u. root == u.owner.root) vs e))) (of_root root ws)
      (each-kept (of_root root ws) (of_root root vs) same)

  -- those below and above are kept
  kept-below : (ws : List Window) → Each (λ w. is_kept_in (among below above ws) w ≡ true) below
  kept-below ws =
      each-map (λ w. is_kept_in below w ≡ true) (λ w. is_kept_in (among below above ws) w ≡ true)
      (λ w e. any-first (has_same_record w) below (ws ++ above) e) below (each-kept below below (same-self below))

  kept-above : (ws : List Window) → Each (λ w. is_kept_in (among below above ws) w ≡ true) above
  kept-above ws =
      each-map (λ w. is_kept_in above w ≡ true) (λ w. is_kept_in (among below above ws) w ≡ true)
      (λ w e. any-second (has_same_record w) below (ws ++ above) (any-second (has_same_record w) ws above e)) above
      (each-kept above above (same-self above))

  -- one that changed is of a tree of the toplevel
  changed-between : (others ws : List Window) → list_any (is_changed_at (among below above others) x y) (among below above ws) ≡ true
      → list_any (is_changed_at (among below above others) x y) ws ≡ true
  changed-between others ws e =
      any-three (list_any (is_changed_at (among below above others) x y) ws ≡ true) (is_changed_at (among below above others) x y) below ws above e
      (λ f. absurd (differ (sym (none-changed x y (among below above others) below (kept-below others)) ∙ f))) (λ f. f)
      (λ f. absurd (differ (sym (none-changed x y (among below above others) above (kept-above others)) ∙ f)))

  -- and holds the point
  changed-in : (others ws : List Window) → list_any (is_changed_at others x y) ws ≡ true → is_in_any x y ws ≡ true
  changed-in others ws e =
      any-more (is_changed_at others x y) (λ w. contains w x y) (λ w f. and-left (contains w x y) (not (is_kept_in others w)) f) ws e

  -- its tree has other records
  changed-differs : (ws vs : List Window) (root : ℕ) → list_any (is_changed_at (among below above vs) x y) (of_root root ws) ≡ true
      → AreSame (of_root root ws) (of_root root vs) → ⊥
  changed-differs ws vs root e same =
      differ (sym (none-changed x y (among below above vs) (of_root root ws) (kept ws vs root same)) ∙ e)

  went : list_any (is_changed_at new x y) was ≡ true → Marked
  went e =
      in-some-tree Marked (is_changed_at new x y) was e
      (λ root f.
      by-differing applied was is x y root
      (false_from_ne_true (same_records (of_root root was) (of_root root is))
      (λ same. changed-differs was is root f (same-tested (of_root root was) (of_root root is) same)))
      (or_left (is_in_any x y (of_root root was)) (is_in_any x y (of_root root is)) (changed-in new (of_root root was) f)))

  came : list_any (is_changed_at old x y) is ≡ true → Marked
  came e =
      in-some-tree Marked (is_changed_at old x y) is e
      (λ root f.
      by-differing applied was is x y root
      (false_from_ne_true (same_records (of_root root was) (of_root root is))
      (λ same.
      changed-differs is was root f (same-turned (of_root root was) (of_root root is) (same-tested (of_root root was) (of_root root is) same))))
      (or_right (is_in_any x y (of_root root was)) (is_in_any x y (of_root root is)) (changed-in old (of_root root is) f)))

  damaged-between : AreUndamaged applied (below ++ above) → list_any (is_damaged_at applied old x y) new ≡ true → list_any (is_damaged_at applied old x y) is ≡ true
  damaged-between undamaged e =
      any-three (list_any (is_damaged_at applied old x y) is ≡ true) (is_damaged_at applied old x y) below is above e
      (λ f. absurd (differ (sym (none-damaged x y applied old below (first-undamaged applied below above undamaged)) ∙ f))) (λ f. f)
      (λ f. absurd (differ (sym (none-damaged x y applied old above (second-undamaged applied below above undamaged)) ∙ f)))

  struck-so : (ws : List Window) → list_any (is_damaged_at applied old x y) ws ≡ true → list_any (is_struck_at applied x y) ws ≡ true
  struck-so ws e =
      any-more (is_damaged_at applied old x y) (is_struck_at applied x y) (λ w f. and-right (is_kept_in old w) (is_struck_at applied x y w) f) ws e

  damaged : list_any (is_damaged_at applied old x y) is ≡ true → Marked
  damaged e = in-some-tree Marked (is_damaged_at applied old x y) is e (λ root f. at root f (same_records (of_root root was) (of_root root is)) refl)
    where
      at : (root : ℕ) → list_any (is_damaged_at applied old x y) (of_root root is) ≡ true → (b : Bool) → same_records (of_root root was) (of_root root is) ≡ b → Marked
      at root f true same = by-damage applied was is x y root same (struck-so (of_root root is) f)
      at root f false other =
          by-differing applied was is x y root other
          (or_right (is_in_any x y (of_root root was)) (is_in_any x y (of_root root is))
          (any-more (is_struck_at applied x y) (λ w. contains w x y) (λ w g. and-left (contains w x y) _ g) (of_root root is) (struck-so (of_root root is) f)))

  abbrev moves : Window → Window → Bool
  moves w v = has_moved_past old new w v && (shared_by old w v x y || shared_by new w v x y)

  restacked : AreDistinct old → AreDistinct new → All (λ i. All (SameRoot i) was) is → (roots : List ℕ) → AreInTurn roots was → AreInTurn roots is
      → is_restacked_at old new x y ≡ true → Marked
  restacked distinct distinct' same-roots roots was-turn is-turn e =
      any-of Marked (λ w. list_any (moves w) old) old e
      (λ w f.
      any-of Marked (moves w) old f
      (λ v g.
      let past = and-left (has_moved_past old new w v) (shared_by old w v x y || shared_by new w v x y) g in
      let found = restacked-differs below above was is distinct distinct' same-roots roots was-turn is-turn w v
      (and-left (is_before w v old) (is_before v w new) past) (and-right (is_before w v old) (is_before v w new) past) x y
      (and-right (has_moved_past old new w v) (shared_by old w v x y || shared_by new w v x y) g) in
      by-differing applied was is x y found.root found.records found.held))

  pub least-marked : AreDistinct old → AreDistinct new → All (λ i. All (SameRoot i) was) is → (roots : List ℕ) → AreInTurn roots was → AreInTurn roots is
      → AreUndamaged applied (below ++ above) → (width height : ℕ) → at_least width height applied old new x y ≡ true → Marked
  least-marked distinct distinct' same-roots roots was-turn is-turn undamaged width height least =
      either-of Marked (list_any (is_changed_at new x y) old || list_any (is_changed_at old x y) new)
      (list_any (is_damaged_at applied old x y) new || is_restacked_at old new x y) (and-right (in_output width height x y) _ least)
      (λ e. either-of Marked (list_any (is_changed_at new x y) old) (list_any (is_changed_at old x y) new) e
      (λ f. went (changed-between is was f)) (λ f. came (changed-between was is f)))
      (λ e. either-of Marked (list_any (is_damaged_at applied old x y) new) (is_restacked_at old new x y) e
      (λ f. damaged (damaged-between undamaged f)) (restacked distinct distinct' same-roots roots was-turn is-turn))

  -- ---- at most

  -- the tree of each of these windows differs among all windows as among those of the toplevel
  tree-differs : list_all (has_toplevel client toplevel) (was ++ is) ≡ true → (root : ℕ) → same_records (of_root root was) (of_root root is) ≡ false
      → (ws : List Window) → Each (λ w. has_toplevel client toplevel w ≡ true) ws → Each (λ w. has_changed_tree old new w ≡ true) (of_root root ws)
  tree-differs own root other ws ours =
      each-left (λ w. has_toplevel client toplevel w ≡ true) (λ w. has_changed_tree old new w ≡ true) (λ w. root == w.owner.root)
      (λ w e here.
      ap (λ n. not (same_records (filter (λ v. (n == v.owner.client) && (w.owner.root == v.owner.root)) old)
      (filter (λ v. (n == v.owner.client) && (w.owner.root == v.owner.root)) new)))
      (sym (eqb-true client w.owner.client (and-left (client == w.owner.client) (toplevel == w.owner.toplevel) e)))
      ∙ ap (λ n. not (same_records (filter (λ v. (client == v.owner.client) && (n == v.owner.root)) old)
      (filter (λ v. (client == v.owner.client) && (n == v.owner.root)) new)))
      (sym (eqb-true root w.owner.root here))
      ∙ ap not
      (ap (λ xs. same_records xs (filter (has_root client root) new)) (filter-among (has_root client root) below above was)
      ∙ ap (λ xs. same_records (among (filter (has_root client root) below) (filter (has_root client root) above) (filter (has_root client root) was)) xs)
      (filter-among (has_root client root) below above is)
      ∙ differ-among (filter (has_root client root) below) (filter (has_root client root) above) (filter (has_root client root) was) (filter (has_root client root) is)
      (ap (λ xs. same_records xs (filter (has_root client root) is)) (by-client was (each-first (λ u. has_toplevel client toplevel u ≡ true) was is all))
      ∙ ap (λ xs. same_records (of_root root was) xs) (by-client is (each-second (λ u. has_toplevel client toplevel u ≡ true) was is all)) ∙ other)))
      ws ours
    where
      all : Each (λ u. has_toplevel client toplevel u ≡ true) (was ++ is)
      all = each-all (has_toplevel client toplevel) (was ++ is) own

      by-client : (vs : List Window) → Each (λ u. has_toplevel client toplevel u ≡ true) vs → filter (has_root client root) vs ≡ of_root root vs
      by-client vs each =
          filter-as (has_root client root) (λ u. root == u.owner.root) vs
          (each-map (λ u. has_toplevel client toplevel u ≡ true) (λ u. has_root client root u ≡ (root == u.owner.root))
          (λ u e. ap (λ b. b && (root == u.owner.root)) (and-left (client == u.owner.client) (toplevel == u.owner.toplevel) e)) vs each)

  allowed : (raised : Option (ℕ × ℕ)) (ws vs : List Window) (root : ℕ) → Each (λ w. has_changed_tree old new w ≡ true) (of_root root ws)
      → is_in_any x y (of_root root ws) ≡ true → list_any (is_allowed_at old new raised x y) (among below above ws) ≡ true
  allowed raised ws vs root changed here =
      any-second (is_allowed_at old new raised x y) below (ws ++ above)
      (any-first (is_allowed_at old new raised x y) ws above
      (any-there (is_allowed_at old new raised x y) (λ u. root == u.owner.root) ws
      (any-each-more (λ w. contains w x y) (is_allowed_at old new raised x y) (λ w. has_changed_tree old new w ≡ true)
      (λ w e in_it. and_from (contains w x y) (has_changed_tree old new w || is_raised raised w) in_it
      (or_left (has_changed_tree old new w) (is_raised raised w) e)) (of_root root ws) changed here)))

  struck-least : (root : ℕ) → same_records (of_root root was) (of_root root is) ≡ true → list_any (is_struck_at applied x y) (of_root root is) ≡ true
      → list_any (is_damaged_at applied old x y) new ≡ true
  struck-least root same struck =
      any-second (is_damaged_at applied old x y) below (is ++ above)
      (any-first (is_damaged_at applied old x y) is above
      (any-there (is_damaged_at applied old x y) (λ u. root == u.owner.root) is
      (any-each-more (is_struck_at applied x y) (is_damaged_at applied old x y) (λ w. is_kept_in old w ≡ true)
      (λ w e f. and_from (is_kept_in old w) (is_struck_at applied x y w) e f) (of_root root is)
      (kept is was root (same-turned (of_root root was) (of_root root is) (same-tested (of_root root was) (of_root root is) same))) struck)))

  pub most-marked : list_all (has_toplevel client toplevel) (was ++ is) ≡ true → (raised : Option (ℕ × ℕ)) (width height : ℕ)
      → (in_output width height x y && marks_by_trees applied was is x y) ≡ true → at_most width height applied raised old new x y ≡ true
  most-marked own raised width height marked =
      any-of (at_most width height applied raised old new x y ≡ true)
      (λ w. marks_of_tree applied (of_root w.owner.root was) (of_root w.owner.root is) x y) (was ++ is)
      (and-right (in_output width height x y) (marks_by_trees applied was is x y) marked)
      (λ w e. at w.owner.root (same_records (of_root w.owner.root was) (of_root w.owner.root is)) refl e)
    where
      inside : in_output width height x y ≡ true
      inside = and-left (in_output width height x y) (marks_by_trees applied was is x y) marked

      least : Bool
      least = at_least width height applied old new x y

      all : Each (λ u. has_toplevel client toplevel u ≡ true) (was ++ is)
      all = each-all (has_toplevel client toplevel) (was ++ is) own

      at : (root : ℕ) (b : Bool) → same_records (of_root root was) (of_root root is) ≡ b
          → (if b then list_any (is_struck_at applied x y) (of_root root is) else is_in_any x y (of_root root was) || is_in_any x y (of_root root is)) ≡ true
          → at_most width height applied raised old new x y ≡ true
      at root true same e =
          or_left least _
          (and_from (in_output width height x y) _ inside
          (or_right (list_any (is_changed_at new x y) old || list_any (is_changed_at old x y) new) _
          (or_left (list_any (is_damaged_at applied old x y) new) (is_restacked_at old new x y) (struck-least root same e))))
      at root false other e =
          or_right least _
          (and_from (in_output width height x y) _ inside
          (either-of ((list_any (is_allowed_at old new raised x y) old || list_any (is_allowed_at old new raised x y) new) ≡ true)
          (is_in_any x y (of_root root was)) (is_in_any x y (of_root root is)) e
          (λ f. or_left (list_any (is_allowed_at old new raised x y) old) (list_any (is_allowed_at old new raised x y) new)
          (allowed raised was is root (tree-differs own root other was (each-first (λ u. has_toplevel client toplevel u ≡ true) was is all)) f))
          (λ f. or_right (list_any (is_allowed_at old new raised x y) old) (list_any (is_allowed_at old new raised x y) new)
          (allowed raised is was root (tree-differs own root other is (each-second (λ u. has_toplevel client toplevel u ≡ true) was is all)) f))))

pub marks-by-trees-between : MarksByTreesBetween
marks-by-trees-between c toplevel d e step raised width height x y = (
  λ least.
      least-marked c toplevel step.below step.above step.was step.is (applied_between d e) x y step.distinct_before step.distinct_after
      step.same_roots step.roots step.was_in_turn step.is_in_turn step.undamaged width height
      (ap (λ ws. at_least width height (applied_between d e) (among step.below step.above step.was) ws x y) (sym step.after)
      ∙ ap (λ ws. at_least width height (applied_between d e) ws (all_windows e) x y) (sym step.before) ∙ least),
  λ marked.
      ap (λ ws. at_most width height (applied_between d e) raised ws (all_windows e) x y) step.before
      ∙ ap (λ ws. at_most width height (applied_between d e) raised (among step.below step.above step.was) ws x y) step.after
      ∙ most-marked c toplevel step.below step.above step.was step.is (applied_between d e) x y step.together raised width height marked,
)

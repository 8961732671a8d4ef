-- What is marked where windows of a toplevel moved is no more than what is marked tree by tree.
use Rattle.std.proofs.Common.{◌≡◌, ℕ, ◌+◌, ◌-◌, suc, ℤ, Bool, true, false, cond, List, [], ◌∷◌, ◌++◌, refl, ap, sym, subst, ◌∙◌, arith, take, drop, length, reverse}
use Rattle.std.specs.Prelude.{◌==◌, ◌&&◌, ◌||◌, if◌then◌else◌, nat_le, not, zip}
use Rattle.std.specs.Cmp.Lexicographic.{pointwise}
use Rattle.std.specs.List.{list_any, prefix_len}
use Rattle.std.proofs.lemmas.Bool.{and_from, and_parts, eq-eqb, eqb-true, false_from_ne_true, or_left, or_right}
use Rattle.std.proofs.lemmas.List.{drop_at, length-append, length-drop, length-reverse, reverse-append, reverse-reverse, take-append-drop}
use Rattle.std.proofs.lemmas.List.Elements.{filter-append}
use Rattle.law_desktop.proofs.Lists.Each.{Each, each-map}
use Rattle.law_desktop.proofs.RootsOf.Away.{IsIn}
use Rattle.law_desktop.proofs.Lists.Tests.{any-each-more, any-first, any-more, any-second, each-all, filter-all}
use Rattle.law_desktop.proofs.Truth.{and-left, differ, either-of}
use Rattle.law_windows.proofs.Lists.{any-in, any-turned, is-left, one-that}
use Rattle.wl_scene.specs.Repaint.{is_damaged_by, is_same_window, is_struck_by, marks, marks_trees, same_windows, tree_of, window_has}
use Rattle.wl_scene.specs.declared.tree_window.TreeWindow.{TreeWindow}
use Rattle.wl_surface.specs.declared.applied.Change.{Change}
use Rattle.wl_clients.specs.Staying.{are_of, are_same, below_top, is_one_tree, lifted, marks_around, marks_moved, marks_past, marks_pieces, moves_in_one, pixels_lifted, same_above, same_below, top}

-- ---- lists that are the same

module _ (p : TreeWindow → TreeWindow → Bool) where
  pub same-append : (a b c d : List TreeWindow) → pointwise p a b ≡ true → pointwise p c d ≡ true → pointwise p (a ++ c) (b ++ d) ≡ true
  same-append [] [] c d e f = f
  same-append [] (y ∷ b) c d e f = absurd (differ e)
  same-append (x ∷ a) [] c d e f = absurd (differ e)
  same-append (x ∷ a) (y ∷ b) c d e f =
      let parts = and_parts (p x y) (pointwise p a b) e in and_from (p x y) (pointwise p (a ++ c) (b ++ d)) parts.0 (same-append a b c d parts.1 f)

  pub same-length : (a b : List TreeWindow) → pointwise p a b ≡ true → length a ≡ length b
  same-length [] [] e = refl
  same-length [] (y ∷ b) e = absurd (differ e)
  same-length (x ∷ a) [] e = absurd (differ e)
  same-length (x ∷ a) (y ∷ b) e = ap suc (same-length a b (and_parts (p x y) (pointwise p a b) e).1)

  -- where the first ones are as many
  pub same-rest : (a b c d : List TreeWindow) → length a ≡ length b → pointwise p (a ++ c) (b ++ d) ≡ true → (pointwise p a b ≡ true) × (pointwise p c d ≡ true)
  same-rest [] [] c d e f = (refl, f)
  same-rest [] (y ∷ b) c d e f = absurd (omega (arith))
  same-rest (x ∷ a) [] c d e f = absurd (omega (arith))
  same-rest (x ∷ a) (y ∷ b) c d e f =
      let parts = and_parts (p x y) (pointwise p (a ++ c) (b ++ d)) f in
      let more = same-rest a b c d (omega (arith)) parts.1 in (and_from (p x y) (pointwise p a b) parts.0 more.0, more.1)

  pub same-reverse : (a b : List TreeWindow) → pointwise p a b ≡ true → pointwise p (reverse a) (reverse b) ≡ true
  same-reverse [] [] e = refl
  same-reverse [] (y ∷ b) e = absurd (differ e)
  same-reverse (x ∷ a) [] e = absurd (differ e)
  same-reverse (x ∷ a) (y ∷ b) e =
      let parts = and_parts (p x y) (pointwise p a b) e in
      subst (λ (l : List TreeWindow). pointwise p l (reverse (y ∷ b)) ≡ true) (sym (reverse-append (x ∷ []) a))
      (subst (λ (l : List TreeWindow). pointwise p (reverse a ++ x ∷ []) l ≡ true) (sym (reverse-append (y ∷ []) b))
      (same-append (reverse a) (reverse b) (x ∷ []) (y ∷ []) (same-reverse a b parts.1) (and_from (p x y) true parts.0 refl)))

-- the lowest windows of which it was found
pub same-prefix : (ws vs : List TreeWindow) → same_windows (take (same_below ws vs) ws) (take (same_below ws vs) vs) ≡ true
same-prefix [] vs = nothing vs
  where
    nothing : (vs : List TreeWindow) → same_windows (take 0 []) (take 0 vs) ≡ true
    nothing vs = refl
same-prefix (w ∷ ws) [] = refl
same-prefix (w ∷ ws) (v ∷ vs) = at (is_same_window w v) refl (same-prefix ws vs)
  where
    next : (1 + prefix_len are_same (zip ws vs)) ≡ suc (prefix_len are_same (zip ws vs))
    next = omega (arith)

    at : (b : Bool) → is_same_window w v ≡ b → same_windows (take (same_below ws vs) ws) (take (same_below ws vs) vs) ≡ true
        → same_windows (take (cond b (1 + prefix_len are_same (zip ws vs)) 0) (w ∷ ws)) (take (cond b (1 + prefix_len are_same (zip ws vs)) 0) (v ∷ vs)) ≡ true
    at true e more =
        subst (λ (k : ℕ). same_windows (take k (w ∷ ws)) (take k (v ∷ vs)) ≡ true) (sym next) (and_from (is_same_window w v) _ e more)
    at false e more = refl

-- the topmost
turned-top : (n : ℕ) (ws : List TreeWindow) → reverse (take n (reverse ws)) ≡ drop (length ws - n) ws
turned-top n ws =
    sym (ap (drop (length ws - n)) (sym (reverse-reverse ws) ∙ ap reverse (sym (take-append-drop n (reverse ws))) ∙ reverse-append (take n (reverse ws)) (drop n (reverse ws)))
    ∙ drop_at (reverse (drop n (reverse ws))) (reverse (take n (reverse ws))) (length ws - n)
    (length-reverse (drop n (reverse ws)) ∙ length-drop n (reverse ws) ∙ ap (λ k. k - n) (length-reverse ws)))

pub same-suffix : (ws vs : List TreeWindow) → same_windows (top (same_above ws vs) ws) (top (same_above ws vs) vs) ≡ true
same-suffix ws vs =
    let n = same_below (reverse ws) (reverse vs) in
    subst (λ (l : List TreeWindow). same_windows l (drop (length vs - n) vs) ≡ true) (turned-top n ws)
    (subst (λ (l : List TreeWindow). same_windows (reverse (take n (reverse ws))) l ≡ true) (turned-top n vs)
    (same-reverse is_same_window (take n (reverse ws)) (take n (reverse vs)) (same-prefix (reverse ws) (reverse vs))))

-- ---- of one tree

tree-length : (root : ℕ) (ws vs : List TreeWindow) → same_windows ws vs ≡ true → length (tree_of root ws) ≡ length (tree_of root vs)
tree-length root [] [] e = refl
tree-length root [] (v ∷ vs) e = absurd (differ e)
tree-length root (w ∷ ws) [] e = absurd (differ e)
tree-length root (w ∷ ws) (v ∷ vs) e =
    let parts = and_parts (is_same_window w v) (same_windows ws vs) e in
    let roots = eqb-true w.root v.root (and_parts (w.surface == v.surface) (w.root == v.root) (and_parts ((w.surface == v.surface) && (w.root == v.root)) _ parts.0).0).1 in
    ap (λ (n : ℕ). length (cond (root == n) (w ∷ tree_of root ws) (tree_of root ws))) roots ∙ at (root == v.root) (tree-length root ws vs parts.1)
  where
    at : (b : Bool) → length (tree_of root ws) ≡ length (tree_of root vs)
        → length (cond b (w ∷ tree_of root ws) (tree_of root ws)) ≡ length (cond b (v ∷ tree_of root vs) (tree_of root vs))
    at true more = ap suc more
    at false more = more

all-of : (root : ℕ) (ws : List TreeWindow) → are_of root ws ≡ true → tree_of root ws ≡ ws
all-of root ws e = filter-all (λ w. root == w.root) ws (each-all (λ w. root == w.root) ws e)

module _ {A : Type 0} (root : ℕ) (ps xs ss qs ys ts : List TreeWindow) (below : same_windows ps qs ≡ true) (above : same_windows ss ts ≡ true)
    (ours : are_of root xs ≡ true) (theirs : are_of root ys ≡ true) (differs : same_windows xs ys ≡ false) (changes : List (Change A)) (x y : ℤ) where
  tree-in : (us vs ws : List TreeWindow) → are_of root vs ≡ true → tree_of root (us ++ (vs ++ ws)) ≡ tree_of root us ++ (vs ++ tree_of root ws)
  tree-in us vs ws of =
      filter-append (λ w. root == w.root) us (vs ++ ws)
      ∙ ap (λ (l : List TreeWindow). tree_of root us ++ l) (filter-append (λ w. root == w.root) vs ws ∙ ap (λ (l : List TreeWindow). l ++ tree_of root ws) (all-of root vs of))

  -- the tree changed
  tree-differs : same_windows (tree_of root (ps ++ (xs ++ ss))) (tree_of root (qs ++ (ys ++ ts))) ≡ false
  tree-differs =
      false_from_ne_true (same_windows (tree_of root (ps ++ (xs ++ ss))) (tree_of root (qs ++ (ys ++ ts))))
      (λ e.
      let parts = subst (λ (l : List TreeWindow). same_windows l (tree_of root qs ++ (ys ++ tree_of root ts)) ≡ true) (tree-in ps xs ss ours)
      (subst (λ (l : List TreeWindow). same_windows (tree_of root (ps ++ (xs ++ ss))) l ≡ true) (tree-in qs ys ts theirs) e) in
      let one = tree-length root ps qs below in
      let other = tree-length root ss ts above in
      let rest = same-rest is_same_window (tree_of root ps) (tree_of root qs) (xs ++ tree_of root ss) (ys ++ tree_of root ts) one parts in
      let long = same-length is_same_window (xs ++ tree_of root ss) (ys ++ tree_of root ts) rest.1 in
      let a = length-append xs (tree_of root ss) in
      let b = length-append ys (tree_of root ts) in
      differ (sym differs ∙ (same-rest is_same_window xs ys (tree_of root ss) (tree_of root ts) (omega (arith)) rest.1).0))

  abbrev Marked : ℕ → Bool
  Marked r = marks (tree_of r (ps ++ (xs ++ ss))) (tree_of r (qs ++ (ys ++ ts))) changes x y

  -- a point of its windows that moved is marked
  points-marked : (list_any (window_has x y) (tree_of root (ps ++ (xs ++ ss))) || list_any (window_has x y) (tree_of root (qs ++ (ys ++ ts)))) ≡ true → Marked root ≡ true
  points-marked e =
      ap (λ b. if b then list_any (is_damaged_by (tree_of root (qs ++ (ys ++ ts))) x y) changes
      else (list_any (window_has x y) (tree_of root (ps ++ (xs ++ ss))) || list_any (window_has x y) (tree_of root (qs ++ (ys ++ ts))))) tree-differs ∙ e

  each-root : (ws : List TreeWindow) → are_of root ws ≡ true → Each (λ w. root ≡ w.root) ws
  each-root ws of = each-map (λ w. (root == w.root) ≡ true) (λ w. root ≡ w.root) (λ w e. eqb-true root w.root e) ws (each-all (λ w. root == w.root) ws of)

  pub moved-within : (list_any (window_has x y) xs || list_any (window_has x y) ys) ≡ true → marks_trees (ps ++ (xs ++ ss)) (qs ++ (ys ++ ts)) changes x y ≡ true
  moved-within e =
      either-of (marks_trees (ps ++ (xs ++ ss)) (qs ++ (ys ++ ts)) changes x y ≡ true) (list_any (window_has x y) xs) (list_any (window_has x y) ys) e
      (λ f.
      let m = points-marked (or_left _ _
      (subst (λ (l : List TreeWindow). list_any (window_has x y) l ≡ true) (sym (tree-in ps xs ss ours))
      (any-second (window_has x y) (tree_of root ps) (xs ++ tree_of root ss) (any-first (window_has x y) xs (tree_of root ss) f)))) in
      any-first (λ w. Marked w.root) (ps ++ (xs ++ ss)) (qs ++ (ys ++ ts))
      (any-second (λ w. Marked w.root) ps (xs ++ ss)
      (any-first (λ w. Marked w.root) xs ss
      (any-each-more (window_has x y) (λ w. Marked w.root) (λ w. root ≡ w.root) (λ w same has. ap (λ r. Marked r) (sym same) ∙ m) xs (each-root xs ours) f))))
      (λ f.
      let m = points-marked (or_right _ _
      (subst (λ (l : List TreeWindow). list_any (window_has x y) l ≡ true) (sym (tree-in qs ys ts theirs))
      (any-second (window_has x y) (tree_of root qs) (ys ++ tree_of root ts) (any-first (window_has x y) ys (tree_of root ts) f)))) in
      any-second (λ w. Marked w.root) (ps ++ (xs ++ ss)) (qs ++ (ys ++ ts))
      (any-second (λ w. Marked w.root) qs (ys ++ ts)
      (any-first (λ w. Marked w.root) ys ts
      (any-each-more (window_has x y) (λ w. Marked w.root) (λ w. root ≡ w.root) (λ w same has. ap (λ r. Marked r) (sym same) ∙ m) ys (each-root ys theirs) f))))

-- ---- damage

module _ {A : Type 0} (was is : List TreeWindow) (changes : List (Change A)) (x y : ℤ) where
  -- a change strikes a window
  abbrev struck : TreeWindow → Bool
  struck w = list_any (λ c. is_struck_by c x y w) changes

  has-struck : (w : TreeWindow) → struck w ≡ true → window_has x y w ≡ true
  has-struck w e = go changes e
    where
      go : (cs : List (Change A)) → list_any (λ c. is_struck_by c x y w) cs ≡ true → window_has x y w ≡ true
      go [] f = absurd (differ f)
      go (c ∷ cs) f =
          either-of (window_has x y w ≡ true) (is_struck_by c x y w) (list_any (λ c. is_struck_by c x y w) cs) f
          (λ g. and-left (window_has x y w) _ (and_parts (c.surface == w.surface) _ g).1) (go cs)

  -- what is damaged of a window is marked
  pub damage-within : list_any struck is ≡ true → marks_trees was is changes x y ≡ true
  damage-within e =
      one-that (marks_trees was is changes x y ≡ true) struck is e
      (λ w among hit.
      any-second (λ v. marks (tree_of v.root was) (tree_of v.root is) changes x y) was is
      (any-in (λ v. marks (tree_of v.root was) (tree_of v.root is) changes x y) w is among (own w among hit)))
    where
      own : (w : TreeWindow) → IsIn w is → struck w ≡ true → marks (tree_of w.root was) (tree_of w.root is) changes x y ≡ true
      own w among hit = at (same_windows (tree_of w.root was) (tree_of w.root is))
        where
          at : (b : Bool) → (if b then list_any (is_damaged_by (tree_of w.root is) x y) changes
              else (list_any (window_has x y) (tree_of w.root was) || list_any (window_has x y) (tree_of w.root is))) ≡ true
          at true =
              any-turned (λ c. is_struck_by c x y) changes (tree_of w.root is)
              ∙ is-left struck (λ v. w.root == v.root) w is among (eq-eqb w.root w.root refl) hit
          at false =
              or_right _ _ (is-left (window_has x y) (λ v. w.root == v.root) w is among (eq-eqb w.root w.root refl) (has-struck w hit))

-- of windows that stay
pub stays-struck : {A : Type 0} (ws vs : List TreeWindow) (changes : List (Change A)) (x y : ℤ) → same_windows ws vs ≡ true → marks ws vs changes x y ≡ true
    → list_any (λ w. list_any (λ c. is_struck_by c x y w) changes) vs ≡ true
stays-struck ws vs changes x y same e =
    sym (any-turned (λ c. is_struck_by c x y) changes vs)
    ∙ (sym (ap (λ b. if b then list_any (is_damaged_by vs x y) changes else (list_any (window_has x y) ws || list_any (window_has x y) vs)) same) ∙ e)

-- whatever is marked of windows lies in them
pub marks-in : {A : Type 0} (ws vs : List TreeWindow) (changes : List (Change A)) (x y : ℤ) → marks ws vs changes x y ≡ true
    → (list_any (window_has x y) ws || list_any (window_has x y) vs) ≡ true
marks-in ws vs changes x y e = at (same_windows ws vs) e
  where
    at : (b : Bool) → (if b then list_any (is_damaged_by vs x y) changes else (list_any (window_has x y) ws || list_any (window_has x y) vs)) ≡ true
        → (list_any (window_has x y) ws || list_any (window_has x y) vs) ≡ true
    at true f =
        or_right _ _ (any-more (λ w. list_any (λ c. is_struck_by c x y w) changes) (window_has x y) (λ w g. has-struck ws vs changes x y w g) vs
        (sym (any-turned (λ c. is_struck_by c x y) changes vs) ∙ f))
    at false f = f

-- ---- pieces

any-take : (q : TreeWindow → Bool) (n : ℕ) (ws : List TreeWindow) → list_any q (take n ws) ≡ true → list_any q ws ≡ true
any-take q n ws e = subst (λ (l : List TreeWindow). list_any q l ≡ true) (take-append-drop n ws) (any-first q (take n ws) (drop n ws) e)

any-drop : (q : TreeWindow → Bool) (n : ℕ) (ws : List TreeWindow) → list_any q (drop n ws) ≡ true → list_any q ws ≡ true
any-drop q n ws e = subst (λ (l : List TreeWindow). list_any q l ≡ true) (take-append-drop n ws) (any-second q (take n ws) (drop n ws) e)

either-in : (q : TreeWindow → Bool) (ws us vs ts : List TreeWindow) → (list_any q ws ≡ true → list_any q us ≡ true) → (list_any q vs ≡ true → list_any q ts ≡ true)
    → (list_any q ws || list_any q vs) ≡ true → (list_any q us || list_any q ts) ≡ true
either-in q ws us vs ts f g e =
    either-of ((list_any q us || list_any q ts) ≡ true) (list_any q ws) (list_any q vs) e (λ h. or_left _ _ (f h)) (λ h. or_right _ _ (g h))

pub pieces-in : {A : Type 0} (a b n : ℕ) (ws vs : List TreeWindow) (changes : List (Change A)) (x y : ℤ) → marks_pieces a b n ws vs changes x y ≡ true
    → (list_any (window_has x y) ws || list_any (window_has x y) vs) ≡ true
pieces-in a b n ws vs changes x y e =
    either-of _ (marks (take a ws) (take b vs) changes x y)
    (marks (take n (drop a ws)) (take n (drop b vs)) changes x y || marks (drop n (drop a ws)) (drop n (drop b vs)) changes x y) e
    (λ f. either-in (window_has x y) (take a ws) ws (take b vs) vs (any-take (window_has x y) a ws) (any-take (window_has x y) b vs) (marks-in (take a ws) (take b vs) changes x y f))
    (λ f. either-of _ (marks (take n (drop a ws)) (take n (drop b vs)) changes x y) (marks (drop n (drop a ws)) (drop n (drop b vs)) changes x y) f
    (λ g. either-in (window_has x y) (take n (drop a ws)) ws (take n (drop b vs)) vs (λ h. any-drop (window_has x y) a ws (any-take (window_has x y) n (drop a ws) h))
    (λ h. any-drop (window_has x y) b vs (any-take (window_has x y) n (drop b vs) h)) (marks-in (take n (drop a ws)) (take n (drop b vs)) changes x y g))
    (λ g. either-in (window_has x y) (drop n (drop a ws)) ws (drop n (drop b vs)) vs (λ h. any-drop (window_has x y) a ws (any-drop (window_has x y) n (drop a ws) h))
    (λ h. any-drop (window_has x y) b vs (any-drop (window_has x y) n (drop b vs) h)) (marks-in (drop n (drop a ws)) (drop n (drop b vs)) changes x y g)))

pub past-in : {A : Type 0} (ws vs : List TreeWindow) (changes : List (Change A)) (x y : ℤ) → marks_past ws vs changes x y ≡ true
    → (list_any (window_has x y) ws || list_any (window_has x y) vs) ≡ true
past-in ws vs changes x y e = at (nat_le (pixels_lifted ws vs) (pixels_lifted vs ws)) e
  where
    at : (b : Bool) → (if b then marks_pieces (lifted ws vs) 0 (length ws - lifted ws vs) ws vs changes x y
        else marks_pieces 0 (lifted vs ws) (length vs - lifted vs ws) ws vs changes x y) ≡ true
        → (list_any (window_has x y) ws || list_any (window_has x y) vs) ≡ true
    at true f = pieces-in (lifted ws vs) 0 (length ws - lifted ws vs) ws vs changes x y f
    at false f = pieces-in 0 (lifted vs ws) (length vs - lifted vs ws) ws vs changes x y f

-- ---- the windows of a toplevel

pub split-up : (n m : ℕ) (ws : List TreeWindow) → take n ws ++ (below_top m (drop n ws) ++ top m (drop n ws)) ≡ ws
split-up n m ws = ap (λ (l : List TreeWindow). take n ws ++ l) (take-append-drop (length (drop n ws) - m) (drop n ws)) ∙ take-append-drop n ws

root-of-one : (xs ys : List TreeWindow) → is_one_tree xs ys ≡ true → (root : ℕ) × (are_of root xs ≡ true) × (are_of root ys ≡ true)
root-of-one [] [] e = (0, refl, refl)
root-of-one [] (v ∷ vs) e = (v.root, refl, e)
root-of-one (w ∷ ws) ys e = let parts = and_parts (are_of w.root (w ∷ ws)) (are_of w.root ys) e in (w.root, parts.0, parts.1)

not-true : (b : Bool) → not b ≡ true → b ≡ false
not-true true e = absurd (differ e)
not-true false e = refl

around-within : {A : Type 0} (n m : ℕ) (was is : List TreeWindow) (changes : List (Change A)) (x y : ℤ) → same_windows (take n was) (take n is) ≡ true
    → same_windows (top m (drop n was)) (top m (drop n is)) ≡ true → moves_in_one (below_top m (drop n was)) (below_top m (drop n is)) ≡ true
    → marks_around n m was is changes x y ≡ true → marks_trees was is changes x y ≡ true
around-within n m was is changes x y below above moves e =
    subst (λ (l : List TreeWindow). marks_trees l is changes x y ≡ true) (split-up n m was)
    (subst (λ (l : List TreeWindow). marks_trees (take n was ++ (below_top m (drop n was) ++ top m (drop n was))) l changes x y ≡ true) (split-up n m is) inside)
  where
    parts : (is_one_tree (below_top m (drop n was)) (below_top m (drop n is)) ≡ true) × (not (same_windows (below_top m (drop n was)) (below_top m (drop n is))) ≡ true)
    parts = and_parts (is_one_tree (below_top m (drop n was)) (below_top m (drop n is))) (not (same_windows (below_top m (drop n was)) (below_top m (drop n is)))) moves

    root : (root : ℕ) × (are_of root (below_top m (drop n was)) ≡ true) × (are_of root (below_top m (drop n is)) ≡ true)
    root = root-of-one (below_top m (drop n was)) (below_top m (drop n is)) parts.0

    inside : marks_trees (take n was ++ (below_top m (drop n was) ++ top m (drop n was))) (take n is ++ (below_top m (drop n is) ++ top m (drop n is))) changes x y ≡ true
    inside =
        either-of _ (marks (take n was) (take n is) changes x y)
        (marks_past (below_top m (drop n was)) (below_top m (drop n is)) changes x y || marks (top m (drop n was)) (top m (drop n is)) changes x y) e
        (λ f. damage-within (take n was ++ (below_top m (drop n was) ++ top m (drop n was))) (take n is ++ (below_top m (drop n is) ++ top m (drop n is))) changes x y
        (any-first (λ w. list_any (λ c. is_struck_by c x y w) changes) (take n is) (below_top m (drop n is) ++ top m (drop n is))
        (stays-struck (take n was) (take n is) changes x y below f)))
        (λ f. either-of _ (marks_past (below_top m (drop n was)) (below_top m (drop n is)) changes x y) (marks (top m (drop n was)) (top m (drop n is)) changes x y) f
        (λ g. moved-within root.0 (take n was) (below_top m (drop n was)) (top m (drop n was)) (take n is) (below_top m (drop n is)) (top m (drop n is)) below above
        root.1 root.2 (not-true _ parts.1) changes x y (past-in (below_top m (drop n was)) (below_top m (drop n is)) changes x y g))
        (λ g. damage-within (take n was ++ (below_top m (drop n was) ++ top m (drop n was))) (take n is ++ (below_top m (drop n is) ++ top m (drop n is))) changes x y
        (any-second (λ w. list_any (λ c. is_struck_by c x y w) changes) (take n is) (below_top m (drop n is) ++ top m (drop n is))
        (any-second (λ w. list_any (λ c. is_struck_by c x y w) changes) (below_top m (drop n is)) (top m (drop n is))
        (stays-struck (top m (drop n was)) (top m (drop n is)) changes x y above g)))))

-- No more is marked than tree by tree.
pub moved-most : {A : Type 0} (was is : List TreeWindow) (changes : List (Change A)) (x y : ℤ) → marks_moved was is changes x y ≡ true → marks_trees was is changes x y ≡ true
moved-most was is changes x y e =
    at (moves_in_one (below_top (same_above (drop (same_below was is) was) (drop (same_below was is) is)) (drop (same_below was is) was))
    (below_top (same_above (drop (same_below was is) was) (drop (same_below was is) is)) (drop (same_below was is) is))) refl e
  where
    at : (b : Bool) → moves_in_one (below_top (same_above (drop (same_below was is) was) (drop (same_below was is) is)) (drop (same_below was is) was))
        (below_top (same_above (drop (same_below was is) was) (drop (same_below was is) is)) (drop (same_below was is) is)) ≡ b
        → (if b then marks_around (same_below was is) (same_above (drop (same_below was is) was) (drop (same_below was is) is)) was is changes x y else marks_trees was is changes x y) ≡ true
        → marks_trees was is changes x y ≡ true
    at true moves f =
        around-within (same_below was is) (same_above (drop (same_below was is) was) (drop (same_below was is) is)) was is changes x y (same-prefix was is)
        (same-suffix (drop (same_below was is) was) (drop (same_below was is) is)) moves f
    at false moves f = f

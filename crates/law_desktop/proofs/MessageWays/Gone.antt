-- The windows of a client that ended are gone, with those of its popups, and what is marked of that lies in them.
use Rattle.std.proofs.Common.{◌≡◌, ◌≢◌, ℕ, List, [], ◌∷◌, ◌++◌, Bool, true, false, cond, refl, ap, ap₂, sym, ◌∙◌, map}
use Rattle.std.specs.Prelude.{ℤ, ◌==◌, ◌&&◌, filter, flat_map, fold, int_le, not, pos, unsigned_abs}
use Rattle.std.specs.List.{list_any}
use Rattle.std.specs.Option.{option_map}
use Rattle.std.proofs.lemmas.Bool.{and_from, eqb-false, or_left}
use Rattle.std.proofs.lemmas.List.Elements.{filter-append}
use Rattle.wl_surface.specs.Surfaces.{Surfaces, history_in}
use Rattle.spec_desktop.specs.Popups.{stacked_popups}
use Rattle.spec_desktop.specs.Stacking.{Owned, Standing, root_of, without_client}
use Rattle.spec_desktop.specs.Windows.{Root, StackedPopup, Window, contains, has_parent, owner_of, root_on, roots_of, stacked, stacked_on, tree, windows, windows_of}
use Rattle.spec_desktop.specs.Desktop.{Desktop, owned_in}
use Rattle.spec_desktop.specs.Marks.{AreDistinct, at_least}
use Rattle.spec_desktop.specs.Moments.{applied_between, history_of, marks_at_least}
use Rattle.spec_desktop.specs.Stacked.{all_windows}
use Rattle.law_desktop.proofs.Marks.Stacks.{equal-numbers, fields}
use Rattle.law_desktop.proofs.Soundness.Trees.{each-flat}
use Rattle.law_desktop.proofs.Soundness.Windows.{sound_is_distinct}
use Rattle.law_desktop.specs.Touching.{has_window_at}
use Rattle.law_desktop.proofs.TreeSteps.Damage.{applies-nothing}
use Rattle.law_desktop.proofs.TreeSteps.Owners.{tree-owned}
use Rattle.law_desktop.specs.Changes.{HasTrees}
use Rattle.law_desktop.specs.WaysLaws.{GoneMarksLeast, GoneMarksMost, GoneWindows}
use Rattle.law_desktop.specs.Ways.{IsGone}
use Rattle.law_desktop.proofs.MessageWays.Lists.{gone-least, is_gone_at, least-gone}
use Rattle.law_desktop.proofs.Truth.{and-false, and-left, and-right, differ}
use Rattle.law_desktop.proofs.Lists.Each.{Each, each-append, each-map}
use Rattle.law_desktop.proofs.Lists.Tests.{any-more, filter-all}
use Rattle.law_desktop.proofs.Lists.Left.{filter-none-each}

-- the window is of another client
abbrev pub is_of_other : ℕ → Window → Bool
is_of_other c w = not (w.owner.client == c)

-- ---- a toplevel with its popups

-- each of them is of its client
stacked-of : (n : ℕ) (surfaces : Surfaces) (p : StackedPopup) (rs : List Root) → Each (λ r. r.client ≡ n) rs → Each (λ r. r.client ≡ n) (stacked_on surfaces p rs)
stacked-of n surfaces p [] each = tt
stacked-of n surfaces p (r ∷ rs) each = at (p.is_mapped && has_parent r.surface p) (stacked-of n surfaces p rs each.1)
  where
    at : (b : Bool) → Each (λ r. r.client ≡ n) (stacked_on surfaces p rs) → Each (λ r. r.client ≡ n) (cond b (root_on surfaces r p ∷ []) (stacked_on surfaces p rs))
    at true rest = (each.0, tt)
    at false rest = rest

roots-of : (n : ℕ) (surfaces : Surfaces) (rs : List Root) (ps : List StackedPopup) → Each (λ r. r.client ≡ n) rs → Each (λ r. r.client ≡ n) (fold (stacked surfaces) rs ps)
roots-of n surfaces rs [] each = each
roots-of n surfaces rs (p ∷ ps) each =
    roots-of n surfaces (stacked surfaces rs p) ps (each-append (λ r. r.client ≡ n) rs (stacked_on surfaces p rs) each (stacked-of n surfaces p rs each))

-- its windows, by what its client owns
abbrev shown_by : Owned → Root → List Window
shown_by owned t =
    flat_map (λ (r : Root). tree 17 (owner_of r) owned.surfaces r.surface r.place) (roots_of owned.surfaces t (stacked_popups owned))

trees-by : (owned : ℕ → Owned) (n : ℕ) (rs : List Root) → Each (λ r. r.client ≡ n) rs
    → flat_map (λ (r : Root). tree 17 (owner_of r) (owned r.client).surfaces r.surface r.place) rs
    ≡ flat_map (λ (r : Root). tree 17 (owner_of r) (owned n).surfaces r.surface r.place) rs
trees-by owned n [] each = refl
trees-by owned n (r ∷ rs) each =
    ap₂ (λ (ws vs : List Window). ws ++ vs) (ap (λ k. tree 17 (owner_of r) (owned k).surfaces r.surface r.place) each.0) (trees-by owned n rs each.1)

abbrev shown_of : (ℕ → Owned) → Root → List Window
shown_of owned t = windows_of (λ c. (owned c).surfaces) (λ c. stacked_popups (owned c)) t

shown-by : (owned : ℕ → Owned) (t : Root) → shown_of owned t ≡ shown_by (owned t.client) t
shown-by owned t =
    trees-by owned t.client (roots_of (owned t.client).surfaces t (stacked_popups (owned t.client)))
    (roots-of t.client (owned t.client).surfaces (t ∷ []) (stacked_popups (owned t.client)) (refl, tt))

-- they are that client's
shown-own : (owned : Owned) (t : Root) → Each (λ w. w.owner.client ≡ t.client) (shown_by owned t)
shown-own owned t =
    each-flat (λ w. w.owner.client ≡ t.client) (λ (r : Root). tree 17 (owner_of r) owned.surfaces r.surface r.place) (roots_of owned.surfaces t (stacked_popups owned))
    (each-map (λ r. r.client ≡ t.client) (λ r. Each (λ w. w.owner.client ≡ t.client) (tree 17 (owner_of r) owned.surfaces r.surface r.place))
    (λ r own. each-map (λ (w : Window). w.owner ≡ owner_of r) (λ w. w.owner.client ≡ t.client) (λ w is. ap (λ o. o.client) is ∙ own)
    (tree 17 (owner_of r) owned.surfaces r.surface r.place) (tree-owned 17 (owner_of r) owned.surfaces r.surface r.place))
    (roots_of owned.surfaces t (stacked_popups owned)) (roots-of t.client owned.surfaces (t ∷ []) (stacked_popups owned) (refl, tt)))

-- ---- the windows of the others

abbrev windows_by : (ℕ → Owned) → List Standing → List Window
windows_by owned standing = windows (λ c. (owned c).surfaces) (λ c. stacked_popups (owned c)) (map (root_of owned) standing)

module _ (c : ℕ) (owned new : ℕ → Owned) (others : (other : ℕ) → other ≢ c → new other ≡ owned other) where
  -- of each toplevel
  own-filtered : (s : Standing) (b : Bool) → (s.client == c) ≡ b → cond (not b) (shown_of new (root_of new s)) [] ≡ filter (is_of_other c) (shown_of owned (root_of owned s))
  own-filtered s true is =
      sym (ap (filter (is_of_other c)) (shown-by owned (root_of owned s))
      ∙ filter-none-each (is_of_other c) (shown_by (owned s.client) (root_of owned s))
      (each-map (λ (w : Window). w.owner.client ≡ s.client) (λ w. is_of_other c w ≡ false) (λ w own. ap (λ n. not (n == c)) own ∙ ap (λ b. not b) is)
      (shown_by (owned s.client) (root_of owned s)) (shown-own (owned s.client) (root_of owned s))))
  own-filtered s false other =
      shown-by new (root_of new s)
      ∙ ap (λ (o : Owned). shown_by o (root_of (λ n. o) s)) (others s.client (eqb-false s.client c other))
      ∙ sym (ap (filter (is_of_other c)) (shown-by owned (root_of owned s))
      ∙ filter-all (is_of_other c) (shown_by (owned s.client) (root_of owned s))
      (each-map (λ (w : Window). w.owner.client ≡ s.client) (λ w. is_of_other c w ≡ true) (λ w own. ap (λ n. not (n == c)) own ∙ ap (λ b. not b) other)
      (shown_by (owned s.client) (root_of owned s)) (shown-own (owned s.client) (root_of owned s))))

  first-filtered : (s : Standing) (ss : List Standing) (b : Bool) → windows_by new (cond (not b) (s ∷ ss) ss) ≡ cond (not b) (shown_of new (root_of new s)) [] ++ windows_by new ss
  first-filtered s ss true = refl
  first-filtered s ss false = refl

  windows-left : (ss : List Standing) → windows_by new (without_client c ss) ≡ filter (is_of_other c) (windows_by owned ss)
  windows-left [] = refl
  windows-left (s ∷ ss) =
      first-filtered s (without_client c ss) (s.client == c)
      ∙ ap₂ (λ (ws vs : List Window). ws ++ vs) (own-filtered s (s.client == c) refl) (windows-left ss)
      ∙ sym (filter-append (is_of_other c) (shown_of owned (root_of owned s)) (windows_by owned ss))

pub gone_windows : GoneWindows
gone_windows c d e gone = ap (windows_by (owned_in e)) gone.standing ∙ windows-left c (owned_in d) (owned_in e) gone.others d.standing

-- ---- what is marked

-- no surface has two windows
pub all-distinct : (d : Desktop) → HasTrees d → AreDistinct (all_windows d)
all-distinct d has = sound_is_distinct d has.sound

-- where a client owns what it did, no damage was applied to its surfaces
pub same-applied : (d e : Desktop) (client surface : ℕ) (x y : ℤ) → owned_in e client ≡ owned_in d client → applied_between d e client surface x y ≡ false
same-applied d e client surface x y same =
    ap (λ b. (int_le (pos 0) x && int_le (pos 0) y) && b)
    (applies-nothing (history_of d client surface) (history_of e client surface)
    (ap (λ (o : Owned). option_map (λ h. h.cut) (history_in surface o.surfaces)) same) (unsigned_abs x) (unsigned_abs y))
    ∙ and-false (int_le (pos 0) x && int_le (pos 0) y)

-- a window of another client
other-client : (c : ℕ) (w : Window) → is_of_other c w ≡ true → w.owner.client ≢ c
other-client c w other same = differ (sym (ap (λ b. not b) (equal-numbers w.owner.client c same)) ∙ other)

-- one of the client's own
its-own : (c : ℕ) (w : Window) → not (is_of_other c w) ≡ true → (w.owner.client == c) ≡ true
its-own c w own = at (w.owner.client == c) own
  where
    at : (b : Bool) → not (not b) ≡ true → b ≡ true
    at true own = refl
    at false own = absurd (differ own)

module _ (c : ℕ) (d e : Desktop) (gone : IsGone c d e) (x y : ℤ) where
  marks-left : marks_at_least d e x y ≡ at_least d.output.width d.output.height (applied_between d e) (all_windows d) (filter (is_of_other c) (all_windows d)) x y
  marks-left = ap (λ (ws : List Window). at_least d.output.width d.output.height (applied_between d e) (all_windows d) ws x y) (gone_windows c d e gone)

  -- a point in a window of the client
  from-gone : list_any (is_gone_at (is_of_other c) (all_windows d) x y) (all_windows d) ≡ true → has_window_at c x y d ≡ true
  from-gone any =
      any-more (is_gone_at (is_of_other c) (all_windows d) x y) (λ w. (w.owner.client == c) && contains w x y)
      (λ w f. and_from (w.owner.client == c) (contains w x y) (its-own c w (and-right (contains w x y) (not (is_of_other c w)) f))
      (and-left (contains w x y) (not (is_of_other c w)) f)) (all_windows d) any

  to-gone : has_window_at c x y d ≡ true → list_any (λ w. contains w x y && not (is_of_other c w)) (all_windows d) ≡ true
  to-gone there =
      any-more (λ (w : Window). (w.owner.client == c) && contains w x y) (λ w. contains w x y && not (is_of_other c w))
      (λ w f. and_from (contains w x y) (not (is_of_other c w)) (and-right (w.owner.client == c) (contains w x y) f)
      (ap (λ b. not (not b)) (and-left (w.owner.client == c) (contains w x y) f))) (all_windows d) there

pub gone_marks_least : GoneMarksLeast
gone_marks_least c d e had gone x y marked =
    from-gone c d e gone x y
    (least-gone (is_of_other c) (all_windows d) x y (applied_between d e) (all-distinct d had)
    (λ w other p q. same-applied d e w.owner.client w.surface p q (gone.others w.owner.client (other-client c w other)))
    d.output.width d.output.height (sym (marks-left c d e gone x y) ∙ marked))

pub gone_marks_most : GoneMarksMost
gone_marks_most c d e gone x y inside there =
    or_left (marks_at_least d e x y) _
    (marks-left c d e gone x y
    ∙ gone-least (is_of_other c) (all_windows d) x y (λ w v same. ap (λ n. not (n == c)) (fields w v same).client) (applied_between d e)
    d.output.width d.output.height inside (to-gone c d e gone x y there))

-- A surface that shows a buffer has a window of its own (wayland.xml, wl_surface.attach).
use Rattle.std.proofs.Common.{◌≡◌, ℕ, suc, Bool, true, false, cond, Option, Some, None, List, [], ◌∷◌, ◌++◌, refl, ap, sym, ◌∙◌}
use Rattle.std.specs.Prelude.{◌||◌, not, flat_map, fold}
use Rattle.std.specs.List.{list_any}
use Rattle.std.proofs.lemmas.List.Folds.{list_any-append}
use Rattle.std.proofs.lemmas.Bool.{or_left, or_right}
use Rattle.spec_desktop.specs.Stacking.{shows_buffer}
use Rattle.spec_desktop.specs.Windows.{Owner, Place, Window, corner_at, member_windows, shown_windows, surface_windows, tree, window_with}
use Rattle.wl_surface.specs.Request.{Buffer, Child, Itself, Member, Request, AddChild, PlaceAbove, PlaceBelow}
use Rattle.wl_surface.specs.State.{History, above, applied, below, counting, is_member, order, ordered, placed, without}
use Rattle.wl_surface.specs.Surfaces.{Surfaces, history_in}

-- ---- the order of a surface and its children

abbrev pub HasItself : List Member → Type 0
HasItself ms = list_any (is_member Itself) ms ≡ true

without-keeps : (l : ℕ) (ms : List Member) → list_any (is_member Itself) (without (Child l) ms) ≡ list_any (is_member Itself) ms
without-keeps l [] = refl
without-keeps l (Itself ∷ ms) = refl
without-keeps l (Child k ∷ ms) = at (is_member (Child l) (Child k)) (without-keeps l ms)
  where
    at : (b : Bool) → list_any (is_member Itself) (without (Child l) ms) ≡ list_any (is_member Itself) ms
        → list_any (is_member Itself) (cond (not b) (Child k ∷ without (Child l) ms) (without (Child l) ms)) ≡ list_any (is_member Itself) ms
    at true same = same
    at false same = same

above-keeps : (m at : Member) (ms : List Member) → HasItself ms → HasItself (above m at ms)
above-keeps m at [] has = has
above-keeps m at (x ∷ xs) has = by (is_member at x) (λ rest. above-keeps m at xs rest)
  where
    first : (b : Bool) → is_member Itself x ≡ b → HasItself (x ∷ xs) → (HasItself xs → HasItself (above m at xs)) → HasItself (x ∷ above m at xs)
    first true e has next = or_left (is_member Itself x) _ e
    first false e has next = or_right (is_member Itself x) _ (next (sym (ap (λ b. b || list_any (is_member Itself) xs) e) ∙ has))

    by : (b : Bool) → (HasItself xs → HasItself (above m at xs)) → HasItself (cond b (x ∷ m ∷ xs) (x ∷ above m at xs))
    by true next = own (is_member Itself x) refl
      where
        own : (b : Bool) → is_member Itself x ≡ b → HasItself (x ∷ m ∷ xs)
        own true e = or_left (is_member Itself x) _ e
        own false e = or_right (is_member Itself x) _ (or_right (is_member Itself m) _ (sym (ap (λ b. b || list_any (is_member Itself) xs) e) ∙ has))
    by false next = first (is_member Itself x) refl has next

below-keeps : (m at : Member) (ms : List Member) → HasItself ms → HasItself (below m at ms)
below-keeps m at [] has = has
below-keeps m at (x ∷ xs) has = by (is_member at x) (λ rest. below-keeps m at xs rest)
  where
    first : (b : Bool) → is_member Itself x ≡ b → HasItself (x ∷ xs) → (HasItself xs → HasItself (below m at xs)) → HasItself (x ∷ below m at xs)
    first true e has next = or_left (is_member Itself x) _ e
    first false e has next = or_right (is_member Itself x) _ (next (sym (ap (λ b. b || list_any (is_member Itself) xs) e) ∙ has))

    by : (b : Bool) → (HasItself xs → HasItself (below m at xs)) → HasItself (cond b (m ∷ x ∷ xs) (x ∷ below m at xs))
    by true next = or_right (is_member Itself m) _ has
    by false next = first (is_member Itself x) refl has next

placed-keeps : (beside : Member → Member → List Member → List Member) → ((m at : Member) (ms : List Member) → HasItself ms → HasItself (beside m at ms)) → (l : ℕ) (at : Member) (ms : List Member)
    → HasItself ms → HasItself (placed beside l at ms)
placed-keeps beside keeps l at ms has = by (list_any (is_member at) (without (Child l) ms))
  where
    by : (b : Bool) → HasItself (cond b (beside (Child l) at (without (Child l) ms)) ms)
    by true = keeps (Child l) at (without (Child l) ms) (without-keeps l ms ∙ has)
    by false = has

ordered-keeps : (ms : List Member) (request : Request) → HasItself ms → HasItself (ordered ms request)
ordered-keeps ms (AddChild l) has = list_any-append (is_member Itself) ms (Child l ∷ []) ∙ or_left (list_any (is_member Itself) ms) _ has
ordered-keeps ms (PlaceAbove l at) has = placed-keeps above above-keeps l at ms has
ordered-keeps ms (PlaceBelow l at) has = placed-keeps below below-keeps l at ms has
ordered-keeps ms request has = has

pub order-keeps : (rs : List Request) (ms : List Member) → HasItself ms → HasItself (fold ordered ms rs)
order-keeps [] ms has = has
order-keeps (r ∷ rs) ms has = order-keeps rs (ordered ms r) (ordered-keeps ms r has)

-- ---- windows

some-window : (g : Member → List Window) (w : Window) → g Itself ≡ w ∷ [] → (ms : List Member) → HasItself ms → flat_map g ms ≡ [] → true ≡ false
some-window g w own [] has none = sym has
some-window g w own (Itself ∷ ms) has none = absurd (cc)
some-window g w own (Child k ∷ ms) has none = some-window g w own ms has (behind (g (Child k)) none)
  where
    behind : (ws : List Window) → ws ++ flat_map g ms ≡ [] → flat_map g ms ≡ []
    behind [] e = e
    behind (v ∷ vs) e = absurd (cc)

-- The tree of a surface that shows a buffer has a window.
pub shows-window : (levels : ℕ) (owner : Owner) (all : Surfaces) (surface : ℕ) (place : Place) → shows_buffer (history_in surface all) ≡ true → tree (suc levels) owner all surface place ≡ []
    → true ≡ false
unfolding tree
shows-window levels owner all surface place = at (history_in surface all)
  where
    by : (h : History) (o : Option Buffer) → (applied h).buffer ≡ o → shows_buffer (Some h) ≡ true
        → shown_windows (λ child at. tree levels owner all child at) owner all surface h (corner_at place h) o ≡ [] → true ≡ false
    by h None e shows none = sym shows ∙ ap (λ (b : Option Buffer). shown b) e
      where
        shown : Option Buffer → Bool
        shown None = false
        shown (Some b) = true
    by h (Some b) e shows none =
        some-window (member_windows (λ child at. tree levels owner all child at) owner all surface h (corner_at place h)) _
        (ap (window_with owner surface (corner_at place h) (applied h)) e) (order (counting h)) (order-keeps (counting h) (Itself ∷ []) refl) none

    at : (o : Option History) → shows_buffer o ≡ true → surface_windows (λ child at. tree levels owner all child at) owner all surface place o ≡ [] → true ≡ false
    at None shows none = sym shows
    at (Some h) shows none = by h (applied h).buffer refl shows none

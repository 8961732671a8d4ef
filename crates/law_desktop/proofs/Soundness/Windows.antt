-- No surface has two windows where a desktop is sound.
use Rattle.std.proofs.Common.{◌≡◌, ℕ, Bool, true, false, Option, Some, None, List, [], ◌∷◌, ◌++◌, refl, sym, subst, ◌∙◌}
use Rattle.std.specs.Prelude.{◌==◌, ◌&&◌, ◌||◌, cond, fold, map}
use Rattle.std.specs.List.{list_any}
use Rattle.std.specs.Option.{option_map_or}
use Rattle.std.proofs.lemmas.Bool.{and_from, eqb-true, false_from_ne_true, or_from, or_left, or_right}
use Rattle.wl_surface.specs.Surfaces.{Surfaces}
use Rattle.spec_desktop.specs.Stacking.{Owned, Standing, is_of, root_of}
use Rattle.spec_desktop.specs.Windows.{Root, StackedPopup, Window, owner_of, root_on, roots_of, stacked, stacked_on, tree, windows_of}
use Rattle.spec_desktop.specs.Desktop.{Desktop, owned_in}
use Rattle.law_desktop.specs.Laws.{AreApart}
use Rattle.spec_desktop.specs.Marks.{AreDistinct, is_same_surface}
use Rattle.spec_desktop.specs.Popups.{stacked_popups}
use Rattle.law_desktop.specs.Soundness.{AreOnce, AreTrees, IsNoChild, IsSound, SoundIsDistinct, has_surface}
use Rattle.law_desktop.proofs.Marks.Stacks.{equal-numbers, same-number}
use Rattle.law_desktop.proofs.Soundness.Trees.{IsUnder, Under, all-there, each-flat, flat-distinct, none-append, same-client, same-surface, tree-distinct, tree-each, under-one}
use Rattle.law_desktop.proofs.Truth.{and-right, differ, or-left, or-right}
use Rattle.law_desktop.proofs.Lists.Each.{Each, each-append, each-both, each-map}

-- ---- the roots of a toplevel

-- a root of this surface
abbrev pub roots_at : ℕ → Root → Bool
roots_at x r = r.surface == x

abbrev pub In : ℕ → List Root → Bool
In x roots = list_any (roots_at x) roots

-- a root of the parent's surface
abbrev is_on : Option ℕ → Root → Bool
is_on parent r = option_map_or (λ surface. r.surface == surface) parent false

abbrev InParent : Option ℕ → List Root → Bool
InParent parent roots = list_any (is_on parent) roots

abbrev pub same_root : Root → Root → Bool
same_root r q = roots_at r.surface q

abbrev pub same_popup : StackedPopup → StackedPopup → Bool
same_popup p q = has_surface p.surface q

-- a popup gives no root, or one of its surface where its parent is among the roots
abbrev Shape : StackedPopup → List Root → List Root → Type 0
Shape p rs [] = Unit {0}
Shape p rs (r ∷ []) = (r.surface ≡ p.surface) × (InParent p.parent rs ≡ true)
Shape p rs (r ∷ q ∷ qs) = ⊥

shape-more : (p : StackedPopup) (r : Root) (rs on : List Root) → Shape p rs on → Shape p (r ∷ rs) on
shape-more p r rs [] e = tt
shape-more p r rs (q ∷ []) e = (e.0, or_right (is_on p.parent r) (InParent p.parent rs) e.1)
shape-more p r rs (q ∷ s ∷ ss) e = e

on-shape : (surfaces : Surfaces) (p : StackedPopup) (rs : List Root) → Shape p rs (stacked_on surfaces p rs)
on-shape surfaces p [] = tt
on-shape surfaces p (r ∷ rs) = by (on-shape surfaces p rs) (p.is_mapped && is_on p.parent r) refl
  where
    by : Shape p rs (stacked_on surfaces p rs) → (b : Bool) → (p.is_mapped && is_on p.parent r) ≡ b → Shape p (r ∷ rs) (cond b (root_on surfaces r p ∷ []) (stacked_on surfaces p rs))
    by shape true e = (refl, or_left (is_on p.parent r) (InParent p.parent rs) (and-right p.is_mapped (is_on p.parent r) e))
    by shape false e = shape-more p r rs (stacked_on surfaces p rs) shape

in-shape : (p : StackedPopup) (rs on : List Root) (x : ℕ) → Shape p rs on → In x on ≡ true → (p.surface ≡ x) × (InParent p.parent rs ≡ true)
in-shape p rs [] x e f = absurd (differ f)
in-shape p rs (r ∷ []) x e f = (sym e.0 ∙ eqb-true r.surface x (first (roots_at x r) f), e.1)
  where
    first : (a : Bool) → (a || false) ≡ true → a ≡ true
    first true g = refl
    first false g = g
in-shape p rs (r ∷ q ∷ qs) x e f = absurd e

-- each root is one of these
pub on-each : (P : Root → Type 0) (surfaces : Surfaces) (p : StackedPopup) → ((r : Root) → P r → P (root_on surfaces r p)) → (rs : List Root) → Each P rs → Each P (stacked_on surfaces p rs)
on-each P surfaces p f [] e = tt
on-each P surfaces p f (r ∷ rs) e = by (on-each P surfaces p f rs e.1) (p.is_mapped && is_on p.parent r)
  where
    by : Each P (stacked_on surfaces p rs) → (b : Bool) → Each P (cond b (root_on surfaces r p ∷ []) (stacked_on surfaces p rs))
    by rest true = (f r e.0, tt)
    by rest false = rest

pub stacked-each : (P : Root → Type 0) (surfaces : Surfaces) (rs : List Root) (ps : List StackedPopup) → Each P rs → Each (λ p. (r : Root) → P r → P (root_on surfaces r p)) ps
    → Each P (fold (stacked surfaces) rs ps)
stacked-each P surfaces rs [] e f = e
stacked-each P surfaces rs (p ∷ ps) e f =
    stacked-each P surfaces (stacked surfaces rs p) ps (each-append P rs (stacked_on surfaces p rs) e (on-each P surfaces p f.0 rs e)) f.1

-- no root twice
once-append : (rs qs : List Root) → AreOnce same_root rs → AreOnce same_root qs → Each (λ r. In r.surface qs ≡ false) rs → AreOnce same_root (rs ++ qs)
once-append [] qs e f g = f
once-append (r ∷ rs) qs e f g = (none-append (same_root r) rs qs e.0 g.0, once-append rs qs e.1 f g.1)

shape-once : (p : StackedPopup) (rs on : List Root) → Shape p rs on → AreOnce same_root on
shape-once p rs [] e = tt
shape-once p rs (r ∷ []) e = (refl, tt)
shape-once p rs (r ∷ q ∷ qs) e = absurd e

shape-none : (p : StackedPopup) (rs on : List Root) (x : ℕ) → Shape p rs on → (p.surface ≡ x → ⊥) → In x on ≡ false
shape-none p rs on x e f = false_from_ne_true (In x on) (λ g. f (in-shape p rs on x e g).0)

-- the popups after one that isn't among them have other surfaces
others : (p : StackedPopup) (ps : List StackedPopup) → list_any (same_popup p) ps ≡ false → Each (λ q. p.surface ≡ q.surface → ⊥) ps
others p [] e = tt
others p (q ∷ qs) e = (
  λ same. differ (sym (or-left (same_popup p q) (list_any (same_popup p) qs) e) ∙ equal-numbers q.surface p.surface (sym same)),
  others p qs (or-right (same_popup p q) (list_any (same_popup p) qs) e),
)

-- the popups that follow are not among the roots once one of another surface is stacked
still-new : (surfaces : Surfaces) (p : StackedPopup) (rs : List Root) (ps : List StackedPopup) → list_any (same_popup p) ps ≡ false → Each (λ q. In q.surface rs ≡ false) ps
    → Each (λ q. In q.surface (stacked surfaces rs p) ≡ false) ps
still-new surfaces p rs ps e new =
    each-both (λ q. p.surface ≡ q.surface → ⊥) (λ q. In q.surface rs ≡ false) (λ q. In q.surface (rs ++ stacked_on surfaces p rs) ≡ false)
    (λ q other n. none-append (roots_at q.surface) rs (stacked_on surfaces p rs) n (shape-none p rs (stacked_on surfaces p rs) q.surface (on-shape surfaces p rs) other))
    ps (others p ps e) new

root-self : (r : Root) → same_root r r ≡ true
root-self r = same-number r.surface

stacked-once : (surfaces : Surfaces) (rs : List Root) (ps : List StackedPopup) → AreOnce same_root rs → Each (λ p. In p.surface rs ≡ false) ps → AreOnce same_popup ps
    → AreOnce same_root (fold (stacked surfaces) rs ps)
stacked-once surfaces rs [] e new once = e
stacked-once surfaces rs (p ∷ ps) e new once =
    let shape = on-shape surfaces p rs in
    let clear : Each (λ r. In r.surface (stacked_on surfaces p rs) ≡ false) rs =
    each-map (λ r. In r.surface rs ≡ true) (λ r. In r.surface (stacked_on surfaces p rs) ≡ false)
    (λ r there. shape-none p rs (stacked_on surfaces p rs) r.surface shape (λ same. differ (sym new.0 ∙ subst (λ x. In x rs ≡ true) (sym same) there)))
    rs (all-there same_root root-self rs) in
    stacked-once surfaces (stacked surfaces rs p) ps (once-append rs (stacked_on surfaces p rs) e (shape-once p rs (stacked_on surfaces p rs) shape) clear)
    (still-new surfaces p rs ps once.0 new.1) once.1

-- two lists of roots have no surface in common
abbrev AreAway : List Root → List Root → Type 0
AreAway rs qs = (x : ℕ) → In x rs ≡ true → In x qs ≡ true → ⊥

in-either : (x : ℕ) (rs qs : List Root) → In x (rs ++ qs) ≡ true → (In x rs ≡ true → ⊥) → (In x qs ≡ true → ⊥) → ⊥
in-either x rs qs e f g = differ (sym (none-append (roots_at x) rs qs (false_from_ne_true (In x rs) f) (false_from_ne_true (In x qs) g)) ∙ e)

no-parent : (rs : List Root) → InParent None rs ≡ false
no-parent [] = refl
no-parent (r ∷ rs) = no-parent rs

-- and so no parent
away-parent : (parent : Option ℕ) (rs qs : List Root) → AreAway rs qs → InParent parent rs ≡ true → InParent parent qs ≡ true → ⊥
away-parent None rs qs away e f = differ (sym (no-parent rs) ∙ e)
away-parent (Some x) rs qs away e f = away x e f

away-step : (surfaces : Surfaces) (p : StackedPopup) (rs qs : List Root) → AreAway rs qs → In p.surface rs ≡ false → In p.surface qs ≡ false → AreAway (stacked surfaces rs p) (stacked surfaces qs p)
away-step surfaces p rs qs away f g x a b =
    in-either x rs (stacked_on surfaces p rs) a
    (λ u. in-either x qs (stacked_on surfaces p qs) b (λ v. away x u v)
    (λ v. differ (sym f ∙ subst (λ y. In y rs ≡ true) (sym (in-shape p qs (stacked_on surfaces p qs) x (on-shape surfaces p qs) v).0) u)))
    (λ u. in-either x qs (stacked_on surfaces p qs) b
    (λ v. differ (sym g ∙ subst (λ y. In y qs ≡ true) (sym (in-shape p rs (stacked_on surfaces p rs) x (on-shape surfaces p rs) u).0) v))
    (λ v. away-parent p.parent rs qs away (in-shape p rs (stacked_on surfaces p rs) x (on-shape surfaces p rs) u).1 (in-shape p qs (stacked_on surfaces p qs) x (on-shape surfaces p qs) v).1))

stacked-away : (surfaces : Surfaces) (rs qs : List Root) (ps : List StackedPopup) → AreAway rs qs → Each (λ p. In p.surface rs ≡ false) ps → Each (λ p. In p.surface qs ≡ false) ps
    → AreOnce same_popup ps → AreAway (fold (stacked surfaces) rs ps) (fold (stacked surfaces) qs ps)
stacked-away surfaces rs qs [] away f g once = away
stacked-away surfaces rs qs (p ∷ ps) away f g once =
    stacked-away surfaces (stacked surfaces rs p) (stacked surfaces qs p) ps (away-step surfaces p rs qs away f.0 g.0) (still-new surfaces p rs ps once.0 f.1) (still-new surfaces p qs ps once.0 g.1)
    once.1

-- ---- the windows of toplevels

-- what a client has, for its windows
pub record Holds (surfaces : ℕ → Surfaces) (popups : ℕ → List StackedPopup) : Type 0 where
  pub trees : (c : ℕ) → AreTrees (surfaces c)
  pub once : (c : ℕ) → AreOnce same_popup (popups c)
  pub roots : (c : ℕ) → Each (λ p. IsNoChild p.surface (surfaces c)) (popups c)

abbrev IsLevel : (ℕ → Surfaces) → (ℕ → List StackedPopup) → Root → Type 0
IsLevel surfaces popups t = IsNoChild t.surface (surfaces t.client) × (list_any (has_surface t.surface) (popups t.client) ≡ false)

-- the popups are none of a toplevel's own surface
new-popups : (t : Root) (ps : List StackedPopup) → list_any (has_surface t.surface) ps ≡ false → Each (λ p. In p.surface (t ∷ []) ≡ false) ps
new-popups t [] e = tt
new-popups t (p ∷ ps) e = (
  or_from (roots_at p.surface t) false (false_from_ne_true (roots_at p.surface t) (λ f. differ (sym (or-left (has_surface t.surface p) (list_any (has_surface t.surface) ps) e)
      ∙ equal-numbers p.surface t.surface (sym (eqb-true t.surface p.surface f))))) refl,
  new-popups t ps (or-right (has_surface t.surface p) (list_any (has_surface t.surface) ps) e),
)

abbrev IsTop : (ℕ → Surfaces) → ℕ → Root → Type 0
IsTop surfaces c r = (r.client ≡ c) × IsNoChild r.surface (surfaces c)

tops : (surfaces : ℕ → Surfaces) (popups : ℕ → List StackedPopup) → Holds surfaces popups → (t : Root) → IsLevel surfaces popups t
    → Each (IsTop surfaces t.client) (roots_of (surfaces t.client) t (popups t.client))
tops surfaces popups holds t level =
    stacked-each (IsTop surfaces t.client) (surfaces t.client) (t ∷ []) (popups t.client) ((refl, level.0), tt)
    (each-map (λ p. IsNoChild p.surface (surfaces t.client)) (λ p. (r : Root) → IsTop surfaces t.client r → IsTop surfaces t.client (root_on (surfaces t.client) r p)) (λ p no r top. (top.0, no))
    (popups t.client) (holds.roots t.client))

-- a window under a root of this toplevel's
pub record OfLevel (surfaces : ℕ → Surfaces) (popups : ℕ → List StackedPopup) (t : Root) (w : Window) : Type 0 where
  pub root : ℕ
  pub there : In root (roots_of (surfaces t.client) t (popups t.client)) ≡ true
  pub no_child : IsNoChild root (surfaces t.client)
  pub under : IsUnder t.client (surfaces t.client) root w

-- a window is under one root
pub one-root : (all : Surfaces) → AreTrees all → (c a b : ℕ) (w v : Window) → IsNoChild a all → IsNoChild b all → IsUnder c all a w → IsUnder c all b v → is_same_surface w v ≡ true → a ≡ b
one-root all t c a b w v e f u r same =
    under-one all t u.levels r.levels a b v.surface (subst (λ x. Under all u.levels a x) (same-surface w v same) u.under) r.under (t.top a e ∙ sym (t.top b f))

level-each : (surfaces : ℕ → Surfaces) (popups : ℕ → List StackedPopup) → Holds surfaces popups → (t : Root) → IsLevel surfaces popups t
    → Each (OfLevel surfaces popups t) (windows_of surfaces popups t)
level-each surfaces popups holds t level =
    let roots : List Root = roots_of (surfaces t.client) t (popups t.client) in
    each-flat (OfLevel surfaces popups t) (λ (r : Root). tree 17 (owner_of r) (surfaces r.client) r.surface r.place) roots
    (each-both (IsTop surfaces t.client) (λ r. In r.surface roots ≡ true) (λ r. Each (OfLevel surfaces popups t) (tree 17 (owner_of r) (surfaces r.client) r.surface r.place))
    (λ r top there.
    each-map (IsUnder r.client (surfaces r.client) r.surface) (OfLevel surfaces popups t)
    (λ w u. record { root = r.surface; there = there; no_child = top.1; under = subst (λ c. IsUnder c (surfaces c) r.surface w) top.0 u })
    (tree 17 (owner_of r) (surfaces r.client) r.surface r.place) (tree-each 17 (owner_of r) (surfaces r.client) (holds.trees r.client) r.surface r.place))
    roots (tops surfaces popups holds t level) (all-there same_root root-self roots))

level-distinct : (surfaces : ℕ → Surfaces) (popups : ℕ → List StackedPopup) → Holds surfaces popups → (t : Root) → IsLevel surfaces popups t → AreDistinct (windows_of surfaces popups t)
level-distinct surfaces popups holds t level =
    flat-distinct (λ (r : Root). tree 17 (owner_of r) (surfaces r.client) r.surface r.place) (IsTop surfaces t.client) (λ r w. IsUnder r.client (surfaces r.client) r.surface w) same_root
    (λ r top. tree-distinct 17 (owner_of r) (surfaces r.client) (holds.trees r.client) r.surface r.place)
    (λ r top. tree-each 17 (owner_of r) (surfaces r.client) (holds.trees r.client) r.surface r.place)
    (λ r q w v top-r top-q u x same.
    equal-numbers q.surface r.surface
    (sym (one-root (surfaces t.client) (holds.trees t.client) t.client r.surface q.surface w v top-r.1 top-q.1 (subst (λ c. IsUnder c (surfaces c) r.surface w) top-r.0 u)
    (subst (λ c. IsUnder c (surfaces c) q.surface v) top-q.0 x) same)))
    (roots_of (surfaces t.client) t (popups t.client)) (tops surfaces popups holds t level)
    (stacked-once (surfaces t.client) (t ∷ []) (popups t.client) (refl, tt) (new-popups t (popups t.client) level.1) (holds.once t.client))

abbrev same_level : Root → Root → Bool
same_level t s = (s.client == t.client) && (s.surface == t.surface)

one-apart : (t s : Root) → (t.surface ≡ s.surface → ⊥) → AreAway (t ∷ []) (s ∷ [])
one-apart t s differs x a b = differs (eqb-true t.surface x (first (roots_at x t) a) ∙ sym (eqb-true s.surface x (first (roots_at x s) b)))
  where
    first : (a : Bool) → (a || false) ≡ true → a ≡ true
    first true g = refl
    first false g = g

-- two toplevels of one client with windows of one surface are one
same-toplevel : (surfaces : ℕ → Surfaces) (popups : ℕ → List StackedPopup) → Holds surfaces popups → (c : ℕ) (t s : Root) (w v : Window) → t.client ≡ c → s.client ≡ c → IsLevel surfaces popups t
    → IsLevel surfaces popups s → OfLevel surfaces popups t w → OfLevel surfaces popups s v → is_same_surface w v ≡ true → (s.surface == t.surface) ≡ true
same-toplevel surfaces popups holds c t s w v is-t is-s level-t level-s of-w of-v same = by (s.surface == t.surface) refl
  where
    root-is : of-w.root ≡ of-v.root
    root-is =
        one-root (surfaces c) (holds.trees c) c of-w.root of-v.root w v (subst (λ n. IsNoChild of-w.root (surfaces n)) is-t of-w.no_child)
        (subst (λ n. IsNoChild of-v.root (surfaces n)) is-s of-v.no_child)
        (subst (λ n. IsUnder n (surfaces n) of-w.root w) is-t of-w.under) (subst (λ n. IsUnder n (surfaces n) of-v.root v) is-s of-v.under) same

    away : (t.surface ≡ s.surface → ⊥) → ⊥
    away differs =
        stacked-away (surfaces c) (t ∷ []) (s ∷ []) (popups c) (one-apart t s differs)
        (new-popups t (popups c) (subst (λ n. list_any (has_surface t.surface) (popups n) ≡ false) is-t level-t.1))
        (new-popups s (popups c) (subst (λ n. list_any (has_surface s.surface) (popups n) ≡ false) is-s level-s.1))
        (holds.once c) of-w.root
        (subst (λ n. In of-w.root (roots_of (surfaces n) t (popups n)) ≡ true) is-t of-w.there)
        (subst (λ x. In x (roots_of (surfaces c) s (popups c)) ≡ true) (sym root-is) (subst (λ n. In of-v.root (roots_of (surfaces n) s (popups n)) ≡ true) is-s of-v.there))

    by : (b : Bool) → (s.surface == t.surface) ≡ b → b ≡ true
    by true e = refl
    by false e = absurd (away (λ f. differ (sym e ∙ equal-numbers s.surface t.surface (sym f))))

same-levels : (surfaces : ℕ → Surfaces) (popups : ℕ → List StackedPopup) → Holds surfaces popups → (t s : Root) (w v : Window) → IsLevel surfaces popups t → IsLevel surfaces popups s
    → OfLevel surfaces popups t w → OfLevel surfaces popups s v → is_same_surface w v ≡ true → same_level t s ≡ true
same-levels surfaces popups holds t s w v level-t level-s of-w of-v same =
    let client : s.client ≡ t.client = sym of-v.under.of_client ∙ (sym (same-client w v same) ∙ of-w.under.of_client) in
    and_from (s.client == t.client) (s.surface == t.surface) (equal-numbers s.client t.client client)
    (same-toplevel surfaces popups holds t.client t s w v refl client level-t level-s of-w of-v same)

-- ---- the whole desktop

abbrev standing_same : Standing → Standing → Bool
standing_same s r = is_of s.client s.surface r

standing-self : (s : Standing) → standing_same s s ≡ true
standing-self s = and_from (s.client == s.client) (s.surface == s.surface) (same-number s.client) (same-number s.surface)

none-mapped : (owned : ℕ → Owned) (s : Standing) (ss : List Standing) → list_any (standing_same s) ss ≡ false → list_any (same_level (root_of owned s)) (map (root_of owned) ss) ≡ false
none-mapped owned s [] e = refl
none-mapped owned s (r ∷ rs) e =
    or_from (standing_same s r) (list_any (same_level (root_of owned s)) (map (root_of owned) rs)) (or-left (standing_same s r) (list_any (standing_same s) rs) e)
    (none-mapped owned s rs (or-right (standing_same s r) (list_any (standing_same s) rs) e))

once-mapped : (owned : ℕ → Owned) (ss : List Standing) → AreApart ss → AreOnce same_level (map (root_of owned) ss)
once-mapped owned [] e = tt
once-mapped owned (s ∷ ss) e = (none-mapped owned s ss e.0, once-mapped owned ss e.1)

each-mapped : (P : Root → Type 0) (owned : ℕ → Owned) (ss : List Standing) → Each (λ s. P (root_of owned s)) ss → Each P (map (root_of owned) ss)
each-mapped P owned [] e = tt
each-mapped P owned (s ∷ ss) e = (e.0, each-mapped P owned ss e.1)

popup-self : (p : StackedPopup) → same_popup p p ≡ true
popup-self p = same-number p.surface

holds-of : (d : Desktop) → IsSound d → Holds (λ c. (owned_in d c).surfaces) (λ c. stacked_popups (owned_in d c))
holds-of d sound =
    record {
      trees = sound.trees;
      once = sound.popups;
      roots = λ c.
          each-map (λ p. list_any (has_surface p.surface) (stacked_popups (owned_in d c)) ≡ true) (λ p. IsNoChild p.surface (owned_in d c).surfaces)
          (λ p there. sound.popup_roots c p.surface there) (stacked_popups (owned_in d c)) (all-there same_popup popup-self (stacked_popups (owned_in d c)));
    }

levels-of : (d : Desktop) → IsSound d → Each (IsLevel (λ c. (owned_in d c).surfaces) (λ c. stacked_popups (owned_in d c))) (map (root_of (owned_in d)) d.standing)
levels-of d sound =
    each-mapped (IsLevel (λ c. (owned_in d c).surfaces) (λ c. stacked_popups (owned_in d c))) (owned_in d) d.standing
    (each-map (λ s. list_any (is_of s.client s.surface) d.standing ≡ true) (λ s. IsLevel (λ c. (owned_in d c).surfaces) (λ c. stacked_popups (owned_in d c)) (root_of (owned_in d) s))
    (λ s there. (sound.toplevel_roots s.client s.surface there, sound.levels s.client s.surface there)) d.standing (all-there standing_same standing-self d.standing))

pub sound_is_distinct : SoundIsDistinct
sound_is_distinct d sound =
    flat-distinct (windows_of (λ c. (owned_in d c).surfaces) (λ c. stacked_popups (owned_in d c))) (IsLevel (λ c. (owned_in d c).surfaces) (λ c. stacked_popups (owned_in d c)))
    (OfLevel (λ c. (owned_in d c).surfaces) (λ c. stacked_popups (owned_in d c))) same_level
    (level-distinct (λ c. (owned_in d c).surfaces) (λ c. stacked_popups (owned_in d c)) (holds-of d sound))
    (level-each (λ c. (owned_in d c).surfaces) (λ c. stacked_popups (owned_in d c)) (holds-of d sound))
    (same-levels (λ c. (owned_in d c).surfaces) (λ c. stacked_popups (owned_in d c)) (holds-of d sound))
    (map (root_of (owned_in d)) d.standing) (levels-of d sound) (once-mapped (owned_in d) d.standing sound.apart)

-- What is kept of the windows of the output goes on standing for those of the desktop.
use Rattle.std.proofs.Common.{◌≡◌, ℕ, ◌==◌, Bool, true, false, List, [], ◌∷◌, ◌++◌, Some, cond, map, refl, ap, ap₂, sym, subst, ◌∙◌, eqb-true, eq-eqb}
use Rattle.std.specs.Prelude.{◌&&◌, ◌||◌, filter, not}
use Rattle.std.specs.List.{AllByRecursion as Each, list_all, list_any}
use Rattle.std.proofs.lemmas.List.Elements.{recursion_from_All}
use Rattle.std.proofs.lemmas.List.Folds.{list_any-append}
use Rattle.spec_desktop.specs.Objects.{ById}
use Rattle.spec_desktop.specs.Windows.{Window}
use Rattle.wl_scene.specs.declared.stacked.Stacked.{Stacked}
use Rattle.wl_scene.specs.Stacked.{in_place, is_of, replaced, stacked, without_run}
use Rattle.wl_scene.proofs.Places.{filter-kept, placed-run}
use Rattle.wl_scene.specs.declared.tree_window.TreeWindow.{TreeWindow}
use Rattle.wl_scene.specs.StackedAgreement.{AreNumberedOnce, AreStacked, IsNumberedBy, IsStacked, has_toplevel, told_as, told_by}
use Rattle.wl_scene.specs.StackedLaws.{BothAreStacked, FirstAreStacked, StackedAreTold, StackedClientGone, StackedPushed, StackedRemoved}
use Rattle.wl_scene.specs.StackedLaws.{StackedRenumbered, StackedReplaced, StackedRunGone, RunIsStacked, RunIsThere}
use Rattle.wl_scene.proofs.Truth.{and-left, and-right, differ, or-left, or-right, same-equal, some-same}

-- ---- one list above another

pub first-are-stacked : FirstAreStacked
first-are-stacked numbers ss [] vs are = ([], ss, refl, tt, are)
first-are-stacked numbers [] (w ∷ ws) vs are = absurd are
first-are-stacked numbers (s ∷ ss) (w ∷ ws) vs are =
    let more = first-are-stacked numbers ss ws vs are.1 in
    (s ∷ more.0, more.1, ap (λ (xs : List Stacked). s ∷ xs) more.2, (are.0, more.3), more.4)

pub both-are-stacked : BothAreStacked
both-are-stacked numbers [] others [] vs first above = above
both-are-stacked numbers [] others (w ∷ ws) vs first above = absurd first
both-are-stacked numbers (s ∷ ss) others [] vs first above = absurd first
both-are-stacked numbers (s ∷ ss) others (w ∷ ws) vs first above = (first.0, both-are-stacked numbers ss others ws vs first.1 above)

-- ---- other numbers

pub stacked-renumbered : StackedRenumbered
stacked-renumbered old new ss ws toplevels roots surfaces are =
    all-so ss ws (recursion_from_All SameToplevel ws toplevels) (recursion_from_All SameRoot ws roots) (recursion_from_All SameSurface ws surfaces) are
  where
    SameToplevel : Window → Type 0
    SameToplevel w = new w.owner.client w.owner.toplevel ≡ old w.owner.client w.owner.toplevel

    SameRoot : Window → Type 0
    SameRoot w = new w.owner.client w.owner.root ≡ old w.owner.client w.owner.root

    SameSurface : Window → Type 0
    SameSurface w = new w.owner.client w.surface ≡ old w.owner.client w.surface

    one : (s : Stacked) (w : Window) → SameToplevel w → SameRoot w → SameSurface w → IsStacked old s w → IsStacked new s w
    one s w toplevel root surface is = record {
      client = is.client;
      toplevel = ap (λ (n : ℕ). new n w.owner.toplevel) is.client ∙ toplevel ∙ ap (λ (n : ℕ). old n w.owner.toplevel) (sym is.client) ∙ is.toplevel;
      root = ap (λ (n : ℕ). new n w.owner.root) is.client ∙ root ∙ ap (λ (n : ℕ). old n w.owner.root) (sym is.client) ∙ is.root;
      surface = ap (λ (n : ℕ). new n w.surface) is.client ∙ surface ∙ ap (λ (n : ℕ). old n w.surface) (sym is.client) ∙ is.surface;
      told = is.told;
    }

    all-so : (ss : List Stacked) (ws : List Window) → Each SameToplevel ws → Each SameRoot ws → Each SameSurface ws → AreStacked old ss ws → AreStacked new ss ws
    all-so [] [] toplevels roots surfaces are = tt
    all-so [] (w ∷ ws) toplevels roots surfaces are = absurd are
    all-so (s ∷ ss) [] toplevels roots surfaces are = absurd are
    all-so (s ∷ ss) (w ∷ ws) toplevels roots surfaces are =
        (one s w toplevels.0 roots.0 surfaces.0 are.0, all-so ss ws toplevels.1 roots.1 surfaces.1 are.1)

-- ---- tests that agree on what is kept and what it stands for

module _ (numbers : ℕ → ById ℕ) (p : Stacked → Bool) (q : Window → Bool) (same : (s : Stacked) (w : Window) → IsStacked numbers s w → p s ≡ q w) where
  pub any-same : (ss : List Stacked) (ws : List Window) → AreStacked numbers ss ws → list_any p ss ≡ list_any q ws
  any-same [] [] are = refl
  any-same [] (w ∷ ws) are = absurd are
  any-same (s ∷ ss) [] are = absurd are
  any-same (s ∷ ss) (w ∷ ws) are = ap₂ (λ a b. a || b) (same s w are.0) (any-same ss ws are.1)

  all-same : (ss : List Stacked) (ws : List Window) → AreStacked numbers ss ws → list_all p ss ≡ list_all q ws
  all-same [] [] are = refl
  all-same [] (w ∷ ws) are = absurd are
  all-same (s ∷ ss) [] are = absurd are
  all-same (s ∷ ss) (w ∷ ws) are = ap₂ (λ a b. a && b) (same s w are.0) (all-same ss ws are.1)

  filtered : (ss : List Stacked) (ws : List Window) → AreStacked numbers ss ws → AreStacked numbers (filter p ss) (filter q ws)
  filtered [] [] are = tt
  filtered [] (w ∷ ws) are = absurd are
  filtered (s ∷ ss) [] are = absurd are
  filtered (s ∷ ss) (w ∷ ws) are = at (p s) (q w) (same s w are.0) (filtered ss ws are.1)
    where
      at : (a b : Bool) → a ≡ b → AreStacked numbers (filter p ss) (filter q ws) → AreStacked numbers (cond a (s ∷ filter p ss) (filter p ss)) (cond b (w ∷ filter q ws) (filter q ws))
      at true true e rest = (are.0, rest)
      at false false e rest = rest
      at true false e rest = absurd (differ (sym e))
      at false true e rest = absurd (differ e)

-- ---- the windows stacked with a toplevel

module _ (numbers : ℕ → ById ℕ) (client toplevel k : ℕ) (named : numbers client toplevel ≡ Some k) (once : AreNumberedOnce (numbers client)) where
  same-toplevel : (s : Stacked) (w : Window) → IsStacked numbers s w → is_of client k s ≡ has_toplevel client toplevel w
  same-toplevel s w is = at (client == w.owner.client) refl
    where
      at : (b : Bool) → (client == w.owner.client) ≡ b → is_of client k s ≡ (b && (toplevel == w.owner.toplevel))
      at false apart = ap (λ b. b && (s.toplevel == k)) (same-equal s.client client client w.owner.client (λ e. sym e ∙ is.client) (λ e. is.client ∙ sym e) ∙ apart)
      at true here =
          let own : client ≡ w.owner.client = eqb-true client w.owner.client here in
          let of-toplevel : numbers client w.owner.toplevel ≡ Some s.toplevel = ap (λ (n : ℕ). numbers n w.owner.toplevel) (own ∙ sym is.client) ∙ is.toplevel in
          ap (λ b. b && (s.toplevel == k)) (eq-eqb s.client client (is.client ∙ sym own))
          ∙ same-equal s.toplevel k toplevel w.owner.toplevel (λ e. once toplevel w.owner.toplevel k named (of-toplevel ∙ ap Some e))
          (λ e. some-same s.toplevel k (sym of-toplevel ∙ ap (numbers client) (sym e) ∙ named))

pub run-is-there : RunIsThere
run-is-there numbers ss ws client toplevel k are named once = any-same numbers (is_of client k) (has_toplevel client toplevel) (same-toplevel numbers client toplevel k named once) ss ws are

pub run-is-stacked : RunIsStacked
run-is-stacked numbers ss ws client toplevel k are named once = filtered numbers (is_of client k) (has_toplevel client toplevel) (same-toplevel numbers client toplevel k named once) ss ws are

pub stacked-removed : StackedRemoved
stacked-removed numbers ss ws client toplevel k are named once =
    filtered numbers (λ s. not (is_of client k s)) (λ w. not (has_toplevel client toplevel w)) (λ s w is. ap not (same-toplevel numbers client toplevel k named once s w is)) ss ws are

pub stacked-client-gone : StackedClientGone
stacked-client-gone numbers ss ws client are =
    filtered numbers (λ s. not (s.client == client)) (λ w. not (w.owner.client == client)) (λ s w is. ap (λ (n : ℕ). not (n == client)) is.client) ss ws are

-- ---- the windows that are told

pub stacked-are-told : StackedAreTold
stacked-are-told numbers ss ws client f are own named = all-told ss ws are own (recursion_from_All (IsNumberedBy (numbers client) f) ws named)
  where
    one : (s : Stacked) (w : Window) → (client == w.owner.client) ≡ true → IsNumberedBy (numbers client) f w → IsStacked numbers s w → s.window ≡ told_by f w
    one s w here named is =
        let mine : s.client ≡ client = is.client ∙ sym (eqb-true client w.owner.client here) in
        is.told
        ∙ ap (λ (n : ℕ). told_as n s.window.root w)
        (some-same s.window.surface (f w.surface) (sym is.surface ∙ ap (λ (n : ℕ). numbers n w.surface) mine ∙ named.0))
        ∙ ap (λ (n : ℕ). told_as (f w.surface) n w)
        (some-same s.window.root (f w.owner.root) (sym is.root ∙ ap (λ (n : ℕ). numbers n w.owner.root) mine ∙ named.1))

    all-told : (ss : List Stacked) (ws : List Window) → AreStacked numbers ss ws → list_all (λ w. client == w.owner.client) ws ≡ true
        → Each (IsNumberedBy (numbers client) f) ws → map (λ s. s.window) ss ≡ map (told_by f) ws
    all-told [] [] are own named = refl
    all-told [] (w ∷ ws) are own named = absurd are
    all-told (s ∷ ss) [] are own named = absurd are
    all-told (s ∷ ss) (w ∷ ws) are own named =
        ap₂ (λ (t : TreeWindow) (ts : List TreeWindow). t ∷ ts) (one s w (and-left (client == w.owner.client) _ own) named.0 are.0)
        (all-told ss ws are.1 (and-right (client == w.owner.client) _ own) named.1)

-- the windows stacked with a toplevel, told by the numbers of their surfaces, stand for them
module _ (numbers : ℕ → ById ℕ) (client toplevel k : ℕ) (f : ℕ → ℕ) (known : numbers client toplevel ≡ Some k) where
  run-told : (is : List Window) → list_all (has_toplevel client toplevel) is ≡ true → Each (IsNumberedBy (numbers client) f) is
      → AreStacked numbers (map (stacked client k) (map (told_by f) is)) is
  run-told [] every named = tt
  run-told (w ∷ ws) every named =
      let here = and-left (has_toplevel client toplevel w) (list_all (has_toplevel client toplevel) ws) every in
      let own : numbers client w.owner.toplevel ≡ Some k =
      ap (numbers client) (sym (eqb-true toplevel w.owner.toplevel (and-right (client == w.owner.client) (toplevel == w.owner.toplevel) here))) ∙ known in (
        record {
          client = eqb-true client w.owner.client (and-left (client == w.owner.client) (toplevel == w.owner.toplevel) here);
          toplevel = own;
          root = named.0.1;
          surface = named.0.0;
          told = refl;
        },
        run-told ws (and-right (has_toplevel client toplevel w) (list_all (has_toplevel client toplevel) ws) every) named.1,
      )

pub stacked-pushed : StackedPushed
stacked-pushed numbers ss ws client toplevel k f is are known rooted named =
    both-are-stacked numbers ss (map (stacked client k) (map (told_by f) is)) ws is are
    (run-told numbers client toplevel k f known is rooted (recursion_from_All (IsNumberedBy (numbers client) f) is named))

-- ---- one toplevel among others

apart : {X : Type 0} (q : X → Bool) (xs ys : List X) → list_any q (xs ++ ys) ≡ false → (list_any q xs ≡ false) × (list_any q ys ≡ false)
apart q xs ys none =
    let either = sym (list_any-append q xs ys) ∙ none in
    (or-left (list_any q xs) (list_any q ys) either, or-right (list_any q xs) (list_any q ys) either)

all-gone : {X : Type 0} (q : X → Bool) (xs ys : List X) → list_all q xs ≡ true → filter (λ x. not (q x)) (xs ++ ys) ≡ filter (λ x. not (q x)) ys
all-gone q [] ys every = refl
all-gone q (x ∷ xs) ys every =
    ap (λ b. cond (not b) (x ∷ filter (λ y. not (q y)) (xs ++ ys)) (filter (λ y. not (q y)) (xs ++ ys))) (and-left (q x) (list_all q xs) every)
    ∙ all-gone q xs ys (and-right (q x) (list_all q xs) every)

without-middle : {X : Type 0} (q : X → Bool) (below was above : List X) → list_any q below ≡ false → list_all q was ≡ true → list_any q above ≡ false
    → filter (λ x. not (q x)) (below ++ (was ++ above)) ≡ below ++ above
without-middle q [] was above under every over = all-gone q was above every ∙ filter-kept q above over
without-middle q (x ∷ xs) was above under every over =
    ap (λ b. cond (not b) (x ∷ filter (λ y. not (q y)) (xs ++ (was ++ above))) (filter (λ y. not (q y)) (xs ++ (was ++ above)))) (or-left (q x) (list_any q xs) under)
    ∙ ap (λ ys. x ∷ ys) (without-middle q xs was above (or-right (q x) (list_any q xs) under) every over)

pub stacked-run-gone : StackedRunGone
stacked-run-gone numbers ss client toplevel k below above was are every none known once =
    let others = apart (has_toplevel client toplevel) below above none in
    subst (λ (ws : List Window). AreStacked numbers (without_run client k ss) ws) (without-middle (has_toplevel client toplevel) below was above others.0 every others.1)
    (stacked-removed numbers ss (below ++ (was ++ above)) client toplevel k are known once)

-- others in the place of those of which all pass, and some do
placed : {X : Type 0} (p : X → Bool) (new below middle above : List X) → list_any p below ≡ false → list_all p middle ≡ true → list_any p middle ≡ true → list_any p above ≡ false
    → in_place p new (below ++ (middle ++ above)) ≡ below ++ (new ++ above)
placed p new below [] above under every some over = absurd (differ some)
placed p new below (x ∷ xs) above under every some over =
    placed-run p new below x xs above under (and-left (p x) (list_all p xs) every) (and-right (p x) (list_all p xs) every) over

pub stacked-replaced : StackedReplaced
stacked-replaced numbers ss client toplevel k f below above was is are every some none known once rooted named =
    let lower = first-are-stacked numbers ss below (was ++ above) are in
    let upper = first-are-stacked numbers lower.1 was above lower.4 in
    let others = apart (has_toplevel client toplevel) below above none in
    let same = same-toplevel numbers client toplevel k known once in
    let new = map (stacked client k) (map (told_by f) is) in
    let whole : ss ≡ lower.0 ++ (upper.0 ++ upper.1) = lower.2 ∙ ap (λ (xs : List Stacked). lower.0 ++ xs) upper.2 in
    let is_new : replaced client k (map (told_by f) is) ss ≡ lower.0 ++ (new ++ upper.1) =
    ap (λ (xs : List Stacked). replaced client k (map (told_by f) is) xs) whole
    ∙ placed (is_of client k) new lower.0 upper.0 upper.1 (any-same numbers (is_of client k) (has_toplevel client toplevel) same lower.0 below lower.3 ∙ others.0)
    (all-same numbers (is_of client k) (has_toplevel client toplevel) same upper.0 was upper.3 ∙ every)
    (any-same numbers (is_of client k) (has_toplevel client toplevel) same upper.0 was upper.3 ∙ some)
    (any-same numbers (is_of client k) (has_toplevel client toplevel) same upper.1 above upper.4 ∙ others.1) in
    subst (λ (xs : List Stacked). AreStacked numbers xs (below ++ (is ++ above))) (sym is_new)
    (both-are-stacked numbers lower.0 (new ++ upper.1) below (is ++ above) lower.3
    (both-are-stacked numbers new upper.1 is above
    (run-told numbers client toplevel k f known is rooted (recursion_from_All (IsNumberedBy (numbers client) f) is named)) upper.4))

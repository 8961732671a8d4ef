-- What is kept of the windows goes on standing for those of the desktop where the windows stacked with one toplevel change.
use Rattle.std.proofs.Common.{◌≡◌, ℕ, ◌==◌, Bool, true, false, Option, Some, None, List, [], ◌∷◌, ◌++◌, map, refl, ap, ap₂, sym, subst, ◌∙◌, append_assoc}
use Rattle.std.specs.Prelude.{◌&&◌, filter, find}
use Rattle.std.specs.List.{list_all, list_any}
use Rattle.std.proofs.lemmas.Bool.{or_left}
use Rattle.std.proofs.lemmas.List.{append-nil}
use Rattle.std.proofs.lemmas.List.Folds.{list_any-append}
use Rattle.spec_desktop.specs.Objects.{ById}
use Rattle.spec_desktop.specs.Stacking.{Standing, is_of as is_standing, root_of}
use Rattle.spec_desktop.specs.Windows.{Window}
use Rattle.spec_desktop.specs.Desktop.{Desktop, owned_in}
use Rattle.spec_desktop.specs.Stacked.{all_windows}
use Rattle.law_desktop.proofs.Lists.Keys.{found-passes, new-here}
use Rattle.law_desktop.proofs.Lists.Standings.{of-client, of-surface}
use Rattle.law_desktop.proofs.Marks.Stacks.{same-number}
use Rattle.wl_scene.specs.declared.stacked.Stacked.{Stacked}
use Rattle.wl_scene.specs.Stacked.{is_of, raised, replaced, run_of, stacked, without_run}
use Rattle.wl_scene.proofs.StackedTogether.{place-none}
use Rattle.wl_scene.specs.StackedAgreement.{AreNumberedBy, AreStacked, IsNumberedBy}
use Rattle.wl_scene.proofs.Raised.{stacked-run-raised}
use Rattle.wl_scene.proofs.Standing.{run-is-stacked, run-is-there, stacked-are-told, stacked-pushed, stacked-replaced, stacked-run-gone}
use Rattle.law_desktop.specs.Changes.{HasTrees}
use Rattle.law_desktop.specs.Toplevel.{ChangesToplevel, has_toplevel, windows_with, windows_with_standing}
use Rattle.law_desktop.proofs.RootsOf.Kept.{no-toplevel, popups_in, shown, shown_of, surfaces_in}
use Rattle.law_desktop.proofs.RootsOf.Stacked.{found-any}
use Rattle.law_desktop.proofs.RootsOf.Staying.{each-all, in-stacked}
use Rattle.law_desktop.proofs.Truth.{and-left, differ, or-left, or-right}
use Rattle.law_desktop.proofs.Lists.Each.{Each, each-map}
use Rattle.law_desktop.proofs.Lists.Tests.{all-each, each-all as so-each, find-none, none-any}
use Rattle.law_windows.proofs.Lists.{all-first, all-second}
use Rattle.law_windows.specs.RenamedWindows.{told_by}
use Rattle.law_windows.proofs.TurnedWindows.Told.{filter-among}
use Rattle.law_windows.specs.Runs.Kept.{IsNumbered, RunComes, RunGoes, RunRises, RunStays, RunWasTold, StackedAreKept, kept_owner}
use Rattle.law_windows.specs.Runs.Marks.{IsThereIn}
use Rattle.law_windows.specs.Runs.Numbers.{AreKeptFor}
use Rattle.law_windows.proofs.OneToplevel.Found.{in-shown}
use Rattle.law_windows.proofs.OneToplevel.Marked.{there-each}
use Rattle.law_windows.proofs.OneToplevel.Shifted.{raises-lift-runs}

-- ---- lists

-- where all pass a test and none does there are none
none-left : {X : Type 0} (p : X → Bool) (xs : List X) → list_all p xs ≡ true → list_any p xs ≡ false → xs ≡ []
none-left p [] all none = refl
none-left p (x ∷ xs) all none = absurd (differ (sym (or-left (p x) (list_any p xs) none) ∙ and-left (p x) (list_all p xs) all))

first-is : {X : Type 0} (x y : X) (xs ys : List X) → x ∷ xs ≡ y ∷ ys → (x ≡ y) × (xs ≡ ys)
first-is {X} x y xs ys e = (ap (λ zs. first zs) e, ap (λ zs. rest zs) e)
  where
    first : List X → X
    first [] = x
    first (z ∷ zs) = z

    rest : List X → List X
    rest [] = []
    rest (z ∷ zs) = zs

-- What comes up to the first that passes a test, and what follows, is the same where the whole is.
cut-same : {X : Type 0} (p : X → Bool) (xs ys : List X) (z w : X) (zs ws : List X) → list_any p xs ≡ false → list_any p ys ≡ false → p z ≡ true → p w ≡ true
    → xs ++ (z ∷ zs) ≡ ys ++ (w ∷ ws) → (xs ≡ ys) × (zs ≡ ws)
cut-same p [] [] z w zs ws none_x none_y is_z is_w e = (refl, (first-is z w zs ws e).1)
cut-same p [] (y ∷ ys) z w zs ws none_x none_y is_z is_w e =
    absurd (differ (sym (or-left (p y) (list_any p ys) none_y) ∙ (ap p (sym (first-is z y zs (ys ++ (w ∷ ws)) e).0) ∙ is_z)))
cut-same p (x ∷ xs) [] z w zs ws none_x none_y is_z is_w e =
    absurd (differ (sym (or-left (p x) (list_any p xs) none_x) ∙ (ap p (first-is x w (xs ++ (z ∷ zs)) ws e).0 ∙ is_w)))
cut-same p (x ∷ xs) (y ∷ ys) z w zs ws none_x none_y is_z is_w e =
    both (cut-same p xs ys z w zs ws (or-right (p x) (list_any p xs) none_x) (or-right (p y) (list_any p ys) none_y) is_z is_w (first-is x y (xs ++ (z ∷ zs)) (ys ++ (w ∷ ws)) e).1)
  where
    both : (xs ≡ ys) × (zs ≡ ws) → (x ∷ xs ≡ y ∷ ys) × (zs ≡ ws)
    both behind = (ap (λ v. v ∷ xs) (first-is x y (xs ++ (z ∷ zs)) (ys ++ (w ∷ ws)) e).0 ∙ ap (λ vs. y ∷ vs) behind.0, behind.1)

append-self : {X : Type 0} (xs ys : List X) → xs ++ ys ≡ xs → ys ≡ []
append-self [] ys e = e
append-self (x ∷ xs) ys e = append-self xs ys (first-is x x (xs ++ ys) xs e).1

-- ---- what is kept

kept-for : (numbers : ℕ → ById ℕ) (ss : List Stacked) (ws : List Window) → AreStacked numbers ss ws → AreKeptFor kept_owner numbers ss ws
kept-for numbers [] [] are = tt
kept-for numbers [] (w ∷ ws) are = absurd are
kept-for numbers (s ∷ ss) [] are = absurd are
kept-for numbers (s ∷ ss) (w ∷ ws) are = (record { client = are.0.client; root = are.0.root; toplevel = are.0.toplevel }, kept-for numbers ss ws are.1)

pub stacked-are-kept : StackedAreKept
stacked-are-kept numbers all d are = (kept-for numbers all (all_windows d) are, λ c root. refl)

-- ---- toplevels that stand

-- one that stands has a window
stands-shown : (c t : ℕ) (d : Desktop) → HasTrees d → windows_with c t d ≡ [] → find (is_standing c t) d.standing ≡ None
stands-shown c t d had none = at (find (is_standing c t) d.standing) refl none
  where
    at : (o : Option Standing) → find (is_standing c t) d.standing ≡ o → windows_with_standing d o ≡ [] → find (is_standing c t) d.standing ≡ None
    at None found empty = found
    at (Some s) found empty =
        let its : is_standing c t s ≡ true = found-passes (is_standing c t) d.standing s found in
        let stands : list_any (is_standing s.client s.surface) d.standing ≡ true =
        ap₂ (λ a b. list_any (is_standing a b) d.standing) (of-client c t s its) (of-surface c t s its) ∙ found-any (is_standing c t) d.standing s found in
        let own = in-stacked (surfaces_in d s.client) s.surface (root_of (owned_in d) s ∷ []) (popups_in d s.client) (or_left (s.surface == s.surface) false (same-number s.surface)) in
        absurd (differ (ap (list_any (λ w. (s.client == w.owner.client) && (s.surface == w.owner.root))) (sym empty) ∙ in-shown d had s stands s.surface own))

-- one more on top
shown-last : (e : Desktop) (s : Standing) (ss : List Standing) → shown_of e (ss ++ s ∷ []) ≡ shown_of e ss ++ shown e s
shown-last e s [] = append-nil (shown e s)
shown-last e s (r ∷ ss) = ap (λ ws. shown e r ++ ws) (shown-last e s ss) ∙ sym (append_assoc (shown e r) (shown_of e ss) (shown e s))

-- ---- a toplevel whose windows change

module _ (numbers : ℕ → ById ℕ) (all : List Stacked) (c t k : ℕ) (f : ℕ → ℕ) (d e : Desktop) (step : ChangesToplevel c t d e) (is : IsNumbered numbers all c t k f d e) where
  with-was : list_all (has_toplevel c t) step.was ≡ true
  with-was = all-first (has_toplevel c t) step.was step.is step.together

  with-is : list_all (has_toplevel c t) step.is ≡ true
  with-is = all-second (has_toplevel c t) step.was step.is step.together

  before : AreStacked numbers all (step.below ++ (step.was ++ step.above))
  before = subst (λ ws. AreStacked numbers all ws) step.before is.are

  named-each : (ws : List Window) → Each (IsThereIn (surfaces_in d c)) ws → AreNumberedBy (numbers c) f ws
  named-each ws there =
      each-all (IsNumberedBy (numbers c) f) ws
      (each-map (IsThereIn (surfaces_in d c)) (IsNumberedBy (numbers c) f) (λ w has. (is.by w.surface has.0, is.by w.owner.root has.1)) ws there)

  named-was : AreNumberedBy (numbers c) f step.was
  named-was = named-each step.was (subst (λ (ws : List Window). Each (IsThereIn (surfaces_in d c)) ws) (sym step.was_of) (there-each c t d))

  named-is : AreNumberedBy (numbers c) f step.is
  named-is =
      named-each step.is
      (subst (λ (ws : List Window). Each (IsThereIn (surfaces_in d c)) ws) (sym step.is_of)
      (each-map (IsThereIn (surfaces_in e c)) (IsThereIn (surfaces_in d c)) (λ w there. (is.stay w.surface there.0, is.stay w.owner.root there.1)) (windows_with c t e)
      (there-each c t e)))

  -- where it has no window there is none that is kept
  kept-none : step.was ≡ [] → list_any (is_of c k) all ≡ false
  kept-none none =
      run-is-there numbers all (step.below ++ (step.was ++ step.above)) c t k before is.named is.once
      ∙ (ap (λ ws. list_any (has_toplevel c t) (step.below ++ (ws ++ step.above))) none ∙ step.apart)

  told-was : map (λ s. s.window) (run_of c k all) ≡ map (told_by f) step.was
  told-was =
      stacked-are-told numbers (run_of c k all) step.was c f
      (subst (λ ws. AreStacked numbers (run_of c k all) ws) mine (run-is-stacked numbers all (all_windows d) c t k is.are is.named is.once))
      (all-each (λ w. c == w.owner.client) step.was
      (each-map (λ w. has_toplevel c t w ≡ true) (λ w. (c == w.owner.client) ≡ true) (λ w its. and-left (c == w.owner.client) (t == w.owner.toplevel) its) step.was
      (so-each (has_toplevel c t) step.was with-was))) named-was
    where
      mine : filter (λ w. has_toplevel c t w) (all_windows d) ≡ step.was
      mine = ap (filter (λ w. has_toplevel c t w)) step.before ∙ filter-among (λ w. has_toplevel c t w) step.below step.was step.above with-was step.apart

  stays : HasTrees d → (list_any (is_standing c t) d.standing ≡ false → list_any (is_standing c t) e.standing ≡ false)
      → AreStacked numbers (replaced c k (map (told_by f) step.is) all) (all_windows e)
  stays had still =
      subst (λ ws. AreStacked numbers (replaced c k (map (told_by f) step.is) all) ws) (sym step.after) (at (list_any (has_toplevel c t) step.was) refl)
    where
      at : (b : Bool) → list_any (has_toplevel c t) step.was ≡ b
          → AreStacked numbers (replaced c k (map (told_by f) step.is) all) (step.below ++ (step.is ++ step.above))
      at true some = stacked-replaced numbers all c t k f step.below step.above step.was step.is before with-was some step.apart is.named is.once with-is named-is
      at false none =
          let no_was : step.was ≡ [] = none-left (has_toplevel c t) step.was with-was none in
          let nowhere = stands-shown c t d had (sym step.was_of ∙ no_was) in
          let no_is : step.is ≡ [] =
          step.is_of ∙ ap (windows_with_standing e) (find-none (is_standing c t) e.standing (still (none-any (is_standing c t) d.standing nowhere))) in
          subst (λ xs. AreStacked numbers xs (step.below ++ (step.is ++ step.above)))
          (sym (place-none (is_of c k) (map (stacked c k) (map (told_by f) step.is)) all (kept-none no_was)))
          (subst (λ ws. AreStacked numbers all (step.below ++ (ws ++ step.above))) (no_was ∙ sym no_is) before)

  goes : find (is_standing c t) e.standing ≡ None → (step.is ≡ []) × AreStacked numbers (without_run c k all) (all_windows e)
  goes none =
      let no_is : step.is ≡ [] = step.is_of ∙ ap (windows_with_standing e) none in (
        no_is,
        subst (λ ws. AreStacked numbers (without_run c k all) ws) (sym (step.after ∙ ap (λ ws. step.below ++ (ws ++ step.above)) no_is))
            (stacked-run-gone numbers all c t k step.below step.above step.was before with-was step.apart is.named is.once),
      )

  module _ (s : Standing) (its : is_standing c t s ≡ true) (stands : e.standing ≡ d.standing ++ s ∷ []) (nowhere : list_any (is_standing c t) d.standing ≡ false) where
    no-was : step.was ≡ []
    no-was = step.was_of ∙ ap (windows_with_standing d) (find-none (is_standing c t) d.standing nowhere)

    is-shown : step.is ≡ shown e s
    is-shown =
        step.is_of
        ∙ ap (windows_with_standing e) (ap (find (is_standing c t)) stands ∙ new-here (is_standing c t) d.standing s (find-none (is_standing c t) d.standing nowhere) its)

    whole : shown_of e d.standing ++ step.is ≡ step.below ++ (step.is ++ step.above)
    whole = ap (λ ws. shown_of e d.standing ++ ws) is-shown ∙ (sym (shown-last e s d.standing) ∙ (ap (shown_of e) (sym stands) ∙ step.after))

    none-below : list_any (has_toplevel c t) step.below ≡ false
    none-below = or-left (list_any (has_toplevel c t) step.below) (list_any (has_toplevel c t) step.above) (sym (list_any-append (has_toplevel c t) step.below step.above) ∙ step.apart)

    all-on-top : all_windows e ≡ (step.below ++ (step.was ++ step.above)) ++ step.is
    all-on-top = step.after ∙ (at step.is refl with-is whole ∙ ap (λ ws. (step.below ++ (ws ++ step.above)) ++ step.is) (sym no-was))
      where
        at : (ws : List Window) → step.is ≡ ws → list_all (has_toplevel c t) ws ≡ true → shown_of e d.standing ++ ws ≡ step.below ++ (ws ++ step.above)
            → step.below ++ (step.is ++ step.above) ≡ (step.below ++ ([] ++ step.above)) ++ step.is
        at [] empty every same =
            ap (λ vs. step.below ++ (vs ++ step.above)) empty ∙ (sym (append-nil (step.below ++ step.above)) ∙ ap (λ vs. (step.below ++ step.above) ++ vs) (sym empty))
        at (w ∷ ws) some every same =
            let own = and-left (has_toplevel c t w) (list_all (has_toplevel c t) ws) every in
            let cut = cut-same (has_toplevel c t) (shown_of e d.standing) step.below w w ws (ws ++ step.above) (no-toplevel c t e d.standing nowhere) none-below own own same in
            let no_above : step.above ≡ [] = append-self ws step.above (sym cut.1) in
            ap (λ vs. step.below ++ (step.is ++ vs)) no_above
            ∙ (ap (λ vs. step.below ++ vs) (append-nil step.is)
            ∙ (ap (λ vs. vs ++ step.is) (sym (append-nil step.below)) ∙ ap (λ vs. (step.below ++ vs) ++ step.is) (sym no_above)))

    comes : (list_any (is_of c k) all ≡ false) × AreStacked numbers (all ++ map (stacked c k) (map (told_by f) step.is)) (all_windows e)
    comes = (
      kept-none no-was,
      subst (λ ws. AreStacked numbers (all ++ map (stacked c k) (map (told_by f) step.is)) ws) (sym all-on-top)
          (stacked-pushed numbers all (step.below ++ (step.was ++ step.above)) c t k f step.is before is.named with-is named-is),
    )

pub run-was-told : RunWasTold
run-was-told numbers all c t k f d e step is = (told-was numbers all c t k f d e step is, named-is numbers all c t k f d e step is)

pub run-stays : RunStays
run-stays = stays

pub run-rises : RunRises
run-rises numbers all c t k d had are named once =
    subst (λ (ws : List Window). AreStacked numbers (raised c k all) ws) (sym (raises-lift-runs c t d had)) (stacked-run-raised numbers all (all_windows d) c t k are named once)

pub run-goes : RunGoes
run-goes = goes

pub run-comes : RunComes
run-comes = comes

-- A toplevel that is raised or moved takes its popups along.
use Rattle.std.proofs.Common.{◌≡◌, ℕ, Bool, true, false, cond, Some, None, List, [], ◌∷◌, ◌++◌, refl, ap, ap₂, sym, ◌∙◌, append_assoc, inl, inr}
use Rattle.std.specs.Prelude.{◌||◌, ◌⊎◌, filter, find, not}
use Rattle.std.specs.List.{All, list_all, list_any}
use Rattle.std.proofs.lemmas.List.{append-nil}
use Rattle.std.proofs.lemmas.List.Elements.{filter-append}
use Rattle.spec_desktop.specs.Stacking.{Standing, is_of, moved_to, raised}
use Rattle.spec_desktop.specs.Windows.{Place, Window}
use Rattle.spec_desktop.specs.Desktop.{Desktop, owned_in}
use Rattle.spec_desktop.specs.Stacked.{all_windows}
use Rattle.law_desktop.specs.Laws.{AreApart}
use Rattle.law_desktop.specs.Soundness.{IsSound}
use Rattle.law_desktop.proofs.Lists.Standings.{apart-last}
use Rattle.law_desktop.proofs.Marks.Stacks.{equal-numbers}
use Rattle.law_desktop.proofs.Soundness.Trees.{none-append}
use Rattle.law_desktop.proofs.Lists.Tests.{all-each, each-all as so-each, filter-all, filter-none}
use Rattle.law_desktop.proofs.TreeSteps.Damage.{applies-nothing}
use Rattle.law_desktop.specs.Changes.{HasTrees}
use Rattle.law_desktop.specs.Marked.{MarksByTreesBetween}
use Rattle.law_desktop.specs.Toplevel.{ChangesToplevel, SameRoot, has_toplevel, windows_with, windows_with_standing}
use Rattle.law_desktop.proofs.RootsOf.Change.{OthersAreKept, toplevel-changes}
use Rattle.law_desktop.proofs.RootsOf.Kept.{ToplevelIsKept, foreign-kept, no-toplevel, own-toplevel, popups_in, shown, shown_of}
use Rattle.law_desktop.proofs.RootsOf.Same.{IsOfTree, apart-all, of-trees, same-root, turn-in}
use Rattle.law_desktop.proofs.RootsOf.Stacks.{IsFound, found-among, none-or-found}
use Rattle.law_desktop.proofs.RootsOf.Staying.{each-all}
use Rattle.law_desktop.proofs.RootsOf.Turns.{AreApart as AreOtherSurfaces, all-from, popup_surfaces}
use Rattle.law_desktop.proofs.Truth.{differ, or-left, or-right}
use Rattle.law_desktop.proofs.Lists.Each.{Each, each-map, each-of}
use Rattle.law_desktop.proofs.PointerAside.Moved.{any-raised}
use Rattle.law_windows.proofs.OneTree.Named.{nothing-told-by-name}
use Rattle.law_windows.proofs.TurnedWindows.Told.{filter-among}
use Rattle.law_windows.specs.Runs.Moves.{IsWhole, MovesAreMarked, MovesChangeOneToplevel, RaisesLiftRuns, RunIsOfAll, StaysWhole, lifted, shifted}
use Rattle.law_windows.proofs.OneToplevel.Marked.{runs-are-marked}

-- ---- the toplevels

-- the same stand
any-shifted : (a b c t : ℕ) (place : Place) (ss : List Standing) → list_any (is_of a b) (moved_to c t place ss) ≡ list_any (is_of a b) ss
any-shifted a b c t place [] = refl
any-shifted a b c t place (s ∷ ss) = at (is_of c t s) (any-shifted a b c t place ss)
  where
    at : (q : Bool) → list_any (is_of a b) (moved_to c t place ss) ≡ list_any (is_of a b) ss
        → list_any (is_of a b) (cond q (record s { place = place } ∷ ss) (s ∷ moved_to c t place ss)) ≡ (is_of a b s || list_any (is_of a b) ss)
    at true rest = refl
    at false rest = ap (λ q. is_of a b s || q) rest

-- none stands twice
apart-shifted : (c t : ℕ) (place : Place) (ss : List Standing) → AreApart ss → AreApart (moved_to c t place ss)
apart-shifted c t place [] apart = tt
apart-shifted c t place (s ∷ ss) apart = at (is_of c t s) (apart-shifted c t place ss apart.1)
  where
    at : (q : Bool) → AreApart (moved_to c t place ss) → AreApart (cond q (record s { place = place } ∷ ss) (s ∷ moved_to c t place ss))
    at true rest = (apart.0, apart.1)
    at false rest = (any-shifted s.client s.surface c t place ss ∙ apart.0, rest)

apart-lifted : (c t : ℕ) (ss : List Standing) → AreApart ss → AreApart (raised c t ss)
apart-lifted c t [] apart = tt
apart-lifted c t (s ∷ ss) apart = at (is_of c t s) (apart-lifted c t ss apart.1)
  where
    at : (q : Bool) → AreApart (raised c t ss) → AreApart (cond q (ss ++ s ∷ []) (s ∷ raised c t ss))
    at true rest = apart-last ss s apart.1 apart.0
    at false rest = (any-raised (is_of s.client s.surface) c t ss ∙ apart.0, rest)

-- Where the same toplevels stand, however high and wherever, all is whole still.
module _ (d : Desktop) (standing : List Standing) (same : (c t : ℕ) → list_any (is_of c t) standing ≡ list_any (is_of c t) d.standing) (apart : AreApart standing) where
  abbrev turned : Desktop
  turned = record d { standing = standing }

  there : (c t : ℕ) → list_any (is_of c t) standing ≡ true → list_any (is_of c t) d.standing ≡ true
  there c t stands = sym (same c t) ∙ stands

  sound-still : IsSound d → IsSound turned
  sound-still sound = record {
    apart = apart;
    trees = sound.trees;
    popups = sound.popups;
    levels = λ c surface stands. sound.levels c surface (there c surface stands);
    toplevel_roots = λ c surface stands. sound.toplevel_roots c surface (there c surface stands);
    popup_roots = sound.popup_roots;
  }

  trees-still : HasTrees d → HasTrees turned
  trees-still had = record {
    sound = sound-still had.sound;
    once = had.once;
    numbered = had.numbered;
    tied = had.tied;
    xdg_apart = had.xdg_apart;
    ids_apart = had.ids_apart;
    xdg_roots = had.xdg_roots;
    mapped = λ c surface stands. had.mapped c surface (there c surface stands);
    toplevels_show = λ c surface stands. had.toplevels_show c surface (there c surface stands);
    popups_show = had.popups_show;
  }

  whole-still : IsWhole d → IsWhole turned
  whole-still is = record {
    trees = trees-still is.trees;
    shown = record {
      apart = apart;
      each = λ c. record {
        stands = λ surface. same c surface ∙ (is.shown.each c).stands surface;
        shows = (is.shown.each c).shows;
        bare = (is.shown.each c).bare;
        turned = (is.shown.each c).turned;
      };
    };
  }

lifted-whole : (c t : ℕ) (d : Desktop) → IsWhole d → IsWhole (lifted c t d)
lifted-whole c t d is = whole-still d (raised c t d.standing) (λ a b. any-raised (is_of a b) c t d.standing) (apart-lifted c t d.standing is.trees.sound.apart) is

shifted-whole : (c t : ℕ) (place : Place) (d : Desktop) → IsWhole d → IsWhole (shifted c t place d)
shifted-whole c t place d is =
    whole-still d (moved_to c t place d.standing) (λ a b. any-shifted a b c t place d.standing) (apart-shifted c t place d.standing is.trees.sound.apart) is

pub stays-whole : StaysWhole
stays-whole c t place d is = (lifted-whole c t d is, shifted-whole c t place d is)

-- ---- one among others

lifted-none : (c t : ℕ) (ss : List Standing) → list_any (is_of c t) ss ≡ false → raised c t ss ≡ ss
lifted-none c t [] none = refl
lifted-none c t (s ∷ ss) none =
    ap (λ b. cond b (ss ++ s ∷ []) (s ∷ raised c t ss)) (or-left (is_of c t s) (list_any (is_of c t) ss) none)
    ∙ ap (λ xs. s ∷ xs) (lifted-none c t ss (or-right (is_of c t s) (list_any (is_of c t) ss) none))

lifted-among : (c t : ℕ) (below : List Standing) (s : Standing) (above : List Standing) → list_any (is_of c t) below ≡ false → is_of c t s ≡ true
    → raised c t (below ++ s ∷ above) ≡ (below ++ above) ++ s ∷ []
lifted-among c t [] s above none is = ap (λ b. cond b (above ++ s ∷ []) (s ∷ raised c t above)) is
lifted-among c t (r ∷ rs) s above none is =
    ap (λ b. cond b ((rs ++ s ∷ above) ++ r ∷ []) (r ∷ raised c t (rs ++ s ∷ above))) (or-left (is_of c t r) (list_any (is_of c t) rs) none)
    ∙ ap (λ xs. r ∷ xs) (lifted-among c t rs s above (or-right (is_of c t r) (list_any (is_of c t) rs) none) is)

shifted-among : (c t : ℕ) (place : Place) (below : List Standing) (s : Standing) (above : List Standing) → list_any (is_of c t) below ≡ false → is_of c t s ≡ true
    → moved_to c t place (below ++ s ∷ above) ≡ below ++ record s { place = place } ∷ above
shifted-among c t place [] s above none is = ap (λ b. cond b (record s { place = place } ∷ above) (s ∷ moved_to c t place above)) is
shifted-among c t place (r ∷ rs) s above none is =
    ap (λ b. cond b (record r { place = place } ∷ (rs ++ s ∷ above)) (r ∷ moved_to c t place (rs ++ s ∷ above))) (or-left (is_of c t r) (list_any (is_of c t) rs) none)
    ∙ ap (λ xs. r ∷ xs) (shifted-among c t place rs s above (or-right (is_of c t r) (list_any (is_of c t) rs) none) is)

-- ---- windows

shown-both : (d : Desktop) (ss rs : List Standing) → shown_of d (ss ++ rs) ≡ shown_of d ss ++ shown_of d rs
shown-both d [] rs = refl
shown-both d (s ∷ ss) rs = ap (λ ws. shown d s ++ ws) (shown-both d ss rs) ∙ sym (append_assoc (shown d s) (shown_of d ss) (shown_of d rs))

each-not : (p : Window → Bool) (ws : List Window) → list_any p ws ≡ false → Each (λ w. not (p w) ≡ true) ws
each-not p [] none = tt
each-not p (w ∷ ws) none = (ap not (or-left (p w) (list_any p ws) none), each-not p ws (or-right (p w) (list_any p ws) none))

kept-all : (p : Window → Bool) (ws : List Window) → list_any p ws ≡ false → filter (λ w. not (p w)) ws ≡ ws
kept-all p ws none = filter-all (λ w. not (p w)) ws (each-not p ws none)

-- of windows of which some pass a test, those between that pass and those beside them that don't
others-among : (p : Window → Bool) (below ws above : List Window) → list_all p ws ≡ true → list_any p below ≡ false → list_any p above ≡ false
    → filter (λ w. not (p w)) (below ++ (ws ++ above)) ≡ below ++ above
others-among p below ws above all lower upper =
    filter-append (λ w. not (p w)) below (ws ++ above)
    ∙ ap₂ (λ (xs ys : List Window). xs ++ ys) (kept-all p below lower)
    (filter-append (λ w. not (p w)) ws above
    ∙ ap₂ (λ (xs ys : List Window). xs ++ ys) (filter-none (λ w. not (p w)) ws (gone ws (so-each p ws all))) (kept-all p above upper))
  where
    gone : (xs : List Window) → Each (λ w. p w ≡ true) xs → list_any (λ w. not (p w)) xs ≡ false
    gone [] each = refl
    gone (x ∷ xs) each = ap (λ b. not b || list_any (λ w. not (p w)) xs) each.0 ∙ gone xs each.1

module _ (c t : ℕ) (d : Desktop) (sound : IsSound d) where
  abbrev its : Window → Bool
  its w = has_toplevel c t w

  module _ (f : IsFound c t d.standing) where
    below : List Window
    below = shown_of d f.below

    above : List Window
    above = shown_of d f.above

    whole : all_windows d ≡ shown_of d f.below ++ (shown d f.it ++ shown_of d f.above)
    whole = ap (shown_of d) f.parts ∙ shown-both d f.below (f.it ∷ f.above)

    its-run : list_all (has_toplevel c t) (shown d f.it) ≡ true
    its-run = all-each (has_toplevel c t) (shown d f.it) (own-toplevel c t d f.it f.its)

    lower : list_any (has_toplevel c t) (shown_of d f.below) ≡ false
    lower = no-toplevel c t d f.below f.no_lower

    upper : list_any (has_toplevel c t) (shown_of d f.above) ≡ false
    upper = no-toplevel c t d f.above f.no_higher

    of-all : filter (λ w. has_toplevel c t w) (all_windows d) ≡ shown d f.it
    of-all =
        ap (filter (λ w. has_toplevel c t w)) whole
        ∙ filter-among (λ w. has_toplevel c t w) (shown_of d f.below) (shown d f.it) (shown_of d f.above) its-run
        (none-append (has_toplevel c t) (shown_of d f.below) (shown_of d f.above) lower upper)

    others-of : filter (λ w. not (has_toplevel c t w)) (all_windows d) ≡ shown_of d f.below ++ shown_of d f.above
    others-of = ap (filter (λ w. not (has_toplevel c t w))) whole ∙ others-among (has_toplevel c t) (shown_of d f.below) (shown d f.it) (shown_of d f.above) its-run lower upper

    with-found : windows_with c t d ≡ shown d f.it
    with-found =
        ap (windows_with_standing d) (ap (find (is_of c t)) f.parts ∙ found-among c t f.below f.above (Some f.it) f.its f.no_lower f.no_higher)

    lifted-found : shown_of d (raised c t d.standing) ≡ filter (λ w. not (has_toplevel c t w)) (all_windows d) ++ filter (λ w. has_toplevel c t w) (all_windows d)
    lifted-found =
        ap (shown_of d) (ap (raised c t) f.parts ∙ lifted-among c t f.below f.it f.above f.no_lower f.its)
        ∙ (shown-both d (f.below ++ f.above) (f.it ∷ [])
        ∙ (ap₂ (λ (xs ys : List Window). xs ++ ys) (shown-both d f.below f.above) (append-nil (shown d f.it))
        ∙ sym (ap₂ (λ (xs ys : List Window). xs ++ ys) others-of of-all)))

  module _ (none : list_any (is_of c t) d.standing ≡ false) where
    nowhere : list_any (has_toplevel c t) (all_windows d) ≡ false
    nowhere = no-toplevel c t d d.standing none

    nothing-of : filter (λ w. has_toplevel c t w) (all_windows d) ≡ []
    nothing-of = filter-none (λ w. has_toplevel c t w) (all_windows d) nowhere

    nothing-with : windows_with c t d ≡ []
    nothing-with = ap (windows_with_standing d) (ap (find (is_of c t)) (sym (append-nil d.standing)) ∙ found-among c t d.standing [] None tt none refl)

    lifted-nowhere : shown_of d (raised c t d.standing) ≡ filter (λ w. not (has_toplevel c t w)) (all_windows d) ++ filter (λ w. has_toplevel c t w) (all_windows d)
    lifted-nowhere =
        ap (shown_of d) (lifted-none c t d.standing none)
        ∙ sym (ap₂ (λ (xs ys : List Window). xs ++ ys) (kept-all (has_toplevel c t) (all_windows d) nowhere) nothing-of ∙ append-nil (all_windows d))

pub run-is-of-all : RunIsOfAll
run-is-of-all c t d had = at (none-or-found c t d.standing had.sound.apart)
  where
    at : (list_any (is_of c t) d.standing ≡ false) ⊎ IsFound c t d.standing → filter (λ w. has_toplevel c t w) (all_windows d) ≡ windows_with c t d
    at (inl none) = nothing-of c t d had.sound none ∙ sym (nothing-with c t d had.sound none)
    at (inr f) = of-all c t d had.sound f ∙ sym (with-found c t d had.sound f)

pub raises-lift-runs : RaisesLiftRuns
raises-lift-runs c t d had = at (none-or-found c t d.standing had.sound.apart)
  where
    at : (list_any (is_of c t) d.standing ≡ false) ⊎ IsFound c t d.standing
        → shown_of d (raised c t d.standing) ≡ filter (λ w. not (has_toplevel c t w)) (all_windows d) ++ filter (λ w. has_toplevel c t w) (all_windows d)
    at (inl none) = lifted-nowhere c t d had.sound none
    at (inr f) = lifted-found c t d had.sound f

-- ---- a toplevel that is moved

pub moves-change : MovesChangeOneToplevel
moves-change c t place d is stands = at (none-or-found c t d.standing is.trees.sound.apart)
  where
    e : Desktop
    e = shifted c t place d

    has : IsWhole (shifted c t place d)
    has = shifted-whole c t place d is

    roots : List ℕ
    roots = t ∷ popup_surfaces (popups_in d c)

    apart : AreOtherSurfaces (t ∷ popup_surfaces (popups_in d c))
    apart = apart-all c t d is.trees.sound (is.trees.sound.levels c t stands)

    others : OthersAreKept c t d (shifted c t place d)
    others = each-of (λ s. is_of c t s ≡ false → ToplevelIsKept d (shifted c t place d) s) (λ s not_its. foreign-kept d (shifted c t place d) s refl) d.standing

    same : All (λ w. All (SameRoot w) (windows_with c t d)) (windows_with c t (shifted c t place d))
    same =
        each-all (λ w. All (SameRoot w) (windows_with c t d)) (windows_with c t (shifted c t place d))
        (each-map (IsOfTree c t (shifted c t place d) d) (λ w. All (SameRoot w) (windows_with c t d))
        (λ w of-w. each-all (SameRoot w) (windows_with c t d)
        (each-map (IsOfTree c t d (shifted c t place d)) (SameRoot w) (λ v of-v. same-root c t d (shifted c t place d) is.trees.sound has.trees.sound w v of-w of-v) (windows_with c t d)
        (of-trees c t t d (shifted c t place d) is.trees.sound has.trees.sound (λ x out top. top) (λ out. absurd (differ (sym out ∙ equal-numbers t t refl)))
        (λ x out here there owner place. refl))))
        (windows_with c t (shifted c t place d))
        (of-trees c t t (shifted c t place d) d has.trees.sound is.trees.sound (λ x out top. top) (λ out. absurd (differ (sym out ∙ equal-numbers t t refl)))
        (λ x out here there owner place. refl)))

    at : (list_any (is_of c t) d.standing ≡ false) ⊎ IsFound c t d.standing → ChangesToplevel c t d (shifted c t place d)
    at (inl none) = absurd (differ (sym none ∙ stands))
    at (inr f) =
        toplevel-changes c t d (shifted c t place d) is.trees.sound has.trees.sound others (t ∷ popup_surfaces (popups_in d c))
        (turn-in c t d (popup_surfaces (popups_in d c)) (all-from (popup_surfaces (popups_in d c))) apart)
        (turn-in c t (shifted c t place d) (popup_surfaces (popups_in d c)) (all-from (popup_surfaces (popups_in d c))) apart) same
        f.below f.above (Some f.it) (Some (record f.it { place = place })) f.parts
        (ap (moved_to c t place) f.parts ∙ shifted-among c t place f.below f.it f.above f.no_lower f.its) f.its f.its f.no_lower f.no_higher

pub moves-are-marked : (A : Type 0) → MarksByTreesBetween → MovesAreMarked A
moves-are-marked A between c t place d f changes none is stands apart =
    let has = shifted-whole c t place d is in
    let step = moves-change c t place d is stands in
    record {
      step = step;
      marks =
          runs-are-marked A between c t d (shifted c t place d) step f changes
          (record {
            shown_before = is.shown;
            shown_after = has.shown;
            apart = apart;
            stay = λ surface there. there;
            tells = nothing-told-by-name A applies-nothing f (owned_in d c).surfaces changes none;
          });
    }

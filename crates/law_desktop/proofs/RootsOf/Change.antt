-- Where all other toplevels are kept, the windows that are stacked with one are all that change, whether it stands before, afterwards, or
-- neither; and where all are kept, no window changes.
use Rattle.std.proofs.Common.{◌≡◌, ℕ, true, false, Option, Some, None, List, [], ◌∷◌, ◌++◌, refl, ap, ap₂, sym, subst, ◌∙◌, append_assoc, inl, inr}
use Rattle.std.specs.Prelude.{◌⊎◌, find}
use Rattle.std.specs.List.{All, list_any}
use Rattle.std.proofs.lemmas.List.{append-nil}
use Rattle.spec_desktop.specs.Stacking.{Standing, is_of, with_mapped, without_surface_of}
use Rattle.spec_desktop.specs.Windows.{Window, mapping_place}
use Rattle.spec_desktop.specs.Desktop.{Desktop}
use Rattle.spec_desktop.specs.Marks.{AreDistinct}
use Rattle.spec_desktop.specs.Moments.{applied_between}
use Rattle.spec_desktop.specs.Stacked.{all_windows}
use Rattle.law_desktop.specs.Laws.{AreApart}
use Rattle.law_desktop.specs.Soundness.{IsSound}
use Rattle.law_desktop.proofs.Lists.Standings.{of-it}
use Rattle.law_desktop.proofs.Soundness.Trees.{none-append}
use Rattle.law_desktop.proofs.Soundness.Windows.{sound_is_distinct}
use Rattle.law_desktop.specs.TreeMarksLaws.{among}
use Rattle.law_desktop.specs.Changes.{StaysPainted}
use Rattle.law_desktop.specs.Toplevel.{AreInTurn, ChangesToplevel, SameRoot, has_toplevel, windows_with, windows_with_standing}
use Rattle.law_desktop.proofs.RootsOf.Kept.{ToplevelIsKept, all-shown, all-undamaged, no-toplevel, own-toplevel, shown, shown_of}
use Rattle.law_desktop.proofs.RootsOf.Stacks.{IsFound, IsItsOwn, found-among, none-lower, none-or-found, stand, without-it, without-none}
use Rattle.law_desktop.proofs.Lists.Each.{Each, each-append, each-both, each-first, each-second}
use Rattle.law_desktop.proofs.Lists.Tests.{all-each, each-false}

-- ---- lists

shown-both : (d : Desktop) (ss rs : List Standing) → shown_of d (ss ++ rs) ≡ shown_of d ss ++ shown_of d rs
shown-both d [] rs = refl
shown-both d (s ∷ ss) rs = ap (λ ws. shown d s ++ ws) (shown-both d ss rs) ∙ sym (append_assoc (shown d s) (shown_of d ss) (shown_of d rs))

-- those of one toplevel, if it stands, are among the others
shown-among : (d : Desktop) (below above : List Standing) (o : Option Standing) → shown_of d (below ++ stand o above) ≡ among (shown_of d below) (shown_of d above) (windows_with_standing d o)
shown-among d below above None = shown-both d below above
shown-among d below above (Some s) = shown-both d below (s ∷ above)

its-toplevel : (c t : ℕ) (d : Desktop) (o : Option Standing) → IsItsOwn c t o → Each (λ w. has_toplevel c t w ≡ true) (windows_with_standing d o)
its-toplevel c t d None its = tt
its-toplevel c t d (Some s) its = own-toplevel c t d s its

-- ---- all are kept

pub all-painted : (d e : Desktop) → IsSound d → e.standing ≡ d.standing → Each (ToplevelIsKept d e) d.standing → StaysPainted d e
all-painted d e sound same kept = record {
  windows = ap (shown_of e) same ∙ all-shown d e d.standing kept;
  undamaged = all-undamaged d e d.standing kept;
  distinct = sound_is_distinct d sound;
}

-- ---- all but one are kept

-- the others
abbrev pub OthersAreKept : ℕ → ℕ → Desktop → Desktop → Type 0
OthersAreKept c t d e = Each (λ s. is_of c t s ≡ false → ToplevelIsKept d e s) d.standing

module _ (c t : ℕ) (d e : Desktop) (had : IsSound d) (has : IsSound e) (others : OthersAreKept c t d e) (roots : List ℕ) (turn : AreInTurn roots (windows_with c t d))
    (turn-now : AreInTurn roots (windows_with c t e)) (same : All (λ w. All (SameRoot w) (windows_with c t d)) (windows_with c t e)) where
  -- The toplevel stands, or not, among the others.
  pub toplevel-changes : (below above : List Standing) (o p : Option Standing) → d.standing ≡ below ++ stand o above → e.standing ≡ below ++ stand p above
      → IsItsOwn c t o → IsItsOwn c t p → list_any (is_of c t) below ≡ false → list_any (is_of c t) above ≡ false → ChangesToplevel c t d e
  toplevel-changes below above o p parts parts-now own own-now no_lower no_higher =
      record {
        below = shown_of d below;
        above = shown_of d above;
        was = windows_with c t d;
        is = windows_with c t e;
        roots = roots;
        before = before;
        after = after;
        was_of = refl;
        is_of = refl;
        together =
            all-each (has_toplevel c t) (windows_with c t d ++ windows_with c t e)
            (each-append (λ w. has_toplevel c t w ≡ true) (windows_with c t d) (windows_with c t e)
            (subst (λ (ws : List Window). Each (λ w. has_toplevel c t w ≡ true) ws) (sym was) (its-toplevel c t d o own))
            (subst (λ (ws : List Window). Each (λ w. has_toplevel c t w ≡ true) ws) (sym is) (its-toplevel c t e p own-now)));
        apart =
            none-append (has_toplevel c t) (shown_of d below) (shown_of d above) (no-toplevel c t d below no_lower) (no-toplevel c t d above no_higher);
        undamaged =
            λ x y. none-append (λ w. applied_between d e w.owner.client w.surface x y) (shown_of d below) (shown_of d above)
            (all-undamaged d e below kept-below x y) (all-undamaged d e above kept-above x y);
        distinct_before = subst AreDistinct before (sound_is_distinct d had);
        distinct_after = subst AreDistinct after (sound_is_distinct e has);
        same_roots = same;
        was_in_turn = turn;
        is_in_turn = turn-now;
      }
    where
      each : Each (λ s. is_of c t s ≡ false → ToplevelIsKept d e s) (below ++ stand o above)
      each = subst (λ (ss : List Standing). Each (λ s. is_of c t s ≡ false → ToplevelIsKept d e s) ss) parts others

      upper : (o : Option Standing) → Each (λ s. is_of c t s ≡ false → ToplevelIsKept d e s) (stand o above) → Each (λ s. is_of c t s ≡ false → ToplevelIsKept d e s) above
      upper None e = e
      upper (Some s) e = e.1

      kept : (ss : List Standing) → list_any (is_of c t) ss ≡ false → Each (λ s. is_of c t s ≡ false → ToplevelIsKept d e s) ss → Each (ToplevelIsKept d e) ss
      kept ss none each =
          each-both (λ s. is_of c t s ≡ false) (λ s. is_of c t s ≡ false → ToplevelIsKept d e s) (ToplevelIsKept d e) (λ s not_its keeps. keeps not_its) ss
          (each-false (is_of c t) ss none) each

      kept-below : Each (ToplevelIsKept d e) below
      kept-below = kept below no_lower (each-first (λ s. is_of c t s ≡ false → ToplevelIsKept d e s) below (stand o above) each)

      kept-above : Each (ToplevelIsKept d e) above
      kept-above = kept above no_higher (upper o (each-second (λ s. is_of c t s ≡ false → ToplevelIsKept d e s) below (stand o above) each))

      was : windows_with c t d ≡ windows_with_standing d o
      was = ap (windows_with_standing d) (ap (find (is_of c t)) parts ∙ found-among c t below above o own no_lower no_higher)

      is : windows_with c t e ≡ windows_with_standing e p
      is = ap (windows_with_standing e) (ap (find (is_of c t)) parts-now ∙ found-among c t below above p own-now no_lower no_higher)

      before : all_windows d ≡ among (shown_of d below) (shown_of d above) (windows_with c t d)
      before = ap (shown_of d) parts ∙ (shown-among d below above o ∙ ap (among (shown_of d below) (shown_of d above)) (sym was))

      after : all_windows e ≡ among (shown_of d below) (shown_of d above) (windows_with c t e)
      after =
          ap (shown_of e) parts-now
          ∙ (shown-among e below above p
          ∙ (ap₂ (λ (ws vs : List Window). among ws vs (windows_with_standing e p)) (all-shown d e below kept-below) (all-shown d e above kept-above)
          ∙ ap (among (shown_of d below) (shown_of d above)) (sym is)))

  -- the same toplevels stand
  pub same-stand : e.standing ≡ d.standing → ChangesToplevel c t d e
  same-stand same = at (none-or-found c t d.standing had.apart)
    where
      at : (list_any (is_of c t) d.standing ≡ false) ⊎ IsFound c t d.standing → ChangesToplevel c t d e
      at (inl none) = toplevel-changes d.standing [] None None (sym (append-nil d.standing)) (same ∙ sym (append-nil d.standing)) tt tt none refl
      at (inr f) = toplevel-changes f.below f.above (Some f.it) (Some f.it) f.parts (same ∙ f.parts) f.its f.its f.no_lower f.no_higher

  -- it is taken out, if it stands
  pub one-out : e.standing ≡ without_surface_of c t d.standing → ChangesToplevel c t d e
  one-out out = at (none-or-found c t d.standing had.apart)
    where
      at : (list_any (is_of c t) d.standing ≡ false) ⊎ IsFound c t d.standing → ChangesToplevel c t d e
      at (inl none) = same-stand (out ∙ without-none c t d.standing none)
      at (inr f) = toplevel-changes f.below f.above (Some f.it) None f.parts (out ∙ without-it c t d.standing f) f.its tt f.no_lower f.no_higher

  -- it is put on top
  pub one-in : (mappings : ℕ) → e.standing ≡ with_mapped mappings c t d.standing → ChangesToplevel c t d e
  one-in mappings into =
      toplevel-changes d.standing [] None (Some newest) (sym (append-nil d.standing)) into tt (of-it c t newest refl refl)
      (none-lower d.standing newest (subst AreApart into has.apart)) refl
    where
      newest : Standing
      newest = record { client = c; surface = t; place = mapping_place mappings }

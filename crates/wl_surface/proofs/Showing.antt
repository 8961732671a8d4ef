-- The buffers that a call's surfaces showed: those that it applies, holds or ends.
use Rattle.std.proofs.Common.{◌≡◌, ℕ, ◌==◌, ◌||◌, Bool, true, false, List, [], ◌∷◌, map, refl, ap, sym, subst, ◌∙◌, arith}
use Rattle.std.specs.List.{Contains}
use Rattle.std.proofs.lemmas.Bool.{eqb-true}
use Rattle.wl_surface.specs.declared.content.Attached.{Attached}
use Rattle.wl_surface.specs.Kept.{buffer_of}
use Rattle.wl_surface.specs.Request.{Buffer}
use Rattle.wl_surface.specs.Slots.{shows_at}
use Rattle.wl_surface.specs.Surfaces.{Surfaces}
use Rattle.wl_surface.specs.Linked.{numbered}
use Rattle.wl_surface.specs.Tree.{AreShown, is_among, shown_by}
use Rattle.wl_surface.proofs.Applying.{any-there}
use Rattle.wl_surface.proofs.TreeShown.{among-shown, shown-as}

pub are-shown : (ns : List ℕ) (is_such : ℕ → Bool) (all : Surfaces) (shown : List Attached) → ((n : ℕ) → is_among ns n ≡ is_such n) → map buffer_of shown ≡ shown_by ns (numbered all)
    → AreShown is_such all (map buffer_of shown)
are-shown ns is_such all shown such is = record {
  each = λ number buffer e shows.
      among-shown ns (numbered all) shown is buffer ∙ any-there (λ m. shows_at buffer (numbered all m)) number ns (such number ∙ e) shows;
  those = λ buffer has.
      let one = shown-as ns (numbered all) buffer (subst (λ (bs : List Buffer). Contains bs buffer) is has) in
      (one.0, sym (such one.0) ∙ one.1, one.2);
}

-- the same, of those surfaces in other words
pub shown-such : (first other : ℕ → Bool) (all : Surfaces) (buffers : List Buffer) → ((n : ℕ) → first n ≡ other n) → AreShown first all buffers → AreShown other all buffers
shown-such first other all buffers same are = record {
  each = λ number buffer e shows. are.each number buffer (same number ∙ e) shows;
  those = λ buffer has. let one = are.those buffer has in (one.0, sym (same one.0) ∙ one.1, one.2);
}

-- no surface is of the kind, and there is no buffer
pub none-shown : (is_such : ℕ → Bool) (all : Surfaces) (shown : List Attached) → ((n : ℕ) → is_such n ≡ false) → shown ≡ [] → AreShown is_such all (map buffer_of shown)
none-shown is_such all shown none is = are-shown [] is_such all shown (λ n. sym (none n)) (ap (λ (xs : List Attached). map buffer_of xs) is)

-- one surface alone
pub among-alone : (surface n : ℕ) → is_among (surface ∷ []) n ≡ (n == surface)
among-alone surface n = at (surface == n) (n == surface) refl refl
  where
    at : (a b : Bool) → (surface == n) ≡ a → (n == surface) ≡ b → (a || false) ≡ b
    at true true e f = refl
    at false false e f = refl
    at true false e f = absurd (let same = eqb-true surface n e in grind (arith, same, f))
    at false true e f = absurd (let same = eqb-true n surface f in grind (arith, same, e))

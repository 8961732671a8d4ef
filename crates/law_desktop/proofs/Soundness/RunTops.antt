-- A client stays orderly as toplevels are raised and moved.
use Rattle.std.proofs.Common.{◌≡◌, ℕ, List, [], ◌∷◌, ◌++◌, Bool, true, false, cond, Option, Some, None, refl, ap, sym, subst, ◌∙◌}
use Rattle.std.specs.Prelude.{◌+◌, ◌==◌, ◌&&◌, if◌then◌else◌}
use Rattle.std.specs.List.{list_any}
use Rattle.spec_desktop.specs.declared.cause.Cause.{Cause}
use Rattle.spec_desktop.specs.Stacking.{Standing, is_of, moved_to, raised}
use Rattle.spec_desktop.specs.Windows.{Place}
use Rattle.spec_desktop.specs.Desktop.{Resident}
use Rattle.law_desktop.specs.Laws.{AreApart}
use Rattle.law_desktop.specs.Own.{StandTheSame}
use Rattle.law_desktop.proofs.Soundness.Orderly.{IsOrderly, IsOrderlyAt, IsOrderlyBy}
use Rattle.law_desktop.proofs.Lists.Standings.{apart-last}
use Rattle.law_desktop.proofs.Isolation.Own.{Shifting, any-moved, none-stand, of, stand-moved, stand-raised}
use Rattle.law_desktop.proofs.Lists.Left.{any-filtered}
use Rattle.law_desktop.proofs.PointerAside.Moved.{any-raised}

-- ---- raised

last-of : (c : ℕ) (ss : List Standing) (s : Standing) → of c (ss ++ s ∷ []) ≡ (if s.client == c then of c ss ++ s ∷ [] else of c ss)
last-of c [] s = refl
last-of c (t ∷ ts) s = ap (λ (rest : List Standing). cond (t.client == c) (t ∷ rest) rest) (last-of c ts s) ∙ at (s.client == c) (t.client == c)
  where
    at : (b a : Bool) → cond a (t ∷ (if b then of c ts ++ s ∷ [] else of c ts)) (if b then of c ts ++ s ∷ [] else of c ts) ≡ (if b then cond a (t ∷ of c ts) (of c ts) ++ s ∷ [] else cond a
        (t ∷ of c ts) (of c ts))
    at true true = refl
    at true false = refl
    at false a = refl

apart-raised : (c k surface : ℕ) (ss : List Standing) → AreApart (of c ss) → AreApart (of c (raised k surface ss))
apart-raised c k surface [] apart = tt
apart-raised c k surface (s ∷ ss) apart = at (is_of k surface s) (apart-raised c k surface ss)
  where
    up : (b : Bool) → AreApart (cond b (s ∷ of c ss) (of c ss)) → AreApart (if b then of c ss ++ s ∷ [] else of c ss)
    up true apart = apart-last (of c ss) s apart.1 apart.0
    up false apart = apart

    same : list_any (is_of s.client s.surface) (of c (raised k surface ss)) ≡ list_any (is_of s.client s.surface) (of c ss)
    same =
        any-filtered (is_of s.client s.surface) (λ t. t.client == c) (raised k surface ss)
        ∙ any-raised (λ t. (t.client == c) && is_of s.client s.surface t) k surface ss
        ∙ sym (any-filtered (is_of s.client s.surface) (λ t. t.client == c) ss)

    on : (b : Bool) → (AreApart (of c ss) → AreApart (of c (raised k surface ss))) → AreApart (cond b (s ∷ of c ss) (of c ss))
        → AreApart (cond b (s ∷ of c (raised k surface ss)) (of c (raised k surface ss)))
    on true later apart = (same ∙ apart.0, later apart.1)
    on false later apart = later apart

    at : (b : Bool) → (AreApart (of c ss) → AreApart (of c (raised k surface ss))) → AreApart (of c (if b then ss ++ s ∷ [] else s ∷ raised k surface ss))
    at true later = subst AreApart (sym (last-of c ss s)) (up (s.client == c) apart)
    at false later = on (s.client == c) later apart

-- ---- moved

pub apart-moved : (c k surface : ℕ) (place : Place) (ss : List Standing) → AreApart (of c ss) → AreApart (of c (moved_to k surface place ss))
apart-moved c k surface place [] apart = tt
apart-moved c k surface place (s ∷ ss) apart = at (is_of k surface s) (apart-moved c k surface place ss)
  where
    here : (b : Bool) → AreApart (cond b (s ∷ of c ss) (of c ss)) → AreApart (cond b (record s { place = place } ∷ of c ss) (of c ss))
    here true apart = apart
    here false apart = apart

    same : list_any (is_of s.client s.surface) (of c (moved_to k surface place ss)) ≡ list_any (is_of s.client s.surface) (of c ss)
    same =
        any-filtered (is_of s.client s.surface) (λ t. t.client == c) (moved_to k surface place ss)
        ∙ any-moved (λ t. (t.client == c) && is_of s.client s.surface t) (λ t place. refl) k surface place ss
        ∙ sym (any-filtered (is_of s.client s.surface) (λ t. t.client == c) ss)

    on : (b : Bool) → (AreApart (of c ss) → AreApart (of c (moved_to k surface place ss))) → AreApart (cond b (s ∷ of c ss) (of c ss))
        → AreApart (cond b (s ∷ of c (moved_to k surface place ss)) (of c (moved_to k surface place ss)))
    on true later apart = (same ∙ apart.0, later apart.1)
    on false later apart = later apart

    at : (b : Bool) → (AreApart (of c ss) → AreApart (of c (moved_to k surface place ss))) → AreApart (of c (if b then record s { place = place } ∷ ss else s ∷ moved_to k surface place ss))
    at true later = here (s.client == c) apart
    at false later = on (s.client == c) later apart

-- ---- what is known of a client

stand-so : (r : Resident) (before after : List Standing) → StandTheSame before after → (AreApart before → AreApart after) → IsOrderlyAt (Some r) before → IsOrderlyAt (Some r) after
stand-so r before after same apart known = at r.peer.status known
  where
    so : IsOrderly (r.peer.requests + 1) r before → IsOrderly (r.peer.requests + 1) r after
    so known = record {
      objects = known.objects;
      forest = known.forest;
      roles = known.roles;
      standing = record { apart = apart known.standing.apart; mapped = λ surface there. known.standing.mapped surface (sym (same surface) ∙ there) };
    }

    at : (s : Option Cause) → IsOrderlyBy s r before → IsOrderlyBy s r after
    at None known = so known
    at (Some cause) known = (so known.0, none-stand before after same known.1)

-- the same toplevels stand, and none of them twice
stand-at : (o : Option Resident) (before after : List Standing) → StandTheSame before after → (AreApart before → AreApart after) → IsOrderlyAt o before → IsOrderlyAt o after
stand-at None before after same apart known = none-stand before after same known
stand-at (Some r) before after same apart known = stand-so r before after same apart known

-- whichever is raised or moved, the client stays orderly
pub orderly-shifting : (c : ℕ) → Shifting c IsOrderlyAt
orderly-shifting c = record {
  raises = λ t o ss known. stand-at o (of c ss) _ (stand-raised c t.client t.surface ss) (apart-raised c t.client t.surface ss) known;
  moves = λ t x y o ss known. stand-at o (of c ss) _ (stand-moved c t.client t.surface _ ss) (apart-moved c t.client t.surface _ ss) known;
}

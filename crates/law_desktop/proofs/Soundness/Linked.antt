-- A new link between surfaces keeps their links trees.
use Rattle.std.proofs.Common.{◌≡◌, ℕ, suc, ◌+◌, ◌-◌, ◌≤◌, ◌<◌, Bool, true, false, Option, Some, None, cond, take, inl, inr, refl, ap, sym, subst, ◌∙◌, arith}
use Rattle.std.specs.Prelude.{◌==◌, ◌||◌, ◌⊎◌}
use Rattle.std.proofs.lemmas.Bool.{eqb-true, false_from_ne_true, ltb-false}
use Rattle.std.proofs.lemmas.Option.{same_Some}
use Rattle.wl_surface.specs.State.{History, is_member, order}
use Rattle.wl_surface.specs.Surfaces.{Link, Surfaces, history_in, link_at}
use Rattle.wl_surface.specs.Trees.{depth, descends_from, height, is_bad_parent, is_too_deep, levels, linked}
use Rattle.law_desktop.specs.Apart.{AreApartBy}
use Rattle.law_desktop.specs.Soundness.{AreOnce, AreTrees, IsLive, IsNoChild}
use Rattle.law_desktop.proofs.Soundness.Orderly.{IsForest, has_child}
use Rattle.law_desktop.proofs.Soundness.LinkedDepths.{depth-low, depth-none, depth-step, descends-itself, descends-step, live-link, no-link, within-height}
use Rattle.law_desktop.proofs.Soundness.LinkedOrders.{IsChildIn, IsOrderIn, child-linked, new-once, order-linked}
use Rattle.law_desktop.proofs.Lists.Keys.{new-apart, new-elsewhere, new-here}

-- ---- trees

pub forest-trees : (bound : ℕ) (all : Surfaces) → IsForest bound all → AreTrees all
forest-trees bound all f = record {
  once = f.once;
  ordered = f.ordered;
  parents = f.parents;
  depth = depth levels all;
  below = λ number link live. depth-step bound link.child link all f (live-link bound number link all f live);
  top = λ surface none. depth-none levels all surface (no-link bound surface all f none);
  shallow = λ surface. depth-low bound surface all f;
}

-- ---- the new link

abbrev new_link : ℕ → ℕ → ℕ → Link
new_link number child parent = record { number = number; child = child; parent = parent; synchronised = true; has_ended = false }

-- no link has the number yet
unused : (number : ℕ) (all : Surfaces) → IsForest number all → link_at number all ≡ None
unused number all f = at (link_at number all) refl
  where
    at : (o : Option Link) → link_at number all ≡ o → o ≡ None
    at None e = refl
    at (Some a) e = let less = f.early number a e in absurd (omega arith)

-- the link of a number is the new one, or what it was
abbrev IsAt : ℕ → ℕ → ℕ → ℕ → Surfaces → Type 0
IsAt number child parent n all =
    ((n ≡ number) × (link_at n (linked number child parent all) ≡ Some (new_link number child parent))) ⊎ (link_at n (linked number child parent all) ≡ link_at n all)

linked-at : (number child parent n : ℕ) (all : Surfaces) → IsForest number all → IsAt number child parent n all
linked-at number child parent n all f = at (number == n) refl
  where
    at : (b : Bool) → (number == n) ≡ b → IsAt number child parent n all
    at true e =
        let same = eqb-true number n e in
        inl (sym same, new-here (λ l. l.number == n) all.links (new_link number child parent) (subst (λ k. link_at k all ≡ None) same (unused number all f)) e)
    at false e = inr (new-elsewhere (λ l. l.number == n) all.links (new_link number child parent) e)

abbrev LivesIn : ℕ → ℕ → ℕ → ℕ → Link → Surfaces → Type 0
LivesIn number child parent n link all = ((n ≡ number) × (link.child ≡ child) × (link.parent ≡ parent)) ⊎ IsLive n link all

-- A link that lives is the new one, or lived before.
pub linked-live : (number child parent n : ℕ) (link : Link) (all : Surfaces) → IsForest number all → IsLive n link (linked number child parent all)
    → ((n ≡ number) × (link.child ≡ child) × (link.parent ≡ parent)) ⊎ IsLive n link all
linked-live number child parent n link all f live = at (linked-at number child parent n all f)
  where
    at : IsAt number child parent n all → LivesIn number child parent n link all
    at (inl e) = let same = same_Some link (new_link number child parent) (sym live.here ∙ e.1) in inl (e.0, ap (λ (l : Link). l.child) same, ap (λ (l : Link). l.parent) same)
    at (inr e) = inr (record { here = sym e ∙ live.here; lives = live.lives })

-- ---- depth

-- The new child stands below its parent, and with it what descends from it.
abbrev deeper : ℕ → ℕ → Surfaces → ℕ → ℕ
deeper child parent all s = cond (descends_from levels all child s) (depth levels all s + suc (depth levels all parent)) (depth levels all s)

deeper-below : (child parent : ℕ) (all : Surfaces) (s : ℕ) → descends_from levels all child s ≡ true → deeper child parent all s ≡ depth levels all s + suc (depth levels all parent)
deeper-below child parent all s e = ap (λ b. cond b (depth levels all s + suc (depth levels all parent)) (depth levels all s)) e

deeper-apart : (child parent : ℕ) (all : Surfaces) (s : ℕ) → descends_from levels all child s ≡ false → deeper child parent all s ≡ depth levels all s
deeper-apart child parent all s e = ap (λ b. cond b (depth levels all s + suc (depth levels all parent)) (depth levels all s)) e

rises-new : (c p d : ℕ) → p ≡ d → c ≡ 0 + suc d → p < c
rises-new c p d e f = omega arith

-- the new link rises
deeper-new : (number child parent : ℕ) (all : Surfaces) → IsForest number all → IsNoChild child all → is_bad_parent all child parent ≡ false
    → deeper child parent all parent < deeper child parent all child
deeper-new number child parent all f none good =
    let root = depth-none levels all child (no-link number child all f none) in
    rises-new (deeper child parent all child) (deeper child parent all parent) (depth levels all parent) (deeper-apart child parent all parent good)
    (deeper-below child parent all child (descends-itself levels all child) ∙ ap (λ d. d + suc (depth levels all parent)) root)

rises-both : (b : Bool) (c p d : ℕ) → c ≡ suc p → cond b (p + d) p < cond b (c + d) c
rises-both true c p d e = omega arith
rises-both false c p d e = omega arith

-- and so do those that lived
deeper-old : (number child parent n : ℕ) (link : Link) (all : Surfaces) → IsForest number all → IsNoChild child all → IsLive n link all
    → deeper child parent all link.parent < deeper child parent all link.child
deeper-old number child parent n link all f none live =
    let found = live-link number n link all f live in
    let not_top : (link.child == child) ≡ false = false_from_ne_true (link.child == child) (λ e. none n link live (eqb-true link.child child e)) in
    let same : descends_from levels all child link.child ≡ descends_from levels all child link.parent = descends-step number child link.child link all f found
    ∙ ap (λ b. b || descends_from levels all child link.parent) not_top in
    subst (λ b. deeper child parent all link.parent < cond b (depth levels all link.child + suc (depth levels all parent)) (depth levels all link.child)) (sym same)
    (rises-both (descends_from levels all child link.parent) (depth levels all link.child) (depth levels all link.parent) (suc (depth levels all parent))
    (depth-step number link.child link all f found))

low-below : (s h d p : ℕ) → d ≡ s + suc p → s ≤ h → p + 1 + h ≤ 16 → d ≤ 16
low-below s h d p e f g = omega arith

-- no surface is deeper than 16
deeper-low : (number child parent s : ℕ) (all : Surfaces) → IsForest number all → IsNoChild child all → is_too_deep all child parent ≡ false → deeper child parent all s ≤ 16
deeper-low number child parent s all f none low = at (descends_from levels all child s) refl
  where
    at : (b : Bool) → descends_from levels all child s ≡ b → deeper child parent all s ≤ 16
    at false e = let same = deeper-apart child parent all s e in let d = depth-low number s all f in omega arith
    at true e =
        let d = depth-low number s all f in
        let root = depth-none levels all child (no-link number child all f none) in
        let high = within-height number levels child s (17 - depth levels all s) levels all f root (omega arith) e in
        low-below (depth levels all s) (height levels all child) (deeper child parent all s) (depth levels all parent) (deeper-below child parent all s e) (omega arith)
        (ltb-false 16 (depth levels all parent + 1 + height levels all child) low)

-- ---- the forest

early-more : (n number : ℕ) → n < number → n < number + 1
early-more n number e = omega arith

early-new : (n number : ℕ) → n ≡ number → n < number + 1
early-new n number e = omega arith

no-later : (n number : ℕ) → n < number → n ≡ number → ⊥
no-later n number e f = omega arith

module _ (number child parent : ℕ) (all : Surfaces) (f : IsForest number all) where
  linked-early : (n : ℕ) (link : Link) → link_at n (linked number child parent all) ≡ Some link → n < number + 1
  linked-early n link found = at (linked-at number child parent n all f)
    where
      at : IsAt number child parent n all → n < number + 1
      at (inl e) = early-new n number e.0
      at (inr e) = early-more n number (f.early n link (sym e ∙ found))

  linked-apart : AreApartBy (λ n l. l.number == n) (linked number child parent all).links
  linked-apart =
      new-apart (λ n l. l.number == n) all.links (new_link number child parent)
      (λ key is. subst (λ n. link_at n all ≡ None) (eqb-true number key is) (unused number all f)) f.apart

  linked-once : IsNoChild child all → (k l : ℕ) (a b : Link) → IsLive k a (linked number child parent all) → IsLive l b (linked number child parent all) → a.child ≡ b.child → k ≡ l
  linked-once none k l a b x y same = at (linked-live number child parent k a all f x) (linked-live number child parent l b all f y)
    where
      at : LivesIn number child parent k a all → LivesIn number child parent l b all → k ≡ l
      at (inl e) (inl g) = e.0 ∙ sym g.0
      at (inl e) (inr live) = absurd (none l b live (sym same ∙ e.1))
      at (inr live) (inl g) = absurd (none k a live (same ∙ g.1))
      at (inr one) (inr other) = f.once k l a b one other same

  linked-ordered : (surface counting : ℕ) (h : History) → history_in surface (linked number child parent all) ≡ Some h → AreOnce is_member (order (take counting h.requests))
  linked-ordered surface counting h e = at (order-linked number child parent surface counting all h e)
    where
      at : IsOrderIn number parent surface counting all h → AreOnce is_member (order (take counting h.requests))
      at (g, m, found, inl same) = subst (AreOnce is_member) (sym same) (f.ordered surface m g found)
      at (g, m, found, inr grown) =
          subst (AreOnce is_member) (sym grown.1)
          (new-once number (order (take m g.requests)) (f.ordered surface m g found)
          (false_from_ne_true (has_child number m g) (λ there. no-later number number (f.members surface m number g found there) refl)))

  linked-members : (surface counting n : ℕ) (h : History) → history_in surface (linked number child parent all) ≡ Some h → has_child n counting h ≡ true → n < number + 1
  linked-members surface counting n h e there = at (child-linked number child parent surface counting n all h e there)
    where
      at : IsChildIn number parent surface n all → n < number + 1
      at (g, m, found, inl was) = early-more n number (f.members surface m n g found was)
      at (g, m, found, inr new) = early-new n number new.1

  linked-parents : (surface counting n : ℕ) (h : History) (link : Link) → history_in surface (linked number child parent all) ≡ Some h → has_child n counting h ≡ true
      → IsLive n link (linked number child parent all) → link.parent ≡ surface
  linked-parents surface counting n h link e there live = at (child-linked number child parent surface counting n all h e there) (linked-live number child parent n link all f live)
    where
      at : IsChildIn number parent surface n all → LivesIn number child parent n link all → link.parent ≡ surface
      at (g, m, found, inl was) (inl new) = absurd (no-later n number (f.members surface m n g found was) new.0)
      at (g, m, found, inl was) (inr old) = f.parents surface m n g link found was old
      at (g, m, found, inr top) (inl new) = new.2 ∙ sym top.0
      at (g, m, found, inr top) (inr old) = absurd (no-later n number (f.early n link old.here) top.1)

  linked-rises : IsNoChild child all → is_bad_parent all child parent ≡ false → (n : ℕ) (link : Link) → IsLive n link (linked number child parent all)
      → deeper child parent all link.parent < deeper child parent all link.child
  linked-rises none good n link live = at (linked-live number child parent n link all f live)
    where
      at : LivesIn number child parent n link all → deeper child parent all link.parent < deeper child parent all link.child
      at (inl e) =
          subst (λ p. deeper child parent all p < deeper child parent all link.child) (sym e.2)
          (subst (λ c. deeper child parent all parent < deeper child parent all c) (sym e.1) (deeper-new number child parent all f none good))
      at (inr old) = deeper-old number child parent n link all f none old

-- A link that makes no circle, and no tree too deep, keeps the forest.
pub forest-linked : (number child parent : ℕ) (all : Surfaces) → IsForest number all → ((n : ℕ) (link : Link) → IsLive n link all → link.child ≡ child → ⊥) → is_too_deep all child parent ≡ false
    → is_bad_parent all child parent ≡ false → IsForest (number + 1) (linked number child parent all)
forest-linked number child parent all f none low good = record {
  apart = linked-apart number child parent all f;
  early = linked-early number child parent all f;
  once = linked-once number child parent all f none;
  ordered = linked-ordered number child parent all f;
  members = linked-members number child parent all f;
  parents = linked-parents number child parent all f;
  rank = deeper child parent all;
  rises = linked-rises number child parent all f none good;
  low = λ s. deeper-low number child parent s all f none low;
}

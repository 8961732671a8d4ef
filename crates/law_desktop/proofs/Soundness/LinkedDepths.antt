-- How deep and how high surfaces stand, where their links make trees.
use Rattle.std.proofs.Common.{◌≡◌, ℕ, zero, suc, ◌+◌, ◌≤◌, ◌<◌, Bool, true, false, List, [], ◌∷◌, Option, Some, None, cond, not, max, map, inl, inr, refl, ap, sym, subst, ◌∙◌, arith}
use Rattle.std.specs.Prelude.{◌==◌, ◌&&◌, ◌||◌, ◌⊎◌, find, filter, fold}
use Rattle.std.proofs.lemmas.Bool.{and_from, eqb-true, not-true, not_from_false, or_cases}
use Rattle.std.proofs.lemmas.Option.{same_Some}
use Rattle.wl_surface.specs.Surfaces.{Link, Surfaces, link_at}
use Rattle.wl_surface.specs.Trees.{of_parent, depth, descends_from, height, levels, link_of}
use Rattle.law_desktop.specs.Soundness.{IsLive, IsNoChild}
use Rattle.law_desktop.proofs.Soundness.Orderly.{IsForest}
use Rattle.law_desktop.proofs.Lists.Keys.{found-by, found-fails, found-none, found-passes}
use Rattle.law_desktop.proofs.Marks.Stacks.{same-number}
use Rattle.law_desktop.proofs.Truth.{and-left, and-right, differ, or-false}

-- ---- the link of a child

abbrev pub is_link_of : ℕ → Link → Bool
is_link_of child l = not l.has_ended && l.child == child

pub record IsUp (child : ℕ) (a : Link) (all : Surfaces) : Type 0 where
  pub live : IsLive a.number a all
  pub is_its : a.child ≡ child

-- a surface has a link or none
pub by-link : (P : Type 0) (s : ℕ) (all : Surfaces) → (link_of s all ≡ None → P) → ((a : Link) → link_of s all ≡ Some a → P) → P
by-link P s all none some = at (link_of s all) refl
  where
    at : (o : Option Link) → link_of s all ≡ o → P
    at None e = none e
    at (Some a) e = some a e

-- what is found lives
pub link-live : (bound child : ℕ) (a : Link) (all : Surfaces) → IsForest bound all → link_of child all ≡ Some a → IsUp child a all
link-live bound child a all f found =
    let passes = found-passes (is_link_of child) all.links a found in record {
      live = record {
        here = found-by (λ number l. l.number == number) (is_link_of child) a.number all.links a f.apart found (same-number a.number);
        lives = not-true a.has_ended (and-left (not a.has_ended) (a.child == child) passes);
      };
      is_its = eqb-true a.child child (and-right (not a.has_ended) (a.child == child) passes);
    }

-- what lives is found
pub live-link : (bound number : ℕ) (a : Link) (all : Surfaces) → IsForest bound all → IsLive number a all → link_of a.child all ≡ Some a
live-link bound number a all f live = at (link_of a.child all) refl
  where
    at : (o : Option Link) → link_of a.child all ≡ o → o ≡ Some a
    at None e =
        absurd (differ (sym (found-fails (is_link_of a.child) (λ l. l.number == number) all.links a live.here e)
        ∙ and_from (not a.has_ended) (a.child == a.child) (not_from_false a.has_ended live.lives) (same-number a.child)))
    at (Some b) e =
        let up = link-live bound a.child b all f e in
        sym up.live.here ∙ ap (λ n. link_at n all) (f.once b.number number b a up.live live up.is_its) ∙ live.here

-- a surface that is no child has no link
pub no-link : (bound child : ℕ) (all : Surfaces) → IsForest bound all → IsNoChild child all → link_of child all ≡ None
no-link bound child all f none = found-none (is_link_of child) all.links (λ a e. let up = link-live bound child a all f e in none a.number a up.live up.is_its)

-- ---- depth

pub depth-link : (n : ℕ) (all : Surfaces) (s : ℕ) (a : Link) → link_of s all ≡ Some a → depth (suc n) all s ≡ suc (depth n all a.parent)
unfolding depth
depth-link n all s a e = ap (of_parent 0 (λ parent. suc (depth n all parent))) e

pub depth-none : (n : ℕ) (all : Surfaces) (s : ℕ) → link_of s all ≡ None → depth n all s ≡ 0
unfolding depth
depth-none zero all s e = refl
depth-none (suc n) all s e = ap (of_parent 0 (λ parent. suc (depth n all parent))) e

depth-zero : (all : Surfaces) (s : ℕ) → depth zero all s ≡ 0
unfolding depth
depth-zero all s = refl

-- a parent's rank is below
pub climbs : (bound s : ℕ) (a : Link) (all : Surfaces) (f : IsForest bound all) → link_of s all ≡ Some a → f.rank a.parent < f.rank s
climbs bound s a all f e = let up = link-live bound s a all f e in subst (λ c. f.rank a.parent < f.rank c) up.is_its (f.rises a.number a up.live)

lower : (d e p r : ℕ) → d ≡ suc e → p < r → e ≤ p → d ≤ r
lower d e p r here less rest = omega arith

less-rest : (p r n : ℕ) → p < r → r < suc n → p < n
less-rest p r n less low = omega arith

pub depth-rank : (bound n s : ℕ) (all : Surfaces) (f : IsForest bound all) → depth n all s ≤ f.rank s
depth-rank bound zero s all f = let e = depth-zero all s in omega arith
depth-rank bound (suc n) s all f =
    by-link (depth (suc n) all s ≤ f.rank s) s all
    (λ e. let none = depth-none (suc n) all s e in omega arith)
    (λ a e. lower (depth (suc n) all s) (depth n all a.parent) (f.rank a.parent) (f.rank s) (depth-link n all s a e) (climbs bound s a all f e) (depth-rank bound n a.parent all f))

-- more levels are of no account
pub depth-stays : (bound n m s : ℕ) (all : Surfaces) (f : IsForest bound all) → f.rank s < n → f.rank s < m → depth n all s ≡ depth m all s
depth-stays bound zero m s all f a b = absurd (omega arith)
depth-stays bound (suc n) zero s all f a b = absurd (omega arith)
depth-stays bound (suc n) (suc m) s all f a b =
    by-link (depth (suc n) all s ≡ depth (suc m) all s) s all
    (λ e. depth-none (suc n) all s e ∙ sym (depth-none (suc m) all s e))
    (λ l e.
    let less = climbs bound s l all f e in
    let rest = depth-stays bound n m l.parent all f (less-rest (f.rank l.parent) (f.rank s) n less a) (less-rest (f.rank l.parent) (f.rank s) m less b) in
    depth-link n all s l e ∙ (ap suc rest ∙ sym (depth-link m all s l e)))

pub depth-step : (bound s : ℕ) (a : Link) (all : Surfaces) → IsForest bound all → link_of s all ≡ Some a → depth levels all s ≡ suc (depth levels all a.parent)
depth-step bound s a all f e =
    let less = climbs bound s a all f e in
    let low = f.low s in
    depth-link 16 all s a e ∙ ap suc (depth-stays bound 16 17 a.parent all f (omega arith) (omega arith))

pub depth-low : (bound s : ℕ) (all : Surfaces) → IsForest bound all → depth levels all s ≤ 16
depth-low bound s all f = let a = depth-rank bound levels s all f in let b = f.low s in omega arith

-- ---- descent

pub descends-link : (n : ℕ) (all : Surfaces) (top s : ℕ) (a : Link) → link_of s all ≡ Some a → descends_from (suc n) all top s ≡ (s == top || descends_from n all top a.parent)
unfolding descends_from
descends-link n all top s a e = ap (λ o. s == top || of_parent false (λ parent. descends_from n all top parent) o) e

pub descends-none : (n : ℕ) (all : Surfaces) (top s : ℕ) → link_of s all ≡ None → descends_from n all top s ≡ (s == top)
unfolding descends_from
descends-none zero all top s e = refl
descends-none (suc n) all top s e = ap (λ o. s == top || of_parent false (λ parent. descends_from n all top parent) o) e ∙ or-false (s == top)

pub descends-itself : (n : ℕ) (all : Surfaces) (top : ℕ) → descends_from n all top top ≡ true
unfolding descends_from
descends-itself zero all top = same-number top
descends-itself (suc n) all top = ap (λ b. b || of_parent false (λ parent. descends_from n all top parent) (link_of top all)) (same-number top)

pub descends-stays : (bound n m top s : ℕ) (all : Surfaces) (f : IsForest bound all) → f.rank s < n → f.rank s < m → descends_from n all top s ≡ descends_from m all top s
descends-stays bound zero m top s all f a b = absurd (omega arith)
descends-stays bound (suc n) zero top s all f a b = absurd (omega arith)
descends-stays bound (suc n) (suc m) top s all f a b =
    by-link (descends_from (suc n) all top s ≡ descends_from (suc m) all top s) s all
    (λ e. descends-none (suc n) all top s e ∙ sym (descends-none (suc m) all top s e))
    (λ l e.
    let less = climbs bound s l all f e in
    let rest = descends-stays bound n m top l.parent all f (less-rest (f.rank l.parent) (f.rank s) n less a) (less-rest (f.rank l.parent) (f.rank s) m less b) in
    descends-link n all top s l e ∙ (ap (λ d. s == top || d) rest ∙ sym (descends-link m all top s l e)))

pub descends-step : (bound top s : ℕ) (a : Link) (all : Surfaces) → IsForest bound all → link_of s all ≡ Some a → descends_from levels all top s ≡ (s == top || descends_from levels all top a.parent)
descends-step bound top s a all f e =
    let less = climbs bound s a all f e in
    let low = f.low s in
    descends-link 16 all top s a e ∙ ap (λ d. s == top || d) (descends-stays bound 16 17 top a.parent all f (omega arith) (omega arith))

-- ---- height

max-first : (a b : ℕ) → a ≤ max a b
max-first a b = omega arith

max-second : (a b : ℕ) → b ≤ max a b
max-second a b = omega arith

-- what was reached stays
fold-more : (g : ℕ → ℕ) (start : ℕ) (xs : List ℕ) → start ≤ fold (λ most x. max most (suc (g x))) start xs
fold-more g start [] = omega arith
fold-more g start (x ∷ xs) = let a = max-first start (suc (g x)) in let b = fold-more g (max start (suc (g x))) xs in omega (arith, a, b)

abbrev most_of : (ℕ → ℕ) → (Link → Bool) → ℕ → List Link → ℕ
most_of g q start ls = fold (λ most x. max most (suc (g x))) start (map (λ (l : Link). l.child) (filter q ls))

-- the first of a list counts, if it passes
most-here : (g : ℕ → ℕ) (q : Link → Bool) (start : ℕ) (l : Link) (ls : List Link) → q l ≡ true → suc (g l.child) ≤ most_of g q start (l ∷ ls)
most-here g q start l ls is =
    subst (λ b. suc (g l.child) ≤ fold (λ most x. max most (suc (g x))) start (map (λ (l : Link). l.child) (cond b (l ∷ filter q ls) (filter q ls)))) (sym is)
    (reached (max-second start (suc (g l.child))) (fold-more g (max start (suc (g l.child))) (map (λ (l : Link). l.child) (filter q ls))))
  where
    reached : {a b c : ℕ} → a ≤ b → b ≤ c → a ≤ c
    reached e f = omega arith

most-later : (g : ℕ → ℕ) (q : Link → Bool) (least start : ℕ) (l : Link) (ls : List Link) → ((from : ℕ) → least ≤ most_of g q from ls) → least ≤ most_of g q start (l ∷ ls)
most-later g q least start l ls rest = at (q l)
  where
    at : (b : Bool) → least ≤ fold (λ most x. max most (suc (g x))) start (map (λ (l : Link). l.child) (cond b (l ∷ filter q ls) (filter q ls)))
    at true = rest (max start (suc (g l.child)))
    at false = rest start

most-there : (g : ℕ → ℕ) (p q : Link → Bool) (a : Link) (start : ℕ) (ls : List Link) → find p ls ≡ Some a → q a ≡ true → suc (g a.child) ≤ most_of g q start ls
most-there g p q a start [] found is = absurd (cc)
most-there g p q a start (l ∷ ls) found is =
    at (p l) found (λ e. most-later g q (suc (g a.child)) start l ls (λ from. most-there g p q a from ls e is))
  where
    at : (b : Bool) → cond b (Some l) (find p ls) ≡ Some a → (find p ls ≡ Some a → suc (g a.child) ≤ most_of g q start (l ∷ ls)) → suc (g a.child) ≤ most_of g q start (l ∷ ls)
    at true e rest = let same = same_Some l a e in subst (λ (x : Link). suc (g x.child) ≤ most_of g q start (l ∷ ls)) same (most-here g q start l ls (ap q same ∙ is))
    at false e rest = rest e

height-over : (n : ℕ) (all : Surfaces) (s : ℕ) → height (suc n) all s ≡ most_of (λ c. height n all c) (λ l. not l.has_ended && l.parent == s) 0 all.links
unfolding height
height-over n all s = refl

-- A child adds a level to what stands below its parent.
pub height-step : (bound n s : ℕ) (a : Link) (all : Surfaces) → IsForest bound all → link_of s all ≡ Some a → suc (height n all s) ≤ height (suc n) all a.parent
height-step bound n s a all f e =
    let up = link-live bound s a all f e in
    let there =
    most-there (λ c. height n all c) (λ l. l.number == a.number) (λ l. not l.has_ended && l.parent == a.parent) a 0 all.links up.live.here
    (and_from (not a.has_ended) (a.parent == a.parent) (not_from_false a.has_ended up.live.lives) (same-number a.parent)) in
    subst (λ h. suc h ≤ height (suc n) all a.parent) (ap (height n all) up.is_its) (subst (λ h. suc (height n all a.child) ≤ h) (sym (height-over n all a.parent)) there)

nothing-above : (d m k x y : ℕ) → d ≡ 0 → x ≡ y → d + x ≤ y
nothing-above d m k x y e f = omega arith

same-levels : (d m k : ℕ) → d ≡ 0 → d + m ≡ k → m ≡ k
same-levels d m k e f = omega arith

at-top : (top s m k : ℕ) (all : Surfaces) → depth levels all top ≡ 0 → depth levels all s + m ≡ k → (s == top) ≡ true → depth levels all s + height m all s ≤ height k all top
at-top top s m k all root sum is =
    let same = eqb-true s top is in
    let here = ap (depth levels all) same ∙ root in
    let high : height m all s ≡ height k all top = ap (λ n. height n all s) (same-levels (depth levels all s) m k here sum) ∙ ap (height k all) same in
    nothing-above (depth levels all s) m k (height m all s) (height k all top) here high

level-up : (d p m k : ℕ) → d ≡ suc p → d + m ≡ k → p + suc m ≡ k
level-up d p m k e f = omega arith

level-down : (d p x y z : ℕ) → d ≡ suc p → suc x ≤ y → p + y ≤ z → d + x ≤ z
level-down d p x y z e f g = omega arith

-- What descends from a surface without a parent stands no deeper than that surface is high.
pub within-height : (bound n top s m k : ℕ) (all : Surfaces) → IsForest bound all → depth levels all top ≡ 0 → depth levels all s + m ≡ k → descends_from n all top s ≡ true
    → depth levels all s + height m all s ≤ height k all top
unfolding descends_from
within-height bound zero top s m k all f root sum descends = at-top top s m k all root sum descends
within-height bound (suc n) top s m k all f root sum descends =
    by-link (depth levels all s + height m all s ≤ height k all top) s all
    (λ e. at-top top s m k all root sum (sym (descends-none (suc n) all top s e) ∙ descends))
    (λ a e. at a e (or_cases (s == top) (descends_from n all top a.parent) (sym (descends-link n all top s a e) ∙ descends)) (within-height bound n top a.parent (suc m) k all f root))
  where
    at : (a : Link) → link_of s all ≡ Some a → ((s == top) ≡ true) ⊎ (descends_from n all top a.parent ≡ true) → (depth levels all a.parent + suc m ≡ k → descends_from n all top a.parent ≡ true
        → depth levels all a.parent + height (suc m) all a.parent ≤ height k all top) → depth levels all s + height m all s ≤ height k all top
    at a e (inl is) rest = at-top top s m k all root sum is
    at a e (inr is) rest =
        let step = depth-step bound s a all f e in
        level-down (depth levels all s) (depth levels all a.parent) (height m all s) (height (suc m) all a.parent) (height k all top) step (height-step bound m s a all f e)
        (rest (level-up (depth levels all s) (depth levels all a.parent) m k step sum) is)

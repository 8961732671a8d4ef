-- What is read of the surfaces of a client is the same under other names.
use Rattle.std.proofs.Common.{◌≡◌, ℕ, zero, suc, ◌+◌, ◌==◌, ◌&&◌, ◌||◌, Bool, true, false, not, max, Option, Some, None, List, map, refl, ap, ap₂, sym, ◌∙◌, eqb-true, eq-eqb, ne_eqb}
use Rattle.std.specs.Prelude.{filter, fold, nat_lt}
use Rattle.std.specs.List.{AllByRecursion as Each}
use Rattle.std.specs.Option.{option_map}
use Rattle.std.proofs.lemmas.Bool.{eqb-false}
use Rattle.wl_surface.specs.Surface.{Surface}
use Rattle.wl_surface.specs.Surfaces.{Link, Surfaces, history_in, link_at, surface_at}
use Rattle.wl_surface.specs.Trees.{behaves_synchronised, children_of, depth, descends_from, height, is_bad_parent, is_too_deep, levels, link_of, of_parent}
use Rattle.law_desktop.specs.Renaming.{has_surface, renamed, renamed_link, renamed_surface}
use Rattle.law_desktop.proofs.ByNames.Names.Lists.{each-filtered, each-from, each-mapped, each-weaker, filter-mapped, find-mapped, fold-mapped, found, map-both}

-- a link that lives is between surfaces that are known
abbrev pub IsBetween : (ℕ → Bool) → Link → Type 0
IsBetween known l = l.has_ended ≡ false → (known l.child ≡ true) × (known l.parent ≡ true)

-- The surfaces are those that are known, of which no two get the same name.
pub record Knows (f : ℕ → ℕ) (known : ℕ → Bool) (all : Surfaces) : Type 0 where
  pub apart : (a b : ℕ) → known a ≡ true → known b ≡ true → f a ≡ f b → a ≡ b
  pub named : Each (λ (s : Surface). known s.id ≡ true) all.surfaces
  pub there : (a : ℕ) → known a ≡ true → has_surface a all ≡ true
  pub ends : Each (IsBetween known) all.links

-- ---- names and links

pub same-name : {f : ℕ → ℕ} {known : ℕ → Bool} {all : Surfaces} → Knows f known all → (a b : ℕ) → known a ≡ true → known b ≡ true → (f a == f b) ≡ (a == b)
same-name {f} k a b here there = at (a == b) refl
  where
    at : (c : Bool) → (a == b) ≡ c → (f a == f b) ≡ (a == b)
    at true e = eq-eqb (f a) (f b) (ap f (eqb-true a b e)) ∙ sym e
    at false e = ne_eqb (f a) (f b) (λ same. eqb-false a b e (k.apart a b here there same)) ∙ sym e

pub if-lives : (ended a b : Bool) → (ended ≡ false → a ≡ b) → (not ended && a) ≡ (not ended && b)
if-lives true a b same = refl
if-lives false a b same = same refl

pub lives-of : (ended b : Bool) → (not ended && b) ≡ true → ended ≡ false
lives-of true b e = absurd (cc)
lives-of false b e = refl

pub surface-renamed : {f : ℕ → ℕ} {known : ℕ → Bool} {all : Surfaces} → Knows f known all → (id : ℕ) → known id ≡ true
    → surface_at (f id) (renamed f all) ≡ option_map (renamed_surface f) (surface_at id all)
surface-renamed {f} {known} {all} k id there =
    find-mapped (λ (s : Surface). s.id == id) (λ (s : Surface). s.id == f id) (renamed_surface f) all.surfaces
    (each-weaker (λ (s : Surface). known s.id ≡ true) (λ (s : Surface). (f s.id == f id) ≡ (s.id == id)) (λ s here. same-name k s.id id here there) all.surfaces k.named)

pub history-renamed : {f : ℕ → ℕ} {known : ℕ → Bool} {all : Surfaces} → Knows f known all → (id : ℕ) → known id ≡ true
    → history_in (f id) (renamed f all) ≡ history_in id all
history-renamed {f} {known} {all} k id there = ap (option_map (λ (s : Surface). s.history)) (surface-renamed k id there) ∙ at (surface_at id all)
  where
    at : (o : Option Surface) → option_map (λ (s : Surface). s.history) (option_map (renamed_surface f) o) ≡ option_map (λ (s : Surface). s.history) o
    at None = refl
    at (Some s) = refl

pub link-renamed : (f : ℕ → ℕ) (all : Surfaces) (number : ℕ) → link_at number (renamed f all) ≡ option_map (renamed_link f) (link_at number all)
link-renamed f all number =
    find-mapped (λ (l : Link). l.number == number) (λ (l : Link). l.number == number) (renamed_link f) all.links
    (each-from (λ (l : Link). (l.number == number) ≡ (l.number == number)) (λ l. refl) all.links)

pub live-renamed : {f : ℕ → ℕ} {known : ℕ → Bool} {all : Surfaces} → Knows f known all → (id : ℕ) → known id ≡ true
    → link_of (f id) (renamed f all) ≡ option_map (renamed_link f) (link_of id all)
live-renamed {f} {known} {all} k id there =
    find-mapped (λ (l : Link). not l.has_ended && l.child == id) (λ (l : Link). not l.has_ended && l.child == f id) (renamed_link f) all.links
    (each-weaker (IsBetween known) (λ (l : Link). (not l.has_ended && f l.child == f id) ≡ (not l.has_ended && l.child == id))
    (λ l between. if-lives l.has_ended (f l.child == f id) (l.child == id) (λ lives. same-name k l.child id (between lives).0 there)) all.links k.ends)

pub children-renamed : {f : ℕ → ℕ} {known : ℕ → Bool} {all : Surfaces} → Knows f known all → (id : ℕ) → known id ≡ true
    → children_of (f id) (renamed f all) ≡ map f (children_of id all)
children-renamed {f} {known} {all} k id there =
    ap (map (λ (l : Link). l.child))
    (filter-mapped (λ (l : Link). not l.has_ended && l.parent == id) (λ (l : Link). not l.has_ended && l.parent == f id) (renamed_link f) all.links
    (each-weaker (IsBetween known) (λ (l : Link). (not l.has_ended && f l.parent == f id) ≡ (not l.has_ended && l.parent == id))
    (λ l between. if-lives l.has_ended (f l.parent == f id) (l.parent == id) (λ lives. same-name k l.parent id (between lives).1 there)) all.links k.ends))
    ∙ map-both (renamed_link f) (λ (l : Link). l.child) (λ (l : Link). l.child) f kept (each-from (λ (l : Link). f l.child ≡ f l.child) (λ l. refl) kept)
  where
    kept : List Link
    kept = filter (λ (l : Link). not l.has_ended && l.parent == id) all.links

pub children-known : {f : ℕ → ℕ} {known : ℕ → Bool} {all : Surfaces} → Knows f known all → (id : ℕ) → Each (λ (c : ℕ). known c ≡ true) (children_of id all)
children-known {f} {known} {all} k id =
    each-mapped (λ (c : ℕ). known c ≡ true) (λ (l : Link). l.child) (filter below all.links)
    (each-weaker (λ (l : Link). IsBetween known l × (below l ≡ true)) (λ (l : Link). known l.child ≡ true)
    (λ l both. (both.0 (lives-of l.has_ended (l.parent == id) both.1)).0) (filter below all.links) (each-filtered below (IsBetween known) all.links k.ends))
  where
    below : Link → Bool
    below l = not l.has_ended && l.parent == id

pub parent-known : {f : ℕ → ℕ} {known : ℕ → Bool} {all : Surfaces} → Knows f known all → (id : ℕ) (l : Link) → link_of id all ≡ Some l → known l.parent ≡ true
parent-known {f} {known} {all} k id l e =
    let both = found (λ (l : Link). not l.has_ended && l.child == id) (IsBetween known) all.links k.ends l e in
    (both.0 (lives-of l.has_ended (l.child == id) both.1)).1

-- ---- the shapes of trees

of-parent-renamed : {X : Type 0} (f : ℕ → ℕ) (known : ℕ → Bool) (none : X) (g h : ℕ → X) → ((parent : ℕ) → known parent ≡ true → g (f parent) ≡ h parent)
    → (o : Option Link) → ((l : Link) → o ≡ Some l → known l.parent ≡ true) → of_parent none g (option_map (renamed_link f) o) ≡ of_parent none h o
of-parent-renamed f known none g h same None there = refl
of-parent-renamed f known none g h same (Some l) there = same l.parent (there l refl)

pub depth-renamed : {f : ℕ → ℕ} {known : ℕ → Bool} {all : Surfaces} → Knows f known all → (n id : ℕ) → known id ≡ true → depth n (renamed f all) (f id) ≡ depth n all id
unfolding depth
depth-renamed k zero id there = refl
depth-renamed {f} {known} {all} k (suc n) id there =
    ap (of_parent {X = ℕ} 0 (λ parent. suc (depth n (renamed f all) parent))) (live-renamed k id there)
    ∙ of-parent-renamed {X = ℕ} f known 0 (λ parent. suc (depth n (renamed f all) parent)) (λ parent. suc (depth n all parent)) (λ parent is. ap suc (depth-renamed k n parent is))
    (link_of id all) (parent-known k id)

pub height-renamed : {f : ℕ → ℕ} {known : ℕ → Bool} {all : Surfaces} → Knows f known all → (n id : ℕ) → known id ≡ true → height n (renamed f all) (f id) ≡ height n all id
unfolding height
height-renamed k zero id there = refl
height-renamed {f} {known} {all} k (suc n) id there =
    ap (fold (λ (most child : ℕ). max most (suc (height n (renamed f all) child))) 0) (children-renamed k id there)
    ∙ (fold-mapped (λ (most child : ℕ). max most (suc (height n all child))) (λ (most child : ℕ). max most (suc (height n (renamed f all) child))) (λ (m : ℕ). m) f
    (λ (m : ℕ). Unit {0}) (λ (c : ℕ). known c ≡ true) (λ most child good is. (tt, ap (λ (m : ℕ). max most (suc m)) (height-renamed k n child is)))
    (children_of id all) (children-known k id) 0 tt).1

pub descent-renamed : {f : ℕ → ℕ} {known : ℕ → Bool} {all : Surfaces} → Knows f known all → (n top id : ℕ) → known top ≡ true → known id ≡ true
    → descends_from n (renamed f all) (f top) (f id) ≡ descends_from n all top id
unfolding descends_from
descent-renamed k zero top id above there = same-name k id top there above
descent-renamed {f} {known} {all} k (suc n) top id above there =
    ap₂ (λ (a b : Bool). a || b) (same-name k id top there above)
    (ap (of_parent false (λ parent. descends_from n (renamed f all) (f top) parent)) (live-renamed k id there)
    ∙ of-parent-renamed f known false (λ parent. descends_from n (renamed f all) (f top) parent) (λ parent. descends_from n all top parent)
    (λ parent is. descent-renamed k n top parent above is) (link_of id all) (parent-known k id))

pub mode-renamed : {f : ℕ → ℕ} {known : ℕ → Bool} {all : Surfaces} → Knows f known all → (n id : ℕ) → known id ≡ true
    → behaves_synchronised n (renamed f all) (f id) ≡ behaves_synchronised n all id
unfolding behaves_synchronised
mode-renamed k zero id there = refl
mode-renamed {f} {known} {all} k (suc n) id there = at (link_of id all) refl (live-renamed k id there) (λ parent is. mode-renamed k n parent is)
  where
    at : (o : Option Link) → link_of id all ≡ o → link_of (f id) (renamed f all) ≡ option_map (renamed_link f) o
        → ((parent : ℕ) → known parent ≡ true → behaves_synchronised n (renamed f all) (f parent) ≡ behaves_synchronised n all parent)
        → behaves_synchronised (suc n) (renamed f all) (f id) ≡ behaves_synchronised (suc n) all id
    at None e r same = rw (e, r) refl
    at (Some l) e r same = rw (e, r) (ap (λ b. l.synchronised || b) (same l.parent (parent-known k id l e)))

pub too-deep-renamed : {f : ℕ → ℕ} {known : ℕ → Bool} {all : Surfaces} → Knows f known all → (child parent : ℕ) → known child ≡ true → known parent ≡ true
    → is_too_deep (renamed f all) (f child) (f parent) ≡ is_too_deep all child parent
too-deep-renamed k child parent below above =
    ap₂ (λ (m n : ℕ). nat_lt 16 (m + 1 + n)) (depth-renamed k levels parent above) (height-renamed k levels child below)

pub bad-parent-renamed : {f : ℕ → ℕ} {known : ℕ → Bool} {all : Surfaces} → Knows f known all → (child parent : ℕ) → known child ≡ true → known parent ≡ true
    → is_bad_parent (renamed f all) (f child) (f parent) ≡ is_bad_parent all child parent
bad-parent-renamed k child parent below above = descent-renamed k levels child parent below above

-- A list and the whole stack that it stands for change alike, and the surface itself stays in it.
use Rattle.std.proofs.Common.{◌≡◌, ℕ, ℤ, Bool, true, false, not, List, [], ◌∷◌, ◌++◌, Option, Some, None, cond, ◌||◌, refl, ap, ◌∙◌, arith, drop, length, take}
use Rattle.std.proofs.lemmas.List.{take-append-le, take_all}
use Rattle.std.proofs.lemmas.Bool.{false≢true}
use Rattle.std.specs.Prelude.{find}
use Rattle.std.specs.Option.{option_map_or}
use Rattle.std.proofs.lemmas.Map.Views.{any-filter_same}
use Rattle.wl_links.specs.declared.placed.Member.{Member}
use Rattle.wl_links.specs.declared.placed.Member.TheVariants.{Itself, Child}
use Rattle.wl_links.specs.declared.placed.Placed.{Placed}
use Rattle.wl_links.specs.declared.placed.Side.{Side}
use Rattle.wl_links.specs.declared.placed.Side.TheVariants.{Above, Below}
use Rattle.wl_links.specs.Stacks.{above, below, beside, has_member, is_member, is_of, moved, moved_beside, moved_place, placed, whole, without}

-- a list with the surface itself is the whole stack
pub whole-there : (ps : List Placed) → has_member Itself ps ≡ true → whole ps ≡ ps
whole-there [] has = absurd (false≢true has)
whole-there (p ∷ ps) has = refl

or-right : (a b : Bool) → b ≡ true → (a || b) ≡ true
or-right true b e = refl
or-right false b e = e

-- ---- a child is taken out

not-child : (child : ℕ) (p : Placed) → is_of Itself p ≡ true → not (is_of (Child child) p) ≡ true
not-child child p is = at p.member is
  where
    at : (m : Member) → is_member Itself m ≡ true → not (is_member (Child child) m) ≡ true
    at Itself e = refl
    at (Child k) e = absurd (false≢true e)

pub has-without : (child : ℕ) (ps : List Placed) → has_member Itself ps ≡ true → has_member Itself (without (Child child) ps) ≡ true
has-without child ps has = any-filter_same (is_of Itself) (λ p. not (is_of (Child child) p)) true (not-child child) ps ∙ has

pub has-whole_without : (child : ℕ) (ps : List Placed) → has_member Itself (whole ps) ≡ true → has_member Itself (whole (without (Child child) ps)) ≡ true
has-whole_without child [] has = refl
has-whole_without child (p ∷ ps) has =
    ap (λ (qs : List Placed). has_member Itself qs) (whole-there (without (Child child) (p ∷ ps)) (has-without child (p ∷ ps) has)) ∙ has-without child (p ∷ ps) has

pub whole-without : (child : ℕ) (ps : List Placed) → has_member Itself (whole ps) ≡ true → whole (without (Child child) ps) ≡ without (Child child) (whole ps)
whole-without child [] has = refl
whole-without child (p ∷ ps) has = whole-there (without (Child child) (p ∷ ps)) (has-without child (p ∷ ps) has)

-- ---- a child is moved

moved-member : (child : ℕ) (x y : ℤ) (p : Placed) → (moved_place child x y p).member ≡ p.member
moved-member child x y p = at (is_of (Child child) p)
  where
    at : (b : Bool) → (cond b (record p { x = x; y = y }) p).member ≡ p.member
    at true = refl
    at false = refl

whole-moved : (child : ℕ) (x y : ℤ) (ps : List Placed) → whole (moved child x y ps) ≡ moved child x y (whole ps)
whole-moved child x y [] = refl
whole-moved child x y (p ∷ ps) = refl

has-moved : (m : Member) (child : ℕ) (x y : ℤ) (ps : List Placed) → has_member m (moved child x y ps) ≡ has_member m ps
has-moved m child x y [] = refl
has-moved m child x y (p ∷ ps) =
    ap (λ (n : Member). is_member m n || has_member m (moved child x y ps)) (moved-member child x y p) ∙ ap (λ b. is_of m p || b) (has-moved m child x y ps)

has-whole_moved : (child : ℕ) (x y : ℤ) (ps : List Placed) → has_member Itself (whole ps) ≡ true → has_member Itself (whole (moved child x y ps)) ≡ true
has-whole_moved child x y ps has =
    ap (λ (qs : List Placed). has_member Itself qs) (whole-moved child x y ps) ∙ (has-moved Itself child x y (whole ps) ∙ has)

-- a list that was moved is written over the old one
pub has-written : (child : ℕ) (x y : ℤ) (n : ℕ) (new read old : List Placed) → new ≡ moved child x y read → read ≡ old → length new ≡ n → has_member Itself (whole old) ≡ true
    → has_member Itself (whole (take n (new ++ drop (length new) old))) ≡ true
has-written child x y n new read old is same long has =
    ap (λ (ps : List Placed). has_member Itself (whole ps)) (written ∙ (is ∙ ap (λ (ps : List Placed). moved child x y ps) same)) ∙ has-whole_moved child x y old has
  where
    written : take n (new ++ drop (length new) old) ≡ new
    written = take-append-le n new (drop (length new) old) (omega (arith, long)) ∙ take_all n new (omega (arith, long))

-- ---- a child comes beside a member

or-between : (a b c : Bool) → (a || c) ≡ true → (a || (b || c)) ≡ true
or-between true b c e = refl
or-between false true c e = refl
or-between false false c e = e

or-later : (a c d : Bool) → (c ≡ true → d ≡ true) → (a || c) ≡ true → (a || d) ≡ true
or-later true c d on e = refl
or-later false c d on e = on e

has-above : (m at : Member) (p : Placed) (ps : List Placed) → has_member m ps ≡ true → has_member m (above p at ps) ≡ true
has-above m at p [] has = has
has-above m at p (x ∷ xs) has = step (is_of at x) (has-above m at p xs)
  where
    step : (b : Bool) → (has_member m xs ≡ true → has_member m (above p at xs) ≡ true) → has_member m (cond b (x ∷ p ∷ xs) (x ∷ above p at xs)) ≡ true
    step true on = or-between (is_of m x) (is_of m p) (has_member m xs) has
    step false on = or-later (is_of m x) (has_member m xs) (has_member m (above p at xs)) on has

has-below : (m at : Member) (p : Placed) (ps : List Placed) → has_member m ps ≡ true → has_member m (below p at ps) ≡ true
has-below m at p [] has = has
has-below m at p (x ∷ xs) has = step (is_of at x) (has-below m at p xs)
  where
    step : (b : Bool) → (has_member m xs ≡ true → has_member m (below p at xs) ≡ true) → has_member m (cond b (p ∷ x ∷ xs) (x ∷ below p at xs)) ≡ true
    step true on = or-right (is_of m p) (has_member m (x ∷ xs)) has
    step false on = or-later (is_of m x) (has_member m xs) (has_member m (below p at xs)) on has

has-beside : (side : Side) (m at : Member) (p : Placed) (ps : List Placed) → has_member m ps ≡ true → has_member m (beside side p at ps) ≡ true
has-beside Above m at p ps has = has-above m at p ps has
has-beside Below m at p ps has = has-below m at p ps has

has-placed : (side : Side) (child : ℕ) (at : Member) (ps : List Placed) → has_member Itself ps ≡ true → has_member Itself (placed (beside side) child at ps) ≡ true
has-placed side child at ps has = found (find (is_of (Child child)) ps)
  where
    put : (p : Placed) (b : Bool) → has_member Itself (cond b (beside side p at (without (Child child) ps)) ps) ≡ true
    put p true = has-beside side Itself at p (without (Child child) ps) (has-without child ps has)
    put p false = has

    found : (o : Option Placed) → has_member Itself (option_map_or (moved_beside (beside side) child at ps) o ps) ≡ true
    found None = has
    found (Some p) = put p (has_member at (without (Child child) ps))

pub whole-placed : (side : Side) (child : ℕ) (at : Member) (ps : List Placed) → has_member Itself (whole ps) ≡ true
    → whole (placed (beside side) child at ps) ≡ placed (beside side) child at (whole ps)
whole-placed side child at [] has = refl
whole-placed side child at (p ∷ ps) has = whole-there (placed (beside side) child at (p ∷ ps)) (has-placed side child at (p ∷ ps) has)

pub has-whole_placed : (side : Side) (child : ℕ) (at : Member) (ps : List Placed) → has_member Itself (whole ps) ≡ true
    → has_member Itself (whole (placed (beside side) child at ps)) ≡ true
has-whole_placed side child at ps has =
    ap (λ (qs : List Placed). has_member Itself qs) (whole-placed side child at ps has) ∙ has-placed side child at (whole ps) has

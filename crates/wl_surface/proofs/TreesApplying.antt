-- Applying a surface applies each surface that descends from it.
use Rattle.std.proofs.Common.{◌≡◌, ℕ, zero, suc, ◌||◌, ◌&&◌, ◌==◌, Bool, true, false, cond, Option, Some, None, List, ◌∷◌, map, refl, ap, ◌∙◌, arith, []}
use Rattle.std.specs.Prelude.{filter, find, fold, not}
use Rattle.std.specs.List.{list_any}
use Rattle.wl_surface.specs.Surface.{Surface, applying}
use Rattle.wl_surface.specs.Surfaces.{Link, Surfaces, with_change}
use Rattle.wl_surface.specs.Trees.{applied_tree, children_of, descends_from, link_of, of_parent}
use Rattle.wl_surface.specs.TreeLaws.{AppliesDescendants, AreOnceLinked, applied_where, is_live_of}

-- ---- what is applied where

applied-one : (p q : Bool) (s : Surface) → cond q (applying (cond p (applying s) s)) (cond p (applying s) s) ≡ cond (p || q) (applying s) s
applied-one true true s = refl
applied-one true false s = refl
applied-one false true s = refl
applied-one false false s = refl

pub same-id : (p : Bool) (s : Surface) → (cond p (applying s) s).id ≡ s.id
same-id true s = refl
same-id false s = refl

-- Applying these and then those applies both.
pub applied-both : (p q : ℕ → Bool) (xs : List Surface)
    → map (λ (s : Surface). cond (q s.id) (applying s) s) (map (λ (s : Surface). cond (p s.id) (applying s) s) xs) ≡ map (λ (s : Surface). cond (p s.id || q s.id) (applying s) s) xs
applied-both p q [] = refl
applied-both p q (x ∷ xs) =
    let here = ap (λ (n : ℕ). cond (q n) (applying (cond (p x.id) (applying x) x)) (cond (p x.id) (applying x) x)) (same-id (p x.id) x) ∙ applied-one (p x.id) (q x.id) x in
    rw here (ap (λ (ys : List Surface). cond (p x.id || q x.id) (applying x) x ∷ ys) (applied-both p q xs))

applied-same : (p q : ℕ → Bool) → ((id : ℕ) → p id ≡ q id) → (xs : List Surface) → map (λ (s : Surface). cond (p s.id) (applying s) s) xs ≡ map (λ (s : Surface). cond (q s.id) (applying s) s) xs
applied-same p q same [] = refl
applied-same p q same (x ∷ xs) = rw (same x.id) (ap (λ (ys : List Surface). cond (q x.id) (applying x) x ∷ ys) (applied-same p q same xs))

-- ---- descent, seen from above

-- a child of this surface, by a living link
abbrev pub is_below : ℕ → Link → Bool
is_below top l = not l.has_ended && l.parent == top

any-cons : (b : Bool) (p : ℕ → Bool) (n : ℕ) (ns : List ℕ) (rest : Bool) → list_any p ns ≡ rest → list_any p (cond b (n ∷ ns) ns) ≡ ((b && p n) || rest)
any-cons true p n ns rest e = ap (λ b. p n || b) e
any-cons false p n ns rest e = e

mapped-cons : (b : Bool) (l : Link) (ls : List Link) → map (λ (k : Link). k.child) (cond b (l ∷ ls) ls) ≡ cond b (l.child ∷ map (λ (k : Link). k.child) ls) (map (λ (k : Link). k.child) ls)
mapped-cons true l ls = refl
mapped-cons false l ls = refl

-- a child of these links with the property
child-any : (top : ℕ) (p : ℕ → Bool) (ls : List Link) → list_any p (map (λ (l : Link). l.child) (filter (is_below top) ls)) ≡ list_any (λ l. is_below top l && p l.child) ls
child-any top p [] = refl
child-any top p (l ∷ ls) =
    ap (list_any p) (mapped-cons (is_below top l) l (filter (is_below top) ls))
    ∙ any-cons (is_below top l) p l.child (map (λ (k : Link). k.child) (filter (is_below top) ls)) _ (child-any top p ls)

-- the living link of a child is to this parent
abbrev pub is_child : ℕ → ℕ → Link → Bool
is_child top child l = is_below top l && child == l.child

no-child : (ended same below : Bool) (rest : Bool) → ((not ended && same) || rest) ≡ false → ((not ended && below) && same) ≡ false
no-child true same below rest none = refl
no-child false true below rest none = absurd (cc)
no-child false false true rest none = refl
no-child false false false rest none = refl

or-later : (a b : Bool) → (a || b) ≡ false → b ≡ false
or-later false b e = e
or-later true b e = absurd (cc)

both-none : (a b : Bool) → a ≡ false → b ≡ false → (a || b) ≡ false
both-none a b e f = rw (e, f) refl

same-number : (m n : ℕ) → (m == n) ≡ (n == m)
same-number m n = grind (arith)

-- No link of the child lives, so none is to this parent.
none-below : (top child : ℕ) (ls : List Link) → list_any (is_live_of child) ls ≡ false → list_any (is_child top child) ls ≡ false
none-below top child [] none = refl
none-below top child (l ∷ ls) none =
    both-none _ _ (ap (λ b. is_below top l && b) (same-number child l.child) ∙ no-child l.has_ended (l.child == child) (l.parent == top) (list_any (is_live_of child) ls) none)
    (none-below top child ls (or-later _ _ none))

found-child : (top child : ℕ) (l : Link) (ls : List Link) (ended same : Bool) → l.has_ended ≡ ended → (l.child == child) ≡ same
    → (l.has_ended ≡ false → list_any (is_live_of l.child) ls ≡ false)
    → list_any (is_child top child) ls ≡ of_parent false (λ parent. parent == top) (find (is_live_of child) ls)
    → list_any (is_child top child) (l ∷ ls) ≡ of_parent false (λ parent. parent == top) (find (is_live_of child) (l ∷ ls))
found-child top child l ls true same e f once later = rw e later
found-child top child l ls false false e f once later =
    let other = same-number child l.child ∙ f in
    rw (e, f, other) (and-false (l.parent == top) later)
  where
    and-false : (b : Bool) {rest found : Bool} → rest ≡ found → ((b && false) || rest) ≡ found
    and-false true r = r
    and-false false r = r
found-child top child l ls false true e f once later =
    let here = same-number child l.child ∙ f in
    let it : l.child ≡ child = grind (arith, f) in
    let none = none-below top child ls (rw it at once e) in
    rw (e, f, here, none) (or-none (l.parent == top))
  where
    or-none : (b : Bool) → ((b && true) || false) ≡ b
    or-none true = refl
    or-none false = refl

-- A surface is a child of another exactly if that is its parent by its link.
pub child-of : (top child : ℕ) (ls : List Link) → AreOnceLinked ls
    → list_any (is_child top child) ls ≡ of_parent false (λ parent. parent == top) (find (is_live_of child) ls)
child-of top child [] once = refl
child-of top child (l ∷ ls) once = found-child top child l ls l.has_ended (l.child == child) refl refl once.0 (child-of top child ls once.1)

-- ---- descent, by children and by parents

or-four : (a b c d : Bool) → ((a || b) || (c || d)) ≡ ((a || c) || (b || d))
or-four true b c d = refl
or-four false true true d = refl
or-four false true false d = refl
or-four false false c d = refl

any-either : (p q : ℕ → Bool) (ns : List ℕ) → list_any (λ n. p n || q n) ns ≡ (list_any p ns || list_any q ns)
any-either p q [] = refl
any-either p q (n ∷ ns) = ap (λ b. (p n || q n) || b) (any-either p q ns) ∙ or-four (p n) (q n) (list_any p ns) (list_any q ns)

any-none : (ns : List ℕ) → list_any (λ n. false) ns ≡ false
any-none [] = refl
any-none (n ∷ ns) = any-none ns

-- its parent is this surface, or descends from it
abbrev pub by_parent : ℕ → Surfaces → ℕ → Option Link → Bool
by_parent n all top o = of_parent false (λ parent. descends_from n all top parent) o

-- the surface descends from a child of this one
abbrev pub by_child : ℕ → Surfaces → ℕ → ℕ → Bool
by_child n all top surface = list_any (λ child. descends_from n all child surface) (children_of top all)

pub descends-once : (all : Surfaces) → AreOnceLinked all.links → (top surface : ℕ)
    → list_any (λ child. surface == child) (children_of top all) ≡ of_parent false (λ parent. parent == top) (link_of surface all)
descends-once all once top surface = child-any top (λ child. surface == child) all.links ∙ child-of top surface all.links once

descends-next : (n : ℕ) (all : Surfaces) (top surface : ℕ) (o : Option Link)
    → list_any (λ child. surface == child) (children_of top all) ≡ of_parent false (λ parent. parent == top) o
    → ((parent : ℕ) → by_child n all top parent ≡ by_parent n all top (link_of parent all))
    → list_any (λ child. surface == child || of_parent false (λ parent. descends_from n all child parent) o) (children_of top all) ≡ by_parent (suc n) all top o
unfolding descends_from
descends-next n all top surface None first later =
    any-either (λ child. surface == child) (λ child. false) (children_of top all) ∙ ap (λ b. b || list_any (λ child. false) (children_of top all)) first ∙ any-none (children_of top all)
descends-next n all top surface (Some l) first later =
    any-either (λ child. surface == child) (λ child. descends_from n all child l.parent) (children_of top all)
    ∙ ap (λ b. b || by_child n all top l.parent) first
    ∙ ap (λ b. l.parent == top || b) (later l.parent)

-- A surface descends from a child of another exactly if its parent is the other or descends from
-- it.
pub descends-either : (n : ℕ) (all : Surfaces) → AreOnceLinked all.links → (top surface : ℕ) → by_child n all top surface ≡ by_parent n all top (link_of surface all)
unfolding descends_from
descends-either zero all once top surface = descends-once all once top surface
descends-either (suc n) all once top surface =
    descends-next n all top surface (link_of surface all) (descends-once all once top surface) (λ parent. descends-either n all once top parent)

-- ---- the tree is applied

-- The links stay, and so does descent.
descends-applied : (n : ℕ) (p : ℕ → Bool) (all : Surfaces) (top surface : ℕ) → descends_from n (applied_where p all) top surface ≡ descends_from n all top surface
unfolding descends_from
descends-applied zero p all top surface = refl
descends-applied (suc n) p all top surface = ap (λ b. surface == top || b) (parents-same (link_of surface all) (λ parent. descends-applied n p all top parent))
  where
    parents-same : (o : Option Link) → ((parent : ℕ) → descends_from n (applied_where p all) top parent ≡ descends_from n all top parent)
        → of_parent false (λ parent. descends_from n (applied_where p all) top parent) o ≡ of_parent false (λ parent. descends_from n all top parent) o
    parents-same None same = refl
    parents-same (Some l) same = same l.parent

where-same : (p q : ℕ → Bool) (all : Surfaces) → ((id : ℕ) → p id ≡ q id) → applied_where p all ≡ applied_where q all
where-same p q all same = ap (λ (xs : List Surface). record all { surfaces = xs }) (applied-same p q same all.surfaces)

where-both : (p q : ℕ → Bool) (all : Surfaces) → applied_where q (applied_where p all) ≡ applied_where (λ id. p id || q id) all
where-both p q all = ap (λ (xs : List Surface). record all { surfaces = xs }) (applied-both p q all.surfaces)

or-none-left : (b : Bool) → b ≡ (b || false)
or-none-left true = refl
or-none-left false = refl

or-three : (a b c : Bool) → ((a || b) || c) ≡ (a || (b || c))
or-three true b c = refl
or-three false b c = refl

-- Each in turn applies what descends from it.
fold-where : (f : ℕ → Surfaces → Surfaces) (r : ℕ → ℕ → Bool) (all : Surfaces) → ((child : ℕ) (p : ℕ → Bool) → f child (applied_where p all) ≡ applied_where (r child) (applied_where p all))
    → (children : List ℕ) (p : ℕ → Bool) → fold (λ done child. f child done) (applied_where p all) children ≡ applied_where (λ id. p id || list_any (λ child. r child id) children) all
fold-where f r all each [] p = where-same p (λ id. p id || false) all (λ id. or-none-left (p id))
fold-where f r all each (c ∷ cs) p =
    ap (λ (x : Surfaces). fold (λ done child. f child done) x cs) (each c p ∙ where-both p (r c) all)
    ∙ fold-where f r all each cs (λ id. p id || r c id)
    ∙ where-same (λ id. (p id || r c id) || list_any (λ child. r child id) cs) (λ id. p id || (r c id || list_any (λ child. r child id) cs)) all
    (λ id. or-three (p id) (r c id) (list_any (λ child. r child id) cs))

fold-still : (x : Surfaces) (children : List ℕ) → fold (λ done child. done) x children ≡ x
fold-still x [] = refl
fold-still x (c ∷ cs) = fold-still x cs

applies : (n : ℕ) (surface : ℕ) (all : Surfaces) → AreOnceLinked all.links → applied_tree (suc n) surface all ≡ applied_where (descends_from n all surface) all
unfolding applied_tree descends_from
applies zero surface all once = fold-still (with_change surface applying all) (children_of surface all)
applies (suc n) surface all once =
    fold-where (λ child done. applied_tree (suc n) child done) (λ child. descends_from n all child) all
    (λ child p. applies n child (applied_where p all) once
    ∙ where-same (descends_from n (applied_where p all) child) (descends_from n all child) (applied_where p all) (λ id. descends-applied n p all child id))
    (children_of surface all) (λ id. id == surface)
    ∙ where-same (λ id. id == surface || by_child n all surface id) (descends_from (suc n) all surface) all
    (λ id. ap (λ b. id == surface || b) (descends-either n all once surface id))

pub applies-descendants : AppliesDescendants
applies-descendants all once n surface = applies n surface all once

-- No surface has two windows in the tree of a surface.
use Rattle.std.proofs.Common.{◌≡◌, ℕ, zero, suc, Bool, true, false, List, [], ◌∷◌, ◌++◌, Option, Some, None, refl, ap, sym, subst, ◌∙◌, arith}
use Rattle.std.specs.Prelude.{◌==◌, ◌||◌, ◌+◌, ◌+ℤ◌, cond, flat_map}
use Rattle.std.specs.List.{list_any}
use Rattle.std.proofs.lemmas.Bool.{eqb-true, false_from_ne_true, or_from, or_left, or_right}
use Rattle.wl_surface.specs.Request.{Buffer, Member, Itself, Child}
use Rattle.wl_surface.specs.State.{History, Values, applied, counting, is_member, order, position}
use Rattle.wl_surface.specs.Surfaces.{Link, Surfaces, history_in, link_at}
use Rattle.spec_desktop.specs.Windows.{Owner, Place, Window, child_windows, corner_at, member_windows, shown_windows, surface_windows, tree, window_with}
use Rattle.spec_desktop.specs.Marks.{AreDistinct, is_same_surface}
use Rattle.law_desktop.specs.Soundness.{AreOnce, AreTrees, IsLive}
use Rattle.law_desktop.proofs.Marks.Stacks.{equal-numbers, same-number}
use Rattle.law_desktop.proofs.Truth.{and-left, and-right, differ, or-left, or-right}
use Rattle.law_desktop.proofs.Lists.Each.{Each, each-append, each-map}

-- ---- lists

pub none-append : {X : Type 0} (p : X → Bool) (xs ys : List X) → list_any p xs ≡ false → list_any p ys ≡ false → list_any p (xs ++ ys) ≡ false
none-append p [] ys e f = f
none-append p (x ∷ xs) ys e f =
    or_from (p x) (list_any p (xs ++ ys)) (or-left (p x) (list_any p xs) e) (none-append p xs ys (or-right (p x) (list_any p xs) e) f)

pub each-flat : {X Y : Type 0} (P : Y → Type 0) (f : X → List Y) (xs : List X) → Each (λ x. Each P (f x)) xs → Each P (flat_map f xs)
each-flat P f [] e = tt
each-flat P f (x ∷ xs) e = each-append P (f x) (flat_map f xs) e.0 (each-flat P f xs e.1)

-- each of a list is among it
pub all-there : {X : Type 0} (same : X → X → Bool) → ((x : X) → same x x ≡ true) → (xs : List X) → Each (λ x. list_any (same x) xs ≡ true) xs
all-there same self [] = tt
all-there same self (x ∷ xs) = (
  or_left (same x x) (list_any (same x) xs) (self x),
  each-map (λ y. list_any (same y) xs ≡ true) (λ y. (same y x || list_any (same y) xs) ≡ true)
      (λ y e. or_right (same y x) (list_any (same y) xs) e) xs (all-there same self xs),
)

append-distinct : (ws vs : List Window) → AreDistinct ws → AreDistinct vs → Each (λ w. list_any (is_same_surface w) vs ≡ false) ws → AreDistinct (ws ++ vs)
append-distinct [] vs a b d = b
append-distinct (w ∷ ws) vs a b d = (none-append (is_same_surface w) ws vs a.0 d.0, append-distinct ws vs a.1 b d.1)

none-each : (w : Window) (P : Window → Type 0) (vs : List Window) → Each P vs → ((v : Window) → P v → is_same_surface w v ≡ true → ⊥) → list_any (is_same_surface w) vs ≡ false
none-each w P [] e f = refl
none-each w P (v ∷ vs) e f = or_from (is_same_surface w v) (list_any (is_same_surface w) vs) (false_from_ne_true (is_same_surface w v) (f v e.0)) (none-each w P vs e.1 f)

-- Where each gives distinct windows, and two that give a window of one surface are the same, all give distinct windows.
pub flat-distinct : {X : Type 0} (f : X → List Window) (Ok : X → Type 0) (Of : X → Window → Type 0) (same : X → X → Bool) → ((x : X) → Ok x → AreDistinct (f x)) → ((x : X) → Ok x → Each (Of x) (f x))
    → ((x y : X) (w v : Window) → Ok x → Ok y → Of x w → Of y v → is_same_surface w v ≡ true → same x y ≡ true) → (xs : List X) → Each Ok xs → AreOnce same xs → AreDistinct (flat_map f xs)
flat-distinct f Ok Of same apart each one [] ok once = tt
flat-distinct {X = X} f Ok Of same apart each one (x ∷ xs) ok once =
    append-distinct (f x) (flat_map f xs) (apart x ok.0) (flat-distinct f Ok Of same apart each one xs ok.1 once.1)
    (each-map (Of x) (λ w. list_any (is_same_surface w) (flat_map f xs) ≡ false) (λ w of. none xs ok.1 once.0 w of) (f x) (each x ok.0))
  where
    none : (ys : List X) → Each Ok ys → list_any (same x) ys ≡ false → (w : Window) → Of x w → list_any (is_same_surface w) (flat_map f ys) ≡ false
    none [] oks others w of = refl
    none (y ∷ ys) oks others w of =
        none-append (is_same_surface w) (f y) (flat_map f ys)
        (none-each w (Of y) (f y) (each y oks.0) (λ v of-v e. differ (sym (or-left (same x y) (list_any (same x) ys) others) ∙ one x y w v ok.0 oks.0 of of-v e)))
        (none ys oks.1 (or-right (same x y) (list_any (same x) ys) others) w of)

-- ---- descent

-- so many levels of links lead from a surface down to another
abbrev pub Under : Surfaces → ℕ → ℕ → ℕ → Type 0
Under all zero c x = x ≡ c
Under all (suc n) c x = (l : ℕ) × (a : Link) × IsLive l a all × (a.child ≡ x) × Under all n c a.parent

link-or : Link → Option Link → Link
link-or a None = a
link-or a (Some b) = b

one-link : (a b : Link) → Some a ≡ Some b → a ≡ b
unfolding link-or
one-link a b e = ap (λ o. link-or a o) e

under-same : (all : Surfaces) → AreTrees all → (n c d x : ℕ) → Under all n c x → Under all n d x → c ≡ d
under-same all t zero c d x u v = sym u ∙ v
under-same all t (suc n) c d x u v =
    let k = t.once u.0 v.0 u.1 v.1 u.2 v.2 (u.3 ∙ sym v.3) in
    let a = one-link u.1 v.1 (sym u.2.here ∙ (ap (λ l. link_at l all) k ∙ v.2.here)) in
    under-same all t n c d u.1.parent u.4 (subst (λ (b : Link). Under all n d b.parent) (sym a) v.4)

under-more : (all : Surfaces) (l : ℕ) (a : Link) (c : ℕ) → IsLive l a all → a.parent ≡ c → (n x : ℕ) → Under all n a.child x → Under all (suc n) c x
under-more all l a c live e zero x u = (l, a, live, sym u, e)
under-more all l a c live e (suc n) x u = (u.0, u.1, u.2, u.3, under-more all l a c live e n u.1.parent u.4)

deeper : (x p q c n : ℕ) → q ≡ suc p → q ≡ x → p ≡ c + n → x ≡ c + suc n
deeper x p q c n e f g = omega arith

level : (x c : ℕ) → x ≡ c → x ≡ c + 0
level x c e = omega arith

pub under-depth : (all : Surfaces) (t : AreTrees all) (n c x : ℕ) → Under all n c x → t.depth x ≡ t.depth c + n
under-depth all t zero c x u = level (t.depth x) (t.depth c) (ap t.depth u)
under-depth all t (suc n) c x u =
    deeper (t.depth x) (t.depth u.1.parent) (t.depth u.1.child) (t.depth c) n (t.below u.0 u.1 u.2) (ap t.depth u.3) (under-depth all t n c u.1.parent u.4)

cancel : (x c d n m : ℕ) → x ≡ c + n → x ≡ d + m → c ≡ d → m ≡ n
cancel x c d n m e f g = omega arith

-- a surface descends from one surface of a depth
pub under-one : (all : Surfaces) (t : AreTrees all) (n m c d x : ℕ) → Under all n c x → Under all m d x → t.depth c ≡ t.depth d → c ≡ d
under-one all t n m c d x u v e =
    under-same all t n c d x u (subst (λ k. Under all k d x) (cancel (t.depth x) (t.depth c) (t.depth d) n m (under-depth all t n c x u) (under-depth all t m d x v) e) v)

-- ---- the windows of a member, and of a tree

pub record IsUnder (client : ℕ) (all : Surfaces) (c : ℕ) (w : Window) : Type 0 where
  pub of_client : w.owner.client ≡ client
  pub levels : ℕ
  pub under : Under all levels c w.surface

abbrev OfMember : Surfaces → ℕ → Member → ℕ → Type 0
OfMember all c Itself x = x ≡ c
OfMember all c (Child l) x = (a : Link) × IsLive l a all × (a.parent ≡ c) × (n : ℕ) × Under all n a.child x

abbrev IsOf : ℕ → Surfaces → ℕ → Member → Window → Type 0
IsOf client all c m w = (w.owner.client ≡ client) × OfMember all c m w.surface

is-under : (client : ℕ) (all : Surfaces) (c : ℕ) (m : Member) (w : Window) → IsOf client all c m w → IsUnder client all c w
is-under client all c Itself w e = record { of_client = e.0; levels = zero; under = e.1 }
is-under client all c (Child l) w e = record { of_client = e.0; levels = suc e.1.3; under = under-more all l e.1.0 c e.1.1 e.1.2 e.1.3 w.surface e.1.4 }

no-circle : (s d n p : ℕ) → s ≡ d + n → d ≡ suc p → p ≡ s → ⊥
no-circle s d n p e f g = omega arith

not-itself : (all : Surfaces) (t : AreTrees all) (c l x : ℕ) → x ≡ c → OfMember all c (Child l) x → ⊥
not-itself all t c l x e f =
    no-circle (t.depth x) (t.depth f.0.child) f.3 (t.depth f.0.parent) (under-depth all t f.3 f.0.child x f.4) (t.below l f.0 f.1) (ap t.depth (f.2 ∙ sym e))

one-member : (all : Surfaces) → AreTrees all → (c : ℕ) (m o : Member) (x : ℕ) → OfMember all c m x → OfMember all c o x → is_member m o ≡ true
one-member all t c Itself Itself x e f = refl
one-member all t c Itself (Child l) x e f = absurd (not-itself all t c l x e f)
one-member all t c (Child l) Itself x e f = absurd (not-itself all t c l x f e)
one-member all t c (Child k) (Child l) x e f =
    let depths = t.below k e.0 e.1 ∙ (ap (λ s. suc (t.depth s)) (e.2 ∙ sym f.2) ∙ sym (t.below l f.0 f.1)) in
    let child = under-one all t e.3 f.3 e.0.child f.0.child x e.4 f.4 depths in
    equal-numbers k l (t.once k l e.0 f.0 e.1 f.1 child)

pub same-client : (w v : Window) → is_same_surface w v ≡ true → w.owner.client ≡ v.owner.client
same-client w v e = eqb-true w.owner.client v.owner.client (and-left (w.owner.client == v.owner.client) (w.surface == v.surface) e)

pub same-surface : (w v : Window) → is_same_surface w v ≡ true → w.surface ≡ v.surface
same-surface w v e = eqb-true w.surface v.surface (and-right (w.owner.client == v.owner.client) (w.surface == v.surface) e)

-- what the levels below give
abbrev AreUnder : ℕ → Surfaces → (ℕ → Place → List Window) → Type 0
AreUnder client all next = (c : ℕ) (at : Place) → Each (IsUnder client all c) (next c at)

abbrev GiveDistinct : (ℕ → Place → List Window) → Type 0
GiveDistinct next = (c : ℕ) (at : Place) → AreDistinct (next c at)

abbrev IsIn : History → Member → Type 0
IsIn h m = list_any (is_member m) (order (counting h)) ≡ true

pub member-self : (m : Member) → is_member m m ≡ true
member-self Itself = refl
member-self (Child l) = same-number l

child-distinct : (next : ℕ → Place → List Window) (h : History) (corner : Place) (l : ℕ) (a : Option Link) → GiveDistinct next → AreDistinct (child_windows next h corner l a)
child-distinct next h corner l None apart = tt
child-distinct next h corner l (Some a) apart = by a.has_ended
  where
    by : (b : Bool) → AreDistinct (cond b [] (next a.child (record { x = corner.x +ℤ (position l (counting h)).0; y = corner.y +ℤ (position l (counting h)).1 })))
    by true = tt
    by false = apart a.child _

own-distinct : (owner : Owner) (surface : ℕ) (corner : Place) (v : Values) (buffer : Option Buffer) → AreDistinct (window_with owner surface corner v buffer)
own-distinct owner surface corner v None = tt
own-distinct owner surface corner v (Some buffer) = (refl, tt)

member-distinct : (next : ℕ → Place → List Window) (owner : Owner) (all : Surfaces) (c : ℕ) (h : History) (corner : Place) (m : Member) → GiveDistinct next
    → AreDistinct (member_windows next owner all c h corner m)
member-distinct next owner all c h corner Itself apart = own-distinct owner c corner (applied h) (applied h).buffer
member-distinct next owner all c h corner (Child l) apart = child-distinct next h corner l (link_at l all) apart

own-each : (owner : Owner) (all : Surfaces) (surface : ℕ) (corner : Place) (v : Values) (buffer : Option Buffer)
    → Each (IsOf owner.client all surface Itself) (window_with owner surface corner v buffer)
own-each owner all surface corner v None = tt
own-each owner all surface corner v (Some buffer) = ((refl, refl), tt)

child-each : (client : ℕ) (next : ℕ → Place → List Window) (all : Surfaces) (c : ℕ) (h : History) (corner : Place) (l : ℕ) (a : Option Link) → AreUnder client all next → link_at l all ≡ a
    → ((b : Link) → IsLive l b all → b.parent ≡ c) → Each (IsOf client all c (Child l)) (child_windows next h corner l a)
child-each client next all c h corner l None each e parent = tt
child-each client next all c h corner l (Some a) each e parent = by a.has_ended refl
  where
    by : (b : Bool) → a.has_ended ≡ b
        → Each (IsOf client all c (Child l)) (cond b [] (next a.child (record { x = corner.x +ℤ (position l (counting h)).0; y = corner.y +ℤ (position l (counting h)).1 })))
    by true f = tt
    by false f =
        let live : IsLive l a all = record { here = e; lives = f } in
        each-map (IsUnder client all a.child) (IsOf client all c (Child l)) (λ w u. (u.of_client, (a, live, parent a live, u.levels, u.under))) _ (each a.child _)

member-each : (next : ℕ → Place → List Window) (owner : Owner) (all : Surfaces) → AreTrees all → (c : ℕ) (h : History) (corner : Place) (m : Member) → AreUnder owner.client all next
    → history_in c all ≡ Some h → IsIn h m → Each (IsOf owner.client all c m) (member_windows next owner all c h corner m)
member-each next owner all t c h corner Itself each e there = own-each owner all c corner (applied h) (applied h).buffer
member-each next owner all t c h corner (Child l) each e there =
    child-each owner.client next all c h corner l (link_at l all) each refl (λ b live. t.parents c h.cut l h b e there live)

surface-each : (next : ℕ → Place → List Window) (owner : Owner) (all : Surfaces) → AreTrees all → (c : ℕ) (place : Place) (h : Option History) → AreUnder owner.client all next → history_in c all ≡ h
    → Each (IsUnder owner.client all c) (surface_windows next owner all c place h)
surface-each next owner all t c place None each e = tt
surface-each next owner all t c place (Some h) each e = by (applied h).buffer
  where
    by : (buffer : Option Buffer) → Each (IsUnder owner.client all c) (shown_windows next owner all c h (corner_at place h) buffer)
    by None = tt
    by (Some buffer) =
        each-flat (IsUnder owner.client all c) (member_windows next owner all c h (corner_at place h)) (order (counting h))
        (each-map (IsIn h) (λ m. Each (IsUnder owner.client all c) (member_windows next owner all c h (corner_at place h) m))
        (λ m there. each-map (IsOf owner.client all c m) (IsUnder owner.client all c) (is-under owner.client all c m) _ (member-each next owner all t c h (corner_at place h) m each e there))
        (order (counting h)) (all-there is_member member-self (order (counting h))))

surface-distinct : (next : ℕ → Place → List Window) (owner : Owner) (all : Surfaces) → AreTrees all → (c : ℕ) (place : Place) (h : Option History) → AreUnder owner.client all next → GiveDistinct next
    → history_in c all ≡ h → AreDistinct (surface_windows next owner all c place h)
surface-distinct next owner all t c place None each apart e = tt
surface-distinct next owner all t c place (Some h) each apart e = by (applied h).buffer
  where
    by : (buffer : Option Buffer) → AreDistinct (shown_windows next owner all c h (corner_at place h) buffer)
    by None = tt
    by (Some buffer) =
        flat-distinct (member_windows next owner all c h (corner_at place h)) (IsIn h) (IsOf owner.client all c) is_member
        (λ m there. member-distinct next owner all c h (corner_at place h) m apart)
        (λ m there. member-each next owner all t c h (corner_at place h) m each e there)
        (λ m o w v there too of of-v same. one-member all t c m o w.surface of.1 (subst (λ x. OfMember all c o x) (sym (same-surface w v same)) of-v.1))
        (order (counting h)) (all-there is_member member-self (order (counting h))) (t.ordered c h.cut h e)

pub tree-each : (levels : ℕ) (owner : Owner) (all : Surfaces) → AreTrees all → (c : ℕ) (place : Place) → Each (IsUnder owner.client all c) (tree levels owner all c place)
unfolding tree
tree-each zero owner all t c place = tt
tree-each (suc levels) owner all t c place =
    surface-each (λ child at. tree levels owner all child at) owner all t c place (history_in c all) (λ child at. tree-each levels owner all t child at) refl

pub tree-distinct : (levels : ℕ) (owner : Owner) (all : Surfaces) → AreTrees all → (c : ℕ) (place : Place) → AreDistinct (tree levels owner all c place)
unfolding tree
tree-distinct zero owner all t c place = tt
tree-distinct (suc levels) owner all t c place =
    surface-distinct (λ child at. tree levels owner all child at) owner all t c place (history_in c all) (λ child at. tree-each levels owner all t child at)
    (λ child at. tree-distinct levels owner all t child at) refl

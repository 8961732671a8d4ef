-- What requests make of a stack, and what is done to the kept one.
use Rattle.std.proofs.Common.{◌≡◌, ℕ, ◌||◌, ◌==◌, Bool, true, false, cond, Option, Some, None, List, [], ◌∷◌, ◌++◌, map, refl, ap, sym, subst, ◌∙◌, arith, eq-eqb}
use Rattle.std.specs.Prelude.{ℤ, pos, find, filter_map, if◌then◌else◌}
use Rattle.std.specs.List.{list_any}
use Rattle.std.specs.Option.{option_map}
use Rattle.std.proofs.lemmas.Bool.{eqb-true}
use Rattle.std.proofs.lemmas.List.Elements.{filter_map-append}
use Rattle.std.proofs.lemmas.List.Sums.{fold-append}
use Rattle.wl_links.specs.declared.placed.Member.{Member as Kept}
use Rattle.wl_links.specs.declared.placed.Member.TheVariants as kept
use Rattle.wl_links.specs.declared.placed.Placed.{Placed}
use Rattle.wl_links.specs.declared.placed.Side.{Side}
use Rattle.wl_links.specs.declared.placed.Side.TheVariants.{Above, Below}
use Rattle.wl_links.specs.Stacks.{above as above_kept, added, below as below_kept, beside, has_member, is_of, moved, moved_place, placed as placed_kept, without as without_kept}
use Rattle.wl_surface.specs.Request.{AddChild, Attach, Child, Commit, Damage, DamageBuffer, Frame, Itself, Member, PlaceAbove, PlaceBelow, Request, SetBufferScale, SetBufferTransform}
use Rattle.wl_surface.specs.Request.{SetInputRegion, SetOpaqueRegion, SetPosition, SetWindowGeometry}
use Rattle.wl_surface.specs.State.{above, below, is_member, order, ordered, placed, position, position_asked, without}
use Rattle.wl_surface.specs.Stacks.{AreApart, IsKept, Kids, StacksFollow, has_child, is_about_children, place_of, place_request, stack_by, with_kid}

-- ---- one request more

pub order-last : (rs : List Request) (r : Request) → order (rs ++ r ∷ []) ≡ ordered (order rs) r
order-last rs r = fold-append ordered (Itself ∷ []) rs (r ∷ [])

pub position-last : (l : ℕ) (rs : List Request) (r : Request) → position l (rs ++ r ∷ []) ≡ position_asked l (position l rs) r
position-last l rs r = fold-append (position_asked l) (pos 0, pos 0) rs (r ∷ [])

-- ---- places of members

pub same-places : (f g : Member → Option Placed) → ((m : Member) → f m ≡ g m) → (ms : List Member) → filter_map f ms ≡ filter_map g ms
same-places f g same [] = refl
same-places f g same (m ∷ ms) = rw (same m, same-places f g same ms) refl

or-left : (a b : Bool) → (a || b) ≡ false → a ≡ false
or-left false b e = refl
or-left true b e = absurd (cc)

or-right : (a b : Bool) → (a || b) ≡ false → b ≡ false
or-right false b e = e
or-right true b e = absurd (cc)

-- all members but one that isn't there
other-places : (f g : Member → Option Placed) (l : ℕ) → ((m : Member) → is_member (Child l) m ≡ false → f m ≡ g m) → (ms : List Member)
    → list_any (is_member (Child l)) ms ≡ false → filter_map f ms ≡ filter_map g ms
other-places f g l same [] none = refl
other-places f g l same (m ∷ ms) none =
    rw (same m (or-left _ _ none), other-places f g l same ms (or-right (is_member (Child l) m) _ none)) refl

same-place : (kids : Kids) (rs new : List Request) → ((l : ℕ) → position l new ≡ position l rs) → (m : Member) → place_of kids new m ≡ place_of kids rs m
same-place kids rs new same Itself = refl
same-place kids rs new same (Child l) =
    ap (λ (at : ℤ × ℤ). option_map (λ child. record { member = kept.Child child; x = at.0; y = at.1 }) (kids l)) (same l)

-- ---- requests that change no stack

pub order-still : (ms : List Member) (r : Request) → is_about_children r ≡ false → ordered ms r ≡ ms
order-still ms (AddChild l) e = absurd (cc)
order-still ms (SetPosition l x y) e = absurd (cc)
order-still ms (PlaceAbove l at) e = absurd (cc)
order-still ms (PlaceBelow l at) e = absurd (cc)
order-still ms (Attach b x y) e = refl
order-still ms (Damage r) e = refl
order-still ms (DamageBuffer r) e = refl
order-still ms (Frame n) e = refl
order-still ms (SetOpaqueRegion r) e = refl
order-still ms (SetInputRegion r) e = refl
order-still ms (SetBufferTransform n) e = refl
order-still ms (SetBufferScale n) e = refl
order-still ms (SetWindowGeometry r) e = refl
order-still ms Commit e = refl

pub position-still : (l : ℕ) (at : ℤ × ℤ) (r : Request) → is_about_children r ≡ false → position_asked l at r ≡ at
position-still l at (SetPosition k x y) e = absurd (cc)
position-still l at r e = refl

pub follow-still : (kids : Kids) (rs : List Request) (r : Request) → is_about_children r ≡ false → stack_by kids (rs ++ r ∷ []) ≡ stack_by kids rs
follow-still kids rs r e =
    ap (filter_map (place_of kids (rs ++ r ∷ []))) (order-last rs r ∙ order-still (order rs) r e)
    ∙ same-places (place_of kids (rs ++ r ∷ [])) (place_of kids rs)
    (same-place kids rs (rs ++ r ∷ []) (λ l. position-last l rs r ∙ position-still l (position l rs) r e)) (order rs)

-- ---- links that come and go

with-other : (kids : Kids) (rs : List Request) (l : ℕ) (child : Option ℕ) (m : Member) → is_member (Child l) m ≡ false
    → place_of (with_kid l child kids) rs m ≡ place_of kids rs m
with-other kids rs l child Itself apart = refl
with-other kids rs l child (Child k) apart =
    let other : (k == l) ≡ false = grind (arith, apart) in
    ap (λ b. option_map (λ child. record { member = kept.Child child; x = (position k rs).0; y = (position k rs).1 }) (cond b child (kids k))) other

pub follow-others : (kids : Kids) (rs : List Request) (l : ℕ) (child : Option ℕ) → has_child l rs ≡ false → stack_by (with_kid l child kids) rs ≡ stack_by kids rs
follow-others kids rs l child none = other-places (place_of (with_kid l child kids) rs) (place_of kids rs) l (with-other kids rs l child) (order rs) none

pub follow-add : (kids : Kids) (rs : List Request) (l child : ℕ) → has_child l rs ≡ false → position l rs ≡ (pos 0, pos 0)
    → stack_by (with_kid l (Some child) kids) (rs ++ AddChild l ∷ []) ≡ added child (stack_by kids rs)
follow-add kids rs l child none at =
    let new = rs ++ AddChild l ∷ [] in
    let with_it = with_kid l (Some child) kids in
    let same : (k : ℕ) → position k new ≡ position k rs = λ k. position-last k rs (AddChild l) in
    ap (filter_map (place_of with_it new)) (order-last rs (AddChild l))
    ∙ filter_map-append (place_of with_it new) (order rs) (Child l ∷ [])
    ∙ ap (λ ps. ps ++ filter_map (place_of with_it new) (Child l ∷ []))
    (same-places (place_of with_it new) (place_of with_it rs) (same-place with_it rs new same) (order rs) ∙ follow-others kids rs l (Some child) none)
    ∙ ap (λ ps. stack_by kids rs ++ ps) (rw (same l, at, eq-eqb l l refl) refl)

-- ---- who is who

-- Two numbers are the same exactly if their children are.
same-kid : (kids : Kids) → AreApart kids → (k l : ℕ) (c child : ℕ) → kids k ≡ Some c → kids l ≡ Some child → (child == c) ≡ (l == k)
same-kid kids apart k l c child e f = at (child == c) (l == k) refl refl
  where
    at : (a b : Bool) → (child == c) ≡ a → (l == k) ≡ b → a ≡ b
    at true true g h = refl
    at false false g h = refl
    at true false g h =
        absurd (let it = eqb-true child c g in
        let same = apart l k child f (e ∙ ap (λ n. Some n) (sym it)) in
        let both = sym h ∙ (ap (λ n. n == k) same ∙ eq-eqb k k refl) in cc)
    at false true g h =
        absurd (let it = eqb-true l k h in
        let both : Option.Some c ≡ Some child = sym e ∙ (ap kids (sym it) ∙ f) in
        let same : child ≡ c = cc in
        let other = sym g ∙ (ap (λ n. n == c) same ∙ eq-eqb c c refl) in cc)

-- What is kept of two members is the same exactly if they are one.
same-member : (kids : Kids) → AreApart kids → (rs : List Request) (at : Member) (k : Kept) → IsKept kids at k → (m : Member) (p : Placed) → place_of kids rs m ≡ Some p
    → is_of k p ≡ is_member at m
same-member kids apart rs Itself kept.Itself is Itself p e =
    let it : record { member = kept.Itself; x = pos 0; y = pos 0 } ≡ p = cc in ap (is_of kept.Itself) (sym it)
same-member kids apart rs (Child l) (kept.Child child) is Itself p e =
    let it : record { member = kept.Itself; x = pos 0; y = pos 0 } ≡ p = cc in ap (is_of (kept.Child child)) (sym it)
same-member kids apart rs Itself (kept.Child child) is m p e = absurd is
same-member kids apart rs (Child l) kept.Itself is m p e = absurd is
same-member kids apart rs Itself kept.Itself is (Child k) p e = at (kids k) e
  where
    at : (o : Option ℕ) → option_map (λ child. record { member = kept.Child child; x = (position k rs).0; y = (position k rs).1 }) o ≡ Some p → is_of kept.Itself p ≡ false
    at None e = absurd (cc)
    at (Some c) e = let it : record { member = kept.Child c; x = (position k rs).0; y = (position k rs).1 } ≡ p = cc in ap (is_of kept.Itself) (sym it)
same-member kids apart rs (Child l) (kept.Child child) is (Child k) p e = at (kids k) refl e
  where
    at : (o : Option ℕ) → kids k ≡ o → option_map (λ child. record { member = kept.Child child; x = (position k rs).0; y = (position k rs).1 }) o ≡ Some p
        → is_of (kept.Child child) p ≡ (l == k)
    at None f e = absurd (cc)
    at (Some c) f e =
        let it : record { member = kept.Child c; x = (position k rs).0; y = (position k rs).1 } ≡ p = cc in
        ap (is_of (kept.Child child)) (sym it) ∙ same-kid kids apart k l c child f is

-- ---- lists of places

-- It tells of each member with a place whether it is this one.
abbrev Tells : (Member → Option Placed) → Member → Kept → Type 0
Tells f at k = (m : Member) (p : Placed) → f m ≡ Some p → is_of k p ≡ is_member at m

filtered : (f : Member → Option Placed) (at : Member) (k : Kept) → Tells f at k → (ms : List Member) → without_kept k (filter_map f ms) ≡ filter_map f (without at ms)
filtered f at k tells [] = refl
filtered f at k tells (m ∷ ms) = here (f m) refl (is_member at m) refl (filtered f at k tells ms)
  where
    here : (o : Option Placed) → f m ≡ o → (b : Bool) → is_member at m ≡ b → without_kept k (filter_map f ms) ≡ filter_map f (without at ms)
        → without_kept k (filter_map f (m ∷ ms)) ≡ filter_map f (without at (m ∷ ms))
    here None e true g next = rw (e, g) next
    here None e false g next = rw (e, g) (rw e next)
    here (Some p) e true g next = let same = tells m p e ∙ g in rw (e, g) (rw same next)
    here (Some p) e false g next = let same = tells m p e ∙ g in rw (e, g) (rw (same, e) (ap (λ ps. p ∷ ps) next))

-- A member that is this one has this place.
abbrev Finds : (Member → Option Placed) → Member → Placed → Type 0
Finds f at p = (m : Member) → is_member at m ≡ true → f m ≡ Some p

not-absent : {X : Type 0} (o : Option Placed) (p : Placed) → o ≡ None → o ≡ Some p → X
not-absent o p e f = absurd (let both = sym e ∙ f in cc)

has-filtered : (f : Member → Option Placed) (at : Member) (k : Kept) (q : Placed) → Tells f at k → Finds f at q → (ms : List Member)
    → has_member k (filter_map f ms) ≡ list_any (is_member at) ms
has-filtered f at k q tells there [] = refl
has-filtered f at k q tells there (m ∷ ms) = here (f m) refl (is_member at m) refl (has-filtered f at k q tells there ms)
  where
    here : (o : Option Placed) → f m ≡ o → (b : Bool) → is_member at m ≡ b → has_member k (filter_map f ms) ≡ list_any (is_member at) ms
        → has_member k (filter_map f (m ∷ ms)) ≡ list_any (is_member at) (m ∷ ms)
    here None e true g next = not-absent (f m) q e (there m g)
    here None e false g next = rw (e, g) next
    here (Some p) e b g next = rw e (rw (tells m p e) (ap (λ c. is_member at m || c) next))

above-filtered : (f : Member → Option Placed) (at : Member) (k : Kept) (q : Placed) → Tells f at k → Finds f at q → (c : Member) (p : Placed) → f c ≡ Some p → (ms : List Member)
    → above_kept p k (filter_map f ms) ≡ filter_map f (above c at ms)
above-filtered f at k q tells there c p is [] = refl
above-filtered f at k q tells there c p is (m ∷ ms) = here (f m) refl (is_member at m) refl (above-filtered f at k q tells there c p is ms)
  where
    here : (o : Option Placed) → f m ≡ o → (b : Bool) → is_member at m ≡ b → above_kept p k (filter_map f ms) ≡ filter_map f (above c at ms)
        → above_kept p k (filter_map f (m ∷ ms)) ≡ filter_map f (above c at (m ∷ ms))
    here None e true g next = not-absent (f m) q e (there m g)
    here None e false g next = rw (e, g) (rw e next)
    here (Some r) e true g next = let same = tells m r e ∙ g in rw (e, g) (rw (same, e, is) refl)
    here (Some r) e false g next = let same = tells m r e ∙ g in rw (e, g) (rw (same, e) (ap (λ ps. r ∷ ps) next))

below-filtered : (f : Member → Option Placed) (at : Member) (k : Kept) (q : Placed) → Tells f at k → Finds f at q → (c : Member) (p : Placed) → f c ≡ Some p → (ms : List Member)
    → below_kept p k (filter_map f ms) ≡ filter_map f (below c at ms)
below-filtered f at k q tells there c p is [] = refl
below-filtered f at k q tells there c p is (m ∷ ms) = here (f m) refl (is_member at m) refl (below-filtered f at k q tells there c p is ms)
  where
    here : (o : Option Placed) → f m ≡ o → (b : Bool) → is_member at m ≡ b → below_kept p k (filter_map f ms) ≡ filter_map f (below c at ms)
        → below_kept p k (filter_map f (m ∷ ms)) ≡ filter_map f (below c at (m ∷ ms))
    here None e true g next = not-absent (f m) q e (there m g)
    here None e false g next = rw (e, g) (rw e next)
    here (Some r) e true g next = let same = tells m r e ∙ g in rw (e, g) (rw (same, is, e) refl)
    here (Some r) e false g next = let same = tells m r e ∙ g in rw (e, g) (rw (same, e) (ap (λ ps. r ∷ ps) next))

find-filtered : (f : Member → Option Placed) (at : Member) (k : Kept) (q : Placed) → Tells f at k → Finds f at q → (ms : List Member) → list_any (is_member at) ms ≡ true
    → find (is_of k) (filter_map f ms) ≡ Some q
find-filtered f at k q tells there [] any = absurd (cc)
find-filtered f at k q tells there (m ∷ ms) any = here (f m) refl (is_member at m) refl any (find-filtered f at k q tells there ms)
  where
    here : (o : Option Placed) → f m ≡ o → (b : Bool) → is_member at m ≡ b → (b || list_any (is_member at) ms) ≡ true
        → (list_any (is_member at) ms ≡ true → find (is_of k) (filter_map f ms) ≡ Some q) → find (is_of k) (filter_map f (m ∷ ms)) ≡ Some q
    here None e true g any next = not-absent (f m) q e (there m g)
    here None e false g any next = rw e (next any)
    here (Some p) e true g any next = let same = tells m p e ∙ g in rw e (rw same (sym e ∙ there m g))
    here (Some p) e false g any next = let same = tells m p e ∙ g in rw e (rw same (next any))

-- A kept member has a place, whoever is that member.
finds-kept : (kids : Kids) (rs : List Request) (at : Member) (k : Kept) → IsKept kids at k → (p : Placed) × (place_of kids rs at ≡ Some p) × Finds (place_of kids rs) at p
finds-kept kids rs Itself kept.Itself is = (record { member = kept.Itself; x = pos 0; y = pos 0 }, refl, itself)
  where
    itself : (m : Member) → is_member Itself m ≡ true → place_of kids rs m ≡ Some (record { member = kept.Itself; x = pos 0; y = pos 0 })
    itself Itself e = refl
    itself (Child k) e = absurd (cc)
finds-kept kids rs Itself (kept.Child child) is = absurd is
finds-kept kids rs (Child l) kept.Itself is = absurd is
finds-kept kids rs (Child l) (kept.Child child) is =
    let p : Placed = record { member = kept.Child child; x = (position l rs).0; y = (position l rs).1 } in
    let there : place_of kids rs (Child l) ≡ Some p = ap (option_map (λ c. record { member = kept.Child c; x = (position l rs).0; y = (position l rs).1 })) is in
    (p, there, one p there)
  where
    one : (p : Placed) → place_of kids rs (Child l) ≡ Some p → (m : Member) → is_member (Child l) m ≡ true → place_of kids rs m ≡ Some p
    one p there Itself e = absurd (cc)
    one p there (Child k) e = subst (λ (n : ℕ). place_of kids rs (Child n) ≡ Some p) (eqb-true l k e) there

-- ---- placing

-- If a child is put next to a sibling, what is kept of it is put next to what is kept of the
-- sibling.
follow-placed : (kids : Kids) (rs : List Request) (l child : ℕ) (at : Member) (k : Kept) (beside : Member → Member → List Member → List Member)
    (beside_kept : Placed → Kept → List Placed → List Placed) → AreApart kids → kids l ≡ Some child → has_child l rs ≡ true → IsKept kids at k
    → ((q : Placed) → Tells (place_of kids rs) at k → Finds (place_of kids rs) at q → (c : Member) (p : Placed) → place_of kids rs c ≡ Some p → (ms : List Member)
    → beside_kept p k (filter_map (place_of kids rs) ms) ≡ filter_map (place_of kids rs) (beside c at ms))
    → filter_map (place_of kids rs) (placed beside l at (order rs)) ≡ placed_kept beside_kept child k (stack_by kids rs)
follow-placed kids rs l child at k beside beside_kept apart is there sibling besides =
    let f = place_of kids rs in
    let ms = order rs in
    let tells_child = same-member kids apart rs (Child l) (kept.Child child) is in
    let tells = same-member kids apart rs at k sibling in
    let child_at = finds-kept kids rs (Child l) (kept.Child child) is in
    let sibling_at = finds-kept kids rs at k sibling in
    let found = find-filtered f (Child l) (kept.Child child) child_at.0 tells_child child_at.2 ms there in
    let less = filtered f (Child l) (kept.Child child) tells_child ms in
    let has = ap (has_member k) less ∙ has-filtered f at k sibling_at.0 tells sibling_at.2 (without (Child l) ms) in
    let put = ap (beside_kept child_at.0 k) less ∙ besides sibling_at.0 tells sibling_at.2 (Child l) child_at.0 child_at.1 (without (Child l) ms) in
    rw found (rw has (choose (list_any (is_member at) (without (Child l) ms)) _ _ put))
  where
    choose : (b : Bool) (put : List Placed) (new : List Member) → put ≡ filter_map (place_of kids rs) new
        → filter_map (place_of kids rs) (if b then new else order rs) ≡ (if b then put else stack_by kids rs)
    choose true put new e = sym e
    choose false put new e = refl

-- on either side
abbrev pub beside_asked : Side → Member → Member → List Member → List Member
beside_asked Above c at ms = above c at ms
beside_asked Below c at ms = below c at ms

beside-filtered : (side : Side) (f : Member → Option Placed) (at : Member) (k : Kept) (q : Placed) → Tells f at k → Finds f at q → (c : Member) (p : Placed) → f c ≡ Some p
    → (ms : List Member) → beside side p k (filter_map f ms) ≡ filter_map f (beside_asked side c at ms)
beside-filtered Above f at k q tells there c p is ms = above-filtered f at k q tells there c p is ms
beside-filtered Below f at k q tells there c p is ms = below-filtered f at k q tells there c p is ms

pub order-placed : (side : Side) (l : ℕ) (at : Member) (rs : List Request) → order (rs ++ place_request side l at ∷ []) ≡ placed (beside_asked side) l at (order rs)
order-placed Above l at rs = order-last rs (PlaceAbove l at)
order-placed Below l at rs = order-last rs (PlaceBelow l at)

pub position-placed : (side : Side) (k l : ℕ) (at : Member) (rs : List Request) → position k (rs ++ place_request side l at ∷ []) ≡ position k rs
position-placed Above k l at rs = position-last k rs (PlaceAbove l at)
position-placed Below k l at rs = position-last k rs (PlaceBelow l at)

pub follow-place : (side : Side) (kids : Kids) (rs : List Request) (l child : ℕ) (at : Member) (k : Kept) → AreApart kids → kids l ≡ Some child → has_child l rs ≡ true
    → IsKept kids at k → stack_by kids (rs ++ place_request side l at ∷ []) ≡ placed_kept (beside side) child k (stack_by kids rs)
follow-place side kids rs l child at k apart is there sibling =
    let new = rs ++ place_request side l at ∷ [] in
    ap (filter_map (place_of kids new)) (order-placed side l at rs)
    ∙ same-places (place_of kids new) (place_of kids rs) (same-place kids rs new (λ n. position-placed side n l at rs)) (placed (beside_asked side) l at (order rs))
    ∙ follow-placed kids rs l child at k (beside_asked side) (beside side) apart is there sibling (λ q. beside-filtered side (place_of kids rs) at k q)

-- ---- positions

mapped-places : (h : Placed → Placed) (f g : Member → Option Placed) → ((m : Member) → option_map h (f m) ≡ g m) → (ms : List Member) → map h (filter_map f ms) ≡ filter_map g ms
mapped-places h f g same [] = refl
mapped-places h f g same (m ∷ ms) = here (f m) refl (same m) (mapped-places h f g same ms)
  where
    here : (o : Option Placed) → f m ≡ o → option_map h (f m) ≡ g m → map h (filter_map f ms) ≡ filter_map g ms → map h (filter_map f (m ∷ ms)) ≡ filter_map g (m ∷ ms)
    here None e same next = let is = sym same ∙ ap (option_map h) e in rw (e, is) next
    here (Some p) e same next = let is = sym same ∙ ap (option_map h) e in rw (e, is) (ap (λ ps. h p ∷ ps) next)

-- a child at this position
abbrev child_at : ℕ → ℤ × ℤ → Placed
child_at c at = record { member = kept.Child c; x = at.0; y = at.1 }

move-one : (b : Bool) (c : ℕ) (to at : ℤ × ℤ) → (if b then child_at c to else child_at c at) ≡ child_at c (cond b to at)
move-one true c to at = refl
move-one false c to at = refl

pub follow-move : (kids : Kids) (rs : List Request) (l child : ℕ) (x y : ℤ) → AreApart kids → kids l ≡ Some child
    → stack_by kids (rs ++ SetPosition l x y ∷ []) ≡ moved child x y (stack_by kids rs)
follow-move kids rs l child x y apart is =
    let new = rs ++ SetPosition l x y ∷ [] in
    ap (filter_map (place_of kids new)) (order-last rs (SetPosition l x y))
    ∙ sym (mapped-places (moved_place child x y) (place_of kids rs) (place_of kids new) one (order rs))
  where
    at : (k : ℕ) (o : Option ℕ) → kids k ≡ o → option_map (moved_place child x y) (place_of kids rs (Child k)) ≡ place_of kids (rs ++ SetPosition l x y ∷ []) (Child k)
    at k None e = rw e refl
    at k (Some c) e =
        let same = same-kid kids apart k l c child e is in
        rw e (rw (same, position-last k rs (SetPosition l x y)) (ap (λ (p : Placed). Some p) (move-one (l == k) c (x, y) (position k rs))))

    one : (m : Member) → option_map (moved_place child x y) (place_of kids rs m) ≡ place_of kids (rs ++ SetPosition l x y ∷ []) m
    one Itself = refl
    one (Child k) = at k (kids k) refl

-- ---- the end of a link

pub follow-lose : (kids : Kids) (rs : List Request) (l child : ℕ) → AreApart kids → kids l ≡ Some child
    → stack_by (with_kid l None kids) rs ≡ without_kept (kept.Child child) (stack_by kids rs)
follow-lose kids rs l child apart is =
    less (order rs) ∙ sym (filtered (place_of kids rs) (Child l) (kept.Child child) (same-member kids apart rs (Child l) (kept.Child child) is) (order rs))
  where
    gone : (m : Member) → is_member (Child l) m ≡ true → place_of (with_kid l None kids) rs m ≡ None
    gone Itself e = absurd (cc)
    gone (Child k) e =
        let here : (k == l) ≡ true = grind (arith, e) in
        ap (λ b. option_map (λ child. record { member = kept.Child child; x = (position k rs).0; y = (position k rs).1 }) (cond b None (kids k))) here

    step : (b : Bool) (m : Member) (ms : List Member) → is_member (Child l) m ≡ b
        → filter_map (place_of (with_kid l None kids) rs) ms ≡ filter_map (place_of kids rs) (without (Child l) ms)
        → filter_map (place_of (with_kid l None kids) rs) (m ∷ ms) ≡ filter_map (place_of kids rs) (without (Child l) (m ∷ ms))
    step true m ms e next = rw (e, gone m e) next
    step false m ms e next = rw (e, with-other kids rs l None m e) (rw next refl)

    less : (ms : List Member) → filter_map (place_of (with_kid l None kids) rs) ms ≡ filter_map (place_of kids rs) (without (Child l) ms)
    less [] = refl
    less (m ∷ ms) = step (is_member (Child l) m) m ms refl (less ms)

pub follow : StacksFollow
follow = record {
  begin = λ kids. refl;
  still = follow-still;
  add = follow-add;
  move = follow-move;
  place = follow-place;
  lose = follow-lose;
  others = follow-others;
}

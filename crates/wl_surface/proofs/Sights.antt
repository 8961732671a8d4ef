-- What is seen of surfaces before a call, and how what comes after is compared with it.
use Rattle.std.proofs.Common.{◌≡◌, ℕ, zero, suc, ◌≤◌, ◌+◌, ◌<◌, ◌==◌, ◌&&◌, ◌||◌, Bool, true, false, Option, Some, None, List, [], ◌∷◌, ◌++◌, length, map, take, drop, fold}
use Rattle.std.proofs.Common.{refl, ap, ap₂, sym, subst, ◌∙◌, arith}
use Rattle.std.specs.Prelude.{find, if◌then◌else◌, nat_lt, not, slice_index_or, ℤ, ◌+ℤ◌}
use Rattle.std.specs.Option.{option_map, option_map_or}
use Rattle.std.proofs.Math.Path.{fun_ext}
use Rattle.std.proofs.lemmas.Bool.{eqb-true}
use Rattle.std.proofs.lemmas.Bool.Decides.{nat_tests}
use Rattle.wl_links.specs.Family.{HangTogether, Links, Tied, links_in, parents_of, root_by}
use Rattle.wl_links.specs.Trees.{Parents, is_under}
use Rattle.wl_links.proofs.Depths.{under-step}
use Rattle.wl_links.proofs.Roots.{root-none, root-only, root-over}
use Rattle.wl_surface.specs.declared.look.Look.{Look}
use Rattle.wl_surface.specs.declared.seen.Compared.{Compared}
use Rattle.wl_surface.specs.declared.seen.Looked.{Looked}
use Rattle.wl_links.specs.declared.link.Link.{Link}
use Rattle.wl_links.specs.declared.placed.Placed.{Placed}
use Rattle.wl_surface.specs.declared.state.Current.{Current}
use Rattle.wl_surface.specs.Linked.{Stand}
use Rattle.wl_surface.specs.Seen.{AreSeen, IsCompared, looked_at, met, seen_of}
use Rattle.wl_surface.specs.Slots.{IsCurrentAt, Slots}
use Rattle.wl_surface.specs.Surface.{Surface}
use Rattle.wl_surface.specs.Surfaces.{Surfaces, surface_at}
use Rattle.wl_surface.specs.Tree.{is_among}
use Rattle.wl_surface.specs.TreeLaws.{links_of}
use Rattle.wl_surface.specs.Whole.{is_mapped, is_same_look, is_same_order, is_whole, look_in, look_of, order_of, place_by, position_of, windows}

-- ---- the order of a tree

-- all of a list was met
abbrev pub is_all : List ℕ → Option ℕ → Bool
is_all order None = false
is_all order (Some count) = count == length order

none-met : (order ws : List ℕ) → fold (met order) None ws ≡ None
none-met order [] = refl
none-met order (w ∷ ws) = none-met order ws

next-at : (order : List ℕ) (i : ℕ) → i < length order → drop i order ≡ slice_index_or order i 0 ∷ drop (suc i) order
next-at [] i less = absurd (omega (arith, less))
next-at (x ∷ xs) zero less = refl
next-at (x ∷ xs) (suc i) less = next-at xs i (omega (arith, less))

none-after : (order : List ℕ) (i : ℕ) → length order ≤ i → drop i order ≡ []
none-after [] zero most = refl
none-after [] (suc i) most = refl
none-after (x ∷ xs) zero most = absurd (omega (arith, most))
none-after (x ∷ xs) (suc i) most = none-after xs i (omega (arith, most))

meets-from : (order ws : List ℕ) (i : ℕ) → i ≤ length order → is_all order (fold (met order) (Some i) ws) ≡ is_same_order (drop i order) ws
meets-from order [] i within = at (i == length order) refl
  where
    at : (b : Bool) → (i == length order) ≡ b → (i == length order) ≡ is_same_order (drop i order) []
    at true e = e ∙ sym (ap (λ xs. is_same_order xs []) (none-after order i (let same = eqb-true i (length order) e in omega (arith, same))))
    at false e =
        let less : i < length order = grind (arith, nat_tests) in
        e ∙ sym (ap (λ xs. is_same_order xs []) (next-at order i less))
meets-from order (w ∷ ws) i within = at (nat_lt i (length order)) refl (λ j least. meets-from order ws j least)
  where
    met-here : (b : Bool) → (slice_index_or order i 0 == w) ≡ b → nat_lt i (length order) ≡ true → i < length order
        → ((j : ℕ) → j ≤ length order → is_all order (fold (met order) (Some j) ws) ≡ is_same_order (drop j order) ws)
        → is_all order (fold (met order) (if nat_lt i (length order) && (slice_index_or order i 0 == w) then Some (i + 1) else None) ws)
        ≡ ((slice_index_or order i 0 == w) && is_same_order (drop (suc i) order) ws)
    met-here true e test less next =
        let on : i + 1 ≡ suc i = omega arith in
        ap (λ b. is_all order (fold (met order) (if b && (slice_index_or order i 0 == w) then Some (i + 1) else None) ws)) test
        ∙ (ap (λ b. is_all order (fold (met order) (if b then Some (i + 1) else None) ws)) e
        ∙ (ap (λ n. is_all order (fold (met order) (Some n) ws)) on
        ∙ (next (suc i) (omega (arith, less)) ∙ sym (ap (λ b. b && is_same_order (drop (suc i) order) ws) e))))
    met-here false e test less next =
        ap (λ b. is_all order (fold (met order) (if b && (slice_index_or order i 0 == w) then Some (i + 1) else None) ws)) test
        ∙ (ap (λ b. is_all order (fold (met order) (if b then Some (i + 1) else None) ws)) e
        ∙ (ap (is_all order) (none-met order ws) ∙ sym (ap (λ b. b && is_same_order (drop (suc i) order) ws) e)))

    at : (b : Bool) → nat_lt i (length order) ≡ b
        → ((j : ℕ) → j ≤ length order → is_all order (fold (met order) (Some j) ws) ≡ is_same_order (drop j order) ws)
        → is_all order (fold (met order) (if nat_lt i (length order) && (slice_index_or order i 0 == w) then Some (i + 1) else None) ws) ≡ is_same_order (drop i order) (w ∷ ws)
    at true e next =
        let less : i < length order = grind (arith, nat_tests) in
        met-here (slice_index_or order i 0 == w) refl e less next ∙ sym (ap (λ xs. is_same_order xs (w ∷ ws)) (next-at order i less))
    at false e next =
        let most : length order ≤ i = grind (arith, nat_tests) in
        ap (λ b. is_all order (fold (met order) (if b && (slice_index_or order i 0 == w) then Some (i + 1) else None) ws)) e
        ∙ (ap (is_all order) (none-met order ws) ∙ sym (ap (λ xs. is_same_order xs (w ∷ ws)) (none-after order i most)))

pub same-order : (order ws : List ℕ) (count : Option ℕ) → count ≡ fold (met order) (Some 0) ws → is_all order count ≡ is_same_order order ws
same-order order ws count e = ap (is_all order) e ∙ meets-from order ws 0 (omega arith)

-- ---- the root of a tree

under-through : (m n : ℕ) (parents : Parents) (a b c : ℕ) → is_under n parents a b ≡ true → is_under m parents b c ≡ true
    → (k : ℕ) × (is_under k parents a c ≡ true)
unfolding is_under
under-through zero n parents a b c above e = (n, ap (is_under n parents a) (eqb-true c b e) ∙ above)
under-through (suc m) n parents a b c above e = at (c == b) refl (parents c) refl e (λ p under. under-through m n parents a b p above under)
  where
    at : (t : Bool) → (c == b) ≡ t → (o : Option ℕ) → parents c ≡ o → (t || option_map_or (λ parent. is_under m parents b parent) o false) ≡ true
        → ((p : ℕ) → is_under m parents b p ≡ true → (k : ℕ) × (is_under k parents a p ≡ true)) → (k : ℕ) × (is_under k parents a c ≡ true)
    at true f o g h next = (n, ap (is_under n parents a) (eqb-true c b f) ∙ above)
    at false f None g h next = absurd (cc)
    at false f (Some p) g h next =
        let further = next p h in
        (suc further.0, under-step further.0 parents a c p g further.1)

module _ (slots : Slots) (tied : Tied) (all : Surfaces) (stand : Stand slots tied all) (surface : ℕ) (root : ℕ)
    (reached : root ≡ root_by 16 (parents_of (links_in tied)) surface) where
  pub root-asked : root ≡ root_by 16 (parents_of (links_of all)) surface
  root-asked = reached ∙ ap (λ (links : Links). root_by 16 (parents_of links) surface) (fun_ext stand.hang.0.links)

-- a surface that descends from another is in one tree with it
same-root : (tied : Tied) → HangTogether tied → (surface n : ℕ) → is_under 16 (parents_of (links_in tied)) surface n ≡ true
    → root_by 16 (parents_of (links_in tied)) surface ≡ root_by 16 (parents_of (links_in tied)) n
same-root tied hang surface n under =
    let parents = parents_of (links_in tied) in
    let root = root_by 16 parents surface in
    let through = under-through 16 16 parents root surface n (root-over parents tied.places hang.trees hang.within 16 surface) under in
    root-only parents tied.places hang.trees hang.within through.0 root n (root-none parents tied.places hang.trees hang.within surface) through.1

-- what is seen of these surfaces
pub are-seen : (slots : Slots) (tied : Tied) (all : Surfaces) → HangTogether tied → Stand slots tied all → (surface : ℕ) (below : List ℕ) (looks : List Looked) (order : List ℕ)
    → ((n : ℕ) → is_among below n ≡ is_under 16 (parents_of (links_in tied)) surface n) → looks ≡ map (looked_at all) below → order ≡ order_of all surface
    → AreSeen all below looks order
are-seen slots tied all hang stand surface below looks order those seen ordered = record {
  seen = seen;
  ordered = λ n e.
      ordered
      ∙ (ap (λ root. windows 17 all root) (sym (root-asked slots tied all stand surface _ refl))
      ∙ (ap (λ root. windows 17 all root) (same-root tied hang surface n (sym (those n) ∙ e))
      ∙ ap (λ root. windows 17 all root) (root-asked slots tied all stand n _ refl)));
}

-- the look that was seen of one of them
pub seen-look : (all : Surfaces) (surfaces : List ℕ) (looks : List Looked) (n : ℕ) → looks ≡ map (looked_at all) surfaces → is_among surfaces n ≡ true
    → seen_of looks n ≡ look_of all n
seen-look all surfaces looks n e among = ap (λ ls. seen_of ls n) e ∙ at surfaces among
  where
    at : (ns : List ℕ) → is_among ns n ≡ true → seen_of (map (looked_at all) ns) n ≡ look_of all n
    at [] e = absurd (cc)
    at (m ∷ ms) e = by (m == n) refl (at ms)
      where
        by : (b : Bool) → (m == n) ≡ b → (is_among ms n ≡ true → seen_of (map (looked_at all) ms) n ≡ look_of all n) → seen_of (map (looked_at all) (m ∷ ms)) n ≡ look_of all n
        by true f next = rw f (ap (look_of all) (eqb-true m n f))
        by false f next = rw f (next (rw f at e))

-- at an index where it is found
pub seen-here : (all : Surfaces) (surfaces : List ℕ) (looks : List Looked) (index : ℕ) (d : Looked) (n : ℕ) → looks ≡ map (looked_at all) surfaces → index < length looks
    → (slice_index_or looks index d).surface ≡ n → (slice_index_or looks index d).look ≡ look_of all n
seen-here all surfaces looks index d n e less here =
    ap (λ ls. (slice_index_or ls index d).look) e
    ∙ at surfaces index (subst (λ (ls : List Looked). index < length ls) e less) (ap (λ ls. (slice_index_or ls index d).surface) (sym e) ∙ here)
  where
    at : (ns : List ℕ) (k : ℕ) → k < length (map (looked_at all) ns) → (slice_index_or (map (looked_at all) ns) k d).surface ≡ n
        → (slice_index_or (map (looked_at all) ns) k d).look ≡ look_of all n
    at [] k less is = absurd (omega (arith, less))
    at (m ∷ ms) zero less is = ap (look_of all) is
    at (m ∷ ms) (suc k) less is = at ms k (omega (arith, less)) is

-- what comes after is compared with it
pub whole-unordered : (old new : Surfaces) (surfaces : List ℕ) (looks : List Looked) (order : List ℕ) (surface : ℕ) (ordered : Bool) → AreSeen old surfaces looks order
    → is_among surfaces surface ≡ true → ordered ≡ is_same_order order (order_of new surface) → ordered ≡ false → true ≡ is_whole old new surface
whole-unordered old new surfaces looks order surface ordered seen among so other =
    at (is_same_look (look_of old surface) (look_of new surface))
    ∙ ap (λ b. not (is_same_look (look_of old surface) (look_of new surface) && b))
    (sym other ∙ (so ∙ ap (λ ws. is_same_order ws (order_of new surface)) (seen.ordered surface among)))
  where
    at : (b : Bool) → true ≡ not (b && false)
    at true = refl
    at false = refl

pub whole-ordered : (old new : Surfaces) (surfaces : List ℕ) (looks : List Looked) (order : List ℕ) (surface : ℕ) (ordered same : Bool) → AreSeen old surfaces looks order
    → is_among surfaces surface ≡ true → ordered ≡ is_same_order order (order_of new surface) → ordered ≡ true
    → same ≡ is_same_look (look_of old surface) (look_of new surface) → not same ≡ is_whole old new surface
whole-ordered old new surfaces looks order surface ordered same seen among so is looks_same =
    ap not (at same)
    ∙ ap₂ (λ a b. not (a && b)) looks_same (sym is ∙ (so ∙ ap (λ ws. is_same_order ws (order_of new surface)) (seen.ordered surface among)))
  where
    at : (b : Bool) → b ≡ (b && true)
    at true = refl
    at false = refl

-- a tree that was compared
pub compared-so : (slots : Slots) (tied : Tied) (all : Surfaces) → Stand slots tied all → (surface : ℕ) (c : Compared) (order : List ℕ)
    → c.root ≡ root_by 16 (parents_of (links_in tied)) surface → IsCompared order all (Some c) → c.is_same ≡ is_same_order order (order_of all surface)
compared-so slots tied all stand surface c order reached compared =
    compared ∙ ap (λ root. is_same_order order (windows 17 all root)) (root-asked slots tied all stand surface c.root reached)

-- the look of a surface, from what is told of it
pub look-is : {A : Type 0} (slots : Slots) (tied : Tied) (all : Surfaces) → Stand slots tied all → (surface : ℕ) (told : Option (Current A)) (c : Current A) → told ≡ Some c
    → IsCurrentAt told (surface_at surface all) → (link : Option Link) → link ≡ links_in tied surface → (place : Option Placed) → place ≡ place_by all surface link
    → (mapped : Bool) → mapped ≡ is_mapped 17 all surface → (x y : ℤ) → x ≡ (position_of place).0 +ℤ c.offset.x → y ≡ (position_of place).1 +ℤ c.offset.y
    → Some (record { w = c.w; h = c.h; transform = c.transform; scale = c.scale.number; is_mapped = mapped; x = x; y = y }) ≡ look_of all surface
look-is {A} slots tied all stand surface told c some is link kept place placed mapped mapped_so x y ex ey =
    at (surface_at surface all) (subst (λ (o : Option (Current A)). IsCurrentAt o (surface_at surface all)) some is)
  where
    there : place ≡ place_by all surface (links_of all surface)
    there = placed ∙ ap (place_by all surface) (kept ∙ stand.hang.0.links surface)

    at : (o : Option Surface) → IsCurrentAt (Some c) o
        → Some (record { w = c.w; h = c.h; transform = c.transform; scale = c.scale.number; is_mapped = mapped; x = x; y = y })
        ≡ option_map (look_in all surface) (option_map (λ s. s.history) o)
    at None i = absurd i
    at (Some s) i =
        let across = ex ∙ ap₂ (λ (a b : ℤ). a +ℤ b) (ap (λ o. (position_of o).0) there) i.offset.0 in
        let down = ey ∙ ap₂ (λ (a b : ℤ). a +ℤ b) (ap (λ o. (position_of o).1) there) i.offset.1 in
        rw (i.width, i.height, i.transform, i.scale, mapped_so, across, down) refl

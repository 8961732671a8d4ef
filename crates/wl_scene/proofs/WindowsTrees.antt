-- The windows of a tree, from the stacks that are kept.
use Rattle.std.proofs.Common.{◌≡◌, ◌==◌, ◌<◌, ◌≤◌, ◌+◌, ℕ, zero, suc, ℤ, ◌+ℤ◌, Bool, true, false, cond, Option, Some, None}
use Rattle.std.proofs.Common.{List, [], ◌∷◌, ◌++◌, map, flat_map, length, take, refl, ap, ap₂, sym, ◌∙◌, append_assoc, arith}
use Rattle.std.specs.Prelude.{if◌then◌else◌, filter_map, option_and_then, pos, slice_index_or}
use Rattle.std.specs.List.{cons_option}
use Rattle.std.proofs.lemmas.Bool.Decides.{nat_tests}
use Rattle.std.proofs.lemmas.Int.{ints}
use Rattle.std.proofs.lemmas.List.{append-nil, flat_map_more, length-append, map-append, take_more}
use Rattle.std.proofs.lemmas.List.Folds.{length-flat_map-take}
use Rattle.wl_links.specs.declared.placed.Placed.{Placed}
use Rattle.wl_links.specs.Stacks.{whole}
use Rattle.wl_links.specs.Family.{Tied, stacks_in}
use Rattle.wl_surface.specs.Linked.{Stand}
use Rattle.spec_desktop.specs.Windows.{Owner, Place, Window, child_windows, corner_at, shown_windows, surface_windows, tree}
use Rattle.spec_desktop.specs.Windows.{member_windows as asked_windows, window_with as asked_with}
use Rattle.wl_surface.specs.Request.{Buffer, Child, Itself, Member}
use Rattle.wl_surface.specs.State.{History, Values, applied, counting, order, position}
use Rattle.wl_surface.specs.Slots.{Slots}
use Rattle.wl_surface.specs.Surfaces.{Link, Surfaces, history_in, link_at}
use Rattle.wl_surface.specs.Hanging.{kid_of, kids_of, stacks_at}
use Rattle.wl_surface.specs.Stacks.{place_of, stack_by}
use Rattle.wl_scene.specs.declared.tree_window.TreeWindow.{TreeWindow}
use Rattle.wl_scene.specs.TreeWindows.{Continues, place_beside, placed_windows, rooted, told_of, told_tree, window_at, window_in, window_with}

-- ---- lists

-- what is told of parts that stand one after another
map-flat_map : {X Y Z : Type 0} (f : Y → Z) (g : X → List Y) (xs : List X) → map f (flat_map g xs) ≡ flat_map (λ x. map f (g x)) xs
map-flat_map f g [] = refl
map-flat_map f g (x ∷ xs) = map-append f (g x) (flat_map g xs) ∙ ap (λ ys. map f (g x) ++ ys) (map-flat_map f g xs)

-- the part of what may be there
part : {Y Z : Type 0} → (Y → List Z) → Option Y → List Z
part f None = []
part f (Some y) = f y

part-listed : {Y Z : Type 0} (f : Y → List Z) (o : Option Y) (ys : List Y) → flat_map f (cons_option o ys) ≡ part f o ++ flat_map f ys
unfolding part
part-listed f None ys = refl
part-listed f (Some y) ys = refl

-- what gives nothing may be left out
flat_map-kept : {X Y Z : Type 0} (f : Y → List Z) (h : X → Option Y) (g : X → List Z) (xs : List X) → ((x : X) → g x ≡ part f (h x))
    → flat_map g xs ≡ flat_map f (filter_map h xs)
flat_map-kept f h g [] same = refl
flat_map-kept f h g (x ∷ xs) same =
    ap (λ zs. zs ++ flat_map g xs) (same x)
    ∙ (ap (λ zs. part f (h x) ++ zs) (flat_map-kept f h g xs same) ∙ sym (part-listed f (h x) (filter_map h xs)))

-- ---- the members of a stack

-- a surface's own window
own-told : (owner : Owner) (surface : ℕ) (corner : Place) (v : Values) (o : Option Buffer) (window : TreeWindow) → window_with owner.root surface corner v o ≡ Some window
    → map told_of (asked_with owner surface corner v o) ≡ window ∷ []
own-told owner surface corner v None window e = absurd (cc)
own-told owner surface corner v (Some b) window e = cc

-- it is where the surface's corner is
own-x : (owner : Owner) (surface : ℕ) (corner : Place) (v : Values) (o : Option Buffer) (window : TreeWindow) → window_with owner.root surface corner v o ≡ Some window → corner.x ≡ window.x
own-x owner surface corner v None window e = absurd (cc)
own-x owner surface corner v (Some b) window e = cc

own-y : (owner : Owner) (surface : ℕ) (corner : Place) (v : Values) (o : Option Buffer) (window : TreeWindow) → window_with owner.root surface corner v o ≡ Some window → corner.y ≡ window.y
own-y owner surface corner v None window e = absurd (cc)
own-y owner surface corner v (Some b) window e = cc

-- it is of the tree of its root
with-root : (root surface : ℕ) (corner : Place) (v : Values) (o : Option Buffer) (window : TreeWindow) → window_with root surface corner v o ≡ Some window → window.root ≡ root
with-root root surface corner v None window e = absurd (cc)
with-root root surface corner v (Some b) window e = cc

pub own-root : (all : Surfaces) (root surface : ℕ) (place : Place) (window : TreeWindow) → window_at all root surface place ≡ Some window → window.root ≡ root
own-root all root surface place window e = at (history_in surface all) e
  where
    at : (o : Option History) → option_and_then (window_in root surface place) o ≡ Some window → window.root ≡ root
    at None f = absurd (cc)
    at (Some h) f = with-root root surface (corner_at place h) (applied h) (applied h).buffer window f

-- the windows of a child whose link lives, or has ended
child-told : (next : ℕ → Place → List Window) (parent : History) (corner : Place) (window : TreeWindow) (l : ℕ) (link : Option Link) → corner.x ≡ window.x → corner.y ≡ window.y
    → map told_of (child_windows next parent corner l link)
    ≡ part (placed_windows (λ child at. map told_of (next child at)) window) (place_of (λ number. kid_of link) (counting parent) (Child l))
unfolding part
child-told next parent corner window l None ex ey = refl
child-told next parent corner window l (Some link) ex ey = by link.has_ended
  where
    by : (b : Bool) → map told_of (if b then [] else next link.child (record { x = corner.x +ℤ (position l (counting parent)).0; y = corner.y +ℤ (position l (counting parent)).1 }))
        ≡ part (placed_windows (λ child at. map told_of (next child at)) window) (place_of (λ number. cond b None (Some link.child)) (counting parent) (Child l))
    by true = refl
    by false =
        ap₂ (λ x y. map told_of (next link.child (record { x = x +ℤ (position l (counting parent)).0; y = y +ℤ (position l (counting parent)).1 }))) ex ey

-- the windows of a member
member-told : (next : ℕ → Place → List Window) (owner : Owner) (all : Surfaces) (surface : ℕ) (h : History) (corner : Place) (window : TreeWindow)
    → window_with owner.root surface corner (applied h) (applied h).buffer ≡ Some window → (m : Member)
    → map told_of (asked_windows next owner all surface h corner m)
    ≡ part (placed_windows (λ child at. map told_of (next child at)) window) (place_of (kids_of all) (counting h) m)
unfolding part
member-told next owner all surface h corner window e Itself = own-told owner surface corner (applied h) (applied h).buffer window e
member-told next owner all surface h corner window e (Child l) =
    child-told next h corner window l (link_at l all)
    (own-x owner surface corner (applied h) (applied h).buffer window e)
    (own-y owner surface corner (applied h) (applied h).buffer window e)

-- ---- a surface with its tree

-- a surface that shows a buffer
shown-told : (next : ℕ → Place → List Window) (owner : Owner) (all : Surfaces) (surface : ℕ) (h : History) (corner : Place) (window : TreeWindow) (o : Option Buffer)
    → window_with owner.root surface corner (applied h) o ≡ Some window → window_with owner.root surface corner (applied h) (applied h).buffer ≡ Some window
    → map told_of (shown_windows next owner all surface h corner o)
    ≡ flat_map (placed_windows (λ child at. map told_of (next child at)) window) (stack_by (kids_of all) (counting h))
shown-told next owner all surface h corner window None e own = absurd (cc)
shown-told next owner all surface h corner window (Some b) e own =
    map-flat_map told_of (asked_windows next owner all surface h corner) (order (counting h))
    ∙ flat_map-kept (placed_windows (λ child at. map told_of (next child at)) window) (place_of (kids_of all) (counting h))
    (λ m. map told_of (asked_windows next owner all surface h corner m)) (order (counting h)) (member-told next owner all surface h corner window own)

surface-told : (next : ℕ → Place → List Window) (owner : Owner) (all : Surfaces) (surface : ℕ) (place : Place) (window : TreeWindow) (o : Option History)
    → option_and_then (window_in owner.root surface place) o ≡ Some window
    → map told_of (surface_windows next owner all surface place o)
    ≡ flat_map (placed_windows (λ child at. map told_of (next child at)) window) (stacks_at (kids_of all) o).applied
surface-told next owner all surface place window None e = absurd (cc)
surface-told next owner all surface place window (Some h) e = shown-told next owner all surface h (corner_at place h) window (applied h).buffer e e

-- one that shows none
shown-hidden : (next : ℕ → Place → List Window) (owner : Owner) (all : Surfaces) (surface : ℕ) (h : History) (corner : Place) (o : Option Buffer)
    → window_with owner.root surface corner (applied h) o ≡ None → map told_of (shown_windows next owner all surface h corner o) ≡ []
shown-hidden next owner all surface h corner None e = refl
shown-hidden next owner all surface h corner (Some b) e = absurd (cc)

surface-hidden : (next : ℕ → Place → List Window) (owner : Owner) (all : Surfaces) (surface : ℕ) (place : Place) (o : Option History)
    → option_and_then (window_in owner.root surface place) o ≡ None → map told_of (surface_windows next owner all surface place o) ≡ []
surface-hidden next owner all surface place None e = refl
surface-hidden next owner all surface place (Some h) e = shown-hidden next owner all surface h (corner_at place h) (applied h).buffer e

-- ---- trees

told-zero : (owner : Owner) (all : Surfaces) (surface : ℕ) (place : Place) → told_tree 0 owner all surface place ≡ []
unfolding tree
told-zero owner all surface place = refl

hidden-nothing : (levels : ℕ) (owner : Owner) (all : Surfaces) (surface : ℕ) (place : Place) → window_at all owner.root surface place ≡ None
    → told_tree levels owner all surface place ≡ []
unfolding tree
hidden-nothing zero owner all surface place e = refl
hidden-nothing (suc levels) owner all surface place e =
    surface-hidden (λ child at. tree levels owner all child at) owner all surface place (history_in surface all) e

told-next : (levels : ℕ) (owner : Owner) (all : Surfaces) (surface : ℕ) (place : Place) (window : TreeWindow) → window_at all owner.root surface place ≡ Some window
    → told_tree (suc levels) owner all surface place
    ≡ flat_map (placed_windows (told_tree levels owner all) window) (stacks_at (kids_of all) (history_in surface all)).applied
unfolding tree
told-next levels owner all surface place window e =
    surface-told (λ child at. tree levels owner all child at) owner all surface place window (history_in surface all) e

told-shown : (slots : Slots) (tied : Tied) (all : Surfaces) (levels less : ℕ) (owner : Owner) (surface : ℕ) (place : Place) (window : TreeWindow) (stack : List Placed)
    → Stand slots tied all → levels ≡ suc less → window_at all owner.root surface place ≡ Some window → whole stack ≡ (stacks_in tied surface).applied
    → told_tree levels owner all surface place ≡ flat_map (placed_windows (told_tree less owner all) window) (whole stack)
told-shown slots tied all levels less owner surface place window stack stand e shown kept =
    ap (λ n. told_tree n owner all surface place) e
    ∙ (told-next less owner all surface place window shown
    ∙ ap (flat_map (placed_windows (told_tree less owner all) window)) (sym (kept ∙ ap (λ s. s.applied) (stand.hang.0.stacks surface))))

-- ---- the list that the windows come to

none-behind : (was more : List TreeWindow) → more ≡ [] → was ≡ was ++ more
none-behind was more e = sym (ap (λ ws. was ++ ws) e ∙ append-nil was)

same-behind : (was more told now : List TreeWindow) → now ≡ was ++ more → told ≡ more → now ≡ was ++ told
same-behind was more told now e same = e ∙ ap (λ ws. was ++ ws) (sym same)

-- nothing at level 0
pub told-nothing : (levels : ℕ) (owner : Owner) (all : Surfaces) (surface : ℕ) (place : Place) (was : List TreeWindow) → levels ≡ 0
    → was ≡ was ++ told_tree levels owner all surface place
told-nothing levels owner all surface place was e =
    none-behind was (told_tree levels owner all surface place) (ap (λ n. told_tree n owner all surface place) e ∙ told-zero owner all surface place)

-- nothing of a surface that is hidden
pub told-hidden : (levels : ℕ) (owner : Owner) (all : Surfaces) (surface : ℕ) (place : Place) (shown : Option TreeWindow) (was : List TreeWindow)
    → shown ≡ window_at all owner.root surface place → shown ≡ None → was ≡ was ++ told_tree levels owner all surface place
told-hidden levels owner all surface place shown was is none =
    none-behind was (told_tree levels owner all surface place) (hidden-nothing levels owner all surface place (sym is ∙ none))

-- a surface without children
pub told-alone : (slots : Slots) (tied : Tied) (all : Surfaces) (levels less : ℕ) (owner : Owner) (surface : ℕ) (place : Place) (shown : Option TreeWindow)
    (window : TreeWindow) (stack : List Placed) (is_empty : Bool) (was now : List TreeWindow) → Stand slots tied all → levels ≡ suc less
    → shown ≡ window_at all owner.root surface place → shown ≡ Some window → whole stack ≡ (stacks_in tied surface).applied → is_empty ≡ (length stack == 0)
    → is_empty ≡ true → now ≡ was ++ window ∷ [] → now ≡ was ++ told_tree levels owner all surface place
told-alone slots tied all levels less owner surface place shown window [] is_empty was now stand e is some kept empty test added =
    same-behind was (window ∷ []) (told_tree levels owner all surface place) now added
    (told-shown slots tied all levels less owner surface place window [] stand e (sym is ∙ some) kept)
told-alone slots tied all levels less owner surface place shown window (p ∷ ps) is_empty was now stand e is some kept empty test added =
    absurd (grind (arith, nat_tests))

-- one with children
pub told-stack : (slots : Slots) (tied : Tied) (all : Surfaces) (levels less : ℕ) (owner : Owner) (surface : ℕ) (place : Place) (shown : Option TreeWindow)
    (window : TreeWindow) (stack : List Placed) (is_empty : Bool) (was now : List TreeWindow) → Stand slots tied all → levels ≡ suc less
    → shown ≡ window_at all owner.root surface place → shown ≡ Some window → whole stack ≡ (stacks_in tied surface).applied → is_empty ≡ (length stack == 0)
    → is_empty ≡ false → now ≡ was ++ flat_map (placed_windows (told_tree less (rooted window.root owner) all) window) stack
    → now ≡ was ++ told_tree levels owner all surface place
told-stack slots tied all levels less owner surface place shown window [] is_empty was now stand e is some kept empty test added = absurd (cc)
told-stack slots tied all levels less owner surface place shown window (p ∷ ps) is_empty was now stand e is some kept empty test added =
    same-behind was (flat_map (placed_windows (told_tree less owner all) window) (p ∷ ps)) (told_tree levels owner all surface place) now
    (added
    ∙ ap (λ n. was ++ flat_map (placed_windows (told_tree less (rooted n owner) all) window) (p ∷ ps))
    (own-root all owner.root surface place window (sym is ∙ some)))
    (told-shown slots tied all levels less owner surface place window (p ∷ ps) stand e (sym is ∙ some) kept)

-- one place of the stack more
pub more-behind : (f : Placed → List TreeWindow) (stack : List Placed) (i : ℕ) (d : Placed) (was mid now : List TreeWindow) → i < length stack
    → mid ≡ was ++ flat_map f (take i stack) → now ≡ mid ++ f (slice_index_or stack i d) → now ≡ was ++ flat_map f (take (i + 1) stack)
more-behind f stack i d was mid now less so_far next =
    next
    ∙ (ap (λ ws. ws ++ f (slice_index_or stack i d)) so_far
    ∙ (flat_map_more f was (take i stack) (slice_index_or stack i d)
    ∙ ap (λ ps. was ++ flat_map f ps) (sym (take_more stack i d less))))

pub continues-next : (was mid now : List TreeWindow) → Continues was mid → Continues mid now → Continues was now
continues-next was mid now first second =
    (first.0 ++ second.0, second.1 ∙ (ap (λ ws. ws ++ second.0) first.1 ∙ append_assoc was first.0 second.0))

-- ---- the room that they take

-- one that failed didn't succeed
pub failed-not : {P : Type 0} → false ≡ true → P
failed-not e = absurd (cc)

-- where the windows of a whole stack have room, those of its next place don't fail
pub next-fits : {P : Type 0} (f : Placed → List TreeWindow) (stack : List Placed) (i : ℕ) (d : Placed) (was mid : List TreeWindow) (room now : ℕ)
    → i < length stack → mid ≡ was ++ flat_map f (take i stack) → length was + length (flat_map f stack) ≤ room → room ≤ now
    → (length mid + length (f (slice_index_or stack i d)) ≤ now → false ≡ true) → P
next-fits f stack i d was mid room now less so_far fits kept fails =
    failed-not (fails (omega (arith, length-flat_map-take f stack i d less, ap length so_far ∙ length-append was (flat_map f (take i stack)))))

-- what comes to the same takes the same room
pub same-fits : (was more told : List TreeWindow) (room : ℕ) → was ++ more ≡ was ++ told → length was + length told ≤ room → length was + length more ≤ room
same-fits was more told room e fits = omega (arith, sym (length-append was more) ∙ (ap length e ∙ length-append was told))

-- no position from a corner
pub place-there : (root : ℕ) (x y a b : ℤ) → a ≡ x → b ≡ y
    → place_beside (record { root = root; corner = record { x = a; y = b }; position = record { x = pos 0; y = pos 0 } }) ≡ record { x = x; y = y }
place-there root x y a b ex ey =
    let first : a +ℤ pos 0 ≡ a = omega (arith, ints) in
    let second : b +ℤ pos 0 ≡ b = omega (arith, ints) in
    ap₂ (λ (i j : ℤ). record { x = i; y = j }) (first ∙ ex) (second ∙ ey)

-- the windows of a tree at the place of its root
pub root-told : (all : Surfaces) (owner : Owner) (root : ℕ) (x y a b : ℤ) (was now : List TreeWindow) → a ≡ x → b ≡ y
    → now ≡ was ++ told_tree 17 owner all root (place_beside (record { root = root; corner = record { x = a; y = b }; position = record { x = pos 0; y = pos 0 } }))
    → now ≡ was ++ told_tree 17 owner all root (record { x = x; y = y })
root-told all owner root x y a b was now ex ey e =
    e ∙ ap (λ (place : Place). was ++ told_tree 17 owner all root place) (place-there root x y a b ex ey)

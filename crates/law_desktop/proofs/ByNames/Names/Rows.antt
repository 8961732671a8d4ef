-- Worked examples, computed on the definitions.
use Rattle.std.proofs.Common.{◌≡◌, ℕ, ◌+◌, true, false, [], ◌∷◌, refl, arith}
use Rattle.std.proofs.lemmas.List.Elements.{All-nil}
use Rattle.wl_surface.specs.Surfaces.{Surfaces, no_surfaces, with_new}
use Rattle.wl_surface.specs.Trees.{applied_tree, children_of, depth, destroyed_in, height, linked, unlinked}
use Rattle.law_desktop.specs.Renaming.{HasEnds, IsRenaming, renamed}
use Rattle.law_desktop.proofs.ByNames.Names.Done.{creates-surface, destroys-surface, links-surfaces}

-- each id is ten more
abbrev ten_more : ℕ → ℕ
ten_more id = id + 10

-- three surfaces, the second below the first, and the third below the second
abbrev three : Surfaces
three = with_new 9 (with_new 8 (with_new 7 no_surfaces))

abbrev chain : Surfaces
chain = linked 2 9 8 (linked 1 8 7 three)

-- ---- names

-- the links are between the new names, and what was asked of the surfaces is the same
row-links : (renamed ten_more chain).links
    ≡ record { number = 1; child = 18; parent = 17; synchronised = true; has_ended = false }
    ∷ record { number = 2; child = 19; parent = 18; synchronised = true; has_ended = false } ∷ []
row-links = refl

row-linked : renamed ten_more chain ≡ linked 2 19 18 (linked 1 18 17 (with_new 19 (with_new 18 (with_new 17 no_surfaces))))
row-linked = refl

row-children : children_of 18 (renamed ten_more chain) ≡ 19 ∷ []
row-children = refl

row-depth : depth 17 (renamed ten_more chain) 19 ≡ 2
unfolding depth
row-depth = refl

row-height : height 17 (renamed ten_more chain) 17 ≡ 2
unfolding height
row-height = refl

-- ---- changes

row-unlinked : renamed ten_more (unlinked 1 chain) ≡ unlinked 1 (renamed ten_more chain)
unfolding applied_tree
row-unlinked = refl

-- once the second is destroyed no link lives
row-destroyed : (destroyed_in 18 (renamed ten_more chain)).links
    ≡ record { number = 1; child = 18; parent = 17; synchronised = true; has_ended = true }
    ∷ record { number = 2; child = 19; parent = 18; synchronised = true; has_ended = true } ∷ []
unfolding applied_tree
row-destroyed = refl

-- ---- by the laws the names tell these surfaces apart

row-none : IsRenaming ten_more no_surfaces
row-none = record { apart = λ a b here there same. absurd (cc); ends = All-nil (HasEnds no_surfaces) }

row-three : IsRenaming ten_more three
row-three =
    let one = creates-surface ten_more no_surfaces row-none 7 (λ a there same. omega arith) in
    let two = creates-surface ten_more (with_new 7 no_surfaces) one.still 8 (λ a there same. omega arith) in
    (creates-surface ten_more (with_new 8 (with_new 7 no_surfaces)) two.still 9 (λ a there same. omega arith)).still

row-chain : IsRenaming ten_more chain
row-chain =
    let one = links-surfaces ten_more three row-three 1 8 7 refl refl in
    (links-surfaces ten_more (linked 1 8 7 three) one.still 2 9 8 refl refl).still

row-gone : IsRenaming ten_more (destroyed_in 8 chain)
row-gone = (destroys-surface ten_more chain row-chain 8 refl).still

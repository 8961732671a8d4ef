-- Whether a surface is mapped, and the windows of a tree, from what is kept.
use Rattle.std.proofs.Common.{◌≡◌, ◌==◌, ◌&&◌, ℕ, zero, suc, Bool, true, false, Option, Some, None, List, [], ◌∷◌, ◌++◌, flat_map, fold, length, take}
use Rattle.std.proofs.Common.{refl, ap, sym, ◌∙◌, arith}
use Rattle.std.specs.Prelude.{◌<◌, ◌+◌, find, if◌then◌else◌, is_some, slice_index_or}
use Rattle.std.proofs.lemmas.Bool.Decides.{nat_tests}
use Rattle.std.proofs.lemmas.List.{append-nil, flat_map_more, take_more}
use Rattle.std.proofs.lemmas.List.Sums.{fold-append}
use Rattle.wl_links.specs.declared.link.Link.{Link}
use Rattle.wl_links.specs.declared.placed.Member.TheVariants.{Child}
use Rattle.wl_links.specs.declared.placed.Placed.{Placed}
use Rattle.wl_links.specs.Family.{Links, Tied, links_in, stacks_in}
use Rattle.wl_links.specs.Stacks.{Stacks, is_of, whole}
use Rattle.wl_surface.specs.Applied.{is_shown_at}
use Rattle.wl_surface.specs.Linked.{Stand}
use Rattle.wl_surface.specs.Slots.{Slots}
use Rattle.wl_surface.specs.Surfaces.{Surfaces, surface_at}
use Rattle.wl_surface.specs.TreeLaws.{links_of}
use Rattle.wl_surface.specs.Seen.{windows_at}
use Rattle.wl_surface.specs.Whole.{is_mapped, is_root_or, member_windows, place_by, stack_of, windows}

-- ---- what is kept

-- a list without places stands for the surface alone
pub placed-whole : (child : ℕ) (places : List Placed) → find (is_of (Child child)) places ≡ find (is_of (Child child)) (whole places)
placed-whole child [] = refl
placed-whole child (p ∷ ps) = refl

module _ (slots : Slots) (tied : Tied) (all : Surfaces) (stand : Stand slots tied all) where
  pub stack-kept : (surface : ℕ) → (stacks_in tied surface).applied ≡ stack_of all surface
  stack-kept surface = ap (λ (s : Stacks). s.applied) (stand.hang.0.stacks surface)

  pub place-kept : (surface : ℕ) (link : Link) (place : Option Placed) → place ≡ find (is_of (Child surface)) (stacks_in tied link.parent).applied
      → place ≡ place_by all surface (Some link)
  place-kept surface link place e = e ∙ ap (find (is_of (Child surface))) (stack-kept link.parent)

  -- ---- whether a surface is mapped

  module _ (levels surface : ℕ) where
    pub mapped-zero : levels ≡ 0 → false ≡ is_mapped levels all surface
    unfolding is_mapped
    mapped-zero e = sym (ap (λ n. is_mapped n all surface) e)

    pub mapped-hidden : (shown : Bool) → shown ≡ is_shown_at (surface_at surface all) → shown ≡ false → false ≡ is_mapped levels all surface
    unfolding is_mapped
    mapped-hidden shown is hidden = sym (at levels)
      where
        at : (n : ℕ) → is_mapped n all surface ≡ false
        at zero = refl
        at (suc n) = ap (λ b. b && is_root_or (λ parent. is_mapped n all parent) all surface (links_of all surface)) (sym is ∙ hidden)

    mapped-next : (less : ℕ) (shown : Bool) (link : Option Link) → levels ≡ suc less → shown ≡ is_shown_at (surface_at surface all) → shown ≡ true → link ≡ links_in tied surface
        → is_mapped levels all surface ≡ is_root_or (λ parent. is_mapped less all parent) all surface link
    unfolding is_mapped
    mapped-next less shown link e is is_so kept =
        ap (λ n. is_mapped n all surface) e
        ∙ (at less
        ∙ (ap (λ b. b && is_root_or (λ parent. is_mapped less all parent) all surface (links_of all surface)) (sym is ∙ is_so)
        ∙ ap (is_root_or (λ parent. is_mapped less all parent) all surface) (sym (kept ∙ stand.hang.0.links surface))))
      where
        at : (n : ℕ) → is_mapped (suc n) all surface ≡ (is_shown_at (surface_at surface all) && is_root_or (λ parent. is_mapped n all parent) all surface (links_of all surface))
        at n = refl

    pub mapped-root : (less : ℕ) (shown : Bool) (link : Option Link) → levels ≡ suc less → shown ≡ is_shown_at (surface_at surface all) → shown ≡ true → link ≡ links_in tied surface
        → link ≡ None → true ≡ is_mapped levels all surface
    mapped-root less shown link e is is_so kept none =
        sym (mapped-next less shown link e is is_so kept ∙ ap (is_root_or (λ parent. is_mapped less all parent) all surface) none)

    pub mapped-away : (less : ℕ) (shown : Bool) (link : Option Link) (l : Link) (added : Bool) → levels ≡ suc less → shown ≡ is_shown_at (surface_at surface all) → shown ≡ true
        → link ≡ links_in tied surface → link ≡ Some l → added ≡ is_some (find (is_of (Child surface)) (stacks_in tied l.parent).applied) → added ≡ false
        → false ≡ is_mapped levels all surface
    mapped-away less shown link l added e is is_so kept some found none =
        sym (mapped-next less shown link e is is_so kept ∙ (ap (is_root_or (λ parent. is_mapped less all parent) all surface) some
        ∙ ap (λ b. b && is_mapped less all l.parent) (sym (found ∙ ap is_some (place-kept surface l _ refl)) ∙ none)))

    pub mapped-above : (less : ℕ) (shown : Bool) (link : Option Link) (l : Link) (added : Bool) → levels ≡ suc less → shown ≡ is_shown_at (surface_at surface all) → shown ≡ true
        → link ≡ links_in tied surface → link ≡ Some l → added ≡ is_some (find (is_of (Child surface)) (stacks_in tied l.parent).applied) → added ≡ true
        → (is : Bool) → is ≡ is_mapped less all l.parent → is ≡ is_mapped levels all surface
    mapped-above less shown link l added e is is_so kept some found test b above =
        above ∙ sym (mapped-next less shown link e is is_so kept ∙ (ap (is_root_or (λ parent. is_mapped less all parent) all surface) some
        ∙ ap (λ b. b && is_mapped less all l.parent) (sym (found ∙ ap is_some (place-kept surface l _ refl)) ∙ test)))

    -- the same, where its place is known
    pub mapped-unplaced : (less : ℕ) (shown : Bool) (link : Option Link) (l : Link) (place : Option Placed) → levels ≡ suc less → shown ≡ is_shown_at (surface_at surface all)
        → shown ≡ true → link ≡ links_in tied surface → link ≡ Some l → place ≡ place_by all surface link → place ≡ None → false ≡ is_mapped levels all surface
    mapped-unplaced less shown link l place e is is_so kept some placed none =
        sym (mapped-next less shown link e is is_so kept ∙ (ap (is_root_or (λ parent. is_mapped less all parent) all surface) some
        ∙ ap (λ (o : Option Placed). is_some o && is_mapped less all l.parent) (sym (placed ∙ ap (place_by all surface) some) ∙ none)))

    pub mapped-placed : (less : ℕ) (shown : Bool) (link : Option Link) (l : Link) (place : Option Placed) (p : Placed) → levels ≡ suc less
        → shown ≡ is_shown_at (surface_at surface all) → shown ≡ true → link ≡ links_in tied surface → link ≡ Some l → place ≡ place_by all surface link → place ≡ Some p
        → (is : Bool) → is ≡ is_mapped less all l.parent → is ≡ is_mapped levels all surface
    mapped-placed less shown link l place p e is is_so kept some placed there b above =
        above ∙ sym (mapped-next less shown link e is is_so kept ∙ (ap (is_root_or (λ parent. is_mapped less all parent) all surface) some
        ∙ ap (λ (o : Option Placed). is_some o && is_mapped less all l.parent) (sym (placed ∙ ap (place_by all surface) some) ∙ there)))

    -- ---- the windows of a tree

    pub windows-zero : levels ≡ 0 → windows levels all surface ≡ []
    unfolding windows
    windows-zero e = ap (λ n. windows n all surface) e ∙ at
      where
        at : windows 0 all surface ≡ []
        at = refl

    pub windows-hidden : (shown : Bool) → shown ≡ is_shown_at (surface_at surface all) → shown ≡ false → windows levels all surface ≡ []
    unfolding windows
    windows-hidden shown is hidden = at levels
      where
        at : (n : ℕ) → windows n all surface ≡ []
        at zero = refl
        at (suc n) =
            ap (λ b. if b then flat_map (λ (p : Placed). member_windows (λ child. windows n all child) surface p.member) (stack_of all surface) else []) (sym is ∙ hidden)

    pub windows-shown : (less : ℕ) (shown : Bool) (stack : List Placed) → levels ≡ suc less → shown ≡ is_shown_at (surface_at surface all) → shown ≡ true
        → whole stack ≡ (stacks_in tied surface).applied → windows levels all surface ≡ flat_map (windows_at less all surface) (whole stack)
    unfolding windows
    windows-shown less shown stack e is is_so kept =
        ap (λ n. windows n all surface) e
        ∙ (at less
        ∙ (ap (λ b. if b then flat_map (windows_at less all surface) (stack_of all surface) else []) (sym is ∙ is_so)
        ∙ ap (flat_map (windows_at less all surface)) (sym (kept ∙ stack-kept surface))))
      where
        at : (n : ℕ) → windows (suc n) all surface ≡ (if is_shown_at (surface_at surface all) then flat_map (windows_at n all surface) (stack_of all surface) else [])
        at n = refl

    pub windows-alone : (less : ℕ) (shown : Bool) (stack : List Placed) (is_empty : Bool) → levels ≡ suc less → shown ≡ is_shown_at (surface_at surface all) → shown ≡ true
        → whole stack ≡ (stacks_in tied surface).applied → is_empty ≡ (length stack == 0) → is_empty ≡ true → windows levels all surface ≡ surface ∷ []
    windows-alone less shown [] is_empty e is is_so kept empty test = windows-shown less shown [] e is is_so kept
    windows-alone less shown (p ∷ ps) is_empty e is is_so kept empty test = absurd (grind (arith, nat_tests))

    pub windows-stack : (less : ℕ) (shown : Bool) (stack : List Placed) (is_empty : Bool) → levels ≡ suc less → shown ≡ is_shown_at (surface_at surface all) → shown ≡ true
        → whole stack ≡ (stacks_in tied surface).applied → is_empty ≡ (length stack == 0) → is_empty ≡ false
        → windows levels all surface ≡ flat_map (windows_at less all surface) stack
    windows-stack less shown [] is_empty e is is_so kept empty test = absurd (cc)
    windows-stack less shown (p ∷ ps) is_empty e is is_so kept empty test = windows-shown less shown (p ∷ ps) e is is_so kept

-- ---- lists

-- nothing comes behind
pub none-behind : (was more : List ℕ) → more ≡ [] → was ≡ was ++ more
none-behind was more e = sym (ap (λ ws. was ++ ws) e ∙ append-nil was)

-- one place of the stack more
pub more-behind : (f : Placed → List ℕ) (stack : List Placed) (i : ℕ) (d : Placed) (was mid now : List ℕ) → i < length stack
    → mid ≡ was ++ flat_map f (take i stack) → now ≡ mid ++ f (slice_index_or stack i d) → now ≡ was ++ flat_map f (take (i + 1) stack)
more-behind f stack i d was mid now less so_far next =
    next
    ∙ (ap (λ ws. ws ++ f (slice_index_or stack i d)) so_far
    ∙ (flat_map_more f was (take i stack) (slice_index_or stack i d)
    ∙ ap (λ ps. was ++ flat_map f ps) (sym (take_more stack i d less))))

-- the same, as what is met of it
pub meets-more : {X : Type 0} (step : X → ℕ → X) (at mid now : X) (f : Placed → List ℕ) (stack : List Placed) (i : ℕ) (d : Placed) → i < length stack
    → mid ≡ fold step at (flat_map f (take i stack)) → now ≡ fold step mid (f (slice_index_or stack i d)) → now ≡ fold step at (flat_map f (take (i + 1) stack))
meets-more step at mid now f stack i d less so_far next =
    next
    ∙ (ap (λ x. fold step x (f (slice_index_or stack i d))) so_far
    ∙ (sym (fold-append step at (flat_map f (take i stack)) (f (slice_index_or stack i d)))
    ∙ ap (fold step at) (more-behind f stack i d [] (flat_map f (take i stack)) (flat_map f (take i stack) ++ f (slice_index_or stack i d)) less refl refl)))

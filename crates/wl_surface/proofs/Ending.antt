-- The end of a link, and a child that isn't synchronised any more.
use Rattle.std.proofs.Common.{◌≡◌, ℕ, zero, suc, ◌==◌, ◌||◌, Bool, true, false, Option, Some, None, List, refl, ap, sym, subst, ◌∙◌}
use Rattle.std.specs.Prelude.{◌&&◌, if◌then◌else◌, is_some, not}
use Rattle.std.specs.Option.{option_map, option_map_or}
use Rattle.std.proofs.Math.Path.{fun_ext}
use Rattle.std.proofs.lemmas.Bool.{eqb-true}
use Rattle.wl_links.specs.declared.trees.Place.{Place}
use Rattle.wl_links.specs.Trees.{has_place, is_under}
use Rattle.wl_links.specs.declared.link.Link.{Link as KeptLink}
use Rattle.wl_links.specs.Family.{Links, Tied, behaves_synchronised as behaves_by, changed_at, in_mode as kept_mode, is_there, left, links_in, parents_of, stacks_in, unlinked}
use Rattle.wl_surface.specs.Slots.{Slots}
use Rattle.wl_surface.specs.Surfaces.{Link, Surfaces}
use Rattle.wl_surface.specs.Trees.{applied_tree, applied_unless, behaves_synchronised, descends_from, desynchronised_in, ended_in, ending, in_mode, levels, released_in, with_link}
use Rattle.wl_surface.proofs.Linking.{ends-link, sets-mode}
use Rattle.wl_surface.proofs.Placing.{kept-link, numbered as number-found}
use Rattle.wl_surface.specs.Linked.{IsLink, Stand}
use Rattle.wl_surface.specs.Tree.{is_among, is_released}
use Rattle.wl_surface.proofs.Committing.{same-mode}

none-of : {X : Type 0} (o : Option X) → is_some o ≡ false → o ≡ None
none-of None e = refl
none-of (Some x) e = absurd (cc)

-- A living link is kept.
pub never-none : {X : Type 0} (slots : Slots) (tied : Tied) (all : Surfaces) (number child : ℕ) (link : Link) (kept : Option KeptLink) → IsLink all number child link → Stand slots tied all
    → kept ≡ links_in tied child → is_some kept ≡ false → X
never-none slots tied all number child link kept is stand e none =
    absurd (gone (sym (kept-link tied all number link stand.hang is.here is.lives) ∙ ap (links_in tied) is.of_child ∙ sym e ∙ none-of kept none))
  where
    gone : {l : KeptLink} → Some l ≡ None → ⊥
    gone f = absurd (cc)

-- ---- the end of a link

under-unlinked : (n : ℕ) (links : Links) (child x : ℕ) → is_under n (parents_of (unlinked child links)) child x ≡ is_under n (parents_of links) child x
unfolding is_under
under-unlinked zero links child x = refl
under-unlinked (suc n) links child x = at (λ y. under-unlinked n links child y) (x == child)
  where
    below : ((y : ℕ) → is_under n (parents_of (unlinked child links)) child y ≡ is_under n (parents_of links) child y) → (o : Option KeptLink)
        → option_map_or (λ parent. is_under n (parents_of (unlinked child links)) child parent) (option_map (λ (l : KeptLink). l.parent) o) false
        ≡ option_map_or (λ parent. is_under n (parents_of links) child parent) (option_map (λ (l : KeptLink). l.parent) o) false
    below later None = refl
    below later (Some l) = later l.parent

    at : ((y : ℕ) → is_under n (parents_of (unlinked child links)) child y ≡ is_under n (parents_of links) child y) → (b : Bool)
        → (b || option_map_or (λ parent. is_under n (parents_of (unlinked child links)) child parent) (option_map (λ (l : KeptLink). l.parent) (if b then None else links x)) false)
        ≡ (b || option_map_or (λ parent. is_under n (parents_of links) child parent) (parents_of links x) false)
    at later true = refl
    at later false = below later (links x)

module _ (slots : Slots) (tied mid : Tied) (all : Surfaces) (number child : ℕ) (link : Link) (below : List ℕ) (is : IsLink all number child link) (stand : Stand slots tied all)
    (links : links_in mid ≡ unlinked child (links_in tied)) (there : (n : ℕ) → is_there n mid ≡ is_there n tied)
    (stacks : stacks_in mid ≡ left child (links_in tied child) (stacks_in tied)) (those : (n : ℕ) → is_among below n ≡ is_under 16 (parents_of (links_in tied)) child n) where
  pub ended-is : ended_in all link ≡ applied_tree levels child (with_link number ending all)
  ended-is =
      ap (λ n. applied_tree levels link.child (with_link n ending all)) (number-found number all.links link is.here) ∙ ap (λ c. applied_tree levels c (with_link number ending all)) is.of_child

  pub ended-stands : Stand slots mid (with_link number ending all)
  ended-stands = record {
    surfaces = stand.surfaces;
    hang = ends-link tied mid all number link is.here is.lives (subst (λ c. links_in mid ≡ unlinked c (links_in tied)) (sym is.of_child) links)
        (subst (λ c. stacks_in mid ≡ left c (links_in tied c) (stacks_in tied)) (sym is.of_child) stacks) stand.hang;
    there = λ n e. stand.there n (sym (there n) ∙ e);
  }

  pub ended-those : (n : ℕ) → is_among below n ≡ is_under 16 (parents_of (links_in mid)) child n
  ended-those n = those n ∙ sym (under-unlinked 16 (links_in tied) child n) ∙ ap (λ (ls : Links). is_under 16 (parents_of ls) child n) (sym links)

-- ---- a mode

parents-still : (child x : ℕ) (b : Bool) (links : Links) → parents_of (changed_at child (option_map (kept_mode b)) links) x ≡ parents_of links x
parents-still child x b links = at (x == child) refl
  where
    turned : (o : Option KeptLink) → option_map (λ (l : KeptLink). l.parent) (option_map (kept_mode b) o) ≡ option_map (λ (l : KeptLink). l.parent) o
    turned None = refl
    turned (Some l) = refl

    at : (same : Bool) → (x == child) ≡ same → option_map (λ (l : KeptLink). l.parent) (if same then option_map (kept_mode b) (links child) else links x) ≡ parents_of links x
    at true e = turned (links child) ∙ ap (λ n. parents_of links n) (sym (eqb-true x child e))
    at false e = refl

module _ (slots : Slots) (tied mid : Tied) (all : Surfaces) (number child : ℕ) (link : Link) (below : List ℕ) (is : IsLink all number child link) (stand : Stand slots tied all)
    (links : links_in mid ≡ changed_at child (option_map (kept_mode false)) (links_in tied)) (places : mid.places ≡ tied.places) (stacks : stacks_in mid ≡ stacks_in tied)
    (those : (n : ℕ) → is_among below n ≡ is_under 16 (parents_of (links_in tied)) child n) where
  pub unheld-stands : Stand slots mid (with_link number (in_mode false) all)
  unheld-stands = record {
    surfaces = stand.surfaces;
    hang = sets-mode tied mid all number link false is.here is.lives (subst (λ c. links_in mid ≡ changed_at c (option_map (kept_mode false)) (links_in tied)) (sym
        is.of_child) links) stacks stand.hang;
    there = λ n e. stand.there n (subst (λ (ps : List Place). has_place n ps ≡ true) places e);
  }

  pub unheld-those : (n : ℕ) → is_among below n ≡ is_under 16 (parents_of (links_in mid)) child n
  unheld-those n =
      those n ∙ sym (ap (λ (parents : ℕ → Option ℕ). is_under 16 parents child n)
      (ap parents_of links ∙ fun_ext (λ x. parents-still child x false (links_in tied))))

  module _ (was now : Bool) (was_so : was ≡ behaves_by 17 (links_in tied) child) (now_so : now ≡ behaves_by 17 (links_in mid) child) where
    stays-is : (not (behaves_synchronised levels all child) || behaves_synchronised levels (with_link number (in_mode false) all) child) ≡ (not was || now)
    stays-is =
        ap (λ b. not b || behaves_synchronised levels (with_link number (in_mode false) all) child) (same-mode slots tied all child stand ∙ sym was_so)
        ∙ ap (λ b. not was || b) (same-mode slots mid (with_link number (in_mode false) all) child unheld-stands ∙ sym now_so)

    pub stays-so : (b : Bool) → (not was || now) ≡ b → (not (behaves_synchronised levels all child) || behaves_synchronised levels (with_link number (in_mode false) all) child) ≡ b
    stays-so b e = stays-is ∙ e

    pub desynchronised-is : (b : Bool) → (not was || now) ≡ b → desynchronised_in number all ≡ applied_unless b child (with_link number (in_mode false) all)
    desynchronised-is b e =
        ap (λ (o : Option Link). released_in o all (with_link number (in_mode false) all)) is.here
        ∙ ap (λ c. applied_unless (not (behaves_synchronised levels all c) || behaves_synchronised levels (with_link number (in_mode false) all) c) c (with_link number
        (in_mode false) all)) is.of_child
        ∙ ap (λ x. applied_unless x child (with_link number (in_mode false) all)) (stays-so b e)

    released-is : (n : ℕ) → is_released number child all n ≡ (was && (not now && descends_from 16 all child n))
    released-is n =
        ap (λ b. b && (not (behaves_synchronised levels (with_link number (in_mode false) all) child) && descends_from 16 all child n))
        (same-mode slots tied all child stand ∙ sym was_so)
        ∙ ap (λ b. was && (not b && descends_from 16 all child n)) (same-mode slots mid (with_link number (in_mode false) all) child unheld-stands ∙ sym now_so)

    pub released-so : was ≡ true → now ≡ false → (n : ℕ) → is_released number child all n ≡ descends_from 16 all child n
    released-so e f n = released-is n ∙ (ap (λ b. b && (not now && descends_from 16 all child n)) e ∙ ap (λ b. not b && descends_from 16 all child n) f)

    pub unreleased-so : (not was || now) ≡ true → (n : ℕ) → is_released number child all n ≡ false
    unreleased-so e n = released-is n ∙ by was now (descends_from 16 all child n) e
      where
        by : (a b d : Bool) → (not a || b) ≡ true → (a && (not b && d)) ≡ false
        by false b d f = refl
        by true true d f = refl
        by true false d f = absurd (cc)

-- The child behaved synchronised and doesn't any more, or it is as it was.
pub goes : (was now : Bool) → was ≡ true → now ≡ false → (not was || now) ≡ false
goes true false e f = refl
goes true true e f = absurd (cc)
goes false now e f = absurd (cc)

pub stays-now : (was now : Bool) → now ≡ true → (not was || now) ≡ true
stays-now true true f = refl
stays-now false true f = refl
stays-now was false f = absurd (cc)

pub stays-before : (was now : Bool) → was ≡ false → (not was || now) ≡ true
stays-before false now e = refl
stays-before true now e = absurd (cc)

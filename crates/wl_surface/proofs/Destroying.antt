-- A surface goes, with its links.
use Rattle.std.proofs.Common.{◌≡◌, ℕ, ◌==◌, Bool, true, false, cond, Option, Some, None, List, [], ◌∷◌, ◌++◌, refl, ap, sym, subst, ◌∙◌}
use Rattle.std.specs.Prelude.{◌&&◌, count_by, filter, find, if◌then◌else◌, is_some, map, not}
use Rattle.std.specs.Option.{option_map}
use Rattle.std.proofs.Math.Path.{fun_ext}
use Rattle.std.proofs.lemmas.Bool.{eqb-true}
use Rattle.wl_links.specs.Stacks.{Stacks}
use Rattle.wl_links.specs.declared.trees.Place.{Place}
use Rattle.wl_links.specs.Trees.{has_place, is_under}
use Rattle.wl_links.specs.Family.{HangTogether, Tied, applied, childless, is_there, left, links_in, orphaned, parents_of, stacks_in}
use Rattle.wl_surface.specs.Surface.{Surface, applying}
use Rattle.wl_surface.specs.declared.applied.Change.{Change}
use Rattle.wl_surface.specs.Applied.{AreFreed, AreGone}
use Rattle.wl_surface.specs.Slots.{IsAny, Numbered, Slots, StandForAll, shows_at, with_at}
use Rattle.wl_surface.specs.Surfaces.{Surfaces, surface_at, without_surface}
use Rattle.wl_surface.specs.Trees.{descends_from, destroyed_in, levels}
use Rattle.wl_surface.specs.Hanging.{left_without}
use Rattle.wl_surface.proofs.TreesDestroying.{destroys-surface}
use Rattle.wl_surface.proofs.TreesEnding.{ends-links}
use Rattle.wl_surface.specs.Linked.{Stand, numbered}
use Rattle.wl_surface.proofs.Marked.{gone-like, parts-like, told-like}
use Rattle.wl_surface.specs.Seen.{AreToldMarked, unmarked}
use Rattle.wl_surface.specs.Tree.{AreOnce, AreTold, IsEndTold, applied_among, is_among, shown_among, stacks_among}
use Rattle.wl_surface.proofs.Applying.{descend, found-where, freed-so, itself-below, other-than, same-there}
use Rattle.wl_surface.proofs.Refusing.{both-refuse}

-- ---- the surfaces that are left

none-left : (b : Bool) → ◌≡◌ {A = Option Surface} None (cond b None None)
none-left true = refl
none-left false = refl

found-left : (n k : ℕ) (xs : List Surface) → find (λ s. s.id == n) (filter (λ s. not (s.id == k)) xs) ≡ cond (n == k) None (find (λ s. s.id == n) xs)
found-left n k [] = none-left (n == k)
found-left n k (x ∷ xs) = at (x.id == k) (x.id == n) refl refl (found-left n k xs)
  where
    differ : true ≡ false → ⊥
    differ e = absurd (cc)

    hidden : (b : Bool) → (n == k) ≡ b → b ≡ true → None ≡ cond b None (Some x)
    hidden true e f = refl
    hidden false e f = absurd (cc)

    kept : (b : Bool) → b ≡ false → Some x ≡ cond b None (Some x)
    kept false e = refl
    kept true e = absurd (cc)

    at : (a b : Bool) → (x.id == k) ≡ a → (x.id == n) ≡ b → find (λ s. s.id == n) (filter (λ s. not (s.id == k)) xs) ≡ cond (n == k) None (find (λ s. s.id == n) xs)
        → find (λ s. s.id == n) (cond (not a) (x ∷ filter (λ s. not (s.id == k)) xs) (filter (λ s. not (s.id == k)) xs)) ≡ cond (n == k) None (cond b (Some x) (find (λ s. s.id == n) xs))
    at true true e f rest =
        let same : (n == k) ≡ true = ap (λ m. m == k) (sym (eqb-true x.id n f)) ∙ e in
        rest ∙ ap (λ b. cond b None (find (λ s. s.id == n) xs)) same ∙ hidden (n == k) refl same
    at true false e f rest = rest
    at false true e f rest =
        let same : (n == k) ≡ false = ap (λ m. m == k) (sym (eqb-true x.id n f)) ∙ e in
        ap (λ b. cond b (Some x) (find (λ s. s.id == n) (filter (λ s. not (s.id == k)) xs))) f ∙ kept (n == k) same
    at false false e f rest = ap (λ b. cond b (Some x) (find (λ s. s.id == n) (filter (λ s. not (s.id == k)) xs))) f ∙ rest

pub numbered-left : (surface : ℕ) (all : Surfaces) → numbered (without_surface surface all) ≡ with_at surface None (numbered all)
numbered-left surface all = fun_ext (λ n. found-left n surface all.surfaces)

module _ (slots mid new : Slots) (tied between after : Tied) (all : Surfaces) (surface : ℕ) (below : List ℕ) (hangs : HangTogether tied) (stand : Stand slots tied all)
    (those : (n : ℕ) → is_among below n ≡ is_under 16 (parents_of (links_in tied)) surface n) where
  descends : (n : ℕ) → is_among below n ≡ descends_from levels all surface n
  descends n = those n ∙ sym (both-refuse slots tied all surface n hangs stand).1

  pub numbered-destroyed : numbered (destroyed_in surface all) ≡ applied_among below (with_at surface None (numbered all))
  numbered-destroyed = fun_ext (λ n.
      ap (λ (a : Surfaces). surface_at n a) (ends-links all surface stand.hang.1.once stand.hang.1.apart)
      ∙ found-left n surface (map (λ s. cond (descends_from levels all surface s.id) (applying s) s) all.surfaces)
      ∙ ap (λ o. cond (n == surface) None o) (found-where n (descends_from levels all surface) all.surfaces
      ∙ ap (λ b. if b then option_map applying (surface_at n all) else surface_at n all) (sym (descends n)))
      ∙ within (n == surface) (is_among below n) (surface_at n all))
    where
      within : (gone b : Bool) (o : Option Surface) → cond gone None (if b then option_map applying o else o) ≡ (if b then option_map applying (cond gone None o) else cond gone None o)
      within true true o = refl
      within true false o = refl
      within false b o = refl

  -- nothing is left of the stacks of the surface itself
  stacks-so : stacks_in between ≡ left_without surface tied → stacks_in after ≡ stacks_among below (stacks_in between) → (n : ℕ)
      → stacks_in after n ≡ cond (descends_from 16 all surface n && not (n == surface)) (applied (left_without surface tied n)) (left_without surface tied n)
  stacks-so gone now n =
      ap (λ (ss : ℕ → Stacks). ss n) now ∙ ap (λ (ss : ℕ → Stacks). stacks_among below ss n) gone
      ∙ ap (λ b. if b then applied (left_without surface tied n) else left_without surface tied n) (descend slots new tied after all surface below stand those n)
      ∙ at (n == surface) refl (descends_from 16 all surface n)
    where
      at : (same : Bool) → (n == surface) ≡ same → (b : Bool)
          → (if b then applied (left_without surface tied n) else left_without surface tied n) ≡ cond (b && not same) (applied (left_without surface tied n)) (left_without surface tied n)
      at false e true = refl
      at false e false = refl
      at true e false = refl
      at true e true =
          let none : left_without surface tied n ≡ childless =
          ap (λ b. if b then childless else left surface (links_in tied surface) (stacks_in tied) n) e in
          ap applied none ∙ sym none

  pub destroyed-stands : StandForAll mid (with_at surface None (numbered all))
      → ((named : Numbered) → StandForAll mid named → StandForAll new (applied_among below named))
      → links_in between ≡ orphaned surface (links_in tied) → stacks_in between ≡ left_without surface tied
      → ((n : ℕ) → is_there n between ≡ (not (n == surface) && is_there n tied)) → links_in after ≡ links_in between → after.places ≡ between.places
      → stacks_in after ≡ stacks_among below (stacks_in between) → Stand new after (destroyed_in surface all)
  destroyed-stands gone stands links left there links_now places now = record {
    surfaces = subst (λ (named : Numbered). StandForAll new named) (sym numbered-destroyed) (stands (with_at surface None (numbered all)) gone);
    hang = destroys-surface tied after all surface hangs (links_now ∙ links) (stacks-so left now) stand.hang;
    there = λ n is.
        ap (λ (named : Numbered). is_some (named n)) numbered-destroyed ∙ same-there (is_among below n) (with_at surface None (numbered all) n)
        ∙ kept n (n == surface) refl (sym (there n) ∙ subst (λ (ps : List Place). has_place n ps ≡ true) places is);
  } where
    kept : (n : ℕ) (same : Bool) → (n == surface) ≡ same → (not same && is_there n tied) ≡ true → is_some (cond same None (surface_at n all)) ≡ true
    kept n true e is = absurd (cc)
    kept n false e is = stand.there n is

  pub destroyed-freed : (shown freed : List ℕ) → ((b : ℕ) → is_among shown b ≡ shown_among below (numbered all) b)
      → ((b : ℕ) (is : Bool) → IsAny (shows_at b) (numbered (destroyed_in surface all)) is → count_by (λ n. n == b) freed ≡ cond (is_among shown b && not is) 1 0)
      → AreFreed freed (numbered all) (numbered (destroyed_in surface all))
  destroyed-freed shown freed candidates counted =
      freed-so (numbered all) (numbered (destroyed_in surface all)) below shown freed candidates
      (λ n none b. ap (λ (named : Numbered). shows_at b (named n)) numbered-destroyed
      ∙ ap (λ x. shows_at b (if x then option_map applying (with_at surface None (numbered all) n) else with_at surface None (numbered all) n)) none
      ∙ ap (λ x. shows_at b (cond x None (numbered all n))) (other-than below surface n (itself-below slots new tied after all surface below stand those) none)) counted

  pub destroyed-told : {A : Type 0} (own changes before : List (Change A)) → AreGone surface (surface_at surface all) own → before ≡ own → AreOnce below
      → AreToldMarked before below (with_at surface None (numbered all)) changes → IsEndTold surface all changes
  destroyed-told own changes before gone same once told =
      let parts = parts-like own told.2.0 changes (told.1 ∙ ap (map unmarked) (told.2.1 ∙ ap (λ cs. cs ++ told.2.0) same)) in
      record {
        own = parts.one;
        others = parts.other;
        gone = gone-like surface (surface_at surface all) own parts.one parts.like_first gone;
        numbers = below;
        once = once;
        those = descend slots new tied after all surface below stand those;
        told =
            subst (λ (named : Numbered). AreTold below named parts.other) (sym (numbered-left surface all))
            (told-like below (with_at surface None (numbered all)) told.2.0 parts.other parts.like_second told.2.2);
        together = parts.together;
      }

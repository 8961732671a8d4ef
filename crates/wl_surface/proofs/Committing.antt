-- A commit, held or applied at once.
use Rattle.std.proofs.Common.{◌≡◌, ℕ, ◌==◌, Bool, true, false, cond, List, [], ◌∷◌, refl, ap, sym, subst, ◌∙◌, arith}
use Rattle.std.specs.Prelude.{◌&&◌, IfOk, Result, Ok, Err, count_by, if◌then◌else◌, not}
use Rattle.wl_surface.specs.declared.applied.Change.{Change}
use Rattle.wl_surface.specs.declared.error.SurfaceError.{SurfaceError}
use Rattle.std.specs.Option.{option_map}
use Rattle.std.proofs.Math.Path.{fun_ext}
use Rattle.wl_links.specs.declared.trees.Place.{Place}
use Rattle.wl_links.specs.Trees.{has_place, is_under}
use Rattle.wl_links.specs.Family.{Links, Tied, behaves_synchronised as behaves_by, changed_at as stacks_changed_at, committed, links_in, parents_of, stacks_in}
use Rattle.wl_surface.specs.Request.{Commit}
use Rattle.wl_surface.specs.Surface.{asking}
use Rattle.wl_surface.specs.Applied.{AreFreed}
use Rattle.wl_surface.specs.Slots.{Changes, IsAny, Numbered, Slots, StandForAll, changed_at, shows_at}
use Rattle.wl_surface.specs.Surfaces.{Surfaces, with_change}
use Rattle.wl_surface.specs.Trees.{applied_tree, applied_unless, behaves_synchronised, committed_in, descends_from, levels}
use Rattle.wl_surface.proofs.Hanging.{commits-stack}
use Rattle.wl_surface.proofs.Parents.{same-modes}
use Rattle.wl_surface.specs.Linked.{Stand, numbered}
use Rattle.wl_surface.specs.Tree.{IsCommitTold, IsTold, IsToldUnless, applied_among, is_among, is_committed, shown_among, stacks_among}
use Rattle.wl_surface.proofs.Applying.{freed-so, itself-below, numbered-so, other-than, tree-stands, unapplied}
use Rattle.wl_surface.proofs.Standing.{numbered-changed, stand-changed, there-changed}

-- what a commit makes of the surfaces, before they are applied
abbrev pub held : ℕ → Surfaces → Surfaces
held surface all = with_change surface (asking Commit) all

pub numbered-held : (surface : ℕ) (all : Surfaces) → numbered (held surface all) ≡ changed_at surface (asking Commit) (numbered all)
numbered-held surface all = fun_ext (numbered-changed all surface (asking Commit) (λ s. refl))

pub still-other : (surface n : ℕ) (all : Surfaces) → (n == surface) ≡ false → numbered (held surface all) n ≡ numbered all n
still-other surface n all e =
    numbered-changed all surface (asking Commit) (λ s. refl) n ∙ ap (λ b. cond b (option_map (asking Commit) (numbered all n)) (numbered all n)) e

pub held-stands : (slots mid : Slots) (tied between : Tied) (all : Surfaces) (surface : ℕ) → Changes slots mid surface (asking Commit)
    → stacks_in between ≡ stacks_changed_at surface committed (stacks_in tied) → between.places ≡ tied.places → links_in between ≡ links_in tied → Stand slots tied all
    → Stand mid between (held surface all)
held-stands slots mid tied between all surface changes stacks places links stand = record {
  surfaces = stand-changed mid all surface (asking Commit) (λ s. refl) (changes.stand (numbered all) stand.surfaces);
  hang = commits-stack tied between all surface links stacks stand.hang;
  there = λ n is. there-changed all surface (asking Commit) (λ s. refl) n ∙ stand.there n (subst (λ (ps : List Place). has_place n ps ≡ true) places is);
}

-- the buffers that a held commit frees
pub held-freed : (all : Surfaces) (surface : ℕ) (shown freed : List ℕ) → ((b : ℕ) → is_among shown b ≡ shown_among (surface ∷ []) (numbered all) b)
    → ((b : ℕ) (is : Bool) → IsAny (shows_at b) (numbered (held surface all)) is → count_by (λ n. n == b) freed ≡ cond (is_among shown b && not is) 1 0)
    → AreFreed freed (numbered all) (numbered (held surface all))
held-freed all surface shown freed candidates counted =
    freed-so (numbered all) (numbered (held surface all)) (surface ∷ []) shown freed candidates
    (λ n none b. ap (shows_at b) (still-other surface n all (other-than (surface ∷ []) surface n here none))) counted
  where
    here : is_among (surface ∷ []) surface ≡ true
    here = grind (arith)

module _ (slots mid new : Slots) (tied between after : Tied) (all : Surfaces) (surface : ℕ) (below : List ℕ) (changes : Changes slots mid surface (asking Commit))
    (stacks : stacks_in between ≡ stacks_changed_at surface committed (stacks_in tied)) (places : between.places ≡ tied.places) (links : links_in between ≡ links_in tied)
    (those : (n : ℕ) → is_among below n ≡ is_under 16 (parents_of (links_in tied)) surface n) (stand : Stand slots tied all) where
  pub mid-stands : Stand mid between (held surface all)
  mid-stands = held-stands slots mid tied between all surface changes stacks places links stand

  pub mid-those : (n : ℕ) → is_among below n ≡ is_under 16 (parents_of (links_in between)) surface n
  mid-those n = those n ∙ ap (λ (ls : Links). is_under 16 (parents_of ls) surface n) (sym links)

  pub now-stands : ((named : Numbered) → StandForAll mid named → StandForAll new (applied_among below named)) → links_in after ≡ links_in between → after.places ≡ between.places
      → stacks_in after ≡ stacks_among below (stacks_in between) → Stand new after (applied_tree levels surface (held surface all))
  now-stands = tree-stands mid new between after (held surface all) surface below mid-stands mid-those

  pub now-numbered : numbered (applied_tree levels surface (held surface all)) ≡ applied_among below (numbered (held surface all))
  now-numbered = numbered-so mid new between after (held surface all) surface below mid-stands mid-those

  pub now-freed : (shown freed : List ℕ) → ((b : ℕ) → is_among shown b ≡ shown_among below (numbered all) b)
      → ((b : ℕ) (is : Bool) → IsAny (shows_at b) (numbered (applied_tree levels surface (held surface all))) is
      → count_by (λ n. n == b) freed ≡ cond (is_among shown b && not is) 1 0)
      → AreFreed freed (numbered all) (numbered (applied_tree levels surface (held surface all)))
  now-freed shown freed candidates counted =
      freed-so (numbered all) (numbered (applied_tree levels surface (held surface all))) below shown freed candidates
      (λ n none b. ap (λ (named : Numbered). shows_at b (named n)) now-numbered ∙ ap (shows_at b) (unapplied below (numbered (held surface all)) n none)
      ∙ ap (shows_at b) (still-other surface n all (other-than below surface n (itself-below mid new between after (held surface all) surface below mid-stands mid-those) none))) counted

-- A surface behaves synchronised by what is kept exactly if it does by definition.
pub same-mode : (slots : Slots) (tied : Tied) (all : Surfaces) (surface : ℕ) → Stand slots tied all → behaves_synchronised levels all surface ≡ behaves_by 17 (links_in tied) surface
same-mode slots tied all surface stand = same-modes all 17 surface ∙ ap (λ (links : Links). behaves_by 17 links surface) (sym (fun_ext stand.hang.0.links))

module _ (slots : Slots) (tied : Tied) (all : Surfaces) (surface : ℕ) (b : Bool) (is : b ≡ behaves_by 17 (links_in tied) surface) (stand : Stand slots tied all) where
  mode : behaves_synchronised levels all surface ≡ b
  mode = same-mode slots tied all surface stand ∙ sym is

  pub commit-held : b ≡ true → committed_in surface all ≡ held surface all
  commit-held e = ap (λ x. applied_unless x surface (held surface all)) (mode ∙ e)

  pub commit-now : b ≡ false → committed_in surface all ≡ applied_tree levels surface (held surface all)
  commit-now e = ap (λ x. applied_unless x surface (held surface all)) (mode ∙ e)

  pub told-held : {A : Type 0} (changes : List (Change A)) → b ≡ true → changes ≡ [] → IsCommitTold surface all changes
  told-held changes e none = subst (λ x. IsToldUnless x surface (held surface all) changes) (sym (mode ∙ e)) none

  pub told-now : {A : Type 0} (changes : List (Change A)) → b ≡ false → IsTold surface (held surface all) changes → IsCommitTold surface all changes
  told-now changes e told = subst (λ x. IsToldUnless x surface (held surface all) changes) (sym (mode ∙ e)) told

  pub committed-held : b ≡ true → (n : ℕ) → (n == surface) ≡ is_committed surface all n
  committed-held e n = sym (ap (λ x. if x then n == surface else descends_from 16 all surface n) (mode ∙ e))

  pub committed-now : b ≡ false → (n : ℕ) → descends_from 16 all surface n ≡ is_committed surface all n
  committed-now e n = sym (ap (λ x. if x then n == surface else descends_from 16 all surface n) (mode ∙ e))

pub if-ok : {T : Type 0} {P Q : T → Type 0} (r : Result T SurfaceError) → IfOk r P → ((x : T) → P x → Q x) → IfOk r Q
if-ok (Ok x) p to = to x p
if-ok (Err e) p to = tt

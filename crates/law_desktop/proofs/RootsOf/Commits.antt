-- A commit changes the windows stacked with the toplevel of its tree, or none.
use Rattle.std.proofs.Common.{◌≡◌, ℕ, Bool, true, false, cond, List, Option, Some, None, [], ◌∷◌, map, refl, ap, sym, subst, ◌∙◌}
use Rattle.std.specs.Prelude.{◌==◌, find}
use Rattle.std.proofs.lemmas.Bool.{eqb-true, false_from_ne_true}
use Rattle.std.proofs.lemmas.Option.{same_Some}
use Rattle.wl_surface.specs.Surfaces.{Surfaces}
use Rattle.wl_surface.specs.Trees.{committed_in, levels}
use Rattle.wl_shell.specs.Popups.{Popped, is_toplevel, is_toplevel_kind, popped_kind, popped_of, popped_role, popups_of, with_effect}
use Rattle.wl_shell.specs.Shell.{Effect, IsPopup, Kind, Maps, RoleObject, Stays, Toplevel, Unmaps, XdgSurface, xdg_at, xdg_of}
use Rattle.spec_desktop.specs.Popups.{stacked_popup}
use Rattle.spec_desktop.specs.Stacking.{Owned, without_surface_of}
use Rattle.spec_desktop.specs.Changing.{Placing, effect_placing, placement_now, stacked_by, tree_committed}
use Rattle.spec_desktop.specs.Demand.{CommitTree}
use Rattle.spec_desktop.specs.Demanding.{effect_of_commit}
use Rattle.spec_desktop.specs.Desktop.{Desktop, Resident, owned_in}
use Rattle.spec_desktop.specs.Step.{asked_so_far}
use Rattle.law_desktop.specs.Soundness.{IsNoChild, has_surface}
use Rattle.law_desktop.proofs.Lists.Keys.{found-passes}
use Rattle.law_desktop.proofs.Marks.Stacks.{equal-numbers}
use Rattle.law_desktop.proofs.Soundness.LinkedDepths.{descends-itself}
use Rattle.law_desktop.specs.TreeStepsLaws.{IsRootOf, KeepsOthers}
use Rattle.law_desktop.proofs.TreeSteps.Commits.{commit-keeps-others}
use Rattle.law_desktop.proofs.TreeSteps.Descents.{no-child-is-top, roots-apart}
use Rattle.law_desktop.specs.Changes.{HasTrees}
use Rattle.law_desktop.specs.Done.{IsDone}
use Rattle.law_desktop.specs.StackedWith.{ChangesAt, ChangesWith, IsStackedWith, popup_of}
use Rattle.law_desktop.proofs.RootsOf.Alike.{changed-keeps, effect-keeps, keeps-same}
use Rattle.law_desktop.proofs.RootsOf.Kept.{RootIsKept, surfaces_in}
use Rattle.law_desktop.proofs.RootsOf.One.{put-on-top, same-standing, taken-out}
use Rattle.law_desktop.proofs.RootsOf.Popped.{IsPopped, IsThere}
use Rattle.law_desktop.proofs.RootsOf.Shells.{all-popped-of, found-there, same-list, shell-touches, there-top}
use Rattle.law_desktop.proofs.RootsOf.Touched.{Touches}
use Rattle.law_desktop.proofs.RootsOf.Trees.{other-tree}
use Rattle.law_desktop.proofs.Truth.{differ}
use Rattle.law_desktop.proofs.Lists.Each.{Each}

-- ---- a toplevel is no popup

pub no-popped : (x : XdgSurface) → is_toplevel (Some x) ≡ true → popped_of x ≡ []
no-popped x is = at x.role is
  where
    kind : (object : RoleObject) (k : Kind) → is_toplevel_kind k ≡ true → popped_kind x object k ≡ []
    kind object Toplevel e = refl
    kind object (IsPopup popup) e = absurd (differ e)

    at : (o : Option RoleObject) → is_toplevel (Some (record x { role = o })) ≡ true → popped_role x o ≡ []
    at None e = refl
    at (Some object) e = kind object object.kind e

module _ (c : ℕ) (d : Desktop) (had : HasTrees d) where
  -- an xdg_surface of no popup has none
  pub none-popped : (x : XdgSurface) → IsThere (owned_in d c).shell x → popped_of x ≡ [] → popup_of c x.surface d ≡ None
  none-popped x there none = by (popups_of (owned_in d c).shell) (all-popped-of c d had)
    where
      other : (p : Popped) → IsPopped (owned_in d c).shell p → (p.xdg.surface == x.surface) ≡ false
      other p popped =
          false_from_ne_true (p.xdg.surface == x.surface)
          (λ e. never (sym none
          ∙ (ap popped_of (same_Some x p.xdg (sym there.by_surface ∙ (ap (λ n. xdg_of n (owned_in d c).shell) (sym (eqb-true p.xdg.surface x.surface e)) ∙ popped.there.by_surface))) ∙ popped.its)))
        where
          never : [] ≡ p ∷ [] → ⊥
          never e = absurd (cc)

      by : (ps : List Popped) → Each (IsPopped (owned_in d c).shell) ps → find (has_surface x.surface) (map (stacked_popup (owned_in d c)) ps) ≡ None
      by [] each = refl
      by (p ∷ ps) each =
          ap (λ b. cond b (Some (stacked_popup (owned_in d c) p)) (find (has_surface x.surface) (map (stacked_popup (owned_in d c)) ps))) (other p each.0) ∙ by ps each.1

  pub toplevel-unpopped : (x : XdgSurface) → IsThere (owned_in d c).shell x → is_toplevel (Some x) ≡ true → popup_of c x.surface d ≡ None
  toplevel-unpopped x there is = none-popped x there (no-popped x is)

  -- a surface that is no child is the root of its tree
  pub own-root : (surface root : ℕ) → IsNoChild surface (surfaces_in d c) → IsRootOf (surfaces_in d c) surface root → root ≡ surface
  own-root surface root no_child its =
      roots-apart (surfaces_in d c) root surface surface its.top (no-child-is-top (surfaces_in d c) (had.numbered c) surface no_child) its.under
      (descends-itself levels (surfaces_in d c) surface)

  -- no other xdg_surface has the id
  pub fixed-at : (x : XdgSurface) → IsThere (owned_in d c).shell x → (change : XdgSurface → XdgSurface) (y : XdgSurface) → IsThere (owned_in d c).shell y
      → (y.surface == x.surface) ≡ false → cond (y.id == x.id) (change y) y ≡ y
  fixed-at x there change y there-y out =
      ap (λ b. cond b (change y) y)
      (false_from_ne_true (y.id == x.id)
      (λ e. differ (sym out
      ∙ equal-numbers y.surface x.surface
      (ap (λ (z : XdgSurface). z.surface)
      (same_Some y x (sym there-y.by_id ∙ (ap (λ n. xdg_at n (owned_in d c).shell) (eqb-true y.id x.id e) ∙ there.by_id)))))))

-- ---- what is left

pub effect-surfaces : (where_to : Placing) (surface : ℕ) (effect : Effect) (o : Option XdgSurface) (r : Resident) → (effect_placing where_to surface effect o r).owned.surfaces ≡ r.owned.surfaces
effect-surfaces where_to surface effect None r = refl
effect-surfaces where_to surface Stays (Some x) r = refl
effect-surfaces where_to surface effect o r = refl

abbrev effected : Placing → ℕ → Effect → XdgSurface → Resident → XdgSurface → XdgSurface
effected where_to surface effect x r y = cond (y.id == x.id) (with_effect r.peer.serial (asked_so_far surface r) where_to effect y) y

effect-shell : (where_to : Placing) (surface : ℕ) (effect : Effect) (x : XdgSurface) (r : Resident)
    → (effect_placing where_to surface effect (Some x) r).owned.shell ≡ map (effected where_to surface effect x r) r.owned.shell
effect-shell where_to surface Stays x r = refl
effect-shell where_to surface effect x r = refl

-- ---- a commit

module _ (c surface : ℕ) (r : Resident) (d e : Desktop) (had : HasTrees d) (has : HasTrees e) (was : owned_in d c ≡ r.owned) (done : IsDone c (CommitTree surface) r d e) where
  abbrev where_to : Placing
  where_to = placement_now c r d

  keeps : (owned_in e c).surfaces ≡ committed_in surface r.owned.surfaces → KeepsOthers surface (surfaces_in d c) (surfaces_in e c)
  keeps now =
      subst (λ (x : Surfaces). KeepsOthers surface (surfaces_in d c) x) (sym (now ∙ ap (λ (o : Owned). committed_in surface o.surfaces) (sym was)))
      (commit-keeps-others (surfaces_in d c) (had.once c) surface)

  trees : (owned_in e c).surfaces ≡ committed_in surface r.owned.surfaces → (root : ℕ) → IsRootOf (surfaces_in d c) surface root → (x : ℕ) → IsNoChild x (surfaces_in d c)
      → (x == root) ≡ false → RootIsKept c d e x
  trees now root its = other-tree c d e had surface root (keeps now) its

  module _ (effect : Effect) where
    -- a surface without an xdg_surface
    bare : owned_in e c ≡ (effect_placing (placement_now c r d) surface effect None (tree_committed surface r)).owned → e.standing ≡ d.standing → ChangesAt (Some surface) c d e
    bare own stack root t its with =
        same-standing c root d e had.sound has.sound
        (shell-touches c d had root e done.others (λ x. x) keeps-same
        (ap (λ (o : Owned). o.shell) own ∙ (ap (λ (o : Owned). o.shell) (sym was) ∙ same-list (owned_in d c).shell))
        (trees (ap (λ (o : Owned). o.surfaces) own) root its) (λ x there out. refl)) stack t with

    module _ (x : XdgSurface) (found : xdg_of surface r.owned.shell ≡ Some x)
        (own : owned_in e c ≡ (effect_placing (placement_now c r d) surface effect (Some x) (tree_committed surface r)).owned) where
      there : IsThere (owned_in d c).shell x
      there = found-there c d had surface x (ap (λ (o : Owned). xdg_of surface o.shell) was ∙ found)

      of-surface : x.surface ≡ surface
      of-surface = eqb-true x.surface surface (found-passes (λ x. x.surface == surface) r.owned.shell x found)

      module _ (root : ℕ) (its : IsRootOf (surfaces_in d c) surface root) where
        root-is : root ≡ x.surface
        root-is = own-root c d had surface root (subst (λ n. IsNoChild n (surfaces_in d c)) of-surface (there-top c d had x there)) its ∙ sym of-surface

        touches : Touches c root d e
        touches =
            shell-touches c d had root e done.others (effected (placement_now c r d) surface effect x (tree_committed surface r))
            (changed-keeps x.id (with_effect (tree_committed surface r).peer.serial (asked_so_far surface (tree_committed surface r)) (placement_now c r d) effect)
            (effect-keeps (tree_committed surface r).peer.serial (asked_so_far surface (tree_committed surface r)) (placement_now c r d) effect))
            (ap (λ (o : Owned). o.shell) own
            ∙ (effect-shell (placement_now c r d) surface effect x (tree_committed surface r)
            ∙ ap (λ (o : Owned). map (effected (placement_now c r d) surface effect x (tree_committed surface r)) o.shell) (sym was)))
            (trees (ap (λ (o : Owned). o.surfaces) own ∙ effect-surfaces (placement_now c r d) surface effect (Some x) (tree_committed surface r)) root its)
            (λ y there-y out.
            fixed-at c d had x there (with_effect (tree_committed surface r).peer.serial (asked_so_far surface (tree_committed surface r)) (placement_now c r d) effect) y there-y
            (ap (λ n. y.surface == n) (sym root-is) ∙ out))

        same : e.standing ≡ d.standing → (t : Option ℕ) → IsStackedWith c root d t → ChangesWith t c d e
        same stack t with = same-standing c root d e had.sound has.sound touches stack t with

        unpopped : is_toplevel (Some x) ≡ true → popup_of c root d ≡ None
        unpopped is = subst (λ n. popup_of c n d ≡ None) (sym root-is) (toplevel-unpopped c d had x there is)

        at-root : surface ≡ root
        at-root = sym (root-is ∙ of-surface)

        by : (effect : Effect) (b : Bool) → is_toplevel (Some x) ≡ b → e.standing ≡ (stacked_by effect b c surface d).standing → (t : Option ℕ) → IsStackedWith c root d t → ChangesWith t c d e
        by Maps true is stack =
            put-on-top c root d e had.sound has.sound touches (unpopped is) d.mappings
            (subst (λ n. e.standing ≡ (stacked_by Maps true c n d).standing) at-root stack)
        by Unmaps true is stack =
            taken-out c root d e had.sound has.sound touches (unpopped is) (subst (λ n. e.standing ≡ without_surface_of c n d.standing) at-root stack)
        by effect b is stack = same stack

  pub commit-changes : ChangesAt (Some surface) c d e
  commit-changes = at (xdg_of surface r.owned.shell) refl done.own done.stack
    where
      nothing : (effect : Effect) → (stacked_by effect (is_toplevel None) c surface d).standing ≡ d.standing
      nothing Stays = refl
      nothing effect = refl

      at : (o : Option XdgSurface) → xdg_of surface r.owned.shell ≡ o
          → owned_in e c ≡ (effect_placing (placement_now c r d) surface (effect_of_commit r surface) o (tree_committed surface r)).owned
          → e.standing ≡ (stacked_by (effect_of_commit r surface) (is_toplevel o) c surface d).standing → ChangesAt (Some surface) c d e
      at None found own stack = bare (effect_of_commit r surface) own (stack ∙ nothing (effect_of_commit r surface))
      at (Some x) found own stack =
          λ root t its with. by (effect_of_commit r surface) x found own root its (effect_of_commit r surface) (is_toplevel (Some x)) refl stack t with

-- What is done to a surface, and to those that descend from it, changes nothing of the other surfaces that have an xdg_surface: none of them
-- has a parent (xdg-shell.xml, xdg_wm_base.get_xdg_surface; wayland.xml, wl_surface: a surface has one role).
use Rattle.std.proofs.Common.{◌≡◌, ℕ, Bool, true, false, cond, Option, Some, None, refl, ap, sym, ◌∙◌}
use Rattle.std.specs.Prelude.{◌==◌, is_some}
use Rattle.std.specs.Option.{option_map}
use Rattle.std.proofs.lemmas.Bool.{eqb-false, eqb-true, false_from_ne_true, true≢false}
use Rattle.wl_surface.specs.Request.{Commit}
use Rattle.wl_surface.specs.State.{History, apply}
use Rattle.wl_surface.specs.Surfaces.{Link, Surfaces, history_in}
use Rattle.wl_surface.specs.Trees.{committed_in, descends_from, levels, link_of}
use Rattle.wl_surface.specs.Hanging.{AreNumbered}
use Rattle.wl_surface.specs.TreeLaws.{AreOnceLinked}
use Rattle.law_desktop.specs.TreeStepsLaws.{KeepsOthers}
use Rattle.law_desktop.proofs.TreeSteps.Commits.{asked_more, commit-keeps-others}
use Rattle.law_desktop.proofs.TreeSteps.Descents.{is-top, no-child-is-top}
use Rattle.wl_shell.specs.Agreement.{with_history}
use Rattle.wl_shell.specs.Shell.{Shell, xdg_of}
use Rattle.law_desktop.specs.Soundness.{IsLive, IsNoChild}
use Rattle.law_desktop.proofs.Keeping.OwningChanges.{AgreeFor}
use Rattle.law_desktop.proofs.ShownSurfaces.Roots.{root-committed}

-- ---- the surfaces that have xdg_surfaces

module _ (all : Surfaces) (shell : Shell) (once : AreOnceLinked all.links) (numbered : AreNumbered all.links)
    (roots : (surface : ℕ) → is_some (xdg_of surface shell) ≡ true → IsNoChild surface all) where
  -- have no parent
  pub top : (surface : ℕ) → is_some (xdg_of surface shell) ≡ true → link_of surface all ≡ None
  top surface has = no-child-is-top all numbered surface (roots surface has)

  -- so they descend from no other
  away : (id surface : ℕ) → is_some (xdg_of surface shell) ≡ true → (surface == id) ≡ false → descends_from levels all id surface ≡ false
  away id surface has apart =
      false_from_ne_true (descends_from levels all id surface) (λ e. eqb-false surface id apart (is-top levels all id surface (top surface has) e))

  -- what is done to one that has none leaves them
  pub agree-child : (id : ℕ) (new : Surfaces) → KeepsOthers id all new → xdg_of id shell ≡ None → AgreeFor shell (λ other. history_in other all) (λ other. history_in other new)
  agree-child id new keeps none surface has = sym (keeps.histories surface (away id surface has (apart (surface == id) refl)))
    where
      apart : (b : Bool) → (surface == id) ≡ b → (surface == id) ≡ false
      apart false e = e
      apart true e = absurd (true≢false (sym has ∙ ap (λ i. is_some (xdg_of i shell)) (eqb-true surface id e) ∙ ap is_some none))

  -- so it is where the child of a link that lives is the one
  pub agree-linked : (number : ℕ) (link : Link) (new : Surfaces) → IsLive number link all → KeepsOthers link.child all new
      → AgreeFor shell (λ other. history_in other all) (λ other. history_in other new)
  agree-linked number link new live keeps =
      agree-child link.child new keeps (none (xdg_of link.child shell) refl)
    where
      none : {X : Type 0} (o : Option X) → is_some o ≡ is_some (xdg_of link.child shell) → o ≡ None
      none None e = refl
      none (Some x) e = absurd (roots link.child (sym e) number link live refl)

  -- a commit of one of them counts, and leaves the others
  pub agree-committed : (id : ℕ) (h : History) → history_in id all ≡ Some h → is_some (xdg_of id shell) ≡ true
      → AgreeFor shell (with_history id (Some (apply (asked_more Commit h))) (λ other. history_in other all)) (λ other. history_in other (committed_in id all))
  agree-committed id h here has surface has_too = at (surface == id) refl
    where
      at : (b : Bool) → (surface == id) ≡ b → cond b (Some (apply (asked_more Commit h))) (history_in surface all) ≡ history_in surface (committed_in id all)
      at true same =
          sym (ap (λ i. history_in i (committed_in id all)) (eqb-true surface id same) ∙ root-committed id all once (top id has)
          ∙ ap (option_map (λ h. apply (asked_more Commit h))) here)
      at false apart = sym ((commit-keeps-others all once id).histories surface (away id surface has_too apart))

-- The end of a toplevel changes its own windows alone, though it dismisses popups; and a grab that is refused changes none.
use Rattle.std.proofs.Common.{◌≡◌, ℕ, Bool, true, false, cond, List, Option, Some, None, [], ◌∷◌, refl, ap, sym, subst, ◌∙◌, inl, inr}
use Rattle.std.specs.Prelude.{◌&&◌, ◌≢◌, not}
use Rattle.std.specs.List.{list_any}
use Rattle.std.specs.Option.{option_map}
use Rattle.wl_surface.specs.Surfaces.{Surfaces}
use Rattle.wl_shell.specs.Popups.{Popped, dismiss, dismissed_among, dismissed_with, dismissing, is_among, is_mapped_stage, is_popup_mapped}
use Rattle.wl_shell.specs.Popups.{popped_kind, popped_of, popped_role, popup_changed, popups_of, with_popup, with_popup_role}
use Rattle.wl_shell.specs.Shell.{IsPopup, Kind, Popup, RoleObject, Shell, Toplevel, XdgSurface}
use Rattle.spec_desktop.specs.Popups.{stacked_popup}
use Rattle.spec_desktop.specs.Stacking.{Standing, is_of}
use Rattle.spec_desktop.specs.Desktop.{Desktop, owned_in}
use Rattle.law_desktop.specs.TreeStepsLaws.{KeepsAll}
use Rattle.law_desktop.specs.Changes.{HasTrees, StaysPainted}
use Rattle.law_desktop.specs.ToplevelRoots.{has_parent_in, is_on_one}
use Rattle.law_desktop.specs.StackedWith.{stacked_roots}
use Rattle.law_desktop.proofs.RootsOf.Kept.{surfaces_in}
use Rattle.law_desktop.proofs.RootsOf.Left.{IsLeft, dismissed-off, left, since-geometry}
use Rattle.law_desktop.proofs.RootsOf.Painted.{painted}
use Rattle.law_desktop.proofs.RootsOf.Popped.{AreNumberedAlike, IsPopped, IsThrough, KeepsNumbers, all-through, through}
use Rattle.law_desktop.proofs.RootsOf.Requests.{same-keeps}
use Rattle.law_desktop.proofs.RootsOf.Stacked.{found-any}
use Rattle.law_desktop.proofs.RootsOf.Trees.{any-tree}
use Rattle.law_desktop.proofs.Lists.Each.{Each, each-both}
use Rattle.law_desktop.proofs.Truth.{and-false}

-- ---- popups change by themselves

numbered-kinds : (x y : XdgSurface) (object other : RoleObject) (change : Popup → Popup) → ((p : Popup) → (change p).number ≡ p.number) → (k : Kind)
    → AreNumberedAlike (popped_kind x object k) (popped_kind y other (with_popup change k))
numbered-kinds x y object other change keeps Toplevel = tt
numbered-kinds x y object other change keeps (IsPopup popup) = (keeps popup, refl)

pub numbered-by : (x y : XdgSurface) (change : Popup → Popup) → ((p : Popup) → (change p).number ≡ p.number) → (o : Option RoleObject)
    → AreNumberedAlike (popped_role x o) (popped_role y (option_map (with_popup_role change) o))
numbered-by x y change keeps None = tt
numbered-by x y change keeps (Some object) = numbered-kinds x y object (with_popup_role change object) change keeps object.kind

numbered-kind : (x y : XdgSurface) (object : RoleObject) (k : Kind) → AreNumberedAlike (popped_kind x object k) (popped_kind y object k)
numbered-kind x y object Toplevel = tt
numbered-kind x y object (IsPopup popup) = (refl, refl)

pub numbered-role : (x y : XdgSurface) (o : Option RoleObject) → AreNumberedAlike (popped_role x o) (popped_role y o)
numbered-role x y None = tt
numbered-role x y (Some object) = numbered-kind x y object object.kind

-- a popup that is dismissed isn't mapped
abbrev AreUnmapped : List Popped → Type 0
AreUnmapped ps = Each (λ q. is_popup_mapped q ≡ false) ps

unmapped-kind : (y : XdgSurface) (object : RoleObject) (change : Popup → Popup) → ((p : Popup) → (change p).is_dismissed ≡ true) → (k : Kind) → AreUnmapped (popped_kind y object (with_popup change k))
unmapped-kind y object change gone Toplevel = tt
unmapped-kind y object change gone (IsPopup popup) = (ap (λ b. is_mapped_stage object.stage && not b) (gone popup) ∙ and-false (is_mapped_stage object.stage), tt)

unmapped-role : (y : XdgSurface) (change : Popup → Popup) → ((p : Popup) → (change p).is_dismissed ≡ true) → (o : Option RoleObject)
    → AreUnmapped (popped_role y (option_map (with_popup_role change) o))
unmapped-role y change gone None = tt
unmapped-role y change gone (Some object) = unmapped-kind y (with_popup_role change object) change gone object.kind

-- ---- a grab that is refused

module _ (c : ℕ) (d e : Desktop) (had : HasTrees d) (others : (other : ℕ) → other ≢ c → owned_in e other ≡ owned_in d other) (stack : e.standing ≡ d.standing)
    (surfaces : surfaces_in e c ≡ surfaces_in d c) (is : Popped → Bool) (shell : (owned_in e c).shell ≡ dismissing is (owned_in d c).shell)
    (unmapped : (p : Popped) → IsPopped (owned_in d c).shell p → is p ≡ true → is_popup_mapped p ≡ false) where
  abbrev ids : List ℕ
  ids = dismissed_with is (owned_in d c).shell

  abbrev gone : XdgSurface → XdgSurface
  gone x = dismissed_among (dismissed_with is (owned_in d c).shell) x

  dismissed-numbers : KeepsNumbers gone (owned_in d c).shell
  dismissed-numbers = record {
    ids = λ x. same-id x (is_among x.id ids);
    surfaces = λ x. same-surface x (is_among x.id ids);
    alike = each (owned_in d c).shell;
  }
    where
      same-id : (x : XdgSurface) (b : Bool) → (cond b (popup_changed dismiss x) x).id ≡ x.id
      same-id x true = refl
      same-id x false = refl

      same-surface : (x : XdgSurface) (b : Bool) → (cond b (popup_changed dismiss x) x).surface ≡ x.surface
      same-surface x true = refl
      same-surface x false = refl

      alike : (x : XdgSurface) (b : Bool) → AreNumberedAlike (popped_of x) (popped_of (cond b (popup_changed dismiss x) x))
      alike x true = numbered-by x (popup_changed dismiss x) dismiss (λ p. refl) x.role
      alike x false = numbered-role x x x.role

      each : (xs : Shell) → Each (λ x. AreNumberedAlike (popped_of x) (popped_of (gone x))) xs
      each [] = tt
      each (x ∷ xs) = (alike x (is_among x.id ids), each xs)

  same-since : (x : XdgSurface) → (gone x).since ≡ x.since
  same-since x = at (is_among x.id ids)
    where
      at : (b : Bool) → (cond b (popup_changed dismiss x) x).since ≡ x.since
      at true = refl
      at false = refl

  one-left : (s : Standing) → (p : Popped) → IsThrough gone p
      → (is_among p.xdg.id (dismissed_with is (owned_in d c).shell) ≡ true → is_on_one (stacked_roots d s) (stacked_popup (owned_in d c) p) ≡ false)
      → IsLeft c d e had gone dismissed-numbers shell surfaces (is_on_one (stacked_roots d s)) p
  one-left s p goes off = at (is_among p.xdg.id ids) refl
    where
      at : (b : Bool) → is_among p.xdg.id ids ≡ b → IsLeft c d e had gone dismissed-numbers shell surfaces (is_on_one (stacked_roots d s)) p
      at true f =
          inr (
            off f,
            ap (λ b. b && has_parent_in (stacked_roots d s) (stacked_popup (owned_in e c) (through gone p)))
                (subst (λ (ps : List Popped). AreUnmapped ps) goes.all
                (subst (λ b. AreUnmapped (popped_of (cond b (popup_changed dismiss p.xdg) p.xdg))) (sym f) (unmapped-role (popup_changed dismiss p.xdg) dismiss (λ q. refl) p.xdg.role))).0,
          )
      at false f = inl (ap (λ b. cond b (popup_changed dismiss p.xdg) p.xdg) f)

  pub dismissed-painted : StaysPainted d e
  dismissed-painted =
      painted c d e had others (λ x shows. any-tree c d e had (subst (λ (all : Surfaces). KeepsAll (surfaces_in d c) all) (sym surfaces) (same-keeps (surfaces_in d c))) x) stack
      (λ s found own. since-geometry c d e had gone dismissed-numbers shell surfaces same-since s.surface)
      (λ s found own.
      left c d e had gone dismissed-numbers shell surfaces (is_on_one (stacked_roots d s))
      (each-both (IsThrough gone)
      (λ p. is_among p.xdg.id (dismissed_with is (owned_in d c).shell) ≡ true → is_on_one (stacked_roots d s) (stacked_popup (owned_in d c) p) ≡ false)
      (IsLeft c d e had gone dismissed-numbers shell surfaces (is_on_one (stacked_roots d s))) (one-left s) (popups_of (owned_in d c).shell)
      (all-through gone (owned_in d c).shell dismissed-numbers)
      (dismissed-off c d had s (subst (λ n. list_any (is_of n s.surface) d.standing ≡ true) own (found-any (is_of s.client s.surface) d.standing s found)) own is
      (λ p popped e. ap (λ b. b && has_parent_in (stacked_roots d s) (stacked_popup (owned_in d c) p)) (unmapped p popped e)))))

-- A toplevel goes, and the popups on it have no parent then.
use Rattle.std.proofs.Common.{◌≡◌, ℕ, true, Option, Some, None, refl, ap, subst, sym, ◌∙◌}
use Rattle.std.specs.Prelude.{is_some}
use Rattle.std.specs.Option.{option_and_then, option_map}
use Rattle.std.proofs.Math.Path.{fun_ext}
use Rattle.std.proofs.lemmas.Option.{same_Some}
use Rattle.wl_links.specs.Family.{Tied}
use Rattle.spec_desktop.specs.Objects.{ById}
use Rattle.wl_surface.specs.Slots.{Slots}
use Rattle.wl_surface.specs.Surfaces.{history_in}
use Rattle.wl_shell.specs.Agreement.{IsShell, with_history}
use Rattle.wl_shell.specs.ShellLaws.{each_changed, orphaned}
use Rattle.wl_shell.proofs.Shells.{shells_stand}
use Rattle.wl_shell.specs.Kept.{Kept, changing, kept_changed, kept_without_role}
use Rattle.wl_shell.specs.Popups.{dismissing, is_parent_of, orphan, orphaning, popup_changed}
use Rattle.wl_shell.specs.Shell.{XdgSurface, is_role, with_change, without_role, xdg_at, xdg_of, xdg_with}
use Rattle.wl_shell.proofs.Standing.{changes_stand}
use Rattle.spec_desktop.specs.Stacking.{Owned}
use Rattle.spec_desktop.specs.Changing.{changed_for}
use Rattle.spec_desktop.specs.Demand.{EndToplevel}
use Rattle.law_desktop.proofs.Lists.Keys.{apart-map, found-map}
use Rattle.law_desktop.specs.Owning.{IsOwned, Names, by_id, number_of, with_toplevel}
use Rattle.law_desktop.specs.OwnedPopups.{PopupsOrphaned, ToplevelGone, ToplevelsGo}
use Rattle.law_desktop.proofs.Keeping.OwningChanges.{IsOwned-untoplevel, agree-same, number-kept}
use Rattle.law_desktop.proofs.Keeping.OwningXdg.{has_role, histories-same, toplevel-named, xdg-named}
use Rattle.law_desktop.proofs.OwnedPopups.Stepping.{popup-keeps}
use Rattle.law_desktop.proofs.KeptRecords.Keeping.OwningXdg.{has_xdg}

-- ---- no parent any more

some-before : (change : Kept → Kept) (k : Option Kept) → is_some (option_map change k) ≡ true → is_some k ≡ true
some-before change None some = some
some-before change (Some k) some = refl

by-id-each : (numbers : ById ℕ) (change : Kept → Kept) (kept : ℕ → Option Kept) → by_id numbers (each_changed change kept) ≡ each_changed change (by_id numbers kept)
by-id-each numbers change kept = fun_ext (λ id. at (numbers id))
  where
    at : (o : Option ℕ) → option_and_then (λ s. option_map change (kept s)) o ≡ option_map change (option_and_then kept o)
    at None = refl
    at (Some number) = refl

module _ (names : Names) (slots : Slots) (tied : Tied) (kept : ℕ → Option Kept) (o : Owned) (is : IsOwned names slots tied kept o) (xdg : ℕ) where
  all-orphaned : IsOwned names slots tied (each_changed (kept_changed (orphan xdg)) kept) (record o { shell = orphaning xdg o.shell })
  all-orphaned = record {
    surfaces = is.surfaces;
    shell =
        subst (λ (ks : ℕ → Option Kept). IsShell ks (λ id. history_in id o.surfaces) (orphaning xdg o.shell)) (sym (by-id-each names.surfaces (kept_changed (orphan xdg)) kept))
        (shells_stand.orphaning xdg (by_id names.surfaces kept) (λ id. history_in id o.surfaces) o.shell is.shell);
    known = λ number some. is.known number (some-before (kept_changed (orphan xdg)) (kept number) some);
    named = λ other.
        is.named other
        ∙ sym (ap (number_of names.surfaces) (found-map (has_xdg other) step o.shell (λ y. refl)) ∙ number-kept names.surfaces step (xdg_at other o.shell) (λ y. refl));
    toplevels = λ other.
        is.toplevels other
        ∙ sym (ap (number_of names.surfaces) (found-map (has_role other) step o.shell (λ y. (popup-keeps (orphan xdg)).role other y))
        ∙ number-kept names.surfaces step (xdg_with other o.shell) (λ y. refl));
    roles = apart-map has_role step o.shell (λ other y. (popup-keeps (orphan xdg)).role other y) is.roles;
  }
    where
      step : XdgSurface → XdgSurface
      step = popup_changed (orphan xdg)

popups-orphaned : PopupsOrphaned
popups-orphaned names slots tied kept o xdg number after is named keeps =
    let t = xdg-named names slots tied kept o is xdg number named in
    let id : t.0.id ≡ xdg = t.3.stands.id ∙ t.5 in
    let to : after ≡ each_changed (kept_changed (orphan xdg)) kept =
    keeps ∙ ap (λ (k : Option Kept). orphaned k kept) t.3.here ∙ ap (λ (i : ℕ). each_changed (kept_changed (orphan i)) kept) id in
    subst (λ (ks : ℕ → Option Kept). IsOwned names slots tied ks (record o { shell = orphaning xdg o.shell })) (sym to) (all-orphaned names slots tied kept o is xdg)

-- ---- it goes

module _ (names : Names) (slots : Slots) (tied : Tied) (kept : ℕ → Option Kept) (o : Owned) (is : IsOwned names slots tied kept o) (id xdg number : ℕ) (named : names.shell xdg ≡ Some number)
    (top : names.toplevels id ≡ Some number) where
  role-gone : IsOwned (with_toplevel id None names) slots tied (changing number kept_without_role kept) (record o { shell = with_change xdg without_role o.shell })
  role-gone =
      let t = xdg-named names slots tied kept o is xdg number named in
      let u = toplevel-named names slots tied kept o is id number top in
      let k = t.0 in
      let x = t.1 in
      let h = t.2 in
      let one = t.3 in
      let surface : u.1.surface ≡ x.surface = is.surfaces.once u.1.surface x.surface number u.3.surface one.surface in
      let same : u.1 ≡ x = same_Some u.1 x (sym u.3.of_surface ∙ ap (λ s. xdg_of s o.shell) surface ∙ one.of_surface) in
      let its : is_role id x.role ≡ true = ap (λ (y : XdgSurface). is_role id y.role) (sym same) ∙ u.5 in
      subst (λ i. IsOwned (with_toplevel id None names) slots tied (changing number kept_without_role kept) (record o { shell = with_change i without_role o.shell })) t.5
      (IsOwned-untoplevel names slots tied kept o is number k x h one id kept_without_role without_role h slots o.surfaces (λ y. refl) (λ y. refl) its refl is.surfaces
      (agree-same o.shell (with_history x.surface (Some h) (λ other. history_in other o.surfaces)) (λ other. history_in other o.surfaces)
      (sym (histories-same x.surface (Some h) (λ other. history_in other o.surfaces) one.history))) (changes_stand.destruction k x h one.stands))

toplevel-gone : ToplevelGone
toplevel-gone names slots tied kept r c id xdg surface number d after now is named top keeps same =
    subst (λ (n : Names). IsOwned n slots tied after (changed_for c (EndToplevel id xdg surface) r d).owned) (sym same)
    (subst (λ (ks : ℕ → Option Kept). IsOwned (with_toplevel id None names) slots tied ks (changed_for c (EndToplevel id xdg surface) r d).owned) (sym keeps)
    (role-gone names slots tied kept (record r.owned { shell = orphaning xdg (dismissing (λ p. is_parent_of xdg p.popup) r.owned.shell) }) is id xdg number named top))

pub toplevels-go : ToplevelsGo
toplevels-go = record { orphaned = popups-orphaned; gone = toplevel-gone }

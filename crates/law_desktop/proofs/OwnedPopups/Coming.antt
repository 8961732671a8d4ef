-- A popup is made, and goes.
use Rattle.std.proofs.Common.{◌≡◌, ◌≢◌, ℕ, Bool, true, false, Option, Some, None, Result, length, refl, ap, sym, subst, ◌∙◌}
use Rattle.std.specs.Prelude.{Ok, Err, is_some, if◌then◌else◌}
use Rattle.std.specs.Option.{option_and_then, option_map_or}
use Rattle.std.proofs.lemmas.Bool.{eqb-true}
use Rattle.std.proofs.lemmas.Option.{none-some, same_Some}
use Rattle.spec_desktop.specs.declared.refusals.ErrorCode.TheVariants as error
use Rattle.wl_surface.specs.State.{History}
use Rattle.wl_surface.specs.Surface.{with_role}
use Rattle.wl_surface.specs.declared.role.Role.{Role}
use Rattle.wl_surface.specs.declared.role.Role.TheVariants.{Popup as AsPopup}
use Rattle.wl_surface.specs.Surfaces.{history_in, with_change as with_surface_change}
use Rattle.wl_shell.specs.Agreement.{with_history}
use Rattle.wl_shell.specs.PopupsKept.{id_with_role, parent_id}
use Rattle.wl_shell.specs.declared.error.ShellError.{ShellError}
use Rattle.wl_shell.specs.declared.error.ShellError.TheVariants as failed
use Rattle.wl_shell.specs.Kept.{Kept, Stands, changing, kept_popup, kept_without_role}
use Rattle.wl_shell.specs.Popups.{first_popup, new_popup}
use Rattle.wl_shell.specs.Positioner.{is_complete}
use Rattle.wl_shell.specs.Shell.{Fresh, IsPopup, RoleObject, XdgSurface, without_role, xdg_at}
use Rattle.wl_shell.proofs.Standing.{changes_stand}
use Rattle.spec_desktop.specs.Changing.{changed_for, popup_given_to}
use Rattle.spec_desktop.specs.Demand.{EndPopup, GetPopup}
use Rattle.spec_desktop.specs.Step.{asked_so_far}
use Rattle.spec_desktop.specs.WlSubsurface.{refuses}
use Rattle.spec_desktop.specs.XdgPopup.{is_no_popup, may_be_parent}
use Rattle.spec_desktop.specs.XdgShell.{role_of}
use Rattle.law_desktop.proofs.Lists.Keys.{found-passes}
use Rattle.law_desktop.specs.Owning.{IsOwned, Names, asks_by, number_of, shell_refusal, with_toplevel}
use Rattle.law_desktop.specs.OwnedPopups.{ParentRead, PopupAccepted, PopupAsked, PopupGone, PopupMade, PopupsCome}
use Rattle.law_desktop.proofs.Keeping.Ids.{ids-changed}
use Rattle.law_desktop.proofs.Keeping.OwningChanges.{IsOwned-toplevel, IsOwned-untoplevel, agree-same}
use Rattle.law_desktop.proofs.Keeping.OwningSurfaces.{AreKept-then}
use Rattle.law_desktop.proofs.Keeping.OwningTies.{role-by}
use Rattle.law_desktop.proofs.Keeping.OwningXdg.{histories-same, xdg-found}
use Rattle.law_desktop.proofs.OwnedPopups.Stepping.{histories-to}
use Rattle.law_desktop.proofs.KeptRecords.Keeping.OwningXdg.{has_xdg}

-- ---- a parent

pub parent-read : ParentRead
parent-read names slots tied kept o parent is = at (xdg_at parent o.shell) refl
  where
    at : (x : Option XdgSurface) → xdg_at parent o.shell ≡ x → parent_id kept (names.shell parent) ≡ (if may_be_parent x then Some parent else None)
    at None none = ap (parent_id kept) (is.named parent ∙ ap (number_of names.surfaces) none)
    at (Some x) found =
        let t = xdg-found names slots tied kept o is (has_xdg parent) x found in
        let one = t.3 in
        let id = one.stands.id ∙ eqb-true x.id parent (found-passes (has_xdg parent) o.shell x found) in
        ap (parent_id kept) (is.named parent ∙ ap (number_of names.surfaces) found ∙ one.surface)
        ∙ ap (λ (k : Option Kept). option_and_then id_with_role k) one.here
        ∙ ap (λ (id : ℕ). if is_some t.1.role then Some id else None) id
        ∙ ap (λ (role : Option RoleObject). if is_some role then Some parent else None) one.stands.role

some-if : (b : Bool) (parent : ℕ) → is_some (if b then Some parent else None) ≡ b
some-if true parent = refl
some-if false parent = refl

-- ---- what is asked

pub popup-asked : PopupAsked
popup-asked names slots tied kept r number k x h object version id parent positioner is one =
    let has : is_some (parent_id kept (names.shell parent)) ≡ may_be_parent (xdg_at parent r.owned.shell) =
    ap is_some (parent-read names slots tied kept r.owned parent is) ∙ some-if (may_be_parent (xdg_at parent r.owned.shell)) parent in
    rw (one.here, one.stands.role, has)
    (at (is_some x.role) (is_no_popup (role_of r x.surface)) (may_be_parent (xdg_at parent r.owned.shell)) (is_complete positioner))
  where
    at : (a b c e : Bool)
        → (if a then refuses x.id error.AlreadyConstructed else (if b then refuses x.base error.Role else (if c
        then (if e then Ok (GetPopup id version x.id parent positioner) else refuses x.base error.InvalidPositioner) else refuses x.base error.InvalidPopupParent)))
        ≡ asks_by {X = Unit {0}} (λ u. GetPopup id version x.id parent positioner) (shell_refusal x.base x.id object)
        (if a then Err failed.AlreadyConstructed else (if b then Err failed.Role else (if c then (if e then Ok tt else Err failed.InvalidPositioner) else Err failed.InvalidPopupParent)))
    at true b c e = refl
    at false true c e = refl
    at false false false e = refl
    at false false true true = refl
    at false false true false = refl

bare : (o : Option RoleObject) → is_some o ≡ false → o ≡ None
bare None e = refl
bare (Some object) e = absurd (cc)

pub popup-accepted : PopupAccepted
popup-accepted names slots tied kept o number k x h parent other positioner is one answer =
    let all = at (is_some x.role) other (is_some (parent_id kept (names.shell parent))) (is_complete positioner) (rw (one.here, one.stands.role) at answer) in
    (bare x.role all.0, all.1, same (may_be_parent (xdg_at parent o.shell)) (parent_id kept (names.shell parent)) (parent-read names slots tied kept o parent is) all.2)
  where
    at : (a b c e : Bool)
        → ◌≡◌ {A = Result (Unit {0}) ShellError}
        (if a then Err failed.AlreadyConstructed else (if b then Err failed.Role else (if c then (if e then Ok tt else Err failed.InvalidPositioner) else Err failed.InvalidPopupParent))) (Ok tt)
        → (a ≡ false) × (b ≡ false) × (c ≡ true)
    at true b c e is = absurd (cc)
    at false true c e is = absurd (cc)
    at false false false e is = absurd (cc)
    at false false true e is = (refl, refl, refl)

    same : (b : Bool) (o : Option ℕ) → o ≡ (if b then Some parent else None) → is_some o ≡ true → o ≡ Some parent
    same true o e some = e
    same false o e some = absurd (let clash : is_some o ≡ false = ap is_some e in cc)

-- ---- it is made

pub popup-made : PopupMade
popup-made names slots tied kept r number k x h c id version parent positioner d new after now is one none free changes keeps same =
    let all = with_surface_change x.surface (with_role AsPopup) r.owned.surfaces in
    let since : asked_so_far x.surface r ≡ length h.requests = ap (λ (g : Option History). option_map_or (λ (h : History). length h.requests) g 0) one.history in
    let count = r.peer.requests in
    let change = kept_popup id parent positioner count in
    let step = new_popup id parent positioner count (asked_so_far x.surface r) in
    let stands : Stands (change k) (step x) h =
    subst (λ n. Stands (change k) (new_popup id parent positioner count n x) h) (sym since) (changes_stand.popup id parent positioner count k x h one.stands) in
    subst (λ (n : Names). IsOwned n new tied after (changed_for c (GetPopup id version x.id parent positioner) r d).owned) (sym same)
    (subst (λ (ks : ℕ → Option Kept). IsOwned (with_toplevel id (Some number) names) new tied ks (changed_for c (GetPopup id version x.id parent positioner) r d).owned) (sym keeps)
    (subst (λ (o : Option XdgSurface). IsOwned (with_toplevel id (Some number) names) new tied (changing number change kept) (popup_given_to id x.id parent positioner o r).owned) (sym one.at_id)
    (IsOwned-toplevel names slots tied kept r.owned is number k x h one id change step
    (record { id = id; kind = IsPopup (first_popup parent positioner count); stage = Fresh }) h new all (λ y. refl) (λ y. refl) none refl refl free
    (AreKept-then names.surfaces slots tied r.owned.surfaces is.surfaces new tied all (ids-changed x.surface (with_role AsPopup) (λ s. refl) r.owned.surfaces)
    (role-by names.surfaces slots tied r.owned.surfaces is.surfaces x.surface number one.surface AsPopup new changes))
    (agree-same r.owned.shell (with_history x.surface (Some h) (λ other. history_in other r.owned.surfaces)) (λ other. history_in other all)
    (histories-to x.surface (with_role AsPopup) (λ g. g) r.owned.surfaces h (λ s. refl) (λ s. refl) one.history))
    stands)))

pub popups-come : PopupsCome
popups-come = record { parent = parent-read; asked = popup-asked; accepted = popup-accepted; made = popup-made }

-- ---- it goes

pub popup-gone : PopupGone
popup-gone names slots tied kept r number k x h c id d after now is one its keeps same =
    subst (λ (n : Names). IsOwned n slots tied after (changed_for c (EndPopup id x.id) r d).owned) (sym same)
    (subst (λ (ks : ℕ → Option Kept). IsOwned (with_toplevel id None names) slots tied ks (changed_for c (EndPopup id x.id) r d).owned) (sym keeps)
    (IsOwned-untoplevel names slots tied kept r.owned is number k x h one id kept_without_role without_role h slots r.owned.surfaces (λ y. refl) (λ y. refl) its refl is.surfaces
    (agree-same r.owned.shell (with_history x.surface (Some h) (λ other. history_in other r.owned.surfaces)) (λ other. history_in other r.owned.surfaces)
    (sym (histories-same x.surface (Some h) (λ other. history_in other r.owned.surfaces) one.history))) (changes_stand.destruction k x h one.stands)))

-- a popup's role is refused to none that has no other
pub role-fits : (role : Option Role) → is_no_popup role ≡ false → ((other : Role) × (role ≡ Some other) × (other ≢ AsPopup)) → ⊥
role-fits None fits other = none-some other.0 other.1
role-fits (Some AsPopup) fits other = other.2 (same_Some other.0 AsPopup (sym other.1))
role-fits role fits other = absurd (cc)

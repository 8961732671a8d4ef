-- What a grab asks and what comes of it is what the shell answers and does.
use Rattle.std.proofs.Common.{◌≡◌, ℕ, [], ◌∷◌, Bool, true, false, Option, Some, None, Result, refl, ap, subst, sym, ◌∙◌, eq-eqb}
use Rattle.std.specs.Prelude.{◌&&◌, Ok, Err, if◌then◌else◌, not}
use Rattle.std.specs.Option.{option_and_then, option_map}
use Rattle.spec_desktop.specs.declared.refusals.ErrorCode.TheVariants as error
use Rattle.wl_links.specs.Family.{Tied}
use Rattle.wl_surface.specs.State.{History}
use Rattle.wl_surface.specs.Slots.{Slots}
use Rattle.wl_shell.specs.Descent.{has_popup_at, is_of_xdg}
use Rattle.wl_shell.specs.InOrder.{IsOnly}
use Rattle.wl_shell.proofs.Agreeing.{changed-same}
use Rattle.wl_shell.proofs.Ordered.{among-popups}
use Rattle.wl_shell.specs.declared.error.ShellError.{ShellError}
use Rattle.wl_shell.specs.declared.error.ShellError.TheVariants as failed
use Rattle.wl_shell.specs.Kept.{Kept, Stands, changing, grab_answer, grab_by, grab_in, grabbing, kept_grabbing}
use Rattle.wl_shell.specs.Popups.{Popped, first_of, is_mapped_stage, kind_popup, parent_allows, parent_of, popped_kind, popped_of}
use Rattle.wl_shell.specs.Popups.{popped_role, popup_at, popup_changed, popups_of, with_grab, with_popup, with_popup_role}
use Rattle.wl_shell.specs.Shell.{IsPopup, Kind, Popup, RoleObject, Shell, Toplevel, XdgSurface}
use Rattle.wl_shell.proofs.Standing.{changes_stand}
use Rattle.spec_desktop.specs.Stacking.{Owned}
use Rattle.spec_desktop.specs.Ask.{Ignore}
use Rattle.spec_desktop.specs.Changing.{changed_for, grab_allowed, grab_holder, grabbed, is_held_elsewhere, is_latest}
use Rattle.spec_desktop.specs.Demand.{Asks, Grab}
use Rattle.spec_desktop.specs.Desktop.{Desktop, Resident}
use Rattle.spec_desktop.specs.WlSubsurface.{refuses}
use Rattle.spec_desktop.specs.XdgPopup.{grab_of}
use Rattle.law_desktop.specs.Owning.{IsOwned, IsXdg, KeepsRole, Names, asks_by, shell_refusal}
use Rattle.law_desktop.specs.OwnedPopups.{GrabAllowed, GrabAsked, GrabRefused, GrabTaken, PopupsGrab, grab_demand}
use Rattle.law_desktop.proofs.OwnedPopups.Done.{any-true}
use Rattle.law_desktop.proofs.OwnedPopups.Finding.{allowed-found}
use Rattle.law_desktop.proofs.OwnedPopups.Stepping.{popup-keeps, shell-stepped}

-- ---- the popup of an xdg_surface

pub record IsPopped (x : XdgSurface) (p : Popped) : Type 0 where
  pub role : x.role ≡ Some p.object
  pub kind : p.object.kind ≡ IsPopup p.popup
  pub xdg : p.xdg ≡ x
  pub its : popped_of x ≡ p ∷ []

first-popped : (x : XdgSurface) (p : Popped) → first_of (popped_of x) ≡ Some p → IsPopped x p
first-popped x p e = at x.role refl e
  where
    kinds : (object : RoleObject) → x.role ≡ Some object → (k : Kind) → object.kind ≡ k → first_of (popped_kind x object k) ≡ Some p → IsPopped x p
    kinds object a Toplevel b e = absurd (cc)
    kinds object a (IsPopup popup) b e =
        let same : record { xdg = x; object = object; popup = popup } ≡ p = cc in
        record {
          role = a ∙ ap (λ (q : Popped). Some q.object) same;
          kind = ap (λ (q : Popped). q.object.kind) (sym same) ∙ b ∙ ap (λ (q : Popped). IsPopup q.popup) same;
          xdg = ap (λ (q : Popped). q.xdg) (sym same);
          its = ap (popped_role x) a ∙ ap (popped_kind x object) b ∙ ap (λ (q : Popped). q ∷ []) same;
        }

    at : (o : Option RoleObject) → x.role ≡ o → first_of (popped_role x o) ≡ Some p → IsPopped x p
    at None a e = absurd (cc)
    at (Some object) a e = kinds object a object.kind refl e

module _ (names : Names) (kept : ℕ → Option Kept) (o : Owned) (number : ℕ) (k : Kept) (x : XdgSurface) (h : History) (one : IsXdg names kept o number k x h) (p : Popped)
    (here : popup_at x.id o.shell ≡ Some p) where
  pub popped : IsPopped x p
  popped = first-popped x p (sym (ap (option_and_then (λ (x : XdgSurface). first_of (popped_of x))) one.at_id) ∙ here)

  answered : (allowed : Bool)
      → grab_answer allowed (kept number) ≡ (if p.popup.is_dismissed then Ok true else (if is_mapped_stage p.object.stage then Err failed.InvalidGrab else Ok allowed))
  answered allowed =
      ap (grab_answer allowed) one.here ∙ ap (grab_in allowed) (one.stands.role ∙ popped.role) ∙ ap (λ (kind : Kind). grab_by allowed p.object.stage (kind_popup kind)) popped.kind

  has-popup : has_popup_at x.id o.shell ≡ true
  has-popup =
      let only : IsOnly o.shell x.surface p = record {
        found = one.of_surface ∙ ap (λ (y : XdgSurface). Some y) (sym popped.xdg);
        its = ap popped_of popped.xdg ∙ popped.its;
      } in
      any-true (is_of_xdg x.id) p (popups_of o.shell) (among-popups o.shell x.surface p only) (eq-eqb p.xdg.id x.id (ap (λ (y : XdgSurface). y.id) popped.xdg))

  -- its popup changes so
  changed-to : (change : Popup → Popup) (popup : Popup) → change p.popup ≡ popup → popup_changed change x ≡ record x { role = Some (record p.object { kind = IsPopup popup }) }
  changed-to change popup to =
      ap (λ (role : Option RoleObject). record x { role = option_map (with_popup_role change) role }) popped.role
      ∙ ap (λ (kind : Kind). record x { role = Some (record p.object { kind = with_popup change kind }) }) popped.kind
      ∙ ap (λ (popup : Popup). record x { role = Some (record p.object { kind = IsPopup popup }) }) to

  stays : record x { role = Some (record p.object { kind = IsPopup p.popup }) } ≡ x
  stays =
      ap (λ (kind : Kind). record x { role = Some (record p.object { kind = kind }) }) (sym popped.kind) ∙ ap (λ (role : Option RoleObject). record x { role = role }) (sym popped.role)

  -- ---- what is asked

  asked : (object serial : ℕ) (allowed : Bool) → grab_of object serial x (Some p)
      ≡ asks_by (λ (taken : Bool). grab_demand serial x p) (shell_refusal x.base x.id object)
      (if p.popup.is_dismissed then Ok true else (if is_mapped_stage p.object.stage then Err failed.InvalidGrab else Ok allowed))
  asked object serial allowed = at p.popup.is_dismissed (is_mapped_stage p.object.stage)
    where
      at : (a b : Bool) → (if a then Ok (Asks Ignore) else (if b && not a then refuses object error.InvalidGrab else Ok (Grab x.id serial)))
          ≡ asks_by (λ (taken : Bool). if a then Asks Ignore else Grab x.id serial) (shell_refusal x.base x.id object) (if a then Ok true else (if b then Err failed.InvalidGrab else Ok allowed))
      at true b = refl
      at false true = refl
      at false false = refl

  refused : (serial : ℕ) (allowed : Bool) → (if p.popup.is_dismissed then Ok true else (if is_mapped_stage p.object.stage then Err failed.InvalidGrab else Ok allowed)) ≡ Ok false
      → (grab_demand serial x p ≡ Grab x.id serial) × (allowed ≡ false)
  refused serial allowed = at p.popup.is_dismissed (is_mapped_stage p.object.stage)
    where
      at : (a b : Bool) → ◌≡◌ {A = Result Bool ShellError} (if a then Ok true else (if b then Err failed.InvalidGrab else Ok allowed)) (Ok false)
          → ((if a then Asks Ignore else Grab x.id serial) ≡ Grab x.id serial) × (allowed ≡ false)
      at true b e = absurd (cc)
      at false true e = absurd (cc)
      at false false e = (refl, cc)

pub grab-asked : GrabAsked
grab-asked names kept o number k x h object serial p allowed one here =
    ap (grab_of object serial x) here
    ∙ asked names kept o number k x h one p here object serial allowed
    ∙ ap (asks_by (λ (taken : Bool). grab_demand serial x p) (shell_refusal x.base x.id object)) (sym (answered names kept o number k x h one p here allowed))

grab-refused : GrabRefused
grab-refused names kept o number k x h serial p allowed one here answer =
    let both = refused names kept o number k x h one p here serial allowed (sym (answered names kept o number k x h one p here allowed) ∙ answer) in
    (both.0, both.1, has-popup names kept o number k x h one p here)

turned : (a b c : Bool) → (a && (b && c)) ≡ (b && (a && c))
turned true true c = refl
turned true false c = refl
turned false true c = refl
turned false false c = refl

grab-allowed : GrabAllowed
grab-allowed names slots tied book r number k x h c serial d found is one =
    let latest = is_latest serial r in
    let free = not (is_held_elsewhere c (grab_holder d)) in
    ap (λ (a : Bool). a && (latest && free)) (allowed-found names slots tied book r.owned found is number k x h one)
    ∙ turned (parent_allows (option_and_then (parent_of r.owned.shell) (popup_at x.id r.owned.shell))) latest free

-- ---- what comes of it

module _ (names : Names) (slots : Slots) (tied : Tied) (kept : ℕ → Option Kept) (r : Resident) (is : IsOwned names slots tied kept r.owned) (number : ℕ) (k : Kept) (x : XdgSurface) (h : History)
    (one : IsXdg names kept r.owned number k x h) (p : Popped) (here : popup_at x.id r.owned.shell ≡ Some p) (c serial : ℕ) (d : Desktop) where
  all-stands : Stands (kept_grabbing true k) (popup_changed grabbing x) h
  all-stands = changes_stand.changed grabbing k x h one.stands

  itself-keeps : KeepsRole (λ x. x)
  itself-keeps = record { id = λ x. refl; surface = λ x. refl; role = λ object x. refl }

  left : p.popup.is_dismissed ≡ true → IsOwned names slots tied (changing number (kept_grabbing true) kept) r.owned
  left gone =
      let same : popup_changed grabbing x ≡ x =
      changed-to names kept r.owned number k x h one p here grabbing p.popup (ap (λ (b : Bool). if b then p.popup else with_grab p.popup) gone) ∙ stays names kept r.owned number k x h one p here in
      subst (λ (s : Shell). IsOwned names slots tied (changing number (kept_grabbing true) kept) (record r.owned { shell = s })) (changed-same x.id r.owned.shell)
      (shell-stepped names slots tied kept r.owned is number k x h one (kept_grabbing true) (λ y. y) itself-keeps (subst (λ (y : XdgSurface). Stands (kept_grabbing true k) y h) same all-stands))

  given : p.popup.is_dismissed ≡ false → IsOwned names slots tied (changing number (kept_grabbing true) kept) (grabbed true x.id r).owned
  given lives =
      let same : popup_changed grabbing x ≡ popup_changed with_grab x =
      changed-to names kept r.owned number k x h one p here grabbing (with_grab p.popup) (ap (λ (b : Bool). if b then p.popup else with_grab p.popup) lives)
      ∙ sym (changed-to names kept r.owned number k x h one p here with_grab (with_grab p.popup) refl) in
      shell-stepped names slots tied kept r.owned is number k x h one (kept_grabbing true) (popup_changed with_grab) (popup-keeps with_grab)
      (subst (λ (y : XdgSurface). Stands (kept_grabbing true k) y h) same all-stands)

  taken : (allowed : Bool) → (if p.popup.is_dismissed then Ok true else (if is_mapped_stage p.object.stage then Err failed.InvalidGrab else Ok allowed)) ≡ Ok true
      → allowed ≡ grab_allowed c x.id serial r d → IsOwned names slots tied (changing number (kept_grabbing true) kept) (changed_for c (grab_demand serial x p) r d).owned
  taken allowed answer same = at p.popup.is_dismissed (is_mapped_stage p.object.stage) refl answer
    where
      at : (a b : Bool) → p.popup.is_dismissed ≡ a → ◌≡◌ {A = Result Bool ShellError} (if a then Ok true else (if b then Err failed.InvalidGrab else Ok allowed)) (Ok true)
          → IsOwned names slots tied (changing number (kept_grabbing true) kept) (changed_for c (if a then Asks Ignore else Grab x.id serial) r d).owned
      at true b gone e = left gone
      at false true lives e = absurd (cc)
      at false false lives e =
          let yes : true ≡ grab_allowed c x.id serial r d = (let is : allowed ≡ true = cc in sym is) ∙ same in
          subst (λ (b : Bool). IsOwned names slots tied (changing number (kept_grabbing true) kept) (grabbed b x.id r).owned) yes (given lives)

grab-taken : GrabTaken
grab-taken names slots tied kept r number k x h c serial p d after is one here answer keeps =
    subst (λ (ks : ℕ → Option Kept). IsOwned names slots tied ks (changed_for c (grab_demand serial x p) r d).owned) (sym keeps)
    (taken names slots tied kept r is number k x h one p here c serial d (grab_allowed c x.id serial r d)
    (sym (answered names kept r.owned number k x h one p here (grab_allowed c x.id serial r d)) ∙ answer) refl)

pub popups-grab : PopupsGrab
popups-grab = record { asked = grab-asked; allowed = grab-allowed; taken = grab-taken; refused = grab-refused }

-- Changes of xdg_surfaces by which no new id comes.
use Rattle.std.proofs.Common.{◌≡◌, ℕ, Bool, true, false, List, Option, Some, None, cond, refl, ap, sym, ◌∙◌, map}
use Rattle.std.specs.Prelude.{◌==◌, ◌&&◌, not}
use Rattle.std.specs.Option.{option_map}
use Rattle.spec_desktop.specs.Objects.{Objects}
use Rattle.wl_surface.specs.Surfaces.{Surfaces}
use Rattle.wl_surface.specs.Waiting.{Callback}
use Rattle.wl_proto.specs.declared.interface.Interface.TheVariants.{XdgSurface, XdgToplevel, XdgPopup}
use Rattle.wl_shell.specs.Popups.{dismiss, dismissed_among, is_among, is_toplevel_kind, popup_changed, with_popup, with_popup_role}
use Rattle.wl_shell.specs.declared.stage.Stage.{Stage}
use Rattle.wl_shell.specs.Shell.{Kind, Toplevel, IsPopup, Popup, RoleObject, Shell, XdgSurface as Xdg, acknowledging, at_stage, configuring, in_stage, role_acknowledged, unmapping, without_role}
use Rattle.spec_desktop.specs.Desktop.{Subsurface}
use Rattle.law_desktop.proofs.Soundness.Orderly.{is_popup_at, is_toplevel_at}
use Rattle.law_desktop.proofs.Soundness.ObjectsHas.{Has, has-shell, has_popup, has_toplevel, has_xdg}
use Rattle.law_desktop.proofs.Soundness.ObjectsKeys.{objects-map}
use Rattle.wl_shell.specs.Popups.{arrive, arriving, copying, repositioning, waiting_in}
use Rattle.wl_shell.specs.Shell.{Configure, awaiting, configuring_with, up_to}
use Rattle.wl_shell.specs.Positioner.{Placed, Positioner}

-- ---- a change by which no new id comes

pub record BringsNoId (change : Xdg → Xdg) : Type 0 where
  pub id : (x : Xdg) → (change x).id ≡ x.id
  pub toplevel : (key : ℕ) (x : Xdg) → has_toplevel key (change x) ≡ true → has_toplevel key x ≡ true
  pub popup : (key : ℕ) (x : Xdg) → has_popup key (change x) ≡ true → has_popup key x ≡ true

pub no-id-then : (f g : Xdg → Xdg) → BringsNoId f → BringsNoId g → BringsNoId (λ x. g (f x))
no-id-then f g a b =
    record { id = λ x. b.id (f x) ∙ a.id x; toplevel = λ key x e. a.toplevel key x (b.toplevel key (f x) e); popup = λ key x e. a.popup key x (b.popup key (f x) e) }

-- only some change
pub no-id-if : (is : Xdg → Bool) (f : Xdg → Xdg) → BringsNoId f → BringsNoId (λ x. cond (is x) (f x) x)
no-id-if is f a = record { id = λ x. id x (is x); toplevel = λ key x. toplevel key x (is x); popup = λ key x. popup key x (is x) }
  where
    id : (x : Xdg) (b : Bool) → (cond b (f x) x).id ≡ x.id
    id x true = a.id x
    id x false = refl

    toplevel : (key : ℕ) (x : Xdg) (b : Bool) → has_toplevel key (cond b (f x) x) ≡ true → has_toplevel key x ≡ true
    toplevel key x true e = a.toplevel key x e
    toplevel key x false e = e

    popup : (key : ℕ) (x : Xdg) (b : Bool) → has_popup key (cond b (f x) x) ≡ true → has_popup key x ≡ true
    popup key x true e = a.popup key x e
    popup key x false e = e

-- ---- each of them

role-toplevel : (key : ℕ) (change : RoleObject → RoleObject) → ((object : RoleObject) → (change object).id ≡ object.id)
    → ((object : RoleObject) → is_toplevel_kind (change object).kind ≡ is_toplevel_kind object.kind) → (role : Option RoleObject)
    → is_toplevel_at key (option_map change role) ≡ is_toplevel_at key role
role-toplevel key change id kind None = refl
role-toplevel key change id kind (Some object) = ap (λ i. (i == key) && is_toplevel_kind (change object).kind) (id object) ∙ ap (λ k. (object.id == key) && k) (kind object)

role-popup : (key : ℕ) (change : RoleObject → RoleObject) → ((object : RoleObject) → (change object).id ≡ object.id)
    → ((object : RoleObject) → is_toplevel_kind (change object).kind ≡ is_toplevel_kind object.kind) → (role : Option RoleObject)
    → is_popup_at key (option_map change role) ≡ is_popup_at key role
role-popup key change id kind None = refl
role-popup key change id kind (Some object) = ap (λ i. (i == key) && not (is_toplevel_kind (change object).kind)) (id object) ∙ ap (λ k. (object.id == key) && not k) (kind object)

same-kind : (change : Popup → Popup) (kind : Kind) → is_toplevel_kind (with_popup change kind) ≡ is_toplevel_kind kind
same-kind change Toplevel = refl
same-kind change (IsPopup popup) = refl

pub no-id-popup : (change : Popup → Popup) → BringsNoId (popup_changed change)
no-id-popup change = record {
  id = λ x. refl;
  toplevel = λ key x e. sym (role-toplevel key (with_popup_role change) (λ object. refl) (λ object. same-kind change object.kind) x.role) ∙ e;
  popup = λ key x e. sym (role-popup key (with_popup_role change) (λ object. refl) (λ object. same-kind change object.kind) x.role) ∙ e;
}

pub no-id-stage : (stage : Stage) → BringsNoId (in_stage stage)
no-id-stage stage = record {
  id = λ x. refl;
  toplevel = λ key x e. sym (role-toplevel key (at_stage stage) (λ object. refl) (λ object. refl) x.role) ∙ e;
  popup = λ key x e. sym (role-popup key (at_stage stage) (λ object. refl) (λ object. refl) x.role) ∙ e;
}

awaiting-kind : (configures : List Configure) (kind : Kind) → is_toplevel_kind (awaiting configures kind) ≡ is_toplevel_kind kind
awaiting-kind configures Toplevel = refl
awaiting-kind configures (IsPopup popup) = refl

pub no-id-acknowledged : (serial : ℕ) → BringsNoId (acknowledging serial)
no-id-acknowledged serial = record {
  id = λ x. refl;
  toplevel = λ key x e.
      let cs = up_to serial x.configures in
      sym (role-toplevel key (role_acknowledged cs) (λ object. refl) (λ object. awaiting-kind cs object.kind) x.role) ∙ e;
  popup = λ key x e.
      let cs = up_to serial x.configures in
      sym (role-popup key (role_acknowledged cs) (λ object. refl) (λ object. awaiting-kind cs object.kind) x.role) ∙ e;
}

-- a placement that waits comes into force
pub no-id-arriving : BringsNoId (λ x. arriving (waiting_in x.role) x)
no-id-arriving = record { id = λ x. id x (waiting_in x.role); toplevel = λ key x. toplevel key x (waiting_in x.role); popup = λ key x. popup key x (waiting_in x.role) }
  where
    id : (x : Xdg) (o : Option Placed) → (arriving o x).id ≡ x.id
    id x None = refl
    id x (Some placed) = refl

    toplevel : (key : ℕ) (x : Xdg) (o : Option Placed) → has_toplevel key (arriving o x) ≡ true → has_toplevel key x ≡ true
    toplevel key x None e = e
    toplevel key x (Some placed) e = (no-id-popup (arrive placed)).toplevel key x e

    popup : (key : ℕ) (x : Xdg) (o : Option Placed) → has_popup key (arriving o x) ≡ true → has_popup key x ≡ true
    popup key x None e = e
    popup key x (Some placed) e = (no-id-popup (arrive placed)).popup key x e

pub no-id-itself : BringsNoId (λ x. x)
no-id-itself = record { id = λ x. refl; toplevel = λ key x e. e; popup = λ key x e. e }

pub no-id-configured : (serial : ℕ) → BringsNoId (configuring serial)
no-id-configured serial = record { id = λ x. refl; toplevel = λ key x e. e; popup = λ key x e. e }

pub no-id-configured-with : (serial : ℕ) (placement : Option Placed) → BringsNoId (configuring_with serial placement)
no-id-configured-with serial placement = record { id = λ x. refl; toplevel = λ key x e. e; popup = λ key x e. e }

pub no-id-repositioned : (b : Bool) (serial : ℕ) (placement : Option Placed) (p : Positioner) → BringsNoId (repositioning b serial placement p)
no-id-repositioned true serial placement p =
    no-id-then (popup_changed (copying p)) (configuring_with serial placement) (no-id-popup (copying p)) (no-id-configured-with serial placement)
no-id-repositioned false serial placement p = no-id-popup (copying p)

pub no-id-unmapped : (since : ℕ) → BringsNoId (unmapping since)
no-id-unmapped since = record { id = λ x. refl; toplevel = (no-id-stage _).toplevel; popup = (no-id-stage _).popup }

pub no-id-without : BringsNoId without_role
no-id-without = record { id = λ x. refl; toplevel = λ key x e. absurd (cc); popup = λ key x e. absurd (cc) }

pub no-id-dismissed : (ids : List ℕ) → BringsNoId (dismissed_among ids)
no-id-dismissed ids = no-id-if (λ x. is_among x.id ids) (popup_changed dismiss) (no-id-popup dismiss)

pub no-id-change : (id : ℕ) (change : Xdg → Xdg) → BringsNoId change → BringsNoId (λ x. cond (x.id == id) (change x) x)
no-id-change id change a = no-id-if (λ x. x.id == id) change a

-- ---- all of them change

pub has-mapped : (objects : Objects) (all : Surfaces) (subs : List Subsurface) (shell : Shell) (calls : List Callback) → Has objects all subs shell calls → (change : Xdg → Xdg) → BringsNoId change
    → Has objects all subs (map change shell) calls
has-mapped objects all subs shell calls h change brings =
    has-shell objects all subs shell calls h (map change shell)
    (objects-map XdgSurface has_xdg objects change shell (λ key x e. ap (λ i. i == key) (sym (brings.id x)) ∙ e) h.xdgs)
    (objects-map XdgToplevel has_toplevel objects change shell brings.toplevel h.toplevels)
    (objects-map XdgPopup has_popup objects change shell brings.popup h.popups)

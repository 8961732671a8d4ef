-- Changes of xdg_surfaces that keep the popups with their parents.
use Rattle.std.proofs.Common.{◌≡◌, ℕ, Bool, true, false, cond, Option, Some, None, refl, sym, subst, ◌∙◌}
use Rattle.std.specs.Prelude.{◌==◌}
use Rattle.std.specs.Option.{option_map}
use Rattle.wl_shell.specs.Popups.{placing, popped_kind, popped_of, popped_role, with_effect, with_popup, with_popup_role, arrive, arriving, unmapped, waiting_in}
use Rattle.wl_shell.specs.Positioner.{Placed}
use Rattle.wl_shell.specs.Shell.{Configures, Effect, IsPopup, Kind, Maps, Popup, RoleObject, Stays, Toplevel, Unconfigured, Unmaps, Waiting, Mapped, Fresh, XdgSurface, at_stage}
use Rattle.law_desktop.proofs.RootsOf.Popped.{AreAlike, KeepsPopups}

-- a change of popups that keeps the number and the parent
pub record KeepsOne (change : Popup → Popup) : Type 0 where
  pub number : (p : Popup) → (change p).number ≡ p.number
  pub parent : (p : Popup) → (change p).parent ≡ p.parent

alike-kinds : (x y : XdgSurface) (object other : RoleObject) (change : Popup → Popup) → KeepsOne change → (k : Kind) → AreAlike (popped_kind x object k) (popped_kind y other (with_popup change k))
alike-kinds x y object other change keeps Toplevel = tt
alike-kinds x y object other change keeps (IsPopup popup) = (keeps.number popup, keeps.parent popup, refl)

-- the role object changes so
pub alike-by : (x y : XdgSurface) (g : RoleObject → RoleObject) (change : Popup → Popup) → KeepsOne change → ((object : RoleObject) → (g object).kind ≡ with_popup change object.kind)
    → (o : Option RoleObject) → AreAlike (popped_role x o) (popped_role y (option_map g o))
alike-by x y g change keeps kinds None = tt
alike-by x y g change keeps kinds (Some object) =
    subst (λ (k : Kind). AreAlike (popped_kind x object object.kind) (popped_kind y (g object) k)) (sym (kinds object))
    (alike-kinds x y object (g object) change keeps object.kind)

same-one : KeepsOne (λ popup. popup)
same-one = record { number = λ p. refl; parent = λ p. refl }

same-kind : (k : Kind) → k ≡ with_popup (λ popup. popup) k
same-kind Toplevel = refl
same-kind (IsPopup popup) = refl

-- only its stage changes, or something else that the kind isn't read from
pub alike-stage : (x y : XdgSurface) (g : RoleObject → RoleObject) → ((object : RoleObject) → (g object).kind ≡ object.kind) → (o : Option RoleObject)
    → AreAlike (popped_role x o) (popped_role y (option_map g o))
alike-stage x y g kinds o = alike-by x y g (λ popup. popup) same-one (λ object. kinds object ∙ same-kind object.kind) o

alike-kind : (x y : XdgSurface) (object : RoleObject) (k : Kind) → AreAlike (popped_kind x object k) (popped_kind y object k)
alike-kind x y object Toplevel = tt
alike-kind x y object (IsPopup popup) = (refl, refl, refl)

pub alike-role : (x y : XdgSurface) (o : Option RoleObject) → AreAlike (popped_role x o) (popped_role y o)
alike-role x y None = tt
alike-role x y (Some object) = alike-kind x y object object.kind

pub keeps-same : KeepsPopups (λ x. x)
keeps-same = record { ids = λ x. refl; surfaces = λ x. refl; alike = λ x. alike-role x x x.role }

-- ---- one changes

pub changed-keeps : (id : ℕ) (change : XdgSurface → XdgSurface) → KeepsPopups change → KeepsPopups (λ x. cond (x.id == id) (change x) x)
changed-keeps id change keeps = record {
  ids = λ x. ids x (x.id == id);
  surfaces = λ x. surfaces x (x.id == id);
  alike = λ x. alike x (x.id == id);
}
  where
    ids : (x : XdgSurface) (b : Bool) → (cond b (change x) x).id ≡ x.id
    ids x true = keeps.ids x
    ids x false = refl

    surfaces : (x : XdgSurface) (b : Bool) → (cond b (change x) x).surface ≡ x.surface
    surfaces x true = keeps.surfaces x
    surfaces x false = refl

    alike : (x : XdgSurface) (b : Bool) → AreAlike (popped_of x) (popped_of (cond b (change x) x))
    alike x true = keeps.alike x
    alike x false = alike-role x x x.role

-- ---- what a commit comes to

placing-one : (where_to : Popup → Option Placed) → KeepsOne (placing where_to)
placing-one where_to = record { number = λ p. refl; parent = λ p. refl }

unmapped-one : KeepsOne unmapped
unmapped-one = record { number = λ p. refl; parent = λ p. refl }

arrived-one : (placed : Placed) → KeepsOne (arrive placed)
arrived-one placed = record { number = λ p. refl; parent = λ p. refl }

option-twice : {A B C : Type 0} (f : A → B) (g : B → C) (o : Option A) → option_map g (option_map f o) ≡ option_map (λ a. g (f a)) o
option-twice f g None = refl
option-twice f g (Some a) = refl

-- a placement that waits comes into force
arriving-keeps : KeepsPopups (λ x. arriving (waiting_in x.role) x)
arriving-keeps = record { ids = λ x. ids x (waiting_in x.role); surfaces = λ x. surfaces x (waiting_in x.role); alike = λ x. alike x (waiting_in x.role) }
  where
    ids : (x : XdgSurface) (o : Option Placed) → (arriving o x).id ≡ x.id
    ids x None = refl
    ids x (Some placed) = refl

    surfaces : (x : XdgSurface) (o : Option Placed) → (arriving o x).surface ≡ x.surface
    surfaces x None = refl
    surfaces x (Some placed) = refl

    alike : (x : XdgSurface) (o : Option Placed) → AreAlike (popped_of x) (popped_of (arriving o x))
    alike x None = alike-role x x x.role
    alike x (Some placed) = alike-by x (arriving (Some placed) x) (with_popup_role (arrive placed)) (arrive placed) (arrived-one placed) (λ object. refl) x.role

-- and the popup is mapped
mapping-alike : (x y : XdgSurface) (o : Option Placed) → AreAlike (popped_role x x.role) (popped_role y (option_map (at_stage Mapped) (arriving o x).role))
mapping-alike x y None = alike-stage x y (at_stage Mapped) (λ object. refl) x.role
mapping-alike x y (Some placed) =
    subst (λ (o : Option RoleObject). AreAlike (popped_role x x.role) (popped_role y o)) (sym (option-twice (with_popup_role (arrive placed)) (at_stage Mapped) x.role))
    (alike-by x y (λ object. at_stage Mapped (with_popup_role (arrive placed) object)) (arrive placed) (arrived-one placed) (λ object. refl) x.role)

pub effect-keeps : (serial since : ℕ) (where_to : Popup → Option Placed) (effect : Effect) → KeepsPopups (with_effect serial since where_to effect)
effect-keeps serial since where_to Stays = arriving-keeps
effect-keeps serial since where_to Unconfigured = keeps-same
effect-keeps serial since where_to Configures = record {
  ids = λ x. refl;
  surfaces = λ x. refl;
  alike = λ x.
      let y = with_effect serial since where_to Configures x in
      subst (λ (o : Option RoleObject). AreAlike (popped_role x x.role) (popped_role y o)) (sym (option-twice (at_stage Waiting) (with_popup_role (placing where_to)) x.role))
      (alike-by x y (λ object. with_popup_role (placing where_to) (at_stage Waiting object)) (placing where_to) (placing-one where_to) (λ object. refl) x.role);
}
effect-keeps serial since where_to Maps = record {
  ids = λ x. arriving-keeps.ids x;
  surfaces = λ x. arriving-keeps.surfaces x;
  alike = λ x. mapping-alike x (with_effect serial since where_to Maps x) (waiting_in x.role);
}
effect-keeps serial since where_to Unmaps = record {
  ids = λ x. refl;
  surfaces = λ x. refl;
  alike = λ x.
      let y = with_effect serial since where_to Unmaps x in
      subst (λ (o : Option RoleObject). AreAlike (popped_role x x.role) (popped_role y o)) (sym (option-twice (at_stage Fresh) (with_popup_role unmapped) x.role))
      (alike-by x y (λ object. with_popup_role unmapped (at_stage Fresh object)) unmapped unmapped-one (λ object. refl) x.role);
}

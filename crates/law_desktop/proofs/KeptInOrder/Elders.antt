-- The parent of each popup goes on having a role object that is older, as xdg_surfaces change, come and go.
use Rattle.std.proofs.Common.{◌≡◌, ◌≤◌, ℕ, List, [], ◌∷◌, Bool, true, false, Option, Some, None, cond, refl, ap, sym, subst, ◌∙◌, map, ◌+◌, ◌++◌, arith}
use Rattle.std.specs.Prelude.{◌==◌, not, is_some, IfSome, IsSomeAnd, nat_lt, if◌then◌else◌}
use Rattle.std.specs.Option.{option_and_then, option_map}
use Rattle.std.proofs.lemmas.Bool.{eqb-true, false_from_ne_true, true≢false}
use Rattle.std.proofs.lemmas.Bool.Decides.{nat_tests}
use Rattle.wl_shell.specs.Popups.{dismiss, dismissed_among, dismissed_with, first_popup, kind_popup, is_among, is_parent_of, new_popup, orphan, orphaning, placing, popup_changed, popup_in}
use Rattle.wl_shell.specs.Popups.{first_of, popped_kind, popped_of, popped_role, popup_at, with_effect, Popped, with_grab, with_popup, with_popup_role}
use Rattle.wl_shell.specs.Popups.{arrive, arriving, copying, repositioning, unmapped, waiting_in}
use Rattle.wl_shell.specs.Positioner.{Placed, Positioner}
use Rattle.wl_shell.specs.declared.stage.Stage.{Stage}
use Rattle.wl_shell.specs.Shell.{Effect, Stays, Unconfigured, Configures, Maps, Unmaps, Fresh, Waiting, Mapped, Kind, Toplevel, IsPopup, Popup, RoleObject, Shell, XdgSurface as Xdg}
use Rattle.wl_shell.specs.Shell.{acknowledging, at_stage, configuring, in_stage, new_toplevel, role_acknowledged, unmapping, with_change, with_new, without_role, without_xdg, xdg_at}
use Rattle.wl_shell.specs.Shell.{Configure, acknowledged, awaiting, configuring_with, later_than, latest_placement, up_to}
use Rattle.spec_desktop.specs.XdgPopup.{may_be_parent}
use Rattle.law_desktop.specs.Apart.{AreApartBy}
use Rattle.law_desktop.proofs.Lists.Keys.{found-map, found-passes}
use Rattle.law_desktop.proofs.Soundness.Orderly.{HasNoRole}
use Rattle.law_desktop.specs.Ordered.{HasElder, HaveElders, OfEach, age_at, age_in, age_of, is_older}
use Rattle.law_desktop.proofs.KeptInOrder.Each.{IsReleased, OfPopup, each-alike, each-both, each-found, each-left, each-map, each-more, each-of, each-only, each-so, some-both, some-so}
use Rattle.law_desktop.proofs.Lists.Left.{find-filter}

-- ---- changes that keep ids, surfaces and ages, and bring no parent, and no grab to what was dismissed

-- of a popup
pub record IsGentleOf (change : Popup → Popup) : Type 0 where
  pub number : (p : Popup) → (change p).number ≡ p.number
  pub parent : (xdg : ℕ) (p : Popup) → is_parent_of xdg (change p) ≡ true → is_parent_of xdg p ≡ true
  pub grab : (p : Popup) → IsReleased p → IsReleased (change p)

-- of an xdg_surface
pub record IsGentle (f : Xdg → Xdg) : Type 0 where
  pub id : (x : Xdg) → (f x).id ≡ x.id
  pub surface : (x : Xdg) → (f x).surface ≡ x.surface
  pub age : (x : Xdg) → age_in (f x).role ≡ age_in x.role
  pub elder : (shell : Shell) (x : Xdg) → OfPopup (HasElder shell) x → OfPopup (HasElder shell) (f x)
  pub released : (x : Xdg) → OfPopup IsReleased x → OfPopup IsReleased (f x)

same-gentle : IsGentle (λ x. x)
same-gentle = record { id = λ x. refl; surface = λ x. refl; age = λ x. refl; elder = λ shell x is. is; released = λ x is. is }

pub then-gentle : (f g : Xdg → Xdg) → IsGentle f → IsGentle g → IsGentle (λ x. g (f x))
then-gentle f g a b = record {
  id = λ x. b.id (f x) ∙ a.id x;
  surface = λ x. b.surface (f x) ∙ a.surface x;
  age = λ x. b.age (f x) ∙ a.age x;
  elder = λ shell x is. b.elder shell (f x) (a.elder shell x is);
  released = λ x is. b.released (f x) (a.released x is);
}

if-gentle : (test : Xdg → Bool) (f : Xdg → Xdg) → IsGentle f → IsGentle (λ x. cond (test x) (f x) x)
if-gentle test f a = record {
  id = λ x. id x (test x);
  surface = λ x. surface x (test x);
  age = λ x. age x (test x);
  elder = λ shell x. elder shell x (test x);
  released = λ x. released x (test x);
}
  where
    id : (x : Xdg) (b : Bool) → (cond b (f x) x).id ≡ x.id
    id x true = a.id x
    id x false = refl

    surface : (x : Xdg) (b : Bool) → (cond b (f x) x).surface ≡ x.surface
    surface x true = a.surface x
    surface x false = refl

    age : (x : Xdg) (b : Bool) → age_in (cond b (f x) x).role ≡ age_in x.role
    age x true = a.age x
    age x false = refl

    elder : (shell : Shell) (x : Xdg) (b : Bool) → OfPopup (HasElder shell) x → OfPopup (HasElder shell) (cond b (f x) x)
    elder shell x true is = a.elder shell x is
    elder shell x false is = is

    released : (x : Xdg) (b : Bool) → OfPopup IsReleased x → OfPopup IsReleased (cond b (f x) x)
    released x true is = a.released x is
    released x false is = is

-- ---- each of them

kept-elder : (change : Popup → Popup) → IsGentleOf change → (shell : Shell) (p : Popup) → HasElder shell p → HasElder shell (change p)
kept-elder change a shell p has parent is = subst (λ (n : ℕ). is_older (age_at parent shell) n ≡ true) (sym (a.number p)) (has parent (a.parent parent p is))

pub popup-gentle : (change : Popup → Popup) → IsGentleOf change → IsGentle (popup_changed change)
popup-gentle change a = record {
  id = λ x. refl;
  surface = λ x. refl;
  age = λ x. age x.role;
  elder = λ shell x. each (HasElder shell) (λ p has. kept-elder change a shell p has) x.role;
  released = λ x. each IsReleased a.grab x.role;
}
  where
    age : (o : Option RoleObject) → age_in (option_map (with_popup_role change) o) ≡ age_in o
    age None = refl
    age (Some object) = ap (λ (n : ℕ). Some n) (kind object.kind)
      where
        kind : (k : Kind) → age_of (with_popup change k) ≡ age_of k
        kind Toplevel = refl
        kind (IsPopup popup) = a.number popup

    each : (P : Popup → Type 0) → ((p : Popup) → P p → P (change p)) → (o : Option RoleObject) → IfSome (popup_in o) P → IfSome (popup_in (option_map (with_popup_role change) o)) P
    each P so None is = tt
    each P so (Some object) is = kind object object.kind is
      where
        kind : (object : RoleObject) (k : Kind) → IfSome (popup_in (Some (record object { kind = k }))) P → IfSome (popup_in (Some (record object { kind = with_popup change k }))) P
        kind object Toplevel is = tt
        kind object (IsPopup popup) is = so popup is

role-gentle : (f : Xdg → Xdg) (change : RoleObject → RoleObject) → ((x : Xdg) → (f x).id ≡ x.id) → ((x : Xdg) → (f x).surface ≡ x.surface)
    → ((x : Xdg) → (f x).role ≡ option_map change x.role) → ((object : RoleObject) → (change object).kind ≡ object.kind) → IsGentle f
role-gentle f change ids surfaces roles kinds = record {
  id = ids;
  surface = surfaces;
  age = λ x. ap age_in (roles x) ∙ age x.role;
  elder = λ shell x is. each (HasElder shell) x is;
  released = λ x is. each IsReleased x is;
}
  where
    age : (o : Option RoleObject) → age_in (option_map change o) ≡ age_in o
    age None = refl
    age (Some object) = ap (λ (k : Kind). Some (age_of k)) (kinds object)

    same : (o : Option RoleObject) → popup_in (option_map change o) ≡ popup_in o
    same None = refl
    same (Some object) = ap (λ (k : Kind). popup_in (Some (record object { kind = k }))) (kinds object)

    each : (P : Popup → Type 0) (x : Xdg) → OfPopup P x → OfPopup P (f x)
    each P x is = subst (λ (o : Option Popup). IfSome o P) (sym (ap popup_in (roles x) ∙ same x.role)) is

stage-gentle : (stage : Stage) → IsGentle (in_stage stage)
stage-gentle stage = role-gentle (in_stage stage) (at_stage stage) (λ x. refl) (λ x. refl) (λ x. refl) (λ object. refl)

-- one that is chosen by the xdg_surface
chosen-gentle : {K : Type 0} (f : K → Xdg → Xdg) (choice : Xdg → K) → ((k : K) → IsGentle (f k)) → IsGentle (λ x. f (choice x) x)
chosen-gentle f choice all = record {
  id = λ x. (all (choice x)).id x;
  surface = λ x. (all (choice x)).surface x;
  age = λ x. (all (choice x)).age x;
  elder = λ shell x is. (all (choice x)).elder shell x is;
  released = λ x is. (all (choice x)).released x is;
}

-- where these configures are acknowledged, the latest placement of theirs waits
abbrev awaiting_those : List Configure → Popup → Popup
awaiting_those configures p = record p { waiting = latest_placement p.waiting configures }

awaited-gentle : (configures : List Configure) → IsGentleOf (awaiting_those configures)
awaited-gentle configures = record { number = λ p. refl; parent = λ xdg p is. is; grab = λ p so. so }

abbrev acknowledging_those : ℕ → List Configure → Xdg → Xdg
acknowledging_those serial configures x = record x { role = option_map (role_acknowledged configures) x.role; configures = later_than serial x.configures }

acknowledged-those : (serial : ℕ) (configures : List Configure) → IsGentle (acknowledging_those serial configures)
acknowledged-those serial configures = record {
  id = λ x. refl;
  surface = λ x. refl;
  age = λ x. age x.role;
  elder = λ shell x. each (HasElder shell) (λ p has. kept-elder (awaiting_those configures) (awaited-gentle configures) shell p has) x.role;
  released = λ x. each IsReleased (λ p so. so) x.role;
}
  where
    age : (o : Option RoleObject) → age_in (option_map (role_acknowledged configures) o) ≡ age_in o
    age None = refl
    age (Some object) = ap (λ (n : ℕ). Some n) (kind object.kind)
      where
        kind : (k : Kind) → age_of (awaiting configures k) ≡ age_of k
        kind Toplevel = refl
        kind (IsPopup popup) = refl

    each : (P : Popup → Type 0) → ((p : Popup) → P p → P (awaiting_those configures p)) → (o : Option RoleObject) → IfSome (popup_in o) P
        → IfSome (popup_in (option_map (role_acknowledged configures) o)) P
    each P so None is = tt
    each P so (Some object) is = kind object object.kind is
      where
        kind : (object : RoleObject) (k : Kind) → IfSome (popup_in (Some (record object { kind = k }))) P
            → IfSome (popup_in (Some (record object { kind = awaiting configures k; stage = acknowledged object.stage }))) P
        kind object Toplevel is = tt
        kind object (IsPopup popup) is = so popup is

pub acknowledged-gentle : (serial : ℕ) → IsGentle (acknowledging serial)
acknowledged-gentle serial = chosen-gentle (acknowledging_those serial) (λ x. up_to serial x.configures) (λ configures. acknowledged-those serial configures)

pub configured-gentle : (serial : ℕ) → IsGentle (configuring serial)
configured-gentle serial =
    record { id = λ x. refl; surface = λ x. refl; age = λ x. refl; elder = λ shell x is. is; released = λ x is. is }

unmapped-gentle : (since : ℕ) → IsGentle (unmapping since)
unmapped-gentle since = role-gentle (unmapping since) (at_stage Fresh) (λ x. refl) (λ x. refl) (λ x. refl) (λ object. refl)

placed-gentle : (where_to : Popup → Option Placed) → IsGentleOf (placing where_to)
placed-gentle where_to = record { number = λ p. refl; parent = λ xdg p is. is; grab = λ p so. so }

ungrabbed-gentle : IsGentleOf unmapped
ungrabbed-gentle = record { number = λ p. refl; parent = λ xdg p is. is; grab = λ p so gone. refl }

copied-gentle : (positioner : Positioner) → IsGentleOf (copying positioner)
copied-gentle positioner = record { number = λ p. refl; parent = λ xdg p is. is; grab = λ p so. so }

arrived-gentle : (placed : Placed) → IsGentleOf (arrive placed)
arrived-gentle placed = record { number = λ p. refl; parent = λ xdg p is. is; grab = λ p so. so }

-- a placement that waits comes into force
arriving-gentle : IsGentle (λ x. arriving (waiting_in x.role) x)
arriving-gentle = chosen-gentle arriving (λ x. waiting_in x.role) at
  where
    at : (o : Option Placed) → IsGentle (arriving o)
    at None = same-gentle
    at (Some placed) = popup-gentle (arrive placed) (arrived-gentle placed)

-- a popup is placed anew
pub repositioned-gentle : (b : Bool) (serial : ℕ) (placement : Option Placed) (positioner : Positioner) → IsGentle (repositioning b serial placement positioner)
repositioned-gentle false serial placement positioner = popup-gentle (copying positioner) (copied-gentle positioner)
repositioned-gentle true serial placement positioner =
    then-gentle (popup_changed (copying positioner)) (configuring_with serial placement) (popup-gentle (copying positioner) (copied-gentle positioner))
    (record { id = λ x. refl; surface = λ x. refl; age = λ x. refl; elder = λ shell x is. is; released = λ x is. is })

dismissed-gentle : IsGentleOf dismiss
dismissed-gentle = record { number = λ p. refl; parent = λ xdg p is. is; grab = λ p so gone. refl }

orphaned-gentle : (xdg : ℕ) → IsGentleOf (orphan xdg)
orphaned-gentle xdg = record {
  number = λ p. number p (is_parent_of xdg p);
  parent = λ key p. parent key p (is_parent_of xdg p);
  grab = λ p. grab p (is_parent_of xdg p);
}
  where
    number : (p : Popup) (b : Bool) → (if b then record p { parent = None } else p).number ≡ p.number
    number p true = refl
    number p false = refl

    parent : (key : ℕ) (p : Popup) (b : Bool) → is_parent_of key (if b then record p { parent = None } else p) ≡ true → is_parent_of key p ≡ true
    parent key p true is = absurd (true≢false (sym is))
    parent key p false is = is

    grab : (p : Popup) (b : Bool) → IsReleased p → IsReleased (if b then record p { parent = None } else p)
    grab p true so = so
    grab p false so = so

-- ---- a grab that is taken

-- it is, where the popup isn't dismissed
abbrev pub taking : Popup → Popup
taking p = if p.is_dismissed then p else with_grab p

pub taking-gentle : IsGentleOf taking
taking-gentle = record {
  number = λ p. number p p.is_dismissed;
  parent = λ key p. parent key p p.is_dismissed;
  grab = λ p. grab p p.is_dismissed refl;
}
  where
    number : (p : Popup) (b : Bool) → (if b then p else with_grab p).number ≡ p.number
    number p true = refl
    number p false = refl

    parent : (key : ℕ) (p : Popup) (b : Bool) → is_parent_of key (if b then p else with_grab p) ≡ true → is_parent_of key p ≡ true
    parent key p true is = is
    parent key p false is = is

    grab : (p : Popup) (b : Bool) → p.is_dismissed ≡ b → IsReleased p → IsReleased (if b then p else with_grab p)
    grab p true e so gone = so gone
    grab p false e so gone = absurd (true≢false (sym gone ∙ e))

abbrev pub IsLiving : Popup → Type 0
IsLiving popup = popup.is_dismissed ≡ false

-- the popup of this xdg_surface, which there is, isn't dismissed
abbrev pub HasLiving : ℕ → Shell → Type 0
HasLiving xdg shell = IsSomeAnd (popup_at xdg shell) (λ p. IsLiving p.popup)

living-of : (x : Xdg) → IsSomeAnd (first_of (popped_of x)) (λ p. IsLiving p.popup) → OfPopup IsLiving x
living-of x is = role x.role is
  where
    kind : (object : RoleObject) (k : Kind) → IsSomeAnd (first_of (popped_kind x object k)) (λ p. IsLiving p.popup) → IfSome (kind_popup k) IsLiving
    kind object Toplevel is = tt
    kind object (IsPopup p) is = is

    role : (o : Option RoleObject) → IsSomeAnd (first_of (popped_role x o)) (λ p. IsLiving p.popup) → IfSome (popup_in o) IsLiving
    role None is = tt
    role (Some object) is = kind object object.kind is

-- so it is taken
taken-by : (x : Xdg) → OfPopup IsLiving x → popup_changed with_grab x ≡ popup_changed taking x
taken-by x is = ap (λ (o : Option RoleObject). record x { role = o }) (role x.role is)
  where
    kind : (k : Kind) → IfSome (kind_popup k) IsLiving → with_popup with_grab k ≡ with_popup taking k
    kind Toplevel is = refl
    kind (IsPopup p) is = ap (λ (b : Bool). IsPopup (if b then p else with_grab p)) (sym is)

    role : (o : Option RoleObject) → IfSome (popup_in o) IsLiving → option_map (with_popup_role with_grab) o ≡ option_map (with_popup_role taking) o
    role None is = refl
    role (Some object) is = ap (λ (k : Kind). Some (record object { kind = k })) (kind object.kind is)

pub taken : (xdg : ℕ) (shell : Shell) → AreApartBy (λ key x. x.id == key) shell → HasLiving xdg shell
    → with_change xdg (popup_changed with_grab) shell ≡ with_change xdg (popup_changed taking) shell
taken xdg shell apart living = at (xdg_at xdg shell) refl living
  where
    one : (x : Xdg) (b : Bool) → (b ≡ true → OfPopup IsLiving x) → cond b (popup_changed with_grab x) x ≡ cond b (popup_changed taking x) x
    one x true so = taken-by x (so refl)
    one x false so = refl

    at : (o : Option Xdg) → xdg_at xdg shell ≡ o → IsSomeAnd (option_and_then (λ (x : Xdg). first_of (popped_of x)) o) (λ p. IsLiving p.popup)
        → with_change xdg (popup_changed with_grab) shell ≡ with_change xdg (popup_changed taking) shell
    at None found is = absurd is
    at (Some x) found is =
        each-alike (λ y. cond (y.id == xdg) (popup_changed with_grab y) y) (λ y. cond (y.id == xdg) (popup_changed taking y) y) shell
        (each-so (λ y. (y.id == xdg) ≡ true → OfPopup IsLiving y) (λ y. cond (y.id == xdg) (popup_changed with_grab y) y ≡ cond (y.id == xdg) (popup_changed taking y) y)
        (λ y so. one y (y.id == xdg) so) shell (each-only (OfPopup IsLiving) xdg x shell apart found (living-of x is)))

pub effect-gentle : (serial since : ℕ) (where_to : Popup → Option Placed) (effect : Effect) → IsGentle (with_effect serial since where_to effect)
effect-gentle serial since where_to Stays = arriving-gentle
effect-gentle serial since where_to Unconfigured = same-gentle
effect-gentle serial since where_to Configures =
    then-gentle (λ x. popup_changed (placing where_to) (in_stage Waiting x)) (configuring serial)
    (then-gentle (in_stage Waiting) (popup_changed (placing where_to)) (stage-gentle Waiting) (popup-gentle (placing where_to) (placed-gentle where_to))) (configured-gentle serial)
effect-gentle serial since where_to Maps = then-gentle (λ x. arriving (waiting_in x.role) x) (in_stage Mapped) arriving-gentle (stage-gentle Mapped)
effect-gentle serial since where_to Unmaps =
    then-gentle (unmapping since) (popup_changed unmapped) (unmapped-gentle since) (popup-gentle unmapped ungrabbed-gentle)

pub one-gentle : (id : ℕ) (f : Xdg → Xdg) → IsGentle f → IsGentle (λ x. cond (x.id == id) (f x) x)
one-gentle id f a = if-gentle (λ x. x.id == id) f a

among-gentle : (ids : List ℕ) → IsGentle (dismissed_among ids)
among-gentle ids = if-gentle (λ x. is_among x.id ids) (popup_changed dismiss) (popup-gentle dismiss dismissed-gentle)

-- ---- ages

id-kept : (key : ℕ) (f : Xdg → Xdg) → ((x : Xdg) → (f x).id ≡ x.id) → (shell : Shell) → xdg_at key (map f shell) ≡ option_map f (xdg_at key shell)
id-kept key f ids shell = found-map (λ x. x.id == key) f shell (λ x. ap (λ (n : ℕ). n == key) (ids x))

pub age-kept : (key : ℕ) (f : Xdg → Xdg) → IsGentle f → (shell : Shell) → age_at key (map f shell) ≡ age_at key shell
age-kept key f a shell = ap (option_and_then (λ (x : Xdg). age_in x.role)) (id-kept key f a.id shell) ∙ at (xdg_at key shell)
  where
    at : (o : Option Xdg) → option_and_then (λ (x : Xdg). age_in x.role) (option_map f o) ≡ option_and_then (λ (x : Xdg). age_in x.role) o
    at None = refl
    at (Some x) = a.age x

-- that of another one stays where one changes, whatever becomes of that
age-elsewhere : (key xdg : ℕ) (f : Xdg → Xdg) → ((x : Xdg) → (f x).id ≡ x.id) → (key == xdg) ≡ false → (shell : Shell) → age_at key (with_change xdg f shell) ≡ age_at key shell
age-elsewhere key xdg f ids away shell =
    ap (option_and_then (λ (x : Xdg). age_in x.role)) (id-kept key one (λ x. same x (x.id == xdg)) shell) ∙ at (xdg_at key shell) refl
  where
    one : Xdg → Xdg
    one x = cond (x.id == xdg) (f x) x

    same : (x : Xdg) (b : Bool) → (cond b (f x) x).id ≡ x.id
    same x true = ids x
    same x false = refl

    at : (o : Option Xdg) → xdg_at key shell ≡ o
        → option_and_then (λ (x : Xdg). age_in x.role) (option_map (λ (x : Xdg). cond (x.id == xdg) (f x) x) o) ≡ option_and_then (λ (x : Xdg). age_in x.role) o
    at None found = refl
    at (Some x) found =
        ap (λ (b : Bool). age_in (cond b (f x) x).role)
        (ap (λ (n : ℕ). n == xdg) (eqb-true x.id key (found-passes (λ (y : Xdg). y.id == key) shell x found)) ∙ away)

-- ---- an xdg_surface that is no parent

abbrev pub IsNoParentOf : ℕ → Popup → Type 0
IsNoParentOf xdg p = is_parent_of xdg p ≡ false

abbrev pub IsNoParent : ℕ → Shell → Type 0
IsNoParent xdg shell = OfEach (OfPopup (IsNoParentOf xdg)) shell

-- without a role object it is none
pub bare-no-parent : (xdg : ℕ) (shell : Shell) → age_at xdg shell ≡ None → HaveElders shell → IsNoParent xdg shell
bare-no-parent xdg shell none elders = each-so (OfPopup (HasElder shell)) (OfPopup (IsNoParentOf xdg)) (λ x. some-so (HasElder shell) (IsNoParentOf xdg) of (popup_in x.role)) shell elders
  where
    of : (p : Popup) → HasElder shell p → IsNoParentOf xdg p
    of p has = false_from_ne_true (is_parent_of xdg p) (λ is. true≢false (sym (has xdg is) ∙ ap (λ (o : Option ℕ). is_older o p.number) none))

pub bare-age : (xdg : ℕ) (shell : Shell) → HasNoRole (xdg_at xdg shell) → age_at xdg shell ≡ None
bare-age xdg shell = at (xdg_at xdg shell)
  where
    at : (o : Option Xdg) → HasNoRole o → option_and_then (λ (x : Xdg). age_in x.role) o ≡ None
    at None bare = absurd bare
    at (Some x) bare = ap age_in bare

-- no popup has it as its parent once it was orphaned
pub orphaned-no-parent : (xdg : ℕ) (shell : Shell) → IsNoParent xdg (orphaning xdg shell)
orphaned-no-parent xdg shell = each-map (λ x. Unit {0}) (OfPopup (IsNoParentOf xdg)) (popup_changed (orphan xdg)) (λ x is. role x.role) shell (each-of (λ x. Unit {0}) (λ x. tt) shell)
  where
    of : (p : Popup) (b : Bool) → is_parent_of xdg p ≡ b → is_parent_of xdg (if b then record p { parent = None } else p) ≡ false
    of p true is = refl
    of p false is = is

    role : (o : Option RoleObject) → IfSome (popup_in (option_map (with_popup_role (orphan xdg)) o)) (IsNoParentOf xdg)
    role None = tt
    role (Some object) = kind object object.kind
      where
        kind : (object : RoleObject) (k : Kind) → IfSome (popup_in (Some (record object { kind = with_popup (orphan xdg) k }))) (IsNoParentOf xdg)
        kind object Toplevel = tt
        kind object (IsPopup p) = of p (is_parent_of xdg p) refl

-- so the ages of parents stay
kept-parent : (xdg : ℕ) (p : Popup) → IsNoParentOf xdg p → (key : ℕ) → is_parent_of key p ≡ true → (key == xdg) ≡ false
kept-parent xdg p none key is = false_from_ne_true (key == xdg) (λ same. true≢false (sym is ∙ ap (λ (n : ℕ). is_parent_of n p) (eqb-true key xdg same) ∙ none))

elders-as : (old new : Shell) (p : Popup) → ((key : ℕ) → is_parent_of key p ≡ true → age_at key new ≡ age_at key old) → HasElder old p → HasElder new p
elders-as old new p same has key is = ap (λ (o : Option ℕ). is_older o p.number) (same key is) ∙ has key is

-- ---- all of them

-- a gentle change of all
pub elders-map : (f : Xdg → Xdg) → IsGentle f → (shell : Shell) → HaveElders shell → HaveElders (map f shell)
elders-map f a shell elders =
    each-map (OfPopup (HasElder shell)) (OfPopup (HasElder (map f shell))) f
    (λ x is. some-so (HasElder shell) (HasElder (map f shell)) (λ p has. elders-as shell (map f shell) p (λ key is. age-kept key f a shell) has) (popup_in (f x).role) (a.elder shell x is))
    shell elders

abbrev IsApart : ℕ → Shell → Popup → Type 0
IsApart xdg shell p = HasElder shell p × IsNoParentOf xdg p

-- whatever becomes of one that is no parent
pub elders-changed : (xdg : ℕ) (f : Xdg → Xdg) → ((x : Xdg) → (f x).id ≡ x.id) → (shell : Shell) → IsNoParent xdg shell
    → ((x : Xdg) → OfPopup (λ p. HasElder shell p × IsNoParentOf xdg p) (f x)) → HaveElders shell → HaveElders (with_change xdg f shell)
elders-changed xdg f ids shell none is elders =
    each-map (OfPopup (IsApart xdg shell)) (OfPopup (HasElder (with_change xdg f shell))) (λ x. cond (x.id == xdg) (f x) x)
    (λ x has. some-so (IsApart xdg shell) (HasElder (with_change xdg f shell)) so (popup_in (cond (x.id == xdg) (f x) x).role) (at x (x.id == xdg) has)) shell
    (each-so (λ x. OfPopup (HasElder shell) x × OfPopup (IsNoParentOf xdg) x) (OfPopup (IsApart xdg shell))
    (λ x both. some-both (HasElder shell) (IsNoParentOf xdg) (popup_in x.role) both.0 both.1) shell
    (each-both (OfPopup (HasElder shell)) (OfPopup (IsNoParentOf xdg)) shell elders none))
  where
    so : (p : Popup) → IsApart xdg shell p → HasElder (with_change xdg f shell) p
    so p both = elders-as shell (with_change xdg f shell) p (λ key is. age-elsewhere key xdg f ids (kept-parent xdg p both.1 key is) shell) both.0

    at : (x : Xdg) (b : Bool) → OfPopup (IsApart xdg shell) x → OfPopup (IsApart xdg shell) (cond b (f x) x)
    at x true has = is x
    at x false has = has

-- one that goes, and is no parent
pub elders-left : (id : ℕ) (shell : Shell) → IsNoParent id shell → HaveElders shell → HaveElders (without_xdg id shell)
elders-left id shell none elders =
    each-left (OfPopup (HasElder (without_xdg id shell))) (λ x. not (x.id == id)) shell
    (each-so (λ x. OfPopup (HasElder shell) x × OfPopup (IsNoParentOf id) x) (OfPopup (HasElder (without_xdg id shell)))
    (λ x both. some-so (IsApart id shell) (HasElder (without_xdg id shell)) so (popup_in x.role) (some-both (HasElder shell) (IsNoParentOf id) (popup_in x.role) both.0 both.1)) shell
    (each-both (OfPopup (HasElder shell)) (OfPopup (IsNoParentOf id)) shell elders none))
  where
    so : (p : Popup) → IsApart id shell p → HasElder (without_xdg id shell) p
    so p both =
        elders-as shell (without_xdg id shell) p
        (λ key is.
        ap (option_and_then (λ (x : Xdg). age_in x.role))
        (find-filter (λ (x : Xdg). x.id == key) (λ (x : Xdg). not (x.id == id)) shell
        (λ x here. ap (λ (n : ℕ). not (n == id)) (eqb-true x.id key here) ∙ ap not (kept-parent id p both.1 key is)))) both.0

-- one more
pub elders-more : (id base surface : ℕ) (shell : Shell) → HaveElders shell → HaveElders (with_new id base surface shell)
elders-more id base surface shell elders =
    each-more (OfPopup (HasElder (with_new id base surface shell))) shell _ tt
    (each-so (OfPopup (HasElder shell)) (OfPopup (HasElder (with_new id base surface shell)))
    (λ x. some-so (HasElder shell) (HasElder (with_new id base surface shell)) so (popup_in x.role)) shell elders)
  where
    found : (key : ℕ) (xs : Shell) (y x : Xdg) → xdg_at key xs ≡ Some x → xdg_at key (xs ++ y ∷ []) ≡ Some x
    found key [] y x e = absurd (cc)
    found key (z ∷ zs) y x e = at (z.id == key) e (found key zs y x)
      where
        at : (b : Bool) → cond b (Some z) (xdg_at key zs) ≡ Some x → (xdg_at key zs ≡ Some x → xdg_at key (zs ++ y ∷ []) ≡ Some x) → cond b (Some z) (xdg_at key (zs ++ y ∷ [])) ≡ Some x
        at true e later = e
        at false e later = later e

    of : (key number : ℕ) (o : Option Xdg) → xdg_at key shell ≡ o → is_older (option_and_then (λ (x : Xdg). age_in x.role) o) number ≡ true
        → is_older (age_at key (with_new id base surface shell)) number ≡ true
    of key number None e is = absurd (true≢false (sym is))
    of key number (Some x) e is = ap (λ (o : Option Xdg). is_older (option_and_then (λ (x : Xdg). age_in x.role) o) number) (found key shell _ x e) ∙ is

    so : (p : Popup) → HasElder shell p → HasElder (with_new id base surface shell) p
    so p has key is = of key p.number (xdg_at key shell) refl (has key is)

-- ---- a new popup

-- each popup has a number up to this one
abbrev pub IsUpTo : ℕ → Popup → Type 0
IsUpTo n p = p.number ≤ n

-- what may be a parent is older than a popup whose number none has yet
pub parent-older : (parent k : ℕ) (shell : Shell) → OfEach (OfPopup (IsUpTo k)) shell → may_be_parent (xdg_at parent shell) ≡ true → is_older (age_at parent shell) (k + 1) ≡ true
parent-older parent k shell up may = at (xdg_at parent shell) refl may
  where
    below : (n : ℕ) → n ≤ k → nat_lt n (k + 1) ≡ true
    below n low = grind (arith, nat_tests, low)

    kind : (d : Kind) → IfSome (kind_popup d) (IsUpTo k) → nat_lt (age_of d) (k + 1) ≡ true
    kind Toplevel low = below 0 (least k)
      where
        least : (n : ℕ) → 0 ≤ n
        least n = omega arith
    kind (IsPopup p) low = below p.number low

    role : (o : Option RoleObject) → IfSome (popup_in o) (IsUpTo k) → is_some o ≡ true → is_older (age_in o) (k + 1) ≡ true
    role None low is = absurd (true≢false (sym is))
    role (Some object) low is = kind object.kind low

    at : (o : Option Xdg) → xdg_at parent shell ≡ o → may_be_parent o ≡ true → is_older (option_and_then (λ (x : Xdg). age_in x.role) o) (k + 1) ≡ true
    at None e is = absurd (true≢false (sym is))
    at (Some x) e is = role x.role (each-found (OfPopup (IsUpTo k)) (λ y. y.id == parent) x shell e up) is

-- it isn't the parent of itself
pub parent-away : (parent xdg : ℕ) (shell : Shell) → HasNoRole (xdg_at xdg shell) → may_be_parent (xdg_at parent shell) ≡ true → (parent == xdg) ≡ false
parent-away parent xdg shell bare may =
    false_from_ne_true (parent == xdg) (λ same. clash (xdg_at xdg shell) bare (ap (λ (n : ℕ). may_be_parent (xdg_at n shell)) (sym (eqb-true parent xdg same)) ∙ may))
  where
    clash : (o : Option Xdg) → HasNoRole o → may_be_parent o ≡ true → ⊥
    clash None bare may = bare
    clash (Some x) bare may = true≢false (sym may ∙ ap is_some bare)

pub popup-elder : (parent number : ℕ) (positioner : Positioner) (shell : Shell) → is_older (age_at parent shell) number ≡ true → HasElder shell (first_popup parent positioner number)
popup-elder parent number positioner shell older key is = ap (λ (n : ℕ). is_older (age_at n shell) number) (sym (eqb-true parent key is)) ∙ older

pub elders-popup : (id xdg parent k since : ℕ) (positioner : Positioner) (shell : Shell) → OfEach (OfPopup (IsUpTo k)) shell → HasNoRole (xdg_at xdg shell)
    → may_be_parent (xdg_at parent shell) ≡ true → HaveElders shell → HaveElders (with_change xdg (new_popup id parent positioner (k + 1) since) shell)
elders-popup id xdg parent k since positioner shell up bare may elders =
    elders-changed xdg (new_popup id parent positioner (k + 1) since) (λ x. refl) shell (bare-no-parent xdg shell (bare-age xdg shell bare) elders)
    (λ x. (popup-elder parent (k + 1) positioner shell (parent-older parent k shell up may), parent-away parent xdg shell bare may)) elders

pub elders-toplevel : (id xdg since : ℕ) (shell : Shell) → HasNoRole (xdg_at xdg shell) → HaveElders shell → HaveElders (with_change xdg (new_toplevel id since) shell)
elders-toplevel id xdg since shell bare elders =
    elders-changed xdg (new_toplevel id since) (λ x. refl) shell (bare-no-parent xdg shell (bare-age xdg shell bare) elders) (λ x. tt) elders

pub elders-bare : (xdg : ℕ) (shell : Shell) → IsNoParent xdg shell → HaveElders shell → HaveElders (with_change xdg without_role shell)
elders-bare xdg shell none elders = elders-changed xdg without_role (λ x. refl) shell none (λ x. tt) elders

pub dismissing-gentle : (is : Popped → Bool) (shell : Shell) → IsGentle (dismissed_among (dismissed_with is shell))
dismissing-gentle is shell = among-gentle (dismissed_with is shell)

pub orphaning-gentle : (xdg : ℕ) → IsGentle (popup_changed (orphan xdg))
orphaning-gentle xdg = popup-gentle (orphan xdg) (orphaned-gentle xdg)

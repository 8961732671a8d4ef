-- What stands of a client is mapped, and stands once, after each message too.
use Rattle.std.proofs.Common.{◌≡◌, ◌≢◌, ℕ, List, [], ◌∷◌, ◌++◌, Bool, true, false, Option, Some, None, cond, refl, ap, sym, subst, ◌∙◌, map, arith}
use Rattle.std.specs.Prelude.{◌==◌, ◌||◌, not, find, filter}
use Rattle.std.specs.List.{list_any}
use Rattle.std.specs.Option.{option_map, option_map_or}
use Rattle.std.proofs.lemmas.Bool.{and_from, eqb-true, false_from_ne_true, ne_eqb, or_left, or_right, true_from_ne_false, true≢false}
use Rattle.std.proofs.lemmas.List.Elements.{filter-append}
use Rattle.std.proofs.lemmas.Option.{same_Some}
use Rattle.wl_shell.specs.Popups.{Popped, dismiss, dismissed_among, dismissed_with, dismissing, is_among, is_parent_of, is_toplevel, is_toplevel_kind, new_popup, orphan, orphaning, popped_of}
use Rattle.wl_shell.specs.Popups.{popup_changed, with_grab, with_popup, with_popup_role}
use Rattle.wl_shell.specs.declared.stage.Stage.{Stage}
use Rattle.wl_shell.specs.Shell.{Configures, Effect, IsPopup, Kind, Mapped, Maps, Popup, RoleObject, Shell, Stays, Toplevel, Unconfigured, Unmaps, XdgSurface, at_stage, in_stage, on_commit}
use Rattle.wl_shell.specs.Shell.{with_change, with_new, without_xdg, xdg_at, xdg_of, configuring, unmapping, acknowledged, acknowledging, is_role, new_toplevel, role_acknowledged, without_role}
use Rattle.wl_shell.specs.Shell.{xdg_with}
use Rattle.spec_desktop.specs.Stacking.{Standing, is_of, with_mapped, without_surface_of, Owned}
use Rattle.spec_desktop.specs.Windows.{mapping_place, Window}
use Rattle.spec_desktop.specs.Changing.{Placing, commit_done, effect_placing, placement_now, stacked_by, tree_committed, grabbed, popup_given_to, changed_for, grab_allowed, has_focus, in_rising_order, stacked_for}
use Rattle.spec_desktop.specs.Changing.{toplevel_ended}
use Rattle.spec_desktop.specs.Demanding.{effect_for_xdg, is_dismissed, effect_of_commit, effect_on_xdg}
use Rattle.law_desktop.specs.Laws.{AreApart}
use Rattle.spec_desktop.specs.Desktop.{toplevels_of, Desktop, Resident}
use Rattle.law_desktop.specs.Apart.{AreApartBy}
use Rattle.law_desktop.proofs.Soundness.Orderly.{IsOn, HasNoRole, IsMapped, IsMappedRole, StandsSo, HasId, HasObjects, IsAsked, is_toplevel_at, HasRoles, IsAllowed}
use Rattle.law_desktop.proofs.Lists.Keys.{found-by, found-map, found-passes, apart-map, found-any}
use Rattle.law_desktop.proofs.Lists.Standings.{any-last, apart-left, mapped-apart, none-left, without-here}
use Rattle.law_desktop.proofs.Marks.Stacks.{equal-numbers}
use Rattle.law_desktop.proofs.Truth.{and-right}
use Rattle.law_desktop.proofs.Lists.Tests.{any-more}
use Rattle.law_desktop.proofs.Lists.Left.{filter-swap}
use Rattle.law_desktop.proofs.Runs.Following.{drawing-owned}
use Rattle.spec_desktop.specs.WlSurface.{will_show}
use Rattle.spec_desktop.specs.Step.{asked_so_far, changed_by, toplevel_given}
use Rattle.wl_shell.specs.Positioner.{Positioner}
use Rattle.spec_desktop.specs.Objects.{Object, interface_number, is_of as is_object_of}
use Rattle.wl_proto.specs.declared.interface.Interface.TheVariants.{XdgPopup, XdgToplevel}
use Rattle.spec_desktop.specs.Ask.{Ask, GetXdgSurface, DestroyXdgSurface, GetToplevel, Acknowledge, ConfigureAgain}
use Rattle.spec_desktop.specs.Demand.{Demand, Asks, CommitTree, SetMode, GetPointer}
use Rattle.spec_desktop.specs.Demand.{GetPopup, Grab, EndPopup, EndToplevel}
use Rattle.wl_shell.specs.Popups.{arrive, arriving, copying, is_configured, popup_at, repositioning, unmapped, waiting_in}
use Rattle.wl_shell.specs.Shell.{Configure, awaiting, up_to}
use Rattle.wl_shell.specs.Positioner.{Placed}
use Rattle.spec_desktop.specs.Changing.{popup_repositioned}
use Rattle.spec_desktop.specs.Demand.{Reposition}
use Rattle.spec_desktop.specs.Step.{xdg_changed}

-- ---- lists

pub found-first : {X : Type 0} (p : X → Bool) (xs : List X) (x y : X) → find p xs ≡ Some y → find p (xs ++ x ∷ []) ≡ Some y
found-first p [] x y found = absurd (cc)
found-first p (z ∷ zs) x y found = at (p z) found (found-first p zs x y)
  where
    at : (b : Bool) → cond b (Some z) (find p zs) ≡ Some y → (find p zs ≡ Some y → find p (zs ++ x ∷ []) ≡ Some y) → cond b (Some z) (find p (zs ++ x ∷ [])) ≡ Some y
    at true found rest = found
    at false found rest = rest found

-- what is found is still found where it is left
pub found-kept : {X : Type 0} (p q : X → Bool) (xs : List X) (x : X) → find p xs ≡ Some x → q x ≡ true → find p (filter q xs) ≡ Some x
found-kept p q [] x found keeps = absurd (cc)
found-kept p q (y ∷ ys) x found keeps = at (p y) (q y) refl refl found (λ e. found-kept p q ys x e keeps)
  where
    at : (a b : Bool) → p y ≡ a → q y ≡ b → cond a (Some y) (find p ys) ≡ Some x → (find p ys ≡ Some x → find p (filter q ys) ≡ Some x) → find p (cond b (y ∷ filter q ys) (filter q ys)) ≡ Some x
    at true true e f here rest = ap (λ c. cond c (Some y) (find p (filter q ys))) e ∙ here
    at true false e f here rest = absurd (true≢false (sym keeps ∙ ap q (sym (same_Some y x here)) ∙ f))
    at false true e f here rest = ap (λ c. cond c (Some y) (find p (filter q ys))) e ∙ rest here
    at false false e f here rest = rest here

-- two that are found and have one key are the same
pub same-key : {X : Type 0} (has : ℕ → X → Bool) (p q : X → Bool) (key : ℕ) (xs : List X) (x y : X) → AreApartBy has xs → find p xs ≡ Some x → find q xs ≡ Some y → has key x ≡ true → has key y ≡ true
    → x ≡ y
same-key has p q key xs x y apart a b f g = same_Some x y (sym (found-by has p key xs x apart a f) ∙ found-by has q key xs y apart b g)

-- ---- changes of the shell

pub mapped-if :
    (f : XdgSurface → XdgSurface) (shell : Shell) (surface : ℕ) → ((x : XdgSurface) → (f x).surface ≡ x.surface)
    → ((x : XdgSurface) → xdg_of surface shell ≡ Some x → IsMappedRole x.role → IsMappedRole (f x).role) → IsMapped (xdg_of surface shell) → IsMapped (xdg_of surface (map f shell))
mapped-if f shell surface keeps maps is = subst IsMapped (sym (found-map (λ x. x.surface == surface) f shell (λ x. ap (λ n. n == surface) (keeps x)))) (at (xdg_of surface shell) maps is)
  where
    at : (o : Option XdgSurface) → ((x : XdgSurface) → o ≡ Some x → IsMappedRole x.role → IsMappedRole (f x).role) → IsMapped o → IsMapped (option_map f o)
    at None maps is = is
    at (Some x) maps is = maps x refl is

pub standing-same : (shell new : Shell) (tops : List Standing) → ((surface : ℕ) → IsMapped (xdg_of surface shell) → IsMapped (xdg_of surface new)) → StandsSo shell tops → StandsSo new tops
standing-same shell new tops keeps stands = record { apart = stands.apart; mapped = λ surface any. keeps surface (stands.mapped surface any) }

-- ---- popups change

popup-role : (change : Popup → Popup) (o : Option RoleObject) → IsMappedRole o → IsMappedRole (option_map (with_popup_role change) o)
popup-role change None is = is
popup-role change (Some object) is = (ap (with_popup change) is.0, is.1)

dismissed-surface : (ids : List ℕ) (x : XdgSurface) (b : Bool) → (cond b (popup_changed dismiss x) x).surface ≡ x.surface
dismissed-surface ids x true = refl
dismissed-surface ids x false = refl

dismissed-role : (x : XdgSurface) (b : Bool) → IsMappedRole x.role → IsMappedRole (cond b (popup_changed dismiss x) x).role
dismissed-role x true is = popup-role dismiss x.role is
dismissed-role x false is = is

pub mapped-dismissed : (is : Popped → Bool) (shell : Shell) (surface : ℕ) → IsMapped (xdg_of surface shell) → IsMapped (xdg_of surface (dismissing is shell))
mapped-dismissed is shell surface here =
    mapped-if (λ x. cond (is_among x.id (dismissed_with is shell)) (popup_changed dismiss x) x) shell surface
    (λ x. dismissed-surface (dismissed_with is shell) x (is_among x.id (dismissed_with is shell)))
    (λ x found. dismissed-role x (is_among x.id (dismissed_with is shell))) here

pub standing-dismissed : (is : Popped → Bool) (shell : Shell) (tops : List Standing) → StandsSo shell tops → StandsSo (dismissing is shell) tops
standing-dismissed is shell tops stands = standing-same shell (dismissing is shell) tops (mapped-dismissed is shell) stands

-- ---- one xdg_surface changes

changed-surface : (id : ℕ) (change : XdgSurface → XdgSurface) → ((x : XdgSurface) → (change x).surface ≡ x.surface) → (x : XdgSurface) (b : Bool) → (cond b (change x) x).surface ≡ x.surface
changed-surface id change keeps x true = keeps x
changed-surface id change keeps x false = refl

-- where it is the one that changes, it stays mapped
pub mapped-changed :
    (id : ℕ) (change : XdgSurface → XdgSurface) (shell : Shell) (surface : ℕ) → ((x : XdgSurface) → (change x).surface ≡ x.surface)
    → ((x : XdgSurface) → xdg_of surface shell ≡ Some x → x.id ≡ id → IsMappedRole x.role → IsMappedRole (change x).role) → IsMapped (xdg_of surface shell)
    → IsMapped (xdg_of surface (with_change id change shell))
mapped-changed id change shell surface keeps maps is =
    mapped-if (λ x. cond (x.id == id) (change x) x) shell surface (λ x. changed-surface id change keeps x (x.id == id)) (λ x found. at x (x.id == id) refl (maps x found)) is
  where
    at : (x : XdgSurface) (b : Bool) → (x.id == id) ≡ b → (x.id ≡ id → IsMappedRole x.role → IsMappedRole (change x).role) → IsMappedRole x.role → IsMappedRole (cond b (change x) x).role
    at x true e f is = f (eqb-true x.id id e) is
    at x false e f is = is

-- one without role object changes
no-role : (x : XdgSurface) → x.role ≡ None → IsMappedRole x.role → ⊥
no-role x none is = subst IsMappedRole none is

bare-at : (id : ℕ) (shell : Shell) (surface : ℕ) (x : XdgSurface) → AreApartBy (λ id x. x.id == id) shell → HasNoRole (xdg_at id shell) → xdg_of surface shell ≡ Some x → x.id ≡ id → x.role ≡ None
bare-at id shell surface x apart bare found same =
    subst HasNoRole (found-by (λ id x. x.id == id) (λ x. x.surface == surface) id shell x apart found (equal-numbers x.id id same)) bare

pub mapped-bare :
    (id : ℕ) (change : XdgSurface → XdgSurface) (shell : Shell) (surface : ℕ) → ((x : XdgSurface) → (change x).surface ≡ x.surface) → AreApartBy (λ id x. x.id == id) shell
    → HasNoRole (xdg_at id shell)
    → IsMapped (xdg_of surface shell) → IsMapped (xdg_of surface (with_change id change shell))
mapped-bare id change shell surface keeps apart bare is =
    mapped-changed id change shell surface keeps (λ x found same here. absurd (no-role x (bare-at id shell surface x apart bare found same) here)) is

-- ---- an xdg_surface comes or goes

mapped-some : (P : Type 0) (o : Option XdgSurface) → IsMapped o → ((x : XdgSurface) → o ≡ Some x → IsMappedRole x.role → P) → P
mapped-some P None is f = absurd is
mapped-some P (Some x) is f = f x refl is

pub mapped-new : (id base made surface : ℕ) (shell : Shell) → IsMapped (xdg_of surface shell) → IsMapped (xdg_of surface (with_new id base made shell))
mapped-new id base made surface shell is =
    mapped-some (IsMapped (xdg_of surface (with_new id base made shell))) (xdg_of surface shell) is
    (λ x found here. subst IsMapped (sym (found-first (λ x. x.surface == surface) shell (record { id = id; base = base; surface = made; role = None; configures = []; since = 0 }) x found)) here)

pub mapped-without : (id surface : ℕ) (shell : Shell) → AreApartBy (λ id x. x.id == id) shell → HasNoRole (xdg_at id shell) → IsMapped (xdg_of surface shell)
    → IsMapped (xdg_of surface (without_xdg id shell))
mapped-without id surface shell apart bare is =
    mapped-some (IsMapped (xdg_of surface (without_xdg id shell))) (xdg_of surface shell) is
    (λ x found here.
    subst IsMapped
    (sym (found-kept (λ x. x.surface == surface) (λ x. not (x.id == id)) shell x found
    (ap (λ b. not b) (ne_eqb x.id id (λ same. no-role x (bare-at id shell surface x apart bare found same) here))))) here)

-- ---- a toplevel goes, or comes

-- one of these toplevels is of this surface
abbrev pub stands_at : ℕ → List Standing → Bool
stands_at surface tops = list_any (λ s. s.surface == surface) tops

abbrev pub of_client : ℕ → List Standing → List Standing
of_client c tops = filter (λ s. s.client == c) tops

any-both : {X : Type 0} (p q r : X → Bool) → ((x : X) → q x ≡ true → p x ≡ true → r x ≡ true) → (xs : List X) → list_any p (filter q xs) ≡ true → list_any r xs ≡ true
any-both p q r both [] any = absurd (cc)
any-both p q r both (x ∷ xs) any = at (q x) (p x) refl refl any (any-both p q r both xs)
  where
    at : (a b : Bool) → q x ≡ a → p x ≡ b → list_any p (cond a (x ∷ filter q xs) (filter q xs)) ≡ true → (list_any p (filter q xs) ≡ true → list_any r xs ≡ true) → (r x || list_any r xs) ≡ true
    at true true e f any rest = or_left (r x) (list_any r xs) (both x e f)
    at true false e f any rest = or_right (r x) (list_any r xs) (rest (sym (ap (λ b. b || list_any p (filter q xs)) f) ∙ any))
    at false b e f any rest = or_right (r x) (list_any r xs) (rest any)

out-here : (c surface : ℕ) (ss : List Standing) → stands_at surface (of_client c (without_surface_of c surface ss)) ≡ true → ⊥
out-here c surface ss any =
    true≢false
    (sym (any-both (λ s. s.surface == surface) (λ s. s.client == c) (is_of c surface) (λ s is here. and_from (s.client == c) (s.surface == surface) is here) (without_surface_of c surface ss) any)
    ∙ without-here c surface ss)

out-another : (c surface other : ℕ) (ss : List Standing) → stands_at other (of_client c (without_surface_of c surface ss)) ≡ true → stands_at other (of_client c ss) ≡ true
out-another c surface other ss any =
    true_from_ne_false (stands_at other (of_client c ss))
    (λ none. true≢false
    (sym any ∙ ap (stands_at other) (filter-swap (λ s. s.client == c) (λ s. not (is_of c surface s)) ss) ∙ none-left (λ s. s.surface == other) (λ s. not (is_of c surface s)) (of_client c ss) none))

pub standing-out :
    (c surface : ℕ) (ss : List Standing) (shell new : Shell) → ((other : ℕ) → other ≢ surface → IsMapped (xdg_of other shell) → IsMapped (xdg_of other new)) → StandsSo shell (of_client c ss)
    → StandsSo new (of_client c (without_surface_of c surface ss))
standing-out c surface ss shell new keeps stands = record {
  apart = subst AreApart (sym (filter-swap (λ s. s.client == c) (λ s. not (is_of c surface s)) ss)) (apart-left (λ s. not (is_of c surface s)) (of_client c ss) stands.apart);
  mapped = λ other any.
      keeps other (λ same. out-here c surface ss (subst (λ n. stands_at n (of_client c (without_surface_of c surface ss)) ≡ true) same any)) (stands.mapped other (out-another c surface other ss any));
}

abbrev newest : ℕ → ℕ → ℕ → Standing
newest m c surface = record { client = c; surface = surface; place = mapping_place m }

on-top : (m c surface : ℕ) (ss : List Standing) → of_client c (with_mapped m c surface ss) ≡ with_mapped m c surface (of_client c ss)
on-top m c surface ss =
    filter-append (λ s. s.client == c) ss (newest m c surface ∷ []) ∙ ap (λ b. of_client c ss ++ cond b (newest m c surface ∷ []) []) (equal-numbers c c refl)

of-none : (c surface : ℕ) (tops : List Standing) → stands_at surface tops ≡ false → list_any (is_of c surface) tops ≡ false
of-none c surface tops none =
    false_from_ne_true (list_any (is_of c surface) tops)
    (λ any. true≢false (sym (any-more (is_of c surface) (λ s. s.surface == surface) (λ s is. and-right (s.client == c) (s.surface == surface) is) tops any) ∙ none))

pub standing-on :
    (m c surface : ℕ) (ss : List Standing) (shell new : Shell) → (IsMapped (xdg_of surface shell) → ⊥) → IsMapped (xdg_of surface new)
    → ((other : ℕ) → IsMapped (xdg_of other shell) → IsMapped (xdg_of other new)) → StandsSo shell (of_client c ss)
    → StandsSo new (of_client c (with_mapped m c surface ss))
standing-on m c surface ss shell new not_yet now keeps stands = subst (StandsSo new) (sym (on-top m c surface ss)) (record {
  apart =
      mapped-apart m c surface (of_client c ss) stands.apart
      (of-none c surface (of_client c ss) (false_from_ne_true (stands_at surface (of_client c ss)) (λ any. not_yet (stands.mapped surface any))));
  mapped = λ other any. at other (surface == other) refl (sym (any-last (λ s. s.surface == other) (of_client c ss) (newest m c surface)) ∙ any);
})
  where
    or-false : (b : Bool) → (b || false) ≡ b
    or-false true = refl
    or-false false = refl

    at : (other : ℕ) (b : Bool) → (surface == other) ≡ b → (stands_at other (of_client c ss) || (surface == other)) ≡ true → IsMapped (xdg_of other new)
    at other true e any = subst (λ n. IsMapped (xdg_of n new)) (eqb-true surface other e) now
    at other false e any = keeps other (stands.mapped other (sym (or-false (stands_at other (of_client c ss))) ∙ sym (ap (λ b. stands_at other (of_client c ss) || b) e) ∙ any))

-- ---- a commit

mapped-stage : (o : Option RoleObject) → IsMappedRole o → option_map (λ object. object.stage) o ≡ Some Mapped
mapped-stage None is = absurd is
mapped-stage (Some object) is = ap Some is.1

mapped-kind : (o : Option RoleObject) → IsMappedRole o → option_map_or (λ object. is_toplevel_kind object.kind) o false ≡ true
mapped-kind None is = absurd is
mapped-kind (Some object) is = ap is_toplevel_kind is.0

toplevel-kind : (k : Kind) → is_toplevel_kind k ≡ true → k ≡ Toplevel
toplevel-kind Toplevel e = refl
toplevel-kind (IsPopup popup) e = absurd (true≢false (sym e))

-- of one that is mapped a commit neither configures nor maps
no-configure : (dismissed shows : Bool) → cond dismissed Stays (on_commit (Some Mapped) shows) ≡ Configures → ⊥
no-configure true shows e = absurd (cc)
no-configure false true e = absurd (cc)
no-configure false false e = absurd (cc)

no-mapping : (dismissed shows : Bool) → cond dismissed Stays (on_commit (Some Mapped) shows) ≡ Maps → ⊥
no-mapping true shows e = absurd (cc)
no-mapping false true e = absurd (cc)
no-mapping false false e = absurd (cc)

effect-mapped : (shows : Bool) (x : XdgSurface) → IsMappedRole x.role → effect_for_xdg shows x ≡ cond (is_dismissed (popped_of x)) Stays (on_commit (Some Mapped) shows)
effect-mapped shows x is = ap (λ (st : Option Stage). cond (is_dismissed (popped_of x)) Stays (on_commit st shows)) (mapped-stage x.role is)

mapped-stays : (o : Option RoleObject) → IsMappedRole o → IsMappedRole (option_map (at_stage Mapped) o)
mapped-stays None is = is
mapped-stays (Some object) is = (is.0, refl)

pub arriving-surface : (o : Option Placed) (y : XdgSurface) → (arriving o y).surface ≡ y.surface
arriving-surface None y = refl
arriving-surface (Some placed) y = refl

arriving-role : (o : Option Placed) (y : XdgSurface) → IsMappedRole y.role → IsMappedRole (arriving o y).role
arriving-role None y is = is
arriving-role (Some placed) y is = popup-role (arrive placed) y.role is

popup-kind : (change : Popup → Popup) (o : Option RoleObject)
    → option_map_or (λ object. is_toplevel_kind object.kind) (option_map (with_popup_role change) o) false ≡ option_map_or (λ object. is_toplevel_kind object.kind) o false
popup-kind change None = refl
popup-kind change (Some object) = of object.kind
  where
    of : (kind : Kind) → is_toplevel_kind (with_popup change kind) ≡ is_toplevel_kind kind
    of Toplevel = refl
    of (IsPopup popup) = refl

arriving-kind : (o : Option Placed) (y : XdgSurface)
    → option_map_or (λ object. is_toplevel_kind object.kind) (arriving o y).role false ≡ option_map_or (λ object. is_toplevel_kind object.kind) y.role false
arriving-kind None y = refl
arriving-kind (Some placed) y = popup-kind (arrive placed) y.role

-- it is mapped where it was placed
abbrev mapping : XdgSurface → XdgSurface
mapping y = in_stage Mapped (arriving (waiting_in y.role) y)

mapping-surface : (y : XdgSurface) → (mapping y).surface ≡ y.surface
mapping-surface y = arriving-surface (waiting_in y.role) y

becomes-mapped : (o : Option RoleObject) → option_map_or (λ object. is_toplevel_kind object.kind) o false ≡ true → IsMappedRole (option_map (at_stage Mapped) o)
becomes-mapped None is = absurd (true≢false (sym is))
becomes-mapped (Some object) is = (toplevel-kind object.kind is, refl)

module _ (c surface : ℕ) (shell : Shell) (x : XdgSurface) (apart : AreApartBy (λ id x. x.id == id) shell) (found : xdg_of surface shell ≡ Some x) where
  -- the one that changes is that of the surface
  it-changes : (other : ℕ) (y : XdgSurface) → xdg_of other shell ≡ Some y → y.id ≡ x.id → y ≡ x
  it-changes other y here same =
      same-key (λ id x. x.id == id) (λ x. x.surface == other) (λ x. x.surface == surface) x.id shell y x apart here found (equal-numbers y.id x.id same) (equal-numbers x.id x.id refl)

  commit-waits :
      (shows : Bool) (change : XdgSurface → XdgSurface) (other : ℕ) → ((y : XdgSurface) → (change y).surface ≡ y.surface) → effect_for_xdg shows x ≡ Configures → IsMapped (xdg_of other shell)
      → IsMapped (xdg_of other (with_change x.id change shell))
  commit-waits shows change other keeps effect is =
      mapped-changed x.id change shell other keeps
      (λ y here same role. absurd (no-configure (is_dismissed (popped_of x)) shows (sym (effect-mapped shows x (subst (λ (z : XdgSurface). IsMappedRole z.role) (it-changes other y here same) role))
      ∙ effect))) is

  commit-unmaps : (change : XdgSurface → XdgSurface) (ss : List Standing) → ((y : XdgSurface) → (change y).surface ≡ y.surface) → StandsSo shell (of_client c ss)
      → StandsSo (with_change x.id change shell) (of_client c (without_surface_of c surface ss))
  commit-unmaps change ss keeps stands =
      standing-out c surface ss shell (with_change x.id change shell)
      (λ other differs is.
      mapped-changed x.id change shell other keeps
      (λ y here same role.
      absurd (differs (sym (eqb-true y.surface other (found-passes (λ x. x.surface == other) shell y here)) ∙ ap (λ (z : XdgSurface). z.surface) (it-changes other y here same)
      ∙ eqb-true x.surface surface (found-passes (λ x. x.surface == surface) shell x found)))) is) stands

  commit-unmaps-popup : (change : XdgSurface → XdgSurface) (other : ℕ) → ((y : XdgSurface) → (change y).surface ≡ y.surface) → is_toplevel (Some x) ≡ false → IsMapped (xdg_of other shell)
      → IsMapped (xdg_of other (with_change x.id change shell))
  commit-unmaps-popup change other keeps none is =
      mapped-changed x.id change shell other keeps
      (λ y here same role. absurd (true≢false (sym (mapped-kind x.role (subst (λ (z : XdgSurface). IsMappedRole z.role) (it-changes other y here same) role)) ∙ none))) is

  stays-mapped : (other : ℕ) → IsMapped (xdg_of other shell) → IsMapped (xdg_of other (with_change x.id mapping shell))
  stays-mapped other is =
      mapped-changed x.id mapping shell other mapping-surface
      (λ y here same role. mapped-stays (arriving (waiting_in y.role) y).role (arriving-role (waiting_in y.role) y role)) is

  now-mapped : is_toplevel (Some x) ≡ true → IsMapped (xdg_of surface (with_change x.id mapping shell))
  now-mapped is =
      subst IsMapped
      (sym (found-map (λ x. x.surface == surface) (λ y. cond (y.id == x.id) (mapping y) y) shell
      (λ y. ap (λ n. n == surface) (changed-surface x.id mapping mapping-surface y (y.id == x.id)))
      ∙ ap (option_map (λ (y : XdgSurface). cond (y.id == x.id) (mapping y) y)) found
      ∙ ap (λ b. Some (cond b (mapping x) x)) (equal-numbers x.id x.id refl)))
      (becomes-mapped (arriving (waiting_in x.role) x).role (arriving-kind (waiting_in x.role) x ∙ is))

  commit-maps : (m : ℕ) (shows : Bool) (ss : List Standing) → effect_for_xdg shows x ≡ Maps → is_toplevel (Some x) ≡ true → StandsSo shell (of_client c ss)
      → StandsSo (with_change x.id mapping shell) (of_client c (with_mapped m c surface ss))
  commit-maps m shows ss effect is stands =
      standing-on m c surface ss shell (with_change x.id mapping shell)
      (λ here. no-mapping (is_dismissed (popped_of x)) shows (sym (effect-mapped shows x (subst IsMapped found here)) ∙ effect)) (now-mapped is) stays-mapped stands

standing-arrived : (id : ℕ) (shell : Shell) (tops : List Standing) → StandsSo shell tops → StandsSo (with_change id (λ y. arriving (waiting_in y.role) y) shell) tops
standing-arrived id shell tops stands =
    standing-same shell _ tops
    (λ other here. mapped-changed id (λ y. arriving (waiting_in y.role) y) shell other (λ y. arriving-surface (waiting_in y.role) y)
    (λ y there same role. arriving-role (waiting_in y.role) y role) here) stands

standing-still : (id : ℕ) (shell : Shell) (tops : List Standing) → StandsSo shell tops → StandsSo (with_change id (λ y. y) shell) tops
standing-still id shell tops stands =
    standing-same shell (with_change id (λ y. y) shell) tops (λ other here. mapped-changed id (λ y. y) shell other (λ y. refl) (λ y there same role. role) here) stands

commit-effect :
    (c surface : ℕ) (where_to : Placing) (r : Resident) (d : Desktop) (x : XdgSurface) (shows : Bool) → AreApartBy (λ id x. x.id == id) r.owned.shell → xdg_of surface r.owned.shell ≡ Some x
    → StandsSo r.owned.shell (toplevels_of c d)
    → (e : Effect) → effect_for_xdg shows x ≡ e → StandsSo (effect_placing where_to surface e (Some x) (tree_committed surface r)).owned.shell
    (toplevels_of c (stacked_by e (is_toplevel (Some x)) c surface d))
commit-effect c surface where_to r d x shows apart found stands Stays is = standing-arrived x.id r.owned.shell (toplevels_of c d) stands
commit-effect c surface where_to r d x shows apart found stands Unconfigured is = standing-still x.id r.owned.shell (toplevels_of c d) stands
commit-effect c surface where_to r d x shows apart found stands Configures is =
    standing-same r.owned.shell _ (toplevels_of c d) (λ other here. commit-waits c surface r.owned.shell x apart found shows _ other (λ y. refl) is here) stands
commit-effect c surface where_to r d x shows apart found stands Maps is = at (is_toplevel (Some x)) refl
  where
    at : (b : Bool) → is_toplevel (Some x) ≡ b → StandsSo (with_change x.id mapping r.owned.shell) (toplevels_of c (stacked_by Maps b c surface d))
    at true e = commit-maps c surface r.owned.shell x apart found d.mappings shows d.standing is e stands
    at false e = standing-same r.owned.shell (with_change x.id mapping r.owned.shell) (toplevels_of c d) (stays-mapped c surface r.owned.shell x apart found) stands
commit-effect c surface where_to r d x shows apart found stands Unmaps is = at (is_toplevel (Some x)) refl
  where
    change : XdgSurface → XdgSurface
    change y = popup_changed unmapped (unmapping (asked_so_far surface (tree_committed surface r)) y)

    at : (b : Bool) → is_toplevel (Some x) ≡ b → StandsSo (with_change x.id change r.owned.shell) (toplevels_of c (stacked_by Unmaps b c surface d))
    at true e = commit-unmaps c surface r.owned.shell x apart found change d.standing (λ y. refl) stands
    at false e = standing-same r.owned.shell (with_change x.id change r.owned.shell) (toplevels_of c d) (λ other. commit-unmaps-popup c surface r.owned.shell x apart found change other (λ y. refl) e)
        stands

standing-committed :
    (c surface : ℕ) (r : Resident) (d : Desktop) → AreApartBy (λ id x. x.id == id) r.owned.shell → StandsSo r.owned.shell (toplevels_of c d)
    → StandsSo (commit_done c surface r d).owned.shell (toplevels_of c (stacked_by (effect_of_commit r surface) (is_toplevel (xdg_of surface r.owned.shell)) c surface d))
standing-committed c surface r d apart stands = at (xdg_of surface r.owned.shell) refl
  where
    at : (o : Option XdgSurface) → xdg_of surface r.owned.shell ≡ o
        → StandsSo (effect_placing (placement_now c r d) surface (effect_on_xdg (will_show r surface) o) o (tree_committed surface r)).owned.shell
        (toplevels_of c (stacked_by (effect_on_xdg (will_show r surface) o) (is_toplevel o) c surface d))
    at None found = stands
    at (Some x) found = commit-effect c surface (placement_now c r d) r d x (will_show r surface) apart found stands (effect_for_xdg (will_show r surface) x) refl

-- ---- a role object comes, or goes

standing-bare :
    (id : ℕ) (change : XdgSurface → XdgSurface) (shell : Shell) (tops : List Standing) → ((x : XdgSurface) → (change x).surface ≡ x.surface) → AreApartBy (λ id x. x.id == id) shell
    → HasNoRole (xdg_at id shell)
    → StandsSo shell tops → StandsSo (with_change id change shell) tops
standing-bare id change shell tops keeps apart bare stands = standing-same shell (with_change id change shell) tops (λ other is. mapped-bare id change shell other keeps apart bare is) stands

standing-toplevel-given :
    (id xdg : ℕ) (r : Resident) (tops : List Standing) → AreApartBy (λ id x. x.id == id) r.owned.shell → HasNoRole (xdg_at xdg r.owned.shell) → StandsSo r.owned.shell tops
    → StandsSo (toplevel_given id xdg (xdg_at xdg r.owned.shell) r).owned.shell tops
standing-toplevel-given id xdg r tops apart bare stands = at (xdg_at xdg r.owned.shell)
  where
    at : (o : Option XdgSurface) → StandsSo (toplevel_given id xdg o r).owned.shell tops
    at None = stands
    at (Some x) = standing-bare xdg (new_toplevel id (asked_so_far x.surface r)) r.owned.shell tops (λ y. refl) apart bare stands

standing-popup-given :
    (id xdg parent : ℕ) (p : Positioner) (r : Resident) (tops : List Standing) → AreApartBy (λ id x. x.id == id) r.owned.shell → HasNoRole (xdg_at xdg r.owned.shell) → StandsSo r.owned.shell tops
    → StandsSo (popup_given_to id xdg parent p (xdg_at xdg r.owned.shell) r).owned.shell tops
standing-popup-given id xdg parent p r tops apart bare stands = at (xdg_at xdg r.owned.shell)
  where
    at : (o : Option XdgSurface) → StandsSo (popup_given_to id xdg parent p o r).owned.shell tops
    at None = stands
    at (Some x) = standing-bare xdg (new_popup id parent p r.peer.requests (asked_so_far x.surface r)) r.owned.shell tops (λ y. refl) apart bare stands

-- an object is of one interface
one-interface : (o : Option Object) → is_object_of XdgPopup o ≡ true → is_object_of XdgToplevel o ≡ true → ⊥
one-interface None a b = true≢false (sym a)
one-interface (Some object) a b = let e = eqb-true (interface_number object.interface) 18 a in let f = eqb-true (interface_number object.interface) 17 b in omega (arith, e, f)

toplevel-role : (id : ℕ) (o : Option RoleObject) → is_role id o ≡ true → IsMappedRole o → is_toplevel_at id o ≡ true
toplevel-role id None is here = is
toplevel-role id (Some object) is here = and_from (object.id == id) (is_toplevel_kind object.kind) is (ap is_toplevel_kind here.0)

-- the role object with this id isn't mapped: it is a popup
popup-unmapped : (id xdg : ℕ) (r : Resident) → HasObjects r → is_object_of XdgPopup (r.peer.objects id) ≡ true → HasId xdg (xdg_with id r.owned.shell) → (surface : ℕ) (x : XdgSurface)
    → xdg_of surface r.owned.shell ≡ Some x → x.id ≡ xdg → IsMappedRole x.role → ⊥
popup-unmapped id xdg r has is named surface x found same here = at (xdg_with id r.owned.shell) refl named
  where
    at : (o : Option XdgSurface) → xdg_with id r.owned.shell ≡ o → HasId xdg o → ⊥
    at None e named = named
    at (Some y) e named =
        let one : y ≡ x = same-key (λ id x. x.id == id) (λ x. is_role id x.role) (λ x. x.surface == surface) xdg r.owned.shell y x has.shell.0 e found (equal-numbers y.id xdg named)
        (equal-numbers x.id xdg same) in
        let role : is_role id x.role ≡ true = subst (λ (z : XdgSurface). is_role id z.role ≡ true) one (found-passes (λ x. is_role id x.role) r.owned.shell y e) in
        one-interface (r.peer.objects id) is
        (has.toplevels.1 id (found-any (λ x. x.surface == surface) (λ x. is_toplevel_at id x.role) r.owned.shell x found (toplevel-role id x.role role here)))

standing-popup-ended :
    (id xdg : ℕ) (r : Resident) (tops : List Standing) → HasObjects r → is_object_of XdgPopup (r.peer.objects id) ≡ true → HasId xdg (xdg_with id r.owned.shell) → StandsSo r.owned.shell tops
    → StandsSo (with_change xdg without_role r.owned.shell) tops
standing-popup-ended id xdg r tops has is named stands =
    standing-same r.owned.shell (with_change xdg without_role r.owned.shell) tops
    (λ other here.
    mapped-changed xdg without_role r.owned.shell other (λ y. refl) (λ x found same role. absurd (popup-unmapped id xdg r has is named other x found same role)) here) stands

-- the surface of an xdg_surface stays where popups change
abbrev KeepsIds : (XdgSurface → XdgSurface) → Type 0
KeepsIds f = (x : XdgSurface) → ((f x).id ≡ x.id) × ((f x).surface ≡ x.surface)

dismissed-ids : (x : XdgSurface) (b : Bool) → (cond b (popup_changed dismiss x) x).id ≡ x.id
dismissed-ids x true = refl
dismissed-ids x false = refl

-- the surface of an xdg_surface that is there
abbrev surface_of : Option XdgSurface → ℕ
surface_of x = option_map_or (λ x. x.surface) x 0

surface-kept : (xdg : ℕ) (f : XdgSurface → XdgSurface) (shell : Shell) → KeepsIds f → surface_of (xdg_at xdg (map f shell)) ≡ surface_of (xdg_at xdg shell)
surface-kept xdg f shell keeps = ap surface_of (found-map (λ x. x.id == xdg) f shell (λ x. ap (λ n. n == xdg) (keeps x).0)) ∙ at (xdg_at xdg shell)
  where
    at : (o : Option XdgSurface) → surface_of (option_map f o) ≡ surface_of o
    at None = refl
    at (Some x) = (keeps x).1

ids-kept : (f : XdgSurface → XdgSurface) (shell : Shell) → KeepsIds f → AreApartBy (λ id x. x.id == id) shell → AreApartBy (λ id x. x.id == id) (map f shell)
ids-kept f shell keeps apart = apart-map (λ id x. x.id == id) f shell (λ key x. ap (λ n. n == key) (keeps x).0) apart

pub mapped-orphaned : (xdg surface : ℕ) (shell : Shell) → IsMapped (xdg_of surface shell) → IsMapped (xdg_of surface (orphaning xdg shell))
mapped-orphaned xdg surface shell is = mapped-if (popup_changed (orphan xdg)) shell surface (λ x. refl) (λ x found here. popup-role (orphan xdg) x.role here) is

-- the role object of an xdg_surface goes: those of other surfaces stay mapped
mapped-unrole : (xdg surface : ℕ) (shell : Shell) → AreApartBy (λ id x. x.id == id) shell → surface ≢ surface_of (xdg_at xdg shell) → IsMapped (xdg_of surface shell)
    → IsMapped (xdg_of surface (with_change xdg without_role shell))
mapped-unrole xdg surface shell apart other is =
    mapped-changed xdg without_role shell surface (λ y. refl)
    (λ x found same here.
    absurd (other (sym (eqb-true x.surface surface (found-passes (λ x. x.surface == surface) shell x found))
    ∙ sym (ap surface_of (found-by (λ id x. x.id == id) (λ x. x.surface == surface) xdg shell x apart found (equal-numbers x.id xdg same)))))) is

standing-toplevel-ended :
    (c xdg : ℕ) (is : Popped → Bool) (shell : Shell) (ss : List Standing) → AreApartBy (λ id x. x.id == id) shell → StandsSo shell (of_client c ss)
    → StandsSo (with_change xdg without_role (orphaning xdg (dismissing is shell))) (of_client c (without_surface_of c (surface_of (xdg_at xdg shell)) ss))
standing-toplevel-ended c xdg is shell ss apart stands =
    standing-out c (surface_of (xdg_at xdg shell)) ss shell (with_change xdg without_role (orphaning xdg (dismissing is shell)))
    (λ other differs here.
    mapped-unrole xdg other (orphaning xdg (dismissing is shell)) (ids-kept (popup_changed (orphan xdg)) (dismissing is shell) (λ x. (refl, refl)) (ids-kept dismissed shell keeps apart))
    (λ same. differs (same ∙ surface-kept xdg (popup_changed (orphan xdg)) (dismissing is shell) (λ x. (refl, refl)) ∙ surface-kept xdg dismissed shell keeps))
    (mapped-orphaned xdg other (dismissing is shell) (mapped-dismissed is shell other here))) stands
  where
    dismissed : XdgSurface → XdgSurface
    dismissed x = dismissed_among (dismissed_with is shell) x

    keeps : KeepsIds dismissed
    keeps x = (dismissed-ids x (is_among x.id (dismissed_with is shell)), dismissed-surface (dismissed_with is shell) x (is_among x.id (dismissed_with is shell)))

-- the surface that the toplevel's xdg_surface is of
top-of : (id xdg top : ℕ) (shell : Shell) → AreApartBy (λ id x. x.id == id) shell → HasId xdg (xdg_with id shell) → IsOn top (xdg_with id shell) → surface_of (xdg_at xdg shell) ≡ top
top-of id xdg top shell apart has on = at (xdg_with id shell) refl has on
  where
    at : (o : Option XdgSurface) → xdg_with id shell ≡ o → HasId xdg o → IsOn top o → surface_of (xdg_at xdg shell) ≡ top
    at None found has on = absurd has
    at (Some x) found has on = ap surface_of (found-by (λ id x. x.id == id) (λ x. is_role id x.role) xdg shell x apart found (equal-numbers x.id xdg has)) ∙ on

-- ---- all messages

standing-grabbed : (b : Bool) (xdg : ℕ) (r : Resident) (tops : List Standing) → StandsSo r.owned.shell tops → StandsSo (grabbed b xdg r).owned.shell tops
standing-grabbed true xdg r tops stands =
    standing-same r.owned.shell (with_change xdg (popup_changed with_grab) r.owned.shell) tops
    (λ other is. mapped-changed xdg (popup_changed with_grab) r.owned.shell other (λ y. refl) (λ y here same role. popup-role with_grab y.role role) is) stands
standing-grabbed false xdg r tops stands = standing-dismissed (λ p. p.xdg.id == xdg) r.owned.shell tops stands

acknowledged-role : (configures : List Configure) (o : Option RoleObject) → IsMappedRole o → IsMappedRole (option_map (role_acknowledged configures) o)
acknowledged-role configures None is = is
acknowledged-role configures (Some object) is = (ap (awaiting configures) is.0, ap acknowledged is.1)

repositioned-role : (b : Bool) (serial : ℕ) (placement : Option Placed) (p : Positioner) (y : XdgSurface) → IsMappedRole y.role → IsMappedRole (repositioning b serial placement p y).role
repositioned-role true serial placement p y is = popup-role (copying p) y.role is
repositioned-role false serial placement p y is = popup-role (copying p) y.role is

pub repositioned-surface : (b : Bool) (serial : ℕ) (placement : Option Placed) (p : Positioner) (y : XdgSurface) → (repositioning b serial placement p y).surface ≡ y.surface
repositioned-surface true serial placement p y = refl
repositioned-surface false serial placement p y = refl

standing-repositioned : (where_to : Placing) (p : Positioner) (o : Option Popped) (r : Resident) (tops : List Standing) → StandsSo r.owned.shell tops
    → StandsSo (popup_repositioned where_to p o r).owned.shell tops
standing-repositioned where_to p None r tops stands = stands
standing-repositioned where_to p (Some q) r tops stands =
    let b : Bool = is_configured q in
    let placement : Option Placed = where_to (copying p q.popup) in
    subst (λ (o : Owned). StandsSo o.shell tops) (sym (drawing-owned b (xdg_changed q.xdg.id (repositioning b r.peer.serial placement p) r)))
    (standing-same r.owned.shell _ tops
    (λ other is. mapped-changed q.xdg.id (repositioning b r.peer.serial placement p) r.owned.shell other (repositioned-surface b r.peer.serial placement p)
    (λ y here same role. repositioned-role b r.peer.serial placement p y role) is) stands)

standing-asked :
    (c : ℕ) (ask : Ask) (r : Resident) (d : Desktop) → IsAsked r ask → HasObjects r → StandsSo r.owned.shell (toplevels_of c d)
    → StandsSo (changed_by ask r).owned.shell (toplevels_of c d)
standing-asked c (GetXdgSurface id version base surface) r d is has stands =
    standing-same r.owned.shell (with_new id base surface r.owned.shell) (toplevels_of c d) (λ other here. mapped-new id base surface other r.owned.shell here) stands
standing-asked c (DestroyXdgSurface id) r d is has stands =
    standing-same r.owned.shell (without_xdg id r.owned.shell) (toplevels_of c d) (λ other here. mapped-without id other r.owned.shell has.shell.0 is.1 here) stands
standing-asked c (GetToplevel id version xdg) r d is has stands = standing-toplevel-given id xdg r (toplevels_of c d) has.shell.0 is.1 stands
standing-asked c (Acknowledge xdg serial) r d is has stands =
    standing-same r.owned.shell (with_change xdg (acknowledging serial) r.owned.shell) (toplevels_of c d)
    (λ other here. mapped-changed xdg (acknowledging serial) r.owned.shell other (λ y. refl) (λ y there same role. acknowledged-role (up_to serial y.configures) y.role role) here) stands
standing-asked c (ConfigureAgain xdg) r d is has stands =
    standing-same r.owned.shell (with_change xdg (configuring r.peer.serial) r.owned.shell) (toplevels_of c d)
    (λ other here. mapped-changed xdg (configuring r.peer.serial) r.owned.shell other (λ y. refl) (λ y there same role. role) here) stands
standing-asked c ask r d is has stands = stands

-- What stands of a client is mapped, and stands once.
pub standing-kept :
    (c : ℕ) (demand : Demand) (r : Resident) (windows : List Window) (d : Desktop) → IsAllowed r demand → HasObjects r → HasRoles r → StandsSo r.owned.shell (toplevels_of c d)
    → StandsSo (changed_for c demand r d).owned.shell (toplevels_of c (stacked_for c demand r windows d))
standing-kept c (Asks ask) r windows d is has roles stands = standing-asked c ask r d is has stands
standing-kept c (CommitTree surface) r windows d is has roles stands = standing-committed c surface r d has.shell.0 stands
standing-kept c (SetMode link true) r windows d is has roles stands = stands
standing-kept c (GetPointer id version) r windows d is has roles stands =
    subst (λ (o : Owned). StandsSo o.shell (toplevels_of c d)) (sym (drawing-owned (has_focus c d.pointer.focus) (record r { pointers = in_rising_order id r.pointers }))) stands
standing-kept c (GetPopup id version xdg parent p) r windows d is has roles stands = standing-popup-given id xdg parent p r (toplevels_of c d) has.shell.0 is.1 stands
standing-kept c (Reposition xdg token p) r windows d is has roles stands =
    standing-repositioned (placement_now c r d) p (popup_at xdg r.owned.shell) r (toplevels_of c d) stands
standing-kept c (Grab xdg serial) r windows d is has roles stands = standing-grabbed (grab_allowed c xdg serial r d) xdg r (toplevels_of c d) stands
standing-kept c (EndPopup id xdg) r windows d is has roles stands = standing-popup-ended id xdg r (toplevels_of c d) has is.0 is.1 stands
standing-kept c (EndToplevel id xdg top) r windows d is has roles stands =
    subst (λ surface. StandsSo (toplevel_ended id xdg r).owned.shell (of_client c (without_surface_of c surface d.standing))) (top-of id xdg top r.owned.shell has.shell.0 is.1 is.2)
    (standing-toplevel-ended c xdg (λ p. is_parent_of xdg p.popup) r.owned.shell d.standing has.shell.0 stands)
standing-kept c demand r windows d is has roles stands = stands

-- A surface stands as its role object says, and shows a buffer or none as that says, whatever becomes of the others.
use Rattle.std.proofs.Common.{◌≡◌, ◌≢◌, ℕ, List, [], ◌∷◌, ◌++◌, Bool, true, false, Option, Some, None, cond, map, refl, ap, sym, subst, ◌∙◌}
use Rattle.std.specs.Prelude.{◌==◌, ◌&&◌, is_some}
use Rattle.std.specs.List.{list_any}
use Rattle.std.specs.Option.{option_map, option_map_or}
use Rattle.std.proofs.lemmas.Bool.{eqb-false, eqb-true, true≢false}
use Rattle.wl_surface.specs.Surfaces.{history_in}
use Rattle.wl_shell.specs.Popups.{dismiss, dismissed_among, is_among, is_parent_of, is_toplevel_kind, orphan, popup_changed, with_popup, with_popup_role}
use Rattle.wl_shell.specs.Popups.{arrive, arriving, copying, repositioning}
use Rattle.wl_shell.specs.Shell.{IsPopup, Kind, Popup, RoleObject, Shell, Toplevel, XdgSurface, acknowledged, acknowledging, at_stage, role_acknowledged, with_change as with_xdg_change, xdg_of}
use Rattle.wl_shell.specs.Shell.{Configure, awaiting, up_to}
use Rattle.wl_shell.specs.declared.stage.Stage.{Stage}
use Rattle.wl_shell.specs.declared.stage.Stage.TheVariants as stage
use Rattle.wl_shell.specs.Positioner.{Placed, Positioner}
use Rattle.spec_desktop.specs.Stacking.{Owned, Standing, is_of, shows_buffer}
use Rattle.law_desktop.proofs.Lists.Keys.{found-map}
use Rattle.law_desktop.specs.Shown.{AreShown, heeded_stage, is_dismissed_kind, is_mapped_now, is_mapped_toplevel, waits_now}
use Rattle.law_desktop.specs.Standing.{AreTurned, is_mapped_at, waits_at}
use Rattle.law_desktop.proofs.KeptRecords.Keeping.OwningXdg.{has_surface}
use Rattle.law_desktop.proofs.KeptRecords.Keeping.StandingClients.{one_stepped}

-- ---- one surface

-- whether the surface of this xdg_surface is a mapped toplevel's, whether it is mapped, and whether it waits to be
abbrev pub known : Option XdgSurface → Bool × Bool × Bool
known x = (is_mapped_toplevel x, is_mapped_now x, waits_now x)

-- the same of a role object, by its stage where it is no dismissed popup
abbrev pub table : Bool → Option Stage → Bool × Bool × Bool
table top s = (top && is_mapped_at s, is_mapped_at s, waits_at s)

abbrev pub is_top : Option RoleObject → Bool
is_top o = option_map_or (λ object. is_toplevel_kind object.kind) o false

abbrev pub role_known : Option RoleObject → Bool × Bool × Bool
role_known o = table (is_top o) (heeded_stage o)

-- A mapped toplevel's surface stands, and no other does; a mapped one shows a buffer, and one that waits to be mapped shows none.
abbrev pub Fits : Bool → Bool × Bool × Bool → Bool → Type 0
Fits stands k shows = (stands ≡ k.0) × (k.1 ≡ true → shows ≡ true) × (k.2 ≡ true → shows ≡ false)

pub fits-so : (stands shows : Bool) (k l : Bool × Bool × Bool) → k ≡ l → Fits stands l shows → Fits stands k shows
fits-so stands shows k l same is = subst (λ (m : Bool × Bool × Bool). Fits stands m shows) (sym same) is

-- the same stands, and no more is mapped or waits
abbrev pub IsLess : Bool × Bool × Bool → Bool × Bool × Bool → Type 0
IsLess k l = (k.0 ≡ l.0) × (k.1 ≡ true → l.1 ≡ true) × (k.2 ≡ true → l.2 ≡ true)

pub less-same : (k l : Bool × Bool × Bool) → k ≡ l → IsLess k l
less-same k l same = subst (λ (m : Bool × Bool × Bool). IsLess k m) same (refl, λ e. e, λ e. e)

-- ---- the surfaces of a client

abbrev pub FitsAt : ℕ → ℕ → Owned → List Standing → Type 0
FitsAt c surface o standing = Fits (list_any (is_of c surface) standing) (known (xdg_of surface o.shell)) (shows_buffer (history_in surface o.surfaces))

abbrev pub AllFit : ℕ → Owned → List Standing → Type 0
AllFit c o standing = (surface : ℕ) → FitsAt c surface o standing

pub fit-of : (c : ℕ) (o : Owned) (standing : List Standing) → AreShown c o standing → AllFit c o standing
fit-of c o standing is surface = (is.stands surface, is.shows surface, is.bare surface)

pub shown-of : (c : ℕ) (o : Owned) (standing : List Standing) → AllFit c o standing → AreTurned o.surfaces → AreShown c o standing
shown-of c o standing fit turned = record { stands = λ surface. (fit surface).0; shows = λ surface. (fit surface).1; bare = λ surface. (fit surface).2; turned = turned }

-- Nothing changed of this surface that counts here, but that it may be dismissed: if it has no xdg_surface, it may show what it will.
pub record IsStill (c surface : ℕ) (o p : Owned) (old new : List Standing) : Type 0 where
  pub stands : list_any (is_of c surface) new ≡ list_any (is_of c surface) old
  pub known : IsLess (known (xdg_of surface p.shell)) (known (xdg_of surface o.shell))
  pub shows : is_some (xdg_of surface o.shell) ≡ true → shows_buffer (history_in surface p.surfaces) ≡ shows_buffer (history_in surface o.surfaces)

mapped-there : (x : Option XdgSurface) → is_mapped_now x ≡ true → is_some x ≡ true
mapped-there None is = absurd (true≢false (sym is))
mapped-there (Some x) is = refl

waits-there : (x : Option XdgSurface) → waits_now x ≡ true → is_some x ≡ true
waits-there None is = absurd (true≢false (sym is))
waits-there (Some x) is = refl

still-fits : (c surface : ℕ) (o p : Owned) (old new : List Standing) → IsStill c surface o p old new → FitsAt c surface o old → FitsAt c surface p new
still-fits c surface o p old new still is = (
  still.stands ∙ is.0 ∙ sym still.known.0,
  λ now. let was = still.known.1 now in still.shows (mapped-there (xdg_of surface o.shell) was) ∙ is.1 was,
  λ now. let was = still.known.2 now in still.shows (waits-there (xdg_of surface o.shell) was) ∙ is.2 was,
)

pub all-still : (c : ℕ) (o p : Owned) (old new : List Standing) → AllFit c o old → ((surface : ℕ) → IsStill c surface o p old new) → AllFit c p new
all-still c o p old new is still surface = still-fits c surface o p old new (still surface) (is surface)

-- all but one surface stay so
pub all-but : (c id : ℕ) (o p : Owned) (old new : List Standing) → AllFit c o old → FitsAt c id p new → ((surface : ℕ) → id ≢ surface → IsStill c surface o p old new) → AllFit c p new
all-but c id o p old new is here still surface = at (id == surface) refl
  where
    at : (b : Bool) → (id == surface) ≡ b → FitsAt c surface p new
    at true e = subst (λ n. FitsAt c n p new) (eqb-true id surface e) here
    at false e = still-fits c surface o p old new (still surface (eqb-false id surface e)) (is surface)

-- ---- xdg_surfaces

-- a change by which no more is mapped or waits
abbrev pub Lessens : (XdgSurface → XdgSurface) → Type 0
Lessens f = (y : XdgSurface) → IsLess (known (Some (f y))) (known (Some y))

abbrev pub KeepsSurfaces : (XdgSurface → XdgSurface) → Type 0
KeepsSurfaces f = (y : XdgSurface) → (f y).surface ≡ y.surface

pub less-mapped : (surface : ℕ) (f : XdgSurface → XdgSurface) (shell : Shell) → KeepsSurfaces f → Lessens f → IsLess (known (xdg_of surface (map f shell))) (known (xdg_of surface shell))
less-mapped surface f shell keeps less =
    subst (λ (o : Option XdgSurface). IsLess (known o) (known (xdg_of surface shell))) (sym (found-map (has_surface surface) f shell (λ x. ap (λ n. n == surface) (keeps x))))
    (at (xdg_of surface shell))
  where
    at : (o : Option XdgSurface) → IsLess (known (option_map f o)) (known o)
    at None = (refl, λ e. e, λ e. e)
    at (Some x) = less x

less-if : (b : Bool) (f : XdgSurface → XdgSurface) → Lessens f → (y : XdgSurface) → IsLess (known (Some (cond b (f y) y))) (known (Some y))
less-if true f less y = less y
less-if false f less y = (refl, λ e. e, λ e. e)

surface-if : (b : Bool) (f : XdgSurface → XdgSurface) → KeepsSurfaces f → (y : XdgSurface) → (cond b (f y) y).surface ≡ y.surface
surface-if true f keeps y = keeps y
surface-if false f keeps y = refl

pub less-changed : (id surface : ℕ) (f : XdgSurface → XdgSurface) (shell : Shell) → KeepsSurfaces f → Lessens f
    → IsLess (known (xdg_of surface (with_xdg_change id f shell))) (known (xdg_of surface shell))
less-changed id surface f shell keeps less =
    less-mapped surface (one_stepped id f) shell (λ y. surface-if (y.id == id) f keeps y) (λ y. less-if (y.id == id) f less y)

-- one comes, without a role object
pub new-as : (x : XdgSurface) (surface : ℕ) (shell : Shell) → x.role ≡ None → known (xdg_of surface (shell ++ x ∷ [])) ≡ known (xdg_of surface shell)
new-as x surface [] bare = at (x.surface == surface)
  where
    at : (b : Bool) → known (cond b (Some x) None) ≡ (false, false, false)
    at true = ap role_known bare
    at false = refl
new-as x surface (y ∷ ys) bare = at (y.surface == surface) (new-as x surface ys bare)
  where
    at : (b : Bool) → known (xdg_of surface (ys ++ x ∷ [])) ≡ known (xdg_of surface ys)
        → known (cond b (Some y) (xdg_of surface (ys ++ x ∷ []))) ≡ known (cond b (Some y) (xdg_of surface ys))
    at true rest = refl
    at false rest = rest

-- ---- role objects

abbrev kind_known : Stage → Kind → Bool × Bool × Bool
kind_known s k = table (is_toplevel_kind k) (cond (is_dismissed_kind k) None (Some s))

-- a popup's change is nothing to it, unless it is dismissed
pub popup-known : (change : Popup → Popup) → ((p : Popup) → (change p).is_dismissed ≡ p.is_dismissed) → (o : Option RoleObject)
    → role_known (option_map (with_popup_role change) o) ≡ role_known o
popup-known change keeps None = refl
popup-known change keeps (Some object) = at object.kind
  where
    at : (k : Kind) → kind_known object.stage (with_popup change k) ≡ kind_known object.stage k
    at Toplevel = refl
    at (IsPopup popup) = ap (λ (b : Bool). table false (cond b None (Some object.stage))) (keeps popup)

-- one that is dismissed is neither mapped nor waits
pub dismissed-less : (o : Option RoleObject) → IsLess (role_known (option_map (with_popup_role dismiss) o)) (role_known o)
dismissed-less None = (refl, λ e. e, λ e. e)
dismissed-less (Some object) = at object.kind
  where
    at : (k : Kind) → IsLess (kind_known object.stage (with_popup dismiss k)) (kind_known object.stage k)
    at Toplevel = (refl, λ e. e, λ e. e)
    at (IsPopup popup) = (refl, λ e. absurd (true≢false (sym e)), λ e. absurd (true≢false (sym e)))

pub dismissing-less : (ids : List ℕ) → Lessens (dismissed_among ids)
dismissing-less ids y = less-if (is_among y.id ids) (popup_changed dismiss) (λ z. dismissed-less z.role) y

pub dismissing-surface : (ids : List ℕ) → KeepsSurfaces (dismissed_among ids)
dismissing-surface ids y = surface-if (is_among y.id ids) (popup_changed dismiss) (λ z. refl) y

pub dismissing-id : (ids : List ℕ) (y : XdgSurface) → (dismissed_among ids y).id ≡ y.id
dismissing-id ids y = at (is_among y.id ids)
  where
    at : (b : Bool) → (cond b (popup_changed dismiss y) y).id ≡ y.id
    at true = refl
    at false = refl

orphan-dismissed : (xdg : ℕ) (p : Popup) → (orphan xdg p).is_dismissed ≡ p.is_dismissed
orphan-dismissed xdg p = at (is_parent_of xdg p)
  where
    at : (b : Bool) → (cond b (record p { parent = None }) p).is_dismissed ≡ p.is_dismissed
    at true = refl
    at false = refl

pub orphaned-less : (xdg : ℕ) → Lessens (popup_changed (orphan xdg))
orphaned-less xdg y = less-same _ _ (popup-known (orphan xdg) (orphan-dismissed xdg) y.role)

pub acknowledging-less : (serial : ℕ) → Lessens (acknowledging serial)
acknowledging-less serial y = less-same _ _ (at (up_to serial y.configures) y.role)
  where
    by : (b : Bool) (s : Stage) → table b (Some (acknowledged s)) ≡ table b (Some s)
    by b stage.Fresh = refl
    by b s = refl

    heeded : (top b : Bool) (s : Stage) → table top (cond b None (Some (acknowledged s))) ≡ table top (cond b None (Some s))
    heeded top true s = refl
    heeded top false s = by top s

    at : (configures : List Configure) (o : Option RoleObject) → role_known (option_map (role_acknowledged configures) o) ≡ role_known o
    at configures None = refl
    at configures (Some object) = by-kind object.kind
      where
        by-kind : (k : Kind) → kind_known (acknowledged object.stage) (awaiting configures k) ≡ kind_known object.stage k
        by-kind Toplevel = heeded true false object.stage
        by-kind (IsPopup popup) = heeded false popup.is_dismissed object.stage

-- a placement that waits is nothing to it
pub arriving-known : (o : Option Placed) (x : XdgSurface) → role_known (arriving o x).role ≡ role_known x.role
arriving-known None x = refl
arriving-known (Some placed) x = popup-known (arrive placed) (λ p. refl) x.role

pub repositioning-less : (b : Bool) (serial : ℕ) (placement : Option Placed) (positioner : Positioner) → Lessens (repositioning b serial placement positioner)
repositioning-less true serial placement positioner y = less-same _ _ (popup-known (copying positioner) (λ p. refl) y.role)
repositioning-less false serial placement positioner y = less-same _ _ (popup-known (copying positioner) (λ p. refl) y.role)

-- a popup's change and that of the stage go in either order
pub popup-staged : (change : Popup → Popup) (t : Stage) (o : Option RoleObject)
    → option_map (at_stage t) (option_map (with_popup_role change) o) ≡ option_map (with_popup_role change) (option_map (at_stage t) o)
popup-staged change t None = refl
popup-staged change t (Some object) = refl

-- a role object that is in a stage that is heeded is in another one then
pub staged : (s t : Stage) (o : Option RoleObject) → heeded_stage o ≡ Some s → role_known (option_map (at_stage t) o) ≡ table (is_top o) (Some t)
staged s t None e = absurd (none-is s e)
  where
    none-is : (s : Stage) → None ≡ Some s → ⊥
    none-is s e = absurd (cc)
staged s t (Some object) e = at (is_dismissed_kind object.kind) e
  where
    at : (b : Bool) → cond b None (Some object.stage) ≡ Some s → table (is_toplevel_kind object.kind) (cond b None (Some t)) ≡ table (is_toplevel_kind object.kind) (Some t)
    at true e = absurd (cc)
    at false e = refl

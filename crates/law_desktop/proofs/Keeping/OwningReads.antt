-- What is read of what is kept of a client is what the plain desktop asks.
use Rattle.std.proofs.Common.{◌≡◌, ◌≢◌, ℕ, List, Bool, true, false, Option, Some, None, Result, refl, ap, sym, subst, ◌∙◌}
use Rattle.std.proofs.lemmas.Option.{none-some, same_Some}
use Rattle.std.specs.Prelude.{ℤ, ◌==◌, ◌&&◌, ◌||◌, int_lt, pos, IfSome, IsSomeAnd, Ok, Err, is_some, if◌then◌else◌}
use Rattle.std.specs.List.{list_any}
use Rattle.std.specs.Option.{option_and_then, option_map, option_map_or}
use Rattle.wl_geom.specs.declared.rect.Rect.{Rect}
use Rattle.spec_desktop.specs.declared.refusals.ErrorCode.TheVariants as error
use Rattle.spec_desktop.specs.declared.refusals.Refusal.{Refusal}
use Rattle.wl_surface.specs.declared.content.Attached.{Attached}
use Rattle.wl_surface.specs.declared.role.Role.{Role}
use Rattle.wl_surface.specs.declared.role.Role.TheVariants.{Toplevel as AsToplevel}
use Rattle.wl_surface.specs.Kept.{buffer_of}
use Rattle.wl_links.specs.Family.{Tied}
use Rattle.wl_surface.specs.Slots.{Numbered, Slots, StandForAll, content_at, is_whole_at, pending_at, role_at}
use Rattle.wl_surface.specs.Request.{Buffer, SetWindowGeometry}
use Rattle.wl_surface.specs.State.{History, pending}
use Rattle.wl_surface.specs.Surface.{Surface, has_content, is_there}
use Rattle.wl_surface.specs.Surfaces.{history_in, surface_at}
use Rattle.wl_shell.specs.declared.error.ShellError.{ShellError}
use Rattle.wl_shell.specs.declared.error.ShellError.TheVariants as failed
use Rattle.wl_shell.specs.declared.stage.Stage.{Stage}
use Rattle.wl_shell.specs.Kept.{Kept, acknowledgement_answer, commit_answer, configure_answer, destruction_answer, effect_answer, geometry_answer, making_refused, placement_in, stage_configured}
use Rattle.wl_shell.specs.Kept.{toplevel_answer}
use Rattle.wl_shell.specs.Popups.{effect_in, kind_popup, popped_kind, popped_role, waiting_in}
use Rattle.wl_shell.specs.Positioner.{Placed}
use Rattle.wl_shell.specs.Shell.{Configure, Effect, Stays, Configures, Kind, Toplevel, IsPopup, RoleObject, XdgSurface, answers_states, is_full, is_waiting, on_commit, stage_of, xdg_of}
use Rattle.wl_shell.proofs.Shells.{shells_stand}
use Rattle.spec_desktop.specs.Ask.{AskSurface, EndObject, GetXdgSurface, DestroyXdgSurface, GetToplevel, Acknowledge, ConfigureAgain, Ignore}
use Rattle.spec_desktop.specs.Desktop.{Resident}
use Rattle.law_desktop.specs.Owning.{IsOwned, IsXdg, Names, asks_by, asks_unless, by_id, by_number, configuring_if, kept_id, shell_refusal}
use Rattle.spec_desktop.specs.WlSurface.{is_whole_state, refuse, refuse_limit, will_be_whole, will_show}
use Rattle.spec_desktop.specs.XdgShell.{acknowledged_by, base_destroyed, configured_again, geometry_set, has_any, is_foreign, is_no_toplevel, role_of, toplevel_made, xdg_surface_destroyed}
use Rattle.spec_desktop.specs.XdgShell.{xdg_surface_made}
use Rattle.law_desktop.proofs.Keeping.OwningSurfaces.{surface-read}
use Rattle.law_desktop.proofs.Keeping.OwningXdg.{xdg-of, xdg-of-none, xdg-there}
use Rattle.spec_desktop.specs.Demand.{EndSurface, CommitTree}
use Rattle.spec_desktop.specs.Demanding.{commit_demand, committed_by, effect_of_commit, effect_on_xdg, if_whole, is_dismissed, surface_destroyed}
use Rattle.spec_desktop.specs.WlSubsurface.{refuses}

there-mapped : {X : Type 0} (f : X → Buffer) (o : Option X) → is_there (option_map f o) ≡ is_some o
there-mapped f None = refl
there-mapped f (Some x) = refl

-- as many configures are kept as wait
full-kept : (k : Kept) (x : XdgSurface) → k.configures ≡ x.configures → is_full k.configures ≡ is_full x.configures
full-kept k x same = ap (λ (configures : List Configure). is_full configures) same

-- what a commit comes to goes by the role object
pub effect-by-role : (shows : Bool) (x : XdgSurface) → effect_on_xdg shows (Some x) ≡ effect_in shows x.role
effect-by-role shows x = at x.role
  where
    by-kind : (object : RoleObject) (kind : Kind) → (if is_dismissed (popped_kind x object kind) then Stays else on_commit (Some object.stage) shows)
        ≡ (if option_map_or (λ popup. popup.is_dismissed) (kind_popup kind) false then Stays else on_commit (Some object.stage) shows)
    by-kind object Toplevel = refl
    by-kind object (IsPopup popup) = refl

    at : (o : Option RoleObject) → (if is_dismissed (popped_role x o) then Stays else on_commit (option_map (λ object. object.stage) o) shows) ≡ effect_in shows o
    at None = refl
    at (Some object) = by-kind object object.kind

module _ (names : Names) (slots : Slots) (tied : Tied) (kept : ℕ → Option Kept) (r : Resident) (is : IsOwned names slots tied kept r.owned) where
  -- ---- a surface

  -- what is told of what is kept under its number is told of the surface
  pub read : (P : Option Surface → Type 0) (id number : ℕ) → names.surfaces id ≡ Some number → ((all : Numbered) → StandForAll slots all → P (all number)) → P (surface_at id r.owned.surfaces)
  read P id number named told =
      subst P (surface-read names.surfaces slots tied r.owned.surfaces is.surfaces id number named) (told (by_number names.surfaces r.owned.surfaces) is.surfaces.stand)

  pub role-read : (id number : ℕ) (result : Option Role) → names.surfaces id ≡ Some number → ((all : Numbered) → StandForAll slots all → result ≡ role_at (all number)) → result ≡ role_of r id
  role-read id number result named told = read (λ at. result ≡ role_at at) id number named told ∙ at (surface_at id r.owned.surfaces)
    where
      at : (o : Option Surface) → role_at o ≡ option_and_then (λ (s : Surface). s.role) o
      at None = refl
      at (Some s) = refl

  pub content-read : (id number : ℕ) (result : Bool) → names.surfaces id ≡ Some number → ((all : Numbered) → StandForAll slots all → result ≡ content_at (all number)) → result ≡ has_any r id
  content-read id number result named told = read (λ at. result ≡ content_at at) id number named told ∙ at (surface_at id r.owned.surfaces)
    where
      at : (o : Option Surface) → content_at o ≡ option_map_or has_content (option_map (λ (s : Surface). s.history) o) false
      at None = refl
      at (Some s) = refl

  pub pending-read : (id number : ℕ) (result : Option Attached) → names.surfaces id ≡ Some number → ((all : Numbered) → StandForAll slots all → option_map buffer_of result ≡ pending_at (all number))
      → is_some result ≡ will_show r id
  pending-read id number result named told = sym (there-mapped buffer_of result) ∙ ap is_there (read (λ at. option_map buffer_of result ≡ pending_at at) id number named told)
      ∙ at (surface_at id r.owned.surfaces)
    where
      at : (o : Option Surface) → is_there (pending_at o) ≡ is_there (option_and_then (λ h. (pending h).buffer) (option_map (λ (s : Surface). s.history) o))
      at None = refl
      at (Some s) = refl

  -- whether the state that a commit would give is whole
  pub whole-read : (id number : ℕ) (result : Bool) → names.surfaces id ≡ Some number → ((all : Numbered) → StandForAll slots all → result ≡ is_whole_at (all number)) → result ≡ will_be_whole r id
  whole-read id number result named told = read (λ at. result ≡ is_whole_at at) id number named told ∙ at (surface_at id r.owned.surfaces)
    where
      at : (o : Option Surface) → is_whole_at o ≡ is_whole_state (option_map pending (option_map (λ (s : Surface). s.history) o))
      at None = refl
      at (Some s) = refl

  pub destroyed-by : (id number : ℕ) → names.surfaces id ≡ Some number → surface_destroyed r id ≡ (if is_some (kept number) then refuses id error.SurfaceHasRoleObject else Ok (EndSurface id))
  destroyed-by id number named = ap (λ b. if b then refuses id error.SurfaceHasRoleObject else Ok (EndSurface id)) (sym (xdg-there names slots tied kept r.owned is id number named))

  -- ---- a commit

  -- what it demands, or the first error of the shell, is what the shell answers; then the size of its buffer is looked at
  pub committed-by : (bounds : Rect) (parent_at : ℤ × ℤ) (id number base object : ℕ) → names.surfaces id ≡ Some number
      → commit_demand r id
      ≡ if_whole (will_be_whole r id) id (asks_by (λ act. CommitTree id) (shell_refusal base (kept_id (kept number)) object)
      (commit_answer (will_show r id) bounds parent_at (kept number)))
  committed-by bounds parent_at id number base object named = ap (if_whole (will_be_whole r id) id) (at (kept number) refl)
    where
      by-effect : (x : XdgSurface) (placed waiting : Option Placed) (effect : Effect) (full : Bool) → is_full x.configures ≡ full
          → committed_by (Some x) id effect ≡ asks_by (λ act. CommitTree id) (shell_refusal base x.id object) (effect_answer placed waiting effect x.configures)
      by-effect x placed waiting Configures true e = rw e refl
      by-effect x placed waiting Configures false e = rw e refl
      by-effect x placed waiting effect full e = refl

      at : (o : Option Kept) → kept number ≡ o
          → committed_by (xdg_of id r.owned.shell) id (effect_of_commit r id) ≡ asks_by (λ act. CommitTree id) (shell_refusal base (kept_id o) object) (commit_answer (will_show r id) bounds parent_at o)
      at None here = ap (λ (o : Option XdgSurface). committed_by o id (effect_on_xdg (will_show r id) o)) (xdg-of-none names slots tied kept r.owned is id number named here)
      at (Some k) here =
          let xdg = xdg-of names slots tied kept r.owned is id number k named here in
          let x = xdg.0 in
          let stands = xdg.2.stands in
          let placed = placement_in bounds parent_at k.role in
          let waiting = waiting_in k.role in
          let effect = effect_in (will_show r id) k.role in
          ap (λ (o : Option XdgSurface). committed_by o id (effect_on_xdg (will_show r id) o)) xdg.3
          ∙ ap (λ effect. committed_by (Some x) id effect) (effect-by-role (will_show r id) x ∙ ap (effect_in (will_show r id)) (sym stands.role))
          ∙ by-effect x placed waiting effect (is_full x.configures) refl
          ∙ ap (λ (i : ℕ). asks_by (λ act. CommitTree id) (shell_refusal base i object) (effect_answer placed waiting effect x.configures)) (sym stands.id)
          ∙ ap (λ (cs : List Configure). asks_by (λ act. CommitTree id) (shell_refusal base k.id object) (effect_answer placed waiting effect cs)) (sym stands.configures)

  -- ---- xdg_wm_base

  pub made-by : (base version id surface number xdg object : ℕ) → names.surfaces surface ≡ Some number
      → xdg_surface_made r base version id surface ≡ asks_unless (GetXdgSurface id version base surface) (shell_refusal base xdg object)
      (making_refused (is_foreign (role_of r surface)) (has_any r surface) (kept number))
  made-by base version id surface number xdg object named =
      ap (λ b. if is_foreign (role_of r surface) || b then refuse base error.Role else (if has_any r surface then refuse base error.InvalidSurfaceState else Ok
      (GetXdgSurface id version base surface))) (sym (xdg-there names slots tied kept r.owned is surface number named))
      ∙ at (is_foreign (role_of r surface) || is_some (kept number)) (has_any r surface)
    where
      at : (b c : Bool) → (if b then refuse base error.Role else (if c then refuse base error.InvalidSurfaceState else Ok (GetXdgSurface id version base surface)))
          ≡ asks_unless (GetXdgSurface id version base surface) (shell_refusal base xdg object) (if b then Some failed.Role else (if c then Some failed.InvalidSurfaceState else None))
      at true c = refl
      at false true = refl
      at false false = refl

  -- it made an xdg_surface, or none
  pub base-used : (base surface : ℕ) → IsSomeAnd (kept surface) (λ k. k.base ≡ base) → base_destroyed r base ≡ refuse base error.DefunctSurfaces
  base-used base surface made = ap (λ b. if b then refuse base error.DefunctSurfaces else Ok (EndObject base))
      (by_base.0 named.0 (subst (λ (o : Option Kept). IsSomeAnd o (λ k. k.base ≡ base)) (sym (ap (option_and_then kept) named.1)) made))
    where
      some-made : (o : Option Kept) → IsSomeAnd o (λ k. k.base ≡ base) → is_some o ≡ true
      some-made None made = absurd made
      some-made (Some k) made = refl

      named : (id : ℕ) × (names.surfaces id ≡ Some surface)
      named = is.known surface (some-made (kept surface) made)

      by_base : ((id : ℕ) → IsSomeAnd (by_id names.surfaces kept id) (λ k. k.base ≡ base) → list_any (λ x. x.base == base) r.owned.shell ≡ true)
          × (((id : ℕ) → IfSome (by_id names.surfaces kept id) (λ k. k.base ≢ base)) → list_any (λ x. x.base == base) r.owned.shell ≡ false)
      by_base = shells_stand.base base (by_id names.surfaces kept) (λ id. history_in id r.owned.surfaces) r.owned.shell is.shell

  pub base-unused : (base : ℕ) → ((surface : ℕ) → IfSome (kept surface) (λ k. k.base ≢ base)) → base_destroyed r base ≡ Ok (EndObject base)
  base-unused base none =
      ap (λ b. if b then refuse base error.DefunctSurfaces else Ok (EndObject base))
      ((shells_stand.base base (by_id names.surfaces kept) (λ id. history_in id r.owned.surfaces) r.owned.shell is.shell).1 (λ id. at (names.surfaces id)))
    where
      at : (o : Option ℕ) → IfSome (option_and_then kept o) (λ k. k.base ≢ base)
      at None = tt
      at (Some number) = none number

-- ---- an xdg_surface that is kept

module _ (names : Names) (kept : ℕ → Option Kept) (r : Resident) (number : ℕ) (k : Kept) (x : XdgSurface) (h : History) (one : IsXdg names kept r.owned number k x h) (object : ℕ) where
  abbrev refusal : ShellError → Refusal
  refusal e = shell_refusal x.base x.id object e

  pub xdg-destroyed-by : xdg_surface_destroyed x ≡ asks_by {X = Unit {0}} (λ u. DestroyXdgSurface x.id) refusal (destruction_answer (kept number))
  xdg-destroyed-by = rw (one.here, one.stands.role) (at (is_some x.role))
    where
      at : (b : Bool) → (if b then refuse x.id error.DefunctRoleObject else Ok (DestroyXdgSurface x.id)) ≡ asks_by {X = Unit {0}} (λ u. DestroyXdgSurface x.id) refusal
          (if b then Err failed.DefunctRoleObject else Ok tt)
      at true = refl
      at false = refl

  pub toplevel-made-by : (version id : ℕ) → toplevel_made r x version id ≡ asks_by {X = Unit {0}} (λ u. GetToplevel id version x.id) refusal
      (toplevel_answer (is_no_toplevel (role_of r x.surface)) (kept number))
  toplevel-made-by version id = rw (one.here, one.stands.role) (at (is_some x.role) (is_no_toplevel (role_of r x.surface)))
    where
      at : (b c : Bool) → (if b then refuse x.id error.AlreadyConstructed else (if c then refuse x.base error.Role else Ok (GetToplevel id version x.id)))
          ≡ asks_by {X = Unit {0}} (λ u. GetToplevel id version x.id) refusal (if b then Err failed.AlreadyConstructed else (if c then Err failed.Role else Ok tt))
      at true c = refl
      at false true = refl
      at false false = refl

  pub geometry-set-by : (rect : Rect) → geometry_set x rect ≡ asks_by {X = Unit {0}} (λ u. AskSurface x.surface (SetWindowGeometry rect)) refusal (geometry_answer rect (kept number))
  geometry-set-by rect = rw (one.here, one.stands.role) (at (is_some x.role) (int_lt (pos 0) rect.w && int_lt (pos 0) rect.h))
    where
      at : (b c : Bool) → (if b then (if c then Ok (AskSurface x.surface (SetWindowGeometry rect)) else refuse x.id error.InvalidSize) else refuse x.id error.NotConstructed)
          ≡ asks_by {X = Unit {0}} (λ u. AskSurface x.surface (SetWindowGeometry rect)) refusal (if b then (if c then Ok tt else Err failed.InvalidSize) else Err failed.NotConstructed)
      at true true = refl
      at true false = refl
      at false c = refl

  pub acknowledged-by : (serial : ℕ) → acknowledged_by x serial ≡ asks_by {X = Unit {0}} (λ u. Acknowledge x.id serial) refusal (acknowledgement_answer serial (kept number))
  acknowledged-by serial = rw (one.here, one.stands.role, one.stands.configures) (at (is_some x.role) (is_waiting serial x.configures))
    where
      at : (b c : Bool) → (if b then (if c then Ok (Acknowledge x.id serial) else refuse x.id error.InvalidSerial) else refuse x.id error.NotConstructed)
          ≡ asks_by {X = Unit {0}} (λ u. Acknowledge x.id serial) refusal (if b then (if c then Ok tt else Err failed.InvalidSerial) else Err failed.NotConstructed)
      at true true = refl
      at true false = refl
      at false c = refl

  pub configured-by : configured_again x ≡ asks_by (λ sent. configuring_if sent x.id) refusal (configure_answer (kept number))
  configured-by = rw (one.here, one.stands.role) (at (stage_of x) k.configures (full-kept k x one.stands.configures))
    where
      by : (b c : Bool) → (if b then (if c then refuse_limit else Ok (ConfigureAgain x.id)) else Ok Ignore) ≡ asks_by (λ sent. configuring_if sent x.id) refusal
          (if b then (if c then Err failed.TooMany else Ok true) else Ok false)
      by true true = refl
      by true false = refl
      by false c = refl

      at : (o : Option Stage) (configures : List Configure) → is_full configures ≡ is_full x.configures
          → (if option_map_or answers_states o false then (if is_full x.configures then refuse_limit else Ok (ConfigureAgain x.id)) else Ok Ignore)
          ≡ asks_by (λ sent. configuring_if sent x.id) refusal (stage_configured o configures)
      at None configures e = refl
      at (Some stage) configures e = rw e (by (answers_states stage) (is_full x.configures))

  -- it has no role object where none is refused for it
  bare : (o : Option RoleObject) → is_some o ≡ false → o ≡ None
  bare None e = refl
  bare (Some object) e = absurd (cc)

  pub bare-destroyed : destruction_answer (kept number) ≡ Ok tt → x.role ≡ None
  bare-destroyed answer = bare x.role (at (is_some x.role) (rw (one.here, one.stands.role) at answer))
    where
      at : (b : Bool) → ◌≡◌ {A = Result (Unit {0}) ShellError} (if b then Err failed.DefunctRoleObject else Ok tt) (Ok tt) → b ≡ false
      at true e = absurd (cc)
      at false e = refl

  pub bare-toplevel : (other : Bool) → toplevel_answer other (kept number) ≡ Ok tt → (x.role ≡ None) × (other ≡ false)
  bare-toplevel other answer = let both = at (is_some x.role) other (rw (one.here, one.stands.role) at answer) in (bare x.role both.0, both.1)
    where
      at : (b c : Bool) → ◌≡◌ {A = Result (Unit {0}) ShellError} (if b then Err failed.AlreadyConstructed else (if c then Err failed.Role else Ok tt)) (Ok tt) → (b ≡ false) × (c ≡ false)
      at true c e = absurd (cc)
      at false true e = absurd (cc)
      at false false e = (refl, refl)

-- nothing is kept of a surface of which an xdg_surface may be made, and it has no other role and no content
pub free-made : (has_other_role has_content : Bool) (k : Option Kept) → making_refused has_other_role has_content k ≡ None → (has_other_role ≡ false) × (has_content ≡ false) × (k ≡ None)
free-made true has_content k e = absurd (cc)
free-made false has_content (Some k) e = absurd (cc)
free-made false true None e = absurd (cc)
free-made false false None e = (refl, refl, refl)

-- a toplevel's role is refused to none that has no other
pub role-fits : (role : Option Role) → is_no_toplevel role ≡ false → ((other : Role) × (role ≡ Some other) × (other ≢ AsToplevel)) → ⊥
role-fits None fits other = none-some other.0 other.1
role-fits (Some AsToplevel) fits other = other.2 (same_Some other.0 AsToplevel (sym other.1))
role-fits role fits other = absurd (cc)

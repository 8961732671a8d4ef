-- What a commit comes to for the shell, and what is told of it.
use Rattle.std.proofs.Common.{◌≡◌, ℕ, [], ◌∷◌, ◌++◌, Bool, true, false, Option, Some, None, Result, refl, ap, sym, ◌∙◌}
use Rattle.std.specs.Prelude.{ℤ, Ok, Err, is_some}
use Rattle.wl_geom.specs.declared.rect.Rect.{Rect}
use Rattle.std.specs.Option.{option_and_then, option_map}
use Rattle.spec_desktop.specs.Peer.{Peer}
use Rattle.spec_desktop.specs.declared.refusals.ErrorCode.TheVariants.{InvalidBufferSize}
use Rattle.spec_desktop.specs.declared.refusals.Refusal.{Refusal}
use Rattle.wl_links.specs.Family.{Tied}
use Rattle.wl_surface.specs.Slots.{Slots}
use Rattle.wl_shell.specs.Kept.{Kept, commit_answer, kind_toplevel, toplevel_in}
use Rattle.wl_shell.specs.Popups.{is_toplevel, is_toplevel_kind}
use Rattle.wl_shell.specs.Shell.{Effect, Stays, Configures, Maps, Unmaps, IsPopup, Kind, RoleObject, Toplevel, XdgSurface, xdg_of}
use Rattle.wl_shell.specs.declared.acts.Placed.{Placed}
use Rattle.wl_shell.specs.declared.acts.ShellAct.{ShellAct}
use Rattle.wl_shell.specs.declared.acts.ShellAct.TheVariants.{Configure, Map, Unmap}
use Rattle.spec_desktop.specs.Changing.{Placing, effect_placing}
use Rattle.spec_desktop.specs.Demand.{Demand}
use Rattle.spec_desktop.specs.Demanding.{if_whole}
use Rattle.spec_desktop.specs.Desktop.{Resident}
use Rattle.spec_desktop.specs.WlSubsurface.{refuses}
use Rattle.spec_desktop.specs.Replies.{popup_told}
use Rattle.law_desktop.specs.Owning.{IsOwned, Names, effect_by, kept_id}
use Rattle.law_desktop.specs.OwnedPopups.{act_told, object_told, role_told}
use Rattle.wl_requests.specs.Residents.{drawn_by}
use Rattle.spec_desktop.specs.Step.{toplevel_configured, xdg_configured}
use Rattle.law_desktop.proofs.Keeping.OwningXdg.{xdg-of, xdg-of-none}

-- only a configure changes more of a client than its xdg_surface
mapped-peer : (where_to : Placing) (id : ℕ) (o : Option XdgSurface) (r : Resident) → (effect_placing where_to id Maps o r).peer ≡ r.peer
mapped-peer where_to id None r = refl
mapped-peer where_to id (Some x) r = refl

unmapped-peer : (where_to : Placing) (id : ℕ) (o : Option XdgSurface) (r : Resident) → (effect_placing where_to id Unmaps o r).peer ≡ r.peer
unmapped-peer where_to id None r = refl
unmapped-peer where_to id (Some x) r = refl

still-peer : (where_to : Placing) (id : ℕ) (o : Option XdgSurface) (r : Resident) → (effect_placing where_to id Stays o r).peer ≡ r.peer
still-peer where_to id None r = refl
still-peer where_to id (Some x) r = refl

-- a surface without xdg_surface isn't configured
unconfigured : (shows : Bool) (bounds : Rect) (at : ℤ × ℤ) (o : Option Kept) (placed : Option Placed) → commit_answer shows bounds at o ≡ Ok (Configure placed) → (k : Kept) × (o ≡ Some k)
unconfigured shows bounds at None placed e = absurd (cc)
unconfigured shows bounds at (Some k) placed e = (k, refl)

-- the kept role object is a toplevel where the xdg_surface has one
toplevel-object : (o : Option RoleObject) (x : XdgSurface) → o ≡ x.role → is_some (toplevel_in o) ≡ is_toplevel (Some x)
toplevel-object o x same = at o ∙ ap (λ role. is_toplevel (Some (record x { role = role }))) same
  where
    of-kind : (object : RoleObject) (kind : Kind) → object.kind ≡ kind → is_some (toplevel_in (Some object)) ≡ is_toplevel (Some (record x { role = Some object }))
    of-kind object Toplevel is = ap (λ k. is_some (kind_toplevel object k)) is ∙ sym (ap is_toplevel_kind is)
    of-kind object (IsPopup popup) is = ap (λ k. is_some (kind_toplevel object k)) is ∙ sym (ap is_toplevel_kind is)

    at : (o : Option RoleObject) → is_some (toplevel_in o) ≡ is_toplevel (Some (record x { role = o }))
    at None = refl
    at (Some object) = of-kind object object.kind refl

module _ (names : Names) (slots : Slots) (tied : Tied) (kept : ℕ → Option Kept) (r : Resident) (is : IsOwned names slots tied kept r.owned) (id number : ℕ)
    (named : names.surfaces id ≡ Some number) where
  -- where a serial is drawn
  pub commit-peer : (where_to : Placing) (shows : Bool) (bounds : Rect) (at : ℤ × ℤ) (act : ShellAct) (after : Resident) → commit_answer shows bounds at (kept number) ≡ Ok act
      → (effect_placing where_to id (effect_by act) (xdg_of id r.owned.shell) after).peer ≡ drawn_by act after.peer
  commit-peer where_to shows bounds at (Configure placed) after answer =
      let k = unconfigured shows bounds at (kept number) placed answer in
      let xdg = xdg-of names slots tied kept r.owned is id number k.0 named k.1 in
      ap (λ (o : Option XdgSurface). (effect_placing where_to id Configures o after).peer) xdg.3
  commit-peer where_to shows bounds at Map after answer = mapped-peer where_to id (xdg_of id r.owned.shell) after
  commit-peer where_to shows bounds at Unmap after answer = unmapped-peer where_to id (xdg_of id r.owned.shell) after
  commit-peer where_to shows bounds at act after answer = still-peer where_to id (xdg_of id r.owned.shell) after

  -- whether its xdg_surface has a toplevel is read of what is kept
  pub toplevel-read : is_some (option_and_then (λ k. toplevel_in k.role) (kept number)) ≡ is_toplevel (xdg_of id r.owned.shell)
  toplevel-read = at (kept number) refl
    where
      at : (o : Option Kept) → kept number ≡ o → is_some (option_and_then (λ k. toplevel_in k.role) o) ≡ is_toplevel (xdg_of id r.owned.shell)
      at None here = sym (ap is_toplevel (xdg-of-none names slots tied kept r.owned is id number named here))
      at (Some k) here =
          let xdg = xdg-of names slots tied kept r.owned is id number k named here in
          toplevel-object k.role xdg.0 xdg.2.stands.role ∙ sym (ap is_toplevel xdg.3)

-- ---- whatever a commit comes to for the shell, it leaves the surfaces, the callbacks and the wl_subsurfaces

module _ (where_to : Placing) (surface : ℕ) where
  pub effect-surfaces : (effect : Effect) (o : Option XdgSurface) (r : Resident) → (effect_placing where_to surface effect o r).owned.surfaces ≡ r.owned.surfaces
  effect-surfaces effect None r = refl
  effect-surfaces Stays (Some x) r = refl
  effect-surfaces effect o r = refl

  pub effect-callbacks : (effect : Effect) (o : Option XdgSurface) (r : Resident) → (effect_placing where_to surface effect o r).callbacks ≡ r.callbacks
  effect-callbacks effect None r = refl
  effect-callbacks Stays (Some x) r = refl
  effect-callbacks effect o r = refl

  pub effect-requests : (effect : Effect) (o : Option XdgSurface) (r : Resident) → (effect_placing where_to surface effect o r).peer.requests ≡ r.peer.requests
  effect-requests effect None r = refl
  effect-requests Stays (Some x) r = refl
  effect-requests effect o r = refl

  pub effect-buffers : (effect : Effect) (o : Option XdgSurface) (r : Resident) → (effect_placing where_to surface effect o r).peer.buffers ≡ r.peer.buffers
  effect-buffers effect None r = refl
  effect-buffers Stays (Some x) r = refl
  effect-buffers effect o r = refl

  pub effect-subsurfaces : (effect : Effect) (o : Option XdgSurface) (r : Resident) → (effect_placing where_to surface effect o r).subsurfaces ≡ r.subsurfaces
  effect-subsurfaces effect None r = refl
  effect-subsurfaces Stays (Some x) r = refl
  effect-subsurfaces effect o r = refl

-- ---- what is told of a surface, by what is kept of its xdg_surface

abbrev role_id : Option Kept → Option ℕ
role_id k = option_and_then (λ (k : Kept). option_map (λ (object : RoleObject). object.id) k.role) k

abbrev has_toplevel : Option Kept → Bool
has_toplevel k = is_some (option_and_then (λ (k : Kept). toplevel_in k.role) k)

-- that of a toplevel, and that of a popup
module _ (placed : Option Placed) (serial object xdg : ℕ) where
  toplevel-kind : (o : RoleObject) (kind : Kind) → o.kind ≡ kind → is_some (toplevel_in (Some o)) ≡ true → role_told placed object o.kind ≡ toplevel_configured object ∷ []
  toplevel-kind o Toplevel is has = ap (role_told placed object) is
  toplevel-kind o (IsPopup popup) is has = absurd (let gone : false ≡ true = sym (ap (λ k. is_some (kind_toplevel o k)) is) ∙ has in cc)

  popup-kind : (o : RoleObject) (kind : Kind) → o.kind ≡ kind → is_some (toplevel_in (Some o)) ≡ false → role_told placed object o.kind ≡ popup_told object placed
  popup-kind o (IsPopup popup) is has = ap (role_told placed object) is
  popup-kind o Toplevel is has = absurd (let gone : true ≡ false = sym (ap (λ k. is_some (kind_toplevel o k)) is) ∙ has in cc)

  pub told-toplevel : (k : Option Kept) → Some object ≡ role_id k → xdg ≡ kept_id k → has_toplevel k ≡ true
      → act_told (Configure placed) serial k ≡ toplevel_configured object ∷ xdg_configured xdg serial ∷ []
  told-toplevel None e same has = absurd (cc)
  told-toplevel (Some k) e same has = at k.role e has ∙ ap (λ i. toplevel_configured object ∷ xdg_configured i serial ∷ []) (sym same)
    where
      at : (o : Option RoleObject) → Some object ≡ option_map (λ (object : RoleObject). object.id) o → is_some (toplevel_in o) ≡ true
          → object_told placed serial k.id o ≡ toplevel_configured object ∷ xdg_configured k.id serial ∷ []
      at None e has = absurd (cc)
      at (Some o) e has =
          let it : o.id ≡ object = cc in
          ap (λ i. role_told placed i o.kind ++ xdg_configured k.id serial ∷ []) it ∙ ap (λ es. es ++ xdg_configured k.id serial ∷ []) (toplevel-kind o o.kind refl has)

  pub told-popup : (k : Option Kept) → Some object ≡ role_id k → xdg ≡ kept_id k → has_toplevel k ≡ false
      → act_told (Configure placed) serial k ≡ popup_told object placed ++ xdg_configured xdg serial ∷ []
  told-popup None e same has = absurd (cc)
  told-popup (Some k) e same has = at k.role e has ∙ ap (λ i. popup_told object placed ++ xdg_configured i serial ∷ []) (sym same)
    where
      at : (o : Option RoleObject) → Some object ≡ option_map (λ (object : RoleObject). object.id) o → is_some (toplevel_in o) ≡ false
          → object_told placed serial k.id o ≡ popup_told object placed ++ xdg_configured k.id serial ∷ []
      at None e has = absurd (cc)
      at (Some o) e has =
          let it : o.id ≡ object = cc in
          ap (λ i. role_told placed i o.kind ++ xdg_configured k.id serial ∷ []) it ∙ ap (λ es. es ++ xdg_configured k.id serial ∷ []) (popup-kind o o.kind refl has)

pub told-none : (placed : Option Placed) (serial : ℕ) (k : Option Kept) → None ≡ role_id k → act_told (Configure placed) serial k ≡ []
told-none placed serial None e = refl
told-none placed serial (Some k) e = at k.role e
  where
    at : (o : Option RoleObject) → None ≡ option_map (λ (object : RoleObject). object.id) o → object_told placed serial k.id o ≡ []
    at None e = refl
    at (Some object) e = absurd (cc)

-- a commit that configures nothing tells nothing, and draws no serial
pub told-still : (act : ShellAct) (serial : ℕ) (k : Option Kept) (p : Peer) → ((placed : Option Placed) → act ≡ Configure placed → ⊥) → (act_told act serial k ≡ []) × (drawn_by act p ≡ p)
told-still (Configure placed) serial k p other = absurd (other placed refl)
told-still act serial k p other = (refl, refl)

-- a serial is drawn of a client that lives on
pub drawn-status : (act : ShellAct) (p : Peer) → (drawn_by act p).status ≡ p.status
drawn-status (Configure placed) p = refl
drawn-status act p = refl

-- ---- the size of its buffer is looked at after the shell's own errors

pub whole-judged : (whole : Bool) (object : ℕ) (judged shell : Result Demand Refusal) → judged ≡ if_whole whole object shell → whole ≡ true → judged ≡ shell
whole-judged true object judged shell e is = e
whole-judged false object judged shell e is = absurd (cc)

pub unwhole-judged : (whole : Bool) (object : ℕ) (judged shell : Result Demand Refusal) (demand : Demand) → judged ≡ if_whole whole object shell → whole ≡ false → shell ≡ Ok demand
    → judged ≡ refuses object InvalidBufferSize
unwhole-judged true object judged shell demand e is ok = absurd (cc)
unwhole-judged false object judged shell demand e is ok = e ∙ ap (if_whole false object) ok

pub shell-judged : (whole : Bool) (object : ℕ) (judged shell : Result Demand Refusal) (refusal : Refusal) → judged ≡ if_whole whole object shell → shell ≡ Err refusal → judged ≡ Err refusal
shell-judged true object judged shell refusal e err = e ∙ err
shell-judged false object judged shell refusal e err = e ∙ ap (if_whole false object) err

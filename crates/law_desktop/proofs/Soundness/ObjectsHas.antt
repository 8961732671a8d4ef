-- What a client owns goes on being known by the ids of its objects: where one is made or goes, and where what is owned changes.
use Rattle.std.proofs.Common.{◌≡◌, ℕ, Bool, true, false, List, Some, None, cond, refl, ap, ◌∙◌}
use Rattle.std.specs.Prelude.{◌==◌, is_some}
use Rattle.std.specs.List.{list_any}
use Rattle.std.proofs.lemmas.Bool.{eqb-true}
use Rattle.wl_proto.specs.declared.interface.Interface.{Interface}
use Rattle.wl_proto.specs.declared.interface.Interface.TheVariants.{WlCallback, WlSurface, WlSubsurface, XdgSurface, XdgToplevel, XdgPopup}
use Rattle.spec_desktop.specs.Objects.{Object, Objects, interface_number, is_of, with_id}
use Rattle.wl_surface.specs.Surfaces.{Surfaces, surface_at}
use Rattle.wl_surface.specs.Waiting.{Callback}
use Rattle.wl_shell.specs.Shell.{Shell, XdgSurface as Xdg}
use Rattle.spec_desktop.specs.Desktop.{Resident, Subsurface}
use Rattle.law_desktop.specs.Apart.{AreObjects}
use Rattle.law_desktop.proofs.Soundness.Orderly.{HasObjects, is_popup_at, is_toplevel_at}
use Rattle.law_desktop.proofs.Soundness.ObjectsKeys.{no-key, none-of-gone, objects-gone, objects-more, of-one, others-kept}

-- the tests by the ids of objects
abbrev pub has_sub : ℕ → Subsurface → Bool
has_sub id s = s.id == id

abbrev pub has_xdg : ℕ → Xdg → Bool
has_xdg id x = x.id == id

abbrev pub has_toplevel : ℕ → Xdg → Bool
has_toplevel id x = is_toplevel_at id x.role

abbrev pub has_popup : ℕ → Xdg → Bool
has_popup id x = is_popup_at id x.role

abbrev pub has_callback : ℕ → Callback → Bool
has_callback id callback = callback.id == id

-- what is owned is known by the ids of these objects
pub record Has (objects : Objects) (all : Surfaces) (subs : List Subsurface) (shell : Shell) (calls : List Callback) : Type 0 where
  pub surfaces : (id : ℕ) → is_of WlSurface (objects id) ≡ true → is_some (surface_at id all) ≡ true
  pub subsurfaces : AreObjects WlSubsurface objects has_sub subs
  pub xdgs : AreObjects XdgSurface objects has_xdg shell
  pub toplevels : AreObjects XdgToplevel objects has_toplevel shell
  pub popups : AreObjects XdgPopup objects has_popup shell
  pub callbacks : AreObjects WlCallback objects has_callback calls

abbrev pub HasOf : Resident → Type 0
HasOf r = Has r.peer.objects r.owned.surfaces r.subsurfaces r.owned.shell r.callbacks

pub has-of : (r : Resident) → HasObjects r → HasOf r
has-of r h = record { surfaces = h.surfaces; subsurfaces = h.subsurfaces; xdgs = h.shell; toplevels = h.toplevels; popups = h.popups; callbacks = h.callbacks }

pub of-has : (r : Resident) → HasOf r → HasObjects r
of-has r h = record { surfaces = h.surfaces; subsurfaces = h.subsurfaces; shell = h.xdgs; toplevels = h.toplevels; popups = h.popups; callbacks = h.callbacks }

module _ (objects : Objects) (all : Surfaces) (subs : List Subsurface) (shell : Shell) (calls : List Callback) (h : Has objects all subs shell calls) where
  -- ---- what is owned changes

  pub has-surfaces : (new : Surfaces) → ((id : ℕ) → is_of WlSurface (objects id) ≡ true → is_some (surface_at id all) ≡ true → is_some (surface_at id new) ≡ true) → Has objects new subs shell calls
  has-surfaces new there =
      record { surfaces = λ id is. there id is (h.surfaces id is); subsurfaces = h.subsurfaces; xdgs = h.xdgs; toplevels = h.toplevels; popups = h.popups; callbacks = h.callbacks }

  pub has-subsurfaces : (new : List Subsurface) → AreObjects WlSubsurface objects has_sub new → Has objects all new shell calls
  has-subsurfaces new are = record { surfaces = h.surfaces; subsurfaces = are; xdgs = h.xdgs; toplevels = h.toplevels; popups = h.popups; callbacks = h.callbacks }

  pub has-shell : (new : Shell) → AreObjects XdgSurface objects has_xdg new → AreObjects XdgToplevel objects has_toplevel new → AreObjects XdgPopup objects has_popup new
      → Has objects all subs new calls
  has-shell new xdgs toplevels popups = record { surfaces = h.surfaces; subsurfaces = h.subsurfaces; xdgs = xdgs; toplevels = toplevels; popups = popups; callbacks = h.callbacks }

  pub has-calls : (new : List Callback) → AreObjects WlCallback objects has_callback new → Has objects all subs shell new
  has-calls new are = record { surfaces = h.surfaces; subsurfaces = h.subsurfaces; xdgs = h.xdgs; toplevels = h.toplevels; popups = h.popups; callbacks = are }

  -- ---- an object is made, or goes

  -- nothing is known by an id that is put to use
  pub has-made : (id : ℕ) (object : Object) → ((interface : Interface) → is_of interface (objects id) ≡ false) → (is_of WlSurface (Some object) ≡ true → is_some (surface_at id all) ≡ true)
      → Has (with_id id (Some object) objects) all subs shell calls
  has-made id object free there = record {
    surfaces = λ key is. surface key (key == id) refl is;
    subsurfaces = objects-more WlSubsurface has_sub objects (with_id id (Some object) objects) subs (others-kept WlSubsurface objects id (Some object) (free WlSubsurface)) h.subsurfaces;
    xdgs = objects-more XdgSurface has_xdg objects (with_id id (Some object) objects) shell (others-kept XdgSurface objects id (Some object) (free XdgSurface)) h.xdgs;
    toplevels = objects-more XdgToplevel has_toplevel objects (with_id id (Some object) objects) shell (others-kept XdgToplevel objects id (Some object) (free XdgToplevel)) h.toplevels;
    popups = objects-more XdgPopup has_popup objects (with_id id (Some object) objects) shell (others-kept XdgPopup objects id (Some object) (free XdgPopup)) h.popups;
    callbacks = objects-more WlCallback has_callback objects (with_id id (Some object) objects) calls (others-kept WlCallback objects id (Some object) (free WlCallback)) h.callbacks;
  }
    where
      surface : (key : ℕ) (b : Bool) → (key == id) ≡ b → is_of WlSurface (cond b (Some object) (objects key)) ≡ true → is_some (surface_at key all) ≡ true
      surface key true e is = ap (λ n. is_some (surface_at n all)) (eqb-true key id e) ∙ there is
      surface key false e is = h.surfaces key is

  -- nothing is known by the id of what goes
  pub has-gone : (id : ℕ) → list_any (has_sub id) subs ≡ false → list_any (has_xdg id) shell ≡ false → list_any (has_toplevel id) shell ≡ false → list_any (has_popup id) shell ≡ false
      → list_any (has_callback id) calls ≡ false
      → Has (with_id id None objects) all subs shell calls
  has-gone id subsurface xdg toplevel popup callback = record {
    surfaces = λ key is. h.surfaces key (none-of-gone WlSurface objects id key is).0;
    subsurfaces = objects-gone WlSubsurface has_sub objects id subs subsurface h.subsurfaces;
    xdgs = objects-gone XdgSurface has_xdg objects id shell xdg h.xdgs;
    toplevels = objects-gone XdgToplevel has_toplevel objects id shell toplevel h.toplevels;
    popups = objects-gone XdgPopup has_popup objects id shell popup h.popups;
    callbacks = objects-gone WlCallback has_callback objects id calls callback h.callbacks;
  }

  -- by the id of an object nothing is known as by that of an object of another interface
  pub no-subsurface : (one : Interface) (id : ℕ) → (interface_number one == interface_number WlSubsurface) ≡ false → is_of one (objects id) ≡ true → list_any (has_sub id) subs ≡ false
  no-subsurface one id apart is = no-key WlSubsurface has_sub objects id subs (of-one one WlSubsurface (objects id) apart is) h.subsurfaces

  pub no-xdg : (one : Interface) (id : ℕ) → (interface_number one == interface_number XdgSurface) ≡ false → is_of one (objects id) ≡ true → list_any (has_xdg id) shell ≡ false
  no-xdg one id apart is = no-key XdgSurface has_xdg objects id shell (of-one one XdgSurface (objects id) apart is) h.xdgs

  pub no-toplevel : (one : Interface) (id : ℕ) → (interface_number one == interface_number XdgToplevel) ≡ false → is_of one (objects id) ≡ true → list_any (has_toplevel id) shell ≡ false
  no-toplevel one id apart is = no-key XdgToplevel has_toplevel objects id shell (of-one one XdgToplevel (objects id) apart is) h.toplevels

  pub no-popup : (one : Interface) (id : ℕ) → (interface_number one == interface_number XdgPopup) ≡ false → is_of one (objects id) ≡ true → list_any (has_popup id) shell ≡ false
  no-popup one id apart is = no-key XdgPopup has_popup objects id shell (of-one one XdgPopup (objects id) apart is) h.popups

  pub no-callback : (one : Interface) (id : ℕ) → (interface_number one == interface_number WlCallback) ≡ false → is_of one (objects id) ≡ true → list_any (has_callback id) calls ≡ false
  no-callback one id apart is = no-key WlCallback has_callback objects id calls (of-one one WlCallback (objects id) apart is) h.callbacks

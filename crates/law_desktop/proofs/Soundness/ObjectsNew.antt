-- Subsurfaces, xdg_surfaces, role objects and frame callbacks come and go with their objects.
use Rattle.std.proofs.Common.{◌≡◌, ℕ, Bool, true, false, List, [], ◌∷◌, ◌++◌, Some, None, cond, refl, ap, sym, ◌∙◌}
use Rattle.std.specs.Prelude.{◌==◌, ◌&&◌, ◌||◌, not, filter}
use Rattle.std.specs.List.{list_any}
use Rattle.std.proofs.lemmas.Bool.{eqb-true, false_from_ne_true, true≢false}
use Rattle.wl_proto.specs.declared.interface.Interface.{Interface}
use Rattle.wl_proto.specs.declared.interface.Interface.TheVariants.{WlCallback, WlSurface, WlSubsurface, XdgSurface, XdgToplevel, XdgPopup}
use Rattle.spec_desktop.specs.Judgement.{is_free}
use Rattle.spec_desktop.specs.Objects.{Object, Objects, interface_number, is_of, with_id}
use Rattle.spec_desktop.specs.Peer.{object_at_version}
use Rattle.wl_surface.specs.Surfaces.{Surfaces}
use Rattle.wl_surface.specs.Waiting.{Callback}
use Rattle.wl_shell.specs.Popups.{new_popup}
use Rattle.wl_shell.specs.Positioner.{Positioner}
use Rattle.wl_shell.specs.Shell.{Shell, XdgSurface as Xdg, new_toplevel, with_change, with_new, without_xdg, xdg_at}
use Rattle.spec_desktop.specs.Desktop.{Subsurface}
use Rattle.law_desktop.specs.Apart.{AreApartBy, AreObjects}
use Rattle.law_desktop.proofs.Soundness.ObjectsHas.{Has, has-calls, has-gone, has-made, has-shell, has-subsurfaces, has_callback, has_popup, has_sub, has_toplevel, has_xdg, no-callback, no-popup}
use Rattle.law_desktop.proofs.Soundness.ObjectsHas.{no-subsurface, no-toplevel, no-xdg}
use Rattle.law_desktop.proofs.Soundness.ObjectsKeys.{any-less, free-none, no-key, objects-filter, objects-map, objects-new}
use Rattle.law_desktop.proofs.Lists.Keys.{changed-apart, new-apart}
use Rattle.law_desktop.proofs.Marks.Stacks.{equal-numbers}
use Rattle.law_desktop.proofs.Lists.Standings.{any-gone, any-last}
use Rattle.law_desktop.proofs.Truth.{and-left, and-right}
use Rattle.law_desktop.proofs.Lists.Tests.{find-none}

-- one more that has no key
pub objects-plain : {X : Type 0} (interface : Interface) (has : ℕ → X → Bool) (objects : Objects) (xs : List X) (x : X) → ((key : ℕ) → has key x ≡ false) → AreObjects interface objects has xs
    → AreObjects interface objects has (xs ++ x ∷ [])
objects-plain interface has objects xs x never are = (
  new-apart has xs x (λ key is. absurd (true≢false (sym is ∙ never key))) are.0,
  λ key any. are.1 key (first (list_any (has key) xs) (has key x) (sym (any-last (has key) xs x) ∙ any) (never key)),
)
  where
    first : (a b : Bool) → (a || b) ≡ true → b ≡ false → a ≡ true
    first true b e none = refl
    first false b e none = absurd (true≢false (sym e ∙ none))

-- one of them gets a key, which is that of a new object
module _ (interface : Interface) (has : ℕ → Xdg → Bool) (objects : Objects) (id : ℕ) (object : Object) (xdg : ℕ) (change : Xdg → Xdg) (x : Xdg) where
  pub objects-given : (shell : Shell) → AreApartBy has_xdg shell → xdg_at xdg shell ≡ Some x → is_of interface (objects id) ≡ false → is_of interface (Some object) ≡ true
      → ((key : ℕ) (x : Xdg) → has key (change x) ≡ true → key ≡ id) → AreObjects interface objects has shell
      → AreObjects interface (with_id id (Some object) objects) has (with_change xdg change shell)
  objects-given shell apart found none is key-is are = (
    changed-apart has_xdg xdg x change has shell apart found are.0
        (λ key has-key. find-none (has key) shell (no-key interface has objects key shell (ap (λ n. is_of interface (objects n)) (key-is key x has-key) ∙ none) are)),
    λ key any. at key any (key == id) refl,
  )
    where
      before : (key : ℕ) → (key == id) ≡ false → (y : Xdg) (b : Bool) → has key (cond b (change y) y) ≡ true → has key y ≡ true
      before key e y true has-key = absurd (true≢false (sym (equal-numbers key id (key-is key y has-key)) ∙ e))
      before key e y false has-key = has-key

      at : (key : ℕ) → list_any (has key) (with_change xdg change shell) ≡ true → (b : Bool) → (key == id) ≡ b → is_of interface (cond b (Some object) (objects key)) ≡ true
      at key any true e = is
      at key any false e = are.1 key (any-less (has key) (λ y. cond (y.id == xdg) (change y) y) shell (λ y. before key e y (y.id == xdg)) any)

module _ (objects : Objects) (all : Surfaces) (subs : List Subsurface) (shell : Shell) (calls : List Callback) (h : Has objects all subs shell calls) (id : ℕ) where
  -- ---- what comes

  module _ (version : ℕ) (free : is_free objects id ≡ true) where
    -- an object of another interface than wl_surface
    pub has-object : (interface : Interface) → is_of WlSurface (Some (object_at_version interface version)) ≡ false
        → Has (with_id id (Some (object_at_version interface version)) objects) all subs shell calls
    has-object interface other =
        has-made objects all subs shell calls h id (object_at_version interface version) (λ interface. free-none interface objects id free) (λ is. absurd (true≢false (sym is ∙ other)))

    pub has-subsurface-more : (s : Subsurface) → s.id ≡ id → Has (with_id id (Some (object_at_version WlSubsurface version)) objects) all (subs ++ s ∷ []) shell calls
    has-subsurface-more s is =
        has-subsurfaces (with_id id (Some (object_at_version WlSubsurface version)) objects) all subs shell calls (has-object WlSubsurface refl) (subs ++ s ∷ [])
        (objects-new WlSubsurface has_sub objects id (object_at_version WlSubsurface version) subs s (free-none WlSubsurface objects id free) refl (λ key e. sym (eqb-true s.id key e)
        ∙ is) h.subsurfaces)

    pub has-callback-more : (callback : Callback) → callback.id ≡ id → Has (with_id id (Some (object_at_version WlCallback version)) objects) all subs shell (calls ++ callback ∷ [])
    has-callback-more callback is =
        has-calls (with_id id (Some (object_at_version WlCallback version)) objects) all subs shell calls (has-object WlCallback refl) (calls ++ callback ∷ [])
        (objects-new WlCallback has_callback objects id (object_at_version WlCallback version) calls callback (free-none WlCallback objects id free) refl (λ key e. sym (eqb-true callback.id key e)
        ∙ is) h.callbacks)

    pub has-xdg-more : (base surface : ℕ) → Has (with_id id (Some (object_at_version XdgSurface version)) objects) all subs (with_new id base surface shell) calls
    has-xdg-more base surface =
        let new = has-object XdgSurface refl in
        has-shell (with_id id (Some (object_at_version XdgSurface version)) objects) all subs shell calls new (with_new id base surface shell)
        (objects-new XdgSurface has_xdg objects id (object_at_version XdgSurface version) shell _ (free-none XdgSurface objects id free) refl (λ key e. sym (eqb-true id key e)) h.xdgs)
        (objects-plain XdgToplevel has_toplevel (with_id id (Some (object_at_version XdgSurface version)) objects) shell _ (λ key. refl) new.toplevels)
        (objects-plain XdgPopup has_popup (with_id id (Some (object_at_version XdgSurface version)) objects) shell _ (λ key. refl) new.popups)

    same-xdg : (xdg : ℕ) (change : Xdg → Xdg) → ((x : Xdg) → (change x).id ≡ x.id) → (key : ℕ) (x : Xdg) → has_xdg key (cond (x.id == xdg) (change x) x) ≡ true → has_xdg key x ≡ true
    same-xdg xdg change keeps key x e = at (x.id == xdg) e
      where
        at : (b : Bool) → has_xdg key (cond b (change x) x) ≡ true → has_xdg key x ≡ true
        at true e = ap (λ i. i == key) (sym (keeps x)) ∙ e
        at false e = e

    -- only the role of one changes, and what it is now isn't so by this test
    fails : (has : ℕ → Xdg → Bool) (xdg : ℕ) (change : Xdg → Xdg) → ((key : ℕ) (x : Xdg) → has key (change x) ≡ false) → (key : ℕ) (x : Xdg) → has key (cond (x.id == xdg) (change x) x) ≡ true
        → has key x ≡ true
    fails has xdg change never key x e = at (x.id == xdg) e
      where
        at : (b : Bool) → has key (cond b (change x) x) ≡ true → has key x ≡ true
        at true e = absurd (true≢false (sym e ∙ never key x))
        at false e = e

    pub has-toplevel-more : (xdg since : ℕ) (x : Xdg) → xdg_at xdg shell ≡ Some x → Has (with_id id (Some (object_at_version XdgToplevel version)) objects) all subs
        (with_change xdg (new_toplevel id since) shell) calls
    has-toplevel-more xdg since x found =
        let new = has-object XdgToplevel refl in
        has-shell (with_id id (Some (object_at_version XdgToplevel version)) objects) all subs shell calls new (with_change xdg (new_toplevel id since) shell)
        (objects-map XdgSurface has_xdg (with_id id (Some (object_at_version XdgToplevel version)) objects) (λ x. cond (x.id == xdg) (new_toplevel id since x) x) shell
        (same-xdg xdg (new_toplevel id since) (λ x. refl)) new.xdgs)
        (objects-given XdgToplevel has_toplevel objects id (object_at_version XdgToplevel version) xdg (new_toplevel id since) x shell h.xdgs.0 found (free-none XdgToplevel objects id free) refl
        (λ key x e. sym (eqb-true id key (and-left (id == key) true e))) h.toplevels)
        (objects-map XdgPopup has_popup (with_id id (Some (object_at_version XdgToplevel version)) objects) (λ x. cond (x.id == xdg) (new_toplevel id since x) x) shell
        (fails has_popup xdg (new_toplevel id since) (λ key x. false_from_ne_true ((id == key) && false) (λ e. true≢false (sym (and-right (id == key) false e))))) new.popups)

    pub has-popup-more : (xdg parent : ℕ) (p : Positioner) (number since : ℕ) (x : Xdg) → xdg_at xdg shell ≡ Some x
        → Has (with_id id (Some (object_at_version XdgPopup version)) objects) all subs (with_change xdg (new_popup id parent p number since) shell) calls
    has-popup-more xdg parent p number since x found =
        let new = has-object XdgPopup refl in
        has-shell (with_id id (Some (object_at_version XdgPopup version)) objects) all subs shell calls new (with_change xdg (new_popup id parent p number since) shell)
        (objects-map XdgSurface has_xdg (with_id id (Some (object_at_version XdgPopup version)) objects) (λ x. cond (x.id == xdg) (new_popup id parent p number since x) x) shell
        (same-xdg xdg (new_popup id parent p number since) (λ x. refl)) new.xdgs)
        (objects-map XdgToplevel has_toplevel (with_id id (Some (object_at_version XdgPopup version)) objects) (λ x. cond (x.id == xdg) (new_popup id parent p number since x) x) shell
        (fails has_toplevel xdg (new_popup id parent p number since) (λ key x. false_from_ne_true ((id == key) && false) (λ e. true≢false (sym (and-right (id == key) false e))))) new.toplevels)
        (objects-given XdgPopup has_popup objects id (object_at_version XdgPopup version) xdg (new_popup id parent p number since) x shell h.xdgs.0 found (free-none XdgPopup objects id free) refl
        (λ key x e. sym (eqb-true id key (and-left (id == key) true e))) h.popups)

  -- ---- what goes

  -- an object of another interface
  pub has-object-gone : (one : Interface) → (interface_number one == interface_number WlSubsurface) ≡ false → (interface_number one == interface_number XdgSurface) ≡ false
      → (interface_number one == interface_number XdgToplevel) ≡ false
      → (interface_number one == interface_number XdgPopup) ≡ false → (interface_number one == interface_number WlCallback) ≡ false → is_of one (objects id) ≡ true
      → Has (with_id id None objects) all subs shell calls
  has-object-gone one a b c d e is =
      has-gone objects all subs shell calls h id
      (no-subsurface objects all subs shell calls h one id a is)
      (no-xdg objects all subs shell calls h one id b is)
      (no-toplevel objects all subs shell calls h one id c is)
      (no-popup objects all subs shell calls h one id d is)
      (no-callback objects all subs shell calls h one id e is)

  pub has-subsurface-gone : is_of WlSubsurface (objects id) ≡ true → Has (with_id id None objects) all (filter (λ s. not (s.id == id)) subs) shell calls
  has-subsurface-gone is =
      has-gone objects all (filter (λ s. not (s.id == id)) subs) shell calls
      (has-subsurfaces objects all subs shell calls h (filter (λ s. not (s.id == id)) subs) (objects-filter WlSubsurface has_sub objects (λ s. not (s.id == id)) subs h.subsurfaces)) id
      (any-gone (has_sub id) (λ s. not (s.id == id)) (λ s is. ap (λ b. not b) is) subs)
      (no-xdg objects all subs shell calls h WlSubsurface id refl is)
      (no-toplevel objects all subs shell calls h WlSubsurface id refl is)
      (no-popup objects all subs shell calls h WlSubsurface id refl is)
      (no-callback objects all subs shell calls h WlSubsurface id refl is)

  pub has-xdg-gone : is_of XdgSurface (objects id) ≡ true → Has (with_id id None objects) all subs (without_xdg id shell) calls
  has-xdg-gone is =
      let left = has-shell objects all subs shell calls h (without_xdg id shell)
      (objects-filter XdgSurface has_xdg objects (λ x. not (x.id == id)) shell h.xdgs)
      (objects-filter XdgToplevel has_toplevel objects (λ x. not (x.id == id)) shell h.toplevels)
      (objects-filter XdgPopup has_popup objects (λ x. not (x.id == id)) shell h.popups) in
      has-gone objects all subs (without_xdg id shell) calls left id
      (no-subsurface objects all subs (without_xdg id shell) calls left XdgSurface id refl is)
      (any-gone (has_xdg id) (λ x. not (x.id == id)) (λ x is. ap (λ b. not b) is) shell)
      (no-toplevel objects all subs (without_xdg id shell) calls left XdgSurface id refl is)
      (no-popup objects all subs (without_xdg id shell) calls left XdgSurface id refl is)
      (no-callback objects all subs (without_xdg id shell) calls left XdgSurface id refl is)

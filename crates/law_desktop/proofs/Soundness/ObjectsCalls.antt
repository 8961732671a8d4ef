-- Frame callbacks go: what is owned goes on being known by the ids of the objects that are left.
use Rattle.std.proofs.Common.{◌≡◌, ℕ, Bool, true, false, List, [], ◌∷◌, None, cond, refl, ap, sym, ◌∙◌}
use Rattle.std.specs.Prelude.{◌==◌, ◌&&◌, ◌||◌, not, filter, fold}
use Rattle.std.specs.List.{list_any}
use Rattle.std.proofs.lemmas.Bool.{and_from, eqb-true, false_from_ne_true, true≢false}
use Rattle.std.proofs.lemmas.Option.{same_Some}
use Rattle.wl_proto.specs.declared.interface.Interface.{Interface}
use Rattle.wl_proto.specs.declared.interface.Interface.TheVariants.{WlCallback, WlSurface, WlSubsurface, XdgSurface, XdgToplevel, XdgPopup}
use Rattle.spec_desktop.specs.Objects.{Objects, interface_number, is_of}
use Rattle.spec_desktop.specs.Peer.{Peer, removed}
use Rattle.wl_surface.specs.Surfaces.{Surfaces}
use Rattle.wl_surface.specs.Waiting.{Callback}
use Rattle.wl_shell.specs.Shell.{Shell}
use Rattle.spec_desktop.specs.Desktop.{Subsurface}
use Rattle.law_desktop.specs.Apart.{AreApartBy}
use Rattle.law_desktop.proofs.Soundness.ObjectsHas.{Has, has_callback, has_popup, has_sub, has_toplevel, has_xdg}
use Rattle.law_desktop.proofs.Soundness.ObjectsKeys.{none-of-gone, objects-more, of-one}
use Rattle.law_desktop.proofs.Lists.Keys.{any-found, apart-left, found-any}
use Rattle.law_desktop.proofs.Marks.Stacks.{equal-numbers}
use Rattle.law_desktop.proofs.Truth.{and-left, and-right, or-left, or-right}
use Rattle.law_desktop.proofs.Lists.Left.{any-there}

-- what is left passes both
pub any-filtered : {X : Type 0} (p q : X → Bool) (xs : List X) → list_any p (filter q xs) ≡ list_any (λ x. p x && q x) xs
any-filtered p q [] = refl
any-filtered p q (x ∷ xs) = at (p x) (q x) refl refl (any-filtered p q xs)
  where
    at : (a b : Bool) → p x ≡ a → q x ≡ b → list_any p (filter q xs) ≡ list_any (λ x. p x && q x) xs → list_any p (cond b (x ∷ filter q xs) (filter q xs)) ≡ ((a && b) || list_any (λ x. p x && q x) xs)
    at true true e f rest = ap (λ c. c || list_any p (filter q xs)) e
    at false true e f rest = ap (λ c. c || list_any p (filter q xs)) e ∙ rest
    at true false e f rest = rest
    at false false e f rest = rest

-- the objects of callbacks go
abbrev pub all_removed : List Callback → Peer → Peer
all_removed gone p = fold (λ p callback. removed callback.id p) p gone

pub removed-less : (interface : Interface) (gone : List Callback) (p : Peer) (id : ℕ) → is_of interface ((all_removed gone p).objects id) ≡ true → is_of interface (p.objects id) ≡ true
removed-less interface [] p id is = is
removed-less interface (c ∷ cs) p id is = (none-of-gone interface p.objects c.id id (removed-less interface cs (removed c.id p) id is)).0

pub removed-others : (gone : List Callback) (p : Peer) (id : ℕ) → list_any (has_callback id) gone ≡ false → (all_removed gone p).objects id ≡ p.objects id
removed-others [] p id none = refl
removed-others (c ∷ cs) p id none =
    removed-others cs (removed c.id p) id (or-right (c.id == id) (list_any (has_callback id) cs) none)
    ∙ ap (λ b. cond b None (p.objects id)) (false_from_ne_true (id == c.id) (λ e. true≢false (sym (equal-numbers c.id id (sym (eqb-true id c.id e))) ∙ or-left (c.id == id) (list_any (has_callback id) cs) none)))

-- the callbacks that aren't among these, by their numbers
abbrev pub is_left : List Callback → Callback → Bool
is_left gone callback = not (list_any (λ other. other.number == callback.number) gone)

-- one that is left has not the id of one that goes
pub left-apart : (which : Callback → Bool) (calls : List Callback) (id : ℕ) → AreApartBy has_callback calls → list_any (has_callback id) (filter (is_left (filter which calls)) calls) ≡ true
    → list_any (has_callback id) (filter which calls) ≡ false
left-apart which calls id apart any = false_from_ne_true (list_any (has_callback id) (filter which calls)) never
  where
    stays : Callback → Bool
    stays callback = is_left (filter which calls) callback

    never : list_any (has_callback id) (filter which calls) ≡ true → ⊥
    never goes =
        let x = any-found has_callback (λ c. has_callback id c && is_left (filter which calls) c) calls apart (sym (any-filtered (has_callback id) (is_left (filter which calls)) calls) ∙ any) in
        let y = any-found has_callback (λ c. has_callback id c && which c) calls apart (sym (any-filtered (has_callback id) which calls) ∙ goes) in
        let found-x = x.2 id (and-left (has_callback id x.0) (is_left (filter which calls) x.0) x.1) in
        let found-y = y.2 id (and-left (has_callback id y.0) (which y.0) y.1) in
        let same : y.0 ≡ x.0 = same_Some y.0 x.0 (sym found-y ∙ found-x) in
        let there = any-filtered (λ other. other.number == x.0.number) which calls
        ∙ found-any (has_callback id) (λ other. (other.number == x.0.number) && which other) calls y.0 found-y
        (and_from (y.0.number == x.0.number) (which y.0) (equal-numbers y.0.number x.0.number (ap (λ (c : Callback). c.number) same)) (and-right (has_callback id y.0) (which y.0) y.1)) in
        true≢false (sym (and-right (has_callback id x.0) (is_left (filter which calls) x.0) x.1) ∙ ap not there)

module _ (peer : Peer) (all : Surfaces) (subs : List Subsurface) (shell : Shell) (calls : List Callback) (which : Callback → Bool) (h : Has peer.objects all subs shell calls) where
  abbrev pub left : Objects
  left = (all_removed (filter which calls) peer).objects

  -- an object of another interface is left
  pub other-left : (interface : Interface) → (interface_number interface == interface_number WlCallback) ≡ false → (id : ℕ) → is_of interface (peer.objects id) ≡ true
      → is_of interface (left id) ≡ true
  other-left interface apart id is =
      ap (is_of interface) (removed-others (filter which calls) peer id (false_from_ne_true (list_any (has_callback id) (filter which calls)) never)) ∙ is
    where
      never : list_any (has_callback id) (filter which calls) ≡ true → ⊥
      never any = true≢false (sym (h.callbacks.1 id (any-there (has_callback id) which calls any)) ∙ of-one interface WlCallback (peer.objects id) apart is)

  pub has-callbacks : Has left all subs shell (filter (is_left (filter which calls)) calls)
  has-callbacks = record {
    surfaces = λ id is. h.surfaces id (removed-less WlSurface (filter which calls) peer id is);
    subsurfaces = objects-more WlSubsurface has_sub peer.objects left subs (other-left WlSubsurface refl) h.subsurfaces;
    xdgs = objects-more XdgSurface has_xdg peer.objects left shell (other-left XdgSurface refl) h.xdgs;
    toplevels = objects-more XdgToplevel has_toplevel peer.objects left shell (other-left XdgToplevel refl) h.toplevels;
    popups = objects-more XdgPopup has_popup peer.objects left shell (other-left XdgPopup refl) h.popups;
    callbacks = (
      apart-left has_callback (is_left (filter which calls)) calls h.callbacks.0,
      λ id any.
          ap (is_of WlCallback) (removed-others (filter which calls) peer id (left-apart which calls id h.callbacks.0 any))
          ∙ h.callbacks.1 id (any-there (has_callback id) (is_left (filter which calls)) calls any),
    );
  }

-- What each request of surfaces, of links and of the shell's states changes of the windows.
use Rattle.std.proofs.Common.{List, ◌≡◌, ℕ, Bool, true, false, cond, Option, Some, None, map, refl, ap, sym, subst, ◌∙◌}
use Rattle.std.specs.Prelude.{◌==◌, ◌&&◌, ◌≢◌, not}
use Rattle.std.specs.Option.{option_and_then, option_map}
use Rattle.wl_surface.specs.Surfaces.{Link, Surfaces, link_at}
use Rattle.wl_surface.specs.Trees.{desynchronised_in, in_mode, linked, released_in, unlinked, with_link}
use Rattle.wl_shell.specs.declared.stage.Stage.{Stage}
use Rattle.wl_shell.specs.declared.stage.Stage.TheVariants as stage
use Rattle.wl_shell.specs.Popups.{is_mapped_stage, popped_kind, popped_of, popped_role, popup_changed, with_grab, with_popup, with_popup_role, copying, repositioning}
use Rattle.wl_shell.specs.Shell.{IsPopup, Kind, RoleObject, Toplevel, XdgSurface, acknowledged, acknowledging, configuring, role_acknowledged}
use Rattle.wl_shell.specs.Shell.{Configure, Popup, awaiting, latest_placement, up_to}
use Rattle.wl_shell.specs.Positioner.{Placed, Positioner}
use Rattle.spec_desktop.specs.Changing.{unlinked_at}
use Rattle.spec_desktop.specs.Desktop.{Desktop, Subsurface, owned_in}
use Rattle.spec_desktop.specs.WlSubsurface.{living}
use Rattle.wl_surface.specs.Hanging.{AreNumbered, AreTied}
use Rattle.wl_surface.specs.TreeLaws.{AreOnceLinked}
use Rattle.law_desktop.specs.TreeStepsLaws.{KeepsAll, KeepsOthers}
use Rattle.law_desktop.proofs.TreeSteps.Coming.{link-keeps-all}
use Rattle.law_desktop.proofs.TreeSteps.Ends.{end-keeps-others}
use Rattle.law_desktop.proofs.TreeSteps.Modes.{mode-keeps-all, mode-keeps-others}
use Rattle.law_desktop.specs.Changes.{HasTrees, StaysPainted}
use Rattle.law_desktop.specs.StackedWith.{ChangesAt}
use Rattle.law_desktop.proofs.RootsOf.Alike.{KeepsOne, alike-by, alike-role, keeps-same}
use Rattle.law_desktop.proofs.RootsOf.Kept.{surfaces_in}
use Rattle.law_desktop.proofs.RootsOf.Links.{last-number, unlinked-ended, unlinked-none}
use Rattle.law_desktop.proofs.RootsOf.One.{same-standing}
use Rattle.law_desktop.proofs.RootsOf.Painted.{AreAsStacked, KeepsStacked, keeps-painted}
use Rattle.law_desktop.proofs.RootsOf.Popped.{KeepsPopups}
use Rattle.law_desktop.proofs.RootsOf.Shells.{same-list, shell-touches}
use Rattle.law_desktop.proofs.RootsOf.Trees.{other-tree}

-- ---- changes of xdg_surfaces that nothing is stacked by

as-kind : (x y : XdgSurface) (object : RoleObject) (k : Kind) → AreAsStacked (popped_kind x object k) (popped_kind y object k)
as-kind x y object Toplevel = tt
as-kind x y object (IsPopup popup) = (refl, refl)

as-role : (x y : XdgSurface) (o : Option RoleObject) → AreAsStacked (popped_role x o) (popped_role y o)
as-role x y None = tt
as-role x y (Some object) = as-kind x y object object.kind

pub same-stacked : KeepsStacked (λ x. x)
same-stacked = record { since = λ x. refl; popups = λ x. as-role x x x.role }

pub changed-stacked : (id : ℕ) (change : XdgSurface → XdgSurface) → KeepsStacked change → KeepsStacked (λ x. cond (x.id == id) (change x) x)
changed-stacked id change keeps = record { since = λ x. since x (x.id == id); popups = λ x. popups x (x.id == id) }
  where
    since : (x : XdgSurface) (b : Bool) → (cond b (change x) x).since ≡ x.since
    since x true = keeps.since x
    since x false = refl

    popups : (x : XdgSurface) (b : Bool) → AreAsStacked (popped_of x) (popped_of (cond b (change x) x))
    popups x true = keeps.popups x
    popups x false = as-role x x x.role

-- a configure waits to be acknowledged
pub configuring-keeps : (serial : ℕ) → KeepsPopups (configuring serial)
configuring-keeps serial = record { ids = λ x. refl; surfaces = λ x. refl; alike = λ x. alike-role x (configuring serial x) x.role }

pub configuring-stacked : (serial : ℕ) → KeepsStacked (configuring serial)
configuring-stacked serial = record { since = λ x. refl; popups = λ x. as-role x (configuring serial x) x.role }

-- the latest placement of these waits
abbrev awaiting_those : List Configure → Popup → Popup
awaiting_those configures p = record p { waiting = latest_placement p.waiting configures }

awaited-one : (configures : List Configure) → KeepsOne (awaiting_those configures)
awaited-one configures = record { number = λ p. refl; parent = λ p. refl }

awaited-kind : (configures : List Configure) (k : Kind) → awaiting configures k ≡ with_popup (awaiting_those configures) k
awaited-kind configures Toplevel = refl
awaited-kind configures (IsPopup popup) = refl

-- it is acknowledged
pub acknowledging-keeps : (serial : ℕ) → KeepsPopups (acknowledging serial)
acknowledging-keeps serial = record {
  ids = λ x. refl;
  surfaces = λ x. refl;
  alike = λ x.
      let configures = up_to serial x.configures in
      alike-by x (acknowledging serial x) (role_acknowledged configures) (awaiting_those configures) (awaited-one configures) (λ object. awaited-kind configures object.kind) x.role;
}

acknowledged-mapped : (s : Stage) → is_mapped_stage (acknowledged s) ≡ is_mapped_stage s
acknowledged-mapped stage.Fresh = refl
acknowledged-mapped s = refl

pub acknowledging-stacked : (serial : ℕ) → KeepsStacked (acknowledging serial)
acknowledging-stacked serial = record { since = λ x. refl; popups = λ x. role (up_to serial x.configures) x (acknowledging serial x) x.role }
  where
    kind : (configures : List Configure) (x y : XdgSurface) (object : RoleObject) (k : Kind)
        → AreAsStacked (popped_kind x object k) (popped_kind y (role_acknowledged configures object) (awaiting configures k))
    kind configures x y object Toplevel = tt
    kind configures x y object (IsPopup popup) = (refl, ap (λ b. b && not popup.is_dismissed) (acknowledged-mapped object.stage))

    role : (configures : List Configure) (x y : XdgSurface) (o : Option RoleObject) → AreAsStacked (popped_role x o) (popped_role y (option_map (role_acknowledged configures) o))
    role configures x y None = tt
    role configures x y (Some object) = kind configures x y object object.kind

-- a popup is placed anew: it stands where it stood
copied-one : (positioner : Positioner) → KeepsOne (copying positioner)
copied-one positioner = record { number = λ p. refl; parent = λ p. refl }

pub repositioning-keeps : (b : Bool) (serial : ℕ) (placement : Option Placed) (positioner : Positioner) → KeepsPopups (repositioning b serial placement positioner)
repositioning-keeps true serial placement positioner = record {
  ids = λ x. refl;
  surfaces = λ x. refl;
  alike = λ x. alike-by x (repositioning true serial placement positioner x) (with_popup_role (copying positioner)) (copying positioner) (copied-one positioner) (λ object. refl) x.role;
}
repositioning-keeps false serial placement positioner = record {
  ids = λ x. refl;
  surfaces = λ x. refl;
  alike = λ x. alike-by x (repositioning false serial placement positioner x) (with_popup_role (copying positioner)) (copying positioner) (copied-one positioner) (λ object. refl) x.role;
}

copied-stacked : (positioner : Positioner) (x y : XdgSurface) (o : Option RoleObject) → AreAsStacked (popped_role x o) (popped_role y (option_map (with_popup_role (copying positioner)) o))
copied-stacked positioner x y None = tt
copied-stacked positioner x y (Some object) = at object.kind
  where
    at : (k : Kind) → AreAsStacked (popped_kind x object k) (popped_kind y (with_popup_role (copying positioner) object) (with_popup (copying positioner) k))
    at Toplevel = tt
    at (IsPopup popup) = (refl, refl)

pub repositioning-stacked : (b : Bool) (serial : ℕ) (placement : Option Placed) (positioner : Positioner) → KeepsStacked (repositioning b serial placement positioner)
repositioning-stacked true serial placement positioner =
    record { since = λ x. refl; popups = λ x. copied-stacked positioner x (repositioning true serial placement positioner x) x.role }
repositioning-stacked false serial placement positioner =
    record { since = λ x. refl; popups = λ x. copied-stacked positioner x (repositioning false serial placement positioner x) x.role }

-- a popup takes a grab
grab-one : KeepsOne with_grab
grab-one = record { number = λ p. refl; parent = λ p. refl }

pub grab-keeps : KeepsPopups (popup_changed with_grab)
grab-keeps = record {
  ids = λ x. refl;
  surfaces = λ x. refl;
  alike = λ x. alike-by x (popup_changed with_grab x) (with_popup_role with_grab) with_grab grab-one (λ object. refl) x.role;
}

pub grab-stacked : KeepsStacked (popup_changed with_grab)
grab-stacked = record { since = λ x. refl; popups = λ x. role x (popup_changed with_grab x) x.role }
  where
    kind : (x y : XdgSurface) (object other : RoleObject) → other.stage ≡ object.stage → (k : Kind) → AreAsStacked (popped_kind x object k) (popped_kind y other (with_popup with_grab k))
    kind x y object other same Toplevel = tt
    kind x y object other same (IsPopup popup) = (refl, ap (λ s. is_mapped_stage s && not popup.is_dismissed) same)

    role : (x y : XdgSurface) (o : Option RoleObject) → AreAsStacked (popped_role x o) (popped_role y (option_map (with_popup_role with_grab) o))
    role x y None = tt
    role x y (Some object) = kind x y object (with_popup_role with_grab object) refl object.kind

-- ---- what is left of a client

pub same-keeps : (all : Surfaces) → KeepsAll all all
same-keeps all = record { counts = λ surface. refl; cuts = λ surface. refl; kids = λ number named. refl }

module _ (c : ℕ) (d e : Desktop) (had : HasTrees d) (has : HasTrees e) (others : (other : ℕ) → other ≢ c → owned_in e other ≡ owned_in d other) (stack : e.standing ≡ d.standing)
    (all : Surfaces) (was : (owned_in d c).surfaces ≡ all) where
  -- nothing that counts changes, and of the shell nothing that is stacked
  pub kept-by : (new : Surfaces) → (owned_in e c).surfaces ≡ new → KeepsAll all new → (f : XdgSurface → XdgSurface) → KeepsPopups f → KeepsStacked f
      → (owned_in e c).shell ≡ map f (owned_in d c).shell → StaysPainted d e
  kept-by new left keeps f popups stacks shell =
      keeps-painted c d e had others (subst (λ (x : Surfaces). KeepsAll (surfaces_in d c) x) (sym left) (subst (λ (x : Surfaces). KeepsAll x new) (sym was) keeps)) f popups stacks shell
      stack

  -- or nothing of the shell
  pub kept : (new : Surfaces) → (owned_in e c).surfaces ≡ new → KeepsAll all new → (owned_in e c).shell ≡ (owned_in d c).shell → StaysPainted d e
  kept new left keeps shell = kept-by new left keeps (λ x. x) keeps-same same-stacked (shell ∙ same-list (owned_in d c).shell)

  -- all that don't descend from a surface are kept
  pub tree-kept : (id : ℕ) (new : Surfaces) → (owned_in e c).surfaces ≡ new → KeepsOthers id all new → (owned_in e c).shell ≡ (owned_in d c).shell → ChangesAt (Some id) c d e
  tree-kept id new left keeps shell root t its with =
      same-standing c root d e had.sound has.sound
      (shell-touches c d had root e others (λ x. x) keeps-same (shell ∙ same-list (owned_in d c).shell)
      (other-tree c d e had id root (subst (λ (x : Surfaces). KeepsOthers id (surfaces_in d c) x) (sym left) (subst (λ (x : Surfaces). KeepsOthers id x new) (sym was) keeps)) its)
      (λ x there out. refl)) stack t with

  module _ (shell : (owned_in e c).shell ≡ (owned_in d c).shell) where
    once : AreOnceLinked all.links
    once = subst (λ (x : Surfaces). AreOnceLinked x.links) was (had.once c)

    numbered : AreNumbered all.links
    numbered = subst (λ (x : Surfaces). AreNumbered x.links) was (had.numbered c)

    tied : AreTied all
    tied = subst (λ (x : Surfaces). AreTied x) was (had.tied c)

    -- ---- links

    ended-at : (number : ℕ) (o : Option Link) → link_at number all ≡ o → (owned_in e c).surfaces ≡ unlinked number all
        → ChangesAt (option_map (λ (l : Link). l.child) (option_and_then living o)) c d e
    ended-at number None there left = kept all (left ∙ unlinked-none number all there) (same-keeps all) shell
    ended-at number (Some l) there left = at l.has_ended refl
      where
        at : (b : Bool) → l.has_ended ≡ b → ChangesAt (option_map (λ (k : Link). k.child) (cond b None (Some l))) c d e
        at true ended = kept all (left ∙ unlinked-ended number l all numbered there ended) (same-keeps all) shell
        at false lives = tree-kept l.child (unlinked number all) left (end-keeps-others all once numbered number l there).0 shell

    pub ended : (o : Option Subsurface) → (owned_in e c).surfaces ≡ unlinked_at (option_map (λ (s : Subsurface). s.link) o) all
        → ChangesAt (option_map (λ (l : Link). l.child) (option_and_then (λ (s : Subsurface). option_and_then living (link_at s.link all)) o)) c d e
    ended None left = kept all left (same-keeps all) shell
    ended (Some s) left = ended-at s.link (link_at s.link all) refl left

    pub desynchronised : (number : ℕ) (o : Option Link) → link_at number all ≡ o → (owned_in e c).surfaces ≡ desynchronised_in number all
        → ChangesAt (option_map (λ (l : Link). l.child) o) c d e
    desynchronised number None there left =
        kept (with_link number (in_mode false) all) (left ∙ ap (λ o. released_in o all (with_link number (in_mode false) all)) there) (mode-keeps-all all number false) shell
    desynchronised number (Some l) there left = tree-kept l.child (desynchronised_in number all) left (mode-keeps-others all once number l there) shell

    -- a link's number is new, since it is told apart afterwards
    pub given : (number child parent : ℕ) → (owned_in e c).surfaces ≡ linked number child parent all → StaysPainted d e
    given number child parent left =
        kept (linked number child parent all) left
        (link-keeps-all all tied number child parent
        (last-number all.links (record { number = number; child = child; parent = parent; synchronised = true; has_ended = false })
        (subst (λ (x : Surfaces). AreNumbered x.links) left (has.numbered c)))) shell

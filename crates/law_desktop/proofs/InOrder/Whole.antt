-- What is in order of a client that lives is what the laws of runs keep of it.
use Rattle.std.proofs.Common.{◌≡◌, ◌≤◌, ◌<◌, ℕ, ◌+◌, List, [], Bool, true, Option, Some, None, refl, ap, sym, ◌∙◌, arith}
use Rattle.std.specs.Prelude.{◌==◌, ◌&&◌, is_some}
use Rattle.std.specs.List.{list_any}
use Rattle.std.proofs.lemmas.Bool.{and_from, eqb-true, true≢false}
use Rattle.wl_surface.specs.Hanging.{AreTied}
use Rattle.wl_shell.specs.Shell.{RoleObject, Shell, XdgSurface as Xdg, xdg_of}
use Rattle.spec_desktop.specs.Stacking.{Standing}
use Rattle.spec_desktop.specs.Desktop.{Resident, Subsurface}
use Rattle.spec_desktop.specs.WlSubsurface.{has_subsurface, is_of_child}
use Rattle.law_desktop.specs.Soundness.{IsNoChild}
use Rattle.law_desktop.proofs.Lists.Keys.{any-found, found-any}
use Rattle.law_desktop.proofs.Marks.Stacks.{equal-numbers}
use Rattle.law_desktop.proofs.Soundness.Linked.{forest-trees}
use Rattle.law_desktop.proofs.Soundness.Orderly.{HasObjects, HasRoles, IsForest, IsMapped, IsMappedRole, IsOrderly, StandsSo}
use Rattle.law_desktop.specs.OneBuffer.{HasOneBuffer}
use Rattle.law_desktop.specs.Roots.{AreOwnSubsurfaces, HasSubsurface}
use Rattle.law_desktop.proofs.XdgRoots.Orderly.{forest-apart}
use Rattle.law_desktop.proofs.XdgRoots.Subsurfaces.{AreOwn}
use Rattle.law_desktop.specs.InOrder.{OwnsInOrder, OwnsKnown}
use Rattle.law_desktop.specs.Standing.{AreMappedOnce, HasMappedToplevel, IsMappedToplevel}
use Rattle.law_desktop.proofs.InOrder.Numbers.{AreEarly, AreNumbered as AreNumberedPopups}
use Rattle.law_desktop.proofs.InOrder.Subsurfaces.{AreSubsurfaces}
use Rattle.law_desktop.proofs.Truth.{and-left, and-right}
use Rattle.law_desktop.proofs.ShownSurfaces.Roots.{numbers-apart}

pub record IsWhole (r : Resident) : Type 0 where
  pub objects : HasObjects r
  pub forest : IsForest (r.peer.requests + 1) r.owned.surfaces
  pub hanging : HasRoles r
  pub tied : AreTied r.owned.surfaces
  pub own : AreOwn (r.peer.requests + 1) r.owned.surfaces r.subsurfaces
  pub buffers : HasOneBuffer r
  pub known : OwnsKnown r
  pub subsurfaces : AreSubsurfaces r
  pub apart : AreNumberedPopups r.owned.shell
  pub early : AreEarly r.peer.requests r.owned.shell

-- a client that lives, with its toplevels that stand
abbrev pub Lives : Resident → List Standing → Type 0
Lives r tops = OwnsInOrder r × AreMappedOnce r.owned.shell tops

-- where no toplevels are looked at
pub bare-orderly : (r : Resident) → IsWhole r → IsOrderly (r.peer.requests + 1) r []
bare-orderly r w = record {
  objects = w.objects;
  forest = w.forest;
  roles = w.hanging;
  standing = record { apart = tt; mapped = λ surface there. absurd (true≢false (sym there)) };
}

below-next : (k n : ℕ) → k ≤ n → k < n + 1
below-next k n h = omega (arith, h)

at-most : (k n : ℕ) → k < n + 1 → k ≤ n
at-most k n h = omega (arith, h)

-- ---- toplevels that stand

mapped-so : (o : Option Xdg) → HasMappedToplevel o → IsMapped o
mapped-so None is = absurd is
mapped-so (Some x) is = role x.role is
  where
    role : (o : Option RoleObject) → IsMappedToplevel o → IsMappedRole o
    role None is = absurd is
    role (Some object) is = is

so-mapped : (o : Option Xdg) → IsMapped o → HasMappedToplevel o
so-mapped None is = absurd is
so-mapped (Some x) is = role x.role is
  where
    role : (o : Option RoleObject) → IsMappedRole o → IsMappedToplevel o
    role None is = absurd is
    role (Some object) is = is

-- ---- wl_subsurfaces

named-child : (child : ℕ) (o : Option ℕ) → is_of_child child o ≡ true → o ≡ Some child
named-child child None is = absurd (true≢false (sym is))
named-child child (Some k) is = ap (λ n. Some n) (eqb-true k child is)

module _ (r : Resident) (number child : ℕ) where
  -- the wl_subsurface of this link and of its child
  abbrev names : Subsurface → Bool
  names s = (s.link == number) && is_of_child child s.surface

  has-subsurface : (objects : HasObjects r) → list_any names r.subsurfaces ≡ true → HasSubsurface r number child
  has-subsurface objects any =
      let found = any-found (λ id s. s.id == id) names r.subsurfaces objects.subsurfaces.0 any in
      let at = found.2 found.0.id (equal-numbers found.0.id found.0.id refl) in
      record {
        subsurface = found.0;
        here = at;
        lives = objects.subsurfaces.1 found.0.id
            (found-any (λ s. s.id == found.0.id) (λ s. s.id == found.0.id) r.subsurfaces found.0 at (equal-numbers found.0.id found.0.id refl));
        link = eqb-true found.0.link number (and-left (found.0.link == number) (is_of_child child found.0.surface) found.1);
        surface = named-child child found.0.surface (and-right (found.0.link == number) (is_of_child child found.0.surface) found.1);
      }

  is-of : (h : HasSubsurface r number child) → is_of_child child h.subsurface.surface ≡ true
  is-of h = ap (is_of_child child) h.surface ∙ equal-numbers child child refl

  names-there : HasSubsurface r number child → list_any names r.subsurfaces ≡ true
  names-there h =
      found-any (λ s. s.id == h.subsurface.id) names r.subsurfaces h.subsurface h.here
      (and_from (h.subsurface.link == number) (is_of_child child h.subsurface.surface) (equal-numbers h.subsurface.link number h.link) (is-of h))

  pub child-there : HasSubsurface r number child → has_subsurface child r ≡ true
  child-there h = found-any (λ s. s.id == h.subsurface.id) (λ s. is_of_child child s.surface) r.subsurfaces h.subsurface h.here (is-of h)

-- ---- from what is in order

module _ (r : Resident) (o : OwnsInOrder r) where
  whole-objects : HasObjects r
  whole-objects = record {
    surfaces = o.surfaces;
    subsurfaces = o.known.subsurfaces;
    shell = o.xdg_surfaces;
    toplevels = o.toplevels;
    popups = o.popups;
    callbacks = o.known.callbacks;
  }

  whole-forest : IsForest (r.peer.requests + 1) r.owned.surfaces
  whole-forest = record {
    apart = numbers-apart r.owned.surfaces.links o.numbered;
    early = λ number link here. below-next number r.peer.requests (o.early number link here);
    once = o.trees.once;
    ordered = o.trees.ordered;
    members = λ surface counting number h here has. below-next number r.peer.requests (o.members surface counting number h here has);
    parents = o.trees.parents;
    rank = o.trees.depth;
    rises = λ number link live. let deeper = o.trees.below number link live in omega (arith, deeper);
    low = o.trees.shallow;
  }

  whole-roles : HasRoles r
  whole-roles = record {
    children = λ number link live. o.roles link.child (child-there r number link.child (o.links number link live));
    bare = λ number link live. o.bare link.child (child-there r number link.child (o.links number link live));
    named = λ number link live. names-there r number link.child (o.links number link live);
    apart = o.xdg_apart;
  }

  whole-own : AreOwn (r.peer.requests + 1) r.owned.surfaces r.subsurfaces
  whole-own = record {
    links = o.own.links;
    early = λ number any. below-next number r.peer.requests (o.own.early number any);
    surfaces = o.own.surfaces;
    there = o.own.there;
  }

pub to-whole : (r : Resident) → OwnsInOrder r → IsWhole r
to-whole r o =
    record {
      objects = whole-objects r o;
      forest = whole-forest r o;
      hanging = whole-roles r o;
      tied = o.tied;
      own = whole-own r o;
      buffers = o.buffers;
      known = o.known;
      subsurfaces = record { roles = o.roles; bare = o.bare };
      apart = o.popups_apart;
      early = o.popups_early;
    }

pub to-stands : (shell : Shell) (tops : List Standing) → AreMappedOnce shell tops → StandsSo shell tops
to-stands shell tops are = record { apart = are.apart; mapped = λ surface stands. mapped-so (xdg_of surface shell) (are.mapped surface stands) }

-- ---- to it

pub of-stands : (shell : Shell) (tops : List Standing) → StandsSo shell tops → AreMappedOnce shell tops
of-stands shell tops so = record { apart = so.apart; mapped = λ surface stands. so-mapped (xdg_of surface shell) (so.mapped surface stands) }

pub of-whole : (r : Resident) → IsWhole r → OwnsInOrder r
of-whole r w =
    record {
      known = w.known;
      buffers = w.buffers;
      tied = w.tied;
      trees = forest-trees (r.peer.requests + 1) r.owned.surfaces w.forest;
      numbered = (forest-apart (r.peer.requests + 1) r.owned.surfaces w.forest).0;
      once = (forest-apart (r.peer.requests + 1) r.owned.surfaces w.forest).1;
      early = λ number link here. at-most number r.peer.requests (w.forest.early number link here);
      members = λ surface counting number h here has. at-most number r.peer.requests (w.forest.members surface counting number h here has);
      own = own;
      links = λ number link live. has-subsurface r number link.child w.objects (w.hanging.named number link live);
      roles = w.subsurfaces.roles;
      bare = w.subsurfaces.bare;
      roots = roots;
      surfaces = w.objects.surfaces;
      xdg_surfaces = w.objects.shell;
      toplevels = w.objects.toplevels;
      popups = w.objects.popups;
      xdg_apart = w.hanging.apart;
      popups_apart = w.apart;
      popups_early = w.early;
    }
  where
    own : AreOwnSubsurfaces r
    own = record {
      ids = w.objects.subsurfaces.0;
      links = w.own.links;
      surfaces = w.own.surfaces;
      early = λ number any. at-most number r.peer.requests (w.own.early number any);
      there = w.own.there;
    }

    roots : (surface : ℕ) → is_some (xdg_of surface r.owned.shell) ≡ true → IsNoChild surface r.owned.surfaces
    roots surface has number link live same =
        true≢false (sym has ∙ ap is_some (ap (λ n. xdg_of n r.owned.shell) (sym same) ∙ w.hanging.bare number link live))

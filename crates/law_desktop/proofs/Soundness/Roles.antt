-- Children stay subsurfaces, each known by its wl_subsurface, after each message too.
use Rattle.std.proofs.Common.{◌≡◌, ◌≢◌, ℕ, List, [], ◌∷◌, ◌++◌, Bool, true, false, Option, Some, None, cond, map, refl, ap, sym, subst, ◌∙◌, inl, inr}
use Rattle.std.specs.Prelude.{◌==◌, ◌&&◌, ◌||◌, is_some, not, find, filter, ◌⊎◌}
use Rattle.std.specs.List.{list_any}
use Rattle.std.specs.Option.{option_and_then, option_map, option_map_or}
use Rattle.std.proofs.lemmas.Bool.{and_from, eqb-true, false_from_ne_true, ne_eqb, or_left, or_right, true≢false}
use Rattle.std.proofs.lemmas.Option.{none-some}
use Rattle.wl_surface.specs.Surface.{Surface, with_role, new_surface}
use Rattle.wl_surface.specs.Surfaces.{Link, Surfaces, surface_at, with_new as with_new_surface, with_change as with_surface_change}
use Rattle.wl_surface.specs.declared.role.Role.{Role}
use Rattle.wl_surface.specs.declared.role.Role.TheVariants.{Subsurface as AsSubsurface, Toplevel as AsToplevel, Popup as AsPopup, Cursor as AsCursor}
use Rattle.wl_shell.specs.Popups.{Popped, dismiss, dismissed_among, dismissed_with, dismissing, is_among, is_parent_of, new_popup, orphan, orphaning, popup_changed, with_grab}
use Rattle.wl_shell.specs.Shell.{Shell, XdgSurface, with_change, without_xdg, xdg_at, xdg_of, new_toplevel, with_new, Configures, Effect, Mapped, Maps, Stays, Unconfigured, Unmaps, acknowledging}
use Rattle.wl_shell.specs.Shell.{configuring, in_stage, without_role}
use Rattle.spec_desktop.specs.Stacking.{Owned}
use Rattle.spec_desktop.specs.Desktop.{Resident, Subsurface, Desktop}
use Rattle.law_desktop.specs.Apart.{AreApartBy}
use Rattle.law_desktop.specs.Soundness.{IsLive}
use Rattle.spec_desktop.specs.Step.{with_shell, with_surfaces, xdg_changed, asked_so_far, toplevel_given, changed_by}
use Rattle.spec_desktop.specs.WlSubsurface.{is_of_child}
use Rattle.spec_desktop.specs.XdgShell.{role_of, is_foreign}
use Rattle.law_desktop.proofs.Soundness.Orderly.{HasRoles, KeepsLinks, KeepsTrees, role_in, IsForest, HasObjects, IsAllowed, IsAsked}
use Rattle.law_desktop.proofs.Lists.Keys.{apart-left, apart-map, found-map, none-left, found-fails, found-passes, new-apart, new-elsewhere, any-found, found-any}
use Rattle.spec_desktop.specs.Changing.{Placing, placement_now, popup_given_to, link_with_id, subsurface_ended, subsurface_given, surface_ended, without_child, changed_for, commit_done, drawing, effect_placing, frame_asked}
use Rattle.spec_desktop.specs.Changing.{grab_allowed, grabbed, has_focus, in_rising_order, mode_set, pointer_given, popup_given, toplevel_ended, tree_committed}
use Rattle.wl_shell.specs.Positioner.{Positioner}
use Rattle.spec_desktop.specs.WlPointer.{is_no_cursor}
use Rattle.law_desktop.proofs.Lists.Surfaces.{has_id}
use Rattle.law_desktop.proofs.Lists.Surfaces.{changed-found}
use Rattle.law_desktop.proofs.Marks.Stacks.{equal-numbers}
use Rattle.law_desktop.proofs.Soundness.Standing.{arriving-surface, found-first, found-kept, repositioned-surface}
use Rattle.wl_surface.specs.Trees.{linked}
use Rattle.wl_surface.specs.Request.{AddChild, Frame}
use Rattle.law_desktop.proofs.Soundness.Moves.{destroyed-live, destroyed-role, links-destroyed, same-links, trees-asked, trees-committed, trees-desynchronised, trees-synchronised, trees-unlinked, unlinked-live}
use Rattle.law_desktop.proofs.Soundness.Linked.{linked-live}
use Rattle.law_desktop.proofs.Lists.Standings.{any-last}
use Rattle.law_desktop.proofs.Truth.{and-left, and-right}
use Rattle.spec_desktop.specs.Demanding.{effect_of_commit}
use Rattle.spec_desktop.specs.Ask.{Ask, Own, CreateSurface, AskSurface, EndObject, GetXdgSurface, DestroyXdgSurface, GetToplevel, Acknowledge, ConfigureAgain, Ignore}
use Rattle.spec_desktop.specs.Demand.{Demand, Asks, EndSurface, AskFrame, CommitTree, GetSubsurface, EndSubsurface, SetMode, GetPointer, MakeCursor}
use Rattle.spec_desktop.specs.Demand.{GetPopup, Grab, EndPopup, EndToplevel, Move}
use Rattle.wl_shell.specs.Popups.{arriving, copying, is_configured, popup_at, repositioning, waiting_in}
use Rattle.spec_desktop.specs.Changing.{popup_repositioned}
use Rattle.spec_desktop.specs.Demand.{Reposition}

-- ---- what is kept

abbrev pub has_surface : ℕ → XdgSurface → Bool
has_surface surface x = x.surface == surface

-- the wl_subsurface of this link and this surface
abbrev pub names_child : ℕ → ℕ → Subsurface → Bool
names_child number child s = (s.link == number) && is_of_child child s.surface

pub trees-same : (all : Surfaces) → KeepsTrees all all
trees-same all = record { links = same-links all all refl; surfaces = record { there = λ id. refl; roles = λ id. refl } }

abbrev pub StaysChild : Resident → Resident → ℕ → Type 0
StaysChild r q child = role_of r child ≡ Some AsSubsurface → xdg_of child r.owned.shell ≡ None → (role_of q child ≡ Some AsSubsurface) × (xdg_of child q.owned.shell ≡ None)

pub roles-step :
    (r q : Resident) → KeepsLinks r.owned.surfaces q.owned.surfaces → ((n : ℕ) (link : Link) → IsLive n link q.owned.surfaces → StaysChild r q link.child)
    → ((n : ℕ) (link : Link) → IsLive n link q.owned.surfaces → list_any (names_child n link.child) r.subsurfaces ≡ true → list_any (names_child n link.child) q.subsurfaces ≡ true)
    → AreApartBy has_surface q.owned.shell → HasRoles r → HasRoles q
roles-step r q links stays names apart has = record {
  children = λ n link live. (both n link live).0;
  bare = λ n link live. (both n link live).1;
  named = λ n link live.
      let old = links n link live in
      names n link live (subst (λ child. list_any (names_child n child) r.subsurfaces ≡ true) old.2 (has.named n old.0 old.1));
  apart = apart;
}
  where
    both : (n : ℕ) (link : Link) → IsLive n link q.owned.surfaces → (role_of q link.child ≡ Some AsSubsurface) × (xdg_of link.child q.owned.shell ≡ None)
    both n link live =
        let old = links n link live in
        stays n link live (subst (λ child. role_of r child ≡ Some AsSubsurface) old.2 (has.children n old.0 old.1)) (subst (λ child. xdg_of child r.owned.shell ≡ None) old.2 (has.bare n old.0 old.1))

pub roles-same : (r q : Resident) → q.owned ≡ r.owned → q.subsurfaces ≡ r.subsurfaces → HasRoles r → HasRoles q
roles-same r q same names has =
    roles-step r q (same-links r.owned.surfaces q.owned.surfaces (ap (λ (o : Owned). o.surfaces.links) same))
    (λ n link live role bare. (ap (λ (o : Owned). role_in link.child o.surfaces) same ∙ role, ap (λ (o : Owned). xdg_of link.child o.shell) same ∙ bare))
    (λ n link live named. ap (list_any (names_child n link.child)) names ∙ named)
    (subst (λ (o : Owned). AreApartBy has_surface o.shell) (sym same) has.apart) has

-- the xdg_surfaces that were there are of surfaces of their own, and no other surface gets one
pub record KeepsShell (old new : Shell) : Type 0 where
  pub none : (surface : ℕ) → xdg_of surface old ≡ None → xdg_of surface new ≡ None
  pub apart : AreApartBy has_surface old → AreApartBy has_surface new

pub roles-trees : (r q : Resident) → KeepsTrees r.owned.surfaces q.owned.surfaces → KeepsShell r.owned.shell q.owned.shell → q.subsurfaces ≡ r.subsurfaces → HasRoles r → HasRoles q
roles-trees r q trees shell names has =
    roles-step r q trees.links (λ n link live role bare. (trees.surfaces.roles link.child ∙ role, shell.none link.child bare)) (λ n link live named. ap (list_any (names_child n link.child)) names
    ∙ named) (shell.apart has.apart) has

-- ---- the shell

pub shell-same : (shell : Shell) → KeepsShell shell shell
shell-same shell = record { none = λ surface e. e; apart = λ a. a }

pub shell-more : (a b c : Shell) → KeepsShell a b → KeepsShell b c → KeepsShell a c
shell-more a b c f g = record { none = λ surface e. g.none surface (f.none surface e); apart = λ e. g.apart (f.apart e) }

pub shell-map : (f : XdgSurface → XdgSurface) (shell : Shell) → ((x : XdgSurface) → (f x).surface ≡ x.surface) → KeepsShell shell (map f shell)
shell-map f shell keeps = record {
  none = λ surface e. found-map (has_surface surface) f shell (λ x. ap (λ n. n == surface) (keeps x)) ∙ ap (option_map f) e;
  apart = λ e. apart-map has_surface f shell (λ key x. ap (λ n. n == key) (keeps x)) e;
}

changed-surface : (change : XdgSurface → XdgSurface) → ((x : XdgSurface) → (change x).surface ≡ x.surface) → (x : XdgSurface) (b : Bool) → (cond b (change x) x).surface ≡ x.surface
changed-surface change keeps x true = keeps x
changed-surface change keeps x false = refl

pub shell-changed : (id : ℕ) (change : XdgSurface → XdgSurface) (shell : Shell) → ((x : XdgSurface) → (change x).surface ≡ x.surface) → KeepsShell shell (with_change id change shell)
shell-changed id change shell keeps = shell-map (λ x. cond (x.id == id) (change x) x) shell (λ x. changed-surface change keeps x (x.id == id))

pub shell-without : (id : ℕ) (shell : Shell) → KeepsShell shell (without_xdg id shell)
shell-without id shell = record {
  none = λ surface e. none-left (has_surface surface) (λ x. not (x.id == id)) shell e;
  apart = λ e. apart-left has_surface (λ x. not (x.id == id)) shell e;
}

pub shell-dismissed : (is : Popped → Bool) (shell : Shell) → KeepsShell shell (dismissing is shell)
shell-dismissed is shell = shell-map (dismissed_among (dismissed_with is shell)) shell (λ x. changed-surface (popup_changed dismiss) (λ y. refl) x (is_among x.id (dismissed_with is shell)))

pub shell-orphaned : (xdg : ℕ) (shell : Shell) → KeepsShell shell (orphaning xdg shell)
shell-orphaned xdg shell = shell-map (popup_changed (orphan xdg)) shell (λ x. refl)

-- the xdg_surfaces change
pub roles-shell : (r : Resident) (shell : Shell) → KeepsShell r.owned.shell shell → HasRoles r → HasRoles (with_shell shell r)
roles-shell r shell keeps has = roles-trees r (with_shell shell r) (trees-same r.owned.surfaces) keeps refl has

pub roles-dismissed : (is : Popped → Bool) (r : Resident) → HasRoles r → HasRoles (with_shell (dismissing is r.owned.shell) r)
roles-dismissed is r has = roles-shell r (dismissing is r.owned.shell) (shell-dismissed is r.owned.shell) has

-- ---- a surface gets a role

-- one with a role is there
with-role : (P : Type 0) (role : Role) (o : Option Surface) → option_and_then (λ s. s.role) o ≡ Some role → ((s : Surface) → o ≡ Some s → s.role ≡ Some role → P) → P
with-role P role None e f = absurd (none-some role e)
with-role P role (Some s) e f = f s refl e

module _ (id : ℕ) (role : Role) (all : Surfaces) where
  role-found : (other : ℕ) (s : Surface) → surface_at other all ≡ Some s → surface_at other (with_surface_change id (with_role role) all) ≡ Some (cond (s.id == id) (with_role role s) s)
  role-found other s found = changed-found id (with_role role) (λ s. refl) all other ∙ ap (option_map (λ (s : Surface). cond (s.id == id) (with_role role s) s)) found

  role-kept : (s : Surface) (b : Bool) → s.role ≡ Some role → (cond b (with_role role s) s).role ≡ Some role
  role-kept s true e = refl
  role-kept s false e = e

  -- one that had it has it
  pub role-still : (other : ℕ) → role_in other all ≡ Some role → role_in other (with_surface_change id (with_role role) all) ≡ Some role
  role-still other e =
      with-role (role_in other (with_surface_change id (with_role role) all) ≡ Some role) role (surface_at other all) e
      (λ s found is. ap (option_and_then (λ (s : Surface). s.role)) (role-found other s found) ∙ role-kept s (s.id == id) is)

  -- others keep theirs
  pub role-else : (other : ℕ) (old : Role) → id ≢ other → role_in other all ≡ Some old → role_in other (with_surface_change id (with_role role) all) ≡ Some old
  role-else other old apart e =
      with-role (role_in other (with_surface_change id (with_role role) all) ≡ Some old) old (surface_at other all) e
      (λ s found is.
      ap (option_and_then (λ (s : Surface). s.role)) (role-found other s found)
      ∙ ap (λ b. (cond b (with_role role s) s).role) (ne_eqb s.id id (λ same. apart (sym same ∙ eqb-true s.id other (found-passes (has_id other) all.surfaces s found))))
      ∙ is)

  -- it has it
  pub role-now : is_some (surface_at id all) ≡ true → role_in id (with_surface_change id (with_role role) all) ≡ Some role
  role-now there = at (surface_at id all) refl there
    where
      at : (o : Option Surface) → surface_at id all ≡ o → is_some o ≡ true → role_in id (with_surface_change id (with_role role) all) ≡ Some role
      at None found e = absurd (true≢false (sym e))
      at (Some s) found e =
          ap (option_and_then (λ (s : Surface). s.role)) (role-found id s found) ∙ ap (λ b. (cond b (with_role role s) s).role) (found-passes (has_id id) all.surfaces s found)

-- a surface that is no child gets a role
pub roles-given :
    (surface : ℕ) (role : Role) (r : Resident) → ((child : ℕ) → role_of r child ≡ Some AsSubsurface → xdg_of child r.owned.shell ≡ None → surface ≢ child) → HasRoles r
    → HasRoles (with_surfaces (with_surface_change surface (with_role role) r.owned.surfaces) r)
roles-given surface role r apart has =
    roles-step r (with_surfaces (with_surface_change surface (with_role role) r.owned.surfaces) r) (same-links r.owned.surfaces (with_surface_change surface (with_role role) r.owned.surfaces) refl)
    (λ n link live is bare. (role-else surface role r.owned.surfaces link.child AsSubsurface (apart link.child is bare) is, bare)) (λ n link live named. named) has.apart has

-- an xdg_surface that is there is of another
pub no-child : (id child : ℕ) (shell : Shell) (x : XdgSurface) → xdg_at id shell ≡ Some x → xdg_of child shell ≡ None → x.surface ≢ child
no-child id child shell x found none same = true≢false (sym (equal-numbers x.surface child same) ∙ found-fails (has_surface child) (λ x. x.id == id) shell x found none)

pub cursor-not : (o : Option Role) → is_no_cursor o ≡ false → o ≡ Some AsSubsurface → ⊥
cursor-not o none is = true≢false (sym (ap is_no_cursor is) ∙ none)

pub foreign-not : (o : Option Role) → is_foreign o ≡ false → o ≡ Some AsSubsurface → ⊥
foreign-not o none is = true≢false (sym (ap is_foreign is) ∙ none)

pub roles-cursor : (surface : ℕ) (r : Resident) → is_no_cursor (role_of r surface) ≡ false → HasRoles r → HasRoles (with_surfaces (with_surface_change surface (with_role AsCursor) r.owned.surfaces) r)
roles-cursor surface r none has = roles-given surface AsCursor r (λ child is bare same. cursor-not (role_of r surface) none (ap (role_of r) same ∙ is)) has

-- the surface of an xdg_surface gets a role, and its xdg_surface a role object
pub roles-object :
    (xdg : ℕ) (role : Role) (change : XdgSurface → XdgSurface) (r : Resident) (x : XdgSurface) → xdg_at xdg r.owned.shell ≡ Some x → ((y : XdgSurface) → (change y).surface ≡ y.surface) → HasRoles r
    → HasRoles (xdg_changed xdg change (with_surfaces (with_surface_change x.surface (with_role role) r.owned.surfaces) r))
roles-object xdg role change r x found keeps has =
    roles-shell (with_surfaces (with_surface_change x.surface (with_role role) r.owned.surfaces) r) (with_change xdg change r.owned.shell) (shell-changed xdg change r.owned.shell keeps)
    (roles-given x.surface role r (λ child is bare. no-child xdg child r.owned.shell x found bare) has)

pub roles-toplevel : (id xdg : ℕ) (r : Resident) → HasRoles r → HasRoles (toplevel_given id xdg (xdg_at xdg r.owned.shell) r)
roles-toplevel id xdg r has = at (xdg_at xdg r.owned.shell) refl
  where
    at : (o : Option XdgSurface) → xdg_at xdg r.owned.shell ≡ o → HasRoles (toplevel_given id xdg o r)
    at None found = has
    at (Some x) found = roles-object xdg AsToplevel (new_toplevel id (asked_so_far x.surface r)) r x found (λ y. refl) has

pub roles-popup : (id xdg parent : ℕ) (p : Positioner) (r : Resident) → HasRoles r → HasRoles (popup_given_to id xdg parent p (xdg_at xdg r.owned.shell) r)
roles-popup id xdg parent p r has = at (xdg_at xdg r.owned.shell) refl
  where
    at : (o : Option XdgSurface) → xdg_at xdg r.owned.shell ≡ o → HasRoles (popup_given_to id xdg parent p o r)
    at None found = has
    at (Some x) found = roles-object xdg AsPopup (new_popup id parent p r.peer.requests (asked_so_far x.surface r)) r x found (λ y. refl) has

-- ---- a surface or an xdg_surface comes

pub roles-created : (id : ℕ) (r : Resident) → HasRoles r → HasRoles (with_surfaces (with_new_surface id r.owned.surfaces) r)
roles-created id r has =
    roles-step r (with_surfaces (with_new_surface id r.owned.surfaces) r) (same-links r.owned.surfaces (with_new_surface id r.owned.surfaces) refl)
    (λ n link live is bare. (
      with-role (role_in link.child (with_new_surface id r.owned.surfaces) ≡ Some AsSubsurface) AsSubsurface (surface_at link.child r.owned.surfaces) is
          (λ s found role. ap (option_and_then (λ (s : Surface). s.role)) (found-first (has_id link.child) r.owned.surfaces.surfaces (new_surface id) s found) ∙ role),
      bare,
    )) (λ n link live named. named) has.apart has

pub roles-shelled : (id base surface : ℕ) (r : Resident) → is_foreign (role_of r surface) ≡ false → xdg_of surface r.owned.shell ≡ None → HasRoles r
    → HasRoles (with_shell (with_new id base surface r.owned.shell) r)
roles-shelled id base surface r foreign none has =
    roles-step r (with_shell (with_new id base surface r.owned.shell) r) (same-links r.owned.surfaces r.owned.surfaces refl)
    (λ n link live is bare. (
      is,
      new-elsewhere (has_surface link.child) r.owned.shell one (ne_eqb surface link.child (λ same. foreign-not (role_of r surface) foreign (ap (role_of r) same ∙ is)))
          ∙ bare,
    ))
    (λ n link live named. named) (new-apart has_surface r.owned.shell one (λ key is. ap (λ k. xdg_of k r.owned.shell) (sym (eqb-true surface key is)) ∙ none) has.apart) has
  where
    one : XdgSurface
    one = record { id = id; base = base; surface = surface; role = None; configures = []; since = 0 }

-- ---- a wl_subsurface comes

-- the new link alone
abbrev with_link_more : ℕ → ℕ → ℕ → Surfaces → Surfaces
with_link_more number child parent all = record all { links = all.links ++ record { number = number; child = child; parent = parent; synchronised = true; has_ended = false } ∷ [] }

pub linked-role : (number child parent id : ℕ) (all : Surfaces) → role_in id all ≡ Some AsSubsurface → role_in id (linked number child parent all) ≡ Some AsSubsurface
linked-role number child parent id all e =
    (trees-asked parent (AddChild number) (with_surface_change child (with_role AsSubsurface) (with_link_more number child parent all))).surfaces.roles id
    ∙ role-still child AsSubsurface (with_link_more number child parent all) id e

pub linked-child : (number child parent : ℕ) (all : Surfaces) → is_some (surface_at child all) ≡ true → role_in child (linked number child parent all) ≡ Some AsSubsurface
linked-child number child parent all there =
    (trees-asked parent (AddChild number) (with_surface_change child (with_role AsSubsurface) (with_link_more number child parent all))).surfaces.roles child
    ∙ role-now child AsSubsurface (with_link_more number child parent all) there

-- one more wl_subsurface, by the number of its link
abbrev new_subsurface : ℕ → ℕ → ℕ → Subsurface
new_subsurface id number child = record { id = id; link = number; surface = Some child }

names-still : (id number child n surface : ℕ) (ss : List Subsurface) → list_any (names_child n surface) ss ≡ true → list_any (names_child n surface) (ss ++ new_subsurface id number child ∷ []) ≡ true
names-still id number child n surface ss named = any-last (names_child n surface) ss (new_subsurface id number child)
    ∙ or_left (list_any (names_child n surface) ss) (names_child n surface (new_subsurface id number child)) named

names-new : (id number child n surface : ℕ) (ss : List Subsurface) → n ≡ number → surface ≡ child → list_any (names_child n surface) (ss ++ new_subsurface id number child ∷ []) ≡ true
names-new id number child n surface ss here same =
    any-last (names_child n surface) ss (new_subsurface id number child)
    ∙ or_right (list_any (names_child n surface) ss) (names_child n surface (new_subsurface id number child)) (and_from (number == n) (child == surface) (equal-numbers number n (sym here))
    (equal-numbers child surface (sym same)))

pub roles-subsurface :
    (id version child parent : ℕ) (r : Resident) → is_some (surface_at child r.owned.surfaces) ≡ true → xdg_of child r.owned.shell ≡ None → IsForest r.peer.requests r.owned.surfaces → HasRoles r
    → HasRoles (subsurface_given id version child parent r)
roles-subsurface id version child parent r there none forest has = record {
  children = λ n link live. children n link (linked-live r.peer.requests child parent n link r.owned.surfaces forest live);
  bare = λ n link live. bare n link (linked-live r.peer.requests child parent n link r.owned.surfaces forest live);
  named = λ n link live. named n link (linked-live r.peer.requests child parent n link r.owned.surfaces forest live);
  apart = has.apart;
}
  where
    IsEither : ℕ → Link → Type 0
    IsEither n link = ((n ≡ r.peer.requests) × (link.child ≡ child) × (link.parent ≡ parent)) ⊎ IsLive n link r.owned.surfaces

    children : (n : ℕ) (link : Link) → IsEither n link → role_in link.child (linked r.peer.requests child parent r.owned.surfaces) ≡ Some AsSubsurface
    children n link (inl e) = ap (λ k. role_in k (linked r.peer.requests child parent r.owned.surfaces)) e.1 ∙ linked-child r.peer.requests child parent r.owned.surfaces there
    children n link (inr live) = linked-role r.peer.requests child parent link.child r.owned.surfaces (has.children n link live)

    bare : (n : ℕ) (link : Link) → IsEither n link → xdg_of link.child r.owned.shell ≡ None
    bare n link (inl e) = ap (λ k. xdg_of k r.owned.shell) e.1 ∙ none
    bare n link (inr live) = has.bare n link live

    named : (n : ℕ) (link : Link) → IsEither n link → list_any (names_child n link.child) (r.subsurfaces ++ new_subsurface id r.peer.requests child ∷ []) ≡ true
    named n link (inl e) = names-new id r.peer.requests child n link.child r.subsurfaces e.0 e.1
    named n link (inr live) = names-still id r.peer.requests child n link.child r.subsurfaces (has.named n link live)

-- ---- a wl_subsurface goes

-- what is of another link is left
names-left :
    (id n child : ℕ) (ss : List Subsurface) → AreApartBy (λ id s. s.id == id) ss → Some n ≢ option_map (λ s. s.link) (find (λ s. s.id == id) ss) → list_any (names_child n child) ss ≡ true
    → list_any (names_child n child) (filter (λ s. not (s.id == id)) ss) ≡ true
names-left id n child ss apart other any = at (any-found (λ id s. s.id == id) (names_child n child) ss apart any)
  where
    at : (s : Subsurface) × (names_child n child s ≡ true) × ((key : ℕ) → (s.id == key) ≡ true → find (λ s. s.id == key) ss ≡ Some s)
        → list_any (names_child n child) (filter (λ s. not (s.id == id)) ss) ≡ true
    at one =
        let not_it : (one.0.id == id) ≡ false = false_from_ne_true (one.0.id == id)
        (λ same. other (ap (λ k. Some k) (sym (eqb-true one.0.link n (and-left (one.0.link == n) (is_of_child child one.0.surface) one.1)))
        ∙ sym (ap (λ (o : Option Subsurface). option_map (λ s. s.link) o) (one.2 id same)))) in
        found-any (λ s. s.id == one.0.id) (names_child n child) (filter (λ s. not (s.id == id)) ss) one.0
        (found-kept (λ s. s.id == one.0.id) (λ s. not (s.id == id)) ss one.0 (one.2 one.0.id (equal-numbers one.0.id one.0.id refl)) (ap (λ b. not b) not_it)) one.1

pub roles-unlinked :
    (id : ℕ) (r : Resident) → AreApartBy (λ id s. s.id == id) r.subsurfaces → AreApartBy (λ number l. l.number == number) r.owned.surfaces.links → HasRoles r → HasRoles (subsurface_ended id r)
roles-unlinked id r apart links has =
    roles-step r (subsurface_ended id r) (trees-unlinked (link_with_id id r) r.owned.surfaces).links
    (λ n link live is bare. ((trees-unlinked (link_with_id id r) r.owned.surfaces).surfaces.roles link.child ∙ is, bare))
    (λ n link live named. names-left id n link.child r.subsurfaces apart (unlinked-live (link_with_id id r) n link r.owned.surfaces links live) named) has.apart has

-- ---- a surface goes

any-map : {X : Type 0} (p : X → Bool) (f : X → X) → ((x : X) → p x ≡ true → p (f x) ≡ true) → (xs : List X) → list_any p xs ≡ true → list_any p (map f xs) ≡ true
any-map p f keeps [] any = any
any-map p f keeps (x ∷ xs) any = at (p x) refl any (any-map p f keeps xs)
  where
    at : (b : Bool) → p x ≡ b → (b || list_any p xs) ≡ true → (list_any p xs ≡ true → list_any p (map f xs) ≡ true) → (p (f x) || list_any p (map f xs)) ≡ true
    at true e any rest = or_left (p (f x)) (list_any p (map f xs)) (keeps x e)
    at false e any rest = or_right (p (f x)) (list_any p (map f xs)) (rest any)

-- a wl_subsurface of another surface isn't made inert
child-else : (surface child : ℕ) (o : Option ℕ) → child ≢ surface → is_of_child child o ≡ true → option_map_or (λ k. k == surface) o false ≡ false
child-else surface child None other is = refl
child-else surface child (Some k) other is = ne_eqb k surface (λ same. other (sym (eqb-true k child is) ∙ same))

names-inert : (surface n child : ℕ) → child ≢ surface → (s : Subsurface) → names_child n child s ≡ true → names_child n child (without_child surface s) ≡ true
names-inert surface n child other s is =
    ap (λ b. names_child n child (cond b (record s { surface = None }) s)) (child-else surface child s.surface other (and-right (s.link == n) (is_of_child child s.surface) is)) ∙ is

pub roles-destroyed : (surface : ℕ) (r : Resident) → AreApartBy (λ number l. l.number == number) r.owned.surfaces.links → HasRoles r → HasRoles (surface_ended surface r)
roles-destroyed surface r links has =
    roles-step r (surface_ended surface r) (links-destroyed surface r.owned.surfaces)
    (λ n link live is bare. (destroyed-role surface link.child r.owned.surfaces (destroyed-live surface n link r.owned.surfaces links live).0 ∙ is, bare))
    (λ n link live named. any-map (names_child n link.child) (without_child surface) (names-inert surface n link.child (destroyed-live surface n link r.owned.surfaces links live).0) r.subsurfaces
    named) has.apart has

-- ---- a commit

roles-effect : (where_to : Placing) (surface : ℕ) (effect : Effect) (o : Option XdgSurface) (r : Resident) → HasRoles r → HasRoles (effect_placing where_to surface effect o r)
roles-effect where_to surface effect None r has = has
roles-effect where_to surface Stays (Some x) r has = roles-shell r _ (shell-changed x.id (λ y. arriving (waiting_in y.role) y) r.owned.shell (λ y. arriving-surface (waiting_in y.role) y)) has
roles-effect where_to surface Unconfigured (Some x) r has = roles-shell r (with_change x.id (λ y. y) r.owned.shell) (shell-changed x.id (λ y. y) r.owned.shell (λ y. refl)) has
roles-effect where_to surface Configures (Some x) r has =
    roles-trees r (effect_placing where_to surface Configures (Some x) r) (trees-same r.owned.surfaces) (shell-changed x.id _ r.owned.shell (λ y. refl)) refl has
roles-effect where_to surface Maps (Some x) r has =
    roles-shell r _ (shell-changed x.id (λ y. in_stage Mapped (arriving (waiting_in y.role) y)) r.owned.shell (λ y. arriving-surface (waiting_in y.role) y)) has
roles-effect where_to surface Unmaps (Some x) r has = roles-shell r _ (shell-changed x.id _ r.owned.shell (λ y. refl)) has

pub roles-committed : (c surface : ℕ) (r : Resident) (d : Desktop) → HasRoles r → HasRoles (commit_done c surface r d)
roles-committed c surface r d has =
    roles-effect (placement_now c r d) surface (effect_of_commit r surface) (xdg_of surface r.owned.shell) (tree_committed surface r)
    (roles-trees r (tree_committed surface r) (trees-committed surface r.owned.surfaces) (shell-same r.owned.shell) refl has)

-- ---- all messages

roles-changed : (id : ℕ) (change : XdgSurface → XdgSurface) (r : Resident) → ((x : XdgSurface) → (change x).surface ≡ x.surface) → HasRoles r → HasRoles (xdg_changed id change r)
roles-changed id change r keeps has = roles-shell r (with_change id change r.owned.shell) (shell-changed id change r.owned.shell keeps) has

roles-grabbed : (b : Bool) (xdg : ℕ) (r : Resident) → HasRoles r → HasRoles (grabbed b xdg r)
roles-grabbed true xdg r has = roles-changed xdg (popup_changed with_grab) r (λ x. refl) has
roles-grabbed false xdg r has = roles-dismissed (λ p. p.xdg.id == xdg) r has

roles-drawn : (b : Bool) (r : Resident) → HasRoles r → HasRoles (drawing b r)
roles-drawn true r has = roles-same r (drawing true r) refl refl has
roles-drawn false r has = has

roles-repositioned : (where_to : Placing) (p : Positioner) (o : Option Popped) (r : Resident) → HasRoles r → HasRoles (popup_repositioned where_to p o r)
roles-repositioned where_to p None r has = has
roles-repositioned where_to p (Some q) r has =
    let change : XdgSurface → XdgSurface = repositioning (is_configured q) r.peer.serial (where_to (copying p q.popup)) p in
    roles-drawn (is_configured q) (xdg_changed q.xdg.id change r)
    (roles-changed q.xdg.id change r (repositioned-surface (is_configured q) r.peer.serial (where_to (copying p q.popup)) p) has)

roles-ended : (id xdg : ℕ) (r : Resident) → HasRoles r → HasRoles (toplevel_ended id xdg r)
roles-ended id xdg r has =
    roles-trees r (toplevel_ended id xdg r) (trees-same r.owned.surfaces)
    (shell-more r.owned.shell (orphaning xdg dismissed) (with_change xdg without_role (orphaning xdg dismissed))
    (shell-more r.owned.shell dismissed (orphaning xdg dismissed) (shell-dismissed (λ p. is_parent_of xdg p.popup) r.owned.shell) (shell-orphaned xdg dismissed))
    (shell-changed xdg without_role (orphaning xdg dismissed) (λ x. refl))) refl has
  where
    dismissed : Shell
    dismissed = dismissing (λ p. is_parent_of xdg p.popup) r.owned.shell

roles-mode : (link : ℕ) (synchronised : Bool) (r : Resident) → HasRoles r → HasRoles (mode_set link synchronised r)
roles-mode link true r has = roles-trees r (mode_set link true r) (trees-synchronised link r.owned.surfaces) (shell-same r.owned.shell) refl has
roles-mode link false r has = roles-trees r (mode_set link false r) (trees-desynchronised link r.owned.surfaces) (shell-same r.owned.shell) refl has

roles-asked : (ask : Ask) (r : Resident) → IsAsked r ask → HasRoles r → HasRoles (changed_by ask r)
roles-asked (Own action) r is has = roles-same r (changed_by (Own action) r) refl refl has
roles-asked (CreateSurface id version) r is has =
    roles-same (with_surfaces (with_new_surface id r.owned.surfaces) r) (changed_by (CreateSurface id version) r) refl refl (roles-created id r has)
roles-asked (AskSurface id request) r is has =
    roles-trees r (changed_by (AskSurface id request) r) (trees-asked id request r.owned.surfaces) (shell-same r.owned.shell) refl has
roles-asked (EndObject id) r is has = roles-same r (changed_by (EndObject id) r) refl refl has
roles-asked (GetXdgSurface id version base surface) r is has =
    roles-same (with_shell (with_new id base surface r.owned.shell) r) (changed_by (GetXdgSurface id version base surface) r) refl refl (roles-shelled id base surface r is.1 is.2 has)
roles-asked (DestroyXdgSurface id) r is has =
    roles-trees r (changed_by (DestroyXdgSurface id) r) (trees-same r.owned.surfaces) (shell-without id r.owned.shell) refl has
roles-asked (GetToplevel id version xdg) r is has =
    roles-same (toplevel_given id xdg (xdg_at xdg r.owned.shell) r) (changed_by (GetToplevel id version xdg) r) refl refl (roles-toplevel id xdg r has)
roles-asked (Acknowledge xdg serial) r is has = roles-changed xdg (acknowledging serial) r (λ x. refl) has
roles-asked (ConfigureAgain xdg) r is has =
    roles-same (xdg_changed xdg (configuring r.peer.serial) r) (changed_by (ConfigureAgain xdg) r) refl refl (roles-changed xdg (configuring r.peer.serial) r (λ x. refl) has)
roles-asked Ignore r is has = has

-- Children are subsurfaces without xdg_surface, each known by its wl_subsurface, and no surface has two xdg_surfaces.
pub roles-kept : (c : ℕ) (demand : Demand) (r : Resident) (d : Desktop) → IsAllowed r demand → HasObjects r → IsForest r.peer.requests r.owned.surfaces → HasRoles r
    → HasRoles (changed_for c demand r d)
roles-kept c (Asks ask) r d is objects forest has = roles-asked ask r is has
roles-kept c (EndSurface id) r d is objects forest has = roles-destroyed id r forest.apart has
roles-kept c (AskFrame id version surface) r d is objects forest has =
    roles-trees r (frame_asked id version surface r) (trees-asked surface (Frame r.peer.requests) r.owned.surfaces) (shell-same r.owned.shell) refl has
roles-kept c (CommitTree surface) r d is objects forest has = roles-committed c surface r d has
roles-kept c (GetSubsurface id version child parent) r d is objects forest has = roles-subsurface id version child parent r (objects.surfaces child is.1) is.4 forest has
roles-kept c (EndSubsurface id) r d is objects forest has = roles-unlinked id r objects.subsurfaces.0 forest.apart has
roles-kept c (SetMode link synchronised) r d is objects forest has = roles-mode link synchronised r has
roles-kept c (GetPointer id version) r d is objects forest has =
    let first : Resident = record r { pointers = in_rising_order id r.pointers } in
    roles-same (drawing (has_focus c d.pointer.focus) first) (pointer_given c id version r d) refl refl
    (roles-drawn (has_focus c d.pointer.focus) first (roles-same r first refl refl has))
roles-kept c (MakeCursor surface) r d is objects forest has = roles-cursor surface r is.0 has
roles-kept c (GetPopup id version xdg parent p) r d is objects forest has =
    roles-same (popup_given_to id xdg parent p (xdg_at xdg r.owned.shell) r) (popup_given id version xdg parent p r) refl refl (roles-popup id xdg parent p r has)
roles-kept c (Reposition xdg token p) r d is objects forest has = roles-repositioned (placement_now c r d) p (popup_at xdg r.owned.shell) r has
roles-kept c (Grab xdg serial) r d is objects forest has = roles-grabbed (grab_allowed c xdg serial r d) xdg r has
roles-kept c (EndPopup id xdg) r d is objects forest has = roles-same (xdg_changed xdg without_role r) (changed_for c (EndPopup id xdg) r d) refl refl
    (roles-changed xdg without_role r (λ x. refl) has)
roles-kept c (EndToplevel id xdg top) r d is objects forest has = roles-ended id xdg r has
roles-kept c (Move surface serial) r d is objects forest has = has

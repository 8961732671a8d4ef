-- What is told of the surfaces of a client, by their numbers, is the damage that is applied to the windows of its trees.
use Rattle.std.proofs.Common.{◌≡◌, ℕ, List, [], Option, Some, None, true, refl, sym, subst}
use Rattle.wl_wire.specs.Wire.{split_of}
use Rattle.spec_desktop.specs.Peer.{Peer}
use Rattle.wl_shell.specs.Shell.{Configures, Effect, Maps, Stays, Unconfigured, Unmaps, XdgSurface, xdg_of}
use Rattle.wl_surface.specs.Surfaces.{Surfaces}
use Rattle.wl_surface.specs.Trees.{ending, with_link}
use Rattle.wl_surface.specs.declared.applied.Applied.{Applied}
use Rattle.wl_surface.specs.declared.applied.Change.{Change}
use Rattle.wl_surface.specs.Linked.{IsLink}
use Rattle.wl_surface.specs.Tree.{IsCommitTold, IsDesyncTold, IsEndTold, IsTold}
use Rattle.law_desktop.specs.Named.{StandBy}
use Rattle.law_desktop.proofs.ByNames.Linking.{link-named}
use Rattle.law_desktop.specs.Renaming.{has_surface, renamed, renamed_link}
use Rattle.law_desktop.proofs.ByNames.Names.Done.{commits-surface, destroys-surface, desynchronises, unlinks}
use Rattle.law_desktop.proofs.ByNames.Names.Known.{finds-links, keeps-places, reads-surfaces}
use Rattle.law_windows.proofs.ToldDamage.Calls.{commit-tells}
use Rattle.law_windows.proofs.ToldDamage.Going.{end-tells}
use Rattle.law_windows.proofs.ToldDamage.Links.{desync-tells, unlink-tells}
use Rattle.law_desktop.proofs.TreeSteps.Damage.{applies-nothing}
use Rattle.spec_desktop.specs.Changing.{Placing, changed_for, effect_placing, placement_now, tree_committed, unlinked_at}
use Rattle.spec_desktop.specs.Demand.{Demand, EndToplevel}
use Rattle.spec_desktop.specs.Demanding.{effect_of_commit}
use Rattle.spec_desktop.specs.Desktop.{Desktop, Resident}
use Rattle.spec_desktop.specs.Step.{with_peer}
use Rattle.law_desktop.specs.Ordered.{OwnsOrdered}
use Rattle.law_desktop.specs.Messages.{IsDemanded}
use Rattle.law_windows.specs.Telling.{TellsTrees}
use Rattle.law_windows.proofs.OneTree.Named.{commit-told-by-name, desync-told-by-name, end-told-by-name, nothing-told-by-name, unlink-told-by-name}
use Rattle.law_desktop.proofs.Keeping.OwningTies.{number-of-name, present, stand-by}
use Rattle.wl_requests.specs.declared.messages.Asked.{Asked}
use Rattle.wl_requests.specs.declared.residents.Resident.{Resident as Kept}
use Rattle.wl_requests.specs.Messages.{IsAsked, IsTouchOfAsked}
use Rattle.wl_requests.specs.Residents.{IsResident}
use Rattle.wl_requests.specs.Touching.{IsTouchTold, IsTouched, Touch, Commits, Destroys, Parts, Releases, Closes}
use Rattle.wl_requests.proofs.Linking.{IsLinkOf}
use Rattle.wl_requests.proofs.Unlinking.{link-number}
use Rattle.wl_clients.proofs.OnScreen.Numbers.{named_by}
use Rattle.wl_clients.proofs.OnScreen.Touches.{IsDemandOf, kept_numbers, touch-demands}

-- Where a toplevel goes the surfaces stay, and nothing is told.
pub nothing-told : {A : Type 0} (v : Kept A) (r : Resident) (p : Peer) (c : ℕ) (d : Desktop) (demand : Demand) (id xdg surface : ℕ) → demand ≡ EndToplevel id xdg surface
    → TellsTrees {A = A} (named_by v) [] r.owned.surfaces (changed_for c demand (with_peer p r) d).owned.surfaces
nothing-told {A} v r p c d demand id xdg surface e =
    subst (λ (x : Demand). TellsTrees {A = A} (named_by v) [] r.owned.surfaces (changed_for c x (with_peer p r) d).owned.surfaces) (sym e)
    (nothing-told-by-name A applies-nothing (named_by v) r.owned.surfaces [] refl)

-- what a commit does to the shell leaves the surfaces
effect-surfaces : (where_to : Placing) (surface : ℕ) (effect : Effect) (o : Option XdgSurface) (r : Resident) → (effect_placing where_to surface effect o r).owned.surfaces ≡ r.owned.surfaces
effect-surfaces where_to surface effect None r = refl
effect-surfaces where_to surface Stays (Some x) r = refl
effect-surfaces where_to surface Unconfigured (Some x) r = refl
effect-surfaces where_to surface Configures (Some x) r = refl
effect-surfaces where_to surface Maps (Some x) r = refl
effect-surfaces where_to surface Unmaps (Some x) r = refl

module _ {A : Type 0} (v : Kept A) (r : Resident) (p : Peer) (c : ℕ) (d : Desktop) (is : IsResident v r) (orderly : OwnsOrdered r) (changes : List (Change A)) where
  abbrev names : ℕ → ℕ
  names = named_by v

  abbrev all : Surfaces
  all = r.owned.surfaces

  by-names : StandBy names v.owned.surfaces.states v.owned.surfaces.family all
  by-names = stand-by (kept_numbers v) v.owned.surfaces.states v.owned.surfaces.family all is.owns.surfaces

  here : (id number : ℕ) → kept_numbers v id ≡ Some number → has_surface id all ≡ true
  here id number named = present (kept_numbers v) v.owned.surfaces.states v.owned.surfaces.family all is.owns.surfaces id number named

  its-link : (object child : ℕ) (its : IsLinkOf v r object child) → IsLink (renamed names all) its.link.number child (renamed_link names its.link)
  its-link object child its =
      subst (λ n. IsLink (renamed names all) its.link.number n (renamed_link names its.link)) (number-of-name (kept_numbers v) its.link.child child its.named)
      (link-named names all its.link.number its.link its.here its.lives)

  -- what is told of such a request, which demands this
  told-by : (touch : Touch) (demand : Demand) → IsDemandOf v r touch demand → IsTouchTold touch v.owned.surfaces changes
      → TellsTrees names changes all (changed_for c demand (with_peer p r) d).owned.surfaces
  told-by (Commits number) demand (id, e, named) told =
      subst (λ (x : Demand). TellsTrees names changes all (changed_for c x (with_peer p r) d).owned.surfaces) (sym e)
      (subst (λ (x : Surfaces). TellsTrees names changes all x)
      (sym (effect-surfaces (placement_now c (with_peer p r) d) id (effect_of_commit (with_peer p r) id) (xdg_of id r.owned.shell) (tree_committed id (with_peer p r))))
      (commit-told-by-name A reads-surfaces commits-surface (commit-tells A) names all id changes by-names.renaming orderly.order.once (here id number named)
      (subst (λ n. IsCommitTold n (renamed names all) changes) (sym (number-of-name (kept_numbers v) id number named)) (told (renamed names all) by-names.stands))))
  told-by (Destroys number) demand (id, e, named) told =
      subst (λ (x : Demand). TellsTrees names changes all (changed_for c x (with_peer p r) d).owned.surfaces) (sym e)
      (end-told-by-name A reads-surfaces keeps-places destroys-surface (end-tells A) names all id changes by-names.renaming orderly.order.trees orderly.order.once orderly.order.numbered
      (here id number named)
      (subst (λ n. IsEndTold n (renamed names all) changes) (sym (number-of-name (kept_numbers v) id number named)) (told (renamed names all) by-names.stands)))
  told-by (Parts child) demand (object, e, its) told =
      subst (λ (x : Demand). TellsTrees names changes all (changed_for c x (with_peer p r) d).owned.surfaces) (sym e)
      (subst (λ (o : Option ℕ). TellsTrees names changes all (unlinked_at o all)) (sym (link-number object r its.link its.of_object))
      (unlink-told-by-name A reads-surfaces finds-links unlinks (unlink-tells A) names all its.link.number its.link changes by-names.renaming orderly.order.once orderly.order.numbered its.here
      its.lives
      (subst (λ n. IsTold n (with_link its.link.number ending (renamed names all)) changes) (sym (number-of-name (kept_numbers v) its.link.child child its.named))
      (told (renamed names all) its.link.number (renamed_link names its.link) (its-link object child its) by-names.stands))))
  told-by (Releases child) demand (object, its, e) told =
      subst (λ (x : Demand). TellsTrees names changes all (changed_for c x (with_peer p r) d).owned.surfaces) (sym e)
      (desync-told-by-name A reads-surfaces finds-links desynchronises (desync-tells A) names all its.link.number its.link changes by-names.renaming orderly.order.once its.here its.lives
      (subst (λ n. IsDesyncTold its.link.number n (renamed names all) changes) (sym (number-of-name (kept_numbers v) its.link.child child its.named))
      (told (renamed names all) its.link.number (renamed_link names its.link) (its-link object child its) by-names.stands)))
  told-by (Closes number) demand (object, xdg, e) told =
      subst (λ (x : Demand). TellsTrees names changes all (changed_for c x (with_peer p r) d).owned.surfaces) (sym e)
      (nothing-told-by-name A applies-nothing names all changes told)

-- What is told of a request that may change what several surfaces show is the damage that is applied to the windows of their trees.
pub touch-told : {A : Type 0} (v mid : Kept A) (r : Resident) (p : Peer) (c : ℕ) (d : Desktop) (a : Asked) (demand : Demand) (touch : Touch) (applied : Applied A) → IsResident v r → OwnsOrdered r
    → IsAsked v.client a → IsDemanded (split_of r.peer.rest) r demand → IsTouchOfAsked a v touch → IsTouched touch v.owned.surfaces mid.owned.surfaces (Some applied)
    → TellsTrees (named_by v) applied.changes.items r.owned.surfaces (changed_for c demand (with_peer p r) d).owned.surfaces
touch-told v mid r p c d a demand touch applied is orderly asks demanded it touched =
    told-by v r p c d is orderly applied.changes.items touch demand (touch-demands v r a demand touch is orderly asks demanded it) touched.1

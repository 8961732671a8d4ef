-- What a client owns is known by the ids of its objects, as objects come and go.
use Rattle.std.proofs.Common.{◌≡◌, ℕ, Bool, true, false, List, [], ◌∷◌, ◌++◌, Option, Some, None, cond, refl, ap, sym, ◌∙◌, map}
use Rattle.std.specs.Prelude.{◌==◌, not, is_some, filter, fold}
use Rattle.std.specs.List.{list_any}
use Rattle.std.specs.Option.{option_map_or}
use Rattle.std.proofs.lemmas.Bool.{eqb-true, false_from_ne_true, true≢false}
use Rattle.wl_proto.specs.declared.interface.Interface.{Interface}
use Rattle.wl_proto.specs.declared.interface.Interface.TheVariants.{WlBuffer, WlCallback, WlRegion, WlShmPool, WlSubsurface, WlSurface, XdgPositioner}
use Rattle.spec_desktop.specs.declared.actions.Action.{Action}
use Rattle.spec_desktop.specs.declared.actions.Action.TheVariants.{GetRegistry, Bind, CreateRegion, DestroyRegion, CreatePool, CreateBuffer, DestroyPool}
use Rattle.spec_desktop.specs.declared.actions.Action.TheVariants.{DestroyBuffer, CreatePositioner, DestroyPositioner}
use Rattle.spec_desktop.specs.Judgement.{is_free}
use Rattle.spec_desktop.specs.Objects.{Object, Objects, interface_number, is_of, with_id}
use Rattle.spec_desktop.specs.Peer.{Peer, changed, object_at_version}
use Rattle.spec_desktop.specs.Used.{changed_with, has_used, keeps_store}
use Rattle.wl_store.specs.Stores.{Stock}
use Rattle.wl_surface.specs.Surfaces.{Surfaces, surface_at, with_new}
use Rattle.wl_surface.specs.Surface.{new_surface}
use Rattle.wl_surface.specs.Trees.{destroyed_in, ended_in, links_with}
use Rattle.wl_surface.specs.Waiting.{Callback}
use Rattle.spec_desktop.specs.Changing.{without_child}
use Rattle.spec_desktop.specs.Desktop.{Resident, Subsurface}
use Rattle.law_desktop.specs.Apart.{AreObjects}
use Rattle.law_desktop.proofs.Lists.Keys.{gone, new-elsewhere}
use Rattle.law_desktop.proofs.Lists.Standings.{any-gone}
use Rattle.law_desktop.proofs.Marks.Stacks.{equal-numbers}
use Rattle.law_desktop.proofs.Soundness.ObjectsCalls.{is_left, removed-others}
use Rattle.law_desktop.proofs.Soundness.ObjectsHas.{has_callback, has_sub}
use Rattle.law_desktop.proofs.Soundness.ObjectsKeys.{free-none, objects-filter, objects-gone, objects-map, objects-more, objects-new, of-one, others-kept}
use Rattle.law_desktop.proofs.Soundness.ObjectsThere.{There, there-destroyed}
use Rattle.law_desktop.proofs.Soundness.Orderly.{IsOwn}
use Rattle.law_desktop.proofs.KeptRecords.Toplevels.Heard.{heard-left, heard-more, left_of}
use Rattle.law_desktop.proofs.Lists.Left.{any-there}

-- each surface has its wl_surface, and each wl_subsurface and callback its object
pub record AreHeld (all : Surfaces) (subs : List Subsurface) (calls : List Callback) (objects : Objects) : Type 0 where
  pub known : (id : ℕ) → is_some (surface_at id all) ≡ true → is_of WlSurface (objects id) ≡ true
  pub children : AreObjects WlSubsurface objects has_sub subs
  pub callbacks : AreObjects WlCallback objects has_callback calls

-- an object that is none of these, or isn't there yet
pub record IsBare (objects : Objects) (id : ℕ) : Type 0 where
  pub surface : is_of WlSurface (objects id) ≡ false
  pub subsurface : is_of WlSubsurface (objects id) ≡ false
  pub callback : is_of WlCallback (objects id) ≡ false

pub bare-new : (objects : Objects) (id : ℕ) → is_free objects id ≡ true → IsBare objects id
bare-new objects id free =
    record { surface = free-none WlSurface objects id free; subsurface = free-none WlSubsurface objects id free; callback = free-none WlCallback objects id free }

pub bare-of : (one : Interface) → (interface_number one == interface_number WlSurface) ≡ false → (interface_number one == interface_number WlSubsurface) ≡ false
    → (interface_number one == interface_number WlCallback) ≡ false → (objects : Objects) (id : ℕ) → is_of one (objects id) ≡ true → IsBare objects id
bare-of one a b c objects id is =
    record { surface = of-one one WlSurface (objects id) a is; subsurface = of-one one WlSubsurface (objects id) b is; callback = of-one one WlCallback (objects id) c is }

module _ (all : Surfaces) (subs : List Subsurface) (calls : List Callback) (objects : Objects) (held : AreHeld all subs calls objects) where
  -- such an object comes or goes
  pub held-at : (id : ℕ) (x : Option Object) → IsBare objects id → AreHeld all subs calls (with_id id x objects)
  held-at id x bare = record {
    known = λ key there. others-kept WlSurface objects id x bare.surface key (held.known key there);
    children = objects-more WlSubsurface has_sub objects (with_id id x objects) subs (others-kept WlSubsurface objects id x bare.subsurface) held.children;
    callbacks = objects-more WlCallback has_callback objects (with_id id x objects) calls (others-kept WlCallback objects id x bare.callback) held.callbacks;
  }

  -- the same surfaces are there
  pub held-there : (new : Surfaces) → There all new → AreHeld new subs calls objects
  held-there new there = record { known = λ key is. held.known key (sym (there key) ∙ is); children = held.children; callbacks = held.callbacks }

  -- a new surface, wl_subsurface or callback
  pub held-surface : (id version : ℕ) → IsBare objects id → AreHeld (with_new id all) subs calls (with_id id (Some (object_at_version WlSurface version)) objects)
  held-surface id version bare =
      let more = held-at id (Some (object_at_version WlSurface version)) bare in
      record { known = known; children = more.children; callbacks = more.callbacks }
    where
      known : (key : ℕ) → is_some (surface_at key (with_new id all)) ≡ true → is_of WlSurface (with_id id (Some (object_at_version WlSurface version)) objects key) ≡ true
      known key there = at (key == id) refl
        where
          other : (key == id) ≡ false → (id == key) ≡ false
          other e = false_from_ne_true (id == key) (λ is. true≢false (sym (ap (λ n. n == id) (sym (eqb-true id key is)) ∙ same id) ∙ e))
            where
              same : (n : ℕ) → (n == n) ≡ true
              same n = equal-numbers n n refl

          at : (b : Bool) → (key == id) ≡ b → is_of WlSurface (cond b (Some (object_at_version WlSurface version)) (objects key)) ≡ true
          at true e = refl
          at false e = held.known key (sym (ap is_some (new-elsewhere (λ s. s.id == key) all.surfaces (new_surface id) (other e))) ∙ there)

  pub held-subsurface : (id version : ℕ) (s : Subsurface) → s.id ≡ id → IsBare objects id → AreHeld all (subs ++ s ∷ []) calls (with_id id (Some (object_at_version WlSubsurface version)) objects)
  held-subsurface id version s is bare =
      let more = held-at id (Some (object_at_version WlSubsurface version)) bare in
      record {
        known = more.known;
        children = objects-new WlSubsurface has_sub objects id (object_at_version WlSubsurface version) subs s bare.subsurface refl (λ key e. sym (eqb-true s.id key e) ∙ is) held.children;
        callbacks = more.callbacks;
      }

  pub held-callback : (id version number : ℕ) → IsBare objects id
      → AreHeld all subs (calls ++ record { number = number; id = id } ∷ []) (with_id id (Some (object_at_version WlCallback version)) objects)
  held-callback id version number bare =
      let more = held-at id (Some (object_at_version WlCallback version)) bare in
      record { known = more.known; children = more.children; callbacks = heard-more calls objects number id version bare.callback held.callbacks }

  -- a wl_subsurface goes
  pub held-without : (id : ℕ) → is_of WlSubsurface (objects id) ≡ true → AreHeld all (filter (λ s. not (s.id == id)) subs) calls (with_id id None objects)
  held-without id is = record {
    known = λ key there. others-kept WlSurface objects id None (of-one WlSubsurface WlSurface (objects id) refl is) key (held.known key there);
    children = objects-gone WlSubsurface has_sub objects id (filter (λ s. not (s.id == id)) subs) (any-gone (has_sub id) (λ s. not (s.id == id)) (λ s is. ap not is) subs)
        (objects-filter WlSubsurface has_sub objects (λ s. not (s.id == id)) subs held.children);
    callbacks = objects-more WlCallback has_callback objects (with_id id None objects) calls (others-kept WlCallback objects id None (of-one WlSubsurface WlCallback (objects id) refl is))
        held.callbacks;
  }

-- ---- callbacks go

module _ (all : Surfaces) (subs : List Subsurface) (calls : List Callback) (peer : Peer) (which : Callback → Bool) (held : AreHeld all subs calls peer.objects) where
  abbrev pub Rest : List Callback
  Rest = filter (is_left (filter which calls)) calls

  abbrev pub Left : Objects
  Left = left_of calls peer which held.callbacks

  -- with no object of another interface
  pub other-left : (interface : Interface) → (interface_number interface == interface_number WlCallback) ≡ false → (id : ℕ) → is_of interface (peer.objects id) ≡ true
      → is_of interface (Left id) ≡ true
  other-left interface apart id is =
      ap (is_of interface) (removed-others (filter which calls) peer id (false_from_ne_true (list_any (has_callback id) (filter which calls)) never)) ∙ is
    where
      never : list_any (has_callback id) (filter which calls) ≡ true → ⊥
      never any = true≢false (sym (held.callbacks.1 id (any-there (has_callback id) which calls any)) ∙ of-one interface WlCallback (peer.objects id) apart is)

  pub held-left : AreHeld all subs Rest Left
  held-left = record {
    known = λ id there. other-left WlSurface refl id (held.known id there);
    children = objects-more WlSubsurface has_sub peer.objects Left subs (other-left WlSubsurface refl) held.children;
    callbacks = heard-left calls peer which held.callbacks;
  }

-- ---- a surface goes

pub child-id : (surface : ℕ) (s : Subsurface) → (without_child surface s).id ≡ s.id
child-id surface s = at (option_map_or (λ child. child == surface) s.surface false)
  where
    at : (b : Bool) → (cond b (record s { surface = None }) s).id ≡ s.id
    at true = refl
    at false = refl

pub held-destroyed : (surface : ℕ) (all : Surfaces) (subs : List Subsurface) (calls : List Callback) (objects : Objects) → is_of WlSurface (objects surface) ≡ true → AreHeld all subs calls objects
    → AreHeld (destroyed_in surface all) (map (without_child surface) subs) calls (with_id surface None objects)
held-destroyed surface all subs calls objects is held = record {
  known = λ key there. at key there (key == surface) refl;
  children = objects-more WlSubsurface has_sub objects (with_id surface None objects) (map (without_child surface) subs)
      (others-kept WlSubsurface objects surface None (of-one WlSurface WlSubsurface (objects surface) refl is))
      (objects-map WlSubsurface has_sub objects (without_child surface) subs (λ key s e. ap (λ i. i == key) (sym (child-id surface s)) ∙ e) held.children);
  callbacks = objects-more WlCallback has_callback objects (with_id surface None objects) calls
      (others-kept WlCallback objects surface None (of-one WlSurface WlCallback (objects surface) refl is)) held.callbacks;
}
  where
    at : (key : ℕ) → is_some (surface_at key (destroyed_in surface all)) ≡ true → (b : Bool) → (key == surface) ≡ b → is_of WlSurface (cond b None (objects key)) ≡ true
    at key there true e =
        absurd (true≢false (sym there ∙ ap is_some (ap (λ n. surface_at n (destroyed_in surface all)) (eqb-true key surface e)
        ∙ gone (λ s. s.id == surface) (fold ended_in all (links_with surface all)).surfaces)))
    at key there false e = held.known key (sym (there-destroyed surface all key e) ∙ there)

-- ---- a client's own interfaces

module _ (all : Surfaces) (subs : List Subsurface) (calls : List Callback) where
  stored-held : (b : Bool) (stores : Stock) (p : Peer) → AreHeld all subs calls p.objects → AreHeld all subs calls (keeps_store b stores p).objects
  stored-held true stores p held = held
  stored-held false stores p held = held

  pub own-held : (used : ℕ → Bool) (action : Action) (r : Resident) → IsOwn r action → AreHeld all subs calls r.peer.objects → AreHeld all subs calls (changed_with used action r.peer).objects
  own-held used (GetRegistry id) r ok held = held-at all subs calls r.peer.objects held id _ (bare-new r.peer.objects id ok)
  own-held used (Bind id interface version) r ok held = held-at all subs calls r.peer.objects held id _ (bare-new r.peer.objects id ok.0)
  own-held used (CreateRegion id version) r ok held = held-at all subs calls r.peer.objects held id _ (bare-new r.peer.objects id ok)
  own-held used (DestroyRegion id) r ok held = held-at all subs calls r.peer.objects held id None (bare-of WlRegion refl refl refl r.peer.objects id ok)
  own-held used (CreatePool id version size) r ok held = held-at all subs calls r.peer.objects held id _ (bare-new r.peer.objects id ok)
  own-held used (CreateBuffer id version laid) r ok held = held-at all subs calls r.peer.objects held id _ (bare-new r.peer.objects id ok)
  own-held used (DestroyPool id store) r ok held = held-at all subs calls r.peer.objects held id None (bare-of WlShmPool refl refl refl r.peer.objects id ok)
  own-held used (CreatePositioner id version) r ok held = held-at all subs calls r.peer.objects held id _ (bare-new r.peer.objects id ok)
  own-held used (DestroyPositioner id) r ok held = held-at all subs calls r.peer.objects held id None (bare-of XdgPositioner refl refl refl r.peer.objects id ok)
  own-held used (DestroyBuffer id store) r ok held =
      stored-held (has_used used (r.peer.buffers id)) r.peer.stores (changed (DestroyBuffer id store) r.peer)
      (held-at all subs calls r.peer.objects held id None (bare-of WlBuffer refl refl refl r.peer.objects id ok))
  own-held used action r ok held = held

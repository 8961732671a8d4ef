-- What goes with a surface: its frame callbacks, which are no objects that name a surface.
use Rattle.std.proofs.Common.{◌≡◌, ℕ, List, [], ◌∷◌, ◌++◌, Bool, true, false, Option, Some, None, map, refl, ap, sym, ◌∙◌}
use Rattle.std.specs.Prelude.{◌==◌, ◌||◌, fold, if◌then◌else◌}
use Rattle.std.specs.List.{list_any}
use Rattle.std.specs.Option.{option_and_then, option_map}
use Rattle.std.proofs.Math.Path.{fun_ext}
use Rattle.std.proofs.lemmas.Bool.{eqb-true}
use Rattle.wl_proto.specs.declared.interface.Interface.{Interface}
use Rattle.wl_proto.specs.declared.interface.Interface.TheVariants.{WlCallback, WlSurface, XdgPopup, XdgSurface, XdgToplevel}
use Rattle.wl_table.specs.Objects.{Held, entry_of}
use Rattle.wl_table.specs.declared.entry.Entry.{Entry}
use Rattle.spec_desktop.specs.Objects.{interface_number, is_of, object_of, objects_in}
use Rattle.spec_desktop.specs.Peer.{Peer, all_removed, removed}
use Rattle.wl_client.specs.Serving.{HoldsWithout}
use Rattle.spec_desktop.specs.Told.{id_deleted, released_told}
use Rattle.wl_surface.specs.FrameRequests.{frames_asked}
use Rattle.wl_links.specs.Family.{Tied}
use Rattle.wl_surface.specs.Slots.{Slots}
use Rattle.wl_surface.specs.Surface.{Surface}
use Rattle.wl_surface.specs.Surfaces.{history_in, surface_at}
use Rattle.wl_surface.specs.Waiting.{Callback, frames_at, is_in}
use Rattle.spec_desktop.specs.Changing.{callbacks_of}
use Rattle.spec_desktop.specs.Desktop.{Resident}
use Rattle.law_desktop.specs.InOrder.{OwnsKnown}
use Rattle.law_desktop.specs.Owning.{AreKept, target_as, targets_in, with_surface}
use Rattle.law_desktop.specs.RoleNames.{is_of_role, names_of, role_target, roles_in}
use Rattle.std.proofs.lemmas.List.{append-nil}
use Rattle.wl_requests.proofs.Roles.{names-with}
use Rattle.law_desktop.proofs.Keeping.OwningSurfaces.{surface-read}
use Rattle.law_desktop.proofs.Lists.Left.{any-there}
use Rattle.wl_requests.proofs.Framing.{numbered}
use Rattle.wl_requests.proofs.Shelling.{entry-named}
use Rattle.wl_requests.proofs.Trees.{turned}

-- ---- the table

-- an object of one interface is none of another
unnamed : (one interface : Interface) (o : Option Entry) → (interface_number one == interface_number interface) ≡ false → is_of one (option_map object_of o) ≡ true
    → option_and_then (target_as interface) o ≡ None
unnamed one interface None apart is = refl
unnamed one interface (Some entry) apart is =
    ap (λ (b : Bool). if b then Some entry.target else None) (ap (λ n. n == interface_number interface) (eqb-true (interface_number entry.interface) (interface_number one) is) ∙ apart)

-- nor is it a role object
no-role : (i : Interface) (target : ℕ) → is_of_role i ≡ false → (if is_of_role i then Some target else None) ≡ None
no-role i target e = ap (λ (b : Bool). if b then Some target else None) e

callback-role : (i : Interface) → (interface_number i == interface_number WlCallback) ≡ true → is_of_role i ≡ false
callback-role XdgToplevel e = absurd (cc)
callback-role XdgPopup e = absurd (cc)
callback-role i e = refl

surface-role : (i : Interface) → (interface_number i == interface_number WlSurface) ≡ true → is_of_role i ≡ false
surface-role XdgToplevel e = absurd (cc)
surface-role XdgPopup e = absurd (cc)
surface-role i e = refl

callback-unnamed : (o : Option Entry) → is_of WlCallback (option_map object_of o) ≡ true → option_and_then role_target o ≡ None
callback-unnamed None is = refl
callback-unnamed (Some entry) is = no-role entry.interface entry.target (callback-role entry.interface is)

surface-unnamed : (o : Option Entry) → is_of WlSurface (option_map object_of o) ≡ true → option_and_then role_target o ≡ None
surface-unnamed None is = refl
surface-unnamed (Some entry) is = no-role entry.interface entry.target (surface-role entry.interface is)

module _ (old new : Held) (id : ℕ) (calls : List ℕ) (heard : (other : ℕ) → list_any (λ i. other == i) calls ≡ true → is_of WlCallback (objects_in old other) ≡ true)
    (holds : HoldsWithout old new (id ∷ calls)) where
  -- what objects name of which a wl_callback names nothing
  named-but : (by : Entry → Option ℕ) → ((o : Option Entry) → is_of WlCallback (option_map object_of o) ≡ true → option_and_then by o ≡ None) → (other : ℕ)
      → option_and_then by (entry_of new other) ≡ (if other == id then None else option_and_then by (entry_of old other))
  named-but by nothing other = ap (option_and_then by) (holds other) ∙ at (other == id) (list_any (λ i. other == i) calls) refl
    where
      at : (a b : Bool) → list_any (λ i. other == i) calls ≡ b
          → option_and_then by (if a || b then None else entry_of old other) ≡ (if a then None else option_and_then by (entry_of old other))
      at true b e = refl
      at false true e = sym (nothing (entry_of old other) (heard other e))
      at false false e = refl

  -- what it didn't name it doesn't name now
  named-still : (by : Entry → Option ℕ) → ((o : Option Entry) → is_of WlCallback (option_map object_of o) ≡ true → option_and_then by o ≡ None)
      → option_and_then by (entry_of old id) ≡ None
      → ◌≡◌ {A = ℕ → Option ℕ} (λ other. option_and_then by (entry_of new other)) (λ other. option_and_then by (entry_of old other))
  named-still by nothing none = fun_ext (λ other. named-but by nothing other ∙ at other (other == id) refl)
    where
      at : (other : ℕ) (b : Bool) → (other == id) ≡ b → (if b then None else option_and_then by (entry_of old other)) ≡ option_and_then by (entry_of old other)
      at other true e = sym (ap (λ n. option_and_then by (entry_of old n)) (eqb-true other id e) ∙ none)
      at other false e = refl

  pub surface-gone-with : (number : ℕ) → targets_in WlSurface old id ≡ Some number → names_of new ≡ with_surface id None (names_of old)
  surface-gone-with number named =
      let entry = entry-named WlSurface old id number named in
      let is : is_of WlSurface (option_map object_of (entry_of old id)) ≡ true = ap (λ (o : Option Entry). is_of WlSurface (option_map object_of o)) entry.1 ∙ entry.2 in
      names-with old new _ _ (roles_in old) (fun_ext (named-but (target_as WlSurface) (λ o. unnamed WlCallback WlSurface o refl)))
      (named-still (target_as XdgSurface) (λ o. unnamed WlCallback XdgSurface o refl) (unnamed WlSurface XdgSurface (entry_of old id) refl is))
      (named-still role_target callback-unnamed (surface-unnamed (entry_of old id) is))

-- ---- the callbacks

any-ids : (other : ℕ) (cs : List Callback) → list_any (λ i. other == i) (map (λ (c : Callback). c.id) cs) ≡ list_any (λ (c : Callback). c.id == other) cs
any-ids other [] = refl
any-ids other (c ∷ cs) = ap (λ b. b || list_any (λ i. other == i) (map (λ (x : Callback). x.id) cs)) (turned other c.id) ∙ ap (λ b. (c.id == other) || b) (any-ids other cs)

-- those of a surface are wl_callbacks
pub are-heard : (id : ℕ) (r : Resident) (held : Held) (calls : List ℕ) → OwnsKnown r → objects_in held ≡ r.peer.objects → calls ≡ map (λ c. c.id) (callbacks_of id r)
    → (other : ℕ) → list_any (λ i. other == i) calls ≡ true → is_of WlCallback (objects_in held other) ≡ true
are-heard id r held calls only same ids other any =
    ap (λ objects. is_of WlCallback (objects other)) same
    ∙ only.callbacks.1 other
    (any-there (λ (c : Callback). c.id == other) (is_in (frames_asked (history_in id r.owned.surfaces))) r.callbacks
    (sym (any-ids other (callbacks_of id r)) ∙ ap (list_any (λ i. other == i)) (sym ids) ∙ any))

-- what was asked for of a surface, by its number and by its id
pub asked-read : (held : Held) (r : Resident) (slots : Slots) (tied : Tied) → AreKept (targets_in WlSurface held) slots tied r.owned.surfaces → (id number : ℕ) → targets_in WlSurface held id
    ≡ Some number
    → frames_at (numbered held r number) ≡ frames_asked (history_in id r.owned.surfaces)
asked-read held r slots tied kept id number named = ap frames_at (surface-read (targets_in WlSurface held) slots tied r.owned.surfaces kept id number named) ∙ at (surface_at id r.owned.surfaces)
  where
    at : (o : Option Surface) → frames_at o ≡ frames_asked (option_map (λ s. s.history) o)
    at None = refl
    at (Some s) = refl

-- ---- what is told

ids-told : (cs : List Callback) → map id_deleted (map (λ (c : Callback). c.id) cs) ≡ map (λ (c : Callback). id_deleted c.id) cs
ids-told [] = refl
ids-told (c ∷ cs) = ap (λ es. id_deleted c.id ∷ es) (ids-told cs)

pub going-told : (id : ℕ) (cs : List Callback) (calls : List ℕ) → calls ≡ map (λ c. c.id) cs
    → (id_deleted id ∷ map id_deleted calls ++ released_told None) ≡ (id_deleted id ∷ map (λ (c : Callback). id_deleted c.id) cs)
going-told id cs calls ids =
    ap (λ es. id_deleted id ∷ es) (append-nil (map id_deleted calls) ∙ ap (map id_deleted) ids ∙ ids-told cs)

-- ---- what becomes of the client's table

fold-ids : (cs : List Callback) (p : Peer) → all_removed (map (λ (c : Callback). c.id) cs) p ≡ fold (λ p callback. removed callback.id p) p cs
fold-ids [] p = refl
fold-ids (c ∷ cs) p = fold-ids cs (removed c.id p)

pub going-removed : (cs : List Callback) (calls : List ℕ) (p : Peer) → calls ≡ map (λ c. c.id) cs → all_removed calls p ≡ fold (λ p callback. removed callback.id p) p cs
going-removed cs calls p ids = ap (λ is. all_removed is p) ids ∙ fold-ids cs p

pub going-requests : (cs : List Callback) (p : Peer) → (fold (λ p callback. removed callback.id p) p cs).requests ≡ p.requests
going-requests [] p = refl
going-requests (c ∷ cs) p = going-requests cs (removed c.id p)

pub going-status : (cs : List Callback) (p : Peer) → (fold (λ p callback. removed callback.id p) p cs).status ≡ p.status
going-status [] p = refl
going-status (c ∷ cs) p = going-status cs (removed c.id p)

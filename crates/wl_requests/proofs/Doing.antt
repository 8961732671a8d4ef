-- What is asked of a client leads to a client that is stood for.
use Rattle.std.proofs.Common.{◌≡◌, ℕ, List, map, ◌≤◌, true, false, Option, Some, None, length, refl, ap, sym, subst, ◌∙◌, [], ◌∷◌}
use Rattle.std.specs.Prelude.{is_some}
use Rattle.std.specs.Option.{option_map}
use Rattle.wl_geom.specs.declared.rect.Rect.{Rect}
use Rattle.wl_geom.specs.Region.{Area, Change}
use Rattle.wl_client.specs.Agreement.{IsPeer, IsRegion}
use Rattle.spec_desktop.specs.Objects.{ById, held_at}
use Rattle.wl_store.specs.Stores.{Stock}
use Rattle.wl_client.proofs.Peers.{IsPeer-stores}
use Rattle.wl_client.specs.View.{ClientView}
use Rattle.spec_desktop.specs.Peer.{LacksMemory, Peer}
use Rattle.wl_surface.specs.declared.content.Attached.{Attached}
use Rattle.wl_surface.specs.Kept.{buffer_of, Kept as KeptSurface}
use Rattle.wl_links.specs.Family.{Tied}
use Rattle.wl_surface.specs.Slots.{Changes, IsCopied, Numbered, Slots, had_at, StandForAll, StandsAt, kept_at}
use Rattle.wl_surface.specs.Request.{Request}
use Rattle.wl_surface.specs.State.{Values, asked, committed, geometry_asked, is_commit}
use Rattle.wl_surface.specs.Surface.{Surface, asking}
use Rattle.wl_surface.specs.Surfaces.{Surfaces, surface_at}
use Rattle.wl_surface.specs.FrameRequests.{frames_of}
use Rattle.wl_surface.specs.declared.frames.Waiting.{Waiting}
use Rattle.wl_shell.specs.Kept.{kept_of}
use Rattle.wl_scene.specs.declared.owned.Owned.{Owned as Lent}
use Rattle.wl_requests.specs.declared.residents.Resident.{Resident as Kept}
use Rattle.spec_desktop.specs.Ask.{AskSurface}
use Rattle.spec_desktop.specs.Desktop.{Resident}
use Rattle.wl_proto.specs.declared.interface.Interface.TheVariants.{WlSurface}
use Rattle.wl_table.specs.Objects.{Held, entry_of}
use Rattle.wl_table.specs.declared.entry.Entry.{Entry}
use Rattle.law_desktop.specs.Owning.{AreKept, by_number, targets_in}
use Rattle.law_desktop.specs.RoleNames.{names_of}
use Rattle.law_desktop.proofs.Keeping.OwningNames.{targets-at}
use Rattle.wl_requests.specs.Residents.{IsLeft, IsResident, IsSurface, KeepsFrames, KeepsSubsurfaces, Owns}
use Rattle.spec_desktop.specs.Step.{changed_by}
use Rattle.law_desktop.proofs.Keeping.Letting.{asked-keeps}
use Rattle.wl_requests.proofs.Numbers.{keeps-same}
use Rattle.wl_surface.specs.Stacks.{is_about_children}
use Rattle.wl_requests.proofs.Framing.{IsFramed, framed-asked, no-more}
use Rattle.law_desktop.proofs.Keeping.OwningAsks.{owned-asked}
use Rattle.law_desktop.proofs.Keeping.OwningSurfaces.{surface-named, surface-read}

-- what ended isn't there
pub gone : {X : Type 0} (o : Option X) → is_some o ≡ true → o ≡ None → ⊥
gone None some none = cc
gone (Some x) some none = cc

-- There was no memory: of a client that ended nothing more is said.
pub lacked : {A : Type 0} (old v : Kept A) (after r : Resident) → (q : Peer) × LacksMemory r.peer q × IsPeer v.client q → is_some v.client.ended ≡ true → (q : Peer) × LacksMemory r.peer q
    × IsLeft old v after q
lacked old v after r lacks ended = (
  lacks.0,
  lacks.1,
  record {
    peer = lacks.2;
    owns = λ none. absurd (gone v.client.ended ended none);
    frames = λ none. absurd (gone v.client.ended ended none);
    subsurfaces = λ none. absurd (gone v.client.ended ended none);
    numbers = λ none. absurd (gone v.client.ended ended none);
  },
)

-- the cut of what is kept is within the list
pub cut-bounds : (k : Option KeptSurface) (s : Surface) → StandsAt k (Some s) → (s.history.cut ≤ committed s.history.requests) × (committed s.history.requests ≤ length s.history.requests)
cut-bounds None s stands = absurd stands
cut-bounds (Some k) s stands = (stands.history.cut_within, stands.history.commits_within)

-- A request of a surface that is no commit, attaches nothing and asks for no window geometry.
pub asked-so : {A : Type 0} (old new : Kept A) (r : Resident) (id number : ℕ) (request : Request) → IsResident old r → IsSurface old id number → is_about_children request ≡ false → is_commit
    request ≡ false
    → ((v : Values) → (asked v request).buffer ≡ v.buffer)
    → ((g : Option Rect) → geometry_asked g request ≡ g) → frames_of (request ∷ []) ≡ [] → new.owned.surfaces.states.frames ≡ old.owned.surfaces.states.frames
    → Changes old.owned.surfaces.states new.owned.surfaces.states number (asking request) → new.owned.surfaces.family ≡ old.owned.surfaces.family → new.client ≡ old.client
    → new.subsurfaces ≡ old.subsurfaces → kept_of new.owned.shell
    ≡ kept_of old.owned.shell
    → ((changed_by (AskSurface id request) r).peer ≡ r.peer) × IsLeft old new (changed_by (AskSurface id request) r) r.peer
asked-so old new r id number request is named about plain keeps other asks_none frames changes ties same subs shell =
    let names = names_of old.client.objects in
    let there = surface-named names.surfaces old.owned.surfaces.states old.owned.surfaces.family r.owned.surfaces is.owns.surfaces id number named in
    let read = surface-read names.surfaces old.owned.surfaces.states old.owned.surfaces.family r.owned.surfaces is.owns.surfaces id number named ∙ there.1 in
    let bounds = cut-bounds (kept_at old.owned.surfaces.states number) there.0
    (subst (λ (o : Option Surface). StandsAt (kept_at old.owned.surfaces.states number) o) read (is.owns.surfaces.stand number)) in
    let none = asked-keeps request plain keeps id r there.0 there.1 bounds.0 bounds.1 in (
      ap (λ (q : Resident). q.peer) none,
      record {
        peer = rw same is.peer;
        owns = λ alive. rw (same, shell, ties)
            (owned-asked names old.owned.surfaces.states old.owned.surfaces.family (kept_of old.owned.shell) r is.owns id number request new.owned.surfaces.states named about plain other changes);
        frames = λ alive.
            let table : new.client.objects ≡ old.client.objects = ap (λ (w : ClientView). w.objects) same in
            subst (λ (ws : List Waiting). IsFramed ws new.client.objects (changed_by (AskSurface id request) r)) (sym frames)
            (framed-asked old.owned.surfaces.states.frames old.client.objects new.client.objects r (changed_by (AskSurface id request) r) refl (no-more r.peer.requests) is.frames
            old.owned.surfaces.states old.owned.surfaces.family
            is.owns.surfaces id number request asks_none plain named
            (ap names_of table) refl);
        subsurfaces = λ alive. rw (same, subs) is.subsurfaces;
        numbers = λ alive. keeps-same old.client.objects new.client.objects (ap (λ (w : ClientView). w.objects) same);
      },
    )

-- a region that a client has can be copied
pub copied-of : (area : Option Area) (changes : Option (List Change)) → IsRegion area changes → IsCopied area changes
copied-of None None is = refl
copied-of (Some area) (Some changes) is = is
copied-of None (Some changes) is = absurd is
copied-of (Some area) None is = absurd is

pub copied-named : (v : ClientView) (p : Peer) (id : ℕ) (area : Option Area) → area ≡ held_at v.regions id → IsPeer v p → IsCopied area (p.regions id)
copied-named v p id area same is = subst (λ (a : Option Area). IsCopied a (p.regions id)) (sym same) (copied-of (held_at v.regions id) (p.regions id) (is.regions id))

-- its store went, or not
pub one-let : (v w : ClientView) (r : Resident) (change : Stock → Stock) → IsPeer v r.peer → w ≡ record v { stores = w.stores } → w.stores ≡ change v.stores
    → IsPeer w (record r.peer { stores = change r.peer.stores })
one-let v w r change is only stores = subst (λ (x : ClientView). IsPeer x (record r.peer { stores = change r.peer.stores })) (sym only) (IsPeer-stores v r.peer change w.stores stores is)

pub kept-there : {A : Type 0} (v w : Lent A) (numbers : ById ℕ) (all : Surfaces) → w ≡ v → AreKept numbers v.surfaces.states v.surfaces.family all
    → AreKept numbers w.surfaces.states w.surfaces.family all
kept-there v w numbers all same kept = rw same kept

-- The buffers that a surface had are let go of, once what was asked of it stands: so it was done.
pub let-go-so : {A : Type 0} (old v w : Kept A) (after : Resident) → v.client ≡ old.client → Owns v after → KeepsFrames v after → KeepsSubsurfaces v after
    → w.client ≡ record v.client { stores = w.client.stores } → w.owned ≡ v.owned → w.subsurfaces ≡ v.subsurfaces → IsPeer w.client after.peer → IsLeft old w after after.peer
let-go-so old v w after still owns frames subs only same kept peer =
    let objects = ap (λ (c : ClientView). c.objects) only in
    record {
      peer = peer;
      owns = λ alive. rw (objects, same) owns;
      frames = λ alive. rw (objects, same) frames;
      subsurfaces = λ alive. rw (objects, kept) subs;
      numbers = λ alive. keeps-same old.client.objects w.client.objects (objects ∙ ap (λ (c : ClientView). c.objects) still);
    }

-- what a surface had, by its id
pub had-by : (numbers : ById ℕ) (slots : Slots) (tied : Tied) (all : Surfaces) (id number : ℕ) (had : List (Option Attached)) → AreKept numbers slots tied all → numbers id ≡ Some number
    → ((named : Numbered) → StandForAll slots named → map (option_map buffer_of) had ≡ had_at (named number)) → map (option_map buffer_of) had ≡ had_at (surface_at id all)
had-by numbers slots tied all id number had kept named reads = reads (by_number numbers all) kept.stand ∙ ap had_at (surface-read numbers slots tied all kept id number named)

-- the object that is in the table names its surface
pub named-by : (held : Held) (id number : ℕ) (entry : Entry) → entry_of held id ≡ Some entry → entry.interface ≡ WlSurface → entry.target ≡ number → targets_in WlSurface held id ≡ Some number
named-by held id number entry found is target = targets-at WlSurface held id entry found is ∙ ap Some target

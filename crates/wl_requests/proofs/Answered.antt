-- What is kept of a client as its frame callbacks are answered.
use Rattle.std.proofs.Common.{◌≡◌, ℕ, ◌+◌, List, ◌++◌, true, false, Option, Some, None, refl, ap, subst, sym, ◌∙◌, [], eq-eqb}
use Rattle.std.specs.Prelude.{◌==◌, ◌||◌, is_some, slice_index_or, count_by, filter}
use Rattle.std.specs.List.{list_any}
use Rattle.std.specs.Option.{option_map}
use Rattle.wl_proto.specs.declared.interface.Interface.{Interface}
use Rattle.wl_proto.specs.declared.interface.Interface.TheVariants.{WlCallback, WlSurface, XdgPopup, XdgSurface, XdgToplevel}
use Rattle.wl_table.specs.Objects.{Held, HoldsAt, entry_of}
use Rattle.wl_table.specs.declared.entry.Entry.{Entry}
use Rattle.wl_client.specs.Agreement.{IsPeer}
use Rattle.spec_desktop.specs.Objects.{ById, interface_number, is_of, object_of, objects_in}
use Rattle.spec_desktop.specs.Peer.{Peer, Queues, removed}
use Rattle.wl_surface.specs.Kept.{Kept as KeptSurface}
use Rattle.wl_links.specs.Family.{Tied, is_there}
use Rattle.wl_surface.specs.Hanging.{Hang}
use Rattle.law_desktop.specs.Renaming.{renamed}
use Rattle.wl_surface.specs.Slots.{Slots, StandsAt}
use Rattle.wl_surface.specs.Surfaces.{Surfaces}
use Rattle.wl_surface.specs.Waiting.{AreUndue, Callback, IsNextDue, is_in}
use Rattle.wl_surface.specs.Frames.{frames_counting}
use Rattle.wl_shell.specs.Kept.{Book, kept_of}
use Rattle.spec_desktop.specs.Stacking.{Owned}
use Rattle.spec_desktop.specs.Desktop.{Resident}
use Rattle.spec_desktop.specs.Framing.{done_due}
use Rattle.spec_desktop.specs.Happens.{callbacks_due, frame_told, frames_told}
use Rattle.law_desktop.specs.Owning.{AreKept, IsOwned, Names, by_number, number_in, targets_in}
use Rattle.law_desktop.specs.RoleNames.{names_of}
use Rattle.law_desktop.proofs.Keeping.FramingWaits.{framed-less}
use Rattle.law_desktop.proofs.Soundness.ObjectsHas.{has_callback}
use Rattle.wl_requests.proofs.Roles.{names_object, names-other-gone}
use Rattle.wl_requests.specs.declared.residents.Resident.{Resident as Kept}
use Rattle.wl_requests.specs.Residents.{IsLeft, IsResident}
use Rattle.wl_requests.proofs.Answering.{IsAnswered, all-answered, all-callbacks, answered-on, any-middle, counting-due, none-due, over-told, without_it}
use Rattle.wl_requests.proofs.Doing.{gone}
use Rattle.wl_requests.proofs.Framing.{numbered, told-requests}
use Rattle.wl_requests.proofs.Going.{going-requests}
use Rattle.wl_requests.proofs.Numbers.{keeps-names}

-- ---- the table

callback-names : (interface : Interface) → (interface_number interface == interface_number WlCallback) ≡ true → names_object interface ≡ false
callback-names WlSurface e = absurd (cc)
callback-names XdgSurface e = absurd (cc)
callback-names XdgToplevel e = absurd (cc)
callback-names XdgPopup e = absurd (cc)
callback-names interface e = refl

callback-gone : (old new : Held) (id : ℕ) → is_of WlCallback (objects_in old id) ≡ true → HoldsAt old new id None → names_of new ≡ names_of old
callback-gone old new id is holds = at (entry_of old id) refl is
  where
    at : (o : Option Entry) → entry_of old id ≡ o → is_of WlCallback (option_map object_of o) ≡ true → names_of new ≡ names_of old
    at None found is = absurd (cc)
    at (Some entry) found is = names-other-gone old new id entry found (callback-names entry.interface is) holds

-- ---- what is kept of the surfaces stands for them whatever callbacks are kept

kept-places : (numbers : ById ℕ) (a b : Slots) (tied other : Tied) (all : Surfaces) → b.places ≡ a.places → other ≡ tied → AreKept numbers a tied all → AreKept numbers b other all
kept-places numbers a b tied other all same ties is =
    record {
      ends = is.ends;
      numbered = is.numbered;
      once = is.once;
      apart = is.apart;
      stand = λ number. subst (λ (ps : List (Option KeptSurface)). StandsAt (slice_index_or ps number None) (by_number numbers all number)) (sym same) (is.stand number);
      count = ap (λ (ps : List (Option KeptSurface)). count_by is_some ps) same ∙ is.count;
      hang = subst (λ (t : Tied). Hang t (renamed (number_in numbers) all)) (sym ties) is.hang;
      there = λ number here. is.there number (ap (λ (t : Tied). is_there number t) (sym ties) ∙ here);
    }

owned-places : (names now : Names) (a b : Slots) (tied tying : Tied) (shell other : Book) (o : Owned) → b.places ≡ a.places → tying ≡ tied → now ≡ names → other ≡ shell
    → IsOwned names a tied (kept_of shell) o → IsOwned now b tying (kept_of other) o
owned-places names now a b tied tying shell other o same ties named kept is =
    rw (named, kept)
    (record { surfaces = kept-places names.surfaces a b tied tying o.surfaces same ties is.surfaces; shell = is.shell; known = is.known; named = is.named; toplevels = is.toplevels; roles = is.roles })

-- ---- one more is answered

module _ {A : Type 0} (time : ℕ) (old now new : Kept A) (r mid : Resident) (a : IsAnswered time r mid) (is : IsResident now mid) (id : ℕ)
    (due : IsNextDue id (numbered now.client.objects mid) mid.callbacks new.owned.surfaces.states.frames) (places : new.owned.surfaces.states.places ≡ now.owned.surfaces.states.places)
    (ties : new.owned.surfaces.family ≡ now.owned.surfaces.family)
    (shell : new.owned.shell ≡ now.owned.shell) (subsurfaces : new.subsurfaces ≡ now.subsurfaces)
    (m : Peer) (queues : Queues (frame_told time id) (removed id mid.peer) m) (peer : IsPeer new.client m) where
  abbrev numbers : ById ℕ
  numbers = targets_in WlSurface now.client.objects

  abbrev c : Callback
  c = due.callback

  told : Queues (frame_told time c.id) (removed c.id mid.peer) m
  told = subst (λ n. Queues (frame_told time n) (removed n mid.peer) m) (sym due.has_id) queues

  counts : is_in (frames_counting mid.owned.surfaces) c ≡ true
  counts = counting-due numbers now.owned.surfaces.states now.owned.surfaces.family mid.owned.surfaces is.owns.surfaces c due.surface due.due

  nothing-before : filter (is_in (frames_counting mid.owned.surfaces)) due.before ≡ []
  nothing-before = none-due numbers now.owned.surfaces.states now.owned.surfaces.family mid.owned.surfaces is.owns.surfaces due.before due.undue

  -- it ends by that
  pub last-over : is_some new.client.ended ≡ true → (q : Peer) × Queues (frames_told time r) (done_due r).peer q × IsLeft old new (done_due r) q
  last-over over = (
    m,
    a.follows m (over-told time mid due.before due.after c m a.status due.all_are nothing-before counts told (ap (λ o. is_some o) (sym peer.status) ∙ over)),
    record {
      peer = peer;
      owns = λ none. absurd (gone new.client.ended over none);
      frames = λ none. absurd (gone new.client.ended over none);
      subsurfaces = λ none. absurd (gone new.client.ended over none);
      numbers = λ none. absurd (gone new.client.ended over none);
    },
  )

  there : list_any (has_callback c.id) mid.callbacks ≡ true
  there =
      ap (list_any (has_callback c.id)) due.all_are ∙ any-middle (has_callback c.id) due.before due.after c ∙ here c.id
    where
      here : (n : ℕ) → ((n == n) || list_any (has_callback c.id) (due.before ++ due.after)) ≡ true
      here n = ap (λ b. b || list_any (has_callback c.id) (due.before ++ due.after)) (eq-eqb n n refl)

  heard : is_of WlCallback (objects_in now.client.objects id) ≡ true
  heard = subst (λ n. is_of WlCallback (objects_in now.client.objects n) ≡ true) due.has_id (ap (λ objects. is_of WlCallback (objects c.id)) is.peer.objects ∙ a.heard.1 c.id there)

  -- it lives on
  pub next-answered : new.client.ended ≡ None → HoldsAt now.client.objects new.client.objects id None → (next : Resident) × IsAnswered time r next × IsResident new next
      × (names_of new.client.objects ≡ names_of now.client.objects)
  next-answered alive holds =
      let lives : m.status ≡ None = sym peer.status ∙ alive in
      let next : Resident = without_it time mid due.before due.after c m a.status due.all_are nothing-before counts told in
      let names = callback-gone now.client.objects new.client.objects id heard holds in
      let requests = told-requests (frame_told time c.id) (removed c.id mid.peer) m told lives in
      let left = framed-less now.owned.surfaces.states.frames new.owned.surfaces.states.frames (numbered now.client.objects mid) (mid.peer.requests + 1) mid.callbacks (due.before ++ due.after)
      is.frames due.others
      in (
        next,
        answered-on time mid due.before due.after c m a.status due.all_are nothing-before counts told r lives a,
        record {
          lives = alive;
          peer = peer;
          owns = owned-places (names_of now.client.objects) (names_of new.client.objects) now.owned.surfaces.states new.owned.surfaces.states now.owned.surfaces.family new.owned.surfaces.family
              now.owned.shell
              new.owned.shell mid.owned places ties names shell is.owns;
          frames = rw (requests, ap (λ (n : Names). n.surfaces) names) left;
          subsurfaces = rw (subsurfaces, ap (λ (n : Names). n.surfaces) names) is.subsurfaces;
        },
        names,
      )

-- ---- none is due any more

pub last-answered : {A : Type 0} (time : ℕ) (old now : Kept A) (r mid : Resident) → IsAnswered time r mid → IsResident now mid → names_of now.client.objects ≡ names_of old.client.objects
    → AreUndue (numbered now.client.objects mid) mid.callbacks → (q : Peer) × Queues (frames_told time r) (done_due r).peer q × IsLeft old now (done_due r) q
last-answered time old now r mid a is names undue =
    let none = none-due (targets_in WlSurface now.client.objects) now.owned.surfaces.states now.owned.surfaces.family mid.owned.surfaces is.owns.surfaces mid.callbacks undue in (
      mid.peer,
      all-answered time r mid a none,
      record {
        peer = is.peer;
        owns = λ alive. subst (λ (o : Owned). IsOwned (names_of now.client.objects) now.owned.surfaces.states now.owned.surfaces.family (kept_of now.owned.shell) o) a.owned is.owns;
        frames = λ alive. rw (all-callbacks time r mid a none, going-requests (callbacks_due r) r.peer, ← a.owned, ← a.requests) is.frames;
        subsurfaces = λ alive. rw (← a.subsurfaces) is.subsurfaces;
        numbers = λ alive. keeps-names old.client.objects now.client.objects names;
      },
    )

-- A client that ended has no objects and owns nothing.
use Rattle.std.proofs.Common.{subst, ◌≡◌, ℕ, List, [], ◌∷◌, Bool, true, false, Option, Some, None, refl, ap, sym, ◌∙◌, inl, inr}
use Rattle.std.specs.Prelude.{if◌then◌else◌, ◌==◌, is_some, ◌+◌}
use Rattle.std.specs.Option.{option_and_then, option_map}
use Rattle.wl_proto.specs.declared.interface.Interface.{Interface}
use Rattle.wl_proto.specs.declared.interface.Interface.TheVariants.{WlDisplay, WlSurface, XdgSurface}
use Rattle.wl_table.specs.Objects.{Held, entry_of}
use Rattle.wl_table.specs.declared.entry.Entry.{Entry}
use Rattle.wl_client.specs.Agreement.{IsPeer}
use Rattle.spec_desktop.specs.Objects.{ById, Object, Objects, interface_number, with_id, nothing, object_of, objects_in}
use Rattle.spec_desktop.specs.Peer.{Errs, LacksMemory, Peer, Queues, QueuesOr, ended, newcomer, object_at_version, has_room, queued}
use Rattle.spec_desktop.specs.Told.{Output, Said, code_number, display_error, error_told}
use Rattle.wl_client.specs.View.{ClientView}
use Rattle.spec_desktop.specs.declared.cause.Cause.{Cause}
use Rattle.spec_desktop.specs.declared.cause.Cause.TheVariants.{Memory, Protocol, Slow}
use Rattle.spec_desktop.specs.declared.refusals.ErrorCode.TheVariants.{NoMemory}
use Rattle.spec_desktop.specs.declared.refusals.Refusal.{Refusal}
use Rattle.wl_shell.specs.Kept.{Book, kept_of}
use Rattle.std.proofs.lemmas.List.Elements.{All-from_recursion}
use Rattle.std.proofs.lemmas.Bool.{true≢false}
use Rattle.std.proofs.lemmas.Option.{none-some}
use Rattle.law_desktop.specs.Renaming.{HasEnds}
use Rattle.wl_requests.specs.declared.residents.Resident.{Resident as Kept}
use Rattle.spec_desktop.specs.Stacking.{nothing_owned}
use Rattle.wl_scene.specs.declared.owned.Owned.{Owned}
use Rattle.wl_clients.specs.Agreement.{IsSeat}
use Rattle.spec_desktop.specs.Desktop.{Resident, resident_of}
use Rattle.law_desktop.specs.Owning.{IsOwned, target_as, targets_in, by_number}
use Rattle.law_desktop.specs.RoleNames.{is_of_role, names_of, role_target, roles_in}
use Rattle.law_desktop.specs.Subsurfaces.{AreOfSurfaces}
use Rattle.spec_desktop.specs.Framing.{AreFramed}
use Rattle.wl_surface.specs.Slots.{Slots, StandForAll, kept_at, nobody, count as count_kept}
use Rattle.law_desktop.proofs.Keeping.OwningTies.{count-same, is-kept, nothing-at}
use Rattle.wl_clients.specs.Seats.{IsBare}
use Rattle.wl_clients.specs.View.{OwnedView, owned_view}
use Rattle.law_desktop.proofs.Keeping.FramingWaits.{framed-none}
use Rattle.wl_surface.specs.declared.frames.Waiting.{Waiting}
use Rattle.wl_surface.specs.Surfaces.{no_surfaces}

-- ---- what is told, and ends a client

-- it is what an end makes of a client
abbrev pub IsOver : Peer → Type 0
IsOver q = (cause : Cause) × (p : Peer) × (q ≡ ended cause p)

lives-not : (o : Option Cause) → o ≡ None → is_some o ≡ true → true ≡ false
lives-not None e h = sym h
lives-not (Some cause) e h = absurd (cc)

queued-over : (b : Bool) (Later : Type 0) (p q : Peer) → (Later → IsOver q) → QueuesOr b Later p q → IsOver q
queued-over false Later p q later h = (Slow, p, h)
queued-over true Later p q later (inl h) = (Memory, p, h)
queued-over true Later p q later (inr h) = later h

pub queues-over : (es : List Said) (p q : Peer) → p.status ≡ None → Queues es p q → is_some q.status ≡ true → IsOver q
queues-over [] p q lives h some = absurd (true≢false (lives-not q.status (ap (λ (x : Peer). x.status) h ∙ lives) some))
queues-over (e ∷ es) p q lives h some =
    queued-over (has_room p.unsent e) (Queues es (queued e p) q) p q (λ rest. queues-over es (queued e p) q lives rest some) h

pub errs-over : (refusal : Refusal) (p q : Peer) → Errs refusal p q → IsOver q
errs-over refusal p q h = queued-over (has_room p.unsent (error_told refusal)) _ p q (λ e. (Protocol refusal.object (code_number refusal.code), queued (error_told refusal) p, e)) h

pub lacks-over : (p q : Peer) → LacksMemory p q → IsOver q
lacks-over p q (inl h) = (Memory, p, h)
lacks-over p q (inr h) = (Memory, queued (error_told (display_error NoMemory)) p, h.1)

pub over-ended : (q : Peer) → IsOver q → is_some q.status ≡ true
over-ended q over = ap (λ (x : Peer). is_some x.status) over.2

-- ---- no names

-- none of its objects names a surface
pub record AreNameless (held : Held) : Type 0 where
  pub surfaces : (id : ℕ) → targets_in WlSurface held id ≡ None
  pub shell : (id : ℕ) → targets_in XdgSurface held id ≡ None
  pub roles : (id : ℕ) → roles_in held id ≡ None

target-none : (interface : Interface) (o : Option Entry) → option_map object_of o ≡ None → option_and_then (target_as interface) o ≡ None
target-none interface None h = refl
target-none interface (Some entry) h = absurd (cc)

role-none : (o : Option Entry) → option_map object_of o ≡ None → option_and_then role_target o ≡ None
role-none None h = refl
role-none (Some entry) h = absurd (cc)

at-id : (held : Held) (objects : Objects) → objects_in held ≡ objects → (id : ℕ) → option_map object_of (entry_of held id) ≡ objects id
at-id held objects e id = ap (λ (f : Objects). f id) e

pub nameless-none : (held : Held) → objects_in held ≡ nothing → AreNameless held
nameless-none held e =
    record {
      surfaces = λ id. target-none WlSurface (entry_of held id) (at-id held nothing e id);
      shell = λ id. target-none XdgSurface (entry_of held id) (at-id held nothing e id);
      roles = λ id. role-none (entry_of held id) (at-id held nothing e id);
    }

pub nameless-over : (v : ClientView) (q : Peer) → IsPeer v q → IsOver q → AreNameless v.objects
nameless-over v q is over = nameless-none v.objects (is.objects ∙ ap (λ (x : Peer). x.objects) over.2)

-- ---- nothing is owned

none-kept : (book : Book) (number : ℕ) → book ≡ [] → kept_of book number ≡ None
none-kept book number e = rw e refl

-- nothing is kept where there are no surfaces
none-counted : (slots : Slots) → StandForAll slots nobody → count_kept slots ≡ 0
none-counted slots stand = count-same slots.places [] (λ n. is-kept (kept_at slots n) None (stand n) ∙ sym (ap is_some (nothing-at n)))

pub owns-nothing : {A : Type 0} (held : Held) (owned : Owned A) → AreNameless held → IsBare owned → IsOwned (names_of held) owned.surfaces.states owned.surfaces.family (kept_of owned.shell)
    nothing_owned
owns-nothing held owned none bare =
    record {
      surfaces = record {
        ends = All-from_recursion (HasEnds no_surfaces) [] tt;
        numbered = λ id. rw (none.surfaces id) refl;
        once = λ a b number e f. absurd (no-some number (sym (none.surfaces a) ∙ e));
        apart = tt;
        stand = bare.surfaces.surfaces;
        count = none-counted owned.surfaces.states bare.surfaces.surfaces;
        hang = bare.surfaces.hang;
        there = λ number here. absurd (true≢false (sym (bare.surfaces.there number here)));
      };
      shell = record { each = λ surface. rw (none.surfaces surface) tt; apart = tt };
      known = λ number e. absurd (true≢false (sym e ∙ ap (λ o. is_some o) (none-kept owned.shell number bare.shell)));
      named = none.shell;
      toplevels = none.roles;
      roles = tt;
    }
  where
    no-some : (n : ℕ) → None ≡ Some n → ⊥
    no-some n e = absurd (cc)

-- nor is anything kept of wl_subsurfaces
subsurfaces-nothing : (numbers : ById ℕ) → AreOfSurfaces [] numbers []
subsurfaces-nothing numbers = record { named = λ id child e. absurd (none-some child e); known = λ number id e. absurd (none-some id e) }

-- an ended client of which nothing is left
pub seat-bare : {A : Type 0} (v : Kept A) (q : Peer) → IsPeer v.client q → AreNameless v.client.objects → IsBare v.owned → v.subsurfaces ≡ [] → IsSeat v.client (owned_view v) (resident_of q)
seat-bare v q is none bare subsurfaces =
    record {
      peer = is;
      owns = owns-nothing v.client.objects v.owned none bare;
      frames = subst (λ (ws : List Waiting). AreFramed ws (by_number (targets_in WlSurface v.client.objects) no_surfaces) (q.requests + 1) []) (sym bare.frames)
          (framed-none (by_number (targets_in WlSurface v.client.objects) no_surfaces) (q.requests + 1) (λ number. refl));
      subsurfaces = subst (λ (ids : List (Option ℕ)). AreOfSurfaces ids (targets_in WlSurface v.client.objects) []) (sym subsurfaces) (subsurfaces-nothing (targets_in WlSurface v.client.objects));
      ended = λ e. refl;
    }

-- ---- it stays so

abbrev interface_or : Interface → Option Object → Interface
interface_or interface None = interface
interface_or interface (Some object) = object.interface

target-same : (interface : Interface) (o p : Option Entry) → option_map object_of o ≡ option_map object_of p → option_and_then (target_as interface) o ≡ None
    → option_and_then (target_as interface) p ≡ None
target-same interface o None same none = refl
target-same interface None (Some entry) same none = absurd (cc)
target-same interface (Some a) (Some b) same none = at (interface_number b.interface == interface_number interface) refl
  where
    one : a.interface ≡ b.interface
    one = ap (λ (o : Option Object). interface_or a.interface o) same

    at : (t : Bool) → (interface_number b.interface == interface_number interface) ≡ t → (if t then Some b.target else None) ≡ None
    at false e = refl
    at true e = absurd (no-some a.target (sym none ∙ rw (one, e) refl))
      where
        no-some : (n : ℕ) → None ≡ Some n → ⊥
        no-some n e = absurd (cc)

role-same : (o p : Option Entry) → option_map object_of o ≡ option_map object_of p → option_and_then role_target o ≡ None → option_and_then role_target p ≡ None
role-same o None same none = refl
role-same None (Some entry) same none = absurd (cc)
role-same (Some a) (Some b) same none = at (is_of_role b.interface) refl
  where
    one : a.interface ≡ b.interface
    one = ap (λ (o : Option Object). interface_or a.interface o) same

    at : (t : Bool) → is_of_role b.interface ≡ t → (if t then Some b.target else None) ≡ None
    at false e = refl
    at true e = absurd (no-some a.target (sym none ∙ rw (one, e) refl))
      where
        no-some : (n : ℕ) → None ≡ Some n → ⊥
        no-some n e = absurd (cc)

pub nameless-same : (held other : Held) → objects_in held ≡ objects_in other → AreNameless held → AreNameless other
nameless-same held other same none =
    record {
      surfaces = λ id. target-same WlSurface (entry_of held id) (entry_of other id) (at-id held (objects_in other) same id) (none.surfaces id);
      shell = λ id. target-same XdgSurface (entry_of held id) (entry_of other id) (at-id held (objects_in other) same id) (none.shell id);
      roles = λ id. role-same (entry_of held id) (entry_of other id) (at-id held (objects_in other) same id) (none.roles id);
    }

-- a client that owns nothing names nothing
pub nameless-seat : (v : ClientView) (o : OwnedView) (r : Resident) → IsSeat v o r → is_some r.peer.status ≡ true → AreNameless v.objects
nameless-seat v o r seat gone =
    record {
      surfaces = λ id. none-there (targets_in WlSurface v.objects id) (owns.surfaces.numbered id);
      shell = λ id. owns.named id;
      roles = λ id. owns.toplevels id;
    }
  where
    owns : IsOwned (names_of v.objects) o.surfaces o.family (kept_of o.shell) nothing_owned
    owns = subst (λ (x : Resident). IsOwned (names_of v.objects) o.surfaces o.family (kept_of o.shell) x.owned) (seat.ended gone) seat.owns

    none-there : (n : Option ℕ) → is_some n ≡ false → n ≡ None
    none-there None e = refl
    none-there (Some n) e = absurd (true≢false e)

-- ---- a newcomer

target-display : (interface : Interface) (o : Option Entry) → (interface_number WlDisplay == interface_number interface) ≡ false → option_map object_of o ≡ Some (object_at_version WlDisplay 1)
    → option_and_then (target_as interface) o ≡ None
target-display interface None other e = refl
target-display interface (Some entry) other e =
    let is : entry.interface ≡ WlDisplay = ap (λ (o : Option Object). interface_or WlDisplay o) e in
    rw (is, other) refl

newcomer-at : (interface : Interface) (id : ℕ) (o : Option Entry) → (interface_number WlDisplay == interface_number interface) ≡ false
    → option_map object_of o ≡ with_id 1 (Some (object_at_version WlDisplay 1)) nothing id → option_and_then (target_as interface) o ≡ None
newcomer-at interface id o other e = by (id == 1) e
  where
    by : (b : Bool) → option_map object_of o ≡ (if b then Some (object_at_version WlDisplay 1) else None) → option_and_then (target_as interface) o ≡ None
    by true e = target-display interface o other e
    by false e = target-none interface o e

role-display : (o : Option Entry) → option_map object_of o ≡ Some (object_at_version WlDisplay 1) → option_and_then role_target o ≡ None
role-display None e = refl
role-display (Some entry) e =
    let is : entry.interface ≡ WlDisplay = ap (λ (o : Option Object). interface_or WlDisplay o) e in
    rw is refl

newcomer-role : (id : ℕ) (o : Option Entry) → option_map object_of o ≡ with_id 1 (Some (object_at_version WlDisplay 1)) nothing id → option_and_then role_target o ≡ None
newcomer-role id o e = by (id == 1) e
  where
    by : (b : Bool) → option_map object_of o ≡ (if b then Some (object_at_version WlDisplay 1) else None) → option_and_then role_target o ≡ None
    by true e = role-display o e
    by false e = role-none o e

pub nameless-newcomer : (v : ClientView) (output : Output) → IsPeer v (newcomer output) → AreNameless v.objects
nameless-newcomer v output is =
    record {
      surfaces = λ id. newcomer-at WlSurface id (entry_of v.objects id) refl (at-id v.objects (newcomer output).objects is.objects id);
      shell = λ id. newcomer-at XdgSurface id (entry_of v.objects id) refl (at-id v.objects (newcomer output).objects is.objects id);
      roles = λ id. newcomer-role id (entry_of v.objects id) (at-id v.objects (newcomer output).objects is.objects id);
    }

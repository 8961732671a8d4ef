-- What a client is told of the pointer's focus, and what that leaves of it.
use Rattle.std.proofs.Common.{Bool, List, None, Option, Some, [], ap, append-nil, append_assoc, false, inl, inr, refl, sym, true, ℕ, ◌++◌, ◌∙◌, ◌∷◌, ◌≡◌}
use Rattle.std.proofs.lemmas.Bool.{or_right}
use Rattle.std.specs.Prelude.{◌==◌, ◌&&◌, ◌||◌, if◌then◌else◌, flat_map, is_some}
use Rattle.wl_wire.specs.Wire.{Word}
use Rattle.wl_proto.specs.declared.interface.Interface.TheVariants.{WlPointer}
use Rattle.wl_proto.specs.Messages.{says}
use Rattle.spec_desktop.specs.declared.cause.Cause.{Cause}
use Rattle.spec_desktop.specs.declared.cause.Cause.TheVariants.{Memory, Slow}
use Rattle.spec_desktop.specs.Peer.{Peer, has_room, queued}
use Rattle.spec_desktop.specs.Told.{Said, said, said_bytes}
use Rattle.wl_surface.specs.Surfaces.{history_in}
use Rattle.wl_shell.specs.Popups.{is_among}
use Rattle.spec_desktop.specs.Windows.{Place, Window}
use Rattle.spec_desktop.specs.Changing.{drawing}
use Rattle.spec_desktop.specs.Desktop.{Resident}
use Rattle.spec_desktop.specs.Pointing.{entered_surface, has_pointers, left_surface, to_pointers}
use Rattle.spec_desktop.specs.Replies.{entered_at}
use Rattle.spec_desktop.specs.Settling.{QueuesFirst, QueuesTo, leave_drawn, told_drawn}
use Rattle.law_desktop.specs.Others.{AreOfFocus, IsOfFocus, IsToldOfFocus, IsToldTimes, told_once}
use Rattle.law_desktop.proofs.Marks.Stacks.{equal-numbers}
use Rattle.law_desktop.proofs.Truth.{and-right}

-- ---- lists

focus-append : (pointers : List ℕ) (serial : ℕ) (xs ys : List Said) → AreOfFocus pointers serial xs → AreOfFocus pointers serial ys → AreOfFocus pointers serial (xs ++ ys)
focus-append pointers serial [] ys f g = g
focus-append pointers serial (x ∷ xs) ys f g = (f.0, focus-append pointers serial xs ys f.1 g)

-- ---- events are queued

-- why an event of the focus wasn't queued, if one wasn't
abbrev pub Unqueued : Option Cause → List ℕ → List ℕ → Type 0
Unqueued None pointers unsent = Unit {0}
Unqueued (Some cause) pointers unsent =
    (serial : ℕ) × (event : Said) × IsOfFocus pointers serial event × (cause ≡ (if has_room unsent event then Memory else Slow))

-- what was queued of events of the focus
abbrev IsQueuedTo : List ℕ → ℕ → Peer → Peer → Option Cause → Type 0
IsQueuedTo pointers serial p q why =
    (told : List Said) × AreOfFocus pointers serial told × (q ≡ record p { unsent = p.unsent ++ flat_map said_bytes told }) × Unqueued why pointers q.unsent

unqueued-so : (pointers : List ℕ) (p q : Peer) (why other : Option Cause) → q ≡ p → why ≡ other → Unqueued other pointers p.unsent → Unqueued why pointers q.unsent
unqueued-so pointers p q why other e f u = rw (f, e) u

stops-here : (pointers : List ℕ) (serial : ℕ) (p q : Peer) (why other : Option Cause) → q ≡ p → why ≡ other → Unqueued other pointers p.unsent → IsQueuedTo pointers serial p q why
stops-here pointers serial p q why other e f u =
    ([], tt, e ∙ ap (λ bytes. record p { unsent = bytes }) (sym (append-nil p.unsent)), unqueued-so pointers p q why other e f u)

past_limit : (pointers : List ℕ) (serial : ℕ) (event : Said) (unsent : List ℕ) → IsOfFocus pointers serial event → has_room unsent event ≡ false → Unqueued (Some Slow) pointers unsent
past_limit pointers serial event unsent f e = (serial, event, f, sym (ap (λ (b : Bool). if b then Memory else Slow) e))

no_memory : (pointers : List ℕ) (serial : ℕ) (event : Said) (unsent : List ℕ) → IsOfFocus pointers serial event → has_room unsent event ≡ true → Unqueued (Some Memory) pointers unsent
no_memory pointers serial event unsent f e = (serial, event, f, sym (ap (λ (b : Bool). if b then Memory else Slow) e))

one-more : (pointers : List ℕ) (serial : ℕ) (event : Said) (p q : Peer) (why : Option Cause) → IsOfFocus pointers serial event → IsQueuedTo pointers serial (queued event p) q why
    → IsQueuedTo pointers serial p q why
one-more pointers serial event p q why f h =
    (event ∷ h.0, (f, h.1), h.2 ∙ ap (λ bytes. record p { unsent = bytes }) (append_assoc p.unsent (said_bytes event) (flat_map said_bytes h.0)), h.3)

queued-to : (pointers : List ℕ) (serial : ℕ) (events : List Said) (p q : Peer) (why : Option Cause) → AreOfFocus pointers serial events → QueuesTo events p q why → IsQueuedTo pointers serial p q why
queued-to pointers serial [] p q why f h = stops-here pointers serial p q why None h.0 h.1 tt
queued-to pointers serial (event ∷ events) p q why f h =
    at (has_room p.unsent event) refl (λ k. queued-to pointers serial events (queued event p) q why f.1 k) h
  where
    at : (b : Bool) → has_room p.unsent event ≡ b → (QueuesTo events (queued event p) q why → IsQueuedTo pointers serial (queued event p) q why)
        → QueuesFirst b (QueuesTo events (queued event p) q why) p q why → IsQueuedTo pointers serial p q why
    at false e more k = stops-here pointers serial p q why (Some Slow) k.0 k.1 (past_limit pointers serial event p.unsent f.0 e)
    at true e more (inl k) = stops-here pointers serial p q why (Some Memory) k.0 k.1 (no_memory pointers serial event p.unsent f.0 e)
    at true e more (inr k) = one-more pointers serial event p q why f.0 (more k)

-- ---- a client is told

-- a client was told of the focus, and why no more of that was queued, if it wasn't
abbrev pub ToldSo : Resident → Resident → Option Cause → Type 0
ToldSo r q why = IsToldOfFocus r q × Unqueued why q.pointers q.peer.unsent

-- with a serial, or of nothing
drawn-told : (b : Bool) (events : List Said) (r : Resident) (q : Peer) (why : Option Cause) → AreOfFocus r.pointers r.peer.serial events → (b ≡ true → has_pointers r ≡ true)
    → (b ≡ false → events ≡ []) → QueuesTo events (drawing b r).peer q why → ToldSo r (record (drawing b r) { peer = q }) why
drawn-told true events r q why f has none h =
    let k = queued-to r.pointers r.peer.serial events (drawing true r).peer q why f h in
    ((k.0 ∷ [], (has refl, k.1, ap (λ (p : Peer). record r { peer = p }) k.2)), k.3)
drawn-told false events r q why f has none h =
    let k : QueuesTo [] r.peer q why = rw (none refl) at h in
    (([], ap (λ (p : Peer). record r { peer = p }) k.0), unqueued-so r.pointers r.peer q why None k.0 k.1 tt)

-- it is told so of each of its wl_pointers
abbrev MakesFocus : List ℕ → ℕ → (ℕ → List Said) → Type 0
MakesFocus pointers serial event = (p : ℕ) → is_among p pointers ≡ true → AreOfFocus pointers serial (event p)

to-pointers : (all : List ℕ) (serial : ℕ) (event : ℕ → List Said) → MakesFocus all serial event → (ps : List ℕ) → ((p : ℕ) → is_among p ps ≡ true → is_among p all ≡ true)
    → AreOfFocus all serial (flat_map event ps)
to-pointers all serial event makes [] among = tt
to-pointers all serial event makes (p ∷ ps) among =
    focus-append all serial (event p) (flat_map event ps) (makes p (among p (ap (λ (b : Bool). b || is_among p ps) (equal-numbers p p refl))))
    (to-pointers all serial event makes ps (λ other is. among other (or_right (p == other) (is_among other ps) is)))

-- nothing is told where there is none
unless_pointers : (event : ℕ → List Said) (r : Resident) → has_pointers r ≡ false → to_pointers event r ≡ []
unless_pointers event r none = at r.pointers refl
  where
    at : (ps : List ℕ) → r.pointers ≡ ps → flat_map event r.pointers ≡ []
    at [] e = ap (λ (ps : List ℕ). flat_map event ps) e
    at (p ∷ ps) e = let k : true ≡ false = rw e at none in absurd (cc)

-- ---- the surface that had the focus is left, and another is entered

-- wl_pointer.leave
abbrev left_told : ℕ → ℕ → ℕ → List Said
left_told serial surface pointer = said pointer (says WlPointer 1 (Word serial ∷ Word surface ∷ [])) ∷ []

left-focus : (surface : ℕ) (r : Resident) → AreOfFocus r.pointers r.peer.serial (left_surface surface r)
left-focus surface r = at (is_some (history_in surface r.owned.surfaces))
  where
    at : (b : Bool) → AreOfFocus r.pointers r.peer.serial (if b then to_pointers (left_told r.peer.serial surface) r else [])
    at true = to-pointers r.pointers r.peer.serial (left_told r.peer.serial surface) (λ p is. ((p, is, inr (surface, refl)), tt)) r.pointers (λ p is. is)
    at false = tt

left-none : (surface : ℕ) (r : Resident) → (is_some (history_in surface r.owned.surfaces) && has_pointers r) ≡ false → left_surface surface r ≡ []
left-none surface r none = at (is_some (history_in surface r.owned.surfaces)) none
  where
    at : (b : Bool) → (b && has_pointers r) ≡ false → (if b then to_pointers (left_told r.peer.serial surface) r else []) ≡ []
    at true e = unless_pointers (left_told r.peer.serial surface) r e
    at false e = refl

entered-focus : (at : Option Place) (w : Option Window) (r : Resident) → AreOfFocus r.pointers r.peer.serial (entered_surface at w r)
entered-focus at w r =
    to-pointers r.pointers r.peer.serial (λ pointer. entered_at pointer r.peer.serial at w) (λ p is. of at w p is) r.pointers (λ p is. is)
  where
    of : (at : Option Place) (w : Option Window) (p : ℕ) → is_among p r.pointers ≡ true → AreOfFocus r.pointers r.peer.serial (entered_at p r.peer.serial at w)
    of None w p is = tt
    of (Some at) None p is = tt
    of (Some at) (Some w) p is = ((p, is, inl (w.surface, _, _, refl)), tt)

-- a change of a client, with what it is told of it, does so to it, for this reason if it isn't told all
abbrev pub TellsBy : (Resident → Resident → Option Cause → Type 0) → (Resident → Resident) → (Resident → List Said) → Type 0
TellsBy T change events = (r : Resident) (q : Peer) (why : Option Cause) → QueuesTo (events r) (change r).peer q why → T r (record (change r) { peer = q }) why

-- so does what it is told of the focus
pub record TellsFocus (T : Resident → Resident → Option Cause → Type 0) : Type 0 where
  pub leave : (surface : ℕ) → TellsBy T (leave_drawn surface) (left_surface surface)
  pub enter : (at : Option Place) (w : Option Window) → TellsBy T told_drawn (entered_surface at w)

pub told-focus : TellsFocus ToldSo
told-focus = record {
  leave = λ surface r q why h.
      drawn-told (is_some (history_in surface r.owned.surfaces) && has_pointers r) (left_surface surface r) r q why (left-focus surface r)
      (and-right (is_some (history_in surface r.owned.surfaces)) (has_pointers r)) (left-none surface r) h;
  enter = λ at w r q why h.
      drawn-told (has_pointers r) (entered_surface at w r) r q why (entered-focus at w r) (λ has. has) (λ none. unless_pointers (λ pointer. entered_at pointer r.peer.serial at w) r none) h;
}

-- ---- told again

pub told-none : (r : Resident) → IsToldOfFocus r r
told-none r = ([], refl)

told-times : (times more : List (List Said)) (r p q : Resident) → IsToldTimes times r p → IsToldTimes more p q → IsToldTimes (times ++ more) r q
told-times [] more r p q h k = rw h at k
told-times (events ∷ times) more r p q h k = (h.0, h.1, told-times times more (told_once events r) p q h.2 k)

pub told-then : (r p q : Resident) → IsToldOfFocus r p → IsToldOfFocus p q → IsToldOfFocus r q
told-then r p q h k = (h.0 ++ k.0, told-times h.0 k.0 r p q h.1 k.1)

-- ---- a client without wl_pointers

pointless : (r : Resident) → r.pointers ≡ [] → has_pointers r ≡ true → ⊥
pointless r none e = absurd (cc (rw none at e))

pub told-nothing : (r q : Resident) → r.pointers ≡ [] → IsToldOfFocus r q → q ≡ r
told-nothing r q none h = at h.0 h.1
  where
    at : (times : List (List Said)) → IsToldTimes times r q → q ≡ r
    at [] k = k
    at (events ∷ times) k = absurd (pointless r none k.0)

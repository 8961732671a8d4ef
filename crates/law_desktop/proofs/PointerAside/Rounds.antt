-- The ends of a step as a loop of rounds.
use Rattle.std.proofs.Common.{◌≡◌, ℕ, zero, suc, ◌+◌, ◌≤◌, ◌<◌, List, [], ◌∷◌, ◌++◌, Bool, true, false, Option, Some, None, refl, ap, subst, sym, ◌∙◌, append_assoc, arith, inr}
use Rattle.std.proofs.lemmas.Bool.{and_from}
use Rattle.std.specs.Prelude.{◌-◌, ◌==◌, ◌||◌, is_some, if◌then◌else◌}
use Rattle.spec_desktop.specs.Told.{Said}
use Rattle.spec_desktop.specs.declared.cause.Cause.{Cause}
use Rattle.spec_desktop.specs.declared.cause.Cause.TheVariants.{Slow}
use Rattle.spec_desktop.specs.Peer.{Peer, has_room, queued}
use Rattle.spec_desktop.specs.Pointer.{Pointer, Target, is_same, settled}
use Rattle.spec_desktop.specs.PointerActions.{Settle, enter_of, leave_of, Leave, Enter}
use Rattle.spec_desktop.specs.Windows.{Window}
use Rattle.spec_desktop.specs.Desktop.{Desktop, Resident, client_at, with_client}
use Rattle.spec_desktop.specs.Pointing.{entered_surface, left_surface}
use Rattle.spec_desktop.specs.Replies.{focus_window}
use Rattle.spec_desktop.specs.Settling.{AppliesAll, Midstep, Settles, Strike, TellsAt, TellsUnless, ended_by, is_struck, Applies, unstruck}
use Rattle.spec_desktop.specs.Settling.{QueuesFirst, QueuesTo, Tells, leave_drawn, struck_by, told_drawn, with_focus}
use Rattle.spec_desktop.specs.Stacked.{all_windows}
use Rattle.spec_desktop.specs.Through.{EndsFirstThrough, SettlesAllThrough, ending_through}
use Rattle.law_desktop.specs.Focus.{IsSettled}
use Rattle.law_desktop.proofs.Marks.Stacks.{same-number}
use Rattle.law_desktop.proofs.Runs.Ends.{acts-lead, ended-after, ended-one}
use Rattle.law_desktop.proofs.Runs.Fates.{AreStruck, lasting, lasting-within}
use Rattle.law_desktop.proofs.Runs.Settled.{ShowsSame, put-shows, settles-settled, shows-itself, went-settled}
use Rattle.law_desktop.specs.Pointed.Rounds.{AreRounds, AreToEnd, ButtonsEnd, IsRound, MotionsEnd, RoundsAreFew, RoundsSettle, SettlesIdly, SettlesAtLast, SettledAtOnce}

-- ---- rounds and what comes then

one-round : (n : ℕ) (old mid : Midstep) (path later : List Desktop) (new : Desktop) → IsRound old path mid → SettlesAllThrough n mid later new → SettlesAllThrough (suc n) old (path ++ later) new
one-round n old mid path later new round h =
    let s : Strike = round.1 in
    let now : Desktop = round.0.desktop in
    let rest : SettlesAllThrough n (record { desktop = ended_by s now; struck = round.2 }) later new = subst (λ (m : Midstep). SettlesAllThrough n m later new) round.6 h in
    let ends : EndsFirstThrough (SettlesAllThrough n) (s ∷ round.2) now (ended_by s now ∷ later) new = (later, refl, rest) in (
      round.0,
      round.3,
      ended_by s now ∷ later,
      ap (λ (p : List Desktop). p ++ later) round.5,
      subst (λ (ss : List Strike). EndsFirstThrough (SettlesAllThrough n) ss now (ended_by s now ∷ later) new) (sym round.4) ends,
    )

rounds-lead : (k n : ℕ) (old mid : Midstep) (before later : List Desktop) (new : Desktop) → AreRounds k old before mid → SettlesAllThrough n mid later new
    → SettlesAllThrough (k + n) old (before ++ later) new
rounds-lead zero n old mid before later new rounds h =
    let same : n ≡ 0 + n = omega arith in
    subst (λ (k : ℕ). SettlesAllThrough k old (before ++ later) new) same
    (subst (λ (p : List Desktop). SettlesAllThrough n old (p ++ later) new) (sym rounds.0) (subst (λ (m : Midstep). SettlesAllThrough n m later new) rounds.1 h))
rounds-lead (suc k) n old mid before later new rounds h =
    let one : SettlesAllThrough (suc n) rounds.1 (rounds.2 ++ later) new = one-round n rounds.1 mid rounds.2 later new rounds.4 h in
    let all : SettlesAllThrough (k + suc n) old (rounds.0 ++ (rounds.2 ++ later)) new = rounds-lead k (suc n) old rounds.1 rounds.0 (rounds.2 ++ later) new rounds.3 one in
    let count : k + suc n ≡ suc k + n = omega arith in
    subst (λ (m : ℕ). SettlesAllThrough m old (before ++ later) new) count
    (subst (λ (p : List Desktop). SettlesAllThrough (k + suc n) old p new) (sym (append_assoc rounds.0 rounds.2 later) ∙ ap (λ (p : List Desktop). p ++ later) (sym rounds.5)) all)

-- ---- the focus is settled

pub rounds-settle : RoundsSettle
rounds-settle n most old mid last path fewer rounds settles none =
    let once : SettlesAllThrough (suc (most - suc n)) mid (last.desktop ∷ []) last.desktop =
    (last, settles, [], refl, subst (λ (ss : List Strike). EndsFirstThrough (SettlesAllThrough (most - suc n)) ss last.desktop [] last.desktop) (sym none) (refl, refl)) in
    let count : n + suc (most - suc n) ≡ most = omega (arith, fewer) in (
      subst (λ (m : ℕ). SettlesAllThrough m old (path ++ last.desktop ∷ []) last.desktop) count
          (rounds-lead n (suc (most - suc n)) old mid path (last.desktop ∷ []) last.desktop rounds once),
      settles-settled mid last settles,
    )

-- ---- there are few rounds

to-end : (ss : List Strike) (d : Desktop) → AreStruck ss d.clients → AreToEnd ss d
to-end [] d struck = tt
to-end (s ∷ ss) d struck = ((struck.0.there, struck.0.is, struck.0.alive), struck.1, to-end ss d struck.2)

pub of-end : (ss : List Strike) (d : Desktop) → AreToEnd ss d → AreStruck ss d.clients
of-end [] d struck = tt
of-end (s ∷ ss) d struck = (record { there = struck.0.0; is = struck.0.1; alive = struck.0.2 }, struck.1, of-end ss d struck.2)

-- a round ends one
round-fewer : (old new : Midstep) (path : List Desktop) → AreStruck old.struck old.desktop.clients → IsRound old path new
    → AreStruck new.struck new.desktop.clients × (suc (lasting new.desktop.clients) ≤ lasting old.desktop.clients)
round-fewer old new path struck round =
    let s : Strike = round.1 in
    let now : Desktop = round.0.desktop in
    let settles = (acts-lead Settle old struck).follows round.0 round.3 in
    let there : AreStruck (s ∷ round.2) now.clients = subst (λ (ss : List Strike). AreStruck ss now.clients) round.4 settles.sound in
    let fewer : suc (lasting (ended_by s now).clients) ≤ lasting old.desktop.clients = omega (arith, settles.fewer, ended-one s round.2 now there) in
    subst (λ (m : Midstep). AreStruck m.struck m.desktop.clients × (suc (lasting m.desktop.clients) ≤ lasting old.desktop.clients)) (sym round.6)
    ((ended-after s round.2 now there).sound, fewer)

pub rounds-fewer : (n : ℕ) (old new : Midstep) (path : List Desktop) → AreStruck old.struck old.desktop.clients → AreRounds n old path new
    → AreStruck new.struck new.desktop.clients × (n + lasting new.desktop.clients ≤ lasting old.desktop.clients)
rounds-fewer zero old new path struck rounds =
    let few : 0 + lasting old.desktop.clients ≤ lasting old.desktop.clients = omega arith in
    subst (λ (m : Midstep). AreStruck m.struck m.desktop.clients × (0 + lasting m.desktop.clients ≤ lasting old.desktop.clients)) (sym rounds.1) (struck, few)
rounds-fewer (suc n) old new path struck rounds =
    let before = rounds-fewer n old rounds.1 rounds.0 struck rounds.3 in
    let one = round-fewer rounds.1 new rounds.2 before.0 rounds.4 in
    (one.0, omega (arith, before.1, one.1))

pub rounds-are-few : RoundsAreFew
rounds-are-few n old new path short struck rounds =
    let few = rounds-fewer n old new path (of-end old.struck old.desktop struck) rounds in
    (omega (arith, few.1, lasting-within old.desktop.clients, short), to-end new.struck new.desktop few.0)

-- ---- what is settled stays so

same-itself : (t : Option Target) → is_same t t ≡ true
same-itself None = refl
same-itself (Some t) = and_from (t.client == t.client) (t.surface == t.surface) (same-number t.client) (same-number t.surface)

idle-acts : (old new : Midstep) → IsSettled old.desktop → Settles old new → new ≡ old
idle-acts old new is h =
    let same : is_same old.desktop.pointer.focus (settled old.desktop.pointer (all_windows old.desktop)) ≡ true =
    ap (is_same old.desktop.pointer.focus) (sym is) ∙ same-itself old.desktop.pointer.focus in
    subst (λ (b : Bool). AppliesAll (all_windows old.desktop)
    (if b then [] else leave_of old.desktop.pointer.focus ++ enter_of (settled old.desktop.pointer (all_windows old.desktop))) old new) same h

idles : (old : Midstep) → IsSettled old.desktop → Settles old old
idles old is =
    let same : is_same old.desktop.pointer.focus (settled old.desktop.pointer (all_windows old.desktop)) ≡ true =
    ap (is_same old.desktop.pointer.focus) (sym is) ∙ same-itself old.desktop.pointer.focus in
    subst (λ (b : Bool). AppliesAll (all_windows old.desktop)
    (if b then [] else leave_of old.desktop.pointer.focus ++ enter_of (settled old.desktop.pointer (all_windows old.desktop))) old old) (sym same) refl

pub settles-idly : SettlesIdly
settles-idly old is = (idles old is, λ new h. idle-acts old new is h)

pub settled-at-once : SettledAtOnce
settled-at-once d is = (rounds-settle 0 33 (unstruck d) (unstruck d) (unstruck d) [] few (refl, refl) (idles (unstruck d) is) refl).0
  where
    few : 0 < 33
    few = omega arith

-- ---- a motion

-- a client is told something that leaves it what it owns, and nothing else changes
pub told-shows : (change : Resident → Resident) (events : Resident → List Said) → ((r : Resident) → (change r).owned ≡ r.owned) → (c : ℕ) (old new : Midstep) → Tells change events c old new
    → (new.desktop.pointer ≡ old.desktop.pointer) × ShowsSame old.desktop new.desktop
told-shows change events keeps c old new h = at (client_at c old.desktop) refl h
  where
    stays : new ≡ old → (new.desktop.pointer ≡ old.desktop.pointer) × ShowsSame old.desktop new.desktop
    stays e = (ap (λ (m : Midstep). m.desktop.pointer) e, shows-itself old.desktop new.desktop (ap (λ (m : Midstep). m.desktop) e))

    unless : (b : Bool) (r : Resident) → client_at c old.desktop ≡ Some r → TellsUnless b change events c r old new
        → (new.desktop.pointer ≡ old.desktop.pointer) × ShowsSame old.desktop new.desktop
    unless true r there h = stays h
    unless false r there h = (
      ap (λ (m : Midstep). m.desktop.pointer) h.3,
      subst (λ (m : Midstep). ShowsSame old.desktop m.desktop) (sym h.3) (put-shows c r (Some (record (change r) { peer = h.0 })) old.desktop there (keeps r)),
    )

    at : (o : Option Resident) → client_at c old.desktop ≡ o → TellsAt change events c o old new → (new.desktop.pointer ≡ old.desktop.pointer) × ShowsSame old.desktop new.desktop
    at None there h = stays h
    at (Some r) there h = unless (is_some r.peer.status || is_struck c old.struck) r there h

pub motions-end : MotionsEnd
motions-end time old told path new went h =
    let is : IsSettled told.desktop = went-settled time old told went in
    let ends : ending_through path new h.0 = (h.2, h.3, h.4) in
    (is, subst (λ (m : Midstep). ending_through path new m) (idle-acts told h.0 is h.1) ends)

pub buttons-end : ButtonsEnd
buttons-end told path new h = (h.0, h.1, (h.2, h.3, h.4))

-- ---- the focus may be settled

-- events are queued, or one of them isn't for want of room
queues-some : (events : List Said) (p : Peer) → (q : Peer) × (why : Option Cause) × QueuesTo events p q why
queues-some [] p = (p, None, (refl, refl))
queues-some (event ∷ events) p = at (has_room p.unsent event) (queues-some events (queued event p))
  where
    at : (b : Bool) → ((q : Peer) × (why : Option Cause) × QueuesTo events (queued event p) q why)
        → (q : Peer) × (why : Option Cause) × QueuesFirst b (QueuesTo events (queued event p) q why) p q why
    at true later = (later.0, later.1, inr later.2)
    at false later = (p, Some Slow, (refl, refl))

tells-some : (change : Resident → Resident) (events : Resident → List Said) (c : ℕ) (old : Midstep) → (new : Midstep) × Tells change events c old new
tells-some change events c old = at (client_at c old.desktop)
  where
    unless : (b : Bool) (r : Resident) → (new : Midstep) × TellsUnless b change events c r old new
    unless true r = (old, refl)
    unless false r =
        let told = queues-some (events r) (change r).peer in
        (record { desktop = with_client c (Some (record (change r) { peer = told.0 })) old.desktop; struck = struck_by c told.1 old.struck }, (told.0, told.1, told.2, refl))

    at : (o : Option Resident) → (new : Midstep) × TellsAt change events c o old new
    at None = (old, refl)
    at (Some r) = unless (is_some r.peer.status || is_struck c old.struck) r

left-some : (windows : List Window) (t : Target) (old : Midstep) → (new : Midstep) × Applies windows (Leave t) old new
left-some windows t old =
    let told = tells-some (leave_drawn t.surface) (left_surface t.surface) t.client old in (with_focus None told.0, (told.0, told.1, refl))

entered-some : (windows : List Window) (t : Target) (old : Midstep) → (new : Midstep) × Applies windows (Enter t) old new
entered-some windows t old =
    let told = tells-some told_drawn (entered_surface old.desktop.pointer.place (focus_window (Some t) windows)) t.client old in (with_focus (Some t) told.0, (told.0, told.1, refl))

turns-some : (windows : List Window) (s t : Option Target) (old : Midstep) → (new : Midstep) × AppliesAll windows (leave_of s ++ enter_of t) old new
turns-some windows None None old = (old, refl)
turns-some windows None (Some t) old = let entered = entered-some windows t old in (entered.0, (entered.0, entered.1, refl))
turns-some windows (Some s) None old = let left = left-some windows s old in (left.0, (left.0, left.1, refl))
turns-some windows (Some s) (Some t) old =
    let left = left-some windows s old in
    let entered = entered-some windows t left.0 in (entered.0, (left.0, left.1, (entered.0, entered.1, refl)))

settles-some : (old : Midstep) → (new : Midstep) × Settles old new
settles-some old = at (is_same p.focus to)
  where
    ws : List Window
    ws = all_windows old.desktop

    p : Pointer
    p = old.desktop.pointer

    to : Option Target
    to = settled p ws

    at : (b : Bool) → (new : Midstep) × AppliesAll ws (if b then [] else leave_of p.focus ++ enter_of to) old new
    at true = (old, refl)
    at false = turns-some ws p.focus to old

first-some : (n : ℕ) → ((m : Midstep) → (path : List Desktop) × (new : Desktop) × SettlesAllThrough n m path new) → (ss : List Strike) (d : Desktop)
    → (path : List Desktop) × (new : Desktop) × EndsFirstThrough (SettlesAllThrough n) ss d path new
first-some n next [] d = ([], d, (refl, refl))
first-some n next (s ∷ ss) d =
    let k = next (record { desktop = ended_by s d; struck = ss }) in (ended_by s d ∷ k.0, k.1, (k.0, refl, k.2))

all-some : (n : ℕ) (old : Midstep) → (path : List Desktop) × (new : Desktop) × SettlesAllThrough n old path new
all-some zero old = ([], old.desktop, (refl, refl))
all-some (suc n) old =
    let now = settles-some old in
    let k = first-some n (all-some n) now.0.struck now.0.desktop in
    (now.0.desktop ∷ k.0, k.1, (now.0, now.1, k.0, refl, k.2))

first-last : (n : ℕ) → ((m : Midstep) → AreStruck m.struck m.desktop.clients → lasting m.desktop.clients < n → (path : List Desktop) (new : Desktop) → SettlesAllThrough n m path new → IsSettled new)
    → (ss : List Strike) (d : Desktop) → AreStruck ss d.clients → lasting d.clients ≤ n → IsSettled d → (path : List Desktop) (new : Desktop) → EndsFirstThrough (SettlesAllThrough n) ss d path new
    → IsSettled new
first-last n next [] d struck few is path new h = subst IsSettled (sym h.1) is
first-last n next (s ∷ ss) d struck few is path new h =
    next (record { desktop = ended_by s d; struck = ss }) (ended-after s ss d struck).sound (omega (arith, ended-one s ss d struck, few)) h.0 new h.2

all-last : (n : ℕ) (old : Midstep) → AreStruck old.struck old.desktop.clients → lasting old.desktop.clients < n → (path : List Desktop) (new : Desktop) → SettlesAllThrough n old path new
    → IsSettled new
all-last zero old struck few path new h = let never : ⊥ = omega (arith, few) in absurd never
all-last (suc n) old struck few path new h =
    let after = (acts-lead Settle old struck).follows h.0 h.1 in
    first-last n (all-last n) h.0.struck h.0.desktop after.sound (omega (arith, after.fewer, few)) (settles-settled old h.0 h.1) h.2 new h.4

pub settles-at-last : SettlesAtLast
settles-at-last old short struck = (
  all-some 33 old,
  λ path new h. all-last 33 old (of-end old.struck old.desktop struck) (omega (arith, lasting-within old.desktop.clients, short)) path new h,
)

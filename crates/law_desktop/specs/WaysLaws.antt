-- Laws of the ways on which a message of a client leads wherever the pointer is put aside: the desktops on them, and what is marked where a
-- client ends.
use Rattle.std.specs.Prelude.{ℕ, ℤ, ◌≡◌, ◌⊎◌, ◌==◌, Bool, true, not, is_some, Some, None, List, [], ◌∷◌, filter}
use Rattle.wl_wire.specs.Wire.{split_of}
use Rattle.spec_desktop.specs.declared.cause.Cause.{Cause}
use Rattle.spec_desktop.specs.Peer.{ended}
use Rattle.spec_desktop.specs.declared.answers.Done.{Done}
use Rattle.spec_desktop.specs.Act.{Leave}
use Rattle.spec_desktop.specs.Desktop.{Desktop, Resident, client_at, status_in}
use Rattle.spec_desktop.specs.Framing.{FramesToldAt}
use Rattle.spec_desktop.specs.Happens.{Happens, Serves}
use Rattle.spec_desktop.specs.Marks.{in_output}
use Rattle.spec_desktop.specs.Moments.{marks_at_least, marks_at_least_through, marks_at_most, marks_at_most_through}
use Rattle.spec_desktop.specs.Settling.{EndsAndSettles, becomes, unstruck}
use Rattle.spec_desktop.specs.Stacked.{all_windows}
use Rattle.spec_desktop.specs.Through.{ServesThrough}
use Rattle.law_desktop.specs.InOrder.{InOrder}
use Rattle.law_desktop.specs.Shown.{ShownStand}
use Rattle.law_desktop.specs.Touching.{has_window_at}
use Rattle.law_desktop.specs.Changes.{HasTrees}
use Rattle.law_desktop.specs.Ways.{IsGone, RouteBy, Struck, TakesAs}

-- ---- the desktops on the way

-- A living client's message leads to the last desktop at once, or by one on which it is done, where an unqueued event ends the client.
abbrev pub MessagesLeadSo : Type 0
MessagesLeadSo =
    (b : Bool) (c : ℕ) (r : Resident) (d e : Desktop) → InOrder d → ShownStand d → client_at c d ≡ Some r
    → r.peer.status ≡ None → TakesAs b (split_of r.peer.rest) c r d e
    → (path : List Desktop) × ServesThrough c d path e × RouteBy b c r d path e

-- So it is served.
abbrev pub MessagesAreServed : Type 0
MessagesAreServed =
    (b : Bool) (c : ℕ) (r : Resident) (d e : Desktop) → InOrder d → client_at c d ≡ Some r → r.peer.status ≡ None
    → TakesAs b (split_of r.peer.rest) c r d e → Serves c d e

-- ---- a client that ends

-- By a message of its own: it was told an error, or not all that it was to be told was queued, or there was no memory.
abbrev pub EndedIsGone : Type 0
EndedIsGone =
    (c : ℕ) (r : Resident) (d e : Desktop) → InOrder d → client_at c d ≡ Some r → Serves c d e
    → is_some (status_in c e) ≡ true → IsGone c d e

-- By itself, as where there is no memory for what it sent.
abbrev pub EndIsGone : Type 0
EndIsGone =
    (c : ℕ) (r : Resident) (cause : Cause) (d e : Desktop) → InOrder d → client_at c d ≡ Some r
    → EndsAndSettles (unstruck (becomes c r (ended cause r.peer) d)) e → IsGone c d e

-- As it is told of a frame, where not all of that was queued, or it ended before.
abbrev pub UntoldIsGone : Type 0
UntoldIsGone =
    (time c : ℕ) (d e : Desktop) → InOrder d → FramesToldAt time c (client_at c d) d e → is_some (status_in c e) ≡ true → IsGone c d e

-- As it leaves, whether it was there and lived, or not.
abbrev pub LeftIsGone : Type 0
LeftIsGone = (c : ℕ) (done : Done) (d e : Desktop) → InOrder d → Happens (Leave c) done d e → IsGone c d e

-- ---- the windows of a client that ended

-- They are gone from among those of the others.
abbrev pub GoneWindows : Type 0
GoneWindows =
    (c : ℕ) (d e : Desktop) → IsGone c d e → all_windows e ≡ filter (λ w. not (w.owner.client == c)) (all_windows d)

-- What is marked at least of its end lies in a window that it had.
abbrev pub GoneMarksLeast : Type 0
GoneMarksLeast =
    (c : ℕ) (d e : Desktop) → HasTrees d → IsGone c d e → (x y : ℤ) → marks_at_least d e x y ≡ true → has_window_at c x y d ≡ true

-- Each point of the output in a window that it had is among what is marked at most.
abbrev pub GoneMarksMost : Type 0
GoneMarksMost =
    (c : ℕ) (d e : Desktop) → IsGone c d e → (x y : ℤ) → in_output d.output.width d.output.height x y ≡ true
    → has_window_at c x y d ≡ true → marks_at_most d e None x y ≡ true

-- ---- what is marked on the ways

-- On one that leads at once to its last desktop: what that step marks.
abbrev pub TwiceMarks : Type 0
TwiceMarks =
    (d e : Desktop) (path : List Desktop) → path ≡ e ∷ e ∷ [] → HasTrees e → (x y : ℤ)
    → (marks_at_least_through all_windows d path x y ≡ true → marks_at_least d e x y ≡ true)
    × (marks_at_most d e None x y ≡ true → marks_at_most_through all_windows None d path x y ≡ true)

-- On one on which a client was struck: what the message's own change marks, and the windows that its client had then.
abbrev pub StruckMarks : Type 0
StruckMarks =
    (c : ℕ) (r : Resident) (d : Desktop) (path : List Desktop) (e : Desktop) (s : Struck c r d path e) → HasTrees e
    → (x y : ℤ)
    → (marks_at_least_through all_windows d path x y ≡ true
    → (marks_at_least d s.own x y ≡ true) ⊎ (has_window_at c x y s.own ≡ true))
    × (in_output d.output.width d.output.height x y ≡ true
    → (marks_at_most d s.own None x y ≡ true) ⊎ (has_window_at c x y s.own ≡ true)
    → marks_at_most_through all_windows None d path x y ≡ true)

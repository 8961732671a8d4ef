-- What each client owns stays in order by what is served.
use Rattle.std.proofs.Common.{◌≡◌, ◌≤◌, ℕ, List, [], ◌++◌, Bool, true, false, Option, Some, None, refl, ap, sym, subst, ◌∙◌, arith}
use Rattle.std.specs.Prelude.{◌||◌, is_some}
use Rattle.spec_desktop.specs.declared.cause.Cause.{Cause}
use Rattle.spec_desktop.specs.Peer.{Peer}
use Rattle.spec_desktop.specs.Told.{Output, Said}
use Rattle.spec_desktop.specs.Stacking.{Standing}
use Rattle.spec_desktop.specs.Desktop.{Desktop, Resident, arrival, client_at, toplevels_of, unpointed}
use Rattle.spec_desktop.specs.Framing.{done_due}
use Rattle.spec_desktop.specs.Replies.{popups_done}
use Rattle.spec_desktop.specs.Settling.{Midstep, TellsAt, TellsResident, TellsUnless, is_struck, without_grabs}
use Rattle.spec_desktop.specs.Step.{with_peer}
use Rattle.law_desktop.proofs.Isolation.Kept.{has-more}
use Rattle.law_desktop.proofs.Runs.Places.{number-same}
use Rattle.law_desktop.specs.InOrder.{InOrderAt, InOrderBy, OwnsInOrder}
use Rattle.law_desktop.proofs.EachClient.Clients.{AllAre, At, IsKept, IsPeerOf, empty-all, lives-there, settled-all, with-all}
use Rattle.law_desktop.proofs.EachClient.Steps.{DemandsKeep, frame-keeps, happens-keeps, piece-keeps, serves-keeps}
use Rattle.law_desktop.proofs.InOrder.Kept.{arrival-lives, demand-stands, framed-lives, peer-lives}
use Rattle.law_desktop.proofs.OwnedPopups.Knowing.{roles-known}
use Rattle.law_desktop.specs.Ordered.{Ordered, OwnsOrdered}
use Rattle.law_desktop.specs.OrderedLaws.{DemandsKeepOrdered, DismissalsKeepOrdered, EmptyIsOrdered, EndsKeepOrdered, FramesKeepOrdered, MessagesKeepOrdered, MovesKeepOrdered, OrderedHasOrder}
use Rattle.law_desktop.specs.OrderedLaws.{OrderedStays, PeersKeepOrdered, PiecesKeepOrdered, PressesKeepOrdered}
use Rattle.law_desktop.proofs.KeptInOrder.Dismissed.{dismissed-order, dismissed-ordered, dismissed-stands}
use Rattle.law_desktop.proofs.KeptInOrder.Moved.{moved-in-order, raised-in-order}
use Rattle.law_desktop.proofs.KeptInOrder.Owning.{demand-ordered, peer-ordered}
use Rattle.law_desktop.proofs.Truth.{differ, or-left}

-- ---- a client by itself

pub ordered_has_order : OrderedHasOrder
ordered_has_order r owns = roles-known.order r owns.order owns.younger owns.released owns.few

pub peers_keep_ordered : PeersKeepOrdered
peers_keep_ordered r p objects buffers requests owns = peer-ordered r p (record { objects = objects; buffers = buffers; requests = requests }) owns

pub demands_keep_ordered : DemandsKeepOrdered
demands_keep_ordered c r rest object opcode body demand d owns judged = demand-ordered c r rest object opcode body demand d owns judged

-- ---- all clients

-- no toplevel stands of a client that isn't there
abbrev NoneStands : List Standing → Type 0
NoneStands tops = tops ≡ []

-- what a client that lives owns is in order, and one that ended owns nothing
abbrev OrderedBy : Option Cause → Resident → Type 0
OrderedBy None r = OwnsOrdered r
OrderedBy (Some cause) r = Unit {0}

abbrev By : Option Cause → Resident → List Standing → Type 0
By s r tops = InOrderBy s r tops × OrderedBy s r

keeps-order : (s : Option Cause) (r : Resident) (p : Peer) (tops : List Standing) → IsPeerOf r p → By s r tops → By s (with_peer p r) tops
keeps-order None r p tops same lives = (peer-lives r p tops same lives.0, peer-ordered r p same lives.1)
keeps-order (Some cause) r p tops same over = ((ap (λ (q : Resident). with_peer p q) over.0.0, over.0.1), tt)

owns-arrival : (output : Output) → OwnsInOrder (arrival output) → OwnsOrdered (arrival output)
owns-arrival output order =
    record { order = order; younger = tt; released = tt; few = omega arith; parents = tt; placed = tt; surfaces = omega arith }

arrives-order : (output : Output) (tops : List Standing) → tops ≡ [] → By None (arrival output) tops
arrives-order output tops none =
    let lives = arrival-lives output in
    (subst (InOrderBy None (arrival output)) (sym none) lives, owns-arrival output lives.0)

framed-order : (r : Resident) (tops : List Standing) → By None r tops → By None (done_due r) tops
framed-order r tops lives =
    let framed = framed-lives r tops lives.0 in (
      framed,
      record {
        order = framed.0;
        younger = lives.1.younger;
        released = lives.1.released;
        few = lives.1.few;
        parents = lives.1.parents;
        placed = lives.1.placed;
        surfaces = lives.1.surfaces;
      },
    )

order-kept : IsKept NoneStands By
order-kept = record {
  nobody = refl;
  arrives = arrives-order;
  ends = λ cause q. ((refl, refl), tt);
  goes = λ cause r tops over. over.0.1;
  keeps = keeps-order;
  framed = framed-order;
}

demands-order : DemandsKeep By
demands-order c r rest object opcode body demand d judged still lives =
    let made = demand-ordered c r rest object opcode body demand d lives.1 judged in
    ((made.order, demand-stands c r rest object opcode body demand d judged lives.0.0 lives.0.1), made)

-- ---- as the definition says it

of-all : (d : Desktop) → AllAre NoneStands By d → Ordered d
of-all d all = record {
  in_order = record { pointer = all.pointer; each = λ c. at (client_at c d) (toplevels_of c d) (all.each c) };
  each = λ c r is alive. (lives-there NoneStands By c r d all is alive).1;
}
  where
    at : (o : Option Resident) (tops : List Standing) → At NoneStands By o tops → InOrderAt o tops
    at None tops none = none
    at (Some r) tops by = by.0

to-all : (d : Desktop) → Ordered d → AllAre NoneStands By d
to-all d ordered = record { pointer = ordered.in_order.pointer; each = λ c. at c (client_at c d) refl (ordered.in_order.each c) }
  where
    lives : (c : ℕ) (r : Resident) (s : Option Cause) → client_at c d ≡ Some r → r.peer.status ≡ s → OrderedBy s r
    lives c r None is status = ordered.each c r is status
    lives c r (Some cause) is status = tt

    at : (c : ℕ) (o : Option Resident) → client_at c d ≡ o → InOrderAt o (toplevels_of c d) → At NoneStands By o (toplevels_of c d)
    at c None is none = none
    at c (Some r) is order = (order, lives c r r.peer.status is refl)

-- ---- the laws

pub empty_is_ordered : EmptyIsOrdered
empty_is_ordered output = of-all _ (empty-all NoneStands By order-kept output)

pub ordered_stays : OrderedStays
ordered_stays act done d e leaves ordered h = of-all e (happens-keeps NoneStands By order-kept demands-order act done d e leaves (to-all d ordered) h)

pub messages_keep_ordered : MessagesKeepOrdered
messages_keep_ordered c d e ordered h = of-all e (serves-keeps NoneStands By order-kept demands-order c d e (to-all d ordered) h)

pub pieces_keep_ordered : PiecesKeepOrdered
pieces_keep_ordered c r bytes d ordered is = of-all _ (piece-keeps NoneStands By order-kept c r bytes d (to-all d ordered) is)

pub ends_keep_ordered : EndsKeepOrdered
ends_keep_ordered c r cause d e ordered is h = of-all e (settled-all NoneStands By order-kept c cause r d e is (to-all d ordered) h)

pub frames_keep_ordered : FramesKeepOrdered
frames_keep_ordered time c d e ordered h = of-all e (frame-keeps NoneStands By order-kept time c d e (to-all d ordered) h)

-- ---- a toplevel is raised or moved

pub moves_keep_ordered : MovesKeepOrdered
moves_keep_ordered c surface place d ordered = (
  record { in_order = raised-in-order c surface d ordered.in_order; each = ordered.each },
  record { in_order = moved-in-order c surface place d ordered.in_order; each = ordered.each },
)

-- ---- popups are dismissed

pub dismissals_keep_ordered : DismissalsKeepOrdered
dismissals_keep_ordered is r owns = dismissed-ordered is r owns

-- a client's popups with a grab are dismissed, and it is told so
press-order : (r : Resident) (q : Peer) (tops : List Standing) → IsPeerOf r q → By None r tops → By None (with_peer q (without_grabs r)) tops
press-order r q tops same lives =
    keeps-order None (without_grabs r) q tops (record { objects = same.objects; buffers = same.buffers; requests = same.requests })
    ((dismissed-order (λ p. p.popup.has_grab) r lives.0.0, dismissed-stands (λ p. p.popup.has_grab) r tops lives.0.1), dismissed-ordered (λ p. p.popup.has_grab) r lives.1)

module _ (c : ℕ) (old new : Midstep) (ordered : Ordered (unpointed old.desktop)) where
  untouched : new ≡ old → Ordered (unpointed new.desktop)
  untouched e = subst (λ (m : Midstep). Ordered (unpointed m.desktop)) (sym e) ordered

  dismissed : (r : Resident) → client_at c old.desktop ≡ Some r → r.peer.status ≡ None → (events : Resident → List Said)
      → TellsResident without_grabs events c r old new → Ordered (unpointed new.desktop)
  dismissed r is alive events (q, why, told, e) =
      subst (λ (m : Midstep). Ordered (unpointed m.desktop)) (sym e)
      (of-all _ (with-all NoneStands By c (Some made) (unpointed old.desktop) all (number-same old.desktop.clients c (Some made) r is) owns))
    where
      made : Resident
      made = with_peer q (without_grabs r)

      all : AllAre NoneStands By (unpointed old.desktop)
      all = to-all (unpointed old.desktop) ordered

      only : q ≡ record r.peer { unsent = r.peer.unsent ++ (has-more (events r) r.peer q why told).0 }
      only = (has-more (events r) r.peer q why told).1

      same : IsPeerOf r q
      same = record {
        objects = ap (λ (p : Peer). p.objects) only;
        buffers = ap (λ (p : Peer). p.buffers) only;
        requests = subst (λ (p : Peer). r.peer.requests ≤ p.requests) (sym only) (as-many r.peer.requests);
      }
        where
          as-many : (n : ℕ) → n ≤ n
          as-many n = omega arith

      owns : At NoneStands By (Some made) (toplevels_of c old.desktop)
      owns =
          subst (λ (s : Option Cause). By s made (toplevels_of c old.desktop)) (sym (ap (λ (p : Peer). p.status) only ∙ alive))
          (press-order r q (toplevels_of c old.desktop) same (lives-there NoneStands By c r (unpointed old.desktop) all is alive))

  unless-over : (b : Bool) (r : Resident) → client_at c old.desktop ≡ Some r → (is_some r.peer.status || is_struck c old.struck) ≡ b → (events : Resident → List Said)
      → TellsUnless b without_grabs events c r old new → Ordered (unpointed new.desktop)
  unless-over true r is over events told = untouched told
  unless-over false r is over events told = dismissed r is (alive r.peer.status (or-left (is_some r.peer.status) (is_struck c old.struck) over)) events told
    where
      alive : (s : Option Cause) → is_some s ≡ false → s ≡ None
      alive None e = refl
      alive (Some cause) e = absurd (differ (sym e))

  told-order : (o : Option Resident) → client_at c old.desktop ≡ o → (events : Resident → List Said) → TellsAt without_grabs events c o old new
      → Ordered (unpointed new.desktop)
  told-order None is events told = untouched told
  told-order (Some r) is events told = unless-over (is_some r.peer.status || is_struck c old.struck) r is refl events told

pub presses_keep_ordered : PressesKeepOrdered
presses_keep_ordered windows c old new ordered told =
    told-order c old new ordered (client_at c old.desktop) refl (λ r. popups_done r (without_grabs r)) told

-- What each client owns is in order wherever nobody points: each step keeps it.
use Rattle.std.proofs.Common.{◌≡◌, List, [], Option, Some, None, refl, ap, sym, subst}
use Rattle.spec_desktop.specs.declared.cause.Cause.{Cause}
use Rattle.spec_desktop.specs.Peer.{Peer}
use Rattle.spec_desktop.specs.Stacking.{Standing}
use Rattle.spec_desktop.specs.Desktop.{Desktop, Resident, arrival}
use Rattle.spec_desktop.specs.Step.{with_peer}
use Rattle.law_desktop.specs.InOrder.{InOrder, InOrderBy}
use Rattle.law_desktop.specs.InOrderLaws.{ClientsAreInOrder, DemandsKeepInOrder, EmptyIsInOrder, EndsKeepInOrder, FramesKeepInOrder, InOrderStays, MessagesKeepInOrder}
use Rattle.law_desktop.specs.InOrderLaws.{PeersKeepInOrder, PiecesKeepInOrder, PopupsAreNumbered}
use Rattle.law_desktop.proofs.EachClient.Clients.{AllAre, IsKept, IsPeerOf, empty-all, lives-there, settled-all}
use Rattle.law_desktop.proofs.EachClient.Steps.{DemandsKeep, frame-keeps, happens-keeps, piece-keeps, serves-keeps}
use Rattle.law_desktop.proofs.InOrder.Kept.{arrival-lives, demand-owns, demand-stands, framed-lives, peer-lives, peer-owns}
use Rattle.law_desktop.proofs.InOrder.Numbered.{numbers-apart, numbers-early}

-- ---- all clients

-- no toplevel stands of a client that isn't there
abbrev pub NoneStands : List Standing → Type 0
NoneStands tops = tops ≡ []

pub keeps-order : (s : Option Cause) (r : Resident) (p : Peer) (tops : List Standing) → IsPeerOf r p → InOrderBy s r tops → InOrderBy s (with_peer p r) tops
keeps-order None r p tops same lives = peer-lives r p tops same lives
keeps-order (Some cause) r p tops same over = (ap (λ (q : Resident). with_peer p q) over.0, over.1)

in-order-kept : IsKept NoneStands InOrderBy
in-order-kept = record {
  nobody = refl;
  arrives = λ output tops none. subst (InOrderBy None (arrival output)) (sym none) (arrival-lives output);
  ends = λ cause q. (refl, refl);
  goes = λ cause r tops over. over.1;
  keeps = keeps-order;
  framed = framed-lives;
}

pub demands-in-order : DemandsKeep InOrderBy
demands-in-order c r rest object opcode body demand d judged still lives = (
  demand-owns c r rest object opcode body demand d judged lives.0,
  demand-stands c r rest object opcode body demand d judged lives.0 lives.1,
)

of-all : (d : Desktop) → AllAre NoneStands InOrderBy d → InOrder d
of-all d all = record { pointer = all.pointer; each = all.each }

to-all : (d : Desktop) → InOrder d → AllAre NoneStands InOrderBy d
to-all d order = record { pointer = order.pointer; each = order.each }

-- ---- the laws

pub clients_are_in_order : ClientsAreInOrder
clients_are_in_order d c r order is alive = (lives-there NoneStands InOrderBy c r d (to-all d order) is alive).0

pub popups_are_numbered : PopupsAreNumbered
popups_are_numbered r owns = (numbers-apart r.owned.shell owns.popups_apart, λ number any. owns.popups_early number (numbers-early number r.owned.shell any))

pub empty_is_in_order : EmptyIsInOrder
empty_is_in_order output = of-all _ (empty-all NoneStands InOrderBy in-order-kept output)

pub in_order_stays : InOrderStays
in_order_stays act done d e leaves order h = of-all e (happens-keeps NoneStands InOrderBy in-order-kept demands-in-order act done d e leaves (to-all d order) h)

pub messages_keep_in_order : MessagesKeepInOrder
messages_keep_in_order c d e order h = of-all e (serves-keeps NoneStands InOrderBy in-order-kept demands-in-order c d e (to-all d order) h)

pub pieces_keep_in_order : PiecesKeepInOrder
pieces_keep_in_order c r bytes d order is = of-all _ (piece-keeps NoneStands InOrderBy in-order-kept c r bytes d (to-all d order) is)

pub ends_keep_in_order : EndsKeepInOrder
ends_keep_in_order c r cause d e order is h = of-all e (settled-all NoneStands InOrderBy in-order-kept c cause r d e is (to-all d order) h)

pub frames_keep_in_order : FramesKeepInOrder
frames_keep_in_order time c d e order h = of-all e (frame-keeps NoneStands InOrderBy in-order-kept time c d e (to-all d order) h)

pub peers_keep_in_order : PeersKeepInOrder
peers_keep_in_order r p objects buffers requests owns = peer-owns r p (record { objects = objects; buffers = buffers; requests = requests }) owns

pub demands_keep_in_order : DemandsKeepInOrder
demands_keep_in_order c r rest object opcode body demand d owns judged = demand-owns c r rest object opcode body demand d judged owns

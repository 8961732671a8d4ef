-- The ways on which a message of a client leads, with what it is answered, wherever the pointer is put aside; and a client that ended.
use Rattle.std.specs.Prelude.{ℕ, ◌-◌, ◌≡◌, ◌≢◌, ◌⊎◌, Bool, true, false, is_some, None, Result, Ok, Err, List, [], ◌∷◌, drop, take}
use Rattle.wl_wire.specs.Wire.{split_of}
use Rattle.wl_wire.specs.declared.header.Split.{Split}
use Rattle.wl_wire.specs.declared.header.Split.TheVariants.{Message as Whole, More, Bad}
use Rattle.spec_desktop.specs.declared.refusals.ErrorCode.TheVariants.{InvalidMethod}
use Rattle.spec_desktop.specs.declared.refusals.Refusal.{Refusal}
use Rattle.spec_desktop.specs.Peer.{Errs, LacksMemory, Peer, Queues, counted, with_rest}
use Rattle.spec_desktop.specs.Told.{display_error}
use Rattle.spec_desktop.specs.Stacking.{nothing_owned, without_client}
use Rattle.spec_desktop.specs.Changing.{changed_for, stacked_for}
use Rattle.spec_desktop.specs.Demand.{Demand}
use Rattle.spec_desktop.specs.Demanding.{judge_all}
use Rattle.spec_desktop.specs.Desktop.{Desktop, Resident, become, owned_in, status_in}
use Rattle.spec_desktop.specs.Happens.{wants_memory}
use Rattle.spec_desktop.specs.Replies.{replies}
use Rattle.spec_desktop.specs.Stacked.{all_windows}
use Rattle.spec_desktop.specs.Step.{with_peer}
use Rattle.law_desktop.specs.Shown.{ShownStand}
use Rattle.law_desktop.specs.Changes.{HasTrees}
use Rattle.law_desktop.specs.Done.{IsDone, IsMeant}
use Rattle.law_desktop.specs.Messages.{IsDemanded}

-- ---- what a message is answered with

-- this is told to the client, and it becomes what that leaves of it
abbrev pub Becomes : (Peer → Type 0) → ℕ → Resident → Desktop → Desktop → Type 0
Becomes Q c r d new = (q : Peer) × Q q × (new ≡ become c r q d)

-- what is demanded is done, and the client is told
abbrev pub DoesAlone : Demand → ℕ → Resident → Desktop → Desktop → Type 0
DoesAlone demand c r d new =
    Becomes (Queues (replies c demand r (changed_for c demand r d) (all_windows d) d) (changed_for c demand r d).peer) c
    (changed_for c demand r d) (stacked_for c demand r (all_windows d) d) new

-- true: what it demands is done, and its client is told, which may end it; false: there was no memory for it, or it is refused
abbrev pub AnswersAs : Bool → Result Demand Refusal → ℕ → Resident → Desktop → Desktop → Type 0
AnswersAs true (Ok demand) c r d new = DoesAlone demand c (with_peer (counted r.peer) r) d new
AnswersAs false (Ok demand) c r d new =
    (wants_memory demand ≡ true) × Becomes (LacksMemory (counted r.peer)) c (with_peer (counted r.peer) r) d new
AnswersAs true (Err refusal) c r d new = ⊥
AnswersAs false (Err refusal) c r d new = Becomes (Errs refusal r.peer) c r d new

-- the first message of what has come is taken so
abbrev pub TakesAs : Bool → Split → ℕ → Resident → Desktop → Desktop → Type 0
TakesAs b (Whole object opcode size) c r d new =
    AnswersAs b (judge_all r object opcode (take (size - 8) (drop 8 r.peer.rest))) c
    (with_peer (with_rest (drop size r.peer.rest) r.peer) r) d new
TakesAs true Bad c r d new = ⊥
TakesAs false Bad c r d new = Becomes (Errs (display_error InvalidMethod) r.peer) c r d new
TakesAs b More c r d new = ⊥

-- ---- a client that ended

-- It owns nothing, and none of its toplevels stands; the others own what they did, and their toplevels stand as they did.
pub record IsGone (c : ℕ) (d e : Desktop) : Type 0 where
  pub nothing : owned_in e c ≡ nothing_owned
  pub others : (other : ℕ) → other ≢ c → owned_in e other ≡ owned_in d other
  pub standing : e.standing ≡ without_client c d.standing
  pub output : e.output ≡ d.output

-- ---- the ways

-- An event for it wasn't queued: what the message demands is done, which leads to a desktop on which its client still lives; then that
-- ends, and nothing is to be settled.
pub record Struck (c : ℕ) (r : Resident) (d : Desktop) (path : List Desktop) (e : Desktop) : Type 0 where
  pub demand : Demand
  pub demanded : IsDemanded (split_of r.peer.rest) r demand
  pub meant : IsMeant demand r
  -- the peer of which it is demanded: its bytes are taken, and its request is counted
  pub before : Peer
  pub taken :
      (object opcode size : ℕ) → split_of r.peer.rest ≡ Whole object opcode size
      → before ≡ counted (with_rest (drop size r.peer.rest) r.peer)
  pub own : Desktop
  pub path_is : path ≡ own ∷ e ∷ e ∷ []
  pub done : IsDone c demand (with_peer before r) d own
  pub trees : HasTrees own
  pub shown : ShownStand own
  pub mappings : own.mappings ≡ (stacked_for c demand (with_peer before r) (all_windows d) d).mappings
  pub lives : status_in c own ≡ None
  pub output : own.output ≡ d.output
  pub gone : IsGone c own e
  pub over : is_some (status_in c e) ≡ true

-- A message that was refused, or for which there was no memory, leads at once to a desktop on which its client has ended. One that was done
-- leads at once to one on which it lives, or its client was struck.
abbrev pub RouteBy : Bool → ℕ → Resident → Desktop → List Desktop → Desktop → Type 0
RouteBy false c r d path e = (path ≡ e ∷ e ∷ []) × (is_some (status_in c e) ≡ true)
RouteBy true c r d path e = ((path ≡ e ∷ e ∷ []) × (status_in c e ≡ None)) ⊎ Struck c r d path e

-- A client that is there stays there as its messages are taken, and as clients end and the focus is settled.
use Rattle.std.proofs.Common.{◌≡◌, ℕ, zero, suc, List, [], ◌∷◌, Bool, true, false, Option, Some, None, Result, refl, ap, sym, subst, ◌∙◌, inl, inr}
use Rattle.std.specs.Prelude.{Ok, Err}
use Rattle.wl_wire.specs.Wire.{split_of}
use Rattle.wl_wire.specs.declared.header.Split.{Split}
use Rattle.wl_wire.specs.declared.header.Split.TheVariants.{Message, More, Bad}
use Rattle.spec_desktop.specs.declared.cause.Cause.{Cause}
use Rattle.spec_desktop.specs.declared.refusals.Refusal.{Refusal}
use Rattle.spec_desktop.specs.Peer.{LacksMemory, Peer, counted}
use Rattle.spec_desktop.specs.Stacking.{Standing}
use Rattle.spec_desktop.specs.Changing.{changed_for}
use Rattle.spec_desktop.specs.Demand.{Demand}
use Rattle.spec_desktop.specs.Desktop.{Desktop, Resident, become_by, client_at, client_in, resident_of, toplevels_of}
use Rattle.spec_desktop.specs.Happens.{AnswersThen, BecomesThen, DoesThen, Reaches, ServesThen, TakesThen, WantsOrThen, changed_so, done_for, settling, wants_memory}
use Rattle.spec_desktop.specs.Settling.{EndsAndSettles, Midstep, Strike, after_status, becomes, unstruck}
use Rattle.spec_desktop.specs.Step.{with_peer}
use Rattle.law_desktop.proofs.Isolation.Settling.{AreIn, IsIn, PAt, Stays, settling-in}
use Rattle.law_desktop.proofs.Isolation.Told.{TellsFocus}
use Rattle.law_desktop.proofs.Runs.Places.{number-same}
use Rattle.law_desktop.proofs.Runs.Serves.{done-clients_stay}

-- some client has this number
abbrev pub IsThere : ℕ → Desktop → Type 0
IsThere c d = (r : Resident) × (client_at c d ≡ Some r)

-- ---- clients end, and the focus is settled

-- whatever it owns, and whatever it is told
abbrev IsSome : Option Resident → List Standing → Type 0
IsSome None tops = ⊥
IsSome (Some r) tops = Unit {0}

abbrev Any : Resident → Resident → Option Cause → Type 0
Any r q why = Unit {0}

abbrev Ever : Resident → Cause → Type 0
Ever r cause = Unit {0}

any-focus : TellsFocus Any
any-focus = record { leave = λ surface r q why h. tt; enter = λ at w r q why h. tt }

some-stays : Stays Any IsSome Ever
some-stays = record {
  told = λ r q tops why alive known so. tt;
  untold = λ r q tops cause alive known so. tt;
  ends = λ r tops cause known why. tt;
  again = λ r cause other why later. tt;
}

module _ (c : ℕ) where
  known : (d : Desktop) → IsThere c d → IsIn c Any any-focus IsSome Ever some-stays d
  known d there = subst (λ (o : Option Resident). IsSome o (toplevels_of c d)) (sym there.1) tt

  found : (d : Desktop) → IsIn c Any any-focus IsSome Ever some-stays d → IsThere c d
  found d is = at (client_at c d) refl is
    where
      at : (o : Option Resident) → client_at c d ≡ o → IsSome o (toplevels_of c d) → IsThere c d
      at None e is = absurd is
      at (Some r) e is = (r, e)

  ever : (o : Option Resident) (cause : Cause) → PAt c Any any-focus IsSome Ever some-stays o cause
  ever None cause = tt
  ever (Some r) cause = tt

  all-struck : (o : Option Resident) (ss : List Strike) → AreIn c Any any-focus IsSome Ever some-stays o ss
  all-struck o [] = tt
  all-struck o (s ∷ ss) = (λ same. ever o s.cause, all-struck o ss)

  pub settles-there : (mid : Midstep) (new : Desktop) → IsThere c mid.desktop → EndsAndSettles mid new → IsThere c new
  settles-there mid new there h =
      found new (settling-in c Any any-focus IsSome Ever some-stays mid new (known mid.desktop there, all-struck (client_at c mid.desktop) mid.struck) h)

  -- ---- what becomes of it

  pub becomes-there : (r there : Resident) (q : Peer) (d : Desktop) → client_at c d ≡ Some there → IsThere c (becomes c r q d)
  becomes-there r there q d is = at q.status
    where
      at : (s : Option Cause) → IsThere c (after_status s c (become_by s c r q d))
      at None = (record r { peer = q }, number-same d.clients c (Some (record r { peer = q })) there is)
      at (Some cause) = (resident_of q, number-same d.clients c (Some (resident_of q)) there is)

  -- ---- its messages

  module _ (new : Desktop) where
    became : (Q : Peer → Type 0) (r : Resident) (d : Desktop) → IsThere c d → BecomesThen Q c r d (settling new) → IsThere c new
    became Q r d there h = settles-there (unstruck (becomes c r h.0 d)) new (becomes-there r there.0 h.0 d there.1) h.2

    did : (demand : Demand) (r : Resident) (d : Desktop) → IsThere c d → DoesThen c demand r d (settling new) → IsThere c new
    did demand r d there h =
        let now : Resident = with_peer h.0 (changed_for c demand r d) in
        let on : Desktop = done_for c demand r d in
        let is : client_at c on ≡ Some there.0 = ap (λ (clients : List (Option Resident)). client_in clients c) (done-clients_stay c demand r d) ∙ there.1 in
        settles-there (changed_so c demand r d h.0 h.1) new (now, number-same on.clients c (Some now) there.0 is) h.3

    wanted : (b : Bool) (demand : Demand) (r : Resident) (d : Desktop) → IsThere c d → WantsOrThen b (DoesThen c demand r d (settling new)) c r d (settling new) → IsThere c new
    wanted false demand r d there h = did demand r d there h
    wanted true demand r d there (inl h) = became (LacksMemory r.peer) r d there h
    wanted true demand r d there (inr h) = did demand r d there h

    answered : (judged : Result Demand Refusal) (r : Resident) (d : Desktop) → IsThere c d → AnswersThen judged c r d (settling new) → IsThere c new
    answered (Ok demand) r d there h = wanted (wants_memory demand) demand (with_peer (counted r.peer) r) d there h
    answered (Err refusal) r d there h = became _ r d there h

    took : (split : Split) (r : Resident) (d : Desktop) → IsThere c d → TakesThen split c r d (settling new) → IsThere c new
    took (Message object opcode size) r d there h = answered _ _ d there h
    took Bad r d there h = became _ r d there h
    took More r d there h = absurd h

    pub serves-there : (o : Option Resident) (d : Desktop) → IsThere c d → ServesThen c o d (settling new) → IsThere c new
    serves-there None d there h = absurd h
    serves-there (Some r) d there h = took (split_of r.peer.rest) r d there h.1

  pub reaches-there : (n : ℕ) (d new : Desktop) → IsThere c d → Reaches c n d new → IsThere c new
  reaches-there zero d new there h = (there.0, ap (λ (x : Desktop). client_at c x) h ∙ there.1)
  reaches-there (suc n) d new there h = serves-there new (client_at c h.0) h.0 (reaches-there n d h.0 there h.1) h.2

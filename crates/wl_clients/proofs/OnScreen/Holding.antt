-- What is kept after a message stands for what the client owns on the desktop to which it leads.
use Rattle.std.proofs.Common.{◌≡◌, ℕ, ◌-◌, true, ap, sym, subst, take, drop}
use Rattle.std.specs.Prelude.{Result}
use Rattle.wl_wire.specs.declared.header.Split.{Split}
use Rattle.wl_wire.specs.declared.header.Split.TheVariants.{Message as Whole, More, Bad}
use Rattle.law_desktop.specs.Renaming.{has_surface}
use Rattle.law_desktop.specs.NamedPopups.{RisingNamed}
use Rattle.law_desktop.specs.Ordered.{OwnsOrdered}
use Rattle.law_desktop.specs.OrderedLaws.{DemandsKeepOrdered, OrderedHasOrder}
use Rattle.law_desktop.specs.Owning.{IsOwned}
use Rattle.law_desktop.specs.RoleNames.{names_of}
use Rattle.law_desktop.specs.Twins.{IsKeptByNumbers}
use Rattle.law_desktop.proofs.Keeping.OwningTies.{named-there}
use Rattle.law_desktop.proofs.Twins.{kept-by-numbers}
use Rattle.spec_desktop.specs.declared.refusals.Refusal.{Refusal}
use Rattle.spec_desktop.specs.Peer.{Peer, counted, with_rest}
use Rattle.spec_desktop.specs.Changing.{changed_for}
use Rattle.spec_desktop.specs.Demand.{Demand}
use Rattle.spec_desktop.specs.Desktop.{Desktop, Resident, owned_in, unpointed}
use Rattle.spec_desktop.specs.Step.{with_peer}
use Rattle.wl_requests.specs.declared.residents.Resident.{Resident as Kept}
use Rattle.wl_requests.specs.Holding.{HoldsBy, HoldsFirst, HoldsSo}
use Rattle.wl_requests.specs.Residents.{KeepsNumbers, Owns}
use Rattle.spec_desktop.specs.Pointer.{Pointer, first_pointer}
use Rattle.spec_desktop.specs.Stacking.{Owned}
use Rattle.law_desktop.specs.Messages.{IsDemanded}
use Rattle.wl_shell.specs.Kept.{kept_of}
use Rattle.wl_clients.proofs.OnScreen.After.{HoldsAs}
use Rattle.wl_clients.proofs.OnScreen.Numbers.{named_by}
use Rattle.wl_clients.proofs.OnScreen.Sitting.{numbers}

-- the laws that say how what a client owns is in order
pub record OrderLaws : Type 0 where
  pub order : OrderedHasOrder
  pub demands : DemandsKeepOrdered
  pub rising : RisingNamed

-- ---- a client that lives

module _ {A : Type 0} (laws : OrderLaws) (c : ℕ) (old mid : Kept A) (r s : Resident) (d e : Desktop) (owns : Owns mid s) (ordered : OwnsOrdered s) (here : owned_in d c ≡ r.owned)
    (there : owned_in e c ≡ s.owned) where
  own : IsKeptByNumbers (names_of mid.client.objects) mid.owned.surfaces.states mid.owned.surfaces.family (kept_of mid.owned.shell) s.owned
  own = kept-by-numbers (names_of mid.client.objects) mid.owned.surfaces.states mid.owned.surfaces.family (kept_of mid.owned.shell) s.owned owns

  pub holds-now : HoldsAs (named_by mid) mid (owned_in e c)
  holds-now =
      subst (λ (o : Owned). HoldsAs (named_by mid) mid o) (sym there) (record {
        renames = own.renames;
        held = record { surfaces = own.surfaces; shell = own.shell };
        rising = laws.rising (named_by mid) s.owned.shell (laws.order s ordered).rising;
        few = (laws.order s ordered).few;
      })

  -- The surfaces that were there and are there still have their numbers.
  pub names-agree : IsOwned (names_of old.client.objects) old.owned.surfaces.states old.owned.surfaces.family (kept_of old.owned.shell) r.owned
      → KeepsNumbers old.client.objects mid.client.objects
      → ((id : ℕ) → has_surface id (owned_in e c).surfaces ≡ true → has_surface id (owned_in d c).surfaces ≡ true)
      → (id : ℕ) → has_surface id (owned_in e c).surfaces ≡ true → named_by mid id ≡ named_by old id
  names-agree was keeps comes id is =
      let had : has_surface id r.owned.surfaces ≡ true = subst (λ (o : Owned). has_surface id o.surfaces ≡ true) here (comes id is) in
      let has : has_surface id s.owned.surfaces ≡ true = subst (λ (o : Owned). has_surface id o.surfaces ≡ true) there is in
      sym
      (keeps id (named_by old id) (named_by mid id) (named-there (numbers old) r.owned.surfaces was.surfaces.numbered was.surfaces.once id had)
      (named-there (numbers mid) s.owned.surfaces owns.surfaces.numbered owns.surfaces.once id has))

-- ---- one that was done

-- the peer of which the message at the front of what came demands something: its bytes are taken, and its request is counted
abbrev pub IsTakenBy : Split → Resident → Peer → Type 0
IsTakenBy (Whole object opcode size) r p = p ≡ counted (with_rest (drop size r.peer.rest) r.peer)
IsTakenBy Bad r p = ⊥
IsTakenBy More r p = ⊥

unpointed-same : (d : Desktop) → d.pointer ≡ first_pointer → unpointed d ≡ d
unpointed-same d is = ap (λ (p : Pointer). record d { pointer = p }) (sym is)

-- What is kept stands, by the numbers from before, for what is demanded of the client.
pub holds-then : {A : Type 0} (laws : OrderLaws) (split : Split) (c : ℕ) (r : Resident) (d : Desktop) (old mid : Kept A) (demand : Demand) (p : Peer) → OwnsOrdered r
    → IsDemanded split r demand → IsTakenBy split r p → d.pointer ≡ first_pointer → HoldsFirst split c r d old mid
    → HoldsAs (named_by old) mid (changed_for c demand (with_peer p r) d).owned
holds-then {A} laws (Whole object opcode size) c r d old mid demand p owns told taken pointer holds =
    let by : HoldsBy old mid (changed_for c demand (with_peer (counted (with_rest (drop size r.peer.rest) r.peer)) r) (unpointed d)).owned =
    subst (λ (j : Result Demand Refusal). HoldsSo j c (with_peer (with_rest (drop size r.peer.rest) r.peer) r) d old mid) told holds in
    let here : HoldsBy old mid (changed_for c demand (with_peer (counted (with_rest (drop size r.peer.rest) r.peer)) r) d).owned =
    subst (λ (x : Desktop). HoldsBy old mid (changed_for c demand (with_peer (counted (with_rest (drop size r.peer.rest) r.peer)) r) x).owned) (unpointed-same d pointer) by in
    let order = laws.order (changed_for c demand (with_peer (counted (with_rest (drop size r.peer.rest) r.peer)) r) d)
    (laws.demands c r (drop size r.peer.rest) object opcode (take (size - 8) (drop 8 r.peer.rest)) demand d owns told) in
    subst (λ (q : Peer). HoldsAs (named_by old) mid (changed_for c demand (with_peer q r) d).owned) (sym taken) (record {
      renames = here.renames;
      held = here.held;
      rising = laws.rising (named_by old) (changed_for c demand (with_peer (counted (with_rest (drop size r.peer.rest) r.peer)) r) d).owned.shell order.rising;
      few = order.few;
    })
holds-then laws Bad c r d old mid demand p owns told taken pointer holds = absurd told
holds-then laws More c r d old mid demand p owns told taken pointer holds = absurd told

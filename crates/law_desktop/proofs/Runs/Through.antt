-- What happens leads through the desktops of its own change, of each end and of each settling, and where it leads otherwise.
use Rattle.std.proofs.Common.{◌≡◌, ℕ, zero, suc, List, [], ◌∷◌, ◌++◌, Bool, true, false, Option, Some, None, Result, refl, inl, inr}
use Rattle.std.specs.Prelude.{Ok, Err}
use Rattle.wl_wire.specs.Wire.{split_of}
use Rattle.wl_wire.specs.declared.header.Split.{Split}
use Rattle.wl_wire.specs.declared.header.Split.TheVariants.{Message, More, Bad}
use Rattle.spec_desktop.specs.declared.cause.Cause.{Cause}
use Rattle.spec_desktop.specs.declared.cause.Cause.TheVariants.{Gone}
use Rattle.spec_desktop.specs.declared.refusals.Refusal.{Refusal}
use Rattle.spec_desktop.specs.Peer.{LacksMemory, Peer, counted, ended}
use Rattle.spec_desktop.specs.Pointer.{is_down, is_press}
use Rattle.spec_desktop.specs.declared.answers.Done.{Done}
use Rattle.spec_desktop.specs.Demand.{Demand}
use Rattle.spec_desktop.specs.Desktop.{Desktop, Resident, client_at}
use Rattle.spec_desktop.specs.Settling.{EndsFirst, Midstep, SettlesAll, Strike, becomes, ended_all, ended_by, unstruck}
use Rattle.spec_desktop.specs.Step.{with_peer}
use Rattle.spec_desktop.specs.Act.{Act, Connect, Feed, Store, Leave, Tick, Send, Close, Motion, Button, lowest}
use Rattle.law_desktop.proofs.Runs.Forms.{ConnectsAt}
use Rattle.spec_desktop.specs.Through.{EndsFirstThrough, SettlesAllThrough, ending_through, ends_through, settling_through}
use Rattle.law_desktop.specs.Through.{HappensLeadsThrough, IsSingle, MessagesLeadThrough}
use Rattle.spec_desktop.specs.Happens.{AnswersThen, BecomesThen, ChangesThen, ConnectsThen, DoesThen, Happens, HappensThen, LeavesThen, PressesThen, ReleasesThen, ServesThen, TakesThen, WantsOrThen}
use Rattle.spec_desktop.specs.Happens.{changed_so, ending, settling, wants_memory}

-- ---- a step's own change leads to one desktop in its middle, whatever comes then

module _ {P : Type 0} (N S : Midstep → Type 0) (T U : P → Midstep → Type 0) (next : (mid : Midstep) → N mid → (p : P) × T p mid) (last : (mid : Midstep) → S mid → (p : P) × U p mid) where
  became : (Q : Peer → Type 0) (c : ℕ) (r : Resident) (d : Desktop) → BecomesThen Q c r d N → (p : P) × BecomesThen Q c r d (T p)
  became Q c r d h = let k = next (unstruck (becomes c r h.0 d)) h.2 in (k.0, (h.0, h.1, k.1))

  did : (c : ℕ) (demand : Demand) (r : Resident) (d : Desktop) → DoesThen c demand r d N → (p : P) × DoesThen c demand r d (T p)
  did c demand r d h = let k = next (changed_so c demand r d h.0 h.1) h.3 in (k.0, (h.0, h.1, h.2, k.1))

  wanted : (b : Bool) (Later : Type 0) (Then : P → Type 0) → (Later → (p : P) × Then p) → (c : ℕ) (r : Resident) (d : Desktop) → WantsOrThen b Later c r d N → (p : P)
      × WantsOrThen b (Then p) c r d (T p)
  wanted false Later Then go c r d h = go h
  wanted true Later Then go c r d (inl h) = let k = became (LacksMemory r.peer) c r d h in (k.0, inl k.1)
  wanted true Later Then go c r d (inr h) = let k = go h in (k.0, inr k.1)

  answered : (judged : Result Demand Refusal) (c : ℕ) (r : Resident) (d : Desktop) → AnswersThen judged c r d N → (p : P) × AnswersThen judged c r d (T p)
  answered (Ok demand) c r d h =
      let now : Resident = with_peer (counted r.peer) r in
      wanted (wants_memory demand) (DoesThen c demand now d N) (λ p. DoesThen c demand now d (T p)) (did c demand now d) c now d h
  answered (Err refusal) c r d h = became _ c r d h

  took : (split : Split) (c : ℕ) (r : Resident) (d : Desktop) → TakesThen split c r d N → (p : P) × TakesThen split c r d (T p)
  took (Message object opcode size) c r d h = answered _ c _ d h
  took Bad c r d h = became _ c r d h
  took More c r d h = absurd h

  pub served : (c : ℕ) (o : Option Resident) (d : Desktop) → ServesThen c o d N → (p : P) × ServesThen c o d (T p)
  served c None d h = absurd h
  served c (Some r) d h = let k = took (split_of r.peer.rest) c r d h.1 in (k.0, (h.0, k.1))

  connected : (k : Option ℕ) (d : Desktop) (done : Done) → ConnectsThen k d done S → (p : P) × ConnectsThen k d done (U p)
  connected None d done h = let k = last (unstruck d) h.1 in (k.0, (h.0, k.1))
  connected (Some n) d done (inl h) = let k = last (unstruck d) h.1 in (k.0, inl (h.0, k.1))
  connected (Some n) d done (inr h) = let k = last _ h.1 in (k.0, inr (h.0, k.1))

  went : (c : ℕ) (o : Option Resident) (d : Desktop) (done : Done) → LeavesThen c o d done N S → (p : P) × LeavesThen c o d done (T p) (U p)
  went c None d done h = let k = last (unstruck d) h.1 in (k.0, (h.0, k.1))
  went c (Some r) d done h = by r.peer.status refl
    where
      by : (s : Option Cause) → r.peer.status ≡ s → (p : P) × LeavesThen c (Some r) d done (T p) (U p)
      by (Some cause) e =
          let there : S (unstruck d) = rw e at h.1 in
          let k = last (unstruck d) there in
          (k.0, (h.0, rw e k.1))
      by None e =
          let gone : Midstep = unstruck (becomes c r (ended Gone r.peer) d) in
          let there : N gone = rw e at h.1 in
          let k = next gone there in
          (k.0, (h.0, rw e k.1))

  changed : (R : Peer → Done → Option Peer → Type 0) (absent : Done) (c : ℕ) (o : Option Resident) (d : Desktop) (done : Done) → ChangesThen R absent c o d done S → (p : P)
      × ChangesThen R absent c o d done (U p)
  changed R absent c None d done h = let k = last (unstruck d) h.1 in (k.0, (h.0, k.1))
  changed R absent c (Some r) d done (None, h, e) = let k = last _ e in (k.0, (None, h, k.1))
  changed R absent c (Some r) d done (Some q, h, e) = let k = last _ e in (k.0, (Some q, h, k.1))

  pressed : (b : Bool) (time button : ℕ) (d : Desktop) → PressesThen b time button d S → (p : P) × PressesThen b time button d (U p)
  pressed true time button d h = let k = last h.2 h.4 in (k.0, (h.0, h.1, h.2, h.3, k.1))
  pressed false time button d h = last (unstruck d) h

  released : (b : Bool) (time button : ℕ) (d : Desktop) → ReleasesThen b time button d S → (p : P) × ReleasesThen b time button d (U p)
  released true time button d h = let k = last h.2 h.4 in (k.0, (h.0, h.1, h.2, h.3, k.1))
  released false time button d h = last (unstruck d) h

  pub happened : (act : Act) (done : Done) (d : Desktop) → HappensThen act done d N S → (p : P) × HappensThen act done d (T p) (U p)
  happened Connect done d h = connected (lowest d.clients) d done h
  happened (Feed c piece) done d h = absurd h
  happened (Store c store at bytes) done d h = changed _ _ c (client_at c d) d done h
  happened (Leave c) done d h = went c (client_at c d) d done h
  happened (Tick time) done d h = let k = next h.1.0 h.1.2 in (k.0, (h.0, (h.1.0, h.1.1, k.1)))
  happened (Send c n) done d h = changed _ _ c (client_at c d) d done h
  happened (Close c) done d h = changed _ _ c (client_at c d) d done h
  happened (Motion time x y) done d h = let k = last h.1.2 h.1.4 in (k.0, (h.0, (h.1.0, h.1.1, h.1.2, h.1.3, k.1)))
  happened (Button time button true) done d h = let k = pressed (is_press button d.pointer.buttons) time button d h.1 in (k.0, (h.0, k.1))
  happened (Button time button false) done d h = let k = released (is_down button d.pointer.buttons) time button d h.1 in (k.0, (h.0, k.1))

-- ---- the ends and settlings with the desktops on the way, and without

module _ (N : Midstep → List Desktop → Desktop → Type 0) (M : Midstep → Desktop → Type 0) where
  first-without : ((m : Midstep) (path : List Desktop) (new : Desktop) → N m path new → M m new) → (ss : List Strike) (d : Desktop) (path : List Desktop) (new : Desktop)
      → EndsFirstThrough N ss d path new → EndsFirst M ss d new
  first-without go [] d path new h = h.1
  first-without go (s ∷ ss) d path new h = go (record { desktop = ended_by s d; struck = ss }) h.0 new h.2

  first-with : ((m : Midstep) (new : Desktop) → M m new → (path : List Desktop) × N m path new) → (ss : List Strike) (d new : Desktop) → EndsFirst M ss d new → (path : List Desktop)
      × EndsFirstThrough N ss d path new
  first-with go [] d new h = ([], (refl, h))
  first-with go (s ∷ ss) d new h = let k = go (record { desktop = ended_by s d; struck = ss }) new h in (ended_by s d ∷ k.0, (k.0, refl, k.1))

all-without : (n : ℕ) (old : Midstep) (path : List Desktop) (new : Desktop) → SettlesAllThrough n old path new → SettlesAll n old new
all-without zero old path new h = h.1
all-without (suc n) old path new h = (h.0, h.1, first-without (SettlesAllThrough n) (SettlesAll n) (all-without n) h.0.struck h.0.desktop h.2 new h.4)

all-with : (n : ℕ) (old : Midstep) (new : Desktop) → SettlesAll n old new → (path : List Desktop) × SettlesAllThrough n old path new
all-with zero old new h = ([], (refl, h))
all-with (suc n) old new h =
    let k = first-with (SettlesAllThrough n) (SettlesAll n) (all-with n) h.0.struck h.0.desktop new h.2 in
    (h.0.desktop ∷ k.0, (h.0, h.1, k.0, refl, k.1))

pub settling-without : (path : List Desktop) (new : Desktop) (mid : Midstep) → settling_through path new mid → settling new mid
settling-without path new mid h = all-without 33 (unstruck (ended_all mid.struck mid.desktop)) h.0 new h.2

pub settling-with : (new : Desktop) (mid : Midstep) → settling new mid → (path : List Desktop) × settling_through path new mid
settling-with new mid h =
    let k = all-with 33 (unstruck (ended_all mid.struck mid.desktop)) new h in
    (mid.desktop ∷ ends_through mid.struck mid.desktop ++ k.0, (k.0, refl, k.1))

pub ending-without : (path : List Desktop) (new : Desktop) (mid : Midstep) → ending_through path new mid → ending new mid
ending-without path new mid h = first-without (SettlesAllThrough 32) (SettlesAll 32) (all-without 32) mid.struck mid.desktop h.0 new h.2

ending-with : (new : Desktop) (mid : Midstep) → ending new mid → (path : List Desktop) × ending_through path new mid
ending-with new mid h =
    let k = first-with (SettlesAllThrough 32) (SettlesAll 32) (all-with 32) mid.struck mid.desktop new h in
    (mid.desktop ∷ k.0, (k.0, refl, k.1))

-- ---- a message, and whatever else happens

pub messages_lead_through : MessagesLeadThrough
messages_lead_through c d new = (
  λ path h. (served (settling_through path new) (settling_through path new) (λ (u : Unit {0}). settling new) (λ (u : Unit {0}). settling new)
      (λ mid k. (tt, settling-without path new mid k)) (λ mid k. (tt, settling-without path new mid k)) c (client_at c d) d h).1,
  λ h. served (settling new) (settling new) (λ path. settling_through path new) (λ path. settling_through path new) (settling-with new) (settling-with new) c (client_at c d) d h,
)

as-happens : (act : Act) (done : Done) (d new : Desktop) → HappensThen act done d (settling new) (ending new) → Happens act done d new
as-happens Connect done d new h = by (lowest d.clients) h
  where
    by : (k : Option ℕ) → ConnectsThen k d done (ending new) → ConnectsAt k d done new
    by None h = h
    by (Some n) h = h
as-happens (Feed c piece) done d new h = absurd h
as-happens act done d new h = h

-- a connect, in the form that takes what comes then
pub connects-with : (k : Option ℕ) (d : Desktop) (done : Done) (new : Desktop) → ConnectsAt k d done new → ConnectsThen k d done (ending new)
connects-with None d done new h = h
connects-with (Some n) d done new h = h

from-happens : (act : Act) (done : Done) (d new : Desktop) → IsSingle act → Happens act done d new → HappensThen act done d (settling new) (ending new)
from-happens Connect done d new single h = connects-with (lowest d.clients) d done new h
from-happens (Feed c piece) done d new single h = absurd (single c piece refl)
from-happens act done d new single h = h

pub happens_leads_through : HappensLeadsThrough
happens_leads_through act done d new = (
  λ path h. as-happens act done d new (happened (settling_through path new) (ending_through path new) (λ (u : Unit {0}). settling new) (λ (u : Unit {0}). ending new)
      (λ mid k. (tt, settling-without path new mid k)) (λ mid k. (tt, ending-without path new mid k)) act done d h).1,
  λ single h. happened (settling new) (ending new) (λ path. settling_through path new) (λ path. ending_through path new) (settling-with new) (ending-with new) act done d
      (from-happens act done d new single h),
)

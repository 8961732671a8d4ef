-- What the calls of a desk come to, by what is kept of the clients, of the wl_pointers, and of the pointer.
use Rattle.std.proofs.Common.{◌≡◌, ◌≢◌, ℕ, List, true, false, refl, ap, ap₂, subst, sym, ◌∙◌, inl, inr}
use Rattle.wl_paint.specs.Damage.{Damaged}
use Rattle.std.specs.Prelude.{Result, Ok, Err}
use Rattle.wl_scene.specs.Marking.{IsAsLarge}
use Rattle.spec_desktop.specs.Pointer.{Pointer}
use Rattle.spec_desktop.specs.declared.answers.ConnectError.{ConnectError}
use Rattle.spec_desktop.specs.declared.answers.Done.{Done}
use Rattle.spec_desktop.specs.declared.answers.Done.TheVariants as gave
use Rattle.spec_desktop.specs.declared.answers.Fed.TheVariants.{Alive}
use Rattle.spec_desktop.specs.Act.{Act, Connect, Leave, Tick, peer_at, status_of}
use Rattle.spec_desktop.specs.Desktop.{Desktop, unpointed}
use Rattle.spec_desktop.specs.Happenings.{Message, Single, Starve}
use Rattle.spec_desktop.specs.Settling.{pointer_without}
use Rattle.law_desktop.specs.Pointed.Happenings.{is_quiet, pointer_left}
use Rattle.wl_clients.specs.Agreeing.{Agrees as KeptAgrees, MarksNothing as KeptMarksNothing}
use Rattle.wl_clients.specs.Leading.{LeadsBy as KeptLeadsBy, LeadsQuietly as KeptLeadsQuietly, Led}
use Rattle.wl_clients.specs.View.{MarkedDesk as KeptDesk}
use Rattle.wl_clients.specs.declared.grabs.Latest.{Latest}
use Rattle.wl_desk.specs.Agreeing.{Agrees, LeadsBy, LeadsQuietly, MarksNothing}
use Rattle.wl_desk.specs.View.{DeskView, MarkedDesk}
use Rattle.wl_desk.specs.Ways.{EndsAllFrom, SettlesFrom}
use Rattle.wl_desk.proofs.Coming.{HasCome, connects-lead}
use Rattle.wl_desk.proofs.Ending.{ends-lead}
use Rattle.wl_desk.proofs.Frames.{frames-lead}
use Rattle.wl_desk.proofs.LatestStay.{latest-stay, quiet-keeps}
use Rattle.wl_desk.proofs.Quiet.{quiet-leads}
use Rattle.wl_desk.proofs.SeatsStay.{KeepsSeats, seats-stay}

abbrev pub desk_with : KeptDesk → List (List ℕ) → List Latest → Pointer → MarkedDesk
desk_with k seats latest p = record { desk = record { kept = k.desk; seats = seats; latest = latest; pointer = p }; damage = k.damage; settled = false }

pub large-on : (a b c : Damaged) → IsAsLarge a b → IsAsLarge b c → IsAsLarge a c
large-on a b c first second = record { width = second.width ∙ first.width; height = second.height ∙ first.height }

-- ---- nobody is told, and nobody ends

-- what isn't a client's arrival leaves the wl_pointers
pub single-keeps : (act : Act) (done : Done) → act ≢ Connect → KeepsSeats (Single act done)
single-keeps act done differ k = (λ e. message e, λ e. differ (acts e))
  where
    message : Single act done ≡ Message k → ⊥
    message e = absurd (cc)

    acts : Single act done ≡ Single Connect (gave.Connect (Ok k)) → act ≡ Connect
    acts e = cc

pub quiet-step : (act : Act) (done : Done) (old new : KeptDesk) (seats : List (List ℕ)) (latest : List Latest) (p : Pointer) → is_quiet (Single act done) ≡ true → act ≢ Connect → KeptLeadsBy (Single act done) old new
    → LeadsBy (Single act done) (desk_with old seats latest p) (desk_with new seats latest p)
quiet-step act done old new seats latest p quiet differ leads d a =
    let led = leads (unpointed d) a.kept in
    quiet-leads (Single act done) d (desk_with old seats latest p) (desk_with new seats latest p) quiet a led refl
    (seats-stay seats (Single act done) d led.path led.desktop (single-keeps act done differ) a.seats led.leads)
    (latest-stay latest (Single act done) d led.path led.desktop (quiet-keeps act done quiet differ) a.latest led.leads)

pub marks-nothing : (old new : KeptDesk) (seats now : List (List ℕ)) (latest then : List Latest) (p q : Pointer) → KeptMarksNothing old new
    → MarksNothing (desk_with old seats latest p) (desk_with new now then q)
marks-nothing old new seats now latest then p q nothing d a = nothing (unpointed d) a.kept

abbrev came : ℕ → Result ℕ ConnectError
came c = Ok c

-- a client connects, and has no wl_pointers yet
pub connects : (c : ℕ) (old after : KeptDesk) (seats : List (List ℕ)) (latest : List Latest) (p : Pointer) (new : MarkedDesk) → KeptLeadsBy (Single Connect (gave.Connect (Ok c))) old after
    → new.desk.kept ≡ after.desk → new.damage ≡ after.damage → new.desk.pointer ≡ p
    → HasCome c seats new.desk.seats latest new.desk.latest → LeadsBy (Single Connect (gave.Connect (Ok c))) (desk_with old seats latest p) new
connects c old after seats latest p new leads kept damage pointer comes =
    subst (λ (m : MarkedDesk). LeadsBy (Single Connect (gave.Connect (Ok c))) (desk_with old seats latest p) m) (sym same)
    (λ d a. connects-lead (Ok c) d (desk_with old seats latest p) (desk_with after new.desk.seats new.desk.latest p) a (leads (unpointed d) a.kept) refl
    (λ k e. subst (λ (n : ℕ). HasCome n seats new.desk.seats latest new.desk.latest) (number c k e) comes)
    (λ why e. absurd (never c why e)))
  where
    same : new ≡ record (desk_with after new.desk.seats new.desk.latest p) { settled = new.settled }
    same =
        ap (λ (k : KeptDesk). record (desk_with k new.desk.seats new.desk.latest new.desk.pointer) { settled = new.settled }) (ap₂ (λ v w. record { desk = v; damage = w }) kept damage)
        ∙ ap (λ (q : Pointer). record (desk_with after new.desk.seats new.desk.latest q) { settled = new.settled }) pointer

    number : (i j : ℕ) → came i ≡ came j → i ≡ j
    number i j e = cc

    never : (i : ℕ) (why : ConnectError) → came i ≡ Err why → ⊥
    never i why e = absurd (cc)

pub connects-not : (why : ConnectError) (old after : KeptDesk) (seats : List (List ℕ)) (latest : List Latest) (p : Pointer) → KeptLeadsBy (Single Connect (gave.Connect (Err why))) old after
    → LeadsBy (Single Connect (gave.Connect (Err why))) (desk_with old seats latest p) (desk_with after seats latest p)
connects-not why old after seats latest p leads d a =
    connects-lead (Err why) d (desk_with old seats latest p) (desk_with after seats latest p) a (leads (unpointed d) a.kept) refl
    (λ c e. absurd (never why c e)) (λ other e. (refl, refl))
  where
    never : (why : ConnectError) (c : ℕ) → Err why ≡ came c → ⊥
    never why c e = absurd (cc)

-- ---- a client ends

pub starves : (c : ℕ) (old after : KeptDesk) (seats : List (List ℕ)) (latest : List Latest) (p q : Pointer) (new : MarkedDesk)
    → ((d : Desktop) → KeptAgrees old.desk d → status_of (peer_at c d) ≡ Alive → Led (KeptAgrees after.desk) (Starve c) old.damage after.damage d)
    → IsAsLarge old.damage after.damage → q ≡ pointer_without c p → SettlesFrom (desk_with after seats latest q) new
    → (d : Desktop) → Agrees (desk_with old seats latest p).desk d → status_of (peer_at c d) ≡ Alive → Led (Agrees new.desk) (Starve c) old.damage new.damage d
starves c old after seats latest p q new leads large left settles d a alive =
    ends-lead c (Starve c) d (desk_with old seats latest p) (desk_with after seats latest q) new (inl refl) a (leads (unpointed d) a.kept alive) large refl refl left refl settles

pub goes : (c : ℕ) (old after : KeptDesk) (seats : List (List ℕ)) (latest : List Latest) (p q : Pointer) (new : MarkedDesk) → KeptLeadsBy (Single (Leave c) (gave.Gone true)) old after
    → IsAsLarge old.damage after.damage → q ≡ pointer_without c p → SettlesFrom (desk_with after seats latest q) new
    → LeadsBy (Single (Leave c) (gave.Gone true)) (desk_with old seats latest p) new
goes c old after seats latest p q new leads large left settles d a =
    ends-lead c (Single (Leave c) (gave.Gone true)) d (desk_with old seats latest p) (desk_with after seats latest q) new (inr refl) a (leads (unpointed d) a.kept) large refl refl left refl settles

-- ---- a frame

pub frames : (time : ℕ) (old after : KeptDesk) (seats : List (List ℕ)) (latest : List Latest) (p : Pointer) (mid ended new : MarkedDesk) → KeptLeadsQuietly (Single (Tick time) gave.Tick) old after
    → IsAsLarge old.damage after.damage → mid.desk.kept ≡ after.desk → mid.desk.seats ≡ seats → mid.desk.latest ≡ latest → mid.damage ≡ after.damage
    → ((was : DeskView) (d e : Desktop) → Agrees was d → p ≡ d.pointer → KeptAgrees after.desk e → mid.desk.pointer ≡ pointer_left d e) → mid.settled ≡ false
    → EndsAllFrom mid ended → SettlesFrom ended new → LeadsQuietly (Single (Tick time) gave.Tick) (desk_with old seats latest p) new
frames time old after seats latest p mid ended new leads large kept same keeps damage left unknown ends settles d a =
    let led = leads (unpointed d) a.kept in
    let parts : mid ≡ record (desk_with after seats latest mid.desk.pointer) { settled = mid.settled } =
    ap₂ (λ (k : KeptDesk) (s : List (List ℕ)). record (desk_with k s mid.desk.latest mid.desk.pointer) { settled = mid.settled }) (ap₂ (λ v w. record { desk = v; damage = w }) kept damage) same
    ∙ ap (λ (l : List Latest). record (desk_with after seats l mid.desk.pointer) { settled = mid.settled }) keeps in
    frames-lead time d (desk_with old seats latest p) (record (desk_with after seats latest mid.desk.pointer) { settled = mid.settled }) ended new a led.0 led.1 large refl refl
    (left (desk_with old seats latest p).desk d led.0.desktop a a.pointer led.0.agrees) unknown
    (subst (λ (m : MarkedDesk). EndsAllFrom m ended) parts ends) settles

-- A client is written to.
use Rattle.std.proofs.Common.{◌≡◌, ◌||◌, ℕ, Bool, true, false, List, [], ◌∷◌, Option, Some, None, refl, ap, subst}
use Rattle.spec_desktop.specs.Act.{Leave, Send, peer_at, unsent_of}
use Rattle.spec_desktop.specs.Desktop.{Desktop}
use Rattle.spec_desktop.specs.declared.answers.Done.{Done}
use Rattle.wl_session.specs.Agreeing.{Agrees}
use Rattle.wl_session.specs.Course.{moment}
use Rattle.wl_session.specs.View.{SessionView}
use Rattle.wl_server.specs.declared.seat.Seat.{Seat}
use Rattle.wl_server.specs.Acting.{Takes}
use Rattle.wl_server.specs.Recorded.{RecordedView}
use Rattle.wl_server.specs.Phases.{Gives, Link, WritesClient, WritesSome}
use Rattle.wl_server.specs.Ways.{Ways}
use Rattle.wl_server.specs.Moves.{Delivers}
use Rattle.wl_server.proofs.Taking.{TakesNoted, Takes-none, Takes-one, Takes-two, idle}

-- what waits for it, by whatever desktop agrees
abbrev pub Waits : ℕ → Option (List ℕ) → SessionView → Type 0
Waits client bytes v = (d : Desktop) → Agrees v.desk d → bytes ≡ unsent_of (peer_at client d)

pub write-nothing : {H C : Type 0} {Writer : Type 0} {contents : Writer → Option (List ℕ)} (w : Ways H C) (client : ℕ) (from : Link H C) (v : RecordedView Writer) → Waits client None v.session → Takes contents (WritesClient w client from from) v v
write-nothing w client from v waits =
    Takes-none (WritesClient w client from from) v v refl
    (λ d agrees. subst (λ (bytes : Option (List ℕ)). WritesSome w client bytes from from (moment d v.session) [] [] (moment d v.session)) (waits d agrees) (idle from (moment d v.session)))

pub write-some : {H C : Type 0} {Writer : Type 0} {contents : Writer → Option (List ℕ)} (w : Ways H C) (client sent : ℕ) (bytes : List ℕ) (done : Done) (from to : Link H C) (old new : RecordedView Writer) → Waits client (Some bytes) old.session
    → TakesNoted contents (Send client sent) done old new → Gives w client bytes from to (Send client sent ∷ []) → Takes contents (WritesClient w client from to) old new
write-some w client sent bytes done from to old new waits course gives =
    Takes-one (WritesClient w client from to) (Send client sent) done old new course
    (λ d e es agrees parts. subst (λ (b : Option (List ℕ)). WritesSome w client b from to (moment d old.session) (Send client sent ∷ []) es (moment e new.session)) (waits d agrees) gives)

pub write-gone : {H C : Type 0} {Writer : Type 0} {contents : Writer → Option (List ℕ)} (w : Ways H C) (client sent : ℕ) (bytes : List ℕ) (done after : Done) (from to : Link H C) (old mid new : RecordedView Writer) → Waits client (Some bytes) old.session
    → TakesNoted contents (Send client sent) done old mid → TakesNoted contents (Leave client) after mid new → Gives w client bytes from to (Send client sent ∷ Leave client ∷ [])
    → Takes contents (WritesClient w client from to) old new
write-gone w client sent bytes done after from to old mid new waits course gone gives =
    Takes-two (WritesClient w client from to) (Send client sent) (Leave client) done after old mid new course gone
    (λ d e es agrees. subst (λ (b : Option (List ℕ)). WritesSome w client b from to (moment d old.session) (Send client sent ∷ Leave client ∷ []) es (moment e new.session)) (waits d agrees) gives)

or-true : (b : Bool) → true ≡ (b || true)
or-true true = refl
or-true false = refl

or-false : (b : Bool) → b ≡ (b || false)
or-false true = refl
or-false false = refl

pub kept-gone : {C : Type 0} (seat : Seat C) (conn : C) → record seat { conn = conn; has_failed = true } ≡ record seat { conn = conn; has_failed = seat.has_failed || true }
kept-gone seat conn = ap (λ (b : Bool). record seat { conn = conn; has_failed = b }) (or-true seat.has_failed)

pub kept-on : {C : Type 0} (seat : Seat C) (conn : C) → record seat { conn = conn } ≡ record seat { conn = conn; has_failed = seat.has_failed || false }
kept-on seat conn = ap (λ (b : Bool). record seat { conn = conn; has_failed = b }) (or-false seat.has_failed)

-- what is said of a delivery is said of a value that is known
pub delivered-as : {H C : Type 0} (w : Ways H C) (hub next_hub : H) (conn next_conn : C) (bytes : List ℕ) (sent : ℕ) (gone is : Bool) → gone ≡ is
    → Delivers w.writes w.faults hub conn bytes sent gone next_hub next_conn → Delivers w.writes w.faults hub conn bytes sent is next_hub next_conn
delivered-as w hub next_hub conn next_conn bytes sent gone is same delivers =
    subst (λ (b : Bool). Delivers w.writes w.faults hub conn bytes sent b next_hub next_conn) same delivers

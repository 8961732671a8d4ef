-- What comes of taking a message, by what is kept of the clients then, and of the wl_pointers.
use Rattle.std.proofs.Common.{◌≡◌, ◌≢◌, ℕ, List, Bool, true, false, length, Vec, Option, Some, None, refl, ap, subst, sym, ◌∙◌}
use Rattle.std.specs.Prelude.{is_some}
use Rattle.std.specs.Vec.{with_items}
use Rattle.std.proofs.lemmas.List.{with_items_is}
use Rattle.wl_scene.specs.Marking.{IsAsLarge}
use Rattle.spec_desktop.specs.declared.cause.Cause.{Cause}
use Rattle.spec_desktop.specs.Pointer.{Pointer}
use Rattle.spec_desktop.specs.declared.answers.Fed.{Fed}
use Rattle.spec_desktop.specs.declared.answers.Fed.TheVariants.{Ended}
use Rattle.spec_desktop.specs.Act.{fed_of, peer_at, peer_of, status_of as status_fed}
use Rattle.spec_desktop.specs.Desktop.{Desktop, Resident, client_at, status_in, status_of, unpointed}
use Rattle.spec_desktop.specs.Happenings.{Message}
use Rattle.spec_desktop.specs.Settling.{unstruck}
use Rattle.law_desktop.specs.Pointed.Pointed.{asked}
use Rattle.wl_requests.specs.declared.pointer_asked.PointerAsked.{PointerAsked}
use Rattle.wl_requests.specs.declared.pointer_asked.PointerAsked.TheVariants.{NewPointer}
use Rattle.wl_clients.specs.Agreeing.{Agrees as KeptAgrees}
use Rattle.wl_clients.specs.Agreement.{numbers_in}
use Rattle.wl_clients.specs.Feeding.{IsIdleIn}
use Rattle.wl_clients.specs.Leading.{Led}
use Rattle.wl_clients.specs.Pointing.{AsksOfPointer, IsLatest}
use Rattle.wl_clients.specs.Touching.{ChangesNoHit}
use Rattle.wl_clients.specs.declared.grabs.Latest.{Latest}
use Rattle.wl_clients.specs.View.{MarkedDesk as KeptDesk}
use Rattle.wl_desk.specs.Agreeing.{Agrees, AreLatest, AreSeats}
use Rattle.wl_desk.specs.Following.{Took}
use Rattle.wl_desk.specs.Seating.{seats_after}
use Rattle.wl_desk.specs.View.{MarkedDesk}
use Rattle.wl_desk.proofs.LatestStay.{latest-stay, message-keeps}
use Rattle.wl_desk.proofs.Seated.{IsPlaced, seats-keep}

pub taken : (c : ℕ) (request : PointerAsked) (room : Bool) (old new : MarkedDesk) (d : Desktop) → Agrees old.desk d
    → Led (KeptAgrees new.desk.kept) (Message c) old.damage new.damage (unpointed d) → AsksOfPointer (numbers_in old.desk.kept.clients c) (asked c d) request
    → ((id : ℕ) → request ≡ NewPointer id → room ≡ false → (e : Desktop) → KeptAgrees new.desk.kept e → is_some (status_in c e) ≡ true)
    → IsAsLarge old.damage new.damage → (room ≡ true → IsPlaced c old.desk.seats) → new.desk.seats ≡ seats_after room request c old.desk.seats
    → new.desk.latest ≡ old.desk.latest → new.desk.pointer ≡ old.desk.pointer → Took c request old new d
taken c request room old new d a led asks no_room large placed seats latest pointer = record {
  path = led.path;
  desktop = led.desktop;
  leads = led.leads;
  kept = led.agrees;
  marks = led.marks;
  sides = large;
  asks = asks;
  seats = subst (λ (s : List (List ℕ)). AreSeats s led.desktop) (sym seats)
      (seats-keep c request room (numbers_in old.desk.kept.clients c) old.desk.seats d led.desktop led.path a.seats led.leads asks (λ id is none. no_room id is none led.desktop led.agrees) placed);
  latest = subst (λ (l : List Latest). AreLatest l (unstruck led.desktop)) (sym latest)
      (latest-stay old.desk.latest (Message c) d led.path led.desktop (message-keeps c) a.latest led.leads);
  pointer = pointer ∙ a.pointer;
  placed = a.placed;
  settled = a.settled;
}

-- where there was no message
pub rested : (old new : MarkedDesk) (d : Desktop) → Agrees old.desk d → KeptAgrees new.desk.kept (unpointed d) → new.desk.seats ≡ old.desk.seats → new.desk.latest ≡ old.desk.latest
    → new.desk.pointer ≡ old.desk.pointer → Agrees new.desk d
rested old new d a kept seats latest pointer = record {
  kept = kept;
  pointer = pointer ∙ a.pointer;
  placed = a.placed;
  seats = subst (λ (s : List (List ℕ)). AreSeats s d) (sym seats) a.seats;
  latest = subst (λ (l : List Latest). AreLatest l (unstruck d)) (sym latest) a.latest;
  settled = a.settled;
}

-- ---- of a whole desk

abbrev pub desk_with : KeptDesk → List (List ℕ) → List Latest → Pointer → Bool → MarkedDesk
desk_with k seats latest p on = record { desk = record { kept = k.desk; seats = seats; latest = latest; pointer = p }; damage = k.damage; settled = on }

pub rested-whole : (c : ℕ) (k now : KeptDesk) (seats is : List (List ℕ)) (latest : List Latest) (p : Pointer) (on : Bool) (old : MarkedDesk) → desk_with k seats latest p on ≡ old → is ≡ seats
    → ((d : Desktop) → KeptAgrees k.desk d → KeptAgrees now.desk d × IsIdleIn c d) → (d : Desktop) → Agrees old.desk d → Agrees (desk_with now is latest p on).desk d × IsIdleIn c d
rested-whole c k now seats is latest p on old view same idle d a =
    let was : Agrees (desk_with k seats latest p on).desk d = subst (λ (m : MarkedDesk). Agrees m.desk d) (sym view) a in
    let h = idle (unpointed d) was.kept in
    (rested (desk_with k seats latest p on) (desk_with now is latest p on) d was h.0 same refl refl, h.1)

pub took-whole : (c : ℕ) (request : PointerAsked) (room : Bool) (k now : KeptDesk) (seats is : List (List ℕ)) (latest : List Latest) (p : Pointer) (on : Bool) (old : MarkedDesk) → desk_with k seats latest p on ≡ old
    → is ≡ seats_after room request c seats → (room ≡ true → IsPlaced c seats) → (told : Latest)
    → ((d : Desktop) → Agrees (desk_with k seats latest p on).desk d → IsLatest told (client_at c d))
    → ((d : Desktop) → KeptAgrees k.desk d → IsLatest told (client_at c d) → Led (KeptAgrees now.desk) (Message c) k.damage now.damage d)
    → ((d : Desktop) → KeptAgrees k.desk d → AsksOfPointer (numbers_in k.desk.clients c) (asked c d) request)
    → ((id : ℕ) → request ≡ NewPointer id → room ≡ false → (e : Desktop) → KeptAgrees now.desk e → is_some (status_in c e) ≡ true) → IsAsLarge k.damage now.damage
    → (d : Desktop) → Agrees old.desk d → Took c request old (desk_with now is latest p on) d
took-whole c request room k now seats is latest p on old view same placed told serials leads asks no_room large d a =
    let was : Agrees (desk_with k seats latest p on).desk d = subst (λ (m : MarkedDesk). Agrees m.desk d) (sym view) a in
    subst (λ (m : MarkedDesk). Took c request m (desk_with now is latest p on) d) view
    (taken c request room (desk_with k seats latest p on) (desk_with now is latest p on) d was (leads (unpointed d) was.kept (serials d was)) (asks (unpointed d) was.kept) no_room large placed same refl refl)

-- what is said of what points hit, by what is kept of the clients, is said by the desk
pub hits-whole : (c : ℕ) (k now : KeptDesk) (seats : List (List ℕ)) (latest : List Latest) (p : Pointer) (on : Bool) (old : MarkedDesk) → desk_with k seats latest p on ≡ old → (told : Latest)
    → ((d : Desktop) → Agrees (desk_with k seats latest p on).desk d → IsLatest told (client_at c d))
    → ((d : Desktop) → KeptAgrees k.desk d → IsLatest told (client_at c d) → ChangesNoHit c now.desk d) → (d : Desktop) → Agrees old.desk d
    → ChangesNoHit c now.desk (unpointed d)
hits-whole c k now seats latest p on old view told serials stay d a =
    let was : Agrees (desk_with k seats latest p on).desk d = subst (λ (m : MarkedDesk). Agrees m.desk d) (sym view) a in
    stay (unpointed d) was.kept (serials d was)

-- what was written to the wl_pointers of all is there
pub written : {V Z : Type 0} (v : Vec V Z) (xs now : List V) → length xs ≡ length now → now ≡ v.items → (with_items v xs).items ≡ xs
written v xs now same is = with_items_is v xs (same ∙ ap length is ∙ sym v.ok.0)

-- ---- how a client is

fed-status : (s : Option Cause) (why : Cause) → Ended why ≡ fed_of s → s ≡ Some why
fed-status None why e = absurd (cc)
fed-status (Some other) why e = cc

pub ended-status : (c : ℕ) (e : Desktop) (fed : Fed) (why : Cause) → fed ≡ status_fed (peer_at c e) → fed ≡ Ended why → status_in c e ≡ Some why
ended-status c e fed why is ended = at (client_at c e) (sym ended ∙ is)
  where
    at : (o : Option Resident) → Ended why ≡ status_fed (peer_of o) → status_of o ≡ Some why
    at None is = absurd (cc)
    at (Some r) is = fed-status r.peer.status why is

pub lives-status : (c : ℕ) (e : Desktop) (fed : Fed) → fed ≡ status_fed (peer_at c e) → ((why : Cause) → fed ≢ Ended why) → status_in c e ≡ None
lives-status c e fed is lives = at (client_at c e) is
  where
    by : (s : Option Cause) → fed ≡ fed_of s → s ≡ None
    by None is = refl
    by (Some why) is = absurd (lives why is)

    at : (o : Option Resident) → fed ≡ status_fed (peer_of o) → status_of o ≡ None
    at None is = refl
    at (Some r) is = by r.peer.status is

-- How the pointer follows a message, by what is kept of the clients, of the wl_pointers, and of the pointer.
use Rattle.std.proofs.Common.{◌≡◌, ◌≢◌, ◌==◌, ℕ, List, [], ◌∷◌, Bool, true, false, Option, Some, None, refl, ap, subst, sym, ◌∙◌, ◌⊎◌, inl, inr}
use Rattle.std.proofs.lemmas.Bool.{true≢false}
use Rattle.std.specs.Prelude.{is_some}
use Rattle.spec_desktop.specs.declared.cause.Cause.{Cause}
use Rattle.spec_desktop.specs.Pointer.{Pointer, Target, is_stacked}
use Rattle.wl_scene.specs.Focus.{unless_of}
use Rattle.spec_desktop.specs.declared.answers.Fed.{Fed}
use Rattle.spec_desktop.specs.declared.answers.Fed.TheVariants.{Alive, Ended}
use Rattle.spec_desktop.specs.Act.{fed_of, peer_at, peer_of, status_of}
use Rattle.spec_desktop.specs.Changing.{drawing, has_focus}
use Rattle.spec_desktop.specs.Demand.{GetPointer}
use Rattle.spec_desktop.specs.Desktop.{Desktop, Resident, client_at, status_in, status_of as status_of_client, unpointed}
use Rattle.spec_desktop.specs.Happenings.{Message}
use Rattle.spec_desktop.specs.Replies.{entered_at, focus_window}
use Rattle.spec_desktop.specs.Settling.{Midstep, Tells, pointer_without, unstruck}
use Rattle.spec_desktop.specs.Stacked.{all_windows}
use Rattle.law_desktop.specs.Pointed.Pointed.{asked, keeping}
use Rattle.wl_requests.specs.declared.pointer_asked.PointerAsked.{PointerAsked}
use Rattle.wl_requests.specs.declared.pointer_asked.PointerAsked.TheVariants.{NewPointer}
use Rattle.wl_clients.specs.Agreeing.{Agrees as KeptAgrees}
use Rattle.wl_clients.specs.Agreement.{numbers_in}
use Rattle.wl_clients.specs.Leading.{Led}
use Rattle.wl_clients.specs.Touching.{ChangesNoHit}
use Rattle.wl_clients.specs.declared.grabs.Latest.{Latest}
use Rattle.wl_clients.specs.View.{DeskView as ClientsView, MarkedDesk as KeptDesk}
use Rattle.wl_desk.specs.Agreeing.{Agrees}
use Rattle.wl_desk.specs.Beginning.{IsMovable, IsToMove, begun, chosen_by}
use Rattle.wl_desk.specs.declared.moves.Movable.{Movable}
use Rattle.wl_desk.specs.Following.{IsFollowed, Took}
use Rattle.wl_desk.specs.Midway.{IsAmid, IsMidway, IsTelling}
use Rattle.wl_desk.specs.View.{MarkedDesk}
use Rattle.wl_desk.specs.Ways.{EndsAllFrom, SettlesFrom}
use Rattle.wl_desk.proofs.Asking.{on-away, on-ended, refused-ends}
use Rattle.wl_desk.proofs.Begun.{after-end, after-get, after-life, asks-move, forgets}
use Rattle.wl_desk.proofs.Following.{followed, followed-told, put, put-midway, put-placed, put-stacked}
use Rattle.wl_desk.proofs.Once.{as-marked, settled-on}
use Rattle.wl_desk.proofs.Seated.{asks-by, asks-new-pointer}
use Rattle.wl_desk.proofs.Taking.{desk_with, ended-status, lives-status}

-- ---- of a whole desk

-- A toplevel that doesn't stand any more isn't moved any more, and nothing else changes.
pub record LetsGo (old new : MarkedDesk) : Type 0 where
  pub pointer : (e : Desktop) → KeptAgrees old.desk.kept e → new.desk.pointer ≡ keeping e.standing old.desk.pointer
  pub kept : new.desk.kept ≡ old.desk.kept
  pub seats : new.desk.seats ≡ old.desk.seats
  pub latest : new.desk.latest ≡ old.desk.latest
  pub damage : new.damage ≡ old.damage

pub status-at : (c : ℕ) (k : KeptDesk) (seats : List (List ℕ)) (latest : List Latest) (p : Pointer) (on : Bool) (mid : MarkedDesk) (fed : Fed) → desk_with k seats latest p on ≡ mid
    → ((e : Desktop) → KeptAgrees k.desk e → fed ≡ status_of (peer_at c e)) → (e : Desktop) → KeptAgrees mid.desk.kept e → fed ≡ status_of (peer_at c e)
status-at c k seats latest p on mid fed view status e kept = status e (subst (λ (m : MarkedDesk). KeptAgrees m.desk.kept e) (sym view) kept)

pub focus-at : (k : KeptDesk) (seats : List (List ℕ)) (latest : List Latest) (p : Pointer) (on : Bool) (mid : MarkedDesk) (f : Option Target) → desk_with k seats latest p on ≡ mid → f ≡ p.focus → mid.desk.pointer.focus ≡ f
focus-at k seats latest p on mid f view is = sym (is ∙ ap (λ (m : MarkedDesk). m.desk.pointer.focus) view)

pub none-away : (c : ℕ) (f : Option Target) → f ≡ None → has_focus c f ≡ false
none-away c f none = ap (has_focus c) none

pub other-away : (c : ℕ) (t : Target) (f : Option Target) → (t.client == c) ≡ false → f ≡ Some t → has_focus c f ≡ false
other-away c t f apart is = ap (has_focus c) is ∙ apart

-- what the pointer has of a client, it leaves, and one that doesn't stand any more isn't moved any more
pub left-whole : (c : ℕ) (request : PointerAsked) (k : KeptDesk) (seats : List (List ℕ)) (latest : List Latest) (p q : Pointer) (on : Bool) (mid new : MarkedDesk) → desk_with k seats latest p on ≡ mid → (fed : Fed) (why : Cause)
    → ((e : Desktop) → KeptAgrees k.desk e → fed ≡ status_of (peer_at c e)) → fed ≡ Ended why → q ≡ record p { focus = unless_of c p.focus; move = unless_of c p.move }
    → LetsGo (desk_with k seats latest q on) new → (t : Option Target) (old : MarkedDesk) (d : Desktop) → (took : Took c request old mid d) → IsToMove (asked c d) c d t → IsFollowed c took.desktop old new d
left-whole c request k seats latest p q on mid new view fed why status ended leaves go t old d took to =
    subst (λ (m : MarkedDesk). (took : Took c request old m d) → IsFollowed c took.desktop old new d) view by took
  where
    by : (took : Took c request old (desk_with k seats latest p on) d) → IsFollowed c took.desktop old new d
    by took =
        let e : Desktop = took.desktop in
        let is : status_in c e ≡ Some why = ended-status c e fed why (status e took.kept) ended in
        let left : q ≡ pointer_without c d.pointer = leaves ∙ forgets c p ∙ ap (pointer_without c) took.pointer in
        followed c request old (desk_with k seats latest p on) new d took
        (on-ended c d took.path e took.placed.moved took.leads (ap (λ (s : Option Cause). is_some s) is)) go.kept go.seats go.latest
        (go.pointer e took.kept ∙ ap (keeping e.standing) left ∙ sym (after-end c why d took.path e took.leads is)) go.damage

stays : (c id version : ℕ) (request : PointerAsked) (old mid : MarkedDesk) (d : Desktop) (took : Took c request old mid d) → status_in c took.desktop ≡ None
    → asked c d ≡ Some (GetPointer id version) → has_focus c d.pointer.focus ≡ false → IsFollowed c took.desktop old mid d
stays c id version request old mid d took alive asks away =
    followed c request old mid mid d took (on-away c d took.path took.desktop took.placed.moved (inr away) took.leads) refl refl refl
    (took.pointer ∙ sym (after-get c id version d took.path took.desktop took.placed.moved asks took.leads alive)) refl

-- no wl_pointer was asked for: a toplevel may begin to be moved
pub unasked-whole : (c : ℕ) (request : PointerAsked) (t : Option Target) (mid begins new : MarkedDesk) (fed : Fed) → ((e : Desktop) → KeptAgrees mid.desk.kept e → fed ≡ status_of (peer_at c e))
    → ((why : Cause) → fed ≢ Ended why) → ((id : ℕ) → request ≢ NewPointer id) → begins.desk.pointer ≡ begun t mid.desk.pointer → begins.desk.kept ≡ mid.desk.kept
    → begins.desk.seats ≡ mid.desk.seats → begins.desk.latest ≡ mid.desk.latest → begins.damage ≡ mid.damage → LetsGo begins new → (old : MarkedDesk) (d : Desktop) → (took : Took c request old mid d) → IsToMove (asked c d) c d t
    → IsFollowed c took.desktop old new d
unasked-whole c request t mid begins new fed status lives never begin kept seats latest damage go old d took to =
    let e : Desktop = took.desktop in
    let alive : status_in c e ≡ None = lives-status c e fed (status e took.kept) lives in
    followed c request old mid new d took
    (on-away c d took.path e took.placed.moved
    (inl (λ id version asks. absurd (never id (asks-new-pointer (asked c d) request (numbers_in old.desk.kept.clients c) id version took.asks asks)))) took.leads)
    (go.kept ∙ kept) (go.seats ∙ seats) (go.latest ∙ latest)
    (go.pointer e (subst (λ (k : ClientsView). KeptAgrees k e) (sym kept) took.kept)
    ∙ ap (keeping e.standing) (begin ∙ ap (begun t) took.pointer) ∙ sym (after-life c d took.path e t took.leads alive to)) (go.damage ∙ damage)

-- a new wl_pointer was asked for by a client that lives
pub asked-whole : (c id : ℕ) (request : PointerAsked) (mid new : MarkedDesk) (fed : Fed) → ((e : Desktop) → KeptAgrees mid.desk.kept e → fed ≡ status_of (peer_at c e))
    → ((why : Cause) → fed ≢ Ended why) → request ≡ NewPointer id
    → ((old : MarkedDesk) (d : Desktop) (took : Took c (NewPointer id) old mid d) → status_in c took.desktop ≡ None → IsFollowed c took.desktop old new d)
    → (t : Option Target) (old : MarkedDesk) (d : Desktop) → (took : Took c request old mid d) → IsToMove (asked c d) c d t → IsFollowed c took.desktop old new d
asked-whole c id request mid new fed status lives is tells t old d took to =
    subst (λ (r : PointerAsked). (took : Took c r old mid d) → IsFollowed c took.desktop old new d) (sym is) by took
  where
    by : (took : Took c (NewPointer id) old mid d) → IsFollowed c took.desktop old new d
    by took = tells old d took (lives-status c took.desktop fed (status took.desktop took.kept) lives)

-- its client hasn't the focus
pub away-whole : (c id : ℕ) (mid : MarkedDesk) → has_focus c mid.desk.pointer.focus ≡ false → (old : MarkedDesk) (d : Desktop) (took : Took c (NewPointer id) old mid d)
    → status_in c took.desktop ≡ None → IsFollowed c took.desktop old mid d
away-whole c id mid away old d took alive =
    by (asks-by (asked c d) (NewPointer id) (numbers_in old.desk.kept.clients c) id took.asks refl)
  where
    by : ((asked c d ≡ None) ⊎ ((version : ℕ) × (asked c d ≡ Some (GetPointer id version)))) → IsFollowed c took.desktop old mid d
    by (inl none) =
        absurd (true≢false (sym (refused-ends c d took.path took.desktop none took.leads) ∙ ap (λ (s : Option Cause). is_some s) alive))
    by (inr get) = stays c id get.0 (NewPointer id) old mid d took alive get.1 (ap (λ (p : Pointer). has_focus c p.focus) (sym took.pointer) ∙ away)

-- ---- it has

module _ (c id : ℕ) (mid : MarkedDesk) (t : Target) (own : t.client ≡ c) (has : mid.desk.pointer.focus ≡ Some t) (told : MarkedDesk) (pointer : told.desk.pointer ≡ mid.desk.pointer)
    (damage : told.damage ≡ mid.damage)
    (tells : (m : Midstep) → IsTelling mid.desk m → is_stacked t (all_windows m.desktop) ≡ true → m.desktop.pointer.place ≢ None
    → (n : Midstep)
    × Tells (drawing true) (λ (r : Resident). entered_at id r.peer.serial m.desktop.pointer.place (focus_window (Some t) (all_windows m.desktop))) t.client m n
    × IsTelling told.desk n) where
  module _ (old : MarkedDesk) (d : Desktop) (took : Took c (NewPointer id) old mid d) (alive : status_in c took.desktop ≡ None) where
    focus-is : d.pointer.focus ≡ Some t
    focus-is = ap (λ (p : Pointer). p.focus) (sym took.pointer) ∙ has

    told-so : (n : Midstep)
        × Tells (drawing true)
        (λ (r : Resident). entered_at id r.peer.serial (put c id old mid d took alive t focus-is own).pointer.place (focus_window (Some t) (all_windows (put c id old mid d took alive t focus-is own))))
        t.client (unstruck (put c id old mid d took alive t focus-is own)) n
        × IsTelling told.desk n
    told-so =
        tells (unstruck (put c id old mid d took alive t focus-is own)) (put-midway c id old mid d took alive t focus-is own).telling
        (put-stacked c id old mid d took alive t focus-is own) (put-placed c id old mid d took alive t focus-is own)

    pub told-whole : IsFollowed c took.desktop old told d
    told-whole = followed-told c id old mid d took alive t focus-is own told-so.0 told-so.1 told told-so.2 pointer damage

-- ---- and then clients end, and the focus is settled

-- one that lives as a client does isn't ended
alive-status : (o : Option Resident) → Alive ≡ status_of (peer_of o) → status_of_client o ≡ None
alive-status None is = absurd (cc)
alive-status (Some r) is = by r.peer.status is
  where
    by : (s : Option Cause) → Alive ≡ fed_of s → s ≡ None
    by None is = refl
    by (Some why) is = absurd (cc)

-- `settled` tells whether the focus is known to be settled then
pub served-whole : (c : ℕ) (changes settled : Bool) (fed : Fed) (request : PointerAsked) (movable : Option Movable) (t : Option Target) (old mid next ended new : MarkedDesk)
    → ((d : Desktop) → Agrees old.desk d → IsMovable (numbers_in old.desk.kept.clients c) c d movable) → t ≡ chosen_by movable request
    → ((d : Desktop) → Agrees old.desk d → Took c request old mid d)
    → ((was : MarkedDesk) (d : Desktop) → (took : Took c request was mid d) → IsToMove (asked c d) c d t → IsFollowed c took.desktop was next d)
    → (changes ≡ false → (d : Desktop) → Agrees old.desk d → ChangesNoHit c mid.desk.kept (unpointed d))
    → ((e : Desktop) → KeptAgrees mid.desk.kept e → fed ≡ status_of (peer_at c e))
    → (settled ≡ true → (fed ≡ Alive) × (changes ≡ false))
    → EndsAllFrom (record next { settled = settled }) ended → SettlesFrom ended new → (d : Desktop) → Agrees old.desk d → Led (Agrees new.desk) (Message c) old.damage new.damage d
served-whole c changes settled fed request movable t old mid next ended new may is took follows stay status why ends settles d a =
    let it = took d a in
    let to : IsToMove (asked c d) c d t =
    subst (λ (x : Option Target). IsToMove (asked c d) c d x) (sym is)
    (asks-move (numbers_in old.desk.kept.clients c) (asked c d) c d request movable it.asks (may d a)) in
    let u = follows old d it to in
    let at = record next { settled = settled } in
    let amid : IsAmid at u.led.mid = record {
      midway = u.led.midway;
      known = λ yes.
          let h = why yes in
          let alive = alive-status (client_at c it.desktop) (sym h.0 ∙ status it.desktop it.kept) in
          u.unmoved alive (stay h.1 d a it.path it.desktop it.leads it.kept alive);
    } in
    settled-on (Message c) d old at ended new (as-marked (Message c) old next settled d u.led) refl (ends u.led.mid amid) settles

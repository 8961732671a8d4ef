-- A message with the pointer put aside, and with the pointer put back.
use Rattle.std.proofs.Common.{◌≡◌, ℕ, List, [], ◌∷◌, ◌++◌, drop, take, map, Bool, true, false, Option, Some, None, Result, refl, ap, ap₂, subst, sym, ◌∙◌, inl, inr}
use Rattle.std.proofs.lemmas.Bool.{true≢false}
use Rattle.std.specs.Prelude.{◌-◌, Ok, Err}
use Rattle.wl_wire.specs.Wire.{split_of}
use Rattle.wl_wire.specs.declared.header.Split.{Split}
use Rattle.wl_wire.specs.declared.header.Split.TheVariants.{Message as Whole, More, Bad}
use Rattle.wl_proto.specs.declared.interface.Interface.TheVariants.{WlPointer}
use Rattle.spec_desktop.specs.declared.cause.Cause.{Cause}
use Rattle.spec_desktop.specs.declared.refusals.ErrorCode.TheVariants.{InvalidMethod}
use Rattle.spec_desktop.specs.declared.refusals.Refusal.{Refusal}
use Rattle.spec_desktop.specs.Peer.{Errs, LacksMemory, Peer, counted, ended, with_rest}
use Rattle.spec_desktop.specs.Told.{Said, display_error}
use Rattle.wl_shell.specs.Popups.{is_toplevel, Popped, popup_at}
use Rattle.wl_shell.specs.Shell.{Effect, Configures, Maps, Unmaps, Kind, Toplevel, IsPopup, RoleObject, XdgSurface, xdg_of}
use Rattle.wl_shell.specs.Positioner.{Positioner}
use Rattle.spec_desktop.specs.Pointer.{Pointer, first_pointer}
use Rattle.spec_desktop.specs.Stacking.{without_client}
use Rattle.spec_desktop.specs.Windows.{Window}
use Rattle.spec_desktop.specs.Changing.{changed_for, drawing, has_focus, in_rising_order, stacked_by, with_kept_move}
use Rattle.spec_desktop.specs.Demand.{Demand, CommitTree, GetPointer, Reposition}
use Rattle.spec_desktop.specs.Demand.{Move}
use Rattle.spec_desktop.specs.Demanding.{effect_of_commit, judge_all}
use Rattle.spec_desktop.specs.Desktop.{Desktop, Resident, become_by, client_at, client_in, resident_of, status_in, status_of, unpointed, with_client}
use Rattle.spec_desktop.specs.Happens.{AnswersThen, BecomesThen, DoesThen, ServesThen, TakesThen, WantsOrThen, changed_so, done_for, wants_memory}
use Rattle.spec_desktop.specs.Replies.{commit_told, configure_told, new_pointer_told, role_told, own_answers, popups_done, releases, replies, reposition_told}
use Rattle.spec_desktop.specs.Settling.{QueuesTo, Strike, after_status, becomes, ended_all, ended_at, ended_by, pointer_without, struck_by, unstruck}
use Rattle.spec_desktop.specs.Stacked.{all_windows}
use Rattle.spec_desktop.specs.Step.{making, with_peer, xdg_configured}
use Rattle.spec_desktop.specs.Through.{ends_through, settling_through}
use Rattle.law_desktop.proofs.Runs.Ends.{queues-status}
use Rattle.law_desktop.proofs.Runs.Places.{number-same, status-become}
use Rattle.law_desktop.proofs.Runs.Serves.{done-clients_stay}
use Rattle.law_desktop.proofs.Runs.Through.{messages_lead_through, settling-with}
use Rattle.law_desktop.proofs.Soundness.RunSteady.{changed-steady}
use Rattle.law_desktop.specs.Pointed.Apart.{PointerApart, PointerApartThrough, SettlesOn}
use Rattle.law_desktop.specs.Pointed.Pointed.{AsksNoFocus, MovedStands, asked, asked_by, asked_first, asked_of, keeping, pointed, pointer_asked, pointer_for, pointer_if, put_back}
use Rattle.law_desktop.proofs.PointerAside.Pointers.{ended-put, keeping-stays, keeping-without, settles-on}

-- ---- what a message does looks at the pointer where it asks for one, and where it asks for a move

-- it doesn't ask for a pointer of the client that has the focus
abbrev pub LooksAway : ℕ → Demand → Desktop → Type 0
LooksAway c demand d = (id version : ℕ) → demand ≡ GetPointer id version → has_focus c d.pointer.focus ≡ false

pub changed-same : (c : ℕ) (demand : Demand) (r : Resident) (d : Desktop) → LooksAway c demand d → changed_for c demand r (unpointed d) ≡ changed_for c demand r d
changed-same c (GetPointer id version) r d away =
    sym (ap (λ (b : Bool). making WlPointer id version (drawing b (record r { pointers = in_rising_order id r.pointers }))) (away id version refl))
changed-same c demand r d away = refl

role-same : (c : ℕ) (r : Resident) (d : Desktop) (id : ℕ) (kind : Kind) → role_told c r (unpointed d) id kind ≡ role_told c r d id kind
role-same c r d id Toplevel = refl
role-same c r d id (IsPopup popup) = refl

configure-same : (c : ℕ) (r : Resident) (d : Desktop) (xdg : ℕ) (o : Option RoleObject) → configure_told c r (unpointed d) xdg o ≡ configure_told c r d xdg o
configure-same c r d xdg None = refl
configure-same c r d xdg (Some object) = ap (λ (told : List Said). told ++ xdg_configured xdg r.peer.serial ∷ []) (role-same c r d object.id object.kind)

told-same : (c : ℕ) (effect : Effect) (o : Option XdgSurface) (r : Resident) (d : Desktop) → commit_told c effect o r (unpointed d) ≡ commit_told c effect o r d
told-same c Configures (Some x) r d = configure-same c r d x.id x.role
told-same c effect o r d = refl

reposition-same : (c : ℕ) (r : Resident) (d : Desktop) (token : ℕ) (p : Positioner) (o : Option Popped) → reposition_told c r (unpointed d) token p o ≡ reposition_told c r d token p o
reposition-same c r d token p None = refl
reposition-same c r d token p (Some q) = refl

answers-same : (c : ℕ) (demand : Demand) (r : Resident) (windows : List Window) (d : Desktop) → LooksAway c demand d → own_answers c demand r windows (unpointed d) ≡ own_answers c demand r windows d
answers-same c (CommitTree surface) r windows d away = told-same c (effect_of_commit r surface) (xdg_of surface r.owned.shell) r d
answers-same c (GetPointer id version) r windows d away = sym (ap (λ (b : Bool). new_pointer_told b id r.peer.serial windows d) (away id version refl))
answers-same c (Reposition xdg token p) r windows d away = reposition-same c r d token p (popup_at xdg r.owned.shell)
answers-same c demand r windows d away = refl

pub replies-same : (c : ℕ) (demand : Demand) (old new : Resident) (windows : List Window) (d : Desktop) → LooksAway c demand d
    → replies c demand old new windows (unpointed d) ≡ replies c demand old new windows d
replies-same c demand old new windows d away =
    ap (λ (own : List Said). own ++ releases old new ++ popups_done old new) (answers-same c demand old windows d away)

-- ---- what becomes of the stack and of the pointer

-- the pointer put back after what was done
abbrev pub done_back : ℕ → Demand → Resident → Desktop → Pointer
done_back c demand r d = keeping (done_for c demand r (unpointed d)).standing (pointer_for demand c d)

stacked-back : (effect : Effect) (top : Bool) (c surface : ℕ) (d : Desktop)
    → with_kept_move (stacked_by effect top c surface d)
    ≡ pointed (keeping (with_kept_move (stacked_by effect top c surface (unpointed d))).standing d.pointer) (with_kept_move (stacked_by effect top c surface (unpointed d)))
stacked-back Maps true c surface d = refl
stacked-back Unmaps true c surface d = refl
stacked-back effect top c surface d = refl

pub done-back : (c : ℕ) (demand : Demand) (r : Resident) (d : Desktop) → done_for c demand r d ≡ pointed (done_back c demand r d) (done_for c demand r (unpointed d))
done-back c (CommitTree surface) r d = stacked-back (effect_of_commit r surface) (is_toplevel (xdg_of surface r.owned.shell)) c surface d
done-back c demand r d = refl

stacked-still : (effect : Effect) (top : Bool) (c surface : ℕ) (d : Desktop) → (with_kept_move (stacked_by effect top c surface (unpointed d))).pointer ≡ first_pointer
stacked-still Maps true c surface d = refl
stacked-still Unmaps true c surface d = refl
stacked-still effect top c surface d = refl

pub done-still : (c : ℕ) (demand : Demand) (r : Resident) (d : Desktop) → (done_for c demand r (unpointed d)).pointer ≡ first_pointer
done-still c (CommitTree surface) r d = stacked-still (effect_of_commit r surface) (is_toplevel (xdg_of surface r.owned.shell)) c surface d
done-still c demand r d = refl

-- what may run out of memory doesn't begin to move a toplevel
pub plain-for : (demand : Demand) (c : ℕ) (d : Desktop) → wants_memory demand ≡ true → pointer_for demand c d ≡ d.pointer
plain-for (Move surface serial) c d wants = absurd (true≢false (sym wants))
plain-for demand c d wants = refl

-- ---- what becomes of a client

pub becomes-back : (s : Option Cause) (c : ℕ) (r : Resident) (q : Peer) (d : Desktop)
    → after_status s c (become_by s c r q d) ≡ pointed (pointer_if s c d.pointer) (after_status s c (become_by s c r q (unpointed d)))
becomes-back None c r q d = refl
becomes-back (Some cause) c r q d = refl

pub becomes-still : (s : Option Cause) (c : ℕ) (r : Resident) (q : Peer) (d : Desktop) → (after_status s c (become_by s c r q (unpointed d))).pointer ≡ first_pointer
becomes-still None c r q d = refl
becomes-still (Some cause) c r q d = refl

becomes-keeps : (s : Option Cause) (c : ℕ) (r : Resident) (q : Peer) (d : Desktop) → MovedStands d
    → keeping (after_status s c (become_by s c r q (unpointed d))).standing (pointer_if s c d.pointer) ≡ pointer_if s c d.pointer
becomes-keeps None c r q d moved = keeping-stays d.pointer d.standing moved
becomes-keeps (Some cause) c r q d moved =
    keeping-without c d.pointer d.standing ∙ ap (pointer_without c) (keeping-stays d.pointer d.standing moved)

pub after-status : (s : Option Cause) (c : ℕ) (d : Desktop) → status_in c (after_status s c d) ≡ status_in c d
after-status None c d = refl
after-status (Some cause) c d = refl

-- ---- the pointer is put back

-- by why a message's client ended, if it did, and by what it asked
pub put-is : (c : ℕ) (d : Desktop) (s : Option Cause) (p : Pointer) (x : Desktop) → status_in c x ≡ s → pointer_asked (asked c d) c d ≡ p
    → put_back c d x ≡ pointed (keeping x.standing (pointer_if s c p)) x
put-is c d s p x status from = ap₂ (λ (s : Option Cause) (p : Pointer). pointed (keeping x.standing (pointer_if s c p)) x) status from

pub becomes-put : (c : ℕ) (r there : Resident) (q : Peer) (d : Desktop) → client_at c d ≡ Some there → MovedStands d → pointer_asked (asked c d) c d ≡ d.pointer
    → becomes c r q d ≡ put_back c d (becomes c r q (unpointed d))
becomes-put c r there q d is moved plain =
    let x : Desktop = becomes c r q (unpointed d) in
    let status : status_in c x ≡ q.status = after-status q.status c (become_by q.status c r q (unpointed d)) ∙ status-become c r q (unpointed d) there is in
    becomes-back q.status c r q d
    ∙ sym (put-is c d q.status d.pointer x status plain ∙ ap (λ (p : Pointer). pointed p x) (becomes-keeps q.status c r q d moved))

-- ---- a message

module _ (c : ℕ) (d : Desktop) (path : List Desktop) (e : Desktop) (moved : MovedStands d) (asks : AsksNoFocus c d) (there : Resident) (is : client_at c d ≡ Some there) where
  abbrev On : (List Desktop → Desktop → Type 0) → Type 0
  On Step = SettlesOn (put_back c d) Step path e

  became : (Q : Peer → Type 0) (r : Resident) → pointer_asked (asked c d) c d ≡ d.pointer → BecomesThen Q c r (unpointed d) (settling_through path e)
      → On (λ path new. BecomesThen Q c r d (settling_through path new))
  became Q r plain h =
      let q : Peer = h.0 in
      let back : becomes c r q d ≡ put_back c d (becomes c r q (unpointed d)) = becomes-put c r there q d is moved plain in
      let on = settles-on (put_back c d) (unstruck (becomes c r q (unpointed d))) (unstruck (becomes c r q d)) (becomes-still q.status c r q d) back refl back path e h.2 in
      (on.0, on.1, λ later new k. (q, h.1, on.2 later new k))

  -- it ends where an event of its wasn't queued
  ended-back : (cause : Cause) (r : Resident) (p : Pointer) (x y : Desktop) → client_at c x ≡ Some r → pointer_asked (asked c d) c d ≡ p → y ≡ pointed (keeping x.standing p) x
      → ended_by (record { client = c; cause = cause }) y ≡ put_back c d (ended_by (record { client = c; cause = cause }) x)
  ended-back cause r p x y here from back =
      let s : Strike = record { client = c; cause = cause } in
      let status : status_in c (ended_by s x) ≡ Some cause =
      ap (λ (o : Option Resident). status_in c (ended_at c cause o x)) here ∙ ap status_of (number-same x.clients c (Some (resident_of (ended cause r.peer))) r here) in
      let standing : (ended_by s x).standing ≡ without_client c x.standing = ap (λ (o : Option Resident). (ended_at c cause o x).standing) here in
      ap (ended_by s) back ∙ ended-put c cause (keeping x.standing p) x r here
      ∙ sym (put-is c d (Some cause) p (ended_by s x) status from
      ∙ ap (λ (p : Pointer). pointed p (ended_by s x)) (ap (λ ss. keeping ss (pointer_without c p)) standing ∙ keeping-without c p x.standing))

  why-still : (why : Option Cause) (r : Resident) (x : Desktop) → client_at c x ≡ Some r → x.pointer ≡ first_pointer → (ended_all (struck_by c why []) x).pointer ≡ first_pointer
  why-still None r x here still = still
  why-still (Some cause) r x here still = ap (λ (o : Option Resident). (ended_at c cause o x).pointer) here ∙ ap (pointer_without c) still

  why-ends : (why : Option Cause) (r : Resident) (p : Pointer) (x y : Desktop) → client_at c x ≡ Some r → pointer_asked (asked c d) c d ≡ p → y ≡ pointed (keeping x.standing p) x
      → ends_through (struck_by c why []) y ≡ map (put_back c d) (ends_through (struck_by c why []) x)
  why-ends None r p x y here from back = refl
  why-ends (Some cause) r p x y here from back = ap (λ (z : Desktop). z ∷ []) (ended-back cause r p x y here from back)

  why-last : (why : Option Cause) (r : Resident) (p : Pointer) (x y : Desktop) → client_at c x ≡ Some r → pointer_asked (asked c d) c d ≡ p → y ≡ pointed (keeping x.standing p) x
      → y ≡ put_back c d x → ended_all (struck_by c why []) y ≡ put_back c d (ended_all (struck_by c why []) x)
  why-last None r p x y here from back put = put
  why-last (Some cause) r p x y here from back put = ended-back cause r p x y here from back

  did : (demand : Demand) (r : Resident) → asked c d ≡ Some demand → r.peer.status ≡ None → DoesThen c demand r (unpointed d) (settling_through path e)
      → On (λ path new. DoesThen c demand r d (settling_through path new))
  did demand r asked-is alive h =
      let away : LooksAway c demand d = λ id version same. asks id version (asked-is ∙ ap (λ (x : Demand). Some x) same) in
      let q : Peer = h.0 in
      let why : Option Cause = h.1 in
      let made : Resident = changed_for c demand r (unpointed d) in
      let same : made ≡ changed_for c demand r d = changed-same c demand r d away in
      let told : QueuesTo (replies c demand r (changed_for c demand r d) (all_windows d) d) (changed_for c demand r d).peer q why =
      subst (λ (events : List Said). QueuesTo events (changed_for c demand r d).peer q why) (replies-same c demand r (changed_for c demand r d) (all_windows d) d away)
      (subst (λ (m : Resident). QueuesTo (replies c demand r m (all_windows d) (unpointed d)) m.peer q why) same h.2) in
      let x : Desktop = (changed_so c demand r (unpointed d) q why).desktop in
      let y : Desktop = (changed_so c demand r d q why).desktop in
      let p : Pointer = done_back c demand r d in
      let here : client_at c x ≡ Some (with_peer q made) =
      number-same (done_for c demand r (unpointed d)).clients c (Some (with_peer q made)) there
      (ap (λ (clients : List (Option Resident)). client_in clients c) (done-clients_stay c demand r (unpointed d)) ∙ is) in
      let lives : q.status ≡ None = queues-status (replies c demand r made (all_windows d) (unpointed d)) made.peer q why h.2 ∙ ((changed-steady c demand (unpointed d) r).0 ∙ alive) in
      let from : pointer_asked (asked c d) c d ≡ pointer_for demand c d = ap (λ (o : Option Demand). pointer_asked o c d) asked-is in
      let pointed-so : y ≡ pointed p x =
      ap₂ (λ (m : Resident) (on : Desktop). with_client c (Some (with_peer q m)) on) (sym same) (done-back c demand r d) in
      let back : y ≡ put_back c d x = pointed-so ∙ sym (put-is c d None (pointer_for demand c d) x (ap status_of here ∙ lives) from) in
      let on = settles-on (put_back c d) (changed_so c demand r (unpointed d) q why) (changed_so c demand r d q why)
      (why-still why (with_peer q made) x here (done-still c demand r d)) back (why-ends why (with_peer q made) (pointer_for demand c d) x y here from pointed-so)
      (why-last why (with_peer q made) (pointer_for demand c d) x y here from pointed-so back) path e h.3 in
      (on.0, on.1, λ later new k. (q, why, told, on.2 later new k))

  wanted : (b : Bool) (demand : Demand) (r : Resident) → wants_memory demand ≡ b → asked c d ≡ Some demand → r.peer.status ≡ None
      → WantsOrThen b (DoesThen c demand r (unpointed d) (settling_through path e)) c r (unpointed d) (settling_through path e)
      → On (λ path new. WantsOrThen b (DoesThen c demand r d (settling_through path new)) c r d (settling_through path new))
  wanted false demand r wants asked-is alive h = did demand r asked-is alive h
  wanted true demand r wants asked-is alive (inl h) =
      let on = became (LacksMemory r.peer) r (ap (λ (o : Option Demand). pointer_asked o c d) asked-is ∙ plain-for demand c d wants) h in
      (on.0, on.1, λ later new k. inl (on.2 later new k))
  wanted true demand r wants asked-is alive (inr h) = let on = did demand r asked-is alive h in (on.0, on.1, λ later new k. inr (on.2 later new k))

  answered : (judged : Result Demand Refusal) (r : Resident) → asked c d ≡ asked_of judged → r.peer.status ≡ None
      → AnswersThen judged c r (unpointed d) (settling_through path e) → On (λ path new. AnswersThen judged c r d (settling_through path new))
  answered (Ok demand) r asked-is alive h = wanted (wants_memory demand) demand (with_peer (counted r.peer) r) refl asked-is alive h
  answered (Err refusal) r asked-is alive h = became (Errs refusal r.peer) r (ap (λ (o : Option Demand). pointer_asked o c d) asked-is) h

  took : (split : Split) (r : Resident) → asked c d ≡ asked_first split r → r.peer.status ≡ None
      → TakesThen split c r (unpointed d) (settling_through path e) → On (λ path new. TakesThen split c r d (settling_through path new))
  took (Whole object opcode size) r asked-is alive h =
      answered (judge_all r object opcode (take (size - 8) (drop 8 r.peer.rest))) (with_peer (with_rest (drop size r.peer.rest) r.peer) r) asked-is alive h
  took Bad r asked-is alive h = became (Errs (display_error InvalidMethod) r.peer) r (ap (λ (o : Option Demand). pointer_asked o c d) asked-is) h
  took More r asked-is alive h = absurd h

pub pointer-apart-through : PointerApartThrough
pointer-apart-through c d path e moved asks h = at (client_at c d) refl h
  where
    at : (o : Option Resident) → client_at c d ≡ o → ServesThen c o (unpointed d) (settling_through path e)
        → SettlesOn (put_back c d) (λ path new. ServesThen c o d (settling_through path new)) path e
    at None is h = absurd h
    at (Some r) is h =
        let on = took c d path e moved asks r is (split_of r.peer.rest) r (ap asked_by is) h.0 h.1 in
        (on.0, on.1, λ later new k. (h.0, on.2 later new k))

pub pointer-apart : PointerApart
pointer-apart c d e new moved asks h settles =
    let way = (messages_lead_through c (unpointed d) e).1 h in
    let on = pointer-apart-through c d way.0 e moved asks way.1 in
    let rest = settling-with new (unstruck (put_back c d e)) settles in
    (messages_lead_through c d new).0 (map (put_back c d) on.0 ++ put_back c d e ∷ rest.1.0) (on.2 rest.1.0 new rest.1.2)

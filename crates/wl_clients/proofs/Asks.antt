-- What the first message of a client asks of the pointer, on the desktop that it stands for.
use Rattle.std.proofs.Common.{◌≡◌, ℕ, ◌-◌, List, true, Option, Some, None, Result, set, take, drop, ap, subst, sym, ◌∙◌}
use Rattle.std.specs.Prelude.{Ok, Err, is_some}
use Rattle.wl_wire.specs.Wire.{split_of}
use Rattle.wl_wire.specs.declared.header.Split.{Split}
use Rattle.wl_wire.specs.declared.header.Split.TheVariants.{Message as Whole, More, Bad}
use Rattle.wl_client.specs.declared.outputs.Output.{Output}
use Rattle.spec_desktop.specs.Objects.{ById}
use Rattle.spec_desktop.specs.declared.cause.Cause.{Cause}
use Rattle.spec_desktop.specs.declared.refusals.Refusal.{Refusal}
use Rattle.spec_desktop.specs.Demand.{Demand}
use Rattle.spec_desktop.specs.Demanding.{judge_all}
use Rattle.spec_desktop.specs.Desktop.{Desktop, Resident, status_in, status_of}
use Rattle.law_desktop.specs.Pointed.Pointed.{asked, asked_by, asked_first, asked_of}
use Rattle.wl_requests.specs.declared.pointer_asked.PointerAsked.{PointerAsked}
use Rattle.wl_requests.specs.declared.residents.Resident.{Resident as Kept}
use Rattle.wl_requests.specs.PointerAsks.{AsksPointerFirst, AsksPointerSo, MessageAsksPointer}
use Rattle.wl_clients.specs.Agreement.{Matches, numbers_in, numbers_of}
use Rattle.wl_clients.specs.View.{Pile}
use Rattle.wl_clients.specs.Pointing.{AsksOfPointer}
use Rattle.wl_clients.specs.Residents.{client_views}
use Rattle.wl_clients.proofs.Calls.{out}
use Rattle.wl_clients.proofs.Seats.{IsHere, client-here, put-here, view_of}

-- a client that ended has on the desktop
pub over-there : {A : Type 0} (output : Output) (rs : List (Option (Kept A))) (pile now : Pile) (c k : ℕ) (v : Kept A) → IsHere rs c k v → (new : Kept A) (e : Desktop)
    → is_some new.client.ended ≡ true → Matches (view_of output (set rs k (Some new)) now) e → is_some (status_in c e) ≡ true
over-there output rs pile now c k v is new e over b =
    let s = out output (set rs k (Some new)) now c k new (put-here rs c k v new is) e b in
    ap (λ (o : Option Resident). is_some (status_of o)) s.1 ∙ ap (λ (o : Option Cause). is_some o) (sym s.2.seat.peer.status) ∙ over

-- by what the message asks of the desktop
judged-asks : (numbers : ById ℕ) (j : Result Demand Refusal) (p : PointerAsked) → AsksPointerSo numbers j p → AsksOfPointer numbers (asked_of j) p
judged-asks numbers (Ok demand) p h = h
judged-asks numbers (Err refusal) p h = tt

first-asks : (numbers : ById ℕ) (s : Split) (r : Resident) (p : PointerAsked) → AsksPointerFirst numbers s r p → AsksOfPointer numbers (asked_first s r) p
first-asks numbers (Whole object opcode size) r p h = judged-asks numbers (judge_all r object opcode (take (size - 8) (drop 8 r.peer.rest))) p h
first-asks numbers Bad r p h = tt
first-asks numbers More r p h = tt

module _ {A : Type 0} (output : Output) (rs : List (Option (Kept A))) (pile : Pile) (c k : ℕ) (v : Kept A) (is : IsHere rs c k v) (d : Desktop)
    (a : Matches (view_of output rs pile) d) where
  -- the numbers of its surfaces
  pub numbers-here : numbers_in (client_views rs) c ≡ numbers_of (Some v.client)
  numbers-here = ap (numbers_in (client_views rs)) is.number ∙ ap numbers_of (client-here rs k v is.here)

  pub message-asks : v.client.ended ≡ None → (p : PointerAsked) → MessageAsksPointer v p → AsksOfPointer (numbers_in (client_views rs) c) (asked c d) p
  message-asks lives p asks =
      let s = out output rs pile c k v is d a in
      let seat = s.2.seat in
      subst (λ (numbers : ById ℕ). AsksOfPointer numbers (asked c d) p) (sym numbers-here)
      (subst (λ (o : Option Resident). AsksOfPointer (numbers_of (Some v.client)) (asked_by o) p) (sym s.1)
      (first-asks (numbers_of (Some v.client)) (split_of s.0.peer.rest) s.0 p
      (asks s.0 (record { lives = lives; peer = seat.peer; owns = seat.owns; frames = seat.frames; subsurfaces = seat.subsurfaces }))))

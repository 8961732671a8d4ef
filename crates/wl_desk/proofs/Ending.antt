-- The middle of a step where clients ended: the pointer leaves them, and the focus is settled.
use Rattle.std.proofs.Common.{◌≡◌, ℕ, List, false, ap, subst, sym, ◌∙◌}
use Rattle.std.proofs.lemmas.Bool.{true≢false}
use Rattle.spec_desktop.specs.Pointer.{Pointer}
use Rattle.spec_desktop.specs.Desktop.{Desktop, unpointed}
use Rattle.spec_desktop.specs.Happenings.{Happening}
use Rattle.spec_desktop.specs.Settling.{Midstep, pointer_without, unstruck}
use Rattle.wl_scene.specs.Marking.{IsAsLarge}
use Rattle.law_desktop.specs.Pointed.Happenings.{IsEndOf}
use Rattle.law_desktop.specs.Pointed.Pointed.{pointed}
use Rattle.law_desktop.proofs.PointerAside.Happenings.{ends-apart}
use Rattle.wl_clients.specs.Agreeing.{Agrees as KeptAgrees}
use Rattle.wl_clients.specs.Leading.{Led, raised_by}
use Rattle.wl_clients.specs.declared.grabs.Latest.{Latest}
use Rattle.wl_clients.proofs.Midway.{mid_begins_and_ends}
use Rattle.wl_desk.specs.Agreeing.{Agrees, AreLatest, AreSeats, IsPlaced}
use Rattle.wl_desk.specs.Midway.{IsAmid, IsMidway, SettlesDown}
use Rattle.wl_desk.specs.View.{DeskView, MarkedDesk}
use Rattle.wl_desk.proofs.LatestStay.{end-keeps, latest-stay}
use Rattle.wl_desk.proofs.Leading.{kept-aside, leads-on}
use Rattle.wl_desk.proofs.Placed.{end-placed}
use Rattle.wl_desk.proofs.Unraised.{end-unraised, marks-unraised}
use Rattle.wl_desk.proofs.SeatsStay.{end-keeps-seats, seats-stay}

-- ---- the middle of a step begins

-- What is kept of the clients agrees where nobody points, and the pointer is put back.
pub begins : (v : DeskView) (p : Pointer) (e : Desktop) → KeptAgrees v.kept e → v.pointer ≡ p → IsPlaced (pointed p e) → AreSeats v.seats e → AreLatest v.latest (unstruck e)
    → IsMidway v (unstruck (pointed p e))
begins v p e kept same placed seats latest = record {
  telling = record {
    kept = (mid_begins_and_ends v.kept (unpointed (pointed p e))).0 (kept-aside v.kept p e kept);
    place = ap (λ (q : Pointer). q.place) same;
    seats = seats;
    latest = latest;
  };
  pointer = same;
  placed = placed;
}

-- ---- one client ends

-- Memory ran out for a client, or it went; the pointer leaves it, and its focus is settled.
pub ends-lead : (c : ℕ) (h : Happening) (d : Desktop) (old mid new : MarkedDesk) → IsEndOf c h → Agrees old.desk d
    → (led : Led (KeptAgrees mid.desk.kept) h old.damage mid.damage (unpointed d)) → IsAsLarge old.damage mid.damage
    → mid.desk.seats ≡ old.desk.seats → mid.desk.latest ≡ old.desk.latest → mid.desk.pointer ≡ pointer_without c old.desk.pointer
    → mid.settled ≡ false → ((m : Midstep) → IsAmid mid m → SettlesDown mid new m) → Led (Agrees new.desk) h old.damage new.damage d
ends-lead c h d old mid new end a led large seats latest pointer unknown settles =
    let p : Pointer = pointer_without c d.pointer in
    let start : Midstep = unstruck (pointed p led.desktop) in
    let midway : IsMidway mid.desk start =
    begins mid.desk p led.desktop led.agrees (pointer ∙ ap (pointer_without c) a.pointer) (end-placed c h d led.path led.desktop end led.leads a.placed)
    (subst (λ (s : List (List ℕ)). AreSeats s led.desktop) (sym seats) (seats-stay old.desk.seats h d led.path led.desktop (end-keeps-seats c h end) a.seats led.leads))
    (subst (λ (l : List Latest). AreLatest l (unstruck led.desktop)) (sym latest) (latest-stay old.desk.latest h d led.path led.desktop (end-keeps c h end) a.latest led.leads)) in
    leads-on h (λ e. p) d led.path led.desktop old.damage mid new (ends-apart c h d led.path led.desktop end led.leads) large
    (marks-unraised (raised_by h (unpointed d)) (unpointed d) led.path old.damage mid.damage (end-unraised c h (unpointed d) end) led.marks) midway (settles start (record { midway = midway; known = λ yes. absurd (true≢false (sym yes ∙ unknown)) })) (end-unraised c h d end)

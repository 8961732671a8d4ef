-- What a call marks from the first desktop to the last is marked along the desktops between.
use Rattle.std.proofs.Common.{◌≡◌, ℕ, Bool, true, false, List, Option, Some, None, refl, ap, subst, sym, ◌∙◌}
use Rattle.std.specs.Prelude.{◌<◌, ◌||◌, pos}
use Rattle.std.proofs.lemmas.Bool.{or_left, or_right}
use Rattle.spec_desktop.specs.declared.cause.Cause.{Cause}
use Rattle.spec_desktop.specs.declared.cause.Cause.TheVariants as cause
use Rattle.spec_desktop.specs.Peer.{ended}
use Rattle.wl_paint.specs.Damage.{Damaged, has}
use Rattle.spec_desktop.specs.Act.{Act, Tick, fed_of, peer_at, peer_of, status_of}
use Rattle.spec_desktop.specs.declared.answers.Done.{Done}
use Rattle.spec_desktop.specs.declared.answers.Done.TheVariants as gave
use Rattle.spec_desktop.specs.declared.answers.Fed.TheVariants as fed
use Rattle.spec_desktop.specs.Desktop.{Desktop, Resident, client_at}
use Rattle.spec_desktop.specs.Happenings.{Happening, Leads, Message, Single, Starve, StarvesAt}
use Rattle.spec_desktop.specs.Happens.{Happens}
use Rattle.spec_desktop.specs.Moments.{marks_at_most, marks_at_most_through}
use Rattle.spec_desktop.specs.Settling.{becomes, unstruck}
use Rattle.spec_desktop.specs.Stacked.{all_windows}
use Rattle.spec_desktop.specs.Through.{ServesThrough, raised_in}
use Rattle.law_desktop.specs.Through.{IsSingle}
use Rattle.law_desktop.proofs.Runs.Through.{happens_leads_through, settling-with}
use Rattle.wl_clients.specs.Marking.{MarksAtLeast, MarksMost, MarksThrough, MarksThroughBy}
use Rattle.wl_clients.specs.View.{DeskView}
use Rattle.wl_clients.specs.Agreeing.{Agrees, TakesStep}
use Rattle.wl_clients.specs.Feeding.{Ends, EndsBy, EndsOf}
use Rattle.wl_clients.specs.Framing.{MarksIfEnds}
use Rattle.wl_clients.specs.Leading.{Led}
use Rattle.wl_clients.proofs.Agreed.{agrees-apart}
use Rattle.wl_clients.proofs.EachEnd.{is_losing_act, ordered-bare, unmarked-each, unmarked-starving}
use Rattle.wl_clients.proofs.Most.{most-through}

-- ---- no more is marked than may be

-- from the first desktop of a step to the last
abbrev pub MarksNoMore : Act → Done → DeskView → DeskView → Damaged → Damaged → Type 0
MarksNoMore act done old new before after =
    (d e : Desktop) → Agrees old d → Happens act done d e → Agrees new e → MarksMost d e before after

-- that is so where nothing is
pub nothing-more : (act : Act) (done : Done) (old new : DeskView) (before after : Damaged)
    → ((d : Desktop) → Agrees old d → (x y : ℕ) → x < before.width → y < before.height → has after x y ≡ has before x y) → MarksNoMore act done old new before after
nothing-more act done old new before after nothing = λ d e a step b x y wide high again.
    ap (λ t. t || marks_at_most d e None (pos x) (pos y)) (sym (nothing d a x y wide high) ∙ again)

-- what is no more from the first desktop to the last is no more along those between
most-along : (h : Happening) (v : DeskView) (raised : Option (ℕ × ℕ)) (d e : Desktop) (path : List Desktop) (before after : Damaged) → Agrees v d → Leads h d path e
    → MarksMost d e before after → (x y : ℕ) → x < before.width → y < before.height → has after x y ≡ true
    → (has before x y || marks_at_most_through all_windows raised d path (pos x) (pos y)) ≡ true
most-along h v raised d e path before after a leads most x y wide high again = at (has before x y) refl (most x y wide high again)
  where
    at : (t : Bool) → has before x y ≡ t → (t || marks_at_most d e None (pos x) (pos y)) ≡ true
        → (has before x y || marks_at_most_through all_windows raised d path (pos x) (pos y)) ≡ true
    at true was either = or_left (has before x y) _ was
    at false was either = or_right (has before x y) _ (most-through (pos x) (pos y) h d path e raised (agrees-apart v d a) leads either)

-- ---- a step

-- it marks along the desktops between what it has to, and no more than it may
act-marks : (act : Act) (done : Done) (v : DeskView) (d e : Desktop) (path : List Desktop) (before after : Damaged) → is_losing_act act ≡ true → Agrees v d
    → Leads (Single act done) d path e → MarksAtLeast d e before after → MarksMost d e before after → MarksThroughBy (raised_in act d) d path before after
act-marks act done v d e path before after losing a leads marks most = λ x y wide high. (
  λ clean.
      let unmarked = marks x y wide high clean in
      (unmarked.0, unmarked-each act done d path e (pos x) (pos y) losing (ordered-bare d a.ordered) (agrees-apart v d a) leads unmarked.1),
  most-along (Single act done) v (raised_in act d) d e path before after a leads most x y wide high,
)

pub steps-led : (act : Act) → is_losing_act act ≡ true → IsSingle act → (done : Done) (old new : DeskView) (before after : Damaged) → TakesStep act done old new
    → ((d e : Desktop) → Agrees old d → Happens act done d e → MarksAtLeast d e before after) → MarksNoMore act done old new before after
    → (d : Desktop) → Agrees old d → Led (Agrees new) (Single act done) before after d
steps-led act losing single done old new before after step marks most d a =
    let e = step d a in
    let through = (happens_leads_through act done d e.0).1 single e.1 in
    record {
      path = through.0;
      desktop = e.0;
      leads = through.1;
      agrees = e.2;
      marks = act-marks act done old d e.0 through.0 before after losing a through.1 (marks d e.0 a e.1) (most d e.0 a e.1 e.2);
    }

-- where the same points are to be painted again
pub still-led : (act : Act) → is_losing_act act ≡ true → IsSingle act → (done : Done) (old new : DeskView) (before after : Damaged) → after ≡ before → TakesStep act done old new
    → ((d e : Desktop) → Agrees old d → Happens act done d e → MarksAtLeast d e before after) → (d : Desktop) → Agrees old d → Led (Agrees new) (Single act done) before after d
still-led act losing single done old new before after same step marks =
    steps-led act losing single done old new before after step marks
    (nothing-more act done old new before after (λ d a x y wide high. ap (λ (m : Damaged). has m x y) same))

-- a frame
pub frames-led : (time : ℕ) (old new : DeskView) (before after : Damaged)
    → ((d : Desktop) → Agrees old d → (e : Desktop) × Happens (Tick time) gave.Tick d e × Agrees new e × MarksAtLeast d e before after × MarksMost d e before after
    × MarksIfEnds d e before after)
    → (d : Desktop) → Agrees old d → (led : Led (Agrees new) (Single (Tick time) gave.Tick) before after d) × MarksIfEnds d led.desktop before after
frames-led time old new before after shows d a =
    let e = shows d a in
    let through = (happens_leads_through (Tick time) gave.Tick d e.0).1 (λ c piece same. absurd (cc)) e.1 in (
      record {
        path = through.0;
        desktop = e.0;
        leads = through.1;
        agrees = e.2;
        marks = act-marks (Tick time) gave.Tick old d e.0 through.0 before after refl a through.1 e.3 e.4;
      },
      e.5,
    )

-- ---- a message

pub message-led : (c : ℕ) (new : DeskView) (before after : Damaged) (d : Desktop)
    → (e : Desktop) × (path : List Desktop) × ServesThrough c d path e × Agrees new e × MarksThrough d path before after
    → Led (Agrees new) (Message c) before after d
message-led c new before after d n = record { path = n.1; desktop = n.0; leads = n.2; agrees = n.3; marks = n.4 }

-- ---- memory runs out

starve-marks : (c : ℕ) (v : DeskView) (d e : Desktop) (path : List Desktop) (before after : Damaged) → Agrees v d → Leads (Starve c) d path e → MarksAtLeast d e before after
    → MarksMost d e before after → MarksThrough d path before after
starve-marks c v d e path before after a leads marks most = λ x y wide high. (
  λ clean.
      let unmarked = marks x y wide high clean in
      (unmarked.0, unmarked-starving c (client_at c d) d path e (pos x) (pos y) (agrees-apart v d a) leads unmarked.1),
  most-along (Starve c) v None d e path before after a leads most x y wide high,
)

-- a client that lives ends by that
pub starves-led : (c : ℕ) (old new : DeskView) (before after : Damaged) (d e : Desktop) → Agrees old d → status_of (peer_at c d) ≡ fed.Alive → Ends c cause.Memory d e → Agrees new e
    → MarksAtLeast d e before after → MarksMost d e before after → Led (Agrees new) (Starve c) before after d
starves-led c old new before after d e a alive ends b marks most = at (client_at c d) refl
  where
    by : (t : Option Cause) (r : Resident) → client_at c d ≡ Some r → r.peer.status ≡ t → Led (Agrees new) (Starve c) before after d
    by (Some cause) r there over =
        let clash : fed.Ended cause ≡ fed.Alive = sym (ap (λ o. status_of (peer_of o)) there ∙ ap (λ t. fed_of t) over) ∙ alive in
        absurd (cc)
    by None r there lives =
        let over : EndsBy c cause.Memory None r d e = subst (λ t. EndsBy c cause.Memory t r d e) lives (subst (λ o. EndsOf c cause.Memory o d e) there ends) in
        let through = settling-with e (unstruck (becomes c r (ended cause.Memory r.peer) d)) over in
        let starves : Leads (Starve c) d through.0 e = subst (λ o. StarvesAt c o d through.0 e) (sym there) (lives, through.1) in
        record {
          path = through.0;
          desktop = e;
          leads = starves;
          agrees = b;
          marks = starve-marks c old d e through.0 before after a starves marks most;
        }

    at : (o : Option Resident) → client_at c d ≡ o → Led (Agrees new) (Starve c) before after d
    at None none =
        let clash : fed.NoClient ≡ fed.Alive = sym (ap (λ o. status_of (peer_of o)) none) ∙ alive in
        absurd (cc)
    at (Some r) there = by r.peer.status r there refl

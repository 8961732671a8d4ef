-- What a step leads to with the pointer put aside, and then with the pointer put back, round by round.
use Rattle.std.proofs.Common.{◌≡◌, ℕ, ◌<◌, List, [], Bool, true, false, None, refl, ap, ap₂, subst, sym, ◌∙◌}
use Rattle.std.specs.Prelude.{◌||◌, pos}
use Rattle.wl_paint.specs.Damage.{Damaged, has}
use Rattle.wl_scene.specs.Marking.{IsAsLarge}
use Rattle.spec_desktop.specs.Pointer.{Pointer}
use Rattle.spec_desktop.specs.Desktop.{Desktop, unpointed}
use Rattle.spec_desktop.specs.Happenings.{Happening, Leads}
use Rattle.spec_desktop.specs.Marks.{AreDistinct}
use Rattle.spec_desktop.specs.Moments.{marks_at_least_through, marks_at_most_through}
use Rattle.spec_desktop.specs.Settling.{Midstep, Strike, unstruck}
use Rattle.spec_desktop.specs.Stacked.{all_windows}
use Rattle.law_desktop.specs.Focus.{IsSettled}
use Rattle.law_desktop.specs.Pointed.Apart.{SettlesOn}
use Rattle.law_desktop.specs.Pointed.Pointed.{pointed}
use Rattle.law_desktop.proofs.PointerAside.Whole.{steps-by-rounds}
use Rattle.law_desktop.proofs.Truth.{differ}
use Rattle.wl_clients.specs.Agreeing.{Agrees as KeptAgrees}
use Rattle.wl_clients.specs.Leading.{Led, raised_by}
use Rattle.wl_clients.specs.Marking.{MarksThrough}
use Rattle.wl_clients.specs.Midway.{IsMid, opened_desk}
use Rattle.wl_clients.specs.View.{DeskView as ClientsView}
use Rattle.wl_clients.proofs.Agreed.{agrees-apart}
use Rattle.wl_clients.proofs.Midway.{mid_begins_and_ends}
use Rattle.wl_desk.specs.Agreeing.{Agrees, AreLatest}
use Rattle.wl_desk.specs.Midway.{IsMidway, SettlesDown}
use Rattle.wl_desk.specs.View.{DeskView, MarkedDesk}
use Rattle.wl_desk.proofs.Unraised.{marks-raised}

-- ---- the middle of a step, where nobody is to end

-- what is kept of the clients agrees
pub mid-kept : (v : ClientsView) (m : Midstep) → m.struck ≡ [] → IsMid v (record { desktop = unpointed m.desktop; struck = m.struck }) → KeptAgrees v (unpointed m.desktop)
mid-kept v m over mid =
    (mid_begins_and_ends v (unpointed m.desktop)).1 (subst (λ (ss : List Strike). IsMid v (record { desktop = unpointed m.desktop; struck = ss })) over mid)

-- Where the focus is settled, that is the end.
pub midway-agrees : (v : DeskView) (m : Midstep) → IsMidway v m → m.struck ≡ [] → IsSettled m.desktop → Agrees v m.desktop
midway-agrees v m midway over settled = record {
  kept = mid-kept v.kept m over midway.telling.kept;
  pointer = midway.pointer;
  placed = midway.placed;
  seats = midway.telling.seats;
  latest = subst (λ (ss : List Strike). AreLatest v.latest (record { desktop = m.desktop; struck = ss })) over midway.telling.latest;
  settled = settled;
}

-- no surface has two windows
pub midway-apart : (v : DeskView) (m : Midstep) → IsMidway v m → AreDistinct (all_windows m.desktop)
midway-apart v m midway = agrees-apart (opened_desk v.kept) (unpointed m.desktop) midway.telling.kept.agrees

-- what agrees with a desktop where nobody points does so too with the pointer of that put aside
pub kept-aside : (v : ClientsView) (p : Pointer) (e : Desktop) → KeptAgrees v e → KeptAgrees v (unpointed (pointed p e))
kept-aside v p e a = subst (λ (q : Pointer). KeptAgrees v (pointed q e)) a.ordered.in_order.pointer a

-- ---- what is marked

none-or : (a b : Bool) → a ≡ false → b ≡ false → (a || b) ≡ false
none-or a b none none' = ap₂ (λ (x y : Bool). x || y) none none'

any-or : (was mid aside later : Bool) → (mid || later) ≡ true → (mid ≡ true → (was || aside) ≡ true) → (was || (aside || later)) ≡ true
any-or true mid aside later h first = refl
any-or false mid true later h first = refl
any-or false false false later h first = h
any-or false true false later h first = absurd (differ (first refl))

-- What is marked with the pointer put aside, and then in the rounds, is what the whole step marks.
pub marks-both : (d : Desktop) (aside : List Desktop) (start : Desktop) (rounds path : List Desktop) (old mid new : Damaged) → IsAsLarge old mid
    → MarksThrough (unpointed d) aside old mid → MarksThrough start rounds mid new
    → ((x y : ℕ) → (marks_at_least_through all_windows d path (pos x) (pos y)
    ≡ (marks_at_least_through all_windows (unpointed d) aside (pos x) (pos y) || marks_at_least_through all_windows start rounds (pos x) (pos y)))
    × (marks_at_most_through all_windows None d path (pos x) (pos y)
    ≡ (marks_at_most_through all_windows None (unpointed d) aside (pos x) (pos y) || marks_at_most_through all_windows None start rounds (pos x) (pos y))))
    → MarksThrough d path old new
marks-both d aside start rounds path old mid new large first second both x y wide high =
    let a = first x y wide high in
    let b = second x y (subst (λ (n : ℕ). x < n) (sym large.width) wide) (subst (λ (n : ℕ). y < n) (sym large.height) high) in (
      λ clean.
          let later = b.0 clean in
          let before = a.0 later.0 in
          (before.0, (both x y).0 ∙ none-or _ _ before.1 later.1),
      λ marked.
          ap (λ (b : Bool). has old x y || b) (both x y).1
          ∙ any-or (has old x y) (has mid x y) (marks_at_most_through all_windows None (unpointed d) aside (pos x) (pos y)) (marks_at_most_through all_windows None start rounds (pos x) (pos y)) (b.1 marked) a.1,
    )

-- ---- the whole step

-- What is led to with the pointer put aside, and then with the pointer put back through these rounds, is led to.
pub leads-on : (h : Happening) (p : Desktop → Pointer) (d : Desktop) (aside : List Desktop) (e : Desktop) (old : Damaged) (mid new : MarkedDesk)
    → SettlesOn (λ a. pointed (p a) a) (Leads h d) aside e → IsAsLarge old mid.damage → MarksThrough (unpointed d) aside old mid.damage
    → IsMidway mid.desk (unstruck (pointed (p e) e)) → SettlesDown mid new (unstruck (pointed (p e) e)) → raised_by h d ≡ None
    → Led (Agrees new.desk) h old new.damage d
leads-on h p d aside e old mid new on large marks midway down none =
    let step = steps-by-rounds h p d aside e down.rounds down.mid down.last on
    (record { count = down.count; few = down.few; each = down.each; settles = down.settles; over = down.over }) in
    record {
      path = step.0;
      desktop = down.last.desktop;
      leads = step.1;
      agrees = midway-agrees new.desk down.last down.midway down.over step.2;
      marks = marks-raised (raised_by h d) d step.0 old new.damage none
          (marks-both d aside (pointed (p e) e) down.rounds step.0 old mid.damage new.damage large marks down.marks
          (λ x y. step.3 None (midway-apart mid.desk (unstruck (pointed (p e) e)) midway) down.distinct (pos x) (pos y)));
    }

-- It is led to the last of them.
pub leads-to : (h : Happening) (p : Desktop → Pointer) (d : Desktop) (aside : List Desktop) (e : Desktop) (old : Damaged) (mid new : MarkedDesk)
    (on : SettlesOn (λ a. pointed (p a) a) (Leads h d) aside e) (large : IsAsLarge old mid.damage) (marks : MarksThrough (unpointed d) aside old mid.damage)
    (midway : IsMidway mid.desk (unstruck (pointed (p e) e))) (down : SettlesDown mid new (unstruck (pointed (p e) e))) (none : raised_by h d ≡ None)
    → (leads-on h p d aside e old mid new on large marks midway down none).desktop ≡ down.last.desktop
unfolding leads-on
leads-to h p d aside e old mid new on large marks midway down none = refl

-- From the middle of a step those end that are to end, and then the focus is settled.
use Rattle.std.proofs.Common.{ℕ, List, [], ◌∷◌, ◌++◌, Bool, None, Some, Option, refl, subst, sym, ◌≡◌}
use Rattle.wl_paint.specs.Damage.{Damaged}
use Rattle.wl_scene.specs.Marking.{IsAsLarge}
use Rattle.spec_desktop.specs.Desktop.{Desktop}
use Rattle.spec_desktop.specs.Happenings.{Happening}
use Rattle.spec_desktop.specs.Settling.{Midstep, Strike, ended_all, ended_by, unstruck}
use Rattle.spec_desktop.specs.Through.{SettlesAllThrough, ending_through, ends_through}
use Rattle.law_desktop.specs.Focus.{IsSettled}
use Rattle.law_desktop.specs.Pointed.Marking.{last_of}
use Rattle.law_desktop.proofs.PointerAside.Rounds.{settles-idly}
use Rattle.law_desktop.proofs.Runs.Settled.{ShowsSame, shows-itself}
use Rattle.wl_clients.specs.Leading.{Led, raised_by}
use Rattle.wl_clients.specs.Marking.{MarksThrough}
use Rattle.wl_clients.specs.Raising.{MarksChange}
use Rattle.wl_desk.specs.Agreeing.{Agrees}
use Rattle.wl_desk.specs.Following.{IsUnsettled}
use Rattle.wl_desk.specs.Midway.{IsMidway, SettlesDown}
use Rattle.wl_desk.specs.View.{MarkedDesk}
use Rattle.wl_desk.specs.Ways.{AreEnded, SettlesFrom}
use Rattle.wl_desk.proofs.Leading.{midway-agrees, midway-apart}
use Rattle.wl_desk.proofs.Onward.{marks-then}
use Rattle.wl_desk.proofs.OwnChange.{all, marked, path}
use Rattle.wl_desk.proofs.Restacking.{change-none}
use Rattle.wl_desk.proofs.Unraised.{marks-raised}

-- where the focus is settled, to settle it first does nothing
pub ends-settled : (m : Midstep) (way : List Desktop) (new : Desktop) → IsSettled m.desktop → SettlesAllThrough 33 m way new → ending_through way new m
ends-settled m way new is h =
    let ends : ending_through way new h.0 = (h.2, h.3, h.4) in
    subst (λ (x : Midstep). ending_through way new x) ((settles-idly m is).1 h.0 h.1) ends

-- ---- the focus is settled, and so on

-- the rounds that follow lead on from there, and mark what they have to
pub down-on : (mid new : MarkedDesk) (m : Midstep) → IsMidway mid.desk m → (down : SettlesDown mid new m)
    → (later : List Desktop) × SettlesAllThrough 33 m later down.last.desktop × Agrees new.desk down.last.desktop × MarksThrough m.desktop later mid.damage new.damage
down-on mid new m midway down =
    let d : Desktop = m.desktop in
    let shows : ShowsSame d d = shows-itself d d refl in
    let change : MarksChange None d d mid.damage mid.damage = change-none None d mid.damage (midway-apart mid.desk m midway) in
    let large : IsAsLarge mid.damage mid.damage = record { width = refl; height = refl } in
    let whole = all None d d m shows mid.damage mid new large change midway down in (
      path None d d m shows mid.damage mid new large change midway down,
      whole.0,
      midway-agrees new.desk down.last down.midway down.over whole.1,
      marked None d d m shows mid.damage mid new large change midway down,
    )

-- ---- those end first that are to end

ends-last : (ss : List Strike) (d : Desktop) → last_of d (ends_through ss d) ≡ ended_all ss d
ends-last [] d = refl
ends-last (s ∷ ss) d = ends-last ss (ended_by s d)

pub settled-on : (h : Happening) (d : Desktop) (old mid ended new : MarkedDesk) (u : IsUnsettled h old mid d) → raised_by h d ≡ None → AreEnded mid ended u.mid → SettlesFrom ended new
    → Led (Agrees new.desk) h old.damage new.damage d
settled-on h d old mid ended new u none over settles =
    let start : Desktop = ended_all u.mid.struck u.mid.desktop in
    let ends : List Desktop = ends_through u.mid.struck u.mid.desktop in
    let down : SettlesDown ended new (unstruck start) = settles (unstruck start) over.amid in
    let on = down-on ended new (unstruck start) over.amid.midway down in
    record {
      path = u.path ++ (ends ++ on.0);
      desktop = down.last.desktop;
      leads = u.leads on.0 down.last.desktop on.1;
      agrees = on.2;
      marks = marks-raised (raised_by h d) d (u.path ++ (ends ++ on.0)) old.damage new.damage none
          (marks-then d u.mid.desktop u.path (ends ++ on.0) old.damage mid.damage new.damage u.sides u.last u.marks
          (marks-then u.mid.desktop start ends on.0 mid.damage ended.damage new.damage over.sides (ends-last u.mid.struck u.mid.desktop) over.marks on.3));
    }

-- whatever the desk knows of the focus
abbrev pub as-marked : (h : Happening) (old mid : MarkedDesk) (settled : Bool) (d : Desktop) → IsUnsettled h old mid d → IsUnsettled h old (record mid { settled = settled }) d
as-marked h old mid settled d u =
    record { path = u.path; mid = u.mid; last = u.last; leads = u.leads; midway = u.midway; marks = u.marks; sides = u.sides }

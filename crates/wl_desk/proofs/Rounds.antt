-- The focus is settled, and clients end, round by round.
use Rattle.std.proofs.Common.{◌≡◌, ℕ, zero, suc, ◌<◌, ◌≤◌, List, [], ◌∷◌, ◌++◌, Bool, true, false, Option, Some, None, refl, ap, subst, sym, ◌∙◌}
use Rattle.std.proofs.Common.{length, arith, inl, inr}
use Rattle.std.specs.Prelude.{◌⊎◌, ◌||◌, filter, pos}
use Rattle.wl_paint.specs.Damage.{Damaged, has}
use Rattle.wl_scene.specs.Marking.{IsAsLarge}
use Rattle.spec_desktop.specs.Told.{Said}
use Rattle.spec_desktop.specs.Pointer.{Pointer, Target, settled}
use Rattle.spec_desktop.specs.PointerActions.{PointerAction, Leave, Enter, Settle, actions}
use Rattle.spec_desktop.specs.Windows.{Window}
use Rattle.spec_desktop.specs.Desktop.{Desktop, Resident, client_at}
use Rattle.spec_desktop.specs.Marks.{AreDistinct}
use Rattle.spec_desktop.specs.Moments.{marks_at_least_of, marks_at_least_through, marks_at_most_of, marks_at_most_through}
use Rattle.spec_desktop.specs.Settling.{Applies, AppliesAll, Midstep, Settles, Strike, Tells, TellsAt, TellsUnless, ended_at, ended_by}
use Rattle.spec_desktop.specs.Stacked.{all_windows}
use Rattle.law_desktop.specs.Focus.{IsSettled}
use Rattle.law_desktop.proofs.Runs.Fates.{number-long}
use Rattle.law_desktop.proofs.Runs.Focus.{settles-keeps}
use Rattle.law_desktop.proofs.Runs.Settled.{HasFocus, has-settled}
use Rattle.law_desktop.specs.Pointed.Rounds.{AreRounds, IsRound}
use Rattle.law_desktop.proofs.PointerAside.Rounds.{rounds-are-few, settles-idly}
use Rattle.law_desktop.proofs.PointerAside.Marking.{rounds-mark-in-turn}
use Rattle.law_desktop.proofs.Lists.Each.{Each}
use Rattle.wl_clients.specs.Marking.{MarksThrough}
use Rattle.wl_clients.proofs.Agreed.{agrees-apart}
use Rattle.wl_clients.specs.Midway.{first_struck, opened_desk}
use Rattle.wl_clients.specs.declared.grabs.Latest.{Latest}
use Rattle.wl_clients.specs.View.{DeskView as KeptView}
use Rattle.wl_desk.specs.Doing.{IsTellable, is_told}
use Rattle.wl_desk.specs.Midway.{IsAmid, IsMidway, IsOfFocus, IsTelling, SettlesDown, unpointed_mid}
use Rattle.wl_desk.specs.View.{DeskView, MarkedDesk}
use Rattle.wl_scene.specs.Focus.{IsSeen}
use Rattle.wl_desk.proofs.Applying.{focus-told}
use Rattle.wl_desk.proofs.Telling.{seen}
use Rattle.wl_desk.proofs.Ended.{first-of, mid-long, midway-to-end, none-first}
use Rattle.wl_desk.proofs.Placed.{settled-placed}
use Rattle.wl_desk.proofs.Points.{settles-each, settles-tellable}
use Rattle.wl_desk.proofs.Rests.{IsLeft, left-all}

-- ---- the focus is settled once

-- what the settling does is of the focus
pub settles-of : (p : Pointer) (ws : List Window) → Each (IsOfFocus ws) (actions Settle p ws)
settles-of p ws = settles-each (IsOfFocus ws) p ws (λ t. (tt, tt)) (λ t stacked. (stacked, tt))

pub settled-midway : (old new : DeskView) (m n : Midstep) → IsMidway old m → Settles m n → IsTelling new n
    → new.pointer ≡ record old.pointer { focus = settled old.pointer (all_windows m.desktop) } → IsMidway new n
settled-midway old new m n midway settles telling pointer =
    let has : HasFocus (settled m.desktop.pointer (all_windows m.desktop)) m n = has-settled m n settles in
    record {
      telling = telling;
      pointer = pointer ∙ ap (λ (p : Pointer). record p { focus = settled p (all_windows m.desktop) }) midway.pointer ∙ sym has.pointer;
      placed = settled-placed m n settles midway.placed;
    }

-- by what the pointer does, and what is promised of that
module _ (kept : KeptView) (seats : List (List ℕ)) (latest : List Latest) (p q : Pointer) (hit : Option Target) (stacked : Bool) (acts : List PointerAction) (new : DeskView)
    (sees : (m : Midstep) → IsMidway (seen kept seats latest p) m → IsSeen hit stacked m.desktop.pointer (all_windows m.desktop))
    (does : (ws : List Window) → IsSeen hit stacked p ws → acts ≡ actions Settle p ws)
    (keeps : (ws : List Window) → IsSeen hit stacked p ws → q ≡ record p { focus = settled p ws })
    (tells : (m : Midstep) → IsTelling (seen kept seats latest q) m → Each (IsTellable m.desktop.pointer.place (all_windows m.desktop)) acts
    → (n : Midstep) × AppliesAll (all_windows m.desktop) (filter is_told acts) m n × IsTelling new n)
    (pointer : new.pointer ≡ q) (m : Midstep) (midway : IsMidway (seen kept seats latest p) m) where
  abbrev shown : List Window
  shown = all_windows m.desktop

  is-seen : IsSeen hit stacked p shown
  is-seen = subst (λ (r : Pointer). IsSeen hit stacked r shown) (sym midway.pointer) (sees m midway)

  acts-so : acts ≡ actions Settle m.desktop.pointer shown
  acts-so = does shown is-seen ∙ ap (λ (r : Pointer). actions Settle r shown) midway.pointer

  telling-on : IsTelling (seen kept seats latest q) m
  telling-on = record { kept = midway.telling.kept; place = ap (λ (r : Pointer). r.place) (keeps shown is-seen) ∙ midway.telling.place; seats = midway.telling.seats; latest = midway.telling.latest }

  turned : (n : Midstep) × AppliesAll shown (filter is_told acts) m n × IsTelling new n
  turned =
      tells m telling-on
      (subst (λ (xs : List PointerAction). Each (IsTellable m.desktop.pointer.place shown) xs) (sym acts-so) (settles-tellable m.desktop.pointer shown midway.placed.nowhere))

  -- all that it does is told
  told-so : filter is_told acts ≡ actions Settle m.desktop.pointer shown
  told-so = ap (filter is_told) acts-so ∙ focus-told shown (actions Settle m.desktop.pointer shown) (settles-of m.desktop.pointer shown)

  pub settled-once : (n : Midstep) × Settles m n × IsMidway new n
  settled-once =
      let settles : Settles m turned.0 = subst (λ (xs : List PointerAction). AppliesAll shown xs m turned.0) told-so turned.1 in (
        turned.0,
        settles,
        settled-midway (seen kept seats latest p) new m turned.0 midway settles turned.2 (pointer ∙ keeps shown is-seen),
      )

-- ---- as many clients

abbrev Long : Midstep → Midstep → Type 0
Long m n = length n.desktop.clients ≡ length m.desktop.clients

tells-long : (change : Resident → Resident) (events : Resident → List Said) (c : ℕ) (m n : Midstep) → Tells change events c m n → Long m n
tells-long change events c m n h = at (client_at c m.desktop) h
  where
    unless : (b : Bool) (r : Resident) → TellsUnless b change events c r m n → Long m n
    unless true r h = ap (λ (x : Midstep). length x.desktop.clients) h
    unless false r h = ap (λ (x : Midstep). length x.desktop.clients) h.3 ∙ number-long m.desktop.clients c (Some (record (change r) { peer = h.0 }))

    at : (o : Option Resident) → TellsAt change events c o m n → Long m n
    at None h = ap (λ (x : Midstep). length x.desktop.clients) h
    at (Some r) h = unless _ r h

settles-long : (m n : Midstep) → Settles m n → Long m n
settles-long m n h = settles-keeps (λ (x : Midstep). Long m x) left entered m n refl h
  where
    left : (ws : List Window) (t : Target) (a b : Midstep) → Long m a → Applies ws (Leave t) a b → Long m b
    left ws t a b known h = ap (λ (x : Midstep). length x.desktop.clients) h.2 ∙ tells-long _ _ t.client a h.0 h.1 ∙ known

    entered : (ws : List Window) (t : Target) (a b : Midstep) → Long m a → Applies ws (Enter t) a b → Long m b
    entered ws t a b known h = ap (λ (x : Midstep). length x.desktop.clients) h.2 ∙ tells-long _ _ t.client a h.0 h.1 ∙ known

ended-long : (s : Strike) (d : Desktop) → length (ended_by s d).clients ≡ length d.clients
ended-long s d = at (client_at s.client d)
  where
    at : (o : Option Resident) → length (ended_at s.client s.cause o d).clients ≡ length d.clients
    at None = refl
    at (Some r) = number-long d.clients s.client _

rounds-long : (k : ℕ) (m n : Midstep) (path : List Desktop) → AreRounds k m path n → Long m n
rounds-long zero m n path rounds = ap (λ (x : Midstep). length x.desktop.clients) rounds.1
rounds-long (suc k) m n path rounds =
    let round = rounds.4 in
    ap (λ (x : Midstep). length x.desktop.clients) round.6 ∙ ended-long round.1 round.0.desktop ∙ settles-long rounds.1 round.0 round.3 ∙ rounds-long k m rounds.1 rounds.0 rounds.3

-- ---- what is marked

or-false : (a b : Bool) → a ≡ false → b ≡ false → (a || b) ≡ false
or-false true b e f = e
or-false false b e f = f

or-left-none : (b : Bool) → (b || false) ≡ false → b ≡ false
or-left-none true e = e
or-left-none false e = refl

-- a point that is to be painted was before, or was marked on the way
or-chain : (a b c d : Bool) → ((c ≡ true) → (a || b) ≡ true) → (c || (d || false)) ≡ true → (a || (b || d)) ≡ true
or-chain true b c d before now = refl
or-chain false b true d before now = or-first b d (before refl)
  where
    or-first : (x y : Bool) → x ≡ true → (x || y) ≡ true
    or-first true y e = refl
    or-first false y e = absurd (cc)
or-chain false true false d before now = refl
or-chain false false false true before now = refl
or-chain false false false false before now = now

pub marks-more : (m mid new : Midstep) (path later : List Desktop) (k : ℕ) (old now then : Damaged) → AreDistinct (all_windows mid.desktop) → AreRounds k m path mid → (round : IsRound mid later new)
    → IsAsLarge old now → MarksThrough m.desktop path old now → MarksThrough round.0.desktop (new.desktop ∷ []) now then → MarksThrough m.desktop (path ++ later) old then
marks-more m mid new path later k old now then apart rounds round large before last = λ x y left above.
    let turn = rounds-mark-in-turn k m mid new path later (pos x) (pos y) apart rounds round in
    let first = before x y left above in
    let second = last x y (omega (arith, large.width, left)) (omega (arith, large.height, above)) in (
      λ none.
          let here = second.0 none in
          let was = first.0 here.0 in (
            was.0,
            turn.0 ∙ or-false (marks_at_least_through all_windows m.desktop path (pos x) (pos y)) (marks_at_least_of all_windows round.0.desktop new.desktop (pos x) (pos y)) was.1
                (or-left-none (marks_at_least_of all_windows round.0.desktop new.desktop (pos x) (pos y)) here.1),
          ),
      λ some.
          ap (λ (b : Bool). has old x y || b) turn.1
          ∙ or-chain (has old x y) (marks_at_most_through all_windows None m.desktop path (pos x) (pos y)) (has now x y)
          (marks_at_most_of all_windows round.0.desktop new.desktop None (pos x) (pos y)) first.1 (second.1 some),
    )

-- no surface has two windows
pub midway-apart : (v : DeskView) (m : Midstep) → IsMidway v m → AreDistinct (all_windows m.desktop)
midway-apart v m midway = agrees-apart (opened_desk v.kept) (unpointed_mid m).desktop midway.telling.kept.agrees

-- ---- so many rounds

-- So many rounds were done.
pub record AreDone (k : ℕ) (old now : MarkedDesk) (m : Midstep) : Type 0 where
  pub rounds : List Desktop
  pub mid : Midstep
  pub each : AreRounds k m rounds mid
  pub amid : IsAmid now mid
  pub marks : MarksThrough m.desktop rounds old.damage now.damage

pub marks-none : (d : Desktop) (old : Damaged) → MarksThrough d [] old old
marks-none d old = λ x y left above. (λ none. (none, refl), λ some. ap (λ (b : Bool). b || false) some)

pub none-done : (old : MarkedDesk) (m : Midstep) → IsAmid old m → AreDone 0 old old m
none-done old m amid = record { rounds = []; mid = m; each = (refl, refl); amid = amid; marks = marks-none m.desktop old.damage }

-- one more
pub more-done : (k n : ℕ) (old now then : MarkedDesk) (m settled : Midstep) (s : Strike) (ss : List Strike) (done : AreDone k old now m) → n ≡ suc k
    → IsAsLarge old.damage now.damage → Settles done.mid settled
    → settled.struck ≡ s ∷ ss → IsAmid then (record { desktop = ended_by s settled.desktop; struck = ss })
    → MarksThrough settled.desktop (ended_by s settled.desktop ∷ []) now.damage then.damage → AreDone n old then m
more-done k n old now then m settled s ss done next large settles struck amid marks =
    let new : Midstep = record { desktop = ended_by s settled.desktop; struck = ss } in
    let later : List Desktop = settled.desktop ∷ ended_by s settled.desktop ∷ [] in
    let round : IsRound done.mid later new = (settled, s, ss, settles, struck, refl, refl) in
    let each : AreRounds (suc k) m (done.rounds ++ later) new = (done.rounds, done.mid, later, done.each, round, refl) in
    record {
      rounds = done.rounds ++ later;
      mid = new;
      each = subst (λ (j : ℕ). AreRounds j m (done.rounds ++ later) new) (sym next) each;
      amid = amid;
      marks = marks-more m done.mid new done.rounds later k old.damage now.damage then.damage (midway-apart now.desk done.mid done.amid.midway) done.each round large done.marks marks;
    }

-- there are few
pub few-done : (k : ℕ) (old now : MarkedDesk) (m : Midstep) → IsMidway old.desk m → length m.desktop.clients ≡ 32 → AreDone k old now m → k ≤ 32
few-done k old now m midway long done =
    let short : length m.desktop.clients ≤ 32 = omega (arith, long) in
    (rounds-are-few k m done.mid done.rounds short (midway-to-end old.desk m midway) done.each).0

-- where a client is to end, 32 are kept
pub long-done : (k : ℕ) (old now : MarkedDesk) (m n : Midstep) (v : DeskView) (done : AreDone k old now m) → Settles done.mid n → IsMidway v n → length v.kept.clients ≡ 32
    → length m.desktop.clients ≡ 32
long-done k old now m n v done settles midway long =
    sym (rounds-long k m done.mid done.rounds done.each) ∙ sym (settles-long done.mid n settles) ∙ sym (mid-long v.kept (unpointed_mid n) midway.telling.kept) ∙ long

-- nobody is to end any more
pub settles-down : (k : ℕ) (old now new : MarkedDesk) (m last : Midstep) (done : AreDone k old now m) → k < 33 → Settles done.mid last → last.struck ≡ [] → IsMidway new.desk last
    → new.damage ≡ now.damage → SettlesDown old new m
settles-down k old now new m last done few settles over midway same =
    record {
      count = k;
      few = few;
      rounds = done.rounds;
      mid = done.mid;
      last = last;
      each = done.each;
      settles = settles;
      over = over;
      midway = midway;
      marks = subst (λ (dmg : Damaged). MarksThrough m.desktop done.rounds old.damage dmg) (sym same) done.marks;
      distinct = midway-apart now.desk done.mid done.amid.midway;
    }

-- where the focus is settled, and nobody is to end, nothing is done
still-down : (old : MarkedDesk) (m : Midstep) → IsMidway old.desk m → m.struck ≡ [] → IsSettled m.desktop → SettlesDown old old m
still-down old m midway none is =
    record {
      count = 0;
      few = omega arith;
      rounds = [];
      mid = m;
      last = m;
      each = (refl, refl);
      settles = (settles-idly m is).0;
      over = none;
      midway = midway;
      marks = marks-none m.desktop old.damage;
      distinct = midway-apart old.desk m midway;
    }

pub ends-not : (old : MarkedDesk) → ((m : Midstep) → IsTelling old.desk m → None ≡ first_struck m.struck) → (m : Midstep) → IsMidway old.desk m → IsSettled m.desktop → SettlesDown old old m
ends-not old none m midway is = still-down old m midway (none-first m.struck (none m midway.telling)) is

-- ---- the loop

-- So many rounds were done, whatever the middle of the step; where there was one, there are 32 clients.
pub record AreSettled (k : ℕ) (old now : MarkedDesk) : Type 0 where
  pub done : (m : Midstep) → IsAmid old m → AreDone k old now m × ((k ≡ 0) ⊎ (length m.desktop.clients ≡ 32))
  pub sides : IsAsLarge old.damage now.damage
  pub rests : IsLeft old.desk.kept now.desk.kept
  pub output : now.desk.kept.output ≡ old.desk.kept.output

pub none-settled : (old : MarkedDesk) → AreSettled 0 old old
none-settled old =
    record { done = λ m amid. (none-done old m amid, inl refl); sides = record { width = refl; height = refl }; rests = left-all old.desk.kept; output = refl }

module _ (k : ℕ) (old now : MarkedDesk) (settled : AreSettled k old now) where
  -- the loop never comes to its end
  pub settled-over : 32 < k → (new : MarkedDesk) (m : Midstep) → IsAmid old m → SettlesDown old new m
  settled-over past new m amid = by (settled.done m amid)
    where
      by : AreDone k old now m × ((k ≡ 0) ⊎ (length m.desktop.clients ≡ 32)) → SettlesDown old new m
      by (done, inl none) = absurd (omega (arith, none, past))
      by (done, inr long) = let few = few-done k old now m amid.midway long done in absurd (omega (arith, few, past))

  module _ (once : MarkedDesk) (settles : (m : Midstep) → IsAmid now m → (n : Midstep) × Settles m n × IsMidway once.desk n)
      (damage : once.damage ≡ now.damage) where
    -- nobody is to end
    pub settled-last : k < 33 → ((m : Midstep) → IsTelling once.desk m → None ≡ first_struck m.struck) → (m : Midstep) → IsAmid old m → SettlesDown old once m
    settled-last few none m amid =
        let done = (settled.done m amid).0 in
        let turn = settles done.mid done.amid in
        settles-down k old now once m turn.0 done few turn.1 (none-first turn.0.struck (none turn.0 turn.2.telling)) turn.2 damage

    -- or the first does
    module _ (client : ℕ) (first : (m : Midstep) → IsTelling once.desk m → Some client ≡ first_struck m.struck) (count : length once.desk.kept.clients ≡ 32) (new : MarkedDesk)
        (ends : (s : Strike) (ss : List Strike) (m : Midstep) → s.client ≡ client → m.struck ≡ s ∷ ss → IsMidway once.desk m
        → IsAmid new (record { desktop = ended_by s m.desktop; struck = ss }))
        (marks : (s : Strike) (ss : List Strike) (m : Midstep) → s.client ≡ client → m.struck ≡ s ∷ ss → IsMidway once.desk m
        → MarksThrough m.desktop (ended_by s m.desktop ∷ []) once.damage new.damage) where
      pub settled-next : (n : ℕ) → n ≡ suc k → (m : Midstep) → IsAmid old m → AreDone n old new m × ((n ≡ 0) ⊎ (length m.desktop.clients ≡ 32))
      settled-next n next m amid =
          let done = (settled.done m amid).0 in
          let turn = settles done.mid done.amid in
          let it = first-of turn.0.struck client (first turn.0 turn.2.telling) in (
            more-done k n old now new m turn.0 it.0 it.1 done next settled.sides turn.1 it.2 (ends it.0 it.1 turn.0 it.3 it.2 turn.2)
                (subst (λ (dmg : Damaged). MarksThrough turn.0.desktop (ended_by it.0 turn.0.desktop ∷ []) dmg new.damage) damage (marks it.0 it.1 turn.0 it.3 it.2 turn.2)),
            inr (long-done k old now m turn.0 once.desk done turn.1 turn.2 count),
          )

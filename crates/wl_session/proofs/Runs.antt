-- Runs of a session, step by step.
use Rattle.std.proofs.Common.{◌≡◌, ℕ, zero, suc, ◌+◌, ◌<◌, Bool, true, false, List, [], ◌∷◌, ◌++◌, length, take, map, get_or, refl, sym, subst, ◌∙◌, ap, append_assoc, inl, inr}
use Rattle.std.specs.List.{list_any}
use Rattle.std.specs.Prelude.{IsTrue, pos, ◌||◌, cond, replicate}
use Rattle.std.proofs.lemmas.List.{map-append, take_more, append-nil}
use Rattle.std.proofs.lemmas.Option.{slice_get-get_or}
use Rattle.wl_paint.specs.Damage.{has}
use Rattle.spec_desktop.specs.declared.answers.Done.{Done}
use Rattle.spec_desktop.specs.declared.answers.Done.TheVariants as gave
use Rattle.spec_desktop.specs.Act.{Act, Connect, Feed, Store, Leave, Tick, Send, Close, Motion, Button}
use Rattle.spec_desktop.specs.Desktop.{Desktop}
use Rattle.spec_desktop.specs.Happenings.{Happening, Message, Single}
use Rattle.spec_desktop.specs.Happens.{Happens}
use Rattle.wl_desk.specs.Agreeing.{Agrees}
use Rattle.wl_session.specs.Course.{AreParts, IsSeen, LeadsTo, Ran, Runs, TakesCourse, TakesSteps, happenings, moment}
use Rattle.wl_session.specs.Events.{AreApart, AreEvents, Event, Moment, frames_of, is_frame, is_tick}
use Rattle.wl_paint.specs.Frame.{color_at}
use Rattle.spec_desktop.specs.Scratch.{scratch}
use Rattle.spec_desktop.specs.Stacked.{all_windows}
use Rattle.wl_session.specs.Liars.{AreLiars, IsRightBut}
use Rattle.wl_session.specs.Unmarked.{is_covered}
use Rattle.wl_session.specs.Run.{AreRuns, Film, MayStopAt, takes_memory}
use Rattle.wl_session.specs.Seen.{AreShots, IsShot}
use Rattle.wl_session.specs.Step.{act_of}
use Rattle.wl_session.specs.View.{SessionView}
use Rattle.wl_session.specs.declared.steps.Step.{Step}
use Rattle.wl_session.proofs.Courses.{apart-then, events-then}
use Rattle.wl_session.proofs.Seen.{frame-scratch, holds-after, sees-scratch}
use Rattle.wl_session.proofs.Stays.{stays_right}

-- ---- steps one after another

runs-last : (acts : List Act) (act : Act) (from mid to : Moment) (events last : List Event) (done : Done) → Runs from acts events mid
    → Happens act done mid.desktop to.desktop
    → AreParts act done (happenings last) → AreEvents mid last to → Runs from (acts ++ act ∷ []) (events ++ last) to
runs-last [] act from mid to events last done run happens parts leads = (
  to,
  done,
  last,
  [],
  subst (λ (m : Moment). Happens act done m.desktop to.desktop) run.1 happens,
  parts,
  subst (λ (m : Moment). AreEvents m last to) run.1 leads,
  ap (λ es. es ++ last) run.0 ∙ sym (append-nil last),
  (refl, refl),
)
runs-last (a ∷ acts) act from mid to events last done run happens parts leads = (
  run.0,
  run.1,
  run.2,
  run.3 ++ last,
  run.4,
  run.5,
  run.6,
  ap (λ es. es ++ last) run.7 ∙ append_assoc run.2 run.3 last,
  runs-last acts act run.0 mid to run.3 last done run.8 happens parts leads,
)

-- they are events one after another
pub runs-events : (acts : List Act) (from to : Moment) (events : List Event) → Runs from acts events to → AreEvents from events to
runs-events [] from to events run = subst (λ es. AreEvents from es to) (sym run.0) run.1
runs-events (act ∷ acts) from to events run =
    subst (λ es. AreEvents from es to) (sym run.7) (events-then from run.0 to run.2 run.3 run.6 (runs-events acts run.0 to run.3 run.8))

-- ---- frames

frames-then : (first later : List Event) → frames_of (first ++ later) ≡ frames_of first ++ frames_of later
frames-then [] later = refl
frames-then (e ∷ es) later = by (is_frame e.happening) (frames-then es later)
  where
    by : (b : Bool) → frames_of (es ++ later) ≡ frames_of es ++ frames_of later
        → cond b (e ∷ frames_of (es ++ later)) (frames_of (es ++ later)) ≡ cond b (e ∷ frames_of es) (frames_of es) ++ frames_of later
    by true same = ap (λ xs. e ∷ xs) same
    by false same = same

shots-then : (first later : List Event) (films more : List Film) → AreShots first films → AreShots later more → AreShots (first ++ later) (films ++ more)
shots-then [] later [] more a b = b
shots-then [] later (film ∷ films) more a b = absurd a
shots-then (e ∷ es) later [] more a b = absurd a
shots-then (e ∷ es) later (film ∷ films) more a b = (a.0, shots-then es later films more a.1 b)

-- what is no tick shows no frame
no-frames : (events : List Event) → list_any is_frame (happenings events) ≡ false → frames_of events ≡ []
no-frames [] none = refl
no-frames (e ∷ es) none = by (is_frame e.happening) none (no-frames es)
  where
    by : (b : Bool) → (b || list_any is_frame (happenings es)) ≡ false → (list_any is_frame (happenings es) ≡ false → frames_of es ≡ []) → cond b (e ∷ frames_of es) (frames_of es) ≡ []
    by true none rest = absurd (cc)
    by false none rest = rest none

messages-quiet : (n client : ℕ) → list_any is_frame (replicate n (Message client)) ≡ false
messages-quiet zero client = refl
messages-quiet (suc n) client = messages-quiet n client

quiet-parts : (act : Act) (done : Done) (parts : List Happening) → is_tick act ≡ false → AreParts act done parts → list_any is_frame parts ≡ false
quiet-parts Connect done parts quiet are = ap (λ hs. list_any is_frame hs) are
quiet-parts (Feed client piece) done parts quiet (inl are) = ap (λ hs. list_any is_frame hs) are
quiet-parts (Feed client piece) done parts quiet (inr (inl are)) = ap (λ hs. list_any is_frame hs) are
quiet-parts (Feed client piece) done parts quiet (inr (inr are)) = ap (λ hs. list_any is_frame hs) are.1 ∙ messages-quiet are.0 client
quiet-parts (Store client store at bytes) done parts quiet are = ap (λ hs. list_any is_frame hs) are
quiet-parts (Leave client) done parts quiet are = ap (λ hs. list_any is_frame hs) are
quiet-parts (Tick time) done parts quiet are = absurd (cc)
quiet-parts (Send client count) done parts quiet are = ap (λ hs. list_any is_frame hs) are
quiet-parts (Close client) done parts quiet are = ap (λ hs. list_any is_frame hs) are
quiet-parts (Motion time x y) done parts quiet are = ap (λ hs. list_any is_frame hs) are
quiet-parts (Button time button pressed) done parts quiet are = ap (λ hs. list_any is_frame hs) are

pub quiet-leads : (act : Act) (done : Done) (old new : SessionView) → is_tick act ≡ false → TakesCourse act done old new → LeadsTo act [] old new
quiet-leads act done old new quiet takes = λ d a.
    let course = takes d a in
    (done, course, subst (λ es. AreShots es []) (sym (no-frames course.events (quiet-parts act done (happenings course.events) quiet course.parts))) tt)

head : Happening → List Happening → Happening
head other [] = other
head other (h ∷ hs) = h

first : (time : ℕ) (h : Happening) → h ∷ [] ≡ Single (Tick time) gave.Tick ∷ [] → h ≡ Single (Tick time) gave.Tick
unfolding head
first time h same = ap (λ hs. head h hs) same

-- the frame of a tick
tick-shown : (time : ℕ) (from to : Moment) (events : List Event) (film : Film) → happenings events ≡ Single (Tick time) gave.Tick ∷ [] → AreEvents from events to → film.time ≡ time
    → AreRuns from.frame.width from.frame.height (has from.damage) film.runs → film.pixels ≡ to.frame.pixels → AreShots (frames_of events) (film ∷ [])
tick-shown time from to [] film parts leads shown runs pixels = absurd (cc)
tick-shown time from to (e ∷ (f ∷ fs)) film parts leads shown runs pixels = absurd (cc)
tick-shown time from to (e ∷ []) film parts leads shown runs pixels =
    let is : e.happening ≡ Single (Tick time) gave.Tick = first time e.happening parts in
    let shot : IsShot e film = record {
      time = is ∙ ap (λ t. Single (Tick t) gave.Tick) (sym shown);
      runs = subst (λ (m : Moment). AreRuns m.frame.width m.frame.height (has m.damage) film.runs) (sym leads.0) runs;
      pixels = pixels ∙ ap (λ (m : Moment). m.frame.pixels) leads.2;
    } in
    rw (ap is_frame is) (shot, tt)

pub tick-leads : (time : ℕ) (old new : SessionView) (film : Film) → TakesCourse (Tick time) gave.Tick old new → film.time ≡ time → AreRuns old.frame.width old.frame.height (has old.damage) film.runs
    → film.pixels ≡ new.frame.pixels
    → LeadsTo (Tick time) (film ∷ []) old new
tick-leads time old new film takes shown runs pixels = λ d a.
    let course = takes d a in
    (gave.Tick, course, tick-shown time (moment d old) (moment course.desktop new) course.events film course.parts course.leads shown runs pixels)

-- what it shows, after whatever came before it
pub tick-scratch : (time : ℕ) (first from to : Moment) (past more : List Event) (liars broke : ℕ → Bool) → IsRightBut liars first → AreEvents first (past ++ more) to
    → AreApart (past ++ more)
    → happenings more ≡ Single (Tick time) gave.Tick ∷ [] → AreEvents from more to → AreLiars liars (past ++ more) broke → (x y : ℕ) → x < from.frame.width → y < from.frame.height
    → is_covered all_windows broke from.desktop (pos x) (pos y) ≡ false → color_at to.frame x y ≡ scratch from.frame.background from.desktop (pos x) (pos y)
tick-scratch time begun from to past [] liars broke right all apart parts leads holds x y w h clear = absurd (cc)
tick-scratch time begun from to past (e ∷ (f ∷ fs)) liars broke right all apart parts leads holds x y w h clear = absurd (cc)
tick-scratch time begun from to past (e ∷ []) liars broke right all apart parts leads holds x y w h clear =
    let is : e.happening ≡ Single (Tick time) gave.Tick = first time e.happening parts in
    let shows : (m : Moment) → e.before ≡ m → x < m.frame.width → y < m.frame.height → is_covered all_windows broke m.desktop (pos x) (pos y) ≡ false
    → color_at e.after.frame x y ≡ scratch m.frame.background m.desktop (pos x) (pos y) =
    λ m same. subst (λ (n : Moment). x < n.frame.width → y < n.frame.height → is_covered all_windows broke n.desktop (pos x) (pos y) ≡ false
    → color_at e.after.frame x y ≡ scratch n.frame.background n.desktop (pos x) (pos y)) same
    (frame-scratch past e begun to liars broke all apart (ap is_frame is) holds right x y) in
    ap (λ (m : Moment). color_at m.frame x y) leads.2 ∙ shows from leads.0 w h clear

-- ---- a run

pub ran-none : (v : SessionView) (d : Desktop) → Agrees v.desk d → Ran [] [] v v d
ran-none v d a = record { desktop = d; events = []; runs = (refl, refl); apart = tt; shots = tt; agrees = a }

-- a run goes on by one more step
pub ran-more : (steps : List Step) (i : ℕ) (x : Step) (old mid new : SessionView) (films first : List Film) (d : Desktop) → i < length steps → Ran (map act_of (take i steps)) films old mid d
    → LeadsTo (act_of (get_or steps i x)) first mid new → Ran (map act_of (take (i + 1) steps)) (films ++ first) old new d
ran-more steps i x old mid new films first d h ran leads =
    let next = leads ran.desktop ran.agrees in
    let course = next.1 in
    let acts : map act_of (take (i + 1) steps) ≡ map act_of (take i steps) ++ act_of (get_or steps i x) ∷ [] =
    ap (λ (ss : List Step). map act_of ss) (take_more steps i x h) ∙ map-append act_of (take i steps) (get_or steps i x ∷ []) in
    record {
      desktop = course.desktop;
      events = ran.events ++ course.events;
      runs = subst (λ acts. Runs (moment d old) acts (ran.events ++ course.events) (moment course.desktop new)) (sym acts)
          (runs-last (map act_of (take i steps)) (act_of (get_or steps i x)) (moment d old) (moment ran.desktop mid) (moment course.desktop new) ran.events course.events next.0 ran.runs
          course.happens course.parts course.leads);
      apart = apart-then ran.events course.events ran.apart course.apart;
      shots = subst (λ es. AreShots es (films ++ first)) (sym (frames-then ran.events course.events)) (shots-then (frames_of ran.events) (frames_of course.events) films first ran.shots next.2);
      agrees = course.agrees;
    }

pub ran-seen : (acts : List Act) (films : List Film) (old new : SessionView) → TakesSteps acts films old new → IsSeen acts films old new
ran-seen acts films old new takes = λ d a.
    let ran = takes d a in
    let leads = runs-events acts (moment d old) (moment ran.desktop new) ran.events ran.runs in (
      ran,
      (λ liars sight right held. sees-scratch (moment d old) (moment ran.desktop new) ran.events films liars sight ran.apart leads ran.shots right held),
      (λ sight held. holds-after (moment d old) (moment ran.desktop new) ran.events films sight leads ran.shots held),
      (λ liars last broke right. stays_right (moment d old) (moment ran.desktop new) ran.events liars last ran.apart leads broke right),
    )

-- the step at a place may run out of memory
pub MayStopAt-here : (steps : List Step) (n : ℕ) (x : Step) → n < length steps → IsTrue (takes_memory (act_of (get_or steps n x))) → MayStopAt steps n
MayStopAt-here steps n x h may = rw (slice_get-get_or steps n x h) may

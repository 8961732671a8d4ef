-- The events that a session's steps are.
use Rattle.std.proofs.Common.{◌≡◌, ℕ, zero, suc, Bool, true, false, List, [], ◌∷◌, ◌++◌, Option, Some, None, refl, ap, sym, subst, ◌∙◌, inl, inr}
use Rattle.std.specs.Prelude.{ℤ, replicate, ◌<◌, ◌||◌, pos}
use Rattle.std.proofs.lemmas.Bool.{or_left, true≢false}
use Rattle.std.proofs.lemmas.List.{map-append}
use Rattle.spec_desktop.specs.declared.cause.Cause.{Cause}
use Rattle.spec_desktop.specs.Peer.{with_rest}
use Rattle.wl_paint.specs.Damage.{Damaged, has}
use Rattle.wl_paint.specs.Frame.{Image}
use Rattle.spec_desktop.specs.Act.{Act, Feed, Motion, Tick}
use Rattle.spec_desktop.specs.declared.answers.Done.{Done}
use Rattle.spec_desktop.specs.declared.answers.Done.TheVariants as gave
use Rattle.spec_desktop.specs.Desktop.{Desktop, Resident, client_at, unpointed, with_client}
use Rattle.spec_desktop.specs.Happenings.{Happening, Leads, Message, Receive, ReceivesAt, Single, Starve}
use Rattle.spec_desktop.specs.Happens.{Happens, Serves}
use Rattle.spec_desktop.specs.Marks.{AreDistinct}
use Rattle.spec_desktop.specs.Moments.{marks_at_least, marks_at_most_through}
use Rattle.spec_desktop.specs.Stacked.{all_windows}
use Rattle.spec_desktop.specs.Step.{with_peer}
use Rattle.law_desktop.proofs.Marks.Through.{marked_through}
use Rattle.law_desktop.proofs.Runs.Through.{happens_leads_through, messages_lead_through}
use Rattle.wl_scene.specs.Marking.{IsAsLarge as HasItsSides}
use Rattle.wl_clients.proofs.Agreed.{agrees-apart}
use Rattle.wl_clients.proofs.Steps.{kept-still}
use Rattle.wl_clients.proofs.Still.{IsStill, still-unmarked}
use Rattle.wl_desk.specs.Agreeing.{Agrees, LeadsBy, LeadsQuietly, MarksNothing, TakesStep}
use Rattle.wl_desk.specs.Feeding.{kept_at, kept_by, kept_of}
use Rattle.wl_desk.specs.Leading.{Led, raised_by}
use Rattle.wl_desk.specs.Marking.{MarksThroughBy}
use Rattle.wl_desk.specs.View.{DeskView, MarkedDesk}
use Rattle.wl_session.specs.Course.{AreParts, Course, TakesCourse, Took, happenings, moment}
use Rattle.wl_session.specs.Events.{AreApart, AreEvents, Event, IsAsDamaged, IsMarked, Moment, PaintsIf, is_frame, is_quiet, is_quiet_act, is_tick}
use Rattle.wl_session.specs.Liars.{AreLiars, IsRightBut}
use Rattle.wl_session.specs.Run.{IsNextFrame}
use Rattle.wl_session.specs.View.{SessionView}
use Rattle.wl_session.proofs.Feeding.{no-message-ended, no-message-none}
use Rattle.wl_session.proofs.Stays.{stays_right}

-- what of a session its desk has
abbrev pub marked : SessionView → MarkedDesk
marked v = record { desk = v.desk; damage = v.damage; settled = false }

-- ---- what is so of each desktop that a desk agrees with

-- no surface has two windows
pub apart-at : (v : DeskView) (d : Desktop) → Agrees v d → AreDistinct (all_windows d)
apart-at v d a = agrees-apart v.kept (unpointed d) a.kept

-- where a piece is kept, nothing is marked
kept-unmarked : (v : DeskView) (c : ℕ) (piece : List ℕ) (d : Desktop) → Agrees v d → (x y : ℕ) → marks_at_least d (kept_at c piece d) (pos x) (pos y) ≡ false
kept-unmarked v c piece d a x y =
    let same : IsStill d (kept_at c piece d) = kept-still c piece d in
    let still : IsStill (unpointed d) (kept_at c piece d) = record { output = same.output; standing = same.standing; owned = same.owned } in
    still-unmarked (unpointed d) (kept_at c piece d) a.kept.ordered still (pos x) (pos y)

-- ---- one step

-- what leads to a desktop is a step to it
pub led-happens : (act : Act) (done : Done) (P : Desktop → Type 0) (before after : Damaged) (d : Desktop) → (led : Led P (Single act done) before after d) → Happens act done d led.desktop
led-happens act done P before after d led = (happens_leads_through act done d led.desktop).0 led.path led.leads

-- One thing that happens leads from what agrees with one desk to what agrees with another.
abbrev pub LeadsOver : Happening → DeskView → DeskView → Damaged → Damaged → Type 0
LeadsOver h old new before after = (d : Desktop) → Agrees old d → Led (Agrees new) h before after d

pub leads-step : (act : Act) (done : Done) (old new : DeskView) {before after : Damaged} → LeadsOver (Single act done) old new before after → TakesStep act done old new
leads-step act done old new {before} {after} leads = λ d a.
    let led = leads d a in
    (led.desktop, led-happens act done (Agrees new) before after d led, led.agrees)

-- ---- one event

right-so : (old new : SessionView) (d e : Desktop) (events : List Event) → AreApart events → AreEvents (moment d old) events (moment e new)
    → (liars last : ℕ → Bool) → AreLiars liars events last → IsRightBut liars (moment d old) → IsRightBut last (moment e new)
right-so old new d e events apart leads liars last broke right = stays_right (moment d old) (moment e new) events liars last apart leads broke right

-- It marks what it has to and what it may.
led-marks : (h : Happening) (old new : SessionView) (d : Desktop) → Agrees old.desk d → (led : Led (Agrees new.desk) h old.damage new.damage d) → new.frame ≡ old.frame
    → HasItsSides old.damage new.damage → (is_quiet h ≡ true → IsAsDamaged old.damage new.damage) → IsMarked h (moment d old) led.path (moment led.desktop new)
led-marks h old new d a led frame sides quiet = record {
  frame = frame;
  sides = sides;
  marks = λ x y wide high clean.
      let unmarked = (led.marks x y wide high).0 clean in
      (unmarked.0, marked_through h d led.path led.desktop (pos x) (pos y) (apart-at old.desk d a) led.leads unmarked.1);
  each = λ x y wide high clean. ((led.marks x y wide high).0 clean).1;
  most = λ x y wide high again. (led.marks x y wide high).1 again;
  quiet = quiet;
}

-- It is a step by itself.
event-course : (act : Act) (done : Done) (h : Happening) (old new : SessionView) (d e : Desktop) (path : List Desktop) → Agrees old.desk d → Agrees new.desk e → Happens act done d e
    → AreParts act done (h ∷ []) → Leads h d path e → PaintsIf (is_frame h) h (moment d old) path (moment e new) → Course act done old new d
event-course act done h old new d e path a b happens parts led paints =
    let event : Event = record { happening = h; before = moment d old; path = path; after = moment e new } in
    let leads : AreEvents (moment d old) (event ∷ []) (moment e new) = (refl, record { leads = led; paints = paints }, refl) in
    let apart : AreApart (event ∷ []) = (apart-at old.desk d a, apart-at new.desk e b, tt) in
    record {
      desktop = e;
      events = event ∷ [];
      happens = happens;
      parts = parts;
      leads = leads;
      apart = apart;
      right = right-so old new d e (event ∷ []) apart leads;
      agrees = b;
    }

-- what shows no frame
pub marked-course : (act : Act) (done : Done) (old new : SessionView) → is_tick act ≡ false → AreParts act done (Single act done ∷ [])
    → new.frame ≡ old.frame → HasItsSides old.damage new.damage → LeadsBy (Single act done) (marked old) (marked new)
    → (is_quiet_act act ≡ true → MarksNothing (marked old) (marked new)) → TakesCourse act done old new
marked-course act done old new tick parts frame sides leads quiet = λ d a.
    let led = leads d a in
    event-course act done (Single act done) old new d led.desktop led.path a led.agrees (led-happens act done (Agrees new.desk) old.damage new.damage d led) parts led.leads
    (subst (λ b. PaintsIf b (Single act done) (moment d old) led.path (moment led.desktop new)) (sym tick)
    (led-marks (Single act done) old new d a led frame sides (λ is. quiet is d a)))

-- there was no memory to keep a piece, and nothing was marked by that
pub starved-course : (client : ℕ) (piece : List ℕ) (done : Done) (old new : SessionView) (before : Damaged) (d : Desktop) → before ≡ old.damage → new.frame ≡ old.frame
    → HasItsSides before new.damage → Agrees old.desk d
    → (led : Led (Agrees new.desk) (Starve client) before new.damage d) → Happens (Feed client piece) done d led.desktop → Course (Feed client piece) done old new d
starved-course client piece done old new before d same frame sides a led happens =
    let from : Led (Agrees new.desk) (Starve client) old.damage new.damage d = record {
      path = led.path;
      desktop = led.desktop;
      leads = led.leads;
      agrees = led.agrees;
      marks = subst (λ (m : Damaged). MarksThroughBy (raised_by (Starve client) d) d led.path m new.damage) same led.marks;
    } in
    event-course (Feed client piece) done (Starve client) old new d led.desktop led.path a led.agrees happens (inr (inl refl)) led.leads
    (led-marks (Starve client) old new d a from frame (subst (λ (m : Damaged). HasItsSides m new.damage) same sides) (λ no. absurd (true≢false (sym no))))

-- A frame: what was to be painted was handed over, and nothing was to be painted then.
pub tick-course : (time : ℕ) (old new : SessionView) (none : Damaged) → ((x y : ℕ) → has none x y ≡ false) → HasItsSides old.damage none → HasItsSides none new.damage
    → LeadsQuietly (Single (Tick time) gave.Tick) (record { desk = old.desk; damage = none; settled = false }) (marked new)
    → ((d : Desktop) → Agrees old.desk d → IsNextFrame d old.frame new.frame (has old.damage)) → TakesCourse (Tick time) gave.Tick old new
tick-course time old new none bare sides more leads next = λ d a.
    let quietly = leads d a in
    let led = quietly.0 in
    let wide : (x : ℕ) → x < old.damage.width → x < none.width = λ x is. rw sides.width is in
    let high : (y : ℕ) → y < old.damage.height → y < none.height = λ y is. rw sides.height is in
    event-course (Tick time) gave.Tick (Single (Tick time) gave.Tick) old new d led.desktop led.path a led.agrees
    (led-happens (Tick time) gave.Tick (Agrees new.desk) none new.damage d led) refl led.leads (record {
      frame = next d a;
      sides = record { width = more.width ∙ sides.width; height = more.height ∙ sides.height };
      none = λ stays x y w h. quietly.1 stays x y (wide x w) (high y h) ∙ bare x y;
      marks = λ x y w h clean.
          marked_through (Single (Tick time) gave.Tick) d led.path led.desktop (pos x) (pos y) (apart-at old.desk d a) led.leads
          ((led.marks x y (wide x w) (high y h)).0 clean).1;
      each = λ x y w h clean. ((led.marks x y (wide x w) (high y h)).0 clean).1;
      most = λ x y w h again.
          sym (ap (λ b. b || marks_at_most_through all_windows None d led.path (pos x) (pos y)) (bare x y)) ∙ (led.marks x y (wide x w) (high y h)).1 again;
    })

-- ---- events one after another

pub events-then : (from mid to : Moment) (first later : List Event) → AreEvents from first mid → AreEvents mid later to → AreEvents from (first ++ later) to
events-then from mid to [] later first-leads leads = subst (λ m. AreEvents m later to) first-leads leads
events-then from mid to (e ∷ es) later first-leads leads = (first-leads.0, first-leads.1, events-then e.after mid to es later first-leads.2 leads)

pub apart-then : (first later : List Event) → AreApart first → AreApart later → AreApart (first ++ later)
apart-then [] later a b = b
apart-then (e ∷ es) later a b = (a.0, a.1, apart-then es later a.2 b)

-- ---- messages

replicate-more : {X : Type 0} (n : ℕ) (x : X) → replicate n x ++ x ∷ [] ≡ replicate (suc n) x
replicate-more zero x = refl
replicate-more (suc n) x = ap (λ xs. x ∷ xs) (replicate-more n x)

-- none yet
pub served-none : (client : ℕ) (v : SessionView) (d : Desktop) → Agrees v.desk d → Took client v v d
served-none client v d a = record { count = zero; desktop = d; events = []; reaches = refl; parts = refl; leads = refl; apart = tt; agrees = a }

-- one more
pub served-more : (client : ℕ) (old mid new : SessionView) (d : Desktop) → (s : Took client old mid d) → new.frame ≡ mid.frame → HasItsSides mid.damage new.damage
    → (led : Led (Agrees new.desk) (Message client) mid.damage new.damage s.desktop) → Took client old new d
served-more client old mid new d s frame sides led =
    let e : Desktop = led.desktop in
    let serves : Serves client s.desktop e = (messages_lead_through client s.desktop e).0 led.path led.leads in
    let event : Event = record { happening = Message client; before = moment s.desktop mid; path = led.path; after = moment e new } in
    let marks : IsMarked (Message client) (moment s.desktop mid) led.path (moment e new) = led-marks (Message client) mid new s.desktop s.agrees led frame sides (λ no. absurd (true≢false (sym no))) in
    let last : AreEvents (moment s.desktop mid) (event ∷ []) (moment e new) = (refl, record { leads = led.leads; paints = marks }, refl) in
    record {
      count = suc s.count;
      desktop = e;
      events = s.events ++ event ∷ [];
      reaches = (s.desktop, s.reaches, serves);
      parts = map-append (λ (x : Event). x.happening) s.events (event ∷ []) ∙ (ap (λ hs. hs ++ Message client ∷ []) s.parts ∙ replicate-more s.count (Message client));
      leads = events-then (moment d old) (moment s.desktop mid) (moment e new) s.events (event ∷ []) s.leads last;
      apart = apart-then s.events (event ∷ []) s.apart (apart-at mid.desk s.desktop s.agrees, apart-at new.desk e led.agrees, tt);
      agrees = led.agrees;
    }

-- the same, where what is kept besides changed
pub took-then : (client : ℕ) (old mid new : SessionView) (d : Desktop) → (s : Took client old mid d) → new.damage ≡ mid.damage → new.frame ≡ mid.frame → Agrees new.desk s.desktop
    → (t : Took client old new d) × (t.desktop ≡ s.desktop)
took-then client old mid new d s damage frame agrees =
    let same : moment s.desktop mid ≡ moment s.desktop new =
    ap (λ (m : Damaged). record { desktop = s.desktop; damage = m; frame = mid.frame }) (sym damage)
    ∙ ap (λ (i : Image). record { desktop = s.desktop; damage = new.damage; frame = i }) (sym frame) in (
      record {
        count = s.count;
        desktop = s.desktop;
        events = s.events;
        reaches = s.reaches;
        parts = s.parts;
        leads = subst (λ m. AreEvents (moment d old) s.events m) same s.leads;
        apart = s.apart;
        agrees = agrees;
      },
      refl,
    )

-- ---- a piece

-- a piece that was kept, and then so many messages
pub fed-course : (client : ℕ) (piece : List ℕ) (done : Done) (old kept new : SessionView) (d : Desktop) → kept.frame ≡ old.frame → kept.damage ≡ old.damage → Agrees old.desk d
    → (s : Took client kept new (kept_at client piece d))
    → Happens (Feed client piece) done d s.desktop → Agrees kept.desk (kept_at client piece d) → Course (Feed client piece) done old new d
fed-course client piece done old kept new d frame damage a s happens b = at (client_at client d) refl
  where
    none-at : (s.count ≡ zero) × (s.desktop ≡ kept_at client piece d) → kept_at client piece d ≡ d → Course (Feed client piece) done old new d
    none-at none same =
        let bare : s.events ≡ [] = empty s.events (s.parts ∙ ap (λ n. replicate n (Message client)) none.0) in
        let still : moment s.desktop new ≡ moment (kept_at client piece d) kept = subst (λ es. AreEvents (moment (kept_at client piece d) kept) es (moment s.desktop new)) bare s.leads in
        let begun : moment (kept_at client piece d) kept ≡ moment d old =
        ap (λ (x : Desktop). record { desktop = x; damage = kept.damage; frame = kept.frame }) same
        ∙ (ap (λ (m : Damaged). record { desktop = d; damage = m; frame = kept.frame }) damage ∙ ap (λ (i : Image). record { desktop = d; damage = old.damage; frame = i }) frame) in
        let leads : AreEvents (moment d old) [] (moment s.desktop new) = still ∙ begun in
        record { desktop = s.desktop; events = []; happens = happens; parts = inl refl; leads = leads; apart = tt; right = right-so old new d s.desktop [] tt leads; agrees = s.agrees }
      where
        empty : (es : List Event) → happenings es ≡ [] → es ≡ []
        empty [] e = refl
        empty (x ∷ xs) e = absurd (cc)

    by : (t : Option Cause) (r : Resident) → client_at client d ≡ Some r → r.peer.status ≡ t → Course (Feed client piece) done old new d
    by (Some cause) r there over =
        let same : kept_at client piece d ≡ d = ap (λ o. kept_of client piece o d) there ∙ ap (λ t. kept_by client piece t r d) over in
        none-at (no-message-ended client s.count cause r (kept_at client piece d) s.desktop (ap (λ x. client_at client x) same ∙ there) over s.reaches) same
    by None r there alive =
        let come : Resident = with_peer (with_rest (r.peer.rest ++ piece) r.peer) r in
        let same : kept_at client piece d ≡ with_client client (Some come) d = ap (λ o. kept_of client piece o d) there ∙ ap (λ t. kept_by client piece t r d) alive in
        let event : Event = record { happening = Receive client piece; before = moment d old; path = kept_at client piece d ∷ []; after = moment (kept_at client piece d) kept } in
        let received : Leads (Receive client piece) d (kept_at client piece d ∷ []) (kept_at client piece d) =
        subst (λ o. ReceivesAt client piece o d (kept_at client piece d ∷ []) (kept_at client piece d)) (sym there) (alive, same, refl) in
        let marks : IsMarked (Receive client piece) (moment d old) (kept_at client piece d ∷ []) (moment (kept_at client piece d) kept) = record {
          frame = frame;
          sides = record { width = ap (λ (m : Damaged). m.width) damage; height = ap (λ (m : Damaged). m.height) damage };
          marks = λ x y w h clean. (ap (λ (m : Damaged). has m x y) (sym damage) ∙ clean, kept-unmarked old.desk client piece d a x y);
          each = λ x y w h clean. ap (λ b. b || false) (kept-unmarked old.desk client piece d a x y);
          most = λ x y w h again. or_left (has old.damage x y) _ (ap (λ (m : Damaged). has m x y) (sym damage) ∙ again);
          quiet = λ _ x y w h. ap (λ (m : Damaged). has m x y) damage;
        } in
        let leads : AreEvents (moment d old) (event ∷ s.events) (moment s.desktop new) = (refl, record { leads = received; paints = marks }, s.leads) in
        let apart : AreApart (event ∷ s.events) = (apart-at old.desk d a, apart-at kept.desk (kept_at client piece d) b, s.apart) in
        record {
          desktop = s.desktop;
          events = event ∷ s.events;
          happens = happens;
          parts = inr (inr (s.count, ap (λ hs. Receive client piece ∷ hs) s.parts));
          leads = leads;
          apart = apart;
          right = right-so old new d s.desktop (event ∷ s.events) apart leads;
          agrees = s.agrees;
        }

    at : (o : Option Resident) → client_at client d ≡ o → Course (Feed client piece) done old new d
    at None none =
        let same : kept_at client piece d ≡ d = ap (λ o. kept_of client piece o d) none in
        none-at (no-message-none client s.count (kept_at client piece d) s.desktop (ap (λ x. client_at client x) same ∙ none) s.reaches) same
    at (Some r) there = by r.peer.status r there refl

-- ---- a motion to one point is one to another that is the same

module _ (time : ℕ) (x y u v : ℤ) (e : u ≡ x) (f : v ≡ y) where
  same-motion : (P : Act → Type 0) → P (Motion time u v) → P (Motion time x y)
  same-motion P h = subst (λ (z : ℤ). P (Motion time x z)) f (subst (λ (z : ℤ). P (Motion time z v)) e h)

  pub motion-leads : (old new : DeskView) {before after : Damaged} → LeadsOver (Single (Motion time u v) gave.Motion) old new before after
      → LeadsOver (Single (Motion time x y) gave.Motion) old new before after
  motion-leads old new {before} {after} h = same-motion (λ act. LeadsOver (Single act gave.Motion) old new before after) h

  pub motion-steps : (old new : DeskView) → TakesStep (Motion time u v) gave.Motion old new → TakesStep (Motion time x y) gave.Motion old new
  motion-steps old new h = same-motion (λ act. TakesStep act gave.Motion old new) h

  pub motion-courses : (old new : SessionView) → TakesCourse (Motion time u v) gave.Motion old new → TakesCourse (Motion time x y) gave.Motion old new
  motion-courses old new h = same-motion (λ act. TakesCourse act gave.Motion old new) h

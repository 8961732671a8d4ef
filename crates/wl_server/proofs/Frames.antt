-- What a session shows while it is served.
use Rattle.std.proofs.Common.{ℕ, Bool, List, [], ◌∷◌, ◌++◌, Option, Result, Ok, Err, refl, subst}
use Rattle.std.specs.Prelude.{⊤}
use Rattle.std.specs.Result.{OnOk}
use Rattle.spec_desktop.specs.Act.{Act}
use Rattle.spec_desktop.specs.Desktop.{Desktop}
use Rattle.wl_session.specs.Agreeing.{Agrees}
use Rattle.wl_session.specs.Course.{moment}
use Rattle.wl_session.specs.Events.{AreApart, AreEvents, Event, Moment}
use Rattle.wl_session.specs.Liars.{IsRightBut}
use Rattle.wl_session.proofs.Runs.{runs-events}
use Rattle.wl_session.proofs.Seen.{frame-scratch}
use Rattle.wl_session.proofs.Stays.{stays_right}
use Rattle.wl_server.specs.Acting.{IsServed, ShowsScratch, Stretch, Takes, Went}
use Rattle.wl_server.specs.Recorded.{RecordedView}
use Rattle.wl_server.specs.Telling.{IsToldOf, Tells}

-- up to a frame, and with it

events-first : (before : List Event) (frame : Event) (later : List Event) (from to : Moment) → AreEvents from (before ++ frame ∷ later) to
    → AreEvents from (before ++ frame ∷ []) frame.after
events-first [] frame later from to leads = (leads.0, leads.1, refl)
events-first (e ∷ es) frame later from to leads = (leads.0, leads.1, events-first es frame later e.after to leads.2)

apart-first : (before : List Event) (frame : Event) (later : List Event) → AreApart (before ++ frame ∷ later) → AreApart (before ++ frame ∷ [])
apart-first [] frame later apart = (apart.0, apart.1, tt)
apart-first (e ∷ es) frame later apart = (apart.0, apart.1, apart-first es frame later apart.2)

shows-scratch : (from to : Moment) (events : List Event) (liars : ℕ → Bool) → AreApart events → AreEvents from events to → IsRightBut liars from → ShowsScratch liars events
shows-scratch from to events liars apart leads right before frame later broke x y same tick holds w h clear =
    let up_to = events-first before frame later from to (subst (λ (es : List Event). AreEvents from es to) same leads) in
    let distinct = apart-first before frame later (subst AreApart same apart) in
    frame-scratch before frame from frame.after liars broke up_to distinct tick holds right x y w h clear

-- ---- what is served

pub served-as : {Writer : Type 0} {contents : Writer → Option (List ℕ)} (P : Stretch) (Q : List Event → Type 0) (old new : RecordedView Writer)
    → ((d : Desktop) → Agrees old.session.desk d → (acts : List Act) × (went : Went contents acts old new d) × P (moment d old.session) acts went.events (moment went.desktop new.session) × Q went.events)
    → IsServed contents P Q old new
served-as P Q old new takes = λ d agrees.
    let t = takes d agrees in
    let went = t.1 in
    let leads = runs-events t.0 (moment d old.session) (moment went.desktop new.session) went.events went.runs in (
      t.0,
      went,
      t.2,
      t.3,
      (λ liars right. shows-scratch (moment d old.session) (moment went.desktop new.session) went.events liars went.apart leads right),
      (λ liars last broke right. stays_right (moment d old.session) (moment went.desktop new.session) went.events liars last went.apart leads broke right),
    )

pub served-of : {Writer : Type 0} {contents : Writer → Option (List ℕ)} (P : Stretch) (old new : RecordedView Writer) → Takes contents P old new → IsServed contents P (λ events. ⊤) old new
served-of P old new takes = served-as P (λ events. ⊤) old new (λ d agrees. let t = takes d agrees in (t.0, t.1, t.2, tt))

pub served-told : {T E : Type 0} {Writer : Type 0} (contents : Writer → Option (List ℕ)) (P : Stretch) (old new : RecordedView Writer) (report told images imaged : Option (List ℕ)) (r : Result T E)
    → OnOk r (Tells contents P old new report told images imaged) → OnOk r (IsServed contents P (IsToldOf report told images imaged) old new)
served-told contents P old new report told images imaged (Ok x) tells = served-as P (IsToldOf report told images imaged) old new tells
served-told contents P old new report told images imaged (Err e) tells = tt

-- What a session does, joined of what it does one after another.
use Rattle.std.proofs.Common.{Option, ◌≡◌, ◌+◌, ℕ, suc, List, [], ◌∷◌, ◌++◌, refl, ap, sym, subst, ◌∙◌, add-one, append-nil, append_assoc}
use Rattle.spec_desktop.specs.declared.answers.Done.{Done}
use Rattle.spec_desktop.specs.Act.{Act}
use Rattle.spec_desktop.specs.Desktop.{Desktop}
use Rattle.wl_session.specs.Agreeing.{Agrees}
use Rattle.wl_session.specs.Course.{AreParts, Course, Runs, TakesCourse, happenings, moment}
use Rattle.wl_session.specs.Events.{Event, Moment}
use Rattle.wl_session.specs.View.{SessionView}
use Rattle.wl_session.proofs.Courses.{apart-then}
use Rattle.wl_server.specs.Acting.{Idle, InTurn, Stretch, Takes, Then, Went}
use Rattle.wl_server.specs.Recorded.{GoesOn, IsNoted, Looks, OnBoth, RecordedView}
use Rattle.wl_server.proofs.Histories.{goes-looking-on, goes-one-on, goes-then-on, stays-none}

pub runs-append : (acts more : List Act) (from mid to : Moment) (events others : List Event) → Runs from acts events mid → Runs mid more others to
    → Runs from (acts ++ more) (events ++ others) to
runs-append [] more from mid to events others first next =
    subst (λ (es : List Event). Runs from more (es ++ others) to) (sym first.0) (subst (λ (m : Moment). Runs m more others to) first.1 next)
runs-append (act ∷ acts) more from mid to events others first next = (
  first.0,
  first.1,
  first.2,
  first.3 ++ others,
  first.4,
  first.5,
  first.6,
  ap (λ (es : List Event). es ++ others) first.7 ∙ append_assoc first.2 first.3 others,
  runs-append acts more first.0 mid to first.3 others first.8 next,
)

-- ---- where acts lead

-- a session takes a step, which is noted
abbrev pub TakesNoted : {W : Type 0} → (W → Option (List ℕ)) → Act → Done → RecordedView W → RecordedView W → Type 0
TakesNoted contents act done old new = TakesCourse act done old.session new.session × IsNoted contents act done old new

abbrev pub went-none : {Writer : Type 0} {contents : Writer → Option (List ℕ)} (old new : RecordedView Writer) (d : Desktop) → new ≡ old → Agrees old.session.desk d
    → Went contents [] old new d
went-none {Writer} {contents} old new d same agrees = record {
  desktop = d;
  events = [];
  runs = (refl, ap (λ (v : RecordedView Writer). moment d v.session) same);
  apart = tt;
  agrees = subst (λ (v : RecordedView Writer). Agrees v.session.desk d) (sym same) agrees;
  noted = subst (λ (v : RecordedView Writer). OnBoth (GoesOn contents (moment d old.session) [] [] (moment d v.session)) old.recording v.recording) (sym same)
      (stays-none contents (moment d old.session) old.recording);
}

abbrev pub went-one : {Writer : Type 0} {contents : Writer → Option (List ℕ)} (act : Act) (done : Done) (old new : RecordedView Writer) (d : Desktop) → Agrees old.session.desk d
    → Course act done old.session new.session d → IsNoted contents act done old new → Went contents (act ∷ []) old new d
went-one {Writer} {contents} act done old new d agrees course noted = record {
  desktop = course.desktop;
  events = course.events;
  runs = (moment course.desktop new.session, done, course.events, [], course.happens, course.parts, course.leads, sym (append-nil course.events), (refl, refl));
  apart = course.apart;
  agrees = course.agrees;
  noted = goes-one-on contents act done old.session new.session d old.recording new.recording agrees course noted;
}

abbrev pub went-then : {Writer : Type 0} {contents : Writer → Option (List ℕ)} (a b : List Act) (old mid new : RecordedView Writer) (d : Desktop) (first : Went contents a old mid d)
    → Went contents b mid new first.desktop → Went contents (a ++ b) old new d
went-then {Writer} {contents} a b old mid new d first next = record {
  desktop = next.desktop;
  events = first.events ++ next.events;
  runs = runs-append a b (moment d old.session) (moment first.desktop mid.session) (moment next.desktop new.session) first.events next.events first.runs next.runs;
  apart = apart-then first.events next.events first.apart next.apart;
  agrees = next.agrees;
  noted = goes-then-on contents (moment d old.session) (moment first.desktop mid.session) (moment next.desktop new.session) a b first.events next.events
      old.recording mid.recording new.recording first.noted next.noted;
}

-- and whoever ended was looked at behind that
abbrev pub went-looking : {Writer : Type 0} {contents : Writer → Option (List ℕ)} (acts : List Act) (old mid new : RecordedView Writer) (d : Desktop) → new.session ≡ mid.session
    → OnBoth (Looks contents mid.session) mid.recording new.recording → Went contents acts old mid d → Went contents acts old new d
went-looking {Writer} {contents} acts old mid new d same looks went = record {
  desktop = went.desktop;
  events = went.events;
  runs = subst (λ (v : SessionView). Runs (moment d old.session) acts went.events (moment went.desktop v)) (sym same) went.runs;
  apart = went.apart;
  agrees = subst (λ (v : SessionView). Agrees v.desk went.desktop) (sym same) went.agrees;
  noted = subst (λ (v : SessionView). OnBoth (GoesOn contents (moment d old.session) acts went.events (moment went.desktop v)) old.recording new.recording) (sym same)
      (goes-looking-on contents mid.session (moment d old.session) went.desktop acts went.events old.recording mid.recording new.recording went.agrees went.noted looks);
}

-- ---- the same of acts of which something holds

-- one stretch, and then another, by way of a desktop that agrees with the session there
abbrev pub Joins : Stretch → Stretch → Stretch → SessionView → SessionView → Type 0
Joins P Q R mid new =
    (start : Moment) (d e : Desktop) (a b : List Act) (es fs : List Event) → Agrees mid.desk d → Agrees new.desk e
    → Runs start a es (moment d mid) → Runs (moment d mid) b fs (moment e new)
    → P start a es (moment d mid) → Q (moment d mid) b fs (moment e new) → R start (a ++ b) (es ++ fs) (moment e new)

pub Takes-none : {Writer : Type 0} {contents : Writer → Option (List ℕ)} (P : Stretch) (old new : RecordedView Writer) → new ≡ old → ((d : Desktop) → Agrees old.session.desk d → P (moment d old.session) [] [] (moment d new.session)) → Takes contents P old new
Takes-none P old new same p = λ d agrees. ([], went-none old new d same agrees, p d agrees)

pub Takes-one : {Writer : Type 0} {contents : Writer → Option (List ℕ)} (P : Stretch) (act : Act) (done : Done) (old new : RecordedView Writer) → TakesNoted contents act done old new
    → ((d e : Desktop) (events : List Event) → Agrees old.session.desk d → AreParts act done (happenings events) → P (moment d old.session) (act ∷ []) events (moment e new.session)) → Takes contents P old new
Takes-one P act done old new takes p = λ d agrees.
    let course = takes.0 d agrees in
    (act ∷ [], went-one act done old new d agrees course takes.1, p d course.desktop course.events agrees course.parts)

pub Takes-then : {Writer : Type 0} {contents : Writer → Option (List ℕ)} (P Q R : Stretch) (old mid new : RecordedView Writer) → Takes contents P old mid → Takes contents Q mid new → Joins P Q R mid.session new.session → Takes contents R old new
Takes-then P Q R old mid new first next join = λ d agrees.
    let a = first d agrees in
    let b = next a.1.desktop a.1.agrees in
    (a.0 ++ b.0, went-then a.0 b.0 old mid new d a.1 b.1, join (moment d old.session) a.1.desktop b.1.desktop a.0 b.0 a.1.events b.1.events a.1.agrees b.1.agrees a.1.runs b.1.runs a.2 b.2)

-- what is said of a stretch is more than this, where it ends at a desktop that agrees
abbrev pub Weakens : Stretch → Stretch → SessionView → SessionView → Type 0
Weakens P Q old new =
    (d e : Desktop) (a : List Act) (es : List Event) → Agrees old.desk d → Agrees new.desk e
    → Runs (moment d old) a es (moment e new) → P (moment d old) a es (moment e new) → Q (moment d old) a es (moment e new)

pub Takes-weaker : {Writer : Type 0} {contents : Writer → Option (List ℕ)} (P Q : Stretch) (old new : RecordedView Writer) → Takes contents P old new → Weakens P Q old.session new.session → Takes contents Q old new
Takes-weaker P Q old new takes weaker = λ d agrees.
    let a = takes d agrees in (a.0, a.1, weaker d a.1.desktop a.0 a.1.events agrees a.1.agrees a.1.runs a.2)

pub Takes-looking : {Writer : Type 0} {contents : Writer → Option (List ℕ)} (P : Stretch) (old mid new : RecordedView Writer) → new.session ≡ mid.session
    → OnBoth (Looks contents mid.session) mid.recording new.recording → Takes contents P old mid → Takes contents P old new
Takes-looking P old mid new same looks takes = λ d agrees.
    let a = takes d agrees in
    (a.0, went-looking a.0 old mid new d same looks a.1, subst (λ (v : SessionView). P (moment d old.session) a.0 a.1.events (moment a.1.desktop v)) (sym same) a.2)

pub Takes-two : {Writer : Type 0} {contents : Writer → Option (List ℕ)} (P : Stretch) (act next : Act) (done after : Done) (old mid new : RecordedView Writer) → TakesNoted contents act done old mid → TakesNoted contents next after mid new
    → ((d e : Desktop) (events : List Event) → Agrees old.session.desk d → P (moment d old.session) (act ∷ next ∷ []) events (moment e new.session)) → Takes contents P old new
Takes-two P act next done after old mid new first last p = λ d agrees.
    let a = went-one act done old mid d agrees (first.0 d agrees) first.1 in
    let b = went-one next after mid new a.desktop a.agrees (last.0 a.desktop a.agrees) last.1 in
    (act ∷ next ∷ [], went-then (act ∷ []) (next ∷ []) old mid new d a b, p d b.desktop (a.events ++ b.events) agrees)

-- what is said of the acts is said of a value that is known
pub Takes-is : {X : Type 0} {Writer : Type 0} {contents : Writer → Option (List ℕ)} (P : X → Stretch) (x y : X) (old new : RecordedView Writer) → x ≡ y → Takes contents (P x) old new → Takes contents (P y) old new
Takes-is {X} {Writer} {contents} P x y old new same takes = subst (λ (v : _). Takes contents (P v) old new) same takes

-- ---- one after another

pub idle : {W : Type 0} (w : W) (m : Moment) → Idle w w m [] [] m
idle w m = record { kept = refl; acts_are = refl; events_are = refl; stays = refl }

pub idle-is : {W : Type 0} (from to : W) (start end : Moment) → to ≡ from → end ≡ start → Idle from to start [] [] end
idle-is from to start end same ends = record { kept = same; acts_are = refl; events_are = refl; stays = ends }

pub both : {W : Type 0} (P Q : W → W → Stretch) (from mid to : W) (start moment end : Moment) (a b : List Act) (es fs : List Event)
    → Runs start a es moment → Runs moment b fs end → P from mid start a es moment → Q mid to moment b fs end
    → Then P Q from to start (a ++ b) (es ++ fs) end
both P Q from mid to start moment end a b es fs leads goes p q = record {
  mid = mid;
  moment = moment;
  first = a;
  next = b;
  early = es;
  late = fs;
  leads = leads;
  goes_on = goes;
  does = p;
  follows = q;
  acts_are = refl;
  events_are = refl;
}

pub Takes-both : {W : Type 0} {Writer : Type 0} {contents : Writer → Option (List ℕ)} (P Q : W → W → Stretch) (from between to : W) (old mid new : RecordedView Writer) → Takes contents (P from between) old mid → Takes contents (Q between to) mid new
    → Takes contents (Then P Q from to) old new
Takes-both P Q from between to old mid new first next =
    Takes-then (P from between) (Q between to) (Then P Q from to) old mid new first next
    (λ start d e a b es fs ad ae leads goes p q. both P Q from between to start (moment d mid.session) (moment e new.session) a b es fs leads goes p q)

pub InTurn-zero : {W : Type 0} (Own : ℕ → W → W → Stretch) (w : W) (m : Moment) → InTurn Own 0 w w m [] [] m
unfolding InTurn
InTurn-zero Own w m = idle w m

InTurn-suc : {W : Type 0} (Own : ℕ → W → W → Stretch) (n : ℕ) (from to : W) (start : Moment) (acts : List Act) (events : List Event) (end : Moment)
    → Then (InTurn Own n) (Own (suc n)) from to start acts events end → InTurn Own (suc n) from to start acts events end
unfolding InTurn
InTurn-suc Own n from to start acts events end then = then

pub InTurn-more : {W : Type 0} (Own : ℕ → W → W → Stretch) (n : ℕ) (from to : W) (start : Moment) (acts : List Act) (events : List Event) (end : Moment)
    → Then (InTurn Own n) (Own (n + 1)) from to start acts events end → InTurn Own (n + 1) from to start acts events end
InTurn-more Own n from to start acts events end then =
    subst (λ (k : ℕ). InTurn Own k from to start acts events end) (sym (add-one n))
    (InTurn-suc Own n from to start acts events end (subst (λ (k : ℕ). Then (InTurn Own n) (Own k) from to start acts events end) (add-one n) then))

pub Takes-zero : {W : Type 0} {Writer : Type 0} {contents : Writer → Option (List ℕ)} (Own : ℕ → W → W → Stretch) (w : W) (v : RecordedView Writer) → Takes contents (InTurn Own 0 w w) v v
Takes-zero Own w v = Takes-none (InTurn Own 0 w w) v v refl (λ d agrees. InTurn-zero Own w (moment d v.session))

pub Takes-turn : {W : Type 0} {Writer : Type 0} {contents : Writer → Option (List ℕ)} (Own : ℕ → W → W → Stretch) (n : ℕ) (from between to : W) (old mid new : RecordedView Writer) → Takes contents (InTurn Own n from between) old mid
    → Takes contents (Own (n + 1) between to) mid new → Takes contents (InTurn Own (n + 1) from to) old new
Takes-turn Own n from between to old mid new first next =
    Takes-weaker (Then (InTurn Own n) (Own (n + 1)) from to) (InTurn Own (n + 1) from to) old new
    (Takes-both (InTurn Own n) (Own (n + 1)) from between to old mid new first next)
    (λ d e a es ad ae runs then. InTurn-more Own n from to (moment d old.session) a es (moment e new.session) then)

-- A recording goes on with its session.
use Rattle.std.proofs.Common.{◌≡◌, ◌+◌, ◌∙◌, ℕ, zero, suc, Bool, true, false, List, [], ◌∷◌, ◌++◌, Option, Some, None, Ok, Err, refl, ap, ap₂, sym, subst, append-nil, append_assoc}
use Rattle.std.proofs.lemmas.Bool.{OnFalse_from}
use Rattle.std.specs.Prelude.{OnOk, Result, replicate}
use Rattle.std.proofs.KnownBytes.{Appends-nil}
use Rattle.spec_desktop.specs.Act.{Act}
use Rattle.spec_desktop.specs.Desktop.{Desktop, empty}
use Rattle.spec_desktop.specs.declared.answers.Done.{Done}
use Rattle.wl_recording.specs.Line.{Asked}
use Rattle.wl_recording.specs.Recording.{HoldsTo, Recorded, goes, left, number_of}
use Rattle.wl_session.specs.Agreeing.{Agrees}
use Rattle.wl_session.specs.Course.{AreParts, Course, TakesCourse, happenings, moment}
use Rattle.wl_session.specs.Events.{Event, Moment}
use Rattle.wl_session.specs.View.{SessionView}
use Rattle.wl_server.specs.Recorded.{Flushes, GoesOn, History, HoldsNotes, IsRecorded, IsRecordedBy, Looks, Notes, NotesAct, NotesIn, NotesNext, NotesOf, OnBoth, begins, goes_on, looked, looked_up_to, no_notes}

looked-none : {W : Type 0} (contents : W → Option (List ℕ)) (first : Option (List ℕ)) (d : Desktop) (notes : Notes) (r : Recorded W)
    → HoldsNotes contents first notes r → HoldsNotes contents first (looked 0 d notes) r
unfolding looked
looked-none contents first d notes r holds = holds

looked-more : {W : Type 0} (contents : W → Option (List ℕ)) (first : Option (List ℕ)) (n : ℕ) (d : Desktop) (notes : Notes) (r : Recorded W)
    → HoldsNotes contents first (looked_up_to 32 d (looked n d notes)) r → HoldsNotes contents first (looked (suc n) d notes) r
unfolding looked
looked-more contents first n d notes r holds = holds

-- ---- where there is a recording, and where there is none

-- the one and then the other
pub both-then : {W : Type 0} (P Q R : Recorded W → Recorded W → Type 0) (r s t : Option (Recorded W)) → ((a b c : Recorded W) → P a b → Q b c → R a c)
    → OnBoth P r s → OnBoth Q s t → OnBoth R r t
both-then P Q R None None None joins p q = tt
both-then P Q R None None (Some t) joins p q = absurd q
both-then P Q R None (Some s) t joins p q = absurd p
both-then P Q R (Some r) None t joins p q = absurd p
both-then P Q R (Some r) (Some s) None joins p q = absurd q
both-then P Q R (Some r) (Some s) (Some t) joins p q = joins r s t p q

both-same : {W : Type 0} (P : Recorded W → Recorded W → Type 0) (r : Option (Recorded W)) → ((a : Recorded W) → P a a) → OnBoth P r r
both-same P None same = tt
both-same P (Some r) same = same r

both-weaker : {W : Type 0} (P Q : Recorded W → Recorded W → Type 0) (r s : Option (Recorded W)) → ((a b : Recorded W) → P a b → Q a b) → OnBoth P r s → OnBoth Q r s
both-weaker P Q None None weaker p = tt
both-weaker P Q None (Some s) weaker p = absurd p
both-weaker P Q (Some r) None weaker p = absurd p
both-weaker P Q (Some r) (Some s) weaker p = weaker r s p

-- ---- a recording goes on

-- looking again is looking so often
looked-again : (k m : ℕ) (d : Desktop) (notes : Notes) → (n : ℕ) × (looked (suc k) d (looked m d notes) ≡ looked (suc n) d notes)
unfolding looked
looked-again zero m d notes = (m, refl)
looked-again (suc k) m d notes =
    let before = looked-again k m d notes in (suc before.0, ap (λ (x : Notes). looked_up_to 32 d x) before.1)

looked-still : (k m : ℕ) (d : Desktop) (notes : Notes) → (n : ℕ) × (looked k d (looked m d notes) ≡ looked n d notes)
unfolding looked
looked-still zero m d notes = (m, refl)
looked-still (suc k) m d notes = let again = looked-again k m d notes in (suc again.0, again.1)

looked-nothing : (d : Desktop) (notes : Notes) → notes ≡ looked 0 d notes
unfolding looked
looked-nothing d notes = refl

-- two histories, of which the second begins with looking
record Joined (start : Moment) (before : Notes) (acts : List Act) (events : List Event) (to : Notes) (end : Moment) : Type 0 where
  looks : ℕ
  last : Notes
  history : History start before acts events last end
  same : to ≡ looked looks end.desktop last

history-then : (start there : Moment) (given told before : Notes) (n : ℕ) (a : List Act) (es : List Event) → History start given a es told there → before ≡ looked n there.desktop told
    → (b : List Act) (fs : List Event) (to : Notes) (end : Moment) → History there before b fs to end → Joined start given (a ++ b) (es ++ fs) to end
history-then start there given told before n a es first is _ _ _ _ History.begins = record {
  looks = n;
  last = told;
  history =
      subst (λ (acts : List Act). History start given acts (es ++ []) told there) (sym (append-nil a))
      (subst (λ (events : List Event). History start given a events told there) (sym (append-nil es)) first);
  same = is;
}
history-then start there given told before n a es first is _ _ _ _ (History.goes_on {acts} {events} {notes} {next} {mid} {end} act done own looks history happens parts leads noted) =
    let joined = history-then start there given told before n a es first is acts events notes mid history in
    let again = looked-again looks joined.looks mid.desktop joined.last in
    let from : looked (suc looks) mid.desktop notes ≡ looked (suc again.0) mid.desktop joined.last =
    ap (λ (x : Notes). looked (suc looks) mid.desktop x) joined.same ∙ again.1 in
    let whole = goes_on act done own again.0 joined.history happens parts leads (subst (λ (x : Notes). NotesAct mid.desktop act done x next) from noted) in
    record {
      looks = 0;
      last = next;
      history =
          subst (λ (all : List Act). History start given all (es ++ (events ++ own)) next end) (append_assoc a acts (act ∷ []))
          (subst (λ (all : List Event). History start given ((a ++ acts) ++ act ∷ []) all next end) (append_assoc es events own) whole);
      same = looked-nothing end.desktop next;
    }

-- by no act
goes-none : {W : Type 0} (contents : W → Option (List ℕ)) (m : Moment) (r : Recorded W) → GoesOn contents m [] [] m r r
goes-none contents m r first notes holds = (0, notes, begins, looked-none contents first m.desktop notes r holds)

-- by acts, and then by others
goes-then : {W : Type 0} (contents : W → Option (List ℕ)) (start mid end : Moment) (a b : List Act) (es fs : List Event) (r s t : Recorded W)
    → GoesOn contents start a es mid r s → GoesOn contents mid b fs end s t → GoesOn contents start (a ++ b) (es ++ fs) end r t
goes-then contents start mid end a b es fs r s t one two first notes holds =
    let x = one first notes holds in
    let y = two first (looked x.0 mid.desktop x.1) x.3 in
    let joined = history-then start mid notes x.1 (looked x.0 mid.desktop x.1) x.0 a es x.2 refl b fs y.1 end y.2 in
    let still = looked-still y.0 joined.looks end.desktop joined.last in
    let same : looked y.0 end.desktop y.1 ≡ looked still.0 end.desktop joined.last = ap (λ (n : Notes). looked y.0 end.desktop n) joined.same ∙ still.1 in
    (still.0, joined.last, joined.history, subst (λ (n : Notes). HoldsNotes contents first n t) same y.3)

-- whoever ended is looked at behind that
goes-looking : {W : Type 0} (contents : W → Option (List ℕ)) (start end : Moment) (a : List Act) (es : List Event) (r s t : Recorded W)
    → GoesOn contents start a es end r s → ((first : Option (List ℕ)) (notes : Notes) → HoldsNotes contents first notes s → HoldsNotes contents first (looked_up_to 32 end.desktop notes) t)
    → GoesOn contents start a es end r t
goes-looking contents start end a es r s t goes looks first notes holds =
    let x = goes first notes holds in
    (suc x.0, x.1, x.2, looked-more contents first x.0 end.desktop x.1 t (looks first (looked x.0 end.desktop x.1) x.3))

noted-once : (act : Act) (done : Done) (d : Desktop) (notes next : Notes) → NotesAct d act done (looked_up_to 32 d notes) next → NotesAct d act done (looked (suc 0) d notes) next
unfolding looked
noted-once act done d notes next noted = noted

-- by one act
goes-one : {W : Type 0} (contents : W → Option (List ℕ)) (act : Act) (done : Done) (old new : SessionView) (d : Desktop) (r s : Recorded W) → Agrees old.desk d → (course : Course act done old new d)
    → NotesNext contents old act done r s → GoesOn contents (moment d old) (act ∷ []) course.events (moment course.desktop new) r s
goes-one contents act done old new d r s agrees course noted first notes holds =
    let next = noted d agrees first notes holds in (
      0,
      next.0,
      goes_on {acts = []} {events = []} {notes = notes} act done course.events 0 begins course.happens course.parts course.leads (noted-once act done d notes next.0 next.1),
      looked-none contents first course.desktop next.0 s next.2,
    )

-- ---- the same where there may be none

pub stays-none : {W : Type 0} (contents : W → Option (List ℕ)) (m : Moment) (r : Option (Recorded W)) → OnBoth (GoesOn contents m [] [] m) r r
stays-none contents m r = both-same (GoesOn contents m [] [] m) r (goes-none contents m)

pub goes-one-on : {W : Type 0} (contents : W → Option (List ℕ)) (act : Act) (done : Done) (old new : SessionView) (d : Desktop) (r s : Option (Recorded W)) → Agrees old.desk d → (course : Course act done old new d)
    → OnBoth (NotesNext contents old act done) r s → OnBoth (GoesOn contents (moment d old) (act ∷ []) course.events (moment course.desktop new)) r s
goes-one-on contents act done old new d r s agrees course noted =
    both-weaker (NotesNext contents old act done) (GoesOn contents (moment d old) (act ∷ []) course.events (moment course.desktop new)) r s
    (λ a b next. goes-one contents act done old new d a b agrees course next) noted

pub goes-then-on : {W : Type 0} (contents : W → Option (List ℕ)) (start mid end : Moment) (a b : List Act) (es fs : List Event) (r s t : Option (Recorded W))
    → OnBoth (GoesOn contents start a es mid) r s → OnBoth (GoesOn contents mid b fs end) s t → OnBoth (GoesOn contents start (a ++ b) (es ++ fs) end) r t
goes-then-on contents start mid end a b es fs r s t =
    both-then (GoesOn contents start a es mid) (GoesOn contents mid b fs end) (GoesOn contents start (a ++ b) (es ++ fs) end) r s t (goes-then contents start mid end a b es fs)

pub goes-looking-on : {W : Type 0} (contents : W → Option (List ℕ)) (v : SessionView) (start : Moment) (d : Desktop) (a : List Act) (es : List Event) (r s t : Option (Recorded W)) → Agrees v.desk d
    → OnBoth (GoesOn contents start a es (moment d v)) r s → OnBoth (Looks contents v) s t → OnBoth (GoesOn contents start a es (moment d v)) r t
goes-looking-on contents v start d a es r s t agrees =
    both-then (GoesOn contents start a es (moment d v)) (Looks contents v) (GoesOn contents start a es (moment d v)) r s t
    (λ x y z goes looks. goes-looking contents start (moment d v) a es x y z goes (looks d agrees))

-- ---- what is noted of an act

-- it is noted, whatever desktop it finds
in-any : {W : Type 0} (contents : W → Option (List ℕ)) (v : SessionView) (act : Act) (done : Done) (r s : Option (Recorded W))
    → OnBoth (NotesOf contents act done) r s → OnBoth (NotesIn contents v act done) r s
in-any contents v act done r s = both-weaker (NotesOf contents act done) (NotesIn contents v act done) r s (λ a b notes d agrees. notes d)

-- whoever ended is looked at, and then it is noted
pub noted-in : {W : Type 0} (contents : W → Option (List ℕ)) (v : SessionView) (act : Act) (done : Done) (r s t : Option (Recorded W))
    → OnBoth (Looks contents v) r s → OnBoth (NotesIn contents v act done) s t → OnBoth (NotesNext contents v act done) r t
noted-in contents v act done r s t =
    both-then (Looks contents v) (NotesIn contents v act done) (NotesNext contents v act done) r s t
    (λ a b c looks notes d agrees first before holds. notes d agrees first (looked_up_to 32 d before) (looks d agrees first before holds))

pub noted-behind : {W : Type 0} (contents : W → Option (List ℕ)) (v : SessionView) (act : Act) (done : Done) (r s t : Option (Recorded W))
    → OnBoth (Looks contents v) r s → OnBoth (NotesOf contents act done) s t → OnBoth (NotesNext contents v act done) r t
noted-behind contents v act done r s t looks notes = noted-in contents v act done r s t looks (in-any contents v act done s t notes)

-- the same of one of which nothing is noted
pub noted-silently : {W : Type 0} (contents : W → Option (List ℕ)) (v : SessionView) (act : Act) (done : Done) (r s : Option (Recorded W))
    → OnBoth (Looks contents v) r s → ((d : Desktop) (notes : Notes) → NotesAct d act done notes notes) → OnBoth (NotesNext contents v act done) r s
noted-silently contents v act done r s looks quiet =
    both-weaker (Looks contents v) (NotesNext contents v act done) r s
    (λ a b looks d agrees first before holds. (looked_up_to 32 d before, quiet d (looked_up_to 32 d before), looks d agrees first before holds)) looks

pub flushed-behind : {W : Type 0} (contents : W → Option (List ℕ)) (v : SessionView) (r s t : Option (Recorded W))
    → OnBoth (Looks contents v) r s → OnBoth (Flushes contents) s t → OnBoth (Looks contents v) r t
flushed-behind contents v r s t =
    both-then (Looks contents v) (Flushes contents) (Looks contents v) r s t
    (λ a b c looks flushes d agrees first notes holds. flushes first (looked_up_to 32 d notes) (looks d agrees first notes holds))

pub on-ok : {T E P : Type 0} (r : Result T E) → P → OnOk r P
on-ok (Ok x) p = p
on-ok (Err e) p = tt

-- ---- a session goes on by an act, which is noted

recorded-act : {W : Type 0} (contents : W → Option (List ℕ)) (act : Act) (done : Done) (old new : SessionView) (r s t : Recorded W)
    → IsRecordedBy contents old r → Looks contents old r s → NotesIn contents old act done s t → TakesCourse act done old new → IsRecordedBy contents new t
recorded-act contents act done old new r s t was looks notes takes =
    let course = takes was.desktop was.agrees in
    let seen = looked-more contents was.first was.looks was.desktop was.notes s (looks was.desktop was.agrees was.first (looked was.looks was.desktop was.notes) was.holds) in
    let noted = notes was.desktop was.agrees was.first (looked (suc was.looks) was.desktop was.notes) seen in
    record {
      width = was.width;
      height = was.height;
      start = was.start;
      begun = was.begun;
      acts = was.acts ++ act ∷ [];
      events = was.events ++ course.events;
      notes = noted.0;
      desktop = course.desktop;
      history = goes_on act done course.events was.looks was.history course.happens course.parts course.leads noted.1;
      agrees = course.agrees;
      looks = 0;
      first = was.first;
      holds = looked-none contents was.first course.desktop noted.0 t noted.2;
    }

pub recorded-in : {W : Type 0} (contents : W → Option (List ℕ)) (act : Act) (done : Done) (old new : SessionView) (r s t : Option (Recorded W))
    → IsRecorded contents old r → OnBoth (Looks contents old) r s → OnBoth (NotesIn contents old act done) s t → TakesCourse act done old new → IsRecorded contents new t
recorded-in contents act done old new None None None is looks notes takes = tt
recorded-in contents act done old new None None (Some t) is looks notes takes = absurd notes
recorded-in contents act done old new None (Some s) t is looks notes takes = absurd looks
recorded-in contents act done old new (Some r) None t is looks notes takes = absurd looks
recorded-in contents act done old new (Some r) (Some s) None is looks notes takes = absurd notes
recorded-in contents act done old new (Some r) (Some s) (Some t) is looks notes takes = recorded-act contents act done old new r s t is looks notes takes

pub recorded-on : {W : Type 0} (contents : W → Option (List ℕ)) (act : Act) (done : Done) (old new : SessionView) (r s t : Option (Recorded W))
    → IsRecorded contents old r → OnBoth (Looks contents old) r s → OnBoth (NotesOf contents act done) s t → TakesCourse act done old new → IsRecorded contents new t
recorded-on contents act done old new r s t is looks notes takes = recorded-in contents act done old new r s t is looks (in-any contents old act done s t notes) takes

-- of which nothing is noted
noted-none : {W : Type 0} (contents : W → Option (List ℕ)) (act : Act) (done : Done) (r : Option (Recorded W)) → ((d : Desktop) (notes : Notes) → NotesAct d act done notes notes)
    → OnBoth (NotesOf contents act done) r r
noted-none contents act done None quiet = tt
noted-none contents act done (Some r) quiet = λ d first notes holds. (notes, quiet d notes, holds)

pub recorded-quiet : {W : Type 0} (contents : W → Option (List ℕ)) (act : Act) (done : Done) (old new : SessionView) (r s : Option (Recorded W))
    → IsRecorded contents old r → OnBoth (Looks contents old) r s → ((d : Desktop) (notes : Notes) → NotesAct d act done notes notes) → TakesCourse act done old new → IsRecorded contents new s
recorded-quiet contents act done old new r s is looks quiet takes = recorded-on contents act done old new r s s is looks (noted-none contents act done s quiet) takes

-- ---- what was written isn't held back

flushed-by : {W : Type 0} (contents : W → Option (List ℕ)) (v : SessionView) (r s t : Recorded W)
    → IsRecordedBy contents v r → Looks contents v r s → Flushes contents s t → IsRecordedBy contents v t
flushed-by contents v r s t was looks flushes = record {
  width = was.width;
  height = was.height;
  start = was.start;
  begun = was.begun;
  acts = was.acts;
  events = was.events;
  notes = was.notes;
  desktop = was.desktop;
  history = was.history;
  agrees = was.agrees;
  looks = suc was.looks;
  first = was.first;
  holds = flushes was.first (looked (suc was.looks) was.desktop was.notes)
      (looked-more contents was.first was.looks was.desktop was.notes s (looks was.desktop was.agrees was.first (looked was.looks was.desktop was.notes) was.holds));
}

pub recorded-flushed : {W : Type 0} (contents : W → Option (List ℕ)) (v : SessionView) (r s t : Option (Recorded W))
    → IsRecorded contents v r → OnBoth (Looks contents v) r s → OnBoth (Flushes contents) s t → IsRecorded contents v t
recorded-flushed contents v None None None is looks flushes = tt
recorded-flushed contents v None None (Some t) is looks flushes = absurd flushes
recorded-flushed contents v None (Some s) t is looks flushes = absurd looks
recorded-flushed contents v (Some r) None t is looks flushes = absurd looks
recorded-flushed contents v (Some r) (Some s) None is looks flushes = absurd flushes
recorded-flushed contents v (Some r) (Some s) (Some t) is looks flushes = flushed-by contents v r s t is looks flushes

-- ---- nothing was asked yet

nothing-held : {W : Type 0} (contents : W → Option (List ℕ)) (writer : W)
    → HoldsTo 1000000 contents (contents writer) [] (record { written = record { writer = writer; lines = 0 }; clients = replicate 32 None; has_failed = false })
nothing-held contents writer = OnFalse_from false _ (λ whole. record { lines = refl; text = Appends-nil (contents writer) })

pub recorded-new : {W : Type 0} (contents : W → Option (List ℕ)) (v : SessionView) (width height : ℕ) (writer : W) (r : Recorded W)
    → Agrees v.desk (empty (record { width = width; height = height }))
    → r ≡ record { written = record { writer = writer; lines = 0 }; clients = replicate 32 None; has_failed = false } → IsRecordedBy contents v r
recorded-new contents v width height writer r fresh is = record {
  width = width;
  height = height;
  start = v;
  begun = fresh;
  acts = [];
  events = [];
  notes = no_notes;
  desktop = empty (record { width = width; height = height });
  history = begins;
  agrees = fresh;
  looks = 0;
  first = contents writer;
  holds = looked-none contents (contents writer) (empty (record { width = width; height = height })) no_notes r
      (subst (HoldsNotes contents (contents writer) no_notes) (sym is) (record { clients = refl; holds = nothing-held contents writer }));
}

-- ---- who ended

held-alike : {W : Type 0} (contents : W → Option (List ℕ)) (first : Option (List ℕ)) (asked : List Asked) (s t : Recorded W)
    → t.written ≡ s.written → t.has_failed ≡ s.has_failed → HoldsTo 1000000 contents first asked s → HoldsTo 1000000 contents first asked t
held-alike contents first asked s t written failed holds = rw (written, failed) holds

-- its number is free
pub left-behind : {W : Type 0} (contents : W → Option (List ℕ)) (client : ℕ) (s t : Recorded W)
    → t.written ≡ s.written → t.has_failed ≡ s.has_failed → t.clients ≡ left client s.clients
    → (first : Option (List ℕ)) (notes : Notes) → HoldsNotes contents first notes s
    → HoldsNotes contents first (record notes { clients = left client notes.clients }) t
left-behind contents client s t written failed clients first notes holds = record {
  clients = clients ∙ ap (left client) holds.clients;
  holds = held-alike contents first notes.asked s t written failed holds.holds;
}

-- the same of one of which nothing more is to be said
pub left-silently : {W : Type 0} (contents : W → Option (List ℕ)) (client : ℕ) (s t : Recorded W)
    → t.written ≡ s.written → t.has_failed ≡ s.has_failed → t.clients ≡ left client s.clients
    → (first : Option (List ℕ)) (notes : Notes) → HoldsNotes contents first notes s
    → HoldsNotes contents first (record { asked = notes.asked ++ []; clients = left client notes.clients }) t
left-silently contents client s t written failed clients first notes holds =
    subst (λ (a : List Asked). HoldsNotes contents first (record { asked = a; clients = left client notes.clients }) t) (sym (append-nil notes.asked))
    (left-behind contents client s t written failed clients first notes holds)

-- it goes, and its number is free
pub gone-and-left : {W : Type 0} (contents : W → Option (List ℕ)) (client : ℕ) (r s t : Recorded W)
    → ((first : Option (List ℕ)) (asked : List Asked) → HoldsTo 1000000 contents first asked r → HoldsTo 1000000 contents first (asked ++ goes (number_of client r.clients)) s)
    → s.clients ≡ r.clients → t.written ≡ s.written → t.has_failed ≡ s.has_failed → t.clients ≡ left client s.clients
    → (first : Option (List ℕ)) (notes : Notes) → HoldsNotes contents first notes r
    → HoldsNotes contents first (record { asked = notes.asked ++ goes (number_of client notes.clients); clients = left client notes.clients }) t
gone-and-left contents client r s t gone same written failed clients first notes holds = record {
  clients = clients ∙ ap (left client) (same ∙ holds.clients);
  holds = subst (λ (cs : List (Option ℕ)). HoldsTo 1000000 contents first (notes.asked ++ goes (number_of client cs)) t) holds.clients
      (held-alike contents first (notes.asked ++ goes (number_of client r.clients)) s t written failed (gone first notes.asked holds.holds));
}

-- What a viewer asks, done one after another.
use Rattle.std.proofs.Common.{◌≡◌, ◌<◌, ◌≤◌, ℕ, ℤ, Bool, true, false, List, [], ◌∷◌, ◌++◌, Option, None, Some, drop, length, refl, ap, ap₂, sym, ◌∙◌, subst, inl, inr, arith, append_assoc}
use Rattle.std.specs.Prelude.{◌⊎◌, ◌||◌, is_some}
use Rattle.std.proofs.lemmas.Bool.{true≢false}
use Rattle.spec_desktop.specs.Act as act
use Rattle.spec_desktop.specs.Act.{Act}
use Rattle.spec_desktop.specs.Desktop.{Desktop}
use Rattle.spec_desktop.specs.declared.answers.Done.TheVariants as gave
use Rattle.wl_session.specs.Agreeing.{Agrees}
use Rattle.wl_viewer.specs.Hearing.{asked_after, asks, heard_after}
use Rattle.wl_viewer.specs.View.{ViewerView}
use Rattle.wl_viewer.specs.declared.asked.Asked.{Asked}
use Rattle.wl_viewer.specs.declared.asked.Asked.TheVariants as asked
use Rattle.wl_viewer.specs.declared.texts.WindowLine.{WindowLine}
use Rattle.wl_session.specs.Course.{moment}
use Rattle.wl_server.specs.Acting.{InTurn, Stretch, Takes, Then}
use Rattle.wl_server.specs.Recorded.{RecordedView}
use Rattle.wl_server.specs.Viewed.{AttendsIf, Hears, Welcomes}
use Rattle.wl_server.specs.Watching.{AcceptsOne, Answering, Answers, AnswersUnless, Attends, Dismisses, DismissesIf, Does, Ends, IfWatched, IsLeft, Link, Place, Reads, SendsUnless, StopsTaking, TakesNone, TakesOnce, TakesPiece, Waits, Watching, Writes, Writing, act_of, acts_of, heard_by, is_dismissed, lines_of, releases}
use Rattle.wl_server.specs.Moves.{Delivers}
use Rattle.wl_server.specs.Ways.{Ways}
use Rattle.wl_server.proofs.Taking.{TakesNoted, Takes-both, Takes-is, Takes-none, Takes-one, Takes-then, Takes-weaker, idle, idle-is}

pub does-none : {Writer : Type 0} {contents : Writer → Option (List ℕ)} (old new : RecordedView Writer) → new ≡ old → Takes contents (Does []) old new
does-none old new same = Takes-none (Does []) old new same (λ d agrees. refl)

pub does-then : {Writer : Type 0} {contents : Writer → Option (List ℕ)} (a b all : List Act) (old mid new : RecordedView Writer) → a ++ b ≡ all → Takes contents (Does a) old mid → Takes contents (Does b) mid new → Takes contents (Does all) old new
does-then a b all old mid new is first next =
    Takes-then (Does a) (Does b) (Does all) old mid new first next (λ start d e x y es fs ad ae leads goes p q. ap₂ (λ (m n : List Act). m ++ n) p q ∙ is)

-- ---- one act

pub does-motion : {Writer : Type 0} {contents : Writer → Option (List ℕ)} (one : Asked) (time : ℕ) (x y : ℤ) (old new : RecordedView Writer) → one ≡ asked.Motion x y → TakesNoted contents (act.Motion time x y) gave.Motion old new
    → Takes contents (Does (act_of time one)) old new
does-motion one time x y old new is course =
    Takes-is (λ (a : Asked). Does (act_of time a)) (asked.Motion x y) one old new (sym is)
    (Takes-one (Does (act.Motion time x y ∷ [])) (act.Motion time x y) gave.Motion old new course (λ d e events agrees parts. refl))

pub does-button : {Writer : Type 0} {contents : Writer → Option (List ℕ)} (one : Asked) (time code : ℕ) (pressed : Bool) (old new : RecordedView Writer) → one ≡ asked.Button code pressed
    → TakesNoted contents (act.Button time code pressed) gave.Button old new → Takes contents (Does (act_of time one)) old new
does-button one time code pressed old new is course =
    Takes-is (λ (a : Asked). Does (act_of time a)) (asked.Button code pressed) one old new (sym is)
    (Takes-one (Does (act.Button time code pressed ∷ [])) (act.Button time code pressed) gave.Button old new course (λ d e events agrees parts. refl))

-- ---- the bytes of a piece

-- those before this place were taken
pub record TakenTo {Writer : Type 0} (contents : Writer → Option (List ℕ)) (time : ℕ) (bytes left : List ℕ) (first now : ViewerView) (old new : RecordedView Writer) : Type 0 where
  pub done : List Act
  pub takes : Takes contents (Does done) old new
  pub acts : done ++ acts_of time (asks now.heard left) ≡ acts_of time (asks first.heard bytes)
  pub heard : heard_by left now ≡ heard_by bytes first

pub taken-none : {Writer : Type 0} {contents : Writer → Option (List ℕ)} (time : ℕ) (bytes : List ℕ) (first : ViewerView) (v : RecordedView Writer) → TakenTo contents time bytes bytes first first v v
taken-none time bytes first v = record { done = []; takes = does-none v v refl; acts = refl; heard = refl }

more-of : {Writer : Type 0} {contents : Writer → Option (List ℕ)} (time : ℕ) (bytes more : List ℕ) (byte : ℕ) (first now : ViewerView) (old mid new : RecordedView Writer)
    → Takes contents (Does (act_of time (asked_after now.heard byte))) mid new → TakenTo contents time bytes (byte ∷ more) first now old mid
    → TakenTo contents time bytes more first (record now { heard = heard_after now.heard byte }) old new
more-of time bytes more byte first now old mid new does to = record {
  done = to.done ++ act_of time (asked_after now.heard byte);
  takes = does-then to.done (act_of time (asked_after now.heard byte)) _ old mid new refl to.takes does;
  acts =
      append_assoc to.done (act_of time (asked_after now.heard byte)) (acts_of time (asks (heard_after now.heard byte) more)) ∙ to.acts;
  heard = to.heard;
}

pub taken-more : {Writer : Type 0} {contents : Writer → Option (List ℕ)} (time : ℕ) (bytes left more : List ℕ) (byte : ℕ) (one : Asked) (first now next : ViewerView) (old mid new : RecordedView Writer) → left ≡ byte ∷ more
    → one ≡ asked_after now.heard byte → next ≡ record now { heard = heard_after now.heard byte } → Takes contents (Does (act_of time one)) mid new
    → TakenTo contents time bytes left first now old mid → TakenTo contents time bytes more first next old new
taken-more {Writer} {contents} time bytes left more byte one first now next old mid new is asks heard does to =
    subst (λ (v : ViewerView). TakenTo contents time bytes more first v old new) (sym heard)
    (more-of time bytes more byte first now old mid new (Takes-is (λ (a : Asked). Does (act_of time a)) one (asked_after now.heard byte) mid new asks does)
    (subst (λ (l : List ℕ). TakenTo contents time bytes l first now old mid) is to))

append-none : (xs : List Act) → xs ++ [] ≡ xs
append-none [] = refl
append-none (x ∷ xs) = ap (λ (ys : List Act). x ∷ ys) (append-none xs)

at-end : {Writer : Type 0} {contents : Writer → Option (List ℕ)} (time : ℕ) (bytes : List ℕ) (first now : ViewerView) (old new : RecordedView Writer) → TakenTo contents time bytes [] first now old new
    → Takes contents (Does (acts_of time (asks first.heard bytes))) old new
at-end time bytes first now old new to =
    Takes-is (λ (acts : List Act). Does acts) to.done (acts_of time (asks first.heard bytes)) old new (sym (append-none to.done) ∙ to.acts) to.takes

pub taken-all : {Writer : Type 0} {contents : Writer → Option (List ℕ)} (time : ℕ) (bytes left : List ℕ) (first now : ViewerView) (old new : RecordedView Writer) → left ≡ [] → TakenTo contents time bytes left first now old new
    → Takes contents (Does (acts_of time (asks first.heard bytes))) old new
taken-all {Writer} {contents} time bytes left first now old new is to =
    at-end time bytes first now old new (subst (λ (l : List ℕ). TakenTo contents time bytes l first now old new) is to)

pub heard-all : {Writer : Type 0} {contents : Writer → Option (List ℕ)} (time : ℕ) (bytes left : List ℕ) (first now : ViewerView) (old new : RecordedView Writer) → left ≡ [] → TakenTo contents time bytes left first now old new
    → now ≡ heard_by bytes first
heard-all {Writer} {contents} time bytes left first now old new is to =
    let last : TakenTo contents time bytes [] first now old new = subst (λ (l : List ℕ). TakenTo contents time bytes l first now old new) is to in last.heard

-- ---- buttons that are released

-- those before this place were
pub record ReleasedTo {Writer : Type 0} (contents : Writer → Option (List ℕ)) (time : ℕ) (buttons left : List ℕ) (old new : RecordedView Writer) : Type 0 where
  pub done : List Act
  pub takes : Takes contents (Does done) old new
  pub acts : done ++ releases time left ≡ releases time buttons

pub released-none : {Writer : Type 0} {contents : Writer → Option (List ℕ)} (time : ℕ) (buttons : List ℕ) (v : RecordedView Writer) → ReleasedTo contents time buttons buttons v v
released-none time buttons v = record { done = []; takes = does-none v v refl; acts = refl }

one-released : {Writer : Type 0} {contents : Writer → Option (List ℕ)} (time : ℕ) (buttons more : List ℕ) (code : ℕ) (old mid new : RecordedView Writer) → Takes contents (Does (act.Button time code false ∷ [])) mid new
    → ReleasedTo contents time buttons (code ∷ more) old mid → ReleasedTo contents time buttons more old new
one-released time buttons more code old mid new does to = record {
  done = to.done ++ act.Button time code false ∷ [];
  takes = does-then to.done (act.Button time code false ∷ []) _ old mid new refl to.takes does;
  acts = append_assoc to.done (act.Button time code false ∷ []) (releases time more) ∙ to.acts;
}

pub released-more : {Writer : Type 0} {contents : Writer → Option (List ℕ)} (time : ℕ) (buttons left more : List ℕ) (code : ℕ) (old mid new : RecordedView Writer) → left ≡ code ∷ more
    → TakesNoted contents (act.Button time code false) gave.Button mid new → ReleasedTo contents time buttons left old mid → ReleasedTo contents time buttons more old new
released-more {Writer} {contents} time buttons left more code old mid new is course to =
    one-released time buttons more code old mid new
    (Takes-one (Does (act.Button time code false ∷ [])) (act.Button time code false) gave.Button mid new course (λ d e events agrees parts. refl))
    (subst (λ (l : List ℕ). ReleasedTo contents time buttons l old mid) is to)

pub released-all : {Writer : Type 0} {contents : Writer → Option (List ℕ)} (time : ℕ) (buttons left : List ℕ) (old new : RecordedView Writer) → left ≡ [] → ReleasedTo contents time buttons left old new
    → Takes contents (Does (releases time buttons)) old new
released-all {Writer} {contents} time buttons left old new is to =
    let last : ReleasedTo contents time buttons [] old new = subst (λ (l : List ℕ). ReleasedTo contents time buttons l old new) is to in
    Takes-is (λ (acts : List Act). Does acts) last.done (releases time buttons) old new (sym (append-none last.done) ∙ last.acts) last.takes

-- ---- reads, one after another

pub reads-stop : {V D : Type 0} {Writer : Type 0} {contents : Writer → Option (List ℕ)} (w : Ways V D) (time n : ℕ) (from mid to : Link V D) (old between new : RecordedView Writer) → n < 16
    → Takes contents (InTurn (λ k. TakesPiece w time) n from mid) old between → Takes contents (TakesNone w mid to) between new → Takes contents (Reads w time from to) old new
reads-stop w time n from mid to old between new few first last =
    Takes-weaker (Then (InTurn (λ k. TakesPiece w time) n) (StopsTaking w n) from to) (Reads w time from to) old new
    (Takes-both (InTurn (λ k. TakesPiece w time) n) (StopsTaking w n) from mid to old between new first
    (Takes-weaker (TakesNone w mid to) (StopsTaking w n mid to) between new last (λ d e a es ad ae runs p. inr (few, p))))
    (λ d e a es ad ae runs p. (n, omega (arith, few), p))

pub reads-all : {V D : Type 0} {Writer : Type 0} {contents : Writer → Option (List ℕ)} (w : Ways V D) (time n : ℕ) (from to : Link V D) (old new : RecordedView Writer) → n ≡ 16
    → Takes contents (InTurn (λ k. TakesPiece w time) n from to) old new → Takes contents (Reads w time from to) old new
reads-all w time n from to old new all first =
    Takes-weaker (Then (InTurn (λ k. TakesPiece w time) n) (StopsTaking w n) from to) (Reads w time from to) old new
    (Takes-both (InTurn (λ k. TakesPiece w time) n) (StopsTaking w n) from to to old new new first
    (Takes-none (StopsTaking w n to to) new new refl (λ d agrees. inl (all, idle to (moment d new.session)))))
    (λ d e a es ad ae runs p. (n, omega (arith, all), p))

-- ---- one read

pub takes-piece : {V D : Type 0} {Writer : Type 0} {contents : Writer → Option (List ℕ)} (w : Ways V D) (time : ℕ) (piece : List ℕ) (conn : D) (hub next : V) (watching later : Watching D) (old new : RecordedView Writer) → watching.has_failed ≡ false
    → watching.viewer.heard.is_bad ≡ false → 0 < length piece → length piece ≤ 4096 → w.reads hub watching.conn (Some piece) next conn → w.faults next ≡ w.faults hub
    → later ≡ record watching { conn = conn; viewer = heard_by piece watching.viewer }
    → Takes contents (Does (acts_of time (asks watching.viewer.heard piece))) old new
    → Takes contents (TakesOnce w time true (hub, watching) (next, later)) old new
takes-piece w time piece conn hub next watching later old new goes_on fine some few reads calm kept does =
    Takes-weaker (Does (acts_of time (asks watching.viewer.heard piece))) (TakesOnce w time true (hub, watching) (next, later)) old new does
    (λ d e a es ad ae runs p. record {
      conn = conn;
      piece = piece;
      goes_on = goes_on;
      is_fine = fine;
      some = some;
      few = few;
      reads = reads;
      calm = calm;
      kept = kept;
      acts_are = p;
    })

pub takes-none : {V D : Type 0} {Writer : Type 0} {contents : Writer → Option (List ℕ)} (w : Ways V D) (time : ℕ) (from to : Link V D) (v : RecordedView Writer) → IsLeft from to ⊎ (Waits w from to ⊎ Ends w from to)
    → Takes contents (TakesOnce w time false from to) v v
takes-none w time from to v why = Takes-none (TakesOnce w time false from to) v v refl (λ d agrees. (refl, why))

-- ---- with somebody at the place, and with nobody

pub watched : {V D : Type 0} {Writer : Type 0} {contents : Writer → Option (List ℕ)} (P : Link V D → Link V D → Stretch) (hub next : V) (place : Option (Watching D)) (watching later : Watching D) (old new : RecordedView Writer) → place ≡ Some watching
    → Takes contents (P (hub, watching) (next, later)) old new → Takes contents (IfWatched P (hub, place) (next, Some later)) old new
watched {V} {D} {Writer} {contents} P hub next place watching later old new is takes =
    subst (λ (s : Option (Watching D)). Takes contents (IfWatched P (hub, s) (next, Some later)) old new) (sym is)
    (Takes-weaker (P (hub, watching) (next, later)) (IfWatched P (hub, Some watching) (next, Some later)) old new takes (λ d e a es ad ae runs p. (later, p, refl)))

pub unwatched : {V D : Type 0} {Writer : Type 0} {contents : Writer → Option (List ℕ)} (P : Link V D → Link V D → Stretch) (hub : V) (place : Option (Watching D)) (v : RecordedView Writer) → place ≡ None
    → Takes contents (IfWatched P (hub, place) (hub, place)) v v
unwatched {V} {D} {Writer} {contents} P hub place v is =
    subst (λ (s : Option (Watching D)). Takes contents (IfWatched P (hub, s) (hub, s)) v v) (sym is)
    (Takes-none (IfWatched P (hub, None) (hub, None)) v v refl (λ d agrees. idle (hub, None) (moment d v.session)))

-- something that is no act
pub writing : {V D : Type 0} {Writer : Type 0} {contents : Writer → Option (List ℕ)} (w : Ways V D) (from to : Link V D) (v : RecordedView Writer) → Writes w from to → Takes contents (Writing w from to) v v
writing w from to v writes = Takes-none (Writing w from to) v v refl (λ d agrees. ((refl, refl, refl), writes))

pub answering : {V D : Type 0} {Writer : Type 0} {contents : Writer → Option (List ℕ)} (time : ℕ) (hub : V) (old new : Watching D) (v : RecordedView Writer) → ((d : Desktop) → Agrees v.session.desk d → Answers (lines_of d) time old new)
    → Takes contents (Answering time (hub, old) (hub, new)) v v
answering time hub old new v answers =
    Takes-none (Answering time (hub, old) (hub, new)) v v refl (λ d agrees. ((refl, refl, refl), refl, answers d agrees))

pub welcomes : {V D : Type 0} {Writer : Type 0} {contents : Writer → Option (List ℕ)} (w : Ways V D) (width height : ℕ) (is_new : Bool) (from to : Place V D) (v : RecordedView Writer) → AcceptsOne w width height is_new from to
    → Takes contents (Welcomes w width height is_new from to) v v
welcomes w width height is_new from to v accepts = Takes-none (Welcomes w width height is_new from to) v v refl (λ d agrees. ((refl, refl, refl), accepts))

-- ---- it may lose its place

pub nobody-dismissed : {V D : Type 0} {Writer : Type 0} {contents : Writer → Option (List ℕ)} (w : Ways V D) (time : ℕ) (hub : V) (place next : Option (Watching D)) (v : RecordedView Writer) → place ≡ None → next ≡ None
    → Takes contents (Dismisses w time (hub, place) (hub, next)) v v
nobody-dismissed {V} {D} {Writer} {contents} w time hub place next v is none =
    subst (λ (p : Option (Watching D)). Takes contents (Dismisses w time (hub, p) (hub, next)) v v) (sym is)
    (Takes-none (Dismisses w time (hub, None) (hub, next)) v v refl (λ d agrees. idle-is (hub, None) (hub, next) (moment d v.session) (moment d v.session) (ap (λ (p : Option (Watching D)). (hub, p)) none) refl))

pub stays-there : {V D : Type 0} {Writer : Type 0} {contents : Writer → Option (List ℕ)} (w : Ways V D) (time : ℕ) (hub : V) (place next : Option (Watching D)) (watching : Watching D) (v : RecordedView Writer) → place ≡ Some watching → next ≡ Some watching
    → is_dismissed watching ≡ false → Takes contents (Dismisses w time (hub, place) (hub, next)) v v
stays-there {V} {D} {Writer} {contents} w time hub place next watching v is same stays =
    subst (λ (p : Option (Watching D)). Takes contents (Dismisses w time (hub, p) (hub, next)) v v) (sym is)
    (Takes-none (Dismisses w time (hub, Some watching) (hub, next)) v v refl
    (λ d agrees. subst (λ (b : Bool). DismissesIf b w time hub watching (hub, next) (moment d v.session) [] [] (moment d v.session)) (sym stays)
    (idle-is (hub, Some watching) (hub, next) (moment d v.session) (moment d v.session) (ap (λ (p : Option (Watching D)). (hub, p)) same) refl)))

pub loses-place : {V D : Type 0} {Writer : Type 0} {contents : Writer → Option (List ℕ)} (w : Ways V D) (time : ℕ) (hub later : V) (place next : Option (Watching D)) (watching : Watching D) (old new : RecordedView Writer) → place ≡ Some watching → next ≡ None
    → is_dismissed watching ≡ true → w.closes hub watching.conn later → w.faults later ≡ w.faults hub
    → Takes contents (Does (releases time watching.viewer.heard.held)) old new → Takes contents (Dismisses w time (hub, place) (later, next)) old new
loses-place {V} {D} {Writer} {contents} w time hub later place next watching old new is none gone closes calm does =
    subst (λ (p : Option (Watching D)). Takes contents (Dismisses w time (hub, p) (later, next)) old new) (sym is)
    (Takes-weaker (Does (releases time watching.viewer.heard.held)) (Dismisses w time (hub, Some watching) (later, next)) old new does
    (λ d e a es ad ae runs p. subst (λ (b : Bool). DismissesIf b w time hub watching (later, next) (moment d old.session) a es (moment e new.session)) (sym gone) (p, none, closes, calm)))

-- ---- hearing

pub attends-if : {V D : Type 0} {Writer : Type 0} {contents : Writer → Option (List ℕ)} (b : Bool) (w : Ways V D) (time : ℕ) (from to : Place V D) (old new : RecordedView Writer) → b ≡ true → Takes contents (Attends w time from to) old new
    → Takes contents (AttendsIf b w time from to) old new
attends-if {V} {D} {Writer} {contents} b w time from to old new is takes = subst (λ (c : Bool). Takes contents (AttendsIf c w time from to) old new) (sym is) takes

pub attends-not : {V D : Type 0} {Writer : Type 0} {contents : Writer → Option (List ℕ)} (b : Bool) (w : Ways V D) (time : ℕ) (from : Place V D) (v : RecordedView Writer) → b ≡ false → Takes contents (AttendsIf b w time from from) v v
attends-not {V} {D} {Writer} {contents} b w time from v is =
    subst (λ (c : Bool). Takes contents (AttendsIf c w time from from) v v) (sym is)
    (Takes-none (AttendsIf false w time from from) v v refl (λ d agrees. idle from (moment d v.session)))

pub hears : {V D : Type 0} {Writer : Type 0} {contents : Writer → Option (List ℕ)} (w : Ways V D) (time width height : ℕ) (is_new : Bool) (q0 q1 q2 q3 : Place V D) (v0 v1 v2 : RecordedView Writer) → Takes contents (Attends w time q0 q1) v0 v1
    → AcceptsOne w width height is_new q1 q2 → Takes contents (AttendsIf is_new w time q2 q3) v1 v2 → Takes contents (Hears w time width height is_new q0 q3) v0 v2
hears w time width height is_new q0 q1 q2 q3 v0 v1 v2 first accepts last =
    Takes-both (Attends w time) (Then (Welcomes w width height is_new) (AttendsIf is_new w time)) q0 q1 q3 v0 v1 v2 first
    (Takes-both (Welcomes w width height is_new) (AttendsIf is_new w time) q1 q2 q3 v1 v1 v2 (welcomes w width height is_new q1 q2 v1 accepts) last)

-- ---- it is written to

pub writes-none : {V D : Type 0} (w : Ways V D) (from : Link V D) → from.1.has_failed ≡ true → Writes w from from
writes-none w from failed = subst (λ (b : Bool). SendsUnless b w from from) (sym failed) refl

pub sends : {V D : Type 0} (w : Ways V D) (hub next : V) (watching : Watching D) (conn : D) (later : ViewerView) (bytes : List ℕ) (sent : ℕ) (is_gone : Bool) → watching.has_failed ≡ false
    → bytes ≡ watching.viewer.out → later ≡ record watching.viewer { out = drop sent watching.viewer.out }
    → Delivers w.writes w.faults hub watching.conn bytes sent is_gone next conn
    → Writes w (hub, watching) (next, record watching { conn = conn; viewer = later; has_failed = is_gone })
sends w hub next watching conn later bytes sent is_gone fine are kept delivers =
    subst (λ (b : Bool). SendsUnless b w (hub, watching) (next, record watching { conn = conn; viewer = later; has_failed = is_gone })) (sym fine)
    (record {
      sent = sent;
      is_gone = is_gone;
      conn = conn;
      delivers = subst (λ (l : List ℕ). Delivers w.writes w.faults hub watching.conn l sent is_gone next conn) are delivers;
      kept = ap (λ (v : ViewerView). record watching { conn = conn; viewer = v; has_failed = is_gone }) kept;
    })

-- ---- answers

pub answers-none : {D : Type 0} (windows : List WindowLine) (time : ℕ) (old : Watching D) → old.has_failed ≡ true → Answers windows time old old
answers-none windows time old failed = subst (λ (b : Bool). AnswersUnless b windows time old old) (sym failed) refl

-- ---- one of two truths

pub one-of : (a b : Bool) → (a || b) ≡ true → (a ≡ true) ⊎ (b ≡ true)
one-of true b e = inl refl
one-of false b e = inr e

pub neither-left : (a b : Bool) → (a || b) ≡ false → a ≡ false
neither-left true b e = absurd (true≢false e)
neither-left false b e = refl

pub neither-right : (a b : Bool) → (a || b) ≡ false → b ≡ false
neither-right true b e = absurd (true≢false e)
neither-right false b e = e

pub is-none : {X : Type 0} (o : Option X) → is_some o ≡ false → o ≡ None
is-none None e = refl
is-none (Some x) e = absurd (true≢false e)

pub releasing : {Writer : Type 0} {contents : Writer → Option (List ℕ)} (time : ℕ) (given held : List ℕ) (old new : RecordedView Writer) → given ≡ held → Takes contents (Does (releases time given)) old new → Takes contents (Does (releases time held)) old new
releasing time given held old new same takes = Takes-is (λ (buttons : List ℕ). Does (releases time buttons)) given held old new same takes

pub writes-is : {V D : Type 0} (w : Ways V D) (hub : V) (old now : Watching D) (to : Link V D) → old ≡ now → Writes w (hub, old) to → Writes w (hub, now) to
writes-is {V} {D} w hub old now to same writes = subst (λ (v : Watching D). Writes w (hub, v) to) same writes

pub once-is : {V D : Type 0} {Writer : Type 0} {contents : Writer → Option (List ℕ)} (w : Ways V D) (time : ℕ) (more : Bool) (hub : V) (old now : Watching D) (to : Link V D) (v0 v1 : RecordedView Writer) → old ≡ now
    → Takes contents (TakesOnce w time more (hub, old) to) v0 v1 → Takes contents (TakesOnce w time more (hub, now) to) v0 v1
once-is {V} {D} {Writer} {contents} w time more hub old now to v0 v1 same takes = subst (λ (v : Watching D). Takes contents (TakesOnce w time more (hub, v) to) v0 v1) same takes

-- What is told of what a session does, joined of what is told one after another.
use Rattle.std.proofs.Common.{◌≡◌, ◌<◌, ℕ, zero, suc, Bool, true, false, Option, Result, Ok, Err, List, length, ◌+◌, [], ◌∷◌, ◌++◌, refl, ap, sym, subst, ◌∙◌, inl, inr, arith, append-nil}
use Rattle.std.proofs.Common.{append_assoc}
use Rattle.std.specs.Prelude.{OnOk, is_ok, replicate, map}
use Rattle.std.proofs.lemmas.Bool.{true≢false}
use Rattle.std.specs.List.{AllPass}
use Rattle.std.specs.Io.KnownBytes.{Appends}
use Rattle.std.proofs.KnownBytes.{Appends-nil, Appends-trans}
use Rattle.std.proofs.lemmas.List.Elements.{All-append, All-cons, All-head, All-map, All-nil, All-tail, All-weaker}
use Rattle.spec_desktop.specs.Act.{Act, Connect, Feed, Store, Leave, Tick, Send, Close, Motion, Button}
use Rattle.spec_desktop.specs.Happenings.{Happening, Message, Receive, Single, Starve}
use Rattle.spec_desktop.specs.declared.answers.Done.{Done}
use Rattle.spec_desktop.specs.declared.answers.Done.TheVariants as gave
use Rattle.wl_session.specs.Course.{AreParts, Runs, TakesCourse, happenings, moment}
use Rattle.wl_session.specs.Agreeing.{Agrees}
use Rattle.spec_desktop.specs.Desktop.{Desktop}
use Rattle.wl_session.specs.Events.{AreEvents, Event, Moment}
use Rattle.std.proofs.Common.{None, Some}
use Rattle.wl_server.specs.declared.seat.Seat.{Seat}
use Rattle.wl_recording.specs.Side.{Files}
use Rattle.wl_recording.specs.declared.pointer.PointerLine.{PointerLine}
use Rattle.wl_recording.specs.declared.pointer.PointerLine.TheVariants as line
use Rattle.wl_recording.specs.declared.range.StoreRange.{StoreRange}
use Rattle.wl_server.specs.Acting.{InTurn, Stretch, Takes}
use Rattle.wl_session.specs.View.{SessionView}
use Rattle.wl_recording.specs.Recording.{Recorded}
use Rattle.wl_server.specs.Recorded.{Looks, NotesOf, OnBoth, RecordedView}
use Rattle.wl_server.proofs.Histories.{noted-behind}
use Rattle.wl_server.specs.Due.{asked_of}
use Rattle.wl_server.specs.Phases.{Accepts, AcceptsAll, AtSeat, Closes, ClosesIf, EndsReading, Fills, FillsAs, FillsIf, FillsSeat, FillsUpTo, IfSeated, Link, Place, Points, PutsSized, Reads, ReadsClient, ReadsUntil, IsSixteen, Shows, StopsReading, Writes, WritesClient, WritesSome, leaves_if}
use Rattle.wl_server.specs.Filling.{PutsIf, PutsPart, puts_from}
use Rattle.wl_server.specs.Ranges.{PutsRangeIn, PutsRanges}
use Rattle.wl_server.specs.Ways.{Ways}
use Rattle.wl_server.specs.Telling.{Reports, Telling, Tells, TellsFrame, gathered, if_painted, pictured, reported}
use Rattle.wl_server.proofs.Taking.{Joins, Takes-one, TakesNoted, Weakens, went-looking, went-none, went-one, went-then}

-- ---- events one after another

gathered-then : (tell : Telling) (a b : List Event) → gathered tell (a ++ b) ≡ gathered tell a ++ gathered tell b
gathered-then tell [] b = refl
gathered-then tell (e ∷ es) b =
    ap (λ (more : List ℕ). tell e.happening e.before e.after ++ more) (gathered-then tell es b)
    ∙ sym (append_assoc (tell e.happening e.before e.after) (gathered tell es) (gathered tell b))

appends-then : (tell : Telling) (a b : List Event) (x y z : Option (List ℕ)) → Appends x y (gathered tell a) → Appends y z (gathered tell b) → Appends x z (gathered tell (a ++ b))
appends-then tell a b x y z first next = subst (Appends x z) (sym (gathered-then tell a b)) (Appends-trans x y z (gathered tell a) (gathered tell b) first next)

head_or : Happening → List Happening → Happening
head_or other [] = other
head_or other (h ∷ hs) = h

-- what is told of a step that is one event
pub told-single : (tell : Telling) (h : Happening) (from to : Moment) (events : List Event) → happenings events ≡ h ∷ [] → AreEvents from events to
    → gathered tell events ≡ tell h from to
unfolding head_or
told-single tell h from to [] parts leads = absurd (cc)
told-single tell h from to (e ∷ (f ∷ fs)) parts leads = absurd (cc)
told-single tell h from to (e ∷ []) parts leads =
    let is : e.happening ≡ h = ap (λ (hs : List Happening). head_or h hs) parts in
    append-nil (tell e.happening e.before e.after)
    ∙ (ap (λ (k : Happening). tell k e.before e.after) is ∙ (ap (λ (m : Moment). tell h m e.after) leads.0 ∙ ap (λ (m : Moment). tell h from m) (sym leads.2)))

-- ---- steps of which nothing is told

unfoldable pub quiet_of : (Act → Bool) → Happening → Bool
quiet_of quiet (Receive client piece) = true
quiet_of quiet (Message client) = true
quiet_of quiet (Starve client) = true
quiet_of quiet (Single act done) = quiet act

IsSilent : Telling → (Act → Bool) → Type 0
IsSilent tell quiet = (h : Happening) (a b : Moment) → quiet_of quiet h ≡ true → tell h a b ≡ []

unfoldable pub AreQuiet : (Act → Bool) → List Happening → Type 0
AreQuiet quiet [] = Unit {0}
AreQuiet quiet (h ∷ hs) = (quiet_of quiet h ≡ true) × AreQuiet quiet hs

messages-quiet : (quiet : Act → Bool) (n client : ℕ) → AreQuiet quiet (replicate n (Message client))
unfolding quiet_of AreQuiet
messages-quiet quiet zero client = tt
messages-quiet quiet (suc n) client = (refl, messages-quiet quiet n client)

pub parts-quiet : (quiet : Act → Bool) (act : Act) (done : Done) (parts : List Happening) → quiet act ≡ true → AreParts act done parts → AreQuiet quiet parts
unfolding quiet_of AreQuiet
parts-quiet quiet Connect done parts is are = subst (AreQuiet quiet) (sym are) (is, tt)
parts-quiet quiet (Feed client piece) done parts is (inl are) = subst (AreQuiet quiet) (sym are) tt
parts-quiet quiet (Feed client piece) done parts is (inr (inl are)) = subst (AreQuiet quiet) (sym are) (refl, tt)
parts-quiet quiet (Feed client piece) done parts is (inr (inr are)) = subst (AreQuiet quiet) (sym are.1) (refl, messages-quiet quiet are.0 client)
parts-quiet quiet (Store client store at bytes) done parts is are = subst (AreQuiet quiet) (sym are) (is, tt)
parts-quiet quiet (Leave client) done parts is are = subst (AreQuiet quiet) (sym are) (is, tt)
parts-quiet quiet (Tick time) done parts is are = subst (AreQuiet quiet) (sym are) (is, tt)
parts-quiet quiet (Send client count) done parts is are = subst (AreQuiet quiet) (sym are) (is, tt)
parts-quiet quiet (Close client) done parts is are = subst (AreQuiet quiet) (sym are) (is, tt)
parts-quiet quiet (Motion time x y) done parts is are = subst (AreQuiet quiet) (sym are) (is, tt)
parts-quiet quiet (Button time button pressed) done parts is are = subst (AreQuiet quiet) (sym are) (is, tt)

events-quiet : (tell : Telling) (quiet : Act → Bool) (events : List Event) → IsSilent tell quiet → AreQuiet quiet (happenings events) → gathered tell events ≡ []
unfolding IsSilent AreQuiet
events-quiet tell quiet [] silent are = refl
events-quiet tell quiet (e ∷ es) silent are =
    ap (λ (front : List ℕ). front ++ gathered tell es) (silent e.happening e.before e.after are.0) ∙ events-quiet tell quiet es silent are.1

runs-quiet : (tell : Telling) (quiet : Act → Bool) (acts : List Act) (from to : Moment) (events : List Event) → IsSilent tell quiet → AllPass quiet acts
    → Runs from acts events to → gathered tell events ≡ []
runs-quiet tell quiet [] from to events silent pass run = ap (gathered tell) run.0
runs-quiet tell quiet (act ∷ acts) from to events silent pass run =
    let now : gathered tell run.2 ≡ [] =
    events-quiet tell quiet run.2 silent (parts-quiet quiet act run.1 (happenings run.2) (All-head (λ a. quiet a ≡ true) act acts pass) run.5) in
    let later : gathered tell run.3 ≡ [] = runs-quiet tell quiet acts run.0 to run.3 silent (All-tail (λ a. quiet a ≡ true) act acts pass) run.8 in
    ap (gathered tell) run.7 ∙ (gathered-then tell run.2 run.3 ∙ (ap (λ (front : List ℕ). front ++ gathered tell run.3) now ∙ later))

-- no line tells of these
unfoldable pub has_no_line : Act → Bool
has_no_line Connect = false
has_no_line (Feed client piece) = true
has_no_line (Store client store at bytes) = true
has_no_line (Leave client) = true
has_no_line (Tick time) = false
has_no_line (Send client count) = true
has_no_line (Close client) = false
has_no_line (Motion time x y) = true
has_no_line (Button time button pressed) = true

-- no image shows these
unfoldable pub has_no_picture : Act → Bool
has_no_picture Connect = true
has_no_picture (Feed client piece) = true
has_no_picture (Store client store at bytes) = true
has_no_picture (Leave client) = true
has_no_picture (Tick time) = false
has_no_picture (Send client count) = true
has_no_picture (Close client) = true
has_no_picture (Motion time x y) = true
has_no_picture (Button time button pressed) = true

report-silent : IsSilent reported has_no_line
unfolding IsSilent quiet_of has_no_line
report-silent (Receive client piece) a b is = refl
report-silent (Message client) a b is = refl
report-silent (Starve client) a b is = refl
report-silent (Single Connect done) a b is = absurd (cc)
report-silent (Single (Feed client piece) done) a b is = refl
report-silent (Single (Store client store at bytes) done) a b is = refl
report-silent (Single (Leave client) done) a b is = refl
report-silent (Single (Tick time) done) a b is = absurd (cc)
report-silent (Single (Send client count) done) a b is = refl
report-silent (Single (Close client) done) a b is = absurd (cc)
report-silent (Single (Motion time x y) done) a b is = refl
report-silent (Single (Button time button pressed) done) a b is = refl

picture-silent : IsSilent pictured has_no_picture
unfolding IsSilent quiet_of has_no_picture
picture-silent (Receive client piece) a b is = refl
picture-silent (Message client) a b is = refl
picture-silent (Starve client) a b is = refl
picture-silent (Single Connect done) a b is = refl
picture-silent (Single (Feed client piece) done) a b is = refl
picture-silent (Single (Store client store at bytes) done) a b is = refl
picture-silent (Single (Leave client) done) a b is = refl
picture-silent (Single (Tick time) done) a b is = absurd (cc)
picture-silent (Single (Send client count) done) a b is = refl
picture-silent (Single (Close client) done) a b is = refl
picture-silent (Single (Motion time x y) done) a b is = refl
picture-silent (Single (Button time button pressed) done) a b is = refl

pub no-line-no-picture : (act : Act) → has_no_line act ≡ true → has_no_picture act ≡ true
unfolding has_no_line has_no_picture
no-line-no-picture Connect is = refl
no-line-no-picture (Feed client piece) is = refl
no-line-no-picture (Store client store at bytes) is = refl
no-line-no-picture (Leave client) is = refl
no-line-no-picture (Tick time) is = absurd (cc)
no-line-no-picture (Send client count) is = refl
no-line-no-picture (Close client) is = refl
no-line-no-picture (Motion time x y) is = refl
no-line-no-picture (Button time button pressed) is = refl

-- ---- phases of which nothing is told

-- the acts of each such stretch are quiet
abbrev pub PassesAll : (Act → Bool) → Stretch → Type 0
PassesAll quiet P = (start end : Moment) (acts : List Act) (events : List Event) → P start acts events end → AllPass quiet acts

-- what nothing is said of shows nothing
pub unseen : (P : Stretch) → PassesAll has_no_line P → PassesAll has_no_picture P
unseen P pass start end acts events p = All-weaker (λ act. has_no_line act ≡ true) (λ act. has_no_picture act ≡ true) no-line-no-picture acts (pass start end acts events p)

pub none-pass : (quiet : Act → Bool) (acts : List Act) → acts ≡ [] → AllPass quiet acts
none-pass quiet acts none = subst (AllPass quiet) (sym none) (All-nil (λ a. quiet a ≡ true))

pub both-pass : (quiet : Act → Bool) (acts a b : List Act) → acts ≡ a ++ b → AllPass quiet a → AllPass quiet b → AllPass quiet acts
both-pass quiet acts a b are first next = subst (AllPass quiet) (sym are) (All-append (λ act. quiet act ≡ true) a b first next)

pub in-turn-pass : {W : Type 0} (quiet : Act → Bool) (Own : ℕ → W → W → Stretch) → ((k : ℕ) (from to : W) → PassesAll quiet (Own k from to))
    → (n : ℕ) (from to : W) → PassesAll quiet (InTurn Own n from to)
unfolding InTurn
in-turn-pass quiet Own each zero from to start end acts events none = none-pass quiet acts none.acts_are
in-turn-pass quiet Own each (suc n) from to start end acts events some =
    both-pass quiet acts some.first some.next some.acts_are
    (in-turn-pass quiet Own each n from some.mid start some.moment some.first some.early some.does)
    (each (suc n) some.mid to some.moment end some.next some.late some.follows)

pub one-pass : (quiet : Act → Bool) (act : Act) → quiet act ≡ true → AllPass quiet (act ∷ [])
one-pass quiet act is = All-cons (λ a. quiet a ≡ true) act [] is (All-nil (λ a. quiet a ≡ true))

pub if-seated-pass : {H C : Type 0} (quiet : Act → Bool) (P : Link H C → Link H C → Stretch) → ((from to : Link H C) → PassesAll quiet (P from to))
    → (from to : Place H C) → PassesAll quiet (IfSeated P from to)
if-seated-pass quiet P each (hub, None) to start end acts events none = none-pass quiet acts none.acts_are
if-seated-pass quiet P each (hub, Some seat) to start end acts events some = each (hub, seat) (to.0, some.0) start end acts events some.1

pub at-seat-pass : {H C : Type 0} (quiet : Act → Bool) (Own : ℕ → Place H C → Place H C → Stretch) → ((k : ℕ) (from to : Place H C) → PassesAll quiet (Own k from to))
    → (k : ℕ) (from to : H × List (Option (Seat C))) → PassesAll quiet (AtSeat Own k from to)
at-seat-pass quiet Own each k from to start end acts events some = each k _ _ start end acts events some.1

-- pointing

asked-pass : (lines : List PointerLine) → AllPass has_no_line (asked_of lines)
unfolding has_no_line
asked-pass [] = All-nil (λ a. has_no_line a ≡ true)
asked-pass (line.Motion time x y ∷ lines) = All-cons (λ a. has_no_line a ≡ true) (Motion time x y) (asked_of lines) refl (asked-pass lines)
asked-pass (line.Button time code pressed ∷ lines) = All-cons (λ a. has_no_line a ≡ true) (Button time code pressed) (asked_of lines) refl (asked-pass lines)
asked-pass (line.Skip ∷ lines) = asked-pass lines
asked-pass (line.Bad ∷ lines) = asked-pass lines

pub points-pass : (lines : List PointerLine) → PassesAll has_no_line (Points lines)
points-pass lines start end acts events are = subst (AllPass has_no_line) (sym are) (asked-pass lines)

-- reading

ends-pass : {H C : Type 0} (w : Ways H C) (client : ℕ) (acts : List Act) (hub to : H) (conn next : C) → EndsReading w client acts hub conn to next → AllPass has_no_line acts
unfolding has_no_line
ends-pass w client acts hub to conn next (inl none) = none-pass has_no_line acts none.0
ends-pass w client acts hub to conn next (inr one) = subst (AllPass has_no_line) (sym one.0) (one-pass has_no_line (Leave client) refl)

stops-pass : {H C : Type 0} (IsOver : ℕ → Type 0) (w : Ways H C) (client reads : ℕ) (acts : List Act) (from to : Link H C) → StopsReading IsOver w client reads acts from to → AllPass has_no_line acts
stops-pass IsOver w client reads acts from to (inl all) = none-pass has_no_line acts all.1
stops-pass IsOver w client reads acts from to (inr one) = ends-pass w client acts _ _ _ _ one.1.ends

pub reads-pass : {H C : Type 0} (IsOver : ℕ → Type 0) (w : Ways H C) (client : ℕ) (from to : Link H C) → PassesAll has_no_line (ReadsUntil IsOver w client from to)
unfolding has_no_line
reads-pass IsOver w client from to start end acts events read =
    both-pass has_no_line acts (map (Feed client) read.pieces) read.last read.acts_are
    (All-map (λ a. has_no_line a ≡ true) (Feed client) read.pieces (λ k d h. refl)) (stops-pass IsOver w client _ read.last _ _ read.stops)

pub all-reads-pass : {H C : Type 0} (w : Ways H C) (n : ℕ) (from to : H × List (Option (Seat C))) → PassesAll has_no_line (InTurn (AtSeat (Reads w)) n from to)
all-reads-pass w n from to =
    in-turn-pass has_no_line (AtSeat (Reads w)) (at-seat-pass has_no_line (Reads w) (λ k. if-seated-pass has_no_line (ReadsClient w k) (reads-pass IsSixteen w k))) n from to

-- filling

puts-from-pass : (c store at : ℕ) (pieces : List (List ℕ)) → AllPass has_no_line (puts_from c store at pieces)
unfolding has_no_line
puts-from-pass c store at [] = All-nil (λ a. has_no_line a ≡ true)
puts-from-pass c store at (piece ∷ pieces) =
    All-cons (λ a. has_no_line a ≡ true) (Store c store at piece) (puts_from c store (at + length piece) pieces) refl (puts-from-pass c store (at + length piece) pieces)

puts-if-pass : {S : Type 0} (there : Bool) (files : Files S) (c store at most : ℕ) (from to : S) → PassesAll has_no_line (PutsIf there files c store at most from to)
puts-if-pass true files c store at most from to start end acts events put = subst (AllPass has_no_line) (sym put.acts_are) (puts-from-pass c store at put.pieces)
puts-if-pass false files c store at most from to start end acts events none = none-pass has_no_line acts none.acts_are

puts-part-pass : {S : Type 0} (files : Files S) (c number store first at most : ℕ) (from to : S) → PassesAll has_no_line (PutsPart files c number store first at most from to)
puts-part-pass files c number store first at most from to start end acts events put = puts-if-pass put.0 files c store at most put.1 to start end acts events put.3

puts-sized-pass : {S : Type 0} (files : Files S) (c number store : ℕ) (size : Option ℕ) (from to : S) → PassesAll has_no_line (PutsSized files c number store size from to)
puts-sized-pass files c number store None from to start end acts events none = none-pass has_no_line acts none.acts_are
puts-sized-pass files c number store (Some size) from to start end acts events put = puts-part-pass files c number store 0 0 size from to start end acts events put

puts-range-pass : {S : Type 0} (files : Files S) (c number : ℕ) (range : StoreRange) (size : Option ℕ) (from to : S)
    → PassesAll has_no_line (PutsRangeIn files c number range size from to)
puts-range-pass files c number range None from to start end acts events none = none-pass has_no_line acts none.acts_are
puts-range-pass files c number range (Some size) from to start end acts events put = puts-part-pass files c number _ _ _ _ from to start end acts events put

puts-ranges-pass : {S : Type 0} (files : Files S) (c number : ℕ) (ranges : List StoreRange) (from to : S) → PassesAll has_no_line (PutsRanges files c number ranges from to)
puts-ranges-pass files c number [] from to start end acts events none = none-pass has_no_line acts none.acts_are
puts-ranges-pass files c number (range ∷ ranges) from to start end acts events some =
    both-pass has_no_line acts some.first some.next some.acts_are
    (puts-range-pass files c number range _ from some.mid start some.moment some.first some.early some.does)
    (puts-ranges-pass files c number ranges some.mid to some.moment end some.next some.late some.follows)

fills-up-pass : {S : Type 0} (files : Files S) (c number : ℕ) (from : S) (start : Moment) (last : ℕ) (to : S) (acts : List Act) (events : List Event) (end : Moment)
    → FillsUpTo files c number from start last to acts events end → AllPass has_no_line acts
fills-up-pass files c number from start last to acts events end FillsUpTo.none = All-nil (λ a. has_no_line a ≡ true)
fills-up-pass files c number from start last to acts events end (FillsUpTo.more before mid _ moment _ first next early late store filled is leads goes puts) =
    All-append (λ act. has_no_line act ≡ true) first next (fills-up-pass files c number from start before mid first early moment filled)
    (puts-sized-pass files c number store _ mid to moment end next late puts)

fills-as-pass : {S : Type 0} (listed : Bool) (files : Files S) (c number : ℕ) (from to : S) → PassesAll has_no_line (FillsAs listed files c number from to)
fills-as-pass true files c number from to start end acts events fills = puts-ranges-pass files c number _ fills.1 to start end acts events fills.3
fills-as-pass false files c number from to start end acts events fills = fills-up-pass files c number from start fills.0 to acts events end fills.1

fills-if-pass : {S : Type 0} (sent : Bool) (files : Files S) (c number : ℕ) (from to : S) → PassesAll has_no_line (FillsIf sent files c number from to)
fills-if-pass true files c number from to start end acts events fills = fills-as-pass fills.0 files c number fills.1 to start end acts events fills.3
fills-if-pass false files c number from to start end acts events none = none-pass has_no_line acts none.acts_are

pub fills-seat-pass : {C S : Type 0} (files : Files S) (c : ℕ) (seat : Option (Seat C)) (from to : S) → PassesAll has_no_line (FillsSeat files c seat from to)
fills-seat-pass files c None from to start end acts events none = none-pass has_no_line acts none.acts_are
fills-seat-pass files c (Some seat) from to start end acts events fills = fills-if-pass seat.has_sent files c seat.number from to start end acts events fills

pub all-fills-pass : {C S : Type 0} (files : Files S) (seats : List (Option (Seat C))) (n : ℕ) (from to : S) → PassesAll has_no_line (InTurn (Fills files seats) n from to)
all-fills-pass files seats n from to = in-turn-pass has_no_line (Fills files seats) (λ k a b. fills-seat-pass files k _ a b) n from to

-- writing

leaves-pass : (gone : Bool) (client : ℕ) → AllPass has_no_line (leaves_if gone client)
unfolding has_no_line
leaves-pass true client = one-pass has_no_line (Leave client) refl
leaves-pass false client = All-nil (λ a. has_no_line a ≡ true)

writes-some-pass : {H C : Type 0} (w : Ways H C) (client : ℕ) (bytes : Option (List ℕ)) (from to : Link H C) → PassesAll has_no_line (WritesSome w client bytes from to)
unfolding has_no_line
writes-some-pass w client None from to start end acts events none = none-pass has_no_line acts none.acts_are
writes-some-pass w client (Some bytes) from to start end acts events gives =
    subst (AllPass has_no_line) (sym gives.acts_are) (All-cons (λ a. has_no_line a ≡ true) (Send client gives.sent) (leaves_if gives.is_gone client) refl (leaves-pass gives.is_gone client))

pub all-writes-pass : {H C : Type 0} (w : Ways H C) (n : ℕ) (from to : H × List (Option (Seat C))) → PassesAll has_no_line (InTurn (AtSeat (Writes w)) n from to)
all-writes-pass w n from to =
    in-turn-pass has_no_line (AtSeat (Writes w))
    (at-seat-pass has_no_line (Writes w) (λ k. if-seated-pass has_no_line (WritesClient w k) (λ a b start end acts events p. writes-some-pass w k _ a b start end acts events p))) n from to

-- accepting

accept-pass : {H C : Type 0} (w : Ways H C) (from to : H × _) → PassesAll has_no_picture (Accepts {H = H} {C = C} w from to)
unfolding has_no_picture
accept-pass w from to start end acts events one = subst (AllPass has_no_picture) (sym one.acts_are) (one-pass has_no_picture Connect refl)

pub accepts-pass : {H C : Type 0} (w : Ways H C) (from to : H × _) → PassesAll has_no_picture (AcceptsAll {H = H} {C = C} w from to)
accepts-pass w from to start end acts events (inl all) = in-turn-pass has_no_picture (λ k. Accepts w) (λ k. accept-pass w) 32 from to start end acts events all
accepts-pass w from to start end acts events (inr (n, few, then)) =
    both-pass has_no_picture acts then.first then.next then.acts_are
    (in-turn-pass has_no_picture (λ k. Accepts w) (λ k. accept-pass w) n from then.mid start then.moment then.first then.early then.does)
    (none-pass has_no_picture then.next then.follows.idle.acts_are)

-- closing

closes-if-pass : {H C : Type 0} (over : Bool) (w : Ways H C) (client : ℕ) (from to : Place H C) → PassesAll has_no_picture (ClosesIf over w client from to)
unfolding has_no_picture
closes-if-pass true w client from to start end acts events one = subst (AllPass has_no_picture) (sym one.0) (one-pass has_no_picture (Close client) refl)
closes-if-pass false w client from to start end acts events none = none-pass has_no_picture acts none.acts_are

pub all-closes-pass : {H C : Type 0} (w : Ways H C) (n : ℕ) (from to : H × List (Option (Seat C))) → PassesAll has_no_picture (InTurn (AtSeat (Closes w)) n from to)
all-closes-pass w n from to =
    in-turn-pass has_no_picture (AtSeat (Closes w)) (at-seat-pass has_no_picture (Closes w) (λ k a b start end acts events p. closes-if-pass _ w k a b start end acts events p)) n from to

-- ---- the report

pub Reports-none : {Writer : Type 0} {contents : Writer → Option (List ℕ)} (P : Stretch) (old new : RecordedView Writer) (report : Option (List ℕ)) → new ≡ old → ((d : Desktop) → Agrees old.session.desk d → P (moment d old.session) [] [] (moment d new.session))
    → Reports contents P old new report report
Reports-none P old new report same p = λ d agrees. ([], went-none old new d same agrees, p d agrees, Appends-nil report)

-- a step that is one event, and its line
pub Reports-one : {Writer : Type 0} {contents : Writer → Option (List ℕ)} (P : Stretch) (act : Act) (done : Done) (old new : RecordedView Writer) (report told : Option (List ℕ)) (parts : (hs : List Happening) → AreParts act done hs
    → hs ≡ Single act done ∷ [])
    → TakesNoted contents act done old new → ((d e : Desktop) (events : List Event) → Agrees old.session.desk d → happenings events ≡ Single act done ∷ [] → P (moment d old.session) (act ∷ []) events (moment e new.session))
    → ((d e : Desktop) → Agrees old.session.desk d → Appends report told (reported (Single act done) (moment d old.session) (moment e new.session)))
    → Reports contents P old new report told
Reports-one P act done old new report told parts takes p line = λ d agrees.
    let course = takes.0 d agrees in
    let one = parts (happenings course.events) course.parts in
    let is = told-single reported (Single act done) (moment d old.session) (moment course.desktop new.session) course.events one course.leads in
    (act ∷ [], went-one act done old new d agrees course takes.1, p d course.desktop course.events agrees one, subst (Appends report told) (sym is) (line d course.desktop agrees))

pub Reports-then : {Writer : Type 0} {contents : Writer → Option (List ℕ)} (P Q R : Stretch) (old mid new : RecordedView Writer) (x y z : Option (List ℕ)) → Reports contents P old mid x y → Reports contents Q mid new y z
    → Joins P Q R mid.session new.session → Reports contents R old new x z
Reports-then P Q R old mid new x y z first next join = λ d agrees.
    let a = first d agrees in
    let b = next a.1.desktop a.1.agrees in (
      a.0 ++ b.0,
      went-then a.0 b.0 old mid new d a.1 b.1,
      join (moment d old.session) a.1.desktop b.1.desktop a.0 b.0 a.1.events b.1.events a.1.agrees b.1.agrees a.1.runs b.1.runs a.2 b.2,
      appends-then reported a.1.events b.1.events x y z a.3 b.3,
    )

pub Reports-weaker : {Writer : Type 0} {contents : Writer → Option (List ℕ)} (P Q : Stretch) (old new : RecordedView Writer) (x y : Option (List ℕ)) → Reports contents P old new x y → Weakens P Q old.session new.session → Reports contents Q old new x y
Reports-weaker P Q old new x y reports weaker = λ d agrees.
    let a = reports d agrees in (a.0, a.1, weaker d a.1.desktop a.0 a.1.events agrees a.1.agrees a.1.runs a.2, a.3)

-- what is said of the acts is said of a value that is known
pub Reports-is : {X : Type 0} {Writer : Type 0} {contents : Writer → Option (List ℕ)} (P : X → Stretch) (a b : X) (old new : RecordedView Writer) (x y : Option (List ℕ)) → a ≡ b → Reports contents (P a) old new x y → Reports contents (P b) old new x y
Reports-is {X} {Writer} {contents} P a b old new x y same reports = subst (λ (v : _). Reports contents (P v) old new x y) same reports

pub Tells-is : {X : Type 0} {Writer : Type 0} {contents : Writer → Option (List ℕ)} (P : X → Stretch) (a b : X) (old new : RecordedView Writer) (x y i j : Option (List ℕ)) → a ≡ b → Tells contents (P a) old new x y i j → Tells contents (P b) old new x y i j
Tells-is {X} {Writer} {contents} P a b old new x y i j same tells = subst (λ (v : _). Tells contents (P v) old new x y i j) same tells

pub Takes-told : {Writer : Type 0} {contents : Writer → Option (List ℕ)} (P : Stretch) (old new : RecordedView Writer) (x y : Option (List ℕ)) → Reports contents P old new x y → Takes contents P old new
Takes-told P old new x y reports = λ d agrees. let a = reports d agrees in (a.0, a.1, a.2)

-- ---- the report and the images

-- nothing is told
pub Tells-quiet : {Writer : Type 0} {contents : Writer → Option (List ℕ)} (P : Stretch) (old new : RecordedView Writer) (report images : Option (List ℕ)) → PassesAll has_no_line P → Takes contents P old new
    → Tells contents P old new report report images images
Tells-quiet P old new report images pass takes = λ d agrees.
    let a = takes d agrees in
    let went = a.1 in
    let lines = pass (moment d old.session) (moment went.desktop new.session) a.0 went.events a.2 in
    let pictures = All-weaker (λ act. has_no_line act ≡ true) (λ act. has_no_picture act ≡ true) no-line-no-picture a.0 lines in
    let unsaid = runs-quiet reported has_no_line a.0 (moment d old.session) (moment went.desktop new.session) went.events report-silent lines went.runs in
    let unseen = runs-quiet pictured has_no_picture a.0 (moment d old.session) (moment went.desktop new.session) went.events picture-silent pictures went.runs in
    (a.0, went, a.2, (subst (Appends report report) (sym unsaid) (Appends-nil report), subst (Appends images images) (sym unseen) (Appends-nil images)))

-- nothing is shown
pub Tells-unseen : {Writer : Type 0} {contents : Writer → Option (List ℕ)} (P : Stretch) (old new : RecordedView Writer) (report told images : Option (List ℕ)) → PassesAll has_no_picture P → Reports contents P old new report told
    → Tells contents P old new report told images images
Tells-unseen P old new report told images pass reports = λ d agrees.
    let a = reports d agrees in
    let went = a.1 in
    let unseen = runs-quiet pictured has_no_picture a.0 (moment d old.session) (moment went.desktop new.session) went.events picture-silent (pass (moment d old.session) (moment went.desktop new.session) a.0 went.events a.2) went.runs in
    (a.0, went, a.2, (a.3, subst (Appends images images) (sym unseen) (Appends-nil images)))

pub Tells-then : {Writer : Type 0} {contents : Writer → Option (List ℕ)} (P Q R : Stretch) (old mid new : RecordedView Writer) (x y z i j k : Option (List ℕ)) → Tells contents P old mid x y i j → Tells contents Q mid new y z j k
    → Joins P Q R mid.session new.session → Tells contents R old new x z i k
Tells-then P Q R old mid new x y z i j k first next join = λ d agrees.
    let a = first d agrees in
    let b = next a.1.desktop a.1.agrees in (
      a.0 ++ b.0,
      went-then a.0 b.0 old mid new d a.1 b.1,
      join (moment d old.session) a.1.desktop b.1.desktop a.0 b.0 a.1.events b.1.events a.1.agrees b.1.agrees a.1.runs b.1.runs a.2 b.2,
      (appends-then reported a.1.events b.1.events x y z a.3.0 b.3.0, appends-then pictured a.1.events b.1.events i j k a.3.1 b.3.1),
    )

pub Tells-weaker : {Writer : Type 0} {contents : Writer → Option (List ℕ)} (P Q : Stretch) (old new : RecordedView Writer) (x y i j : Option (List ℕ)) → Tells contents P old new x y i j → Weakens P Q old.session new.session → Tells contents Q old new x y i j
Tells-weaker P Q old new x y i j tells weaker = λ d agrees.
    let a = tells d agrees in (a.0, a.1, weaker d a.1.desktop a.0 a.1.events agrees a.1.agrees a.1.runs a.2, a.3)

-- whoever ended is looked at behind what is told
pub Tells-looking : {Writer : Type 0} {contents : Writer → Option (List ℕ)} (P : Stretch) (old mid new : RecordedView Writer) (x y i j : Option (List ℕ)) → new.session ≡ mid.session
    → OnBoth (Looks contents mid.session) mid.recording new.recording → Tells contents P old mid x y i j → Tells contents P old new x y i j
Tells-looking P old mid new x y i j same looks tells = λ d agrees.
    let a = tells d agrees in
    (a.0, went-looking a.0 old mid new d same looks a.1, subst (λ (v : SessionView). P (moment d old.session) a.0 a.1.events (moment a.1.desktop v)) (sym same) a.2, a.3)

-- a step that is one event, with its line and its picture
pub Tells-one : {Writer : Type 0} {contents : Writer → Option (List ℕ)} (P : Stretch) (act : Act) (done : Done) (old new : RecordedView Writer) (report told images imaged : Option (List ℕ)) (parts : (hs : List Happening) → AreParts act done hs
    → hs ≡ Single act done ∷ [])
    → TakesNoted contents act done old new → ((d e : Desktop) (events : List Event) → P (moment d old.session) (act ∷ []) events (moment e new.session))
    → ((d e : Desktop) → Agrees old.session.desk d → Appends report told (reported (Single act done) (moment d old.session) (moment e new.session))
    × Appends images imaged (pictured (Single act done) (moment d old.session) (moment e new.session)))
    → Tells contents P old new report told images imaged
Tells-one P act done old new report told images imaged parts takes p shown = λ d agrees.
    let course = takes.0 d agrees in
    let both = shown d course.desktop agrees in
    let one = parts (happenings course.events) course.parts in
    let line = told-single reported (Single act done) (moment d old.session) (moment course.desktop new.session) course.events one course.leads in
    let picture = told-single pictured (Single act done) (moment d old.session) (moment course.desktop new.session) course.events one course.leads in
    (act ∷ [], went-one act done old new d agrees course takes.1, p d course.desktop course.events, (subst (Appends report told) (sym line) both.0, subst (Appends images imaged) (sym picture) both.1))

-- ---- a frame is shown, and noted behind those that ended before it

pub shows-tick : {Writer : Type 0} {contents : Writer → Option (List ℕ)} (time : ℕ) (u v : SessionView) (r s t : Option (Recorded Writer)) → OnBoth (Looks contents u) r s
    → OnBoth (NotesOf contents (Tick time) gave.Tick) s t → TakesCourse (Tick time) gave.Tick u v
    → Takes contents (Shows time) (record { session = u; recording = r }) (record { session = v; recording = t })
shows-tick {Writer} {contents} time u v r s t looks notes course =
    Takes-one (Shows time) (Tick time) gave.Tick (record { session = u; recording = r }) (record { session = v; recording = t })
    (course, noted-behind contents u (Tick time) gave.Tick r s t looks notes) (λ d e es agrees parts. refl)

pub tells-tick : {Writer : Type 0} {contents : Writer → Option (List ℕ)} (P : Stretch) (time : ℕ) (u v : SessionView) (r s t : Option (Recorded Writer)) (x y i j : Option (List ℕ))
    → OnBoth (Looks contents u) r s → OnBoth (NotesOf contents (Tick time) gave.Tick) s t → TakesCourse (Tick time) gave.Tick u v
    → ((d e : Desktop) (events : List Event) → P (moment d u) (Tick time ∷ []) events (moment e v)) → TellsFrame time u v x y i j
    → Tells contents P (record { session = u; recording = r }) (record { session = v; recording = t }) x y i j
tells-tick {Writer} {contents} P time u v r s t x y i j looks notes course p told =
    Tells-one P (Tick time) gave.Tick (record { session = u; recording = r }) (record { session = v; recording = t }) x y i j (λ hs is. is)
    (course, noted-behind contents u (Tick time) gave.Tick r s t looks notes) p told

-- ---- a frame for which something is painted, and one for which nothing is

pub painted-some : (n : ℕ) (told : List ℕ) → 0 < n → if_painted n told ≡ told
painted-some zero told some = absurd (omega (arith, some))
painted-some (suc n) told some = refl

pub painted-none : (n : ℕ) (told : List ℕ) → n ≡ 0 → if_painted n told ≡ []
painted-none n told none = ap (λ (k : ℕ). if_painted k told) none

-- what holds of a result that was only mapped at its error
pub ok-kept : {T E X D : Type 0} (r : Result T E) (s : Result X D) (x : X) (P : Type 0) → OnOk r P → is_ok s ≡ is_ok r → s ≡ Ok x → P
ok-kept (Ok y) s x P holds same is = holds
ok-kept (Err e) s x P holds same is = absurd (true≢false (sym (ap is_ok is) ∙ same))

-- for a result that is returned as it was mapped
pub on-ok-kept : {T E X D : Type 0} (r : Result T E) (s : Result X D) (P : Type 0) → OnOk r P → is_ok s ≡ is_ok r → OnOk s P
on-ok-kept (Ok y) (Ok x) P holds same = holds
on-ok-kept (Err e) (Ok x) P holds same = absurd (true≢false same)
on-ok-kept r (Err e) P holds same = tt

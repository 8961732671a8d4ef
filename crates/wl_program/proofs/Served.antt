-- What is served, by what its parts answer.
use Rattle.std.proofs.Common.{◌≡◌, ◌⊎◌, ◌+◌, ◌∙◌, ap, inl, inr, refl, subst, sym, ℕ, Bool, false, true, List, [], None, Option, Result, Ok, Err}
use Rattle.std.specs.Prelude.{◌<◌, ⊤, is_some}
use Rattle.std.specs.Result.{IfErr, OnOk}
use Rattle.spec_desktop.specs.Desktop.{empty}
use Rattle.wl_replay.specs.Told.{IsFirst}
use Rattle.wl_server.specs.Agreeing.{Agrees}
use Rattle.wl_server.specs.Course.{moment}
use Rattle.wl_server.specs.Liars.{IsRightBut, nobody}
use Rattle.wl_server.specs.View.{SessionView}
use Rattle.wl_server.specs.Seats.{Seated, nobody as unconnected}
use Rattle.wl_server.specs.Ways.{Serving, Ways, serving}
use Rattle.wl_server.specs.declared.seat.Seat.{Seat}
use Rattle.wl_recording.specs.Side.{Files}
use Rattle.wl_recording.specs.declared.pointer.PointerLine.{PointerLine}
use Rattle.mio.specs.declared.net.uds.stream.UnixStream.{UnixStream}
use Rattle.wl_program.specs.Folder.{FolderView, folder_files, new_folder}
use Rattle.wl_server.specs.Acting.{InTurn, IsServed, Stretch, Takes, Then}
use Rattle.wl_server.specs.Recorded.{RecordedView}
use Rattle.wl_server.specs.Telling.{IsToldOf, Tells, gathered, pictured, reported}
use Rattle.wl_server.proofs.Taking.{InTurn-more, InTurn-zero, Takes-both, Takes-weaker, went-none}
use Rattle.wl_server.proofs.Telling.{Tells-weaker}
use Rattle.wl_server.proofs.Turning.{Tells-both}
use Rattle.std.specs.Io.KnownBytes.{Keeps}
use Rattle.std.proofs.KnownBytes.{Appends-kept, Appends-nil}
use Rattle.wl_program.specs.declared.command.Serve.{Serve}
use Rattle.wl_program.specs.declared.fault.Fault.{Fault}
use Rattle.wl_program.specs.declared.fault.Fault.TheVariants.{Read, Write, Side, Bind, Rate, Size, BadLine, Memory}
use Rattle.wl_program.specs.Run.{FailsServing}
use Rattle.wl_server.proofs.Frames.{served-as}
use Rattle.wl_program.specs.declared.rate.Rate as paced
use Rattle.wl_program.specs.Pace.{count_of, hertz_of, time_of}
use Rattle.wl_server.specs.Viewed.{Stage as Stand}
use Rattle.wl_server.specs.Watching.{Watching}
use Rattle.wl_program.specs.Steps.{IsStep, IsViewedStep, StartsStep}
use Rattle.wl_program.specs.Serving.{AreTurns, AreViewedTurns, BeginsTurns, IsOfPointer, IsServedSo, ServedAs, ServedTurns, ServedViewed, begun_of, begun_viewed, moment_of, output_of, socket_ways, stage_of}

-- what a turn told, once it is flushed
pub turn-told : {Writer : Type 0} {contents : Writer → Option (List ℕ)} (P : Stretch) (old new : RecordedView Writer) (report told flushed images imaged shown : Option (List ℕ)) → IsServed contents P (IsToldOf report told images imaged) old new
    → Keeps told flushed → Keeps imaged shown → Tells contents P old new report flushed images shown
turn-told P old new report told flushed images imaged shown served keeps holds = λ d agrees.
    let s = served d agrees in (
      s.0,
      s.1,
      s.2,
      (Appends-kept report told flushed (gathered reported s.1.events) s.3.0 keeps, Appends-kept images imaged shown (gathered pictured s.1.events) s.3.1 holds),
    )

-- what a turn that was begun took
pub turn-begun : {Writer : Type 0} {contents : Writer → Option (List ℕ)} (P : Stretch) (old new : RecordedView Writer) → IsServed contents P (λ events. ⊤) old new → Takes contents P old new
turn-begun P old new served = λ d agrees. let s = served d agrees in (s.0, s.1, s.2)

-- ---- turns at a rate, one after another

abbrev pub TurnAt : {H C S : Type 0} → Ways H C → Files S → Option paced.Rate → ℕ → Serving H C S → Serving H C S → Stretch
TurnAt w files rate n = IsStep w files rate (time_of (hertz_of rate) n)

pub turns-none : {H C S : Type 0} {Writer : Type 0} {contents : Writer → Option (List ℕ)} (w : Ways H C) (files : Files S) (rate : Option paced.Rate) (from : Serving H C S) (v : RecordedView Writer) (report images : Option (List ℕ))
    → Tells contents (InTurn (TurnAt w files rate) 0 from from) v v report report images images
turns-none w files rate from v report images = λ d agrees.
    ([], went-none v v d refl agrees, InTurn-zero (TurnAt w files rate) from (moment d v.session), (Appends-nil report, Appends-nil images))

pub turns-more : {H C S : Type 0} {Writer : Type 0} {contents : Writer → Option (List ℕ)} (w : Ways H C) (files : Files S) (rate : Option paced.Rate) (n time : ℕ) (from between to : Serving H C S) (old mid new : RecordedView Writer)
    (x y z i j k : Option (List ℕ)) → time ≡ time_of (hertz_of rate) (n + 1)
    → Tells contents (InTurn (TurnAt w files rate) n from between) old mid x y i j → Tells contents (IsStep w files rate time between to) mid new y z j k
    → Tells contents (InTurn (TurnAt w files rate) (n + 1) from to) old new x z i k
turns-more {H} {C} {S} {Writer} {contents} w files rate n time from between to old mid new x y z i j k is first next =
    let own : Tells contents (TurnAt w files rate (n + 1) between to) mid new y z j k = subst (λ (t : ℕ). Tells contents (IsStep w files rate t between to) mid new y z j k) is next in
    Tells-weaker (Then (InTurn (TurnAt w files rate) n) (TurnAt w files rate (n + 1)) from to) (InTurn (TurnAt w files rate) (n + 1) from to) old new x z i k
    (Tells-both (InTurn (TurnAt w files rate) n) (TurnAt w files rate (n + 1)) from between to old mid new x y z i j k first own)
    (λ d e a es ad ae runs then. InTurn-more (TurnAt w files rate) n from to (moment d old.session) a es (moment e new.session) then)

pub turns-all : {H C S : Type 0} {Writer : Type 0} {contents : Writer → Option (List ℕ)} (w : Ways H C) (files : Files S) (rate : Option paced.Rate) (turns : Option ℕ) (n : ℕ) (from to : Serving H C S) (old new : RecordedView Writer)
    (x y i j : Option (List ℕ)) → n ≡ count_of turns
    → Tells contents (InTurn (TurnAt w files rate) n from to) old new x y i j → Tells contents (AreTurns w files rate turns from to) old new x y i j
turns-all {H} {C} {S} {Writer} {contents} w files rate turns n from to old new x y i j all tells =
    subst (λ (count : ℕ). Tells contents (InTurn (TurnAt w files rate) count from to) old new x y i j) all tells

-- where the next one is only begun, it and those before it are
pub turns-begun : {H C S : Type 0} {Writer : Type 0} {contents : Writer → Option (List ℕ)} (w : Ways H C) (files : Files S) (rate : Option paced.Rate) (turns : Option ℕ) (n time : ℕ) (from between to : Serving H C S) (old mid new : RecordedView Writer)
    (x y i j : Option (List ℕ)) → n < count_of turns → time ≡ time_of (hertz_of rate) (n + 1)
    → Tells contents (InTurn (TurnAt w files rate) n from between) old mid x y i j → Takes contents (StartsStep w files rate time between to) mid new
    → Takes contents (BeginsTurns w files rate turns from to) old new
turns-begun {H} {C} {S} {Writer} {contents} w files rate turns n time from between to old mid new x y i j fewer is first next =
    let own : Takes contents (StartsStep w files rate (time_of (hertz_of rate) (n + 1)) between to) mid new = subst (λ (t : ℕ). Takes contents (StartsStep w files rate t between to) mid new) is next in
    let took : Takes contents (InTurn (TurnAt w files rate) n from between) old mid = λ d agrees. let s = first d agrees in (s.0, s.1, s.2) in
    Takes-weaker (Then (InTurn (TurnAt w files rate) n) (StartsStep w files rate (time_of (hertz_of rate) (n + 1))) from to) (BeginsTurns w files rate turns from to) old new
    (Takes-both (InTurn (TurnAt w files rate) n) (StartsStep w files rate (time_of (hertz_of rate) (n + 1))) from between to old mid new took own)
    (λ d e a es ad ae runs then. (n, fewer, then))

-- turns of a new session are turns of a desktop without clients
turns-taken : {Writer : Type 0} {contents : Writer → Option (List ℕ)} (serve : Serve) (lines : List PointerLine) (to : Serving ℕ UnixStream FolderView) (first : SessionView) (old new : RecordedView Writer) (report told images imaged : Option (List ℕ)) → old.session ≡ first
    → Agrees first.desk (empty (record { width = serve.size.width; height = serve.size.height })) → IsRightBut nobody (moment_of serve.size first)
    → IsFirst (output_of serve.size) (stage_of serve.size first)
    → (is_some serve.pointer ≡ false → lines ≡ [])
    → Tells contents (AreTurns socket_ways folder_files serve.rate serve.turns (begun_of serve lines) to) old new report told images imaged → ServedTurns serve report told
turns-taken {Writer} {contents} serve lines to first old new report told images imaged same agrees right begins unpointed takes =
    let P = AreTurns socket_ways folder_files serve.rate serve.turns (begun_of serve lines) to in
    let fresh : Agrees old.session.desk (empty (record { width = serve.size.width; height = serve.size.height })) =
    subst (λ (v : SessionView). Agrees v.desk (empty (record { width = serve.size.width; height = serve.size.height }))) (sym same) agrees in
    let s = served-as P (IsToldOf report told images imaged) old new takes (empty (record { width = serve.size.width; height = serve.size.height })) fresh in
    record {
      first = stage_of serve.size old.session;
      acts = s.0;
      events = s.1.events;
      last = moment s.1.desktop new.session;
      lines = lines;
      to = to;
      images = images;
      imaged = imaged;
      begins = subst (λ (v : SessionView). IsFirst (output_of serve.size) (stage_of serve.size v)) (sym same) begins;
      unpointed = unpointed;
      turns = s.2;
      runs = s.1.runs;
      shows = s.4 nobody (subst (λ (v : SessionView). IsRightBut nobody (moment_of serve.size v)) (sym same) right);
      tells = s.3;
    }

pub begun-as : (serve : Serve) (hub : ℕ) (connections : Seated (Seat UnixStream)) (side : FolderView) (waiting lines : List PointerLine) → hub ≡ 0 → connections ≡ unconnected
    → side ≡ new_folder serve.dir.now → waiting ≡ lines → serving hub connections side waiting ≡ begun_of serve lines
begun-as serve hub connections side waiting lines none nobody_yet unopened untaken =
    ap (λ (h : ℕ). serving h connections side waiting) none
    ∙ (ap (λ (s : Seated (Seat UnixStream)). serving 0 s side waiting) nobody_yet
    ∙ (ap (λ (f : FolderView). serving 0 unconnected f waiting) unopened ∙ ap (λ (l : List PointerLine). begun_of serve l) untaken))

pub turns-ok : {T : Type 0} {Writer : Type 0} (contents : Writer → Option (List ℕ)) (r : Result T Fault) (serve : Serve) (lines : List PointerLine) (rate : Option paced.Rate) (turns : Option ℕ) (from to : Serving ℕ UnixStream FolderView)
    (first : SessionView) (old new : RecordedView Writer) (report told images imaged : Option (List ℕ)) → old.session ≡ first
    → Agrees first.desk (empty (record { width = serve.size.width; height = serve.size.height })) → IsRightBut nobody (moment_of serve.size first)
    → IsFirst (output_of serve.size) (stage_of serve.size first) → (is_some serve.pointer ≡ false → lines ≡ [])
    → rate ≡ serve.rate → turns ≡ serve.turns → from ≡ begun_of serve lines
    → OnOk r (Tells contents (AreTurns socket_ways folder_files rate turns from to) old new report told images imaged) → OnOk r (ServedTurns serve report told)
turns-ok {T} {Writer} contents (Ok x) serve lines rate turns from to first old new report told images imaged same agrees right begins unpointed same_rate same_turns same_from takes =
    let at_rate = subst (λ (u : Option paced.Rate). Tells contents (AreTurns socket_ways folder_files u turns from to) old new report told images imaged) same_rate takes in
    let so_many = subst (λ (n : Option ℕ). Tells contents (AreTurns socket_ways folder_files serve.rate n from to) old new report told images imaged) same_turns at_rate in
    let over = subst (λ (f : Serving ℕ UnixStream FolderView). Tells contents (AreTurns socket_ways folder_files serve.rate serve.turns f to) old new report told images imaged) same_from so_many in
    turns-taken serve lines to first old new report told images imaged same agrees right begins unpointed over
turns-ok {T} {Writer} contents (Err e) serve lines rate turns from to first old new report told images imaged same agrees right begins unpointed same_rate same_turns same_from takes = tt

-- what fails to be written is a fault of serving
pub write-fails : {T : Type 0} (r : Result T Fault) (serve : Serve) (report reported : Option (List ℕ)) → IfErr r (λ fault. fault ≡ Write)
    → IfErr r (λ fault. FailsServing fault serve report reported)
write-fails (Ok x) serve report reported is = tt
write-fails (Err e) serve report reported is = rw is tt

-- a fault of the pointer's file is one of serving
pub pointer-fails : (serve : Serve) (fault : Fault) (report : Option (List ℕ)) → IsOfPointer (is_some serve.pointer) fault → FailsServing fault serve report report
pointer-fails serve Read report is = refl
pointer-fails serve (BadLine line) report is = (is, refl)
pointer-fails serve Memory report is = refl
pointer-fails serve Write report is = absurd is
pointer-fails serve (Side line) report is = absurd is
pointer-fails serve Bind report is = absurd is
pointer-fails serve Rate report is = absurd is
pointer-fails serve Size report is = absurd is

-- and one of the socket
pub socket-fails : (serve : Serve) (fault : Fault) (report : Option (List ℕ)) → (fault ≡ Bind) ⊎ (fault ≡ Memory) → FailsServing fault serve report report
socket-fails serve fault report (inl is) = rw is refl
socket-fails serve fault report (inr is) = rw is refl

-- and one of the images' file
pub images-fail : (serve : Serve) (fault : Fault) (report : Option (List ℕ)) → (fault ≡ Write) ⊎ (fault ≡ Memory) → FailsServing fault serve report report
images-fail serve fault report (inl is) = rw is tt
images-fail serve fault report (inr is) = rw is refl

-- ---- with a viewer

abbrev pub ViewedAt : {H C S V D : Type 0} → Ways H C → Ways V D → Files S → Option paced.Rate → ℕ → ℕ → ℕ → Stand H C S V D → Stand H C S V D → Stretch
ViewedAt w v files rate width height n = IsViewedStep w v files rate (time_of (hertz_of rate) n) width height

pub viewed-none : {H C S V D : Type 0} {Writer : Type 0} {contents : Writer → Option (List ℕ)} (w : Ways H C) (v : Ways V D) (files : Files S) (rate : Option paced.Rate) (width height : ℕ) (from : Stand H C S V D) (s : RecordedView Writer) (report images : Option (List ℕ))
    → Tells contents (InTurn (ViewedAt w v files rate width height) 0 from from) s s report report images images
viewed-none w v files rate width height from s report images = λ d agrees.
    ([], went-none s s d refl agrees, InTurn-zero (ViewedAt w v files rate width height) from (moment d s.session), (Appends-nil report, Appends-nil images))

pub viewed-more : {H C S V D : Type 0} {Writer : Type 0} {contents : Writer → Option (List ℕ)} (w : Ways H C) (v : Ways V D) (files : Files S) (rate : Option paced.Rate) (width height across down n time : ℕ) (from between to : Stand H C S V D) (old mid new : RecordedView Writer)
    (x y z i j k : Option (List ℕ)) → time ≡ time_of (hertz_of rate) (n + 1) → across ≡ width → down ≡ height
    → Tells contents (InTurn (ViewedAt w v files rate width height) n from between) old mid x y i j → Tells contents (IsViewedStep w v files rate time across down between to) mid new y z j k
    → Tells contents (InTurn (ViewedAt w v files rate width height) (n + 1) from to) old new x z i k
viewed-more {H} {C} {S} {V} {D} {Writer} {contents} w v files rate width height across down n time from between to old mid new x y z i j k is wide high first next =
    let at_time : Tells contents (IsViewedStep w v files rate (time_of (hertz_of rate) (n + 1)) across down between to) mid new y z j k =
    subst (λ (t : ℕ). Tells contents (IsViewedStep w v files rate t across down between to) mid new y z j k) is next in
    let as_wide : Tells contents (IsViewedStep w v files rate (time_of (hertz_of rate) (n + 1)) width down between to) mid new y z j k =
    subst (λ (t : ℕ). Tells contents (IsViewedStep w v files rate (time_of (hertz_of rate) (n + 1)) t down between to) mid new y z j k) wide at_time in
    let own : Tells contents (ViewedAt w v files rate width height (n + 1) between to) mid new y z j k =
    subst (λ (t : ℕ). Tells contents (IsViewedStep w v files rate (time_of (hertz_of rate) (n + 1)) width t between to) mid new y z j k) high as_wide in
    Tells-weaker (Then (InTurn (ViewedAt w v files rate width height) n) (ViewedAt w v files rate width height (n + 1)) from to) (InTurn (ViewedAt w v files rate width height) (n + 1) from to) old new x z i k
    (Tells-both (InTurn (ViewedAt w v files rate width height) n) (ViewedAt w v files rate width height (n + 1)) from between to old mid new x y z i j k first own)
    (λ d e a es ad ae runs then. InTurn-more (ViewedAt w v files rate width height) n from to (moment d old.session) a es (moment e new.session) then)

pub viewed-all : {H C S V D : Type 0} {Writer : Type 0} {contents : Writer → Option (List ℕ)} (w : Ways H C) (v : Ways V D) (files : Files S) (rate : Option paced.Rate) (turns : Option ℕ) (width height n : ℕ) (from to : Stand H C S V D) (old new : RecordedView Writer)
    (x y i j : Option (List ℕ)) → n ≡ count_of turns
    → Tells contents (InTurn (ViewedAt w v files rate width height) n from to) old new x y i j → Tells contents (AreViewedTurns w v files rate turns width height from to) old new x y i j
viewed-all {H} {C} {S} {V} {D} {Writer} {contents} w v files rate turns width height n from to old new x y i j all tells =
    subst (λ (count : ℕ). Tells contents (InTurn (ViewedAt w v files rate width height) count from to) old new x y i j) all tells

viewed-taken : {Writer : Type 0} {contents : Writer → Option (List ℕ)} (serve : Serve) (lines : List PointerLine) (to : Stand ℕ UnixStream FolderView ℕ UnixStream) (first : SessionView) (old new : RecordedView Writer) (report told images imaged : Option (List ℕ)) → old.session ≡ first
    → Agrees first.desk (empty (record { width = serve.size.width; height = serve.size.height })) → IsRightBut nobody (moment_of serve.size first)
    → IsFirst (output_of serve.size) (stage_of serve.size first)
    → (is_some serve.pointer ≡ false → lines ≡ [])
    → Tells contents (AreViewedTurns socket_ways socket_ways folder_files serve.rate serve.turns serve.size.width serve.size.height (begun_viewed serve lines) to) old new report told images imaged
    → ServedViewed serve report told
viewed-taken {Writer} {contents} serve lines to first old new report told images imaged same agrees right begins unpointed takes =
    let P = AreViewedTurns socket_ways socket_ways folder_files serve.rate serve.turns serve.size.width serve.size.height (begun_viewed serve lines) to in
    let fresh : Agrees old.session.desk (empty (record { width = serve.size.width; height = serve.size.height })) =
    subst (λ (v : SessionView). Agrees v.desk (empty (record { width = serve.size.width; height = serve.size.height }))) (sym same) agrees in
    let s = served-as P (IsToldOf report told images imaged) old new takes (empty (record { width = serve.size.width; height = serve.size.height })) fresh in
    record {
      first = stage_of serve.size old.session;
      acts = s.0;
      events = s.1.events;
      last = moment s.1.desktop new.session;
      lines = lines;
      to = to;
      images = images;
      imaged = imaged;
      begins = subst (λ (v : SessionView). IsFirst (output_of serve.size) (stage_of serve.size v)) (sym same) begins;
      unpointed = unpointed;
      turns = s.2;
      runs = s.1.runs;
      shows = s.4 nobody (subst (λ (v : SessionView). IsRightBut nobody (moment_of serve.size v)) (sym same) right);
      tells = s.3;
    }

abbrev pub stand : Serving ℕ UnixStream FolderView → ℕ → Option (Watching UnixStream) → Stand ℕ UnixStream FolderView ℕ UnixStream
stand from hub place = (from, (hub, place))

-- the second socket, to which no viewer has connected
pub viewed-as : (serve : Serve) (from : Serving ℕ UnixStream FolderView) (lines : List PointerLine) (hub : ℕ) (place : Option (Watching UnixStream)) → from ≡ begun_of serve lines → hub ≡ 0 → place ≡ None
    → stand from hub place ≡ begun_viewed serve lines
viewed-as serve from lines hub place same none nobody_there =
    ap (λ (f : Serving ℕ UnixStream FolderView). stand f hub place) same
    ∙ (ap (λ (h : ℕ). stand (begun_of serve lines) h place) none ∙ ap (λ (p : Option (Watching UnixStream)). stand (begun_of serve lines) 0 p) nobody_there)

pub unviewed : {T : Type 0} (r : Result T Fault) (serve : Serve) (report told : Option (List ℕ)) → is_some serve.viewer ≡ false → OnOk r (ServedTurns serve report told)
    → OnOk r (IsServedSo serve report told)
unviewed (Ok x) serve report told none holds = subst (λ (b : Bool). ServedAs b serve report told) (sym none) holds
unviewed (Err e) serve report told none holds = tt

pub viewed-ok : {T : Type 0} {Writer : Type 0} (contents : Writer → Option (List ℕ)) (r : Result T Fault) (serve : Serve) (lines : List PointerLine) (rate : Option paced.Rate) (turns : Option ℕ) (width height : ℕ) (from to : Stand ℕ UnixStream FolderView ℕ UnixStream)
    (first : SessionView) (old new : RecordedView Writer) (report told images imaged : Option (List ℕ)) → is_some serve.viewer ≡ true → old.session ≡ first
    → Agrees first.desk (empty (record { width = serve.size.width; height = serve.size.height })) → IsRightBut nobody (moment_of serve.size first)
    → IsFirst (output_of serve.size) (stage_of serve.size first) → (is_some serve.pointer ≡ false → lines ≡ [])
    → rate ≡ serve.rate → turns ≡ serve.turns → width ≡ serve.size.width → height ≡ serve.size.height → from ≡ begun_viewed serve lines
    → OnOk r (Tells contents (AreViewedTurns socket_ways socket_ways folder_files rate turns width height from to) old new report told images imaged) → OnOk r (IsServedSo serve report told)
viewed-ok {T} {Writer} contents (Ok x) serve lines rate turns width height from to first old new report told images imaged some same agrees right begins unpointed same_rate same_turns wide high same_from takes =
    let at_rate = subst (λ (u : Option paced.Rate). Tells contents (AreViewedTurns socket_ways socket_ways folder_files u turns width height from to) old new report told images imaged) same_rate takes in
    let so_many = subst (λ (n : Option ℕ). Tells contents (AreViewedTurns socket_ways socket_ways folder_files serve.rate n width height from to) old new report told images imaged) same_turns at_rate in
    let as_wide = subst (λ (n : ℕ). Tells contents (AreViewedTurns socket_ways socket_ways folder_files serve.rate serve.turns n height from to) old new report told images imaged) wide so_many in
    let as_high = subst (λ (n : ℕ). Tells contents (AreViewedTurns socket_ways socket_ways folder_files serve.rate serve.turns serve.size.width n from to) old new report told images imaged) high as_wide in
    let over = subst (λ (f : Stand ℕ UnixStream FolderView ℕ UnixStream). Tells contents (AreViewedTurns socket_ways socket_ways folder_files serve.rate serve.turns serve.size.width serve.size.height f to) old new report told images imaged) same_from as_high in
    subst (λ (b : Bool). ServedAs b serve report told) (sym some) (viewed-taken serve lines to first old new report told images imaged same agrees right begins unpointed over)
viewed-ok {T} {Writer} contents (Err e) serve lines rate turns width height from to first old new report told images imaged some same agrees right begins unpointed same_rate same_turns wide high same_from takes = tt

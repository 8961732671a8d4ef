-- What is served: turns of the plain desktop, one after another.
use Rattle.std.specs.Prelude.{◌≡◌, ◌<◌, ◌+◌, ⊤, ℕ, Bool, true, false, is_some, List, [], None, Option}
use Rattle.mio.specs.declared.net.uds.stream.UnixStream.{UnixStream}
use Rattle.wl_server.specs.Sockets.{MayAccept, MayClose, MayMove}
use Rattle.wl_recording.specs.Side.{Files}
use Rattle.wl_recording.specs.declared.pointer.PointerLine.{PointerLine}
use Rattle.wl_program.specs.Folder.{FolderView, folder_files, new_folder}
use Rattle.wl_program.specs.declared.command.Serve.{Serve}
use Rattle.wl_program.specs.declared.fault.Fault.{Fault}
use Rattle.wl_program.specs.declared.fault.Fault.TheVariants.{Read, Write, Side, Bind, Rate, Size, BadLine, Memory}
use Rattle.wl_program.specs.declared.rate.Rate as paced
use Rattle.wl_program.specs.declared.size.Size as declared
use Rattle.spec_desktop.specs.Act.{Act}
use Rattle.spec_desktop.specs.Desktop.{empty}
use Rattle.wl_replay.specs.Told.{IsFirst, Stage}
use Rattle.wl_server.specs.Acting.{InTurn, ShowsScratch, Stretch, Then}
use Rattle.wl_server.specs.Course.{Runs, moment}
use Rattle.wl_server.specs.Events.{Event, Moment}
use Rattle.wl_server.specs.Liars.{nobody}
use Rattle.wl_server.specs.Seats.{nobody as unconnected}
use Rattle.wl_server.specs.View.{SessionView}
use Rattle.wl_server.specs.Telling.{IsToldOf}
use Rattle.wl_server.specs.Viewed.{Stage as Stand}
use Rattle.wl_server.specs.Ways.{Serving, Ways, serving, ways}
use Rattle.wl_replay.specs.Config.{Config}
use Rattle.wl_program.specs.Pace.{count_of, hertz_of, time_of}
use Rattle.wl_program.specs.Steps.{IsStep, IsViewedStep, StartsStep}

-- an output of this size, whose background is black
abbrev pub output_of : declared.Size → Config
output_of size = record { width = size.width; height = size.height; background = record { r = 0; g = 0; b = 0 } }

-- a session of such an output as a moment, at which nobody is connected
abbrev pub moment_of : declared.Size → SessionView → Moment
moment_of size session = moment (empty (record { width = size.width; height = size.height })) session

abbrev pub stage_of : declared.Size → SessionView → Stage
stage_of size session =
    record { first = moment_of size session; events = []; now = moment_of size session }

-- As many turns as are asked are taken, one after another, each at the time that it has at this rate; at a rate with short turns before each.
abbrev pub AreTurns : {H C S : Type 0} → Ways H C → Files S → Option paced.Rate → Option ℕ → Serving H C S → Serving H C S → Stretch
AreTurns w files rate turns from to start acts events end =
    InTurn (λ n. IsStep w files rate (time_of (hertz_of rate) n)) (count_of turns) from to start acts events end

-- Fewer are, and the next one begins, or a short turn before it.
abbrev pub BeginsTurns : {H C S : Type 0} → Ways H C → Files S → Option paced.Rate → Option ℕ → Serving H C S → Serving H C S → Stretch
BeginsTurns w files rate turns from to start acts events end =
    (n : ℕ) × (n < count_of turns)
    × Then (InTurn (λ k. IsStep w files rate (time_of (hertz_of rate) k)) n) (StartsStep w files rate (time_of (hertz_of rate) (n + 1)))
    from to start acts events end

-- what may come of the calls of a socket's hub
abbrev pub socket_ways : Ways ℕ UnixStream
socket_ways = ways MayAccept MayMove MayMove MayClose (λ faults. faults)

-- a socket to which nobody has connected, a folder of which no side file is open, and all lines of the pointer's file
abbrev pub begun_of : Serve → List PointerLine → Serving ℕ UnixStream FolderView
begun_of serve lines = serving 0 unconnected (new_folder serve.dir.now) lines

-- On an output of the size that is asked, from a desktop without clients on, the turns 1 to the last that is asked were taken over the
-- socket, the folder and the lines of the pointer's file, of which there are none where none is named, one after another, each at its time,
-- event by event. Each frame that was shown was the desktop painted from nothing
-- where each client kept its promises. The report goes on from what was there by the lines of these events, and some images by their pictures.
pub record ServedTurns (serve : Serve) (report told : Option (List ℕ)) : Type 0 where
  pub first : Stage
  pub acts : List Act
  pub events : List Event
  pub last : Moment
  pub lines : List PointerLine
  pub to : Serving ℕ UnixStream FolderView
  pub images : Option (List ℕ)
  pub imaged : Option (List ℕ)
  pub begins : IsFirst (output_of serve.size) first
  pub unpointed : is_some serve.pointer ≡ false → lines ≡ []
  pub turns : AreTurns socket_ways folder_files serve.rate serve.turns (begun_of serve lines) to first.now acts events last
  pub runs : Runs first.now acts events last
  pub shows : ShowsScratch nobody events
  pub tells : IsToldOf report told images imaged events

-- ---- with a viewer

-- As many turns as are asked are taken with a viewer of an output of these sides, one after another, each at the time that it has at this rate;
-- at a rate with short turns before each.
abbrev pub AreViewedTurns : {H C S V D : Type 0} → Ways H C → Ways V D → Files S → Option paced.Rate → Option ℕ → ℕ → ℕ → Stand H C S V D → Stand H C S V D → Stretch
AreViewedTurns w v files rate turns width height from to start acts events end =
    InTurn (λ n. IsViewedStep w v files rate (time_of (hertz_of rate) n) width height) (count_of turns) from to start acts events end

-- and a second socket, to which no viewer has connected
abbrev pub begun_viewed : Serve → List PointerLine → Stand ℕ UnixStream FolderView ℕ UnixStream
begun_viewed serve lines = (begun_of serve lines, (0, None))

-- The same was served as without a viewer, over two sockets: in each turn a viewer's lines are taken behind those of the pointer's file, and whoever
-- copies each whole update holds the frame of the tick at its time.
pub record ServedViewed (serve : Serve) (report told : Option (List ℕ)) : Type 0 where
  pub first : Stage
  pub acts : List Act
  pub events : List Event
  pub last : Moment
  pub lines : List PointerLine
  pub to : Stand ℕ UnixStream FolderView ℕ UnixStream
  pub images : Option (List ℕ)
  pub imaged : Option (List ℕ)
  pub begins : IsFirst (output_of serve.size) first
  pub unpointed : is_some serve.pointer ≡ false → lines ≡ []
  pub turns : AreViewedTurns socket_ways socket_ways folder_files serve.rate serve.turns serve.size.width serve.size.height (begun_viewed serve lines) to first.now acts events last
  pub runs : Runs first.now acts events last
  pub shows : ShowsScratch nobody events
  pub tells : IsToldOf report told images imaged events

-- by whether a viewer's socket is asked for
abbrev pub ServedAs : Bool → Serve → Option (List ℕ) → Option (List ℕ) → Type 0
ServedAs false serve report told = ServedTurns serve report told
ServedAs true serve report told = ServedViewed serve report told

abbrev pub IsServedSo : Serve → Option (List ℕ) → Option (List ℕ) → Type 0
IsServedSo serve report told = ServedAs (is_some serve.viewer) serve report told

-- how reading the pointer's file fails: a line is bad only where there is such a file
abbrev pub IsOfPointer : Bool → Fault → Type 0
IsOfPointer there Read = ⊤
IsOfPointer there (BadLine line) = there ≡ true
IsOfPointer there Memory = ⊤
IsOfPointer there Write = ⊥
IsOfPointer there (Side line) = ⊥
IsOfPointer there Bind = ⊥
IsOfPointer there Rate = ⊥
IsOfPointer there Size = ⊥

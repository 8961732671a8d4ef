-- How a run of the program ends, and what it writes.
use Rattle.std.specs.Prelude.{◌≡◌, ◌≢◌, ⊤, ◌⊎◌, ℕ, true, List, Option, is_some}
use Rattle.clap.specs.Words.{IsAmong, Text}
use Rattle.clap.specs.declared.error.kind.ErrorKind.{ErrorKind}
use Rattle.clap.specs.declared.error.kind.ErrorKind.TheVariants.{DisplayHelp, DisplayVersion}
use Rattle.wl_replay.specs.Report.{IsPlayed, StopsAs}
use Rattle.wl_replay.specs.Told.{IsFirst, Stage}
use Rattle.wl_replay.specs.Config.{Config}
use Rattle.wl_recording.specs.declared.error.ReplayError.{ReplayError}
use Rattle.wl_recording.specs.declared.error.ReplayError.TheVariants as stopped
use Rattle.wl_recording.specs.declared.error.Summary.{Summary}
use Rattle.wl_program.specs.Command.{Asks, HasFault, refusals}
use Rattle.wl_program.specs.Folder.{FolderView, folder_files, new_folder}
use Rattle.wl_program.specs.declared.command.Asked.{Asked}
use Rattle.wl_program.specs.declared.command.Asked.TheVariants as asked
use Rattle.wl_program.specs.declared.command.CommandError.{CommandError}
use Rattle.wl_program.specs.declared.command.Replay.{Replay}
use Rattle.wl_program.specs.declared.command.Serve.{Serve}
use Rattle.wl_program.specs.declared.fault.Fault.{Fault}
use Rattle.wl_program.specs.declared.fault.Fault.TheVariants.{Read, Write, Side, Bind, Rate, Size, BadLine, Memory}
use Rattle.wl_program.specs.declared.fault.Status.{Status}
use Rattle.wl_program.specs.declared.fault.Status.TheVariants as status
use Rattle.wl_program.specs.Serving.{IsServedSo, output_of}

-- the output of a replay
abbrev pub config_of : Replay → Config
config_of replay = output_of replay.size

-- the side files are those of the replay's folder
abbrev pub folder_of : Replay → FolderView
folder_of replay = new_folder replay.dir.now

-- The whole recording was read and told of.
abbrev pub IsReported : Replay → Option (List ℕ) → Option (List ℕ) → Option (List ℕ) → Type 0
IsReported replay read report reported =
    (summary : Summary) × (images : Option (List ℕ)) × (imaged : Option (List ℕ)) × (side : FolderView)
    × (first : Stage) × IsFirst (config_of replay) first
    × IsPlayed folder_files first (folder_of replay) side summary read report reported images imaged

-- The recording was told of up to the line by whose fault it stopped.
abbrev pub IsReportedTo : ReplayError → Replay → Option (List ℕ) → Option (List ℕ) → Option (List ℕ) → Type 0
IsReportedTo error replay read report reported =
    (images : Option (List ℕ)) × (imaged : Option (List ℕ)) × (side : FolderView)
    × (first : Stage) × IsFirst (config_of replay) first
    × StopsAs folder_files error first (folder_of replay) side read report reported images imaged

-- How a replay fails. Nothing is said of what was told where a stream failed or memory was wanted.
abbrev pub Fails : Fault → Replay → Option (List ℕ) → Option (List ℕ) → Option (List ℕ) → Type 0
Fails (BadLine line) replay read report reported = IsReportedTo (stopped.BadLine line) replay read report reported
Fails (Side line) replay read report reported = IsReportedTo (stopped.Side line) replay read report reported
Fails Bind replay read report reported = ⊥
Fails Rate replay read report reported = ⊥
Fails Size replay read report reported = ⊥
Fails Read replay read report reported = ⊤
Fails Write replay read report reported = ⊤
Fails Memory replay read report reported = ⊤

-- a pointer's file was asked for, and nothing was told
abbrev pub IsUntold : Serve → Option (List ℕ) → Option (List ℕ) → Type 0
IsUntold serve report reported = (is_some serve.pointer ≡ true) × (reported ≡ report)

-- How serving fails: before its first turn, so that nothing was told, or as something is written. Then nothing is said of what was told.
abbrev pub FailsServing : Fault → Serve → Option (List ℕ) → Option (List ℕ) → Type 0
FailsServing (BadLine line) serve report reported = IsUntold serve report reported
FailsServing (Side line) serve report reported = ⊥
FailsServing Rate serve report reported = ⊥
FailsServing Size serve report reported = ⊥
FailsServing Bind serve report reported = reported ≡ report
FailsServing Read serve report reported = reported ≡ report
FailsServing Write serve report reported = ⊤
FailsServing Memory serve report reported = reported ≡ report

-- help or the version was asked for
abbrev pub IsShown : ErrorKind → Type 0
IsShown kind = (kind ≡ DisplayHelp) ⊎ (kind ≡ DisplayVersion)

abbrev pub IsMisuse : ErrorKind → Type 0
IsMisuse kind = (kind ≢ DisplayHelp) × (kind ≢ DisplayVersion)

-- how the program ends where what clap says was to be shown
abbrev pub IsToldBy : ErrorKind → Status → Type 0
IsToldBy kind status.Done = IsShown kind
IsToldBy kind status.Usage = IsMisuse kind
IsToldBy kind status.Failed = ⊤
IsToldBy kind status.BadLine = ⊥
IsToldBy kind status.Memory = ⊥

-- Done: the recording was played and told of, or as many turns as were asked for were taken and told of, or help or the version was shown.
-- Usage: the words are refused, or the size or the rate is none. BadLine: the recording was played up to a line, or a pointer's file was
-- asked for and nothing told. Failed: a stream, a side file or the socket failed of what the words ask, or what was to be shown couldn't be.
-- Memory: memory was wanted, and where no recording was to be played, nothing was told.
abbrev pub Ends : List Text → Status → Option (List ℕ) → Option (List ℕ) → Option (List ℕ) → Type 0
Ends words status.Done read report reported =
    ((replay : Replay) × Asks words (asked.Replay replay) × IsReported replay read report reported)
    ⊎ ((((kind : ErrorKind) × IsAmong kind (refusals words) × IsShown kind) × (reported ≡ report))
    ⊎ ((serve : Serve) × Asks words (asked.Serve serve) × IsServedSo serve report reported))
Ends words status.Usage read report reported =
    (((kind : ErrorKind) × IsAmong kind (refusals words) × IsMisuse kind) ⊎ ((error : CommandError) × HasFault words error))
    × (reported ≡ report)
Ends words status.BadLine read report reported =
    ((replay : Replay) × (line : ℕ) × Asks words (asked.Replay replay) × IsReportedTo (stopped.BadLine line) replay read report reported)
    ⊎ ((serve : Serve) × Asks words (asked.Serve serve) × IsUntold serve report reported)
Ends words status.Failed read report reported =
    ((asks : Asked) × Asks words asks) ⊎ (((kind : ErrorKind) × IsAmong kind (refusals words)) × (reported ≡ report))
Ends words status.Memory read report reported = ((replay : Replay) × Asks words (asked.Replay replay)) ⊎ (reported ≡ report)

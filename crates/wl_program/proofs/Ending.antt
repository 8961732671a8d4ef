-- How the program ends, by what its parts answer.
use Rattle.std.proofs.Common.{◌≡◌, refl, ◌∙◌, inl, inr, ℕ, Bool, true, false, List, Option, Some, None, Result, Ok, Err}
use Rattle.std.specs.Result.{OnErr, OnOk}
use Rattle.std.specs.Io.KnownBytes.{Appends, Keeps}
use Rattle.clap.specs.Words.{IsAmong, Text}
use Rattle.clap.specs.declared.error.kind.ErrorKind.{ErrorKind}
use Rattle.wl_replay.specs.Report.{IsPlayed, Reported, StopsAs}
use Rattle.wl_recording.specs.Side.{Files}
use Rattle.wl_replay.specs.Told.{IsFirst, Stage}
use Rattle.wl_recording.specs.declared.error.ReplayError.{ReplayError}
use Rattle.wl_recording.specs.declared.error.ReplayError.TheVariants as stopped
use Rattle.wl_recording.specs.declared.error.Summary.{Summary}
use Rattle.wl_program.specs.Command.{Asks, IsRefused, refusals}
use Rattle.wl_program.specs.Folder.{FolderView, folder_files}
use Rattle.wl_program.specs.Run.{Ends, Fails, FailsServing, IsReported, IsToldBy, config_of, folder_of}
use Rattle.wl_program.specs.Status.{fault_by, fault_with, status_of}
use Rattle.wl_program.specs.declared.command.Asked.TheVariants as asked
use Rattle.wl_program.specs.declared.command.CommandError.TheVariants as refused
use Rattle.wl_program.specs.declared.command.Replay.{Replay}
use Rattle.wl_program.specs.declared.command.Serve.{Serve}
use Rattle.wl_program.specs.declared.fault.Fault.{Fault}
use Rattle.wl_program.specs.declared.fault.Fault.TheVariants.{Read, Write, Side, Bind, Rate, Size, BadLine, Memory}
use Rattle.wl_program.specs.declared.fault.Status.{Status}
use Rattle.wl_program.specs.declared.fault.Status.TheVariants as status

-- what was appended stays appended where the bytes are kept
appends-kept : (old mid new : Option (List ℕ)) (text : List ℕ) → Appends old mid text → Keeps mid new → Appends old new text
appends-kept None mid new text appends keeps = tt
appends-kept (Some xs) None new text appends keeps = absurd appends
appends-kept (Some xs) (Some ys) None text appends keeps = absurd keeps
appends-kept (Some xs) (Some ys) (Some zs) text appends keeps = keeps ∙ appends

reported-kept : {S : Type 0} (files : Files S) (first : Stage) (from to : S) (read left report mid reported images imaged : Option (List ℕ))
    → Reported files first from to read left report mid images imaged → Keeps mid reported → Reported files first from to read left report reported images imaged
reported-kept files first from to read left report mid reported images imaged r keeps = record {
  lines = r.lines;
  told = r.told;
  last = r.last;
  few = r.few;
  reads = r.reads;
  tells = r.tells;
  calm = r.calm;
  written = appends-kept report mid reported r.told.text r.written keeps;
  shown = r.shown;
}

-- what holds holds at an Ok
pub on_ok : {T E P : Type 0} (r : Result T E) → P → OnOk r P
on_ok (Ok x) p = p
on_ok (Err e) p = tt

pub on_err : {T E P : Type 0} (r : Result T E) → P → OnErr r P
on_err (Ok x) p = tt
on_err (Err e) p = p

-- a recording that was played is reported once the report is flushed
pub played-kept : (replay : Replay) (summary : Summary) (from side : FolderView) (read report mid reported images imaged : Option (List ℕ)) → from ≡ folder_of replay
    → (first : Stage) × IsFirst (config_of replay) first × IsPlayed folder_files first from side summary read report mid images imaged → Keeps mid reported → IsReported replay read report reported
unfolding reported-kept
played-kept replay summary from side read report mid reported images imaged is played keeps =
    let p = played.2 in
    rw (← is) (summary, images, imaged, side, played.0, played.1, (p.0, reported-kept _ _ _ _ read p.0 report mid reported images imaged p.1 keeps, p.2, p.3))

-- and one that was stopped is told of as far
pub stops-kept : (replay : Replay) (error : ReplayError) (from side : FolderView) (read report mid reported images imaged : Option (List ℕ)) → from ≡ folder_of replay
    → (first : Stage) × IsFirst (config_of replay) first × StopsAs folder_files error first from side read report mid images imaged → Keeps mid reported
    → Fails (fault_by error) replay read report reported
unfolding reported-kept
stops-kept replay stopped.Read from side read report mid reported images imaged is stops keeps = tt
stops-kept replay stopped.Write from side read report mid reported images imaged is stops keeps = tt
stops-kept replay (stopped.BadLine line) from side read report mid reported images imaged is stops keeps =
    let s = stops.2 in
    rw (← is) (images, imaged, side, stops.0, stops.1, (s.0, reported-kept _ _ _ _ read s.0 report mid reported images imaged s.1 keeps, s.2, s.3))
stops-kept replay (stopped.Side line) from side read report mid reported images imaged is stops keeps =
    let s = stops.2 in
    rw (← is) (images, imaged, side, stops.0, stops.1, (s.0, s.1, reported-kept _ _ _ _ read s.0 report mid reported images imaged s.2 keeps, s.3, s.4))
stops-kept replay stopped.Memory from side read report mid reported images imaged is stops keeps = tt

-- or fails for want of memory, of which nothing is said
pub stops-with : (lacks : Bool) (replay : Replay) (error : ReplayError) (from side : FolderView) (read report mid reported images imaged : Option (List ℕ)) → from ≡ folder_of replay
    → (first : Stage) × IsFirst (config_of replay) first × StopsAs folder_files error first from side read report mid images imaged → Keeps mid reported
    → Fails (fault_with lacks error) replay read report reported
stops-with true replay (stopped.Side line) from side read report mid reported images imaged is stops keeps = tt
stops-with true replay stopped.Read from side read report mid reported images imaged is stops keeps = tt
stops-with true replay stopped.Write from side read report mid reported images imaged is stops keeps = tt
stops-with true replay (stopped.BadLine line) from side read report mid reported images imaged is stops keeps =
    stops-kept replay (stopped.BadLine line) from side read report mid reported images imaged is stops keeps
stops-with true replay stopped.Memory from side read report mid reported images imaged is stops keeps = tt
stops-with false replay error from side read report mid reported images imaged is stops keeps = stops-kept replay error from side read report mid reported images imaged is stops keeps

-- a replay that fails ends the program by its fault's status
pub fails-ends : (words : List Text) (replay : Replay) (fault : Fault) (read report reported : Option (List ℕ)) → Asks words (asked.Replay replay)
    → Fails fault replay read report reported → Ends words (status_of fault) read report reported
fails-ends words replay Read read report reported asks fails = inl (asked.Replay replay, asks)
fails-ends words replay Write read report reported asks fails = inl (asked.Replay replay, asks)
fails-ends words replay (Side line) read report reported asks fails = inl (asked.Replay replay, asks)
fails-ends words replay Bind read report reported asks fails = absurd fails
fails-ends words replay Rate read report reported asks fails = absurd fails
fails-ends words replay Size read report reported asks fails = absurd fails
fails-ends words replay (BadLine line) read report reported asks fails = inl (replay, line, asks, fails)
fails-ends words replay Memory read report reported asks fails = inl (replay, asks)

-- and so does serving that fails
pub serving-ends : (words : List Text) (serve : Serve) (fault : Fault) (read report reported : Option (List ℕ)) → Asks words (asked.Serve serve)
    → FailsServing fault serve report reported → Ends words (status_of fault) read report reported
serving-ends words serve Read read report reported asks fails = inl (asked.Serve serve, asks)
serving-ends words serve Write read report reported asks fails = inl (asked.Serve serve, asks)
serving-ends words serve (Side line) read report reported asks fails = absurd fails
serving-ends words serve Bind read report reported asks fails = inl (asked.Serve serve, asks)
serving-ends words serve Rate read report reported asks fails = absurd fails
serving-ends words serve Size read report reported asks fails = absurd fails
serving-ends words serve (BadLine line) read report reported asks fails = inr (serve, asks, fails)
serving-ends words serve Memory read report reported asks fails = inr fails

-- what is shown of the usage ends the program, and nothing is reported
pub shown-ends : (words : List Text) (kind : ErrorKind) (how : Status) (read report : Option (List ℕ)) → IsAmong kind (refusals words)
    → IsToldBy kind how → Ends words how read report report
shown-ends words kind status.Done read report among told = inr (inl ((kind, among, told), refl))
shown-ends words kind status.Failed read report among told = inr ((kind, among), refl)
shown-ends words kind status.Usage read report among told = (inl (kind, among, told), refl)
shown-ends words kind status.BadLine read report among told = absurd told
shown-ends words kind status.Memory read report among told = absurd told

-- and so does a fault of the words
pub refused-ends : (words : List Text) (fault : Fault) (read report : Option (List ℕ)) → IsRefused words (refused.Fault fault)
    → Ends words (status_of fault) read report report
refused-ends words Rate read report has = (inr (refused.Fault Rate, has), refl)
refused-ends words Size read report has = (inr (refused.Fault Size, has), refl)
refused-ends words Memory read report has = inr refl
refused-ends words Read read report has = absurd has.1
refused-ends words Write read report has = absurd has.1
refused-ends words (Side line) read report has = absurd has.1
refused-ends words Bind read report has = absurd has.1
refused-ends words (BadLine line) read report has = absurd has.1

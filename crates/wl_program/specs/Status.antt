-- The exit status of a fault, and which fault a replay's error is.
use Rattle.std.specs.Prelude.{Bool, true}
use Rattle.wl_program.specs.declared.fault.Fault.{Fault}
use Rattle.wl_program.specs.declared.fault.Fault.TheVariants.{Read, Write, Side, Bind, Rate, Size, BadLine, Memory}
use Rattle.wl_recording.specs.declared.error.ReplayError.{ReplayError}
use Rattle.wl_recording.specs.declared.error.ReplayError.TheVariants as stopped
use Rattle.wl_program.specs.declared.fault.Status.{Status}
use Rattle.wl_program.specs.declared.fault.Status.TheVariants as status

abbrev pub status_of : Fault → Status
status_of Read = status.Failed
status_of Write = status.Failed
status_of (Side line) = status.Failed
status_of Bind = status.Failed
status_of Rate = status.Usage
status_of Size = status.Usage
status_of (BadLine line) = status.BadLine
status_of Memory = status.Memory

abbrev pub fault_by : ReplayError → Fault
fault_by stopped.Read = Read
fault_by stopped.Write = Write
fault_by (stopped.BadLine line) = BadLine line
fault_by (stopped.Side line) = Side line
fault_by stopped.Memory = Memory

-- The same, where it is known whether there was no memory to open a side file: that isn't the file's fault.
abbrev pub fault_with : Bool → ReplayError → Fault
fault_with true (stopped.Side line) = Memory
fault_with lacks_memory error = fault_by error

-- A call of the system on child processes as it is recorded, with the command itself in place of what it says. What is
-- printed is nothing.
use Rattle.std.specs.Prelude.{[], Option, Result, Ok, Err}
use Rattle.std.specs.Global.{Global}
use Rattle.std.specs.declared.io.ErrorKind.{ErrorKind}
use Rattle.std.specs.declared.process.command.Command.{Command}
use Rattle.std.specs.declared.process.status.ExitStatus.{ExitStatus}
use Rattle.child_devices.specs.ChildCalls as Child
use Rattle.child_devices.specs.ChildCalls.{ChildCall, Printing, start_of}

pub data ChildNote : Type 0 where
  Started : (call : Command Global) → (failure : Option ErrorKind) → ChildNote
  Asked : (answer : Result (Option ExitStatus) ErrorKind) → ChildNote
  Killed : (failure : Option ErrorKind) → ChildNote
  Waited : (answer : Result ExitStatus ErrorKind) → ChildNote
  Printed : (call : Command Global) → (answer : Result ExitStatus ErrorKind) → ChildNote

-- what a script printed that printed nothing
abbrev pub printed_nothing : Result ExitStatus ErrorKind → Result Printing ErrorKind
printed_nothing (Ok status) = Ok (record { status = status; text = [] })
printed_nothing (Err kind) = Err kind

abbrev pub call_of : ChildNote → ChildCall
call_of (Started call failure) = Child.Started (start_of call) failure
call_of (Asked answer) = Child.Asked answer
call_of (Killed failure) = Child.Killed failure
call_of (Waited answer) = Child.Waited answer
call_of (Printed call answer) = Child.Printed (start_of call) (printed_nothing answer)

-- How an entry is recorded.
use Rattle.telling_machines.specs.ChildNotes as Note
use Rattle.telling_machines.specs.ChildNotes.{ChildNote}
use Rattle.telling_machines.specs.declared.child_records.ChildEntry.{ChildEntry}
use Rattle.telling_machines.specs.declared.child_records.ChildEntry.TheVariants.{Started, Asked, Killed, Waited, Printed}

abbrev pub note_of : ChildEntry → ChildNote
note_of (Started call failure) = Note.Started call.now failure
note_of (Asked answer) = Note.Asked answer
note_of (Killed failure) = Note.Killed failure
note_of (Waited answer) = Note.Waited answer
note_of (Printed call answer) = Note.Printed call.now answer

-- What the answers of the top call mean.
use Rattle.std.specs.Prelude.{ℕ, ◌<◌, ◌≤◌}
use Rattle.text_works.specs.declared.status.Status.{Status}
use Rattle.text_works.specs.declared.status.Status.TheVariants as status

-- the exit status
abbrev pub status_number : Status → ℕ
status_number status.Done = 0
status_number status.Usage = 2
status_number (status.Script fault) = 3
status_number (status.Conf fault) = 4
status_number status.ReadFault = 5
status_number status.WriteFault = 6
status_number status.LinkFault = 7
status_number status.TurnsOver = 8
status_number status.TooLong = 9
status_number status.NoMemory = 10
status_number (status.Transcript line) = 11
status_number status.Unjustified = 12
status_number (status.Lease line) = 13
status_number (status.Capture cause) = 14
status_number (status.Schedule line) = 15

-- the answers to a good input over streams that don't fail
abbrev pub Completes : Status → Type 0
Completes status.Done = Unit {0}
Completes status.NoMemory = Unit {0}
Completes other = ⊥

-- faults come only where the count of that stream rose
abbrev pub HasStatusCause : Status → ℕ → ℕ → ℕ → ℕ → Type 0
HasStatusCause status.ReadFault input input' out out' = (input < input') × (out ≤ out')
HasStatusCause status.WriteFault input input' out out' = (input ≤ input') × (out < out')
HasStatusCause other input input' out out' = (input ≤ input') × (out ≤ out')

-- the answers that reading can end in
abbrev pub StopsReading : Status → Type 0
StopsReading status.ReadFault = Unit {0}
StopsReading status.TooLong = Unit {0}
StopsReading status.NoMemory = Unit {0}
StopsReading other = ⊥

-- the answers that writing can end in
abbrev pub StopsWriting : Status → Type 0
StopsWriting status.WriteFault = Unit {0}
StopsWriting status.NoMemory = Unit {0}
StopsWriting other = ⊥

-- What the tables of the host want of their script. `old` and `new` are the calls of the system before and after, the
-- last one first.
use Rattle.std.specs.Prelude.{ℕ, pos, ◌==◌, true, ◌≡◌, ◌≢◌, ◌⊎◌, List, [], ◌∷◌, ◌++◌, codes, Option, None, Some, Result, Ok, Err}
use Rattle.std.specs.List.{slice_split}
use Rattle.std.specs.Process.{exit_code}
use Rattle.std.specs.declared.io.ErrorKind.{ErrorKind}
use Rattle.std.specs.declared.io.ErrorKind.TheVariants as kind
use Rattle.std.specs.declared.process.status.ExitStatus.{ExitStatus}
use Rattle.world.specs.declared.faults.DeviceAnswer.{DeviceAnswer}
use Rattle.world.specs.declared.faults.DeviceAnswer.TheVariants as Answer
use Rattle.world.specs.declared.rows.HostRow.{HostRow}
use Rattle.world.specs.RowText.{row_text}
use Rattle.system_calls.specs.Asking.{Does, reason_of}
use Rattle.child_devices.specs.ChildCalls.{ChildCall, Started, Waited, Printed, Start, Printing}
use Rattle.child_devices.specs.Listings.{IsListing}
use Rattle.child_devices.specs.declared.commands.Change.{Change}
use Rattle.child_devices.specs.declared.commands.Change.TheVariants.{Add, Remove}

-- a script runs with these words, in the environment of this process
pub record RunsScript (script : List ℕ) (words : List (List ℕ)) (start : Start) : Type 0 where
  pub named : start.program ≡ script
  pub worded : start.words ≡ words
  pub inherits : start.inherits ≡ true
  pub unsaid : (name : List ℕ) → start.said name ≡ None

-- the script's word for a change
abbrev pub change_word : Change → List ℕ
change_word Add = codes "host-add"
change_word Remove = codes "host-del"

-- what is between the blanks of a text
abbrev pub words_of : List ℕ → List (List ℕ)
words_of text = slice_split (λ byte. byte == 32) text

-- A script has done its work where it ended with status 0.
abbrev pub EndsAs : Result ExitStatus ErrorKind → Option ErrorKind → Type 0
EndsAs (Ok status) None = exit_code status ≡ Some (pos 0)
EndsAs (Ok status) (Some failure) = (exit_code status ≢ Some (pos 0)) × (failure ≡ kind.Other)
EndsAs (Err reason) failure = failure ≡ Some reason

-- A script is started and waited for. One that can't be started isn't waited for.
abbrev pub Runs : Start → (old new : Option (List ChildCall)) → (failure : Option ErrorKind) → Type 0
Runs start old new failure =
    ((reason : ErrorKind) × (failure ≡ Some reason) × Does (Started start (Some reason) ∷ []) old new)
    ⊎ ((answer : Result ExitStatus ErrorKind) × EndsAs answer failure
    × Does (Waited answer ∷ Started start None ∷ []) old new)

-- a row is changed by the script, with the word for it and those of the row
pub record ChangesRow (script word : List ℕ) (row : HostRow) (old new : Option (List ChildCall))
    (failure : Option ErrorKind) : Type 0 where
  pub start : Start
  pub call : RunsScript script (word ∷ words_of (row_text row)) start
  pub runs : Runs start old new failure

-- the rows of a listing that a script printed were appended
pub record AppendsListing (start : Start) (old new : Option (List ChildCall)) (before after : List HostRow)
    : Type 0 where
  pub printing : Printing
  pub done : exit_code printing.status ≡ Some (pos 0)
  pub asked : Does (Printed start (Ok printing) ∷ []) old new
  pub kept : List HostRow
  pub listing : IsListing printing.text kept
  pub appended : after ≡ before ++ kept

-- Why nothing is listed: the script could not be run, or what it printed was not taken.
abbrev pub IsUnlisted : DeviceAnswer → Result Printing ErrorKind → Type 0
IsUnlisted answer (Ok printing) = Unit {0}
IsUnlisted answer (Err kind) = answer ≡ reason_of kind

-- The host lists the rows that its script prints. For want of memory nothing may be asked.
abbrev pub ListsRowsOf : {T : Type 0} → (script : List ℕ) → (old new : Option (List ChildCall))
    → (before after : List HostRow) → Result T DeviceAnswer → Type 0
ListsRowsOf script old new before after (Ok x) =
    (start : Start) × RunsScript script (codes "host-list" ∷ []) start × AppendsListing start old new before after
ListsRowsOf script old new before after (Err failure) =
    ((failure ≡ Answer.NoMemory) × (new ≡ old))
    ⊎ ((start : Start) × RunsScript script (codes "host-list" ∷ []) start
    × ((answer : Result Printing ErrorKind) × IsUnlisted failure answer × Does (Printed start answer ∷ []) old new))

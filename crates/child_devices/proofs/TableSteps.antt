-- What a script that is run to its end makes of what is told of the host's tables.
use Rattle.std.proofs.Common.{◌≡◌, ℕ, Bool, true, false, codes, List, [], ◌∷◌, All, length, Option, None, Some, Result, Ok, Err, option_map, is_ok, refl, sym, ap, subst, ◌∙◌, inl, inr, pos, arith}
use Rattle.std.specs.Prelude.{IfSome, OnOk}
use Rattle.std.specs.Global.{Global}
use Rattle.std.specs.Process.{exit_code}
use Rattle.std.specs.declared.io.ErrorKind.{ErrorKind}
use Rattle.std.specs.declared.process.status.ExitStatus.{ExitStatus}
use Rattle.std.specs.declared.process.status.Output.{Output}
use Rattle.world.specs.declared.faults.DeviceAnswer.{DeviceAnswer}
use Rattle.world.specs.declared.rows.HostRow.{HostRow}
use Rattle.world.specs.HostCalls.{HostCall, HostTold, host_answered, FailedChange, Changes}
use Rattle.world.specs.Rows.{IsRow}
use Rattle.system_calls.specs.Asking.{failure_of, Answered}
use Rattle.world.specs.RowOrder.{in_row_order}
use Rattle.child_devices.specs.ChildCalls.{Started, Waited, Printed, Start, Printing, printed}
use Rattle.system_calls.specs.Counts.{AnswersAs}
use Rattle.child_devices.specs.HostNotes.{call_noted, noted, answered_by, told_while, host_told, note_of, call_of, LeavesTold, ChangesTold, ListsText, ListsTold}
use Rattle.child_devices.specs.HostScripts.{RunsScript, EndsAs}
use Rattle.child_devices.specs.HostTables.{TablesHeld, IsChange, changed, IsMade, Begins, Prints, Holds, Tells}
use Rattle.child_devices.specs.Listings.{IsListing}
use Rattle.child_devices.specs.declared.commands.Change.{Change}
use Rattle.child_devices.specs.declared.commands.Change.TheVariants.{Add, Remove}
use Rattle.child_devices.specs.declared.processes.HostNote.{HostNote}
use Rattle.system_calls.proofs.Doing.{answered_so}
use Rattle.child_devices.proofs.OneListing.{one_listing}

-- ---- a script that changes a row

as_it_was : (by : List HostRow → List HostRow) (kind : ErrorKind) (old new : Option HostTold) → new ≡ old → LeavesTold by (Some kind) old new
as_it_was by kind None new same = same
as_it_was by kind (Some told) new same = (told.rows, inl refl, same)

unstarted_at : (by : List HostRow → List HostRow) (script : List ℕ) (start : Start) (kind : ErrorKind) (old new : Option TablesHeld)
    → Holds script (Started start (Some kind)) old new → LeavesTold by (Some kind) (host_told old) (host_told new)
unstarted_at by script start kind None new holds = ap host_told holds
unstarted_at by script start kind (Some old) new holds = as_it_was by kind (host_told (Some old)) (host_told new) (ap host_told holds)

pub unstarted_tables : (start : Start) (kind : ErrorKind) (old new : List ℕ → Option TablesHeld) → Tells (Started start (Some kind)) old new
    → ChangesTold start (Some kind) old new
unstarted_tables start kind old new tells script change row is =
    unstarted_at (changed change row) script start kind (old script) (new script) (tells script)

module _ (script : List ℕ) (change : Change) (row : HostRow) (start : Start) (is : IsChange script change row start) (answer : Result ExitStatus ErrorKind)
    (failure : Option ErrorKind) (ends : EndsAs answer failure) where
  run_from : (running : Option Start) (old : TablesHeld) (mid new : Option TablesHeld) → Begins start running old mid → Holds script (Waited answer) mid new
      → LeavesTold (changed change row) failure (told_while running old) (host_told new)
  run_from None old mid new begins holds =
      let (rows, leaves, last) = subst (λ m. Holds script (Waited answer) m new) begins holds in
      (rows, leaves.changes change row failure is ends, ap host_told last)
  run_from (Some other) old mid new begins holds = ap host_told (subst (λ m. Holds script (Waited answer) m new) begins holds)

  run_at : (old mid new : Option TablesHeld) → Holds script (Started start None) old mid → Holds script (Waited answer) mid new
      → LeavesTold (changed change row) failure (host_told old) (host_told new)
  run_at None mid new begins holds = ap host_told (subst (λ m. Holds script (Waited answer) m new) begins holds)
  run_at (Some old) mid new begins holds = run_from old.running old mid new begins holds

pub run_tables : (start : Start) (answer : Result ExitStatus ErrorKind) (failure : Option ErrorKind) (old mid new : List ℕ → Option TablesHeld)
    → EndsAs answer failure → Tells (Started start None) old mid → Tells (Waited answer) mid new → ChangesTold start failure old new
run_tables start answer failure old mid new ends begins waited script change row is =
    run_at script change row start is answer failure ends (old script) (mid script) (new script) (begins script) (waited script)

-- ---- a call that is noted

noted_while : (call : HostNote) (held : TablesHeld) (running : Option Start)
    → told_while running (noted call held) ≡ option_map (answered_by call) (told_while running held)
noted_while call held None = refl
noted_while call held (Some start) = refl

noted_at : (call : HostNote) (old : Option TablesHeld) → host_told (option_map (noted call) old) ≡ option_map (answered_by call) (host_told old)
noted_at call None = refl
noted_at call (Some held) = noted_while call held held.running

pub noted_told : (call : HostNote) (old new : Option TablesHeld) → new ≡ option_map (noted call) old
    → host_told new ≡ option_map (answered_by call) (host_told old)
noted_told call old new is = ap host_told is ∙ noted_at call old

-- calls after which something was noted
pub noted_so : {C T : Type 0} (asked : (new : C) → Option ErrorKind → Type 0) (old mid new : C) (failure : Option ErrorKind) (result : Result T DeviceAnswer)
    → new ≡ mid → asked mid failure → AnswersAs failure result → Answered (asked new) (new ≡ old) result
noted_so asked old mid new failure result same did answers =
    answered_so (asked new) (new ≡ old) failure result (subst (λ now. asked now failure) (sym same) did) answers

-- ---- a change that is noted

module _ {T : Type 0} (by : List HostRow → List HostRow) (call : Bool → HostCall) where
  ended_so : (ended : Result (Unit {0}) ErrorKind) (told : HostTold) (rows : List HostRow) (new : Option HostTold) (result : Result T DeviceAnswer)
      → AnswersAs (failure_of ended) result → IsMade by (failure_of ended) told.rows rows → new ≡ Some (host_answered (call (is_ok ended)) rows told)
      → Changes None by call (Some told) new result
  ended_so (Ok x) told rows new (Ok y) answers made is = is ∙ ap (λ rows. Some (host_answered (call true) rows told)) made
  ended_so (Ok x) told rows new (Err answer) answers made is = absurd answers
  ended_so (Err kind) told rows new (Ok y) answers made is = absurd answers
  ended_so (Err kind) told rows new (Err answer) answers made is = rw answers (failed made)
    where
      failed : IsMade by (Some kind) told.rows rows → FailedChange None (call false) (by told.rows) told new
      failed (inl same) = inl (is ∙ ap (λ rows. Some (host_answered (call false) rows told)) same)
      failed (inr changed) = inr (is ∙ ap (λ rows. Some (host_answered (call false) rows told)) changed)

call_is : (change : Change) (row : HostRow) (done : Bool) (rows : List HostRow) → call_noted (note_of change row done) rows ≡ call_of change row done
call_is Add row done rows = refl
call_is Remove row done rows = refl

pub changed_told : {T : Type 0} (change : Change) (row : HostRow) (ended : Result (Unit {0}) ErrorKind) (done : Bool) (note : HostNote)
    (result : Result T DeviceAnswer) (old mid new : Option HostTold) → LeavesTold (changed change row) (failure_of ended) old mid
    → done ≡ is_ok ended → note ≡ note_of change row done → new ≡ option_map (answered_by note) mid → AnswersAs (failure_of ended) result
    → Changes None (changed change row) (call_of change row) old new result
changed_told change row ended done note result None mid new leaves is noted new_is answers = new_is ∙ ap (option_map (answered_by note)) leaves
changed_told change row ended done note result (Some told) mid new (rows, made, mid_is) is noted new_is answers =
    ended_so (changed change row) (call_of change row) ended told rows new result answers made
    (new_is ∙ ap (option_map (answered_by note)) mid_is
    ∙ ap (λ call. Some (host_answered call rows told))
    (ap (λ note. call_noted note rows) noted ∙ call_is change row done rows ∙ ap (call_of change row) is))

-- ---- a listing

abbrev first_of : List (List ℕ) → List ℕ
first_of [] = []
first_of (word ∷ words) = word

not_both : (n : ℕ) → n ≡ 9 → n ≡ 8 → ⊥
not_both n nine eight = omega arith

lists_only : (script : List ℕ) (start : Start) → RunsScript script (codes "host-list" ∷ []) start → (change : Change) (row : HostRow)
    → ¬ (IsChange script change row start)
lists_only script start lists Add row is =
    not_both (length (first_of start.words)) (ap (λ words. length (first_of words)) lists.worded) (ap (λ words. length (first_of words)) is.1.worded)
lists_only script start lists Remove row is =
    not_both (length (first_of start.words)) (ap (λ words. length (first_of words)) lists.worded) (ap (λ words. length (first_of words)) is.1.worded)

module _ (script : List ℕ) (start : Start) (answer : Result Printing ErrorKind) (lists : RunsScript script (codes "host-list" ∷ []) start) where
  same_from : (running : Option Start) (old : TablesHeld) (new : Option TablesHeld) → Prints script start answer running old new
      → host_told new ≡ told_while running old
  same_from None old new (rows, leaves, shows, is) =
      ap host_told is ∙ ap (λ rows. Some (record { rows = rows; calls = old.calls })) (leaves.keeps (lists_only script start lists))
  same_from (Some other) old new is = ap host_told is

  same_at : (old new : Option TablesHeld) → Holds script (Printed start answer) old new → host_told new ≡ host_told old
  same_at None new holds = ap host_told holds
  same_at (Some old) new holds = same_from old.running old new holds

pub listing_keeps : (script : List ℕ) (start : Start) (answer : Result Printing ErrorKind) (old new : List ℕ → Option TablesHeld)
    → RunsScript script (codes "host-list" ∷ []) start → Tells (Printed start answer) old new → host_told (new script) ≡ host_told (old script)
listing_keeps script start answer old new lists tells = same_at script start answer lists (old script) (new script) (tells script)

module _ (script : List ℕ) (start : Start) (printing : Printing) (lists : RunsScript script (codes "host-list" ∷ []) start)
    (done : exit_code printing.status ≡ Some (pos 0)) (kept : List HostRow) (listing : IsListing printing.text kept) (are : All IsRow kept) where
  rows_from : (running : Option Start) (old : TablesHeld) (new : Option TablesHeld) → Prints script start (Ok printing) running old new
      → IfSome (told_while running old) (λ told. kept ≡ told.rows)
  rows_from None old new (rows, leaves, shows, is) =
      let held = shows lists done in
      one_listing printing.text kept rows listing held.0 are held.1 ∙ leaves.keeps (lists_only script start lists)
  rows_from (Some other) old new is = tt

  rows_at : (old new : Option TablesHeld) → Holds script (Printed start (Ok printing)) old new → IfSome (host_told old) (λ told. kept ≡ told.rows)
  rows_at None new holds = tt
  rows_at (Some old) new holds = rows_from old.running old new holds

in_order_too : (kept : List HostRow) (told : Option HostTold) → in_row_order kept ≡ kept → IfSome told (λ told. kept ≡ told.rows)
    → IfSome told (λ told. in_row_order kept ≡ told.rows)
in_order_too kept None stays is = tt
in_order_too kept (Some told) stays is = stays ∙ is

pub printed_told : {T : Type 0} (script : List ℕ) (start : Start) (output : Output Global) (result : Result T DeviceAnswer)
    (tables after : List ℕ → Option TablesHeld) (old new : List HostRow) → RunsScript script (codes "host-list" ∷ []) start
    → Tells (Printed start (printed (Ok output))) tables after → OnOk result (exit_code output.status ≡ Some (pos 0))
    → ListsText output.stdout.items old new result → ListsTold (host_told (tables script)) old new result
printed_told script start output (Ok x) tables after old new lists tells done appends = record {
  listing = appends.kept;
  appended = appends.appended;
  rows = appends.rows;
  once = ap length appends.stays;
  held =
      in_order_too appends.kept (host_told (tables script)) appends.stays
      (rows_at script start (record { status = output.status; text = output.stdout.items }) lists done appends.kept appends.listing appends.rows
      (tables script) (after script) (tells script));
}
printed_told script start output (Err answer) tables after old new lists tells done appends = appends

-- what a run leaves of the table
pub ruleset run_leaves = (unstarted_tables, run_tables)

-- what it leaves of the table
pub ruleset print_leaves = (noted_told, listing_keeps, printed_told)

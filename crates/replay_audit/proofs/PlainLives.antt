-- What hooks are told in a life is printable.
use Rattle.std.proofs.Common.{List, [], ◌∷◌, ◌++◌, map, flat_map, Some, None, subst}
use Rattle.std.specs.List.{AllByRecursion}
use Rattle.std.proofs.lemmas.Grind.{flat_map-append}
use Rattle.net_types.proofs.AllLaws.{all_join}
use Rattle.world.specs.declared.rows.HostRow.{HostRow}
use Rattle.world.specs.declared.rows.HostRow.TheVariants.{Addr, Route}
use Rattle.world.specs.LinkCalls.{Waited, Offered}
use Rattle.world.specs.HostCalls.{Listed, Added, Removed}
use Rattle.world.specs.HookCalls.{Variable, Started, Polled, Abandoned}
use Rattle.world.specs.StoreCalls.{ListedAsides, ReadFile, WroteAside, SyncedAside, RenamedAside, RemovedFile, SettledFiles}
use Rattle.client_model.specs.Clients.{rows_of}
use Rattle.script_model.specs.Lines.{Line}
use Rattle.script_model.specs.Lines as Model
use Rattle.device_calls.specs.Calls.{Call, Link, Host, Store, Hook, Dropped}
use Rattle.device_calls.specs.CallLines.{lines_of, variable_line}
use Rattle.turn_model.specs.Turns.{Life, until}
use Rattle.turn_model.specs.Lives.{Met, OpeningMet, hold_lines, life_after, turn_calls, turns_calls}
use Rattle.told_lives.specs.SafeTexts.ConfiguredTexts.{HasPlainVariables, IsPlainVariable}
use Rattle.told_lives.specs.SafeTexts.SafeJobs.{job_in}
use Rattle.transcript_model.specs.Told.{lines_within, turn_lines}
use Rattle.audit_model.specs.LivesTold.{life_lived, lines_by, only_last, turns_lived}
use Rattle.told_texts.specs.Laws.{IsPlain}

abbrev ArePlain : List Line → Type 0
ArePlain lines = AllByRecursion IsPlain lines

-- ---- calls

rows_plain : (rows : List HostRow) → ArePlain (map Model.Row rows)
rows_plain [] = tt
rows_plain (row ∷ rows) = (tt, rows_plain rows)

variables_plain : (vars : List Variable) → AllByRecursion IsPlainVariable vars → ArePlain (map variable_line vars)
variables_plain [] plain = tt
variables_plain (variable ∷ vars) plain = ((plain.0.name, plain.0.value), variables_plain vars plain.1)

call_plain : (call : Call) → AllByRecursion HasPlainVariables (job_in call) → ArePlain (lines_of call)
call_plain (Link (Waited asked given)) plain = tt
call_plain (Link (Offered iface frame taken)) plain = (tt, tt)
call_plain (Host (Listed None)) plain = (tt, tt)
call_plain (Host (Listed (Some rows))) plain = (tt, rows_plain rows)
call_plain (Host (Added row done)) plain = (tt, tt)
call_plain (Host (Removed row done)) plain = (tt, tt)
call_plain (Store (ListedAsides None)) plain = (tt, tt)
call_plain (Store (ListedAsides (Some names))) plain = (tt, tt)
call_plain (Store (ReadFile name reading)) plain = (tt, tt)
call_plain (Store (WroteAside name bytes done)) plain = (tt, tt)
call_plain (Store (SyncedAside name done)) plain = (tt, tt)
call_plain (Store (RenamedAside name done)) plain = (tt, tt)
call_plain (Store (RemovedFile name done)) plain = (tt, tt)
call_plain (Store (SettledFiles done)) plain = (tt, tt)
call_plain (Hook number (Started job done)) plain = (tt, variables_plain job.vars plain.0)
call_plain (Hook number (Polled answer)) plain = (tt, tt)
call_plain (Hook number Abandoned) plain = (tt, tt)
call_plain (Dropped job) plain = (tt, tt)

all_parts : {A : Type 0} (P : A → Type 0) (xs ys : List A) → AllByRecursion P (xs ++ ys) → AllByRecursion P xs × AllByRecursion P ys
all_parts P [] ys all = (tt, all)
all_parts P (x ∷ xs) ys all = let later = all_parts P xs ys all.1 in ((all.0, later.0), later.1)

abbrev JobsPlain : List Call → Type 0
JobsPlain calls = AllByRecursion HasPlainVariables (flat_map job_in calls)

calls_plain : (calls : List Call) → JobsPlain calls → ArePlain (flat_map lines_of calls)
calls_plain [] plain = tt
calls_plain (call ∷ calls) plain =
    let parts = all_parts HasPlainVariables (job_in call) (flat_map job_in calls) plain in
    all_join IsPlain (lines_of call) (flat_map lines_of calls) (call_plain call parts.0) (calls_plain calls parts.1)

-- of calls one after another
calls_apart : (front back : List Call) → JobsPlain (front ++ back) → JobsPlain front × JobsPlain back
calls_apart front back plain =
    all_parts HasPlainVariables (flat_map job_in front) (flat_map job_in back)
    (subst (AllByRecursion HasPlainVariables) (flat_map-append job_in front back) plain)

-- ---- openings and turns

holds_plain : (rows : List HostRow) → ArePlain (hold_lines rows)
holds_plain [] = tt
holds_plain (Addr iface net ∷ rows) = (tt, holds_plain rows)
holds_plain (Route iface dest via metric ∷ rows) = holds_plain rows

last_plain : {T : Type 0} (later : List T) (rows : List HostRow) → ArePlain (only_last later (hold_lines rows))
last_plain [] rows = holds_plain rows
last_plain (turn ∷ later) rows = tt

by_plain : (calls : List Call) (life : Life) (closing : List Line) → JobsPlain calls → ArePlain closing → ArePlain (lines_by calls life ++ closing)
by_plain calls life closing plain last =
    all_join IsPlain (lines_by calls life) closing
    (all_join IsPlain (flat_map lines_of calls) (Model.Until (until life) ∷ []) (calls_plain calls plain) (tt, tt)) last

turns_plain : (rows : List HostRow) (from : Life) (mets : List Met) → JobsPlain (turns_calls from mets)
    → ArePlain (flat_map turn_lines (turns_lived mets (hold_lines rows)))
turns_plain rows from [] plain = tt
turns_plain rows from (met ∷ mets) plain =
    let closing : List Line = only_last mets (hold_lines rows) in
    let parts = calls_apart (turn_calls from met) (turns_calls met.life mets) plain in (
      tt,
      all_join IsPlain (lines_by met.calls met.life ++ closing) (flat_map turn_lines (turns_lived mets (hold_lines rows)))
          (by_plain met.calls met.life closing parts.0 (last_plain mets rows)) (turns_plain rows met.life mets parts.1),
    )

pub life_plain : (opening : OpeningMet) (mets : List Met) → JobsPlain (opening.calls ++ turns_calls opening.life mets)
    → ArePlain (lines_within (life_lived opening mets))
life_plain opening mets plain =
    let rows : List HostRow = rows_of (life_after opening.life mets).client in
    let closing : List Line = only_last mets (hold_lines rows) in
    let parts = calls_apart opening.calls (turns_calls opening.life mets) plain in
    all_join IsPlain (lines_by opening.calls opening.life ++ closing) (flat_map turn_lines (turns_lived mets (hold_lines rows)))
    (by_plain opening.calls opening.life closing parts.0 (last_plain mets rows)) (turns_plain rows opening.life mets parts.1)

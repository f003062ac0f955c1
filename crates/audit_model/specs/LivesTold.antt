-- A life that was lived, as its lines in a transcript tell it, and that these show what the life showed.
use Rattle.std.specs.Prelude.{◌≡◌, Bool, true, false, not, List, [], ◌∷◌, ◌++◌, flat_map, Some, None}
use Rattle.std.specs.List.{list_any}
use Rattle.net_types.specs.declared.address.Mac.{Mac}
use Rattle.world.specs.declared.rows.HostRow.{HostRow}
use Rattle.world.specs.HostCalls.{HostCall, Listed, Added, Removed}
use Rattle.world.specs.RowOrder.{in_row_order, with_row, without_row}
use Rattle.settings.specs.declared.interfaces.Managed.{Managed}
use Rattle.script_model.specs.IfaceSets.{is_up}
use Rattle.script_model.specs.Lines.{Line, Start, Until, EndOfLife}
use Rattle.evidence_words.specs.ClientModel.Clients.{rows_of}
use Rattle.evidence_words.specs.DeviceCalls.Calls.{Call, host_call}
use Rattle.evidence_words.specs.DeviceCalls.CallLines.{lines_of}
use Rattle.host_model.specs.HostTable.{is_done}
use Rattle.evidence_words.specs.TurnModel.Turns.{Life, until}
use Rattle.evidence_words.specs.TurnModel.Lives.{OpeningMet, Met, hold_lines, life_after, life_lines}
use Rattle.evidence_words.specs.Entries.{shown_of}
use Rattle.evidence_words.specs.FiledLeases.{kept4_shown, kept6_shown}
use Rattle.evidence_words.specs.HostDuids.{duid_shown}
use Rattle.evidence_words.specs.Inputs.{Site}
use Rattle.transcript_read.specs.TranscriptModel.Told.{LifeTold, TurnTold, lines_within}
use Rattle.audit_model.specs.Showing.{Shown, read_in_line, shown_after, shown_at_first, site_by}

-- ---- how it is told

-- the calls, and what the next wait is asked
abbrev pub lines_by : List Call → Life → List Line
lines_by calls life = flat_map lines_of calls ++ Until (until life) ∷ []

-- lines that stand after the last turn
abbrev pub only_last : {T : Type 0} → (later : List T) → List Line → List Line
only_last [] lines = lines
only_last (turn ∷ later) lines = []

abbrev pub turn_lived : Met → (closing : List Line) → TurnTold
turn_lived met closing = record {
  at = met.life.now;
  salt = met.wake.salt;
  event = met.wake.event;
  bytes = met.bytes;
  lines = lines_by met.calls met.life ++ closing;
}

abbrev pub turns_lived : List Met → (closing : List Line) → List TurnTold
turns_lived [] closing = []
turns_lived (met ∷ mets) closing = turn_lived met (only_last mets closing) ∷ turns_lived mets closing

-- the addresses that stay at the end are told after the last turn
abbrev pub held_at_end : OpeningMet → List Met → List Line
held_at_end opening mets = hold_lines (rows_of (life_after opening.life mets).client)

abbrev pub life_lived : OpeningMet → List Met → LifeTold
life_lived opening mets = record {
  begin = opening.begin;
  opening = lines_by opening.calls opening.life ++ only_last mets (held_at_end opening mets);
  turns = turns_lived mets (held_at_end opening mets);
}

-- ---- what its calls of the host are

abbrev pub has_failed : List Call → Bool
has_failed calls = list_any (λ call. not (is_done call)) (flat_map host_call calls)

abbrev pub rows_by : List HostRow → HostCall → List HostRow
rows_by rows (Listed None) = rows
rows_by rows (Listed (Some listed)) = in_row_order listed
rows_by rows (Added row true) = with_row row rows
rows_by rows (Added row false) = rows
rows_by rows (Removed row true) = without_row row rows
rows_by rows (Removed row false) = rows

abbrev pub rows_by_calls : List HostRow → List HostCall → List HostRow
rows_by_calls rows [] = rows
rows_by_calls rows (call ∷ calls) = rows_by_calls (rows_by rows call) calls

-- the rows that the calls of the host show
abbrev pub rows_lived : List HostRow → List Met → List HostRow
rows_lived rows [] = rows
rows_lived rows (met ∷ mets) = rows_lived (rows_by_calls rows (flat_map host_call met.calls)) mets

abbrev pub failed_last : List Call → List Met → Bool
failed_last calls [] = has_failed calls
failed_last calls (met ∷ mets) = failed_last met.calls mets

-- ---- the law

-- all turns of the life are told
abbrev pub shown_lived : OpeningMet → List Met → Shown
shown_lived opening mets =
    let life = life_lived opening mets in
    shown_after (shown_at_first life) life.turns

-- what is known of an interface, by the calls of the opening
abbrev pub site_lived : List Managed → List Mac → OpeningMet → Managed → Site
site_lived managed own opening m = record {
  managed = m;
  duid = duid_shown managed opening.calls;
  own = own;
  up = is_up opening.begin.up m.spec.index.number;
  kept4 = kept4_shown opening.calls m;
  kept6 = kept6_shown opening.calls m;
}

-- The lines are those of the life. They show the entries that the life showed, what its opening read, which rows its
-- calls of the host gave, and whether one of them failed in the last turn.
pub record IsToldSo (opening : OpeningMet) (mets : List Met) : Type 0 where
  pub lines : Start opening.begin ∷ (lines_within (life_lived opening mets) ++ EndOfLife ∷ []) ≡ life_lines opening mets
  pub entries : opening.life.now ≡ opening.begin.at
      → (shown_lived opening mets).entry ∷ (shown_lived opening mets).past ≡ shown_of opening mets
  pub sites : (managed : List Managed) (own : List Mac) (m : Managed)
      → site_by managed own opening.begin.up (flat_map read_in_line (life_lived opening mets).opening) m
      ≡ site_lived managed own opening m
  pub rows : (shown_lived opening mets).rows ≡ rows_lived (rows_by_calls [] (flat_map host_call opening.calls)) mets
  pub failed : (shown_lived opening mets).failed ≡ failed_last opening.calls mets

abbrev pub LivesAreToldSo : Type 0
LivesAreToldSo = (opening : OpeningMet) (mets : List Met) → IsToldSo opening mets

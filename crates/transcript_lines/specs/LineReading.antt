-- How a line is read: by its word and then its fields.
use Rattle.std.specs.Prelude.{ℕ, Bool, List, Option, Some, None, option_map, option_and_then}
use Rattle.net_types.specs.Cutting.{◌>>=◌, guarded}
use Rattle.world.specs.declared.rows.HostRow.{HostRow}
use Rattle.world.specs.declared.rows.HostRow.TheVariants.{Addr, Route}
use Rattle.script_model.specs.Lines.{Line}
use Rattle.script_model.specs.Lines as Model
use Rattle.row_texts.specs.RowReading.{row_at}
use Rattle.script_lines.specs.Carriers.{begin_at}
use Rattle.script_lines.specs.LineReading.{spec_at}
use Rattle.transcript_text.specs.FieldForms.{split_at_last}
use Rattle.transcript_text.specs.LineFields.{outcome_field}
use Rattle.transcript_text.specs.LineShapes as shapes
use Rattle.transcript_text.specs.Shapes.{Shape}
use Rattle.transcript_lines.specs.declared.kinds.Kind.{Kind}
use Rattle.transcript_lines.specs.declared.kinds.Kind.TheVariants as kinds
use Rattle.transcript_lines.specs.Bounds.{is_told}
use Rattle.transcript_lines.specs.LineKinds.{kind_at}
use Rattle.transcript_lines.specs.TurnFields.{turn_at}

-- as it is printed
abbrev pub as_printed : {X : Type 0} → Shape Line X → List ℕ → Option Line
as_printed shape rest = option_map shape.make (shape.fields.at rest)

-- and within the bounds of a transcript
abbrev pub bounded : {X : Type 0} → Shape Line X → List ℕ → Option Line
bounded shape rest = guarded is_told (as_printed shape rest)

-- ---- the store

abbrev pub asides_at : List ℕ → Option Line
asides_at rest = bounded shapes.asides rest

abbrev pub wrote_at : List ℕ → Option Line
wrote_at rest = bounded shapes.wrote rest

abbrev pub synced_at : List ℕ → Option Line
synced_at rest = bounded shapes.synced rest

abbrev pub renamed_at : List ℕ → Option Line
renamed_at rest = bounded shapes.renamed rest

abbrev pub removed_at : List ℕ → Option Line
removed_at rest = bounded shapes.removed rest

abbrev pub read_at : List ℕ → Option Line
read_at rest = bounded shapes.read rest

-- ---- hooks and the link

abbrev pub polled_at : List ℕ → Option Line
polled_at rest = as_printed shapes.polled rest

abbrev pub dropped_at : List ℕ → Option Line
dropped_at rest = as_printed shapes.dropped rest

abbrev pub started_at : List ℕ → Option Line
started_at rest = as_printed shapes.started rest

abbrev pub variable_at : List ℕ → Option Line
variable_at rest = bounded shapes.variable rest

abbrev pub send_at : List ℕ → Option Line
send_at rest = bounded shapes.send rest

-- ---- the host: rows and networks in any spelling

abbrev pub changed_at : List ℕ → Option (HostRow × Bool)
changed_at text = do
  parts ← split_at_last 32 text
  row ← row_at parts.0
  done ← outcome_field.at parts.1
  Some (row, done)

abbrev pub deleted_at : List ℕ → Option Line
deleted_at rest = option_map (λ p. Model.HostDel p.0 p.1) (changed_at rest)

abbrev pub added_at : List ℕ → Option Line
added_at rest = option_map (λ p. Model.HostAdd p.0 p.1) (changed_at rest)

abbrev pub held : HostRow → Option Line
held (Addr iface net) = Some (Model.Hold iface net)
held (Route iface dest via metric) = None

-- a row that is an address
abbrev pub hold_at : List ℕ → Option Line
hold_at rest = row_at rest >>= held

abbrev pub until_at : List ℕ → Option Line
until_at rest = as_printed shapes.until rest

-- ---- all of them

abbrev pub read_as : Kind → List ℕ → Option Line
read_as kinds.Interface rest = option_map Model.Interface (spec_at rest)
read_as kinds.Life rest = as_printed shapes.life rest
read_as kinds.Start rest = option_map Model.Start (begin_at 64 rest)
read_as kinds.Asides rest = asides_at rest
read_as kinds.AsidesFailed rest = as_printed shapes.asides_failed rest
read_as kinds.Wrote rest = wrote_at rest
read_as kinds.Synced rest = synced_at rest
read_as kinds.Renamed rest = renamed_at rest
read_as kinds.Removed rest = removed_at rest
read_as kinds.Settled rest = as_printed shapes.settled rest
read_as kinds.Read rest = read_at rest
read_as kinds.Turn rest = turn_at rest
read_as kinds.HookPolled rest = polled_at rest
read_as kinds.HookAbandoned rest = as_printed shapes.abandoned rest
read_as kinds.HookDropped rest = dropped_at rest
read_as kinds.HookStarted rest = started_at rest
read_as kinds.Variable rest = variable_at rest
read_as kinds.Send rest = send_at rest
read_as kinds.HostListed rest = as_printed shapes.host_listed rest
read_as kinds.Row rest = option_map Model.Row (row_at rest)
read_as kinds.HostListFailed rest = as_printed shapes.host_list_failed rest
read_as kinds.HostDel rest = deleted_at rest
read_as kinds.HostAdd rest = added_at rest
read_as kinds.Until rest = until_at rest
read_as kinds.Hold rest = hold_at rest
read_as kinds.EndOfLife rest = as_printed shapes.end_of_life rest

-- the line that a text without its line feed spells
unfoldable pub line_at : List ℕ → Option Line
line_at text = option_and_then (λ p. read_as p.0 p.1) (kind_at text)

-- The turn that goes on, and the rows that are shown, as an auditor holds them.
use Rattle.std.specs.Prelude.{◌≡◌, ℕ, Bool, true, false, ◌==◌, List, [], map, Option, IfSome, if◌then◌else◌}
use Rattle.std.specs.List.{list_any}
use Rattle.world.specs.declared.rows.HostRow.{HostRow}
use Rattle.world.specs.declared.rows.HostRow.TheVariants.{Addr, Route}
use Rattle.world.specs.RowOrder.{with_row, without_row}
use Rattle.script_model.specs.Lines.{Line, Read, Send, HostListed, Row, HostListFailed, HostDel, HostAdd}
use Rattle.audit_words.specs.EvidenceWords.Entries.{Entry}
use Rattle.audit_model.specs.Auditing.{Living, offered}
use Rattle.audit_words.specs.Shown.{entry_shown}
use Rattle.audit_turns.specs.declared.going.Going as code

-- what the turn shows so far, whether a call of the host failed in it, the numbers of the managed interfaces, and the
-- addresses that are shown of these
pub record Going : Type 0 where
  pub entry : Entry
  pub failed : Bool
  pub numbers : List ℕ
  pub rows : List HostRow

abbrev pub going_of : code.Going → Going
going_of going = record {
  entry = entry_shown going.entry;
  failed = going.failed;
  numbers = going.numbers.items;
  rows = going.rows.keys;
}

-- whether a row is an address of an interface of these numbers
abbrev pub is_among : List ℕ → HostRow → Bool
is_among numbers (Addr index net) = list_any (λ number. number == index.number) numbers
is_among numbers (Route iface dest via metric) = false

abbrev pub put_among : List ℕ → HostRow → List HostRow → List HostRow
put_among numbers row rows = if is_among numbers row then with_row row rows else rows

-- whether a file was read
abbrev pub is_read : Line → Bool
is_read (Read name reading) = true
is_read line = false

-- after a line that doesn't begin or end a turn
abbrev pub going_told : Line → Going → Going
going_told (Send iface bytes taken) going =
    record going { entry = offered (record { iface = iface.number; bytes = bytes; taken = taken }) going.entry }
going_told (HostListed count) going = record going { rows = [] }
going_told (Row row) going = record going { rows = put_among going.numbers row going.rows }
going_told (HostAdd row true) going = record going { rows = put_among going.numbers row going.rows }
going_told (HostAdd row false) going = record going { failed = true }
going_told (HostDel row true) going = record going { rows = without_row row going.rows }
going_told (HostDel row false) going = record going { failed = true }
going_told HostListFailed going = record going { failed = true }
going_told line going = going

-- what of a life goes on
abbrev pub going_in : Living → Going
going_in living = record {
  entry = living.entry;
  failed = living.failed;
  numbers = map (λ m. m.spec.index.number) living.managed;
  rows = living.rows;
}

-- The auditor holds what goes on in the life, where there is one.
abbrev pub GoesOn : Option Living → Going → Type 0
GoesOn living going = IfSome living (λ l. going ≡ going_in l)

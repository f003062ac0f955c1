-- What a life that a transcript tells shows, turn by turn, and what is known of its interfaces when it begins.
use Rattle.std.specs.Prelude.{ℕ, Bool, true, false, not, List, [], ◌∷◌, map, flat_map, option_and_then}
use Rattle.std.specs.List.{list_any}
use Rattle.net_types.specs.declared.address.Mac.{Mac}
use Rattle.world.specs.declared.rows.HostRow.{HostRow}
use Rattle.world.specs.declared.wakes.Event.TheVariants.{Quiet}
use Rattle.world.specs.RowOrder.{with_row, without_row}
use Rattle.world.specs.StoreCalls.{StoreCall, ReadFile}
use Rattle.settings.specs.declared.interfaces.Managed.{Managed}
use Rattle.transcript_read.specs.ConfText.Settings.{managed_of}
use Rattle.script_model.specs.IfaceSets.{is_up}
use Rattle.script_model.specs.Lines.{Line, Read, Send, HostListed, Row, HostListFailed, HostDel, HostAdd}
use Rattle.evidence_words.specs.ClientModel.HostDuid.{host_duid}
use Rattle.evidence_words.specs.ClientModel.KeptLeases.{kept_by}
use Rattle.evidence_words.specs.ClientModel.KeptLeases6.{kept6_by}
use Rattle.evidence_words.specs.TurnModel.Loading.{duid_file, lease4_file, lease6_file}
use Rattle.evidence_words.specs.Entries.{Entry, Offer}
use Rattle.evidence_words.specs.HostDuids.{read_among}
use Rattle.evidence_words.specs.Inputs.{Site}
use Rattle.transcript_read.specs.TranscriptModel.Told.{Told, LifeTold, TurnTold}

-- ---- what a line tells

-- the frame that was offered
abbrev pub offer_in_line : Line → List Offer
offer_in_line (Send iface bytes taken) = record { iface = iface.number; bytes = bytes; taken = taken } ∷ []
offer_in_line line = []

-- the file that was read
abbrev pub read_in_line : Line → List StoreCall
read_in_line (Read name reading) = ReadFile name reading ∷ []
read_in_line line = []

-- a call of the host that failed
abbrev pub is_failed : Line → Bool
is_failed HostListFailed = true
is_failed (HostDel row done) = not done
is_failed (HostAdd row done) = not done
is_failed line = false

-- The rows that are shown of the host: a listing begins anew, and a change counts that was done.
abbrev pub rows_with : Line → List HostRow → List HostRow
rows_with (HostListed count) rows = []
rows_with (Row row) rows = with_row row rows
rows_with (HostDel row true) rows = without_row row rows
rows_with (HostAdd row true) rows = with_row row rows
rows_with line rows = rows

abbrev pub rows_after : List HostRow → List Line → List HostRow
rows_after rows [] = rows
rows_after rows (line ∷ lines) = rows_after (rows_with line rows) lines

-- ---- turns

abbrev pub entry_told : TurnTold → Entry
entry_told turn = record {
  moment = turn.at;
  event = turn.event;
  bytes = turn.bytes;
  offers = flat_map offer_in_line turn.lines;
}

-- the opening counts as a turn without input
abbrev pub opening_told : LifeTold → Entry
opening_told life = record {
  moment = life.begin.at;
  event = Quiet;
  bytes = [];
  offers = flat_map offer_in_line life.opening;
}

-- What is shown once a turn is over: what the turns before it showed, the newest first, and what it showed itself; the
-- rows of the host; and whether one of its calls of the host failed.
pub record Shown : Type 0 where
  pub past : List Entry
  pub entry : Entry
  pub rows : List HostRow
  pub failed : Bool

-- no rows are known when a life begins
abbrev pub shown_at_first : LifeTold → Shown
shown_at_first life = record {
  past = [];
  entry = opening_told life;
  rows = rows_after [] life.opening;
  failed = list_any is_failed life.opening;
}

abbrev pub shown_next : Shown → TurnTold → Shown
shown_next shown turn = record {
  past = shown.entry ∷ shown.past;
  entry = entry_told turn;
  rows = rows_after shown.rows turn.lines;
  failed = list_any is_failed turn.lines;
}

-- after some turns more
abbrev pub shown_after : Shown → List TurnTold → Shown
shown_after shown [] = shown
shown_after shown (turn ∷ turns) = shown_after (shown_next shown turn) turns

-- ---- interfaces

-- of all interfaces those that are managed
abbrev pub managed_told : Told → List Managed
managed_told told = managed_of told.configuration told.body.ifaces

abbrev pub macs_told : Told → List Mac
macs_told told = map (λ spec. spec.mac) told.body.ifaces

-- An interface when a life begins, by what its opening read: the first reading of each file counts.
abbrev pub site_by : List Managed → (own : List Mac) → (up : ℕ) → (reads : List StoreCall) → Managed → Site
site_by managed own up reads m = record {
  managed = m;
  duid = host_duid managed (read_among duid_file reads);
  own = own;
  up = is_up up m.spec.index.number;
  kept4 = option_and_then (kept_by m.spec) (read_among (lease4_file m) reads);
  kept6 = option_and_then (kept6_by m.spec) (read_among (lease6_file m) reads);
}

abbrev pub site_told : Told → LifeTold → Managed → Site
site_told told life m =
    site_by (managed_told told) (macs_told told) life.begin.up (flat_map read_in_line life.opening) m

-- What an auditor keeps while the lines of a transcript go by, given a test whether an address has its basis.
use Rattle.std.specs.Prelude.{ℕ, ◌+◌, Bool, true, false, not, List, [], ◌∷◌, ◌++◌, map, length, Option, Some, None, option_map, if◌then◌else◌}
use Rattle.std.specs.List.{find}
use Rattle.net_types.specs.declared.address.Mac.{Mac}
use Rattle.net_types.specs.declared.address.Net.{Net}
use Rattle.net_types.specs.declared.interface.IfIndex.{IfIndex}
use Rattle.net_types.specs.declared.interface.IfSpec.{IfSpec}
use Rattle.world.specs.declared.rows.HostRow.{HostRow}
use Rattle.world.specs.declared.rows.HostRow.TheVariants.{Addr, Route}
use Rattle.world.specs.declared.wakes.Begin.{Begin}
use Rattle.world.specs.declared.wakes.Event.{Event}
use Rattle.world.specs.declared.wakes.Event.TheVariants.{Quiet}
use Rattle.world.specs.RowOrder.{with_row, without_row}
use Rattle.world.specs.StoreCalls.{StoreCall, ReadFile}
use Rattle.settings.specs.declared.interfaces.Managed.{Managed}
use Rattle.settings.specs.ManagedRows.{is_managed}
use Rattle.transcript_read.specs.ConfText.Configurations.{Configuration}
use Rattle.transcript_read.specs.ConfText.Settings.{managed_of}
use Rattle.script_model.specs.Lines.{Line, Interface, Life, Start, Read, Turn, Send, HostListed, Row, HostListFailed, HostDel, HostAdd, EndOfLife}
use Rattle.evidence_words.specs.Entries.{Entry, Offer}
use Rattle.evidence_words.specs.Inputs.{Site}
use Rattle.audit_model.specs.Showing.{site_by}

-- a test whether an address of an interface has its basis in what was shown
abbrev pub Judge : Type 0
Judge = List Managed → (Managed → Site) → List Entry → IfIndex → Net → Bool

-- ---- what is kept

-- A life that goes on: the managed interfaces and the hardware addresses of all; how it began, and which files its
-- opening read; the turns that are over, the newest first, and what the turn that goes on showed so far, with whether a
-- call of the host failed in it; and the addresses that are shown of managed interfaces, in row order. The opening goes
-- on where no turn is over.
pub record Living : Type 0 where
  pub managed : List Managed
  pub own : List Mac
  pub begin : Begin
  pub reads : List StoreCall
  pub past : List Entry
  pub entry : Entry
  pub failed : Bool
  pub rows : List HostRow

-- an address without basis, and the life and the turn after which it is shown
pub record Unjust : Type 0 where
  pub life : ℕ
  pub turn : ℕ
  pub row : HostRow

-- the number of the last life, the number of all turns, and the first address without basis
pub record Auditing : Type 0 where
  pub configuration : Configuration
  pub ifaces : List IfSpec
  pub lives : ℕ
  pub turns : ℕ
  pub living : Option Living
  pub unjust : Option Unjust

-- ---- a turn that goes on

-- a row that is judged: an address of a managed interface
abbrev pub is_judged : List Managed → HostRow → Bool
is_judged managed (Addr index net) = is_managed managed (Addr index net)
is_judged managed (Route iface dest via metric) = false

abbrev pub put_judged : List Managed → HostRow → List HostRow → List HostRow
put_judged managed row rows = if is_judged managed row then with_row row rows else rows

-- only what the opening reads counts
abbrev pub reads_after : (past : List Entry) → StoreCall → List StoreCall → List StoreCall
reads_after [] call reads = reads ++ call ∷ []
reads_after (e ∷ past) call reads = reads

abbrev pub offered : Offer → Entry → Entry
offered offer entry = record entry { offers = entry.offers ++ offer ∷ [] }

abbrev pub with_line : Line → Living → Living
with_line (Send iface bytes taken) living =
    record living { entry = offered (record { iface = iface.number; bytes = bytes; taken = taken }) living.entry }
with_line (Read name reading) living =
    record living { reads = reads_after living.past (ReadFile name reading) living.reads }
with_line (HostListed count) living = record living { rows = [] }
with_line (Row row) living = record living { rows = put_judged living.managed row living.rows }
with_line (HostAdd row true) living = record living { rows = put_judged living.managed row living.rows }
with_line (HostAdd row false) living = record living { failed = true }
with_line (HostDel row true) living = record living { rows = without_row row living.rows }
with_line (HostDel row false) living = record living { failed = true }
with_line HostListFailed living = record living { failed = true }
with_line line living = living

-- ---- a turn that is over

abbrev pub site_in : Living → Managed → Site
site_in living m = site_by living.managed living.own living.begin.up living.reads m

-- whether a row has what it needs: a route needs nothing
abbrev pub is_just : Judge → Living → HostRow → Bool
is_just judge living (Addr index net) =
    judge living.managed (site_in living) (living.entry ∷ living.past) index net
is_just judge living (Route iface dest via metric) = true

-- the first address without basis; none is looked for where a call of the host failed
abbrev pub lacking : Judge → Living → Option HostRow
lacking judge living = if living.failed then None else find (λ row. not (is_just judge living row)) living.rows

abbrev pub unjust_at : (life turn : ℕ) → HostRow → Unjust
unjust_at life turn row = record { life = life; turn = turn; row = row }

-- the opening is turn 0
abbrev pub unjust_in : Judge → (life : ℕ) → Option Living → Option Unjust
unjust_in judge life None = None
unjust_in judge life (Some living) = option_map (unjust_at life (length living.past)) (lacking judge living)

-- the first one stays
abbrev pub unjust_first : Option Unjust → Option Unjust → Option Unjust
unjust_first (Some unjust) later = Some unjust
unjust_first None later = later

abbrev pub unjust_after : Judge → Auditing → Option Unjust
unjust_after judge state = unjust_first state.unjust (unjust_in judge state.lives state.living)

-- ---- a line

abbrev pub first_entry : Begin → Entry
first_entry begin = record { moment = begin.at; event = Quiet; bytes = []; offers = [] }

abbrev pub begun : Auditing → Begin → Living
begun state begin = record {
  managed = managed_of state.configuration state.ifaces;
  own = map (λ spec. spec.mac) state.ifaces;
  begin = begin;
  reads = [];
  past = [];
  entry = first_entry begin;
  failed = false;
  rows = [];
}

abbrev pub turned : (at : ℕ) → Event → (bytes : List ℕ) → Living → Living
turned at event bytes living = record living {
  past = living.entry ∷ living.past;
  entry = record { moment = at; event = event; bytes = bytes; offers = [] };
  failed = false;
}

-- What is kept after a line. The turn that went on is judged when the next one begins, or the life ends.
abbrev pub after : Judge → Auditing → Line → Auditing
after judge state (Interface spec) = record state { ifaces = state.ifaces ++ spec ∷ [] }
after judge state (Life number) = record state { lives = number }
after judge state (Start begin) = record state { living = Some (begun state begin) }
after judge state (Turn at salt event bytes) = record state {
  turns = state.turns + 1;
  living = option_map (turned at event bytes) state.living;
  unjust = unjust_after judge state;
}
after judge state EndOfLife = record state { living = None; unjust = unjust_after judge state }
after judge state line = record state { living = option_map (with_line line) state.living }

abbrev pub first : Configuration → Auditing
first configuration = record {
  configuration = configuration;
  ifaces = [];
  lives = 0;
  turns = 0;
  living = None;
  unjust = None;
}

-- The lines of a transcript: for each a word, the fields after it and the line that they make.
use Rattle.std.specs.Prelude.{ℕ, Bool, List, [], ◌∷◌, codes, Option}
use Rattle.net_types.specs.declared.address.Mac.{Mac}
use Rattle.net_types.specs.declared.address.Net.{Net}
use Rattle.net_types.specs.declared.interface.Name.{Name}
use Rattle.net_types.specs.Cutting.{Choices, choose_at}
use Rattle.world.specs.declared.hooking.Poll.{Poll}
use Rattle.world.specs.declared.reasons.Reason.{Reason}
use Rattle.world.specs.declared.rows.HostRow.{HostRow}
use Rattle.world.specs.StoreCalls.{Reading}
use Rattle.script_model.specs.Lines.{Line}
use Rattle.script_model.specs.Lines as Model
use Rattle.line_grammar.specs.FieldLaws.Fields.{parted, worded}
use Rattle.line_grammar.specs.FieldLaws.Kinds.{hex_field, mac_field, name_field, no_field}
use Rattle.transcript_text.specs.EventFields.{Came, came_field}
use Rattle.transcript_text.specs.LineFields.{called, count_field, file_field, index_field, job_field, moment_field, names_field, net_field, outcome_field, poll_field, reading_field, row_field, text_field, up_field, variable_field}
use Rattle.transcript_text.specs.Shapes.{Shape, choice_of}

-- ---- shapes of several lines

-- a word alone
abbrev pub bare : List ℕ → Line → Shape Line (Unit {0})
bare word line = record { word = word; fields = no_field; make = λ _. line }

abbrev pub counted : List ℕ → (ℕ → Line) → Shape Line ℕ
counted word make = record { word = word; fields = count_field; make = make }

-- a call on a file
abbrev pub filed : List ℕ → (List ℕ → Bool → Line) → Shape Line (List ℕ × Bool)
filed word make = record { word = word; fields = called file_field; make = λ p. make p.0 p.1 }

-- a change of the host's rows
abbrev pub changed : List ℕ → (HostRow → Bool → Line) → Shape Line (HostRow × Bool)
changed word make = record { word = word; fields = called row_field; make = λ p. make p.0 p.1 }

-- ---- the head

abbrev pub head : Shape Line (Unit {0})
head = bare (codes "dhcpcd-transcript 1") Model.Head

abbrev pub conf : Shape Line (List ℕ)
conf = record { word = codes "c:"; fields = text_field; make = Model.Conf }

abbrev pub notice : Shape Line (ℕ × List ℕ)
notice = record { word = codes "notice "; fields = parted index_field text_field; make = λ p. Model.Notice p.0 p.1 }

abbrev pub interface : Shape Line (ℕ × (Name × Mac))
interface = record {
  word = codes "if ";
  fields = parted index_field (parted name_field mac_field);
  make = λ p. Model.Interface (record { index = record { number = p.0 }; name = p.1.0; mac = p.1.1 });
}

abbrev pub life : Shape Line ℕ
life = counted (codes "life ") Model.Life

abbrev pub start : Shape Line (ℕ × (ℕ × ℕ))
start = record {
  word = codes "start ";
  fields = parted count_field (parted count_field (worded (codes "up ") up_field));
  make = λ p. Model.Start (record { at = p.0; salt = p.1.0; up = p.1.1 });
}

-- ---- the store

abbrev pub asides : Shape Line (List (List ℕ))
asides = record { word = codes "store list ok"; fields = names_field; make = Model.Asides }

abbrev pub asides_failed : Shape Line (Unit {0})
asides_failed = bare (codes "store list failed") Model.AsidesFailed

abbrev pub wrote : Shape Line ((List ℕ × List ℕ) × Bool)
wrote = record {
  word = codes "store write ";
  fields = called (parted file_field hex_field);
  make = λ p. Model.Wrote p.0.0 p.0.1 p.1;
}

abbrev pub synced : Shape Line (List ℕ × Bool)
synced = filed (codes "store sync ") Model.Synced

abbrev pub renamed : Shape Line (List ℕ × Bool)
renamed = filed (codes "store rename ") Model.Renamed

abbrev pub removed : Shape Line (List ℕ × Bool)
removed = filed (codes "store remove ") Model.Removed

abbrev pub settled : Shape Line Bool
settled = record { word = codes "store settle "; fields = outcome_field; make = Model.Settled }

abbrev pub read : Shape Line (List ℕ × Reading)
read = record { word = codes "store read "; fields = parted file_field reading_field; make = λ p. Model.Read p.0 p.1 }

-- ---- a wake, hooks and the link

abbrev pub turn : Shape Line (ℕ × (ℕ × Came))
turn = record {
  word = codes "turn ";
  fields = parted count_field (parted count_field came_field);
  make = λ p. Model.Turn p.0 p.1.0 p.1.1.0 p.1.1.1;
}

abbrev pub polled : Shape Line (ℕ × Option Poll)
polled = record {
  word = codes "hook poll ";
  fields = parted count_field poll_field;
  make = λ p. Model.HookPolled p.0 p.1;
}

abbrev pub abandoned : Shape Line ℕ
abandoned = counted (codes "hook abandon ") Model.HookAbandoned

abbrev pub dropped : Shape Line (ℕ × (Reason × List ℕ))
dropped = record { word = codes "hook drop "; fields = job_field; make = λ p. Model.HookDropped p.0 p.1.0 p.1.1 }

abbrev pub started : Shape Line ((ℕ × (Reason × List ℕ)) × Bool)
started = record {
  word = codes "hook start ";
  fields = called job_field;
  make = λ p. Model.HookStarted p.0.0 p.0.1.0 p.0.1.1 p.1;
}

abbrev pub variable : Shape Line (List ℕ × List ℕ)
variable = record { word = codes "var "; fields = variable_field; make = λ p. Model.Variable p.0 p.1 }

abbrev pub send : Shape Line ((ℕ × List ℕ) × Bool)
send = record {
  word = codes "send ";
  fields = called (parted index_field hex_field);
  make = λ p. Model.Send (record { number = p.0.0 }) p.0.1 p.1;
}

-- ---- the host, and the end of a turn and of a life

abbrev pub host_listed : Shape Line ℕ
host_listed = counted (codes "host list ok ") Model.HostListed

abbrev pub row : Shape Line HostRow
row = record { word = codes "row "; fields = row_field; make = Model.Row }

abbrev pub host_list_failed : Shape Line (Unit {0})
host_list_failed = bare (codes "host list failed") Model.HostListFailed

abbrev pub host_del : Shape Line (HostRow × Bool)
host_del = changed (codes "host del ") Model.HostDel

abbrev pub host_add : Shape Line (HostRow × Bool)
host_add = changed (codes "host add ") Model.HostAdd

abbrev pub until : Shape Line (Option ℕ)
until = record { word = codes "until "; fields = moment_field; make = Model.Until }

abbrev pub hold : Shape Line (ℕ × Net)
hold = record {
  word = codes "hold addr ";
  fields = parted index_field net_field;
  make = λ p. Model.Hold (record { number = p.0 }) p.1;
}

abbrev pub end_of_life : Shape Line (Unit {0})
end_of_life = bare (codes "end") Model.EndOfLife

-- ---- all of them

abbrev pub shapes : Choices Line
shapes =
    choice_of head
    ∷ choice_of conf
    ∷ choice_of notice
    ∷ choice_of interface
    ∷ choice_of life
    ∷ choice_of start
    ∷ choice_of asides
    ∷ choice_of asides_failed
    ∷ choice_of wrote
    ∷ choice_of synced
    ∷ choice_of renamed
    ∷ choice_of removed
    ∷ choice_of settled
    ∷ choice_of read
    ∷ choice_of turn
    ∷ choice_of polled
    ∷ choice_of abandoned
    ∷ choice_of dropped
    ∷ choice_of started
    ∷ choice_of variable
    ∷ choice_of send
    ∷ choice_of host_listed
    ∷ choice_of row
    ∷ choice_of host_list_failed
    ∷ choice_of host_del
    ∷ choice_of host_add
    ∷ choice_of until
    ∷ choice_of hold
    ∷ choice_of end_of_life
    ∷ []

-- the line that a text without its line feed spells
unfoldable pub line_at : List ℕ → Option Line
line_at text = choose_at shapes text

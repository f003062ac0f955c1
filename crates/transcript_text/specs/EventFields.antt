-- What came, with the bytes of a frame: for each event a word and its fields.
use Rattle.std.specs.Prelude.{ℕ, Bool, List, [], ◌∷◌, length, codes}
use Rattle.net_types.specs.declared.address.Ip6.{Ip6}
use Rattle.net_types.specs.Cutting.{Choices, choose_at}
use Rattle.world.specs.declared.wakes.Event.{Event}
use Rattle.world.specs.declared.wakes.Event.TheVariants.{Frame, Carrier, Duplicate, Release, Rebind, Stop, Quiet}
use Rattle.script_model.specs.Lines.{event_text}
use Rattle.line_grammar.specs.FieldLaws.Fields.{Field, parted}
use Rattle.line_grammar.specs.FieldLaws.Kinds.{hex_field, ip6_field, no_field}
use Rattle.transcript_text.specs.Fits.{FitsEvent}
use Rattle.transcript_text.specs.LineFields.{carrier_field, index_field}
use Rattle.transcript_text.specs.Shapes.{Shape, choice_of}

abbrev pub Came : Type 0
Came = Event × List ℕ

abbrev pub frame : Shape Came (ℕ × List ℕ)
frame = record {
  word = codes "frame ";
  fields = parted index_field hex_field;
  make = λ p. (Frame p.0 (length p.1), p.1);
}

abbrev pub carrier : Shape Came (ℕ × Bool)
carrier = record {
  word = codes "carrier ";
  fields = parted index_field carrier_field;
  make = λ p. (Carrier p.0 p.1, []);
}

abbrev pub duplicate : Shape Came (ℕ × Ip6)
duplicate = record { word = codes "dup "; fields = parted index_field ip6_field; make = λ p. (Duplicate p.0 p.1, []) }

abbrev pub release : Shape Came ℕ
release = record { word = codes "release "; fields = index_field; make = λ n. (Release n, []) }

abbrev pub rebind : Shape Came ℕ
rebind = record { word = codes "rebind "; fields = index_field; make = λ n. (Rebind n, []) }

abbrev pub stop : Shape Came (Unit {0})
stop = record { word = codes "stop"; fields = no_field; make = λ _. (Stop, []) }

abbrev pub quiet : Shape Came (Unit {0})
quiet = record { word = codes "quiet"; fields = no_field; make = λ _. (Quiet, []) }

abbrev pub events : Choices Came
events =
    choice_of frame
    ∷ choice_of carrier
    ∷ choice_of duplicate
    ∷ choice_of release
    ∷ choice_of rebind
    ∷ choice_of stop
    ∷ choice_of quiet
    ∷ []

abbrev pub came_field : Field Came
came_field = record {
  text = λ came. event_text came.0 came.1;
  Fits = λ came. FitsEvent came.0 came.1;
  at = choose_at events;
}

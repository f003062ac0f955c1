-- What a line is to the shape of a transcript.
use Rattle.script_model.specs.Lines.{Line}
use Rattle.script_model.specs.Lines as Model
use Rattle.transcript_lines.specs.declared.role.Role.{Role}
use Rattle.transcript_lines.specs.declared.role.Role.TheVariants.{Head, Interface, Life, Start, Turn, Listing, Row, Other, End}

abbrev pub role_of : Line → Role
role_of Model.Head = Head
role_of (Model.Conf text) = Head
role_of (Model.Notice line word) = Head
role_of (Model.Interface spec) = Interface spec
role_of (Model.Life number) = Life number
role_of (Model.Start begin) = Start begin.at
role_of (Model.Turn at salt event bytes) = Turn at
role_of (Model.HostListed count) = Listing count
role_of (Model.Row row) = Row row
role_of Model.EndOfLife = End
role_of other = Other

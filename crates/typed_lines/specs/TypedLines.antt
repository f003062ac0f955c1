-- Lines within the types that hold them.
use Rattle.std.specs.Prelude.{List}
use Rattle.std.specs.List.{AllByRecursion}
use Rattle.transcript_text.specs.NetTypes.Marks.{AreBytes}
use Rattle.transcript_text.specs.World.declared.rows.HostRow.TheVariants.{Addr}
use Rattle.transcript_text.specs.World.Rows.{IsRow}
use Rattle.transcript_text.specs.ScriptModel.Lines.{Line, Hold, HostAdd, Send, Until, Wrote}
use Rattle.transcript_text.specs.Fits.{FitsMoment}

-- What a line tells is within the types that hold it, as that of every line in memory is: bytes that are written and
-- sent, the moment of a wait, and rows that are added and addresses that stay, which are such as a host can hold.
abbrev pub IsTyped : Line → Type 0
IsTyped (Wrote name bytes done) = AreBytes bytes
IsTyped (Send iface bytes taken) = AreBytes bytes
IsTyped (HostAdd row done) = IsRow row
IsTyped (Until moment) = FitsMoment moment
IsTyped (Hold iface net) = IsRow (Addr iface net)
IsTyped line = Unit {0}

abbrev pub AreTyped : List Line → Type 0
AreTyped lines = AllByRecursion IsTyped lines

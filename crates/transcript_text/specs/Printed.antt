-- What a line of the transcript says.
use Rattle.std.specs.Prelude.{map}
use Rattle.std.specs.String.{string_bytes}
use Rattle.world.specs.StoreCalls as Store
use Rattle.script_model.specs.Lines.{Line}
use Rattle.script_model.specs.Lines as Model
use Rattle.transcript_text.specs.declared.lines.Reading.{Reading}
use Rattle.transcript_text.specs.declared.lines.Reading.TheVariants.{Found, Missing, Unread}
use Rattle.transcript_text.specs.declared.lines.TranscriptLine.{TranscriptLine}
use Rattle.transcript_text.specs.declared.lines.TranscriptLine.TheVariants.{Head, Conf, Notice, Interface, Life, Start, Asides, AsidesFailed, Wrote, Synced, Renamed, Removed, Settled, Read, Turn, HookPolled, HookAbandoned, HookDropped, HookStarted, Variable, Send, HostListed, Row, HostListFailed, HostDel, HostAdd, Until, Hold, EndOfLife}

abbrev pub reading_of : Reading → Store.Reading
reading_of (Found bytes) = Store.Found bytes.now
reading_of Missing = Store.Missing
reading_of Unread = Store.Unread

abbrev pub line_of : TranscriptLine → Line
line_of Head = Model.Head
line_of (Conf text) = Model.Conf text.now
line_of (Notice line word) = Model.Notice line word.now
line_of (Interface spec) = Model.Interface spec
line_of (Life number) = Model.Life number
line_of (Start begin) = Model.Start begin
line_of (Asides names) = Model.Asides (map string_bytes names.now)
line_of AsidesFailed = Model.AsidesFailed
line_of (Wrote name bytes done) = Model.Wrote name.now bytes.now done
line_of (Synced name done) = Model.Synced name.now done
line_of (Renamed name done) = Model.Renamed name.now done
line_of (Removed name done) = Model.Removed name.now done
line_of (Settled done) = Model.Settled done
line_of (Read name reading) = Model.Read name.now (reading_of reading)
line_of (Turn at salt event bytes) = Model.Turn at salt event bytes.now
line_of (HookPolled number answer) = Model.HookPolled number answer
line_of (HookAbandoned number) = Model.HookAbandoned number
line_of (HookDropped number reason name) = Model.HookDropped number reason name.now
line_of (HookStarted number reason name done) = Model.HookStarted number reason name.now done
line_of (Variable name value) = Model.Variable name.now value.now
line_of (Send iface bytes taken) = Model.Send iface bytes.now taken
line_of (HostListed count) = Model.HostListed count
line_of (Row row) = Model.Row row.now
line_of HostListFailed = Model.HostListFailed
line_of (HostDel row done) = Model.HostDel row.now done
line_of (HostAdd row done) = Model.HostAdd row.now done
line_of (Until moment) = Model.Until moment
line_of (Hold iface net) = Model.Hold iface net
line_of EndOfLife = Model.EndOfLife

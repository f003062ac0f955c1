-- What a line that was read says.
use Rattle.world.specs.StoreCalls as Store
use Rattle.script_model.specs.Lines.{Line}
use Rattle.script_model.specs.Lines as Model
use Rattle.transcript_lines.specs.declared.lines.FileReading.{FileReading}
use Rattle.transcript_lines.specs.declared.lines.FileReading.TheVariants.{Found, Missing, Unread}
use Rattle.transcript_lines.specs.declared.lines.ToldLine.{ToldLine}
use Rattle.transcript_lines.specs.declared.lines.ToldLine.TheVariants.{Interface, Life, Start, Asides, AsidesFailed, Wrote, Synced, Renamed, Removed, Settled, Read, Turn, HookPolled, HookAbandoned, HookDropped, HookStarted, Variable, Send, HostListed, Row, HostListFailed, HostDel, HostAdd, Until, Hold, EndOfLife}
use Rattle.transcript_lines.specs.Names.{names_in}

abbrev pub reading_of : FileReading → Store.Reading
reading_of (Found bytes) = Store.Found bytes.items
reading_of Missing = Store.Missing
reading_of Unread = Store.Unread

abbrev pub line_of : ToldLine → Line
line_of (Interface spec) = Model.Interface spec
line_of (Life number) = Model.Life number
line_of (Start begin) = Model.Start begin
line_of (Asides names) = Model.Asides (names_in names.now)
line_of AsidesFailed = Model.AsidesFailed
line_of (Wrote name bytes done) = Model.Wrote name.now bytes.items done
line_of (Synced name done) = Model.Synced name.now done
line_of (Renamed name done) = Model.Renamed name.now done
line_of (Removed name done) = Model.Removed name.now done
line_of (Settled done) = Model.Settled done
line_of (Read name reading) = Model.Read name.now (reading_of reading)
line_of (Turn at salt event bytes) = Model.Turn at salt event bytes.items
line_of (HookPolled number answer) = Model.HookPolled number answer
line_of (HookAbandoned number) = Model.HookAbandoned number
line_of (HookDropped number reason name) = Model.HookDropped number reason name.now
line_of (HookStarted number reason name done) = Model.HookStarted number reason name.now done
line_of (Variable name value) = Model.Variable name.now value.now
line_of (Send iface bytes taken) = Model.Send iface bytes.items taken
line_of (HostListed count) = Model.HostListed count
line_of (Row row) = Model.Row row
line_of HostListFailed = Model.HostListFailed
line_of (HostDel row done) = Model.HostDel row done
line_of (HostAdd row done) = Model.HostAdd row done
line_of (Until moment) = Model.Until moment
line_of (Hold iface net) = Model.Hold iface net
line_of EndOfLife = Model.EndOfLife

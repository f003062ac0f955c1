-- The text of a line that may stand after the head is that of this line.
use Rattle.std.proofs.Common.{ℕ, List, refl}
use Rattle.std.proofs.lemmas.Bool.{and_parts, leb-true}
use Rattle.net_types.specs.AddressText.{FitsNet, ip6_text}
use Rattle.net_types.specs.declared.address.Net.{Net}
use Rattle.net_types.specs.declared.address.Net.TheVariants.{V4, V6}
use Rattle.net_types.specs.declared.interface.IfIndex.{IfIndex}
use Rattle.net_types.proofs.Ip6Laws.{ip6_printed}
use Rattle.world.specs.declared.rows.HostRow.TheVariants.{Addr}
use Rattle.world.specs.declared.wakes.Event.{Event}
use Rattle.world.specs.declared.wakes.Event.TheVariants.{Duplicate}
use Rattle.world.specs.RowText.{row_text}
use Rattle.world.specs.Rows.{IsNet, IsRow}
use Rattle.script_model.specs.Lines.{Line, event_text, line_words}
use Rattle.script_model.specs.Lines as Model
use Rattle.script_model.specs.TurnSpellings.{SpellsEvent}
use Rattle.script_model.proofs.SpelledRows.{row_printed}
use Rattle.transcript_text.specs.Fits.{FitsEvent}
use Rattle.transcript_lines.specs.Bounds.{FitsTold}
use Rattle.transcript_lines.specs.LineSpellings.{IsTold, SpellsHeld, SpellsLine}

event_spelled : (event : Event) (bytes : List ℕ) → FitsEvent event bytes → SpellsEvent (event_text event bytes) event bytes
event_spelled (Duplicate iface addr) bytes fits = record { address = ip6_text addr; spelled = refl; spells = ip6_printed addr fits.1 }
event_spelled _ bytes fits = refl

net_is : (net : Net) → FitsNet net → IsNet net
net_is (V4 net) fits = (fits.address, fits.prefix)
net_is (V6 net) fits = (fits.address, fits.prefix)

-- an address on an interface of a host is a row
held_row : (iface : IfIndex) (net : Net) → FitsTold (Model.Hold iface net) → IsRow (Addr iface net)
held_row iface net told =
    let within = and_parts _ _ told.told in
    ((leb-true 1 iface.number within.0, leb-true iface.number 64 within.1), net_is net told.fits.1)

held_spelled : (iface : IfIndex) (net : Net) → FitsTold (Model.Hold iface net) → SpellsHeld (line_words (Model.Hold iface net)) iface net
unfolding line_words row_text
held_spelled iface net told = record { words = row_text (Addr iface net); spelled = refl; spells = row_printed (Addr iface net) (held_row iface net told) }

line_spelled : (line : Line) → FitsTold line → SpellsLine (line_words line) line
unfolding line_words
line_spelled (Model.Row row) told = record { words = row_text row; spelled = refl; spells = row_printed row told.fits }
line_spelled (Model.HostDel row done) told = record { words = row_text row; spelled = refl; spells = row_printed row told.fits }
line_spelled (Model.HostAdd row done) told = record { words = row_text row; spelled = refl; spells = row_printed row told.fits }
line_spelled (Model.Turn at salt event bytes) told =
    record { event = event_text event bytes; spelled = refl; spells = event_spelled event bytes told.fits.2 }
line_spelled (Model.Hold iface net) told = held_spelled iface net told
line_spelled _ told = refl

pub line_told : (line : Line) → FitsTold line → IsTold (line_words line) line
line_told line told = record { spells = line_spelled line told; fits = told }

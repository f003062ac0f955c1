-- What a server's message says in an exchange of the interface.
use Rattle.std.specs.Prelude.{ℕ, List, Option, Some, None, option_map, ◌==◌, if◌then◌else◌}
use Rattle.world.specs.declared.wakes.Event.{Event}
use Rattle.world.specs.declared.wakes.Event.TheVariants.{Frame}
use Rattle.v4_frames.specs.Heard.{HeardMessage, heard4_in}
use Rattle.v4_client.specs.declared.states.Answer4.{Answer4}
use Rattle.v4_client.specs.declared.states.Answer4.TheVariants.{Nothing}
use Rattle.v4_client.specs.declared.states.Exchange4.{Exchange4}
use Rattle.v4_client.specs.Answers.{reply_in}
use Rattle.v4_client.specs.Messages.{Arrival}
use Rattle.v4_client.specs.Settings.{SettingsContent}
use Rattle.evidence_words.specs.ClientModel.ClientSettings.{settings_of}
use Rattle.evidence_words.specs.ClientModel.Dhcp4Steps.{arrival_at}
use Rattle.evidence_words.specs.Entries.{Entry}
use Rattle.evidence_words.specs.Inputs.{Site, index_at}

-- the server's message that came in on the interface
abbrev pub message_on : Site → Event → List ℕ → Option HeardMessage
message_on site (Frame other len) bytes = if index_at site == other then heard4_in site.managed.spec.mac bytes else None
message_on site _ bytes = None

-- with the moment of the turn
abbrev pub arrival_in : Site → Entry → Option Arrival
arrival_in site e = option_map (arrival_at e.moment) (message_on site e.event e.bytes)

abbrev pub reply_by : SettingsContent → Exchange4 → Option Arrival → Answer4
reply_by settings exchange None = Nothing
reply_by settings exchange (Some arrival) = reply_in settings arrival exchange

-- what the input of a turn says in an exchange: an ACK with its terms, or a NAK, where it is acceptable
abbrev pub reply_at : Site → Exchange4 → Entry → Answer4
reply_at site exchange e = reply_by (settings_of site.duid site.managed) exchange (arrival_in site e)

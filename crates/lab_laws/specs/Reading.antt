-- What the peer of a lab reads in the frames of a client, over its life (RFC 2131, section 4.4.1, table 5).
use Rattle.std.specs.Prelude.{◌≡◌, ℕ, true, List, [], Some, None}
use Rattle.std.specs.List.{AllByRecursion, Contains}
use Rattle.net_types.specs.declared.address.Mac.{Mac}
use Rattle.settings.specs.declared.interfaces.Managed.{Managed}
use Rattle.v4_client.specs.Saying.{sent_of}
use Rattle.client_model.specs.Clients.{frame_of}
use Rattle.client_model.specs.ClientSettings.{ask_of}
use Rattle.client_model.specs.IfaceTurns.{Turn}
use Rattle.client_model.specs.KeptLeases.{Beginning}
use Rattle.client_model.specs.Messages.{Said, Arp, Dhcp4, Dhcp6}
use Rattle.lab_peer.specs.ClientFrames.{client_sent}
use Rattle.lab_schedule.specs.declared.event.LabEvent.{LabEvent}
use Rattle.lab_schedule.specs.Schedules.{Schedule}
use Rattle.lab_model.specs.Exchanges.{xids_unlike}
use Rattle.lab_model.specs.Labs.{lab_after, lab_opened}
use Rattle.lab_laws.specs.LabClients.{AreClients, FitsStart, FitsTurn}
use Rattle.lab_laws.specs.Lives.{start_in, turns_onto}
use Rattle.lab_laws.specs.Messages.{Start, messages_after, step_after}
use Rattle.lab_laws.specs.Numbers.{are_unlike, numbers}

-- A frame with a message of DHCPv4 is read as that message, of this hardware address. No other one is a client's.
abbrev pub IsReadAs : (mac : Mac) → Said → (frame : List ℕ) → Type 0
IsReadAs mac (Dhcp4 say) frame = (client_sent frame ≡ Some (sent_of say)) × (say.said.mac ≡ mac)
IsReadAs mac (Arp say) frame = client_sent frame ≡ None
IsReadAs mac (Dhcp6 sent) frame = client_sent frame ≡ None

abbrev pub IsReadFrom : Beginning → Said → Type 0
IsReadFrom beginning say =
    IsReadAs beginning.managed.spec.mac say
    (frame_of beginning.managed.spec (ask_of beginning.duid beginning.managed) say)

-- In each life the peer reads what an interface says.
abbrev pub EachMessageIsRead : Type 0
EachMessageIsRead = (start : Start) (turns : List Turn) → FitsStart start → AllByRecursion FitsTurn turns
    → AllByRecursion (IsReadFrom start.beginning) (step_after start turns).said

-- Where no exchange of the whole lab has the number of another one of its interface, no number of a client comes again.
abbrev pub NumbersAreUnlike : Type 0
NumbersAreUnlike = (managed : List Managed) (schedule : Schedule) (events : List LabEvent) → AreClients managed
    → let first = (lab_opened managed schedule).lab in
    AllByRecursion FitsTurn (turns_onto events first [])
    → xids_unlike (lab_after events first).sent ≡ true
    → (one : Managed) → Contains managed one
    → are_unlike (numbers (messages_after (start_in schedule managed one) (turns_onto events first []))) ≡ true

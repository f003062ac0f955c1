-- What is read in frames as the client's own: each message that it says, and no other one (RFC 2131, sections 2, 4.1
-- and 4.4.1, table 5).
use Rattle.std.specs.Prelude.{◌≡◌, ℕ, Bool, true, false, ◌&&◌, ◌==◌, if◌then◌else◌, List, [], ◌∷◌, Option, Some, None, is_some}
use Rattle.std.specs.List.{AllByRecursion}
use Rattle.net_types.specs.declared.address.Mac.{Mac}
use Rattle.v4_message.specs.Requests.{AskContent}
use Rattle.v4_message.specs.declared.writing.Kind4.{Kind4}
use Rattle.v4_message.specs.declared.writing.Kind4.TheVariants.{Discover, Request, Decline, Release}
use Rattle.v4_message.specs.declared.writing.Said4.{Said4}
use Rattle.v4_frames.specs.declared.sent.Sent4.{Sent4}
use Rattle.v4_frames.specs.declared.speaker.TheConstants.{BROADCAST_FLAG}
use Rattle.v4_frames.specs.Spelled as dhcp4
use Rattle.v4_client.specs.Saying.{discover, sent_of}
use Rattle.settings.specs.declared.interfaces.Managed.{Managed}
use Rattle.evidence_words.specs.ClientModel.ClientSettings.{ask_of, site_of}
use Rattle.evidence_words.specs.ClientModel.Clients.{frame_of}
use Rattle.evidence_words.specs.ClientModel.Fitting.{FitsBeginning}
use Rattle.evidence_words.specs.ClientModel.IfaceTurns.{iface_turned}
use Rattle.evidence_words.specs.ClientModel.KeptLeases.{Beginning}
use Rattle.evidence_words.specs.ClientModel.Messages.{Said, Arp, Dhcp4, Dhcp6}
use Rattle.evidence_words.specs.Entries.{Offer}
use Rattle.evidence_words.specs.IfaceLives.{IsLived, Met, Opening, iface_after, opens}
use Rattle.evidence_words.specs.Inputs.{Site}
use Rattle.lease_evidence.specs.Exchanges.{message_of}
use Rattle.lease_evidence.specs.HeldLeases.{KeepsTyped}
use Rattle.lease_evidence.specs.OwnMessages.{own_in, speaker_of}
use Rattle.lease_evidence.specs.SevenTurns.{duid, interface}

-- ---- each message of the client

-- what an interface said last: in its newest turn, or in its opening
abbrev pub said_last : List Mac → Beginning → Opening → List Met → List Said
said_last own beginning opening [] = (opens beginning opening).said
said_last own beginning opening (met ∷ mets) = (iface_turned own met.turn (iface_after own beginning opening mets)).said

-- what is read in the frame of what the interface says
abbrev pub read_of : Managed → (duid : List ℕ) → Said → Option Sent4
read_of managed duid say =
    own_in (speaker_of managed) (ask_of duid managed) (frame_of managed.spec (ask_of duid managed) say)

-- A message of DHCPv4 is read as it is, and in all else there is none.
abbrev pub IsReadAsOwn : Managed → (duid : List ℕ) → Said → Type 0
IsReadAsOwn managed duid (Dhcp4 say) = read_of managed duid (Dhcp4 say) ≡ Some (sent_of say)
IsReadAsOwn managed duid (Arp say) = read_of managed duid (Arp say) ≡ None
IsReadAsOwn managed duid (Dhcp6 sent) = read_of managed duid (Dhcp6 sent) ≡ None

-- So it is over every life of an interface.
abbrev pub EachMessageIsOwn : Type 0
EachMessageIsOwn = (own : List Mac) (beginning : Beginning) (opening : Opening) (mets : List Met)
    → FitsBeginning beginning → KeepsTyped beginning → IsLived own beginning opening mets
    → AllByRecursion (IsReadAsOwn beginning.managed beginning.duid) (said_last own beginning opening mets)

-- ---- no other message

-- A client that has no address yet may have to ask for answers by broadcast.
abbrev pub awaits_address : Said4 → Kind4 → Bool
awaits_address said Discover = true
awaits_address said Request = said.ciaddr.number == 0
awaits_address said Decline = false
awaits_address said Release = false

-- the flags that it sets, where answers by broadcast are configured
abbrev pub flags_wanted : (broadcast : Bool) → Said4 → ℕ
flags_wanted broadcast said = if awaits_address said said.kind && broadcast then BROADCAST_FLAG else 0

-- A DISCOVER, and the REQUEST that takes an offer, tell how long it has been asking.
abbrev pub tells_seconds : Said4 → Kind4 → Bool
tells_seconds said Discover = true
tells_seconds said Request = is_some said.server
tells_seconds said Decline = false
tells_seconds said Release = false

-- The frame is that of the message with the options as configured, byte for byte. It has the hardware address of the
-- interface, the flags as configured and no seconds but in such messages, and comes from the client's own address, or
-- from none and then goes to everyone.
pub record IsOwnFrame (site : Site) (frame : List ℕ) (sent : Sent4) : Type 0 where
  pub spelled : frame ≡ dhcp4.frame_of (ask_of site.duid site.managed) sent
  pub mac : sent.said.mac ≡ site.managed.spec.mac
  pub source : sent.ends.from_mac ≡ site.managed.spec.mac
  pub flags : sent.said.flags ≡ flags_wanted site.managed.conf.flags.broadcast sent.said
  pub secs : tells_seconds sent.said sent.said.kind ≡ false → sent.said.secs ≡ 0
  pub from : sent.ends.from.number ≡ sent.said.ciaddr.number
  pub to : sent.said.ciaddr.number ≡ 0 → sent.ends.to.number ≡ 0xffffffff

abbrev pub OwnFramesAlone : Type 0
OwnFramesAlone = (site : Site) (offer : Offer) (sent : Sent4)
    → message_of site offer ≡ Some sent → IsOwnFrame site offer.bytes sent

-- ---- an example

-- the first DISCOVER of an interface
abbrev pub first_discover : Sent4
first_discover = sent_of (discover (site_of interface) 1 0)

-- with another hardware address
abbrev pub discover_from : Mac → Sent4
discover_from mac = record {
  ends = record first_discover.ends { from_mac = mac };
  said = record first_discover.said { mac = mac };
}

-- with other flags
abbrev pub discover_with : (flags : ℕ) → Sent4
discover_with flags = record { ends = first_discover.ends; said = record first_discover.said { flags = flags } }

abbrev pub configured : AskContent
configured = ask_of duid interface

-- without the list of the options that are asked for
abbrev pub without_list : AskContent
without_list = record configured { list = [] }

-- what the interface reads as its own in a frame
abbrev pub own_read : AskContent → Sent4 → Option Sent4
own_read ask sent = own_in (speaker_of interface) configured (dhcp4.frame_of ask sent)

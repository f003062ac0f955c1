-- What is read in frames as the client's own messages of DHCPv6 (RFC 8415, sections 16, 18.2 and 21.14).
use Rattle.std.specs.Prelude.{◌≡◌, ℕ, List, map, Some}
use Rattle.v6_options.specs.declared.ia.IaKind.{IaKind}
use Rattle.v6_message.specs.declared.kind.Kind6.{Kind6}
use Rattle.v6_message.specs.declared.kind.Kind6.TheVariants as kind
use Rattle.v6_message.specs.Requests.{AskedContent}
use Rattle.v6_frames.specs.Spelled.{Sent6, frame6_of}
use Rattle.v6_client.specs.V6Items.declared.asks.IaAsk.{IaAsk}
use Rattle.v6_client.specs.V6Items.Asking.{ia_solicited}
use Rattle.lease_evidence.specs.EvidenceWords.Entries.{Offer}
use Rattle.lease_evidence.specs.EvidenceWords.Inputs.{Site}
use Rattle.lease6_evidence.specs.Exchanges6.{message6_of}
use Rattle.lease6_evidence.specs.OwnMessages6.{is_rapid}
use Rattle.lease6_evidence.specs.Replies6.{asks_at}

-- the IAs of a message, and those that are asked for
abbrev pub ias_named : List AskedContent → List (IaKind × ℕ)
ias_named ias = map (λ ia. (ia.kind, ia.iaid)) ias

abbrev pub ias_wanted : List IaAsk → List (IaKind × ℕ)
ias_wanted asks = map (λ ask. (ask.kind, ask.iaid)) asks

-- Each that is asked for stands in a message, in order, and in a SOLICIT with the prefix that is wished for.
abbrev pub NamesAll : Kind6 → List IaAsk → List AskedContent → Type 0
NamesAll kind.Solicit asks ias = ias ≡ map ia_solicited asks
NamesAll kind.Request asks ias = ias_named ias ≡ ias_wanted asks
NamesAll kind.Renew asks ias = ias_named ias ≡ ias_wanted asks
NamesAll kind.Rebind asks ias = ias_named ias ≡ ias_wanted asks
NamesAll kind.Release asks ias = Unit {0}
NamesAll kind.Decline asks ias = Unit {0}

-- The frame is that of the message, byte for byte. It has the hardware address of the interface and the DUID of the
-- host, asks for a Reply at once where that is configured, and names the IAs that are configured.
pub record IsOwnFrame6 (site : Site) (frame : List ℕ) (sent : Sent6) : Type 0 where
  pub spelled : frame ≡ frame6_of sent
  pub mac : sent.mac ≡ site.managed.spec.mac
  pub client : sent.said.client ≡ site.duid
  pub rapid : sent.said.rapid ≡ is_rapid sent.said.kind site.managed.conf.dhcp6.rapid
  pub names : NamesAll sent.said.kind (asks_at site) sent.said.ias

abbrev pub OwnFrames6Alone : Type 0
OwnFrames6Alone = (site : Site) (offer : Offer) (sent : Sent6)
    → message6_of site offer ≡ Some sent → IsOwnFrame6 site offer.bytes sent

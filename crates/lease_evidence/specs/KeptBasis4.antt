-- Why the lease that was kept may be held while a server is asked to confirm it (RFC 2131, sections 3.2 and 4.3.2).
use Rattle.std.specs.Prelude.{◌≡◌, ℕ, Bool, true, List, Option, Some, None, IfSome, is_some}
use Rattle.std.specs.List.{AllByRecursion, list_any}
use Rattle.machine.specs.Since.{Since, Always}
use Rattle.net_types.specs.declared.address.Ip4.{Ip4}
use Rattle.net_types.specs.declared.address.Net.{Net}
use Rattle.net_types.specs.declared.address.Net.TheVariants.{V4}
use Rattle.lease_text.specs.declared.lease.Terms4.{Terms4}
use Rattle.lease_text.specs.Leases.{LeaseContent}
use Rattle.v4_message.specs.declared.writing.Kind4.TheVariants.{Request}
use Rattle.v4_frames.specs.declared.sent.Sent4.{Sent4}
use Rattle.v4_client.specs.Answers.{is_unexpired}
use Rattle.v4_client.specs.Saying.{no_address}
use Rattle.evidence_words.specs.Entries.{Entry}
use Rattle.evidence_words.specs.Inputs.{Site, StaysOn, has_carrier}
use Rattle.lease_evidence.specs.Exchanges.{Numbered, messages_at}
use Rattle.lease_evidence.specs.LeaseBasis.{GoodAck, GoodNak}

-- ---- what the interface says

-- a REQUEST that asks for an address again: it names the address, but no server, and the client has no address yet
pub record AsksAgain (xid : ℕ) (address : Ip4) (sent : Sent4) : Type 0 where
  pub kind : sent.said.kind ≡ Request
  pub same_xid : sent.said.xid ≡ xid
  pub names : sent.said.asked ≡ Some address
  pub no_server : sent.said.server ≡ None
  pub none_yet : sent.said.ciaddr ≡ no_address

-- the interface says no other DHCPv4 message in a turn
abbrev pub AsksAlone : Site → (xid : ℕ) → Ip4 → Entry → List Entry → Type 0
AsksAlone site xid address e past =
    AllByRecursion (λ message. IfSome message (AsksAgain xid address)) (messages_at site e)

-- whether it says one
abbrev pub speaks : Site → Entry → Bool
speaks site e = list_any is_some (messages_at site e)

-- ---- what it hears

-- an acceptable ACK in this exchange
pub record IsAcknowledged (site : Site) (opened : Numbered) (e : Entry) (past : List Entry) : Type 0 where
  pub terms : Terms4
  pub good : GoodAck site opened terms e past

-- some turn is as Q says
abbrev pub Sometime : (Q : Entry → List Entry → Type 0) → List Entry → Type 0
Sometime Q past = Since (λ e earlier. Unit {0}) Q past

-- An acceptable NAK comes after an acceptable ACK in its exchange alone.
abbrev pub IsUnrefused : Site → Entry → List Entry → Type 0
IsUnrefused site e past = (opened : Numbered) → GoodNak site opened e past → Sometime (IsAcknowledged site opened) past

-- ---- the basis

-- `persistent` is in force, and the lease that was kept for the interface tells its origin, gives the address and isn't
-- over now. The carrier is up and never went, and neither a release nor a stop came. Each DHCPv4 message of this life,
-- and there was one, is a REQUEST of one exchange for the address, and the exchange isn't refused.
pub record KeptBasis4 (site : Site) (net : Net) (now : ℕ) (past : List Entry) : Type 0 where
  pub persistent : site.managed.conf.flags.persistent ≡ true
  pub lease : LeaseContent
  pub kept : site.kept4 ≡ Some lease
  pub told : is_some lease.origin ≡ true
  pub gives : net ≡ V4 lease.net
  pub unexpired : is_unexpired lease.first lease.lease now ≡ true
  pub up : has_carrier site past ≡ true
  pub stays : Always (StaysOn site) past
  pub xid : ℕ
  pub asks : Always (AsksAlone site xid lease.net.ip) past
  pub asked : list_any (speaks site) past ≡ true
  pub unrefused : Always (IsUnrefused site) past

-- Why an item of the lease that was kept may be held while servers are asked for it again (RFC 8415, section 18.2.12).
use Rattle.std.specs.Prelude.{◌≡◌, ℕ, ◌+◌, ◌<◌, Bool, true, false, List, Some, IfSome, is_some}
use Rattle.std.specs.List.{AllByRecursion, Contains, list_any}
use Rattle.machine.specs.Since.{Since, Always}
use Rattle.net_types.specs.declared.address.Net.{Net}
use Rattle.net_types.specs.declared.address.Net.TheVariants.{V6}
use Rattle.net_types.specs.declared.address.Net6.{Net6}
use Rattle.v6_options.specs.declared.ia.IaKind.TheVariants.{Na}
use Rattle.v6_message.specs.declared.kind.Kind6.TheVariants.{Rebind}
use Rattle.v6_message.specs.Replies.{Content6}
use Rattle.v6_frames.specs.Spelled.{Sent6}
use Rattle.lease6_text.specs.declared.lease.Item6.{Item6}
use Rattle.lease6_text.specs.Leases.{IaLeaseContent, Lease6Content}
use Rattle.v6_client.specs.V6Items.declared.asks.IaAsk.{IaAsk}
use Rattle.v6_client.specs.declared.times.TheConstants.{RESTART_TIME}
use Rattle.v6_client.specs.V6Items.Items.{is_live}
use Rattle.lease_evidence.specs.EvidenceWords.Entries.{Entry}
use Rattle.lease_evidence.specs.EvidenceWords.Inputs.{Site, StaysOn, has_carrier}
use Rattle.lease6_evidence.specs.Exchanges6.{Numbered6, messages6_at}
use Rattle.lease6_evidence.specs.Replies6.{GoodReply}

-- ---- what the interface says

-- a REBIND of this transaction id
pub record IsRebind (xid : ℕ) (sent : Sent6) : Type 0 where
  pub kind : sent.said.kind ≡ Rebind
  pub same_xid : sent.said.xid ≡ xid

-- the interface says no other DHCPv6 message in a turn
abbrev pub RebindsAlone : Site → (xid : ℕ) → Entry → List Entry → Type 0
RebindsAlone site xid e past = AllByRecursion (λ message. IfSome message (IsRebind xid)) (messages6_at site e)

-- whether it says one
abbrev pub speaks6 : Site → Entry → Bool
speaks6 site e = list_any is_some (messages6_at site e)

-- it says none
abbrev pub SaysNone6 : Site → Entry → List Entry → Type 0
SaysNone6 site e past = speaks6 site e ≡ false

-- It says its first DHCPv6 message of this life, less than ten seconds before now.
pub record StartsAsking (site : Site) (xid now : ℕ) (e : Entry) (past : List Entry) : Type 0 where
  pub speaks : speaks6 site e ≡ true
  pub alone : RebindsAlone site xid e past
  pub first : Always (SaysNone6 site) past
  pub soon : now < e.moment + RESTART_TIME

-- no good Reply comes
abbrev pub HearsNoReply : Site → Entry → List Entry → Type 0
HearsNoReply site e past = (opened : Numbered6) (message : Content6) → GoodReply site opened message e past → ⊥

-- Each of its DHCPv6 messages of this life is a REBIND of one exchange, which began less than ten seconds ago and has
-- had no good Reply.
pub record IsAskingAgain (site : Site) (now : ℕ) (past : List Entry) : Type 0 where
  pub xid : ℕ
  pub since : Since (RebindsAlone site xid) (StartsAsking site xid now) past
  pub unanswered : Always (HearsNoReply site) past

-- ---- the basis

-- the lease has the item in an IA of this kind and IAID, and its valid lifetime isn't over now
pub record HasLiveItem (lease : Lease6Content) (ask : IaAsk) (net : Net6) (now : ℕ) : Type 0 where
  pub ia : IaLeaseContent
  pub among : Contains lease.ias ia
  pub kind : ia.kind ≡ ask.kind
  pub iaid : ia.iaid ≡ ask.iaid
  pub item : Item6
  pub of_ia : Contains ia.items item
  pub is_item : item.net ≡ net
  pub live : is_live now item ≡ true

-- `persistent` is in force, and the lease that was kept for the interface tells its origin and has the item. The
-- carrier is up and never went, and neither a release nor a stop came. Servers are being asked for the lease again.
pub record KeptBasis6 (site : Site) (ask : IaAsk) (net : Net6) (now : ℕ) (past : List Entry) : Type 0 where
  pub persistent : site.managed.conf.flags.persistent ≡ true
  pub lease : Lease6Content
  pub kept : site.kept6 ≡ Some lease
  pub told : is_some lease.origin ≡ true
  pub item : HasLiveItem lease ask net now
  pub up : has_carrier site past ≡ true
  pub stays : Always (StaysOn site) past
  pub asking : IsAskingAgain site now past

-- an address of an IA_NA of such a lease
pub record KeptAddress6 (site : Site) (net : Net) (now : ℕ) (past : List Entry) : Type 0 where
  pub ask : IaAsk
  pub is_address : ask.kind ≡ Na
  pub item : Net6
  pub is_item : net ≡ V6 item
  pub basis : KeptBasis6 site ask item now past

-- What the basis of an item of a kept lease can't do without, in other words than the basis has.
use Rattle.std.specs.Prelude.{◌≡◌, ◌≢◌, ℕ, ◌+◌, ◌≤◌, false, true, List, ◌∷◌, ◌++◌, Option, None, Some, IfSome}
use Rattle.std.specs.List.{Contains}
use Rattle.machine.specs.Since.{Always}
use Rattle.net_types.specs.declared.address.Net6.{Net6}
use Rattle.v6_message.specs.declared.kind.Kind6.TheVariants.{Rebind}
use Rattle.v6_message.specs.Replies.{Content6}
use Rattle.v6_frames.specs.Spelled.{Sent6}
use Rattle.lease6_text.specs.declared.lease.Item6.{Item6}
use Rattle.lease6_text.specs.Leases.{IaLeaseContent, Lease6Content}
use Rattle.v6_client.specs.V6Items.declared.asks.IaAsk.{IaAsk}
use Rattle.v6_client.specs.declared.times.TheConstants.{RESTART_TIME}
use Rattle.lease_evidence.specs.EvidenceWords.Entries.{Entry}
use Rattle.lease_evidence.specs.EvidenceWords.Inputs.{Site}
use Rattle.lease6_evidence.specs.Ends6.{ItemWord}
use Rattle.lease6_evidence.specs.Exchanges6.{Numbered6, messages6_at}
use Rattle.lease6_evidence.specs.KeptBasis6.{KeptBasis6, SaysNone6, speaks6}
use Rattle.lease6_evidence.specs.Replies6.{GoodReply}

-- Where it is so, no item of a kept lease has its basis.
abbrev pub KeptGivesNothing : (Where : Site → IaAsk → Net6 → (now : ℕ) → List Entry → Type 0) → Type 0
KeptGivesNothing Where = (site : Site) (ask : IaAsk) (net : Net6) (now : ℕ) (past : List Entry)
    → Where site ask net now past → KeptBasis6 site ask net now past → ⊥

-- ---- the settings and the lease

-- `persistent` isn't in force
abbrev pub NeedsFlag6 : Type 0
NeedsFlag6 = KeptGivesNothing (λ site ask net now past. site.managed.conf.flags.persistent ≡ false)

-- no lease was kept, or one that doesn't tell where it is from
abbrev pub HasNoOrigin : Site → Type 0
HasNoOrigin site = IfSome site.kept6 (λ lease. lease.origin ≡ None)

abbrev pub NeedsOrigin6 : Type 0
NeedsOrigin6 = KeptGivesNothing (λ site ask net now past. HasNoOrigin site)

-- an item of the lease, in an IA of this kind and IAID
pub record IsItemOf (lease : Lease6Content) (ask : IaAsk) (item : Item6) : Type 0 where
  pub ia : IaLeaseContent
  pub among : Contains lease.ias ia
  pub kind : ia.kind ≡ ask.kind
  pub iaid : ia.iaid ≡ ask.iaid
  pub of_ia : Contains ia.items item

-- the lease that was kept hasn't the item
abbrev pub NeedsKeptItem : Type 0
NeedsKeptItem =
    KeptGivesNothing (λ site ask net now past. (lease : Lease6Content) (item : Item6) → site.kept6 ≡ Some lease
    → IsItemOf lease ask item → item.net ≢ net)

-- a moment that has come
pub record HasCome (until : Option ℕ) (now : ℕ) : Type 0 where
  pub moment : ℕ
  pub is_moment : until ≡ Some moment
  pub come : moment ≤ now

-- the item's valid lifetime is over
abbrev pub NeedsLiveItem : Type 0
NeedsLiveItem =
    KeptGivesNothing (λ site ask net now past. (lease : Lease6Content) (item : Item6) → site.kept6 ≡ Some lease
    → IsItemOf lease ask item → item.net ≡ net → HasCome item.valid now)

-- ---- what came

-- After a turn that takes it away it has none, whatever comes later.
abbrev pub EndsKeptBy : (Takes : ItemWord) → Type 0
EndsKeptBy Takes =
    (site : Site) (ask : IaAsk) (net : Net6) (now : ℕ) (past later : List Entry) (e : Entry) (earlier : List Entry)
    → past ≡ later ++ e ∷ earlier → Takes site ask net e earlier → KeptBasis6 site ask net now past → ⊥

-- a good Reply came, whatever it says
pub record IsAnswered6 (site : Site) (ask : IaAsk) (net : Net6) (e : Entry) (past : List Entry) : Type 0 where
  pub opened : Numbered6
  pub message : Content6
  pub good : GoodReply site opened message e past

-- ---- what was said

-- no DHCPv6 message
abbrev pub NeedsMessage6 : Type 0
NeedsMessage6 = KeptGivesNothing (λ site ask net now past. Always (SaysNone6 site) past)

-- the interface says this message in one of some turns
pub record Says6 (site : Site) (past : List Entry) (sent : Sent6) : Type 0 where
  pub e : Entry
  pub among : Contains past e
  pub said : Contains (messages6_at site e) (Some sent)

-- another message than a REBIND
pub record SaysOther6 (site : Site) (past : List Entry) : Type 0 where
  pub sent : Sent6
  pub says : Says6 site past sent
  pub other : sent.said.kind ≢ Rebind

abbrev pub NeedsRebind6 : Type 0
NeedsRebind6 = KeptGivesNothing (λ site ask net now past. SaysOther6 site past)

-- two messages of unlike transaction ids
pub record SaysTwo6 (site : Site) (past : List Entry) : Type 0 where
  pub one : Sent6
  pub other : Sent6
  pub says_one : Says6 site past one
  pub says_other : Says6 site past other
  pub unlike : one.said.xid ≢ other.said.xid

abbrev pub NeedsOneExchange : Type 0
NeedsOneExchange = KeptGivesNothing (λ site ask net now past. SaysTwo6 site past)

-- the first message was said ten seconds ago, or earlier
pub record IsLate6 (site : Site) (now : ℕ) (past : List Entry) : Type 0 where
  pub later : List Entry
  pub e : Entry
  pub earlier : List Entry
  pub cut : past ≡ later ++ e ∷ earlier
  pub speaks : speaks6 site e ≡ true
  pub first : Always (SaysNone6 site) earlier
  pub late : e.moment + RESTART_TIME ≤ now

abbrev pub NeedsItsTime : Type 0
NeedsItsTime = KeptGivesNothing (λ site ask net now past. IsLate6 site now past)

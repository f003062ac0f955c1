-- Where a kept DHCPv6 lease comes from, by what the client of its interface did.
use Rattle.std.specs.Prelude.{◌≡◌, ◌⊎◌, ℕ, List, Option, Some}
use Rattle.std.specs.List.{Contains}
use Rattle.machine.specs.Since.{Since, Always}
use Rattle.net_types.specs.declared.address.Mac.{Mac}
use Rattle.v6_options.specs.declared.ia.IaKind.{IaKind}
use Rattle.v6_message.specs.Replies.{Content6}
use Rattle.lease_text.specs.declared.lease.Origin.{Origin}
use Rattle.lease6_text.specs.declared.lease.Item6.{Item6}
use Rattle.lease6_text.specs.Leases.{IaLeaseContent, Lease6Content}
use Rattle.v6_client.specs.Clients.{ClientContent}
use Rattle.v6_client.specs.Laws.{IsGranting}
use Rattle.v6_client.specs.Moves.{lease_with}
use Rattle.v6_client.specs.Runs.{tick_turned}
use Rattle.client_model.specs.declared.interfaces.Iface.{Iface}
use Rattle.client_model.specs.KeptLeases.{Beginning}
use Rattle.evidence_words.specs.IfaceLives.{Opening, Met, entry_of, iface_after, site_of}
use Rattle.evidence_words.specs.Inputs.{Site}
use Rattle.lease6_evidence.specs.Replies6.{message6_at}

-- an interface's hardware address, and a moment
abbrev pub origin_at : Site → (at : ℕ) → Origin
origin_at site at = record { mac = site.managed.spec.mac; confirmed = at }

-- an IA of this kind and IAID has the item
pub record HasItem (ias : List IaLeaseContent) (kind : IaKind) (iaid : ℕ) (item : Item6) : Type 0 where
  pub ia : IaLeaseContent
  pub among : Contains ias ia
  pub same_kind : ia.kind ≡ kind
  pub same_iaid : ia.iaid ≡ iaid
  pub of_ia : Contains ia.items item

-- it is this lease, of which items may have gone
pub record IsLeftOf (given lease : Lease6Content) : Type 0 where
  pub rest : lease ≡ lease_with lease.ias given
  pub items : (kind : IaKind) (iaid : ℕ) (item : Item6) → HasItem lease.ias kind iaid item
      → HasItem given.ias kind iaid item

-- it is the lease that was kept, or what is left of it
pub record WasKept (kept : Option Lease6Content) (lease : Lease6Content) : Type 0 where
  pub before : Lease6Content
  pub was : kept ≡ Some before
  pub left : IsLeftOf before lease

-- the client of an interface when the input of a turn comes: it ticked before
abbrev pub client_at : Met → Iface → ClientContent
client_at met iface = (tick_turned met.turn.at met.turn.salt iface.dhcp6).client

-- In a turn of an interface that stood so before it, a Reply came in of the exchange that its client had open. It
-- granted the lease, or the one that this is left of, and the interface and the moment are its origin.
pub record IsGrantedIn (site : Site) (lease : Lease6Content) (met : Met) (iface : Iface) : Type 0 where
  pub message : Content6
  pub came : message6_at site (entry_of met) ≡ Some message
  pub given : Lease6Content
  pub grants : IsGranting met.turn.at message (client_at met iface) given
  pub left : IsLeftOf given lease
  pub origin : lease.origin ≡ Some (origin_at site met.turn.at)

-- no Reply granted a lease in the turn
abbrev pub GrantsNone : Site → Met → Iface → Type 0
GrantsNone site met iface = (message : Content6) (given : Lease6Content)
    → message6_at site (entry_of met) ≡ Some message → IsGranting met.turn.at message (client_at met iface) given → ⊥

-- A lease that an interface keeps after an opening and some turns is the one of its file, or what is left of it, and no
-- Reply granted another; or it is so of the one that the last such Reply granted.
abbrev pub KeptLeasesAreGranted6 : Type 0
KeptLeasesAreGranted6 = (own : List Mac) (beginning : Beginning) (opening : Opening) (mets : List Met)
    (lease : Lease6Content) → (iface_after own beginning opening mets).dhcp6.kept ≡ Some lease
    → let site : Site = site_of own beginning opening in
    let iface : List Met → Iface = iface_after own beginning opening in
    let none : Met → List Met → Type 0 = λ met earlier. GrantsNone site met (iface earlier) in
    (WasKept beginning.kept6 lease × Always none mets)
    ⊎ Since none (λ met earlier. IsGrantedIn site lease met (iface earlier)) mets

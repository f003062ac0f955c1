-- What the input of a turn means to an interface.
use Rattle.std.specs.Prelude.{◌≡◌, ◌≢◌, ℕ, Bool, true, false, ◌==◌, if◌then◌else◌, List, [], ◌∷◌, Option, Some, None}
use Rattle.std.specs.List.{list_any}
use Rattle.net_types.specs.declared.address.Ip4.{Ip4}
use Rattle.net_types.specs.declared.address.Mac.{Mac}
use Rattle.turn_model.specs.FrameLink.declared.arp.ArpView.{ArpView}
use Rattle.turn_model.specs.ArpAcd.Conflict.{is_used, is_contested}
use Rattle.turn_model.specs.LeaseText.Leases.{LeaseContent}
use Rattle.turn_model.specs.Lease6Text.Leases.{Lease6Content}
use Rattle.world.specs.declared.wakes.Event.{Event}
use Rattle.world.specs.declared.wakes.Event.TheVariants.{Frame, Carrier, Release, Stop}
use Rattle.turn_model.specs.IfaceSettings.declared.interfaces.Managed.{Managed}
use Rattle.turn_model.specs.ClientModel.IfaceTurns.{arp_heard}
use Rattle.evidence_words.specs.Entries.{Offer, Entry, offers_on}

-- what is known of an interface when a life begins: its settings, the DUID of the host, the hardware addresses of all
-- interfaces, managed or not (RFC 5227, section 2.1.1), whether it has carrier, and its own leases that were kept
pub record Site : Type 0 where
  pub managed : Managed
  pub duid : List ℕ
  pub own : List Mac
  pub up : Bool
  pub kept4 : Option LeaseContent
  pub kept6 : Option Lease6Content

abbrev pub index_at : Site → ℕ
index_at site = site.managed.spec.index.number

-- the frames of a turn that were offered on the interface
abbrev pub offers_at : Site → Entry → List Offer
offers_at site e = offers_on (index_at site) e.offers

-- the ARP packet that came in on an interface
abbrev pub arp_on : ℕ → Event → List ℕ → Option ArpView
arp_on index (Frame other len) bytes = if index == other then arp_heard bytes else None
arp_on index _ bytes = None

abbrev pub tells_use : List Mac → Ip4 → Option ArpView → Bool
tells_use own addr None = false
tells_use own addr (Some arp) = is_used own addr arp

abbrev pub tells_contest : List Mac → Ip4 → Option ArpView → Bool
tells_contest own addr None = false
tells_contest own addr (Some arp) = is_contested own addr arp

-- whether the input is an ARP packet of another host that uses the address
abbrev pub uses : Site → Ip4 → Entry → Bool
uses site addr e = tells_use site.own addr (arp_on (index_at site) e.event e.bytes)

-- whether the input is an ARP packet of another host that uses the address or probes it too
abbrev pub contests : Site → Ip4 → Entry → Bool
contests site addr e = tells_contest site.own addr (arp_on (index_at site) e.event e.bytes)

abbrev pub carrier_after : ℕ → Event → Bool → Bool
carrier_after index (Carrier other up) before = if index == other then up else before
carrier_after index _ before = before

-- whether the interface has carrier
abbrev pub has_carrier : Site → List Entry → Bool
has_carrier site [] = site.up
has_carrier site (e ∷ past) = carrier_after (index_at site) e.event (has_carrier site past)

-- No carrier is taken from an interface that has it, nothing of it is given back, and no stop comes.
abbrev pub GoesOn : (up : Bool) → ℕ → Event → Type 0
GoesOn up index (Carrier other now) = index ≡ other → up ≡ true → now ≡ true
GoesOn up index (Release other) = index ≢ other
GoesOn up index Stop = ⊥
GoesOn up index _ = Unit {0}

-- so in a turn, after those before
abbrev pub StaysOn : Site → Entry → List Entry → Type 0
StaysOn site e past = GoesOn (has_carrier site past) (index_at site) e.event

abbrev pub is_stop : Event → Bool
is_stop Stop = true
is_stop _ = false

-- whether the daemon was told to stop
abbrev pub is_stopped : List Entry → Bool
is_stopped past = list_any (λ e. is_stop e.event) past

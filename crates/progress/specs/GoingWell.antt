-- A link-local machine's life on a link that is as good as can be asked. Moments are in milliseconds.
use Rattle.std.specs.Prelude.{◌≡◌, ℕ, ◌≤◌, max, Bool, false, List, [], ◌∷◌, ◌++◌, Option, Some, None}
use Rattle.net_types.specs.declared.address.Ip4.{Ip4}
use Rattle.net_types.specs.declared.address.Mac.{Mac}
use Rattle.net_types.specs.declared.interface.IfIndex.{IfIndex}
use Rattle.frame_link.specs.declared.arp.ArpView.{ArpView}
use Rattle.arp_acd.specs.declared.detection.Phase.{Phase}
use Rattle.arp_acd.specs.declared.detection.Phase.TheVariants.{Probing, Announcing, Held, Over}
use Rattle.arp_acd.specs.Conflict.{is_used, is_contested}
use Rattle.ipv4ll.specs.declared.link_local.State.{State}
use Rattle.ipv4ll.specs.declared.link_local.State.TheVariants.{Chosen}
use Rattle.ipv4ll.specs.Table.{due_of}
use Rattle.ipv4ll.specs.History.{LlEvent, Heard, Unsent, Drop, moment, ll_after}

-- ---- woken in time

-- The moment to which a list of events has come. The newest event stands first.
abbrev pub moment_in : List LlEvent → ℕ
moment_in [] = 0
moment_in (event ∷ past) = moment event

-- no later than was asked for, and at once where that is over
abbrev pub NotAfter : (asked : Option ℕ) → (last at : ℕ) → Type 0
NotAfter None last at = Unit {0}
NotAfter (Some due) last at = at ≤ max due last

-- An event comes no later than the machine asked for, nor goes back in time.
pub record IsPrompt (own : List Mac) (iface : IfIndex) (event : LlEvent) (past : List LlEvent) : Type 0 where
  pub onward : moment_in past ≤ moment event
  pub in_time : NotAfter (due_of (ll_after own iface past).state) (moment_in past) (moment event)

-- ---- undisturbed

-- The link takes the frames: none failed.
abbrev pub LinkTakes : LlEvent → Type 0
LinkTakes (Unsent at salt) = ⊥
LinkTakes _ = Unit {0}

-- The carrier stays, and nothing else takes the machine away.
abbrev pub CarrierStays : LlEvent → Type 0
CarrierStays (Drop at) = ⊥
CarrierStays _ = Unit {0}

-- Whether a packet contests an address: while it is probed, another host's use or probe of it (RFC 5227, section
-- 2.1.1); later its use alone (section 2.4).
abbrev pub contests_in : List Mac → Ip4 → Phase → ArpView → Bool
contests_in own addr (Probing sent due) arp = is_contested own addr arp
contests_in own addr (Announcing due last) arp = is_used own addr arp
contests_in own addr (Held last) arp = is_used own addr arp
contests_in own addr Over arp = false

-- no packet contests the address that is chosen
abbrev pub IsUncontested : List Mac → State → ArpView → Type 0
IsUncontested own (Chosen conflicts acd) arp = contests_in own acd.addr acd.phase arp ≡ false
IsUncontested own _ arp = Unit {0}

-- Nobody contests the choice (RFC 3927, sections 2.2.1 and 2.5).
abbrev pub NobodyContests : List Mac → State → LlEvent → Type 0
NobodyContests own state (Heard arp at salt) = IsUncontested own state arp
NobodyContests own state _ = Unit {0}

pub record IsFair (own : List Mac) (iface : IfIndex) (event : LlEvent) (past : List LlEvent) : Type 0 where
  pub taken : LinkTakes event
  pub up : CarrierStays event
  pub alone : NobodyContests own (ll_after own iface past).state event

-- ---- each event of the list `later`, with `earlier` before them

abbrev pub Prompt : List Mac → IfIndex → (later earlier : List LlEvent) → Type 0
Prompt own iface [] earlier = Unit {0}
Prompt own iface (event ∷ later) earlier = IsPrompt own iface event (later ++ earlier) × Prompt own iface later earlier

abbrev pub Fair : List Mac → IfIndex → (later earlier : List LlEvent) → Type 0
Fair own iface [] earlier = Unit {0}
Fair own iface (event ∷ later) earlier = IsFair own iface event (later ++ earlier) × Fair own iface later earlier

-- What a judge of DHCPv6 leases keeps of one item: how long it is held (RFC 8415, section 18.2.10.1). Moments are in
-- milliseconds.
use Rattle.std.specs.Prelude.{ℕ, ◌+◌, ◌*◌, Bool, true, false, not, ◌&&◌, ◌||◌, ◌==◌, if◌then◌else◌, max, nat_lt, List, [], ◌∷◌, Option, Some, None}
use Rattle.std.specs.List.{list_any}
use Rattle.net_types.specs.declared.address.Ip6.{Ip6}
use Rattle.net_types.specs.declared.address.Net6.{Net6}
use Rattle.v6_options.specs.declared.ia.IaKind.{IaKind}
use Rattle.v6_options.specs.declared.ia.IaKind.TheVariants.{Na, Pd}
use Rattle.v6_options.specs.declared.ia.ItemSaid.{ItemSaid}
use Rattle.v6_options.specs.Ias.{ias_in}
use Rattle.v6_message.specs.Replies.{Content6}
use Rattle.v6_client.specs.V6Items.declared.asks.IaAsk.{IaAsk}
use Rattle.v6_client.specs.V6Items.declared.times.TheConstants.{FOREVER, SECOND}
use Rattle.v6_client.specs.V6Items.Reading.{ia_for, is_unbound}
use Rattle.world.specs.declared.wakes.Event.{Event}
use Rattle.world.specs.declared.wakes.Event.TheVariants.{Carrier, Duplicate, Release, Stop}
use Rattle.lease6_evidence.specs.EvidenceWords.Entries.{Entry}
use Rattle.lease6_evidence.specs.EvidenceWords.Inputs.{Site, index_at}
use Rattle.lease6_evidence.specs.Ends6.{said_for}
use Rattle.lease6_judge.specs.Watching.{Replied, Watch, first_reply, watch_in}

-- how long an item is held
pub data Term : Type 0 where
  not_held : Term
  held_until : ℕ → Term
  held_forever : Term

abbrev pub is_held : (now : ℕ) → Term → Bool
is_held now not_held = false
is_held now (held_until end) = nat_lt now end
is_held now held_forever = true

-- the longer one of two
abbrev pub longer : Term → Term → Term
longer not_held other = other
longer held_forever other = held_forever
longer (held_until end) not_held = held_until end
longer (held_until end) held_forever = held_forever
longer (held_until end) (held_until other) = held_until (max end other)

-- ---- what a Reply says of the item

abbrev pub is_same_net : Net6 → Net6 → Bool
is_same_net one other = (one.ip.number == other.ip.number) && (one.len == other.len)

abbrev pub term_of : (came valid : ℕ) → Term
term_of came valid = if valid == FOREVER then held_forever else held_until (came + SECOND * valid)

-- it has the item for some time
abbrev pub gives : Net6 → ItemSaid → Bool
gives net said = is_same_net said.net net && nat_lt 0 said.valid

-- the longest of its valid lifetimes
abbrev pub term_in_saids : (came : ℕ) → Net6 → List ItemSaid → Term
term_in_saids came net [] = not_held
term_in_saids came net (said ∷ saids) =
    if gives net said
    then longer (term_of came said.valid) (term_in_saids came net saids)
    else term_in_saids came net saids

abbrev pub names : Net6 → List ItemSaid → Bool
names net saids = list_any (λ said. is_same_net said.net net) saids

-- it names the item, or its server knows nothing of its IA
abbrev pub revises : IaAsk → Net6 → Content6 → Bool
revises ask net message = names net (said_for ask message) || is_unbound (ia_for ask (ias_in message.options))

-- A first Reply that says something of the item says how long it is held from then on.
abbrev pub hears : (came : ℕ) → IaAsk → Net6 → Option Replied → Term → Term
hears came ask net None term = term
hears came ask net (Some replied) term =
    if revises ask net replied.message then term_in_saids came net (said_for ask replied.message) else term

-- ---- what the interface meets

-- whether no carrier is taken from an interface that has it, nothing of it is given back, and no stop comes
abbrev pub stays : (up : Bool) → ℕ → Event → Bool
stays up index (Carrier other now) = not (index == other && up) || now
stays up index (Release other) = not (index == other)
stays up index Stop = false
stays up index _ = true

-- whether no other host is reported to use the address of an IA_NA
abbrev pub is_alone : (index : ℕ) → IaKind → Ip6 → Event → Bool
is_alone index Na ip (Duplicate other addr) = not (index == other && addr.number == ip.number)
is_alone index Na ip _ = true
is_alone index Pd ip event = true

abbrev pub is_left : Site → IaAsk → Net6 → Entry → (up : Bool) → Bool
is_left site ask net e up = stays up (index_at site) e.event && is_alone (index_at site) ask.kind net.ip e.event

abbrev pub if_left : Bool → Term → Term
if_left left term = if left then term else not_held

-- ---- turn by turn

abbrev pub term_after : Site → IaAsk → Net6 → Entry → Watch → Term → Term
term_after site ask net e watch term =
    hears e.moment ask net (first_reply site e watch) (if_left (is_left site ask net e watch.up) term)

-- how long the item is held after some turns
abbrev pub term_in : Site → IaAsk → Net6 → List Entry → Term
term_in site ask net [] = not_held
term_in site ask net (e ∷ past) = term_after site ask net e (watch_in site past) (term_in site ask net past)
